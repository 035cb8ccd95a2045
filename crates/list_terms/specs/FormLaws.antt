-- Laws of reading lines of any form.
use Rattle.std.specs.Prelude.{◌≡◌, ℕ, Bool, true, false, List, length, Option, None, Some, Result, Ok, Err, if◌then◌else◌, refl, ⊤}
use Rattle.std.proofs.Common.{◌∙◌, ap}
use Rattle.list_terms.specs.declared.TextFault.{TextFault}
use Rattle.list_terms.specs.EndLaws.{at_field, cut_allowed, field_at, whole-none, whole-token}
use Rattle.list_terms.specs.Fields.{end_line, field}
use Rattle.list_terms.specs.Forms.{Done, Field, Form, May, Number, Refused, Then, Unless, Value, any, mapped, may_end, of_first, reads, value_at, value_of}
use Rattle.list_terms.specs.StepLaws.{chain, ok_same, unless_ok}
use Rattle.list_terms.specs.Steps.{◌>>=◌, ok_map}
use Rattle.list_terms.specs.Tokens.{Cut, TokenText, all_tokens, token_at}

-- A field that was read: its token, the token's value, and the rest of the line.
pub record IsFound (f : Field) (line : List ℕ) (next : Value f × List ℕ) : Type 0 where
  pub token : TokenText
  pub at : token_at line ≡ Ok (Some (token, next.1))
  pub is : value_of f token ≡ Ok next.0

pub found : (f : Field) (line : List ℕ) (next : Value f × List ℕ) → value_at f line ≡ Ok next → IsFound f line next
unfolding value_at
found f line next e =
    let c = chain (field line) _ next e in
    let d = chain (value_of f c.value.0) _ next c.others in
    let same : (d.value, c.value.1) ≡ next = ok_same _ _ d.others in
    rw (← same) (record { token = c.value.0; at = field_at line c.value c.is; is = d.is })

-- If a guarded result is a value, the guard held.
passed_ok :
    {X E : Type 0} (test : Bool) (r : Result X E) (fault : E) (x : X) → (if test then r else Err fault) ≡ Ok x
    → (test ≡ true) × (r ≡ Ok x)
passed_ok true r fault x e = (refl, e)
passed_ok false r fault x e = absurd (cc)

-- The end of a line where one token is optional: there is none, or it passes the test.
pub data IsMay (test : TokenText → Bool) (line : List ℕ) : Type 0 where
  Nothing : token_at line ≡ Ok None → IsMay test line
  Passed : (token : TokenText) (rest : List ℕ) → token_at line ≡ Ok (Some (token, rest)) → test token ≡ true
      → end_line rest ≡ Ok tt → IsMay test line

may_is :
    {A : Type 0} (test : TokenText → Bool) (fault : TextFault) (y x : A) (line : List ℕ)
    (next : Result (Option Cut) TextFault) → token_at line ≡ next → (next >>= (λ c. may_end test fault y c)) ≡ Ok x
    → IsMay test line × (y ≡ x)
may_is test fault y x line (Err f) t e = absurd (cc)
may_is test fault y x line (Ok None) t e = (Nothing t, ok_same _ _ e)
may_is test fault y x line (Ok (Some (token, rest))) t e =
    let p = passed_ok (test token) (end_line rest >>= (λ _. Ok y)) fault x e in
    let c = chain (end_line rest) (λ _. Ok y) x p.1 in
    (Passed token rest t p.0 c.is, ok_same _ _ c.others)

may_whole : (test : TokenText → Bool) (line : List ℕ) → IsMay test line → end_line line ≡ Ok tt
may_whole test line (Nothing t) = whole-none line t
may_whole test line (Passed token rest t passes ends) = whole-token line rest token t ends

-- The inversion of an optional token at the end of a line.
pub reads_may :
    {A : Type 0} (test : TokenText → Bool) (fault : TextFault) (y x : A) (line : List ℕ)
    → reads (May test fault y) line ≡ Ok x → IsMay test line × (y ≡ x)
unfolding reads
reads_may test fault y x line e = may_is test fault y x line (token_at line) refl e

-- A line that can be read in any form consists of whole tokens.
pub reads_whole : {A : Type 0} (form : Form A) (line : List ℕ) (x : A) → reads form line ≡ Ok x → end_line line ≡ Ok tt
unfolding reads end_line
reads_whole (Done test y) line x e =
    let c = chain (all_tokens test (length line) line) _ x e in cut_allowed test (length line) line c.is
reads_whole (Then field more) line x e =
    let c = chain (value_at field line) _ x e in
    let f = found field line c.value c.is in
    whole-token line c.value.1 f.token f.at (reads_whole (more c.value.0) c.value.1 x c.others)
reads_whole (Unless wrong fault more) line x e =
    let passed = unless_ok wrong fault (reads more line) x e in reads_whole more line x passed.1
reads_whole (May test fault y) line x e =
    may_whole test line (may_is test fault y x line (token_at line) refl e).0
reads_whole (Refused fault) line x e = absurd (cc)

pub line_whole :
    {A : Type 0} (blank : A) (form : TokenText → Form A) (line : List ℕ) (x : A)
    → (next : Result (Option Cut) TextFault) → token_at line ≡ next → (next >>= (λ c. of_first blank form c)) ≡ Ok x
    → end_line line ≡ Ok tt
line_whole blank form line x (Err f) t e = absurd (cc)
line_whole blank form line x (Ok None) t e = whole-none line t
line_whole blank form line x (Ok (Some (token, rest))) t e =
    whole-token line rest token t (reads_whole (form token) rest x e)

-- Mapping the outcome of a second step maps the outcome of both.
step_mapped :
    {A B C E : Type 0} (step : Result A E) (f : B → C) (next : A → Result B E) (seen : A → Result C E)
    → ((x : A) → seen x ≡ ok_map f (next x)) → (step >>= seen) ≡ ok_map f (step >>= next)
step_mapped (Ok x) f next seen same = same x
step_mapped (Err fault) f next seen same = refl

may_mapped :
    {A B : Type 0} (f : A → B) (fault : TextFault) (x : A) (test : Bool) (end : Result (Unit {0}) TextFault)
    → (if test then end >>= (λ _. Ok (f x)) else Err fault) ≡ ok_map f (if test then end >>= (λ _. Ok x) else Err fault)
may_mapped f fault x true (Ok u) = refl
may_mapped f fault x true (Err e) = refl
may_mapped f fault x false end = refl

end_mapped :
    {A B : Type 0} (f : A → B) (test : TokenText → Bool) (fault : TextFault) (x : A) (next : Option Cut)
    → may_end test fault (f x) next ≡ ok_map f (may_end test fault x next)
end_mapped f test fault x None = refl
end_mapped f test fault x (Some (token, rest)) = may_mapped f fault x (test token) (end_line rest)

pub reads_mapped :
    {A B : Type 0} (f : A → B) (form : Form A) (line : List ℕ) → reads (mapped f form) line ≡ ok_map f (reads form line)
unfolding reads mapped
reads_mapped f (Done test x) line = step_mapped (all_tokens test (length line) line) f (λ _. Ok x) (λ _. Ok (f x)) (λ _. refl)
reads_mapped f (Then field more) line =
    step_mapped (value_at field line) f (λ next. reads (more next.0) next.1)
    (λ next. reads (mapped f (more next.0)) next.1) (λ next. reads_mapped f (more next.0) next.1)
reads_mapped f (Unless true fault more) line = refl
reads_mapped f (Unless false fault more) line = reads_mapped f more line
reads_mapped f (May test fault x) line =
    step_mapped (token_at line) f (λ c. may_end test fault x c) (λ c. may_end test fault (f x) c)
    (λ c. end_mapped f test fault x c)
reads_mapped f (Refused fault) line = refl

pub is_found :
    (f : Field) (line rest : List ℕ) (token : TokenText) (x : Value f) → token_at line ≡ Ok (Some (token, rest))
    → value_of f token ≡ Ok x → value_at f line ≡ Ok (x, rest)
unfolding value_at
is_found f line rest token x at is = rw (at_field line (token, rest) at, is) refl

-- A property of every value that a form can yield.
abbrev pub Always : {A : Type 0} → (A → Type 0) → Form A → Type 0
Always P (Done test x) = P x
Always P (Then field more) = (value : Value field) → Always P (more value)
Always P (Unless wrong fault more) = Always P more
Always P (May test fault x) = P x
Always P (Refused fault) = ⊤

pub always :
    {A : Type 0} (P : A → Type 0) (form : Form A) (line : List ℕ) (x : A) → Always P form → reads form line ≡ Ok x → P x
unfolding reads
always P (Done test y) line x h e =
    let c = chain (all_tokens test (length line) line) _ x e in rw (← ok_same _ _ c.others) h
always P (Then field more) line x h e =
    let c = chain (value_at field line) _ x e in always P (more c.value.0) c.value.1 x (h c.value.0) c.others
always P (Unless wrong fault more) line x h e =
    always P more line x h (unless_ok wrong fault (reads more line) x e).1
always P (May test fault y) line x h e =
    rw (← (may_is test fault y x line (token_at line) refl e).1) h
always P (Refused fault) line x h e = absurd (cc)

-- ---- steps of reading

-- A number, and the value of the fields after it.
pub record IsNumbered {A : Type 0} (fields : ℕ → Form A) (text : List ℕ) (x : A) : Type 0 where
  pub number : ℕ
  pub rest : List ℕ
  pub numbered : value_at Number text ≡ Ok (number, rest)
  pub says : reads (fields number) rest ≡ Ok x

pub reads_numbered :
    {A : Type 0} (fields : ℕ → Form A) (line rest : List ℕ) (number : ℕ) (x : A) → value_at Number line ≡ Ok (number, rest)
    → reads (fields number) rest ≡ Ok x → reads (Then Number fields) line ≡ Ok x
unfolding reads
reads_numbered fields line rest number x e h = rw e h

pub is_numbered :
    {A : Type 0} (fields : ℕ → Form A) (line : List ℕ) (x : A) → reads (Then Number fields) line ≡ Ok x
    → IsNumbered fields line x
unfolding reads
is_numbered fields line x e =
    let c = chain (value_at Number line) (λ next. reads (fields next.0) next.1) x e in
    record { number = c.value.0; rest = c.value.1; numbered = c.is; says = c.others }

pub reads_end : {A : Type 0} (x : A) (line : List ℕ) → end_line line ≡ Ok tt → reads (Done any x) line ≡ Ok x
unfolding reads end_line
reads_end x line e = rw e refl

pub reads_all :
    {A : Type 0} (test : TokenText → Bool) (x : A) (line : List ℕ) → all_tokens test (length line) line ≡ Ok tt
    → reads (Done test x) line ≡ Ok x
unfolding reads
reads_all test x line e = rw e refl

-- The inversion of a line's end: all its tokens pass the test.
pub ends :
    {A : Type 0} (test : TokenText → Bool) (y x : A) (line : List ℕ) → reads (Done test y) line ≡ Ok x
    → (all_tokens test (length line) line ≡ Ok tt) × (y ≡ x)
unfolding reads
ends test y x line e =
    let c = chain (all_tokens test (length line) line) _ x e in (c.is, ok_same _ _ c.others)

pub reads_unless :
    {A : Type 0} (wrong : Bool) (fault : TextFault) (form : Form A) (line : List ℕ) → wrong ≡ false
    → reads (Unless wrong fault form) line ≡ reads form line
unfolding reads
reads_unless wrong fault form line h = rw h refl

pub unless_read :
    {A : Type 0} (wrong : Bool) (fault : TextFault) (form : Form A) (line : List ℕ) (x : A)
    → reads (Unless wrong fault form) line ≡ Ok x → (wrong ≡ false) × (reads form line ≡ Ok x)
unfolding reads
unless_read wrong fault form line x e = unless_ok wrong fault (reads form line) x e

-- Reading a guarded, mapped form if the guard doesn't apply.
pub told_read :
    {A B : Type 0} (f : A → B) (wrong : Bool) (fault : TextFault) (form : Form A) (line : List ℕ) (x : A) → wrong ≡ false
    → reads form line ≡ Ok x → reads (Unless wrong fault (mapped f form)) line ≡ Ok (f x)
told_read f wrong fault form line x free e =
    reads_unless wrong fault (mapped f form) line free ∙ reads_mapped f form line ∙ ap (ok_map f) e

pub refused : {A : Type 0} (fault : TextFault) (line : List ℕ) (x : A) → reads (Refused fault) line ≡ Ok x → ⊥
unfolding reads
refused fault line x e = cc
