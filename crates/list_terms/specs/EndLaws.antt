-- Laws of line ends and of lines that consist of whole tokens.
use Rattle.std.specs.Prelude.{◌≡◌, ◌<◌, ◌≤◌, ℕ, zero, suc, Bool, true, false, List, [], ◌∷◌, ◌++◌, length, Option, None, Some, Result, Ok, Err, ok_or, refl}
use Rattle.std.specs.List.{take_while}
use Rattle.std.proofs.Common.{◌∙◌, ap, arith, length-append, sym}
use Rattle.list_terms.specs.declared.TokenKind.{TokenKind}
use Rattle.list_terms.specs.declared.TokenKind.TheVariants.{Keyword, Quoted, Word}
use Rattle.list_terms.specs.declared.TextFault.{TextFault}
use Rattle.list_terms.specs.declared.TextFault.TheVariants.{Unsupported}
use Rattle.list_terms.specs.Fields.{end_line, field}
use Rattle.list_terms.specs.StepLaws.{chain, ok_or_some}
use Rattle.list_terms.specs.TokenLaws.{is_content, token_at-front}
use Rattle.list_terms.specs.Tokens.{Cut, TokenText, all_tokens, is_blank, token_at, token_text}

-- ---- one token

pub one_byte :
    (kind : TokenKind) (content : List ℕ) → is_content kind content ≡ true
    → 0 < length (token_text (record { kind = kind; content = content }))
one_byte Quoted content h = omega arith
one_byte Keyword content h = omega arith
one_byte Word [] h = absurd (cc)
one_byte Word (first ∷ content) h = omega arith

pub rest_shorter :
    (line rest : List ℕ) (token : TokenText) → token_at line ≡ Ok (Some (token, rest)) → length rest < length line
rest_shorter line rest token e =
    let front = token_at-front line rest token e in
    let some = one_byte token.kind token.content front.content in
    let blanks = length-append (take_while is_blank line) (token_text token ++ rest) in
    omega (arith, ap length front.whole, blanks, length-append (token_text token) rest)

pub field_at : (line : List ℕ) (cut : Cut) → field line ≡ Ok cut → token_at line ≡ Ok (Some cut)
unfolding field
field_at line cut e =
    let c = chain (token_at line) (λ next. ok_or next _) cut e in
    c.is ∙ ap Ok (ok_or_some c.value _ cut c.others)

pub at_field : (line : List ℕ) (cut : Cut) → token_at line ≡ Ok (Some cut) → field line ≡ Ok cut
unfolding field
at_field line cut e = rw e refl

-- ---- tokens up to the end

pub all_tokens-step :
    (allowed : TokenText → Bool) (n : ℕ) (line rest : List ℕ) (token : TokenText)
    → token_at line ≡ Ok (Some (token, rest))
    → allowed token ≡ true → all_tokens allowed (suc n) line ≡ all_tokens allowed n rest
unfolding all_tokens
all_tokens-step allowed n line rest token e h = rw (e, h, all_tokens)

pub all_tokens-refused :
    (allowed : TokenText → Bool) (n : ℕ) (line rest : List ℕ) (token : TokenText)
    → token_at line ≡ Ok (Some (token, rest))
    → allowed token ≡ false → all_tokens allowed (suc n) line ≡ Err Unsupported
unfolding all_tokens
all_tokens-refused allowed n line rest token e h = rw (e, h, all_tokens)

pub all_tokens-fault :
    (allowed : TokenText → Bool) (n : ℕ) (line : List ℕ) (fault : TextFault) → token_at line ≡ Err fault
    → all_tokens allowed (suc n) line ≡ Err fault
unfolding all_tokens
all_tokens-fault allowed n line fault e = rw (e, all_tokens)

pub all_tokens-none :
    (allowed : TokenText → Bool) (n : ℕ) (line : List ℕ) → token_at line ≡ Ok None → all_tokens allowed n line ≡ Ok tt
unfolding all_tokens
all_tokens-none allowed zero line e = refl
all_tokens-none allowed (suc n) line e = rw (e, all_tokens)

pub no_bytes : (line : List ℕ) → length line ≤ 0 → line ≡ []
no_bytes [] h = refl
no_bytes (b ∷ line) h = absurd (omega arith)

pub token_at-nil : token_at [] ≡ Ok None
unfolding token_at
token_at-nil = refl

-- The step count doesn't matter: a line cut whole in enough steps is cut whole in any number of steps.
cut_anyhow :
    (n enough : ℕ) (line : List ℕ) → length line ≤ enough → all_tokens (λ t. true) enough line ≡ Ok tt
    → all_tokens (λ t. true) n line ≡ Ok tt
unfolding all_tokens
cut_anyhow zero enough line short e = refl
cut_anyhow (suc n) enough line short e =
    by_token (token_at line) refl enough short e (λ rest m s f. cut_anyhow n m rest s f) where
      by_token :
          (next : Result (Option Cut) TextFault) → token_at line ≡ next → (enough : ℕ) → length line ≤ enough
          → all_tokens (λ t. true) enough line ≡ Ok tt
          → ((rest : List ℕ) (m : ℕ) → length rest ≤ m → all_tokens (λ t. true) m rest ≡ Ok tt
          → all_tokens (λ t. true) n rest ≡ Ok tt) → all_tokens (λ t. true) (suc n) line ≡ Ok tt
      by_token (Err fault) t zero short e ih =
          let none : token_at line ≡ Ok None = ap token_at (no_bytes line short) ∙ token_at-nil in absurd (cc)
      by_token (Err fault) t (suc m) short e ih =
          absurd (let no = sym (all_tokens-fault (λ t. true) m line fault t) ∙ e in cc)
      by_token (Ok None) t enough short e ih = all_tokens-none (λ t. true) (suc n) line t
      by_token (Ok (Some (token, rest))) t zero short e ih =
          absurd (let shorter = rest_shorter line rest token t in omega arith)
      by_token (Ok (Some (token, rest))) t (suc m) short e ih =
          let shorter = rest_shorter line rest token t in
          all_tokens-step (λ t. true) n line rest token t refl
          ∙ ih rest m (omega arith) (sym (all_tokens-step (λ t. true) m line rest token t refl) ∙ e)

-- A line that consists of allowed tokens consists of whole tokens.
pub cut_allowed :
    (allowed : TokenText → Bool) (n : ℕ) (line : List ℕ) → all_tokens allowed n line ≡ Ok tt
    → all_tokens (λ t. true) n line ≡ Ok tt
unfolding all_tokens
cut_allowed allowed zero line e = refl
cut_allowed allowed (suc n) line e =
    by_token (token_at line) refl (λ rest f. cut_allowed allowed n rest f) where
      by_token :
          (next : Result (Option Cut) TextFault) → token_at line ≡ next
          → ((rest : List ℕ) → all_tokens allowed n rest ≡ Ok tt → all_tokens (λ t. true) n rest ≡ Ok tt)
          → all_tokens (λ t. true) (suc n) line ≡ Ok tt
      by_token (Err fault) t ih = absurd (let no = sym (all_tokens-fault allowed n line fault t) ∙ e in cc)
      by_token (Ok None) t ih = all_tokens-none (λ t. true) (suc n) line t
      by_token (Ok (Some (token, rest))) t ih = by_test (allowed token) refl where
        by_test : (passes : Bool) → allowed token ≡ passes → all_tokens (λ t. true) (suc n) line ≡ Ok tt
        by_test true a =
            all_tokens-step (λ t. true) n line rest token t refl
            ∙ ih rest (sym (all_tokens-step allowed n line rest token t a) ∙ e)
        by_test false a = absurd (let no = sym (all_tokens-refused allowed n line rest token t a) ∙ e in cc)

-- A token followed by whole tokens makes a line of whole tokens.
pub whole-token :
    (line rest : List ℕ) (token : TokenText) → token_at line ≡ Ok (Some (token, rest)) → end_line rest ≡ Ok tt
    → end_line line ≡ Ok tt
unfolding end_line
whole-token line rest token t e = by_length (length line) (rest_shorter line rest token t) where
  by_length : (n : ℕ) → length rest < n → all_tokens (λ t. true) n line ≡ Ok tt
  by_length zero shorter = absurd (omega arith)
  by_length (suc n) shorter =
      all_tokens-step (λ t. true) n line rest token t refl ∙ cut_anyhow n (length rest) rest (omega arith) e

pub whole-none : (line : List ℕ) → token_at line ≡ Ok None → end_line line ≡ Ok tt
unfolding end_line
whole-none line t = all_tokens-none (λ t. true) (length line) line t
