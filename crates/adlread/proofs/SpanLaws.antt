-- The byte ranges of the first token of a line and of the next token of its rest.
use Rattle.std.proofs.Common.{◌≡◌, ℕ, ◌+◌, true, false, List, ◌∷◌, length, Result, Ok, Err, refl, ap, arith}
use Rattle.std.specs.Prelude.{◌-◌}
use Rattle.adltoken.specs.declared.tokens.Span.{Span}
use Rattle.adltoken.specs.Spans.{first_span}
use Rattle.list_terms.specs.declared.TextFault.{TextFault}
use Rattle.list_terms.specs.Forms.{Done, Form, May, Refused, Then, Unless, Value, mapped, value_at}
use Rattle.list_terms.specs.Text.{Context, is_behind, with_line}
use Rattle.adlread.specs.FaultSpans.{first_of_line, form_span, lines_span, next_span}

pub span_of_line : (line : List ℕ) → first_span 0 line ≡ first_of_line line
unfolding next_span
span_of_line line = let none : 0 ≡ length line - length line = omega arith in ap (λ n. first_span n line) none

pub span_of_rest : (at : ℕ) (rest : List ℕ) → first_span at rest ≡ next_span (at + length rest) rest
unfolding next_span
span_of_rest at rest = let same : at ≡ at + length rest - length rest = omega arith in ap (λ n. first_span n rest) same

-- Mapping the value of a form doesn't change the range of its fault.
pub span_mapped :
    {A B : Type 0} (f : A → B) (long : ℕ) (form : Form A) (last : Span) (rest : List ℕ)
    → form_span long (mapped f form) last rest ≡ form_span long form last rest
unfolding form_span mapped
span_mapped f long (Done test x) last rest = refl
span_mapped f long (Then field more) last rest =
    by_value (value_at field rest) (λ value others. span_mapped f long (more value) (next_span long rest) others) where
      by_value :
          (said : Result (Value field × List ℕ) TextFault)
          → ((value : Value field) (others : List ℕ)
          → form_span long (mapped f (more value)) (next_span long rest) others
          ≡ form_span long (more value) (next_span long rest) others)
          → elim said as (λ _. Span) [
            | Err fault ↦ next_span long rest
            | Ok (value, others) ↦ form_span long (mapped f (more value)) (next_span long rest) others
          ] ≡ elim said as (λ _. Span) [
            | Err fault ↦ next_span long rest
            | Ok (value, others) ↦ form_span long (more value) (next_span long rest) others
          ]
      by_value (Err fault) alike = refl
      by_value (Ok (value, others)) alike = alike value others
span_mapped f long (Unless true fault more) last rest = refl
span_mapped f long (Unless false fault more) last rest = span_mapped f long more last rest
span_mapped f long (May test fault x) last rest = refl
span_mapped f long (Refused fault) last rest = refl

-- One more line is read without a fault.
pub lines_span-step :
    (rate : ℕ) (c next : Context) (n m : ℕ) (last line : List ℕ) (lines rest : List (List ℕ)) → lines ≡ line ∷ rest
    → m ≡ n + 1 → with_line rate c m line ≡ Ok next → false ≡ is_behind next.stage
    → lines_span rate next m line rest ≡ lines_span rate c n last lines
unfolding lines_span
lines_span-step rate c next n m last line lines rest e f h before =
    let read : with_line rate c (n + 1) line ≡ Ok next = rw f at h in
    rw (e, f, lines_span, read, ← before) refl
