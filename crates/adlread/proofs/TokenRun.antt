-- The tokens up to the end of a line, after one token.
use Rattle.std.proofs.Common.{◌≡◌, Bool, ℕ, zero, suc, ◌<◌, ◌≤◌, true, false, List, length, None, Some, Result, Ok, Err, refl, sym, ap, ◌∙◌, arith}
use Rattle.std.specs.Prelude.{OnErr}
use Rattle.adltoken.specs.declared.tokens.Span.{Span}
use Rattle.list_terms.specs.declared.TextFault.{TextFault}
use Rattle.list_terms.specs.declared.TextFault.TheVariants.{Unsupported}
pub use Rattle.list_terms.specs.EndLaws.{all_tokens-fault, all_tokens-none, all_tokens-refused, all_tokens-step, no_bytes, token_at-nil}
use Rattle.list_terms.specs.Tokens.{TokenText, token_at, all_tokens}
use Rattle.adlread.specs.FaultSpans.{end_span, next_span}

-- Reading the rest of a line in this number of steps gives the same result as reading the whole line.
pub record IsLeft (allowed : TokenText → Bool) (long : ℕ) (line rest : List ℕ) : Type 0 where
  pub steps : ℕ
  pub enough : length rest ≤ steps
  pub same : all_tokens allowed steps rest ≡ all_tokens allowed (length line) line
  pub span : end_span allowed long steps rest ≡ end_span allowed long (length line) line

end_span-step :
    (allowed : TokenText → Bool) (long n : ℕ) (line rest : List ℕ) (token : TokenText)
    → token_at line ≡ Ok (Some (token, rest)) → allowed token ≡ true
    → end_span allowed long (suc n) line ≡ end_span allowed long n rest
unfolding end_span
end_span-step allowed long n line rest token e h = rw (e, h, end_span)

end_span-refused :
    (allowed : TokenText → Bool) (long n : ℕ) (line rest : List ℕ) (token : TokenText)
    → token_at line ≡ Ok (Some (token, rest)) → allowed token ≡ false
    → end_span allowed long (suc n) line ≡ next_span long line
unfolding end_span
end_span-refused allowed long n line rest token e h = rw (e, h, end_span)

end_span-fault :
    (allowed : TokenText → Bool) (long n : ℕ) (line : List ℕ) (fault : TextFault) → token_at line ≡ Err fault
    → end_span allowed long (suc n) line ≡ next_span long line
unfolding end_span
end_span-fault allowed long n line fault e = rw (e, end_span)

pub IsLeft-whole : (allowed : TokenText → Bool) (long : ℕ) (line : List ℕ) → IsLeft allowed long line line
IsLeft-whole allowed long line = record { steps = length line; enough = omega arith; same = refl; span = refl }

pub IsLeft-next :
    (allowed : TokenText → Bool) (long : ℕ) (line left rest : List ℕ) (token : TokenText) → IsLeft allowed long line left
    → token_at left ≡ Ok (Some (token, rest)) → allowed token ≡ true → length rest < length left
    → IsLeft allowed long line rest
IsLeft-next allowed long line left rest token h e is shorter = by_steps h.steps h.enough h.same h.span where
  by_steps : (n : ℕ) → length left ≤ n → all_tokens allowed n left ≡ all_tokens allowed (length line) line
      → end_span allowed long n left ≡ end_span allowed long (length line) line → IsLeft allowed long line rest
  by_steps zero enough same span = absurd (omega arith)
  by_steps (suc n) enough same span = record {
    steps = n;
    enough = omega arith;
    same = sym (all_tokens-step allowed n left rest token e is) ∙ same;
    span = sym (end_span-step allowed long n left rest token e is) ∙ span;
  }

-- The fault of the whole line and its range.
pub record EndsAt (allowed : TokenText → Bool) (long : ℕ) (line : List ℕ) (fault : TextFault) (span : Span) : Type 0 where
  pub fault_is : all_tokens allowed (length line) line ≡ Err fault
  pub span_is : end_span allowed long (length line) line ≡ span

pub IsLeft-refused :
    (allowed : TokenText → Bool) (long : ℕ) (line left rest : List ℕ) (token : TokenText) → IsLeft allowed long line left
    → token_at left ≡ Ok (Some (token, rest)) → allowed token ≡ false → length rest < length left
    → EndsAt allowed long line Unsupported (next_span long left)
IsLeft-refused allowed long line left rest token h e is shorter = by_steps h.steps h.enough h.same h.span where
  by_steps : (n : ℕ) → length left ≤ n → all_tokens allowed n left ≡ all_tokens allowed (length line) line
      → end_span allowed long n left ≡ end_span allowed long (length line) line
      → EndsAt allowed long line Unsupported (next_span long left)
  by_steps zero enough same span = absurd (omega arith)
  by_steps (suc n) enough same span = record {
    fault_is = sym same ∙ all_tokens-refused allowed n left rest token e is;
    span_is = sym span ∙ end_span-refused allowed long n left rest token e is;
  }

pub IsLeft-fault :
    (allowed : TokenText → Bool) (long : ℕ) (line left : List ℕ) (fault : TextFault) → IsLeft allowed long line left
    → token_at left ≡ Err fault → EndsAt allowed long line fault (next_span long left)
IsLeft-fault allowed long line left fault h e = by_steps h.steps h.enough h.same h.span where
  by_steps : (n : ℕ) → length left ≤ n → all_tokens allowed n left ≡ all_tokens allowed (length line) line
      → end_span allowed long n left ≡ end_span allowed long (length line) line
      → EndsAt allowed long line fault (next_span long left)
  by_steps zero enough same span = let none : token_at left ≡ Ok None = ap token_at (no_bytes left enough) ∙ token_at-nil in
      absurd (cc)
  by_steps (suc n) enough same span = record {
    fault_is = sym same ∙ all_tokens-fault allowed n left fault e;
    span_is = sym span ∙ end_span-fault allowed long n left fault e;
  }

pub on_err : {A E : Type 0} (result : Result A E) {P : Type 0} → P → OnErr result P
on_err (Ok x) h = tt
on_err (Err e) h = h
