-- Sequences of prints.
use Rattle.std.proofs.Common.{◌≡◌, ◌∙◌, ◌++◌, [], ℕ, List, Option, None, Some, ap, arith, sym, append_assoc}
use Rattle.std.proofs.lemmas.List.{append-nil}
use Rattle.std.specs.Io.KnownBytes.{Appends}
use Rattle.console.specs.Printing.{NoneFailed, Prints}

appends_more : (old between new : Option (List ℕ)) (text more : List ℕ) → Appends old between text
    → Appends between new more → Appends old new (text ++ more)
appends_more None between new text more one two = tt
appends_more (Some xs) None new text more one two = absurd one
appends_more (Some xs) (Some ys) None text more one two = absurd two
appends_more (Some xs) (Some ys) (Some zs) text more one two =
    two ∙ ap (λ front. front ++ more) one ∙ append_assoc xs text more

appends_nothing : (old : Option (List ℕ)) → Appends old old []
appends_nothing None = tt
appends_nothing (Some xs) = sym (append-nil xs)

-- one text after another
pub prints_more : {O : Type 0} (contents : O → Option (List ℕ)) (failures : O → ℕ) {old between new : O}
    {text more : List ℕ} → Prints contents failures old between text → Prints contents failures between new more
    → Prints contents failures old new (text ++ more)
prints_more contents failures {old = old} {between = between} {new = new} {text = text} {more = more} one two = record {
  later = omega (arith, one.later, two.later);
  printed = λ none. appends_more (contents old) (contents between) (contents new) text more
      (one.printed (
        omega (arith, one.later, two.later, none.0, none.1),
        omega (arith, one.later, two.later, none.1),
      ))
      (two.printed (
        omega (arith, one.later, two.later, none.0, none.1),
        omega (arith, one.later, two.later, none.1),
      ));
}

-- the empty text
pub prints_nothing : {O : Type 0} (contents : O → Option (List ℕ)) (failures : O → ℕ) (old : O)
    → Prints contents failures old old []
prints_nothing contents failures old = record { later = omega arith; printed = λ none. appends_nothing (contents old) }
