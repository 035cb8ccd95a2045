-- The states that a crash may leave of a text that grew.
use Rattle.std.proofs.Common.{◌≡◌, ◌≢◌, ℕ, ◌+◌, ◌≤◌, ◌==◌, if◌then◌else◌, min, Some, None, List, [], ◌∷◌, ◌++◌, length, take, refl, sym, ◌∙◌, arith}
use Rattle.std.proofs.lemmas.List.{length-append, length-take, take_all, drop_all}
use Rattle.std.specs.Prelude.{⊤, ◌^◌, true}
use Rattle.work_terms.specs.Disk.{Files, Changes, IsTornBehind, HasTornEnd, HasWritten, end_of, IsDurable}
use Rattle.adlwrite.specs.declared.text_file.TextFile.{TextFile}
use Rattle.adlwrite.specs.LeftText.{IsLeftText, none_there}

-- This text under the empty name, and no other file.
abbrev pub alone : List ℕ → Files
alone text [] = Some text
alone text (first ∷ rest) = None

-- A text no longer than at + n has grown from its first `at` bytes.
torn_front : (at n : ℕ) (text : List ℕ) → length text ≤ at + n → HasTornEnd at n (take at text) text
torn_front at n text few =
    let front : length (take at text) ≡ min at (length text) = length-take at text in
    record {
      before = sym (take_all at (take at text) (omega (arith, front)));
      after = drop_all (at + n) text few ∙ sym (drop_all (at + n) (take at text) (omega (arith, front)));
      no_shorter = omega (arith, front);
      no_longer = omega (arith, few);
    }

-- A state left after an append follows from a state left before it.
pub grown : (text bytes name : List ℕ) (c : Files) → length name ≡ 0 → IsLeftText (text ++ bytes) c
    → (d : Files) × IsLeftText text d
    × Changes (IsTornBehind (end_of (if length name == 0 then Some text else None)) (length bytes)) name d c
grown text bytes (first ∷ rest) c empty left = absurd (omega (arith, empty))
grown text bytes [] c empty left =
    let front : length (take (length text) left.left) ≡ min (length text) (length left.left) =
    length-take (length text) left.left in (
      alone (take (length text) left.left),
      record {
        left = take (length text) left.left;
        there = refl;
        no_longer = omega (arith, front);
        alone = λ _ _. refl;
      },
      record {
        here = (
          left.left,
          left.there,
          torn_front (length text) (length bytes) left.left
              (omega (arith, left.no_longer, length-append text bytes)),
        );
        others = others;
      },
    )
  where
    others : (n : List ℕ) → n ≢ [] → c n ≡ alone (take (length text) left.left) n
    others [] apart = absurd (apart refl)
    others (first ∷ rest) apart = left.alone first rest

-- No other file ever exists.
others_durable : (text name n : List ℕ) → length name ≡ 0 → n ≢ name
    → IsDurable n (λ m. if length m == 0 then Some text else None) (IsLeftText text)
others_durable text (first ∷ rest) n empty apart = absurd (omega (arith, empty))
others_durable text [] [] empty apart = absurd (apart refl)
others_durable text [] (first ∷ rest) empty apart = λ c left. left.alone first rest ∙ sym (none_there text first rest)

-- No other file can be read.
others_same : (old new name n : List ℕ) → length name ≡ 0 → n ≢ name
    → (if length n == 0 then Some new else None) ≡ (if length n == 0 then Some old else None)
others_same old new (first ∷ rest) n empty apart = absurd (omega (arith, empty))
others_same old new [] [] empty apart = absurd (apart refl)
others_same old new [] (first ∷ rest) empty apart = none_there new first rest ∙ sym (none_there old first rest)

-- Only the file with the empty name changes, whether or not the text grew.
pub only_grown : {quiet device failed : Type 0} (old new : TextFile) (name : List ℕ) → length name ≡ 0 → failed
    → HasWritten (λ file n. if length n == 0 then Some file.text.items else None) (λ _. true) (λ _. 2 ^ 64) (λ _ _. ⊤)
    (λ file. IsLeftText file.text.items) (λ n. n ≢ name) old new quiet device failed
only_grown old new name empty there = record {
  others = λ honest n apart. others_same old.text.items new.text.items name n empty apart;
  durable = λ honest n apart was. others_durable new.text.items name n empty apart;
  honest_same = refl;
  cause = record { later = omega arith; left = λ quiet. refl; rose = λ device below. absurd (omega (arith, below)) };
  keeps = λ n f. f;
  failed_there = there;
}
