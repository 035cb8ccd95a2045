-- Laws of new marks.
use Rattle.std.proofs.Common.{◌≡◌, ◌∙◌, ℕ, ◌+◌, ◌-◌, ◌==◌, ◌∷◌, length, get_or, replicate, ap, inl, inr, arith}
use Rattle.std.proofs.lemmas.Bool.{cases_lt}
use Rattle.std.proofs.lemmas.List.{get_or_past, get_or-append_right, get_or-replicate, length-append, length-replicate, take_at}
use Rattle.sound_terms.specs.Laws.{length-u32_bytes}
use Rattle.sound_terms.specs.Waves.{u32_bytes}
use Rattle.markfile.specs.declared.run.RunId.{RunId}
use Rattle.markfile.specs.Format.{AreFresh, fresh_marks, head_of}

pub length-head_of : (run : RunId) → length run.digest ≡ 32 → length (head_of run) ≡ 43
unfolding head_of
length-head_of run whole =
    let rest = length-append run.digest (u32_bytes run.blocks) in
    let four = length-u32_bytes run.blocks in
    omega (arith, rest, four, whole)

zero_at : (n i : ℕ) → get_or (replicate {A = ℕ} n 0) i 0 ≡ 0
zero_at n i = elim (cases_lt i n) [
  | inl lt ↦ get_or-replicate {A = ℕ} n i 0 0 lt
  | inr past ↦ get_or_past {X = ℕ} (replicate n 0) i 0 (omega (arith, past, length-replicate {A = ℕ} n 0))
]

pub fresh_is : (run : RunId) → length run.digest ≡ 32 → AreFresh run (fresh_marks run)
fresh_is run whole = record {
  ours = record {
    front = take_at (1 ∷ head_of run) (replicate run.blocks 0) 44 front;
    size = omega (
      arith,
      head,
      length-append (head_of run) (replicate run.blocks 0),
      length-replicate {A = ℕ} run.blocks 0,
    );
  };
  unmarked = λ block. ap (λ b. b == 1)
      (get_or-append_right (1 ∷ head_of run) (replicate run.blocks 0) 44 (44 + block) 0 front (omega arith)
      ∙ zero_at run.blocks (44 + block - 44));
} where
  head : length (head_of run) ≡ 43
  head = length-head_of run whole

  front : length (1 ∷ head_of run) ≡ 44
  front = omega (arith, head)
