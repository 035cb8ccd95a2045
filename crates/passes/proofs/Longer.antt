-- The samples that an extended flat piece adds.
use Rattle.std.proofs.Common.{◌≡◌, ℕ, ◌+◌, ◌-◌, ◌<◌, ◌≤◌, Bool, true, [], ◌∷◌, refl, sym, arith}
use Rattle.std.specs.Prelude.{ℤ, pos, ◌+ℤ◌, ◌&&◌, nat_le, nat_lt}
use Rattle.std.specs.List.{list_all}
use Rattle.std.proofs.lemmas.Int.{ints}
use Rattle.facts.specs.Stretches.{sums_joined}
use Rattle.sound_terms.specs.declared.piece.Piece.{Piece}
use Rattle.sound_terms.specs.Mix.{Reading, share_of}
use Rattle.sound_terms.specs.Groups.{is_whole, part_of, sum_of}
use Rattle.sound_terms.specs.LongerLaws.{BothFlat, by_longer, longer}
use Rattle.sound_terms.specs.Passes.{lengthened}
use Rattle.passes.specs.TotalLaws.{Joins}

part_longer : (r : Reading) (p later : Piece) (channel time : ℕ) → BothFlat p later
    → part_of r (longer p later) channel time ≡ part_of r p channel time +ℤ part_of r later channel time
part_longer r p later channel time both =
    let on = both.on in
    rw (both.flat, both.flat_later, on.start, on.frame, on.file, on.first, on.dest, on.width)
    (sym (sums_joined p.start p.length later.length time _ _ _ (λ from to. refl) same
    (nat_le p.dest channel) (nat_lt channel (p.dest + p.width)))) where
      same : p.start + p.length ≤ time → time < p.start + p.length + later.length
          → share_of (r p.file (p.first + (channel - p.dest)) (p.frame + p.length + (time - (p.start + p.length))))
          (1, 1)
          ≡ share_of (r p.file (p.first + (channel - p.dest)) (p.frame + (time - p.start))) (1, 1)
      same behind before =
          let frames : p.frame + p.length + (time - (p.start + p.length)) ≡ p.frame + (time - p.start) =
          omega arith in rw frames refl

pub longer_mix : (r : Reading) (channel time : ℕ) (later : Piece)
    → Joins ◌+ℤ◌ (pos 0) (λ group. sum_of r group channel time) (lengthened later) (later ∷ [])
longer_mix r channel time later =
    by_longer (λ group joined. (rest : ℤ) → sum_of r joined channel time +ℤ rest ≡ sum_of r (later ∷ []) channel time +ℤ
    (sum_of r group channel time +ℤ rest)) later
    (λ p on rest. omega (arith, ints, part_longer r p later channel time on))

pub longer_whole : (later : Piece) → Joins ◌&&◌ true (λ group. list_all is_whole group) (lengthened later) (later ∷ [])
longer_whole later =
    by_longer (λ group joined. (rest : Bool) → (list_all is_whole joined && rest)
    ≡ (list_all is_whole (later ∷ []) && (list_all is_whole group && rest))) later
    (λ p on rest. rw (on.flat, on.flat_later) refl)
