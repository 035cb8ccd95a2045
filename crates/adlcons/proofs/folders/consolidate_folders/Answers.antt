use Rattle.std.proofs.Common.{◌≡◌, ◌≤◌, ℕ, arith, inl, inr, refl}
use Rattle.std.proofs.Math.Nat.{eq-or-lt_of_le}
use Rattle.adlcons.proofs.folders.consolidate_folders.Goals as goal

-- of three statuses not the last
at_most_one : (status : ℕ) → status ≤ 2 → (status ≡ 2 → ⊥) → status ≤ 1
at_most_one status few never = elim (eq-or-lt_of_le few) [
  | inl two ↦ absurd (never two)
  | inr less ↦ omega (arith, less)
]

pub returns-then-session-clause-answered : goal.returns-then-session-clause-answered
returns-then-session-clause-answered g c = rw c.if-session.true c.verify_in_folders.ensures.answered

pub returns-clause-answered : goal.returns-clause-answered
returns-clause-answered g c =
    rw c.if-session.false (c.work_in_folders.ensures.consolidated _ _ _ c.args.handle c.args.report refl)

pub returns-clause-statuses : goal.returns-clause-statuses
returns-clause-statuses g c =
    at_most_one c.work_in_folders.result c.work_in_folders.ensures.statuses (λ two. (c.work_in_folders.ensures.mistake two).1)
