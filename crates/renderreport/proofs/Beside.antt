-- Outcomes of a crash for all other files, over several calls.
use Rattle.std.proofs.Common.{◌∙◌, ℕ, List, Option, refl, sym, inl, inr, arith}
use Rattle.work_terms.specs.Disk.{Changes, Elapses, Files, Follows, IsBeside, LeavesOthers}
use Rattle.devices.specs.declared.bench.Bench as bench

module _ {B : Type 0} (g : bench.Ghosts B) (name : List ℕ) where
  -- a call that changes only this file
  pub one_call : {step : Option (List ℕ) → Option (List ℕ) → Type 0} {old new : B}
      → ((c : Files) → g.left_since old (g.moment old) c → g.may_leave old c)
      → Elapses (g.moment old) (g.moment new) (g.left_since old) (g.left_since new) (g.may_leave new)
      → Follows (Changes step name) (g.may_leave old) (g.may_leave new)
      → LeavesOthers g.may_leave g.moment g.left_since name old new
  one_call {step = step} {old = old} {new = new} only time follows = record {
    now = now;
    moments = record {
      later = time.later;
      each = λ c l. elim (time.nothing_else (g.moment old) c (omega arith) l) [
        | inl past ↦ (c, only c past, λ n _. refl)
        | inr left ↦ now c left
      ];
      before = λ t c early l. elim (time.nothing_else t c early l) [ inl past ↦ inl past | inr left ↦ inr (now c left) ];
    };
  }
    where
      after : (c : Files) → (d : Files) × g.may_leave old d × Changes step name d c → IsBeside (g.may_leave old) name c
      after c (d, was, change) = (d, was, λ n away. change.others n (λ e. away (0, omega arith, sym e)))

      now : (c : Files) → g.may_leave new c → IsBeside (g.may_leave old) name c
      now c left = after c (follows c left)

  pub and_then : {old mid new : B} → LeavesOthers g.may_leave g.moment g.left_since name old mid
      → LeavesOthers g.may_leave g.moment g.left_since name mid new
      → LeavesOthers g.may_leave g.moment g.left_since name old new
  and_then {old = old} {mid = mid} one other = record {
    now = λ c left. back c (other.now c left);
    moments = record {
      later = omega (arith, one.moments.later, other.moments.later);
      each = λ c l. elim (other.moments.before (g.moment old) c one.moments.later l) [
        | inl past ↦ one.moments.each c past
        | inr is ↦ back c is
      ];
      before = λ t c early l. elim (other.moments.before t c (omega (arith, early, one.moments.later)) l) [
        | inl past ↦ one.moments.before t c early past
        | inr is ↦ inr (back c is)
      ];
    };
  }
    where
      back : (c : Files) → IsBeside (g.may_leave mid) name c → IsBeside (g.may_leave old) name c
      back c (d, was, change) = let first = one.now d was in
          (first.0, first.1, λ n away. change n away ∙ first.2 n away)
