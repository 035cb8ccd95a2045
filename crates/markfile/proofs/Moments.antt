-- Crash outcomes at the moments of two calls in sequence.
use Rattle.std.proofs.Common.{ℕ, Option, Some, None, List, refl, inl, inr, arith}
use Rattle.work_terms.specs.Disk.{Files, Elapses, IsTorn, IsTornBehind, LeavesOnly}

module _ {B : Type 0} (moment : B → ℕ) (left_since : B → ℕ → Files → Type 0) where
  pub weaker : (old new : B) (P Q : Files → Type 0) → ((c : Files) → P c → Q c)
      → LeavesOnly moment left_since old new P → LeavesOnly moment left_since old new Q
  weaker old new P Q f h = record {
    later = h.later;
    each = λ c l. f c (h.each c l);
    before = λ t c early l. elim (h.before t c early l) [ inl past ↦ inl past | inr p ↦ inr (f c p) ];
  }

  pub and_then : (old mid new : B) (P Q : Files → Type 0) → ((c : Files) → Q c → P c)
      → LeavesOnly moment left_since old mid P → LeavesOnly moment left_since mid new Q
      → LeavesOnly moment left_since old new P
  and_then old mid new P Q f one other = record {
    later = omega (arith, one.later, other.later);
    each = λ c l. elim (other.before (moment old) c one.later l) [ inl past ↦ one.each c past | inr q ↦ f c q ];
    before = λ t c early l. elim (other.before t c (omega (arith, early, one.later)) l) [
      | inl past ↦ one.before t c early past
      | inr q ↦ inr (f c q)
    ];
  }

-- two calls, each of which leaves an outcome possible before or one with property P
module _ {B : Type 0} (moment : B → ℕ) (left_since : B → ℕ → Files → Type 0) (may_leave : B → Files → Type 0)
    (only_now : (bench : B) (c : Files) → left_since bench (moment bench) c → may_leave bench c) where
  pub two_calls : (old mid new : B) (P : Files → Type 0)
      → Elapses (moment old) (moment mid) (left_since old) (left_since mid) (may_leave mid)
      → Elapses (moment mid) (moment new) (left_since mid) (left_since new) (may_leave new)
      → ((c : Files) → may_leave old c → P c) → ((c : Files) → may_leave mid c → P c)
      → ((c : Files) → may_leave new c → P c) → LeavesOnly moment left_since old new P
  two_calls old mid new P first second from_old from_mid from_new = record {
    later = omega (arith, first.later, second.later);
    each = λ c l. elim (second.nothing_else (moment old) c first.later l) [
      | inl past ↦ elim (first.nothing_else (moment old) c (omega arith) past) [
        | inl p ↦ from_old c (only_now old c p)
        | inr m ↦ from_mid c m
      ]
      | inr n ↦ from_new c n
    ];
    before = λ t c early l. elim (second.nothing_else t c (omega (arith, early, first.later)) l) [
      | inl past ↦ elim (first.nothing_else t c early past) [
        | inl p ↦ inl p
        | inr m ↦ inr (from_mid c m)
      ]
      | inr n ↦ inr (from_new c n)
    ];
  }

-- an unchanged file counts as torn
pub torn_same : (at n : ℕ) (file : Option (List ℕ)) → IsTorn at n file file
torn_same at n None = refl
torn_same at n (Some file) = (file, refl, record { before = refl; after = refl; same_length = refl })

-- an unchanged file counts as a torn append
pub end_same : (at n : ℕ) (file : Option (List ℕ)) → IsTornBehind at n file file
end_same at n None = refl
end_same at n (Some file) =
    (file, refl, record { before = refl; after = refl; no_shorter = omega arith; no_longer = omega arith })
