-- A copy of named files has the same contents.
use Rattle.std.proofs.Common.{◌≡◌, ℕ, Bool, List, Option, Some, None, String, option_map, string_bytes, ap, MatchOption, IsSomeAnd}
use Rattle.std.specs.Global as global
use Rattle.std.specs.BTreeMap.{is_at}
use Rattle.std.specs.Cmp.Lexicographic.{slice_cmp}
use Rattle.std.specs.Ordering.{nat_cmp}
use Rattle.std.specs.Map.{lookup}
use Rattle.std.specs.List.{AllZip}
use Rattle.std.proofs.lemmas.Map.Entries.{lookup_clone}

-- corresponding values have the same bytes
alike : (D : global.Vec ℕ → global.Vec ℕ → Type 0) → ((v w : global.Vec ℕ) → D v w → w.items ≡ v.items)
    → (old new : Option (global.Vec ℕ)) → MatchOption old (new ≡ None) (λ v. IsSomeAnd new (D v))
    → option_map (λ bytes. bytes.items) new ≡ option_map (λ bytes. bytes.items) old
alike D same None new none = ap (option_map (λ bytes. bytes.items)) none
alike D same (Some v) None some = absurd some
alike D same (Some v) (Some w) some = ap (λ (l : List ℕ). Some l) (same v w some)

pub same_bytes : (name : List ℕ) (C : String global.Global → String global.Global → Type 0)
    (D : global.Vec ℕ → global.Vec ℕ → Type 0)
    → ((x y : String global.Global) → C x y → string_bytes y ≡ string_bytes x)
    → ((v w : global.Vec ℕ) → D v w → w.items ≡ v.items)
    → (es fs : List (String global.Global × global.Vec ℕ)) → AllZip (λ p q. C p.0 q.0 × D p.1 q.1) es fs
    → option_map (λ bytes. bytes.items) (lookup (is_at (λ k. slice_cmp nat_cmp name (string_bytes k))) fs)
    ≡ option_map (λ bytes. bytes.items) (lookup (is_at (λ k. slice_cmp nat_cmp name (string_bytes k))) es)
same_bytes name C D keys values es fs clones =
    alike D values (lookup test es) (lookup test fs)
    (lookup_clone C D test (λ x y same. ap (λ (bytes : List ℕ). is_at (λ k. slice_cmp nat_cmp name k) bytes)
    (keys x y same)) es fs clones)
  where
    test : String global.Global → Bool
    test = is_at (λ k. slice_cmp nat_cmp name (string_bytes k))
