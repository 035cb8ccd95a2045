-- Effect of a map update on the files of the map.
use Rattle.std.proofs.Common.{◌≡◌, ◌≢◌, ℕ, List, Option, Some, String, string_bytes, option_map, true, false, sym, ◌∙◌, ap, subst, inl, inr}
use Rattle.std.specs.BTreeMap.{BTreeMap, UpdatesBy, get_by_text}
use Rattle.std.specs.String.{string_cmp}
use Rattle.std.specs.Str.{bytes_eq}
use Rattle.std.specs.Ordering.{nat_cmp}
use Rattle.std.specs.Cmp.Lexicographic.{slice_cmp}
use Rattle.std.specs.Global as global
use Rattle.std.proofs.lemmas.Map.Text.{btree_map_updates_text}
use Rattle.std.proofs.lemmas.Slice.Eq.{bytes_eq-Decides}
use Rattle.std.proofs.lemmas.Bool.{false_from_ne_true, cond-false, cases_Bool}
use Rattle.work_terms.specs.Disk.{Files, Changes}

abbrev pub Map : Type 0
Map = BTreeMap (String global.Global) (global.Vec ℕ)

abbrev pub bytes_in : Map → Files
bytes_in m name = option_map (λ bytes. bytes.items) (get_by_text m name)

-- the update sets the contents of this file and leaves all others unchanged
pub changes : (step : Option (List ℕ) → Option (List ℕ) → Type 0) (m n : Map) (name : List ℕ) (v : global.Vec ℕ)
    → UpdatesBy string_cmp (λ k. slice_cmp nat_cmp name (string_bytes k)) m n (Some v)
    → step (bytes_in m name) (Some v.items) → Changes step name (bytes_in m) (bytes_in n)
changes step m n name v updates does = record {
  here = subst (λ (o : Option (global.Vec ℕ)). step (bytes_in m name) (option_map (λ bytes. bytes.items) o))
      (sym updates.1) does;
  others = λ other apart. ap (option_map (λ bytes. bytes.items)) (kept other apart);
}
  where
    kept : (other : List ℕ) → other ≢ name → get_by_text n other ≡ get_by_text m other
    kept other apart =
        btree_map_updates_text name m n (Some v) updates other
        ∙ cond-false (bytes_eq name other) (Some v) (get_by_text m other)
        (false_from_ne_true _ (λ same. apart (sym ((bytes_eq-Decides name other).0 same))))

-- an update that keeps the contents changes no file
pub stays : (m n : Map) (name : List ℕ) (v : global.Vec ℕ)
    → UpdatesBy string_cmp (λ k. slice_cmp nat_cmp name (string_bytes k)) m n (Some v) → bytes_in m name ≡ Some v.items
    → (other : List ℕ) → bytes_in n other ≡ bytes_in m other
stays m n name v updates same other =
    let all = changes (λ old new. new ≡ old) m n name v updates (sym same) in
    elim (cases_Bool (bytes_eq name other)) [
      | inl is ↦ subst (λ (l : List ℕ). bytes_in n l ≡ bytes_in m l) ((bytes_eq-Decides name other).0 is) all.here
      | inr isnt ↦ all.others other (λ is. apart is isnt)
    ]
  where
    apart : other ≡ name → bytes_eq name other ≡ false → ⊥
    apart is isnt = let same : bytes_eq name other ≡ true = (bytes_eq-Decides name other).1 (sym is) in cc
