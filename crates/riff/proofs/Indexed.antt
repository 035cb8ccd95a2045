-- Index of the `ds64` table, entry by entry.
use Rattle.std.proofs.Common.{◌≡◌, ℕ, zero, suc, ◌+◌, ◌*◌, ◌<◌, Bool, true, false, ◌==◌, List, [], ◌∷◌, ◌++◌, Option, None, Some, option_map, is_some, if◌then◌else◌, take, drop, refl, sym, ap, subst, ◌∙◌, arith, bytes_eq, lit<, cond, eq-eqb}
use Rattle.std.specs.Option.{option_or}
use Rattle.std.specs.List.{find}
use Rattle.std.specs.BTreeMap.{get, BTreeMap, Updates}
use Rattle.std.specs.Ordering.{nat_cmp}
use Rattle.std.specs.Cmp.{unsigned_tied}
use Rattle.std.proofs.lemmas.Bool.{ne_eqb}
use Rattle.std.proofs.lemmas.List.{drop-drop}
use Rattle.std.proofs.lemmas.List.Folds.{find-append}
use Rattle.std.proofs.lemmas.Slice.Eq.{bytes_eq-Decides}
use Rattle.byteorder.specs.Endian.{little_number}
use Rattle.sound_terms.specs.Chunks.{table_of}
use Rattle.riff.specs.declared.entry.Entry.{Entry}
use Rattle.riff.specs.Ids.{IsId}
use Rattle.riff.specs.Sizes.{HasEntry, IsIndexed, entry_size}

-- ---- ids and their numbers

-- a number determines its lowest byte and the number of the other bytes
digits : (a b c d : ℕ) → a < 256 → b < 256 → a + 256 * c ≡ b + 256 * d → (a ≡ b) × (c ≡ d)
digits a b c d first second same =
    let low : a ≡ b = omega arith in
    (low, omega arith)

-- ids with equal numbers are equal
same_id : (x y : List ℕ) → IsId x → IsId y → little_number 4 x ≡ little_number 4 y → x ≡ y
same_id (a ∷ b ∷ c ∷ d ∷ []) (e ∷ f ∷ g ∷ h ∷ []) is_x is_y same =
    let one = digits a e _ _ (is_x.bytes 0 0 (lit< tt)) (is_y.bytes 0 0 (lit< tt)) same in
    let two = digits b f _ _ (is_x.bytes 1 0 (lit< tt)) (is_y.bytes 1 0 (lit< tt)) one.1 in
    let three = digits c g _ _ (is_x.bytes 2 0 (lit< tt)) (is_y.bytes 2 0 (lit< tt)) two.1 in
    let four = digits d h 0 0 (is_x.bytes 3 0 (lit< tt)) (is_y.bytes 3 0 (lit< tt)) three.1 in
    rw (one.0, two.0, three.0, four.0) refl
same_id [] y is_x is_y same = absurd (let four = is_x.four in omega (arith, four))
same_id (a ∷ []) y is_x is_y same = absurd (let four = is_x.four in omega (arith, four))
same_id (a ∷ b ∷ []) y is_x is_y same = absurd (let four = is_x.four in omega (arith, four))
same_id (a ∷ b ∷ c ∷ []) y is_x is_y same = absurd (let four = is_x.four in omega (arith, four))
same_id (a ∷ b ∷ c ∷ d ∷ i ∷ rest) y is_x is_y same = absurd (let four = is_x.four in omega (arith, four))
same_id (a ∷ b ∷ c ∷ d ∷ []) _ is_x is_y same = absurd (let four = is_y.four in omega (arith, four))

-- ---- one entry more

table_of-more : (n : ℕ) (bytes : List ℕ)
    → table_of (n + 1) bytes
    ≡ table_of n bytes ++ (take 4 (drop (12 * n) bytes), little_number 8 (drop 4 (drop (12 * n) bytes))) ∷ []
table_of-more zero bytes = refl
table_of-more (suc n) bytes =
    let count : suc n + 1 ≡ suc (n + 1) = omega arith in
    let place : drop (12 * n) (drop 12 bytes) ≡ drop (12 * suc n) bytes =
    drop-drop (12 * n) 12 bytes ∙ ap (λ k. drop k bytes) (omega arith) in
    let first : List ℕ × ℕ = (take 4 bytes, little_number 8 (drop 4 bytes)) in
    ap (λ k. table_of k bytes) count
    ∙ ap (λ (rest : List (List ℕ × ℕ)). first ∷ rest) (table_of-more n (drop 12 bytes)
    ∙ ap (λ (rest : List ℕ). table_of n (drop 12 bytes) ++ (take 4 rest, little_number 8 (drop 4 rest)) ∷ []) place)

-- size in the first entry with an id
abbrev size_in : List ℕ → List (List ℕ × ℕ) → Option ℕ
size_in id table = option_map (λ entry. entry.1) (find (λ entry. bytes_eq entry.0 id) table)

map-option_or : (a b : Option (List ℕ × ℕ))
    → option_map (λ entry. entry.1) (option_or a b)
    ≡ option_or (option_map (λ entry. entry.1) a) (option_map (λ entry. entry.1) b)
map-option_or None b = refl
map-option_or (Some entry) b = refl

size_in-append : (id : List ℕ) (xs ys : List (List ℕ × ℕ))
    → size_in id (xs ++ ys) ≡ option_or (size_in id xs) (size_in id ys)
size_in-append id xs ys = rw find-append (map-option_or _ _)

size_in-one : (id : List ℕ) (entry : Entry) (same : Bool) → bytes_eq entry.id id ≡ same
    → size_in id ((entry.id, entry.size) ∷ []) ≡ (if same then Some entry.size else None)
size_in-one id entry true is = rw is refl
size_in-one id entry false is = rw is refl

entry_size-more : (file : List ℕ) (n : ℕ) (id : List ℕ) (entry : Entry) (same : Bool)
    → HasEntry file (48 + 12 * n) entry → bytes_eq entry.id id ≡ same
    → entry_size file (n + 1) id ≡ option_or (entry_size file n id) (if same then Some entry.size else None)
entry_size-more file n id entry same has is =
    let table = table_of n (drop 48 file) in
    let place : drop (12 * n) (drop 48 file) ≡ drop (48 + 12 * n) file = drop-drop (12 * n) 48 file in
    let told : little_number 8 (drop 4 (drop (48 + 12 * n) file)) ≡ entry.size =
    ap (little_number 8) (drop-drop 4 (48 + 12 * n) file) ∙ sym has.size in
    let more : table_of (n + 1) (drop 48 file) ≡ table ++ (entry.id, entry.size) ∷ [] =
    table_of-more n (drop 48 file)
    ∙ ap (λ (rest : List ℕ). table ++ (take 4 rest, little_number 8 (drop 4 rest)) ∷ []) place
    ∙ ap (λ (size : ℕ). table ++ (take 4 (drop (48 + 12 * n) file), size) ∷ []) told
    ∙ ap (λ (x : List ℕ). table ++ (x, entry.size) ∷ []) (sym has.id) in
    ap (size_in id) more ∙ size_in-append id table ((entry.id, entry.size) ∷ [])
    ∙ ap (option_or (size_in id table)) (size_in-one id entry same is)

-- ---- the index

-- result of a lookup after an insertion
looked : (map next : BTreeMap ℕ ℕ) (key size q : ℕ) → Updates nat_cmp map next key (Some size)
    → get nat_cmp next q ≡ (if key == q then Some size else get nat_cmp map q)
looked map next key size q put =
    put.0 q ∙ ap (λ b. cond b (Some size) (get nat_cmp map q)) (unsigned_tied key q)

or-none : (x : Option ℕ) → x ≡ option_or x None
or-none None = refl
or-none (Some n) = refl

or-taken : (x y : Option ℕ) → is_some x ≡ true → x ≡ option_or x y
or-taken (Some n) y some = refl
or-taken None y some = cc

none_found : (x : Option ℕ) → is_some x ≡ false → x ≡ None
none_found None none = refl
none_found (Some n) none = cc

-- an entry whose id is already present
pub index_kept : (file : List ℕ) (n : ℕ) (entry : Entry) (map : BTreeMap ℕ ℕ) → HasEntry file (48 + 12 * n) entry
    → IsId entry.id → IsIndexed file n map → is_some (get nat_cmp map (little_number 4 entry.id)) ≡ true
    → IsIndexed file (n + 1) map
index_kept file n entry map has is_entry before there id is = by_id (bytes_eq entry.id id) refl where
  by_id : (same : Bool) → bytes_eq entry.id id ≡ same
      → get nat_cmp map (little_number 4 id) ≡ entry_size file (n + 1) id
  by_id false other = before id is ∙ or-none _ ∙ sym (entry_size-more file n id entry false has other)
  by_id true this =
      let same : entry.id ≡ id = (bytes_eq-Decides entry.id id).0 this in
      let some : is_some (entry_size file n id) ≡ true =
      ap is_some (sym (before id is)) ∙ subst (λ x. is_some (get nat_cmp map (little_number 4 x)) ≡ true) same there in
      before id is ∙ or-taken _ (Some entry.size) some ∙ sym (entry_size-more file n id entry true has this)

-- an entry whose id is inserted
pub index_put : (file : List ℕ) (n : ℕ) (entry : Entry) (map next : BTreeMap ℕ ℕ)
    → HasEntry file (48 + 12 * n) entry → IsId entry.id → IsIndexed file n map
    → is_some (get nat_cmp map (little_number 4 entry.id)) ≡ false
    → Updates nat_cmp map next (little_number 4 entry.id) (Some entry.size)
    → IsIndexed file (n + 1) next
index_put file n entry map next has is_entry before none put id is = by_id (bytes_eq entry.id id) refl where
  by_id : (same : Bool) → bytes_eq entry.id id ≡ same
      → get nat_cmp next (little_number 4 id) ≡ entry_size file (n + 1) id
  by_id false other =
      let apart : (little_number 4 entry.id == little_number 4 id) ≡ false =
      ne_eqb (little_number 4 entry.id) (little_number 4 id) (λ e.
      let same = (bytes_eq-Decides entry.id id).1 (same_id entry.id id is_entry is e) in cc) in
      looked map next (little_number 4 entry.id) entry.size (little_number 4 id) put
      ∙ ap (λ b. if b then Some entry.size else get nat_cmp map (little_number 4 id)) apart
      ∙ before id is ∙ or-none _ ∙ sym (entry_size-more file n id entry false has other)
  by_id true this =
      let same : entry.id ≡ id = (bytes_eq-Decides entry.id id).0 this in
      let number : little_number 4 entry.id ≡ little_number 4 id = ap (little_number 4) same in
      let first : entry_size file n id ≡ None =
      sym (before id is) ∙ ap (get nat_cmp map) (sym number) ∙ none_found _ none in
      looked map next (little_number 4 entry.id) entry.size (little_number 4 id) put
      ∙ ap (λ b. if b then Some entry.size else get nat_cmp map (little_number 4 id))
      (eq-eqb (little_number 4 entry.id) (little_number 4 id) number)
      ∙ ap (λ (x : Option ℕ). option_or x (Some entry.size)) (sym first)
      ∙ sym (entry_size-more file n id entry true has this)
