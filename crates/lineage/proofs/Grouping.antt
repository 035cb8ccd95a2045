-- Laws of groups, one entry after another.
use Rattle.std.proofs.Common.{◌≡◌, ◌∙◌, ◌+◌, ◌-◌, ◌<◌, ◌≤◌, ◌++◌, ◌∷◌, [], ◌||◌, ◌⊎◌, inl, inr, Bool, true, false, true≢false, cond, List, ℕ, ap, arith, filter, fold, if◌then◌else◌, length, length-append, length-take, map, nat_eq, not, refl, subst, sym, take}
use Rattle.std.specs.Prelude.{Option, None, Some, slice_get, ⊤}
use Rattle.std.proofs.lemmas.Bool.Decides.{nat_tests}
use Rattle.std.proofs.lemmas.List.{map-append, take-append-le, take_all}
use Rattle.std.specs.Cmp.Lexicographic.{pointwise}
use Rattle.std.specs.List.{list_any, position_or_len}
use Rattle.indexmap.specs.IndexSet.{insert_all, insert_key}
use Rattle.lineage.specs.declared.played.Played.{Played}
use Rattle.lineage.specs.declared.shared.Group.{Group}
use Rattle.lineage.specs.declared.shared.GroupedEntry.{GroupedEntry}
use Rattle.lineage.specs.Groups.{EndsWith, IsAgain, IsGrouped, Shown, group_of, grouped_in, groups_of, is_same, number_of, position_in, seen, shown, shown_in}
use Rattle.lineage.specs.declared.shared.Grouped.{Grouped}
use Rattle.lineage.specs.Lines.{PlayAlike}
use Rattle.lineage.specs.Played.{numbered, numbers_of, play_together}

one_test : (plays : Bool) (other : Played) (given : List Played) (rest : List ℕ) (last : List ℕ)
    → map (λ (e : Played). e.number) given ≡ rest ++ last
    → map (λ (e : Played). e.number) (cond plays (other ∷ given) given)
    ≡ (if plays then other.number ∷ rest else rest) ++ last
one_test true other given rest last is = ap (λ (ns : List ℕ). other.number ∷ ns) is
one_test false other given rest last is = is

first_test : (plays : Bool) (other : Played) (given : List Played)
    → (if plays then other.number ∷ map (λ (e : Played). e.number) given else map (λ (e : Played). e.number) given)
    ≡ map (λ (e : Played). e.number) (cond plays (other ∷ given) given)
first_test true other given = refl
first_test false other given = refl

last_test : (plays : Bool) (other : Played)
    → map (λ (e : Played). e.number) (cond plays (other ∷ []) []) ≡ (if plays then other.number ∷ [] else [])
last_test true other = refl
last_test false other = refl

-- One more given entry.
pub numbers_more : (entry : Played) (given : List Played) (other : Played)
    → numbers_of (given ++ other ∷ []) entry ≡ numbers_of given entry ++ number_of entry other
numbers_more entry [] other = last_test (play_together entry other) other
numbers_more entry (first ∷ given) other =
    one_test (play_together entry first) first (filter (play_together entry) (given ++ other ∷ []))
    (numbers_of given entry) (number_of entry other) (numbers_more entry given other)
    ∙ ap (λ (ns : List ℕ). ns ++ number_of entry other)
    (first_test (play_together entry first) first (filter (play_together entry) given))

-- Searching groups with an equal test gives the same result.
module _ (eq : Group → Group → Bool) (same : (a b : Group) → eq a b ≡ is_same (seen a) (seen b)) where
  any_seen : (group : Group) (groups : List Group) → list_any (eq group) groups ≡ list_any (is_same (seen group)) (map seen groups)
  any_seen group [] = refl
  any_seen group (first ∷ groups) = rw (same group first, any_seen group groups) refl

  pub position_seen : (group : Group) (groups : List Group)
      → position_or_len (eq group) groups ≡ position_in (map seen groups) (seen group)
  position_seen group [] = refl
  position_seen group (first ∷ groups) = rw (same group first, position_seen group groups) refl

  pub insert_seen : (group : Group) (groups : List Group)
      → map seen (insert_key eq groups group) ≡ insert_key is_same (map seen groups) (seen group)
  insert_seen group groups = rw (any_seen group groups) (by_test (list_any (is_same (seen group)) (map seen groups))) where
    by_test : (b : Bool) → map seen (if b then groups else groups ++ group ∷ [])
        ≡ (if b then map seen groups else map seen groups ++ seen group ∷ [])
    by_test true = refl
    by_test false = map-append seen groups (group ∷ [])

all_same : (xs : List ℕ) → pointwise nat_eq xs xs ≡ true
all_same [] = refl
all_same (x ∷ xs) =
    let one : nat_eq x x ≡ true = grind (arith, nat_tests) in
    rw (one, all_same xs) refl

is_itself : (group : Shown) → is_same group group ≡ true
is_itself group =
    let one : nat_eq group.1 group.1 ≡ true = grind (arith, nat_tests) in
    rw (all_same group.0, one) refl

true_or_false : (b : Bool) → (b ≡ true) ⊎ (b ≡ false)
true_or_false true = inl refl
true_or_false false = inr refl

-- Appending a group doesn't change its position, even if the group was past the end.
position_last : (group : Shown) (groups : List Shown)
    → position_in (groups ++ group ∷ []) group ≡ position_in groups group
position_last group [] = rw (is_itself group) refl
position_last group (first ∷ groups) =
    ap (λ (n : ℕ). cond (not (is_same group first)) (1 + n) 0) (position_last group groups)

pub position_own : (group : Shown) (groups : List Shown)
    → position_in (insert_key is_same groups group) group ≡ position_in groups group
position_own group groups = by_test (list_any (is_same group) groups) where
  by_test : (b : Bool) → position_in (if b then groups else groups ++ group ∷ []) group ≡ position_in groups group
  by_test true = refl
  by_test false = position_last group groups

or_false : (b : Bool) → (b || false) ≡ b
or_false true = refl
or_false false = refl

or_more : (a b c : Bool) → (a || (b || c)) ≡ ((a || b) || c)
or_more true b c = refl
or_more false b c = refl

any_last : (group one : Shown) (groups : List Shown)
    → list_any (is_same group) (groups ++ one ∷ []) ≡ (list_any (is_same group) groups || is_same group one)
any_last group one [] = or_false (is_same group one)
any_last group one (first ∷ groups) =
    ap (λ (b : Bool). is_same group first || b) (any_last group one groups)
    ∙ or_more (is_same group first) (list_any (is_same group) groups) (is_same group one)

-- An existing group stays in its place.
any_kept : (group one : Shown) (groups : List Shown) → list_any (is_same group) groups ≡ true
    → list_any (is_same group) (insert_key is_same groups one) ≡ true
any_kept group one groups there = by_test (list_any (is_same one) groups) where
  by_test : (b : Bool) → list_any (is_same group) (if b then groups else groups ++ one ∷ []) ≡ true
  by_test true = there
  by_test false = any_last group one groups ∙ ap (λ (b : Bool). b || is_same group one) there

any_own : (group : Shown) (groups : List Shown) → list_any (is_same group) (insert_key is_same groups group) ≡ true
any_own group groups = by_test (true_or_false (list_any (is_same group) groups)) where
  or_true : (b : Bool) → (b || true) ≡ true
  or_true true = refl
  or_true false = refl

  by_test : (list_any (is_same group) groups ≡ true) ⊎ (list_any (is_same group) groups ≡ false)
      → list_any (is_same group) (insert_key is_same groups group) ≡ true
  by_test (inl there) = rw there there
  by_test (inr absent) =
      rw absent (any_last group group groups ∙ rw (is_itself group) (or_true (list_any (is_same group) groups)))

one_position : (b any : Bool) (n m : ℕ) → (b || any) ≡ true → (any ≡ true → n ≡ m)
    → cond (not b) (1 + n) 0 ≡ cond (not b) (1 + m) 0
one_position true any n m there same = refl
one_position false any n m there same = ap (λ (n : ℕ). 1 + n) (same there)

position_kept : (group one : Shown) (groups : List Shown) → list_any (is_same group) groups ≡ true
    → position_in (groups ++ one ∷ []) group ≡ position_in groups group
position_kept group one [] there = absurd (true≢false (sym there))
position_kept group one (first ∷ groups) there =
    one_position (is_same group first) (list_any (is_same group) groups) (position_in (groups ++ one ∷ []) group)
    (position_in groups group) there (position_kept group one groups)

position_stays : (group one : Shown) (groups : List Shown) → list_any (is_same group) groups ≡ true
    → position_in groups group ≡ position_in (insert_key is_same groups one) group
position_stays group one groups there = by_test (list_any (is_same one) groups) where
  by_test : (b : Bool) → position_in groups group ≡ position_in (if b then groups else groups ++ one ∷ []) group
  by_test true = refl
  by_test false = sym (position_kept group one groups there)

-- The groups of these entries exist.
abbrev pub AreThere : List Played → List Shown → List Played → Type 0
AreThere given groups [] = ⊤
AreThere given groups (entry ∷ entries) =
    (list_any (is_same (group_of given entry)) groups ≡ true) × AreThere given groups entries

module _ (given : List Played) (groups : List Shown) (entry : Played) where
  same_positions : (entries : List Played) → AreThere given groups entries
      → map (grouped_in groups given) entries
      ≡ map (grouped_in (insert_key is_same groups (group_of given entry)) given) entries
  same_positions [] there = refl
  same_positions (first ∷ entries) there =
      rw (position_stays (group_of given first) (group_of given entry) groups there.0, same_positions entries there.1) refl

  pub there_more : (entries : List Played) → AreThere given groups entries
      → AreThere given (insert_key is_same groups (group_of given entry)) (entries ++ entry ∷ [])
  there_more [] there = (any_own (group_of given entry) groups, tt)
  there_more (first ∷ entries) there =
      (any_kept (group_of given first) (group_of given entry) groups there.0, there_more entries there.1)

  pub entries_more : (entries : List Played) → AreThere given groups entries
      → map (grouped_in groups given) entries
      ++ grouped_in (insert_key is_same groups (group_of given entry)) given entry ∷ []
      ≡ map (grouped_in (insert_key is_same groups (group_of given entry)) given) (entries ++ entry ∷ [])
  entries_more entries there =
      ap (λ (now : List GroupedEntry). now ++ grouped_in (insert_key is_same groups (group_of given entry)) given entry ∷ [])
      (same_positions entries there)
      ∙ sym (map-append (grouped_in (insert_key is_same groups (group_of given entry)) given) entries (entry ∷ []))

fold_more : {A B : Type 0} (step : B → A → B) (start : B) (xs : List A) (x : A)
    → step (fold step start xs) x ≡ fold step start (xs ++ x ∷ [])
fold_more step start [] x = refl
fold_more step start (y ∷ xs) x = fold_more step (step start y) xs x

pub groups_more : (given entries : List Played) (entry : Played)
    → insert_key is_same (groups_of given entries) (group_of given entry) ≡ groups_of given (entries ++ entry ∷ [])
groups_more given entries entry =
    fold_more (insert_key is_same) [] (map (group_of given) entries) (group_of given entry)
    ∙ ap (insert_all is_same []) (sym (map-append (group_of given) entries (entry ∷ [])))

-- One more entry.
pub entry_step : (given done : List Played) (entry : Played) (old new : List Shown) (before after : List GroupedEntry)
    → old ≡ groups_of given done → before ≡ map (grouped_in (groups_of given done) given) done
    → AreThere given (groups_of given done) done → new ≡ insert_key is_same old (group_of given entry)
    → after ≡ before ++ grouped_in new given entry ∷ []
    → (new ≡ groups_of given (done ++ entry ∷ []))
    × (after ≡ map (grouped_in (groups_of given (done ++ entry ∷ [])) given) (done ++ entry ∷ []))
    × AreThere given (groups_of given (done ++ entry ∷ [])) (done ++ entry ∷ [])
entry_step given done entry old new before after was had there put added =
    let now = insert_key is_same (groups_of given done) (group_of given entry) in
    let same : now ≡ groups_of given (done ++ entry ∷ []) = groups_more given done entry in
    let is : new ≡ now = put ∙ ap (λ (groups : List Shown). insert_key is_same groups (group_of given entry)) was in (
      is ∙ same,
      added ∙ ap (λ (groups : List Shown). before ++ grouped_in groups given entry ∷ []) is
          ∙ ap (λ (entries : List GroupedEntry). entries ++ grouped_in now given entry ∷ []) had
          ∙ entries_more given (groups_of given done) entry done there
          ∙ ap (λ (groups : List Shown). map (grouped_in groups given) (done ++ entry ∷ [])) same,
      subst (λ (groups : List Shown). AreThere given groups (done ++ entry ∷ [])) same
          (there_more given (groups_of given done) entry done there),
    )

-- One more number.
pub shown_named : (numbers : List ℕ) (number : ℕ) → length numbers < 1000
    → shown (numbers ++ number ∷ []) ≡ (numbers ++ number ∷ [], 0)
shown_named numbers number few =
    let all : take 1000 (numbers ++ number ∷ []) ≡ numbers ++ number ∷ [] =
    take_all 1000 (numbers ++ number ∷ []) (omega (arith, length-append numbers (number ∷ []), few)) in
    let none : length (numbers ++ number ∷ []) - 1000 ≡ 0 = omega (arith, length-append numbers (number ∷ []), few) in
    rw (all, none) refl

pub shown_more : (numbers : List ℕ) (number : ℕ) → 1000 ≤ length numbers
    → shown (numbers ++ number ∷ []) ≡ (take 1000 numbers, (length numbers - 1000) + 1)
shown_more numbers number many =
    let same : take 1000 (numbers ++ number ∷ []) ≡ take 1000 numbers = take-append-le 1000 numbers (number ∷ []) many in
    let one : length (numbers ++ number ∷ []) - 1000 ≡ (length numbers - 1000) + 1 =
    omega (arith, length-append numbers (number ∷ []), many) in
    rw (same, one) refl

pub add_named : (numbers given : List ℕ) (more number : ℕ) → (given, more) ≡ shown numbers → length given < 1000
    → (given ++ number ∷ [], more) ≡ shown (numbers ++ number ∷ [])
add_named numbers given more number same few =
    let named : given ≡ take 1000 numbers = ap (λ (s : Shown). s.0) same in
    let rest : more ≡ length numbers - 1000 = ap (λ (s : Shown). s.1) same in
    let short : length numbers < 1000 = omega (arith, ap length named, length-take 1000 numbers, few) in
    let all : given ≡ numbers = named ∙ take_all 1000 numbers (omega (arith, short)) in
    let none : more ≡ 0 = omega (arith, rest, short) in
    rw (all, none) (sym (shown_named numbers number short))

pub add_more : (numbers given : List ℕ) (more number : ℕ) → (given, more) ≡ shown numbers → 1000 ≤ length given
    → (given, more + 1) ≡ shown (numbers ++ number ∷ [])
add_more numbers given more number same many =
    let named : given ≡ take 1000 numbers = ap (λ (s : Shown). s.0) same in
    let rest : more ≡ length numbers - 1000 = ap (λ (s : Shown). s.1) same in
    let long : 1000 ≤ length numbers = omega (arith, ap length named, length-take 1000 numbers, many) in
    rw (named, rest) (sym (shown_more numbers number long))

-- An entry that plays the same has the same group.
pub again_as : (given : List Played) (grouped : Grouped) (last entry : Played) (position : ℕ)
    → entry ≡ numbered entry.number last → IsAgain given grouped last position → IsAgain given grouped entry position
again_as given grouped last entry position same again =
    let group : group_of given last ≡ group_of given entry = sym (ap (group_of given) same) in
    record {
      there = subst (λ (g : Shown). list_any (is_same g) (shown_in grouped) ≡ true) group again.there;
      is_position = again.is_position ∙ ap (position_in (shown_in grouped)) group;
    }

slice_get-last : {X : Type 0} (xs : List X) (x : X) → slice_get (xs ++ x ∷ []) (length xs) ≡ Some x
slice_get-last [] x = refl
slice_get-last (y ∷ xs) x = slice_get-last xs x

abbrev group_in : Option GroupedEntry → ℕ
group_in None = 0
group_in (Some entry) = entry.group

-- An entry that was added is the last one.
pub ends_with_put : (given : List Played) (entry : Played) (old : List GroupedEntry) (before : List Shown) (grouped : Grouped)
    → shown_in grouped ≡ insert_key is_same before (group_of given entry)
    → grouped.entries.items ≡ old ++ grouped_in (shown_in grouped) given entry ∷ []
    → EndsWith given (Some entry) grouped
ends_with_put given entry old before grouped put added = λ last found.
    let long : length grouped.entries.items - 1 ≡ length old =
    omega (arith, ap length added, length-append old (grouped_in (shown_in grouped) given entry ∷ [])) in
    let is : Some (grouped_in (shown_in grouped) given entry) ≡ Some last =
    sym (slice_get-last old (grouped_in (shown_in grouped) given entry))
    ∙ ap (λ (es : List GroupedEntry). slice_get es (length old)) (sym added)
    ∙ ap (slice_get grouped.entries.items) (sym long) ∙ found in
    record {
      there = rw put (any_own (group_of given entry) before);
      is_position = ap (λ (e : Option GroupedEntry). group_in e) (sym is);
    }

map_alike : {X Y : Type 0} (f g : X → Y) → ((x : X) → f x ≡ g x) → (xs : List X) → map f xs ≡ map g xs
map_alike f g same [] = refl
map_alike f g same (x ∷ xs) = rw (same x, map_alike f g same xs) refl

-- The groups from lists that yield the same numbers.
pub grouped_alike : (given others entries : List Played) (grouped : Grouped) → PlayAlike others given
    → IsGrouped others entries grouped → IsGrouped given entries grouped
grouped_alike given others entries grouped alike is =
    let same : (entry : Played) → group_of others entry ≡ group_of given entry = λ entry. ap shown (alike entry) in
    let groups : groups_of others entries ≡ groups_of given entries =
    ap (insert_all is_same []) (map_alike (group_of others) (group_of given) same entries) in
    record {
      groups_are = is.groups_are ∙ groups;
      entries_are =
          is.entries_are
          ∙ ap (λ (all : List Shown). map (grouped_in all others) entries) groups
          ∙ map_alike (grouped_in (groups_of given entries) others) (grouped_in (groups_of given entries) given)
          (λ entry. ap
          (λ (g : Shown). record { number = entry.number; group = position_in (groups_of given entries) g })
          (same entry)) entries;
    }
