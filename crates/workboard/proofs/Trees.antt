-- If a node of the tree isn't set, no leaf below it is.
use Rattle.std.proofs.lemmas.Bool.{cases_eq, cases_lt}
use Rattle.std.proofs.Common.{replicate, ◌^◌, ◌≡◌, ◌≢◌, ℕ, zero, suc, ◌+◌, ◌-◌, ◌*◌, ◌<◌, ◌≤◌, Bool, true, false, ◌||◌, List, length, get_or, set, take, drop, refl, sym, ap, ◌∙◌, subst, inl, inr, arith, get_or-set_other, get_or-set_same, length-set, length-drop}
use Rattle.std.proofs.lemmas.List.{get_or-take, get_or-drop, length-take, ext_get_or, get_or_default, get_or_past, get_or-replicate, length-replicate}
use Rattle.workboard.specs.Tree.{leftmost, flag_at, Tells, IsTree, IsLeading}

-- leftmost descendants of a doubled node
pub leftmost-double : (d k : ℕ) → leftmost d (2 * k) ≡ 2 * leftmost d k
leftmost-double zero k = refl
leftmost-double (suc d) k = leftmost-double d (2 * k)

pub leftmost-more : (h k : ℕ) → leftmost (h + 1) k ≡ leftmost h (2 * k)
leftmost-more h k = let e : h + 1 ≡ suc h = omega arith in ap (λ d. leftmost d k) e

pub leftmost-rises : (d j k : ℕ) → j ≤ k → leftmost d j ≤ leftmost d k
leftmost-rises zero j k le = le
leftmost-rises (suc d) j k le = leftmost-rises d (2 * j) (2 * k) (omega (arith, le))

pub leftmost-above : (d k : ℕ) → k ≤ leftmost d k
leftmost-above zero k = omega arith
leftmost-above (suc d) k = omega (arith, leftmost-above d (2 * k))

-- the leftmost descendant by way of the left child
pub leftmost-down : (h l k : ℕ) → l < h → leftmost (h - l) k ≡ leftmost (h - (l + 1)) (2 * k)
leftmost-down h l k lt = let e : h - l ≡ suc (h - (l + 1)) = omega arith in ap (λ d. leftmost d k) e

or-false_left : (a b : Bool) → (a || b) ≡ false → a ≡ false
or-false_left true b e = e
or-false_left false b e = refl

or-false_right : (a b : Bool) → (a || b) ≡ false → b ≡ false
or-false_right true b e = absurd (cc)
or-false_right false b e = e

pub or-true_right : (a b : Bool) → (a || b) ≡ true → a ≡ false → b ≡ true
or-true_right true b e f = absurd (cc)
or-true_right false b e f = e

pub silent : (marks : List Bool) (size : ℕ) (tells : (k : ℕ) → 1 ≤ k → k < size → Tells marks k) (d k : ℕ)
    → 1 ≤ k → leftmost d (k + 1) ≤ 2 * size → flag_at marks k ≡ false
    → (j : ℕ) → leftmost d k ≤ j → j < leftmost d (k + 1) → flag_at marks j ≡ false
silent marks size tells zero k some ends off j from to =
    let e : j ≡ k = omega arith in ap (λ i. flag_at marks i) e ∙ off
silent marks size tells (suc d) k some ends off j from to =
    let twice : leftmost d (2 * (k + 1)) ≡ leftmost d (2 * k + 1 + 1) = ap (leftmost d) (omega arith) in
    let inner : k < size = omega (arith, leftmost-above d (2 * (k + 1)), ends) in
    let both : (flag_at marks (2 * k) || flag_at marks (2 * k + 1)) ≡ false = sym (tells k some inner) ∙ off in
    elim (cases_lt j (leftmost d (2 * k + 1))) [
      | inl lt ↦ silent marks size tells d (2 * k) (omega arith)
          (omega (arith, leftmost-rises d (2 * k + 1) (2 * (k + 1)) (omega arith), ends))
          (or-false_left (flag_at marks (2 * k)) (flag_at marks (2 * k + 1)) both) j from lt
      | inr le ↦ silent marks size tells d (2 * k + 1) (omega arith) (omega (arith, twice, ends))
          (or-false_right (flag_at marks (2 * k)) (flag_at marks (2 * k + 1)) both) j le (omega (arith, twice, to))
    ]

-- the root is set, as the padding is
pub root : (marks : List Bool) (height size count : ℕ) → IsTree marks height size count → flag_at marks 1 ≡ true
root marks height size count t = go (flag_at marks 1) refl
  where
    go : (b : Bool) → flag_at marks 1 ≡ b → b ≡ true
    go true e = refl
    go false e = absurd (apart (sym (t.padded (size + count) (omega arith))
        ∙ silent marks size t.tells height 1 (omega arith) (omega (arith, leftmost-double height 1, t.levels))
        e (size + count) (omega (arith, t.levels)) (omega (arith, leftmost-double height 1, t.levels, t.room))))
      where
        apart : true ≡ false → ⊥
        apart h = cc

-- a flag as contracts see it is the leaf at its index
pub seen-at : (marks : List Bool) (size count k : ℕ) → length marks ≡ 2 * size → count ≤ size → k < count
    → get_or (take count (drop size marks)) k false ≡ flag_at marks (size + k)
seen-at marks size count k whole room lt =
    get_or-take count (drop size marks) k false lt ∙ get_or-drop size marks k false
    ∙ get_or_default marks (size + k) false true (omega arith)

-- the flags of a tree whose nodes are all set
pub all-set : (count size : ℕ) → count ≤ size → take count (drop size (replicate (2 * size) true)) ≡ replicate count
    true
all-set count size le = ext_get_or false (take count (drop size (replicate (2 * size) true))) (replicate count true)
    (lengths ∙ sym (length-replicate count true))
    (λ i lt. get_or-take count (drop size (replicate (2 * size) true)) i false (below i lt)
    ∙ get_or-drop size (replicate (2 * size) true) i false
    ∙ get_or-replicate (2 * size) (size + i) true false (inside i (below i lt))
    ∙ sym (get_or-replicate count i true false (below i lt)))
  where
    lengths : length (take count (drop size (replicate (2 * size) true))) ≡ count
    lengths = omega (arith, length-take {A = Bool}, length-drop {A = Bool}, length-replicate {A = Bool})

    below : (i : ℕ) → i < length (take count (drop size (replicate (2 * size) true))) → i < count
    below i lt = omega (arith, lengths)

    inside : (i : ℕ) → i < count → size + i < 2 * size
    inside i lt = omega arith

pub replicate-tree : (height size count : ℕ) → leftmost height 1 ≡ size → 1 ≤ size → size < 2 ^ 34 → count < size
    → height < 2 ^ 34 → IsTree (replicate (2 * size) true) height size count
replicate-tree height size count levels some few room high = record {
  high = high;
  levels = levels;
  whole = length-replicate (2 * size) true;
  some = some;
  few = few;
  room = room;
  tells = λ k from to. flag k ∙ sym (ap (λ b. b || flag_at (replicate (2 * size) true) (2 * k + 1)) (flag (2 * k)));
  padded = λ k _. flag k;
}
  where
    flag : (k : ℕ) → flag_at (replicate (2 * size) true) k ≡ true
    flag k = elim (cases_lt k (2 * size)) [
      | inl lt ↦ get_or-replicate (2 * size) k true true lt
      | inr le ↦ get_or_past (replicate (2 * size) true) k true (omega (arith, length-replicate (2 * size) true))
    ]

-- the flags after one leaf is set
pub leaf-set : (old new : List Bool) (size count at : ℕ) (flag : Bool) → length old ≡ 2 * size → length new ≡ 2 * size
    → count < size → at < count → ((j : ℕ) → size ≤ j → flag_at new j ≡ flag_at (set old (size + at) flag) j)
    → take count (drop size new) ≡ set (take count (drop size old)) at flag
leaf-set old new size count at flag was is room lt same =
    ext_get_or false (take count (drop size new)) (set (take count (drop size old)) at flag)
    (omega (arith, length-take {A = Bool}, length-drop {A = Bool}, length-set {A = Bool}))
    (λ i lt. each i (omega (arith, lt, length-take {A = Bool}, length-drop {A = Bool})))
  where
    each : (i : ℕ) → i < count → get_or (take count (drop size new)) i false ≡ get_or
        (set (take count (drop size old)) at flag) i false
    each i lt = seen-at new size count i is (omega arith) lt ∙ same (size + i) (omega arith) ∙ elim (cases_eq i at) [
      | inl e ↦ let shown : length (take count (drop size old)) ≡ count = omega (
        arith,
        length-take {A = Bool},
        length-drop {A = Bool},
      ) in
          let here : size + i ≡ size + at = omega arith in
          ap (λ j. flag_at (set old (size + at) flag) j) here
          ∙ get_or-set_same old (size + at) flag true (omega arith)
          ∙ sym (ap (λ j. get_or (set (take count (drop size old)) at flag) j false) e ∙ get_or-set_same
          (take count (drop size old)) at flag false (omega arith))
      | inr ne ↦ let apart : size + i ≢ size + at = λ h. ne (omega arith) in
          get_or-set_other old (size + at) (size + i) flag true apart
          ∙ sym (get_or-set_other (take count (drop size old)) at i flag false ne ∙ seen-at old size count i was
          (omega arith) lt)
    ]

pub leading-root : (marks : List Bool) (height size count : ℕ) → IsTree marks height size count
    → IsLeading marks size (height - 0) 1
leading-root marks height size count t = subst (λ d. IsLeading marks size d 1) {x = height} (omega arith) (record {
  some = omega arith;
  on = root marks height size count t;
  ends = omega (arith, leftmost-double height 1, t.levels);
  begins = omega (arith, t.levels);
  silent = λ j from to. absurd (omega (arith, from, to, t.levels));
})

-- the node is above the leaves
pub leading-inside : (marks : List Bool) (size height l node : ℕ) → l < height → IsLeading marks size (height - l) node
    → node < size
leading-inside marks size height l node lt t =
    omega (arith, leftmost-down height l (node + 1) lt, t.ends, leftmost-above (height - (l + 1)) (2 * (node + 1)))

pub leading-left : (marks : List Bool) (size height l node : ℕ) → l < height → IsLeading marks size (height - l) node
    → flag_at marks (node * 2) ≡ true → IsLeading marks size (height - (l + 1)) (node * 2)
leading-left marks size height l node lt t on = record {
  some = omega (arith, t.some);
  on = on;
  ends = omega (arith, ends, leftmost-rises (height - (l + 1)) (node * 2 + 1) (2 * (node + 1)) (omega arith), t.ends);
  begins = omega (arith, begins, t.begins);
  silent = λ j from to. t.silent j from (omega (arith, begins, to));
}
  where
    ends : leftmost (height - l) (node + 1) ≡ leftmost (height - (l + 1)) (2 * (node + 1))
    ends = leftmost-down height l (node + 1) lt

    begins : leftmost (height - l) node ≡ leftmost (height - (l + 1)) (node * 2)
    begins = leftmost-down height l node lt ∙ ap (leftmost (height - (l + 1))) (omega arith)

pub leading-right : (marks : List Bool) (size height l node : ℕ) → ((k : ℕ) → 1 ≤ k → k < size → Tells marks k)
    → l < height → IsLeading marks size (height - l) node → flag_at marks (node * 2) ≡ false
    → IsLeading marks size (height - (l + 1)) (node * 2 + 1)
leading-right marks size height l node tells lt t off = record {
  some = omega arith;
  on = ap (λ k. flag_at marks (k + 1)) (sym twice) ∙ or-true_right (flag_at marks (2 * node)) (flag_at marks
      (2 * node + 1)) (sym (tells node t.some (leading-inside marks size height l node lt t)) ∙ t.on)
      (ap (flag_at marks) twice ∙ off);
  ends = omega (arith, ends, whole);
  begins = omega (arith, begins, t.begins, leftmost-rises (height - (l + 1)) (node * 2) (node * 2 + 1) (omega arith));
  silent = λ j from to. quiet j from to;
}
  where
    twice : 2 * node ≡ node * 2
    twice = omega arith

    whole : leftmost (height - l) (node + 1) ≤ 2 * size
    whole = t.ends

    ends : leftmost (height - l) (node + 1) ≡ leftmost (height - (l + 1)) (node * 2 + 1 + 1)
    ends = leftmost-down height l (node + 1) lt ∙ ap (leftmost (height - (l + 1))) (omega arith)

    begins : leftmost (height - l) node ≡ leftmost (height - (l + 1)) (node * 2)
    begins = leftmost-down height l node lt ∙ ap (leftmost (height - (l + 1))) (omega arith)

    quiet : (j : ℕ) → size ≤ j → j < leftmost (height - (l + 1)) (node * 2 + 1) → flag_at marks j ≡ false
    quiet j from to = elim (cases_lt j (leftmost (height - (l + 1)) (node * 2))) [
      | inl lt ↦ t.silent j from (omega (arith, begins, lt))
      | inr le ↦ silent marks size tells (height - (l + 1)) (node * 2) (omega (arith, t.some))
          (omega (
            arith,
            ends,
            whole,
            leftmost-rises (height - (l + 1)) (node * 2 + 1) (node * 2 + 1 + 1)
                (omega arith),
          )) off j le to
    ]
