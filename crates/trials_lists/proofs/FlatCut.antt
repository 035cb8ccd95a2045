-- Cutting flat pieces keeps the sound of the groups and reads no additional samples.
use Rattle.std.proofs.Common.{◌≡◌, ◌∙◌, ℕ, ◌+◌, ◌-◌, ◌<◌, ◌≤◌, Bool, true, false, List, [], ◌∷◌, ◌++◌, refl, sym, ap, arith, All}
use Rattle.std.specs.Prelude.{pos, ◌+ℤ◌, ◌&&◌, ◌||◌, ◌==◌, nat_le, nat_lt, if◌then◌else◌}
use Rattle.std.specs.List.{flat_map, list_all}
use Rattle.std.proofs.lemmas.Bool.Decides.{nat_tests}
use Rattle.std.proofs.lemmas.Int.{ints}
use Rattle.std.proofs.lemmas.List.Elements.{All-cons, All-head, All-nil}
use Rattle.facts.specs.Lists.{all_of_parts}
use Rattle.facts.specs.Stretches.{either_joined, sums_joined}
use Rattle.sound_terms.specs.declared.piece.Piece.{Piece}
use Rattle.sound_terms.specs.declared.piece.Shape.{Shape}
use Rattle.sound_terms.specs.declared.piece.Shape.TheVariants.{Flat, Rise, Fall}
use Rattle.sound_terms.specs.Mix.{Reading, share_of}
use Rattle.sound_terms.specs.Groups.{IsGroup, IsPiece, are_whole, is_read, is_whole, mix_of, part_of, reads}
use Rattle.sound_terms.specs.OrderLaws.{mix_total, read_by, reads_total, sum_at, total, whole_total}
use Rattle.sound_terms.specs.Passes.{is_flat}
use Rattle.trials_lists.specs.FlatCut.{behind, flat_cut, front}

-- a time within a flat piece, after its start
record IsCut (time : ℕ) (p : Piece) : Type 0 where
  flat : p.shape ≡ Flat
  begun : p.start < time
  left : time < p.start + p.length

flat_is : (shape : Shape) → is_flat shape ≡ true → shape ≡ Flat
flat_is Flat e = refl
flat_is (Rise offset den) e = cc
flat_is (Fall offset den) e = cc

-- a property of unchanged groups and of cut groups holds for every group
by_cut : (time : ℕ) (P : List Piece → List (List Piece) → Type 0)
    → ((group : List Piece) → P group (group ∷ []))
    → ((p : Piece) → IsCut time p
    → P (p ∷ []) ((front (time - p.start) p ∷ []) ∷ (behind (time - p.start) p ∷ []) ∷ []))
    → (group : List Piece) → P group (flat_cut time group)
by_cut time P stays cut [] = stays []
by_cut time P stays cut (p ∷ q ∷ ps) = stays (p ∷ q ∷ ps)
by_cut time P stays cut (p ∷ []) =
    by_test (is_flat p.shape) (nat_lt p.start time) (nat_lt time (p.start + p.length)) refl refl refl where
      by_test : (a b c : Bool) → is_flat p.shape ≡ a → nat_lt p.start time ≡ b → nat_lt time (p.start + p.length) ≡ c
          → P (p ∷ []) (if a && (b && c)
          then (front (time - p.start) p ∷ []) ∷ (behind (time - p.start) p ∷ []) ∷ [] else (p ∷ []) ∷ [])
      by_test true true true flat begun left = cut p (record {
        flat = flat_is p.shape flat;
        begun = grind (arith, nat_tests);
        left = grind (arith, nat_tests);
      })
      by_test true true false flat begun left = stays (p ∷ [])
      by_test true false c flat begun left = stays (p ∷ [])
      by_test false b c flat begun left = stays (p ∷ [])

-- totals over all groups
module _ {A : Type 0} (add : A → A → A) (none : A) (value : List Piece → A) where
  abbrev Halves : ℕ → Type 0
  Halves time = (p : Piece) → IsCut time p → (rest : A)
      → add (value (front (time - p.start) p ∷ [])) (add (value (behind (time - p.start) p ∷ [])) rest)
      ≡ add (value (p ∷ [])) rest

  total_cut : (time : ℕ) → Halves time → (groups : List (List Piece))
      → total add none value (flat_map (flat_cut time) groups) ≡ total add none value groups
  total_cut time halves [] = refl
  total_cut time halves (group ∷ groups) =
      by_cut time (λ own parts. total add none value (parts ++ flat_map (flat_cut time) groups)
      ≡ add (value own) (total add none value (flat_map (flat_cut time) groups)))
      (λ own. refl) (λ p is. halves p is (total add none value (flat_map (flat_cut time) groups))) group
      ∙ ap (add (value group)) (total_cut time halves groups)

  -- cutting doesn't change such a total
  kept_total : (time : ℕ) → Halves time → (whole : List (List Piece) → A)
      → ((groups : List (List Piece)) → whole groups ≡ total add none value groups)
      → (groups : List (List Piece)) → whole (flat_map (flat_cut time) groups) ≡ whole groups
  kept_total time halves whole is groups =
      is (flat_map (flat_cut time) groups) ∙ total_cut time halves groups ∙ sym (is groups)

-- a flat piece as its first n samples and the m samples after them
module _ (p : Piece) (n m : ℕ) (flat : p.shape ≡ Flat) (both : p.length ≡ n + m) where
  part_halves : (r : Reading) (channel time : ℕ) → part_of r p channel time
      ≡ part_of r (front n p) channel time
      +ℤ part_of r (record p { start = p.start + n; frame = p.frame + n; length = m }) channel time
  part_halves r channel time =
      rw (flat, both) (sym (sums_joined p.start n m time _ _ _ (λ from to. refl) same
      (nat_le p.dest channel) (nat_lt channel (p.dest + p.width)))) where
        same : p.start + n ≤ time → time < p.start + n + m
            → share_of (r p.file (p.first + (channel - p.dest)) (p.frame + n + (time - (p.start + n)))) (1, 1)
            ≡ share_of (r p.file (p.first + (channel - p.dest)) (p.frame + (time - p.start))) (1, 1)
        same low high =
            let frames : p.frame + n + (time - (p.start + n)) ≡ p.frame + (time - p.start) = omega arith in
            rw frames refl

  read_halves : (file channel frame : ℕ) → is_read p file channel frame
      ≡ (is_read (front n p) file channel frame
      || is_read (record p { start = p.start + n; frame = p.frame + n; length = m }) file channel frame)
  read_halves file channel frame =
      rw both (sym (either_joined (p.file == file) (nat_le p.first channel) (nat_lt channel (p.first + p.width)) p.frame
      n m frame))

module _ (time : ℕ) where
  both_lengths : (p : Piece) → IsCut time p → p.length ≡ time - p.start + (p.length - (time - p.start))
  both_lengths p is = omega (arith, is.begun, is.left)

  mix_halves : (r : Reading) (channel t : ℕ) → Halves ◌+ℤ◌ (pos 0) (sum_at r channel t) time
  mix_halves r channel t p is rest =
      omega (
        arith,
        ints,
        part_halves p (time - p.start) (p.length - (time - p.start)) is.flat (both_lengths p is) r channel t,
      )

  whole_halves : Halves ◌&&◌ true (λ group. list_all is_whole group) time
  whole_halves p is rest = rw is.flat refl

  or_grouped : (a b rest : Bool) → ((a || false) || ((b || false) || rest)) ≡ (((a || b) || false) || rest)
  or_grouped true true rest = refl
  or_grouped true false rest = refl
  or_grouped false true rest = refl
  or_grouped false false rest = refl

  read_halves_by : (file channel frame : ℕ) → Halves ◌||◌ false (read_by file channel frame) time
  read_halves_by file channel frame p is rest =
      or_grouped (is_read (front (time - p.start) p) file channel frame)
      (is_read (behind (time - p.start) p) file channel frame) rest
      ∙ ap (λ (one : Bool). (one || false) || rest)
      (sym (read_halves p (time - p.start) (p.length - (time - p.start)) is.flat (both_lengths p is)
      file channel frame))

  pub mix_cut : (r : Reading) (groups : List (List Piece)) (channel t : ℕ)
      → mix_of r (flat_map (flat_cut time) groups) channel t ≡ mix_of r groups channel t
  mix_cut r groups channel t =
      kept_total ◌+ℤ◌ (pos 0) (sum_at r channel t) time (mix_halves r channel t) (λ all. mix_of r all channel t)
      (mix_total r channel t) groups

  pub whole_cut : (groups : List (List Piece)) → are_whole (flat_map (flat_cut time) groups) ≡ are_whole groups
  whole_cut =
      kept_total ◌&&◌ true (λ group. list_all is_whole group) time whole_halves are_whole whole_total

  pub reads_cut : (groups : List (List Piece)) (file channel frame : ℕ)
      → reads (flat_map (flat_cut time) groups) file channel frame ≡ reads groups file channel frame
  reads_cut groups file channel frame =
      kept_total ◌||◌ false (read_by file channel frame) time (read_halves_by file channel frame)
      (λ all. reads all file channel frame) (reads_total file channel frame) groups

  pub groups_cut : (groups : List (List Piece)) → All IsGroup groups → All IsGroup (flat_map (flat_cut time) groups)
  groups_cut groups all =
      all_of_parts IsGroup IsGroup (flat_cut time)
      (by_cut time (λ own parts. IsGroup own → All IsGroup parts)
      (λ own is. All-cons IsGroup own [] is (All-nil IsGroup))
      (λ p cut is. All-cons IsGroup (front (time - p.start) p ∷ []) ((behind (time - p.start) p ∷ []) ∷ []) tt
      (All-cons IsGroup (behind (time - p.start) p ∷ []) [] tt (All-nil IsGroup)))) groups all

  pieces_halved : (p : Piece) → IsCut time p → IsPiece p
      → IsPiece (front (time - p.start) p) × IsPiece (behind (time - p.start) p)
  pieces_halved p is ok = (
    record {
      wide = ok.wide;
      source_from_one = ok.source_from_one;
      source_to_64 = ok.source_to_64;
      dest_from_one = ok.dest_from_one;
      dest_to_64 = ok.dest_to_64;
      some = omega (arith, is.begun);
      in_day = omega (arith, is.left, ok.in_day);
      source_in_day = omega (arith, is.left, ok.source_in_day);
      ramp = rw is.flat tt;
    },
    record {
      wide = ok.wide;
      source_from_one = ok.source_from_one;
      source_to_64 = ok.source_to_64;
      dest_from_one = ok.dest_from_one;
      dest_to_64 = ok.dest_to_64;
      some = omega (arith, is.begun, is.left);
      in_day = omega (arith, is.begun, is.left, ok.in_day);
      source_in_day = omega (arith, is.begun, is.left, ok.source_in_day);
      ramp = rw is.flat tt;
    },
  )

  pub pieces_cut : (groups : List (List Piece)) → All (All IsPiece) groups
      → All (All IsPiece) (flat_map (flat_cut time) groups)
  pieces_cut groups all =
      all_of_parts (All IsPiece) (All IsPiece) (flat_cut time)
      (by_cut time (λ own parts. All IsPiece own → All (All IsPiece) parts)
      (λ own is. All-cons (All IsPiece) own [] is (All-nil (All IsPiece)))
      (λ p cut is.
      let halves = pieces_halved p cut (All-head IsPiece p [] is) in
      let alone = λ (q : Piece) (ok : IsPiece q). All-cons IsPiece q [] ok (All-nil IsPiece) in
      All-cons (All IsPiece) (front (time - p.start) p ∷ []) ((behind (time - p.start) p ∷ []) ∷ [])
      (alone (front (time - p.start) p) halves.0)
      (All-cons (All IsPiece) (behind (time - p.start) p ∷ []) [] (alone (behind (time - p.start) p) halves.1)
      (All-nil (All IsPiece))))) groups all
