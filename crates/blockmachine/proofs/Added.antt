-- Adding a stretch one sample frame at a time adds the whole stretch.
use Rattle.std.proofs.Common.{◌≡◌, ◌⊎◌, inl, inr, ℕ, suc, ◌+◌, ◌-◌, ◌*◌, ◌<◌, ◌≤◌, Bool, true, false, List, length, take, drop, set, get_or, refl, sym, ap, ◌∙◌, subst, arith}
use Rattle.std.specs.Prelude.{ℤ, pos, negsuc, neg_ℤ, ◌+ℤ◌, ◌&&◌, nat_le, nat_lt, if◌then◌else◌}
use Rattle.std.specs.Int.{int_div_euclid}
use Rattle.std.proofs.Math.IntN.{negsuc-*ℤ-pos, pos-*ℤ-pos}
use Rattle.std.proofs.Math.Nat.{add-mul, mul-le-mul_right}
use Rattle.std.proofs.lemmas.Bool.{cases_lt}
use Rattle.std.proofs.lemmas.List.{get_or-set_other, get_or-set_same}
use Rattle.std.proofs.lemmas.Bool.Decides.{nat_tests}
use borrow.Rule.Slice.PartMut.{put_mid}
use Rattle.facts.specs.Tests.{otherwise}
use Rattle.sound_terms.specs.declared.block.Stretch.{Stretch}
use Rattle.sound_terms.specs.declared.piece.Shape.{Shape}
use Rattle.sound_terms.specs.declared.piece.Shape.TheVariants.{Flat, Rise, Fall}
use Rattle.sound_terms.specs.Mix.{Reading, full_scale, share_of}
use Rattle.sound_terms.specs.Groups.{IsRamp, fraction_of}
use Rattle.sound_terms.specs.Blocks.{FitsBlock, held, share_at, sums_with}
use Rattle.blockmachine.specs.Playing.{Plays}
use Rattle.blockmachine.specs.Sums.{AreSums, HasAdded, HasAddedTo, block_of}
use Rattle.blockmachine.proofs.Places.{get_or-part, kept_elsewhere, written_here}

-- an empty stretch adds nothing
pub no_sample : (reading : Reading) (stretch : Stretch) (shape : Shape) (before : ℕ → ℕ → ℤ) (i c : ℕ)
    → sums_with reading (record stretch { length = 0 }) shape before i c ≡ before i c
no_sample reading stretch shape before i c =
    let out : (nat_le stretch.at i && nat_lt i (stretch.at + 0)) ≡ false = grind (arith, nat_tests) in
    otherwise (nat_le stretch.dest c) (nat_lt c (stretch.dest + stretch.width)) _ _ _ out

-- one more sum with its share added
pub added_more : (n : ℕ) (fraction : ℕ × ℕ) (depth : ℕ) (samples old new : List ℤ) (v : ℤ) → n < length new
    → HasAddedTo n fraction depth samples old new
    → v ≡ held (get_or new n (pos 0) +ℤ share_of (full_scale depth (get_or samples n (pos 0))) fraction)
    → HasAddedTo (n + 1) fraction depth samples old (set new n v)
added_more n fraction depth samples old new v inside has value = (here, behind) where
  behind : (k : ℕ) → n + 1 ≤ k → get_or (set new n v) k (pos 0) ≡ get_or old k (pos 0)
  behind k after = get_or-set_other new n k v (pos 0) (λ same. absurd (omega arith)) ∙ has.1 k (omega arith)

  by_place : (k : ℕ) → k < n + 1 → (k < n) ⊎ (n ≤ k) → get_or (set new n v) k (pos 0)
      ≡ held (get_or old k (pos 0) +ℤ share_of (full_scale depth (get_or samples k (pos 0))) fraction)
  by_place k below (inl before) = get_or-set_other new n k v (pos 0) (λ same. absurd (omega arith)) ∙ has.0 k before
  by_place k below (inr after) =
      let same : n ≡ k = omega arith in
      let P : ℕ → Type 0 = λ m. get_or (set new n v) m (pos 0)
      ≡ held (get_or old m (pos 0) +ℤ share_of (full_scale depth (get_or samples m (pos 0))) fraction) in
      subst P same
      (get_or-set_same new n v (pos 0) inside ∙ value
      ∙ ap (λ z. held (z +ℤ share_of (full_scale depth (get_or samples n (pos 0))) fraction)) (has.1 n (omega arith)))

  here : (k : ℕ) → k < n + 1 → get_or (set new n v) k (pos 0)
      ≡ held (get_or old k (pos 0) +ℤ share_of (full_scale depth (get_or samples k (pos 0))) fraction)
  here k below = by_place k below (cases_lt k n)

-- the full share of a sample is the sample
pub flat_share : (v : ℤ) → share_of v (1, 1) ≡ v
flat_share (pos n) = ap (λ z. int_div_euclid z (pos 1)) (pos-*ℤ-pos n 1) ∙ ap pos (omega arith)
flat_share (negsuc n) = ap (λ z. int_div_euclid z (pos 1)) (negsuc-*ℤ-pos n 1 ∙ all) ∙ ap negsuc (omega arith) where
  all : neg_ℤ (pos (suc n * 1)) ≡ negsuc n
  all = let one : suc n * 1 ≡ suc n = omega arith in rw one refl

-- the extended range contains a new sample
on_more : (a b p q r : Bool) (x y : ℤ) → a ≡ true → b ≡ true → p ≡ true → q ≡ false → r ≡ true
    → (if a && (b && (p && r)) then held (y +ℤ x) else y) ≡ held ((if a && (b && (p && q)) then held (y +ℤ x) else y) +ℤ x)
on_more a b p q r x y first second begun before now = rw (first, second, begun, before, now) refl

-- the extended range doesn't change for other samples
off_more : (a b p q r : Bool) (x y : ℤ) → (a ≡ true → b ≡ true → p ≡ true → r ≡ q)
    → (if a && (b && (p && r)) then held (y +ℤ x) else y) ≡ (if a && (b && (p && q)) then held (y +ℤ x) else y)
off_more false b p q r x y same = refl
off_more true false p q r x y same = refl
off_more true true false q r x y same = refl
off_more true true true q r x y same = rw (same refl refl refl) refl

-- the next sample frames form one run of the sums: a single frame, or frames of all channels
abbrev pub IsRun : (frames width source channels long : ℕ) → Type 0
IsRun frames width source channels long =
    ((frames ≡ 1) × (long ≡ width)) ⊎ ((width ≡ channels) × (source ≡ channels) × (long ≡ frames * channels))

pub run_fits : (stretch : Stretch) (source most channels done count long : ℕ) → FitsBlock most channels stretch
    → IsRun count stretch.width source channels long → done + count ≤ stretch.length
    → (stretch.at + done) * channels + (stretch.dest - 1) + long ≤ most * channels
run_fits stretch source most channels done count long inside (inl one) short =
    let row : (stretch.at + done + 1) * channels ≤ most * channels =
    mul-le-mul_right channels (omega (arith, short, one.0, inside.inside)) in
    omega (arith, row, one.1, inside.dest_inside, inside.dest_from_one)
run_fits stretch source most channels done count long inside (inr all) short =
    let row : (stretch.at + done + count) * channels ≤ most * channels =
    mul-le-mul_right channels (omega (arith, short, inside.inside)) in
    let parts = add-mul (stretch.at + done) count channels in
    omega (arith, row, parts, all.0, all.2, inside.dest_inside, inside.dest_from_one)

-- a prefix of a ramp is a ramp
pub ramp_shorter : (shape : Shape) (n m : ℕ) → m ≤ n → IsRamp shape n → IsRamp shape m
ramp_shorter Flat n m le ramp = tt
ramp_shorter (Rise offset den) n m le ramp = (omega (arith, le, ramp.0), ramp.1)
ramp_shorter (Fall offset den) n m le ramp = (omega (arith, le, ramp.0), ramp.1)

module _ (reading : Reading) (stretch : Stretch) (shape : Shape) (before : ℕ → ℕ → ℤ) (source most channels depth : ℕ)
    (frames : List ℤ) (inside : FitsBlock most channels stretch) (first : stretch.first + stretch.width ≤ source + 1)
    (plays : Plays reading stretch source depth frames)
  where
    abbrev sums_to : ℕ → ℕ → ℕ → ℤ
    sums_to n = sums_with reading (record stretch { length = n }) shape before

    abbrev begin : ℕ → ℕ
    begin done = (stretch.at + done) * channels + (stretch.dest - 1)

    -- sample i of channel c is in these frames of the stretch
    record IsHere (done count i c : ℕ) : Type 0 where
      low : stretch.dest ≤ c
      high : c < stretch.dest + stretch.width
      begun : stretch.at + done ≤ i
      ends : i < stretch.at + (done + count)

    here_more : (done count i c : ℕ) → IsHere done count i c
        → sums_to (done + count) i c ≡ held (sums_to done i c +ℤ share_at reading stretch shape i c)
    here_more done count i c here =
        let a : nat_le stretch.dest c ≡ true = grind (arith, nat_tests, here.low) in
        let b : nat_lt c (stretch.dest + stretch.width) ≡ true = grind (arith, nat_tests, here.high) in
        let p : nat_le stretch.at i ≡ true = grind (arith, nat_tests, here.begun) in
        let q : nat_lt i (stretch.at + done) ≡ false = grind (arith, nat_tests, here.begun) in
        let r : nat_lt i (stretch.at + (done + count)) ≡ true = grind (arith, nat_tests, here.ends) in
        on_more (nat_le stretch.dest c) (nat_lt c (stretch.dest + stretch.width)) (nat_le stretch.at i)
        (nat_lt i (stretch.at + done)) (nat_lt i (stretch.at + (done + count)))
        (share_at reading stretch shape i c) (before i c) a b p q r

    there_more : (done count i c : ℕ) → (IsHere done count i c → ⊥) → sums_to (done + count) i c ≡ sums_to done i c
    there_more done count i c other =
        off_more (nat_le stretch.dest c) (nat_lt c (stretch.dest + stretch.width)) (nat_le stretch.at i)
        (nat_lt i (stretch.at + done)) (nat_lt i (stretch.at + (done + count)))
        (share_at reading stretch shape i c) (before i c) same where
          by_place : stretch.dest ≤ c → c < stretch.dest + stretch.width → (i < stretch.at + done) ⊎ (stretch.at + done ≤ i)
              → (i < stretch.at + (done + count)) ⊎ (stretch.at + (done + count) ≤ i)
              → nat_lt i (stretch.at + (done + count)) ≡ nat_lt i (stretch.at + done)
          by_place low high (inl front) ends =
              let r : nat_lt i (stretch.at + (done + count)) ≡ true = grind (arith, nat_tests) in
              let q : nat_lt i (stretch.at + done) ≡ true = grind (arith, nat_tests) in r ∙ sym q
          by_place low high (inr begun) (inl ends) =
              absurd (other (record { low = low; high = high; begun = begun; ends = ends }))
          by_place low high (inr begun) (inr behind) =
              let r : nat_lt i (stretch.at + (done + count)) ≡ false = grind (arith, nat_tests) in
              let q : nat_lt i (stretch.at + done) ≡ false = grind (arith, nat_tests) in r ∙ sym q

          same : nat_le stretch.dest c ≡ true → nat_lt c (stretch.dest + stretch.width) ≡ true → nat_le stretch.at i ≡ true
              → nat_lt i (stretch.at + (done + count)) ≡ nat_lt i (stretch.at + done)
          same a b p =
              let low : stretch.dest ≤ c = grind (arith, nat_tests) in
              let high : c < stretch.dest + stretch.width = grind (arith, nat_tests) in
              by_place low high (cases_lt i (stretch.at + done)) (cases_lt i (stretch.at + (done + count)))

    -- the offset of the sample in the run
    place_in : (done count long i c : ℕ) → IsRun count stretch.width source channels long → IsHere done count i c
        → (i * channels + (c - 1) ≡ begin done + ((i - (stretch.at + done)) * channels + (c - stretch.dest)))
        × ((i - (stretch.at + done)) * channels + (c - stretch.dest) < long)
    place_in done count long i c (inl one) here =
        let same : i ≡ stretch.at + done = omega (arith, here.begun, here.ends, one.0) in
        let first : i - (stretch.at + done) ≡ 0 = omega (arith, same) in
        let none : (i - (stretch.at + done)) * channels ≡ 0 = rw first (omega arith) in
        let row : i * channels ≡ (stretch.at + done) * channels = ap (λ n. n * channels) same in
        (omega (arith, none, row, here.low, inside.dest_from_one), omega (arith, none, one.1, here.low, here.high))
    place_in done count long i c (inr all) here =
        let dest : stretch.dest ≡ 1 = omega (arith, all.0, inside.dest_inside, inside.dest_from_one) in
        let later : i ≡ (stretch.at + done) + (i - (stretch.at + done)) = omega (arith, here.begun) in
        let row : i * channels ≡ (stretch.at + done) * channels + (i - (stretch.at + done)) * channels =
        ap (λ n. n * channels) later ∙ add-mul (stretch.at + done) (i - (stretch.at + done)) channels in
        let most : (i - (stretch.at + done) + 1) * channels ≤ count * channels =
        mul-le-mul_right channels (omega (arith, here.begun, here.ends)) in
        (omega (arith, row, dest, here.low), omega (arith, most, all.0, all.2, dest, here.low, here.high))

    -- samples outside of these frames are outside of the run
    elsewhere : (done count long i c : ℕ) → IsRun count stretch.width source channels long → 1 ≤ c → c ≤ channels
        → (IsHere done count i c → ⊥)
        → (i * channels + (c - 1) < begin done) ⊎ (begin done + long ≤ i * channels + (c - 1))
    elsewhere done count long i c run low high other =
        by_place run (cases_lt i (stretch.at + done)) (cases_lt i (stretch.at + (done + count)))
        (cases_lt c stretch.dest) (cases_lt c (stretch.dest + stretch.width)) where
          by_place : IsRun count stretch.width source channels long
              → (i < stretch.at + done) ⊎ (stretch.at + done ≤ i)
              → (i < stretch.at + (done + count)) ⊎ (stretch.at + (done + count) ≤ i)
              → (c < stretch.dest) ⊎ (stretch.dest ≤ c)
              → (c < stretch.dest + stretch.width) ⊎ (stretch.dest + stretch.width ≤ c)
              → (i * channels + (c - 1) < begin done) ⊎ (begin done + long ≤ i * channels + (c - 1))
          by_place _ (inl front) ends left right =
              let row : (i + 1) * channels ≤ (stretch.at + done) * channels = mul-le-mul_right channels (omega arith) in
              inl (omega (arith, row, low, high))
          by_place (inl one) (inr begun) (inr behind) left right =
              let row : (stretch.at + done + 1) * channels ≤ i * channels =
              mul-le-mul_right channels (omega (arith, one.0, behind)) in
              inr (omega (arith, row, one.1, inside.dest_inside, inside.dest_from_one))
          by_place (inr all) (inr begun) (inr behind) left right =
              let row : (stretch.at + done + count) * channels ≤ i * channels =
              mul-le-mul_right channels (omega (arith, behind)) in
              let parts = add-mul (stretch.at + done) count channels in
              inr (omega (arith, row, parts, all.0, all.2, inside.dest_inside, inside.dest_from_one))
          by_place (inl one) (inr begun) (inl ends) (inl before) right =
              let row : i * channels ≡ (stretch.at + done) * channels =
              ap (λ n. n * channels) (omega (arith, begun, ends, one.0)) in inl (omega (arith, row, low, before))
          by_place (inr all) (inr begun) (inl ends) (inl before) right =
              absurd (omega (arith, all.0, inside.dest_inside, inside.dest_from_one, low, before))
          by_place _ (inr begun) (inl ends) (inr from) (inl to) =
              absurd (other (record { low = from; high = to; begun = begun; ends = ends }))
          by_place (inl one) (inr begun) (inl ends) (inr from) (inr after) =
              let row : i * channels ≡ (stretch.at + done) * channels =
              ap (λ n. n * channels) (omega (arith, begun, ends, one.0)) in
              inr (omega (arith, row, one.1, after, inside.dest_from_one))
          by_place (inr all) (inr begun) (inl ends) (inr from) (inr after) =
              absurd (omega (arith, all.0, inside.dest_inside, inside.dest_from_one, high, after))

    -- the offset of the sample in the source
    source_place : (done count long i c : ℕ) → IsRun count stretch.width source channels long → IsHere done count i c
        → done * source + (stretch.first - 1) + ((i - (stretch.at + done)) * channels + (c - stretch.dest))
        ≡ (i - stretch.at) * source + (stretch.first - 1 + (c - stretch.dest))
    source_place done count long i c (inl one) here =
        let same : i - (stretch.at + done) ≡ 0 = omega (arith, here.begun, here.ends, one.0) in
        let row : i - stretch.at ≡ done = omega (arith, here.begun, here.ends, one.0) in
        rw (same, row) (omega arith)
    source_place done count long i c (inr all) here =
        let row : i - stretch.at ≡ done + (i - (stretch.at + done)) = omega (arith, here.begun) in
        let parts = add-mul done (i - (stretch.at + done)) channels in
        rw (row, all.1) (omega (arith, parts))

    -- the sums after a run is added
    pub run_more : (done count long : ℕ) (fraction : ℕ × ℕ) (samples old new : List ℤ)
        → IsRun count stretch.width source channels long → done + count ≤ stretch.length
        → length old ≡ most * channels → length new ≡ long
        → ((k : ℕ) → k < long
        → get_or samples k (pos 0) ≡ get_or frames (done * source + (stretch.first - 1) + k) (pos 0))
        → ((i : ℕ) → done ≤ i → i < done + count → fraction_of shape i ≡ fraction)
        → AreSums (block_of most channels old) (sums_to done)
        → HasAdded fraction depth samples (take long (drop (begin done) old)) new
        → AreSums (block_of most channels (put_mid (begin done) long old new)) (sums_to (done + count))
    run_more done count long fraction samples old new run short room whole taken constant are has i c near low high =
        by_place (is_here (cases_lt i (stretch.at + done)) (cases_lt i (stretch.at + (done + count)))
        (cases_lt c stretch.dest) (cases_lt c (stretch.dest + stretch.width))) where
          fit : begin done + long ≤ length old
          fit = omega (arith, run_fits stretch source most channels done count long inside run short, room)

          is_here : (i < stretch.at + done) ⊎ (stretch.at + done ≤ i)
              → (i < stretch.at + (done + count)) ⊎ (stretch.at + (done + count) ≤ i)
              → (c < stretch.dest) ⊎ (stretch.dest ≤ c)
              → (c < stretch.dest + stretch.width) ⊎ (stretch.dest + stretch.width ≤ c)
              → IsHere done count i c ⊎ (IsHere done count i c → ⊥)
          is_here (inl front) ends left right = inr (λ here. omega (arith, here.begun, front))
          is_here (inr begun) (inr behind) left right = inr (λ here. omega (arith, here.ends, behind))
          is_here (inr begun) (inl ends) (inl before) right = inr (λ here. omega (arith, here.low, before))
          is_here (inr begun) (inl ends) (inr from) (inr after) = inr (λ here. omega (arith, here.high, after))
          is_here (inr begun) (inl ends) (inr from) (inl to) =
              inl (record { low = from; high = to; begun = begun; ends = ends })

          by_place : IsHere done count i c ⊎ (IsHere done count i c → ⊥)
              → get_or (put_mid (begin done) long old new) (i * channels + (c - 1)) (pos 0) ≡ sums_to (done + count) i c
          by_place (inl here) =
              let k = (i - (stretch.at + done)) * channels + (c - stretch.dest) in
              let place = place_in done count long i c run here in
              let behind : i * channels + (c - 1) - begin done ≡ k = omega (arith, place.0) in
              let row : i - stretch.at < stretch.length = omega (arith, here.begun, here.ends, short) in
              let on : c - stretch.dest < stretch.width = omega (arith, here.low, here.high) in
              let sample : full_scale depth (get_or samples k (pos 0))
              ≡ reading stretch.file (stretch.first + (c - stretch.dest)) (stretch.frame + (i - stretch.at)) =
              ap (full_scale depth) (taken k place.1
              ∙ ap (λ n. get_or frames n (pos 0)) (source_place done count long i c run here))
              ∙ plays (i - stretch.at) (c - stretch.dest) row on in
              let sum : get_or (take long (drop (begin done) old)) k (pos 0) ≡ sums_to done i c =
              get_or-part (begin done) long k old (pos 0) place.1
              ∙ ap (λ n. get_or old n (pos 0)) (sym place.0) ∙ are i c near low high in
              let part : fraction_of shape (i - stretch.at) ≡ fraction =
              constant (i - stretch.at) (omega (arith, here.begun)) (omega (arith, here.begun, here.ends)) in
              written_here (begin done) long old new (pos 0) fit whole (i * channels + (c - 1)) (omega (arith, place.0))
              (omega (arith, place.0, place.1))
              ∙ ap (λ n. get_or new n (pos 0)) behind
              ∙ has k (omega (arith, place.1, whole))
              ∙ rw (sum, sample, sym part) (sym (here_more done count i c here))
          by_place (inr other) =
              kept_elsewhere (begin done) long old new (pos 0) fit whole (i * channels + (c - 1))
              (elsewhere done count long i c run low high other)
              ∙ are i c near low high ∙ sym (there_more done count i c other)
