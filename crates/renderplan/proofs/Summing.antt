-- The program of a block sums the samples of its pieces.
use Rattle.std.proofs.Common.{◌≡◌, ℕ, zero, suc, ◌+◌, ◌-◌, ◌<◌, ◌≤◌, Bool, true, false, List, [], ◌∷◌, ◌++◌, refl, sym, ap, ◌∙◌, subst, arith, All}
use Rattle.std.specs.Prelude.{ℤ, pos, ◌+ℤ◌, ◌&&◌, max, min, nat_le, nat_lt, if◌then◌else◌}
use Rattle.std.specs.List.{flat_map}
use Rattle.std.proofs.lemmas.Bool.Decides.{nat_tests}
use Rattle.std.proofs.lemmas.Int.{ints}
use Rattle.std.proofs.lemmas.List.Elements.{All-head, All-tail}
use Rattle.facts.specs.Lists.{all_behind, all_front}
use Rattle.facts.specs.Tests.{otherwise}
use Rattle.sound_terms.specs.declared.block.Instruction.TheVariants.{Start, Emit}
use Rattle.sound_terms.specs.declared.piece.Piece.{Piece}
use Rattle.sound_terms.specs.Depth.{bits_of}
use Rattle.sound_terms.specs.Mix.{Reading, share_of}
use Rattle.sound_terms.specs.Groups.{IsBounded, IsPiece, fraction_of, holding, is_under, part_of, sum_of}
use Rattle.sound_terms.specs.Passes.{shape_behind}
use Rattle.sound_terms.specs.declared.Depth.{Depth}
use Rattle.sound_terms.specs.BlockLaws.{addition_of-adding, executed-adding, executed_all-append, frames_kept}
use Rattle.sound_terms.specs.GroupLaws.{fraction_behind}
use Rattle.sound_terms.specs.Blocks.{BlockState, adding, block_samples, executed_all, frame_samples, held, is_on, lines_of, share_at, stretch_in, PlaysFull}
use Rattle.renderplan.specs.Spans.{written}
use Rattle.renderplan.proofs.Formed.{lines_formed}
use Rattle.renderplan.proofs.Shares.{IsWithin, held_few, holds, part_within, within_add}

-- equal sums are emitted as equal samples
same_frame : (depth : ℕ) (f g : ℕ → ℕ → ℤ) (i channel n : ℕ) → ((c : ℕ) → channel ≤ c → c < channel + n → f i c ≡ g i c)
    → frame_samples depth f i channel n ≡ frame_samples depth g i channel n
same_frame depth f g i channel zero same = refl
same_frame depth f g i channel (suc n) same =
    let here = same channel (omega arith) (omega arith) in
    let rest = same_frame depth f g i (suc channel) n (λ c low high. same c (omega arith) (omega arith)) in
    rw (here, rest) refl

pub same_block : (depth : ℕ) (f g : ℕ → ℕ → ℤ) (channels i n : ℕ)
    → ((j c : ℕ) → i ≤ j → j < i + n → 1 ≤ c → c ≤ channels → f j c ≡ g j c)
    → block_samples depth f channels i n ≡ block_samples depth g channels i n
same_block depth f g channels i zero same = refl
same_block depth f g channels i (suc n) same =
    let here =
    same_frame depth f g i 1 channels (λ c low high. same i c (omega arith) (omega arith) low (omega arith)) in
    let rest = same_block depth f g channels (suc i) n (λ j c low high. same j c (omega arith) (omega arith)) in
    rw (here, rest) refl

-- the sample that a piece adds at a time that it covers
abbrev share_in : Reading → Piece → ℕ → ℕ → ℤ
share_in reading p channel time =
    share_of (reading p.file (p.first + (channel - p.dest)) (p.frame + (time - p.start)))
    (fraction_of p.shape (time - p.start))

-- a sum within bounds isn't saturated
held_sum : (under : Bool) (m : ℕ) (x share : ℤ) → m ≤ 32767 → IsWithin m (x +ℤ (if under then share else pos 0))
    → (if under then held (x +ℤ share) else x) ≡ x +ℤ (if under then share else pos 0)
held_sum true m x share few within = held_few m (x +ℤ share) few within
held_sum false m x share few within = omega (arith, ints)

module _ (reading : Reading) (from n channels : ℕ) where
  -- the stretch of a piece sounds at the same samples of the block as the piece
  same_under : (p : Piece) (i c : ℕ) → i < n → c ≤ channels → p.dest ≤ channels
      → is_on (stretch_in from (max from p.start) (min (from + n) (p.start + p.length)) channels p) i c
      ≡ is_under p c (from + i)
  same_under p i c below inside there =
      let width : nat_lt c (p.dest + min p.width (channels + 1 - p.dest)) ≡ nat_lt c (p.dest + p.width) =
      grind (arith, nat_tests) in
      let begun : nat_le (max from p.start - from) i ≡ nat_le p.start (from + i) = grind (arith, nat_tests) in
      let ends : nat_lt i (max from p.start - from + (min (from + n) (p.start + p.length) - max from p.start))
      ≡ nat_lt (from + i) (p.start + p.length) = grind (arith, nat_tests) in
      rw (width, begun, ends) refl

  same_share : (p : Piece) (i c : ℕ) → p.start ≤ from + i
      → share_at reading (stretch_in from (max from p.start) (min (from + n) (p.start + p.length)) channels p)
      (shape_behind (max from p.start - p.start) p.shape) i c ≡ share_in reading p c (from + i)
  same_share p i c begun =
      let frames : p.frame + (max from p.start - p.start) + (i - (max from p.start - from))
      ≡ p.frame + (from + i - p.start) = omega arith in
      let samples : max from p.start - p.start + (i - (max from p.start - from)) ≡ from + i - p.start = omega arith in
      rw (frames, fraction_behind p.shape (max from p.start - p.start) (i - (max from p.start - from)), samples) refl

  -- the instruction for a piece adds the samples of the piece
  line_effect : (p : Piece) (s : BlockState) (i c : ℕ) → i < n → c ≤ channels
      → (executed_all reading channels (lines_of from n channels p) s).sums i c
      ≡ (if is_under p c (from + i) then held (s.sums i c +ℤ share_in reading p c (from + i)) else s.sums i c)
  line_effect p s i c below inside =
      by_tests (nat_lt (max from p.start) (min (from + n) (p.start + p.length))) (nat_le p.dest channels)
      refl refl where
        by_tests : (some there : Bool) → nat_lt (max from p.start) (min (from + n) (p.start + p.length)) ≡ some
            → nat_le p.dest channels ≡ there
            → (executed_all reading channels (lines_of from n channels p) s).sums i c
            ≡ (if is_under p c (from + i) then held (s.sums i c +ℤ share_in reading p c (from + i)) else s.sums i c)
        by_tests false there e f =
            let none : (nat_le p.start (from + i) && nat_lt (from + i) (p.start + p.length)) ≡ false =
            grind (arith, nat_tests) in
            rw e (sym (otherwise (nat_le p.dest c) (nat_lt c (p.dest + p.width)) _ _ _ none))
        by_tests true false e f = let none : nat_le p.dest c ≡ false = grind (arith, nat_tests) in rw (e, f, none) refl
        by_tests true true e f = by_place (is_under p c (from + i)) refl where
          there : p.dest ≤ channels
          there = grind (arith, nat_tests)

          by_place : (b : Bool) → is_under p c (from + i) ≡ b
              → (executed_all reading channels (lines_of from n channels p) s).sums i c
              ≡ (if is_under p c (from + i) then held (s.sums i c +ℤ share_in reading p c (from + i)) else s.sums i c)
          by_place true under =
              let on = same_under p i c below inside there ∙ under in
              rw (e, f) (rw (executed-adding reading channels _ _ s) (rw (on, under, same_share p i c (grind (arith, nat_tests))) refl))
          by_place false under =
              let on = same_under p i c below inside there ∙ under in
              rw (e, f) (rw (executed-adding reading channels _ _ s) (rw (on, under) refl))

  -- the source of a piece is within full scale if the sources of its instruction are
  full_under : (p : Piece) (i c : ℕ) → i < n → c ≤ channels → All (PlaysFull reading) (lines_of from n channels p)
      → is_under p c (from + i) ≡ true → IsWithin 1 (reading p.file (p.first + (c - p.dest))
      (p.frame + (from + i - p.start)))
  full_under p i c below inside full under =
      let first = max from p.start in
      let last = min (from + n) (p.start + p.length) in
      let some : nat_lt first last ≡ true = grind (arith, nat_tests) in
      let there : nat_le p.dest channels ≡ true = grind (arith, nat_tests) in
      let line = adding (stretch_in from first last channels p) (shape_behind (first - p.start) p.shape) in
      let plays = rw (addition_of-adding (stretch_in from first last channels p) (shape_behind (first - p.start) p.shape))
      at (All-head (PlaysFull reading) line [] (rw (some, there) at full)) in
      let frames : p.frame + (first - p.start) + (i - (first - from)) ≡ p.frame + (from + i - p.start) =
      grind (arith, nat_tests) in
      let both = plays (c - p.dest) (i - (first - from)) (grind (arith, nat_tests)) (grind (arith, nat_tests)) in
      subst (λ (frame : ℕ). IsWithin 1 (reading p.file (p.first + (c - p.dest)) frame)) frames
      (omega (arith, ints, both.0), omega (arith, ints, both.1))

  -- the sum after one instruction, if few pieces were added before
  line_sum : (p : Piece) (s : BlockState) (i c m : ℕ) → All (PlaysFull reading) (lines_of from n channels p) → IsPiece p
      → i < n → c ≤ channels
      → m + holds p (from + i) ≤ 32767 → IsWithin m (s.sums i c)
      → (executed_all reading channels (lines_of from n channels p) s).sums i c
      ≡ s.sums i c +ℤ part_of reading p c (from + i)
  line_sum p s i c m full ok below inside few within =
      let part = part_within reading p ok c (from + i) (full_under p i c below inside full) in
      let both = within_add m (holds p (from + i)) (s.sums i c) (part_of reading p c (from + i)) within part in
      line_effect p s i c below inside ∙ held_sum (is_under p c (from + i)) (m + holds p
      (from + i)) (s.sums i c) _ few both

  pub lines_sum : (pieces : List Piece) (s : BlockState) (i c m : ℕ)
      → All (PlaysFull reading) (flat_map (lines_of from n channels) pieces)
      → All IsPiece pieces → i < n → c ≤ channels
      → m + holding (from + i) pieces ≤ 32767 → IsWithin m (s.sums i c)
      → (executed_all reading channels (flat_map (lines_of from n channels) pieces) s).sums i c
      ≡ s.sums i c +ℤ sum_of reading pieces c (from + i)
  lines_sum [] s i c m full all below inside few within = omega (arith, ints)
  lines_sum (p ∷ ps) s i c m full all below inside few within =
      let ok = All-head IsPiece p ps all in
      let here = all_front (PlaysFull reading) (lines_of from n channels p) _ full in
      let later = all_behind (PlaysFull reading) (lines_of from n channels p) _ full in
      let first = line_sum p s i c m here ok below inside (omega (arith, few)) within in
      let part = part_within reading p ok c (from + i) (full_under p i c below inside here) in
      let both = within_add m (holds p (from + i)) (s.sums i c) (part_of reading p c (from + i)) within part in
      let next : BlockState = executed_all reading channels (lines_of from n channels p) s in
      let split =
      executed_all-append reading channels (lines_of from n channels p) (flat_map (lines_of from n channels) ps)
      s in
      let rest =
      lines_sum ps next i c (m + holds p (from + i)) later (All-tail IsPiece p ps all) below inside
      (omega (arith, few))
      (subst (λ (z : ℤ). IsWithin (m + holds p (from + i)) z) (sym first) both) in
      ap (λ (state : BlockState). state.sums i c) split ∙ rest ∙ omega (arith, ints, first)

-- the samples emitted for a window are the mix
pub written_sums : (reading : Reading) (pieces : List Piece) (from n channels : ℕ) (depth : Depth) (start : BlockState)
    → All (PlaysFull reading) (written from n channels depth pieces) → All IsPiece pieces → IsBounded 32767 pieces
    → (executed_all reading channels (written from n channels depth pieces) start).out
    ≡ block_samples (bits_of depth) (λ i channel. sum_of reading pieces channel (from + i)) channels 0 n
written_sums reading pieces from n channels depth start plays all bounded =
    let lines = flat_map (lines_of from n channels) pieces in
    let begun : BlockState = record start { frames = n; sums = λ i channel. pos 0 } in
    let added : BlockState = executed_all reading channels lines begun in
    let split = executed_all-append reading channels lines (Emit depth ∷ []) begun in
    let frames : added.frames ≡ n =
    frames_kept reading n channels lines begun (lines_formed from n channels pieces all) in
    let full : All (PlaysFull reading) lines =
    all_front (PlaysFull reading) lines (Emit depth ∷ [])
    (All-tail (PlaysFull reading) (Start n) (lines ++ Emit depth ∷ []) plays) in
    let sums : (i c : ℕ) → 0 ≤ i → i < 0 + n → 1 ≤ c → c ≤ channels
    → added.sums i c ≡ sum_of reading pieces c (from + i) =
    λ i c low high first last. lines_sum reading from n channels pieces begun i c 0 full all (omega arith) last
    (omega (arith, bounded (from + i))) (omega (arith, ints), omega (arith, ints)) ∙ omega (arith, ints) in
    ap (λ (state : BlockState). state.out) split
    ∙ ap (λ m. block_samples (bits_of depth) added.sums channels 0 m) frames
    ∙ same_block (bits_of depth) added.sums (λ i channel. sum_of reading pieces channel (from + i)) channels 0 n sums
