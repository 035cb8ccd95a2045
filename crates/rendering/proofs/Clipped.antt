-- What is clipped of blocks, one after the other.
use Rattle.std.proofs.Common.{◌≡◌, ◌∙◌, ℕ, ◌+◌, ◌-◌, ◌*◌, ◌/◌, ◌^◌, ◌<◌, ◌≤◌, Bool, true, false, List, [], ◌++◌, length, refl, sym, ap, arith, ℤ, pos, slice_index_or, All, mul-le-mul}
use Rattle.std.proofs.lemmas.List.Elements.{All-nil}
use Rattle.clipping.specs.declared.tally.Clips.{Clips}
use Rattle.clipping.specs.Clips.{IsClippingOf, block_sums, is_clipped}
use Rattle.clipping.specs.Laws.{all_block, block_sums-alike, block_sums-append, length-block_sums, zero_unclipped}
use Rattle.sampletime.specs.TimeCode.{day}
use Rattle.sound_terms.specs.Blocks.{BlockState, block_count, block_length, block_start}
use Rattle.sound_terms.specs.Depth.{bits_of}
use Rattle.sound_terms.specs.Render.{Range}
use Rattle.rendering.specs.declared.stretch.Stretch.{Stretch}
use Rattle.rendering.specs.Clipping.{Clip, sums_of_blocks, unmarked}
use Rattle.rendering.specs.Cut.{IsUniform}
use Rattle.rendering.specs.Work.{IsInRange}
use Rattle.rendering.specs.Written.{frames_before}

-- ---- some blocks

-- a block before its first instruction
abbrev pub new_block : BlockState
new_block = record { frames = 0; sums = λ i channel. pos 0; out = [] }

-- what is clipped of sums that are those of a mix in some blocks is clipped of these blocks
pub blocks_clips : (range : Range) (mix : ℕ → ℕ → ℤ) (first last frames : ℕ) (sums : ℕ → ℕ → ℤ) {clips : Clips}
    → frames ≡ frames_before range last - frames_before range first
    → ((i c : ℕ) → i < frames → c ≤ range.channels → sums i c ≡ mix c (block_start range first + i))
    → IsClippingOf (bits_of range.depth) range.channels (block_sums sums range.channels 0 frames) clips
    → Clip range (sums_of_blocks range mix first last) clips
blocks_clips range mix first last frames sums count exact clipped =
    let here : block_start range first + 0 ≡ block_start range first = omega arith in
    let same = block_sums-alike sums (λ time c. mix c time) (block_start range first) range.channels 0 frames
    (λ i c from to one few. exact i c (omega (arith, to)) few) in
    rw (← count) (rw (same, here) at clipped)

-- ---- one block after the other

-- the sums of blocks, and then of more of them
sums_after : (range : Range) (mix : ℕ → ℕ → ℤ) (first mid last : ℕ) → first ≤ mid → mid ≤ last
    → mid < block_count range
    → sums_of_blocks range mix first mid ++ sums_of_blocks range mix mid last ≡ sums_of_blocks range mix first last
sums_after range mix first mid last a b inside =
    let n = frames_before range mid - frames_before range first in
    let m = frames_before range last - frames_before range mid in
    let whole : n + m ≡ frames_before range last - frames_before range first = omega (arith, a, b) in
    let start : block_start range mid ≡ block_start range first + n = omega (arith, a, inside) in
    rw (start, ← whole)
    (sym (block_sums-append (λ time channel. mix channel time) range.channels (block_start range first) n m))

-- no more than all
few_sums : (range : Range) (n m : ℕ) → n + m ≤ range.to - range.from → range.to ≤ day → range.channels ≤ 64
    → n * range.channels + m * range.channels < 2 ^ 64
few_sums range n m inside in_day few =
    let more : n + m ≤ day = omega (arith, inside, in_day) in
    let all : (n + m) * range.channels ≤ day * 64 = mul-le-mul more few in
    omega (arith, all)

-- a tally of blocks, joined with one of those that come next
pub clips_after : (range : Range) (mix : ℕ → ℕ → ℤ) (first mid last : ℕ) {before : ℕ} {a b whole : Clips} → first ≤ mid
    → mid ≤ last → mid < block_count range → range.to ≤ day → range.channels ≤ 64
    → before ≡ (frames_before range mid - frames_before range first) * range.channels
    → ((depth channels frames : ℕ) (sums others : List ℤ) → before ≡ frames * channels → length sums ≡ before
    → length sums + length others < 2 ^ 64 → IsClippingOf depth channels sums a → IsClippingOf depth channels others b
    → IsClippingOf depth channels (sums ++ others) whole)
    → Clip range (sums_of_blocks range mix first mid) a → Clip range (sums_of_blocks range mix mid last) b
    → Clip range (sums_of_blocks range mix first last) whole
clips_after range mix first mid last from to inside in_day few count joins one two =
    let n = frames_before range mid - frames_before range first in
    let m = frames_before range last - frames_before range mid in
    let mixed : ℕ → ℕ → ℤ = λ time channel. mix channel time in
    let sums = length-block_sums mixed range.channels (block_start range first) n in
    let others = length-block_sums mixed range.channels (block_start range mid) m in
    let most = few_sums range n m (omega (arith, from, to)) in_day few in
    rw (← sums_after range mix first mid last from to inside) (joins (bits_of range.depth) range.channels n
    (sums_of_blocks range mix first mid) (sums_of_blocks range mix mid last) count (sums ∙ sym count)
    (rw (sums, others) most) one two)

-- nothing is clipped of no blocks
pub clips_none : (range : Range) (mix : ℕ → ℕ → ℤ) (first : ℕ) {clips : Clips}
    → ((depth channels : ℕ) (sums : List ℤ) → All (λ sum. is_clipped depth sum ≡ false) sums
    → IsClippingOf depth channels sums clips) → Clip range (sums_of_blocks range mix first first) clips
clips_none range mix first none =
    let nothing : frames_before range first - frames_before range first ≡ 0 = omega arith in
    rw nothing
    (none (bits_of range.depth) range.channels [] (All-nil (λ sum. is_clipped (bits_of range.depth) sum ≡ false)))

-- ---- stretches, some of whose blocks are marked

module _ (range : Range) (mix : ℕ → ℕ → ℤ) (marked : List Bool) (s : Stretch) (uniform : IsUniform marked s)
    (inside : IsInRange range s.first s.end) where
  abbrev from : ℕ
  from = block_start range s.first

  abbrev n : ℕ
  n = frames_before range s.end - frames_before range s.first

  -- its frames are marked as it is
  marked_at : (time : ℕ) → from ≤ time → time < from + n
      → slice_index_or marked ((time - range.from) / block_length) false ≡ s.done
  marked_at time low high = uniform ((time - range.from) / block_length)
      (omega (arith, low, high, inside.some, inside.there)) (omega (arith, low, high, inside.some, inside.there))

  -- none of its blocks is marked
  pub open_sums : s.done ≡ false
      → sums_of_blocks range (unmarked marked range mix) s.first s.end ≡ sums_of_blocks range mix s.first s.end
  open_sums off =
      let here : 0 + from ≡ from = omega arith in
      rw here at (block_sums-alike (λ time c. unmarked marked range mix c time) (λ time c. mix c time) 0
      range.channels from n (λ time c low high one few. rw (marked_at time low high, off) (ap (mix c) (omega arith))))

  -- all of them are
  pub done_kept : s.done ≡ true → All (λ sum. is_clipped (bits_of range.depth) sum ≡ false)
      (sums_of_blocks range (unmarked marked range mix) s.first s.end)
  done_kept on = zero_unclipped range.depth (sums_of_blocks range (unmarked marked range mix) s.first s.end)
      (all_block (λ sum. sum ≡ pos 0) (λ time c. unmarked marked range mix c time) range.channels from n
      (λ time c low high one few. rw (marked_at time low high, on) refl))
