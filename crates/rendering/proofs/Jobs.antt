-- The jobs of a rendering: stretches, their bytes in the rendered file, and their blocks.
use Rattle.std.proofs.Common.{◌≡◌, ◌≢◌, ℕ, zero, suc, ◌+◌, ◌-◌, ◌*◌, ◌/◌, ◌<◌, ◌≤◌, List, ◌++◌, length, inl, inr, sym, ap, ◌∙◌, arith, length-append, ◌⊎◌, min}
use Rattle.std.proofs.Math.Nat.{div-mul-le_self, lt-div-mul-add, mul_assoc, mul-le-mul_right}
use Rattle.std.proofs.lemmas.Bool.{cases_lt}
use Rattle.std.proofs.lemmas.List.{get_or-append-add, get_or_append_left}
use Rattle.std.proofs.lemmas.Nat.{div_below, le-div}
use Rattle.sound_terms.specs.Depth.{bits_of}
use Rattle.sound_terms.specs.Blocks.{block_count, block_start}
use Rattle.sound_terms.specs.Render.{Range, render_info}
use Rattle.sound_terms.specs.Waves.{header_of}
use Rattle.work_terms.specs.Disk.{Files}
use Rattle.job_terms.specs.Workers.{jobs_over}
use Rattle.markfile.specs.Format.{marks_name, sound_name}
use Rattle.execution.specs.Filled.{AreApart, AreParts}
use Rattle.rendering.specs.declared.stretch.Stretch.{Stretch}
use Rattle.rendering.specs.CutLaws.{cut-apart, cut-few, cut-follow, cut-inside, cut-span}
use Rattle.rendering.specs.Maker.{marks_of}
use Rattle.rendering.specs.Marked.{IsRunOf, MarkedWork, block_end, block_place}
use Rattle.rendering.specs.Placed.{AreBlocksWith, AreFewBlocks, AreMarkedWith, IsStretchOf}
use Rattle.rendering.specs.Work.{IsInRange, IsRenderWork, RenderWork, bytes_for, heard, place_of, whole_of, work_of}
use Rattle.rendering.specs.Cut.{IsLastWith, group_at, no_stretch, stretch_at}
use Rattle.execution.specs.Together.{IsFirst}
use Rattle.rendering.specs.Written.{frames_before}
use Rattle.rendering.proofs.Frames.{length-frames_of, in_file}

-- the rendered file isn't its marks
pub names_apart : sound_name ≢ marks_name
names_apart e = cc

-- ---- the stretches of a rendering

module _ (work : RenderWork) (is : IsRenderWork work) where
  -- each lies in the range
  pub stretch_inside : (k : ℕ) → k < length work.stretches
      → IsInRange work.planned.range (stretch_at work.stretches k).first (stretch_at work.stretches k).end
  stretch_inside k below =
      let inside = cut-inside work.stretches 0 (block_count work.planned.range) k no_stretch is.cut below in
      record { some = inside.1; there = inside.2 }

  -- there are few of them
  pub few_stretches : length work.stretches ≤ 1012500
  few_stretches =
      omega (arith, cut-few work.stretches 0 (block_count work.planned.range) is.cut, is.planned.in_day)

  -- two of them don't meet
  pub stretches_apart : (j k : ℕ) → j < length work.stretches → k < length work.stretches → j ≢ k
      → ((stretch_at work.stretches j).end ≤ (stretch_at work.stretches k).first)
      ⊎ ((stretch_at work.stretches k).end ≤ (stretch_at work.stretches j).first)
  stretches_apart j k first second other = elim (cases_lt j k) [
    | inl before ↦ inl (cut-apart work.stretches 0 (block_count work.planned.range) j k no_stretch is.cut before second)
    | inr past ↦ inr (cut-apart work.stretches 0 (block_count work.planned.range) k j no_stretch is.cut
        (omega (arith, past, other)) first)
  ]

  -- those that are marked together have few blocks
  pub few_with : (k last : ℕ) → k < length work.stretches → IsLastWith work.stretches k last → AreFewBlocks
      (stretch_at work.stretches (group_at work.stretches k)).first (stretch_at work.stretches last).end
  few_with k last below with =
      let group = group_at work.stretches k in
      let count = block_count work.planned.range in
      let first = (is.short.grouped k below).first.before in
      let n = last - group in
      let place : group + n ≡ last = omega (arith, with.behind, first) in
      let span = cut-span work.stretches 0 count is.short.most group n no_stretch is.cut is.short.short
      (omega (arith, place, with.there)) in
      let less : n + 1 ≤ is.short.together = omega (arith, (is.short.grouped last with.there).few, with.with, place) in
      let size : (n + 1) * is.short.most ≤ is.short.together * is.short.most = mul-le-mul_right is.short.most less in
      record {
        order = let follow = cut-follow work.stretches 0 count group last no_stretch is.cut (omega (arith, place))
            with.there in
            omega (arith, follow.0, (stretch_inside last with.there).some);
        few = omega (arith, rw place at span, size, is.short.few);
      }

-- ---- bytes counted from the first of the samples

-- a block has bytes
some_bytes : (n wide j : ℕ) → j < n * wide → 0 < 4096 * wide
some_bytes n zero j below = absurd (omega (arith, below))
some_bytes n (suc w) j below = omega arith

-- the byte lies before the end of its block
before_end : (j b all wide : ℕ) → j < b * (4096 * wide) + 4096 * wide → j < all * wide
    → j < min ((b + 1) * 4096) all * wide
before_end j b all wide in_block in_all = elim (cases_lt ((b + 1) * 4096) all) [
  | inl less ↦ let end : min ((b + 1) * 4096) all ≡ (b + 1) * 4096 = omega (arith, less) in
      rw end (omega (arith, in_block))
  | inr past ↦ let end : min ((b + 1) * 4096) all ≡ all = omega (arith, past) in rw end in_all
]

-- a block that has this byte of the rendered file, one of these
pub record IsInBlock (range : Range) (first behind i : ℕ) : Type 0 where
  pub block : ℕ
  pub there : block < block_count range
  pub above : first ≤ block
  pub below : block < behind
  pub begun : block_place range block ≤ i
  pub ends : i < block_end range block

-- ---- the jobs

module _ (work : RenderWork) (sources : Files) (is : IsRenderWork work) where
  abbrev range : Range
  range = work.planned.range

  abbrev wide : ℕ
  wide = range.channels * (bits_of range.depth / 8)

  abbrev head : ℕ
  head = length (header_of (render_info range))

  abbrev at : ℕ → Stretch
  at k = stretch_at work.stretches k

  abbrev bytes_at : ℕ → List ℕ
  bytes_at k = (work_of work).bytes sources k

  abbrev end_at : ℕ → ℕ
  end_at k = place_of range (at k) + length (bytes_at k)

  -- how many bytes a job has
  long : (k : ℕ) → length (bytes_at k) ≡ (frames_before range (at k).end - frames_before range (at k).first) * wide
  long k = length-frames_of (bits_of range.depth) range.channels (block_start range (at k).first)
      (frames_before range (at k).end - frames_before range (at k).first) (heard work.planned work.sounds sources)

  -- as many as are counted
  pub job_sized : (k : ℕ) → length (bytes_at k) ≡ (work_of work).size k
  job_sized k = long k ∙ sym (mul_assoc (frames_before range (at k).end - frames_before range (at k).first)
      range.channels (bits_of range.depth / 8))

  -- where they end
  pub job_end : (k : ℕ) → k < length work.stretches → end_at k ≡ head + frames_before range (at k).end * wide
  job_end k below =
      let inside = stretch_inside work is k below in
      let n = frames_before range (at k).end - frames_before range (at k).first in
      let counted : n + (at k).first * 4096 ≡ frames_before range (at k).end =
      omega (arith, inside.some, inside.there) in
      let sum : (n + (at k).first * 4096) * wide ≡ frames_before range (at k).end * wide =
      ap (λ (m : ℕ). m * wide) counted in
      omega (arith, long k, sum)

  -- they are a part of the rendered file
  pub are_parts : AreParts (jobs_over (work_of work) sources) (λ _. whole_of work sources)
  are_parts k below =
      let mix = heard work.planned work.sounds sources in
      let file = in_file range mix (at k) (stretch_inside work is k below) in
      let count : length (whole_of work sources) ≡ length file.front + (length (bytes_at k) + length file.back) =
      simp (file.whole, length-append) in
      record {
        inside = omega (arith, count, file.place);
        part = λ i less. sym (rw (file.whole, ← file.place) (get_or-append-add file.front (bytes_at k ++ file.back) i 0)
            ∙ get_or_append_left (bytes_at k) file.back 0 i less);
      }

  -- the places of two jobs don't meet
  pub are_apart : AreApart (jobs_over (work_of work) sources)
  are_apart j k first second other same = elim (stretches_apart work is j k first second other) [
    | inl before ↦ inl (ends_before j k first before)
    | inr behind ↦ inr (ends_before k j second behind)
  ]
    where
      ends_before : (j k : ℕ) → j < length work.stretches → (at j).end ≤ (at k).first
          → end_at j ≤ place_of range (at k)
      ends_before j k below before =
          let few : frames_before range (at j).end * wide ≤ ((at k).first * 4096) * wide =
          mul-le-mul_right wide (omega (arith, before)) in
          omega (arith, job_end j below, few)

  -- where a block begins and ends, by the bytes of a frame
  place_is : (b : ℕ) → block_place range b ≡ head + b * (4096 * wide)
  place_is b = omega arith

  end_is : (b : ℕ) → block_end range b ≡ head + frames_before range (b + 1) * wide
  end_is b = ap (λ (n : ℕ). head + n)
      (mul_assoc (frames_before range (b + 1)) range.channels (bits_of range.depth / 8))

  -- a byte of some blocks is one's
  pub byte_block : (first behind j : ℕ) → behind ≤ block_count range → first * (4096 * wide) ≤ j
      → j < frames_before range behind * wide → IsInBlock range first behind (head + j)
  byte_block first behind j few from to =
      let size = 4096 * wide in
      let b = j / size in
      let all = range.to - range.from in
      let some : 0 < size = some_bytes (frames_before range behind) wide j to in
      let in_all : frames_before range behind * wide ≤ all * wide = mul-le-mul_right wide (omega arith) in
      let in_blocks : frames_before range behind * wide ≤ (behind * 4096) * wide =
      mul-le-mul_right wide (omega arith) in
      let below : b < behind = div_below j size behind some (omega (arith, to, in_blocks)) in
      let ends = before_end j b all wide (lt-div-mul-add some) (omega (arith, to, in_all)) in
      record {
        block = b;
        there = omega (arith, below, few);
        above = le-div first j size some from;
        below = below;
        begun = rw (place_is b) (omega (arith, div-mul-le_self j size));
        ends = rw (end_is b) (omega (arith, ends));
      }

  -- a byte of a job is one of its blocks'
  pub job_block : (k i : ℕ) → k < length work.stretches → place_of range (at k) ≤ i → i < end_at k
      → IsInBlock range (at k).first (at k).end i
  job_block k i below from to =
      let begun = place_is (at k).first in
      let there : head + (i - head) ≡ i = omega (arith, from) in
      rw there at (byte_block (at k).first (at k).end (i - head) (stretch_inside work is k below).there
      (omega (arith, from, begun)) (omega (arith, from, to, job_end k below)))

  -- a block of a job lies in its bytes
  pub job_own : (k b : ℕ) → k < length work.stretches → (at k).first ≤ b → b < (at k).end
      → (place_of range (at k) ≤ block_place range b) × (block_end range b ≤ end_at k)
  job_own k b below from to =
      let first : (at k).first * bytes_for range 4096 ≤ b * bytes_for range 4096 =
      mul-le-mul_right (bytes_for range 4096) from in
      let last : frames_before range (b + 1) * wide ≤ frames_before range (at k).end * wide =
      mul-le-mul_right wide (omega (arith, to)) in
      (omega (arith, first), rw (end_is b, job_end k below) (omega (arith, last)))

module _ (marked : MarkedWork) (k : ℕ) (sources : Files) (is : IsRenderWork marked.work)
    (run : IsRunOf marked.work marked.run) (below : k < length marked.work.stretches) where
  -- the bytes of a stretch of a rendering, and their place
  pub placed_stretch : (bytes : List ℕ) → bytes ≡ (work_of marked.work).bytes sources k
      → IsStretchOf (marks_of marked sources) k (place_of marked.work.planned.range (stretch_at marked.work.stretches k))
      bytes
  placed_stretch bytes right =
      let work = marked.work in
      let part = are_parts work sources is k below in rw right (record {
        there = below;
        right = part.part;
        own = λ b from to. job_own work sources is k b below from to;
        cover = λ i from to. let b = job_block work sources is k i below from to in
            (b.block, omega (arith, b.there, run.blocks), b.above, b.below, b.begun, b.ends);
      })

  -- the blocks of all that are marked together with it
  pub blocks_with : (from to : ℕ) → AreMarkedWith marked.work.stretches k from to
      → AreBlocksWith (marks_of marked sources) k from to
  blocks_with from to with = rw (with.first, with.end) (record {
    inside = omega (arith, (stretch_inside marked.work is with.last with.is_last.there).there, run.blocks);
    few = λ j b lt to. omega (arith, (stretch_inside marked.work is j lt).there, run.blocks, to);
    own = λ j b lt from to above under. elim (cases_lt j group) [
      | inl before ↦ absurd (omega (arith, cut-apart stretches 0 count j group no_stretch is.cut before there, to, above))
      | inr behind ↦ elim (cases_lt with.last j) [
        | inl past ↦ absurd (omega (arith, cut-apart stretches 0 count with.last j no_stretch is.cut past lt, from, under))
        | inr within ↦ last.between j (omega (arith, behind, with.is_last.with)) within ∙ with.is_last.with
      ]
    ];
    all = λ j b lt from to same.
        let own = (is.short.grouped j lt).first in
        let first = cut-follow stretches 0 count group j no_stretch is.cut (omega (arith, own.before, same)) lt in
        let end = cut-follow stretches 0 count j with.last no_stretch is.cut (ends j lt same own) with.is_last.there in
        (omega (arith, first.0, from), omega (arith, end.1, to));
  })
    where
      stretches : List Stretch
      stretches = marked.work.stretches

      count : ℕ
      count = block_count marked.work.planned.range

      group : ℕ
      group = group_at marked.work.stretches k

      last : IsFirst (group_at marked.work.stretches) with.last
      last = (is.short.grouped with.last with.is_last.there).first

      there : group < length marked.work.stretches
      there = omega (arith, (is.short.grouped k below).first.before, below)

      -- none behind the last is marked with it
      ends : (j : ℕ) → j < length marked.work.stretches → group_at marked.work.stretches j ≡ group
          → IsFirst (group_at marked.work.stretches) j → j ≤ with.last
      ends j lt same own = elim (cases_lt with.last j) [
        | inr within ↦ within
        | inl past ↦ absurd (with.is_last.ends (omega (arith, past, lt))
            (own.between (with.last + 1) (omega (arith, same, with.is_last.behind, (is.short.grouped k below).first.before))
            (omega (arith, past)) ∙ same))
      ]
