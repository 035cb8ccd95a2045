-- The rendered file as it is laid out: its header, and zeros.
use Rattle.std.proofs.Common.{◌≡◌, ◌∙◌, ℕ, zero, suc, ◌+◌, ◌-◌, ◌/◌, ◌%◌, ◌<◌, ◌≤◌, Bool, true, false, Some, List, ◌++◌, length, get_or, length-append, refl, sym, inl, inr, arith, mul_assoc}
use Rattle.std.proofs.lemmas.Bool.{cases_lt}
use Rattle.std.proofs.lemmas.List.{get_or-append_right, get_or_append_left}
use Rattle.sound_terms.specs.Blocks.{block_count}
use Rattle.sound_terms.specs.Depth.{bits_of}
use Rattle.sound_terms.specs.Laws.{length-zeros}
use Rattle.sound_terms.specs.Render.{Range, frames_of, render_info, rendering_of}
use Rattle.sound_terms.specs.Waves.{file_of, header_of, zeros}
use Rattle.work_terms.specs.Disk.{Files}
use Rattle.job_terms.specs.Workers.{jobs_over}
use Rattle.markfile.specs.Format.{sound_name}
use Rattle.execution.specs.Filled.{IsFixedIn}
use Rattle.execution.specs.Marking.{HoldsDone, HoldsIn}
use Rattle.execution.specs.Plan.{AreBlank}
use Rattle.rendering.specs.CutLaws.{cut-covers}
use Rattle.rendering.specs.Maker.{marks_of, plan_of}
use Rattle.rendering.specs.Marked.{IsRunOf, MarkedWork, laid_file, padded}
use Rattle.rendering.specs.Work.{IsRenderWork, bytes_for, heard, whole_of, work_of}
use Rattle.rendering.specs.Cut.{no_stretch}
use Rattle.rendering.specs.Written.{frames_before}
use Rattle.rendering.proofs.Jobs.{byte_block, job_block, job_own}
use Rattle.rendering.proofs.Frames.{length-frames_of}

-- each byte of zeros, and behind them, is 0
zero_at : (n i : ℕ) → get_or (zeros n) i 0 ≡ 0
unfolding zeros
zero_at zero i = refl
zero_at (suc n) zero = refl
zero_at (suc n) (suc i) = zero_at n i

module _ (marked : MarkedWork) (sources : Files) (is : IsRenderWork marked.work) where
  abbrev range : Range
  range = marked.work.planned.range

  abbrev head : List ℕ
  head = header_of (render_info range)

  abbrev samples : List ℕ
  samples = frames_of (bits_of range.depth) (heard marked.work.planned marked.work.sounds sources) range.channels
      range.from (range.to - range.from)

  abbrev size : ℕ
  size = bytes_for range (range.to - range.from)

  -- how many bytes the samples have
  long : length samples ≡ size
  long = length-frames_of (bits_of range.depth) range.channels range.from (range.to - range.from)
      (heard marked.work.planned marked.work.sounds sources)
      ∙ sym (mul_assoc (range.to - range.from) range.channels (bits_of range.depth / 8))

  -- each of them is in a job
  in_job : (i : ℕ) → i < length samples
      → IsFixedIn (jobs_over (work_of marked.work) sources) sound_name (λ _. false) (length head + i) → false ≡ true
  in_job i below fixed =
      let all : frames_before range (block_count range) ≡ range.to - range.from = omega arith in
      let product = mul_assoc (range.to - range.from) range.channels (bits_of range.depth / 8) in
      let b = byte_block marked.work sources is 0 (block_count range) i (omega arith) (omega arith)
      (rw all (omega (arith, below, long, product))) in
      let job = cut-covers marked.work.stretches 0 (block_count range) b.block no_stretch is.cut (omega arith)
      b.there in
      let own = job_own marked.work sources is job.place b.block job.there job.behind_first job.before_end in
      fixed job.place job.there refl (omega (arith, own.0, b.begun)) (omega (arith, own.1, b.ends))

  -- the file is as long as the rendered one
  laid_size : length (laid_file range) ≡ length (whole_of marked.work sources)
  unfolding rendering_of file_of
  laid_size = simp (length-append, length-zeros, long)

  -- behind its head are zeros
  zero_behind : (i : ℕ) → length head ≤ i → get_or (laid_file range) i 0 ≡ 0
  zero_behind i behind = get_or-append_right head (zeros (padded size)) (length head) i 0 refl behind
      ∙ zero_at (padded size) (i - length head)

  -- its bytes that are in no job are right
  laid_right : (i : ℕ) → IsFixedIn (jobs_over (work_of marked.work) sources) sound_name (λ _. false) i
      → get_or (laid_file range) i 0 ≡ get_or (whole_of marked.work sources) i 0
  unfolding rendering_of file_of
  laid_right i fixed =
      let pad = zeros (length samples % 2) in
      let j = i - length head in
      elim (cases_lt i (length head)) [
        | inl before ↦ get_or_append_left head (zeros (padded size)) 0 i before
            ∙ sym (get_or_append_left head (samples ++ pad) 0 i before)
        | inr behind ↦ zero_behind i behind
            ∙ sym (get_or-append_right head (samples ++ pad) (length head) i 0 refl behind
            ∙ elim (cases_lt j (length samples)) [
              | inl inside ↦ let at : length head + j ≡ i = omega (arith, behind) in cc (in_job j inside (rw at fixed))
              | inr past ↦ get_or-append_right samples pad (length samples) j 0 refl past
                  ∙ zero_at (length samples % 2) (j - length samples)
            ])
      ]

  module _ (files : Files) (there : files sound_name ≡ Some (laid_file range)) where
    pub laid_blank : AreBlank (jobs_over (plan_of marked).jobs sources) ((plan_of marked).whole sources) files
    laid_blank = record {
      each = λ j below. record {
        bytes = laid_file range;
        there = there;
        size = laid_size;
        outside = λ i out. laid_right i (λ k lt named from to. absurd (out k lt named from to));
        zero_within = λ i k lt named from to. zero_behind i (omega (arith, from));
      };
    }

    -- and so the bytes of what is done stand, which is nothing
    pub laid_stands : (done : ℕ → Bool) → ((k : ℕ) → k < length marked.work.stretches → done k ≡ false)
        → HoldsDone (marks_of marked sources) done (files sound_name)
    laid_stands done none = record {
      bytes = laid_file range;
      there = there;
      size = laid_size;
      same = λ i fixed. laid_right i (λ k below named from to.
          let b = job_block marked.work sources is k i below from to in
          sym (none k below) ∙ fixed k b.block below b.above b.below b.begun b.ends);
    }

    -- where no block is marked
    pub laid_holds : IsRunOf marked.work marked.run → (marks : ℕ → Bool) → ((b : ℕ) → marks b ≡ false)
        → HoldsIn (marks_of marked sources) marks (files sound_name)
    laid_holds run marks none = record {
      bytes = laid_file range;
      there = there;
      holds = record {
        size = laid_size;
        same = λ i fixed. laid_right i (λ k below named from to.
            let b = job_block marked.work sources is k i below from to in
            sym (none b.block) ∙ fixed b.block (omega (arith, b.there, run.blocks)) b.begun b.ends);
      };
    }
