-- Reading a rendered file back.
use Rattle.std.proofs.Common.{◌≡◌, ℕ, ◌-◌, [], length, refl, subst}
use Rattle.std.specs.Prelude.{ℤ}
use Rattle.sound_terms.specs.Depth.{bits_of}
use Rattle.sound_terms.specs.Waves.{SoundInfo, data_size}
use Rattle.sound_terms.specs.Render.{frames_of, Range, ReadsBack, render_info, rendering_of}
use Rattle.sound_terms.specs.Laws.{length-zeros}
use Rattle.wavwrite.specs.Info.{facts_of}
use Rattle.wavwrite.proofs.FileInfo.{IsInfo}
use Rattle.wavwrite.proofs.FileReads.{reads_back}
use Rattle.wavwrite.proofs.FrameReads.{length-frames_of, frames_read}

-- length of the samples
length-rendered : (range : Range) (mix : ℕ → ℕ → ℤ)
    → length (frames_of (bits_of range.depth) mix range.channels range.from (range.to - range.from))
    ≡ data_size (render_info range)
length-rendered range mix = length-frames_of (bits_of range.depth) mix range.channels range.from (range.to - range.from)

-- reading the rendered file gives the mix
rendered_reads : (range : Range) (mix : ℕ → ℕ → ℤ) → IsInfo (render_info range)
    → ReadsBack range mix (rendering_of range mix)
unfolding rendering_of
rendered_reads range mix is =
    let info = render_info range in
    let samples = frames_of (bits_of range.depth) mix range.channels range.from (range.to - range.from) in
    record {
      facts = facts_of [] info;
      read = λ name. reads_back name info samples is (length-rendered range mix);
      channels = refl;
      depth = refl;
      frames = refl;
      start = refl;
      samples = λ frame channel below first last.
          frames_read info mix range.from frame channel (length-zeros 338) below first last;
    }

pub render_reads_back : (info : SoundInfo) (range : Range) (mix : ℕ → ℕ → ℤ) → IsInfo info → info ≡ render_info range
    → ReadsBack range mix (rendering_of range mix)
render_reads_back info range mix is same = rendered_reads range mix (subst IsInfo same is)
