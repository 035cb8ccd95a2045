use Rattle.std.proofs.Common.{◌≡◌, ◌+◌, ◌-◌, ◌*◌, ◌≤◌, length, get_or, arith, rules, subst, sym, ap, ◌∙◌, IsTrue, length-take, length-drop}
use Rattle.std.specs.Prelude.{ℤ, pos}
use Rattle.work_terms.specs.Disk.{Files}
use Rattle.sound_terms.specs.Depth.{bits_of}
use Rattle.sound_terms.specs.Waves.{sample_at}
use Rattle.wavread.proofs.Frames.{sample_told, filled_more, fits_block, length_kept}
use Rattle.wavread.proofs.sound.Sound.read.Goals as goal

pub overflow_add-from : goal.overflow_add-from
overflow_add-from g c = let few = c.channels.ensures.within.few_frames in omega (arith, few)

pub loop-done-preserved : goal.loop-done-preserved
loop-done-preserved g c =
    let done = c.loop-done.done in
    let count = c.min-count.result in
    let old = c.loop-done.samples in
    let new = c.pick.new.samples in
    let frames = c.read_frames.new.frames in
    let self = c.args.self.now in
    let size = done + count - done in
    let shorter = c.min-count.ensures in
    let within = c.loop-done.invariant.within in
    let inside : done + count ≤ length old = omega (arith, shorter, within) in
    let picked : length new ≡ count =
    c.pick.auto.samples ∙ omega (arith, length-take {A = ℤ}, length-drop {A = ℤ}) in
    let kept = length_kept done size old new (omega arith) (omega arith) in
    record {
      within = omega (arith, kept);
      sources = search rules;
      filled = λ honest file there.
          let source = c.loop-done.invariant.sources in
          let there' = ap (λ (files : Files). files self.name) source.same ∙ there in
          let are = c.in_ok-read_frames.ensures.frames (subst IsTrue (sym source.honest_same) honest) file there' in
          let channels : c.from-channels.result ≡ self.channels =
          c.from-channels.ensures ∙ c.channels.ensures.channels in
          let room = fits_block count c.from-channels.result _ shorter in
          let taken : length frames ≡ count * c.from-channels.result =
          c.read_frames.auto.frames ∙ omega (arith, room, length-take {A = ℤ}) in
          let long : length frames ≡ count * self.channels = taken ∙ ap (λ m. count * m) channels in
          filled_more done count size old new
          (λ i. sample_at file self.offset self.channels (bits_of self.depth) (c.args.from + i) c.args.channel) inside
          picked
          (c.loop-done.invariant.filled honest file there)
          (λ j below. c.pick.ensures j (omega arith)
          ∙ ap (λ m. get_or frames (j * m + (c.from.result - 1)) (pos 0)) channels
          ∙ ap (λ m. get_or frames (j * self.channels + (m - 1)) (pos 0)) c.from.ensures
          ∙ sample_told file self.offset self.channels (bits_of self.depth) c.args.from done j c.args.channel frames
          count are long below
          c.requires.channel.0 c.requires.channel.1);
    }
