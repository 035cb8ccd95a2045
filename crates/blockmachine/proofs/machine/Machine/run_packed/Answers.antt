use Rattle.std.proofs.Common.{◌≡◌, ℕ, ◌*◌, ◌/◌, ◌≤◌, IsTrue, List, [], ◌∷◌, ◌++◌, length, rules, sym, ap, ◌∙◌, subst}
use Rattle.std.proofs.Math.Nat.{mul-div_left}
use Rattle.sound_terms.specs.declared.block.Instruction.{Instruction}
use Rattle.sound_terms.specs.declared.block.Instruction.TheVariants.{Start, Emit}
use Rattle.sound_terms.specs.Depth.{bits_of}
use Rattle.sound_terms.specs.Mix.{Reading}
use Rattle.sound_terms.specs.Blocks.{IsBlockProgram, executed_all}
use Rattle.sound_terms.specs.Sounds.{reading_by}
use Rattle.clipping.specs.Clips.{IsClippingOf, block_sums}
use Rattle.blockmachine.specs.Sums.{Extent}
use Rattle.blockmachine.proofs.Ran.{added_between, between_ends}
use Rattle.blockmachine.proofs.machine.Machine.run_packed.Goals as goal

-- the number of sample frames from the number of samples
count_of : (samples frames n channels : ℕ) → samples ≡ frames * n → channels ≡ n → 1 ≤ channels → samples / channels ≡ frames
count_of samples frames n channels long told some =
    ap (λ m. m / channels) (long ∙ ap (λ m. frames * m) (sym told)) ∙ mul-div_left frames some

pub play_alone-requires-clause-copy : goal.play_alone-requires-clause-copy
play_alone-requires-clause-copy g c =
    let channels = c.lanes-lanes.result.channels in
    let n = c.args.self.now.channels in
    let told : channels ≡ n = c.lanes-lanes.ensures.channels ∙ ap (λ (e : Extent). e.channels) c.self.view_is in
    let count =
    count_of (length c.args.samples.now) c.requires.fits.0 n channels c.requires.fits.3 told
    c.lanes-lanes.result.some_channels in
    record {
      formed =
          subst (λ m. IsBlockProgram m channels c.args.depth c.args.program.now.lines) (sym count)
          (subst (λ m. IsBlockProgram c.requires.fits.0 m c.args.depth c.args.program.now.lines) (sym told)
          c.requires.fits.2);
      exact = c.requires.room
          ∙ ap (λ m. m * (bits_of c.args.depth / 8)) (c.requires.fits.3 ∙ ap (λ m. c.requires.fits.0 * m) (sym told)
          ∙ ap (λ m. m * channels) (sym count));
      inside = c.requires.inside;
    }

pub play_alone-requires-clause-room : goal.play_alone-requires-clause-room
play_alone-requires-clause-room g c =
    let channels = c.lanes-lanes.result.channels in
    let n = c.args.self.now.channels in
    let told : channels ≡ n = c.lanes-lanes.ensures.channels ∙ ap (λ (e : Extent). e.channels) c.self.view_is in
    let count =
    count_of (length c.args.samples.now) c.requires.fits.0 n channels c.requires.fits.3 told
    c.lanes-lanes.result.some_channels in
    c.requires.fits.3 ∙ ap (λ m. c.requires.fits.0 * m) (sym told) ∙ ap (λ m. m * channels) (sym count)

pub returns-in-Some-clause-clips : goal.returns-in-Some-clause-clips
returns-in-Some-clause-clips g c = λ honest frames start whole.
    let bits = bits_of c.args.depth in
    let channels = c.lanes-lanes.result.channels in
    let n = c.args.self.now.channels in
    let reading : Reading = reading_by (g.S.Shelf.stored c.args.shelf.now) c.args.sounds.now in
    let told : channels ≡ n = c.lanes-lanes.ensures.channels ∙ ap (λ (e : Extent). e.channels) c.self.view_is in
    let count =
    count_of (length c.args.samples.now) frames n channels whole told c.lanes-lanes.result.some_channels in
    subst (λ m. IsClippingOf bits n (block_sums (executed_all reading n c.args.program.now.lines start).sums n 0 m)
    c.in-Some.clips) count
    (subst (λ m. IsClippingOf bits m (block_sums (executed_all reading m c.args.program.now.lines start).sums m 0
    (length c.args.samples.now / channels)) c.in-Some.clips) told
    ((rw c.in-Some.is at (c.in_ok-played.ensures.clips honest)) start))

pub store_lines-requires-clause-sum : goal.store_lines-requires-clause-sum
store_lines-requires-clause-sum g c =
    let fits = c.requires.fits in
    record {
      lines = added_between c.args.sounds.now c.args.self.now fits.0 c.args.depth c.as_slice-instructions.result.now
          c.args.program.now.lines fits.1 fits.2 c.as_slice-instructions.ensures c.requires.inside;
      whole = (fits.0, fits.1, c.play_alone.auto.samples ∙ fits.3);
    }

pub returns-clause-clips : goal.returns-clause-clips
returns-clause-clips g c = λ honest frames start whole.
    let fits = c.requires.fits in
    let block = fits.2 in
    let depth = c.args.depth in
    let bits = bits_of depth in
    let channels = c.lanes-lanes.result.channels in
    let n = c.args.self.now.channels in
    let now : IsTrue (g.S.Shelf.honest c.play_alone.new.shelf) = search rules in
    let reading : Reading = reading_by (g.S.Shelf.stored c.args.shelf.now) c.args.sounds.now in
    let told : channels ≡ n = c.lanes-lanes.ensures.channels ∙ ap (λ (e : Extent). e.channels) c.self.view_is in
    let some = c.lanes-lanes.result.some_channels in
    let same : frames ≡ fits.0 =
    sym (count_of (length c.args.samples.now) frames n channels whole told some)
    ∙ count_of (length c.args.samples.now) fits.0 n channels fits.3 told some in
    let lines =
    between_ends c.as_slice-instructions.result.now block.lines (Start fits.0) (Emit depth)
    (c.as_slice-instructions.ensures ∙ block.whole) in
    let files : g.S.Shelf.stored c.play_alone.new.shelf ≡ g.S.Shelf.stored c.args.shelf.now = search rules in
    subst (λ (p : List Instruction).
    IsClippingOf bits n (block_sums (executed_all reading n p start).sums n 0 frames) c.in_ok-clips.clips)
    (ap (λ (l : List Instruction). Start frames ∷ (l ++ Emit depth ∷ [])) lines
    ∙ ap (λ m. Start m ∷ (block.lines ++ Emit depth ∷ [])) same ∙ sym block.whole)
    ((rw files at (c.in_ok-clips.ensures.clips now)) frames start (c.play_alone.auto.samples ∙ whole))
