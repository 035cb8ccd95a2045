use Rattle.std.proofs.Common.{◌≡◌, All, sym, ◌∙◌, subst}
use Rattle.std.proofs.lemmas.Option.{same_Some}
use Rattle.sound_terms.specs.declared.Depth.{Depth}
use Rattle.sound_terms.specs.Depth.{bits_of}
use Rattle.pcm.specs.Samples.{FitsDepth}
use Rattle.blockmachine.proofs.Ran.{added_between}
use Rattle.blockmachine.proofs.machine.Machine.run_over.Goals as goal

pub run_lines-requires : goal.run_lines-requires
run_lines-requires g c =
    let fits = c.requires.fits in
    record {
      lines = added_between c.args.sounds.now c.args.self.now fits.0 fits.1 c.as_slice-instructions.result.now
          c.args.program.now.lines fits.2 fits.3 c.as_slice-instructions.ensures c.requires.inside;
      whole = (fits.0, fits.2, fits.4);
    }

pub returns-in_ok-run_lines-clause-fit : goal.returns-in_ok-run_lines-clause-fit
returns-in_ok-run_lines-clause-fit g c = λ frames depth block.
    let told = c.depth_of.ensures frames depth block.lines (c.as_slice-instructions.ensures ∙ block.whole) in
    let same : c.in-Some.depth ≡ depth = same_Some c.in-Some.depth depth (sym c.in-Some.is ∙ told) in
    subst (λ (d : Depth). All (FitsDepth (bits_of d)) c.run_lines.new.out) same c.in_ok-run_lines.ensures.fit

pub returns-in_default : goal.returns-in_default
returns-in_default g c =
    let fits = c.requires.fits in
    let ends = c.depth_of.ensures fits.0 fits.1 fits.3.lines (c.as_slice-instructions.ensures ∙ fits.3.whole) in
    absurd (c.in_default.not-Some fits.1 ends)
