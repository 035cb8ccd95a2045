use Rattle.std.proofs.Common.{ℕ, [], ◌∷◌, refl, ap, arith}
use Rattle.std.proofs.lemmas.List.Elements.{All-cons, All-nil}
use Rattle.sound_terms.specs.declared.Depth.{Depth}
use Rattle.sound_terms.specs.declared.block.Instruction.TheVariants.{Start, Flat, Emit}
use Rattle.sound_terms.specs.declared.block.Stretch.{Stretch}
use Rattle.sound_terms.specs.Blocks.{FitsBlock, IsBlockProgram, IsFormed, Programmed}
use Rattle.trials_sounds.proofs.tests.additions.adds.Goals as goal

added_twice : (channels : ℕ) (stretch : Stretch) (depth : Depth) → FitsBlock 83 channels stretch
    → IsBlockProgram 83 channels depth (Start 83 ∷ Flat stretch ∷ Flat stretch ∷ Emit depth ∷ [])
added_twice channels stretch depth fits =
    let line = Flat stretch in
    record {
      lines = line ∷ line ∷ [];
      whole = refl;
      formed = All-cons (IsFormed 83 channels) line (line ∷ []) (fits, tt)
          (All-cons (IsFormed 83 channels) line [] (fits, tt) (All-nil (IsFormed 83 channels)));
    }

pub run_over-requires-clause-fits : goal.run_over-requires-clause-fits
run_over-requires-clause-fits g c =
    let channels = ap (λ machine. machine.channels) c.requires.machine in
    let frames = ap (λ machine. machine.frames) c.requires.machine in
    let lines = ap (λ (p : Programmed). p.lines) c.add_twice.ensures in (
      83,
      c.args.shown,
      omega (arith, frames),
      rw (channels, lines) (added_twice 2 c.args.stretch c.args.shown c.requires.fits),
      omega (arith, channels),
    )
