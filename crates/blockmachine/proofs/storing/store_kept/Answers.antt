use Rattle.std.proofs.Common.{sym, ap, ◌∙◌, List}
use Rattle.std.specs.Prelude.{ℤ}
use Rattle.std.specs.List.{flat_map}
use Rattle.sound_terms.specs.Depth.{bits_of}
use Rattle.sound_terms.specs.Waves.{sample_bytes}
use Rattle.blockmachine.proofs.Emitted.{each_handed_out}
use Rattle.blockmachine.proofs.KeptSums.{as_they_are}
use Rattle.blockmachine.proofs.storing.store_kept.Goals as goal

pub returns-then-clips-eq0-clause-stored : goal.returns-then-clips-eq0-clause-stored
returns-then-clips-eq0-clause-stored c =
    let kept = c.args.kept.now in
    c.pack.ensures.bytes
    ∙ ap (λ (l : List ℤ). flat_map (sample_bytes (bits_of kept.depth)) l)
    (sym (as_they_are kept.depth kept.sums.now (sym c.of_kept-clips.ensures.samples ∙ c.if-clips-eq0.true)))

pub returns-else-clips-eq0-clause-stored : goal.returns-else-clips-eq0-clause-stored
returns-else-clips-eq0-clause-stored c =
    let kept = c.args.kept.now in
    c.pack-else-clips-eq0.ensures.bytes
    ∙ ap (λ (l : List ℤ). flat_map (sample_bytes (bits_of kept.depth)) l)
    (each_handed_out (bits_of kept.depth) kept.sums.now c.emit_layers.new.out (c.emit_layers.auto.out ∙ c.requires.samples)
    c.emit_layers.ensures)
