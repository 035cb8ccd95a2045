use Rattle.std.proofs.Common.{List, get_or, ap, ◌∙◌, rules}
use Rattle.std.specs.Prelude.{ℤ, pos}
use Rattle.std.specs.List.{flat_map}
use mir.Syntax.{w32}
use mir.Val.{SFits}
use Rattle.sound_terms.specs.Waves.{sample_bytes}
use Rattle.pcm.proofs.Packing.{four_of, packed_bytes}
use Rattle.pcm.proofs.lanes.write_four.Goals as goal

pub returns : goal.returns
returns c =
    let samples = c.args.samples.now in
    let a : SFits w32 (get_or samples 0 (pos 0)) = search rules in
    let b : SFits w32 (get_or samples 1 (pos 0)) = search rules in
    let d : SFits w32 (get_or samples 2 (pos 0)) = search rules in
    packed_bytes (get_or samples 0 (pos 0)) (get_or samples 1 (pos 0)) (get_or samples 2 (pos 0))
    (get_or samples 3 (pos 0)) c.args.bytes.now a b d c.requires.room
    ∙ ap (λ (l : List ℤ). flat_map (sample_bytes 24) l) (four_of samples c.requires.four)
