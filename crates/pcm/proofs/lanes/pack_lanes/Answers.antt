use Rattle.std.proofs.Common.{◌≡◌, ◌*◌, ◌-◌, ◌≤◌, List, ap, ◌∙◌, arith, drop, length, rules, take}
use Rattle.std.specs.Prelude.{ℤ}
use Rattle.std.specs.List.{flat_map}
use Rattle.std.proofs.lemmas.List.{take_rest}
use Rattle.sound_terms.specs.Waves.{sample_bytes}
use Rattle.pcm.proofs.Packing.{four_written}
use Rattle.pcm.proofs.lanes.pack_lanes.Goals as goal

pub loop-bytes-preserved : goal.loop-bytes-preserved
loop-bytes-preserved c =
    let done = c.loop-bytes.done in
    let samples = c.args.samples.now in
    let bytes = c.loop-bytes.bytes in
    let new = c.write_four.new.bytes in
    let room : done * 3 ≤ length bytes = omega arith in
    let long : 12 ≤ length new = search rules in
    let written : take 12 new ≡ flat_map (sample_bytes 24) (take 4 (drop done samples)) =
    c.write_four.ensures ∙ ap (λ (l : List ℤ). flat_map (sample_bytes 24) (take 4 l)) (take_rest samples done) in
    record {
      within = omega arith;
      written = four_written done (length bytes - done * 3) samples bytes new room long written c.loop-bytes.invariant.written;
    }
