use Rattle.std.proofs.Common.{ℕ, ◌+◌, ◌-◌, ◌*◌, ◌/◌, List, ◌∙◌, ap, drop, length, subst, sym, take, rules}
use Rattle.std.specs.Prelude.{ℤ}
use Rattle.sound_terms.specs.Depth.{bits_of}
use Rattle.pcm.specs.Samples.{samples_in}
use Rattle.pcm.specs.Laws.{all_fit, length-samples_in}
use Rattle.blockmachine.specs.Sums.{HasAdded, widened}
use Rattle.blockmachine.proofs.Layered.{layer_played, length-run, run_inside, small_run}
use Rattle.blockmachine.proofs.StoredSamples.{stored_added, stored_room}
use Rattle.blockmachine.proofs.layers.add_stored_layer.Goals as goal

pub slice_bounds-run-end : goal.slice_bounds-run-end
slice_bounds-run-end c =
    let stored = c.args.stored.now in
    let fit = run_inside stored.stretch stored.shape stored.channels c.args.lanes.frames c.args.lanes.channels
    (bits_of stored.depth) (bits_of stored.depth) c.args.sums.now c.requires in
    search (rules, fit)

pub add_unpacked-requires-clause-each : goal.add_unpacked-requires-clause-each
add_unpacked-requires-clause-each c =
    let stored = c.args.stored.now in
    let count = length-run stored.stretch stored.shape stored.channels c.args.lanes.frames c.args.lanes.channels
    (bits_of stored.depth) (bits_of stored.depth) c.args.sums.now c.requires in
    stored.whole
    ∙ ap (λ n. stored.stretch.length * n * (bits_of stored.depth / 8)) c.requires.layer.alike
    ∙ ap (λ n. n * (bits_of stored.depth / 8)) (sym count)

pub add_unpacked-requires-clause-room : goal.add_unpacked-requires-clause-room
add_unpacked-requires-clause-room c =
    let stored = c.args.stored.now in
    let bits = bits_of stored.depth in
    let from = stored.stretch.at * c.args.lanes.channels in
    let run = take (from + stored.stretch.length * c.args.lanes.channels - from) (drop from c.args.sums.now) in
    stored_room stored.depth run (samples_in bits (length run) stored.bytes.now) c.requires.layer.shallow
    (length-samples_in bits (length run) stored.bytes.now)
    (all_fit stored.depth (length run) stored.bytes.now stored.small)
    (small_run stored.stretch stored.shape stored.channels c.args.lanes.frames c.args.lanes.channels
    bits bits c.args.sums.now c.requires)

pub returns-clause-played : goal.returns-clause-played
returns-clause-played c =
    let stored = c.args.stored.now in
    let bits = bits_of stored.depth in
    let bytes = stored.bytes.now in
    let new = c.add_unpacked.new.sums in
    let count = length-run stored.stretch stored.shape stored.channels c.args.lanes.frames c.args.lanes.channels
    bits bits c.args.sums.now c.requires in
    let from = stored.stretch.at * c.args.lanes.channels in
    let run = take (from + stored.stretch.length * c.args.lanes.channels - from) (drop from c.args.sums.now) in
    let all = count ∙ ap (λ n. stored.stretch.length * n) (sym c.requires.layer.alike) in
    let added : HasAdded (1, 1) bits (samples_in bits (length run) bytes) (widened bits run) (widened bits new) =
    subst (λ (l : List ℤ). HasAdded (1, 1) bits (samples_in bits (length run) bytes) (widened bits run) (widened bits l))
    (sym c.add_unpacked.ensures)
    (stored_added stored.depth run (samples_in bits (length run) bytes) c.requires.layer.shallow
    (length-samples_in bits (length run) bytes) (all_fit stored.depth (length run) bytes stored.small)
    (small_run stored.stretch stored.shape stored.channels c.args.lanes.frames c.args.lanes.channels
    bits bits c.args.sums.now c.requires)) in
    layer_played stored.stretch stored.shape stored.channels c.args.lanes.frames c.args.lanes.channels bits bits
    c.args.sums.now c.requires (samples_in bits (stored.stretch.length * stored.channels) bytes)
    new stored.source c.add_unpacked.auto.sums
    (subst (λ (n : ℕ). HasAdded (1, 1) bits (samples_in bits n bytes) (widened bits run) (widened bits new)) all added)

pub returns-clause-fit : goal.returns-clause-fit
returns-clause-fit c =
    let stored = c.args.stored.now in
    all_fit stored.depth (stored.stretch.length * stored.channels) stored.bytes.now stored.small
