use Rattle.std.proofs.Common.{rules}
use Rattle.sound_terms.specs.Depth.{bits_of}
use Rattle.blockmachine.proofs.Layered.{layer_played, run_inside, small_run}
use Rattle.blockmachine.proofs.layers.add_layer.Goals as goal

pub slice_bounds-run-end : goal.slice_bounds-run-end
slice_bounds-run-end c =
    let played = c.args.played.now in
    let fit = run_inside played.stretch played.shape played.frames.channels c.args.lanes.frames c.args.lanes.channels
    (bits_of played.frames.depth) (bits_of c.args.depth) c.args.sums.now c.requires in
    search (rules, fit)

pub add_samples-requires : goal.add_samples-requires
add_samples-requires c =
    let played = c.args.played.now in
    record {
      each = search rules;
      small = λ yes. small_run played.stretch played.shape played.frames.channels c.args.lanes.frames
          c.args.lanes.channels (bits_of played.frames.depth) (bits_of c.args.depth) c.args.sums.now
          c.requires;
    }

pub returns : goal.returns
returns c =
    let played = c.args.played.now in
    layer_played played.stretch played.shape played.frames.channels c.args.lanes.frames c.args.lanes.channels
    (bits_of played.frames.depth) (bits_of c.args.depth) c.args.sums.now c.requires
    played.frames.samples.now c.add_samples.new.sums played.source c.add_samples.auto.sums c.add_samples.ensures
