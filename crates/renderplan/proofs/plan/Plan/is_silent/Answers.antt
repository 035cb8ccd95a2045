use Rattle.std.proofs.Common.{◌≡◌, ◌∙◌, ap, sym}
use Rattle.std.specs.Prelude.{is_some}
use Rattle.renderplan.proofs.ExactSums.{all_silent, none_there}
use Rattle.renderplan.specs.Sources.{source_of}
use Rattle.sound_terms.specs.Blocks.{block_frames, block_start}
use Rattle.renderplan.proofs.plan.Plan.is_silent.Goals as goal

pub returns-clause-found : goal.returns-clause-found
returns-clause-found c =
    let plan = c.args.self.now in
    let found : c.source_of.result ≡ source_of plan.pieces plan.range c.args.k =
    c.source_of.ensures.source c.requires in
    ap is_some (sym found) ∙ c.is_none.ensures

pub returns-clause-zero : goal.returns-clause-zero
returns-clause-zero c none reading i channel below inside =
    let plan = c.args.self.now in
    let found : c.source_of.result ≡ source_of plan.pieces plan.range c.args.k =
    c.source_of.ensures.source c.requires in
    all_silent reading (block_start plan.range c.args.k) (block_frames plan.range c.args.k) plan.range.channels
    plan.pieces i channel below inside
    (sym found ∙ none_there c.source_of.result c.is_none.result c.is_none.ensures none)
