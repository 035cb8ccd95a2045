use Rattle.std.proofs.Common.{sym, ◌∙◌}
use Rattle.adlread.proofs.Untold.{too_short}
use Rattle.adlread.proofs.tags.has_word.Goals as goal

pub returns-then-rest-word : goal.returns-then-rest-word
returns-then-rest-word c = sym (too_short c.args.word.now c.loop-rest.rest.now c.if-rest-word.true) ∙ c.loop-rest.invariant
