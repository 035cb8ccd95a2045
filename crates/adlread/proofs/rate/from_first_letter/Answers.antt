use Rattle.std.proofs.Common.{codes, ap, ◌∙◌}
use Rattle.list_terms.specs.Text.{has_word}
use Rattle.adlread.proofs.Untold.{from_letter, no_letter}
use Rattle.adlread.proofs.rate.from_first_letter.Goals as goal

pub returns-in-Some-clause-same : goal.returns-in-Some-clause-same
returns-in-Some-clause-same c =
    ap (has_word (codes "SEQ_FRAME_RATE")) c.split_at.ensures.back
    ∙ from_letter c.args.text.now c.in-Some.position c.in-Some.ensures.0

pub returns-in-None-clause-same : goal.returns-in-None-clause-same
returns-in-None-clause-same c = no_letter c.args.text.now c.in-None.ensures
