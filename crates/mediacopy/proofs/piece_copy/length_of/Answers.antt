use Rattle.std.proofs.Common.{◌∙◌, ◌*◌, ap}
use Rattle.sound_terms.specs.Media.{frame_length}
use Rattle.mediacopy.proofs.piece_copy.length_of.Goals as goal

pub returns : goal.returns
returns c =
    ap (λ n. c.args.job.frames * n) (c.frame_of-frame.ensures.value ∙ ap frame_length c.source_of.ensures)
