use Rattle.std.proofs.Common.{ℕ, List, ◌∙◌, ap, nat_eq}
use Rattle.std.specs.List.{starts_with}
use Rattle.std.proofs.lemmas.List.{take_rest}
use Rattle.riff.specs.declared.pcm_format.TheConstants.{PCM_SUB_FORMAT}
use Rattle.riff.proofs.pcm_format.has_sub_format.Goals as goal

pub returns : goal.returns
returns c =
    c.starts_with.ensures.value ∙ ap (λ (xs : List ℕ). starts_with nat_eq xs PCM_SUB_FORMAT)
    (take_rest c.args.bytes.now 24)
