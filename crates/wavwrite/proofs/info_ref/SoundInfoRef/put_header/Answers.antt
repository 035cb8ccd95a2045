use Rattle.std.proofs.Common.{◌≤◌, length, arith, sym, ◌∙◌}
use Rattle.std.proofs.lemmas.List.{take_all}
use Rattle.wavwrite.proofs.HeaderBytes.{header_put}
use Rattle.wavwrite.proofs.info_ref.SoundInfoRef.put_header.Goals as goal

pub returns : goal.returns
returns c =
    let whole : length c.put.new.out ≤ c.put.result = omega arith in
    sym (take_all _ _ whole)
    ∙ header_put c.args.self.now _ _ _ _ (rw c.form_head-form.ensures at c.put-at.ensures.put) c.put_bext-at.ensures.put
    (rw c.format_chunk-format.ensures at c.put-at-2.ensures.put) (rw c.data_head-head.ensures at c.put.ensures.put)
