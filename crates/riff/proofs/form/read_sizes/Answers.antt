use Rattle.std.proofs.Common.{◌≤◌, ◌-◌, length, arith, subst, sym, ap, ◌∙◌, IsTrue, refl}
use Rattle.work_terms.specs.Disk.{Files}
use Rattle.riff.proofs.Reading.{ranged}
use Rattle.riff.proofs.Forms.{rf64_laid, sizes_there}
use Rattle.riff.proofs.form.read_sizes.Goals as goal

pub returns-clause-opens : goal.returns-clause-opens
returns-clause-opens g c = λ honest file there whole not_riff is.
    let head = c.in_ok-head.ensures.head honest file there in
    let kept = c.in_ok-head.ensures.only_reads in
    let fields = ranged _ file _ _ (c.in_ok-read_at.ensures.read (subst IsTrue (sym kept.honest_same) honest))
    (ap (λ (files : Files). files c.args.name.now) kept.same ∙ there) in
    let held = c.if-not-holds_fields.ensures.0 refl in
    let within : c.in_ok-head.head.size ≤ length file - 20 = omega (arith, held.1) in
    let sizes =
    sizes_there file c.read_at.new.buffer c.in_ok-head.head head held.0 within (omega arith) fields (omega arith) in
    let found = sizes ∙ sym c.read_ds64.ensures ∙ c.in_ok-ds64.ensures.ok_part in
    let size = c.from-size.ensures in
    rf64_laid file c.args.end c.saturating_sub.result c.in_ok-ds64.ds64 c.in_ok-head.head not_riff is found head
    (rw size at c.saturating_sub.ensures)
