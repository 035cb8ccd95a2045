use Rattle.std.proofs.Common.{arith, refl, sym, subst, ap, ◌∙◌, ◌+◌, IsTrue, le-ltb}
use Rattle.work_terms.specs.Disk.{Files}
use Rattle.wavread.proofs.Texts.{short_told, whole_told, no_history, history_read, cut_told}
use Rattle.wavread.proofs.bext_chunk.read_whole.Goals as goal

pub returns-then-contents-lt-FIELDS_LENGTH-clause-texts : goal.returns-then-contents-lt-FIELDS_LENGTH-clause-texts
returns-then-contents-lt-FIELDS_LENGTH-clause-texts g c = λ honest file there inside.
    short_told file c.args.contents _ inside (omega arith) refl c.new.ensures.items refl refl

pub returns-then-contents-le-HISTORY-clause-texts : goal.returns-then-contents-le-HISTORY-clause-texts
returns-then-contents-le-HISTORY-clause-texts g c = λ honest file there inside.
    whole_told file c.args.contents _ (omega arith) inside (c.in_ok-bext.ensures.fields honest file there)
    (c.new-then-contents-le-HISTORY.ensures.items ∙ no_history file c.args.contents inside (omega arith)) refl
    (sym (le-ltb (602 + 65536) c.args.contents.length (omega arith)))

pub returns-clause-texts : goal.returns-clause-texts
returns-clause-texts g c = λ honest file there inside.
    let kept = c.in_ok-bext.ensures.only_reads in
    let count = c.min-count.ensures in
    let read = c.in_ok-history.ensures.history (subst IsTrue (sym kept.honest_same) honest) file
    (ap (λ (files : Files). files c.args.name.now) kept.same ∙ there) in
    whole_told file c.args.contents _ (omega arith) inside (c.in_ok-bext.ensures.fields honest file there)
    (history_read file c.args.contents c.min-count.result c.in_ok-history.history.items (omega arith)
    (λ past. omega arith) (λ fits. omega arith) read) refl
    (cut_told c.args.contents.length (omega arith))
