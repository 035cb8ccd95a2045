use Rattle.std.proofs.Common.{arith, codes, refl, sym, ◌∙◌}
use Rattle.riff.proofs.OneMore.{one_more, cut_behind, format_more, bext_more, sound_more, OnErr_always}
use Rattle.riff.proofs.found.Found.add.Goals as goal

pub returns-then-ne-clause-added : goal.returns-then-ne-clause-added
returns-then-ne-clause-added c =
    λ chunks known. one_more _ _ _ _ _ known (grind arith) (grind arith) (grind arith) (grind arith) (grind arith)

pub returns-else-ne-clause-added : goal.returns-else-ne-clause-added
returns-else-ne-clause-added c =
    λ chunks known. one_more _ _ _ _ _ known (grind arith) (grind arith) (grind arith) (grind arith) (grind arith)

pub returns-in_err-self-clause-refused : goal.returns-in_err-self-clause-refused
returns-in_err-self-clause-refused c = λ chunks known.
    let cut = c.in_err-self.ensures.cut in
    let refused =
    cut_behind chunks _ (codes "fmt ") c.args.id c.args.contents _ known refl (cc) (sym known.format ∙ cut.1)
    cut.2 in
    OnErr_always _ refused

pub returns-in_err-self-2-clause-refused : goal.returns-in_err-self-2-clause-refused
returns-in_err-self-2-clause-refused c = λ chunks known.
    let cut = c.in_err-self-2.ensures.cut in
    let refused =
    cut_behind chunks _ (codes "bext") c.args.id c.args.contents _ known refl (cc) (sym known.bext ∙ cut.1) cut.2 in
    OnErr_always _ refused

pub returns-in_err-self-3-clause-refused : goal.returns-in_err-self-3-clause-refused
returns-in_err-self-3-clause-refused c = λ chunks known.
    let cut = c.in_err-self-3.ensures.cut in
    let refused =
    cut_behind chunks _ (codes "data") c.args.id c.args.contents _ known refl (cc) (sym known.sound ∙ cut.1)
    cut.2 in
    OnErr_always _ refused

pub returns-in_ok-self-clause-added : goal.returns-in_ok-self-clause-added
returns-in_ok-self-clause-added c = λ chunks known.
    format_more chunks _ _ _ _ _ _ known (cc)
    c.in_ok-self.ensures.first c.in_ok-self.ensures.taken c.in_ok-self.ensures.inside

pub returns-in_ok-self-2-clause-added : goal.returns-in_ok-self-2-clause-added
returns-in_ok-self-2-clause-added c = λ chunks known.
    bext_more chunks _ _ _ _ _ _ known (cc)
    c.in_ok-self-2.ensures.first c.in_ok-self-2.ensures.taken c.in_ok-self-2.ensures.inside

pub returns-in_ok-self-3-clause-added : goal.returns-in_ok-self-3-clause-added
returns-in_ok-self-3-clause-added c = λ chunks known.
    sound_more chunks _ _ _ _ _ _ known (cc)
    c.in_ok-self-3.ensures.first c.in_ok-self-3.ensures.taken c.in_ok-self-3.ensures.inside
