use Rattle.std.proofs.Common.{◌∙◌, ℕ, ap, sym, List, Bool, false, cond, map, arith}
use Rattle.std.proofs.lemmas.List.{ext_get_or, get_or-map, length-map}
use Rattle.job_terms.specs.declared.Job.{Job}
use Rattle.job_terms.specs.Board.{Board, done_job, fresh_job, no_job}
use Rattle.workboard.proofs.board.Board.with_done.Goals as goal

pub returns-clause-made : goal.returns-clause-made
returns-clause-made c =
    let f = λ (d : Bool). cond d done_job fresh_job in
    let i = c.loop-k.invariant in
    let jobs = ext_get_or no_job c.loop-k.board.jobs (map f c.args.done.now) (i.whole ∙ sym
    (length-map c.args.done.now f ∙ c.requires.done))
    (λ j lt. i.before j (omega (arith, lt, i.whole, c.requires.done)) ∙ sym (get_or-map f c.args.done.now j false
    no_job (omega (arith, lt, i.whole, c.requires.done)))) in
    ap {B = Board} (λ (js : List Job). record { jobs = js; order = c.loop-k.board.order }) jobs
    ∙ ap {B = Board} (λ (o : List ℕ). record { jobs = map f c.args.done.now; order = o }) (i.order ∙ ap
    (λ (b : Board). b.order) c.in_ok-board.ensures.made)
