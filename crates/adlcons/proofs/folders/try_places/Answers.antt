use Rattle.std.proofs.Common.{◌∙◌, subst}
use Rattle.std.proofs.lemmas.Result.{IfOk-weaker}
use Rattle.commandline.specs.Request.{asked_of}
use Rattle.list_terms.specs.Text.{rate_of}
use Rattle.answers.specs.Answers.{MayBeMistaken}
use Rattle.adlcons.proofs.folders.try_places.Goals as goal

pub returns-clause-mistake : goal.returns-clause-mistake
returns-clause-mistake g c =
    IfOk-weaker c.try_stores.result _ _ (λ status mistaken two. (
      c.as_slice-list.result.now,
      subst (λ (err : g.row.E.Denot). MayBeMistaken g.E.Console err c.try_stores.new.err
          (rate_of c.as_slice-list.result.now) (asked_of c.args.request)) c.in_ok-stores.ensures.quiet
          (c.warn_unlocked.ensures c.try_stores.new.err (mistaken two)),
    )) c.try_stores.ensures.mistake

pub try_stores-requires-clause-careful : goal.try_stores-requires-clause-careful
try_stores-requires-clause-careful g c = c.in_ok-stores.ensures.careful ∙ c.replaced_by-replaced.ensures
