use Rattle.std.proofs.Common.{sym, ◌∙◌}
use Rattle.std.proofs.lemmas.Bool.{OnFalse_at}
use Rattle.adlread.proofs.Untold.{rate_of-untold}
use Rattle.adlread.proofs.rate.rate_of.Goals as goal
use Rattle.adlread.proofs.rate.rate_of.Goals.{else-begins_list-via-then-begins_list+else-has_rate_keyword, else-begins_list-via-else-begins_list}

pub returns-else-begins_list : goal.returns-else-begins_list
returns-else-begins_list c = elim c.else-begins_list.branch [
  | else-begins_list-via-then-begins_list+else-has_rate_keyword w ↦
      sym (rate_of-untold c.args.text.now (sym w.has_rate_keyword.ensures ∙ w.if-has_rate_keyword.false))
  | else-begins_list-via-else-begins_list w ↦ sym (OnFalse_at w.if-begins_list.false c.begins_list.ensures)
]
