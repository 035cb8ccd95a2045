use Rattle.std.proofs.Common.{refl, sym}
use Rattle.answers.proofs.requests.carry_out.Goals as goal

pub returns-in-Check-clause-answered : goal.returns-in-Check-clause-answered
returns-in-Check-clause-answered g c = rw c.in-Check.is (c.answer_check.ensures.answered, refl)

pub returns-in-Report-clause-answered : goal.returns-in-Report-clause-answered
returns-in-Report-clause-answered g c =
    rw c.in-Report.is (c.answer_report.ensures.reported, c.answer_report.ensures.printed, refl)

pub returns-in-Render-clause-answered : goal.returns-in-Render-clause-answered
returns-in-Render-clause-answered g c =
    rw c.in-Render.is (c.answer_chosen_render.ensures.rendered, c.answer_chosen_render.ensures.bad_time)

pub returns-in-Render-clause-mistake : goal.returns-in-Render-clause-mistake
returns-in-Render-clause-mistake g c = rw c.in-Render.is c.answer_chosen_render.ensures.mistake

pub returns-in-Resume-clause-answered : goal.returns-in-Resume-clause-answered
returns-in-Resume-clause-answered g c =
    rw c.in-Resume.is (c.answer_chosen_resume.ensures.resumed, c.answer_chosen_resume.ensures.bad_time)

pub returns-in-Resume-clause-mistake : goal.returns-in-Resume-clause-mistake
returns-in-Resume-clause-mistake g c = rw c.in-Resume.is c.answer_chosen_resume.ensures.mistake

pub returns-in-Consolidate-clause-answered : goal.returns-in-Consolidate-clause-answered
returns-in-Consolidate-clause-answered g c =
    rw c.in-Consolidate.is
    (rw (sym (c.asked_for.ensures c.args.list.now)) c.answer_consolidate.ensures.answered)

pub returns-in-Compare-clause-answered : goal.returns-in-Compare-clause-answered
returns-in-Compare-clause-answered g c = rw c.in-Compare.is tt

pub returns-in-Show-clause-answered : goal.returns-in-Show-clause-answered
returns-in-Show-clause-answered g c = rw c.in-Show.is (c.answer_picture.ensures.bad_time, refl)

pub returns-in-Show-clause-mistake : goal.returns-in-Show-clause-mistake
returns-in-Show-clause-mistake g c = rw c.in-Show.is c.answer_picture.ensures.mistake

pub returns-in-Explain-clause-answered : goal.returns-in-Explain-clause-answered
returns-in-Explain-clause-answered g c = rw c.in-Explain.is (c.explain.ensures.shown, refl, refl)

pub returns-in-ExplainNotice-clause-answered : goal.returns-in-ExplainNotice-clause-answered
returns-in-ExplainNotice-clause-answered g c = rw c.in-ExplainNotice.is (c.explain_notice.ensures.shown, refl, refl)
