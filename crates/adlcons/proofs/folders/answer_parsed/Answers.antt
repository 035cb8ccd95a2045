use Rattle.std.proofs.Common.{[], refl}
use Rattle.adlcons.proofs.folders.answer_parsed.Goals as goal

pub returns-in-Explain-clause-answered : goal.returns-in-Explain-clause-answered
returns-in-Explain-clause-answered g c = rw c.in-Explain.is tt

pub returns-in-Explain-clause-mistake : goal.returns-in-Explain-clause-mistake
returns-in-Explain-clause-mistake g c = rw c.in-Explain.is (λ two. ([], tt))

pub returns-in-ExplainNotice-clause-answered : goal.returns-in-ExplainNotice-clause-answered
returns-in-ExplainNotice-clause-answered g c = rw c.in-ExplainNotice.is tt

pub returns-in-ExplainNotice-clause-mistake : goal.returns-in-ExplainNotice-clause-mistake
returns-in-ExplainNotice-clause-mistake g c = rw c.in-ExplainNotice.is (λ two. ([], tt))

pub returns-in-Check-clause-answered : goal.returns-in-Check-clause-answered
returns-in-Check-clause-answered g c = rw c.in-Check.is c.check_folder.ensures.answered

pub returns-in-Report-clause-answered : goal.returns-in-Report-clause-answered
returns-in-Report-clause-answered g c = rw c.in-Report.is c.report_folder.ensures.reported

pub returns-in-Compare-clause-answered : goal.returns-in-Compare-clause-answered
returns-in-Compare-clause-answered g c = rw c.in-Compare.is c.compare_folders.ensures.answered

pub returns-in-Compare-clause-mistake : goal.returns-in-Compare-clause-mistake
returns-in-Compare-clause-mistake g c = rw c.in-Compare.is c.compare_folders.ensures.mistake

pub returns-in-Show-clause-answered : goal.returns-in-Show-clause-answered
returns-in-Show-clause-answered g c = rw c.in-Show.is tt

pub returns-in-Show-clause-mistake : goal.returns-in-Show-clause-mistake
returns-in-Show-clause-mistake g c = rw c.in-Show.is c.show_folder.ensures.mistake

pub returns-in-Render-clause-answered : goal.returns-in-Render-clause-answered
returns-in-Render-clause-answered g c = rw c.in-Render.is (c.work_in_folders.ensures.rendered _ _ _ _ refl)

pub returns-in-Render-clause-mistake : goal.returns-in-Render-clause-mistake
returns-in-Render-clause-mistake g c = rw c.in-Render.is c.work_in_folders.ensures.mistake

pub returns-in-Resume-clause-answered : goal.returns-in-Resume-clause-answered
returns-in-Resume-clause-answered g c = rw c.in-Resume.is (c.work_in_folders-in-Resume.ensures.resumed _ _ _ _ refl)

pub returns-in-Resume-clause-mistake : goal.returns-in-Resume-clause-mistake
returns-in-Resume-clause-mistake g c = rw c.in-Resume.is c.work_in_folders-in-Resume.ensures.mistake

pub returns-in-Consolidate-clause-answered : goal.returns-in-Consolidate-clause-answered
returns-in-Consolidate-clause-answered g c = rw c.in-Consolidate.is c.consolidate_folders.ensures.answered
