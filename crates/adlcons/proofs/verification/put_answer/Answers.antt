use Rattle.std.proofs.Common.{inl, inr}
use Rattle.adlcons.proofs.verification.put_answer.Goals as goal

pub returns-in-Ok-clause-done : goal.returns-in-Ok-clause-done
returns-in-Ok-clause-done g c = λ some. inr c.put_verified.ensures.compared

pub returns-in-Err-clause-done : goal.returns-in-Err-clause-done
returns-in-Err-clause-done g c = λ some. inl c.keep_list_unread.ensures
