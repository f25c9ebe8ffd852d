use Rattle.mp_verdict.proofs.RepliesRight.{reply_right, follows_right}
use Rattle.mp_verdict.proofs.told.law_replies_right.Goals as goal

pub returns-clause-right : goal.returns-clause-right
returns-clause-right c = λ script work opening o w down entries downs run answer line spelled f told counted. reply_right script spelled work opening o w down entries downs f run told counted answer line

pub returns-clause-follows : goal.returns-clause-follows
returns-clause-follows c = λ script work opening o w down entries downs run answer spelled f told. follows_right script spelled work opening o w down entries downs f run told answer
