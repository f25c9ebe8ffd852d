use Rattle.std.proofs.Common.{◌≡◌, sym, ap, subst, ◌∙◌}
use Rattle.mp_script.specs.Transactions.{target_of}
use Rattle.mp_book.specs.declared.stage.Stage.{Stage}
use Rattle.mp_primary.specs.GoingOn.{IsReplyBack}
use Rattle.mp_primary.proofs.BackEnds.{writes_by}
use Rattle.mp_primary.proofs.going_back.reply_to.Goals as goal

pub returns-in-Some : goal.returns-in-Some
returns-in-Some c = λ line same.
    let w = writes_by (target_of c.args.stmt.now) c.verb_of.result c.in-Some.verb c.verb_of.ensures c.in-Some.is in
    subst (λ (stage : Stage). IsReplyBack stage line c.reply_of.result) (sym c.in-Refused.is) (c.in-Some.verb, w.0, ap target_of same ∙ w.1, c.reply_of.ensures)
