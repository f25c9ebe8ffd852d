use Rattle.std.proofs.Common.{refl, sym, ◌∙◌, inl, arith}
use Rattle.mp_core_trx.specs.Events.{with_prep, with_draw}
use Rattle.mp_trx_fusion.specs.Calls.{with_begin}
use Rattle.mp_trx_fusion.proofs.Callers.{may_prepare, may_draw, may_commit, may_begin_after, may_begin_here, log_here, log_below}
use Rattle.mp_trials.proofs.Looks.{may_look_begun}
use Rattle.mp_trials.proofs.commits.commit_one.Goals as goal

pub look_often-requires-clause-look : goal.look_often-requires-clause-look
look_often-requires-clause-look c =
    let b = c.in-Ok.field-0 in
    may_look_begun _ _ c.args.p c.args.version b c.in-Ok.ensures.becomes c.in-Ok.ensures.begun.0 c.in-Ok.ensures.begun.2 c.requires.may

pub look_often-requires-clause-may : goal.look_often-requires-clause-may
look_often-requires-clause-may c = may_prepare _ _ c.args.p c.args.version c.in-Ok.field-0 c.in-Ok.ensures.becomes c.requires.may

pub draw-cts-requires-clause-may : goal.draw-cts-requires-clause-may
draw-cts-requires-clause-may c = may_draw _ _ c.args.p c.in-Ok.field-0.id c.prepare.ensures.becomes c.look_often.ensures.reached c.look_often.ensures.may

pub publish_recorded-requires-clause-may : goal.publish_recorded-requires-clause-may
publish_recorded-requires-clause-may c =
    let p = c.args.p in
    let id = c.in-Ok.field-0.id in
    may_commit _ _ p id _ c.draw-cts.ensures.becomes (may_draw _ _ p id c.prepare.ensures.becomes c.look_often.ensures.reached c.look_often.ensures.may)

pub publish_recorded-requires-clause-log : goal.publish_recorded-requires-clause-log
publish_recorded-requires-clause-log c =
    let p = c.args.p in
    let b = c.in-Ok.field-0 in
    let begun = log_here _ _ p (with_begin b) _ c.in-Ok.ensures.becomes _ c.args.version (λ q. refl) c.requires.log in
    let looked = c.look_often.ensures.log _ _ begun in
    let prep = log_here _ _ p (with_prep b.id) _ c.prepare.ensures.becomes _ c.args.version (λ q. refl) looked in
    let draws = log_here _ _ p (with_draw b.id c.draw-cts.result) _ c.draw-cts.ensures.becomes _ c.args.version (λ q. refl) prep in
    log_below _ p _ c.args.version b.id.version (omega (arith, c.in-Ok.ensures.begun.1)) draws

pub returns-clause-log : goal.returns-clause-log
returns-clause-log c = log_below _ _ _ _ _ (omega (arith, c.in-Ok.ensures.begun.1)) c.publish_recorded.ensures.log

pub returns-clause-others : goal.returns-clause-others
returns-clause-others c other differs may =
    let p = c.args.p in
    let b = c.in-Ok.field-0 in
    let begun = may_begin_after _ _ p other b c.in-Ok.ensures.becomes (λ same. differs (sym same ∙ c.in-Ok.ensures.begun.1)) may in
    let looked = c.look_often.ensures.others other begun in
    let prep = may_begin_here _ _ p (with_prep b.id) _ c.prepare.ensures.becomes other (λ q. refl) (λ q x has. inl has) looked in
    let draws = may_begin_here _ _ p (with_draw b.id c.draw-cts.result) _ c.draw-cts.ensures.becomes other (λ q. refl) (λ q x has. inl has) prep in
    c.publish_recorded.ensures.others other draws
