use Rattle.std.proofs.Common.{◌+◌, refl, ◌∙◌, arith}
use Rattle.mp_trx_fusion.proofs.Callers.{holds_part, log_below}
use Rattle.mp_trials.proofs.commits.commit_many.Goals as goal

pub returns-in_default-clause-part : goal.returns-in_default-clause-part
returns-in_default-clause-part c = holds_part c.args.node c.args.p (c.args.after + 1) (c.requires.may.0 (c.args.after + 1) (omega arith) (omega arith))

pub loop-i-init : goal.loop-i-init
loop-i-init c = (
  c.requires.run,
  refl,
  holds_part c.args.node c.args.p (c.args.after + 1) (c.requires.may.0 (c.args.after + 1) (omega arith) (omega arith)),
  λ version above within. c.requires.may.0 version (omega arith) (omega arith),
  log_below c.args.node c.args.p 0 0 _ (omega arith) c.requires.may.1,
  refl,
  refl,
)

pub loop-i-preserved : goal.loop-i-preserved
loop-i-preserved c =
    let i = c.loop-i.invariant in
    let number = c.from.ensures in
    let below = c.loop-i-test.true in
    let end = c.loop-i.auto.i-end in (
      c.commit_one.ensures.node.0 ∙ i.0,
      c.commit_one.ensures.node.1 ∙ i.1,
      c.commit_one.ensures.part,
      λ version above within. c.commit_one.ensures.others version (λ same. absurd (omega (arith, same, above, number))) (i.3 version (omega (arith, above)) (omega (arith, within, below, end))),
      log_below _ _ _ _ _ (omega (arith, number)) c.commit_one.ensures.log,
      c.commit_one.ensures.mtr.0,
      (let more = c.commit_one.ensures.mtr.1 in omega (arith, more, i.6)),
    )
