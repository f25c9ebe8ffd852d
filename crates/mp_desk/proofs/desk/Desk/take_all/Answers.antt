use Rattle.std.proofs.Common.{◌≡◌, ℕ, ◌+◌, ◌<◌, length, slice_get, Option, Some, refl, sym, ap, subst, ◌∙◌, arith}
use Rattle.std.specs.Option.{IfSome}
use Rattle.mp_cells.specs.declared.changes.Change.{Change}
use Rattle.mp_cells.specs.Plans.{Plan}
use Rattle.mp_core_pages.specs.declared.page_lock.Held.TheVariants.{Write as Exclusive}
use Rattle.mp_shared.specs.PageSteps.{held_in}
use Rattle.mp_buffer_fusion.specs.Buffers.{IsBuffered}
use Rattle.mp_desk.specs.Planned.{HasTaken}
use Rattle.mp_desk.proofs.Moving.{looks_go}
use Rattle.mp_desk.proofs.AtDesk.{brings_none, brings_both, brings_upto, wait_later}
use Rattle.mp_desk.proofs.PlanRecords.{some_at}
use Rattle.mp_desk.proofs.HeldPlans.{all_at, TookFirst, took_none, took_more, took_all}
use Rattle.mp_desk.proofs.desk.Desk.take_all.Goals as goal

pub loop-i-init : goal.loop-i-init
loop-i-init g c = record {
  desk = c.requires.desk;
  brings = brings_none c.args.p c.args.self.now c.args.node.now;
  plan = refl;
  mtr = refl;
  took = took_none c.args.p c.args.self.now.pool c.args.self.now.plan c.args.node.now;
}

pub page-number-requires : goal.page-number-requires
page-number-requires g c =
    let same = ap (λ (l : Plan). length l) c.loop-i.invariant.plan in
    let count = c.len-i-end.ensures.count in
    omega (arith, same, count)

pub take-requires-clause-desk : goal.take-requires-clause-desk
take-requires-clause-desk g c = c.loop-i.invariant.desk

pub take-requires-clause-page : goal.take-requires-clause-page
take-requires-clause-page g c =
    let count = c.len-i-end.ensures.count in
    let step = some_at c.args.self.now.plan c.loop-i.i (omega (arith, count)) in
    let there : slice_get c.loop-i.self.plan c.loop-i.i ≡ Some step.0 = ap (λ (l : Plan). slice_get l c.loop-i.i) c.loop-i.invariant.plan ∙ step.1 in
    let number = subst (λ (o : Option (ℕ × Change)). IfSome o (λ s. s.0 ≡ c.page-number.result)) there c.page-number.ensures in
    let range = all_at (λ (s : ℕ × Change). s.0 < 4096) c.args.self.now.plan c.requires.range c.loop-i.i step.0 step.1 in
    omega (arith, number, range)

pub take-requires-clause-room : goal.take-requires-clause-room
take-requires-clause-room g c =
    let few = c.loop-i.invariant.brings.few in
    let room = c.requires.room in
    let most = c.len-i-end.ensures.most in
    omega (arith, few, room, most)

pub returns-in-Err-clause-brings : goal.returns-in-Err-clause-brings
returns-in-Err-clause-brings g c =
    let most = c.len-i-end.ensures.most in
    brings_upto c.args.p (c.loop-i.i + 1) 20 c.args.self.now c.take.new.self c.args.node.now c.take.new.node (omega (arith, most))
    (brings_both c.args.p c.loop-i.i 1 c.args.self.now c.loop-i.self c.take.new.self c.args.node.now c.loop-i.node c.take.new.node c.loop-i.invariant.brings c.take.ensures.brings)

pub returns-in-Err-clause-plan : goal.returns-in-Err-clause-plan
returns-in-Err-clause-plan g c = c.take.ensures.rest.0 ∙ c.loop-i.invariant.plan

pub returns-in-Err-clause-mtr : goal.returns-in-Err-clause-mtr
returns-in-Err-clause-mtr g c = c.take.ensures.rest.1 ∙ c.loop-i.invariant.mtr

pub returns-in-Err-clause-cause : goal.returns-in-Err-clause-cause
returns-in-Err-clause-cause g c =
    wait_later c.args.p c.args.node.now c.loop-i.node c.take.new.node c.in-Err.wait (looks_go c.args.p c.args.node.now c.loop-i.node c.loop-i.invariant.brings.looked) c.in-Err.ensures.cause

pub loop-i-preserved : goal.loop-i-preserved
loop-i-preserved g c =
    let count = c.len-i-end.ensures.count in
    let step = some_at c.args.self.now.plan c.loop-i.i (omega (arith, count)) in
    let there : slice_get c.loop-i.self.plan c.loop-i.i ≡ Some step.0 = ap (λ (l : Plan). slice_get l c.loop-i.i) c.loop-i.invariant.plan ∙ step.1 in
    let number : (step.0).0 ≡ c.page-number.result = subst (λ (o : Option (ℕ × Change)). IfSome o (λ s. s.0 ≡ c.page-number.result)) there c.page-number.ensures in
    record {
      desk = c.take.ensures.desk;
      brings = brings_both c.args.p c.loop-i.i 1 c.args.self.now c.loop-i.self c.take.new.self c.args.node.now c.loop-i.node c.take.new.node c.loop-i.invariant.brings c.take.ensures.brings;
      plan = c.take.ensures.rest.0 ∙ c.loop-i.invariant.plan;
      mtr = c.take.ensures.rest.1 ∙ c.loop-i.invariant.mtr;
      took = took_more c.args.p c.loop-i.self c.take.new.self c.args.self.now.plan c.loop-i.node c.take.new.node c.loop-i.i step.0 c.take.ensures.brings.desk c.take.ensures.brings.locks c.loop-i.invariant.took step.1
          (subst (λ (k : ℕ). IsBuffered c.take.new.self.pool k × (held_in c.take.new.node c.args.p k ≡ Exclusive)) (sym number) c.in_default.ensures.here);
    }

pub returns-clause-desk : goal.returns-clause-desk
returns-clause-desk g c = c.loop-i.invariant.desk

pub returns-clause-brings : goal.returns-clause-brings
returns-clause-brings g c =
    let most = c.len-i-end.ensures.most in
    brings_upto c.args.p c.loop-i.i 20 c.args.self.now c.loop-i.self c.args.node.now c.loop-i.node (omega (arith, most)) c.loop-i.invariant.brings

pub returns-clause-plan : goal.returns-clause-plan
returns-clause-plan g c = c.loop-i.invariant.plan

pub returns-clause-mtr : goal.returns-clause-mtr
returns-clause-mtr g c = c.loop-i.invariant.mtr

pub returns-clause-taken : goal.returns-clause-taken
returns-clause-taken g c =
    let count = c.len-i-end.ensures.count in
    let all : c.loop-i.i ≡ length c.args.self.now.plan = omega (arith, count) in
    subst (λ (l : Plan). HasTaken c.args.p c.loop-i.self.pool l c.loop-i.node) (sym c.loop-i.invariant.plan)
    (took_all c.args.p c.loop-i.self.pool c.args.self.now.plan c.loop-i.node (subst (λ (m : ℕ). TookFirst c.args.p c.loop-i.self.pool c.args.self.now.plan c.loop-i.node m) all c.loop-i.invariant.took))
