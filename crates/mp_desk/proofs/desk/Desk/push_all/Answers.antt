use Rattle.std.proofs.Common.{◌≡◌, ◌+◌, true, Some, slice_get, sym, subst, arith}
use Rattle.std.proofs.lemmas.Option.{slice_get_within}
use Rattle.mp_shared.specs.Nodes.{NodeView}
use Rattle.mp_buffer_fusion.specs.declared.buffer.Buffer.{Buffer}
use Rattle.mp_desk.specs.declared.desk.Desk.{Desk}
use Rattle.mp_desk.proofs.GivenBack.{PushedUpTo, pages_within, page_durable, pushed_more, pushed_none}
use Rattle.mp_desk.proofs.desk.Desk.push_all.Goals as goal
use Rattle.mp_desk.proofs.desk.Desk.push_all.Goals.{in-Some, in_default}

pub changed_page-requires : goal.changed_page-requires
changed_page-requires c = pages_within c.args.shared.now c.loop-i.self c.args.p c.loop-i.node c.loop-i.invariant.at

pub push-requires-clause-page : goal.push-requires-clause-page
push-requires-clause-page c = pages_within c.args.shared.now c.loop-i.self c.args.p c.loop-i.node c.loop-i.invariant.at c.in-Some.number c.in-Some.ensures.0 c.in-Some.ensures.1.1

pub push-requires-clause-durable : goal.push-requires-clause-durable
push-requires-clause-durable c = page_durable c.loop-i.node c.loop-i.invariant.at.reached c.args.p c.in-Some.number c.loop-i.invariant.durable

pub loop-i-preserved : goal.loop-i-preserved
loop-i-preserved c =
    elim c.match-changed_page.branch [
      | in-Some w ↦
          let stands = w.in-Some.ensures in
          let left = w.push.ensures.left in
          let more = pushed_more c.args.shared.now c.args.self.now c.args.p c.args.node.now c.loop-i.i c.loop-i.self c.loop-i.node c.loop-i.invariant w.in-Some.number stands.0 stands.1
          left.0 left.2.0 w.push.new.node left.2.1 w.push.new.self w.push.ensures.cleaned w.push.ensures.agrees w.push.ensures.reached c.match-changed_page.self w.self-is in
          subst (λ (n : NodeView). PushedUpTo c.args.shared.now c.args.self.now c.args.p c.args.node.now (c.loop-i.i + 1) c.match-changed_page.self n) (sym w.node-is) more
      | in_default w ↦
          let clean : (b : Buffer) → slice_get c.loop-i.self.pool c.loop-i.i ≡ Some b → b.clean ≡ true = w.in_default.ensures in
          let none = pushed_none c.args.shared.now c.args.self.now c.args.p c.args.node.now c.loop-i.i c.loop-i.self c.loop-i.node c.loop-i.invariant clean in
          subst (λ (n : NodeView). PushedUpTo c.args.shared.now c.args.self.now c.args.p c.args.node.now (c.loop-i.i + 1) c.match-changed_page.self n) (sym w.node-is)
          (subst (λ (d : Desk). PushedUpTo c.args.shared.now c.args.self.now c.args.p c.args.node.now (c.loop-i.i + 1) d c.loop-i.node) (sym w.self-is) none)
    ]

pub returns-clause-clean : goal.returns-clause-clean
returns-clause-clean c i b at =
    let within = slice_get_within c.loop-i.self.pool i b at in
    c.loop-i.invariant.clean i b (omega (arith, within, c.loop-i.invariant.count, c.loop-i-test.false, c.from.ensures, c.free.ensures)) at
