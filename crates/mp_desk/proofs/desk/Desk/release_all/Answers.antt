use Rattle.std.proofs.Common.{⊎_elim, arith}
use Rattle.std.proofs.lemmas.Bool.{cases_lt}
use Rattle.mp_desk.proofs.GivenBack.{may_release, released_more, released_to, moves_let_go}
use Rattle.mp_desk.proofs.desk.Desk.release_all.Goals as goal

pub release-requires : goal.release-requires
release-requires c =
    let so_far = c.locks.invariant.1 in
    let next = c.in-Some.ensures.next in
    record {
      run = so_far.at.its_run;
      may = may_release c.args.shared.now c.args.self.now c.args.p c.locks.node so_far.at c.requires.empty c.in-Some.number next.1 next.2 so_far.durable c.next_held.ensures.carries;
    }

pub locks-preserved : goal.locks-preserved
locks-preserved c =
    let run = c.args.shared.now in
    let next = c.in-Some.ensures.next in
    let less = next.1 in
    let so_far = released_to run c.args.self.now c.args.p c.args.node.now c.locks.from c.locks.node c.requires.empty c.locks.invariant.1 c.in-Some.number next.3 in
    (omega (arith, less), released_more run c.args.self.now c.args.p c.args.node.now c.in-Some.number c.locks.node c.requires.empty so_far c.release.new.node c.release.ensures.becomes c.release.ensures.reached)

pub returns-clause-gone : goal.returns-clause-gone
returns-clause-gone c =
    let so_far = c.locks.invariant.1 in
    moves_let_go c.args.p c.args.node.now c.locks.node c.requires.desk.part so_far.at.reached so_far.moves c.requires.durable
    (λ k less. ⊎_elim (λ before. so_far.idle k before) (λ from. c.in_default.ensures.next k from less) (cases_lt k c.locks.from))
