use Rattle.std.proofs.Common.{List, sym, ap, subst}
use Rattle.mp_buffer_fusion.specs.declared.buffer.Buffer.{Buffer}
use Rattle.mp_buffer_fusion.specs.Agreement.{AgreesWith}
use Rattle.mp_desk.specs.declared.desk.Desk.{Desk}
use Rattle.mp_desk.specs.Desks.{IsAtDesk}
use Rattle.mp_desk.specs.Making.{IsOpenLog}
use Rattle.mp_desk.proofs.GivenBack.{none_left, emptied_at_desk, moves_gone, durable_forced, durable_on}
use Rattle.mp_desk.proofs.MediaMoved.{media_gave_back}
use Rattle.mp_desk.proofs.desk.Desk.let_go.Goals as goal

pub push_all-requires-clause-desk : goal.push_all-requires-clause-desk
push_all-requires-clause-desk g c = c.in_ok-force.ensures.desk c.args.self.now c.requires.desk

pub push_all-requires-clause-durable : goal.push_all-requires-clause-durable
push_all-requires-clause-durable g c = durable_forced c.args.p c.args.node.now c.force.new.node c.requires.desk.part c.in_ok-force.ensures.forced

pub release_all-requires-clause-desk : goal.release_all-requires-clause-desk
release_all-requires-clause-desk g c =
    let desk = c.push_all.new.self in
    let empty = none_left desk.pool c.unpin_all.new.self c.unpin_all.ensures.left c.push_all.ensures.clean in
    subst (λ (l : List Buffer). IsAtDesk c.args.shared.now (record desk { pool = l }) c.args.p c.push_all.new.node) (sym empty)
    (emptied_at_desk c.args.shared.now desk c.args.p c.push_all.new.node c.push_all.ensures.desk (λ part agrees. subst (λ l. AgreesWith l part) empty (c.unpin_all.ensures.agrees part agrees)))

pub release_all-requires-clause-empty : goal.release_all-requires-clause-empty
release_all-requires-clause-empty g c = none_left c.push_all.new.self.pool c.unpin_all.new.self c.unpin_all.ensures.left c.push_all.ensures.clean

pub release_all-requires-clause-durable : goal.release_all-requires-clause-durable
release_all-requires-clause-durable g c =
    let at = c.in_ok-force.ensures.desk c.args.self.now c.requires.desk in
    durable_on c.args.p c.force.new.node c.push_all.new.node at.part c.push_all.ensures.pushed (durable_forced c.args.p c.args.node.now c.force.new.node c.requires.desk.part c.in_ok-force.ensures.forced)

pub returns-clause-gone : goal.returns-clause-gone
returns-clause-gone g c = moves_gone c.args.p c.args.node.now c.force.new.node c.push_all.new.node c.release_all.new.node c.in_ok-force.ensures.forced c.push_all.ensures.pushed c.release_all.ensures.gone

pub returns-clause-emptied : goal.returns-clause-emptied
returns-clause-emptied g c =
    let empty = none_left c.push_all.new.self.pool c.unpin_all.new.self c.unpin_all.ensures.left c.push_all.ensures.clean in
    let rest = c.push_all.ensures.rest in
    λ i. record { pool = empty i; llsn = (rest i).llsn; undo = (rest i).undo; plan = (rest i).plan; mtr = (rest i).mtr }

pub returns-clause-media : goal.returns-clause-media
returns-clause-media g c work agree =
    let at = c.in_ok-force.ensures.desk c.args.self.now c.requires.desk in
    let forced = (c.in_ok-force.ensures.agrees work agree).0 in
    let pushed = media_gave_back g.D.Disk work c.args.p 0 c.force.new.self c.force.new.node c.push_all.new.node at.part c.push_all.ensures.pushed forced in
    (media_gave_back g.D.Disk work c.args.p 0 c.force.new.self c.push_all.new.node c.release_all.new.node c.push_all.ensures.desk.part c.release_all.ensures.released pushed, tt)

pub returns-clause-open : goal.returns-clause-open
returns-clause-open g c =
    let llsn = ap (λ (d : Desk). d.llsn) c.push_all.ensures.rest in
    subst (λ l. IsOpenLog c.args.p l c.force.new.self.log) (sym llsn) (c.in_ok-force.ensures.open c.args.self.now.llsn c.requires.log)
