use Rattle.mp_core_pages.specs.declared.opening.TheConstants.{MOST_MTRS}
use Rattle.mp_shared.proofs.Holding.{held_part}
use Rattle.mp_trx_fusion.proofs.Callers.{may_draw}
use Rattle.mp_desk.proofs.Committing.{may_prepare, drawn_at_desk, drawn_may, drawn_few, drawn_media, locks_recorded, moves_recorded, above_before, exact_before}
use Rattle.mp_desk.proofs.MadeLater.{stamp_later}
use Rattle.mp_desk.proofs.desk.Desk.stamp.Goals as goal

pub prepare-requires-clause-may : goal.prepare-requires-clause-may
prepare-requires-clause-may g c =
    let held = held_part c.args.node.now c.args.p c.requires.desk.part in
    may_prepare c.args.node.now c.requires.desk.reached c.args.p c.args.trx held.0 held.1 held.2 (c.requires.open held.0 held.1)

pub draw-cts-requires-clause-may : goal.draw-cts-requires-clause-may
draw-cts-requires-clause-may g c =
    let held = held_part c.args.node.now c.args.p c.requires.desk.part in
    may_draw c.args.node.now c.prepare.new.node c.args.p c.args.trx.id c.prepare.ensures.becomes c.requires.desk.reached
    (may_prepare c.args.node.now c.requires.desk.reached c.args.p c.args.trx held.0 held.1 held.2 (c.requires.open held.0 held.1))

pub record_commit-requires-clause-desk : goal.record_commit-requires-clause-desk
record_commit-requires-clause-desk g c =
    drawn_at_desk c.args.shared.now c.args.self.now c.args.p c.args.trx c.draw-cts.result c.args.node.now c.prepare.new.node c.draw-cts.new.node c.requires.desk c.requires.open c.prepare.ensures.becomes c.prepare.ensures.reached c.draw-cts.ensures.becomes c.draw-cts.ensures.reached c.draw-cts.ensures.above

pub record_commit-requires-clause-may : goal.record_commit-requires-clause-may
record_commit-requires-clause-may g c =
    drawn_may c.args.shared.now c.args.self.now c.args.p c.args.trx c.draw-cts.result c.args.node.now c.prepare.new.node c.draw-cts.new.node c.requires.desk c.requires.open c.prepare.ensures.becomes c.prepare.ensures.reached c.draw-cts.ensures.becomes c.draw-cts.ensures.reached c.draw-cts.ensures.above

pub record_commit-requires-clause-few : goal.record_commit-requires-clause-few
record_commit-requires-clause-few g c =
    drawn_few c.args.shared.now c.args.self.now c.args.p c.args.trx c.draw-cts.result c.args.node.now c.prepare.new.node c.draw-cts.new.node c.requires.desk c.requires.open c.prepare.ensures.becomes c.prepare.ensures.reached c.draw-cts.ensures.becomes c.draw-cts.ensures.reached c.draw-cts.ensures.above
    MOST_MTRS c.requires.few

pub returns-clause-locks : goal.returns-clause-locks
returns-clause-locks g c =
    locks_recorded c.args.shared.now c.args.self.now c.args.p c.args.trx c.draw-cts.result c.args.node.now c.prepare.new.node c.draw-cts.new.node c.requires.desk c.requires.open c.prepare.ensures.becomes c.prepare.ensures.reached c.draw-cts.ensures.becomes c.draw-cts.ensures.reached c.draw-cts.ensures.above
    c.record_commit.new.node c.record_commit.ensures.locks

pub returns-clause-recorded : goal.returns-clause-recorded
returns-clause-recorded g c =
    let made = c.record_commit.ensures.made in
    moves_recorded c.args.shared.now c.args.self.now c.args.p c.args.trx c.draw-cts.result c.args.node.now c.prepare.new.node c.draw-cts.new.node c.requires.desk c.requires.open c.prepare.ensures.becomes c.prepare.ensures.reached c.draw-cts.ensures.becomes c.draw-cts.ensures.reached c.draw-cts.ensures.above
    made.0 made.1 c.record_commit.new.node made.2

pub returns-clause-later : goal.returns-clause-later
returns-clause-later g c =
    let made = c.record_commit.ensures.made in
    stamp_later c.args.p c.args.trx.id c.draw-cts.result c.args.node.now c.prepare.new.node c.draw-cts.new.node c.record_commit.new.node c.requires.desk.part c.prepare.ensures.becomes c.draw-cts.ensures.becomes made.0 made.2 made.3

pub returns-clause-above : goal.returns-clause-above
returns-clause-above g c =
    above_before c.args.shared.now c.args.self.now c.args.p c.args.trx c.draw-cts.result c.args.node.now c.prepare.new.node c.draw-cts.new.node c.requires.desk c.requires.open c.prepare.ensures.becomes c.prepare.ensures.reached c.draw-cts.ensures.becomes c.draw-cts.ensures.reached c.draw-cts.ensures.above

pub returns-clause-exact : goal.returns-clause-exact
returns-clause-exact g c =
    exact_before c.args.shared.now c.args.self.now c.args.p c.args.trx c.draw-cts.result c.args.node.now c.prepare.new.node c.draw-cts.new.node c.requires.desk c.requires.open c.prepare.ensures.becomes c.prepare.ensures.reached c.draw-cts.ensures.becomes c.draw-cts.ensures.reached c.draw-cts.ensures.above
    c.draw-cts.ensures.exact

pub returns-clause-media : goal.returns-clause-media
returns-clause-media g c work agree =
    c.record_commit.ensures.agrees work
    (drawn_media c.args.shared.now c.args.self.now c.args.p c.args.trx c.draw-cts.result c.args.node.now c.prepare.new.node c.draw-cts.new.node c.requires.desk c.requires.open c.prepare.ensures.becomes c.prepare.ensures.reached c.draw-cts.ensures.becomes c.draw-cts.ensures.reached c.draw-cts.ensures.above
    g.D.Disk work c.args.media.now agree)
