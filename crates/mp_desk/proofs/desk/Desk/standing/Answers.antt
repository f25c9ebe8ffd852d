use Rattle.std.proofs.Common.{◌≡◌, ◌≢◌, ◌==◌, ◌&&◌, false, ap, ◌∙◌, eq-eqb}
use Rattle.std.proofs.lemmas.Bool.{and_from}
use mathlib.Core.Bool.{false≢true}
use Rattle.mp_model.specs.declared.ids.TrxId.{TrxId}
use Rattle.mp_desk.proofs.AtDesk.{brings_none}
use Rattle.mp_desk.proofs.SlotShown.{may_look, not_other, load_desk, load_brings}
use Rattle.mp_desk.proofs.StandingWriters.{begun_writer, not_freed, stands_over, stands_stop}
use Rattle.mp_desk.proofs.desk.Desk.standing.Goals as goal

differs : (id other : TrxId) → false ≡ ((id.node == other.node) && ((id.slot == other.slot) && (id.version == other.version))) → id ≢ other
differs id other test same =
    false≢true
    (test ∙ and_from _ _ (eq-eqb id.node other.node (ap (λ (x : TrxId). x.node) same)) (and_from _ _ (eq-eqb id.slot other.slot (ap (λ (x : TrxId). x.slot) same)) (eq-eqb id.version other.version (ap (λ (x : TrxId). x.version) same))))

pub returns-in_default-clause-brings : goal.returns-in_default-clause-brings
returns-in_default-clause-brings c = brings_none c.args.p c.args.self.now c.args.node.now

pub returns-then-eq-clause-brings : goal.returns-then-eq-clause-brings
returns-then-eq-clause-brings c = brings_none c.args.p c.args.self.now c.args.node.now

pub status-status-requires-clause-may : goal.status-status-requires-clause-may
status-status-requires-clause-may c = may_look c.args.shared.now c.args.self.now c.args.p c.args.node.now c.args.row.now c.in-Some.id c.requires.desk (begun_writer c.args.node.now c.args.row.now c.requires.unfreed) c.in-Some.is

pub stop_before-requires-clause-not_freed : goal.stop_before-requires-clause-not_freed
stop_before-requires-clause-not_freed c = not_freed c.args.node.now c.args.row.now c.in-Some.id c.status-status.result c.requires.desk.reached c.requires.unfreed c.in-Some.is c.status-status.ensures.stood

pub stop_before-requires-clause-begun : goal.stop_before-requires-clause-begun
stop_before-requires-clause-begun c = not_other c.args.node.now c.args.row.now c.in-Some.id c.status-status.result c.requires.desk.reached (begun_writer c.args.node.now c.args.row.now c.requires.unfreed) c.in-Some.is c.status-status.ensures.stood

pub returns-clause-desk : goal.returns-clause-desk
returns-clause-desk c = load_desk c.args.shared.now c.args.self.now c.args.p c.args.node.now c.status-status.new.node c.requires.desk c.in-Some.id c.status-status.ensures.shown.0 c.status-status.ensures.shown.2 c.status-status.ensures.reached

pub returns-clause-brings : goal.returns-clause-brings
returns-clause-brings c = load_brings c.args.shared.now c.args.self.now c.args.p c.args.node.now c.status-status.new.node c.requires.desk c.in-Some.id c.status-status.ensures.shown.0 c.status-status.ensures.shown.2 c.status-status.ensures.reached

pub returns-clause-over : goal.returns-clause-over
returns-clause-over c =
    stands_over c.args.shared.now c.args.self.now c.args.p c.args.node.now c.status-status.new.node c.requires.desk c.in-Some.id c.status-status.ensures.shown.0 c.status-status.ensures.shown.2 c.status-status.ensures.reached c.args.trx c.requires.writer
    c.args.row.now c.in-Some.is (differs c.in-Some.id c.args.trx.id c.if-eq.ensures) c.status-status.result c.status-status.ensures.shown.1 c.stop_before.result c.stop_before.ensures.over

pub returns-clause-stop : goal.returns-clause-stop
returns-clause-stop c =
    stands_stop c.args.shared.now c.args.self.now c.args.p c.args.node.now c.status-status.new.node c.requires.desk c.in-Some.id c.status-status.ensures.shown.0 c.status-status.ensures.shown.2 c.status-status.ensures.reached c.args.trx c.requires.writer
    c.args.row.now c.in-Some.is (differs c.in-Some.id c.args.trx.id c.if-eq.ensures) c.status-status.result c.status-status.ensures.shown.1 c.stop_before.result c.stop_before.ensures.stop
