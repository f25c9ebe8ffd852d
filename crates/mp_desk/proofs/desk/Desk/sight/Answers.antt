use Rattle.std.proofs.Common.{◌≡◌, ◌≢◌, ◌==◌, ◌&&◌, false, ap, ◌∙◌, eq-eqb}
use Rattle.std.proofs.lemmas.Bool.{and_from}
use mathlib.Core.Bool.{false≢true}
use Rattle.mp_model.specs.declared.ids.TrxId.{TrxId}
use Rattle.mp_desk.proofs.AtDesk.{brings_none}
use Rattle.mp_desk.proofs.SlotShown.{may_look, not_other, load_desk, load_brings, hidden_active, hidden_free, in_prep, hidden_above, seen_below}
use Rattle.mp_desk.proofs.desk.Desk.sight.Goals as goal

differs : (id reader : TrxId) → false ≡ ((id.node == reader.node) && ((id.slot == reader.slot) && (id.version == reader.version))) → id ≢ reader
differs id reader test same =
    false≢true
    (test ∙ and_from _ _ (eq-eqb id.node reader.node (ap (λ (x : TrxId). x.node) same)) (and_from _ _ (eq-eqb id.slot reader.slot (ap (λ (x : TrxId). x.slot) same)) (eq-eqb id.version reader.version (ap (λ (x : TrxId). x.version) same))))

pub returns-in_default-clause-brings : goal.returns-in_default-clause-brings
returns-in_default-clause-brings c = brings_none c.args.p c.args.self.now c.args.node.now

pub returns-then-eq-clause-brings : goal.returns-then-eq-clause-brings
returns-then-eq-clause-brings c = brings_none c.args.p c.args.self.now c.args.node.now

pub status-requires-clause-may : goal.status-requires-clause-may
status-requires-clause-may c = may_look c.args.shared.now c.args.self.now c.args.p c.args.node.now c.args.row.now c.in-Some.id c.requires.desk c.requires.begun c.in-Some.is

pub unreachable-requires : goal.unreachable-requires
unreachable-requires c = not_other c.args.node.now c.args.row.now c.in-Some.id c.status.result c.requires.desk.reached c.requires.begun c.in-Some.is c.status.ensures.stood c.in-Other.is

pub returns-in-Active-clause-desk : goal.returns-in-Active-clause-desk
returns-in-Active-clause-desk c = load_desk c.args.shared.now c.args.self.now c.args.p c.args.node.now c.status.new.node c.requires.desk c.in-Some.id c.in-Active.ensures.shown.0 c.in-Active.ensures.shown.2 c.in-Active.ensures.reached

pub returns-in-Active-clause-brings : goal.returns-in-Active-clause-brings
returns-in-Active-clause-brings c = load_brings c.args.shared.now c.args.self.now c.args.p c.args.node.now c.status.new.node c.requires.desk c.in-Some.id c.in-Active.ensures.shown.0 c.in-Active.ensures.shown.2 c.in-Active.ensures.reached

pub returns-in-Active-clause-sight : goal.returns-in-Active-clause-sight
returns-in-Active-clause-sight c = λ r there. hidden_active c.args.shared.now c.args.self.now c.args.p c.args.node.now c.status.new.node c.requires.desk c.in-Some.id c.in-Active.ensures.shown.0 c.in-Active.ensures.shown.2 c.in-Active.ensures.reached c.args.trx c.requires.reader c.args.row.now c.in-Some.is (differs c.in-Some.id c.args.trx.id c.if-eq.ensures) r there c.in-Active.ensures.shown.1

pub returns-in-Free-clause-desk : goal.returns-in-Free-clause-desk
returns-in-Free-clause-desk c = load_desk c.args.shared.now c.args.self.now c.args.p c.args.node.now c.status.new.node c.requires.desk c.in-Some.id c.in-Free.ensures.shown.0 c.in-Free.ensures.shown.2 c.in-Free.ensures.reached

pub returns-in-Free-clause-brings : goal.returns-in-Free-clause-brings
returns-in-Free-clause-brings c = load_brings c.args.shared.now c.args.self.now c.args.p c.args.node.now c.status.new.node c.requires.desk c.in-Some.id c.in-Free.ensures.shown.0 c.in-Free.ensures.shown.2 c.in-Free.ensures.reached

pub returns-in-Free-clause-sight : goal.returns-in-Free-clause-sight
returns-in-Free-clause-sight c = λ r there. hidden_free c.args.shared.now c.args.self.now c.args.p c.args.node.now c.status.new.node c.requires.desk c.in-Some.id c.in-Free.ensures.shown.0 c.in-Free.ensures.shown.2 c.in-Free.ensures.reached c.args.trx c.requires.reader c.args.row.now c.in-Some.is (differs c.in-Some.id c.args.trx.id c.if-eq.ensures) r there c.in-Free.ensures.shown.1

pub returns-in-Prep-clause-desk : goal.returns-in-Prep-clause-desk
returns-in-Prep-clause-desk c = load_desk c.args.shared.now c.args.self.now c.args.p c.args.node.now c.status.new.node c.requires.desk c.in-Some.id c.in-Prep.ensures.shown.0 c.in-Prep.ensures.shown.2 c.in-Prep.ensures.reached

pub returns-in-Prep-clause-brings : goal.returns-in-Prep-clause-brings
returns-in-Prep-clause-brings c = load_brings c.args.shared.now c.args.self.now c.args.p c.args.node.now c.status.new.node c.requires.desk c.in-Some.id c.in-Prep.ensures.shown.0 c.in-Prep.ensures.shown.2 c.in-Prep.ensures.reached

pub returns-in-Prep-clause-sight : goal.returns-in-Prep-clause-sight
returns-in-Prep-clause-sight c = λ r there. in_prep c.args.shared.now c.args.self.now c.args.p c.args.node.now c.status.new.node c.requires.desk c.in-Some.id c.in-Prep.ensures.shown.0 c.in-Prep.ensures.shown.2 c.in-Prep.ensures.reached c.args.trx c.requires.reader c.args.row.now c.in-Some.is (differs c.in-Some.id c.args.trx.id c.if-eq.ensures) r there c.in-Prep.ensures.shown.1

pub returns-then-cts-trx-clause-desk : goal.returns-then-cts-trx-clause-desk
returns-then-cts-trx-clause-desk c = load_desk c.args.shared.now c.args.self.now c.args.p c.args.node.now c.status.new.node c.requires.desk c.in-Some.id c.in-Committed.ensures.shown.0 c.in-Committed.ensures.shown.2 c.in-Committed.ensures.reached

pub returns-then-cts-trx-clause-brings : goal.returns-then-cts-trx-clause-brings
returns-then-cts-trx-clause-brings c = load_brings c.args.shared.now c.args.self.now c.args.p c.args.node.now c.status.new.node c.requires.desk c.in-Some.id c.in-Committed.ensures.shown.0 c.in-Committed.ensures.shown.2 c.in-Committed.ensures.reached

pub returns-then-cts-trx-clause-sight : goal.returns-then-cts-trx-clause-sight
returns-then-cts-trx-clause-sight c = λ r there. seen_below c.args.shared.now c.args.self.now c.args.p c.args.node.now c.status.new.node c.requires.desk c.in-Some.id c.in-Committed.ensures.shown.0 c.in-Committed.ensures.shown.2 c.in-Committed.ensures.reached c.args.trx c.requires.reader c.args.row.now c.in-Some.is (differs c.in-Some.id c.args.trx.id c.if-eq.ensures) r there c.in-Committed.cts c.in-Committed.ensures.shown.1 c.if-cts-trx.true

pub returns-else-cts-trx-clause-desk : goal.returns-else-cts-trx-clause-desk
returns-else-cts-trx-clause-desk c = load_desk c.args.shared.now c.args.self.now c.args.p c.args.node.now c.status.new.node c.requires.desk c.in-Some.id c.in-Committed.ensures.shown.0 c.in-Committed.ensures.shown.2 c.in-Committed.ensures.reached

pub returns-else-cts-trx-clause-brings : goal.returns-else-cts-trx-clause-brings
returns-else-cts-trx-clause-brings c = load_brings c.args.shared.now c.args.self.now c.args.p c.args.node.now c.status.new.node c.requires.desk c.in-Some.id c.in-Committed.ensures.shown.0 c.in-Committed.ensures.shown.2 c.in-Committed.ensures.reached

pub returns-else-cts-trx-clause-sight : goal.returns-else-cts-trx-clause-sight
returns-else-cts-trx-clause-sight c = λ r there. hidden_above c.args.shared.now c.args.self.now c.args.p c.args.node.now c.status.new.node c.requires.desk c.in-Some.id c.in-Committed.ensures.shown.0 c.in-Committed.ensures.shown.2 c.in-Committed.ensures.reached c.args.trx c.requires.reader c.args.row.now c.in-Some.is (differs c.in-Some.id c.args.trx.id c.if-eq.ensures) r there c.in-Committed.cts c.in-Committed.ensures.shown.1 c.if-cts-trx.false
