use Rattle.std.proofs.Common.{◌≡◌, sym, subst}
use Rattle.mp_model.specs.declared.ids.TrxName.{TrxName}
use Rattle.mp_model.specs.declared.waiting.Cause.{Cause}
use Rattle.mp_model.specs.declared.waiting.Cause.TheVariants.{Word, Writer, Prep}
use Rattle.mp_model.specs.declared.waiting.NotYet.{NotYet}
use Rattle.mp_shared.specs.Nodes.{NodeView}
use Rattle.mp_supports.specs.Supports.{no_trace}
use Rattle.mp_desk.specs.Desks.{Moves}
use Rattle.mp_desk.specs.Statements.{StaysQuiet}
use Rattle.mp_primary.specs.AtWork.{WroteHere}
use Rattle.mp_primary.specs.Turns.{WaitsFor}
use Rattle.mp_primary.proofs.Stops.{quiet_stop}
use Rattle.mp_primary.proofs.WaitsEnd.{gone_of, waits_plainly, waits_inside, wait_told}
use Rattle.mp_primary.proofs.primary.Primary.wait.Goals as goal

pub stop_now-requires : goal.stop_now-requires
stop_now-requires g c =
    let w = c.requires.work in
    record {
      work = (
        c.args.shared.now,
        w.0,
        w.1,
        c.clear_desk.new.node,
        no_trace,
        w.2,
        w.3,
        w.4,
        c.in-Err.ensures.down w.0 w.1 no_trace
            w.5,
      );
    }

pub returns-in-Err : goal.returns-in-Err
returns-in-Err g c = λ old before s line comes at quiet waits wrote.
    c.stop_now.ensures c.args.shared.now old before c.clear_desk.new.node no_trace s line comes
    (c.in-Err.ensures.down old before no_trace at)
    (quiet_stop old line before c.clear_desk.new.node
    (subst (λ (x : NodeView). Moves StaysQuiet old.number before x) (sym c.in-Err.ensures.still) quiet))

word_writes_not : (wait : NotYet) (name : TrxName) → Word wait ≡ Writer name → ⊥
word_writes_not wait name e = cc

prep_writes_not : (other name : TrxName) → Prep other ≡ Writer name → ⊥
prep_writes_not other name e = cc

pub wait_for-requires : goal.wait_for-requires
wait_for-requires g c =
    let w = c.requires.work in
    let waits = subst (λ (x : Cause). WaitsFor w.0 c.args.number w.1 c.args.node.now x) c.in-Writer.is w.6 in
    record {
      next = wait_told g.D.Disk c.args.shared.now w.0 c.args.self.now c.clear_desk.new.self _ c.self.view_is w.1 c.args.node.now
          c.clear_desk.new.node c.args.number w.2 w.3 w.4 w.5
          (c.in_default.ensures.cleared w.0 w.1 no_trace w.5) c.in-Writer.name waits;
    }

pub returns-in-Word : goal.returns-in-Word
returns-in-Word g c = λ old before s line comes at quiet waits wrote.
    waits_plainly g.D.Disk c.args.shared.now old c.clear_desk.new.self before c.args.node.now c.clear_desk.new.node c.args.number s line
    comes at.desk.part quiet
    (gone_of g.D.Disk c.args.shared.now old c.args.self.now before c.args.node.now c.clear_desk.new.node at c.in_default.ensures.gone)
    (c.in_default.ensures.cleared old before no_trace at)
    (Word c.in-Word.word) (word_writes_not c.in-Word.word)
    (subst (λ (x : Cause). WaitsFor old c.args.number before c.args.node.now x) c.in-Word.is waits)

pub returns-in-Prep : goal.returns-in-Prep
returns-in-Prep g c = λ old before s line comes at quiet waits wrote.
    waits_plainly g.D.Disk c.args.shared.now old c.clear_desk.new.self before c.args.node.now c.clear_desk.new.node c.args.number s line
    comes at.desk.part quiet
    (gone_of g.D.Disk c.args.shared.now old c.args.self.now before c.args.node.now c.clear_desk.new.node at c.in_default.ensures.gone)
    (c.in_default.ensures.cleared old before no_trace at)
    (Prep c.in-Prep.name) (prep_writes_not c.in-Prep.name)
    (subst (λ (x : Cause). WaitsFor old c.args.number before c.args.node.now x) c.in-Prep.is waits)

pub returns-in-Writer : goal.returns-in-Writer
returns-in-Writer g c = λ old before s line comes at quiet waits wrote.
    waits_inside g.D.Disk c.args.shared.now old c.clear_desk.new.self _ c.self.view_is before c.args.node.now c.clear_desk.new.node
    c.args.number s line comes at.desk.part quiet
    (gone_of g.D.Disk c.args.shared.now old c.args.self.now before c.args.node.now c.clear_desk.new.node at c.in_default.ensures.gone)
    (c.in_default.ensures.cleared old before no_trace at)
    c.wait_for.new.self c.in-Writer.name c.wait_for.ensures.named c.wait_for.ensures.book
    (subst (λ (x : Cause). WroteHere old line x) c.in-Writer.is wrote)
    (subst (λ (x : Cause). WaitsFor old c.args.number before c.args.node.now x) c.in-Writer.is waits)
