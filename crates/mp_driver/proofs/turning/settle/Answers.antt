-- A turn more of a run that went on so far: the primary there is through where it is done, or is down and has answered all, and
-- the others are as they were.
use Rattle.std.proofs.Common.{◌≡◌, true, false, length, slice_get, Some, refl, sym, ◌∙◌, arith}
use Rattle.std.proofs.lemmas.Option.{slice_get_read, slice_get_within}
use Rattle.mp_members.proofs.SameMembers.{AreSameMembers-trans}
use Rattle.mp_driver.specs.Driving.{IsThroughAt}
use Rattle.mp_driver.proofs.Turned.{DrivesOn-trans, runs_still, through_down, through_more}
use Rattle.mp_driver.proofs.turning.settle.Goals as goal
use Rattle.mp_driver.proofs.turning.settle.Goals.{in-Done, in-Stopped+else-not-is_answered}

false_is_true : false ≡ true → ⊥
false_is_true e = absurd cc

pub turn_at-requires-clause-runs : goal.turn_at-requires-clause-runs
turn_at-requires-clause-runs g c = runs_still g.D.Disk c.args.members.now c.loop-place.members c.loop-place.invariant.drives c.requires.runs

pub turn_at-requires-clause-place : goal.turn_at-requires-clause-place
turn_at-requires-clause-place g c =
    let count = c.loop-place.invariant.drives.same.count in
    let lt = c.loop-place-test.true in
    omega (arith, count, lt)

pub returns-in_err-turn_at-clause-same : goal.returns-in_err-turn_at-clause-same
returns-in_err-turn_at-clause-same g c =
    AreSameMembers-trans g.D.Disk c.args.members.now c.loop-place.members c.turn_at.new.members c.loop-place.invariant.drives.same c.turn_at.ensures.same

pub returns-in_default-clause-drives : goal.returns-in_default-clause-drives
returns-in_default-clause-drives g c =
    DrivesOn-trans g.D.Disk c.args.members.now c.loop-place.members c.turn_at.new.members c.loop-place.invariant.drives c.in_ok-turn_at.ensures.turn.drives

pub returns-in_default-clause-through : goal.returns-in_default-clause-through
returns-in_default-clause-through g c = λ e place pr is. absurd (false_is_true e)

pub returns-in_default-clause-same : goal.returns-in_default-clause-same
returns-in_default-clause-same g c =
    AreSameMembers-trans g.D.Disk c.args.members.now c.loop-place.members c.turn_at.new.members c.loop-place.invariant.drives.same c.turn_at.ensures.same

pub returns-then-not-is_answered-clause-drives : goal.returns-then-not-is_answered-clause-drives
returns-then-not-is_answered-clause-drives g c =
    DrivesOn-trans g.D.Disk c.args.members.now c.loop-place.members c.turn_at.new.members c.loop-place.invariant.drives c.in_ok-turn_at.ensures.turn.drives

pub returns-then-not-is_answered-clause-same : goal.returns-then-not-is_answered-clause-same
returns-then-not-is_answered-clause-same g c =
    AreSameMembers-trans g.D.Disk c.args.members.now c.loop-place.members c.turn_at.new.members c.loop-place.invariant.drives.same c.turn_at.ensures.same

pub loop-place-preserved : goal.loop-place-preserved
loop-place-preserved g c =
    let t = c.in_ok-turn_at.ensures.turn in
    let here : IsThroughAt c.turn_at.new.members c.loop-place.place = elim c.match-branch-2.branch [
      | in-Done w ↦ t.through refl w.in-Done.is
      | in-Stopped+else-not-is_answered w ↦
          let m = c.turn_at.new.members in
          let pr = w.index.result.now in
          let so_far = c.loop-place.invariant.drives.same.count in
          let same = t.drives.same.count in
          let lt = c.loop-place-test.true in
          let at : slice_get m.primaries.items c.loop-place.place ≡ Some pr = slice_get_read m.primaries.items (length m.primaries.items) c.loop-place.place pr refl (omega (arith, so_far, same, lt)) w.index.ensures in
          through_down m c.loop-place.place pr at (t.down w.in-Stopped.field-0 w.in-Stopped.is) (sym w.is_answered.ensures ∙ w.if-not-is_answered.false)
    ] in
    record {
      drives = DrivesOn-trans g.D.Disk c.args.members.now c.loop-place.members c.turn_at.new.members c.loop-place.invariant.drives t.drives;
      through = through_more c.loop-place.place c.loop-place.members c.turn_at.new.members c.loop-place.invariant.through t.others here;
    }

pub returns-clause-through : goal.returns-clause-through
returns-clause-through g c = λ e place pr is.
    let within = slice_get_within c.loop-place.members.primaries.items place pr is in
    let count = c.loop-place.invariant.drives.same.count in
    let past = c.loop-place-test.false in
    c.loop-place.invariant.through place (omega (arith, within, count, past)) pr is
