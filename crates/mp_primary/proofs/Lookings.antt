-- A primary that waits looks at those of whom it needs something, one after another.
use Rattle.std.proofs.Common.{◌≡◌, ◌≢◌, ℕ, ◌+◌, ◌<◌, ◌≤◌, List, refl, sym, subst, arith}
use mathlib.Core.Logic.{dite}
use native.Mathlib.Decide.{ℕ_discrete}
use Rattle.mp_model.specs.declared.waiting.Cause.{Cause}
use Rattle.mp_script.specs.declared.statements.SessionOn.{SessionOn}
use Rattle.mp_core.specs.declared.event.CoreEvent.TheVariants.{Down}
use Rattle.mp_core.specs.declared.event.DownEvent.TheVariants.{StoreDown, LoadDown}
use Rattle.mp_core.specs.Downs.{goes_down_by, with_down_load}
use Rattle.mp_outside.specs.declared.disks.Disk.{Ghosts}
use Rattle.mp_shared.specs.Nodes.{Run, NodeView, MayTake, Reached, Took}
use Rattle.mp_shared.specs.DownSteps.{with_downs}
use Rattle.mp_primary.specs.Primaries.{PrimaryView}
use Rattle.mp_primary.specs.Downs.{NeedsOf, IsAnother, WentOn, OnlyDowns, OnlyLoads, LoadedSince, FoundUp, FoundAllUp, LooksAt, LooksAmong}
use Rattle.mp_primary.specs.Tries.{HasTried, HasTold, GoesDownBy}
use Rattle.mp_primary.proofs.OnlyDowns.{downs_none, loads_none, loads_both, loads_downs, loaded_after, went_none, went_as, went_both, went_downs}
use Rattle.mp_primary.proofs.DownTellings.{its_part, went_with, loaded_downs, loaded_one, tried_on, may_follow, tells_nothing, has_fallen, loaded_all, not_its_own}

-- it looks at no one who isn't asked
pub looks_away : {D : Type 0} (pr : PrimaryView D) (cause : Cause) (of : ℕ) (n : NodeView) → Reached n → (IsAnother pr.number of → NeedsOf pr.places cause of → ⊥) → LooksAt pr cause of n n 0
looks_away pr cause of n reached not = record {
  loads = went_none pr.number OnlyLoads loads_none n;
  reached = reached;
  up = λ zero another needs. absurd (not another needs);
  down = λ some. absurd (some refl);
}

-- or it loads a word
pub looks_loaded : {D : Type 0} (g : Ghosts D) (run : Run) (pr : PrimaryView D) (cause : Cause) (of : ℕ) (n : NodeView) → HasTried g run pr n → (1 ≤ of) × (of ≤ 8) → of ≢ pr.number → NeedsOf pr.places cause of
    → (by : ℕ) (after : NodeView) → Took (Down (LoadDown pr.number of)) n by after → after ≡ with_downs n pr.number (with_down_load of by) 1 → LooksAt pr cause of n after by
looks_loaded g run pr cause of n h range other needs by after took is =
    let q = its_part g run pr n h in
    record {
      loads = went_with n after pr.number q.0 q.1 (with_down_load of by) 1 is OnlyLoads (loaded_downs q.0 pr.number of by range);
      reached = took.reached;
      up = λ zero another asked. record {
        from = n;
        to = after;
        came = went_none pr.number OnlyDowns downs_none n;
        load = subst (λ (k : ℕ). Took (Down (LoadDown pr.number of)) n k after) zero took;
        went = went_none pr.number OnlyDowns downs_none after;
      };
      down = λ some. (
        record { not_itself = other; low = range.0; high = range.1 },
        needs,
        went_with n after pr.number q.0 q.1 (with_down_load of by) 1 is (LoadedSince of by) (loaded_one q.0 pr.number of by range some),
      );
    }

-- What it found so far: those below a number are up, of whom it needs something
pub record AreUpBelow {D : Type 0} (pr : PrimaryView D) (cause : Cause) (n at : NodeView) (most : ℕ) : Type 0 where
  pub loads : WentOn OnlyLoads pr.number n at
  pub reached : Reached at
  pub up : (of : ℕ) → IsAnother pr.number of → of < most → NeedsOf pr.places cause of → FoundUp pr.number of n at

pub up_none : {D : Type 0} (pr : PrimaryView D) (cause : Cause) (n : NodeView) → Reached n → AreUpBelow pr cause n n 1
up_none pr cause n reached = record {
  loads = went_none pr.number OnlyLoads loads_none n;
  reached = reached;
  up = λ of another below needs. let low = another.low in absurd (omega (arith, low, below));
}

module _ {D : Type 0} (pr : PrimaryView D) (cause : Cause) (n at after : NodeView) (most by : ℕ) (so_far : AreUpBelow pr cause n at most) (look : LooksAt pr cause most at after by) where
  loads_all : WentOn OnlyLoads pr.number n after
  loads_all = went_both pr.number OnlyLoads OnlyLoads OnlyLoads loads_both n at after so_far.loads look.loads

  came : WentOn OnlyDowns pr.number n at
  came = went_as pr.number OnlyLoads OnlyDowns loads_downs n at so_far.loads

  gone : WentOn OnlyDowns pr.number at after
  gone = went_as pr.number OnlyLoads OnlyDowns loads_downs at after look.loads

  pub up_more : by ≡ 0 → AreUpBelow pr cause n after (most + 1)
  up_more zero = record {
    loads = loads_all;
    reached = look.reached;
    up = λ of another below needs.
        dite (ℕ_discrete of most)
        (λ same.
        let found = subst (λ (k : ℕ). FoundUp pr.number k at after) (sym same) (look.up zero (subst (λ (k : ℕ). IsAnother pr.number k) same another) (subst (λ (k : ℕ). NeedsOf pr.places cause k) same needs)) in
        record { from = found.from; to = found.to; came = went_downs pr.number n at found.from came found.came; load = found.load; went = found.went })
        (λ other.
        let found = so_far.up of another (omega (arith, below, other)) needs in
        record { from = found.from; to = found.to; came = found.came; load = found.load; went = went_downs pr.number found.to at after found.went gone });
  }

  pub one_down : by ≢ 0 → LooksAmong pr cause n after by
  one_down some =
      let found = look.down some in
      record {
        loads = loads_all;
        reached = look.reached;
        up = λ zero. absurd (some zero);
        down = λ z. (most, found.0, found.1, went_both pr.number OnlyDowns (LoadedSince most by) (LoadedSince most by) (loaded_after most by) n at after came found.2);
      }

pub all_up : {D : Type 0} (pr : PrimaryView D) (cause : Cause) (n at : NodeView) (most : ℕ) → 9 ≤ most → AreUpBelow pr cause n at most → LooksAmong pr cause n at 0
all_up pr cause n at most nine so_far = record {
  loads = so_far.loads;
  reached = so_far.reached;
  up = λ zero of another needs. so_far.up of another (let high = another.high in omega (arith, high, nine)) needs;
  down = λ some. absurd (some refl);
}

-- ---- what comes of it

module _ {D : Type 0} (g : Ghosts D) (run : Run) (pr : PrimaryView D) (cause : Cause) (n at : NodeView) (by : ℕ) (h : HasTried g run pr n) (up : pr.down ≡ 0) (looks : LooksAmong pr cause n at by) where
  -- whom it needs is told by where the sessions are declared
  needs_as : (of : ℕ) → NeedsOf pr.work.sessions cause of → NeedsOf pr.places cause of
  needs_as of needs = subst (λ (l : List SessionOn). NeedsOf l cause of) (sym h.stands.primary.places) needs

  needs_so : (of : ℕ) → NeedsOf pr.places cause of → NeedsOf pr.work.sessions cause of
  needs_so of needs = subst (λ (l : List SessionOn). NeedsOf l cause of) h.stands.primary.places needs

  pub stays_up : by ≡ 0 → HasTold g run pr n at × FoundAllUp pr cause n at
  stays_up zero =
      let went = went_as pr.number OnlyLoads OnlyDowns loads_downs n at looks.loads in
      let there = tells_nothing g run pr at (tried_on g run pr n at h looks.loads looks.reached) up in (
        record { stands = there.stands; went = went; told = there.told },
        record { went = went; each = λ of another needs. looks.up zero of another (needs_as of needs) },
      )

  module _ (some : by ≢ 0) (after : NodeView) (is : after ≡ with_downs at pr.number (goes_down_by by) 1) (reached : Reached after) where
    abbrev found : (of : ℕ) × IsAnother pr.number of × NeedsOf pr.places cause of × WentOn (LoadedSince of by) pr.number n at
    found = looks.down some

    pub falls : GoesDownBy g run pr (record pr { down = by }) n after cause
    falls = record {
      up = up;
      rest = refl;
      tells = has_fallen g run pr n at h looks.loads looks.reached up found.0 by some found.3 after is reached;
      found = record {
        of = found.0;
        another = found.1;
        needed = needs_so found.0 found.2;
        loaded = loaded_all g run pr n at h looks.loads looks.reached up found.0 by some found.3 after is reached;
        some = some;
        apart = not_its_own g run pr n at h looks.loads looks.reached up found.0 by some found.3;
      };
    }

-- ---- of what a method sees inside

pub looks_inside : {D : Type 0} (g : Ghosts D) (run : Run) (inside pr : PrimaryView D) (view : inside ≡ pr) (cause : Cause) (of : ℕ) (n : NodeView) → HasTried g run pr n → (1 ≤ of) × (of ≤ 8) → of ≢ inside.number → NeedsOf inside.places cause of
    → (by : ℕ) (after : NodeView) → Took (Down (LoadDown inside.number of)) n by after → after ≡ with_downs n inside.number (with_down_load of by) 1 → LooksAt pr cause of n after by
looks_inside {D} g run inside pr view cause of n h range other needs by after took is =
    subst (λ (v : PrimaryView D). LooksAt v cause of n after by) view
    (looks_loaded g run inside cause of n (subst (λ (v : PrimaryView D). HasTried g run v n) (sym view) h) range other needs by after took is)

module _ {D : Type 0} (g : Ghosts D) (run : Run) (inside pr : PrimaryView D) (view : inside ≡ pr) (cause : Cause) (n at : NodeView) (by : ℕ) (h : HasTried g run pr n) (up : pr.down ≡ 0) (looks : LooksAmong pr cause n at by) (some : by ≢ 0) where
  pub may_follow_inside : MayTake (Down (StoreDown inside.number by)) at
  may_follow_inside =
      let found = looks.down some in
      subst (λ (v : PrimaryView D). MayTake (Down (StoreDown v.number by)) at) (sym view)
      (may_follow g run pr n at h looks.loads looks.reached up found.0 by some found.3)

  pub falls_inside : (after : NodeView) → after ≡ with_downs at inside.number (goes_down_by by) 1 → Reached after → GoesDownBy g run pr (record inside { down = by }) n after cause
  falls_inside after is reached =
      subst (λ (v : PrimaryView D). GoesDownBy g run pr (record v { down = by }) n after cause) (sym view)
      (falls g run pr cause n at by h up looks some after (subst (λ (v : PrimaryView D). after ≡ with_downs at v.number (goes_down_by by) 1) view is) reached)
