-- What a turn of one primary leaves of a run, and one turn behind another.
use Rattle.std.proofs.Common.{◌≡◌, ◌≢◌, ℕ, zero, suc, ◌+◌, ◌<◌, true, List, [], ◌∷◌, ◌++◌, length, slice_get, slice_set, Option, None, Some, Result, Ok, Err, OnOk, refl, sym, ap, subst, ◌∙◌, inl, inr, arith, append_assoc, append-nil}
use Rattle.std.specs.Result.{IfOk}
use Rattle.std.proofs.lemmas.Bool.{cases_eq}
use Rattle.std.proofs.lemmas.List.{length-set}
use Rattle.mp_model.specs.declared.errors.Memory.{Memory}
use Rattle.mp_model.specs.declared.waiting.Turn.{Turn}
use Rattle.mp_model.specs.declared.waiting.Turn.TheVariants as turns
use Rattle.mp_script.proofs.Options.{some_is, not_some}
use Rattle.mp_book.proofs.Items.{after_set}
use Rattle.mp_outside.specs.declared.disks.Disk.{Ghosts}
use Rattle.mp_files.specs.Nine.{At}
use Rattle.mp_verdict.specs.Orders.{NodeEntry}
use Rattle.mp_primary.specs.Primaries.{PrimaryView}
use Rattle.mp_primary.specs.Turns.{TakesTurn}
use Rattle.mp_primary.specs.Answering.{have_no_line}
use Rattle.mp_members.specs.declared.members.Members.{Members}
use Rattle.mp_members.specs.Running.{IsThrough, Runs, IsSameMember, AreSameMembers}
use Rattle.mp_members.proofs.SameMembers.{IsSameMember-refl, AreSameMembers-refl, AreSameMembers-trans}
use Rattle.mp_members.proofs.Turns.{through_done, through_down as member_through}
use Rattle.mp_driver.specs.Driving.{number_answering, IsThroughAt, IsDownAt, RunsSomehow, DrivesOn, TurnsAt}
use Rattle.mp_driver.proofs.TurnGoesOn.{TookTurn, turn_goes_on}

-- ---- lists

set_here : {T : Type 0} (xs : List T) (place : ℕ) (x was : T) → slice_get xs place ≡ Some was → slice_get (slice_set xs place x) place ≡ Some x
set_here [] place x was is = absurd (not_some was is)
set_here (y ∷ ys) zero x was is = refl
set_here (y ∷ ys) (suc place) x was is = set_here ys place x was is

set_other : {T : Type 0} (xs : List T) (place : ℕ) (x : T) (other : ℕ) → other ≢ place → slice_get (slice_set xs place x) other ≡ slice_get xs other
set_other [] place x other apart = refl
set_other (y ∷ ys) zero x zero apart = absurd (apart refl)
set_other (y ∷ ys) zero x (suc other) apart = refl
set_other (y ∷ ys) (suc place) x zero apart = refl
set_other (y ∷ ys) (suc place) x (suc other) apart = set_other ys place x other (λ same. apart (ap suc same))

-- the primaries before a place, and the one there, are through
pub through_more : {D : Type 0} (place : ℕ) (old new : Members D) → ((k : ℕ) → k < place → IsThroughAt old k)
    → ((other : ℕ) → other ≢ place → slice_get new.primaries.items other ≡ slice_get old.primaries.items other) → IsThroughAt new place
    → (k : ℕ) → k < place + 1 → IsThroughAt new k
through_more place old new before others here k low pr is = elim (cases_eq k place) [
  | inl same ↦ here pr (ap (slice_get new.primaries.items) (sym same) ∙ is)
  | inr apart ↦ before k (omega (arith, low, apart)) pr (sym (others k apart) ∙ is)
]

-- a primary that is down and has answered each statement is through
pub through_down : {D : Type 0} (m : Members D) (place : ℕ) (pr : PrimaryView D) → slice_get m.primaries.items place ≡ Some pr → IsDownAt m place → have_no_line pr.book.sessions.items ≡ true → IsThroughAt m place
through_down m place pr is down answered other at =
    subst (λ p. IsThrough p) (some_is pr other (sym is ∙ at)) (member_through pr (down pr is) answered)

module _ {D : Type 0} (g : Ghosts D) where
  -- ---- one behind another

  pub DrivesOn-refl : (m : Members D) → DrivesOn g m m
  DrivesOn-refl m = record {
    runs = λ work given r. ([], subst (λ (l : List NodeEntry). Runs g work m l) (sym (append-nil given)) r);
    same = AreSameMembers-refl g m;
  }

  pub DrivesOn-trans : (old mid new : Members D) → DrivesOn g old mid → DrivesOn g mid new → DrivesOn g old new
  DrivesOn-trans old mid new first then_ = record {
    runs = λ work given r.
        let on = first.runs work given r in
        let further = then_.runs work (given ++ on.0) on.1 in
        (on.0 ++ further.0, subst (λ (l : List NodeEntry). Runs g work new l) (append_assoc given on.0 further.0) further.1);
    same = AreSameMembers-trans g old mid new first.same then_.same;
  }

  pub runs_still : (old new : Members D) → DrivesOn g old new → RunsSomehow g old → RunsSomehow g new
  runs_still old new drives runs = let on = drives.runs runs.0 runs.1 runs.2 in (runs.0, runs.1 ++ on.0, on.1)

  -- ---- a turn at a place

  module _ (place : ℕ) (old new : Members D) (before after : PrimaryView D) (was : slice_get old.primaries.items place ≡ Some before) (primaries : new.primaries.items ≡ slice_set old.primaries.items place after) where
    now_there : slice_get new.primaries.items place ≡ Some after
    now_there = ap (λ (l : List (PrimaryView D)). slice_get l place) primaries ∙ set_here old.primaries.items place after before was

    pub others_stay : (other : ℕ) → other ≢ place → slice_get new.primaries.items other ≡ slice_get old.primaries.items other
    others_stay other apart = ap (λ (l : List (PrimaryView D)). slice_get l other) primaries ∙ set_other old.primaries.items place after other apart

    pub same_members_at : new.shared ≡ old.shared → new.idle ≡ old.idle → IsSameMember g before after → AreSameMembers g old new
    same_members_at shared idle same = record {
      shared = shared;
      idle = idle;
      count = ap (λ (l : List (PrimaryView D)). length l) primaries ∙ length-set old.primaries.items place after;
      each = each;
    }
      where
        each : (k : ℕ) → At (IsSameMember g) old.primaries.items new.primaries.items k
        each k x y stood stands = elim (after_set old.primaries.items place after k y (subst (λ (l : List (PrimaryView D)). slice_get l k ≡ Some y) primaries stands)) [
          | inl h ↦
              let is : before ≡ x = some_is before x (sym was ∙ ap (slice_get old.primaries.items) h.0 ∙ stood) in
              subst (λ (p : PrimaryView D). IsSameMember g p y) is (subst (λ (p : PrimaryView D). IsSameMember g before p) (sym h.1) same)
          | inr e ↦ subst (λ (p : PrimaryView D). IsSameMember g x p) (some_is x y (sym stood ∙ e.stood)) (IsSameMember-refl g x)
        ]

  module _ (place : ℕ) (session : Option ℕ) (old new : Members D) (turn : Turn) (t : TookTurn g place session old new turn) where
    its_after : (pr : PrimaryView D) → slice_get new.primaries.items place ≡ Some pr → t.after ≡ pr
    its_after pr is = some_is t.after pr (sym (now_there place old new t.before t.after t.was t.primaries) ∙ is)

    through : session ≡ None → turn ≡ turns.Done → IsThroughAt new place
    through none done pr is =
        subst (λ (p : PrimaryView D). IsThrough p) (its_after pr is) (through_done g t.before t.after old.shared old.node new.node session turn t.takes none done)

    down : (by : ℕ) → turn ≡ turns.Stopped by → IsDownAt new place
    down by stopped pr is =
        let its = t.takes.stopped.0 by stopped in
        subst (λ (p : PrimaryView D). p.down ≢ 0) (its_after pr is) (λ up. its.1 (sym its.0 ∙ up))

    pub turns_at : AreSameMembers g old new → TurnsAt g place session old new turn
    turns_at same = record {
      drives = record { runs = λ work given r. turn_goes_on g work given old r place session turn new t; same = same };
      others = others_stay place old new t.before t.after t.was t.primaries;
      through = through;
      down = down;
    }

  -- ---- what the call for it answers

  module _ (place : ℕ) (session : Option ℕ) (old new : Members D) (before after : PrimaryView D) (was : slice_get old.primaries.items place ≡ Some before) (primaries : new.primaries.items ≡ slice_set old.primaries.items place after) (shared : new.shared ≡ old.shared) (same : AreSameMembers g old new) where
    pub turn_so : (r : Result Turn Memory) → IfOk r (TakesTurn g old.shared before after old.node new.node session)
        → OnOk r (new.order.items ≡ old.order.items ++ number_answering before after) → IfOk r (TurnsAt g place session old new)
    turn_so (Ok turn) takes order = turns_at place session old new turn
        (record { before = before; after = after; was = was; takes = takes; shared = shared; primaries = primaries; order = order }) same
    turn_so (Err memory) takes order = tt
