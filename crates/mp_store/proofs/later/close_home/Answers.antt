-- First one side and then the other; all else stays.
use Rattle.std.proofs.Common.{◌≡◌, Bool, false, ℕ, ◌+◌, ◌<◌, ◌≤◌, IsTrue, List, Result, Ok, Err, OnOk, length, sym, ap, ◌∙◌, arith}
use Rattle.mp_store.specs.declared.sides.Side.{Side}
use Rattle.mp_store.specs.declared.sides.Side.TheVariants.{First, Second}
use Rattle.mp_store.specs.Layout.{page_place, page_side}
use Rattle.mp_store.specs.OpenStores.{is_later}
use Rattle.mp_store.proofs.LaterShown.{quiet_shut, one_more_early, sides_differ, pages_differ}
use Rattle.mp_store.proofs.later.close_home.Given as given
use Rattle.mp_store.proofs.later.close_home.Goals as goal

pub returns-in_err-home-clause-kept : goal.returns-in_err-home-clause-kept
returns-in_err-home-clause-kept g c = λ tells. λ file. λ room. λ all. quiet_shut c.args.generation file _ _ _ _ c.in_err-home.ensures.quiet all

-- what was read of the two sides holds of the disk after it
record Read (seen old : List ℕ) (generation number : ℕ) (first second : Bool) : Type 0 where
  same : seen ≡ old
  first_is : first ≡ is_later generation (page_side number First seen)
  second_is : second ≡ is_later generation (page_side number Second seen)
  first_room : page_place number First < length seen
  second_room : page_place number Second < length seen

was_read : (seen old : List ℕ) (generation number : ℕ) (front back : List ℕ) (first second : Bool) → seen ≡ old → front ≡ page_side number First old → back ≡ page_side number Second old
    → page_place number Second + 1040 ≤ length old → first ≡ is_later generation front → second ≡ is_later generation back → Read seen old generation number first second
was_read seen old generation number front back first second same front_is back_is long f s =
    let at_end = ap length same in
    record {
      same = same;
      first_is = f ∙ ap (is_later generation) (front_is ∙ ap (page_side number First) (sym same));
      second_is = s ∙ ap (is_later generation) (back_is ∙ ap (page_side number Second) (sym same));
      first_room = omega (arith, long, at_end);
      second_room = omega (arith, long, at_end);
    }

pub returns-in_err-close_side-clause-kept : goal.returns-in_err-close_side-clause-kept
returns-in_err-close_side-clause-kept g c = λ tells. λ file. λ room. λ all.
    let read = was_read (g.D.Disk.seen c.read_home.new.disk) (g.D.Disk.seen c.args.disk.now) c.args.generation c.args.number _ _ c.is_later-first_later.result c.is_later-second_later.result
    c.in_ok-home.ensures.quiet.same (c.split_at.ensures.front ∙ c.in_ok-home.ensures.first tells) (c.split_at.ensures.back ∙ c.in_ok-home.ensures.second tells) (c.in_ok-home.ensures.long tells)
    c.is_later-first_later.ensures c.is_later-second_later.ensures in
    let told : IsTrue (g.D.Disk.tells c.read_home.new.disk) = rw (c.in_ok-home.ensures.tells) tells in
    c.in_err-close_side.ensures.kept told c.args.generation read.first_is file room (quiet_shut c.args.generation file _ _ _ _ c.in_ok-home.ensures.quiet all)

-- the second side is as it was read once the first was closed
record Closed (tells : Bool) (seen old : List ℕ) (generation number : ℕ) (second : Bool) : Type 0 where
  told : IsTrue tells
  second_is : second ≡ is_later generation (page_side number Second seen)
  room : page_place number Second < length seen
  first_early : is_later generation (page_side number First seen) ≡ false
  below : (m : ℕ) (t : Side) → m < number → page_side m t seen ≡ page_side m t old

first_closed : (g : given.Over) (c : goal.After-close_side-2 g) → IsTrue (g.D.Disk.tells c.args.disk.now)
    → Closed (g.D.Disk.tells c.close_side.new.disk) (g.D.Disk.seen c.close_side.new.disk) (g.D.Disk.seen c.args.disk.now) c.args.generation c.args.number c.is_later-second_later.result
first_closed g c tells =
    let n = c.args.number in
    let read = was_read (g.D.Disk.seen c.read_home.new.disk) (g.D.Disk.seen c.args.disk.now) c.args.generation c.args.number _ _ c.is_later-first_later.result c.is_later-second_later.result
    c.in_ok-home.ensures.quiet.same (c.split_at.ensures.front ∙ c.in_ok-home.ensures.first tells) (c.split_at.ensures.back ∙ c.in_ok-home.ensures.second tells) (c.in_ok-home.ensures.long tells)
    c.is_later-first_later.ensures c.is_later-second_later.ensures in
    let told : IsTrue (g.D.Disk.tells c.read_home.new.disk) = rw (c.in_ok-home.ensures.tells) tells in
    let done = c.in_ok-close_side.ensures in
    let kept = done.others told read.first_room n Second (sides_differ n) in
    let long = done.long told read.first_room in
    let second_room = read.second_room in
    record {
      told = rw (done.tells) told;
      second_is = read.second_is ∙ ap (is_later c.args.generation) (sym kept);
      room = omega (arith, long, second_room);
      first_early = done.closed told c.args.generation read.first_is read.first_room;
      below = λ m t lt. done.others told read.first_room m t (pages_differ m n t First lt) ∙ ap (page_side m t) read.same;
    }

pub returns-clause-kept : goal.returns-clause-kept
returns-clause-kept g c = λ tells. λ file. λ room. λ all.
    let read = was_read (g.D.Disk.seen c.read_home.new.disk) (g.D.Disk.seen c.args.disk.now) c.args.generation c.args.number _ _ c.is_later-first_later.result c.is_later-second_later.result
    c.in_ok-home.ensures.quiet.same (c.split_at.ensures.front ∙ c.in_ok-home.ensures.first tells) (c.split_at.ensures.back ∙ c.in_ok-home.ensures.second tells) (c.in_ok-home.ensures.long tells)
    c.is_later-first_later.ensures c.is_later-second_later.ensures in
    let told : IsTrue (g.D.Disk.tells c.read_home.new.disk) = rw (c.in_ok-home.ensures.tells) tells in
    let closed = first_closed g c tells in
    let once = c.in_ok-close_side.ensures.kept told c.args.generation read.first_is file room (quiet_shut c.args.generation file _ _ _ _ c.in_ok-home.ensures.quiet all) in
    c.close_side-2.ensures.kept closed.told c.args.generation closed.second_is file room once

pub returns-clause-closed : goal.returns-clause-closed
returns-clause-closed g c = λ tells. λ before.
    let n = c.args.number in
    let gen = c.args.generation in
    let closed = first_closed g c tells in
    let then_ = c.close_side-2.ensures in
    let new = g.D.Disk.seen c.close_side-2.new.disk in
    let at = g.D.Disk.seen c.close_side.new.disk in
    by_result c.close_side-2.result (then_.closed closed.told gen closed.second_is closed.room) (λ m t differ. then_.others closed.told closed.room m t differ)
    (λ second kept. one_more_early gen n (g.D.Disk.seen c.args.disk.now) new before (λ m t lt. kept m t (pages_differ m n t Second lt) ∙ closed.below m t lt)
    (ap (is_later gen) (kept n First (λ e. sides_differ n (sym e))) ∙ closed.first_early) second)
  where
    by_result : {T E A C : Type 0} {B : ℕ → Side → Type 0} {P : ℕ → Side → Type 0} (result : Result T E) → OnOk result A → ((m : ℕ) (t : Side) → P m t → OnOk result (B m t))
        → (A → ((m : ℕ) (t : Side) → P m t → B m t) → C) → OnOk result C
    by_result (Ok done) a b then_ = then_ a b
    by_result (Err e) a b then_ = tt
