-- The example's machine: two nodes draw numbers from a counter, and a lock guards the one slot.
use Rattle.std.specs.Prelude.{◌≡◌, ℕ, ◌+◌, ◌^◌, ◌<◌, ◌≤◌, List, [], ◌∷◌, length, Bool, true, false, ◌==◌, if◌then◌else◌, Some}
use mathlib.Core.Option.{Option, none, some}
use Rattle.atomic_table.specs.Table.{Me, Act, keeps, takes, gives}
use Rattle.mp_machine.specs.Machine.{Machine, run, AllAllowed}
use Rattle.mp_machine.specs.View.{View, part_in, with_part, ViewAgrees}
use Rattle.mp_machine_example.specs.declared.system.Worker.{Worker}
use Rattle.mp_machine_example.specs.declared.system.Event.{Event}
use Rattle.mp_machine_example.specs.declared.system.Event.TheVariants.{Draw, Total, Lock, Unlock}

pub data OfficePlace : Type 0 where
  counter : OfficePlace
  lock : OfficePlace

-- The history is in no part and no word: only notes tell of it
pub record OfficeWorld : Type 0 where
  pub drawn : ℕ
  pub locked : ℕ
  pub value : Option ℕ
  pub worker : ℕ → Worker
  pub history : List Event

abbrev pub office_content : OfficeWorld → OfficePlace → ℕ
office_content w counter = w.drawn
office_content w lock = w.locked

abbrev pub office_index : OfficePlace → ℕ
office_index counter = 0
office_index lock = 1

abbrev pub office_node_of : Event → ℕ
office_node_of (Draw n) = n
office_node_of (Total n) = n
office_node_of (Lock n) = n
office_node_of (Unlock n y) = n

abbrev pub office_place_of : Event → OfficePlace
office_place_of (Draw n) = counter
office_place_of (Total n) = counter
office_place_of (Lock n) = lock
office_place_of (Unlock n y) = lock

-- a lock is 1 while a node has it
abbrev pub locks : ℕ → ℕ
locks found = if found == 0 then 1 else found

abbrev pub office_word_after : Event → ℕ → ℕ
office_word_after (Draw n) found = found + 1
office_word_after (Total n) found = found
office_word_after (Lock n) found = locks found
office_word_after (Unlock n y) found = 0

-- the slot is taken if it is at home
abbrev pub taking : Option ℕ → Act ℕ
taking (some y) = takes 0 y
taking none = keeps

abbrev pub office_act : OfficeWorld → Event → Act ℕ
office_act w (Draw n) = keeps
office_act w (Total n) = keeps
office_act w (Lock n) = if w.locked == 0 then taking w.value else keeps
office_act w (Unlock n y) = gives

-- a draw notes how many events there were
abbrev pub office_made : Event → ℕ → ℕ → Worker → Worker
office_made (Draw n) found x p = record { draws = p.draws + 1; heard = x; holds = p.holds }
office_made (Total n) found x p = p
office_made (Lock n) found x p = record { draws = p.draws; heard = p.heard; holds = (if found == 0 then true else p.holds) }
office_made (Unlock n y) found x p = record { draws = p.draws; heard = p.heard; holds = false }

abbrev pub OfficeAllows : Worker → List (ℕ × ℕ) → Event → Type 0
OfficeAllows p carried (Draw n) = (n < 2) × (p.draws < 2 ^ 32)
OfficeAllows p carried (Total n) = n < 2
OfficeAllows p carried (Lock n) = n < 2
OfficeAllows p carried (Unlock n y) = (n < 2) × (p.holds ≡ true) × (carried ≡ (0, y) ∷ [])

abbrev pub drawn_after : Event → ℕ → ℕ
drawn_after (Draw n) k = k + 1
drawn_after (Total n) k = k
drawn_after (Lock n) k = k
drawn_after (Unlock n y) k = k

abbrev pub locked_after : Event → ℕ → ℕ
locked_after (Draw n) k = k
locked_after (Total n) k = k
locked_after (Lock n) k = locks k
locked_after (Unlock n y) k = 0

abbrev pub value_after : Event → ℕ → Option ℕ → Option ℕ
value_after (Draw n) k v = v
value_after (Total n) k v = v
value_after (Lock n) k v = if k == 0 then none else v
value_after (Unlock n y) k v = some y

-- one worker changes
abbrev pub with_worker : (ℕ → Worker) → ℕ → Worker → ℕ → Worker
with_worker workers n p k = if k == n then p else workers k

abbrev pub office_after : OfficeWorld → Event → OfficeWorld
office_after w e = record {
  drawn = drawn_after e w.drawn;
  locked = locked_after e w.locked;
  value = value_after e w.locked w.value;
  worker = with_worker w.worker (office_node_of e) (office_made e (office_content w (office_place_of e)) (length w.history) (w.worker (office_node_of e)));
  history = e ∷ w.history;
}

abbrev pub new_worker : Worker
new_worker = record { draws = 0; heard = 0; holds = false }

-- the slot begins with the value of the opening
abbrev pub office : ℕ → Machine ℕ Worker Event OfficePlace ℕ OfficeWorld
office opening = record {
  nodes = 2;
  start = record { drawn = 0; locked = 0; value = some opening; worker = λ _. new_worker; history = [] };
  after = office_after;
  part = λ w. w.worker;
  content = office_content;
  homes = λ w. w.value ∷ [];
  IsPlace = λ _. Unit {0};
  index = office_index;
  node_of = office_node_of;
  place_of = office_place_of;
  word_after = office_word_after;
  act = office_act;
  note = λ w e. length w.history;
  made = office_made;
  Allowed = OfficeAllows;
}

-- the second node
abbrev pub is_second : ℕ → Bool
is_second n = n == 1

-- What holds in every world that can be reached
pub record OfficeInv (w : OfficeWorld) : Type 0 where
  pub counted : w.drawn ≡ (w.worker 0).draws + (w.worker 1).draws
  pub few : (n : ℕ) → (w.worker n).draws ≤ 2 ^ 32
  pub logged : w.drawn ≤ length w.history
  pub at_home : w.locked ≡ 0 → (y : ℕ) × (w.value ≡ some y)

-- the seat holds the node's worker, which has drawn less than 2^32 numbers
abbrev pub CanDraw : Me ℕ (View Worker) → ℕ → Type 0
CanDraw me n = (n < 2) × ((p : Worker) × (part_in me.0 n ≡ Some p) × (p.draws < 2 ^ 32))

-- the worker drew one more, and heard of at least as many events as the number that it drew
abbrev pub Drew : ℕ → Me ℕ (View Worker) → ℕ → Me ℕ (View Worker) → Type 0
Drew n before found after =
    (heard : ℕ) × (p : Worker) × (found ≤ heard) × (part_in before.0 n ≡ Some p)
    × (after ≡ (with_part before.0 n (record { draws = p.draws + 1; heard = heard; holds = p.holds }), before.1))

-- the seat holds the node's worker
abbrev pub HasWorker : Me ℕ (View Worker) → ℕ → Type 0
HasWorker me n = (n < 2) × ((p : Worker) × (part_in me.0 n ≡ Some p))

-- the worker has the lock, and the seat the slot with this value; nothing else changed
abbrev pub Has : ℕ → Me ℕ (View Worker) → ℕ → Me ℕ (View Worker) → Type 0
Has n before value after =
    (p : Worker) × (part_in before.0 n ≡ Some p)
    × (after ≡ (with_part before.0 n (record { draws = p.draws; heard = p.heard; holds = true }), (0, value) ∷ before.1))

-- the seat holds the node's worker, which has the lock, and carries the slot alone
abbrev pub CanUnlock : Me ℕ (View Worker) → ℕ → Type 0
CanUnlock me n = (n < 2) × ((p : Worker) × (part_in me.0 n ≡ Some p) × (p.holds ≡ true)) × ((old : ℕ) × (me.1 ≡ (0, old) ∷ []))

-- the worker gave the lock back, and the seat the slot
abbrev pub Unlocked : ℕ → Me ℕ (View Worker) → Me ℕ (View Worker) → Type 0
Unlocked n before after =
    (p : Worker) × (part_in before.0 n ≡ Some p) × (after ≡ (with_part before.0 n (record { draws = p.draws; heard = p.heard; holds = false }), []))

-- in a world that can be reached, and which agrees with the view, the lock was not free
abbrev pub WasHeld : ℕ → View Worker → Type 0
WasHeld opening v =
    (es : List Event) × AllAllowed (office opening) es × ViewAgrees (run (office opening) es).worker v × ¬ ((run (office opening) es).locked ≡ 0)
