-- The rule of a table that a machine stands behind, and what a step tells its seat.
use Rattle.std.specs.Prelude.{◌≡◌, ℕ, List, ◌∷◌, Some, map}
use mathlib.Core.Option.{some}
use lib.ListN.{get_elem?}
use Rattle.atomic_table.specs.Table.{State, Me, Valid, homes_after, carried_after}
use Rattle.mp_machine.specs.Machine.{Machine, run, MayCome, AllAllowed}
use Rattle.mp_machine.specs.View.{View, part_in, with_part, whole, ViewAgrees}

-- What an instance shows of its machine, at each event that may come after events that were allowed
pub record Laws {Slot Part Event Place Note World : Type 0} (m : Machine Slot Part Event Place Note World) : Type 0 where
  -- two places do not lie in one word
  pub apart : (a b : Place) → m.IsPlace a → m.IsPlace b → m.index a ≡ m.index b → a ≡ b
  -- its node's part becomes what the event makes of it, and no other part changes
  pub part_here : (es : List Event) (e : Event) → AllAllowed m (e ∷ es) → m.part (run m (e ∷ es)) (m.node_of e) ≡ m.made e (m.content (run m es) (m.place_of e)) (m.note (run m es) e) (m.part (run m es) (m.node_of e))
  pub part_else : (es : List Event) (e : Event) → AllAllowed m (e ∷ es) → (n : ℕ) → ¬ (n ≡ m.node_of e) → m.part (run m (e ∷ es)) n ≡ m.part (run m es) n
  -- its word becomes what the event makes of it, and no other word changes
  pub content_here : (es : List Event) (e : Event) → AllAllowed m (e ∷ es) → m.content (run m (e ∷ es)) (m.place_of e) ≡ m.word_after e (m.content (run m es) (m.place_of e))
  pub content_else : (es : List Event) (e : Event) → AllAllowed m (e ∷ es) → (a : Place) → ¬ (a ≡ m.place_of e) → m.content (run m (e ∷ es)) a ≡ m.content (run m es) a
  -- what it does with slots can be done, and changes the slots as the world says
  pub acts : (es : List Event) (e : Event) (carried : List (ℕ × Slot)) → MayCome m es carried e → AllAllowed m es → Valid (m.homes (run m es)) carried (m.act (run m es) e)
  pub homes_here : (es : List Event) (e : Event) (carried : List (ℕ × Slot)) → MayCome m es carried e → AllAllowed m es → m.homes (run m (e ∷ es)) ≡ homes_after (m.homes (run m es)) carried (m.act (run m es) e)

module _ {Slot Part Event Place Note World : Type 0} (m : Machine Slot Part Event Place Note World) where
  -- A world stands behind a table: the words and slots are its own, and each part that a seat holds is its own too, and held by no other seat
  pub record Stands (w : World) (t : State Slot (View Part)) : Type 0 where
    pub words : (a : Place) → m.IsPlace a → get_elem? t.words (m.index a) ≡ some (m.content w a)
    pub homes : t.homes ≡ m.homes w
    pub seat_of : ℕ → ℕ
    pub held : (seat : ℕ) (v : View Part) (n : ℕ) (p : Part) → get_elem? t.views seat ≡ some v → part_in v n ≡ Some p → (seat ≡ seat_of n) × (m.part w n ≡ p)

  -- words and slots that a table may begin with
  pub record Opens (words : List ℕ) (slots : List Slot) : Type 0 where
    pub words_are : (a : Place) → m.IsPlace a → get_elem? words (m.index a) ≡ some (m.content m.start a)
    pub slots_are : map some slots ≡ m.homes m.start

  -- the parts of all nodes at the start, which the first seat holds
  abbrev pub all_parts : View Part
  all_parts = whole (m.part m.start) m.nodes

  -- the rule: some events, each allowed when it came, lead to a world that stands behind the table
  abbrev pub Rule : State Slot (View Part) → Type 0
  Rule t = (es : List Event) × AllAllowed m es × Stands (run m es) t

  -- some world that can be reached agrees with this view
  abbrev pub Backed : View Part → Type 0
  Backed v = (es : List Event) × AllAllowed m es × ViewAgrees (m.part (run m es)) v

  -- where the event may come, this function of its word is what the event makes of it
  abbrev pub Word : Event → (ℕ → ℕ) → Type 0
  Word e f = (es : List Event) → AllAllowed m (e ∷ es) → f (m.content (run m es) (m.place_of e)) ≡ m.word_after e (m.content (run m es) (m.place_of e))

  -- A seat can make the event by a step that changes this word by this function: it holds the part of the event's node,
  -- and with that part and the slots that the seat carries the event is allowed
  pub record CanMake (e : Event) (me : Me Slot (View Part)) (word : ℕ) (f : ℕ → ℕ) : Type 0 where
    pub place : m.IsPlace (m.place_of e)
    pub word_is : word ≡ m.index (m.place_of e)
    pub mine : Part
    pub holds : part_in me.0 (m.node_of e) ≡ Some mine
    pub allowed : m.Allowed mine me.1 e
    pub changes : Word e f

  -- the event came after some events that were allowed: what it found and noted there, and the seat before and after
  pub record Came (e : Event) (before : Me Slot (View Part)) (found : ℕ) (x : Note) (after : Me Slot (View Part)) : Type 0 where
    pub events : List Event
    pub allowed : AllAllowed m (e ∷ events)
    pub found_is : m.content (run m events) (m.place_of e) ≡ found
    pub noted : m.note (run m events) e ≡ x
    pub agreed : ViewAgrees (m.part (run m events)) before.0
    pub agrees : ViewAgrees (m.part (run m (e ∷ events))) after.0
    pub carries : after.1 ≡ carried_after before.1 (m.act (run m events) e)

  -- what a step tells: the seat's part of the event's node is what the event made of it, and no other part changed
  abbrev pub MadeStep : Event → Me Slot (View Part) → ℕ → Me Slot (View Part) → Type 0
  MadeStep e before found after =
      (x : Note) × (p : Part) × (part_in before.0 (m.node_of e) ≡ Some p) × (after.0 ≡ with_part before.0 (m.node_of e) (m.made e found x p)) × Came e before found x after

  -- the same after a store, which does not say what it found
  abbrev pub Stored : Event → Me Slot (View Part) → Me Slot (View Part) → Type 0
  Stored e before after = (found : ℕ) × MadeStep e before found after

  -- a seat that looks stays as it is, and is backed
  abbrev pub Looked : Me Slot (View Part) → Me Slot (View Part) → Type 0
  Looked before after = (after ≡ before) × Backed after.0

  -- what stands at the end behind the words, the slots that were at home, and the last seat's view
  pub record Ends (words : List ℕ) (slots : List Slot) (v : View Part) : Type 0 where
    pub events : List Event
    pub allowed : AllAllowed m events
    pub agrees : ViewAgrees (m.part (run m events)) v
    pub words_are : (a : Place) → m.IsPlace a → get_elem? words (m.index a) ≡ some (m.content (run m events) a)
    pub slots_are : (k : ℕ) (y : Slot) → get_elem? (m.homes (run m events)) k ≡ some (some y) → get_elem? slots k ≡ some y
