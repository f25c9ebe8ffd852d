-- An abstract machine: words that change in single steps, slots that nodes take and give back, a part for each node, and events.
use Rattle.std.specs.Prelude.{ℕ, List, [], ◌∷◌}
use mathlib.Core.Option.{Option}
use Rattle.atomic_table.specs.Table.{Act}

-- A World is everything there is, histories too. An event is one step of one node on the word at one place.
pub record Machine (Slot Part Event Place Note World : Type 0) : Type 1 where
  -- how many nodes there are
  pub nodes : ℕ
  -- the world before any event, and after one
  pub start : World
  pub after : World → Event → World
  -- what the world has: what a node knows, the word at a place, and the slots, each at home with its value or out
  pub part : World → ℕ → Part
  pub content : World → Place → ℕ
  pub homes : World → List (Option Slot)
  -- which places there are, and where each lies
  pub IsPlace : Place → Type 0
  pub index : Place → ℕ
  -- who makes an event, on which word, and what becomes of the word
  pub node_of : Event → ℕ
  pub place_of : Event → Place
  pub word_after : Event → ℕ → ℕ
  -- what an event does with slots, and what it notes, from the whole world
  pub act : World → Event → Act Slot
  pub note : World → Event → Note
  -- the part of the node after the event, by the word found, the note and the part before
  pub made : Event → ℕ → Note → Part → Part
  -- the condition of an event: it reads the part of its node and the slots that this carries, and nothing else
  pub Allowed : Part → List (ℕ × Slot) → Event → Type 0

-- the first list turned round, and then the second: so last-first becomes the order of time, and back
abbrev pub reversed_onto : {Event : Type 0} → List Event → List Event → List Event
reversed_onto [] others = others
reversed_onto (e ∷ es) others = reversed_onto es (e ∷ others)

module _ {Slot Part Event Place Note World : Type 0} (m : Machine Slot Part Event Place Note World) where
  -- the world after these events, of which the last stands first
  abbrev pub run : List Event → World
  run [] = m.start
  run (e ∷ es) = m.after (run es) e

  -- the event may come next, from a node that carries these slots
  abbrev pub MayCome : List Event → List (ℕ × Slot) → Event → Type 0
  MayCome es carried e = m.Allowed (m.part (run es) (m.node_of e)) carried e

  -- each of these events was allowed when it came; the last stands first
  abbrev pub AllAllowed : List Event → Type 0
  AllAllowed [] = Unit {0}
  AllAllowed (e ∷ es) = ((carried : List (ℕ × Slot)) × MayCome es carried e) × AllAllowed es

  -- the world after these events in the order of time, from a world on
  abbrev pub run_from : World → List Event → World
  run_from w [] = w
  run_from w (e ∷ es) = run_from (m.after w e) es

  -- each of them is allowed when it comes
  abbrev pub AllowedFrom : World → List Event → Type 0
  AllowedFrom w [] = Unit {0}
  AllowedFrom w (e ∷ es) = ((carried : List (ℕ × Slot)) × m.Allowed (m.part w (m.node_of e)) carried e) × AllowedFrom (m.after w e) es
