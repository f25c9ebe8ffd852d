-- Facts of every list of allowed events: by induction, and from last-first to the order of time and back.
use Rattle.std.proofs.Common.{◌≡◌, List, [], ◌∷◌, refl, subst}
use Rattle.mp_machine.specs.Machine.{Machine, run, AllAllowed, reversed_onto, run_from, AllowedFrom}

module _ {Slot Part Event Place Note World : Type 0} (m : Machine Slot Part Event Place Note World) where
  -- what holds at the start and is kept by each event holds wherever allowed events lead
  pub kept : (P : World → Type 0) → P m.start → ((es : List Event) (e : Event) → AllAllowed m (e ∷ es) → P (run m es) → P (run m (e ∷ es))) → (es : List Event) → AllAllowed m es → P (run m es)
  kept P first keeps [] all = first
  kept P first keeps (e ∷ es) all = keeps es e all (kept P first keeps es all.1)

  to_time : (es later : List Event) → AllAllowed m es → AllowedFrom m (run m es) later
      → AllowedFrom m m.start (reversed_onto es later) × (run_from m m.start (reversed_onto es later) ≡ run_from m (run m es) later)
  to_time [] later all h = (h, refl)
  to_time (e ∷ es) later all h = to_time es (e ∷ later) all.1 (all.0, h)

  from_time : (events es : List Event) → AllAllowed m es → AllowedFrom m (run m es) events
      → AllAllowed m (reversed_onto events es) × (run m (reversed_onto events es) ≡ run_from m (run m es) events)
  from_time [] es all h = (all, refl)
  from_time (e ∷ events) es all h = from_time events (e ∷ es) (h.0, all) h.1

  -- a law on events in the order of time is a law on lists that have the last event first
  pub forward : (P : World → Type 0) → ((events : List Event) → AllowedFrom m m.start events → P (run_from m m.start events)) → (es : List Event) → AllAllowed m es → P (run m es)
  forward P law es all = let t = to_time es [] all tt in subst P t.1 (law (reversed_onto es []) t.0)

  -- and the other way round
  pub in_time : (P : World → Type 0) → ((es : List Event) → AllAllowed m es → P (run m es)) → (events : List Event) → AllowedFrom m m.start events → P (run_from m m.start events)
  in_time P law events all = let t = from_time events [] tt all in subst P t.1 (law (reversed_onto events []) t.0)
