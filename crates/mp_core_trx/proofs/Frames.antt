-- What an event makes of each component, and so what it leaves.
use Rattle.std.proofs.Common.{◌≡◌, ℕ, ◌+◌, ◌==◌, List, Bool, true, false, if◌then◌else◌, refl, ◌∙◌}
use Rattle.mp_core_trx.specs.declared.slot.SlotTag.TheVariants.{Active, Prep}
use Rattle.mp_core_trx.specs.declared.part.Begun.{Begun}
use Rattle.mp_core_trx.specs.declared.part.SlotRow.{SlotRow}
use Rattle.mp_core_trx.specs.declared.part.Draw.{Draw}
use Rattle.mp_core_trx.specs.declared.part.SlotLoad.{SlotLoad}
use Rattle.mp_core_trx.specs.declared.part.TrxPart.{TrxPart}
use Rattle.mp_core_trx.specs.declared.event.TrxEvent.{TrxEvent}
use Rattle.mp_core_trx.specs.declared.event.TrxEvent.TheVariants.{LoadTso, StoreActive, StorePrep, DrawTso, StoreEnd, LoadTit}
use Rattle.mp_machine.specs.Lists.{updated, pushed}
use Rattle.mp_core_trx.specs.Words.{shows, word_showing}
use Rattle.mp_core_trx.specs.Parts.{begun_of, draw_of, shown_at, newest}
use Rattle.mp_core_trx.specs.Events.{ended, slot_row, load_of}
use Rattle.mp_core_trx.specs.World.{TrxWorld, trx_after, trx_part_after, openings_in, begun_in, slot_rows_in, drawn_in, tso_seen_in, loaded_in}
use Rattle.mp_machine.proofs.Lists.{updated_same}

module _ {A : Type 0} where
  choice : (g : TrxPart → A) (b : Bool) (p q : TrxPart) → g (if b then p else q) ≡ (if b then g p else g q)
  choice g true p q = refl
  choice g false p q = refl

  -- a component after a change of one part
  pub changed : (g : TrxPart → A) (f : ℕ → TrxPart) (n : ℕ) (p : TrxPart) → ◌≡◌ {A = ℕ → A} (λ k. g (updated f n p k)) (updated (λ k. g (f k)) n (g p))
  changed g f n p i k = choice g (k == n) p (f k) i

  -- it stays where the part has it as before
  pub left : (g : TrxPart → A) (f : ℕ → TrxPart) (n : ℕ) (p : TrxPart) → g p ≡ g (f n) → ◌≡◌ {A = ℕ → A} (λ k. g (updated f n p k)) (λ k. g (f k))
  left g f n p e = changed g f n p ∙ (λ i. updated (λ k. g (f k)) n (e i)) ∙ (λ i k. updated_same (λ k. g (f k)) n k i)

-- no step changes what a part carries of the opening
pub openings_are : (w : TrxWorld) (e : TrxEvent) → openings_in (trx_after w e) ≡ openings_in w
openings_are w (LoadTso n) = left (λ p. p.opening) w.part n (trx_part_after w (LoadTso n)) refl
openings_are w (StoreActive n id) = left (λ p. p.opening) w.part n (trx_part_after w (StoreActive n id)) refl
openings_are w (StorePrep n id) = left (λ p. p.opening) w.part n (trx_part_after w (StorePrep n id)) refl
openings_are w (DrawTso n id) = left (λ p. p.opening) w.part n (trx_part_after w (DrawTso n id)) refl
openings_are w (StoreEnd n id cts) = left (λ p. p.opening) w.part n (trx_part_after w (StoreEnd n id cts)) refl
openings_are w (LoadTit n whose slot) = left (λ p. p.opening) w.part n (trx_part_after w (LoadTit n whose slot)) refl

-- who has begun after an event
abbrev pub begun_after : TrxWorld → TrxEvent → ℕ → List Begun
begun_after w (LoadTso n) = begun_in w
begun_after w (StoreActive n id) = pushed (begun_in w) n (begun_of id (newest (w.part n)))
begun_after w (StorePrep n id) = begun_in w
begun_after w (DrawTso n id) = begun_in w
begun_after w (StoreEnd n id cts) = begun_in w
begun_after w (LoadTit n whose slot) = begun_in w

pub begun_are : (w : TrxWorld) (e : TrxEvent) → begun_in (trx_after w e) ≡ begun_after w e
begun_are w (LoadTso n) = left (λ p. p.begun) w.part n (trx_part_after w (LoadTso n)) refl
begun_are w (StoreActive n id) = changed (λ p. p.begun) w.part n (trx_part_after w (StoreActive n id))
begun_are w (StorePrep n id) = left (λ p. p.begun) w.part n (trx_part_after w (StorePrep n id)) refl
begun_are w (DrawTso n id) = left (λ p. p.begun) w.part n (trx_part_after w (DrawTso n id)) refl
begun_are w (StoreEnd n id cts) = left (λ p. p.begun) w.part n (trx_part_after w (StoreEnd n id cts)) refl
begun_are w (LoadTit n whose slot) = left (λ p. p.begun) w.part n (trx_part_after w (LoadTit n whose slot)) refl

-- what was stored in the slots after an event
abbrev pub rows_after : TrxWorld → TrxEvent → ℕ → List SlotRow
rows_after w (LoadTso n) = slot_rows_in w
rows_after w (StoreActive n id) = pushed (slot_rows_in w) n (slot_row id (shows Active id.version 0))
rows_after w (StorePrep n id) = pushed (slot_rows_in w) n (slot_row id (shows Prep id.version 0))
rows_after w (DrawTso n id) = slot_rows_in w
rows_after w (StoreEnd n id cts) = pushed (slot_rows_in w) n (slot_row id (ended id cts))
rows_after w (LoadTit n whose slot) = slot_rows_in w

pub rows_are : (w : TrxWorld) (e : TrxEvent) → slot_rows_in (trx_after w e) ≡ rows_after w e
rows_are w (LoadTso n) = left (λ p. p.rows) w.part n (trx_part_after w (LoadTso n)) refl
rows_are w (StoreActive n id) = changed (λ p. p.rows) w.part n (trx_part_after w (StoreActive n id))
rows_are w (StorePrep n id) = changed (λ p. p.rows) w.part n (trx_part_after w (StorePrep n id))
rows_are w (DrawTso n id) = left (λ p. p.rows) w.part n (trx_part_after w (DrawTso n id)) refl
rows_are w (StoreEnd n id cts) = changed (λ p. p.rows) w.part n (trx_part_after w (StoreEnd n id cts))
rows_are w (LoadTit n whose slot) = left (λ p. p.rows) w.part n (trx_part_after w (LoadTit n whose slot)) refl

-- what was drawn after an event
abbrev pub drawn_after : TrxWorld → TrxEvent → ℕ → List Draw
drawn_after w (LoadTso n) = drawn_in w
drawn_after w (StoreActive n id) = drawn_in w
drawn_after w (StorePrep n id) = drawn_in w
drawn_after w (DrawTso n id) = pushed (drawn_in w) n (draw_of id (w.tso + 1))
drawn_after w (StoreEnd n id cts) = drawn_in w
drawn_after w (LoadTit n whose slot) = drawn_in w

pub drawn_are : (w : TrxWorld) (e : TrxEvent) → drawn_in (trx_after w e) ≡ drawn_after w e
drawn_are w (LoadTso n) = left (λ p. p.drew) w.part n (trx_part_after w (LoadTso n)) refl
drawn_are w (StoreActive n id) = left (λ p. p.drew) w.part n (trx_part_after w (StoreActive n id)) refl
drawn_are w (StorePrep n id) = left (λ p. p.drew) w.part n (trx_part_after w (StorePrep n id)) refl
drawn_are w (DrawTso n id) = changed (λ p. p.drew) w.part n (trx_part_after w (DrawTso n id))
drawn_are w (StoreEnd n id cts) = left (λ p. p.drew) w.part n (trx_part_after w (StoreEnd n id cts)) refl
drawn_are w (LoadTit n whose slot) = left (λ p. p.drew) w.part n (trx_part_after w (LoadTit n whose slot)) refl

-- what was seen of the TSO after an event
abbrev pub seen_after : TrxWorld → TrxEvent → ℕ → List ℕ
seen_after w (LoadTso n) = pushed (tso_seen_in w) n (w.tso)
seen_after w (StoreActive n id) = tso_seen_in w
seen_after w (StorePrep n id) = tso_seen_in w
seen_after w (DrawTso n id) = pushed (tso_seen_in w) n (w.tso + 1)
seen_after w (StoreEnd n id cts) = tso_seen_in w
seen_after w (LoadTit n whose slot) = tso_seen_in w

pub seen_are : (w : TrxWorld) (e : TrxEvent) → tso_seen_in (trx_after w e) ≡ seen_after w e
seen_are w (LoadTso n) = changed (λ p. p.seen) w.part n (trx_part_after w (LoadTso n))
seen_are w (StoreActive n id) = left (λ p. p.seen) w.part n (trx_part_after w (StoreActive n id)) refl
seen_are w (StorePrep n id) = left (λ p. p.seen) w.part n (trx_part_after w (StorePrep n id)) refl
seen_are w (DrawTso n id) = changed (λ p. p.seen) w.part n (trx_part_after w (DrawTso n id))
seen_are w (StoreEnd n id cts) = left (λ p. p.seen) w.part n (trx_part_after w (StoreEnd n id cts)) refl
seen_are w (LoadTit n whose slot) = left (λ p. p.seen) w.part n (trx_part_after w (LoadTit n whose slot)) refl

-- what was loaded of slots after an event
abbrev pub loaded_after : TrxWorld → TrxEvent → ℕ → List SlotLoad
loaded_after w (LoadTso n) = loaded_in w
loaded_after w (StoreActive n id) = loaded_in w
loaded_after w (StorePrep n id) = loaded_in w
loaded_after w (DrawTso n id) = loaded_in w
loaded_after w (StoreEnd n id cts) = loaded_in w
loaded_after w (LoadTit n whose slot) = pushed (loaded_in w) n (load_of whose slot (word_showing (shown_at (slot_rows_in w whose) slot)) (newest (w.part n)))

pub loaded_are : (w : TrxWorld) (e : TrxEvent) → loaded_in (trx_after w e) ≡ loaded_after w e
loaded_are w (LoadTso n) = left (λ p. p.loaded) w.part n (trx_part_after w (LoadTso n)) refl
loaded_are w (StoreActive n id) = left (λ p. p.loaded) w.part n (trx_part_after w (StoreActive n id)) refl
loaded_are w (StorePrep n id) = left (λ p. p.loaded) w.part n (trx_part_after w (StorePrep n id)) refl
loaded_are w (DrawTso n id) = left (λ p. p.loaded) w.part n (trx_part_after w (DrawTso n id)) refl
loaded_are w (StoreEnd n id cts) = left (λ p. p.loaded) w.part n (trx_part_after w (StoreEnd n id cts)) refl
loaded_are w (LoadTit n whose slot) = changed (λ p. p.loaded) w.part n (trx_part_after w (LoadTit n whose slot))
