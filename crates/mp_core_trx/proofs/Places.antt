-- The transactions are a machine: two places do not lie in one word, and an event changes its own word and part alone.
use Rattle.std.proofs.Common.{◌≡◌, ◌<◌, ◌≤◌, ℕ, refl, subst, ap, ◌∙◌, ⊎_elim, arith}
use Rattle.mp_machine.specs.Machine.{run}
use Rattle.mp_machine.specs.Rule.{Laws}
use Rattle.mp_model.specs.declared.ids.TrxId.{TrxId}
use Rattle.mp_core_trx.specs.declared.opening.TrxOpening.{TrxOpening}
use Rattle.mp_core_trx.specs.declared.slot.SlotTag.TheVariants.{Active, Prep}
use Rattle.mp_core_trx.specs.declared.slot.Shown.{Shown}
use Rattle.mp_core_trx.specs.declared.event.TrxEvent.{TrxEvent}
use Rattle.mp_core_trx.specs.declared.event.TrxEvent.TheVariants.{LoadTso, StoreActive, StorePrep, DrawTso, StoreEnd, LoadTit}
use Rattle.mp_machine.specs.Lists.{pushed}
use Rattle.mp_core_trx.specs.Words.{shows, word_showing}
use Rattle.mp_core_trx.specs.Parts.{begun_of, shown_at, HasBegun}
use Rattle.mp_core_trx.specs.Events.{TrxPlace, at_tso, at_slot, IsNode, IsTrxPlace, TrxAllowed, trx_index, trx_region, trx_node_of, trx_place_of, ended, slot_row, trx_word_after}
use Rattle.mp_core_trx.specs.World.{TrxWorld, TrxNumbersFit, trx_content, trx_part_after, trx_after, transactions, begun_in, slot_rows_in}
use Rattle.mp_core_trx.specs.Invariant.{TrxInv}
use Rattle.mp_machine.proofs.Lists.{updated_here, updated_else}
use Rattle.mp_core_trx.proofs.Frames.{rows_after, rows_are}
use Rattle.mp_core_trx.proofs.SlotWords.{shown_here, shown_pushed}

pub index_apart : (a b : TrxPlace) → IsTrxPlace a → IsTrxPlace b → trx_index a ≡ trx_index b → a ≡ b
index_apart at_tso at_tso x y e = refl
index_apart at_tso (at_slot m t) x y e = absurd (omega arith)
index_apart (at_slot n s) at_tso x y e = absurd (omega arith)
index_apart (at_slot n s) (at_slot m t) x y e =
    let node : n ≡ m = omega arith in
    let slot : s ≡ t = omega arith in
    λ i. at_slot (node i) (slot i)

-- the words lie together, from the first on
pub index_within : (a : TrxPlace) → IsTrxPlace a → trx_index a < trx_region
index_within at_tso x = omega arith
index_within (at_slot n s) x = omega arith

module _ (o : TrxOpening) (fair : TrxNumbersFit o) (w : TrxWorld) (i : TrxInv o w) where
  node_within : (n m : ℕ) → IsNode (w.part n).opening m → (1 ≤ m) × (m ≤ 8)
  node_within n m is = let own = subst (λ (x : TrxOpening). IsNode x m) (i.carried n) is in let most = fair.some_primaries.1 in (own.0, omega arith)

  begun_slot : (n : ℕ) (id : TrxId) → IsNode (w.part n).opening n → HasBegun (begun_in w n) id → IsTrxPlace (at_slot n id.slot)
  begun_slot n id is has = let node = node_within n n is in (node.0, node.1, i.ids.slots n (begun_of id has.0) has.1)

  -- the word of an event that may come is one of the words
  pub placed : (e : TrxEvent) → TrxAllowed (w.part (trx_node_of e)) e → IsTrxPlace (trx_place_of e)
  placed (LoadTso n) may = tt
  placed (StoreActive n id) may = let node = node_within n n may.0 in (node.0, node.1, may.1.in_range)
  placed (StorePrep n id) may = begun_slot n id may.0 may.1.0
  placed (DrawTso n id) may = tt
  placed (StoreEnd n id cts) may = begun_slot n id may.0 may.1.0.0
  placed (LoadTit n whose slot) may = let node = node_within n whose may.1.0 in (node.0, node.1, may.1.1)

pub part_here : (w : TrxWorld) (e : TrxEvent) → (trx_after w e).part (trx_node_of e) ≡ trx_part_after w e
part_here w e = updated_here w.part (trx_node_of e) (trx_part_after w e)

pub part_else : (w : TrxWorld) (e : TrxEvent) (n : ℕ) → ¬ (n ≡ trx_node_of e) → (trx_after w e).part n ≡ w.part n
part_else w e n d = updated_else w.part (trx_node_of e) (trx_part_after w e) n d

-- a slot's word after an event
slot_word : (w : TrxWorld) (e : TrxEvent) (n slot : ℕ) → trx_content (trx_after w e) (at_slot n slot) ≡ word_showing (shown_at (rows_after w e n) slot)
slot_word w e n slot = ap (λ (r : ℕ → _). word_showing (shown_at (r n) slot)) (rows_are w e)

stored_here : (w : TrxWorld) (n : ℕ) (id : TrxId) (x : Shown) → word_showing (shown_at (pushed (slot_rows_in w) n (slot_row id x) n) id.slot) ≡ word_showing x
stored_here w n id x = ap word_showing (shown_here (slot_rows_in w) n (slot_row id x))

stored_else : (w : TrxWorld) (n : ℕ) (id : TrxId) (x : Shown) (k slot : ℕ) → ¬ (at_slot k slot ≡ at_slot n id.slot) → word_showing (shown_at (pushed (slot_rows_in w) n (slot_row id x) k) slot) ≡ word_showing (shown_at (slot_rows_in w k) slot)
stored_else w n id x k slot d =
    ⊎_elim
    (λ (here : (k ≡ n) × (slot ≡ id.slot) × (shown_at (pushed (slot_rows_in w) n (slot_row id x) k) slot ≡ x)). absurd (d (λ i. at_slot (here.0 i) (here.1 i))))
    (λ (old : shown_at (pushed (slot_rows_in w) n (slot_row id x) k) slot ≡ shown_at (slot_rows_in w k) slot). ap word_showing old)
    (shown_pushed (slot_rows_in w) n (slot_row id x) k slot)

pub content_here : (w : TrxWorld) (e : TrxEvent) → trx_content (trx_after w e) (trx_place_of e) ≡ trx_word_after e (trx_content w (trx_place_of e))
content_here w (LoadTso n) = refl
content_here w (StoreActive n id) = slot_word w (StoreActive n id) n id.slot ∙ stored_here w n id (shows Active id.version 0)
content_here w (StorePrep n id) = slot_word w (StorePrep n id) n id.slot ∙ stored_here w n id (shows Prep id.version 0)
content_here w (DrawTso n id) = refl
content_here w (StoreEnd n id cts) = slot_word w (StoreEnd n id cts) n id.slot ∙ stored_here w n id (ended id cts)
content_here w (LoadTit n whose slot) = slot_word w (LoadTit n whose slot) whose slot

pub content_else : (w : TrxWorld) (e : TrxEvent) (a : TrxPlace) → ¬ (a ≡ trx_place_of e) → trx_content (trx_after w e) a ≡ trx_content w a
content_else w (LoadTso n) at_tso d = refl
content_else w (StoreActive n id) at_tso d = refl
content_else w (StorePrep n id) at_tso d = refl
content_else w (DrawTso n id) at_tso d = absurd (d refl)
content_else w (StoreEnd n id cts) at_tso d = refl
content_else w (LoadTit n whose slot) at_tso d = refl
content_else w (LoadTso n) (at_slot k s) d = slot_word w (LoadTso n) k s
content_else w (StoreActive n id) (at_slot k s) d = slot_word w (StoreActive n id) k s ∙ stored_else w n id (shows Active id.version 0) k s d
content_else w (StorePrep n id) (at_slot k s) d = slot_word w (StorePrep n id) k s ∙ stored_else w n id (shows Prep id.version 0) k s d
content_else w (DrawTso n id) (at_slot k s) d = slot_word w (DrawTso n id) k s
content_else w (StoreEnd n id cts) (at_slot k s) d = slot_word w (StoreEnd n id cts) k s ∙ stored_else w n id (ended id cts) k s d
content_else w (LoadTit n whose slot) (at_slot k s) d = slot_word w (LoadTit n whose slot) k s

pub laws : (o : TrxOpening) → Laws (transactions o)
laws o = record {
  apart = index_apart;
  part_here = λ es e all. part_here (run (transactions o) es) e;
  part_else = λ es e all. part_else (run (transactions o) es) e;
  content_here = λ es e all. content_here (run (transactions o) es) e;
  content_else = λ es e all. content_else (run (transactions o) es) e;
  acts = λ es e carried may all. tt;
  homes_here = λ es e carried may all. refl;
}
