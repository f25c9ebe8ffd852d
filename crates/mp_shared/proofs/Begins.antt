-- The table and the first node, before any step.
use Rattle.std.proofs.Common.{◌≡◌, ℕ, zero, suc, ◌+◌, ◌-◌, ◌<◌, ◌≤◌, List, [], Some, None, slice_index_or, ◌⊎◌, Option, map, refl, sym, ap, ◌∙◌, subst, inl, inr, ⊎_elim, arith, lit≤}
use mathlib.Core.Option.{some}
use lib.ListN.{get_elem?}
use Rattle.mp_machine.specs.View.{View, part_in, whole}
use Rattle.mp_machine.specs.Rule.{Opens, Backed, all_parts}
use Rattle.mp_machine.proofs.Views.{part_in-whole, Agrees-whole}
use Rattle.mp_core_trx.specs.Parts.{first_trx_part}
use Rattle.mp_core_trx.specs.Events.{at_tso, at_slot}
use Rattle.mp_core_trx.proofs.Places.{index_within as trx_within}
use Rattle.mp_core_pages.specs.declared.page_lock.Held.{Held}
use Rattle.mp_core_pages.specs.declared.page_lock.Held.TheVariants.{No}
use Rattle.mp_core_pages.specs.PageParts.{out_at}
use Rattle.mp_core_pages.specs.PageEvents.{lock_of, turn_of, llsn_word, durable_word}
use Rattle.mp_core.specs.declared.words.TheConstants.{LOCK_WORDS, LLSN_WORDS, DURABLE_WORDS, DOWN_WORDS, TURN_WORDS, WORDS}
use Rattle.mp_core.specs.declared.opening.CoreOpening.{CoreOpening}
use Rattle.mp_core.specs.declared.part.CorePart.{CorePart}
use Rattle.mp_core.specs.World.{Frame, CorePlace, of_trx, of_pages, of_down, core_start, core_part, IsCorePlace, core_index, core_content, core}
use Rattle.mp_core.specs.Invariant.{NumbersFit}
use Rattle.mp_core.proofs.Placed.{index_within}
use Rattle.atomic_table.specs.Seated.{TableId}
use Rattle.mp_shared.specs.Nodes.{Run}
use Rattle.mp_shared.specs.FirstWords.{first_word}
use Rattle.mp_shared.proofs.FirstWords.{zero_word, llsn_word_is}
use Rattle.mp_shared.specs.LockTables.{NotesLocks, NotesPart}
use Rattle.mp_shared.specs.Slots.{used_by, SlotsInOrder}
use Rattle.mp_shared.specs.KeptNodes.{IsKeptNode}

-- the words that a table may begin with: the TSO and the LLSNs begin at the base, and all else is 0
words_are : (o : CoreOpening) (a : CorePlace) → IsCorePlace a → first_word o.trx.base (core_index a) ≡ core_content o (core_start o) a
words_are o (of_trx at_tso) is = refl
words_are o (of_trx (at_slot n slot)) is = let within = trx_within (at_slot n slot) is in zero_word o.trx.base (core_index (of_trx (at_slot n slot))) (omega arith) (inl (omega (arith, within)))
words_are o (of_pages (lock_of k)) is = zero_word o.trx.base (LOCK_WORDS + k) (omega arith) (inl (omega arith))
words_are o (of_pages (turn_of k)) is = zero_word o.trx.base (TURN_WORDS + k) (omega arith) (inr (omega arith))
words_are o (of_pages (llsn_word n)) is = llsn_word_is o.trx.base (LLSN_WORDS + (n - 1)) (omega arith) (omega arith)
words_are o (of_pages (durable_word n)) is = llsn_word_is o.trx.base (DURABLE_WORDS + (n - 1)) (omega arith) (omega arith)
words_are o (of_down n) is = zero_word o.trx.base (DOWN_WORDS + (n - 1)) (omega arith) (inr (omega arith))

pub opens : (o : CoreOpening) (count : ℕ) (words : List ℕ) (slots : List Frame) → count ≡ WORDS → ((k : ℕ) → k < count → get_elem? words k ≡ some (first_word o.trx.base k)) → slots ≡ o.pages → Opens (core o) words slots
opens o count words slots all each same = record {
  words_are =
      λ a placed. let within = index_within a placed in each (core_index a) (omega (arith, within, all)) ∙ ap some (words_are o a placed);
  slots_are = ap (map some) same;
}

beyond : {P : Type 0} (part : ℕ → P) (count n : ℕ) → count ≤ n → part_in (whole part count) n ≡ None
beyond part zero n h = refl
beyond part (suc count) zero h = absurd (omega arith)
beyond part (suc count) (suc n) h = beyond (λ k. part (suc k)) count n (omega arith)

-- a node that used no slot uses them in their order
fresh_part : (o : CoreOpening) → SlotsInOrder (first_trx_part o.trx)
fresh_part o = record { few = lit≤ tt; fresh = λ slot above. refl }

below_or_above : (n m : ℕ) → (n ≤ m) ⊎ (m < n)
below_or_above zero m = inl (omega arith)
below_or_above (suc n) zero = inr (omega arith)
below_or_above (suc n) (suc m) = ⊎_elim (λ (h : n ≤ m). inl (omega arith)) (λ (h : m < n). inr (omega arith)) (below_or_above n m)

pub kept_first : (o : CoreOpening) (r : Run) (t : TableId) (parts : View CorePart) (frames : List ℕ) (used : List (Option ℕ)) (tables : List (Option (List Held))) → r.opening ≡ o → r.table_id ≡ t → NumbersFit o → parts ≡ all_parts (core o)
    → ((n : ℕ) → n ≤ o.trx.primaries → slice_index_or used n None ≡ Some 0) → ((n : ℕ) → o.trx.primaries < n → slice_index_or used n None ≡ None)
    → ((n : ℕ) → n ≤ o.trx.primaries → NotesLocks (slice_index_or tables n None) (λ _. No)) → ((n : ℕ) → o.trx.primaries < n → slice_index_or tables n None ≡ None) → IsKeptNode r t parts frames used tables
kept_first o r t parts frames used tables opening_is one fair is held others noted not_noted =
    let each = core_part (core_start o) in
    let count = o.trx.primaries + 1 in
    subst (λ v. IsKeptNode r t v frames used tables) (sym is) record {
      one = one;
      fair = subst NumbersFit (sym opening_is) fair;
      backed = subst (λ k. Backed (core k) (whole each count)) (sym opening_is) ([], tt, Agrees-whole each count);
      counted = λ n.
          ⊎_elim
          (λ (below : n ≤ o.trx.primaries). held n below ∙ ap used_by (sym (part_in-whole each count n (omega arith))))
          (λ (above : o.trx.primaries < n). others n above ∙ ap used_by (sym (beyond each count n (omega arith))))
          (below_or_above n o.trx.primaries);
      in_order = λ n p has. subst (λ (q : CorePart). SlotsInOrder q.trx) (Agrees-whole each count n p has) (fresh_part o);
      noted = λ n.
          ⊎_elim
          (λ (below : n ≤ o.trx.primaries). subst (λ (x : Option CorePart). NotesPart (slice_index_or tables n None) x) (sym (part_in-whole each count n (omega arith))) (noted n below))
          (λ (above : o.trx.primaries < n). subst (λ (x : Option CorePart). NotesPart (slice_index_or tables n None) x) (sym (beyond each count n (omega arith))) (not_noted n above))
          (below_or_above n o.trx.primaries);
      carried_out = λ n k p y has out. absurd (none_out y (ap (λ (q : CorePart). out_at q.pages.frames k) (Agrees-whole each count n p has) ∙ out));
    }
  where
    none_out : (y : Frame) → None ≡ Some y → ⊥
    none_out y e = cc
