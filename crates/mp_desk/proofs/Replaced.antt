-- The newest version of a key, as the buffer of its leaf shows it: in each world it is the key's row, and its writer stands.
use Rattle.std.proofs.Common.{◌≡◌, ℕ, ◌+◌, ◌≤◌, List, [], ◌∷◌, length, Some, refl, sym, ap, subst, ◌∙◌, inl, inr, ⊎_elim, arith}
use Rattle.mp_machine.specs.Lists.{IsIn}
use Rattle.mp_machine.specs.View.{part_in, ViewAgrees}
use Rattle.mp_model.specs.declared.ids.TrxId.{TrxId}
use Rattle.mp_cells.specs.declared.rows.Row.{Row}
use Rattle.mp_cells.specs.PageView.{PageView}
use Rattle.mp_cells.specs.Trees.{row_at, height_of}
use Rattle.mp_cells.specs.Writes.{version_of}
use Rattle.mp_cells.proofs.Places.{row_in_leaf}
use Rattle.mp_cells.proofs.Spare.{with_none}
use Rattle.mp_plans.specs.Fitting.{IsLeafOf}
use Rattle.mp_core_trx.specs.declared.part.Begun.{Begun}
use Rattle.mp_core_trx.specs.declared.slot.Shown.{Shown}
use Rattle.mp_core_trx.specs.declared.slot.SlotTag.TheVariants.{Free}
use Rattle.mp_core_trx.specs.Words.{shows as shown_tag}
use Rattle.mp_core_trx.specs.Parts.{shown_at, HasBegun}
use Rattle.mp_core_trx.specs.World.{begun_in, slot_rows_in}
use Rattle.mp_histories.specs.Histories.{Version, rows_of_versions, live_on}
use Rattle.mp_histories.specs.Chains.{row_over, row_of_key, HasChains}
use Rattle.mp_histories.proofs.CleanRows.{clean_plain}
use Rattle.mp_histories.proofs.Lists.{none_some, some_same}
use Rattle.mp_histories.proofs.Standing.{has_chains}
use Rattle.mp_core.specs.declared.opening.CoreOpening.{CoreOpening}
use Rattle.mp_core.specs.declared.part.CorePart.{CorePart}
use Rattle.mp_core.specs.World.{CoreWorld, core_part}
use Rattle.mp_facts.specs.Facts.{opening_pages, pages_now, Facts}
use Rattle.mp_shared.specs.Nodes.{Run, NodeView}
use Rattle.mp_shared.proofs.Holding.{held_part}
use Rattle.mp_buffer_fusion.specs.declared.buffer.Buffer.{Buffer}
use Rattle.mp_buffer_fusion.specs.declared.pool.TheConstants.{BUFFERS}
use Rattle.mp_buffer_fusion.specs.Buffers.{buffer_of}
use Rattle.mp_supports.specs.Supports.{IsBlocked}
use Rattle.mp_desk.specs.declared.desk.Desk.{Desk}
use Rattle.mp_desk.specs.declared.halts.WriteHalt.{WriteHalt}
use Rattle.mp_desk.specs.declared.halts.WriteHalt.TheVariants as halts
use Rattle.mp_desk.specs.Desks.{IsAtDesk, IsReadAfresh, KeepsDesk, AreGivenSince, Brings, HasSameWork, HasLeaf, IsWayTo}
use Rattle.mp_desk.specs.Statements.{LooksOn}
use Rattle.mp_desk.specs.Writes.{ShowsReplaced, HasUnfreedWriter, ShowsWriter, Withstands, HaltsWrite}
use Rattle.mp_desk.proofs.ReachedFacts.{known_content}
use Rattle.mp_desk.proofs.AtDesk.{buffer_in}
use Rattle.mp_desk.proofs.HeldPlans.{way_kept}
use Rattle.mp_desk.proofs.Looking.{look_brings, look_dropped, look_both, given_part}

-- more buffers show it too
pub replaced_kept : (old new : Desk) → KeepsDesk old new → (key : ℕ) (row : Row) → ShowsReplaced old.pool key row → ShowsReplaced new.pool key row
replaced_kept old new kept key row h =
    let now = kept.buffers h.number h.leaf h.buffer in
    record {
      number = h.number;
      leaf = now.0;
      buffer = now.1;
      its_leaf = subst (IsLeafOf key) (sym now.2) h.its_leaf;
      row_is = h.row_is ∙ ap (λ (y : PageView). version_of key (row_at key y.rows)) (sym now.2);
      way = way_kept old new kept key h.number h.way;
    }

module _ (run : Run) (desk : Desk) (p : ℕ) (n : NodeView) (at : IsAtDesk run desk p n) (key : ℕ) (row : Row) (shows : ShowsReplaced desk.pool key row) where
  abbrev o : CoreOpening
  o = n.run.opening

  module _ (w : CoreWorld) (facts : Facts o w) (known : ViewAgrees (core_part w) n.parts) where
    chains : HasChains (opening_pages o) w.pages.history
    chains = has_chains o.trx.base.llsn (opening_pages o) at.reached.fair.clean w.pages.history facts.of_versions.runs

    pub replaced_row : row ≡ row_of_key (pages_now o w) key
    replaced_row =
        let has = held_part n p at.part in
        let page = known_content n p has.0 has.1 w facts known shows.number (shows.leaf).page ((at.agrees has.0 has.1).pool.shows shows.number shows.leaf shows.buffer) in
        let leaf : IsLeafOf key (pages_now o w shows.number) = subst (IsLeafOf key) page.1 shows.its_leaf in
        shows.row_is ∙ ap (λ (y : PageView). version_of key (row_at key y.rows)) page.1
        ∙ ap (version_of key) (sym (row_in_leaf [] (pages_now o w) (height_of (pages_now o w)) shows.number key (with_none (pages_now o w) (height_of (pages_now o w)) chains.tree) page.0 leaf.kind leaf.from leaf.until))

    writer_stands : (vs : List Version) → ((v : Version) → IsIn v vs → IsIn v (live_on key w.pages.history)) → row ≡ row_over (rows_of_versions vs) (row_of_key (opening_pages o) key) → (id : TrxId) → row.writer ≡ Some id
        → HasBegun (begun_in w.trx id.node) id × ¬ (shown_at (slot_rows_in w.trx id.node) id.slot ≡ shown_tag Free id.version 0)
    writer_stands [] all is id written =
        let plain = (clean_plain o.trx.base.llsn (opening_pages o) at.reached.fair.clean key).0 in
        absurd (none_some id (sym plain ∙ ap (λ (r : Row). r.writer) (sym is) ∙ written))
    writer_stands (v ∷ vs) all is id written = facts.of_present.writers key v id (all v (inl refl)) (ap (λ (r : Row). r.writer) (sym is) ∙ written)

  pub replaced_writer : HasUnfreedWriter n row
  replaced_writer id written w facts known = writer_stands w facts known (live_on key w.pages.history) (λ v there. there) (replaced_row w facts known ∙ (chains w facts known).head key) id written

-- a writer that withstands blocks the key
pub replaced_blocks : (start r : CorePart) (pool : List Buffer) (key : ℕ) (row : Row) → AreGivenSince start r pool → ShowsReplaced pool key row → (own id : TrxId) (x : Shown) → ShowsWriter r own row id x → IsBlocked r own key id x
replaced_blocks start r pool key row given shows own id x h =
    let g = (given shows.leaf (buffer_in pool shows.number shows.leaf shows.buffer).0).1 in
    record {
      leaf = g.0;
      newest = row;
      its_newest = record {
        given = g.1.given;
        its_leaf = subst (IsLeafOf key) (sym g.1.page_is) shows.its_leaf;
        newest_is = shows.row_is ∙ ap (λ (y : PageView). version_of key (row_at key y.rows)) (sym g.1.page_is);
      };
      writer = h.writer;
      other = h.other;
      load = h.load;
      is_load = h.is_load;
      shown = h.shown;
    }

module _ (p : ℕ) (trx : Begun) (key : ℕ) (before after : NodeView) (pool : List Buffer) (row : Row) (shows : ShowsReplaced pool key row) (given : (r : CorePart) → part_in after.parts p ≡ Some r → (start : CorePart) × AreGivenSince start r pool)
    (some : (r : CorePart) × (part_in after.parts p ≡ Some r)) where
  pub halts_withstood : (halt : WriteHalt) → ((r : CorePart) → part_in after.parts p ≡ Some r → Withstands r trx row halt) → HaltsWrite p trx key before after halt
  halts_withstood (halts.Word wait) stops = absurd (stops some.0 some.1)
  halts_withstood (halts.Writer id) stops = λ r there.
      let h = stops r there in
      let g = given r there in
      (⊎_elim (λ active. inl (replaced_blocks g.0 r pool key row g.1 shows trx.id id _ active)) (λ prep. inr (replaced_blocks g.0 r pool key row g.1 shows trx.id id _ prep)) h.0, h.1)
  halts_withstood (halts.Conflict id cts) stops = λ r there.
      let h = stops r there in
      let g = given r there in
      (replaced_blocks g.0 r pool key row g.1 shows trx.id id _ h.0, h.1)
  halts_withstood (halts.Held id) stops = λ r there.
      let h = stops r there in
      let g = given r there in
      (⊎_elim (λ active. inl (replaced_blocks g.0 r pool key row g.1 shows trx.id id _ active)) (λ prep. inr (replaced_blocks g.0 r pool key row g.1 shows trx.id id _ prep)) h.0, h.1)
  halts_withstood halts.Full stops = absurd (stops some.0 some.1)
  halts_withstood halts.Failed stops = absurd (stops some.0 some.1)

-- ---- on the way to it

module _ (run : Run) (p : ℕ) (old mid led : Desk) (a b : NodeView) (at : IsAtDesk run old p a) (afresh : IsReadAfresh old p a) (dropped : mid ≡ record old { pool = mid.pool })
    (room : (start q : CorePart) → AreGivenSince start q old.pool → AreGivenSince start q mid.pool × (length mid.pool + 32 ≤ BUFFERS)) (leads : Brings 3 p mid led a b) (work : HasSameWork mid led) where
  has_room : length mid.pool + 32 ≤ BUFFERS
  has_room = let q = given_part run p old a at afresh in (room q.0 q.1 q.2).1

  pub led_looks : LooksOn p old led a b
  led_looks = look_both p old mid led a a b (look_dropped p old mid a dropped room) (look_brings p 3 mid led a b leads work)

  pub led_llsn : old.llsn ≤ led.llsn
  led_llsn = let same = ap (λ (d : Desk). d.llsn) dropped in let more = leads.desk.llsn in omega (arith, same, more)

  pub led_room : length led.pool + 29 ≤ BUFFERS
  led_room = let some = has_room in let few = leads.few in omega (arith, some, few)

  module _ (new : Desk) (c : NodeView) (takes : Brings 1 p led new b c) (more : HasSameWork led new) where
    pub took_looks : LooksOn p old new a c
    took_looks = look_both p old led new a b c led_looks (look_brings p 1 led new b c takes more)

    pub took_llsn : old.llsn ≤ new.llsn
    took_llsn = let first = led_llsn in let second = takes.desk.llsn in omega (arith, first, second)

    pub took_room : length new.pool + 22 ≤ BUFFERS
    took_room = let some = led_room in let few = takes.few in omega (arith, some, few)

    module _ (key number : ℕ) (leaf : HasLeaf led p key number b) (way : IsWayTo led.pool key number) (x : Buffer) (is : buffer_of new.pool number ≡ Some x) where
      pub took_leaf : IsLeafOf key x.page
      took_leaf =
          let now = takes.desk.buffers number leaf.leaf leaf.buffer in
          let one : now.0 ≡ x = some_same now.0 x (sym now.1 ∙ is) in
          subst (IsLeafOf key) (sym now.2 ∙ ap (λ (y : Buffer). y.page) one) leaf.its_leaf

      pub took_shows : (page : PageView) → page ≡ x.page → (row : Row) → row ≡ version_of key (row_at key page.rows) → ShowsReplaced new.pool key row
      took_shows page same row row_is = record {
        number = number;
        leaf = x;
        buffer = is;
        its_leaf = took_leaf;
        row_is = row_is ∙ ap (λ (y : PageView). version_of key (row_at key y.rows)) same;
        way = way_kept led new takes.desk key number way;
      }
