-- An undo record that lies at a link is in the page that was brought for it.
use Rattle.std.proofs.Common.{◌≡◌, ℕ, Bool, true, false, if◌then◌else◌, List, slice_get, None, Some, sym, ap, ◌∙◌}
use Rattle.mp_machine.specs.View.{part_in}
use Rattle.mp_cells.specs.declared.kinds.Kind.TheVariants.{Undo}
use Rattle.mp_cells.specs.declared.rows.Link.{Link}
use Rattle.mp_cells.specs.declared.rows.Row.{Row}
use Rattle.mp_cells.specs.PageView.{PageView, is_of}
use Rattle.mp_cells.specs.Writes.{record_in, undo_at}
use Rattle.mp_core.specs.declared.part.CorePart.{CorePart}
use Rattle.mp_facts.specs.Facts.{pages_now}
use Rattle.mp_shared.specs.Nodes.{Run, NodeView}
use Rattle.mp_shared.proofs.Holding.{held_part}
use Rattle.mp_buffer_fusion.specs.declared.buffer.Buffer.{Buffer}
use Rattle.mp_buffer_fusion.specs.Buffers.{buffer_of}
use Rattle.mp_supports.specs.Steps.{OnlyLooked}
use Rattle.mp_desk.specs.declared.desk.Desk.{Desk}
use Rattle.mp_desk.specs.Desks.{IsAtDesk, Brings, IsReadAfresh, LiesAt, IsRecordAt, Moves}
use Rattle.mp_desk.proofs.Moving.{looks_go}
use Rattle.mp_desk.proofs.ReachedFacts.{known_world, world_shows, shown_buffer}
use Rattle.mp_desk.proofs.AtDesk.{buffer_in}

module _ (run : Run) (desk : Desk) (p : ℕ) (a b : NodeView) (at : IsAtDesk run desk p b) (looked : Moves OnlyLooked p a b) (link : Link) (lies : LiesAt p a link) (buffer : Buffer) (is : buffer_of desk.pool link.page ≡ Some buffer) where
  -- the record is there
  pub record_lies : (row : Row) × (record_in buffer.page link.index ≡ Some row)
  record_lies =
      let known = known_world b at.reached in
      let has = held_part b p at.part in
      let pages = pages_now b.run.opening known.world in
      let there = lies b (looks_go p a b looked) known.world known.facts known.agrees in
      let page : pages link.page ≡ buffer.page =
      world_shows b p has.0 has.1 desk.pool (at.agrees has.0 has.1).pool known.world known.facts known.agrees link.page buffer.page (shown_buffer desk.pool link.page buffer is) in
      (there.0, ap (λ (y : PageView). record_in y link.index) (sym page) ∙ ap (λ (r : Run). undo_at (pages_now r.opening known.world) link) looked.run ∙ there.1)

-- a record is a row of its page
undo_row : (t : Bool) (rows : List Row) (index : ℕ) (row : Row) → (if t then slice_get rows index else None) ≡ Some row → slice_get rows index ≡ Some row
undo_row true rows index row e = e
undo_row false rows index row e = absurd cc

pub record_row : (page : PageView) (index : ℕ) (row : Row) → record_in page index ≡ Some row → slice_get page.rows index ≡ Some row
record_row page index row e = undo_row (is_of Undo page) page.rows index row e

pub same_record : (page : PageView) (index : ℕ) (row other : Row) → record_in page index ≡ Some row → slice_get page.rows index ≡ Some other → record_in page index ≡ Some other
same_record page index row other e there = e ∙ sym (record_row page index row e) ∙ there

-- and it was given since
pub record_given : (p : ℕ) (old new : Desk) (a b : NodeView) → IsReadAfresh old p a → Brings 1 p old new a b → (link : Link) (row : Row) (buffer : Buffer) → buffer_of new.pool link.page ≡ Some buffer → record_in buffer.page link.index ≡ Some row
    → (has : (q : CorePart) × (part_in a.parts p ≡ Some q)) → (r : CorePart) → part_in b.parts p ≡ Some r → IsRecordAt r link row
record_given p old new a b afresh brings link row buffer is lies has r there =
    let since = afresh has.0 has.1 in
    let stands = buffer_in new.pool link.page buffer is in
    let given = brings.given since.0 has.0 r has.1 since.1 since.2 there buffer stands.0 in
    record {
      page = given.1.0;
      given = given.1.1.given;
      number = given.1.1.number ∙ stands.1;
      row_is = ap (λ (y : PageView). record_in y link.index) given.1.1.page_is ∙ lies;
    }
