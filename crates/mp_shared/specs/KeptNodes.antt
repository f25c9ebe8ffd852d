-- What is true of each node.
use Rattle.std.specs.Prelude.{◌≡◌, ℕ, List, Option, Some, None, slice_index_or}
use Rattle.atomic_table.specs.Seated.{TableId}
use Rattle.mp_machine.specs.Lists.{IsIn}
use Rattle.mp_machine.specs.View.{View, part_in}
use Rattle.mp_machine.specs.Rule.{Backed}
use Rattle.mp_core_pages.specs.declared.page_lock.Held.{Held}
use Rattle.mp_core_pages.specs.PageParts.{out_at}
use Rattle.mp_core.specs.declared.part.CorePart.{CorePart}
use Rattle.mp_core.specs.World.{Frame, core}
use Rattle.mp_core.specs.Invariant.{NumbersFit}
use Rattle.mp_shared.specs.Nodes.{Run}
use Rattle.mp_shared.specs.LockTables.{NotesPart}
use Rattle.mp_shared.specs.Slots.{used_by, SlotsInOrder}

-- each frame that a part has is among these that the node carries
abbrev pub CarriesAllOut : View CorePart → List ℕ → Type 0
CarriesAllOut parts frames = (n k : ℕ) (p : CorePart) (y : Frame) → part_in parts n ≡ Some p
    → out_at p.pages.frames k ≡ Some y → IsIn k frames

-- Its seat is at its run's table, the run's numbers fit, a world that can be reached agrees with its parts; it has
-- counted their slots and noted their locks, and it carries the frames that they have
pub record IsKeptNode (run : Run) (table_id : TableId) (parts : View CorePart) (frames : List ℕ)
    (used : List (Option ℕ)) (tables : List (Option (List Held))) : Type 0 where
  pub one : run.table_id ≡ table_id
  pub fair : NumbersFit run.opening
  pub backed : Backed (core run.opening) parts
  pub counted : (n : ℕ) → slice_index_or used n None ≡ used_by (part_in parts n)
  pub in_order : (n : ℕ) (p : CorePart) → part_in parts n ≡ Some p → SlotsInOrder p.trx
  pub noted : (n : ℕ) → NotesPart (slice_index_or tables n None) (part_in parts n)
  pub carried_out : CarriesAllOut parts frames
