-- Small desks, buffers and parts, on which the words of contracts are tried.
use Rattle.std.specs.Prelude.{ℕ, false, true, List, [], ◌∷◌, None, Some}
use Rattle.mp_model.specs.declared.waiting.NotYet.{NotYet}
use Rattle.mp_model.specs.declared.waiting.WordKind.TheVariants.{Least}
use Rattle.mp_cells.specs.declared.rows.Row.{Row}
use Rattle.mp_cells.specs.PageView.{PageView}
use Rattle.mp_cells.specs.SmallMaps.{fresh_map}
use Rattle.mp_core_trx.specs.declared.slot.SlotTag.TheVariants.{Active, Prep, Committed}
use Rattle.mp_core_trx.specs.Words.{shows}
use Rattle.mp_core_trx.specs.Parts.{begun_of}
use Rattle.mp_core_trx.specs.Events.{slot_row, with_prep, with_draw, with_end}
use Rattle.mp_core_pages.specs.declared.page_lock.Held.{Held}
use Rattle.mp_core_pages.specs.PageParts.{lock_row, pages_newcomer}
use Rattle.mp_histories.specs.Histories.{pages_after}
use Rattle.mp_histories.specs.SmallHistory.{small_put}
use Rattle.mp_core.specs.declared.part.CorePart.{CorePart}
use Rattle.mp_core.specs.Downs.{first_down_part}
use Rattle.mp_buffer_fusion.specs.declared.buffer.Buffer.{Buffer}
use Rattle.mp_supports.specs.SmallParts.{nothing_before, own_trx, older_trx, younger_trx, small_part, first_link, version_by, only_leaf, load_showing, commit_mtr, made_at_four, forced_to}
use Rattle.mp_desk.specs.declared.desk.Desk.{Desk}

-- a desk of primary 1 without an undo page and with an empty plan
abbrev pub desk_with : List Buffer → ℕ → Desk
desk_with pool llsn = record { pool = pool; llsn = llsn; undo = None; plan = []; mtr = record { node = 1; llsn = 0; records = [] } }

-- a clean buffer of a page
abbrev pub buffer_with : ℕ → PageView → Buffer
buffer_with k page = record { number = k; page = page; pinned = false; clean = true }

-- one of the root of a fresh map, an empty leaf; those of the pages that the small put changes; and one of the root behind it
abbrev pub root_buffer : Buffer
root_buffer = buffer_with 1 (fresh_map 1)

abbrev pub fresh_buffers : List Buffer
fresh_buffers = buffer_with 0 (fresh_map 0) ∷ root_buffer ∷ buffer_with 2 (fresh_map 2) ∷ []

abbrev pub put_buffer : Buffer
put_buffer = buffer_with 1 (pages_after fresh_map (small_put ∷ []) 1)

-- the part holds the lock of page 1 so, and no other
abbrev pub holding_root : Held → CorePart → CorePart
holding_root held q = record q { pages = record (q.pages) { locks = lock_row 1 held ∷ [] } }

-- a row without a writer, one that the younger transaction wrote, and one that the older one wrote
abbrev pub unwritten_row : Row
unwritten_row = version_by None None 97

abbrev pub younger_row : Row
younger_row = version_by (Some younger_trx) None 97

abbrev pub older_row : Row
older_row = version_by (Some older_trx) None 97

-- a row by which the own transaction replaces one
abbrev pub own_row : Row
own_row = version_by (Some own_trx) (Some first_link) 98

-- the part was given a leaf with the row without a writer
abbrev pub leaf_part : CorePart
leaf_part = small_part [] (only_leaf unwritten_row ∷ []) []

-- the part loaded the older transaction's slot as it showed a commit at 2
abbrev pub settled_part : CorePart
settled_part = small_part (load_showing older_trx (shows Committed 1 2) ∷ []) [] []

-- no call for a page waits for a primary's least view
abbrev pub least_wait : NotYet
least_wait = record { of = Least; at = 1; seen = 0 }

-- the part was given a leaf whose only row the younger transaction wrote, and loaded that one's slot as it showed PREP
abbrev pub preparing_part : CorePart
preparing_part = small_part (load_showing younger_trx (shows Prep 3 0) ∷ []) (only_leaf younger_row ∷ []) []

-- the same while it showed ACTIVE
abbrev pub blocked_part : CorePart
blocked_part = small_part (load_showing younger_trx (shows Active 3 0) ∷ []) (only_leaf younger_row ∷ []) []

-- the transaction is open with the view 3; then it drew 5 and its commit was recorded; then the record was durable, and
-- the slot showed the commit
abbrev pub ready_part : CorePart
ready_part = record {
  trx = record {
    opening = record { base = nothing_before; primaries = 2; begins = 3 };
    begun = begun_of own_trx 3 ∷ [];
    rows = slot_row own_trx (shows Active 2 0) ∷ [];
    drew = [];
    seen = 3 ∷ [];
    loaded = [];
  };
  pages = pages_newcomer;
  downs = first_down_part;
  ops = 0;
}

abbrev pub recorded_part : CorePart
recorded_part = record ready_part {
  trx = with_draw own_trx 5 (with_prep own_trx ready_part.trx);
  pages = record (ready_part.pages) { made = made_at_four (commit_mtr 1) };
}

abbrev pub stamped_part : CorePart
stamped_part = record (forced_to 1 recorded_part) { trx = with_end own_trx (Some 5) recorded_part.trx; ops = 1 }
