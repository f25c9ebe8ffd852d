-- Small pools and parts, of page 1 alone.
use Rattle.std.specs.Prelude.{ℕ, Bool, false, [], ◌∷◌}
use Rattle.mp_cells.specs.declared.changes.Change.TheVariants.{MakeUndo}
use Rattle.mp_cells.specs.declared.records.Mtr.{Mtr}
use Rattle.mp_cells.specs.declared.records.Record.TheVariants as records
use Rattle.mp_cells.specs.PageView.{PageView, blank_page}
use Rattle.mp_core_pages.specs.declared.part.ContentStep.TheVariants.{Given}
use Rattle.mp_core_pages.specs.declared.part.PagesPart.{PagesPart}
use Rattle.mp_core_pages.specs.Histories.{placed}
use Rattle.mp_buffer_fusion.specs.declared.buffer.Buffer.{Buffer}

-- a buffer with a blank page of an LLSN
abbrev pub blank_buffer : ℕ → Bool → Buffer
blank_buffer llsn clean = record { number = 1; page = blank_page llsn; pinned = false; clean = clean }

-- a part that was given the page with LLSN 5
abbrev pub given_part : PagesPart PageView Mtr
given_part = record { made = []; durables = []; locks = []; frames = []; gave = []; contents = Given 1 (blank_page 5) ∷ []; given = [] }

-- the same, whose own mtr of LLSN 5 is not in the page's frame
abbrev pub owing_part : PagesPart PageView Mtr
owing_part = record given_part { made = placed 0 (record { node = 1; llsn = 5; records = records.Page 1 0 MakeUndo ∷ [] }) ∷ [] }
