-- The steps that are left lead from here to where all of them lead.
use Rattle.std.proofs.Common.{◌≡◌, ℕ, ◌+◌}
use Rattle.mp_cells.specs.Rows.{IsRow}
use Rattle.mp_cells.specs.PageMaps.{page_at}
use Rattle.mp_cells.specs.Writes.{undo_at}
use Rattle.mp_recover.specs.Settling.{trx_ids, steps_down, most_steps}
use Rattle.mp_recover.proofs.versions.counted_version.Given as goal

abbrev pub invariant-loop-step : goal.invariant-loop-step
invariant-loop-step l =
    IsRow l.version
    × ((left : ℕ) × (l._step + left ≡ 65537) × (steps_down left (trx_ids l.ids.items) (undo_at (page_at l.pages.items)) l.version ≡ steps_down most_steps (trx_ids l.ids.items) (undo_at (page_at l.pages.items)) l.initial.version))
