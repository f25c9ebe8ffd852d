-- The restore of the small history, by itself.
use Rattle.std.proofs.Common.{◌≡◌, ℕ, List, [], ◌∷◌, length, refl, sym, ap, subst, ◌∙◌, inl, inr, arith}
use Rattle.mp_cells.specs.declared.changes.Change.TheVariants.{RestoreRow}
use Rattle.mp_cells.specs.declared.records.Record.{Record}
use Rattle.mp_cells.specs.declared.rows.Row.{Row}
use Rattle.mp_cells.specs.SmallMaps.{fresh_map, gone_row}
use Rattle.mp_cells.specs.Plans.{Plan, plan_of}
use Rattle.mp_cells.specs.Writes.{rows_restored, WellRestore}
use Rattle.mp_histories.specs.Histories.{pages_after}
use Rattle.mp_histories.specs.SmallHistory.{small_put, small_restore}
use Rattle.mp_histories.proofs.Lists.{heads_same, nothing_there}
use Rattle.mp_histories.proofs.SmallRestores.{small_runs}

-- what a restore of one row puts back
pub row_back : (plan : Plan) (row other : Row) (page : ℕ) → plan ≡ (1, RestoreRow row) ∷ [] → plan ≡ (page, RestoreRow other) ∷ [] → row ≡ other
row_back plan row other page a b = heads_same row other [] [] (ap (λ (p : Plan). rows_restored p) (sym a ∙ b))

pub restore_well : WellRestore (pages_after fresh_map (small_put ∷ [])) (gone_row 7) (plan_of small_restore.records)
restore_well = elim (small_runs.0.kind) [
  | inl p ↦ absurd (nothing_there p.row [] p.well.puts)
  | inr (inl p) ↦ subst (λ (r : Row). WellRestore (pages_after fresh_map (small_put ∷ [])) r (plan_of small_restore.records)) (sym (row_back (plan_of small_restore.records) (gone_row 7) p.row p.well.one.0 refl p.well.one.1)) p.well
  | inr (inr p) ↦ absurd (let count = ap (λ (items : List Record). length (plan_of items)) p.alone in omega (arith, count))
]
