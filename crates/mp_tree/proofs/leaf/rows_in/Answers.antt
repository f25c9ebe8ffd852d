-- One row more, or the row is passed.
use Rattle.std.proofs.Common.{◌+◌, ◌∷◌, [], ◌++◌, drop, sym, ap, ◌∙◌, arith}
use Rattle.std.proofs.lemmas.List.{append_assoc, length_push}
use Rattle.mp_cells.specs.Rows.{IsRow}
use Rattle.mp_cells.proofs.KeyEdits.{All-append}
use Rattle.mp_tree.specs.Searches.{rows_above}
use Rattle.mp_tree.proofs.PageFacts.{row_kept, row_passed}
use Rattle.mp_tree.proofs.leaf.rows_in.Goals.{then-low-row, else-low-row}
use Rattle.mp_tree.proofs.leaf.rows_in.Goals as goal

pub loop-i-preserved : goal.loop-i-preserved
loop-i-preserved c = elim c.if-low-row.branch [
  | then-low-row w ↦
      let rest = rows_above c.args.low (drop (c.loop-i.i + 1) c.args.page.now.rows) in
      rw (w.rows-is, w.put.ensures) (record {
        rest = append_assoc c.loop-i.rows (c.row-row.result ∷ []) rest ∙ ap (λ x. c.loop-i.rows ++ x) (sym (row_kept c.args.low c.args.page.now.rows c.loop-i.i c.row-row.result c.row-row.ensures.value (omega arith))) ∙ c.loop-i.invariant.rest;
        count = c.loop-i.invariant.count;
        few = omega (arith, length_push c.loop-i.rows c.row-row.result, c.loop-i.invariant.few);
        kept = All-append IsRow c.loop-i.rows (c.row-row.result ∷ []) c.loop-i.invariant.kept (c.row-row.ensures.kept, tt);
      })
  | else-low-row w ↦
      rw w.rows-is (record {
        rest = ap (λ x. c.loop-i.rows ++ x) (sym (row_passed c.args.low c.args.page.now.rows c.loop-i.i c.row-row.result c.row-row.ensures.value (omega arith))) ∙ c.loop-i.invariant.rest;
        count = c.loop-i.invariant.count;
        few = omega (arith, c.loop-i.invariant.few);
        kept = c.loop-i.invariant.kept;
      })
]
