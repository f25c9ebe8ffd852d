-- One row more.
use Rattle.std.proofs.Common.{◌≤◌, [], ◌∷◌, length, sym, subst, arith}
use Rattle.std.specs.List.{AllByRecursion}
use Rattle.mp_cells.specs.Rows.{IsRow}
use Rattle.mp_cells.specs.PageMaps.{page_at}
use Rattle.mp_cells.specs.Writes.{undo_at}
use Rattle.mp_cells.proofs.KeyEdits.{All-append}
use Rattle.mp_recover.specs.Settling.{trx_ids}
use Rattle.mp_recover.proofs.SettledPages.{leaf_count, leaf_most, cells_next, cells_room}
use Rattle.mp_recover.proofs.versions.settled_cells.Goals as goal

pub put-requires : goal.put-requires
put-requires c =
    let count = leaf_count c.args.page.now c.requires.leaf in
    let within : c.loop-i.i ≤ length c.args.page.now.rows = omega (arith, c.loop-i.auto.i-end, c.count-i-end.ensures, count) in
    let room = cells_room (trx_ids c.args.ids.now.items) (undo_at (page_at c.args.pages.now.items)) c.args.page.now.rows c.loop-i.cells c.loop-i.i c.loop-i.invariant.settled within in
    omega (arith, room, c.loop-i-test.true, c.count-i-end.ensures, count, leaf_most c.args.page.now c.requires.page c.requires.leaf)

pub loop-i-preserved : goal.loop-i-preserved
loop-i-preserved c = record {
  settled = cells_next (trx_ids c.args.ids.now.items) (undo_at (page_at c.args.pages.now.items)) c.args.page.now.rows c.loop-i.cells c.put.new.self c.loop-i.i c.row.result c.settled_row.result c.row.ensures.value c.loop-i.invariant.settled c.settled_row.ensures.settled c.put.ensures;
  rows = subst (AllByRecursion IsRow) (sym c.put.ensures) (All-append IsRow c.loop-i.cells (c.settled_row.result ∷ []) c.loop-i.invariant.rows (c.settled_row.ensures.kept, tt));
}
