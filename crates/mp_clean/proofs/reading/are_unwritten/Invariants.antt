-- the rows that are left
use Rattle.std.proofs.Common.{◌≡◌, length, drop}
use Rattle.std.specs.List.{list_all}
use Rattle.mp_clean.specs.CleanPages.{is_unwritten}
use Rattle.mp_clean.proofs.reading.are_unwritten.Given as goal

abbrev pub invariant-loop-i : goal.invariant-loop-i
invariant-loop-i l = record {
  rest : list_all is_unwritten (drop l.i l.page.rows) ≡ list_all is_unwritten l.page.rows;
  count : l.i-end ≡ length l.page.rows;
}
