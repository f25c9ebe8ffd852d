-- the count so far, of at most eight bits a byte
use Rattle.std.proofs.Common.{◌≡◌, ◌*◌, ◌≤◌, take}
use Rattle.mp_cells.specs.PageView.{bits_set}
use Rattle.mp_page.proofs.reading.bits_set.Given as goal

abbrev pub invariant-loop-byte : goal.invariant-loop-byte
invariant-loop-byte l = record {
  count : l.set ≡ bits_set (take l.byte-index l.bits);
  most : l.set ≤ 8 * l.byte-index;
}
