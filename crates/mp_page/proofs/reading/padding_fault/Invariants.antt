-- the bytes so far are zeros, so the first fault of all is that of the rest
use Rattle.std.proofs.Common.{◌≡◌, ◌+◌, drop}
use Rattle.mp_page.specs.Grammar.{padding_fault}
use Rattle.mp_page.proofs.reading.padding_fault.Given as goal

abbrev pub invariant-loop-byte : goal.invariant-loop-byte
invariant-loop-byte l = record {
  offset : l.offset ≡ l.place + l.byte-index;
  rest : padding_fault l.offset (drop l.byte-index l.bytes) ≡ padding_fault l.place l.bytes;
}
