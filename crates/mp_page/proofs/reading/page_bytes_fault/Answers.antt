-- A header without a fault has a count of its kind.
use Rattle.std.proofs.Common.{sym}
use Rattle.mp_page.proofs.Checks.{header_sound}
use Rattle.mp_page.proofs.reading.page_bytes_fault.Goals as goal

pub body_fault-requires-clause-count : goal.body_fault-requires-clause-count
body_fault-requires-clause-count c = (header_sound c.args.bytes.now (sym c.in-None.ensures)).count
