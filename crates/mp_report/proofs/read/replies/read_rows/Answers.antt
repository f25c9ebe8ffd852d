-- The words in front are read as rows, where there are so many.
use Rattle.std.proofs.Common.{sym, arith}
use Rattle.mp_report.proofs.RowsOf.{found_rows, rows_short}
use Rattle.mp_report.proofs.read.replies.read_rows.Goals as goal

pub returns-then-words-count : goal.returns-then-words-count
returns-then-words-count c = sym (rows_short c.args.count c.args.words.now (omega arith))

pub returns-in-Some : goal.returns-in-Some
returns-in-Some c =
    rw c.in-Some.is at (found_rows c.args.count c.args.words.now c.split_at.result.0.now c.split_at.result.1.now c.in_ok-rows.field-0 (omega (arith, c.if-words-count.false)) c.split_at.ensures.front c.split_at.ensures.back c.in_ok-rows.ensures)

pub returns-in-None : goal.returns-in-None
returns-in-None c =
    rw c.in-None.is at (found_rows c.args.count c.args.words.now c.split_at.result.0.now c.split_at.result.1.now c.in_ok-rows.field-0 (omega (arith, c.if-words-count.false)) c.split_at.ensures.front c.split_at.ensures.back c.in_ok-rows.ensures)
