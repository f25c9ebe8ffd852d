use Rattle.std.proofs.Common.{◌≡◌, ◌++◌, drop}
use Rattle.mp_book.specs.Orderly.{session_lines}
use Rattle.mp_book.proofs.session.Session.new.Given as goal

abbrev pub invariant-loop-line : goal.invariant-loop-line
invariant-loop-line l = l.own.items ++ session_lines l.number (drop l.line-index l.lines) ≡ session_lines l.number l.lines
