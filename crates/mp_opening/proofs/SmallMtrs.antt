-- The log with one small mtr, read.
use Rattle.std.proofs.Common.{◌≡◌, [], ◌∷◌, None, refl, lit<, lit≤}
use Rattle.mp_cells.specs.Mtrs.{IsMtr}
use Rattle.mp_redo.specs.Spelling.{mtr_bytes}
use Rattle.mp_log.specs.Logs.{IsLog, IsText}
use Rattle.mp_log.specs.Readers.{log_mtrs}
use Rattle.mp_log.proofs.Given.{text_given}
use Rattle.mp_recover.specs.SmallLogs.{small_commit}
use Rattle.mp_opening.specs.SmallOpenings.{one_mtr_log}

commit_mtr : IsMtr small_commit
commit_mtr = record { node_least = lit≤ tt; node_most = lit≤ tt; llsn_least = lit≤ tt; llsn = lit< tt; records = (refl, lit≤ tt, lit< tt) }

one_log : IsLog 1 ((small_commit ∷ []) ∷ [])
unfolding mtr_bytes
one_log = record { mtrs = record { each = ((commit_mtr, refl), tt); rising = refl }; sizes = ((lit≤ tt, lit≤ tt), tt) }

one_text : IsText ((small_commit ∷ []) ∷ []) one_mtr_log
one_text = record { gate = 0; rest = []; closed = λ e. absurd cc; whole = refl }

pub one_read : log_mtrs 1 one_mtr_log ≡ (small_commit ∷ [], None)
one_read = text_given 1 ((small_commit ∷ []) ∷ []) one_mtr_log one_log one_text
