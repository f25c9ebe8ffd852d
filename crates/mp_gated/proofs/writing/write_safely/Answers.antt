-- A sync leaves what was written.
use Rattle.mp_gated.proofs.writing.write_safely.Goals as goal

pub returns-clause-in_part : goal.returns-clause-in_part
returns-clause-in_part g c = λ tells. rw (c.sync.ensures.quiet.same) (c.in_ok-write_at.ensures.in_part tells)
