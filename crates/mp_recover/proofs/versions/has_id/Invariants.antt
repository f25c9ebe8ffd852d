-- It is among those behind, or not among any.
use Rattle.std.proofs.Common.{◌≡◌, drop, Some}
use Rattle.mp_recover.specs.Settled.{is_counted}
use Rattle.mp_recover.specs.Settling.{trx_ids}
use Rattle.mp_recover.proofs.versions.has_id.Given as goal

abbrev pub invariant-loop-commit : goal.invariant-loop-commit
invariant-loop-commit l = is_counted (trx_ids (drop l.commit-index l.commits)) (Some l.id) ≡ is_counted (trx_ids l.commits) (Some l.id)
