use Rattle.std.proofs.Common.{◌≡◌, ℕ}
use Rattle.mp_core_trx.specs.declared.event.TrxEvent.TheVariants.{StorePrep}
use Rattle.mp_core.specs.declared.event.CoreEvent.TheVariants.{Trx}
use Rattle.mp_shared.specs.Nodes.{MayTake, Reached}
use Rattle.mp_trx_fusion.specs.Calls.{MayBeginTrx, MayLook}
use Rattle.mp_trx_fusion.specs.CommitLogs.{LogEndsAt}
use Rattle.mp_trials.proofs.commits.look_often.Given as goal

-- a look takes nothing away
abbrev pub invariant-loop : goal.invariant-loop
invariant-loop l = (l.node.run ≡ l.shared) × (l.node.frames ≡ l.fn.node.frames) × Reached l.node × MayLook l.node l.p l.id × MayTake (Trx (StorePrep l.p l.id)) l.node × ((other : ℕ) → MayBeginTrx l.fn.node l.p other → MayBeginTrx l.node l.p other) × ((llsn version : ℕ) → LogEndsAt l.fn.node l.p llsn version → LogEndsAt l.node l.p llsn version)
