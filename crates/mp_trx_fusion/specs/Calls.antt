-- What each call makes of its primary's part, and what its caller may rely on.
use Rattle.std.specs.Prelude.{◌≡◌, ℕ, ◌+◌, ◌<◌, ◌≤◌, List, Option, Some, None}
use Rattle.mp_machine.specs.Machine.{run, AllAllowed}
use Rattle.mp_machine.specs.View.{part_in, ViewAgrees}
use Rattle.mp_model.specs.declared.ids.TrxId.{TrxId}
use Rattle.mp_model.specs.declared.waiting.NotYet.{NotYet}
use Rattle.mp_model.specs.declared.waiting.WordKind.TheVariants.{Least}
use Rattle.mp_core_trx.specs.declared.opening.TheConstants.{SLOTS}
use Rattle.mp_core_trx.specs.declared.part.Begun.{Begun}
use Rattle.mp_core_trx.specs.declared.part.TrxPart.{TrxPart}
use Rattle.mp_machine.specs.Lists.{IsIn}
use Rattle.mp_core_trx.specs.Parts.{newest, drawn_by_all}
use Rattle.mp_core_trx.specs.Events.{IsNode, with_seen, with_begun}
use Rattle.mp_core.specs.declared.part.CorePart.{CorePart}
use Rattle.mp_core.specs.declared.event.CoreEvent.{CoreEvent}
use Rattle.mp_core.specs.World.{core_part, core}
use Rattle.mp_shared.specs.Nodes.{NodeView, node_with}

-- the node after a change of the transactions of one primary, by so many operations on words
abbrev pub with_trx : NodeView → ℕ → (TrxPart → TrxPart) → ℕ → NodeView
with_trx n p f steps = node_with n p (λ q. record q { trx = f q.trx; ops = q.ops + steps })

-- the part saw the timestamp oracle at a transaction's view, and began the transaction
abbrev pub with_begin : Begun → TrxPart → TrxPart
with_begin b p = with_begun b (with_seen b.view p)

-- the part of the primary knows no timestamp above this one
abbrev pub Knows : NodeView → ℕ → ℕ → Type 0
Knows n p v = (q : CorePart) → part_in n.parts p ≡ Some q → newest q.trx ≤ v

abbrev pub KnowsLess : NodeView → ℕ → ℕ → Type 0
KnowsLess n p v = (q : CorePart) → part_in n.parts p ≡ Some q → newest q.trx < v

abbrev pub trx_in : Option CorePart → Option TrxPart
trx_in (Some q) = Some q.trx
trx_in None = None

-- the base and all timestamps that the parts which the node holds drew
abbrev pub tso_of : NodeView → ℕ
tso_of n = n.run.opening.trx.base.ts + drawn_by_all n.run.opening.trx (λ k. trx_in (part_in n.parts k))

-- the timestamp is one more than the TSO was, in some world that can be reached and agrees with what the node knew
abbrev pub IsNextTimestamp : NodeView → ℕ → Type 0
IsNextTimestamp n cts = (events : List CoreEvent) × AllAllowed (core n.run.opening) events × ViewAgrees (core_part (run (core n.run.opening) events)) n.parts × (cts ≡ (run (core n.run.opening) events).trx.tso + 1)

-- The primary may begin a transaction with this version
pub record MayBeginTrx (n : NodeView) (p version : ℕ) : Type 0 where
  pub mine : CorePart
  pub holds : part_in n.parts p ≡ Some mine
  pub node : IsNode mine.trx.opening p
  pub above : mine.trx.opening.base.version < version
  pub within : version ≤ mine.trx.opening.base.version + mine.trx.opening.begins
  pub fresh : (b : Begun) → IsIn b mine.trx.begun → ¬ (b.id.version ≡ version)

-- the primary may look where the transaction stands: there is its primary, and its slot
abbrev pub MayLook : NodeView → ℕ → TrxId → Type 0
MayLook n p id = (q : CorePart) × (part_in n.parts p ≡ Some q) × IsNode q.trx.opening p × IsNode q.trx.opening id.node × (id.slot < SLOTS)

-- what a begin answers where all slots of the primary were used: it waits for the primary's least view
abbrev pub no_slot_for : ℕ → NotYet
no_slot_for p = record { of = Least; at = p; seen = 0 }
