-- What may come first in a run over a fresh store.
use Rattle.std.proofs.Common.{◌≡◌, ℕ, ◌+◌, ◌<◌, ◌≤◌, List, sym, subst, ap, arith}
use Rattle.mp_model.specs.declared.ids.TrxId.{TrxId}
use Rattle.mp_core_trx.specs.declared.opening.TheConstants.{SLOTS}
use Rattle.mp_core_trx.specs.Events.{IsNode}
use Rattle.mp_cells.specs.PageView.{PageView}
use Rattle.mp_core.specs.declared.opening.CoreOpening.{CoreOpening}
use Rattle.mp_shared.specs.Nodes.{Run, NodeView, first_node}
pub use Rattle.mp_shared.proofs.FreshStores.{over_fresh, fresh_fits}
use Rattle.mp_trx_fusion.specs.Calls.{MayBeginTrx, MayLook}
use Rattle.mp_trx_fusion.specs.CommitLogs.{LogEndsAt}
use Rattle.mp_trx_fusion.proofs.Callers.{may_begin_first, may_look_first, log_first}

module _ (primaries begins : ℕ) (pages : List PageView) (r : Run) (node : NodeView) (opening_is : r.opening ≡ over_fresh primaries begins pages) (node_is : node ≡ first_node r) where
  of_fresh : (P : CoreOpening → Type 0) → P (over_fresh primaries begins pages) → P r.opening
  of_fresh P h = subst P (sym opening_is) h

  -- a primary may begin with each version of the run
  pub may_begin_fresh : (p version : ℕ) → 1 ≤ p → p ≤ primaries → 0 < version → version ≤ begins → MayBeginTrx node p version
  may_begin_fresh p version low high above within =
      subst (λ n. MayBeginTrx n p version) (sym node_is)
      (may_begin_first r p (of_fresh (λ o. IsNode o.trx p) (low, high)) version (of_fresh (λ o. o.trx.base.version < version) above) (of_fresh (λ o. version ≤ o.trx.base.version + o.trx.begins) (omega arith)))

  -- and look at each slot of each primary
  pub may_look_fresh : (p : ℕ) (id : TrxId) → 1 ≤ p → p ≤ primaries → (1 ≤ id.node) × (id.node ≤ primaries) → id.slot < SLOTS → MayLook node p id
  may_look_fresh p id low high of_node slot =
      subst (λ n. MayLook n p id) (sym node_is)
      (may_look_first r p (of_fresh (λ o. IsNode o.trx p) (low, high)) id (of_fresh (λ o. IsNode o.trx id.node) of_node) slot)

  -- and its log is empty
  pub log_fresh : (p : ℕ) → 1 ≤ p → p ≤ primaries → LogEndsAt node p 0 0
  log_fresh p low high = subst (λ n. LogEndsAt n p 0 0) (sym node_is) (log_first r p (of_fresh (λ o. IsNode o.trx p) (low, high)) (ap (λ (o : CoreOpening). o.trx.base.llsn) opening_is))
