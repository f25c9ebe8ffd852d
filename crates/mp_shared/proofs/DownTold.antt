-- What the steps on down words tell: a number that is loaded is that of a primary, and so it fits a byte.
use Rattle.std.proofs.Common.{◌≡◌, ℕ, ◌≤◌, arith}
use mathlib.Core.Logic.{dite}
use native.Mathlib.Decide.{ℕ_discrete}
use Rattle.atomic_table.specs.Table.{Me}
use Rattle.mp_machine.specs.Machine.{run}
use Rattle.mp_machine.specs.View.{View}
use Rattle.mp_machine.specs.Rule.{MadeStep}
use Rattle.mp_core.specs.declared.opening.CoreOpening.{CoreOpening}
use Rattle.mp_core.specs.declared.part.CorePart.{CorePart}
use Rattle.mp_core.specs.declared.event.CoreEvent.TheVariants.{Down}
use Rattle.mp_core.specs.declared.event.DownEvent.TheVariants.{StoreDown, LoadDown}
use Rattle.mp_core.specs.Downs.{goes_down_by, with_down_load}
use Rattle.mp_core.specs.World.{Frame, CoreWorld, core}
use Rattle.mp_core.specs.Invariant.{NumbersFit, CoreInv}
use Rattle.mp_core.proofs.Law.{law}
use Rattle.mp_shared.specs.Nodes.{NodeView, Took, TookUnseen}
use Rattle.mp_shared.specs.DownSteps.{with_downs}

-- whoever is down is so with the number of a primary
pub down_most : (o : CoreOpening) → NumbersFit o → (w : CoreWorld) → CoreInv o w → (n : ℕ) → (w.downs n).own ≤ 8
down_most o fair w i n =
    dite (ℕ_discrete (w.downs n).own 0)
    (λ up. omega arith)
    (λ down. let node = (i.downs.held n down).0 in let most = fair.trx.some_primaries.1 in omega arith)

pub loaded_most : (o : CoreOpening) → NumbersFit o → (p of : ℕ) (before after : Me Frame (View CorePart)) (found : ℕ) → MadeStep (core o) (Down (LoadDown p of)) before found after → found ≤ 8
loaded_most o fair p of before after found told =
    let came = told.4 in
    let small = down_most o fair (run (core o) came.events) (law o fair came.events came.allowed.1) of in
    omega (arith, small, came.found_is)

module _ (n later : NodeView) (p : ℕ) where
  pub down_by : (by : ℕ) → TookUnseen (Down (StoreDown p by)) n later → later ≡ with_downs n p (goes_down_by by) 1
  down_by by t = t.1.becomes

  pub down_loaded_by : (of found : ℕ) → Took (Down (LoadDown p of)) n found later → later ≡ with_downs n p (with_down_load of found) 1
  down_loaded_by of found t = t.becomes
