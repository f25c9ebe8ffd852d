-- What can't be, on which the bad examples end.
use Rattle.std.proofs.Common.{◌≡◌, ◌≢◌, ℕ, Bool, true, false, List, [], ◌∷◌, ◌++◌, Option, None, Some, refl, ap, arith}
use Rattle.mp_cells.specs.declared.records.Mtr.{Mtr}
use Rattle.mp_core_trx.specs.declared.part.Begun.{Begun}
use Rattle.mp_book.specs.declared.stage.Stage.{Stage}
use Rattle.mp_book.specs.declared.stage.Stage.TheVariants.{Closed, Open, Leaving, Skipping, Outside}
use Rattle.mp_log.specs.Logs.{IsText}
use Rattle.mp_primary.specs.SmallPrimaries.{gate_alone}

pub not_true : false ≡ true → ⊥
not_true e = cc

pub not_false : true ≡ false → ⊥
not_false e = cc

pub one_is_none : {T : Type 0} (x : T) (xs : List T) → x ∷ xs ≡ [] → ⊥
one_is_none x xs e = cc

pub something_is_none : {T : Type 0} (x : T) → Some x ≡ None → ⊥
something_is_none x e = cc

pub only_item : {T : Type 0} (x y : T) → x ∷ [] ≡ y ∷ [] → x ≡ y
only_item x y e = cc

pub closed_not_open : (trx : Begun) → Closed ≡ Open trx → ⊥
closed_not_open trx e = cc

pub closed_not_outside : (trx : Option Begun) → Closed ≡ Outside trx → ⊥
closed_not_outside trx e = cc

pub skipping_not_closed : Skipping ≡ Closed → ⊥
skipping_not_closed e = cc

pub leaving_not_outside : (trx : Begun) (other : Option Begun) → Leaving trx ≡ Outside other → ⊥
leaving_not_outside trx other e = cc

pub open_not_outside : (trx : Begun) (other : Option Begun) → Open trx ≡ Outside other → ⊥
open_not_outside trx other e = cc

pub outside_not_open : (trx : Option Begun) (other : Begun) → Outside trx ≡ Open other → ⊥
outside_not_open trx other e = cc

pub outside_is : (trx other : Option Begun) → Outside trx ≡ Outside other → trx ≡ other
outside_is trx other e = cc

abbrev first_byte : List ℕ → ℕ
first_byte [] = 0
first_byte (x ∷ xs) = x

-- the text of no batch begins with a closed gate
pub no_batch : (batches : List (List Mtr)) → IsText batches gate_alone → batches ≡ []
no_batch [] text = refl
no_batch (batch ∷ batches) text = let other : 42 ≡ 165 = ap first_byte text.whole in absurd (omega (arith, other))
