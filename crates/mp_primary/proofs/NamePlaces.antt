-- Where a name stands among others.
use Rattle.std.proofs.Common.{◌≡◌, ℕ, zero, suc, ◌<◌, ◌≤◌, ◌==◌, nat_lt, Bool, true, false, cond, List, [], ◌∷◌, length, get_or, slice_get, None, Some, refl, sym, ap, ◌∙◌, inl, inr, arith, eq-eqb}
use Rattle.std.specs.List.{position, position_or_len}
use Rattle.std.proofs.lemmas.Bool.{and_from, ltb-false}
use Rattle.std.proofs.lemmas.List.Quantifiers.{position-Some}
use Rattle.std.proofs.lemmas.List.Sums.{fails_before_first}
use Rattle.std.proofs.lemmas.Option.{slice_get-get_or, get_or_from_slice_get, slice_get_within}
use mathlib.Core.Bool.{false≢true}
use Rattle.mp_machine.specs.Lists.{IsIn}
use Rattle.mp_model.specs.declared.ids.TrxName.{TrxName}
use Rattle.mp_script.specs.Transactions.{same_trx}
use Rattle.mp_script.proofs.ReplyForms.{same_trx_is}

-- what stands somewhere has a place
pub place_in : {T : Type 0} (xs : List T) (x : T) → IsIn x xs → (k : ℕ) × (slice_get xs k ≡ Some x)
place_in [] x h = absurd h
place_in (z ∷ zs) x (inl e) = (zero, ap (λ v. Some v) (sym e))
place_in (z ∷ zs) x (inr h) = let at = place_in zs x h in (suc at.0, at.1)

pub place_found : (names : List TrxName) (name : TrxName) (place : ℕ) → position (λ other. same_trx other name) names ≡ Some place → (place < length names) × (slice_get names place ≡ Some name)
place_found names name place e =
    let is = position-Some (λ (other : TrxName). same_trx other name) names place name e in
    (is.0, slice_get-get_or names place name is.0 ∙ ap (λ (n : TrxName). Some n) (same_trx_is (get_or names place name) name is.1))

pub place_there : (names : List TrxName) (name : TrxName) → IsIn name names → position (λ other. same_trx other name) names ≡ None → ⊥
place_there names name there e =
    let at = place_in names name there in
    let below = slice_get_within names at.0 name at.1 in
    let end : length names ≤ position_or_len (λ (other : TrxName). same_trx other name) names = none_below (nat_lt (position_or_len (λ (other : TrxName). same_trx other name) names) (length names)) refl e in
    let fails = fails_before_first (λ (other : TrxName). same_trx other name) names at.0 name (omega (arith, below, end)) in
    let here = get_or_from_slice_get names at.0 name name at.1 in
    false≢true (sym fails ∙ ap (λ (n : TrxName). same_trx n name) here ∙ and_from (name.session == name.session) (name.first == name.first) (eq-eqb name.session name.session refl) (eq-eqb name.first name.first refl))
  where
    none_below : (b : Bool) → nat_lt (position_or_len (λ (other : TrxName). same_trx other name) names) (length names) ≡ b → cond b (Some (position_or_len (λ (other : TrxName). same_trx other name) names)) None ≡ None → length names ≤ position_or_len (λ (other : TrxName). same_trx other name) names
    none_below true is e = absurd cc
    none_below false is e = ltb-false (position_or_len (λ (other : TrxName). same_trx other name) names) (length names) is
