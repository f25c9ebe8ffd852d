-- What is written among the first statements of a transaction.
use Rattle.std.proofs.Common.{◌≡◌, ℕ, suc, zero, ◌+◌, ◌<◌, ◌||◌, Bool, true, false, refl, sym, ap, ◌∙◌, inl, inr, arith, eq-eqb}
use Rattle.std.proofs.lemmas.Bool.{cases_Bool, cases_lt}
use mathlib.Core.Bool.{false≢true}
use Rattle.mp_model.specs.declared.ids.TrxName.{TrxName}
use Rattle.mp_script.specs.Execution.{Execution}
use Rattle.mp_script.specs.Transactions.{is_number, wrote_at, wrote_among}
use Rattle.mp_script.specs.Answers.{WroteKey}
use Rattle.mp_script.proofs.ReplyForms.{numbered_so}

pub one_wrote : (run : Execution) (trx : TrxName) (count key : ℕ) → wrote_among run trx count key ≡ true → (i : ℕ) × (i < count) × WroteKey run trx i key
one_wrote run trx zero key e = absurd (false≢true e)
one_wrote run trx (suc count) key e = elim (cases_Bool (wrote_among run trx count key)) [
  | inl t ↦ let rest = one_wrote run trx count key t in let lt = rest.1 in (rest.0, omega (arith, lt), rest.2)
  | inr t ↦ (count, omega arith, numbered_so key (wrote_at run trx.session (trx.first + suc count)) (sym (ap (λ (b : Bool). b || is_number key (wrote_at run trx.session (trx.first + suc count))) t) ∙ e))
]

-- what one of the first statements wrote was written among them
pub some_wrote : (run : Execution) (name : TrxName) (count key i : ℕ) → i < count → WroteKey run name i key → wrote_among run name count key ≡ true
some_wrote run name zero key i lt wrote = absurd (omega (arith, lt))
some_wrote run name (suc count) key i lt wrote = elim (cases_lt i count) [
  | inl under ↦ ap (λ (b : Bool). b || is_number key (wrote_at run name.session (name.first + suc count))) (some_wrote run name count key i under wrote)
  | inr ge ↦
      let is : i ≡ count = omega (arith, ge, lt) in
      let here : is_number key (wrote_at run name.session (name.first + suc count)) ≡ true = ap (λ (k : ℕ). is_number key (wrote_at run name.session (name.first + suc k))) (sym is) ∙ ap (is_number key) wrote ∙ eq-eqb key key refl in
      ap (λ (b : Bool). wrote_among run name count key || b) here ∙ or_so (wrote_among run name count key)
]
  where
    or_so : (b : Bool) → (b || true) ≡ true
    or_so true = refl
    or_so false = refl
