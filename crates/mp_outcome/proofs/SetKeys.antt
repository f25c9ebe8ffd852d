-- The writes of a transaction's first statements set a key exactly where one of them wrote it.
use Rattle.std.proofs.Common.{◌≡◌, ℕ, zero, suc, ◌+◌, ◌<◌, ◌==◌, Bool, true, false, cond, List, [], ◌∷◌, Option, Some, None, refl, sym, ap, subst, ◌∙◌, inl, inr, arith, eq-eqb}
use Rattle.std.proofs.lemmas.Bool.{cases_lt, eqb-true}
use Rattle.mp_model.specs.declared.ids.TrxName.{TrxName}
use Rattle.mp_model.specs.declared.key_value.KeyValue.{KeyValue}
use Rattle.mp_model.specs.declared.key_value.KeyWrite.{KeyWrite}
use Rattle.mp_model.specs.Folded.{over, value_at}
use Rattle.mp_script.specs.declared.statements.Stmt.{Stmt}
use Rattle.mp_script.specs.declared.statements.Stmt.TheVariants.{Begin, Get, Put, Del, Copy, Scan, Commit, Rollback}
use Rattle.mp_script.specs.Execution.{Execution, stmt_at, reply_at}
use Rattle.mp_script.specs.Transactions.{wrote_at, is_wrote, target_key}
use Rattle.mp_script.specs.Seen.{write_by, write_at, rows_of_view}
use Rattle.mp_script.specs.LastValues.{or_else_value, last_value, first_writes}
use Rattle.mp_script.specs.Answers.{WroteKey}
use Rattle.mp_script.proofs.Options.{some_is, not_some}
use Rattle.mp_script.proofs.LastValues.{last_value-append}
use Rattle.mp_histories.proofs.Writers.{decided}

-- writes set the key
abbrev pub Sets : ℕ → List KeyWrite → Type 0
Sets key writes = (value : Option (List ℕ)) × (last_value key writes ≡ Some value)

-- ---- one write

its_value : (key : ℕ) (write : KeyWrite) → write.key ≡ key → last_value key (write ∷ []) ≡ Some write.value
its_value key write is = ap (λ (b : Bool). cond b (Some write.value) None) (eq-eqb write.key key is)

its_key : (key : ℕ) (write : KeyWrite) (value : Option (List ℕ)) → last_value key (write ∷ []) ≡ Some value → write.key ≡ key
its_key key write value e = elim (decided (write.key == key)) [
  | inl same ↦ eqb-true write.key key same
  | inr other ↦ absurd (not_some value (sym (ap (λ (b : Bool). cond b (Some write.value) None) other) ∙ e))
]

-- ---- one statement

stmt_sets : (key : ℕ) (seen : List KeyValue) (stmt : Option Stmt) → target_key stmt ≡ Some key → Sets key (write_by seen stmt)
stmt_sets key seen None e = absurd (not_some key e)
stmt_sets key seen (Some Begin) e = absurd (not_some key e)
stmt_sets key seen (Some (Get k)) e = absurd (not_some key e)
stmt_sets key seen (Some (Put k value)) e = (Some value, its_value key (record { key = k; value = Some value }) (some_is k key e))
stmt_sets key seen (Some (Del k)) e = (None, its_value key (record { key = k; value = None }) (some_is k key e))
stmt_sets key seen (Some (Copy source k)) e = (value_at source seen, its_value key (record { key = k; value = value_at source seen }) (some_is k key e))
stmt_sets key seen (Some (Scan low most)) e = absurd (not_some key e)
stmt_sets key seen (Some Commit) e = absurd (not_some key e)
stmt_sets key seen (Some Rollback) e = absurd (not_some key e)

sets_stmt : (key : ℕ) (seen : List KeyValue) (stmt : Option Stmt) (value : Option (List ℕ))
    → last_value key (write_by seen stmt) ≡ Some value → target_key stmt ≡ Some key
sets_stmt key seen None value e = absurd (not_some value e)
sets_stmt key seen (Some Begin) value e = absurd (not_some value e)
sets_stmt key seen (Some (Get k)) value e = absurd (not_some value e)
sets_stmt key seen (Some (Put k set)) value e = ap (λ (n : ℕ). Some n) (its_key key (record { key = k; value = Some set }) value e)
sets_stmt key seen (Some (Del k)) value e = ap (λ (n : ℕ). Some n) (its_key key (record { key = k; value = None }) value e)
sets_stmt key seen (Some (Copy source k)) value e = ap (λ (n : ℕ). Some n) (its_key key (record { key = k; value = value_at source seen }) value e)
sets_stmt key seen (Some (Scan low most)) value e = absurd (not_some value e)
sets_stmt key seen (Some Commit) value e = absurd (not_some value e)
sets_stmt key seen (Some Rollback) value e = absurd (not_some value e)

module _ (run : Execution) (key : ℕ) (seen : List KeyValue) (session index : ℕ) where
  abbrev its_write : Bool → List KeyWrite
  its_write ok = cond ok (write_by seen (stmt_at run session index)) []

  abbrev its_target : Bool → Option ℕ
  its_target ok = cond ok (target_key (stmt_at run session index)) None

  wrote_sets : wrote_at run session index ≡ Some key → Sets key (write_at run seen session index)
  wrote_sets wrote = by_ok (is_wrote (reply_at run session index)) refl
    where
      by_ok : (b : Bool) → is_wrote (reply_at run session index) ≡ b → Sets key (write_at run seen session index)
      by_ok true is =
          let s = stmt_sets key seen (stmt_at run session index) (sym (ap its_target is) ∙ wrote) in
          (s.0, ap (λ (b : Bool). last_value key (its_write b)) is ∙ s.1)
      by_ok false is = absurd (not_some key (sym (ap its_target is) ∙ wrote))

  sets_wrote : (value : Option (List ℕ)) → last_value key (write_at run seen session index) ≡ Some value → wrote_at run session index ≡ Some key
  sets_wrote value e = by_ok (is_wrote (reply_at run session index)) refl
    where
      by_ok : (b : Bool) → is_wrote (reply_at run session index) ≡ b → wrote_at run session index ≡ Some key
      by_ok true is = ap its_target is ∙ sets_stmt key seen (stmt_at run session index) value (sym (ap (λ (b : Bool). last_value key (its_write b)) is) ∙ e)
      by_ok false is = absurd (not_some value (sym (ap (λ (b : Bool). last_value key (its_write b)) is) ∙ e))

-- ---- the first statements

module _ (run : Execution) (trx : TrxName) (key : ℕ) where
  abbrev seen_at : ℕ → List KeyValue
  seen_at place = over (rows_of_view run trx) (first_writes run trx place)

  abbrev writes_here : ℕ → List KeyWrite
  writes_here place = write_at run (seen_at place) trx.session (trx.first + suc place)

  one_more : (place : ℕ)
      → last_value key (first_writes run trx (suc place)) ≡ or_else_value (last_value key (writes_here place)) (last_value key (first_writes run trx place))
  one_more place = last_value-append key (first_writes run trx place) (writes_here place)

  set_before : (place : ℕ) → Sets key (first_writes run trx place) → Sets key (first_writes run trx (suc place))
  set_before place before = by_here (last_value key (writes_here place)) (one_more place)
    where
      by_here : (x : Option (Option (List ℕ)))
          → last_value key (first_writes run trx (suc place)) ≡ or_else_value x (last_value key (first_writes run trx place))
          → Sets key (first_writes run trx (suc place))
      by_here (Some value) is = (value, is)
      by_here None is = (before.0, is ∙ before.1)

  -- where one of them wrote the key, they set it
  pub some_sets : (place i : ℕ) → i < place → WroteKey run trx i key → Sets key (first_writes run trx place)
  some_sets zero i lt wrote = absurd (omega (arith, lt))
  some_sets (suc place) i lt wrote = elim (cases_lt i place) [
    | inl below ↦ set_before place (some_sets place i below wrote)
    | inr ge ↦
        let is : i ≡ place = omega (arith, ge, lt) in
        let here = wrote_sets run key (seen_at place) trx.session (trx.first + suc place) (subst (λ (k : ℕ). WroteKey run trx k key) is wrote) in
        (here.0, one_more place ∙ ap (λ (x : Option (Option (List ℕ))). or_else_value x (last_value key (first_writes run trx place))) here.1)
  ]

  -- where they set it, one of them wrote it
  pub sets_some : (place : ℕ) (value : Option (List ℕ)) → last_value key (first_writes run trx place) ≡ Some value
      → (i : ℕ) × (i < place) × WroteKey run trx i key
  sets_some zero value e = absurd (not_some value e)
  sets_some (suc place) value e = by_here (last_value key (writes_here place)) refl (sets_some place value)
    where
      by_here : (x : Option (Option (List ℕ))) → last_value key (writes_here place) ≡ x
          → (last_value key (first_writes run trx place) ≡ Some value → (i : ℕ) × (i < place) × WroteKey run trx i key)
          → (i : ℕ) × (i < suc place) × WroteKey run trx i key
      by_here (Some set) is rest = (place, omega arith, sets_wrote run key (seen_at place) trx.session (trx.first + suc place) set is)
      by_here None is rest =
          let before = rest (sym (one_more place ∙ ap (λ (x : Option (Option (List ℕ))). or_else_value x (last_value key (first_writes run trx place))) is) ∙ e) in
          let lt = before.1 in
          (before.0, omega (arith, lt), before.2)
