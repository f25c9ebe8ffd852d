-- The rows that stood before a transaction's first puts, by one mtr more.
use Rattle.std.proofs.Common.{◌≡◌, ◌≢◌, ℕ, zero, suc, ◌+◌, ◌==◌, ◌&&◌, Bool, true, false, cond, if◌then◌else◌, List, [], ◌∷◌, ◌++◌, ◌⊎◌, inl, inr, Option, None, Some, is_some, drop, refl, sym, ap, subst, ◌∙◌, eq-eqb, ne_eqb}
use mathlib.Core.Bool.{false≢true}
use Rattle.std.proofs.lemmas.Bool.{cases_Bool, eqb-true, and_parts}
use Rattle.mp_machine.specs.Lists.{IsIn}
use Rattle.mp_model.specs.declared.ids.TrxId.{TrxId}
use Rattle.mp_cells.specs.declared.records.Mtr.{Mtr}
use Rattle.mp_cells.specs.declared.rows.Row.{Row}
use Rattle.mp_cells.specs.Trees.{row_at}
use Rattle.mp_core_pages.specs.declared.part.Placed.{Placed}
use Rattle.mp_core.specs.OwnMtrs.{row_put_by, row_kept_by, row_restored_by, commit_by_mtr, is_row_of, same_id, is_id, writer_in, owner_in, committer, or_else_id, or_else_row, trx_of_mtr, first_former, TrxMtr, trx_mtrs}
use Rattle.mp_book.specs.Stages.{HaveOneRowEach, with_former}
use Rattle.mp_book.specs.Books.{KeepsFormer}

pub same_itself : (id : TrxId) → same_id id id ≡ true
same_itself id = rw (eq-eqb id.node id.node refl, eq-eqb id.slot id.slot refl, eq-eqb id.version id.version refl) refl

and_no : (a b : Bool) → (a && b && false) ≡ false
and_no true true = refl
and_no true false = refl
and_no false b = refl

pub same_no : (a b : TrxId) → a.version ≢ b.version → same_id a b ≡ false
same_no a b ne = ap (λ (c : Bool). a.node == b.node && a.slot == b.slot && c) (ne_eqb a.version b.version ne) ∙ and_no (a.node == b.node) (a.slot == b.slot)

-- of another transaction's mtr
neither : (a b : Bool) (x rest : Option Row) → (if (a && false) then None else (if (b && false) then x else rest)) ≡ rest
neither true true x rest = refl
neither true false x rest = refl
neither false true x rest = refl
neither false false x rest = refl

pub former_other : (x : Placed Mtr) (made : List (Placed Mtr)) (id : TrxId) (key : ℕ) → is_id id (trx_of_mtr made x.mtr) ≡ false → first_former (x ∷ made) id key ≡ first_former made id key
former_other x made id key e =
    ap (λ (c : Bool). if (is_row_of key (row_restored_by x.mtr) && c) then None else (if (is_row_of key (row_put_by x.mtr) && c) then or_else_row (first_former made id key) (row_kept_by x.mtr) else first_former made id key)) e
    ∙ neither (is_row_of key (row_restored_by x.mtr)) (is_row_of key (row_put_by x.mtr)) (or_else_row (first_former made id key) (row_kept_by x.mtr)) (first_former made id key)

and_yes : (b : Bool) (x y : Option Row) → (if (b && true) then x else y) ≡ (if b then x else y)
and_yes true x y = refl
and_yes false x y = refl

module _ (x : Placed Mtr) (made : List (Placed Mtr)) (id : TrxId) (row : Row) where
  -- a transaction's put is its own
  pub put_owner : row_put_by x.mtr ≡ Some row → row.writer ≡ Some id → trx_of_mtr made x.mtr ≡ Some id
  put_owner put writer =
      ap (λ (o : Option Row). or_else_id (writer_in o) (or_else_id (owner_in made (row_restored_by x.mtr)) (committer (commit_by_mtr x.mtr)))) put
      ∙ ap (λ (w : Option TrxId). or_else_id w (or_else_id (owner_in made (row_restored_by x.mtr)) (committer (commit_by_mtr x.mtr)))) writer

  own_mtr : trx_of_mtr made x.mtr ≡ Some id → is_id id (trx_of_mtr made x.mtr) ≡ true
  own_mtr of = ap (is_id id) of ∙ same_itself id

  -- its own put adds what it kept, where that was its first of the key
  pub former_put : row_restored_by x.mtr ≡ None → row_put_by x.mtr ≡ Some row → row.writer ≡ Some id → (key : ℕ) → first_former (x ∷ made) id key ≡ (if (row.key == key) then or_else_row (first_former made id key) (row_kept_by x.mtr) else first_former made id key)
  former_put none put writer key =
      ap (λ (o : Option Row). if (is_row_of key o && is_id id (trx_of_mtr made x.mtr)) then None else (if (is_row_of key (row_put_by x.mtr) && is_id id (trx_of_mtr made x.mtr)) then or_else_row (first_former made id key) (row_kept_by x.mtr) else first_former made id key)) none
      ∙ ap (λ (o : Option Row). if (is_row_of key o && is_id id (trx_of_mtr made x.mtr)) then or_else_row (first_former made id key) (row_kept_by x.mtr) else first_former made id key) put
      ∙ ap (λ (c : Bool). if ((row.key == key) && c) then or_else_row (first_former made id key) (row_kept_by x.mtr) else first_former made id key) (own_mtr (put_owner put writer))
      ∙ and_yes (row.key == key) (or_else_row (first_former made id key) (row_kept_by x.mtr)) (first_former made id key)

  -- and one that puts a row back takes that of its key away
  pub former_back : row_restored_by x.mtr ≡ Some row → row_put_by x.mtr ≡ None → trx_of_mtr made x.mtr ≡ Some id → (key : ℕ) → first_former (x ∷ made) id key ≡ (if (row.key == key) then None else first_former made id key)
  former_back back no_put of key =
      ap (λ (o : Option Row). if (is_row_of key o && is_id id (trx_of_mtr made x.mtr)) then None else (if (is_row_of key (row_put_by x.mtr) && is_id id (trx_of_mtr made x.mtr)) then or_else_row (first_former made id key) (row_kept_by x.mtr) else first_former made id key)) back
      ∙ ap (λ (o : Option Row). if ((row.key == key) && is_id id (trx_of_mtr made x.mtr)) then None else (if (is_row_of key o && is_id id (trx_of_mtr made x.mtr)) then or_else_row (first_former made id key) (row_kept_by x.mtr) else first_former made id key)) no_put
      ∙ ap (λ (c : Bool). if ((row.key == key) && c) then None else first_former made id key) (own_mtr of)
      ∙ and_yes (row.key == key) None (first_former made id key)

-- ---- the rows that a session keeps

or_none : (x : Option Row) → or_else_row x None ≡ x
or_none None = refl
or_none (Some x) = refl

or_some : (x y : Option Row) → is_some x ≡ true → or_else_row x y ≡ x
or_some None y e = absurd (false≢true e)
or_some (Some x) y e = refl

row_at_append : (key : ℕ) (xs : List Row) (row : Row) → row_at key (xs ++ row ∷ []) ≡ or_else_row (row_at key xs) (if (row.key == key) then Some row else None)
row_at_append key [] row = refl
row_at_append key (x ∷ xs) row = by_test (x.key == key) (row_at_append key xs row)
  where
    by_test : (b : Bool) → row_at key (xs ++ row ∷ []) ≡ or_else_row (row_at key xs) (if (row.key == key) then Some row else None) → cond b (Some x) (row_at key (xs ++ row ∷ [])) ≡ or_else_row (cond b (Some x) (row_at key xs)) (if (row.key == key) then Some row else None)
    by_test true rest = refl
    by_test false rest = rest

-- with the first row of a key that was written
pub kept_with : (formers : List Row) (written : ℕ) (kept : Row) (o : Option Row) → KeepsFormer formers written o → (o ≡ None) ⊎ (o ≡ Some kept) → (key : ℕ) → (if (written == key) then or_else_row (row_at key formers) (Some kept) else row_at key formers) ≡ row_at key (with_former formers o)
kept_with formers written kept None keeps from key = elim (cases_Bool (written == key)) [
  | inl t ↦
      ap (λ (b : Bool). if b then or_else_row (row_at key formers) (Some kept) else row_at key formers) t
      ∙ or_some (row_at key formers) (Some kept) (subst (λ (k : ℕ). is_some (row_at k formers) ≡ true) (eqb-true written key t) keeps)
  | inr t ↦ ap (λ (b : Bool). if b then or_else_row (row_at key formers) (Some kept) else row_at key formers) t
]
kept_with formers written kept (Some row) keeps from key = elim (cases_Bool (written == key)) [
  | inl t ↦
      let at : row_at key formers ≡ None = subst (λ (k : ℕ). row_at k formers ≡ None) (eqb-true written key t) keeps.1 in
      let its : (row.key == key) ≡ true = eq-eqb row.key key (keeps.0 ∙ eqb-true written key t) in
      ap (λ (b : Bool). if b then or_else_row (row_at key formers) (Some kept) else row_at key formers) t
      ∙ ap (λ (x : Option Row). or_else_row x (Some kept)) at
      ∙ sym (is_kept from)
      ∙ sym (row_at_append key formers row ∙ ap (λ (x : Option Row). or_else_row x (if (row.key == key) then Some row else None)) at ∙ ap (λ (b : Bool). if b then Some row else None) its)
  | inr t ↦
      let other : (row.key == key) ≡ false = ap (λ (k : ℕ). k == key) keeps.0 ∙ t in
      ap (λ (b : Bool). if b then or_else_row (row_at key formers) (Some kept) else row_at key formers) t
      ∙ sym (row_at_append key formers row ∙ ap (λ (b : Bool). or_else_row (row_at key formers) (if b then Some row else None)) other ∙ or_none (row_at key formers))
]
  where
    none_kept : Some row ≡ None → ⊥
    none_kept e = cc

    is_kept : (Some row ≡ None) ⊎ (Some row ≡ Some kept) → Some row ≡ Some kept
    is_kept (inl e) = absurd (none_kept e)
    is_kept (inr e) = e

-- without the first, where each key has one row
pub once_from : (rows : List Row) (i : ℕ) → HaveOneRowEach rows → HaveOneRowEach (drop i rows)
once_from rows zero once = once
once_from [] (suc i) once = once
once_from (row ∷ rows) (suc i) once = once_from rows i once.1

pub kept_without : (row : Row) (rows : List Row) (back : ℕ) → row.key ≡ back → row_at row.key rows ≡ None → (key : ℕ) → (if (back == key) then None else row_at key (row ∷ rows)) ≡ row_at key rows
kept_without row rows back its once key = elim (cases_Bool (back == key)) [
  | inl t ↦
      ap (λ (b : Bool). if b then None else row_at key (row ∷ rows)) t
      ∙ sym (subst (λ (k : ℕ). row_at k rows ≡ None) (its ∙ eqb-true back key t) once)
  | inr t ↦
      let other : (row.key == key) ≡ false = ap (λ (k : ℕ). k == key) its ∙ t in
      ap (λ (b : Bool). if b then None else row_at key (row ∷ rows)) t
      ∙ ap (λ (b : Bool). if b then Some row else row_at key rows) other
]

-- a transaction of which nothing was made replaced nothing
pub no_former : (made : List (Placed Mtr)) (id : TrxId) → ((m : TrxMtr) → IsIn m (trx_mtrs made) → m.of ≢ Some id) → (key : ℕ) → first_former made id key ≡ None
no_former [] id none key = refl
no_former (x ∷ made) id none key = former_other x made id key (not_its (trx_of_mtr made x.mtr) (none (record { at = x.at; of = trx_of_mtr made x.mtr; mtr = x.mtr }) (inl refl))) ∙ no_former made id (λ m there. none m (inr there)) key
  where
    same_is : (a b : TrxId) → same_id a b ≡ true → a ≡ b
    same_is a b t =
        let all = and_parts (a.node == b.node && a.slot == b.slot) (a.version == b.version) t in
        let first = and_parts (a.node == b.node) (a.slot == b.slot) all.0 in
        ap (λ (n : ℕ). record { node = n; slot = a.slot; version = a.version }) (eqb-true a.node b.node first.0)
        ∙ ap (λ (n : ℕ). record { node = b.node; slot = n; version = a.version }) (eqb-true a.slot b.slot first.1)
        ∙ ap (λ (n : ℕ). record { node = b.node; slot = b.slot; version = n }) (eqb-true a.version b.version all.1)

    not_its : (o : Option TrxId) → o ≢ Some id → is_id id o ≡ false
    not_its None ne = refl
    not_its (Some other) ne = elim (cases_Bool (same_id other id)) [
      | inl t ↦ absurd (ne (ap (λ (i : TrxId). Some i) (same_is other id t)))
      | inr f ↦ f
    ]
