-- A transaction that made nothing owns no key, and no row is kept for it.
use Rattle.std.proofs.Common.{◌≡◌, ◌≢◌, ℕ, ◌&&◌, Bool, true, false, if◌then◌else◌, List, ◌∷◌, [], Option, Some, None, refl, ap, ◌∙◌, inl, inr}
use Rattle.mp_machine.specs.Lists.{IsIn}
use Rattle.mp_model.specs.declared.ids.TrxId.{TrxId}
use Rattle.mp_cells.specs.declared.records.Mtr.{Mtr}
use Rattle.mp_cells.specs.declared.rows.Row.{Row}
use Rattle.mp_histories.proofs.Lists.{none_some}
use Rattle.mp_core_pages.specs.declared.part.Placed.{Placed}
use Rattle.mp_histories.proofs.Writers.{other_from}
use Rattle.mp_core.specs.OwnMtrs.{row_put_by, row_kept_by, row_restored_by, commit_by_mtr, is_row_of, is_id, writer_in, owner_of, owner_in, committer, or_else_id, or_else_row, trx_of_mtr, first_former, TrxMtr, trx_mtrs}
use Rattle.mp_facts.proofs.MadeLists.{next_made}

-- who owns a key made an mtr
abbrev pub HasMade : List (Placed Mtr) → TrxId → Type 0
HasMade made id = (t : TrxMtr) × IsIn t (trx_mtrs made) × (t.of ≡ Some id)

module _ (x : Placed Mtr) (made : List (Placed Mtr)) (id : TrxId) (key : ℕ) (rest : owner_of made key ≡ Some id → HasMade made id) where
  made_before : HasMade made id → HasMade (x ∷ made) id
  made_before has = (has.0, inr has.1, has.2)

  by_put : (b : Bool) → (if b then writer_in (row_put_by x.mtr) else owner_of made key) ≡ Some id → HasMade (x ∷ made) id
  by_put true is = (next_made made x.at x.mtr, inl refl, ap (λ (w : Option TrxId). or_else_id w (or_else_id (owner_in made (row_restored_by x.mtr)) (committer (commit_by_mtr x.mtr)))) is)
  by_put false is = made_before (rest is)

  by_restored : (b c : Bool) → (if b then None else (if c then writer_in (row_put_by x.mtr) else owner_of made key)) ≡ Some id → HasMade (x ∷ made) id
  by_restored true c is = absurd (none_some id is)
  by_restored false c is = by_put c is

pub owner_made : (made : List (Placed Mtr)) (id : TrxId) (key : ℕ) → owner_of made key ≡ Some id → HasMade made id
owner_made [] id key is = absurd (none_some id is)
owner_made (x ∷ made) id key is = by_restored x made id key (owner_made made id key) (is_row_of key (row_restored_by x.mtr)) (is_row_of key (row_put_by x.mtr)) is

not_id : (id : TrxId) (of : Option TrxId) → of ≢ Some id → is_id id of ≡ false
not_id id None other = refl
not_id id (Some x) other = other_from (Some x) (Some id) other

skips : (b c : Bool) (before kept : Option Row) → (if b && false then None else (if c && false then or_else_row before kept else before)) ≡ before
skips true true before kept = refl
skips true false before kept = refl
skips false true before kept = refl
skips false false before kept = refl

pub no_former : (made : List (Placed Mtr)) (id : TrxId) (key : ℕ) → ((t : TrxMtr) → IsIn t (trx_mtrs made) → t.of ≢ Some id) → first_former made id key ≡ None
no_former [] id key nobody = refl
no_former (x ∷ made) id key nobody =
    ap (λ (b : Bool). if is_row_of key (row_restored_by x.mtr) && b then None else (if is_row_of key (row_put_by x.mtr) && b then or_else_row (first_former made id key) (row_kept_by x.mtr) else first_former made id key))
    (not_id id (trx_of_mtr made x.mtr) (nobody (next_made made x.at x.mtr) (inl refl)))
    ∙ skips (is_row_of key (row_restored_by x.mtr)) (is_row_of key (row_put_by x.mtr)) (first_former made id key) (row_kept_by x.mtr)
    ∙ no_former made id key (λ t has. nobody t (inr has))
