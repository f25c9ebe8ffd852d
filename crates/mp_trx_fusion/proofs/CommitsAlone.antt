-- A log of commit records alone: it puts nothing back, and no key is anybody's.
use Rattle.std.proofs.Common.{◌≡◌, ℕ, if◌then◌else◌, List, [], ◌∷◌, slice_get, Option, Some, None, refl, sym, ap, ◌∙◌, subst, inl, inr}
use Rattle.mp_machine.specs.Lists.{IsIn}
use Rattle.mp_model.specs.declared.ids.TrxId.{TrxId}
use Rattle.mp_cells.specs.declared.records.Record.{Record}
use Rattle.mp_cells.specs.declared.records.Mtr.{Mtr}
use Rattle.mp_cells.specs.Plans.{plan_of}
use Rattle.mp_cells.specs.Writes.{rows_put, rows_restored}
use Rattle.mp_core_trx.specs.declared.part.Draw.{Draw}
use Rattle.mp_core_trx.specs.Parts.{draw_of}
use Rattle.mp_core_pages.specs.declared.part.Placed.{Placed}
use Rattle.mp_core.specs.Commits.{commit_records}
use Rattle.mp_core.specs.OwnMtrs.{commit_told, commit_by_mtr, row_restored_by, is_row_of, writer_in, owner_of, TrxMtr, trx_mtrs}

abbrev pub IsCommitRecord : Placed Mtr → Type 0
IsCommitRecord x = (id : TrxId) × (cts : ℕ) × (x.mtr.records ≡ commit_records id cts)

-- its records are those of the commit that it tells
pub one_commit : (x : Placed Mtr) → IsCommitRecord x → (id : TrxId) (cts : ℕ) → commit_by_mtr x.mtr ≡ Some (draw_of id cts) → x.mtr.records ≡ commit_records id cts
one_commit x commit id cts told = commit.2 ∙ ap (λ (d : Draw). commit_records d.id d.cts) same
  where
    same : draw_of commit.0 commit.1 ≡ draw_of id cts
    same = let both : Some (draw_of commit.0 commit.1) ≡ Some (draw_of id cts) = sym (ap commit_told commit.2) ∙ told in cc

pub none_restored : (made : List (Placed Mtr)) → ((x : Placed Mtr) → IsIn x made → IsCommitRecord x) → (m : TrxMtr) → IsIn m (trx_mtrs made) → row_restored_by m.mtr ≡ None
none_restored [] all m has = absurd has
none_restored (x ∷ made) all m (inl is) =
    ap (λ (t : TrxMtr). row_restored_by t.mtr) is ∙ ap (λ (items : List Record). slice_get (rows_restored (plan_of items)) 0) (all x (inl refl)).2
none_restored (x ∷ made) all m (inr has) = none_restored made (λ y there. all y (inr there)) m has

abbrev owner_by : ℕ → Option TrxId → List Record → Option TrxId
owner_by key before items =
    if is_row_of key (slice_get (rows_restored (plan_of items)) 0) then None
    else (if is_row_of key (slice_get (rows_put (plan_of items)) 0) then writer_in (slice_get (rows_put (plan_of items)) 0) else before)

no_owner : (made : List (Placed Mtr)) → ((x : Placed Mtr) → IsIn x made → IsCommitRecord x) → (key : ℕ) → owner_of made key ≡ None
no_owner [] all key = refl
no_owner (x ∷ made) all key = ap (owner_by key (owner_of made key)) (all x (inl refl)).2 ∙ no_owner made (λ y there. all y (inr there)) key

pub nobody_owns : (made : List (Placed Mtr)) → ((x : Placed Mtr) → IsIn x made → IsCommitRecord x) → (id : TrxId) (key : ℕ) → owner_of made key ≡ Some id → ⊥
nobody_owns made all id key is = let both = sym (no_owner made all key) ∙ is in absurd cc
