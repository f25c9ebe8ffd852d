-- One mtr more: each version over another writer's came after that one's commit record, and a restore takes off the
-- versions of its own transaction.
use Rattle.std.proofs.Common.{◌≡◌, ◌≢◌, ℕ, ◌≤◌, ◌==◌, Bool, true, false, List, ◌∷◌, [], length, Option, Some, None, is_some, refl, sym, ap, subst, ◌∙◌, inl, inr, arith}
use mathlib.Core.Bool.{false≢true}
use Rattle.std.specs.List.{AllByRecursion}
use Rattle.mp_machine.specs.Lists.{IsIn}
use Rattle.mp_model.specs.declared.ids.TrxId.{TrxId}
use Rattle.mp_cells.specs.declared.records.Mtr.{Mtr}
use Rattle.mp_cells.specs.declared.rows.Row.{Row}
use Rattle.mp_histories.proofs.Lists.{some_same, none_some}
use Rattle.mp_core_trx.specs.Parts.{draw_of}
use Rattle.mp_core_pages.specs.declared.part.Placed.{Placed}
use Rattle.mp_histories.specs.KeyOps.{FirstIs}
use Rattle.mp_histories.specs.Histories.{History, older, Version, rows_of_versions, live_on}
use Rattle.mp_histories.specs.Chains.{row_over, row_of_key, IsPutAt}
use Rattle.mp_histories.proofs.Standing.{has_chains}
use Rattle.mp_histories.proofs.LiveRows.{live_put_at}
use Rattle.std.proofs.lemmas.Bool.{eqb-true}
use Rattle.mp_core.specs.declared.opening.CoreOpening.{CoreOpening}
use Rattle.mp_core.specs.OwnMtrs.{TrxMtr, trx_mtrs}
use Rattle.mp_core.specs.World.{CoreWorld}
use Rattle.mp_core.specs.Invariant.{NumbersFit, CoreInv}
use Rattle.mp_facts.specs.Facts.{opening_pages}
use Rattle.mp_facts.proofs.MadeLists.{next_made, with_next, each_made, made_more}
use Rattle.mp_facts.proofs.MtrShapes.{restore_of}
use Rattle.mp_facts.proofs.NewMtrs.{NewPut, NewRestore, NewMtr}
use Rattle.mp_facts.proofs.LiveSteps.{new_version, live_put, live_back, live_none, older_all, older_one, older_cases, covers_below, covers_more}
use Rattle.mp_facts.proofs.WriteSteps.{makes_commit, seen_durable, record_before, restored_own}
use Rattle.mp_facts.proofs.Bridges.{stands_in}
use Rattle.mp_facts.proofs.Joint.{Joint, CommittedBefore, EachCovers, CoversCommitted, TakesOwn, RestoresOwn}

no_writer : (writer : Option TrxId) → is_some writer ≡ true → writer ≡ None → ⊥
no_writer None h e = absurd (false≢true h)
no_writer (Some id) h e = absurd cc

module _ (o : CoreOpening) (fair : NumbersFit o) (w : CoreWorld) (i : CoreInv o w) (j : Joint o w) (n : ℕ) (m : Mtr) (new : NewMtr o w n m) where
  abbrev made_now : ℕ → List (Placed Mtr)
  made_now = with_next w.pages.made n (length w.pages.history) m

  -- the row that a put replaces is the newest version's, where there is one
  pub newest_replaced : (p : NewPut o w n m) (top : Version) (rest : List Version) → live_on p.row.key w.pages.history ≡ top ∷ rest → p.kept ≡ top.row
  newest_replaced p top rest is =
      p.replaced ∙ (has_chains o.trx.base.llsn (opening_pages o) fair.clean w.pages.history j.runs).head p.row.key
      ∙ ap (λ (vs : List Version). row_over (rows_of_versions vs) (row_of_key (opening_pages o) p.row.key)) is

  pub has_writer_at : (key : ℕ) (top : Version) (rest : List Version) → live_on key w.pages.history ≡ top ∷ rest → is_some top.row.writer ≡ true
  has_writer_at key top rest is = (subst (AllByRecursion (IsPutAt w.pages.history key)) is (live_put_at o.trx.base.llsn (opening_pages o) fair.clean w.pages.history j.runs key)).0.writer

  first_covers : (p : NewPut o w n m) (vs : List Version) → live_on p.row.key w.pages.history ≡ vs → FirstIs (λ under. p.row.writer ≢ under.row.writer → CommittedBefore made_now (new_version w.pages.history p.row) under) vs
  first_covers p [] is = tt
  first_covers p (top ∷ rest) is = λ differ.
      let same : p.kept ≡ top.row = newest_replaced p top rest is in
      elim p.over [
        | inl none ↦ absurd (no_writer top.row.writer (has_writer_at p.row.key top rest is) (sym (ap (λ (r : Row). r.writer) same) ∙ none))
        | inr (inl own) ↦ absurd (differ (p.by ∙ sym own ∙ ap (λ (r : Row). r.writer) same))
        | inr (inr saw) ↦
            let before = record_before o w i j.commits saw.0 saw.2.cts (seen_durable o w i j.ended n saw.0 saw.2) in
            (saw.0, before.0, sym (ap (λ (r : Row). r.writer) same) ∙ saw.1, made_more w.pages.made n (length w.pages.history) m saw.0.node before.0 before.1, before.2, before.3, before.4)
      ]

  -- over all mtrs
  covered_now : (key : ℕ) → EachCovers made_now (live_on key w.pages.history)
  covered_now key = covers_more w.pages.made made_now (made_more w.pages.made n (length w.pages.history) m) (live_on key w.pages.history)
      (subst (λ (h : History). EachCovers w.pages.made (live_on key h)) (older_all w.pages.history) (j.covers (length w.pages.history) key))

  put_by : (p : NewPut o w n m) (key : ℕ) (b : Bool) → (p.row.key == key) ≡ b → EachCovers made_now (live_on key (m ∷ w.pages.history))
  put_by p key true e =
      let same : p.row.key ≡ key = eqb-true p.row.key key e in
      subst (EachCovers made_now) (sym (live_put w.pages.history m key p.row p.well.puts p.well.restores true e))
      (subst (λ (k : ℕ). FirstIs (λ under. p.row.writer ≢ under.row.writer → CommittedBefore made_now (new_version w.pages.history p.row) under) (live_on k w.pages.history)) same (first_covers p (live_on p.row.key w.pages.history) refl), covered_now key)
  put_by p key false e = subst (EachCovers made_now) (sym (live_put w.pages.history m key p.row p.well.puts p.well.restores false e)) (covered_now key)

  back_by : (p : NewRestore o w n m) (key : ℕ) (b : Bool) → (p.row.key == key) ≡ b → EachCovers made_now (live_on key (m ∷ w.pages.history))
  back_by p key true e = subst (EachCovers made_now) (sym (live_back w.pages.history m key p.row p.page p.one true e)) (covers_below made_now (live_on key w.pages.history) (covered_now key))
  back_by p key false e = subst (EachCovers made_now) (sym (live_back w.pages.history m key p.row p.page p.one false e)) (covered_now key)

  covered_then : (key : ℕ) → EachCovers made_now (live_on key (m ∷ w.pages.history))
  covered_then key = elim new [
    | inl p ↦ put_by p key (p.row.key == key) refl
    | inr (inl p) ↦ back_by p key (p.row.key == key) refl
    | inr (inr p) ↦ subst (EachCovers made_now) (sym (live_none w.pages.history m key (makes_commit m (draw_of p.id p.cts) p.shape.commit))) (covered_now key)
  ]

  pub covers_made : CoversCommitted (m ∷ w.pages.history) made_now
  covers_made height key = older_cases height m w.pages.history (λ (h : History). EachCovers made_now (live_on key h)) (covered_then key)
      (covers_more w.pages.made made_now (made_more w.pages.made n (length w.pages.history) m) (live_on key (older height w.pages.history)) (j.covers height key))

  -- ---- restores

  takes_then : (t : TrxMtr) → t.at ≤ length w.pages.history → TakesOwn w.pages.history t → TakesOwn (m ∷ w.pages.history) t
  takes_then t within takes row is =
      let was = takes row is in
      (was.0, was.1, ap (λ (h : History). live_on row.key h) (older_one t.at m w.pages.history within) ∙ was.2, was.3)

  new_takes : TakesOwn w.pages.history (next_made (w.pages.made n) (length w.pages.history) m)
  new_takes row is = elim new [
    | inl p ↦ absurd (none_some row (sym p.shape.restored ∙ is))
    | inr (inl p) ↦
        let same : p.row ≡ row = some_same p.row row (sym p.shape.restored ∙ is) in
        let owned = restored_own o fair w i j n m (inr (inl p)) p in
        (owned.newest, owned.rest, ap (λ (h : History). live_on row.key h) (older_all w.pages.history) ∙ ap (λ (r : Row). live_on r.key w.pages.history) (sym same) ∙ owned.live, owned.by ∙ sym (restore_of (w.pages.made n) m p.row p.id p.shape p.owner))
    | inr (inr p) ↦ absurd (none_some row (sym p.shape.restored ∙ is))
  ]

  before : (k : ℕ) (t : TrxMtr) → IsIn t (trx_mtrs (w.pages.made k)) → t.at ≤ length w.pages.history
  before k t has = let stands = stands_in o w i k t has in let less = stands.before in omega (arith, less)

  pub restores_made : RestoresOwn (m ∷ w.pages.history) made_now
  restores_made = each_made w.pages.made n (length w.pages.history) m (λ k t. TakesOwn (m ∷ w.pages.history) t) (λ k t has. takes_then t (before k t has) (j.put_back k t has)) (takes_then (next_made (w.pages.made n) (length w.pages.history) m) (omega arith) new_takes)
