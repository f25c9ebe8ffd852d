-- Of a transaction whose commit is recorded nothing was put back.
use Rattle.std.proofs.Common.{◌≡◌, ℕ, ◌==◌, Bool, true, false, [], ◌∷◌, ◌++◌, length, Option, Some, is_some, refl, sym, ap, subst, ◌∙◌, inl, inr, append_assoc, arith, eqb-true}
use Rattle.mp_machine.specs.Lists.{IsIn}
use Rattle.mp_model.specs.declared.ids.TrxId.{TrxId}
use Rattle.mp_cells.specs.declared.changes.Change.TheVariants.{RestoreRow}
use Rattle.mp_cells.specs.declared.records.Mtr.{Mtr}
use Rattle.mp_cells.specs.declared.rows.Row.{Row}
use Rattle.mp_cells.specs.Plans.{plan_of}
use Rattle.mp_cells.specs.Writes.{rows_put, rows_restored}
use Rattle.mp_histories.specs.KeyOps.{is_top, NeverBack}
use Rattle.mp_histories.specs.Histories.{History, older, entry_at, by_version, ops_on, live_on}
use Rattle.mp_histories.specs.Chains.{RunsFrom}
use Rattle.mp_histories.proofs.Lists.{some_same, none_some}
use Rattle.mp_histories.proofs.Writers.{decided, same_is}
use Rattle.mp_histories.proofs.MtrSteps.{put_on, back_on, none_on}
use Rattle.mp_histories.proofs.Noting.{older_stays}
use Rattle.mp_core_trx.specs.declared.part.Draw.{Draw}
use Rattle.mp_core_pages.proofs.Choices.{if_equal}
use Rattle.mp_core.specs.declared.opening.CoreOpening.{CoreOpening}
use Rattle.mp_core.specs.OwnMtrs.{row_restored_by}
use Rattle.mp_core.specs.World.{CoreWorld}
use Rattle.mp_facts.specs.Facts.{opening_pages, made_in, Facts}
use Rattle.mp_facts.proofs.Entries.{entry_stays}
use Rattle.mp_facts.proofs.LiveSteps.{older_all, older_one}
use Rattle.mp_facts.proofs.MtrShapes.{restore_shape}
use Rattle.mp_cuts.proofs.RecordedMtrs.{Records}

-- the mtrs before one of a history
older_split : (newer : History) (m : Mtr) (before : History) → older (length before) (newer ++ m ∷ before) ≡ before
older_split newer m before =
    older_stays (length before) newer (m ∷ before) (omega arith) ∙ older_one (length before) m before (omega arith) ∙ older_all before

module _ (o : CoreOpening) (w : CoreWorld) (f : Facts o w) (m : Mtr) (at : ℕ) (id : TrxId) (cts : ℕ) (r : Records o w f m at id cts) (key : ℕ) where
  -- no restore in the history finds a version of the transaction on top
  not_its : (x : Mtr) (before newer : History) (row : Row) → w.pages.history ≡ newer ++ x ∷ before → row_restored_by x ≡ Some row → row.key ≡ key → is_top by_version (Some id) (live_on key before) ≡ true → ⊥
  not_its x before newer row split back is_key top =
      let entry : entry_at (length before) w.pages.history ≡ Some x = ap (entry_at (length before)) split ∙ entry_stays newer (x ∷ before) (length before) (omega arith) ∙ if_equal (length before) (length before) (Some x) (entry_at (length before) before) refl in
      let t = f.of_history.all_made (length before) x entry in
      let taken = f.of_history.put_back x.node t.0 row t.1 (ap (λ (y : Mtr). row_restored_by y) t.3 ∙ back) in
      let first : older t.0.at w.pages.history ≡ before = ap (λ (k : ℕ). older k w.pages.history) t.2 ∙ ap (older (length before)) split ∙ older_split newer x before in
      let live_is : live_on key before ≡ taken.0 ∷ taken.1 = sym (ap (λ (h : History). live_on row.key h) first ∙ ap (λ (k : ℕ). live_on k before) is_key) ∙ taken.2 in
      let by : Some id ≡ t.0.of = sym (same_is taken.0.row.writer (Some id) (sym (ap (is_top by_version (Some id)) live_is) ∙ top)) ∙ taken.3 in
      let its = f.of_history.placed x.node t.0 t.1 in
      let node : x.node ≡ id.node = sym its.3.2 ∙ ap (λ (y : TrxId). y.node) (some_same its.3.0 id (sym its.3.1 ∙ sym by)) in
      let none = (f.of_versions.commit_last id.node r.made t.0 r.was_made (ap (λ (d : Option Draw). is_some d) r.told) (subst (λ (k : ℕ). IsIn t.0 (made_in w k)) node t.1) (sym by ∙ sym r.of)).1 in
      none_some row (sym none ∙ ap (λ (y : Mtr). row_restored_by y) t.3 ∙ back)

  put_by : (x : Mtr) (before : History) (row : Row) → rows_put (plan_of x.records) ≡ row ∷ [] → rows_restored (plan_of x.records) ≡ [] → NeverBack by_version (Some id) (ops_on key before) → (b : Bool) → (row.key == key) ≡ b → NeverBack by_version (Some id) (ops_on key (x ∷ before))
  put_by x before row puts back rest true e = subst (NeverBack by_version (Some id)) (sym (put_on x row puts back key true e before)) rest
  put_by x before row puts back rest false e = subst (NeverBack by_version (Some id)) (sym (put_on x row puts back key false e before)) rest

  back_by : (x : Mtr) (before newer : History) (row : Row) (page : ℕ) → w.pages.history ≡ newer ++ x ∷ before → plan_of x.records ≡ (page, RestoreRow row) ∷ [] → NeverBack by_version (Some id) (ops_on key before) → (b : Bool) → (row.key == key) ≡ b → NeverBack by_version (Some id) (ops_on key (x ∷ before))
  back_by x before newer row page split one rest true e = subst (NeverBack by_version (Some id)) (sym (back_on x row page one key true e before)) (
    elim (decided (is_top by_version (Some id) (live_on key before))) [
      | inl top ↦ absurd (not_its x before newer row split (restore_shape x page row one).restored (eqb-true row.key key e) top)
      | inr other ↦ other
    ],
    rest,
  )
  back_by x before newer row page split one rest false e = subst (NeverBack by_version (Some id)) (sym (back_on x row page one key false e before)) rest

  never : (made_first newer : History) → w.pages.history ≡ newer ++ made_first → RunsFrom (opening_pages o) made_first → NeverBack by_version (Some id) (ops_on key made_first)
  never [] newer split runs = tt
  never (x ∷ before) newer split runs =
      let rest = never before (newer ++ x ∷ []) (split ∙ sym (append_assoc newer (x ∷ []) before)) runs.1 in
      elim (runs.0.kind) [
        | inl p ↦ put_by x before p.row p.well.puts p.well.restores rest (p.row.key == key) refl
        | inr (inl p) ↦ back_by x before newer p.row p.well.one.0 split p.well.one.1 rest (p.row.key == key) refl
        | inr (inr p) ↦ subst (NeverBack by_version (Some id)) (sym (none_on x p key before)) rest
      ]

  pub never_back : NeverBack by_version (Some id) (ops_on key w.pages.history)
  never_back = never w.pages.history [] refl f.of_versions.runs
