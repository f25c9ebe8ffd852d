-- What the mtrs of a world's history are, as their nodes know them: whose commits they record, and whose rows they put.
use Rattle.std.proofs.Common.{◌≡◌, ◌⊎◌, ℕ, ◌<◌, List, [], ◌∷◌, ◌++◌, length, slice_get, Option, Some, is_some, refl, sym, ap, subst, ◌∙◌, inl, inr, arith}
use Rattle.std.specs.List.{AllByRecursion}
use Rattle.mp_machine.specs.Lists.{IsIn}
use Rattle.mp_model.specs.declared.ids.TrxId.{TrxId}
use Rattle.mp_cells.specs.declared.records.Record.{Record}
use Rattle.mp_cells.specs.declared.records.Record.TheVariants as records
use Rattle.mp_cells.specs.declared.records.Mtr.{Mtr}
use Rattle.mp_cells.specs.declared.rows.Row.{Row}
use Rattle.mp_cells.specs.Plans.{Plan, plan_of}
use Rattle.mp_cells.specs.Writes.{rows_put}
use Rattle.mp_histories.specs.Commits.{Stamp, HasStamp}
use Rattle.mp_histories.specs.Histories.{History, entry_at, commit_records}
use Rattle.mp_histories.specs.Chains.{RunsFrom}
use Rattle.mp_histories.proofs.Lists.{some_same, none_some, append_middle}
use Rattle.mp_core_trx.specs.declared.part.Draw.{Draw}
use Rattle.mp_core_trx.specs.Parts.{draw_of}
use Rattle.mp_core_trx.specs.World.{drawn_in}
use Rattle.mp_core_pages.proofs.Choices.{if_equal}
use Rattle.mp_core.specs.declared.opening.CoreOpening.{CoreOpening}
use Rattle.mp_core.specs.OwnMtrs.{row_put_by, commit_told, commit_by_mtr, TrxMtr}
use Rattle.mp_core.specs.World.{CoreWorld}
use Rattle.mp_facts.specs.Facts.{opening_pages, made_in, Facts}
use Rattle.mp_facts.proofs.Entries.{entry_stays}
use Rattle.mp_facts.proofs.RunEntries.{entry_runs}
use Rattle.mp_cuts.proofs.OrderedCuts.{each_by_in}
use Rattle.mp_cuts.proofs.OnceCommitted.{Apart, EachApart, HasOneCommit}
use Rattle.mp_cuts.proofs.WroteLast.{OwnsPuts, OwnsCommits}

-- where an mtr of a history stands in it
record Stands (history : History) (m : Mtr) : Type 0 where
  at : ℕ
  before : at < length history
  entry : entry_at at history ≡ Some m

here_at : (m : Mtr) (history : History) → entry_at (length history) (m ∷ history) ≡ Some m
here_at m history = if_equal (length history) (length history) (Some m) (entry_at (length history) history) refl

stands : (history : History) (m : Mtr) → IsIn m history → Stands history m
stands [] m has = absurd has
stands (x ∷ history) m (inl same) = record {
  at = length history;
  before = omega arith;
  entry = here_at x history ∙ ap (λ (y : Mtr). Some y) (sym same);
}
stands (x ∷ history) m (inr has) =
    let s = stands history m has in
    let lt = s.before in
    record { at = s.at; before = omega (arith, lt); entry = entry_stays (x ∷ []) history s.at s.before ∙ s.entry }

module _ (o : CoreOpening) (w : CoreWorld) (f : Facts o w) where
  -- an mtr that records a commit, as its node has it
  pub record Records (m : Mtr) (at : ℕ) (id : TrxId) (cts : ℕ) : Type 0 where
    pub made : TrxMtr
    pub was_made : IsIn made (made_in w id.node)
    pub at_is : made.at ≡ at
    pub told : commit_by_mtr made.mtr ≡ Some (draw_of id cts)
    pub of : made.of ≡ Some id
    pub drew : IsIn (draw_of id cts) (drawn_in w.trx id.node)
    pub node : m.node ≡ id.node

  one_record : (m : Mtr) (at : ℕ) → entry_at at w.pages.history ≡ Some m → (id : TrxId) (cts : ℕ) → commit_by_mtr m ≡ Some (draw_of id cts) → Records m at id cts
  one_record m at entry id cts told =
      let t = f.of_history.all_made at m entry in
      let its : commit_by_mtr t.0.mtr ≡ Some (draw_of id cts) = ap commit_by_mtr t.3 ∙ told in
      let drew = f.of_versions.commits m.node t.0 id cts t.1 its in
      let there = f.of_history.placed m.node t.0 t.1 in
      let node : m.node ≡ id.node = sym there.3.2 ∙ ap (λ (x : TrxId). x.node) (some_same there.3.0 id (sym there.3.1 ∙ drew.0)) in
      record {
        made = t.0;
        was_made = subst (λ (n : ℕ). IsIn t.0 (made_in w n)) node t.1;
        at_is = t.2;
        told = its;
        of = drew.0;
        drew = subst (λ (n : ℕ). IsIn (draw_of id cts) (drawn_in w.trx n)) node drew.1;
        node = node;
      }

  pub records_at : (m : Mtr) (at : ℕ) → entry_at at w.pages.history ≡ Some m → (id : TrxId) (cts : ℕ) → HasStamp (commit_records m.records) (Some id) cts → Records m at id cts
  records_at m at entry id cts has = elim ((entry_runs (opening_pages o) w.pages.history at m f.of_versions.runs entry).0.kind) [
    | inl p ↦ absurd (subst (λ (l : List Stamp). HasStamp l (Some id) cts) p.no_commit has)
    | inr (inl p) ↦ absurd (subst (λ (l : List Stamp). HasStamp l (Some id) cts) p.no_commit has)
    | inr (inr p) ↦ alone p.id p.cts p.alone (subst (λ (items : List Record). HasStamp (commit_records items) (Some id) cts) p.alone has)
  ]
    where
      alone : (other : TrxId) (c : ℕ) → m.records ≡ records.Commit other c ∷ [] → ((Some other ≡ Some id) × (c ≡ cts)) ⊎ ⊥ → Records m at id cts
      alone other c is (inl same) = one_record m at entry id cts
          (ap commit_told is ∙ ap (λ (x : TrxId). Some (draw_of x c)) (some_same other id same.0) ∙ ap (λ (x : ℕ). Some (draw_of id x)) same.1)
      alone other c is (inr none) = absurd none

  pub records_in : (m : Mtr) → IsIn m w.pages.history → (id : TrxId) (cts : ℕ) → HasStamp (commit_records m.records) (Some id) cts → (at : ℕ) × Records m at id cts
  records_in m there id cts has = let s = stands w.pages.history m there in (s.at, records_at m s.at s.entry id cts has)

  -- ---- no two record one commit

  two_records : (m other : Mtr) (at before : ℕ) → before < at → entry_at at w.pages.history ≡ Some m → entry_at before w.pages.history ≡ Some other → Apart m other
  two_records m other at before less entry entry_before id cts its has has_other =
      let late = records_at m at entry id cts has in
      let early = records_at other before entry_before id its has_other in
      let le = (f.of_versions.commit_last id.node early.made late.made early.was_made (ap (λ (d : Option Draw). is_some d) early.told) late.was_made (late.of ∙ sym early.of)).0 in
      let a = late.at_is in
      let b = early.at_is in
      absurd (omega (arith, less, le, a, b))

  apart_from : (newer made : History) → w.pages.history ≡ newer ++ made → EachApart made
  apart_from newer [] split = tt
  apart_from newer (m ∷ made) split = (
    each_by_in (Apart m) made (λ x has.
        let s = stands made x has in
        let entry : entry_at (length made) w.pages.history ≡ Some m = ap (entry_at (length made)) split ∙ entry_stays newer (m ∷ made) (length made) (omega arith) ∙ here_at m made in
        let other : entry_at s.at w.pages.history ≡ Some x = ap (entry_at s.at) (split ∙ append_middle newer m made) ∙ entry_stays (newer ++ m ∷ []) made s.at s.before ∙ s.entry in
        two_records m x (length made) s.at s.before entry other),
    apart_from (newer ++ m ∷ []) made (split ∙ append_middle newer m made),
  )

  pub history_apart : EachApart w.pages.history
  history_apart = apart_from [] w.pages.history refl

  one_each : (made : History) → RunsFrom (opening_pages o) made → AllByRecursion HasOneCommit made
  one_each [] runs = tt
  one_each (m ∷ made) runs = (
    elim (runs.0.kind) [
      | inl p ↦ inl p.no_commit
      | inr (inl p) ↦ inl p.no_commit
      | inr (inr p) ↦ inr (record { id = p.id; cts = p.cts }, ap commit_records p.alone)
    ],
    one_each made runs.1,
  )

  pub history_one_each : AllByRecursion HasOneCommit w.pages.history
  history_one_each = one_each w.pages.history f.of_versions.runs

  -- ---- whose they are

  each_stamp : (m : Mtr) (stamps : List Stamp) → ((id : TrxId) (cts : ℕ) → HasStamp stamps (Some id) cts → m.node ≡ id.node) → AllByRecursion (λ (s : Stamp). m.node ≡ s.id.node) stamps
  each_stamp m [] all = tt
  each_stamp m (s ∷ stamps) all = (all s.id s.cts (inl (refl, refl)), each_stamp m stamps (λ id cts has. all id cts (inr has)))

  pub owns_commits : AllByRecursion OwnsCommits w.pages.history
  owns_commits = each_by_in OwnsCommits w.pages.history (λ m has. each_stamp m (commit_records m.records) (λ id cts there. (records_in m has id cts there).1.node))

  put_by_kind : (m : Mtr) (row : Row) (id : TrxId) → IsIn m w.pages.history → row_put_by m ≡ Some row → row.writer ≡ Some id → m.node ≡ id.node
  put_by_kind m row id there put by =
      let s = stands w.pages.history m there in
      let t = f.of_history.all_made s.at m s.entry in
      let its = f.of_history.placed m.node t.0 t.1 in
      let same : row_put_by t.0.mtr ≡ Some row = ap row_put_by t.3 ∙ put in
      elim (f.of_history.kinds m.node t.0 t.1) [
        | inl p ↦
            let of : its.3.0 ≡ id = some_same its.3.0 id (sym its.3.1 ∙ sym p.1.writer ∙ ap (λ (r : Row). r.writer) (some_same p.0 row (sym p.1.put ∙ same)) ∙ by) in
            sym its.3.2 ∙ ap (λ (x : TrxId). x.node) of
        | inr (inl p) ↦ absurd (none_some row (sym p.1.put ∙ same))
        | inr (inr p) ↦ absurd (none_some row (sym p.2.put ∙ same))
      ]

  owns_from : (id : TrxId) (made : History) → RunsFrom (opening_pages o) made → ((m : Mtr) → IsIn m made → IsIn m w.pages.history) → AllByRecursion (OwnsPuts id) made
  owns_from id [] runs there = tt
  owns_from id (m ∷ made) runs there = (
    elim (runs.0.kind) [
      | inl p ↦ subst (AllByRecursion (λ (row : Row). row.writer ≡ Some id → m.node ≡ id.node)) (sym p.well.puts)
          ((λ by. put_by_kind m p.row id (there m (inl refl)) (ap (λ (rows : List Row). slice_get rows 0) p.well.puts) by), tt)
      | inr (inl p) ↦ subst (λ (plan : Plan). AllByRecursion (λ (row : Row). row.writer ≡ Some id → m.node ≡ id.node) (rows_put plan)) (sym p.well.one.1) tt
      | inr (inr p) ↦ subst (λ (items : List Record). AllByRecursion (λ (row : Row). row.writer ≡ Some id → m.node ≡ id.node) (rows_put (plan_of items))) (sym p.alone) tt
    ],
    owns_from id made runs.1 (λ x has. there x (inr has)),
  )

  pub owns_puts : (id : TrxId) → AllByRecursion (OwnsPuts id) w.pages.history
  owns_puts id = owns_from id w.pages.history f.of_versions.runs (λ m has. has)
