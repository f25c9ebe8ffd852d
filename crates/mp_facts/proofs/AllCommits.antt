-- The versions that stand, stand for the commits with a record.
use Rattle.std.proofs.Common.{◌≡◌, ℕ, ◌==◌, ◌⊎◌, Bool, true, false, List, [], ◌∷◌, ◌++◌, length, Option, Some, is_some, refl, sym, ap, subst, ◌∙◌, inl, inr, append_assoc, arith}
use Rattle.std.proofs.lemmas.Bool.{eqb-true}
use Rattle.mp_machine.specs.Lists.{IsIn}
use Rattle.mp_model.specs.declared.ids.TrxId.{TrxId}
use Rattle.mp_cells.specs.declared.records.Record.{Record}
use Rattle.mp_cells.specs.declared.records.Record.TheVariants as records
use Rattle.mp_cells.specs.declared.records.Mtr.{Mtr}
use Rattle.mp_cells.specs.declared.rows.Row.{Row}
use Rattle.mp_cells.specs.declared.changes.Change.TheVariants.{RestoreRow}
use Rattle.mp_cells.specs.Trees.{PageMap}
use Rattle.mp_cells.specs.Plans.{plan_of}
use Rattle.mp_cells.specs.Writes.{rows_put, rows_restored}
use Rattle.mp_histories.proofs.Lists.{some_same, none_some}
use Rattle.mp_core_pages.proofs.Choices.{if_equal}
use Rattle.mp_core_trx.specs.declared.part.Draw.{Draw}
use Rattle.mp_core_trx.specs.Parts.{draw_of}
use Rattle.mp_core_trx.specs.World.{drawn_in}
use Rattle.mp_core_pages.specs.declared.part.Placed.{Placed}
use Rattle.mp_core_pages.specs.Histories.{placed}
use Rattle.mp_histories.specs.KeyOps.{is_top, NeverBack}
use Rattle.mp_histories.specs.Commits.{Stamp, HasStamp}
use Rattle.mp_histories.specs.Histories.{History, older, entry_at, by_version, ops_on, live_on, commit_records, commits_in}
use Rattle.mp_histories.specs.Chains.{row_of_key, RunsFrom}
use Rattle.mp_histories.proofs.Writers.{decided, same_is}
use Rattle.mp_histories.proofs.CleanRows.{clean_plain}
use Rattle.mp_histories.proofs.Standing.{has_chains}
use Rattle.mp_histories.proofs.Kept.{kept_last}
use Rattle.mp_histories.proofs.MtrSteps.{put_on, back_on, none_on}
use Rattle.mp_histories.proofs.MoreStamps.{no_stamp, has_or_not}
use Rattle.mp_histories.proofs.CommitsStand.{IsListing, stands_for}
use Rattle.mp_core.specs.declared.opening.CoreOpening.{CoreOpening}
use Rattle.mp_core.specs.OwnMtrs.{row_restored_by, commit_told, commit_by_mtr, TrxMtr, trx_mtrs}
use Rattle.mp_core.specs.World.{CoreWorld}
use Rattle.mp_core.specs.Invariant.{NumbersFit, CoreInv}
use Rattle.mp_facts.specs.Facts.{opening_pages}
use Rattle.mp_facts.specs.Standing.{CommitsStand}
use Rattle.mp_facts.proofs.MadeLists.{as_made}
use Rattle.mp_facts.proofs.Entries.{stands_at, made_at, entry_stays}
use Rattle.mp_facts.proofs.MtrShapes.{restore_shape}
use Rattle.mp_facts.proofs.RunEntries.{entry_within, entry_in}
use Rattle.mp_facts.proofs.LiveSteps.{older_all, older_one}
use Rattle.mp_histories.proofs.Noting.{older_stays}
use Rattle.mp_facts.proofs.WriteSteps.{are_stamps}
use Rattle.mp_facts.proofs.Joint.{DurableStamp, DrawnStamp, Joint}

-- the mtrs before one of a history
older_split : (newer : History) (m : Mtr) (before : History) → older (length before) (newer ++ m ∷ before) ≡ before
older_split newer m before =
    older_stays (length before) newer (m ∷ before) (omega arith) ∙ older_one (length before) m before (omega arith) ∙ older_all before

-- ---- stamps of a history

in_front : (stamps more : List Stamp) (writer : Option TrxId) (cts : ℕ) → HasStamp stamps writer cts → HasStamp (stamps ++ more) writer cts
in_front [] more writer cts has = absurd has
in_front (s ∷ stamps) more writer cts (inl is) = inl is
in_front (s ∷ stamps) more writer cts (inr has) = inr (in_front stamps more writer cts has)

in_back : (stamps more : List Stamp) (writer : Option TrxId) (cts : ℕ) → HasStamp more writer cts → HasStamp (stamps ++ more) writer cts
in_back [] more writer cts has = has
in_back (s ∷ stamps) more writer cts has = inr (in_back stamps more writer cts has)

in_either : (stamps more : List Stamp) (writer : Option TrxId) (cts : ℕ) → HasStamp (stamps ++ more) writer cts → HasStamp stamps writer cts ⊎ HasStamp more writer cts
in_either [] more writer cts has = inr has
in_either (s ∷ stamps) more writer cts (inl is) = inl (inl is)
in_either (s ∷ stamps) more writer cts (inr has) = elim (in_either stamps more writer cts has) [
  | inl front ↦ inl (inr front)
  | inr back ↦ inr back
]

-- a commit record of the history is among its commits
recorded : (history : History) (m : Mtr) (id : TrxId) (cts : ℕ) → IsIn m history → m.records ≡ records.Commit id cts ∷ [] → HasStamp (commits_in history) (Some id) cts
recorded [] m id cts has is = absurd has
recorded (x ∷ history) m id cts (inl same) is =
    in_front (commit_records x.records) (commits_in history) (Some id) cts
    (subst (λ (items : List Record). HasStamp (commit_records items) (Some id) cts) (sym (ap (λ (y : Mtr). y.records) (sym same) ∙ is)) (inl (refl, refl)))
recorded (x ∷ history) m id cts (inr has) is = in_back (commit_records x.records) (commits_in history) (Some id) cts (recorded history m id cts has is)

-- each of them is that of an mtr which is one commit record
record RecordOf (history : History) (writer : Option TrxId) (cts : ℕ) : Type 0 where
  at : ℕ
  mtr : Mtr
  entry : entry_at at history ≡ Some mtr
  id : TrxId
  by : Some id ≡ writer
  told : commit_by_mtr mtr ≡ Some (draw_of id cts)

later_record : (m : Mtr) (history : History) (writer : Option TrxId) (cts : ℕ) → RecordOf history writer cts → RecordOf (m ∷ history) writer cts
later_record m history writer cts r = record {
  at = r.at;
  mtr = r.mtr;
  entry = entry_stays (m ∷ []) history r.at (entry_within r.at history r.mtr r.entry) ∙ r.entry;
  id = r.id;
  by = r.by;
  told = r.told;
}

first_record : (opening : PageMap) (m : Mtr) (history : History) (writer : Option TrxId) (cts : ℕ) → RunsFrom opening (m ∷ history) → HasStamp (commit_records m.records) writer cts → RecordOf (m ∷ history) writer cts
first_record opening m history writer cts runs has = elim (runs.0.kind) [
  | inl p ↦ absurd (subst (λ (stamps : List Stamp). HasStamp stamps writer cts) p.no_commit has)
  | inr (inl p) ↦ absurd (subst (λ (stamps : List Stamp). HasStamp stamps writer cts) p.no_commit has)
  | inr (inr p) ↦ one_commit p.id p.cts p.alone (subst (λ (items : List Record). HasStamp (commit_records items) writer cts) p.alone has)
]
  where
    one_commit : (id : TrxId) (c : ℕ) → m.records ≡ records.Commit id c ∷ [] → ((Some id ≡ writer) × (c ≡ cts)) ⊎ ⊥ → RecordOf (m ∷ history) writer cts
    one_commit id c alone (inl is) = record {
      at = length history;
      mtr = m;
      entry = if_equal (length history) (length history) (Some m) (entry_at (length history) history) refl;
      id = id;
      by = is.0;
      told = ap commit_told alone ∙ ap (λ (t : ℕ). Some (draw_of id t)) is.1;
    }
    one_commit id c alone (inr none) = absurd none

record_of : (opening : PageMap) (history : History) (writer : Option TrxId) (cts : ℕ) → RunsFrom opening history → HasStamp (commits_in history) writer cts → RecordOf history writer cts
record_of opening [] writer cts runs has = absurd has
record_of opening (m ∷ history) writer cts runs has = by_place (in_either (commit_records m.records) (commits_in history) writer cts has) (record_of opening history writer cts runs.1)
  where
    by_place : HasStamp (commit_records m.records) writer cts ⊎ HasStamp (commits_in history) writer cts → (HasStamp (commits_in history) writer cts → RecordOf history writer cts) → RecordOf (m ∷ history) writer cts
    by_place (inl here) rest = first_record opening m history writer cts runs here
    by_place (inr back) rest = later_record m history writer cts (rest back)

module _ (o : CoreOpening) (fair : NumbersFit o) (w : CoreWorld) (i : CoreInv o w) (j : Joint o w) where
  -- the mtr of an entry, as its node knows it
  made_entry : (at : ℕ) (m : Mtr) → entry_at at w.pages.history ≡ Some m → (t : TrxMtr) × IsIn t (trx_mtrs (w.pages.made m.node)) × (t.at ≡ at) × (t.mtr ≡ m)
  made_entry at m is = as_made (w.pages.made m.node) (placed at m) (subst (λ (l : List (Placed Mtr)). IsIn (placed at m) l) (sym (i.pages.mtr_history.own m.node)) (made_at w.pages.history at m is))

  -- a listed commit, as the node of its transaction knows it
  listed_made : (writer : Option TrxId) (cts : ℕ) → HasStamp (commits_in w.pages.history) writer cts → (id : TrxId) × (t : TrxMtr) × (writer ≡ Some id) × IsIn t (trx_mtrs (w.pages.made id.node)) × (commit_by_mtr t.mtr ≡ Some (draw_of id cts)) × (t.of ≡ Some id) × IsIn (draw_of id cts) (drawn_in w.trx id.node)
  listed_made writer cts has =
      let r = record_of (opening_pages o) w.pages.history writer cts j.runs has in
      let t = made_entry r.at r.mtr r.entry in
      let told : commit_by_mtr t.0.mtr ≡ Some (draw_of r.id cts) = ap (λ (x : Mtr). commit_by_mtr x) t.3 ∙ r.told in
      let drew = j.commits r.mtr.node t.0 r.id cts t.1 told in
      let its = j.of_begun r.mtr.node t.0 t.1 in
      let node : r.mtr.node ≡ r.id.node = sym its.2 ∙ ap (λ (x : TrxId). x.node) (some_same its.0 r.id (sym its.1 ∙ drew.0)) in
      (r.id, t.0, sym r.by, subst (λ (k : ℕ). IsIn t.0 (trx_mtrs (w.pages.made k))) node t.1, told, drew.0, subst (λ (k : ℕ). IsIn (draw_of r.id cts) (drawn_in w.trx k)) node drew.1)

  listing : IsListing (DurableStamp o.trx.base.llsn w.pages.made w.pages.durables) (HasStamp (commits_in w.pages.history)) (DrawnStamp (drawn_in w.trx))
  listing = record {
    all = λ writer cts has.
        let r = has.2 in
        let stands = stands_at has.0.node w.pages.history r.commit (subst (λ (l : List (Placed Mtr)). IsIn r.commit l) (i.pages.mtr_history.own has.0.node) r.is_made) in
        subst (λ (x : Option TrxId). HasStamp (commits_in w.pages.history) x cts) (sym has.1) (recorded w.pages.history r.commit.mtr has.0 cts (entry_in r.commit.at w.pages.history r.commit.mtr stands.entry) r.records);
    drawn = λ writer cts has. let made = listed_made writer cts has in (made.0, made.2, made.6);
    no_writer = no_stamp (commits_in w.pages.history);
    known = has_or_not (commits_in w.pages.history);
  }

  -- ---- nothing of who committed was put back
  module _ (id : TrxId) (c : TrxMtr) (made : IsIn c (trx_mtrs (w.pages.made id.node))) (told : is_some (commit_by_mtr c.mtr) ≡ true) (of : c.of ≡ Some id) (key : ℕ) where
    -- the first mtrs, of which the last restores
    not_its : (m : Mtr) (before newer : History) (row : Row) → w.pages.history ≡ newer ++ m ∷ before → row_restored_by m ≡ Some row → row.key ≡ key → is_top by_version (Some id) (live_on key before) ≡ true → ⊥
    not_its m before newer row split back is_key top =
        let entry : entry_at (length before) w.pages.history ≡ Some m = ap (entry_at (length before)) split ∙ entry_stays newer (m ∷ before) (length before) (omega arith) ∙ if_equal (length before) (length before) (Some m) (entry_at (length before) before) refl in
        let t = made_entry (length before) m entry in
        let taken = j.put_back m.node t.0 t.1 row (ap (λ (x : Mtr). row_restored_by x) t.3 ∙ back) in
        let first : older t.0.at w.pages.history ≡ before = ap (λ (k : ℕ). older k w.pages.history) t.2 ∙ ap (older (length before)) split ∙ older_split newer m before in
        let live_is : live_on key before ≡ taken.0 ∷ taken.1 = sym (ap (λ (h : History). live_on row.key h) first ∙ ap (λ (k : ℕ). live_on k before) is_key) ∙ taken.2 in
        let by : Some id ≡ t.0.of = sym (same_is taken.0.row.writer (Some id) (sym (ap (is_top by_version (Some id)) live_is) ∙ top)) ∙ taken.3 in
        let its = j.of_begun m.node t.0 t.1 in
        let node : m.node ≡ id.node = sym its.2 ∙ ap (λ (x : TrxId). x.node) (some_same its.0 id (sym its.1 ∙ sym by)) in
        let none = (j.last id.node c t.0 made told (subst (λ (k : ℕ). IsIn t.0 (trx_mtrs (w.pages.made k))) node t.1) (sym by ∙ sym of)).1 in
        none_some row (sym none ∙ ap (λ (x : Mtr). row_restored_by x) t.3 ∙ back)

    put_by : (m : Mtr) (before : History) (row : Row) → rows_put (plan_of m.records) ≡ row ∷ [] → rows_restored (plan_of m.records) ≡ [] → NeverBack by_version (Some id) (ops_on key before) → (b : Bool) → (row.key == key) ≡ b → NeverBack by_version (Some id) (ops_on key (m ∷ before))
    put_by m before row puts back rest true e = subst (NeverBack by_version (Some id)) (sym (put_on m row puts back key true e before)) rest
    put_by m before row puts back rest false e = subst (NeverBack by_version (Some id)) (sym (put_on m row puts back key false e before)) rest

    back_by : (m : Mtr) (before newer : History) (row : Row) (page : ℕ) → w.pages.history ≡ newer ++ m ∷ before → plan_of m.records ≡ (page, RestoreRow row) ∷ [] → NeverBack by_version (Some id) (ops_on key before) → (b : Bool) → (row.key == key) ≡ b → NeverBack by_version (Some id) (ops_on key (m ∷ before))
    back_by m before newer row page split one rest true e = subst (NeverBack by_version (Some id)) (sym (back_on m row page one key true e before)) (
      elim (decided (is_top by_version (Some id) (live_on key before))) [
        | inl top ↦ absurd (not_its m before newer row split (restore_shape m page row one).restored (eqb-true row.key key e) top)
        | inr other ↦ other
      ],
      rest,
    )
    back_by m before newer row page split one rest false e = subst (NeverBack by_version (Some id)) (sym (back_on m row page one key false e before)) rest

    never : (made_first newer : History) → w.pages.history ≡ newer ++ made_first → RunsFrom (opening_pages o) made_first → NeverBack by_version (Some id) (ops_on key made_first)
    never [] newer split runs = tt
    never (m ∷ before) newer split runs =
        let rest = never before (newer ++ m ∷ []) (split ∙ sym (append_assoc newer (m ∷ []) before)) runs.1 in
        elim (runs.0.kind) [
          | inl p ↦ put_by m before p.row p.well.puts p.well.restores rest (p.row.key == key) refl
          | inr (inl p) ↦ back_by m before newer p.row p.well.one.0 split p.well.one.1 rest (p.row.key == key) refl
          | inr (inr p) ↦ subst (NeverBack by_version (Some id)) (sym (none_on m p key before)) rest
        ]

  pub commits_stand : CommitsStand o w
  commits_stand = record {
    chains = has_chains o.trx.base.llsn (opening_pages o) fair.clean w.pages.history j.runs;
    stands = λ key. stands_for by_version (DurableStamp o.trx.base.llsn w.pages.made w.pages.durables) (HasStamp (commits_in w.pages.history)) (DrawnStamp (drawn_in w.trx)) (are_stamps o w i j) listing
        (ops_on key w.pages.history) (j.fits key) (row_of_key (opening_pages o) key) (clean_plain o.trx.base.llsn (opening_pages o) fair.clean key).0;
    wrote = λ id cts key has.
        let made = listed_made (Some id) cts has in
        let same : made.0 ≡ id = some_same made.0 id (sym made.2) in
        kept_last by_version (Some id) (ops_on key w.pages.history)
        (never id made.1 (subst (λ (x : TrxId). IsIn made.1 (trx_mtrs (w.pages.made x.node))) same made.3) (ap (λ (x : Option Draw). is_some x) made.4) (made.5 ∙ ap (λ (x : TrxId). Some x) same) key w.pages.history [] refl j.runs);
  }
