-- The mtrs of a valid cut can be redone, and leave a tree whose chains stand for the commits among them.
use Rattle.std.proofs.Common.{◌≡◌, ℕ, ◌<◌, ◌≤◌, nat_lt, Bool, true, false, cond, List, [], ◌∷◌, reverse, filter, Option, Some, None, refl, sym, ap, subst, ◌∙◌, inl, inr}
use Rattle.std.specs.List.{AllByRecursion}
use Rattle.mp_machine.specs.Lists.{IsIn}
use Rattle.mp_model.specs.declared.ids.TrxId.{TrxId}
use Rattle.mp_cells.specs.declared.records.Record.{Record}
use Rattle.mp_cells.specs.declared.records.Record.TheVariants as records
use Rattle.mp_cells.specs.declared.records.Mtr.{Mtr}
use Rattle.mp_cells.specs.declared.rows.Row.{Row}
use Rattle.mp_cells.specs.Trees.{PageMap, IsTree, height_of}
use Rattle.mp_cells.specs.Orders.{sorted_by}
use Rattle.mp_cells.specs.Orders.{placed as placed_at}
use Rattle.mp_histories.specs.KeyOps.{kept_version}
use Rattle.mp_histories.specs.Commits.{Stamps, HasStamp, AreStamps}
use Rattle.mp_histories.specs.Histories.{History, Version, pages_after, by_version, rows_of_versions, ops_on, live_on, commit_records, commits_in}
use Rattle.mp_histories.specs.Chains.{row_of_key, RunsFrom, HasChains, IsPutAt}
use Rattle.mp_histories.specs.Cuts.{log_place}
use Rattle.mp_histories.specs.Stamped.{OpsStandFor}
use Rattle.mp_histories.proofs.Lists.{some_same}
use Rattle.mp_histories.proofs.CleanRows.{clean_plain}
use Rattle.mp_histories.proofs.Standing.{has_chains}
use Rattle.mp_histories.proofs.LiveRows.{live_put_at}
use Rattle.mp_histories.proofs.Kept.{kept_last}
use Rattle.mp_histories.proofs.Cutting.{cut_fits, cut_never}
use Rattle.mp_histories.proofs.MoreStamps.{no_stamp, has_or_not}
use Rattle.mp_histories.proofs.CommitsStand.{IsListing, stands_for}
use Rattle.mp_histories.proofs.Sorting.{all_reverse}
use Rattle.mp_core_trx.specs.Parts.{draw_of}
use Rattle.mp_core_trx.specs.World.{begun_in, drawn_in}
use Rattle.mp_core_trx.proofs.Timestamps.{one_timestamp}
use Rattle.mp_core.specs.declared.opening.CoreOpening.{CoreOpening}
use Rattle.mp_core.specs.World.{CoreWorld}
use Rattle.mp_core.specs.Invariant.{NumbersFit}
use Rattle.mp_facts.specs.Facts.{opening_pages, IsRecorded, IsForced, DrewStamp, CommittedStamp, Facts}
use Rattle.mp_facts.proofs.MtrShapes.{commit_alone}
use Rattle.mp_facts.proofs.RunEntries.{entry_in}
use Rattle.mp_recover.specs.KeptCommits.{kept_commits, stamps_of, wrote_to}
use Rattle.mp_recover.specs.PageRecords.{pages_redone}
use Rattle.mp_recover.specs.Standing.{ChainStands, IsRecoverable}
use Rattle.mp_cuts.specs.ValidCuts.{durable_in, IsValidCut, mtrs_of_cut}
use Rattle.mp_cuts.proofs.OrderedCuts.{cut_is}
use Rattle.mp_cuts.proofs.RedonePages.{in_order, redone_pages}
use Rattle.mp_cuts.proofs.RowsStand.{row_of_version, rows_stand}
use Rattle.mp_cuts.proofs.WroteLast.{in_front, in_back, in_either, OwnsPuts, OwnsCommits, puts_are, kept_to, kept_back, wrote_found, own_puts}
use Rattle.mp_cuts.proofs.OnceCommitted.{HasOneCommit, all_logged_kept, logged_apart, kept_once}
use Rattle.mp_cuts.proofs.RecordedMtrs.{records_in, history_apart, history_one_each, owns_commits, owns_puts}
use Rattle.mp_cuts.proofs.CutHistories.{in_filter, in_reverse, opening_low, kept, cut, durable_kept, is_cut, runs, prevs, above}
use Rattle.mp_cuts.proofs.NothingBack.{never_back}

-- ---- stamps of a history

-- a commit record of the history is among its commits
recorded : (history : History) (m : Mtr) (id : TrxId) (cts : ℕ) → IsIn m history → m.records ≡ records.Commit id cts ∷ [] → HasStamp (commits_in history) (Some id) cts
recorded [] m id cts has is = absurd has
recorded (x ∷ history) m id cts (inl same) is =
    in_front (commit_records x.records) (commits_in history) (Some id) cts
    (subst (λ (items : List Record). HasStamp (commit_records items) (Some id) cts) (sym (ap (λ (y : Mtr). y.records) (sym same) ∙ is)) (inl (refl, refl)))
recorded (x ∷ history) m id cts (inr has) is = in_back (commit_records x.records) (commits_in history) (Some id) cts (recorded history m id cts has is)

-- an mtr that has it
has_record : (P : Mtr → Type 0) (history : History) (writer : Option TrxId) (cts : ℕ) → AllByRecursion P history → HasStamp (commits_in history) writer cts → (m : Mtr) × P m × HasStamp (commit_records m.records) writer cts
has_record P [] writer cts all has = absurd has
has_record P (m ∷ history) writer cts all has = elim (in_either (commit_records m.records) (commits_in history) writer cts has) [
  | inl here ↦ (m, all.0, here)
  | inr later ↦ has_record P history writer cts all.1 later
]

all_in : (history : History) → AllByRecursion (λ m. IsIn m history) history
all_in history = from history (λ m has. has)
  where
    from : (xs : History) → ((m : Mtr) → IsIn m xs → IsIn m history) → AllByRecursion (λ m. IsIn m history) xs
    from [] sub = tt
    from (x ∷ xs) sub = (sub x (inl refl), from xs (λ m has. sub m (inr has)))

keys_of : (made : History) (key : ℕ) (vs : List Version) → AllByRecursion (IsPutAt made key) vs → AllByRecursion (λ (r : Row). r.key ≡ key) (rows_of_versions vs)
keys_of made key [] all = tt
keys_of made key (v ∷ vs) all = (all.0.key_is, keys_of made key vs all.1)

-- sorting loses none
in_placed : (x : Mtr) (xs : List Mtr) (m : Mtr) → IsIn m (x ∷ xs) → IsIn m (placed_at log_place x xs)
in_placed x [] m has = has
in_placed x (y ∷ ys) m has = by_test (nat_lt (log_place y) (log_place x)) has (λ more. in_placed x ys m more)
  where
    by_test : (b : Bool) → IsIn m (x ∷ (y ∷ ys)) → (IsIn m (x ∷ ys) → IsIn m (placed_at log_place x ys)) → IsIn m (cond b (y ∷ placed_at log_place x ys) (x ∷ (y ∷ ys)))
    by_test true (inl same) rest = inr (rest (inl same))
    by_test true (inr (inl same)) rest = inl same
    by_test true (inr (inr there)) rest = inr (rest (inr there))
    by_test false there rest = there

in_sorted : (xs : List Mtr) (m : Mtr) → IsIn m xs → IsIn m (sorted_by log_place xs)
in_sorted [] m has = has
in_sorted (x ∷ xs) m (inl same) = in_placed x (sorted_by log_place xs) m (inl same)
in_sorted (x ∷ xs) m (inr has) = in_placed x (sorted_by log_place xs) m (inr (in_sorted xs m has))

module _ (o : CoreOpening) (fair : NumbersFit o) (w : CoreWorld) (f : Facts o w) (count : ℕ → ℕ) (valid : IsValidCut o w count) where
  abbrev its : History
  its = cut o fair w f.inv count valid

  abbrev durable : Stamps
  durable = CommittedStamp o w

  abbrev drawn : Stamps
  drawn = DrewStamp w

  its_runs : RunsFrom (opening_pages o) its
  its_runs = runs o fair w f.inv count valid f.of_versions.runs

  -- what holds of the history's mtrs holds of the cut's
  all_its : (P : Mtr → Type 0) → AllByRecursion P w.pages.history → AllByRecursion P its
  all_its P all = all_logged_kept P (kept o fair w f.inv count valid) w.pages.history all

  all_mtrs : (P : Mtr → Type 0) → AllByRecursion P w.pages.history → AllByRecursion P (reverse its)
  all_mtrs P all = all_reverse log_place P its (all_its P all)

  -- ---- the commits of the cut: all durable ones, and no others than were drawn

  -- who committed drew, and who drew did so once
  stamps : AreStamps durable drawn
  stamps = record {
    drawn = λ writer cts has.
        let r = has.2.recorded in
        (has.0, has.1, (f.of_versions.commits has.0.node r.made has.0 cts r.was_made r.commit).1);
    once = λ writer a b one other.
        one_timestamp (begun_in w.trx) (drawn_in w.trx) f.inv.trx.drawers one.0.node one.0 a b one.2
        (subst (λ (x : TrxId). IsIn (draw_of x b) (drawn_in w.trx x.node)) (some_same other.0 one.0 (sym other.1 ∙ one.1)) other.2);
  }

  durable_listed : (writer : Option TrxId) (cts : ℕ) → durable writer cts → HasStamp (commits_in its) writer cts
  durable_listed writer cts has =
      let r = has.2.recorded in
      let m = r.made.mtr in
      let there = f.of_history.placed has.0.node r.made r.was_made in
      let made : IsIn m w.pages.history = entry_in r.made.at w.pages.history m there.1 in
      let stays = durable_kept o fair w f.inv count valid m made (subst (λ (n : ℕ). m.llsn ≤ durable_in o w n) (sym there.2) has.2.durable) in
      let first : IsIn m (filter (kept o fair w f.inv count valid) w.pages.history) = in_filter (kept o fair w f.inv count valid) w.pages.history m made stays in
      let there_too : IsIn m its =
      in_reverse (sorted_by log_place (reverse (filter (kept o fair w f.inv count valid) w.pages.history))) m
      (in_sorted (reverse (filter (kept o fair w f.inv count valid) w.pages.history)) m (in_reverse (filter (kept o fair w f.inv count valid) w.pages.history) m first)) in
      subst (λ (x : Option TrxId). HasStamp (commits_in its) x cts) (sym has.1) (recorded its m has.0 cts there_too (commit_alone m.records (draw_of has.0 cts) r.commit))

  drawn_listed : (writer : Option TrxId) (cts : ℕ) → HasStamp (commits_in its) writer cts → drawn writer cts
  drawn_listed None cts has = absurd (no_stamp (commits_in its) cts has)
  drawn_listed (Some id) cts has =
      let m = has_record (λ (x : Mtr). IsIn x w.pages.history) its (Some id) cts (all_its (λ (x : Mtr). IsIn x w.pages.history) (all_in w.pages.history)) has in
      let r = (records_in o w f m.0 m.1 id cts m.2).1 in
      (id, refl, r.drew)

  listing : IsListing durable (HasStamp (commits_in its)) drawn
  listing = record { all = durable_listed; drawn = drawn_listed; no_writer = no_stamp (commits_in its); known = has_or_not (commits_in its) }

  stand : (key : ℕ) → OpsStandFor (commits_in its) (row_of_key (opening_pages o) key) (ops_on key its)
  stand key = stands_for by_version durable (HasStamp (commits_in its)) drawn stamps listing (ops_on key its)
      (cut_fits o.trx.base.llsn (opening_pages o) fair.clean w.pages.history f.of_versions.runs durable drawn key (f.of_versions.fits key) its (is_cut o fair w f.inv count valid))
      (row_of_key (opening_pages o) key) (clean_plain o.trx.base.llsn (opening_pages o) fair.clean key).0

  -- ---- what they wrote

  wrote : (key : ℕ) (id : Option TrxId) (cts : ℕ) → HasStamp (stamps_of (kept_commits (reverse its))) id cts
      → row_of_version (kept_version by_version id (ops_on key its)) ≡ wrote_to key (kept_commits (reverse its)) id
  wrote key None cts has = absurd (no_stamp (stamps_of (kept_commits (reverse its))) cts has)
  wrote key (Some id) cts has =
      let m = has_record (λ (x : Mtr). IsIn x w.pages.history) its (Some id) cts (all_its (λ (x : Mtr). IsIn x w.pages.history) (all_in w.pages.history)) (kept_back its (Some id) cts has) in
      let r = records_in o w f m.0 m.1 id cts m.2 in
      ap row_of_version (kept_last by_version (Some id) (ops_on key its)
      (cut_never o.trx.base.llsn (opening_pages o) fair.clean w.pages.history f.of_versions.runs (Some id) key (never_back o w f m.0 r.0 id cts r.1 key) its (is_cut o fair w f.inv count valid)))
      ∙ sym (puts_are id key (opening_pages o) its its_runs (all_its (OwnsPuts id) (owns_puts o w f id)))
      ∙ sym (wrote_found (reverse its) key id cts (kept_commits (reverse its)) (own_puts (reverse its) (reverse its) (all_mtrs OwnsCommits (owns_commits o w f))) has)

  -- ---- the pages of the cut

  redone_is : pages_redone (opening_pages o) (reverse its) ≡ pages_after (opening_pages o) its
  redone_is = redone_pages o.trx.base.llsn (opening_pages o) fair.clean (opening_low o fair) its its_runs (prevs o fair w f.inv count valid) (all_reverse log_place (λ (m : Mtr). o.trx.base.llsn < m.llsn) its (above o fair w f.inv count valid))

  chains : HasChains (opening_pages o) its
  chains = has_chains o.trx.base.llsn (opening_pages o) fair.clean its its_runs

  chain_stands : (key : ℕ) → ChainStands (kept_commits (reverse its)) (pages_after (opening_pages o) its) key (row_of_key (opening_pages o) key)
  chain_stands key = record {
    versions = rows_of_versions (live_on key its);
    head = chains.head key;
    chain = chains.chain key;
    keys = keys_of its key (live_on key its) (live_put_at o.trx.base.llsn (opening_pages o) fair.clean its its_runs key);
    stands = rows_stand (HasStamp (commits_in its)) (HasStamp (stamps_of (kept_commits (reverse its)))) (λ x cts has. kept_to its x cts has) (λ x cts has. kept_back its x cts has)
        (λ x. kept_version by_version x (ops_on key its)) (wrote_to key (kept_commits (reverse its))) (wrote key) (row_of_key (opening_pages o) key) (live_on key its) (stand key);
  }

  recoverable_cut : IsRecoverable o.trx.base.llsn (row_of_key (opening_pages o)) (opening_pages o) (reverse its)
  recoverable_cut = record {
    in_order = in_order o.trx.base.llsn (opening_pages o) fair.clean (opening_low o fair) its its_runs (prevs o fair w f.inv count valid) (all_reverse log_place (λ (m : Mtr). o.trx.base.llsn < m.llsn) its (above o fair w f.inv count valid));
    once = kept_once (reverse its) (reverse its) (all_mtrs HasOneCommit (history_one_each o w f)) (logged_apart (kept o fair w f.inv count valid) w.pages.history (history_apart o w f));
    tree = subst (λ (pages : PageMap). IsTree pages (height_of pages)) (sym redone_is) chains.tree;
    chains = λ key lt. subst (λ (pages : PageMap). ChainStands (kept_commits (reverse its)) pages key (row_of_key (opening_pages o) key)) (sym redone_is) (chain_stands key);
  }

  pub recoverable : IsRecoverable o.trx.base.llsn (row_of_key (opening_pages o)) (opening_pages o) (mtrs_of_cut w count)
  recoverable = subst (λ (mtrs : List Mtr). IsRecoverable o.trx.base.llsn (row_of_key (opening_pages o)) (opening_pages o) mtrs) (sym (cut_is o fair w f.inv count)) recoverable_cut

  -- ---- its commits

  pub forced_kept : (id : TrxId) (cts : ℕ) → IsForced o w id cts → HasStamp (stamps_of (kept_commits (mtrs_of_cut w count))) (Some id) cts
  forced_kept id cts forced =
      subst (λ (mtrs : List Mtr). HasStamp (stamps_of (kept_commits mtrs)) (Some id) cts) (sym (cut_is o fair w f.inv count))
      (kept_to its (Some id) cts (durable_listed (Some id) cts (id, refl, forced)))

  pub kept_recorded : (id : TrxId) (cts : ℕ) → HasStamp (stamps_of (kept_commits (mtrs_of_cut w count))) (Some id) cts → IsRecorded w id cts
  kept_recorded id cts has =
      let listed = kept_back its (Some id) cts (subst (λ (mtrs : List Mtr). HasStamp (stamps_of (kept_commits mtrs)) (Some id) cts) (cut_is o fair w f.inv count) has) in
      let m = has_record (λ (x : Mtr). IsIn x w.pages.history) its (Some id) cts (all_its (λ (x : Mtr). IsIn x w.pages.history) (all_in w.pages.history)) listed in
      let r = (records_in o w f m.0 m.1 id cts m.2).1 in
      record { made = r.made; was_made = r.was_made; commit = r.told }
