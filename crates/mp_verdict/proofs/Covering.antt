-- Who puts a row above another transaction's has that one's commit in its view, and below its put.
use Rattle.std.proofs.Common.{◌≡◌, ◌≢◌, ℕ, ◌<◌, ◌≤◌, ◌==◌, Bool, true, cond, List, [], ◌∷◌, ◌++◌, length, Option, Some, None, is_some, refl, sym, ap, subst, ◌∙◌, inl, inr, arith, append_assoc, slice_get, ne_eqb, ◌+◌}
use mathlib.Core.Bool.{false≢true}
use Rattle.std.specs.List.{AllByRecursion}
use Rattle.std.proofs.lemmas.Bool.{eqb-true}
use Rattle.std.proofs.lemmas.List.{length-append}
use Rattle.mp_machine.specs.Lists.{IsIn}
use Rattle.mp_model.specs.declared.ids.TrxId.{TrxId}
use Rattle.mp_script.proofs.Options.{some_is, not_some}
use Rattle.mp_cells.specs.declared.records.Mtr.{Mtr}
use Rattle.mp_cells.specs.declared.rows.Row.{Row}
use Rattle.mp_cells.specs.Writes.{undo_at}
use Rattle.mp_core_trx.specs.Parts.{draw_of}
use Rattle.mp_core_trx.specs.World.{drawn_in}
use Rattle.mp_histories.specs.KeyOps.{put, same_writer, live, newest_by, newest_below, kept_version}
use Rattle.mp_histories.specs.Commits.{AreStamps, PutsFit}
use Rattle.mp_histories.specs.Histories.{History, older, entry_at, pages_after, Version, by_version, rows_of_versions, ops_on, live_on}
use Rattle.mp_histories.specs.Chains.{LinksTo, IsChain, row_of_key, RunsFrom, IsPutAt}
use Rattle.mp_histories.proofs.Writers.{decided, same_is, other_is, other_from}
use Rattle.mp_histories.proofs.ChainFacts.{links_one}
use Rattle.mp_histories.proofs.Cutting.{fits_earlier}
use Rattle.mp_histories.proofs.Falling.{FallsBelow, FallsUnder, newest_below-same, newest_below-other, live_falls, fit_orderly}
use Rattle.mp_histories.proofs.Kept.{newest-same, newest-other, kept_newest, kept_last}
use Rattle.mp_histories.proofs.KeySteps.{link_stays}
use Rattle.mp_histories.proofs.Noting.{older_first}
use Rattle.mp_histories.proofs.LiveRows.{live_put_at}
use Rattle.mp_core.specs.declared.opening.CoreOpening.{CoreOpening}
use Rattle.mp_core.specs.Invariant.{NumbersFit}
use Rattle.mp_core.specs.World.{CoreWorld}
use Rattle.mp_core.specs.OwnMtrs.{row_put_by, row_kept_by, commit_by_mtr, TrxMtr}
use Rattle.mp_facts.specs.Facts.{opening_pages, pages_now, pages_at_height, live_at_height, made_in, IsForced, DrewStamp, CommittedStamp, Facts}
use Rattle.mp_verdict.specs.Reads.{PutBelow, PutOf}
use Rattle.mp_verdict.specs.WriteOrder.{PutsOverSettled, IsWholeBelow, CommittedBefore}
use Rattle.mp_verdict.proofs.PlacesOf.{DoesPut, does, one_newer, put_of, in_its_node, well_here, older_here, older_with}
use Rattle.mp_verdict.proofs.LastPuts.{Says, put_last_says, never_back}
use Rattle.mp_verdict.proofs.OthersFit.{forced_drew, drew_once}
use Rattle.mp_supports.proofs.ShownRows.{runs_at}
use Rattle.mp_verdict.proofs.ShownChains.{chain_at, committed_below}

-- the history around a place
pub record IsPlacedAt (at : ℕ) (mtr : Mtr) (history : History) : Type 0 where
  pub newer : History
  pub made : History
  pub split_is : history ≡ newer ++ mtr ∷ made
  pub count : length made ≡ at

pub placed_at : (at : ℕ) (mtr : Mtr) (history : History) → entry_at at history ≡ Some mtr → IsPlacedAt at mtr history
placed_at at mtr [] e = absurd (not_some mtr e)
placed_at at mtr (x ∷ made) e = elim (decided (length made == at)) [
  | inl here ↦
      let is : x ≡ mtr = some_is x mtr (sym (ap (λ (b : Bool). cond b (Some x) (entry_at at made)) here) ∙ e) in
      record { newer = []; made = made; split_is = ap (λ (y : Mtr). y ∷ made) is; count = eqb-true (length made) at here }
  | inr below ↦
      let rest = placed_at at mtr made (sym (ap (λ (b : Bool). cond b (Some x) (entry_at at made)) below) ∙ e) in
      record { newer = x ∷ rest.newer; made = rest.made; split_is = ap (λ (h : History). x ∷ h) rest.split_is; count = rest.count }
]

-- a writer's newest version is one of them, and the writer's
newest_has : (P : Version → Type 0) (u : Option TrxId) (vs : List Version) (v : Version) → newest_by by_version u vs ≡ Some v → AllByRecursion P vs → P v × (by_version v ≡ u)
newest_has P u [] v e all = absurd (not_some v e)
newest_has P u (x ∷ xs) v e all = elim (decided (same_writer (by_version x) u)) [
  | inl same ↦
      let is : x ≡ v = some_is x v (sym (newest-same by_version u x xs same) ∙ e) in
      (subst P is all.0, subst (λ (y : Version). by_version y ≡ u) is (same_is (by_version x) u same))
  | inr other ↦ newest_has P u xs v (sym (newest-other by_version u x xs other) ∙ e) all.1
]

module _ (o : CoreOpening) (w : CoreWorld) (facts : Facts o w) where
  pub stamps_of : AreStamps (CommittedStamp o w) (DrewStamp w)
  stamps_of = record {
    drawn = λ writer cts c. (c.0, c.1, forced_drew o w facts c.0 cts c.2);
    once = λ writer a b h k.
        let same : h.0 ≡ k.0 = some_is h.0 k.0 (sym h.1 ∙ k.1) in
        drew_once o w facts k.0 a b (subst (λ (x : TrxId). IsIn (draw_of x a) (drawn_in w.trx x.node)) same h.2) k.2;
  }

  -- below a commit all are committed, at or below it
  under_all : (bound : ℕ) (u : Option TrxId) (c : ℕ) → CommittedStamp o w u c → c ≤ bound → (vs : List Version) → FallsBelow by_version (CommittedStamp o w) (DrewStamp w) u vs → AllByRecursion (λ v. (d : ℕ) × CommittedStamp o w (by_version v) d × (d ≤ bound)) vs
  under_all bound u c commit le [] falls = tt
  under_all bound u c commit le (v ∷ vs) falls = elim (decided (same_writer (by_version v) u)) [
    | inl same ↦ (
      (c, subst (λ (x : Option TrxId). CommittedStamp o w x c) (sym (same_is (by_version v) u same)) commit, le),
      under_all bound u c commit le vs (subst (FallsUnder by_version (CommittedStamp o w) (DrewStamp w) u) (newest_below-same by_version u v vs same) falls),
    )
    | inr other ↦
        let g : FallsUnder by_version (CommittedStamp o w) (DrewStamp w) u (v ∷ newest_below by_version (by_version v) vs) = subst (FallsUnder by_version (CommittedStamp o w) (DrewStamp w) u) (newest_below-other by_version u v vs other) falls in
        let below : g.0.cts < c = g.0.lower c (stamps_of.drawn u c commit) in
        let lower : g.0.cts ≤ bound = omega (arith, below, le) in
        ((g.0.cts, g.0.commit, lower), under_all bound (by_version v) g.0.cts g.0.commit lower vs g.1)
  ]

  -- every commit record of a transaction stands at one place
  pub record_upto : (id : TrxId) (cts : ℕ) (f : IsForced o w id cts) (c : TrxMtr) → IsIn c (made_in w id.node) → is_some (commit_by_mtr c.mtr) ≡ true → c.of ≡ Some id → f.recorded.made.at ≤ c.at
  record_upto id cts f c there commits of =
      let its = (facts.of_versions.commits id.node f.recorded.made id cts f.recorded.was_made f.recorded.commit).0 in
      (facts.of_versions.commit_last id.node c f.recorded.made there commits f.recorded.was_made (its ∙ sym of)).0

-- what stands among the first mtrs stands there in all
pub entry_stays : (newer made : History) (at : ℕ) → at < length made → entry_at at (newer ++ made) ≡ entry_at at made
entry_stays [] made at lt = refl
entry_stays (x ∷ newer) made at lt =
    let long : length (newer ++ made) ≢ at = λ e. absurd (omega (arith, e, lt, length-append newer made)) in
    ap (λ (b : Bool). cond b (Some x) (entry_at at (newer ++ made))) (ne_eqb (length (newer ++ made)) at long) ∙ entry_stays newer made at lt

module _ (o : CoreOpening) (w : CoreWorld) (fit : NumbersFit o) (facts : Facts o w) (id under : TrxId) (key view height : ℕ) (apart : under ≢ id) (over : PutsOverSettled w id view) where
  abbrev IsVersion : Version → Type 0
  IsVersion v = IsPutAt (older height w.pages.history) key v

  entry_now : (v : Version) (p : IsVersion v) → entry_at v.at w.pages.history ≡ Some p.mtr
  entry_now v p =
      let split = older_first height w.pages.history in
      ap (entry_at v.at) split.split_is ∙ entry_stays split.newer (older height w.pages.history) v.at p.before ∙ p.entry

  -- the version under one of the transaction's, of another, is settled for its view
  settled_under : (v x : Version) → (p : IsVersion v) → by_version v ≡ Some id → LinksTo (undo_at (pages_now o w)) v.row x.row → is_some x.row.writer ≡ true → by_version x ≢ Some id → (c : ℕ) × CommittedStamp o w (by_version x) c × (c ≤ view)
  settled_under v x p own links written other =
      let entry = entry_now v p in
      let place = placed_at v.at p.mtr w.pages.history entry in
      let made = facts.of_history.all_made v.at p.mtr entry in
      let puts : row_put_by p.mtr ≡ Some v.row = ap (λ (rows : List Row). slice_get rows 0) p.puts in
      let puts_here : row_put_by (made.0).mtr ≡ Some v.row = ap row_put_by made.3 ∙ puts in
      let of : (made.0).of ≡ Some id = sym (put_of o w facts p.mtr.node made.0 v.row made.1 puts_here).writer ∙ own in
      let former = over made.0 v.row (in_its_node o w facts p.mtr.node made.0 id made.1 of) of puts_here in
      let kept : row_kept_by p.mtr ≡ Some former.0 = ap row_kept_by (sym made.3) ∙ former.1 in
      let replaced : former.0 ≡ row_of_key (pages_at_height o w v.at) v.row.key = facts.of_history.replaced v.at p.mtr v.row former.0 entry puts kept in
      let runs = subst (RunsFrom (opening_pages o)) place.split_is facts.of_versions.runs in
      let linked : LinksTo (undo_at (pages_now o w)) v.row (row_of_key (pages_after (opening_pages o) place.made) v.row.key) =
      subst (λ (h : History). LinksTo (undo_at (pages_after (opening_pages o) h)) v.row (row_of_key (pages_after (opening_pages o) place.made) v.row.key)) (sym place.split_is)
      (link_stays o.trx.base.llsn (opening_pages o) fit.clean place.newer place.made p.mtr v.row runs p.puts) in
      let then : older v.at w.pages.history ≡ place.made = ap (λ (k : ℕ). older k w.pages.history) (sym place.count) ∙ older_here o w facts place.newer p.mtr place.made place.split_is in
      let same : former.0 ≡ x.row = replaced ∙ ap (λ (h : History). row_of_key (pages_after (opening_pages o) h) v.row.key) then ∙ links_one (undo_at (pages_now o w)) v.row (row_of_key (pages_after (opening_pages o) place.made) v.row.key) x.row linked links in
      elim former.2 [
        | inl its ↦ absurd (other (ap (λ (r : Row). r.writer) (sym same) ∙ its))
        | inr (inl none) ↦ absurd (false≢true (ap (λ (u : Option TrxId). is_some u) (sym none ∙ ap (λ (r : Row). r.writer) same) ∙ written))
        | inr (inr below) ↦
            let c = committed_below o w fit facts id.node view former.0 below in
            (c.0, subst (λ (r : Row). CommittedStamp o w r.writer c.0) same c.1, c.2)
      ]

  other_than : (x : Version) → by_version x ≡ Some id → by_version x ≢ Some under
  other_than x is = λ (e : by_version x ≡ Some under). apart (some_is under id (sym e ∙ is))

  -- down from one of the transaction's versions, the other transaction's is committed in its view
  in_view : (v : Version) (vs : List Version) → AllByRecursion IsVersion (v ∷ vs) → by_version v ≡ Some id → IsChain (undo_at (pages_now o w)) (rows_of_versions (v ∷ vs)) (row_of_key (opening_pages o) key)
      → FallsBelow by_version (CommittedStamp o w) (DrewStamp w) (Some id) vs → (u : Version) → newest_by by_version (Some under) vs ≡ Some u → (c : ℕ) × CommittedStamp o w (Some under) c × (c ≤ view)
  in_view v [] all own chain falls u newest = absurd (not_some u newest)
  in_view v (x ∷ xs) all own chain falls u newest = elim (decided (same_writer (by_version x) (Some id))) [
    | inl same ↦
        let its = same_is (by_version x) (Some id) same in
        in_view x xs all.1 its chain.1 (subst (FallsUnder by_version (CommittedStamp o w) (DrewStamp w) (Some id)) (newest_below-same by_version (Some id) x xs same) falls) u
        (sym (newest-other by_version (Some under) x xs (other_from (by_version x) (Some under) (other_than x its))) ∙ newest)
    | inr other ↦
        let settled = settled_under v x all.0 own chain.0 all.1.0.writer (other_is (by_version x) (Some id) other) in
        let g : FallsUnder by_version (CommittedStamp o w) (DrewStamp w) (Some id) (x ∷ newest_below by_version (by_version x) xs) = subst (FallsUnder by_version (CommittedStamp o w) (DrewStamp w) (Some id)) (newest_below-other by_version (Some id) x xs other) falls in
        let each = under_all o w facts view (by_version x) settled.0 settled.1 settled.2 xs g.1 in
        let it = newest_has (λ (y : Version). (d : ℕ) × CommittedStamp o w (by_version y) d × (d ≤ view)) (Some under) (x ∷ xs) u newest (settled, each) in
        (it.0.0, subst (λ (y : Option TrxId). CommittedStamp o w y it.0.0) it.1 it.0.1, it.0.2)
  ]

  -- and its commit record was made before the version above
  recorded_before : (v : Version) (vs upper : List Version) → live_at_height w height key ≡ upper ++ v ∷ vs → AllByRecursion IsVersion (v ∷ vs) → by_version v ≢ Some under → (u : Version) → newest_by by_version (Some under) vs ≡ Some u
      → (c : TrxMtr) × IsIn c (made_in w under.node) × (is_some (commit_by_mtr c.mtr) ≡ true) × (c.of ≡ Some under) × (c.at + 1 < length (older height w.pages.history))
  recorded_before v [] upper stands all other u newest = absurd (not_some u newest)
  recorded_before v (x ∷ xs) upper stands all other u newest = elim (decided (same_writer (by_version x) (Some under))) [
    | inl same ↦
        let its = same_is (by_version x) (Some under) same in
        let c = facts.of_versions.covers_earlier key v x upper xs height stands (λ (e : by_version v ≡ by_version x). other (e ∙ its)) in
        let is : c.0 ≡ under = some_is c.0 under (sym c.2 ∙ its) in
        let at : (c.1).at < v.at = c.6 in
        let before : v.at < length (older height w.pages.history) = all.0.before in
        (c.1, subst (λ (y : TrxId). IsIn c.1 (made_in w y.node)) is c.3, c.4, c.5 ∙ ap (λ (y : TrxId). Some y) is, omega (arith, at, before))
    | inr apart_too ↦
        recorded_before x xs (upper ++ v ∷ []) (stands ∙ sym (append_assoc upper (v ∷ []) (x ∷ xs))) all.1 (other_is (by_version x) (Some under) apart_too) u
        (sym (newest-other by_version (Some under) x xs apart_too) ∙ newest)
  ]

module _ (o : CoreOpening) (w : CoreWorld) (fit : NumbersFit o) (facts : Facts o w) (id under : TrxId) (key view : ℕ) (apart : under ≢ id) (over : PutsOverSettled w id view)
    (k : TrxMtr) (s : Row) (upper : PutOf w id key k s) (m : TrxMtr) (r : Row) (lower : PutOf w under key m r) (before : m.at < k.at) (whole : IsWholeBelow w under k.at) where
  place : IsPlacedAt k.at k.mtr w.pages.history
  place = placed_at k.at k.mtr w.pages.history (facts.of_history.placed id.node k upper.was_made).1

  all_fit : PutsFit by_version (CommittedStamp o w) (DrewStamp w) (ops_on key (place.newer ++ k.mtr ∷ place.made))
  all_fit = subst (λ (h : History). PutsFit by_version (CommittedStamp o w) (DrewStamp w) (ops_on key h)) place.split_is (facts.of_versions.fits key)

  earlier_fit : PutsFit by_version (CommittedStamp o w) (DrewStamp w) (ops_on key place.made)
  earlier_fit = fits_earlier (CommittedStamp o w) (DrewStamp w) key (place.newer ++ k.mtr ∷ []) place.made (subst (λ (h : History). PutsFit by_version (CommittedStamp o w) (DrewStamp w) (ops_on key h)) (one_newer place.newer k.mtr place.made) all_fit)

  -- the transaction below has a version that stood
  newest_under : (u : Version) × (newest_by by_version (Some under) (live_on key place.made) ≡ Some u)
  newest_under = found (kept_version by_version (Some under) (ops_on key place.made)) refl
    where
      split : w.pages.history ≡ (place.newer ++ k.mtr ∷ []) ++ place.made
      split = place.split_is ∙ one_newer place.newer k.mtr place.made

      count : length place.made ≡ k.at
      count = place.count

      says : Says o w facts under key (length place.made) (kept_version by_version (Some under) (ops_on key place.made))
      says =
          let never = never_back o w facts under key k.at whole (place.newer ++ k.mtr ∷ []) place.made split (omega (arith, count)) in
          subst (Says o w facts under key (length place.made)) (sym (kept_last by_version (Some under) (ops_on key place.made) never)) (put_last_says o w facts under key (place.newer ++ k.mtr ∷ []) place.made split)

      put_there : PutBelow w under key (length place.made) m r
      put_there = record { was_made = lower.was_made; of = lower.of; put = lower.put; its_key = lower.its_key; below = omega (arith, count, before) }

      kept_is : kept_version by_version (Some under) (ops_on key place.made) ≡ newest_by by_version (Some under) (live_on key place.made)
      kept_is = kept_newest by_version (Some under) (ops_on key place.made) (fit_orderly by_version (CommittedStamp o w) (DrewStamp w) (stamps_of o w facts) (ops_on key place.made) earlier_fit)

      found : (x : Option Version) → kept_version by_version (Some under) (ops_on key place.made) ≡ x → (u : Version) × (newest_by by_version (Some under) (live_on key place.made) ≡ Some u)
      found (Some u) is = (u, sym kept_is ∙ is)
      found None is = absurd (subst (Says o w facts under key (length place.made)) is says m r put_there)

  module _ (p : DoesPut key k.mtr place.made) where
    abbrev top_version : Version
    top_version = record { at = length place.made; row = p.row }

    abbrev height : ℕ
    height = length (k.mtr ∷ place.made)

    its_own : by_version top_version ≡ Some id
    its_own =
        let is : p.row ≡ s = some_is p.row s (sym p.puts ∙ upper.put) in
        ap (λ (x : Row). x.writer) is ∙ (put_of o w facts id.node k s upper.was_made upper.put).writer ∙ upper.of

    then : older height w.pages.history ≡ k.mtr ∷ place.made
    then = older_with o w facts place.newer k.mtr place.made place.split_is

    stands : live_at_height w height key ≡ top_version ∷ live_on key place.made
    stands = ap (live_on key) then ∙ ap (live by_version) p.ops

    versions : AllByRecursion (IsPutAt (older height w.pages.history) key) (top_version ∷ live_on key place.made)
    versions = subst (AllByRecursion (IsPutAt (older height w.pages.history) key)) stands (live_put_at o.trx.base.llsn (opening_pages o) fit.clean (older height w.pages.history) (runs_at o w fit facts height) key)

    chain : IsChain (undo_at (pages_now o w)) (rows_of_versions (top_version ∷ live_on key place.made)) (row_of_key (opening_pages o) key)
    chain = subst (λ (vs : List Version). IsChain (undo_at (pages_now o w)) (rows_of_versions vs) (row_of_key (opening_pages o) key)) stands (chain_at o w fit facts height key).chain

    falls : FallsBelow by_version (CommittedStamp o w) (DrewStamp w) (Some id) (live_on key place.made)
    falls =
        let here = fits_earlier (CommittedStamp o w) (DrewStamp w) key place.newer (k.mtr ∷ place.made) all_fit in
        let fit_here = subst (PutsFit by_version (CommittedStamp o w) (DrewStamp w)) p.ops here in
        let down : FallsBelow by_version (CommittedStamp o w) (DrewStamp w) (by_version top_version) (live_on key place.made) = live_falls by_version (CommittedStamp o w) (DrewStamp w) (put top_version ∷ ops_on key place.made) fit_here in
        subst (λ (u : Option TrxId). FallsBelow by_version (CommittedStamp o w) (DrewStamp w) u (live_on key place.made)) its_own down

    before_put : CommittedBefore o w under view k.at
    before_put =
        let newest = newest_under in
        let c = in_view o w fit facts id under key view height apart over top_version (live_on key place.made) versions its_own chain falls newest.0 newest.1 in
        let e = recorded_before o w fit facts id under key view height apart over top_version (live_on key place.made) [] stands versions (other_than o w fit facts id under key view height apart over top_version its_own) newest.0 newest.1 in
        let is : c.1.0 ≡ under = some_is c.1.0 under (sym c.1.1) in
        let forced : IsForced o w under c.0 = subst (λ (x : TrxId). IsForced o w x c.0) is c.1.2 in
        let upto = record_upto o w facts under c.0 forced e.0 e.1 e.2 e.3 in
        let long : length (older height w.pages.history) ≡ length (k.mtr ∷ place.made) = ap (λ (h : History). length h) then in
        let count : length place.made ≡ k.at = place.count in
        let early = e.4 in
        record { cts = c.0; forced = forced; in_view = c.2; early = omega (arith, upto, long, count, early) }

  pub covered : CommittedBefore o w under view k.at
  covered = elim (does (opening_pages o) place.made k.mtr key (well_here o w facts place.newer k.mtr place.made place.split_is)) [
    | inl p ↦ before_put p
    | inr (inl b) ↦ absurd (not_some s (sym b.no_put ∙ upper.put))
    | inr (inr n) ↦ absurd (n.other s upper.put upper.its_key)
  ]
