-- A cut that has the record of a commit has all puts of its transaction, in their order.
use Rattle.std.proofs.Common.{◌≡◌, ℕ, ◌<◌, ◌≤◌, ◌==◌, Bool, true, false, cond, if◌then◌else◌, List, [], ◌∷◌, ◌++◌, take, drop, map, filter, reverse, flat_map, slice_get, Option, Some, is_some, refl, sym, ap, subst, ◌∙◌, inl, inr, arith, eq-eqb, append-nil, take-append-drop}
use Rattle.std.specs.List.{AllByRecursion}
use Rattle.std.proofs.lemmas.Grind.{flat_map-append}
use Rattle.mp_machine.specs.Lists.{IsIn}
use Rattle.mp_model.specs.declared.ids.TrxId.{TrxId}
use Rattle.mp_script.proofs.Options.{some_is}
use Rattle.mp_script.proofs.Ordered.{in_left, in_right, from_reverse, in_filter, from_map}
use Rattle.mp_cells.specs.declared.records.Mtr.{Mtr}
use Rattle.mp_cells.specs.declared.records.Record.{Record}
use Rattle.mp_cells.specs.declared.rows.Row.{Row}
use Rattle.mp_cells.specs.Orders.{sorted_by}
use Rattle.mp_cells.specs.Plans.{Plan, plan_of}
use Rattle.mp_cells.specs.Writes.{rows_put}
use Rattle.mp_histories.specs.KeyOps.{same_writer, put_last}
use Rattle.mp_histories.specs.Commits.{HasStamp}
use Rattle.mp_histories.specs.Histories.{entry_at, mtrs_by_node, by_version, ops_on, commit_records}
use Rattle.mp_histories.specs.Cuts.{log_place, in_log_order}
use Rattle.mp_histories.proofs.Lists.{filter-in, filter-out}
use Rattle.mp_histories.proofs.Writers.{decided, same_is}
use Rattle.mp_histories.proofs.Sorting.{Ascends, filter_sorted, sorted_already, all_reverse}
use Rattle.mp_core_trx.specs.Parts.{draw_of}
use Rattle.mp_core_pages.specs.declared.part.Placed.{Placed}
use Rattle.mp_core.specs.declared.opening.CoreOpening.{CoreOpening}
use Rattle.mp_core.specs.World.{CoreWorld}
use Rattle.mp_core.specs.Invariant.{NumbersFit}
use Rattle.mp_core.specs.OwnMtrs.{commit_by_mtr, TrxMtr, trx_mtrs}
use Rattle.mp_facts.specs.Facts.{opening_pages, made_in, MtrsFall, Facts}
use Rattle.mp_facts.proofs.MadeLists.{as_made}
use Rattle.mp_facts.proofs.RunEntries.{entry_runs}
use Rattle.mp_recover.specs.Images.{all_primaries}
use Rattle.mp_recover.specs.KeptCommits.{puts_by, last_put}
use Rattle.mp_cuts.specs.ValidCuts.{mtrs_in_time, mtrs_of_cut}
use Rattle.mp_cuts.proofs.Climbing.{Climbs, climbs_above}
use Rattle.mp_cuts.proofs.NodeLists.{AllOf, all_taken, one_of_all}
use Rattle.mp_cuts.proofs.OrderedCuts.{each_by_in, in_each, has_node, in_time_of, climbs_of, own_of, keep, cut_is}
use Rattle.mp_cuts.proofs.OnceCommitted.{all_logged_kept}
use Rattle.mp_cuts.proofs.RowsStand.{row_of_version}
use Rattle.mp_cuts.proofs.WroteLast.{puts_are}
use Rattle.mp_cuts.proofs.RecordedMtrs.{records_at, owns_puts}
use Rattle.mp_verdict.proofs.PlacesOf.{put_of}

-- ---- lists whose LLSNs climb

climbs_first : (low : ℕ) (xs ys : List Mtr) → Climbs low (xs ++ ys) → Climbs low xs
climbs_first low [] ys up = tt
climbs_first low (x ∷ xs) ys up = (up.0, climbs_first x.llsn xs ys up.1)

climbs_apart : (low : ℕ) (xs ys : List Mtr) → Climbs low (xs ++ ys) → (x y : Mtr) → IsIn x xs → IsIn y ys → x.llsn < y.llsn
climbs_apart low [] ys up x y first later = absurd first
climbs_apart low (z ∷ xs) ys up x y (inl same) later =
    subst (λ (m : Mtr). m.llsn < y.llsn) (sym same) (in_each (λ (m : Mtr). z.llsn < m.llsn) (xs ++ ys) (climbs_above z.llsn (xs ++ ys) up.1) y (in_right y xs ys later))
climbs_apart low (z ∷ xs) ys up x y (inr first) later = climbs_apart z.llsn xs ys up.1 x y first later

places_above : (n : ℕ) (x : Mtr) (xs : List Mtr) → x.node ≡ n → AllOf n xs → AllByRecursion (λ m. x.llsn < m.llsn) xs
    → AllByRecursion (λ m. log_place x ≤ log_place m) xs
places_above n x [] own owns up = tt
places_above n x (y ∷ xs) own owns up = (let a = owns.0 in let b = up.0 in omega (arith, own, a, b), places_above n x xs own owns.1 up.1)

climbs_ascend : (n low : ℕ) (xs : List Mtr) → AllOf n xs → Climbs low xs → Ascends log_place xs
climbs_ascend n low [] owns up = tt
climbs_ascend n low (x ∷ xs) owns up = (places_above n x xs owns.0 owns.1 (climbs_above x.llsn xs up.1), climbs_ascend n x.llsn xs owns.1 up.1)

-- of two mtrs of a node the one with the lower LLSN was made before
fall_apart : (made : List TrxMtr) → MtrsFall made → (x y : TrxMtr) → IsIn x made → IsIn y made → x.mtr.llsn < y.mtr.llsn → x.at < y.at
fall_apart [] falls x y first later lt = absurd first
fall_apart (m ∷ made) falls x y (inl a) (inl b) lt =
    let same : x.mtr.llsn ≡ y.mtr.llsn = ap (λ (t : TrxMtr). t.mtr.llsn) (a ∙ sym b) in
    absurd (omega (arith, same, lt))
fall_apart (m ∷ made) falls x y (inl a) (inr later) lt =
    let same : x.mtr.llsn ≡ m.mtr.llsn = ap (λ (t : TrxMtr). t.mtr.llsn) a in
    let under = (falls.0 y later).1 in
    absurd (omega (arith, same, under, lt))
fall_apart (m ∷ made) falls x y (inr first) (inl b) lt = subst (λ (t : TrxMtr). x.at < t.at) (sym b) (falls.0 x first).0
fall_apart (m ∷ made) falls x y (inr first) (inr later) lt = fall_apart made falls.1 x y first later lt

-- ---- what a node made

from_time : (made : List (Placed Mtr)) (m : Mtr) → IsIn m (map (λ (x : Placed Mtr). x.mtr) (reverse made))
    → (t : TrxMtr) × IsIn t (trx_mtrs made) × (t.mtr ≡ m)
from_time made m has =
    let x = from_map (λ (x : Placed Mtr). x.mtr) (reverse made) m has in
    let t = as_made made x.0 (from_reverse x.0 made x.1) in
    (t.0, t.1, t.3 ∙ x.2)

-- ---- the rows of a transaction

abbrev rows_by : TrxId → ℕ → Mtr → List Row
rows_by id node m = if m.node == node then filter (λ row. same_writer row.writer (Some id)) (rows_put (plan_of m.records)) else []

by_node : (id : TrxId) (node : ℕ) (mtrs : List Mtr) → puts_by id node mtrs ≡ puts_by id node (mtrs_by_node node mtrs)
by_node id node [] = refl
by_node id node (m ∷ mtrs) = elim (decided (m.node == node)) [
  | inl e ↦ ap (λ (rows : List Row). rows_by id node m ++ rows) (by_node id node mtrs) ∙ ap (puts_by id node) (sym (filter-in (λ (x : Mtr). x.node == node) m mtrs e))
  | inr e ↦
      ap (λ (b : Bool). cond b (filter (λ (row : Row). same_writer row.writer (Some id)) (rows_put (plan_of m.records))) [] ++ puts_by id node mtrs) e
      ∙ by_node id node mtrs ∙ ap (puts_by id node) (sym (filter-out (λ (x : Mtr). x.node == node) m mtrs e))
]

none_by : (id : TrxId) (node : ℕ) (mtrs : List Mtr)
    → ((m : Mtr) → IsIn m mtrs → filter (λ row. same_writer row.writer (Some id)) (rows_put (plan_of m.records)) ≡ [])
    → puts_by id node mtrs ≡ []
none_by id node [] none = refl
none_by id node (m ∷ mtrs) none =
    ap (λ (rows : List Row). cond (m.node == node) rows [] ++ puts_by id node mtrs) (none m (inl refl))
    ∙ ap (λ (rows : List Row). rows ++ puts_by id node mtrs) (either (m.node == node))
    ∙ none_by id node mtrs (λ x has. none x (inr has))
  where
    either : (b : Bool) → ◌≡◌ {A = List Row} (cond b [] []) []
    either true = refl
    either false = refl

module _ (o : CoreOpening) (fair : NumbersFit o) (w : CoreWorld) (f : Facts o w) (count : ℕ → ℕ) where
  abbrev kept : ℕ → List Mtr
  kept n = take (count n) (mtrs_in_time w n)

  abbrev later : ℕ → List Mtr
  later n = drop (count n) (mtrs_in_time w n)

  whole_of : (n : ℕ) → kept n ++ later n ≡ mtrs_in_time w n
  whole_of n = take-append-drop (count n) (mtrs_in_time w n)

  climbs_whole : (n : ℕ) → Climbs o.trx.base.llsn (kept n ++ later n)
  climbs_whole n = subst (Climbs o.trx.base.llsn) (sym (whole_of n)) (climbs_of o fair w f.inv n)

  own_kept : (n : ℕ) → AllOf n (kept n)
  own_kept n = all_taken (λ (m : Mtr). m.node ≡ n) (count n) (mtrs_in_time w n) (own_of o fair w f.inv n)

  -- of a node the cut has the first mtrs, in their order
  cut_of_node : (n : ℕ) → 1 ≤ n → n ≤ 8 → mtrs_by_node n (mtrs_of_cut w count) ≡ kept n
  cut_of_node n low high =
      filter_sorted log_place (λ (m : Mtr). m.node == n) (flat_map kept all_primaries)
      ∙ ap (sorted_by log_place) (one_of_all kept own_kept n 1 8 low (omega (arith, high)))
      ∙ sorted_already log_place (kept n) (climbs_ascend n o.trx.base.llsn (kept n) (own_kept n) (climbs_first o.trx.base.llsn (kept n) (later n) (climbs_whole n)))

  in_history : (m : Mtr) → IsIn m (mtrs_of_cut w count) → IsIn m w.pages.history
  in_history m has =
      in_each (λ (x : Mtr). IsIn x w.pages.history) (mtrs_of_cut w count)
      (subst (AllByRecursion (λ (x : Mtr). IsIn x w.pages.history)) (sym (cut_is o fair w f.inv count))
      (all_reverse log_place (λ (x : Mtr). IsIn x w.pages.history) (in_log_order (filter (keep o fair w f.inv count) w.pages.history))
      (all_logged_kept (λ (x : Mtr). IsIn x w.pages.history) (keep o fair w f.inv count) w.pages.history (each_by_in (λ (x : Mtr). IsIn x w.pages.history) w.pages.history (λ x there. there)))))
      m has

  -- the record of a commit that the cut has, as its node has it
  pub record IsKeptRecord (m : Mtr) (id : TrxId) (cts : ℕ) : Type 0 where
    pub made : TrxMtr
    pub was_made : IsIn made (made_in w id.node)
    pub is : made.mtr ≡ m
    pub commit : commit_by_mtr made.mtr ≡ Some (draw_of id cts)
    pub of : made.of ≡ Some id
    pub node : m.node ≡ id.node
    pub first : IsIn m (kept id.node)
    pub fits : (1 ≤ id.node) × (id.node ≤ 8)

  pub kept_record : (m : Mtr) (id : TrxId) (cts : ℕ) → IsIn m (mtrs_of_cut w count) → HasStamp (commit_records m.records) (Some id) cts
      → IsKeptRecord m id cts
  kept_record m id cts has stamp =
      let fits = has_node o fair w f.inv m (in_history m has) in
      let first : IsIn m (kept m.node) = subst (IsIn m) (cut_of_node m.node fits.0 fits.1) (in_filter (λ (x : Mtr). x.node == m.node) m (mtrs_of_cut w count) has (eq-eqb m.node m.node refl)) in
      let t = from_time (w.pages.made m.node) m (subst (IsIn m) (whole_of m.node) (in_left m (kept m.node) (later m.node) first)) in
      let entry = (f.of_history.placed m.node t.0 t.1).1 ∙ ap (λ (x : Mtr). Some x) t.2 in
      let r = records_at o w f m (t.0).at entry id cts stamp in
      let same : r.made.mtr ≡ m = some_is r.made.mtr m (sym (f.of_history.placed id.node r.made r.was_made).1 ∙ ap (λ (k : ℕ). entry_at k w.pages.history) r.at_is ∙ entry) in
      record {
        made = r.made;
        was_made = r.was_made;
        is = same;
        commit = r.told;
        of = r.of;
        node = r.node;
        first = subst (λ (n : ℕ). IsIn m (kept n)) r.node first;
        fits = subst (λ (n : ℕ). (1 ≤ n) × (n ≤ 8)) r.node fits;
      }

  module _ (m : Mtr) (id : TrxId) (cts : ℕ) (r : IsKeptRecord m id cts) where
    abbrev is_its : Row → Bool
    is_its row = same_writer row.writer (Some id)

    -- after its record a transaction puts nothing
    none_after : (t : TrxMtr) → IsIn t (made_in w id.node) → r.made.at < t.at → filter is_its (rows_put (plan_of t.mtr.records)) ≡ []
    none_after t has lt = elim ((entry_runs (opening_pages o) w.pages.history t.at t.mtr f.of_versions.runs (f.of_history.placed id.node t has).1).0.kind) [
      | inl p ↦ ap (filter is_its) p.well.puts ∙ (elim (decided (is_its p.row)) [
        | inl e ↦
            let its : t.of ≡ Some id = sym (put_of o w f id.node t p.row has (ap (λ (rows : List Row). slice_get rows 0) p.well.puts)).writer ∙ same_is p.row.writer (Some id) e in
            let upto = (f.of_versions.commit_last id.node r.made t r.was_made (ap (λ (d : Option _). is_some d) r.commit) has (its ∙ sym r.of)).0 in
            absurd (omega (arith, upto, lt))
        | inr e ↦ filter-out is_its p.row [] e
      ])
      | inr (inl p) ↦ ap (λ (plan : Plan). filter is_its (rows_put plan)) p.well.one.1
      | inr (inr p) ↦ ap (λ (items : List Record). filter is_its (rows_put (plan_of items))) p.alone
    ]

    none_later : (x : Mtr) → IsIn x (later id.node) → filter is_its (rows_put (plan_of x.records)) ≡ []
    none_later x has =
        let t = from_time (w.pages.made id.node) x (subst (IsIn x) (whole_of id.node) (in_right x (kept id.node) (later id.node) has)) in
        let up = climbs_apart o.trx.base.llsn (kept id.node) (later id.node) (climbs_whole id.node) m x r.first has in
        let low : r.made.mtr.llsn ≡ m.llsn = ap (λ (y : Mtr). y.llsn) r.is in
        let high : (t.0).mtr.llsn ≡ x.llsn = ap (λ (y : Mtr). y.llsn) t.2 in
        let lt = fall_apart (made_in w id.node) (f.of_history.in_order id.node) r.made t.0 r.was_made t.1 (omega (arith, up, low, high)) in
        ap (λ (y : Mtr). filter is_its (rows_put (plan_of y.records))) (sym t.2) ∙ none_after t.0 t.1 lt

    all_puts : puts_by id id.node (mtrs_of_cut w count) ≡ puts_by id id.node (reverse w.pages.history)
    all_puts =
        by_node id id.node (mtrs_of_cut w count)
        ∙ ap (puts_by id id.node) (cut_of_node id.node r.fits.0 r.fits.1)
        ∙ sym (append-nil (puts_by id id.node (kept id.node)))
        ∙ ap (λ (rows : List Row). puts_by id id.node (kept id.node) ++ rows) (sym (none_by id id.node (later id.node) none_later))
        ∙ sym (flat_map-append (rows_by id id.node) (kept id.node) (later id.node))
        ∙ ap (puts_by id id.node) (whole_of id.node ∙ in_time_of o fair w f.inv id.node)
        ∙ sym (by_node id id.node (reverse w.pages.history))

    -- the last of them of a key is what the transaction put there last
    pub last_kept : (key : ℕ)
        → last_put key (puts_by id id.node (mtrs_of_cut w count)) ≡ row_of_version (put_last by_version (Some id) (ops_on key w.pages.history))
    last_kept key = ap (last_put key) all_puts ∙ puts_are id key (opening_pages o) w.pages.history f.of_versions.runs (owns_puts o w f id)
