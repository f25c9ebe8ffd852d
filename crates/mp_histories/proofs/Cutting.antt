-- A cut of a history of well-made mtrs is one itself, and its puts come over what they came over.
use Rattle.std.proofs.Common.{◌≡◌, ℕ, ◌==◌, true, false, List, [], ◌∷◌, ◌++◌, length, Option, refl, sym, ap, subst, ◌∙◌, inl, inr}
use Rattle.std.proofs.lemmas.Bool.{eqb-true}
use Rattle.mp_model.specs.declared.ids.TrxId.{TrxId}
use Rattle.mp_cells.specs.declared.records.Mtr.{Mtr}
use Rattle.mp_cells.specs.declared.rows.Row.{Row}
use Rattle.mp_cells.specs.Trees.{PageMap, IsClean}
use Rattle.mp_cells.specs.Plans.{plan_of}
use Rattle.mp_histories.specs.KeyOps.{KeyOp, put, restore, same_writer, FirstIs, without_leading, below_top, is_top, NeverBack}
use Rattle.mp_histories.specs.Commits.{Stamps, MayCover, PutsFit}
use Rattle.mp_histories.specs.Histories.{History, pages_after, Version, by_version, rows_of_versions, ops_of, ops_on, live_on}
use Rattle.mp_histories.specs.Chains.{row_over, row_of_key, MakesPut, MakesRestore, WellMade, RunsFrom}
use Rattle.mp_histories.specs.Cuts.{IsOrigin, IsCut}
use Rattle.mp_histories.proofs.Writers.{decided}
use Rattle.mp_histories.proofs.Live.{leading-same, leading-other}
use Rattle.mp_histories.proofs.MtrSteps.{put_on, back_on, none_on}
use Rattle.mp_histories.proofs.Standing.{has_chains, runs_before}
use Rattle.mp_histories.proofs.Contents.{put_else, restore_else}
use Rattle.mp_histories.proofs.Former.{same_former, same_replaced}
use Rattle.mp_histories.proofs.CutPages.{origin_agrees, same_versions}
use Rattle.mp_histories.proofs.Lists.{append_middle}

-- the versions below the newest one's writer's, as rows
abbrev by_row : Row → Option TrxId
by_row row = row.writer

rows_leading : (w : Option TrxId) (vs : List Version) → rows_of_versions (without_leading by_version w vs) ≡ without_leading by_row w (rows_of_versions vs)
rows_leading w [] = refl
rows_leading w (v ∷ vs) = elim (decided (same_writer (by_version v) w)) [
  | inl e ↦ ap (λ (xs : List Version). rows_of_versions xs) (leading-same by_version w v vs e) ∙ rows_leading w vs ∙ sym (leading-same by_row w v.row (rows_of_versions vs) e)
  | inr e ↦ ap (λ (xs : List Version). rows_of_versions xs) (leading-other by_version w v vs e) ∙ sym (leading-other by_row w v.row (rows_of_versions vs) e)
]

rows_below : (vs : List Version) → rows_of_versions (below_top by_version vs) ≡ below_top by_row (rows_of_versions vs)
rows_below [] = refl
rows_below (v ∷ vs) = rows_leading (by_version v) vs

below_same : (vs ws : List Version) → rows_of_versions vs ≡ rows_of_versions ws → rows_of_versions (below_top by_version vs) ≡ rows_of_versions (below_top by_version ws)
below_same vs ws e = rows_below vs ∙ ap (below_top by_row) e ∙ sym (rows_below ws)

-- what is said of the first version's writer, is said of its row
first_row : (P : Option TrxId → Type 0) (vs : List Version) → FirstIs (λ v. P (by_version v)) vs → FirstIs (λ r. P (by_row r)) (rows_of_versions vs)
first_row P [] h = tt
first_row P (v ∷ vs) h = h

first_version : (P : Option TrxId → Type 0) (vs : List Version) → FirstIs (λ r. P (by_row r)) (rows_of_versions vs) → FirstIs (λ v. P (by_version v)) vs
first_version P [] h = tt
first_version P (v ∷ vs) h = h

first_same : (P : Option TrxId → Type 0) (vs ws : List Version) → rows_of_versions vs ≡ rows_of_versions ws → FirstIs (λ v. P (by_version v)) ws → FirstIs (λ v. P (by_version v)) vs
first_same P vs ws e h = first_version P vs (subst (FirstIs (λ (r : Row). P (by_row r))) (sym e) (first_row P ws h))

-- what fits, fits after the first operations
fits_before : (committed drew : Stamps) (later earlier : List (KeyOp Version)) → PutsFit by_version committed drew (later ++ earlier) → PutsFit by_version committed drew earlier
fits_before committed drew [] earlier h = h
fits_before committed drew (put v ∷ later) earlier h = fits_before committed drew later earlier h.1
fits_before committed drew (restore ∷ later) earlier h = fits_before committed drew later earlier h

pub fits_earlier : (committed drew : Stamps) (key : ℕ) (later earlier : History) → PutsFit by_version committed drew (ops_on key (later ++ earlier)) → PutsFit by_version committed drew (ops_on key earlier)
fits_earlier committed drew key [] earlier h = h
fits_earlier committed drew key (mtr ∷ later) earlier h =
    fits_earlier committed drew key later earlier (fits_before committed drew (ops_of key (length (later ++ earlier)) (plan_of mtr.records)) (ops_on key (later ++ earlier)) h)

module _ (base : ℕ) (opening : PageMap) (clean : IsClean base opening) (made : History) (runs : RunsFrom opening made) where
  module _ (mtr : Mtr) (cut : History) (o : IsOrigin made mtr cut) (is_cut : IsCut made cut) (cut_runs : RunsFrom opening cut) where
    origin_runs : RunsFrom opening (mtr ∷ o.earlier)
    origin_runs = runs_before opening o.later (mtr ∷ o.earlier) (subst (RunsFrom opening) o.split_is runs)

    -- the versions of a key, where the mtr comes over one row
    origin_versions : (key : ℕ) → row_of_key (pages_after opening cut) key ≡ row_of_key (pages_after opening o.earlier) key → rows_of_versions (live_on key cut) ≡ rows_of_versions (live_on key o.earlier)
    origin_versions key head = same_versions base opening clean made runs cut (o.later ++ mtr ∷ []) o.earlier (o.split_is ∙ append_middle o.later mtr o.earlier) is_cut cut_runs key head

    put_head : (p : MakesPut opening o.earlier mtr) → row_of_key (pages_after opening cut) p.row.key ≡ row_of_key (pages_after opening o.earlier) p.row.key
    put_head p = same_former (plan_of mtr.records) p.row (pages_after opening o.earlier) (pages_after opening cut) p.well (origin_agrees opening made mtr cut o)
        (has_chains base opening clean o.earlier origin_runs.1).tree (has_chains base opening clean cut cut_runs).tree

    back_head : (p : MakesRestore opening o.earlier mtr) → row_of_key (pages_after opening cut) p.row.key ≡ row_of_key (pages_after opening o.earlier) p.row.key
    back_head p = same_replaced (plan_of mtr.records) p.row (pages_after opening o.earlier) (pages_after opening cut) p.well (origin_agrees opening made mtr cut o)
        (has_chains base opening clean o.earlier origin_runs.1).tree (has_chains base opening clean cut cut_runs).tree

    put_again : MakesPut opening o.earlier mtr → MakesPut opening cut mtr
    put_again p = record {
      row = p.row;
      writer = p.writer;
      well = put_else (plan_of mtr.records) (pages_after opening o.earlier) (pages_after opening cut) p.row (origin_agrees opening made mtr cut o) p.well;
      no_commit = p.no_commit;
    }

    back_again : MakesRestore opening o.earlier mtr → MakesRestore opening cut mtr
    back_again p = record {
      row = p.row;
      well = restore_else (plan_of mtr.records) (pages_after opening o.earlier) (pages_after opening cut) p.row (origin_agrees opening made mtr cut o) p.well;
      former = p.former ∙ ap (λ (rs : List Row). row_over rs (row_of_key opening p.row.key)) (sym (below_same (live_on p.row.key cut) (live_on p.row.key o.earlier) (origin_versions p.row.key (back_head p))));
      no_commit = p.no_commit;
    }

    well_again : WellMade opening cut mtr
    well_again = record {
      llsn = origin_runs.0.llsn;
      kind = elim (origin_runs.0.kind) [
        | inl p ↦ inl (put_again p)
        | inr (inl p) ↦ inr (inl (back_again p))
        | inr (inr p) ↦ inr (inr p)
      ];
    }

    -- ---- what a put comes over

    module _ (committed drew : Stamps) (key : ℕ) (fit : PutsFit by_version committed drew (ops_on key (mtr ∷ o.earlier))) (rest : PutsFit by_version committed drew (ops_on key cut)) where
      put_fits : (p : MakesPut opening o.earlier mtr) → PutsFit by_version committed drew (ops_on key (mtr ∷ cut))
      put_fits p = elim (decided (p.row.key == key)) [
        | inl e ↦
            let here = subst (PutsFit by_version committed drew) (put_on mtr p.row p.well.puts p.well.restores key true e o.earlier) fit in
            let key_is : p.row.key ≡ key = eqb-true p.row.key key e in
            let head : row_of_key (pages_after opening cut) key ≡ row_of_key (pages_after opening o.earlier) key = subst (λ (k : ℕ). row_of_key (pages_after opening cut) k ≡ row_of_key (pages_after opening o.earlier) k) key_is (put_head p) in
            let over = first_same (λ (w : Option TrxId). MayCover committed drew w p.row.writer) (live_on key cut) (live_on key o.earlier) (origin_versions key head) here.0 in
            subst (PutsFit by_version committed drew) (sym (put_on mtr p.row p.well.puts p.well.restores key true e cut)) (over, rest)
        | inr e ↦ subst (PutsFit by_version committed drew) (sym (put_on mtr p.row p.well.puts p.well.restores key false e cut)) rest
      ]

      back_fits : (p : MakesRestore opening o.earlier mtr) → PutsFit by_version committed drew (ops_on key (mtr ∷ cut))
      back_fits p = elim (decided (p.row.key == key)) [
        | inl e ↦ subst (PutsFit by_version committed drew) (sym (back_on mtr p.row p.well.one.0 p.well.one.1 key true e cut)) rest
        | inr e ↦ subst (PutsFit by_version committed drew) (sym (back_on mtr p.row p.well.one.0 p.well.one.1 key false e cut)) rest
      ]

      again_fits : PutsFit by_version committed drew (ops_on key (mtr ∷ cut))
      again_fits = elim (origin_runs.0.kind) [
        | inl p ↦ put_fits p
        | inr (inl p) ↦ back_fits p
        | inr (inr p) ↦ subst (PutsFit by_version committed drew) (sym (none_on mtr p key cut)) rest
      ]

  pub cut_runs : (cut : History) → IsCut made cut → RunsFrom opening cut
  cut_runs [] h = tt
  cut_runs (mtr ∷ cut) h = let rest = cut_runs cut h.1 in (well_again mtr cut h.0 h.1 rest, rest)

  pub cut_fits : (committed drew : Stamps) (key : ℕ) → PutsFit by_version committed drew (ops_on key made) → (cut : History) → IsCut made cut → PutsFit by_version committed drew (ops_on key cut)
  cut_fits committed drew key fit [] h = tt
  cut_fits committed drew key fit (mtr ∷ cut) h =
      let all : PutsFit by_version committed drew (ops_on key (h.0.later ++ mtr ∷ h.0.earlier)) = subst (λ (ms : History). PutsFit by_version committed drew (ops_on key ms)) h.0.split_is fit in
      again_fits mtr cut h.0 h.1 (cut_runs cut h.1) committed drew key (fits_earlier committed drew key h.0.later (mtr ∷ h.0.earlier) all) (cut_fits committed drew key fit cut h.1)

  -- ---- no restore of a cut takes off versions of a writer of which none did

  never_earlier : (writer : Option TrxId) (key : ℕ) (later earlier : History) → NeverBack by_version writer (ops_on key (later ++ earlier)) → NeverBack by_version writer (ops_on key earlier)
  never_earlier writer key [] earlier h = h
  never_earlier writer key (mtr ∷ later) earlier h = never_earlier writer key later earlier (never_before (ops_of key (length (later ++ earlier)) (plan_of mtr.records)) (ops_on key (later ++ earlier)) h)
    where
      never_before : (front rest : List (KeyOp Version)) → NeverBack by_version writer (front ++ rest) → NeverBack by_version writer rest
      never_before [] rest n = n
      never_before (put v ∷ front) rest n = never_before front rest n
      never_before (restore ∷ front) rest n = never_before front rest n.1

  top_same : (writer : Option TrxId) (vs ws : List Version) → rows_of_versions vs ≡ rows_of_versions ws → is_top by_version writer vs ≡ is_top by_version writer ws
  top_same writer vs ws e = by_rows vs ∙ ap (is_top by_row writer) e ∙ sym (by_rows ws)
    where
      by_rows : (xs : List Version) → is_top by_version writer xs ≡ is_top by_row writer (rows_of_versions xs)
      by_rows [] = refl
      by_rows (x ∷ xs) = refl

  never_again : (writer : Option TrxId) (key : ℕ) (mtr : Mtr) (cut : History) (o : IsOrigin made mtr cut) → IsCut made cut → NeverBack by_version writer (ops_on key (mtr ∷ o.earlier)) → NeverBack by_version writer (ops_on key cut) → NeverBack by_version writer (ops_on key (mtr ∷ cut))
  never_again writer key mtr cut o is_cut here rest =
      let again = cut_runs cut is_cut in
      elim ((origin_runs mtr cut o is_cut again).0.kind) [
        | inl p ↦ (elim (decided (p.row.key == key)) [
          | inl e ↦ subst (NeverBack by_version writer) (sym (put_on mtr p.row p.well.puts p.well.restores key true e cut)) rest
          | inr e ↦ subst (NeverBack by_version writer) (sym (put_on mtr p.row p.well.puts p.well.restores key false e cut)) rest
        ])
        | inr (inl p) ↦ (elim (decided (p.row.key == key)) [
          | inl e ↦
              let key_is : p.row.key ≡ key = eqb-true p.row.key key e in
              let head : row_of_key (pages_after opening cut) key ≡ row_of_key (pages_after opening o.earlier) key = subst (λ (k : ℕ). row_of_key (pages_after opening cut) k ≡ row_of_key (pages_after opening o.earlier) k) key_is (back_head mtr cut o is_cut again p) in
              let before = subst (NeverBack by_version writer) (back_on mtr p.row p.well.one.0 p.well.one.1 key true e o.earlier) here in
              subst (NeverBack by_version writer) (sym (back_on mtr p.row p.well.one.0 p.well.one.1 key true e cut))
              (top_same writer (live_on key cut) (live_on key o.earlier) (origin_versions mtr cut o is_cut again key head) ∙ before.0, rest)
          | inr e ↦ subst (NeverBack by_version writer) (sym (back_on mtr p.row p.well.one.0 p.well.one.1 key false e cut)) rest
        ])
        | inr (inr p) ↦ subst (NeverBack by_version writer) (sym (none_on mtr p key cut)) rest
      ]

  pub cut_never : (writer : Option TrxId) (key : ℕ) → NeverBack by_version writer (ops_on key made) → (cut : History) → IsCut made cut → NeverBack by_version writer (ops_on key cut)
  cut_never writer key never [] h = tt
  cut_never writer key never (mtr ∷ cut) h =
      let all : NeverBack by_version writer (ops_on key (h.0.later ++ mtr ∷ h.0.earlier)) = subst (λ (ms : History). NeverBack by_version writer (ops_on key ms)) h.0.split_is never in
      never_again writer key mtr cut h.0 h.1 (never_earlier writer key h.0.later (mtr ∷ h.0.earlier) all) (cut_never writer key never cut h.1)
