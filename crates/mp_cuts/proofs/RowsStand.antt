-- What versions stand for, their rows do.
use Rattle.std.proofs.Common.{◌≡◌, ◌≢◌, ℕ, Bool, true, false, cond, List, [], ◌∷◌, ◌++◌, Option, Some, option_map, refl, sym, ap, subst, ◌∙◌, inl, inr}
use Rattle.std.specs.List.{AllByRecursion}
use Rattle.mp_model.specs.declared.ids.TrxId.{TrxId}
use Rattle.mp_cells.specs.declared.rows.Row.{Row}
use Rattle.mp_histories.specs.KeyOps.{same_writer, FirstIs, NoneBy, without_leading, newest_by, newest_below, newest_each, Together}
use Rattle.mp_histories.specs.Commits.{Stamps, IsUnder, Includes, Falls, StandsFor}
use Rattle.mp_histories.specs.Histories.{Version, by_version, rows_of_versions}
use Rattle.mp_histories.proofs.Writers.{decided}
use Rattle.mp_histories.proofs.Live.{leading-same, leading-other}
use Rattle.mp_histories.proofs.MoreStamps.{falls_more}

abbrev pub by_writer : Row → Option TrxId
by_writer row = row.writer

abbrev pub row_of_version : Option Version → Option Row
row_of_version found = option_map (λ (v : Version). v.row) found

rows_append : (vs ws : List Version) → rows_of_versions (vs ++ ws) ≡ rows_of_versions vs ++ rows_of_versions ws
rows_append [] ws = refl
rows_append (v ∷ vs) ws = ap (λ (rows : List Row). v.row ∷ rows) (rows_append vs ws)

-- what is said of each version's writer, is said of its row's
all_rows : (P : Option TrxId → Type 0) (vs : List Version) → AllByRecursion (λ v. P (by_version v)) vs → AllByRecursion (λ r. P (by_writer r)) (rows_of_versions vs)
all_rows P [] all = tt
all_rows P (v ∷ vs) all = (all.0, all_rows P vs all.1)

leading_rows : (w : Option TrxId) (vs : List Version) → rows_of_versions (without_leading by_version w vs) ≡ without_leading by_writer w (rows_of_versions vs)
leading_rows w [] = refl
leading_rows w (v ∷ vs) = elim (decided (same_writer (by_version v) w)) [
  | inl e ↦ ap (λ (xs : List Version). rows_of_versions xs) (leading-same by_version w v vs e) ∙ leading_rows w vs ∙ sym (leading-same by_writer w v.row (rows_of_versions vs) e)
  | inr e ↦ ap (λ (xs : List Version). rows_of_versions xs) (leading-other by_version w v vs e) ∙ sym (leading-other by_writer w v.row (rows_of_versions vs) e)
]

together_rows : (vs : List Version) → Together by_version vs → Together by_writer (rows_of_versions vs)
together_rows [] h = tt
together_rows (v ∷ vs) h = (
  subst (NoneBy by_writer (by_writer v.row)) (leading_rows (by_version v) vs) (all_rows (λ (x : Option TrxId). x ≢ by_version v) (without_leading by_version (by_version v) vs) h.0),
  together_rows vs h.1,
)

newest_rows : (w : Option TrxId) (vs : List Version) → newest_by by_writer w (rows_of_versions vs) ≡ row_of_version (newest_by by_version w vs)
newest_rows w [] = refl
newest_rows w (v ∷ vs) = by_test (same_writer (by_version v) w) (newest_rows w vs)
  where
    by_test : (b : Bool) → newest_by by_writer w (rows_of_versions vs) ≡ row_of_version (newest_by by_version w vs) → cond b (Some v.row) (newest_by by_writer w (rows_of_versions vs)) ≡ row_of_version (cond b (Some v) (newest_by by_version w vs))
    by_test true rest = refl
    by_test false rest = rest

below_rows : (w : Option TrxId) (vs : List Version) → newest_below by_writer w (rows_of_versions vs) ≡ rows_of_versions (newest_below by_version w vs)
below_rows w [] = refl
below_rows w (v ∷ vs) = by_test (same_writer (by_version v) w) (below_rows w vs) (below_rows (by_version v) vs)
  where
    by_test : (b : Bool) → newest_below by_writer w (rows_of_versions vs) ≡ rows_of_versions (newest_below by_version w vs)
        → newest_below by_writer (by_version v) (rows_of_versions vs) ≡ rows_of_versions (newest_below by_version (by_version v) vs) → cond b (newest_below by_writer w (rows_of_versions vs)) (v.row ∷ newest_below by_writer (by_writer v.row) (rows_of_versions vs))
        ≡ rows_of_versions (cond b (newest_below by_version w vs) (v ∷ newest_below by_version (by_version v) vs))
    by_test true rest next = rest
    by_test false rest next = ap (λ (rows : List Row). v.row ∷ rows) next

each_rows : (vs : List Version) → newest_each by_writer (rows_of_versions vs) ≡ rows_of_versions (newest_each by_version vs)
each_rows [] = refl
each_rows (v ∷ vs) = ap (λ (rows : List Row). v.row ∷ rows) (below_rows (by_version v) vs)

first_rows : (P : Option TrxId → Type 0) (vs : List Version) → FirstIs (λ v. P (by_version v)) vs → FirstIs (λ r. P (by_writer r)) (rows_of_versions vs)
first_rows P [] h = tt
first_rows P (v ∷ vs) h = h

module _ (one other : Stamps) where
  falls_rows : (vs : List Version) → Falls by_version one other vs → Falls by_writer one other (rows_of_versions vs)
  falls_rows [] h = tt
  falls_rows (v ∷ vs) h = (first_rows (λ (lower : Option TrxId). IsUnder one other lower (by_version v)) vs h.0, falls_rows vs h.1)

module _ (listed now : Stamps) (more : Includes listed now) (less : Includes now listed)
    (wrote : Option TrxId → Option Version) (put : Option TrxId → Option Row) (same : (id : Option TrxId) (cts : ℕ) → now id cts → row_of_version (wrote id) ≡ put id)
    (last : Row) (versions : List Version) where
  listed_now : (vs : List Version) → AllByRecursion (λ v. (cts : ℕ) × listed (by_version v) cts) vs → AllByRecursion (λ v. (cts : ℕ) × now (by_version v) cts) vs
  listed_now [] all = tt
  listed_now (v ∷ vs) all = ((all.0.0, more (by_version v) all.0.0 all.0.1), listed_now vs all.1)

  -- the rows of versions stand for the same commits, told otherwise
  pub rows_stand : StandsFor by_version listed wrote last versions → StandsFor by_writer now put last (rows_of_versions versions)
  rows_stand s = record {
    unlisted = rows_of_versions s.unlisted;
    rest = rows_of_versions s.rest;
    split_is = ap (λ (vs : List Version). rows_of_versions vs) s.split_is ∙ rows_append s.unlisted s.rest;
    writer = s.writer;
    of_one = all_rows (λ (w : Option TrxId). w ≡ s.writer) s.unlisted s.of_one;
    not_listed = λ cts has. s.not_listed cts (less s.writer cts has);
    each_listed = all_rows (λ (w : Option TrxId). (cts : ℕ) × now w cts) s.rest (listed_now s.rest s.each_listed);
    together = together_rows versions s.together;
    newest_wrote = λ id cts has. newest_rows id versions ∙ ap row_of_version (s.newest_wrote id cts (less id cts has)) ∙ same id cts has;
    falls = subst (Falls by_writer now now) (sym (each_rows s.rest)) (falls_rows now now (newest_each by_version s.rest)
        (falls_more listed listed now now more (λ w c has. inl (less w c has)) by_version (newest_each by_version s.rest) s.falls));
    ends = s.ends;
  }
