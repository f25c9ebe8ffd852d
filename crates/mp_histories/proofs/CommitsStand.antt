-- The versions that stand, stand for the commits that are listed.
use Rattle.std.proofs.Common.{◌≡◌, ◌⊎◌, ℕ, cond, List, [], ◌∷◌, ◌++◌, Option, None, refl, sym, ap, subst, ◌∙◌, inl, inr}
use Rattle.std.specs.List.{AllByRecursion}
use Rattle.mp_model.specs.declared.ids.TrxId.{TrxId}
use Rattle.mp_cells.specs.declared.rows.Row.{Row}
use Rattle.mp_histories.specs.KeyOps.{KeyOp, same_writer, without_leading, live, kept_version, newest_by, newest_below, newest_each}
use Rattle.mp_histories.specs.Commits.{Stamps, AreStamps, PutsFit, Falls, StandsFor}
use Rattle.mp_histories.proofs.Writers.{decided, same_is}
use Rattle.mp_histories.proofs.Live.{leading-same, leading-other, together_live}
use Rattle.mp_histories.proofs.Kept.{kept_newest}
use Rattle.mp_histories.proofs.Falling.{newest_leading, all_of, committed_below, live_falls, fit_orderly}
use Rattle.mp_histories.proofs.MoreStamps.{falls_more}

-- what is listed: all commits, and nothing that wasn't drawn; it is known of each writer whether it is listed
pub record IsListing (committed listed drew : Stamps) : Type 0 where
  pub all : (w : Option TrxId) (cts : ℕ) → committed w cts → listed w cts
  pub drawn : (w : Option TrxId) (cts : ℕ) → listed w cts → drew w cts
  pub no_writer : (cts : ℕ) → listed None cts → ⊥
  pub known : (w : Option TrxId) → ((cts : ℕ) × listed w cts) ⊎ ((cts : ℕ) → listed w cts → ⊥)

module _ {T : Type 0} (by : T → Option TrxId) where
  -- the leading versions of a writer
  leading : Option TrxId → List T → List T
  leading w [] = []
  leading w (v ∷ vs) = cond (same_writer (by v) w) (v ∷ leading w vs) []

  record IsSplit (w : Option TrxId) (vs : List T) : Type 0 where
    front : List T
    split_is : vs ≡ front ++ without_leading by w vs
    own : AllByRecursion (λ v. by v ≡ w) front

  split_leading : (w : Option TrxId) (vs : List T) → IsSplit w vs
  split_leading w [] = record { front = []; split_is = refl; own = tt }
  split_leading w (v ∷ vs) = elim (decided (same_writer (by v) w)) [
    | inl e ↦
        let rest = split_leading w vs in
        record { front = v ∷ rest.front; split_is = ap (λ (xs : List T). v ∷ xs) (rest.split_is ∙ ap (λ (xs : List T). rest.front ++ xs) (sym (leading-same by w v vs e))); own = (same_is (by v) w e, rest.own) }
    | inr e ↦ record { front = []; split_is = sym (leading-other by w v vs e); own = tt }
  ]

  module _ (committed listed drew : Stamps) (stamps : AreStamps committed drew) (listing : IsListing committed listed drew) (ops : List (KeyOp T)) (fit : PutsFit by committed drew ops) (last : Row) (no_writer : last.writer ≡ None) where
    as_listed : (vs : List T) → Falls by committed drew vs → Falls by listed listed vs
    as_listed vs f = falls_more committed drew listed listed listing.all (λ w c h. inl (listing.drawn w c h)) by vs f

    newest_kept : (id : Option TrxId) (cts : ℕ) → listed id cts → newest_by by id (live by ops) ≡ kept_version by id ops
    newest_kept id cts h = sym (kept_newest by id ops (fit_orderly by committed drew stamps ops fit))

    by_versions : (vs : List T) → live by ops ≡ vs → StandsFor by listed (λ id. kept_version by id ops) last (live by ops)
    by_versions [] e = record {
      unlisted = [];
      rest = [];
      split_is = e;
      writer = None;
      of_one = tt;
      not_listed = listing.no_writer;
      each_listed = tt;
      together = together_live by ops (fit_orderly by committed drew stamps ops fit);
      newest_wrote = newest_kept;
      falls = tt;
      ends = no_writer;
    }
    by_versions (t ∷ ts) e =
        let falls : Falls by committed drew (newest_each by (t ∷ ts)) = subst (λ (vs : List T). Falls by committed drew (newest_each by vs)) e (live_falls by committed drew ops fit) in
        elim (listing.known (by t)) [
          | inl is ↦ record {
            unlisted = [];
            rest = t ∷ ts;
            split_is = e;
            writer = None;
            of_one = tt;
            not_listed = listing.no_writer;
            each_listed = (is, all_of by committed drew (λ (w : Option TrxId). (cts : ℕ) × listed w cts) (λ w cts h. (cts, listing.all w cts h)) (by t) is ts falls);
            together = together_live by ops (fit_orderly by committed drew stamps ops fit);
            newest_wrote = newest_kept;
            falls = as_listed (newest_each by (t ∷ ts)) falls;
            ends = no_writer;
          }
          | inr not ↦
              let split = split_leading (by t) ts in
              record {
                unlisted = t ∷ split.front;
                rest = without_leading by (by t) ts;
                split_is = e ∙ ap (λ (xs : List T). t ∷ xs) split.split_is;
                writer = by t;
                of_one = (refl, split.own);
                not_listed = not;
                each_listed = below_listed (without_leading by (by t) ts) (committed_below by committed drew (by t) ts falls);
                together = together_live by ops (fit_orderly by committed drew stamps ops fit);
                newest_wrote = newest_kept;
                falls = subst (Falls by listed listed) (sym (newest_leading by (by t) ts)) (as_listed (newest_below by (by t) ts) falls.1);
                ends = no_writer;
              }
        ]
      where
        below_listed : (vs : List T) → AllByRecursion (λ v. (cts : ℕ) × committed (by v) cts) vs → AllByRecursion (λ v. (cts : ℕ) × listed (by v) cts) vs
        below_listed [] h = tt
        below_listed (v ∷ vs) h = ((h.0.0, listing.all (by v) h.0.0 h.0.1), below_listed vs h.1)

    pub stands_for : StandsFor by listed (λ id. kept_version by id ops) last (live by ops)
    stands_for = by_versions (live by ops) refl
