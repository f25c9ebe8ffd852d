-- Where each put may cover what it comes over, the writers of the versions that stand fall: each lies under the one
-- above.
use Rattle.std.proofs.Common.{◌≡◌, ◌≢◌, ◌⊎◌, ℕ, ◌<◌, Bool, true, false, cond, List, [], ◌∷◌, Option, refl, sym, ap, subst, ◌∙◌, inl, inr, arith}
use Rattle.std.specs.List.{AllByRecursion}
use Rattle.mp_model.specs.declared.ids.TrxId.{TrxId}
use Rattle.mp_histories.specs.KeyOps.{KeyOp, put, restore, same_writer, FirstIs, without_leading, below_top, live, is_top, NoneBy, Orderly, newest_below, newest_each}
use Rattle.mp_histories.specs.Commits.{Stamps, IsUnder, MayCover, AreStamps, PutsFit, Falls}
use Rattle.mp_histories.proofs.Writers.{decided, same_is, same_from, other_is}
use Rattle.mp_histories.proofs.Live.{leading-same, leading-other}

module _ {T : Type 0} (by : T → Option TrxId) where
  pub newest_below-same : (w : Option TrxId) (v : T) (vs : List T) → same_writer (by v) w ≡ true → newest_below by w (v ∷ vs) ≡ newest_below by w vs
  newest_below-same w v vs e = ap (λ (b : Bool). cond b (newest_below by w vs) (v ∷ newest_below by (by v) vs)) e

  pub newest_below-other : (w : Option TrxId) (v : T) (vs : List T) → same_writer (by v) w ≡ false → newest_below by w (v ∷ vs) ≡ v ∷ newest_below by (by v) vs
  newest_below-other w v vs e = ap (λ (b : Bool). cond b (newest_below by w vs) (v ∷ newest_below by (by v) vs)) e

  pub newest_leading : (w : Option TrxId) (vs : List T) → newest_each by (without_leading by w vs) ≡ newest_below by w vs
  newest_leading w [] = refl
  newest_leading w (v ∷ vs) = elim (decided (same_writer (by v) w)) [
    | inl e ↦ ap (newest_each by) (leading-same by w v vs e) ∙ newest_leading w vs ∙ sym (newest_below-same w v vs e)
    | inr e ↦ ap (newest_each by) (leading-other by w v vs e) ∙ sym (newest_below-other w v vs e)
  ]

  module _ (committed drew : Stamps) where
    -- the versions below those of a writer lie under it
    abbrev pub FallsBelow : Option TrxId → List T → Type 0
    FallsBelow u vs = FirstIs (λ x. IsUnder committed drew (by x) u) (newest_below by u vs) × Falls by committed drew (newest_below by u vs)

    -- as `FallsBelow`, of the list of the newest ones
    abbrev pub FallsUnder : Option TrxId → List T → Type 0
    FallsUnder u xs = FirstIs (λ x. IsUnder committed drew (by x) u) xs × Falls by committed drew xs

    -- what holds of a writer and of all who committed holds of all writers below
    pub all_of : (P : Option TrxId → Type 0) → ((w : Option TrxId) (cts : ℕ) → committed w cts → P w) → (u : Option TrxId) → P u → (vs : List T) → FallsBelow u vs → AllByRecursion (λ v. P (by v)) vs
    all_of P has u here [] f = tt
    all_of P has u here (v ∷ vs) f = elim (decided (same_writer (by v) u)) [
      | inl e ↦ (subst P (sym (same_is (by v) u e)) here, all_of P has u here vs (subst (FallsUnder u) (newest_below-same u v vs e) f))
      | inr e ↦
          let g : FallsUnder u (v ∷ newest_below by (by v) vs) = subst (FallsUnder u) (newest_below-other u v vs e) f in
          let this : P (by v) = has (by v) g.0.cts g.0.commit in
          (this, all_of P has (by v) this vs g.1)
    ]

    -- below the leading versions of a writer all have committed
    pub committed_below : (u : Option TrxId) (vs : List T) → FallsBelow u vs → AllByRecursion (λ v. (cts : ℕ) × committed (by v) cts) (without_leading by u vs)
    committed_below u [] f = tt
    committed_below u (v ∷ vs) f = elim (decided (same_writer (by v) u)) [
      | inl e ↦ subst (AllByRecursion (λ (v : T). (cts : ℕ) × committed (by v) cts)) (sym (leading-same by u v vs e)) (committed_below u vs (subst (FallsUnder u) (newest_below-same u v vs e) f))
      | inr e ↦
          let g : FallsUnder u (v ∷ newest_below by (by v) vs) = subst (FallsUnder u) (newest_below-other u v vs e) f in
          let this : (cts : ℕ) × committed (by v) cts = (g.0.cts, g.0.commit) in
          subst (AllByRecursion (λ (v : T). (cts : ℕ) × committed (by v) cts)) (sym (leading-other by u v vs e))
          (this, all_of (λ (w : Option TrxId). (cts : ℕ) × committed w cts) (λ w cts h. (cts, h)) (by v) this vs g.1)
    ]

    put_falls : (v : T) (vs : List T) → FirstIs (λ top. MayCover committed drew (by top) (by v)) vs → Falls by committed drew (newest_each by vs) → FallsBelow (by v) vs
    put_falls v [] over f = (tt, tt)
    put_falls v (t ∷ ts) over f = elim (decided (same_writer (by t) (by v))) [
      | inl e ↦
          let same : FallsBelow (by t) ts = f in
          subst (FallsUnder (by v)) (sym (newest_below-same (by v) t ts e)) (subst (λ (w : Option TrxId). FallsBelow w ts) (same_is (by t) (by v) e) same)
      | inr e ↦ subst (FallsUnder (by v)) (sym (newest_below-other (by v) t ts e)) (
        elim over [
          | inl same ↦ absurd (other_is (by t) (by v) e same)
          | inr under ↦ under
        ],
        f,
      )
    ]

    restore_falls : (vs : List T) → Falls by committed drew (newest_each by vs) → Falls by committed drew (newest_each by (below_top by vs))
    restore_falls [] f = tt
    restore_falls (v ∷ vs) f = subst (Falls by committed drew) (sym (newest_leading (by v) vs)) f.1

    pub live_falls : (ops : List (KeyOp T)) → PutsFit by committed drew ops → Falls by committed drew (newest_each by (live by ops))
    live_falls [] p = tt
    live_falls (put v ∷ ops) p = put_falls v (live by ops) p.0 (live_falls ops p.1)
    live_falls (restore ∷ ops) p = restore_falls (live by ops) (live_falls ops p)

    module _ (stamps : AreStamps committed drew) where
      -- who committed below what a writer draws is another
      apart : (w u : Option TrxId) (cts : ℕ) → committed u cts → ((c : ℕ) → drew w c → cts < c) → u ≢ w
      apart w u cts commit below = λ (e : u ≡ w). absurd (omega (arith, below cts (stamps.drawn w cts (subst (λ (x : Option TrxId). committed x cts) e commit))))

      none_under : (w u : Option TrxId) (cts : ℕ) → committed u cts → ((c : ℕ) → drew w c → cts < c) → (vs : List T) → FallsBelow u vs → NoneBy by w vs
      none_under w u cts commit below [] f = tt
      none_under w u cts commit below (v ∷ vs) f = elim (decided (same_writer (by v) u)) [
        | inl e ↦
            let other = apart w u cts commit below in
            (λ (x : by v ≡ w). other (sym (same_is (by v) u e) ∙ x), none_under w u cts commit below vs (subst (FallsUnder u) (newest_below-same u v vs e) f))
        | inr e ↦
            let g : FallsUnder u (v ∷ newest_below by (by v) vs) = subst (FallsUnder u) (newest_below-other u v vs e) f in
            let lower : g.0.cts < cts = g.0.lower cts (stamps.drawn u cts commit) in
            let all : (c : ℕ) → drew w c → g.0.cts < c = λ c h. omega (arith, lower, below c h) in
            (apart w (by v) g.0.cts g.0.commit all, none_under w (by v) g.0.cts g.0.commit all vs g.1)
      ]

      own_or_none : (v : T) (vs : List T) → FirstIs (λ top. MayCover committed drew (by top) (by v)) vs → Falls by committed drew (newest_each by vs) → (is_top by (by v) vs ≡ true) ⊎ NoneBy by (by v) vs
      own_or_none v [] over f = inr tt
      own_or_none v (t ∷ ts) over f = elim over [
        | inl same ↦ inl (same_from (by t) (by v) same)
        | inr under ↦ inr (apart (by v) (by t) under.cts under.commit under.lower, none_under (by v) (by t) under.cts under.commit under.lower ts f)
      ]

      pub fit_orderly : (ops : List (KeyOp T)) → PutsFit by committed drew ops → Orderly by ops
      fit_orderly [] p = tt
      fit_orderly (put v ∷ ops) p = (own_or_none v (live by ops) p.0 (live_falls ops p.1), fit_orderly ops p.1)
      fit_orderly (restore ∷ ops) p = fit_orderly ops p
