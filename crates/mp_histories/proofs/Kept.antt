-- The version that a writer keeps is its newest one that stands.
use Rattle.std.proofs.Common.{◌≡◌, ◌≢◌, Bool, true, false, cond, List, [], ◌∷◌, ◌++◌, Option, Some, None, refl, sym, ap, ◌∙◌, inl, inr}
use Rattle.mp_model.specs.declared.ids.TrxId.{TrxId}
use Rattle.mp_histories.specs.KeyOps.{KeyOp, put, restore, same_writer, without_leading, below_top, live, is_top, NoneBy, newest_by, kept_version, Orderly, LeavesKept, NeverBack, put_last}
use Rattle.mp_histories.proofs.Writers.{decided, same_is, other_from, other_is}
use Rattle.mp_histories.proofs.Live.{leading-same, leading-other, top_whole, together_live}

module _ {T : Type 0} (by : T → Option TrxId) where
  pub newest-same : (w : Option TrxId) (v : T) (vs : List T) → same_writer (by v) w ≡ true → newest_by by w (v ∷ vs) ≡ Some v
  newest-same w v vs e = ap (λ (b : Bool). cond b (Some v) (newest_by by w vs)) e

  pub newest-other : (w : Option TrxId) (v : T) (vs : List T) → same_writer (by v) w ≡ false → newest_by by w (v ∷ vs) ≡ newest_by by w vs
  newest-other w v vs e = ap (λ (b : Bool). cond b (Some v) (newest_by by w vs)) e

  pub kept-same : (w : Option TrxId) (v : T) (ops : List (KeyOp T)) → same_writer (by v) w ≡ true → kept_version by w (put v ∷ ops) ≡ Some v
  kept-same w v ops e = ap (λ (b : Bool). cond b (Some v) (kept_version by w ops)) e

  pub kept-other : (w : Option TrxId) (v : T) (ops : List (KeyOp T)) → same_writer (by v) w ≡ false → kept_version by w (put v ∷ ops) ≡ kept_version by w ops
  kept-other w v ops e = ap (λ (b : Bool). cond b (Some v) (kept_version by w ops)) e

  pub kept-top : (w : Option TrxId) (ops : List (KeyOp T)) → is_top by w (live by ops) ≡ true → kept_version by w (restore ∷ ops) ≡ None
  kept-top w ops e = ap (λ (b : Bool). cond b None (kept_version by w ops)) e

  pub kept-spared : (w : Option TrxId) (ops : List (KeyOp T)) → is_top by w (live by ops) ≡ false → kept_version by w (restore ∷ ops) ≡ kept_version by w ops
  kept-spared w ops e = ap (λ (b : Bool). cond b None (kept_version by w ops)) e

  pub none_newest : (w : Option TrxId) (vs : List T) → NoneBy by w vs → newest_by by w vs ≡ None
  none_newest w [] h = refl
  none_newest w (v ∷ vs) h = newest-other w v vs (other_from (by v) w h.0) ∙ none_newest w vs h.1

  pub newest_none : (w : Option TrxId) (vs : List T) → newest_by by w vs ≡ None → NoneBy by w vs
  newest_none w [] h = tt
  newest_none w (v ∷ vs) h = elim (decided (same_writer (by v) w)) [
    | inl e ↦ let both : ◌≡◌ {A = Option T} (Some v) None = sym (newest-same w v vs e) ∙ h in absurd cc
    | inr e ↦ (other_is (by v) w e, newest_none w vs (sym (newest-other w v vs e) ∙ h))
  ]

  -- leading versions of another writer don't matter
  newest_leading : (w u : Option TrxId) (vs : List T) → u ≢ w → newest_by by w (without_leading by u vs) ≡ newest_by by w vs
  newest_leading w u [] ne = refl
  newest_leading w u (v ∷ vs) ne = elim (decided (same_writer (by v) u)) [
    | inl e ↦
        let other : by v ≢ w = λ (x : by v ≡ w). ne (sym (same_is (by v) u e) ∙ x) in
        ap (newest_by by w) (leading-same by u v vs e) ∙ newest_leading w u vs ne ∙ sym (newest-other w v vs (other_from (by v) w other))
    | inr e ↦ ap (newest_by by w) (leading-other by u v vs e)
  ]

  newest_below_other : (w : Option TrxId) (vs : List T) → is_top by w vs ≡ false → newest_by by w (below_top by vs) ≡ newest_by by w vs
  newest_below_other w [] top = refl
  newest_below_other w (v ∷ vs) top = newest_leading w (by v) vs (other_is (by v) w top) ∙ sym (newest-other w v vs top)

  pub kept_newest : (w : Option TrxId) (ops : List (KeyOp T)) → Orderly by ops → kept_version by w ops ≡ newest_by by w (live by ops)
  kept_newest w [] o = refl
  kept_newest w (put v ∷ ops) o = elim (decided (same_writer (by v) w)) [
    | inl e ↦ kept-same w v ops e ∙ sym (newest-same w v (live by ops) e)
    | inr e ↦ kept-other w v ops e ∙ kept_newest w ops o.1 ∙ sym (newest-other w v (live by ops) e)
  ]
  kept_newest w (restore ∷ ops) o = elim (decided (is_top by w (live by ops))) [
    | inl e ↦ kept-top w ops e ∙ sym (none_newest w (below_top by (live by ops)) (top_whole by w (live by ops) e (together_live by ops o)))
    | inr e ↦ kept-spared w ops e ∙ kept_newest w ops o ∙ sym (newest_below_other w (live by ops) e)
  ]

  -- operations that leave a writer's versions leave what it keeps
  pub kept_stays : (w : Option TrxId) (later ops : List (KeyOp T)) → LeavesKept by w later ops → kept_version by w (later ++ ops) ≡ kept_version by w ops
  kept_stays w [] ops h = refl
  kept_stays w (put v ∷ later) ops h = kept-other w v (later ++ ops) (other_from (by v) w h.0) ∙ kept_stays w later ops h.1
  kept_stays w (restore ∷ later) ops h = kept-spared w (later ++ ops) h.0 ∙ kept_stays w later ops h.1

  -- where no restore takes off its versions, a writer keeps what it put last
  pub kept_last : (w : Option TrxId) (ops : List (KeyOp T)) → NeverBack by w ops → kept_version by w ops ≡ put_last by w ops
  kept_last w [] h = refl
  kept_last w (put v ∷ ops) h = ap (cond (same_writer (by v) w) (Some v)) (kept_last w ops h)
  kept_last w (restore ∷ ops) h = kept-spared w ops h.0 ∙ kept_last w ops h.1
