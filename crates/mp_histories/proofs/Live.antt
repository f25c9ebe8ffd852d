-- What stands after operations on one key: versions that no restore took off, each writer's together.
use Rattle.std.proofs.Common.{◌≡◌, ◌≢◌, ◌⊎◌, Bool, true, false, cond, List, [], ◌∷◌, ◌++◌, Option, refl, sym, ap, subst, ◌∙◌, inl, inr}
use mathlib.Core.Bool.{false≢true}
use Rattle.std.specs.List.{AllByRecursion}
use Rattle.mp_model.specs.declared.ids.TrxId.{TrxId}
use Rattle.mp_histories.specs.KeyOps.{KeyOp, put, restore, same_writer, FirstIs, without_leading, below_top, live, is_top, NoneBy, Orderly, Together, Spares}
use Rattle.mp_histories.proofs.Writers.{decided, same_is, same_from, other_from, other_is}

module _ {T : Type 0} (by : T → Option TrxId) where
  -- the first version is the writer's, or isn't
  pub leading-same : (w : Option TrxId) (v : T) (vs : List T) → same_writer (by v) w ≡ true → without_leading by w (v ∷ vs) ≡ without_leading by w vs
  leading-same w v vs e = ap (λ (b : Bool). cond b (without_leading by w vs) (v ∷ vs)) e

  pub leading-other : (w : Option TrxId) (v : T) (vs : List T) → same_writer (by v) w ≡ false → without_leading by w (v ∷ vs) ≡ v ∷ vs
  leading-other w v vs e = ap (λ (b : Bool). cond b (without_leading by w vs) (v ∷ vs)) e

  -- a version of another writer stays, with all below it
  pub leading_over : (w : Option TrxId) (us : List T) (v : T) (vs : List T) → by v ≢ w → without_leading by w (us ++ v ∷ vs) ≡ without_leading by w us ++ v ∷ vs
  leading_over w [] v vs ne = leading-other w v vs (other_from (by v) w ne)
  leading_over w (u ∷ us) v vs ne = elim (decided (same_writer (by u) w)) [
    | inl e ↦ leading-same w u (us ++ v ∷ vs) e ∙ leading_over w us v vs ne ∙ ap (λ (xs : List T). xs ++ v ∷ vs) (sym (leading-same w u us e))
    | inr e ↦ leading-other w u (us ++ v ∷ vs) e ∙ ap (λ (xs : List T). xs ++ v ∷ vs) (sym (leading-other w u us e))
  ]

  -- a version that a restore didn't find on top stays, with all below it
  below_spares : (w : Option TrxId) (upper : List T) (v : T) (rest : List T) → by v ≡ w → is_top by w (upper ++ v ∷ rest) ≡ false → (kept : List T) × (below_top by (upper ++ v ∷ rest) ≡ kept ++ v ∷ rest)
  below_spares w [] v rest e not = absurd (false≢true (sym not ∙ same_from (by v) w e))
  below_spares w (u ∷ us) v rest e not =
      let apart : by v ≢ by u = λ (same : by v ≡ by u). other_is (by u) w not (sym same ∙ e) in
      (without_leading by (by u) us, leading_over (by u) us v rest apart)

  pub spared : (w : Option TrxId) (later : List (KeyOp T)) (v : T) (earlier : List (KeyOp T)) → by v ≡ w → Spares by w later (put v ∷ earlier) → (upper : List T) × (live by (later ++ put v ∷ earlier) ≡ upper ++ v ∷ live by earlier)
  spared w [] v earlier e s = ([], refl)
  spared w (put u ∷ later) v earlier e s =
      let rest = spared w later v earlier e s in
      (u ∷ rest.0, ap (λ (xs : List T). u ∷ xs) rest.1)
  spared w (restore ∷ later) v earlier e s =
      let rest = spared w later v earlier e s.1 in
      let not : is_top by w (rest.0 ++ v ∷ live by earlier) ≡ false = ap (is_top by w) (sym rest.1) ∙ s.0 in
      let kept = below_spares w rest.0 v (live by earlier) e not in
      (kept.0, ap (below_top by) rest.1 ∙ kept.1)

  -- what holds of all versions holds without the leading ones
  pub all_leading : (P : T → Type 0) (w : Option TrxId) (vs : List T) → AllByRecursion P vs → AllByRecursion P (without_leading by w vs)
  all_leading P w [] h = tt
  all_leading P w (v ∷ vs) h = elim (decided (same_writer (by v) w)) [
    | inl e ↦ subst (AllByRecursion P) (sym (leading-same w v vs e)) (all_leading P w vs h.1)
    | inr e ↦ subst (AllByRecursion P) (sym (leading-other w v vs e)) h
  ]

  pub all_below : (P : T → Type 0) (vs : List T) → AllByRecursion P vs → AllByRecursion P (below_top by vs)
  all_below P [] h = tt
  all_below P (v ∷ vs) h = all_leading P (by v) vs h.1

  pub together_leading : (w : Option TrxId) (vs : List T) → Together by vs → Together by (without_leading by w vs)
  together_leading w [] h = tt
  together_leading w (v ∷ vs) h = elim (decided (same_writer (by v) w)) [
    | inl e ↦ subst (Together by) (sym (leading-same w v vs e)) (together_leading w vs h.1)
    | inr e ↦ subst (Together by) (sym (leading-other w v vs e)) h
  ]

  pub together_below : (vs : List T) → Together by vs → Together by (below_top by vs)
  together_below [] h = tt
  together_below (v ∷ vs) h = together_leading (by v) vs h.1

  -- no version of the newest one's writer lies below its leading ones
  pub top_whole : (w : Option TrxId) (vs : List T) → is_top by w vs ≡ true → Together by vs → NoneBy by w (below_top by vs)
  top_whole w [] top h = tt
  top_whole w (v ∷ vs) top h = subst (λ (x : Option TrxId). NoneBy by x (without_leading by (by v) vs)) (same_is (by v) w top) h.0

  pub top_below : (w : Option TrxId) (vs : List T) → is_top by w vs ≡ true → below_top by vs ≡ without_leading by w vs
  top_below w [] top = refl
  top_below w (v ∷ vs) top = ap (λ (x : Option TrxId). without_leading by x vs) (same_is (by v) w top) ∙ sym (leading-same w v vs top)

  pub none_leading : (w : Option TrxId) (vs : List T) → NoneBy by w vs → without_leading by w vs ≡ vs
  none_leading w [] h = refl
  none_leading w (v ∷ vs) h = leading-other w v vs (other_from (by v) w h.0)

  put_together : (w : Option TrxId) (vs : List T) → ((is_top by w vs ≡ true) ⊎ NoneBy by w vs) → Together by vs → NoneBy by w (without_leading by w vs)
  put_together w vs (inl top) h = subst (NoneBy by w) (top_below w vs top) (top_whole w vs top h)
  put_together w vs (inr none) h = all_leading (λ (v : T). by v ≢ w) w vs none

  -- after orderly operations each writer's versions stand together
  pub together_live : (ops : List (KeyOp T)) → Orderly by ops → Together by (live by ops)
  together_live [] o = tt
  together_live (put v ∷ ops) o = let rest = together_live ops o.1 in (put_together (by v) (live by ops) o.0 rest, rest)
  together_live (restore ∷ ops) o = together_below (live by ops) (together_live ops o)

  -- a restore takes off all versions of the newest one's writer
  pub whole_group : (vs : List T) → Together by vs → FirstIs (λ top. NoneBy by (by top) (below_top by vs)) vs
  whole_group [] h = tt
  whole_group (v ∷ vs) h = h.0
