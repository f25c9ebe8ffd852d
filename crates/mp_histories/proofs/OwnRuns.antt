-- A writer without a commit that keeps a version put the last ones, and they stand on top.
use Rattle.std.proofs.Common.{◌≡◌, ℕ, true, List, [], ◌∷◌, Option, Some, None, refl, sym, ap, subst, ◌∙◌, inl, inr}
use mathlib.Core.Bool.{false≢true}
use Rattle.mp_model.specs.declared.ids.TrxId.{TrxId}
use Rattle.mp_histories.specs.KeyOps.{KeyOp, put, restore, same_writer, FirstIs, without_leading, live, is_top, NoneBy, kept_version, IsOwnRun}
use Rattle.mp_histories.specs.Commits.{Stamps, MayCover, AreStamps, PutsFit}
use Rattle.mp_histories.proofs.Writers.{decided, same_is, same_from, other_is}
use Rattle.mp_histories.proofs.Live.{none_leading, top_below}
use Rattle.mp_histories.proofs.Kept.{kept-same, kept-other, kept-top, kept-spared, kept_newest, newest_none}
use Rattle.mp_histories.proofs.Falling.{fit_orderly}
use Rattle.mp_histories.proofs.Lists.{some_same, none_some}

module _ {T : Type 0} (by : T → Option TrxId) where
  -- a run is on top
  pub run_top : (w : Option TrxId) (ops : List (KeyOp T)) (v : T) → IsOwnRun by w ops v → is_top by w (live by ops) ≡ true
  run_top w ops v run = subst (λ (xs : List (KeyOp T)). is_top by w (live by xs) ≡ true) (sym run.split_is) (same_from (by v) w run.own.0)

  -- no put comes over the top of a writer that hasn't committed, but its own
  not_covered : (committed drew : Stamps) (w : Option TrxId) → ((cts : ℕ) → committed w cts → ⊥) → (u : T) (vs : List T) → is_top by w vs ≡ true → FirstIs (λ top. MayCover committed drew (by top) (by u)) vs → by u ≡ w
  not_covered committed drew w unlisted u [] top over = absurd (false≢true top)
  not_covered committed drew w unlisted u (t ∷ ts) top over = elim over [
    | inl same ↦ sym same ∙ same_is (by t) w top
    | inr under ↦ absurd (unlisted under.cts (subst (λ (x : Option TrxId). committed x under.cts) (same_is (by t) w top) under.commit))
  ]

  module _ (committed drew : Stamps) (stamps : AreStamps committed drew) (w : Option TrxId) (open_one : (cts : ℕ) → committed w cts → ⊥) where
    -- a put on top of the writer's own versions, or of none
    longer : (v : T) (ops : List (KeyOp T)) → by v ≡ w → PutsFit by committed drew ops → (k : Option T) → kept_version by w ops ≡ k → ((u : T) → k ≡ Some u → IsOwnRun by w ops u) → IsOwnRun by w (put v ∷ ops) v
    longer v ops own fit None none rest =
        let apart : NoneBy by w (live by ops) = newest_none by w (live by ops) (sym (kept_newest by w ops (fit_orderly by committed drew stamps ops fit)) ∙ none) in
        record {
          older = [];
          earlier = ops;
          split_is = refl;
          own = (own, tt);
          none_before = apart;
          lower = ap (λ (x : Option TrxId). without_leading by x (live by ops)) own ∙ none_leading by w (live by ops) apart;
        }
    longer v ops own fit (Some u) some rest =
        let run = rest u refl in
        record {
          older = u ∷ run.older;
          earlier = run.earlier;
          split_is = ap (λ (xs : List (KeyOp T)). put v ∷ xs) run.split_is;
          own = (own, run.own);
          none_before = run.none_before;
          lower = ap (λ (x : Option TrxId). without_leading by x (live by ops)) own ∙ sym (top_below by w (live by ops) (run_top w ops u run)) ∙ run.lower;
        }

    pub own_run : (ops : List (KeyOp T)) (v : T) → PutsFit by committed drew ops → kept_version by w ops ≡ Some v → IsOwnRun by w ops v
    own_run [] v fit k = absurd (none_some v k)
    own_run (put u ∷ ops) v fit k = elim (decided (same_writer (by u) w)) [
      | inl e ↦
          let same : u ≡ v = some_same u v (sym (kept-same by w u ops e) ∙ k) in
          subst (IsOwnRun by w (put u ∷ ops)) same (longer u ops (same_is (by u) w e) fit.1 (kept_version by w ops) refl (λ x h. own_run ops x fit.1 h))
      | inr e ↦
          let run = own_run ops v fit.1 (sym (kept-other by w u ops e) ∙ k) in
          absurd (other_is (by u) w e (not_covered committed drew w open_one u (live by ops) (run_top w ops v run) fit.0))
    ]
    own_run (restore ∷ ops) v fit k = elim (decided (is_top by w (live by ops))) [
      | inl e ↦ absurd (none_some v (sym (kept-top by w ops e) ∙ k))
      | inr e ↦
          let run = own_run ops v fit (sym (kept-spared by w ops e) ∙ k) in
          absurd (false≢true (sym e ∙ run_top w ops v run))
    ]
