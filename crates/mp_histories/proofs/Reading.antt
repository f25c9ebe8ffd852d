-- The first version that shows is the reader's own, or that of the latest commit at or below its view.
use Rattle.std.proofs.Common.{◌≡◌, ◌≢◌, ◌⊎◌, ℕ, ◌≤◌, List, [], ◌∷◌, ◌++◌, map, Option, Some, None, refl, sym, subst, ◌∙◌, inl, inr, arith}
use Rattle.std.specs.List.{AllByRecursion}
use Rattle.mp_model.specs.declared.ids.TrxId.{TrxId}
use Rattle.mp_histories.specs.KeyOps.{KeyOp, put, same_writer, live, NoneBy, newest_by, kept_version, newest_below, newest_each}
use Rattle.mp_histories.specs.Commits.{Stamps, AreStamps, PutsFit, Falls}
use Rattle.mp_histories.specs.Readers.{ShowsTo, Takes, NobodyAt, IsLatestAt, IsReadAt}
use Rattle.mp_histories.proofs.Writers.{decided, same_is, same_itself, other_from}
use Rattle.mp_histories.proofs.Kept.{newest-same, newest-other, kept_newest, newest_none}
use Rattle.mp_histories.proofs.Falling.{FallsBelow, FallsUnder, newest_below-same, newest_below-other, live_falls, fit_orderly}
use Rattle.mp_histories.proofs.OwnRuns.{own_run}
use Rattle.mp_histories.proofs.Lists.{some_same, none_some}

module _ {T : Type 0} (by : T → Option TrxId) where
  -- a writer's newest version is one of them, and the writer's
  newest_all : (P : T → Type 0) (w : Option TrxId) (vs : List T) (u : T) → newest_by by w vs ≡ Some u → AllByRecursion P vs → P u × (by u ≡ w)
  newest_all P w [] u e h = absurd (none_some u e)
  newest_all P w (v ∷ vs) u e h = elim (decided (same_writer (by v) w)) [
    | inl k ↦
        let same : v ≡ u = some_same v u (sym (newest-same by w v vs k) ∙ e) in
        (subst P same h.0, subst (λ (x : T). by x ≡ w) same (same_is (by v) w k))
    | inr k ↦ newest_all P w vs u (sym (newest-other by w v vs k) ∙ e) h.1
  ]

  module _ (committed drew : Stamps) (stamps : AreStamps committed drew) where
    once : (w : Option TrxId) (a b : ℕ) → committed w a → committed w b → a ≡ b
    once w a b h k = stamps.once w a b (stamps.drawn w a h) (stamps.drawn w b k)

    -- below a commit all are at or below it
    all_under : (bound : ℕ) (u : Option TrxId) (cu : ℕ) → committed u cu → cu ≤ bound → (vs : List T) → FallsBelow by committed drew u vs → AllByRecursion (λ v. (c : ℕ) → committed (by v) c → c ≤ bound) vs
    all_under bound u cu commit le [] f = tt
    all_under bound u cu commit le (v ∷ vs) f = elim (decided (same_writer (by v) u)) [
      | inl e ↦
          (λ c h. omega (arith, le, once u c cu (subst (λ (w : Option TrxId). committed w c) (same_is (by v) u e) h) commit), all_under bound u cu commit le vs (subst (FallsUnder by committed drew u) (newest_below-same by u v vs e) f))
      | inr e ↦
          let g : FallsUnder by committed drew u (v ∷ newest_below by (by v) vs) = subst (FallsUnder by committed drew u) (newest_below-other by u v vs e) f in
          let lower : g.0.cts ≤ bound = omega (arith, le, g.0.lower cu (stamps.drawn u cu commit)) in
          (λ c h. omega (arith, lower, once (by v) c g.0.cts h g.0.commit), all_under bound (by v) g.0.cts g.0.commit lower vs g.1)
    ]

    falls_tail : (u : Option TrxId) (vs : List T) → FallsBelow by committed drew u vs → Falls by committed drew (newest_each by vs)
    falls_tail u [] f = tt
    falls_tail u (t ∷ ts) f = elim (decided (same_writer (by t) u)) [
      | inl e ↦ subst (λ (w : Option TrxId). FallsBelow by committed drew w ts) (sym (same_is (by t) u e)) (subst (FallsUnder by committed drew u) (newest_below-same by u t ts e) f)
      | inr e ↦
          let g : FallsUnder by committed drew u (t ∷ newest_below by (by t) ts) = subst (FallsUnder by committed drew u) (newest_below-other by u t ts e) f in
          g.1
    ]

    module _ (reader : Option TrxId) (view : ℕ) where
      abbrev wrote_in : List T → Option TrxId → Option T
      wrote_in vs w = newest_by by w vs

      -- what is taken of versions none of which is the reader's
      abbrev IsTaken : List T → Option T → Type 0
      IsTaken vs found = ((v : T) × (found ≡ Some v) × IsLatestAt by committed reader view (wrote_in vs) v) ⊎ ((found ≡ None) × NobodyAt by committed reader view (wrote_in vs))

      shown : (v : T) (vs : List T) (found : Option T) → by v ≢ reader → FallsBelow by committed drew (by v) vs → ShowsTo by committed reader view v → found ≡ Some v → IsTaken (v ∷ vs) found
      shown v vs found other falls (inl own) e = absurd (other own)
      shown v vs found other falls (inr at) e = inl (
        v,
        e,
        record {
          cts = at.0;
          commit = at.1;
          in_view = at.2;
          its = newest-same by (by v) v vs (same_itself (by v));
          latest = λ w c u its commit le. elim (decided (same_writer (by v) w)) [
            | inl k ↦ omega (arith, once (by v) c at.0 (subst (λ (x : Option TrxId). committed x c) (sym (same_is (by v) w k)) commit) at.1)
            | inr k ↦
                let found_there : newest_by by w vs ≡ Some u = sym (newest-other by w v vs k) ∙ its in
                let it = newest_all (λ (x : T). (d : ℕ) → committed (by x) d → d ≤ at.0) w vs u found_there (all_under at.0 (by v) at.0 at.1 (omega arith) vs falls) in
                it.0 c (subst (λ (x : Option TrxId). committed x c) (sym it.1) commit)
          ];
        },
      )

      hidden : (v : T) (vs : List T) (found : Option T) → (ShowsTo by committed reader view v → ⊥) → IsTaken vs found → IsTaken (v ∷ vs) found
      hidden v vs found hides (inl t) =
          let latest = t.2 in
          let apart : by v ≢ by t.0 = λ (e : by v ≡ by t.0). hides (inr (latest.cts, subst (λ (x : Option TrxId). committed x latest.cts) (sym e) latest.commit, latest.in_view)) in
          inl (
            t.0,
            t.1,
            record {
              cts = latest.cts;
              commit = latest.commit;
              in_view = latest.in_view;
              its = newest-other by (by t.0) v vs (other_from (by v) (by t.0) apart) ∙ latest.its;
              latest = λ w c u its commit le. elim (decided (same_writer (by v) w)) [
                | inl k ↦ absurd (hides (inr (c, subst (λ (x : Option TrxId). committed x c) (sym (same_is (by v) w k)) commit, le)))
                | inr k ↦ latest.latest w c u (sym (newest-other by w v vs k) ∙ its) commit le
              ];
            },
          )
      hidden v vs found hides (inr t) = inr (
        t.0,
        λ w c u its commit le. elim (decided (same_writer (by v) w)) [
          | inl k ↦ hides (inr (c, subst (λ (x : Option TrxId). committed x c) (sym (same_is (by v) w k)) commit, le))
          | inr k ↦ t.1 w c u (sym (newest-other by w v vs k) ∙ its) commit le
        ],
      )

      taken : (vs : List T) (found : Option T) → NoneBy by reader vs → Falls by committed drew (newest_each by vs) → Takes by committed reader view vs found → IsTaken vs found
      taken [] found none falls e = inr (e, λ w c u its commit le. none_some u its)
      taken (v ∷ vs) found none falls (inl shows) = shown v vs found none.0 falls shows.0 shows.1
      taken (v ∷ vs) found none falls (inr hides) = hidden v vs found hides.0 (taken vs found none.1 (falls_tail (by v) vs falls) hides.1)

      -- on top of its own versions the reader takes the newest
      takes_own : (v : T) (vs : List T) (found : Option T) → by v ≡ reader → Takes by committed reader view (v ∷ vs) found → found ≡ Some v
      takes_own v vs found own (inl shows) = shows.1
      takes_own v vs found own (inr hides) = absurd (hides.0 (inl own))

      module _ (unlisted : (cts : ℕ) → committed reader cts → ⊥) (ops : List (KeyOp T)) (fit : PutsFit by committed drew ops) (found : Option T) (takes : Takes by committed reader view (live by ops) found) where
        same_wrote : (w : Option TrxId) → newest_by by w (live by ops) ≡ kept_version by w ops
        same_wrote w = sym (kept_newest by w ops (fit_orderly by committed drew stamps ops fit))

        by_kept : IsTaken (live by ops) found → ((v : T) × (found ≡ Some v) × IsLatestAt by committed reader view (λ w. kept_version by w ops) v) ⊎ ((found ≡ None) × NobodyAt by committed reader view (λ w. kept_version by w ops))
        by_kept (inl t) = inl (
          t.0,
          t.1,
          record {
            cts = t.2.cts;
            commit = t.2.commit;
            in_view = t.2.in_view;
            its = sym (same_wrote (by t.0)) ∙ t.2.its;
            latest = λ w c u its commit le. t.2.latest w c u (same_wrote w ∙ its) commit le;
          },
        )
        by_kept (inr t) = inr (t.0, λ w c u its commit le. t.1 w c u (same_wrote w ∙ its) commit le)

        by_own : (k : Option T) → kept_version by reader ops ≡ k → IsReadAt by committed reader view (λ w. kept_version by w ops) found
        by_own (Some v) k =
            let run = own_run by committed drew stamps reader unlisted ops v fit k in
            let there = subst (λ (xs : List (KeyOp T)). Takes by committed reader view (live by xs) found) run.split_is takes in
            inl (v, takes_own v (live by (map put run.older ++ run.earlier)) found run.own.0 there, k)
        by_own None k =
            let none : NoneBy by reader (live by ops) = newest_none by reader (live by ops) (same_wrote reader ∙ k) in
            inr (k, by_kept (taken (live by ops) found none (live_falls by committed drew ops fit) takes))

        pub read_at : IsReadAt by committed reader view (λ w. kept_version by w ops) found
        read_at = by_own (kept_version by reader ops) refl
