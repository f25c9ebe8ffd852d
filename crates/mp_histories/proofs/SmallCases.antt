-- Small cases where a definition fails.
use Rattle.std.proofs.Common.{◌≡◌, ℕ, ◌<◌, List, [], ◌∷◌, ◌++◌, length, append-nil, zero, suc, Option, Some, refl, sym, ap, subst, ◌∙◌, inl, inr, arith, map}
use Rattle.std.specs.List.{AllByRecursion}
use Rattle.mp_model.specs.declared.ids.TrxId.{TrxId}
use Rattle.mp_cells.specs.declared.records.Mtr.{Mtr}
use Rattle.mp_cells.specs.SmallMaps.{fresh_map, gone_row}
use Rattle.mp_cells.specs.Writes.{undo_at}
use Rattle.mp_histories.specs.KeyOps.{put, Orderly, restore, NeverBack, IsOwnRun, newest_by, kept_version}
use Rattle.mp_histories.specs.Commits.{HasStamp, PutsFit, StandsFor}
use Rattle.mp_histories.specs.Histories.{History, Version, by_version, touching, pages_after}
use Rattle.mp_histories.specs.Chains.{IsChain, CoversRows}
use Rattle.mp_histories.specs.Cuts.{IsCut}
use Rattle.mp_histories.specs.Readers.{ShowsTo, Takes, IsReadAt}
use Rattle.mp_histories.specs.SmallHistory.{small_trx, small_row, small_put, small_restore, small_version, small_stamp, other_put}
use Rattle.mp_histories.proofs.Lists.{some_same, none_some, heads_same, tails_same}
use Rattle.mp_histories.specs.Stamped.{OpsStandFor}

-- two transactions are two
other_slots : (a b : ℕ) → Some (small_trx a) ≡ Some (small_trx b) → a ≡ b
other_slots a b e = ap (λ (id : TrxId). id.slot) (some_same (small_trx a) (small_trx b) e)

pub no_link : IsChain (undo_at fresh_map) (small_row ∷ []) (gone_row 7) → ⊥
no_link h = by_page h.0.link.page h.0.link.index h.0.there
  where
    by_page : (page index : ℕ) → undo_at fresh_map (record { page = page; index = index }) ≡ Some (gone_row 7) → ⊥
    by_page zero index e = none_some (gone_row 7) e
    by_page (suc zero) index e = none_some (gone_row 7) e
    by_page (suc (suc page)) index e = none_some (gone_row 7) e

-- ---- cuts

abbrev both : History
both = small_restore ∷ small_put ∷ []

no_restore_in_put : (later earlier : History) → small_put ∷ [] ≡ later ++ small_restore ∷ earlier → ⊥
no_restore_in_put [] earlier e = omega (arith, ap (λ (m : Mtr). m.llsn) (heads_same small_put small_restore [] earlier e))
no_restore_in_put (x ∷ later) earlier e = nothing later (tails_same small_put x [] (later ++ small_restore ∷ earlier) e)
  where
    nothing : (ms : History) → ◌≡◌ {A = History} [] (ms ++ small_restore ∷ earlier) → ⊥
    nothing [] f = absurd cc
    nothing (m ∷ ms) f = absurd cc

pub no_lone_restore : IsCut both (small_restore ∷ []) → ⊥
no_lone_restore h = by_later h.0.later h.0.earlier h.0.split_is (h.0.same 1 refl)
  where
    by_later : (later earlier : History) → both ≡ later ++ small_restore ∷ earlier → touching 1 [] ≡ touching 1 earlier → ⊥
    by_later [] earlier e f =
        let rest : small_put ∷ [] ≡ earlier = tails_same small_restore small_restore (small_put ∷ []) earlier e in
        let none : touching 1 [] ≡ touching 1 (small_put ∷ []) = f ∙ ap (touching 1) (sym rest) in
        omega (arith, ap (λ (ms : History). length ms) none)
    by_later (x ∷ later) earlier e f = no_restore_in_put later earlier (tails_same small_restore x (small_put ∷ []) (later ++ small_restore ∷ earlier) e)

-- ---- versions

pub not_orderly : Orderly by_version (put (small_version 2 0) ∷ put (small_version 1 1) ∷ put (small_version 0 0) ∷ []) → ⊥
not_orderly h = elim (h.0) [
  | inl top ↦ absurd cc
  | inr none ↦ none.1.0 refl
]

pub over_earlier : PutsFit by_version (HasStamp (small_stamp 0 5 ∷ [])) (HasStamp (small_stamp 0 5 ∷ small_stamp 1 9 ∷ [])) (put (small_version 1 1) ∷ put (small_version 0 0) ∷ [])
over_earlier = (inr (record { cts = 5; commit = inl (refl, refl); lower = below }), (tt, tt))
  where
    below : (c : ℕ) → HasStamp (small_stamp 0 5 ∷ small_stamp 1 9 ∷ []) (Some (small_trx 1)) c → 5 < c
    below c (inl is) = absurd (omega (arith, other_slots 0 1 is.0))
    below c (inr (inl is)) = omega (arith, is.1)
    below c (inr (inr there)) = absurd there

pub not_over_open : PutsFit by_version (HasStamp []) (HasStamp []) (put (small_version 1 1) ∷ put (small_version 0 0) ∷ []) → ⊥
not_over_open h = elim (h.0) [
  | inl same ↦ omega (arith, other_slots 0 1 same)
  | inr under ↦ under.commit
]

pub not_over_later : PutsFit by_version (HasStamp (small_stamp 0 9 ∷ [])) (HasStamp (small_stamp 0 9 ∷ small_stamp 1 5 ∷ [])) (put (small_version 1 1) ∷ put (small_version 0 0) ∷ []) → ⊥
not_over_later h = elim (h.0) [
  | inl same ↦ omega (arith, other_slots 0 1 same)
  | inr under ↦ its_commit under.cts under.commit (under.lower 5 (inr (inl (refl, refl))))
]
  where
    its_commit : (cts : ℕ) → HasStamp (small_stamp 0 9 ∷ []) (Some (small_trx 0)) cts → cts < 5 → ⊥
    its_commit cts (inl is) lt = omega (arith, is.1, lt)
    its_commit cts (inr there) lt = there

pub not_two_open : (wrote : Option TrxId → Option Version) → StandsFor by_version (HasStamp []) wrote (gone_row 7) (small_version 1 1 ∷ small_version 0 0 ∷ []) → ⊥
not_two_open wrote h = by_rest h.rest h.each_listed h.split_is
  where
    all_of_one : (vs : List Version) → small_version 1 1 ∷ small_version 0 0 ∷ [] ≡ vs → AllByRecursion (λ v. by_version v ≡ h.writer) vs → ⊥
    all_of_one vs e all =
        let two = subst (AllByRecursion (λ (v : Version). by_version v ≡ h.writer)) (sym e) all in
        omega (arith, other_slots 1 0 (two.0 ∙ sym two.1.0))

    by_rest : (rest : List Version) → AllByRecursion (λ v. (cts : ℕ) × HasStamp [] (by_version v) cts) rest → small_version 1 1 ∷ small_version 0 0 ∷ [] ≡ h.unlisted ++ rest → ⊥
    by_rest [] listed e = all_of_one h.unlisted (e ∙ append-nil h.unlisted) h.of_one
    by_rest (v ∷ rest) listed e = listed.0.1

pub never_back : NeverBack by_version (Some (small_trx 0)) (restore ∷ put (small_version 1 1) ∷ put (small_version 0 0) ∷ [])
never_back = (refl, tt)

pub run_on_top : IsOwnRun by_version (Some (small_trx 1)) (put (small_version 2 1) ∷ put (small_version 1 1) ∷ put (small_version 0 0) ∷ []) (small_version 2 1)
run_on_top = record {
  older = small_version 1 1 ∷ [];
  earlier = put (small_version 0 0) ∷ [];
  split_is = refl;
  own = (refl, (refl, tt));
  none_before = (λ e. omega (arith, other_slots 0 1 e), tt);
  lower = refl;
}

put_same : (a b : Version) → put a ≡ put b → a ≡ b
put_same a b e = cc

pub no_run_below : IsOwnRun by_version (Some (small_trx 0)) (put (small_version 1 1) ∷ put (small_version 0 0) ∷ []) (small_version 0 0) → ⊥
no_run_below run =
    let first : put (small_version 1 1) ≡ put (small_version 0 0) = heads_same (put (small_version 1 1)) (put (small_version 0 0)) (put (small_version 0 0) ∷ []) (map put run.older ++ run.earlier) run.split_is in
    let place : ◌≡◌ {A = ℕ} 1 0 = ap (λ (v : Version). v.at) (put_same (small_version 1 1) (small_version 0 0) first) in
    omega (arith, place)

pub one_open : OpsStandFor (small_stamp 0 5 ∷ []) (gone_row 7) (put (small_version 1 1) ∷ put (small_version 0 0) ∷ [])
one_open = record {
  unlisted = small_version 1 1 ∷ [];
  rest = small_version 0 0 ∷ [];
  split_is = refl;
  writer = Some (small_trx 1);
  of_one = (refl, tt);
  not_listed = λ cts h. elim h [
    | inl is ↦ omega (arith, other_slots 0 1 is.0)
    | inr there ↦ there
  ];
  each_listed = ((5, inl (refl, refl)), tt);
  together = ((λ e. omega (arith, other_slots 0 1 e), tt), (tt, tt));
  newest_wrote = λ id cts h. elim h [
    | inl is ↦ subst (λ (w : Option TrxId). newest_by by_version w (small_version 1 1 ∷ small_version 0 0 ∷ []) ≡ kept_version by_version w (put (small_version 1 1) ∷ put (small_version 0 0) ∷ [])) is.0 refl
    | inr there ↦ absurd there
  ];
  falls = (tt, tt);
  ends = refl;
}

-- ---- a reader

not_shown : (view : ℕ) → ShowsTo by_version (HasStamp (small_stamp 0 5 ∷ [])) (Some (small_trx 2)) view (small_version 1 1) → ⊥
not_shown view (inl own) = omega (arith, other_slots 1 2 own)
not_shown view (inr at) = elim (at.1) [
  | inl is ↦ omega (arith, other_slots 0 1 is.0)
  | inr there ↦ there
]

pub takes_committed : Takes by_version (HasStamp (small_stamp 0 5 ∷ [])) (Some (small_trx 2)) 5 (small_version 1 1 ∷ small_version 0 0 ∷ []) (Some (small_version 0 0))
takes_committed = inr (not_shown 5, inl (inr (5, inl (refl, refl), omega arith), refl))

pub not_above_view : Takes by_version (HasStamp (small_stamp 0 5 ∷ [])) (Some (small_trx 2)) 4 (small_version 1 1 ∷ small_version 0 0 ∷ []) (Some (small_version 0 0)) → ⊥
not_above_view (inl shows) = not_shown 4 shows.0
not_above_view (inr (hides, inl (inl own, e))) = omega (arith, other_slots 0 2 own)
not_above_view (inr (hides, inl (inr at, e))) = elim (at.1) [
  | inl is ↦ omega (arith, is.1, at.2)
  | inr there ↦ there
]
not_above_view (inr (hides, inr below)) = none_some (small_version 0 0) (sym below.1)

its_commit_at : (writer : Option TrxId) (cts : ℕ) → HasStamp (small_stamp 0 5 ∷ []) writer cts → (Some (small_trx 0) ≡ writer) × (5 ≡ cts)
its_commit_at writer cts (inl is) = is
its_commit_at writer cts (inr there) = absurd there

pub reads_committed : IsReadAt by_version (HasStamp (small_stamp 0 5 ∷ [])) (Some (small_trx 2)) 5 (λ writer. kept_version by_version writer (put (small_version 1 1) ∷ put (small_version 0 0) ∷ [])) (Some (small_version 0 0))
reads_committed = inr (
  refl,
  inl (
    small_version 0 0,
    refl,
    record {
      cts = 5;
      commit = inl (refl, refl);
      in_view = omega arith;
      its = refl;
      latest = λ writer c v its commit le. le;
    },
  ),
)

pub not_read_early : IsReadAt by_version (HasStamp (small_stamp 0 5 ∷ [])) (Some (small_trx 2)) 4 (λ writer. kept_version by_version writer (put (small_version 1 1) ∷ put (small_version 0 0) ∷ [])) (Some (small_version 0 0)) → ⊥
not_read_early (inl own) = none_some own.0 own.2
not_read_early (inr (none, inl latest)) = omega (arith, (its_commit_at (by_version latest.0) latest.2.cts latest.2.commit).1, latest.2.in_view)
not_read_early (inr (none, inr nobody)) = none_some (small_version 0 0) (sym nobody.0)

pub covers_none : CoversRows (HasStamp []) (HasStamp []) fresh_map small_put
covers_none = (inl refl, tt)

pub not_covers_open : CoversRows (HasStamp []) (HasStamp []) (pages_after fresh_map (small_put ∷ [])) other_put → ⊥
not_covers_open h = elim (h.0) [
  | inl none ↦ none_some (small_trx 0) (sym none)
  | inr (inl same) ↦ omega (arith, other_slots 0 1 same)
  | inr (inr under) ↦ under.commit
]
