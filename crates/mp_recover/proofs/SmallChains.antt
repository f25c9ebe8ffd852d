-- The chain of the small put's row, and the restore that nothing comes before.
use Rattle.std.proofs.Common.{◌≡◌, ℕ, ◌≤◌, List, [], ◌∷◌, Option, Some, None, refl, sym, ap, subst, inl, inr, arith}
use Rattle.mp_model.specs.declared.ids.TrxId.{TrxId}
use Rattle.mp_cells.specs.declared.rows.Row.{Row}
use Rattle.mp_cells.specs.SmallMaps.{fresh_map, gone_row}
use Rattle.mp_histories.specs.Commits.{HasStamp}
use Rattle.mp_histories.specs.KeyOps.{newest_by}
use Rattle.mp_histories.specs.Chains.{row_over}
use Rattle.mp_histories.specs.Histories.{pages_after}
use Rattle.mp_histories.specs.SmallHistory.{small_trx, small_row, small_put, small_restore}
use Rattle.mp_recover.specs.PageRecords.{InOrder}
use Rattle.mp_recover.specs.KeptCommits.{KeptCommit, stamps_of, wrote_to}
use Rattle.mp_recover.specs.Standing.{ChainStands}

pub gap : InOrder 0 fresh_map (small_restore ∷ []) → ⊥
gap h = let low : 5 ≤ 0 = (h 1 (omega arith)).linked.0 in omega (arith, low)

abbrev one_kept : List Row → List KeptCommit
one_kept puts = record { id = small_trx 0; cts = 9; puts = puts } ∷ []

its_write : (id : Option TrxId) (cts : ℕ) → HasStamp (stamps_of (one_kept (small_row ∷ []))) id cts
    → newest_by (λ (v : Row). v.writer) id (small_row ∷ []) ≡ wrote_to 7 (one_kept (small_row ∷ [])) id
its_write id cts (inl is) = subst (λ w. newest_by (λ (v : Row). v.writer) w (small_row ∷ []) ≡ wrote_to 7 (one_kept (small_row ∷ [])) w) is.0 refl
its_write id cts (inr there) = absurd there

pub no_writer_listed : (cts : ℕ) → HasStamp (stamps_of (one_kept (small_row ∷ []))) None cts → ⊥
no_writer_listed cts (inl is) = absurd cc
no_writer_listed cts (inr there) = there

pub stands_committed : ChainStands (one_kept (small_row ∷ [])) (pages_after fresh_map (small_put ∷ [])) 7 (gone_row 7)
stands_committed = record {
  versions = small_row ∷ [];
  head = refl;
  chain = (record { link = record { page = 2; index = 0 }; linked = refl; there = refl }, refl);
  keys = (refl, tt);
  stands = record {
    unlisted = [];
    rest = small_row ∷ [];
    split_is = refl;
    writer = None;
    of_one = tt;
    not_listed = no_writer_listed;
    each_listed = ((9, inl (refl, refl)), tt);
    together = (tt, tt);
    newest_wrote = its_write;
    falls = (tt, tt);
    ends = refl;
  };
}

pub stands_open : ChainStands [] (pages_after fresh_map (small_put ∷ [])) 7 (gone_row 7)
stands_open = record {
  versions = small_row ∷ [];
  head = refl;
  chain = (record { link = record { page = 2; index = 0 }; linked = refl; there = refl }, refl);
  keys = (refl, tt);
  stands = record {
    unlisted = small_row ∷ [];
    rest = [];
    split_is = refl;
    writer = Some (small_trx 0);
    of_one = (refl, tt);
    not_listed = λ cts h. h;
    each_listed = tt;
    together = (tt, tt);
    newest_wrote = λ id cts h. absurd h;
    falls = tt;
    ends = refl;
  };
}

wrote_none : (versions : List Row) → small_row ≡ row_over versions (gone_row 7) → newest_by (λ (v : Row). v.writer) (Some (small_trx 0)) versions ≡ None → ⊥
wrote_none [] e f = let writers : ◌≡◌ {A = Option TrxId} (Some (small_trx 0)) None = ap (λ (r : Row). r.writer) e in absurd cc
wrote_none (v ∷ vs) e f =
    let none : newest_by (λ (r : Row). r.writer) (Some (small_trx 0)) (small_row ∷ vs) ≡ None = subst (λ (r : Row). newest_by (λ (x : Row). x.writer) (Some (small_trx 0)) (r ∷ vs) ≡ None) (sym e) f in
    let some : ◌≡◌ {A = Option Row} (Some small_row) None = none in absurd cc

pub stray_stands_not : ChainStands (one_kept []) (pages_after fresh_map (small_put ∷ [])) 7 (gone_row 7) → ⊥
stray_stands_not h = wrote_none h.versions h.head (h.stands.newest_wrote (Some (small_trx 0)) 9 (inl (refl, refl)))
