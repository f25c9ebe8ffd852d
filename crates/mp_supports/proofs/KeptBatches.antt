-- The batches of a log that stands are of its grammar, and so they are with what is appended as one more.
use Rattle.std.proofs.Common.{◌≡◌, ℕ, ◌+◌, ◌^◌, ◌≤◌, ◌&&◌, nat_le, nat_lt, true, List, [], ◌∷◌, ◌++◌, length, refl, sym, subst, arith}
use Rattle.std.specs.List.{AllByRecursion}
use Rattle.std.proofs.lemmas.Bool.{and_parts, and_from}
use Rattle.mp_script.proofs.Lists.{all_append}
use Rattle.mp_cells.specs.declared.records.Mtr.{Mtr}
use Rattle.mp_cells.specs.Keys.{rises}
use Rattle.mp_log.specs.Logs.{mtrs_of, most_batch_bytes, with_batch, IsOf, AreLogged, IsBatch, IsLog}
use Rattle.mp_log.specs.Tails.{TailView, LogStands}
use Rattle.mp_log.proofs.Appended.{llsn_of}
use Rattle.mp_log.proofs.Opened.{mtrs_more}

each_before : (P : Mtr → Type 0) (xs ys : List Mtr) → AllByRecursion P (xs ++ ys) → AllByRecursion P xs
each_before P [] ys all = tt
each_before P (x ∷ xs) ys all = (all.0, each_before P xs ys all.1)

rises_before : (low : ℕ) (xs ys : List Mtr) → rises llsn_of low (2 ^ 62) (xs ++ ys) ≡ true → rises llsn_of low (2 ^ 62) xs ≡ true
rises_before low [] ys rise = refl
rises_before low (x ∷ xs) ys rise =
    let both = and_parts (nat_le low x.llsn && nat_lt x.llsn (2 ^ 62)) (rises llsn_of (x.llsn + 1) (2 ^ 62) (xs ++ ys)) rise in
    and_from _ _ both.0 (rises_before (x.llsn + 1) xs ys both.1)

module _ (batches : List (List Mtr)) (pending : List Mtr) (tail : TailView) (seen : List ℕ) (image : List ℕ → Type 0) (stands : LogStands batches pending tail seen image) where
  pub kept_batches : IsLog tail.node batches
  kept_batches = record {
    mtrs = record {
      each = each_before (IsOf tail.node) (mtrs_of batches) pending stands.mtrs.each;
      rising = rises_before 1 (mtrs_of batches) pending stands.mtrs.rising;
    };
    sizes = stands.sizes;
  }

-- where what is appended is no more than a batch may have
pub kept_with_batch : (batches : List (List Mtr)) (pending : List Mtr) (tail : TailView) (seen : List ℕ) (image : List ℕ → Type 0)
    → LogStands batches pending tail seen image → length tail.bytes ≤ most_batch_bytes → IsLog tail.node (with_batch batches pending)
kept_with_batch batches [] tail seen image stands fits = kept_batches batches [] tail seen image stands
kept_with_batch batches (mtr ∷ mtrs) tail seen image stands fits = record {
  mtrs = subst (AreLogged tail.node) (sym (mtrs_more batches (mtr ∷ mtrs))) stands.mtrs;
  sizes = all_append IsBatch batches ((mtr ∷ mtrs) ∷ []) stands.sizes
      ((omega arith, subst (λ (b : List ℕ). length b ≤ most_batch_bytes) stands.bytes fits), tt);
}
