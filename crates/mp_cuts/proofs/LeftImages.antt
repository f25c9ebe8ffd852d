-- The mtrs that a crash leaves are those of a valid cut, and so its image is sound.
use Rattle.std.proofs.Common.{◌≡◌, ◌⊎◌, ℕ, zero, suc, ◌+◌, ◌<◌, ◌≤◌, nat_lt, Bool, List, [], ◌∷◌, ◌++◌, length, take, drop, filter, None, refl, sym, ap, subst, ◌∙◌, inl, inr, arith}
use Rattle.std.specs.List.{flat_map, AllByRecursion}
use Rattle.std.proofs.lemmas.Bool.{cases_lt}
use Rattle.std.proofs.lemmas.List.Elements.{filter-append}
use Rattle.mp_cells.specs.declared.records.Mtr.{Mtr}
use Rattle.mp_cells.specs.Trees.{PageMap}
use Rattle.mp_cells.specs.Orders.{sorted_by}
use Rattle.mp_store.specs.StoreFiles.{header_in_force}
use Rattle.mp_store.specs.CleanStores.{stored_pages, IsCleanStore}
use Rattle.mp_log.specs.Readers.{log_mtrs}
use Rattle.mp_files.specs.Nine.{Image, log_of}
use Rattle.mp_histories.specs.Cuts.{log_place}
use Rattle.mp_histories.specs.Chains.{row_of_key}
use Rattle.mp_histories.proofs.Sorting.{filter_sorted}
use Rattle.mp_core.specs.declared.opening.CoreOpening.{CoreOpening}
use Rattle.mp_core.specs.World.{CoreWorld}
use Rattle.mp_core.specs.Invariant.{NumbersFit}
use Rattle.mp_facts.specs.Facts.{opening_pages, Facts}
use Rattle.mp_recover.specs.Redoing.{mtrs_above}
use Rattle.mp_recover.specs.Standing.{IsRecoverable}
use Rattle.mp_recover.specs.Images.{all_primaries, base_llsn, logged_above, LogsAreSound, SoundImage, IsOpenedStore}
use Rattle.mp_cuts.specs.ValidCuts.{mtrs_in_time, durable_in, IsValidCut, mtrs_of_cut}
use Rattle.mp_cuts.specs.LeftBehind.{IsOpenedOver, IsLeftBehind}
use Rattle.mp_cuts.proofs.NodeLists.{nodes_from}
use Rattle.mp_cuts.proofs.OrderedCuts.{out_of_all}
use Rattle.mp_cuts.proofs.Recoverable.{recoverable}

-- ---- lists

take_front : (xs ys : List Mtr) → take (length xs) (xs ++ ys) ≡ xs
take_front [] ys = refl
take_front (x ∷ xs) ys = ap (λ (l : List Mtr). x ∷ l) (take_front xs ys)

drop_front : (xs ys : List Mtr) → drop (length xs) (xs ++ ys) ≡ ys
drop_front [] ys = refl
drop_front (x ∷ xs) ys = drop_front xs ys

none_dropped : (count : ℕ) → drop {A = Mtr} count [] ≡ []
none_dropped zero = refl
none_dropped (suc count) = refl

filter_flat : (p : Mtr → Bool) (f : ℕ → List Mtr) (ks : List ℕ) → filter p (flat_map f ks) ≡ flat_map (λ k. filter p (f k)) ks
filter_flat p f [] = refl
filter_flat p f (k ∷ ks) = filter-append p (f k) (flat_map f ks) ∙ ap (λ (l : List Mtr). filter p (f k) ++ l) (filter_flat p f ks)

module _ (f g : ℕ → List Mtr) (same : (n : ℕ) → 1 ≤ n → n ≤ 8 → f n ≡ g n) where
  flat_same : (start count : ℕ) → 1 ≤ start → start + count ≤ 9 → flat_map f (nodes_from start count) ≡ flat_map g (nodes_from start count)
  flat_same start zero low high = refl
  flat_same start (suc count) low high =
      ap (λ (l : List Mtr). l ++ flat_map f (nodes_from (start + 1) count)) (same start low (omega (arith, high)))
      ∙ ap (λ (l : List Mtr). g start ++ l) (flat_same (start + 1) count (omega arith) (omega (arith, high)))

each_node : (P : ℕ → Type 0) → ((n : ℕ) → 1 ≤ n → n ≤ 8 → P n) → (start count : ℕ) → 1 ≤ start → start + count ≤ 9 → AllByRecursion P (nodes_from start count)
each_node P all start zero low high = tt
each_node P all start (suc count) low high = (all start low (omega (arith, high)), each_node P all (start + 1) count (omega arith) (omega (arith, high)))

pub same_store : (o : CoreOpening) (w : CoreWorld) (opened : List ℕ) (image : Image) → IsLeftBehind o w opened image → IsOpenedStore opened image
same_store o w opened image left = record {
  header = ap header_in_force left.store;
  pages = λ n lt. (0, ap (λ (file : List ℕ). stored_pages file n) left.store);
}

module _ (o : CoreOpening) (fair : NumbersFit o) (w : CoreWorld) (f : Facts o w) (opened : List ℕ) (over : IsOpenedOver opened o) (image : Image) (left : IsLeftBehind o w opened image) where
  abbrev logged_of : ℕ → List Mtr
  logged_of n = mtrs_above o.trx.base.llsn (log_mtrs n (log_of n image)).0

  abbrev pub count : ℕ → ℕ
  count n = length (logged_of n)

  taken : (n : ℕ) → 1 ≤ n → n ≤ 8 → take (count n) (mtrs_in_time w n) ≡ logged_of n
  taken n low high = let first = left.logs n low high in ap (take (count n)) first.front ∙ take_front (logged_of n) first.later

  abbrev NotDurable : ℕ → List Mtr → Type 0
  NotDurable n mtrs = AllByRecursion (λ (m : Mtr). durable_in o w n < m.llsn) mtrs

  out : (n : ℕ) → (n < 1) ⊎ (9 ≤ n) → NotDurable n (drop (count n) (mtrs_in_time w n))
  out n is = subst (NotDurable n) (sym (ap (drop (count n)) (out_of_all o fair w f.inv n is) ∙ none_dropped (count n))) tt

  pub valid : IsValidCut o w count
  valid n = elim (cases_lt n 1) [
    | inl low ↦ out n (inl low)
    | inr some ↦ elim (cases_lt n 9) [
      | inl lt ↦
          let first = left.logs n some (omega (arith, lt)) in
          subst (NotDurable n) (sym (ap (drop (count n)) first.front ∙ drop_front (logged_of n) first.later)) first.covers
      | inr high ↦ out n (inr high)
    ]
  ]

  base_is : o.trx.base.llsn ≡ base_llsn image
  base_is = over.base ∙ ap (λ (file : List ℕ). (header_in_force file).llsn) (sym left.store)

  pages_are : opening_pages o ≡ stored_pages image.store
  pages_are = over.pages ∙ ap (λ (file : List ℕ). stored_pages file) (sym left.store)

  pub logged_is : logged_above image ≡ mtrs_of_cut w count
  logged_is =
      let all : List Mtr = flat_map (λ n. (log_mtrs n (log_of n image)).0) all_primaries in
      ap (λ (base : ℕ). mtrs_above base (sorted_by log_place all)) (sym base_is)
      ∙ filter_sorted log_place (λ (m : Mtr). nat_lt o.trx.base.llsn m.llsn) all
      ∙ ap (sorted_by log_place) (
      filter_flat (λ (m : Mtr). nat_lt o.trx.base.llsn m.llsn) (λ n. (log_mtrs n (log_of n image)).0) all_primaries
      ∙ flat_same logged_of (λ n. take (count n) (mtrs_in_time w n)) (λ n low high. sym (taken n low high)) 1 8 (omega arith) (omega arith))

  logs_sound : LogsAreSound image
  logs_sound = each_node (λ n. (log_mtrs n (log_of n image)).1 ≡ None) (λ n low high. (left.logs n low high).sound) 1 8 (omega arith) (omega arith)

  pub sound : SoundImage image
  sound = record {
    store = subst IsCleanStore (sym left.store) over.clean;
    logs = logs_sound;
    recoverable = subst (λ (base : ℕ). IsRecoverable base (row_of_key (stored_pages image.store)) (stored_pages image.store) (logged_above image)) base_is
        (subst (λ (pages : PageMap). IsRecoverable o.trx.base.llsn (row_of_key pages) pages (logged_above image)) pages_are
        (subst (λ (mtrs : List Mtr). IsRecoverable o.trx.base.llsn (row_of_key (opening_pages o)) (opening_pages o) mtrs) (sym logged_is) (recoverable o fair w f count valid)));
  }
