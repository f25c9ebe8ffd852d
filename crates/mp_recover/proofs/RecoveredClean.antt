-- After recovery each image is clean.
use Rattle.std.proofs.Common.{◌≡◌, ◌≢◌, ℕ, zero, suc, ◌-◌, ◌<◌, ◌≤◌, ◌^◌, Bool, true, false, cond, List, [], ◌∷◌, ◌++◌, length, Option, None, refl, sym, ap, subst, ◌∙◌, inl, inr, arith}
use Rattle.std.specs.Prelude.{nat_lt}
use Rattle.std.specs.List.{flat_map, AllByRecursion}
use Rattle.std.proofs.lemmas.Bool.{cases_Bool, cases_lt, lt-ltb, le-ltb, ltb-true}
use Rattle.std.proofs.lemmas.Nat.Bits.{bit_at-lt}
use Rattle.std.proofs.lemmas.Option.{slice_get_past, slice_get-get_or}
use Rattle.mp_cells.specs.declared.kinds.Kind.TheVariants.{Leaf, Undo}
use Rattle.mp_cells.specs.declared.records.Mtr.{Mtr}
use Rattle.mp_cells.specs.PageView.{PageView, SameContent, blank_page, bit_of, is_of}
use Rattle.mp_cells.specs.PageMaps.{page_at}
use Rattle.mp_cells.specs.Plans.{page_or}
use Rattle.mp_cells.specs.Trees.{PageMap, root, uses, tree_pages, Levels, IsTree, IsUnwritten}
use Rattle.mp_cells.proofs.Heights.{height_is}
use Rattle.mp_cells.proofs.Uses.{one_if-same}
use Rattle.mp_cells.proofs.SamePages.{same_tree}
use Rattle.mp_files.specs.Nine.{Image, log_of}
use Rattle.mp_log.specs.Logs.{IsLog}
use Rattle.mp_log.specs.Readers.{log_mtrs}
use Rattle.mp_log.proofs.Given.{text_given}
use Rattle.mp_store.specs.declared.headers.Header.{Header}
use Rattle.mp_store.specs.StoreFiles.{header_in_force, page_in_force, is_map, is_root}
use Rattle.mp_store.specs.CleanStores.{stored_pages, IsCleanStore}
use Rattle.mp_checkpoint.specs.Saving.{IsSaved, stays, changes, ShowsNew, HasRoots}
use Rattle.mp_recover.specs.Checkpoints.{AreEmpty}
use Rattle.mp_recover.specs.PageRecords.{by_log_place}
use Rattle.mp_recover.specs.Redoing.{mtrs_above}
use Rattle.mp_recover.specs.Finding.{larger_of, greatest_of, llsns_in}
use Rattle.mp_recover.specs.Images.{all_primaries, base_llsn, logged_above, LogsAreSound}

-- ---- empty logs

no_batches : (node : ℕ) → IsLog node []
no_batches node = record { mtrs = record { each = tt; rising = refl }; sizes = tt }

none_given : (image : Image) → AreEmpty image → (n : ℕ) → 1 ≤ n → n ≤ 8 → log_mtrs n (log_of n image) ≡ ([], None)
none_given image empty n least most =
    text_given n [] (log_of n image) (no_batches n) (empty.logs (n - 1) (log_of n image) (slice_get-get_or image.logs (n - 1) [] (omega (arith, least, most, empty.count))))

flat_none : (f : ℕ → List Mtr) (ns : List ℕ) → AllByRecursion (λ n. f n ≡ []) ns → flat_map f ns ≡ []
flat_none f [] all = refl
flat_none f (n ∷ ns) all = ap (λ (xs : List Mtr). xs ++ flat_map f ns) all.0 ∙ flat_none f ns all.1

each_primary : (P : ℕ → Type 0) → ((n : ℕ) → 1 ≤ n → n ≤ 8 → P n) → AllByRecursion P all_primaries
each_primary P all = (
  all 1 (omega arith) (omega arith),
  (
    all 2 (omega arith) (omega arith),
    (
      all 3 (omega arith) (omega arith),
      (
        all 4 (omega arith) (omega arith),
        (all 5 (omega arith) (omega arith), (all 6 (omega arith) (omega arith), (all 7 (omega arith) (omega arith), (all 8 (omega arith) (omega arith), tt)))),
      ),
    ),
  ),
)

pub empty_sound : (image : Image) → AreEmpty image → LogsAreSound image
empty_sound image empty = each_primary (λ n. (log_mtrs n (log_of n image)).1 ≡ None) (λ n least most. ap (λ (x : List Mtr × Option ℕ). x.1) (none_given image empty n least most))

pub empty_none : (image : Image) → AreEmpty image → logged_above image ≡ []
empty_none image empty =
    ap (λ (mtrs : List Mtr). mtrs_above (base_llsn image) (by_log_place mtrs))
    (flat_none (λ n. (log_mtrs n (log_of n image)).0) all_primaries (each_primary (λ n. (log_mtrs n (log_of n image)).0 ≡ []) (λ n least most. ap (λ (x : List Mtr × Option ℕ). x.0) (none_given image empty n least most))))

-- ---- the greatest LLSN

larger_least : (a b : ℕ) → (a ≤ larger_of a b) × (b ≤ larger_of a b)
larger_least a b = elim (cases_lt a b) [
  | inl lt ↦ rw (lt-ltb a b lt) (omega (arith, lt), omega arith)
  | inr ge ↦ rw (le-ltb a b ge) (omega arith, omega (arith, ge))
]

greatest_least : (most : ℕ) (ns : List ℕ) → most ≤ greatest_of most ns
greatest_least most [] = omega arith
greatest_least most (n ∷ ns) = (let here = (larger_least most n).0 in let rest = greatest_least (larger_of most n) ns in omega (arith, here, rest))

pub greatest_above : (base : ℕ) (mtrs : List Mtr) → AllByRecursion (λ (m : Mtr). base < m.llsn) mtrs → mtrs ≢ [] → base < greatest_of base (llsns_in mtrs)
greatest_above base [] all some_ = absurd (some_ refl)
greatest_above base (m ∷ mtrs) all some_ =
    (let here = (larger_least base m.llsn).1 in let rest = greatest_least (larger_of base m.llsn) (llsns_in mtrs) in let above : base < m.llsn = all.0 in omega (arith, here, rest, above))

pub above_all : (base : ℕ) (mtrs : List Mtr) → AllByRecursion (λ (m : Mtr). base < m.llsn) (mtrs_above base mtrs)
above_all base [] = tt
above_all base (m ∷ mtrs) = elim (cases_Bool (nat_lt base m.llsn)) [
  | inl lt ↦ subst (λ (b : Bool). AllByRecursion (λ (m' : Mtr). base < m'.llsn) (cond b (m ∷ mtrs_above base mtrs) (mtrs_above base mtrs))) (sym lt) (ltb-true base m.llsn lt, above_all base mtrs)
  | inr ge ↦ subst (λ (b : Bool). AllByRecursion (λ (m' : Mtr). base < m'.llsn) (cond b (m ∷ mtrs_above base mtrs) (mtrs_above base mtrs))) (sym ge) (above_all base mtrs)
]

-- ---- pages 0 and 1 of a tree

under_root : (pages : PageMap) (height : ℕ) → 1 ≤ uses 1 (tree_pages pages height)
under_root pages zero = omega arith
under_root pages (suc height) = omega arith

pub tree_roots : (pages : PageMap) (height : ℕ) → IsTree pages height → HasRoots pages
tree_roots pages height tree = record { map = map_is; root = root_is height tree.levels }
  where
    bit_zero : bit_of (pages 0).bits 0 ≡ 1
    bit_zero = omega (arith, tree.bits 0 (omega arith), bit_at-lt, one_if-same 0)

    bit_one : bit_of (pages 0).bits 1 ≡ 1
    bit_one = omega (arith, tree.bits 1 (omega arith), bit_at-lt, under_root pages height)

    map_is : is_map (pages 0) ≡ true
    map_is = rw (tree.meta, bit_zero, bit_one) refl

    root_is : (h : ℕ) → Levels pages h (root ∷ []) → is_root (pages 1) ≡ true
    root_is zero levels = rw (levels.0, levels.1, levels.2) refl
    root_is (suc h) levels = rw (levels.0.0, levels.0.1, levels.0.2) refl

-- ---- stored pages that were saved

saved_content : (llsn : ℕ) (stored page new : PageView) → IsSaved llsn stored page new → SameContent page new
saved_content llsn stored page new (stays same is) = subst (λ (p : PageView). record page { llsn = p.llsn } ≡ p) (sym is) same
saved_content llsn stored page new (changes differs is) = subst (λ (p : PageView). record page { llsn = p.llsn } ≡ p) (sym is) refl

saved_llsn : (base llsn : ℕ) (stored page new : PageView) → stored.llsn ≤ base → base ≤ llsn → IsSaved llsn stored page new → new.llsn ≤ llsn
saved_llsn base llsn stored page new low le (stays same is) = omega (arith, low, le, ap (λ (p : PageView). p.llsn) is)
saved_llsn base llsn stored page new low le (changes differs is) = omega (arith, ap (λ (p : PageView). p.llsn) is)

pub page_past : (items : List PageView) (n : ℕ) → length items ≤ n → page_at items n ≡ blank_page 0
page_past items n le = ap (page_or (blank_page 0)) (slice_get_past items n le)

pub kind_not : (page : PageView) → is_of Undo page ≡ false → page.kind ≢ Undo
kind_not page none e = (let is : is_of Undo page ≡ true = rw e refl in absurd (both none is))
  where
    both : is_of Undo page ≡ false → is_of Undo page ≡ true → ⊥
    both f t = absurd (cc)

module _ (header : Header) (old new : List ℕ) (items : List PageView) (count : length items ≡ 4096) (shows : ShowsNew header (page_at items) old new) where
  same_stored : (n : ℕ) → SameContent (page_at items n) (stored_pages new n)
  same_stored n = elim (cases_lt n 4096) [
    | inl lt ↦
        subst (SameContent (page_at items n)) (sym (ap (λ (b : Bool). cond b (page_in_force (header_in_force new).generation n new) (blank_page 0)) (lt-ltb n 4096 lt) ∙ ap (λ (h : Header). page_in_force h.generation n new) shows.header_is))
        (saved_content header.llsn _ _ _ (shows.saved n lt))
    | inr ge ↦
        subst (SameContent (page_at items n)) (sym (ap (λ (b : Bool). cond b (page_in_force (header_in_force new).generation n new) (blank_page 0)) (le-ltb n 4096 ge)))
        (subst (λ (p : PageView). SameContent p (blank_page 0)) (sym (page_past items n (omega (arith, count, ge)))) refl)
  ]

  pub saved_at : (n : ℕ) → n < 4096 → IsSaved header.llsn (page_in_force (header_in_force old).generation n old) (page_at items n) (stored_pages new n)
  saved_at n lt =
      subst (IsSaved header.llsn (page_in_force (header_in_force old).generation n old) (page_at items n))
      (sym (ap (λ (b : Bool). cond b (page_in_force (header_in_force new).generation n new) (blank_page 0)) (lt-ltb n 4096 lt) ∙ ap (λ (h : Header). page_in_force h.generation n new) shows.header_is)) (shows.saved n lt)

  module _ (base : ℕ) (low : (n : ℕ) → n < 4096 → (page_in_force (header_in_force old).generation n old).llsn ≤ base) (le : base ≤ header.llsn) (small : header.llsn < 2 ^ 62)
      (height : ℕ) (tree : IsTree (page_at items) height) (no_undo : (n : ℕ) → n < 4096 → (page_at items n).kind ≢ Undo)
      (no_writers : (n : ℕ) → n < 4096 → (page_at items n).kind ≡ Leaf → AllByRecursion IsUnwritten (page_at items n).rows) where
    new_llsn : (n : ℕ) → n < 4096 → (stored_pages new n).llsn ≤ header.llsn
    new_llsn n lt = saved_llsn base header.llsn _ _ _ (low n lt) le (saved_at n lt)

    new_tree : IsTree (stored_pages new) height
    new_tree = same_tree (page_at items) (stored_pages new) same_stored height (λ n lt. (let l = new_llsn n lt in omega (arith, l, small))) tree

    same_kind : (n : ℕ) → (stored_pages new n).kind ≡ (page_at items n).kind
    same_kind n = ap (λ (p : PageView). p.kind) (sym (same_stored n))

    pub saved_clean : IsCleanStore new
    saved_clean = record {
      sound = shows.sound;
      clean = record {
        tree = subst (IsTree (stored_pages new)) (height_is (stored_pages new) height new_tree) new_tree;
        no_undo = λ n lt e. no_undo n lt (sym (same_kind n) ∙ e);
        no_writers = λ n lt e. subst (λ (p : PageView). AllByRecursion IsUnwritten p.rows) (same_stored n) (no_writers n lt (sym (same_kind n) ∙ e));
        llsns = λ n lt. subst (λ (h : Header). (stored_pages new n).llsn ≤ h.llsn) (sym shows.header_is) (new_llsn n lt);
      };
    }
