-- The pages of a fresh store are a fresh map of pages.
use Rattle.std.proofs.Common.{◌≡◌, ℕ, zero, suc, Bool, true, false, List, refl, sym, ap, ◌∙◌, subst, arith}
use Rattle.std.specs.Prelude.{nat_lt, if◌then◌else◌}
use Rattle.mp_cells.specs.PageView.{PageView, blank_page}
use Rattle.mp_cells.specs.SmallMaps.{fresh_map}
use Rattle.mp_cells.specs.Trees.{PageMap, IsClean}
use Rattle.mp_cells.proofs.SmallTrees.{fresh_is_clean}
use Rattle.mp_store.specs.declared.headers.Header.{Header}
use Rattle.mp_store.specs.StoreFiles.{header_in_force, page_in_force}
use Rattle.mp_store.specs.FreshStores.{zeros, IsFresh}
use Rattle.mp_store.specs.CleanStores.{stored_pages, IsCleanStore}

same_maps : (f g : PageMap) → ((n : ℕ) → f n ≡ g n) → f ≡ g
same_maps f g same = λ i. λ n. same n i

by_test : (test : Bool) (page blank : PageView) → page ≡ blank → (if test then page else blank) ≡ blank
by_test true page blank same = same
by_test false page blank same = refl

pub fresh_is_clean_store : (file : List ℕ) → IsFresh file → IsCleanStore file
unfolding zeros
fresh_is_clean_store file fresh = record {
  sound = fresh.sound;
  clean = subst (λ pages. IsClean (header_in_force file).llsn pages) (sym (same_maps (stored_pages file) fresh_map each)) (subst (λ (h : Header). IsClean h.llsn fresh_map) (sym fresh.header) fresh_is_clean);
}
  where
    shown : (n : ℕ) → page_in_force (header_in_force file).generation n file ≡ page_in_force 1 n file
    shown n = ap (λ (h : Header). page_in_force h.generation n file) fresh.header

    each : (n : ℕ) → stored_pages file n ≡ fresh_map n
    each zero = shown 0 ∙ fresh.map
    each (suc zero) = shown 1 ∙ fresh.root
    each (suc (suc n)) = by_test (nat_lt (suc (suc n)) 4096) (page_in_force (header_in_force file).generation (suc (suc n)) file) (blank_page 0) (shown (suc (suc n)) ∙ fresh.blank (suc (suc n)) (omega arith))
