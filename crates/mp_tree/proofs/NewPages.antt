-- The lowest clear pages, one behind the other.
use Rattle.mp_plans.specs.Fitting.{IsClear}
use Rattle.std.proofs.Common.{◌≡◌, ◌≢◌, ℕ, zero, suc, ◌+◌, ◌-◌, ◌<◌, ◌≤◌, ◌==◌, nat_lt, Bool, true, cond, List, [], ◌∷◌, length, take, Option, Some, None, IsSome, IfSome, refl, sym, ap, subst, ◌∙◌, inl, inr, arith}
use Rattle.std.specs.List.{AllByRecursion}
use mathlib.Core.Bool.{false≢true}
use Rattle.std.proofs.lemmas.Bool.{cases_lt, cases_eq, lt-ltb}
use Rattle.mp_cells.specs.PageView.{PageView, bit_of}
use Rattle.mp_cells.specs.Trees.{PageMap, IsTree, uses, tree_pages}
use Rattle.mp_plans.specs.Growth.{Growth, stays, new_root, leaf, inner, higher, pages_needed}
use Rattle.mp_cells.proofs.Uses.{one_if-same, one_if-other, one_if-most}
use Rattle.mp_tree.specs.declared.new_pages.New.{New}
use Rattle.mp_tree.specs.Planning.{clear_from, clear_pages, IsNextClear}
use Rattle.mp_tree.specs.Writing.{IsFront, IsNew, HasNew, needed_for}
use Rattle.mp_tree.proofs.ClearPages.{clear_none, clear_here, clear_first, clear_more}

pub next_is : (from n next : ℕ) (bits : List ℕ) → IsNextClear from n bits → next ≡ cond (nat_lt n 4096) (n + 1) n → 1 ≤ length (clear_from (4096 - from) from bits) → clear_from (4096 - from) from bits ≡ n ∷ clear_from (4096 - next) next bits
next_is from n next bits h is some = elim (cases_lt n 4096) [
  | inl lt ↦
      let one : next ≡ n + 1 = is ∙ ap (λ (b : Bool). cond b (n + 1) n) (lt-ltb n 4096 lt) in
      h.between ∙ clear_here n bits lt (h.clear lt) ∙ ap (λ (m : ℕ). n ∷ clear_from (4096 - m) m bits) (sym one)
  | inr past ↦
      let none : 4096 - n ≡ 0 = omega arith in
      let empty : clear_from (4096 - from) from bits ≡ [] = h.between ∙ ap (λ (k : ℕ). clear_from k n bits) none ∙ clear_none n bits in
      absurd (omega (arith, some, ap (λ (xs : List ℕ). length xs) empty))
]

take_one : (k n : ℕ) (xs ys zs : List ℕ) → ys ≡ n ∷ zs → take k xs ≡ take k zs → take (suc k) (n ∷ xs) ≡ take (suc k) ys
take_one k n xs ys zs e rest = ap (λ (t : List ℕ). n ∷ t) rest ∙ ap (take (suc k)) (sym e)

front_one : (from a : ℕ) (next : ℕ) (bits : List ℕ) → IsNextClear from a bits → next ≡ cond (nat_lt a 4096) (a + 1) a → (k : ℕ) → k ≤ 1 → k ≤ length (clear_from (4096 - from) from bits) → take k (a ∷ []) ≡ take k (clear_from (4096 - from) from bits)
front_one from a next bits h is zero few some = refl
front_one from a next bits h is (suc zero) few some = take_one zero a [] (clear_from (4096 - from) from bits) (clear_from (4096 - next) next bits) (next_is from a next bits h is (omega (arith, some))) refl
front_one from a next bits h is (suc (suc k)) few some = absurd (omega arith)

front_two : (from a next b : ℕ) (bits : List ℕ) → IsNextClear from a bits → next ≡ cond (nat_lt a 4096) (a + 1) a → IsNextClear next b bits → (k : ℕ) → k ≤ 2 → k ≤ length (clear_from (4096 - from) from bits) → take k (a ∷ b ∷ []) ≡ take k (clear_from (4096 - from) from bits)
front_two from a next b bits h is g zero few some = refl
front_two from a next b bits h is g (suc k) few some =
    let e = next_is from a next bits h is (omega (arith, some)) in
    take_one k a (b ∷ []) (clear_from (4096 - from) from bits) (clear_from (4096 - next) next bits) e (front_one next b (cond (nat_lt b 4096) (b + 1) b) bits g refl k (omega arith) (omega (arith, some, ap (λ (xs : List ℕ). length xs) e)))

pub front_three : (from a second b third c : ℕ) (bits : List ℕ) → IsNextClear from a bits → second ≡ cond (nat_lt a 4096) (a + 1) a → IsNextClear second b bits → third ≡ cond (nat_lt b 4096) (b + 1) b → IsNextClear third c bits → (k : ℕ) → k ≤ 3 → k ≤ length (clear_from (4096 - from) from bits) → take k (a ∷ b ∷ c ∷ []) ≡ take k (clear_from (4096 - from) from bits)
front_three from a second b third c bits h is g is2 f zero few some = refl
front_three from a second b third c bits h is g is2 f (suc k) few some =
    let e = next_is from a second bits h is (omega (arith, some)) in
    take_one k a (b ∷ c ∷ []) (clear_from (4096 - from) from bits) (clear_from (4096 - second) second bits) e (front_two second b third c bits g is2 f k (omega arith) (omega (arith, some, ap (λ (xs : List ℕ). length xs) e)))

pub fresh_first : (undo next : ℕ) (new : New) (meta : PageView) → new.undo ≡ undo → IsNextClear 0 undo meta.bits → next ≡ cond (nat_lt undo 4096) (undo + 1) undo → IsFront next new meta.bits → IsNew true new meta
fresh_first undo next new meta same h is front k few some =
    let e = next_is 0 undo next meta.bits h is (omega (arith, some)) in
    let one : 1 + k ≡ suc k = omega arith in
    ap (λ (u : ℕ). u ∷ take k (new.first ∷ new.second ∷ new.third ∷ [])) same
    ∙ take_one k undo (new.first ∷ new.second ∷ new.third ∷ []) (clear_pages meta) (clear_from (4096 - next) next meta.bits) e (front k few (omega (arith, some, ap (λ (xs : List ℕ). length xs) e)))
    ∙ ap (λ (n : ℕ). take n (clear_pages meta)) (sym one)

needed_most : (growth : Growth) → pages_needed growth ≤ 3
needed_most stays = omega arith
needed_most new_root = omega arith
needed_most (leaf p) = omega arith
needed_most (inner p) = omega arith
needed_most higher = omega arith

has_new : (pages : PageMap) (fresh : Bool) (growth : Growth) (new : New) → needed_for fresh growth ≤ length (clear_pages (pages 0)) → IsNew fresh new (pages 0) → HasNew pages fresh growth new
has_new pages fresh growth new enough h = record { enough = enough; lowest = h (pages_needed growth) (needed_most growth) enough }

pub found_new : (pages : PageMap) (meta : PageView) (fresh : Bool) (growth : Growth) (needs : ℕ) (found : Option New) → pages 0 ≡ meta → needs ≡ needed_for fresh growth
    → IsSome found × IfSome found (λ new. (needs ≤ length (clear_pages meta)) × IsNew fresh new meta) → IsSome found × IfSome found (HasNew pages fresh growth)
found_new pages meta fresh growth needs None e is h = absurd (false≢true h.0)
found_new pages meta fresh growth needs (Some new) e is h = (refl, has_new pages fresh growth new (subst (λ (p : PageView). needed_for fresh growth ≤ length (clear_pages p)) (sym e) (omega (arith, h.1.0, is))) (subst (IsNew fresh new) (sym e) h.1.1))

-- ---- the pages that are taken are clear, and no two are one

clear_kept : (meta : PageView) (count from : ℕ) → from + count ≤ 4096 → bit_of meta.bits 0 ≢ 0 → bit_of meta.bits 1 ≢ 0 → (k : ℕ) → AllByRecursion (IsClear meta) (take k (clear_from count from meta.bits)) × ((n : ℕ) → uses n (take k (clear_from count from meta.bits)) ≤ 1) × ((n : ℕ) → n < from → uses n (take k (clear_from count from meta.bits)) ≡ 0)
clear_kept meta zero from bound set0 set1 k = subst (λ (xs : List ℕ). AllByRecursion (IsClear meta) xs × ((n : ℕ) → uses n xs ≤ 1) × ((n : ℕ) → n < from → uses n xs ≡ 0)) (sym (ap (take k) (clear_none from meta.bits) ∙ take_none k)) (tt, λ n. omega arith, λ n lt. refl)
  where
    take_none : (k : ℕ) → take {A = ℕ} k [] ≡ []
    take_none zero = refl
    take_none (suc k) = refl
clear_kept meta (suc count) from bound set0 set1 zero = (tt, λ n. omega arith, λ n lt. refl)
clear_kept meta (suc count) from bound set0 set1 (suc k) = elim (cases_eq (bit_of meta.bits from) 0) [
  | inl clear ↦
      let rest = clear_kept meta count (from + 1) (omega arith) set0 set1 k in
      let not_0 : from ≢ 0 = λ (e : from ≡ 0). set0 (ap (bit_of meta.bits) (sym e) ∙ clear) in
      let not_1 : from ≢ 1 = λ (e : from ≡ 1). set1 (ap (bit_of meta.bits) (sym e) ∙ clear) in
      subst (λ (xs : List ℕ). AllByRecursion (IsClear meta) (take (suc k) xs) × ((n : ℕ) → uses n (take (suc k) xs) ≤ 1) × ((n : ℕ) → n < from → uses n (take (suc k) xs) ≡ 0)) (sym (clear_first count from meta.bits clear)) (
        ((omega (arith, not_0, not_1), omega arith, clear), rest.0),
        λ n. elim (cases_eq from n) [
          | inl same ↦ omega (arith, one_if-most (from == n), rest.2 n (omega (arith, same)))
          | inr apart ↦ omega (arith, one_if-other from n apart, rest.1 n)
        ],
        λ n lt. let apart : from ≢ n = λ (e : from ≡ n). absurd (omega (arith, lt, e)) in omega (arith, one_if-other from n apart, rest.2 n (omega (arith, lt))),
      )
  | inr set ↦
      let rest = clear_kept meta count (from + 1) (omega arith) set0 set1 (suc k) in
      subst (λ (xs : List ℕ). AllByRecursion (IsClear meta) (take (suc k) xs) × ((n : ℕ) → uses n (take (suc k) xs) ≤ 1) × ((n : ℕ) → n < from → uses n (take (suc k) xs) ≡ 0)) (sym (clear_more count from meta.bits set))
      (rest.0, rest.1, λ n lt. rest.2 n (omega (arith, lt)))
]

pub clear_ones : (pages : PageMap) (height : ℕ) → IsTree pages height → (k : ℕ) → AllByRecursion (IsClear (pages 0)) (take k (clear_pages (pages 0))) × ((n : ℕ) → uses n (take k (clear_pages (pages 0))) ≤ 1)
clear_ones pages height tree k =
    let set0 : bit_of (pages 0).bits 0 ≢ 0 = λ (e : bit_of (pages 0).bits 0 ≡ 0). absurd (omega (arith, e, tree.bits 0 (omega arith), one_if-same 0)) in
    let set1 : bit_of (pages 0).bits 1 ≢ 0 = λ (e : bit_of (pages 0).bits 1 ≡ 0). absurd (omega (arith, e, tree.bits 1 (omega arith), root_used height)) in
    let all = clear_kept (pages 0) 4096 0 (omega arith) set0 set1 k in
    (all.0, all.1)
  where
    root_used : (height : ℕ) → 1 ≤ uses 1 (tree_pages pages height)
    root_used zero = omega (arith, one_if-same 1)
    root_used (suc h) = omega (arith, one_if-same 1)
