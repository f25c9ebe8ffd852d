-- The history and its first mtrs: where nothing beyond them touches a page, they leave it as the whole history does.
use Rattle.std.proofs.Common.{◌≡◌, ℕ, zero, suc, ◌-◌, ◌<◌, ◌≤◌, ◌⊎◌, true, false, List, [], ◌∷◌, length, drop, refl, sym, ap, ◌∙◌, subst, inl, inr, ⊎_elim, arith, Option, None, Some, slice_get}
use Rattle.std.specs.Option.{option_map}
use Rattle.std.proofs.lemmas.Bool.{cases_Bool}
use mathlib.Core.Logic.{dite}
use native.Mathlib.Decide.{ℕ_discrete}
use Rattle.mp_machine.specs.Lists.{IsIn}
use Rattle.mp_core_pages.specs.declared.opening.PagesOpening.{PagesOpening}
use Rattle.mp_core_pages.specs.declared.part.Placed.{Placed}
use Rattle.mp_core_pages.specs.Histories.{PageOps, PageLaws, is_touched, Touches, oldest, placed, llsn_at, folded, made_by, GoesOn, HistoryInOrder, PageRises, TellsItsList}
use Rattle.mp_core_pages.specs.PageParts.{last_llsn, own_llsn}
use Rattle.mp_core_pages.specs.PageInvariant.{Ascends}
use Rattle.mp_core_pages.proofs.Choices.{if_true, if_false, of_equal}

module _ {M : Type 0} where
  -- one mtr more leaves the first ones as they are
  pub oldest_same : (h : ℕ) (m : M) (history : List M) → h ≤ length history
      → oldest h (m ∷ history) ≡ oldest h history
  oldest_same h m history within = let one : length (m ∷ history) - h ≡ suc (length history - h) = omega arith in
      ap (λ i. drop i (m ∷ history)) one

  pub oldest_all : (history : List M) → oldest (length history) history ≡ history
  oldest_all history = let none : length history - length history ≡ 0 = omega arith in ap (λ i. drop i history) none

  pub oldest_cases : (h : ℕ) (m : M) (history : List M) → h ≤ length (m ∷ history) → (h ≤ length history)
      ⊎ (h ≡ length (m ∷ history))
  oldest_cases h m history within = dite (ℕ_discrete h (length (m ∷ history))) (λ all. inr all)
      (λ less. inl (omega arith))

  none_dropped : (i : ℕ) → drop {A = M} i [] ≡ []
  none_dropped zero = refl
  none_dropped (suc i) = refl

  in_dropped : (i : ℕ) (xs : List M) (x : M) → IsIn x (drop i xs) → IsIn x xs
  in_dropped zero xs x h = h
  in_dropped (suc i) [] x h = h
  in_dropped (suc i) (y ∷ ys) x h = inr (in_dropped i ys x h)

  pub in_oldest : (h : ℕ) (history : List M) (m : M) → IsIn m (oldest h history) → IsIn m history
  in_oldest h history m is = in_dropped (length history - h) history m is

module _ {P M : Type 0} (ops : PageOps P M) (laws : PageLaws ops) (opening : PagesOpening P) where
  -- an mtr leaves a page that it does not touch
  pub untouched_same : (m : M) (k : ℕ) → is_touched k (ops.touches m) ≡ false → (x : Option P)
      → option_map (ops.after_mtr m k) x ≡ x
  untouched_same m k apart None = refl
  untouched_same m k apart (Some y) = ap Some (laws.untouched m k y apart)

  -- and gives its LLSN to one that it touches
  pub touched_llsn : (history : List M) (m : M) (k : ℕ) → GoesOn ops opening history m → Touches ops m k
      → llsn_at ops (folded ops opening (m ∷ history) k) ≡ ops.mtr_llsn m
  touched_llsn history m k on touch = let was = on.llsns_rise k touch in
      ap (λ x. llsn_at ops (option_map (ops.after_mtr m k) x)) was.1 ∙ laws.touched m k was.0 touch

  pub touched_before : (history : List M) (m : M) (k : ℕ) → GoesOn ops opening history m → Touches ops m k
      → llsn_at ops (folded ops opening history k) < ops.mtr_llsn m
  touched_before history m k on touch = let was = on.llsns_rise k touch in
      subst (λ x. llsn_at ops x < ops.mtr_llsn m) (sym was.1) was.2

  -- so a page's LLSN does not fall along a history
  step_rises : (history : List M) (m : M) (k : ℕ) → GoesOn ops opening history m
      → llsn_at ops (folded ops opening history k) ≤ llsn_at ops (folded ops opening (m ∷ history) k)
  step_rises history m k on =
      ⊎_elim
      (λ (touch : is_touched k (ops.touches m) ≡ true). let now = touched_llsn history m k on touch in let before =
      touched_before history m k on touch in omega arith)
      (λ (apart : is_touched k (ops.touches m) ≡ false). let same = ap (llsn_at ops)
      (untouched_same m k apart (folded ops opening history k)) in omega arith)
      (cases_Bool (is_touched k (ops.touches m)))

  pub prefix_rises : (history : List M) (h k : ℕ) → HistoryInOrder ops opening history → h ≤ length history
      → llsn_at ops (folded ops opening (oldest h history) k) ≤ llsn_at ops (folded ops opening history k)
  prefix_rises [] h k order within = let none : oldest h [] ≡ [] = none_dropped (length {A = M} [] - h) in
      subst (λ l. llsn_at ops (folded ops opening l k) ≤ llsn_at ops (folded ops opening [] k)) (sym none)
      (omega arith)
  prefix_rises (m ∷ history) h k order within =
      ⊎_elim
      (λ (before : h ≤ length history).
      let rest = prefix_rises history h k order.1 before in
      let step = step_rises history m k order.0 in
      let same = ap (λ l. llsn_at ops (folded ops opening l k)) (oldest_same h m history before) in
      omega arith)
      (λ (all : h ≡ length (m ∷ history)).
      let same : llsn_at ops (folded ops opening (oldest h (m ∷ history)) k) ≡ llsn_at ops
      (folded ops opening (m ∷ history) k) =
      ap (λ i. llsn_at ops (folded ops opening (oldest i (m ∷ history)) k)) all
      ∙ ap (λ l. llsn_at ops (folded ops opening l k)) (oldest_all (m ∷ history)) in
      omega arith)
      (oldest_cases h m history within)

  -- each mtr that touches a page is at or below the LLSN that the whole history leaves
  pub touching_below : (history : List M) (m : M) (k : ℕ) → HistoryInOrder ops opening history → IsIn m history
      → Touches ops m k → ops.mtr_llsn m ≤ llsn_at ops (folded ops opening history k)
  touching_below [] m k order is touch = absurd is
  touching_below (last ∷ history) m k order (inl e) touch =
      let now = touched_llsn history last k order.0 (subst (λ x. Touches ops x k) e touch) in
      let same = ap ops.mtr_llsn e in
      omega arith
  touching_below (last ∷ history) m k order (inr is) touch = let rest = touching_below history m k order.1 is touch in
      let step = step_rises history last k order.0 in omega arith

  -- so the mtrs on a page were made in the order of their LLSNs
  pub order_rises : (history : List M) (k : ℕ) → HistoryInOrder ops opening history → PageRises ops k history
  order_rises [] k order = tt
  order_rises (m ∷ history) k order = (
    λ touch before is touched. let most = touching_below history before k order.1 is touched in let less =
        touched_before history m k order.0 touch in omega arith,
    order_rises history k order.1,
  )

  -- the first mtrs of a history are in order themselves
  oldest_in_order : (history : List M) (h : ℕ) → HistoryInOrder ops opening history
      → HistoryInOrder ops opening (oldest h history)
  oldest_in_order history h order = dropped_in_order (length history - h) history order
    where
      dropped_in_order : (i : ℕ) (xs : List M) → HistoryInOrder ops opening xs
          → HistoryInOrder ops opening (drop i xs)
      dropped_in_order zero xs order = order
      dropped_in_order (suc i) [] order = order
      dropped_in_order (suc i) (x ∷ xs) order = dropped_in_order i xs order.1

  -- an mtr at or below the LLSN that the first ones leave a page with is one of them
  in_prefix : (history : List M) (h k : ℕ) → HistoryInOrder ops opening history → h ≤ length history → (m : M)
      → IsIn m history → Touches ops m k → ops.mtr_llsn m ≤ llsn_at ops (folded ops opening (oldest h history) k)
      → IsIn m (oldest h history)
  in_prefix [] h k order within m is touch most = absurd is
  in_prefix (last ∷ history) h k order within m is touch most =
      ⊎_elim
      (λ (before : h ≤ length history).
      let same = oldest_same h last history before in
      let at_most = subst (λ l. ops.mtr_llsn m ≤ llsn_at ops (folded ops opening l k)) same most in
      subst (λ l. IsIn m l) (sym same)
      (⊎_elim
      (λ (e : m ≡ last).
      let below = prefix_rises history h k order.1 before in
      let less = touched_before history last k order.0 (subst (λ x. Touches ops x k) e touch) in
      let llsn = ap ops.mtr_llsn e in
      absurd (omega arith))
      (λ (old : IsIn m history). in_prefix history h k order.1 before m old touch at_most)
      is))
      (λ (all : h ≡ length (last ∷ history)).
      subst (λ l. IsIn m l) (sym (ap (λ i. oldest i (last ∷ history)) all ∙ oldest_all (last ∷ history))) is)
      (oldest_cases h last history within)

  pub tells_its_list : (history : List M) (h k : ℕ) → HistoryInOrder ops opening history → h ≤ length history
      → TellsItsList ops opening history h k
  tells_its_list history h k order within m is touch = (
    λ first. touching_below (oldest h history) m k (oldest_in_order history h order) first touch,
    λ most. in_prefix history h k order within m is touch most,
  )

  -- the pages of a history are those of the opening
  pub folded_there : (history : List M) (k : ℕ) → k < length opening.pages
      → (y : P) × (folded ops opening history k ≡ Some y)
  folded_there [] k within = there opening.pages k within
    where
      there : (pages : List P) (k : ℕ) → k < length pages → (y : P) × (slice_get pages k ≡ Some y)
      there [] k within = absurd (omega arith)
      there (y ∷ pages) zero within = (y, refl)
      there (y ∷ pages) (suc k) within = there pages k (omega arith)
  folded_there (m ∷ history) k within =
      let was = folded_there history k within in
      (ops.after_mtr m k was.0, ap (option_map (ops.after_mtr m k)) was.1)

  -- where each mtr that touches the page is at or below the LLSN that the first ones leave, nothing beyond them
  -- touches it
  pub prefix_whole : (history : List M) (h k : ℕ) → HistoryInOrder ops opening history → h ≤ length history
      → ((m : M) → IsIn m history → Touches ops m k → ops.mtr_llsn m ≤ llsn_at ops
      (folded ops opening (oldest h history) k))
      → folded ops opening (oldest h history) k ≡ folded ops opening history k
  prefix_whole [] h k order within each = ap (λ l. folded ops opening l k) (none_dropped (length {A = M} [] - h))
  prefix_whole (m ∷ history) h k order within each =
      ⊎_elim
      (λ (before : h ≤ length history).
      let same = oldest_same h m history before in
      let rest = prefix_whole history h k order.1 before
      (λ x is touch. subst (λ l. ops.mtr_llsn x ≤ llsn_at ops (folded ops opening l k)) same
      (each x (inr is) touch)) in
      ⊎_elim
      (λ (touch : is_touched k (ops.touches m) ≡ true).
      let most = subst (λ l. ops.mtr_llsn m ≤ llsn_at ops (folded ops opening l k)) same (each m (inl refl) touch) in
      let below = prefix_rises history h k order.1 before in
      let less = touched_before history m k order.0 touch in
      absurd (omega arith))
      (λ (apart : is_touched k (ops.touches m) ≡ false).
      ap (λ l. folded ops opening l k) same ∙ rest ∙ sym (untouched_same m k apart (folded ops opening history k)))
      (cases_Bool (is_touched k (ops.touches m))))
      (λ (all : h ≡ length (m ∷ history)). ap (λ i. folded ops opening (oldest i (m ∷ history)) k) all
      ∙ ap (λ l. folded ops opening l k) (oldest_all (m ∷ history)))
      (oldest_cases h m history within)

-- of a node's own mtrs, which ascend, those that touch a page are at or below the last of these
module _ {P M : Type 0} (ops : PageOps P M) (base : ℕ) where
  own_below_last : (made : List (Placed M)) (k : ℕ) → Ascends ops base made
      → own_llsn ops made k ≤ last_llsn ops base made
  own_below_last [] k up = omega arith
  own_below_last (p ∷ made) k up =
      let rest = own_below_last made k up.1 in
      let less = up.0 in
      ⊎_elim
      (λ (touch : is_touched k (ops.touches p.mtr) ≡ true). let is = if_true (is_touched k (ops.touches p.mtr))
      (ops.mtr_llsn p.mtr) (own_llsn ops made k) touch in omega arith)
      (λ (apart : is_touched k (ops.touches p.mtr) ≡ false). let is = if_false (is_touched k (ops.touches p.mtr))
      (ops.mtr_llsn p.mtr) (own_llsn ops made k) apart in omega arith)
      (cases_Bool (is_touched k (ops.touches p.mtr)))

  -- one mtr more on the node's own
  own_more : (p : Placed M) (made : List (Placed M)) (k llsn : ℕ) → Ascends ops base (p ∷ made)
      → llsn ≤ own_llsn ops made k → llsn ≤ own_llsn ops (p ∷ made) k
  own_more p made k llsn up most =
      let below = own_below_last made k up.1 in
      let less = up.0 in
      ⊎_elim
      (λ (touch : is_touched k (ops.touches p.mtr) ≡ true). let is = if_true (is_touched k (ops.touches p.mtr))
      (ops.mtr_llsn p.mtr) (own_llsn ops made k) touch in omega arith)
      (λ (apart : is_touched k (ops.touches p.mtr) ≡ false). let is = if_false (is_touched k (ops.touches p.mtr))
      (ops.mtr_llsn p.mtr) (own_llsn ops made k) apart in omega arith)
      (cases_Bool (is_touched k (ops.touches p.mtr)))

  pub own_most : (history : List M) (m : M) (n k : ℕ) → Ascends ops base (made_by ops n history) → IsIn m history
      → ops.maker_of m ≡ n → Touches ops m k → ops.mtr_llsn m ≤ own_llsn ops (made_by ops n history) k
  own_most [] m n k up is own touch = absurd is
  own_most (last ∷ history) m n k up (inl e) own touch =
      let maker : ops.maker_of last ≡ n = ap ops.maker_of (sym e) ∙ own in
      let touched : is_touched k (ops.touches last) ≡ true = subst (λ x. Touches ops x k) e touch in
      let same = ap ops.mtr_llsn e in
      of_equal (λ l. ops.mtr_llsn m ≤ own_llsn ops l k) (ops.maker_of last) n
      (placed (length history) last ∷ made_by ops n history) (made_by ops n history)
      (λ _. let is = if_true (is_touched k (ops.touches last)) (ops.mtr_llsn last)
      (own_llsn ops (made_by ops n history) k) touched in omega arith)
      (λ other. absurd (other maker))
  own_most (last ∷ history) m n k up (inr is) own touch =
      dite (ℕ_discrete (ops.maker_of last) n)
      (λ mine.
      let all = if_mine mine in
      let up_all = subst (λ l. Ascends ops base l) all up in
      subst (λ l. ops.mtr_llsn m ≤ own_llsn ops l k) (sym all)
      (own_more (placed (length history) last) (made_by ops n history) k (ops.mtr_llsn m) up_all
      (own_most history m n k up_all.1 is own touch)))
      (λ other.
      let rest = if_other other in
      subst (λ l. ops.mtr_llsn m ≤ own_llsn ops l k) (sym rest)
      (own_most history m n k (subst (λ l. Ascends ops base l) rest up) is own touch))
    where
      if_mine : ops.maker_of last ≡ n → made_by ops n (last ∷ history) ≡ placed (length history) last
          ∷ made_by ops n history
      if_mine mine = of_equal (λ l. l ≡ placed (length history) last ∷ made_by ops n history) (ops.maker_of last) n
          (placed (length history) last ∷ made_by ops n history) (made_by ops n history) (λ _. refl)
          (λ other. absurd (other mine))

      if_other : ¬ (ops.maker_of last ≡ n) → made_by ops n (last ∷ history) ≡ made_by ops n history
      if_other other = of_equal (λ l. l ≡ made_by ops n history) (ops.maker_of last) n
          (placed (length history) last ∷ made_by ops n history) (made_by ops n history)
          (λ mine. absurd (other mine)) (λ _. refl)
