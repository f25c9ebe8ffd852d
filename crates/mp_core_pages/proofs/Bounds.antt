-- Each node makes only so many mtrs, so LLSNs stay within their bits, and so does each word.
use Rattle.std.proofs.Common.{◌≡◌, ℕ, ◌+◌, ◌*◌, ◌^◌, ◌<◌, ◌≤◌, List, [], ◌∷◌, length, refl, ap, ◌∙◌, inl, inr, arith, mul-le-mul_right}
use mathlib.Core.Logic.{dite}
use native.Mathlib.Decide.{ℕ_discrete}
use Rattle.mp_machine.specs.Lists.{IsIn}
use Rattle.mp_machine.proofs.Lists.{total_bounded}
use Rattle.mp_core_pages.specs.declared.opening.TheConstants.{MOST_MTRS}
use Rattle.mp_core_pages.specs.declared.opening.PagesOpening.{PagesOpening}
use Rattle.mp_core_pages.specs.declared.event.PagesEvent.{PagesEvent}
use Rattle.mp_core_pages.specs.declared.event.PagesEvent.TheVariants.{LockWord, UnlockWord, TakeFrame, GiveFrame, StoreLlsn, StoreDurable}
use Rattle.mp_core_pages.specs.LockWords.{IsLockWord}
use Rattle.mp_core_pages.specs.Histories.{PageOps, placed, made_by}
use Rattle.mp_core_pages.specs.PageParts.{last_llsn}
use Rattle.mp_core_pages.specs.PageEvents.{PagesPlace, lock_of, turn_of, llsn_word, durable_word, IsPagesPlace, pages_node, pages_place, PagesAsks}
use Rattle.mp_core_pages.specs.PageWorld.{PagesWorld, pages_part, pages_content, PagesFit, IsPagesNode}
use Rattle.mp_core_pages.specs.PageInvariant.{PagesInv}
use Rattle.mp_core_pages.proofs.Choices.{if_differs}

-- a node that made none of the mtrs of a history has none of them
none_made : {P M : Type 0} (ops : PageOps P M) (n : ℕ) (history : List M)
    → ((m : M) → IsIn m history → ¬ (ops.maker_of m ≡ n)) → made_by ops n history ≡ []
none_made ops n [] none = refl
none_made ops n (m ∷ history) none =
    if_differs (ops.maker_of m) n (placed (length history) m ∷ made_by ops n history) (made_by ops n history)
    (none m (inl refl)) ∙ none_made ops n history (λ x is. none x (inr is))

lock_word_fits : (word : ℕ) → IsLockWord word → word < 2 ^ 64
lock_word_fits word (inl small) = omega arith
lock_word_fits word (inr w) = let most = w.2 in let is = w.3 in omega arith

module _ {P M : Type 0} (ops : PageOps P M) (opening : PagesOpening P) (fit : PagesFit {M = M} ops opening) where
  -- the word of an event that may come is one of the words
  pub pages_placed : (w : PagesWorld P M) (e : PagesEvent P M) → IsPagesNode opening (pages_node e)
      → PagesAsks ops opening.base (pages_part w (pages_node e)) e → IsPagesPlace (pages_place e)
  pages_placed w (LockWord n k old new) node may = may.0
  pages_placed w (UnlockWord n k) node may = may.in_range
  pages_placed w (TakeFrame n k) node may = may.0
  pages_placed w (GiveFrame n k y) node may = may.in_range
  pages_placed w (StoreLlsn n m) node may = let most = fit.some_primaries.1 in let is = node.1 in
      (node.0, omega arith)
  pages_placed w (StoreDurable n v) node may = let most = fit.some_primaries.1 in let is = node.1 in
      (node.0, omega arith)

  module _ (w : PagesWorld P M) (i : PagesInv ops opening w) where
    nobody_made : length (w.made 0) ≡ 0
    nobody_made = ap length (i.mtr_history.own 0 ∙ none_made ops 0 w.history
        (λ m is zero_is. let node = (i.mtr_history.makers m is).0 in omega arith))

    pub history_bounded : length w.history ≤ 8 * MOST_MTRS
    history_bounded =
        let all = total_bounded (λ n. length (w.made n)) MOST_MTRS opening.primaries i.mtr_logs.few in
        let count = i.mtr_logs.counted in
        let nobody = nobody_made in
        let eight = mul-le-mul_right MOST_MTRS fit.some_primaries.1 in
        omega arith

    pub llsn_bounded : (n : ℕ) → last_llsn ops opening.base (w.made n) ≤ opening.base + 8 * MOST_MTRS
    llsn_bounded n = let most = i.mtr_logs.last n in let few = history_bounded in omega arith

    -- so each word fits
    pub pages_content_fits : (a : PagesPlace) → IsPagesPlace a → pages_content ops opening.base w a < 2 ^ 64
    pages_content_fits (lock_of k) is = lock_word_fits (w.lock_words k) (i.page_locks.words k)
    pages_content_fits (turn_of k) is =
        dite (ℕ_discrete (w.turn_words k) 0)
        (λ free. omega arith)
        (λ out.
        let there = (i.frame_turns.taken k is out).1 in
        let node = i.page_locks.nodes (w.turn_words k) k (i.frame_turns.named (w.turn_words k) k there.0 there.1).1 in
        let most = fit.some_primaries.1 in
        omega arith)
    pages_content_fits (llsn_word n) is = let most = llsn_bounded n in let fits = fit.llsns_fit in omega arith
    pages_content_fits (durable_word n) is = let below = (i.mtr_logs.durable n).1 in let most = llsn_bounded n in
        let fits = fit.llsns_fit in omega arith
