-- What an event makes of the mtrs of each node, of what is durable, of the pages that were given, and of the
-- history; and so what it leaves.
use Rattle.std.proofs.Common.{◌≡◌, ℕ, Bool, true, false, ◌==◌, if◌then◌else◌, List, ◌∷◌, length, refl, Option, None, Some}
use lib.ListN.{get_elem?}
use Rattle.mp_machine.specs.Lists.{pushed}
use Rattle.mp_core_pages.specs.declared.part.GivenPage.{GivenPage}
use Rattle.mp_core_pages.specs.declared.part.Placed.{Placed}
use Rattle.mp_core_pages.specs.declared.event.PagesEvent.{PagesEvent}
use Rattle.mp_core_pages.specs.declared.event.PagesEvent.TheVariants.{LockWord, UnlockWord, TakeFrame, GiveFrame, StoreLlsn, StoreDurable}
use Rattle.mp_core_pages.specs.Histories.{PageOps, placed}
use Rattle.mp_core_pages.specs.PageParts.{given_page, kept_or}
use Rattle.mp_core_pages.specs.PageWorld.{PagesWorld, standing, after_lock, after_turn, pages_after}
use Rattle.mp_core_pages.proofs.Places.{same_by_test, same_by_turn}

module _ {P M : Type 0} (ops : PageOps P M) (known : ℕ) (w : PagesWorld P M) where
  abbrev pub made_after : PagesEvent P M → ℕ → List (Placed M)
  made_after (LockWord n k old new) = w.made
  made_after (UnlockWord n k) = w.made
  made_after (TakeFrame n k) = w.made
  made_after (GiveFrame n k y) = w.made
  made_after (StoreLlsn n m) = pushed w.made n (placed (length w.history) m)
  made_after (StoreDurable n v) = w.made

  abbrev pub durables_after : PagesEvent P M → ℕ → List ℕ
  durables_after (LockWord n k old new) = w.durables
  durables_after (UnlockWord n k) = w.durables
  durables_after (TakeFrame n k) = w.durables
  durables_after (GiveFrame n k y) = w.durables
  durables_after (StoreLlsn n m) = w.durables
  durables_after (StoreDurable n v) = pushed w.durables n v

  abbrev pub history_after : PagesEvent P M → List M
  history_after (LockWord n k old new) = w.history
  history_after (UnlockWord n k) = w.history
  history_after (TakeFrame n k) = w.history
  history_after (GiveFrame n k y) = w.history
  history_after (StoreLlsn n m) = m ∷ w.history
  history_after (StoreDurable n v) = w.history

  -- a frame that was at home gives its page, or the content that the node has already
  abbrev pub given_by : ℕ → ℕ → Option P → ℕ → List (GivenPage P)
  given_by n k None = w.given
  given_by n k (Some y) = pushed w.given n (given_page k (kept_or ops (w.contents n) k y) known (length w.history))

  abbrev pub given_after : PagesEvent P M → ℕ → List (GivenPage P)
  given_after (LockWord n k old new) = w.given
  given_after (UnlockWord n k) = w.given
  given_after (TakeFrame n k) = if w.turn_words k == 0 then given_by n k (standing (get_elem? w.homes k)) else w.given
  given_after (GiveFrame n k y) = w.given
  given_after (StoreLlsn n m) = w.given
  given_after (StoreDurable n v) = w.given

  -- a fact that neither a lock's step nor a frame's taking changes
  by_lock : {A : Type 0} (g : PagesWorld P M → A) (n k old new : ℕ)
      → g (after_lock w n k new) ≡ g w → g (pages_after ops known w (LockWord n k old new)) ≡ g w
  by_lock g n k old new e = same_by_test ops known w g (w.lock_words k == old)
      (after_lock w n k new) e

  pub made_is : (e : PagesEvent P M) → (pages_after ops known w e).made ≡ made_after e
  made_is (LockWord n k old new) = by_lock (λ v. v.made) n k old new refl
  made_is (UnlockWord n k) = refl
  made_is (TakeFrame n k) = same_by_test ops known w (λ v. v.made) (w.turn_words k == 0)
      (after_turn ops w n k known (standing (get_elem? w.homes k)))
      (same_by_turn ops known w (λ v. v.made) n k (standing (get_elem? w.homes k)) refl (λ _. refl))
  made_is (GiveFrame n k y) = refl
  made_is (StoreLlsn n m) = refl
  made_is (StoreDurable n v) = refl

  pub durables_is : (e : PagesEvent P M) → (pages_after ops known w e).durables ≡ durables_after e
  durables_is (LockWord n k old new) = by_lock (λ v. v.durables) n k old new refl
  durables_is (UnlockWord n k) = refl
  durables_is (TakeFrame n k) =
      same_by_test ops known w (λ v. v.durables) (w.turn_words k == 0)
      (after_turn ops w n k known (standing (get_elem? w.homes k)))
      (same_by_turn ops known w (λ v. v.durables) n k (standing (get_elem? w.homes k)) refl (λ _. refl))
  durables_is (GiveFrame n k y) = refl
  durables_is (StoreLlsn n m) = refl
  durables_is (StoreDurable n v) = refl

  pub history_is : (e : PagesEvent P M) → (pages_after ops known w e).history ≡ history_after e
  history_is (LockWord n k old new) = by_lock (λ v. v.history) n k old new refl
  history_is (UnlockWord n k) = refl
  history_is (TakeFrame n k) =
      same_by_test ops known w (λ v. v.history) (w.turn_words k == 0)
      (after_turn ops w n k known (standing (get_elem? w.homes k)))
      (same_by_turn ops known w (λ v. v.history) n k (standing (get_elem? w.homes k)) refl (λ _. refl))
  history_is (GiveFrame n k y) = refl
  history_is (StoreLlsn n m) = refl
  history_is (StoreDurable n v) = refl

  given_turn : (n k : ℕ) (x : Option P) → (after_turn ops w n k known x).given ≡ given_by n k x
  given_turn n k None = refl
  given_turn n k (Some y) = refl

  given_test : (n k : ℕ) (x : Option P) (b : Bool) → (if b then after_turn ops w n k known x else w).given ≡
      (if b then given_by n k x else w.given)
  given_test n k x true = given_turn n k x
  given_test n k x false = refl

  pub given_is : (e : PagesEvent P M) → (pages_after ops known w e).given ≡ given_after e
  given_is (LockWord n k old new) = by_lock (λ v. v.given) n k old new refl
  given_is (UnlockWord n k) = refl
  given_is (TakeFrame n k) = given_test n k (standing (get_elem? w.homes k)) (w.turn_words k == 0)
  given_is (GiveFrame n k y) = refl
  given_is (StoreLlsn n m) = refl
  given_is (StoreDurable n v) = refl
