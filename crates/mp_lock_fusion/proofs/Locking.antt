-- How the lock of a page is had, and what is seen where it is not.
use Rattle.std.proofs.Common.{◌≡◌, ℕ, zero, suc, ◌+◌, ◌-◌, ◌*◌, ◌/◌, ◌^◌, ◌<◌, ◌≤◌, ◌⊎◌, nat_lt, Some, refl, sym, ap, ◌∙◌, subst, inl, inr, ⊎_elim, arith, lt-ltb, le-ltb}
use mathlib.Core.Logic.{dite}
use native.Mathlib.Decide.{ℕ_discrete}
use Rattle.std.proofs.lemmas.Nat.Bits.{bit_at-zero}
use Rattle.mp_machine.specs.View.{part_in}
use Rattle.mp_core_trx.specs.Events.{IsNode}
use Rattle.mp_core_pages.specs.declared.opening.TheConstants.{PAGES}
use Rattle.mp_core_pages.specs.declared.page_lock.Held.{Held}
use Rattle.mp_core_pages.specs.declared.page_lock.Held.TheVariants.{No, Read, Write}
use Rattle.mp_core_pages.specs.declared.event.PagesEvent.TheVariants.{LockWord}
use Rattle.mp_core_pages.specs.LockWords.{holder, IsLockWord, LacksReader, TakesShared, TakesExclusive}
use Rattle.mp_core_pages.specs.PageEvents.{taken_as, with_lock}
use Rattle.mp_core_pages.specs.PageParts.{held_at}
use Rattle.mp_core_pages.proofs.Choices.{if_true, if_false, if_equal}
use Rattle.mp_core_pages.proofs.LockWords.{reader_small, holder_reader, free_word, but_none}
use Rattle.mp_core.specs.declared.part.CorePart.{CorePart}
use Rattle.mp_core.specs.declared.event.CoreEvent.TheVariants.{Pages}
use Rattle.mp_shared.specs.Nodes.{NodeView, HoldsPart, MayTake, Reached, Took}
use Rattle.mp_shared.specs.PageSteps.{held_by_part, held_in, with_pages, with_ops}
use Rattle.mp_shared.proofs.Numbered.{numbered}
use Rattle.mp_shared.proofs.Holding.{held_part}
use Rattle.mp_shared.proofs.LockSeen.{seen_lock, seen_own}
use Rattle.mp_shared.proofs.PageCalls.{part_after, with_pages_twice}
use Rattle.mp_lock_fusion.specs.LockCalls.{LockWordWas, AnotherWrites, AnotherHolds, CameToRead, CameToWrite, CouldNotRead, CouldNotWrite}

-- not all others hold nothing, so one holds something
module _ (f : ℕ → Held) (p : ℕ) where
  abbrev NoOther : ℕ → Type 0
  NoOther n = (m : ℕ) → 1 ≤ m → m ≤ n → ¬ (m ≡ p) → f m ≡ No

  abbrev OtherTo : ℕ → Type 0
  OtherTo n = (m : ℕ) × (1 ≤ m) × (m ≤ n) × (¬ (m ≡ p)) × ¬ (f m ≡ No)

  one_more : (n : ℕ) → NoOther n → (¬ (suc n ≡ p) → f (suc n) ≡ No) → NoOther (suc n)
  one_more n none last m low high other =
      dite (ℕ_discrete m (suc n))
      (λ is. ap f is ∙ last (λ same. other (is ∙ same)))
      (λ below. none m low (omega arith) other)

  raised : (n : ℕ) → OtherTo n → OtherTo (suc n)
  raised n found = (found.0, found.1, (let high = found.2 in omega arith), found.3, found.4)

  by_last : (n : ℕ) (h : Held) → f (suc n) ≡ h → ((¬ (suc n ≡ p) → f (suc n) ≡ No) → OtherTo (suc n)) → OtherTo (suc n)
  by_last n No is go_on = go_on (λ other. is)
  by_last n Read is go_on = dite (ℕ_discrete (suc n) p) (λ same. go_on (λ other. absurd (other same))) (λ other. (suc n, omega arith, omega arith, other, λ none. let both : Read ≡ No = sym is ∙ none in cc))
  by_last n Write is go_on = dite (ℕ_discrete (suc n) p) (λ same. go_on (λ other. absurd (other same))) (λ other. (suc n, omega arith, omega arith, other, λ none. let both : Write ≡ No = sym is ∙ none in cc))

  some_other : (n : ℕ) → ¬ NoOther n → OtherTo n
  some_other zero some = absurd (some (λ m low high other. absurd (omega arith)))
  some_other (suc n) some = by_last n (f (suc n)) refl (λ last. raised n (some_other n (λ none. some (one_more n none last))))

-- a word of readers, and a writer's word
taken_read : (new : ℕ) → new < 256 → taken_as new ≡ Read
taken_read new small = if_true (nat_lt new 256) Read Write (lt-ltb new 256 small)

taken_write : (new : ℕ) → 256 ≤ new → taken_as new ≡ Write
taken_write new large = if_false (nat_lt new 256) Read Write (le-ltb new 256 large)

-- the word of a node that reads alone
own_reads : (p : ℕ) → 1 ≤ p → p ≤ 8 → holder (2 ^ (p - 1)) p ≡ Read
own_reads p low high =
    let none : LacksReader 0 p = (omega arith, bit_at-zero (p - 1)) in
    let word : 2 ^ (p - 1) ≡ 0 + 2 ^ (p - 1) = omega arith in
    ap (λ x. holder x p) word ∙ holder_reader 0 p low high none p low high ∙ if_equal p p Read (holder 0 p) refl

pub own_bit : (p word : ℕ) → word ≡ 0 + 2 ^ (p - 1) → word ≡ 2 ^ (p - 1)
own_bit p word is = omega (arith, is)

-- the word that a primary expects as it comes to write: nobody's, or its own as a reader
abbrev pub ExpectsOwn : ℕ → Held → ℕ → Type 0
ExpectsOwn p held old = ((held ≡ No) × (old ≡ 0)) ⊎ ((held ≡ Read) × (old ≡ 2 ^ (p - 1)))

module _ (before : NodeView) (p k : ℕ) (in_range : k < PAGES) (reached : Reached before) (part : HoldsPart before p) where
  mine : (q : CorePart) × (part_in before.parts p ≡ Some q) × IsNode q.trx.opening p
  mine = held_part before p part

  pub a_node : (1 ≤ p) × (p ≤ 8)
  a_node = let m = mine in (m.2.0, numbered before reached p m.0 m.1 m.2)

  held_is : held_in before p k ≡ held_at mine.0.pages.locks k
  held_is = ap (λ o. held_by_part o k) mine.1

  pub may_lock : (old new : ℕ) → TakesShared p old new ⊎ TakesExclusive p old new → MayTake (Pages (LockWord p k old new)) before
  may_lock old new takes = let m = mine in (m.0, m.1, (m.2, (in_range, takes), tt))

  -- what the first step saw
  module _ (old new found : ℕ) (after : NodeView) (took : Took (Pages (LockWord p k old new)) before found after) where
    pub word_was : LockWordWas before k found
    word_was = (took.came.events, took.came.allowed.1, took.came.agreed, took.came.found_is)

    pub is_lock : IsLockWord found
    is_lock = seen_lock p k old new found before after took

    pub own_is : holder found p ≡ held_in before p k
    own_is = let node = a_node in seen_own p k old new found before after took mine.0 mine.1 node.0 node.1 ∙ sym held_is

  -- to read, at the first try
  pub came_first : (new : ℕ) → TakesShared p 0 new → held_in before p k ≡ No → (after : NodeView) → after ≡ with_pages before p (with_lock k (taken_as new)) 1 → CameToRead p k before after
  came_first new takes none after is =
      let node = a_node in
      let small : new < 256 = subst (λ x. x < 256) (sym takes.1) (reader_small 0 p node.0 node.1 takes.0) in
      inr record { held = none; tries = 1; some = omega arith; most = omega arith; becomes = is ∙ ap (λ h. with_pages before p (with_lock k h) 1) (taken_read new small) }

  pub saw_writer : (new found seen : ℕ) (after : NodeView) → Took (Pages (LockWord p k 0 new)) before found after → seen ≡ found → held_in before p k ≡ No → AnotherWrites p found → after ≡ with_ops before p 1 → CouldNotRead p k before seen after
  saw_writer new found seen after took same none writer is =
      (none, inl record { was = subst (LockWordWas before k) (sym same) (word_was 0 new found after took); writer = subst (AnotherWrites p) (sym same) writer; becomes = is })

  -- the second try
  module _ (mid : NodeView) (mid_is : mid ≡ with_ops before p 1) where
    pub may_lock_then : (old new : ℕ) → TakesShared p old new → MayTake (Pages (LockWord p k old new)) mid
    may_lock_then old new takes =
        let m = mine in
        (record (m.0) { ops = m.0.ops + 1 }, ap (λ (n : NodeView). part_in n.parts p) mid_is ∙ part_after before p m.0 m.1 (λ x. x) 1, (m.2, (in_range, inl takes), tt))

    pub came_then : (old new : ℕ) → TakesShared p old new → held_in before p k ≡ No → (after : NodeView) → after ≡ with_pages mid p (with_lock k (taken_as new)) 1 → CameToRead p k before after
    came_then old new takes none after is =
        let node = a_node in
        let m = mine in
        let small : new < 256 = subst (λ x. x < 256) (sym takes.1) (reader_small old p node.0 node.1 takes.0) in
        inr record {
          held = none;
          tries = 2;
          some = omega arith;
          most = omega arith;
          becomes =
              is ∙ (λ i. with_pages (mid_is i) p (with_lock k (taken_read new small i)) 1)
              ∙ with_pages_twice before p m.0 m.1 (λ x. x) 1 (with_lock k Read) 1;
        }

    pub saw_change : (first_new new first found seen : ℕ) (after : NodeView) → Took (Pages (LockWord p k 0 first_new)) before first mid → Took (Pages (LockWord p k first new)) mid found after → seen ≡ found → ¬ (found ≡ first)
        → held_in before p k ≡ No → after ≡ with_ops mid p 1 → CouldNotRead p k before seen after
    saw_change first_new new first found seen after once twice same differs none is =
        let m = mine in
        let later : LockWordWas mid k seen = subst (LockWordWas mid k) (sym same) (twice.came.events, twice.came.allowed.1, twice.came.agreed, twice.came.found_is) in (
          none,
          inr record {
            first = first;
            was = word_was 0 first_new first mid once;
            later = subst (λ n. LockWordWas n k seen) mid_is later;
            differs = λ e. differs (sym same ∙ e);
            becomes = is ∙ ap (λ n. with_ops n p 1) mid_is ∙ with_pages_twice before p m.0 m.1 (λ x. x) 1 (λ x. x) 1;
          },
        )

  -- to write
  module _ (old : ℕ) (own : ExpectsOwn p (held_in before p k) old) where
    not_written : ¬ (held_in before p k ≡ Write)
    not_written writes =
        ⊎_elim
        (λ (x : (held_in before p k ≡ No) × (old ≡ 0)). no_write (sym x.0 ∙ writes))
        (λ (x : (held_in before p k ≡ Read) × (old ≡ 2 ^ (p - 1))). read_write (sym x.0 ∙ writes))
        own
      where
        no_write : No ≡ Write → ⊥
        no_write e = cc

        read_write : Read ≡ Write → ⊥
        read_write e = cc

    pub takes_alone : TakesExclusive p old (256 * p)
    takes_alone =
        (⊎_elim (λ (x : (held_in before p k ≡ No) × (old ≡ 0)). inl x.1) (λ (x : (held_in before p k ≡ Read) × (old ≡ 2 ^ (p - 1))). inr x.1) own, refl)

    pub came_to_write : (new : ℕ) → new ≡ 256 * p → (after : NodeView) → after ≡ with_pages before p (with_lock k (taken_as new)) 1 → CameToWrite p k before after
    came_to_write new is after becomes =
        let node = a_node in
        let large : 256 ≤ new = let low = node.0 in omega arith in
        inr (not_written, becomes ∙ ap (λ h. with_pages before p (with_lock k h) 1) (taken_write new large))

    -- a word that was not the one expected shows another holder
    module _ (found : ℕ) (lock : IsLockWord found) (named : holder found p ≡ held_in before p k) (differs : ¬ (found ≡ old)) where
      not_free : ¬ (found ≡ 0)
      not_free free =
          ⊎_elim
          (λ (x : (held_in before p k ≡ No) × (old ≡ 0)). differs (free ∙ sym x.1))
          (λ (x : (held_in before p k ≡ Read) × (old ≡ 2 ^ (p - 1))). let node = a_node in no_read (sym (ap (λ w. holder w p) free ∙ free_word p node.0) ∙ named ∙ x.0))
          own
        where
          no_read : No ≡ Read → ⊥
          no_read e = cc

      not_alone : ¬ (found ≡ 2 ^ (p - 1))
      not_alone alone =
          ⊎_elim
          (λ (x : (held_in before p k ≡ No) × (old ≡ 0)). let node = a_node in read_no (sym (ap (λ w. holder w p) alone ∙ own_reads p node.0 node.1) ∙ named ∙ x.0))
          (λ (x : (held_in before p k ≡ Read) × (old ≡ 2 ^ (p - 1))). differs (alone ∙ sym x.1))
          own
        where
          read_no : Read ≡ No → ⊥
          read_no e = cc

      not_own : ¬ (found / 256 ≡ p)
      not_own number = not_written (sym named ∙ if_equal (found / 256) p Write _ number)

      pub another : AnotherHolds p found
      another =
          let node = a_node in
          some_other (holder found) p 8
          (λ all. ⊎_elim (λ words. ⊎_elim not_free not_alone words) not_own (but_none found p lock node.0 node.1 all))

    pub could_not_write : (new found seen : ℕ) (after : NodeView) → Took (Pages (LockWord p k old new)) before found after → seen ≡ found → ¬ (found ≡ old) → after ≡ with_ops before p 1 → CouldNotWrite p k before seen after
    could_not_write new found seen after took same differs is = record {
      held = not_written;
      was = subst (LockWordWas before k) (sym same) (word_was old new found after took);
      holder = subst (AnotherHolds p) (sym same) (another found (is_lock old new found after took) (own_is old new found after took) differs);
      becomes = is;
    }
