-- A lock is taken and let go: its word goes on to name exactly those that hold it.
use Rattle.std.proofs.Common.{◌≡◌, ℕ, ◌<◌, ◌≤◌, ◌⊎◌, ◌==◌, if◌then◌else◌, List, sym, ap, ◌∙◌, subst, inl, ⊎_elim, arith, bit_and, nat_lt, le-ltb, lt-ltb, le_trans}
use mathlib.Core.Logic.{dite}
use native.Mathlib.Decide.{ℕ_discrete}
use Rattle.mp_machine.specs.Lists.{updated, pushed}
use Rattle.mp_machine.proofs.Lists.{updated_here, updated_else}
use Rattle.mp_core_pages.specs.declared.page_lock.Held.{Held}
use Rattle.mp_core_pages.specs.declared.page_lock.Held.TheVariants.{No, Read, Write}
use Rattle.mp_core_pages.specs.declared.part.LockRow.{LockRow}
use Rattle.mp_core_pages.specs.LockWords.{holder, IsLockWord, TakesShared, TakesExclusive, mask_of}
use Rattle.mp_core_pages.specs.PageParts.{lock_row, held_at}
use Rattle.mp_core_pages.specs.PageEvents.{taken_as}
use Rattle.mp_core_pages.specs.PageInvariant.{PageLocks}
use Rattle.mp_core_pages.proofs.Choices.{if_true, if_false, if_equal, if_differs}
use Rattle.mp_core_pages.proofs.Rows.{newest_cases, newest_here, newest_elsewhere}
use Rattle.mp_core_pages.proofs.LockWords.{holder_reader, reader_small, holder_writer, writer_word, holder_release, released_word, only_writer, no_writer, alone_before}

-- how a lock is held after a row was written, by node and page
abbrev pub HeldNow : (ℕ → List LockRow) → ℕ → ℕ → Held → ℕ → ℕ → Held
HeldNow locks n k x j i = held_at (pushed locks n (lock_row k x) j) i

module _ (locks : ℕ → List LockRow) (n k : ℕ) (x : Held) where
  pub held_cases : (j i : ℕ) → ((j ≡ n) × (i ≡ k) × (HeldNow locks n k x j i ≡ x))
      ⊎ ((¬ ((j ≡ n) × (i ≡ k))) × (HeldNow locks n k x j i ≡ held_at (locks j) i))
  held_cases j i = newest_cases (λ (row : LockRow). row.page) (λ (row : LockRow). row.held) No locks n
      (lock_row k x) j i

  pub held_here : HeldNow locks n k x n k ≡ x
  held_here = newest_here (λ (row : LockRow). row.page) (λ (row : LockRow). row.held) No locks n (lock_row k x)

  pub held_else : (j i : ℕ) → ¬ ((j ≡ n) × (i ≡ k)) → HeldNow locks n k x j i ≡ held_at (locks j) i
  held_else j i other = newest_elsewhere (λ (row : LockRow). row.page) (λ (row : LockRow). row.held) No locks n
      (lock_row k x) j i other

-- words that name the holders show that who writes is the only one
locks_of : (primaries : ℕ) → primaries ≤ 8 → (lock_words : ℕ → ℕ) (locks : ℕ → List LockRow)
    → ((k : ℕ) → IsLockWord (lock_words k))
    → ((n k : ℕ) → 1 ≤ n → n ≤ 8 → holder (lock_words k) n ≡ held_at (locks n) k)
    → ((n k : ℕ) → ¬ (held_at (locks n) k ≡ No) → (1 ≤ n) × (n ≤ primaries)) → PageLocks primaries lock_words locks
locks_of primaries most lock_words locks words named nodes = record {
  words = words;
  named = named;
  nodes = nodes;
  alone = λ n m k writes has.
      let one = nodes n k (λ none. let both : No ≡ Write = sym none ∙ writes in cc) in
      let two = nodes m k has in
      only_writer (lock_words k) n m (words k) one.0 two.0 (le_trans two.1 most)
      (named n k one.0 (le_trans one.1 most) ∙ writes)
      (λ none. has (sym (named m k two.0 (le_trans two.1 most)) ∙ none));
}

module _ (primaries : ℕ) (most : primaries ≤ 8) (lock_words : ℕ → ℕ) (locks : ℕ → List LockRow)
    (i : PageLocks primaries lock_words locks) (n k : ℕ) (low : 1 ≤ n)
    (in_run : n ≤ primaries) where
  high : n ≤ 8
  high = le_trans in_run most

  -- a word that changes for one node as the row says
  locks_step : (word : ℕ) (x : Held) → IsLockWord word
      → ((m : ℕ) → 1 ≤ m → m ≤ 8 → holder word m ≡ (if m == n then x else holder (lock_words k) m))
      → PageLocks primaries (updated lock_words k word) (pushed locks n (lock_row k x))
  locks_step word x lock each =
      locks_of primaries most (updated lock_words k word) (pushed locks n (lock_row k x))
      (λ j.
      dite (ℕ_discrete j k)
      (λ same. subst (λ v. IsLockWord v)
      (sym (ap (updated lock_words k word) same ∙ updated_here lock_words k word)) lock)
      (λ other. subst (λ v. IsLockWord v) (sym (updated_else lock_words k word j other)) (i.words j)))
      (λ m j from to.
      dite (ℕ_discrete j k)
      (λ same.
      ap (λ v. holder v m) (ap (updated lock_words k word) same ∙ updated_here lock_words k word)
      ∙ each m from to
      ∙ dite (ℕ_discrete m n)
      (λ own. if_equal m n x (holder (lock_words k) m) own
      ∙ sym ((λ t. HeldNow locks n k x (own t) (same t)) ∙ held_here locks n k x))
      (λ differs.
      if_differs m n x (holder (lock_words k) m) differs ∙ i.named m k from to ∙ ap (held_at (locks m)) (sym same)
      ∙ sym (held_else locks n k x m j (λ e. differs e.0))))
      (λ other.
      ap (λ v. holder v m) (updated_else lock_words k word j other) ∙ i.named m j from to
      ∙ sym (held_else locks n k x m j (λ e. other e.1))))
      (λ m j has.
      ⊎_elim
      (λ (here : (m ≡ n) × (j ≡ k) × (HeldNow locks n k x m j ≡ x)). subst (λ l. (1 ≤ l) × (l ≤ primaries)) (sym here.0)
      (low, in_run))
      (λ (old : (¬ ((m ≡ n) × (j ≡ k))) × (HeldNow locks n k x m j ≡ held_at (locks m) j)).
      i.nodes m j (λ none. has (old.1 ∙ none)))
      (held_cases locks n k x m j))

  -- where nobody writes, this node does not write either
  pub no_writer_before : lock_words k < 256 → ¬ (held_at (locks n) k ≡ Write)
  no_writer_before small is = no_writer (lock_words k) n small low (i.named n k low high ∙ is)

  module _ (new : ℕ) (takes : TakesShared n (lock_words k) new ⊎ TakesExclusive n (lock_words k) new) where
    pub small_before : lock_words k < 256
    small_before = ⊎_elim (λ (s : TakesShared n (lock_words k) new). s.0.0)
        (λ (x : TakesExclusive n (lock_words k) new). (alone_before (lock_words k) n low high x.0).0) takes

    read_word : TakesShared n (lock_words k) new → (new < 256) × (taken_as new ≡ Read)
    read_word s = let small : new < 256 = subst (λ v. v < 256) (sym s.1)
        (reader_small (lock_words k) n low high s.0) in
        (small, if_true (nat_lt new 256) Read Write (lt-ltb new 256 small))

    write_word : TakesExclusive n (lock_words k) new → taken_as new ≡ Write
    write_word x = let large : 256 ≤ new = let is = x.1 in omega arith in if_false (nat_lt new 256) Read Write
        (le-ltb new 256 large)

    pub taken_is_held : ¬ (taken_as new ≡ No)
    taken_is_held none =
        ⊎_elim
        (λ (s : TakesShared n (lock_words k) new). let both : Read ≡ No = sym (read_word s).1 ∙ none in cc)
        (λ (x : TakesExclusive n (lock_words k) new). let both : Write ≡ No = sym (write_word x) ∙ none in cc)
        takes

    pub locks_lock : PageLocks primaries (updated lock_words k new) (pushed locks n (lock_row k (taken_as new)))
    locks_lock =
        ⊎_elim
        (λ (s : TakesShared n (lock_words k) new).
        locks_step new (taken_as new) (inl (read_word s).0)
        (λ m from to. ap (λ v. holder v m) s.1 ∙ holder_reader (lock_words k) n low high s.0 m from to
        ∙ ap (λ y. if m == n then y else holder (lock_words k) m) (sym (read_word s).1)))
        (λ (x : TakesExclusive n (lock_words k) new).
        let before = alone_before (lock_words k) n low high x.0 in
        locks_step new (taken_as new) (subst (λ v. IsLockWord v) (sym x.1) (writer_word n low high))
        (λ m from to.
        ap (λ v. holder v m) x.1
        ∙ holder_writer n m low from to
        ∙ dite (ℕ_discrete m n)
        (λ own. if_equal m n Write No own ∙ sym (write_word x)
        ∙ sym (if_equal m n (taken_as new) (holder (lock_words k) m) own))
        (λ differs. if_differs m n Write No differs ∙ sym (before.1 m from differs)
        ∙ sym (if_differs m n (taken_as new) (holder (lock_words k) m) differs))))
        takes

  pub locks_unlock : ¬ (held_at (locks n) k ≡ No)
      → PageLocks primaries (updated lock_words k (bit_and (lock_words k) (mask_of n))) (pushed locks n (lock_row k No))
  locks_unlock has =
      let named : ¬ (holder (lock_words k) n ≡ No) = λ none. has (sym (i.named n k low high) ∙ none) in
      locks_step (bit_and (lock_words k) (mask_of n)) No (released_word (lock_words k) n low high named (i.words k))
      (λ m from to. holder_release (lock_words k) n low high named (i.words k) m from to)
