-- The words of a table before any step, as they are written one after another.
use Rattle.std.proofs.Common.{◌≡◌, ℕ, zero, suc, ◌+◌, ◌<◌, ◌≤◌, ◌⊎◌, List, length, replicate, slice_set, refl, sym, ap, ◌∙◌, subst, arith}
use Rattle.std.proofs.lemmas.Grind.{common_steps}
use Rattle.std.proofs.lemmas.List.{length-set}
use mathlib.Core.Option.{some}
use mathlib.Core.Logic.{dite}
use native.Mathlib.Decide.{ℕ_discrete}
use lib.ListN.{get_elem?}
use Rattle.atomic_table.proofs.Lists.{set_here, set_else}
use Rattle.mp_core_trx.specs.declared.opening.Base.{Base}
use Rattle.mp_core.specs.declared.words.TheConstants.{LLSN_WORDS, DOWN_WORDS}
use Rattle.mp_shared.specs.FirstWords.{word_up_to, first_word}

module _ (base : Base) where
  none_yet : (k : ℕ) → 0 < k → word_up_to LLSN_WORDS base k ≡ 0
  none_yet k above = grind (arith, common_steps)

  one_more : (end k : ℕ) → ¬ (k ≡ end) → word_up_to (end + 1) base k ≡ word_up_to end base k
  one_more end k other = grind (arith, common_steps)

  next_word : (end : ℕ) → LLSN_WORDS ≤ end → word_up_to (end + 1) base end ≡ base.llsn
  next_word end from = grind (arith, common_steps)

  pub zero_word : (k : ℕ) → 0 < k → (k < LLSN_WORDS) ⊎ (DOWN_WORDS ≤ k) → first_word base k ≡ 0
  zero_word k above apart = grind (arith, common_steps)

  pub llsn_word_is : (k : ℕ) → LLSN_WORDS ≤ k → k < DOWN_WORDS → first_word base k ≡ base.llsn
  llsn_word_is k from to = grind (arith, common_steps)

  at_zeros : (count k : ℕ) → k < count → get_elem? (replicate {A = ℕ} count 0) k ≡ some 0
  at_zeros zero k h = absurd (omega arith)
  at_zeros (suc count) zero h = refl
  at_zeros (suc count) (suc k) h = at_zeros count k (omega arith)

  length_zeros : (count : ℕ) → length (replicate {A = ℕ} count 0) ≡ count
  length_zeros zero = refl
  length_zeros (suc count) = ap suc (length_zeros count)

  -- the words are those up to this one
  abbrev pub WordsUpTo : ℕ → ℕ → List ℕ → Type 0
  WordsUpTo end count words = (length words ≡ count) × ((k : ℕ) → k < count → get_elem? words k ≡ some (word_up_to end base k))

  zeros_and_tso : (count : ℕ) → 0 < count → (k : ℕ) → k < count → get_elem? (slice_set (replicate count 0) 0 base.ts) k ≡ some (word_up_to LLSN_WORDS base k)
  zeros_and_tso zero some_words k h = absurd (omega arith)
  zeros_and_tso (suc count) some_words zero h = refl
  zeros_and_tso (suc count) some_words (suc k) h = at_zeros count k (omega arith) ∙ ap some (sym (none_yet (suc k) (omega arith)))

  pub words_begin : (count : ℕ) (words : List ℕ) → 0 < count → words ≡ replicate count 0 → WordsUpTo LLSN_WORDS count (slice_set words 0 base.ts)
  words_begin count words some_words is = (
    length-set words 0 base.ts ∙ ap length is ∙ length_zeros count,
    λ k within. ap (λ (ws : List ℕ). get_elem? (slice_set ws 0 base.ts) k) is ∙ zeros_and_tso count some_words k within,
  )

  pub words_next : (count i : ℕ) (words : List ℕ) → LLSN_WORDS ≤ i → i < count → WordsUpTo i count words → WordsUpTo (i + 1) count (slice_set words i base.llsn)
  words_next count i words from to so_far = (
    length-set words i base.llsn ∙ so_far.0,
    λ k within.
        dite (ℕ_discrete k i)
        (λ same. subst (λ j. get_elem? (slice_set words i base.llsn) j ≡ some (word_up_to (i + 1) base j)) (sym same) (set_here words i base.llsn (omega (arith, to, so_far.0)) ∙ ap some (sym (next_word i from))))
        (λ other. set_else words i k base.llsn other ∙ so_far.1 k within ∙ ap some (sym (one_more i k other))),
  )
