-- What was noted after the first mtrs of a history is right under the undo records of the whole, and stays right.
use Rattle.std.proofs.Common.{◌≡◌, ℕ, ◌<◌, ◌≤◌, nat_lt, Bool, true, false, cond, [], ◌∷◌, ◌++◌, length, refl, sym, ap, subst, ◌∙◌, inl, inr, arith, zero, suc, ◌-◌, drop}
use Rattle.std.proofs.lemmas.Bool.{cases_lt}
use Rattle.std.proofs.lemmas.Bool.Decides.{nat_tests}
use Rattle.std.proofs.lemmas.List.{length-append}
use Rattle.mp_cells.specs.declared.records.Mtr.{Mtr}
use Rattle.mp_cells.specs.declared.rows.Row.{Row}
use Rattle.mp_cells.specs.Trees.{PageMap, IsClean}
use Rattle.mp_cells.specs.Writes.{undo_at}
use Rattle.mp_histories.specs.Histories.{History, pages_after, older, rows_of_versions, live_on}
use Rattle.mp_histories.specs.Chains.{IsChain, row_of_key, RunsFrom, StaysNoted}
use Rattle.mp_histories.proofs.ChainFacts.{chain_more}
use Rattle.mp_histories.proofs.Standing.{has_chains, undo_stays, runs_before}

older-here : (h : ℕ) (mtr : Mtr) (made : History) → length made < h → older h (mtr ∷ made) ≡ mtr ∷ made
older-here h mtr made lt = let test : nat_lt (length made) h ≡ true = grind (arith, nat_tests) in ap (λ (b : Bool). cond b (mtr ∷ made) (older h made)) test

older-past : (h : ℕ) (mtr : Mtr) (made : History) → h ≤ length made → older h (mtr ∷ made) ≡ older h made
older-past h mtr made le = let test : nat_lt (length made) h ≡ false = grind (arith, nat_tests) in ap (λ (b : Bool). cond b (mtr ∷ made) (older h made)) test

-- the first mtrs of a history, and the others
pub record IsOlder (h : ℕ) (made : History) : Type 0 where
  pub newer : History
  pub split_is : made ≡ newer ++ older h made

pub older_first : (h : ℕ) (made : History) → IsOlder h made
older_first h [] = record { newer = []; split_is = refl }
older_first h (mtr ∷ made) = elim (cases_lt (length made) h) [
  | inl lt ↦ record { newer = []; split_is = sym (older-here h mtr made lt) }
  | inr le ↦
      let rest = older_first h made in
      record { newer = mtr ∷ rest.newer; split_is = ap (λ (ms : History). mtr ∷ ms) (rest.split_is ∙ ap (λ (ms : History). rest.newer ++ ms) (sym (older-past h mtr made le))) }
]

pub length_older : (h : ℕ) (made : History) → h ≤ length made → length (older h made) ≡ h
length_older h [] le = omega (arith, le)
length_older h (mtr ∷ made) le = elim (cases_lt (length made) h) [
  | inl lt ↦ ap (λ (ms : History). length ms) (older-here h mtr made lt) ∙ omega (arith, lt, le)
  | inr past ↦ ap (λ (ms : History). length ms) (older-past h mtr made past) ∙ length_older h made past
]

-- further mtrs leave the first ones
pub older_stays : (h : ℕ) (newer made : History) → h ≤ length made → older h (newer ++ made) ≡ older h made
older_stays h [] made le = refl
older_stays h (mtr ∷ newer) made le = older-past h mtr (newer ++ made) (omega (arith, le, length-append newer made)) ∙ older_stays h newer made le

-- they are what is left without the newer ones
pub older_dropped : (h : ℕ) (made : History) → older h made ≡ drop (length made - h) made
older_dropped h [] = sym (drop_of_nothing (length {A = Mtr} [] - h))
  where
    drop_of_nothing : (n : ℕ) → drop {A = Mtr} n [] ≡ []
    drop_of_nothing zero = refl
    drop_of_nothing (suc n) = refl
older_dropped h (mtr ∷ made) = elim (cases_lt (length made) h) [
  | inl lt ↦
      let none : suc (length made) - h ≡ 0 = omega arith in
      older-here h mtr made lt ∙ ap (λ (n : ℕ). drop n (mtr ∷ made)) (sym none)
  | inr le ↦
      let one : suc (length made) - h ≡ suc (length made - h) = omega arith in
      older-past h mtr made le ∙ older_dropped h made ∙ ap (λ (n : ℕ). drop n (mtr ∷ made)) (sym one)
]

module _ (base : ℕ) (opening : PageMap) (clean : IsClean base opening) where
  pub noted : (made : History) → RunsFrom opening made → (h key : ℕ) → StaysNoted opening (older h made) made key (row_of_key (pages_after opening (older h made)) key)
  noted made runs h key =
      let split = older_first h made in
      let all : RunsFrom opening (split.newer ++ older h made) = subst (RunsFrom opening) split.split_is runs in
      let old = has_chains base opening clean (older h made) (runs_before opening split.newer (older h made) all) in
      record {
        head = old.head key;
        chain = subst (λ (now : History). IsChain (undo_at (pages_after opening now)) (rows_of_versions (live_on key (older h made))) (row_of_key opening key)) (sym split.split_is) (chain_more (undo_at (pages_after opening (older h made))) (undo_at (pages_after opening (split.newer ++ older h made))) (undo_stays base opening clean split.newer (older h made) all) (rows_of_versions (live_on key (older h made))) (row_of_key opening key) (old.chain key));
      }

  pub noted_stays : (noted_at now newer : History) (key : ℕ) (row : Row) → RunsFrom opening (newer ++ now) → StaysNoted opening noted_at now key row → StaysNoted opening noted_at (newer ++ now) key row
  noted_stays noted_at now newer key row runs h = record {
    head = h.head;
    chain = chain_more (undo_at (pages_after opening now)) (undo_at (pages_after opening (newer ++ now))) (undo_stays base opening clean newer now runs) (rows_of_versions (live_on key noted_at)) (row_of_key opening key) h.chain;
  }
