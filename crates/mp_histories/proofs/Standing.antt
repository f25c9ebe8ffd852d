-- After a history of well-made mtrs over clean pages each key's row heads the chain of its versions that stand.
use Rattle.std.proofs.Common.{◌≡◌, ℕ, List, [], ◌∷◌, ◌++◌, refl, sym, ap, subst, ◌∙◌, inl, inr}
use Rattle.mp_cells.specs.declared.records.Mtr.{Mtr}
use Rattle.mp_cells.specs.Trees.{PageMap, IsClean}
use Rattle.mp_cells.specs.Writes.{undo_at}
use Rattle.mp_histories.specs.KeyOps.{live, below_top}
use Rattle.mp_histories.specs.Histories.{History, pages_after, Version, by_version, rows_of_versions, live_on}
use Rattle.mp_histories.specs.Chains.{row_over, LinksTo, IsChain, row_of_key, RunsFrom, HasChains, LeavesKey}
use Rattle.mp_histories.proofs.ChainFacts.{Within, chain_more, chain_below}
use Rattle.mp_histories.proofs.CleanRows.{clean_plain}
use Rattle.mp_histories.proofs.MtrSteps.{Advances, KeyPut, KeyBack, advance}

-- a key's row and chain after operations
record KeyChain (opening : PageMap) (made : History) (key : ℕ) : Type 0 where
  head : row_of_key (pages_after opening made) key ≡ row_over (rows_of_versions (live_on key made)) (row_of_key opening key)
  chain : IsChain (undo_at (pages_after opening made)) (rows_of_versions (live_on key made)) (row_of_key opening key)

module _ (opening : PageMap) (made : History) (mtr : Mtr) (step : Advances opening made mtr) (key : ℕ) (old : KeyChain opening made key) where
  stays : LeavesKey opening made mtr key → KeyChain opening (mtr ∷ made) key
  stays k =
      let same : live_on key (mtr ∷ made) ≡ live_on key made = ap (live by_version) k.ops in
      record {
        head = k.now ∙ old.head ∙ ap (λ (vs : List Version). row_over (rows_of_versions vs) (row_of_key opening key)) (sym same);
        chain = subst (λ (vs : List Version). IsChain (undo_at (pages_after opening (mtr ∷ made))) (rows_of_versions vs) (row_of_key opening key)) (sym same)
            (chain_more (undo_at (pages_after opening made)) (undo_at (pages_after opening (mtr ∷ made))) step.more (rows_of_versions (live_on key made)) (row_of_key opening key) old.chain);
      }

  one_more : KeyPut opening made mtr key → KeyChain opening (mtr ∷ made) key
  one_more k =
      let new : live_on key (mtr ∷ made) ≡ k.version ∷ live_on key made = ap (live by_version) k.ops in
      let rest = chain_more (undo_at (pages_after opening made)) (undo_at (pages_after opening (mtr ∷ made))) step.more (rows_of_versions (live_on key made)) (row_of_key opening key) old.chain in
      record {
        head = k.row ∙ ap (λ (vs : List Version). row_over (rows_of_versions vs) (row_of_key opening key)) (sym new);
        chain = subst (λ (vs : List Version). IsChain (undo_at (pages_after opening (mtr ∷ made))) (rows_of_versions vs) (row_of_key opening key)) (sym new)
            (subst (LinksTo (undo_at (pages_after opening (mtr ∷ made))) k.version.row) old.head k.links, rest);
      }

  put_back : KeyBack opening made mtr key → KeyChain opening (mtr ∷ made) key
  put_back k =
      let new : live_on key (mtr ∷ made) ≡ below_top by_version (live_on key made) = ap (live by_version) k.ops in
      let all = chain_more (undo_at (pages_after opening made)) (undo_at (pages_after opening (mtr ∷ made))) step.more (rows_of_versions (live_on key made)) (row_of_key opening key) old.chain in
      record {
        head = k.row ∙ ap (λ (vs : List Version). row_over (rows_of_versions vs) (row_of_key opening key)) (sym new);
        chain = subst (λ (vs : List Version). IsChain (undo_at (pages_after opening (mtr ∷ made))) (rows_of_versions vs) (row_of_key opening key)) (sym new)
            (chain_below (undo_at (pages_after opening (mtr ∷ made))) (live_on key made) (row_of_key opening key) all);
      }

  next_chain : KeyChain opening (mtr ∷ made) key
  next_chain = elim (step.keys key) [
    | inl k ↦ stays k
    | inr (inl k) ↦ one_more k
    | inr (inr k) ↦ put_back k
  ]

module _ (base : ℕ) (opening : PageMap) (clean : IsClean base opening) where
  pub has_chains : (made : History) → RunsFrom opening made → HasChains opening made
  has_chains [] runs = record { tree = clean.tree; head = λ key. refl; chain = λ key. (clean_plain base opening clean key).1 }
  has_chains (mtr ∷ made) runs =
      let old = has_chains made runs.1 in
      let step = advance opening made mtr old.tree runs.0 in
      let keys : (key : ℕ) → KeyChain opening (mtr ∷ made) key = λ key. next_chain opening made mtr step key (record { head = old.head key; chain = old.chain key }) in
      record { tree = step.tree; head = λ key. (keys key).head; chain = λ key. (keys key).chain }

  -- what one more mtr does
  pub step_of : (mtr : Mtr) (made : History) → RunsFrom opening (mtr ∷ made) → Advances opening made mtr
  step_of mtr made runs = advance opening made mtr (has_chains made runs.1).tree runs.0

  -- undo records stay
  pub undo_stays : (newer made : History) → RunsFrom opening (newer ++ made) → Within (undo_at (pages_after opening made)) (undo_at (pages_after opening (newer ++ made)))
  undo_stays [] made runs = λ link row there. there
  undo_stays (mtr ∷ newer) made runs = λ link row there. (step_of mtr (newer ++ made) runs).more link row (undo_stays newer made runs.1 link row there)

pub runs_before : (opening : PageMap) (newer made : History) → RunsFrom opening (newer ++ made) → RunsFrom opening made
runs_before opening [] made runs = runs
runs_before opening (mtr ∷ newer) made runs = runs_before opening newer made runs.1
