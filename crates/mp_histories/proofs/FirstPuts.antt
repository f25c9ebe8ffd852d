-- What a restore puts back is the row that the first of the writer's puts replaced.
use Rattle.std.proofs.Common.{◌≡◌, ℕ, List, [], ◌∷◌, ◌++◌, map, Option, refl, sym, ap, subst, ◌∙◌}
use Rattle.mp_model.specs.declared.ids.TrxId.{TrxId}
use Rattle.mp_cells.specs.declared.records.Mtr.{Mtr}
use Rattle.mp_cells.specs.declared.rows.Row.{Row}
use Rattle.mp_cells.specs.Trees.{PageMap, IsClean}
use Rattle.mp_cells.specs.Plans.{plan_of}
use Rattle.mp_cells.specs.Writes.{undo_at, rows_put}
use Rattle.mp_histories.specs.KeyOps.{KeyOp, put, oldest_of, below_top, live, IsOwnRun}
use Rattle.mp_histories.specs.Histories.{History, pages_after, Version, by_version, rows_of_versions, ops_on, live_on}
use Rattle.mp_histories.specs.Chains.{UndoMap, row_over, LinksTo, IsChain, row_of_key, RunsFrom}
use Rattle.mp_histories.proofs.ChainFacts.{links_one}
use Rattle.mp_histories.proofs.KeySteps.{link_stays}
use Rattle.mp_histories.proofs.Standing.{has_chains}

live_run : (vs : List Version) (earlier : List (KeyOp Version)) → live by_version (map put vs ++ earlier) ≡ vs ++ live by_version earlier
live_run [] earlier = refl
live_run (v ∷ vs) earlier = ap (λ (xs : List Version). v ∷ xs) (live_run vs earlier)

-- the oldest of some leading versions links what lies below them
oldest_links : (undo : UndoMap) (v : Version) (older rest : List Version) (last : Row) → IsChain undo (rows_of_versions (v ∷ older ++ rest)) last → LinksTo undo (oldest_of v older).row (row_over (rows_of_versions rest) last)
oldest_links undo v [] rest last h = h.0
oldest_links undo v (u ∷ older) rest last h = oldest_links undo u older rest last h.1

module _ (base : ℕ) (opening : PageMap) (clean : IsClean base opening) where
  run_links : (made : History) (key : ℕ) (writer : Option TrxId) (v : Version) → RunsFrom opening made → (run : IsOwnRun by_version writer (ops_on key made) v) → LinksTo (undo_at (pages_after opening made)) (oldest_of v run.older).row (row_over (rows_of_versions (below_top by_version (live_on key made))) (row_of_key opening key))
  run_links made key writer v runs run =
      let last : Row = row_of_key opening key in
      let undo = undo_at (pages_after opening made) in
      let there : live_on key made ≡ v ∷ run.older ++ live by_version run.earlier = ap (live by_version) run.split_is ∙ live_run (v ∷ run.older) run.earlier in
      let chain : IsChain undo (rows_of_versions (v ∷ run.older ++ live by_version run.earlier)) last = subst (λ (vs : List Version). IsChain undo (rows_of_versions vs) last) there ((has_chains base opening clean made runs).chain key) in
      subst (λ (vs : List Version). LinksTo undo (oldest_of v run.older).row (row_over (rows_of_versions vs) last)) (sym run.lower) (oldest_links undo v run.older (live by_version run.earlier) last chain)

  pub first_former : (newer made : History) (mtr : Mtr) (row : Row) (writer : Option TrxId) (v : Version) → RunsFrom opening (newer ++ mtr ∷ made) → rows_put (plan_of mtr.records) ≡ row ∷ [] → (run : IsOwnRun by_version writer (ops_on row.key (newer ++ mtr ∷ made)) v) → (oldest_of v run.older).row ≡ row
      → row_of_key (pages_after opening made) row.key ≡ row_over (rows_of_versions (below_top by_version (live_on row.key (newer ++ mtr ∷ made)))) (row_of_key opening row.key)
  first_former newer made mtr row writer v runs puts run first =
      let all : History = newer ++ mtr ∷ made in
      let former : Row = row_over (rows_of_versions (below_top by_version (live_on row.key all))) (row_of_key opening row.key) in
      links_one (undo_at (pages_after opening all)) row (row_of_key (pages_after opening made) row.key) former
      (link_stays base opening clean newer made mtr row runs puts)
      (subst (λ (r : Row). LinksTo (undo_at (pages_after opening all)) r former) first (run_links all row.key writer v runs run))
