-- Pages whose chains stand for commits, and mtrs that can be redone over stored pages.
use Rattle.std.specs.Prelude.{◌≡◌, ℕ, ◌<◌, List}
use Rattle.std.specs.List.{AllByRecursion}
use Rattle.mp_cells.specs.declared.records.Mtr.{Mtr}
use Rattle.mp_cells.specs.declared.rows.Row.{Row}
use Rattle.mp_cells.specs.Trees.{PageMap, top, IsTree, height_of}
use Rattle.mp_cells.specs.Writes.{undo_at}
use Rattle.mp_histories.specs.Commits.{HasStamp, StandsFor}
use Rattle.mp_histories.specs.Chains.{row_over, IsChain, row_of_key}
use Rattle.mp_recover.specs.PageRecords.{InOrder, pages_redone}
use Rattle.mp_recover.specs.KeptCommits.{KeptCommit, CommitsOnce, kept_commits, stamps_of, wrote_to}

-- the chain of a key, from its row down to a last version, is of that key alone and stands for the commits
pub record ChainStands (commits : List KeptCommit) (pages : PageMap) (key : ℕ) (last : Row) : Type 0 where
  pub versions : List Row
  pub head : row_of_key pages key ≡ row_over versions last
  pub chain : IsChain (undo_at pages) versions last
  pub keys : AllByRecursion (λ v. v.key ≡ key) versions
  pub stands : StandsFor (λ (v : Row). v.writer) (HasStamp (stamps_of commits)) (wrote_to key commits) last versions

-- so does the chain of each key
abbrev pub ChainsStand : List KeptCommit → PageMap → (ℕ → Row) → Type 0
ChainsStand commits pages last = (key : ℕ) → key < top → ChainStands commits pages key (last key)

-- mtrs above a base can be redone over stored pages, and leave a tree whose chains stand for the commits among them, of
-- which no transaction has two
pub record IsRecoverable (base : ℕ) (last : ℕ → Row) (stored : PageMap) (mtrs : List Mtr) : Type 0 where
  pub in_order : InOrder base stored mtrs
  pub once : CommitsOnce (kept_commits mtrs)
  pub tree : IsTree (pages_redone stored mtrs) (height_of (pages_redone stored mtrs))
  pub chains : ChainsStand (kept_commits mtrs) (pages_redone stored mtrs) last
