-- Small cases: the mtrs of a put and of its commit, the image of a fresh store with logs that hold none, and the put rolled back.
use Rattle.std.specs.Prelude.{ℕ, zero, suc, List, [], ◌∷◌, replicate}
use Rattle.mp_cells.specs.declared.records.Record.TheVariants as records
use Rattle.mp_cells.specs.declared.records.Mtr.{Mtr}
use Rattle.mp_cells.specs.PageView.{blank_page, meta_page, leaf_page}
use Rattle.mp_cells.specs.Trees.{PageMap, top}
use Rattle.mp_cells.specs.SmallMaps.{low_bits, gone_row}
use Rattle.mp_files.specs.Nine.{Image}
use Rattle.mp_histories.specs.SmallHistory.{small_trx}

-- node 1 commits its small transaction at timestamp 9
abbrev pub small_commit : Mtr
small_commit = record { node = 1; llsn = 6; records = records.Commit (small_trx 0) 9 ∷ [] }

-- the same record in the log of node 2
abbrev pub stray_commit : Mtr
stray_commit = record { node = 2; llsn = 6; records = records.Commit (small_trx 0) 9 ∷ [] }

-- a store, a first log, and seven logs without mtrs
abbrev pub small_image : List ℕ → List ℕ → Image
small_image store first = record { store = store; logs = first ∷ replicate 7 (0 ∷ []) }

-- the pages after the small put, rolled back: the gone row is back, the undo page is blank, and its bit is clear
abbrev pub rolled_back : PageMap
rolled_back zero = meta_page 5 (low_bits 3)
rolled_back (suc zero) = leaf_page 5 0 top (gone_row 7 ∷ [])
rolled_back (suc (suc zero)) = blank_page 5
rolled_back (suc (suc (suc n))) = blank_page 0
