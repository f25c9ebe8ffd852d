-- One small mtr and its bytes.
use Rattle.std.specs.Prelude.{ℕ, List, [], ◌∷◌}
use Rattle.mp_cells.specs.declared.records.Record.TheVariants.{Commit}
use Rattle.mp_cells.specs.declared.records.Mtr.{Mtr}

-- the mtr of primary 1 with LLSN 2, in which transaction 1.0.1 commits with timestamp 1
abbrev pub small_mtr : Mtr
small_mtr = record { node = 1; llsn = 2; records = Commit (record { node = 1; slot = 0; version = 1 }) 1 ∷ [] }

-- its head: node 1, one record, LLSN 2
abbrev pub small_head : List ℕ
small_head = 1 ∷ 1 ∷ 2 ∷ 0 ∷ 0 ∷ 0 ∷ 0 ∷ 0 ∷ 0 ∷ 0 ∷ []

-- its record: a commit of 1.0.1, at 1
abbrev pub small_record : List ℕ
small_record = 10 ∷ 1 ∷ 0 ∷ 0 ∷ 0 ∷ 1 ∷ 0 ∷ 0 ∷ 0 ∷ 1 ∷ 0 ∷ 0 ∷ 0 ∷ 0 ∷ 0 ∷ 0 ∷ 0 ∷ []
