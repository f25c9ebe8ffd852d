-- Small cases: what a store had reached, a log that holds one mtr, and a log that was opened on a disk without mtrs.
use Rattle.std.specs.Prelude.{ℕ, true, List, [], ◌∷◌, ◌++◌}
use Rattle.mp_log.specs.Logs.{batches_text}
use Rattle.mp_log.specs.Tails.{TailView, LogView}
use Rattle.mp_store.specs.declared.headers.Header.{Header}
use Rattle.mp_recover.specs.SmallLogs.{small_commit}

-- a header, by its generation, base timestamp, base LLSN and base version
abbrev pub reached : ℕ → ℕ → ℕ → ℕ → Header
reached generation base llsn version = record { generation = generation; base = base; llsn = llsn; version = version }

-- a log of primary 1 with one mtr, whose LLSN is 6
abbrev pub one_mtr_log : List ℕ
one_mtr_log = batches_text ((small_commit ∷ []) ∷ []) ++ 0 ∷ []

-- the end of a log of primary 1 without mtrs
abbrev pub first_tail : TailView
first_tail = record { node = 1; place = 0; last = 0; live = true; bytes = [] }

-- such a log on a disk
abbrev pub first_log : {D : Type 0} → D → LogView D
first_log disk = record { disk = disk; tail = first_tail; llsns = [] }
