-- What a run answers: its script's lines, and its transactions by their names and by their ids.
use Rattle.std.specs.Prelude.{◌-◌, nat_lt, if◌then◌else◌, List, Option, None, slice_get}
use Rattle.mp_model.specs.declared.ids.TrxId.{TrxId}
use Rattle.mp_model.specs.declared.ids.TrxName.{TrxName}
use Rattle.mp_script.specs.declared.statements.Line.{Line}
use Rattle.mp_script.specs.declared.statements.SessionOn.{SessionOn}
use Rattle.mp_script.specs.BeginNames.{begin_names}
use Rattle.mp_core_trx.specs.declared.opening.Base.{Base}

-- What is answered: the script's lines and sessions, and what the store had reached
pub record Work : Type 0 where
  pub lines : List Line
  pub sessions : List SessionOn
  pub base : Base

-- the name of the transaction with an id: its version counts the `begin` lines
abbrev pub name_of : Work → TrxId → Option TrxName
name_of work id = if nat_lt work.base.version id.version then slice_get (begin_names work.lines) (id.version - work.base.version - 1) else None
