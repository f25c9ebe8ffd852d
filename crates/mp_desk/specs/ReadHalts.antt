-- Why a read stops before it has its value.
use Rattle.std.specs.Prelude.{◌≡◌, ℕ, Some}
use Rattle.mp_machine.specs.View.{part_in}
use Rattle.mp_core_trx.specs.declared.part.Begun.{Begun}
use Rattle.mp_core.specs.declared.part.CorePart.{CorePart}
use Rattle.mp_shared.specs.Nodes.{NodeView}
use Rattle.mp_desk.specs.declared.halts.ReadHalt.{ReadHalt}
use Rattle.mp_desk.specs.declared.halts.ReadHalt.TheVariants as halts
use Rattle.mp_desk.specs.Desks.{MetWait}
use Rattle.mp_desk.specs.Statements.{IsPreparing}

-- a page couldn't be had; or a version of the key, on the way from the newest, is of a writer that is preparing, by what
-- the part has then
abbrev pub HaltsRead : ℕ → Begun → ℕ → NodeView → NodeView → ReadHalt → Type 0
HaltsRead p trx key before after (halts.Word wait) = MetWait p before after wait
HaltsRead p trx key before after (halts.Prep id) = (r : CorePart) → part_in after.parts p ≡ Some r → IsPreparing r trx.id trx.view key id

-- the same of some key that a scan comes to
abbrev pub HaltsScan : ℕ → Begun → NodeView → NodeView → ReadHalt → Type 0
HaltsScan p trx before after (halts.Word wait) = MetWait p before after wait
HaltsScan p trx before after (halts.Prep id) = (r : CorePart) → part_in after.parts p ≡ Some r
    → (key : ℕ) × IsPreparing r trx.id trx.view key id
