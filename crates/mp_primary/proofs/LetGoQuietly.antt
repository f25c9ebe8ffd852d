-- A part that let all pages go stayed quiet.
use Rattle.std.proofs.Common.{ℕ, ap}
use Rattle.mp_core_trx.specs.declared.part.TrxPart.{TrxPart}
use Rattle.mp_core.specs.declared.part.CorePart.{CorePart}
use Rattle.mp_shared.specs.Nodes.{NodeView}
use Rattle.mp_desk.specs.Desks.{Moves}
use Rattle.mp_desk.specs.LetGo.{HasLetGo}
use Rattle.mp_desk.specs.Statements.{StaysQuiet}
use Rattle.mp_desk.proofs.Moving.{moves_as}

quiet_let_go : (q r : CorePart) → HasLetGo q r → StaysQuiet q r
quiet_let_go q r h = record {
  extends = h.extends;
  begun = ap (λ (t : TrxPart). t.begun) h.trx;
  rows = ap (λ (t : TrxPart). t.rows) h.trx;
  drew = ap (λ (t : TrxPart). t.drew) h.trx;
  made = h.made;
}

pub moves_quiet_let_go : (p : ℕ) (a b : NodeView) → Moves HasLetGo p a b → Moves StaysQuiet p a b
moves_quiet_let_go p a b h = moves_as p HasLetGo StaysQuiet quiet_let_go a b h
