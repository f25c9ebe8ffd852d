-- The mtr of a plan that was made isn't durable yet.
use Rattle.std.proofs.Common.{◌≡◌, ℕ, ◌+◌, ◌<◌, List, ◌∷◌, Some, sym, ap, subst, ◌∙◌, arith}
use Rattle.mp_machine.specs.View.{part_in}
use Rattle.mp_cells.specs.declared.records.Mtr.{Mtr}
use Rattle.mp_core_trx.specs.declared.part.TrxPart.{TrxPart}
use Rattle.mp_core_pages.specs.declared.part.Placed.{Placed}
use Rattle.mp_core_pages.specs.PageParts.{durable_llsn}
use Rattle.mp_core.specs.declared.part.CorePart.{CorePart}
use Rattle.mp_core.specs.CoreExtends.{durable_of}
use Rattle.mp_shared.specs.Nodes.{Run, NodeView}
use Rattle.mp_shared.proofs.Holding.{held_part}
use Rattle.mp_buffer_fusion.proofs.Visiting.{one_part}
use Rattle.mp_supports.specs.Steps.{MadeOne}
use Rattle.mp_desk.specs.declared.desk.Desk.{Desk}
use Rattle.mp_desk.specs.Desks.{IsAtDesk, Moves}
use Rattle.mp_desk.specs.Making.{mtr_of_plan}
use Rattle.mp_desk.proofs.ForcedMedia.{durable_below}

first_is : (x y : Placed Mtr) (xs ys : List (Placed Mtr)) → x ∷ xs ≡ y ∷ ys → x ≡ y
first_is x y xs ys e = cc

module _ (run : Run) (desk : Desk) (p : ℕ) (a b : NodeView) (at : IsAtDesk run desk p a) (x : Placed Mtr) (its : x.mtr ≡ mtr_of_plan desk) (moves : Moves (MadeOne x) p a b) where
  pub made_fresh : (r : CorePart) (y : Placed Mtr) (made : List (Placed Mtr)) → part_in b.parts p ≡ Some r → r.pages.made ≡ y ∷ made → durable_of r < y.mtr.llsn
  made_fresh r y made there are =
      let q = held_part a p at.part in
      let now = moves.mine q.0 q.1 in
      let step : MadeOne x q.0 r = subst (MadeOne x q.0) (one_part (part_in b.parts p) now.0 r now.1 there) now.2 in
      let same : x ≡ y = first_is x y q.0.pages.made made (sym step.made ∙ are) in
      let durable : durable_of r ≡ durable_of q.0 = ap (λ (t : TrxPart). durable_llsn t.opening.base.llsn r.pages.durables) step.trx ∙ ap (λ l. durable_llsn (q.0).trx.opening.base.llsn l) step.durables in
      let below = durable_below a at.reached p q.0 q.1 in
      let llsn = (at.agrees q.0 q.1).not_below in
      let own : y.mtr.llsn ≡ desk.llsn + 1 = ap (λ (z : Placed Mtr). z.mtr.llsn) (sym same) ∙ ap (λ (m : Mtr). m.llsn) its in
      omega (arith, durable, below, llsn, own)
