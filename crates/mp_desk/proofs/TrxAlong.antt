-- What the desk and the media are goes along with looks and with steps of transactions.
use Rattle.std.proofs.Common.{◌≡◌, ℕ, ◌<◌, ◌≤◌, List, length, sym, ap, subst, ◌∙◌, arith}
use Rattle.mp_machine.specs.View.{part_in}
use Rattle.mp_cells.specs.declared.records.Mtr.{Mtr}
use Rattle.mp_cells.specs.PageView.{PageView}
use Rattle.mp_core_trx.specs.declared.opening.TrxOpening.{TrxOpening}
use Rattle.mp_core_pages.specs.declared.part.PagesPart.{PagesPart}
use Rattle.mp_core_pages.specs.declared.part.Placed.{Placed}
use Rattle.mp_core_pages.specs.PageParts.{held_at, told_llsn}
use Rattle.mp_core.specs.declared.part.CorePart.{CorePart}
use Rattle.mp_core.specs.Contents.{page_ops}
use Rattle.mp_core.specs.CoreExtends.{CoreExtends}
use Rattle.mp_outside.specs.declared.disks.Disk.{Ghosts}
use Rattle.mp_shared.specs.Nodes.{Run, NodeView, HoldsPart, Reached}
use Rattle.mp_shared.proofs.Holding.{held_part}
use Rattle.mp_buffer_fusion.specs.Agreement.{AgreesWith}
use Rattle.mp_buffer_fusion.proofs.Visiting.{one_part, held_is}
use Rattle.mp_supports.specs.Work.{Work}
use Rattle.mp_supports.specs.Steps.{OnlyLooked, TrxStep}
use Rattle.mp_supports.specs.Agreement.{HasMadeUndo}
use Rattle.mp_supports.proofs.Extending.{placed_in}
use Rattle.mp_supports.proofs.Keeping.{if_some_map}
use Rattle.mp_supports.proofs.Media.{disk_kept}
use Rattle.mp_supports.proofs.Unchanged.{same_last}
use Rattle.mp_desk.specs.declared.desk.Desk.{Desk}
use Rattle.mp_desk.specs.declared.media.Media.{Media}
use Rattle.mp_desk.specs.Desks.{DeskAgrees, IsAtDesk, Moves}
use Rattle.mp_desk.specs.Making.{HoldsPartOf, MediaAgree}
use Rattle.mp_desk.proofs.Moving.{moves_as, holds_on}
use Rattle.mp_desk.proofs.MediaMoved.{part_looked}

-- ---- steps of transactions

trx_extends : (q r : CorePart) → TrxStep q r → CoreExtends q r
trx_extends q r step = step.extends

same_made : (q r : CorePart) → TrxStep q r → r.pages.made ≡ q.pages.made
same_made q r step = ap (λ (l : PagesPart PageView Mtr). l.made) step.pages

desk_trx : (desk : Desk) (q r : CorePart) → TrxStep q r → DeskAgrees desk q → DeskAgrees desk r
desk_trx desk q r step was =
    let last = same_last q r step.extends (same_made q r step) in
    record {
      pool = subst (AgreesWith desk.pool) (sym step.pages) was.pool;
      not_below = let below = was.not_below in omega (arith, last, below);
      not_above =
          let above = was.not_above in
          let told = ap (λ (l : PagesPart PageView Mtr). told_llsn page_ops l.given) step.pages in
          omega (arith, last, told, above);
      seen = was.seen;
      undo_page =
          if_some_map (λ page. (2 ≤ page) × (page < 4096) × HasMadeUndo q page) (λ page. (2 ≤ page) × (page < 4096) × HasMadeUndo r page) desk.undo
          (λ page u. (u.0, u.1, (u.2.0, placed_in q r step.extends u.2.0 u.2.1, u.2.2))) was.undo_page;
    }

-- the primary is at its desk still
pub at_desk_trx : (run : Run) (desk : Desk) (p : ℕ) (a b : NodeView) → IsAtDesk run desk p a → Moves TrxStep p a b → Reached b → IsAtDesk run desk p b
at_desk_trx run desk p a b at moves reached =
    let has = held_part a p at.part in
    let now = moves.mine has.0 has.1 in
    record {
      its_run = moves.run ∙ at.its_run;
      reached = reached;
      part = holds_on p a b (moves_as p TrxStep CoreExtends trx_extends a b moves) p at.part;
      frames = moves.frames ∙ at.frames;
      agrees = λ r there. subst (DeskAgrees desk) (one_part (part_in b.parts p) now.0 r now.1 there) (desk_trx desk has.0 now.0 now.2 (at.agrees has.0 has.1));
      written = λ k buffer is dirty.
          held_is b p k now.0 now.1
          ∙ ap (λ (l : PagesPart PageView Mtr). held_at l.locks k) now.2.pages
          ∙ sym (held_is a p k has.0 has.1)
          ∙ at.written k buffer is dirty;
    }

-- ---- the media

module _ {D : Type 0} (g : Ghosts D) (work : Work) (p down : ℕ) (media : Media D) (a b : NodeView) (held : HoldsPart a p) where
  part_trx : (q r : CorePart) → TrxStep q r → HoldsPartOf g work down p media q → HoldsPartOf g work down p media r
  part_trx q r step h = record {
    base = ap (λ (o : TrxOpening). o.base) step.extends.trx.same_opening ∙ h.base;
    node = h.node;
    on_disk = disk_kept q r step.extends (same_made q r step) (ap (λ (l : PagesPart PageView Mtr). l.durables) step.pages) work down media.log.tail media.unforced (g.tells media.log.disk) (g.seen media.log.disk) (g.image media.log.disk) h.on_disk;
    some_made = λ e.
        let some = h.some_made e in
        let count = ap (λ (l : List (Placed Mtr)). length l) (same_made q r step) in
        omega (arith, some, count);
  }

  pub media_trx : Moves TrxStep p a b → MediaAgree g work down media p a → MediaAgree g work down media p b
  media_trx moves agree r there =
      let has = held_part a p held in
      let now = moves.mine has.0 has.1 in
      subst (HoldsPartOf g work down p media) (one_part (part_in b.parts p) now.0 r now.1 there) (part_trx has.0 now.0 now.2 (agree has.0 has.1))

  pub media_looked : Moves OnlyLooked p a b → MediaAgree g work down media p a → MediaAgree g work down media p b
  media_looked moves agree r there =
      let has = held_part a p held in
      let now = moves.mine has.0 has.1 in
      subst (HoldsPartOf g work down p media) (one_part (part_in b.parts p) now.0 r now.1 there) (part_looked g work p down media has.0 now.0 now.2 (agree has.0 has.1))
