-- A primary at work lets all pages go, or its log's disk fails.
use Rattle.std.proofs.Common.{◌≡◌, ℕ, ◌≤◌, false, List, [], Some, sym, ap, subst, ◌∙◌, arith}
use Rattle.mp_machine.specs.View.{part_in}
use Rattle.mp_cells.specs.declared.records.Mtr.{Mtr}
use Rattle.mp_core_pages.specs.declared.part.Placed.{Placed}
use Rattle.mp_core_trx.specs.declared.part.TrxPart.{TrxPart}
use Rattle.mp_core.specs.declared.part.CorePart.{CorePart}
use Rattle.mp_core.specs.OwnMtrs.{trx_mtrs}
use Rattle.mp_outside.specs.declared.disks.Disk.{Ghosts}
use Rattle.mp_outside.specs.Faults.{Rose}
use Rattle.mp_shared.specs.Nodes.{Run, NodeView}
use Rattle.mp_shared.proofs.Holding.{held_part}
use Rattle.mp_supports.specs.Work.{Work}
use Rattle.mp_supports.specs.Supports.{Trace, no_trace}
use Rattle.mp_supports.specs.Kept.{lasting, Did}
use Rattle.mp_supports.proofs.Classes.{did_then}
use Rattle.mp_desk.specs.declared.desk.Desk.{Desk}
use Rattle.mp_desk.specs.declared.media.Media.{Media}
use Rattle.mp_desk.specs.Desks.{IsAtDesk, Moves}
use Rattle.mp_desk.specs.Making.{IsOpenLog, MediaAgree}
use Rattle.mp_desk.specs.LetGo.{HasLetGo}
use Rattle.mp_desk.proofs.Moving.{moves_both}
use Rattle.mp_primary.specs.Primaries.{PrimaryView}
use Rattle.mp_primary.specs.AtWork.{IsAtWork, HasClearedDesk, HasGoneDown}
use Rattle.mp_primary.proofs.TurnEnds.{moved}

-- letting go leaves nothing
did_let_go : (q r : CorePart) → HasLetGo q r → Did q r no_trace
did_let_go q r h = record {
  extends = h.extends;
  traced = record { pages = tt; began = tt; drew = tt; mtr = tt };
  began = ap (λ (t : TrxPart). t.begun) h.trx;
  drew = ap (λ (t : TrxPart). t.drew) h.trx;
  made = ap (λ (l : List (Placed Mtr)). lasting (trx_mtrs l)) h.made;
  since = tt;
  later = tt;
}

did_and_gone : (trace : Trace) (q r s : CorePart) → Did q r trace → HasLetGo r s → Did q s trace
did_and_gone trace q r s did gone = did_then q r s trace did (did_let_go r s gone)

-- `view` is what the method sees inside
module _ {D : Type 0} (g : Ghosts D) (run : Run) (old view now : PrimaryView D) (same : view ≡ now) (before node after : NodeView)
    (trace : Trace) (work : IsAtWork g run old now before node trace) where
  inside : IsAtWork g run old view before node trace
  inside = subst (λ (v : PrimaryView D). IsAtWork g run old v before node trace) (sym same) work

  number_is : view.number ≡ old.number
  number_is = ap (λ (v : PrimaryView D). v.number) inside.rest

  media_here : MediaAgree g old.work 0 view.media view.number node
  media_here = subst (λ (k : ℕ). MediaAgree g old.work 0 view.media k node) (sym number_is) inside.media

  pub media_somehow : (w : Work) × MediaAgree g w 0 view.media view.number node
  media_somehow = (old.work, media_here)

  module _ (desk : Desk) (media : Media D) (at : IsAtDesk run desk view.number after) where
    pub cleared_by : Moves HasLetGo view.number node after → desk ≡ record (view.desk) { pool = [] }
        → ((w : Work) → MediaAgree g w 0 view.media view.number node → MediaAgree g w 0 media view.number after) → media.unforced ≡ false
        → IsOpenLog view.number desk.llsn media.log → g.faults view.media.log.disk ≤ g.faults media.log.disk
        → g.tells media.log.disk ≡ g.tells view.media.log.disk
        → HasClearedDesk g run old (record view { desk = desk; media = media }) before after trace
    cleared_by gone emptied agrees unforced is_open faults told =
        let here : Moves HasLetGo old.number node after = subst (λ (k : ℕ). Moves HasLetGo k node after) number_is gone in
        record {
          work = record {
            rest = ap (λ (v : PrimaryView D). record v { desk = desk; media = media }) inside.rest;
            up = inside.up;
            desk = subst (λ (k : ℕ). IsAtDesk run desk k after) number_is at;
            own = ap (λ (d : Desk). d.mtr.node) emptied ∙ inside.own;
            log = subst (λ (k : ℕ). IsOpenLog k desk.llsn media.log) number_is is_open;
            media = subst (λ (k : ℕ). MediaAgree g old.work 0 media k after) number_is (agrees old.work media_here);
            did = moves_both old.number (λ q r. Did q r trace) HasLetGo (λ q r. Did q r trace)
                (did_and_gone trace) before node after inside.did here;
            faults = (let first = inside.faults in omega (arith, first, faults));
            tells = told ∙ inside.tells;
          };
          empty = ap (λ (d : Desk). d.pool) emptied;
          forced = unforced;
          durable = λ r there. (gone_part here r there).durable;
          idle = λ r there. (gone_part here r there).idle;
        }
      where
        gone_part : Moves HasLetGo old.number node after → (r : CorePart) → part_in after.parts old.number ≡ Some r
            → HasLetGo (held_part node old.number inside.desk.part).0 r
        gone_part here r there = let q = held_part node old.number inside.desk.part in moved HasLetGo old.number node after here q.0 r q.1
            there

    pub down_by : desk ≡ view.desk → after ≡ node
        → ((w : Work) → MediaAgree g w 0 view.media view.number node → MediaAgree g w view.number media view.number after)
        → media.log.tail.live ≡ false
        → g.faults view.media.log.disk ≤ g.faults media.log.disk → Rose (g.faults view.media.log.disk) (g.faults media.log.disk)
        → g.tells media.log.disk ≡ g.tells view.media.log.disk
        → HasGoneDown g run old (record view { desk = desk; media = media; down = view.number }) before after trace
    down_by same_desk still agrees closed faults rose told = record {
      rest = ap (λ (v : PrimaryView D). record v { desk = desk; media = media; down = v.number }) inside.rest;
      up = inside.up;
      desk = subst (λ (k : ℕ). IsAtDesk run desk k after) number_is at;
      own = ap (λ (d : Desk). d.mtr.node) same_desk ∙ inside.own;
      closed = closed;
      media = subst (λ (k : ℕ). MediaAgree g old.work k media k after) number_is (agrees old.work media_here);
      did = subst (λ (x : NodeView). Moves (λ q r. Did q r trace) old.number before x) (sym still) inside.did;
      rose = rose_since rose;
      faults = (let first = inside.faults in omega (arith, first, faults));
      tells = told ∙ inside.tells;
    }
      where
        rose_since : Rose (g.faults view.media.log.disk) (g.faults media.log.disk)
            → Rose (g.faults old.media.log.disk) (g.faults media.log.disk)
        rose_since up = let first = inside.faults in omega (arith, first, up)
