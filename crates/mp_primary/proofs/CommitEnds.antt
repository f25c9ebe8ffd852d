-- What a commit that ended leaves of its primary: its slot is freed, it is published, nobody knows its end, or it was stopped.
use Rattle.std.proofs.Common.{◌≡◌, ◌≢◌, ℕ, ◌≤◌, false, List, [], length, None, Some, refl, sym, ap, subst, ◌∙◌, inl, inr, ⊎_elim, arith}
use Rattle.mp_machine.specs.Lists.{IsIn}
use Rattle.mp_machine.specs.View.{part_in}
use Rattle.mp_cells.specs.declared.records.Mtr.{Mtr}
use Rattle.mp_cells.specs.PageView.{PageView}
use Rattle.mp_core_trx.specs.declared.part.Begun.{Begun}
use Rattle.mp_core_trx.specs.declared.part.TrxPart.{TrxPart}
use Rattle.mp_core_trx.specs.Events.{with_end}
use Rattle.mp_core_trx.specs.Parts.{PartExtends, draw_of, shown_at}
use Rattle.mp_core_pages.specs.declared.page_lock.Held.TheVariants.{No}
use Rattle.mp_core_pages.specs.declared.part.PagesPart.{PagesPart}
use Rattle.mp_core_pages.specs.declared.part.Placed.{Placed}
use Rattle.mp_core_pages.specs.PageParts.{held_at}
use Rattle.mp_core.specs.declared.part.CorePart.{CorePart}
use Rattle.mp_core.specs.CoreExtends.{CoreExtends}
use Rattle.mp_core.specs.OwnMtrs.{first_former, TrxMtr, trx_mtrs}
use Rattle.mp_book.specs.declared.session.Session.{Session}
use Rattle.mp_outside.specs.declared.disks.Disk.{Ghosts}
use Rattle.mp_outside.specs.Faults.{Rose}
use Rattle.mp_shared.specs.Nodes.{Run, NodeView, HoldsPart, Reached}
use Rattle.mp_shared.proofs.Holding.{held_part}
use Rattle.mp_trx_fusion.specs.Calls.{with_trx}
use Rattle.mp_buffer_fusion.proofs.Visiting.{one_part}
use Rattle.mp_supports.specs.Supports.{no_trace, commit_trace}
use Rattle.mp_supports.specs.Kept.{lasting, Did}
use Rattle.mp_supports.proofs.Classes.{did_then}
use Rattle.mp_desk.specs.declared.desk.Desk.{Desk}
use Rattle.mp_desk.specs.declared.media.Media.{Media}
use Rattle.mp_desk.specs.Desks.{IsAtDesk, Moves}
use Rattle.mp_desk.specs.LetGo.{HasLetGo}
use Rattle.mp_desk.specs.Making.{IsOpenLog, MakesLater, HoldsPartOf, MediaAgree}
use Rattle.mp_desk.specs.Statements.{StaysQuiet}
use Rattle.mp_desk.specs.Writes.{IsPublished, IsInTheBalance}
use Rattle.mp_desk.proofs.MadeLater.{MadeTheSame, later_none, later_last}
use Rattle.mp_desk.proofs.Moving.{moves_as, moves_both}
use Rattle.mp_desk.proofs.TrxStepped.{trx_changed, trx_step, extends_end, trx_there, moves_trx, trx_at_desk, trx_media}
use Rattle.mp_primary.specs.declared.outside.CommitEnd.{CommitEnd}
use Rattle.mp_primary.specs.declared.outside.CommitEnd.TheVariants as ends
use Rattle.mp_primary.specs.Primaries.{PrimaryView, StandsWith}
use Rattle.mp_primary.specs.Turns.{IsSessionOf}
use Rattle.mp_primary.specs.Commits.{EndsInPart, EndsByCommit}

-- ---- what leaves no trace

pub did_nothing : (q r : CorePart) → CoreExtends q r → r.trx.begun ≡ q.trx.begun → r.trx.drew ≡ q.trx.drew → r.pages.made ≡ q.pages.made → Did q r no_trace
did_nothing q r e begun drew made = record {
  extends = e;
  traced = record { pages = tt; began = tt; drew = tt; mtr = tt };
  began = begun;
  drew = drew;
  made = ap (λ (l : List (Placed Mtr)). lasting (trx_mtrs l)) made;
  since = tt;
  later = tt;
}

-- a commit that is published stays so where all pages are let go
pub published_let_go : (trx : Begun) (cts : ℕ) (q r s : CorePart) → IsPublished trx cts q r → HasLetGo r s → IsPublished trx cts q s
published_let_go trx cts q r s h gone =
    let c = h.commits in
    let k = c.recorded in
    let made = gone.made in
    let before : (m : TrxMtr) → IsIn m (trx_mtrs s.pages.made) → IsIn m (trx_mtrs r.pages.made) = λ m there. subst (λ (l : List (Placed Mtr)). IsIn m (trx_mtrs l)) made there in
    record {
      commits = record {
        mtr = c.mtr;
        did = did_then q r s (commit_trace (draw_of trx.id cts) c.mtr) c.did (did_nothing r s gone.extends (ap (λ (t : TrxPart). t.begun) gone.trx) (ap (λ (t : TrxPart). t.drew) gone.trx) made);
        recorded = record {
          above = k.above;
          drawn = subst (λ (t : TrxPart). IsIn (draw_of trx.id cts) t.drew) (sym gone.trx) k.drawn;
          was_made = subst (λ (l : List (Placed Mtr)). IsIn c.mtr (trx_mtrs l)) (sym made) k.was_made;
          of = k.of;
          commit = k.commit;
          whole = λ m there. k.whole m (before m there);
        };
        begun = ap (λ (t : TrxPart). t.begun) gone.trx ∙ c.begun;
        counted = ap (λ (l : List (Placed Mtr)). length l) made ∙ c.counted;
        formers = λ id key. ap (λ (l : List (Placed Mtr)). first_former l id key) made ∙ c.formers id key;
        other_slots = λ slot other. ap (λ (t : TrxPart). shown_at t.rows slot) gone.trx ∙ c.other_slots slot other;
        its = λ m there. c.its m (before m there);
      };
      durable = let was = h.durable in let more = gone.extends.durable in omega (arith, was, more);
      shown = ap (λ (t : TrxPart). shown_at t.rows trx.id.slot) gone.trx ∙ h.shown;
    }

-- ---- what makes nothing

made_quiet : (q r : CorePart) → StaysQuiet q r → r.pages.made ≡ q.pages.made
made_quiet q r h = h.made

made_let_go : (q r : CorePart) → HasLetGo q r → r.pages.made ≡ q.pages.made
made_let_go q r h = h.made

made_freed : (trx : Begun) (q r : CorePart) → EndsInPart trx ends.None q r → r.pages.made ≡ q.pages.made
made_freed trx q r h = ap (λ (l : PagesPart PageView Mtr). l.made) h.0.pages

-- ---- the four ends

module _ {D : Type 0} (g : Ghosts D) (run : Run) (old : PrimaryView D) (before : NodeView) (stands : StandsWith g run old before) (up : old.down ≡ 0) (session : ℕ) (trx : Begun) where
  abbrev q : CorePart
  q = (held_part before old.number stands.desk.part).0

  abbrev has : part_in before.parts old.number ≡ Some q
  has = (held_part before old.number stands.desk.part).1

  -- what the media hold before
  pub media_before : MediaAgree g old.work 0 old.media old.number before
  media_before r there = subst (λ (d : ℕ). HoldsPartOf g old.work d old.number old.media r) up (stands.agrees.1 r there).media

  idle_before : (page : ℕ) → held_at q.pages.locks page ≡ No
  idle_before page = ⊎_elim (λ none. none) (λ down. absurd (down up)) ((stands.agrees.1 q has).mirrors.idle page)

  module _ (after : NodeView) (is : after ≡ with_trx before old.number (with_end trx.id None) 1) (reached : Reached after) (none : (s : Session) → IsSessionOf old session s → s.formers.items ≡ []) where
    more : PartExtends q.trx (with_end trx.id None q.trx)
    more = extends_end trx.id None q.trx

    abbrev freed : CorePart
    freed = trx_changed (with_end trx.id None) 1 q

    freed_moves : Moves (EndsInPart trx ends.None) old.number before after
    freed_moves = moves_trx old.number before after (with_end trx.id None) 1 is q has more (EndsInPart trx ends.None) (trx_step q (with_end trx.id None) 1 more, refl)

    freed_there : part_in after.parts old.number ≡ Some freed
    freed_there = trx_there old.number before after (with_end trx.id None) 1 is q has more

    pub freed_ends : EndsByCommit g run old old before after session trx ends.None
    freed_ends = record {
      rest = ap (λ (d : ℕ). record old { down = d }) up;
      desk = trx_at_desk old.number before after (with_end trx.id None) 1 is q has more run old.desk stands.desk reached;
      own = stands.primary.own;
      ended = freed_moves;
      later = later_none old.number before after (moves_as old.number (EndsInPart trx ends.None) MadeTheSame (made_freed trx) before after freed_moves);
      ready = λ still.
          let was = stands.primary.up up in
          record {
            log = was.0;
            empty = was.1;
            forced = was.2;
            idle = λ r there. subst (λ (x : CorePart). (page : ℕ) → held_at x.pages.locks page ≡ No) (one_part (part_in after.parts old.number) freed r freed_there there) idle_before;
          };
      media = trx_media old.number before after (with_end trx.id None) 1 is q has more g old.work 0 old.media stands.desk.part media_before;
      faults = omega arith;
      tells = refl;
      rose = inl refl;
      wrote = none;
    }

  module _ (desk : Desk) (media : Media D) (after : NodeView) (at : IsAtDesk run desk old.number after) (own : desk.mtr.node ≡ old.number) (faults : g.faults old.media.log.disk ≤ g.faults media.log.disk)
      (told : g.tells media.log.disk ≡ g.tells old.media.log.disk) (wrote : (s : Session) → IsSessionOf old session s → s.formers.items ≢ []) where
    -- it is published, and all pages are let go
    pub published_ends : (cts : ℕ) (mid : NodeView) → HoldsPart mid old.number → Moves (IsPublished trx cts) old.number before mid → Moves HasLetGo old.number mid after → MakesLater old.number before mid
        → IsOpenLog old.number desk.llsn media.log → desk.pool ≡ [] → media.unforced ≡ false → MediaAgree g old.work 0 media old.number after
        → EndsByCommit g run old (record old { desk = desk; media = media }) before after session trx (ends.At cts)
    published_ends cts mid held one two later log empty forced agree = record {
      rest = ap (λ (d : ℕ). record old { desk = desk; media = media; down = d }) up;
      desk = at;
      own = own;
      ended = moves_both old.number (IsPublished trx cts) HasLetGo (IsPublished trx cts) (published_let_go trx cts) before mid after one two;
      later = later_last old.number before mid after held (moves_as old.number HasLetGo MadeTheSame made_let_go mid after two) later;
      ready = λ still. record {
        log = log;
        empty = empty;
        forced = forced;
        idle = λ r there.
            let m = held_part mid old.number held in
            let now = two.mine m.0 m.1 in
            subst (λ (x : CorePart). (page : ℕ) → held_at x.pages.locks page ≡ No) (one_part (part_in after.parts old.number) now.0 r now.1 there) now.2.idle;
      };
      media = agree;
      faults = faults;
      tells = told;
      rose = inl refl;
      wrote = wrote;
    }

    module _ (down : MediaAgree g old.work old.number media old.number after) (rose : Rose (g.faults old.media.log.disk) (g.faults media.log.disk)) where
      -- a primary's number isn't 0
      not_nobody : old.number ≢ 0
      not_nobody zero = let one = (held_part before old.number stands.desk.part).2.0 in absurd (omega (arith, one, zero))

      -- its record may be on the disk
      pub doubt_ends : (cts : ℕ) → Moves (IsInTheBalance trx cts) old.number before after → MakesLater old.number before after
          → EndsByCommit g run old (record old { desk = desk; media = media; down = old.number }) before after session trx (ends.Unknown cts)
      doubt_ends cts moves later = record {
        rest = refl;
        desk = at;
        own = own;
        ended = moves;
        later = later;
        ready = λ zero. absurd (not_nobody zero);
        media = down;
        faults = faults;
        tells = told;
        rose = inr rose;
        wrote = wrote;
      }

      -- it hadn't begun
      pub stopped_ends : Moves StaysQuiet old.number before after → EndsByCommit g run old (record old { desk = desk; media = media; down = old.number }) before after session trx ends.Stopped
      stopped_ends moves = record {
        rest = refl;
        desk = at;
        own = own;
        ended = moves;
        later = later_none old.number before after (moves_as old.number StaysQuiet MadeTheSame made_quiet before after moves);
        ready = λ zero. absurd (not_nobody zero);
        media = down;
        faults = faults;
        tells = told;
        rose = inr rose;
        wrote = wrote;
      }

-- the same, of what a method sees inside
module _ {D : Type 0} (g : Ghosts D) (run : Run) (inside old new : PrimaryView D) (view : inside ≡ old) (before after : NodeView) (session : ℕ) (trx : Begun) (end : CommitEnd) where
  pub ends_inside : EndsByCommit g run inside new before after session trx end → EndsByCommit g run old new before after session trx end
  ends_inside h = subst (λ (v : PrimaryView D). EndsByCommit g run v new before after session trx end) view h
