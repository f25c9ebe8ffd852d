-- How a primary's agreement goes on where a session's transaction ended by a commit, and the session goes on by it.
use Rattle.std.proofs.Common.{◌≡◌, ◌≢◌, ℕ, suc, ◌<◌, ◌≤◌, ◌⊎◌, List, ◌++◌, length, slice_get, slice_set, Option, None, Some, IfSome, refl, sym, ap, subst, ◌∙◌, inl, inr, ⊎_elim, arith}
use mathlib.Core.Logic.{dite}
use native.Mathlib.Decide.{ℕ_discrete}
use Rattle.mp_machine.specs.Lists.{IsIn}
use Rattle.mp_machine.specs.View.{part_in}
use Rattle.mp_model.specs.declared.ids.TrxId.{TrxId}
use Rattle.mp_model.specs.declared.ids.TrxName.{TrxName}
use Rattle.mp_model.specs.declared.replies.Answer.{Answer}
use Rattle.mp_script.specs.declared.statements.Line.{Line}
use Rattle.mp_cells.specs.declared.records.Mtr.{Mtr}
use Rattle.mp_cells.specs.PageView.{PageView}
use Rattle.mp_core_trx.specs.declared.part.Begun.{Begun}
use Rattle.mp_core_trx.specs.declared.part.Draw.{Draw}
use Rattle.mp_core_trx.specs.declared.part.SlotRow.{SlotRow}
use Rattle.mp_core_trx.specs.declared.part.TrxPart.{TrxPart}
use Rattle.mp_core_trx.specs.declared.slot.Shown.{Shown}
use Rattle.mp_core_trx.specs.declared.slot.SlotTag.TheVariants.{Active, Prep}
use Rattle.mp_core_trx.specs.Events.{ended}
use Rattle.mp_core_trx.specs.Parts.{HasBegun, IsOpen, Shows, draw_of, shown_at}
use Rattle.mp_core_trx.specs.Words.{shows}
use Rattle.mp_core_pages.specs.declared.part.PagesPart.{PagesPart}
use Rattle.mp_core_pages.specs.declared.part.Placed.{Placed}
use Rattle.mp_core.specs.declared.part.CorePart.{CorePart}
use Rattle.mp_core.specs.CoreExtends.{CoreExtends}
use Rattle.mp_core.specs.OwnMtrs.{row_restored_by, first_former, TrxMtr, trx_mtrs}
use Rattle.mp_book.specs.declared.session.Session.{Session}
use Rattle.mp_book.specs.declared.stage.Stage.TheVariants.{Open}
use Rattle.mp_book.specs.Stages.{next_line, trx_of_stage}
use Rattle.mp_outside.specs.declared.disks.Disk.{Ghosts}
use Rattle.mp_shared.specs.Nodes.{Run, NodeView}
use Rattle.mp_shared.proofs.Holding.{held_part}
use Rattle.mp_supports.specs.Work.{Work}
use Rattle.mp_supports.specs.Supports.{Trace, no_trace, commit_trace, SupportsWaits}
use Rattle.mp_supports.specs.Kept.{Entry, Did}
use Rattle.mp_supports.specs.Agreement.{Opens, Mirrors, Bounds, StandAtNumbers, HasNoNewWait, rows_left}
use Rattle.mp_supports.proofs.Classes.{did_trx}
use Rattle.mp_supports.proofs.Extending.{placed_of}
use Rattle.mp_supports.proofs.OpenSteps.{opens_ended}
use Rattle.mp_supports.proofs.BoundSteps.{bounds_commit, bounds_answered}
use Rattle.mp_supports.proofs.Places.{at_place}
use Rattle.mp_supports.proofs.Unchanged.{waits_kept}
use Rattle.mp_desk.specs.Making.{HoldsPartOf}
use Rattle.mp_desk.specs.Writes.{CommitsAt}
use Rattle.mp_desk.proofs.Committing.{shown_now, shown_else}
use Rattle.mp_primary.specs.declared.outside.CommitEnd.{CommitEnd}
use Rattle.mp_primary.specs.declared.outside.CommitEnd.TheVariants as ends
use Rattle.mp_primary.specs.Primaries.{PrimaryView, AreSessions, AreWaitsSupported, PrimaryAgrees, StandsWith}
use Rattle.mp_primary.specs.Turns.{IsSessionOf}
use Rattle.mp_primary.specs.Commits.{EndsInPart, down_by_end, left_at_end, EndsByCommit}
use Rattle.mp_primary.proofs.OpenSessions.{waits_ended, sessions_set, waits_set}
use Rattle.mp_primary.proofs.OpenTrx.{open_part, open_has, opened, is_active}
use Rattle.mp_primary.proofs.CommitEnds.{did_nothing}

-- ---- the part, by how the commit ended

module _ (trx : Begun) (q r : CorePart) where
  -- what it left of a statement
  abbrev pub trace_at_end : (end : CommitEnd) → EndsInPart trx end q r → Trace
  trace_at_end ends.None h = no_trace
  trace_at_end (ends.At cts) h = commit_trace (draw_of trx.id cts) h.commits.mtr
  trace_at_end (ends.Unknown cts) h = commit_trace (draw_of trx.id cts) h.commits.mtr
  trace_at_end ends.Stopped h = no_trace

  pub began_nothing : (end : CommitEnd) (h : EndsInPart trx end q r) → (trace_at_end end h).began ≡ None
  began_nothing ends.None h = refl
  began_nothing (ends.At cts) h = refl
  began_nothing (ends.Unknown cts) h = refl
  began_nothing ends.Stopped h = refl

  pub did_at_end : (end : CommitEnd) (h : EndsInPart trx end q r) → Did q r (trace_at_end end h)
  did_at_end ends.None h = did_trx q r h.0 (ap (λ (t : TrxPart). t.begun) h.1) (ap (λ (t : TrxPart). t.drew) h.1)
  did_at_end (ends.At cts) h = h.commits.did
  did_at_end (ends.Unknown cts) h = h.commits.did
  did_at_end ends.Stopped h = did_nothing q r h.extends h.begun h.drew h.made

  pub went_at_end : (end : CommitEnd) → EndsInPart trx end q r → CoreExtends q r
  went_at_end ends.None h = h.0.extends
  went_at_end (ends.At cts) h = h.commits.did.extends
  went_at_end (ends.Unknown cts) h = h.commits.did.extends
  went_at_end ends.Stopped h = h.extends

  module _ (number : ℕ) (some : number ≢ 0) where
    -- the primary is up or down
    pub up_or_down : (end : CommitEnd) → (down_by_end number end ≡ 0) ⊎ (down_by_end number end ≢ 0)
    up_or_down ends.None = inl refl
    up_or_down (ends.At cts) = inl refl
    up_or_down (ends.Unknown cts) = inr some
    up_or_down ends.Stopped = inr some

  -- ---- the open transactions of a primary that is up

  its_restored : (cts : ℕ) (c : CommitsAt trx cts q r) (m : TrxMtr) → IsIn m (trx_mtrs r.pages.made) → IsIn m (trx_mtrs q.pages.made) ⊎ (row_restored_by m.mtr ≡ None)
  its_restored cts c m there = ⊎_elim (λ old. inl old) (λ new. inr (ap (λ (k : TrxMtr). row_restored_by k.mtr) new.0 ∙ new.1)) (c.its m there)

  module _ (work : Work) (sessions : List Session) (number : ℕ) (s next : Session) (found : slice_get sessions number ≡ Some s) (numbered : StandAtNumbers sessions) (stage : s.stage ≡ Open trx) (waits : HasNoNewWait s next)
      (begun : IsIn trx q.trx.begun) (active : Shows q.trx.rows trx.id Active) where
    was_open : IsOpen q.trx trx.id
    was_open = ((trx.view, begun), inl active)

    pub opens_at_end : (end : CommitEnd) (h : EndsInPart trx end q r) (own : ℕ) → own ≢ 0 → down_by_end own end ≡ 0 → trx_of_stage next.stage ≡ left_at_end trx end → Opens work q 0 sessions → Opens work r 0 (slice_set sessions number next)
    opens_at_end ends.None h own not_zero up over was =
        opens_ended work q r 0 h.0.extends sessions number s next found numbered was trx None
        (ap (λ (t : TrxPart). t.begun) h.1)
        (λ slot other. ap (λ (t : TrxPart). shown_at t.rows slot) h.1 ∙ shown_else trx.id (ended trx.id None) q.trx.rows slot other)
        (ap (λ (t : TrxPart). shown_at t.rows trx.id.slot) h.1 ∙ shown_now trx.id (ended trx.id None) q.trx.rows)
        (λ b key. ap (λ (l : PagesPart PageView Mtr). first_former l.made b.id key) h.0.pages)
        (λ m there. inl (subst (λ (l : PagesPart PageView Mtr). IsIn m (trx_mtrs l.made)) h.0.pages there))
        was_open (ap trx_of_stage stage) over waits
    opens_at_end (ends.At cts) h own not_zero up over was =
        opens_ended work q r 0 h.commits.did.extends sessions number s next found numbered was trx (Some cts)
        h.commits.begun h.commits.other_slots h.shown (λ b key. h.commits.formers b.id key) (its_restored cts h.commits)
        was_open (ap trx_of_stage stage) over waits
    opens_at_end (ends.Unknown cts) h own not_zero up over was = absurd (not_zero up)
    opens_at_end ends.Stopped h own not_zero up over was = absurd (not_zero up)

  -- ---- the transactions that are open still, where it went down

  active_prep : Active ≡ Prep → ⊥
  active_prep e = cc

  prep_still : (active : Shows q.trx.rows trx.id Active) → ((slot : ℕ) → slot ≢ trx.id.slot → shown_at r.trx.rows slot ≡ shown_at q.trx.rows slot) → Shows r.trx.rows trx.id Prep
      → (id : TrxId) → Shows r.trx.rows id Active ⊎ Shows r.trx.rows id Prep → Shows q.trx.rows id Active ⊎ Shows q.trx.rows id Prep
  prep_still active others shown id (inl h) =
      dite (ℕ_discrete id.slot trx.id.slot)
      (λ same. absurd (active_prep (ap (λ (x : Shown). x.tag) (sym h ∙ ap (shown_at r.trx.rows) same ∙ shown))))
      (λ other. inl (sym (others id.slot other) ∙ h))
  prep_still active others shown id (inr h) =
      dite (ℕ_discrete id.slot trx.id.slot)
      (λ same.
      let version : trx.id.version ≡ id.version = ap (λ (x : Shown). x.version) (sym shown ∙ ap (shown_at r.trx.rows) (sym same) ∙ h) in
      inl (ap (shown_at q.trx.rows) same ∙ active ∙ ap (λ (v : ℕ). shows Active v 0) version))
      (λ other. inr (sym (others id.slot other) ∙ h))

  -- each was open before
  pub open_before : (end : CommitEnd) (own : ℕ) → down_by_end own end ≢ 0 → EndsInPart trx end q r → Shows q.trx.rows trx.id Active → (b : Begun) → IsIn b r.trx.begun → IsOpen r.trx b.id → IsIn b q.trx.begun × IsOpen q.trx b.id
  open_before ends.None own down h active b there opened_now = absurd (down refl)
  open_before (ends.At cts) own down h active b there opened_now = absurd (down refl)
  open_before (ends.Unknown cts) own down h active b there opened_now =
      let c = h.commits in (
        subst (λ (l : List Begun). IsIn b l) c.begun there,
        (subst (λ (l : List Begun). HasBegun l b.id) c.begun opened_now.0, prep_still active c.other_slots h.shown b.id opened_now.1),
      )
  open_before ends.Stopped own down h active b there opened_now = (
    subst (λ (l : List Begun). IsIn b l) h.begun there,
    (subst (λ (l : List Begun). HasBegun l b.id) h.begun opened_now.0, subst (λ (l : List SlotRow). Shows l b.id Active ⊎ Shows l b.id Prep) h.rows opened_now.1),
  )

  -- the transaction is the session's still then
  pub left_down : (end : CommitEnd) (own : ℕ) → down_by_end own end ≢ 0 → left_at_end trx end ≡ Some trx
  left_down ends.None own down = absurd (down refl)
  left_down (ends.At cts) own down = absurd (down refl)
  left_down (ends.Unknown cts) own down = refl
  left_down ends.Stopped own down = refl

  -- ---- the bounds

  pub bounds_at_end : (end : CommitEnd) → EndsInPart trx end q r → (work : Work) (answers : List Answer) (sessions : List Session) (number : ℕ) (s next : Session) → slice_get sessions number ≡ Some s → rows_left next ≤ rows_left s
      → Bounds work q answers sessions → (more : List Answer) → Bounds work r (answers ++ more) (slice_set sessions number next)
  bounds_at_end ends.None h work answers sessions number s next found rows was more =
      let made : length r.pages.made ≡ length q.pages.made = ap (λ (l : PagesPart PageView Mtr). length l.made) h.0.pages in
      let drew : length r.trx.drew ≡ length q.trx.drew = ap (λ (t : TrxPart). length t.drew) h.1 in
      bounds_answered work q r h.0.extends answers sessions number s next found was more made (omega (arith, drew)) rows
  bounds_at_end (ends.At cts) h work answers sessions number s next found rows was more =
      let drew : length r.trx.drew ≡ suc (length q.trx.drew) = ap (λ (l : List Draw). length l) h.commits.did.drew in
      bounds_commit work q r h.commits.did.extends answers sessions number s next found was more h.commits.counted (omega (arith, drew)) rows
  bounds_at_end (ends.Unknown cts) h work answers sessions number s next found rows was more =
      let drew : length r.trx.drew ≡ suc (length q.trx.drew) = ap (λ (l : List Draw). length l) h.commits.did.drew in
      bounds_commit work q r h.commits.did.extends answers sessions number s next found was more h.commits.counted (omega (arith, drew)) rows
  bounds_at_end ends.Stopped h work answers sessions number s next found rows was more =
      let made : length r.pages.made ≡ length q.pages.made = ap (λ (l : List (Placed Mtr)). length l) h.made in
      let drew : length r.trx.drew ≡ length q.trx.drew = ap (λ (l : List Draw). length l) h.drew in
      bounds_answered work q r h.extends answers sessions number s next found was more made (omega (arith, drew)) rows

-- ---- the primary

-- What a primary, down with a number (0 where it is up), agrees on with its part besides what it keeps, where its sessions are
-- these and it answers more
pub record HasSidesThen {D : Type 0} (g : Ghosts D) (old now : PrimaryView D) (down : ℕ) (r : CorePart) (sessions : List Session) : Type 0 where
  pub opens : down ≡ 0 → Opens old.work r 0 sessions
  pub sessions_are : AreSessions r sessions
  pub waits : AreWaitsSupported old.work r sessions
  pub mirrors : Mirrors r down now.desk.llsn now.desk.undo
  pub media : HoldsPartOf g old.work down old.number now.media r
  pub bounds : (more : List Answer) → Bounds old.work r (old.book.answers.items ++ more) sessions

module _ {D : Type 0} (g : Ghosts D) (run : Run) (old now : PrimaryView D) (before after : NodeView) (number : ℕ) (trx : Begun) (end : CommitEnd) (stands : StandsWith g run old before) (up : old.down ≡ 0)
    (e : EndsByCommit g run old now before after number trx end) (s : Session) (found : IsSessionOf old number s) (stage : s.stage ≡ Open trx)
    (next : Session) (left : trx_of_stage next.stage ≡ left_at_end trx end) (waits : HasNoNewWait s next) (rows : rows_left next ≤ rows_left s) where
  abbrev q : CorePart
  q = open_part g run old before stands up

  abbrev pub part_then : (r : CorePart) × (part_in after.parts old.number ≡ Some r) × EndsInPart trx end q r
  part_then = let now = e.ended.mine q (open_has g run old before stands up) in (now.0, now.1, now.2)

  abbrev r : CorePart
  r = part_then.0

  abbrev down : ℕ
  down = down_by_end old.number end

  abbrev sessions : List Session
  sessions = slice_set old.book.sessions.items number next

  -- its number isn't 0
  pub not_nobody : old.number ≢ 0
  not_nobody zero = let one = (held_part before old.number stands.desk.part).2.0 in absurd (omega (arith, one, zero))

  numbered : StandAtNumbers old.book.sessions.items
  numbered j x at = (stands.primary.book.each j x at).number_is

  went : CoreExtends q r
  went = went_at_end trx q r end part_then.2

  active : Shows q.trx.rows trx.id Active
  active = is_active g run old before stands up number trx s found stage

  begun : IsIn trx q.trx.begun
  begun = (opened g run old before stands up number trx s found stage).begun

  module _ (was_opens : Opens old.work q 0 old.book.sessions.items) (was_sessions : AreSessions q old.book.sessions.items) (was_waits : AreWaitsSupported old.work q old.book.sessions.items) where
    opens_then : down ≡ 0 → Opens old.work r 0 sessions
    opens_then is = opens_at_end trx q r old.work old.book.sessions.items number s next found numbered stage waits begun active end part_then.2 old.number not_nobody is left was_opens

    sessions_then : AreSessions r sessions
    sessions_then =
        ⊎_elim
        (λ is. (opens_then is).only)
        (λ some.
        sessions_set old.work r old.book.sessions.items number s next found (left ∙ left_down trx q r end old.number some ∙ sym (ap trx_of_stage stage))
        (λ b there opened_now. let was = open_before trx q r end old.number some part_then.2 active b there opened_now in was_sessions b was.0 was.1))
        (up_or_down trx q r old.number not_nobody end)

    waits_then : AreWaitsSupported old.work r sessions
    waits_then =
        waits_set old.work r old.book.sessions.items number s next found
        (its waits)
        (λ x there. waits_kept old.work q r 0 went x (was_waits x there))
      where
        its : HasNoNewWait s next → IfSome (next_line next) (λ line. SupportsWaits old.work r line next.waits.items)
        its (inl none) = waits_ended old.work r next none
        its (inr same) =
            subst (λ (o : Option Line). IfSome o (λ line. SupportsWaits old.work r line next.waits.items)) (sym same.0)
            (subst (λ (l : List TrxName). IfSome (next_line s) (λ line. SupportsWaits old.work r line l)) (sym same.1)
            (waits_kept old.work q r 0 went s (was_waits s (at_place old.book.sessions.items number s found))))

  mirrors_then : Mirrors r down now.desk.llsn now.desk.undo
  mirrors_then =
      let at = e.desk.agrees r part_then.1 in
      record {
        not_below = at.not_below;
        not_above = at.not_above;
        undo_page = at.undo_page;
        idle = λ page. ⊎_elim (λ is. inl ((e.ready is).idle r part_then.1 page)) (λ some. inr some) (up_or_down trx q r old.number not_nobody end);
      }

  pub media_then : HoldsPartOf g old.work down old.number now.media r
  media_then = e.media r part_then.1

  bounds_then : Bounds old.work q old.book.answers.items old.book.sessions.items → (more : List Answer) → Bounds old.work r (old.book.answers.items ++ more) sessions
  bounds_then was more = bounds_at_end trx q r end part_then.2 old.work old.book.answers.items old.book.sessions.items number s next found rows was more

  pub sides_then : (entries : List Entry) → PrimaryAgrees g old entries q → HasSidesThen g old now down r sessions
  sides_then entries was = record {
    opens = opens_then (was.opens up) was.sessions was.waits;
    sessions_are = sessions_then (was.opens up) was.sessions was.waits;
    waits = waits_then (was.opens up) was.sessions was.waits;
    mirrors = mirrors_then;
    media = media_then;
    bounds = bounds_then was.bounds;
  }

  -- the commit record was made after all that the node's parts had made
  pub made_later : (m : TrxMtr) → (trace_at_end trx q r end part_then.2).mtr ≡ Some m → (k : ℕ) (other : CorePart) (x : Placed Mtr) → part_in before.parts k ≡ Some other → IsIn x other.pages.made → x.at < m.at
  made_later m is = by_end end part_then.2 m is
    where
      none_mtr : (m : TrxMtr) → ◌≡◌ {A = Option TrxMtr} None (Some m) → ⊥
      none_mtr m e = cc

      of_commit : (cts : ℕ) (c : CommitsAt trx cts q r) (m : TrxMtr) → Some c.mtr ≡ Some m → (k : ℕ) (other : CorePart) (x : Placed Mtr) → part_in before.parts k ≡ Some other → IsIn x other.pages.made → x.at < m.at
      of_commit cts c m same k other x there made =
          let is : c.mtr ≡ m = cc in
          let late : x.at < c.mtr.at =
          ⊎_elim
          (λ old_one.
          let y = placed_of q.pages.made c.mtr old_one in
          let above = c.did.later.above_made y.0 y.1 in
          let at = y.2 in
          absurd (omega (arith, above, at)))
          (λ new. new k other x there made)
          (e.later q r (open_has g run old before stands up) part_then.1 c.mtr c.recorded.was_made) in
          subst (λ (y : TrxMtr). x.at < y.at) is late

      by_end : (end : CommitEnd) (h : EndsInPart trx end q r) (m : TrxMtr) → (trace_at_end trx q r end h).mtr ≡ Some m → (k : ℕ) (other : CorePart) (x : Placed Mtr) → part_in before.parts k ≡ Some other → IsIn x other.pages.made → x.at < m.at
      by_end ends.None h m e = absurd (none_mtr m e)
      by_end (ends.At cts) h m e = of_commit cts h.commits m e
      by_end (ends.Unknown cts) h m e = of_commit cts h.commits m e
      by_end ends.Stopped h m e = absurd (none_mtr m e)
