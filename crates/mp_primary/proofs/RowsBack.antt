-- A primary agrees with its part still, where rows of a session's transaction were put back and counted.
use Rattle.std.proofs.Common.{◌≡◌, ◌≢◌, ℕ, ◌+◌, ◌≤◌, ◌⊎◌, false, List, [], ◌∷◌, ◌++◌, length, drop, slice_get, slice_set, Option, None, Some, IfSome, refl, sym, ap, subst, ◌∙◌, inl, inr, ⊎_elim, arith, length-append}
use Rattle.std.proofs.lemmas.List.{length-drop}
use Rattle.std.proofs.lemmas.Option.{slice_get_within}
use Rattle.mp_machine.specs.Lists.{IsIn}
use Rattle.mp_machine.specs.View.{part_in}
use Rattle.mp_model.specs.Listed.{Listed}
use Rattle.mp_model.specs.declared.ids.TrxId.{TrxId}
use Rattle.mp_model.specs.declared.ids.TrxName.{TrxName}
use Rattle.mp_model.specs.declared.replies.Answer.{Answer}
use Rattle.mp_script.specs.declared.statements.Line.{Line}
use Rattle.mp_script.specs.declared.statements.SessionOn.{SessionOn}
use Rattle.mp_script.specs.Transactions.{trx_in_lines}
use Rattle.mp_cells.specs.declared.records.Mtr.{Mtr}
use Rattle.mp_cells.specs.declared.rows.Row.{Row}
use Rattle.mp_core_trx.specs.declared.opening.TrxOpening.{TrxOpening}
use Rattle.mp_core_trx.specs.declared.part.Begun.{Begun}
use Rattle.mp_core_trx.specs.declared.part.Draw.{Draw}
use Rattle.mp_core_trx.specs.declared.part.SlotRow.{SlotRow}
use Rattle.mp_core_trx.specs.declared.slot.SlotTag.TheVariants.{Active, Prep}
use Rattle.mp_core_trx.specs.Parts.{HasBegun, IsOpen, Shows}
use Rattle.mp_core_pages.specs.declared.page_lock.Held.TheVariants.{No}
use Rattle.mp_core_pages.specs.declared.part.Placed.{Placed}
use Rattle.mp_core_pages.specs.PageParts.{held_at}
use Rattle.mp_core.specs.declared.part.CorePart.{CorePart}
use Rattle.mp_core.specs.OwnMtrs.{trx_mtrs}
use Rattle.mp_book.specs.declared.book.Book.{Book}
use Rattle.mp_book.specs.declared.session.Session.{Session}
use Rattle.mp_book.specs.declared.stage.Stage.{Stage}
use Rattle.mp_book.specs.declared.stage.Stage.TheVariants.{Closed, Open, Refused, Leaving, Skipping, Outside}
use Rattle.mp_book.specs.Stages.{next_line, trx_of_stage}
use Rattle.mp_book.specs.Answered.{execution_above}
use Rattle.mp_book.specs.Books.{TrxStands, StageStands, SessionStands, SetsSession, IsGoingBack}
use Rattle.mp_book.proofs.Changes.{book_set}
use Rattle.mp_outside.specs.declared.disks.Disk.{Ghosts}
use Rattle.mp_outside.specs.Faults.{Rose}
use Rattle.mp_shared.specs.Nodes.{Run, NodeView}
use Rattle.mp_shared.proofs.Holding.{held_part}
use Rattle.mp_buffer_fusion.proofs.Kept.{set_here, set_else}
use Rattle.mp_buffer_fusion.proofs.Visiting.{one_part}
use Rattle.mp_supports.specs.Work.{Work, name_of}
use Rattle.mp_supports.specs.Supports.{no_trace, SupportsWaits}
use Rattle.mp_supports.specs.Kept.{Entry, Did}
use Rattle.mp_supports.specs.Agreement.{IsOpenAs, RefusalSupported, Opens, StandAtNumbers, Bounds, rows_left, rows_left_by}
use Rattle.mp_supports.proofs.Extending.{begun_in}
use Rattle.mp_supports.proofs.Keeping.{kept_quiet}
use Rattle.mp_supports.proofs.Places.{in_set, set_in, still_in, at_place, sum_set}
use Rattle.mp_supports.proofs.Unchanged.{refusal_kept, waits_kept}
use Rattle.mp_desk.specs.declared.desk.Desk.{Desk}
use Rattle.mp_desk.specs.declared.media.Media.{Media}
use Rattle.mp_desk.specs.Desks.{Moves, IsAtDesk}
use Rattle.mp_desk.specs.Making.{IsOpenLog, MediaAgree}
use Rattle.mp_desk.specs.Writes.{PutsBackRows}
use Rattle.mp_desk.proofs.Moving.{moves_as}
use Rattle.mp_primary.specs.Primaries.{PrimaryView, IsBetweenTurns, PrimaryAgreesIn, PrimaryAgrees, StandsWith}
use Rattle.mp_primary.specs.GoingOn.{GoesBackOf, GoesOnQuietly}
use Rattle.mp_primary.proofs.OpenSessions.{one_of}

some_is : {T : Type 0} (x y : T) → Some x ≡ Some y → x ≡ y
some_is x y e = cc

-- ---- the session

-- so many of its rows are put back
module _ (lines : List Line) (sessions : List SessionOn) (primary : ℕ) (answers : List Answer) (number : ℕ) (s : Session) (h : SessionStands lines sessions primary answers number s) (k : ℕ) where
  trx_counted : (trx : Begun) → TrxStands (execution_above lines sessions answers) number s trx → TrxStands (execution_above lines sessions answers) number (record s { restored = k }) trx
  trx_counted trx t = record { began = t.began; unrefused = t.unrefused; wrote = t.wrote; once = t.once; next_fits = t.next_fits }

  stage_counted : (stage : Stage) → IsGoingBack stage → StageStands (execution_above lines sessions answers) primary number s stage → StageStands (execution_above lines sessions answers) primary number (record s { restored = k }) stage
  stage_counted Closed back t = absurd back
  stage_counted (Open trx) back t = absurd back
  stage_counted (Refused trx refusal) back t = (trx_counted trx t.0, t.1)
  stage_counted (Leaving trx) back t = (trx_counted trx t.0, t.1)
  stage_counted Skipping back t = absurd back
  stage_counted (Outside trx) back t = t

  counted_session : IsGoingBack s.stage → k ≤ length s.formers.items → SessionStands lines sessions primary answers number (record s { restored = k })
  counted_session back within = record {
    number_is = h.number_is;
    lines_are = h.lines_are;
    next = h.next;
    within = h.within;
    unanswered = h.unanswered;
    restored = within;
    waits = h.waits;
    stage = λ calm. stage_counted s.stage back (h.stage calm);
  }

-- ---- the part

nothing_more : {T : Type 0} (more old : List T) → length more + length old ≡ length old → more ++ old ≡ old
nothing_more [] old e = refl
nothing_more (x ∷ more) old e = absurd (omega (arith, e))

module _ (work : Work) (q r : CorePart) (sessions : List Session) (number : ℕ) (s : Session) (trx : Begun) (k : ℕ)
    (found : slice_get sessions number ≡ Some s) (is : trx_of_stage s.stage ≡ Some trx) (rows : PutsBackRows trx.id s.formers.items s.restored k q r) where
  abbrev after : Session
  after = record s { restored = k }

  shows_on : {Down : Type 0} (b : Begun) → Shows q.trx.rows b.id Active ⊎ Down → Shows r.trx.rows b.id Active ⊎ Down
  shows_on b (inl active) = inl (subst (λ (l : List SlotRow). Shows l b.id Active) (sym rows.rows) active)
  shows_on b (inr down) = inr down

  -- where none is put back, no mtr was made
  made_none : k ≡ 0 → r.pages.made ≡ q.pages.made
  made_none none =
      let more = rows.did.extends.pages.more_made in
      let counted = rows.counted in
      let upto = rows.more in
      let both : length r.pages.made ≡ length (more.0 ++ q.pages.made) = ap (λ (l : List (Placed Mtr)). length l) more.1 in
      let sum : length (more.0 ++ q.pages.made) ≡ length more.0 + length q.pages.made = length-append more.0 q.pages.made in
      more.1 ∙ nothing_more more.0 q.pages.made (omega (arith, none, counted, upto, both, sum))

  module _ (numbered : StandAtNumbers sessions) (h : Opens work q 0 sessions) where
    its_open : IsOpenAs work q 0 s trx
    its_open = subst (λ (o : Option Begun). IfSome o (IsOpenAs work q 0 s)) is (h.each s (at_place sessions number s found))

    -- another session has another transaction
    apart : (j : ℕ) (x : Session) (b : Begun) → j ≢ number → slice_get sessions j ≡ Some x → IsOpenAs work q 0 x b → b.id ≢ trx.id
    apart j x b ne at opened same =
        let names : Some (trx_in_lines work.lines x.number x.next) ≡ Some (trx_in_lines work.lines s.number s.next) = sym opened.named ∙ ap (name_of work) same ∙ its_open.named in
        let numbers : x.number ≡ s.number = ap (λ (n : TrxName). n.session) (some_is (trx_in_lines work.lines x.number x.next) (trx_in_lines work.lines s.number s.next) names) in
        ne (sym (numbered j x at) ∙ numbers ∙ numbered number s found)

    other_open : (j : ℕ) (x : Session) (b : Begun) → j ≢ number → slice_get sessions j ≡ Some x → IsOpenAs work q 0 x b → IsOpenAs work r 0 x b
    other_open j x b ne at opened = record {
      begun = begun_in q r rows.did.extends b opened.begun;
      named = opened.named;
      active = shows_on b opened.active;
      formers = λ key. rows.others b.id (apart j x b ne at opened) key ∙ opened.formers key;
      whole = λ none m there of. ⊎_elim (λ old. opened.whole none m old of) (λ its. absurd (apart j x b ne at opened (some_is b.id trx.id (sym of ∙ its)))) (rows.its m there);
    }

    own_open : IsOpenAs work r 0 after trx
    own_open = record {
      begun = begun_in q r rows.did.extends trx its_open.begun;
      named = its_open.named;
      active = shows_on trx its_open.active;
      formers = rows.left;
      whole = λ none m there of. its_open.whole (let upto = rows.more in omega (arith, none, upto)) m (subst (λ (l : List (Placed Mtr)). IsIn m (trx_mtrs l)) (made_none none) there) of;
    }

    each_open : (x : Session) → IsIn x (slice_set sessions number after) → IfSome (trx_of_stage x.stage) (IsOpenAs work r 0 x)
    each_open x there = elim (in_set sessions number after x there) [
      | inl same ↦ subst (λ (v : Session). IfSome (trx_of_stage v.stage) (IsOpenAs work r 0 v)) (sym same) (subst (λ (o : Option Begun). IfSome o (IsOpenAs work r 0 after)) (sym is) own_open)
      | inr at ↦ by_trx at.0 at.1 at.2 (trx_of_stage x.stage) (h.each x (at_place sessions at.0 x at.2))
    ]
      where
        by_trx : (j : ℕ) → j ≢ number → slice_get sessions j ≡ Some x → (o : Option Begun) → IfSome o (IsOpenAs work q 0 x) → IfSome o (IsOpenAs work r 0 x)
        by_trx j ne at None opened = tt
        by_trx j ne at (Some b) opened = other_open j x b ne at opened

    was_open : (b : Begun) → IsOpen r.trx b.id → IsOpen q.trx b.id
    was_open b opened = (subst (λ (l : List Begun). HasBegun l b.id) rows.begun opened.0, subst (λ (l : List SlotRow). Shows l b.id Active ⊎ Shows l b.id Prep) rows.rows opened.1)

    only_open : (b : Begun) → IsIn b r.trx.begun → IsOpen r.trx b.id → (x : Session) × IsIn x (slice_set sessions number after) × (trx_of_stage x.stage ≡ Some b)
    only_open b there opened =
        let x = h.only b (subst (λ (l : List Begun). IsIn b l) rows.begun there) (was_open b opened) in
        elim (still_in sessions number after x.0 x.1) [
          | inl still ↦ (x.0, still, x.2)
          | inr at ↦ (after, set_in sessions number s after found, ap (λ (v : Session). trx_of_stage v.stage) (one_of (slice_get sessions number) x.0 s at found) ∙ x.2)
        ]

    pub opens_back : Opens work r 0 (slice_set sessions number after)
    opens_back = record {
      each = each_open;
      only = only_open;
      waits = λ x there. elim (in_set sessions number after x there) [
        | inl same ↦ subst (λ (v : Session). IfSome (next_line v) (λ line. SupportsWaits work r line v.waits.items)) (sym same) (waits_kept work q r 0 rows.did.extends s (h.waits s (at_place sessions number s found)))
        | inr at ↦ waits_kept work q r 0 rows.did.extends x (h.waits x (at_place sessions at.0 x at.2))
      ];
      refused = λ x there. elim (in_set sessions number after x there) [
        | inl same ↦ subst (λ (v : Session). RefusalSupported work r 0 v.stage (next_line v)) (sym same) (refusal_kept work q r 0 rows.did.extends s.stage (next_line s) (h.refused s (at_place sessions number s found)))
        | inr at ↦ refusal_kept work q r 0 rows.did.extends x.stage (next_line x) (h.refused x (at_place sessions at.0 x at.2))
      ];
    }

  pub bounds_back : (answers : List Answer) → Bounds work q answers sessions → Bounds work r answers (slice_set sessions number after)
  bounds_back answers h = record {
    base = ap (λ (o : TrxOpening). o.base) rows.did.extends.trx.same_opening ∙ h.base;
    begins = let same = ap (λ (o : TrxOpening). o.begins) rows.did.extends.trx.same_opening in let few = h.begins in omega (arith, same, few);
    few = h.few;
    mtrs =
        let sum = sum_set rows_left sessions number after s found in
        let left : rows_left s ≡ length (drop s.restored s.formers.items) = ap (λ (o : Option Begun). rows_left_by o s) is in
        let then_left : rows_left after ≡ length (drop k s.formers.items) = ap (λ (o : Option Begun). rows_left_by o after) is in
        let one = length-drop s.restored s.formers.items in
        let two = length-drop k s.formers.items in
        let draws : length r.trx.drew ≡ length q.trx.drew = ap (λ (l : List Draw). length l) rows.did.drew in
        let counted = rows.counted in
        let upto = rows.more in
        let within = rows.within in
        let old = h.mtrs in
        omega (arith, sum, left, then_left, one, two, draws, counted, upto, within, old);
  }

-- ---- the primary

rows_did : (id : TrxId) (formers : List Row) (from upto : ℕ) (q r : CorePart) → PutsBackRows id formers from upto q r → Did q r no_trace
rows_did id formers from upto q r h = h.did

module _ {D : Type 0} (g : Ghosts D) (run : Run) (old : PrimaryView D) (before n : NodeView) (number : ℕ) (s : Session) (trx : Begun) (stands : StandsWith g run old before) (up : old.down ≡ 0) (back : GoesBackOf old number s trx)
    (k : ℕ) (book : Book) (desk : Desk) (media : Media D) (down : ℕ) (sets : SetsSession old.book book number (record s { restored = k })) (at : IsAtDesk run desk old.number n) (own : desk.mtr.node ≡ old.number)
    (rows : Moves (PutsBackRows trx.id s.formers.items s.restored k) old.number before n) (agree : MediaAgree g old.work down media old.number n)
    (log_open : down ≡ 0 → IsOpenLog old.number desk.llsn media.log × (desk.pool ≡ []) × (media.unforced ≡ false) × ((r : CorePart) → part_in n.parts old.number ≡ Some r → (page : ℕ) → held_at r.pages.locks page ≡ No))
    (fell : (down ≡ 0) ⊎ ((down ≡ old.number) × (down ≢ 0) × Rose (g.faults old.media.log.disk) (g.faults media.log.disk))) (faults : g.faults old.media.log.disk ≤ g.faults media.log.disk) (tells : g.tells media.log.disk ≡ g.tells old.media.log.disk) where
  abbrev new : PrimaryView D
  new = record old { book = book; desk = desk; media = media; down = down }

  numbered : StandAtNumbers old.book.sessions.items
  numbered j x there = (stands.primary.book.each j x there).number_is

  abbrev q : CorePart
  q = (held_part before old.number stands.desk.part).0

  has : part_in before.parts old.number ≡ Some q
  has = (held_part before old.number stands.desk.part).1

  within : k ≤ length s.formers.items
  within = let now = rows.mine q has in now.2.within

  primary : IsBetweenTurns new
  primary = record {
    book = book_set old.work.lines old.work.sessions old.number old.book book number (record s { restored = k }) stands.primary.book sets
        (counted_session old.work.lines old.work.sessions old.number old.book.answers.items number s (stands.primary.book.each number s back.found) k back.back within);
    names = stands.primary.names;
    places = stands.primary.places;
    own = own;
    up = λ z. let o = log_open z in (o.0, o.1, o.2);
  }

  agrees : (entries : List Entry) (r : CorePart) → PrimaryAgrees g old entries q → part_in n.parts old.number ≡ Some r → PutsBackRows trx.id s.formers.items s.restored k q r → PrimaryAgrees g new entries r
  agrees entries r was there puts =
      let opens : Opens old.work r 0 book.sessions.items = subst (Opens old.work r 0) (sym sets.sessions) (opens_back old.work q r old.book.sessions.items number s trx k back.found back.trx_is puts numbered (was.opens up)) in
      let so = at.agrees r there in
      record {
        kept = kept_quiet old.work q r old.down down entries (inl up) was.kept puts.did;
        answers = was.answers ∙ sym (ap (λ (l : Listed Answer). l.items) sets.answers);
        opens = λ z. opens;
        sessions = opens.only;
        waits = opens.waits;
        mirrors = record {
          not_below = so.not_below;
          not_above = so.not_above;
          undo_page = so.undo_page;
          idle = λ page. ⊎_elim (λ z. inl ((log_open z).3 r there page)) (λ f. inr f.1) fell;
        };
        media = agree r there;
        bounds = subst (λ (l : List Session). Bounds old.work r book.answers.items l) (sym sets.sessions)
            (subst (λ (l : List Answer). Bounds old.work r l (slice_set old.book.sessions.items number (record s { restored = k }))) (sym (ap (λ (l : Listed Answer). l.items) sets.answers))
            (bounds_back old.work q r old.book.sessions.items number s trx k back.found back.trx_is puts old.book.answers.items was.bounds));
        exact = ap (λ (o : TrxOpening). o.begins) puts.did.extends.trx.same_opening ∙ was.exact;
        begun = was.begun;
      }

  agrees_in : (entries : List Entry) → PrimaryAgreesIn g old entries before → PrimaryAgreesIn g new entries n
  agrees_in entries agreed r there =
      let now = rows.mine q has in
      agrees entries r (agreed q has) there (subst (λ (x : CorePart). PutsBackRows trx.id s.formers.items s.restored k q x) (one_part (part_in n.parts old.number) now.0 r now.1 there) now.2)

  pub back_quietly : GoesOnQuietly g run old new before n number
  back_quietly = record {
    stands = record { primary = primary; desk = at; agrees = (stands.agrees.0, agrees_in stands.agrees.0 stands.agrees.1) };
    number = refl;
    work = refl;
    did = moves_as old.number (PutsBackRows trx.id s.formers.items s.restored k) (λ x y. Did x y no_trace) (rows_did trx.id s.formers.items s.restored k) before n rows;
    goes_on = agrees_in;
    answers = sets.answers;
    others = λ other ne. ap (λ (l : List Session). slice_get l other) sets.sessions ∙ set_else old.book.sessions.items number other (record s { restored = k }) ne;
    same = λ x there.
        let same : x ≡ s = one_of (slice_get old.book.sessions.items number) s x back.found there in (
          record s { restored = k },
          ap (λ (l : List Session). slice_get l number) sets.sessions ∙ set_here old.book.sessions.items number (record s { restored = k }) (slice_get_within old.book.sessions.items number s back.found),
          ap (λ (v : Session). next_line v) (sym same),
          ap (λ (v : Session). v.waits.items) (sym same),
        );
    down = ⊎_elim (λ z. inl (z ∙ sym up)) (λ f. inr (up, f.0, f.2)) fell;
    faults = faults;
    tells = tells;
  }
