-- A call outside a turn that committed a session's transaction, or told why it couldn't.
use Rattle.std.proofs.Common.{◌≡◌, ◌≢◌, ℕ, ◌<◌, ◌≤◌, ◌⊎◌, List, [], ◌∷◌, ◌++◌, slice_get, slice_set, reverse, Option, None, Some, refl, sym, ap, subst, ◌∙◌, inl, inr, ⊎_elim, arith, append-nil}
use Rattle.std.proofs.lemmas.Option.{slice_get_within}
use Rattle.mp_machine.specs.Lists.{IsIn}
use Rattle.mp_machine.specs.View.{part_in}
use Rattle.mp_model.specs.declared.replies.Answer.{Answer}
use Rattle.mp_script.specs.declared.statements.Line.{Line}
use Rattle.mp_script.specs.declared.statements.SessionOn.{SessionOn}
use Rattle.mp_script.proofs.Ordered.{in_either, in_reverse, from_filter, all_in, in_map}
use Rattle.mp_cells.specs.declared.records.Mtr.{Mtr}
use Rattle.mp_core_trx.specs.declared.opening.TrxOpening.{TrxOpening}
use Rattle.mp_core_trx.specs.declared.part.Begun.{Begun}
use Rattle.mp_core_pages.specs.declared.part.Placed.{Placed}
use Rattle.mp_core.specs.declared.part.CorePart.{CorePart}
use Rattle.mp_core.specs.CoreExtends.{durable_of, CoreExtends}
use Rattle.mp_book.specs.declared.book.Book.{Book}
use Rattle.mp_book.specs.declared.session.Session.{Session}
use Rattle.mp_book.specs.declared.stage.Stage.TheVariants.{Open, Outside}
use Rattle.mp_book.specs.Stages.{trx_of_stage}
use Rattle.mp_book.specs.Books.{IsBook, SetsSession}
use Rattle.mp_log.specs.Logs.{mtrs_of}
use Rattle.mp_outside.specs.declared.disks.Disk.{Ghosts}
use Rattle.mp_outside.specs.Faults.{Rose}
use Rattle.mp_shared.specs.Nodes.{Run, NodeView}
use Rattle.mp_buffer_fusion.proofs.Kept.{set_here, set_else}
use Rattle.mp_buffer_fusion.proofs.Visiting.{one_part}
use Rattle.mp_supports.specs.Supports.{Trace}
use Rattle.mp_supports.specs.Kept.{Entry, answers_in}
use Rattle.mp_supports.specs.Agreement.{Opens, Bounds, HasNoNewWait, rows_left}
use Rattle.mp_supports.specs.Media.{mtrs_in_order, above_base}
use Rattle.mp_supports.proofs.Extending.{placed_of}
use Rattle.mp_supports.proofs.Keeping.{kept_more}
use Rattle.mp_desk.specs.Making.{HoldsPartOf}
use Rattle.mp_desk.specs.Writes.{IsPublished}
use Rattle.mp_desk.proofs.Moving.{moves_as}
use Rattle.mp_primary.specs.declared.outside.CommitEnd.{CommitEnd}
use Rattle.mp_primary.specs.declared.outside.CommitEnd.TheVariants as ends
use Rattle.mp_primary.specs.Primaries.{PrimaryView, IsBetweenTurns, AreSessions, AreWaitsSupported, PrimaryAgreesIn, PrimaryAgrees, StandsWith}
use Rattle.mp_primary.specs.Turns.{IsSessionOf}
use Rattle.mp_primary.specs.OutsideCalls.{HasOpen, StandsOutside, IsOnEachImage, EndsAs}
use Rattle.mp_primary.specs.OutsideTries.{TriesOutside}
use Rattle.mp_primary.specs.Commits.{EndsInPart, down_by_end, left_at_end, EndsByCommit}
use Rattle.mp_primary.proofs.BegunByAnswers.{begun_one}
use Rattle.mp_primary.proofs.OpenSessions.{one_of}
use Rattle.mp_primary.proofs.OpenTrx.{open_part, open_has}
use Rattle.mp_primary.proofs.CommitSides.{trace_at_end, began_nothing, did_at_end, went_at_end, not_nobody, part_then, sides_then, media_then}
use Rattle.mp_primary.proofs.CommittedTurns.{rows_no_more}

-- an entry of a call that answered nothing
abbrev silent_entry : Trace → Entry
silent_entry trace = record { answer = None; trace = trace }

no_answer_more : (entries : List Entry) (trace : Trace) → answers_in (entries ++ silent_entry trace ∷ []) ≡ answers_in entries
no_answer_more [] trace = refl
no_answer_more (e ∷ entries) trace = go e.answer refl (no_answer_more entries trace)
  where
    go : (o : Option Answer) → e.answer ≡ o → answers_in (entries ++ silent_entry trace ∷ []) ≡ answers_in entries → answers_in (e ∷ entries ++ silent_entry trace ∷ []) ≡ answers_in (e ∷ entries)
    go None is rest = rw is rest
    go (Some a) is rest = rw is (ap (λ (l : List Answer). a ∷ l) rest)

-- ---- what is durable is on each image

module _ {D : Type 0} (g : Ghosts D) (now : PrimaryView D) (q r : CorePart) (trx : Begun) (cts : ℕ) (h : IsPublished trx cts q r) (holds : HoldsPartOf g now.work 0 now.number now.media r) where
  abbrev m : Mtr
  m = h.commits.mtr.mtr

  in_order : IsIn m (mtrs_in_order r)
  in_order =
      let x = placed_of r.pages.made h.commits.mtr h.commits.recorded.was_made in
      subst (λ (y : Mtr). IsIn y (mtrs_in_order r)) x.3 (in_map (λ (p : Placed Mtr). p.mtr) x.0 (reverse r.pages.made) (in_reverse x.0 r.pages.made x.1))

  pub on_each_image : IsOnEachImage g now trx.id cts
  on_each_image tells c image =
      let on = holds.on_disk.images tells c image in
      let there = in_either m (above_base now.work on.batches) on.later (subst (λ (l : List Mtr). IsIn m l) on.front in_order) in (
        on.batches,
        on.text,
        (
          m,
          ⊎_elim
              (λ above. from_filter _ m (mtrs_of on.batches) above)
              (λ later. let over = all_in (λ (y : Mtr). durable_of r < y.llsn) m on.later on.covers later in let durable = h.durable in absurd (omega (arith, over, durable)))
              there,
          h.commits.recorded.commit,
        ),
      )

-- ---- the call

module _ {D : Type 0} (g : Ghosts D) (run : Run) (old now : PrimaryView D) (book : Book) (before after : NodeView) (number : ℕ) (trx : Begun) (end : CommitEnd) (stands : StandsWith g run old before) (up : old.down ≡ 0)
    (e : EndsByCommit g run old now before after number trx end) (s : Session) (found : IsSessionOf old number s) (stage : s.stage ≡ Open trx)
    (sets : SetsSession old.book book number (record s { stage = Outside (left_at_end trx end) })) (books : IsBook old.work.lines old.work.sessions old.number book) where
  abbrev next : Session
  next = record s { stage = Outside (left_at_end trx end) }

  abbrev down : ℕ
  down = down_by_end old.number end

  abbrev new : PrimaryView D
  new = record old { book = book; desk = now.desk; media = now.media; down = down }

  abbrev q : CorePart
  q = open_part g run old before stands up

  abbrev has : part_in before.parts old.number ≡ Some q
  has = open_has g run old before stands up

  waits : HasNoNewWait s next
  waits = inr (refl, refl)

  rows : rows_left next ≤ rows_left s
  rows = rows_no_more s next trx (left_at_end trx end) (ap trx_of_stage stage) refl refl refl

  abbrev then : (x : CorePart) × (part_in after.parts old.number ≡ Some x) × EndsInPart trx end q x
  then = part_then g run old now before after number trx end stands up e s found stage next refl waits rows

  abbrev r : CorePart
  r = then.0

  some : old.number ≢ 0
  some = not_nobody g run old now before after number trx end stands up e s found stage next refl waits rows

  abbrev trace : Trace
  trace = trace_at_end trx q r end then.2

  answers_same : book.answers.items ≡ old.book.answers.items
  answers_same = λ i. (sets.answers i).items

  agrees_then : (entries : List Entry) → PrimaryAgrees g old entries q → PrimaryAgrees g new (entries ++ silent_entry trace ∷ []) r
  agrees_then entries was =
      let did = did_at_end trx q r end then.2 in
      let so = sides_then g run old now before after number trx end stands up e s found stage next refl waits rows entries was in
      record {
        kept = kept_more old.work q r old.down down entries (inl up) was.kept (silent_entry trace) did (record { supported = tt; in_doubt = tt; up = λ still. tt });
        answers = no_answer_more entries trace ∙ was.answers ∙ sym answers_same;
        opens = λ still. subst (λ (l : List Session). Opens old.work r 0 l) (sym sets.sessions) (so.opens still);
        sessions = subst (AreSessions r) (sym sets.sessions) so.sessions_are;
        waits = subst (AreWaitsSupported old.work r) (sym sets.sessions) so.waits;
        mirrors = so.mirrors;
        media = so.media;
        bounds = subst (λ (l : List Session). Bounds old.work r book.answers.items l) (sym sets.sessions)
            (subst (λ (l : List Answer). Bounds old.work r l (slice_set old.book.sessions.items number next)) (append-nil old.book.answers.items ∙ sym answers_same)
            (so.bounds []));
        exact = ap (λ (o : TrxOpening). o.begins) did.extends.trx.same_opening ∙ was.exact;
        begun = begun_one entries (silent_entry trace) was.begun (λ none. began_nothing trx q r end then.2);
      }

  goes : (entries : List Entry) → PrimaryAgreesIn g old entries before → PrimaryAgreesIn g new (entries ++ silent_entry trace ∷ []) after
  goes entries agrees x there = subst (PrimaryAgrees g new (entries ++ silent_entry trace ∷ [])) (one_part (part_in after.parts old.number) r x then.1 there) (agrees_then entries (agrees q has))

  primary : IsBetweenTurns new
  primary = record {
    book = books;
    names = stands.primary.names;
    places = stands.primary.places;
    own = e.own;
    up = λ still. let ready = e.ready still in (ready.log, ready.empty, ready.forced);
  }

  pub calls_outside : TriesOutside g run old new before after number
  calls_outside = record {
    stands = record { primary = primary; desk = e.desk; agrees = (stands.agrees.0 ++ silent_entry trace ∷ [], goes stands.agrees.0 stands.agrees.1) };
    number = refl;
    work = refl;
    answers = answers_same;
    went = moves_as old.number (EndsInPart trx end) CoreExtends (λ x y h. went_at_end trx x y end h) before after e.ended;
    goes_on = λ entries agrees. (silent_entry trace ∷ [], (refl, tt), goes entries agrees);
    others = λ other ne. ap (λ (l : List Session). slice_get l other) sets.sessions ∙ set_else old.book.sessions.items number other next (λ same. ne (sym same));
    down = fell end e.rose;
    faults = e.faults;
    tells = e.tells;
  }
    where
      fell : (to : CommitEnd) → (down_by_end old.number to ≡ 0) ⊎ Rose (g.faults old.media.log.disk) (g.faults now.media.log.disk)
          → (down_by_end old.number to ≡ 0) ⊎ ((down_by_end old.number to ≡ old.number) × Rose (g.faults old.media.log.disk) (g.faults now.media.log.disk))
      fell ends.None rose = inl refl
      fell (ends.At cts) rose = inl refl
      fell (ends.Unknown cts) rose = ⊎_elim (λ zero. absurd (some zero)) (λ more. inr (refl, more)) rose
      fell ends.Stopped rose = ⊎_elim (λ zero. absurd (some zero)) (λ more. inr (refl, more)) rose

  here : slice_get book.sessions.items number ≡ Some next
  here = ap (λ (l : List Session). slice_get l number) sets.sessions ∙ set_here old.book.sessions.items number next (slice_get_within old.book.sessions.items number s found)

  pub ends_as : EndsAs g old new number trx end
  ends_as = go end refl then.2 (media_then g run old now before after number trx end stands up e s found stage next refl waits rows) e.rose (next, here, refl)
    where
      go : (to : CommitEnd) → end ≡ to → EndsInPart trx to q r → HoldsPartOf g old.work (down_by_end old.number to) old.number now.media r
          → (down_by_end old.number to ≡ 0) ⊎ Rose (g.faults old.media.log.disk) (g.faults now.media.log.disk) → StandsOutside new number (left_at_end trx to) → EndsAs g old new number trx to
      go ends.None is h media rose outside = (ap (down_by_end old.number) is, outside)
      go (ends.At cts) is h media rose outside = (ap (down_by_end old.number) is, outside, on_each_image g new q r trx cts h media)
      go (ends.Unknown cts) is h media rose outside = ⊎_elim (λ zero. absurd (some zero)) (λ up_it. (ap (down_by_end old.number) is, up_it)) rose
      go ends.Stopped is h media rose outside = ⊎_elim (λ zero. absurd (some zero)) (λ up_it. (ap (down_by_end old.number) is, up_it)) rose

-- the same, of what a method sees
module _ {D : Type 0} (g : Ghosts D) (run : Run) (old now : PrimaryView D) (book : Book) (before after : NodeView) (number : ℕ) (trx : Begun) (end : CommitEnd) (left : Option Begun) (stands : StandsWith g run old before) (up : old.down ≡ 0)
    (e : EndsByCommit g run old now before after number trx end) (has : HasOpen old number trx) (is_left : left ≡ left_at_end trx end)
    (sets : (s : Session) → slice_get now.book.sessions.items number ≡ Some s → SetsSession now.book book number (record s { stage = Outside left }))
    (books : (lines : List Line) (sessions : List SessionOn) (primary : ℕ) → IsBook lines sessions primary now.book → IsBook lines sessions primary book) where
  abbrev s : Session
  s = has.0

  old_book : now.book ≡ old.book
  old_book = ap (λ (v : PrimaryView D). v.book) e.rest

  set_old : SetsSession old.book book number (record s { stage = Outside (left_at_end trx end) })
  set_old =
      let found_now = subst (λ (b : Book). slice_get b.sessions.items number ≡ Some s) (sym old_book) has.1 in
      subst (λ (o : Option Begun). SetsSession old.book book number (record s { stage = Outside o })) is_left
      (subst (λ (b : Book). SetsSession b book number (record s { stage = Outside left })) old_book (sets s found_now))

  book_old : IsBook old.work.lines old.work.sessions old.number book
  book_old = books old.work.lines old.work.sessions old.number (subst (IsBook old.work.lines old.work.sessions old.number) (sym old_book) stands.primary.book)

  pub calls_outside_inside : TriesOutside g run old (record now { book = book }) before after number
  calls_outside_inside =
      subst (λ (v : PrimaryView D). TriesOutside g run old (record v { book = book }) before after number) (sym e.rest)
      (calls_outside g run old now book before after number trx end stands up e s has.1 has.2 set_old book_old)

  -- the session has one open transaction
  one_open : (other : Begun) → HasOpen old number other → trx ≡ other
  one_open other there =
      let same = one_of (slice_get old.book.sessions.items number) there.0 s there.1 has.1 in
      let both : Open trx ≡ Open other = sym has.2 ∙ ap (λ (x : Session). x.stage) same ∙ there.2 in
      cc

  pub ends_as_inside : (other : Begun) → HasOpen old number other → EndsAs g old (record now { book = book }) number other end
  ends_as_inside other there =
      subst (λ (t : Begun). EndsAs g old (record now { book = book }) number t end) (one_open other there)
      (subst (λ (v : PrimaryView D). EndsAs g old (record v { book = book }) number trx end) (sym e.rest)
      (ends_as g run old now book before after number trx end stands up e s has.1 has.2 set_old book_old))
