-- How a turn ends that took steps: its statement is answered, or waits, and the primary is up; or it went down in the turn.
use Rattle.std.proofs.Common.{◌≡◌, ◌≢◌, ℕ, ◌+◌, ◌<◌, true, false, List, [], ◌∷◌, ◌++◌, length, slice_get, Option, None, Some, IfSome, refl, sym, ap, subst, ◌∙◌, inl, inr}
use Rattle.std.proofs.lemmas.List.{append-nil}
use Rattle.std.proofs.lemmas.Option.{slice_get_within}
use Rattle.mp_machine.specs.Lists.{IsIn}
use Rattle.mp_machine.specs.View.{part_in}
use Rattle.mp_model.specs.declared.replies.Answer.{Answer}
use Rattle.mp_model.specs.Listed.{Listed}
use Rattle.mp_model.specs.declared.replies.Reply.{Reply}
use Rattle.mp_model.specs.declared.replies.Reply.TheVariants.{Began, Got, Scanned, Wrote, Committed, CommittedNone, Unknown, RolledBack, Conflict, Held, Full, Skipped, Stopped}
use Rattle.mp_model.specs.declared.waiting.Cause.{Cause}
use Rattle.mp_model.specs.declared.waiting.Turn.TheVariants as turns
use Rattle.mp_script.specs.declared.statements.Line.{Line}
use Rattle.mp_script.specs.BeginNames.{begin_names}
use Rattle.mp_script.specs.Execution.{line_at}
use Rattle.mp_script.specs.Transactions.{cts_of}
use Rattle.mp_script.specs.WentDown.{shows_down}
use Rattle.mp_cells.specs.declared.rows.Row.{Row}
use Rattle.mp_core_trx.specs.declared.opening.TrxOpening.{TrxOpening}
use Rattle.mp_core.specs.declared.part.CorePart.{CorePart}
use Rattle.mp_core.specs.CoreExtends.{durable_of, CoreExtends}
use Rattle.mp_book.specs.declared.book.Book.{Book}
use Rattle.mp_book.specs.declared.session.Session.{Session}
use Rattle.mp_book.specs.declared.stage.Stage.{Stage}
use Rattle.mp_book.specs.Stages.{next_line, task_by}
use Rattle.mp_book.specs.Through.{is_no_task}
use Rattle.mp_book.specs.Answered.{NoneShowsDown}
use Rattle.mp_book.specs.Books.{IsBook, IsAnswered}
use Rattle.mp_outside.specs.declared.disks.Disk.{Ghosts}
use Rattle.mp_shared.specs.Nodes.{Run, NodeView, HoldsAll}
use Rattle.mp_shared.proofs.Holding.{held_part}
use Rattle.mp_trx_fusion.specs.Calls.{Knows, KnowsLess, tso_of}
use Rattle.mp_buffer_fusion.proofs.Kept.{set_here, set_else}
use Rattle.mp_buffer_fusion.proofs.Visiting.{one_part}
use Rattle.mp_supports.specs.Work.{Work}
use Rattle.mp_supports.specs.Supports.{Trace, no_trace, SupportsReply, SupportsWaits}
use Rattle.mp_supports.specs.Kept.{Entry, Did}
use Rattle.mp_supports.specs.Agreement.{Opens, Mirrors, Bounds}
use Rattle.mp_supports.proofs.SupportsMore.{waits_more}
use Rattle.mp_supports.proofs.Keeping.{kept_quiet}
use Rattle.mp_supports.proofs.Unchanged.{waits_kept}
use Rattle.mp_supports.proofs.Places.{at_place, in_set}
use Rattle.mp_desk.specs.declared.desk.Desk.{Desk}
use Rattle.mp_desk.specs.declared.media.Media.{Media}
use Rattle.mp_desk.specs.Desks.{Moves}
use Rattle.mp_desk.specs.Making.{HoldsPartOf}
use Rattle.mp_desk.proofs.Moving.{moves_as}
use Rattle.mp_desk.proofs.MediaMoved.{not_zero}
use Rattle.mp_primary.specs.Primaries.{PrimaryView, IsBetweenTurns, AreSessions, AreWaitsSupported, PrimaryAgreesIn, PrimaryAgrees}
use Rattle.mp_primary.specs.Turns.{IsInTurns, MayTakeTurn, IsLeftAfter, GoesOnBy, ComesTo, has_nothing_left, no_task_in, NamesWait, WaitsFor, TellsDown}
use Rattle.mp_primary.specs.Tries.{TriesTurn}
use Rattle.mp_primary.specs.AtWork.{HasClearedDesk, HasGoneDown}
use Rattle.mp_primary.proofs.OpenSessions.{one_of, waits_ended}
use Rattle.mp_primary.proofs.AnsweredTurns.{calm, entry_of, AnswersWell, goes_on_answered, line_found}
use Rattle.mp_primary.proofs.StillInTurns.{stage_in, set_may}

-- ---- small facts

-- the answer that was added is that one
pub added_one : (items : List Answer) (a b : Answer) → items ++ a ∷ [] ≡ items ++ b ∷ [] → a ≡ b
added_one [] a b e = cc
added_one (x ∷ items) a b e = added_one items a b (tails (items ++ a ∷ []) (items ++ b ∷ []) e)
  where
    tails : (l m : List Answer) → x ∷ l ≡ x ∷ m → l ≡ m
    tails l m e = cc

longer : (items : List Answer) (a : Answer) → items ≡ items ++ a ∷ [] → ⊥
longer [] a e = cc
longer (x ∷ items) a e = longer items a (tails items (items ++ a ∷ []) e)
  where
    tails : (l m : List Answer) → x ∷ l ≡ x ∷ m → l ≡ m
    tails l m e = cc

answered_not_done : turns.Answered ≡ turns.Done → ⊥
answered_not_done e = cc

answered_not_stopped : (by : ℕ) → turns.Answered ≡ turns.Stopped by → ⊥
answered_not_stopped by e = cc

waiting_not_done : (cause : Cause) → turns.Waiting cause ≡ turns.Done → ⊥
waiting_not_done cause e = cc

waiting_not_stopped : (cause : Cause) (by : ℕ) → turns.Waiting cause ≡ turns.Stopped by → ⊥
waiting_not_stopped cause by e = cc

false_not_true : false ≡ true → ⊥
false_not_true e = cc

some_not_none : (line : Line) → Some line ≡ None → ⊥
some_not_none line e = cc

-- what the part of one primary became
pub moved : (So : CorePart → CorePart → Type 0) (p : ℕ) (a b : NodeView) → Moves So p a b → (q r : CorePart) → part_in a.parts p ≡ Some q
    → part_in b.parts p ≡ Some r → So q r
moved So p a b moves q r has there = let now = moves.mine q has in subst (So q) (one_part (part_in b.parts p) now.0 r now.1 there) now.2

-- an answer of a primary that is up, where it shows none down
tells_up : (down : ℕ) (reply : Reply) → down ≡ 0 → shows_down reply ≡ false → TellsDown down reply
tells_up down (Began view) up calm = up
tells_up down (Got value) up calm = up
tells_up down (Scanned rows) up calm = up
tells_up down (Wrote verb) up calm = up
tells_up down (Committed cts) up calm = up
tells_up down CommittedNone up calm = up
tells_up down (Unknown cts) up calm = absurd (false_not_true (sym calm))
tells_up down RolledBack up calm = up
tells_up down (Conflict verb cts) up calm = up
tells_up down (Held verb name) up calm = up
tells_up down (Full verb) up calm = up
tells_up down Skipped up calm = up
tells_up down (Stopped by) up calm = absurd (false_not_true (sym calm))

-- the sessions and the counts agree with the part
pub record HasSides (work : Work) (r : CorePart) (book : Book) : Type 0 where
  pub opens : Opens work r 0 book.sessions.items
  pub bounds : Bounds work r book.answers.items book.sessions.items

module _ {D : Type 0} (g : Ghosts D) where
  -- What an answer of a primary that stays up asks of its statement
  pub record IsRightAnswer (old : PrimaryView D) (before n : NodeView) (line : Line) (reply : Reply) (trace : Trace) (answer : Answer)
      (book : Book) : Type 0 where
    pub supported : (r : CorePart) → part_in n.parts old.number ≡ Some r → SupportsReply old.work r 0 trace line reply
    pub calm : shows_down reply ≡ false
    pub sides : (entries : List Entry) (q r : CorePart) → part_in before.parts old.number ≡ Some q → part_in n.parts old.number ≡ Some r
        → PrimaryAgrees g old entries q → Did q r trace → HasSides old.work r book
    pub left : IsLeftAfter before (entry_of answer trace)
    pub begins : (view : ℕ) → reply ≡ Began view → Knows before old.number view × (HoldsAll before → view ≡ tso_of before)
    pub draws : (cts : ℕ) → cts_of reply ≡ Some cts → KnowsLess before old.number cts × (HoldsAll before → cts ≡ tso_of before + 1)

  -- and of one that went down
  pub record IsRightStop (old : PrimaryView D) (before n : NodeView) (line : Line) (reply : Reply) (trace : Trace) (answer : Answer)
      (book : Book) : Type 0 where
    pub supported : (r : CorePart) → part_in n.parts old.number ≡ Some r → SupportsReply old.work r old.number trace line reply
    pub in_doubt : (r : CorePart) → part_in n.parts old.number ≡ Some r → IfSome trace.mtr (λ m. durable_of r < m.mtr.llsn)
    pub sessions : (entries : List Entry) (q r : CorePart) → part_in before.parts old.number ≡ Some q
        → part_in n.parts old.number ≡ Some r → PrimaryAgrees g old entries q → AreSessions r book.sessions.items
    pub bounds : (entries : List Entry) (q r : CorePart) → part_in before.parts old.number ≡ Some q → part_in n.parts old.number ≡ Some r
        → PrimaryAgrees g old entries q → Bounds old.work r book.answers.items book.sessions.items
    pub left : IsLeftAfter before (entry_of answer trace)
    pub no_begin : (view : ℕ) → reply ≢ Began view
    pub draws : (cts : ℕ) → cts_of reply ≡ Some cts → KnowsLess before old.number cts × (HoldsAll before → cts ≡ tso_of before + 1)
    pub not_skipped : reply ≢ Skipped
    pub tells : TellsDown old.number reply

  -- What a wait asks of its statement
  pub record IsRightWait (old : PrimaryView D) (before n : NodeView) (number : ℕ) (cause : Cause) (new : PrimaryView D) : Type 0 where
    pub answers : new.book.answers ≡ old.book.answers
    pub sides : (entries : List Entry) (q r : CorePart) → part_in before.parts old.number ≡ Some q → part_in n.parts old.number ≡ Some r
        → PrimaryAgrees g old entries q → HasSides old.work r new.book
    pub others : (other : ℕ) → Some number ≢ Some other → slice_get new.book.sessions.items other ≡ slice_get old.book.sessions.items other
    pub named : NamesWait old new number (turns.Waiting cause)
    pub may_go_on : MayTakeTurn new number
    pub waits : WaitsFor old number before n cause

  module _ (run : Run) (old : PrimaryView D) (before n : NodeView) (number : ℕ) (s : Session) (line : Line)
      (comes : ComesTo g run old before number s line) where
    found : slice_get old.book.sessions.items number ≡ Some s
    found = comes.next.found

    -- a session that is tried has something left
    busy : has_nothing_left old (Some number) ≡ false
    busy = ap no_task_in found ∙ ap (λ (o : Option Line). is_no_task (task_by o s.stage)) comes.next.next

    has : (q : CorePart) × (part_in before.parts old.number ≡ Some q)
    has = let h = held_part before old.number comes.stands.desk.part in (h.0, h.1)

    pub none_down_before : old.down ≡ 0 → NoneShowsDown old.book.answers.items
    none_down_before up =
        let was = comes.stands.agrees.1 has.0 has.1 in
        subst NoneShowsDown was.answers (calm comes.stands.agrees.0 (was.kept.up up))

    waited : (q r : CorePart) (entries : List Entry) → CoreExtends q r → PrimaryAgrees g old entries q
        → SupportsWaits old.work r line s.waits.items
    waited q r entries e was =
        waits_more q r e old.work line s.waits.items
        (subst (λ (o : Option Line). IfSome o (λ l. SupportsWaits old.work q l s.waits.items)) comes.next.next
        (was.waits s (at_place old.book.sessions.items number s found)))

    pub line_is : (answer : Answer) → answer.session ≡ number → answer.index ≡ line.index
        → line_at old.work.lines answer.session answer.index ≡ Some line
    line_is answer session index =
        ap (λ (k : ℕ). line_at old.work.lines k answer.index) session ∙ ap (line_at old.work.lines number) index
        ∙ line_found old.work.lines old.work.sessions old.number number old.book s line comes.stands.primary.book comes.next

    goes : (So : CorePart → CorePart → Type 0) → ((q r : CorePart) → So q r → CoreExtends q r) → Moves So old.number before n
        → Moves CoreExtends old.number before n
    goes So extends moves = moves_as old.number So CoreExtends extends before n moves

    module _ (b book : Book) (desk : Desk) (media : Media D) (books : IsBook old.work.lines old.work.sessions old.number book) where
      module _ (trace : Trace)
          (cleared : HasClearedDesk g run (record old { book = b }) (record old { book = b; desk = desk; media = media }) before n trace)
        where
          mirrors_up : (r : CorePart) → part_in n.parts old.number ≡ Some r → Mirrors r old.down desk.llsn desk.undo
          mirrors_up r there =
              let a = cleared.work.desk.agrees r there in
              record {
                not_below = a.not_below;
                not_above = a.not_above;
                undo_page = a.undo_page;
                idle =
                    λ page. inl (cleared.idle r there page);
              }

          media_up : (r : CorePart) → part_in n.parts old.number ≡ Some r → HoldsPartOf g old.work old.down old.number media r
          media_up r there = subst (λ (k : ℕ). HoldsPartOf g old.work k old.number media r) (sym cleared.work.up) (cleared.work.media r there)

          primary_up : IsBetweenTurns (record old { book = book; desk = desk; media = media })
          primary_up = record {
            book = books;
            names = comes.stands.primary.names;
            places = comes.stands.primary.places;
            own = cleared.work.own;
            up =
                λ up. (cleared.work.log, cleared.empty, cleared.forced);
          }

          -- ---- answered, and up

          module _ (reply : Reply) (stage : Stage) (formers : List Row) (restored : ℕ)
              (is : IsAnswered old.book book number s line reply stage formers restored)
              (right : IsRightAnswer old before n line reply trace is.answer book) (inside : IsInTurns stage) where
            well_up : (q : CorePart) → part_in before.parts old.number ≡ Some q → (entries : List Entry) (r : CorePart)
                → PrimaryAgrees g old entries q → part_in n.parts old.number ≡ Some r
                → AnswersWell g old (record old { book = book; desk = desk; media = media }) is.answer trace q r
            well_up q there_q entries r was there =
                let did = moved (λ a c. Did a c trace) old.number before n cleared.work.did q r there_q there in
                let sides = right.sides entries q r there_q there was did in
                record {
                  down = inl cleared.work.up;
                  did = did;
                  may = record {
                    supported = record {
                      line = line;
                      found = line_is is.answer is.session is.index;
                      reply = subst (SupportsReply old.work r old.down trace line) (sym is.reply_is)
                          (subst (λ (k : ℕ). SupportsReply old.work r k trace line reply) (sym cleared.work.up) (right.supported r there));
                      waits = subst (SupportsWaits old.work r line) (sym is.waits) (waited q r entries did.extends was);
                    };
                    in_doubt = λ shows. absurd (false_not_true (sym (ap shows_down is.reply_is ∙ right.calm) ∙ shows));
                    up = λ up. ap shows_down is.reply_is ∙ right.calm;
                  };
                  opens = λ up. sides.opens;
                  sessions = sides.opens.only;
                  waits = sides.opens.waits;
                  mirrors = mirrors_up r there;
                  media = media_up r there;
                  bounds = sides.bounds;
                }

            goes_up : (entries : List Entry) → PrimaryAgreesIn g old entries before
                → GoesOnBy g old (record old { book = book; desk = desk; media = media }) before n (Some number) entries turns.Answered
            goes_up = goes_on_answered g old (record old { book = book; desk = desk; media = media }) before n number s line reply stage
                formers restored comes.next is refl refl trace has.0 has.1 (well_up has.0 has.1) right.left

            its_reply : (a : Answer) → book.answers.items ≡ old.book.answers.items ++ a ∷ [] → reply ≡ a.reply
            its_reply a more = sym is.reply_is ∙ ap (λ (x : Answer). x.reply)
                (added_one old.book.answers.items is.answer a (sym is.answers ∙ more))

            turn_up : TriesTurn g run old (record old { book = book; desk = desk; media = media }) before n (Some number) turns.Answered
            turn_up = record {
              stands = record {
                primary = primary_up;
                desk = cleared.work.desk;
                agrees = let more = goes_up comes.stands.agrees.0 comes.stands.agrees.1 in
                    (comes.stands.agrees.0 ++ more.more, more.agrees);
              };
              number = refl;
              work = refl;
              went = goes (λ q r. Did q r trace) (λ q r did. did.extends) cleared.work.did;
              goes_on = goes_up;
              others = λ other ne. ap (λ (l : List Session). slice_get l other) is.sessions
                  ∙ set_else old.book.sessions.items number other is.after (λ same. ne (ap (λ (k : ℕ). Some k) (sym same)));
              named = λ x there.
                  ap (λ (v : Session). v.waits.items)
                  (one_of (slice_get book.sessions.items number) is.after x
                  (ap (λ (l : List Session). slice_get l number) is.sessions
                  ∙ set_here old.book.sessions.items number is.after (slice_get_within old.book.sessions.items number s found)) there)
                  ∙ is.goes.waits;
              cause = tt;
              up = tt;
              answers = tt;
              down = inl refl;
              faults = cleared.work.faults;
              tells = cleared.work.tells;
              may_go_on = set_may (record old { book = book; desk = desk; media = media }) number old.book.sessions.items s is.after found is.sessions
                  (stage_in is.after.stage stage is.goes.stage_is inside);
              begins = λ a view more so. right.begins view (its_reply a more ∙ so);
              draws = λ a cts more so. right.draws cts (ap cts_of (its_reply a more) ∙ so);
              skips = λ a more so. cleared.work.up;
              stops = λ a more. subst (TellsDown old.down) (its_reply a more) (tells_up old.down reply cleared.work.up right.calm);
              done = ((λ e. absurd (answered_not_done e)), (λ up nothing. absurd (false_not_true (sym busy ∙ nothing))));
              stopped = (
                (λ by e. absurd (answered_not_stopped by e)),
                (λ down none. absurd (some_not_none line (sym comes.next.next ∙ none s found))),
              );
            }

      -- ---- waiting, and up

      module _ (cleared : HasClearedDesk g run (record old { book = b })
          (record old { book = b; desk = desk; media = media }) before n no_trace) (cause : Cause)
          (right : IsRightWait old before n number cause (record old { book = book; desk = desk; media = media })) where
        waits_on : (entries : List Entry) (r : CorePart) → PrimaryAgreesIn g old entries before → part_in n.parts old.number ≡ Some r
            → PrimaryAgrees g (record old { book = book; desk = desk; media = media }) entries r
        waits_on entries r agrees there =
            let q = has in
            let was = agrees q.0 q.1 in
            let did = moved (λ a c. Did a c no_trace) old.number before n cleared.work.did q.0 r q.1 there in
            let sides = right.sides entries q.0 r q.1 there was in
            record {
              kept = kept_quiet old.work q.0 r old.down old.down entries (inl cleared.work.up) was.kept did;
              answers = was.answers ∙ sym (ap (λ (l : Listed Answer). l.items) right.answers);
              opens = λ up. sides.opens;
              sessions = sides.opens.only;
              waits = sides.opens.waits;
              mirrors = mirrors_up no_trace cleared r there;
              media = media_up no_trace cleared r there;
              bounds = sides.bounds;
              exact = same_exact q.0 r did was;
              begun = was.begun;
            }
          where
            same_exact : (q r : CorePart) → Did q r no_trace → PrimaryAgrees g old entries q
                → r.trx.opening.begins ≡ length (begin_names old.work.lines)
            same_exact q r did was = ap (λ (o : TrxOpening). o.begins) did.extends.trx.same_opening ∙ was.exact

        goes_waiting : (entries : List Entry) → PrimaryAgreesIn g old entries before
            → GoesOnBy g old (record old { book = book; desk = desk; media = media }) before n (Some number) entries (turns.Waiting cause)
        goes_waiting entries agrees = record {
          more = [];
          agrees = λ r there. subst (λ (l : List Entry). PrimaryAgrees g (record old { book = book; desk = desk; media = media }) l r)
              (sym (append-nil entries)) (waits_on entries r agrees there);
          adds = refl;
          later = tt;
        }

        none_added : (a : Answer) → book.answers.items ≡ old.book.answers.items ++ a ∷ [] → ⊥
        none_added a more = longer old.book.answers.items a (sym (ap (λ (l : Listed Answer). l.items) right.answers) ∙ more)

        turn_waiting : TriesTurn g run old (record old { book = book; desk = desk; media = media }) before n (Some number)
            (turns.Waiting cause)
        turn_waiting = record {
          stands = record {
            primary = primary_up no_trace cleared;
            desk = cleared.work.desk;
            agrees =
                (comes.stands.agrees.0, λ r there. waits_on comes.stands.agrees.0 r comes.stands.agrees.1 there);
          };
          number = refl;
          work = refl;
          went = goes (λ q r. Did q r no_trace) (λ q r did. did.extends) cleared.work.did;
          goes_on = goes_waiting;
          others = right.others;
          named = right.named;
          cause = right.waits;
          up = cleared.work.up;
          answers = right.answers;
          down = inl refl;
          faults = cleared.work.faults;
          tells = cleared.work.tells;
          may_go_on = right.may_go_on;
          begins = λ a view more. absurd (none_added a more);
          draws = λ a cts more. absurd (none_added a more);
          skips = λ a more. absurd (none_added a more);
          stops = λ a more. absurd (none_added a more);
          done = ((λ e. absurd (waiting_not_done cause e)), (λ up nothing. absurd (false_not_true (sym busy ∙ nothing))));
          stopped = ((λ by e. absurd (waiting_not_stopped cause by e)), (λ down none. absurd (down cleared.work.up)));
        }

      -- ---- answered, and down

      module _ (trace : Trace)
          (gone : HasGoneDown g run (record old { book = b })
          (record old { book = b; desk = desk; media = media; down = old.number }) before n trace)
          (reply : Reply) (stage : Stage) (formers : List Row) (restored : ℕ)
          (is : IsAnswered old.book book number s line reply stage formers restored)
          (right : IsRightStop old before n line reply trace is.answer book) (inside : IsInTurns stage) where
        some_number : old.number ≢ 0
        some_number = not_zero old.number (held_part n old.number gone.desk.part).2.0

        waits_down : (q r : CorePart) (entries : List Entry) → CoreExtends q r → PrimaryAgrees g old entries q
            → AreWaitsSupported old.work r book.sessions.items
        waits_down q r entries e was = λ x there. elim
            (in_set old.book.sessions.items number is.after x (subst (IsIn x) is.sessions there)) [
              | inl same ↦ subst (λ (v : Session). IfSome (next_line v) (λ l. SupportsWaits old.work r l v.waits.items)) (sym same)
                  (waits_ended old.work r is.after is.goes.waits)
              | inr at ↦ waits_kept old.work q r 0 e x (was.waits x (at_place old.book.sessions.items at.0 x at.2))
            ]

        well_down : (q : CorePart) → part_in before.parts old.number ≡ Some q → (entries : List Entry) (r : CorePart)
            → PrimaryAgrees g old entries q → part_in n.parts old.number ≡ Some r
            → AnswersWell g old (record old { book = book; desk = desk; media = media; down = old.number }) is.answer trace q r
        well_down q there_q entries r was there =
            let did = moved (λ a c. Did a c trace) old.number before n gone.did q r there_q there in
            let at = gone.desk.agrees r there in
            record {
              down = inl gone.up;
              did = did;
              may = record {
                supported = record {
                  line = line;
                  found = line_is is.answer is.session is.index;
                  reply = subst (SupportsReply old.work r old.number trace line) (sym is.reply_is) (right.supported r there);
                  waits = subst (SupportsWaits old.work r line) (sym is.waits) (waited q r entries did.extends was);
                };
                in_doubt = λ shows. right.in_doubt r there;
                up = λ up. absurd (some_number up);
              };
              opens = λ up. absurd (some_number up);
              sessions = right.sessions entries q r there_q there was;
              waits = waits_down q r entries did.extends was;
              mirrors = record {
                not_below = at.not_below;
                not_above = at.not_above;
                undo_page = at.undo_page;
                idle =
                    λ page. inr some_number;
              };
              media = gone.media r there;
              bounds = right.bounds entries q r there_q there was;
            }

        goes_down : (entries : List Entry) → PrimaryAgreesIn g old entries before
            → GoesOnBy g old (record old { book = book; desk = desk; media = media; down = old.number }) before n
            (Some number) entries turns.Answered
        goes_down = goes_on_answered g old (record old { book = book; desk = desk; media = media; down = old.number }) before n number s
            line reply stage formers restored comes.next is refl refl trace has.0 has.1 (well_down has.0 has.1) right.left

        reply_down : (a : Answer) → book.answers.items ≡ old.book.answers.items ++ a ∷ [] → reply ≡ a.reply
        reply_down a more = sym is.reply_is ∙ ap (λ (x : Answer). x.reply)
            (added_one old.book.answers.items is.answer a (sym is.answers ∙ more))

        turn_down : TriesTurn g run old (record old { book = book; desk = desk; media = media; down = old.number }) before n
            (Some number) turns.Answered
        turn_down = record {
          stands = record {
            primary = record {
              book = books;
              names = comes.stands.primary.names;
              places = comes.stands.primary.places;
              own = gone.own;
              up =
                  λ up. absurd (some_number up);
            };
            desk = gone.desk;
            agrees = let more = goes_down comes.stands.agrees.0 comes.stands.agrees.1 in (comes.stands.agrees.0 ++ more.more, more.agrees);
          };
          number = refl;
          work = refl;
          went = goes (λ q r. Did q r trace) (λ q r did. did.extends) gone.did;
          goes_on = goes_down;
          others = λ other ne. ap (λ (l : List Session). slice_get l other) is.sessions
              ∙ set_else old.book.sessions.items number other is.after (λ same. ne (ap (λ (k : ℕ). Some k) (sym same)));
          named = λ x there.
              ap (λ (v : Session). v.waits.items)
              (one_of (slice_get book.sessions.items number) is.after x
              (ap (λ (l : List Session). slice_get l number) is.sessions
              ∙ set_here old.book.sessions.items number is.after (slice_get_within old.book.sessions.items number s found)) there)
              ∙ is.goes.waits;
          cause = tt;
          up = tt;
          answers = tt;
          down = inr (gone.up, refl, gone.rose);
          faults = gone.faults;
          tells = gone.tells;
          may_go_on = set_may (record old { book = book; desk = desk; media = media; down = old.number }) number old.book.sessions.items s is.after found is.sessions
              (stage_in is.after.stage stage is.goes.stage_is inside);
          begins = λ a view more so. absurd (right.no_begin view (reply_down a more ∙ so));
          draws = λ a cts more so. right.draws cts (ap cts_of (reply_down a more) ∙ so);
          skips = λ a more so. absurd (right.not_skipped (reply_down a more ∙ so));
          stops = λ a more. subst (TellsDown old.number) (reply_down a more) right.tells;
          done = ((λ e. absurd (answered_not_done e)), (λ up nothing. absurd (false_not_true (sym busy ∙ nothing))));
          stopped = (
            (λ by e. absurd (answered_not_stopped by e)),
            (λ down none. absurd (some_not_none line (sym comes.next.next ∙ none s found))),
          );
        }

    -- ---- the same of what a primary became

    module _ (b book : Book) (mid : PrimaryView D) (books : IsBook old.work.lines old.work.sessions old.number book) where
      pub answered_up : (trace : Trace) → HasClearedDesk g run (record old { book = b }) mid before n trace
          → (reply : Reply) (stage : Stage) (formers : List Row) (restored : ℕ)
          (is : IsAnswered old.book book number s line reply stage formers restored)
          → IsRightAnswer old before n line reply trace is.answer book → IsInTurns stage
          → TriesTurn g run old (record mid { book = book }) before n (Some number) turns.Answered
      answered_up trace cleared reply stage formers restored is right inside =
          subst (λ (v : PrimaryView D). TriesTurn g run old (record v { book = book }) before n (Some number) turns.Answered)
          (sym cleared.work.rest)
          (turn_up b book mid.desk mid.media books trace
          (subst (λ (v : PrimaryView D). HasClearedDesk g run (record old { book = b }) v before n trace) cleared.work.rest cleared)
          reply stage formers restored is right inside)

      pub waiting_up : HasClearedDesk g run (record old { book = b }) mid before n no_trace → (cause : Cause)
          → IsRightWait old before n number cause (record mid { book = book })
          → TriesTurn g run old (record mid { book = book }) before n (Some number) (turns.Waiting cause)
      waiting_up cleared cause right =
          subst (λ (v : PrimaryView D). TriesTurn g run old (record v { book = book }) before n (Some number) (turns.Waiting cause))
          (sym cleared.work.rest)
          (turn_waiting b book mid.desk mid.media books
          (subst (λ (v : PrimaryView D). HasClearedDesk g run (record old { book = b }) v before n no_trace) cleared.work.rest
          cleared) cause
          (subst (λ (v : PrimaryView D). IsRightWait old before n number cause (record v { book = book })) cleared.work.rest right))

      pub answered_down : (trace : Trace) → HasGoneDown g run (record old { book = b }) mid before n trace
          → (reply : Reply) (stage : Stage) (formers : List Row) (restored : ℕ)
          (is : IsAnswered old.book book number s line reply stage formers restored)
          → IsRightStop old before n line reply trace is.answer book → IsInTurns stage
          → TriesTurn g run old (record mid { book = book }) before n (Some number) turns.Answered
      answered_down trace gone reply stage formers restored is right inside =
          subst (λ (v : PrimaryView D). TriesTurn g run old (record v { book = book }) before n (Some number) turns.Answered)
          (sym gone.rest)
          (turn_down b book mid.desk mid.media books trace
          (subst (λ (v : PrimaryView D). HasGoneDown g run (record old { book = b }) v before n trace) gone.rest gone) reply stage
          formers restored is right inside)
