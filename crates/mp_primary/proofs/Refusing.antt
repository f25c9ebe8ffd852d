-- A write is refused once all pages are let go: the primary stands with its node still, and the turn that puts back is the statement's.
use Rattle.std.proofs.Common.{◌≡◌, ℕ, ◌<◌, true, List, [], length, slice_get, slice_set, Option, Some, IfSome, is_some, refl, sym, ap, subst, ◌∙◌, inl, arith}
use Rattle.std.proofs.lemmas.List.{append-nil}
use Rattle.std.proofs.lemmas.Option.{slice_get_within}
use Rattle.mp_machine.specs.View.{part_in}
use Rattle.mp_model.specs.Listed.{Listed}
use Rattle.mp_model.specs.declared.replies.Answer.{Answer}
use Rattle.mp_model.specs.declared.replies.Reply.{Reply}
use Rattle.mp_model.specs.declared.replies.WriteVerb.{WriteVerb}
use Rattle.mp_model.specs.declared.waiting.Turn.{Turn}
use Rattle.mp_script.specs.declared.statements.Line.{Line}
use Rattle.mp_script.specs.declared.statements.SessionOn.{SessionOn}
use Rattle.mp_script.specs.Transactions.{Target, target_of}
use Rattle.mp_core_trx.specs.declared.opening.TrxOpening.{TrxOpening}
use Rattle.mp_core_trx.specs.declared.part.Begun.{Begun}
use Rattle.mp_core_pages.specs.declared.part.Placed.{Placed}
use Rattle.mp_cells.specs.declared.records.Mtr.{Mtr}
use Rattle.mp_core.specs.declared.part.CorePart.{CorePart}
use Rattle.mp_book.specs.declared.book.Book.{Book}
use Rattle.mp_book.specs.declared.session.Session.{Session}
use Rattle.mp_book.specs.declared.stage.Refusal.{Refusal}
use Rattle.mp_book.specs.declared.stage.Stage.TheVariants.{Open, Refused}
use Rattle.mp_book.specs.Stages.{trx_of_stage}
use Rattle.mp_book.specs.Answered.{execution_above}
use Rattle.mp_book.specs.Books.{IsBook, IsNext, IsRefusalReply, RefusalStands, SetsSession}
use Rattle.mp_outside.specs.declared.disks.Disk.{Ghosts}
use Rattle.mp_shared.specs.Nodes.{Run, NodeView}
use Rattle.mp_shared.proofs.Holding.{held_part}
use Rattle.mp_buffer_fusion.proofs.Kept.{set_here}
use Rattle.mp_supports.specs.Supports.{no_trace, SupportsReply}
use Rattle.mp_supports.specs.Kept.{Entry}
use Rattle.mp_supports.specs.Agreement.{IsOpenAs, Opens, Bounds, rows_left, rows_left_by}
use Rattle.mp_supports.proofs.BoundSteps.{bounds_answered}
use Rattle.mp_supports.proofs.Keeping.{kept_quiet}
use Rattle.mp_supports.proofs.Places.{at_place}
use Rattle.mp_supports.proofs.SupportsMore.{reply_more}
use Rattle.mp_desk.specs.declared.desk.Desk.{Desk}
use Rattle.mp_desk.specs.declared.media.Media.{Media}
use Rattle.mp_desk.specs.Desks.{Moves}
use Rattle.mp_desk.specs.LetGo.{HasLetGo}
use Rattle.mp_desk.specs.Making.{HoldsPartOf}
use Rattle.mp_desk.specs.Statements.{StaysQuiet}
use Rattle.mp_desk.proofs.PutBackRows.{did_quiet, moves_quiet}
use Rattle.mp_primary.specs.Primaries.{PrimaryView, PrimaryAgreesIn, PrimaryAgrees}
use Rattle.mp_primary.specs.Turns.{ComesTo}
use Rattle.mp_primary.specs.Tries.{TriesTurn}
use Rattle.mp_primary.specs.AtWork.{HasClearedDesk}
use Rattle.mp_primary.specs.WriteTurns.{IsHeldUp, IsRightRefusal}
use Rattle.mp_primary.proofs.LetGoQuietly.{moves_quiet_let_go}
use Rattle.mp_primary.proofs.OpenSessions.{one_of, opens_set}
use Rattle.mp_primary.proofs.QuietSides.{drew_more, still, quiet_opens}
use Rattle.mp_primary.proofs.StillInTurns.{refused_in}
use Rattle.mp_primary.proofs.ThenTurns.{then_turn}
use Rattle.mp_primary.proofs.TurnEnds.{moved}

module _ {D : Type 0} (g : Ghosts D) (run : Run) (old : PrimaryView D) (before n : NodeView) (number : ℕ) (s : Session) (line : Line) (comes : ComesTo g run old before number s line) (trx : Begun) (stage : s.stage ≡ Open trx) (refusal : Refusal) (quiet : Moves StaysQuiet old.number before n)
    (supported : (r : CorePart) → part_in n.parts old.number ≡ Some r → (reply : Reply) → IsRefusalReply refusal line reply → SupportsReply old.work r 0 no_trace line reply)
    (book : Book) (sets : SetsSession old.book book number (record s { stage = Refused trx refusal })) (books : IsBook old.work.lines old.work.sessions old.number book) where
  abbrev refused : Session
  refused = record s { stage = Refused trx refusal }

  found : slice_get old.book.sessions.items number ≡ Some s
  found = comes.next.found

  same_answers : book.answers.items ≡ old.book.answers.items
  same_answers = ap (λ (x : Listed Answer). x.items) sets.answers

  module _ (desk : Desk) (media : Media D) (cleared : HasClearedDesk g run old (record old { desk = desk; media = media }) before n no_trace) where
    abbrev mid : PrimaryView D
    mid = record old { book = book; desk = desk; media = media }

    up : old.down ≡ 0
    up = cleared.work.up

    module _ (entries : List Entry) (q r : CorePart) (has : part_in before.parts old.number ≡ Some q) (there : part_in n.parts old.number ≡ Some r) (was : PrimaryAgrees g old entries q) where
      opens_before : Opens old.work r 0 old.book.sessions.items
      opens_before = quiet_opens g run old before n number s line comes up quiet entries q r has there was

      its_open : IsOpenAs old.work r 0 refused trx
      its_open =
          let h : IsOpenAs old.work r 0 s trx = subst (λ (o : Option Begun). IfSome o (IsOpenAs old.work r 0 s)) (ap trx_of_stage stage) (opens_before.each s (at_place old.book.sessions.items number s found)) in
          record { begun = h.begun; named = h.named; active = h.active; formers = h.formers; whole = h.whole }

      refused_opens : Opens old.work r 0 book.sessions.items
      refused_opens = subst (Opens old.work r 0) (sym sets.sessions)
          (opens_set old.work r old.book.sessions.items number s refused found (sym (ap trx_of_stage stage)) its_open
          (opens_before.waits s (at_place old.book.sessions.items number s found))
          (subst (λ (o : Option Line). IfSome o (λ l. (reply : Reply) → IsRefusalReply refusal l reply → SupportsReply old.work r 0 no_trace l reply)) (sym comes.next.next) (supported r there))
          opens_before)

      rows_same : rows_left refused ≡ rows_left s
      rows_same = sym (ap (λ (o : Option Begun). rows_left_by o s) (ap trx_of_stage stage))

      refused_bounds : Bounds old.work r book.answers.items book.sessions.items
      refused_bounds =
          let st = still g run old before n number s line comes up quiet entries q r has there was in
          subst (λ (l : List Session). Bounds old.work r book.answers.items l) (sym sets.sessions)
          (subst (λ (l : List Answer). Bounds old.work r l (slice_set old.book.sessions.items number refused)) (append-nil old.book.answers.items ∙ sym same_answers)
          (bounds_answered old.work q r st.extends old.book.answers.items old.book.sessions.items number s refused found was.bounds [] (ap (λ (l : List (Placed Mtr)). length l) st.made) (drew_more q r st.extends) (let same = rows_same in omega (arith, same))))

      agrees_then : PrimaryAgrees g mid entries r
      agrees_then =
          let st = still g run old before n number s line comes up quiet entries q r has there was in
          let at = cleared.work.desk.agrees r there in
          record {
            kept = kept_quiet old.work q r old.down old.down entries (inl up) was.kept (did_quiet q r st);
            answers = was.answers ∙ sym same_answers;
            opens = λ still_up. refused_opens;
            sessions = refused_opens.only;
            waits = refused_opens.waits;
            mirrors = record { not_below = at.not_below; not_above = at.not_above; undo_page = at.undo_page; idle = λ page. inl (cleared.idle r there page) };
            media = subst (λ (k : ℕ). HoldsPartOf g old.work k old.number media r) (sym up) (cleared.work.media r there);
            bounds = refused_bounds;
            exact = ap (λ (o : TrxOpening). o.begins) st.extends.trx.same_opening ∙ was.exact;
            begun = was.begun;
          }

    agrees : (entries : List Entry) → PrimaryAgreesIn g old entries before → PrimaryAgreesIn g mid entries n
    agrees entries agreed r there = let q = held_part before old.number comes.stands.desk.part in agrees_then entries q.0 r q.1 there (agreed q.0 q.1)

    mid_comes : ComesTo g run mid n number refused line
    mid_comes = record {
      stands = record {
        primary = record { book = books; names = comes.stands.primary.names; places = comes.stands.primary.places; own = cleared.work.own; up = λ still_up. (cleared.work.log, cleared.empty, cleared.forced) };
        desk = cleared.work.desk;
        agrees = (comes.stands.agrees.0, agrees comes.stands.agrees.0 comes.stands.agrees.1);
      };
      next = record { found = here; next = comes.next.next };
      inside = refused_in trx refusal;
      room = record {
        answer = subst (λ (l : Listed Answer). 0 < l.spare) (sym sets.answers) comes.room.answer;
        in_session = λ x there. let same : refused ≡ x = one_of (slice_get book.sessions.items number) x refused there here in subst (λ (v : Session). (0 < v.formers.spare) × (0 < v.waits.spare)) same (comes.room.in_session s found);
      };
    }
      where
        here : slice_get book.sessions.items number ≡ Some refused
        here = ap (λ (l : List Session). slice_get l number) sets.sessions ∙ set_here old.book.sessions.items number refused (slice_get_within old.book.sessions.items number s found)

    turn_then : (new : PrimaryView D) (after : NodeView) (turn : Turn) → TriesTurn g run mid new n after (Some number) turn → TriesTurn g run old new before after (Some number) turn
    turn_then = then_turn g run old before n number s line comes quiet (Refused trx refusal) book sets mid refl agrees cleared.work.faults cleared.work.tells

  -- the same of what the primary became
  module _ (cleared_view : PrimaryView D) (cleared : HasClearedDesk g run old cleared_view before n no_trace) where
    as_fields : HasClearedDesk g run old (record old { desk = cleared_view.desk; media = cleared_view.media }) before n no_trace
    as_fields = subst (λ (v : PrimaryView D). HasClearedDesk g run old v before n no_trace) cleared.work.rest cleared

    pub refused_comes : ComesTo g run (record cleared_view { book = book }) n number refused line
    refused_comes = subst (λ (v : PrimaryView D). ComesTo g run (record v { book = book }) n number refused line) (sym cleared.work.rest) (mid_comes cleared_view.desk cleared_view.media as_fields)

    pub refused_turn : (new : PrimaryView D) (after : NodeView) (turn : Turn) → TriesTurn g run (record cleared_view { book = book }) new n after (Some number) turn → TriesTurn g run old new before after (Some number) turn
    refused_turn new after turn h =
        turn_then cleared_view.desk cleared_view.media as_fields new after turn
        (subst (λ (v : PrimaryView D). TriesTurn g run (record v { book = book }) new n after (Some number) turn) cleared.work.rest h)

-- what is supported is supported still when pages were let go
pub refusal_on : {D : Type 0} (old : PrimaryView D) (between n : NodeView) (line : Line) (refusal : Refusal) → (r : CorePart) → part_in between.parts old.number ≡ Some r → Moves HasLetGo old.number between n → IsRightRefusal old between line refusal
    → (x : CorePart) → part_in n.parts old.number ≡ Some x → (reply : Reply) → IsRefusalReply refusal line reply → SupportsReply old.work x 0 no_trace line reply
refusal_on old between n line refusal r has gone right x there reply so =
    let h = moved HasLetGo old.number between n gone r x has there in
    reply_more r x h.extends old.work 0 0 no_trace line reply (inl refl) (right.supported r has reply so)

-- the same of what a method sees inside, once the desk is cleared
module _ {D : Type 0} (g : Ghosts D) (run : Run) (old now : PrimaryView D) (before between n : NodeView) (number : ℕ) (trx : Begun) (verb : WriteVerb) (key : ℕ) (held : IsHeldUp g run old now before between number trx verb key) (refusal : Refusal) (right : IsRightRefusal old between held.tries.line refusal)
    (gone : Moves HasLetGo now.number between n) (inside cleared_view : PrimaryView D) (view : inside ≡ cleared_view) (cleared : HasClearedDesk g run old cleared_view before n no_trace) where
  cleared_inside : HasClearedDesk g run old inside before n no_trace
  cleared_inside = subst (λ (v : PrimaryView D). HasClearedDesk g run old v before n no_trace) (sym view) cleared

  book_same : inside.book ≡ old.book
  book_same = ap (λ (v : PrimaryView D). v.book) cleared_inside.work.rest

  gone_old : Moves HasLetGo old.number between n
  gone_old = subst (λ (k : ℕ). Moves HasLetGo k between n) (ap (λ (v : PrimaryView D). v.number) held.work.rest) gone

  quiet_all : Moves StaysQuiet old.number before n
  quiet_all = moves_quiet old.number before between n held.quiet (moves_quiet_let_go old.number between n gone_old)

  found_inside : slice_get inside.book.sessions.items number ≡ Some held.tries.session
  found_inside = ap (λ (b : Book). slice_get b.sessions.items number) book_same ∙ held.tries.comes.next.found

  pub inside_next : IsNext inside.book number held.tries.session held.tries.line
  inside_next = record { found = found_inside; next = held.tries.comes.next.next }

  pub inside_target : is_some (target_of held.tries.line.stmt) ≡ true
  inside_target = ap (λ (o : Option Target). is_some o) held.tries.writes

  pub inside_up : inside.down ≡ 0
  inside_up = ap (λ (v : PrimaryView D). v.down) cleared_inside.work.rest ∙ held.work.up

  supported_then : (x : CorePart) → part_in n.parts old.number ≡ Some x → (reply : Reply) → IsRefusalReply refusal held.tries.line reply → SupportsReply old.work x 0 no_trace held.tries.line reply
  supported_then = let r = held_part between old.number held.work.desk.part in refusal_on old between n held.tries.line refusal r.0 r.1 gone_old right

  module _ (book : Book) (set : (x : Session) → slice_get inside.book.sessions.items number ≡ Some x → SetsSession inside.book book number (record x { stage = Refused trx refusal }))
      (books : (lines : List Line) (sessions : List SessionOn) (primary : ℕ) (x : Session) (l : Line) → IsBook lines sessions primary inside.book → IsNext inside.book number x l → RefusalStands (execution_above lines sessions inside.book.answers.items) primary l.stmt refusal → IsBook lines sessions primary book) where
    sets_old : SetsSession old.book book number (record (held.tries.session) { stage = Refused trx refusal })
    sets_old = subst (λ (b : Book). SetsSession b book number (record (held.tries.session) { stage = Refused trx refusal })) book_same (set held.tries.session found_inside)

    is_book : IsBook old.work.lines old.work.sessions old.number book
    is_book = books old.work.lines old.work.sessions old.number held.tries.session held.tries.line
        (subst (λ (b : Book). IsBook old.work.lines old.work.sessions old.number b) (sym book_same) held.tries.comes.stands.primary.book) inside_next
        (subst (λ (b : Book). RefusalStands (execution_above old.work.lines old.work.sessions b.answers.items) old.number held.tries.line.stmt refusal) (sym book_same) right.stands)

    pub inside_comes : ComesTo g run (record inside { book = book }) n number (record (held.tries.session) { stage = Refused trx refusal }) held.tries.line
    inside_comes = refused_comes g run old before n number held.tries.session held.tries.line held.tries.comes trx held.tries.stage refusal quiet_all supported_then book sets_old is_book inside cleared_inside

    pub inside_turn : (new : PrimaryView D) (after : NodeView) (turn : Turn) → TriesTurn g run (record inside { book = book }) new n after (Some number) turn → TriesTurn g run old new before after (Some number) turn
    inside_turn = refused_turn g run old before n number held.tries.session held.tries.line held.tries.comes trx held.tries.stage refusal quiet_all supported_then book sets_old is_book inside cleared_inside
