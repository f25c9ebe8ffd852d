-- How a read's turn ends: with its reply, or it waits.
use Rattle.std.proofs.Common.{◌≡◌, ◌≢◌, ℕ, ◌+◌, ◌<◌, ◌≤◌, ◌⊎◌, true, false, List, length, Option, None, Some, refl, sym, ap, subst, ◌∙◌, inl, inr, arith}
use Rattle.mp_machine.specs.View.{part_in}
use Rattle.mp_model.specs.declared.ids.TrxId.{TrxId}
use Rattle.mp_model.specs.declared.ids.TrxName.{TrxName}
use Rattle.mp_model.specs.Listed.{Listed}
use Rattle.mp_model.specs.declared.key_value.KeyValue.{KeyValue}
use Rattle.mp_model.specs.declared.replies.Reply.{Reply}
use Rattle.mp_model.specs.declared.replies.Reply.TheVariants.{Began, Got, Scanned}
use Rattle.mp_model.specs.declared.waiting.Cause.TheVariants.{Word, Prep}
use Rattle.mp_model.specs.declared.waiting.NotYet.{NotYet}
use Rattle.mp_model.specs.declared.waiting.Turn.TheVariants as turns
use Rattle.mp_script.specs.declared.statements.Line.{Line}
use Rattle.mp_script.specs.declared.statements.SessionOn.{SessionOn}
use Rattle.mp_script.specs.declared.statements.Stmt.{Stmt}
use Rattle.mp_script.specs.BeginNames.{begin_names}
use Rattle.mp_script.specs.Entries.{open_after}
use Rattle.mp_script.specs.Transactions.{begins, target_of, cts_of}
use Rattle.mp_script.specs.WentDown.{shows_down, is_stopped}
use Rattle.mp_cells.specs.PageView.{PageView}
use Rattle.mp_core_pages.specs.declared.part.GivenPage.{GivenPage}
use Rattle.mp_core_trx.specs.declared.opening.Base.{Base}
use Rattle.mp_core_trx.specs.declared.opening.TrxOpening.{TrxOpening}
use Rattle.mp_core.specs.declared.part.CorePart.{CorePart}
use Rattle.mp_book.specs.declared.book.Book.{Book}
use Rattle.mp_book.specs.declared.session.Session.{Session}
use Rattle.mp_book.specs.declared.stage.Stage.{Stage}
use Rattle.mp_book.specs.Stages.{with_former}
use Rattle.mp_book.specs.Answered.{NoneShowsDown}
use Rattle.mp_book.specs.Books.{IsBook, IsNext, IsAnswered, IsOpenStage, MayAnswer, stage_after}
use Rattle.mp_outside.specs.declared.disks.Disk.{Ghosts}
use Rattle.mp_shared.specs.Nodes.{Run, NodeView, HoldsPart, Reached}
use Rattle.mp_shared.proofs.Holding.{held_part}
use Rattle.mp_supports.specs.Work.{Work, name_of}
use Rattle.mp_supports.specs.Supports.{no_trace, looked_trace, SupportsReply}
use Rattle.mp_supports.proofs.SupportsMore.{reply_more}
use Rattle.mp_desk.specs.declared.halts.ReadHalt.TheVariants as halts
use Rattle.mp_desk.specs.Desks.{Moves}
use Rattle.mp_desk.specs.LetGo.{HasLetGo}
use Rattle.mp_desk.specs.Statements.{StaysQuiet}
use Rattle.mp_desk.proofs.PutBackRows.{moves_quiet}
use Rattle.mp_primary.specs.Primaries.{PrimaryView}
use Rattle.mp_primary.specs.Turns.{ComesTo, WaitsFor}
use Rattle.mp_primary.specs.Tries.{TriesTurn}
use Rattle.mp_primary.specs.AtWork.{IsAtWork, HasClearedDesk}
use Rattle.mp_primary.specs.Reads.{IsReadOf, FindsReply, StopsReading}
use Rattle.mp_primary.proofs.LetGoQuietly.{moves_quiet_let_go}
use Rattle.mp_primary.proofs.OpenReaders.{prep_version, open_no_begin, is_trx_of}
use Rattle.mp_primary.proofs.QuietSides.{looked_sides}
use Rattle.mp_primary.proofs.TurnEnds.{moved, none_down_before, answered_up}
use Rattle.mp_primary.proofs.WaitsGoOn.{trx_of_more}

-- what is so of each reply to a read
pub record ReadFacts (stmt : Stmt) (reply : Reply) : Type 0 where
  pub stage : (t : Stage) → stage_after t stmt reply ≡ t
  pub calm : shows_down reply ≡ false
  pub not_began : (view : ℕ) → reply ≢ Began view
  pub no_stamp : cts_of reply ≡ None
  pub no_begin : begins (Some stmt) ≡ false

got_not_began : (value : Option (List ℕ)) (view : ℕ) → Got value ≡ Began view → ⊥
got_not_began value view e = cc

scanned_not_began : (rows : Listed KeyValue) (view : ℕ) → Scanned rows ≡ Began view → ⊥
scanned_not_began rows view e = cc

pub read_facts : (stmt : Stmt) (reply : Reply) → IsReadOf stmt reply → ReadFacts stmt reply
read_facts stmt reply (inl got) = record {
  stage = λ t. ap (λ (r : Reply). stage_after t stmt r) got.3;
  calm = ap shows_down got.3;
  not_began = λ view e. got_not_began (got.1) view (sym got.3 ∙ e);
  no_stamp = ap cts_of got.3;
  no_begin = ap (λ (x : Stmt). begins (Some x)) got.2;
}
read_facts stmt reply (inr scanned) = record {
  stage = λ t. ap (λ (r : Reply). stage_after t stmt r) scanned.4;
  calm = ap shows_down scanned.4;
  not_began = λ view e. scanned_not_began (scanned.2) view (sym scanned.4 ∙ e);
  no_stamp = ap cts_of scanned.4;
  no_begin = ap (λ (x : Stmt). begins (Some x)) scanned.3;
}

-- the book may answer so
pub read_may : (s : Session) (line : Line) (reply : Reply) → IsReadOf line.stmt reply → IsOpenStage s.stage
    → MayAnswer s line reply (stage_after s.stage line.stmt reply) s.formers.items s.restored
read_may s line reply (inl got) open_stage =
    subst (λ (r : Reply). MayAnswer s line r (stage_after s.stage line.stmt r) s.formers.items s.restored) (sym got.3)
    (open_stage, ap open_after got.2, ap target_of got.2, refl, refl, refl)
read_may s line reply (inr scanned) open_stage =
    subst (λ (r : Reply). MayAnswer s line r (stage_after s.stage line.stmt r) s.formers.items s.restored) (sym scanned.4)
    (open_stage, ap open_after scanned.3, ap target_of scanned.3, refl, refl, refl)

none_stamp : (cts : ℕ) → ◌≡◌ {A = Option ℕ} None (Some cts) → ⊥
none_stamp cts e = cc

module _ {D : Type 0} (g : Ghosts D) (run : Run) (old : PrimaryView D) (before mid_node n : NodeView) (number : ℕ) (s : Session)
    (line : Line) (comes : ComesTo g run old before number s line) where
  module _ (reply : Reply) (pages : List (GivenPage PageView)) (finds : FindsReply old before mid_node s line reply pages)
      (held : HoldsPart mid_node old.number) (gone : Moves HasLetGo old.number mid_node n) where
    quiet_then : Moves StaysQuiet old.number before n
    quiet_then = moves_quiet old.number before mid_node n finds.quiet (moves_quiet_let_go old.number mid_node n gone)

    supported_then : (r : CorePart) → part_in n.parts old.number ≡ Some r → SupportsReply old.work r 0 (looked_trace pages) line reply
    supported_then r there =
        let q = held_part mid_node old.number held in
        reply_more (q.0) r (moved HasLetGo old.number mid_node n gone (q.0) r q.1 there).extends old.work 0 0
        (looked_trace pages) line reply (inl refl) (finds.supported (q.0) q.1)

    pub read_answered : (mid : PrimaryView D) → HasClearedDesk g run old mid before n (looked_trace pages) → (book : Book)
        → IsAnswered old.book book number s line reply (stage_after s.stage line.stmt reply) (with_former s.formers.items None) s.restored
        → IsBook old.work.lines old.work.sessions old.number book
        → TriesTurn g run old (record mid { book = book }) before n (Some number) turns.Answered
    read_answered mid cleared book is books =
        let facts = read_facts line.stmt reply finds.reads in
        let its : IsAnswered old.book book number s line reply s.stage s.formers.items s.restored =
        subst (λ (t : Stage). IsAnswered old.book book number s line reply t s.formers.items s.restored) (facts.stage s.stage) is in
        answered_up g run old before n number s line comes old.book book mid books
        (looked_trace pages) cleared reply s.stage s.formers.items s.restored its
        (record {
          supported = supported_then;
          calm = facts.calm;
          sides = λ entries q r has there was did. looked_sides g run old before n number s line comes cleared.work.up quiet_then entries
              q r has there was book finds.trx finds.stage facts.no_begin reply its;
          left = tt;
          begins = λ view e. absurd (facts.not_began view e);
          draws = λ cts e. absurd (none_stamp cts (sym facts.no_stamp ∙ e));
        }) comes.inside

  -- ---- a halt

  pub word_cause : (wait : NotYet) → StopsReading old before mid_node s (halts.Word wait) → WaitsFor old number before mid_node (Word wait)
  word_cause wait stops = inl stops.cause

  module _ (up : old.down ≡ 0) (reached : Reached mid_node) (held : HoldsPart mid_node old.number) (id : TrxId)
      (stops : StopsReading old before mid_node s (halts.Prep id)) where
    first : (q : CorePart) × (part_in before.parts old.number ≡ Some q)
    first = let h = held_part before old.number comes.stands.desk.part in (h.0, h.1)

    still_quiet : (r : CorePart) → part_in mid_node.parts old.number ≡ Some r → StaysQuiet first.0 r
    still_quiet r there = moved StaysQuiet old.number before mid_node stops.quiet first.0 r first.1 there

    -- the writer that is preparing has a name
    pub prep_range : (old.work.base.version < id.version) × (id.version ≤ old.work.base.version + length (begin_names old.work.lines))
    prep_range =
        let q = held_part mid_node old.number held in
        let was = comes.stands.agrees.1 first.0 first.1 in
        let prep = (stops.cause (q.0) q.1).1.in_prep in
        let range = prep_version mid_node reached old.number (q.0) q.1 id prep.load prep.is_load prep.shown in
        let same = (still_quiet (q.0) q.1).extends.trx.same_opening in
        let base : (q.0).trx.opening.base.version ≡ old.work.base.version = ap (λ (o : TrxOpening). o.base.version) same
        ∙ ap (λ (b : Base). b.version) was.bounds.base in
        let begins : (q.0).trx.opening.begins ≡ length (begin_names old.work.lines) = ap (λ (o : TrxOpening). o.begins) same ∙ was.exact in
        let low = range.0 in
        let high = range.1 in
        (omega (arith, base, low), omega (arith, base, begins, high))

    pub prep_cause : (name : TrxName) → name_of old.work id ≡ Some name → WaitsFor old number before mid_node (Prep name)
    prep_cause name named r there =
        let q = still_quiet r there in
        let no_begin = open_no_begin g run old before number s line comes up stops.trx stops.stage in
        let trx = trx_of_more (first.0) r q.extends old.work line (stops.trx).id (stops.trx).view
        (is_trx_of g run old before number s line comes up stops.trx stops.stage (first.0) first.1 no_begin) in
        let cause = stops.cause r there in
        (s, line, comes.next, ((stops.trx).id, (stops.trx).view, cause.0, id, trx, cause.1, named))

-- ---- of what a method sees inside

module _ {D : Type 0} (g : Ghosts D) (run : Run) (old now : PrimaryView D) (before node : NodeView) (number : ℕ) (s : Session)
    (line : Line) (comes : ComesTo g run old before number s line) (at : IsAtWork g run old now before node no_trace) (id : TrxId)
    (stops : StopsReading old before node s (halts.Prep id)) where
  work_is : now.work ≡ old.work
  work_is = ap (λ (v : PrimaryView D). v.work) at.rest

  pub prep_range_here : (now.work.base.version < id.version) × (id.version ≤ now.work.base.version + length (begin_names now.work.lines))
  prep_range_here =
      subst (λ (w : Work). (w.base.version < id.version) × (id.version ≤ w.base.version + length (begin_names w.lines))) (sym work_is)
      (prep_range g run old before node node number s line comes at.up at.desk.reached at.desk.part id stops)

  pub prep_cause_here : (name : TrxName) → name_of now.work id ≡ Some name → WaitsFor old number before node (Prep name)
  prep_cause_here name named =
      prep_cause g run old before node node number s line comes at.up at.desk.reached at.desk.part id stops name
      (subst (λ (w : Work). name_of w id ≡ Some name) work_is named)

module _ {D : Type 0} (g : Ghosts D) (run : Run) (old mid view : PrimaryView D) (same : view ≡ mid) (before between n : NodeView)
    (number : ℕ) (s : Session) (line : Line) (comes : ComesTo g run old before number s line)
    (reply : Reply) (pages : List (GivenPage PageView)) (finds : FindsReply old before between s line reply pages)
    (cleared : HasClearedDesk g run old mid before n (looked_trace pages)) where
  cleared_inside : HasClearedDesk g run old view before n (looked_trace pages)
  cleared_inside = subst (λ (v : PrimaryView D). HasClearedDesk g run old v before n (looked_trace pages)) (sym same) cleared

  book_is : view.book ≡ old.book
  book_is = ap (λ (v : PrimaryView D). v.book) cleared_inside.work.rest

  next_inside : IsNext view.book number s line
  next_inside = subst (λ (b : Book). IsNext b number s line) (sym book_is) comes.next

  pub read_next : (x : Session) × (l : Line) × IsNext view.book number x l
      × MayAnswer x l reply (stage_after x.stage l.stmt reply) (with_former x.formers.items None) x.restored × Unit {0}
  read_next = (s, line, next_inside, read_may s line reply finds.reads (finds.trx, finds.stage), tt)

  pub read_room : 0 < view.book.answers.spare
  read_room = subst (λ (b : Book). 0 < b.answers.spare) (sym book_is) comes.room.answer

  pub read_inside : HoldsPart between old.number → Moves HasLetGo old.number between n → (book : Book)
      → ((x : Session) (l : Line) → IsNext view.book number x l
      → IsAnswered view.book book number x l reply (stage_after x.stage l.stmt reply) (with_former x.formers.items None) x.restored)
      → ((lines : List Line) (sessions : List SessionOn) (primary : ℕ) → IsBook lines sessions primary view.book
      → (is_stopped reply ≡ true) ⊎ NoneShowsDown view.book.answers.items → IsBook lines sessions primary book)
      → TriesTurn g run old (record view { book = book }) before n (Some number) turns.Answered
  read_inside held gone book answered books =
      read_answered g run old before between n number s line comes reply pages finds held gone view cleared_inside book
      (subst (λ (b : Book). IsAnswered b book number s line reply (stage_after s.stage line.stmt reply)
      (with_former s.formers.items None) s.restored) book_is (answered s line next_inside))
      (books old.work.lines old.work.sessions old.number
      (subst (λ (b : Book). IsBook old.work.lines old.work.sessions old.number b) (sym book_is) comes.stands.primary.book)
      (inr (subst (λ (b : Book). NoneShowsDown b.answers.items) (sym book_is)
      (none_down_before g run old before before number s line comes cleared.work.up))))
