-- A turn that waits, once all pages are let go; and one that is stopped then.
use Rattle.std.proofs.Common.{◌≡◌, ℕ, ◌<◌, true, List, Option, Some, IfSome, is_some, slice_get, sym, ap, subst, ◌∙◌}
use Rattle.mp_model.specs.declared.ids.TrxName.{TrxName}
use Rattle.mp_model.specs.declared.waiting.Cause.{Cause}
use Rattle.mp_model.specs.declared.waiting.Cause.TheVariants.{Writer}
use Rattle.mp_model.specs.declared.waiting.Turn.TheVariants as turns
use Rattle.mp_script.specs.declared.statements.Line.{Line}
use Rattle.mp_script.specs.declared.statements.SessionOn.{SessionOn}
use Rattle.mp_script.specs.Transactions.{target_of}
use Rattle.mp_core.specs.declared.part.CorePart.{CorePart}
use Rattle.mp_core.specs.CoreExtends.{CoreExtends}
use Rattle.mp_book.specs.declared.book.Book.{Book}
use Rattle.mp_book.specs.declared.session.Session.{Session}
use Rattle.mp_book.specs.Stages.{next_line}
use Rattle.mp_book.specs.Answered.{execution_above, HasWrittenHere}
use Rattle.mp_book.specs.Books.{IsBook, IsNext, NotesWait}
use Rattle.mp_outside.specs.declared.disks.Disk.{Ghosts}
use Rattle.mp_shared.specs.Nodes.{Run, NodeView, HoldsPart}
use Rattle.mp_shared.proofs.Holding.{held_part}
use Rattle.mp_supports.specs.Supports.{Trace, no_trace}
use Rattle.mp_desk.specs.Desks.{Moves}
use Rattle.mp_desk.specs.LetGo.{HasLetGo}
use Rattle.mp_desk.specs.Statements.{StaysQuiet}
use Rattle.mp_desk.proofs.Moving.{moves_as}
use Rattle.mp_desk.proofs.PutBackRows.{moves_quiet}
use Rattle.mp_primary.specs.Primaries.{PrimaryView}
use Rattle.mp_primary.specs.Turns.{ComesTo, WaitsFor}
use Rattle.mp_primary.specs.Tries.{TriesTurn}
use Rattle.mp_primary.specs.AtWork.{IsAtWork, HasClearedDesk, WroteHere}
use Rattle.mp_primary.proofs.LetGoQuietly.{moves_quiet_let_go}
use Rattle.mp_primary.proofs.OpenSessions.{one_of}
use Rattle.mp_primary.proofs.QuietSides.{plain_wait}
use Rattle.mp_primary.proofs.TurnEnds.{waiting_up}
use Rattle.mp_primary.proofs.WaitsGoOn.{cause_on, noted_wait}

let_go_goes : (q r : CorePart) → HasLetGo q r → CoreExtends q r
let_go_goes q r h = h.extends

module _ {D : Type 0} (g : Ghosts D) (run : Run) (old mid : PrimaryView D) (before between n : NodeView) (number : ℕ) (s : Session)
    (line : Line) (comes : ComesTo g run old before number s line)
    (held : HoldsPart between old.number) (quiet : Moves StaysQuiet old.number before between)
    (gone : Moves HasLetGo old.number between n) (cleared : HasClearedDesk g run old mid before n no_trace) where
  same_book : mid.book ≡ old.book
  same_book = ap (λ (v : PrimaryView D). v.book) cleared.work.rest

  quiet_then : Moves StaysQuiet old.number before n
  quiet_then = moves_quiet old.number before between n quiet (moves_quiet_let_go old.number between n gone)

  cause_then : (cause : Cause) → WaitsFor old number before between cause → WaitsFor old number before n cause
  cause_then cause waits = cause_on old number before between n held
      (moves_as old.number HasLetGo CoreExtends let_go_goes between n gone) cause waits

  -- the book notes nothing
  pub waits_plainly : (cause : Cause) → ((name : TrxName) → cause ≡ Writer name → ⊥) → WaitsFor old number before between cause
      → TriesTurn g run old mid before n (Some number) (turns.Waiting cause)
  waits_plainly cause no_writer waits =
      waiting_up g run old before n number s line comes old.book mid.book mid
      (subst (λ (b : Book). IsBook old.work.lines old.work.sessions old.number b) (sym same_book) comes.stands.primary.book) cleared
      cause
      (plain_wait g run old before n number s line comes cleared.work.up quiet_then mid same_book cause no_writer (cause_then cause waits))

  -- or the writer
  pub waits_noted : (book : Book) (name : TrxName)
      → ((x : Session) → slice_get mid.book.sessions.items number ≡ Some x → NotesWait mid.book book number x name)
      → ((lines : List Line) (sessions : List SessionOn) (primary : ℕ) (x : Session) (l : Line) → IsBook lines sessions primary mid.book
      → IsNext mid.book number x l → IfSome (target_of l.stmt)
      (λ target. HasWrittenHere (execution_above lines sessions mid.book.answers.items) primary target.key name)
      → IsBook lines sessions primary book)
      → WroteHere old line (Writer name) → WaitsFor old number before between (Writer name)
      → TriesTurn g run old (record mid { book = book }) before n (Some number) (turns.Waiting (Writer name))
  waits_noted book name notes books wrote waits =
      let found : slice_get mid.book.sessions.items number ≡ Some s = ap (λ (b : Book). slice_get b.sessions.items number) same_book
      ∙ comes.next.found in
      let next : IsNext mid.book number s line = record { found = found; next = comes.next.next } in
      let here : IfSome (target_of line.stmt)
      (λ target. HasWrittenHere (execution_above old.work.lines old.work.sessions mid.book.answers.items) old.number target.key name)
      =
      subst (λ (b : Book). IfSome (target_of line.stmt)
      (λ target. HasWrittenHere (execution_above old.work.lines old.work.sessions b.answers.items) old.number target.key name))
      (sym same_book) wrote in
      let is_book : IsBook old.work.lines old.work.sessions old.number book =
      books old.work.lines old.work.sessions old.number s line
      (subst (λ (b : Book). IsBook old.work.lines old.work.sessions old.number b) (sym same_book) comes.stands.primary.book) next here
      in
      waiting_up g run old before n number s line comes old.book book mid is_book cleared (Writer name)
      (noted_wait g run old before n number s line comes cleared.work.up quiet_then book name
      (subst (λ (b : Book). NotesWait b book number s name) same_book (notes s found)) is_book (cause_then (Writer name) waits) mid)

-- ---- of what a method sees inside

pub gone_of : {D : Type 0} (g : Ghosts D) (run : Run) (old now : PrimaryView D) (before a b : NodeView) {trace : Trace}
    → IsAtWork g run old now before a trace → Moves HasLetGo now.number a b → Moves HasLetGo old.number a b
gone_of g run old now before a b at gone = subst (λ (k : ℕ). Moves HasLetGo k a b) (ap (λ (v : PrimaryView _). v.number) at.rest) gone

module _ {D : Type 0} (g : Ghosts D) (run : Run) (old now mid view : PrimaryView D) (same : view ≡ mid) (before between n : NodeView)
    (number : ℕ) (s : Session) (line : Line) (comes : ComesTo g run old before number s line)
    (at : IsAtWork g run old now before between no_trace) (cleared : HasClearedDesk g run old mid before n no_trace) (name : TrxName)
    (waits : WaitsFor old number before between (Writer name)) where
  -- the statement is a write
  its_target : is_some (target_of line.stmt) ≡ true
  its_target =
      let q = held_part between old.number at.desk.part in
      let w = waits q.0 q.1 in
      let its_session : w.0 ≡ s = one_of (slice_get old.book.sessions.items number) s (w.0) comes.next.found w.3.found in
      let its : w.1 ≡ line = line_of (w.1) line (next_line (w.0)) w.3.next (ap next_line its_session ∙ comes.next.next) in
      ap (λ (l : Line). is_some (target_of l.stmt)) (sym its) ∙ ap is_some w.4
    where
      line_of : (x y : Line) (o : Option Line) → o ≡ Some x → o ≡ Some y → x ≡ y
      line_of x y o a b = let both : Some x ≡ Some y = sym a ∙ b in cc

  -- what the book asks before it notes the writer
  pub wait_told : (x : Session) × (l : Line) × IsNext view.book number x l × (is_some (target_of l.stmt) ≡ true) × (0 < x.waits.spare)
  wait_told =
      let book_is : view.book ≡ old.book = ap (λ (v : PrimaryView D). v.book) (same ∙ cleared.work.rest) in (
        s,
        line,
        subst (λ (b : Book). IsNext b number s line) (sym book_is) comes.next,
        its_target,
        (comes.room.in_session s comes.next.found).1,
      )

module _ {D : Type 0} (g : Ghosts D) (run : Run) (old mid view : PrimaryView D) (same : view ≡ mid) (before between n : NodeView)
    (number : ℕ) (s : Session) (line : Line) (comes : ComesTo g run old before number s line)
    (held : HoldsPart between old.number) (quiet : Moves StaysQuiet old.number before between)
    (gone : Moves HasLetGo old.number between n) (cleared : HasClearedDesk g run old mid before n no_trace) where
  pub waits_inside : (book : Book) (name : TrxName)
      → ((x : Session) → slice_get view.book.sessions.items number ≡ Some x → NotesWait view.book book number x name)
      → ((lines : List Line) (sessions : List SessionOn) (primary : ℕ) (x : Session) (l : Line) → IsBook lines sessions primary view.book
      → IsNext view.book number x l → IfSome (target_of l.stmt)
      (λ target. HasWrittenHere (execution_above lines sessions view.book.answers.items) primary target.key name)
      → IsBook lines sessions primary book)
      → WroteHere old line (Writer name) → WaitsFor old number before between (Writer name)
      → TriesTurn g run old (record view { book = book }) before n (Some number) (turns.Waiting (Writer name))
  waits_inside book name notes books wrote waits =
      waits_noted g run old view before between n number s line comes held quiet gone
      (subst (λ (v : PrimaryView D). HasClearedDesk g run old v before n no_trace) (sym same) cleared) book name notes books wrote
      waits
