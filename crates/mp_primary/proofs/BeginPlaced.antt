-- A session's next statement is a `begin`: where it stands among those of the script, and that no transaction that the part
-- has was begun by it.
use Rattle.std.proofs.Common.{◌≡◌, ◌≢◌, ℕ, zero, suc, ◌+◌, ◌-◌, ◌==◌, ◌&&◌, nat_lt, Bool, true, false, cond, List, [], ◌∷◌, slice_get, Option, None, Some, IfSome, if◌then◌else◌, filter, refl, sym, ap, subst, ◌∙◌, inl, inr, arith, eq-eqb}
use Rattle.std.proofs.lemmas.Bool.{lt-ltb, and_from}
use Rattle.std.specs.List.{AllByRecursion}
use Rattle.std.specs.Option.{option_map}
use Rattle.mp_machine.specs.Lists.{IsIn}
use Rattle.mp_model.specs.declared.ids.TrxId.{TrxId}
use Rattle.mp_model.specs.declared.ids.TrxName.{TrxName}
use Rattle.mp_model.specs.declared.replies.Answer.{Answer}
use Rattle.mp_model.specs.declared.replies.Reply.{Reply}
use Rattle.mp_model.specs.declared.replies.Reply.TheVariants.{Began, Got, Scanned, Wrote, Committed, CommittedNone, Unknown, RolledBack, Conflict, Held, Full, Skipped, Stopped}
use Rattle.mp_script.specs.declared.statements.Line.{Line}
use Rattle.mp_script.specs.declared.statements.Stmt.{Stmt}
use Rattle.mp_script.specs.declared.statements.Stmt.TheVariants.{Begin, Get, Put, Del, Copy, Scan, Commit, Rollback}
use Rattle.mp_script.specs.BeginNames.{begin_names, name_of_line}
use Rattle.mp_script.specs.Execution.{line_at, stmt_in, answer_at}
use Rattle.mp_script.specs.Spelling.{MayStand}
use Rattle.mp_script.specs.Transactions.{begins, begin_in, trx_in_lines}
use Rattle.mp_script.proofs.Options.{some_is, not_some}
use Rattle.mp_script.proofs.Ordered.{in_reverse, in_filter, all_in, in_found, from_found, in_map}
use Rattle.mp_script.proofs.Looking.{line_is}
use Rattle.mp_core_trx.specs.declared.part.Begun.{Begun}
use Rattle.mp_core_trx.specs.Parts.{draw_of}
use Rattle.mp_core.specs.declared.part.CorePart.{CorePart}
use Rattle.mp_book.specs.declared.book.Book.{Book}
use Rattle.mp_book.specs.declared.session.Session.{Session}
use Rattle.mp_book.specs.declared.stage.Stage.TheVariants.{Closed}
use Rattle.mp_book.specs.Answered.{execution_above, NoneShowsDown}
use Rattle.mp_book.specs.Books.{IsBook, IsNext, StageStands}
use Rattle.mp_supports.specs.Work.{Work, name_of}
use Rattle.mp_supports.specs.Supports.{Trace, no_trace, looked_trace, wrote_trace, commit_trace, SupportsReply, Supports}
use Rattle.mp_supports.specs.Kept.{Entry, answers_in, Kept}
use Rattle.mp_primary.specs.Primaries.{BeginsByAnswer}
use Rattle.mp_primary.proofs.AnsweredTurns.{stands, found_here, line_found}

only_begin : (stmt : Stmt) → MayStand false stmt → stmt ≡ Begin
only_begin Begin h = refl
only_begin (Get key) h = absurd h
only_begin (Put key value) h = absurd h
only_begin (Del key) h = absurd h
only_begin (Copy from to) h = absurd h
only_begin (Scan low most) h = absurd h
only_begin Commit h = absurd h
only_begin Rollback h = absurd h

-- the transaction whose `begin` this is
abbrev pub name_by : ℕ → ℕ → TrxName
name_by session first = record { session = session; first = first }

-- a `begin` is of the transaction that it begins
begin_here : (lines : List Line) (session index : ℕ) → begins (stmt_in lines session index) ≡ true → trx_in_lines lines session index ≡ name_by session index
begin_here lines session zero e = refl
begin_here lines session (suc before) e = ap (λ (b : Bool). name_by session (if b then suc before else begin_in lines session before)) e

begins_found : (lines : List Line) (session index : ℕ) (line : Line) → line_at lines session index ≡ Some line → line.stmt ≡ Begin → begins (stmt_in lines session index) ≡ true
begins_found lines session index line found is = ap (λ (o : Option Line). begins (option_map (λ (l : Line). l.stmt) o)) found ∙ ap (λ (stmt : Stmt). begins (Some stmt)) is

-- what is answered is found
answer_there : (answers : List Answer) (a : Answer) → IsIn a answers → answer_at answers a.session a.index ≡ None → ⊥
answer_there [] a h e = absurd h
answer_there (x ∷ answers) a (inl same) e =
    let test : (x.session == a.session && x.index == a.index) ≡ true = and_from (x.session == a.session) (x.index == a.index) (eq-eqb x.session a.session (ap (λ (y : Answer). y.session) (sym same))) (eq-eqb x.index a.index (ap (λ (y : Answer). y.index) (sym same))) in
    absurd (not_some x (sym e ∙ ap (λ (b : Bool). cond b (Some x) (answer_at answers a.session a.index)) test))
answer_there (x ∷ answers) a (inr h) e = by_test (x.session == a.session && x.index == a.index) refl (answer_there answers a h)
  where
    by_test : (b : Bool) → (x.session == a.session && x.index == a.index) ≡ b → (answer_at answers a.session a.index ≡ None → ⊥) → ⊥
    by_test true test rest = not_some x (sym e ∙ ap (λ (b : Bool). cond b (Some x) (answer_at answers a.session a.index)) test)
    by_test false test rest = rest (sym (ap (λ (b : Bool). cond b (Some x) (answer_at answers a.session a.index)) test) ∙ e)

-- the name of an id whose version counts so many `begin` lines
pub name_at : (work : Work) (id : TrxId) (place : ℕ) (name : TrxName) → id.version ≡ work.base.version + place + 1 → slice_get (begin_names work.lines) place ≡ Some name → name_of work id ≡ Some name
name_at work id place name is there =
    let above : nat_lt work.base.version id.version ≡ true = lt-ltb work.base.version id.version (omega (arith, is)) in
    let behind : id.version - work.base.version - 1 ≡ place = omega (arith, is) in
    ap (λ (b : Bool). if b then slice_get (begin_names work.lines) (id.version - work.base.version - 1) else None) above ∙ ap (slice_get (begin_names work.lines)) behind ∙ there

-- ---- whose answer began a transaction

module _ (work : Work) (p : CorePart) (trace : Trace) (line : Line) (b : Begun) (began : trace.began ≡ Some b) where
  -- the statement is a `begin`, and its transaction is that one
  abbrev BeginsIt : Type 0
  BeginsIt = (line.stmt ≡ Begin) × (name_of work b.id ≡ Some (trx_in_lines work.lines line.session line.index))

  none_begun : (other : Trace) → trace ≡ other → other.began ≡ None → BeginsIt
  none_begun other is none = absurd (not_some b (sym none ∙ ap (λ (t : Trace). t.began) (sym is) ∙ began))

  begun_by : (down : ℕ) (reply : Reply) → SupportsReply work p down trace line reply → BeginsIt
  begun_by down (Began view) h =
      let is : h.0 ≡ b = some_is h.0 b (sym (ap (λ (t : Trace). t.began) h.2) ∙ began) in
      (h.1, subst (λ (x : Begun). name_of work x.id ≡ Some (trx_in_lines work.lines line.session line.index)) is h.5)
  begun_by down (Got value) h = none_begun (looked_trace trace.pages) h.3.5 refl
  begun_by down (Scanned rows) h = none_begun (looked_trace trace.pages) h.3.8 refl
  begun_by down (Wrote verb) h = none_begun (wrote_trace trace.pages h.3.1) h.3.3 refl
  begun_by down (Committed cts) h = none_begun (commit_trace (draw_of h.0 cts) h.3.0) h.3.2 refl
  begun_by down CommittedNone h = none_begun no_trace h.1 refl
  begun_by down (Unknown cts) h = none_begun (commit_trace (draw_of h.0 cts) h.3.0) h.3.2 refl
  begun_by down RolledBack h = none_begun no_trace h.1 refl
  begun_by down (Conflict verb cts) h = none_begun no_trace h.3.5 refl
  begun_by down (Held verb name) h = none_begun no_trace h.3.6 refl
  begun_by down (Full verb) h = none_begun no_trace h.3.3 refl
  begun_by down Skipped h = none_begun no_trace h.1 refl
  begun_by down (Stopped by) h = elim h.2 [
    | inl none ↦ none_begun no_trace none refl
    | inr x ↦ none_begun (wrote_trace trace.pages x.4) x.7 refl
  ]

-- each transaction that the part has is named by a `begin` that was answered
pub record IsAnsweredBegin (work : Work) (answers : List Answer) (b : Begun) : Type 0 where
  pub answer : Answer
  pub there : IsIn answer answers
  pub named : name_of work b.id ≡ Some (name_by answer.session answer.index)

pub answered_begin : (work : Work) (q : CorePart) (down : ℕ) (entries : List Entry) → Kept work q down entries → AllByRecursion BeginsByAnswer entries → (b : Begun) → IsIn b q.trx.begun → IsAnsweredBegin work (answers_in entries) b
answered_begin work q down entries kept begun b there =
    let from = from_found (λ (e : Entry). e.trace.began) entries b (subst (IsIn b) (sym kept.began) (in_reverse b q.trx.begun there)) in
    go from.0 from.1 from.2 (from.0).answer refl
  where
    go : (e : Entry) → IsIn e entries → e.trace.began ≡ Some b → (o : Option Answer) → e.answer ≡ o → IsAnsweredBegin work (answers_in entries) b
    go e at began None none = absurd (not_some b (sym (all_in BeginsByAnswer e entries begun at none) ∙ began))
    go e at began (Some a) is =
        let support : Supports work q down a e.trace = subst (λ (o : Option Answer). IfSome o (λ x. Supports work q down x e.trace)) is (all_in (λ (x : Entry). IfSome x.answer (λ y. Supports work q down y x.trace)) e entries kept.supported at) in
        let its = begun_by work q e.trace support.line b began down a.reply support.reply in
        let line = line_is work.lines a.session a.index support.line support.found in
        record {
          answer = a;
          there = in_found (λ (x : Entry). x.answer) e entries a at is;
          named =
              its.1
              ∙ ap (λ (i : ℕ). Some (trx_in_lines work.lines i support.line.index)) line.1
              ∙ ap (λ (i : ℕ). Some (trx_in_lines work.lines a.session i)) line.2
              ∙ ap (λ (n : TrxName). Some n) (begin_here work.lines a.session a.index (begins_found work.lines a.session a.index support.line support.found its.0));
        }

-- ---- the next statement of a session without a transaction

module _ (work : Work) (primary number : ℕ) (book : Book) (s : Session) (line : Line) (is_book : IsBook work.lines work.sessions primary book) (next : IsNext book number s line) (calm : NoneShowsDown book.answers.items) (closed : s.stage ≡ Closed) where
  abbrev its_name : TrxName
  its_name = name_by number line.index

  its_stage : StageStands (execution_above work.lines work.sessions book.answers.items) primary number s Closed
  its_stage = subst (StageStands (execution_above work.lines work.sessions book.answers.items) primary number s) closed ((stands work.lines work.sessions primary number book s line is_book next).stage calm)

  pub is_begin : line.stmt ≡ Begin
  is_begin = only_begin line.stmt (subst (λ (o : Option Line). IfSome o (λ l. MayStand false l.stmt)) next.next its_stage)

  found : line_at work.lines number line.index ≡ Some line
  found = line_found work.lines work.sessions primary number book s line is_book next

  index_is : line.index ≡ suc s.next
  index_is = (found_here work.lines work.sessions primary number book s line is_book next).index_is

  pub is_named : IsIn its_name (begin_names work.lines)
  is_named =
      let its = line_is work.lines number line.index line found in
      subst (λ (n : ℕ). IsIn (name_by n line.index) (begin_names work.lines)) its.1
      (in_map name_of_line line (filter (λ l. begins (Some l.stmt)) work.lines) (in_filter (λ l. begins (Some l.stmt)) line work.lines its.0 (ap (λ (stmt : Stmt). begins (Some stmt)) is_begin)))

  pub its_trx : trx_in_lines work.lines number line.index ≡ its_name
  its_trx = begin_here work.lines number line.index (begins_found work.lines number line.index line found is_begin)

  pub next_trx : trx_in_lines work.lines s.number (s.next + 1) ≡ its_name
  next_trx =
      let up : s.next + 1 ≡ line.index = (let is = index_is in omega (arith, is)) in
      ap (λ (n : ℕ). trx_in_lines work.lines n (s.next + 1)) (stands work.lines work.sessions primary number book s line is_book next).number_is
      ∙ ap (λ (i : ℕ). trx_in_lines work.lines number i) up
      ∙ its_trx

  -- no transaction of the part has its version
  pub version_fresh : (q : CorePart) (down : ℕ) (entries : List Entry) → Kept work q down entries → AllByRecursion BeginsByAnswer entries → answers_in entries ≡ book.answers.items
      → (place : ℕ) → slice_get (begin_names work.lines) place ≡ Some its_name → (b : Begun) → IsIn b q.trx.begun → b.id.version ≢ work.base.version + place + 1
  version_fresh q down entries kept begun answers place there b begun_there is =
      let a = answered_begin work q down entries kept begun b begun_there in
      let same = some_is (name_by a.answer.session a.answer.index) its_name (sym a.named ∙ name_at work b.id place its_name is there) in
      let none = (stands work.lines work.sessions primary number book s line is_book next).unanswered line.index (let up = index_is in omega (arith, up)) in
      answer_there book.answers.items a.answer (subst (IsIn a.answer) answers a.there)
      (ap (λ (n : TrxName). answer_at book.answers.items n.session n.first) same ∙ none)
