-- A turn that committed a session's transaction, or told why it couldn't.
use Rattle.std.proofs.Common.{◌≡◌, ◌≢◌, ℕ, suc, ◌+◌, ◌<◌, ◌≤◌, ◌⊎◌, Bool, true, false, List, [], ◌∷◌, ◌++◌, drop, length, slice_get, slice_set, if◌then◌else◌, Option, None, Some, IfSome, refl, sym, ap, subst, ◌∙◌, inl, inr, ⊎_elim, arith}
use Rattle.std.specs.Option.{option_map}
use Rattle.std.proofs.lemmas.Option.{slice_get_within}
use Rattle.mp_machine.specs.Lists.{IsIn}
use Rattle.mp_machine.specs.View.{part_in}
use Rattle.mp_model.specs.declared.ids.TrxName.{TrxName}
use Rattle.mp_model.specs.declared.replies.Answer.{Answer}
use Rattle.mp_model.specs.declared.replies.Reply.{Reply}
use Rattle.mp_model.specs.declared.replies.Reply.TheVariants.{Began, Skipped}
use Rattle.mp_model.specs.declared.waiting.Turn.TheVariants as turns
use Rattle.mp_script.specs.declared.statements.Line.{Line}
use Rattle.mp_script.specs.declared.statements.SessionOn.{SessionOn}
use Rattle.mp_script.specs.declared.statements.Stmt.{Stmt}
use Rattle.mp_script.specs.declared.statements.Stmt.TheVariants.{Commit}
use Rattle.mp_script.specs.Execution.{line_at}
use Rattle.mp_script.specs.Transactions.{begins, begin_in, trx_in_lines, cts_of}
use Rattle.mp_script.specs.WentDown.{shows_down, is_stopped}
use Rattle.mp_cells.specs.declared.records.Mtr.{Mtr}
use Rattle.mp_cells.specs.declared.rows.Row.{Row}
use Rattle.mp_core_trx.specs.declared.part.Begun.{Begun}
use Rattle.mp_core_pages.specs.declared.part.Placed.{Placed}
use Rattle.mp_core.specs.declared.part.CorePart.{CorePart}
use Rattle.mp_core.specs.CoreExtends.{durable_of, CoreExtends}
use Rattle.mp_core.specs.OwnMtrs.{TrxMtr}
use Rattle.mp_book.specs.declared.book.Book.{Book}
use Rattle.mp_book.specs.declared.session.Session.{Session}
use Rattle.mp_book.specs.declared.stage.Stage.{Stage}
use Rattle.mp_book.specs.declared.stage.Stage.TheVariants.{Open}
use Rattle.mp_book.specs.Stages.{task_by, trx_of_stage, with_former}
use Rattle.mp_book.specs.Through.{is_no_task}
use Rattle.mp_book.specs.Answered.{NoneShowsDown}
use Rattle.mp_book.specs.Books.{IsBook, IsNext, IsAnswered, MayAnswer, stage_after}
use Rattle.mp_outside.specs.declared.disks.Disk.{Ghosts}
use Rattle.mp_outside.specs.Faults.{Rose}
use Rattle.mp_shared.specs.Nodes.{Run, NodeView, HoldsAll}
use Rattle.mp_trx_fusion.specs.Calls.{KnowsLess, tso_of}
use Rattle.mp_buffer_fusion.proofs.Kept.{set_here, set_else}
use Rattle.mp_buffer_fusion.proofs.Visiting.{one_part}
use Rattle.mp_supports.specs.Work.{Work}
use Rattle.mp_supports.specs.Supports.{Trace, IsTrxOf, SupportsReply, SupportsWaits}
use Rattle.mp_supports.specs.Kept.{Entry}
use Rattle.mp_supports.specs.Agreement.{Opens, Bounds, HasNoNewWait, rows_left, rows_left_by}
use Rattle.mp_supports.proofs.Extending.{begun_in}
use Rattle.mp_supports.proofs.Places.{at_place}
use Rattle.mp_supports.proofs.SupportsMore.{waits_more}
use Rattle.mp_desk.specs.Desks.{Moves}
use Rattle.mp_desk.proofs.Moving.{moves_as}
use Rattle.mp_primary.specs.declared.outside.CommitEnd.{CommitEnd}
use Rattle.mp_primary.specs.declared.outside.CommitEnd.TheVariants as ends
use Rattle.mp_primary.specs.Primaries.{PrimaryView, IsBetweenTurns, AreSessions, AreWaitsSupported, PrimaryAgreesIn, PrimaryAgrees, StandsWith}
use Rattle.mp_primary.specs.Turns.{Adds, GoesOnBy, TellsDown, TriesAt, has_nothing_left, no_task_in, IsLeftAfter}
use Rattle.mp_primary.specs.Tries.{TriesTurn}
use Rattle.mp_primary.specs.Commits.{EndsInPart, TellsIfWrote, down_by_end, stamp_at_end, reply_at_end, left_at_end, EndsByCommit}
use Rattle.mp_primary.proofs.OpenSessions.{one_of}
use Rattle.mp_primary.proofs.AnsweredTurns.{entry_of, AnswersWell, goes_on_answered, found_here, line_found}
use Rattle.mp_primary.proofs.PlainTurns.{one_answer, answered_not_done, answered_not_stopped, false_not_true, some_not_none}
use Rattle.mp_primary.proofs.OpenTrx.{open_part, open_has, open_calm, opened, its_node}
use Rattle.mp_primary.proofs.StillInTurns.{stage_in, stage_after_in, set_may}
use Rattle.mp_primary.proofs.CommitSides.{trace_at_end, did_at_end, went_at_end, not_nobody, part_then, sides_then, made_later}

-- ---- by how the commit ended

module _ (number : ℕ) (some : number ≢ 0) where
  -- an answer shows the primary down where it is
  pub shown_up : (end : CommitEnd) → down_by_end number end ≡ 0 → shows_down (reply_at_end (down_by_end number end) end) ≡ false
  shown_up ends.None up = refl
  shown_up (ends.At cts) up = refl
  shown_up (ends.Unknown cts) up = absurd (some up)
  shown_up ends.Stopped up = absurd (some up)

  pub told_down : (end : CommitEnd) → TellsDown (down_by_end number end) (reply_at_end (down_by_end number end) end)
  told_down ends.None = refl
  told_down (ends.At cts) = refl
  told_down (ends.Unknown cts) = some
  told_down ends.Stopped = (refl, some)

pub stamp_told : (down : ℕ) (end : CommitEnd) → cts_of (reply_at_end down end) ≡ stamp_at_end end
stamp_told down ends.None = refl
stamp_told down (ends.At cts) = refl
stamp_told down (ends.Unknown cts) = refl
stamp_told down ends.Stopped = refl

pub no_begin_told : (down view : ℕ) (end : CommitEnd) → reply_at_end down end ≢ Began view
no_begin_told down view ends.None e = absurd cc
no_begin_told down view (ends.At cts) e = absurd cc
no_begin_told down view (ends.Unknown cts) e = absurd cc
no_begin_told down view ends.Stopped e = absurd cc

pub no_skip_told : (down : ℕ) (end : CommitEnd) → reply_at_end down end ≢ Skipped
no_skip_told down ends.None e = absurd cc
no_skip_told down (ends.At cts) e = absurd cc
no_skip_told down (ends.Unknown cts) e = absurd cc
no_skip_told down ends.Stopped e = absurd cc

-- the session may be answered so
pub may_answer : (s : Session) (line : Line) (trx : Begun) (down : ℕ) (end : CommitEnd) → s.stage ≡ Open trx → line.stmt ≡ Commit → TellsIfWrote s.formers.items end
    → MayAnswer s line (reply_at_end down end) (stage_after s.stage line.stmt (reply_at_end down end)) (with_former s.formers.items None) s.restored
may_answer s line trx down ends.None stage stmt wrote = ((trx, stage), stmt, wrote, refl, refl, refl)
may_answer s line trx down (ends.At cts) stage stmt wrote = ((trx, stage), stmt, wrote, refl, refl, refl)
may_answer s line trx down (ends.Unknown cts) stage stmt wrote = ((trx, stage), stmt, wrote, refl, refl, refl)
may_answer s line trx down ends.Stopped stage stmt wrote = (None, refl, refl, refl)

-- and goes on at this stage
pub stage_left : (trx : Begun) (down : ℕ) (end : CommitEnd) (stage : Stage) (stmt : Stmt) → stage ≡ Open trx → trx_of_stage (stage_after stage stmt (reply_at_end down end)) ≡ left_at_end trx end
stage_left trx down ends.None stage stmt is = refl
stage_left trx down (ends.At cts) stage stmt is = refl
stage_left trx down (ends.Unknown cts) stage stmt is = ap trx_of_stage is
stage_left trx down ends.Stopped stage stmt is = ap trx_of_stage is

-- rows that are left are no more, where a session keeps them and its transaction, or has none
pub rows_no_more : (s next : Session) (trx : Begun) (left : Option Begun) → trx_of_stage s.stage ≡ Some trx → trx_of_stage next.stage ≡ left → next.formers.items ≡ s.formers.items → next.restored ≡ s.restored → rows_left next ≤ rows_left s
rows_no_more s next trx None had left formers restored = let none : rows_left next ≡ 0 = ap (λ (o : Option Begun). rows_left_by o next) left in omega (arith, none)
rows_no_more s next trx (Some other) had left formers restored =
    let after : rows_left next ≡ length (drop next.restored next.formers.items) = ap (λ (o : Option Begun). rows_left_by o next) left in
    let before : rows_left s ≡ length (drop s.restored s.formers.items) = ap (λ (o : Option Begun). rows_left_by o s) had in
    let same : length (drop next.restored next.formers.items) ≡ length (drop s.restored s.formers.items) = ap (λ (i : ℕ). length (drop i next.formers.items)) restored ∙ ap (λ (l : List Row). length (drop s.restored l)) formers in
    omega (arith, after, before, same)

-- ---- the transaction of the statement

module _ {D : Type 0} (g : Ghosts D) (run : Run) (old : PrimaryView D) (before : NodeView) (stands : StandsWith g run old before) (up : old.down ≡ 0) (number : ℕ) (trx : Begun) (s : Session) (line : Line) (next : IsNext old.book number s line) (stage : s.stage ≡ Open trx) (no_begin : begins (Some line.stmt) ≡ false) where
  same_trx : trx_in_lines old.work.lines line.session line.index ≡ trx_in_lines old.work.lines s.number s.next
  same_trx =
      let lines = old.work.lines in
      let here = found_here lines old.work.sessions old.number number old.book s line stands.primary.book next in
      let none : begins (option_map (λ (l : Line). l.stmt) (line_at lines number (suc s.next))) ≡ false = ap (λ (o : Option Line). begins (option_map (λ (l : Line). l.stmt) o)) here.found ∙ no_begin in
      ap (λ (k : ℕ). trx_in_lines lines k line.index) here.session_is
      ∙ ap (trx_in_lines lines number) here.index_is
      ∙ ap (λ (b : Bool). record { session = number; first = if b then suc s.next else begin_in lines number s.next }) none
      ∙ ap (λ (k : ℕ). trx_in_lines lines k s.next) (sym (stands.primary.book.each number s next.found).number_is)

  -- the statement is the open transaction's
  pub its_trx : (r : CorePart) → CoreExtends (open_part g run old before stands up) r → IsTrxOf old.work r line trx.id trx.view
  its_trx r went =
      let its = opened g run old before stands up number trx s next.found stage in
      record {
        begun = begun_in (open_part g run old before stands up) r went trx its.begun;
        named = its.named ∙ ap (λ (n : TrxName). Some n) (sym same_trx);
      }

-- ---- the support of the answer

not_both : (b : Bool) → b ≡ true → b ≡ false → ⊥
not_both b is isnt = let both : true ≡ false = sym is ∙ isnt in cc

module _ (work : Work) (line : Line) (trx : Begun) (number : ℕ) (some : number ≢ 0) (own : trx.id.node ≡ number) (stmt : line.stmt ≡ Commit) (q r : CorePart) (of : IsTrxOf work r line trx.id trx.view) where
  pub supports_end : (end : CommitEnd) (h : EndsInPart trx end q r) → SupportsReply work r (down_by_end number end) (trace_at_end trx q r end h) line (reply_at_end (down_by_end number end) end)
  supports_end ends.None h = (stmt, refl)
  supports_end (ends.At cts) h = (trx.id, trx.view, of, (h.commits.mtr, stmt, refl, h.commits.recorded, h.durable))
  supports_end (ends.Unknown cts) h = (trx.id, trx.view, of, (h.commits.mtr, stmt, refl, h.commits.recorded), sym own, some)
  supports_end ends.Stopped h = (refl, some, inl refl)

  -- one that shows the primary down rests on no durable mtr
  pub in_doubt_at : (end : CommitEnd) (h : EndsInPart trx end q r) (reply : Reply) → reply ≡ reply_at_end (down_by_end number end) end → shows_down reply ≡ true → IfSome (trace_at_end trx q r end h).mtr (λ m. durable_of r < m.mtr.llsn)
  in_doubt_at ends.None h reply is shown = tt
  in_doubt_at (ends.At cts) h reply is shown = absurd (not_both (shows_down reply) shown (ap shows_down is))
  in_doubt_at (ends.Unknown cts) h reply is shown = h.not_durable
  in_doubt_at ends.Stopped h reply is shown = tt

-- ---- the turn

module _ {D : Type 0} (g : Ghosts D) (run : Run) (old now : PrimaryView D) (book : Book) (before after : NodeView) (number : ℕ) (trx : Begun) (end : CommitEnd) (comes : TriesAt g run old before number trx Commit)
    (e : EndsByCommit g run old now before after number trx end)
    (is : IsAnswered old.book book number comes.session comes.line (reply_at_end (down_by_end old.number end) end) (stage_after comes.session.stage comes.line.stmt (reply_at_end (down_by_end old.number end) end)) comes.session.formers.items comes.session.restored)
    (books : IsBook old.work.lines old.work.sessions old.number book)
    (above : (cts : ℕ) → stamp_at_end end ≡ Some cts → KnowsLess before old.number cts) (exact : (cts : ℕ) → stamp_at_end end ≡ Some cts → HoldsAll before → cts ≡ tso_of before + 1) where
  abbrev s : Session
  s = comes.session

  abbrev line : Line
  line = comes.line

  abbrev down : ℕ
  down = down_by_end old.number end

  abbrev new : PrimaryView D
  new = record old { book = book; desk = now.desk; media = now.media; down = down }

  abbrev stands : StandsWith g run old before
  stands = comes.comes.stands

  abbrev next : IsNext old.book number s line
  next = comes.comes.next

  abbrev q : CorePart
  q = open_part g run old before stands comes.up

  abbrev has : part_in before.parts old.number ≡ Some q
  has = open_has g run old before stands comes.up

  left : trx_of_stage is.after.stage ≡ left_at_end trx end
  left = ap trx_of_stage is.goes.stage_is ∙ stage_left trx down end s.stage line.stmt comes.stage

  waits : HasNoNewWait s is.after
  waits = inl is.goes.waits

  rows : rows_left is.after ≤ rows_left s
  rows = rows_no_more s is.after trx (left_at_end trx end) (ap trx_of_stage comes.stage) left is.goes.formers_are is.goes.restored_is

  abbrev then : (x : CorePart) × (part_in after.parts old.number ≡ Some x) × EndsInPart trx end q x
  then = part_then g run old now before after number trx end stands comes.up e s next.found comes.stage is.after left waits rows

  abbrev r : CorePart
  r = then.0

  abbrev trace : Trace
  trace = trace_at_end trx q r end then.2

  some : old.number ≢ 0
  some = not_nobody g run old now before after number trx end stands comes.up e s next.found comes.stage is.after left waits rows

  went : CoreExtends q r
  went = went_at_end trx q r end then.2

  no_begin : begins (Some line.stmt) ≡ false
  no_begin = ap (λ (t : Stmt). begins (Some t)) comes.stmt_is

  of : IsTrxOf old.work r line trx.id trx.view
  of = its_trx g run old before stands comes.up number trx s line next comes.stage no_begin r went

  own : trx.id.node ≡ old.number
  own = its_node g run old before stands comes.up number trx s next.found comes.stage

  waits_supported : (entries : List Entry) → PrimaryAgrees g old entries q → SupportsWaits old.work r line s.waits.items
  waits_supported entries was =
      waits_more q r went old.work line s.waits.items
      (subst (λ (o : Option Line). IfSome o (λ l. SupportsWaits old.work q l s.waits.items)) next.next (was.waits s (at_place old.book.sessions.items number s next.found)))

  well : (entries : List Entry) → PrimaryAgrees g old entries q → AnswersWell g old new is.answer trace q r
  well entries was =
      let so = sides_then g run old now before after number trx end stands comes.up e s next.found comes.stage is.after left waits rows entries was in
      record {
        down = inl comes.up;
        did = did_at_end trx q r end then.2;
        may = record {
          supported = record {
            line = line;
            found = ap (λ (k : ℕ). line_at old.work.lines k is.answer.index) is.session ∙ ap (line_at old.work.lines number) is.index ∙ line_found old.work.lines old.work.sessions old.number number old.book s line stands.primary.book next;
            reply = subst (SupportsReply old.work r down trace line) (sym is.reply_is) (supports_end old.work line trx old.number some own comes.stmt_is q r of end then.2);
            waits = subst (SupportsWaits old.work r line) (sym is.waits) (waits_supported entries was);
          };
          in_doubt = in_doubt_at old.work line trx old.number some own comes.stmt_is q r of end then.2 is.answer.reply is.reply_is;
          up = λ still. ap shows_down is.reply_is ∙ shown_up old.number some end still;
        };
        opens = λ still. subst (λ (l : List Session). Opens old.work r 0 l) (sym is.sessions) (so.opens still);
        sessions = subst (AreSessions r) (sym is.sessions) so.sessions_are;
        waits = subst (AreWaitsSupported old.work r) (sym is.sessions) so.waits;
        mirrors = so.mirrors;
        media = so.media;
        bounds = subst (λ (l : List Session). Bounds old.work r book.answers.items l) (sym is.sessions)
            (subst (λ (l : List Answer). Bounds old.work r l (slice_set old.book.sessions.items number is.after)) (sym is.answers)
            (so.bounds (is.answer ∷ [])));
      }

  left_after : IsLeftAfter before (entry_of is.answer trace)
  left_after = go trace.mtr refl
    where
      go : (o : Option TrxMtr) → trace.mtr ≡ o → IfSome o (λ m. (k : ℕ) (other : CorePart) (x : Placed Mtr) → part_in before.parts k ≡ Some other → IsIn x other.pages.made → x.at < m.at)
      go None e_is = tt
      go (Some m) e_is = made_later g run old now before after number trx end stands comes.up e s next.found comes.stage is.after left waits rows m e_is

  goes : (entries : List Entry) → PrimaryAgreesIn g old entries before → GoesOnBy g old new before after (Some number) entries turns.Answered
  goes =
      goes_on_answered g old new before after number s line (reply_at_end down end) (stage_after s.stage line.stmt (reply_at_end down end)) s.formers.items s.restored next is refl refl trace q has
      (λ entries x was there. subst (AnswersWell g old new is.answer trace q) (one_part (part_in after.parts old.number) r x then.1 there) (well entries was))
      left_after

  primary : IsBetweenTurns new
  primary = record {
    book = books;
    names = stands.primary.names;
    places = stands.primary.places;
    own = e.own;
    up = λ still. let ready = e.ready still in (ready.log, ready.empty, ready.forced);
  }

  went_all : Moves CoreExtends old.number before after
  went_all = moves_as old.number (EndsInPart trx end) CoreExtends (λ x y h. went_at_end trx x y end h) before after e.ended

  pub committed_turn : TriesTurn g run old new before after (Some number) turns.Answered
  committed_turn = record {
    stands = record {
      primary = primary;
      desk = e.desk;
      agrees = let more = goes stands.agrees.0 stands.agrees.1 in (stands.agrees.0 ++ more.more, more.agrees);
    };
    number = refl;
    work = refl;
    went = went_all;
    goes_on = goes;
    others = λ other ne. ap (λ (l : List Session). slice_get l other) is.sessions ∙ set_else old.book.sessions.items number other is.after (λ same. ne (ap (λ (k : ℕ). Some k) (sym same)));
    named = λ x there. ap (λ (v : Session). v.waits.items) (one_of (slice_get book.sessions.items number) is.after x here there) ∙ is.goes.waits;
    cause = tt;
    up = tt;
    answers = tt;
    down = by_down end e.rose;
    faults = e.faults;
    tells = e.tells;
    may_go_on = set_may new number old.book.sessions.items s is.after next.found is.sessions
        (stage_in is.after.stage (stage_after s.stage line.stmt (reply_at_end down end)) is.goes.stage_is (stage_after_in s.stage line.stmt (reply_at_end down end) comes.comes.inside));
    begins = λ a view more so. absurd (no_begin_told down view end (its_reply a more ∙ so));
    draws = λ a cts more so. let told = sym (stamp_told down end) ∙ ap cts_of (its_reply a more) ∙ so in (above cts told, exact cts told);
    skips = λ a more so. absurd (no_skip_told down end (its_reply a more ∙ so));
    stops = λ a more. subst (TellsDown down) (its_reply a more) (told_down old.number some end);
    done = ((λ e_is. absurd (answered_not_done e_is)), (λ still nothing. absurd (false_not_true (sym busy ∙ nothing))));
    stopped = ((λ by e_is. absurd (answered_not_stopped by e_is)), (λ gone none. absurd (some_not_none line (sym next.next ∙ none s next.found))));
  }
    where
      busy : has_nothing_left old (Some number) ≡ false
      busy = ap no_task_in next.found ∙ ap (λ (o : Option Line). is_no_task (task_by o s.stage)) next.next

      here : slice_get book.sessions.items number ≡ Some is.after
      here = ap (λ (l : List Session). slice_get l number) is.sessions ∙ set_here old.book.sessions.items number is.after (slice_get_within old.book.sessions.items number s next.found)

      its_reply : (a : Answer) → Adds old new a → reply_at_end down end ≡ a.reply
      its_reply a more = sym is.reply_is ∙ ap (λ (x : Answer). x.reply) (one_answer old.book.answers.items is.answer a (sym is.answers ∙ more))

      by_down : (end : CommitEnd) → (down_by_end old.number end ≡ 0) ⊎ Rose (g.faults old.media.log.disk) (g.faults now.media.log.disk)
          → (down_by_end old.number end ≡ old.down) ⊎ ((old.down ≡ 0) × (down_by_end old.number end ≡ old.number) × Rose (g.faults old.media.log.disk) (g.faults now.media.log.disk))
      by_down ends.None rose = inl (sym comes.up)
      by_down (ends.At cts) rose = inl (sym comes.up)
      by_down (ends.Unknown cts) rose = ⊎_elim (λ zero. absurd (some zero)) (λ up_it. inr (comes.up, refl, up_it)) rose
      by_down ends.Stopped rose = ⊎_elim (λ zero. absurd (some zero)) (λ up_it. inr (comes.up, refl, up_it)) rose

-- the same, of what a method sees
module _ {D : Type 0} (g : Ghosts D) (run : Run) (old now : PrimaryView D) (book : Book) (before after : NodeView) (number : ℕ) (trx : Begun) (end : CommitEnd) (reply : Reply) (comes : TriesAt g run old before number trx Commit)
    (e : EndsByCommit g run old now before after number trx end) (told : reply ≡ reply_at_end now.down end)
    (above : (cts : ℕ) → stamp_at_end end ≡ Some cts → KnowsLess before old.number cts) (exact : (cts : ℕ) → stamp_at_end end ≡ Some cts → HoldsAll before → cts ≡ tso_of before + 1) where
  now_down : now.down ≡ down_by_end old.number end
  now_down = ap (λ (v : PrimaryView D). v.down) e.rest

  reply_is : reply ≡ reply_at_end (down_by_end old.number end) end
  reply_is = told ∙ ap (λ (d : ℕ). reply_at_end d end) now_down

  old_book : now.book ≡ old.book
  old_book = ap (λ (v : PrimaryView D). v.book) e.rest

  pub may_answer_end : (s : Session) × (line : Line) × IsNext now.book number s line × MayAnswer s line reply (stage_after s.stage line.stmt reply) (with_former s.formers.items None) s.restored × Unit {0}
  may_answer_end =
      let s = comes.session in
      let line = comes.line in (
        s,
        line,
        subst (λ (b : Book). IsNext b number s line) (sym old_book) comes.comes.next,
        subst (λ (x : Reply). MayAnswer s line x (stage_after s.stage line.stmt x) (with_former s.formers.items None) s.restored) (sym told) (may_answer s line trx now.down end comes.stage comes.stmt_is (e.wrote s comes.comes.next.found)),
        tt,
      )

  pub committed_inside : ((x : Session) (l : Line) → IsNext now.book number x l → IsAnswered now.book book number x l reply (stage_after x.stage l.stmt reply) (with_former x.formers.items None) x.restored)
      → ((lines : List Line) (sessions : List SessionOn) (primary : ℕ) → IsBook lines sessions primary now.book → (is_stopped reply ≡ true) ⊎ NoneShowsDown now.book.answers.items → IsBook lines sessions primary book)
      → TriesTurn g run old (record now { book = book }) before after (Some number) turns.Answered
  committed_inside answered books =
      let s = comes.session in
      let line = comes.line in
      let next = comes.comes.next in
      let by_now : IsAnswered now.book book number s line reply (stage_after s.stage line.stmt reply) s.formers.items s.restored = answered s line (subst (λ (b : Book). IsNext b number s line) (sym old_book) next) in
      let by_old : IsAnswered old.book book number s line reply (stage_after s.stage line.stmt reply) s.formers.items s.restored = subst (λ (b : Book). IsAnswered b book number s line reply (stage_after s.stage line.stmt reply) s.formers.items s.restored) old_book by_now in
      let is = subst (λ (x : Reply). IsAnswered old.book book number s line x (stage_after s.stage line.stmt x) s.formers.items s.restored) reply_is by_old in
      let was : IsBook old.work.lines old.work.sessions old.number now.book = subst (IsBook old.work.lines old.work.sessions old.number) (sym old_book) comes.comes.stands.primary.book in
      let calm_now : NoneShowsDown now.book.answers.items = subst (λ (b : Book). NoneShowsDown b.answers.items) (sym old_book) (open_calm g run old before comes.comes.stands comes.up) in
      subst (λ (v : PrimaryView D). TriesTurn g run old (record v { book = book }) before after (Some number) turns.Answered) (sym e.rest)
      (committed_turn g run old now book before after number trx end comes e is (books old.work.lines old.work.sessions old.number was (inr calm_now)) above exact)
