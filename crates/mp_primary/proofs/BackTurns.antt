-- A turn that ends a transaction of which all is put back: with an answer, or unprinted.
use Rattle.std.proofs.Common.{◌≡◌, ◌≢◌, ℕ, true, false, List, [], ◌∷◌, ◌++◌, length, slice_get, slice_set, Option, None, Some, is_some, IfSome, refl, sym, ap, subst, ◌∙◌, inl, inr, arith, length-append}
use Rattle.std.proofs.lemmas.List.{append-nil}
use Rattle.std.proofs.lemmas.Option.{slice_get_within}
use Rattle.mp_machine.specs.View.{part_in}
use Rattle.mp_model.specs.Listed.{Listed}
use Rattle.mp_model.specs.declared.replies.Answer.{Answer}
use Rattle.mp_model.specs.declared.replies.Reply.{Reply}
use Rattle.mp_model.specs.declared.replies.Reply.TheVariants.{Began, RolledBack}
use Rattle.mp_model.specs.declared.replies.WriteVerb.{WriteVerb}
use Rattle.mp_model.specs.declared.waiting.Turn.TheVariants as turns
use Rattle.mp_script.specs.declared.statements.Line.{Line}
use Rattle.mp_script.specs.declared.statements.Stmt.{Stmt}
use Rattle.mp_script.specs.declared.statements.Stmt.TheVariants.{Rollback}
use Rattle.mp_script.specs.Execution.{line_at}
use Rattle.mp_script.specs.Right.{WritesKey}
use Rattle.mp_script.specs.Transactions.{target_of, cts_of}
use Rattle.mp_script.specs.WentDown.{shows_down}
use Rattle.mp_core_trx.specs.declared.part.Begun.{Begun}
use Rattle.mp_core.specs.declared.part.CorePart.{CorePart}
use Rattle.mp_core.specs.CoreExtends.{CoreExtends}
use Rattle.mp_book.specs.declared.book.Book.{Book}
use Rattle.mp_book.specs.declared.session.Session.{Session}
use Rattle.mp_book.specs.declared.stage.Refusal.{Refusal}
use Rattle.mp_book.specs.declared.stage.Refusal.TheVariants as refusals
use Rattle.mp_book.specs.declared.stage.Stage.{Stage}
use Rattle.mp_book.specs.declared.stage.Stage.TheVariants.{Closed, Open, Refused, Leaving, Skipping, Outside}
use Rattle.mp_book.specs.Stages.{next_line, trx_of_stage, task_by, HaveOneRowEach}
use Rattle.mp_book.specs.Answered.{execution_above, NoneShowsDown}
use Rattle.mp_book.specs.Through.{is_no_task}
use Rattle.mp_book.specs.Books.{IsBook, IsNext, IsAnswered, IsRefusalReply, MayAnswer, StageStands, stage_after}
use Rattle.mp_outside.specs.declared.disks.Disk.{Ghosts}
use Rattle.mp_shared.specs.Nodes.{Run, NodeView}
use Rattle.mp_shared.proofs.Holding.{held_part}
use Rattle.mp_buffer_fusion.proofs.Kept.{set_here, set_else}
use Rattle.mp_supports.specs.Supports.{no_trace, SupportsReply, SupportsWaits}
use Rattle.mp_supports.specs.Kept.{Entry, MayBeKept}
use Rattle.mp_supports.specs.Agreement.{RefusalSupported, Opens, Bounds}
use Rattle.mp_supports.proofs.Places.{at_place}
use Rattle.mp_supports.proofs.SupportsMore.{reply_more, waits_more}
use Rattle.mp_desk.specs.Desks.{Moves}
use Rattle.mp_desk.specs.Making.{HoldsPartOf}
use Rattle.mp_primary.specs.Primaries.{PrimaryView, PrimaryAgreesIn, PrimaryAgrees, StandsWith}
use Rattle.mp_primary.specs.Turns.{IsSessionOf, Adds, GoesOnBy, ComesTo, has_nothing_left, no_task_in, TellsDown, IsTakenBack}
use Rattle.mp_primary.specs.Tries.{TriesTurn}
use Rattle.mp_primary.specs.GoingOn.{GoesBackOf, MayReplyBack, refusal_reply, IsReplyBack, ClosesSession}
use Rattle.mp_primary.proofs.OpenSessions.{one_of}
use Rattle.mp_primary.proofs.AnsweredTurns.{calm, entry_of, AnswersWell, goes_on_answered, line_found}
use Rattle.mp_primary.proofs.FreedSlots.{Freeing}
use Rattle.mp_primary.proofs.StillInTurns.{stage_in, closed_in, stage_after_in, set_may}

-- ---- the reply

-- it begins nothing, draws nothing, and shows no primary down, and its session has no transaction then
record IsPlain (stage : Stage) (stmt : Stmt) (reply : Reply) : Type 0 where
  pub over : trx_of_stage (stage_after stage stmt reply) ≡ None
  pub no_begin : (view : ℕ) → reply ≢ Began view
  pub no_stamp : cts_of reply ≡ None
  pub calm : shows_down reply ≡ false
  pub tells : (down : ℕ) → down ≡ 0 → TellsDown down reply

refused_plain : (stage : Stage) (stmt : Stmt) (verb : WriteVerb) (refusal : Refusal) → IsPlain stage stmt (refusal_reply verb refusal)
refused_plain stage stmt verb (refusals.Conflict cts) = record { over = refl; no_begin = λ view e. cc; no_stamp = refl; calm = refl; tells = λ down up. up }
refused_plain stage stmt verb (refusals.Held name) = record { over = refl; no_begin = λ view e. cc; no_stamp = refl; calm = refl; tells = λ down up. up }
refused_plain stage stmt verb refusals.Full = record { over = refl; no_begin = λ view e. cc; no_stamp = refl; calm = refl; tells = λ down up. up }

left_plain : (stage : Stage) (stmt : Stmt) → IsPlain stage stmt RolledBack
left_plain stage stmt = record { over = refl; no_begin = λ view e. cc; no_stamp = refl; calm = refl; tells = λ down up. up }

plain : (at stage : Stage) (line : Line) (reply : Reply) → IsReplyBack at line reply → IsPlain stage line.stmt reply
plain Closed stage line reply h = absurd h
plain (Open trx) stage line reply h = absurd h
plain (Refused trx refusal) stage line reply h = subst (IsPlain stage line.stmt) (sym h.3) (refused_plain stage line.stmt h.0 refusal)
plain (Leaving trx) stage line reply h = subst (IsPlain stage line.stmt) (sym h) (left_plain stage line.stmt)
plain Skipping stage line reply h = absurd h
plain (Outside trx) stage line reply h = absurd h

is_refusal : (verb : WriteVerb) (key : ℕ) (line : Line) (refusal : Refusal) → WritesKey line verb key → IsRefusalReply refusal line (refusal_reply verb refusal)
is_refusal verb key line (refusals.Conflict cts) writes = (refl, (key, writes))
is_refusal verb key line (refusals.Held name) writes = (refl, (key, writes))
is_refusal verb key line refusals.Full writes = (key, writes)

refused_may : (s : Session) (line : Line) (trx : Begun) (verb : WriteVerb) (key : ℕ) (refusal : Refusal) → WritesKey line verb key → s.stage ≡ Refused trx refusal → s.restored ≡ length s.formers.items
    → MayAnswer s line (refusal_reply verb refusal) (stage_after s.stage line.stmt (refusal_reply verb refusal)) s.formers.items s.restored
refused_may s line trx verb key (refusals.Conflict cts) writes at all = (trx, refusals.Conflict cts, at, is_refusal verb key line (refusals.Conflict cts) writes, all, refl, refl, refl)
refused_may s line trx verb key (refusals.Held name) writes at all = (trx, refusals.Held name, at, is_refusal verb key line (refusals.Held name) writes, all, refl, refl, refl)
refused_may s line trx verb key refusals.Full writes at all = (trx, refusals.Full, at, is_refusal verb key line refusals.Full writes, all, refl, refl, refl)

-- ---- what its session stands at

module _ {D : Type 0} (g : Ghosts D) (run : Run) (pr : PrimaryView D) (n : NodeView) (number : ℕ) (stands : StandsWith g run pr n) (up : pr.down ≡ 0) where
  pub none_down : NoneShowsDown pr.book.answers.items
  none_down =
      let has = held_part n pr.number stands.desk.part in
      let was = stands.agrees.1 has.0 has.1 in
      subst NoneShowsDown was.answers (calm stands.agrees.0 (was.kept.up up))

  pub stood_at : (s : Session) → IsSessionOf pr number s → (stage : Stage) → s.stage ≡ stage → StageStands (execution_above pr.work.lines pr.work.sessions pr.book.answers.items) pr.number number s stage
  stood_at s found stage is = subst (StageStands (execution_above pr.work.lines pr.work.sessions pr.book.answers.items) pr.number number s) is ((stands.primary.book.each number s found).stage none_down)

  -- a session whose rows are put back in a turn keeps one row of a key
  pub back_of : (s : Session) (trx : Begun) → IsSessionOf pr number s → IsTakenBack s.stage → trx_of_stage s.stage ≡ Some trx → GoesBackOf pr number s trx
  back_of s trx found taken is = record { found = found; back = taken.0; trx_is = is; once = by_stage s.stage refl taken }
    where
      by_stage : (stage : Stage) → s.stage ≡ stage → IsTakenBack stage → HaveOneRowEach s.formers.items
      by_stage Closed at taken = absurd taken.0
      by_stage (Open trx) at taken = absurd taken.0
      by_stage (Refused trx refusal) at taken = (stood_at s found (Refused trx refusal) at).0.once
      by_stage (Leaving trx) at taken = (stood_at s found (Leaving trx) at).0.once
      by_stage Skipping at taken = absurd taken.0
      by_stage (Outside trx) at taken = absurd (taken.1 trx refl)

  module _ (s : Session) (line : Line) (next : IsNext pr.book number s line) where
    same_line : (other : Line) → next_line s ≡ Some other → other ≡ line
    same_line other is = let both : Some other ≡ Some line = sym is ∙ next.next in cc

    pub rollback_line : (trx : Begun) → s.stage ≡ Leaving trx → line.stmt ≡ Rollback
    rollback_line trx at = let stood = stood_at s next.found (Leaving trx) at in subst (λ (o : Option Line). IfSome o (λ l. l.stmt ≡ Rollback)) next.next stood.1

    pub may_reply : IsTakenBack s.stage → MayReplyBack s.stage line.stmt
    may_reply taken = by_stage s.stage refl taken
      where
        by_stage : (stage : Stage) → s.stage ≡ stage → IsTakenBack stage → MayReplyBack stage line.stmt
        by_stage Closed at taken = absurd taken.0
        by_stage (Open trx) at taken = absurd taken.0
        by_stage (Refused trx refusal) at taken = let stood = (stood_at s next.found (Refused trx refusal) at).1 in subst (λ (l : Line). is_some (target_of l.stmt) ≡ true) (same_line stood.0 stood.1) stood.2
        by_stage (Leaving trx) at taken = tt
        by_stage Skipping at taken = absurd taken.0
        by_stage (Outside trx) at taken = absurd (taken.1 trx refl)

    module _ (reply : Reply) (all : s.restored ≡ length s.formers.items) where
      pub may_answer : IsReplyBack s.stage line reply → MayAnswer s line reply (stage_after s.stage line.stmt reply) s.formers.items s.restored
      may_answer h = by_stage s.stage refl h
        where
          by_stage : (stage : Stage) → s.stage ≡ stage → IsReplyBack stage line reply → MayAnswer s line reply (stage_after s.stage line.stmt reply) s.formers.items s.restored
          by_stage Closed at h = absurd h
          by_stage (Open trx) at h = absurd h
          by_stage (Refused trx refusal) at h = subst (λ (x : Reply). MayAnswer s line x (stage_after s.stage line.stmt x) s.formers.items s.restored) (sym h.3) (refused_may s line trx h.0 h.1 refusal h.2 at all)
          by_stage (Leaving trx) at h = subst (λ (x : Reply). MayAnswer s line x (stage_after s.stage line.stmt x) s.formers.items s.restored) (sym h) (trx, at, rollback_line trx at, all, refl, refl, refl)
          by_stage Skipping at h = absurd h
          by_stage (Outside trx) at h = absurd h

    -- the reply has its support by the part
    supported_back : (q : CorePart) (reply : Reply) → RefusalSupported pr.work q 0 s.stage (next_line s) → IsReplyBack s.stage line reply → SupportsReply pr.work q 0 no_trace line reply
    supported_back q reply refused h = by_stage s.stage refl refused h
      where
        by_stage : (stage : Stage) → s.stage ≡ stage → RefusalSupported pr.work q 0 stage (next_line s) → IsReplyBack stage line reply → SupportsReply pr.work q 0 no_trace line reply
        by_stage Closed at refused h = absurd h
        by_stage (Open trx) at refused h = absurd h
        by_stage (Refused trx refusal) at refused h =
            let supports = subst (λ (o : Option Line). IfSome o (λ l. (x : Reply) → IsRefusalReply refusal l x → SupportsReply pr.work q 0 no_trace l x)) next.next refused in
            subst (SupportsReply pr.work q 0 no_trace line) (sym h.3) (supports (refusal_reply h.0 refusal) (is_refusal h.0 h.1 line refusal h.2))
        by_stage (Leaving trx) at refused h = subst (SupportsReply pr.work q 0 no_trace line) (sym h) (rollback_line trx at, refl)
        by_stage Skipping at refused h = absurd h
        by_stage (Outside trx) at refused h = absurd h

answered_not_done : turns.Answered ≡ turns.Done → ⊥
answered_not_done e = cc

answered_not_stopped : (by : ℕ) → turns.Answered ≡ turns.Stopped by → ⊥
answered_not_stopped by e = cc

false_not_true : false ≡ true → ⊥
false_not_true e = cc

some_not_none : (line : Line) → Some line ≡ None → ⊥
some_not_none line e = cc

none_some : (cts : ℕ) → ◌≡◌ {A = Option ℕ} None (Some cts) → ⊥
none_some cts e = cc

-- the answer that was added is that one
one_answer : (items : List Answer) (a b : Answer) → items ++ a ∷ [] ≡ items ++ b ∷ [] → a ≡ b
one_answer [] a b e = cc
one_answer (x ∷ items) a b e = one_answer items a b (tails (items ++ a ∷ []) (items ++ b ∷ []) e)
  where
    tails : (l m : List Answer) → x ∷ l ≡ x ∷ m → l ≡ m
    tails l m e = cc

-- ---- the answer

module _ {D : Type 0} (g : Ghosts D) (run : Run) (pr : PrimaryView D) (n after : NodeView) (number : ℕ) (s : Session) (line : Line) (comes : ComesTo g run pr n number s line) (trx : Begun) (up : pr.down ≡ 0) (f : Freeing g run pr n after number s trx)
    (reply : Reply) (replies : IsReplyBack s.stage line reply) (book : Book) (is : IsAnswered pr.book book number s line reply (stage_after s.stage line.stmt reply) s.formers.items s.restored) (books : IsBook pr.work.lines pr.work.sessions pr.number book) where
  abbrev new : PrimaryView D
  new = record pr { book = book }

  found : IsSessionOf pr number s
  found = comes.next.found

  is_plain : IsPlain s.stage line.stmt reply
  is_plain = plain s.stage s.stage line reply replies

  over : trx_of_stage is.after.stage ≡ None
  over = ap trx_of_stage is.goes.stage_is ∙ is_plain.over

  busy : has_nothing_left pr (Some number) ≡ false
  busy = ap no_task_in found ∙ ap (λ (o : Option Line). is_no_task (task_by o s.stage)) comes.next.next

  opens : Opens pr.work f.r 0 book.sessions.items
  opens = subst (Opens pr.work f.r 0) (sym is.sessions) (f.opens is.after over (inl is.goes.waits))

  may : (was : Opens pr.work f.q 0 pr.book.sessions.items) → MayBeKept pr.work f.r pr.down (entry_of is.answer no_trace)
  may was =
      let held = at_place pr.book.sessions.items number s found in
      let supported = supported_back g run pr n number comes.stands up s line comes.next f.q reply (was.refused s held) replies in
      record {
        supported = record {
          line = line;
          found = ap (λ (k : ℕ). line_at pr.work.lines k is.answer.index) is.session ∙ ap (line_at pr.work.lines number) is.index ∙ line_found pr.work.lines pr.work.sessions pr.number number pr.book s line comes.stands.primary.book comes.next;
          reply = reply_more f.q f.r f.did.extends pr.work 0 pr.down no_trace line is.answer.reply (inl refl) (subst (SupportsReply pr.work f.q 0 no_trace line) (sym is.reply_is) supported);
          waits = waits_more f.q f.r f.did.extends pr.work line is.answer.waits.items (subst (SupportsWaits pr.work f.q line) (sym is.waits) (subst (λ (o : Option Line). IfSome o (λ l. SupportsWaits pr.work f.q l s.waits.items)) comes.next.next (was.waits s held)));
        };
        in_doubt = λ down. tt;
        up = λ z. ap shows_down is.reply_is ∙ is_plain.calm;
      }

  well : (entries : List Entry) (r : CorePart) → PrimaryAgrees g pr entries f.q → part_in after.parts pr.number ≡ Some r → AnswersWell g pr new is.answer no_trace f.q r
  well entries r was there =
      subst (AnswersWell g pr new is.answer no_trace f.q) (one_of (part_in after.parts pr.number) r f.r there f.there)
      (record {
        down = inl up;
        did = f.did;
        may = may (was.opens up);
        opens = λ z. opens;
        sessions = opens.only;
        waits = opens.waits;
        mirrors = f.mirrors was.mirrors;
        media = f.media (λ x has. subst (HoldsPartOf g pr.work pr.down pr.number pr.media) (one_of (part_in n.parts pr.number) x f.q has f.has) was.media);
        bounds = subst (λ (l : List Session). Bounds pr.work f.r book.answers.items l) (sym is.sessions)
            (subst (λ (l : List Answer). Bounds pr.work f.r l (slice_set pr.book.sessions.items number is.after)) (sym is.answers) (f.bounds is.after over (is.answer ∷ []) was.bounds));
      })

  goes : (entries : List Entry) → PrimaryAgreesIn g pr entries n → GoesOnBy g pr new n after (Some number) entries turns.Answered
  goes = goes_on_answered g pr new n after number s line reply (stage_after s.stage line.stmt reply) s.formers.items s.restored comes.next is refl refl no_trace f.q f.has well tt

  its_reply : (a : Answer) → Adds pr new a → reply ≡ a.reply
  its_reply a more = sym is.reply_is ∙ ap (λ (x : Answer). x.reply) (one_answer pr.book.answers.items is.answer a (sym is.answers ∙ more))

  pub answered_back : TriesTurn g run pr new n after (Some number) turns.Answered
  answered_back = record {
    stands = record {
      primary = record { book = books; names = comes.stands.primary.names; places = comes.stands.primary.places; own = comes.stands.primary.own; up = comes.stands.primary.up };
      desk = f.desk;
      agrees = let more = goes comes.stands.agrees.0 comes.stands.agrees.1 in (comes.stands.agrees.0 ++ more.more, more.agrees);
    };
    number = refl;
    work = refl;
    went = f.goes;
    goes_on = goes;
    others = λ other ne. ap (λ (l : List Session). slice_get l other) is.sessions ∙ set_else pr.book.sessions.items number other is.after (λ same. ne (ap (λ (k : ℕ). Some k) (sym same)));
    named = λ x there. ap (λ (v : Session). v.waits.items) (one_of (slice_get book.sessions.items number) is.after x (ap (λ (l : List Session). slice_get l number) is.sessions ∙ set_here pr.book.sessions.items number is.after (slice_get_within pr.book.sessions.items number s found)) there) ∙ is.goes.waits;
    cause = tt;
    up = tt;
    answers = tt;
    down = inl refl;
    faults = omega arith;
    tells = refl;
    may_go_on = set_may new number pr.book.sessions.items s is.after found is.sessions
        (stage_in is.after.stage (stage_after s.stage line.stmt reply) is.goes.stage_is (stage_after_in s.stage line.stmt reply comes.inside));
    begins = λ a view more so. absurd (is_plain.no_begin view (its_reply a more ∙ so));
    draws = λ a cts more so. absurd (none_some cts (sym is_plain.no_stamp ∙ ap cts_of (its_reply a more) ∙ so));
    skips = λ a more so. up;
    stops = λ a more. subst (TellsDown pr.down) (its_reply a more) (is_plain.tells pr.down up);
    done = ((λ e. absurd (answered_not_done e)), (λ z nothing. absurd (false_not_true (sym busy ∙ nothing))));
    stopped = ((λ by e. absurd (answered_not_stopped by e)), (λ down none. absurd (some_not_none line (sym comes.next.next ∙ none s found))));
  }

-- ---- the end that isn't printed

module _ {D : Type 0} (g : Ghosts D) (run : Run) (pr : PrimaryView D) (n after : NodeView) (number : ℕ) (s : Session) (found : IsSessionOf pr number s) (through : next_line s ≡ None) (up : pr.down ≡ 0) (busy : has_nothing_left pr (Some number) ≡ false)
    (book : Book) (closes : ClosesSession pr.book book number s) (stands : StandsWith g run (record pr { book = book }) after) (went : Moves CoreExtends pr.number n after)
    (goes : (entries : List Entry) → PrimaryAgreesIn g pr entries n → PrimaryAgreesIn g (record pr { book = book }) entries after) where
  here : slice_get book.sessions.items number ≡ Some closes.after
  here = ap (λ (l : List Session). slice_get l number) closes.sets.sessions ∙ set_here pr.book.sessions.items number closes.after (slice_get_within pr.book.sessions.items number s found)

  is_after : (x : Session) → slice_get book.sessions.items number ≡ Some x → x ≡ closes.after
  is_after x at = one_of (slice_get book.sessions.items number) closes.after x here at

  no_answer : (a : Answer) → Adds pr (record pr { book = book }) a → ⊥
  no_answer a more =
      let longer = length-append pr.book.answers.items (a ∷ []) in
      let same : length (pr.book.answers.items ++ a ∷ []) ≡ length pr.book.answers.items = ap (λ (l : List Answer). length l) (sym more ∙ ap (λ (l : Listed Answer). l.items) closes.sets.answers) in
      omega (arith, longer, same)

  pub unprinted_turn : TriesTurn g run pr (record pr { book = book }) n after (Some number) turns.Answered
  unprinted_turn = record {
    stands = stands;
    number = refl;
    work = refl;
    went = went;
    goes_on = λ entries agreed. record {
      more = [];
      agrees = λ q has. subst (λ (l : List Entry). PrimaryAgrees g (record pr { book = book }) l q) (sym (append-nil entries)) (goes entries agreed q has);
      adds = inr (record { none = refl; session = s; found = found; through = through; ended = λ x at. ap (λ (v : Session). v.stage) (is_after x at) ∙ ap (λ (v : Session). v.stage) closes.rest });
      later = tt;
    };
    others = λ other ne. ap (λ (l : List Session). slice_get l other) closes.sets.sessions ∙ set_else pr.book.sessions.items number other closes.after (λ same. ne (ap (λ (k : ℕ). Some k) (sym same)));
    named = λ x at. ap (λ (v : Session). v.waits.items) (is_after x at) ∙ closes.waits;
    cause = tt;
    up = tt;
    answers = tt;
    down = inl refl;
    faults = omega arith;
    tells = refl;
    may_go_on = set_may (record pr { book = book }) number pr.book.sessions.items s closes.after found closes.sets.sessions
        (stage_in closes.after.stage Closed (ap (λ (v : Session). v.stage) closes.rest) closed_in);
    begins = λ a view more. absurd (no_answer a more);
    draws = λ a cts more. absurd (no_answer a more);
    skips = λ a more. absurd (no_answer a more);
    stops = λ a more. absurd (no_answer a more);
    done = ((λ e. absurd (answered_not_done e)), (λ z nothing. absurd (false_not_true (sym busy ∙ nothing))));
    stopped = ((λ by e. absurd (answered_not_stopped by e)), (λ down none. absurd (down up)));
  }
