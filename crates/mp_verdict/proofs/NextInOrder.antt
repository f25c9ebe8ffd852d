-- What follows for an answer that is placed below those above it.
use Rattle.std.proofs.Common.{◌≡◌, ℕ, ◌+◌, ◌≤◌, ◌||◌, Bool, true, false, List, [], length, Option, Some, None, is_some, slice_get, IfSome, MatchOption, refl, sym, ap, subst, ◌∙◌, arith, ne_eqb}
use mathlib.Core.Bool.{false≢true}
use Rattle.std.specs.List.{list_any, AllByRecursion}
use Rattle.std.specs.Option.{option_map}
use Rattle.mp_model.specs.declared.histories.Opening.{Opening}
use Rattle.mp_model.specs.declared.ids.TrxName.{TrxName}
use Rattle.mp_model.specs.declared.replies.Answer.{Answer}
use Rattle.mp_model.specs.declared.replies.Reply.{Reply}
use Rattle.mp_model.specs.declared.replies.Reply.TheVariants.{Began, Got, Scanned, Wrote, Committed, CommittedNone, Unknown, RolledBack, Conflict, Held, Full, Skipped, Stopped}
use Rattle.mp_model.specs.declared.transcripts.Down.{Down}
use Rattle.mp_script.specs.declared.statements.Line.{Line}
use Rattle.mp_script.specs.declared.statements.Script.{Script}
use Rattle.mp_script.specs.Answers.{names_of_reply, names_of}
use Rattle.mp_script.specs.Below.{EachBelow, answered, stated}
use Rattle.mp_script.specs.Entries.{statements}
use Rattle.mp_script.specs.Execution.{Execution, stmt_in, is_session_on}
use Rattle.mp_script.specs.InTheirPart.{count_from}
use Rattle.mp_script.specs.Right.{HasWritten, HasOwnWrite, HasNoOwnWrite, FollowsRefusal, IsWithoutRepeat}
use Rattle.mp_script.specs.Spelling.{IsSpelled}
use Rattle.mp_script.specs.Transactions.{Target, target_of, target_key, wrote_before, refused_before, cts_of}
use Rattle.mp_script.specs.WentDown.{shows_down, is_stopped}
use Rattle.mp_script.proofs.CountedAnswers.{counted_at}
use Rattle.mp_script.proofs.Lists.{all_append, all_map, below_map}
use Rattle.mp_script.proofs.Looking.{line_is}
use Rattle.mp_script.proofs.Options.{some_is, not_some}
use Rattle.mp_script.proofs.ReplyForms.{target_same, target_none}
use Rattle.mp_script.proofs.SpelledLines.{spelled_in_order}
use Rattle.mp_core_trx.specs.Events.{IsNode}
use Rattle.mp_core.specs.declared.opening.CoreOpening.{CoreOpening}
use Rattle.mp_core.specs.World.{CoreWorld}
use Rattle.mp_book.specs.Answered.{execution_above, HasWrittenHere, HolderStands, CommitTellsWrites, IsPlaced}
use Rattle.mp_supports.specs.Work.{Work}
use Rattle.mp_supports.specs.Kept.{Entry, answers_in}
use Rattle.mp_verdict.specs.Finished.{Finished}

-- the script's lines as far as they are answered: no more than that is looked up in it
abbrev pub answered_so_far : Work → List Answer → Execution
answered_so_far work answers = execution_above work.lines work.sessions answers

-- where a transaction is of the primary, it has written an answer's key before
abbrev pub NamesWriter : Work → ℕ → List Answer → Answer → TrxName → Type 0
NamesWriter work primary above answer name = (key : ℕ) → is_session_on work.sessions name.session primary ≡ true → target_key (stmt_in work.lines answer.session answer.index) ≡ Some key → HasWritten (answered_so_far work above) name key

-- what the proofs use of an answer's place
pub record IsAnsweredNext (work : Work) (primary : ℕ) (above : List Answer) (answer : Answer) : Type 0 where
  pub its_session : is_session_on work.sessions answer.session primary ≡ true
  pub next : answer.index ≡ length (answered answer.session above) + 1
  pub follows : FollowsRefusal (refused_before (answered_so_far work above) answer.session answer.index) answer.reply
  pub stays_down : list_any (λ other. shows_down other.reply) above ≡ true → is_stopped answer.reply ≡ true
  pub wrote : is_some (cts_of answer.reply) ≡ true → (key : ℕ) × (wrote_before (answered_so_far work above) answer.session answer.index key ≡ true)
  pub wrote_none : answer.reply ≡ CommittedNone → (key : ℕ) → wrote_before (answered_so_far work above) answer.session answer.index key ≡ false
  pub names : AllByRecursion (NamesWriter work primary above answer) (names_of answer)

-- a commit that shows a number wrote something
tells_own : (run : Execution) (line : Line) (reply : Reply) → CommitTellsWrites run line reply → is_some (cts_of reply) ≡ true → HasOwnWrite run line
tells_own run line (Began view) tells e = absurd (false≢true e)
tells_own run line (Got value) tells e = absurd (false≢true e)
tells_own run line (Scanned rows) tells e = absurd (false≢true e)
tells_own run line (Wrote verb) tells e = absurd (false≢true e)
tells_own run line (Committed cts) tells e = tells
tells_own run line CommittedNone tells e = absurd (false≢true e)
tells_own run line (Unknown cts) tells e = tells
tells_own run line RolledBack tells e = absurd (false≢true e)
tells_own run line (Conflict verb cts) tells e = absurd (false≢true e)
tells_own run line (Held verb name) tells e = absurd (false≢true e)
tells_own run line (Full verb) tells e = absurd (false≢true e)
tells_own run line Skipped tells e = absurd (false≢true e)
tells_own run line (Stopped by) tells e = absurd (false≢true e)

module _ (work : Work) (n : ℕ) (above : List Answer) (answer : Answer) (placed : IsPlaced work.lines work.sessions n above answer) where
  its_key : (target : Target) → target_of placed.line.stmt ≡ Some target → (key : ℕ) → target_key (stmt_in work.lines answer.session answer.index) ≡ Some key → target.key ≡ key
  its_key target is key e =
      let at : target_key (stmt_in work.lines answer.session answer.index) ≡ target_key (Some placed.line.stmt) = ap (λ (l : Option Line). target_key (option_map (λ (x : Line). x.stmt) l)) placed.found in
      some_is target.key key (sym (target_same placed.line.stmt target.verb target.key is) ∙ sym at ∙ e)

  has_written : (target : Target) → target_of placed.line.stmt ≡ Some target → (name : TrxName) → HasWrittenHere (answered_so_far work above) n target.key name → NamesWriter work n above answer name
  has_written target is name here = λ key on e. subst (HasWritten (answered_so_far work above) name) (its_key target is key e) (here on)

  waits_written : AllByRecursion (NamesWriter work n above answer) answer.waits.items
  waits_written = go (target_of placed.line.stmt) refl placed.waits
    where
      go : (x : Option Target) → target_of placed.line.stmt ≡ x → MatchOption x (answer.waits.items ≡ []) (λ target. IsWithoutRepeat answer.waits.items × AllByRecursion (HasWrittenHere (answered_so_far work above) n target.key) answer.waits.items) → AllByRecursion (NamesWriter work n above answer) answer.waits.items
      go None is none = subst (AllByRecursion (NamesWriter work n above answer)) (sym none) tt
      go (Some target) is both = all_map (HasWrittenHere (answered_so_far work above) n target.key) (NamesWriter work n above answer) answer.waits.items (has_written target is) both.1

  holder_written : (reply : Reply) → HolderStands (answered_so_far work above) n placed.line.stmt reply → AllByRecursion (NamesWriter work n above answer) (names_of_reply reply)
  holder_written (Held verb name) stands = (go (target_of placed.line.stmt) refl stands, tt)
    where
      go : (x : Option Target) → target_of placed.line.stmt ≡ x → IfSome x (λ target. HasWrittenHere (answered_so_far work above) n target.key name) → NamesWriter work n above answer name
      go None is none = λ key on e.
          let at : target_key (stmt_in work.lines answer.session answer.index) ≡ target_key (Some placed.line.stmt) = ap (λ (l : Option Line). target_key (option_map (λ (x : Line). x.stmt) l)) placed.found in
          absurd (not_some key (sym (target_none placed.line.stmt is) ∙ sym at ∙ e))
      go (Some target) is here = has_written target is name here
  holder_written (Began view) stands = tt
  holder_written (Got value) stands = tt
  holder_written (Scanned rows) stands = tt
  holder_written (Wrote verb) stands = tt
  holder_written (Committed cts) stands = tt
  holder_written CommittedNone stands = tt
  holder_written (Unknown cts) stands = tt
  holder_written RolledBack stands = tt
  holder_written (Conflict verb cts) stands = tt
  holder_written (Full verb) stands = tt
  holder_written Skipped stands = tt
  holder_written (Stopped by) stands = tt

  pub on_its_primary : 1 ≤ n → is_session_on work.sessions answer.session n ≡ true
  on_its_primary low = sym (ap (λ (b : Bool). b || is_session_on work.sessions answer.session n) (ne_eqb n 0 (λ e. absurd (omega (arith, e, low))))) ∙ placed.next.its_part

  pub answered_next : ((session : ℕ) → stated session work.lines ≡ count_from 1 (statements work.lines session)) → 1 ≤ n → IsAnsweredNext work n above answer
  answered_next counted low =
      let at = line_is work.lines answer.session answer.index placed.line placed.found in
      let of_answer = λ (key : ℕ). ap (λ (s : ℕ). wrote_before (answered_so_far work above) s placed.line.index key) at.1 ∙ ap (λ (i : ℕ). wrote_before (answered_so_far work above) answer.session i key) at.2 in
      record {
        its_session = on_its_primary low;
        next = counted_at 1 (statements work.lines answer.session) (length (answered answer.session above)) answer.index (subst (λ (l : List ℕ). slice_get l (length (answered answer.session above)) ≡ Some answer.index) (counted answer.session) placed.next.next);
        follows = placed.follows;
        stays_down = placed.stays_down;
        wrote = λ e. let own = tells_own (answered_so_far work above) placed.line answer.reply placed.commits e in (own.0, sym (of_answer own.0) ∙ own.1);
        wrote_none = λ e. let none : HasNoOwnWrite (answered_so_far work above) placed.line = subst (CommitTellsWrites (answered_so_far work above) placed.line) e placed.commits in λ key. sym (of_answer key) ∙ none key;
        names = all_append (NamesWriter work n above answer) (names_of_reply answer.reply) answer.waits.items (holder_written answer.reply placed.holder) waits_written;
      }

-- each answer of a finished run is to its session's next statement
pub next_in_order : (script : Script) (spelled : IsSpelled script) (work : Work) (opening : Opening) (o : CoreOpening) (w : CoreWorld) (down : ℕ → ℕ) (entries : ℕ → List Entry) (downs : List Down)
    (f : Finished work script opening o w down entries downs) (n : ℕ) → IsNode o.trx n → EachBelow (IsAnsweredNext work n) [] (answers_in (entries n))
next_in_order script spelled work opening o w down entries downs f n node =
    let counted : (session : ℕ) → stated session work.lines ≡ count_from 1 (statements work.lines session) = subst (λ (lines : List Line). (session : ℕ) → stated session lines ≡ count_from 1 (statements lines session)) (sym f.work_of.lines) (spelled_in_order script spelled).numbered in
    below_map (IsPlaced work.lines work.sessions n) (IsAnsweredNext work n) [] (answers_in (entries n)) (λ above answer placed. answered_next work n above answer placed counted node.0) (f.in_order n node)
