use Rattle.std.proofs.Common.{◌≡◌, ℕ, ◌<◌, List, [], ◌∷◌, ◌++◌, length, slice_get, Some, refl, sym, ap, ◌∙◌, inl, arith}
use Rattle.std.proofs.lemmas.List.{length-append}
use Rattle.mp_model.specs.declared.replies.Answer.{Answer}
use Rattle.mp_model.specs.declared.replies.Reply.TheVariants.{Began, Wrote, CommittedNone}
use Rattle.mp_model.specs.declared.replies.WriteVerb.TheVariants.{Put}
use Rattle.mp_script.specs.declared.statements.Line.{Line}
use Rattle.mp_script.proofs.Options.{not_some, some_is}
use Rattle.mp_core_pages.specs.Histories.{placed}
use Rattle.mp_histories.specs.SmallHistory.{small_put}
use Rattle.mp_facts.specs.SmallParts.{put_part}
use Rattle.mp_book.specs.declared.session.Session.{Session}
use Rattle.mp_book.specs.declared.stage.Stage.TheVariants.{Closed, Open, Skipping}
use Rattle.mp_book.specs.SmallBooks.{its_begun, its_name, session_with, answered_as, stated_as, put_seven}
use Rattle.mp_book.specs.Stages.{next_line, with_name}
use Rattle.mp_supports.specs.Supports.{no_trace}
use Rattle.mp_supports.specs.Kept.{Entry}
use Rattle.mp_primary.proofs.OpenSessions.{one_of}
use Rattle.mp_primary.proofs.SmallPrimaries.{one_is_none, only_item, skipping_not_closed}
use Rattle.mp_primary.proofs.laws.law_answering_examples.Goals as goal

at_place : (sessions : List Session) (k : ℕ) (all : List Session) (s : Session) → sessions ≡ all → slice_get all k ≡ Some s → slice_get sessions k ≡ Some s
at_place sessions k all s is there = ap (λ (l : List Session). slice_get l k) is ∙ there

-- the session that is waited by, with the name
abbrev waiting_one : Session
waiting_one = record (session_with 1 (Open its_begun) []) { waits = record { items = its_name ∷ []; spare = 0 } }

pub returns-clause-adds : goal.returns-clause-adds
returns-clause-adds c = λ old new none one. one ∙ sym (ap (λ (l : List Answer). l ++ answered_as 1 (Began 0) ∷ []) none)

pub returns-clause-adds_none : goal.returns-clause-adds_none
returns-clause-adds_none c = λ pr a e.
    let longer = length-append pr.book.answers.items (a ∷ []) in
    let same = ap (λ (l : List Answer). length l) e in
    absurd (omega (arith, longer, same))

pub returns-clause-its_answer : goal.returns-clause-its_answer
returns-clause-its_answer c = λ pr is. record {
  session = session_with 1 (Open its_begun) [];
  line = stated_as 2 put_seven;
  next = record { found = at_place pr.book.sessions.items 1 (session_with 0 Closed [] ∷ session_with 1 (Open its_begun) [] ∷ []) (session_with 1 (Open its_begun) []) is refl; next = refl };
  answer = answered_as 2 (Wrote Put);
  of_session = refl;
  index = refl;
  waits = inl refl;
  entry = record { answer = Some (answered_as 2 (Wrote Put)); trace = no_trace };
  has = refl;
  one = refl;
}

pub returns-clause-another_answer : goal.returns-clause-another_answer
returns-clause-another_answer c = λ pr is h.
    let entry = only_item (record { answer = Some (answered_as 3 CommittedNone); trace = no_trace }) h.entry h.one in
    let answer = some_is (answered_as 3 CommittedNone) h.answer (ap (λ (e : Entry). e.answer) entry ∙ h.has) in
    let session = one_of (slice_get pr.book.sessions.items 1) (session_with 1 (Open its_begun) []) h.session (at_place pr.book.sessions.items 1 (session_with 0 Closed [] ∷ session_with 1 (Open its_begun) [] ∷ []) (session_with 1 (Open its_begun) []) is refl) h.next.found in
    let line = some_is (stated_as 2 put_seven) h.line (sym (ap (λ (s : Session). next_line s) session) ∙ h.next.next) in
    let wrong : 3 ≡ 2 = ap (λ (a : Answer). a.index) answer ∙ h.index ∙ ap (λ (l : Line). l.index) (sym line) in
    absurd (omega (arith, wrong))

pub returns-clause-unprinted : goal.returns-clause-unprinted
returns-clause-unprinted c = λ old new was is. record {
  none = refl;
  session = session_with 3 Skipping [];
  found = at_place old.book.sessions.items 0 (session_with 3 Skipping [] ∷ []) (session_with 3 Skipping []) was refl;
  through = refl;
  ended = λ s found. ap (λ (v : Session). v.stage) (one_of (slice_get new.book.sessions.items 0) (session_with 3 Closed []) s (at_place new.book.sessions.items 0 (session_with 3 Closed [] ∷ []) (session_with 3 Closed []) is refl) found);
}

pub returns-clause-not_ended : goal.returns-clause-not_ended
returns-clause-not_ended c = λ pr is h. skipping_not_closed (h.ended (session_with 3 Skipping []) (at_place pr.book.sessions.items 0 (session_with 3 Skipping [] ∷ []) (session_with 3 Skipping []) is refl))

pub returns-clause-waiting_adds_none : goal.returns-clause-waiting_adds_none
returns-clause-waiting_adds_none c = λ old new cause. refl

pub returns-clause-waiting_adds : goal.returns-clause-waiting_adds
returns-clause-waiting_adds c = λ old new e cause h. one_is_none e [] h

pub returns-clause-waits_for_nobody : goal.returns-clause-waits_for_nobody
returns-clause-waits_for_nobody c = λ pr n q name has none h. let x = h q has in not_some x.0 (sym (ap (λ (l : List Session). slice_get l 0) none) ∙ x.3.found)

pub returns-clause-names : goal.returns-clause-names
returns-clause-names c = λ old new was is s after a b.
    ap (λ (v : Session). v.waits.items) (one_of (slice_get new.book.sessions.items 0) waiting_one after (at_place new.book.sessions.items 0 (waiting_one ∷ []) waiting_one is refl) b)
    ∙ sym (ap (λ (v : Session). with_name its_name v.waits.items) (one_of (slice_get old.book.sessions.items 0) (session_with 1 (Open its_begun) []) s (at_place old.book.sessions.items 0 (session_with 1 (Open its_begun) [] ∷ []) (session_with 1 (Open its_begun) []) was refl) a))

pub returns-clause-names_nobody : goal.returns-clause-names_nobody
returns-clause-names_nobody c = λ pr name is h.
    let there = at_place pr.book.sessions.items 0 (session_with 1 (Open its_begun) [] ∷ []) (session_with 1 (Open its_begun) []) is refl in
    one_is_none name [] (sym (h (session_with 1 (Open its_begun) []) (session_with 1 (Open its_begun) []) there there))

pub returns-clause-no_cause : goal.returns-clause-no_cause
returns-clause-no_cause c = tt

pub returns-clause-its_cause : goal.returns-clause-its_cause
returns-clause-its_cause c = λ cause h. h

pub returns-clause-tells : goal.returns-clause-tells
returns-clause-tells c = ((refl, λ e. absurd (omega (arith, e))), refl, λ e. absurd (omega (arith, e)))

pub returns-clause-tells_wrong : goal.returns-clause-tells_wrong
returns-clause-tells_wrong c = λ h. let wrong : 2 ≡ 1 = h.0 in absurd (omega (arith, wrong))

pub returns-clause-skips_down : goal.returns-clause-skips_down
returns-clause-skips_down c = λ h. let wrong : 1 ≡ 0 = h in absurd (omega (arith, wrong))

pub returns-clause-left_nothing : goal.returns-clause-left_nothing
returns-clause-left_nothing c = λ n. tt

pub returns-clause-left_before : goal.returns-clause-left_before
returns-clause-left_before c = λ run h. let wrong : 0 < 0 = h 1 put_part (placed 0 small_put) refl (inl refl) in absurd (omega (arith, wrong))
