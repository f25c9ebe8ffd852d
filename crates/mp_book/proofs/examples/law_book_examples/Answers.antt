use Rattle.std.proofs.Common.{◌≡◌, ◌<◌, ℕ, ◌+◌, List, [], ◌∷◌, ◌++◌, length, slice_get, slice_set, Option, None, Some, refl, sym, ap, ◌∙◌, subst, lit<, arith}
use Rattle.std.proofs.lemmas.List.{length-append}
use Rattle.mp_model.specs.declared.ids.TrxName.{TrxName}
use Rattle.mp_model.specs.declared.replies.Answer.{Answer}
use Rattle.mp_model.specs.declared.replies.Reply.TheVariants.{Wrote}
use Rattle.mp_model.specs.declared.replies.WriteVerb.TheVariants.{Put}
use Rattle.mp_model.specs.declared.list.Items.{Items}
use Rattle.mp_book.specs.declared.session.Session.{Session}
use Rattle.mp_book.specs.declared.stage.Stage.TheVariants.{Open}
use Rattle.mp_book.specs.Stages.{with_name}
use Rattle.mp_book.specs.SmallBooks.{answered_as, session_with, its_name, its_begun, row_seven}
use Rattle.mp_book.proofs.Items.{none_some, set_same}
use Rattle.mp_book.proofs.SmallBooks.{same_first}
use Rattle.mp_book.proofs.examples.law_book_examples.Goals as goal

pub returns-clause-no_book : goal.returns-clause-no_book
returns-clause-no_book c = λ book none h. let wrong : 0 ≡ 65 = sym (ap (λ (l : List Session). length l) none) ∙ h.whole in absurd (omega (arith, wrong))

pub returns-clause-next : goal.returns-clause-next
returns-clause-next c = λ book s is. record { found = ap (λ (l : List Session). slice_get l 1) is; next = refl }

pub returns-clause-no_next : goal.returns-clause-no_next
returns-clause-no_next c = λ book s line none h. none_some s (sym (ap (λ (l : List Session). slice_get l 1) none) ∙ h.found)

pub returns-clause-sets : goal.returns-clause-sets
returns-clause-sets c = λ book s found. record { answers = refl; sessions = set_same book.sessions.items 1 s found }

pub returns-clause-sets_no_answer : goal.returns-clause-sets_no_answer
returns-clause-sets_no_answer c = λ old new s none one h. let wrong : 1 ≡ 0 = sym (ap (λ (l : List Answer). length l) one) ∙ ap (λ (a : Items Answer). length a.items) h.answers ∙ ap (λ (l : List Answer). length l) none in absurd (omega (arith, wrong))

pub returns-clause-answered : goal.returns-clause-answered
returns-clause-answered c = λ old new one two sessions. record {
  answer = answered_as 2 (Wrote Put);
  session = refl;
  index = refl;
  reply_is = refl;
  waits = refl;
  answers = two ∙ sym (ap (λ (l : List Answer). l ++ answered_as 2 (Wrote Put) ∷ []) one);
  after = session_with 2 (Open its_begun) (row_seven ∷ []);
  sessions = sessions;
  goes = record { number = refl; lines = refl; next = refl; stage_is = refl; formers_are = refl; restored_is = refl; waits = refl; tried = refl };
}

pub returns-clause-not_answered : goal.returns-clause-not_answered
returns-clause-not_answered c = λ book s line reply none h.
    let longer : length (book.answers.items ++ h.answer ∷ []) ≡ length book.answers.items + 1 = length-append book.answers.items (h.answer ∷ []) in
    let same : length book.answers.items ≡ length (book.answers.items ++ h.answer ∷ []) = ap (λ (l : List Answer). length l) h.answers in
    absurd (omega (arith, longer, same))

pub returns-clause-same : goal.returns-clause-same
returns-clause-same c = λ book s found. record { after = s; sessions = set_same book.sessions.items 1 s found; same = record { rest = refl; formers = refl; waits = refl } }

pub returns-clause-not_same : goal.returns-clause-not_same
returns-clause-not_same c = λ old new s one none h.
    let wrong : 0 ≡ 1 = sym (ap (λ (l : List Session). length l) none) ∙ ap (λ (l : List Session). length l) (h.sessions ∙ ap (λ (l : List Session). slice_set l 0 h.after) one) in
    absurd (omega (arith, wrong))

pub returns-clause-room : goal.returns-clause-room
returns-clause-room c = λ book one none. record { answer = subst (λ (n : ℕ). 0 < n) (sym one) (lit< tt); in_session = λ s found. absurd (none_some s (sym (ap (λ (l : List Session). slice_get l 1) none) ∙ found)) }

pub returns-clause-no_room : goal.returns-clause-no_room
returns-clause-no_room c = λ book none h. let some : 0 < book.answers.spare = h.answer in absurd (omega (arith, some, none))

pub returns-clause-notes : goal.returns-clause-notes
returns-clause-notes c = λ old new answers sessions. record {
  after = record (session_with 1 (Open its_begun) []) { waits = record { items = its_name ∷ []; spare = 0 } };
  sets = record { answers = answers; sessions = sessions };
  waits = refl;
  rest = refl;
}

pub returns-clause-notes_nobody : goal.returns-clause-notes_nobody
returns-clause-notes_nobody c = λ book s one none h.
    let same : s ≡ h.after = same_first s h.after (sym one ∙ h.sets.sessions ∙ ap (λ (l : List Session). slice_set l 0 h.after) one) in
    let wrong : 0 ≡ 1 = sym (ap (λ (l : List TrxName). length l) none) ∙ ap (λ (x : Session). length x.waits.items) same ∙ ap (λ (l : List TrxName). length l) (h.waits ∙ ap (with_name its_name) none) in
    absurd (omega (arith, wrong))
