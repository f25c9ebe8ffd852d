use Rattle.std.proofs.Common.{◌≡◌, List, [], ◌∷◌, slice_get, None, Some, refl, sym, ap, subst, ◌∙◌, inl, inr, arith, append-nil}
use Rattle.mp_machine.specs.Lists.{IsIn}
use Rattle.mp_cells.specs.declared.records.Mtr.{Mtr}
use Rattle.mp_book.specs.declared.session.Session.{Session}
use Rattle.mp_book.specs.declared.stage.Stage.TheVariants.{Closed, Open, Outside}
use Rattle.mp_book.specs.SmallBooks.{its_begun, session_with, row_seven}
use Rattle.mp_book.specs.Stages.{HaveOneRowEach}
use Rattle.mp_log.specs.Logs.{mtrs_of}
use Rattle.mp_script.proofs.Options.{not_some}
use Rattle.mp_supports.specs.Kept.{Entry}
use Rattle.mp_supports.proofs.Extending.{core_extends_refl}
use Rattle.mp_core.specs.CoreExtends.{CoreExtends}
use Rattle.mp_primary.proofs.OnlyDowns.{went_none}
use Rattle.mp_primary.specs.Primaries.{PrimaryAgrees}
use Rattle.mp_primary.specs.SmallPrimaries.{gate_alone}
use Rattle.mp_primary.proofs.OpenSessions.{one_of}
use Rattle.mp_primary.proofs.SmallPrimaries.{not_false, one_is_none, something_is_none, closed_not_open, open_not_outside, outside_not_open, outside_is, no_batch}
use Rattle.mp_primary.proofs.laws.law_outside_examples.Goals as goal

-- the first session
first_of : (sessions : List Session) (s : Session) → sessions ≡ s ∷ [] → slice_get sessions 0 ≡ Some s
first_of sessions s is = ap (λ (l : List Session). slice_get l 0) is

same_stage : (sessions : List Session) (s other : Session) → sessions ≡ s ∷ [] → slice_get sessions 0 ≡ Some other → s.stage ≡ other.stage
same_stage sessions s other is found = ap (λ (v : Session). v.stage) (sym (one_of (slice_get sessions 0) s other (first_of sessions s is) found))

pub returns-clause-has_open : goal.returns-clause-has_open
returns-clause-has_open g c = λ pr is. (session_with 1 (Open its_begun) [], first_of pr.book.sessions.items (session_with 1 (Open its_begun) []) is, refl)

pub returns-clause-has_none_open : goal.returns-clause-has_none_open
returns-clause-has_none_open g c = λ pr trx is h. closed_not_open trx (same_stage pr.book.sessions.items (session_with 3 Closed []) h.0 is h.1 ∙ h.2)

pub returns-clause-has_still : goal.returns-clause-has_still
returns-clause-has_still g c = λ pr is. inr (session_with 1 (Outside (Some its_begun)) [], first_of pr.book.sessions.items (session_with 1 (Outside (Some its_begun)) []) is, refl, tt)

-- the session with two rows of one key
abbrev two_rows : Session
two_rows = session_with 1 (Outside (Some its_begun)) (row_seven ∷ row_seven ∷ [])

pub returns-clause-has_two_rows : goal.returns-clause-has_two_rows
returns-clause-has_two_rows g c = λ pr is h. elim h [
  | inl opened ↦ outside_not_open (Some its_begun) its_begun (same_stage pr.book.sessions.items two_rows opened.0 is opened.1 ∙ opened.2)
  | inr half ↦
      let same = one_of (slice_get pr.book.sessions.items 0) two_rows half.0 (first_of pr.book.sessions.items two_rows is) half.1 in
      let once : HaveOneRowEach (row_seven ∷ row_seven ∷ []) = subst (λ (s : Session). HaveOneRowEach s.formers.items) same half.3 in
      something_is_none row_seven once.0
]

pub returns-clause-has_ended : goal.returns-clause-has_ended
returns-clause-has_ended g c = λ pr trx is h. elim h [
  | inl opened ↦ outside_not_open None trx (same_stage pr.book.sessions.items (session_with 1 (Outside None) []) opened.0 is opened.1 ∙ opened.2)
  | inr still ↦ not_some trx (outside_is None (Some trx) (same_stage pr.book.sessions.items (session_with 1 (Outside None) []) still.0 is still.1 ∙ still.2))
]

pub returns-clause-stands_outside : goal.returns-clause-stands_outside
returns-clause-stands_outside g c = λ pr is. (session_with 1 (Outside None) [], first_of pr.book.sessions.items (session_with 1 (Outside None) []) is, refl)

pub returns-clause-stands_inside : goal.returns-clause-stands_inside
returns-clause-stands_inside g c = λ pr trx is h. open_not_outside its_begun trx (same_stage pr.book.sessions.items (session_with 1 (Open its_begun) []) h.0 is h.1 ∙ h.2)

pub returns-clause-calls : goal.returns-clause-calls
returns-clause-calls g c = λ run pr n stands told. record {
  stands = stands;
  number = refl;
  work = refl;
  answers = refl;
  went = went_none pr.number CoreExtends core_extends_refl n;
  goes_on = λ entries agrees. ([], tt, λ q has. subst (λ (l : List Entry). PrimaryAgrees g.D.Disk pr l q) (sym (append-nil entries)) (agrees q has));
  others = λ other ne. refl;
  told = told;
  faults = omega arith;
  tells = refl;
}

pub returns-clause-calls_answer : goal.returns-clause-calls_answer
returns-clause-calls_answer g c = λ run old new n a none one h. one_is_none a [] (sym one ∙ h.answers ∙ none)

pub returns-clause-calls_another : goal.returns-clause-calls_another
returns-clause-calls_another g c = λ run old new n none one h.
    let apart = h.others 0 (λ same. absurd (omega (arith, same))) in
    something_is_none (session_with 1 (Open its_begun) []) (sym (first_of new.book.sessions.items (session_with 1 (Open its_begun) []) one) ∙ apart ∙ ap (λ (l : List Session). slice_get l 0) none)

pub returns-clause-stays_up : goal.returns-clause-stays_up
returns-clause-stays_up g c = λ old new one up h. let down = h.0 in absurd (omega (arith, one, up, down))

pub returns-clause-untold : goal.returns-clause-untold
returns-clause-untold g c = λ pr silent tells. absurd (not_false (sym tells ∙ silent))

pub returns-clause-on_no_image : goal.returns-clause-on_no_image
returns-clause-on_no_image g c = λ pr tells image h.
    let x = h tells gate_alone image in
    subst (λ (batches : List (List Mtr)). IsIn x.2.0 (mtrs_of batches)) (no_batch x.0 x.1) x.2.1

pub returns-clause-committed_none : goal.returns-clause-committed_none
returns-clause-committed_none g c = λ old new up is. (up, (session_with 1 (Outside None) [], first_of new.book.sessions.items (session_with 1 (Outside None) []) is, refl))

pub returns-clause-not_stopped : goal.returns-clause-not_stopped
returns-clause-not_stopped g c = λ old new one up h. let down = h.0 in absurd (omega (arith, one, up, down))

pub returns-clause-not_rolled_back : goal.returns-clause-not_rolled_back
returns-clause-not_rolled_back g c = λ pr n is h.
    let outside = h.1 in
    something_is_none its_begun (outside_is (Some its_begun) None (same_stage pr.book.sessions.items (session_with 1 (Outside (Some its_begun)) []) outside.0 is outside.1 ∙ outside.2))

pub returns-clause-stopped_by_another : goal.returns-clause-stopped_by_another
returns-clause-stopped_by_another g c = λ old new before after one h. let by = h.0 in absurd (omega (arith, one, by))

pub returns-clause-stopped_up : goal.returns-clause-stopped_up
returns-clause-stopped_up g c = λ old new before after one up h. elim h.1 [
  | inl here ↦ let down = here.0 in absurd (omega (arith, one, up, down))
  | inr other ↦ other.3.some up
]
