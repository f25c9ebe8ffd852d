-- Each session's answers, in all parts together, are those to its statements, in order.
use Rattle.std.proofs.Common.{arith, ◌≡◌, ℕ, zero, suc, ◌+◌, ◌<◌, ◌≤◌, ◌==◌, ◌&&◌, ◌||◌, Bool, true, false, cond, List, [], ◌∷◌, ◌++◌, map, filter, Some, refl, sym, ap, ap₂, subst, ◌∙◌, inl, inr, eq-eqb, append-nil}
use Rattle.std.specs.List.{flat_map, AllByRecursion}
use Rattle.std.proofs.lemmas.Bool.{cases_Bool, cases_lt, eqb-true, and_from}
use Rattle.std.proofs.lemmas.Bool.Decides.{nat_tests}
use Rattle.std.proofs.lemmas.List.{map-append}
use Rattle.std.proofs.lemmas.List.Elements.{filter-append}
use mathlib.Core.Bool.{false≢true}
use Rattle.mp_machine.specs.Lists.{IsIn}
use Rattle.mp_model.specs.declared.histories.Opening.{Opening}
use Rattle.mp_model.specs.declared.replies.Answer.{Answer}
use Rattle.mp_model.specs.declared.transcripts.Mode.{Mode}
use Rattle.mp_model.specs.declared.transcripts.Mode.TheVariants.{Step, Run}
use Rattle.mp_model.specs.declared.transcripts.Part.{Part}
use Rattle.mp_model.specs.declared.transcripts.Transcript.{Transcript}
use Rattle.mp_script.specs.declared.statements.Line.{Line}
use Rattle.mp_script.specs.declared.statements.Script.{Script}
use Rattle.mp_script.specs.Below.{EachBelow, answered, stated}
use Rattle.mp_script.specs.Entries.{is_declared}
use Rattle.mp_script.specs.Execution.{Execution, execution_of, all_answers, answer_at, runs_on}
use Rattle.mp_script.specs.InTheirPart.{count_from, part_primaries, belongs, IsNextStatement, LeavesNone, AnswersEachOnce}
use Rattle.mp_script.specs.Legal.{Legal}
use Rattle.mp_script.specs.Spelling.{IsSpelled}
use Rattle.mp_script.proofs.Declared.{on_declared, declared_on, undeclared_states}
use Rattle.mp_script.proofs.InTurn.{next-once}
use Rattle.mp_script.proofs.Ordered.{in_filter, from_filter, in_map, from_map}
use Rattle.mp_script.proofs.ScriptLines.{one_primary}

answers_in : List Part → List Answer
answers_in parts = flat_map (λ part. part.answers.items) parts

answered_both : (session : ℕ) (xs ys : List Answer) → answered session (xs ++ ys) ≡ answered session xs ++ answered session ys
answered_both session xs ys = ap (λ (l : List Answer). map (λ a. a.index) l) (filter-append (λ (a : Answer). a.session == session) xs ys)
    ∙ map-append (λ (a : Answer). a.index) (filter (λ a. a.session == session) xs) (filter (λ a. a.session == session) ys)

module _ (run : Execution) (session home : ℕ) (one : (n : ℕ) → runs_on run session n ≡ true → n ≡ home) where
  -- a primary that isn't the session's has none of its answers
  elsewhere : (part : Part) → AnswersEachOnce run part → 1 ≤ part.primary → (part.primary ≡ home → ⊥)
      → answered session part.answers.items ≡ []
  elsewhere part once positive other = once session ∙ ap (λ (b : Bool). cond b (stated session run.lines) []) (apart (belongs run part.primary session) refl)
    where
      apart : (b : Bool) → belongs run part.primary session ≡ b → belongs run part.primary session ≡ false
      apart false e = e
      apart true e =
          let zero_not : (part.primary == 0) ≡ false = grind (arith, nat_tests, positive) in
          absurd (other (one part.primary (ap (λ (b : Bool). b || runs_on run session part.primary) (sym zero_not) ∙ e)))

  none_from : (parts : List Part) (first count : ℕ) → map (λ part. part.primary) parts ≡ count_from first count → 1 ≤ first → home < first
      → AllByRecursion (AnswersEachOnce run) parts → answered session (answers_in parts) ≡ []
  unfolding answers_in
  none_from [] first count is positive past all = refl
  none_from (part ∷ parts) first zero is positive past all = absurd cc
  none_from (part ∷ parts) first (suc count) is positive past all =
      let here : part.primary ≡ first = cc in
      let rest : map (λ (p : Part). p.primary) parts ≡ count_from (first + 1) count = cc in
      answered_both session part.answers.items (answers_in parts)
      ∙ ap₂ (λ (k l : List ℕ). k ++ l) (elsewhere part all.0 (omega (arith, here, positive)) (λ e. absurd (omega (arith, e, here, past)))) (none_from parts (first + 1) count rest (omega arith) (omega (arith, past)) all.1)

  all_from : (parts : List Part) (first count : ℕ) → map (λ part. part.primary) parts ≡ count_from first count → 1 ≤ first
      → first ≤ home → home < first + count
      → runs_on run session home ≡ true → AllByRecursion (AnswersEachOnce run) parts → answered session (answers_in parts) ≡ stated session run.lines
  unfolding answers_in
  all_from [] first zero is positive low high on all = absurd (omega (arith, low, high))
  all_from [] first (suc count) is positive low high on all = absurd cc
  all_from (part ∷ parts) first zero is positive low high on all = absurd (omega (arith, low, high))
  all_from (part ∷ parts) first (suc count) is positive low high on all =
      let here : part.primary ≡ first = cc in
      let rest : map (λ (p : Part). p.primary) parts ≡ count_from (first + 1) count = cc in
      answered_both session part.answers.items (answers_in parts) ∙ elim (cases_lt first home) [
        | inl above ↦
            ap₂ (λ (k l : List ℕ). k ++ l) (elsewhere part all.0 (omega (arith, here, positive)) (λ e. absurd (omega (arith, e, here, above))))
            (all_from parts (first + 1) count rest (omega arith) (omega (arith, above)) (omega (arith, high)) on all.1)
        | inr ge ↦
            let home_here : home ≡ part.primary = omega (arith, ge, low, here) in
            let on_here : runs_on run session part.primary ≡ true = ap (λ (n : ℕ). runs_on run session n) (sym home_here) ∙ on in
            let its : belongs run part.primary session ≡ true = ap (λ (b : Bool). (part.primary == 0) || b) on_here ∙ or_so (part.primary == 0) in
            ap₂ (λ (k l : List ℕ). k ++ l) (all.0 session ∙ ap (λ (b : Bool). cond b (stated session run.lines) []) its) (none_from parts (first + 1) count rest (omega arith) (omega (arith, ge)) all.1)
            ∙ append-nil (stated session run.lines)
      ]
    where
      or_so : (b : Bool) → (b || true) ≡ true
      or_so true = refl
      or_so false = refl

all_once : (run : Execution) (parts : List Part)
    → AllByRecursion (λ part. EachBelow (IsNextStatement run part.primary) [] part.answers.items) parts
    → AllByRecursion (LeavesNone run) parts → AllByRecursion (AnswersEachOnce run) parts
all_once run [] next left = tt
all_once run (part ∷ parts) next left = (next-once run part.primary part.answers.items next.0 left.0, all_once run parts next.1 left.1)

module _ (script : Script) (opening : Opening) (transcript : Transcript) (spelled : IsSpelled script) (legal : Legal script opening transcript) where
  run : Execution
  run = execution_of script opening transcript

  pub as_stated : (session : ℕ) → answered session (all_answers transcript) ≡ stated session script.lines.items
  unfolding answers_in run
  as_stated session = by_mode transcript.mode refl
    where
      once : AllByRecursion (AnswersEachOnce run) transcript.parts.items
      once = all_once run transcript.parts.items legal.answered.in_order legal.answered.none_left

      whole : (parts : List Part) → map (λ part. part.primary) parts ≡ 0 ∷ [] → AllByRecursion (AnswersEachOnce run) parts
          → answered session (answers_in parts) ≡ stated session script.lines.items
      whole [] is all = absurd cc
      whole (part ∷ q ∷ parts) is all = absurd cc
      whole (part ∷ []) is all =
          let here : part.primary ≡ 0 = cc in
          let its : belongs run part.primary session ≡ true = ap (λ (n : ℕ). belongs run n session) here in
          ap (λ (l : List Answer). answered session l) (append-nil part.answers.items) ∙ all.0 session ∙ ap (λ (b : Bool). cond b (stated session run.lines) []) its

      in_run : (b : Bool) → is_declared script.sessions.items session ≡ b
          → map (λ (part : Part). part.primary) transcript.parts.items ≡ count_from 1 script.primaries
          → answered session (all_answers transcript) ≡ stated session script.lines.items
      in_run true e is =
          let on = declared_on script spelled session e in
          let low = on.1 in
          let high = on.2 in
          all_from run session on.0 (λ n h. one_primary script spelled session n on.0 h on.3) transcript.parts.items 1 script.primaries is (omega arith) low (omega (arith, high)) on.3 once
      in_run false e is =
          none_from run session 0 (λ n h. absurd (false≢true (sym e ∙ on_declared script.sessions.items session n h))) transcript.parts.items 1 script.primaries is (omega arith) (omega arith) once
          ∙ sym (undeclared_states script spelled session e)

      by_mode : (mode : Mode) → transcript.mode ≡ mode → answered session (all_answers transcript) ≡ stated session script.lines.items
      by_mode Step e = whole transcript.parts.items (legal.begins.parts ∙ ap (λ (m : Mode). part_primaries m script.primaries) e) once
      by_mode Run e = in_run (is_declared script.sessions.items session) refl (legal.begins.parts ∙ ap (λ (m : Mode). part_primaries m script.primaries) e)

-- what a list of answers has at a statement
pub answer_there : (answers : List Answer) (a : Answer) → IsIn a answers → (b : Answer) × (answer_at answers a.session a.index ≡ Some b)
answer_there [] a h = absurd h
answer_there (x ∷ answers) a (inl e) =
    let test = and_from (x.session == a.session) (x.index == a.index) (eq-eqb x.session a.session (ap (λ (y : Answer). y.session) (sym e))) (eq-eqb x.index a.index (ap (λ (y : Answer). y.index) (sym e))) in
    (x, ap (λ (b : Bool). cond b (Some x) (answer_at answers a.session a.index)) test)
answer_there (x ∷ answers) a (inr h) = elim (cases_Bool (x.session == a.session && x.index == a.index)) [
  | inl t ↦ (x, ap (λ (b : Bool). cond b (Some x) (answer_at answers a.session a.index)) t)
  | inr f ↦ let rest = answer_there answers a h in (rest.0, ap (λ (b : Bool). cond b (Some x) (answer_at answers a.session a.index)) f ∙ rest.1)
]

passes : (test : Answer → Bool) (a : Answer) (answers : List Answer) → IsIn a (filter test answers) → test a ≡ true
passes test a [] h = absurd h
passes test a (x ∷ answers) h = elim (cases_Bool (test x)) [
  | inl t ↦ elim (subst (IsIn a) (ap (λ (b : Bool). cond b (x ∷ filter test answers) (filter test answers)) t) h) [
    | inl e ↦ ap test e ∙ t
    | inr there ↦ passes test a answers there
  ]
  | inr f ↦ passes test a answers (subst (IsIn a) (ap (λ (b : Bool). cond b (x ∷ filter test answers) (filter test answers)) f) h)
]

-- where a session's answers are those to its statements, each of its lines has an answer
pub line_answered : (lines : List Line) (answers : List Answer) (line : Line)
    → answered line.session answers ≡ stated line.session lines → IsIn line lines
    → (b : Answer) × (answer_at answers line.session line.index ≡ Some b)
line_answered lines answers line same there =
    let among : IsIn line.index (stated line.session lines) = in_map (λ (l : Line). l.index) line (filter (λ l. l.session == line.session) lines) (in_filter (λ (l : Line). l.session == line.session) line lines there (eq-eqb line.session line.session refl)) in
    let from = from_map (λ (a : Answer). a.index) (filter (λ a. a.session == line.session) answers) line.index (subst (IsIn line.index) (sym same) among) in
    let a : Answer = from.0 in
    let session : a.session ≡ line.session = eqb-true a.session line.session (passes (λ (x : Answer). x.session == line.session) a answers from.1) in
    let found = answer_there answers a (from_filter (λ (x : Answer). x.session == line.session) a answers from.1) in
    (found.0, ap₂ (λ (s i : ℕ). answer_at answers s i) (sym session) (sym from.2) ∙ found.1)
