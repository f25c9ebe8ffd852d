-- The lines of a generated script, by their round, form and session.
use Rattle.std.proofs.Common.{arith, ◌≡◌, ℕ, suc, ◌+◌, ◌*◌, ◌-◌, ◌≤◌, ◌==◌, ◌&&◌, Bool, true, false, cond, is_some, List, [], ◌∷◌, ◌++◌, length, Some, refl, sym, ap, ◌∙◌, inl, inr, eq-eqb}
use Rattle.std.specs.Prelude.{count_by}
use Rattle.std.specs.List.{flat_map}
use Rattle.std.specs.Option.{option_map}
use Rattle.std.proofs.lemmas.Bool.{cases_Bool, eqb-true, and_from, and_parts}
use Rattle.std.proofs.lemmas.List.Sums.{sum_by-append}
use Rattle.mp_machine.specs.Lists.{IsIn}
use Rattle.mp_script.specs.declared.statements.Line.{Line}
use Rattle.mp_script.specs.declared.statements.Stmt.{Stmt}
use Rattle.mp_script.specs.declared.statements.Stmt.TheVariants as stmts
use Rattle.mp_script.specs.Execution.{line_at, stmt_in}
use Rattle.mp_script.specs.InTheirPart.{count_from}
use Rattle.mp_script.specs.Transactions.{begins, begin_in, target_of}
use Rattle.mp_script.proofs.CountedAnswers.{in_count, from_count}
use Rattle.mp_script.proofs.Ordered.{in_map, from_map, in_flat, from_flat}
use Rattle.mp_script.proofs.ScriptLines.{IndexesRise, begin_itself}
use Rattle.mp_generate.specs.declared.making.Form.{Form}
use Rattle.mp_generate.specs.declared.making.Form.TheVariants.{Begin, Put, Get, Commit}
use Rattle.mp_generate.specs.Generated.{generated_line, form_lines, round_lines, generated_lines}

forms : List Form
forms = Begin ∷ Put ∷ Get ∷ Commit ∷ []

in_forms : (form : Form) → IsIn form forms
unfolding forms
in_forms Begin = inl refl
in_forms Put = inr (inl refl)
in_forms Get = inr (inr (inl refl))
in_forms Commit = inr (inr (inr (inl refl)))

-- a line is that of a round, a form and a session
pub record IsMade (number : ℕ) (line : Line) : Type 0 where
  pub round : ℕ
  pub form : Form
  pub session : ℕ
  pub round_low : 1 ≤ round
  pub round_high : round ≤ 47
  pub session_low : 1 ≤ session
  pub session_high : session ≤ 16
  pub is : generated_line number round form session ≡ line

pub made_so : (number : ℕ) (line : Line) → IsIn line (generated_lines number) → IsMade number line
made_so number line there =
    let in_round = from_flat (round_lines number) (count_from 1 47) line there in
    let round = in_round.0 in
    let in_form = from_flat (form_lines number round) (Begin ∷ Put ∷ Get ∷ Commit ∷ []) line in_round.2 in
    let form = in_form.0 in
    let from = from_map (generated_line number round form) (count_from 1 16) line in_form.2 in
    let rounds = from_count round 1 47 in_round.1 in
    let sessions = from_count from.0 1 16 from.1 in
    let a = rounds.0 in
    let b = rounds.1 in
    let d = sessions.0 in
    let e = sessions.1 in
    record { round = round; form = form; session = from.0; round_low = a; round_high = omega (arith, b); session_low = d; session_high = omega (arith, e); is = from.2 }

pub stands : (number round : ℕ) (form : Form) (session : ℕ) → 1 ≤ round → round ≤ 47 → 1 ≤ session → session ≤ 16
    → IsIn (generated_line number round form session) (generated_lines number)
unfolding forms
stands number round form session low high first last =
    let line : Line = generated_line number round form session in
    let in_form : IsIn line (form_lines number round form) = in_map (generated_line number round form) session (count_from 1 16) (in_count session 1 16 first (omega (arith, last))) in
    let in_round : IsIn line (round_lines number round) = in_flat (form_lines number round) form (Begin ∷ Put ∷ Get ∷ Commit ∷ []) line (in_forms form) in_form in
    in_flat (round_lines number) round (count_from 1 47) line (in_count round 1 47 low (omega (arith, high))) in_round

-- each line is found by its session and number
pub line_found : (lines : List Line) → IndexesRise lines → (line : Line) → IsIn line lines
    → line_at lines line.session line.index ≡ Some line
line_found [] rise line there = absurd there
line_found (x ∷ lines) rise line (inl e) =
    let test = and_from (x.session == line.session) (x.index == line.index) (eq-eqb x.session line.session (ap (λ (y : Line). y.session) (sym e))) (eq-eqb x.index line.index (ap (λ (y : Line). y.index) (sym e))) in
    ap (λ (b : Bool). cond b (Some x) (line_at lines line.session line.index)) test ∙ ap (λ (y : Line). Some y) (sym e)
line_found (x ∷ lines) rise line (inr h) = elim (cases_Bool (x.session == line.session && x.index == line.index)) [
  | inl t ↦
      let both = and_parts (x.session == line.session) (x.index == line.index) t in
      let above = rise.0 line h (eqb-true x.session line.session both.0) in
      let same = eqb-true x.index line.index both.1 in
      absurd (omega (arith, above, same))
  | inr f ↦ ap (λ (b : Bool). cond b (Some x) (line_at lines line.session line.index)) f ∙ line_found lines rise.1 line h
]

-- ---- how many lines put a key, and how many commit

abbrev pub commits : Stmt → Bool
commits stmts.Commit = true
commits _ = false

pub counted_rounds : (number : ℕ) (test : Line → Bool) → ((round : ℕ) → count_by test (round_lines number round) ≡ 16)
    → (rounds : List ℕ) → count_by test (flat_map (round_lines number) rounds) ≡ 16 * length rounds
counted_rounds number test each [] = refl
counted_rounds number test each (round ∷ rounds) =
    let split : count_by test (round_lines number round ++ flat_map (round_lines number) rounds) ≡ count_by test (round_lines number round) + count_by test (flat_map (round_lines number) rounds) =
    sum_by-append _ (round_lines number round) (flat_map (round_lines number) rounds) in
    let rest : count_by test (flat_map (round_lines number) rounds) ≡ 16 * length rounds = counted_rounds number test each rounds in
    omega (arith, split, rest, each round)

pub put_count : (number : ℕ) → count_by (λ line. is_some (target_of line.stmt)) (generated_lines number) ≡ 752
put_count number = counted_rounds number (λ line. is_some (target_of line.stmt)) (λ round. refl) (count_from 1 47)

pub commits_count : (number : ℕ) → count_by (λ line. commits line.stmt) (generated_lines number) ≡ 752
commits_count number = counted_rounds number (λ line. commits line.stmt) (λ round. refl) (count_from 1 47)

-- ---- the transaction of a commit

stmt_found : (number : ℕ) → IndexesRise (generated_lines number) → (round : ℕ) (form : Form) (session : ℕ) → 1 ≤ round → round ≤ 47
    → 1 ≤ session → session ≤ 16
    → stmt_in (generated_lines number) session (generated_line number round form session).index ≡ Some (generated_line number round form session).stmt
stmt_found number rise round form session low high first last =
    let line : Line = generated_line number round form session in
    ap (λ o. option_map (λ (l : Line). l.stmt) o) (line_found (generated_lines number) rise line (stands number round form session low high first last))

begin_past : (lines : List Line) (session before : ℕ) → begins (stmt_in lines session (suc before)) ≡ false
    → begin_in lines session (suc before) ≡ begin_in lines session before
begin_past lines session before e = ap (λ (b : Bool). cond b (suc before) (begin_in lines session before)) e

-- a commit's transaction began three statements before it, in the round
pub commit_begins : (number : ℕ) → IndexesRise (generated_lines number) → (round session : ℕ) → 1 ≤ round → round ≤ 47 → 1 ≤ session
    → session ≤ 16
    → begin_in (generated_lines number) session (4 * (round - 1) + 4) ≡ 4 * (round - 1) + 1
commit_begins number rise round session low high first last =
    let lines : List Line = generated_lines number in
    let begun : ℕ = 4 * (round - 1) + 1 in
    let one : suc begun ≡ 4 * (round - 1) + 2 = omega arith in
    let two : suc (suc begun) ≡ 4 * (round - 1) + 3 = omega arith in
    let three : suc (suc (suc begun)) ≡ 4 * (round - 1) + 4 = omega arith in
    let at = λ (form : Form). stmt_found number rise round form session low high first last in
    let here : begins (stmt_in lines session begun) ≡ true = ap begins (at Begin) in
    let put : begins (stmt_in lines session (suc begun)) ≡ false = ap (λ (i : ℕ). begins (stmt_in lines session i)) one ∙ ap begins (at Put) in
    let get : begins (stmt_in lines session (suc (suc begun))) ≡ false = ap (λ (i : ℕ). begins (stmt_in lines session i)) two ∙ ap begins (at Get) in
    let commit : begins (stmt_in lines session (suc (suc (suc begun)))) ≡ false = ap (λ (i : ℕ). begins (stmt_in lines session i)) three ∙ ap begins (at Commit) in
    ap (begin_in lines session) (sym three) ∙ begin_past lines session (suc (suc begun)) commit ∙ begin_past lines session (suc begun) get ∙ begin_past lines session begun put
    ∙ begin_itself lines session begun (omega arith) here
