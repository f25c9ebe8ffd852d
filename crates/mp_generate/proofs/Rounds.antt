-- The lines of a generated script may be said one below the other, and each session has 188 of them in the end.
use Rattle.std.proofs.Common.{arith, ◌≡◌, ℕ, zero, suc, ◌+◌, ◌*◌, ◌-◌, ◌%◌, ◌<◌, ◌≤◌, ◌==◌, ◌||◌, Bool, true, false, List, [], ◌∷◌, ◌++◌, map, refl, sym, ap, subst, ◌∙◌, append-nil, append_assoc}
use Rattle.std.specs.List.{flat_map}
use Rattle.std.proofs.lemmas.Bool.Decides.{nat_tests}
use Rattle.std.proofs.lemmas.List.Folds.{list_any-append}
use Rattle.std.proofs.lemmas.Nat.{mod_below}
use Rattle.mp_script.specs.declared.statements.Line.{Line}
use Rattle.mp_script.specs.declared.statements.SessionOn.{SessionOn}
use Rattle.mp_script.specs.InTheirPart.{count_from}
use Rattle.mp_script.specs.Entries.{is_declared, open_after}
use Rattle.mp_script.specs.Words.{IsStmt}
use Rattle.mp_script.specs.Spelling.{MayDeclare, MayStand}
use Rattle.mp_script.proofs.Canonical.{said, AllDeclared, AllSaid}
use Rattle.mp_generate.specs.declared.making.Form.{Form}
use Rattle.mp_generate.specs.declared.making.Form.TheVariants.{Begin, Put, Get, Commit}
use Rattle.mp_generate.specs.Generated.{form_stmt, generated_line, form_lines, round_lines, generated_lines, generated_session, generated_sessions, next_session}
use Rattle.mp_generate.proofs.Rows.{IsEven, IsRow, row_said, said_in_two}
use Rattle.mp_generate.proofs.Values.{key_low, value_put}

declared_from : (session count first : ℕ) → first ≤ session → session < first + count → is_declared (map generated_session (count_from first count)) session ≡ true
declared_from session zero first low high = absurd (omega (arith, low, high))
declared_from session (suc count) first low high = go (session == first) refl (declared_from session count (first + 1))
  where
    go : (b : Bool) → (session == first) ≡ b → (first + 1 ≤ session → session < first + 1 + count → is_declared (map generated_session (count_from (first + 1) count)) session ≡ true)
        → ((session == first) || is_declared (map generated_session (count_from (first + 1) count)) session) ≡ true
    go true e rest = rw e refl
    go false e rest = let above : first < session = apart e in rw e (rest (omega (arith, above)) (omega (arith, high)))
      where
        apart : (session == first) ≡ false → first < session
        apart e = grind (arith, nat_tests)

pub declared : (session : ℕ) → 1 ≤ session → session ≤ 16 → is_declared generated_sessions session ≡ true
declared session low high = declared_from session 16 1 low (omega (arith, high))

one_declared : (session : ℕ) (above : List SessionOn) → 1 ≤ session → session ≤ 64 → is_declared above session ≡ false → MayDeclare (said 4 above []) (generated_session session)
one_declared session above low high new =
    let part : (session - 1) % 4 < 4 = mod_below (session - 1) 4 (omega arith) in
    record { session_low = low; session_high = high; primary_low = omega arith; primary_high = omega (arith, part); new = new }

-- no session from a number on is declared
IsClear : List SessionOn → ℕ → Type 0
IsClear above first = (session : ℕ) → first ≤ session → is_declared above session ≡ false

clear_next : (above : List SessionOn) (first : ℕ) → IsClear above first → IsClear (above ++ generated_session first ∷ []) (first + 1)
unfolding IsClear
clear_next above first clear session from =
    let apart : (session == first) ≡ false = differ session first (omega (arith, from)) in
    list_any-append (λ s. session == s.session) above (generated_session first ∷ []) ∙ neither (clear session (omega (arith, from))) (ap (λ (b : Bool). b || false) apart)
  where
    differ : (a b : ℕ) → b < a → (a == b) ≡ false
    differ a b h = grind (arith, nat_tests)

    neither : {p q : Bool} → p ≡ false → q ≡ false → (p || q) ≡ false
    neither e f = cc

declared_in_turn : (count first : ℕ) (above : List SessionOn) → 1 ≤ first → first + count ≤ 17 → IsClear above first → AllDeclared 4 above (map generated_session (count_from first count))
unfolding IsClear
declared_in_turn zero first above low high clear = tt
declared_in_turn (suc count) first above low high clear =
    (one_declared first above low (omega (arith, high)) (clear first (omega arith)), declared_in_turn count (first + 1) (above ++ generated_session first ∷ []) (omega arith) (omega (arith, high)) (clear_next above first clear))

pub all_declared : AllDeclared 4 [] generated_sessions
unfolding IsClear
all_declared = declared_in_turn 16 1 [] (omega arith) (omega arith) (λ session from. refl)

-- how many statements of a session stand above a form of a round, and whether its transaction is open above it and behind it
above_form : ℕ → Form → ℕ
above_form round Begin = 4 * (round - 1)
above_form round Put = 4 * (round - 1) + 1
above_form round Get = 4 * (round - 1) + 2
above_form round Commit = 4 * (round - 1) + 3

open_before : Form → Bool
open_before Begin = false
open_before Put = true
open_before Get = true
open_before Commit = true

open_behind_form : Form → Bool
open_behind_form Begin = true
open_behind_form Put = true
open_behind_form Get = true
open_behind_form Commit = false

form_index_is : (number round session : ℕ) (form : Form) → (generated_line number round form session).index ≡ above_form round form + 1
unfolding above_form
form_index_is number round session Begin = refl
form_index_is number round session Put = omega arith
form_index_is number round session Get = omega arith
form_index_is number round session Commit = omega arith

form_within : (number round : ℕ) (form : Form) (session : ℕ) → round ≤ 47 → session ≤ 16 → IsStmt (form_stmt number round form session)
form_within number round Begin session r s = tt
form_within number round Put session r s = (key_low number round session s, value_put session round (omega (arith, s)) (omega (arith, r)))
form_within number round Get session r s = let next : session % 16 < 16 = mod_below session 16 (omega arith) in key_low number round (next_session session) (omega (arith, next))
form_within number round Commit session r s = tt

form_stands : (number round : ℕ) (form : Form) (session : ℕ) → MayStand (open_before form) (form_stmt number round form session)
unfolding open_before
form_stands number round Begin session = tt
form_stands number round Put session = tt
form_stands number round Get session = tt
form_stands number round Commit session = tt

form_opens : (number round : ℕ) (form : Form) (session : ℕ) → open_after (form_stmt number round form session) ≡ open_behind_form form
unfolding open_behind_form
form_opens number round Begin session = refl
form_opens number round Put session = refl
form_opens number round Get session = refl
form_opens number round Commit session = refl

form_row : (number round : ℕ) (form : Form) → round ≤ 47 → IsRow (generated_line number round form) (above_form round form) (open_before form) (open_behind_form form)
form_row number round form r = record {
  session = λ session. refl;
  index = λ session. form_index_is number round session form;
  within = λ session s. form_within number round form session r s;
  stands = form_stands number round form;
  behind = form_opens number round form;
}

few_above : (round : ℕ) (form : Form) → round ≤ 47 → above_form round form < 600
unfolding above_form
few_above round Begin r = omega (arith, r)
few_above round Put r = omega (arith, r)
few_above round Get r = omega (arith, r)
few_above round Commit r = omega (arith, r)

form_said : (number round : ℕ) (form : Form) (above : List Line) → round ≤ 47 → IsEven above (above_form round form) (open_before form)
    → AllSaid 4 generated_sessions above (form_lines number round form) × IsEven (above ++ form_lines number round form) (above_form round form + 1) (open_behind_form form)
form_said number round form above r even =
    row_said 4 generated_sessions declared (generated_line number round form) (above_form round form) (open_before form) (open_behind_form form) (form_row number round form r) (few_above round form r) above even

-- what lines bring, below those above
abbrev Brings : List Line → List Line → ℕ → Type 0
Brings above lines n = AllSaid 4 generated_sessions above lines × IsEven (above ++ lines) n false

round_said : (number round : ℕ) (above : List Line) → round ≤ 47 → IsEven above (4 * (round - 1)) false → Brings above (round_lines number round) (4 * (round - 1) + 4)
unfolding above_form open_before open_behind_form
round_said number round above r even =
    let begins : List Line = form_lines number round Begin in
    let puts : List Line = form_lines number round Put in
    let gets : List Line = form_lines number round Get in
    let commits : List Line = form_lines number round Commit in
    let one : AllSaid 4 generated_sessions above begins × IsEven (above ++ begins) (4 * (round - 1) + 1) true = form_said number round Begin above r even in
    let two : AllSaid 4 generated_sessions (above ++ begins) puts × IsEven ((above ++ begins) ++ puts) (4 * (round - 1) + 1 + 1) true = form_said number round Put (above ++ begins) r one.1 in
    let three : AllSaid 4 generated_sessions ((above ++ begins) ++ puts) gets × IsEven (((above ++ begins) ++ puts) ++ gets) (4 * (round - 1) + 2 + 1) true =
    form_said number round Get ((above ++ begins) ++ puts) r (subst (λ n. IsEven ((above ++ begins) ++ puts) n true) (omega arith) two.1) in
    let four : AllSaid 4 generated_sessions (((above ++ begins) ++ puts) ++ gets) commits × IsEven ((((above ++ begins) ++ puts) ++ gets) ++ commits) (4 * (round - 1) + 3 + 1) false =
    form_said number round Commit (((above ++ begins) ++ puts) ++ gets) r (subst (λ n. IsEven (((above ++ begins) ++ puts) ++ gets) n true) (omega arith) three.1) in (
      said_in_two 4 generated_sessions above begins (puts ++ (gets ++ (commits ++ []))) one.0
          (said_in_two 4 generated_sessions (above ++ begins) puts (gets ++ (commits ++ [])) two.0
          (said_in_two 4 generated_sessions ((above ++ begins) ++ puts) gets (commits ++ []) three.0
          (said_in_two 4 generated_sessions (((above ++ begins) ++ puts) ++ gets) commits [] four.0 tt))),
      subst (λ n. IsEven (above ++ (begins ++ (puts ++ (gets ++ (commits ++ []))))) n false) (omega arith)
          (subst (λ l. IsEven l (4 * (round - 1) + 3 + 1) false) (in_one above begins puts gets commits) four.1),
    )
  where
    in_one : (a b c d e : List Line) → (((a ++ b) ++ c) ++ d) ++ e ≡ a ++ (b ++ (c ++ (d ++ (e ++ []))))
    in_one a b c d e =
        append_assoc ((a ++ b) ++ c) d e ∙ append_assoc (a ++ b) c (d ++ e) ∙ append_assoc a b (c ++ (d ++ e))
        ∙ ap (λ (l : List Line). a ++ (b ++ (c ++ (d ++ l)))) (sym (append-nil e))

rounds_said : (number count first : ℕ) (above : List Line) → 1 ≤ first → first + count ≤ 48 → IsEven above (4 * (first - 1)) false
    → Brings above (flat_map (round_lines number) (count_from first count)) (4 * (first - 1) + 4 * count)
rounds_said number zero first above low high even = (tt, subst (λ l. IsEven l (4 * (first - 1) + 4 * 0) false) (sym (append-nil above)) (subst (λ n. IsEven above n false) (omega arith) even))
rounds_said number (suc count) first above low high even =
    let here : List Line = round_lines number first in
    let behind : List Line = flat_map (round_lines number) (count_from (first + 1) count) in
    let one : Brings above here (4 * (first - 1) + 4) = round_said number first above (omega (arith, high)) even in
    let rest : Brings (above ++ here) behind (4 * (first + 1 - 1) + 4 * count) =
    rounds_said number count (first + 1) (above ++ here) (omega arith) (omega (arith, high)) (subst (λ n. IsEven (above ++ here) n false) (omega (arith, low)) one.1) in (
      said_in_two 4 generated_sessions above here behind one.0 rest.0,
      subst (λ n. IsEven (above ++ (here ++ behind)) n false) (omega (arith, low)) (subst (λ l. IsEven l (4 * (first + 1 - 1) + 4 * count) false) (append_assoc above here behind) rest.1),
    )

pub all_said : (number : ℕ) → Brings [] (generated_lines number) 188
all_said number = rounds_said number 47 1 [] (omega arith) (omega arith) (record { counts = λ session low high. refl; opens = λ session low high. refl; size = refl })
