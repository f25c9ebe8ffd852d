-- What a generated script has: how many statements, of which how many begin a transaction, and whose keys it writes.
use Rattle.std.proofs.Common.{arith, ◌≡◌, ℕ, ◌+◌, ◌*◌, ◌≤◌, List, [], ◌∷◌, ◌++◌, length, map, refl, ap, ◌∙◌}
use Rattle.std.specs.List.{flat_map, AllByRecursion}
use Rattle.std.proofs.lemmas.List.Sums.{sum_by-append}
use Rattle.mp_script.specs.declared.statements.Line.{Line}
use Rattle.mp_script.specs.declared.statements.Script.{Script}
use Rattle.mp_script.specs.InTheirPart.{count_from}
use Rattle.mp_script.specs.Entries.{statements}
use Rattle.mp_script.specs.Spelling.{IsSpelled, said_of}
use Rattle.mp_script.specs.SpelledLines.{begin_count}
use Rattle.mp_script.proofs.Canonical.{said}
use Rattle.mp_script.proofs.Lists.{all_append}
use Rattle.mp_generate.specs.declared.making.Form.{Form}
use Rattle.mp_generate.specs.declared.making.Form.TheVariants.{Begin, Put, Get, Commit}
use Rattle.mp_generate.specs.Generated.{form_stmt, generated_line, form_lines, round_lines, generated_lines, generated_sessions, IsGenerated, WritesItsOwn}
use Rattle.mp_generate.proofs.Rounds.{all_declared, all_said}
use Rattle.mp_generate.proofs.Telling.{told}
use Rattle.mp_generate.proofs.Values.{key_own}

pub line_count : (number : ℕ) → length (generated_lines number) ≡ 3008
line_count number = (all_said number).1.size

pub session_count : (number session : ℕ) → 1 ≤ session → session ≤ 16 → statements (generated_lines number) session ≡ 188
session_count number session low high = (all_said number).1.counts session low high

round_begins : (number round : ℕ) → begin_count (round_lines number round) ≡ 16
round_begins number round = refl

begins_each : (number : ℕ) (rounds : List ℕ) → begin_count (flat_map (round_lines number) rounds) ≡ 16 * length rounds
begins_each number [] = refl
begins_each number (round ∷ rounds) =
    let split : begin_count (round_lines number round ++ flat_map (round_lines number) rounds) ≡ begin_count (round_lines number round) + begin_count (flat_map (round_lines number) rounds) =
    sum_by-append _ (round_lines number round) (flat_map (round_lines number) rounds) in
    let rest : begin_count (flat_map (round_lines number) rounds) ≡ 16 * length rounds = begins_each number rounds in
    omega (arith, split, rest, round_begins number round)

pub all_begins : (number : ℕ) → begin_count (generated_lines number) ≡ 752
all_begins number = begins_each number (count_from 1 47)

-- each line of a list of lists has what each line of each list has
all_flat : {X Y : Type 0} (P : Y → Type 0) (f : X → List Y) (xs : List X) → ((x : X) → AllByRecursion P (f x)) → AllByRecursion P (flat_map f xs)
all_flat P f [] each = tt
all_flat P f (x ∷ xs) each = all_append P (f x) (flat_map f xs) (each x) (all_flat P f xs each)

all_mapped : {X Y : Type 0} (P : Y → Type 0) (f : X → Y) (xs : List X) → ((x : X) → P (f x)) → AllByRecursion P (map f xs)
all_mapped P f [] each = tt
all_mapped P f (x ∷ xs) each = (each x, all_mapped P f xs each)

own_stmt : (number round : ℕ) (form : Form) (session : ℕ) → WritesItsOwn session (form_stmt number round form session)
own_stmt number round Begin session = tt
own_stmt number round Put session = key_own number round session
own_stmt number round Get session = tt
own_stmt number round Commit session = tt

Owns : Line → Type 0
Owns line = WritesItsOwn line.session line.stmt

round_owns : (number round : ℕ) → AllByRecursion Owns (round_lines number round)
unfolding Owns
round_owns number round =
    all_flat Owns (form_lines number round) (Begin ∷ Put ∷ Get ∷ Commit ∷ []) (λ form. all_mapped Owns (generated_line number round form) (count_from 1 16) (own_stmt number round form))

pub own_keys : (number : ℕ) → AllByRecursion (λ line. WritesItsOwn line.session line.stmt) (generated_lines number)
unfolding Owns
own_keys number = all_flat Owns (round_lines number) (count_from 1 47) (round_owns number)

pub generated_spelled : (number : ℕ) (script : Script) → IsGenerated number script → IsSpelled script
generated_spelled number script made =
    let is : said_of script ≡ said 4 generated_sessions (generated_lines number) =
    ap (λ k. said k script.sessions.items script.lines.items) made.primaries ∙ ap (λ x. said 4 x script.lines.items) made.sessions ∙ ap (said 4 generated_sessions) made.lines in
    told script 4 generated_sessions (generated_lines number) is (omega arith) (omega arith) all_declared (all_said number).0 (omega (arith, line_count number))
