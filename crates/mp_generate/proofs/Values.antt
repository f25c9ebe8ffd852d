-- Keys of a round are of their session's thousand, and what is put is a value.
use Rattle.std.proofs.Common.{arith, ◌≡◌, ℕ, suc, ◌+◌, ◌*◌, ◌/◌, ◌%◌, ◌<◌, ◌≤◌, ◌^◌, ◌∷◌, [], ◌++◌, List, length, true, nat_le, sym, ap, ap₂, subst, ◌∙◌, Bool, false, Option, Some, None, if◌then◌else◌}
use Rattle.std.specs.List.{list_all}
use Rattle.std.specs.Fmt.{decimal}
use Rattle.std.proofs.lemmas.Bool.Decides.{nat_tests}
use Rattle.std.proofs.lemmas.Fmt.{length-decimal-le}
use Rattle.std.proofs.lemmas.List.{length-append}
use Rattle.std.proofs.lemmas.List.Folds.{list_all-append}
use Rattle.std.proofs.lemmas.Nat.{div-mul-add, mod-mul-add, mod_below}
use Rattle.mp_model.specs.Values.{is_value, is_value_byte}
use Rattle.mp_script.proofs.Splitting.{both}
use Rattle.mp_script.proofs.WordBytes.{plain-decimal}
use Rattle.mp_generate.specs.Generated.{key_of_round, round_value, IsKeyOf}

below_32 : (n : ℕ) → n % 32 < 32
below_32 n = mod_below n 32 (omega arith)

pub key_low : (number round session : ℕ) → session ≤ 16 → key_of_round number round session < 2 ^ 32
key_low number round session low = omega (arith, low, below_32 (number % 32 + 7 * round))

pub key_own : (number round session : ℕ) → IsKeyOf session (key_of_round number round session)
key_own number round session =
    let least : ℕ = (number % 32 + 7 * round) % 32 in
    let small : least < 1000 = omega (arith, below_32 (number % 32 + 7 * round)) in
    let same : 1000 * session + least ≡ session * 1000 + least = omega arith in
    record {
      thousand = ap (λ n. n / 1000) same ∙ div-mul-add session 1000 least small;
      first = subst (λ n. n < 32) (sym (ap (λ n. n % 1000) same ∙ mod-mul-add session 1000 least small)) (below_32 (number % 32 + 7 * round));
    }

le-test : (n m : ℕ) → n ≤ m → nat_le n m ≡ true
le-test n m h = grind (arith, nat_tests)

short-decimal : (n : ℕ) → n < 2 ^ 32 → length (decimal n) ≤ 10
short-decimal n h = length-decimal-le 10 n (omega arith) (omega arith) (omega arith)

pub value_put : (session round : ℕ) → session < 2 ^ 32 → round < 2 ^ 32 → is_value (round_value session round) ≡ true
value_put session round s r =
    let size : length (decimal session ++ 45 ∷ decimal round) ≡ length (decimal session) + (1 + length (decimal round)) = length-append {A = ℕ} (decimal session) (45 ∷ decimal round) ∙ omega arith in
    let plain : list_all is_value_byte (decimal session ++ 45 ∷ decimal round) ≡ true =
    list_all-append is_value_byte (decimal session) (45 ∷ decimal round) ∙ both (plain-decimal session (omega (arith, s))) (plain-decimal round (omega (arith, r))) in
    let text : List ℕ = decimal session ++ 45 ∷ decimal round in
    both (both (le-test 1 (suc (length text)) (omega arith)) (le-test (suc (length text)) 32 (omega (arith, size, short-decimal session s, short-decimal round r)))) plain

-- what two pushes into an empty text make of the numbers
pub value_made : (session round a b : ℕ) (none first second text : List ℕ) → a ≡ session → b ≡ round → none ≡ [] → first ≡ none ++ (118 ∷ decimal a) → second ≡ first ++ (45 ∷ decimal b) → text ≡ second → text ≡ round_value session round
value_made session round a b none first second text is_session is_round empty one two all =
    all ∙ two ∙ ap (λ (l : List ℕ). l ++ (45 ∷ decimal b)) (one ∙ ap (λ (l : List ℕ). l ++ (118 ∷ decimal a)) empty)
    ∙ ap₂ (λ x y. round_value x y) is_session is_round

pub value_read : (session round : ℕ) (text : List ℕ) (read : Option (List ℕ)) → session < 2 ^ 32 → round < 2 ^ 32 → text ≡ round_value session round → read ≡ (if is_value text then Some text else None) → read ≡ None → ⊥
value_read session round text read s r is answer none = wrong (is_value text) (ap is_value is ∙ value_put session round s r) (sym none ∙ answer)
  where
    wrong : (b : Bool) → b ≡ true → None ≡ (if b then Some text else None) → ⊥
    wrong true e h = cc
    wrong false e h = cc
