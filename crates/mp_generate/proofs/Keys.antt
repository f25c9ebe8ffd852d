-- Each session puts each of its keys: 7 times 23 is 1 above a multiple of 32, so a round is about a given key.
use Rattle.std.proofs.Common.{arith, ◌≡◌, ℕ, ◌+◌, ◌*◌, ◌-◌, ◌/◌, ◌%◌, ◌<◌, ◌≤◌, List, [], ◌∷◌, ◌++◌, map, refl, ap, subst, ◌∙◌, inl, inr}
use Rattle.std.specs.List.{flat_map}
use Rattle.std.proofs.lemmas.Nat.{div-add-mod', mod-mul-add, mod_below}
use Rattle.mp_machine.specs.Lists.{IsIn}
use Rattle.mp_script.specs.declared.statements.Line.{Line}
use Rattle.mp_script.specs.declared.statements.Stmt.TheVariants as stmts
use Rattle.mp_script.specs.InTheirPart.{count_from}
use Rattle.mp_script.proofs.CountedAnswers.{in_count}
use Rattle.mp_generate.specs.declared.making.Form.TheVariants.{Begin, Put, Get, Commit}
use Rattle.mp_generate.specs.Generated.{key_of_round, round_value, generated_line, form_lines, round_lines, generated_lines, IsPutIn}

-- what stands in one of the lists stands in all of them
in_first : {Y : Type 0} (y : Y) (xs ys : List Y) → IsIn y xs → IsIn y (xs ++ ys)
in_first y [] ys h = absurd h
in_first y (x ∷ xs) ys (inl is) = inl is
in_first y (x ∷ xs) ys (inr h) = inr (in_first y xs ys h)

in_second : {Y : Type 0} (y : Y) (xs ys : List Y) → IsIn y ys → IsIn y (xs ++ ys)
in_second y [] ys h = h
in_second y (x ∷ xs) ys h = inr (in_second y xs ys h)

in_flat : {X Y : Type 0} (f : X → List Y) (x : X) (xs : List X) (y : Y) → IsIn x xs → IsIn y (f x) → IsIn y (flat_map f xs)
in_flat f x [] y at h = absurd at
in_flat f x (z ∷ xs) y (inl is) h = in_first y (f z) (flat_map f xs) (subst (λ k. IsIn y (f k)) is h)
in_flat f x (z ∷ xs) y (inr at) h = in_second y (f z) (flat_map f xs) (in_flat f x xs y at h)

in_map : {X Y : Type 0} (f : X → Y) (x : X) (xs : List X) → IsIn x xs → IsIn (f x) (map f xs)
in_map f x [] at = absurd at
in_map f x (z ∷ xs) (inl is) = inl (ap f is)
in_map f x (z ∷ xs) (inr at) = inr (in_map f x xs at)

put_stands : (number round session : ℕ) → 1 ≤ round → round ≤ 47 → 1 ≤ session → session ≤ 16 → IsIn (generated_line number round Put session) (generated_lines number)
put_stands number round session low high first last =
    let line : Line = generated_line number round Put session in
    let in_form : IsIn line (form_lines number round Put) = in_map (generated_line number round Put) session (count_from 1 16) (in_count session 1 16 first (omega (arith, last))) in
    let in_round : IsIn line (round_lines number round) = in_flat (form_lines number round) Put (Begin ∷ Put ∷ Get ∷ Commit ∷ []) line (inr (inl refl)) in_form in
    in_flat (round_lines number) round (count_from 1 47) line (in_count round 1 47 low (omega (arith, high))) in_round

-- the round, 1 to 32, that is about the key of that place in a session's thousand
round_for : ℕ → ℕ → ℕ
round_for begun least = (23 * (least + 32 - begun) + 31) % 32 + 1

round_is : (begun least : ℕ) → begun < 32 → least < 32 → (begun + 7 * round_for begun least) % 32 ≡ least
unfolding round_for
round_is begun least b l =
    let q : ℕ = 23 * (least + 32 - begun) + 31 in
    let k : ℕ = q / 32 in
    let t : ℕ = q % 32 in
    let whole : k * 32 + t ≡ q = div-add-mod' q 32 in
    turned k t whole
  where
    turned : (k t : ℕ) → k * 32 + t ≡ 23 * (least + 32 - begun) + 31 → (begun + 7 * (t + 1)) % 32 ≡ least
    turned k t whole =
        -- begun + 7 * (t + 1) and least are 32 times 5 * (least + 32 - begun) + 8 - 7 * k apart
        let times : ℕ = 5 * (least + 32 - begun) + 8 - 7 * k in
        let apart : begun + 7 * (t + 1) ≡ times * 32 + least = omega (arith, whole, b, l) in
        ap (λ n. n % 32) apart ∙ mod-mul-add times 32 least l

pub each_key : (number session least : ℕ) → 1 ≤ session → session ≤ 16 → least < 32 → IsPutIn (generated_lines number) session (1000 * session + least)
unfolding round_for
each_key number session least first last l =
    let begun : number % 32 < 32 = mod_below number 32 (omega arith) in
    let round : ℕ = round_for (number % 32) least in
    let most : (23 * (least + 32 - number % 32) + 31) % 32 < 32 = mod_below (23 * (least + 32 - number % 32) + 31) 32 (omega arith) in
    let key : key_of_round number round session ≡ 1000 * session + least = ap (λ n. 1000 * session + n) (round_is (number % 32) least begun l) in
    (generated_line number round Put session, put_stands number round session (omega arith) (omega (arith, most)) first last, refl, round_value session round, ap (λ k. stmts.Put k (round_value session round)) key)
