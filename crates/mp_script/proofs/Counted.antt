-- Numbers by counting: those from one on, each once, are as many different ones among them.
use Rattle.std.proofs.Common.{◌≡◌, ◌≢◌, ℕ, zero, suc, ◌+◌, ◌-◌, ◌<◌, ◌≤◌, nat_lt, nat_le, Bool, true, false, List, [], ◌∷◌, ◌++◌, length, Option, Some, None, refl, sym, ap, ◌∙◌, arith, ◌==◌, ◌&&◌, if◌then◌else◌}
use Rattle.std.specs.Prelude.{count_by, IfSome}
use Rattle.std.specs.List.{AllByRecursion}
use Rattle.std.proofs.lemmas.Bool.Decides.{nat_tests}
use Rattle.std.proofs.lemmas.List.{append-nil, append_assoc}
use Rattle.std.proofs.lemmas.List.Elements.{filter_map-append}
use Rattle.std.proofs.lemmas.List.Sums.{sum_by-cons}
use Rattle.mp_model.specs.declared.replies.Answer.{Answer}
use Rattle.mp_script.specs.Execution.{Execution}
use Rattle.mp_script.specs.Transactions.{view_at, cts_of, is_number}
use Rattle.mp_script.specs.Below.{EachBelow, numbers}
use Rattle.mp_script.specs.Numbered.{IsFreeNumber, AreNumbered, AreNumberedOnce}

-- how often a number stands in a list
abbrev times : ℕ → List ℕ → ℕ
times n [] = 0
times n (x ∷ xs) = (if x == n then 1 else 0) + times n xs

times_append : (n : ℕ) (xs ys : List ℕ) → times n (xs ++ ys) ≡ times n xs + times n ys
times_append n [] ys = omega arith
times_append n (x ∷ xs) ys = let e = times_append n xs ys in omega (arith, e)

-- one that isn't there
none_there : (n : ℕ) (xs : List ℕ) → times n xs ≡ 0 → AllByRecursion (λ other. other ≢ n) xs
none_there n [] none = tt
none_there n (x ∷ xs) none = go (x == n) refl (none_there n xs)
  where
    go : (b : Bool) → (x == n) ≡ b → (times n xs ≡ 0 → AllByRecursion (λ other. other ≢ n) xs) → AllByRecursion (λ other. other ≢ n) (x ∷ xs)
    go true e rest = absurd (let z : 1 + times n xs ≡ 0 = rw e at none in omega (arith, z))
    go false e rest = (λ same. grind (arith, nat_tests), rest (let z : 0 + times n xs ≡ 0 = rw e at none in omega (arith, z)))

there_none : (n : ℕ) (xs : List ℕ) → AllByRecursion (λ other. other ≢ n) xs → times n xs ≡ 0
there_none n [] none = refl
there_none n (x ∷ xs) none = let e : (x == n) ≡ false = grind (arith, nat_tests, none.0) in let rest = there_none n xs none.1 in rw e (omega (arith, rest))

-- how many stand there of the first so many numbers above a base
abbrev hits : ℕ → ℕ → List ℕ → ℕ
hits base zero xs = 0
hits base (suc k) xs = hits base k xs + times (base + suc k) xs

hits_nil : (base k : ℕ) → hits base k [] ≡ 0
hits_nil base zero = refl
hits_nil base (suc k) = let e = hits_nil base k in omega (arith, e)

abbrev in_range : ℕ → ℕ → ℕ → ℕ
in_range base k x = if nat_lt base x && nat_le x (base + k) then 1 else 0

hits_cons : (base k x : ℕ) (xs : List ℕ) → hits base k (x ∷ xs) ≡ in_range base k x + hits base k xs
hits_cons base zero x xs = grind (arith, nat_tests)
hits_cons base (suc k) x xs = let e = hits_cons base k x xs in let more : (if (nat_lt base x && nat_le x (base + suc k)) then 1 else 0) ≡ (if (nat_lt base x && nat_le x (base + k)) then 1 else 0) + (if x == base + suc k then 1 else 0) = grind (arith, nat_tests) in omega (arith, e, more)

-- where all are of that range, they are as many
hits_all : (base k : ℕ) (xs : List ℕ) → AllByRecursion (λ x. (base < x) × (x ≤ base + k)) xs → hits base k xs ≡ length xs
hits_all base k [] all = hits_nil base k
hits_all base k (x ∷ xs) all = let e = hits_cons base k x xs in let rest = hits_all base k xs all.1 in let one : in_range base k x ≡ 1 = here in omega (arith, e, rest, one)
  where
    here : in_range base k x ≡ 1
    here = grind (arith, nat_tests, all.0)

-- where each stands there once, they are as many as the range has
hits_once : (base k most : ℕ) (xs : List ℕ) → k ≤ most → ((n : ℕ) → times n xs ≡ in_range base most n) → hits base k xs ≡ k
hits_once base zero most xs le once = refl
hits_once base (suc k) most xs le once =
    let below = hits_once base k most xs (omega (arith, le)) once in
    let one : times (base + suc k) xs ≡ 1 = once (base + suc k) ∙ grind (arith, nat_tests, le) in
    omega (arith, below, one)

ranged : (base most : ℕ) (xs : List ℕ) → ((n : ℕ) → times n xs ≤ in_range base most n) → AllByRecursion (λ x. (base < x) × (x ≤ base + most)) xs
ranged base most [] within = tt
ranged base most (x ∷ xs) within = (here, ranged base most xs (λ n. let w : (if x == n then 1 else 0) + times n xs ≤ in_range base most n = within n in omega (arith, w)))
  where
    here : (base < x) × (x ≤ base + most)
    here = go (nat_lt base x && nat_le x (base + most)) refl
      where
        go : (b : Bool) → (nat_lt base x && nat_le x (base + most)) ≡ b → (base < x) × (x ≤ base + most)
        go true e = (grind (arith, nat_tests), grind (arith, nat_tests))
        go false e =
            let w : (if x == x then 1 else 0) + times x xs ≤ (if nat_lt base x && nat_le x (base + most) then 1 else 0) = within x in
            let same : (x == x) ≡ true = grind (arith, nat_tests) in
            let v : 1 + times x xs ≤ 0 = rw (same, e) at w in
            absurd (omega (arith, v))

-- numbers that stand there once each are as many as the range has
pub once-length : (base most : ℕ) (xs : List ℕ) → ((n : ℕ) → times n xs ≡ in_range base most n) → length xs ≡ most
once-length base most xs once =
    let all = ranged base most xs (λ n. let e = once n in omega (arith, e)) in
    let many = hits_all base most xs all in
    let few = hits_once base most most xs (omega arith) once in
    omega (arith, many, few)

hits_most : (base k : ℕ) (xs : List ℕ) → ((n : ℕ) → times n xs ≤ 1) → hits base k xs ≤ k
hits_most base zero xs few = omega arith
hits_most base (suc k) xs few = let below = hits_most base k xs few in let one = few (base + suc k) in omega (arith, below, one)

-- where a range has as many as it may, each stands there
hits_each : (base k : ℕ) (xs : List ℕ) → ((n : ℕ) → times n xs ≤ 1) → hits base k xs ≡ k → (j : ℕ) → suc j ≤ k → times (base + suc j) xs ≡ 1
hits_each base zero xs few full j le = absurd (omega (arith, le))
hits_each base (suc k) xs few full j le = go (k == j) refl (hits_each base k xs few)
  where
    below : hits base k xs ≤ k
    below = hits_most base k xs few

    go : (b : Bool) → (k == j) ≡ b → (hits base k xs ≡ k → (j : ℕ) → suc j ≤ k → times (base + suc j) xs ≡ 1) → times (base + suc j) xs ≡ 1
    go true e rest = let same : k ≡ j = grind (arith, nat_tests) in rw (← same) (let one = few (base + suc k) in omega (arith, below, one, full))
    go false e rest = rest (let one = few (base + suc k) in omega (arith, below, one, full)) j (let other : k ≢ j = λ same. grind (arith, nat_tests) in grind (arith, nat_tests, le))

-- as many different ones as the range has are all that it has
pub length-once : (base most : ℕ) (xs : List ℕ) → ((n : ℕ) → times n xs ≤ 1) → AllByRecursion (λ x. (base < x) × (x ≤ base + most)) xs → length xs ≡ most → (n : ℕ) → times n xs ≡ in_range base most n
length-once base most xs few all many n = go (nat_lt base n && nat_le n (base + most)) refl
  where
    full : hits base most xs ≡ most
    full = hits_all base most xs all ∙ many

    absent : (ys : List ℕ) → AllByRecursion (λ x. (base < x) × (x ≤ base + most)) ys → (nat_lt base n && nat_le n (base + most)) ≡ false → AllByRecursion (λ x. x ≢ n) ys
    absent [] inside out = tt
    absent (y ∷ ys) inside out = (λ same. grind (arith, nat_tests, inside.0), absent ys inside.1 out)

    go : (b : Bool) → (nat_lt base n && nat_le n (base + most)) ≡ b → times n xs ≡ (if nat_lt base n && nat_le n (base + most) then 1 else 0)
    go true e =
        let low : base < n = grind (arith, nat_tests) in
        let high : n ≤ base + most = grind (arith, nat_tests) in
        rw e (at (n - base - 1) (omega (arith, low)) (omega (arith, low, high)))
      where
        at : (j : ℕ) → n ≡ base + suc j → suc j ≤ most → times n xs ≡ 1
        at j is le = rw is (hits_each base most xs few full j le)
    go false e = rw e (there_none n xs (absent xs all e))

-- the counts of answers are those of their numbers
count_times : (number : ℕ) (answers : List Answer) → count_by (λ answer. is_number number (cts_of answer.reply)) answers ≡ times number (numbers answers)
count_times number [] = refl
count_times number (answer ∷ answers) = sum_by-cons (λ (a : Answer). if is_number number (cts_of a.reply) then 1 else 0) answer answers ∙ go (cts_of answer.reply) refl (count_times number answers)
  where
    go : (found : Option ℕ) → cts_of answer.reply ≡ found → count_by (λ a. is_number number (cts_of a.reply)) answers ≡ times number (numbers answers) → (if is_number number (cts_of answer.reply) then 1 else 0) + count_by (λ a. is_number number (cts_of a.reply)) answers ≡ times number (numbers (answer ∷ answers))
    go None e more = rw e (omega (arith, more))
    go (Some other) e more = rw e (ap (λ rest. (if other == number then 1 else 0) + rest) more)

numbers_at : (above rest : List Answer) (answer : Answer) (number : ℕ) → cts_of answer.reply ≡ Some number → numbers (above ++ answer ∷ rest) ≡ numbers above ++ number ∷ numbers rest
numbers_at above rest answer number shows = filter_map-append (λ (a : Answer). cts_of a.reply) above (answer ∷ rest) ∙ ap (λ more. numbers above ++ more) (rw shows refl)

module _ (run : Execution) where
  abbrev IsAboveItsView : Answer → Type 0
  IsAboveItsView answer = IfSome (cts_of answer.reply) (λ number. view_at run answer.session answer.index < number)

  free_each : (above rest : List Answer) → ((n : ℕ) → times n (numbers (above ++ rest)) ≤ in_range run.opening.base run.commits n) → AllByRecursion IsAboveItsView rest → EachBelow (λ above answer. IfSome (cts_of answer.reply) (IsFreeNumber run above answer)) above rest
  free_each above [] once views = tt
  free_each above (answer ∷ rest) once views = (here (cts_of answer.reply) refl views.0, free_each (above ++ answer ∷ []) rest (λ n. rw (append_assoc above (answer ∷ []) rest) (once n)) views.1)
    where
      here : (found : Option ℕ) → cts_of answer.reply ≡ found → IfSome found (λ number. view_at run answer.session answer.index < number) → IfSome found (IsFreeNumber run above answer)
      here None e view = tt
      here (Some number) e view =
          let w : times number (numbers (above ++ answer ∷ rest)) ≤ in_range run.opening.base run.commits number = once number in
          let split : times number (numbers above ++ number ∷ numbers rest) ≤ in_range run.opening.base run.commits number = rw (← numbers_at above rest answer number e) w in
          let apart : times number (numbers above) + times number (number ∷ numbers rest) ≤ in_range run.opening.base run.commits number = rw (← times_append number (numbers above) (number ∷ numbers rest)) split in
          let same : (number == number) ≡ true = grind (arith, nat_tests) in
          let one : times number (numbers above) + (1 + times number (numbers rest)) ≤ in_range run.opening.base run.commits number = rw same at apart in
          let inside : (run.opening.base < number) × (number ≤ run.opening.base + run.commits) = within_range number (omega (arith, one)) in
          record { above_base = inside.0; within = inside.1; above_view = view; free = none_there number (numbers above) (omega (arith, one, at_most number)) }
        where
          at_most : (n : ℕ) → in_range run.opening.base run.commits n ≤ 1
          at_most n = grind (arith, nat_tests)

          within_range : (n : ℕ) → 1 ≤ in_range run.opening.base run.commits n → (run.opening.base < n) × (n ≤ run.opening.base + run.commits)
          within_range n some = (grind (arith, nat_tests), grind (arith, nat_tests))

  pub once-numbered : AreNumberedOnce run → AllByRecursion IsAboveItsView run.answers → AreNumbered run
  once-numbered once views =
      let counted : (n : ℕ) → times n (numbers run.answers) ≡ in_range run.opening.base run.commits n = λ n. sym (count_times n run.answers) ∙ once n in
      record { each = free_each [] run.answers (λ n. let e = counted n in omega (arith, e)) views; all = once-length run.opening.base run.commits (numbers run.answers) counted }

  each_few : (above rest : List Answer) → EachBelow (λ above answer. IfSome (cts_of answer.reply) (IsFreeNumber run above answer)) above rest → ((n : ℕ) → times n (numbers above) ≤ 1) → (n : ℕ) → times n (numbers (above ++ rest)) ≤ 1
  each_few above [] each few n = rw (append-nil above) (few n)
  each_few above (answer ∷ rest) each few n = rw (← append_assoc above (answer ∷ []) rest) (each_few (above ++ answer ∷ []) rest each.1 next n)
    where
      next : (m : ℕ) → times m (numbers (above ++ answer ∷ [])) ≤ 1
      next m = go (cts_of answer.reply) refl each.0
        where
          go : (found : Option ℕ) → cts_of answer.reply ≡ found → IfSome found (IsFreeNumber run above answer) → times m (numbers (above ++ answer ∷ [])) ≤ 1
          go None e free =
              let is : numbers (above ++ answer ∷ []) ≡ numbers above = filter_map-append (λ (a : Answer). cts_of a.reply) above (answer ∷ []) ∙ ap (λ more. numbers above ++ more) (rw e refl) ∙ append-nil (numbers above) in
              rw is (few m)
          go (Some number) e free = rw (numbers_at above [] answer number e, times_append m (numbers above) (number ∷ [])) (by_test (number == m) refl)
            where
              by_test : (b : Bool) → (number == m) ≡ b → times m (numbers above) + ((if number == m then 1 else 0) + 0) ≤ 1
              by_test true t = let same : number ≡ m = grind (arith, nat_tests) in let none : times m (numbers above) ≡ 0 = there_none m (numbers above) (rw (← same) free.free) in rw t (omega (arith, none))
              by_test false t = let some = few m in rw t (omega (arith, some))

  each_ranged : (above rest : List Answer) → EachBelow (λ above answer. IfSome (cts_of answer.reply) (IsFreeNumber run above answer)) above rest → AllByRecursion (λ x. (run.opening.base < x) × (x ≤ run.opening.base + run.commits)) (numbers rest)
  each_ranged above [] each = tt
  each_ranged above (answer ∷ rest) each = go (cts_of answer.reply) refl each.0 (each_ranged (above ++ answer ∷ []) rest each.1)
    where
      go : (found : Option ℕ) → cts_of answer.reply ≡ found → IfSome found (IsFreeNumber run above answer) → AllByRecursion (λ x. (run.opening.base < x) × (x ≤ run.opening.base + run.commits)) (numbers rest) → AllByRecursion (λ x. (run.opening.base < x) × (x ≤ run.opening.base + run.commits)) (numbers (answer ∷ rest))
      go None e free more = rw e more
      go (Some number) e free more = rw e ((free.above_base, free.within), more)

  pub numbered-once : AreNumbered run → AreNumberedOnce run
  numbered-once are number = count_times number run.answers
      ∙ length-once run.opening.base run.commits (numbers run.answers) (each_few [] run.answers are.each (λ n. omega arith)) (each_ranged [] run.answers are.each) are.all number
