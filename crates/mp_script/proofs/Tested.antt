-- Tests by computing: where an execution passes them, all rules but that of right replies hold.
use Rattle.std.proofs.Common.{◌≡◌, ◌≢◌, ℕ, zero, suc, ◌+◌, ◌<◌, ◌≤◌, nat_lt, nat_le, not, Bool, true, false, List, [], ◌∷◌, ◌++◌, length, Option, Some, None, refl, sym, ap, ◌∙◌, arith, ◌==◌, ◌&&◌, ◌||◌}
use Rattle.std.specs.Prelude.{IfSome, slice_get}
use Rattle.std.specs.List.{AllByRecursion, list_all, list_any, filter_map}
use Rattle.std.proofs.lemmas.Bool.Decides.{nat_tests}
use Rattle.mp_model.specs.declared.ids.TrxName.{TrxName}
use Rattle.mp_model.specs.declared.replies.Answer.{Answer}
use Rattle.mp_model.specs.declared.replies.Reply.{Reply}
use Rattle.mp_model.specs.declared.replies.Reply.TheVariants.{Began, Got, Scanned, Wrote, Committed, CommittedNone, Unknown, RolledBack, Conflict, Held, Full, Skipped, Stopped}
use Rattle.mp_model.specs.declared.transcripts.Mode.{Mode}
use Rattle.mp_model.specs.declared.transcripts.Mode.TheVariants.{Step, Run}
use Rattle.mp_model.specs.declared.transcripts.Part.{Part}
use Rattle.mp_script.specs.declared.statements.Line.{Line}
use Rattle.mp_script.specs.Below.{EachBelow, EachInItsPart, numbers, greatest_cts, answered, stated}
use Rattle.mp_script.specs.Conflicts.{AcknowledgesKey, FirstCommitterWins, SeesEarlierCommits, since_first_write, HoldsItsKeys}
use Rattle.mp_script.specs.Execution.{Execution, runs_on}
use Rattle.mp_script.specs.InTheirPart.{BeginsAtOpening, belongs, IsNextStatement, LeavesNone}
use Rattle.mp_script.specs.Legal.{IsLegal}
use Rattle.mp_script.specs.Numbered.{IsFreeNumber, IfBegan, IfShowsView, CoversAbove, IsRightView}
use Rattle.mp_script.specs.Right.{IsRightAnswer}
use Rattle.mp_script.specs.Transactions.{trx_of, same_trx, view_at, cts_of, acknowledged_cts, is_number, wrote_at, wrote_among, wrote_before, statements_before}
use Rattle.mp_script.specs.WentDown.{DownsRise, HaveTheirCause, IsNamedDown, same_primary, shows_down, is_stopped, StaysDown}

both_parts : (a b : Bool) → (a && b) ≡ true → (a ≡ true) × (b ≡ true)
both_parts true b h = (refl, h)
both_parts false b h = cc

abbrev is_in : ℕ → List ℕ → Bool
is_in x xs = list_any (λ y. y == x) xs

in_all : (test : ℕ → Bool) (xs : List ℕ) (x : ℕ) → list_all test xs ≡ true → is_in x xs ≡ true → test x ≡ true
in_all test [] x all_xs there = cc
in_all test (y ∷ xs) x all_xs there = go (y == x) refl (in_all test xs x (both_parts (test y) (list_all test xs) all_xs).1)
  where
    go : (b : Bool) → (y == x) ≡ b → (is_in x xs ≡ true → test x ≡ true) → test x ≡ true
    go true e rest = let same : y ≡ x = grind (arith, nat_tests) in rw (← same) (both_parts (test y) (list_all test xs) all_xs).0
    go false e rest = rest (rw e at there)

all_tested : {T : Type 0} (P : T → Type 0) (test : T → Bool) (xs : List T) → ((x : T) → test x ≡ true → P x) → list_all test xs ≡ true → AllByRecursion P xs
all_tested P test [] sound passes = tt
all_tested P test (x ∷ xs) sound passes = let two = both_parts (test x) (list_all test xs) passes in (sound x two.0, all_tested P test xs sound two.1)

abbrev below_test : (List Answer → Answer → Bool) → List Answer → List Answer → Bool
below_test test above [] = true
below_test test above (answer ∷ answers) = test above answer && below_test test (above ++ answer ∷ []) answers

below_tested : (P : List Answer → Answer → Type 0) (test : List Answer → Answer → Bool) (above answers : List Answer) → ((above : List Answer) (answer : Answer) → test above answer ≡ true → P above answer) → below_test test above answers ≡ true → EachBelow P above answers
below_tested P test above [] sound passes = tt
below_tested P test above (answer ∷ answers) sound passes =
    let two = both_parts (test above answer) (below_test test (above ++ answer ∷ []) answers) passes in
    (sound above answer two.0, below_tested P test (above ++ answer ∷ []) answers sound two.1)

abbrev parts_test : Execution → (ℕ → List Answer → Answer → Bool) → Bool
parts_test run test = list_all (λ part. below_test (test part.primary) [] part.answers.items) run.parts

parts_tested : (run : Execution) (P : ℕ → List Answer → Answer → Type 0) (test : ℕ → List Answer → Answer → Bool) → ((primary : ℕ) (above : List Answer) (answer : Answer) → test primary above answer ≡ true → P primary above answer) → parts_test run test ≡ true → EachInItsPart run P
parts_tested run P test sound passes = all_tested (λ (part : Part). EachBelow (P part.primary) [] part.answers.items) (λ part. below_test (test part.primary) [] part.answers.items) run.parts (λ part one. below_tested (P part.primary) (test part.primary) [] part.answers.items (sound part.primary) one) passes

same_trx-is : (a b : TrxName) → same_trx a b ≡ true → a ≡ b
same_trx-is a b e =
    let two = both_parts (a.session == b.session) (a.first == b.first) e in
    let s : a.session ≡ b.session = number_is a.session b.session two.0 in
    let f : a.first ≡ b.first = number_is a.first b.first two.1 in
    ap (λ n. record { session = n; first = a.first }) s ∙ ap (λ n. record { session = b.session; first = n }) f
  where
    number_is : (n m : ℕ) → (n == m) ≡ true → n ≡ m
    number_is n m e = grind (arith, nat_tests)

module _ (run : Execution) where
  -- each answer is the one to its session's next statement, and none is left
  abbrev next_test : ℕ → List Answer → Answer → Bool
  next_test primary above answer = belongs run primary answer.session && is_number answer.index (slice_get (stated answer.session run.lines) (length (answered answer.session above)))

  next_sound : (primary : ℕ) (above : List Answer) (answer : Answer) → next_test primary above answer ≡ true → IsNextStatement run primary above answer
  next_sound primary above answer passes =
      let two = both_parts (belongs run primary answer.session) (is_number answer.index (slice_get (stated answer.session run.lines) (length (answered answer.session above)))) passes in
      record { its_part = two.0; next = found (slice_get (stated answer.session run.lines) (length (answered answer.session above))) two.1 }
    where
      found : (o : Option ℕ) → is_number answer.index o ≡ true → o ≡ Some answer.index
      found (Some n) e = let same : n ≡ answer.index = grind (arith, nat_tests) in rw same refl
      found None e = cc

  abbrev left_test : List ℕ → Part → Bool
  left_test sessions part = list_all (λ line. is_in line.session sessions) run.lines && (list_all (λ answer. is_in answer.session sessions) part.answers.items
      && list_all (λ session. not (belongs run part.primary session) || length (answered session part.answers.items) == length (stated session run.lines)) sessions)

  left_sound : (sessions : List ℕ) (part : Part) → left_test sessions part ≡ true → LeavesNone run part
  left_sound sessions part passes session its = go (is_in session sessions) refl
    where
      two : (list_all (λ line. is_in line.session sessions) run.lines ≡ true) × ((list_all (λ answer. is_in answer.session sessions) part.answers.items && list_all (λ session. not (belongs run part.primary session) || length (answered session part.answers.items) == length (stated session run.lines)) sessions) ≡ true)
      two = both_parts _ _ passes

      more : (list_all (λ answer. is_in answer.session sessions) part.answers.items ≡ true) × (list_all (λ session. not (belongs run part.primary session) || length (answered session part.answers.items) == length (stated session run.lines)) sessions ≡ true)
      more = both_parts _ _ two.1

      no_answers : (answers : List Answer) → list_all (λ answer. is_in answer.session sessions) answers ≡ true → is_in session sessions ≡ false → length (answered session answers) ≡ 0
      no_answers [] all_in out = refl
      no_answers (answer ∷ answers) all_in out = by_test (answer.session == session) refl (no_answers answers (both_parts _ _ all_in).1 out)
        where
          by_test : (b : Bool) → (answer.session == session) ≡ b → length (answered session answers) ≡ 0 → length (answered session (answer ∷ answers)) ≡ 0
          by_test true e rest = let same : answer.session ≡ session = grind (arith, nat_tests) in let wrong : is_in session sessions ≡ true = rw (← same) (both_parts _ _ all_in).0 in cc
          by_test false e rest = rw e rest

      no_lines : (lines : List Line) → list_all (λ line. is_in line.session sessions) lines ≡ true → is_in session sessions ≡ false → length (stated session lines) ≡ 0
      no_lines [] all_in out = refl
      no_lines (line ∷ lines) all_in out = by_test (line.session == session) refl (no_lines lines (both_parts _ _ all_in).1 out)
        where
          by_test : (b : Bool) → (line.session == session) ≡ b → length (stated session lines) ≡ 0 → length (stated session (line ∷ lines)) ≡ 0
          by_test true e rest = let same : line.session ≡ session = grind (arith, nat_tests) in let wrong : is_in session sessions ≡ true = rw (← same) (both_parts _ _ all_in).0 in cc
          by_test false e rest = rw e rest

      go : (b : Bool) → is_in session sessions ≡ b → length (answered session part.answers.items) ≡ length (stated session run.lines)
      go true e =
          let here : (not (belongs run part.primary session) || length (answered session part.answers.items) == length (stated session run.lines)) ≡ true = in_all (λ s. not (belongs run part.primary s) || length (answered s part.answers.items) == length (stated s run.lines)) sessions session more.1 e in
          let equal : (length (answered session part.answers.items) == length (stated session run.lines)) ≡ true = rw its at here in
          grind (arith, nat_tests)
      go false e = no_answers part.answers.items more.0 e ∙ sym (no_lines run.lines two.0 e)

  -- numbers and views
  abbrev number_test : List Answer → Answer → Option ℕ → Bool
  number_test above answer None = true
  number_test above answer (Some number) = nat_lt run.opening.base number && (nat_le number (run.opening.base + run.commits) && (nat_lt (view_at run answer.session answer.index) number && list_all (λ other. not (other == number)) (numbers above)))

  number_sound : (above : List Answer) (answer : Answer) (shown : Option ℕ) → number_test above answer shown ≡ true → IfSome shown (IsFreeNumber run above answer)
  number_sound above answer None passes = tt
  number_sound above answer (Some number) passes =
      let one = both_parts _ _ passes in
      let two = both_parts _ _ one.1 in
      let three = both_parts _ _ two.1 in
      record { above_base = lt _ _ one.0; within = le _ _ two.0; above_view = lt _ _ three.0; free = all_tested (λ other. other ≢ number) (λ other. not (other == number)) (numbers above) (λ other e same. grind (arith, nat_tests)) three.1 }
    where
      lt : (n m : ℕ) → nat_lt n m ≡ true → n < m
      lt n m e = grind (arith, nat_tests)

      le : (n m : ℕ) → nat_le n m ≡ true → n ≤ m
      le n m e = grind (arith, nat_tests)

  abbrev covers_test : Mode → List Answer → ℕ → Bool
  covers_test Step above view = view == greatest_cts run.opening.base (numbers above)
  covers_test Run above view = list_all (λ number. nat_le number view) (numbers above)

  covers_sound : (mode : Mode) (above : List Answer) (view : ℕ) → covers_test mode above view ≡ true → CoversAbove mode run.opening.base above view
  covers_sound Step above view passes = grind (arith, nat_tests)
  covers_sound Run above view passes = all_tested (λ number. number ≤ view) (λ number. nat_le number view) (numbers above) (λ number e. grind (arith, nat_tests)) passes

  abbrev view_test : List Answer → Reply → Bool
  view_test above (Began view) = nat_le run.opening.base view && (nat_le view (run.opening.base + run.commits) && covers_test run.mode above view)
  view_test above _ = true

  view_sound : (above : List Answer) (reply : Reply) → view_test above reply ≡ true → IfBegan reply (IsRightView run above)
  view_sound above (Began view) passes =
      let one = both_parts _ _ passes in
      let two = both_parts _ _ one.1 in
      record { low = le _ _ one.0; high = le _ _ two.0; covers = covers_sound run.mode above view two.1 }
    where
      le : (n m : ℕ) → nat_le n m ≡ true → n ≤ m
      le n m e = grind (arith, nat_tests)
  view_sound above (Got value) passes = tt
  view_sound above (Scanned rows) passes = tt
  view_sound above (Wrote verb) passes = tt
  view_sound above (Committed cts) passes = tt
  view_sound above CommittedNone passes = tt
  view_sound above (Unknown cts) passes = tt
  view_sound above RolledBack passes = tt
  view_sound above (Conflict verb cts) passes = tt
  view_sound above (Held verb name) passes = tt
  view_sound above (Full verb) passes = tt
  view_sound above Skipped passes = tt
  view_sound above (Stopped by) passes = tt

  -- the keys that a transaction wrote before a statement
  abbrev one_of : Option ℕ → List ℕ
  one_of (Some key) = key ∷ []
  one_of None = []

  abbrev keys_among : TrxName → ℕ → List ℕ
  keys_among trx zero = []
  keys_among trx (suc count) = one_of (wrote_at run trx.session (trx.first + suc count)) ++ keys_among trx count

  keys_there : (trx : TrxName) (count key : ℕ) → wrote_among run trx count key ≡ true → is_in key (keys_among trx count) ≡ true
  keys_there trx zero key wrote = cc
  keys_there trx (suc count) key wrote = go (wrote_at run trx.session (trx.first + suc count)) refl (keys_there trx count key)
    where
      either : (a b : Bool) → (a || b) ≡ true → (a ≡ false → b ≡ true)
      either true b e not_a = cc
      either false b e not_a = e

      go : (found : Option ℕ) → wrote_at run trx.session (trx.first + suc count) ≡ found → (wrote_among run trx count key ≡ true → is_in key (keys_among trx count) ≡ true) → is_in key (keys_among trx (suc count)) ≡ true
      go None e rest = rw e (rest (flip (wrote_among run trx count key) (rw e at wrote)))
        where
          flip : (a : Bool) → (a || false) ≡ true → a ≡ true
          flip true h = refl
          flip false h = cc
      go (Some other) e rest = rw e (by_test (other == key) refl)
        where
          by_test : (b : Bool) → (other == key) ≡ b → ((other == key) || is_in key (keys_among trx count)) ≡ true
          by_test true f = rw f refl
          by_test false f = rw f (rest (flip (wrote_among run trx count key) (rw (e, f) at wrote)))
            where
              flip : (a : Bool) → (a || false) ≡ true → a ≡ true
              flip true h = refl
              flip false h = cc

  abbrev keys_before : Answer → List ℕ
  keys_before answer = keys_among (trx_of run answer) (statements_before (trx_of run answer) answer.index)

  -- first committer wins
  abbrev wins_test : Answer → Answer → Option ℕ → Option ℕ → Bool
  wins_test answer other (Some number) (Some between) = not (nat_lt (view_at run answer.session answer.index) between && nat_lt between number) || list_all (λ key. not (wrote_before run other.session other.index key)) (keys_before answer)
  wins_test answer other _ _ = true

  wins_sound : (answer other : Answer) → wins_test answer other (cts_of answer.reply) (cts_of other.reply) ≡ true → FirstCommitterWins run answer other
  wins_sound answer other passes key number between commits other_commits above below = go (rw (commits.shows, other_commits.shows) at passes)
    where
      apart : (nat_lt (view_at run answer.session answer.index) between && nat_lt between number) ≡ true
      apart = grind (arith, nat_tests)

      go : (not (nat_lt (view_at run answer.session answer.index) between && nat_lt between number) || list_all (λ key. not (wrote_before run other.session other.index key)) (keys_before answer)) ≡ true → ⊥
      go e =
          let none : list_all (λ key. not (wrote_before run other.session other.index key)) (keys_before answer) ≡ true = rw apart at e in
          let not_it : not (wrote_before run other.session other.index key) ≡ true = in_all (λ k. not (wrote_before run other.session other.index k)) (keys_before answer) key none (keys_there (trx_of run answer) (statements_before (trx_of run answer) answer.index) key commits.wrote) in
          let wrote = other_commits.wrote in
          let clash : not true ≡ true = rw wrote at not_it in
          cc

  -- writes see earlier commits of their key
  abbrev later_test : Answer → ℕ → Answer → Option ℕ → Bool
  later_test answer key other None = true
  later_test answer key other (Some number) = same_trx (trx_of run other) (trx_of run answer) || (nat_le number (view_at run answer.session answer.index) || not (wrote_before run other.session other.index key))

  later_sound : (answer : Answer) (key : ℕ) (other : Answer) → later_test answer key other (acknowledged_cts other.reply) ≡ true → (number : ℕ) → AcknowledgesKey run other key number → trx_of run other ≢ trx_of run answer → number ≤ view_at run answer.session answer.index
  later_sound answer key other passes number acknowledges differ = go (same_trx (trx_of run other) (trx_of run answer)) refl (rw acknowledges.shows at passes)
    where
      go : (b : Bool) → same_trx (trx_of run other) (trx_of run answer) ≡ b → (same_trx (trx_of run other) (trx_of run answer) || (nat_le number (view_at run answer.session answer.index) || not (wrote_before run other.session other.index key))) ≡ true → number ≤ view_at run answer.session answer.index
      go true e h = absurd (differ (same_trx-is (trx_of run other) (trx_of run answer) e))
      go false e h = le (nat_le number (view_at run answer.session answer.index)) refl (rw (e, acknowledges.wrote) at h)
        where
          le : (b : Bool) → nat_le number (view_at run answer.session answer.index) ≡ b → (nat_le number (view_at run answer.session answer.index) || false) ≡ true → number ≤ view_at run answer.session answer.index
          le true f g = grind (arith, nat_tests)
          le false f g = let no : false ≡ true = rw f at g in cc

  abbrev earlier_test : List Answer → Answer → Option ℕ → Bool
  earlier_test above answer None = true
  earlier_test above answer (Some key) = list_all (λ other. later_test answer key other (acknowledged_cts other.reply)) above

  earlier_sound : (above : List Answer) (answer : Answer) → earlier_test above answer (wrote_at run answer.session answer.index) ≡ true → SeesEarlierCommits run above answer
  earlier_sound above answer passes key wrote = all_tested (λ other. (number : ℕ) → AcknowledgesKey run other key number → trx_of run other ≢ trx_of run answer → number ≤ view_at run answer.session answer.index) (λ other. later_test answer key other (acknowledged_cts other.reply)) above (later_sound answer key) (rw wrote at passes)

  -- keys are held to the commit
  abbrev written_keys : List Answer → List ℕ
  written_keys answers = filter_map (λ answer. wrote_at run answer.session answer.index) answers

  abbrev held_test : List Answer → Answer → Option ℕ → Bool
  held_test above answer None = true
  held_test above answer (Some number) = list_all (λ key. list_all (λ other. not (is_number key (wrote_at run other.session other.index)) || same_trx (trx_of run other) (trx_of run answer)) (since_first_write run (trx_of run answer) key above)) (written_keys above)

  held_sound : (above : List Answer) (answer : Answer) → held_test above answer (acknowledged_cts answer.reply) ≡ true → HoldsItsKeys run above answer
  held_sound above answer passes key number shows = go (is_in key (written_keys above)) refl (rw shows at passes)
    where
      none_since : (xs : List Answer) → is_in key (written_keys xs) ≡ false → since_first_write run (trx_of run answer) key xs ≡ []
      none_since [] out = refl
      none_since (x ∷ xs) out = by_key (wrote_at run x.session x.index) refl (none_since xs)
        where
          by_key : (found : Option ℕ) → wrote_at run x.session x.index ≡ found → (is_in key (written_keys xs) ≡ false → since_first_write run (trx_of run answer) key xs ≡ []) → since_first_write run (trx_of run answer) key (x ∷ xs) ≡ []
          by_key None e rest = rw (e, and_false (same_trx (trx_of run x) (trx_of run answer))) (rest (rw e at out))
            where
              and_false : (b : Bool) → (b && false) ≡ false
              and_false true = refl
              and_false false = refl
          by_key (Some other) e rest = by_test (other == key) refl (rw e at out)
            where
              by_test : (b : Bool) → (other == key) ≡ b → ((other == key) || is_in key (written_keys xs)) ≡ false → since_first_write run (trx_of run answer) key (x ∷ xs) ≡ []
              by_test true f o = let no : true ≡ false = rw f at o in cc
              by_test false f o = rw (e, f, and_false (same_trx (trx_of run x) (trx_of run answer))) (rest (rw f at o))
                where
                  and_false : (b : Bool) → (b && false) ≡ false
                  and_false true = refl
                  and_false false = refl

      one_sound : (other : Answer) → (not (is_number key (wrote_at run other.session other.index)) || same_trx (trx_of run other) (trx_of run answer)) ≡ true → wrote_at run other.session other.index ≡ Some key → trx_of run other ≡ trx_of run answer
      one_sound other e wrote = let same : (key == key) ≡ true = grind (arith, nat_tests) in same_trx-is (trx_of run other) (trx_of run answer) (rw (wrote, same) at e)

      go : (b : Bool) → is_in key (written_keys above) ≡ b → list_all (λ k. list_all (λ other. not (is_number k (wrote_at run other.session other.index)) || same_trx (trx_of run other) (trx_of run answer)) (since_first_write run (trx_of run answer) k above)) (written_keys above) ≡ true
          → AllByRecursion (λ other. wrote_at run other.session other.index ≡ Some key → trx_of run other ≡ trx_of run answer) (since_first_write run (trx_of run answer) key above)
      go true e h = all_tested (λ other. wrote_at run other.session other.index ≡ Some key → trx_of run other ≡ trx_of run answer) (λ other. not (is_number key (wrote_at run other.session other.index)) || same_trx (trx_of run other) (trx_of run answer)) (since_first_write run (trx_of run answer) key above) one_sound
          (in_all (λ k. list_all (λ other. not (is_number k (wrote_at run other.session other.index)) || same_trx (trx_of run other) (trx_of run answer)) (since_first_write run (trx_of run answer) k above)) (written_keys above) key h e)
      go false e h = rw (none_since above e) tt

  -- primaries that went down
  abbrev named_test : Answer → Reply → Bool
  named_test answer (Unknown number) = list_any (λ down. down.by == down.primary && runs_on run answer.session down.primary) run.downs
  named_test answer _ = true

  named_sound : (answer : Answer) → named_test answer answer.reply ≡ true → IsNamedDown run answer
  named_sound answer passes number is = rw is at passes

  abbrev stay_test : List Answer → Answer → Bool
  stay_test above answer = not (list_any (λ other. same_primary run other.session answer.session && shows_down other.reply) above) || is_stopped answer.reply

  stay_sound : (above : List Answer) (answer : Answer) → stay_test above answer ≡ true → StaysDown run above answer
  stay_sound above answer passes down = rw down at passes

  abbrev legal_test : List ℕ → Bool
  legal_test sessions =
      parts_test run next_test
      && (list_all (left_test sessions) run.parts
      && (below_test (λ above answer. number_test above answer (cts_of answer.reply)) [] run.answers
      && (parts_test run (λ primary above answer. view_test above answer.reply)
      && (list_all (λ answer. list_all (λ other. wins_test answer other (cts_of answer.reply) (cts_of other.reply)) run.answers) run.answers
      && (parts_test run (λ primary above answer. earlier_test above answer (wrote_at run answer.session answer.index))
      && (parts_test run (λ primary above answer. held_test above answer (acknowledged_cts answer.reply))
      && (list_all (λ answer. named_test answer answer.reply) run.answers
      && parts_test run (λ primary above answer. stay_test above answer))))))))

  -- an execution whose replies are right is legal where it passes the tests; `sessions` are those of its statements
  pub tested_legal : (sessions : List ℕ) → BeginsAtOpening run → AllByRecursion (IsRightAnswer run) run.answers → length (numbers run.answers) ≡ run.commits → DownsRise 0 run.downs → HaveTheirCause run.downs → legal_test sessions ≡ true → IsLegal run
  tested_legal sessions begins right all rise causes passes =
      let t1 = both_parts _ _ passes in
      let t2 = both_parts _ _ t1.1 in
      let t3 = both_parts _ _ t2.1 in
      let t4 = both_parts _ _ t3.1 in
      let t5 = both_parts _ _ t4.1 in
      let t6 = both_parts _ _ t5.1 in
      let t7 = both_parts _ _ t6.1 in
      let t8 = both_parts _ _ t7.1 in
      record {
        begins = begins;
        answered = record { in_order = parts_tested run (IsNextStatement run) next_test next_sound t1.0; none_left = all_tested (LeavesNone run) (left_test sessions) run.parts (left_sound sessions) t2.0 };
        right = right;
        numbered = record { each = below_tested (λ above answer. IfSome (cts_of answer.reply) (IsFreeNumber run above answer)) (λ above answer. number_test above answer (cts_of answer.reply)) [] run.answers (λ above answer e. number_sound above answer (cts_of answer.reply) e) t3.0; all = all };
        views = parts_tested run (λ primary above answer. IfShowsView answer (IsRightView run above)) (λ primary above answer. view_test above answer.reply) (λ primary above answer e. view_sound above answer.reply e) t4.0;
        first_wins = all_tested (λ answer. AllByRecursion (FirstCommitterWins run answer) run.answers) (λ answer. list_all (λ other. wins_test answer other (cts_of answer.reply) (cts_of other.reply)) run.answers) run.answers (λ answer e. all_tested (FirstCommitterWins run answer) (λ other. wins_test answer other (cts_of answer.reply) (cts_of other.reply)) run.answers (wins_sound answer) e) t5.0;
        earlier_commits = parts_tested run (λ primary. SeesEarlierCommits run) (λ primary above answer. earlier_test above answer (wrote_at run answer.session answer.index)) (λ primary above answer e. earlier_sound above answer e) t6.0;
        held_keys = parts_tested run (λ primary. HoldsItsKeys run) (λ primary above answer. held_test above answer (acknowledged_cts answer.reply)) (λ primary above answer e. held_sound above answer e) t7.0;
        downs = record { rise = rise; causes = causes; named = all_tested (IsNamedDown run) (λ answer. named_test answer answer.reply) run.answers named_sound t8.0; stay = parts_tested run (λ primary. StaysDown run) (λ primary above answer. stay_test above answer) (λ primary above answer e. stay_sound above answer e) t8.1 };
      }
