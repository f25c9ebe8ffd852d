-- A legal transcript of a spelled script can be read again.
use Rattle.std.proofs.Common.{◌≡◌, ℕ, zero, suc, ◌+◌, ◌<◌, ◌≤◌, ◌^◌, nat_le, Bool, true, false, List, [], ◌∷◌, ◌++◌, length, map, take, filter, Option, Some, None, refl, sym, ap, ◌∙◌, arith, ◌==◌, ◌&&◌, if◌then◌else◌}
use Rattle.std.specs.Prelude.{IfSome, MatchOption, find, count_by}
use Rattle.std.specs.List.{AllByRecursion, flat_map, list_any}
use Rattle.std.proofs.lemmas.Bool.Decides.{nat_tests}
use Rattle.std.proofs.lemmas.List.Sums.{sum_by-cons}
use Rattle.mp_model.specs.Values.{is_value}
use Rattle.mp_model.specs.declared.histories.Opening.{Opening}
use Rattle.mp_model.specs.declared.ids.TrxName.{TrxName}
use Rattle.mp_model.specs.declared.replies.Answer.{Answer}
use Rattle.mp_model.specs.declared.replies.Reply.{Reply}
use Rattle.mp_model.specs.declared.replies.Reply.TheVariants.{Began, Got, Scanned, Wrote, Committed, CommittedNone, Unknown, RolledBack, Conflict, Held, Full, Skipped, Stopped}
use Rattle.mp_model.specs.declared.transcripts.Down.{Down}
use Rattle.mp_model.specs.declared.transcripts.Mode.{Mode}
use Rattle.mp_model.specs.declared.transcripts.Mode.TheVariants.{Step, Run}
use Rattle.mp_model.specs.declared.transcripts.Part.{Part}
use Rattle.mp_model.specs.declared.transcripts.Transcript.{Transcript}
use Rattle.mp_script.specs.declared.statements.Line.{Line}
use Rattle.mp_script.specs.declared.statements.Script.{Script}
use Rattle.mp_script.specs.declared.statements.Stmt.TheVariants.{Scan}
use Rattle.mp_script.specs.Below.{EachBelow, numbers}
use Rattle.mp_script.specs.Execution.{Execution, execution_of, line_at, stmt_in, runs_on}
use Rattle.mp_script.specs.InTheirPart.{count_from, part_primaries}
use Rattle.mp_script.specs.Legal.{Legal}
use Rattle.mp_script.specs.Numbered.{IsFreeNumber, IfBegan, IfShowsView, IsRightView}
use Rattle.mp_script.specs.Right.{HasWritten, WaitedFor, IsRightReply, IsWithoutRepeat, IsRightAnswer}
use Rattle.mp_script.specs.Seen.{seen}
use Rattle.mp_script.specs.Spelling.{IsSpelled}
use Rattle.mp_script.specs.SpelledLines.{IsLineInRange, IsRowInRange, HaveTheirBegin}
use Rattle.mp_script.specs.Transactions.{begins, begin_in, cts_of, acknowledged_cts, is_number, Target, target_of}
use Rattle.mp_script.specs.Words.{IsStmt}
use Rattle.mp_script.proofs.Lists.{all_map, all_from_below}
use Rattle.mp_script.proofs.SeenRows.{all_filter, line_found_in, value_found, spelled_seen}
use Rattle.mp_script.proofs.SpelledLines.{spelled_in_order}
use Rattle.mp_report.specs.Readable.{IsPrimary, IsStatement, IsName, IsReply, IsAnswer, IsDown, PartsInOrder, HasParts, is_commit, IsReadable}

-- what holds of all answers of all parts, part by part
all_nested : (P : Answer → Type 0) (parts : List Part) → AllByRecursion P (flat_map (λ part. part.answers.items) parts) → AllByRecursion (λ part. AllByRecursion P part.answers.items) parts
all_nested P [] all_answers = tt
all_nested P (part ∷ parts) all_answers = let two = split part.answers.items (flat_map (λ p. p.answers.items) parts) all_answers in (two.0, all_nested P parts two.1)
  where
    split : (xs ys : List Answer) → AllByRecursion P (xs ++ ys) → AllByRecursion P xs × AllByRecursion P ys
    split [] ys both = (tt, both)
    split (x ∷ xs) ys both = let two = split xs ys both.1 in ((both.0, two.0), two.1)

all_both : {T : Type 0} (P Q R : T → Type 0) (xs : List T) → ((x : T) → P x → Q x → R x) → AllByRecursion P xs → AllByRecursion Q xs → AllByRecursion R xs
all_both P Q R [] f ps qs = tt
all_both P Q R (x ∷ xs) f ps qs = (f x ps.0 qs.0, all_both P Q R xs f ps.1 qs.1)

all_take : {T : Type 0} (P : T → Type 0) (n : ℕ) (xs : List T) → AllByRecursion P xs → AllByRecursion P (take n xs)
all_take P zero xs all_xs = tt
all_take P (suc n) [] all_xs = tt
all_take P (suc n) (x ∷ xs) all_xs = (all_xs.0, all_take P n xs all_xs.1)

take_few : {T : Type 0} (n : ℕ) (xs : List T) → length (take n xs) ≤ n
take_few zero xs = omega arith
take_few (suc n) [] = omega arith
take_few (suc n) (x ∷ xs) = let rest = take_few n xs in omega (arith, rest)

-- what is found has what all have, and passes
find_in : {T : Type 0} (P : T → Type 0) (test : T → Bool) (xs : List T) (x : T) → AllByRecursion P xs → find test xs ≡ Some x → P x × (test x ≡ true)
find_in P test [] x all_xs found = cc
find_in P test (y ∷ xs) x all_xs found = go (test y) refl (find_in P test xs x all_xs.1)
  where
    go : (b : Bool) → test y ≡ b → (find test xs ≡ Some x → P x × (test x ≡ true)) → P x × (test x ≡ true)
    go true e rest = let is : Some y ≡ Some x = rw e at found in let same : y ≡ x = cc in (rw (← same) all_xs.0, rw (← same) e)
    go false e rest = rest (rw e at found)

-- the statement that is found is the one looked for
line_is : (lines : List Line) (session index : ℕ) (line : Line) → line_at lines session index ≡ Some line → (line.session ≡ session) × (line.index ≡ index)
line_is [] session index line found = cc
line_is (x ∷ lines) session index line found = go (x.session == session && x.index == index) refl (line_is lines session index line)
  where
    go : (b : Bool) → (x.session == session && x.index == index) ≡ b → (line_at lines session index ≡ Some line → (line.session ≡ session) × (line.index ≡ index)) → (line.session ≡ session) × (line.index ≡ index)
    go true e rest =
        let is : Some x ≡ Some line = rw e at found in
        let same : x ≡ line = cc in
        let its : x.session ≡ session = grind (arith, nat_tests) in
        let at : x.index ≡ index = grind (arith, nat_tests) in
        rw (← same) (its, at)
    go false e rest = rest (rw e at found)

-- the parts are numbered from one on
run_parts : (first count : ℕ) (parts : List Part) → map (λ part. part.primary) parts ≡ count_from first count → (length parts ≡ count) × PartsInOrder first parts
run_parts first zero [] is = (refl, tt)
run_parts first zero (part ∷ parts) is = cc
run_parts first (suc count) [] is = cc
run_parts first (suc count) (part ∷ parts) is =
    let rest = run_parts (first + 1) count parts (tails is) in
    (omega (arith, rest.0), (heads is, rest.1))
  where
    heads : {x y : ℕ} {xs ys : List ℕ} → x ∷ xs ≡ y ∷ ys → x ≡ y
    heads e = cc

    tails : {x y : ℕ} {xs ys : List ℕ} → x ∷ xs ≡ y ∷ ys → xs ≡ ys
    tails e = cc

has_parts : (mode : Mode) (primaries : ℕ) (parts : List Part) → 1 ≤ primaries → primaries ≤ 8 → map (λ part. part.primary) parts ≡ part_primaries mode primaries → HasParts mode parts
has_parts Step primaries [] low high is = cc
has_parts Step primaries (part ∷ []) low high is = (refl, (one is, tt))
  where
    one : {x y : ℕ} → x ∷ [] ≡ y ∷ [] → x ≡ y
    one e = cc
has_parts Step primaries (part ∷ (other ∷ parts)) low high is = cc
has_parts Run primaries parts low high is = let all_are = run_parts 1 primaries parts is in (omega (arith, low, all_are.0), omega (arith, high, all_are.0), all_are.1)

-- as many commits as numbers
numbers_count : (answers : List Answer) → length (numbers answers) ≡ count_by (λ answer. is_commit answer.reply) answers
numbers_count [] = refl
numbers_count (answer ∷ answers) = go answer.reply refl (numbers_count answers) ∙ sym (sum_by-cons (λ (a : Answer). if is_commit a.reply then 1 else 0) answer answers)
  where
    go : (reply : Reply) → answer.reply ≡ reply → length (numbers answers) ≡ count_by (λ a. is_commit a.reply) answers → length (numbers (answer ∷ answers)) ≡ (if is_commit answer.reply then 1 else 0) + count_by (λ a. is_commit a.reply) answers
    go (Committed cts) e rest = rw e (omega (arith, rest))
    go (Unknown cts) e rest = rw e (omega (arith, rest))
    go (Began view) e rest = rw e (omega (arith, rest))
    go (Got value) e rest = rw e (omega (arith, rest))
    go (Scanned rows) e rest = rw e (omega (arith, rest))
    go (Wrote verb) e rest = rw e (omega (arith, rest))
    go CommittedNone e rest = rw e (omega (arith, rest))
    go RolledBack e rest = rw e (omega (arith, rest))
    go (Conflict verb cts) e rest = rw e (omega (arith, rest))
    go (Held verb name) e rest = rw e (omega (arith, rest))
    go (Full verb) e rest = rw e (omega (arith, rest))
    go Skipped e rest = rw e (omega (arith, rest))
    go (Stopped by) e rest = rw e (omega (arith, rest))

-- an acknowledged number is within what all numbers are within
acknowledged_within : (reply : Reply) (bound number : ℕ) → IfSome (cts_of reply) (λ n. n ≤ bound) → is_number number (acknowledged_cts reply) ≡ true → number ≤ bound
acknowledged_within (Committed n) bound number le is = let e : n ≡ number = grind (arith, nat_tests) in omega (arith, le, e)
acknowledged_within (Unknown n) bound number le is = cc
acknowledged_within (Began view) bound number le is = cc
acknowledged_within (Got value) bound number le is = cc
acknowledged_within (Scanned rows) bound number le is = cc
acknowledged_within (Wrote verb) bound number le is = cc
acknowledged_within CommittedNone bound number le is = cc
acknowledged_within RolledBack bound number le is = cc
acknowledged_within (Conflict verb n) bound number le is = cc
acknowledged_within (Held verb name) bound number le is = cc
acknowledged_within (Full verb) bound number le is = cc
acknowledged_within Skipped bound number le is = cc
acknowledged_within (Stopped by) bound number le is = cc

-- who stopped a session is named in a `down` line
named_by : (run : Execution) (session by : ℕ) (downs : List Down) → AllByRecursion IsDown downs → list_any (λ down. down.by == by && runs_on run session down.primary) downs ≡ true → IsPrimary by
named_by run session by [] all_downs named = cc
named_by run session by (down ∷ downs) all_downs named = go (down.by == by) refl (named_by run session by downs all_downs.1)
  where
    go : (b : Bool) → (down.by == by) ≡ b → (list_any (λ d. d.by == by && runs_on run session d.primary) downs ≡ true → IsPrimary by) → IsPrimary by
    go true e rest = let same : down.by ≡ by = grind (arith, nat_tests) in rw (← same) all_downs.0.by
    go false e rest = rest (rw e at named)

module _ (script : Script) (opening : Opening) (transcript : Transcript) (spelled : IsSpelled script) (opened : AllByRecursion IsRowInRange opening.rows.items)
    (last : opening.base + transcript.commits < 2 ^ 38) (downs : AllByRecursion IsDown transcript.downs.items) (legal : Legal script opening transcript) where
  abbrev run : Execution
  run = execution_of script opening transcript

  abbrev latest : ℕ
  latest = opening.base + transcript.commits

  within : AllByRecursion IsLineInRange script.lines.items
  within = (spelled_in_order script spelled).within

  begun : HaveTheirBegin script.lines.items
  begun = (spelled_in_order script spelled).begun

  numbers_within : AllByRecursion (λ answer. IfSome (cts_of answer.reply) (λ number. number ≤ latest)) run.answers
  numbers_within = all_from_below (λ above answer. IfSome (cts_of answer.reply) (IsFreeNumber run above answer)) (λ answer. IfSome (cts_of answer.reply) (λ number. number ≤ latest)) [] run.answers (λ above answer free. weaker (cts_of answer.reply) (λ number f. f.within) free) legal.numbered.each
    where
      weaker : {P Q : ℕ → Type 0} (found : Option ℕ) → ((n : ℕ) → P n → Q n) → IfSome found P → IfSome found Q
      weaker {P} {Q} None f p = tt
      weaker {P} {Q} (Some n) f p = f n p

  if_began : {P Q : ℕ → Type 0} (reply : Reply) → ((view : ℕ) → P view → Q view) → IfBegan reply P → IfBegan reply Q
  if_began {P} {Q} (Began view) f p = f view p
  if_began {P} {Q} (Got value) f p = tt
  if_began {P} {Q} (Scanned rows) f p = tt
  if_began {P} {Q} (Wrote verb) f p = tt
  if_began {P} {Q} (Committed number) f p = tt
  if_began {P} {Q} CommittedNone f p = tt
  if_began {P} {Q} (Unknown number) f p = tt
  if_began {P} {Q} RolledBack f p = tt
  if_began {P} {Q} (Conflict verb number) f p = tt
  if_began {P} {Q} (Held verb holder) f p = tt
  if_began {P} {Q} (Full verb) f p = tt
  if_began {P} {Q} Skipped f p = tt
  if_began {P} {Q} (Stopped by) f p = tt

  views_within : AllByRecursion (λ part. AllByRecursion (λ answer. IfShowsView answer (λ view. view ≤ latest)) part.answers.items) transcript.parts.items
  views_within = all_map (λ (part : Part). EachBelow (λ above answer. IfShowsView answer (IsRightView run above)) [] part.answers.items) (λ part. AllByRecursion (λ answer. IfShowsView answer (λ view. view ≤ latest)) part.answers.items) transcript.parts.items
      (λ part each. all_from_below (λ above answer. IfShowsView answer (IsRightView run above)) (λ answer. IfShowsView answer (λ view. view ≤ latest)) [] part.answers.items (λ above answer shows. if_began answer.reply (λ view is. is.high) shows) each) legal.views

  -- a statement that is there is within its ranges
  statement_within : (session index : ℕ) (line : Line) → line_at script.lines.items session index ≡ Some line → IsStatement session index
  statement_within session index line found =
      let here : IsLineInRange line = line_found_in IsLineInRange script.lines.items session index line within found in
      let is = line_is script.lines.items session index line found in
      rw (← is.0, ← is.1) (record { some_session = here.session_low; most_sessions = here.session_high; some_index = here.index_low; most_statements = here.index_high })

  begin_within : (session first : ℕ) → begins (stmt_in script.lines.items session first) ≡ true → IsStatement session first
  begin_within session first is = go (line_at script.lines.items session first) refl
    where
      go : (found : Option Line) → line_at script.lines.items session first ≡ found → IsStatement session first
      go None e = let no : false ≡ true = rw e at is in cc
      go (Some line) e = statement_within session first line e

  -- a transaction that has written has begun
  writer_within : (name : TrxName) (key : ℕ) → HasWritten run name key → IsName name
  writer_within name key has = go (line_at script.lines.items name.session has.index) refl
    where
      first_is : begin_in script.lines.items name.session has.index ≡ name.first
      first_is = ap (λ trx. trx.first) has.its

      nothing : (b : Bool) → (if b then None else None) ≡ Some key → ⊥
      nothing true e = cc
      nothing false e = cc

      go : (found : Option Line) → line_at script.lines.items name.session has.index ≡ found → IsName name
      go None e = absurd (nothing _ (rw e at has.written))
      go (Some line) e = begin_within name.session name.first (rw (← first_is) (begun name.session has.index line e))

  reply_within : (line : Line) (reply : Reply) → IsLineInRange line → IsRightReply run line reply → IfSome (cts_of reply) (λ number. number ≤ latest) → IfBegan reply (λ view. view ≤ latest) → IsReply reply
  reply_within line (Began view) here right number shown = omega (arith, last, shown)
  reply_within line (Got value) here right number shown = got value (rw right.2 (value_found right.0 (seen run line.session line.index) (spelled_seen script opening transcript spelled opened line.session line.index)))
    where
      got : (value : Option (List ℕ)) → IfSome value (λ v. is_value v ≡ true) → IsReply (Got value)
      got None is = tt
      got (Some v) is = is
  reply_within line (Scanned rows) here right number shown =
      let most = right.1 in
      let asked : IsStmt (Scan right.0 right.1) = rw right.2 at here.stmt in
      let all_seen = spelled_seen script opening transcript spelled opened line.session line.index in
      let few = take_few most (filter (λ row. nat_le right.0 row.key) (seen run line.session line.index)) in
      rw right.3 (omega (arith, few, asked.1), all_take IsRowInRange most (filter (λ row. nat_le right.0 row.key) (seen run line.session line.index)) (all_filter IsRowInRange (λ row. nat_le right.0 row.key) (seen run line.session line.index) all_seen))
  reply_within line (Wrote verb) here right number shown = tt
  reply_within line (Committed cts) here right number shown = omega (arith, last, number)
  reply_within line CommittedNone here right number shown = tt
  reply_within line (Unknown cts) here right number shown = omega (arith, last, number)
  reply_within line RolledBack here right number shown = tt
  reply_within line (Conflict verb cts) here right number shown =
      let above = right.2 in
      let found = find_in (λ answer. IfSome (cts_of answer.reply) (λ n. n ≤ latest)) (λ answer. is_number cts (acknowledged_cts answer.reply)) run.answers above.answer numbers_within above.acknowledged in
      let le : cts ≤ latest = acknowledged_within above.answer.reply latest cts found.0 found.1 in
      omega (arith, last, le)
  reply_within line (Held verb name) here right number shown = begin_within name.session name.first right.2.older.begun
  reply_within line (Full verb) here right number shown = tt
  reply_within line Skipped here right number shown = tt
  reply_within line (Stopped by) here right number shown = named_by run line.session by transcript.downs.items downs right

  waits_within : (line : Line) (waits : List TrxName) (target : Option Target) → MatchOption target (waits ≡ []) (λ t. IsWithoutRepeat waits × AllByRecursion (WaitedFor run line t.key) waits) → AllByRecursion IsName waits
  waits_within line waits None none = rw none tt
  waits_within line waits (Some target) right = all_map (WaitedFor run line target.key) IsName waits (λ name waited. writer_within name target.key waited.written) right.1

  answer_within : (answer : Answer) → IsRightAnswer run answer × IfSome (cts_of answer.reply) (λ number. number ≤ latest) → IfShowsView answer (λ view. view ≤ latest) → IsAnswer answer
  answer_within answer facts shown =
      let right = facts.0 in
      let here : IsLineInRange right.line = line_found_in IsLineInRange script.lines.items answer.session answer.index right.line within right.found in
      record {
        statement = statement_within answer.session answer.index right.line right.found;
        reply = reply_within right.line answer.reply here right.reply facts.1 shown;
        waits = waits_within right.line answer.waits.items (target_of right.line.stmt) right.waits;
      }

  pub legal_readable : IsReadable transcript
  legal_readable = record {
    base = let is = legal.begins.base in omega (arith, is, last);
    parts = has_parts transcript.mode script.primaries transcript.parts.items spelled.1.spelled.primaries_low spelled.1.spelled.primaries_high legal.begins.parts;
    answers = all_both (λ (part : Part). AllByRecursion (λ answer. IsRightAnswer run answer × IfSome (cts_of answer.reply) (λ number. number ≤ latest)) part.answers.items) (λ part. AllByRecursion (λ answer. IfShowsView answer (λ view. view ≤ latest)) part.answers.items) (λ part. AllByRecursion IsAnswer part.answers.items) transcript.parts.items
        (λ part facts shows. all_both (λ (answer : Answer). IsRightAnswer run answer × IfSome (cts_of answer.reply) (λ number. number ≤ latest)) (λ answer. IfShowsView answer (λ view. view ≤ latest)) IsAnswer part.answers.items answer_within facts shows)
        (all_nested (λ answer. IsRightAnswer run answer × IfSome (cts_of answer.reply) (λ number. number ≤ latest)) transcript.parts.items (all_both (IsRightAnswer run) (λ answer. IfSome (cts_of answer.reply) (λ number. number ≤ latest)) (λ answer. IsRightAnswer run answer × IfSome (cts_of answer.reply) (λ number. number ≤ latest)) run.answers (λ answer right number. (right, number)) legal.right numbers_within))
        views_within;
    downs = downs;
    count = omega (arith, last);
    commits = sym legal.numbered.all ∙ numbers_count run.answers;
  }
