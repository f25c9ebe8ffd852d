-- A line that may stand below what was read is read with it.
use Rattle.std.proofs.Common.{◌≡◌, ◌∙◌, ℕ, ◌+◌, ◌^◌, ◌<◌, ◌≤◌, ◌==◌, ◌&&◌, nat_le, nat_lt, Bool, true, false, if◌then◌else◌, cond, List, [], ◌∷◌, ◌++◌, length, map, count_by, Some, None, refl, sym, ap, subst, append_assoc, append-nil, add-zero, length-append, lit≤, arith}
use Rattle.std.proofs.lemmas.Bool.{and_parts, leb-true, eqb-true, lt-ltb}
use Rattle.std.proofs.lemmas.List.{map-append}
use Rattle.std.proofs.lemmas.List.Concat.{flat_map-append}
use Rattle.std.proofs.lemmas.List.Sums.{fold-append, sum_by-append}
use Rattle.std.specs.List.{AllByRecursion, flat_map}
use Rattle.mp_model.specs.declared.replies.Answer.{Answer}
use Rattle.mp_model.specs.declared.transcripts.Mode.{Mode}
use Rattle.mp_model.specs.declared.transcripts.Mode.TheVariants.{Step, Run}
use Rattle.mp_model.specs.declared.transcripts.Part.{Part}
use Rattle.mp_model.specs.declared.transcripts.Down.{Down}
use Rattle.mp_model.specs.declared.transcripts.Transcript.{Transcript}
use Rattle.mp_report.specs.declared.read.lines.Line.{Line}
use Rattle.mp_report.specs.declared.read.lines.Line.TheVariants.{Head, Primary, Answered, WentDown, End}
use Rattle.mp_report.specs.declared.read.stands.Stand.{Stand}
use Rattle.mp_report.specs.declared.read.stands.Stand.TheVariants.{Top, Opened, Among, Downs, Ended}
use Rattle.mp_report.specs.Lines.{line, text_of_lines}
use Rattle.mp_report.specs.Answers.{answer_words}
use Rattle.mp_report.specs.Transcripts.{head_words, primary_words, primary_lines, part_lines, down_words, last_words}
use Rattle.mp_report.specs.Readable.{IsPrimary, IsAnswer, IsDown, PartsInOrder, is_commit, commit_count}
use Rattle.mp_report.specs.ReadingLines.{line_words, IsLine}
use Rattle.mp_report.specs.Grammar.{commits_of, allowed}
use Rattle.mp_report.specs.Drafts.{TranscriptSaid, draft_said, added, lines_said, IsSaid, ReadsLines}
use Rattle.mp_report.proofs.WordsSpelled.{if_then, some_inj}

-- one line more
pub line_more : (lines : List (List (List ℕ))) (words : List (List ℕ)) → text_of_lines (lines ++ words ∷ []) ≡ text_of_lines lines ++ line words
line_more lines words = flat_map-append line lines (words ∷ []) ∙ ap (λ t. text_of_lines lines ++ t) (append-nil (line words))

pub more : {A : Type 0} (P : A → Type 0) (xs : List A) (x : A) → AllByRecursion P xs → P x → AllByRecursion P (xs ++ x ∷ [])
more P [] x are is = (is, tt)
more P (y ∷ xs) x are is = (are.0, more P xs x are.1 is)

one_counted : (b : Bool) (n : ℕ) → n + cond b 1 0 ≡ (if b then n + 1 else n)
one_counted true n = refl
one_counted false n = omega arith

counted_more : (answers : List Answer) (answer : Answer)
    → count_by (λ a. is_commit a.reply) (answers ++ answer ∷ []) ≡ commits_of (count_by (λ a. is_commit a.reply) answers) answer
counted_more answers answer = fold-append (λ n a. n + cond (is_commit a.reply) 1 0) 0 answers (answer ∷ []) ∙ one_counted (is_commit answer.reply) (count_by (λ a. is_commit a.reply) answers)

pub commits_more : (parts : List Part) (p : Part) → commit_count (parts ++ p ∷ []) ≡ commit_count parts + count_by (λ a. is_commit a.reply) p.answers.items
commits_more parts p =
    let answers : Part → List Answer = λ part. part.answers.items in
    ap (count_by (λ a. is_commit a.reply)) (flat_map-append answers parts (p ∷ []) ∙ ap (λ more. flat_map answers parts ++ more) (append-nil p.answers.items))
    ∙ sum_by-append (λ a. cond (is_commit a.reply) 1 0) (flat_map answers parts) p.answers.items

commits_added : (b : Bool) (n m : ℕ) → (if b then n + m + 1 else n + m) ≡ n + (if b then m + 1 else m)
commits_added true n m = omega arith
commits_added false n m = refl

-- an answer below answers
answered : (s : TranscriptSaid) (c : ℕ) (answer : Answer) (p : Part) → IsSaid s c → IsAnswer answer → IsSaid (added (Answered answer) p s) (commits_of c answer)
answered s c answer p is one = record {
  base = is.base;
  above = is.above;
  finished = is.finished;
  answers = more IsAnswer s.answers answer is.answers one;
  downs = is.downs;
  counted = ap (λ n. commits_of n answer) is.counted ∙ commits_added (is_commit answer.reply) (commit_count s.parts) (count_by (λ a. is_commit a.reply) s.answers)
      ∙ ap (λ n. commit_count s.parts + n) (sym (counted_more s.answers answer));
}

last_of : {X : Type 0} (front middle back : List X) (x : X) → front ++ (middle ++ ((back ++ x ∷ []) ++ [])) ≡ (front ++ (middle ++ (back ++ []))) ++ x ∷ []
last_of front middle back x = rw (append-nil (back ++ x ∷ []), append-nil back) (simp append_assoc)

answered_lines : (s : TranscriptSaid) (answer : Answer) (p : Part) → s.downs ≡ [] → lines_said (added (Answered answer) p s) ≡ lines_said s ++ answer_words answer ∷ []
answered_lines s answer p none =
    rw (none, map-append answer_words s.answers (answer ∷ []))
    (ap (λ ls. head_words s.mode s.base ∷ ls) (last_of (flat_map (part_lines s.mode) s.parts) (primary_lines s.mode s.primary) (map answer_words s.answers) (answer_words answer)))

down_lines : (s : TranscriptSaid) (down : Down) (p : Part) → lines_said (added (WentDown down) p s) ≡ lines_said s ++ down_words down ∷ []
down_lines s down p = rw (map-append down_words s.downs (down ∷ [])) (simp append_assoc)

-- below the first line
headed : (t : Transcript) (p : Part) (mode : Mode) (base : ℕ) (next : Stand) (above : List ℕ)
    → ReadsLines Top (draft_said t p) above → base < 2 ^ 38 → allowed Top (Head mode base) ≡ Some next → ReadsLines next (added (Head mode base) p (draft_said t p)) (above ++ line (head_words mode base))
headed t p Step base next above reads is e =
    let text : above ++ line (head_words Step base) ≡ text_of_lines (head_words Step base ∷ []) = ap (λ a. a ++ line (head_words Step base)) reads.1 ∙ sym (append-nil (line (head_words Step base))) in
    subst (λ (n : Stand). ReadsLines n (added (Head Step base) p (draft_said t p)) (above ++ line (head_words Step base))) (some_inj _ _ e)
    (subst (λ (s : TranscriptSaid). ReadsLines (Among 0 0) (added (Head Step base) p s) (above ++ line (head_words Step base))) (sym reads.0)
    (record { base = is; above = (refl, refl); finished = tt; answers = tt; downs = tt; counted = refl }, refl, refl, text))
headed t p Run base next above reads is e =
    let text : above ++ line (head_words Run base) ≡ text_of_lines (head_words Run base ∷ []) = ap (λ a. a ++ line (head_words Run base)) reads.1 ∙ sym (append-nil (line (head_words Run base))) in
    subst (λ (n : Stand). ReadsLines n (added (Head Run base) p (draft_said t p)) (above ++ line (head_words Run base))) (some_inj _ _ e)
    (subst (λ (s : TranscriptSaid). ReadsLines Opened (added (Head Run base) p s) (above ++ line (head_words Run base))) (sym reads.0)
    (base, refl, is, text))

-- the line of primary 1
opened : (t : Transcript) (p : Part) (primary : ℕ) (next : Stand) (above : List ℕ)
    → ReadsLines Opened (draft_said t p) above → allowed Opened (Primary primary) ≡ Some next → ReadsLines next (added (Primary primary) p (draft_said t p)) (above ++ line (primary_words primary))
opened t p primary next above reads e =
    let test = if_then (primary == 1) (Some (Among 1 0)) next e in
    let one : 1 ≡ primary = sym (eqb-true primary 1 test.0) in
    let base = reads.0 in
    let text : above ++ line (primary_words 1) ≡ text_of_lines (head_words Run base ∷ primary_words 1 ∷ []) =
    ap (λ a. a ++ line (primary_words 1)) reads.3 ∙ sym (line_more (head_words Run base ∷ []) (primary_words 1)) in
    subst (λ (n : Stand). ReadsLines n (added (Primary primary) p (draft_said t p)) (above ++ line (primary_words primary))) (some_inj _ _ test.1)
    (subst (λ (k : ℕ). ReadsLines (Among 1 0) (added (Primary k) p (draft_said t p)) (above ++ line (primary_words k))) one
    (subst (λ (s : TranscriptSaid). ReadsLines (Among 1 0) (added (Primary 1) p s) (above ++ line (primary_words 1))) (sym reads.1)
    (record { base = reads.2; above = (refl, lit≤ tt, tt); finished = tt; answers = tt; downs = tt; counted = refl }, refl, refl, text)))

pub in_order_more : (next : ℕ) (parts : List Part) (part : Part) → PartsInOrder next parts → part.primary ≡ next + length parts → PartsInOrder next (parts ++ part ∷ [])
in_order_more next [] part order is = (omega (arith, is), tt)
in_order_more next (first ∷ parts) part order is = (order.0, in_order_more (next + 1) parts part order.1 (omega (arith, is)))

-- the line of the next primary, below answers
part_ends : (mode : Mode) (base : ℕ) (parts : List Part) (p : Part) (commits c n : ℕ)
    → IsSaid (record { mode = mode; base = base; parts = parts; primary = p.primary; answers = p.answers.items; downs = []; commits = commits }) c
    → 1 ≤ p.primary → n ≡ p.primary + 1 → n ≤ 8
    → IsSaid (record { mode = mode; base = base; parts = parts ++ p ∷ []; primary = n; answers = []; downs = []; commits = commits }) c
part_ends Step base parts p commits c n is some next most = absurd (omega (arith, is.above.0))
part_ends Run base parts p commits c n is some next most = record {
  base = is.base;
  above = (omega (arith, is.above.0, length-append parts (p ∷ [])), most, in_order_more 1 parts p is.above.2 (omega (arith, is.above.0)));
  finished = more (λ part. AllByRecursion IsAnswer part.answers.items) parts p is.finished is.answers;
  answers = tt;
  downs = is.downs;
  counted = is.counted ∙ sym (commits_more parts p) ∙ sym (add-zero (commit_count (parts ++ p ∷ [])));
}

part_ends_lines : (mode : Mode) (base : ℕ) (parts : List Part) (p : Part) (commits c n : ℕ)
    → IsSaid (record { mode = mode; base = base; parts = parts; primary = p.primary; answers = p.answers.items; downs = []; commits = commits }) c
    → 1 ≤ p.primary
    → lines_said (record { mode = mode; base = base; parts = parts ++ p ∷ []; primary = n; answers = []; downs = []; commits = commits })
    ≡ lines_said (record { mode = mode; base = base; parts = parts; primary = p.primary; answers = p.answers.items; downs = []; commits = commits }) ++ primary_words n ∷ []
part_ends_lines Step base parts p commits c n is some = absurd (omega (arith, is.above.0))
part_ends_lines Run base parts p commits c n is some =
    rw (flat_map-append (part_lines Run) parts (p ∷ []))
    refl

-- a primary that went down
went_down : (s : TranscriptSaid) (c : ℕ) (down : Down) (p : Part) (above : List ℕ) → IsSaid s c → above ≡ text_of_lines (lines_said s) → IsDown down
    → ReadsLines (Downs c) (added (WentDown down) p s) (above ++ line (down_words down))
went_down s c down p above is text one = (
  record { base = is.base; above = is.above; finished = is.finished; answers = is.answers; downs = more IsDown s.downs down is.downs one; counted = is.counted },
  ap (λ a. a ++ line (down_words down)) text ∙ sym (line_more (lines_said s) (down_words down)) ∙ ap text_of_lines (sym (down_lines s down p)),
)

-- the last line
ends : (s : TranscriptSaid) (c count : ℕ) (p : Part) (next : Stand) (above : List ℕ) → IsSaid s c → above ≡ text_of_lines (lines_said s) → count < 2 ^ 64
    → (if count == c then Some Ended else None) ≡ Some next → ReadsLines next (added (End count) p s) (above ++ line (last_words count))
ends s c count p next above is text small e =
    let test = if_then (count == c) (Some Ended) next e in
    subst (λ (n : Stand). ReadsLines n (added (End count) p s) (above ++ line (last_words count))) (some_inj _ _ test.1) (
      record { base = is.base; above = is.above; finished = is.finished; answers = is.answers; downs = is.downs; counted = eqb-true count c test.0 ∙ is.counted },
      small,
      ap (λ a. a ++ line (last_words count)) text ∙ sym (line_more (lines_said s) (last_words count)),
    )

-- the line of the next primary
part_starts : (t : Transcript) (p : Part) (primary c n : ℕ) (next : Stand) (above : List ℕ) → ReadsLines (Among primary c) (draft_said t p) above → IsPrimary n
    → allowed (Among primary c) (Primary n) ≡ Some next → ReadsLines next (added (Primary n) p (draft_said t p)) (above ++ line (primary_words n))
part_starts t p primary c n next above reads is e =
    let test = if_then (nat_le 1 primary && n == primary + 1) (Some (Among n c)) next e in
    let tests = and_parts (nat_le 1 primary) (n == primary + 1) test.0 in
    let some : 1 ≤ p.primary = omega (arith, reads.1, leb-true 1 primary tests.0) in
    let after : n ≡ p.primary + 1 = eqb-true n (primary + 1) tests.1 ∙ ap (λ k. k + 1) (sym reads.1) in
    let none : t.downs.items ≡ [] = reads.2 in
    let said : IsSaid (record { mode = t.mode; base = t.base; parts = t.parts.items; primary = p.primary; answers = p.answers.items; downs = []; commits = t.commits }) c =
    subst (λ (ds : List Down). IsSaid (record { mode = t.mode; base = t.base; parts = t.parts.items; primary = p.primary; answers = p.answers.items; downs = ds; commits = t.commits }) c) none reads.0 in
    let text : above ≡ text_of_lines (lines_said (record { mode = t.mode; base = t.base; parts = t.parts.items; primary = p.primary; answers = p.answers.items; downs = []; commits = t.commits })) =
    subst (λ (ds : List Down). above ≡ text_of_lines (lines_said (record { mode = t.mode; base = t.base; parts = t.parts.items; primary = p.primary; answers = p.answers.items; downs = ds; commits = t.commits }))) none reads.3 in
    let second : nat_lt 1 n ≡ true = lt-ltb 1 n (omega (arith, after, some)) in
    let shape = λ (ds : List Down). ReadsLines (Among n c) (record { mode = t.mode; base = t.base; parts = t.parts.items ++ p ∷ []; primary = n; answers = []; downs = ds; commits = t.commits }) (above ++ line (primary_words n)) in
    subst (λ (k : Stand). ReadsLines k (added (Primary n) p (draft_said t p)) (above ++ line (primary_words n))) (some_inj _ _ test.1)
    (rw second (subst shape (sym none) (
      part_ends t.mode t.base t.parts.items p t.commits c n said some after is.1,
      refl,
      refl,
      ap (λ a. a ++ line (primary_words n)) text ∙ sym (line_more (lines_said (record { mode = t.mode; base = t.base; parts = t.parts.items; primary = p.primary; answers = p.answers.items; downs = []; commits = t.commits })) (primary_words n)) ∙ ap text_of_lines (sym (part_ends_lines t.mode t.base t.parts.items p t.commits c n said some)),
    )))

pub grown : (stand : Stand) (l : Line) (t : Transcript) (p : Part) (next : Stand) (above : List ℕ)
    → ReadsLines stand (draft_said t p) above → IsLine l → allowed stand l ≡ Some next → ReadsLines next (added l p (draft_said t p)) (above ++ line (line_words l))
grown Top (Head mode base) t p next above reads is e = headed t p mode base next above reads is e
grown Top (Primary n) t p next above reads is e = absurd (let no : None ≡ Some next = e in cc)
grown Top (Answered answer) t p next above reads is e = absurd (let no : None ≡ Some next = e in cc)
grown Top (WentDown down) t p next above reads is e = absurd (let no : None ≡ Some next = e in cc)
grown Top (End count) t p next above reads is e = absurd (let no : None ≡ Some next = e in cc)
grown Opened (Head mode base) t p next above reads is e = absurd (let no : None ≡ Some next = e in cc)
grown Opened (Primary n) t p next above reads is e = opened t p n next above reads e
grown Opened (Answered answer) t p next above reads is e = absurd (let no : None ≡ Some next = e in cc)
grown Opened (WentDown down) t p next above reads is e = absurd (let no : None ≡ Some next = e in cc)
grown Opened (End count) t p next above reads is e = absurd (let no : None ≡ Some next = e in cc)
grown (Among primary c) (Head mode base) t p next above reads is e = absurd (let no : None ≡ Some next = e in cc)
grown (Among primary c) (Primary n) t p next above reads is e = part_starts t p primary c n next above reads is e
grown (Among primary c) (Answered answer) t p next above reads is e =
    subst (λ (n : Stand). ReadsLines n (added (Answered answer) p (draft_said t p)) (above ++ line (answer_words answer))) (some_inj _ _ e) (
      answered (draft_said t p) c answer p reads.0 is,
      reads.1,
      reads.2,
      ap (λ a. a ++ line (answer_words answer)) reads.3 ∙ sym (line_more (lines_said (draft_said t p)) (answer_words answer)) ∙ ap text_of_lines (sym (answered_lines (draft_said t p) answer p reads.2)),
    )
grown (Among primary c) (WentDown down) t p next above reads is e =
    subst (λ (n : Stand). ReadsLines n (added (WentDown down) p (draft_said t p)) (above ++ line (down_words down))) (some_inj _ _ e) (went_down (draft_said t p) c down p above reads.0 reads.3 is)
grown (Among primary c) (End count) t p next above reads is e = ends (draft_said t p) c count p next above reads.0 reads.3 is e
grown (Downs c) (Head mode base) t p next above reads is e = absurd (let no : None ≡ Some next = e in cc)
grown (Downs c) (Primary n) t p next above reads is e = absurd (let no : None ≡ Some next = e in cc)
grown (Downs c) (Answered answer) t p next above reads is e = absurd (let no : None ≡ Some next = e in cc)
grown (Downs c) (WentDown down) t p next above reads is e =
    subst (λ (n : Stand). ReadsLines n (added (WentDown down) p (draft_said t p)) (above ++ line (down_words down))) (some_inj _ _ e) (went_down (draft_said t p) c down p above reads.0 reads.1 is)
grown (Downs c) (End count) t p next above reads is e = ends (draft_said t p) c count p next above reads.0 reads.1 is e
grown Ended l t p next above reads is e = absurd (let no : None ≡ Some next = e in cc)
