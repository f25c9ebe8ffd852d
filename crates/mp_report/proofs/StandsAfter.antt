-- Each line of a readable transcript is allowed where it stands.
use Rattle.std.proofs.Common.{◌≡◌, ◌∙◌, ℕ, ◌+◌, ◌^◌, ◌<◌, ◌≤◌, ◌==◌, nat_le, Bool, true, false, if◌then◌else◌, cond, List, [], ◌∷◌, ◌++◌, length, map, count_by, Some, None, refl, sym, ap, append_assoc, append-nil, add-zero, lit≤, arith}
use Rattle.std.proofs.lemmas.Bool.{eq-eqb, le-leb}
use Rattle.std.proofs.lemmas.List.Sums.{sum_by-append}
use Rattle.std.specs.List.{AllByRecursion, flat_map}
use Rattle.mp_model.specs.declared.replies.Answer.{Answer}
use Rattle.mp_model.specs.declared.transcripts.Mode.{Mode}
use Rattle.mp_model.specs.declared.transcripts.Mode.TheVariants.{Step, Run}
use Rattle.mp_model.specs.declared.transcripts.Part.{Part}
use Rattle.mp_model.specs.declared.transcripts.Down.{Down}
use Rattle.mp_model.specs.declared.transcripts.Transcript.{Transcript}
use Rattle.mp_report.specs.declared.read.stands.Stand.TheVariants.{Top, Among, Downs, Ended}
use Rattle.mp_report.specs.Answers.{answer_words}
use Rattle.mp_report.specs.Bare.{bare_answer}
use Rattle.mp_report.specs.Transcripts.{head_words, part_lines, down_words, last_words, transcript_lines, transcript_text}
use Rattle.mp_report.specs.Readable.{IsStamp, IsAnswer, IsDown, PartsInOrder, HasParts, IsReadable, is_commit, commit_count}
use Rattle.mp_report.specs.Grammar.{commits_of, transcript_fault}
use Rattle.std.specs.List.{slice_split}
use Rattle.mp_report.proofs.LinesRead.{head_read, primary_line_read, answer_line_read, down_read, end_read}
use Rattle.mp_report.proofs.LinesBare.{commit_bare}
use Rattle.mp_report.proofs.LinesCut.{lines_again}
use Rattle.mp_report.proofs.TextsDiffer.{lines_are_lines}
use Rattle.mp_report.proofs.NoFault.{stand_after, no_fault_in}

-- the commits among answers
abbrev pub count : List Answer → ℕ
count answers = count_by (λ answer. is_commit answer.reply) answers

one_first : (b : Bool) (c n : ℕ) → (if b then c + 1 else c) + n ≡ c + ((0 + cond b 1 0) + n)
one_first true c n = omega arith
one_first false c n = omega arith

counted_first : (c : ℕ) (answer : Answer) (answers : List Answer) → commits_of c (bare_answer answer) + count answers ≡ c + count (answer ∷ answers)
counted_first c answer answers =
    ap (λ b. (if b then c + 1 else c) + count answers) (commit_bare answer.reply) ∙ one_first (is_commit answer.reply) c (count answers)
    ∙ ap (λ n. c + n) (sym (sum_by-append (λ a. cond (is_commit a.reply) 1 0) (answer ∷ []) answers))

answers_after : (answers : List Answer) (primary c n : ℕ) (lines : List (List (List ℕ))) → AllByRecursion IsAnswer answers → n ≡ c + count answers
    → stand_after (Among primary c) (map answer_words answers ++ lines) ≡ stand_after (Among primary n) lines
answers_after [] primary c n lines are sum = ap (λ m. stand_after (Among primary m) lines) (sym (add-zero c) ∙ sym sum)
answers_after (answer ∷ answers) primary c n lines are sum =
    rw (answer_line_read answer are.0) (answers_after answers primary (commits_of c (bare_answer answer)) n lines are.1 (sum ∙ sym (counted_first c answer answers)))

downs_after_down : (downs : List Down) (c : ℕ) → AllByRecursion IsDown downs → c < 2 ^ 64 → stand_after (Downs c) (map down_words downs ++ last_words c ∷ []) ≡ Some Ended
downs_after_down [] c are small = rw (end_read c small, eq-eqb c c refl) refl
downs_after_down (down ∷ downs) c are small = rw (down_read down are.0) (downs_after_down downs c are.1 small)

downs_after : (downs : List Down) (primary c : ℕ) → AllByRecursion IsDown downs → c < 2 ^ 64 → stand_after (Among primary c) (map down_words downs ++ last_words c ∷ []) ≡ Some Ended
downs_after [] primary c are small = rw (end_read c small, eq-eqb c c refl) refl
downs_after (down ∷ downs) primary c are small = rw (down_read down are.0) (downs_after_down downs c are.1 small)

pub commits_first : (part : Part) (parts : List Part) → commit_count (part ∷ parts) ≡ count part.answers.items + commit_count parts
commits_first part parts = sum_by-append (λ a. cond (is_commit a.reply) 1 0) part.answers.items (flat_map (λ p. p.answers.items) parts)

parts_after : (parts : List Part) (k c m n : ℕ) (lines : List (List (List ℕ))) → PartsInOrder (k + 1) parts → 1 ≤ k → k + length parts ≤ 8
    → AllByRecursion (λ part. AllByRecursion IsAnswer part.answers.items) parts → m ≡ k + length parts → n ≡ c + commit_count parts
    → stand_after (Among k c) (flat_map (part_lines Run) parts ++ lines) ≡ stand_after (Among m n) lines
parts_after [] k c m n lines order some most are place sum =
    ap (λ a. stand_after (Among a c) lines) (sym (add-zero k) ∙ sym place) ∙ ap (λ a. stand_after (Among m a) lines) (sym (add-zero c) ∙ sym sum)
parts_after (part ∷ parts) k c m n lines order some most are place sum =
    let rest = flat_map (part_lines Run) parts ++ lines in
    let one : nat_le 1 k ≡ true = le-leb 1 k some in
    let next : (part.primary == k + 1) ≡ true = eq-eqb part.primary (k + 1) order.0 in
    rw (append_assoc (map answer_words part.answers.items) (flat_map (part_lines Run) parts) lines, primary_line_read part.primary (omega (arith, order.0), omega (arith, order.0, most)), one, next)
    (answers_after part.answers.items part.primary c (c + count part.answers.items) rest are.0 refl
    ∙ ap (λ a. stand_after (Among a (c + count part.answers.items)) rest) order.0
    ∙ parts_after parts (k + 1) (c + count part.answers.items) m n lines order.1 (omega arith) (omega (arith, most)) are.1 (omega (arith, place)) (omega (arith, sum, commits_first part parts)))

all_allowed : (mode : Mode) (base : ℕ) (parts : List Part) (downs : List Down) (commits : ℕ) → IsStamp base → HasParts mode parts
    → AllByRecursion (λ part. AllByRecursion IsAnswer part.answers.items) parts → AllByRecursion IsDown downs → commits < 2 ^ 64 → commits ≡ commit_count parts
    → stand_after Top (head_words mode base ∷ (flat_map (part_lines mode) parts ++ (map down_words downs ++ last_words commits ∷ []))) ≡ Some Ended
all_allowed Step base [] downs commits stamp has answers are small sum = absurd (omega (arith, has.0))
all_allowed Step base (part ∷ other ∷ parts) downs commits stamp has answers are small sum = absurd (omega (arith, has.0))
all_allowed Step base (part ∷ []) downs commits stamp has answers are small sum =
    rw (head_read Step base stamp, append-nil (map answer_words part.answers.items))
    (answers_after part.answers.items 0 0 commits (map down_words downs ++ last_words commits ∷ []) answers.0 (omega (arith, sum, commits_first part []))
    ∙ downs_after downs 0 commits are small)
all_allowed Run base [] downs commits stamp has answers are small sum = absurd (omega (arith, has.0))
all_allowed Run base (part ∷ parts) downs commits stamp has answers are small sum =
    let last = map down_words downs ++ last_words commits ∷ [] in
    let one : (part.primary == 1) ≡ true = eq-eqb part.primary 1 has.2.0 in
    let n = count part.answers.items in
    rw (head_read Run base stamp, append_assoc (map answer_words part.answers.items) (flat_map (part_lines Run) parts) last, primary_line_read part.primary (omega (arith, has.2.0), omega (arith, has.2.0)), one)
    (answers_after part.answers.items 1 0 n (flat_map (part_lines Run) parts ++ last) answers.0 (omega arith)
    ∙ parts_after parts 1 n (1 + length parts) commits last has.2.1 (lit≤ tt) (omega (arith, has.1)) answers.1 refl (omega (arith, sum, commits_first part parts))
    ∙ downs_after downs (1 + length parts) commits are small)

pub no_fault : (t : Transcript) → IsReadable t → transcript_fault (transcript_text t) ≡ None
unfolding transcript_text
no_fault t is =
    no_fault_in Top 0 (slice_split (λ b. b == 10) (transcript_text t)) (transcript_lines t) (lines_again (transcript_lines t) (lines_are_lines t is))
    (all_allowed t.mode t.base t.parts.items t.downs.items t.commits is.base is.parts is.answers is.downs is.count is.commits)

pub not_faulty : (bytes : List ℕ) (t : Transcript) (place : ℕ) → IsReadable t → bytes ≡ transcript_text t → transcript_fault bytes ≡ Some place → ⊥
not_faulty bytes t place is same fault = let no : None ≡ Some place = sym (no_fault t is) ∙ ap transcript_fault (sym same) ∙ fault in cc
