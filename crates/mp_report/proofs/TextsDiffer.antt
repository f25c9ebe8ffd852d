-- The text of a readable transcript reads back as that transcript, so two readable transcripts have different texts.
use Rattle.std.proofs.Common.{◌≡◌, ◌∙◌, ℕ, ◌+◌, ◌^◌, ◌<◌, ◌≤◌, true, List, [], ◌∷◌, ◌++◌, length, map, None, refl, sym, ap, append_assoc, append-nil, arith}
use Rattle.std.proofs.lemmas.Bool.{and_from}
use Rattle.std.proofs.lemmas.List.{map-append}
use Rattle.std.proofs.lemmas.List.Folds.{list_all-append}
use Rattle.std.specs.List.{AllByRecursion, flat_map, list_all}
use Rattle.mp_model.specs.declared.replies.Answer.{Answer}
use Rattle.mp_model.specs.declared.transcripts.Mode.{Mode}
use Rattle.mp_model.specs.declared.transcripts.Mode.TheVariants.{Step, Run}
use Rattle.mp_model.specs.declared.transcripts.Part.{Part}
use Rattle.mp_model.specs.declared.transcripts.Down.{Down}
use Rattle.mp_model.specs.declared.transcripts.Transcript.{Transcript}
use Rattle.mp_report.specs.Answers.{answer_words}
use Rattle.mp_report.specs.Bare.{listed, bare_part, bare_transcript}
use Rattle.mp_report.specs.Transcripts.{head_words, part_lines, down_words, last_words, transcript_lines, transcript_text}
use Rattle.mp_report.specs.Readable.{IsStamp, IsPrimary, IsDown, IsAnswer, PartsInOrder, HasParts, IsReadable}
use Rattle.mp_report.specs.ReadingLines.{lines_of, read_line}
use Rattle.mp_report.proofs.LinesCut.{is_line, lines_again}
use Rattle.mp_report.proofs.WordsAreWords.{answer_is_line}
use Rattle.mp_report.proofs.LinesRead.{head_read, head_is_line, primary_is_line, down_is_line, end_is_line}
use Rattle.mp_report.proofs.Gathered.{transcript_of, downs_gathered, answers_gathered, parts_gathered}

-- parts of primaries from one on that end at 8 are of primaries
primaries_in_order : (next : ℕ) (parts : List Part) → 1 ≤ next → next + length parts ≤ 9 → PartsInOrder next parts → AllByRecursion (λ part. IsPrimary part.primary) parts
primaries_in_order next [] some most order = tt
primaries_in_order next (part ∷ parts) some most order =
    ((omega (arith, order.0), omega (arith, order.0)), primaries_in_order (next + 1) parts (omega arith) (omega (arith, most)) order.1)

read_again : (mode : Mode) (base : ℕ) (parts : List Part) (downs : List Down) (commits : ℕ)
    → IsStamp base → HasParts mode parts → AllByRecursion (λ part. AllByRecursion IsAnswer part.answers.items) parts → AllByRecursion IsDown downs → commits < 2 ^ 64
    → transcript_of (map read_line (head_words mode base ∷ (flat_map (part_lines mode) parts ++ (map down_words downs ++ last_words commits ∷ []))) ++ None ∷ [])
    ≡ record { mode = mode; base = base; parts = listed (map bare_part parts); downs = listed downs; commits = commits }
read_again Step base [] downs commits stamp has answers are small = absurd (omega (arith, has.0))
read_again Step base (part ∷ other ∷ parts) downs commits stamp has answers are small = absurd (omega (arith, has.0))
read_again Step base (part ∷ []) downs commits stamp has answers are small =
    let last = map read_line (map down_words downs ++ last_words commits ∷ []) in
    let below_is = answers_gathered part.answers.items (last ++ None ∷ []) [] downs commits answers.0 (downs_gathered downs commits are small) in
    rw (
      head_read Step base stamp,
      append-nil (map answer_words part.answers.items),
      map-append read_line (map answer_words part.answers.items) (map down_words downs ++ last_words commits ∷ []),
      append_assoc (map read_line (map answer_words part.answers.items)) last (None ∷ []),
      below_is,
      has.1.0,
    ) refl
read_again Run base parts downs commits stamp has answers are small =
    let primaries = primaries_in_order 1 parts (omega arith) (omega (arith, has.1)) has.2 in
    let last = map read_line (map down_words downs ++ last_words commits ∷ []) in
    let below_is = parts_gathered parts (last ++ None ∷ []) downs commits primaries answers (downs_gathered downs commits are small) in
    rw (
      head_read Run base stamp,
      map-append read_line (flat_map (part_lines Run) parts) (map down_words downs ++ last_words commits ∷ []),
      append_assoc (map read_line (flat_map (part_lines Run) parts)) last (None ∷ []),
      below_is,
    ) refl

answers_are_lines : (answers : List Answer) → AllByRecursion IsAnswer answers → list_all is_line (map answer_words answers) ≡ true
answers_are_lines [] are = refl
answers_are_lines (answer ∷ answers) are = and_from _ _ (answer_is_line answer are.0) (answers_are_lines answers are.1)

downs_are_lines : (downs : List Down) → AllByRecursion IsDown downs → list_all is_line (map down_words downs) ≡ true
downs_are_lines [] are = refl
downs_are_lines (down ∷ downs) are = and_from _ _ (down_is_line down are.0) (downs_are_lines downs are.1)

both_lines : (xs ys : List (List (List ℕ))) → list_all is_line xs ≡ true → list_all is_line ys ≡ true → list_all is_line (xs ++ ys) ≡ true
both_lines xs ys left right = list_all-append is_line xs ys ∙ and_from _ _ left right

run_parts_are_lines : (parts : List Part) → AllByRecursion (λ part. IsPrimary part.primary) parts → AllByRecursion (λ part. AllByRecursion IsAnswer part.answers.items) parts
    → list_all is_line (flat_map (part_lines Run) parts) ≡ true
run_parts_are_lines [] primaries are = refl
run_parts_are_lines (part ∷ parts) primaries are =
    both_lines (part_lines Run part) (flat_map (part_lines Run) parts)
    (and_from _ _ (primary_is_line part.primary primaries.0) (answers_are_lines part.answers.items are.0)) (run_parts_are_lines parts primaries.1 are.1)

step_parts_are_lines : (parts : List Part) → AllByRecursion (λ part. AllByRecursion IsAnswer part.answers.items) parts → list_all is_line (flat_map (part_lines Step) parts) ≡ true
step_parts_are_lines [] are = refl
step_parts_are_lines (part ∷ parts) are =
    both_lines (part_lines Step part) (flat_map (part_lines Step) parts) (answers_are_lines part.answers.items are.0) (step_parts_are_lines parts are.1)

parts_are_lines : (mode : Mode) (parts : List Part) → HasParts mode parts → AllByRecursion (λ part. AllByRecursion IsAnswer part.answers.items) parts
    → list_all is_line (flat_map (part_lines mode) parts) ≡ true
parts_are_lines Step parts has are = step_parts_are_lines parts are
parts_are_lines Run parts has are = run_parts_are_lines parts (primaries_in_order 1 parts (omega arith) (omega (arith, has.1)) has.2) are

pub lines_are_lines : (t : Transcript) → IsReadable t → list_all is_line (transcript_lines t) ≡ true
lines_are_lines t is =
    let parts = flat_map (part_lines t.mode) t.parts.items in
    let downs = map down_words t.downs.items in
    let end = last_words t.commits ∷ [] in
    and_from _ _ (head_is_line t.mode t.base is.base)
    (both_lines parts (downs ++ end) (parts_are_lines t.mode t.parts.items is.parts is.answers)
    (both_lines downs end (downs_are_lines t.downs.items is.downs) (and_from _ _ (end_is_line t.commits is.count) refl)))

-- the text of a readable transcript reads back as it
pub transcript_read : (t : Transcript) → IsReadable t → transcript_of (map read_line (lines_of (transcript_text t))) ≡ bare_transcript t
unfolding transcript_text
transcript_read t is =
    ap (λ lines. transcript_of (map read_line lines)) (lines_again (transcript_lines t) (lines_are_lines t is))
    ∙ ap transcript_of (map-append read_line (transcript_lines t) (([] ∷ []) ∷ []))
    ∙ read_again t.mode t.base t.parts.items t.downs.items t.commits is.base is.parts is.answers is.downs is.count

pub texts_differ : (t u : Transcript) → IsReadable t → IsReadable u → transcript_text t ≡ transcript_text u → bare_transcript t ≡ bare_transcript u
texts_differ t u first second same =
    sym (transcript_read t first) ∙ ap (λ text. transcript_of (map read_line (lines_of text))) same ∙ transcript_read u second
