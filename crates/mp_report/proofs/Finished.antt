-- What was read to the last line is the text of a readable transcript.
use Rattle.std.proofs.Common.{◌≡◌, ◌∙◌, ℕ, List, [], ◌∷◌, ◌++◌, map, refl, sym, ap, subst, append_assoc, append-nil, length-append, arith}
use Rattle.std.proofs.lemmas.List.Concat.{flat_map-append}
use Rattle.std.specs.List.{AllByRecursion, flat_map}
use Rattle.mp_model.specs.declared.transcripts.Mode.{Mode}
use Rattle.mp_model.specs.declared.transcripts.Mode.TheVariants.{Step, Run}
use Rattle.mp_model.specs.declared.transcripts.Part.{Part}
use Rattle.mp_model.specs.declared.transcripts.Transcript.{Transcript}
use Rattle.mp_report.specs.declared.read.stands.Stand.TheVariants.{Ended}
use Rattle.mp_report.specs.Lines.{text_of_lines}
use Rattle.mp_report.specs.Answers.{answer_words}
use Rattle.mp_report.specs.Transcripts.{head_words, primary_lines, part_lines, down_words, last_words, transcript_lines, transcript_text}
use Rattle.mp_report.specs.Readable.{IsStamp, IsAnswer, HasParts, IsReadable, commit_count}
use Rattle.mp_report.specs.Drafts.{draft_said, lines_said, PartsAbove, ReadsLines}
use Rattle.mp_report.proofs.DraftsGrow.{more, in_order_more, commits_more}

-- the transcript is that one, with one part more
pub record IsFinished (t : Transcript) (above : Transcript) (part : Part) : Type 0 where
  pub mode : t.mode ≡ above.mode
  pub base : t.base ≡ above.base
  pub parts : t.parts.items ≡ above.parts.items ++ part ∷ []
  pub downs : t.downs.items ≡ above.downs.items
  pub commits : t.commits ≡ above.commits

has_parts : (mode : Mode) (parts : List Part) (p : Part) → PartsAbove mode p.primary parts → HasParts mode (parts ++ p ∷ [])
has_parts Step parts p above = subst (λ (ps : List Part). HasParts Step (ps ++ p ∷ [])) (sym above.1) (refl, (above.0, tt))
has_parts Run parts p above =
    (omega (arith, length-append parts (p ∷ [])), omega (arith, length-append parts (p ∷ []), above.0, above.1), in_order_more 1 parts p above.2 (omega (arith, above.0)))

shape : {X : Type 0} (parts primary answers downs : List X) (end : X) → (parts ++ (primary ++ (answers ++ downs))) ++ end ∷ [] ≡ (parts ++ ((primary ++ answers) ++ [])) ++ (downs ++ end ∷ [])
shape parts primary answers downs end = rw (append-nil (primary ++ answers)) (simp append_assoc)

lines_finished : (t above : Transcript) (p : Part) → IsFinished t above p → lines_said (draft_said above p) ++ last_words above.commits ∷ [] ≡ transcript_lines t
lines_finished t above p is =
    rw (is.mode, is.base, is.parts, is.downs, is.commits, flat_map-append (part_lines above.mode) above.parts.items (p ∷ []))
    (ap (λ ls. head_words above.mode above.base ∷ ls)
    (shape (flat_map (part_lines above.mode) above.parts.items) (primary_lines above.mode p.primary) (map answer_words p.answers.items) (map down_words above.downs.items) (last_words above.commits)))

pub finished : (t above : Transcript) (p : Part) (bytes : List ℕ) → IsFinished t above p → ReadsLines Ended (draft_said above p) bytes → IsReadable t × (bytes ≡ transcript_text t)
unfolding transcript_text
finished t above p bytes is reads =
    let said = reads.0 in (
      record {
        base = subst IsStamp (sym is.base) said.base;
        parts = rw (is.mode, is.parts) (has_parts above.mode above.parts.items p said.above);
        answers = rw is.parts (more (λ part. AllByRecursion IsAnswer part.answers.items) above.parts.items p said.finished said.answers);
        downs = rw is.downs said.downs;
        count = rw is.commits reads.1;
        commits = is.commits ∙ said.counted ∙ sym (commits_more above.parts.items p) ∙ ap commit_count (sym is.parts);
      },
      reads.2 ∙ ap text_of_lines (lines_finished t above p is),
    )
