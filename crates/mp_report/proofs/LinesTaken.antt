-- What a line says, whatever free places its lists have, decides where the next stands and what was read.
use Rattle.std.proofs.Common.{◌≡◌, ◌∙◌, ℕ, List, [], ◌∷◌, ◌++◌, Option, Some, sym, ap, subst}
use Rattle.mp_model.specs.declared.transcripts.Part.{Part}
use Rattle.mp_model.specs.declared.transcripts.Transcript.{Transcript}
use Rattle.mp_report.specs.declared.read.lines.Line.{Line}
use Rattle.mp_report.specs.declared.read.stands.Stand.{Stand}
use Rattle.mp_report.specs.Lines.{line}
use Rattle.mp_report.specs.Reading.{◌>>=◌}
use Rattle.mp_report.specs.ReadingLines.{words_of, read_line, line_words, bare_line}
use Rattle.mp_report.specs.Grammar.{allowed, next_stand}
use Rattle.mp_report.specs.Drafts.{TranscriptSaid, draft_said, added, ReadsLines}
use Rattle.mp_report.proofs.LinesBare.{words_bare, is_line_bare, allowed_bare}
use Rattle.mp_report.proofs.LineAgain.{line_again}
use Rattle.mp_report.proofs.LinesSpelled.{line_spelled}
use Rattle.mp_report.proofs.DraftsGrow.{grown}

pub stand_behind : (stand : Stand) (text : List ℕ) (l : Line) (next : Option Stand) → Some (bare_line l) ≡ read_line (words_of text) → next ≡ allowed stand l → next_stand stand text ≡ next
stand_behind stand text l next said e = ap (λ o. o >>= allowed stand) (sym said) ∙ allowed_bare stand l ∙ sym e

pub reads_behind : (stand next : Stand) (text : List ℕ) (l : Line) (t : Transcript) (p : Part) (new : TranscriptSaid) → Some (bare_line l) ≡ read_line (words_of text) → Some next ≡ allowed stand l
    → new ≡ added l p (draft_said t p) → (above : List ℕ) → ReadsLines stand (draft_said t p) above → ReadsLines next new (above ++ (text ++ 10 ∷ []))
reads_behind stand next text l t p new said e made above reads =
    let spells = line_spelled (words_of text) (bare_line l) (sym said) in
    let same : line (line_words l) ≡ text ++ 10 ∷ [] = ap line (sym (words_bare l) ∙ spells.spelled) ∙ line_again text in
    let all = grown stand l t p next above reads (is_line_bare l spells.is) (sym e) in
    subst (λ (s : TranscriptSaid). ReadsLines next s (above ++ (text ++ 10 ∷ []))) (sym made) (subst (λ (x : List ℕ). ReadsLines next (added l p (draft_said t p)) (above ++ x)) same all)
