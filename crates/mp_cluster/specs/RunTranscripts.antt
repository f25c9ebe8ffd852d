-- The transcript of a run in mode Run.
use Rattle.std.specs.Prelude.{◌≡◌, ℕ, List, length, map}
use Rattle.mp_model.specs.declared.replies.Answer.{Answer}
use Rattle.mp_model.specs.declared.transcripts.Down.{Down}
use Rattle.mp_model.specs.declared.transcripts.Mode.TheVariants.{Run}
use Rattle.mp_model.specs.declared.transcripts.Transcript.{Transcript}
use Rattle.mp_script.specs.Below.{numbers}
use Rattle.mp_script.specs.Execution.{all_answers}
use Rattle.mp_script.specs.InTheirPart.{count_from}

-- the transcript of a run in mode Run has a part for each primary with its answers, in ascending number, counts the commits of
-- all, and tells these primaries that are down
pub record IsRunOver (base : ℕ) (lists : List (List Answer)) (told : List Down) (transcript : Transcript) : Type 0 where
  pub mode : transcript.mode ≡ Run
  pub base_is : transcript.base ≡ base
  pub primaries : map (λ part. part.primary) transcript.parts.items ≡ count_from 1 (length lists)
  pub answers : map (λ part. part.answers.items) transcript.parts.items ≡ lists
  pub downs : transcript.downs.items ≡ told
  pub commits : transcript.commits ≡ length (numbers (all_answers transcript))
