-- The transcript of a run in mode Step, and what it began from.
use Rattle.std.specs.Prelude.{◌≡◌, ℕ, List, length}
use Rattle.std.specs.List.{flat_map}
use Rattle.mp_model.specs.declared.histories.Opening.{Opening}
use Rattle.mp_model.specs.declared.replies.Answer.{Answer}
use Rattle.mp_model.specs.declared.transcripts.Down.{Down}
use Rattle.mp_model.specs.declared.transcripts.Mode.TheVariants.{Step}
use Rattle.mp_model.specs.declared.transcripts.Transcript.{Transcript}
use Rattle.mp_script.specs.Answers.{IsWholePart}
use Rattle.mp_script.specs.Below.{numbers}
use Rattle.mp_cells.specs.PageView.{bits_set}
use Rattle.mp_cells.specs.Trees.{rows_in}
use Rattle.mp_core.specs.declared.opening.CoreOpening.{CoreOpening}
use Rattle.mp_facts.specs.Facts.{opening_pages}
use Rattle.mp_supports.specs.Seeing.{key_value_of}

-- what a table was opened with: its timestamp, the count of its taken pages, and its rows
abbrev pub first_opening : CoreOpening → Opening
first_opening o = record {
  base = o.trx.base.ts;
  taken = bits_set (opening_pages o 0).bits;
  rows = record { items = flat_map (λ row. key_value_of row.key row.value) (rows_in (opening_pages o)); spare = 0 };
}

-- a transcript of mode Step has these answers in its one part, counts their commits, and tells these primaries that are down
pub record IsStepOver (base : ℕ) (answers : List Answer) (told : List Down) (transcript : Transcript) : Type 0 where
  pub mode : transcript.mode ≡ Step
  pub base_is : transcript.base ≡ base
  pub part : IsWholePart answers transcript.parts.items
  pub downs : transcript.downs.items ≡ told
  pub commits : transcript.commits ≡ length (numbers answers)
