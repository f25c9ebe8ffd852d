-- The format gives the text, piece by piece.
use Rattle.std.proofs.Common.{◌∙◌, ap}
use Rattle.std.proofs.lemmas.List.{append_assoc}
use Rattle.mp_app.proofs.output.spent_text.Goals as goal

pub returns : goal.returns
returns c = c.from_vec.ensures ∙ ap (λ bytes. bytes.items) c.into_bytes.ensures.value ∙ c.in_ok-text.ensures.ok ∙ rw c.spent_word-word.ensures (simp append_assoc)
