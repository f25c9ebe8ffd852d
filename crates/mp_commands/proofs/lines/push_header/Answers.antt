-- The four pieces are the line.
use Rattle.std.proofs.Common.{◌∙◌, ◌++◌, [], ◌∷◌, List, ℕ, ap, codes, decimal}
use Rattle.mp_report.specs.Lines.{line}
use Rattle.mp_report.specs.Pages.{front}
use Rattle.mp_commands.specs.Dumps.{generation_words, header_words}
use Rattle.mp_commands.proofs.Pieces.{four_pieces, line_cut, two_numbers}
use Rattle.mp_commands.proofs.lines.push_header.Goals as goal

pub returns : goal.returns
returns c =
    let header = c.args.header.now in
    let more = codes "llsn" ∷ decimal header.llsn ∷ codes "version" ∷ decimal header.version ∷ [] in
    let same = ap (λ (t : List ℕ). front (generation_words header) ++ t) (two_numbers (codes "llsn") (decimal header.llsn) (codes "version") (decimal header.version))
    ∙ line_cut (codes "store") (codes "format" ∷ codes "1" ∷ codes "generation" ∷ decimal header.generation ∷ codes "base" ∷ decimal header.base ∷ []) more in
    four_pieces c.push.result _ _ _ _ _ _ _ _ _ (line (header_words header)) c.in_ok-push_generation.ensures c.in_ok-push_named.ensures (rw (c.from.ensures) at c.in_ok-push_named-2.ensures) same c.push.ensures.ok
