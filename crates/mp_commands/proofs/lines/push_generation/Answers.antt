-- The two numbers, each behind its words, are the front of the line.
use Rattle.std.proofs.Common.{append_assoc, append-nil}
use Rattle.mp_report.specs.Pages.{front}
use Rattle.mp_commands.specs.Dumps.{generation_words}
use Rattle.mp_commands.proofs.Pieces.{two_pieces}
use Rattle.mp_commands.proofs.lines.push_generation.Goals as goal

pub returns : goal.returns
returns c = two_pieces c.push_numbered-2.result _ _ _ _ _ (front (generation_words c.args.header.now)) c.in_ok-push_numbered.ensures (simp (append_assoc, append-nil)) c.push_numbered-2.ensures
