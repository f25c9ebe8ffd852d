-- The four pieces are the text of the transcript's lines.
use Rattle.std.proofs.Common.{map}
use Rattle.std.specs.List.{flat_map}
use Rattle.mp_report.specs.Transcripts.{head_words, part_lines, down_words, last_words, transcript_text}
use Rattle.mp_report.proofs.Joined.{joined}
use Rattle.mp_report.proofs.print.transcripts.print_transcript.Goals as goal

pub returns : goal.returns
unfolding transcript_text
returns c =
    let t = c.args.transcript.now in
    let whole = joined (head_words t.mode t.base) (last_words t.commits) (flat_map (part_lines t.mode) t.parts.items) (map down_words t.downs.items) in
    rw (c.in_ok-push_end.ensures, c.in_ok-push_downs.ensures, c.in_ok-push_parts.ensures, c.in_ok-push_head.ensures, c.new-text.ensures, c.as_slice.ensures, c.as_slice-2.ensures) whole
