use Rattle.std.proofs.Common.{[], ◌∷◌, ◌++◌, ap, ◌∙◌}
use Rattle.std.specs.Prelude.{codes}
use Rattle.std.specs.Fmt.{decimal}
use Rattle.mp_summary.specs.Summaries.{summary_line}
use Rattle.mp_summary.proofs.Pieces.{in_pieces}
use Rattle.mp_summary.proofs.summing.print_summary.Goals as goal

pub returns : goal.returns
returns c =
    let counts = c.args.counts.now in
    in_pieces (codes "summary number " ++ decimal c.args.number) (codes " answered " ++ decimal counts.answered) (codes " commits " ++ decimal counts.commits)
    (codes " keys " ++ decimal c.len.result) (10 ∷ []) c.new-text.result.items c.push_numbered.new.text.items c.push_numbered-2.new.text.items
    c.push_numbered-3.new.text.items c.push_numbered-4.new.text.items c.push.new.self.items c.new-text.ensures c.in_ok-push_numbered.ensures
    c.in_ok-push_numbered-2.ensures c.in_ok-push_numbered-3.ensures c.in_ok-push_numbered-4.ensures c.in_ok-push.ensures.ok
    ∙ ap (summary_line c.args.number counts.answered counts.commits) c.len.ensures
