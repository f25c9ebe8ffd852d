-- The words with the number are the text that was added.
use Rattle.std.proofs.Common.{[], ◌∷◌, ◌++◌, codes, decimal, sym, ap, append-nil}
use Rattle.mp_report.proofs.Added.{three_added}
use Rattle.mp_report.proofs.print.transcripts.push_end.Goals as goal

pub returns : goal.returns
returns c =
    let number = decimal c.args.commits in
    three_added _ _ _ _ (codes "end commits ") number (10 ∷ []) _ c.in_ok-push_numbered.ensures
    (ap (λ w. codes "end commits " ++ (w ++ 10 ∷ [])) (sym (append-nil number))) c.push.ensures.ok
