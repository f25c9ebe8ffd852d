-- The words `commit unknown` with the number are the text that was added.
use Rattle.std.proofs.Common.{◌++◌, codes, decimal, sym, ap, append-nil}
use Rattle.mp_report.proofs.Added.{two_added}
use Rattle.mp_report.proofs.print.answers.push_reply.Goals as goal

pub returns-in-Unknown : goal.returns-in-Unknown
returns-in-Unknown c =
    let number = decimal c.in-Unknown.cts in
    rw c.in-Unknown.is
    (two_added _ _ _ (codes " commit unknown ") number _ (ap (λ w. codes " commit unknown " ++ w) (sym (append-nil number))) c.push_numbered-in-Unknown.ensures)
