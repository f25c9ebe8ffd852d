-- By the ranges of the script's statements and the rules of a legal transcript.
use Rattle.mp_report.proofs.LegalReadable.{legal_readable}
use Rattle.mp_report.proofs.laws.law_legal_readable.Goals as goal

pub returns : goal.returns
returns c = legal_readable
