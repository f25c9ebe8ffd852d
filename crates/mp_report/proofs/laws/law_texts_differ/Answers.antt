-- By the reading of a text.
use Rattle.mp_report.proofs.TextsDiffer.{texts_differ}
use Rattle.mp_report.proofs.laws.law_texts_differ.Goals as goal

pub returns : goal.returns
returns c = texts_differ
