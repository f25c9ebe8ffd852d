-- By the writes of statements within their ranges.
use Rattle.mp_script.proofs.SeenRows.{spelled_seen}
use Rattle.mp_script.proofs.laws.law_seen_rows.Goals as goal

pub returns : goal.returns
returns c = spelled_seen
