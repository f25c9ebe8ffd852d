use Rattle.mp_verdict.proofs.Scanning.{scanned}
use Rattle.mp_verdict.proofs.values.law_scans.Goals as goal

pub returns : goal.returns
returns c = λ o w pages reader view count low high most rows all fit facts sees ascend below scans le end. scanned o w fit facts pages reader view all sees count low high most rows ascend below scans le end
