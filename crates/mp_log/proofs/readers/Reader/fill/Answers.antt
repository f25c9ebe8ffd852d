-- Where nothing is left, the next batch decides.
use Rattle.mp_log.proofs.Given.{fills}
use Rattle.mp_log.proofs.readers.Reader.fill.Goals as goal

pub returns-clause-exact : goal.returns-clause-exact
returns-clause-exact g c = λ mtrs fault tells remains.
    fills (g.D.Disk.seen c.args.disk.now) mtrs fault c.args.self.now remains (c.has_left.ensures.none c.if-has_left.false) c.load.new.self c.load.result c.load.ensures.state (c.load.ensures.exact tells)
