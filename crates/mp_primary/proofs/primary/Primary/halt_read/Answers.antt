use Rattle.std.proofs.Common.{subst}
use Rattle.mp_desk.specs.declared.halts.ReadHalt.{ReadHalt}
use Rattle.mp_primary.specs.Reads.{StopsReading}
use Rattle.mp_primary.proofs.ReadsEnd.{word_cause, prep_range_here, prep_cause_here}
use Rattle.mp_primary.proofs.primary.Primary.halt_read.Goals as goal

pub wait-requires : goal.wait-requires
wait-requires g c =
    let w = c.requires.work in
    record {
      work = (
        w.0,
        w.1,
        w.2,
        w.3,
        w.4,
        w.5,
        word_cause g.D.Disk c.args.shared.now w.0 w.1 c.args.node.now c.args.node.now
            c.args.number w.2 w.3 w.4 c.in-Word.wait (subst (λ (x : ReadHalt). StopsReading w.0 w.1 c.args.node.now w.2 x) c.in-Word.is w.6),
      );
    }

pub name_of-name-requires-clause-above : goal.name_of-name-requires-clause-above
name_of-name-requires-clause-above g c =
    let w = c.requires.work in
    (prep_range_here g.D.Disk c.args.shared.now w.0 c.args.self.now w.1 c.args.node.now c.args.number w.2 w.3 w.4 w.5 c.in-Prep.id
    (subst (λ (x : ReadHalt). StopsReading w.0 w.1 c.args.node.now w.2 x) c.in-Prep.is w.6)).0

pub name_of-name-requires-clause-within : goal.name_of-name-requires-clause-within
name_of-name-requires-clause-within g c =
    let w = c.requires.work in
    (prep_range_here g.D.Disk c.args.shared.now w.0 c.args.self.now w.1 c.args.node.now c.args.number w.2 w.3 w.4 w.5 c.in-Prep.id
    (subst (λ (x : ReadHalt). StopsReading w.0 w.1 c.args.node.now w.2 x) c.in-Prep.is w.6)).1

pub wait-requires-in-Prep : goal.wait-requires-in-Prep
wait-requires-in-Prep g c =
    let w = c.requires.work in
    record {
      work = (
        w.0,
        w.1,
        w.2,
        w.3,
        w.4,
        w.5,
        prep_cause_here g.D.Disk c.args.shared.now w.0 c.args.self.now w.1 c.args.node.now
            c.args.number w.2 w.3 w.4 w.5 c.in-Prep.id (subst (λ (x : ReadHalt). StopsReading w.0 w.1 c.args.node.now w.2 x) c.in-Prep.is w.6)
            c.name_of-name.result c.name_of-name.ensures,
      );
    }

pub returns-in-Word : goal.returns-in-Word
returns-in-Word g c = λ old before s line comes at stops.
    let here = subst (λ (x : ReadHalt). StopsReading old before c.args.node.now s x) c.in-Word.is stops in
    c.wait.ensures old before s line comes at here.quiet
    (word_cause g.D.Disk c.args.shared.now old before c.args.node.now c.args.node.now c.args.number s line comes c.in-Word.wait here)
    tt

pub returns-in-Prep : goal.returns-in-Prep
returns-in-Prep g c = λ old before s line comes at stops.
    let here = subst (λ (x : ReadHalt). StopsReading old before c.args.node.now s x) c.in-Prep.is stops in
    c.wait-in-Prep.ensures old before s line comes at here.quiet
    (prep_cause_here g.D.Disk c.args.shared.now old c.args.self.now before c.args.node.now c.args.number s line comes at c.in-Prep.id here
    c.name_of-name.result c.name_of-name.ensures) tt
