-- The statement's session has one more, and its transaction is as the statement leaves it.
use Rattle.std.proofs.Common.{arith, ap, sym, ◌∙◌, ◌≡◌, ◌++◌, ◌∷◌, [], length}
use Rattle.std.proofs.lemmas.List.{length-append, length-set}
use Rattle.mp_script.specs.declared.statements.Line.{Line}
use Rattle.mp_script.proofs.Tallies.{tallies-push}
use Rattle.mp_script.specs.Drafts.{tally_of}
use Rattle.mp_script.proofs.drafts.Draft.say.Goals as goal

pub returns-clause-tallied : goal.returns-clause-tallied
returns-clause-tallied c =
    let lines : c.push.new.self.items ≡ c.args.self.now.lines.items ++ c.args.line ∷ [] = c.in_ok-push.ensures.ok in
    record {
      within = c.requires.tallied.within;
      whole = length-set c.args.self.now.tallies c.args.line.session _ ∙ c.requires.tallied.whole;
      tallies = λ session small. tallies-push c.args.self.now.tallies c.args.self.now.lines.items c.args.line c.open_after.result c.requires.tallied.whole c.requires.tallied.tallies c.requires.session c.requires.fits.number c.open_after.ensures session small ∙ ap (λ x. tally_of x session) (sym lines);
      room = omega (arith, ap length lines, length-append {A = Line}, c.requires.fits.room);
    }
