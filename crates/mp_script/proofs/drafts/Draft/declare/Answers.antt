-- A new session goes last.
use Rattle.std.proofs.Common.{◌≡◌, ◌++◌, ◌∷◌, [], nat_eq, nat_le, ap, ◌∙◌}
use Rattle.std.specs.List.{list_all}
use Rattle.indexmap.proofs.CallerLemmas.{insert_entry-new}
use Rattle.mp_script.proofs.Tallies.{lookup-None, within-push, sessions_of-push, said}
use Rattle.mp_script.specs.Drafts.{sessions_of}
use Rattle.mp_script.proofs.drafts.Draft.declare.Goals as goal

pub returns-clause-said : goal.returns-clause-said
returns-clause-said c =
    let e : c.insert.new.self.entries ≡ c.args.self.now.sessions.entries ++ (c.args.session.session, c.args.session.primary) ∷ [] = c.in_ok-insert.ensures.entries ∙ insert_entry-new nat_eq c.args.self.now.sessions c.args.session.session c.args.session.primary (lookup-None c.args.self.now.sessions.entries c.args.session.session c.requires.fits.new) in
    ap (λ sessions. said c.args.self.now.primaries sessions c.args.self.now.lines.items) (ap sessions_of e ∙ sessions_of-push c.args.self.now.sessions.entries c.args.session)

pub returns-clause-tallied : goal.returns-clause-tallied
returns-clause-tallied c =
    let e : c.insert.new.self.entries ≡ c.args.self.now.sessions.entries ++ (c.args.session.session, c.args.session.primary) ∷ [] = c.in_ok-insert.ensures.entries ∙ insert_entry-new nat_eq c.args.self.now.sessions c.args.session.session c.args.session.primary (lookup-None c.args.self.now.sessions.entries c.args.session.session c.requires.fits.new) in
    record {
      within = ap (list_all (λ x. nat_le x.0 64)) e ∙ within-push c.args.self.now.sessions.entries c.args.session.session c.args.session.primary c.requires.tallied.within c.requires.fits.session_high;
      whole = c.requires.tallied.whole;
      tallies = c.requires.tallied.tallies;
      room = c.requires.tallied.room;
    }
