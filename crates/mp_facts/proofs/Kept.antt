-- What is kept holds wherever allowed events lead.
use Rattle.std.proofs.Common.{List}
use Rattle.mp_machine.specs.Machine.{run, AllAllowed, run_from, AllowedFrom}
use Rattle.mp_machine.proofs.Time.{kept, in_time}
use Rattle.mp_core.specs.declared.opening.CoreOpening.{CoreOpening}
use Rattle.mp_core.specs.declared.event.CoreEvent.{CoreEvent}
use Rattle.mp_core.specs.declared.event.CoreEvent.TheVariants.{Trx, Pages, Down}
use Rattle.mp_core.specs.World.{CoreWorld, core_start, core_after, core_part, core_node_of, CoreAllowed, core}
use Rattle.mp_core.specs.Invariant.{NumbersFit, CoreInv}
use Rattle.mp_core.proofs.Law.{law}
use Rattle.mp_facts.proofs.Joint.{Joint}
use Rattle.mp_facts.proofs.TrxSteps.{keeps_trx}
use Rattle.mp_facts.proofs.PageSteps.{keeps_pages}

module _ (o : CoreOpening) (fair : NumbersFit o) where
  at_first : Joint o (core_start o)
  at_first = record {
    of_begun = λ n t has. absurd has;
    kinds = λ n t has. absurd has;
    commits = λ n t id cts has. absurd has;
    last = λ n c t has. absurd has;
    ended = λ n l has. absurd has;
    runs = tt;
    fits = λ key. tt;
    own = λ id key has. absurd has.1;
    writers = λ key v id has. absurd has;
    covers = λ height key. tt;
    put_back = λ n t has. absurd has;
    known = λ n g has. absurd has;
    later = λ n g has. absurd has;
    leaf_puts = λ key number put row range leaf has. absurd has;
    shown = λ n g has. absurd has;
  }

  pub keeps_joint : (w : CoreWorld) (e : CoreEvent) → CoreInv o w → Joint o w → CoreAllowed (core_part w (core_node_of e)) e → Joint o (core_after w e)
  keeps_joint w (Trx e) i j may = keeps_trx o fair w e i j may
  keeps_joint w (Pages e) i j may = keeps_pages o fair w e i j may
  keeps_joint w (Down e) i j may = j

  -- with the last event first
  joint_law : (es : List CoreEvent) → AllAllowed (core o) es → Joint o (run (core o) es)
  joint_law = kept (core o) (Joint o) at_first (λ es e all j. keeps_joint (run (core o) es) e (law o fair es all.1) j all.0.1.0)

  -- and in the order of time
  pub joint_in_time : (events : List CoreEvent) → AllowedFrom (core o) (core_start o) events → Joint o (run_from (core o) (core_start o) events)
  joint_in_time = in_time (core o) (Joint o) joint_law
