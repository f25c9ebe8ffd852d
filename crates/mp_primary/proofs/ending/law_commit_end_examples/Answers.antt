use Rattle.std.proofs.Common.{◌≡◌, ◌≢◌, ℕ, ◌≤◌, true, List, [], ◌∷◌, length, None, refl, sym, ap, ◌∙◌, ⊎_elim, arith}
use Rattle.mp_core_trx.specs.Events.{with_end}
use Rattle.mp_core_trx.specs.declared.part.TrxPart.{TrxPart}
use Rattle.mp_book.specs.SmallBooks.{its_begun}
use Rattle.mp_buffer_fusion.specs.PoolExamples.{blank_buffer}
use Rattle.mp_supports.proofs.Extending.{core_extends_refl}
use Rattle.mp_desk.specs.Statements.{StaysQuiet}
use Rattle.mp_desk.proofs.Moving.{moves_none}
use Rattle.mp_desk.proofs.TrxStepped.{trx_step, extends_end}
use Rattle.mp_primary.specs.Primaries.{PrimaryView}
use Rattle.mp_primary.proofs.SmallPrimaries.{one_is_none}
use Rattle.mp_primary.proofs.CommitEnds.{stopped_ends}
use Rattle.mp_primary.proofs.ending.law_commit_end_examples.Goals as goal

pub returns-clause-freed : goal.returns-clause-freed
returns-clause-freed g c = λ q. (trx_step q (with_end its_begun.id None) 1 (extends_end its_begun.id None q.trx), refl)

pub returns-clause-not_freed : goal.returns-clause-not_freed
returns-clause-not_freed g c = λ q h. let longer = ap (λ (t : TrxPart). length t.rows) h.1 in absurd (omega (arith, longer))

pub returns-clause-stopped : goal.returns-clause-stopped
returns-clause-stopped g c = λ q. record { extends = core_extends_refl q; begun = refl; rows = refl; drew = refl; made = refl }

pub returns-clause-not_stopped : goal.returns-clause-not_stopped
returns-clause-not_stopped g c = λ h. let more = ap (λ l. length l) h.begun in absurd (omega (arith, more))

pub returns-clause-wrote : goal.returns-clause-wrote
returns-clause-wrote g c = λ row none. one_is_none row [] none

pub returns-clause-wrote_nothing : goal.returns-clause-wrote_nothing
returns-clause-wrote_nothing g c = λ h. h refl

pub returns-clause-ready : goal.returns-clause-ready
returns-clause-ready g c = λ run pr n stands up.
    let was = stands.primary.up up in
    record {
      log = was.0;
      empty = was.1;
      forced = was.2;
      idle = λ q has page. ⊎_elim (λ none. none) (λ down. absurd (down up)) ((stands.agrees.1 q has).mirrors.idle page);
    }

pub returns-clause-not_ready : goal.returns-clause-not_ready
returns-clause-not_ready g c = λ pr n one h. one_is_none (blank_buffer 5 true) [] (sym one ∙ h.empty)

pub returns-clause-stopped_so : goal.returns-clause-stopped_so
returns-clause-stopped_so g c = λ run pr n stands up agree rose wrote.
    stopped_ends g.D.Disk run pr n stands up 0 its_begun pr.desk pr.media n stands.desk stands.primary.own (omega arith) refl wrote agree rose
    (moves_none pr.number StaysQuiet (λ q. record { extends = core_extends_refl q; begun = refl; rows = refl; drew = refl; made = refl }) n)

pub returns-clause-not_down : goal.returns-clause-not_down
returns-clause-not_down g c = λ run old new before after one h. let down = ap (λ (v : PrimaryView g.row.D.Denot). v.down) h.rest in absurd (omega (arith, one, down))
