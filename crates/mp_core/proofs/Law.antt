-- The joint invariant holds wherever allowed events lead.
use Rattle.std.proofs.Common.{ℕ, List, [], subst, ap, arith}
use Rattle.mp_machine.specs.Machine.{run, AllAllowed, run_from, AllowedFrom}
use Rattle.mp_machine.proofs.Time.{kept, in_time}
use Rattle.mp_cells.specs.declared.records.Mtr.{Mtr}
use Rattle.mp_cells.specs.PageView.{PageView}
use Rattle.mp_core_trx.specs.declared.opening.TrxOpening.{TrxOpening}
use Rattle.mp_core_trx.specs.declared.slot.Shown.{Shown}
use Rattle.mp_core_trx.specs.Words.{tag_number}
use Rattle.mp_core_trx.specs.Events.{IsNode}
use Rattle.mp_core_trx.specs.World.{slot_rows_in}
use Rattle.mp_core_trx.proofs.Keeps.{keeps_inv as trx_keeps}
use Rattle.mp_core_trx.proofs.Law.{inv_start as trx_inv_start}
use Rattle.mp_core_pages.specs.declared.event.PagesEvent.{PagesEvent}
use Rattle.mp_core_pages.specs.PageEvents.{pages_node, PagesAsks}
use Rattle.mp_core_pages.specs.PageWorld.{pages_part, IsPagesNode}
use Rattle.mp_core_pages.proofs.Keeps.{keeps_pages}
use Rattle.mp_core_pages.proofs.Law.{pages_inv_start}
use Rattle.mp_core.specs.declared.opening.CoreOpening.{CoreOpening}
use Rattle.mp_core.specs.declared.event.CoreEvent.{CoreEvent}
use Rattle.mp_core.specs.declared.event.DownEvent.{DownEvent}
use Rattle.mp_core.specs.declared.event.CoreEvent.TheVariants.{Trx, Pages, Down}
use Rattle.mp_core.specs.Contents.{page_ops, pages_opening}
use Rattle.mp_core.specs.Downs.{down_node, DownAsks}
use Rattle.mp_core.specs.World.{CoreWorld, core_start, core_after, core_part, core_node_of, known_by, CoreAllowed, core}
use Rattle.mp_core.specs.Invariant.{NumbersFit, CommitsDurable, CoreInv}
use Rattle.mp_core.proofs.Pages.{page_laws, pages_fit}
use Rattle.mp_core.proofs.Records.{records_trx, records_pages}
use Rattle.mp_core.proofs.Downs.{downs_inv_start, keeps_downs}

module _ (o : CoreOpening) (w : CoreWorld) (i : CoreInv o w) (e : PagesEvent PageView Mtr) (may : CoreAllowed (core_part w (pages_node e)) (Pages e)) where
  -- what a step on pages asks, in the words of the page core
  pub its_node : IsPagesNode (pages_opening o) (pages_node e)
  its_node = subst (λ (x : TrxOpening). IsNode x (pages_node e)) (i.trx.carried (pages_node e)) may.0

  pub its_asks : PagesAsks page_ops o.trx.base.llsn (pages_part w.pages (pages_node e)) e
  its_asks = subst (λ (x : TrxOpening). PagesAsks page_ops x.base.llsn (pages_part w.pages (pages_node e)) e) (i.trx.carried (pages_node e)) may.1

-- what a step on down words asks, in the words of the opening
pub asks_of_down : (o : CoreOpening) (w : CoreWorld) → CoreInv o w → (e : DownEvent) → CoreAllowed (core_part w (down_node e)) (Down e) → IsNode o.trx (down_node e) × DownAsks o.trx (w.downs (down_node e)) e
asks_of_down o w i e may = subst (λ (x : TrxOpening). IsNode x (down_node e) × DownAsks x (w.downs (down_node e)) e) (i.trx.carried (down_node e)) may

-- no slot shows a commit before any step
none_shown : (base : ℕ) → CommitsDurable base (λ _. []) (λ _. []) (λ _. [])
none_shown base n slot version cts is = absurd (omega (arith, ap (λ (x : Shown). tag_number x.tag) is))

module _ (o : CoreOpening) (fair : NumbersFit o) where
  -- each event that is allowed keeps it
  pub keeps_inv : (w : CoreWorld) (e : CoreEvent) → CoreInv o w → CoreAllowed (core_part w (core_node_of e)) e → CoreInv o (core_after w e)
  keeps_inv w (Trx e) i may = record { trx = trx_keeps o.trx fair.trx w.trx e i.trx may.0; pages = i.pages; records = records_trx o w i e may; downs = i.downs }
  keeps_inv w (Pages e) i may = record {
    trx = i.trx;
    pages = keeps_pages page_ops page_laws (pages_opening o) (pages_fit o fair) (known_by w (pages_node e)) w.pages e i.pages (its_node o w i e may) (its_asks o w i e may);
    records = records_pages o.trx.base.llsn (known_by w (pages_node e)) (slot_rows_in w.trx) w.pages e (its_asks o w i e may) i.records;
    downs = i.downs;
  }
  keeps_inv w (Down e) i may = let asks = asks_of_down o w i e may in record { trx = i.trx; pages = i.pages; records = i.records; downs = keeps_downs o.trx w.downs i.downs e asks.0 asks.1 }

  -- with the last event first
  pub law : (es : List CoreEvent) → AllAllowed (core o) es → CoreInv o (run (core o) es)
  law = kept (core o) (CoreInv o) record { trx = trx_inv_start o.trx; pages = pages_inv_start page_ops (pages_opening o) (pages_fit o fair); records = none_shown o.trx.base.llsn; downs = downs_inv_start o.trx } (λ es e all i. keeps_inv (run (core o) es) e i all.0.1.0)

  -- and in the order of time
  pub law_in_time : (events : List CoreEvent) → AllowedFrom (core o) (core_start o) events → CoreInv o (run_from (core o) (core_start o) events)
  law_in_time = in_time (core o) (CoreInv o) law
