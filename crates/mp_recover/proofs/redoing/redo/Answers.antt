-- An mtr that a log may hold has such records.
use Rattle.std.proofs.Common.{◌≡◌, List, sym, subst}
use Rattle.std.specs.List.{AllByRecursion}
use Rattle.mp_recover.specs.Redoing.{RecordFits, refusal_of, records_redone}
use Rattle.mp_cells.specs.declared.records.Record.{Record}
use Rattle.mp_cells.specs.PageMaps.{page_at}
use Rattle.mp_recover.proofs.Redone.{records_fit}
use Rattle.mp_recover.proofs.OnlyRedone.{redone_only}
use Rattle.mp_recover.proofs.redoing.redo.Goals as goal

pub redo_items-requires-clause-fit : goal.redo_items-requires-clause-fit
redo_items-requires-clause-fit c = subst (AllByRecursion RecordFits) (sym c.as_slice.ensures.value) (records_fit c.args.mtr.now.llsn c.args.mtr.now.records c.requires.mtr.records)

pub returns-clause-only : goal.returns-clause-only
returns-clause-only c = redone_only c.args.mtr.now.llsn c.args.mtr.now.records (page_at c.args.pages.now.items) (page_at c.redo_items.new.pages.items) (refusal_of c.redo_items.result)
    (subst (λ (items : List Record). (page_at c.redo_items.new.pages.items, refusal_of c.redo_items.result) ≡ records_redone c.args.mtr.now.llsn items (page_at c.args.pages.now.items)) c.as_slice.ensures.value c.redo_items.ensures.redone)
