-- The sync changes nothing of what is read.
use Rattle.std.proofs.Common.{ℕ, List, sym, subst}
use Rattle.mp_cells.specs.PageMaps.{page_at}
use Rattle.mp_store.specs.Passes.{bodies_of, PassedBelow}
use Rattle.mp_store.proofs.PassedSides.{any_ok}
use Rattle.mp_store.proofs.passes.make_pass.Goals as goal

pub returns-clause-done : goal.returns-clause-done
returns-clause-done g c = λ tells. λ file. λ all.
    let header = c.args.header.now in
    any_ok c.sync.result (subst (λ (f : List ℕ).
    PassedBelow 4096 c.args.pass c.args.store c.args.marks.now.items (bodies_of header.generation header.llsn (page_at c.args.pages.now.items)) file f) (sym c.sync.ensures.quiet.same)
    (c.in_ok-change_all.ensures.done tells file all))
