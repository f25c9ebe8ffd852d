-- The current undo page, where there is one.
use Rattle.std.proofs.Common.{◌≡◌, ℕ, Some, arith}
use Rattle.mp_cells.specs.Trees.{PageMap}
use Rattle.mp_tree.proofs.Asking.{asked_none, asked_page, asked_all, asked_wait}
use Rattle.mp_tree.proofs.growth.place_in.Goals as goal

pub returns-in_default-clause-asks : goal.returns-in_default-clause-asks
returns-in_default-clause-asks g c = asked_all g.P.Pager.handed g.P.Pager.waits g.P.Pager.last g.P.Pager.follows g.P.Pager.withholds (λ (pages : PageMap) (n : ℕ). c.args.undo_page ≡ Some n) 1 c.args.pager.now c.args.pager.now _
    (asked_none g.P.Pager.handed g.P.Pager.waits g.P.Pager.last g.P.Pager.follows g.P.Pager.withholds (λ (pages : PageMap) (n : ℕ). c.args.undo_page ≡ Some n) g.P.Pager.follows_self 1 c.args.pager.now)

pub returns-in-Ok-clause-asks : goal.returns-in-Ok-clause-asks
returns-in-Ok-clause-asks g c =
    let asked = asked_page g.P.Pager.handed g.P.Pager.waits g.P.Pager.last g.P.Pager.follows g.P.Pager.withholds (λ (pages : PageMap) (n : ℕ). c.args.undo_page ≡ Some n) c.args.pager.now c.page.follows.lender-at-none c.in-Some.number c.page.result c.in-Ok.page (λ pages e. c.in-Some.is) c.page.follows.holds-at-none c.in-Ok.is in
    asked_all g.P.Pager.handed g.P.Pager.waits g.P.Pager.last g.P.Pager.follows g.P.Pager.withholds (λ (pages : PageMap) (n : ℕ). c.args.undo_page ≡ Some n) 1 c.args.pager.now c.page.follows.lender-at-none _ asked.0

pub returns-in-Err-clause-asks : goal.returns-in-Err-clause-asks
returns-in-Err-clause-asks g c =
    let none = asked_none g.P.Pager.handed g.P.Pager.waits g.P.Pager.last g.P.Pager.follows g.P.Pager.withholds (λ (pages : PageMap) (n : ℕ). c.args.undo_page ≡ Some n) g.P.Pager.follows_self 0 c.args.pager.now in
    asked_wait g.P.Pager.handed g.P.Pager.waits g.P.Pager.last g.P.Pager.follows g.P.Pager.withholds (λ (pages : PageMap) (n : ℕ). c.args.undo_page ≡ Some n) _ g.P.Pager.follows_on 0 1 (omega arith) c.args.pager.now c.args.pager.now c.page.follows.lender-at-none c.in-Some.number c.page.result c.in-Err.wait (λ pages e. c.in-Some.is) none c.page.follows.holds-at-none c.in-Err.is
