-- The meta page is page 0.
use Rattle.std.proofs.Common.{◌≡◌, ◌≤◌, ℕ, Bool, Option, IsSome, IfSome, Result, Ok, Err, IfOk, IfErr, length, Some, refl, sym, ap, subst, ◌∙◌, arith}
use Rattle.mp_cells.specs.declared.kinds.Kind.TheVariants.{Meta}
use Rattle.mp_cells.specs.PageView.{PageView}
use Rattle.mp_cells.specs.Trees.{PageMap}
use Rattle.mp_page.specs.Pagers.{Handed, Extends}
use Rattle.mp_plans.specs.Growth.{Growth}
use Rattle.mp_tree.specs.declared.new_pages.New.{New}
use Rattle.mp_tree.specs.declared.write.PlanRefusal.{PlanRefusal}
use Rattle.mp_tree.specs.Planning.{shape_of, clear_pages}
use Rattle.mp_tree.specs.Writing.{IsNew, HasNew, IsFullFor, IsFullBy, needed_for}
use Rattle.mp_tree.specs.declared.write.PlanRefusal.TheVariants as refusals
use Rattle.mp_tree.specs.Searches.{Asks}
use Rattle.mp_tree.proofs.Asking.{asked_none, asked_page, asked_wait}
use Rattle.mp_tree.proofs.PlanAsking.{plan_ok, plan_answers, plan_waits}
use Rattle.mp_tree.proofs.NewPages.{found_new}
use Rattle.mp_tree.proofs.new_pages.pages_for.Goals as goal

over_maps : (handed : Handed) (meta : PageView) (fresh : Bool) (growth : Growth) (needs : ℕ) (result : Result (Option New) PlanRefusal) → handed 0 ≡ Some meta → needs ≡ needed_for fresh growth
    → IfOk result (λ found. meta.kind ≡ Meta → IsSome found × IfSome found (λ new. (needs ≤ length (clear_pages meta)) × IsNew fresh new meta))
    → IfOk result (λ found. (pages : PageMap) → Extends pages handed → (pages 0).kind ≡ Meta → IsSome found × IfSome found (HasNew pages fresh growth))
over_maps handed meta fresh growth needs (Ok found) h is f = λ pages e kind. found_new pages meta fresh growth needs found (e 0 meta h) is (f (ap (λ (p : PageView). p.kind) (sym (e 0 meta h)) ∙ kind))
over_maps handed meta fresh growth needs (Err refusal) h is f = tt

pub returns-in-Ok-clause-new : goal.returns-in-Ok-clause-new
returns-in-Ok-clause-new g c =
    let asked = asked_page g.P.Pager.handed g.P.Pager.waits g.P.Pager.last g.P.Pager.follows g.P.Pager.withholds (λ (pages : PageMap) (n : ℕ). n ≡ 0) c.args.pager.now c.page.follows.lender-at-none 0 c.page.result c.in-Ok.meta (λ pages e. refl) c.page.follows.holds-at-none c.in-Ok.is in
    let growth = shape_of c.args.reading.now.growth in
    let all = over_maps (g.P.Pager.handed c.page.follows.lender-at-none) c.in-Ok.meta.now c.is_fresh-fresh.result growth c.needed-needed.result c.taken_from.result asked.1 c.needed-needed.ensures.value c.taken_from.ensures.new in
    subst (λ (fresh : Bool). IfOk c.taken_from.result (λ found. (pages : PageMap) → Extends pages (g.P.Pager.handed c.page.follows.lender-at-none) → (pages 0).kind ≡ Meta → IsSome found × IfSome found (HasNew pages fresh growth))) c.is_fresh-fresh.ensures all

-- ---- what is asked for

pub returns-then-needed-eq0-clause-asks : goal.returns-then-needed-eq0-clause-asks
returns-then-needed-eq0-clause-asks g c =
    plan_ok g.P.Pager.handed g.P.Pager.waits g.P.Pager.last g.P.Pager.follows g.P.Pager.withholds (λ (pages : PageMap) (n : ℕ). n ≡ 0) 0 1 (omega arith) c.args.pager.now c.args.pager.now _ (asked_none g.P.Pager.handed g.P.Pager.waits g.P.Pager.last g.P.Pager.follows g.P.Pager.withholds (λ (pages : PageMap) (n : ℕ). n ≡ 0) g.P.Pager.follows_self 0 c.args.pager.now)

pub returns-in-Ok-clause-asks : goal.returns-in-Ok-clause-asks
returns-in-Ok-clause-asks g c =
    let asked = asked_page g.P.Pager.handed g.P.Pager.waits g.P.Pager.last g.P.Pager.follows g.P.Pager.withholds (λ (pages : PageMap) (n : ℕ). n ≡ 0) c.args.pager.now c.page.follows.lender-at-none 0 c.page.result c.in-Ok.meta (λ pages e. refl) c.page.follows.holds-at-none c.in-Ok.is in
    plan_answers g.P.Pager.handed g.P.Pager.waits g.P.Pager.last g.P.Pager.follows g.P.Pager.withholds (λ (pages : PageMap) (n : ℕ). n ≡ 0) 1 1 (omega arith) c.args.pager.now c.page.follows.lender-at-none c.taken_from.result c.taken_from.ensures.quiet asked.0

pub returns-in-Err-clause-asks : goal.returns-in-Err-clause-asks
returns-in-Err-clause-asks g c =
    let none = asked_none g.P.Pager.handed g.P.Pager.waits g.P.Pager.last g.P.Pager.follows g.P.Pager.withholds (λ (pages : PageMap) (n : ℕ). n ≡ 0) g.P.Pager.follows_self 0 c.args.pager.now in
    let waits : Asks {A = Option New} g.P.Pager.handed g.P.Pager.waits g.P.Pager.last g.P.Pager.follows g.P.Pager.withholds (λ (pages : PageMap) (n : ℕ). n ≡ 0) 1 c.args.pager.now c.page.follows.lender-at-none (Err c.in-Err.wait) =
    asked_wait g.P.Pager.handed g.P.Pager.waits g.P.Pager.last g.P.Pager.follows g.P.Pager.withholds (λ (pages : PageMap) (n : ℕ). n ≡ 0) (Option New) g.P.Pager.follows_on 0 1 (omega arith) c.args.pager.now c.args.pager.now c.page.follows.lender-at-none 0 c.page.result c.in-Err.wait (λ pages e. refl) none c.page.follows.holds-at-none c.in-Err.is in
    plan_waits g.P.Pager.handed g.P.Pager.waits g.P.Pager.last g.P.Pager.follows g.P.Pager.withholds (λ (pages : PageMap) (n : ℕ). n ≡ 0) _ 1 1 (omega arith) c.args.pager.now c.page.follows.lender-at-none (Err c.in-Err.wait) c.in-Err.wait waits refl

-- ---- page 0 is read where pages are needed

full_by : (handed : Handed) (meta : PageView) (needs : ℕ) (result : Result (Option New) PlanRefusal) → handed 0 ≡ Some meta → needs ≤ 4 → IfErr result (λ refusal. IsFullFor (λ (n : ℕ). meta) needs refusal) → IfErr result (λ refusal. IsFullBy handed refusal)
full_by handed meta needs (Ok found) h most f = tt
full_by handed meta needs (Err (refusals.Full needed clear)) h most f = (meta, h, omega (arith, most, f.0), f.1, f.2)
full_by handed meta needs (Err (refusals.NotYet wait)) h most f = tt

pub returns-in-Ok-clause-by : goal.returns-in-Ok-clause-by
returns-in-Ok-clause-by g c =
    let asked = asked_page g.P.Pager.handed g.P.Pager.waits g.P.Pager.last g.P.Pager.follows g.P.Pager.withholds (λ (pages : PageMap) (n : ℕ). n ≡ 0) c.args.pager.now c.page.follows.lender-at-none 0 c.page.result c.in-Ok.meta (λ pages e. refl) c.page.follows.holds-at-none c.in-Ok.is in
    full_by (g.P.Pager.handed c.page.follows.lender-at-none) c.in-Ok.meta.now c.needed-needed.result c.taken_from.result asked.1 c.needed-needed.ensures.most c.taken_from.ensures.full
