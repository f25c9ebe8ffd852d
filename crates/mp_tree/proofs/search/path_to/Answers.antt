-- The search goes down a level, or ends.
use Rattle.std.proofs.Common.{◌≡◌, ℕ, suc, ◌+◌, refl, sym, ap, subst, ◌∙◌, arith}
use Rattle.mp_cells.specs.declared.children.Child.{Child}
use Rattle.mp_cells.specs.declared.kinds.Kind.TheVariants.{Leaf, Inner}
use Rattle.mp_cells.specs.PageView.{PageView}
use Rattle.mp_cells.specs.Trees.{PageMap, child_at, leaf_at, root}
use Rattle.mp_page.specs.Pagers.{Extends}
use Rattle.mp_tree.specs.Searches.{IsOnPath, stop_above}
use Rattle.mp_tree.proofs.Descent.{Reached, begins, goes_on, stops, ends_at, not_lost, not_deep, leaf_at-more, parent_kept}
use Rattle.mp_tree.proofs.Asking.{Unwaited, extends_before, asked_none, asked_more, asked_page, asked_all, asked_wait}
use Rattle.mp_tree.proofs.search.path_to.Goals as goal

pub loop-level-init : goal.loop-level-init
loop-level-init g c = record {
  range = omega arith;
  asked = asked_none g.P.Pager.handed g.P.Pager.waits g.P.Pager.last g.P.Pager.follows g.P.Pager.withholds (IsOnPath c.args.key) g.P.Pager.follows_self 0 c.args.pager.now;
  on_path = λ pages e. refl;
  parent = tt;
  above = λ pages e. refl;
  reached = λ pages e height tree. begins pages height c.args.key tree (omega arith);
}

pub page-requires : goal.page-requires
page-requires g c = c.loop-level.invariant.range

pub returns-in-Err-clause-asks : goal.returns-in-Err-clause-asks
returns-in-Err-clause-asks g c =
    let key = c.args.key in
    let number = c.loop-level.number in
    let depth = c.loop-level._level in
    let now = c.page.follows.lender-at-none in
    let hands = c.page.follows.holds-at-none in
    let before : (pages : PageMap) → Extends pages (g.P.Pager.handed now) → Extends pages (g.P.Pager.handed c.loop-level.pager) = λ pages e. extends_before g.P.Pager.handed c.loop-level.pager now pages hands.kept e in
    let may : (pages : PageMap) → Extends pages (g.P.Pager.handed now) → IsOnPath key pages number = λ pages e. (depth, omega arith, c.loop-level.invariant.on_path pages (before pages e)) in
    asked_wait g.P.Pager.handed g.P.Pager.waits g.P.Pager.last g.P.Pager.follows g.P.Pager.withholds (IsOnPath c.args.key) _ g.P.Pager.follows_on depth 3 (omega arith) c.args.pager.now c.loop-level.pager now number c.page.result c.in-Err.wait may c.loop-level.invariant.asked hands c.in-Err.is

pub returns-in-Leaf-clause-asks : goal.returns-in-Leaf-clause-asks
returns-in-Leaf-clause-asks g c =
    let key = c.args.key in
    let number = c.loop-level.number in
    let depth = c.loop-level._level in
    let now = c.page.follows.lender-at-none in
    let hands = c.page.follows.holds-at-none in
    let before : (pages : PageMap) → Extends pages (g.P.Pager.handed now) → Extends pages (g.P.Pager.handed c.loop-level.pager) = λ pages e. extends_before g.P.Pager.handed c.loop-level.pager now pages hands.kept e in
    let may : (pages : PageMap) → Extends pages (g.P.Pager.handed now) → IsOnPath key pages number = λ pages e. (depth, omega arith, c.loop-level.invariant.on_path pages (before pages e)) in
    let asked = asked_page g.P.Pager.handed g.P.Pager.waits g.P.Pager.last g.P.Pager.follows g.P.Pager.withholds (IsOnPath c.args.key) c.loop-level.pager now number c.page.result c.in-Ok.page may hands c.in-Ok.is in
    asked_all g.P.Pager.handed g.P.Pager.waits g.P.Pager.last g.P.Pager.follows g.P.Pager.withholds (IsOnPath c.args.key) 3 c.args.pager.now now c.path_at.result (asked_more g.P.Pager.handed g.P.Pager.waits g.P.Pager.last g.P.Pager.follows g.P.Pager.withholds (IsOnPath c.args.key) g.P.Pager.follows_on depth 1 3 (omega arith) c.args.pager.now c.loop-level.pager now c.loop-level.invariant.asked asked.0)

pub returns-in-Leaf-clause-path : goal.returns-in-Leaf-clause-path
returns-in-Leaf-clause-path g c =
    let key = c.args.key in
    let number = c.loop-level.number in
    let depth = c.loop-level._level in
    let now = c.page.follows.lender-at-none in
    let hands = c.page.follows.holds-at-none in
    let before : (pages : PageMap) → Extends pages (g.P.Pager.handed now) → Extends pages (g.P.Pager.handed c.loop-level.pager) = λ pages e. extends_before g.P.Pager.handed c.loop-level.pager now pages hands.kept e in
    let may : (pages : PageMap) → Extends pages (g.P.Pager.handed now) → IsOnPath key pages number = λ pages e. (depth, omega arith, c.loop-level.invariant.on_path pages (before pages e)) in
    let asked = asked_page g.P.Pager.handed g.P.Pager.waits g.P.Pager.last g.P.Pager.follows g.P.Pager.withholds (IsOnPath c.args.key) c.loop-level.pager now number c.page.result c.in-Ok.page may hands c.in-Ok.is in
    rw c.path_at.ensures (record {
      leaf = record { range = c.loop-level.invariant.range; handed = asked.1; page = c.look_at.ensures.page; kind = c.in-Leaf.ensures.looks };
      parent = parent_kept (g.P.Pager.handed c.loop-level.pager) (g.P.Pager.handed now) key number c.loop-level.above hands.kept c.loop-level.invariant.parent;
    })

pub returns-in-Leaf-clause-found : goal.returns-in-Leaf-clause-found
returns-in-Leaf-clause-found g c = λ pages e height tree.
    let key = c.args.key in
    let number = c.loop-level.number in
    let depth = c.loop-level._level in
    let now = c.page.follows.lender-at-none in
    let hands = c.page.follows.holds-at-none in
    let before : (pages : PageMap) → Extends pages (g.P.Pager.handed now) → Extends pages (g.P.Pager.handed c.loop-level.pager) = λ pages e. extends_before g.P.Pager.handed c.loop-level.pager now pages hands.kept e in
    let may : (pages : PageMap) → Extends pages (g.P.Pager.handed now) → IsOnPath key pages number = λ pages e. (depth, omega arith, c.loop-level.invariant.on_path pages (before pages e)) in
    let asked = asked_page g.P.Pager.handed g.P.Pager.waits g.P.Pager.last g.P.Pager.follows g.P.Pager.withholds (IsOnPath c.args.key) c.loop-level.pager now number c.page.result c.in-Ok.page may hands c.in-Ok.is in
    let here : pages number ≡ c.in-Ok.page.now = e number c.in-Ok.page.now asked.1 in
    let reached = c.loop-level.invariant.reached pages (before pages e) height tree in
    let kind : (pages number).kind ≡ Leaf = ap (λ (p : PageView). p.kind) here ∙ c.in-Leaf.ensures.looks in
    let end = stops pages height key tree depth number reached kind in
    let level : height ≡ depth = ends_at pages height key tree depth number reached kind in
    let page : c.in-Ok.page.now ≡ pages (leaf_at pages height key root).page = sym here ∙ ap pages end in
    let above : c.loop-level.above ≡ stop_above pages height key = c.loop-level.invariant.above pages (before pages e) ∙ ap (λ (d : ℕ). stop_above pages d key) (sym level) in
    c.path_at.ensures ∙ rw (end, page, above) refl

pub returns-in-Lost-clause-asks : goal.returns-in-Lost-clause-asks
returns-in-Lost-clause-asks g c =
    let key = c.args.key in
    let number = c.loop-level.number in
    let depth = c.loop-level._level in
    let now = c.page.follows.lender-at-none in
    let hands = c.page.follows.holds-at-none in
    let before : (pages : PageMap) → Extends pages (g.P.Pager.handed now) → Extends pages (g.P.Pager.handed c.loop-level.pager) = λ pages e. extends_before g.P.Pager.handed c.loop-level.pager now pages hands.kept e in
    let may : (pages : PageMap) → Extends pages (g.P.Pager.handed now) → IsOnPath key pages number = λ pages e. (depth, omega arith, c.loop-level.invariant.on_path pages (before pages e)) in
    let asked = asked_page g.P.Pager.handed g.P.Pager.waits g.P.Pager.last g.P.Pager.follows g.P.Pager.withholds (IsOnPath c.args.key) c.loop-level.pager now number c.page.result c.in-Ok.page may hands c.in-Ok.is in
    asked_all g.P.Pager.handed g.P.Pager.waits g.P.Pager.last g.P.Pager.follows g.P.Pager.withholds (IsOnPath c.args.key) 3 c.args.pager.now now _ (asked_more g.P.Pager.handed g.P.Pager.waits g.P.Pager.last g.P.Pager.follows g.P.Pager.withholds (IsOnPath c.args.key) g.P.Pager.follows_on depth 1 3 (omega arith) c.args.pager.now c.loop-level.pager now c.loop-level.invariant.asked asked.0)

pub returns-in-Lost-clause-found : goal.returns-in-Lost-clause-found
returns-in-Lost-clause-found g c = λ pages e height tree.
    let key = c.args.key in
    let number = c.loop-level.number in
    let depth = c.loop-level._level in
    let now = c.page.follows.lender-at-none in
    let hands = c.page.follows.holds-at-none in
    let before : (pages : PageMap) → Extends pages (g.P.Pager.handed now) → Extends pages (g.P.Pager.handed c.loop-level.pager) = λ pages e. extends_before g.P.Pager.handed c.loop-level.pager now pages hands.kept e in
    let may : (pages : PageMap) → Extends pages (g.P.Pager.handed now) → IsOnPath key pages number = λ pages e. (depth, omega arith, c.loop-level.invariant.on_path pages (before pages e)) in
    let asked = asked_page g.P.Pager.handed g.P.Pager.waits g.P.Pager.last g.P.Pager.follows g.P.Pager.withholds (IsOnPath c.args.key) c.loop-level.pager now number c.page.result c.in-Ok.page may hands c.in-Ok.is in
    let here : pages number ≡ c.in-Ok.page.now = e number c.in-Ok.page.now asked.1 in
    let reached = c.loop-level.invariant.reached pages (before pages e) height tree in
    absurd (not_lost pages height key tree depth number reached
    (λ (k : (pages number).kind ≡ Leaf). c.in-Lost.ensures.looks.0 (sym (ap (λ (p : PageView). p.kind) here) ∙ k))
    (λ (k : (pages number).kind ≡ Inner). c.in-Lost.ensures.looks.1 (sym (ap (λ (p : PageView). p.kind) here) ∙ k)))

pub loop-level-preserved : goal.loop-level-preserved
loop-level-preserved g c =
    let key = c.args.key in
    let number = c.loop-level.number in
    let depth = c.loop-level._level in
    let now = c.page.follows.lender-at-none in
    let hands = c.page.follows.holds-at-none in
    let before : (pages : PageMap) → Extends pages (g.P.Pager.handed now) → Extends pages (g.P.Pager.handed c.loop-level.pager) = λ pages e. extends_before g.P.Pager.handed c.loop-level.pager now pages hands.kept e in
    let may : (pages : PageMap) → Extends pages (g.P.Pager.handed now) → IsOnPath key pages number = λ pages e. (depth, omega arith, c.loop-level.invariant.on_path pages (before pages e)) in
    let asked = asked_page g.P.Pager.handed g.P.Pager.waits g.P.Pager.last g.P.Pager.follows g.P.Pager.withholds (IsOnPath c.args.key) c.loop-level.pager now number c.page.result c.in-Ok.page may hands c.in-Ok.is in
    let child = c.in-Below.child in
    let found : (pages : PageMap) → Extends pages (g.P.Pager.handed now) → (child_at key (pages number).children).page ≡ child =
    λ pages e. ap (λ (p : PageView). (child_at key p.children).page) (e number c.in-Ok.page.now asked.1) ∙ sym c.in-Below.ensures.looks.1 in
    let level : depth + 1 ≡ suc depth = omega arith in
    record {
      range = c.in-Below.ensures.looks.2;
      asked = asked_more g.P.Pager.handed g.P.Pager.waits g.P.Pager.last g.P.Pager.follows g.P.Pager.withholds (IsOnPath c.args.key) g.P.Pager.follows_on depth 1 (depth + 1) (omega arith) c.args.pager.now c.loop-level.pager now c.loop-level.invariant.asked asked.0;
      on_path = λ pages e.
          sym (found pages e) ∙ ap (λ (n : ℕ). (child_at key (pages n).children).page) (c.loop-level.invariant.on_path pages (before pages e))
          ∙ ap (λ (d : Child). d.page) (sym (leaf_at-more pages depth key root)) ∙ ap (λ (d : ℕ). (leaf_at pages d key root).page) (sym level);
      parent = rw c.stop_at-above.ensures (record { range = c.loop-level.invariant.range; handed = asked.1; page = c.look_at.ensures.page; kind = c.in-Below.ensures.looks.0; child = sym c.in-Below.ensures.looks.1 });
      above = λ pages e.
          let path = c.loop-level.invariant.on_path pages (before pages e) in
          let page : c.in-Ok.page.now ≡ pages (leaf_at pages depth key root).page = sym (e number c.in-Ok.page.now asked.1) ∙ ap pages path in
          c.stop_at-above.ensures ∙ rw (level, path, page) refl;
      reached = λ pages e height tree.
          let here : pages number ≡ c.in-Ok.page.now = e number c.in-Ok.page.now asked.1 in
          let next = goes_on pages height key tree depth number (c.loop-level.invariant.reached pages (before pages e) height tree) (ap (λ (p : PageView). p.kind) here ∙ c.in-Below.ensures.looks.0) in
          subst (Reached pages height key (depth + 1)) (found pages e) next;
    }

pub returns-clause-asks : goal.returns-clause-asks
returns-clause-asks g c =
    let three : c.loop-level._level ≡ 3 = omega arith in
    asked_all g.P.Pager.handed g.P.Pager.waits g.P.Pager.last g.P.Pager.follows g.P.Pager.withholds (IsOnPath c.args.key) 3 c.args.pager.now c.loop-level.pager _ (subst (λ (d : ℕ). Unwaited g.P.Pager.handed g.P.Pager.waits g.P.Pager.last g.P.Pager.follows (IsOnPath c.args.key) d c.args.pager.now c.loop-level.pager) three c.loop-level.invariant.asked)

pub returns-clause-found : goal.returns-clause-found
returns-clause-found g c = λ pages e height tree.
    let three : c.loop-level._level ≡ 3 = omega arith in
    absurd (not_deep pages height c.args.key tree c.loop-level.number (subst (λ (d : ℕ). Reached pages height c.args.key d c.loop-level.number) three (c.loop-level.invariant.reached pages e height tree)))
