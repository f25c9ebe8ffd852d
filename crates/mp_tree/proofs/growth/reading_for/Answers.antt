-- The path, and the place of the undo record; the path shows how the tree grows.
use Rattle.std.proofs.Common.{◌≡◌, ℕ, Some, refl, ap, inl, inr, arith}
use Rattle.mp_cells.specs.Trees.{PageMap}
use Rattle.mp_page.specs.Pagers.{Extends}
use Rattle.mp_tree.specs.declared.search.Path.{Path}
use Rattle.mp_tree.specs.Searches.{IsOnPath, path_on}
use Rattle.mp_tree.specs.Writing.{IsRead}
use Rattle.mp_tree.proofs.Asking.{extends_before, asked_none, asked_more, asked_all, asks_ok, asks_wait, asks_wider}
use Rattle.mp_tree.proofs.Descent.{handed_path, parent_page, same_path}
use Rattle.mp_tree.proofs.growth.reading_for.Goals as goal

pub returns-in-Ok-clause-asks : goal.returns-in-Ok-clause-asks
returns-in-Ok-clause-asks g c =
    let May : PageMap → ℕ → Type 0 = IsRead c.args.key c.args.undo_page in
    let path = asks_wider g.P.Pager.handed g.P.Pager.waits g.P.Pager.last g.P.Pager.follows g.P.Pager.withholds (IsOnPath c.args.key) May (λ pages n h. inl h) 3 c.args.pager.now c.path_to.new.pager c.path_to.result c.path_to.ensures.asks in
    let undo = asks_wider g.P.Pager.handed g.P.Pager.waits g.P.Pager.last g.P.Pager.follows g.P.Pager.withholds (λ (pages : PageMap) (n : ℕ). c.args.undo_page ≡ Some n) May (λ pages n h. inr h) 1 c.path_to.new.pager c.place_in.new.pager c.place_in.result c.place_in.ensures.asks in
    let a = asks_ok g.P.Pager.handed g.P.Pager.waits g.P.Pager.last g.P.Pager.follows g.P.Pager.withholds May 3 c.args.pager.now c.path_to.new.pager c.path_to.result c.in-Ok-Some.field-0 path c.in-Ok-Some.is in
    let b = asks_ok g.P.Pager.handed g.P.Pager.waits g.P.Pager.last g.P.Pager.follows g.P.Pager.withholds May 1 c.path_to.new.pager c.place_in.new.pager c.place_in.result c.in-Ok.place undo c.in-Ok.is in
    asked_all g.P.Pager.handed g.P.Pager.waits g.P.Pager.last g.P.Pager.follows g.P.Pager.withholds May 4 c.args.pager.now c.place_in.new.pager _ (asked_more g.P.Pager.handed g.P.Pager.waits g.P.Pager.last g.P.Pager.follows g.P.Pager.withholds May g.P.Pager.follows_on 3 1 4 (omega arith) c.args.pager.now c.path_to.new.pager c.place_in.new.pager a b)

pub returns-in-Err-place_in-clause-asks : goal.returns-in-Err-place_in-clause-asks
returns-in-Err-place_in-clause-asks g c =
    let May : PageMap → ℕ → Type 0 = IsRead c.args.key c.args.undo_page in
    let path = asks_wider g.P.Pager.handed g.P.Pager.waits g.P.Pager.last g.P.Pager.follows g.P.Pager.withholds (IsOnPath c.args.key) May (λ pages n h. inl h) 3 c.args.pager.now c.path_to.new.pager c.path_to.result c.path_to.ensures.asks in
    let undo = asks_wider g.P.Pager.handed g.P.Pager.waits g.P.Pager.last g.P.Pager.follows g.P.Pager.withholds (λ (pages : PageMap) (n : ℕ). c.args.undo_page ≡ Some n) May (λ pages n h. inr h) 1 c.path_to.new.pager c.place_in.new.pager c.place_in.result c.place_in.ensures.asks in
    let a = asks_ok g.P.Pager.handed g.P.Pager.waits g.P.Pager.last g.P.Pager.follows g.P.Pager.withholds May 3 c.args.pager.now c.path_to.new.pager c.path_to.result c.in-Ok-Some.field-0 path c.in-Ok-Some.is in
    asks_wait g.P.Pager.handed g.P.Pager.waits g.P.Pager.last g.P.Pager.follows g.P.Pager.withholds May _ g.P.Pager.follows_on 3 1 4 (omega arith) c.args.pager.now c.path_to.new.pager c.place_in.new.pager c.place_in.result c.in-Err-place_in.wait a undo c.in-Err-place_in.is

pub returns-in-Err-clause-asks : goal.returns-in-Err-clause-asks
returns-in-Err-clause-asks g c =
    let May : PageMap → ℕ → Type 0 = IsRead c.args.key c.args.undo_page in
    let path = asks_wider g.P.Pager.handed g.P.Pager.waits g.P.Pager.last g.P.Pager.follows g.P.Pager.withholds (IsOnPath c.args.key) May (λ pages n h. inl h) 3 c.args.pager.now c.path_to.new.pager c.path_to.result c.path_to.ensures.asks in
    let none = asked_none g.P.Pager.handed g.P.Pager.waits g.P.Pager.last g.P.Pager.follows g.P.Pager.withholds May g.P.Pager.follows_self 0 c.args.pager.now in
    asks_wait g.P.Pager.handed g.P.Pager.waits g.P.Pager.last g.P.Pager.follows g.P.Pager.withholds May _ g.P.Pager.follows_on 0 3 4 (omega arith) c.args.pager.now c.args.pager.now c.path_to.new.pager c.path_to.result c.in-Err.wait none path c.in-Err.is

pub returns-in-Ok-None-clause-asks : goal.returns-in-Ok-None-clause-asks
returns-in-Ok-None-clause-asks g c =
    let May : PageMap → ℕ → Type 0 = IsRead c.args.key c.args.undo_page in
    let path = asks_wider g.P.Pager.handed g.P.Pager.waits g.P.Pager.last g.P.Pager.follows g.P.Pager.withholds (IsOnPath c.args.key) May (λ pages n h. inl h) 3 c.args.pager.now c.path_to.new.pager c.path_to.result c.path_to.ensures.asks in
    let a = asks_ok g.P.Pager.handed g.P.Pager.waits g.P.Pager.last g.P.Pager.follows g.P.Pager.withholds May 3 c.args.pager.now c.path_to.new.pager c.path_to.result c.in-Ok-None.field-0 path c.in-Ok-None.is in
    asked_all g.P.Pager.handed g.P.Pager.waits g.P.Pager.last g.P.Pager.follows g.P.Pager.withholds May 4 c.args.pager.now c.path_to.new.pager _ (asked_more g.P.Pager.handed g.P.Pager.waits g.P.Pager.last g.P.Pager.follows g.P.Pager.withholds May g.P.Pager.follows_on 0 3 4 (omega arith) c.args.pager.now c.args.pager.now c.path_to.new.pager (asked_none g.P.Pager.handed g.P.Pager.waits g.P.Pager.last g.P.Pager.follows g.P.Pager.withholds May g.P.Pager.follows_self 0 c.args.pager.now) a)

pub returns-in-Ok-clause-reading : goal.returns-in-Ok-clause-reading
returns-in-Ok-clause-reading g c = λ pages e undo height tree.
    let May : PageMap → ℕ → Type 0 = λ (pages : PageMap) (n : ℕ). c.args.undo_page ≡ Some n in
    let b = asks_ok g.P.Pager.handed g.P.Pager.waits g.P.Pager.last g.P.Pager.follows g.P.Pager.withholds May 1 c.path_to.new.pager c.place_in.new.pager c.place_in.result c.in-Ok.place c.place_in.ensures.asks c.in-Ok.is in
    let before : Extends pages (g.P.Pager.handed c.path_to.new.pager) = extends_before g.P.Pager.handed c.path_to.new.pager c.place_in.new.pager pages b.kept e in
    let at = handed_path (g.P.Pager.handed c.path_to.new.pager) c.args.key c.in-Ok-Some.field-0 c.in-Ok-Some.path c.in-Ok-Some.field-0-is c.in-Ok-Some.ensures.path in
    let path : c.in-Ok-Some.path ≡ path_on pages height c.args.key = same_path c.in-Ok-Some.field-0 c.in-Ok-Some.path (path_on pages height c.args.key) c.in-Ok-Some.field-0-is (c.in-Ok-Some.ensures.found pages before height tree) in (
      refl,
      record {
        leaf = ap (λ (p : Path). p.leaf) path;
        growth = c.growth_for.ensures.growth pages height tree path;
        place = c.in-Ok.ensures.place pages e undo;
        pages = c.growth_for.ensures.pages pages (parent_page (g.P.Pager.handed c.path_to.new.pager) pages c.args.key c.in-Ok-Some.path.leaf.number c.in-Ok-Some.path.parent before at.parent);
      },
    )
