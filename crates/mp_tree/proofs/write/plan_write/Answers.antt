-- The reading is that of the tree, and so is the plan.
use Rattle.std.proofs.Common.{◌≡◌, Option, Some, None, IsSome, IfSome, ℕ, sym, ap, subst, ◌∙◌, inl, inr, arith}
use Rattle.std.specs.Prelude.{is_none}
use mathlib.Core.Bool.{false≢true}
use Rattle.mp_cells.specs.declared.rows.Link.{Link}
use Rattle.mp_plans.specs.Growth.{Growth}
use Rattle.mp_tree.specs.declared.growth.Reading.{Reading}
use Rattle.mp_tree.specs.declared.new_pages.New.{New}
use Rattle.mp_tree.specs.declared.write.PlanKind.{PlanKind}
use Rattle.mp_tree.specs.Planning.{shape_of, undo_place, IsReading}
use Rattle.mp_tree.specs.Writing.{HasNew, IsWrite, IsFullFor, IsRead, IsReadOrMeta, needed_for}
use Rattle.mp_cells.specs.Trees.{PageMap}
use Rattle.mp_tree.proofs.Descent.{not_meta}
use Rattle.mp_tree.proofs.Asking.{extends_before, asked_more, asks_ok, asks_wider}
use Rattle.mp_tree.proofs.PlanAsking.{plan_ok, plan_waits, plan_then, plan_unwaited, plan_wider}
use Rattle.mp_tree.proofs.PlanWrite.{is_write}
use Rattle.mp_tree.proofs.write.plan_write.Goals as goal

reading_is : (found : Option Reading) (reading : Reading) (P : Reading → Type 0) → found ≡ Some reading → IsSome found × IfSome found P → P reading
reading_is found reading P is h = (subst (λ (f : Option Reading). IsSome f × IfSome f P) is h).1

new_is : (found : Option New) (new : New) (P : New → Type 0) → found ≡ Some new → IsSome found × IfSome found P → P new
new_is found new P is h = (subst (λ (f : Option New). IsSome f × IfSome f P) is h).1

no_new : (found : Option New) (P : New → Type 0) → found ≡ None → IsSome found × IfSome found P → ⊥
no_new found P is h = false≢true (subst (λ (f : Option New). IsSome f × IfSome f P) is h).0

pub returns-in-Ok-Some-pages_for-clause-written : goal.returns-in-Ok-Some-pages_for-clause-written
returns-in-Ok-Some-pages_for-clause-written g c = λ given e undo height tree.
    let before = extends_before g.P.Pager.handed c.reading_for.new.pager c.pages_for.new.pager given c.pages_for.ensures.asks.kept e in
    let reading = reading_is c.in-Ok-Some.field-0 c.in-Ok-Some.reading (IsReading given height c.args.write.now.key c.args.undo_page) c.in-Ok-Some.field-0-is (c.in-Ok-Some.ensures.reading given before undo height tree) in
    let new = new_is c.in-Ok-Some-pages_for.field-0 c.in-Ok-Some-pages_for.new (HasNew given (is_none c.in-Ok-Some.reading.place) (shape_of c.in-Ok-Some.reading.growth)) c.in-Ok-Some-pages_for.field-0-is (c.in-Ok-Some-pages_for.ensures.new given e tree.meta) in
    subst (λ (kind : PlanKind). IsWrite given height c.args.write.now c.args.undo_page kind c.put_write.new.plan) (sym c.kind_of.ensures)
    (is_write given height c.args.write.now c.args.undo_page c.in-Ok-Some.reading c.in-Ok-Some-pages_for.new c.put_write.new.plan tree undo c.requires.undo reading new (omega arith) c.put_write.ensures.value c.requires.writer (c.put_write.ensures.plan given))

pub returns-in-Ok-None-pages_for-clause-written : goal.returns-in-Ok-None-pages_for-clause-written
returns-in-Ok-None-pages_for-clause-written g c = λ given e undo height tree.
    absurd (no_new c.in-Ok-None-pages_for.field-0 (HasNew given (is_none c.in-Ok-Some.reading.place) (shape_of c.in-Ok-Some.reading.growth)) c.in-Ok-None-pages_for.field-0-is (c.in-Ok-None-pages_for.ensures.new given e tree.meta))

pub returns-in-Err-pages_for-clause-full : goal.returns-in-Err-pages_for-clause-full
returns-in-Err-pages_for-clause-full g c = λ given e undo height tree.
    let before = extends_before g.P.Pager.handed c.reading_for.new.pager c.pages_for.new.pager given c.pages_for.ensures.asks.kept e in
    let reading = reading_is c.in-Ok-Some.field-0 c.in-Ok-Some.reading (IsReading given height c.args.write.now.key c.args.undo_page) c.in-Ok-Some.field-0-is (c.in-Ok-Some.ensures.reading given before undo height tree) in
    subst (λ (shape : Growth). IsFullFor given (needed_for (is_none (undo_place given c.args.undo_page)) shape) c.in-Err-pages_for.refusal) reading.growth
    (subst (λ (place : Option Link). IsFullFor given (needed_for (is_none place) (shape_of c.in-Ok-Some.reading.growth)) c.in-Err-pages_for.refusal) reading.place
    (c.in-Err-pages_for.ensures.full given e))

-- ---- what is asked for

pub returns-in-Ok-None-clause-asks : goal.returns-in-Ok-None-clause-asks
returns-in-Ok-None-clause-asks g c =
    let read = asks_wider g.P.Pager.handed g.P.Pager.waits g.P.Pager.last g.P.Pager.follows g.P.Pager.withholds (IsRead c.args.write.now.key c.args.undo_page) (IsReadOrMeta c.args.write.now.key c.args.undo_page) (λ pages n h. inl h) 4 c.args.pager.now c.reading_for.new.pager c.reading_for.result c.reading_for.ensures.asks in
    let a = asks_ok g.P.Pager.handed g.P.Pager.waits g.P.Pager.last g.P.Pager.follows g.P.Pager.withholds (IsReadOrMeta c.args.write.now.key c.args.undo_page) 4 c.args.pager.now c.reading_for.new.pager c.reading_for.result c.in-Ok-None.field-0 read c.in-Ok-None.is in
    plan_ok g.P.Pager.handed g.P.Pager.waits g.P.Pager.last g.P.Pager.follows g.P.Pager.withholds (IsReadOrMeta c.args.write.now.key c.args.undo_page) 4 5 (omega arith) c.args.pager.now c.reading_for.new.pager _ a

pub returns-in-Err-clause-asks : goal.returns-in-Err-clause-asks
returns-in-Err-clause-asks g c =
    let read = asks_wider g.P.Pager.handed g.P.Pager.waits g.P.Pager.last g.P.Pager.follows g.P.Pager.withholds (IsRead c.args.write.now.key c.args.undo_page) (IsReadOrMeta c.args.write.now.key c.args.undo_page) (λ pages n h. inl h) 4 c.args.pager.now c.reading_for.new.pager c.reading_for.result c.reading_for.ensures.asks in
    plan_waits g.P.Pager.handed g.P.Pager.waits g.P.Pager.last g.P.Pager.follows g.P.Pager.withholds (IsReadOrMeta c.args.write.now.key c.args.undo_page) _ 4 5 (omega arith) c.args.pager.now c.reading_for.new.pager c.reading_for.result c.in-Err.wait read c.in-Err.is

pub returns-in-Ok-Some-pages_for-clause-asks : goal.returns-in-Ok-Some-pages_for-clause-asks
returns-in-Ok-Some-pages_for-clause-asks g c =
    let read = asks_wider g.P.Pager.handed g.P.Pager.waits g.P.Pager.last g.P.Pager.follows g.P.Pager.withholds (IsRead c.args.write.now.key c.args.undo_page) (IsReadOrMeta c.args.write.now.key c.args.undo_page) (λ pages n h. inl h) 4 c.args.pager.now c.reading_for.new.pager c.reading_for.result c.reading_for.ensures.asks in
    let new = plan_wider g.P.Pager.handed g.P.Pager.waits g.P.Pager.last g.P.Pager.follows g.P.Pager.withholds (λ (pages : PageMap) (n : ℕ). n ≡ 0) (IsReadOrMeta c.args.write.now.key c.args.undo_page) (λ pages n h. inr h) 1 c.reading_for.new.pager c.pages_for.new.pager c.pages_for.result c.pages_for.ensures.asks in
    let a = asks_ok g.P.Pager.handed g.P.Pager.waits g.P.Pager.last g.P.Pager.follows g.P.Pager.withholds (IsReadOrMeta c.args.write.now.key c.args.undo_page) 4 c.args.pager.now c.reading_for.new.pager c.reading_for.result c.in-Ok-Some.field-0 read c.in-Ok-Some.is in
    let b = plan_unwaited g.P.Pager.handed g.P.Pager.waits g.P.Pager.last g.P.Pager.follows g.P.Pager.withholds (IsReadOrMeta c.args.write.now.key c.args.undo_page) 1 c.reading_for.new.pager c.pages_for.new.pager c.pages_for.result c.in-Ok-Some-pages_for.field-0 new c.in-Ok-Some-pages_for.is in
    plan_ok g.P.Pager.handed g.P.Pager.waits g.P.Pager.last g.P.Pager.follows g.P.Pager.withholds (IsReadOrMeta c.args.write.now.key c.args.undo_page) 5 5 (omega arith) c.args.pager.now c.pages_for.new.pager _ (asked_more g.P.Pager.handed g.P.Pager.waits g.P.Pager.last g.P.Pager.follows g.P.Pager.withholds (IsReadOrMeta c.args.write.now.key c.args.undo_page) g.P.Pager.follows_on 4 1 5 (omega arith) c.args.pager.now c.reading_for.new.pager c.pages_for.new.pager a b)

pub returns-in-Ok-None-pages_for-clause-asks : goal.returns-in-Ok-None-pages_for-clause-asks
returns-in-Ok-None-pages_for-clause-asks g c =
    let read = asks_wider g.P.Pager.handed g.P.Pager.waits g.P.Pager.last g.P.Pager.follows g.P.Pager.withholds (IsRead c.args.write.now.key c.args.undo_page) (IsReadOrMeta c.args.write.now.key c.args.undo_page) (λ pages n h. inl h) 4 c.args.pager.now c.reading_for.new.pager c.reading_for.result c.reading_for.ensures.asks in
    let new = plan_wider g.P.Pager.handed g.P.Pager.waits g.P.Pager.last g.P.Pager.follows g.P.Pager.withholds (λ (pages : PageMap) (n : ℕ). n ≡ 0) (IsReadOrMeta c.args.write.now.key c.args.undo_page) (λ pages n h. inr h) 1 c.reading_for.new.pager c.pages_for.new.pager c.pages_for.result c.pages_for.ensures.asks in
    let a = asks_ok g.P.Pager.handed g.P.Pager.waits g.P.Pager.last g.P.Pager.follows g.P.Pager.withholds (IsReadOrMeta c.args.write.now.key c.args.undo_page) 4 c.args.pager.now c.reading_for.new.pager c.reading_for.result c.in-Ok-Some.field-0 read c.in-Ok-Some.is in
    let b = plan_unwaited g.P.Pager.handed g.P.Pager.waits g.P.Pager.last g.P.Pager.follows g.P.Pager.withholds (IsReadOrMeta c.args.write.now.key c.args.undo_page) 1 c.reading_for.new.pager c.pages_for.new.pager c.pages_for.result c.in-Ok-None-pages_for.field-0 new c.in-Ok-None-pages_for.is in
    plan_ok g.P.Pager.handed g.P.Pager.waits g.P.Pager.last g.P.Pager.follows g.P.Pager.withholds (IsReadOrMeta c.args.write.now.key c.args.undo_page) 5 5 (omega arith) c.args.pager.now c.pages_for.new.pager _ (asked_more g.P.Pager.handed g.P.Pager.waits g.P.Pager.last g.P.Pager.follows g.P.Pager.withholds (IsReadOrMeta c.args.write.now.key c.args.undo_page) g.P.Pager.follows_on 4 1 5 (omega arith) c.args.pager.now c.reading_for.new.pager c.pages_for.new.pager a b)

pub returns-in-Err-pages_for-clause-asks : goal.returns-in-Err-pages_for-clause-asks
returns-in-Err-pages_for-clause-asks g c =
    let read = asks_wider g.P.Pager.handed g.P.Pager.waits g.P.Pager.last g.P.Pager.follows g.P.Pager.withholds (IsRead c.args.write.now.key c.args.undo_page) (IsReadOrMeta c.args.write.now.key c.args.undo_page) (λ pages n h. inl h) 4 c.args.pager.now c.reading_for.new.pager c.reading_for.result c.reading_for.ensures.asks in
    let new = plan_wider g.P.Pager.handed g.P.Pager.waits g.P.Pager.last g.P.Pager.follows g.P.Pager.withholds (λ (pages : PageMap) (n : ℕ). n ≡ 0) (IsReadOrMeta c.args.write.now.key c.args.undo_page) (λ pages n h. inr h) 1 c.reading_for.new.pager c.pages_for.new.pager c.pages_for.result c.pages_for.ensures.asks in
    let a = asks_ok g.P.Pager.handed g.P.Pager.waits g.P.Pager.last g.P.Pager.follows g.P.Pager.withholds (IsReadOrMeta c.args.write.now.key c.args.undo_page) 4 c.args.pager.now c.reading_for.new.pager c.reading_for.result c.in-Ok-Some.field-0 read c.in-Ok-Some.is in
    plan_then g.P.Pager.handed g.P.Pager.waits g.P.Pager.last g.P.Pager.follows g.P.Pager.withholds (IsReadOrMeta c.args.write.now.key c.args.undo_page) _ g.P.Pager.follows_on 4 1 5 (omega arith) c.args.pager.now c.reading_for.new.pager c.pages_for.new.pager c.pages_for.result c.in-Err-pages_for.refusal a new c.in-Err-pages_for.is

-- ---- page 0 isn't, where no page is needed

pub returns-in-Err-clause-unread : goal.returns-in-Err-clause-unread
returns-in-Err-clause-unread g c = λ given e undo height tree none.
    let read = c.reading_for.ensures.asks in
    read.others 0 (not_meta given height c.args.write.now.key c.args.undo_page tree c.requires.undo read.asked (read.may given e))

pub returns-in-Ok-Some-pages_for-clause-unread : goal.returns-in-Ok-Some-pages_for-clause-unread
returns-in-Ok-Some-pages_for-clause-unread g c = λ given e undo height tree none.
    let before = extends_before g.P.Pager.handed c.reading_for.new.pager c.pages_for.new.pager given c.pages_for.ensures.asks.kept e in
    let read = c.reading_for.ensures.asks in
    let reading = reading_is c.in-Ok-Some.field-0 c.in-Ok-Some.reading (IsReading given height c.args.write.now.key c.args.undo_page) c.in-Ok-Some.field-0-is (c.in-Ok-Some.ensures.reading given before undo height tree) in
    let needs : needed_for (is_none c.in-Ok-Some.reading.place) (shape_of c.in-Ok-Some.reading.growth) ≡ 0 = ap (λ (place : Option Link). needed_for (is_none place) (shape_of c.in-Ok-Some.reading.growth)) reading.place ∙ ap (needed_for (is_none (undo_place given c.args.undo_page))) reading.growth ∙ none in
    c.pages_for.ensures.unread needs ∙ read.others 0 (not_meta given height c.args.write.now.key c.args.undo_page tree c.requires.undo read.asked (read.may given before))

pub returns-in-Ok-None-pages_for-clause-unread : goal.returns-in-Ok-None-pages_for-clause-unread
returns-in-Ok-None-pages_for-clause-unread g c = λ given e undo height tree none.
    let before = extends_before g.P.Pager.handed c.reading_for.new.pager c.pages_for.new.pager given c.pages_for.ensures.asks.kept e in
    let read = c.reading_for.ensures.asks in
    let reading = reading_is c.in-Ok-Some.field-0 c.in-Ok-Some.reading (IsReading given height c.args.write.now.key c.args.undo_page) c.in-Ok-Some.field-0-is (c.in-Ok-Some.ensures.reading given before undo height tree) in
    let needs : needed_for (is_none c.in-Ok-Some.reading.place) (shape_of c.in-Ok-Some.reading.growth) ≡ 0 = ap (λ (place : Option Link). needed_for (is_none place) (shape_of c.in-Ok-Some.reading.growth)) reading.place ∙ ap (needed_for (is_none (undo_place given c.args.undo_page))) reading.growth ∙ none in
    c.pages_for.ensures.unread needs ∙ read.others 0 (not_meta given height c.args.write.now.key c.args.undo_page tree c.requires.undo read.asked (read.may given before))

pub returns-in-Err-pages_for-clause-unread : goal.returns-in-Err-pages_for-clause-unread
returns-in-Err-pages_for-clause-unread g c = λ given e undo height tree none.
    let before = extends_before g.P.Pager.handed c.reading_for.new.pager c.pages_for.new.pager given c.pages_for.ensures.asks.kept e in
    let read = c.reading_for.ensures.asks in
    let reading = reading_is c.in-Ok-Some.field-0 c.in-Ok-Some.reading (IsReading given height c.args.write.now.key c.args.undo_page) c.in-Ok-Some.field-0-is (c.in-Ok-Some.ensures.reading given before undo height tree) in
    let needs : needed_for (is_none c.in-Ok-Some.reading.place) (shape_of c.in-Ok-Some.reading.growth) ≡ 0 = ap (λ (place : Option Link). needed_for (is_none place) (shape_of c.in-Ok-Some.reading.growth)) reading.place ∙ ap (needed_for (is_none (undo_place given c.args.undo_page))) reading.growth ∙ none in
    c.pages_for.ensures.unread needs ∙ read.others 0 (not_meta given height c.args.write.now.key c.args.undo_page tree c.requires.undo read.asked (read.may given before))
