use Rattle.std.proofs.Common.{◌≡◌, ℕ, length, slice_get, Some, sym, ap, ◌∙◌, arith}
use Rattle.std.proofs.lemmas.Option.{slice_get_within}
use Rattle.mp_cells.specs.PageView.{PageView}
use Rattle.mp_shared.proofs.Holding.{held_part}
use Rattle.mp_desk.proofs.Recorded.{record_lies, record_row, same_record, record_given}
use Rattle.mp_desk.proofs.desk.Desk.record.Goals as goal

pub row-requires : goal.row-requires
row-requires g c =
    let lies = record_lies c.args.shared.now c.fetch.new.self c.args.p c.args.node.now c.fetch.new.node c.fetch.ensures.desk c.fetch.ensures.brings.looked c.args.link c.requires.lies c.look.ensures.0 c.look.ensures.1 in
    let there = slice_get_within c.look.ensures.0.page.rows c.args.link.index lies.0 (record_row c.look.ensures.0.page c.args.link.index lies.0 lies.1) in
    let rows : length c.look.result.now.rows ≡ length c.look.ensures.0.page.rows = ap (λ (y : PageView). length y.rows) c.look.ensures.2 in
    let index : c.from.result ≡ c.args.link.index = c.from.ensures in
    omega (arith, there, rows, index)

pub returns-in-Ok-clause-record : goal.returns-in-Ok-clause-record
returns-in-Ok-clause-record g c = λ q there.
    let lies = record_lies c.args.shared.now c.fetch.new.self c.args.p c.args.node.now c.fetch.new.node c.fetch.ensures.desk c.fetch.ensures.brings.looked c.args.link c.requires.lies c.look.ensures.0 c.look.ensures.1 in
    let has = held_part c.args.node.now c.args.p c.requires.desk.part in
    let index : c.from.result ≡ c.args.link.index = c.from.ensures in
    let row : slice_get c.look.ensures.0.page.rows c.args.link.index ≡ Some c.row.result =
    ap (λ (y : PageView). slice_get y.rows c.args.link.index) (sym c.look.ensures.2) ∙ ap (λ (i : ℕ). slice_get c.look.result.now.rows i) (sym index) ∙ c.row.ensures.value in
    record_given c.args.p c.args.self.now c.fetch.new.self c.args.node.now c.fetch.new.node c.requires.afresh c.fetch.ensures.brings c.args.link c.row.result c.look.ensures.0 c.look.ensures.1
    (same_record c.look.ensures.0.page c.args.link.index lies.0 c.row.result lies.1 row) (has.0, has.1) q there
