use Rattle.std.proofs.Common.{ℕ, ◌+◌, List, length, sym, ap, subst, arith}
use Rattle.mp_model.specs.declared.key_value.KeyValue.{KeyValue}
use Rattle.mp_cells.specs.Rows.{IsRow}
use Rattle.mp_desk.specs.Statements.{FindsStretch}
use Rattle.mp_desk.proofs.HeldPlans.{all_at}
use Rattle.mp_desk.proofs.Moving.{looks_go}
use Rattle.mp_desk.proofs.Looking.{look_both, still_reads, still_afresh}
use Rattle.mp_desk.proofs.ReadValue.{halts_scan}
use Rattle.mp_desk.proofs.LeafScans.{added_few, seen_none, row_in_node, row_above, seen_more_rows, enough_rows, leaf_done, above_low}
use Rattle.mp_desk.proofs.desk.Desk.scan_leaf.Goals as goal

pub loop-i-init : goal.loop-i-init
loop-i-init g c =
    seen_none c.args.shared.now c.args.p c.args.trx c.args.most c.in-Ok.found c.rows_from.new.self c.rows_from.new.node c.args.rows.now.items c.args.rows.now.spare c.rows_from.ensures.desk c.requires.more c.requires.spare

pub shown-requires-clause-reader : goal.shown-requires-clause-reader
shown-requires-clause-reader g c =
    still_reads c.args.shared.now c.args.p c.args.self.now c.loop-i.self c.args.node.now c.loop-i.node c.requires.desk (look_both c.args.p c.args.self.now c.rows_from.new.self c.loop-i.self c.args.node.now c.rows_from.new.node c.loop-i.node c.rows_from.ensures.looks c.loop-i.invariant.looks) c.args.trx c.requires.reader

pub shown-requires-clause-afresh : goal.shown-requires-clause-afresh
shown-requires-clause-afresh g c =
    still_afresh c.args.shared.now c.args.p c.args.self.now c.loop-i.self c.args.node.now c.loop-i.node c.requires.desk (look_both c.args.p c.args.self.now c.rows_from.new.self c.loop-i.self c.args.node.now c.rows_from.new.node c.loop-i.node c.rows_from.ensures.looks c.loop-i.invariant.looks) c.requires.afresh

pub shown-requires-clause-newest : goal.shown-requires-clause-newest
shown-requires-clause-newest g c =
    row_in_node c.args.shared.now c.args.p c.args.trx c.args.low c.args.most c.in-Ok.found c.args.self.now c.rows_from.new.self c.loop-i.self c.args.node.now c.rows_from.new.node c.loop-i.node c.args.rows.now.items c.loop-i.rows.items c.loop-i.rows.spare c.loop-i.i c.requires.desk c.requires.afresh (record { looks = c.rows_from.ensures.looks; rows = c.in-Ok.ensures.rows }) c.rows_from.ensures.desk c.loop-i.invariant c.get-newest.result c.get-newest.ensures

pub shown-requires-clause-kept : goal.shown-requires-clause-kept
shown-requires-clause-kept g c =
    all_at IsRow c.in-Ok.found.rows c.in-Ok.ensures.kept c.loop-i.i c.get-newest.result c.get-newest.ensures

pub returns-in-Err-shown-clause-looks : goal.returns-in-Err-shown-clause-looks
returns-in-Err-shown-clause-looks g c =
    (look_both c.args.p c.args.self.now c.loop-i.self c.shown.new.self c.args.node.now c.loop-i.node c.shown.new.node (look_both c.args.p c.args.self.now c.rows_from.new.self c.loop-i.self c.args.node.now c.rows_from.new.node c.loop-i.node c.rows_from.ensures.looks c.loop-i.invariant.looks) c.shown.ensures.looks)

pub returns-in-Err-shown-clause-cause : goal.returns-in-Err-shown-clause-cause
returns-in-Err-shown-clause-cause g c =
    halts_scan c.args.p c.args.trx c.get-newest.result.key c.args.node.now c.loop-i.node c.shown.new.node c.in-Err-shown.halt (looks_go c.args.p c.args.node.now c.loop-i.node (look_both c.args.p c.args.self.now c.rows_from.new.self c.loop-i.self c.args.node.now c.rows_from.new.node c.loop-i.node c.rows_from.ensures.looks c.loop-i.invariant.looks).looked) c.in-Err-shown.ensures.cause

pub returns-then-len-most-clause-looks : goal.returns-then-len-most-clause-looks
returns-then-len-most-clause-looks g c =
    (look_both c.args.p c.args.self.now c.loop-i.self c.shown.new.self c.args.node.now c.loop-i.node c.shown.new.node (look_both c.args.p c.args.self.now c.rows_from.new.self c.loop-i.self c.args.node.now c.rows_from.new.node c.loop-i.node c.rows_from.ensures.looks c.loop-i.invariant.looks) c.shown.ensures.looks)

pub returns-then-len-most-clause-above : goal.returns-then-len-most-clause-above
returns-then-len-most-clause-above g c =
    let h = row_above c.args.shared.now c.args.p c.args.trx c.args.low c.args.most c.in-Ok.found c.args.self.now c.rows_from.new.self c.loop-i.self c.args.node.now c.rows_from.new.node c.loop-i.node c.args.rows.now.items c.loop-i.rows.items c.loop-i.rows.spare c.loop-i.i c.requires.desk c.requires.afresh (record { looks = c.rows_from.ensures.looks; rows = c.in-Ok.ensures.rows }) c.rows_from.ensures.desk c.loop-i.invariant c.get-newest.result c.get-newest.ensures in
    let low = h.0 in
    let high = h.1 in
    let same = c.from.ensures in
    (omega (arith, low, same), omega (arith, high, same))

pub returns-then-len-most-clause-stretch : goal.returns-then-len-most-clause-stretch
returns-then-len-most-clause-stretch g c =
    λ start q r has before knows given there.
    let reads = still_reads c.args.shared.now c.args.p c.args.self.now c.shown.new.self c.args.node.now c.shown.new.node c.requires.desk (look_both c.args.p c.args.self.now c.loop-i.self c.shown.new.self c.args.node.now c.loop-i.node c.shown.new.node (look_both c.args.p c.args.self.now c.rows_from.new.self c.loop-i.self c.args.node.now c.rows_from.new.node c.loop-i.node c.rows_from.ensures.looks c.loop-i.invariant.looks) c.shown.ensures.looks) c.args.trx c.requires.reader in
    subst (λ (k : ℕ). FindsStretch start r c.args.trx c.args.low (k + 1) c.args.rows.now.items c.add_seen.new.rows.items) (sym c.from.ensures)
    (enough_rows c.args.shared.now c.args.p c.args.trx c.args.low c.args.most c.in-Ok.found c.args.self.now c.rows_from.new.self c.loop-i.self c.args.node.now c.rows_from.new.node c.loop-i.node c.args.rows.now.items c.loop-i.rows.items c.loop-i.rows.spare c.loop-i.i c.requires.desk c.requires.afresh (record { looks = c.rows_from.ensures.looks; rows = c.in-Ok.ensures.rows }) c.rows_from.ensures.desk c.loop-i.invariant c.get-newest.result c.get-newest.ensures c.shown.new.self c.shown.new.node c.shown.ensures.desk c.shown.ensures.looks c.in-Ok-shown.row c.in-Ok-shown.ensures.seen c.add_seen.new.rows.items c.add_seen.ensures.items reads start q r has before knows given there)

pub loop-i-preserved : goal.loop-i-preserved
loop-i-preserved g c =
    let one = added_few c.loop-i.rows.items c.get-newest.result.key c.in-Ok-shown.row.value in
    let is = ap (λ (l : List KeyValue). length l) c.add_seen.ensures.items in
    let few = c.loop-i.invariant.few in
    let counted = c.len.ensures in
    let other = c.if-len-most.false in
    let room = c.loop-i.invariant.room in
    let spare = c.add_seen.ensures.spare in
    seen_more_rows c.args.shared.now c.args.p c.args.trx c.args.low c.args.most c.in-Ok.found c.args.self.now c.rows_from.new.self c.loop-i.self c.args.node.now c.rows_from.new.node c.loop-i.node c.args.rows.now.items c.loop-i.rows.items c.loop-i.rows.spare c.loop-i.i c.requires.desk c.requires.afresh (record { looks = c.rows_from.ensures.looks; rows = c.in-Ok.ensures.rows }) c.rows_from.ensures.desk c.loop-i.invariant c.get-newest.result c.get-newest.ensures c.shown.new.self c.shown.new.node c.shown.ensures.desk c.shown.ensures.looks c.in-Ok-shown.row c.in-Ok-shown.ensures.seen c.add_seen.new.rows.items c.add_seen.ensures.items c.add_seen.new.rows.spare (omega (arith, one, is, few, counted, other)) (omega (arith, room, spare))

pub returns-clause-looks : goal.returns-clause-looks
returns-clause-looks g c =
    (look_both c.args.p c.args.self.now c.rows_from.new.self c.loop-i.self c.args.node.now c.rows_from.new.node c.loop-i.node c.rows_from.ensures.looks c.loop-i.invariant.looks)

pub returns-clause-above : goal.returns-clause-above
returns-clause-above g c =
    above_low c.args.shared.now c.args.p c.args.trx c.args.low c.args.most c.in-Ok.found c.args.self.now c.rows_from.new.self c.loop-i.self c.args.node.now c.rows_from.new.node c.loop-i.node c.args.rows.now.items c.loop-i.rows.items c.loop-i.rows.spare c.loop-i.i c.requires.desk c.requires.afresh (record { looks = c.rows_from.ensures.looks; rows = c.in-Ok.ensures.rows }) c.rows_from.ensures.desk c.loop-i.invariant

pub returns-clause-stretch : goal.returns-clause-stretch
returns-clause-stretch g c =
    let reads = still_reads c.args.shared.now c.args.p c.args.self.now c.loop-i.self c.args.node.now c.loop-i.node c.requires.desk (look_both c.args.p c.args.self.now c.rows_from.new.self c.loop-i.self c.args.node.now c.rows_from.new.node c.loop-i.node c.rows_from.ensures.looks c.loop-i.invariant.looks) c.args.trx c.requires.reader in
    let counted = c.len-i-end.ensures.count in
    let past = c.loop-i-test.false in
    let within = c.loop-i.auto.i-end in
    leaf_done c.args.shared.now c.args.p c.args.trx c.args.low c.args.most c.in-Ok.found c.args.self.now c.rows_from.new.self c.loop-i.self c.args.node.now c.rows_from.new.node c.loop-i.node c.args.rows.now.items c.loop-i.rows.items c.loop-i.rows.spare c.loop-i.i c.requires.desk c.requires.afresh (record { looks = c.rows_from.ensures.looks; rows = c.in-Ok.ensures.rows }) c.rows_from.ensures.desk c.loop-i.invariant (omega (arith, counted, past, within)) reads
