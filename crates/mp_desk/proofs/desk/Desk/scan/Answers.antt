use Rattle.std.proofs.Common.{sym, ◌∙◌, arith}
use Rattle.mp_desk.proofs.Moving.{looks_go}
use Rattle.mp_desk.proofs.Looking.{look_both, still_reads, still_afresh}
use Rattle.mp_desk.proofs.ReadValue.{scan_later}
use Rattle.mp_desk.proofs.LeafScans.{scan_none, scan_full, scan_more_leaves, scan_end}
use Rattle.mp_desk.proofs.desk.Desk.scan.Goals as goal

pub loop-leaf-init : goal.loop-leaf-init
loop-leaf-init g c =
    (scan_none c.args.shared.now c.args.p c.args.trx c.args.low c.args.most c.args.self.now c.args.node.now c.args.rows.now.items c.args.rows.now.spare c.requires.desk c.requires.empty c.requires.spare, omega (arith, c.ranges.low.fits))

pub scan_leaf-requires-clause-reader : goal.scan_leaf-requires-clause-reader
scan_leaf-requires-clause-reader g c =
    still_reads c.args.shared.now c.args.p c.args.self.now c.loop-leaf.self c.args.node.now c.loop-leaf.node c.requires.desk c.loop-leaf.invariant.0.looks c.args.trx c.requires.reader

pub scan_leaf-requires-clause-afresh : goal.scan_leaf-requires-clause-afresh
scan_leaf-requires-clause-afresh g c =
    still_afresh c.args.shared.now c.args.p c.args.self.now c.loop-leaf.self c.args.node.now c.loop-leaf.node c.requires.desk c.loop-leaf.invariant.0.looks c.requires.afresh

pub loop-leaf-preserved : goal.loop-leaf-preserved
loop-leaf-preserved g c =
    let above = c.in-Ok.ensures.above.1 in
    let other = c.if-next.false in
    (scan_more_leaves c.args.shared.now c.args.p c.args.trx c.args.low c.args.most c.args.self.now c.loop-leaf.self c.args.node.now c.loop-leaf.node c.loop-leaf.from c.loop-leaf.rows.items c.loop-leaf.rows.spare c.loop-leaf._leaf c.requires.desk c.loop-leaf.invariant.0 c.scan_leaf.new.self c.scan_leaf.new.node c.scan_leaf.ensures.desk c.scan_leaf.ensures.looks c.in-Ok.next c.scan_leaf.new.rows.items c.in-Ok.ensures.stretch c.scan_leaf.new.rows.spare c.in-Ok.ensures.above.0 c.scan_leaf.ensures.few c.scan_leaf.ensures.spare, omega (arith, above, other))

pub returns-then-len-most-clause-scanned : goal.returns-then-len-most-clause-scanned
returns-then-len-most-clause-scanned g c =
    scan_full c.args.shared.now c.args.p c.args.trx c.args.low c.args.most c.args.self.now c.loop-leaf.self c.args.node.now c.loop-leaf.node c.loop-leaf.from c.loop-leaf.rows.items c.loop-leaf.rows.spare c.loop-leaf._leaf c.requires.desk c.loop-leaf.invariant.0 (sym c.len.ensures ∙ c.if-len-most.true)

pub returns-then-next-clause-looks : goal.returns-then-next-clause-looks
returns-then-next-clause-looks g c =
    look_both c.args.p c.args.self.now c.loop-leaf.self c.scan_leaf.new.self c.args.node.now c.loop-leaf.node c.scan_leaf.new.node c.loop-leaf.invariant.0.looks c.scan_leaf.ensures.looks

pub returns-then-next-clause-scanned : goal.returns-then-next-clause-scanned
returns-then-next-clause-scanned g c =
    scan_end c.args.shared.now c.args.p c.args.trx c.args.low c.args.most c.args.self.now c.loop-leaf.self c.args.node.now c.loop-leaf.node c.loop-leaf.from c.loop-leaf.rows.items c.loop-leaf.rows.spare c.loop-leaf._leaf c.requires.desk c.loop-leaf.invariant.0 c.scan_leaf.new.self c.scan_leaf.new.node c.scan_leaf.ensures.desk c.scan_leaf.ensures.looks c.in-Ok.next c.scan_leaf.new.rows.items c.in-Ok.ensures.stretch c.if-next.true c.scan_leaf.ensures.few

pub returns-in-Err-clause-looks : goal.returns-in-Err-clause-looks
returns-in-Err-clause-looks g c =
    look_both c.args.p c.args.self.now c.loop-leaf.self c.scan_leaf.new.self c.args.node.now c.loop-leaf.node c.scan_leaf.new.node c.loop-leaf.invariant.0.looks c.scan_leaf.ensures.looks

pub returns-in-Err-clause-cause : goal.returns-in-Err-clause-cause
returns-in-Err-clause-cause g c =
    scan_later c.args.p c.args.trx c.args.node.now c.loop-leaf.node c.scan_leaf.new.node c.in-Err.halt (looks_go c.args.p c.args.node.now c.loop-leaf.node c.loop-leaf.invariant.0.looks.looked) c.in-Err.ensures.cause

pub unreachable-requires : goal.unreachable-requires
unreachable-requires g c =
    let rises = c.loop-leaf.invariant.0.rises in
    let past = c.loop-leaf-test.false in
    let within = c.loop-leaf.invariant.1 in
    absurd (omega (arith, rises, past, within))

pub returns-then-len-most-clause-desk : goal.returns-then-len-most-clause-desk
returns-then-len-most-clause-desk g c =
    c.loop-leaf.invariant.0.desk

pub returns-then-len-most-clause-looks : goal.returns-then-len-most-clause-looks
returns-then-len-most-clause-looks g c =
    c.loop-leaf.invariant.0.looks

pub scan_leaf-requires-clause-desk : goal.scan_leaf-requires-clause-desk
scan_leaf-requires-clause-desk g c =
    c.loop-leaf.invariant.0.desk

pub scan_leaf-requires-clause-more : goal.scan_leaf-requires-clause-more
scan_leaf-requires-clause-more g c =
    let few = c.loop-leaf.invariant.0.few in
    let counted = c.len.ensures in
    let other = c.if-len-most.false in
    omega (arith, few, counted, other)

pub scan_leaf-requires-clause-spare : goal.scan_leaf-requires-clause-spare
scan_leaf-requires-clause-spare g c =
    c.loop-leaf.invariant.0.room
