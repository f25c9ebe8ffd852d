use Rattle.mp_shared.proofs.Holding.{held_part}
use Rattle.mp_desk.proofs.Moving.{looks_go}
use Rattle.mp_desk.proofs.Looking.{look_both, still_reads, still_afresh, part_then}
use Rattle.mp_desk.proofs.ReadValue.{newest_in, finds_value, halts_later}
use Rattle.mp_desk.proofs.desk.Desk.get.Goals as goal

pub shown-requires-clause-reader : goal.shown-requires-clause-reader
shown-requires-clause-reader g c =
    still_reads c.args.shared.now c.args.p c.args.self.now c.newest_version.new.self c.args.node.now c.newest_version.new.node c.requires.desk c.newest_version.ensures.looks c.args.trx c.requires.reader

pub shown-requires-clause-afresh : goal.shown-requires-clause-afresh
shown-requires-clause-afresh g c =
    still_afresh c.args.shared.now c.args.p c.args.self.now c.newest_version.new.self c.args.node.now c.newest_version.new.node c.requires.desk c.newest_version.ensures.looks c.requires.afresh

pub shown-requires-clause-newest : goal.shown-requires-clause-newest
shown-requires-clause-newest g c =
    newest_in c.args.shared.now c.args.p c.args.self.now c.newest_version.new.self c.args.node.now c.newest_version.new.node c.requires.desk c.requires.afresh c.newest_version.ensures.looks c.args.key c.in-Ok.newest c.in-Ok.ensures.key c.in-Ok.ensures.newest

pub returns-in-Ok-shown-clause-looks : goal.returns-in-Ok-shown-clause-looks
returns-in-Ok-shown-clause-looks g c =
    look_both c.args.p c.args.self.now c.newest_version.new.self c.shown.new.self c.args.node.now c.newest_version.new.node c.shown.new.node c.newest_version.ensures.looks c.shown.ensures.looks

pub returns-in-Err-shown-clause-looks : goal.returns-in-Err-shown-clause-looks
returns-in-Err-shown-clause-looks g c =
    look_both c.args.p c.args.self.now c.newest_version.new.self c.shown.new.self c.args.node.now c.newest_version.new.node c.shown.new.node c.newest_version.ensures.looks c.shown.ensures.looks

pub returns-in-Ok-shown-clause-got : goal.returns-in-Ok-shown-clause-got
returns-in-Ok-shown-clause-got g c =
    λ start q r has before knows given there.
    let mid = held_part c.newest_version.new.node c.args.p c.newest_version.ensures.desk.part in
    let reads = still_reads c.args.shared.now c.args.p c.args.self.now c.shown.new.self c.args.node.now c.shown.new.node c.requires.desk (look_both c.args.p c.args.self.now c.newest_version.new.self c.shown.new.self c.args.node.now c.newest_version.new.node c.shown.new.node c.newest_version.ensures.looks c.shown.ensures.looks) c.args.trx c.requires.reader in
    finds_value c.args.p c.shown.new.node start mid.0 r c.args.trx c.args.key c.in-Ok.newest c.in-Ok-shown.found c.shown.ensures.desk.reached there (reads r there) knows
    (part_then c.args.shared.now c.args.p c.newest_version.new.self c.shown.new.self c.newest_version.new.node c.shown.new.node c.newest_version.ensures.desk c.shown.ensures.looks mid.0 r mid.1 there)
    (c.in-Ok.ensures.newest start q mid.0 has before given mid.1) (c.in-Ok-shown.ensures.seen r there)

pub returns-in-Err-shown-clause-cause : goal.returns-in-Err-shown-clause-cause
returns-in-Err-shown-clause-cause g c =
    halts_later c.args.p c.args.trx c.in-Ok.newest.key c.args.key c.args.node.now c.newest_version.new.node c.shown.new.node c.in-Err-shown.halt (looks_go c.args.p c.args.node.now c.newest_version.new.node c.newest_version.ensures.looks.looked) c.in-Ok.ensures.key c.in-Err-shown.ensures.cause
