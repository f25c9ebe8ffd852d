use Rattle.std.proofs.Common.{true, length, refl, ap, ◌∙◌, arith}
use Rattle.std.proofs.lemmas.List.{length-append}
use Rattle.mp_core_pages.specs.Histories.{placed}
use Rattle.mp_redo.specs.Spelling.{mtr_bytes}
use Rattle.mp_log.specs.Tails.{TailView}
use Rattle.mp_desk.proofs.MtrMade.{makes_mtr, above_durable}
use Rattle.mp_desk.proofs.MediaMoved.{media_made}
use Rattle.mp_desk.proofs.making.log_mtr.Goals as goal

pub returns-clause-made : goal.returns-clause-made
returns-clause-made g c =
    (placed c.store_llsn.ensures.1.note.height c.args.mtr.now, refl, makes_mtr c.args.node.now c.store_llsn.new.node c.args.p c.args.mtr.now c.requires.step c.store_llsn.ensures)

pub returns-clause-log : goal.returns-clause-log
returns-clause-log g c =
    let was = c.requires.log.1 in
    let tail = c.append.ensures.tail in
    let fits = was.fits in
    let room = c.requires.room in
    let bytes = length-append c.args.media.now.log.tail.bytes (mtr_bytes c.args.mtr.now) in
    let count = ap (λ (t : TailView). length t.bytes) tail in
    let last = ap (λ (t : TailView). t.last) tail in
    record {
      live = ap (λ (t : TailView). t.live) tail ∙ was.live;
      node = ap (λ (t : TailView). t.node) tail ∙ was.node;
      last = omega (arith, last);
      fits = omega (arith, fits, room, bytes, count);
    }

pub returns-clause-agrees : goal.returns-clause-agrees
returns-clause-agrees g c work agree =
    let before = c.args.node.now in
    let after = c.store_llsn.new.node in
    let m = c.args.mtr.now in
    let may = c.requires.step in
    let made = makes_mtr before after c.args.p m may c.store_llsn.ensures in
    media_made g.D.Disk work c.args.p c.args.media.now (record { log = c.append.new.self; unforced = true }) before after may.0 may.1 (placed c.store_llsn.ensures.1.note.height m) m refl made.moves
    (above_durable before after c.args.p m may c.store_llsn.ensures) c.append.ensures.disk refl (ap (λ (t : TailView). t.node) c.append.ensures.tail) (ap (λ (t : TailView). t.last) c.append.ensures.tail) (ap (λ (t : TailView). t.live) c.append.ensures.tail) c.append.ensures.appended agree
