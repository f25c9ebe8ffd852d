-- Each pass begins where the one before was made safe.
use Rattle.std.proofs.Common.{ℕ, IsTrue, sym, subst}
use Rattle.std.proofs.lemmas.Result.{on_ok_weaker}
use Rattle.mp_cells.specs.PageMaps.{page_at}
use Rattle.mp_store.specs.declared.passes.Pass.TheVariants.{Close, Fill, Open}
use Rattle.mp_store.specs.Passes.{bodies_of}
use Rattle.mp_store.proofs.PassedSides.{side_counts_not, none_passed, then_fill, then_open, passed_beside, all_written}
use Rattle.mp_store.proofs.passes.write_together.Goals as goal

pub returns-in_err-make_pass-clause-left : goal.returns-in_err-make_pass-clause-left
returns-in_err-make_pass-clause-left g c = λ tells. λ room. λ only. λ image. λ left.
    let header = c.args.header.now in
    let store = c.args.store in
    let marks = c.args.marks.now.items in
    let pages = page_at c.args.pages.now.items in
    let bodies = bodies_of header.generation header.llsn pages in
    let file = g.D.Disk.seen c.args.disk.now in
    let later = λ (n : ℕ). side_counts_not store header.generation header.llsn pages n c.requires.generation c.requires.header.generation in
    let start = none_passed store marks bodies file (g.D.Disk.image c.args.disk.now) room only in
    passed_beside Close store marks bodies file image later ((c.in_err-make_pass.ensures.kept tells file start).leaves image left)

pub returns-in_err-make_pass-2-clause-left : goal.returns-in_err-make_pass-2-clause-left
returns-in_err-make_pass-2-clause-left g c = λ tells. λ room. λ only. λ image. λ left.
    let header = c.args.header.now in
    let store = c.args.store in
    let marks = c.args.marks.now.items in
    let pages = page_at c.args.pages.now.items in
    let bodies = bodies_of header.generation header.llsn pages in
    let file = g.D.Disk.seen c.args.disk.now in
    let later = λ (n : ℕ). side_counts_not store header.generation header.llsn pages n c.requires.generation c.requires.header.generation in
    let start = none_passed store marks bodies file (g.D.Disk.image c.args.disk.now) room only in
    let shut = c.in_ok-make_pass.ensures in
    let tells_shut : IsTrue (g.D.Disk.tells c.make_pass.new.disk) = subst (λ b. IsTrue b) (sym shut.tells) tells in
    let fill = then_fill store marks bodies file (g.D.Disk.seen c.make_pass.new.disk) (g.D.Disk.image c.make_pass.new.disk) c.requires.marks (shut.safe tells) (shut.kept tells file start) (shut.done tells file start) in
    passed_beside Fill store marks bodies file image later ((c.in_err-make_pass-2.ensures.kept tells_shut file fill).leaves image left)

pub returns-clause-left : goal.returns-clause-left
returns-clause-left g c = λ tells. λ room. λ only. λ image. λ left.
    let header = c.args.header.now in
    let store = c.args.store in
    let marks = c.args.marks.now.items in
    let pages = page_at c.args.pages.now.items in
    let bodies = bodies_of header.generation header.llsn pages in
    let file = g.D.Disk.seen c.args.disk.now in
    let later = λ (n : ℕ). side_counts_not store header.generation header.llsn pages n c.requires.generation c.requires.header.generation in
    let start = none_passed store marks bodies file (g.D.Disk.image c.args.disk.now) room only in
    let shut = c.in_ok-make_pass.ensures in
    let tells_shut : IsTrue (g.D.Disk.tells c.make_pass.new.disk) = subst (λ b. IsTrue b) (sym shut.tells) tells in
    let fill = then_fill store marks bodies file (g.D.Disk.seen c.make_pass.new.disk) (g.D.Disk.image c.make_pass.new.disk) c.requires.marks (shut.safe tells) (shut.kept tells file start) (shut.done tells file start) in
    let filled = c.in_ok-make_pass-2.ensures in
    let tells_filled : IsTrue (g.D.Disk.tells c.make_pass-2.new.disk) = subst (λ b. IsTrue b) (sym filled.tells) tells_shut in
    let opening = then_open store marks bodies file (g.D.Disk.seen c.make_pass-2.new.disk) (g.D.Disk.image c.make_pass-2.new.disk) c.requires.marks (filled.safe tells_shut) (filled.kept tells_shut file fill) (filled.done tells_shut file fill) in
    passed_beside Open store marks bodies file image later ((c.make_pass-3.ensures.kept tells_filled file opening).leaves image left)

pub returns-clause-done : goal.returns-clause-done
returns-clause-done g c = λ tells. λ room. λ only.
    let header = c.args.header.now in
    let store = c.args.store in
    let marks = c.args.marks.now.items in
    let pages = page_at c.args.pages.now.items in
    let bodies = bodies_of header.generation header.llsn pages in
    let file = g.D.Disk.seen c.args.disk.now in
    let later = λ (n : ℕ). side_counts_not store header.generation header.llsn pages n c.requires.generation c.requires.header.generation in
    let start = none_passed store marks bodies file (g.D.Disk.image c.args.disk.now) room only in
    let shut = c.in_ok-make_pass.ensures in
    let tells_shut : IsTrue (g.D.Disk.tells c.make_pass.new.disk) = subst (λ b. IsTrue b) (sym shut.tells) tells in
    let fill = then_fill store marks bodies file (g.D.Disk.seen c.make_pass.new.disk) (g.D.Disk.image c.make_pass.new.disk) c.requires.marks (shut.safe tells) (shut.kept tells file start) (shut.done tells file start) in
    let filled = c.in_ok-make_pass-2.ensures in
    let tells_filled : IsTrue (g.D.Disk.tells c.make_pass-2.new.disk) = subst (λ b. IsTrue b) (sym filled.tells) tells_shut in
    let opening = then_open store marks bodies file (g.D.Disk.seen c.make_pass-2.new.disk) (g.D.Disk.image c.make_pass-2.new.disk) c.requires.marks (filled.safe tells_shut) (filled.kept tells_shut file fill) (filled.done tells_shut file fill) in
    let reads = (c.make_pass-3.ensures.kept tells_filled file opening).reads in
    on_ok_weaker c.make_pass-3.result (λ opened.
    all_written store header.generation header.llsn marks pages file (g.D.Disk.seen c.make_pass-3.new.disk) c.requires.header.generation_least c.requires.header.generation c.requires.marks reads opened shut.pages)
    (c.make_pass-3.ensures.done tells_filled file opening)
