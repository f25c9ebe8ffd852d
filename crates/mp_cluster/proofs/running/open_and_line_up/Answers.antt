use Rattle.std.proofs.Common.{◌≤◌, List, length, refl, sym, ap, subst, ◌∙◌}
use Rattle.std.proofs.lemmas.Result.{err_from_is_err_and}
use Rattle.mp_script.specs.declared.statements.Line.{Line}
use Rattle.mp_script.specs.BeginNames.{begin_names}
use Rattle.mp_lineup.proofs.FirstLogs.{few_lines}
use Rattle.mp_cluster.proofs.RunsOverDisks.{refused_over, may_line_up, not_lined_up, lines_up_over}
use Rattle.mp_cluster.proofs.running.open_and_line_up.Goals as goal

pub count_begins-begins-requires : goal.count_begins-begins-requires
count_begins-begins-requires g c = subst (λ (lines : List Line). length lines ≤ 10000) (sym c.as_slice.ensures) (few_lines c.args.script.now c.requires.spelled)

pub returns-in_err-opened-clause-refused : goal.returns-in_err-opened-clause-refused
returns-in_err-opened-clause-refused g c =
    let returned = err_from_is_err_and c.from_residual.result c.from_residual.ensures.1 in
    rw (returned.1, returned.2) (refused_over g.D.Disk c.args.script.now c.args.disks.now c.open_nine.new.disks c.count_begins-begins.result c.in_err-opened.field-0.0
    (c.count_begins-begins.ensures ∙ ap (λ (lines : List Line). length (begin_names lines)) c.as_slice.ensures)
    c.in_err-opened.ensures.finds c.in_err-opened.ensures.untouched c.in_err-opened.ensures.cause)

pub line_up-requires-clause-may : goal.line_up-requires-clause-may
line_up-requires-clause-may g c =
    may_line_up g.D.Disk c.args.script.now c.args.disks.now c.open_nine.new.disks c.in_ok-opened.opened c.count_begins-begins.result
    (c.count_begins-begins.ensures ∙ ap (λ (lines : List Line). length (begin_names lines)) c.as_slice.ensures)
    c.requires.eight c.in_ok-opened.ensures.finds c.in_ok-opened.ensures.opened c.requires.spelled c.in_ok-opened.ensures.fit

pub returns-in_default-clause-refused : goal.returns-in_default-clause-refused
returns-in_default-clause-refused g c =
    not_lined_up g.D.Disk c.args.script.now c.args.disks.now c.open_nine.new.disks c.in_ok-opened.opened c.count_begins-begins.result
    (c.count_begins-begins.ensures ∙ ap (λ (lines : List Line). length (begin_names lines)) c.as_slice.ensures)
    c.requires.eight c.in_ok-opened.ensures.finds c.in_ok-opened.ensures.opened (record { store = c.open_nine.new.disks.store; logs = c.line_up.new.disks }) refl c.in_default.ensures.put_back

pub returns-clause-lined_up : goal.returns-clause-lined_up
returns-clause-lined_up g c =
    let of = c.in-Ok.ensures in
    lines_up_over g.D.Disk c.args.script.now c.args.disks.now c.open_nine.new.disks c.in_ok-opened.opened c.count_begins-begins.result
    (c.count_begins-begins.ensures ∙ ap (λ (lines : List Line). length (begin_names lines)) c.as_slice.ensures)
    c.requires.eight c.in_ok-opened.ensures.finds c.in_ok-opened.ensures.opened
    c.in-Ok.members of.runs of.opening of.logs of.up (record { store = c.open_nine.new.disks.store; logs = c.line_up.new.disks }) refl of.untouched
