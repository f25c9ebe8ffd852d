-- Line by line, what was read and what is left are the bytes; at the end they are the text of what was read.
use Rattle.std.proofs.Common.{◌∙◌, ◌-◌, length, Some, None, if◌then◌else◌, ap, sym}
use Rattle.mp_report.specs.Drafts.{draft_said}
use Rattle.mp_report.proofs.Halfway.{halfway_next, halfway_fault, halfway_missing, halfway_end, cut_shorter}
use Rattle.mp_report.proofs.Finished.{finished}
use Rattle.mp_report.proofs.StandsAfter.{not_faulty}
use Rattle.mp_report.proofs.TextsDiffer.{texts_differ}
use Rattle.mp_report.proofs.read.transcripts.read_transcript.Goals as goal

pub loop-text-smaller : goal.loop-text-smaller
loop-text-smaller c = cut_shorter c.loop-text.rest.now c.in-Some.text.now c.in-Some.below.now c.in-Some.ensures

pub loop-text-preserved : goal.loop-text-preserved
loop-text-preserved c =
    let d = c.loop-text.draft in
    let e = c.take.new.self in
    halfway_next c.args.bytes.now d.stand e.stand (draft_said d.transcript d.part) (draft_said e.transcript e.part) c.loop-text.rest.now c.in-Some.text.now c.in-Some.below.now c.loop-text.invariant c.in-Some.ensures
    (c.in_ok-take.ensures.stand ∙ ap (λ b. if b then Some e.stand else None) c.if-not-branch.false) (c.in_ok-take.ensures.reads c.if-not-branch.false)

pub returns-then-not-branch-clause-place : goal.returns-then-not-branch-clause-place
returns-then-not-branch-clause-place c =
    let d = c.loop-text.draft in
    halfway_fault c.args.bytes.now d.stand (draft_said d.transcript d.part) c.loop-text.rest.now c.in-Some.text.now c.in-Some.below.now c.loop-text.invariant c.in-Some.ensures
    (c.in_ok-take.ensures.stand ∙ ap (λ b. if b then Some c.take.new.self.stand else None) c.if-not-branch.true)

pub returns-then-not-branch-clause-only : goal.returns-then-not-branch-clause-only
returns-then-not-branch-clause-only c t is e = not_faulty c.args.bytes.now t (length c.args.bytes.now - length c.loop-text.rest.now) is e (returns-then-not-branch-clause-place c)

pub returns-then-not-is_whole-clause-place : goal.returns-then-not-is_whole-clause-place
returns-then-not-is_whole-clause-place c =
    let d = c.loop-text.draft in
    halfway_missing c.args.bytes.now d.stand (draft_said d.transcript d.part) c.loop-text.rest.now c.loop-text.invariant (sym c.in_default.ensures) (sym c.is_whole.ensures ∙ c.if-not-is_whole.true)

pub returns-then-not-is_whole-clause-only : goal.returns-then-not-is_whole-clause-only
returns-then-not-is_whole-clause-only c t is e = not_faulty c.args.bytes.now t (length c.args.bytes.now - length c.loop-text.rest.now) is e (returns-then-not-is_whole-clause-place c)

pub returns-clause-found : goal.returns-clause-found
returns-clause-found c =
    let d = c.loop-text.draft in
    let f = c.in_ok-finish.ensures in
    finished c.in_ok-finish.field-0 d.transcript d.part c.args.bytes.now (record { mode = f.0; base = f.1; parts = f.2; downs = ap (λ l. l.items) f.3; commits = f.4 })
    (halfway_end c.args.bytes.now d.stand (draft_said d.transcript d.part) c.loop-text.rest.now c.loop-text.invariant (sym c.is_whole.ensures ∙ c.if-not-is_whole.false))

pub returns-clause-only : goal.returns-clause-only
returns-clause-only c t is e = let f = returns-clause-found c in texts_differ c.in_ok-finish.field-0 t f.0 is (sym f.1 ∙ e)
