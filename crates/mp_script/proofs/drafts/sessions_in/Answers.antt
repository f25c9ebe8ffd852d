-- Each entry is one more session.
use Rattle.std.proofs.Common.{arith, ◌≡◌, ◌∙◌, ap, sym, Some, Option, ℕ, ◌++◌, ◌∷◌, [], slice_get}
use Rattle.mp_script.proofs.Tallies.{sessions_of-take, sessions_of-all}
use Rattle.mp_script.proofs.drafts.sessions_in.Goals as goal

pub loop-i-preserved : goal.loop-i-preserved
loop-i-preserved c =
    let at : ◌≡◌ {A = Option (ℕ × ℕ)} (slice_get c.args.map.now.entries c.loop-i.i) (Some (c.in-Some.session.now, c.in-Some.primary.now)) = sym c.in-Some.ensures.entry in
    c.in_ok-push.ensures.ok ∙ ap (λ x. x ++ record { session = c.in-Some.session.now; primary = c.in-Some.primary.now } ∷ []) c.loop-i.invariant ∙ sym (sessions_of-take c.args.map.now.entries c.loop-i.i c.in-Some.session.now c.in-Some.primary.now at)

pub returns : goal.returns
returns c = c.loop-i.invariant ∙ sessions_of-all c.args.map.now.entries c.loop-i.i (omega arith)
