-- The side in force has no fault, so its header is one that a side may have.
use Rattle.std.proofs.Common.{◌≡◌, ◌<◌, ◌^◌, None, ap, sym, subst, ◌∙◌}
use Rattle.mp_store.specs.declared.headers.Header.{Header}
use Rattle.mp_store.specs.Layout.{pick}
use Rattle.mp_store.specs.HeaderSides.{IsHeader, header_fault}
use Rattle.mp_store.proofs.HeaderChecks.{header_sound, version_fits, header_is}
use Rattle.mp_store.proofs.checking.header_shown.Goals as goal

pub header_of-requires-clause-version : goal.header_of-requires-clause-version
header_of-requires-clause-version c =
    let sound = header_sound c.args.first.now c.args.second.now c.requires.sound in
    version_fits 0 c.args.first.now (ap (λ s. pick s (header_fault 0 c.args.first.now) (header_fault 64 c.args.second.now)) c.in-First.ensures ∙ sound)

pub header_of-requires-in-Second-clause-version : goal.header_of-requires-in-Second-clause-version
header_of-requires-in-Second-clause-version c =
    let sound = header_sound c.args.first.now c.args.second.now c.requires.sound in
    version_fits 64 c.args.second.now (ap (λ s. pick s (header_fault 0 c.args.first.now) (header_fault 64 c.args.second.now)) c.in-Second.ensures ∙ sound)

pub returns-in-First-clause-is : goal.returns-in-First-clause-is
returns-in-First-clause-is c =
    let sound = header_sound c.args.first.now c.args.second.now c.requires.sound in
    let side : header_fault 0 c.args.first.now ≡ None = ap (λ s. pick s (header_fault 0 c.args.first.now) (header_fault 64 c.args.second.now)) c.in-First.ensures ∙ sound in
    let is = c.header_of.ensures.header in
    subst IsHeader (sym is) (header_is 0 c.args.first.now side (subst (λ (h : Header). h.generation < 2 ^ 64) is c.header_of.ensures.fits))

pub returns-in-Second-clause-is : goal.returns-in-Second-clause-is
returns-in-Second-clause-is c =
    let sound = header_sound c.args.first.now c.args.second.now c.requires.sound in
    let side : header_fault 64 c.args.second.now ≡ None = ap (λ s. pick s (header_fault 0 c.args.first.now) (header_fault 64 c.args.second.now)) c.in-Second.ensures ∙ sound in
    let is = c.header_of-in-Second.ensures.header in
    subst IsHeader (sym is) (header_is 64 c.args.second.now side (subst (λ (h : Header). h.generation < 2 ^ 64) is c.header_of-in-Second.ensures.fits))
