-- A declaration is found, since there is one, and what is found passes the test.
use Rattle.std.proofs.Common.{◌+◌, ◌-◌, ◌≡◌, sym, ◌∙◌, arith}
use Rattle.mp_script.specs.declared.statements.SessionOn.{SessionOn}
use Rattle.mp_driver.specs.Driving.{is_on_member}
use Rattle.mp_driver.proofs.Tried.{found_one, none_found, on_passes, passes_on}
use Rattle.mp_driver.proofs.places.place_of.Goals as goal

pub overflow_sub-result : goal.overflow_sub-result
overflow_sub-result c =
    let found = found_one (λ (on : SessionOn). is_on_member on c.args.count c.args.session) c.args.sessions.now c.in-Some.on (sym c.declaration_of.ensures ∙ c.in-Some.is) in
    (passes_on c.in-Some.on c.args.count c.args.session found.1).1

pub unreachable-requires : goal.unreachable-requires
unreachable-requires c =
    let there = c.requires in
    none_found (λ (on : SessionOn). is_on_member on c.args.count c.args.session) c.args.sessions.now there.0 (sym c.declaration_of.ensures ∙ c.in-None.is) there.1
    (on_passes c.args.sessions.now c.args.count c.args.session there)

pub returns-clause-within : goal.returns-clause-within
returns-clause-within c =
    let found = found_one (λ (on : SessionOn). is_on_member on c.args.count c.args.session) c.args.sessions.now c.in-Some.on (sym c.declaration_of.ensures ∙ c.in-Some.is) in
    let passes = passes_on c.in-Some.on c.args.count c.args.session found.1 in
    let low = passes.1 in
    let high = passes.2 in
    omega (arith, low, high)

pub returns-clause-declared : goal.returns-clause-declared
returns-clause-declared c =
    let found = found_one (λ (on : SessionOn). is_on_member on c.args.count c.args.session) c.args.sessions.now c.in-Some.on (sym c.declaration_of.ensures ∙ c.in-Some.is) in
    let passes = passes_on c.in-Some.on c.args.count c.args.session found.1 in
    let low = passes.1 in
    let same : (c.in-Some.on).primary ≡ ((c.in-Some.on).primary - 1) + 1 = omega (arith, low) in
    (c.in-Some.on, found.0, passes.0, same)
