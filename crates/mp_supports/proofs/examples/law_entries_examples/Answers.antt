use Rattle.std.proofs.Common.{◌≡◌, ◌≤◌, true, false, List, length, refl, sym, ap, ◌∙◌, arith}
use mathlib.Core.Bool.{false≢true}
use Rattle.mp_core_trx.specs.declared.part.Begun.{Begun}
use Rattle.mp_supports.specs.SmallParts.{part_before_steps}
use Rattle.mp_supports.proofs.Extending.{core_extends_refl}
use Rattle.mp_supports.proofs.examples.law_entries_examples.Goals as goal

pub returns-clause-nothing_kept : goal.returns-clause-nothing_kept
returns-clause-nothing_kept c = record { supported = tt; traced = tt; began = refl; drew = refl; made = refl; after = tt; in_doubt = tt; up = λ up. tt }

pub returns-clause-not_without_its_begin : goal.returns-clause-not_without_its_begin
returns-clause-not_without_its_begin c = λ k. let count : 0 ≡ 1 = ap (λ (b : List Begun). length b) k.began in omega (arith, count)

pub returns-clause-did_nothing : goal.returns-clause-did_nothing
returns-clause-did_nothing c = record { extends = core_extends_refl part_before_steps; traced = record { pages = tt; began = tt; drew = tt; mtr = tt }; began = refl; drew = refl; made = refl; since = tt; later = tt }

pub returns-clause-did_not_begin : goal.returns-clause-did_not_begin
returns-clause-did_not_begin c = λ d. let count : 0 ≡ 1 = ap (λ (b : List Begun). length b) d.began in omega (arith, count)

pub returns-clause-may_be_kept : goal.returns-clause-may_be_kept
returns-clause-may_be_kept c = record { supported = tt; in_doubt = tt; up = λ up. tt }

pub returns-clause-no_stop_while_up : goal.returns-clause-no_stop_while_up
returns-clause-no_stop_while_up c = λ m. false≢true (sym (m.up refl))

pub returns-clause-stays : goal.returns-clause-stays
returns-clause-stays c = core_extends_refl part_before_steps

pub returns-clause-forgets_nothing : goal.returns-clause-forgets_nothing
returns-clause-forgets_nothing c = λ e. let durable : 1 ≤ 0 = e.durable in omega (arith, durable)

pub returns-clause-looked : goal.returns-clause-looked
returns-clause-looked c = record { extends = core_extends_refl part_before_steps; begun = refl; rows = refl; drew = refl; made = refl; durables = refl }

pub returns-clause-not_looked : goal.returns-clause-not_looked
returns-clause-not_looked c = λ l. let count : 1 ≡ 0 = ap (λ (b : List Begun). length b) l.begun in omega (arith, count)
