use Rattle.std.proofs.Common.{◌≡◌, refl, ap, sym, ◌∙◌, inl, arith}
use Rattle.mp_core_trx.specs.declared.part.Begun.{Begun}
use Rattle.mp_core_trx.specs.Parts.{begun_of}
use Rattle.mp_script.specs.declared.statements.Stmt.TheVariants.{Begin}
use Rattle.mp_supports.specs.SmallParts.{own_trx, line_of}
use Rattle.mp_supports.proofs.SmallParts.{only_one}
use Rattle.mp_supports.proofs.examples.law_supports_begin_examples.Goals as goal

pub returns-clause-began : goal.returns-clause-began
returns-clause-began c = record {
  line = line_of 1 1 Begin;
  found = refl;
  reply = (begun_of own_trx 3, refl, refl, inl refl, refl, refl);
  waits = refl;
}

pub returns-clause-not_another_view : goal.returns-clause-not_another_view
returns-clause-not_another_view c = λ s.
    let reply = s.reply in
    let begun = only_one reply.0 (begun_of own_trx 3) reply.3 in
    let four : 3 ≡ 4 = sym (ap (λ (b : Begun). b.view) begun) ∙ reply.4 in
    omega (arith, four)
