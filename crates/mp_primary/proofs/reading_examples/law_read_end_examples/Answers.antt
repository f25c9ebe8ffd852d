use Rattle.std.proofs.Common.{◌≡◌, ℕ, List, Option, None, Some, refl, sym, ◌∙◌, inl, inr}
use Rattle.mp_model.specs.Listed.{Listed}
use Rattle.mp_model.specs.declared.key_value.KeyValue.{KeyValue}
use Rattle.mp_model.specs.declared.replies.Reply.{Reply}
use Rattle.mp_model.specs.declared.replies.Reply.TheVariants.{Got, Scanned, CommittedNone}
use Rattle.mp_core_trx.specs.declared.part.Begun.{Begun}
use Rattle.mp_core.specs.declared.part.CorePart.{CorePart}
use Rattle.mp_book.specs.declared.stage.Stage.{Stage}
use Rattle.mp_book.specs.declared.stage.Stage.TheVariants.{Closed, Open}
use Rattle.mp_book.specs.SmallBooks.{its_begun}
use Rattle.mp_desk.proofs.PutBackRows.{moves_quiet_none}
use Rattle.mp_primary.proofs.reading_examples.law_read_end_examples.Goals as goal

commit_not_got : (value : Option (List ℕ)) → CommittedNone ≡ Got value → ⊥
commit_not_got value e = cc

commit_not_scanned : (rows : Listed KeyValue) → CommittedNone ≡ Scanned rows → ⊥
commit_not_scanned rows e = cc

closed_not_open : (trx : Begun) → Closed ≡ Open trx → ⊥
closed_not_open trx e = cc

none_is_part : (r : CorePart) → ◌≡◌ {A = Option CorePart} None (Some r) → ⊥
none_is_part r e = cc

pub returns-clause-reads : goal.returns-clause-reads
returns-clause-reads c = inl (5, None, refl, refl)

pub returns-clause-not_a_commit : goal.returns-clause-not_a_commit
returns-clause-not_a_commit c = λ h. elim h [
  | inl got ↦ commit_not_got (got.1) got.3
  | inr scanned ↦ commit_not_scanned (scanned.2) scanned.4
]

pub returns-clause-finds : goal.returns-clause-finds
returns-clause-finds c = λ pr n line none is. record {
  trx = its_begun;
  stage = refl;
  reads = inl (5, None, is, refl);
  quiet = moves_quiet_none pr.number n;
  supported = λ r there. absurd (none_is_part r (sym none ∙ there));
}

pub returns-clause-finds_unopened : goal.returns-clause-finds_unopened
returns-clause-finds_unopened c = λ pr n line h. closed_not_open h.trx h.stage

pub returns-clause-stops : goal.returns-clause-stops
returns-clause-stops c = λ pr n none. record {
  trx = its_begun;
  stage = refl;
  quiet = moves_quiet_none pr.number n;
  cause = λ r there. absurd (none_is_part r (sym none ∙ there));
}

pub returns-clause-stops_unopened : goal.returns-clause-stops_unopened
returns-clause-stops_unopened c = λ pr n halt h. closed_not_open h.trx h.stage
