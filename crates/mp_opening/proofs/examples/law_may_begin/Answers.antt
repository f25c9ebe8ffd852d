-- A fresh store is clean, and has reached nothing.
use Rattle.std.proofs.Common.{◌≡◌, ◌-◌, ◌^◌, Option, Some, None, refl, sym, ap, ◌∙◌, arith}
use Rattle.mp_store.specs.declared.headers.Header.{Header}
use Rattle.mp_store.proofs.CleanFiles.{fresh_is_clean_store}
use Rattle.mp_opening.specs.declared.refusals.ClusterRefusal.{ClusterRefusal}
use Rattle.mp_opening.specs.declared.refusals.ClusterRefusal.TheVariants as cluster
use Rattle.mp_opening.specs.declared.refusals.SpentNumber.TheVariants as spent
use Rattle.mp_opening.specs.Openings.{first_spent}
use Rattle.mp_opening.proofs.examples.law_may_begin.Goals as goal

pub returns-clause-fresh : goal.returns-clause-fresh
returns-clause-fresh c = λ store fresh. record {
  clean = record {
    store = fresh_is_clean_store store fresh;
    logs = (refl, (refl, (refl, (refl, (refl, (refl, (refl, (refl, tt))))))));
    none = refl;
  };
  unspent = ap (λ (h : Header). first_spent h 10000) fresh.header;
}

pub returns-clause-recovered : goal.returns-clause-recovered
returns-clause-recovered c = λ before after begins recovered unspent. record { clean = recovered.clean; unspent = unspent }

pub returns-clause-not_spent : goal.returns-clause-not_spent
returns-clause-not_spent c = λ image is may.
    let no : ◌≡◌ {A = Option ClusterRefusal} None (Some (cluster.Spent spent.Versions (2 ^ 24 - 1) 1)) = sym may.unspent ∙ ap (λ (h : Header). first_spent h 1) is in absurd cc

pub returns-clause-clean : goal.returns-clause-clean
returns-clause-clean c = λ store begins fresh refused. refused.2 (fresh_is_clean_store store fresh).clean

pub returns-clause-not_opened : goal.returns-clause-not_opened
returns-clause-not_opened c = λ image opened is opens.
    let no : ◌≡◌ {A = Option ClusterRefusal} None (Some (cluster.Spent spent.Versions (2 ^ 24 - 1) 1)) = sym opens.0.unspent ∙ ap (λ (h : Header). first_spent h 1) is in absurd cc

pub returns-clause-serves : goal.returns-clause-serves
returns-clause-serves c = λ image is refused.
    let no : ◌≡◌ {A = Option ClusterRefusal} None (Some (cluster.Spent spent.Versions 0 1)) = sym (ap (λ (h : Header). first_spent h 1) is) ∙ refused.1 in absurd cc

pub returns-clause-log_nine : goal.returns-clause-log_nine
returns-clause-log_nine c = λ image begins place refused. absurd (omega (arith, refused.1.0.1, refused.1.0.2))
