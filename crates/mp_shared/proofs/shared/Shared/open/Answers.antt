use Rattle.std.proofs.Common.{[], refl, sym, ap, ◌∙◌}
use lib.ListN.{get_elem?}
use Rattle.mp_core.specs.declared.words.TheConstants.{WORDS}
use Rattle.mp_machine.specs.Rule.{all_parts}
use Rattle.mp_core.specs.World.{core}
use Rattle.mp_shared.specs.Nodes.{opening_of}
use Rattle.mp_shared.proofs.Begins.{opens, kept_first}
use Rattle.mp_shared.proofs.shared.Shared.open.Goals as goal

pub new-requires : goal.new-requires
new-requires c = opens (opening_of c.args.base c.args.primaries c.args.begins c.of.result.value.items) WORDS _ _ refl (λ k within. ap (λ ws. get_elem? ws k) c.deref.ensures.value ∙ c.in_ok-words.ensures.words k within) (c.into_items.ensures ∙ ap (λ l. l.items) (sym c.of.ensures))

pub invariant_of-result : goal.invariant_of-result
invariant_of-result c =
    let key = c.in-Ok.ensures.table.2 ∙ ap (λ l. opening_of c.args.base c.args.primaries c.args.begins l.items) c.of.ensures in
    kept_first (opening_of c.args.base c.args.primaries c.args.begins c.args.pages.items) _ _ _ _ _ _ (ap (λ r. r.opening) c.of-run.ensures ∙ key) (ap (λ r. r.table_id) c.of-run.ensures ∙ sym c.in-Ok.ensures.seat.0) c.requires (ap (λ me. me.0) c.in-Ok.ensures.seat.1 ∙ ap (λ l. all_parts (core (opening_of c.args.base c.args.primaries c.args.begins l.items))) c.of.ensures) c.unused-counts.ensures.held c.unused-counts.ensures.others c.in_ok-locks.ensures.held c.in_ok-locks.ensures.others

pub returns-in-Ok-clause-reached : goal.returns-in-Ok-clause-reached
returns-in-Ok-clause-reached c =
    let key = c.in-Ok.ensures.table.2 ∙ ap (λ l. opening_of c.args.base c.args.primaries c.args.begins l.items) c.of.ensures in
    let kept =
    kept_first (opening_of c.args.base c.args.primaries c.args.begins c.args.pages.items) _ _ _ [] _ _ (ap (λ r. r.opening) c.of-run.ensures ∙ key) (ap (λ r. r.table_id) c.of-run.ensures ∙ sym c.in-Ok.ensures.seat.0) c.requires (ap (λ me. me.0) c.in-Ok.ensures.seat.1 ∙ ap (λ l. all_parts (core (opening_of c.args.base c.args.primaries c.args.begins l.items))) c.of.ensures) c.unused-counts.ensures.held c.unused-counts.ensures.others c.in_ok-locks.ensures.held c.in_ok-locks.ensures.others in
    record { fair = kept.fair; backed = kept.backed }
