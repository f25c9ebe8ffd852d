use Rattle.std.proofs.Common.{slice_get, List, sym, ap, subst, ◌∙◌, arith}
use Rattle.mp_machine.specs.Lists.{IsIn}
use Rattle.mp_model.specs.declared.ids.TrxName.{TrxName}
use Rattle.mp_primary.proofs.BeginPlaced.{name_by}
use Rattle.mp_primary.proofs.BegunTurns.{inside_named, inside_may_begin, inside_version_fits, inside_slot_turn, inside_began_turn, inside_next}
use Rattle.mp_primary.proofs.primary.Primary.begin_trx.Goals as goal

pub place_of-place-requires : goal.place_of-place-requires
place_of-place-requires g c =
    let own = c.requires.comes in
    subst (λ (l : List TrxName). IsIn (name_by c.args.number c.args.line.index) l) (sym c.as_slice.ensures)
    (inside_named g.D.Disk _ c.args.self.now c.self.view_is c.args.shared.now c.args.node.now c.args.number own.0 c.args.line own.1 c.requires.up own.2)

pub overflow_cast-version : goal.overflow_cast-version
overflow_cast-version g c =
    let own = c.requires.comes in
    let fits = inside_version_fits g.D.Disk _ c.args.self.now c.self.view_is c.args.shared.now c.args.node.now c.args.number own.0 c.args.line own.1 c.requires.up own.2 c.place_of-place.result (ap (λ (l : List TrxName). slice_get l c.place_of-place.result) (sym c.as_slice.ensures) ∙ c.place_of-place.ensures.its) in
    omega (arith, fits)

pub overflow_add-version : goal.overflow_add-version
overflow_add-version g c =
    let own = c.requires.comes in
    let fits = inside_version_fits g.D.Disk _ c.args.self.now c.self.view_is c.args.shared.now c.args.node.now c.args.number own.0 c.args.line own.1 c.requires.up own.2 c.place_of-place.result (ap (λ (l : List TrxName). slice_get l c.place_of-place.result) (sym c.as_slice.ensures) ∙ c.place_of-place.ensures.its) in
    omega (arith, fits)

pub overflow_add-version-2 : goal.overflow_add-version-2
overflow_add-version-2 g c =
    let own = c.requires.comes in
    let fits = inside_version_fits g.D.Disk _ c.args.self.now c.self.view_is c.args.shared.now c.args.node.now c.args.number own.0 c.args.line own.1 c.requires.up own.2 c.place_of-place.result (ap (λ (l : List TrxName). slice_get l c.place_of-place.result) (sym c.as_slice.ensures) ∙ c.place_of-place.ensures.its) in
    omega (arith, fits)

pub begin-requires-clause-may : goal.begin-requires-clause-may
begin-requires-clause-may g c =
    let own = c.requires.comes in
    inside_may_begin g.D.Disk _ c.args.self.now c.self.view_is c.args.shared.now c.args.node.now c.args.number own.0 c.args.line own.1 c.requires.up own.2 c.place_of-place.result (ap (λ (l : List TrxName). slice_get l c.place_of-place.result) (sym c.as_slice.ensures) ∙ c.place_of-place.ensures.its)

pub answer_begin-requires-clause-next : goal.answer_begin-requires-clause-next
answer_begin-requires-clause-next g c =
    let own = c.requires.comes in
    inside_next g.D.Disk _ c.args.self.now c.self.view_is c.args.shared.now c.args.node.now c.args.number own.0 c.args.line own.1 c.requires.up own.2 c.in-Ok.trx

pub returns-in-Ok : goal.returns-in-Ok
returns-in-Ok g c =
    let own = c.requires.comes in
    inside_began_turn g.D.Disk _ c.args.self.now c.self.view_is c.args.shared.now c.args.node.now c.args.number own.0 c.args.line own.1 c.requires.up own.2 c.place_of-place.result (ap (λ (l : List TrxName). slice_get l c.place_of-place.result) (sym c.as_slice.ensures) ∙ c.place_of-place.ensures.its)
    c.begin.new.node c.in-Ok.trx c.answer_begin.new.self c.in-Ok.ensures.begun.1 c.in-Ok.ensures.becomes c.in-Ok.ensures.begun.3 c.begin.ensures.reached c.answer_begin.ensures.answered c.answer_begin.ensures.book c.in-Ok.ensures.newest c.in-Ok.ensures.exact

pub returns-in-Err : goal.returns-in-Err
returns-in-Err g c =
    let own = c.requires.comes in
    inside_slot_turn g.D.Disk _ c.args.self.now c.self.view_is c.args.shared.now c.args.node.now c.args.number own.0 c.args.line own.1 c.requires.up own.2 c.begin.new.node c.in-Err.ensures.refused c.in-Err.wait c.in-Err.ensures.only
