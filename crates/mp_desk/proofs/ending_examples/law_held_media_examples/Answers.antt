use Rattle.std.proofs.Common.{◌≡◌, ◌<◌, true, refl, subst, arith, sym, ◌∙◌}
use Rattle.std.proofs.lemmas.Bool.{false≢true}
use Rattle.mp_outside.specs.declared.disks.Disk.{Ghosts}
use Rattle.mp_supports.specs.Work.{Work}
use Rattle.mp_supports.specs.SmallParts.{part_before_steps}
use Rattle.mp_desk.specs.declared.media.Media.{Media}
use Rattle.mp_desk.specs.Making.{HoldsPartOf}
use Rattle.mp_desk.proofs.SmallMaking.{only_first}
use Rattle.mp_desk.proofs.ending_examples.law_held_media_examples.Goals as goal

none_held : {D : Type 0} (g : Ghosts D) (work : Work) (media : Media D) → media.unforced ≡ true → HoldsPartOf g work 0 1 media part_before_steps → ⊥
none_held g work media unforced h = let less : 0 < 0 = h.some_made unforced in omega (arith, less)

pub returns-clause-agree : goal.returns-clause-agree
returns-clause-agree g c = λ work media run holds q has. subst (HoldsPartOf g.D.Disk work 0 1 media) (only_first run part_before_steps 1 q has) holds

pub returns-clause-not_agree : goal.returns-clause-not_agree
returns-clause-not_agree g c = λ work media run unforced h. none_held g.D.Disk work media unforced (h part_before_steps refl)

pub returns-clause-holds : goal.returns-clause-holds
returns-clause-holds g c = λ work media base node forced on_disk. record { base = sym base; node = node; on_disk = on_disk; some_made = λ unforced. absurd (false≢true (sym forced ∙ unforced)) }

pub returns-clause-not_anothers_log : goal.returns-clause-not_anothers_log
returns-clause-not_anothers_log g c = λ work media node h. let same : 2 ≡ 1 = sym node ∙ h.node in omega (arith, same)

pub returns-clause-none_unforced : goal.returns-clause-none_unforced
returns-clause-none_unforced g c = λ work media unforced h. none_held g.D.Disk work media unforced h

pub returns-clause-somehow : goal.returns-clause-somehow
returns-clause-somehow g c = λ work media p n agree. (work, agree)

pub returns-clause-not_somehow : goal.returns-clause-not_somehow
returns-clause-not_somehow g c = λ media run unforced h. none_held g.D.Disk h.0 media unforced (h.1 part_before_steps refl)

pub returns-clause-committed : goal.returns-clause-committed
returns-clause-committed g c = λ work media p n agree. agree

pub returns-clause-not_committed : goal.returns-clause-not_committed
returns-clause-not_committed g c = λ work media run unforced h. none_held g.D.Disk work media unforced (h part_before_steps refl)
