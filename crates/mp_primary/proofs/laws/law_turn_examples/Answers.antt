use Rattle.std.proofs.Common.{List, [], slice_get, None, refl, sym, ap, subst, ◌∙◌, arith, append-nil}
use Rattle.mp_book.specs.declared.session.Session.{Session}
use Rattle.mp_book.specs.declared.stage.Stage.TheVariants.{Outside}
use Rattle.mp_book.specs.SmallBooks.{session_with}
use Rattle.mp_supports.specs.Kept.{Entry, answers_in}
use Rattle.mp_primary.specs.Primaries.{PrimaryAgrees}
use Rattle.mp_primary.proofs.OpenSessions.{one_of}
use Rattle.mp_model.specs.declared.waiting.Turn.TheVariants.{Done}
use Rattle.mp_primary.proofs.QuietTurns.{done_turn}
use Rattle.mp_primary.proofs.TakenTurns.{taken_still}
use Rattle.mp_primary.proofs.SmallPrimaries.{not_false, one_is_none}
use Rattle.mp_primary.proofs.laws.law_turn_examples.Goals as goal

pub returns-clause-done : goal.returns-clause-done
returns-clause-done g c = λ run pr n session stands told up nothing may. taken_still g.D.Disk run pr pr n session Done stands told (done_turn g.D.Disk run pr n stands session may up nothing) refl tt

pub returns-clause-not_done : goal.returns-clause-not_done
returns-clause-not_done g c = λ run pr n session down h. let up = (h.done.0 refl).0 in absurd (omega (arith, up, down))

pub returns-clause-not_with_something_left : goal.returns-clause-not_with_something_left
returns-clause-not_with_something_left g c = λ run pr n session some h. not_false (sym (h.done.0 refl).1 ∙ some)

pub returns-clause-not_stopped : goal.returns-clause-not_stopped
returns-clause-not_stopped g c = λ run pr n session up h. let down = (h.stopped.0 1 refl).0 in absurd (omega (arith, up, down))

pub returns-clause-goes_on : goal.returns-clause-goes_on
returns-clause-goes_on g c = λ pr n session entries agrees. record {
  more = [];
  agrees = λ q has. subst (λ (l : List Entry). PrimaryAgrees g.D.Disk pr l q) (sym (append-nil entries)) (agrees q has);
  adds = refl;
  later = tt;
}

pub returns-clause-drops_none : goal.returns-clause-drops_none
returns-clause-drops_none g c = λ old new n q a has none h. one_is_none a (answers_in h.more) ((h.agrees q has).answers ∙ none)

pub returns-clause-may_not_go_on : goal.returns-clause-may_not_go_on
returns-clause-may_not_go_on g c = λ run old new n turn is h.
    let may = h.may_go_on in
    may.inside None (ap (λ (s : Session). s.stage) (one_of (slice_get new.book.sessions.items 0) (session_with 0 (Outside None) []) may.session (ap (λ (l : List Session). slice_get l 0) is) may.found))

pub returns-clause-tells_still : goal.returns-clause-tells_still
returns-clause-tells_still g c = λ run old new n session turn told silent h. not_false (sym told ∙ sym h.tells ∙ silent)

pub returns-clause-no_room : goal.returns-clause-no_room
returns-clause-no_room g c = λ run pr n s line none h. let room = h.room.answer in absurd (omega (arith, room, none))

pub returns-clause-no_room_to_stop : goal.returns-clause-no_room_to_stop
returns-clause-no_room_to_stop g c = λ run pr n s line none h. let room = h.room in absurd (omega (arith, room, none))

pub returns-clause-tries_down : goal.returns-clause-tries_down
returns-clause-tries_down g c = λ run pr n stmt down h. let up = h.up in absurd (omega (arith, up, down))
