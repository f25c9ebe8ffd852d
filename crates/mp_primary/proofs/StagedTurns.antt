-- The session whose statement is tried, as its primary's method sees it.
use Rattle.std.proofs.Common.{◌≡◌, ℕ, ◌<◌, List, length, get_or, slice_get, Option, None, Some, refl, sym, ap, subst, ◌∙◌}
use Rattle.std.proofs.lemmas.Option.{slice_get_within, get_or_from_slice_get}
use Rattle.mp_book.specs.declared.session.Session.{Session}
use Rattle.mp_script.specs.declared.statements.Line.{Line}
use Rattle.mp_book.specs.declared.stage.Stage.{Stage}
use Rattle.mp_book.specs.declared.stage.Stage.TheVariants.{Closed, Open, Refused, Leaving, Skipping, Outside}
use Rattle.mp_book.specs.declared.stage.Task.{Task}
use Rattle.mp_book.specs.declared.stage.Task.TheVariants.{Statement}
use Rattle.mp_book.specs.Stages.{next_line, task_by, task_of}
use Rattle.mp_book.specs.Books.{IsGoingBack}
use Rattle.mp_primary.specs.Primaries.{PrimaryView}
use Rattle.mp_primary.specs.Turns.{IsSessionOf}

module _ {D : Type 0} (inside old : PrimaryView D) (view : inside ≡ old) (number : ℕ) (s : Session) (found : IsSessionOf old number s) where
  found_inside : slice_get inside.book.sessions.items number ≡ Some s
  found_inside = ap (λ (v : PrimaryView D). slice_get v.book.sessions.items number) view ∙ found

  pub place_below : number < length inside.book.sessions.items
  place_below = slice_get_within inside.book.sessions.items number s found_inside

  pub up_outside : inside.down ≡ 0 → old.down ≡ 0
  up_outside up = sym (ap (λ (v : PrimaryView D). v.down) view) ∙ up

  module _ (x : Session) (is : x ≡ get_or inside.book.sessions.items number x) where
    pub its_session : s ≡ x
    its_session = sym (get_or_from_slice_get inside.book.sessions.items number s x found_inside) ∙ sym is

    pub its_stage : (stage : Stage) → x.stage ≡ stage → s.stage ≡ stage
    its_stage stage at = ap (λ (v : Session). v.stage) its_session ∙ at

    pub goes_back : (stage : Stage) → x.stage ≡ stage → IsGoingBack stage → IsGoingBack s.stage
    goes_back stage at back = subst IsGoingBack (sym (its_stage stage at)) back

    pub its_task : (task : Task) → task ≡ task_of x → (is_so : Task) → task ≡ is_so → task_of s ≡ is_so
    its_task task of_x is_so so = ap (λ (v : Session). task_of v) its_session ∙ sym of_x ∙ so

-- a session that is to answer this statement has it next
stated_next : (o : Option Line) (stage : Stage) (line : Line) → task_by o stage ≡ Statement line → o ≡ Some line
stated_next (Some other) stage line e = cc
stated_next None Closed line e = absurd cc
stated_next None (Open trx) line e = absurd cc
stated_next None (Refused trx refusal) line e = absurd cc
stated_next None (Leaving trx) line e = absurd cc
stated_next None Skipping line e = absurd cc
stated_next None (Outside trx) line e = absurd cc

pub next_stated : (s : Session) (line : Line) → task_of s ≡ Statement line → next_line s ≡ Some line
next_stated s line e = stated_next (next_line s) s.stage line e
