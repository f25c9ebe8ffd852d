-- What a turn leaves of its primary: whose turn may come next, that it is the same member, and when it is through.
use Rattle.std.proofs.Common.{◌≡◌, ◌≢◌, ℕ, zero, suc, ◌<◌, true, List, [], ◌∷◌, slice_get, Option, None, Some, refl, sym, ap, subst, ◌∙◌, inl, inr, ⊎_elim}
use Rattle.std.specs.Option.{IfSome}
use Rattle.std.proofs.lemmas.Bool.{cases_eq}
use Rattle.mp_model.specs.declared.waiting.Turn.{Turn}
use Rattle.mp_model.specs.declared.waiting.Turn.TheVariants as turns
use Rattle.mp_script.proofs.Options.{some_is, not_some}
use Rattle.mp_book.specs.Through.{have_no_task}
use Rattle.mp_outside.specs.declared.disks.Disk.{Ghosts}
use Rattle.mp_files.specs.Nine.{StillDisk}
use Rattle.mp_files.proofs.Nines.{StillDisk-refl}
use Rattle.mp_desk.specs.declared.media.Media.{Media}
use Rattle.mp_shared.specs.Nodes.{Run, NodeView}
use Rattle.mp_primary.specs.Primaries.{PrimaryView}
use Rattle.mp_primary.specs.Turns.{MayTakeTurn, TakesTurn, has_nothing_left}
use Rattle.mp_primary.specs.Answering.{have_no_line}
use Rattle.mp_primary.proofs.AllAnswered.{no_task_no_line}
use Rattle.mp_members.specs.Running.{IsThrough, IsSameMember}

-- two lists that have the same at each place
same_lists : {T : Type 0} (xs ys : List T) → ((place : ℕ) → slice_get xs place ≡ slice_get ys place) → xs ≡ ys
same_lists [] [] same = refl
same_lists [] (y ∷ ys) same = absurd (not_some y (same zero))
same_lists (x ∷ xs) [] same = absurd (not_some x (sym (same zero)))
same_lists (x ∷ xs) (y ∷ ys) same = let first = some_is x y (same zero) in let rest = same_lists xs ys (λ place. same (suc place)) in λ i. first i ∷ rest i

module _ {D : Type 0} where
  -- each session that may be named may take a turn, so the one that is named may
  pub may_named : (pr : PrimaryView D) (session : Option ℕ) → ((number : ℕ) → number < 65 → MayTakeTurn pr number)
      → IfSome session (λ number. number < 65) → IfSome session (MayTakeTurn pr)
  may_named pr None may low = tt
  may_named pr (Some number) may low = may number low

  -- a primary that has nothing left to do is through
  pub through_up : (pr : PrimaryView D) → have_no_task pr.book.sessions.items ≡ true → IsThrough pr
  through_up pr nothing = record { answered = no_task_no_line pr.book.sessions.items nothing; nothing = λ up. nothing }

  -- so is one that is down and has answered each statement
  pub through_down : (pr : PrimaryView D) → pr.down ≢ 0 → have_no_line pr.book.sessions.items ≡ true → IsThrough pr
  through_down pr down answered = record { answered = answered; nothing = λ up. absurd (down up) }

module _ {D : Type 0} (g : Ghosts D) (old new : PrimaryView D) where
  module _ (run : Run) (before after : NodeView) (session : Option ℕ) (turn : Turn) (takes : TakesTurn g run old new before after session turn) where
    -- a session that may take a turn may take one behind it
    pub may_turn_on : (number : ℕ) → MayTakeTurn old number → MayTakeTurn new number
    may_turn_on number may = by_session session refl
      where
        untouched : session ≢ Some number → MayTakeTurn new number
        untouched apart = record { session = may.session; found = takes.others number apart ∙ may.found; inside = may.inside }

        by_session : (o : Option ℕ) → session ≡ o → MayTakeTurn new number
        by_session None is = untouched (λ same. not_some number (sym is ∙ same))
        by_session (Some k) is = elim (cases_eq k number) [
          | inl same ↦ subst (λ (j : ℕ). MayTakeTurn new j) same (subst (λ (o : Option ℕ). IfSome o (λ (j : ℕ). MayTakeTurn new j)) is takes.may_go_on)
          | inr apart ↦ untouched (λ same. apart (some_is k number (sym is ∙ same)))
        ]

    -- behind a turn that was done, and named no session, it is through
    pub through_done : session ≡ None → turn ≡ turns.Done → IsThrough new
    through_done none done =
        let nothing : have_no_task old.book.sessions.items ≡ true = subst (λ (o : Option ℕ). has_nothing_left old o ≡ true) none (takes.done.0 done).1 in
        let same : new.book.sessions.items ≡ old.book.sessions.items =
        same_lists new.book.sessions.items old.book.sessions.items (λ k. takes.others k (λ named. not_some k (sym none ∙ named))) in
        through_up new (ap have_no_task same ∙ nothing)

    -- it is the same member
    pub same_behind : IsSameMember g old new
    same_behind = record {
      number = takes.number;
      work_is = takes.work;
      disk = record { tells = takes.tells; count = takes.faults };
      fell = λ own. ⊎_elim
          (λ (same : new.down ≡ old.down). inl (sym same ∙ own))
          (λ gone. ⊎_elim (λ here. inr here.1) (λ with_another. absurd (with_another.2.found.apart (own ∙ takes.number))) gone.1)
          takes.down;
      stays = λ was. ⊎_elim (λ same. same) (λ gone. absurd (was gone.0)) takes.down;
    }

  -- so it is where there was no memory for a turn
  pub same_without : new.media ≡ old.media → new.down ≡ old.down → new.number ≡ old.number → new.work ≡ old.work → IsSameMember g old new
  same_without media down number work = record {
    number = number;
    work_is = work;
    disk = subst (λ (x : Media D). StillDisk g old.media.log.disk x.log.disk) (sym media) (StillDisk-refl g old.media.log.disk);
    fell = λ own. inl (sym down ∙ own);
    stays = λ was. down;
  }
