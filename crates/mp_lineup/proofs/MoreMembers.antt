-- A primary more is made over the first of the logs that are left.
use Rattle.std.proofs.Common.{◌≡◌, ℕ, ◌+◌, ◌<◌, List, [], ◌∷◌, ◌++◌, length, map, get_or, slice_get, Some, refl, sym, ap, subst, ◌∙◌, ⊎_elim, arith, append_assoc}
use Rattle.std.specs.List.{remove}
use Rattle.std.proofs.lemmas.List.{length-map, map_push}
use Rattle.mp_book.proofs.Items.{after_push}
use Rattle.mp_outside.specs.declared.disks.Disk.{Ghosts}
use Rattle.mp_log.specs.Tails.{LogView}
use Rattle.mp_supports.specs.Work.{Work}
use Rattle.mp_opening.specs.Openings.{IsLogFrom, IsLogFromAt}
use Rattle.mp_primary.specs.Primaries.{PrimaryView}
use Rattle.mp_lineup.specs.NewMembers.{IsNewMember, AreNewMembers}

pub first_and_rest : {X : Type 0} (xs rest : List X) (x : X) → 0 < length xs → x ≡ get_or xs 0 x → rest ≡ remove xs 0 → xs ≡ x ∷ rest
first_and_rest [] rest x some is behind = absurd (omega (arith, some))
first_and_rest (y ∷ ys) rest x some is behind = ap (λ z. z ∷ ys) (sym is) ∙ ap (λ l. x ∷ l) (sym behind)

at_behind : {X : Type 0} (xs ys : List X) (y : X) → slice_get (xs ++ y ∷ ys) (length xs) ≡ Some y
at_behind [] ys y = refl
at_behind (x ∷ xs) ys y = at_behind xs ys y

pub members_push : {D : Type 0} (g : Ghosts D) (work : Work) (primaries : List (PrimaryView D)) (pr : PrimaryView D) → AreNewMembers g work primaries → IsNewMember g work (length primaries + 1) pr
    → AreNewMembers g work (primaries ++ pr ∷ [])
members_push g work primaries pr each last place x at = ⊎_elim
    (λ here. subst (λ (k : ℕ). IsNewMember g work (k + 1) x) (sym here.0) (subst (IsNewMember g work (length primaries + 1)) (sym here.1) last))
    (λ before. each place x before)
    (after_push primaries pr place x at)

module _ {D : Type 0} (primaries : List (PrimaryView D)) (whole logs rest : List (LogView D)) (log : LogView D) (so_far : map (λ pr. pr.media.log) primaries ++ logs ≡ whole) (first : logs ≡ log ∷ rest) where
  pub with_first : map (λ pr. pr.media.log) primaries ++ log ∷ rest ≡ whole
  with_first = ap (λ l. map (λ pr. pr.media.log) primaries ++ l) (sym first) ∙ so_far

  pub logs_push : (pr : PrimaryView D) → pr.media.log ≡ log → map (λ pr. pr.media.log) (primaries ++ pr ∷ []) ++ rest ≡ whole
  logs_push pr its =
      ap (λ l. l ++ rest) (map_push (λ (x : PrimaryView D). x.media.log) primaries pr ∙ ap (λ x. map (λ pr. pr.media.log) primaries ++ x ∷ []) its)
      ∙ append_assoc (map (λ pr. pr.media.log) primaries) (log ∷ []) rest ∙ with_first

  pub log_from : (g : Ghosts D) (base place : ℕ) → length primaries ≡ place → IsLogFromAt g base whole place → IsLogFrom g base (place + 1) log
  log_from g base place count from =
      let at = at_behind (map (λ pr. pr.media.log) primaries) rest log in
      let long : length (map (λ pr. pr.media.log) primaries) ≡ place = length-map primaries (λ (x : PrimaryView D). x.media.log) ∙ count in
      from log (subst (λ (k : ℕ). slice_get whole k ≡ Some log) long (subst (λ l. slice_get l (length (map (λ pr. pr.media.log) primaries)) ≡ Some log) with_first at))
