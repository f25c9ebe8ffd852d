-- What putting back the rows of a session's transaction asks of a primary that stands.
use Rattle.std.proofs.Common.{◌≡◌, ℕ, zero, suc, ◌+◌, ◌≤◌, List, [], ◌∷◌, length, drop, slice_get, sum_by, Option, Some, IfSome, refl, ap, subst, ⊎_elim, arith}
use Rattle.std.proofs.lemmas.List.Sums.{sum_by-cons}
use Rattle.mp_machine.specs.View.{part_in}
use Rattle.mp_core_trx.specs.declared.part.Begun.{Begun}
use Rattle.mp_core_trx.specs.declared.slot.SlotTag.TheVariants.{Active}
use Rattle.mp_core_trx.specs.Parts.{HasBegun, Shows}
use Rattle.mp_core_pages.specs.declared.opening.TheConstants.{MOST_MTRS}
use Rattle.mp_core.specs.declared.part.CorePart.{CorePart}
use Rattle.mp_book.specs.declared.session.Session.{Session}
use Rattle.mp_outside.specs.declared.disks.Disk.{Ghosts}
use Rattle.mp_shared.specs.Nodes.{Run, NodeView}
use Rattle.mp_buffer_fusion.proofs.Visiting.{one_part}
use Rattle.mp_supports.specs.Agreement.{IsOpenAs, rows_left, rows_left_by}
use Rattle.mp_supports.proofs.Places.{at_place}
use Rattle.mp_desk.specs.Making.{HoldsPartOf, MediaAgree, MediaAgreeSomehow, IsOpenLog}
use Rattle.mp_desk.specs.Writes.{HasFormers}
use Rattle.mp_primary.specs.Primaries.{PrimaryView, StandsWith}
use Rattle.mp_primary.specs.GoingOn.{GoesBackOf}
use Rattle.mp_primary.proofs.FewMtrs.{most_with_rows}
use Rattle.mp_primary.proofs.OpenTrx.{open_part, open_has}

the_first : {X : Type 0} (z x : X) → Some z ≡ Some x → z ≡ x
the_first z x e = cc

-- one of a sum is no more than the sum
sum_one : {X : Type 0} (f : X → ℕ) (xs : List X) (i : ℕ) (x : X) → slice_get xs i ≡ Some x → f x ≤ sum_by f xs
sum_one f [] i x e = absurd cc
sum_one f (z ∷ zs) zero x e = let same : f z ≡ f x = ap f (the_first z x e) in let sum = sum_by-cons f z zs in omega (arith, same, sum)
sum_one f (z ∷ zs) (suc i) x e = let rest = sum_one f zs i x e in let sum = sum_by-cons f z zs in omega (arith, rest, sum)

module _ {D : Type 0} (g : Ghosts D) (run : Run) (pr : PrimaryView D) (n : NodeView) (stands : StandsWith g run pr n) (up : pr.down ≡ 0) where
  pub media_up : MediaAgree g pr.work 0 pr.media pr.number n
  media_up q has = subst (λ (down : ℕ). HoldsPartOf g pr.work down pr.number pr.media q) up (stands.agrees.1 q has).media

  pub media_somehow : MediaAgreeSomehow g pr.media pr.number n
  media_somehow = (pr.work, media_up)

  pub log_up : IsOpenLog pr.number pr.desk.llsn pr.media.log
  log_up = let all = stands.primary.up up in all.0

  module _ (number : ℕ) (s : Session) (trx : Begun) (back : GoesBackOf pr number s trx) (q : CorePart) (has : part_in n.parts pr.number ≡ Some q) where
    opened : IsOpenAs pr.work q 0 s trx
    opened =
        let opens = (stands.agrees.1 q has).opens up in
        subst (λ (o : Option Begun). IfSome o (IsOpenAs pr.work q 0 s)) back.trx_is (opens.each s (at_place pr.book.sessions.items number s back.found))

    pub asks_open : HasBegun q.trx.begun trx.id × Shows q.trx.rows trx.id Active
    asks_open = ((trx.view, opened.begun), ⊎_elim (λ shown. shown) (λ down. absurd (down refl)) opened.active)

    pub asks_formers : HasFormers q trx.id (drop s.restored s.formers.items)
    asks_formers = opened.formers

    -- its rows have room
    pub asks_few : length q.pages.made + length (drop s.restored s.formers.items) ≤ MOST_MTRS
    asks_few =
        let most = most_with_rows g run pr n stands up in
        let one = sum_one rows_left pr.book.sessions.items number s back.found in
        let left : rows_left s ≡ length (drop s.restored s.formers.items) = ap (λ (o : Option Begun). rows_left_by o s) back.trx_is in
        let same : length (open_part g run pr n stands up).pages.made ≡ length q.pages.made = ap (λ (r : CorePart). length r.pages.made) (one_part (part_in n.parts pr.number) (open_part g run pr n stands up) q (open_has g run pr n stands up) has) in
        omega (arith, most, one, left, same)

  pub asks_within : (number : ℕ) (s : Session) (trx : Begun) → GoesBackOf pr number s trx → s.restored ≤ length s.formers.items
  asks_within number s trx back = (stands.primary.book.each number s back.found).restored
