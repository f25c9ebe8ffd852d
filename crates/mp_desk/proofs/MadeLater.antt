-- What a primary's part has more was made after all that the node's parts had made.
use Rattle.std.proofs.Common.{◌≡◌, ℕ, ◌<◌, ◌⊎◌, List, ◌∷◌, Some, refl, sym, ap, subst, ◌∙◌, inl, inr, ⊎_elim, arith}
use mathlib.Core.Logic.{dite}
use native.Mathlib.Decide.{ℕ_discrete}
use Rattle.mp_machine.specs.Lists.{IsIn}
use Rattle.mp_machine.specs.View.{part_in}
use Rattle.mp_cells.specs.declared.records.Mtr.{Mtr}
use Rattle.mp_model.specs.declared.ids.TrxId.{TrxId}
use Rattle.mp_core_trx.specs.declared.part.TrxPart.{TrxPart}
use Rattle.mp_core_trx.specs.Events.{with_prep, with_draw}
use Rattle.mp_core_trx.specs.Parts.{PartExtends}
use Rattle.mp_core_pages.specs.declared.part.Placed.{Placed}
use Rattle.mp_core.specs.declared.part.CorePart.{CorePart}
use Rattle.mp_core.specs.OwnMtrs.{TrxMtr, trx_mtrs}
use Rattle.mp_shared.specs.Nodes.{NodeView, HoldsPart}
use Rattle.mp_shared.proofs.Holding.{held_part}
use Rattle.mp_trx_fusion.specs.Calls.{with_trx}
use Rattle.mp_buffer_fusion.proofs.Visiting.{one_part}
use Rattle.mp_supports.specs.Steps.{MadeOne}
use Rattle.mp_desk.specs.Desks.{Moves}
use Rattle.mp_desk.specs.Making.{IsMadeAfter, MakesLater, AllForced, SomeForced}
use Rattle.mp_desk.proofs.Moving.{moves_as, moves_both}
use Rattle.mp_desk.proofs.TrxStepped.{trx_changed, extends_prep, extends_draw, trx_there, moves_trx}

-- nothing was made
abbrev pub MadeTheSame : CorePart → CorePart → Type 0
MadeTheSame q r = r.pages.made ≡ q.pages.made

pub same_some_forced : (q r : CorePart) → SomeForced q r → MadeTheSame q r
same_some_forced q r (inl same) = ap (λ (x : CorePart). x.pages.made) same
same_some_forced q r (inr forced) = forced.made

pub same_all_forced : (q r : CorePart) → AllForced q r → MadeTheSame q r
same_all_forced q r (durable, forced) = same_some_forced q r forced

module _ (p : ℕ) where
  -- an mtr that a part has is one that another has which made the same
  made_there : (q r : CorePart) → MadeTheSame q r → (m : TrxMtr) → IsIn m (trx_mtrs r.pages.made) → IsIn m (trx_mtrs q.pages.made)
  made_there q r same m made = subst (λ (l : List (Placed Mtr)). IsIn m (trx_mtrs l)) same made

  pub later_none : (a b : NodeView) → Moves MadeTheSame p a b → MakesLater p a b
  later_none a b moves q r has there m made =
      let now = moves.mine q has in
      let is = one_part (part_in b.parts p) now.0 r now.1 there in
      inl (made_there q now.0 now.2 m (subst (λ (x : CorePart). IsIn m (trx_mtrs x.pages.made)) (sym is) made))

  -- nothing was made behind
  pub later_last : (a b c : NodeView) → HoldsPart b p → Moves MadeTheSame p b c → MakesLater p a b → MakesLater p a c
  later_last a b c held moves was q r has there m made =
      let mid = held_part b p held in
      let now = moves.mine mid.0 mid.1 in
      let is = one_part (part_in c.parts p) now.0 r now.1 there in
      was q mid.0 has mid.1 m (made_there mid.0 now.0 now.2 m (subst (λ (x : CorePart). IsIn m (trx_mtrs x.pages.made)) (sym is) made))

  -- nothing was made before
  pub later_first : (a b c : NodeView) → Moves MadeTheSame p a b → MakesLater p b c → MakesLater p a c
  later_first a b c moves was q r has there m made =
      let mid = moves.mine q has in
      ⊎_elim (λ old. inl (made_there q mid.0 mid.2 m old)) (λ new. inr (before mid.0 mid.1 mid.2 new)) (was mid.0 r mid.1 there m made)
    where
      before : (s : CorePart) → part_in b.parts p ≡ Some s → MadeTheSame q s → ((k : ℕ) (o : CorePart) (x : Placed Mtr) → part_in b.parts k ≡ Some o → IsIn x o.pages.made → x.at < m.at)
          → (k : ℕ) (o : CorePart) (x : Placed Mtr) → part_in a.parts k ≡ Some o → IsIn x o.pages.made → x.at < m.at
      before s has_s same new k o x has_o made_x =
          dite (ℕ_discrete k p)
          (λ own.
          let is = one_part (part_in a.parts p) q o has (ap (part_in a.parts) (sym own) ∙ has_o) in
          new p s x has_s (subst (λ (l : List (Placed Mtr)). IsIn x l) (sym same) (subst (λ (y : CorePart). IsIn x y.pages.made) (sym is) made_x)))
          (λ other. new k o x (moves.others k other ∙ has_o) made_x)

  -- one mtr was made
  pub later_make : (x : Placed Mtr) (a b : NodeView) → Moves (MadeOne x) p a b → IsMadeAfter a x → MakesLater p a b
  later_make x a b moves after q r has there m made =
      let now = moves.mine q has in
      let is = one_part (part_in b.parts p) now.0 r now.1 there in
      newest (subst (λ (l : List (Placed Mtr)). IsIn m (trx_mtrs l)) now.2.made (subst (λ (y : CorePart). IsIn m (trx_mtrs y.pages.made)) (sym is) made))
    where
      newest : IsIn m (trx_mtrs (x ∷ q.pages.made)) → IsIn m (trx_mtrs q.pages.made) ⊎ ((k : ℕ) (s : CorePart) (y : Placed Mtr) → part_in a.parts k ≡ Some s → IsIn y s.pages.made → y.at < m.at)
      newest (inl same) = inr (λ k s y has_s made_y.
          let late : y.at < x.at = after.above_made k s y has_s made_y in
          let at : m.at ≡ x.at = ap (λ (z : TrxMtr). z.at) same in
          omega (arith, late, at))
      newest (inr old) = inl old

  -- steps of transactions make nothing
  pub step_same : (a b : NodeView) (f : TrxPart → TrxPart) (steps : ℕ) → b ≡ with_trx a p f steps → HoldsPart a p → ((t : TrxPart) → PartExtends t (f t)) → Moves MadeTheSame p a b
  step_same a b f steps is held more = let has = held_part a p held in moves_trx p a b f steps is has.0 has.1 (more has.0.trx) MadeTheSame refl

  -- a transaction is prepared and draws, and its commit is recorded
  pub stamp_later : (id : TrxId) (cts : ℕ) (a b c d : NodeView) → HoldsPart a p → b ≡ with_trx a p (with_prep id) 1 → c ≡ with_trx b p (with_draw id cts) 1 → (x : Placed Mtr) → Moves (MadeOne x) p c d → IsMadeAfter c x → MakesLater p a d
  stamp_later id cts a b c d held prep draw x made after =
      let has = held_part a p held in
      let q1 = trx_changed (with_prep id) 1 has.0 in
      let there : part_in b.parts p ≡ Some q1 = trx_there p a b (with_prep id) 1 prep has.0 has.1 (extends_prep id has.0.trx) in
      let one : Moves MadeTheSame p a b = step_same a b (with_prep id) 1 prep held (extends_prep id) in
      let two : Moves MadeTheSame p b c = moves_trx p b c (with_draw id cts) 1 draw q1 there (extends_draw id cts q1.trx) MadeTheSame refl in
      later_first a c d (moves_both p MadeTheSame MadeTheSame MadeTheSame (λ q r s e k. k ∙ e) a b c one two) (later_make x c d made after)

  -- the log was forced before it, and behind it
  pub commit_later : (a b c d : NodeView) → Moves SomeForced p a b → MakesLater p b c → c ≡ d → MakesLater p a d
  commit_later a b c d forced was same =
      subst (MakesLater p a) same (later_first a b c (moves_as p SomeForced MadeTheSame same_some_forced a b forced) was)

  pub published_later : (a b c d e : NodeView) (f : TrxPart → TrxPart) → Moves SomeForced p a b → MakesLater p b c → HoldsPart c p → Moves AllForced p c d → HoldsPart d p → e ≡ with_trx d p f 1 → ((t : TrxPart) → PartExtends t (f t)) → MakesLater p a e
  published_later a b c d e f first was held_c second held_d is more =
      later_last a d e held_d (step_same d e f 1 is held_d more)
      (later_last a c d held_c (moves_as p AllForced MadeTheSame same_all_forced c d second)
      (later_first a b c (moves_as p SomeForced MadeTheSame same_some_forced a b first) was))
