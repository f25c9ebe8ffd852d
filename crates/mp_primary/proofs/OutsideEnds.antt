-- A call outside a turn, by what it came to, and by what the primary told of itself and found of others behind it.
use Rattle.std.proofs.Common.{◌≡◌, ℕ, ◌++◌, slice_get, Err, refl, sym, ap, subst, ◌∙◌, inl, inr, ⊎_elim, arith}
use Rattle.mp_machine.specs.View.{part_in}
use Rattle.mp_model.specs.declared.waiting.Cause.TheVariants.{Word}
use Rattle.mp_model.specs.declared.waiting.NotYet.{NotYet}
use Rattle.mp_core_trx.specs.declared.part.Begun.{Begun}
use Rattle.mp_core.specs.declared.part.DownPart.{DownPart}
use Rattle.mp_core.specs.CoreExtends.{CoreExtends}
use Rattle.mp_book.specs.declared.book.Book.{Book}
use Rattle.mp_outside.specs.declared.disks.Disk.{Ghosts}
use Rattle.mp_shared.specs.Nodes.{Run, NodeView, HoldsPart}
use Rattle.mp_shared.proofs.Holding.{held_part}
use Rattle.mp_desk.specs.declared.halts.BackHalt.{BackHalt}
use Rattle.mp_desk.specs.declared.halts.BackHalt.TheVariants as backs
use Rattle.mp_desk.proofs.Moving.{moves_downs}
use Rattle.mp_primary.specs.declared.outside.RollRefusal.{RollRefusal}
use Rattle.mp_primary.specs.declared.outside.RollRefusal.TheVariants as refusals
use Rattle.mp_primary.specs.Primaries.{PrimaryView, PrimaryAgreesIn, StandsWith}
use Rattle.mp_primary.specs.Downs.{WentOn, OnlyDowns, IsDownAsTold}
use Rattle.mp_primary.specs.Tries.{HasTried, HasTold, GoesDownBy}
use Rattle.mp_primary.specs.OutsideCalls.{CallsOutside, RollsBackAs}
use Rattle.mp_primary.specs.OutsideTries.{TriesOutside, BacksOutAs, RefusesFor}
use Rattle.mp_primary.proofs.OnlyDowns.{went_goes, agrees_in_on, agrees_down}
use Rattle.mp_primary.proofs.DownTellings.{tells_nothing}
use Rattle.mp_primary.proofs.TakenTurns.{found_as, fallen_as}

-- where a page couldn't be had, the primary is up
pub backs_up : {D : Type 0} (g : Ghosts D) (old mid : PrimaryView D) (before at : NodeView) (session : ℕ) (trx : Begun) (halt : BackHalt) → BacksOutAs g old mid before at session trx (Err halt) → (wait : NotYet) → halt ≡ backs.Word wait → mid.down ≡ 0
backs_up g old mid before at session trx (backs.Word other) b wait is = b.0
backs_up g old mid before at session trx backs.Failed b wait is = absurd (failed_not_word wait is)
  where
    failed_not_word : (w : NotYet) → backs.Failed ≡ backs.Word w → ⊥
    failed_not_word w e = cc

module _ {D : Type 0} (g : Ghosts D) (run : Run) (old mid : PrimaryView D) (before at : NodeView) (session : ℕ)
    (stands : StandsWith g run old before) (told : IsDownAsTold old before) (up : old.down ≡ 0) (tries : TriesOutside g run old mid before at session) where
  pub tried_out : HasTried g run mid at
  tried_out = record {
    stands = tries.stands;
    word = λ q there.
        let has = held_part before old.number stands.desk.part in
        ap (λ (d : DownPart). d.own) (moves_downs old.number CoreExtends before at tries.went has.0 q has.1 (ap (part_in at.parts) (sym tries.number) ∙ there))
        ∙ told has.0 has.1 ∙ up;
    own = ⊎_elim (λ zero. inl zero) (λ here. inr (here.0 ∙ sym tries.number)) tries.down;
  }

  held_then : HoldsPart at mid.number
  held_then = tries.stands.desk.part

  -- it ends so
  pub calls_told : (after : NodeView) → HasTold g run mid at after → CallsOutside g run old mid before after session
  calls_told after tells = record {
    stands = tells.stands;
    number = tries.number;
    work = tries.work;
    answers = tries.answers;
    went = went_goes old.number before at after tries.went (subst (λ (k : ℕ). WentOn OnlyDowns k at after) tries.number tells.went);
    goes_on = λ entries agreed. let x = tries.goes_on entries agreed in (x.0, x.1, agrees_in_on g mid at after tells.went held_then (entries ++ x.0) x.2);
    others = tries.others;
    told = tells.told;
    faults = tries.faults;
    tells = tries.tells;
  }

  pub calls_still : mid.down ≡ 0 → CallsOutside g run old mid before at session
  calls_still zero = calls_told at (tells_nothing g run mid at tried_out zero)

  -- or it goes down with the number of another
  module _ (new : PrimaryView D) (after : NodeView) (wait : NotYet) (falls : GoesDownBy g run mid new at after (Word wait)) where
    number_is : new.number ≡ mid.number
    number_is = ap (λ (v : PrimaryView D). v.number) falls.rest

    book_is : new.book ≡ mid.book
    book_is = ap (λ (v : PrimaryView D). v.book) falls.rest

    pub calls_fallen : CallsOutside g run old new before after session
    calls_fallen = record {
      stands = falls.tells.stands;
      number = number_is ∙ tries.number;
      work = ap (λ (v : PrimaryView D). v.work) falls.rest ∙ tries.work;
      answers = ap (λ (b : Book). b.answers.items) book_is ∙ tries.answers;
      went = went_goes old.number before at after tries.went (subst (λ (k : ℕ). WentOn OnlyDowns k at after) (number_is ∙ tries.number) falls.tells.went);
      goes_on = λ entries agreed.
          let x = tries.goes_on entries agreed in
          let fell : PrimaryAgreesIn g (record mid { down = new.down }) (entries ++ x.0) at = λ q has. agrees_down g mid falls.up new.down falls.found.some (entries ++ x.0) q (x.2 q has) in (
            x.0,
            x.1,
            agrees_in_on g new at after falls.tells.went (subst (λ (k : ℕ). HoldsPart at k) (sym number_is) held_then) (entries ++ x.0)
                (subst (λ (v : PrimaryView D). PrimaryAgreesIn g v (entries ++ x.0) at) (sym falls.rest) fell),
          );
      others = λ other ne. ap (λ (b : Book). slice_get b.sessions.items other) book_is ∙ tries.others other ne;
      told = falls.tells.told;
      faults = let same = ap (λ (v : PrimaryView D). g.faults v.media.log.disk) falls.rest in let more = tries.faults in omega (arith, same, more);
      tells = ap (λ (v : PrimaryView D). g.tells v.media.log.disk) falls.rest ∙ tries.tells;
    }

  -- ---- a rollback

  module _ (new : PrimaryView D) (after : NodeView) (halt : BackHalt) (refusal : RollRefusal) (refuses : RefusesFor g run mid new at after halt refusal) where
    calls_refused_by : (h : BackHalt) (r : RollRefusal) → RefusesFor g run mid new at after h r → CallsOutside g run old new before after session
    calls_refused_by (backs.Word wait) (refusals.NotYet other) x = subst (λ (v : PrimaryView D). CallsOutside g run old v before after session) (sym x.1) (calls_told after (subst (λ (v : PrimaryView D). HasTold g run v at after) x.1 x.2))
    calls_refused_by (backs.Word wait) (refusals.Stopped by) x = calls_fallen new after wait x.1
    calls_refused_by backs.Failed (refusals.NotYet other) x = absurd x
    calls_refused_by backs.Failed (refusals.Stopped by) x = subst (λ (v : PrimaryView D). CallsOutside g run old v before after session) (sym x.1) (calls_told after (subst (λ (v : PrimaryView D). HasTold g run v at after) x.1 x.2))

    pub calls_refused : CallsOutside g run old new before after session
    calls_refused = calls_refused_by halt refusal refuses

    ends_refused_by : (trx : Begun) (h : BackHalt) (r : RollRefusal) → BacksOutAs g old mid before at session trx (Err h) → RefusesFor g run mid new at after h r → RollsBackAs g old new before after session trx (Err r)
    ends_refused_by trx (backs.Word wait) (refusals.NotYet other) b x =
        subst (λ (v : PrimaryView D). RollsBackAs g old v before after session trx (Err (refusals.NotYet other))) (sym x.1)
        (subst (λ (w : NotYet). RollsBackAs g old mid before after session trx (Err (refusals.NotYet w))) (sym x.0)
        (b.0, b.1, (at, b.2, found_as old mid tries.number tries.work (Word wait) at after x.3)))
    ends_refused_by trx (backs.Word wait) (refusals.Stopped by) b x = (x.0, inr (wait, at, b.2, fallen_as old mid new new tries.number tries.work refl (Word wait) at after x.1.found))
    ends_refused_by trx backs.Failed (refusals.NotYet other) b x = absurd x
    ends_refused_by trx backs.Failed (refusals.Stopped by) b x =
        subst (λ (v : PrimaryView D). RollsBackAs g old v before after session trx (Err (refusals.Stopped by))) (sym x.1)
        (x.0 ∙ ap (λ (v : PrimaryView D). v.down) x.1, inl b)

    pub ends_refused : (trx : Begun) → BacksOutAs g old mid before at session trx (Err halt) → RollsBackAs g old new before after session trx (Err refusal)
    ends_refused trx b = ends_refused_by trx halt refusal b refuses
