-- Lanes are filled one after another, each from its log.
use Rattle.std.proofs.Common.{◌≡◌, ◌≢◌, ◌⊎◌, ℕ, ◌+◌, ◌<◌, List, [], length, slice_get, Some, None, Result, Ok, Err, IsTrue, IfOk, refl, sym, ap, subst, ◌∙◌, inl, inr, arith}
use Rattle.std.proofs.lemmas.Bool.{cases_lt}
use Rattle.std.proofs.lemmas.Option.{slice_get_cases, slice_get_within}
use Rattle.mp_outside.specs.declared.disks.Disk.{Ghosts}
use Rattle.mp_cells.specs.declared.records.Mtr.{Mtr}
use Rattle.mp_files.specs.Nine.{At, seen_of, seen_at, EachTells, KeptDisk, KeptLogs}
use Rattle.mp_files.proofs.Places.{same_some, at_place}
use Rattle.mp_files.proofs.Nines.{KeptLogs-refl, KeptLogs-one, KeptDisk-still, RoseOf-later}
use Rattle.mp_log.specs.declared.refusals.LogRefusal.{LogRefusal}
use Rattle.mp_log.specs.declared.refusals.LogRefusal.TheVariants as refusals
use Rattle.mp_log.specs.Reading.{LogCause}
use Rattle.mp_recover.specs.declared.lanes.Lane.{Lane}
use Rattle.mp_recover.specs.Merging.{LaneSound, LaneGoes, LaneLeft, LaneFills, EachLane, DidFill, LanesLeft, FilledBelow, fault_at, refused_as, MergeRefuses, MergeCause}

pub here_or_not : (k place : ℕ) → (k ≡ place) ⊎ (k ≢ place)
here_or_not k place = elim (cases_lt k place) [
  | inl below ↦ inr (λ e. omega (arith, e, below))
  | inr above ↦ elim (cases_lt place k) [
    | inl over ↦ inr (λ e. omega (arith, e, over))
    | inr under ↦ inl (omega (arith, above, under))
  ]
]

pub cutting : (k place : ℕ) → k < place + 1 → k ≢ place → k < place
cutting k place lt apart = elim (cases_lt k place) [
  | inl below ↦ below
  | inr above ↦ absurd (apart (omega (arith, lt, above)))
]

-- what held of each lane holds, where one lane was changed to one of which it holds
pub each_on : (P : ℕ → Lane → Type 0) (old new : List Lane) (place : ℕ) → ((k : ℕ) → k ≢ place → slice_get new k ≡ slice_get old k)
    → ((k : ℕ) (lane : Lane) → slice_get old k ≡ Some lane → P k lane) → ((lane : Lane) → slice_get new place ≡ Some lane → P place lane)
    → (k : ℕ) (lane : Lane) → slice_get new k ≡ Some lane → P k lane
each_on P old new place others all this k lane is = elim (here_or_not k place) [
  | inl e ↦ subst (λ (n : ℕ). P n lane) (sym e) (this lane (subst (λ (n : ℕ). slice_get new n ≡ Some lane) e is))
  | inr apart ↦ all k lane (sym (others k apart) ∙ is)
]

module _ {D : Type 0} (g : Ghosts D) where
  -- kept logs read as they did, and tell
  pub seen_same : (old new : List D) → KeptLogs g old new → (k : ℕ) → seen_at g new k ≡ seen_at g old k
  seen_same old new kept k = elim (slice_get_cases old k).1 [
    | inl found ↦
        let after = at_place new k (omega (arith, slice_get_within old k found.0 found.2, kept.count)) in
        ap (seen_of g) after.1 ∙ (kept.each k found.0 after.0 found.2 after.1).quiet.same ∙ sym (ap (seen_of g) found.2)
    | inr past ↦ elim (slice_get_cases new k).1 [
      | inl found ↦ absurd (omega (arith, slice_get_within new k found.0 found.2, kept.count, past.0))
      | inr none ↦ ap (seen_of g) none.1 ∙ sym (ap (seen_of g) past.1)
    ]
  ]

  pub tells_same : (old new : List D) → KeptLogs g old new → EachTells g old → EachTells g new
  tells_same old new kept tell k disk is =
      let before = at_place old k (omega (arith, slice_get_within new k disk is, kept.count)) in
      subst (λ b. IsTrue b) (sym (kept.each k before.0 disk before.1 is).tells) (tell k before.0 before.1)

  -- a lane that was filled at its place, with its disk
  pub record FilledAt (place : ℕ) (result : Result (Unit {0}) LogRefusal) (lanes lanes_after : List Lane) (logs logs_after : List D) : Type 0 where
    pub old : Lane
    pub new : Lane
    pub disk : D
    pub disk_after : D
    pub old_is : slice_get lanes place ≡ Some old
    pub new_is : slice_get lanes_after place ≡ Some new
    pub disk_is : slice_get logs place ≡ Some disk
    pub after_is : slice_get logs_after place ≡ Some disk_after
    pub others : (k : ℕ) → k ≢ place → slice_get lanes_after k ≡ slice_get lanes k
    pub other_logs : (k : ℕ) → k ≢ place → slice_get logs_after k ≡ slice_get logs k
    pub count_logs : length logs_after ≡ length logs
    pub did : DidFill g result old new disk disk_after

  pub filled_at : (place : ℕ) (result : Result (Unit {0}) LogRefusal) (lanes lanes_after : List Lane) (logs logs_after : List D)
      → place < length lanes → place < length logs → length lanes_after ≡ length lanes → length logs_after ≡ length logs
      → ((k : ℕ) → k ≢ place → slice_get lanes_after k ≡ slice_get lanes k) → ((k : ℕ) → k ≢ place → slice_get logs_after k ≡ slice_get logs k)
      → At (λ old new. At (DidFill g result old new) logs logs_after place) lanes lanes_after place
      → FilledAt place result lanes lanes_after logs logs_after
  filled_at place result lanes lanes_after logs logs_after lt lt_logs count count_logs others other_logs did =
      let x = at_place lanes place lt in
      let y = at_place lanes_after place (omega (arith, lt, count)) in
      let d = at_place logs place lt_logs in
      let e = at_place logs_after place (omega (arith, lt_logs, count_logs)) in record {
        old = x.0;
        new = y.0;
        disk = d.0;
        disk_after = e.0;
        old_is = x.1;
        new_is = y.1;
        disk_is = d.1;
        after_is = e.1;
        others = others;
        other_logs = other_logs;
        count_logs = count_logs;
        did = did x.0 y.0 x.1 y.1 d.0 e.0 d.1 e.1;
      }

  module _ (place : ℕ) (result : Result (Unit {0}) LogRefusal) (lanes lanes_after : List Lane) (logs logs_after : List D)
      (filled : FilledAt place result lanes lanes_after logs logs_after) where
    -- the logs are kept
    pub filled_kept : KeptLogs g logs logs_after
    filled_kept = KeptLogs-one g logs logs logs_after place (KeptLogs-refl g logs) filled.count_logs filled.other_logs
        (λ d e was now. subst (λ (x : D). KeptDisk g d x) (same_some filled.disk_after e (sym filled.after_is ∙ now))
        (subst (λ (x : D). KeptDisk g x filled.disk_after) (same_some filled.disk d (sym filled.disk_is ∙ was)) filled.did.kept))

    -- heads are of the grammar
    pub filled_sound : EachLane LaneSound lanes → EachLane LaneSound lanes_after
    filled_sound sound = each_on (λ k lane. LaneSound lane) lanes lanes_after place filled.others sound
        (λ lane is. subst LaneSound (same_some filled.new lane (sym filled.new_is ∙ is)) (filled.did.sound (sound place filled.old filled.old_is)))

    module _ (files : ℕ → List ℕ) (lefts : ℕ → List Mtr) (same : (k : ℕ) → seen_at g logs k ≡ files k) (tell : EachTells g logs)
        (left : LanesLeft lanes files lefts) where
      fills_here : LaneFills (files place) (lefts place) (fault_at files place) filled.new result
      fills_here =
          let file : g.seen filled.disk ≡ files place = sym (ap (seen_of g) filled.disk_is) ∙ same place in
          subst (λ (f : List ℕ). LaneFills f (lefts place) (fault_at files place) filled.new result) file
          (filled.did.fills (lefts place) (fault_at files place) (tell place filled.disk filled.disk_is)
          (subst (λ (f : List ℕ). LaneLeft filled.old f (lefts place) (fault_at files place)) (sym file) (left place filled.old filled.old_is)))

      pub filled_left : result ≡ Ok tt → LanesLeft lanes_after files lefts
      filled_left ok = each_on (λ k lane. LaneLeft lane (files k) (lefts k) (fault_at files k)) lanes lanes_after place filled.others left
          (λ lane is. subst (λ (l : Lane). LaneLeft l (files place) (lefts place) (fault_at files place)) (same_some filled.new lane (sym filled.new_is ∙ is))
          (subst (LaneFills (files place) (lefts place) (fault_at files place) filled.new) ok fills_here).0)

      pub filled_below : result ≡ Ok tt → FilledBelow place lanes files lefts → FilledBelow (place + 1) lanes_after files lefts
      filled_below ok below k lane lt is none = elim (here_or_not k place) [
        | inl e ↦
            let at : slice_get lanes_after place ≡ Some lane = subst (λ (n : ℕ). slice_get lanes_after n ≡ Some lane) e is in
            let no_head : filled.new.head ≡ None = ap (λ (x : Lane). x.head) (same_some filled.new lane (sym filled.new_is ∙ at)) ∙ none in
            subst (λ (n : ℕ). (lefts n ≡ []) × (fault_at files n ≡ None)) (sym e)
            ((subst (LaneFills (files place) (lefts place) (fault_at files place) filled.new) ok fills_here).1 no_head)
        | inr apart ↦ below k lane (cutting k place lt apart) (sym (filled.others k apart) ∙ is) none
      ]

      pub filled_refuses : place < 8 → (refusal : LogRefusal) → result ≡ Err refusal → MergeRefuses files (refused_as (place + 1) refusal)
      filled_refuses lt (refusals.Fault fault) err = (place, lt, refl, (subst (LaneFills (files place) (lefts place) (fault_at files place) filled.new) err fills_here).1)
      filled_refuses lt refusals.Disk err = tt
      filled_refuses lt refusals.Memory err = tt

    pub filled_goes : result ≡ Ok tt → EachLane LaneGoes lanes → EachLane LaneGoes lanes_after
    filled_goes ok goes = each_on (λ k lane. LaneGoes lane) lanes lanes_after place filled.others goes
        (λ lane is. subst LaneGoes (same_some filled.new lane (sym filled.new_is ∙ is))
        (subst (λ r. IfOk r (λ x. LaneGoes filled.new)) ok (filled.did.goes (goes place filled.old filled.old_is))))

    pub filled_cause : (first : List D) → KeptLogs g first logs → (refusal : LogRefusal) → result ≡ Err refusal → EachLane LaneGoes lanes
        → MergeCause g first logs_after (refused_as (place + 1) refusal)
    filled_cause first kept (refusals.Fault fault) err goes = tt
    filled_cause first kept refusals.Disk err goes =
        RoseOf-later g (place + 1) first logs logs_after kept.count (λ k before after was now. KeptDisk-still g before after (kept.each k before after was now)) (
          place,
          refl,
          record {
            before = filled.disk;
            after = filled.disk_after;
            was = filled.disk_is;
            now = filled.after_is;
            rose = subst (LogCause (g.faults filled.disk) (g.faults filled.disk_after)) err (filled.did.cause (goes place filled.old filled.old_is));
          },
        )
    filled_cause first kept refusals.Memory err goes = tt
