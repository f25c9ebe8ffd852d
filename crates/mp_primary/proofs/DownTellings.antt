-- The steps on down words: what the primary's part is behind them, and that it may take them.
use Rattle.std.proofs.Common.{◌≡◌, ◌≢◌, ℕ, ◌+◌, ◌≤◌, ◌==◌, Bool, true, false, if◌then◌else◌, List, [], ◌∷◌, ◌++◌, Some, refl, sym, ap, subst, ◌∙◌, inl, inr, ⊎_elim, arith}
use Rattle.mp_machine.specs.Lists.{IsIn}
use Rattle.mp_machine.specs.View.{View, part_in, with_part}
use Rattle.mp_machine.proofs.Views.{part_in-with_here, part_in-with_else}
use Rattle.mp_core_trx.specs.Events.{IsNode}
use Rattle.mp_core_trx.proofs.Growth.{extends_refl}
use Rattle.mp_core_pages.proofs.Choices.{if_differs}
use Rattle.mp_core_pages.proofs.Growth.{pages_extends_refl}
use Rattle.mp_core.specs.declared.part.CorePart.{CorePart}
use Rattle.mp_core.specs.declared.part.DownLoad.{DownLoad}
use Rattle.mp_core.specs.declared.part.DownPart.{DownPart}
use Rattle.mp_core.specs.declared.event.CoreEvent.TheVariants.{Down}
use Rattle.mp_core.specs.declared.event.DownEvent.TheVariants.{StoreDown, LoadDown}
use Rattle.mp_core.specs.Downs.{down_load, down_of, goes_down_by, with_down_load, DownsExtend}
use Rattle.mp_core.proofs.Downs.{down_made_extends}
use Rattle.mp_outside.specs.declared.disks.Disk.{Ghosts}
use Rattle.mp_shared.specs.Nodes.{Run, NodeView, MayTake, Reached, changed_part}
use Rattle.mp_shared.specs.DownSteps.{with_downs}
use Rattle.mp_shared.proofs.Holding.{held_part}
use Rattle.mp_buffer_fusion.proofs.Visiting.{one_part}
use Rattle.mp_primary.specs.Primaries.{PrimaryView}
use Rattle.mp_primary.specs.Downs.{WentOn, OnlyDowns, OnlyLoads, LoadedSince}
use Rattle.mp_primary.specs.Tries.{HasTried, HasTold}
use Rattle.mp_primary.proofs.OwnNumbers.{not_own}
use Rattle.mp_primary.proofs.OnlyDowns.{downs_none, loads_downs, loaded_before, went_none, went_as, went_both, stands_on, stands_down}

-- ---- parts

-- the part behind a change of what it knows of primaries that are down
abbrev pub downs_changed : (DownPart → DownPart) → ℕ → CorePart → CorePart
downs_changed f steps q = record q { downs = f q.downs; ops = q.ops + steps }

only_downs : (q : CorePart) (f : DownPart → DownPart) (steps : ℕ) → DownsExtend q.downs (f q.downs) → OnlyDowns q (downs_changed f steps q)
only_downs q f steps more = record {
  extends = record {
    trx = extends_refl q.trx;
    pages = pages_extends_refl q.pages;
    durable = omega arith;
    made_later = λ x there. inl there;
    given_later = λ g there. inl there;
    downs = more;
  };
  rest = refl;
}

pub stored_downs : (q : CorePart) (p by : ℕ) → q.downs.own ≡ 0 → OnlyDowns q (downs_changed (goes_down_by by) 1 q)
stored_downs q p by up = only_downs q (goes_down_by by) 1 (record { own = inl up; loaded = ([], refl) })

kept_own : (test : Bool) (d e : DownPart) → e.own ≡ d.own → (if test then d else e).own ≡ d.own
kept_own true d e same = refl
kept_own false d e same = same

pub loaded_downs : (q : CorePart) (p of by : ℕ) → (1 ≤ of) × (of ≤ 8) → OnlyLoads q (downs_changed (with_down_load of by) 1 q)
loaded_downs q p of by range = record {
  only = only_downs q (with_down_load of by) 1 (down_made_extends q.trx.opening (LoadDown p of) by q.downs range);
  own = kept_own (by == 0) q.downs (record (q.downs) { loaded = down_load of by ∷ q.downs.loaded }) refl;
}

pub loaded_one : (q : CorePart) (p of by : ℕ) → (1 ≤ of) × (of ≤ 8) → by ≢ 0 → LoadedSince of by q (downs_changed (with_down_load of by) 1 q)
loaded_one q p of by range some = record {
  only = (loaded_downs q p of by range).only;
  more = down_load of by ∷ [];
  loaded = ap (λ (d : DownPart). d.loaded) (if_differs by 0 q.downs (record (q.downs) { loaded = down_load of by ∷ q.downs.loaded }) some);
  its = inl refl;
}

-- ---- nodes

module _ (n after : NodeView) (p : ℕ) (q : CorePart) (has : part_in n.parts p ≡ Some q) (f : DownPart → DownPart) (steps : ℕ) (is : after ≡ with_downs n p f steps) where
  parts_changed : (with_downs n p f steps).parts ≡ with_part n.parts p (downs_changed f steps q)
  parts_changed = ap (changed_part n.parts p (downs_changed f steps)) has

  pub downs_there : part_in after.parts p ≡ Some (downs_changed f steps q)
  downs_there = ap (λ (m : NodeView). part_in m.parts p) is ∙ ap (λ (v : View CorePart). part_in v p) parts_changed ∙ part_in-with_here n.parts p (downs_changed f steps q) q has

  pub went_with : (So : CorePart → CorePart → Type 0) → So q (downs_changed f steps q) → WentOn So p n after
  went_with So so = record {
    run = ap (λ (m : NodeView). m.run) is;
    frames = ap (λ (m : NodeView). m.frames) is;
    others = λ k other. ap (λ (m : NodeView). part_in m.parts k) is ∙ ap (λ (v : View CorePart). part_in v k) parts_changed ∙ part_in-with_else n.parts p k (downs_changed f steps q) other;
    mine = λ x there. (downs_changed f steps q, downs_there, subst (λ (y : CorePart). So y (downs_changed f steps q)) (one_part (part_in n.parts p) q x has there) so);
  }

-- ---- the primary tells that it is down

module _ {D : Type 0} (g : Ghosts D) (run : Run) (pr : PrimaryView D) (n : NodeView) (h : HasTried g run pr n) where
  abbrev pub its_part : (q : CorePart) × (part_in n.parts pr.number ≡ Some q) × IsNode q.trx.opening pr.number
  its_part = held_part n pr.number h.stands.desk.part

  -- it may store its own number
  pub may_tell : pr.down ≢ 0 → MayTake (Down (StoreDown pr.number pr.down)) n
  may_tell down =
      let q = its_part in
      (q.0, q.1, (q.2, (h.word q.0 q.1, inl (⊎_elim (λ up. absurd (down up)) (λ own. own) h.own))))

  pub has_told : (after : NodeView) → after ≡ with_downs n pr.number (goes_down_by pr.down) 1 → Reached after → HasTold g run pr n after
  has_told after is reached =
      let q = its_part in
      let went = went_with n after pr.number q.0 q.1 (goes_down_by pr.down) 1 is OnlyDowns (stored_downs q.0 pr.number pr.down (h.word q.0 q.1)) in
      record {
        stands = stands_on g run pr n after went reached h.stands;
        went = went;
        told = λ r there. ap down_of (one_part (part_in after.parts pr.number) r (downs_changed (goes_down_by pr.down) 1 q.0) there (downs_there n after pr.number q.0 q.1 (goes_down_by pr.down) 1 is));
      }

  -- one that is up has nothing to tell
  pub tells_nothing : pr.down ≡ 0 → HasTold g run pr n n
  tells_nothing up = record { stands = h.stands; went = went_none pr.number OnlyDowns downs_none n; told = λ q has. h.word q has ∙ sym up }

  -- it may load the word of another
  pub may_load : (of : ℕ) → (1 ≤ of) × (of ≤ 8) → MayTake (Down (LoadDown pr.number of)) n
  may_load of range = let q = its_part in (q.0, q.1, (q.2, range))

-- ---- it goes down with the number of another

module _ {D : Type 0} (g : Ghosts D) (run : Run) (pr : PrimaryView D) (n at : NodeView) (h : HasTried g run pr n) (loads : WentOn OnlyLoads pr.number n at) (reached : Reached at) where
  pub tried_on : HasTried g run pr at
  tried_on =
      let q = its_part g run pr n h in
      let r = loads.mine q.0 q.1 in
      record {
        stands = stands_on g run pr n at (went_as pr.number OnlyLoads OnlyDowns loads_downs n at loads) reached h.stands;
        word = λ x there. ap down_of (one_part (part_in at.parts pr.number) x r.0 there r.1) ∙ r.2.own ∙ h.word q.0 q.1;
        own = h.own;
      }

  module _ (up : pr.down ≡ 0) (of by : ℕ) (some : by ≢ 0) (loaded : WentOn (LoadedSince of by) pr.number n at) where
    in_front : (x : DownLoad) (xs ys : List DownLoad) → IsIn x xs → IsIn x (xs ++ ys)
    in_front x [] ys nothing = absurd nothing
    in_front x (z ∷ zs) ys (inl is) = inl is
    in_front x (z ∷ zs) ys (inr more) = inr (in_front x zs ys more)

    -- its part then has what it loaded
    there : (q : CorePart) × (part_in at.parts pr.number ≡ Some q) × IsNode q.trx.opening pr.number
    there = its_part g run pr at tried_on

    listed : IsIn (down_load of by) (there.0).downs.loaded
    listed =
        let q = its_part g run pr n h in
        let r = loaded.mine q.0 q.1 in
        let same : r.0 ≡ there.0 = one_part (part_in at.parts pr.number) r.0 there.0 r.1 there.1 in
        let in_more : IsIn (down_load of by) (r.2.more ++ q.0.downs.loaded) = in_front (down_load of by) r.2.more q.0.downs.loaded r.2.its in
        subst (λ (x : CorePart). IsIn (down_load of by) x.downs.loaded) same (subst (λ (l : List DownLoad). IsIn (down_load of by) l) (sym r.2.loaded) in_more)

    pub may_follow : MayTake (Down (StoreDown pr.number by)) at
    may_follow = (there.0, there.1, (there.2, (tried_on.word there.0 there.1, inr (of, listed))))

    pub not_its_own : by ≢ pr.number
    not_its_own = not_own at pr.number of by there.0 reached there.1 (tried_on.word there.0 there.1) some listed

    abbrev fallen : PrimaryView D
    fallen = record pr { down = by }

    module _ (after : NodeView) (is : after ≡ with_downs at pr.number (goes_down_by by) 1) (reached_then : Reached after) where
      stored : WentOn OnlyDowns pr.number at after
      stored =
          let q = its_part g run pr at tried_on in
          went_with at after pr.number q.0 q.1 (goes_down_by by) 1 is OnlyDowns (stored_downs q.0 pr.number by (tried_on.word q.0 q.1))

      pub loaded_all : WentOn (LoadedSince of by) pr.number n after
      loaded_all = went_both pr.number (LoadedSince of by) OnlyDowns (LoadedSince of by) (loaded_before of by) n at after loaded stored

      pub has_fallen : HasTold g run fallen n after
      has_fallen =
          let q = its_part g run pr at tried_on in
          record {
            stands = stands_on g run fallen at after stored reached_then (stands_down g pr up by some run at tried_on.stands);
            went = went_as pr.number (LoadedSince of by) OnlyDowns (λ x y l. l.only) n after loaded_all;
            told = λ r there. ap down_of (one_part (part_in after.parts pr.number) r (downs_changed (goes_down_by by) 1 q.0) there (downs_there at after pr.number q.0 q.1 (goes_down_by by) 1 is));
          }

-- ---- of what a method sees inside

module _ {D : Type 0} (g : Ghosts D) (run : Run) (inside pr : PrimaryView D) (view : inside ≡ pr) (n : NodeView) (h : HasTried g run pr n) where
  tried_inside : HasTried g run inside n
  tried_inside = subst (λ (v : PrimaryView D). HasTried g run v n) (sym view) h

  pub may_tell_inside : inside.down ≢ 0 → MayTake (Down (StoreDown inside.number inside.down)) n
  may_tell_inside = may_tell g run inside n tried_inside

  pub told_inside : (after : NodeView) → after ≡ with_downs n inside.number (goes_down_by inside.down) 1 → Reached after → HasTold g run pr n after
  told_inside after is reached = subst (λ (v : PrimaryView D). HasTold g run v n after) view (has_told g run inside n tried_inside after is reached)

  pub may_load_inside : (of : ℕ) → (1 ≤ of) × (of ≤ 8) → MayTake (Down (LoadDown inside.number of)) n
  may_load_inside = may_load g run inside n tried_inside
