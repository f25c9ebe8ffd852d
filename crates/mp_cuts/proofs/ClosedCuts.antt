-- Whoever keeps all durable mtrs, and of each node those up to one that it keeps, keeps with an mtr those before it on its pages: a
-- page was given only after the changes of others on it were durable.
use Rattle.std.proofs.Common.{◌≡◌, ℕ, ◌<◌, ◌≤◌, ◌⊎◌, Bool, true, [], ◌∷◌, ◌++◌, refl, sym, ap, subst, ◌∙◌, inl, inr, arith, leb-true}
use Rattle.std.specs.List.{AllByRecursion}
use Rattle.mp_machine.specs.Lists.{IsIn}
use Rattle.mp_machine.proofs.Lists.{in_grown}
use Rattle.mp_cells.specs.declared.records.Mtr.{Mtr}
use Rattle.mp_histories.specs.Histories.{History, touching}
use Rattle.mp_histories.specs.Cuts.{Rise, IsClosed}
use Rattle.mp_histories.proofs.Writers.{decided}
use Rattle.mp_histories.proofs.ByPages.{changes_page, touching-in, touching-out}
use Rattle.mp_histories.proofs.Lists.{append_middle}
use Rattle.mp_core_pages.specs.declared.page_lock.Held.{Held}
use Rattle.mp_core_pages.specs.declared.page_lock.Held.TheVariants.{No, Write}
use Rattle.mp_core_pages.specs.Histories.{Touches, oldest, folded, llsn_at}
use Rattle.mp_core_pages.specs.PageParts.{held_at, durable_llsn}
use Rattle.mp_core_pages.specs.PageWorld.{frame_in}
use Rattle.mp_core_pages.specs.PageInvariant.{IsDurable}
use Rattle.mp_core_pages.proofs.Prefixes.{tells_its_list}
use Rattle.mp_core.specs.declared.opening.CoreOpening.{CoreOpening}
use Rattle.mp_core.specs.Contents.{page_ops, pages_opening}
use Rattle.mp_core.specs.World.{CoreWorld}
use Rattle.mp_core.specs.Invariant.{CoreInv}
use Rattle.mp_core.proofs.Pages.{touched_same, page_laws}
use Rattle.mp_cuts.proofs.Climbing.{is_up_to, within}

write_no : (held : Held) → held ≡ Write → ¬ (held ≡ No)
write_no held is none = let same : Write ≡ No = sym is ∙ none in absurd cc

module _ (o : CoreOpening) (w : CoreWorld) (i : CoreInv o w) (upto : ℕ → ℕ) where
  abbrev its : Mtr → Bool
  its m = is_up_to (upto m.node) m

  abbrev framed : ℕ → ℕ
  framed k = llsn_at page_ops (frame_in w.pages.turn_words w.pages.homes w.pages.frames k)

  -- all durable mtrs are kept
  module _ (durable : (m : Mtr) → IsIn m w.pages.history → m.llsn ≤ durable_llsn o.trx.base.llsn (w.pages.durables m.node) → its m ≡ true) where
    -- two mtrs of one page, of which the later is kept
    module _ (k : ℕ) (before m : Mtr) (before_in : IsIn before w.pages.history) (m_in : IsIn m w.pages.history)
        (before_on : Touches page_ops before k) (m_on : Touches page_ops m k) (less : before.llsn < m.llsn) (kept : its m ≡ true) where
      of_one_node : before.node ≡ m.node → its before ≡ true
      of_one_node same =
          let most : m.llsn ≤ upto m.node = leb-true m.llsn (upto m.node) kept in
          let bound : upto before.node ≡ upto m.node = ap upto same in
          within before.llsn (upto before.node) (omega (arith, less, most, bound))

      in_frame : m.llsn ≤ framed k → its before ≡ true
      in_frame most =
          let p = i.pages.page_frames.prefix k in
          let same : framed k ≡ llsn_at page_ops (folded page_ops (pages_opening o) (oldest p.height w.pages.history) k) = ap (llsn_at page_ops) p.is_folded in
          let low : before.llsn ≤ llsn_at page_ops (folded page_ops (pages_opening o) (oldest p.height w.pages.history) k) = omega (arith, less, most, same) in
          durable before before_in
          (p.durable before ((tells_its_list page_ops page_laws (pages_opening o) w.pages.history p.height k i.pages.mtr_history.order p.within before before_in before_on).1 low) before_on)

      abbrev IsThere : Mtr → Type 0
      IsThere x = (IsDurable page_ops o.trx.base.llsn w.pages.durables x × (x.llsn ≤ framed k)) ⊎ (held_at (w.pages.lock_rows x.node) k ≡ Write)

      by_frame : held_at (w.pages.lock_rows before.node) k ≡ Write → IsThere m → its before ≡ true
      by_frame held (inl there) = in_frame there.1
      by_frame held (inr writes) = of_one_node (i.pages.page_locks.alone m.node before.node k writes (write_no (held_at (w.pages.lock_rows before.node) k) held))

      by_durable : IsThere before → its before ≡ true
      by_durable (inl there) = durable before before_in there.0
      by_durable (inr held) = by_frame held (i.pages.page_frames.missing m k m_in m_on)

      kept_before : its before ≡ true
      kept_before = by_durable (i.pages.page_frames.missing before k before_in before_on)

    each_before : (k : ℕ) (m : Mtr) → IsIn m w.pages.history → changes_page k m ≡ true → its m ≡ true → (made : History) → ((x : Mtr) → IsIn x made → IsIn x w.pages.history)
        → AllByRecursion (λ x. x.llsn < m.llsn) (touching k made) → AllByRecursion (λ x. its x ≡ true) (touching k made)
    each_before k m m_in on kept [] there less = tt
    each_before k m m_in on kept (x ∷ made) there less = elim (decided (changes_page k x)) [
      | inl e ↦
          let below = subst (AllByRecursion (λ (y : Mtr). y.llsn < m.llsn)) (touching-in k x made e) less in
          subst (AllByRecursion (λ (y : Mtr). its y ≡ true)) (sym (touching-in k x made e)) (
            kept_before k x m (there x (inl refl)) m_in (touched_same k x.records ∙ e) (touched_same k m.records ∙ on) below.0 kept,
            each_before k m m_in on kept made (λ y has. there y (inr has)) below.1,
          )
      | inr e ↦
          subst (AllByRecursion (λ (y : Mtr). its y ≡ true)) (sym (touching-out k x made e))
          (each_before k m m_in on kept made (λ y has. there y (inr has)) (subst (AllByRecursion (λ (y : Mtr). y.llsn < m.llsn)) (touching-out k x made e) less))
    ]

    closed_from : (front made : History) → w.pages.history ≡ front ++ made → Rise made → IsClosed its made
    closed_from front [] split rise = tt
    closed_from front (m ∷ made) split rise = (
      λ kept n on. each_before n m (there m (inl refl)) on kept made (λ x has. there x (inr has)) (rise.0 n on),
      closed_from (front ++ m ∷ []) made (split ∙ append_middle front m made) rise.1,
    )
      where
        there : (x : Mtr) → IsIn x (m ∷ made) → IsIn x w.pages.history
        there x has = subst (λ (l : History). IsIn x l) (sym split) (in_grown (m ∷ made) front x has)

    pub closed : Rise w.pages.history → IsClosed its w.pages.history
    closed rise = closed_from [] w.pages.history refl rise
