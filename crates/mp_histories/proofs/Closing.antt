-- Mtrs that are closed page by page are a cut, in any order that keeps the order of each page's.
use Rattle.std.proofs.Common.{◌≡◌, ℕ, ◌<◌, Bool, true, [], ◌∷◌, ◌++◌, filter, reverse, refl, sym, ap, subst, ◌∙◌, inl, inr, arith}
use Rattle.std.specs.List.{AllByRecursion}
use Rattle.std.proofs.lemmas.List.Elements.{filter-append}
use Rattle.mp_cells.specs.declared.records.Mtr.{Mtr}
use Rattle.mp_cells.specs.Orders.{sorted_by}
use Rattle.mp_cells.proofs.KeyEdits.{All-filter}
use Rattle.mp_histories.specs.Histories.{History, touching}
use Rattle.mp_histories.specs.Cuts.{IsCut, Rise, IsClosed, log_place, in_log_order}
use Rattle.mp_histories.proofs.Writers.{decided}
use Rattle.mp_histories.proofs.ByPages.{changes_page, touching-in, touching-out, touching-append}
use Rattle.mp_histories.proofs.Sorting.{filter-swap, all_sorted, all_reverse}
use Rattle.mp_histories.proofs.LogOrder.{HasNode, touching_order}
use Rattle.mp_histories.proofs.Lists.{heads_same, tails_same, append_middle, filter-in, filter-out}

-- it stands in the history, and is kept
record IsKeptIn (keep : Mtr → Bool) (made : History) (mtr : Mtr) : Type 0 where
  later : History
  earlier : History
  split_is : made ≡ later ++ mtr ∷ earlier
  kept : keep mtr ≡ true

kept_in : (keep : Mtr → Bool) (made front rest : History) → made ≡ front ++ rest → AllByRecursion (IsKeptIn keep made) (filter keep rest)
kept_in keep made front [] e = tt
kept_in keep made front (mtr ∷ rest) e =
    let others = kept_in keep made (front ++ mtr ∷ []) rest (e ∙ append_middle front mtr rest) in
    elim (decided (keep mtr)) [
      | inl k ↦ subst (AllByRecursion (IsKeptIn keep made)) (sym (filter-in keep mtr rest k)) (record { later = front; earlier = rest; split_is = e; kept = k }, others)
      | inr k ↦ subst (AllByRecursion (IsKeptIn keep made)) (sym (filter-out keep mtr rest k)) others
    ]

-- LLSNs fall strictly from the last mtr on
abbrev Strict : History → Type 0
Strict [] = Unit {0}
Strict (mtr ∷ made) = AllByRecursion (λ earlier. earlier.llsn < mtr.llsn) made × Strict made

strict_filter : (keep : Mtr → Bool) (made : History) → Strict made → Strict (filter keep made)
strict_filter keep [] h = tt
strict_filter keep (mtr ∷ made) h = elim (decided (keep mtr)) [
  | inl k ↦ subst Strict (sym (filter-in keep mtr made k)) (All-filter (λ (e : Mtr). e.llsn < mtr.llsn) keep made h.0, strict_filter keep made h.1)
  | inr k ↦ subst Strict (sym (filter-out keep mtr made k)) (strict_filter keep made h.1)
]

touching_strict : (n : ℕ) (made : History) → Rise made → Strict (touching n made)
touching_strict n [] rise = tt
touching_strict n (mtr ∷ made) rise = elim (decided (changes_page n mtr)) [
  | inl e ↦ subst Strict (sym (touching-in n mtr made e)) (rise.0 n e, touching_strict n made rise.1)
  | inr e ↦ subst Strict (sym (touching-out n mtr made e)) (touching_strict n made rise.1)
]

all_at : (P : Mtr → Type 0) (front : History) (mtr : Mtr) (rest : History) → AllByRecursion P (front ++ mtr ∷ rest) → P mtr
all_at P [] mtr rest h = h.0
all_at P (x ∷ front) mtr rest h = all_at P front mtr rest h.1

-- an mtr stands once there, so what is below it is one
one_place : (front other : History) (mtr : Mtr) (rest below : History) → Strict (front ++ mtr ∷ rest) → front ++ mtr ∷ rest ≡ other ++ mtr ∷ below → rest ≡ below
one_place [] [] mtr rest below h e = tails_same mtr mtr rest below e
one_place [] (b ∷ other) mtr rest below h e =
    let under = subst (AllByRecursion (λ (x : Mtr). x.llsn < mtr.llsn)) (tails_same mtr b rest (other ++ mtr ∷ below) e) h.0 in
    absurd (omega (arith, all_at (λ (x : Mtr). x.llsn < mtr.llsn) other mtr below under))
one_place (a ∷ front) [] mtr rest below h e =
    let same : a ≡ mtr = heads_same a mtr (front ++ mtr ∷ rest) below e in
    absurd (omega (arith, all_at (λ (x : Mtr). x.llsn < a.llsn) front mtr rest h.0, ap (λ (x : Mtr). x.llsn) same))
one_place (a ∷ front) (b ∷ other) mtr rest below h e = one_place front other mtr rest below h.1 (tails_same a b (front ++ mtr ∷ rest) (other ++ mtr ∷ below) e)

closed_at : (keep : Mtr → Bool) (later : History) (mtr : Mtr) (earlier : History) → IsClosed keep (later ++ mtr ∷ earlier) → keep mtr ≡ true → (n : ℕ) → changes_page n mtr ≡ true → AllByRecursion (λ e. keep e ≡ true) (touching n earlier)
closed_at keep [] mtr earlier h k n e = h.0 k n e
closed_at keep (x ∷ later) mtr earlier h k n e = closed_at keep later mtr earlier h.1 k n e

filter_all : (keep : Mtr → Bool) (made : History) → AllByRecursion (λ m. keep m ≡ true) made → filter keep made ≡ made
filter_all keep [] h = refl
filter_all keep (mtr ∷ made) h = filter-in keep mtr made h.0 ∙ ap (λ (ms : History). mtr ∷ ms) (filter_all keep made h.1)

module _ (keep : Mtr → Bool) (made : History) (rise : Rise made) (closed : IsClosed keep made) where
  -- the kept mtrs of a page of a kept one, below it, are all of the page's below it
  kept_below : (mtr : Mtr) (i : IsKeptIn keep made mtr) (n : ℕ) → changes_page n mtr ≡ true → touching n (filter keep made) ≡ filter keep (touching n i.later) ++ mtr ∷ touching n i.earlier
  kept_below mtr i n e =
      let all = closed_at keep i.later mtr i.earlier (subst (IsClosed keep) i.split_is closed) i.kept n e in
      filter-swap (changes_page n) keep made
      ∙ ap (λ (ms : History). filter keep (touching n ms)) i.split_is
      ∙ ap (filter keep) (touching-append n i.later (mtr ∷ i.earlier) ∙ ap (λ (ms : History). touching n i.later ++ ms) (touching-in n mtr i.earlier e))
      ∙ filter-append keep (touching n i.later) (mtr ∷ touching n i.earlier)
      ∙ ap (λ (ms : History). filter keep (touching n i.later) ++ ms) (filter-in keep mtr (touching n i.earlier) i.kept ∙ ap (λ (ms : History). mtr ∷ ms) (filter_all keep (touching n i.earlier) all))

  module _ (cut : History) (order : (n : ℕ) → touching n cut ≡ touching n (filter keep made)) where
    cut_from : (front rest : History) → cut ≡ front ++ rest → AllByRecursion (IsKeptIn keep made) rest → IsCut made rest
    cut_from front [] e all = tt
    cut_from front (mtr ∷ rest) e all = (
      record {
        later = all.0.later;
        earlier = all.0.earlier;
        split_is = all.0.split_is;
        same = λ n t.
            let split : touching n cut ≡ touching n front ++ mtr ∷ touching n rest =
            ap (touching n) e ∙ touching-append n front (mtr ∷ rest) ∙ ap (λ (ms : History). touching n front ++ ms) (touching-in n mtr rest t) in
            let strict : Strict (touching n cut) = subst Strict (sym (order n ∙ filter-swap (changes_page n) keep made)) (strict_filter keep (touching n made) (touching_strict n made rise)) in
            one_place (touching n front) (filter keep (touching n all.0.later)) mtr (touching n rest) (touching n all.0.earlier)
            (subst Strict split strict) (sym split ∙ order n ∙ kept_below mtr all.0 n t);
      },
      cut_from (front ++ mtr ∷ []) rest (e ∙ append_middle front mtr rest) all.1,
    )

  -- in the order of making
  pub made_is_cut : IsCut made (filter keep made)
  made_is_cut = cut_from (filter keep made) (λ n. refl) [] (filter keep made) refl (kept_in keep made [] made refl)

  rise_filter : (ms : History) → Rise ms → Rise (filter keep ms)
  rise_filter [] h = tt
  rise_filter (mtr ∷ ms) h = elim (decided (keep mtr)) [
    | inl k ↦ subst Rise (sym (filter-in keep mtr ms k))
        (λ n e. subst (AllByRecursion (λ (x : Mtr). x.llsn < mtr.llsn)) (filter-swap keep (changes_page n) ms) (All-filter (λ (x : Mtr). x.llsn < mtr.llsn) keep (touching n ms) (h.0 n e)), rise_filter ms h.1)
    | inr k ↦ subst Rise (sym (filter-out keep mtr ms k)) (rise_filter ms h.1)
  ]

  -- in the order of logs
  pub logged_is_cut : AllByRecursion HasNode made → IsCut made (in_log_order (filter keep made))
  logged_is_cut nodes =
      let all = kept_in keep made [] made refl in
      cut_from (in_log_order (filter keep made)) (λ n. touching_order n (filter keep made) (All-filter HasNode keep made nodes) (rise_filter made rise)) [] (in_log_order (filter keep made)) refl
      (all_reverse log_place (IsKeptIn keep made) (sorted_by log_place (reverse (filter keep made))) (all_sorted log_place (IsKeptIn keep made) (reverse (filter keep made)) (all_reverse log_place (IsKeptIn keep made) (filter keep made) all)))
