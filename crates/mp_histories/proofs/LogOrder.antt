-- Page by page the order of logs is the order of making.
use Rattle.std.proofs.Common.{◌≡◌, ℕ, ◌<◌, ◌≤◌, [], ◌∷◌, reverse, sym, ap, subst, ◌∙◌, inl, inr, arith}
use Rattle.std.specs.List.{AllByRecursion}
use Rattle.std.proofs.lemmas.List.{reverse-reverse}
use Rattle.mp_cells.specs.declared.records.Mtr.{Mtr}
use Rattle.mp_cells.specs.Orders.{sorted_by}
use Rattle.mp_cells.proofs.KeyEdits.{All-filter}
use Rattle.mp_histories.specs.Histories.{History, touching}
use Rattle.mp_histories.specs.Cuts.{Rise, log_place, in_log_order}
use Rattle.mp_histories.proofs.Writers.{decided}
use Rattle.mp_histories.proofs.ByPages.{changes_page, touching-in, touching-out}
use Rattle.mp_histories.proofs.Sorting.{Descends, filter-reverse, filter_sorted, sorted_already, ascends_reverse}

-- a node that there may be
abbrev pub HasNode : Mtr → Type 0
HasNode mtr = mtr.node ≤ 8

places_below : (mtr : Mtr) (made : History) → AllByRecursion HasNode made → AllByRecursion (λ earlier. earlier.llsn < mtr.llsn) made → AllByRecursion (λ earlier. log_place earlier ≤ log_place mtr) made
places_below mtr [] nodes h = tt
places_below mtr (earlier ∷ made) nodes h = (omega (arith, nodes.0, h.0), places_below mtr made nodes.1 h.1)

touching_descends : (n : ℕ) (made : History) → AllByRecursion HasNode made → Rise made → Descends log_place (touching n made)
touching_descends n [] nodes rise = tt
touching_descends n (mtr ∷ made) nodes rise = elim (decided (changes_page n mtr)) [
  | inl e ↦
      subst (Descends log_place) (sym (touching-in n mtr made e))
      (places_below mtr (touching n made) (All-filter HasNode (changes_page n) made nodes.1) (rise.0 n e), touching_descends n made nodes.1 rise.1)
  | inr e ↦ subst (Descends log_place) (sym (touching-out n mtr made e)) (touching_descends n made nodes.1 rise.1)
]

pub touching_order : (n : ℕ) (made : History) → AllByRecursion HasNode made → Rise made → touching n (in_log_order made) ≡ touching n made
touching_order n made nodes rise =
    let p = changes_page n in
    filter-reverse p (sorted_by log_place (reverse made))
    ∙ ap reverse (
    filter_sorted log_place p (reverse made)
    ∙ ap (sorted_by log_place) (filter-reverse p made)
    ∙ sorted_already log_place (reverse (touching n made)) (ascends_reverse log_place (touching n made) (touching_descends n made nodes rise)))
    ∙ reverse-reverse (touching n made)
