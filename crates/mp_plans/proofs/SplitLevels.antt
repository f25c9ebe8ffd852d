-- A page of the tree is split, and its parent gets the right part as one more child: every level fits again, and the rows
-- are the same.
use Rattle.std.proofs.Common.{◌≡◌, ◌≢◌, ℕ, zero, suc, ◌+◌, ◌≤◌, ◌==◌, List, [], ◌∷◌, ◌++◌, refl, sym, ap, subst, ◌∙◌, inl, inr, arith}
use Rattle.std.specs.List.{flat_map}
use Rattle.std.proofs.lemmas.Bool.{cases_eq, cases_lt}
use Rattle.std.proofs.lemmas.List.{append_assoc}
use Rattle.mp_cells.specs.declared.kinds.Kind.{Kind}
use Rattle.mp_cells.specs.declared.kinds.Kind.TheVariants.{Leaf, Inner}
use Rattle.mp_cells.specs.declared.children.Child.{Child}
use Rattle.mp_cells.specs.PageView.{PageView}
use Rattle.mp_cells.specs.Trees.{PageMap, top, Fits, below, Levels, leaves, pages_under, one_if, uses, rows_under}
use Rattle.mp_cells.proofs.Uses.{uses-append, uses-head, one_if-same, one_if-other}
use Rattle.mp_cells.proofs.Heights.{numbers, level_uses}
use Rattle.mp_cells.proofs.Places.{not_in_level, numbers-append}
use Rattle.mp_plans.proofs.Halves.{split_at, split_at-none, split_at-here, split_at-other, split_at-append, low_of-split}

-- ---- where no page changed

fits_on : (pages new : PageMap) (kind : Kind) (high : ℕ) (level : List Child) → ((n : ℕ) → 1 ≤ uses n (numbers level) → new n ≡ pages n) → Fits pages kind high level → Fits new kind high level
fits_on pages new kind high [] same f = tt
fits_on pages new kind high (child ∷ level) same f =
    let here : new child.page ≡ pages child.page = same child.page (omega (arith, one_if-same child.page)) in (
      ap (λ (p : PageView). p.kind) here ∙ f.0,
      ap (λ (p : PageView). p.low) here ∙ f.1,
      ap (λ (p : PageView). p.high) here ∙ f.2,
      fits_on pages new kind high level (λ n h. same n (omega (arith, h))) f.3,
    )

flat_on : {T : Type 0} (F : PageView → List T) (pages new : PageMap) (level : List Child) → ((n : ℕ) → 1 ≤ uses n (numbers level) → new n ≡ pages n) → flat_map (λ (c : Child). F (new c.page)) level ≡ flat_map (λ (c : Child). F (pages c.page)) level
flat_on F pages new [] same = refl
flat_on {T} F pages new (child ∷ level) same =
    let here : new child.page ≡ pages child.page = same child.page (omega (arith, one_if-same child.page)) in
    ap (λ (p : PageView). F p ++ flat_map (λ (c : Child). F (new c.page)) level) here
    ∙ ap (λ (xs : List T). F (pages child.page) ++ xs) (flat_on F pages new level (λ n h. same n (omega (arith, h))))

-- levels, their pages and their rows, after a change
pub record After (pages new : PageMap) (height : ℕ) (level level' : List Child) (more : ℕ → ℕ) : Type 0 where
  pub levels : Levels new height level'
  pub numbers : (n : ℕ) → uses n (pages_under new height level') ≡ uses n (pages_under pages height level) + more n
  pub rows : rows_under new (leaves new height level') ≡ rows_under pages (leaves pages height level)

pub levels_on : (pages new : PageMap) (height : ℕ) (level : List Child) → ((n : ℕ) → 1 ≤ uses n (pages_under pages height level) → new n ≡ pages n) → Levels pages height level → After pages new height level level (λ n. 0)
levels_on pages new zero level same l = record { levels = fits_on pages new Leaf top level same l; numbers = λ n. omega arith; rows = flat_on (λ p. p.rows) pages new level same }
levels_on pages new (suc height) level same l =
    let here : (n : ℕ) → 1 ≤ uses n (numbers level) → new n ≡ pages n = λ n h. same n (omega (arith, h, uses-append n (numbers level) (pages_under pages height (below pages level)))) in
    let next : below new level ≡ below pages level = flat_on (λ p. p.children) pages new level here in
    let rest = levels_on pages new height (below pages level) (λ n h. same n (omega (arith, h, uses-append n (numbers level) (pages_under pages height (below pages level))))) l.1 in
    record {
      levels = (fits_on pages new Inner top level here l.0, subst (Levels new height) (sym next) rest.levels);
      numbers = λ n. omega (arith, uses-append n (numbers level) (pages_under pages height (below pages level)), uses-append n (numbers level) (pages_under new height (below new level)), ap (λ (xs : List Child). uses n (pages_under new height xs)) next, rest.numbers n);
      rows = ap (λ (xs : List Child). rows_under new (leaves new height xs)) next ∙ rest.rows;
    }

-- ---- a page m is split under its parent p

pub record Splits (pages new : PageMap) (m p : ℕ) (right : Child) : Type 0 where
  pub left_kind : (new m).kind ≡ (pages m).kind
  pub left_low : (new m).low ≡ (pages m).low
  pub left_high : (new m).high ≡ right.low
  pub right_kind : (new right.page).kind ≡ (pages m).kind
  pub right_low : (new right.page).low ≡ right.low
  pub right_high : (new right.page).high ≡ (pages m).high
  pub rows : (new m).rows ++ (new right.page).rows ≡ (pages m).rows
  pub children : (new m).children ++ (new right.page).children ≡ (pages m).children
  pub parent_before : (pages p).kind ≡ Inner
  pub parent_kind : (new p).kind ≡ Inner
  pub parent_low : (new p).low ≡ (pages p).low
  pub parent_high : (new p).high ≡ (pages p).high
  pub parent_children : (new p).children ≡ split_at m right (pages p).children
  pub has_child : 1 ≤ uses m (numbers (pages p).children)
  pub others : (n : ℕ) → n ≢ m → n ≢ p → n ≢ right.page → new n ≡ pages n

module _ (pages new : PageMap) (m p : ℕ) (right : Child) (s : Splits pages new m p right) where
  -- a number that is used where another isn't
  other_than : (n k : ℕ) (xs : List ℕ) → 1 ≤ uses n xs → uses k xs ≡ 0 → n ≢ k
  other_than n k xs h none = λ (e : n ≡ k). absurd (omega (arith, h, none, ap (λ (j : ℕ). uses j xs) e))

  same_where : (xs : List ℕ) → uses m xs ≡ 0 → uses p xs ≡ 0 → uses right.page xs ≡ 0 → (n : ℕ) → 1 ≤ uses n xs → new n ≡ pages n
  same_where xs no_m no_p no_r n h = s.others n (other_than n m xs h no_m) (other_than n p xs h no_p) (other_than n right.page xs h no_r)

  -- the level of m
  split_fits : (kind : Kind) (high : ℕ) (level : List Child) → Fits pages kind high level → uses m (numbers level) ≤ 1 → uses p (numbers level) ≡ 0 → uses right.page (numbers level) ≡ 0 → Fits new kind high (split_at m right level)
  split_fits kind high [] f once no_p no_r = tt
  split_fits kind high (child ∷ level) f once no_p no_r = elim (cases_eq child.page m) [
    | inl same ↦
        let none : uses m (numbers level) ≡ 0 = omega (arith, once, ap (λ (n : ℕ). one_if (n == m)) same, one_if-same m) in
        let rest = fits_on pages new kind high level (same_where (numbers level) none (omega (arith, no_p)) (omega (arith, no_r))) f.3 in
        let kind_is : (pages m).kind ≡ kind = ap (λ (n : ℕ). (pages n).kind) (sym same) ∙ f.0 in
        subst (Fits new kind high) (sym (split_at-here m right child level same none)) (
          ap (λ (n : ℕ). (new n).kind) same ∙ s.left_kind ∙ kind_is,
          ap (λ (n : ℕ). (new n).low) same ∙ s.left_low ∙ ap (λ (n : ℕ). (pages n).low) (sym same) ∙ f.1,
          ap (λ (n : ℕ). (new n).high) same ∙ s.left_high,
          (s.right_kind ∙ kind_is, s.right_low, s.right_high ∙ ap (λ (n : ℕ). (pages n).high) (sym same) ∙ f.2, rest),
        )
    | inr apart ↦
        let parts_p = uses-head p child.page (numbers level) no_p in
        let parts_r = uses-head right.page child.page (numbers level) no_r in
        let here : new child.page ≡ pages child.page = s.others child.page apart parts_p.0 parts_r.0 in
        let rest = split_fits kind high level f.3 (omega (arith, once)) parts_p.1 parts_r.1 in
        subst (Fits new kind high) (sym (split_at-other m right child level apart))
        (ap (λ (q : PageView). q.kind) here ∙ f.0, ap (λ (q : PageView). q.low) here ∙ f.1, ap (λ (q : PageView). q.high) here ∙ f.2 ∙ sym (low_of-split m high right level), rest)
  ]

  split_flat : {T : Type 0} (F : PageView → List T) → F (new m) ++ F (new right.page) ≡ F (pages m) → (level : List Child) → uses m (numbers level) ≤ 1 → uses p (numbers level) ≡ 0 → uses right.page (numbers level) ≡ 0 → flat_map (λ (c : Child). F (new c.page)) (split_at m right level) ≡ flat_map (λ (c : Child). F (pages c.page)) level
  split_flat F whole [] once no_p no_r = refl
  split_flat {T} F whole (child ∷ level) once no_p no_r = elim (cases_eq child.page m) [
    | inl same ↦
        let none : uses m (numbers level) ≡ 0 = omega (arith, once, ap (λ (n : ℕ). one_if (n == m)) same, one_if-same m) in
        let rest = flat_on F pages new level (same_where (numbers level) none (omega (arith, no_p)) (omega (arith, no_r))) in
        ap (flat_map (λ (c : Child). F (new c.page))) (split_at-here m right child level same none)
        ∙ ap (λ (n : ℕ). F (new n) ++ (F (new right.page) ++ flat_map (λ (c : Child). F (new c.page)) level)) same
        ∙ sym (append_assoc (F (new m)) (F (new right.page)) (flat_map (λ (c : Child). F (new c.page)) level))
        ∙ ap (λ (xs : List T). xs ++ flat_map (λ (c : Child). F (new c.page)) level) whole
        ∙ ap (λ (xs : List T). F (pages m) ++ xs) rest
        ∙ ap (λ (n : ℕ). F (pages n) ++ flat_map (λ (c : Child). F (pages c.page)) level) (sym same)
    | inr apart ↦
        let parts_p = uses-head p child.page (numbers level) no_p in
        let parts_r = uses-head right.page child.page (numbers level) no_r in
        let here : new child.page ≡ pages child.page = s.others child.page apart parts_p.0 parts_r.0 in
        ap (flat_map (λ (c : Child). F (new c.page))) (split_at-other m right child level apart)
        ∙ ap (λ (q : PageView). F q ++ flat_map (λ (c : Child). F (new c.page)) (split_at m right level)) here
        ∙ ap (λ (xs : List T). F (pages child.page) ++ xs) (split_flat F whole level (omega (arith, once)) parts_p.1 parts_r.1)
  ]

  split_numbers : (level : List Child) → uses m (numbers level) ≡ 1 → (n : ℕ) → uses n (numbers (split_at m right level)) ≡ uses n (numbers level) + one_if (right.page == n)
  split_numbers [] once n = absurd (omega (arith, once))
  split_numbers (child ∷ level) once n = elim (cases_eq child.page m) [
    | inl same ↦
        let none : uses m (numbers level) ≡ 0 = omega (arith, once, ap (λ (k : ℕ). one_if (k == m)) same, one_if-same m) in
        omega (arith, ap (λ (xs : List Child). uses n (numbers xs)) (split_at-here m right child level same none))
    | inr apart ↦
        let rest = split_numbers level (omega (arith, once, one_if-other child.page m apart)) n in
        omega (arith, ap (λ (xs : List Child). uses n (numbers xs)) (split_at-other m right child level apart), rest)
  ]

  -- from m's level on
  split_level : (height : ℕ) (level : List Child) → Levels pages height level → uses m (numbers level) ≡ 1 → uses m (pages_under pages height level) ≡ 1 → uses p (pages_under pages height level) ≡ 0 → uses right.page (pages_under pages height level) ≡ 0 → After pages new height level (split_at m right level) (λ n. one_if (right.page == n))
  split_level zero level l here once no_p no_r = record {
    levels = split_fits Leaf top level l (omega (arith, here)) no_p no_r;
    numbers = split_numbers level here;
    rows = split_flat (λ q. q.rows) s.rows level (omega (arith, here)) no_p no_r;
  }
  split_level (suc height) level l here once no_p no_r =
      let count : (n : ℕ) → uses n (numbers level ++ pages_under pages height (below pages level)) ≡ uses n (numbers level) + uses n (pages_under pages height (below pages level)) = λ n. uses-append n (numbers level) (pages_under pages height (below pages level)) in
      let no_p1 : uses p (numbers level) ≡ 0 = omega (arith, no_p, count p) in
      let no_r1 : uses right.page (numbers level) ≡ 0 = omega (arith, no_r, count right.page) in
      let next : below new (split_at m right level) ≡ below pages level = split_flat (λ q. q.children) s.children level (omega (arith, here)) no_p1 no_r1 in
      let under = pages_under pages height (below pages level) in
      let rest = levels_on pages new height (below pages level) (same_where under (omega (arith, once, here, count m)) (omega (arith, no_p, count p)) (omega (arith, no_r, count right.page))) l.1 in
      record {
        levels = (split_fits Inner top level l.0 (omega (arith, here)) no_p1 no_r1, subst (Levels new height) (sym next) rest.levels);
        numbers = λ n. omega (arith, count n, split_numbers level here n, rest.numbers n, uses-append n (numbers (split_at m right level)) (pages_under new height (below new (split_at m right level))), ap (λ (xs : List Child). uses n (pages_under new height xs)) next);
        rows = ap (λ (xs : List Child). rows_under new (leaves new height xs)) next ∙ rest.rows;
      }

  -- m stands below p
  child_below : (level : List Child) → 1 ≤ uses p (numbers level) → 1 ≤ uses m (numbers (below pages level))
  child_below [] h = absurd (omega (arith, h))
  child_below (child ∷ level) h =
      let count : uses m (numbers (below pages (child ∷ level))) ≡ uses m (numbers (pages child.page).children) + uses m (numbers (below pages level)) = ap (uses m) (numbers-append (pages child.page).children (below pages level)) ∙ uses-append m (numbers (pages child.page).children) (numbers (below pages level)) in
      elim (cases_eq child.page p) [
        | inl same ↦ omega (arith, count, s.has_child, ap (λ (n : ℕ). uses m (numbers (pages n).children)) same)
        | inr apart ↦ omega (arith, count, child_below level (omega (arith, h, one_if-other child.page p apart)))
      ]

  child_under : (height : ℕ) (level : List Child) → Levels pages height level → 1 ≤ uses p (pages_under pages height level) → uses m (numbers level) + 1 ≤ uses m (pages_under pages height level)
  child_under zero level l h =
      let other : (pages p).kind ≢ Leaf = λ (e : (pages p).kind ≡ Leaf). let both : Inner ≡ Leaf = sym s.parent_before ∙ e in absurd cc in
      absurd (omega (arith, h, not_in_level pages Leaf top p level l other))
  child_under (suc height) level l h =
      let count : (n : ℕ) → uses n (numbers level ++ pages_under pages height (below pages level)) ≡ uses n (numbers level) + uses n (pages_under pages height (below pages level)) = λ n. uses-append n (numbers level) (pages_under pages height (below pages level)) in
      elim (cases_lt 0 (uses p (numbers level))) [
        | inl some ↦ omega (arith, count m, child_below level (omega (arith, some)), level_uses pages height (below pages level) m)
        | inr none ↦ omega (arith, count m, child_under height (below pages level) l.1 (omega (arith, h, none, count p)))
      ]

  -- p's level
  parent_fits : (high : ℕ) (level : List Child) → Fits pages Inner high level → uses m (numbers level) ≡ 0 → uses right.page (numbers level) ≡ 0 → Fits new Inner high level
  parent_fits high [] f no_m no_r = tt
  parent_fits high (child ∷ level) f no_m no_r =
      let parts_m = uses-head m child.page (numbers level) no_m in
      let parts_r = uses-head right.page child.page (numbers level) no_r in
      let rest = parent_fits high level f.3 parts_m.1 parts_r.1 in
      elim (cases_eq child.page p) [
        | inl same ↦ (ap (λ (n : ℕ). (new n).kind) same ∙ s.parent_kind, ap (λ (n : ℕ). (new n).low) same ∙ s.parent_low ∙ ap (λ (n : ℕ). (pages n).low) (sym same) ∙ f.1, ap (λ (n : ℕ). (new n).high) same ∙ s.parent_high ∙ ap (λ (n : ℕ). (pages n).high) (sym same) ∙ f.2, rest)
        | inr apart ↦
            let here : new child.page ≡ pages child.page = s.others child.page parts_m.0 apart parts_r.0 in
            (ap (λ (q : PageView). q.kind) here ∙ f.0, ap (λ (q : PageView). q.low) here ∙ f.1, ap (λ (q : PageView). q.high) here ∙ f.2, rest)
      ]

  parent_below : (level : List Child) → uses m (numbers (below pages level)) ≤ 1 → 1 ≤ uses p (numbers level) → uses p (numbers level) ≤ 1 → uses m (numbers level) ≡ 0 → uses right.page (numbers level) ≡ 0 → below new level ≡ split_at m right (below pages level)
  parent_below [] once some most no_m no_r = absurd (omega (arith, some))
  parent_below (child ∷ level) once some most no_m no_r =
      let old = (pages child.page).children in
      let count : uses m (numbers (below pages (child ∷ level))) ≡ uses m (numbers old) + uses m (numbers (below pages level)) = ap (uses m) (numbers-append old (below pages level)) ∙ uses-append m (numbers old) (numbers (below pages level)) in
      let parts_m = uses-head m child.page (numbers level) no_m in
      let parts_r = uses-head right.page child.page (numbers level) no_r in
      elim (cases_eq child.page p) [
        | inl same ↦
            let has : 1 ≤ uses m (numbers old) = omega (arith, s.has_child, ap (λ (n : ℕ). uses m (numbers (pages n).children)) same) in
            let no_p : uses p (numbers level) ≡ 0 = omega (arith, most, ap (λ (n : ℕ). one_if (n == p)) same, one_if-same p) in
            let rest : below new level ≡ below pages level = flat_on (λ q. q.children) pages new level (same_where (numbers level) parts_m.1 no_p parts_r.1) in
            let here : (new child.page).children ≡ split_at m right old = ap (λ (n : ℕ). (new n).children) same ∙ s.parent_children ∙ ap (λ (n : ℕ). split_at m right (pages n).children) (sym same) in
            ap (λ (xs : List Child). xs ++ below new level) here
            ∙ ap (λ (xs : List Child). split_at m right old ++ xs) (rest ∙ sym (split_at-none m right (below pages level) (omega (arith, once, count, has))))
            ∙ sym (split_at-append m right old (below pages level))
        | inr apart ↦
            let later : 1 ≤ uses p (numbers level) = omega (arith, some, one_if-other child.page p apart) in
            let has = child_below level later in
            let rest = parent_below level (omega (arith, once, count)) later (omega (arith, most)) parts_m.1 parts_r.1 in
            let here : new child.page ≡ pages child.page = s.others child.page parts_m.0 apart parts_r.0 in
            ap (λ (q : PageView). q.children ++ below new level) here
            ∙ ap (λ (xs : List Child). xs ++ below new level) (sym (split_at-none m right old (omega (arith, once, count, has))))
            ∙ ap (λ (xs : List Child). split_at m right old ++ xs) rest
            ∙ sym (split_at-append m right old (below pages level))
      ]

  -- from a level above m's on
  pub split_under : (height : ℕ) (level : List Child) → Levels pages height level → uses p (pages_under pages height level) ≡ 1 → uses m (pages_under pages height level) ≡ 1 → uses right.page (pages_under pages height level) ≡ 0 → After pages new height level level (λ n. one_if (right.page == n))
  split_under zero level l one_p one_m no_r = absurd (omega (arith, one_m, one_p, child_under zero level l (omega (arith, one_p)), level_uses pages zero level m, leaf_none level l))
    where
      leaf_none : (level : List Child) → Fits pages Leaf top level → uses p (numbers level) ≡ 0
      leaf_none level f = not_in_level pages Leaf top p level f (λ (e : (pages p).kind ≡ Leaf). let both : Inner ≡ Leaf = sym s.parent_before ∙ e in absurd cc)
  split_under (suc height) level l one_p one_m no_r =
      let under = below pages level in
      let count : (n : ℕ) → uses n (numbers level ++ pages_under pages height under) ≡ uses n (numbers level) + uses n (pages_under pages height under) = λ n. uses-append n (numbers level) (pages_under pages height under) in
      let no_r1 : uses right.page (numbers level) ≡ 0 = omega (arith, no_r, count right.page) in
      let no_r2 : uses right.page (pages_under pages height under) ≡ 0 = omega (arith, no_r, count right.page) in
      let lower = child_under (suc height) level l (omega (arith, one_p)) in
      let no_m1 : uses m (numbers level) ≡ 0 = omega (arith, one_m, lower) in
      let one_m2 : uses m (pages_under pages height under) ≡ 1 = omega (arith, one_m, no_m1, count m) in
      elim (cases_lt 0 (uses p (numbers level))) [
        | inl some ↦
            let some1 : 1 ≤ uses p (numbers level) = omega (arith, some) in
            let no_p2 : uses p (pages_under pages height under) ≡ 0 = omega (arith, one_p, some, count p) in
            let has = child_below level some1 in
            let here : uses m (numbers under) ≡ 1 = omega (arith, has, one_m2, level_uses pages height under m) in
            let next = parent_below level (omega (arith, here)) some1 (omega (arith, one_p, count p)) no_m1 no_r1 in
            let rest = split_level height under l.1 here one_m2 no_p2 no_r2 in
            record {
              levels = (parent_fits top level l.0 no_m1 no_r1, subst (Levels new height) (sym next) rest.levels);
              numbers = λ n. omega (arith, count n, rest.numbers n, uses-append n (numbers level) (pages_under new height (below new level)), ap (λ (xs : List Child). uses n (pages_under new height xs)) next);
              rows = ap (λ (xs : List Child). rows_under new (leaves new height xs)) next ∙ rest.rows;
            }
        | inr none ↦
            let no_p1 : uses p (numbers level) ≡ 0 = omega (arith, none) in
            let same = same_where (numbers level) no_m1 no_p1 no_r1 in
            let next : below new level ≡ under = flat_on (λ q. q.children) pages new level same in
            let rest = split_under height under l.1 (omega (arith, one_p, no_p1, count p)) one_m2 no_r2 in
            record {
              levels = (fits_on pages new Inner top level same l.0, subst (Levels new height) (sym next) rest.levels);
              numbers = λ n. omega (arith, count n, rest.numbers n, uses-append n (numbers level) (pages_under new height (below new level)), ap (λ (xs : List Child). uses n (pages_under new height xs)) next);
              rows = ap (λ (xs : List Child). rows_under new (leaves new height xs)) next ∙ rest.rows;
            }
      ]
