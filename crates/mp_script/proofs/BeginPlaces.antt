-- The order of transactions by their names is that of their `begin` lines.
use Rattle.std.proofs.Common.{◌≡◌, ℕ, zero, suc, ◌+◌, ◌<◌, ◌==◌, ◌&&◌, Bool, true, false, cond, List, [], ◌∷◌, map, filter, slice_get, Some, refl, ap, subst, ◌∙◌, inl, inr, arith, eq-eqb}
use Rattle.std.specs.Option.{option_map}
use Rattle.std.proofs.lemmas.Bool.{eqb-true, and_from, and_parts, cases_Bool}
use Rattle.mp_machine.specs.Lists.{IsIn}
use Rattle.mp_model.specs.declared.ids.TrxName.{TrxName}
use Rattle.mp_script.specs.declared.statements.Line.{Line}
use Rattle.mp_script.specs.Execution.{line_at, stmt_in}
use Rattle.mp_script.specs.Transactions.{begins, line_place}
use Rattle.mp_script.specs.BeginNames.{name_of_line, begin_names}
use Rattle.mp_script.proofs.Options.{some_is, not_some}
use Rattle.mp_script.proofs.Ordered.{from_map, from_filter}
use Rattle.mp_script.proofs.ScriptLines.{IndexesRise, got_in}

-- a line doesn't match a statement of another session or number
place_past : (x : Line) (lines : List Line) (session index : ℕ) → (x.session == session && x.index == index) ≡ false → line_place (x ∷ lines) session index ≡ line_place lines session index + 1
place_past x lines session index e = ap (λ (b : Bool). cond b 0 (line_place lines session index + 1)) e

place_here : (x : Line) (lines : List Line) (session index : ℕ) → (x.session == session && x.index == index) ≡ true → line_place (x ∷ lines) session index ≡ 0
place_here x lines session index e = ap (λ (b : Bool). cond b 0 (line_place lines session index + 1)) e

-- one of the lines below has another session or number
not_matched : (x : Line) (lines : List Line) → IndexesRise (x ∷ lines) → (y : Line) → IsIn y lines → (x.session == y.session && x.index == y.index) ≡ false
not_matched x lines rise y there = elim (cases_Bool (x.session == y.session && x.index == y.index)) [
  | inl e ↦
      let both = and_parts (x.session == y.session) (x.index == y.index) e in
      let lt = rise.0 y there (eqb-true x.session y.session both.0) in
      let same = eqb-true x.index y.index both.1 in
      absurd (omega (arith, lt, same))
  | inr e ↦ e
]

-- a name is of a line that begins
name_line : (lines : List Line) (name : TrxName) → IsIn name (begin_names lines) → (y : Line) × IsIn y lines × (name_of_line y ≡ name)
name_line lines name there =
    let y = from_map name_of_line (filter (λ line. begins (Some line.stmt)) lines) name there in
    (y.0, from_filter (λ line. begins (Some line.stmt)) y.0 lines y.1, y.2)

names_kept : (x : Line) (lines : List Line) → begins (Some x.stmt) ≡ true → begin_names (x ∷ lines) ≡ name_of_line x ∷ begin_names lines
names_kept x lines e = ap (λ (b : Bool). map name_of_line (cond b (x ∷ filter (λ (line : Line). begins (Some line.stmt)) lines) (filter (λ (line : Line). begins (Some line.stmt)) lines))) e

names_dropped : (x : Line) (lines : List Line) → begins (Some x.stmt) ≡ false → begin_names (x ∷ lines) ≡ begin_names lines
names_dropped x lines e = ap (λ (b : Bool). map name_of_line (cond b (x ∷ filter (λ (line : Line). begins (Some line.stmt)) lines) (filter (λ (line : Line). begins (Some line.stmt)) lines))) e

-- the place of a name below a line is one more than its place in the lines below
below_line : (x : Line) (lines : List Line) → IndexesRise (x ∷ lines) → (name : TrxName) → IsIn name (begin_names lines) → line_place (x ∷ lines) name.session name.first ≡ line_place lines name.session name.first + 1
below_line x lines rise name there =
    let y = name_line lines name there in
    subst (λ (n : TrxName). line_place (x ∷ lines) n.session n.first ≡ line_place lines n.session n.first + 1) y.2 (place_past x lines (y.0).session (y.0).index (not_matched x lines rise y.0 y.1))

pub places_rise : (lines : List Line) → IndexesRise lines → (i j : ℕ) (a b : TrxName) → i < j → slice_get (begin_names lines) i ≡ Some a → slice_get (begin_names lines) j ≡ Some b → line_place lines a.session a.first < line_place lines b.session b.first
places_rise [] rise i j a b lt e g = absurd (not_some a e)
places_rise (x ∷ lines) rise i j a b lt e g = elim (cases_Bool (begins (Some x.stmt))) [
  | inl t ↦ here i j lt (subst (λ (ns : List TrxName). slice_get ns i ≡ Some a) (names_kept x lines t) e) (subst (λ (ns : List TrxName). slice_get ns j ≡ Some b) (names_kept x lines t) g) (λ k l. places_rise lines rise.1 k l a b)
  | inr t ↦
      let e' = subst (λ (ns : List TrxName). slice_get ns i ≡ Some a) (names_dropped x lines t) e in
      let g' = subst (λ (ns : List TrxName). slice_get ns j ≡ Some b) (names_dropped x lines t) g in
      let rest = places_rise lines rise.1 i j a b lt e' g' in
      let pa = below_line x lines rise a (got_in (begin_names lines) i a e') in
      let pb = below_line x lines rise b (got_in (begin_names lines) j b g') in
      omega (arith, rest, pa, pb)
]
  where
    here : (k l : ℕ) → k < l → slice_get (name_of_line x ∷ begin_names lines) k ≡ Some a → slice_get (name_of_line x ∷ begin_names lines) l ≡ Some b
        → ((m n : ℕ) → m < n → slice_get (begin_names lines) m ≡ Some a → slice_get (begin_names lines) n ≡ Some b → line_place lines a.session a.first < line_place lines b.session b.first)
        → line_place (x ∷ lines) a.session a.first < line_place (x ∷ lines) b.session b.first
    here zero zero less p q rest = absurd (omega (arith, less))
    here zero (suc l) less p q rest =
        let is : name_of_line x ≡ a = some_is (name_of_line x) a p in
        let first : line_place (x ∷ lines) a.session a.first ≡ 0 = subst (λ (n : TrxName). line_place (x ∷ lines) n.session n.first ≡ 0) is (place_here x lines x.session x.index (and_from (x.session == x.session) (x.index == x.index) (eq-eqb x.session x.session refl) (eq-eqb x.index x.index refl))) in
        let pb = below_line x lines rise b (got_in (begin_names lines) l b q) in
        omega (arith, first, pb)
    here (suc k) zero less p q rest = absurd (omega (arith, less))
    here (suc k) (suc l) less p q rest =
        let lower = rest k l (omega (arith, less)) p q in
        let pa = below_line x lines rise a (got_in (begin_names lines) k a p) in
        let pb = below_line x lines rise b (got_in (begin_names lines) l b q) in
        omega (arith, lower, pa, pb)

-- the line of a name begins
pub name_begins : (lines : List Line) → IndexesRise lines → (i : ℕ) (name : TrxName) → slice_get (begin_names lines) i ≡ Some name → begins (stmt_in lines name.session name.first) ≡ true
name_begins [] rise i name e = absurd (not_some name e)
name_begins (x ∷ lines) rise i name e = elim (cases_Bool (begins (Some x.stmt))) [
  | inl t ↦ here i (subst (λ (ns : List TrxName). slice_get ns i ≡ Some name) (names_kept x lines t) e) t (λ k. name_begins lines rise.1 k name)
  | inr t ↦
      let e' = subst (λ (ns : List TrxName). slice_get ns i ≡ Some name) (names_dropped x lines t) e in
      past (got_in (begin_names lines) i name e') (name_begins lines rise.1 i name e')
]
  where
    past : IsIn name (begin_names lines) → begins (stmt_in lines name.session name.first) ≡ true → begins (stmt_in (x ∷ lines) name.session name.first) ≡ true
    past there so =
        let y = name_line lines name there in
        let other : (x.session == name.session && x.index == name.first) ≡ false = subst (λ (n : TrxName). (x.session == n.session && x.index == n.first) ≡ false) y.2 (not_matched x lines rise y.0 y.1) in
        ap (λ (b : Bool). begins (option_map (λ (l : Line). l.stmt) (cond b (Some x) (line_at lines name.session name.first)))) other ∙ so

    here : (k : ℕ) → slice_get (name_of_line x ∷ begin_names lines) k ≡ Some name → begins (Some x.stmt) ≡ true → ((m : ℕ) → slice_get (begin_names lines) m ≡ Some name → begins (stmt_in lines name.session name.first) ≡ true) → begins (stmt_in (x ∷ lines) name.session name.first) ≡ true
    here zero p t rest =
        let is : name_of_line x ≡ name = some_is (name_of_line x) name p in
        let test : (x.session == name.session && x.index == name.first) ≡ true = subst (λ (n : TrxName). (x.session == n.session && x.index == n.first) ≡ true) is (and_from (x.session == x.session) (x.index == x.index) (eq-eqb x.session x.session refl) (eq-eqb x.index x.index refl)) in
        ap (λ (b : Bool). begins (option_map (λ (l : Line). l.stmt) (cond b (Some x) (line_at lines name.session name.first)))) test ∙ t
    here (suc k) p t rest = past (got_in (begin_names lines) k name p) (rest k p)
