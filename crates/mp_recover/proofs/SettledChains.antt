-- A walk down a whole chain ends at its first version that counts.
use Rattle.std.proofs.Common.{◌≡◌, ◌≢◌, ℕ, zero, suc, ◌+◌, ◌*◌, ◌<◌, ◌≤◌, ◌==◌, Bool, true, false, IsTrue, List, [], ◌∷◌, length, map, Option, Some, None, refl, sym, ap, subst, ◌∙◌, inl, inr, arith}
use Rattle.std.specs.List.{AllByRecursion}
use Rattle.std.proofs.lemmas.Bool.{cases_Bool, cases_eq, and_parts, ltb-true, eq-eqb}
use Rattle.std.proofs.lemmas.List.{length-map}
use mathlib.Core.Bool.{false≢true}
use Rattle.mp_model.specs.declared.ids.TrxId.{TrxId}
use Rattle.mp_cells.specs.declared.rows.Link.{Link}
use Rattle.mp_cells.specs.declared.rows.Row.{Row}
use Rattle.mp_cells.specs.Rows.{IsRow, is_origin, is_writer, is_link}
use Rattle.mp_cells.specs.Trees.{uses, one_if, IsUnwritten}
use Rattle.mp_cells.proofs.Uses.{AllBelow, length_most, one_if-other}
use Rattle.mp_histories.specs.Chains.{UndoMap, row_over, IsChain}
use Rattle.mp_histories.proofs.ChainFacts.{chain_one}
use Rattle.mp_histories.proofs.Lists.{some_same, none_some}
use Rattle.mp_recover.specs.Settled.{is_counted, first_counted}
use Rattle.mp_recover.specs.Settling.{step_down, steps_down, most_steps}
use Rattle.mp_recover.proofs.SettledPages.{steps_fixed, steps_are}

-- each undo record of the 4,096 pages is a row that a page may keep
abbrev pub SoundUndo : UndoMap → Type 0
SoundUndo undo = (link : Link) (row : Row) → link.page < 4096 → undo link ≡ Some row → IsRow row

-- a row with a link has a writer, and the link lies in the 4,096 pages
pub record IsLinked (row : Row) (link : Link) : Type 0 where
  pub page : link.page < 4096
  pub index : link.index < 15
  pub writer : row.writer ≢ None

by_origin : (writer : Option TrxId) (link : Link) → IsTrue (is_origin writer (Some link)) → (writer ≢ None) × IsTrue (is_link link)
by_origin None link h = absurd (false≢true h)
by_origin (Some id) link h = ((λ e. none_some id (sym e)), (and_parts (is_writer id) (is_link link) h).1)

pub linked_row : (row : Row) (link : Link) → IsRow row → row.link ≡ Some link → IsLinked row link
linked_row row link is e =
    let origin = by_origin row.writer link (subst (λ (l : Option Link). IsTrue (is_origin row.writer l)) e is.origin) in
    let parts = and_parts _ _ origin.1 in
    record { page = ltb-true link.page 4096 (and_parts _ _ parts.0).1; index = ltb-true link.index 15 parts.1; writer = origin.0 }

-- the rows of a chain are such rows
pub chain_rows : (undo : UndoMap) (versions : List Row) (last : Row) → SoundUndo undo → IsRow (row_over versions last) → IsChain undo versions last → AllByRecursion IsRow versions
chain_rows undo [] last sound is chain = tt
chain_rows undo (v ∷ vs) last sound is chain =
    let links = chain.0 in
    (is, chain_rows undo vs last sound (sound links.link (row_over vs last) (linked_row v links.link is links.linked).page links.there) chain.1)

-- ---- how long a chain is

-- a number for each link
abbrev pub link_number : Option Link → ℕ
link_number None = 0
link_number (Some link) = 16 * link.page + link.index

abbrev pub numbers_of : List Row → List ℕ
numbers_of rows = map (λ row. link_number row.link) rows

same_link : (a b : Link) → a.index < 15 → b.index < 15 → 16 * a.page + a.index ≡ 16 * b.page + b.index → a ≡ b
same_link a b small small' e =
    let index : a.index ≡ b.index = omega (arith, small, small', e) in
    let page : a.page ≡ b.page = omega (arith, small, small', e) in
    ap (λ (p : ℕ). record { page = p; index = a.index }) page ∙ ap (λ (i : ℕ). record { page = b.page; index = i }) index

module _ (undo : UndoMap) (last : Row) (link : Link) (small : link.index < 15) (below : List Row) (chain : IsChain undo below last) (there : undo link ≡ Some (row_over below last)) where
  not_again : (vs : List Row) → AllByRecursion IsRow vs → IsChain undo vs last → length vs ≤ length below → uses (16 * link.page + link.index) (numbers_of vs) ≡ 0
  not_again [] rows vs_chain le = refl
  not_again (v ∷ vs) rows vs_chain le =
      let links = vs_chain.0 in
      let at : link_number v.link ≡ 16 * links.link.page + links.link.index = ap link_number links.linked in
      let apart : link_number v.link ≢ 16 * link.page + link.index = λ e.
      let one : links.link ≡ link = same_link links.link link (linked_row v links.link rows.0 links.linked).index small (sym at ∙ e) in
      let next : row_over vs last ≡ row_over below last = some_same _ _ (sym links.there ∙ ap undo one ∙ there) in
      let same = chain_one undo vs below last last vs_chain.1 chain next in
      let long : length vs ≡ length below = ap length same.rows in
      omega (arith, long, le) in
      let rest = not_again vs rows.1 vs_chain.1 (omega (arith, le)) in
      omega (arith, one_if-other (link_number v.link) (16 * link.page + link.index) apart, rest)

numbers_below : (undo : UndoMap) (vs : List Row) (last : Row) → AllByRecursion IsRow vs → IsChain undo vs last → AllBelow 65536 (numbers_of vs)
numbers_below undo [] last rows chain = tt
numbers_below undo (v ∷ vs) last rows chain =
    let links = chain.0 in
    let at : link_number v.link ≡ 16 * links.link.page + links.link.index = ap link_number links.linked in
    let range = linked_row v links.link rows.0 links.linked in
    (omega (arith, at, range.page, range.index), numbers_below undo vs last rows.1 chain.1)

once : (undo : UndoMap) (vs : List Row) (last : Row) → AllByRecursion IsRow vs → IsChain undo vs last → (n : ℕ) → uses n (numbers_of vs) ≤ 1
once undo [] last rows chain n = omega arith
once undo (v ∷ vs) last rows chain n = elim (cases_eq (link_number v.link) n) [
  | inl e ↦
      (let links = chain.0 in
      let at : link_number v.link ≡ 16 * links.link.page + links.link.index = ap link_number links.linked in
      let range = linked_row v links.link rows.0 links.linked in
      let none = not_again undo last links.link range.index vs chain.1 links.there vs rows.1 chain.1 (omega arith) in
      let none' : uses n (numbers_of vs) ≡ 0 = subst (λ (k : ℕ). uses k (numbers_of vs) ≡ 0) (sym at ∙ e) none in
      omega (arith, none', one_if_most (link_number v.link == n)))
  | inr apart ↦ (let rest = once undo vs last rows.1 chain.1 n in omega (arith, rest, one_if-other (link_number v.link) n apart))
]
  where
    one_if_most : (b : Bool) → one_if b ≤ 1
    one_if_most true = omega arith
    one_if_most false = omega arith

pub chain_short : (undo : UndoMap) (versions : List Row) (last : Row) → AllByRecursion IsRow versions → IsChain undo versions last → length versions ≤ 65536
chain_short undo versions last rows chain =
    let few = length_most 65536 (numbers_of versions) (numbers_below undo versions last rows chain) (λ n lt. once undo versions last rows chain n) in
    omega (arith, few, length-map versions (λ (row : Row). link_number row.link))

-- ---- the walk

counted_stays : (ids : List TrxId) (undo : UndoMap) (row : Row) → is_counted ids row.writer ≡ true → step_down ids undo row ≡ row
counted_stays ids undo row counts = rw counts refl

goes_down : (ids : List TrxId) (undo : UndoMap) (row next : Row) (link : Link) → is_counted ids row.writer ≡ false → row.link ≡ Some link → undo link ≡ Some next → next.key ≡ row.key → step_down ids undo row ≡ next
goes_down ids undo row next link not_counts linked there key =
    let test : (next.key == row.key) ≡ true = eq-eqb next.key row.key key in
    rw (not_counts, linked, there, test) refl

pub walked_down : (ids : List TrxId) (undo : UndoMap) (key : ℕ) (versions : List Row) (last : Row) (steps : ℕ) → IsChain undo versions last → AllByRecursion (λ v. v.key ≡ key) versions → last.key ≡ key
    → is_counted ids last.writer ≡ true → length versions ≤ steps → steps_down steps ids undo (row_over versions last) ≡ first_counted ids versions last
walked_down ids undo key [] last steps chain keys end counts few = steps_fixed steps ids undo last (counted_stays ids undo last counts)
walked_down ids undo key (v ∷ vs) last zero chain keys end counts few = absurd (omega (arith, few))
walked_down ids undo key (v ∷ vs) last (suc steps) chain keys end counts few = elim (cases_Bool (is_counted ids v.writer)) [
  | inl yes_ ↦ steps_fixed (suc steps) ids undo v (counted_stays ids undo v yes_) ∙ sym (rw yes_ refl)
  | inr no_ ↦
      ap (steps_down steps ids undo) (goes_down ids undo v (row_over vs last) chain.0.link no_ chain.0.linked chain.0.there (over_key vs keys.1 ∙ sym keys.0))
      ∙ walked_down ids undo key vs last steps chain.1 keys.1 end counts (omega (arith, few)) ∙ sym (rw no_ refl)
]
  where
    over_key : (rows : List Row) → AllByRecursion (λ w. w.key ≡ key) rows → (row_over rows last).key ≡ key
    over_key [] all = end
    over_key (row ∷ rows) all = all.0

pub chain_walked : (ids : List TrxId) (undo : UndoMap) (key : ℕ) (versions : List Row) (last : Row) → SoundUndo undo → IsRow (row_over versions last) → IsChain undo versions last
    → AllByRecursion (λ v. v.key ≡ key) versions → last.key ≡ key → IsUnwritten last → steps_down most_steps ids undo (row_over versions last) ≡ first_counted ids versions last
chain_walked ids undo key versions last sound is chain keys end unwritten =
    let few = chain_short undo versions last (chain_rows undo versions last sound is chain) chain in
    walked_down ids undo key versions last most_steps chain keys end (rw unwritten refl) (omega (arith, few, steps_are))
