-- Chains stay where undo records stay, one version fixes its chain, and below a version lies a chain.
use Rattle.std.proofs.Common.{◌++◌, ◌≡◌, List, [], ◌∷◌, Option, Some, None, refl, sym, ap, subst, ◌∙◌, inl, inr}
use Rattle.mp_model.specs.declared.ids.TrxId.{TrxId}
use Rattle.mp_cells.specs.declared.rows.Link.{Link}
use Rattle.mp_cells.specs.declared.rows.Row.{Row}
use Rattle.mp_histories.specs.KeyOps.{same_writer, without_leading, below_top}
use Rattle.mp_histories.specs.Histories.{Version, by_version, rows_of_versions}
use Rattle.mp_histories.specs.Chains.{UndoMap, row_over, LinksTo, IsChain, IsWalk}
use Rattle.mp_histories.proofs.Writers.{decided}
use Rattle.mp_histories.proofs.Live.{leading-same, leading-other}
use Rattle.mp_histories.proofs.Lists.{some_same, none_some}

-- each undo record of the one is one of the other
abbrev pub Within : UndoMap → UndoMap → Type 0
Within old new = (link : Link) (row : Row) → old link ≡ Some row → new link ≡ Some row

pub links_more : (old new : UndoMap) → Within old new → (row next : Row) → LinksTo old row next → LinksTo new row next
links_more old new more row next h = record { link = h.link; linked = h.linked; there = more h.link next h.there }

pub chain_more : (old new : UndoMap) → Within old new → (rows : List Row) (last : Row) → IsChain old rows last → IsChain new rows last
chain_more old new more [] last h = h
chain_more old new more (row ∷ rows) last h = (links_more old new more row (row_over rows last) h.0, chain_more old new more rows last h.1)

pub record AreOne (vs ws : List Row) (last other : Row) : Type 0 where
  pub rows : vs ≡ ws
  pub end : last ≡ other

-- a link leads to one row
pub links_one : (undo : UndoMap) (row next other : Row) → LinksTo undo row next → LinksTo undo row other → next ≡ other
links_one undo row next other h k =
    let same : h.link ≡ k.link = some_same h.link k.link (sym h.linked ∙ k.linked) in
    some_same next other (sym h.there ∙ ap undo same ∙ k.there)

not_last : (undo : UndoMap) (row next : Row) → LinksTo undo row next → row.link ≡ None → ⊥
not_last undo row next h e = none_some h.link (sym e ∙ h.linked)

pub chain_one : (undo : UndoMap) (vs ws : List Row) (last other : Row) → IsChain undo vs last → IsChain undo ws other → row_over vs last ≡ row_over ws other → AreOne vs ws last other
chain_one undo [] [] last other h k e = record { rows = refl; end = e }
chain_one undo [] (w ∷ ws) last other h k e = absurd (not_last undo w (row_over ws other) k.0 (subst (λ (r : Row). r.link ≡ None) e h))
chain_one undo (v ∷ vs) [] last other h k e = absurd (not_last undo v (row_over vs last) h.0 (subst (λ (r : Row). r.link ≡ None) (sym e) k))
chain_one undo (v ∷ vs) (w ∷ ws) last other h k e =
    let next : row_over vs last ≡ row_over ws other = links_one undo w (row_over vs last) (row_over ws other) (subst (λ (r : Row). LinksTo undo r (row_over vs last)) e h.0) k.0 in
    let rest = chain_one undo vs ws last other h.1 k.1 next in
    record { rows = ap (λ (r : Row). r ∷ vs) e ∙ ap (λ (rs : List Row). w ∷ rs) rest.rows; end = rest.end }

-- without the leading versions of a writer it is a chain
chain_leading : (undo : UndoMap) (w : Option TrxId) (vs : List Version) (last : Row) → IsChain undo (rows_of_versions vs) last → IsChain undo (rows_of_versions (without_leading by_version w vs)) last
chain_leading undo w [] last h = h
chain_leading undo w (v ∷ vs) last h = elim (decided (same_writer (by_version v) w)) [
  | inl e ↦ subst (λ (xs : List Version). IsChain undo (rows_of_versions xs) last) (sym (leading-same by_version w v vs e)) (chain_leading undo w vs last h.1)
  | inr e ↦ subst (λ (xs : List Version). IsChain undo (rows_of_versions xs) last) (sym (leading-other by_version w v vs e)) h
]

pub chain_below : (undo : UndoMap) (vs : List Version) (last : Row) → IsChain undo (rows_of_versions vs) last → IsChain undo (rows_of_versions (below_top by_version vs)) last
chain_below undo [] last h = h
chain_below undo (v ∷ vs) last h = chain_leading undo (by_version v) vs last h.1

-- a walk down the links of a chain sees its rows, in order
pub record SeesFirst (seen all : List Row) : Type 0 where
  pub rest : List Row
  pub sees : seen ++ rest ≡ all

pub walk_sees : (undo : UndoMap) (rows : List Row) (last row : Row) (walked : List Row) → IsChain undo rows last → row ≡ row_over rows last → IsWalk undo row walked → SeesFirst (row ∷ walked) (rows ++ last ∷ [])
walk_sees undo [] last row [] chain e walk = record { rest = []; sees = ap (λ (r : Row). r ∷ []) e }
walk_sees undo (first ∷ rows) last row [] chain e walk = record { rest = rows ++ last ∷ []; sees = ap (λ (r : Row). r ∷ (rows ++ last ∷ [])) e }
walk_sees undo [] last row (next ∷ walked) chain e walk = absurd (not_last undo row next walk.0 (ap (λ (r : Row). r.link) e ∙ chain))
walk_sees undo (first ∷ rows) last row (next ∷ walked) chain e walk =
    let same : next ≡ row_over rows last = links_one undo first next (row_over rows last) (subst (λ (r : Row). LinksTo undo r next) e walk.0) chain.0 in
    let more = walk_sees undo rows last next walked chain.1 same walk.1 in
    record { rest = more.rest; sees = ap (λ (r : Row). r ∷ (next ∷ walked ++ more.rest)) e ∙ ap (λ (rs : List Row). first ∷ rs) more.sees }
