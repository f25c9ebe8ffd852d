-- One well-made mtr puts its row as the newest version, puts its row back, or leaves a key.
use Rattle.std.proofs.Common.{append_assoc, ◌≡◌, ◌≢◌, ℕ, suc, true, List, [], ◌∷◌, ◌++◌, length, refl, sym, ap, subst, ◌∙◌, inl, inr, arith}
use Rattle.std.specs.List.{AllByRecursion}
use Rattle.std.proofs.lemmas.Bool.{eq-eqb}
use Rattle.mp_cells.specs.declared.changes.Change.TheVariants.{RestoreRow}
use Rattle.mp_cells.specs.declared.records.Mtr.{Mtr}
use Rattle.mp_cells.specs.declared.rows.Row.{Row}
use Rattle.mp_cells.specs.Trees.{PageMap, IsClean}
use Rattle.mp_cells.specs.Plans.{Plan, plan_of}
use Rattle.mp_cells.specs.Writes.{undo_at, rows_put, rows_restored}
use Rattle.mp_histories.specs.KeyOps.{KeyOp, put, restore, below_top}
use Rattle.mp_histories.specs.Histories.{History, pages_after, Version, by_version, rows_of_versions, ops_of, ops_on, live_on}
use Rattle.mp_histories.specs.Chains.{row_over, LinksTo, row_of_key, RunsFrom, PutsVersion, PutsBack, LeavesKey}
use Rattle.mp_histories.proofs.ChainFacts.{links_more}
use Rattle.mp_histories.proofs.MtrSteps.{put_on, back_on}
use Rattle.mp_histories.proofs.Standing.{step_of, undo_stays, runs_before}
use Rattle.mp_histories.proofs.Lists.{heads_same, nothing_there}

longer_ops : (op : KeyOp Version) (ops : List (KeyOp Version)) → op ∷ ops ≡ ops → ⊥
longer_ops op ops e = let same : suc (length ops) ≡ length ops = ap (λ (xs : List (KeyOp Version)). length xs) e in omega (arith, same)

other_op : (v : Version) (ops rest : List (KeyOp Version)) → put v ∷ ops ≡ restore ∷ rest → ⊥
other_op v ops rest e = absurd cc

module _ (base : ℕ) (opening : PageMap) (clean : IsClean base opening) (made : History) (mtr : Mtr) (runs : RunsFrom opening (mtr ∷ made)) where
  put_version : (row : Row) → rows_put (plan_of mtr.records) ≡ row ∷ [] → rows_restored (plan_of mtr.records) ≡ [] → PutsVersion opening made mtr row
  put_version row puts back =
      let ops : ops_on row.key (mtr ∷ made) ≡ put (record { at = length made; row = row }) ∷ ops_on row.key made = put_on mtr row puts back row.key true (eq-eqb row.key row.key refl) made in
      elim ((step_of base opening clean mtr made runs).keys row.key) [
        | inl k ↦ absurd (longer_ops (put (record { at = length made; row = row })) (ops_on row.key made) (sym ops ∙ k.ops))
        | inr (inl k) ↦
            let same : k.version.row ≡ row = heads_same k.version.row row [] [] (sym k.puts ∙ puts) in
            record {
              ops = ops;
              now = k.row ∙ same;
              links = subst (λ (r : Row). LinksTo (undo_at (pages_after opening (mtr ∷ made))) r (row_of_key (pages_after opening made) row.key)) same k.links;
            }
        | inr (inr k) ↦ absurd (nothing_there k.put_back [] (sym back ∙ k.back))
      ]

  pub puts_version : (row : Row) → rows_put (plan_of mtr.records) ≡ row ∷ [] → PutsVersion opening made mtr row
  puts_version row puts = elim (runs.0.kind) [
    | inl p ↦ put_version row puts p.well.restores
    | inr (inl p) ↦ absurd (nothing_there row [] (sym (ap rows_put p.well.one.1) ∙ puts))
    | inr (inr p) ↦ absurd (nothing_there row [] (sym (ap (λ (plan : Plan). rows_put plan) (ap plan_of p.alone)) ∙ puts))
  ]

  -- what a restore puts back
  abbrev IsFormer : Row → Type 0
  IsFormer r = r ≡ row_over (rows_of_versions (below_top by_version (live_on r.key made))) (row_of_key opening r.key)

  back_row : (row : Row) → rows_restored (plan_of mtr.records) ≡ row ∷ [] → rows_put (plan_of mtr.records) ≡ [] → ops_on row.key (mtr ∷ made) ≡ restore ∷ ops_on row.key made → PutsBack opening made mtr row
  back_row row back none ops = elim ((step_of base opening clean mtr made runs).keys row.key) [
    | inl k ↦ absurd (longer_ops restore (ops_on row.key made) (sym ops ∙ k.ops))
    | inr (inl k) ↦ absurd (nothing_there k.version.row [] (sym none ∙ k.puts))
    | inr (inr k) ↦
        let same : k.put_back ≡ row = heads_same k.put_back row [] [] (sym k.back ∙ back) in
        let former : IsFormer row = subst IsFormer same k.former in
        record { ops = ops; now = k.row ∙ sym former; former = former }
  ]

  pub puts_back : (row : Row) → rows_restored (plan_of mtr.records) ≡ row ∷ [] → PutsBack opening made mtr row
  puts_back row back = elim (runs.0.kind) [
    | inl p ↦ absurd (nothing_there row [] (sym p.well.restores ∙ back))
    | inr (inl p) ↦
        let same : p.row ≡ row = heads_same p.row row [] [] (sym (ap rows_restored p.well.one.1) ∙ back) in
        let one : plan_of mtr.records ≡ (p.well.one.0, RestoreRow row) ∷ [] = p.well.one.1 ∙ ap (λ (r : Row). (p.well.one.0, RestoreRow r) ∷ []) same in
        back_row row back (ap rows_put p.well.one.1) (back_on mtr row p.well.one.0 one row.key true (eq-eqb row.key row.key refl) made)
    | inr (inr p) ↦ absurd (nothing_there row [] (sym (ap (λ (plan : Plan). rows_restored plan) (ap plan_of p.alone)) ∙ back))
  ]

  pub leaves_key : (key : ℕ) → AllByRecursion (λ row. row.key ≢ key) (rows_put (plan_of mtr.records)) → AllByRecursion (λ row. row.key ≢ key) (rows_restored (plan_of mtr.records)) → LeavesKey opening made mtr key
  leaves_key key puts back = elim ((step_of base opening clean mtr made runs).keys key) [
    | inl k ↦ k
    | inr (inl k) ↦ absurd ((subst (AllByRecursion (λ (row : Row). row.key ≢ key)) k.puts puts).0 k.key_is)
    | inr (inr k) ↦ absurd ((subst (AllByRecursion (λ (row : Row). row.key ≢ key)) k.back back).0 k.key_is)
  ]

-- a put's link leads to the row that it replaced from then on
pub link_stays : (base : ℕ) (opening : PageMap) (clean : IsClean base opening) (newer made : History) (mtr : Mtr) (row : Row) → RunsFrom opening (newer ++ mtr ∷ made) → rows_put (plan_of mtr.records) ≡ row ∷ [] → LinksTo (undo_at (pages_after opening (newer ++ mtr ∷ made))) row (row_of_key (pages_after opening made) row.key)
link_stays base opening clean newer made mtr row runs puts =
    links_more (undo_at (pages_after opening (mtr ∷ made))) (undo_at (pages_after opening (newer ++ mtr ∷ made))) (undo_stays base opening clean newer (mtr ∷ made) runs) row (row_of_key (pages_after opening made) row.key)
    (puts_version base opening clean made mtr (runs_before opening newer (mtr ∷ made) runs) row puts).links

-- what a history did comes before what further mtrs do
pub ops_split : (key : ℕ) (newer made : History) → (later : List (KeyOp Version)) × (ops_on key (newer ++ made) ≡ later ++ ops_on key made)
ops_split key [] made = ([], refl)
ops_split key (mtr ∷ newer) made =
    let rest = ops_split key newer made in
    let these : List (KeyOp Version) = ops_of key (length (newer ++ made)) (plan_of mtr.records) in
    (these ++ rest.0, ap (λ (ops : List (KeyOp Version)). these ++ ops) rest.1 ∙ sym (append_assoc these rest.0 (ops_on key made)))
