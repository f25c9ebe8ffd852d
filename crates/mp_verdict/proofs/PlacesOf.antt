-- What stands at a place of a history, and what its mtr does to a key.
use Rattle.std.proofs.Common.{◌≡◌, ◌≢◌, ◌⊎◌, ℕ, ◌==◌, nat_lt, Bool, true, false, cond, List, [], ◌∷◌, ◌++◌, length, slice_get, Some, None, refl, sym, ap, subst, ◌∙◌, inl, inr, arith, eq-eqb, ne_eqb, append_assoc}
use Rattle.std.proofs.lemmas.Bool.{eqb-true}
use Rattle.std.proofs.lemmas.Bool.Decides.{nat_tests}
use Rattle.std.proofs.lemmas.List.{length-append}
use mathlib.Core.Bool.{false≢true}
use Rattle.mp_machine.specs.Lists.{IsIn}
use Rattle.mp_model.specs.declared.ids.TrxId.{TrxId}
use Rattle.mp_script.proofs.Options.{some_is, not_some}
use Rattle.mp_cells.specs.declared.records.Mtr.{Mtr}
use Rattle.mp_cells.specs.declared.records.Record.{Record}
use Rattle.mp_cells.specs.declared.rows.Row.{Row}
use Rattle.mp_cells.specs.Trees.{PageMap}
use Rattle.mp_cells.specs.Plans.{plan_of}
use Rattle.mp_cells.specs.Writes.{rows_put, rows_restored}
use Rattle.mp_histories.specs.KeyOps.{put, restore}
use Rattle.mp_histories.specs.Histories.{History, older, entry_at, ops_on}
use Rattle.mp_histories.specs.Chains.{MakesPut, MakesRestore, MakesCommit, WellMade, RunsFrom}
use Rattle.mp_histories.proofs.Writers.{decided}
use Rattle.mp_histories.proofs.MtrSteps.{put_on, back_on, none_on}
use Rattle.mp_histories.proofs.Noting.{older_stays}
use Rattle.mp_histories.proofs.Standing.{runs_before}
use Rattle.mp_core.specs.declared.opening.CoreOpening.{CoreOpening}
use Rattle.mp_core.specs.World.{CoreWorld}
use Rattle.mp_core.specs.OwnMtrs.{row_put_by, row_restored_by, TrxMtr}
use Rattle.mp_facts.specs.Facts.{opening_pages, made_in, IsPutOf, Facts}

-- the mtr puts a row of the key
pub record DoesPut (key : ℕ) (mtr : Mtr) (made : History) : Type 0 where
  pub row : Row
  pub puts : row_put_by mtr ≡ Some row
  pub its_key : row.key ≡ key
  pub ops : ops_on key (mtr ∷ made) ≡ put (record { at = length made; row = row }) ∷ ops_on key made

-- it puts one back
pub record DoesRestore (key : ℕ) (mtr : Mtr) (made : History) : Type 0 where
  pub row : Row
  pub back : row_restored_by mtr ≡ Some row
  pub its_key : row.key ≡ key
  pub no_put : row_put_by mtr ≡ None
  pub ops : ops_on key (mtr ∷ made) ≡ restore ∷ ops_on key made

-- it does nothing to the key
pub record DoesNothing (key : ℕ) (mtr : Mtr) (made : History) : Type 0 where
  pub other : (row : Row) → row_put_by mtr ≡ Some row → row.key ≢ key
  pub ops : ops_on key (mtr ∷ made) ≡ ops_on key made

abbrev pub Does : ℕ → Mtr → History → Type 0
Does key mtr made = DoesPut key mtr made ⊎ (DoesRestore key mtr made ⊎ DoesNothing key mtr made)

first_of_rows : (rows : List Row) (row : Row) → rows ≡ row ∷ [] → slice_get rows 0 ≡ Some row
first_of_rows rows row e = ap (λ (rs : List Row). slice_get rs 0) e

none_of_rows : (rows : List Row) → rows ≡ [] → slice_get rows 0 ≡ None
none_of_rows rows e = ap (λ (rs : List Row). slice_get rs 0) e

module _ (opening : PageMap) (made : History) (mtr : Mtr) (key : ℕ) where
  does_put : MakesPut opening made mtr → Does key mtr made
  does_put p =
      let puts : row_put_by mtr ≡ Some p.row = first_of_rows (rows_put (plan_of mtr.records)) p.row p.well.puts in
      elim (decided (p.row.key == key)) [
        | inl e ↦ inl (record { row = p.row; puts = puts; its_key = eqb-true p.row.key key e; ops = put_on mtr p.row p.well.puts p.well.restores key true e made })
        | inr e ↦ inr (inr (record {
          other = λ row it same. let is : p.row ≡ row = some_is p.row row (sym puts ∙ it) in absurd (false≢true (sym e ∙ eq-eqb p.row.key key (ap (λ (r : Row). r.key) is ∙ same)));
          ops = put_on mtr p.row p.well.puts p.well.restores key false e made;
        }))
      ]

  does_restore : MakesRestore opening made mtr → Does key mtr made
  does_restore b =
      let back : row_restored_by mtr ≡ Some b.row = first_of_rows (rows_restored (plan_of mtr.records)) b.row (ap rows_restored b.well.one.1) in
      let none : row_put_by mtr ≡ None = none_of_rows (rows_put (plan_of mtr.records)) (ap rows_put b.well.one.1) in
      elim (decided (b.row.key == key)) [
        | inl e ↦ inr (inl (record { row = b.row; back = back; its_key = eqb-true b.row.key key e; no_put = none; ops = back_on mtr b.row b.well.one.0 b.well.one.1 key true e made }))
        | inr e ↦ inr (inr (record { other = λ row it same. absurd (not_some row (sym none ∙ it)); ops = back_on mtr b.row b.well.one.0 b.well.one.1 key false e made }))
      ]

  does_commit : MakesCommit mtr → Does key mtr made
  does_commit c =
      let none : row_put_by mtr ≡ None = none_of_rows (rows_put (plan_of mtr.records)) (ap (λ (rs : List Record). rows_put (plan_of rs)) c.alone) in
      inr (inr (record { other = λ row it same. absurd (not_some row (sym none ∙ it)); ops = none_on mtr c key made }))

  pub does : WellMade opening made mtr → Does key mtr made
  does well = elim well.kind [
    | inl p ↦ does_put p
    | inr (inl b) ↦ does_restore b
    | inr (inr c) ↦ does_commit c
  ]

-- the mtr over the first ones stands at the place that counts them
pub entry_there : (newer : History) (mtr : Mtr) (made : History) → entry_at (length made) (newer ++ mtr ∷ made) ≡ Some mtr
entry_there [] mtr made = ap (λ (b : Bool). cond b (Some mtr) (entry_at (length made) made)) (eq-eqb (length made) (length made) refl)
entry_there (x ∷ newer) mtr made =
    let long : length (newer ++ mtr ∷ made) ≢ length made = λ e. absurd (omega (arith, e, length-append newer (mtr ∷ made))) in
    ap (λ (b : Bool). cond b (Some x) (entry_at (length made) (newer ++ mtr ∷ made))) (ne_eqb (length (newer ++ mtr ∷ made)) (length made) long) ∙ entry_there newer mtr made

-- as many as there are, are all
pub older_all : (made : History) → older (length made) made ≡ made
older_all [] = refl
older_all (mtr ∷ made) = let test : nat_lt (length made) (length (mtr ∷ made)) ≡ true = grind (arith, nat_tests) in ap (λ (b : Bool). cond b (mtr ∷ made) (older (length (mtr ∷ made)) made)) test

-- a history with one more in front of its older part
pub one_newer : (newer : History) (mtr : Mtr) (made : History) → newer ++ mtr ∷ made ≡ (newer ++ mtr ∷ []) ++ made
one_newer newer mtr made = sym (append_assoc newer (mtr ∷ []) made)

pub older_part : (newer made : History) → older (length made) (newer ++ made) ≡ made
older_part newer made = older_stays (length made) newer made (omega arith) ∙ older_all made

module _ (o : CoreOpening) (w : CoreWorld) (facts : Facts o w) where
  -- an mtr that puts a row does nothing else, and is of the row's writer
  pub put_of : (n : ℕ) (m : TrxMtr) (row : Row) → IsIn m (made_in w n) → row_put_by m.mtr ≡ Some row → IsPutOf m row
  put_of n m row there puts = elim (facts.of_history.kinds n m there) [
    | inl p ↦ subst (IsPutOf m) (some_is p.0 row (sym p.1.put ∙ puts)) p.1
    | inr (inl b) ↦ absurd (not_some row (sym b.1.put ∙ puts))
    | inr (inr c) ↦ absurd (not_some row (sym c.2.put ∙ puts))
  ]

  -- an mtr of a transaction is among those of the transaction's node
  pub of_its_node : (n : ℕ) (m : TrxMtr) (id : TrxId) → IsIn m (made_in w n) → m.of ≡ Some id → id.node ≡ n
  of_its_node n m id there is =
      let placed = facts.of_history.placed n m there in
      let same : placed.3.0 ≡ id = some_is placed.3.0 id (sym placed.3.1 ∙ is) in
      subst (λ (x : TrxId). x.node ≡ n) same placed.3.2

  pub in_its_node : (n : ℕ) (m : TrxMtr) (id : TrxId) → IsIn m (made_in w n) → m.of ≡ Some id → IsIn m (made_in w id.node)
  in_its_node n m id there is = subst (λ (k : ℕ). IsIn m (made_in w k)) (sym (of_its_node n m id there is)) there

  module _ (newer : History) (mtr : Mtr) (made : History) (split : w.pages.history ≡ newer ++ mtr ∷ made) where
    pub entry_here : entry_at (length made) w.pages.history ≡ Some mtr
    entry_here = ap (entry_at (length made)) split ∙ entry_there newer mtr made

    -- what a node made at this place is the mtr
    pub made_here : (n : ℕ) (m : TrxMtr) → IsIn m (made_in w n) → m.at ≡ length made → m.mtr ≡ mtr
    made_here n m there at =
        let entry = (facts.of_history.placed n m there).1 in
        some_is m.mtr mtr (sym entry ∙ ap (λ (k : ℕ). entry_at k w.pages.history) at ∙ entry_here)

    pub maker : (m : TrxMtr) × IsIn m (made_in w mtr.node) × (m.at ≡ length made) × (m.mtr ≡ mtr)
    maker = facts.of_history.all_made (length made) mtr entry_here

    pub well_here : WellMade (opening_pages o) made mtr
    well_here = (runs_before (opening_pages o) newer (mtr ∷ made) (subst (RunsFrom (opening_pages o)) split facts.of_versions.runs)).0

    pub older_here : older (length made) w.pages.history ≡ made
    older_here = ap (older (length made)) (split ∙ one_newer newer mtr made) ∙ older_part (newer ++ mtr ∷ []) made

    pub older_with : older (length (mtr ∷ made)) w.pages.history ≡ mtr ∷ made
    older_with = ap (older (length (mtr ∷ made))) split ∙ older_part newer (mtr ∷ made)
