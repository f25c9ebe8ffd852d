-- What a transaction put last on a key, in the history and among what its node made.
use Rattle.std.proofs.Common.{◌≡◌, ◌≢◌, ℕ, suc, ◌<◌, ◌≤◌, Bool, true, false, cond, List, [], ◌∷◌, ◌++◌, length, Option, Some, None, sym, ap, subst, ◌∙◌, inl, inr, arith}
use Rattle.std.proofs.lemmas.Bool.{cases_lt}
use Rattle.mp_machine.specs.Lists.{IsIn}
use Rattle.mp_model.specs.declared.ids.TrxId.{TrxId}
use Rattle.mp_script.proofs.Options.{some_is, not_some}
use Rattle.mp_cells.specs.declared.records.Mtr.{Mtr}
use Rattle.mp_cells.specs.declared.rows.Row.{Row}
use Rattle.mp_histories.specs.KeyOps.{KeyOp, put, same_writer, is_top, put_last, NeverBack}
use Rattle.mp_histories.specs.Histories.{History, older, Version, by_version, ops_on, live_on}
use Rattle.mp_histories.proofs.Writers.{decided, same_is, other_is}
use Rattle.mp_core.specs.declared.opening.CoreOpening.{CoreOpening}
use Rattle.mp_core.specs.World.{CoreWorld}
use Rattle.mp_core.specs.OwnMtrs.{row_put_by, row_restored_by, TrxMtr}
use Rattle.mp_facts.specs.Facts.{opening_pages, made_in, Facts}
use Rattle.mp_verdict.specs.Reads.{PutBelow, LastPutBelow, PutsNothingBelow}
use Rattle.mp_verdict.proofs.PlacesOf.{DoesPut, DoesRestore, DoesNothing, does, one_newer, put_of, in_its_node, made_here, maker, well_here, older_here}

last-same : (u : Option TrxId) (v : Version) (ops : List (KeyOp Version)) → same_writer (by_version v) u ≡ true → put_last by_version u (put v ∷ ops) ≡ Some v
last-same u v ops e = ap (λ (b : Bool). cond b (Some v) (put_last by_version u ops)) e

last-other : (u : Option TrxId) (v : Version) (ops : List (KeyOp Version)) → same_writer (by_version v) u ≡ false → put_last by_version u (put v ∷ ops) ≡ put_last by_version u ops
last-other u v ops e = ap (λ (b : Bool). cond b (Some v) (put_last by_version u ops)) e

module _ (o : CoreOpening) (w : CoreWorld) (facts : Facts o w) (id : TrxId) (key : ℕ) where
  -- what a version put last, or none, says of the transaction's puts
  abbrev pub Says : ℕ → Option Version → Type 0
  Says height None = PutsNothingBelow w id key height
  Says height (Some v) = LastPutBelow w id key height v.row

  lowered : (height : ℕ) (m : TrxMtr) (row : Row) → ((k : TrxMtr) (r : Row) → PutBelow w id key (suc height) k r → k.at ≡ height → ⊥) → PutBelow w id key (suc height) m row → PutBelow w id key height m row
  lowered height m row none p = elim (cases_lt m.at height) [
    | inl lt ↦ record { was_made = p.was_made; of = p.of; put = p.put; its_key = p.its_key; below = lt }
    | inr ge ↦ let at : m.at ≡ height = omega (arith, ge, p.below) in absurd (none m row p at)
  ]

  raised : (height more : ℕ) (m : TrxMtr) (row : Row) → height ≤ more → PutBelow w id key height m row → PutBelow w id key more m row
  raised height more m row le p = record { was_made = p.was_made; of = p.of; put = p.put; its_key = p.its_key; below = omega (arith, le, p.below) }

  higher : (height : ℕ) (x : Option Version) → ((k : TrxMtr) (r : Row) → PutBelow w id key (suc height) k r → k.at ≡ height → ⊥) → Says height x → Says (suc height) x
  higher height None none says = λ m row p. says m row (lowered height m row none p)
  higher height (Some v) none says = record {
    mtr = says.mtr;
    is_put = raised height (suc height) says.mtr v.row (omega arith) says.is_put;
    last = λ m other p. says.last m other (lowered height m other none p);
  }

  -- one more mtr
  module _ (newer : History) (mtr : Mtr) (made : History) (split : w.pages.history ≡ newer ++ mtr ∷ made) where
    put_same : (p : DoesPut key mtr made) → p.row.writer ≡ Some id → LastPutBelow w id key (suc (length made)) p.row
    put_same p writer =
        let m = maker o w facts newer mtr made split in
        let puts : row_put_by (m.0).mtr ≡ Some p.row = ap row_put_by m.3 ∙ p.puts in
        let of : (m.0).of ≡ Some id = sym (put_of o w facts mtr.node m.0 p.row m.1 puts).writer ∙ writer in
        let at : (m.0).at ≡ length made = m.2 in
        record {
          mtr = m.0;
          is_put = record { was_made = in_its_node o w facts mtr.node m.0 id m.1 of; of = of; put = puts; its_key = p.its_key; below = omega (arith, at) };
          last = λ k other q. let below : k.at < suc (length made) = q.below in omega (arith, at, below);
        }

    none_other : (p : DoesPut key mtr made) → p.row.writer ≢ Some id → (k : TrxMtr) (r : Row) → PutBelow w id key (suc (length made)) k r → k.at ≡ length made → ⊥
    none_other p other k r q at =
        let is : k.mtr ≡ mtr = made_here o w facts newer mtr made split id.node k q.was_made at in
        let row : p.row ≡ r = some_is p.row r (sym p.puts ∙ ap row_put_by (sym is) ∙ q.put) in
        other (ap (λ (x : Row). x.writer) row ∙ (put_of o w facts id.node k r q.was_made q.put).writer ∙ q.of)

    none_back : row_put_by mtr ≡ None → (k : TrxMtr) (r : Row) → PutBelow w id key (suc (length made)) k r → k.at ≡ length made → ⊥
    none_back none k r q at =
        let is : k.mtr ≡ mtr = made_here o w facts newer mtr made split id.node k q.was_made at in
        not_some r (sym none ∙ ap row_put_by (sym is) ∙ q.put)

    none_there : (n : DoesNothing key mtr made) → (k : TrxMtr) (r : Row) → PutBelow w id key (suc (length made)) k r → k.at ≡ length made → ⊥
    none_there n k r q at =
        let is : k.mtr ≡ mtr = made_here o w facts newer mtr made split id.node k q.was_made at in
        n.other r (ap row_put_by (sym is) ∙ q.put) q.its_key

    says_put : (p : DoesPut key mtr made) → Says (length made) (put_last by_version (Some id) (ops_on key made)) → Says (suc (length made)) (put_last by_version (Some id) (ops_on key (mtr ∷ made)))
    says_put p rest =
        let v : Version = record { at = length made; row = p.row } in
        elim (decided (same_writer (by_version v) (Some id))) [
          | inl same ↦ subst (Says (suc (length made))) (sym (ap (put_last by_version (Some id)) p.ops ∙ last-same (Some id) v (ops_on key made) same)) (put_same p (same_is (by_version v) (Some id) same))
          | inr other ↦ subst (Says (suc (length made))) (sym (ap (put_last by_version (Some id)) p.ops ∙ last-other (Some id) v (ops_on key made) other))
              (higher (length made) (put_last by_version (Some id) (ops_on key made)) (none_other p (other_is (by_version v) (Some id) other)) rest)
        ]

    says_next : Says (length made) (put_last by_version (Some id) (ops_on key made)) → Says (suc (length made)) (put_last by_version (Some id) (ops_on key (mtr ∷ made)))
    says_next rest = elim (does (opening_pages o) made mtr key (well_here o w facts newer mtr made split)) [
      | inl p ↦ says_put p rest
      | inr (inl b) ↦ subst (Says (suc (length made))) (sym (ap (put_last by_version (Some id)) b.ops)) (higher (length made) (put_last by_version (Some id) (ops_on key made)) (none_back b.no_put) rest)
      | inr (inr n) ↦ subst (Says (suc (length made))) (sym (ap (put_last by_version (Some id)) n.ops)) (higher (length made) (put_last by_version (Some id) (ops_on key made)) (none_there n) rest)
    ]

  pub put_last_says : (newer made : History) → w.pages.history ≡ newer ++ made → Says (length made) (put_last by_version (Some id) (ops_on key made))
  put_last_says newer [] split = λ m row p. let below : m.at < 0 = p.below in absurd (omega (arith, below))
  put_last_says newer (mtr ∷ made) split = says_next newer mtr made split (put_last_says (newer ++ mtr ∷ []) made (split ∙ one_newer newer mtr made))

  -- where none of the transaction's mtrs below a height puts back, no restore there takes off its versions
  module _ (height : ℕ) (whole : (m : TrxMtr) → IsIn m (made_in w id.node) → m.of ≡ Some id → m.at < height → row_restored_by m.mtr ≡ None) where
    module _ (newer : History) (mtr : Mtr) (made : History) (split : w.pages.history ≡ newer ++ mtr ∷ made) (le : length (mtr ∷ made) ≤ height) where
      not_top : (b : DoesRestore key mtr made) → is_top by_version (Some id) (live_on key made) ≡ true → ⊥
      not_top b top =
          let m = maker o w facts newer mtr made split in
          let back : row_restored_by (m.0).mtr ≡ Some b.row = ap row_restored_by m.3 ∙ b.back in
          let under = facts.of_history.put_back mtr.node m.0 b.row m.1 back in
          let here : live_on key made ≡ under.0 ∷ under.1 =
          ap (λ (k : ℕ). live_on k made) (sym b.its_key)
          ∙ ap (live_on b.row.key) (sym (older_here o w facts newer mtr made split))
          ∙ ap (λ (k : ℕ). live_on b.row.key (older k w.pages.history)) (sym m.2)
          ∙ under.2 in
          let its : by_version under.0 ≡ Some id = same_is (by_version under.0) (Some id) (ap (is_top by_version (Some id)) (sym here) ∙ top) in
          let of : (m.0).of ≡ Some id = sym under.3 ∙ its in
          let at : (m.0).at ≡ length made = m.2 in
          not_some b.row (sym (whole m.0 (in_its_node o w facts mtr.node m.0 id m.1 of) of (omega (arith, at, le))) ∙ back)

      never_next : NeverBack by_version (Some id) (ops_on key made) → NeverBack by_version (Some id) (ops_on key (mtr ∷ made))
      never_next rest = elim (does (opening_pages o) made mtr key (well_here o w facts newer mtr made split)) [
        | inl p ↦ subst (NeverBack by_version (Some id)) (sym p.ops) rest
        | inr (inl b) ↦ subst (NeverBack by_version (Some id)) (sym b.ops) (
          elim (decided (is_top by_version (Some id) (live_on key made))) [
            | inl top ↦ absurd (not_top b top)
            | inr not ↦ not
          ],
          rest,
        )
        | inr (inr n) ↦ subst (NeverBack by_version (Some id)) (sym n.ops) rest
      ]

    pub never_back : (newer made : History) → w.pages.history ≡ newer ++ made → length made ≤ height → NeverBack by_version (Some id) (ops_on key made)
    never_back newer [] split le = tt
    never_back newer (mtr ∷ made) split le = never_next newer mtr made split le (never_back (newer ++ mtr ∷ []) made (split ∙ one_newer newer mtr made) (omega (arith, le)))
