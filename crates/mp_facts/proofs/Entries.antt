-- What a node made stands in the history at its places, and each mtr of the history was made by its node.
use Rattle.std.proofs.Common.{◌≡◌, ℕ, ◌<◌, ◌≤◌, ◌==◌, Bool, true, false, if◌then◌else◌, List, [], ◌∷◌, ◌++◌, length, Some, refl, sym, ap, subst, ◌∙◌, inl, inr, arith}
use Rattle.std.proofs.lemmas.Bool.{eqb-true, eq-eqb}
use Rattle.mp_machine.specs.Lists.{IsIn}
use Rattle.mp_cells.specs.declared.records.Mtr.{Mtr}
use Rattle.mp_core_pages.specs.declared.part.Placed.{Placed}
use Rattle.mp_core_pages.specs.Histories.{placed, made_by}
use Rattle.mp_core_pages.specs.PageParts.{last_llsn}
use Rattle.mp_core_pages.specs.PageInvariant.{Ascends}
use Rattle.mp_core_pages.proofs.Choices.{if_equal, if_differs, if_true}
use Rattle.mp_histories.specs.Histories.{History, entry_at}
use Rattle.mp_core.specs.Contents.{page_ops}
use Rattle.mp_core.specs.OwnMtrs.{trx_mtrs}
use Rattle.mp_facts.specs.Facts.{MtrsFall}
use Rattle.mp_facts.proofs.MadeLists.{as_placed}

-- an mtr of a node stands at its place of the history
pub record StandsAt (n : ℕ) (history : History) (x : Placed Mtr) : Type 0 where
  pub before : x.at < length history
  pub entry : entry_at x.at history ≡ Some x.mtr
  pub maker : x.mtr.node ≡ n

entry_before : (at : ℕ) (m : Mtr) (history : History) → at < length history → entry_at at (m ∷ history) ≡ entry_at at history
entry_before at m history before = if_differs (length history) at (Some m) (entry_at at history) (λ e. absurd (omega (arith, e, before)))

entry_here : (m : Mtr) (history : History) → entry_at (length history) (m ∷ history) ≡ Some m
entry_here m history = if_equal (length history) (length history) (Some m) (entry_at (length history) history) refl

-- a longer history
module _ (n : ℕ) (history : History) (m : Mtr) (x : Placed Mtr) (rest : IsIn x (made_by page_ops n history) → StandsAt n history x) where
  older_stands : IsIn x (made_by page_ops n history) → StandsAt n (m ∷ history) x
  older_stands has =
      let s = rest has in
      record {
        before = (let before = s.before in omega (arith, before));
        entry = entry_before x.at m history s.before ∙ s.entry;
        maker = s.maker;
      }

  stands_by : (b : Bool) → (m.node == n) ≡ b → IsIn x (if b then placed (length history) m ∷ made_by page_ops n history else made_by page_ops n history) → StandsAt n (m ∷ history) x
  stands_by true e (inl is) = subst (StandsAt n (m ∷ history)) (sym is) record {
    before = omega arith;
    entry = entry_here m history;
    maker = eqb-true m.node n e;
  }
  stands_by true e (inr old) = older_stands old
  stands_by false e old = older_stands old

-- an entry stays as more comes
pub entry_stays : (newer history : History) (at : ℕ) → at < length history → entry_at at (newer ++ history) ≡ entry_at at history
entry_stays [] history at before = refl
entry_stays (m ∷ newer) history at before = entry_before at m (newer ++ history) (longer newer before) ∙ entry_stays newer history at before
  where
    longer : (more : History) → at < length history → at < length (more ++ history)
    longer [] lt = lt
    longer (x ∷ more) lt = let rest = longer more lt in omega (arith, rest)

pub stands_at : (n : ℕ) (history : History) (x : Placed Mtr) → IsIn x (made_by page_ops n history) → StandsAt n history x
stands_at n [] x has = absurd has
stands_at n (m ∷ history) x has = stands_by n history m x (stands_at n history x) (m.node == n) refl has

-- and an entry of the history was made by its node
module _ (x : Mtr) (history : History) (at : ℕ) (m : Mtr) (rest : entry_at at history ≡ Some m → IsIn (placed at m) (made_by page_ops m.node history)) where
  older_made : IsIn (placed at m) (made_by page_ops m.node history) → (b : Bool) → IsIn (placed at m) (if b then placed (length history) x ∷ made_by page_ops m.node history else made_by page_ops m.node history)
  older_made has true = inr has
  older_made has false = has

  made_here : length history ≡ at → Some x ≡ Some m → IsIn (placed at m) (made_by page_ops m.node (x ∷ history))
  made_here place here =
      let same : x ≡ m = cc in
      let first : placed at m ≡ placed (length history) x = ap (λ (j : ℕ). placed j m) (sym place) ∙ ap (placed (length history)) (sym same) in
      subst (λ (l : List (Placed Mtr)). IsIn (placed at m) l) (sym (if_true (x.node == m.node) (placed (length history) x ∷ made_by page_ops m.node history) (made_by page_ops m.node history) (eq-eqb x.node m.node (ap (λ (y : Mtr). y.node) same)))) (inl first)

  made_by_place : (b : Bool) → (length history == at) ≡ b → (if b then Some x else entry_at at history) ≡ Some m → IsIn (placed at m) (made_by page_ops m.node (x ∷ history))
  made_by_place true e is = made_here (eqb-true (length history) at e) is
  made_by_place false e is = older_made (rest is) (x.node == m.node)

pub made_at : (history : History) (at : ℕ) (m : Mtr) → entry_at at history ≡ Some m → IsIn (placed at m) (made_by page_ops m.node history)
made_at [] at m is = absurd cc
made_at (x ∷ history) at m is = made_by_place x history at m (made_at history at m) (length history == at) refl is

-- the last LLSN of a node's mtrs is the greatest
pub last_greatest : (base : ℕ) (made : List (Placed Mtr)) → Ascends page_ops base made → (x : Placed Mtr) → IsIn x made → x.mtr.llsn ≤ last_llsn page_ops base made
last_greatest base [] rise x has = absurd has
last_greatest base (y ∷ made) rise x (inl is) = let same = ap (λ (z : Placed Mtr). z.mtr.llsn) is in omega (arith, same)
last_greatest base (y ∷ made) rise x (inr has) = let below = last_greatest base made rise.1 x has in let less = rise.0 in omega (arith, below, less)

-- places and LLSNs fall along them
module _ (base n : ℕ) (history : History) (m : Mtr) (rest : Ascends page_ops base (made_by page_ops n history) → MtrsFall (trx_mtrs (made_by page_ops n history))) where
  falls_by : (b : Bool) → Ascends page_ops base (if b then placed (length history) m ∷ made_by page_ops n history else made_by page_ops n history)
      → MtrsFall (trx_mtrs (if b then placed (length history) m ∷ made_by page_ops n history else made_by page_ops n history))
  falls_by true up = (
    λ k has.
        let there = as_placed (made_by page_ops n history) k has in
        let stands = stands_at n history (placed k.at k.mtr) there in
        let below = last_greatest base (made_by page_ops n history) up.1 (placed k.at k.mtr) there in
        let less = up.0 in
        (stands.before, omega (arith, below, less)),
    rest up.1,
  )
  falls_by false up = rest up

falls : (base n : ℕ) (history : History) → Ascends page_ops base (made_by page_ops n history) → MtrsFall (trx_mtrs (made_by page_ops n history))
falls base n [] rise = tt
falls base n (m ∷ history) rise = falls_by base n history m (falls base n history) (m.node == n) rise

pub made_falls : (base n : ℕ) (history : History) (made : List (Placed Mtr)) → made ≡ made_by page_ops n history → Ascends page_ops base made → MtrsFall (trx_mtrs made)
made_falls base n history made is rise = subst (λ (l : List (Placed Mtr)). MtrsFall (trx_mtrs l)) (sym is) (falls base n history (subst (Ascends page_ops base) is rise))
