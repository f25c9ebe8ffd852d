-- A cut has, page by page, pages of a prefix of the history; so its chains are chains of the whole.
use Rattle.std.proofs.Common.{◌≡◌, ℕ, [], ◌∷◌, ◌++◌, refl, sym, ap, subst, ◌∙◌, inl, inr, append-nil}
use Rattle.mp_cells.specs.declared.records.Mtr.{Mtr}
use Rattle.mp_cells.specs.declared.rows.Row.{Row}
use Rattle.mp_cells.specs.PageView.{PageView}
use Rattle.mp_cells.specs.Trees.{PageMap, IsClean}
use Rattle.mp_cells.specs.Plans.{plan_of, AgreesOn}
use Rattle.mp_cells.specs.Writes.{record_in, undo_at}
use Rattle.mp_cells.proofs.Links.{agrees_where}
use Rattle.mp_histories.specs.Histories.{History, pages_after, touching, rows_of_versions, live_on}
use Rattle.mp_histories.specs.Chains.{row_of_key, RunsFrom}
use Rattle.mp_histories.specs.Cuts.{IsOrigin, IsCut}
use Rattle.mp_histories.proofs.Writers.{decided}
use Rattle.mp_histories.proofs.ByPages.{changes_page, touching-in, touching-out, by_touching}
use Rattle.mp_histories.proofs.ChainFacts.{Within, chain_more, chain_one}
use Rattle.mp_histories.proofs.Standing.{has_chains, undo_stays, runs_before}
use Rattle.mp_histories.proofs.Lists.{append_middle}

-- the first mtrs of a history that change a page as others do
pub record IsPrefixOn (n : ℕ) (made cut : History) : Type 0 where
  pub later : History
  pub earlier : History
  pub split_is : made ≡ later ++ earlier
  pub same : touching n cut ≡ touching n earlier

pub prefix_on : (n : ℕ) (made cut : History) → IsCut made cut → IsPrefixOn n made cut
prefix_on n made [] h = record { later = made; earlier = []; split_is = sym (append-nil made); same = refl }
prefix_on n made (mtr ∷ cut) h = elim (decided (changes_page n mtr)) [
  | inl e ↦ record {
    later = h.0.later;
    earlier = mtr ∷ h.0.earlier;
    split_is = h.0.split_is;
    same = touching-in n mtr cut e ∙ ap (λ (ms : History). mtr ∷ ms) (h.0.same n e) ∙ sym (touching-in n mtr h.0.earlier e);
  }
  | inr e ↦
      let rest = prefix_on n made cut h.1 in
      record { later = rest.later; earlier = rest.earlier; split_is = rest.split_is; same = touching-out n mtr cut e ∙ rest.same }
]

-- the first mtrs of a history are a cut
pub prefix_is_cut : (whole later made : History) → whole ≡ later ++ made → IsCut whole made
prefix_is_cut whole later [] e = tt
prefix_is_cut whole later (mtr ∷ made) e = (record { later = later; earlier = made; split_is = e; same = λ n t. refl }, prefix_is_cut whole (later ++ mtr ∷ []) made (e ∙ append_middle later mtr made))

-- an mtr of a cut finds its pages as in the history
pub origin_agrees : (opening : PageMap) (made : History) (mtr : Mtr) (cut : History) (o : IsOrigin made mtr cut) → AgreesOn (plan_of mtr.records) (pages_after opening o.earlier) (pages_after opening cut)
origin_agrees opening made mtr cut o =
    agrees_where (plan_of mtr.records) (pages_after opening o.earlier) (pages_after opening cut) (λ n e. by_touching opening cut o.earlier n (o.same n e))

module _ (base : ℕ) (opening : PageMap) (clean : IsClean base opening) (made : History) (runs : RunsFrom opening made) where
  runs_of : (later earlier : History) → made ≡ later ++ earlier → RunsFrom opening (later ++ earlier)
  runs_of later earlier e = subst (RunsFrom opening) e runs

  prefix_within : (later earlier : History) → made ≡ later ++ earlier → Within (undo_at (pages_after opening earlier)) (undo_at (pages_after opening made))
  prefix_within later earlier e = λ link row there. ap (λ (ms : History). undo_at (pages_after opening ms) link) e ∙ undo_stays base opening clean later earlier (runs_of later earlier e) link row there

  pub undo_within : (cut : History) → IsCut made cut → Within (undo_at (pages_after opening cut)) (undo_at (pages_after opening made))
  undo_within cut h = λ link row there.
      let p = prefix_on link.page made cut h in
      let page : pages_after opening cut link.page ≡ pages_after opening p.earlier link.page = by_touching opening cut p.earlier link.page p.same in
      prefix_within p.later p.earlier p.split_is link row (ap (λ (v : PageView). record_in v link.index) (sym page) ∙ there)

  -- where a cut and a prefix have one row of a key, they have its versions in common
  pub same_versions : (cut later earlier : History) → made ≡ later ++ earlier → IsCut made cut → RunsFrom opening cut → (key : ℕ) → row_of_key (pages_after opening cut) key ≡ row_of_key (pages_after opening earlier) key → rows_of_versions (live_on key cut) ≡ rows_of_versions (live_on key earlier)
  same_versions cut later earlier whole h cut_runs key head =
      let a = has_chains base opening clean cut cut_runs in
      let b = has_chains base opening clean earlier (runs_before opening later earlier (runs_of later earlier whole)) in
      let undo = undo_at (pages_after opening made) in
      let last : Row = row_of_key opening key in
      let vs = rows_of_versions (live_on key cut) in
      let ws = rows_of_versions (live_on key earlier) in
      (chain_one undo vs ws last last
      (chain_more (undo_at (pages_after opening cut)) undo (undo_within cut h) vs last (a.chain key))
      (chain_more (undo_at (pages_after opening earlier)) undo (prefix_within later earlier whole) ws last (b.chain key))
      (sym (a.head key) ∙ head ∙ b.head key)).rows
