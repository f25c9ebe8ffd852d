-- What a primary keeps of its log's images, and the log of a node without a primary, leave the first mtrs of their nodes.
use Rattle.std.proofs.Common.{◌≡◌, ℕ, ◌<◌, ◌≤◌, ◌==◌, List, [], ◌∷◌, ◌++◌, Option, None, refl, sym, ap, subst, ◌∙◌, arith}
use Rattle.std.specs.List.{AllByRecursion}
use Rattle.mp_cells.specs.declared.records.Mtr.{Mtr}
use Rattle.mp_cells.proofs.KeyEdits.{All-filter}
use Rattle.mp_log.specs.Logs.{mtrs_of}
use Rattle.mp_log.specs.Readers.{log_mtrs}
use Rattle.mp_log.proofs.Given.{text_given}
use Rattle.mp_histories.specs.Cuts.{log_place}
use Rattle.mp_histories.proofs.Sorting.{all_reverse}
use Rattle.mp_core_trx.specs.declared.opening.TrxOpening.{TrxOpening}
use Rattle.mp_core_trx.specs.declared.opening.Base.{Base}
use Rattle.mp_core_pages.specs.declared.part.Placed.{Placed}
use Rattle.mp_core_pages.specs.PageParts.{durable_llsn}
use Rattle.mp_core.specs.declared.opening.CoreOpening.{CoreOpening}
use Rattle.mp_core.specs.World.{CoreWorld, core_part}
use Rattle.mp_facts.specs.Facts.{Facts}
use Rattle.mp_supports.specs.Work.{Work}
use Rattle.mp_supports.specs.Media.{IsOnImage}
use Rattle.mp_recover.specs.Redoing.{mtrs_above}
use Rattle.mp_cuts.specs.ValidCuts.{mtrs_in_time}
use Rattle.mp_cuts.specs.LeftBehind.{LeavesFirst}
use Rattle.mp_cuts.proofs.Climbing.{in_time}
use Rattle.mp_cuts.proofs.NodeLists.{AllOf, in_time_is, all_of_node}
use Rattle.mp_cuts.proofs.OrderedCuts.{each_by_in}

pub own_image : (o : CoreOpening) (w : CoreWorld) (work : Work) (n : ℕ) (file : List ℕ) → Facts o w → work.base ≡ o.trx.base → IsOnImage work n (core_part w n) file → LeavesFirst o w n file
own_image o w work n file f base on =
    let given : log_mtrs n file ≡ (mtrs_of on.batches, None) = text_given n on.batches file on.log on.text in
    record {
      sound = ap (λ (x : List Mtr × Option ℕ). x.1) given;
      later = on.later;
      front = on.front
          ∙ ap (λ (b : Base). mtrs_above b.llsn (mtrs_of on.batches) ++ on.later) base
          ∙ ap (λ (x : List Mtr × Option ℕ). mtrs_above o.trx.base.llsn x.0 ++ on.later) (sym given);
      covers = subst (λ (t : TrxOpening). AllByRecursion (λ (m : Mtr). durable_llsn t.base.llsn (w.pages.durables n) < m.llsn) on.later) (f.inv.trx.carried n) on.covers;
    }

none_beyond : (n most : ℕ) (xs : List Mtr) → most < n → AllByRecursion (λ m. m.node ≤ most) xs → AllOf n xs → xs ≡ []
none_beyond n most [] lt fit own = refl
none_beyond n most (x ∷ xs) lt fit own = absurd (let e = own.0 in let le = fit.0 in omega (arith, e, le, lt))

pub idle_log : (o : CoreOpening) (w : CoreWorld) (n : ℕ) (file : List ℕ) → Facts o w → o.trx.primaries < n → (log_mtrs n file).1 ≡ None → mtrs_above o.trx.base.llsn (log_mtrs n file).0 ≡ [] → LeavesFirst o w n file
idle_log o w n file f lt sound none = record {
  sound = sound;
  later = [];
  front = made_none ∙ ap (λ (l : List Mtr). l ++ []) (sym none);
  covers = tt;
}
  where
    made_none : mtrs_in_time w n ≡ []
    made_none =
        let all = each_by_in (λ (m : Mtr). m.node ≤ o.trx.primaries) w.pages.history (λ m has. (f.inv.pages.mtr_history.makers m has).1) in
        let is : mtrs_in_time w n ≡ _ = ap (λ (l : List (Placed Mtr)). in_time l) (f.inv.pages.mtr_history.own n) ∙ in_time_is n w.pages.history in
        is ∙ none_beyond n o.trx.primaries _ lt
        (All-filter (λ (m : Mtr). m.node ≤ o.trx.primaries) (λ (m : Mtr). m.node == n) _ (all_reverse log_place (λ (m : Mtr). m.node ≤ o.trx.primaries) w.pages.history all))
        (all_of_node n _)
