-- The word of an event that may come is one of the table's words, and fits 64 bits.
use Rattle.std.proofs.Common.{ℕ, ◌^◌, ◌<◌, arith}
use mathlib.Core.Logic.{dite}
use native.Mathlib.Decide.{ℕ_discrete}
use Rattle.mp_core_trx.proofs.Places.{placed as trx_placed, index_within as trx_within}
use Rattle.mp_core_trx.proofs.Bounds.{content_fits as trx_content_fits}
use Rattle.mp_core_pages.specs.PageEvents.{PagesPlace, lock_of, turn_of, llsn_word, durable_word, IsPagesPlace}
use Rattle.mp_core_pages.proofs.Bounds.{pages_placed, pages_content_fits}
use Rattle.mp_core.specs.declared.words.TheConstants.{WORDS}
use Rattle.mp_core.specs.declared.opening.CoreOpening.{CoreOpening}
use Rattle.mp_core.specs.declared.event.CoreEvent.{CoreEvent}
use Rattle.mp_core.specs.declared.event.CoreEvent.TheVariants.{Trx, Pages, Down}
use Rattle.mp_core.specs.Contents.{page_ops, pages_opening}
use Rattle.mp_core.specs.World.{CorePlace, of_trx, of_pages, of_down, CoreWorld, IsCorePlace, page_word_index, core_index, core_node_of, core_place_of, core_content, core_part, CoreAllowed}
use Rattle.mp_core.specs.Invariant.{NumbersFit, CoreInv}
use Rattle.mp_core.proofs.Pages.{pages_fit}
use Rattle.mp_core.specs.Downs.{down_node}
use Rattle.mp_core.proofs.Downs.{down_placed}
use Rattle.mp_core.proofs.Law.{its_node, its_asks, asks_of_down}

module _ (o : CoreOpening) (fair : NumbersFit o) (w : CoreWorld) (i : CoreInv o w) where
  pub placed : (e : CoreEvent) → CoreAllowed (core_part w (core_node_of e)) e → IsCorePlace (core_place_of e)
  placed (Trx e) may = trx_placed o.trx fair.trx w.trx i.trx e may.0
  placed (Pages e) may = pages_placed page_ops (pages_opening o) (pages_fit o fair) w.pages e (its_node o w i e may) (its_asks o w i e may)
  placed (Down e) may =
      let asks = asks_of_down o w i e may in
      down_placed o.trx (w.downs (down_node e)) e fair.trx.some_primaries.1 asks.0 asks.1

  -- the number with which a primary is down is that of a primary
  down_fits : (n : ℕ) → (w.downs n).own < 2 ^ 64
  down_fits n =
      dite (ℕ_discrete (w.downs n).own 0)
      (λ up. omega arith)
      (λ down. let node = (i.downs.held n down).0 in let most = fair.trx.some_primaries.1 in omega arith)

  pub content_fits : (a : CorePlace) → IsCorePlace a → core_content o w a < 2 ^ 64
  content_fits (of_trx a) is = trx_content_fits o.trx w.trx i.trx fair.trx a
  content_fits (of_pages a) is = pages_content_fits page_ops (pages_opening o) (pages_fit o fair) w.pages i.pages a is
  content_fits (of_down n) is = down_fits n

pages_within : (a : PagesPlace) → IsPagesPlace a → page_word_index a < WORDS
pages_within (lock_of k) is = omega arith
pages_within (turn_of k) is = omega arith
pages_within (llsn_word n) is = omega arith
pages_within (durable_word n) is = omega arith

pub index_within : (a : CorePlace) → IsCorePlace a → core_index a < WORDS
index_within (of_trx a) is = let within = trx_within a is in omega arith
index_within (of_pages a) is = pages_within a is
index_within (of_down n) is = omega arith
