-- The joint machine has the laws of a machine, since its components do.
use Rattle.std.proofs.Common.{◌≡◌, ℕ, ◌+◌, ◌==◌, Bool, true, false, if◌then◌else◌, List, ◌∷◌, refl, sym, ap, ◌∙◌, arith}
use mathlib.Core.Logic.{dite}
use native.Mathlib.Decide.{ℕ_discrete}
use Rattle.mp_machine.specs.Machine.{run}
use Rattle.atomic_table.specs.Table.{Valid, homes_after}
use Rattle.mp_machine.specs.Rule.{Laws}
use Rattle.mp_machine.proofs.Lists.{updated_here, updated_else}
use Rattle.mp_core_trx.specs.Events.{TrxPlace, IsTrxPlace, trx_node_of}
use Rattle.mp_core_trx.proofs.Places.{index_apart as trx_apart, index_within as trx_within, part_here as trx_part_here, part_else as trx_part_else, content_here as trx_content_here, content_else as trx_content_else}
use Rattle.mp_core_pages.specs.PageEvents.{PagesPlace, lock_of, turn_of, llsn_word, durable_word, IsPagesPlace, pages_node}
use Rattle.mp_core_pages.proofs.Places.{pages_part_here, pages_part_else, pages_content_here, pages_content_else, pages_acts, pages_homes_here}
use Rattle.mp_core.specs.declared.opening.CoreOpening.{CoreOpening}
use Rattle.mp_core.specs.declared.event.CoreEvent.{CoreEvent}
use Rattle.mp_core.specs.declared.event.CoreEvent.TheVariants.{Trx, Pages, Down}
use Rattle.mp_core.specs.declared.part.DownPart.{DownPart}
use Rattle.mp_core.specs.declared.event.DownEvent.{DownEvent}
use Rattle.mp_core.specs.declared.event.DownEvent.TheVariants.{StoreDown, LoadDown}
use Rattle.mp_core.specs.Contents.{page_ops}
use Rattle.mp_core.specs.Downs.{down_load, down_node, down_place, down_word, goes_down_by, with_down_load, down_made, downs_after}
use Rattle.mp_core.specs.World.{CorePlace, of_trx, of_pages, of_down, CoreWorld, IsCorePlace, page_word_index, core_index, core_node_of, core_place_of, core_word_after, core_made, core_content, core_part, core_after, known_by, Frame, Carries, act_of, core_note, core}

-- the words of pages lie apart from one another, and behind those of transactions
pages_apart : (a b : PagesPlace) → IsPagesPlace a → IsPagesPlace b → page_word_index a ≡ page_word_index b → a ≡ b
pages_apart (lock_of k) (lock_of j) x y e = let same : k ≡ j = omega arith in ap lock_of same
pages_apart (lock_of k) (turn_of j) x y e = absurd (omega arith)
pages_apart (lock_of k) (llsn_word n) x y e = absurd (omega arith)
pages_apart (lock_of k) (durable_word n) x y e = absurd (omega arith)
pages_apart (turn_of k) (lock_of j) x y e = absurd (omega arith)
pages_apart (turn_of k) (turn_of j) x y e = let same : k ≡ j = omega arith in ap turn_of same
pages_apart (turn_of k) (llsn_word n) x y e = absurd (omega arith)
pages_apart (turn_of k) (durable_word n) x y e = absurd (omega arith)
pages_apart (llsn_word m) (lock_of j) x y e = absurd (omega arith)
pages_apart (llsn_word m) (turn_of j) x y e = absurd (omega arith)
pages_apart (llsn_word m) (llsn_word n) x y e = let same : m ≡ n = omega arith in ap llsn_word same
pages_apart (llsn_word m) (durable_word n) x y e = absurd (omega arith)
pages_apart (durable_word m) (lock_of j) x y e = absurd (omega arith)
pages_apart (durable_word m) (turn_of j) x y e = absurd (omega arith)
pages_apart (durable_word m) (llsn_word n) x y e = absurd (omega arith)
pages_apart (durable_word m) (durable_word n) x y e = let same : m ≡ n = omega arith in ap durable_word same

components_apart : (a : TrxPlace) (b : PagesPlace) → IsTrxPlace a → ¬ (core_index (of_trx a) ≡ core_index (of_pages b))
components_apart a (lock_of k) x e = let within = trx_within a x in omega arith
components_apart a (turn_of k) x e = let within = trx_within a x in omega arith
components_apart a (llsn_word n) x e = let within = trx_within a x in omega arith
components_apart a (durable_word n) x e = let within = trx_within a x in omega arith

-- and those that tell who is down apart from both
down_apart : (m : ℕ) (b : PagesPlace) → IsCorePlace (of_down m) → IsPagesPlace b → ¬ (core_index (of_down m) ≡ core_index (of_pages b))
down_apart m (lock_of k) x y e = omega arith
down_apart m (turn_of k) x y e = omega arith
down_apart m (llsn_word n) x y e = omega arith
down_apart m (durable_word n) x y e = omega arith

apart : (a b : CorePlace) → IsCorePlace a → IsCorePlace b → core_index a ≡ core_index b → a ≡ b
apart (of_trx a) (of_trx b) x y same = ap of_trx (trx_apart a b x y same)
apart (of_trx a) (of_pages b) x y same = absurd (components_apart a b x same)
apart (of_pages a) (of_trx b) x y same = absurd (components_apart b a y (sym same))
apart (of_pages a) (of_pages b) x y same = ap of_pages (pages_apart a b x y same)
apart (of_trx a) (of_down n) x y same = let within = trx_within a x in absurd (omega arith)
apart (of_pages a) (of_down n) x y same = absurd (down_apart n a y x (sym same))
apart (of_down m) (of_trx b) x y same = let within = trx_within b y in absurd (omega arith)
apart (of_down m) (of_pages b) x y same = absurd (down_apart m b x y same)
apart (of_down m) (of_down n) x y same = let number : m ≡ n = omega arith in ap of_down number

-- a load changes no word
kept_own : (test : Bool) (d e : DownPart) → e.own ≡ d.own → (if test then d else e).own ≡ d.own
kept_own true d e same = refl
kept_own false d e same = same

pub own_after_load : (parts : ℕ → DownPart) (p of n : ℕ) → (downs_after parts (LoadDown p of) n).own ≡ (parts n).own
own_after_load parts p of n =
    let found = (parts of).own in
    let made = with_down_load of found (parts p) in
    dite (ℕ_discrete n p)
    (λ same. ap (λ k. (downs_after parts (LoadDown p of) k).own) same ∙ ap (λ (d : DownPart). d.own) (updated_here parts p made) ∙ kept_own (found == 0) (parts p) (record (parts p) { loaded = down_load of found ∷ (parts p).loaded }) refl ∙ ap (λ k. (parts k).own) (sym same))
    (λ other. ap (λ (d : DownPart). d.own) (updated_else parts p made n other))

down_here : (parts : ℕ → DownPart) (e : DownEvent) → (downs_after parts e (down_place e)).own ≡ down_word e (parts (down_place e)).own
down_here parts (StoreDown p by) = ap (λ (d : DownPart). d.own) (updated_here parts p (goes_down_by by (parts p)))
down_here parts (LoadDown p of) = own_after_load parts p of of

down_else : (parts : ℕ → DownPart) (e : DownEvent) (n : ℕ) → ¬ (n ≡ down_place e) → (downs_after parts e n).own ≡ (parts n).own
down_else parts (StoreDown p by) n other = ap (λ (d : DownPart). d.own) (updated_else parts p (goes_down_by by (parts p)) n other)
down_else parts (LoadDown p of) n other = own_after_load parts p of n

module _ (o : CoreOpening) (w : CoreWorld) where
  part_here : (e : CoreEvent) → core_part (core_after w e) (core_node_of e) ≡ core_made e (core_content o w (core_place_of e)) (core_note w e) (core_part w (core_node_of e))
  part_here (Trx e) = λ i. record (core_part w (trx_node_of e)) { trx = trx_part_here w.trx e i; ops = updated_here w.ops (trx_node_of e) (w.ops (trx_node_of e) + 1) i }
  part_here (Pages e) = λ i. record (core_part w (pages_node e)) { pages = pages_part_here page_ops (known_by w (pages_node e)) w.pages o.trx.base.llsn e i; ops = updated_here w.ops (pages_node e) (w.ops (pages_node e) + 1) i }
  part_here (Down e) = λ i. record (core_part w (down_node e)) { downs = updated_here w.downs (down_node e) (down_made e (w.downs (down_place e)).own (w.downs (down_node e))) i; ops = updated_here w.ops (down_node e) (w.ops (down_node e) + 1) i }

  part_else : (e : CoreEvent) (n : ℕ) → ¬ (n ≡ core_node_of e) → core_part (core_after w e) n ≡ core_part w n
  part_else (Trx e) n d = λ i. record (core_part w n) { trx = trx_part_else w.trx e n d i; ops = updated_else w.ops (trx_node_of e) (w.ops (trx_node_of e) + 1) n d i }
  part_else (Pages e) n d = λ i. record (core_part w n) { pages = pages_part_else page_ops (known_by w (pages_node e)) w.pages n e d i; ops = updated_else w.ops (pages_node e) (w.ops (pages_node e) + 1) n d i }
  part_else (Down e) n d = λ i. record (core_part w n) { downs = updated_else w.downs (down_node e) (down_made e (w.downs (down_place e)).own (w.downs (down_node e))) n d i; ops = updated_else w.ops (down_node e) (w.ops (down_node e) + 1) n d i }

  content_here : (e : CoreEvent) → core_content o (core_after w e) (core_place_of e) ≡ core_word_after e (core_content o w (core_place_of e))
  content_here (Trx e) = trx_content_here w.trx e
  content_here (Pages e) = pages_content_here page_ops (known_by w (pages_node e)) w.pages o.trx.base.llsn e
  content_here (Down e) = down_here w.downs e

  content_else : (e : CoreEvent) (a : CorePlace) → ¬ (a ≡ core_place_of e) → core_content o (core_after w e) a ≡ core_content o w a
  content_else (Trx e) (of_trx a) d = trx_content_else w.trx e a (λ same. d (ap of_trx same))
  content_else (Trx e) (of_pages a) d = refl
  content_else (Trx e) (of_down n) d = refl
  content_else (Pages e) (of_trx a) d = refl
  content_else (Pages e) (of_pages a) d = pages_content_else page_ops (known_by w (pages_node e)) w.pages o.trx.base.llsn e a (λ same. d (ap of_pages same))
  content_else (Pages e) (of_down n) d = refl
  content_else (Down e) (of_trx a) d = refl
  content_else (Down e) (of_pages a) d = refl
  content_else (Down e) (of_down n) d = down_else w.downs e n (λ same. d (ap of_down same))

  acts : (e : CoreEvent) (carried : List (ℕ × Frame)) → Valid w.pages.homes carried (act_of e (core_content o w (core_place_of e)) (core_note w e))
  acts (Trx e) carried = tt
  acts (Pages e) carried = pages_acts page_ops (known_by w (pages_node e)) w.pages o.trx.base.llsn e carried
  acts (Down e) carried = tt

  homes_here : (e : CoreEvent) (carried : List (ℕ × Frame)) → Carries carried e → (core_after w e).pages.homes ≡ homes_after w.pages.homes carried (act_of e (core_content o w (core_place_of e)) (core_note w e))
  homes_here (Trx e) carried has = refl
  homes_here (Pages e) carried has = pages_homes_here page_ops (known_by w (pages_node e)) w.pages o.trx.base.llsn e carried has
  homes_here (Down e) carried has = refl

pub core_laws : (opening : CoreOpening) → Laws (core opening)
core_laws opening = record {
  apart = apart;
  part_here = λ es e all. part_here opening (run (core opening) es) e;
  part_else = λ es e all. part_else opening (run (core opening) es) e;
  content_here = λ es e all. content_here opening (run (core opening) es) e;
  content_else = λ es e all. content_else opening (run (core opening) es) e;
  acts = λ es e carried may all. acts opening (run (core opening) es) e carried;
  homes_here = λ es e carried may all. homes_here opening (run (core opening) es) e carried may.1;
}
