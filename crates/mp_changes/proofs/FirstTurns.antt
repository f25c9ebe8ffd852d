-- A primary that knows nothing of pages, or took no step, put nothing yet and holds no page.
use Rattle.std.proofs.Common.{ℕ, List, length, Option, Some, refl, sym, ap, ◌∙◌, subst, arith}
use Rattle.mp_machine.specs.Lists.{IsIn}
use Rattle.mp_machine.specs.View.{part_in}
use Rattle.mp_cells.specs.declared.records.Mtr.{Mtr}
use Rattle.mp_cells.specs.PageView.{PageView}
use Rattle.mp_core_pages.specs.declared.part.PagesPart.{PagesPart}
use Rattle.mp_core_pages.specs.PageParts.{last_llsn, durable_llsn, held_at}
use Rattle.mp_core.specs.Contents.{page_ops}
use Rattle.mp_core.specs.World.{core_part, core_start}
use Rattle.mp_shared.specs.Nodes.{NodeView}
use Rattle.mp_buffer_fusion.proofs.Visiting.{one_part}
use Rattle.mp_desk_tests.specs.Handover.{HasFirstPart, KnowsNoPage}
use Rattle.mp_changes.specs.Changing.{HasPutInTurn, HasLeftAll, HasNoPageLeft, HasChanged, changed_text}
use Rattle.mp_changes.specs.declared.stops.Stop.TheVariants as stops

module _ (n : NodeView) (p : ℕ) (k : KnowsNoPage n p) where
  pub none_put : (key : ℕ) (value : Option (List ℕ)) → HasPutInTurn n p key value 0
  none_put key value = record {
    mine = k.mine;
    holds = k.holds;
    many = ap (λ (x : PagesPart PageView Mtr). length x.made) k.pages;
    each = λ x is. absurd (subst (λ (g : PagesPart PageView Mtr). IsIn x g.made) k.pages is);
  }

  pub none_held : HasNoPageLeft n p
  none_held q has = subst HasLeftAll (one_part (part_in n.parts p) k.mine q k.holds has) record {
    durable = ap (λ (x : PagesPart PageView Mtr). last_llsn page_ops k.mine.trx.opening.base.llsn x.made) k.pages
        ∙ sym (ap (λ (x : PagesPart PageView Mtr). durable_llsn k.mine.trx.opening.base.llsn x.durables) k.pages);
    idle = λ page. ap (λ (x : PagesPart PageView Mtr). held_at x.locks page) k.pages;
  }

pub none_put_first : (n : NodeView) (p begins key : ℕ) (value : Option (List ℕ)) → HasFirstPart n p begins → HasPutInTurn n p key value 0
none_put_first n p begins key value h = record {
  mine = core_part (core_start n.run.opening) p;
  holds = h.part;
  many = refl;
  each = λ x is. absurd is;
}

-- a primary that didn't come to its first turn did what it says
pub nothing_done : (p key turns : ℕ) (n : NodeView) → HasPutInTurn n p key (Some changed_text) 0
    → HasChanged p key turns (Some changed_text) n 0 (Some stops.Unopened)
nothing_done p key turns n put = record {
  most = omega arith;
  puts = put;
  all = λ none. absurd (cc);
  left = λ none. absurd (cc);
  cause = tt;
}
