-- A primary's part before its transaction begins and behind that, and a desk that agrees with it.
use Rattle.std.proofs.Common.{◌≡◌, ℕ, ◌+◌, ◌<◌, ◌≤◌, not, ◌==◌, if◌then◌else◌, List, [], ◌∷◌, length, Option, Some, None, IfSome, inl, refl, sym, ap, ◌∙◌, subst, arith, eq-eqb, ne_eqb}
use Rattle.mp_machine.specs.View.{part_in}
use Rattle.mp_machine.proofs.Views.{part_in-only}
use Rattle.mp_cells.specs.PageView.{PageView}
use Rattle.mp_cells.specs.declared.records.Mtr.{Mtr}
use Rattle.mp_core_trx.specs.declared.opening.Base.{Base}
use Rattle.mp_core_trx.specs.declared.part.Begun.{Begun}
use Rattle.mp_core_trx.specs.declared.part.SlotRow.{SlotRow}
use Rattle.mp_core_trx.specs.declared.slot.Shown.{Shown}
use Rattle.mp_core_trx.specs.declared.slot.SlotTag.TheVariants.{Active}
use Rattle.mp_core_trx.specs.Events.{IsNode}
use Rattle.mp_core_trx.specs.Parts.{shown_at}
use Rattle.mp_core_trx.specs.Words.{shows}
use Rattle.mp_core_pages.specs.declared.opening.TheConstants.{MOST_MTRS}
use Rattle.mp_core_pages.specs.declared.part.PagesPart.{PagesPart}
use Rattle.mp_core_pages.specs.PageParts.{last_llsn, pages_newcomer}
use Rattle.mp_core.specs.declared.opening.CoreOpening.{CoreOpening}
use Rattle.mp_core.specs.declared.part.CorePart.{CorePart}
use Rattle.mp_core.specs.Contents.{page_ops}
use Rattle.mp_core.specs.World.{core_part, core_start}
use Rattle.mp_shared.specs.Nodes.{Run, NodeView, HoldsPart, Reached, first_node, node_of_one, node_without}
use Rattle.mp_shared.proofs.FreshStores.{over_fresh, first_part}
use Rattle.mp_shared.proofs.Holding.{holds_the_part}
use Rattle.mp_trx_fusion.specs.Calls.{MayBeginTrx, with_trx, with_begin}
use Rattle.mp_trx_fusion.proofs.Callers.{part_here}
use Rattle.mp_buffer_fusion.specs.declared.buffer.Buffer.{Buffer}
use Rattle.mp_buffer_fusion.specs.Buffers.{buffer_of}
use Rattle.mp_buffer_fusion.specs.Agreement.{AgreesWith}
use Rattle.mp_buffer_fusion.proofs.Visiting.{one_part}
use Rattle.mp_supports.specs.Agreement.{last_made_llsn, HasMadeUndo}
use Rattle.mp_desk.specs.declared.desk.Desk.{Desk}
use Rattle.mp_desk.specs.Desks.{DeskAgrees, IsAtDesk, IsReadAfresh}
use Rattle.mp_desk.specs.Statements.{IsReader, ReadsIn}
use Rattle.mp_desk.proofs.AtDesk.{given_emptied}
use Rattle.mp_desk.proofs.Moving.{looked_none, looked_extends}
use Rattle.mp_desk_tests.specs.Handover.{HasFirstPart, KnowsNoPage, HasMade}

-- ---- where a primary begins

pub first_fresh : (primaries begins : ℕ) (pages : List PageView) (r : Run) (node : NodeView) → r.opening ≡ over_fresh primaries begins pages
    → node ≡ first_node r → (p : ℕ) → 1 ≤ p → p ≤ primaries → HasFirstPart node p begins
first_fresh primaries begins pages r node opening is p low high =
    subst (λ (n : NodeView). HasFirstPart n p begins) (sym is) record {
      part = first_part r (first_node r) refl p its;
      node = its;
      base = ap (λ (o : CoreOpening). o.trx.base) opening;
      begins = ap (λ (o : CoreOpening). o.trx.begins) opening;
    }
  where
    its : IsNode r.opening.trx p
    its = subst (λ (o : CoreOpening). IsNode o.trx p) (sym opening) (low, high)

module _ (n later : NodeView) (p : ℕ) where
  pub first_alone : {begins : ℕ} → later ≡ node_of_one p n → HasFirstPart n p begins → HasFirstPart later p begins
  first_alone {begins} is h = subst (λ (v : NodeView). HasFirstPart v p begins) (sym is) record {
    part = part_in-only (λ k. k == p) n.parts p ∙ ap (λ b. if b then part_in n.parts p else None) (eq-eqb p p refl) ∙ h.part;
    node = h.node;
    base = h.base;
    begins = h.begins;
  }

  pub first_without : {begins : ℕ} → later ≡ node_without p n → (k : ℕ) → ¬ (k ≡ p) → HasFirstPart n k begins → HasFirstPart later k begins
  first_without {begins} is k other h = subst (λ (v : NodeView). HasFirstPart v k begins) (sym is) record {
    part = part_in-only (λ j. not (j == p)) n.parts k ∙ ap (λ b. if not b then part_in n.parts k else None) (ne_eqb k p other) ∙ h.part;
    node = h.node;
    base = h.base;
    begins = h.begins;
  }

pub first_held : {begins : ℕ} (n : NodeView) (p : ℕ) → HasFirstPart n p begins → HoldsPart n p
first_held n p h = holds_the_part n p (core_part (core_start n.run.opening) p) h.part h.node

-- ---- its transaction

pub first_may_begin : (n : NodeView) (p begins version : ℕ) → HasFirstPart n p begins → 1 ≤ version → version ≤ begins → MayBeginTrx n p version
first_may_begin n p begins version h low high =
    let base : n.run.opening.trx.base.version ≡ 0 = ap (λ (b : Base). b.version) h.base in
    record {
      mine = core_part (core_start n.run.opening) p;
      holds = h.part;
      node = h.node;
      above = omega (arith, base, low);
      within = omega (arith, base, h.begins, high);
      fresh = λ b has. absurd has;
    }

shown_first : (slot : ℕ) (x : Shown) (rows : List SlotRow) → shown_at (record { slot = slot; shown = x } ∷ rows) slot ≡ x
shown_first slot x rows = ap (λ b. if b then x else shown_at rows slot) (eq-eqb slot slot refl)

module _ (n later : NodeView) (p begins : ℕ) (b : Begun) (h : HasFirstPart n p begins) (is : later ≡ with_trx n p (with_begin b) 2) where
  pub begun_fresh : KnowsNoPage later p
  begun_fresh =
      let q = core_part (core_start n.run.opening) p in
      record {
        mine = record q { trx = with_begin b q.trx; ops = q.ops + 2 };
        holds = part_here n later p (with_begin b) 2 is q h.part;
        node = h.node;
        base = ap (λ (x : Base). x.llsn) h.base;
        pages = refl;
      }

  pub begun_reads : b.id.node ≡ p → ReadsIn p b later
  unfolding begun_fresh
  begun_reads own q has =
      let k = begun_fresh in
      subst (IsReader p b) (one_part (part_in later.parts p) k.mine q k.holds has) record {
        node = own;
        begun = inl refl;
        active = shown_first b.id.slot (shows Active b.id.version 0) [];
        whole = λ m made. absurd made;
      }

-- ---- a new desk

empty_pool : AgreesWith [] pages_newcomer
empty_pool = record { shows = λ k b is. absurd (cc); keeps = λ k less. absurd (omega (arith, less)) }

module _ (n : NodeView) (p : ℕ) (desk : Desk) (k : KnowsNoPage n p) (pool : desk.pool ≡ []) where
  lacks : {A : Type 0} (j : ℕ) (b : Buffer) → buffer_of desk.pool j ≡ Some b → A
  lacks j b is = let none : None ≡ Some b = sym (ap (λ (l : List Buffer). buffer_of l j) pool) ∙ is in cc

  agrees_first : desk.llsn ≡ 0 → desk.undo ≡ None → DeskAgrees desk k.mine
  agrees_first llsn undo =
      let last : last_made_llsn k.mine ≡ 0 = ap (λ (x : PagesPart PageView Mtr). last_llsn page_ops k.mine.trx.opening.base.llsn x.made)
      k.pages ∙ k.base in
      record {
        pool = subst (λ (l : List Buffer). AgreesWith l k.mine.pages) (sym pool) (subst (AgreesWith []) (sym k.pages) empty_pool);
        not_below = omega (arith, last);
        not_above = omega (arith, llsn);
        seen = λ j b is. lacks j b is;
        undo_page = subst (λ (o : Option ℕ). IfSome o (λ page. (2 ≤ page) × (page < 4096) × HasMadeUndo k.mine page)) (sym undo) tt;
      }

  pub at_first_desk : (run : Run) → n.run ≡ run → n.frames ≡ [] → Reached n → desk.llsn ≡ 0 → desk.undo ≡ None → IsAtDesk run desk p n
  at_first_desk run its frames reached llsn undo = record {
    its_run = its;
    reached = reached;
    part = holds_the_part n p k.mine k.holds k.node;
    frames = frames;
    agrees = λ q has. subst (DeskAgrees desk) (one_part (part_in n.parts p) k.mine q k.holds has) (agrees_first llsn undo);
    written = λ j b is. lacks j b is;
  }

pub afresh_empty : (n : NodeView) (p : ℕ) (desk : Desk) → desk.pool ≡ [] → IsReadAfresh desk p n
afresh_empty n p desk pool q has = (q, looked_extends q q (looked_none q), given_emptied q q desk.pool pool)

pub none_made : (n : NodeView) (p : ℕ) → KnowsNoPage n p → HasMade n p 0
none_made n p k q has =
    subst (λ (x : CorePart). length x.pages.made ≡ 0) (one_part (part_in n.parts p) k.mine q k.holds has)
    (ap (λ (x : PagesPart PageView Mtr). length x.made) k.pages)

pub few_made : (n : NodeView) (p count : ℕ) → count < MOST_MTRS → HasMade n p count → (q : CorePart) → part_in n.parts p ≡ Some q
    → length q.pages.made < MOST_MTRS
few_made n p count few made q has = let one = made q has in omega (arith, one, few)
