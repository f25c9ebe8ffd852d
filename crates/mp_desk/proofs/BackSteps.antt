-- How a primary's node goes along where rows are put back one after another.
use Rattle.std.proofs.Common.{◌≡◌, ℕ, ◌+◌, ◌<◌, ◌≤◌, List, length, drop, slice_get, get_or, Some, refl, sym, ap, subst, ◌∙◌, arith}
use Rattle.std.proofs.lemmas.List.{length-drop}
use Rattle.std.proofs.lemmas.Option.{slice_get_within, slice_get-get_or}
use Rattle.mp_machine.specs.View.{part_in}
use Rattle.mp_model.specs.declared.ids.TrxId.{TrxId}
use Rattle.mp_cells.specs.declared.rows.Row.{Row}
use Rattle.mp_core_trx.specs.declared.slot.SlotTag.TheVariants.{Active}
use Rattle.mp_core_trx.specs.Parts.{HasBegun, Shows}
use Rattle.mp_core_pages.specs.declared.part.Placed.{Placed}
use Rattle.mp_core.specs.declared.part.CorePart.{CorePart}
use Rattle.mp_core.specs.CoreExtends.{CoreExtends}
use Rattle.mp_core.specs.OwnMtrs.{first_former, trx_mtrs}
use Rattle.mp_machine.specs.Lists.{IsIn}
use Rattle.mp_cells.specs.declared.records.Mtr.{Mtr}
use Rattle.mp_outside.specs.Faults.{Rose}
use Rattle.mp_log.specs.Tails.{LogView}
use Rattle.mp_book.specs.Stages.{HaveOneRowEach}
use Rattle.mp_shared.specs.Nodes.{NodeView, HoldsPart}
use Rattle.mp_shared.proofs.Holding.{held_part}
use Rattle.mp_buffer_fusion.proofs.Visiting.{one_part}
use Rattle.mp_supports.specs.Supports.{no_trace}
use Rattle.mp_supports.proofs.Classes.{did_then}
use Rattle.mp_desk.specs.Desks.{Moves}
use Rattle.mp_desk.specs.Making.{IsOpenLog}
use Rattle.mp_desk.specs.Statements.{StaysQuiet}
use Rattle.mp_desk.specs.Writes.{HasFormers, PutsBackRows}
use Rattle.mp_desk.specs.declared.halts.BackHalt.{BackHalt}
use Rattle.mp_desk.specs.declared.halts.BackHalt.TheVariants as backs
use Rattle.mp_desk.specs.Rolling.{MakesBack, IsFormerIn, IsFormer, HaltsBack}
use Rattle.mp_desk.proofs.AtDesk.{wait_later}
use Rattle.mp_desk.proofs.Moving.{moves_both, moves_as}
use Rattle.mp_desk.proofs.PutBackRows.{did_quiet, one_back, none_back, next_former}

pub open_more : {D : Type 0} (p llsn more : ℕ) (log : LogView D) → llsn ≤ more → IsOpenLog p llsn log → IsOpenLog p more log
open_more p llsn more log le is = record { live = is.live; node = is.node; last = let last = is.last in omega (arith, last, le); fits = is.fits }

pub rose_later : (old mid new : ℕ) → old ≤ mid → Rose mid new → Rose old new
rose_later old mid new le rose = omega (arith, le, rose)

quiet_goes : (q r : CorePart) → StaysQuiet q r → CoreExtends q r
quiet_goes q r h = h.extends

pub moves_goes : (p : ℕ) (a b : NodeView) → Moves StaysQuiet p a b → Moves CoreExtends p a b
moves_goes p a b h = moves_as p StaysQuiet CoreExtends quiet_goes a b h

back_goes : (id : TrxId) (formers : List Row) (from k : ℕ) (q r : CorePart) → PutsBackRows id formers from k q r → CoreExtends q r
back_goes id formers from k q r h = h.did.extends

module _ (p : ℕ) (id : TrxId) (formers : List Row) (from : ℕ) where
  pub rows_go : (k : ℕ) (a b : NodeView) → Moves (PutsBackRows id formers from k) p a b → Moves CoreExtends p a b
  rows_go k a b h = moves_as p (PutsBackRows id formers from k) CoreExtends (back_goes id formers from k) a b h

  pub none_moved : (n : NodeView) → from ≤ length formers → ((q : CorePart) → part_in n.parts p ≡ Some q → HasFormers q id (drop from formers)) → Moves (PutsBackRows id formers from from) p n n
  none_moved n within left = record { run = refl; frames = refl; others = λ k other. refl; mine = λ q has. (q, has, none_back id formers from q within (left q has), refl) }

  -- quiet steps behind
  module _ (k : ℕ) (a b c : NodeView) (rows : Moves (PutsBackRows id formers from k) p a b) where
    pub row_moved : (x : Placed Mtr) (row : Row) → slice_get formers k ≡ Some row → HaveOneRowEach formers → Moves (MakesBack id row x) p b c → Moves (PutsBackRows id formers from (k + 1)) p a c
    row_moved x row at once back =
        moves_both p (PutsBackRows id formers from k) (MakesBack id row x) (PutsBackRows id formers from (k + 1)) (λ q r s before one. one_back id formers from k q r s x row at once before one) a b c rows back

    module _ (held : HoldsPart a p) where
      pub next_in : ((q : CorePart) → part_in a.parts p ≡ Some q → HasBegun q.trx.begun id × Shows q.trx.rows id Active) → (row : Row) → slice_get formers k ≡ Some row → IsFormerIn p id row b
      next_in is_open row at r there =
          let has = held_part a p held in
          let now = rows.mine has.0 has.1 in
          let opened = is_open has.0 has.1 in
          subst (IsFormer id row) (one_part (part_in b.parts p) now.0 r now.1 there) (next_former id formers from k has.0 now.0 row at now.2 opened.0 opened.1)

      pub few_in : (most : ℕ) → ((q : CorePart) → part_in a.parts p ≡ Some q → length q.pages.made + length (drop from formers) ≤ most) → (row : Row) → slice_get formers k ≡ Some row → (r : CorePart) → part_in b.parts p ≡ Some r → length r.pages.made < most
      few_in most few row at r there =
          let has = held_part a p held in
          let now = rows.mine has.0 has.1 in
          let le = few has.0 has.1 in
          let count = now.2.counted in
          let left = length-drop from formers in
          let within = slice_get_within formers k row at in
          let more = now.2.more in
          subst (λ (x : CorePart). length x.pages.made < most) (one_part (part_in b.parts p) now.0 r now.1 there) (omega (arith, le, count, left, within, more))

  -- quiet steps behind them
  quiet_behind : (k : ℕ) (q r s : CorePart) → PutsBackRows id formers from k q r → StaysQuiet r s → PutsBackRows id formers from k q s
  quiet_behind k q r s rows quiet = record {
    did = did_then q r s no_trace rows.did (did_quiet r s quiet);
    begun = quiet.begun ∙ rows.begun;
    rows = quiet.rows ∙ rows.rows;
    more = rows.more;
    within = rows.within;
    counted = let count = rows.counted in let same = ap (λ (l : List (Placed Mtr)). length l) quiet.made in omega (arith, count, same);
    left = λ key. ap (λ (l : List (Placed Mtr)). first_former l id key) quiet.made ∙ rows.left key;
    others = λ other ne key. ap (λ (l : List (Placed Mtr)). first_former l other key) quiet.made ∙ rows.others other ne key;
    its = λ m there. rows.its m (subst (λ (l : List (Placed Mtr)). IsIn m (trx_mtrs l)) quiet.made there);
  }

  pub rows_quiet : (k : ℕ) (a b c : NodeView) → Moves (PutsBackRows id formers from k) p a b → Moves StaysQuiet p b c → Moves (PutsBackRows id formers from k) p a c
  rows_quiet k a b c rows quiet = moves_both p (PutsBackRows id formers from k) StaysQuiet (PutsBackRows id formers from k) (quiet_behind k) a b c rows quiet

-- the item at a place, as it is read
pub item_at : (xs : List Row) (i : ℕ) (x d : Row) → x ≡ get_or xs i d → i < length xs → slice_get xs i ≡ Some x
item_at xs i x d is less = slice_get-get_or xs i d less ∙ ap (λ (r : Row). Some r) (sym is)

-- why it stopped, further back
pub halts_later : (p : ℕ) (a b c : NodeView) (halt : BackHalt) → Moves CoreExtends p a b → HaltsBack p b c halt → HaltsBack p a c halt
halts_later p a b c (backs.Word wait) go met = wait_later p a b c wait go met
halts_later p a b c backs.Failed go met = tt
