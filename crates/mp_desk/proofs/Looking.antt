-- What reads leave: they only look, whatever calls they are made of.
use Rattle.std.proofs.Common.{◌≡◌, ℕ, ◌+◌, ◌≤◌, List, length, None, Some, refl, sym, ap, subst, ◌∙◌, arith}
use Rattle.mp_machine.specs.Lists.{IsIn}
use Rattle.mp_machine.specs.View.{part_in}
use Rattle.mp_cells.specs.declared.records.Mtr.{Mtr}
use Rattle.mp_cells.specs.declared.rows.Row.{Row}
use Rattle.mp_core_trx.specs.declared.part.Begun.{Begun}
use Rattle.mp_core_trx.specs.declared.part.SlotRow.{SlotRow}
use Rattle.mp_core_trx.specs.declared.slot.SlotTag.TheVariants.{Active}
use Rattle.mp_core_trx.specs.Parts.{Shows}
use Rattle.mp_core_pages.specs.declared.part.Placed.{Placed}
use Rattle.mp_core.specs.declared.part.CorePart.{CorePart}
use Rattle.mp_core.specs.CoreExtends.{CoreExtends}
use Rattle.mp_core.specs.OwnMtrs.{row_restored_by, TrxMtr, trx_mtrs}
use Rattle.mp_shared.specs.Nodes.{Run, NodeView}
use Rattle.mp_shared.proofs.Holding.{held_part}
use Rattle.mp_buffer_fusion.specs.declared.pool.TheConstants.{BUFFERS}
use Rattle.mp_buffer_fusion.proofs.Visiting.{one_part}
use Rattle.mp_supports.specs.Steps.{OnlyLooked}
use Rattle.mp_supports.proofs.Extending.{core_extends_trans}
use Rattle.mp_supports.proofs.SeesMore.{newest_more}
use Rattle.mp_desk.specs.declared.desk.Desk.{Desk}
use Rattle.mp_desk.specs.Desks.{HasSameWork, Brings, IsAtDesk, AreGivenSince, IsReadAfresh}
use Rattle.mp_desk.specs.Statements.{IsReader, ReadsIn, LooksOn, IsNewestIn}
use Rattle.mp_desk.proofs.Moving.{looks_none, looks_both, locks_none, locks_both}

-- ---- looks one after another

-- calls that bring pages
pub look_brings : (p most : ℕ) (old new : Desk) (a b : NodeView) → Brings most p old new a b → HasSameWork old new → LooksOn p old new a b
look_brings p most old new a b brings work = record { looked = brings.looked; locks = brings.locks; work = work; undo = brings.desk.undo; llsn = brings.desk.llsn; given = brings.given }

-- buffers that were dropped
pub look_dropped : (p : ℕ) (old new : Desk) (n : NodeView) → new ≡ record old { pool = new.pool } → ((start q : CorePart) → AreGivenSince start q old.pool → AreGivenSince start q new.pool × (length new.pool + 32 ≤ BUFFERS)) → LooksOn p old new n n
look_dropped p old new n rest room = record {
  looked = looks_none p n;
  locks = locks_none p n;
  work = (ap (λ (d : Desk). d.plan) rest, ap (λ (d : Desk). d.mtr) rest);
  undo = ap (λ (d : Desk). d.undo) rest;
  llsn = let same = ap (λ (d : Desk). d.llsn) rest in omega (arith, same);
  given = λ start q r has before given there. subst (λ (x : CorePart). AreGivenSince start x new.pool) (one_part (part_in n.parts p) q r has there) (room start q given).0;
}

pub look_none : (p : ℕ) (desk : Desk) (n : NodeView) → LooksOn p desk desk n n
look_none p desk n = record {
  looked = looks_none p n;
  locks = locks_none p n;
  work = (refl, refl);
  undo = refl;
  llsn = omega arith;
  given = λ start q r has before given there. subst (λ (x : CorePart). AreGivenSince start x desk.pool) (one_part (part_in n.parts p) q r has there) given;
}

pub look_both : (p : ℕ) (one two three : Desk) (a b c : NodeView) → LooksOn p one two a b → LooksOn p two three b c → LooksOn p one three a c
look_both p one two three a b c first second = record {
  looked = looks_both p a b c first.looked second.looked;
  locks = locks_both p a b c first.locks second.locks;
  work = (second.work.0 ∙ first.work.0, second.work.1 ∙ first.work.1);
  undo = second.undo ∙ first.undo;
  llsn = let one = first.llsn in let two = second.llsn in omega (arith, one, two);
  given = λ start q r has before given there.
      let mid = first.looked.mine q has in
      second.given start mid.0 r mid.1 (core_extends_trans start q mid.0 before mid.2.extends) (first.given start q mid.0 has before given mid.1) there;
}

-- ---- what stays

reader_part : (p : ℕ) (trx : Begun) (q r : CorePart) → OnlyLooked q r → IsReader p trx q → IsReader p trx r
reader_part p trx q r looked reads = record {
  node = reads.node;
  begun = subst (λ (l : List Begun). IsIn trx l) (sym looked.begun) reads.begun;
  active = subst (λ (l : List SlotRow). Shows l trx.id Active) (sym looked.rows) reads.active;
  whole = subst (λ (l : List (Placed Mtr)). (m : TrxMtr) → IsIn m (trx_mtrs l) → m.of ≡ Some trx.id → row_restored_by m.mtr ≡ None) (sym looked.made) reads.whole;
}

module _ (run : Run) (p : ℕ) (old new : Desk) (a b : NodeView) (at : IsAtDesk run old p a) (looks : LooksOn p old new a b) where
  pub still_reads : (trx : Begun) → ReadsIn p trx a → ReadsIn p trx b
  still_reads trx reads r there =
      let has = held_part a p at.part in
      let now = looks.looked.mine has.0 has.1 in
      subst (IsReader p trx) (one_part (part_in b.parts p) now.0 r now.1 there) (reader_part p trx has.0 now.0 now.2 (reads has.0 has.1))

  pub still_afresh : IsReadAfresh old p a → IsReadAfresh new p b
  still_afresh afresh r there =
      let has = held_part a p at.part in
      let now = looks.looked.mine has.0 has.1 in
      let was = afresh has.0 has.1 in
      let same = one_part (part_in b.parts p) now.0 r now.1 there in
      (was.0, subst (CoreExtends was.0) same (core_extends_trans was.0 has.0 now.0 was.1 now.2.extends), looks.given was.0 has.0 r has.1 was.1 was.2 there)

  pub still_newest : (key : ℕ) (row : Row) → IsNewestIn p a key row → IsNewestIn p b key row
  still_newest key row newest r there =
      let has = held_part a p at.part in
      let now = looks.looked.mine has.0 has.1 in
      let was = newest has.0 has.1 in
      let same = one_part (part_in b.parts p) now.0 r now.1 there in
      (was.0, newest_more has.0 r (subst (CoreExtends has.0) same now.2.extends) was.0 key row was.1)

  -- the part then, by what it was
  pub part_then : (q r : CorePart) → part_in a.parts p ≡ Some q → part_in b.parts p ≡ Some r → CoreExtends q r
  part_then q r has there =
      let now = looks.looked.mine q has in
      subst (CoreExtends q) (one_part (part_in b.parts p) now.0 r now.1 there) now.2.extends

-- at the desk there is a part that the buffers were given since
pub given_part : (run : Run) (p : ℕ) (desk : Desk) (n : NodeView) → IsAtDesk run desk p n → IsReadAfresh desk p n → (start : CorePart) × (q : CorePart) × AreGivenSince start q desk.pool
given_part run p desk n at afresh =
    let has = held_part n p at.part in
    let was = afresh has.0 has.1 in
    (was.0, has.0, was.2)
