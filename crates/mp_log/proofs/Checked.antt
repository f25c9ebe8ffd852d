-- One round of the check of a batch, and what its bytes are then.
use Rattle.std.proofs.Common.{◌<◌, subst, ◌^◌, ◌≡◌, ℕ, suc, ◌+◌, ◌≤◌, ◌==◌, ◌&&◌, nat_lt, Bool, true, false, List, [], ◌∷◌, ◌++◌, length, map, take, drop, Ok, Err, Some, refl, sym, ap, ◌∙◌, arith}
use Rattle.std.specs.List.{AllByRecursion}
use Rattle.std.proofs.lemmas.List.{append_assoc, append-nil, length-append, length-take-le, take-append-drop, map-append}
use Rattle.std.proofs.lemmas.List.Concat.{flat_map-append}
use Rattle.mp_cells.specs.declared.records.Mtr.{Mtr}
use Rattle.mp_cells.specs.Mtrs.{IsMtr}
use Rattle.mp_cells.proofs.KeyEdits.{All-append}
use Rattle.mp_redo.specs.Spelling.{mtr_bytes, Spells}
use Rattle.mp_redo.specs.Reading.{Read, and_then, field, mtr_at, fault_of}
use Rattle.mp_redo.proofs.MtrSpelling.{mtr_again}
use Rattle.mp_redo.proofs.Puts.{mtr_length}
use Rattle.mp_log.specs.Logs.{batch_bytes, last_after, IsOf}
use Rattle.mp_log.proofs.Appended.{rises_more}
use Rattle.mp_cells.specs.Keys.{rises}
use Rattle.std.proofs.lemmas.Bool.{and_parts, eqb-true, ltb-true}
use Rattle.mp_log.specs.Reading.{from_place, mtrs_at, AreChecked}

abbrev pub llsn_of : Mtr → ℕ
llsn_of mtr = mtr.llsn

-- the mtr that was decoded is the one that the bytes are read as
pub decoded : (bytes : List ℕ) (mtr : Mtr) (count : ℕ) → count ≤ length bytes → Spells mtr (take count bytes) → (mtr_at bytes ≡ Ok (mtr, count)) × (bytes ≡ mtr_bytes mtr ++ drop count bytes) × (count ≡ length (mtr_bytes mtr))
decoded bytes mtr count le spells =
    let whole : bytes ≡ mtr_bytes mtr ++ drop count bytes = sym (take-append-drop count bytes) ∙ ap (λ (x : List ℕ). x ++ drop count bytes) spells.1 in
    let size : count ≡ length (mtr_bytes mtr) = sym (length-take-le count bytes le) ∙ ap length spells.1 in
    (ap mtr_at whole ∙ mtr_again mtr (drop count bytes) spells.0 ∙ ap (λ (n : ℕ). Ok (mtr, n)) (sym size), whole, size)

pub fault_read : (bytes : List ℕ) (place : ℕ) → fault_of (mtr_at bytes) ≡ Some place → mtr_at bytes ≡ Err place
fault_read bytes place h = by_read (mtr_at bytes) h
  where
    by_read : (r : Read (Mtr × ℕ)) → fault_of r ≡ Some place → r ≡ Err place
    by_read (Ok found) h = absurd cc
    by_read (Err fault) h = cc

-- mtrs that were read before the rest
abbrev pub with_mtrs : List Mtr → Read (List Mtr) → Read (List Mtr)
with_mtrs front (Ok mtrs) = Ok (front ++ mtrs)
with_mtrs front (Err place) = Err place

with_one : (front : List Mtr) (mtr : Mtr) (rest : Read (List Mtr)) → with_mtrs (front ++ mtr ∷ []) rest ≡ with_mtrs front (and_then rest (λ mtrs. Ok (mtr ∷ mtrs)))
with_one front mtr (Ok mtrs) = ap Ok (append_assoc front (mtr ∷ []) mtrs)
with_one front mtr (Err place) = refl

-- the mtrs so far
pub record SoFar (all : Read (List Mtr)) (bytes : List ℕ) (node last0 : ℕ) (old : List ℕ) (fuel last place : ℕ) (rest now : List ℕ) : Type 0 where
  pub front : List Mtr
  pub reads : with_mtrs front (mtrs_at fuel node last rest place) ≡ all
  pub spelled : bytes ≡ batch_bytes front ++ rest
  pub each : AllByRecursion (IsOf node) front
  pub rising : rises llsn_of (last0 + 1) (2 ^ 62) front ≡ true
  pub last_is : last ≡ last_after last0 front
  pub added : now ≡ old ++ map llsn_of front

with_none : (r : Read (List Mtr)) → with_mtrs [] r ≡ r
with_none (Ok mtrs) = refl
with_none (Err place) = refl

pub so_far_first : (node last0 place fuel : ℕ) (bytes old : List ℕ) → fuel ≡ length bytes → SoFar (mtrs_at (length bytes) node last0 bytes place) bytes node last0 old fuel last0 place bytes old
so_far_first node last0 place fuel bytes old e = record {
  front = [];
  reads = with_none (mtrs_at fuel node last0 bytes place) ∙ ap (λ (n : ℕ). mtrs_at n node last0 bytes place) e;
  spelled = refl;
  each = tt;
  rising = refl;
  last_is = refl;
  added = sym (append-nil old);
}

-- bytes that begin with an mtr are some
pub has_some : (mtr : Mtr) (bytes rest : List ℕ) → bytes ≡ mtr_bytes mtr ++ rest → 1 ≤ length bytes
has_some mtr bytes rest h = omega (arith, ap length h, length-append (mtr_bytes mtr) rest, mtr_length mtr)

-- the end of the bytes
pub ended : (all : Read (List Mtr)) (bytes : List ℕ) (node last0 : ℕ) (old : List ℕ) (fuel last place : ℕ) (rest now : List ℕ) → SoFar all bytes node last0 old fuel last place rest now → rest ≡ [] → AreChecked all bytes node last0 old now last
ended all bytes node last0 old fuel last place rest now so none = record {
  mtrs = so.front;
  is = sym so.reads ∙ ap (λ (r : List ℕ). with_mtrs so.front (mtrs_at fuel node last r place)) none ∙ ap Ok (append-nil so.front);
  spelled = so.spelled ∙ ap (λ (r : List ℕ). batch_bytes so.front ++ r) none ∙ append-nil (batch_bytes so.front);
  each = so.each;
  rising = so.rising;
  end_is = so.last_is;
  added = so.added;
}

-- what the rest is read as, where there is some
pub step : (fuel node last place : ℕ) (rest : List ℕ) → 1 ≤ length rest → mtrs_at (suc fuel) node last rest place ≡
    and_then (from_place place (mtr_at rest)) (λ found.
    and_then (field place (found.0.node == node && nat_lt last found.0.llsn) found.0) (λ mtr.
    and_then (mtrs_at fuel node mtr.llsn (drop found.1 rest) (place + found.1)) (λ mtrs.
    Ok (mtr ∷ mtrs))))
step fuel node last place [] some = absurd (omega arith)
step fuel node last place (byte ∷ rest) some = refl

-- no fuel is left, but bytes
pub spent : (node last place : ℕ) (rest : List ℕ) → 1 ≤ length rest → mtrs_at 0 node last rest place ≡ Err place
spent node last place [] some = absurd (omega arith)
spent node last place (byte ∷ rest) some = refl

pub left_over : (all : Read (List Mtr)) (bytes : List ℕ) (node last0 : ℕ) (old : List ℕ) (last place : ℕ) (rest now : List ℕ) → SoFar all bytes node last0 old 0 last place rest now → 1 ≤ length rest → all ≡ Err place
left_over all bytes node last0 old last place rest now so some = sym so.reads ∙ ap (with_mtrs so.front) (spent node last place rest some)

module _ (all : Read (List Mtr)) (bytes : List ℕ) (node last0 : ℕ) (old : List ℕ) (left fuel last place : ℕ) (rest now : List ℕ) (so : SoFar all bytes node last0 old left last place rest now) (one_more : left ≡ suc fuel) (some : 1 ≤ length rest) where
  opened : all ≡ with_mtrs so.front (and_then (from_place place (mtr_at rest)) (λ found.
      and_then (field place (found.0.node == node && nat_lt last found.0.llsn) found.0) (λ mtr.
      and_then (mtrs_at fuel node mtr.llsn (drop found.1 rest) (place + found.1)) (λ mtrs.
      Ok (mtr ∷ mtrs)))))
  opened = sym so.reads ∙ ap (λ (n : ℕ). with_mtrs so.front (mtrs_at n node last rest place)) one_more ∙ ap (with_mtrs so.front) (step fuel node last place rest some)

  -- the next mtr isn't of the grammar
  pub stops : (fault : ℕ) → from_place place (mtr_at rest) ≡ Err fault → all ≡ Err fault
  stops fault e = opened ∙ ap (λ (r : Read (Mtr × ℕ)). with_mtrs so.front (and_then r (λ found.
      and_then (field place (found.0.node == node && nat_lt last found.0.llsn) found.0) (λ mtr.
      and_then (mtrs_at fuel node mtr.llsn (drop found.1 rest) (place + found.1)) (λ mtrs.
      Ok (mtr ∷ mtrs)))))) e

  read_next : (mtr : Mtr) (count : ℕ) → from_place place (mtr_at rest) ≡ Ok (mtr, count) → all ≡ with_mtrs so.front (and_then (field place (mtr.node == node && nat_lt last mtr.llsn) mtr) (λ m.
      and_then (mtrs_at fuel node m.llsn (drop count rest) (place + count)) (λ mtrs. Ok (m ∷ mtrs))))
  read_next mtr count e = opened ∙ ap (λ (r : Read (Mtr × ℕ)). with_mtrs so.front (and_then r (λ found.
      and_then (field place (found.0.node == node && nat_lt last found.0.llsn) found.0) (λ mtr.
      and_then (mtrs_at fuel node mtr.llsn (drop found.1 rest) (place + found.1)) (λ mtrs.
      Ok (mtr ∷ mtrs)))))) e

  -- it is of another node, or its LLSN isn't above
  pub refuses : (mtr : Mtr) (count : ℕ) → from_place place (mtr_at rest) ≡ Ok (mtr, count) → (mtr.node == node && nat_lt last mtr.llsn) ≡ false → all ≡ Err place
  refuses mtr count e test = read_next mtr count e ∙ ap (λ (b : Bool). with_mtrs so.front (and_then (field place b mtr) (λ m.
      and_then (mtrs_at fuel node m.llsn (drop count rest) (place + count)) (λ mtrs. Ok (m ∷ mtrs))))) test

  -- it is one more
  pub goes_on : (mtr : Mtr) (count start : ℕ) (next new : List ℕ) → from_place place (mtr_at rest) ≡ Ok (mtr, count) → (mtr.node == node && nat_lt last mtr.llsn) ≡ true → IsMtr mtr → rest ≡ mtr_bytes mtr ++ drop count rest
      → next ≡ drop count rest → start ≡ place + count → new ≡ now ++ mtr.llsn ∷ [] → SoFar all bytes node last0 old fuel mtr.llsn start next new
  goes_on mtr count start next new e test sound spelled is_next is_start is_new = record {
    front = so.front ++ mtr ∷ [];
    reads = with_one so.front mtr (mtrs_at fuel node mtr.llsn next start)
        ∙ ap (λ (n : List ℕ). with_mtrs so.front (and_then (mtrs_at fuel node mtr.llsn n start) (λ mtrs. Ok (mtr ∷ mtrs)))) is_next
        ∙ ap (λ (p : ℕ). with_mtrs so.front (and_then (mtrs_at fuel node mtr.llsn (drop count rest) p) (λ mtrs. Ok (mtr ∷ mtrs)))) is_start
        ∙ sym (read_next mtr count e ∙ ap (λ (b : Bool). with_mtrs so.front (and_then (field place b mtr) (λ m.
        and_then (mtrs_at fuel node m.llsn (drop count rest) (place + count)) (λ mtrs. Ok (m ∷ mtrs))))) test);
    spelled = so.spelled ∙ ap (λ (r : List ℕ). batch_bytes so.front ++ r) (spelled ∙ ap (λ (r : List ℕ). mtr_bytes mtr ++ r) (sym is_next))
        ∙ sym (append_assoc (batch_bytes so.front) (mtr_bytes mtr) next)
        ∙ ap (λ (x : List ℕ). x ++ next) (sym (flat_map-append mtr_bytes so.front (mtr ∷ []) ∙ ap (λ (x : List ℕ). batch_bytes so.front ++ x) (append-nil (mtr_bytes mtr))));
    each = All-append (IsOf node) so.front (mtr ∷ []) so.each ((sound, eqb-true mtr.node node (and_parts (mtr.node == node) (nat_lt last mtr.llsn) test).0), tt);
    rising = rises_more last0 so.front mtr so.rising (subst (λ (n : ℕ). n < mtr.llsn) so.last_is (ltb-true last mtr.llsn (and_parts (mtr.node == node) (nat_lt last mtr.llsn) test).1)) sound.llsn;
    last_is = sym (last_more last0 so.front);
    added = is_new ∙ ap (λ (x : List ℕ). x ++ mtr.llsn ∷ []) so.added ∙ append_assoc old (map llsn_of so.front) (mtr.llsn ∷ []) ∙ ap (λ (x : List ℕ). old ++ x) (sym (map-append llsn_of so.front (mtr ∷ [])));
  }
    where
      last_more : (l : ℕ) (mtrs : List Mtr) → last_after l (mtrs ++ mtr ∷ []) ≡ mtr.llsn
      last_more l [] = refl
      last_more l (m ∷ ms) = last_more m.llsn ms
