-- A log as it is opened for a run is one that a primary may begin with; and what a primary asks of a script holds of each that is spelled.
use Rattle.std.proofs.Common.{◌≡◌, ℕ, ◌+◌, ◌≤◌, nat_lt, false, List, [], ◌∷◌, ◌++◌, length, filter, refl, ap, subst, arith}
use Rattle.std.specs.List.{AllByRecursion}
use Rattle.std.proofs.lemmas.Bool.Decides.{nat_tests}
use Rattle.std.proofs.lemmas.List.{length-append}
use Rattle.mp_cells.specs.declared.records.Mtr.{Mtr}
use Rattle.mp_outside.specs.declared.disks.Disk.{Ghosts}
use Rattle.mp_log.specs.Logs.{mtrs_of}
use Rattle.mp_log.specs.Tails.{LogView}
use Rattle.mp_script.specs.declared.statements.Script.{Script}
use Rattle.mp_script.specs.declared.entries.Entry.{Entry}
use Rattle.mp_script.specs.declared.entries.Entry.TheVariants.{Session, Statement}
use Rattle.mp_script.specs.Entries.{Said, nothing_said, with_entry, said_after}
use Rattle.mp_script.specs.Spelling.{AllFit, IsSpelled}
use Rattle.mp_supports.specs.Work.{Work}
use Rattle.mp_opening.specs.Openings.{IsLogFrom}
use Rattle.mp_primary.specs.Primaries.{IsFirstLog}

none_above : (base : ℕ) (mtrs : List Mtr) → AllByRecursion (λ mtr. mtr.llsn ≤ base) mtrs → filter (λ mtr. nat_lt base mtr.llsn) mtrs ≡ []
none_above base [] low = refl
none_above base (mtr ∷ mtrs) low =
    let at_most : mtr.llsn ≤ base = low.0 in
    let out : nat_lt base mtr.llsn ≡ false = grind (arith, nat_tests) in
    rw out (none_above base mtrs low.1)

pub first_log : {D : Type 0} (g : Ghosts D) (work : Work) (p : ℕ) (log : LogView D) → IsLogFrom g work.base.llsn p log → IsFirstLog g work p log
first_log g work p log h = record {
  takes = record { live = h.live; node = h.node; last = h.last; fits = let none = ap (λ (l : List ℕ). length l) h.nothing in omega (arith, none) };
  nothing = h.nothing;
  stands = λ tells. let s = h.stands tells in (s.0, s.1, none_above work.base.llsn (mtrs_of s.0) s.2);
}

few_after : (said : Said) (entries : List Entry) → AllFit said entries → length said.lines ≤ 10000 → length (said_after said entries).lines ≤ 10000
few_after said [] fit few = few
few_after said (Session s ∷ entries) fit few = few_after (with_entry said (Session s)) entries fit.1 few
few_after said (Statement line ∷ entries) fit few =
    let room = fit.0.room in
    let more : length (said.lines ++ line ∷ []) ≡ length said.lines + 1 = length-append said.lines (line ∷ []) in
    few_after (with_entry said (Statement line)) entries fit.1 (omega (arith, room, more))

pub few_lines : (script : Script) → IsSpelled script → length script.lines.items ≤ 10000
few_lines script (bytes, spells) =
    subst (λ (said : Said). length said.lines ≤ 10000) spells.spelled.whole (few_after (nothing_said script.primaries) spells.entries spells.spelled.fit (omega arith))
