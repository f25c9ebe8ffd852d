-- An mtr that is read is spelled so, and what is spelled so is read, whatever follows. So no spelling begins another.
use Rattle.std.proofs.Common.{◌≡◌, ℕ, zero, suc, ◌+◌, ◌-◌, ◌^◌, ◌<◌, ◌≤◌, ◌==◌, cond, Bool, true, false, List, [], ◌∷◌, ◌++◌, length, take, drop, Ok, Err, Some, None, refl, sym, ap, subst, ◌∙◌, arith}
use Rattle.std.specs.List.{flat_map, AllByRecursion}
use Rattle.std.proofs.lemmas.Bool.{eqb-true}
use Rattle.std.proofs.lemmas.Bool.Decides.{nat_tests}
use Rattle.std.proofs.lemmas.List.{append_assoc, append-nil, length-append, length-drop, take_at}
use Rattle.byteorder.specs.Endian.{little_bytes}
use Rattle.mp_model.specs.declared.ids.TrxId.{TrxId}
use Rattle.mp_cells.specs.declared.changes.Change.{Change}
use Rattle.mp_cells.specs.declared.records.Record.{Record}
use Rattle.mp_cells.specs.declared.records.Record.TheVariants.{Page, Commit}
use Rattle.mp_cells.specs.declared.records.Mtr.{Mtr}
use Rattle.mp_cells.specs.Rows.{is_writer}
use Rattle.mp_cells.specs.RowCell.{writer_bytes}
use Rattle.mp_cells.specs.Mtrs.{IsChange, IsPageRecord, AreRecords, IsMtr}
use Rattle.mp_redo.specs.declared.kinds.ChangeKind.{ChangeKind}
use Rattle.mp_redo.specs.declared.kinds.ChangeKind.TheVariants as kinds
use Rattle.mp_redo.specs.Spelling.{kind_number, commit_number, kind_of_change, change_bytes, record_bytes, mtr_bytes, Spells}
use Rattle.mp_redo.specs.Reading.{Read, and_then, number, id_at, change_at, kind_of, page_record_at, commit_at, most_kind, record_at, records_at, mtr_at, fault_of, mtr_fault}
use Rattle.mp_redo.proofs.Fields.{AreBytes, IsField, InRange, both_read, both_again, number_field, id_field}
use Rattle.mp_redo.proofs.Cells.{part_after, one_byte}
use Rattle.mp_redo.proofs.ChangeSpelling.{IsRead, IsReadAgain, change_read, change_again, room_for}

-- ---- kinds and their numbers
number_of_kind : (n : ℕ) → 1 ≤ n → n ≤ 9 → kind_number (kind_of n) ≡ n
number_of_kind zero h k = absurd (omega arith)
number_of_kind (suc zero) h k = refl
number_of_kind (suc (suc zero)) h k = refl
number_of_kind (suc (suc (suc zero))) h k = refl
number_of_kind (suc (suc (suc (suc zero)))) h k = refl
number_of_kind (suc (suc (suc (suc (suc zero))))) h k = refl
number_of_kind (suc (suc (suc (suc (suc (suc zero)))))) h k = refl
number_of_kind (suc (suc (suc (suc (suc (suc (suc zero))))))) h k = refl
number_of_kind (suc (suc (suc (suc (suc (suc (suc (suc zero)))))))) h k = refl
number_of_kind (suc (suc (suc (suc (suc (suc (suc (suc (suc zero))))))))) h k = refl
number_of_kind (suc (suc (suc (suc (suc (suc (suc (suc (suc (suc n)))))))))) h k = absurd (omega arith)

kind_of_number : (kind : ChangeKind) → (kind_of (kind_number kind) ≡ kind) × (1 ≤ kind_number kind) × (kind_number kind ≤ 9) × ((kind_number kind == commit_number) ≡ false)
kind_of_number kinds.MakeLeaf = (refl, omega arith, omega arith, refl)
kind_of_number kinds.MakeInner = (refl, omega arith, omega arith, refl)
kind_of_number kinds.MakeUndo = (refl, omega arith, omega arith, refl)
kind_of_number kinds.PutRow = (refl, omega arith, omega arith, refl)
kind_of_number kinds.RestoreRow = (refl, omega arith, omega arith, refl)
kind_of_number kinds.Cut = (refl, omega arith, omega arith, refl)
kind_of_number kinds.PutChild = (refl, omega arith, omega arith, refl)
kind_of_number kinds.PutUndo = (refl, omega arith, omega arith, refl)
kind_of_number kinds.TakePage = (refl, omega arith, omega arith, refl)

-- ---- records

-- a record that may be read where the kinds go up to a number
abbrev pub IsRecord : ℕ → ℕ → Record → Type 0
IsRecord most llsn (Page page prev change) = IsPageRecord llsn (Page page prev change)
IsRecord most llsn (Commit id cts) = (commit_number ≤ most) × (is_writer id ≡ true) × (1 ≤ cts) × (cts < 2 ^ 38)

-- a record of a change, of a kind
abbrev IsOfChange : ChangeKind → ℕ → Record → Type 0
IsOfChange kind llsn (Page page prev change) = (kind_of_change change ≡ kind) × (page < 4096) × (prev ≤ llsn) × IsChange change
IsOfChange kind llsn (Commit id cts) = ⊥

abbrev IsCommit : Record → Type 0
IsCommit (Page page prev change) = ⊥
IsCommit (Commit id cts) = (is_writer id ≡ true) × (1 ≤ cts) × (cts < 2 ^ 38)

-- the bytes of a record behind its kind
abbrev rest_bytes : Record → List ℕ
rest_bytes (Page page prev change) = little_bytes 2 page ++ (little_bytes 8 prev ++ change_bytes change)
rest_bytes (Commit id cts) = writer_bytes (Some id) ++ little_bytes 8 cts

number_field_page : IsField (number 2 0 4095) 2 (little_bytes 2) (InRange 0 4095)
number_field_page = number_field 2 0 4095 (omega arith) (omega arith)

number_field_prev : (llsn : ℕ) → llsn < 2 ^ 62 → IsField (number 8 0 llsn) 8 (little_bytes 8) (InRange 0 llsn)
number_field_prev llsn h = number_field 8 0 llsn (omega arith) (omega (arith, h))

number_field_cts : IsField (number 8 1 (2 ^ 38 - 1)) 8 (little_bytes 8) (InRange 1 (2 ^ 38 - 1))
number_field_cts = number_field 8 1 (2 ^ 38 - 1) (omega arith) (omega arith)

page_record_read : (kind : ChangeKind) (llsn : ℕ) (bytes : List ℕ) (at : ℕ) (r : Record × ℕ) → llsn < 2 ^ 62 → AreBytes bytes → page_record_at kind llsn bytes at ≡ Ok r → IsRead (IsOfChange kind llsn) rest_bytes bytes at r.0 r.1
page_record_read kind llsn bytes at r fit fits h =
    let a = both_read (number 2 0 4095 bytes at) (λ page. and_then (number 8 0 llsn bytes (at + 2)) (λ prev. and_then (change_at kind bytes (at + 10)) (λ change. Ok (Page page prev change.0, change.1)))) r h in
    let b = both_read (number 8 0 llsn bytes (at + 2)) (λ prev. and_then (change_at kind bytes (at + 10)) (λ change. Ok (Page a.0 prev change.0, change.1))) r a.2 in
    let c = both_read (change_at kind bytes (at + 10)) (λ change. Ok (Page a.0 b.0 change.0, change.1)) r b.2 in
    let page = number_field_page.reads bytes at a.0 fits a.1 in
    let prev = (number_field_prev llsn fit).reads bytes (at + 2) b.0 fits b.1 in
    let place : at + 2 + 8 ≡ at + 10 = omega arith in
    let change = change_read kind bytes (at + 10) c.0 (subst (λ (k : ℕ). k ≤ length bytes) place prev.1) fits c.1 in
    let e : (Page a.0 b.0 c.0.0, c.0.1) ≡ r = let f = c.2 in cc in
    let behind_page : drop (at + 2) bytes ≡ little_bytes 8 b.0 ++ (change_bytes c.0.0 ++ drop c.0.1 bytes) = part_after (little_bytes 8 b.0) (drop (at + 2 + 8) bytes) (drop (at + 2) bytes) _ prev.2 (ap (λ (k : ℕ). drop k bytes) place ∙ change.spelled) in
    let whole : drop at bytes ≡ little_bytes 2 a.0 ++ (little_bytes 8 b.0 ++ (change_bytes c.0.0 ++ drop c.0.1 bytes)) = part_after (little_bytes 2 a.0) (drop (at + 2) bytes) (drop at bytes) _ page.2 behind_page in
    subst (λ (x : Record × ℕ). IsRead (IsOfChange kind llsn) rest_bytes bytes at x.0 x.1) e (record {
      good = (change.good.0, omega (arith, page.0.until), prev.0.until, change.good.1);
      room = change.room;
      spelled = whole;
    })

commit_read : (bytes : List ℕ) (at : ℕ) (r : Record × ℕ) → AreBytes bytes → commit_at bytes at ≡ Ok r → IsRead IsCommit rest_bytes bytes at r.0 r.1
commit_read bytes at r fits h =
    let a = both_read (id_at bytes at) (λ id. and_then (number 8 1 (2 ^ 38 - 1) bytes (at + 8)) (λ cts. Ok (Commit id cts, at + 16))) r h in
    let b = both_read (number 8 1 (2 ^ 38 - 1) bytes (at + 8)) (λ cts. Ok (Commit a.0 cts, at + 16)) r a.2 in
    let id = id_field.reads bytes at a.0 fits a.1 in
    let cts = number_field_cts.reads bytes (at + 8) b.0 fits b.1 in
    let place : at + 8 + 8 ≡ at + 16 = omega arith in
    let e : (Commit a.0 b.0, at + 16) ≡ r = let f = b.2 in cc in
    let whole : drop at bytes ≡ writer_bytes (Some a.0) ++ (little_bytes 8 b.0 ++ drop (at + 16) bytes) = part_after (writer_bytes (Some a.0)) (drop (at + 8) bytes) (drop at bytes) _ id.2 (cts.2 ∙ ap (λ (k : ℕ). little_bytes 8 b.0 ++ drop k bytes) place) in
    subst (λ (x : Record × ℕ). IsRead IsCommit rest_bytes bytes at x.0 x.1) e (record {
      good = (id.0, cts.0.from, omega (arith, cts.0.until));
      room = omega (arith, cts.1);
      spelled = whole;
    })

-- a record from its kind and what stands behind it
with_kind : (most llsn kind : ℕ) (bytes : List ℕ) (at : ℕ) (x : Record) (end : ℕ) → kind < 256 → drop at bytes ≡ little_bytes 1 kind ++ drop (at + 1) bytes
    → drop (at + 1) bytes ≡ rest_bytes x ++ drop end bytes → end ≤ length bytes → IsRecord most llsn x → kind ∷ rest_bytes x ≡ record_bytes x → IsRead (IsRecord most llsn) record_bytes bytes at x end
with_kind most llsn kind bytes at x end lt front back room good whole = record {
  good = good;
  room = room;
  spelled = part_after (little_bytes 1 kind) (drop (at + 1) bytes) (drop at bytes) _ front back ∙ ap (λ (k : List ℕ). k ++ (rest_bytes x ++ drop end bytes)) (one_byte kind lt) ∙ ap (λ (part : List ℕ). part ++ drop end bytes) whole;
}

record_read : (most llsn : ℕ) (bytes : List ℕ) (at : ℕ) (r : Record × ℕ) → most ≤ 10 → llsn < 2 ^ 62 → AreBytes bytes → record_at most llsn bytes at ≡ Ok r → IsRead (IsRecord most llsn) record_bytes bytes at r.0 r.1
unfolding record_at
record_read most llsn bytes at r ten fit fits h =
    let a = both_read (number 1 1 most bytes at) (λ kind. cond (kind == commit_number) (commit_at bytes (at + 1)) (page_record_at (kind_of kind) llsn bytes (at + 1))) r h in
    let kind = (number_field 1 1 most (omega arith) (omega (arith, ten))).reads bytes at a.0 fits a.1 in
    by_test (a.0 == commit_number) a.0 refl kind a.2
  where
    as_commit : (x : Record) (end kind : ℕ) → InRange 1 most kind → kind ≡ commit_number → drop at bytes ≡ little_bytes 1 kind ++ drop (at + 1) bytes → IsRead IsCommit rest_bytes bytes (at + 1) x end → IsRead (IsRecord most llsn) record_bytes bytes at x end
    as_commit (Page page prev change) end kind range same front c = absurd c.good
    as_commit (Commit id cts) end kind range same front c =
        with_kind most llsn kind bytes at (Commit id cts) end (omega (arith, same)) front c.spelled c.room (omega (arith, same, range.until), c.good.0, c.good.1, c.good.2) (ap (λ (k : ℕ). k ∷ rest_bytes (Commit id cts)) same)

    as_page : (x : Record) (end kind : ℕ) → InRange 1 most kind → kind ≤ 9 → drop at bytes ≡ little_bytes 1 kind ++ drop (at + 1) bytes → IsRead (IsOfChange (kind_of kind) llsn) rest_bytes bytes (at + 1) x end → IsRead (IsRecord most llsn) record_bytes bytes at x end
    as_page (Commit id cts) end kind range nine front c = absurd c.good
    as_page (Page page prev change) end kind range nine front c =
        let same : kind ≡ kind_number (kind_of_change change) = sym (number_of_kind kind range.from nine) ∙ ap kind_number (sym c.good.0) in
        with_kind most llsn kind bytes at (Page page prev change) end (omega (arith, nine)) front c.spelled c.room (c.good.1, c.good.2, c.good.3) (ap (λ (k : ℕ). k ∷ rest_bytes (Page page prev change)) same)

    by_test : (b : Bool) (kind : ℕ) → (kind == commit_number) ≡ b → InRange 1 most kind × (at + 1 ≤ length bytes) × (drop at bytes ≡ little_bytes 1 kind ++ drop (at + 1) bytes)
        → cond b (commit_at bytes (at + 1)) (page_record_at (kind_of kind) llsn bytes (at + 1)) ≡ Ok r → IsRead (IsRecord most llsn) record_bytes bytes at r.0 r.1
    by_test true kind e k found = as_commit r.0 r.1 kind k.0 (eqb-true kind commit_number e) k.2 (commit_read bytes (at + 1) r fits found)
    by_test false kind e k found =
        let other : kind ≤ 9 = grind (arith, nat_tests, k.0.until, ten) in
        as_page r.0 r.1 kind k.0 other k.2 (page_record_read (kind_of kind) llsn bytes (at + 1) r fit fits found)

-- ---- and back

-- a record behind its kind
kind_again : (most llsn kind : ℕ) (bytes rest : List ℕ) (at : ℕ) (x : Record) (found : Read (Record × ℕ)) (end : ℕ) → at ≤ length bytes → kind < 256 → InRange 1 most kind → most ≤ 10
    → drop at bytes ≡ (kind ∷ rest_bytes x) ++ rest
    → (drop (at + 1) bytes ≡ rest_bytes x ++ rest) × (at + 1 ≤ length bytes) × (number 1 1 most bytes at ≡ Ok kind)
kind_again most llsn kind bytes rest at x found end long lt range ten h =
    let spelled : drop at bytes ≡ little_bytes 1 kind ++ (rest_bytes x ++ rest) = h ∙ ap (λ (k : List ℕ). k ++ (rest_bytes x ++ rest)) (sym (one_byte kind lt)) in
    let a = (number_field 1 1 most (omega arith) (omega (arith, ten))).again bytes (rest_bytes x ++ rest) at kind range spelled in
    (a.1, room_for at 1 bytes (little_bytes 1 kind) (rest_bytes x ++ rest) long spelled refl, a.0)

commit_again : (id : TrxId) (cts : ℕ) (bytes rest : List ℕ) (at : ℕ) → at ≤ length bytes → IsCommit (Commit id cts) → drop at bytes ≡ rest_bytes (Commit id cts) ++ rest → IsReadAgain (commit_at bytes at) bytes rest (Commit id cts) (at + 16)
commit_again id cts bytes rest at long good h =
    let spelled : drop at bytes ≡ writer_bytes (Some id) ++ (little_bytes 8 cts ++ rest) = h in
    let a = id_field.again bytes (little_bytes 8 cts ++ rest) at id good.0 spelled in
    let b = number_field_cts.again bytes rest (at + 8) cts (record { from = good.1; until = omega (arith, good.2) }) a.1 in
    let place : at + 16 ≡ at + 8 + 8 = omega arith in
    record {
      value = both_again (id_at bytes at) (λ i. and_then (number 8 1 (2 ^ 38 - 1) bytes (at + 8)) (λ c. Ok (Commit i c, at + 16))) id (Ok (Commit id cts, at + 16)) a.0
          (both_again (number 8 1 (2 ^ 38 - 1) bytes (at + 8)) (λ c. Ok (Commit id c, at + 16)) cts (Ok (Commit id cts, at + 16)) b.0 refl);
      room = room_for at 16 bytes (rest_bytes (Commit id cts)) rest long h refl;
      behind = ap (λ (k : ℕ). drop k bytes) place ∙ b.1;
    }

page_again : (page prev : ℕ) (change : Change) (llsn : ℕ) (bytes rest : List ℕ) (at : ℕ) → at ≤ length bytes → llsn < 2 ^ 62 → IsPageRecord llsn (Page page prev change) → drop at bytes ≡ rest_bytes (Page page prev change) ++ rest
    → (end : ℕ) × IsReadAgain (page_record_at (kind_of_change change) llsn bytes at) bytes rest (Page page prev change) end
page_again page prev change llsn bytes rest at long fit good h =
    let kind = kind_of_change change in
    let spelled : drop at bytes ≡ little_bytes 2 page ++ (little_bytes 8 prev ++ (change_bytes change ++ rest)) = h in
    let a = number_field_page.again bytes (little_bytes 8 prev ++ (change_bytes change ++ rest)) at page (record { from = omega arith; until = omega (arith, good.0) }) spelled in
    let b = (number_field_prev llsn fit).again bytes (change_bytes change ++ rest) (at + 2) prev (record { from = omega arith; until = good.1 }) a.1 in
    let place : at + 10 ≡ at + 2 + 8 = omega arith in
    let room = room_for at 10 bytes (little_bytes 2 page ++ little_bytes 8 prev) (change_bytes change ++ rest) long spelled refl in
    let c = change_again change bytes rest (at + 10) room good.2 (ap (λ (k : ℕ). drop k bytes) place ∙ b.1) in (
      c.0,
      record {
        value = both_again (number 2 0 4095 bytes at) (λ p. and_then (number 8 0 llsn bytes (at + 2)) (λ v. and_then (change_at kind bytes (at + 10)) (λ x. Ok (Page p v x.0, x.1)))) page (Ok (Page page prev change, c.0)) a.0
            (both_again (number 8 0 llsn bytes (at + 2)) (λ v. and_then (change_at kind bytes (at + 10)) (λ x. Ok (Page page v x.0, x.1))) prev (Ok (Page page prev change, c.0)) b.0
            (both_again (change_at kind bytes (at + 10)) (λ x. Ok (Page page prev x.0, x.1)) (change, c.0) (Ok (Page page prev change, c.0)) c.1.value refl));
        room = c.1.room;
        behind = c.1.behind;
      },
    )

record_again : (most llsn : ℕ) (x : Record) (bytes rest : List ℕ) (at : ℕ) → 9 ≤ most → most ≤ 10 → llsn < 2 ^ 62 → at ≤ length bytes → IsRecord most llsn x → drop at bytes ≡ record_bytes x ++ rest
    → (end : ℕ) × IsReadAgain (record_at most llsn bytes at) bytes rest x end
unfolding record_at
record_again most llsn (Commit id cts) bytes rest at nine ten fit long good h =
    let a = kind_again most llsn commit_number bytes rest at (Commit id cts) (Err 0) 0 long (omega arith) (record { from = omega arith; until = good.0 }) ten h in
    let b = commit_again id cts bytes rest (at + 1) a.1 (good.1, good.2, good.3) a.0 in (
      at + 1 + 16,
      record {
        value = both_again (number 1 1 most bytes at) (λ kind. cond (kind == commit_number) (commit_at bytes (at + 1)) (page_record_at (kind_of kind) llsn bytes (at + 1))) commit_number (Ok (Commit id cts, at + 1 + 16)) a.2 b.value;
        room = b.room;
        behind = b.behind;
      },
    )
record_again most llsn (Page page prev change) bytes rest at nine ten fit long good h =
    let n = kind_number (kind_of_change change) in
    let k = kind_of_number (kind_of_change change) in
    let a = kind_again most llsn n bytes rest at (Page page prev change) (Err 0) 0 long (omega (arith, k.2)) (record { from = k.1; until = omega (arith, k.2, nine) }) ten h in
    let b = page_again page prev change llsn bytes rest (at + 1) a.1 fit good a.0 in
    let chosen : cond (n == commit_number) (commit_at bytes (at + 1)) (page_record_at (kind_of n) llsn bytes (at + 1)) ≡ page_record_at (kind_of_change change) llsn bytes (at + 1) =
    ap (λ (test : Bool). cond test (commit_at bytes (at + 1)) (page_record_at (kind_of n) llsn bytes (at + 1))) k.3 ∙ ap (λ (kind : ChangeKind). page_record_at kind llsn bytes (at + 1)) k.0 in (
      b.0,
      record {
        value = both_again (number 1 1 most bytes at) (λ kind. cond (kind == commit_number) (commit_at bytes (at + 1)) (page_record_at (kind_of kind) llsn bytes (at + 1))) n (Ok (Page page prev change, b.0)) a.2 (chosen ∙ b.1.value);
        room = b.1.room;
        behind = b.1.behind;
      },
    )

-- ---- so many records
record AreRead (most llsn n : ℕ) (bytes : List ℕ) (at : ℕ) (items : List Record) (end : ℕ) : Type 0 where
  count : length items ≡ n
  good : AllByRecursion (IsRecord most llsn) items
  room : end ≤ length bytes
  spelled : drop at bytes ≡ flat_map record_bytes items ++ drop end bytes

records_read : (n most llsn : ℕ) (bytes : List ℕ) (at : ℕ) (r : List Record × ℕ) → most ≤ 10 → llsn < 2 ^ 62 → at ≤ length bytes → AreBytes bytes → records_at n most llsn bytes at ≡ Ok r → AreRead most llsn n bytes at r.0 r.1
records_read zero most llsn bytes at r ten fit long fits h =
    let e : ([], at) ≡ r = cc in
    subst (λ (x : List Record × ℕ). AreRead most llsn 0 bytes at x.0 x.1) e (record { count = refl; good = tt; room = long; spelled = refl })
records_read (suc n) most llsn bytes at r ten fit long fits h =
    let a = both_read (record_at most llsn bytes at) (λ item. and_then (records_at n most llsn bytes item.1) (λ rest. Ok (item.0 ∷ rest.0, rest.1))) r h in
    let b = both_read (records_at n most llsn bytes a.0.1) (λ rest. Ok (a.0.0 ∷ rest.0, rest.1)) r a.2 in
    let c = record_read most llsn bytes at a.0 ten fit fits a.1 in
    let d = records_read n most llsn bytes a.0.1 b.0 ten fit c.room fits b.1 in
    let e : (a.0.0 ∷ b.0.0, b.0.1) ≡ r = let f = b.2 in cc in
    subst (λ (x : List Record × ℕ). AreRead most llsn (suc n) bytes at x.0 x.1) e (record {
      count = ap suc d.count;
      good = (c.good, d.good);
      room = d.room;
      spelled = part_after (record_bytes a.0.0) (drop a.0.1 bytes) (drop at bytes) (flat_map record_bytes b.0.0 ++ drop b.0.1 bytes) c.spelled d.spelled ∙ sym (append_assoc (record_bytes a.0.0) (flat_map record_bytes b.0.0) (drop b.0.1 bytes));
    })

records_again : (most llsn : ℕ) (items : List Record) (bytes rest : List ℕ) (at : ℕ) → 9 ≤ most → most ≤ 10 → llsn < 2 ^ 62 → at ≤ length bytes → AllByRecursion (IsRecord most llsn) items → drop at bytes ≡ flat_map record_bytes items ++ rest
    → (end : ℕ) × IsReadAgain (records_at (length items) most llsn bytes at) bytes rest items end
records_again most llsn [] bytes rest at nine ten fit long good h = (at, record { value = refl; room = long; behind = h })
records_again most llsn (x ∷ xs) bytes rest at nine ten fit long good h =
    let a = record_again most llsn x bytes (flat_map record_bytes xs ++ rest) at nine ten fit long good.0 (h ∙ append_assoc (record_bytes x) (flat_map record_bytes xs) rest) in
    let b = records_again most llsn xs bytes rest a.0 nine ten fit a.1.room good.1 a.1.behind in (
      b.0,
      record {
        value = both_again (record_at most llsn bytes at) (λ item. and_then (records_at (length xs) most llsn bytes item.1) (λ more. Ok (item.0 ∷ more.0, more.1))) (x, a.0) (Ok (x ∷ xs, b.0)) a.1.value
            (both_again (records_at (length xs) most llsn bytes a.0) (λ more. Ok (x ∷ more.0, more.1)) (xs, b.0) (Ok (x ∷ xs, b.0)) b.1.value refl);
        room = b.1.room;
        behind = b.1.behind;
      },
    )

-- ---- the records of an mtr
pages_alone : (llsn : ℕ) (items : List Record) → AllByRecursion (IsRecord 9 llsn) items → AllByRecursion (IsPageRecord llsn) items
pages_alone llsn [] h = tt
pages_alone llsn (Page page prev change ∷ items) h = (h.0, pages_alone llsn items h.1)
pages_alone llsn (Commit id cts ∷ items) h = absurd (omega (arith, h.0.0))

pages_among : (most llsn : ℕ) (items : List Record) → AllByRecursion (IsPageRecord llsn) items → AllByRecursion (IsRecord most llsn) items
pages_among most llsn [] h = tt
pages_among most llsn (Page page prev change ∷ items) h = (h.0, pages_among most llsn items h.1)
pages_among most llsn (Commit id cts ∷ items) h = absurd h.0

are_records : (llsn : ℕ) (items : List Record) → 1 ≤ length items → length items ≤ 20 → AllByRecursion (IsRecord (most_kind (length items)) llsn) items → AreRecords llsn items
are_records llsn [] least most good = absurd (omega arith)
are_records llsn (Page page prev change ∷ []) least most good = (least, most, good)
are_records llsn (Commit id cts ∷ []) least most good = (good.0.1, good.0.2, good.0.3)
are_records llsn (Page page prev change ∷ x ∷ items) least most good = (least, most, pages_alone llsn (Page page prev change ∷ x ∷ items) (several (Page page prev change) x items good))
  where
    several : (a b : Record) (more : List Record) → AllByRecursion (IsRecord (most_kind (length (a ∷ b ∷ more))) llsn) (a ∷ b ∷ more) → AllByRecursion (IsRecord 9 llsn) (a ∷ b ∷ more)
    several a b more h = let test : (suc (suc (length more)) == 1) ≡ false = grind (arith, nat_tests) in subst (λ (t : Bool). AllByRecursion (IsRecord (cond t commit_number 9) llsn) (a ∷ b ∷ more)) test h
are_records llsn (Commit id cts ∷ x ∷ items) least most good =
    let test : (suc (suc (length items)) == 1) ≡ false = grind (arith, nat_tests) in
    let h = subst (λ (t : Bool). AllByRecursion (IsRecord (cond t commit_number 9) llsn) (Commit id cts ∷ x ∷ items)) test good in
    absurd (omega (arith, h.0.0))

record RecordParts (llsn : ℕ) (items : List Record) : Type 0 where
  least : 1 ≤ length items
  most : length items ≤ 20
  each : AllByRecursion (IsRecord (most_kind (length items)) llsn) items

record_parts : (llsn : ℕ) (items : List Record) → AreRecords llsn items → RecordParts llsn items
record_parts llsn [] h = absurd (omega (arith, h.0))
record_parts llsn (Commit id cts ∷ []) h = record { least = omega arith; most = omega arith; each = ((omega arith, h.0, h.1, h.2), tt) }
record_parts llsn (Page page prev change ∷ items) h = record { least = h.0; most = h.1; each = pages_among (most_kind (length (Page page prev change ∷ items))) llsn (Page page prev change ∷ items) h.2 }
record_parts llsn (Commit id cts ∷ x ∷ items) h = absurd h.2.0

kinds_end : (count : ℕ) → (9 ≤ most_kind count) × (most_kind count ≤ 10)
kinds_end count = by_test (count == 1)
  where
    by_test : (b : Bool) → (9 ≤ cond b commit_number 9) × (cond b commit_number 9 ≤ 10)
    by_test true = (omega arith, omega arith)
    by_test false = (omega arith, omega arith)

-- ---- an mtr
node_field : IsField (number 1 1 8) 1 (little_bytes 1) (InRange 1 8)
node_field = number_field 1 1 8 (omega arith) (omega arith)

count_field : IsField (number 1 1 20) 1 (little_bytes 1) (InRange 1 20)
count_field = number_field 1 1 20 (omega arith) (omega arith)

llsn_field : IsField (number 8 1 (2 ^ 62 - 1)) 8 (little_bytes 8) (InRange 1 (2 ^ 62 - 1))
llsn_field = number_field 8 1 (2 ^ 62 - 1) (omega arith) (omega arith)

-- what an mtr's fields spell
mtr_parts : (mtr : Mtr) (rest : List ℕ) → mtr.node < 256 → length mtr.records < 256
    → little_bytes 1 mtr.node ++ (little_bytes 1 (length mtr.records) ++ (little_bytes 8 mtr.llsn ++ (flat_map record_bytes mtr.records ++ rest))) ≡ mtr_bytes mtr ++ rest
unfolding mtr_bytes
mtr_parts mtr rest node count =
    ap (λ (n : List ℕ). n ++ (little_bytes 1 (length mtr.records) ++ (little_bytes 8 mtr.llsn ++ (flat_map record_bytes mtr.records ++ rest)))) (one_byte mtr.node node)
    ∙ ap (λ (n : List ℕ). mtr.node ∷ (n ++ (little_bytes 8 mtr.llsn ++ (flat_map record_bytes mtr.records ++ rest)))) (one_byte (length mtr.records) count)

front_of : (end : ℕ) (bytes part : List ℕ) → end ≤ length bytes → bytes ≡ part ++ drop end bytes → (take end bytes ≡ part) × (length part ≡ end)
front_of end bytes part room h =
    let n : length part ≡ end = omega (arith, ap length h ∙ length-append part (drop end bytes), length-drop end bytes, room) in
    (ap (take end) h ∙ take_at part (drop end bytes) end n, n)

pub mtr_read : (bytes : List ℕ) (r : Mtr × ℕ) → AreBytes bytes → mtr_at bytes ≡ Ok r → (r.1 ≤ length bytes) × IsMtr r.0 × (take r.1 bytes ≡ mtr_bytes r.0)
mtr_read bytes r fits h =
    let a = both_read (number 1 1 8 bytes 0) (λ node. and_then (number 1 1 20 bytes 1) (λ count. and_then (number 8 1 (2 ^ 62 - 1) bytes 2) (λ llsn. and_then (records_at count (most_kind count) llsn bytes 10) (λ records. Ok (record { node = node; llsn = llsn; records = records.0 }, records.1))))) r h in
    let b = both_read (number 1 1 20 bytes 1) (λ count. and_then (number 8 1 (2 ^ 62 - 1) bytes 2) (λ llsn. and_then (records_at count (most_kind count) llsn bytes 10) (λ records. Ok (record { node = a.0; llsn = llsn; records = records.0 }, records.1)))) r a.2 in
    let c = both_read (number 8 1 (2 ^ 62 - 1) bytes 2) (λ llsn. and_then (records_at b.0 (most_kind b.0) llsn bytes 10) (λ records. Ok (record { node = a.0; llsn = llsn; records = records.0 }, records.1))) r b.2 in
    let d = both_read (records_at b.0 (most_kind b.0) c.0 bytes 10) (λ records. Ok (record { node = a.0; llsn = c.0; records = records.0 }, records.1)) r c.2 in
    let node = node_field.reads bytes 0 a.0 fits a.1 in
    let count = count_field.reads bytes 1 b.0 fits b.1 in
    let llsn = llsn_field.reads bytes 2 c.0 fits c.1 in
    let fit : c.0 < 2 ^ 62 = omega (arith, llsn.0.until) in
    let items = records_read b.0 (most_kind b.0) c.0 bytes 10 d.0 (kinds_end b.0).1 fit llsn.1 fits d.1 in
    let mtr : Mtr = record { node = a.0; llsn = c.0; records = d.0.0 } in
    let e : (mtr, d.0.1) ≡ r = let f = d.2 in cc in
    let is_mtr : IsMtr mtr = record {
      node_least = node.0.from;
      node_most = node.0.until;
      llsn_least = llsn.0.from;
      llsn = fit;
      records = are_records c.0 d.0.0 (omega (arith, items.count, count.0.from)) (omega (arith, items.count, count.0.until)) (subst (λ (n : ℕ). AllByRecursion (IsRecord (most_kind n) c.0) d.0.0) (sym items.count) items.good);
    } in
    let back : drop 2 bytes ≡ little_bytes 8 c.0 ++ (flat_map record_bytes d.0.0 ++ drop d.0.1 bytes) = part_after (little_bytes 8 c.0) (drop 10 bytes) (drop 2 bytes) _ llsn.2 items.spelled in
    let middle : drop 1 bytes ≡ little_bytes 1 (length d.0.0) ++ (little_bytes 8 c.0 ++ (flat_map record_bytes d.0.0 ++ drop d.0.1 bytes)) =
    part_after (little_bytes 1 b.0) (drop 2 bytes) (drop 1 bytes) _ count.2 back ∙ ap (λ (n : ℕ). little_bytes 1 n ++ (little_bytes 8 c.0 ++ (flat_map record_bytes d.0.0 ++ drop d.0.1 bytes))) (sym items.count) in
    let whole : bytes ≡ mtr_bytes mtr ++ drop d.0.1 bytes =
    part_after (little_bytes 1 a.0) (drop 1 bytes) bytes _ node.2 middle ∙ mtr_parts mtr (drop d.0.1 bytes) (omega (arith, node.0.until)) (omega (arith, items.count, count.0.until)) in
    subst (λ (x : Mtr × ℕ). (x.1 ≤ length bytes) × IsMtr x.0 × (take x.1 bytes ≡ mtr_bytes x.0)) e (items.room, is_mtr, (front_of d.0.1 bytes (mtr_bytes mtr) items.room whole).0)

pub mtr_again : (mtr : Mtr) (rest : List ℕ) → IsMtr mtr → mtr_at (mtr_bytes mtr ++ rest) ≡ Ok (mtr, length (mtr_bytes mtr))
mtr_again mtr rest good =
    let bytes = mtr_bytes mtr ++ rest in
    let parts = record_parts mtr.llsn mtr.records good.records in
    let n = length mtr.records in
    let all_records = flat_map record_bytes mtr.records ++ rest in
    let spelled : bytes ≡ little_bytes 1 mtr.node ++ (little_bytes 1 n ++ (little_bytes 8 mtr.llsn ++ all_records)) = sym (mtr_parts mtr rest (omega (arith, good.node_most)) (omega (arith, parts.most))) in
    let a = node_field.again bytes (little_bytes 1 n ++ (little_bytes 8 mtr.llsn ++ all_records)) 0 mtr.node (record { from = good.node_least; until = good.node_most }) spelled in
    let b = count_field.again bytes (little_bytes 8 mtr.llsn ++ all_records) 1 n (record { from = parts.least; until = parts.most }) a.1 in
    let c = llsn_field.again bytes all_records 2 mtr.llsn (record { from = good.llsn_least; until = omega (arith, good.llsn) }) b.1 in
    let room = room_for 0 10 bytes (little_bytes 1 mtr.node ++ (little_bytes 1 n ++ little_bytes 8 mtr.llsn)) all_records (omega arith) spelled refl in
    let ends = kinds_end n in
    let d = records_again (most_kind n) mtr.llsn mtr.records bytes rest 10 ends.0 ends.1 good.llsn room parts.each c.1 in
    let found : Mtr × ℕ = (mtr, d.0) in
    let size = front_of d.0 bytes (mtr_bytes mtr) d.1.room (ap (λ (x : List ℕ). mtr_bytes mtr ++ x) (sym d.1.behind)) in
    both_again (number 1 1 8 bytes 0) (λ node. and_then (number 1 1 20 bytes 1) (λ count. and_then (number 8 1 (2 ^ 62 - 1) bytes 2) (λ llsn. and_then (records_at count (most_kind count) llsn bytes 10) (λ records. Ok (record { node = node; llsn = llsn; records = records.0 }, records.1))))) mtr.node (Ok found) a.0
    (both_again (number 1 1 20 bytes 1) (λ count. and_then (number 8 1 (2 ^ 62 - 1) bytes 2) (λ llsn. and_then (records_at count (most_kind count) llsn bytes 10) (λ records. Ok (record { node = mtr.node; llsn = llsn; records = records.0 }, records.1)))) n (Ok found) b.0
    (both_again (number 8 1 (2 ^ 62 - 1) bytes 2) (λ llsn. and_then (records_at n (most_kind n) llsn bytes 10) (λ records. Ok (record { node = mtr.node; llsn = llsn; records = records.0 }, records.1))) mtr.llsn (Ok found) c.0
    (both_again (records_at n (most_kind n) mtr.llsn bytes 10) (λ records. Ok (record { node = mtr.node; llsn = mtr.llsn; records = records.0 }, records.1)) (mtr.records, d.0) (Ok found) d.1.value refl)))
    ∙ ap (λ (k : ℕ). Ok (mtr, k)) (sym size.1)

-- ---- no spelling begins another
none : (xs : List ℕ) → length xs ≡ 0 → xs ≡ []
none [] e = refl
none (x ∷ xs) e = absurd (omega (arith, e))

nothing_more : (front back rest : List ℕ) → front ++ rest ≡ back → length front ≡ length back → rest ≡ []
nothing_more front back rest h e = none rest (omega (arith, ap length h, length-append front rest, e))

pub unique : (a b : Mtr) (rest : List ℕ) → IsMtr a → IsMtr b → mtr_bytes a ++ rest ≡ mtr_bytes b → (a ≡ b) × (rest ≡ [])
unique a b rest ha hb h =
    let read : mtr_at (mtr_bytes b) ≡ Ok (a, length (mtr_bytes a)) = ap mtr_at (sym h) ∙ mtr_again a rest ha in
    let other : mtr_at (mtr_bytes b) ≡ Ok (b, length (mtr_bytes b)) = ap mtr_at (sym (append-nil (mtr_bytes b))) ∙ mtr_again b [] hb in
    let both : (a, length (mtr_bytes a)) ≡ (b, length (mtr_bytes b)) = let e = sym read ∙ other in cc in
    (ap (λ (p : Mtr × ℕ). p.0) both, nothing_more (mtr_bytes a) (mtr_bytes b) rest h (ap (λ (p : Mtr × ℕ). p.1) both))

-- ---- no fault is in an mtr's spelling alone
pub no_fault : (mtr : Mtr) (rest : List ℕ) → IsMtr mtr → mtr_fault (mtr_bytes mtr ++ rest) ≡ None
no_fault mtr rest good = rw (mtr_again mtr rest good) refl

pub spelled_front : (bytes : List ℕ) → AreBytes bytes → mtr_fault bytes ≡ None → (mtr : Mtr) × (n : ℕ) × (n ≤ length bytes) × Spells mtr (take n bytes)
spelled_front bytes fits none = by_read (mtr_at bytes) refl none
  where
    by_read : (r : Read (Mtr × ℕ)) → mtr_at bytes ≡ r → fault_of r ≡ None → (mtr : Mtr) × (n : ℕ) × (n ≤ length bytes) × Spells mtr (take n bytes)
    by_read (Ok found) e h = let a = mtr_read bytes found fits e in (found.0, found.1, a.0, (a.1, a.2))
    by_read (Err place) e h = absurd cc
