-- The bounds where a session goes on: by a put, by a row put back, by a commit's draw and record, or without an mtr.
use Rattle.std.proofs.Common.{◌≡◌, ℕ, zero, suc, ◌+◌, ◌*◌, ◌<◌, ◌≤◌, Bool, true, List, [], ◌∷◌, ◌++◌, length, drop, count_by, sum_by, slice_get, slice_set, Option, None, Some, refl, sym, ap, subst, ◌∙◌, arith, append-nil, cond}
use Rattle.std.proofs.lemmas.List.Sums.{sum_by-append, sum_by-cons}
use Rattle.mp_model.specs.declared.replies.Answer.{Answer}
use Rattle.mp_cells.specs.declared.records.Mtr.{Mtr}
use Rattle.mp_cells.specs.declared.rows.Row.{Row}
use Rattle.mp_core_trx.specs.declared.opening.TrxOpening.{TrxOpening}
use Rattle.mp_core_trx.specs.declared.part.Begun.{Begun}
use Rattle.mp_core_pages.specs.declared.part.Placed.{Placed}
use Rattle.mp_core.specs.declared.part.CorePart.{CorePart}
use Rattle.mp_core.specs.CoreExtends.{CoreExtends}
use Rattle.mp_book.specs.declared.session.Session.{Session}
use Rattle.mp_book.specs.declared.stage.Stage.{Stage}
use Rattle.mp_book.specs.declared.stage.Stage.TheVariants.{Open}
use Rattle.mp_book.specs.Stages.{trx_of_stage, with_former}
use Rattle.mp_book.specs.Books.{GoesOn}
use Rattle.mp_book.proofs.Items.{stands_there}
use Rattle.mp_supports.specs.Work.{Work}
use Rattle.mp_supports.specs.Agreement.{rows_left_by, rows_left, is_of_write, Bounds}
use Rattle.mp_supports.proofs.Places.{sum_set, drop_at, drop_one_more}

-- answers more are no fewer, and a write more is one more
counted_more : (test : Answer → Bool) (answers more : List Answer) → count_by test (answers ++ more) ≡ count_by test answers + count_by test more
counted_more test answers more = sum_by-append (λ a. cond (test a) 1 0) answers more

abbrev one_if : Bool → ℕ
one_if b = cond b 1 0

counted_one : (test : Answer → Bool) (a : Answer) → test a ≡ true → count_by test (a ∷ []) ≡ 1
counted_one test a is = sum_by-cons (λ (x : Answer). one_if (test x)) a [] ∙ ap (λ (b : Bool). one_if b + 0) is

module _ (work : Work) (p q : CorePart) (e : CoreExtends p q) (answers : List Answer) (sessions : List Session) (number : ℕ) (s after : Session) (found : slice_get sessions number ≡ Some s) (h : Bounds work p answers sessions) where
  bounds_changed : (more : List Answer)
      → length q.pages.made + rows_left after + length p.trx.drew ≤ length p.pages.made + rows_left s + 2 * count_by (is_of_write work.lines) more + length q.trx.drew
      → Bounds work q (answers ++ more) (slice_set sessions number after)
  bounds_changed more le = record {
    base = ap (λ (o : TrxOpening). o.base) e.trx.same_opening ∙ h.base;
    begins = let same = ap (λ (o : TrxOpening). o.begins) e.trx.same_opening in let few = h.begins in omega (arith, same, few);
    few = h.few;
    mtrs =
        let sum = sum_set rows_left sessions number after s found in
        let count = counted_more (is_of_write work.lines) answers more in
        let old = h.mtrs in
        omega (arith, sum, count, old, le);
  }

  -- a put of the session's transaction, for the write that is answered
  pub bounds_put : (x : Placed Mtr) (trx : Begun) (former : Option Row) (a : Answer) → q.pages.made ≡ x ∷ p.pages.made → q.trx.drew ≡ p.trx.drew
      → trx_of_stage s.stage ≡ Some trx → GoesOn s after (Open trx) (with_former s.formers.items former) s.restored → is_of_write work.lines a ≡ true → Bounds work q (answers ++ a ∷ []) (slice_set sessions number after)
  bounds_put x trx former a made drew stage goes writes =
      let left : rows_left s ≡ length (drop s.restored s.formers.items) = ap (λ (o : Option Begun). rows_left_by o s) stage in
      let then_left : rows_left after ≡ length (drop after.restored after.formers.items) = ap (λ (st : Stage). rows_left_by (trx_of_stage st) after) goes.stage_is in
      let are : length (drop after.restored after.formers.items) ≡ length (drop s.restored (with_former s.formers.items former)) = ap (λ (i : ℕ). length (drop i after.formers.items)) goes.restored_is ∙ ap (λ (l : List Row). length (drop s.restored l)) goes.formers_are in
      let one = at_most former in
      let mtrs : length q.pages.made ≡ suc (length p.pages.made) = ap (λ (l : List (Placed Mtr)). length l) made in
      let draws : length q.trx.drew ≡ length p.trx.drew = ap (λ l. length l) drew in
      let count = counted_one (is_of_write work.lines) a writes in
      bounds_changed (a ∷ []) (omega (arith, left, then_left, are, one, mtrs, draws, count))
    where
      at_most : (o : Option Row) → length (drop s.restored (with_former s.formers.items o)) ≤ length (drop s.restored s.formers.items) + 1
      at_most None = omega arith
      at_most (Some row) = drop_one_more s.formers.items s.restored row

  -- a row of the session's transaction was put back
  pub bounds_back : (x : Placed Mtr) (trx : Begun) → q.pages.made ≡ x ∷ p.pages.made → q.trx.drew ≡ p.trx.drew
      → trx_of_stage s.stage ≡ Some trx → s.restored < length s.formers.items → after ≡ record s { restored = s.restored + 1 } → Bounds work q answers (slice_set sessions number after)
  bounds_back x trx made drew stage within is =
      let left : rows_left s ≡ length (drop s.restored s.formers.items) = ap (λ (o : Option Begun). rows_left_by o s) stage in
      let up : s.restored + 1 ≡ suc s.restored = omega arith in
      let then_left : rows_left after ≡ length (drop (suc s.restored) s.formers.items) =
      ap rows_left is ∙ ap (λ (o : Option Begun). rows_left_by o (record s { restored = s.restored + 1 })) stage ∙ ap (λ (i : ℕ). length (drop i s.formers.items)) up in
      let first = stands_there s.formers.items s.restored within in
      let cut : length (drop s.restored s.formers.items) ≡ suc (length (drop (suc s.restored) s.formers.items)) = ap (λ (l : List Row). length l) (drop_at s.formers.items s.restored first.0 first.1) in
      let mtrs : length q.pages.made ≡ suc (length p.pages.made) = ap (λ (l : List (Placed Mtr)). length l) made in
      let draws : length q.trx.drew ≡ length p.trx.drew = ap (λ l. length l) drew in
      let none : count_by (is_of_write work.lines) [] ≡ 0 = refl in
      subst (λ (l : List Answer). Bounds work q l (slice_set sessions number after)) (append-nil answers) (bounds_changed [] (omega (arith, left, then_left, cut, mtrs, draws, none)))

  -- a commit's record, for the timestamp that was drawn
  pub bounds_commit : (more : List Answer) → length q.pages.made ≡ length p.pages.made + 1 → length q.trx.drew ≡ length p.trx.drew + 1 → rows_left after ≤ rows_left s → Bounds work q (answers ++ more) (slice_set sessions number after)
  bounds_commit more mtrs draws le = bounds_changed more (omega (arith, mtrs, draws, le))

  -- no mtr
  pub bounds_answered : (more : List Answer) → length q.pages.made ≡ length p.pages.made → length p.trx.drew ≤ length q.trx.drew → rows_left after ≤ rows_left s → Bounds work q (answers ++ more) (slice_set sessions number after)
  bounds_answered more mtrs draws le = bounds_changed more (omega (arith, mtrs, draws, le))
