-- What mirrors a part, and the bounds, where a step changes nothing that they read.
use Rattle.std.proofs.Common.{◌≡◌, ◌≢◌, ℕ, ◌+◌, ◌*◌, ◌<◌, ◌≤◌, max, ◌⊎◌, ◌&&◌, Bool, true, false, if◌then◌else◌, List, [], ◌∷◌, ◌++◌, length, drop, count_by, sum_by, Option, None, Some, refl, sym, ap, subst, ◌∙◌, inl, inr, ⊎_elim, arith}
use Rattle.std.specs.Option.{IfSome}
use Rattle.mp_machine.specs.Lists.{IsIn}
use Rattle.std.proofs.lemmas.List.{length-append}
use Rattle.mp_machine.proofs.Lists.{in_after}
use Rattle.mp_model.specs.declared.replies.Answer.{Answer}
use Rattle.mp_model.specs.declared.replies.Reply.{Reply}
use Rattle.mp_script.specs.declared.statements.Line.{Line}
use Rattle.mp_cells.specs.declared.records.Mtr.{Mtr}
use Rattle.mp_cells.specs.declared.rows.Row.{Row}
use Rattle.mp_cells.specs.PageView.{PageView}
use Rattle.mp_cells.specs.Trees.{row_at}
use Rattle.mp_core_trx.specs.declared.opening.TrxOpening.{TrxOpening}
use Rattle.mp_core_trx.specs.declared.part.Begun.{Begun}
use Rattle.mp_core_trx.specs.declared.part.Draw.{Draw}
use Rattle.mp_core_trx.specs.declared.part.TrxPart.{TrxPart}
use Rattle.mp_core_trx.specs.declared.slot.SlotTag.TheVariants.{Active, Prep}
use Rattle.mp_core_trx.specs.Parts.{HasBegun, IsOpen, Shows, begun_of}
use Rattle.mp_core_pages.specs.declared.page_lock.Held.TheVariants.{No}
use Rattle.mp_core_pages.specs.declared.part.Placed.{Placed}
use Rattle.mp_core_pages.specs.declared.part.GivenPage.{GivenPage}
use Rattle.mp_core_pages.specs.PageParts.{held_at, last_llsn, told_llsn}
use Rattle.mp_core.specs.declared.part.CorePart.{CorePart}
use Rattle.mp_core.specs.Contents.{page_ops}
use Rattle.mp_core.specs.OwnMtrs.{row_put_by, row_restored_by, first_former, TrxMtr, trx_mtrs}
use Rattle.mp_core.specs.CoreExtends.{CoreExtends}
use Rattle.mp_book.specs.declared.session.Session.{Session}
use Rattle.mp_book.specs.declared.stage.Stage.{Stage}
use Rattle.mp_book.specs.declared.stage.Stage.TheVariants.{Closed, Open, Refused, Leaving, Skipping, Outside}
use Rattle.mp_book.specs.Stages.{next_line, trx_of_stage}
use Rattle.mp_book.specs.Books.{IsRefusalReply}
use Rattle.mp_supports.specs.Work.{Work}
use Rattle.mp_supports.specs.Supports.{no_trace, SupportsReply, SupportsWaits}
use Rattle.mp_supports.specs.Agreement.{IsOpenAs, RefusalSupported, Opens, last_made_llsn, HasMadeUndo, Mirrors, rows_left, is_of_write, Bounds}
use Rattle.mp_supports.proofs.Extending.{begun_in, placed_in}
use Rattle.mp_supports.proofs.SupportsMore.{reply_more, waits_more}
use Rattle.mp_supports.proofs.Keeping.{if_some_map}

-- an mtr that neither puts a row nor puts one back leaves the rows that were replaced, and puts none back
module _ (p q : CorePart) (x : Placed Mtr) (made : q.pages.made ≡ x ∷ p.pages.made) where
  pub former_neither : row_put_by x.mtr ≡ None → row_restored_by x.mtr ≡ None → (b : Begun) (key : ℕ) → first_former q.pages.made b.id key ≡ first_former p.pages.made b.id key
  former_neither no_put no_back b key = ap (λ (l : List (Placed Mtr)). first_former l b.id key) made ∙ rw (no_back, no_put) refl

  pub neither_back : row_restored_by x.mtr ≡ None → (m : TrxMtr) → IsIn m (trx_mtrs q.pages.made) → IsIn m (trx_mtrs p.pages.made) ⊎ (row_restored_by m.mtr ≡ None)
  neither_back no_back m there = newest (subst (λ (l : List (Placed Mtr)). IsIn m (trx_mtrs l)) made there)
    where
      newest : IsIn m (trx_mtrs (x ∷ p.pages.made)) → IsIn m (trx_mtrs p.pages.made) ⊎ (row_restored_by m.mtr ≡ None)
      newest (inl is) = inr (ap (λ (k : TrxMtr). row_restored_by k.mtr) is ∙ no_back)
      newest (inr old) = inl old

module _ (work : Work) (p q : CorePart) (down : ℕ) (e : CoreExtends p q) where
  -- what next statements have found stays supported
  pub refusal_kept : (stage : Stage) (line : Option Line) → RefusalSupported work p down stage line → RefusalSupported work q down stage line
  refusal_kept Closed line h = h
  refusal_kept (Open trx) line h = h
  refusal_kept (Refused trx refusal) line h =
      if_some_map (λ (l : Line). (reply : Reply) → IsRefusalReply refusal l reply → SupportsReply work p down no_trace l reply) (λ (l : Line). (reply : Reply) → IsRefusalReply refusal l reply → SupportsReply work q down no_trace l reply) line
      (λ l supported reply is. reply_more p q e work down down no_trace l reply (inr refl) (supported reply is)) h
  refusal_kept (Leaving trx) line h = h
  refusal_kept Skipping line h = h
  refusal_kept (Outside trx) line h = h

  pub waits_kept : (s : Session) → IfSome (next_line s) (λ line. SupportsWaits work p line s.waits.items) → IfSome (next_line s) (λ line. SupportsWaits work q line s.waits.items)
  waits_kept s h = if_some_map (λ (l : Line). SupportsWaits work p l s.waits.items) (λ (l : Line). SupportsWaits work q l s.waits.items) (next_line s) (λ l. waits_more p q e work l s.waits.items) h

  -- where begins, rows and the mtrs' formers and restores are as they were, the open transactions are the sessions' still
  module _ (begun : q.trx.begun ≡ p.trx.begun) (rows : q.trx.rows ≡ p.trx.rows) (formers : (b : Begun) (key : ℕ) → first_former q.pages.made b.id key ≡ first_former p.pages.made b.id key)
      (whole : (m : TrxMtr) → IsIn m (trx_mtrs q.pages.made) → IsIn m (trx_mtrs p.pages.made) ⊎ (row_restored_by m.mtr ≡ None)) where
    open_kept : (s : Session) (trx : Begun) → IsOpenAs work p down s trx → IsOpenAs work q down s trx
    open_kept s trx h = record {
      begun = begun_in p q e trx h.begun;
      named = h.named;
      active = ⊎_elim (λ active. inl (subst (λ l. Shows l trx.id Active) (sym rows) active)) (λ is_down. inr is_down) h.active;
      formers = λ key. formers trx key ∙ h.formers key;
      whole = λ none m there of. ⊎_elim (λ old. h.whole none m old of) (λ no_row. no_row) (whole m there);
    }

    was_open : (b : Begun) → IsOpen q.trx b.id → IsOpen p.trx b.id
    was_open b h = (subst (λ l. HasBegun l b.id) begun h.0, subst (λ l. Shows l b.id Active ⊎ Shows l b.id Prep) rows h.1)

    pub opens_kept : (sessions : List Session) → Opens work p down sessions → Opens work q down sessions
    opens_kept sessions h = record {
      each = λ s there. if_some_map (IsOpenAs work p down s) (IsOpenAs work q down s) (trx_of_stage s.stage) (open_kept s) (h.each s there);
      only = λ b there is_open. h.only b (subst (λ l. IsIn b l) begun there) (was_open b is_open);
      waits = λ s there. waits_kept s (h.waits s there);
      refused = λ s there. refusal_kept s.stage (next_line s) (h.refused s there);
    }

  -- so it is where no mtr is made
  pub opens_same : q.trx.begun ≡ p.trx.begun → q.trx.rows ≡ p.trx.rows → q.pages.made ≡ p.pages.made → (sessions : List Session) → Opens work p down sessions → Opens work q down sessions
  opens_same begun rows made =
      opens_kept begun rows (λ b key. ap (λ (l : List (Placed Mtr)). first_former l b.id key) made) (λ m there. inl (subst (λ (l : List (Placed Mtr)). IsIn m (trx_mtrs l)) made there))

  -- or one that neither puts a row nor puts one back
  pub opens_commit : (x : Placed Mtr) → q.trx.begun ≡ p.trx.begun → q.trx.rows ≡ p.trx.rows → q.pages.made ≡ x ∷ p.pages.made → row_put_by x.mtr ≡ None → row_restored_by x.mtr ≡ None → (sessions : List Session) → Opens work p down sessions → Opens work q down sessions
  opens_commit x begun rows made no_put no_back = opens_kept begun rows (former_neither p q x made no_put no_back) (neither_back p q x made no_back)

-- more pages tell no smaller LLSN
told_more : (more given : List (GivenPage PageView)) → told_llsn page_ops given ≤ told_llsn page_ops (more ++ given)
told_more [] given = omega arith
told_more (g ∷ more) given = let rest = told_more more given in omega (arith, rest)

module _ (p q : CorePart) (e : CoreExtends p q) where
  pub same_last : q.pages.made ≡ p.pages.made → last_made_llsn q ≡ last_made_llsn p
  same_last made = ap (λ (l : List (Placed Mtr)). last_llsn page_ops q.trx.opening.base.llsn l) made ∙ ap (λ (o : TrxOpening). last_llsn page_ops o.base.llsn p.pages.made) e.trx.same_opening

  pub mirrors_kept : (down llsn : ℕ) (undo : Option ℕ) → q.pages.made ≡ p.pages.made → q.pages.locks ≡ p.pages.locks → Mirrors p down llsn undo → Mirrors q down llsn undo
  mirrors_kept down llsn undo made locks h = record {
    not_below = let last = same_last made in let below = h.not_below in omega (arith, last, below);
    not_above =
        let last = same_last made in
        let above = h.not_above in
        let told : told_llsn page_ops p.pages.given ≤ told_llsn page_ops q.pages.given = subst (λ l. told_llsn page_ops p.pages.given ≤ told_llsn page_ops l) (sym e.pages.more_given.1) (told_more e.pages.more_given.0 p.pages.given) in
        omega (arith, last, above, told);
    undo_page = if_some_map (λ page. (2 ≤ page) × (page < 4096) × HasMadeUndo p page) (λ page. (2 ≤ page) × (page < 4096) × HasMadeUndo q page) undo (λ page u. (u.0, u.1, (u.2.0, placed_in p q e u.2.0 u.2.1, u.2.2))) h.undo_page;
    idle = λ page. ⊎_elim (λ none. inl (ap (λ l. held_at l page) locks ∙ none)) (λ is_down. inr is_down) (h.idle page);
  }

  pub bounds_kept : (work : Work) (answers : List Answer) (sessions : List Session) → q.pages.made ≡ p.pages.made → Bounds work p answers sessions → Bounds work q answers sessions
  bounds_kept work answers sessions made h = record {
    base = ap (λ (o : TrxOpening). o.base) e.trx.same_opening ∙ h.base;
    begins = let same = ap (λ (o : TrxOpening). o.begins) e.trx.same_opening in let le = h.begins in omega (arith, same, le);
    few = h.few;
    mtrs =
        let count : length q.pages.made ≡ length p.pages.made = ap (λ (l : List (Placed Mtr)). length l) made in
        let drawn : length q.trx.drew ≡ length (e.trx.more_drawn.0 ++ p.trx.drew) = ap (λ (l : List Draw). length l) e.trx.more_drawn.1 in
        let sum : length (e.trx.more_drawn.0 ++ p.trx.drew) ≡ length e.trx.more_drawn.0 + length p.trx.drew = length-append e.trx.more_drawn.0 p.trx.drew in
        let le = h.mtrs in
        omega (arith, count, drawn, sum, le);
  }
