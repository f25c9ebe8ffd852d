-- What a write that is held up waits for, or why it is refused.
use Rattle.std.proofs.Common.{◌≡◌, ◌≢◌, ℕ, ◌<◌, Bool, true, false, Option, Some, IfSome, refl, sym, ap, subst, ◌∙◌, inl, inr, eq-eqb}
use Rattle.mp_machine.specs.View.{part_in}
use Rattle.mp_model.specs.declared.ids.TrxId.{TrxId}
use Rattle.mp_model.specs.declared.ids.TrxName.{TrxName}
use Rattle.mp_model.specs.declared.replies.Reply.{Reply}
use Rattle.mp_model.specs.declared.replies.Reply.TheVariants.{Began, Got, Scanned, Wrote, Committed, CommittedNone, Unknown, RolledBack, Conflict, Held, Full, Skipped, Stopped}
use Rattle.mp_model.specs.declared.replies.WriteVerb.{WriteVerb}
use Rattle.mp_model.specs.declared.waiting.NotYet.{NotYet}
use Rattle.mp_model.specs.declared.waiting.Cause.TheVariants.{Word, Writer}
use Rattle.mp_script.specs.declared.statements.Line.{Line}
use Rattle.mp_script.specs.Transactions.{Target, target_of}
use Rattle.mp_script.specs.Right.{WritesKey}
use Rattle.mp_core_trx.specs.declared.part.Begun.{Begun}
use Rattle.mp_core_trx.specs.declared.slot.Shown.{Shown}
use Rattle.mp_core_trx.specs.declared.slot.SlotTag.TheVariants.{Active, Prep, Committed as CommittedTag}
use Rattle.mp_core_trx.specs.Words.{shows}
use Rattle.mp_core.specs.declared.part.CorePart.{CorePart}
use Rattle.mp_core.specs.CoreExtends.{CoreExtends}
use Rattle.mp_book.specs.declared.stage.Refusal.TheVariants as refusals
use Rattle.mp_book.specs.Answered.{execution_above, HasWrittenHere}
use Rattle.mp_book.specs.Books.{IsRefusalReply}
use Rattle.mp_outside.specs.declared.disks.Disk.{Ghosts}
use Rattle.mp_shared.specs.Nodes.{Run, NodeView}
use Rattle.mp_shared.proofs.Holding.{held_part}
use Rattle.mp_supports.specs.Work.{name_of}
use Rattle.mp_supports.specs.Supports.{no_trace, IsTrxOf, IsBlocked, IsHeldBy, IsNameOf, HasNoRoom, SupportsReply}
use Rattle.mp_desk.specs.declared.halts.WriteHalt.TheVariants as halts
use Rattle.mp_desk.specs.Desks.{Moves}
use Rattle.mp_desk.specs.Statements.{StaysQuiet}
use Rattle.mp_desk.specs.Writes.{HaltsWrite}
use Rattle.mp_desk.proofs.Moving.{moves_as}
use Rattle.mp_primary.specs.Primaries.{PrimaryView}
use Rattle.mp_primary.specs.Holders.{fits_book, stranger_wait}
use Rattle.mp_primary.specs.Turns.{WaitsFor}
use Rattle.mp_primary.specs.AtWork.{WroteHere}
use Rattle.mp_primary.specs.WriteTurns.{IsHeldUp, IsRightRefusal}
use Rattle.mp_primary.proofs.AnsweredTurns.{found_here}
use Rattle.mp_primary.proofs.HeldKeys.{fits_apart, fits_wrote}
use Rattle.mp_primary.proofs.NamedHolders.{IsVersionOf, held_named, committed_named}
use Rattle.mp_primary.proofs.OpenReaders.{is_trx_of, open_no_begin}
use Rattle.mp_primary.proofs.TurnEnds.{moved}
use Rattle.mp_primary.proofs.WaitsGoOn.{trx_of_more}

-- two targets of one statement are one
same_target : (x y : Target) → Some x ≡ Some y → x ≡ y
same_target x y e = cc

one_target : (line : Line) (verb other : WriteVerb) (key k : ℕ) → WritesKey line verb key → WritesKey line other k → (other ≡ verb) × (k ≡ key)
one_target line verb other key k a b =
    let same = same_target (record { verb = other; key = k }) (record { verb = verb; key = key }) (sym b ∙ a) in
    (ap (λ (t : Target). t.verb) same, ap (λ (t : Target). t.key) same)

module _ {D : Type 0} (g : Ghosts D) (run : Run) (old now : PrimaryView D) (before n : NodeView) (number : ℕ) (trx : Begun) (verb : WriteVerb) (key : ℕ) (held : IsHeldUp g run old now before n number trx verb key) where
  has : (q : CorePart) × (part_in before.parts old.number ≡ Some q)
  has = let h = held_part before old.number held.tries.comes.stands.desk.part in (h.0, h.1)

  there : (r : CorePart) × (part_in n.parts old.number ≡ Some r)
  there = let h = held_part n old.number held.work.desk.part in (h.0, h.1)

  still_trx : (r : CorePart) → part_in n.parts old.number ≡ Some r → IsTrxOf old.work r held.tries.line trx.id trx.view
  still_trx r is =
      let t = held.tries in
      let quiet = moved StaysQuiet old.number before n held.quiet has.0 r has.1 is in
      trx_of_more has.0 r quiet.extends old.work t.line trx.id trx.view
      (is_trx_of g run old before number t.session t.line t.comes held.work.up trx t.stage has.0 has.1 (open_no_begin g run old before number t.session t.line t.comes held.work.up trx t.stage))

  of_session : held.tries.line.session ≡ number
  of_session = let t = held.tries in (found_here old.work.lines old.work.sessions old.number number old.book t.session t.line t.comes.stands.primary.book t.comes.next).session_is

  -- what the holder's name must be, of a holder that fits the book
  module _ (id : TrxId) (name : TrxName) (named : name_of old.work id ≡ Some name) where
    name_apart : name.session ≢ number → IsNameOf old.work held.tries.line trx.id id name
    name_apart other = record { named = named; apart = λ node same. other (same ∙ of_session) }

    its_name : fits_book old number id key name ≡ true → IsNameOf old.work held.tries.line trx.id id name
    its_name fits = name_apart (fits_apart g run old before held.tries.comes.stands held.work.up number id key name named fits)

    wrote : fits_book old number id key name ≡ true → HasWrittenHere (execution_above old.work.lines old.work.sessions old.book.answers.items) old.number key name
    wrote fits = fits_wrote g run old before held.tries.comes.stands held.work.up number id key name named fits

    wrote_target : fits_book old number id key name ≡ true → IfSome (target_of held.tries.line.stmt) (λ target. HasWrittenHere (execution_above old.work.lines old.work.sessions old.book.answers.items) old.number target.key name)
    wrote_target fits = subst (λ (o : Option Target). IfSome o (λ target. HasWrittenHere (execution_above old.work.lines old.work.sessions old.book.answers.items) old.number target.key name)) (sym held.tries.writes) (wrote fits)

    -- a younger holder is waited for
    pub writer_waits : fits_book old number id key name ≡ true → HaltsWrite old.number trx key before n (halts.Writer id) → WaitsFor old number before n (Writer name)
    writer_waits fits cause = λ r is.
        let h = cause r is in
        (held.tries.session, held.tries.line, record { verb = verb; key = key }, held.tries.comes.next, held.tries.writes, (trx.id, trx.view, still_trx r is, (id, h.0, h.1, its_name fits)))

    pub writer_wrote : fits_book old number id key name ≡ true → WroteHere old held.tries.line (Writer name)
    writer_wrote fits = wrote_target fits

    -- an older one refuses the write
    pub held_refusal : fits_book old number id key name ≡ true → HaltsWrite old.number trx key before n (halts.Held id) → IsRightRefusal old n held.tries.line (refusals.Held name)
    held_refusal fits cause = record { supported = λ r is reply so. by_reply r is (cause r is) reply so; stands = wrote_target fits }
      where
        by_reply : (r : CorePart) → part_in n.parts old.number ≡ Some r → IsHeldBy r trx.id key id × (id.version < trx.id.version) → (reply : Reply) → IsRefusalReply (refusals.Held name) held.tries.line reply → SupportsReply old.work r 0 no_trace held.tries.line reply
        by_reply r is h (Began view) so = absurd so
        by_reply r is h (Got value) so = absurd so
        by_reply r is h (Scanned rows) so = absurd so
        by_reply r is h (Wrote v) so = absurd so
        by_reply r is h (Committed cts) so = absurd so
        by_reply r is h CommittedNone so = absurd so
        by_reply r is h (Unknown cts) so = absurd so
        by_reply r is h RolledBack so = absurd so
        by_reply r is h (Conflict v cts) so = absurd so
        by_reply r is h (Held v other) so =
            let same = one_target held.tries.line verb v key so.1.0 held.tries.writes so.1.1 in (
              trx.id,
              trx.view,
              still_trx r is,
              (so.1.0, id, so.1.1, subst (λ (k : ℕ). IsHeldBy r trx.id k id) (sym same.1) h.0, h.1, subst (λ (x : TrxName). IsNameOf old.work held.tries.line trx.id id x) (sym so.0) (its_name fits), refl),
            )
        by_reply r is h (Full v) so = absurd so
        by_reply r is h Skipped so = absurd so
        by_reply r is h (Stopped by) so = absurd so

    -- so does one that committed above the view
    pub committed_refusal : (cts : ℕ) → name.session ≢ number → HaltsWrite old.number trx key before n (halts.Conflict id cts) → IsRightRefusal old n held.tries.line (refusals.Conflict cts)
    committed_refusal cts other cause = record { supported = λ r is reply so. by_reply r is (cause r is) reply so; stands = tt }
      where
        by_reply : (r : CorePart) → part_in n.parts old.number ≡ Some r → IsBlocked r trx.id key id (shows CommittedTag id.version cts) × (trx.view < cts) → (reply : Reply) → IsRefusalReply (refusals.Conflict cts) held.tries.line reply → SupportsReply old.work r 0 no_trace held.tries.line reply
        by_reply r is h (Began view) so = absurd so
        by_reply r is h (Got value) so = absurd so
        by_reply r is h (Scanned rows) so = absurd so
        by_reply r is h (Wrote v) so = absurd so
        by_reply r is h (Committed stamp) so = absurd so
        by_reply r is h CommittedNone so = absurd so
        by_reply r is h (Unknown stamp) so = absurd so
        by_reply r is h RolledBack so = absurd so
        by_reply r is h (Conflict v stamp) so =
            let same = one_target held.tries.line verb v key so.1.0 held.tries.writes so.1.1 in (
              trx.id,
              trx.view,
              still_trx r is,
              (
                so.1.0,
                id,
                so.1.1,
                subst (λ (c : ℕ). IsBlocked r trx.id so.1.0 id (shows CommittedTag id.version c)) (sym so.0) (subst (λ (k : ℕ). IsBlocked r trx.id k id (shows CommittedTag id.version cts)) (sym same.1) h.0),
                subst (λ (c : ℕ). trx.view < c) (sym so.0) h.1,
                refl,
                (name, name_apart other),
              ),
            )
        by_reply r is h (Held v n) so = absurd so
        by_reply r is h (Full v) so = absurd so
        by_reply r is h Skipped so = absurd so
        by_reply r is h (Stopped by) so = absurd so

    -- one that doesn't fit the book is met, and waited for
    stranger_met : (wait : NotYet) → wait ≡ stranger_wait id → fits_book old number id key name ≡ false → ((r : CorePart) → part_in n.parts old.number ≡ Some r → (x : Shown) × IsBlocked r trx.id key id x) → WaitsFor old number before n (Word wait)
    stranger_met wait is unfit blocked = inr (inr (record {
      session = held.tries.session;
      line = held.tries.line;
      next = held.tries.comes.next;
      target = record { verb = verb; key = key };
      its_target = held.tries.writes;
      holder = id;
      name = name;
      named = named;
      blocked = λ r there. let b = blocked r there in (trx.id, trx.view, b.0, still_trx r there, b.1);
      stranger = unfit;
      waits_for = is;
    }))

    of_held : (r : CorePart) → IsHeldBy r trx.id key id → (x : Shown) × IsBlocked r trx.id key id x
    of_held r (inl active) = (shows Active id.version 0, active)
    of_held r (inr prep) = (shows Prep id.version 0, prep)

    pub writer_stranger : (wait : NotYet) → wait ≡ stranger_wait id → fits_book old number id key name ≡ false → HaltsWrite old.number trx key before n (halts.Writer id) → WaitsFor old number before n (Word wait)
    writer_stranger wait is unfit cause = stranger_met wait is unfit (λ r there. of_held r (cause r there).0)

    pub held_stranger : (wait : NotYet) → wait ≡ stranger_wait id → fits_book old number id key name ≡ false → HaltsWrite old.number trx key before n (halts.Held id) → WaitsFor old number before n (Word wait)
    held_stranger wait is unfit cause = stranger_met wait is unfit (λ r there. of_held r (cause r there).0)

    pub committed_stranger : (wait : NotYet) (cts : ℕ) → wait ≡ stranger_wait id → name.session ≡ number → HaltsWrite old.number trx key before n (halts.Conflict id cts) → WaitsFor old number before n (Word wait)
    committed_stranger wait cts is own cause = stranger_met wait is unfit (λ r there. (shows CommittedTag id.version cts, (cause r there).0))
      where
        unfit : fits_book old number id key name ≡ false
        unfit = rw (eq-eqb name.session number own) refl

  -- the store is full
  pub full_refusal : HaltsWrite old.number trx key before n halts.Full → IsRightRefusal old n held.tries.line refusals.Full
  full_refusal cause = record { supported = λ r is reply so. by_reply r is (cause r is) reply so; stands = tt }
    where
      by_reply : (r : CorePart) → part_in n.parts old.number ≡ Some r → HasNoRoom r → (reply : Reply) → IsRefusalReply refusals.Full held.tries.line reply → SupportsReply old.work r 0 no_trace held.tries.line reply
      by_reply r is h (Began view) so = absurd so
      by_reply r is h (Got value) so = absurd so
      by_reply r is h (Scanned rows) so = absurd so
      by_reply r is h (Wrote v) so = absurd so
      by_reply r is h (Committed cts) so = absurd so
      by_reply r is h CommittedNone so = absurd so
      by_reply r is h (Unknown cts) so = absurd so
      by_reply r is h RolledBack so = absurd so
      by_reply r is h (Conflict v cts) so = absurd so
      by_reply r is h (Held v name) so = absurd so
      by_reply r is h (Full v) so = (trx.id, trx.view, still_trx r is, (so.0, so.1, h, refl))
      by_reply r is h Skipped so = absurd so
      by_reply r is h (Stopped by) so = absurd so

  -- ---- a name is there

  pub writer_named : (id : TrxId) → HaltsWrite old.number trx key before n (halts.Writer id) → IsVersionOf old id
  writer_named id cause = held_named g run old before n held.tries.comes.stands goes held.work.desk.reached there.0 there.1 trx.id key id (cause there.0 there.1).0
    where
      goes : Moves CoreExtends old.number before n
      goes = moves_as old.number StaysQuiet CoreExtends (λ q r h. h.extends) before n held.quiet

  pub holder_named : (id : TrxId) → HaltsWrite old.number trx key before n (halts.Held id) → IsVersionOf old id
  holder_named id cause = held_named g run old before n held.tries.comes.stands goes held.work.desk.reached there.0 there.1 trx.id key id (cause there.0 there.1).0
    where
      goes : Moves CoreExtends old.number before n
      goes = moves_as old.number StaysQuiet CoreExtends (λ q r h. h.extends) before n held.quiet

  pub committer_named : (id : TrxId) (cts : ℕ) → HaltsWrite old.number trx key before n (halts.Conflict id cts) → IsVersionOf old id
  committer_named id cts cause = committed_named g run old before n held.tries.comes.stands goes held.work.desk.reached there.0 there.1 trx.id key id cts (cause there.0 there.1).0
    where
      goes : Moves CoreExtends old.number before n
      goes = moves_as old.number StaysQuiet CoreExtends (λ q r h. h.extends) before n held.quiet

-- ---- as the primary sees it in the midst of the turn

module _ {D : Type 0} (g : Ghosts D) (run : Run) (old now : PrimaryView D) (before n : NodeView) (number : ℕ) (trx : Begun) (verb : WriteVerb) (key : ℕ) (held : IsHeldUp g run old now before n number trx verb key) (id : TrxId) where
  pub version_now : IsVersionOf old id → IsVersionOf now id
  version_now h = subst (λ (v : PrimaryView D). IsVersionOf v id) (sym held.work.rest) h

  module _ (name : TrxName) where
    pub named_old : name_of now.work id ≡ Some name → name_of old.work id ≡ Some name
    named_old named = subst (λ (v : PrimaryView D). name_of v.work id ≡ Some name) held.work.rest named

    pub fits_old : (b : Bool) → fits_book now number id key name ≡ b → fits_book old number id key name ≡ b
    fits_old b fits = subst (λ (v : PrimaryView D). fits_book v number id key name ≡ b) held.work.rest fits
