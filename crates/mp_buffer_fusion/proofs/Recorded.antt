-- The buffers after the records of an mtr.
use Rattle.std.proofs.Common.{◌≡◌, ℕ, ◌<◌, ◌==◌, ◌||◌, Bool, true, false, if◌then◌else◌, ◌⊎◌, inl, inr, ⊎_elim, List, [], ◌∷◌, Option, Some, None, refl, sym, ap, ◌∙◌, subst, arith, ne_eqb, eq-eqb}
use Rattle.std.specs.Option.{option_map}
use Rattle.std.proofs.lemmas.Bool.{cases_Bool}
use mathlib.Core.Logic.{dite}
use native.Mathlib.Decide.{ℕ_discrete}
use Rattle.mp_cells.specs.declared.changes.Change.{Change}
use Rattle.mp_cells.specs.declared.records.Record.{Record}
use Rattle.mp_cells.specs.declared.records.Record.TheVariants as records
use Rattle.mp_cells.specs.declared.records.Mtr.{Mtr}
use Rattle.mp_cells.specs.PageView.{PageView}
use Rattle.mp_cells.specs.Trees.{PageMap}
use Rattle.mp_cells.specs.Plans.{changed_page, with_page, plan_of, touches}
use Rattle.mp_cells.specs.PageMaps.{after_mtr, after_record, after_records}
use Rattle.mp_cells.proofs.MtrPages.{by_records}
use Rattle.mp_core_pages.specs.declared.part.PagesPart.{PagesPart}
use Rattle.mp_core_pages.specs.Histories.{is_touched, Touches}
use Rattle.mp_core_pages.specs.PageParts.{gave_at, content_at, own_llsn}
use Rattle.mp_core_pages.specs.PageEvents.{with_mtr}
use Rattle.mp_core_pages.proofs.Choices.{if_equal, if_differs, if_false}
use Rattle.mp_core.specs.Contents.{touched_by, page_ops}
use Rattle.mp_core.proofs.Pages.{touched_same}
use Rattle.mp_buffer_fusion.specs.declared.buffer.Buffer.{Buffer}
use Rattle.mp_buffer_fusion.specs.Buffers.{buffer_of, IsBuffered, rewritten_buffer, changed_by, pool_changed, pool_recorded}
use Rattle.mp_buffer_fusion.specs.Agreement.{IsDirty, AgreesWith}
use Rattle.mp_buffer_fusion.proofs.Buffered.{not_some, change_of, of_changed, of_changed_here, of_changed_else}

-- a buffer whose page was changed by one record
abbrev recorded_buffer : ℕ → Change → Buffer → Buffer
recorded_buffer llsn change b = rewritten_buffer (changed_by llsn change b.page) b

-- What became of a buffer by some records: its page, and that it is not clean where a record touched it or it was not before
record Recorded (llsn : ℕ) (items : List Record) (pool : List Buffer) (pages : PageMap) (k : ℕ) (b : Buffer) : Type 0 where
  later : Buffer
  at : buffer_of (pool_recorded llsn items pool) k ≡ Some later
  page : after_records llsn items pages k ≡ later.page
  dirty : (touches k (plan_of items) ≡ true) ⊎ (b.clean ≡ false) → later.clean ≡ false

recorded : (llsn : ℕ) (items : List Record) (pool : List Buffer) (pages : PageMap) (k : ℕ) (b : Buffer) → buffer_of pool k ≡ Some b → pages k ≡ b.page → Recorded llsn items pool pages k b
recorded llsn [] pool pages k b at same = record { later = b; at = at; page = same; dirty = ⊎_elim (λ (touched : false ≡ true). absurd (cc)) (λ (dirty : b.clean ≡ false). dirty) }
recorded llsn (records.Commit id cts ∷ items) pool pages k b at same =
    let rest = recorded llsn items pool pages k b at same in
    record { later = rest.later; at = rest.at; page = rest.page; dirty = rest.dirty }
recorded llsn (records.Page page prev change ∷ items) pool pages k b at same =
    dite (ℕ_discrete k page)
    (λ is.
    let now = recorded_buffer llsn change b in
    let here : buffer_of (pool_changed llsn page change pool) k ≡ Some now =
    ap (buffer_of (pool_changed llsn page change pool)) is ∙ of_changed_here (recorded_buffer llsn change) (λ _. refl) pool page b (ap (buffer_of pool) (sym is) ∙ at) in
    let made : after_record llsn (records.Page page prev change) pages k ≡ now.page =
    if_equal k page (changed_by llsn change (pages page)) (pages k) is ∙ ap (changed_by llsn change) (ap pages (sym is) ∙ same) in
    let rest = recorded llsn items (pool_changed llsn page change pool) (after_record llsn (records.Page page prev change) pages) k now here made in
    record { later = rest.later; at = rest.at; page = rest.page; dirty = λ _. rest.dirty (inr refl) })
    (λ other.
    let here : buffer_of (pool_changed llsn page change pool) k ≡ Some b = of_changed_else (recorded_buffer llsn change) (λ _. refl) pool page k other ∙ at in
    let made : after_record llsn (records.Page page prev change) pages k ≡ b.page = if_differs k page (changed_by llsn change (pages page)) (pages k) other ∙ same in
    let rest = recorded llsn items (pool_changed llsn page change pool) (after_record llsn (records.Page page prev change) pages) k b here made in
    record {
      later = rest.later;
      at = rest.at;
      page = rest.page;
      dirty = ⊎_elim
          (λ (touched : (k == page || touches k (plan_of items)) ≡ true). rest.dirty (inl (sym (ap (λ t. t || touches k (plan_of items)) (ne_eqb k page other)) ∙ touched)))
          (λ (dirty : b.clean ≡ false). rest.dirty (inr dirty));
    })

-- a page without a buffer has none then
recorded_none : (llsn : ℕ) (items : List Record) (pool : List Buffer) (k : ℕ) → buffer_of pool k ≡ None → buffer_of (pool_recorded llsn items pool) k ≡ None
recorded_none llsn [] pool k none = none
recorded_none llsn (records.Commit id cts ∷ items) pool k none = recorded_none llsn items pool k none
recorded_none llsn (records.Page page prev change ∷ items) pool k none =
    recorded_none llsn items (pool_changed llsn page change pool) k
    (of_changed (recorded_buffer llsn change) (λ _. refl) pool page k ∙ ap (option_map (change_of page (recorded_buffer llsn change))) none)

module _ (pool : List Buffer) (m : Mtr) (k : ℕ) (b : Buffer) (at : buffer_of pool k ≡ Some b) where
  abbrev after : Recorded m.llsn m.records pool (λ _. b.page) k b
  after = recorded m.llsn m.records pool (λ _. b.page) k b at refl

  page_after : after.later.page ≡ after_mtr m (λ _. b.page) k
  page_after = sym after.page ∙ by_records m.llsn m.records (λ _. b.page) k

  pub has_recorded : (later : Buffer) × (buffer_of (pool_recorded m.llsn m.records pool) k ≡ Some later) × (later.page ≡ after_mtr m (λ _. b.page) k)
  has_recorded = (after.later, after.at, page_after)

  pub dirty_recorded : (touches k (plan_of m.records) ≡ true) ⊎ (b.clean ≡ false) → IsDirty (buffer_of (pool_recorded m.llsn m.records pool) k)
  dirty_recorded why = subst IsDirty (sym after.at) (after.dirty why)

module _ (pool : List Buffer) (part : PagesPart PageView Mtr) (place : ℕ) (m : Mtr) (agrees : AgreesWith pool part) (buffered : (k : ℕ) → Touches page_ops m k → IsBuffered pool k) where
  shown : (k : ℕ) (later : Buffer) (o : Option Buffer) → buffer_of pool k ≡ o → buffer_of (pool_recorded m.llsn m.records pool) k ≡ Some later
      → content_at page_ops (with_mtr place m part).contents k ≡ Some later.page
  shown k later None was is = not_some (buffer_of (pool_recorded m.llsn m.records pool) k) later (recorded_none m.llsn m.records pool k was) is
  shown k later (Some b) was is =
      let now = has_recorded pool m k b was in
      let same : Some now.0 ≡ Some later = sym now.1 ∙ is in
      let one : now.0 ≡ later = cc in
      ap (option_map (page_ops.after_mtr m k)) (agrees.shows k b was) ∙ ap Some (sym now.2) ∙ ap (λ (x : Buffer). Some x.page) one

  touched_dirty : (k : ℕ) (o : Option Buffer) → buffer_of pool k ≡ o → Touches page_ops m k → IsDirty (buffer_of (pool_recorded m.llsn m.records pool) k)
  touched_dirty k None was touch = absurd (buffered k touch was)
  touched_dirty k (Some b) was touch = dirty_recorded pool m k b was (inl (sym (touched_same k m.records) ∙ touch))

  old_dirty : (k : ℕ) (o : Option Buffer) → buffer_of pool k ≡ o → IsDirty o → IsDirty (buffer_of (pool_recorded m.llsn m.records pool) k)
  old_dirty k None was dirty = absurd dirty
  old_dirty k (Some b) was dirty = dirty_recorded pool m k b was (inr dirty)

  pub agrees_recorded : AgreesWith (pool_recorded m.llsn m.records pool) (with_mtr place m part)
  agrees_recorded = record {
    shows = λ k later is. shown k later (buffer_of pool k) refl is;
    keeps = λ k less.
        ⊎_elim
        (λ (touch : is_touched k (page_ops.touches m) ≡ true). touched_dirty k (buffer_of pool k) refl touch)
        (λ (apart : is_touched k (page_ops.touches m) ≡ false).
        let own = if_false (is_touched k (page_ops.touches m)) m.llsn (own_llsn page_ops part.made k) apart in
        old_dirty k (buffer_of pool k) refl (agrees.keeps k (omega (arith, own, less))))
        (cases_Bool (is_touched k (page_ops.touches m)));
  }
