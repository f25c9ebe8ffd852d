-- A plan that can be applied to pages can be made in buffers that have these pages, and leaves in them what its records leave.
use Rattle.std.proofs.Common.{◌≡◌, ℕ, true, List, [], ◌∷◌, ◌++◌, Option, Some, None, IsSome, refl, sym, ap, subst, ◌∙◌}
use Rattle.std.specs.List.{AllByRecursion}
use Rattle.std.specs.Option.{option_map}
use mathlib.Core.Logic.{dite}
use native.Mathlib.Decide.{ℕ_discrete}
use Rattle.mp_machine.specs.Lists.{updated}
use Rattle.mp_machine.proofs.Lists.{updated_here, updated_else}
use Rattle.mp_cells.specs.declared.changes.Change.{Change}
use Rattle.mp_cells.specs.declared.records.Record.{Record}
use Rattle.mp_cells.specs.declared.records.Record.TheVariants as records
use Rattle.mp_cells.specs.PageView.{PageView, SameContent}
use Rattle.mp_cells.specs.Changes.{applied}
use Rattle.mp_cells.specs.Trees.{PageMap}
use Rattle.mp_cells.specs.Plans.{Plan, CanApply, changed_page, after_change, Meets, touches}
use Rattle.mp_cells.specs.Writes.{IsStep}
use Rattle.mp_cells.proofs.Llsns.{with_llsn, applied-llsn, changed_page-llsn}
use Rattle.mp_core_pages.proofs.Choices.{if_equal, if_differs}
use Rattle.mp_core_pages.specs.Histories.{llsn_at}
use Rattle.mp_core.specs.Contents.{page_ops}
use Rattle.mp_buffer_fusion.specs.declared.buffer.Buffer.{Buffer}
use Rattle.mp_buffer_fusion.specs.Buffers.{buffer_of, IsBuffered, rewritten_buffer, changed_by, pool_changed, pool_recorded}
use Rattle.mp_buffer_fusion.proofs.Buffered.{change_of, of_changed, of_changed_here, of_changed_else}
use Rattle.mp_desk.specs.Making.{llsn_in, records_of_plan, CanChangeBuffers}
use Rattle.mp_desk.proofs.PlanRecords.{touched_first, touched_later, same_records}

-- a buffer whose page was changed by one record
abbrev changed_buffer : ℕ → Change → Buffer → Buffer
changed_buffer llsn change b = rewritten_buffer (changed_by llsn change b.page) b

pub has_buffer : (o : Option Buffer) → ¬ (o ≡ None) → (b : Buffer) × (o ≡ Some b)
has_buffer None is = absurd (is refl)
has_buffer (Some b) is = (b, refl)

pub one_buffer : (o : Option Buffer) (b c : Buffer) → o ≡ Some b → o ≡ Some c → b ≡ c
one_buffer o b c first second = let both : Some b ≡ Some c = sym first ∙ second in cc

-- each page that had a buffer has one
option_kept : (f : Buffer → Buffer) (o : Option Buffer) → ¬ (o ≡ None) → ¬ (option_map f o ≡ None)
option_kept f None some none = some refl
option_kept f (Some b) some none = cc

pub buffered_changed : (llsn k : ℕ) (change : Change) (pool : List Buffer) (j : ℕ) → IsBuffered pool j → IsBuffered (pool_changed llsn k change pool) j
buffered_changed llsn k change pool j is none =
    option_kept (change_of k (changed_buffer llsn change)) (buffer_of pool j) is (sym (of_changed (changed_buffer llsn change) (λ _. refl) pool k j) ∙ none)

-- one content can be changed as another with another LLSN
some_mapped : (f : PageView → PageView) (o : Option PageView) → IsSome o → IsSome (option_map f o)
some_mapped f None is = is
some_mapped f (Some y) is = is

same_applies : (change : Change) (page other : PageView) → SameContent page other → CanApply change page → CanApply change other
same_applies change page other same can =
    subst (CanApply change) same (subst IsSome (sym (applied-llsn change page other.llsn)) (some_mapped (with_llsn other.llsn) (applied change page) can))

same_changed : (llsn : ℕ) (change : Change) (page other : PageView) → SameContent page other → SameContent (changed_page change page) (changed_by llsn change other)
same_changed llsn change page other same = ap (with_llsn llsn) (sym (changed_page-llsn change page other.llsn) ∙ ap (changed_page change) same)

-- The buffers have these pages, but for LLSNs
abbrev pub ShowContents : Plan → List Buffer → PageMap → Type 0
ShowContents plan pool pages = (k : ℕ) → touches k plan ≡ true → (b : Buffer) × (buffer_of pool k ≡ Some b) × SameContent (pages k) b.page

still_shown : (llsn : ℕ) (step : ℕ × Change) (plan : Plan) (pool : List Buffer) (pages : PageMap) → ShowContents (step ∷ plan) pool pages
    → ShowContents plan (pool_changed llsn step.0 step.1 pool) (after_change step pages)
still_shown llsn step plan pool pages shows k touch =
    let was = shows k (touched_later step plan k touch) in
    dite (ℕ_discrete k step.0)
    (λ same.
    let f = changed_buffer llsn step.1 in
    let at : buffer_of pool step.0 ≡ Some was.0 = ap (buffer_of pool) (sym same) ∙ was.1 in
    let now : buffer_of (pool_changed llsn step.0 step.1 pool) k ≡ Some (f was.0) = ap (buffer_of (pool_changed llsn step.0 step.1 pool)) same ∙ of_changed_here f (λ _. refl) pool step.0 was.0 at in
    let page : after_change step pages k ≡ changed_page step.1 (pages k) = if_equal k step.0 (changed_page step.1 (pages step.0)) (pages k) same ∙ ap (λ (n : ℕ). changed_page step.1 (pages n)) (sym same) in
    (f was.0, now, subst (λ (y : PageView). SameContent y (f was.0).page) (sym page) (same_changed llsn step.1 (pages k) was.0.page was.2)))
    (λ other.
    let now : buffer_of (pool_changed llsn step.0 step.1 pool) k ≡ Some was.0 = of_changed_else (changed_buffer llsn step.1) (λ _. refl) pool step.0 k other ∙ was.1 in
    let page : after_change step pages k ≡ pages k = if_differs k step.0 (changed_page step.1 (pages step.0)) (pages k) other in
    (was.0, now, subst (λ (y : PageView). SameContent y was.0.page) (sym page) was.2))

pub can_change : (llsn : ℕ) (plan : Plan) (pool : List Buffer) (pages : PageMap) → AllByRecursion IsStep plan → Meets plan pages → ShowContents plan pool pages → CanChangeBuffers llsn pool plan
can_change llsn [] pool pages steps meets shows = tt
can_change llsn (step ∷ plan) pool pages steps meets shows =
    let here = shows step.0 (touched_first step plan step.0 refl) in (
      steps.0,
      (here.0, here.1, same_applies step.1 (pages step.0) here.0.page here.2 meets.0),
      can_change llsn plan (pool_changed llsn step.0 step.1 pool) (after_change step pages) steps.1 meets.1 (still_shown llsn step plan pool pages shows),
    )

-- a record more comes last
pub recorded_more : (llsn : ℕ) (items : List Record) (page prev : ℕ) (change : Change) (pool : List Buffer)
    → pool_recorded llsn (items ++ records.Page page prev change ∷ []) pool ≡ pool_changed llsn page change (pool_recorded llsn items pool)
recorded_more llsn [] page prev change pool = refl
recorded_more llsn (records.Commit id cts ∷ items) page prev change pool = recorded_more llsn items page prev change pool
recorded_more llsn (records.Page p q c ∷ items) page prev change pool = recorded_more llsn items page prev change (pool_changed llsn p c pool)

-- the LLSNs that buffers show after a change

pub llsns_changed : (llsn k : ℕ) (change : Change) (pool : List Buffer) (b : Buffer) → buffer_of pool k ≡ Some b → (j : ℕ) → updated (llsn_in pool) k llsn j ≡ llsn_in (pool_changed llsn k change pool) j
llsns_changed llsn k change pool b at j =
    dite (ℕ_discrete j k)
    (λ same.
    let now : buffer_of (pool_changed llsn k change pool) j ≡ Some (changed_buffer llsn change b) = ap (buffer_of (pool_changed llsn k change pool)) same ∙ of_changed_here (changed_buffer llsn change) (λ _. refl) pool k b at in
    ap (updated (llsn_in pool) k llsn) same ∙ updated_here (llsn_in pool) k llsn
    ∙ sym (ap (λ (o : Option Buffer). llsn_at page_ops (option_map (λ (x : Buffer). x.page) o)) now))
    (λ other.
    updated_else (llsn_in pool) k llsn j other
    ∙ sym (ap (λ (o : Option Buffer). llsn_at page_ops (option_map (λ (x : Buffer). x.page) o)) (of_changed_else (changed_buffer llsn change) (λ _. refl) pool k j other)))

-- so the records of the rest of a plan go on from the changed buffers
pub records_go_on : (llsn : ℕ) (step : ℕ × Change) (plan : Plan) (pool : List Buffer) (b : Buffer) → buffer_of pool step.0 ≡ Some b
    → records_of_plan llsn (llsn_in pool) (step ∷ plan) ≡ records.Page step.0 b.page.llsn step.1 ∷ records_of_plan llsn (llsn_in (pool_changed llsn step.0 step.1 pool)) plan
records_go_on llsn step plan pool b at =
    let first : records.Page step.0 (llsn_in pool step.0) step.1 ≡ records.Page step.0 b.page.llsn step.1 =
    ap (λ (o : Option Buffer). records.Page step.0 (llsn_at page_ops (option_map (λ (x : Buffer). x.page) o)) step.1) at in
    let rest = same_records llsn (updated (llsn_in pool) step.0 llsn) (llsn_in (pool_changed llsn step.0 step.1 pool)) plan (llsns_changed llsn step.0 step.1 pool b at) in
    λ i. first i ∷ rest i
