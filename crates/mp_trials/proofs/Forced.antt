-- What a primary keeps of its part, through the calls by which it takes a page and lets it go.
use Rattle.std.proofs.Common.{◌≡◌, ℕ, ◌+◌, ◌<◌, ◌≤◌, max, List, [], ◌∷◌, ◌++◌, length, Option, Some, None, Ok, ◌==◌, not, if◌then◌else◌, refl, sym, ap, ◌∙◌, subst, ⊎_elim, arith, eq-eqb, ne_eqb}
use Rattle.std.proofs.lemmas.List.{length-append}
use mathlib.Core.Logic.{dite}
use native.Mathlib.Decide.{ℕ_discrete}
use Rattle.mp_machine.specs.View.{part_in}
use Rattle.mp_machine.proofs.Views.{part_in-only}
use Rattle.mp_core_trx.specs.Events.{IsNode}
use Rattle.mp_cells.specs.declared.records.Mtr.{Mtr}
use Rattle.mp_cells.specs.PageView.{PageView}
use Rattle.mp_core_pages.specs.declared.opening.TheConstants.{PAGES}
use Rattle.mp_core_pages.specs.declared.page_lock.Held.{Held}
use Rattle.mp_core_pages.specs.declared.page_lock.Held.TheVariants.{No, Write}
use Rattle.mp_core_pages.specs.declared.part.PagesPart.{PagesPart}
use Rattle.mp_core_pages.specs.declared.event.PagesEvent.TheVariants.{UnlockWord}
use Rattle.mp_core_pages.specs.PageEvents.{with_lock, with_unlock}
use Rattle.mp_core_pages.specs.PageParts.{held_at, out_at, content_at, own_llsn, told_llsn}
use Rattle.mp_core_pages.proofs.Choices.{if_equal, if_differs}
use Rattle.mp_core.specs.declared.opening.CoreOpening.{CoreOpening}
use Rattle.mp_core.specs.declared.part.CorePart.{CorePart}
use Rattle.mp_core.specs.declared.event.CoreEvent.TheVariants.{Pages}
use Rattle.mp_core.specs.Contents.{page_ops}
use Rattle.mp_core.specs.World.{core_part, core_start}
use Rattle.mp_shared.specs.Nodes.{Run, NodeView, HoldsPart, MayTake, first_node, node_of_one, node_without}
use Rattle.mp_shared.specs.PageSteps.{held_by_part, held_in, with_pages, with_ops}
use Rattle.mp_shared.proofs.FreshStores.{over_fresh, first_part}
use Rattle.mp_shared.proofs.Holding.{holds_the_part}
use Rattle.mp_buffer_fusion.proofs.Visiting.{one_part}
use Rattle.mp_shared.proofs.PageCalls.{part_after, held_after}
use Rattle.mp_lock_fusion.specs.LockCalls.{CameToWrite}
use Rattle.mp_buffer_fusion.specs.declared.buffer.Buffer.{Buffer}
use Rattle.mp_buffer_fusion.specs.Buffers.{buffer_of, IsBuffered, new_buffer}
use Rattle.mp_buffer_fusion.specs.Agreement.{AgreesWith, AgreesIn}
use Rattle.mp_buffer_fusion.specs.Visits.{with_visit, Visits}
use Rattle.mp_buffer_fusion.specs.Fetching.{FetchedBy, FetchesPlace}
use Rattle.mp_buffer_fusion.proofs.Buffered.{in_longer}
use Rattle.mp_buffer_fusion.proofs.Agreeing.{agrees_after, in_frame_lacking}
use Rattle.mp_trials.specs.Turns.{IsForcedUpTo, HasForced, HasForcedLog, KeepsLog}

pub forced_holds : (n : NodeView) (p : ℕ) → HasForcedLog n p → HoldsPart n p
forced_holds n p h = holds_the_part n p h.1.mine h.1.holds h.1.node

pub keeps_same : (p : ℕ) (before after : NodeView) → after ≡ before → KeepsLog p before after
keeps_same p before after is = record {
  run = ap (λ (n : NodeView). n.run) is;
  frames = ap (λ (n : NodeView). n.frames) is;
  forced = λ last h. subst (λ n. HasForced n p last) (sym is) h;
}

pub keeps_then : (p : ℕ) (first second third : NodeView) → KeepsLog p first second → KeepsLog p second third → KeepsLog p first third
keeps_then p first second third a b = record {
  run = b.run ∙ a.run;
  frames = b.frames ∙ a.frames;
  forced = λ last h. b.forced last (a.forced last h);
}

abbrev pub Forces : (PagesPart PageView Mtr → PagesPart PageView Mtr) → Type 0
Forces f = (base last : ℕ) (x : PagesPart PageView Mtr) → IsForcedUpTo base last x → IsForcedUpTo base last (f x)

-- a change of what the primary knows of pages, that keeps its log
pub keeps_pages : (p : ℕ) (before after : NodeView) (f : PagesPart PageView Mtr → PagesPart PageView Mtr) (steps : ℕ) → Forces f → after ≡ with_pages before p f steps → KeepsLog p before after
keeps_pages p before after f steps keeps is = record {
  run = ap (λ (n : NodeView). n.run) is;
  frames = ap (λ (n : NodeView). n.frames) is;
  forced = λ last h. record {
    mine = record (h.mine) { pages = f h.mine.pages; ops = h.mine.ops + steps };
    holds = ap (λ (n : NodeView). part_in n.parts p) is ∙ part_after before p h.mine h.holds f steps;
    node = h.node;
    forced = keeps _ last h.mine.pages h.forced;
  };
}

pub forces_lock : (k : ℕ) (held : Held) → Forces (with_lock k held)
forces_lock k held base last x h = record { ends = h.ends; durable = h.durable; own = h.own; home = h.home; told = h.told }

pub forces_none : Forces (λ x. x)
forces_none base last x h = h

pub forces_unlock : (k : ℕ) → Forces (with_unlock k)
forces_unlock k base last x h = record {
  ends = h.ends;
  durable = h.durable;
  own = h.own;
  home = h.home;
  told = λ j y has.
      dite (ℕ_discrete j k)
      (λ same. let none : None ≡ Some y = sym (if_equal j k None (content_at page_ops x.contents j) same) ∙ has in absurd (cc))
      (λ other. h.told j y (sym (if_differs j k None (content_at page_ops x.contents j) other) ∙ has));
}

pub forces_visit : (k : ℕ) (found left : PageView) (known height : ℕ) → Forces (with_visit k found left known height)
forces_visit k found left known height base last x h = record {
  ends = h.ends;
  durable = h.durable;
  own = h.own;
  home = λ j. dite (ℕ_discrete j k)
      (λ same. if_equal j k None _ same)
      (λ other. if_differs j k None _ other ∙ if_differs j k (Some found) (out_at x.frames j) other ∙ h.home j);
  told = λ j y has.
      dite (ℕ_discrete j k)
      (λ same.
      let here : Some left ≡ Some y = sym (if_equal j k (Some left) (content_at page_ops x.contents j) same) ∙ has in
      let llsn : left.llsn ≡ y.llsn = ap (λ (z : PageView). z.llsn) (one_page left y here) in
      let most : y.llsn ≤ max last (max left.llsn (told_llsn page_ops x.given)) = omega (arith, llsn) in
      most)
      (λ other.
      let old = h.told j y (sym (if_differs j k (Some left) (content_at page_ops x.contents j) other) ∙ has) in
      let most : y.llsn ≤ max last (max left.llsn (told_llsn page_ops x.given)) = omega (arith, old) in
      most);
}
  where
    one_page : (a b : PageView) → Some a ≡ Some b → a ≡ b
    one_page a b e = cc

-- ---- locks

pub keeps_came : (p k : ℕ) (before after : NodeView) → CameToWrite p k before after → KeepsLog p before after
keeps_came p k before after came =
    ⊎_elim
    (λ (kept : (held_in before p k ≡ Write) × (after ≡ before)). keeps_same p before after kept.1)
    (λ (took : (¬ (held_in before p k ≡ Write)) × (after ≡ with_pages before p (with_lock k Write) 1)). keeps_pages p before after (with_lock k Write) 1 (forces_lock k Write) took.1)
    came

-- a pool agrees with a part whose locks changed
pub agrees_locked : (pool : List Buffer) (k : ℕ) (held : Held) (x : PagesPart PageView Mtr) → AgreesWith pool x → AgreesWith pool (with_lock k held x)
agrees_locked pool k held x a = record { shows = a.shows; keeps = a.keeps }

pub agrees_came : (pool : List Buffer) (p k : ℕ) (before after : NodeView) → CameToWrite p k before after → HoldsPart before p → AgreesIn pool before p → AgreesIn pool after p
agrees_came pool p k before after came held agrees =
    ⊎_elim
    (λ (kept : (held_in before p k ≡ Write) × (after ≡ before)). subst (λ n. AgreesIn pool n p) (sym kept.1) agrees)
    (λ (took : (¬ (held_in before p k ≡ Write)) × (after ≡ with_pages before p (with_lock k Write) 1)).
    agrees_after before after p 1 (with_lock k Write) took.1 held pool pool agrees (λ a. agrees_locked pool k Write _ a))
    came

-- a page that was written is written still
pub still_written : (p k : ℕ) (before after : NodeView) (q : CorePart) → part_in before.parts p ≡ Some q → CameToWrite p k before after → (j : ℕ) → held_in before p j ≡ Write → held_in after p j ≡ Write
still_written p k before after q has came j writes =
    ⊎_elim
    (λ (kept : (held_in before p k ≡ Write) × (after ≡ before)). ap (λ n. held_in n p j) kept.1 ∙ writes)
    (λ (took : (¬ (held_in before p k ≡ Write)) × (after ≡ with_pages before p (with_lock k Write) 1)).
    ap (λ n. held_in n p j) took.1 ∙ held_after before p q has (with_lock k Write) 1 j
    ∙ dite (ℕ_discrete j k)
    (λ same. if_equal j k Write (held_at q.pages.locks j) same)
    (λ other. if_differs j k Write (held_at q.pages.locks j) other ∙ sym (ap (λ o. held_by_part o j) has) ∙ writes))
    came

-- a change that leaves the locks
pub held_stays : (p : ℕ) (before after : NodeView) (f : PagesPart PageView Mtr → PagesPart PageView Mtr) (steps : ℕ) (q : CorePart) → part_in before.parts p ≡ Some q → ((x : PagesPart PageView Mtr) → (f x).locks ≡ x.locks) → after ≡ with_pages before p f steps → (j : ℕ) → held_in after p j ≡ held_in before p j
held_stays p before after f steps q has same is j =
    ap (λ n. held_in n p j) is ∙ held_after before p q has f steps j ∙ ap (λ l. held_at l j) (same q.pages) ∙ sym (ap (λ o. held_by_part o j) has)

-- ---- letting go

pub may_let_go : (n : NodeView) (p k : ℕ) → k < PAGES → HasForcedLog n p → AgreesIn [] n p → ¬ (held_in n p k ≡ No) → MayTake (Pages (UnlockWord p k)) n
may_let_go n p k page h agrees held =
    let f = h.1 in
    let own = f.forced.own k in (
      f.mine,
      f.holds,
      (
        f.node,
        record {
          in_range = page;
          has_lock = λ no_lock. held (ap (λ o. held_by_part o k) f.holds ∙ no_lock);
          home = f.forced.home k;
          released = (omega (arith, own, f.forced.durable), in_frame_lacking [] n p k agrees refl f.mine f.holds);
        },
        tt,
      ),
    )

agrees_unlocked : (k : ℕ) (x : PagesPart PageView Mtr) → AgreesWith [] x → AgreesWith [] (with_unlock k x)
agrees_unlocked k x a = record { shows = λ j b is. absurd (cc); keeps = a.keeps }

pub agrees_gone : (p k : ℕ) (before after : NodeView) → after ≡ with_pages before p (with_unlock k) 1 → HoldsPart before p → AgreesIn [] before p → AgreesIn [] after p
agrees_gone p k before after is held agrees = agrees_after before after p 1 (with_unlock k) is held [] [] agrees (λ a. agrees_unlocked k _ a)

pub held_gone : (p k : ℕ) (before after : NodeView) (q : CorePart) → part_in before.parts p ≡ Some q → after ≡ with_pages before p (with_unlock k) 1 → (j : ℕ) → ¬ (j ≡ k) → held_in after p j ≡ held_in before p j
held_gone p k before after q has is j other =
    ap (λ n. held_in n p j) is ∙ held_after before p q has (with_unlock k) 1 j ∙ if_differs j k No (held_at q.pages.locks j) other ∙ sym (ap (λ o. held_by_part o j) has)

-- ---- frames

module _ (p k : ℕ) (before after : NodeView) (found left : PageView) (v : Visits p k found left before after) where
  pub keeps_visit : KeepsLog p before after
  keeps_visit = keeps_pages p before after (with_visit k found left v.known v.height) 2 (forces_visit k found left v.known v.height) v.becomes

  pub held_visit : (q : CorePart) → part_in before.parts p ≡ Some q → (j : ℕ) → held_in after p j ≡ held_in before p j
  held_visit q has j = held_stays p before after (with_visit k found left v.known v.height) 2 q has (λ x. refl) v.becomes j

pub keeps_missed : (p : ℕ) (before after : NodeView) → after ≡ with_ops before p 1 → KeepsLog p before after
keeps_missed p before after is = keeps_pages p before after (λ x. x) 1 forces_none is

pub held_missed : (p : ℕ) (before after : NodeView) (q : CorePart) → part_in before.parts p ≡ Some q → after ≡ with_ops before p 1 → (j : ℕ) → held_in after p j ≡ held_in before p j
held_missed p before after q has is j = held_stays p before after (λ x. x) 1 q has (λ x. refl) is j

-- a fetch leaves the log and the locks, and keeps each buffer
pub record Fetches (p : ℕ) (pool later : List Buffer) (before after : NodeView) : Type 0 where
  pub keeps : KeepsLog p before after
  pub held : (j : ℕ) → held_in after p j ≡ held_in before p j
  pub buffered : (j : ℕ) → IsBuffered pool j → IsBuffered later j
  pub room : length later ≤ length pool + 1

by_buffer : (o : Option Buffer) (p k steps counted : ℕ) (pool later : List Buffer) (before after : NodeView) (q : CorePart) → part_in before.parts p ≡ Some q → buffer_of pool k ≡ o → FetchedBy o p k pool later before after steps counted → Fetches p pool later before after
by_buffer (Some b) p k steps counted pool later before after q has at (same, stays, uncounted) = record {
  keeps = keeps_same p before after stays;
  held = λ j. ap (λ n. held_in n p j) stays;
  buffered = λ j was. subst (λ l. IsBuffered l j) (sym same) was;
  room = let len = ap length same in omega (arith, len);
}
by_buffer None p k steps counted pool later before after q has at (y, longer, visit, counted_once) = record {
  keeps = keeps_visit p k before after y y visit;
  held = held_visit p k before after y y visit q has;
  buffered = λ j was. subst (λ l. IsBuffered l j) (sym longer) (still_buffered pool (new_buffer k y) j (buffer_of pool j) refl was);
  room = let len = ap length longer ∙ length-append pool (new_buffer k y ∷ []) in omega (arith, len);
}
  where
    still_buffered : (pool : List Buffer) (x : Buffer) (j : ℕ) (o : Option Buffer) → buffer_of pool j ≡ o → IsBuffered pool j → IsBuffered (pool ++ x ∷ []) j
    still_buffered pool x j None at was = absurd (was at)
    still_buffered pool x j (Some b) at was = λ none. let both : Some b ≡ None = sym (in_longer pool x j b at) ∙ none in cc

pub fetched_place : (p k steps counted i : ℕ) (pool later : List Buffer) (before after : NodeView) (q : CorePart) → part_in before.parts p ≡ Some q → FetchesPlace p k pool later before after steps counted (Ok i) → Fetches p pool later before after × IsBuffered later k
fetched_place p k steps counted i pool later before after q has (b, stands, fetched) = (
  by_buffer (buffer_of pool k) p k steps counted pool later before after q has refl fetched.2,
  λ none. let both : Some b ≡ None = sym stands.1 ∙ none in cc,
)

-- ---- where a primary begins

-- before any step over a base of zeros
pub forced_first : (r : Run) (node : NodeView) → node ≡ first_node r → r.opening.trx.base.llsn ≡ 0 → (p : ℕ) → IsNode r.opening.trx p → HasForced node p 0
forced_first r node is zeros p number = record {
  mine = core_part (core_start r.opening) p;
  holds = first_part r node is p number;
  node = number;
  forced = record { ends = zeros; durable = zeros; own = λ k. omega arith; home = λ k. refl; told = λ k y has. absurd (cc) };
}

module _ (n later : NodeView) (p : ℕ) where
  pub forced_alone : later ≡ node_of_one p n → HasForced n p 0 → HasForced later p 0
  forced_alone is h = record {
    mine = h.mine;
    holds = ap (λ (v : NodeView). part_in v.parts p) is ∙ part_in-only (λ k. k == p) n.parts p ∙ ap (λ b. if b then part_in n.parts p else None) (eq-eqb p p refl) ∙ h.holds;
    node = h.node;
    forced = h.forced;
  }

  pub forced_without : later ≡ node_without p n → (k : ℕ) → ¬ (k ≡ p) → HasForced n k 0 → HasForced later k 0
  forced_without is k other h = record {
    mine = h.mine;
    holds = ap (λ (v : NodeView). part_in v.parts k) is ∙ part_in-only (λ j. not (j == p)) n.parts k ∙ ap (λ b. if not b then part_in n.parts k else None) (ne_eqb k p other) ∙ h.holds;
    node = h.node;
    forced = h.forced;
  }

-- a pool without a buffer agrees with a part that made nothing
pub agrees_first : (n : NodeView) (p : ℕ) → HasForced n p 0 → AgreesIn [] n p
agrees_first n p h q has = record {
  shows = λ k b is. absurd (cc);
  keeps = λ k less.
      let same : h.mine ≡ q = one_part (part_in n.parts p) h.mine q h.holds has in
      let own = subst (λ (x : CorePart). own_llsn page_ops x.pages.made k ≤ 0) same (h.forced.own k) in
      absurd (omega (arith, own, less));
}

-- in a run over a fresh store
pub forced_fresh : (primaries begins : ℕ) (pages : List PageView) (r : Run) (node : NodeView) → r.opening ≡ over_fresh primaries begins pages → node ≡ first_node r → (p : ℕ) → 1 ≤ p → p ≤ primaries → HasForced node p 0
forced_fresh primaries begins pages r node opening is p low high =
    forced_first r node is (ap (λ (o : CoreOpening). o.trx.base.llsn) opening) p (subst (λ (o : CoreOpening). IsNode o.trx p) (sym opening) (low, high))

pub holds_forced : (n : NodeView) (p : ℕ) → HasForced n p 0 → HoldsPart n p
holds_forced n p h = holds_the_part n p h.mine h.holds h.node
