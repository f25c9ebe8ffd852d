-- A page comes into a buffer, or had one: the primary is at its desk then, and what was brought.
use Rattle.std.proofs.Common.{◌≡◌, ◌≢◌, ℕ, ◌+◌, ◌≤◌, max, ◌⊎◌, true, false, List, [], ◌∷◌, ◌++◌, length, slice_get, Option, None, Some, Result, Ok, Err, refl, sym, ap, subst, ◌∙◌, inl, inr, ⊎_elim, arith, length-append}
use Rattle.std.specs.Prelude.{IfErr, OnOk}
use Rattle.mp_machine.specs.View.{part_in}
use Rattle.mp_model.specs.declared.waiting.NotYet.{NotYet}
use Rattle.mp_model.specs.declared.waiting.WordKind.TheVariants.{Lock}
use Rattle.mp_cells.specs.PageView.{PageView}
use Rattle.mp_core_pages.specs.declared.page_lock.Held.TheVariants.{No, Write}
use Rattle.mp_core_pages.specs.PageParts.{told_llsn}
use Rattle.mp_core_pages.proofs.Choices.{if_equal}
use Rattle.mp_core.specs.declared.part.CorePart.{CorePart}
use Rattle.mp_core.specs.Contents.{page_ops}
use Rattle.mp_core.specs.CoreExtends.{CoreExtends}
use Rattle.mp_shared.specs.Nodes.{Run, NodeView, Reached}
use Rattle.mp_shared.specs.PageSteps.{held_in, MissedFrame}
use Rattle.mp_shared.proofs.Holding.{held_part}
use Rattle.mp_shared.proofs.PageCalls.{pages_changed, part_after}
use Rattle.mp_buffer_fusion.specs.declared.buffer.Buffer.{Buffer}
use Rattle.mp_buffer_fusion.specs.Buffers.{buffer_of, IsBuffered, new_buffer}
use Rattle.mp_buffer_fusion.specs.Agreement.{AgreesIn}
use Rattle.mp_buffer_fusion.specs.Visits.{with_visit, Visits}
use Rattle.mp_lock_fusion.specs.LockCalls.{CameToRead, CameToWrite, CouldNotRead, CouldNotWrite}
use Rattle.mp_buffer_fusion.specs.Fetching.{frame_missed, FetchedBy, FetchesPlace, MissesPage}
use Rattle.mp_buffer_fusion.proofs.Buffered.{in_longer, last_of_longer}
use Rattle.mp_buffer_fusion.proofs.Visiting.{one_part}
use Rattle.mp_supports.specs.Steps.{OnlyLooked}
use Rattle.mp_supports.specs.Agreement.{last_made_llsn}
use Rattle.mp_supports.proofs.Unchanged.{same_last}
use Rattle.mp_desk.specs.declared.desk.Desk.{Desk}
use Rattle.mp_desk.specs.Desks.{DeskAgrees, Moves, IsAtDesk, AreGivenSince, KeepsLocks, Brings, MetWait}
use Rattle.mp_desk.proofs.Moving.{looked_none, looked_visit, LookedAway, away_looks, looks_go, moves_same, moves_ops, moves_visit, moves_read, moves_write, moves_not_read, moves_not_write, holds_on, locks_same, locks_pages, locks_read, locks_write, locks_not_read, locks_not_write}
use Rattle.mp_desk.proofs.AtDesk.{told_grows, desk_looked, at_desk_away, given_stays, given_new, buffer_in, brings_away, brings_both, brings_upto, wait_here, wait_later}

-- a buffer of a pool with one more is an old one, or the new one
pub longer_is : (pool : List Buffer) (x : Buffer) (j : ℕ) (b : Buffer) → buffer_of (pool ++ x ∷ []) j ≡ Some b → (buffer_of pool j ≡ Some b) ⊎ (b ≡ x)
longer_is pool x j b is = by_old (buffer_of pool j) refl
  where
    by_old : (o : Option Buffer) → buffer_of pool j ≡ o → (buffer_of pool j ≡ Some b) ⊎ (b ≡ x)
    by_old (Some c) old = inl (old ∙ sym (in_longer pool x j c old) ∙ is)
    by_old None old = elim (buffer_in (x ∷ []) j b (sym (last_of_longer pool x j old) ∙ is)).0 [
      | inl same ↦ inr same
      | inr none ↦ absurd none
    ]

-- the page that came in has the new buffer
new_is : (pool : List Buffer) (k : ℕ) (y : PageView) (b : Buffer) → buffer_of pool k ≡ None → buffer_of (pool ++ new_buffer k y ∷ []) k ≡ Some b → b ≡ new_buffer k y
new_is pool k y b lacks is =
    let first : Some (new_buffer k y) ≡ Some b = sym (if_equal k k (Some (new_buffer k y)) None refl) ∙ sym (last_of_longer pool (new_buffer k y) k lacks) ∙ is in
    cc

longer_length : (pool : List Buffer) (x : Buffer) → length (pool ++ x ∷ []) ≡ length pool + 1
longer_length pool x = length-append pool (x ∷ [])

-- What a call that brings a page leaves, the locks being as they were
pub record Brought (run : Run) (p : ℕ) (old new : Desk) (a b : NodeView) : Type 0 where
  pub at_desk : IsAtDesk run new p b
  pub brings : Brings 1 p old new a b
  pub locks : (j : ℕ) → held_in b p j ≡ held_in a p j

module _ (run : Run) (p k : ℕ) (old new : Desk) (a b : NodeView) (at : IsAtDesk run old p a) (reached : Reached b) (its_run : b.run ≡ a.run) (frames : b.frames ≡ []) (agrees : AgreesIn new.pool b p) (undo : new.undo ≡ old.undo) where
  -- by what the part became
  module _ (q r : CorePart) (has : part_in a.parts p ≡ Some q) (now : part_in b.parts p ≡ Some r) (looked : OnlyLooked q r) (moves : Moves OnlyLooked p a b) (locks : (j : ℕ) → held_in b p j ≡ held_in a p j)
      (more : old.llsn ≤ new.llsn) (told : new.llsn ≤ max (last_made_llsn r) (told_llsn page_ops r.pages.given)) (seen : (j : ℕ) (x : Buffer) → buffer_of new.pool j ≡ Some x → x.page.llsn ≤ new.llsn)
      (dirty : (j : ℕ) (x : Buffer) → buffer_of new.pool j ≡ Some x → x.clean ≡ false → held_in a p j ≡ Write) where
    at_desk_now : IsAtDesk run new p b
    at_desk_now = record {
      its_run = its_run ∙ at.its_run;
      reached = reached;
      part = holds_on p a b (looks_go p a b moves) p at.part;
      frames = frames;
      agrees = λ s there.
          subst (λ (x : CorePart). DeskAgrees new x) (one_part (part_in b.parts p) r s now there)
          (desk_looked old new q r looked (at.agrees q has) (agrees r now) undo more told seen);
      written = λ j x is not_clean. locks j ∙ dirty j x is not_clean;
    }

  -- the page had a buffer
  found : (c : Buffer) → buffer_of new.pool k ≡ Some c → new.llsn ≡ max old.llsn c.page.llsn → new.pool ≡ old.pool → b ≡ a → Brought run p old new a b
  found c there llsn same is =
      let has = held_part a p at.part in
      let here : buffer_of old.pool k ≡ Some c = sym (ap (λ (l : List Buffer). buffer_of l k) same) ∙ there in
      let below = (at.agrees has.0 has.1).seen k c here in
      let is_llsn : new.llsn ≡ old.llsn = omega (arith, llsn, below) in
      let now : part_in b.parts p ≡ Some has.0 = ap (λ (n : NodeView). part_in n.parts p) is ∙ has.1 in
      let locks : (j : ℕ) → held_in b p j ≡ held_in a p j = λ j. ap (λ (n : NodeView). held_in n p j) is in
      let moves = moves_same p OnlyLooked looked_none a b is in
      let above = (at.agrees has.0 has.1).not_above in
      let old_buffer : (j : ℕ) (x : Buffer) → buffer_of new.pool j ≡ Some x → buffer_of old.pool j ≡ Some x = λ j x there. sym (ap (λ (l : List Buffer). buffer_of l j) same) ∙ there in
      record {
        at_desk = at_desk_now has.0 has.0 has.1 now (looked_none has.0) moves locks (omega (arith, is_llsn)) (omega (arith, is_llsn, above))
            (λ j x there. let le = (at.agrees has.0 has.1).seen j x (old_buffer j x there) in omega (arith, is_llsn, le))
            (λ j x there. at.written j x (old_buffer j x there));
        brings = record {
          looked = moves;
          desk = record { undo = undo; llsn = omega (arith, is_llsn); buffers = λ j x there. (x, ap (λ (l : List Buffer). buffer_of l j) same ∙ there, refl, refl) };
          locks = locks_same p a b locks;
          few = let count = ap (λ (l : List Buffer). length l) same in omega (arith, count);
          given = λ start s r has_s before given there.
              let one : s ≡ r = one_part (part_in b.parts p) s r (ap (λ (n : NodeView). part_in n.parts p) is ∙ has_s) there in
              subst (λ (l : List Buffer). AreGivenSince start r l) (sym same) (subst (λ (x : CorePart). AreGivenSince start x old.pool) one given);
        };
        locks = locks;
      }

  -- it came in
  came : (y : PageView) → buffer_of old.pool k ≡ None → new.pool ≡ old.pool ++ new_buffer k y ∷ [] → Visits p k y y a b → new.llsn ≡ max old.llsn y.llsn → Brought run p old new a b
  came y lacks same visits llsn =
      let has = held_part a p at.part in
      let q = has.0 in
      let f = with_visit k y y visits.known visits.height in
      let r = pages_changed f 2 q in
      let now : part_in b.parts p ≡ Some r = ap (λ (n : NodeView). part_in n.parts p) visits.becomes ∙ part_after a p q has.1 f 2 in
      let looked = looked_visit q k y y visits.known visits.height (λ x made. visits.since p q x has.1 made) in
      let moves = moves_visit p a b q has.1 k y y visits in
      let locks = locks_pages p a b q has.1 f 2 refl visits.becomes in
      let above = (at.agrees q has.1).not_above in
      let last = same_last q r looked.extends refl in
      let told : told_llsn page_ops r.pages.given ≡ max y.llsn (told_llsn page_ops q.pages.given) = refl in
      let each : (j : ℕ) (x : Buffer) → buffer_of new.pool j ≡ Some x → (buffer_of old.pool j ≡ Some x) ⊎ (x ≡ new_buffer k y) =
      λ j x there. longer_is old.pool (new_buffer k y) j x (sym (ap (λ (l : List Buffer). buffer_of l j) same) ∙ there) in
      record {
        at_desk = at_desk_now q r has.1 now looked moves locks (omega (arith, llsn)) (omega (arith, llsn, above, last, told))
            (λ j x there.
            ⊎_elim
            (λ (was : buffer_of old.pool j ≡ Some x). let le = (at.agrees q has.1).seen j x was in omega (arith, llsn, le))
            (λ (is : x ≡ new_buffer k y). let page : x.page.llsn ≡ y.llsn = ap (λ (c : Buffer). c.page.llsn) is in omega (arith, llsn, page))
            (each j x there))
            (λ j x there not_clean.
            ⊎_elim
            (λ (was : buffer_of old.pool j ≡ Some x). at.written j x was not_clean)
            (λ (is : x ≡ new_buffer k y). let clean : true ≡ false = sym (ap (λ (c : Buffer). c.clean) is) ∙ not_clean in absurd cc)
            (each j x there));
        brings = record {
          looked = moves;
          desk = record { undo = undo; llsn = omega (arith, llsn); buffers = λ j x there. (x, ap (λ (l : List Buffer). buffer_of l j) same ∙ in_longer old.pool (new_buffer k y) j x there, refl, refl) };
          locks = locks_same p a b locks;
          few = let count : length new.pool ≡ length old.pool + 1 = ap (λ (l : List Buffer). length l) same ∙ longer_length old.pool (new_buffer k y) in omega (arith, count);
          given = λ start s t has_s before given there.
              let one : q ≡ s = one_part (part_in a.parts p) q s has.1 has_s in
              let end : r ≡ t = one_part (part_in b.parts p) r t now there in
              subst (λ (l : List Buffer). AreGivenSince start t l) (sym same)
              (subst (λ (x : CorePart). AreGivenSince start x (old.pool ++ new_buffer k y ∷ [])) end
              (given_new start q r old.pool k y visits.known visits.height (subst (CoreExtends start) (sym one) before) looked.extends refl
              (let knew = visits.knew q has.1 in omega (arith, knew)) (λ x made. visits.since p q x has.1 made)
              (subst (λ (x : CorePart). AreGivenSince start x old.pool) (sym one) given)));
        };
        locks = locks;
      }

  -- its frame was missed
  pub missed : (steps counted : ℕ) (wait : NotYet) → MissesPage p k old.pool new.pool a b steps counted wait → new.llsn ≡ old.llsn → Brought run p old new a b
  missed steps counted wait misses llsn =
      let has = held_part a p at.part in
      let q = has.0 in
      let moves = away_looks p a b (moves_ops p a b q has.1 1 misses.becomes) in
      let now = moves.mine q has.1 in
      let r = now.0 in
      let looked : OnlyLooked q r = now.2 in
      let locks = locks_pages p a b q has.1 (λ x. x) 1 refl misses.becomes in
      let above = (at.agrees q has.1).not_above in
      let last = same_last q r looked.extends looked.made in
      let told = told_grows q r looked.extends in
      let same = misses.same in
      let old_buffer : (j : ℕ) (x : Buffer) → buffer_of new.pool j ≡ Some x → buffer_of old.pool j ≡ Some x = λ j x there. sym (ap (λ (l : List Buffer). buffer_of l j) same) ∙ there in
      record {
        at_desk = at_desk_now q r has.1 now.1 looked moves locks (omega (arith, llsn)) (omega (arith, llsn, above, last, told))
            (λ j x there. let le = (at.agrees q has.1).seen j x (old_buffer j x there) in omega (arith, llsn, le))
            (λ j x there. at.written j x (old_buffer j x there));
        brings = record {
          looked = moves;
          desk = record { undo = undo; llsn = omega (arith, llsn); buffers = λ j x there. (x, ap (λ (l : List Buffer). buffer_of l j) same ∙ there, refl, refl) };
          locks = locks_same p a b locks;
          few = let count = ap (λ (l : List Buffer). length l) same in omega (arith, count);
          given = λ start s t has_s before given there.
              let one : q ≡ s = one_part (part_in a.parts p) q s has.1 has_s in
              let end : r ≡ t = one_part (part_in b.parts p) r t now.1 there in
              subst (λ (l : List Buffer). AreGivenSince start t l) (sym same)
              (subst (λ (x : CorePart). AreGivenSince start x old.pool) end
              (given_stays start q r old.pool looked.extends (subst (λ (x : CorePart). AreGivenSince start x old.pool) (sym one) given)));
        };
        locks = locks;
      }

  by_buffer : (was : Option Buffer) (steps counted : ℕ) → buffer_of old.pool k ≡ was → (c : Buffer) → buffer_of new.pool k ≡ Some c → FetchedBy was p k old.pool new.pool a b steps counted → new.llsn ≡ max old.llsn c.page.llsn → Brought run p old new a b
  by_buffer (Some d) steps counted old_is c there fetched llsn = found c there llsn fetched.0 fetched.1
  by_buffer None steps counted old_is c there fetched llsn =
      let y = fetched.0 in
      let one : c ≡ new_buffer k y = new_is old.pool k y c old_is (sym (ap (λ (l : List Buffer). buffer_of l k) fetched.1) ∙ there) in
      came y old_is fetched.1 fetched.2 (llsn ∙ ap (λ (x : Buffer). max old.llsn x.page.llsn) one)

  -- it was fetched to a place, and the desk's LLSN was raised to it
  pub brought : (i steps counted : ℕ) (c : Buffer) → slice_get new.pool i ≡ Some c → FetchesPlace p k old.pool new.pool a b steps counted (Ok i) → new.llsn ≡ max old.llsn c.page.llsn → Brought run p old new a b
  brought i steps counted c at_place fetches llsn =
      let both : Some fetches.0 ≡ Some c = sym fetches.1.0 ∙ at_place in
      let one : fetches.0 ≡ c = cc in
      by_buffer (buffer_of old.pool k) steps counted refl c (fetches.1.1 ∙ ap Some one) fetches.2.2 llsn

-- ---- a lock first, and then the page

pub waits_later : (p : ℕ) (a m b : NodeView) → Moves CoreExtends p a m → (result : Result (Unit {0}) NotYet) → IfErr result (MetWait p m b) → IfErr result (MetWait p a b)
waits_later p a m b go (Ok done) h = tt
waits_later p a m b go (Err wait) h = wait_later p a m b wait go h

pub with_fact : {T E : Type 0} (A B : Type 0) (result : Result T E) → OnOk result A → B → OnOk result (A × B)
with_fact A B (Ok done) a b = (a, b)
with_fact A B (Err wait) a b = tt

module _ (p : ℕ) (old new : Desk) (a m b : NodeView) (moves : Moves LookedAway p a m) (locks : KeepsLocks p a m) where
  pub goes_away : Moves CoreExtends p a m
  goes_away = looks_go p a m (away_looks p a m moves)

  pub brings_after : Brings 1 p old new m b → Brings 1 p old new a b
  brings_after brings = brings_both p 0 1 old old new a m b (brings_away p old a m (away_looks p a m moves) locks) brings

-- where the lock couldn't be had
pub brings_nothing : (p : ℕ) (desk : Desk) (a m : NodeView) → Moves LookedAway p a m → KeepsLocks p a m → Brings 1 p desk desk a m
brings_nothing p desk a m moves locks = brings_upto p 0 1 desk desk a m (omega arith) (brings_away p desk a m (away_looks p a m moves) locks)

pub missed_read : (p k : ℕ) (a m : NodeView) (wait : NotYet) → wait.of ≡ Lock → wait.at ≡ k → CouldNotRead p k a wait.seen m → MetWait p a m wait
missed_read p k a m wait of at could_not = wait_here p a m wait (inl (of, inl (subst (λ (j : ℕ). CouldNotRead p j a wait.seen m) (sym at) could_not)))

pub missed_write : (p k : ℕ) (a m : NodeView) (wait : NotYet) → wait.of ≡ Lock → wait.at ≡ k → CouldNotWrite p k a wait.seen m → MetWait p a m wait
missed_write p k a m wait of at could_not = wait_here p a m wait (inl (of, inr (subst (λ (j : ℕ). CouldNotWrite p j a wait.seen m) (sym at) could_not)))

pub missed_frame : (p k : ℕ) (pool later : List Buffer) (a b : NodeView) (steps counted : ℕ) (wait : NotYet) → MissesPage p k pool later a b steps counted wait → MetWait p a b wait
missed_frame p k pool later a b steps counted wait misses =
    let at : k ≡ wait.at = sym (ap (λ (w : NotYet). w.at) misses.answer) in
    wait_here p a b wait (inr (misses.answer ∙ ap frame_missed at, subst (λ (j : ℕ). MissedFrame p j a b) at misses.missed))

-- ---- the calls on locks

-- What a call on a lock leaves: the primary is at its desk
pub record AwayStep (run : Run) (desk : Desk) (p : ℕ) (a m : NodeView) : Type 0 where
  pub moves : Moves LookedAway p a m
  pub locks : KeepsLocks p a m
  pub at_desk : IsAtDesk run desk p m

module _ (run : Run) (desk : Desk) (p k : ℕ) (a m : NodeView) (at : IsAtDesk run desk p a) (reached : Reached m) where
  away_step : Moves LookedAway p a m → KeepsLocks p a m → AwayStep run desk p a m
  away_step moves locks = record { moves = moves; locks = locks; at_desk = at_desk_away run desk p a m at moves locks reached }

  pub read_away : CameToRead p k a m → AwayStep run desk p a m
  read_away came = let has = held_part a p at.part in away_step (moves_read p a m has.0 has.1 k came) (locks_read p a m has.0 has.1 k came)

  pub write_away : CameToWrite p k a m → AwayStep run desk p a m
  write_away came = let has = held_part a p at.part in away_step (moves_write p a m has.0 has.1 k came) (locks_write p a m has.0 has.1 k came)

  pub not_read_away : (seen : ℕ) → CouldNotRead p k a seen m → AwayStep run desk p a m
  not_read_away seen could_not = let has = held_part a p at.part in away_step (moves_not_read p a m has.0 has.1 k seen could_not) (locks_not_read p a m has.0 has.1 k seen could_not)

  pub not_write_away : (seen : ℕ) → CouldNotWrite p k a seen m → AwayStep run desk p a m
  not_write_away seen could_not = let has = held_part a p at.part in away_step (moves_not_write p a m has.0 has.1 k seen could_not) (locks_not_write p a m has.0 has.1 k seen could_not)

-- ---- a page that is there takes no step

pub fetched_still : (p k : ℕ) (pool later : List Buffer) (a b : NodeView) (steps counted i : ℕ) → FetchesPlace p k pool later a b steps counted (Ok i) → IsBuffered pool k → b ≡ a
fetched_still p k pool later a b steps counted i fetches buffered = by_old (buffer_of pool k) refl fetches.2.2
  where
    by_old : (o : Option Buffer) → buffer_of pool k ≡ o → FetchedBy o p k pool later a b steps counted → b ≡ a
    by_old None old h = absurd (buffered old)
    by_old (Some c) old h = h.1

pub read_still : (p k : ℕ) (a m : NodeView) → CameToRead p k a m → held_in a p k ≢ No → m ≡ a
read_still p k a m (inl kept) held = kept.1
read_still p k a m (inr took) held = absurd (held took.held)

pub write_still : (p k : ℕ) (a m : NodeView) → CameToWrite p k a m → held_in a p k ≡ Write → m ≡ a
write_still p k a m (inl kept) held = kept.1
write_still p k a m (inr took) held = absurd (took.0 held)
