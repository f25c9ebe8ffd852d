-- What is in frames, and the contents that nodes have: each step keeps that a frame is durable, that a content is
-- whole, and that what is missing in a frame lies with the page's writer.
use Rattle.std.proofs.Common.{◌≡◌, ℕ, ◌≤◌, ◌⊎◌, true, false, List, ◌∷◌, length, refl, sym, ap, ◌∙◌, subst, inl, inr, ⊎_elim, arith, Option, None, Some, le_trans}
use Rattle.std.specs.Option.{option_map, unwrap_or}
use Rattle.std.proofs.lemmas.Bool.{cases_Bool}
use mathlib.Core.Logic.{dite}
use native.Mathlib.Decide.{ℕ_discrete}
use Rattle.mp_machine.specs.Lists.{IsIn, pushed}
use Rattle.mp_machine.proofs.Lists.{pushed_here, pushed_else}
use Rattle.mp_core_pages.specs.declared.opening.PagesOpening.{PagesOpening}
use Rattle.mp_core_pages.specs.declared.page_lock.Held.{Held}
use Rattle.mp_core_pages.specs.declared.page_lock.Held.TheVariants.{No, Write}
use Rattle.mp_core_pages.specs.declared.part.LockRow.{LockRow}
use Rattle.mp_core_pages.specs.declared.part.GaveRow.{GaveRow}
use Rattle.mp_core_pages.specs.declared.part.ContentStep.{ContentStep}
use Rattle.mp_core_pages.specs.declared.part.ContentStep.TheVariants.{Given, Dropped, Made}
use Rattle.mp_core_pages.specs.Histories.{PageOps, PageLaws, is_touched, Touches, llsn_at, folded, HistoryInOrder}
use Rattle.mp_core_pages.specs.PageParts.{lock_row, gave_row, given_page, held_at, gave_at, durable_llsn, content_at, kept_or, own_llsn}
use Rattle.mp_core_pages.specs.PageWorld.{PagesWorld, frame_in}
use Rattle.mp_core_pages.specs.PageInvariant.{PagesInv, PageLocks, Ascends, IsDurable, IsPrefix, PageFrames, IsGiven, GivenPages}
use Rattle.mp_core_pages.proofs.Choices.{if_equal, if_differs}
use Rattle.mp_core_pages.proofs.Rows.{newest_cases}
use Rattle.mp_core_pages.proofs.Prefixes.{oldest_same, oldest_all, in_oldest, untouched_same, prefix_rises, prefix_whole, own_most}
use Rattle.mp_core_pages.proofs.Locks.{HeldNow, held_cases, held_else}
use Rattle.mp_core_pages.proofs.Turns.{not_both}
use Rattle.mp_core_pages.proofs.Logs.{durable_more}

-- the content of a page after one step more
module _ {P M : Type 0} (ops : PageOps P M) (contents : ℕ → List (ContentStep P M)) (n : ℕ) where
  abbrev pub ContentNow : ContentStep P M → ℕ → ℕ → Option P
  ContentNow s j i = content_at ops (pushed contents n s j) i

  content_of : (s : ContentStep P M) (j i : ℕ) → j ≡ n → ContentNow s j i ≡ content_at ops (s ∷ contents n) i
  content_of s j i same = ap (λ l. content_at ops l i) (ap (pushed contents n s) same ∙ pushed_here contents n s)

  content_else : (s : ContentStep P M) (j i : ℕ) → ¬ (j ≡ n) → ContentNow s j i ≡ content_at ops (contents j) i
  content_else s j i other = ap (λ l. content_at ops l i) (pushed_else contents n s j other)

  pub given_cases : (k : ℕ) (y : P) (j i : ℕ) → ((j ≡ n) × (i ≡ k) × (ContentNow (Given k y) j i ≡ Some y))
      ⊎ (ContentNow (Given k y) j i ≡ content_at ops (contents j) i)
  given_cases k y j i =
      dite (ℕ_discrete j n)
      (λ same.
      dite (ℕ_discrete i k)
      (λ own. inl (
        same,
        own,
        content_of (Given k y) j i same ∙ if_equal i k (Some y)
            (content_at ops (contents n) i) own,
      ))
      (λ differs. inr (content_of (Given k y) j i same ∙ if_differs i k (Some y)
      (content_at ops (contents n) i) differs ∙ ap (λ l. content_at ops (contents l) i) (sym same))))
      (λ other. inr (content_else (Given k y) j i other))

  pub dropped_cases : (k j i : ℕ) → ((j ≡ n) × (i ≡ k) × (ContentNow (Dropped k) j i ≡ None))
      ⊎ ((¬ ((j ≡ n) × (i ≡ k))) × (ContentNow (Dropped k) j i ≡ content_at ops (contents j) i))
  dropped_cases k j i =
      dite (ℕ_discrete j n)
      (λ same.
      dite (ℕ_discrete i k)
      (λ own. inl (
        same,
        own,
        content_of (Dropped k) j i same ∙ if_equal i k None
            (content_at ops (contents n) i) own,
      ))
      (λ differs. inr (
        (λ e. differs e.1),
        content_of (Dropped k) j i same ∙ if_differs i k None
            (content_at ops (contents n) i) differs ∙ ap (λ l. content_at ops (contents l) i) (sym same),
      )))
      (λ other. inr ((λ e. other e.0), content_else (Dropped k) j i other))

  pub made_content : (m : M) (j i : ℕ) → j ≡ n → ContentNow (Made m) j i ≡ option_map (ops.after_mtr m i)
      (content_at ops (contents n) i)
  made_content m j i same = content_of (Made m) j i same

  pub made_else : (m : M) (j i : ℕ) → ¬ (j ≡ n) → ContentNow (Made m) j i ≡ content_at ops (contents j) i
  made_else m j i other = content_else (Made m) j i other

mapped_some : {P : Type 0} (f : P → P) (x : Option P) (z : P) → option_map f x ≡ Some z → (y : P) × (x ≡ Some y)
mapped_some f None z e = let both : None ≡ Some z = e in cc
mapped_some f (Some y) z e = (y, refl)

mapped_none : {P : Type 0} (f : P → P) (x : Option P) → option_map f x ≡ None → x ≡ None
mapped_none f None e = refl
mapped_none f (Some y) e = not_both (Some (f y)) (f y) e refl

module _ {P M : Type 0} (ops : PageOps P M) (laws : PageLaws ops) (opening : PagesOpening P) (w : PagesWorld P M)
    (all : PagesInv ops opening w) (n : ℕ) where
  -- what the lemmas read of the world
  abbrev history : List M
  history = w.history

  abbrev pub frame : ℕ → Option P
  frame = frame_in w.turn_words w.homes w.frames

  abbrev durables : ℕ → List ℕ
  durables = w.durables

  abbrev locks : ℕ → List LockRow
  locks = w.lock_rows

  abbrev contents : ℕ → List (ContentStep P M)
  contents = w.contents

  abbrev gave : ℕ → List GaveRow
  gave = w.gave

  abbrev i : PageFrames ops opening history frame durables locks contents gave
  i = all.page_frames

  abbrev l : PageLocks opening.primaries w.lock_words locks
  l = all.page_locks

  abbrev order : HistoryInOrder ops opening history
  order = all.mtr_history.order

  -- the mtr is durable and in the frame of the page
  abbrev IsInFrame : M → ℕ → Type 0
  IsInFrame m k = IsDurable ops opening.base durables m × (ops.mtr_llsn m ≤ llsn_at ops (frame k))

  -- a lock is taken by a node that did not write
  pub frames_lock : (k : ℕ) (x : Held) → ¬ (held_at (locks n) k ≡ Write) → ¬ (x ≡ No)
      → PageFrames ops opening history frame durables (pushed locks n (lock_row k x)) contents gave
  frames_lock k x reads some =
      let writer : (j p : ℕ) → held_at (locks j) p ≡ Write → HeldNow locks n k x j p ≡ Write =
      λ j p writes.
      ⊎_elim
      (λ (here : (j ≡ n) × (p ≡ k) × (HeldNow locks n k x j p ≡ x)).
      absurd (reads ((λ t. held_at (locks (sym here.0 t)) (sym here.1 t)) ∙ writes)))
      (λ (old : (¬ ((j ≡ n) × (p ≡ k))) × (HeldNow locks n k x j p ≡ held_at (locks j) p)). old.1 ∙ writes)
      (held_cases locks n k x j p) in
      record {
        prefix = i.prefix;
        missing = λ m p is touch. ⊎_elim (λ (in_frame : IsInFrame m p). inl in_frame)
            (λ (writes : held_at (locks (ops.maker_of m)) p ≡ Write). inr (writer (ops.maker_of m) p writes))
            (i.missing m p is touch);
        contents_whole = λ j p y has.
            let was = i.contents_whole j p y has in (
              λ none.
                  ⊎_elim
                  (λ (here : (j ≡ n) × (p ≡ k) × (HeldNow locks n k x j p ≡ x)). some (sym here.2 ∙ none))
                  (λ (old : (¬ ((j ≡ n) × (p ≡ k))) × (HeldNow locks n k x j p ≡ held_at (locks j) p)).
                  was.0 (sym old.1 ∙ none))
                  (held_cases locks n k x j p),
              was.1,
            );
        frames_whole = λ p nobody. i.frames_whole p (λ j writes. nobody j (writer j p writes));
        gave_below = i.gave_below;
      }

  -- a node's own mtrs on a page whose records it has released are in the frame
  own_below : (m : M) (k : ℕ) → IsIn m history → Touches ops m k → ops.maker_of m ≡ n
      → ops.mtr_llsn m ≤ own_llsn ops (w.made n) k
  own_below m k is touch maker = subst (λ s. ops.mtr_llsn m ≤ own_llsn ops s k) (sym (all.mtr_history.own n))
      (own_most ops opening.base history m n k
      (subst (λ s. Ascends ops opening.base s) (all.mtr_history.own n) (all.mtr_logs.ascend n)) is maker touch)

  durable_own : (m : M) (k : ℕ) → IsIn m history → Touches ops m k → ops.maker_of m ≡ n
      → own_llsn ops (w.made n) k ≤ durable_llsn opening.base (durables n) → IsDurable ops opening.base durables m
  durable_own m k is touch maker forced = subst (λ j. ops.mtr_llsn m ≤ durable_llsn opening.base (durables j))
      (sym maker) (le_trans (own_below m k is touch maker) forced)

  -- a lock is let go by a node that has released its records on the page
  module _ (k : ℕ) (has : ¬ (held_at (locks n) k ≡ No))
      (forced : own_llsn ops (w.made n) k ≤ durable_llsn opening.base (durables n))
      (framed : own_llsn ops (w.made n) k ≤ gave_at (gave n) k) where
    abbrev LocksThen : ℕ → List LockRow
    LocksThen = pushed locks n (lock_row k No)

    missing_then : (m : M) (p : ℕ) → IsIn m history → Touches ops m p → IsInFrame m p
        ⊎ (held_at (LocksThen (ops.maker_of m)) p ≡ Write)
    missing_then m p is touch =
        ⊎_elim
        (λ (in_frame : IsInFrame m p). inl in_frame)
        (λ (writes : held_at (locks (ops.maker_of m)) p ≡ Write).
        ⊎_elim
        (λ (here : (ops.maker_of m ≡ n) × (p ≡ k) × (HeldNow locks n k No (ops.maker_of m) p ≡ No)).
        let touched : Touches ops m k = subst (λ q. Touches ops m q) here.1 touch in
        let in_frame = le_trans (le_trans (own_below m k is touched here.0) framed) (i.gave_below n k) in
        inl (
          durable_own m k is touched here.0 forced,
          subst (λ q. ops.mtr_llsn m ≤ llsn_at ops (frame q))
              (sym here.1) in_frame,
        ))
        (λ (old : (¬ ((ops.maker_of m ≡ n) × (p ≡ k)))
        × (HeldNow locks n k No (ops.maker_of m) p ≡ held_at (locks (ops.maker_of m)) p)). inr (old.1 ∙ writes))
        (held_cases locks n k No (ops.maker_of m) p))
        (i.missing m p is touch)

    -- nobody writes the page then
    no_writer_then : (j : ℕ) → held_at (LocksThen j) k ≡ Write → ⊥
    no_writer_then j writes =
        ⊎_elim
        (λ (here : (j ≡ n) × (k ≡ k) × (HeldNow locks n k No j k ≡ No)). let both : No ≡ Write = sym here.2
        ∙ writes in cc)
        (λ (old : (¬ ((j ≡ n) × (k ≡ k))) × (HeldNow locks n k No j k ≡ held_at (locks j) k)).
        old.0 (sym (l.alone j n k (sym old.1 ∙ writes) has), refl))
        (held_cases locks n k No j k)

    -- so all of it is in the frame
    whole_then : frame k ≡ folded ops opening history k
    whole_then =
        let f = i.prefix k in
        f.is_folded ∙ prefix_whole ops laws opening history f.height k order f.within
        (λ m is touch.
        ⊎_elim
        (λ (in_frame : IsInFrame m k). subst (λ y. ops.mtr_llsn m ≤ llsn_at ops y) f.is_folded in_frame.1)
        (λ (writes : held_at (LocksThen (ops.maker_of m)) k ≡ Write).
        absurd (no_writer_then (ops.maker_of m) writes))
        (missing_then m k is touch))

    pub frames_unlock : PageFrames ops opening history frame durables LocksThen (pushed contents n (Dropped k)) gave
    frames_unlock = record {
      prefix = i.prefix;
      missing = missing_then;
      contents_whole = λ j p y there.
          ⊎_elim
          (λ (here : (j ≡ n) × (p ≡ k) × (ContentNow ops contents n (Dropped k) j p ≡ None)).
          not_both (ContentNow ops contents n (Dropped k) j p) y here.2 there)
          (λ (old : (¬ ((j ≡ n) × (p ≡ k)))
          × (ContentNow ops contents n (Dropped k) j p ≡ content_at ops (contents j) p)).
          let was = i.contents_whole j p y (sym old.1 ∙ there) in
          (λ none. was.0 (sym (held_else locks n k No j p old.0) ∙ none), was.1))
          (dropped_cases ops contents n k j p);
      frames_whole = λ p nobody.
          dite (ℕ_discrete p k)
          (λ same. subst (λ q. frame q ≡ folded ops opening history q) (sym same) whole_then)
          (λ other.
          i.frames_whole p (λ j writes.
          ⊎_elim
          (λ (here : (j ≡ n) × (p ≡ k) × (ContentNow ops contents n (Dropped k) j p ≡ None)). absurd (other here.1))
          (λ (old : (¬ ((j ≡ n) × (p ≡ k)))
          × (ContentNow ops contents n (Dropped k) j p ≡ content_at ops (contents j) p)). sym old.1
          ∙ nobody j (held_else locks n k No j p old.0 ∙ writes))
          (dropped_cases ops contents n k j p)));
      gave_below = i.gave_below;
    }

  -- a frame is given back with the node's content, which is that of the whole history
  module _ (k : ℕ) (y : P) (writes : held_at (locks n) k ≡ Write)
      (is_content : content_at ops (contents n) k ≡ Some y)
      (forced : own_llsn ops (w.made n) k ≤ durable_llsn opening.base (durables n)) where
    pub content_is_whole : Some y ≡ folded ops opening history k
    content_is_whole = sym (i.contents_whole n k y is_content).1

    pub content_prefix : IsPrefix ops opening history durables k (Some y)
    content_prefix = record {
      height = length history;
      within = omega arith;
      is_folded = content_is_whole ∙ ap (λ s. folded ops opening s k) (sym (oldest_all history));
      durable = λ m is touch.
          let there = in_oldest (length history) history m is in
          ⊎_elim
          (λ (in_frame : IsInFrame m k). in_frame.0)
          (λ (maker : held_at (locks (ops.maker_of m)) k ≡ Write).
          let same = l.alone n (ops.maker_of m) k writes (λ none. let both : No ≡ Write = sym none ∙ maker in cc) in
          durable_own m k there touch same forced)
          (i.missing m k there touch);
    }

    pub content_rises : llsn_at ops (frame k) ≤ ops.llsn_of y
    content_rises =
        let f = i.prefix k in
        let was = ap (llsn_at ops) f.is_folded in
        let now = ap (llsn_at ops) content_is_whole in
        let less = prefix_rises ops laws opening history f.height k order f.within in
        omega arith

  -- a frame is given back with a page that is a durable prefix, has no lower LLSN, and is whole where that is wanted
  module _
      (k : ℕ) (y : P) (next : ℕ → Option P) (here : next k ≡ Some y)
      (elsewhere : (j : ℕ) → ¬ (j ≡ k) → next j ≡ frame j)
      (prefix : IsPrefix ops opening history durables k (Some y)) (rises : llsn_at ops (frame k) ≤ ops.llsn_of y)
      (whole : ((j : ℕ) → held_at (locks j) k ≡ Write → content_at ops (contents j) k ≡ None)
      → Some y ≡ folded ops opening history k) where
    next_rises : (p : ℕ) → llsn_at ops (frame p) ≤ llsn_at ops (next p)
    next_rises p =
        dite (ℕ_discrete p k)
        (λ same. let now : llsn_at ops (next p) ≡ ops.llsn_of y = ap (λ q. llsn_at ops (next q)) same
        ∙ ap (llsn_at ops) here in let was : llsn_at ops (frame p) ≡ llsn_at ops (frame k) =
        ap (λ q. llsn_at ops (frame q)) same in omega arith)
        (λ other. let now = ap (llsn_at ops) (elsewhere p other) in omega arith)

    pub frames_give : PageFrames ops opening history next durables locks contents
        (pushed gave n (gave_row k (ops.llsn_of y)))
    frames_give = record {
      prefix = λ p.
          dite (ℕ_discrete p k)
          (λ same. subst (λ q. IsPrefix ops opening history durables q (next q)) (sym same)
          (subst (λ x. IsPrefix ops opening history durables k x) (sym here) prefix))
          (λ other. subst (λ x. IsPrefix ops opening history durables p x) (sym (elsewhere p other)) (i.prefix p));
      missing = λ m p is touch.
          ⊎_elim (λ (in_frame : IsInFrame m p). inl (in_frame.0, le_trans in_frame.1 (next_rises p)))
          (λ (writes : held_at (locks (ops.maker_of m)) p ≡ Write). inr writes) (i.missing m p is touch);
      contents_whole = i.contents_whole;
      frames_whole = λ p nobody.
          dite (ℕ_discrete p k)
          (λ same. ap next same ∙ here
          ∙ whole (λ j writes. ap (content_at ops (contents j)) (sym same)
          ∙ nobody j (ap (held_at (locks j)) same ∙ writes)) ∙ ap (folded ops opening history) (sym same))
          (λ other. elsewhere p other ∙ i.frames_whole p nobody);
      gave_below = λ j p.
          ⊎_elim
          (λ (now : (j ≡ n) × (p ≡ k) × (gave_at (pushed gave n (gave_row k (ops.llsn_of y)) j) p ≡ ops.llsn_of y)).
          let is : llsn_at ops (next p) ≡ ops.llsn_of y = ap (λ q. llsn_at ops (next q)) now.1
          ∙ ap (llsn_at ops) here in let gives = now.2 in omega arith)
          (λ (old : (¬ ((j ≡ n) × (p ≡ k)))
          × (gave_at (pushed gave n (gave_row k (ops.llsn_of y)) j) p ≡ gave_at (gave j) p)). let was =
          i.gave_below j p in let gives = old.1 in let more = next_rises p in omega arith)
          (newest_cases (λ (row : GaveRow). row.page) (λ (row : GaveRow). row.llsn) 0 gave n
          (gave_row k (ops.llsn_of y)) j p);
    }

  -- a page is given to a node that holds its lock: what the node has then is whole
  module _ (k : ℕ) (y : P) (has : ¬ (held_at (locks n) k ≡ No)) (in_frame : frame k ≡ Some y) where
    by_content : (x : Option P) → content_at ops (contents n) k ≡ x → folded ops opening history k ≡ Some
        (unwrap_or x y)
    by_content None is =
        sym (i.frames_whole k (λ j writes. let same = l.alone j n k writes has in
        ap (λ m. content_at ops (contents m) k) (sym same) ∙ is)) ∙ in_frame
    by_content (Some c) is = (i.contents_whole n k c is).1

    pub given_is_whole : folded ops opening history k ≡ Some (kept_or ops (contents n) k y)
    given_is_whole = by_content (content_at ops (contents n) k) refl

    abbrev GivenNow : P
    GivenNow = kept_or ops (contents n) k y

    pub frames_take : PageFrames ops opening history frame durables locks (pushed contents n (Given k GivenNow)) gave
    frames_take = record {
      prefix = i.prefix;
      missing = i.missing;
      contents_whole = λ j p z there.
          ⊎_elim
          (λ (here : (j ≡ n) × (p ≡ k) × (ContentNow ops contents n (Given k GivenNow) j p ≡ Some GivenNow)). (
            λ none. has ((λ t. held_at (locks (sym here.0 t)) (sym here.1 t)) ∙ none),
            ap (folded ops opening history) here.1 ∙ given_is_whole ∙ sym here.2 ∙ there,
          ))
          (λ (old : ContentNow ops contents n (Given k GivenNow) j p ≡ content_at ops (contents j) p).
          i.contents_whole j p z (sym old ∙ there))
          (given_cases ops contents n k GivenNow j p);
      frames_whole = λ p nobody.
          i.frames_whole p (λ j writes.
          ⊎_elim
          (λ (here : (j ≡ n) × (p ≡ k) × (ContentNow ops contents n (Given k GivenNow) j p ≡ Some GivenNow)).
          not_both (ContentNow ops contents n (Given k GivenNow) j p) GivenNow (nobody j writes) here.2)
          (λ (old : ContentNow ops contents n (Given k GivenNow) j p ≡ content_at ops (contents j) p). sym old
          ∙ nobody j writes)
          (given_cases ops contents n k GivenNow j p));
      gave_below = i.gave_below;
    }

    -- and of the mtrs made before, those of other nodes on the page are durable
    pub given_now : (known : ℕ) → IsGiven ops opening history durables n
        (given_page k GivenNow known (length history))
    given_now known = record {
      within = omega arith;
      is_folded = ap (λ s. folded ops opening s k) (oldest_all history) ∙ given_is_whole;
      of_others = λ m is other touch.
          ⊎_elim
          (λ (there : IsInFrame m k). there.0)
          (λ (writes : held_at (locks (ops.maker_of m)) k ≡ Write).
          absurd (other (sym (l.alone (ops.maker_of m) n k writes has))))
          (i.missing m k (in_oldest (length history) history m is) touch);
    }

  -- a node makes an mtr on pages that it writes, and whose contents it has
  module _ (m : M) (own : ops.maker_of m ≡ n)
      (may : (k : ℕ) → Touches ops m k → (held_at (locks n) k ≡ Write)
      × ((y : P) × (content_at ops (contents n) k ≡ Some y))) where
    prefix_more : (k : ℕ) (x : Option P) → IsPrefix ops opening history durables k x → IsPrefix ops opening
        (m ∷ history) durables k x
    prefix_more k x f =
        let same = oldest_same f.height m history f.within in
        let within = f.within in
        record {
          height = f.height;
          within = omega arith;
          is_folded = f.is_folded ∙ ap (λ s. folded ops opening s k) (sym same);
          durable = λ z is touch. f.durable z (subst (λ s. IsIn z s) same is) touch;
        }

    -- a page that another node has is not touched
    apart_from : (j k : ℕ) → ¬ (j ≡ n) → ¬ (held_at (locks j) k ≡ No) → is_touched k (ops.touches m) ≡ false
    apart_from j k other has =
        ⊎_elim
        (λ (touch : is_touched k (ops.touches m) ≡ true). absurd (other (l.alone n j k (may k touch).0 has)))
        (λ (apart : is_touched k (ops.touches m) ≡ false). apart)
        (cases_Bool (is_touched k (ops.touches m)))

    own_content : (k : ℕ) (x : Option P) → content_at ops (contents n) k ≡ x → (y : P)
        → option_map (ops.after_mtr m k) x ≡ Some y → (¬ (held_at (locks n) k ≡ No))
        × (folded ops opening (m ∷ history) k ≡ Some y)
    own_content k x is y there =
        let some_page = mapped_some (ops.after_mtr m k) x y there in
        let was = i.contents_whole n k some_page.0 (is ∙ some_page.1) in
        (was.0, ap (option_map (ops.after_mtr m k)) (was.1 ∙ sym some_page.1) ∙ there)

    -- a page that nobody writes with its content is not touched
    not_touched : (k : ℕ) → ((j : ℕ) → held_at (locks j) k ≡ Write → ContentNow ops contents n (Made m) j k ≡ None)
        → is_touched k (ops.touches m) ≡ false
    not_touched k nobody =
        ⊎_elim
        (λ (touch : is_touched k (ops.touches m) ≡ true).
        let page = (may k touch).1 in
        let gone = mapped_none (ops.after_mtr m k) (content_at ops (contents n) k)
        (sym (made_content ops contents n m n k refl) ∙ nobody n (may k touch).0) in
        not_both (content_at ops (contents n) k) page.0 gone page.1)
        (λ (apart : is_touched k (ops.touches m) ≡ false). apart)
        (cases_Bool (is_touched k (ops.touches m)))

    pub frames_make : PageFrames ops opening (m ∷ history) frame durables locks (pushed contents n (Made m)) gave
    frames_make = record {
      prefix = λ k. prefix_more k (frame k) (i.prefix k);
      missing = λ z k is touch.
          ⊎_elim
          (λ (e : z ≡ m).
          let touched : Touches ops m k = subst (λ x. Touches ops x k) e touch in
          inr (ap (λ x. held_at (locks (ops.maker_of x)) k) e ∙ ap (λ j. held_at (locks j) k) own
          ∙ (may k touched).0))
          (λ (old : IsIn z history). i.missing z k old touch)
          is;
      contents_whole = λ j k y there.
          dite (ℕ_discrete j n)
          (λ same.
          let now = own_content k (content_at ops (contents n) k) refl y
          (sym (made_content ops contents n m j k same) ∙ there) in
          (λ none. now.0 (ap (λ t. held_at (locks t) k) (sym same) ∙ none), now.1))
          (λ other.
          let was = i.contents_whole j k y (sym (made_else ops contents n m j k other) ∙ there) in (
            was.0,
            untouched_same ops laws opening m k (apart_from j k other was.0) (folded ops opening history k)
                ∙ was.1,
          ));
      frames_whole = λ k nobody.
          i.frames_whole k
          (λ j writes.
          dite (ℕ_discrete j n)
          (λ same. ap (λ t. content_at ops (contents t) k) same ∙ mapped_none (ops.after_mtr m k)
          (content_at ops (contents n) k) (sym (made_content ops contents n m j k same) ∙ nobody j writes))
          (λ other. sym (made_else ops contents n m j k other) ∙ nobody j writes))
          ∙ sym (untouched_same ops laws opening m k (not_touched k nobody) (folded ops opening history k));
      gave_below = i.gave_below;
    }

    pub given_make : GivenPages ops opening (m ∷ history) durables w.given
    given_make j g is =
        let was = all.given_pages j g is in
        let within = was.within in
        let same = oldest_same g.height m history was.within in
        record {
          within = omega arith;
          is_folded = ap (λ s. folded ops opening s g.number) same ∙ was.is_folded;
          of_others = λ z there other touch. was.of_others z (subst (λ s. IsIn z s) same there) other touch;
        }

  -- a log is durable further on
  module _ (v : ℕ) (more : durable_llsn opening.base (durables n) ≤ v) where
    pub frames_durable : PageFrames ops opening history frame (pushed durables n v) locks contents gave
    frames_durable = record {
      prefix = λ k. let f = i.prefix k in
          record {
            height = f.height;
            within = f.within;
            is_folded = f.is_folded;
            durable = λ m is touch.
                durable_more ops laws opening durables n v m more (f.durable m is touch);
          };
      missing = λ m k is touch.
          ⊎_elim
          (λ (in_frame : IsInFrame m k).
          inl (durable_more ops laws opening durables n v m more in_frame.0, in_frame.1))
          (λ (writes : held_at (locks (ops.maker_of m)) k ≡ Write). inr writes)
          (i.missing m k is touch);
      contents_whole = i.contents_whole;
      frames_whole = i.frames_whole;
      gave_below = i.gave_below;
    }

    pub given_durable : GivenPages ops opening history (pushed durables n v) w.given
    given_durable j g is =
        let was = all.given_pages j g is in
        record {
          within = was.within;
          is_folded = was.is_folded;
          of_others = λ z there other touch.
              durable_more ops laws opening durables n v z more (was.of_others z there other touch);
        }
