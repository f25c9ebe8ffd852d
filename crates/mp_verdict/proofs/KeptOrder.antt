-- What a primary kept, in its order: each put and commit is in one entry, mtrs and indexes rise down the entries, and what
-- an entry made lies between what the others read.
use Rattle.std.proofs.Common.{◌≡◌, ℕ, ◌+◌, ◌<◌, ◌≤◌, Bool, true, false, List, [], ◌∷◌, ◌++◌, length, reverse, ◌||◌, Option, Some, None, is_some, is_none, refl, sym, ap, subst, ◌∙◌, inl, inr, arith}
use mathlib.Core.Bool.{false≢true}
use Rattle.std.specs.Option.{IfSome}
use Rattle.std.specs.List.{list_any, AllByRecursion}
use Rattle.mp_machine.specs.Lists.{IsIn}
use Rattle.mp_model.specs.declared.replies.Answer.{Answer}
use Rattle.mp_script.specs.Below.{EachBelow, answered}
use Rattle.mp_script.specs.WentDown.{shows_down, is_stopped}
use Rattle.mp_script.specs.Standing.{StandsAbove}
use Rattle.mp_script.specs.Execution.{is_session_on}
use Rattle.mp_script.proofs.Ordered.{Pairwise, pair_above, in_left, in_right, in_either, in_reverse, pairwise_reverse, in_filter, pairwise_filter, all_in, in_found, from_found, above_found}
use Rattle.mp_script.proofs.ItemsAbove.{each_pairs, each_all}
use Rattle.mp_script.proofs.CountedAnswers.{count_more, count_own}
use Rattle.mp_cells.specs.declared.rows.Row.{Row}
use Rattle.mp_core_trx.specs.declared.part.Begun.{Begun}
use Rattle.mp_core_trx.specs.World.{begun_in}
use Rattle.mp_core.specs.declared.opening.CoreOpening.{CoreOpening}
use Rattle.mp_core.specs.World.{CoreWorld, core_part}
use Rattle.mp_core.specs.OwnMtrs.{row_restored_by, TrxMtr}
use Rattle.mp_core.specs.CoreExtends.{durable_of}
use Rattle.mp_facts.specs.Facts.{made_in, MtrsFall, Facts}
use Rattle.mp_supports.specs.Work.{Work}
use Rattle.mp_supports.specs.Supports.{Supports}
use Rattle.mp_supports.specs.Kept.{Entry, answers_in, lasting, Precedes, IsInDoubt, Kept}
use Rattle.mp_verdict.proofs.NextInOrder.{IsAnsweredNext}

module _ (work : Work) (n : ℕ) where
  -- each answer's index counts the answers of its session down to it
  abbrev AreCounted : List Answer → Type 0
  AreCounted above = (x : Answer) → IsIn x above → x.index ≤ length (answered x.session above)

  counted_more : (above : List Answer) (z : Answer) → AreCounted above → z.index ≡ length (answered z.session above) + 1 → AreCounted (above ++ z ∷ [])
  counted_more above z counted next = λ x there. elim (in_either x above (z ∷ []) there) [
    | inl h ↦ let before = counted x h in let more = count_more x.session above z in omega (arith, before, more)
    | inr (inl e) ↦
        let own = count_own above z in
        subst (λ (y : Answer). y.index ≤ length (answered y.session (above ++ z ∷ []))) (sym e) (omega (arith, next, own))
    | inr (inr none) ↦ absurd none
  ]

  rise_from : (above xs : List Answer) → EachBelow (IsAnsweredNext work n) above xs → AreCounted above → (x y : Answer) → IsIn x above → IsIn y xs → x.session ≡ y.session → x.index < y.index
  rise_from above [] each counted x y h k same = absurd k
  rise_from above (z ∷ zs) each counted x y h (inl e) same =
      let before = counted x h in
      let next : y.index ≡ length (answered y.session above) + 1 = subst (λ (v : Answer). v.index ≡ length (answered v.session above) + 1) (sym e) each.0.next in
      let count : length (answered x.session above) ≡ length (answered y.session above) = ap (λ (s : ℕ). length (answered s above)) same in
      omega (arith, before, next, count)
  rise_from above (z ∷ zs) each counted x y h (inr k) same = rise_from (above ++ z ∷ []) zs each.1 (counted_more above z counted each.0.next) x y (in_left x above (z ∷ []) h) k same

  indexes_up : (above xs : List Answer) → EachBelow (IsAnsweredNext work n) above xs → AreCounted above → Pairwise (λ a b. a.session ≡ b.session → a.index < b.index) xs
  indexes_up above [] each counted = tt
  indexes_up above (z ∷ zs) each counted =
      let more = counted_more above z counted each.0.next in
      (λ y there. rise_from (above ++ z ∷ []) zs each.1 more z y (in_right z above (z ∷ []) (inl refl)) there, indexes_up (above ++ z ∷ []) zs each.1 more)

  any_there : (above : List Answer) (x : Answer) → IsIn x above → shows_down x.reply ≡ true → list_any (λ other. shows_down other.reply) above ≡ true
  any_there [] x h e = absurd h
  any_there (z ∷ above) x (inl same) e = ap (λ (b : Bool). b || list_any (λ (other : Answer). shows_down other.reply) above) (ap (λ (y : Answer). shows_down y.reply) (sym same) ∙ e)
  any_there (z ∷ above) x (inr h) e = ap (λ (b : Bool). shows_down z.reply || b) (any_there above x h e) ∙ or_true (shows_down z.reply)
    where
      or_true : (b : Bool) → (b || true) ≡ true
      or_true true = refl
      or_true false = refl

  down_from : (above xs : List Answer) → EachBelow (IsAnsweredNext work n) above xs → (x y : Answer) → IsIn x above → IsIn y xs → shows_down x.reply ≡ true → is_stopped y.reply ≡ true
  down_from above [] each x y h k e = absurd k
  down_from above (z ∷ zs) each x y h (inl same) e = subst (λ (v : Answer). is_stopped v.reply ≡ true) (sym same) (each.0.stays_down (any_there above x h e))
  down_from above (z ∷ zs) each x y h (inr k) e = down_from (above ++ z ∷ []) zs each.1 x y (in_left x above (z ∷ []) h) k e

  down_pairs : (above xs : List Answer) → EachBelow (IsAnsweredNext work n) above xs → Pairwise (λ a b. shows_down a.reply ≡ true → is_stopped b.reply ≡ true) xs
  down_pairs above [] each = tt
  down_pairs above (z ∷ zs) each = (λ y there. down_from (above ++ z ∷ []) zs each.1 z y (in_right z above (z ∷ []) (inl refl)) there, down_pairs (above ++ z ∷ []) zs each.1)

falls_pairs : (made : List TrxMtr) → MtrsFall made → Pairwise (λ m k. k.at < m.at) made
falls_pairs [] falls = tt
falls_pairs (m ∷ made) falls = (λ k there. (falls.0 k there).0, falls_pairs made falls.1)

module _ (work : Work) (o : CoreOpening) (w : CoreWorld) (facts : Facts o w) (n down : ℕ) (entries : List Entry) (kept : Kept work (core_part w n) down entries) (all : AllByRecursion (λ e. is_some e.answer ≡ true) entries) (order : EachBelow (IsAnsweredNext work n) [] (answers_in entries)) where
  pub answer_of : (e : Entry) → IsIn e entries → (a : Answer) × (e.answer ≡ Some a)
  answer_of e there = found e.answer refl
    where
      found : (x : Option Answer) → e.answer ≡ x → (a : Answer) × (e.answer ≡ Some a)
      found (Some a) is = (a, is)
      found None is = absurd (false≢true (ap (λ (x : Option Answer). is_some x) (sym is) ∙ all_in (λ (x : Entry). is_some x.answer ≡ true) e entries all there))

  pub support_of : (e : Entry) (a : Answer) → IsIn e entries → e.answer ≡ Some a → Supports work (core_part w n) down a e.trace
  support_of e a there is = subst (λ (x : Option Answer). IfSome x (λ b. Supports work (core_part w n) down b e.trace)) is (all_in (λ (x : Entry). IfSome x.answer (λ b. Supports work (core_part w n) down b x.trace)) e entries kept.supported there)

  pub doubt_of : (e : Entry) (a : Answer) → IsIn e entries → e.answer ≡ Some a → shows_down a.reply ≡ true → (m : TrxMtr) → e.trace.mtr ≡ Some m → durable_of (core_part w n) < m.mtr.llsn
  doubt_of e a there is down_shown m made =
      let doubt = all_in (IsInDoubt (core_part w n)) e entries kept.in_doubt there in
      let here = subst (λ (x : Option Answer). IfSome x (λ b. shows_down b.reply ≡ true → IfSome e.trace.mtr (λ k. durable_of (core_part w n) < k.mtr.llsn))) is doubt in
      subst (λ (x : Option TrxMtr). IfSome x (λ k. durable_of (core_part w n) < k.mtr.llsn)) made (here down_shown)

  -- each mtr that isn't a restore is an entry's
  pub entry_of_mtr : (m : TrxMtr) → IsIn m (made_in w n) → row_restored_by m.mtr ≡ None → (e : Entry) × IsIn e entries × (e.trace.mtr ≡ Some m)
  entry_of_mtr m there whole =
      let last : IsIn m (lasting (made_in w n)) = in_filter (λ (k : TrxMtr). is_none (row_restored_by k.mtr)) m (made_in w n) there (ap (λ (x : Option Row). is_none x) whole) in
      from_found (λ (e : Entry). e.trace.mtr) entries m (subst (IsIn m) (sym kept.made) (in_reverse m (lasting (made_in w n)) last))

  -- each begin is an entry's
  pub entry_of_begin : (b : Begun) → IsIn b (begun_in w.trx n) → (e : Entry) × IsIn e entries × (e.trace.began ≡ Some b)
  entry_of_begin b there = from_found (λ (e : Entry). e.trace.began) entries b (subst (IsIn b) (sym kept.began) (in_reverse b (begun_in w.trx n) there))

  pub mtrs_up : (e later : Entry) (m k : TrxMtr) → StandsAbove e later entries → e.trace.mtr ≡ Some m → later.trace.mtr ≡ Some k → m.at < k.at
  mtrs_up e later m k above is has =
      let pairs = pairwise_reverse (λ a b. b.at < a.at) (lasting (made_in w n)) (pairwise_filter (λ a b. b.at < a.at) (λ (x : TrxMtr). is_none (row_restored_by x.mtr)) (made_in w n) (falls_pairs (made_in w n) (facts.of_history.in_order n))) in
      pair_above (λ a b. a.at < b.at) m k (reverse (lasting (made_in w n))) pairs (subst (StandsAbove m k) kept.made (above_found (λ (x : Entry). x.trace.mtr) e later entries m k above is has))

  pub precedes_of : (e later : Entry) → StandsAbove e later entries → Precedes e later
  precedes_of e later above = pair_above Precedes e later entries (each_pairs Precedes [] entries kept.after) above

  pub index_up : (e later : Entry) (a b : Answer) → StandsAbove e later entries → e.answer ≡ Some a → later.answer ≡ Some b → a.session ≡ b.session → a.index < b.index
  index_up e later a b above is has =
      pair_above (λ x y. x.session ≡ y.session → x.index < y.index) a b (answers_in entries) (indexes_up work n [] (answers_in entries) order (λ x none. absurd none)) (above_found (λ (x : Entry). x.answer) e later entries a b above is has)

  pub stopped_below : (e later : Entry) (a b : Answer) → StandsAbove e later entries → e.answer ≡ Some a → later.answer ≡ Some b → shows_down a.reply ≡ true → is_stopped b.reply ≡ true
  stopped_below e later a b above is has =
      pair_above (λ x y. shows_down x.reply ≡ true → is_stopped y.reply ≡ true) a b (answers_in entries) (down_pairs work n [] (answers_in entries) order) (above_found (λ (x : Entry). x.answer) e later entries a b above is has)

  pub session_here : (e : Entry) (a : Answer) → IsIn e entries → e.answer ≡ Some a → is_session_on work.sessions a.session n ≡ true
  session_here e a there is = (each_all (IsAnsweredNext work n) [] (answers_in entries) order a (in_found (λ (x : Entry). x.answer) e entries a there is)).1.its_session
