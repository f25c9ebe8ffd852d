-- A plan's calls on its pager: those of the search, and then page 0.
use Rattle.std.proofs.Common.{◌≡◌, ℕ, ◌+◌, ◌-◌, ◌^◌, ◌≤◌, min, List, ◌++◌, Result, Ok, Err, IfErr, subst, ◌∙◌, arith}
use Rattle.std.proofs.lemmas.List.{length-append}
use Rattle.mp_model.specs.declared.waiting.NotYet.{NotYet}
use Rattle.mp_cells.specs.Trees.{PageMap}
use Rattle.mp_cells.proofs.KeyEdits.{All-append}
use Rattle.mp_cells.proofs.Uses.{uses-append}
use Rattle.mp_page.specs.Pagers.{Handed}
use Rattle.mp_tree.specs.declared.write.PlanRefusal.{PlanRefusal}
use Rattle.mp_tree.specs.declared.write.PlanRefusal.TheVariants as refusals
use Rattle.mp_tree.specs.Searches.{Asks}
use Rattle.mp_tree.specs.Writing.{AsksPlan, Refuses, IsWithheld, IsFullAnswer}
use Rattle.mp_tree.proofs.Asking.{Unwaited, extends_before, parts_unused, all_wider}

module _ {P : Type 0} (handed : P → Handed) (waits : P → ℕ) (last : P → NotYet) (follows : P → P → Type 0) (withholds : P → ℕ → Type 0) (May : PageMap → ℕ → Type 0) where
  -- the calls end well
  pub plan_ok : {A : Type 0} (m most : ℕ) → m ≤ most → (old new : P) (value : A) → Unwaited handed waits last follows May m old new → AsksPlan {A = A} handed waits last follows withholds May most old new (Ok value)
  plan_ok m most le old new value a = record { same = a.same; kept = a.kept; quiet = (a.waits_same, a.last_same); refused = tt; asked = a.asked; few = omega (arith, le, a.few); may = a.may; others = a.others; withheld = tt }

  -- or show that there are too few pages
  pub plan_answers : {A : Type 0} (m most : ℕ) → m ≤ most → (old new : P) (result : Result A PlanRefusal) → IfErr result (λ refusal. IsFullAnswer refusal) → Unwaited handed waits last follows May m old new → AsksPlan {A = A} handed waits last follows withholds May most old new result
  plan_answers m most le old new (Ok value) full a = plan_ok m most le old new value a
  plan_answers m most le old new (Err (refusals.Full needed clear)) full a = record { same = a.same; kept = a.kept; quiet = tt; refused = (a.waits_same, a.last_same); asked = a.asked; few = omega (arith, le, a.few); may = a.may; others = a.others; withheld = tt }
  plan_answers m most le old new (Err (refusals.NotYet wait)) full a = absurd full

  -- or wait
  pub plan_waits : {A : Type 0} (B : Type 0) (m most : ℕ) → m ≤ most → (old new : P) (result : Result A NotYet) (wait : NotYet) → Asks handed waits last follows withholds May m old new result → result ≡ Err wait → AsksPlan {A = B} handed waits last follows withholds May most old new (Err (refusals.NotYet wait))
  plan_waits {A} B m most le old new result wait h e =
      let t = subst (Asks {A = A} handed waits last follows withholds May m old new) e h in
      record { same = t.same; kept = t.kept; quiet = tt; refused = t.waited; asked = t.asked; few = omega (arith, le, t.few); may = t.may; others = t.others; withheld = t.withheld }

  -- then a call of a part of the plan
  pub plan_then : {A : Type 0} (B : Type 0) → ((a b c : P) → follows a b → follows b c → follows a c) → (m k most : ℕ) → m + k ≤ most → (old mid new : P) (result : Result A PlanRefusal) (refusal : PlanRefusal)
      → Unwaited handed waits last follows May m old mid → AsksPlan handed waits last follows withholds May k mid new result → result ≡ Err refusal → AsksPlan {A = B} handed waits last follows withholds May most old new (Err refusal)
  plan_then {A} B on m k most le old mid new result refusal a h e =
      let t = subst (AsksPlan {A = A} handed waits last follows withholds May k mid new) e h in
      record {
        same = on old mid new a.same t.same;
        kept = λ n page x. t.kept n page (a.kept n page x);
        quiet = tt;
        refused = refused refusal t.refused;
        asked = a.asked ++ t.asked;
        few = omega (arith, le, a.few, t.few, length-append a.asked t.asked);
        may = λ pages x. All-append (May pages) a.asked t.asked (a.may pages (extends_before handed mid new pages t.kept x)) (t.may pages x);
        others = λ n none. let parts = parts_unused n a.asked t.asked none in t.others n parts.1 ∙ a.others n parts.0;
        withheld = withheld refusal t.asked t.withheld;
      }
    where
      refused : (r : PlanRefusal) → Refuses waits last mid new r → Refuses waits last old new r
      refused (refusals.Full needed clear) r = (r.0 ∙ a.waits_same, r.1 ∙ a.last_same)
      refused (refusals.NotYet wait) r = (subst (λ (w : ℕ). min (w + 1) (2 ^ 64 - 1) ≤ waits new) a.waits_same r.0, r.1)

      withheld : (r : PlanRefusal) (asked : List ℕ) → IsWithheld (withholds new) asked r → IsWithheld (withholds new) (a.asked ++ asked) r
      withheld (refusals.Full needed clear) asked h = tt
      withheld (refusals.NotYet wait) asked h = (h.0, omega (arith, h.1, uses-append h.0 a.asked asked), h.2)

  pub plan_unwaited : {A : Type 0} (k : ℕ) (old new : P) (result : Result A PlanRefusal) (value : A) → AsksPlan handed waits last follows withholds May k old new result → result ≡ Ok value → Unwaited handed waits last follows May k old new
  plan_unwaited {A} k old new result value h e =
      let t = subst (AsksPlan {A = A} handed waits last follows withholds May k old new) e h in
      record { same = t.same; kept = t.kept; waits_same = t.quiet.0; last_same = t.quiet.1; asked = t.asked; few = t.few; may = t.may; others = t.others }

pub plan_wider : {P : Type 0} {A : Type 0} (handed : P → Handed) (waits : P → ℕ) (last : P → NotYet) (follows : P → P → Type 0) (withholds : P → ℕ → Type 0) (May Other : PageMap → ℕ → Type 0) → ((pages : PageMap) (n : ℕ) → May pages n → Other pages n)
    → (most : ℕ) (old new : P) (result : Result A PlanRefusal) → AsksPlan handed waits last follows withholds May most old new result → AsksPlan handed waits last follows withholds Other most old new result
plan_wider handed waits last follows withholds May Other f most old new result t = record {
  same = t.same;
  kept = t.kept;
  quiet = t.quiet;
  refused = t.refused;
  asked = t.asked;
  few = t.few;
  may = λ pages e. all_wider (May pages) (Other pages) (f pages) t.asked (t.may pages e);
  others = t.others;
  withheld = t.withheld;
}
