-- A turn of a primary on its own: it goes on alone, with the answer that the turn gave, if it gave one.
use Rattle.std.proofs.Common.{◌≡◌, ◌≢◌, ◌⊎◌, ℕ, ◌+◌, ◌≤◌, true, List, [], ◌++◌, Option, None, Some, is_some, refl, sym, ap, subst, ◌∙◌, inl, inr, arith, append-nil, append_assoc}
use Rattle.std.specs.List.{AllByRecursion}
use Rattle.std.specs.Option.{IfSome}
use Rattle.mp_machine.specs.Lists.{IsIn}
use Rattle.mp_machine.specs.View.{View, part_in}
use Rattle.mp_machine.proofs.Views.{part_in-with_else}
use Rattle.mp_model.specs.declared.replies.Answer.{Answer}
use Rattle.mp_model.specs.declared.transcripts.Mode.TheVariants as modes
use Rattle.mp_model.specs.declared.waiting.Turn.{Turn}
use Rattle.mp_script.specs.Answers.{ViewsCover}
use Rattle.mp_script.specs.Below.{numbers}
use Rattle.mp_script.specs.Numbered.{IfShowsView, CoversAbove}
use Rattle.mp_script.specs.Transactions.{cts_of}
use Rattle.mp_script.proofs.ItemsAbove.{all_of}
use Rattle.mp_script.proofs.Lists.{all_append}
use Rattle.mp_script.proofs.Options.{some_is, not_some}
use Rattle.mp_script.proofs.Ordered.{from_found, all_in}
use Rattle.mp_core_trx.specs.declared.part.Draw.{Draw}
use Rattle.mp_core_trx.specs.Events.{IsNode}
use Rattle.mp_core_trx.specs.Parts.{newest}
use Rattle.mp_core.specs.declared.part.CorePart.{CorePart}
use Rattle.mp_core.specs.CoreExtends.{CoreExtends}
use Rattle.mp_core.specs.Downs.{goes_down_by}
use Rattle.mp_book.proofs.Items.{each_below_one}
use Rattle.mp_outside.specs.declared.disks.Disk.{Ghosts}
use Rattle.mp_shared.specs.Nodes.{Run, NodeView, changed_part}
use Rattle.mp_shared.specs.DownSteps.{with_downs}
use Rattle.mp_shared.proofs.Holding.{held_part}
use Rattle.mp_supports.specs.Work.{Work}
use Rattle.mp_supports.specs.Supports.{Supports}
use Rattle.mp_supports.specs.Kept.{Entry, answers_in, IsTraced, Kept}
use Rattle.mp_primary.specs.Primaries.{PrimaryView, PrimaryAgrees}
use Rattle.mp_primary.specs.Turns.{Adds, GoesOnBy, TakesTurn}
use Rattle.mp_members.proofs.ShownDraws.{drawn_number, number_in, number_shown, if_began}
use Rattle.mp_members.proofs.GivenEntries.{answers_one, adds_its_answer, AddsOne, adds_one_or_none}
use Rattle.mp_members.proofs.Turns.{may_turn_on}
use Rattle.mp_threads.specs.Threads.{HasOnly, StandsAlone, StandsSomehow, GoesAlone}
use Rattle.mp_threads.proofs.DrawnSeen.{knows_drawn}

-- ---- the numbers of commits that a part's answers show

drew_it : (o : Option Draw) (number : ℕ) → drawn_number o ≡ Some number → (d : Draw) × (o ≡ Some d) × (d.cts ≡ number)
drew_it None number is = absurd (not_some number is)
drew_it (Some d) number is = (d, refl, some_is d.cts number is)

-- the part knows each of them
shown_known : (work : Work) (q : CorePart) (down : ℕ) (entries : List Entry) → Kept work q down entries
    → ((d : Draw) → IsIn d q.trx.drew → d.cts ≤ newest q.trx)
    → (number : ℕ) → IsIn number (numbers (answers_in entries)) → number ≤ newest q.trx
shown_known work q down entries kept knows number there =
    let a = from_found (λ (x : Answer). cts_of x.reply) (answers_in entries) number there in
    let e = from_found (λ (x : Entry). x.answer) entries a.0 a.1 in
    let supported : Supports work q down a.0 (e.0).trace =
    subst (λ (o : Option Answer). IfSome o (λ (x : Answer). Supports work q down x (e.0).trace)) e.2
    (all_in (λ (x : Entry). IfSome x.answer (λ (y : Answer). Supports work q down y x.trace)) e.0 entries kept.supported e.1) in
    let shown : number_in (e.0).trace ≡ cts_of (a.0).reply = number_shown work q down (e.0).trace supported.line (a.0).reply supported.reply in
    let draw = drew_it (e.0).trace.drew number (shown ∙ a.2) in
    let traced = all_in (λ (x : Entry). IsTraced q x.trace) e.0 entries kept.traced e.1 in
    let drawn : IsIn draw.0 q.trx.drew = subst (λ (o : Option Draw). IfSome o (λ (d : Draw). IsIn d q.trx.drew)) draw.1 traced.drew in
    subst (λ (k : ℕ). k ≤ newest q.trx) draw.2 (knows draw.0 drawn)

module _ {D : Type 0} (g : Ghosts D) (run : Run) where
  -- ---- one behind another

  pub GoesAlone-refl : (pr : PrimaryView D) (n : NodeView) → GoesAlone g run pr pr n n
  GoesAlone-refl pr n work entries s = ([], subst (λ (l : List Entry). StandsAlone g work run pr n l) (sym (append-nil entries)) s)

  pub GoesAlone-trans : (a b c : PrimaryView D) (n1 n2 n3 : NodeView) → GoesAlone g run a b n1 n2 → GoesAlone g run b c n2 n3 → GoesAlone g run a c n1 n3
  GoesAlone-trans a b c n1 n2 n3 first then_ work entries s =
      let on = first work entries s in
      let further = then_ work (entries ++ on.0) on.1 in
      (on.0 ++ further.0, subst (λ (l : List Entry). StandsAlone g work run c n3 l) (append_assoc entries on.0 further.0) further.1)

  pub stands_on : (old new : PrimaryView D) (before after : NodeView) → GoesAlone g run old new before after
      → StandsSomehow g run old before → StandsSomehow g run new after
  stands_on old new before after goes stands = let on = goes stands.0 stands.1 stands.2 in (stands.0, stands.1 ++ on.0, on.1)

  -- ---- a turn

  module _ (old new : PrimaryView D) (before after : NodeView) (session : Option ℕ) (turn : Turn) (takes : TakesTurn g run old new before after session turn) where
    pub has_only_on : HasOnly run old.number before → HasOnly run new.number after
    has_only_on h = record {
      its_run = takes.stands.desk.its_run;
      frames = takes.stands.desk.frames;
      alone = λ k apart.
          let other : k ≢ old.number = λ same. apart (same ∙ sym takes.number) in
          takes.went.others k other ∙ h.alone k other;
    }

    module _ (work : Work) (entries : List Entry) (s : StandsAlone g work run old before entries) where
      part : (q : CorePart) × (part_in before.parts old.number ≡ Some q) × IsNode q.trx.opening old.number
      part = held_part before old.number s.stands.desk.part

      next : (r : CorePart) × (part_in after.parts old.number ≡ Some r) × CoreExtends part.0 r
      next = takes.went.mine part.0 part.1

      goes : GoesOnBy g old new before after session entries turn
      goes = takes.goes_on entries s.agrees

      agreed : PrimaryAgrees g old entries part.0
      agreed = s.agrees part.0 part.1

      agrees : PrimaryAgrees g new (entries ++ goes.more) next.0
      agrees = goes.agrees next.0 (ap (part_in after.parts) takes.number ∙ next.1)

      -- a view that a new answer shows is above all that the part knew
      views_one : AddsOne goes.more → ViewsCover modes.Run work.base.ts (answers_in (entries ++ goes.more))
      views_one h =
          let adds : Adds old new h.answer = adds_its_answer old new entries goes.more h.entry h.answer agreed.answers agrees.answers h.one h.has in
          let knows = knows_drawn before s.stands.desk.reached old.number part.0 part.1 in
          subst (λ (l : List Entry). ViewsCover modes.Run work.base.ts (answers_in (entries ++ l))) (sym h.one)
          (subst (ViewsCover modes.Run work.base.ts) (sym (answers_one entries h.entry h.answer h.has))
          (each_below_one (λ over answer. IfShowsView answer (CoversAbove modes.Run work.base.ts over)) [] (answers_in entries) h.answer s.views
          (if_began (CoversAbove modes.Run work.base.ts (answers_in entries)) h.answer.reply (λ view shows.
          all_of (λ (number : ℕ). number ≤ view) (numbers (answers_in entries)) (λ number there.
          let known : number ≤ newest (part.0).trx = shown_known old.work part.0 old.down entries agreed.kept knows number there in
          let above : newest (part.0).trx ≤ view = (takes.begins h.answer view adds shows).0 part.0 part.1 in
          omega (arith, known, above))))))

      views_on : (goes.more ≡ []) ⊎ AddsOne goes.more → ViewsCover modes.Run work.base.ts (answers_in (entries ++ goes.more))
      views_on (inl none) =
          subst (λ (l : List Entry). ViewsCover modes.Run work.base.ts (answers_in l))
          (sym (append-nil entries) ∙ ap (λ (l : List Entry). entries ++ l) (sym none)) s.views
      views_on (inr h) = views_one h

      abbrev AllAnswered : List Entry → Type 0
      AllAnswered l = AllByRecursion (λ (e : Entry). is_some e.answer ≡ true) l

      answered_on : (goes.more ≡ []) ⊎ AddsOne goes.more → AllAnswered goes.more
      answered_on (inl none) = subst (λ (l : List Entry). AllAnswered l) (sym none) tt
      answered_on (inr h) = subst (λ (l : List Entry). AllAnswered l) (sym h.one) (ap (λ (o : Option Answer). is_some o) h.has, tt)

      added : (goes.more ≡ []) ⊎ AddsOne goes.more
      added = adds_one_or_none old new goes.more session turn goes.adds

      stands_behind : StandsAlone g work run new after (entries ++ goes.more)
      stands_behind = record {
        work_is = takes.work ∙ s.work_is;
        base = s.base;
        has_only = has_only_on s.has_only;
        stands = takes.stands;
        agrees = goes.agrees;
        told = takes.told;
        may_turn = λ number low. may_turn_on g old new run before after session turn takes number (s.may_turn number low);
        answered = all_append (λ (e : Entry). is_some e.answer ≡ true) entries goes.more s.answered (answered_on added);
        views = views_on added;
      }

    pub turn_alone : GoesAlone g run old new before after
    turn_alone work entries s = ((goes work entries s).more, stands_behind work entries s)

-- ---- telling that it is down

else_stays : (v : View CorePart) (p : ℕ) (f : CorePart → CorePart) (o : Option CorePart) (k : ℕ) → k ≢ p → part_in (changed_part v p f o) k ≡ part_in v k
else_stays v p f (Some q) k other = part_in-with_else v p k (f q) other
else_stays v p f None k other = refl

-- a primary that tells it has its own part alone
pub has_only_down : (run : Run) (p by : ℕ) (before after : NodeView) → after ≡ with_downs before p (goes_down_by by) 1
    → HasOnly run p before → HasOnly run p after
has_only_down run p by before after is h = subst (λ (n : NodeView). HasOnly run p n) (sym is) (record {
  its_run = h.its_run;
  frames = h.frames;
  alone = λ k other.
      else_stays before.parts p (λ q. record q { downs = goes_down_by by q.downs; ops = q.ops + 1 }) (part_in before.parts p) k other ∙ h.alone k other;
})
