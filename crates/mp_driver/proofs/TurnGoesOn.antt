-- A turn of one primary: the run goes on, with the answer that the turn gave, if it gave one.
use Rattle.std.proofs.Common.{◌≡◌, ◌≢◌, ℕ, ◌+◌, ◌-◌, ◌<◌, ◌==◌, Bool, true, List, [], ◌∷◌, ◌++◌, map, filter, length, slice_get, slice_set, Option, None, Some, is_some, if◌then◌else◌, refl, sym, ap, subst, ◌∙◌, inl, inr, arith, eq-eqb, ne_eqb, append-nil, length-append}
use Rattle.std.specs.List.{filter_map, AllByRecursion}
use Rattle.std.specs.Option.{IfSome}
use Rattle.std.proofs.lemmas.Bool.{cases_eq}
use Rattle.std.proofs.lemmas.List.{length-reverse, length-set}
use Rattle.std.proofs.lemmas.List.Elements.{filter_map-append}
use Rattle.std.proofs.lemmas.Option.{slice_get_within}
use Rattle.mp_machine.specs.Lists.{IsIn, total}
use Rattle.mp_machine.specs.View.{part_in}
use Rattle.mp_model.specs.Folded.{AscendsFrom}
use Rattle.mp_model.specs.declared.replies.Answer.{Answer}
use Rattle.mp_model.specs.declared.transcripts.Mode.TheVariants.{Step}
use Rattle.mp_model.specs.declared.waiting.Turn.{Turn}
use Rattle.mp_cells.specs.declared.records.Mtr.{Mtr}
use Rattle.mp_script.specs.Answers.{ViewsCover}
use Rattle.mp_script.specs.Below.{numbers, greatest_cts}
use Rattle.mp_script.specs.BeginNames.{begin_names}
use Rattle.mp_script.specs.Numbered.{IfShowsView, CoversAbove}
use Rattle.mp_script.specs.Transactions.{cts_of}
use Rattle.mp_script.proofs.Lists.{all_append, greatest_more}
use Rattle.mp_script.proofs.Ordered.{in_right, in_map, in_filter, from_found, all_in}
use Rattle.mp_core_trx.specs.declared.part.Draw.{Draw}
use Rattle.mp_core_trx.specs.Events.{IsNode}
use Rattle.mp_core_trx.specs.Parts.{drawn_by}
use Rattle.mp_core_pages.specs.declared.part.Placed.{Placed}
use Rattle.mp_core.specs.declared.part.CorePart.{CorePart}
use Rattle.mp_core.specs.CoreExtends.{CoreExtends}
use Rattle.mp_core.specs.OwnMtrs.{TrxMtr, trx_mtrs}
use Rattle.mp_book.proofs.Items.{each_below_one, after_set}
use Rattle.mp_outside.specs.declared.disks.Disk.{Ghosts}
use Rattle.mp_files.proofs.Places.{at_place}
use Rattle.mp_shared.specs.Nodes.{Run, NodeView, HoldsAll}
use Rattle.mp_trx_fusion.specs.Calls.{trx_in, tso_of}
use Rattle.mp_supports.specs.Work.{Work}
use Rattle.mp_supports.specs.Supports.{Supports}
use Rattle.mp_supports.specs.Kept.{Entry, answers_in, IsTraced}
use Rattle.mp_supports.proofs.Extending.{placed_of}
use Rattle.mp_verdict.specs.Orders.{NodeEntry, entries_given, given_by}
use Rattle.mp_primary.specs.Primaries.{PrimaryView, PrimaryAgrees, PrimaryAgreesIn, StandsWith}
use Rattle.mp_primary.specs.Turns.{MayTakeTurn, Adds, IsLeftAfter, GoesOnBy, TakesTurn}
use Rattle.mp_primary.proofs.StandsBeside.{stands_beside}
use Rattle.mp_members.specs.declared.members.Members.{Members}
use Rattle.mp_members.specs.Running.{IsMember, Runs}
use Rattle.mp_members.proofs.Turns.{may_turn_on}
use Rattle.mp_driver.specs.Driving.{number_answering}
use Rattle.mp_members.proofs.Appended.{total_more, ascend_one, found_one, found_none}
use Rattle.mp_members.proofs.ShownDraws.{count_of, drawn_as_shown, if_began}
use Rattle.mp_members.proofs.GivenEntries.{entry_at, by_here, by_other, entries_one, nodes_one, answers_one, adds_its_answer, AddsOne, adds_one_or_none}

-- The primary at a place took a turn
pub record TookTurn {D : Type 0} (g : Ghosts D) (place : ℕ) (session : Option ℕ) (old new : Members D) (turn : Turn) : Type 0 where
  pub before : PrimaryView D
  pub after : PrimaryView D
  pub was : slice_get old.primaries.items place ≡ Some before
  pub takes : TakesTurn g old.shared before after old.node new.node session turn
  pub shared : new.shared ≡ old.shared
  pub primaries : new.primaries.items ≡ slice_set old.primaries.items place after
  pub order : new.order.items ≡ old.order.items ++ number_answering before after

module _ {D : Type 0} (g : Ghosts D) (work : Work) (given : List NodeEntry) (old : Members D) (r : Runs g work old given) where
  is_node : (place : ℕ) → place < length old.primaries.items → IsNode old.shared.opening.trx (place + 1)
  is_node place lt = let count = r.members.count in (omega arith, omega (arith, lt, count))

  part_of : (n : ℕ) → IsNode old.shared.opening.trx n → (q : CorePart) × (part_in old.node.parts n ≡ Some q)
  part_of n node = r.members.holds n (subst (λ (run : Run). IsNode run.opening.trx n) (sym r.members.run) node)

  -- each mtr of what was given is in a part
  given_made : (x : NodeEntry) (m : TrxMtr) → IsIn x given → x.entry.trace.mtr ≡ Some m
      → (k : ℕ) × (q : CorePart) × (y : Placed Mtr) × (part_in old.node.parts k ≡ Some q) × IsIn y q.pages.made × (y.at ≡ m.at)
  given_made x m there is =
      let node = all_in (λ (y : NodeEntry). IsNode old.shared.opening.trx y.node) x given r.members.of_nodes there in
      let low = node.0 in
      let high = node.1 in
      let count = r.members.count in
      let at = at_place old.primaries.items (x.node - 1) (omega (arith, low, high, count)) in
      let is_number : (x.node - 1) + 1 ≡ x.node = omega (arith, low) in
      let member : IsMember g work old given x.node at.0 = subst (λ (n : ℕ). IsMember g work old given n at.0) is_number (r.members.each (x.node - 1) at.0 at.1) in
      let q = part_of x.node node in
      let kept = (member.agrees q.0 (ap (part_in old.node.parts) member.number ∙ q.1)).kept in
      let mine : IsIn x.entry (given_by x.node given) =
      in_map (λ (y : NodeEntry). y.entry) x (filter (λ (y : NodeEntry). y.node == x.node) given)
      (in_filter (λ (y : NodeEntry). y.node == x.node) x given there (eq-eqb x.node x.node refl)) in
      let traced = all_in (λ (e : Entry). IsTraced q.0 e.trace) x.entry (given_by x.node given) kept.traced mine in
      let made : IsIn m (trx_mtrs (q.0).pages.made) = subst (λ (o : Option TrxMtr). IfSome o (λ (k : TrxMtr). IsIn k (trx_mtrs (q.0).pages.made))) is traced.mtr in
      let placed = placed_of (q.0).pages.made m made in
      (x.node, q.0, placed.0, q.1, placed.1, placed.2)

  module _ (place : ℕ) (session : Option ℕ) (turn : Turn) (new : Members D) (t : TookTurn g place session old new turn) where
    below : place < length old.primaries.items
    below = slice_get_within old.primaries.items place t.before t.was

    node : IsNode old.shared.opening.trx (place + 1)
    node = is_node place below

    member : IsMember g work old given (place + 1) t.before
    member = r.members.each place t.before t.was

    abbrev its_entries : List Entry
    its_entries = given_by (place + 1) given

    -- its part, before and after
    part : (q : CorePart) × (part_in old.node.parts (place + 1) ≡ Some q)
    part = part_of (place + 1) node

    part_is : part_in old.node.parts t.before.number ≡ Some part.0
    part_is = ap (part_in old.node.parts) member.number ∙ part.1

    next : (s : CorePart) × (part_in new.node.parts t.before.number ≡ Some s) × CoreExtends part.0 s
    next = t.takes.went.mine part.0 part_is

    next_is : part_in new.node.parts t.after.number ≡ Some next.0
    next_is = ap (part_in new.node.parts) t.takes.number ∙ next.1

    goes : GoesOnBy g t.before t.after old.node new.node session its_entries turn
    goes = t.takes.goes_on its_entries member.agrees

    agreed : PrimaryAgrees g t.before its_entries part.0
    agreed = member.agrees part.0 part_is

    agrees : PrimaryAgrees g t.after (its_entries ++ goes.more) next.0
    agrees = goes.agrees next.0 next_is

    -- ---- the timestamp oracle

    drawn_more : length (next.0).trx.drew ≡ length (part.0).trx.drew + length (filter_map (λ (e : Entry). e.trace.drew) goes.more)
    drawn_more =
        let then_ : length (filter_map (λ (e : Entry). e.trace.drew) (its_entries ++ goes.more)) ≡ length (next.0).trx.drew =
        ap (λ (l : List Draw). length l) agrees.kept.drew ∙ length-reverse (next.0).trx.drew in
        let first : length (filter_map (λ (e : Entry). e.trace.drew) its_entries) ≡ length (part.0).trx.drew =
        ap (λ (l : List Draw). length l) agreed.kept.drew ∙ length-reverse (part.0).trx.drew in
        let both : length (filter_map (λ (e : Entry). e.trace.drew) (its_entries ++ goes.more))
        ≡ length (filter_map (λ (e : Entry). e.trace.drew) its_entries) + length (filter_map (λ (e : Entry). e.trace.drew) goes.more) =
        ap (λ (l : List Draw). length l) (filter_map-append (λ (e : Entry). e.trace.drew) its_entries goes.more)
        ∙ length-append (filter_map (λ (e : Entry). e.trace.drew) its_entries) (filter_map (λ (e : Entry). e.trace.drew) goes.more) in
        omega (arith, then_, first, both)

    abbrev drawn_in : NodeView → ℕ → ℕ
    drawn_in n k = drawn_by (trx_in (part_in n.parts k))

    clock_on : (more : ℕ) → length (next.0).trx.drew ≡ length (part.0).trx.drew + more → tso_of new.node ≡ tso_of old.node + more
    clock_on more grew =
        let high = node.1 in
        let number = member.number in
        let same_run : old.node.run.opening.trx.primaries ≡ old.shared.opening.trx.primaries = ap (λ (run : Run). run.opening.trx.primaries) r.members.run in
        let now : drawn_in new.node t.before.number ≡ length (next.0).trx.drew = ap (λ (o : Option CorePart). drawn_by (trx_in o)) next.1 in
        let then_ : drawn_in old.node t.before.number ≡ length (part.0).trx.drew = ap (λ (o : Option CorePart). drawn_by (trx_in o)) part_is in
        let all : total (drawn_in new.node) (old.node.run.opening.trx.primaries + 1) ≡ total (drawn_in old.node) (old.node.run.opening.trx.primaries + 1) + more =
        total_more (drawn_in old.node) (drawn_in new.node) t.before.number more (old.node.run.opening.trx.primaries + 1) (omega (arith, high, number, same_run))
        (λ k apart. ap (λ (o : Option CorePart). drawn_by (trx_in o)) (t.takes.went.others k apart))
        (omega (arith, now, then_, grew)) in
        let by_run : tso_of new.node ≡ old.node.run.opening.trx.base.ts + total (drawn_in new.node) (old.node.run.opening.trx.primaries + 1) =
        ap (λ (run : Run). run.opening.trx.base.ts + total (drawn_in new.node) (run.opening.trx.primaries + 1)) t.takes.went.run in
        by_run ∙ omega (arith, all)

    -- ---- the answers

    answers_were : answers_in its_entries ≡ t.before.book.answers.items
    answers_were = agreed.answers

    answers_are : answers_in (its_entries ++ goes.more) ≡ t.after.book.answers.items
    answers_are = agrees.answers

    -- ---- each member

    may_turn : (number : ℕ) → number < 65 → MayTakeTurn t.after number
    may_turn number low = may_turn_on g t.before t.after old.shared old.node new.node session turn t.takes number (member.may_turn number low)

    module _ (more : List NodeEntry) (here : given_by (place + 1) more ≡ its_entries ++ goes.more) (apart : (k : ℕ) → k ≢ place + 1 → given_by k more ≡ given_by k given) where
      itself : IsMember g work new more (place + 1) t.after
      itself = record {
        number = t.takes.number ∙ member.number;
        work_is = t.takes.work ∙ member.work_is;
        stands = subst (λ (run : Run). StandsWith g run t.after new.node) (sym t.shared) t.takes.stands;
        agrees = subst (λ (l : List Entry). PrimaryAgreesIn g t.after l new.node) (sym here) goes.agrees;
        told = t.takes.told;
        may_turn = may_turn;
      }

      another : (k : ℕ) (pr : PrimaryView D) → slice_get old.primaries.items k ≡ Some pr → place ≢ k → IsMember g work new more (k + 1) pr
      another k pr is ne =
          let m = r.members.each k pr is in
          let number = m.number in
          let its_number = member.number in
          let differs : pr.number ≢ t.before.number = λ same. ne (omega (arith, number, its_number, same)) in
          let no_other : k + 1 ≢ place + 1 = λ same. ne (omega (arith, same)) in
          record {
            number = m.number;
            work_is = m.work_is;
            stands = subst (λ (run : Run). StandsWith g run pr new.node) (sym t.shared)
                (stands_beside g old.shared t.before t.after pr old.node new.node session turn t.takes differs m.stands);
            agrees = λ q has. subst (λ (l : List Entry). PrimaryAgrees g pr l q) (sym (apart (k + 1) no_other)) (m.agrees q (sym (t.takes.went.others pr.number differs) ∙ has));
            told = λ q has. m.told q (sym (t.takes.went.others pr.number differs) ∙ has);
            may_turn = m.may_turn;
          }

      each_on : (k : ℕ) (pr : PrimaryView D) → slice_get new.primaries.items k ≡ Some pr → IsMember g work new more (k + 1) pr
      each_on k pr is = elim (after_set old.primaries.items place t.after k pr (subst (λ (l : List (PrimaryView D)). slice_get l k ≡ Some pr) t.primaries is)) [
        | inl h ↦ subst (λ (j : ℕ). IsMember g work new more (j + 1) pr) h.0 (subst (λ (p : PrimaryView D). IsMember g work new more (place + 1) p) (sym h.1) itself)
        | inr e ↦ another k pr e.stood e.other
      ]

      holds_all : HoldsAll new.node
      holds_all k is_there = elim (cases_eq k t.before.number) [
        | inl same ↦ (next.0, ap (part_in new.node.parts) same ∙ next.1)
        | inr other ↦
            let has = r.members.holds k (subst (λ (run : Run). IsNode run.opening.trx k) t.takes.went.run is_there) in
            (has.0, t.takes.went.others k other ∙ has.1)
      ]

      goes_with : new.order.items ≡ map (λ (x : NodeEntry). x.node) more → AllByRecursion (λ (x : NodeEntry). is_some x.entry.answer ≡ true) more
          → AllByRecursion (λ (x : NodeEntry). IsNode old.shared.opening.trx x.node) more
          → AscendsFrom (λ (m : TrxMtr). m.at) 0 (filter_map (λ (x : NodeEntry). x.entry.trace.mtr) more)
          → ViewsCover Step work.base.ts (answers_in (entries_given more))
          → tso_of new.node ≡ work.base.ts + length (numbers (answers_in (entries_given more)))
          → greatest_cts work.base.ts (numbers (answers_in (entries_given more))) ≡ tso_of new.node
          → Runs g work new more
      goes_with order answered of_nodes rising views clock greatest = record {
        members = record {
          run = t.takes.stands.desk.its_run ∙ sym t.shared;
          base = subst (λ (run : Run). run.opening.trx.base ≡ work.base) (sym t.shared) r.members.base;
          begins = subst (λ (run : Run). run.opening.trx.begins ≡ length (begin_names work.lines)) (sym t.shared) r.members.begins;
          holds = holds_all;
          reached = t.takes.stands.desk.reached;
          frames = t.takes.stands.desk.frames;
          count = ap (λ (l : List (PrimaryView D)). length l) t.primaries ∙ length-set old.primaries.items place t.after ∙ r.members.count ∙ ap (λ (run : Run). run.opening.trx.primaries) (sym t.shared);
          each = each_on;
          answered = answered;
          of_nodes = subst (λ (run : Run). AllByRecursion (λ (x : NodeEntry). IsNode run.opening.trx x.node) more) (sym t.shared) of_nodes;
        };
        order = order;
        rising = rising;
        views = views;
        clock = clock;
        greatest = greatest;
      }

    -- ---- nothing was added

    module _ (none : goes.more ≡ []) where
      same_answers : t.after.book.answers.items ≡ t.before.book.answers.items
      same_answers = sym answers_are ∙ ap (λ (l : List Entry). answers_in (its_entries ++ l)) none ∙ ap (λ (l : List Entry). answers_in l) (append-nil its_entries) ∙ answers_were

      same_order : new.order.items ≡ old.order.items
      same_order =
          let count : length t.after.book.answers.items ≡ length t.before.book.answers.items = ap (λ (l : List Answer). length l) same_answers in
          let no_number : number_answering t.before t.after ≡ [] = ap (λ (b : Bool). if b then [] else t.after.number ∷ []) (eq-eqb (length t.after.book.answers.items) (length t.before.book.answers.items) count) in
          t.order ∙ ap (λ (l : List ℕ). old.order.items ++ l) no_number ∙ append-nil old.order.items

      same_clock : tso_of new.node ≡ tso_of old.node
      same_clock =
          let no_draw : length (filter_map (λ (e : Entry). e.trace.drew) goes.more) ≡ 0 = ap (λ (l : List Entry). length (filter_map (λ (e : Entry). e.trace.drew) l)) none in
          let on = clock_on 0 (let more = drawn_more in omega (arith, more, no_draw)) in
          omega (arith, on)

      goes_without : Runs g work new given
      goes_without =
          goes_with given (sym (append-nil its_entries) ∙ ap (λ (l : List Entry). its_entries ++ l) (sym none)) (λ k apart. refl)
          (same_order ∙ r.order) r.members.answered r.members.of_nodes r.rising r.views (same_clock ∙ r.clock) (r.greatest ∙ sym same_clock)

    -- ---- an answer was added

    module _ (h : AddsOne goes.more) where
      abbrev its_entry : NodeEntry
      its_entry = entry_at (place + 1) h.entry

      abbrev with_it : List NodeEntry
      with_it = given ++ its_entry ∷ []

      abbrev all_answers : List Answer
      all_answers = answers_in (entries_given given)

      adds : Adds t.before t.after h.answer
      adds = adds_its_answer t.before t.after its_entries goes.more h.entry h.answer answers_were answers_are h.one h.has

      answers_then : answers_in (entries_given with_it) ≡ all_answers ++ h.answer ∷ []
      answers_then = ap (λ (l : List Entry). answers_in l) (entries_one given (place + 1) h.entry) ∙ answers_one (entries_given given) h.entry h.answer h.has

      order_then : new.order.items ≡ map (λ (x : NodeEntry). x.node) with_it
      order_then =
          let count : length t.after.book.answers.items ≡ length t.before.book.answers.items + 1 = ap (λ (l : List Answer). length l) adds ∙ length-append t.before.book.answers.items (h.answer ∷ []) in
          let a_number : number_answering t.before t.after ≡ t.after.number ∷ [] =
          ap (λ (b : Bool). if b then [] else t.after.number ∷ []) (ne_eqb (length t.after.book.answers.items) (length t.before.book.answers.items) (λ same. absurd (omega (arith, count, same)))) in
          let its_number : t.after.number ≡ place + 1 = t.takes.number ∙ member.number in
          t.order ∙ ap (λ (l : List ℕ). old.order.items ++ l) (a_number ∙ ap (λ (n : ℕ). n ∷ []) its_number)
          ∙ ap (λ (l : List ℕ). l ++ (place + 1) ∷ []) r.order
          ∙ sym (nodes_one given (place + 1) h.entry)

      answered_then : AllByRecursion (λ (x : NodeEntry). is_some x.entry.answer ≡ true) with_it
      answered_then = all_append (λ (x : NodeEntry). is_some x.entry.answer ≡ true) given (its_entry ∷ []) r.members.answered (ap (λ (o : Option Answer). is_some o) h.has, tt)

      nodes_then : AllByRecursion (λ (x : NodeEntry). IsNode old.shared.opening.trx x.node) with_it
      nodes_then = all_append (λ (x : NodeEntry). IsNode old.shared.opening.trx x.node) given (its_entry ∷ []) r.members.of_nodes (node, tt)

      -- its mtr was made after all others
      made_after : (m : TrxMtr) → h.entry.trace.mtr ≡ Some m → (y : TrxMtr) → IsIn y (filter_map (λ (x : NodeEntry). x.entry.trace.mtr) given) → y.at < m.at
      made_after m is y there =
          let x = from_found (λ (z : NodeEntry). z.entry.trace.mtr) given y there in
          let made = given_made x.0 y x.1 x.2 in
          let later : IsLeftAfter old.node h.entry = (subst (λ (l : List Entry). AllByRecursion (IsLeftAfter old.node) l) h.one goes.later).0 in
          let above = subst (λ (o : Option TrxMtr). IfSome o (λ (k : TrxMtr). (n : ℕ) (q : CorePart) (z : Placed Mtr) → part_in old.node.parts n ≡ Some q → IsIn z q.pages.made → z.at < k.at)) is later in
          let under : (made.2).at < m.at = above made.0 made.1 made.2 made.3 made.4 in
          let at : (made.2).at ≡ y.at = made.5 in
          omega (arith, under, at)

      rising_then : AscendsFrom (λ (m : TrxMtr). m.at) 0 (filter_map (λ (x : NodeEntry). x.entry.trace.mtr) with_it)
      rising_then = by_mtr h.entry.trace.mtr refl
        where
          by_mtr : (o : Option TrxMtr) → h.entry.trace.mtr ≡ o → AscendsFrom (λ (m : TrxMtr). m.at) 0 (filter_map (λ (x : NodeEntry). x.entry.trace.mtr) with_it)
          by_mtr None is = subst (AscendsFrom (λ (m : TrxMtr). m.at) 0) (sym (found_none (λ (x : NodeEntry). x.entry.trace.mtr) given its_entry is)) r.rising
          by_mtr (Some m) is =
              subst (AscendsFrom (λ (m : TrxMtr). m.at) 0) (sym (found_one (λ (x : NodeEntry). x.entry.trace.mtr) given its_entry m is))
              (ascend_one (λ (m : TrxMtr). m.at) 0 (filter_map (λ (x : NodeEntry). x.entry.trace.mtr) given) m r.rising (omega arith) (made_after m is))

      views_then : ViewsCover Step work.base.ts (answers_in (entries_given with_it))
      views_then =
          subst (ViewsCover Step work.base.ts) (sym answers_then)
          (each_below_one (λ over answer. IfShowsView answer (CoversAbove Step work.base.ts over)) [] all_answers h.answer r.views
          (if_began (CoversAbove Step work.base.ts all_answers) h.answer.reply (λ view shows. (t.takes.begins h.answer view adds shows).1 r.members.holds ∙ sym r.greatest)))

      -- the answer shows a number exactly where the part drew one
      supported : Supports t.after.work next.0 t.after.down h.answer h.entry.trace
      supported =
          let listed : IsIn h.entry (its_entries ++ goes.more) = in_right h.entry its_entries goes.more (subst (IsIn h.entry) (sym h.one) (inl refl)) in
          subst (λ (o : Option Answer). IfSome o (λ (a : Answer). Supports t.after.work next.0 t.after.down a h.entry.trace)) h.has
          (all_in (λ (e : Entry). IfSome e.answer (λ (a : Answer). Supports t.after.work next.0 t.after.down a e.trace)) h.entry (its_entries ++ goes.more) agrees.kept.supported listed)

      clock_more : tso_of new.node ≡ tso_of old.node + count_of (cts_of h.answer.reply)
      clock_more =
          let drew : length (filter_map (λ (e : Entry). e.trace.drew) goes.more) ≡ count_of h.entry.trace.drew = ap (λ (l : List Entry). length (filter_map (λ (e : Entry). e.trace.drew) l)) h.one in
          let shown : count_of h.entry.trace.drew ≡ count_of (cts_of h.answer.reply) =
          drawn_as_shown t.after.work next.0 t.after.down h.entry.trace supported.line h.answer.reply supported.reply in
          let more = drawn_more in
          clock_on (count_of (cts_of h.answer.reply)) (omega (arith, more, drew, shown))

      numbers_end : (o : Option ℕ) → cts_of h.answer.reply ≡ o
          → (tso_of new.node ≡ work.base.ts + length (numbers (answers_in (entries_given with_it)))) × (greatest_cts work.base.ts (numbers (answers_in (entries_given with_it))) ≡ tso_of new.node)
      numbers_end None is =
          let same : numbers (answers_in (entries_given with_it)) ≡ numbers all_answers = ap (λ (l : List Answer). numbers l) answers_then ∙ found_none (λ (a : Answer). cts_of a.reply) all_answers h.answer is in
          let more = clock_more in
          let none : count_of (cts_of h.answer.reply) ≡ 0 = ap (λ (o : Option ℕ). count_of o) is in
          let still : tso_of new.node ≡ tso_of old.node = omega (arith, more, none) in
          (still ∙ r.clock ∙ ap (λ (l : List ℕ). work.base.ts + length l) (sym same), ap (greatest_cts work.base.ts) same ∙ r.greatest ∙ sym still)
      numbers_end (Some cts) is =
          let then_ : numbers (answers_in (entries_given with_it)) ≡ numbers all_answers ++ cts ∷ [] = ap (λ (l : List Answer). numbers l) answers_then ∙ found_one (λ (a : Answer). cts_of a.reply) all_answers h.answer cts is in
          let more = clock_more in
          let one : count_of (cts_of h.answer.reply) ≡ 1 = ap (λ (o : Option ℕ). count_of o) is in
          let count : length (numbers (answers_in (entries_given with_it))) ≡ length (numbers all_answers) + 1 = ap (λ (l : List ℕ). length l) then_ ∙ length-append (numbers all_answers) (cts ∷ []) in
          let clock = r.clock in
          let next_one : cts ≡ tso_of old.node + 1 = (t.takes.draws h.answer cts adds is).1 r.members.holds in
          let greatest = r.greatest in
          let last : greatest_cts work.base.ts (numbers all_answers ++ cts ∷ []) ≡ cts = greatest_more work.base.ts (numbers all_answers) cts (omega (arith, greatest, next_one)) in
          (omega (arith, more, one, count, clock), ap (greatest_cts work.base.ts) then_ ∙ last ∙ omega (arith, next_one, more, one))

      goes_one : Runs g work new with_it
      goes_one =
          let end = numbers_end (cts_of h.answer.reply) refl in
          goes_with with_it (by_here (place + 1) given h.entry ∙ ap (λ (l : List Entry). its_entries ++ l) (sym h.one)) (λ k apart. by_other (place + 1) given h.entry k apart)
          order_then answered_then nodes_then rising_then views_then end.0 end.1

    pub turn_goes_on : (more : List NodeEntry) × Runs g work new (given ++ more)
    turn_goes_on = elim (adds_one_or_none t.before t.after goes.more session turn goes.adds) [
      | inl none ↦ ([], subst (λ (l : List NodeEntry). Runs g work new l) (sym (append-nil given)) (goes_without none))
      | inr h ↦ (entry_at (place + 1) h.entry ∷ [], goes_one h)
    ]
