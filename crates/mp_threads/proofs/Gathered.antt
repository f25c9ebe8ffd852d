-- The nodes of all threads are joined: then the members have come to their end, with the answers that each primary gave on its own.
use Rattle.std.proofs.Common.{◌≡◌, ◌≢◌, ℕ, zero, suc, ◌+◌, ◌-◌, ◌<◌, ◌≤◌, Bool, true, false, cond, List, [], ◌∷◌, ◌++◌, map, filter, length, slice_get, Option, None, Some, is_some, refl, sym, ap, subst, ◌∙◌, arith, eq-eqb, ne_eqb, append-nil}
use Rattle.std.specs.List.{AllByRecursion, list_any}
use Rattle.std.proofs.lemmas.Option.{slice_get_within}
use Rattle.mp_machine.specs.View.{part_in, either_part}
use Rattle.mp_machine.proofs.Views.{part_in-joined}
use Rattle.mp_model.specs.declared.transcripts.Mode.TheVariants as modes
use Rattle.mp_script.specs.Answers.{ViewsCover}
use Rattle.mp_script.specs.BeginNames.{begin_names}
use Rattle.mp_script.proofs.Lists.{all_append}
use Rattle.mp_script.proofs.Options.{some_is, not_some}
use Rattle.mp_core_trx.specs.Events.{IsNode}
use Rattle.mp_core_trx.specs.declared.opening.TrxOpening.{TrxOpening}
use Rattle.mp_core.specs.declared.part.CorePart.{CorePart}
use Rattle.mp_book.proofs.Items.{or_left, or_right}
use Rattle.mp_outside.specs.declared.disks.Disk.{Ghosts}
use Rattle.mp_files.proofs.Places.{at_place}
use Rattle.mp_shared.specs.Nodes.{Run, NodeView, Reached, HoldsAll, joined_nodes}
use Rattle.mp_shared.proofs.Holding.{held_part}
use Rattle.mp_supports.specs.Work.{Work}
use Rattle.mp_supports.specs.Kept.{Entry, answers_in}
use Rattle.mp_verdict.specs.Orders.{NodeEntry, entries_given, given_by}
use Rattle.mp_primary.specs.Primaries.{PrimaryView, PrimaryAgreesIn, StandsWith}
use Rattle.mp_members.specs.declared.members.Members.{Members}
use Rattle.mp_members.specs.Running.{IsThrough, AreThrough, IsMember, RunsApart}
use Rattle.mp_members.proofs.GivenEntries.{entry_at, is_at, by_append}
use Rattle.mp_threads.specs.declared.runner.Runner.{Runner}
use Rattle.mp_threads.specs.Threads.{HasOnly, StandsAlone, AllRanAlone}
use Rattle.mp_threads.specs.Dealing.{HasLeft, AllDealt, joined_runners}
use Rattle.mp_threads.proofs.SamePart.{stands_at, agrees_at, told_at}

-- ---- the answers of primaries, put one behind the other in the order of their numbers

abbrev given_from : ℕ → List (List Entry) → List NodeEntry
given_from n [] = []
given_from n (entries ∷ others) = map (entry_at n) entries ++ given_from (n + 1) others

by_itself : (n : ℕ) (entries : List Entry) → given_by n (map (entry_at n) entries) ≡ entries
by_itself n [] = refl
by_itself n (e ∷ entries) =
    ap (λ (b : Bool). entries_given (cond b (entry_at n e ∷ filter (is_at n) (map (entry_at n) entries)) (filter (is_at n) (map (entry_at n) entries))))
    (eq-eqb n n refl)
    ∙ ap (λ (l : List Entry). e ∷ l) (by_itself n entries)

by_another : (k n : ℕ) (entries : List Entry) → k ≢ n → given_by k (map (entry_at n) entries) ≡ []
by_another k n [] apart = refl
by_another k n (e ∷ entries) apart =
    ap (λ (b : Bool). entries_given (cond b (entry_at n e ∷ filter (is_at k) (map (entry_at n) entries)) (filter (is_at k) (map (entry_at n) entries))))
    (ne_eqb n k (λ same. apart (sym same)))
    ∙ by_another k n entries apart

given_below : (k n : ℕ) (others : List (List Entry)) → k < n → given_by k (given_from n others) ≡ []
given_below k n [] under = refl
given_below k n (entries ∷ others) under =
    by_append k (map (entry_at n) entries) (given_from (n + 1) others)
    ∙ ap (λ (l : List Entry). l ++ given_by k (given_from (n + 1) others)) (by_another k n entries (λ same. absurd (omega (arith, same, under))))
    ∙ given_below k (n + 1) others (omega (arith, under))

given_at : (n : ℕ) (others : List (List Entry)) (place k : ℕ) (entries : List Entry) → slice_get others place ≡ Some entries → k ≡ n + place
    → given_by k (given_from n others) ≡ entries
given_at n [] place k entries at is = absurd (not_some entries at)
given_at n (first ∷ others) zero k entries at is =
    let same : k ≡ n = omega (arith, is) in
    ap (λ (j : ℕ). given_by j (given_from n (first ∷ others))) same
    ∙ by_append n (map (entry_at n) first) (given_from (n + 1) others)
    ∙ ap (λ (l : List Entry). l ++ given_by n (given_from (n + 1) others)) (by_itself n first)
    ∙ ap (λ (l : List Entry). first ++ l) (given_below n (n + 1) others (omega arith))
    ∙ append-nil first ∙ some_is first entries at
given_at n (first ∷ others) (suc place) k entries at is =
    by_append k (map (entry_at n) first) (given_from (n + 1) others)
    ∙ ap (λ (l : List Entry). l ++ given_by k (given_from (n + 1) others)) (by_another k n first (λ same. absurd (omega (arith, is, same))))
    ∙ given_at (n + 1) others place k entries at (omega (arith, is))

-- what holds of each entry, and of the number of each primary, holds of all that were given
all_at : (P : NodeEntry → Type 0) (n : ℕ) (entries : List Entry) → AllByRecursion (λ (e : Entry). P (entry_at n e)) entries
    → AllByRecursion P (map (entry_at n) entries)
all_at P n [] all = tt
all_at P n (e ∷ entries) all = (all.0, all_at P n entries all.1)

each_at : (P : NodeEntry → Type 0) (n : ℕ) (entries : List Entry) → ((e : Entry) → P (entry_at n e)) → AllByRecursion P (map (entry_at n) entries)
each_at P n [] each = tt
each_at P n (e ∷ entries) each = (each e, each_at P n entries each)

nodes_from : (o : TrxOpening) (n : ℕ) (others : List (List Entry)) → 1 ≤ n → n + length others ≤ o.primaries + 1
    → AllByRecursion (λ (x : NodeEntry). IsNode o x.node) (given_from n others)
nodes_from o n [] low within = tt
nodes_from o n (first ∷ others) low within =
    all_append (λ (x : NodeEntry). IsNode o x.node) (map (entry_at n) first) (given_from (n + 1) others)
    (each_at (λ (x : NodeEntry). IsNode o x.node) n first (λ e. (low, omega (arith, within))))
    (nodes_from o (n + 1) others (omega arith) (omega (arith, within)))

-- ---- a node that took in the nodes of all threads

joined_run : (n : NodeView) (rs : List Runner) → (joined_runners n rs).run ≡ n.run
joined_run n [] = refl
joined_run n (r ∷ rs) = joined_run (joined_nodes n r.node) rs

joined_frames : (n : NodeView) (rs : List Runner) → (joined_runners n rs).frames ≡ n.frames
joined_frames n [] = refl
joined_frames n (r ∷ rs) = joined_frames (joined_nodes n r.node) rs

either_none : (o : Option CorePart) → either_part o None ≡ o
either_none None = refl
either_none (Some q) = refl

-- the runners of the primaries from one on: each has the part of its own alone
abbrev HaveOnly : Run → ℕ → List Runner → Type 0
HaveOnly run from [] = Unit {0}
HaveOnly run from (r ∷ rs) = HasOnly run from r.node × HaveOnly run (from + 1) rs

module _ (run : Run) where
  -- a join leaves the parts of others
  join_else : (n : NodeView) (r : Runner) (from p : ℕ) → HasOnly run from r.node → p ≢ from → part_in (joined_nodes n r.node).parts p ≡ part_in n.parts p
  join_else n r from p only other =
      part_in-joined n.parts r.node.parts p ∙ ap (λ (o : Option CorePart). either_part (part_in n.parts p) o) (only.alone p other)
      ∙ either_none (part_in n.parts p)

  parts_below : (n : NodeView) (rs : List Runner) (from p : ℕ) → HaveOnly run from rs → p < from
      → part_in (joined_runners n rs).parts p ≡ part_in n.parts p
  parts_below n [] from p only under = refl
  parts_below n (r ∷ rs) from p only under =
      parts_below (joined_nodes n r.node) rs (from + 1) p only.1 (omega (arith, under))
      ∙ join_else n r from p only.0 (λ same. absurd (omega (arith, same, under)))

  -- the part of each is that of its runner, where the node had none of these parts
  parts_at : (n : NodeView) (rs : List Runner) (from last place p : ℕ) (r : Runner) → HaveOnly run from rs
      → ((k : ℕ) → from ≤ k → k ≤ last → part_in n.parts k ≡ None)
      → slice_get rs place ≡ Some r → p ≡ from + place → p ≤ last → part_in (joined_runners n rs).parts p ≡ part_in r.node.parts p
  parts_at n [] from last place p r only none at is high = absurd (not_some r at)
  parts_at n (first ∷ rs) from last zero p r only none at is high =
      let same : p ≡ from = omega (arith, is) in
      parts_below (joined_nodes n first.node) rs (from + 1) p only.1 (omega (arith, same))
      ∙ part_in-joined n.parts first.node.parts p
      ∙ ap (λ (o : Option CorePart). either_part o (part_in first.node.parts p)) (none p (omega (arith, same)) high)
      ∙ ap (λ (x : Runner). part_in x.node.parts p) (some_is first r at)
  parts_at n (first ∷ rs) from last (suc place) p r only none at is high =
      parts_at (joined_nodes n first.node) rs (from + 1) last place p r only.1
      (λ k low under. join_else n first from k only.0 (λ same. absurd (omega (arith, same, low))) ∙ none k (omega (arith, low)) under)
      at (omega (arith, is)) high

-- ---- what each thread left

module _ {D : Type 0} (g : Ghosts D) (work : Work) (run : Run) where
  -- a primary came to its end on its own, with these answers
  record CameToEnd (number : ℕ) (pr : PrimaryView D) (r : Runner) (entries : List Entry) : Type 0 where
    pub number_is : pr.number ≡ number
    pub stands : StandsAlone g work run pr r.node entries
    pub through : IsThrough pr

  abbrev AllCame : ℕ → List (PrimaryView D) → List Runner → List (List Entry) → Type 0
  AllCame from [] [] [] = Unit {0}
  AllCame from (pr ∷ prs) (r ∷ rs) (entries ∷ others) = CameToEnd from pr r entries × AllCame (from + 1) prs rs others
  AllCame from _ _ _ = ⊥

  all_came : (from : ℕ) (olds news : List (PrimaryView D)) (befores afters : List Runner)
      → ((place : ℕ) (pr : PrimaryView D) → slice_get olds place ≡ Some pr → pr.number ≡ from + place)
      → AllDealt g work run olds befores → AllRanAlone g run olds news befores afters → list_any (λ r. r.short) afters ≡ false
      → (others : List (List Entry)) × AllCame from news afters others
  all_came from [] [] [] [] numbers dealt ran enough = ([], tt)
  all_came from (old ∷ olds) (new ∷ news) (before ∷ befores) (after ∷ afters) numbers dealt ran enough =
      let its = or_left after.short (list_any (λ r. r.short) afters) enough in
      let on = ran.0.on its work [] dealt.0 in
      let first : old.number ≡ from = let is = numbers zero old refl in omega (arith, is) in
      let rest = all_came (from + 1) olds news befores afters (λ place pr at. let is = numbers (suc place) pr at in omega (arith, is)) dealt.1 ran.1
      (or_right after.short (list_any (λ r. r.short) afters) enough) in
      (on.0 ∷ rest.0, (record { number_is = ran.0.same.number ∙ first; stands = on.1; through = ran.0.through its }, rest.1))
  all_came from olds news befores afters numbers dealt ran enough = absurd ran

  only_of : (from : ℕ) (prs : List (PrimaryView D)) (rs : List Runner) (others : List (List Entry)) → AllCame from prs rs others → HaveOnly run from rs
  only_of from [] [] [] all = tt
  only_of from (pr ∷ prs) (r ∷ rs) (entries ∷ others) all =
      (subst (λ (n : ℕ). HasOnly run n r.node) all.0.number_is all.0.stands.has_only, only_of (from + 1) prs rs others all.1)
  only_of from prs rs others all = absurd all

  as_many : (from : ℕ) (prs : List (PrimaryView D)) (rs : List Runner) (others : List (List Entry)) → AllCame from prs rs others → length others ≡ length prs
  as_many from [] [] [] all = refl
  as_many from (pr ∷ prs) (r ∷ rs) (entries ∷ others) all = ap suc (as_many (from + 1) prs rs others all.1)
  as_many from prs rs others all = absurd all

  answered_from : (from : ℕ) (prs : List (PrimaryView D)) (rs : List Runner) (others : List (List Entry)) → AllCame from prs rs others
      → AllByRecursion (λ (x : NodeEntry). is_some x.entry.answer ≡ true) (given_from from others)
  answered_from from [] [] [] all = tt
  answered_from from (pr ∷ prs) (r ∷ rs) (entries ∷ others) all =
      all_append (λ (x : NodeEntry). is_some x.entry.answer ≡ true) (map (entry_at from) entries) (given_from (from + 1) others)
      (all_at (λ (x : NodeEntry). is_some x.entry.answer ≡ true) from entries all.0.stands.answered)
      (answered_from (from + 1) prs rs others all.1)
  answered_from from prs rs others all = absurd all

  -- what the thread of the primary at a place left
  record CameThere (prs : List (PrimaryView D)) (rs : List Runner) (others : List (List Entry)) (place number : ℕ) (pr : PrimaryView D) : Type 0 where
    pub runner : Runner
    pub entries : List Entry
    pub its_runner : slice_get rs place ≡ Some runner
    pub its_entries : slice_get others place ≡ Some entries
    pub came : CameToEnd number pr runner entries

  came_there : (from : ℕ) (prs : List (PrimaryView D)) (rs : List Runner) (others : List (List Entry)) (place number : ℕ) (pr : PrimaryView D)
      → AllCame from prs rs others → slice_get prs place ≡ Some pr → number ≡ from + place → CameThere prs rs others place number pr
  came_there from [] [] [] place number pr all at is = absurd (not_some pr at)
  came_there from (first ∷ prs) (r ∷ rs) (entries ∷ others) zero number pr all at is =
      let same : from ≡ number = omega (arith, is) in
      record {
        runner = r;
        entries = entries;
        its_runner = refl;
        its_entries = refl;
        came = subst (λ (n : ℕ). CameToEnd n pr r entries) same (subst (λ (x : PrimaryView D). CameToEnd from x r entries) (some_is first pr at) all.0);
      }
  came_there from (first ∷ prs) (r ∷ rs) (entries ∷ others) (suc place) number pr all at is =
      let there = came_there (from + 1) prs rs others place number pr all.1 at (omega (arith, is)) in
      record { runner = there.runner; entries = there.entries; its_runner = there.its_runner; its_entries = there.its_entries; came = there.came }
  came_there from prs rs others place number pr all at is = absurd all

ran_as_many : {D : Type 0} (g : Ghosts D) (run : Run) (olds news : List (PrimaryView D)) (befores afters : List Runner)
    → AllRanAlone g run olds news befores afters → length news ≡ length olds
ran_as_many g run [] [] [] [] ran = refl
ran_as_many g run (old ∷ olds) (new ∷ news) (before ∷ befores) (after ∷ afters) ran = ap suc (ran_as_many g run olds news befores afters ran.1)
ran_as_many g run olds news befores afters ran = absurd ran

-- ---- the members at their end

module _ {D : Type 0} (g : Ghosts D) (work : Work) (old new : Members D) (rest : NodeView) (befores afters : List Runner) (r : RunsApart g work old [])
    (left : HasLeft old.node (length old.primaries.items) rest) (dealt : AllDealt g work old.shared old.primaries.items befores)
    (ran : AllRanAlone g old.shared old.primaries.items new.primaries.items befores afters) (enough : list_any (λ r. r.short) afters ≡ false)
    (shared : new.shared ≡ old.shared) (node_is : new.node ≡ joined_runners rest afters) (reached : Reached new.node) where
  came : (others : List (List Entry)) × AllCame g work old.shared 1 new.primaries.items afters others
  came =
      all_came g work old.shared 1 old.primaries.items new.primaries.items befores afters
      (λ place pr at. let is = (r.members.each place pr at).number in omega (arith, is)) dealt ran enough

  abbrev given : List NodeEntry
  given = given_from 1 came.0

  same_count : length new.primaries.items ≡ length old.primaries.items
  same_count = ran_as_many g old.shared old.primaries.items new.primaries.items befores afters ran

  its_run : new.node.run ≡ old.shared
  its_run = ap (λ (n : NodeView). n.run) node_is ∙ joined_run rest afters ∙ left.its_run ∙ r.members.run

  its_frames : new.node.frames ≡ []
  its_frames = ap (λ (n : NodeView). n.frames) node_is ∙ joined_frames rest afters ∙ left.frames

  module _ (place : ℕ) (pr : PrimaryView D) (at : slice_get new.primaries.items place ≡ Some pr) where
    there : CameThere g work old.shared new.primaries.items afters came.0 place (place + 1) pr
    there = came_there g work old.shared 1 new.primaries.items afters came.0 place (place + 1) pr came.1 at (omega arith)

    within : place + 1 ≤ length old.primaries.items
    within = let lt = slice_get_within new.primaries.items place pr at in let same = same_count in omega (arith, lt, same)

    same_part : part_in new.node.parts pr.number ≡ part_in there.runner.node.parts pr.number
    same_part =
        let is = there.came.number_is in
        let high = within in
        ap (λ (n : NodeView). part_in n.parts pr.number) node_is
        ∙ parts_at old.shared rest afters 1 (length old.primaries.items) place pr.number there.runner
        (only_of g work old.shared 1 new.primaries.items afters came.0 came.1) left.none there.its_runner (omega (arith, is)) (omega (arith, is, high))

    its_entries : given_by (place + 1) given ≡ there.entries
    its_entries = given_at 1 came.0 place (place + 1) there.entries there.its_entries (omega arith)

    member : IsMember g work new given (place + 1) pr
    member =
        let s = there.came.stands in
        let n = there.runner.node in
        record {
          number = there.came.number_is;
          work_is = s.work_is;
          stands = subst (λ (run : Run). StandsWith g run pr new.node) (sym shared)
              (stands_at g old.shared pr n new.node same_part its_run its_frames reached s.stands);
          agrees = subst (λ (l : List Entry). PrimaryAgreesIn g pr l new.node) (sym its_entries)
              (agrees_at g old.shared pr n new.node same_part there.entries s.agrees);
          told = told_at g old.shared pr n new.node same_part s.told;
          may_turn = s.may_turn;
        }

    part : (q : CorePart) × (part_in new.node.parts (place + 1) ≡ Some q)
    part =
        let held = held_part there.runner.node pr.number there.came.stands.stands.desk.part in
        (held.0, subst (λ (p : ℕ). part_in new.node.parts p ≡ Some held.0) there.came.number_is (same_part ∙ held.1))

    its_views : ViewsCover modes.Run work.base.ts (answers_in (given_by (place + 1) given))
    its_views = subst (λ (l : List Entry). ViewsCover modes.Run work.base.ts (answers_in l)) (sym its_entries) there.came.stands.views

  -- the place of a primary of the run
  place_of : (n : ℕ) → IsNode old.shared.opening.trx n
      → (place : ℕ) × (pr : PrimaryView D) × (slice_get new.primaries.items place ≡ Some pr) × (place + 1 ≡ n)
  place_of n node =
      let low = node.0 in
      let high = node.1 in
      let count = r.members.count in
      let same = same_count in
      let at = at_place new.primaries.items (n - 1) (omega (arith, low, high, count, same)) in
      (n - 1, at.0, at.1, omega (arith, low))

  holds_all : HoldsAll new.node
  holds_all n node =
      let x = place_of n (subst (λ (run : Run). IsNode run.opening.trx n) its_run node) in
      let has = part x.0 x.1 x.2 in
      (has.0, subst (λ (p : ℕ). part_in new.node.parts p ≡ Some has.0) x.3 has.1)

  pub ends_apart : (given : List NodeEntry) × RunsApart g work new given × AreThrough new
  ends_apart = (
    given,
    record {
      members = record {
        run = its_run ∙ sym shared;
        base = subst (λ (run : Run). run.opening.trx.base ≡ work.base) (sym shared) r.members.base;
        begins = subst (λ (run : Run). run.opening.trx.begins ≡ length (begin_names work.lines)) (sym shared) r.members.begins;
        holds = holds_all;
        reached = reached;
        frames = its_frames;
        count = same_count ∙ r.members.count ∙ ap (λ (run : Run). run.opening.trx.primaries) (sym shared);
        each = member;
        answered = answered_from g work old.shared 1 new.primaries.items afters came.0 came.1;
        of_nodes = subst (λ (run : Run). AllByRecursion (λ (x : NodeEntry). IsNode run.opening.trx x.node) given) (sym shared)
            (let many = as_many g work old.shared 1 new.primaries.items afters came.0 came.1 in
            let same = same_count in
            let count = r.members.count in
            nodes_from old.shared.opening.trx 1 came.0 (omega arith) (omega (arith, many, same, count)));
      };
      views = λ n node.
          let x = place_of n (subst (λ (run : Run). IsNode run.opening.trx n) shared node) in
          subst (λ (k : ℕ). ViewsCover modes.Run work.base.ts (answers_in (given_by k given))) x.3 (its_views x.0 x.1 x.2);
    },
    λ place pr at. (there place pr at).came.through,
  )
