-- A primary's mtrs are fewer than a run may have, while it has an open transaction that drew nothing.
use Rattle.std.proofs.Common.{◌≡◌, ℕ, zero, suc, ◌+◌, ◌<◌, ◌≤◌, ◌==◌, ◌&&◌, Bool, true, false, List, [], ◌∷◌, ◌++◌, length, map, filter, sum_by, slice_get, Option, None, Some, refl, sym, ap, subst, ◌∙◌, inl, inr, ⊎_elim, arith, eq-eqb}
use Rattle.std.proofs.lemmas.Bool.{cases_Bool, eqb-true, and_parts}
use Rattle.std.proofs.lemmas.List.{length-map}
use Rattle.std.proofs.lemmas.List.Sums.{count_by-le-length, length-filter}
use Rattle.mp_machine.specs.Lists.{IsIn, AllDiffer}
use Rattle.mp_machine.specs.View.{part_in}
use Rattle.mp_model.specs.declared.replies.Answer.{Answer}
use Rattle.mp_script.specs.declared.statements.Line.{Line}
use Rattle.mp_script.specs.declared.statements.SessionOn.{SessionOn}
use Rattle.mp_script.specs.Below.{EachBelow, answered}
use Rattle.mp_script.specs.BeginNames.{begin_names, name_of_line}
use Rattle.mp_script.specs.Execution.{line_at}
use Rattle.mp_script.specs.Transactions.{begins, line_place}
use Rattle.mp_core_trx.specs.declared.opening.TrxOpening.{TrxOpening}
use Rattle.mp_core_trx.specs.declared.part.Begun.{Begun}
use Rattle.mp_core_trx.specs.declared.part.Draw.{Draw}
use Rattle.mp_core_trx.specs.Parts.{draw_of, begun_of, HasBegun, HasDrawnNothing}
use Rattle.mp_core_trx.specs.World.{begun_in}
use Rattle.mp_core_trx.proofs.Bounds.{length_in_range, few_drawn}
use Rattle.mp_core_trx.proofs.Ids.{same_id}
use Rattle.mp_core_pages.specs.declared.opening.TheConstants.{MOST_MTRS}
use Rattle.mp_core.specs.declared.part.CorePart.{CorePart}
use Rattle.mp_book.specs.declared.session.Session.{Session}
use Rattle.mp_book.specs.declared.stage.Stage.TheVariants.{Open}
use Rattle.mp_book.specs.Answered.{IsPlaced}
use Rattle.mp_book.specs.Orderly.{session_lines, IsOrderly}
use Rattle.mp_book.proofs.OwnLines.{found_at}
use Rattle.mp_outside.specs.declared.disks.Disk.{Ghosts}
use Rattle.mp_shared.specs.Nodes.{Run, NodeView}
use Rattle.mp_trx_fusion.proofs.Callers.{drew_nothing}
use Rattle.mp_buffer_fusion.proofs.Visiting.{one_part}
use Rattle.mp_supports.specs.Agreement.{is_of_write, rows_left}
use Rattle.mp_desk.proofs.ReachedFacts.{KnownWorld, known_world}
use Rattle.mp_primary.specs.Primaries.{PrimaryView, StandsWith}
use Rattle.mp_primary.specs.Turns.{IsSessionOf}
use Rattle.mp_primary.proofs.OpenTrx.{open_part, open_has, open_node, opened, is_active}

-- ---- statements and their places in the script

no_item : {X : Type 0} (x : X) → ◌≡◌ {A = Option X} None (Some x) → ⊥
no_item x e = cc

same_item : {X : Type 0} (x y : X) → Some x ≡ Some y → x ≡ y
same_item x y e = cc

mapped_at : {X Y : Type 0} (f : X → Y) (xs : List X) (k : ℕ) (y : Y) → slice_get (map f xs) k ≡ Some y → (x : X) × (slice_get xs k ≡ Some x) × (f x ≡ y)
mapped_at f [] k y is = absurd (no_item y is)
mapped_at f (x ∷ xs) zero y is = (x, refl, same_item (f x) y is)
mapped_at f (x ∷ xs) (suc k) y is = mapped_at f xs k y is

abbrev is_line : Line → ℕ → ℕ → Bool
is_line x session index = x.session == session && x.index == index

line_is : (x : Line) (session index : ℕ) → is_line x session index ≡ true → (x.session ≡ session) × (x.index ≡ index)
line_is x session index e = let both = and_parts (x.session == session) (x.index == index) e in (eqb-true x.session session both.0, eqb-true x.index index both.1)

place_here : (x : Line) (xs : List Line) (session index : ℕ) → is_line x session index ≡ true → line_place (x ∷ xs) session index ≡ 0
place_here x xs session index e = rw e refl

place_past : (x : Line) (xs : List Line) (session index : ℕ) → is_line x session index ≡ false → line_place (x ∷ xs) session index ≡ line_place xs session index + 1
place_past x xs session index e = rw e refl

found_past : (x : Line) (xs : List Line) (session index : ℕ) (l : Line) → is_line x session index ≡ false → line_at (x ∷ xs) session index ≡ Some l → line_at xs session index ≡ Some l
found_past x xs session index l e found = rw e at found

place_within : (lines : List Line) (session index : ℕ) (l : Line) → line_at lines session index ≡ Some l → line_place lines session index < length lines
place_within [] session index l found = absurd (no_item l found)
place_within (x ∷ xs) session index l found =
    ⊎_elim
    (λ yes. let at = place_here x xs session index yes in omega (arith, at))
    (λ no. let at = place_past x xs session index no in let rest = place_within xs session index l (found_past x xs session index l no found) in omega (arith, at, rest))
    (cases_Bool (is_line x session index))

-- two statements at one place are one
place_same : (lines : List Line) (s i t j : ℕ) (a b : Line) → line_at lines s i ≡ Some a → line_at lines t j ≡ Some b → line_place lines s i ≡ line_place lines t j → (s ≡ t) × (i ≡ j)
place_same [] s i t j a b one other e = absurd (no_item a one)
place_same (x ∷ xs) s i t j a b one other e =
    ⊎_elim
    (λ p. ⊎_elim
    (λ r. let first = line_is x s i p in let second = line_is x t j r in (sym first.0 ∙ second.0, sym first.1 ∙ second.1))
    (λ r. let here = place_here x xs s i p in let past = place_past x xs t j r in absurd (omega (arith, here, past, e)))
    (cases_Bool (is_line x t j)))
    (λ p. ⊎_elim
    (λ r. let past = place_past x xs s i p in let here = place_here x xs t j r in absurd (omega (arith, here, past, e)))
    (λ r.
    let first = place_past x xs s i p in
    let second = place_past x xs t j r in
    place_same xs s i t j a b (found_past x xs s i a p one) (found_past x xs t j b r other) (omega (arith, first, second, e)))
    (cases_Bool (is_line x t j)))
    (cases_Bool (is_line x s i))

-- ---- answers are no more than statements

answered_more : (session : ℕ) (above : List Answer) (x : Answer) → length (answered session above) ≤ length (answered session (above ++ x ∷ []))
answered_more session [] x = omega arith
answered_more session (a ∷ above) x = go (a.session == session) refl (answered_more session above x)
  where
    go : (b : Bool) → (a.session == session) ≡ b → length (answered session above) ≤ length (answered session (above ++ x ∷ [])) → length (answered session (a ∷ above)) ≤ length (answered session (a ∷ above ++ x ∷ []))
    go true e rest = rw e (omega (arith, rest))
    go false e rest = rw e rest

answered_own : (session : ℕ) (above : List Answer) (x : Answer) → x.session ≡ session → length (answered session (above ++ x ∷ [])) ≡ suc (length (answered session above))
answered_own session [] x own = rw (eq-eqb x.session session own) refl
answered_own session (a ∷ above) x own = go (a.session == session) refl (answered_own session above x own)
  where
    go : (b : Bool) → (a.session == session) ≡ b → length (answered session (above ++ x ∷ [])) ≡ suc (length (answered session above)) → length (answered session (a ∷ above ++ x ∷ [])) ≡ suc (length (answered session (a ∷ above)))
    go true e rest = rw e (omega (arith, rest))
    go false e rest = rw e rest

module _ (lines : List Line) (sessions : List SessionOn) (primary : ℕ) (orderly : IsOrderly lines) where
  index_is : (above : List Answer) (a : Answer) → IsPlaced lines sessions primary above a → a.index ≡ suc (length (answered a.session above))
  index_is above a p =
      let k = length (answered a.session above) in
      let m = mapped_at (λ (l : Line). l.index) (session_lines a.session lines) k a.index p.next.next in
      let here = found_at a.session lines 0 false k m.0 (orderly a.session) m.1 in
      let at : m.0.index ≡ 0 + suc k = here.index_is in
      let same = m.2 in
      omega (arith, at, same)

  from_here : (above items : List Answer) → EachBelow (IsPlaced lines sessions primary) above items → (y : Answer) → IsIn y items → suc (length (answered y.session above)) ≤ y.index
  from_here above [] each y there = absurd there
  from_here above (x ∷ items) each y (inl same) =
      let is = index_is above x each.0 in
      subst (λ (z : Answer). suc (length (answered z.session above)) ≤ z.index) (sym same) (omega (arith, is))
  from_here above (x ∷ items) each y (inr there) =
      let rest = from_here (above ++ x ∷ []) items each.1 y there in
      let more = answered_more y.session above x in
      omega (arith, rest, more)

  found_of : (above items : List Answer) → EachBelow (IsPlaced lines sessions primary) above items → (y : Answer) → IsIn y items → (l : Line) × (line_at lines y.session y.index ≡ Some l)
  found_of above [] each y there = absurd there
  found_of above (x ∷ items) each y (inl same) = subst (λ (z : Answer). (l : Line) × (line_at lines z.session z.index ≡ Some l)) (sym same) (each.0.line, each.0.found)
  found_of above (x ∷ items) each y (inr there) = found_of (above ++ x ∷ []) items each.1 y there

  abbrev place : Answer → ℕ
  place a = suc (line_place lines a.session a.index)

  differ : (above items : List Answer) → EachBelow (IsPlaced lines sessions primary) above items → AllDiffer place items
  differ above [] each = tt
  differ above (x ∷ items) each = (apart, differ (above ++ x ∷ []) items each.1)
    where
      apart : (y : Answer) → IsIn y items → ¬ (place y ≡ place x)
      apart y there same =
          let found = found_of (above ++ x ∷ []) items each.1 y there in
          let places : line_place lines y.session y.index ≡ line_place lines x.session x.index = omega (arith, same) in
          let is = place_same lines y.session y.index x.session x.index found.0 each.0.line found.1 each.0.found places in
          let later = from_here (above ++ x ∷ []) items each.1 y there in
          let own = answered_own y.session above x (sym is.0) in
          let at : x.index ≡ suc (length (answered y.session above)) = index_is above x each.0 ∙ ap (λ (k : ℕ). suc (length (answered k above))) (sym is.0) in
          let index = is.1 in
          absurd (omega (arith, later, own, at, index))

  pub few_answers : (items : List Answer) → EachBelow (IsPlaced lines sessions primary) [] items → length items ≤ length lines
  few_answers items each =
      length_in_range place 0 (length lines) items (differ [] items each)
      (λ y there. let found = found_of [] items each y there in let within = place_within lines y.session y.index found.0 found.1 in (omega arith, omega (arith, within)))

few_begins : (lines : List Line) → length (begin_names lines) ≤ length lines
few_begins lines =
    let named : length (begin_names lines) ≡ length (filter (λ (line : Line). begins (Some line.stmt)) lines) = length-map (filter (λ (line : Line). begins (Some line.stmt)) lines) name_of_line in
    let kept = length-filter (λ (line : Line). begins (Some line.stmt)) lines in
    let count = count_by-le-length (λ (line : Line). begins (Some line.stmt)) lines in
    omega (arith, named, kept, count)

-- ---- mtrs

module _ {D : Type 0} (g : Ghosts D) (run : Run) (pr : PrimaryView D) (n : NodeView) (stands : StandsWith g run pr n) (up : pr.down ≡ 0) where
  abbrev q : CorePart
  q = open_part g run pr n stands up

  abbrev has : part_in n.parts pr.number ≡ Some q
  has = open_has g run pr n stands up

  abbrev known : KnownWorld n
  known = known_world n stands.desk.reached

  -- as many as two for each statement, and one for each timestamp
  mtrs_by_draws : (length q.pages.made + sum_by rows_left pr.book.sessions.items ≤ 20000 + length q.trx.drew) × (q.trx.opening.begins ≤ 10000)
  mtrs_by_draws =
      let was = stands.agrees.1 q has in
      let most = was.bounds.mtrs in
      let writes = count_by-le-length (is_of_write pr.work.lines) pr.book.answers.items in
      let answers = few_answers pr.work.lines pr.work.sessions pr.number stands.primary.book.orderly pr.book.answers.items stands.primary.book.placed in
      let few = was.bounds.few in
      let exact = was.exact in
      let lines = few_begins pr.work.lines in
      (omega (arith, most, writes, answers, few), omega (arith, exact, lines, few))

  module _ (number : ℕ) (trx : Begun) (s : Session) (found : IsSessionOf pr number s) (stage : s.stage ≡ Open trx) where
    -- who is open has drawn nothing, so that a draw is left
    draws : length q.trx.drew < q.trx.opening.begins
    draws =
        let o = n.run.opening.trx in
        let w = known.world.trx in
        let inv = known.facts.inv.trx in
        let is = known.agrees pr.number q has in
        let begun_now = (opened g run pr n stands up number trx s found stage).begun in
        let begun_there : HasBegun (w.part pr.number).begun trx.id = subst (λ (r : CorePart). HasBegun r.trx.begun trx.id) (sym is) (trx.view, begun_now) in
        let nothing = drew_nothing n pr.number trx.id stands.desk.reached (q, has, ((open_node g run pr n stands up, ((trx.view, begun_now), is_active g run pr n stands up number trx s found stage)), tt)) in
        let nothing_there : HasDrawnNothing (w.part pr.number).drew trx.id = subst (λ (r : CorePart). HasDrawnNothing r.trx.drew trx.id) (sym is) nothing in
        let new : (d : Draw) → IsIn d (w.part pr.number).drew → ¬ (d.id.version ≡ trx.id.version) = λ d there same.
        let other = inv.drawers.had_begun pr.number d there in
        let one = same_id o (begun_in w) inv.ids pr.number d.id trx.id other begun_there same in
        nothing_there d.cts (subst (λ i. IsIn (draw_of i d.cts) (w.part pr.number).drew) one there) in
        let range : (d : Draw) → IsIn d (draw_of trx.id 0 ∷ (w.part pr.number).drew) → (o.base.version < d.id.version) × (d.id.version ≤ o.base.version + o.begins) = λ d there.
        ⊎_elim
        (λ (same : d ≡ draw_of trx.id 0). subst (λ (x : Draw). (o.base.version < x.id.version) × (x.id.version ≤ o.base.version + o.begins)) (sym same) (inv.ids.versions pr.number (begun_of trx.id begun_there.0) begun_there.1))
        (λ (old : IsIn d (w.part pr.number).drew). let b = inv.drawers.had_begun pr.number d old in inv.ids.versions pr.number (begun_of d.id b.0) b.1)
        there in
        let all = length_in_range (λ (d : Draw). d.id.version) o.base.version o.begins (draw_of trx.id 0 ∷ (w.part pr.number).drew) (new, inv.drawers.once pr.number) range in
        let count : length (w.part pr.number).drew ≡ length q.trx.drew = ap (λ (r : CorePart). length r.trx.drew) is in
        let begins_same : o.begins ≡ q.trx.opening.begins = ap (λ (t : TrxOpening). t.begins) (sym (inv.carried pr.number)) ∙ ap (λ (r : CorePart). r.trx.opening.begins) is in
        omega (arith, all, count, begins_same)

    -- an mtr more may be made, also with all that may be put back
    pub few_with_rows : length q.pages.made + sum_by rows_left pr.book.sessions.items < 30000
    few_with_rows = let most = mtrs_by_draws.0 in let begins_few = mtrs_by_draws.1 in let fewer = draws in omega (arith, most, begins_few, fewer)

    pub few_mtrs : (r : CorePart) → part_in n.parts pr.number ≡ Some r → length r.pages.made < MOST_MTRS
    few_mtrs r there = subst (λ (x : CorePart). length x.pages.made < 30000) (one_part (part_in n.parts pr.number) q r has there) (let all = few_with_rows in omega (arith, all))

  -- all that is to be put back has room, whoever puts it back
  pub most_with_rows : length q.pages.made + sum_by rows_left pr.book.sessions.items ≤ MOST_MTRS
  most_with_rows =
      let most = mtrs_by_draws.0 in
      let begins_few = mtrs_by_draws.1 in
      let drawn = few_drawn n.run.opening.trx known.world.trx known.facts.inv.trx pr.number in
      let is = known.agrees pr.number q has in
      let count : length (known.world.trx.part pr.number).drew ≡ length q.trx.drew = ap (λ (r : CorePart). length r.trx.drew) is in
      let begins_same : n.run.opening.trx.begins ≡ q.trx.opening.begins = ap (λ (t : TrxOpening). t.begins) (sym (known.facts.inv.trx.carried pr.number)) ∙ ap (λ (r : CorePart). r.trx.opening.begins) is in
      omega (arith, most, begins_few, drawn, count, begins_same)
