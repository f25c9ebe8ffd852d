-- The walk from the root to the leaf of a key, page by page, over what the buffers show.
use Rattle.std.proofs.Common.{◌≡◌, ◌≢◌, ℕ, zero, suc, ◌+◌, ◌<◌, ◌≤◌, List, [], Option, None, Some, refl, sym, ap, subst, ◌∙◌, arith}
use mathlib.Core.Logic.{dite}
use native.Mathlib.Decide.{ℕ_discrete}
use Rattle.mp_cells.specs.declared.children.Child.{Child}
use Rattle.mp_cells.specs.declared.kinds.Kind.{Kind}
use Rattle.mp_cells.specs.declared.kinds.Kind.TheVariants.{Leaf}
use Rattle.mp_cells.specs.PageView.{PageView, IsPage, HasContent}
use Rattle.mp_cells.specs.Trees.{PageMap, top, IsTree, child_at, leaf_at, root, height_of}
use Rattle.mp_cells.proofs.TreeSearch.{tree_found}
use Rattle.mp_plans.specs.Fitting.{IsLeafOf}
use Rattle.mp_facts.specs.Facts.{pages_now}
use Rattle.mp_page.specs.Pagers.{Extends}
use Rattle.mp_tree.specs.declared.search.Look.TheVariants as looks
use Rattle.mp_tree.specs.Searches.{Looks}
use Rattle.mp_tree.proofs.Descent.{Reached, begins, goes_on, stops, not_lost, not_deep, leaf_at-more}
use Rattle.mp_shared.specs.Nodes.{Run, NodeView}
use Rattle.mp_shared.proofs.Holding.{held_part}
use Rattle.mp_buffer_fusion.specs.declared.buffer.Buffer.{Buffer}
use Rattle.mp_buffer_fusion.specs.Buffers.{buffer_of, IsBuffered}
use Rattle.mp_desk.specs.declared.desk.Desk.{Desk}
use Rattle.mp_desk.specs.Desks.{IsAtDesk, KeepsDesk, IsWayTo, shown_by}
use Rattle.mp_desk.proofs.ReachedFacts.{known_world, known_tree, shown_buffer, buffer_shown, world_shows}

-- A tree that has what the buffers show
pub record ShownTree (pool : List Buffer) : Type 0 where
  pub pages : PageMap
  pub height : ℕ
  pub has : Extends pages (shown_by pool)
  pub tree : IsTree pages height

-- there is one while the primary is at its desk
pub shown_tree : (run : Run) (desk : Desk) (p : ℕ) (n : NodeView) → IsAtDesk run desk p n → ShownTree desk.pool
shown_tree run desk p n at =
    let known = known_world n at.reached in
    let has = held_part n p at.part in
    record {
      pages = pages_now n.run.opening known.world;
      height = height_of (pages_now n.run.opening known.world);
      has = world_shows n p has.0 has.1 desk.pool (at.agrees has.0 has.1).pool known.world known.facts known.agrees;
      tree = known_tree n known;
    }

-- more buffers show no less
pub shows_before : (old new : Desk) → KeepsDesk old new → (pages : PageMap) → Extends pages (shown_by new.pool) → Extends pages (shown_by old.pool)
shows_before old new kept pages e k page shown =
    let was = buffer_shown old.pool k page shown in
    let now = kept.buffers k was.0 was.1 in
    e k page (shown_buffer new.pool k now.0 now.1 ∙ ap Some (now.2 ∙ was.2))

some_buffer : (o : Option Buffer) → o ≢ None → (b : Buffer) × (o ≡ Some b)
some_buffer None lacks = absurd (lacks refl)
some_buffer (Some b) lacks = (b, refl)

pub the_buffer : (pool : List Buffer) (k : ℕ) → IsBuffered pool k → (b : Buffer) × (buffer_of pool k ≡ Some b)
the_buffer pool k h = some_buffer (buffer_of pool k) h

pub is_buffered : (pool : List Buffer) (k : ℕ) (b : Buffer) → buffer_of pool k ≡ Some b → IsBuffered pool k
is_buffered pool k b is none = let both : None ≡ Some b = sym none ∙ is in absurd cc

pub buffered_on : (old new : Desk) → KeepsDesk old new → (k : ℕ) → IsBuffered old.pool k → IsBuffered new.pool k
buffered_on old new kept k h =
    let was = the_buffer old.pool k h in
    let now = kept.buffers k was.0 was.1 in
    is_buffered new.pool k now.0 now.1

-- The walk for a key came so many levels down, to this page, and has a buffer for each page above it
pub record Walked (pool : List Buffer) (key depth number : ℕ) : Type 0 where
  pub range : number < 4096
  pub on_path : (pages : PageMap) → Extends pages (shown_by pool) → number ≡ (leaf_at pages depth key root).page
  pub passed : (pages : PageMap) → Extends pages (shown_by pool) → (d : ℕ) → d < depth → IsBuffered pool (leaf_at pages d key root).page
  pub reached : (pages : PageMap) → Extends pages (shown_by pool) → (height : ℕ) → IsTree pages height → Reached pages height key depth number

pub walk_begins : (pool : List Buffer) (key : ℕ) → key < top → Walked pool key 0 1
walk_begins pool key lt = record {
  range = omega arith;
  on_path = λ pages e. refl;
  passed = λ pages e d below. absurd (omega (arith, below));
  reached = λ pages e height tree. begins pages height key tree lt;
}

pub walk_kept : (old new : Desk) → KeepsDesk old new → (key depth number : ℕ) → Walked old.pool key depth number → Walked new.pool key depth number
walk_kept old new kept key depth number h = record {
  range = h.range;
  on_path = λ pages e. h.on_path pages (shows_before old new kept pages e);
  passed = λ pages e d below. buffered_on old new kept (leaf_at pages d key root).page (h.passed pages (shows_before old new kept pages e) d below);
  reached = λ pages e. h.reached pages (shows_before old new kept pages e);
}

-- a leaf has no children
no_children : (page : PageView) → IsPage page → page.kind ≡ Leaf → page.children ≡ []
no_children page h leaf = by_kind (subst (λ (k : Kind). HasContent k page) leaf h.content)
  where
    by_kind : HasContent Leaf page → page.children ≡ []
    by_kind c = ap (λ (p : PageView). p.children) c.0

-- below a page without children the walk begins again at the root, so each page on the path is one of the first ones
pub path_again : (pages : PageMap) (key depth : ℕ) → (pages (leaf_at pages depth key root).page).children ≡ [] → (d : ℕ) → (e : ℕ) × (e ≤ depth) × (leaf_at pages d key root ≡ leaf_at pages e key root)
path_again pages key depth none zero = (zero, omega arith, refl)
path_again pages key depth none (suc d) =
    let above = path_again pages key depth none d in
    let next : leaf_at pages (suc d) key root ≡ child_at key (pages (leaf_at pages above.0 key root).page).children =
    leaf_at-more pages d key root ∙ ap (λ (c : Child). child_at key (pages c.page).children) above.2 in
    let within = above.1 in
    dite (ℕ_discrete above.0 depth)
    (λ last. (
      zero,
      omega arith,
      next ∙ ap (λ (e : ℕ). child_at key (pages (leaf_at pages e key root).page).children) last ∙ ap (child_at key) none,
    ))
    (λ before. (suc above.0, omega (arith, within, before), next ∙ sym (leaf_at-more pages above.0 key root)))

module _ (pool : List Buffer) (key depth number : ℕ) (walked : Walked pool key depth number) (b : Buffer) (is : buffer_of pool number ≡ Some b) where
  here : (pages : PageMap) → Extends pages (shown_by pool) → pages number ≡ b.page
  here pages e = e number b.page (shown_buffer pool number b is)

  -- one level further down
  pub walk_below : (child : ℕ) → Looks key b.page (looks.Below child) → Walked pool key (depth + 1) child
  walk_below child look =
      let found : (pages : PageMap) → Extends pages (shown_by pool) → (child_at key (pages number).children).page ≡ child =
      λ pages e. ap (λ (p : PageView). (child_at key p.children).page) (here pages e) ∙ sym look.1 in
      let level : depth + 1 ≡ suc depth = omega arith in
      record {
        range = look.2;
        on_path = λ pages e.
            sym (found pages e) ∙ ap (λ (n : ℕ). (child_at key (pages n).children).page) (walked.on_path pages e)
            ∙ ap (λ (c : Child). c.page) (sym (leaf_at-more pages depth key root)) ∙ ap (λ (d : ℕ). (leaf_at pages d key root).page) (sym level);
        passed = λ pages e d below.
            dite (ℕ_discrete d depth)
            (λ last. subst (IsBuffered pool) (walked.on_path pages e ∙ ap (λ (j : ℕ). (leaf_at pages j key root).page) (sym last)) (is_buffered pool number b is))
            (λ before. walked.passed pages e d (omega (arith, below, before)));
        reached = λ pages e height tree.
            let next = goes_on pages height key tree depth number (walked.reached pages e height tree) (ap (λ (p : PageView). p.kind) (here pages e) ∙ look.0) in
            subst (Reached pages height key (depth + 1)) (found pages e) next;
      }

  -- the end
  module _ (page : IsPage b.page) (kind : b.page.kind ≡ Leaf) where
    pub walk_ends : IsWayTo pool key number
    walk_ends = record {
      end = λ pages e height tree. stops pages height key tree depth number (walked.reached pages e height tree) (ap (λ (p : PageView). p.kind) (here pages e) ∙ kind);
      on_way = λ pages e height tree n on.
          let at = walked.on_path pages e in
          let none : (pages (leaf_at pages depth key root).page).children ≡ [] = ap (λ (m : ℕ). (pages m).children) (sym at) ∙ ap (λ (p : PageView). p.children) (here pages e) ∙ no_children b.page page kind in
          let again = path_again pages key depth none on.0 in
          let same : n ≡ (leaf_at pages again.0 key root).page = on.2 ∙ ap (λ (c : Child). c.page) again.2 in
          let within = again.1 in
          subst (IsBuffered pool) (sym same)
          (dite (ℕ_discrete again.0 depth)
          (λ last. subst (IsBuffered pool) (at ∙ ap (λ (j : ℕ). (leaf_at pages j key root).page) (sym last)) (is_buffered pool number b is))
          (λ before. walked.passed pages e again.0 (omega (arith, within, before))));
    }

    pub walk_leaf : ShownTree pool → key < top → IsLeafOf key b.page
    walk_leaf t lt =
        let number_is = stops t.pages t.height key t.tree depth number (walked.reached t.pages t.has t.height t.tree) (ap (λ (p : PageView). p.kind) (here t.pages t.has) ∙ kind) in
        let found = tree_found t.pages t.height key t.tree lt in
        let page_is : t.pages (leaf_at t.pages t.height key root).page ≡ b.page = ap t.pages (sym number_is) ∙ here t.pages t.has in
        record {
          kind = kind;
          from = subst (λ (p : PageView). p.low ≤ key) page_is found.from;
          until = subst (λ (p : PageView). key < p.high) page_is found.until;
        }

  pub walk_not_lost : ShownTree pool → Looks key b.page looks.Lost → ⊥
  walk_not_lost t look =
      let same = here t.pages t.has in
      not_lost t.pages t.height key t.tree depth number (walked.reached t.pages t.has t.height t.tree)
      (λ leaf. look.0 (sym (ap (λ (p : PageView). p.kind) same) ∙ leaf))
      (λ inner. look.1 (sym (ap (λ (p : PageView). p.kind) same) ∙ inner))

pub walk_not_deep : (pool : List Buffer) (key number : ℕ) → Walked pool key 3 number → ShownTree pool → ⊥
walk_not_deep pool key number walked t = not_deep t.pages t.height key t.tree number (walked.reached t.pages t.has t.height t.tree)
