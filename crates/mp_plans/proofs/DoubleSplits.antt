-- A leaf is split and its parent too: the parent first, then the leaf under the part that takes it. The plan has them in
-- another order, which is the same page by page.
use Rattle.mp_plans.specs.Fitting.{IsLeafOf}
use Rattle.mp_cells.specs.Mtrs.{IsChange}
use Rattle.mp_cells.specs.Writes.{IsStep}
use Rattle.std.specs.List.{AllByRecursion}
use Rattle.std.proofs.Common.{◌≡◌, ◌≢◌, ℕ, suc, ◌+◌, ◌<◌, ◌≤◌, ◌==◌, List, [], ◌∷◌, ◌++◌, length, take, drop, Some, sym, ap, subst, ◌∙◌, inr, arith}
use Rattle.mp_cells.specs.declared.changes.Change.{Change}
use Rattle.mp_cells.specs.declared.changes.Change.TheVariants.{MakeLeaf, MakeInner, Cut}
use Rattle.mp_cells.specs.declared.kinds.Kind.TheVariants.{Blank, Leaf, Inner, Undo}
use Rattle.mp_cells.specs.declared.children.Child.{Child}
use Rattle.mp_cells.specs.PageView.{PageView}
use Rattle.mp_cells.specs.Changes.{applied}
use Rattle.mp_cells.specs.Trees.{PageMap, top, uses, one_if}
use Rattle.mp_cells.specs.Plans.{Plan, after_plan}
use Rattle.mp_plans.specs.Growth.{leaf_separator, inner_separator, leaf_parts, inner_parts, root_inner_parts, two_children, side, put_child, has_place}
use Rattle.mp_cells.proofs.Uses.{one_if-same}
use Rattle.mp_cells.proofs.Heights.{numbers}
use Rattle.mp_cells.proofs.Spare.{TreeWith, kind_apart}
use Rattle.mp_plans.proofs.Reshaping.{Reshapes, reshapes_then, after_plan-append}
use Rattle.mp_plans.proofs.SplitPieces.{split_piece}
use Rattle.mp_plans.proofs.Parts.{leaf_halves, inner_halves, inner_cut, inner_left, inner_right, root_piece, root_fences}
use Rattle.mp_plans.proofs.Reorders.{Same, same_then, move_two, swap_last, same_after, reshapes_same}
use Rattle.mp_plans.proofs.Growths.{Grown, leaf_grown, stays_under, child_not_root}

-- a part before, and the same changes in another order
grown_after : (spare spare' : List ℕ) (p q : Plan) (mid : PageMap) (height height' key target : ℕ) → Reshapes spare spare' p mid height height' → ((n : ℕ) → (mid n).kind ≡ Undo → after_plan p mid n ≡ mid n) → Grown spare' q (after_plan p mid) height' key target → Grown spare (p ++ q) mid height key target
grown_after spare spare' p q mid height height' key target first kept g =
    let all = after_plan-append p q mid in
    record {
      new_height = g.new_height;
      shape = reshapes_then spare spare' [] p q mid height height' g.new_height first g.shape;
      range = g.range;
      kind = ap (λ (m : PageMap). (m target).kind) all ∙ g.kind;
      from = subst (λ (m : PageMap). (m target).low ≤ key) (sym all) g.from;
      until = subst (λ (m : PageMap). key < (m target).high) (sym all) g.until;
      place = ap (λ (m : PageMap). has_place key (m target)) all ∙ g.place;
      undo = λ n e. ap (λ (m : PageMap). m n) all ∙ g.undo n (ap (λ (q : PageView). q.kind) (kept n e) ∙ e) ∙ kept n e;
    }

grown_same : (spare : List ℕ) (p q : Plan) (mid : PageMap) (height key target : ℕ) → Same p q → AllByRecursion IsStep p → Grown spare q mid height key target → Grown spare p mid height key target
grown_same spare p q mid height key target e changes g =
    let all = same_after p q mid e in
    record {
      new_height = g.new_height;
      shape = reshapes_same spare [] p q mid height g.new_height e changes g.shape;
      range = g.range;
      kind = ap (λ (m : PageMap). (m target).kind) all ∙ g.kind;
      from = subst (λ (m : PageMap). (m target).low ≤ key) (sym all) g.from;
      until = subst (λ (m : PageMap). key < (m target).high) (sym all) g.until;
      place = ap (λ (m : PageMap). has_place key (m target)) all ∙ g.place;
      undo = λ n x. ap (λ (m : PageMap). m n) all ∙ g.undo n x;
    }

-- a page that can be the parent of a new leaf beside m
record CanTake (pages : PageMap) (m t : ℕ) : Type 0 where
  range : t < 4096
  kind : (pages t).kind ≡ Inner
  has : 1 ≤ uses m (numbers (pages t).children)
  room : length (pages t).children < 124
  not_root : t ≢ 1

pub inner_grown : (spare : List ℕ) (mid : PageMap) (height key m p a b : ℕ) → TreeWith spare mid height → m < 4096 → p < 4096 → a < 4096 → b < 4096 → a ≢ b → IsLeafOf key (mid m) → length (mid m).rows ≡ 15
    → ((n : ℕ) → uses n spare ≡ one_if (a == n) + one_if (b == n))
    → (mid p).kind ≡ Inner → 1 ≤ uses m (numbers (mid p).children) → length (mid p).children ≡ 124
    → (mid 1).kind ≡ Inner → 1 ≤ uses p (numbers (mid 1).children) → length (mid 1).children < 124
    → Grown spare (leaf_parts (mid m) m a ++ inner_parts (mid p) p b ++ put_child (side (leaf_separator (mid m)) (inner_separator (mid p)) p b) (leaf_separator (mid m)) a ∷ put_child 1 (inner_separator (mid p)) b ∷ []) mid height key (side key (leaf_separator (mid m)) m a)
inner_grown spare mid height key m p a b tree range_m range_p range_a range_b a_b leaf full counts inner has full_p root_inner has_p room =
    let sep_l = leaf_separator (mid m) in
    let sep_i = inner_separator (mid p) in
    let t = side sep_l sep_i p b in
    let halves = leaf_halves (mid m) (tree.sound m range_m) leaf.kind full in
    let parts = inner_halves (mid p) (tree.sound p range_p) inner full_p in
    let blank_a : (mid a).kind ≡ Blank = tree.unused a range_a (omega (arith, counts a, one_if-same a)) in
    let blank_b : (mid b).kind ≡ Blank = tree.unused b range_b (omega (arith, counts b, one_if-same b)) in
    let not_1 : p ≢ 1 = λ (e : p ≡ 1). absurd (omega (arith, e, child_not_root (mid 1) p (tree.sound 1 (omega arith)) root_inner has_p)) in
    let b_1 : b ≢ 1 = kind_apart mid b 1 Blank Inner blank_b root_inner (λ (e : Blank ≡ Inner). absurd cc) in
    let m_b : m ≢ b = kind_apart mid m b Leaf Blank leaf.kind blank_b (λ (e : Leaf ≡ Blank). absurd cc) in
    let m_p : m ≢ p = kind_apart mid m p Leaf Inner leaf.kind inner (λ (e : Leaf ≡ Inner). absurd cc) in
    let m_1 : m ≢ 1 = kind_apart mid m 1 Leaf Inner leaf.kind root_inner (λ (e : Leaf ≡ Inner). absurd cc) in
    let a_p : a ≢ p = kind_apart mid a p Blank Inner blank_a inner (λ (e : Blank ≡ Inner). absurd cc) in
    let a_1 : a ≢ 1 = kind_apart mid a 1 Blank Inner blank_a root_inner (λ (e : Blank ≡ Inner). absurd cc) in
    let make : Change = MakeInner sep_i (mid p).high (drop 62 (mid p).children) in
    let first : Plan = (b, make) ∷ (p, Cut sep_i) ∷ put_child 1 sep_i b ∷ [] in
    let piece = split_piece spare (a ∷ []) mid height p 1 b sep_i make (inner_cut (mid p)) (inner_right (mid p) (mid b)) parts.right_change tree (inr inner) range_p (omega arith) range_b (λ n. omega (arith, counts n)) root_inner has_p room (parts.makes_right (mid b) blank_b) parts.cuts (parts.parts_cut (mid b) (tree.sound b range_b) blank_b) in
    let next = after_plan first mid in
    let same : next m ≡ mid m = piece.others m m_b m_p m_1 in
    let at_left : 1 ≤ uses m (numbers (take 62 (mid p).children)) → CanTake next m p = λ h. record {
      range = range_p;
      kind = ap (λ (q : PageView). q.kind) piece.at_m ∙ inner;
      has = subst (λ (xs : List Child). 1 ≤ uses m (numbers xs)) (sym parts.left_children ∙ ap (λ (q : PageView). q.children) (sym piece.at_m)) h;
      room = omega (arith, ap (λ (q : PageView). length q.children) piece.at_m, ap (λ (xs : List Child). length xs) parts.left_children, parts.left_count);
      not_root = not_1;
    } in
    let at_right : 1 ≤ uses m (numbers (drop 62 (mid p).children)) → CanTake next m b = λ h. record {
      range = range_b;
      kind = ap (λ (q : PageView). q.kind) piece.at_r;
      has = subst (λ (xs : List Child). 1 ≤ uses m (numbers xs)) (ap (λ (q : PageView). q.children) (sym piece.at_r)) h;
      room = omega (arith, ap (λ (q : PageView). length q.children) piece.at_r, parts.right_count);
      not_root = b_1;
    } in
    let target : CanTake next m t = stays_under spare mid height m p sep_l p b tree range_p inner full_p has halves.above halves.below (CanTake next m) at_left at_right in
    let second : Plan = leaf_parts (mid m) m a ++ put_child t sep_l a ∷ [] in
    let rest = leaf_grown (a ∷ []) next height key m t a (mid m) piece.shape.tree same range_m target.range range_a leaf full (λ n. omega arith) target.kind target.has target.room in
    let undo_kept : (n : ℕ) → (mid n).kind ≡ Undo → next n ≡ mid n = λ n e. piece.others n (kind_apart mid n b Undo Blank e blank_b (λ (x : Undo ≡ Blank). absurd cc)) (kind_apart mid n p Undo Inner e inner (λ (x : Undo ≡ Inner). absurd cc)) (kind_apart mid n 1 Undo Inner e root_inner (λ (x : Undo ≡ Inner). absurd cc)) in
    let both = grown_after spare (a ∷ []) first second mid height height key (side key sep_l m a) piece.shape undo_kept rest in
    let a1 : ℕ × Change = (a, MakeLeaf sep_l (mid m).high (drop 8 (mid m).rows)) in
    let a2 : ℕ × Change = (m, Cut sep_l) in
    let ct : ℕ × Change = put_child t sep_l a in
    let c1 : ℕ × Change = put_child 1 sep_i b in
    let h = both.shape.changes in
    let b1 : ℕ × Change = (b, make) in
    let b2 : ℕ × Change = (p, Cut sep_i) in
    let order : Same (a1 ∷ a2 ∷ b1 ∷ b2 ∷ ct ∷ c1 ∷ []) (b1 ∷ b2 ∷ c1 ∷ a1 ∷ a2 ∷ ct ∷ []) =
    same_then (a1 ∷ a2 ∷ b1 ∷ b2 ∷ ct ∷ c1 ∷ []) (a1 ∷ a2 ∷ b1 ∷ b2 ∷ c1 ∷ ct ∷ []) (b1 ∷ b2 ∷ c1 ∷ a1 ∷ a2 ∷ ct ∷ [])
    (swap_last a1 a2 b1 b2 ct c1 target.not_root) (move_two a1 a2 b1 b2 c1 ct (a_b, (a_p, (a_1, tt))) (m_b, (m_p, (m_1, tt)))) in
    grown_same spare (a1 ∷ a2 ∷ b1 ∷ b2 ∷ ct ∷ c1 ∷ []) (first ++ second) mid height key (side key sep_l m a) order (h.1.1.1.0, (h.1.1.1.1.0, (h.0, (h.1.0, (h.1.1.1.1.1.0, (h.1.1.0, tt)))))) both

pub higher_grown : (spare : List ℕ) (mid : PageMap) (height key m a b c : ℕ) → TreeWith spare mid height → m < 4096 → a < 4096 → b < 4096 → c < 4096 → a ≢ b → a ≢ c → b ≢ c → IsLeafOf key (mid m) → length (mid m).rows ≡ 15
    → ((n : ℕ) → uses n spare ≡ one_if (a == n) + one_if (b == n) + one_if (c == n))
    → (mid 1).kind ≡ Inner → 1 ≤ uses m (numbers (mid 1).children) → length (mid 1).children ≡ 124
    → Grown spare (leaf_parts (mid m) m a ++ root_inner_parts (mid 1) b c ++ put_child (side (leaf_separator (mid m)) (inner_separator (mid 1)) b c) (leaf_separator (mid m)) a ∷ []) mid height key (side key (leaf_separator (mid m)) m a)
higher_grown spare mid height key m a b c tree range_m range_a range_b range_c a_b a_c b_c leaf full counts inner has full_p =
    let sep_l = leaf_separator (mid m) in
    let sep_i = inner_separator (mid 1) in
    let t = side sep_l sep_i b c in
    let halves = leaf_halves (mid m) (tree.sound m range_m) leaf.kind full in
    let parts = inner_halves (mid 1) (tree.sound 1 (omega arith)) inner full_p in
    let fences = root_fences spare mid height tree in
    let blank_a : (mid a).kind ≡ Blank = tree.unused a range_a (omega (arith, counts a, one_if-same a)) in
    let blank_b : (mid b).kind ≡ Blank = tree.unused b range_b (omega (arith, counts b, one_if-same b)) in
    let blank_c : (mid c).kind ≡ Blank = tree.unused c range_c (omega (arith, counts c, one_if-same c)) in
    let b_1 : b ≢ 1 = kind_apart mid b 1 Blank Inner blank_b inner (λ (e : Blank ≡ Inner). absurd cc) in
    let c_1 : c ≢ 1 = kind_apart mid c 1 Blank Inner blank_c inner (λ (e : Blank ≡ Inner). absurd cc) in
    let m_b : m ≢ b = kind_apart mid m b Leaf Blank leaf.kind blank_b (λ (e : Leaf ≡ Blank). absurd cc) in
    let m_c : m ≢ c = kind_apart mid m c Leaf Blank leaf.kind blank_c (λ (e : Leaf ≡ Blank). absurd cc) in
    let m_1 : m ≢ 1 = kind_apart mid m 1 Leaf Inner leaf.kind inner (λ (e : Leaf ≡ Inner). absurd cc) in
    let a_1 : a ≢ 1 = kind_apart mid a 1 Blank Inner blank_a inner (λ (e : Blank ≡ Inner). absurd cc) in
    let make_l : Change = MakeInner 0 sep_i (take 62 (mid 1).children) in
    let make_r : Change = MakeInner sep_i top (drop 62 (mid 1).children) in
    let ok_l : IsChange make_l = subst (λ (low : ℕ). IsChange (MakeInner low sep_i (take 62 (mid 1).children))) fences.0 parts.left_change in
    let ok_r : IsChange make_r = subst (λ (high : ℕ). IsChange (MakeInner sep_i high (drop 62 (mid 1).children))) fences.1 parts.right_change in
    let makes_l : applied make_l (mid b) ≡ Some (inner_left (mid 1) (mid b)) = ap (λ (low : ℕ). applied (MakeInner low sep_i (take 62 (mid 1).children)) (mid b)) (sym fences.0) ∙ parts.makes_left (mid b) blank_b in
    let makes_r : applied make_r (mid c) ≡ Some (inner_right (mid 1) (mid c)) = ap (λ (high : ℕ). applied (MakeInner sep_i high (drop 62 (mid 1).children)) (mid c)) (sym fences.1) ∙ parts.makes_right (mid c) blank_c in
    let first : Plan = root_inner_parts (mid 1) b c in
    let piece = root_piece spare (a ∷ []) mid height b c sep_i make_l make_r (inner_left (mid 1) (mid b)) (inner_right (mid 1) (mid c)) ok_l ok_r tree range_b range_c b_c (λ n. omega (arith, counts n)) makes_l makes_r (parts.parts_made (mid b) (mid c) (tree.sound b range_b) (tree.sound c range_c) blank_b blank_c) in
    let next = after_plan first mid in
    let same : next m ≡ mid m = piece.others m m_b m_c m_1 in
    let at_left : 1 ≤ uses m (numbers (take 62 (mid 1).children)) → CanTake next m b = λ h. record {
      range = range_b;
      kind = ap (λ (q : PageView). q.kind) piece.at_l;
      has = subst (λ (xs : List Child). 1 ≤ uses m (numbers xs)) (ap (λ (q : PageView). q.children) (sym piece.at_l)) h;
      room = omega (arith, ap (λ (q : PageView). length q.children) piece.at_l, parts.left_count);
      not_root = b_1;
    } in
    let at_right : 1 ≤ uses m (numbers (drop 62 (mid 1).children)) → CanTake next m c = λ h. record {
      range = range_c;
      kind = ap (λ (q : PageView). q.kind) piece.at_r;
      has = subst (λ (xs : List Child). 1 ≤ uses m (numbers xs)) (ap (λ (q : PageView). q.children) (sym piece.at_r)) h;
      room = omega (arith, ap (λ (q : PageView). length q.children) piece.at_r, parts.right_count);
      not_root = c_1;
    } in
    let target : CanTake next m t = stays_under spare mid height m 1 sep_l b c tree (omega arith) inner full_p has halves.above halves.below (CanTake next m) at_left at_right in
    let second : Plan = leaf_parts (mid m) m a ++ put_child t sep_l a ∷ [] in
    let rest = leaf_grown (a ∷ []) next (suc height) key m t a (mid m) piece.shape.tree same range_m target.range range_a leaf full (λ n. omega arith) target.kind target.has target.room in
    let undo_kept : (n : ℕ) → (mid n).kind ≡ Undo → next n ≡ mid n = λ n e. piece.others n (kind_apart mid n b Undo Blank e blank_b (λ (x : Undo ≡ Blank). absurd cc)) (kind_apart mid n c Undo Blank e blank_c (λ (x : Undo ≡ Blank). absurd cc)) (kind_apart mid n 1 Undo Inner e inner (λ (x : Undo ≡ Inner). absurd cc)) in
    let both = grown_after spare (a ∷ []) first second mid height (suc height) key (side key sep_l m a) piece.shape undo_kept rest in
    let a1 : ℕ × Change = (a, MakeLeaf sep_l (mid m).high (drop 8 (mid m).rows)) in
    let a2 : ℕ × Change = (m, Cut sep_l) in
    let ct : ℕ × Change = put_child t sep_l a in
    let h = both.shape.changes in
    let b1 : ℕ × Change = (b, make_l) in
    let b2 : ℕ × Change = (c, make_r) in
    let b3 : ℕ × Change = (1, MakeInner 0 top (two_children sep_i b c)) in
    grown_same spare (a1 ∷ a2 ∷ b1 ∷ b2 ∷ b3 ∷ ct ∷ []) (first ++ second) mid height key (side key sep_l m a) (move_two a1 a2 b1 b2 b3 ct (a_b, (a_c, (a_1, tt))) (m_b, (m_c, (m_1, tt)))) (h.1.1.1.0, (h.1.1.1.1.0, (h.0, (h.1.0, (h.1.1.0, (h.1.1.1.1.1.0, tt)))))) both
