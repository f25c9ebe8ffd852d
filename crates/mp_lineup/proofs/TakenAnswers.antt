-- When the answer that was given last is taken out of its primary's list, the lists have the answers of what was given before it.
use Rattle.std.proofs.Common.{◌≡◌, ◌≢◌, ℕ, ◌+◌, ◌-◌, ◌<◌, ◌≤◌, ◌==◌, true, List, [], ◌∷◌, ◌++◌, length, map, take, drop, reverse, filter, get_or, slice_get, slice_set, Option, None, Some, is_some, refl, sym, ap, subst, ◌∙◌, ⊎_elim, arith, eq-eqb, ne_eqb, append-nil}
use Rattle.std.specs.List.{AllByRecursion}
use Rattle.std.proofs.lemmas.List.{map-append, map_push, map-set, length_push, same_from_push, length-map, length-set, take_more, drop_more, reverse-append}
use Rattle.std.proofs.lemmas.List.Elements.{filter-append, filter_map-append}
use Rattle.std.proofs.lemmas.Option.{slice_get-map}
use Rattle.mp_model.specs.Listed.{Listed}
use Rattle.mp_model.specs.declared.replies.Answer.{Answer}
use Rattle.mp_book.proofs.Items.{after_set, stands_there}
use Rattle.mp_supports.specs.Kept.{Entry, answers_in}
use Rattle.mp_verdict.specs.Orders.{NodeEntry, entries_given, given_by}
use Rattle.mp_lineup.specs.LiningUp.{AreListed}

all_but_last : {T : Type 0} (P : T → Type 0) (xs : List T) (x : T) → AllByRecursion P (xs ++ x ∷ []) → AllByRecursion P xs × P x
all_but_last P [] x all = (tt, all.0)
all_but_last P (y ∷ ys) x all = let rest = all_but_last P ys x all.1 in ((all.0, rest.0), rest.1)

some_of : {T : Type 0} (o : Option T) → is_some o ≡ true → (x : T) × (o ≡ Some x)
some_of (Some x) is = (x, refl)
some_of None is = cc

-- the answers of a primary among what was given, with one more
answers_push : (m : ℕ) (given : List NodeEntry) (last : NodeEntry) → answers_in (given_by m (given ++ last ∷ [])) ≡ answers_in (given_by m given) ++ answers_in (given_by m (last ∷ []))
answers_push m given last =
    ap (λ (l : List NodeEntry). answers_in (entries_given l)) (filter-append (λ x. x.node == m) given (last ∷ []))
    ∙ ap (λ (l : List Entry). answers_in l) (map-append (λ (x : NodeEntry). x.entry) (filter (λ x. x.node == m) given) (filter (λ x. x.node == m) (last ∷ [])))
    ∙ filter_map-append (λ (e : Entry). e.answer) (given_by m given) (given_by m (last ∷ []))

answers_here : (m : ℕ) (last : NodeEntry) (a : Answer) → last.node ≡ m → last.entry.answer ≡ Some a → answers_in (given_by m (last ∷ [])) ≡ a ∷ []
answers_here m last a is has = rw (eq-eqb last.node m is) (rw has refl)

answers_else : (m : ℕ) (last : NodeEntry) → last.node ≢ m → answers_in (given_by m (last ∷ [])) ≡ []
answers_else m last ne = rw (ne_eqb last.node m ne) refl

module _ (given : List NodeEntry) (last : NodeEntry) (order : List ℕ) (n : ℕ) (lists : List (List Answer)) (listed : AreListed (given ++ last ∷ []) (order ++ n ∷ []) lists) where
  numbers : (order ≡ map (λ x. x.node) given) × (n ≡ last.node)
  numbers = same_from_push order (map (λ x. x.node) given) n last.node (listed.order_is ∙ map_push (λ (x : NodeEntry). x.node) given last)

  pub number_within : (1 ≤ n) × (n ≤ length lists)
  number_within = (all_but_last (λ k. (1 ≤ k) × (k ≤ length lists)) order n listed.within).1

  answer : (a : Answer) × (last.entry.answer ≡ Some a)
  answer = some_of last.entry.answer (all_but_last (λ x. is_some x.entry.answer ≡ true) given last listed.answered).1

  module _ (i : ℕ) (at : i + 1 ≡ n) (old : List Answer) (stands : slice_get lists i ≡ Some old) where
    list_is : old ≡ answers_in (given_by (i + 1) given) ++ answer.0 ∷ []
    list_is =
        listed.lists_are i old stands ∙ answers_push (i + 1) given last
        ∙ ap (λ (l : List Answer). answers_in (given_by (i + 1) given) ++ l) (answers_here (i + 1) last answer.0 (sym numbers.1 ∙ sym at) answer.1)

    pub list_has_some : 0 < length old
    list_has_some = let long = ap length list_is ∙ length_push (answers_in (given_by (i + 1) given)) answer.0 in omega (arith, long)

    module _ (left : List Answer) (a : Answer) (popped : old ≡ left ++ a ∷ []) where
      parts : (left ≡ answers_in (given_by (i + 1) given)) × (a ≡ answer.0)
      parts = same_from_push left (answers_in (given_by (i + 1) given)) a answer.0 (sym popped ∙ list_is)

      lists_are : (place : ℕ) (answers : List Answer) → slice_get (slice_set lists i left) place ≡ Some answers → answers ≡ answers_in (given_by (place + 1) given)
      lists_are place answers there = ⊎_elim
          (λ here. here.1 ∙ parts.0 ∙ ap (λ (k : ℕ). answers_in (given_by (k + 1) given)) here.0)
          (λ other.
          let ne : last.node ≢ place + 1 = λ same. other.other (omega (arith, at, numbers.1, same)) in
          listed.lists_are place answers other.stood ∙ answers_push (place + 1) given last
          ∙ ap (λ (l : List Answer). answers_in (given_by (place + 1) given) ++ l) (answers_else (place + 1) last ne)
          ∙ append-nil (answers_in (given_by (place + 1) given)))
          (after_set lists i left place answers there)

      pub listed_before : AreListed given order (slice_set lists i left) × (last.entry.answer ≡ Some a)
      listed_before = (
        record {
          order_is = numbers.0;
          answered = (all_but_last (λ x. is_some x.entry.answer ≡ true) given last listed.answered).0;
          within = subst (λ (k : ℕ). AllByRecursion (λ n. (1 ≤ n) × (n ≤ k)) order) (sym (length-set lists i left)) (all_but_last (λ k. (1 ≤ k) × (k ≤ length lists)) order n listed.within).0;
          lists_are = lists_are;
        },
        answer.1 ∙ ap Some (sym parts.1),
      )

-- the same, of lists with room
module _ (given : List NodeEntry) (last : NodeEntry) (order : List ℕ) (n : ℕ) (lists : List (Listed Answer)) (listed : AreListed (given ++ last ∷ []) (order ++ n ∷ []) (map (λ list. list.items) lists)) where
  pub place_within : (1 ≤ n) × (n - 1 < length lists)
  place_within =
      let both = number_within given last order n (map (λ list. list.items) lists) listed in
      let count = length-map lists (λ (list : Listed Answer). list.items) in
      (both.0, omega (arith, both.0, both.1, count))

  at_place : (old : Listed Answer) → slice_get lists (n - 1) ≡ Some old → slice_get (map (λ list. list.items) lists) (n - 1) ≡ Some old.items
  at_place old stands = slice_get-map (λ (list : Listed Answer). list.items) lists (n - 1) ∙ rw stands refl

  behind : n - 1 + 1 ≡ n
  behind = let low = place_within.0 in omega (arith, low)

  pub some_left : (old : Listed Answer) → slice_get lists (n - 1) ≡ Some old → 0 < length old.items
  some_left old stands = list_has_some given last order n (map (λ list. list.items) lists) listed (n - 1) behind old.items (at_place old stands)

  pub taken_last : (old new : Listed Answer) (a : Answer) → slice_get lists (n - 1) ≡ Some old → old.items ≡ new.items ++ a ∷ []
      → AreListed given order (map (λ list. list.items) (slice_set lists (n - 1) new)) × (last.entry.answer ≡ Some a)
  taken_last old new a stands popped =
      subst (λ (l : List (List Answer)). AreListed given order l × (last.entry.answer ≡ Some a)) (sym (map-set (λ (list : Listed Answer). list.items) lists (n - 1) new))
      (listed_before given last order n (map (λ list. list.items) lists) listed (n - 1) behind old.items (at_place old stands) new.items a popped)

-- All but the first so many answers are taken, the one given last first
pub record AreTaken (given : List NodeEntry) (order : List ℕ) (left : ℕ) (lists : List (List Answer)) (taken : List Answer) : Type 0 where
  pub listed : AreListed (take left given) (take left order) lists
  pub taken_are : taken ≡ reverse (answers_in (entries_given (drop left given)))

module _ (given : List NodeEntry) (order : List ℕ) (whole : List (List Answer)) (all : AreListed given order whole) where
  pub same_count : length given ≡ length order
  same_count = sym (ap length all.order_is ∙ length-map given (λ (x : NodeEntry). x.node))

  -- which of what was given is taken next
  module _ (m : ℕ) (within : m < length order) where
    abbrev pub next : NodeEntry
    next = get_or given m (stands_there given m (omega (arith, within, same_count))).0

    module _ (d : ℕ) (lists : List (List Answer)) (taken : List Answer) (so : AreTaken given order (m + 1) lists taken) where
      pub next_listed : AreListed (take m given ++ next ∷ []) (take m order ++ get_or order m d ∷ []) lists
      next_listed =
          subst (λ (l : List NodeEntry). AreListed l (take m order ++ get_or order m d ∷ []) lists) (take_more given m (stands_there given m (omega (arith, within, same_count))).0 (omega (arith, within, same_count)))
          (subst (λ (l : List ℕ). AreListed (take (m + 1) given) l lists) (take_more order m d within) so.listed)

      pub next_taken : (after : List (List Answer)) (a : Answer) → AreListed (take m given) (take m order) after → next.entry.answer ≡ Some a → AreTaken given order m after (taken ++ a ∷ [])
      next_taken after a listed has = record {
        listed = listed;
        taken_are =
            let dropped = drop_more given m (stands_there given m (omega (arith, within, same_count))).0 (omega (arith, within, same_count)) in
            let rest = answers_in (entries_given (drop (m + 1) given)) in
            let first : answers_in (entries_given (next ∷ drop (m + 1) given)) ≡ a ∷ rest = rw has refl in
            ap (λ (l : List Answer). l ++ a ∷ []) so.taken_are ∙ sym (reverse-append (a ∷ []) rest) ∙ ap (λ (l : List Answer). reverse l) (sym first)
            ∙ ap (λ (l : List NodeEntry). reverse (answers_in (entries_given l))) (sym dropped);
      }
