-- What the primaries gave, with an entry of one of them more; and what a turn adds at most.
use Rattle.std.proofs.Common.{◌≡◌, ◌≢◌, ◌⊎◌, ℕ, ◌==◌, Bool, List, [], ◌∷◌, ◌++◌, map, filter, cond, Option, None, Some, refl, sym, ap, ◌∙◌, inl, inr, ⊎_elim, eq-eqb, ne_eqb, append-nil}
use Rattle.std.proofs.lemmas.List.{map-append}
use Rattle.std.proofs.lemmas.List.Elements.{filter-append}
use Rattle.mp_model.specs.declared.replies.Answer.{Answer}
use Rattle.mp_model.specs.declared.waiting.Turn.{Turn}
use Rattle.mp_model.specs.declared.waiting.Turn.TheVariants.{Answered, Waiting, Done, Stopped}
use Rattle.mp_supports.specs.Kept.{Entry, answers_in}
use Rattle.mp_verdict.specs.Orders.{NodeEntry, entries_given, given_by}
use Rattle.mp_primary.specs.Primaries.{PrimaryView}
use Rattle.mp_primary.specs.Turns.{Adds, AddsAnswer, EndsUnprinted, AddsNext}
use Rattle.mp_members.proofs.Appended.{found_one}

abbrev pub entry_at : ℕ → Entry → NodeEntry
entry_at n e = record { node = n; entry = e }

abbrev pub is_at : ℕ → NodeEntry → Bool
is_at n x = x.node == n

pub by_append : (n : ℕ) (given more : List NodeEntry) → given_by n (given ++ more) ≡ given_by n given ++ given_by n more
by_append n given more =
    ap (λ (l : List NodeEntry). entries_given l) (filter-append (is_at n) given more)
    ∙ map-append (λ (x : NodeEntry). x.entry) (filter (is_at n) given) (filter (is_at n) more)

pub by_here : (n : ℕ) (given : List NodeEntry) (e : Entry) → given_by n (given ++ entry_at n e ∷ []) ≡ given_by n given ++ e ∷ []
by_here n given e =
    by_append n given (entry_at n e ∷ [])
    ∙ ap (λ (b : Bool). given_by n given ++ entries_given (cond b (entry_at n e ∷ []) [])) (eq-eqb n n refl)

pub by_other : (n : ℕ) (given : List NodeEntry) (e : Entry) (k : ℕ) → k ≢ n → given_by k (given ++ entry_at n e ∷ []) ≡ given_by k given
by_other n given e k apart =
    by_append k given (entry_at n e ∷ [])
    ∙ ap (λ (b : Bool). given_by k given ++ entries_given (cond b (entry_at n e ∷ []) [])) (ne_eqb n k (λ same. apart (sym same)))
    ∙ append-nil (given_by k given)

pub entries_one : (given : List NodeEntry) (n : ℕ) (e : Entry) → entries_given (given ++ entry_at n e ∷ []) ≡ entries_given given ++ e ∷ []
entries_one given n e = map-append (λ (x : NodeEntry). x.entry) given (entry_at n e ∷ [])

pub nodes_one : (given : List NodeEntry) (n : ℕ) (e : Entry) → map (λ (x : NodeEntry). x.node) (given ++ entry_at n e ∷ []) ≡ map (λ (x : NodeEntry). x.node) given ++ n ∷ []
nodes_one given n e = map-append (λ (x : NodeEntry). x.node) given (entry_at n e ∷ [])

pub answers_one : (entries : List Entry) (e : Entry) (a : Answer) → e.answer ≡ Some a → answers_in (entries ++ e ∷ []) ≡ answers_in entries ++ a ∷ []
answers_one entries e a has = found_one (λ (x : Entry). x.answer) entries e a has

-- so where an entry with an answer was added, this answer was
pub adds_its_answer : {D : Type 0} (old new : PrimaryView D) (entries more : List Entry) (e : Entry) (a : Answer)
    → answers_in entries ≡ old.book.answers.items → answers_in (entries ++ more) ≡ new.book.answers.items
    → more ≡ e ∷ [] → e.answer ≡ Some a → Adds old new a
adds_its_answer old new entries more e a was now one has =
    sym now ∙ ap (λ (l : List Entry). answers_in (entries ++ l)) one ∙ answers_one entries e a has ∙ ap (λ (l : List Answer). l ++ a ∷ []) was

-- one entry was added, with its answer
pub record AddsOne (more : List Entry) : Type 0 where
  pub entry : Entry
  pub answer : Answer
  pub one : more ≡ entry ∷ []
  pub has : entry.answer ≡ Some answer

module _ {D : Type 0} (old new : PrimaryView D) (more : List Entry) where
  for_session : (number : ℕ) → AddsAnswer old number more ⊎ EndsUnprinted old new number more → (more ≡ []) ⊎ AddsOne more
  for_session number adds =
      ⊎_elim
      (λ (h : AddsAnswer old number more). inr (record { entry = h.entry; answer = h.answer; one = h.one; has = h.has }))
      (λ (h : EndsUnprinted old new number more). inl h.none)
      adds

  answered : (session : Option ℕ) → AddsNext old new session more Answered → (more ≡ []) ⊎ AddsOne more
  answered None adds = inl adds
  answered (Some number) adds = for_session number adds

  pub adds_one_or_none : (session : Option ℕ) (turn : Turn) → AddsNext old new session more turn → (more ≡ []) ⊎ AddsOne more
  adds_one_or_none session Answered adds = answered session adds
  adds_one_or_none session (Waiting cause) adds = inl adds
  adds_one_or_none session Done adds = inl adds
  adds_one_or_none session (Stopped by) adds = inl adds
