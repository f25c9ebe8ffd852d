-- A loop fills a list: what is there, and what the numbers from here on add, are all.
use Rattle.std.proofs.Common.{◌≡◌, ℕ, suc, ◌+◌, ◌-◌, ◌<◌, ◌≤◌, List, [], ◌∷◌, ◌++◌, map, sym, ap, ◌∙◌, arith, append-nil, append_assoc}
use Rattle.std.specs.List.{flat_map}
use Rattle.mp_script.specs.InTheirPart.{count_from}

count_next : (first bound : ℕ) → first < bound → count_from first (bound - first) ≡ first ∷ count_from (first + 1) (bound - (first + 1))
count_next first bound less = let more : bound - first ≡ suc (bound - (first + 1)) = omega (arith, less) in ap (count_from first) more

count_none : (first bound : ℕ) → bound ≤ first → count_from first (bound - first) ≡ []
count_none first bound past = let none : bound - first ≡ 0 = omega (arith, past) in ap (count_from first) none

pub pushed : {X : Type 0} (f : ℕ → X) (first bound : ℕ) (items new all : List X) → first < bound → new ≡ items ++ f first ∷ []
    → items ++ map f (count_from first (bound - first)) ≡ all → new ++ map f (count_from (first + 1) (bound - (first + 1))) ≡ all
pushed {X} f first bound items new all less is rest =
    let behind : List X = map f (count_from (first + 1) (bound - (first + 1))) in
    ap (λ (l : List X). l ++ behind) is
    ∙ append_assoc items (f first ∷ []) behind
    ∙ ap (λ (l : List ℕ). items ++ map f l) (sym (count_next first bound less)) ∙ rest

pub pushed_all : {X : Type 0} (f : ℕ → X) (first bound : ℕ) (items all : List X) → bound ≤ first
    → items ++ map f (count_from first (bound - first)) ≡ all → items ≡ all
pushed_all f first bound items all past rest = sym (append-nil items) ∙ ap (λ (l : List ℕ). items ++ map f l) (sym (count_none first bound past)) ∙ rest

pub extended : {X : Type 0} (f : ℕ → List X) (first bound : ℕ) (items new all : List X) → first < bound → new ≡ items ++ f first
    → items ++ flat_map f (count_from first (bound - first)) ≡ all → new ++ flat_map f (count_from (first + 1) (bound - (first + 1))) ≡ all
extended {X} f first bound items new all less is rest =
    let behind : List X = flat_map f (count_from (first + 1) (bound - (first + 1))) in
    ap (λ (l : List X). l ++ behind) is
    ∙ append_assoc items (f first) behind
    ∙ ap (λ (l : List ℕ). items ++ flat_map f l) (sym (count_next first bound less)) ∙ rest

pub extended_all : {X : Type 0} (f : ℕ → List X) (first bound : ℕ) (items all : List X) → bound ≤ first
    → items ++ flat_map f (count_from first (bound - first)) ≡ all → items ≡ all
extended_all f first bound items all past rest = sym (append-nil items) ∙ ap (λ (l : List ℕ). items ++ flat_map f l) (sym (count_none first bound past)) ∙ rest
