-- One more line of a list of lines that is printed from the front.
use Rattle.std.proofs.Common.{◌≡◌, ◌∙◌, ℕ, zero, suc, ◌+◌, List, [], ◌∷◌, ◌++◌, map, take, Some, slice_get, refl, sym, ap, append_assoc, append-nil, add-one}
use Rattle.std.proofs.lemmas.List.Concat.{flat_map-append}
use Rattle.mp_report.specs.Lines.{line, text_of_lines}

-- the front with the next item
take_next : {T : Type 0} (xs : List T) (i : ℕ) (x : T) → slice_get xs i ≡ Some x → take (suc i) xs ≡ take i xs ++ x ∷ []
take_next [] i x is = cc
take_next (y ∷ xs) zero x is = let e : y ≡ x = cc in rw e refl
take_next (y ∷ xs) (suc i) x is = ap (λ rest. y ∷ rest) (take_next xs i x is)

map_next : {T U : Type 0} (f : T → U) (xs : List T) (x : T) → map f (xs ++ x ∷ []) ≡ map f xs ++ f x ∷ []
map_next f [] x = refl
map_next f (y ∷ xs) x = ap (λ rest. f y ∷ rest) (map_next f xs x)

-- so the text with the next line is that of the longer front
pub lined_more : {T : Type 0} (words : T → List (List ℕ)) (xs : List T) (i : ℕ) (x : T) (old now new : List ℕ) → slice_get xs i ≡ Some x → now ≡ old ++ text_of_lines (map words (take i xs)) → new ≡ now ++ line (words x) → new ≡ old ++ text_of_lines (map words (take (i + 1) xs))
lined_more words xs i x old now new is so_far added =
    added ∙ ap (λ t. t ++ line (words x)) so_far ∙ append_assoc old (text_of_lines (map words (take i xs))) (line (words x))
    ∙ ap (λ t. old ++ t) (ap (λ end. text_of_lines (map words (take i xs)) ++ end) (sym (append-nil (line (words x)))) ∙ sym (flat_map-append line (map words (take i xs)) (words x ∷ [])) ∙ ap text_of_lines (sym (map_next words (take i xs) x)) ∙ ap (λ front. text_of_lines (map words front)) (sym (take_next xs i x is)))
    ∙ ap (λ n. old ++ text_of_lines (map words (take n xs))) (sym (add-one i))
