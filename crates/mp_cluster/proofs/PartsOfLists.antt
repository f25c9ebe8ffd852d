-- The parts of primaries, one list of answers after another.
use Rattle.std.proofs.Common.{◌≡◌, ℕ, zero, suc, ◌+◌, List, [], ◌∷◌, ◌++◌, map, ap, sym, ◌∙◌, arith, append_assoc}
use Rattle.std.proofs.lemmas.List.{map_push}
use Rattle.mp_model.specs.declared.replies.Answer.{Answer}
use Rattle.mp_model.specs.declared.transcripts.Part.{Part}
use Rattle.mp_model.specs.Listed.{Listed}
use Rattle.mp_script.specs.InTheirPart.{count_from}

-- a number more
pub count_more : (first count : ℕ) → count_from first (suc count) ≡ count_from first count ++ (first + count) ∷ []
count_more first zero = ap (λ (n : ℕ). n ∷ []) (omega arith)
count_more first (suc count) = ap (λ (l : List ℕ). first ∷ l) (count_more (first + 1) count ∙ ap (λ (n : ℕ). count_from (first + 1) count ++ n ∷ []) (omega arith))

-- a part more, with the next number
pub numbers_push : (parts pushed : List Part) (place : ℕ) (part : Part) → map (λ part. part.primary) parts ≡ count_from 1 place → part.primary ≡ place + 1 → pushed ≡ parts ++ part ∷ []
    → map (λ part. part.primary) pushed ≡ count_from 1 (place + 1)
numbers_push parts pushed place part so_far its more =
    let number : part.primary ≡ 1 + place = omega (arith, its) in
    let next : suc place ≡ place + 1 = omega arith in
    ap (λ (ps : List Part). map (λ p. p.primary) ps) more
    ∙ map_push (λ (p : Part). p.primary) parts part
    ∙ ap (λ (l : List ℕ). l ++ part.primary ∷ []) so_far
    ∙ ap (λ (n : ℕ). count_from 1 place ++ n ∷ []) number
    ∙ sym (count_more 1 place)
    ∙ ap (count_from 1) next

-- a part more, of the first of the lists that are left
pub parts_push : (parts pushed : List Part) (whole lists rest : List (Listed Answer)) (part : Part) → map (λ part. part.answers.items) parts ++ map (λ list. list.items) lists ≡ map (λ list. list.items) whole
    → lists ≡ part.answers ∷ rest → pushed ≡ parts ++ part ∷ [] → map (λ part. part.answers.items) pushed ++ map (λ list. list.items) rest ≡ map (λ list. list.items) whole
parts_push parts pushed whole lists rest part so_far first more =
    ap (λ (ps : List Part). map (λ p. p.answers.items) ps ++ map (λ list. list.items) rest) more
    ∙ ap (λ (l : List (List Answer)). l ++ map (λ list. list.items) rest) (map_push (λ (p : Part). p.answers.items) parts part)
    ∙ append_assoc (map (λ p. p.answers.items) parts) (part.answers.items ∷ []) (map (λ list. list.items) rest)
    ∙ sym (ap (λ (ls : List (Listed Answer)). map (λ p. p.answers.items) parts ++ map (λ list. list.items) ls) first)
    ∙ so_far
