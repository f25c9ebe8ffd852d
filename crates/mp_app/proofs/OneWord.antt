-- A list of one word.
use Rattle.std.proofs.Common.{◌≡◌, ◌<◌, ◌≤◌, List, [], ◌∷◌, length, get_or, sym, ap, arith}

pub one_word : {T : Type 0} (words : List T) (word : T) → 1 ≤ length words → length words < 2 → word ≡ get_or words 0 word → words ≡ word ∷ []
one_word [] word least most is = absurd (omega arith)
one_word (first ∷ []) word least most is = ap (λ w. w ∷ []) (sym is)
one_word (first ∷ (second ∷ words)) word least most is = absurd (omega arith)
