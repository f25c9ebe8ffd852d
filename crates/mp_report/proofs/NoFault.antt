-- The text of a readable transcript has no fault.
use Rattle.std.proofs.Common.{◌≡◌, ◌∙◌, ℕ, ◌+◌, List, [], ◌∷◌, ◌++◌, length, map, Option, Some, None, refl, sym, ap, length-append, arith}
use Rattle.mp_report.specs.declared.read.stands.Stand.{Stand}
use Rattle.mp_report.specs.declared.read.stands.Stand.TheVariants.{Ended}
use Rattle.mp_report.specs.Lines.{line}
use Rattle.mp_report.specs.Reading.{◌>>=◌}
use Rattle.mp_report.specs.ReadingLines.{words_of, read_line}
use Rattle.mp_report.specs.Grammar.{allowed, next_stand, fault_at, fault_in}
use Rattle.mp_report.proofs.WordsSpelled.{then_some, some_inj}
use Rattle.mp_report.proofs.LineAgain.{line_again}

-- where the next line stands behind these lines
abbrev pub stand_after : Stand → List (List (List ℕ)) → Option Stand
stand_after stand [] = Some stand
stand_after stand (words ∷ lines) = (read_line words >>= allowed stand) >>= λ next. stand_after next lines

-- a piece of no word is empty
no_word : (text : List ℕ) → words_of text ≡ [] ∷ [] → text ≡ []
no_word [] e = refl
no_word (x ∷ text) e = absurd (omega (arith, ap length (sym (line_again (x ∷ text)) ∙ ap line e), length-append text (10 ∷ [])))

pub no_fault_in : (stand : Stand) (at : ℕ) (texts : List (List ℕ)) (lines : List (List (List ℕ))) → map words_of texts ≡ lines ++ ([] ∷ []) ∷ []
    → stand_after stand lines ≡ Some Ended → fault_in stand at texts ≡ None
no_fault_in stand at [] [] e walk = absurd (let no : [] ≡ ([] ∷ []) ∷ [] = e in cc)
no_fault_in stand at [] (l ∷ lines) e walk = absurd (let no : [] ≡ l ∷ (lines ++ ([] ∷ []) ∷ []) = e in cc)
no_fault_in stand at (text ∷ []) [] e walk =
    let none : text ≡ [] = no_word text (let same : words_of text ∷ [] ≡ ([] ∷ []) ∷ [] = e in cc) in
    let ended : stand ≡ Ended = some_inj stand Ended walk in
    rw (ended, none) refl
no_fault_in stand at (text ∷ other ∷ texts) [] e walk = absurd (let no : words_of text ∷ words_of other ∷ map words_of texts ≡ ([] ∷ []) ∷ [] = e in cc)
no_fault_in stand at (text ∷ []) (l ∷ []) e walk = absurd (let no : words_of text ∷ [] ≡ l ∷ ([] ∷ []) ∷ [] = e in cc)
no_fault_in stand at (text ∷ []) (l ∷ m ∷ lines) e walk = absurd (let no : words_of text ∷ [] ≡ l ∷ m ∷ (lines ++ ([] ∷ []) ∷ []) = e in cc)
no_fault_in stand at (text ∷ other ∷ texts) (l ∷ lines) e walk =
    let whole : words_of text ∷ map words_of (other ∷ texts) ≡ l ∷ (lines ++ ([] ∷ []) ∷ []) = e in
    let first : words_of text ≡ l = cc in
    let others : map words_of (other ∷ texts) ≡ lines ++ ([] ∷ []) ∷ [] = cc in
    let step = then_some (read_line l >>= allowed stand) (λ next. stand_after next lines) Ended walk in
    let taken : next_stand stand text ≡ Some step.0 = ap (λ ws. read_line ws >>= allowed stand) first ∙ step.1 in
    ap (λ o. fault_at at o (λ n. fault_in n (at + (length text + 1)) (other ∷ texts))) taken ∙ no_fault_in step.0 (at + (length text + 1)) (other ∷ texts) lines others step.2
