-- Words say a statement exactly where they are the words of that statement.
use Rattle.std.proofs.Common.{arith, ◌≡◌, ◌<◌, ◌≤◌, ◌^◌, ◌⊎◌, inl, inr, ℕ, List, [], ◌∷◌, Bool, true, false, nat_le, refl, sym, ap, subst, ◌∙◌, Option, Some, None, Result, Ok, Err, codes, if◌then◌else◌}
use Rattle.std.specs.Str.{bytes_eq}
use Rattle.std.specs.Fmt.{decimal}
use Rattle.std.proofs.lemmas.Slice.Eq.{bytes_eq-Decides}
use Rattle.std.proofs.lemmas.Bool.Decides.{nat_tests}
use Rattle.mp_model.specs.Values.{is_value}
use Rattle.mp_script.specs.declared.statements.Stmt.{Stmt}
use Rattle.mp_script.specs.declared.statements.Stmt.TheVariants.{Begin, Get, Put, Del, Copy, Scan, Commit, Rollback}
use Rattle.mp_script.specs.Text.{stmt_words}
use Rattle.mp_script.specs.Words.{word_number, bare_stmt, keyed, key_stmt, put_stmt, copy_stmt, scan_stmt, pair_stmt, stmt_of, IsStmt, bad_value, too_many}
use Rattle.mp_script.proofs.Numbers.{word_number-decimal, word_number-Some}

chosen : {X : Type 0} (b : Bool) (x y : X) → b ≡ true → (if b then x else y) ≡ x
chosen true x y h = refl
chosen false x y h = cc

le_test : (n : ℕ) → n ≤ 100 → nat_le n 100 ≡ true
le_test n h = grind (arith, nat_tests)

put-said : (key : ℕ) (value : List ℕ) (o : Option ℕ) → o ≡ Some key → is_value value ≡ true → put_stmt o value ≡ Ok (Put key value)
put-said key value o e v = ap (λ k. put_stmt k value) e ∙ chosen (is_value value) _ _ v

copy-said : (from to : ℕ) (o p : Option ℕ) → o ≡ Some from → p ≡ Some to → copy_stmt o p ≡ Ok (Copy from to)
copy-said from to o p e f = ap (λ k. copy_stmt k p) e ∙ ap (λ k. copy_stmt (Some from) k) f

scan-said : (low most : ℕ) (o p : Option ℕ) → o ≡ Some low → p ≡ Some most → most ≤ 100 → scan_stmt o p ≡ Ok (Scan low most)
scan-said low most o p e f m = ap (λ k. scan_stmt k p) e ∙ ap (λ k. scan_stmt (Some low) k) f ∙ chosen (nat_le most 100) _ _ (le_test most m)

-- the words of a statement say it
pub stmt_of-stmt_words : (stmt : Stmt) → IsStmt stmt → stmt_of (stmt_words stmt) ≡ Ok stmt
stmt_of-stmt_words Begin h = refl
stmt_of-stmt_words (Get key) h = ap (keyed Get) (word_number-decimal key h)
stmt_of-stmt_words (Put key value) h = put-said key value _ (word_number-decimal key h.0) h.1
stmt_of-stmt_words (Del key) h = ap (keyed Del) (word_number-decimal key h)
stmt_of-stmt_words (Copy from to) h = copy-said from to _ _ (word_number-decimal from h.0) (word_number-decimal to h.1)
stmt_of-stmt_words (Scan low most) h = scan-said low most _ _ (word_number-decimal low h.0) (word_number-decimal most (omega (arith, h.1))) h.1
stmt_of-stmt_words Commit h = refl
stmt_of-stmt_words Rollback h = refl

-- a choice by a word
by_word : {X : Type 0} (verb word : List ℕ) (x y r : X) → (if bytes_eq verb word then x else y) ≡ r → ((verb ≡ word) × (x ≡ r)) ⊎ (y ≡ r)
by_word {X} verb word x y r h = by_test (bytes_eq verb word) (bytes_eq-Decides verb word).0 h
  where
    by_test : (b : Bool) → (b ≡ true → verb ≡ word) → (if b then x else y) ≡ r → ((verb ≡ word) × (x ≡ r)) ⊎ (y ≡ r)
    by_test true same h = inl (same refl, h)
    by_test false same h = inr h

-- what words of a statement are
abbrev Says : List (List ℕ) → Stmt → Type 0
Says words stmt = (words ≡ stmt_words stmt) × IsStmt stmt

ok_same : {s t : Stmt} → ◌≡◌ {A = Result Stmt ℕ} (Ok s) (Ok t) → s ≡ t
ok_same h = cc

says_same : (words : List (List ℕ)) (s t : Stmt) → Says words s → ◌≡◌ {A = Result Stmt ℕ} (Ok s) (Ok t) → Says words t
says_same words s t e h = subst (Says words) (ok_same h) e

bare-says : (verb : List ℕ) (stmt : Stmt) → bare_stmt verb ≡ Ok stmt → Says (verb ∷ []) stmt
bare-says verb stmt h =
    elim (by_word verb (codes "begin") _ _ _ h) [
      | inl p ↦ says_same (verb ∷ []) Begin stmt (ap (λ v. v ∷ []) p.0, tt) p.1
      | inr h2 ↦ elim (by_word verb (codes "commit") _ _ _ h2) [
        | inl p ↦ says_same (verb ∷ []) Commit stmt (ap (λ v. v ∷ []) p.0, tt) p.1
        | inr h3 ↦ elim (by_word verb (codes "rollback") _ _ _ h3) [
          | inl p ↦ says_same (verb ∷ []) Rollback stmt (ap (λ v. v ∷ []) p.0, tt) p.1
          | inr h4 ↦ cc
        ]
      ]
    ]

keyed-says : (make : ℕ → Stmt) (o : Option ℕ) (stmt : Stmt) → keyed make o ≡ Ok stmt → (key : ℕ) × ((o ≡ Some key) × (make key ≡ stmt))
keyed-says make (Some key) stmt h = (key, (refl, ok_same h))
keyed-says make None stmt h = cc

two_words : {verb word name text : List ℕ} → verb ≡ name → word ≡ text → verb ∷ word ∷ [] ≡ name ∷ text ∷ []
two_words e f = cc

key-says : (verb word : List ℕ) (stmt : Stmt) → key_stmt verb word ≡ Ok stmt → Says (verb ∷ word ∷ []) stmt
key-says verb word stmt h =
    elim (by_word verb (codes "get") _ _ _ h) [
      | inl p ↦ get p.0 (keyed-says Get (word_number word) stmt p.1)
      | inr h2 ↦ elim (by_word verb (codes "del") _ _ _ h2) [
        | inl p ↦ del p.0 (keyed-says Del (word_number word) stmt p.1)
        | inr h3 ↦ cc
      ]
    ]
  where
    get : verb ≡ codes "get" → (key : ℕ) × ((word_number word ≡ Some key) × (Get key ≡ stmt)) → Says (verb ∷ word ∷ []) stmt
    get e k = let n : (word ≡ decimal k.0) × (k.0 < 2 ^ 32) = word_number-Some word k.0 k.1.0 in
        subst (Says (verb ∷ word ∷ [])) k.1.1 (two_words e n.0, n.1)

    del : verb ≡ codes "del" → (key : ℕ) × ((word_number word ≡ Some key) × (Del key ≡ stmt)) → Says (verb ∷ word ∷ []) stmt
    del e k = let n : (word ≡ decimal k.0) × (k.0 < 2 ^ 32) = word_number-Some word k.0 k.1.0 in
        subst (Says (verb ∷ word ∷ [])) k.1.1 (two_words e n.0, n.1)

three_words : {a b d x y z : List ℕ} → a ≡ x → b ≡ y → d ≡ z → a ∷ b ∷ d ∷ [] ≡ x ∷ y ∷ z ∷ []
three_words e f g = cc

put-says : (verb first second : List ℕ) (stmt : Stmt) → verb ≡ codes "put" → (o : Option ℕ) → o ≡ word_number first → put_stmt o second ≡ Ok stmt → Says (verb ∷ first ∷ second ∷ []) stmt
put-says verb first second stmt e None k h = cc
put-says verb first second stmt e (Some key) k h =
    by_value (is_value second) refl h
  where
    put : Result Stmt ℕ
    put = Ok (Put key second)

    by_value : (b : Bool) → is_value second ≡ b → (if b then put else Err bad_value) ≡ Ok stmt → Says (verb ∷ first ∷ second ∷ []) stmt
    by_value true v h = let n : (first ≡ decimal key) × (key < 2 ^ 32) = word_number-Some first key (sym k) in
        says_same _ (Put key second) stmt (three_words e n.0 refl, (n.1, v)) h
    by_value false v h = cc

copy-says : (verb first second : List ℕ) (stmt : Stmt) → verb ≡ codes "copy" → (o p : Option ℕ) → o ≡ word_number first → p ≡ word_number second → copy_stmt o p ≡ Ok stmt → Says (verb ∷ first ∷ second ∷ []) stmt
copy-says verb first second stmt e None p k l h = cc
copy-says verb first second stmt e (Some from) None k l h = cc
copy-says verb first second stmt e (Some from) (Some to) k l h =
    let n : (first ≡ decimal from) × (from < 2 ^ 32) = word_number-Some first from (sym k) in
    let m : (second ≡ decimal to) × (to < 2 ^ 32) = word_number-Some second to (sym l) in
    says_same _ (Copy from to) stmt (three_words e n.0 m.0, (n.1, m.1)) h

scan-says : (verb first second : List ℕ) (stmt : Stmt) → verb ≡ codes "scan" → (o p : Option ℕ) → o ≡ word_number first → p ≡ word_number second → scan_stmt o p ≡ Ok stmt → Says (verb ∷ first ∷ second ∷ []) stmt
scan-says verb first second stmt e None p k l h = cc
scan-says verb first second stmt e (Some low) None k l h = cc
scan-says verb first second stmt e (Some low) (Some most) k l h = by_most (nat_le most 100) (le_tested most) h
  where
    le_tested : (n : ℕ) → nat_le n 100 ≡ true → n ≤ 100
    le_tested n t = grind (arith, nat_tests)

    scan : Result Stmt ℕ
    scan = Ok (Scan low most)

    by_most : (b : Bool) → (b ≡ true → most ≤ 100) → (if b then scan else Err too_many) ≡ Ok stmt → Says (verb ∷ first ∷ second ∷ []) stmt
    by_most true small h =
        let n : (first ≡ decimal low) × (low < 2 ^ 32) = word_number-Some first low (sym k) in
        let m : (second ≡ decimal most) × (most < 2 ^ 32) = word_number-Some second most (sym l) in
        says_same _ (Scan low most) stmt (three_words e n.0 m.0, (n.1, small refl)) h
    by_most false small h = cc

pair-says : (verb first second : List ℕ) (stmt : Stmt) → pair_stmt verb first second ≡ Ok stmt → Says (verb ∷ first ∷ second ∷ []) stmt
pair-says verb first second stmt h =
    elim (by_word verb (codes "put") _ _ _ h) [
      | inl p ↦ put-says verb first second stmt p.0 (word_number first) refl p.1
      | inr h2 ↦ elim (by_word verb (codes "copy") _ _ _ h2) [
        | inl p ↦ copy-says verb first second stmt p.0 (word_number first) (word_number second) refl refl p.1
        | inr h3 ↦ elim (by_word verb (codes "scan") _ _ _ h3) [
          | inl p ↦ scan-says verb first second stmt p.0 (word_number first) (word_number second) refl refl p.1
          | inr h4 ↦ cc
        ]
      ]
    ]

-- words that say a statement are its words
pub stmt_of-Ok : (words : List (List ℕ)) (stmt : Stmt) → stmt_of words ≡ Ok stmt → (words ≡ stmt_words stmt) × IsStmt stmt
stmt_of-Ok [] stmt h = cc
stmt_of-Ok (verb ∷ []) stmt h = bare-says verb stmt h
stmt_of-Ok (verb ∷ first ∷ []) stmt h = key-says verb first stmt h
stmt_of-Ok (verb ∷ first ∷ second ∷ []) stmt h = pair-says verb first second stmt h
stmt_of-Ok (verb ∷ first ∷ second ∷ third ∷ rest) stmt h = cc
