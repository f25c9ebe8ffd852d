-- A word or a line that is read is the text of what was read.
use Rattle.std.proofs.Common.{◌≡◌, ◌∙◌, ℕ, zero, suc, ◌-◌, ◌^◌, ◌≤◌, ◌==◌, ◌⊎◌, inl, inr, ◌&&◌, nat_le, Bool, true, false, if◌then◌else◌, List, [], ◌∷◌, ◌++◌, length, map, Option, Some, None, decimal, refl, sym, ap, subst, arith}
use Rattle.std.proofs.lemmas.Bool.{and_parts, leb-true, eqb-true}
use Rattle.std.proofs.lemmas.Bool.Decides.{eqb_tells}
use Rattle.std.specs.List.{AllByRecursion}
use Rattle.std.specs.Str.{bytes_eq}
use Rattle.std.specs.Str.Parse.{digits_value}
use Rattle.mp_model.specs.Values.{is_value}
use Rattle.mp_model.specs.declared.ids.TrxName.{TrxName}
use Rattle.mp_model.specs.declared.key_value.KeyValue.{KeyValue}
use Rattle.mp_report.specs.Answers.{name_word, row_word}
use Rattle.mp_report.specs.Readable.{IsName}
use Rattle.mp_script.specs.SpelledLines.{IsRowInRange}
use Rattle.mp_report.specs.Reading.{◌>>=◌, read_number, cut_at, read_statement, read_row, read_rows, read_names}

pub same_from_bytes : (xs ys : List ℕ) → bytes_eq xs ys ≡ true → xs ≡ ys
same_from_bytes [] [] e = refl
same_from_bytes [] (y ∷ ys) e = let no : false ≡ true = e in cc
same_from_bytes (x ∷ xs) [] e = let no : false ≡ true = e in cc
same_from_bytes (x ∷ xs) (y ∷ ys) e =
    let parts = and_parts (x == y) (bytes_eq xs ys) e in
    let rest = same_from_bytes xs ys parts.1 in
    elim (eqb_tells x y) [ inl same ↦ let head = same.1 in cc | inr other ↦ let no = other.0 in let yes = parts.0 in cc ]

-- a test that gave a value passed
pub if_some : {A : Type 0} (b : Bool) (x y : A) → (if b then Some x else None) ≡ Some y → (b ≡ true) × (x ≡ y)
if_some true x y e = (refl, cc)
if_some false x y e = absurd (let no : None ≡ Some y = e in cc)

-- a value came from one of two sides
pub if_cases : {A : Type 0} (b : Bool) (x y : Option A) (z : A) → (if b then x else y) ≡ Some z → ((b ≡ true) × (x ≡ Some z)) ⊎ ((b ≡ false) × (y ≡ Some z))
if_cases true x y z e = inl (refl, e)
if_cases false x y z e = inr (refl, e)

-- both steps gave a value
pub then_some : {A B : Type 0} (o : Option A) (f : A → Option B) (z : B) → (o >>= f) ≡ Some z → (x : A) × (o ≡ Some x) × (f x ≡ Some z)
then_some None f z e = absurd (let no : None ≡ Some z = e in cc)
then_some (Some x) f z e = (x, refl, e)

pub record IsNumber (low high n : ℕ) (word : List ℕ) : Type 0 where
  pub spelled : decimal n ≡ word
  pub least : low ≤ n
  pub most : n ≤ high

pub number_spelled : (low high : ℕ) (word : List ℕ) (n : ℕ) → read_number low high word ≡ Some n → IsNumber low high n word
number_spelled low high word n e =
    let number = digits_value 10 word in
    let test = if_some (nat_le low number && (nat_le number high && bytes_eq (decimal number) word)) number n e in
    let outer = and_parts (nat_le low number) (nat_le number high && bytes_eq (decimal number) word) test.0 in
    let inner = and_parts (nat_le number high) (bytes_eq (decimal number) word) outer.1 in
    let same = test.1 in
    record {
      spelled = ap decimal (sym same) ∙ same_from_bytes (decimal number) word inner.1;
      least = omega (arith, leb-true low number outer.0);
      most = omega (arith, leb-true number high inner.0);
    }

pub some_inj : {A : Type 0} (x y : A) → Some x ≡ Some y → x ≡ y
some_inj x y e = cc

-- a test that let a value through passed
pub if_then : {A : Type 0} (b : Bool) (o : Option A) (z : A) → (if b then o else None) ≡ Some z → (b ≡ true) × (o ≡ Some z)
if_then true o z e = (refl, e)
if_then false o z e = absurd (let no : None ≡ Some z = e in cc)

pub cut_spelled : (byte : ℕ) (word : List ℕ) (parts : List ℕ × List ℕ) → cut_at byte word ≡ Some parts → word ≡ parts.0 ++ byte ∷ parts.1
cut_spelled byte [] parts e = absurd (let no : None ≡ Some parts = e in cc)
cut_spelled byte (x ∷ word) parts e =
    elim (if_cases (x == byte) (Some ([], word)) (cut_at byte word >>= λ rest. Some (x ∷ rest.0, rest.1)) parts e) [
      | inl here ↦ subst (λ (p : List ℕ × List ℕ). x ∷ word ≡ p.0 ++ byte ∷ p.1) (some_inj _ _ here.1) (ap (λ b. b ∷ word) (eqb-true x byte here.0))
      | inr later ↦
          let step = then_some (cut_at byte word) (λ rest. Some (x ∷ rest.0, rest.1)) parts later.1 in
          subst (λ (p : List ℕ × List ℕ). x ∷ word ≡ p.0 ++ byte ∷ p.1) (some_inj _ _ step.2) (ap (λ w. x ∷ w) (cut_spelled byte word step.0 step.1))
    ]

pub statement_spelled : (word : List ℕ) (name : TrxName) → read_statement word ≡ Some name → (name_word name ≡ word) × IsName name
statement_spelled [] name e = absurd (let no : None ≡ Some name = e in cc)
statement_spelled (x ∷ word) name e =
    let start = if_then (x == 115) _ name e in
    let cut = then_some (cut_at 46 word) _ name start.1 in
    let session = then_some (read_number 1 64 cut.0.0) _ name cut.2 in
    let index = then_some (read_number 1 10000 cut.0.1) _ name session.2 in
    let s = number_spelled 1 64 cut.0.0 session.0 session.1 in
    let i = number_spelled 1 10000 cut.0.1 index.0 index.1 in
    subst (λ (n : TrxName). (name_word n ≡ x ∷ word) × IsName n) (some_inj _ _ index.2) (
      ap (λ p. 115 ∷ (p ++ 46 ∷ decimal index.0)) s.spelled ∙ ap (λ p. 115 ∷ (cut.0.0 ++ 46 ∷ p)) i.spelled
          ∙ ap (λ w. 115 ∷ w) (sym (cut_spelled 46 word cut.0 cut.1)) ∙ ap (λ b. b ∷ word) (sym (eqb-true x 115 start.0)),
      record { some_session = s.least; most_sessions = s.most; some_index = i.least; most_statements = i.most },
    )

pub row_spelled : (word : List ℕ) (row : KeyValue) → read_row word ≡ Some row → (row_word row ≡ word) × IsRowInRange row
row_spelled word row e =
    let cut = then_some (cut_at 61 word) _ row e in
    let key = then_some (read_number 0 (2 ^ 32 - 1) cut.0.0) _ row cut.2 in
    let value = if_some (is_value cut.0.1) _ row key.2 in
    let k = number_spelled 0 (2 ^ 32 - 1) cut.0.0 key.0 key.1 in
    subst (λ (r : KeyValue). (row_word r ≡ word) × IsRowInRange r) value.1
    (ap (λ p. p ++ 61 ∷ cut.0.1) k.spelled ∙ sym (cut_spelled 61 word cut.0 cut.1), record { key = omega (arith, k.most); value = value.0 })

pub names_spelled : (words : List (List ℕ)) (names : List TrxName) → read_names words ≡ Some names → (map name_word names ≡ words) × AllByRecursion IsName names
names_spelled [] names e = subst (λ (ns : List TrxName). (map name_word ns ≡ []) × AllByRecursion IsName ns) (some_inj _ _ e) (refl, tt)
names_spelled (word ∷ words) names e =
    let first = then_some (read_statement word) _ names e in
    let others = then_some (read_names words) _ names first.2 in
    let f = statement_spelled word first.0 first.1 in
    let o = names_spelled words others.0 others.1 in
    subst (λ (ns : List TrxName). (map name_word ns ≡ word ∷ words) × AllByRecursion IsName ns) (some_inj _ _ others.2)
    (rw (f.0, o.0) refl, (f.1, o.1))

pub record AreRows (count : ℕ) (words : List (List ℕ)) (found : List KeyValue × List (List ℕ)) : Type 0 where
  pub spelled : words ≡ map row_word found.0 ++ found.1
  pub count_is : length found.0 ≡ count
  pub are : AllByRecursion IsRowInRange found.0

pub rows_spelled : (count : ℕ) (words : List (List ℕ)) (found : List KeyValue × List (List ℕ)) → read_rows count words ≡ Some found → AreRows count words found
rows_spelled zero words found e = subst (AreRows zero words) (some_inj _ _ e) (record { spelled = refl; count_is = refl; are = tt })
rows_spelled (suc count) [] found e = absurd (let no : None ≡ Some found = e in cc)
rows_spelled (suc count) (word ∷ words) found e =
    let first = then_some (read_row word) _ found e in
    let others = then_some (read_rows count words) _ found first.2 in
    let f = row_spelled word first.0 first.1 in
    let o = rows_spelled count words others.0 others.1 in
    subst (AreRows (suc count) (word ∷ words)) (some_inj _ _ others.2)
    (record { spelled = rw (f.0) (ap (λ ws. word ∷ ws) o.spelled); count_is = ap suc o.count_is; are = (f.1, o.are) })
