-- A line says an entry exactly where it is that entry's line, and the entry fits what stands above.
use Rattle.std.proofs.Common.{arith, ◌≡◌, ◌==◌, ◌+◌, ◌<◌, ◌≤◌, ◌^◌, ◌&&◌, ◌||◌, ◌++◌, ◌⊎◌, inl, inr, ℕ, nat_lt, nat_le, List, [], ◌∷◌, length, Bool, true, false, refl, sym, ap, subst, ◌∙◌, Option, Some, None, Result, Ok, Err, codes, if◌then◌else◌}
use Rattle.std.specs.Str.{bytes_eq}
use Rattle.std.specs.List.{list_all}
use Rattle.std.specs.Char.{is_ascii_digit}
use Rattle.std.specs.Fmt.{decimal}
use Rattle.std.proofs.lemmas.Bool.{lt-ltb, ltb-true, eqb-true}
use Rattle.std.proofs.lemmas.Bool.Decides.{nat_tests}
use Rattle.std.proofs.lemmas.Fmt.{digits_decimal, decimal_nonempty}
use Rattle.std.proofs.lemmas.Slice.Eq.{bytes_eq-Decides}
use Rattle.mp_script.specs.declared.statements.Stmt.{Stmt}
use Rattle.mp_script.specs.declared.statements.Stmt.TheVariants.{Begin, Get, Put, Del, Copy, Scan, Commit, Rollback}
use Rattle.mp_script.specs.declared.statements.Line.{Line}
use Rattle.mp_script.specs.declared.statements.SessionOn.{SessionOn}
use Rattle.mp_script.specs.declared.entries.Entry.{Entry}
use Rattle.mp_script.specs.declared.entries.Entry.TheVariants.{Session, Statement}
use Rattle.mp_script.specs.Text.{name_text, header_line_words, session_words, stmt_words, stmt_line_words}
use Rattle.mp_script.specs.Words.{name_digits, word_number, stmt_of, IsStmt}
use Rattle.mp_script.specs.Entries.{Said, nothing_said, with_entry, entry_words, is_declared, statements, has_open_trx}
use Rattle.mp_script.specs.Faults.{primaries_of, primaries_in, on_primary, new_session, declared_name, session_entry, may_stand, next_line, in_session, stmt_entry, entry_of}
use Rattle.mp_script.specs.Spelling.{MayStand, MayDeclare, MaySay, EntryFits}
use Rattle.mp_script.proofs.Numbers.{numerals, word_number-decimal, word_number-Some}
use Rattle.mp_script.proofs.Splitting.{and-parts, both}
use Rattle.mp_script.proofs.StmtWords.{stmt_of-stmt_words, stmt_of-Ok}

-- a choice by a word
by_word : {X : Type 0} (word name : List ℕ) (x y r : X) → (if bytes_eq word name then x else y) ≡ r → ((word ≡ name) × (x ≡ r)) ⊎ (y ≡ r)
by_word {X} word name x y r h = by_test (bytes_eq word name) (bytes_eq-Decides word name).0 h
  where
    by_test : (b : Bool) → (b ≡ true → word ≡ name) → (if b then x else y) ≡ r → ((word ≡ name) × (x ≡ r)) ⊎ (y ≡ r)
    by_test true same h = inl (same refl, h)
    by_test false same h = inr h

-- a choice by a test
by_bool : {X : Type 0} (b : Bool) (x y r : X) → (if b then x else y) ≡ r → ((b ≡ true) × (x ≡ r)) ⊎ ((b ≡ false) × (y ≡ r))
by_bool true x y r h = inl (refl, h)
by_bool false x y r h = inr (refl, h)

chosen : {X : Type 0} (b : Bool) (x y : X) → b ≡ true → (if b then x else y) ≡ x
chosen true x y h = refl
chosen false x y h = cc

passed : {X : Type 0} (b : Bool) (x y : X) → b ≡ false → (if b then x else y) ≡ y
passed true x y h = cc
passed false x y h = refl

same_word : {X : Type 0} (name : List ℕ) (x y : X) → (if bytes_eq name name then x else y) ≡ x
same_word name x y = chosen (bytes_eq name name) x y ((bytes_eq-Decides name name).1 refl)

-- the name of a session, and its digits
name_digits-Some : (word digits : List ℕ) → name_digits word ≡ Some digits → word ≡ 115 ∷ digits
name_digits-Some [] digits h = cc
name_digits-Some (letter ∷ rest) digits h = by_letter (letter == 115) _ refl h
  where
    by_letter : (a b : Bool) → (letter == 115) ≡ a → (if a && b then Some rest else None) ≡ Some digits → letter ∷ rest ≡ 115 ∷ digits
    by_letter true true e h = let l : letter ≡ 115 = eqb-true _ _ e in cc
    by_letter true false e h = cc
    by_letter false b e h = cc

name_digits-name : (session : ℕ) → session < 2 ^ 64 → name_digits (name_text session) ≡ Some (decimal session)
name_digits-name session h = chosen _ (Some (decimal session)) None (both (lt-ltb _ _ (decimal_nonempty session h)) (digits_decimal numerals session h))

-- what a line says that has no fault
abbrev Says : Said → List (List ℕ) → Entry → Type 0
Says said words entry = EntryFits said entry × (words ≡ entry_words entry)

nonzero : (n : ℕ) → (n == 0) ≡ false → 1 ≤ n
nonzero n h = grind (arith, nat_tests)

at_most : (n m : ℕ) → nat_lt m n ≡ false → n ≤ m
at_most n m h = grind (arith, nat_tests)

le-true : (n m : ℕ) → nat_le n m ≡ true → n ≤ m
le-true n m h = grind (arith, nat_tests)

abbrev on : ℕ → ℕ → SessionOn
on session primary = record { session = session; primary = primary }

-- a declared session's primary
record IsOnPrimary (said : Said) (session : ℕ) (word : Option ℕ) (entry : Entry) : Type 0 where
  primary : ℕ
  is : word ≡ Some primary
  low : 1 ≤ primary
  high : primary ≤ said.primaries
  new : is_declared said.sessions session ≡ false
  entry_is : Session (on session primary) ≡ entry

ok_same : {s t : Entry} → ◌≡◌ {A = Result Entry ℕ} (Ok s) (Ok t) → s ≡ t
ok_same h = cc

on_primary-Ok : (said : Said) (session : ℕ) (word : Option ℕ) (entry : Entry) → on_primary said session word ≡ Ok entry → IsOnPrimary said session word entry
on_primary-Ok said session None entry h = cc
on_primary-Ok said session (Some p) entry h =
    elim (by_bool (p == 0) _ _ _ h) [
      | inl a ↦ absurd (wrong a.1)
      | inr a ↦ elim (by_bool (nat_lt said.primaries p) _ _ _ a.1) [
        | inl b ↦ absurd (wrong b.1)
        | inr b ↦ elim (by_bool (is_declared said.sessions session) _ _ _ b.1) [
          | inl d ↦ absurd (wrong d.1)
          | inr d ↦ record { primary = p; is = refl; low = nonzero p a.0; high = at_most p said.primaries b.0; new = d.0; entry_is = ok_same d.1 }
        ]
      ]
    ]
  where
    wrong : {f : ℕ} → ◌≡◌ {A = Result Entry ℕ} (Err f) (Ok entry) → ⊥
    wrong e = cc

-- a declared session's number
record IsNewSession (said : Said) (word primary : Option ℕ) (entry : Entry) : Type 0 where
  session : ℕ
  is : word ≡ Some session
  low : 1 ≤ session
  high : session ≤ 64
  rest : on_primary said session primary ≡ Ok entry

new_session-Ok : (said : Said) (word primary : Option ℕ) (entry : Entry) → new_session said word primary ≡ Ok entry → IsNewSession said word primary entry
new_session-Ok said None primary entry h = cc
new_session-Ok said (Some s) primary entry h =
    elim (by_bool (s == 0) _ _ _ h) [
      | inl a ↦ absurd (wrong a.1)
      | inr a ↦ elim (by_bool (nat_le s 64) _ _ _ a.1) [
        | inl b ↦ record { session = s; is = refl; low = nonzero s a.0; high = le-true s 64 b.0; rest = b.1 }
        | inr b ↦ absurd (wrong b.1)
      ]
    ]
  where
    wrong : {f : ℕ} → ◌≡◌ {A = Result Entry ℕ} (Err f) (Ok entry) → ⊥
    wrong e = cc

four_words : {a b d x y z : List ℕ} → a ≡ x → b ≡ y → d ≡ z → codes "session" ∷ a ∷ b ∷ d ∷ [] ≡ codes "session" ∷ x ∷ y ∷ z ∷ []
four_words e f g = cc

session-says : (said : Said) (name primary : List ℕ) (o : Option (List ℕ)) (entry : Entry) → name_digits name ≡ o → declared_name said o primary ≡ Ok entry → Says said (codes "session" ∷ name ∷ codes "on" ∷ primary ∷ []) entry
session-says said name primary None entry n h = cc
session-says said name primary (Some digits) entry n h =
    let a : IsNewSession said (word_number digits) (word_number primary) entry = new_session-Ok said (word_number digits) (word_number primary) entry h in
    let b : IsOnPrimary said a.session (word_number primary) entry = on_primary-Ok said a.session (word_number primary) entry a.rest in
    let s : (digits ≡ decimal a.session) × (a.session < 2 ^ 32) = word_number-Some digits a.session a.is in
    let p : (primary ≡ decimal b.primary) × (b.primary < 2 ^ 32) = word_number-Some primary b.primary b.is in
    let name_is : name ≡ name_text a.session = name_digits-Some name digits n ∙ ap (λ d. 115 ∷ d) s.0 in
    subst (Says said (codes "session" ∷ name ∷ codes "on" ∷ primary ∷ [])) b.entry_is
    (record { session_low = a.low; session_high = a.high; primary_low = b.low; primary_high = b.high; new = b.new }, four_words name_is refl p.0)

session_entry-Ok : (said : Said) (words : List (List ℕ)) (entry : Entry) → session_entry said words ≡ Ok entry → Says said (codes "session" ∷ words) entry
session_entry-Ok said [] entry h = cc
session_entry-Ok said (name ∷ []) entry h = cc
session_entry-Ok said (name ∷ word ∷ []) entry h = cc
session_entry-Ok said (name ∷ word ∷ primary ∷ []) entry h =
    elim (by_word word (codes "on") _ _ _ h) [
      | inl a ↦ subst (λ w. Says said (codes "session" ∷ name ∷ w ∷ primary ∷ []) entry) (sym a.0) (session-says said name primary (name_digits name) entry refl a.1)
      | inr a ↦ cc
    ]
session_entry-Ok said (name ∷ word ∷ primary ∷ more ∷ rest) entry h = cc

-- a statement may stand exactly where it may
may_stand-true : (open_now : Bool) (stmt : Stmt) → may_stand open_now stmt ≡ true → MayStand open_now stmt
may_stand-true true Begin h = cc
may_stand-true false Begin h = tt
may_stand-true true (Get key) h = tt
may_stand-true false (Get key) h = cc
may_stand-true true (Put key value) h = tt
may_stand-true false (Put key value) h = cc
may_stand-true true (Del key) h = tt
may_stand-true false (Del key) h = cc
may_stand-true true (Copy from to) h = tt
may_stand-true false (Copy from to) h = cc
may_stand-true true (Scan low most) h = tt
may_stand-true false (Scan low most) h = cc
may_stand-true true Commit h = tt
may_stand-true false Commit h = cc
may_stand-true true Rollback h = tt
may_stand-true false Rollback h = cc

stands-true : (open_now : Bool) (stmt : Stmt) → MayStand open_now stmt → may_stand open_now stmt ≡ true
stands-true true Begin h = absurd h
stands-true false Begin h = refl
stands-true true (Get key) h = refl
stands-true false (Get key) h = absurd h
stands-true true (Put key value) h = refl
stands-true false (Put key value) h = absurd h
stands-true true (Del key) h = refl
stands-true false (Del key) h = absurd h
stands-true true (Copy from to) h = refl
stands-true false (Copy from to) h = absurd h
stands-true true (Scan low most) h = refl
stands-true false (Scan low most) h = absurd h
stands-true true Commit h = refl
stands-true false Commit h = absurd h
stands-true true Rollback h = refl
stands-true false Rollback h = absurd h

abbrev lined : ℕ → ℕ → Stmt → Line
lined session index stmt = record { session = session; index = index; stmt = stmt }

-- a session's next statement
record IsNextLine (said : Said) (session : ℕ) (r : Result Stmt ℕ) (entry : Entry) : Type 0 where
  stmt : Stmt
  is : r ≡ Ok stmt
  stands : MayStand (has_open_trx said.lines session) stmt
  room : length said.lines < 10000
  entry_is : Statement (lined session (statements said.lines session + 1) stmt) ≡ entry

next_line-Ok : (said : Said) (session : ℕ) (r : Result Stmt ℕ) (entry : Entry) → next_line said session r ≡ Ok entry → IsNextLine said session r entry
next_line-Ok said session (Err fault) entry h = cc
next_line-Ok said session (Ok stmt) entry h =
    elim (by_bool (may_stand (has_open_trx said.lines session) stmt) _ _ _ h) [
      | inl a ↦ elim (by_bool (nat_lt (length said.lines) 10000) _ _ _ a.1) [
        | inl b ↦ record { stmt = stmt; is = refl; stands = may_stand-true _ stmt a.0; room = ltb-true _ _ b.0; entry_is = ok_same b.1 }
        | inr b ↦ absurd (wrong b.1)
      ]
      | inr a ↦ absurd (wrong a.1)
    ]
  where
    wrong : {f : ℕ} → ◌≡◌ {A = Result Entry ℕ} (Err f) (Ok entry) → ⊥
    wrong e = cc

-- a statement's session
record IsInSession (said : Said) (word : Option ℕ) (words : List (List ℕ)) (entry : Entry) : Type 0 where
  session : ℕ
  is : word ≡ Some session
  declared : is_declared said.sessions session ≡ true
  rest : next_line said session (stmt_of words) ≡ Ok entry

in_session-Ok : (said : Said) (word : Option ℕ) (words : List (List ℕ)) (entry : Entry) → in_session said word words ≡ Ok entry → IsInSession said word words entry
in_session-Ok said None words entry h = cc
in_session-Ok said (Some s) words entry h =
    elim (by_bool (is_declared said.sessions s) _ _ _ h) [
      | inl a ↦ record { session = s; is = refl; declared = a.0; rest = a.1 }
      | inr a ↦ cc
    ]

one_more : {a x : List ℕ} {b y : List (List ℕ)} → a ≡ x → b ≡ y → a ∷ b ≡ x ∷ y
one_more e f = cc

stmt-says : (said : Said) (name : List ℕ) (words : List (List ℕ)) (o : Option (List ℕ)) (entry : Entry) → name_digits name ≡ o → stmt_entry said o words ≡ Ok entry → Says said (name ∷ words) entry
stmt-says said name words None entry n h = cc
stmt-says said name words (Some digits) entry n h =
    let a : IsInSession said (word_number digits) words entry = in_session-Ok said (word_number digits) words entry h in
    let b : IsNextLine said a.session (stmt_of words) entry = next_line-Ok said a.session (stmt_of words) entry a.rest in
    let s : (digits ≡ decimal a.session) × (a.session < 2 ^ 32) = word_number-Some digits a.session a.is in
    let w : (words ≡ stmt_words b.stmt) × IsStmt b.stmt = stmt_of-Ok words b.stmt b.is in
    let name_is : name ≡ name_text a.session = name_digits-Some name digits n ∙ ap (λ d. 115 ∷ d) s.0 in
    subst (Says said (name ∷ words)) b.entry_is
    (record { declared = a.declared; number = refl; within = w.1; stands = b.stands; room = b.room }, one_more name_is w.0)

-- what is said fits, and is spelled by its words
pub entry_of-Ok : (said : Said) (words : List (List ℕ)) (entry : Entry) → entry_of said words ≡ Ok entry → EntryFits said entry × (words ≡ entry_words entry)
entry_of-Ok said [] entry h = cc
entry_of-Ok said (first ∷ rest) entry h =
    elim (by_word first (codes "session") _ _ _ h) [
      | inl a ↦ subst (λ w. Says said (w ∷ rest) entry) (sym a.0) (session_entry-Ok said rest entry a.1)
      | inr a ↦ stmt-says said first rest (name_digits first) entry refl a
    ]

-- the first line: two words, and a number from 1 to 8
pub header_of-Ok : (words : List (List ℕ)) (primaries : ℕ) → primaries_in words ≡ Ok primaries → (words ≡ header_line_words primaries) × (1 ≤ primaries) × (primaries ≤ 8)
header_of-Ok [] primaries h = cc
header_of-Ok (word ∷ []) primaries h = cc
header_of-Ok (word ∷ number ∷ []) primaries h =
    elim (by_word word (codes "primaries") _ _ _ h) [
      | inl a ↦ by_number (word_number number) refl a.0 a.1
      | inr a ↦ cc
    ]
  where
    two : {a b x y : List ℕ} → a ≡ x → b ≡ y → a ∷ b ∷ [] ≡ x ∷ y ∷ []
    two e f = cc

    ok_number : {m n : ℕ} → ◌≡◌ {A = Result ℕ ℕ} (Ok m) (Ok n) → m ≡ n
    ok_number e = cc

    wrong : {f : ℕ} → ◌≡◌ {A = Result ℕ ℕ} (Err f) (Ok primaries) → ⊥
    wrong e = cc

    by_number : (o : Option ℕ) → word_number number ≡ o → word ≡ codes "primaries" → primaries_of o ≡ Ok primaries → (word ∷ number ∷ [] ≡ header_line_words primaries) × (1 ≤ primaries) × (primaries ≤ 8)
    by_number None n w e = cc
    by_number (Some p) n w e =
        elim (by_bool (p == 0) _ _ _ e) [
          | inl a ↦ absurd (wrong a.1)
          | inr a ↦ elim (by_bool (nat_le p 8) _ _ _ a.1) [
            | inl b ↦
                let same : p ≡ primaries = ok_number b.1 in
                let t : (number ≡ decimal p) × (p < 2 ^ 32) = word_number-Some number p n in
                let low : 1 ≤ p = nonzero p a.0 in
                let high : p ≤ 8 = le-true p 8 b.0 in
                (two w (t.0 ∙ ap decimal same), omega (arith, low, same), omega (arith, high, same))
            | inr b ↦ absurd (wrong b.1)
          ]
        ]
header_of-Ok (word ∷ number ∷ more ∷ rest) primaries h = cc

not_zero : (n : ℕ) → 1 ≤ n → (n == 0) ≡ false
not_zero n h = grind (arith, nat_tests)

le-test : (n m : ℕ) → n ≤ m → nat_le n m ≡ true
le-test n m h = grind (arith, nat_tests)

not_above : (n m : ℕ) → n ≤ m → nat_lt m n ≡ false
not_above n m h = grind (arith, nat_tests)

pub header_of-words : (primaries : ℕ) → 1 ≤ primaries → primaries ≤ 8 → primaries_in (header_line_words primaries) ≡ Ok primaries
header_of-words primaries low high =
    ap primaries_of (word_number-decimal primaries (omega arith))
    ∙ passed (primaries == 0) _ _ (not_zero primaries low)
    ∙ chosen (nat_le primaries 8) _ _ (le-test primaries 8 high)

-- below 8 primaries and 64 sessions
pub record IsBounded (said : Said) : Type 0 where
  pub primaries : said.primaries ≤ 8
  pub sessions : (session : ℕ) → is_declared said.sessions session ≡ true → session ≤ 64

session-read : (said : Said) (s : SessionOn) → IsBounded said → MayDeclare said s → entry_of said (session_words s) ≡ Ok (Session s)
session-read said s b h =
    let name : name_digits (name_text s.session) ≡ Some (decimal s.session) = name_digits-name s.session (omega (arith, h.session_high)) in
    let number : word_number (decimal s.session) ≡ Some s.session = word_number-decimal s.session (omega (arith, h.session_high)) in
    let primary : word_number (decimal s.primary) ≡ Some s.primary = word_number-decimal s.primary (omega (arith, h.primary_high, b.primaries)) in
    ap (λ o. declared_name said o (decimal s.primary)) name
    ∙ ap (λ o. new_session said o (word_number (decimal s.primary))) number
    ∙ passed (s.session == 0) _ _ (not_zero s.session h.session_low)
    ∙ chosen (nat_le s.session 64) _ _ (le-test s.session 64 h.session_high)
    ∙ ap (on_primary said s.session) primary
    ∙ passed (s.primary == 0) _ _ (not_zero s.primary h.primary_low)
    ∙ passed (nat_lt said.primaries s.primary) _ _ (not_above s.primary said.primaries h.primary_high)
    ∙ passed (is_declared said.sessions s.session) _ _ h.new

digits_differ : (word : List ℕ) → list_all is_ascii_digit word ≡ true → bytes_eq (115 ∷ word) (codes "session") ≡ false
digits_differ [] h = refl
digits_differ (c ∷ cs) h = wrong_letter (c == 101) _ (no_letter c (and-parts h).0)
  where
    no_letter : (b : ℕ) → is_ascii_digit b ≡ true → (b == 101) ≡ false
    no_letter b h = grind (arith, nat_tests)

    wrong_letter : (a b : Bool) → a ≡ false → (a && b) ≡ false
    wrong_letter true b e = cc
    wrong_letter false b e = refl

line-read : (said : Said) (line : Line) → IsBounded said → MaySay said line → entry_of said (stmt_line_words line) ≡ Ok (Statement line)
line-read said line b h =
    let low : line.session ≤ 64 = b.sessions line.session h.declared in
    let name : name_digits (name_text line.session) ≡ Some (decimal line.session) = name_digits-name line.session (omega (arith, low)) in
    let number : word_number (decimal line.session) ≡ Some line.session = word_number-decimal line.session (omega (arith, low)) in
    passed (bytes_eq (name_text line.session) (codes "session")) _ _ (digits_differ (decimal line.session) (digits_decimal numerals line.session (omega (arith, low))))
    ∙ ap (λ o. stmt_entry said o (stmt_words line.stmt)) name
    ∙ ap (λ o. in_session said o (stmt_words line.stmt)) number
    ∙ chosen (is_declared said.sessions line.session) _ _ h.declared
    ∙ ap (next_line said line.session) (stmt_of-stmt_words line.stmt h.within)
    ∙ chosen (may_stand (has_open_trx said.lines line.session) line.stmt) _ _ (stands-true _ line.stmt h.stands)
    ∙ chosen (nat_lt (length said.lines) 10000) _ _ (lt-ltb _ _ h.room)
    ∙ ap (λ i. Ok (Statement (lined line.session i line.stmt))) (sym h.number)

-- the words of an entry that fits are read as it
pub entry_of-words : (said : Said) (entry : Entry) → IsBounded said → EntryFits said entry → entry_of said (entry_words entry) ≡ Ok entry
entry_of-words said (Session s) b h = session-read said s b h
entry_of-words said (Statement line) b h = line-read said line b h

declared-push : (sessions : List SessionOn) (s : SessionOn) (session : ℕ) → is_declared (sessions ++ s ∷ []) session ≡ true → (is_declared sessions session ≡ true) ⊎ (session ≡ s.session)
declared-push [] s session h = last (session == s.session) refl h
  where
    last : (b : Bool) → (session == s.session) ≡ b → (b || false) ≡ true → (false ≡ true) ⊎ (session ≡ s.session)
    last true e h = inr (eqb-true _ _ e)
    last false e h = inl h
declared-push (x ∷ sessions) s session h = first (session == x.session) (declared-push sessions s session) h
  where
    first : (b : Bool) → (is_declared (sessions ++ s ∷ []) session ≡ true → (is_declared sessions session ≡ true) ⊎ (session ≡ s.session)) → (b || is_declared (sessions ++ s ∷ []) session) ≡ true → ((b || is_declared sessions session) ≡ true) ⊎ (session ≡ s.session)
    first true rest h = inl refl
    first false rest h = rest h

pub bounded-next : (said : Said) (entry : Entry) → IsBounded said → EntryFits said entry → IsBounded (with_entry said entry)
bounded-next said (Session s) b h = record { primaries = b.primaries; sessions = λ session d. elim (declared-push said.sessions s session d) [ inl old ↦ b.sessions session old | inr new ↦ omega (arith, new, h.session_high) ] }
bounded-next said (Statement line) b h = record { primaries = b.primaries; sessions = b.sessions }

pub bounded-start : (primaries : ℕ) → primaries ≤ 8 → IsBounded (nothing_said primaries)
bounded-start primaries h = record { primaries = h; sessions = λ session d. cc }
