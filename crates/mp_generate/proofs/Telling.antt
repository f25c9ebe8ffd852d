-- A script whose sessions may be declared and whose statements may then be said is spelled by the text that says so.
use Rattle.std.proofs.Common.{arith, ◌≡◌, ◌==◌, ◌+◌, ◌*◌, ◌<◌, ◌≤◌, ◌^◌, ◌++◌, ℕ, List, [], ◌∷◌, length, map, Bool, true, false, not, nat_le, suc, ◌&&◌, codes, refl, sym, ap, subst, ◌∙◌, append_assoc, if◌then◌else◌}
use Rattle.std.specs.Fmt.{decimal}
use Rattle.std.specs.List.{list_all, slice_split}
use Rattle.std.proofs.lemmas.Fmt.{length-decimal-le}
use Rattle.std.proofs.lemmas.List.{length-append}
use Rattle.std.proofs.lemmas.Bool.Decides.{nat_tests}
use Rattle.mp_model.specs.Values.{is_value}
use Rattle.mp_script.specs.declared.statements.Stmt.{Stmt}
use Rattle.mp_script.specs.declared.statements.Stmt.TheVariants.{Begin, Get, Put, Del, Copy, Scan, Commit, Rollback}
use Rattle.mp_script.specs.declared.statements.Line.{Line}
use Rattle.mp_script.specs.declared.statements.SessionOn.{SessionOn}
use Rattle.mp_script.specs.declared.statements.Script.{Script}
use Rattle.mp_script.specs.declared.entries.Entry.{Entry}
use Rattle.mp_script.specs.declared.entries.Entry.TheVariants.{Session, Statement}
use Rattle.mp_script.specs.Text.{name_text, header_line_words, session_words, stmt_words, stmt_line_words, words_text, lines_text}
use Rattle.mp_script.specs.Words.{IsStmt, Kept, is_skipped, kept_from, kept_lines}
use Rattle.mp_script.specs.Entries.{Said, nothing_said, with_entry, entry_words, said_after}
use Rattle.mp_script.specs.Spelling.{AllFit, EntryFits, Spells, said_of}
use Rattle.mp_script.proofs.Splitting.{lacks, and-parts, both, split_more}
use Rattle.mp_script.proofs.WordBytes.{plain, plain-decimal, plain-name, plain-stmt, words-of-text, text-is-one_line}
use Rattle.mp_script.proofs.EntryLaws.{IsBounded, bounded-start, bounded-next}
use Rattle.mp_script.proofs.Canonical.{said, lines_in, after-whole, AllDeclared, AllSaid, canonical, fit-canonical, sessions_in-canonical, lines_in-canonical}

-- ended lines are split into themselves and an empty rest
split-ended : (lines : List (List ℕ)) → list_all (lacks 10) lines ≡ true → slice_split (λ b. b == 10) (lines_text lines) ≡ lines ++ [] ∷ []
split-ended [] h = refl
split-ended (line ∷ lines) h =
    let parts : (lacks 10 line ≡ true) × (list_all (lacks 10) lines ≡ true) = and-parts h in
    ap (slice_split (λ b. b == 10)) (append_assoc line (10 ∷ []) (lines_text lines))
    ∙ split_more 10 line (lines_text lines) parts.0
    ∙ ap (λ rest. line ∷ rest) (split-ended lines parts.1)

-- words that are a line of their own: plain, and the first doesn't begin with `#`
abbrev is_line : List (List ℕ) → Bool
is_line [] = false
is_line (word ∷ words) = list_all plain (word ∷ words) && not (is_skipped (words_text (word ∷ words)))

abbrev words_in : List Kept → List (List (List ℕ))
words_in kept = map (λ k. k.words) kept

not-skipped : (b : Bool) (x y : List Kept) → not b ≡ true → (if b then x else y) ≡ y
not-skipped true x y h = cc
not-skipped false x y h = refl

one_more : {x y : List (List ℕ)} {xs ys : List (List (List ℕ))} → x ≡ y → xs ≡ ys → x ∷ xs ≡ y ∷ ys
one_more p q = cc

kept-again : (number : ℕ) (lines : List (List (List ℕ))) → list_all is_line lines ≡ true → words_in (kept_from number (map words_text lines ++ [] ∷ [])) ≡ lines
kept-again number [] h = refl
kept-again number ([] ∷ lines) h = cc
kept-again number ((word ∷ words) ∷ lines) h =
    let parts : (is_line (word ∷ words) ≡ true) × (list_all is_line lines ≡ true) = and-parts h in
    let line : (list_all plain (word ∷ words) ≡ true) × (not (is_skipped (words_text (word ∷ words))) ≡ true) = and-parts parts.0 in
    ap words_in (not-skipped (is_skipped (words_text (word ∷ words))) _ _ line.1)
    ∙ one_more (words-of-text word words line.0) (kept-again (number + 1) lines parts.1)

line-lacks_end : (words : List (List ℕ)) → is_line words ≡ true → lacks 10 (words_text words) ≡ true
line-lacks_end [] h = cc
line-lacks_end (word ∷ words) h = text-is-one_line (word ∷ words) (and-parts h).0

lines-lack_end : (lines : List (List (List ℕ))) → list_all is_line lines ≡ true → list_all (lacks 10) (map words_text lines) ≡ true
lines-lack_end [] h = refl
lines-lack_end (words ∷ lines) h = both (line-lacks_end words (and-parts h).0) (lines-lack_end lines (and-parts h).1)

kept-text : (lines : List (List (List ℕ))) → list_all is_line lines ≡ true → words_in (kept_lines (lines_text (map words_text lines))) ≡ lines
kept-text lines h = ap (λ pieces. words_in (kept_from 1 pieces)) (split-ended (map words_text lines) (lines-lack_end lines h)) ∙ kept-again 1 lines h

header-is_line : (n : ℕ) → n < 2 ^ 64 → is_line (header_line_words n) ≡ true
header-is_line n h = both (both (plain-decimal n h) refl) refl

session-is_line : (s : SessionOn) → s.session < 2 ^ 64 → s.primary < 2 ^ 64 → is_line (session_words s) ≡ true
session-is_line s h l = both (both (plain-name s.session h) (both (plain-decimal s.primary l) refl)) refl

begins : (session : ℕ) (stmt : Stmt) → not (is_skipped (words_text (name_text session ∷ stmt_words stmt))) ≡ true
begins session Begin = refl
begins session (Get key) = refl
begins session (Put key value) = refl
begins session (Del key) = refl
begins session (Copy from to) = refl
begins session (Scan low most) = refl
begins session Commit = refl
begins session Rollback = refl

statement-is_line : (line : Line) → line.session < 2 ^ 64 → IsStmt line.stmt → is_line (stmt_line_words line) ≡ true
statement-is_line line h w = both (both (plain-name line.session h) (plain-stmt line.stmt w)) (begins line.session line.stmt)

short-decimal : (n : ℕ) → n < 2 ^ 32 → length (decimal n) ≤ 10
short-decimal n h = length-decimal-le 10 n (omega arith) (omega arith) (omega arith)

value-short : (value : List ℕ) → is_value value ≡ true → length value ≤ 32
value-short value h = le-true _ _ (and-parts (and-parts h).0).1
  where
    le-true : (n m : ℕ) → nat_le n m ≡ true → n ≤ m
    le-true n m h = grind (arith, nat_tests)

-- a line has at most 61 bytes
abbrev Short : List (List ℕ) → Type 0
Short words = length (words_text words) ≤ 61

header-short : (n : ℕ) → n < 2 ^ 32 → Short (header_line_words n)
header-short n h = omega (arith, short-decimal n h)

session-short : (s : SessionOn) → s.session < 2 ^ 32 → s.primary < 2 ^ 32 → Short (session_words s)
session-short s h l = omega (arith, short-decimal s.session h, short-decimal s.primary l, length-append {A = ℕ} (decimal s.session) (32 ∷ 111 ∷ 110 ∷ 32 ∷ decimal s.primary))

stmt-short : (session : ℕ) (stmt : Stmt) → session < 2 ^ 32 → IsStmt stmt → Short (name_text session ∷ stmt_words stmt)
stmt-short session Begin h w = omega (arith, short-decimal session h, length-append {A = ℕ} (decimal session) (32 ∷ codes "begin"))
stmt-short session (Get key) h w = omega (arith, short-decimal session h, short-decimal key w, length-append {A = ℕ} (decimal session) (32 ∷ (codes "get" ++ 32 ∷ decimal key)))
stmt-short session (Put key value) h w = omega (arith, short-decimal session h, short-decimal key w.0, value-short value w.1, length-append {A = ℕ} (decimal session) (32 ∷ (codes "put" ++ 32 ∷ (decimal key ++ 32 ∷ value))), length-append {A = ℕ} (decimal key) (32 ∷ value))
stmt-short session (Del key) h w = omega (arith, short-decimal session h, short-decimal key w, length-append {A = ℕ} (decimal session) (32 ∷ (codes "del" ++ 32 ∷ decimal key)))
stmt-short session (Copy from to) h w = omega (arith, short-decimal session h, short-decimal from w.0, short-decimal to w.1, length-append {A = ℕ} (decimal session) (32 ∷ (codes "copy" ++ 32 ∷ (decimal from ++ 32 ∷ decimal to))), length-append {A = ℕ} (decimal from) (32 ∷ decimal to))
stmt-short session (Scan low most) h w = omega (arith, short-decimal session h, short-decimal low w.0, short-decimal most (omega (arith, w.1)), length-append {A = ℕ} (decimal session) (32 ∷ (codes "scan" ++ 32 ∷ (decimal low ++ 32 ∷ decimal most))), length-append {A = ℕ} (decimal low) (32 ∷ decimal most))
stmt-short session Commit h w = omega (arith, short-decimal session h, length-append {A = ℕ} (decimal session) (32 ∷ codes "commit"))
stmt-short session Rollback h w = omega (arith, short-decimal session h, length-append {A = ℕ} (decimal session) (32 ∷ codes "rollback"))

entry-is_line : (said : Said) (entry : Entry) → IsBounded said → EntryFits said entry → (is_line (entry_words entry) ≡ true) × Short (entry_words entry)
entry-is_line said (Session s) b h = (session-is_line s (omega (arith, h.session_high)) (omega (arith, h.primary_high, b.primaries)), session-short s (omega (arith, h.session_high)) (omega (arith, h.primary_high, b.primaries)))
entry-is_line said (Statement line) b h =
    let low : line.session ≤ 64 = b.sessions line.session h.declared in
    (statement-is_line line (omega (arith, low)) h.within, stmt-short line.session line.stmt (omega (arith, low)) h.within)

entries-are_lines : (said : Said) (entries : List Entry) → IsBounded said → AllFit said entries → (list_all is_line (map entry_words entries) ≡ true) × (length (lines_text (map words_text (map entry_words entries))) ≤ 62 * length entries)
entries-are_lines said [] b f = (refl, omega arith)
entries-are_lines said (entry ∷ entries) b f =
    let one : (is_line (entry_words entry) ≡ true) × Short (entry_words entry) = entry-is_line said entry b f.0 in
    let rest : (list_all is_line (map entry_words entries) ≡ true) × (length (lines_text (map words_text (map entry_words entries))) ≤ 62 * length entries) = entries-are_lines (with_entry said entry) entries (bounded-next said entry b f.0) f.1 in
    (both one.0 rest.0, sized (words_text (entry_words entry)) (lines_text (map words_text (map entry_words entries))) (length entries) one.1 rest.1)
  where
    sized : (line text : List ℕ) (n : ℕ) → length line ≤ 61 → length text ≤ 62 * n → length ((line ++ 10 ∷ []) ++ text) ≤ 62 * suc n
    sized line text n l t = omega (arith, length-append {A = ℕ} (line ++ 10 ∷ []) text, length-append {A = ℕ} line (10 ∷ []))

length-canonical : (ss : List SessionOn) (ls : List Line) → length (canonical ss ls) ≡ length ss + length ls
length-canonical [] [] = refl
length-canonical [] (line ∷ ls) = let rest : length (canonical [] ls) ≡ 0 + length ls = length-canonical [] ls in omega (arith, rest)
length-canonical (s ∷ ss) ls = let rest : length (canonical ss ls) ≡ length ss + length ls = length-canonical ss ls in omega (arith, rest)

pub told : (script : Script) (n : ℕ) (ss : List SessionOn) (ls : List Line) → said_of script ≡ said n ss ls → 1 ≤ n → n ≤ 8 → AllDeclared n [] ss → AllSaid n ss [] ls → length ss + length ls ≤ 10064
    → (bytes : List ℕ) × Spells bytes script
told script n ss ls is low high declared may few =
    let entries : List Entry = canonical ss ls in
    let lines : List (List (List ℕ)) = map entry_words entries in
    let fit : AllFit (nothing_said n) entries = fit-canonical n [] ss ls declared may in
    let primaries : script.primaries ≡ n = ap (λ s. s.primaries) is in
    let all : (list_all is_line lines ≡ true) × (length (lines_text (map words_text lines)) ≤ 62 * length entries) = entries-are_lines (nothing_said n) entries (bounded-start n high) fit in
    let count : length entries ≡ length ss + length ls = length-canonical ss ls in (
      lines_text (map words_text (header_line_words n ∷ lines)),
      record {
        size = sized (words_text (header_line_words n)) (lines_text (map words_text lines)) (length entries) (header-short n (omega (arith, high))) all.1 (omega (arith, count, few));
        entries = entries;
        spelled = record {
          primaries_low = omega (arith, primaries, low);
          primaries_high = omega (arith, primaries, high);
          words = kept-text (header_line_words n ∷ lines) (both (header-is_line n (omega (arith, high))) all.0) ∙ ap (λ k. header_line_words k ∷ lines) (sym primaries);
          fit = subst (λ k. AllFit (nothing_said k) entries) (sym primaries) fit;
          whole = ap (λ k. said_after (nothing_said k) entries) primaries ∙ after-whole n [] [] entries ∙ ap (λ x. said n x (lines_in entries)) (sessions_in-canonical ss ls) ∙ ap (said n ss) (lines_in-canonical ss ls) ∙ sym is;
        };
      },
    )
  where
    sized : (header text : List ℕ) (n : ℕ) → length header ≤ 61 → length text ≤ 62 * n → n ≤ 10064 → length ((header ++ 10 ∷ []) ++ text) ≤ 1048576
    sized header text n l t few = omega (arith, length-append {A = ℕ} (header ++ 10 ∷ []) text, length-append {A = ℕ} header (10 ∷ []))
