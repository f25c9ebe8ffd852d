-- Bytes spell a script exactly where its lines say it without a fault, and they spell one alone.
use Rattle.std.proofs.Common.{arith, ◌≡◌, ◌≤◌, nat_le, ℕ, List, [], ◌∷◌, length, map, Bool, true, false, refl, sym, ap, subst, ◌∙◌, None, Result, Ok, Err, IfOk, if◌then◌else◌}
use Rattle.std.specs.Result.{result_err}
use Rattle.std.proofs.lemmas.Bool.Decides.{nat_tests}
use Rattle.mp_script.specs.declared.statements.Script.{Script}
use Rattle.mp_script.specs.declared.entries.Entry.{Entry}
use Rattle.mp_script.specs.declared.entries.Entry.TheVariants.{Session, Statement}
use Rattle.mp_script.specs.declared.reading.ScriptRefusal.{ScriptRefusal}
use Rattle.mp_script.specs.declared.reading.ScriptRefusal.TheVariants.{Fault, Memory}
use Rattle.mp_script.specs.Text.{header_line_words}
use Rattle.mp_script.specs.Words.{Kept, kept_lines}
use Rattle.mp_script.specs.Entries.{Said, nothing_said, with_entry, said_after, entry_words}
use Rattle.mp_script.specs.Faults.{FaultAt, at_line, primaries_in, entry_of, said_below, said_by, said_within, most_script_bytes, script_fault}
use Rattle.mp_script.specs.Spelling.{EntryFits, AllFit, said_of, SpellsBy, Spells, IsSameScript, IsRead}
use Rattle.mp_script.specs.Readings.{GivesSaid}
use Rattle.mp_script.proofs.EntryLaws.{header_of-Ok, header_of-words, entry_of-Ok, entry_of-words, IsBounded, bounded-next, bounded-start}

abbrev words_in : List Kept → List (List (List ℕ))
words_in kept = map (λ k. k.words) kept

-- what lines say that have no fault
pub record SaysAll (said : Said) (kept : List Kept) (all : Said) : Type 0 where
  pub entries : List Entry
  pub fit : AllFit said entries
  pub words : words_in kept ≡ map entry_words entries
  pub whole : said_after said entries ≡ all

ok_said : {x y : Said} → ◌≡◌ {A = Result Said FaultAt} (Ok x) (Ok y) → x ≡ y
ok_said e = cc

at_line-Ok : {X Y : Type 0} (line : ℕ) (r : Result X ℕ) (next : X → Result Y FaultAt) (y : Y) → at_line line r next ≡ Ok y → (x : X) × ((r ≡ Ok x) × (next x ≡ Ok y))
at_line-Ok line (Ok x) next y h = (x, (refl, h))
at_line-Ok line (Err fault) next y h = cc

one_more : {x y : List (List ℕ)} {xs ys : List (List (List ℕ))} → x ≡ y → xs ≡ ys → x ∷ xs ≡ y ∷ ys
one_more p q = cc

pub said_below-Ok : (said : Said) (kept : List Kept) (all : Said) → said_below said kept ≡ Ok all → SaysAll said kept all
said_below-Ok said [] all h = record { entries = []; fit = tt; words = refl; whole = ok_said h }
said_below-Ok said (kept ∷ rest) all h =
    let a : (entry : Entry) × ((entry_of said kept.words ≡ Ok entry) × (said_below (with_entry said entry) rest ≡ Ok all)) = at_line-Ok kept.number (entry_of said kept.words) (λ entry. said_below (with_entry said entry) rest) all h in
    let b : EntryFits said a.0 × (kept.words ≡ entry_words a.0) = entry_of-Ok said kept.words a.0 a.1.0 in
    let d : SaysAll (with_entry said a.0) rest all = said_below-Ok (with_entry said a.0) rest all a.1.1 in
    record { entries = a.0 ∷ d.entries; fit = (b.0, d.fit); words = one_more b.1 d.words; whole = d.whole }

same_first : {x y : List (List ℕ)} {xs ys : List (List (List ℕ))} → x ∷ xs ≡ y ∷ ys → x ≡ y
same_first p = cc

same_rest : {x y : List (List ℕ)} {xs ys : List (List (List ℕ))} → x ∷ xs ≡ y ∷ ys → xs ≡ ys
same_rest p = cc

pub said_below-words : (said : Said) (kept : List Kept) (entries : List Entry) → IsBounded said → AllFit said entries → words_in kept ≡ map entry_words entries → said_below said kept ≡ Ok (said_after said entries)
said_below-words said [] [] b f w = refl
said_below-words said [] (entry ∷ entries) b f w = cc
said_below-words said (kept ∷ rest) [] b f w = cc
said_below-words said (kept ∷ rest) (entry ∷ entries) b f w =
    ap (λ r. at_line kept.number r (λ e. said_below (with_entry said e) rest)) (ap (entry_of said) (same_first w) ∙ entry_of-words said entry b f.0)
    ∙ said_below-words (with_entry said entry) rest entries (bounded-next said entry b f.0) f.1 (same_rest w)

primaries-after : (said : Said) (entries : List Entry) → (said_after said entries).primaries ≡ said.primaries
primaries-after said [] = refl
primaries-after said (Session s ∷ entries) = primaries-after (with_entry said (Session s)) entries
primaries-after said (Statement line ∷ entries) = primaries-after (with_entry said (Statement line)) entries

pub said_by-Ok : (kept : List Kept) (script : Script) → said_by kept ≡ Ok (said_of script) → (entries : List Entry) × SpellsBy kept script entries
said_by-Ok [] script h = cc
said_by-Ok (kept ∷ rest) script h =
    let a : (primaries : ℕ) × ((primaries_in kept.words ≡ Ok primaries) × (said_below (nothing_said primaries) rest ≡ Ok (said_of script))) = at_line-Ok kept.number (primaries_in kept.words) (λ n. said_below (nothing_said n) rest) (said_of script) h in
    let b : (kept.words ≡ header_line_words a.0) × (1 ≤ a.0) × (a.0 ≤ 8) = header_of-Ok kept.words a.0 a.1.0 in
    let d : SaysAll (nothing_said a.0) rest (said_of script) = said_below-Ok (nothing_said a.0) rest (said_of script) a.1.1 in
    let same : a.0 ≡ script.primaries = sym (primaries-after (nothing_said a.0) d.entries) ∙ ap (λ s. s.primaries) d.whole in (
      d.entries,
      record {
        primaries_low = omega (arith, b.1, same);
        primaries_high = omega (arith, b.2, same);
        words = one_more (b.0 ∙ ap header_line_words same) d.words;
        fit = subst (λ n. AllFit (nothing_said n) d.entries) same d.fit;
        whole = ap (λ n. said_after (nothing_said n) d.entries) (sym same) ∙ d.whole;
      },
    )

pub said_by-words : (kept : List Kept) (script : Script) (entries : List Entry) → SpellsBy kept script entries → said_by kept ≡ Ok (said_of script)
said_by-words [] script entries h = let w : [] ≡ header_line_words script.primaries ∷ map entry_words entries = h.words in cc
said_by-words (kept ∷ rest) script entries h =
    ap (λ r. at_line kept.number r (λ n. said_below (nothing_said n) rest)) (ap primaries_in (same_first h.words) ∙ header_of-words script.primaries h.primaries_low h.primaries_high)
    ∙ said_below-words (nothing_said script.primaries) rest entries (bounded-start script.primaries h.primaries_high) h.fit (same_rest h.words)
    ∙ ap Ok h.whole

le-true : (n m : ℕ) → nat_le n m ≡ true → n ≤ m
le-true n m h = grind (arith, nat_tests)

le-test : (n m : ℕ) → n ≤ m → nat_le n m ≡ true
le-test n m h = grind (arith, nat_tests)

within-Ok : (b : Bool) (x : Result Said FaultAt) (f : FaultAt) (s : Said) → (if b then x else Err f) ≡ Ok s → (b ≡ true) × (x ≡ Ok s)
within-Ok true x f s h = (refl, h)
within-Ok false x f s h = cc

chosen : (b : Bool) (x y : Result Said FaultAt) → b ≡ true → (if b then x else y) ≡ x
chosen true x y h = refl
chosen false x y h = cc

-- what is said without a fault is spelled
pub said_within-Ok : (bytes : List ℕ) (script : Script) → said_within most_script_bytes bytes ≡ Ok (said_of script) → Spells bytes script
said_within-Ok bytes script h =
    let a : (nat_le (length bytes) most_script_bytes ≡ true) × (said_by (kept_lines bytes) ≡ Ok (said_of script)) = within-Ok (nat_le (length bytes) most_script_bytes) _ _ (said_of script) h in
    let b : (entries : List Entry) × SpellsBy (kept_lines bytes) script entries = said_by-Ok (kept_lines bytes) script a.1 in
    record { size = le-true _ _ a.0; entries = b.0; spelled = b.1 }

-- what is spelled is said without a fault
pub spelled-said : (bytes : List ℕ) (script : Script) → Spells bytes script → said_within most_script_bytes bytes ≡ Ok (said_of script)
spelled-said bytes script h = chosen (nat_le (length bytes) most_script_bytes) _ _ (le-test _ _ h.size) ∙ said_by-words (kept_lines bytes) script h.entries h.spelled

-- bytes that spell a script have no fault
pub spelled-no_fault : (bytes : List ℕ) (script : Script) → Spells bytes script → script_fault bytes ≡ None
spelled-no_fault bytes script h = ap (λ r. result_err r) (spelled-said bytes script h)

same_script : (a b : Script) → said_of a ≡ said_of b → IsSameScript a b
same_script a b e = record { primaries = ap (λ s. s.primaries) (sym e); sessions = ap (λ s. s.sessions) (sym e); lines = ap (λ s. s.lines) (sym e) }

-- bytes spell one script alone
pub spelled-once : (bytes : List ℕ) (a b : Script) → Spells bytes a → Spells bytes b → IsSameScript a b
spelled-once bytes a b p q = same_script a b (ok_said (sym (spelled-said bytes a p) ∙ spelled-said bytes b q))

-- the reader's answers, by these
pub gives-found : (bytes : List ℕ) (r : Result Script ScriptRefusal) → GivesSaid said_of (said_within most_script_bytes bytes) r → IfOk r (Spells bytes)
gives-found bytes (Ok script) g = said_within-Ok bytes script g
gives-found bytes (Err refusal) g = tt

pub gives-only : (bytes : List ℕ) (r : Result Script ScriptRefusal) → GivesSaid said_of (said_within most_script_bytes bytes) r → (script : Script) → Spells bytes script → IsRead script r
gives-only bytes (Ok read) g script h = same_script script read (ok_said (sym (spelled-said bytes script h) ∙ g))
gives-only bytes (Err (Fault fault line)) g script h = let wrong : ◌≡◌ {A = Result Said FaultAt} (Ok (said_of script)) (Err (record { fault = fault; line = line })) = sym (spelled-said bytes script h) ∙ g in absurd (differ wrong)
  where
    differ : {f : FaultAt} → ◌≡◌ {A = Result Said FaultAt} (Ok (said_of script)) (Err f) → ⊥
    differ e = cc
gives-only bytes (Err Memory) g script h = tt

-- bytes without a fault spell the script that they say
pub no_fault-spelled : (bytes : List ℕ) → script_fault bytes ≡ None → (script : Script) × Spells bytes script
no_fault-spelled bytes none = go (said_within most_script_bytes bytes) refl none
  where
    go : (said : Result Said FaultAt) → said_within most_script_bytes bytes ≡ said → result_err said ≡ None → (script : Script) × Spells bytes script
    go (Ok said) says nothing =
        let script : Script = record { primaries = said.primaries; sessions = record { items = said.sessions; spare = 0 }; lines = record { items = said.lines; spare = 0 } } in
        (script, said_within-Ok bytes script says)
    go (Err fault) says nothing = cc
