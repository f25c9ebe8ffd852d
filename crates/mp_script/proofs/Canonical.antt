-- What a script's lines say in any order, they say with the sessions first.
use Rattle.std.proofs.Common.{◌≡◌, ◌==◌, ◌||◌, ◌++◌, ℕ, List, [], ◌∷◌, map, Bool, true, false, refl, sym, ap, subst, ◌∙◌, append_assoc, append-nil}
use Rattle.mp_script.specs.declared.statements.Line.{Line}
use Rattle.mp_script.specs.declared.statements.SessionOn.{SessionOn}
use Rattle.mp_script.specs.declared.entries.Entry.{Entry}
use Rattle.mp_script.specs.declared.entries.Entry.TheVariants.{Session, Statement}
use Rattle.mp_script.specs.Entries.{Said, said_after, is_declared}
use Rattle.mp_script.specs.Spelling.{MayDeclare, MaySay, AllFit}

abbrev pub said : ℕ → List SessionOn → List Line → Said
said primaries sessions lines = record { primaries = primaries; sessions = sessions; lines = lines }

-- the sessions and the statements among entries
abbrev pub sessions_in : List Entry → List SessionOn
sessions_in [] = []
sessions_in (Session s ∷ entries) = s ∷ sessions_in entries
sessions_in (Statement line ∷ entries) = sessions_in entries

abbrev pub lines_in : List Entry → List Line
lines_in [] = []
lines_in (Session s ∷ entries) = lines_in entries
lines_in (Statement line ∷ entries) = line ∷ lines_in entries

pub after-whole : (n : ℕ) (ss : List SessionOn) (ls : List Line) (entries : List Entry) → said_after (said n ss ls) entries ≡ said n (ss ++ sessions_in entries) (ls ++ lines_in entries)
after-whole n ss ls [] = ap (λ x. said n x ls) (sym (append-nil ss)) ∙ ap (said n (ss ++ [])) (sym (append-nil ls))
after-whole n ss ls (Session s ∷ entries) = after-whole n (ss ++ s ∷ []) ls entries ∙ ap (λ x. said n x (ls ++ lines_in entries)) (append_assoc ss (s ∷ []) (sessions_in entries))
after-whole n ss ls (Statement line ∷ entries) = after-whole n ss (ls ++ line ∷ []) entries ∙ ap (said n (ss ++ sessions_in entries)) (append_assoc ls (line ∷ []) (lines_in entries))

-- each session may be declared below those before it
abbrev pub AllDeclared : ℕ → List SessionOn → List SessionOn → Type 0
AllDeclared n above [] = Unit {0}
AllDeclared n above (s ∷ more) = MayDeclare (said n above []) s × AllDeclared n (above ++ s ∷ []) more

-- each statement may be said below those before it, where all sessions are declared
abbrev pub AllSaid : ℕ → List SessionOn → List Line → List Line → Type 0
AllSaid n all above [] = Unit {0}
AllSaid n all above (line ∷ more) = MaySay (said n all above) line × AllSaid n all (above ++ line ∷ []) more

pub sessions-fit : (n : ℕ) (ss : List SessionOn) (ls : List Line) (entries : List Entry) → AllFit (said n ss ls) entries → AllDeclared n ss (sessions_in entries)
sessions-fit n ss ls [] h = tt
sessions-fit n ss ls (Session s ∷ entries) h = (record { session_low = h.0.session_low; session_high = h.0.session_high; primary_low = h.0.primary_low; primary_high = h.0.primary_high; new = h.0.new }, sessions-fit n (ss ++ s ∷ []) ls entries h.1)
sessions-fit n ss ls (Statement line ∷ entries) h = sessions-fit n ss (ls ++ line ∷ []) entries h.1

declared-more : (ss more : List SessionOn) (session : ℕ) → is_declared ss session ≡ true → is_declared (ss ++ more) session ≡ true
declared-more [] more session h = cc
declared-more (s ∷ ss) more session h = by_test (session == s.session) (declared-more ss more session) h
  where
    by_test : (b : Bool) → (is_declared ss session ≡ true → is_declared (ss ++ more) session ≡ true) → (b || is_declared ss session) ≡ true → (b || is_declared (ss ++ more) session) ≡ true
    by_test true rest h = refl
    by_test false rest h = rest h

pub lines-fit : (n : ℕ) (ss : List SessionOn) (ls : List Line) (entries : List Entry) → AllFit (said n ss ls) entries → AllSaid n (ss ++ sessions_in entries) ls (lines_in entries)
lines-fit n ss ls [] h = tt
lines-fit n ss ls (Session s ∷ entries) h = subst (λ x. AllSaid n x ls (lines_in entries)) (append_assoc ss (s ∷ []) (sessions_in entries)) (lines-fit n (ss ++ s ∷ []) ls entries h.1)
lines-fit n ss ls (Statement line ∷ entries) h = (record { declared = declared-more ss (sessions_in entries) line.session h.0.declared; number = h.0.number; within = h.0.within; stands = h.0.stands; room = h.0.room }, lines-fit n ss (ls ++ line ∷ []) entries h.1)

-- the sessions first, then the statements
abbrev pub canonical : List SessionOn → List Line → List Entry
canonical ss ls = map Session ss ++ map Statement ls

pub statements-canonical : (n : ℕ) (ss : List SessionOn) (above ls : List Line) → AllSaid n ss above ls → AllFit (said n ss above) (map Statement ls)
statements-canonical n ss above [] h = tt
statements-canonical n ss above (line ∷ ls) h = (h.0, statements-canonical n ss (above ++ line ∷ []) ls h.1)

pub fit-canonical : (n : ℕ) (above ss : List SessionOn) (ls : List Line) → AllDeclared n above ss → AllSaid n (above ++ ss) [] ls → AllFit (said n above []) (canonical ss ls)
fit-canonical n above [] ls d h = statements-canonical n above [] ls (subst (λ x. AllSaid n x [] ls) (append-nil above) h)
fit-canonical n above (s ∷ ss) ls d h = (d.0, fit-canonical n (above ++ s ∷ []) ss ls d.1 (subst (λ x. AllSaid n x [] ls) (sym (append_assoc above (s ∷ []) ss)) h))

pub sessions_in-canonical : (ss : List SessionOn) (ls : List Line) → sessions_in (canonical ss ls) ≡ ss
sessions_in-canonical [] [] = refl
sessions_in-canonical [] (line ∷ ls) = sessions_in-canonical [] ls
sessions_in-canonical (s ∷ ss) ls = ap (λ x. s ∷ x) (sessions_in-canonical ss ls)

pub lines_in-canonical : (ss : List SessionOn) (ls : List Line) → lines_in (canonical ss ls) ≡ ls
lines_in-canonical [] [] = refl
lines_in-canonical [] (line ∷ ls) = ap (λ x. line ∷ x) (lines_in-canonical [] ls)
lines_in-canonical (s ∷ ss) ls = lines_in-canonical ss ls
