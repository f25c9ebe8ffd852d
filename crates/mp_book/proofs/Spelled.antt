-- The statements of a script that bytes spell are in order in each session.
use Rattle.std.proofs.Common.{◌≡◌, ℕ, zero, suc, ◌+◌, ◌==◌, Bool, true, false, if◌then◌else◌, List, [], ◌∷◌, ◌++◌, length, filter, count_by, refl, sym, ap, subst, ◌∙◌, arith, append-nil}
use Rattle.std.proofs.lemmas.Bool.Decides.{nat_tests}
use Rattle.std.proofs.lemmas.List.Elements.{filter-append}
use Rattle.std.proofs.lemmas.List.Sums.{length-filter}
use Rattle.mp_script.specs.declared.statements.Line.{Line}
use Rattle.mp_script.specs.declared.statements.Script.{Script}
use Rattle.mp_script.specs.declared.statements.SessionOn.{SessionOn}
use Rattle.mp_script.specs.declared.entries.Entry.{Entry}
use Rattle.mp_script.specs.declared.entries.Entry.TheVariants.{Session, Statement}
use Rattle.mp_script.specs.Entries.{Said, nothing_said, with_entry, said_after, statements, open_after, open_behind, has_open_trx}
use Rattle.mp_script.specs.Spelling.{MayStand, MaySay, AllFit, IsSpelled, said_of}
use Rattle.mp_book.specs.Orderly.{session_lines, AreInOrder, IsOrderly}

-- whether a transaction is open behind a session's own statements
abbrev open_last : Bool → List Line → Bool
open_last open_now [] = open_now
open_last open_now (line ∷ lines) = open_last (open_after line.stmt) lines

open_is : (session : ℕ) (open_now : Bool) (lines : List Line) → open_behind open_now lines session ≡ open_last open_now (session_lines session lines)
open_is session open_now [] = refl
open_is session open_now (line ∷ lines) = go (line.session == session) refl (λ o. open_is session o lines)
  where
    go : (b : Bool) → (line.session == session) ≡ b → ((o : Bool) → open_behind o lines session ≡ open_last o (session_lines session lines)) → open_behind open_now (line ∷ lines) session ≡ open_last open_now (session_lines session (line ∷ lines))
    go true e rest = rw e (rest (open_after line.stmt))
    go false e rest = rw e (rest open_now)

count_is : (session : ℕ) (lines : List Line) → statements lines session ≡ length (session_lines session lines)
count_is session lines = sym (length-filter (λ (line : Line). line.session == session) lines)

-- one statement more
in_order_more : (own : List Line) (before : ℕ) (open_now : Bool) (line : Line) → AreInOrder before open_now own → line.index ≡ before + length own + 1 → MayStand (open_last open_now own) line.stmt → AreInOrder before open_now (own ++ line ∷ [])
in_order_more [] before open_now line order index may = (omega (arith, index), may, tt)
in_order_more (x ∷ own) before open_now line order index may = (order.0, order.1, in_order_more own (before + 1) (open_after x.stmt) line order.2 (omega (arith, index)) may)

module _ (said : Said) (line : Line) (may : MaySay said line) (orderly : IsOrderly said.lines) where
  orderly_more : IsOrderly (said.lines ++ line ∷ [])
  orderly_more session = subst (λ l. AreInOrder 0 false l) (sym (filter-append (λ (l : Line). l.session == session) said.lines (line ∷ []))) (go (line.session == session) refl)
    where
      go : (b : Bool) → (line.session == session) ≡ b → AreInOrder 0 false (session_lines session said.lines ++ session_lines session (line ∷ []))
      go true e =
          let its : line.session ≡ session = grind (arith, nat_tests) in
          let count : statements said.lines line.session ≡ length (session_lines session said.lines) = ap (λ n. statements said.lines n) its ∙ count_is session said.lines in
          let index : line.index ≡ 0 + length (session_lines session said.lines) + 1 = let number = may.number in omega (arith, number, count) in
          let stands : MayStand (open_last false (session_lines session said.lines)) line.stmt = subst (λ o. MayStand o line.stmt) (ap (λ n. has_open_trx said.lines n) its ∙ open_is session false said.lines) may.stands in
          let one : session_lines session (line ∷ []) ≡ line ∷ [] = rw e refl in
          subst (λ l. AreInOrder 0 false (session_lines session said.lines ++ l)) (sym one) (in_order_more (session_lines session said.lines) 0 false line (orderly session) index stands)
      go false e =
          let none : session_lines session (line ∷ []) ≡ [] = rw e refl in
          subst (λ l. AreInOrder 0 false l) (sym (ap (λ l. session_lines session said.lines ++ l) none ∙ append-nil (session_lines session said.lines))) (orderly session)

orderly_after : (entries : List Entry) (said : Said) → AllFit said entries → IsOrderly said.lines → IsOrderly (said_after said entries).lines
orderly_after [] said fit orderly = orderly
orderly_after (Session s ∷ entries) said fit orderly = orderly_after entries (with_entry said (Session s)) fit.1 orderly
orderly_after (Statement line ∷ entries) said fit orderly = orderly_after entries (with_entry said (Statement line)) fit.1 (orderly_more said line fit.0 orderly)

pub orderly_spelled : (script : Script) → IsSpelled script → IsOrderly script.lines.items
orderly_spelled script spelled =
    let by = spelled.1.spelled in
    let all = orderly_after spelled.1.entries (nothing_said script.primaries) by.fit (λ session. tt) in
    subst (λ (said : Said). IsOrderly said.lines) by.whole all
