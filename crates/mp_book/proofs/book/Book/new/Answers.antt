use Rattle.std.proofs.Common.{◌≡◌, ℕ, List, [], length, Some, slice_get, ap, subst, arith}
use Rattle.mp_script.specs.declared.statements.Line.{Line}
use Rattle.mp_script.specs.declared.statements.SessionOn.{SessionOn}
use Rattle.mp_book.specs.declared.session.Session.{Session}
use Rattle.mp_book.proofs.Changes.{AreStarted, started_more, begins_book}
use Rattle.mp_book.proofs.book.Book.new.Goals as goal

-- none has none
none_started : (lines : List Line) (sessions : List SessionOn) (primary : ℕ) (xs : List Session) → xs ≡ [] → AreStarted lines sessions primary 0 xs
none_started lines sessions primary xs none = record {
  length_is = ap (λ (l : List Session). length l) none;
  each = λ k s at. absurd (no_item k s (subst (λ (l : List Session). slice_get l k ≡ Some s) none at));
}
  where
    no_item : (k : ℕ) (s : Session) → slice_get [] k ≡ Some s → ⊥
    no_item k s e = cc

pub loop-number-init : goal.loop-number-init
loop-number-init c = none_started c.args.script.now.lines.items c.args.script.now.sessions.items c.args.primary c.new-sessions.result.items c.new-sessions.ensures.items

pub loop-number-preserved : goal.loop-number-preserved
loop-number-preserved c =
    started_more c.args.script.now.lines.items c.args.script.now.sessions.items c.args.primary c.loop-number.number c.loop-number.sessions.items c.in_ok-session.session c.push.new.self.items c.loop-number.invariant c.in_ok-session.ensures c.in_ok-push.ensures.items

pub returns-clause-book : goal.returns-clause-book
returns-clause-book c =
    let least = c.loop-number-test.false in
    let most = c.loop-number.auto.number-end in
    begins_book c.args.script.now.lines.items c.args.script.now.sessions.items c.args.primary c.loop-number.number _ c.requires.orderly c.new.ensures c.loop-number.invariant (omega (arith, least, most))

pub returns-clause-starts : goal.returns-clause-starts
returns-clause-starts c = c.loop-number.invariant.each
