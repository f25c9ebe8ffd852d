-- The file that is made is a fresh store; where more calls were made than clearing takes, the zeros were safe.
use Rattle.std.proofs.Common.{◌≡◌, ◌⊎◌, inl, inr, ℕ, List, IsTrue, sym, subst}
use Rattle.std.proofs.lemmas.Result.{on_ok_weaker}
use Rattle.mp_store.specs.FreshStores.{fresh_file, NoHeader, IsFresh}
use Rattle.mp_store.proofs.FreshFiles.{fresh_is}
use Rattle.mp_store.proofs.fresh.init.Goals as goal

pub returns-clause-fresh : goal.returns-clause-fresh
returns-clause-fresh g c = λ tells.
    let told : IsTrue (g.D.Disk.tells c.clear.new.disk) = rw (c.in_ok-clear.ensures.tells) tells in
    on_ok_weaker c.fill.result (λ is. subst IsFresh (sym is) fresh_is) (c.fill.ensures.done told (c.in_ok-clear.ensures.blank tells))

fresh_or_none : (c : List ℕ) → NoHeader c ⊎ (c ≡ fresh_file) → NoHeader c ⊎ IsFresh c
fresh_or_none c (inl none) = inl none
fresh_or_none c (inr is) = inr (subst IsFresh (sym is) fresh_is)

pub returns-clause-left : goal.returns-clause-left
returns-clause-left g c = λ tells. λ more. λ image. λ left.
    let told : IsTrue (g.D.Disk.tells c.clear.new.disk) = rw (c.in_ok-clear.ensures.tells) tells in
    fresh_or_none image (c.fill.ensures.left told (c.in_ok-clear.ensures.blank tells) (c.in_ok-clear.ensures.safe tells) image left)
