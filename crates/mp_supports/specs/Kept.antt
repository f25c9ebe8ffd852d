-- What a primary keeps: its answers with what their statements left in its part, in the order in which they were given.
use Rattle.std.specs.Prelude.{◌≡◌, ℕ, ◌<◌, ◌≤◌, ◌⊎◌, false, true, List, [], ◌∷◌, ◌++◌, reverse, filter, Option, None, Some, IfSome, is_none}
use Rattle.std.specs.List.{filter_map, AllByRecursion}
use Rattle.mp_machine.specs.Lists.{IsIn}
use Rattle.mp_model.specs.declared.replies.Answer.{Answer}
use Rattle.mp_script.specs.Below.{EachBelow}
use Rattle.mp_script.specs.WentDown.{shows_down}
use Rattle.mp_core_pages.specs.declared.part.Placed.{Placed}
use Rattle.mp_core.specs.declared.part.CorePart.{CorePart}
use Rattle.mp_core.specs.OwnMtrs.{row_restored_by, TrxMtr, trx_mtrs}
use Rattle.mp_core.specs.CoreExtends.{durable_of, IsMadeLater, CoreExtends}
use Rattle.mp_cells.specs.declared.records.Mtr.{Mtr}
use Rattle.mp_supports.specs.Work.{Work}
use Rattle.mp_supports.specs.Supports.{Trace, Supports}

-- An answer and the trace of its statement; no answer where a call outside a turn ended a transaction
pub record Entry : Type 0 where
  pub answer : Option Answer
  pub trace : Trace

abbrev pub answers_in : List Entry → List Answer
answers_in entries = filter_map (λ e. e.answer) entries

-- one item, or none
abbrev pub one_or_none : {T : Type 0} → Option T → List T
one_or_none None = []
one_or_none (Some x) = x ∷ []

-- the mtrs that stay: puts and commit records
abbrev pub lasting : List TrxMtr → List TrxMtr
lasting made = filter (λ m. is_none (row_restored_by m.mtr)) made

-- a trace is in the part
pub record IsTraced (p : CorePart) (trace : Trace) : Type 0 where
  pub pages : AllByRecursion (λ g. IsIn g p.pages.given) trace.pages
  pub began : IfSome trace.began (λ b. IsIn b p.trx.begun)
  pub drew : IfSome trace.drew (λ d. IsIn d p.trx.drew)
  pub mtr : IfSome trace.mtr (λ m. IsIn m (trx_mtrs p.pages.made))

-- a statement's mtr lies below the pages on which later replies rest, and not below those of earlier ones
pub record Precedes (earlier later : Entry) : Type 0 where
  pub below : AllByRecursion (λ g. IfSome earlier.trace.mtr (λ m. m.at < g.height)) later.trace.pages
  pub above : AllByRecursion (λ g. IfSome later.trace.mtr (λ m. g.height ≤ m.at)) earlier.trace.pages

-- an answer that shows its primary down rests on no durable mtr
abbrev pub IsInDoubt : CorePart → Entry → Type 0
IsInDoubt p e = IfSome e.answer (λ a. shows_down a.reply ≡ true → IfSome e.trace.mtr (λ m. durable_of p < m.mtr.llsn))

-- WHAT IS KEPT, against the part of the primary, which is down with this number (0 where it is up)
pub record Kept (work : Work) (p : CorePart) (down : ℕ) (entries : List Entry) : Type 0 where
  pub supported : AllByRecursion (λ e. IfSome e.answer (λ a. Supports work p down a e.trace)) entries
  pub traced : AllByRecursion (λ e. IsTraced p e.trace) entries
  -- each begin, draw, put and commit record of the part is in one trace, in the order of the entries
  pub began : filter_map (λ e. e.trace.began) entries ≡ reverse p.trx.begun
  pub drew : filter_map (λ e. e.trace.drew) entries ≡ reverse p.trx.drew
  pub made : filter_map (λ e. e.trace.mtr) entries ≡ reverse (lasting (trx_mtrs p.pages.made))
  pub after : EachBelow (λ above e. AllByRecursion (λ earlier. Precedes earlier e) above) [] entries
  pub in_doubt : AllByRecursion (IsInDoubt p) entries
  pub up : down ≡ 0 → AllByRecursion (λ e. IfSome e.answer (λ a. shows_down a.reply ≡ false)) entries

-- What a turn did to the part for one statement: it left this trace, and no other begin, draw, put or commit record
pub record Did (old new : CorePart) (trace : Trace) : Type 0 where
  pub extends : CoreExtends old new
  pub traced : IsTraced new trace
  pub began : new.trx.begun ≡ one_or_none trace.began ++ old.trx.begun
  pub drew : new.trx.drew ≡ one_or_none trace.drew ++ old.trx.drew
  pub made : lasting (trx_mtrs new.pages.made) ≡ one_or_none trace.mtr ++ lasting (trx_mtrs old.pages.made)
  -- the pages were given after all that had been made, and the mtr was made after all that had been given
  pub since : AllByRecursion (λ g. (x : Placed Mtr) → IsIn x old.pages.made → x.at < g.height) trace.pages
  pub later : IfSome trace.mtr (λ m. IsMadeLater old m.at)

-- what may become of a primary's number: one that is up may go down; one that is down stays so, and its log stays as it is
abbrev pub GoesDownOnce : CorePart → CorePart → ℕ → ℕ → Type 0
GoesDownOnce old new before after = (before ≡ 0) ⊎ ((before ≡ after) × (durable_of old ≡ durable_of new))

-- An entry that may be kept next: its answer is supported, shows the primary down only where it is down, and is then in
-- doubt
pub record MayBeKept (work : Work) (p : CorePart) (down : ℕ) (e : Entry) : Type 0 where
  pub supported : IfSome e.answer (λ a. Supports work p down a e.trace)
  pub in_doubt : IsInDoubt p e
  pub up : down ≡ 0 → IfSome e.answer (λ a. shows_down a.reply ≡ false)
