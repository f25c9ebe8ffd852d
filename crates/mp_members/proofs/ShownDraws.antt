-- An answer shows a commit's number exactly where its statement drew it.
use Rattle.std.proofs.Common.{◌≡◌, ℕ, [], length, Option, None, Some, refl, ap, ◌∙◌, inl, inr}
use Rattle.std.specs.List.{cons_option}
use Rattle.mp_model.specs.declared.replies.Reply.{Reply}
use Rattle.mp_model.specs.declared.replies.Reply.TheVariants.{Began, Got, Scanned, Wrote, Committed, CommittedNone, Unknown, RolledBack, Conflict, Held, Full, Skipped, Stopped}
use Rattle.mp_script.specs.declared.statements.Line.{Line}
use Rattle.mp_script.specs.Numbered.{IfBegan}
use Rattle.mp_script.specs.Transactions.{cts_of}
use Rattle.mp_core_trx.specs.declared.part.Draw.{Draw}
use Rattle.mp_core.specs.declared.part.CorePart.{CorePart}
use Rattle.mp_supports.specs.Work.{Work}
use Rattle.mp_supports.specs.Supports.{Trace, SupportsReply}

abbrev pub drawn_number : Option Draw → Option ℕ
drawn_number None = None
drawn_number (Some draw) = Some draw.cts

abbrev pub number_in : Trace → Option ℕ
number_in trace = drawn_number trace.drew

pub number_shown : (work : Work) (p : CorePart) (down : ℕ) (trace : Trace) (line : Line) (reply : Reply) → SupportsReply work p down trace line reply → number_in trace ≡ cts_of reply
number_shown work p down trace line (Began view) s = ap number_in s.2
number_shown work p down trace line (Got value) s = ap number_in s.3.5
number_shown work p down trace line (Scanned rows) s = ap number_in s.3.8
number_shown work p down trace line (Wrote verb) s = ap number_in s.3.3
number_shown work p down trace line (Committed cts) s = ap number_in s.3.2
number_shown work p down trace line CommittedNone s = ap number_in s.1
number_shown work p down trace line (Unknown cts) s = ap number_in s.3.2
number_shown work p down trace line RolledBack s = ap number_in s.1
number_shown work p down trace line (Conflict verb cts) s = ap number_in s.3.5
number_shown work p down trace line (Held verb name) s = ap number_in s.3.6
number_shown work p down trace line (Full verb) s = ap number_in s.3.3
number_shown work p down trace line Skipped s = ap number_in s.1
number_shown work p down trace line (Stopped by) s = elim s.2 [
  | inl nothing ↦ ap number_in nothing
  | inr left ↦ ap number_in left.7
]

-- how many: none or one
abbrev pub count_of : {T : Type 0} → Option T → ℕ
count_of o = length (cons_option o [])

same_count : (o : Option Draw) → count_of o ≡ count_of (drawn_number o)
same_count None = refl
same_count (Some draw) = refl

pub drawn_as_shown : (work : Work) (p : CorePart) (down : ℕ) (trace : Trace) (line : Line) (reply : Reply) → SupportsReply work p down trace line reply
    → count_of trace.drew ≡ count_of (cts_of reply)
drawn_as_shown work p down trace line reply s = same_count trace.drew ∙ ap (λ (o : Option ℕ). count_of o) (number_shown work p down trace line reply s)

-- a fact of the view that a reply shows, where it shows one
pub if_began : (P : ℕ → Type 0) (reply : Reply) → ((view : ℕ) → reply ≡ Began view → P view) → IfBegan reply P
if_began P (Began view) h = h view refl
if_began P (Got value) h = tt
if_began P (Scanned rows) h = tt
if_began P (Wrote verb) h = tt
if_began P (Committed cts) h = tt
if_began P CommittedNone h = tt
if_began P (Unknown cts) h = tt
if_began P RolledBack h = tt
if_began P (Conflict verb cts) h = tt
if_began P (Held verb name) h = tt
if_began P (Full verb) h = tt
if_began P Skipped h = tt
if_began P (Stopped by) h = tt
