-- Which primaries are down, as their words tell it: the steps on these words, what a node knows by them, and when each
-- may come.
use Rattle.std.specs.Prelude.{◌≡◌, ℕ, ◌≤◌, ◌==◌, if◌then◌else◌, ◌⊎◌, [], ◌∷◌}
use Rattle.mp_machine.specs.Lists.{IsIn, Grows, updated}
use Rattle.mp_core_trx.specs.declared.opening.TrxOpening.{TrxOpening}
use Rattle.mp_core_trx.specs.Events.{IsNode}
use Rattle.mp_core.specs.declared.part.CorePart.{CorePart}
use Rattle.mp_core.specs.declared.part.DownPart.{DownPart}
use Rattle.mp_core.specs.declared.part.DownLoad.{DownLoad}
use Rattle.mp_core.specs.declared.event.DownEvent.{DownEvent}
use Rattle.mp_core.specs.declared.event.DownEvent.TheVariants.{StoreDown, LoadDown}

-- a number that was loaded from the word of a primary
abbrev pub down_load : ℕ → ℕ → DownLoad
down_load of by = record { of = of; by = by }

-- a node before any step: its primary is up, and it knows of none that is down
abbrev pub first_down_part : DownPart
first_down_part = record { own = 0; loaded = [] }

-- the number with which the node's primary is down, or 0 while it is up
abbrev pub down_of : CorePart → ℕ
down_of p = p.downs.own

-- who makes a step, and whose word it is on
abbrev pub down_node : DownEvent → ℕ
down_node (StoreDown p by) = p
down_node (LoadDown p of) = p

abbrev pub down_place : DownEvent → ℕ
down_place (StoreDown p by) = p
down_place (LoadDown p of) = of

-- the word after a step that found this word
abbrev pub down_word : DownEvent → ℕ → ℕ
down_word (StoreDown p by) found = by
down_word (LoadDown p of) found = found

-- the primary is down with this number
abbrev pub goes_down_by : ℕ → DownPart → DownPart
goes_down_by by d = record d { own = by }

-- the node loaded this number from the word of a primary: 0 says that it is up, and is not kept
abbrev pub with_down_load : ℕ → ℕ → DownPart → DownPart
with_down_load of by d = if by == 0 then d else record d { loaded = down_load of by ∷ d.loaded }

-- the part of its node after a step that found this word
abbrev pub down_made : DownEvent → ℕ → DownPart → DownPart
down_made (StoreDown p by) found d = goes_down_by by d
down_made (LoadDown p of) found d = with_down_load of found d

-- a primary may go down with its own number, or with one that its node loaded
abbrev pub MayGoDownBy : ℕ → DownPart → ℕ → Type 0
MayGoDownBy p d by = (by ≡ p) ⊎ ((of : ℕ) × IsIn (down_load of by) d.loaded)

-- what a step asks of the part of its node: a primary goes down once; the word is loaded of a primary of these eight, whether
-- so many run or not
abbrev pub DownAsks : TrxOpening → DownPart → DownEvent → Type 0
DownAsks opening d (StoreDown p by) = (d.own ≡ 0) × MayGoDownBy p d by
DownAsks opening d (LoadDown p of) = (1 ≤ of) × (of ≤ 8)

-- the parts of all nodes after a step
abbrev pub downs_after : (ℕ → DownPart) → DownEvent → ℕ → DownPart
downs_after parts e = updated parts (down_node e) (down_made e (parts (down_place e)).own (parts (down_node e)))

-- The part may have come from the other by steps: a primary that is down stays so, and no number that was loaded is lost
pub record DownsExtend (old new : DownPart) : Type 0 where
  pub own : (old.own ≡ 0) ⊎ (new.own ≡ old.own)
  pub loaded : Grows old.loaded new.loaded

-- the number is that of a primary of the run that is down with its own number
abbrev pub IsDownBy : TrxOpening → (ℕ → DownPart) → ℕ → Type 0
IsDownBy opening parts by = IsNode opening by × ((parts by).own ≡ by)

-- Whoever is down is so with its own number, or with that of one that is down with its own; and all numbers that a node
-- loaded are such
pub record DownsInv (opening : TrxOpening) (parts : ℕ → DownPart) : Type 0 where
  pub held : (n : ℕ) → ¬ ((parts n).own ≡ 0) → IsDownBy opening parts (parts n).own
  pub loaded : (n of by : ℕ) → IsIn (down_load of by) (parts n).loaded → (¬ (by ≡ 0)) × IsDownBy opening parts by
