-- What is read of a log mtr by mtr, and log by log.
use Rattle.std.proofs.Common.{◌≡◌, ◌∙◌, ℕ, ◌+◌, ◌++◌, List, [], ◌∷◌, length, Option, Result, Err, IsTrue, sym, ap, subst, append-nil, append_assoc, arith}
use Rattle.std.specs.List.{flat_map}
use Rattle.mp_outside.specs.declared.disks.Disk.{Ghosts}
use Rattle.mp_cells.specs.declared.records.Mtr.{Mtr}
use Rattle.mp_log.specs.declared.refusals.LogRefusal.{LogRefusal}
use Rattle.mp_log.specs.declared.refusals.LogRefusal.TheVariants.{Fault, Disk, Memory}
use Rattle.mp_log.specs.Readers.{ReaderView, Remains, GivesNext}
use Rattle.mp_files.specs.Nine.{KeptDisk}
use Rattle.mp_commands.specs.LogTexts.{mtr_text, FindsOwn}

module _ {D : Type 0} (g : Ghosts D) where
  -- what a reader gives of a disk that was kept, it gives of what the disk read at first
  pub next_gives : (first now : D) (reader new : ReaderView) (mtrs : List Mtr) (fault : Option ℕ) (result : Result (Option Mtr) LogRefusal) → KeptDisk g first now
      → ((ms : List Mtr) (f : Option ℕ) → IsTrue (g.tells now) → Remains reader (g.seen now) ms f → GivesNext (g.seen now) ms f new result)
      → IsTrue (g.tells first) → Remains reader (g.seen first) mtrs fault → GivesNext (g.seen first) mtrs fault new result
  next_gives first now reader new mtrs fault result kept gives tells remains =
      subst (λ file. GivesNext file mtrs fault new result) kept.quiet.same (gives mtrs fault (kept.tells ∙ tells) (subst (λ file. Remains reader file mtrs fault) (sym kept.quiet.same) remains))

-- a refusal is the fault that was left
pub refusal_finds : (file : List ℕ) (mtrs : List Mtr) (fault : Option ℕ) (new : ReaderView) (refusal : LogRefusal) → GivesNext file mtrs fault new (Err refusal) → FindsOwn {T = ℕ} fault (Err refusal)
refusal_finds file mtrs fault new (Fault place) says = says.1
refusal_finds file mtrs fault new Disk says = tt
refusal_finds file mtrs fault new Memory says = tt

-- one mtr more
pub text_on : (text new whole : List ℕ) (mtr : Mtr) (mtrs rest : List Mtr) → new ≡ text ++ mtr_text mtr → mtrs ≡ mtr ∷ rest → text ++ flat_map mtr_text mtrs ≡ whole → new ++ flat_map mtr_text rest ≡ whole
text_on text new whole mtr mtrs rest pushed are is =
    ap (λ t. t ++ flat_map mtr_text rest) pushed ∙ append_assoc text (mtr_text mtr) (flat_map mtr_text rest) ∙ subst (λ ms. text ++ flat_map mtr_text ms ≡ whole) are is

pub count_on : (count whole : ℕ) (mtr : Mtr) (mtrs rest : List Mtr) → mtrs ≡ mtr ∷ rest → count + length mtrs ≡ whole → count + 1 + length rest ≡ whole
count_on count whole mtr mtrs rest are is = let e : count + length (mtr ∷ rest) ≡ whole = subst (λ ms. count + length ms ≡ whole) are is in omega (arith, e)

-- nothing is left
pub text_end : (text whole : List ℕ) (mtrs : List Mtr) → mtrs ≡ [] → text ++ flat_map mtr_text mtrs ≡ whole → text ≡ whole
text_end text whole mtrs none is = sym (append-nil text) ∙ subst (λ ms. text ++ flat_map mtr_text ms ≡ whole) none is

pub count_end : (count whole : ℕ) (mtrs : List Mtr) → mtrs ≡ [] → count + length mtrs ≡ whole → count ≡ whole
count_end count whole mtrs none is = let e : count + 0 ≡ whole = subst (λ ms. count + length ms ≡ whole) none is in omega (arith, e)
