-- The `down` lines of primaries, one primary further.
use Rattle.std.proofs.Common.{◌≡◌, ◌≢◌, ℕ, suc, ◌+◌, ◌-◌, ◌==◌, ◌<◌, Bool, List, [], ◌∷◌, ◌++◌, length, cond, slice_get, Some, sym, ap, subst, ◌∙◌, arith, append_assoc, append-nil, eq-eqb, ne_eqb}
use Rattle.mp_model.specs.declared.transcripts.Down.{Down}
use Rattle.mp_script.specs.DownLines.{down_lines}
use Rattle.mp_primary.specs.Primaries.{PrimaryView}
use Rattle.mp_members.specs.Running.{downs_of}
use Rattle.mp_members.proofs.DownAt.{down_there}

module _ (down : ℕ → ℕ) (first left count : ℕ) (is : left ≡ suc count) where
  -- who is up has no line
  pub up_further : down first ≡ 0 → down_lines down first left ≡ down_lines down (first + 1) count
  up_further up =
      ap (down_lines down first) is
      ∙ ap (λ (b : Bool). cond b (down_lines down (first + 1) count) (record { primary = first; by = down first } ∷ down_lines down (first + 1) count)) (eq-eqb (down first) 0 up)

  -- who is down has one
  pub down_further : down first ≢ 0 → down_lines down first left ≡ record { primary = first; by = down first } ∷ down_lines down (first + 1) count
  down_further some =
      ap (down_lines down first) is
      ∙ ap (λ (b : Bool). cond b (down_lines down (first + 1) count) (record { primary = first; by = down first } ∷ down_lines down (first + 1) count)) (ne_eqb (down first) 0 some)

module _ {D : Type 0} (primaries : List (PrimaryView D)) (place : ℕ) (pr : PrimaryView D) (at : slice_get primaries place ≡ Some pr) (within : place < length primaries)
    (so_far whole : List Down) (lines : so_far ++ down_lines (downs_of primaries) (place + 1) (length primaries - place) ≡ whole) where
  abbrev rest : List Down
  rest = down_lines (downs_of primaries) (place + 1 + 1) (length primaries - (place + 1))

  left : length primaries - place ≡ suc (length primaries - (place + 1))
  left = omega (arith, within)

  its : downs_of primaries (place + 1) ≡ pr.down
  its = down_there primaries place (place + 1) pr (λ i. place + 1) at

  pub skips : pr.down ≡ 0 → so_far ++ rest ≡ whole
  skips up = ap (λ l. so_far ++ l) (sym (up_further (downs_of primaries) (place + 1) (length primaries - place) (length primaries - (place + 1)) left (its ∙ up))) ∙ lines

  pub lists : pr.number ≡ place + 1 → pr.down ≢ 0 → (so_far ++ record { primary = pr.number; by = pr.down } ∷ []) ++ rest ≡ whole
  lists number some =
      append_assoc so_far (record { primary = pr.number; by = pr.down } ∷ []) rest
      ∙ ap (λ (x : Down). so_far ++ x ∷ rest) (λ i. record { primary = number i; by = sym its i })
      ∙ ap (λ l. so_far ++ l) (sym (down_further (downs_of primaries) (place + 1) (length primaries - place) (length primaries - (place + 1)) left (λ up. some (sym its ∙ up))))
      ∙ lines
