-- Each page's text goes behind those before; the disk stays as it is.
use Rattle.std.proofs.Common.{◌≡◌, ◌++◌, ℕ, List, IsTrue, None, refl, sym, rules, subst, ◌∙◌}
use Rattle.std.proofs.lemmas.Result.{err_from_is_err_and}
use Rattle.mp_files.proofs.Nines.{KeptDisk-refl, KeptDisk-trans}
use Rattle.mp_store.specs.declared.headers.Header.{Header}
use Rattle.mp_store.specs.StoreFiles.{store_fault}
use Rattle.mp_commands.specs.Dumps.{taken_text, taken_texts}
use Rattle.mp_commands.proofs.Sound.{still_found}
use Rattle.mp_commands.proofs.Taken.{printed_more}
use Rattle.mp_commands.proofs.dumping.push_pages.Goals as goal

pub loop-number-init : goal.loop-number-init
unfolding taken_texts
loop-number-init g c = record { same_reference = refl; header = refl; live = c.requires.open; kept = KeptDisk-refl g.D.Disk c.args.store.now.disk.now; text = λ tells. search rules }

pub loop-number-preserved : goal.loop-number-preserved
loop-number-preserved g c =
    let before = c.loop-number.invariant in
    let step = c.in_ok-push_taken.ensures in record {
      same_reference = step.same_reference ∙ before.same_reference;
      header = step.header ∙ before.header;
      live = step.live;
      kept = KeptDisk-trans g.D.Disk _ _ _ before.kept step.kept;
      text = λ tells.
          let still : IsTrue (g.D.Disk.tells c.loop-number.store.disk.now) = rw (before.kept.tells) tells in
          let pushed = subst (λ (h : Header). c.push_taken.new.text.items ≡ c.loop-number.text.items ++ taken_text h.generation c.args.map.now c.loop-number.number (g.D.Disk.seen c.loop-number.store.disk.now)) before.header (step.text still) in
          let pushed' = subst (λ (s : List ℕ). c.push_taken.new.text.items ≡ c.loop-number.text.items ++ taken_text c.args.store.now.header.generation c.args.map.now c.loop-number.number s) before.kept.quiet.same pushed in
          printed_more c.args.store.now.header.generation c.args.map.now c.loop-number.number _ _ _ _ (before.text tells) pushed';
    }

pub returns-in_err-push_taken-clause-sound : goal.returns-in_err-push_taken-clause-sound
returns-in_err-push_taken-clause-sound g c = λ tells. λ sound.
    let before = c.loop-number.invariant in
    let still : IsTrue (g.D.Disk.tells c.loop-number.store.disk.now) = rw (before.kept.tells) tells in
    let sound' = subst (λ (file : List ℕ). store_fault file ≡ None) (sym before.kept.quiet.same) sound in
    let returned = err_from_is_err_and c.from_residual.result c.from_residual.ensures.1 in
    rw (returned.1, returned.2) (still_found (Unit {0}) (Unit {0}) None c.in_err-push_taken.field-0.0 (c.in_err-push_taken.ensures.sound still sound'))
