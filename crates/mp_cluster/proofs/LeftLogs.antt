-- What a crash leaves of the disks of members' logs: the first mtrs of each node, and so a sound image, closed for what is told.
use Rattle.std.proofs.Common.{◌≡◌, ℕ, ◌+◌, ◌-◌, ◌<◌, ◌≤◌, true, List, [], slice_get, get_or, Option, Some, None, IsTrue, refl, sym, ap, subst, ◌∙◌, inl, inr, append-nil, arith}
use Rattle.std.proofs.lemmas.Bool.{cases_lt}
use Rattle.std.proofs.lemmas.List.{length-map}
use Rattle.std.proofs.lemmas.Option.{get_or_from_slice_get}
use Rattle.mp_model.specs.declared.transcripts.Transcript.{Transcript}
use Rattle.mp_script.specs.declared.statements.Script.{Script}
use Rattle.mp_cells.specs.declared.records.Mtr.{Mtr}
use Rattle.mp_core_trx.specs.declared.opening.Base.{Base}
use Rattle.mp_core_trx.specs.Events.{IsNode}
use Rattle.mp_core.specs.declared.part.CorePart.{CorePart}
use Rattle.mp_outside.specs.declared.disks.Disk.{Ghosts}
use Rattle.mp_files.specs.Nine.{AreImages, EachTells}
use Rattle.mp_files.proofs.Places.{at_place, same_some}
use Rattle.mp_log.specs.Logs.{mtrs_of, AreLogged, IsLog}
use Rattle.mp_log.specs.Readers.{log_mtrs}
use Rattle.mp_log.specs.Tails.{LogView}
use Rattle.mp_log.proofs.Given.{text_given}
use Rattle.mp_recover.specs.Redoing.{mtrs_above}
use Rattle.mp_supports.specs.Work.{Work}
use Rattle.mp_supports.specs.Media.{IsOnImage}
use Rattle.mp_verdict.specs.Orders.{NodeEntry}
use Rattle.mp_cuts.specs.LeftBehind.{LeavesFirst, IsLeftBehind}
use Rattle.mp_cuts.proofs.KeptImages.{own_image, idle_log}
use Rattle.mp_members.specs.declared.members.Members.{Members}
use Rattle.mp_members.specs.Running.{logs_of, AreMembers}
use Rattle.mp_members.proofs.DownMembers.{member_of}
use Rattle.mp_opening.specs.Openings.{IsLogFrom}
use Rattle.mp_opening.proofs.NothingAbove.{none_left}
use Rattle.mp_lineup.specs.LiningUp.{work_over}
use Rattle.mp_cluster.specs.StepRuns.{HasIdleLogs, LeavesClosed}
use Rattle.mp_cluster.proofs.EndedMembers.{known, agrees_at, its_world, its_facts, its_base, members_sound, ClosesEach}
use Rattle.mp_cluster.proofs.PlacesOfLists.{from_mapped}
use Rattle.mp_cluster.proofs.SameDisks.{disks_in, disk_at}

module _ {D : Type 0} (g : Ghosts D) (script : Script) (base : Base) (m : Members D) (given : List NodeEntry) (members : AreMembers g (work_over script base) m given) (has : HasIdleLogs g base m) where
  abbrev work : Work
  work = work_over script base

  abbrev disks : List D
  disks = disks_in (logs_of m)

  -- this may be left of the log of a node
  abbrev Leaves : ℕ → List ℕ → Type 0
  Leaves n file = LeavesFirst m.shared.opening (its_world g script base m given members) n file

  -- of the log of a primary
  own_left : (n : ℕ) → IsNode m.shared.opening.trx n → (disk : D) → slice_get disks (n - 1) ≡ Some disk → IsTrue (g.tells disk) → (file : List ℕ) → g.image disk file → Leaves n file
  own_left n node disk at tells file image =
      let x = member_of g work m given members n node in
      let q = agrees_at g work m given members n node x.0 x.2 in
      let its : disk ≡ (x.0).media.log.disk = same_some disk (x.0).media.log.disk (sym at ∙ disk_at g m (n - 1) x.0 x.1) in
      let on = q.2.media.on_disk.images (subst (λ (d : D). g.tells d ≡ true) its tells) file (subst (λ (d : D). g.image d file) its image) in
      own_image m.shared.opening (its_world g script base m given members) work n file (its_facts g script base m given members) (its_base g script base m given members)
      (subst (λ (p : CorePart). IsOnImage work n p file) (sym ((known g work m given members).agrees n q.0 q.1))
      (subst (λ (k : Work). IsOnImage k n q.0 file) x.2.work_is
      (subst (λ (k : ℕ). IsOnImage (x.0).work k q.0 file) (q.2.media.node ∙ x.2.number) on)))

  -- of an idle one
  idle_left : (n : ℕ) → 1 ≤ n → m.shared.opening.trx.primaries < n → (disk : D) → slice_get disks (n - 1) ≡ Some disk → IsTrue (g.tells disk) → (file : List ℕ) → g.image disk file → Leaves n file
  idle_left n low lt disk at tells file image =
      let log = from_mapped (λ (l : LogView D). l.disk) (logs_of m) (n - 1) disk at in
      let count = members.count in
      let here : n - 1 + 1 ≡ n = omega (arith, low) in
      let from : IsLogFrom g base.llsn (n - 1 + 1) log.0 = has.idle (n - 1) (omega (arith, count, lt)) log.0 log.1 in
      let held = from.stands (subst (λ (d : D). g.tells d ≡ true) log.2 tells) in
      let logged : IsLog n held.0 =
      record {
        mtrs = subst (λ (k : ℕ). AreLogged k (mtrs_of held.0)) (from.node ∙ here) (subst (λ (ms : List Mtr). AreLogged (log.0).tail.node ms) (append-nil (mtrs_of held.0)) held.1.mtrs);
        sizes = held.1.sizes;
      } in
      let reads : log_mtrs n file ≡ (mtrs_of held.0, None) = text_given n held.0 file logged (held.1.images file (subst (λ (d : D). g.image d file) log.2 image)) in
      idle_log m.shared.opening (its_world g script base m given members) n file (its_facts g script base m given members) lt
      (ap (λ (x : List Mtr × Option ℕ). x.1) reads)
      (ap (λ (b : Base). mtrs_above b.llsn (log_mtrs n file).0) (sym (its_base g script base m given members))
      ∙ ap (λ (x : List Mtr × Option ℕ). mtrs_above base.llsn x.0) reads
      ∙ none_left base.llsn (mtrs_of held.0) held.2)

  -- of each of eight
  pub each_left : EachTells g disks → (files : List (List ℕ)) → AreImages g disks files → (n : ℕ) → 1 ≤ n → n ≤ 8 → Leaves n (get_or files (n - 1) [])
  each_left tell files images n low high =
      let count = length-map (logs_of m) (λ (l : LogView D). l.disk) in
      let eight = has.count in
      let many = images.count in
      let disk = at_place disks (n - 1) (omega (arith, low, high, count, eight)) in
      let file = at_place files (n - 1) (omega (arith, low, high, count, eight, many)) in
      let image : g.image disk.0 file.0 = images.each (n - 1) disk.0 file.0 disk.1 file.1 in
      let tells = tell (n - 1) disk.0 disk.1 in
      subst (Leaves n) (sym (get_or_from_slice_get files (n - 1) file.0 [] file.1))
      (elim (cases_lt m.shared.opening.trx.primaries n) [
        | inl lt ↦ idle_left n low lt disk.0 disk.1 tells file.0 image
        | inr le ↦ own_left n (low, le) disk.0 disk.1 tells file.0 image
      ])

  pub leaves_closed : (transcript : Transcript) → ClosesEach g script base m given members transcript → LeavesClosed g script m.shared.opening disks transcript
  leaves_closed transcript closes tell image over images =
      let left : IsLeftBehind m.shared.opening (its_world g script base m given members) image.store image = record { store = refl; logs = each_left tell image.logs images } in
      record {
        sound = members_sound g script base m given members image.store over image left;
        closed = λ opening begins. closes opening begins image.store over image left;
      }
