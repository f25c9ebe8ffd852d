-- What recovery loads of sound disks, and what it leaves of them.
use Rattle.std.proofs.Common.{◌≡◌, ◌≢◌, ℕ, ◌+◌, ◌<◌, ◌≤◌, Bool, cond, List, [], ◌∷◌, ◌++◌, map, Option, None, refl, sym, ap, subst, ◌∙◌, inl, inr, arith}
use Rattle.std.specs.List.{AllByRecursion}
use Rattle.std.proofs.lemmas.Bool.{cases_lt, lt-ltb, le-ltb}
use Rattle.std.proofs.lemmas.List.{map-append}
use Rattle.mp_model.specs.declared.ids.TrxId.{TrxId}
use Rattle.mp_cells.specs.declared.kinds.Kind.TheVariants.{Leaf, Undo}
use Rattle.mp_cells.specs.declared.records.Record.{Record}
use Rattle.mp_cells.specs.declared.records.Record.TheVariants as records
use Rattle.mp_cells.specs.declared.records.Mtr.{Mtr}
use Rattle.mp_cells.specs.Mtrs.{IsMtr}
use Rattle.mp_cells.specs.PageMaps.{page_at}
use Rattle.mp_cells.specs.PageView.{PageView, blank_page}
use Rattle.mp_cells.specs.Trees.{PageMap, IsTree, IsUnwritten, height_of, tree_rows}
use Rattle.mp_outside.specs.declared.disks.Disk.{Ghosts}
use Rattle.mp_outside.specs.Disks.{Only}
use Rattle.mp_files.specs.declared.disks.Disks.{Disks}
use Rattle.mp_files.specs.Nine.{Image}
use Rattle.mp_histories.specs.Commits.{Stamp}
use Rattle.mp_histories.specs.Histories.{commit_records}
use Rattle.mp_store.specs.declared.headers.Header.{Header}
use Rattle.mp_store.specs.StoreFiles.{header_in_force, page_in_force}
use Rattle.mp_store.specs.CleanStores.{stored_pages, IsCleanStore}
use Rattle.mp_checkpoint.specs.Saving.{IsSaved, ShowsNew, MaySave}
use Rattle.mp_recover.specs.declared.commits.CommitId.{CommitId}
use Rattle.mp_recover.specs.declared.loading.Loaded.{Loaded}
use Rattle.mp_recover.specs.declared.refusals.RecoverRefusal.{RecoverRefusal}
use Rattle.mp_recover.specs.Checkpoints.{AreEmpty}
use Rattle.mp_recover.specs.PageRecords.{pages_redone}
use Rattle.mp_recover.specs.KeptCommits.{KeptCommit, puts_by, kept_from, kept_commits, present}
use Rattle.mp_recover.specs.Finding.{greatest_of, llsns_in, versions_in, newest_base}
use Rattle.mp_recover.specs.Images.{base_llsn, logged_above, all_logged, rows_of_image, SoundImage}
use Rattle.mp_recover.specs.Redoing.{commit_ids, ids_in}
use Rattle.mp_recover.specs.Settling.{trx_ids, pages_settled}
use Rattle.mp_recover.specs.Recovering.{redone_by, IsLoaded, LoadedFits, IsRecovered}
use Rattle.mp_recover.specs.SavingLoaded.{next_header, MustFlip, LoadedSaved}
use Rattle.mp_recover.proofs.RedoneInOrder.{in_order_redone}
use Rattle.mp_recover.proofs.SettledTree.{settled_tree, new_no_undo, settled_no_writers}
use Rattle.mp_recover.proofs.LastCommits.{ids_of}
use Rattle.mp_recover.proofs.RecoveredRows.{rows_recovered}
use Rattle.mp_recover.proofs.RecoveredClean.{empty_sound, empty_none, greatest_above, above_all, tree_roots, kind_not, saved_at, saved_clean}

-- ---- the commits that are found are those that are kept

ids_records : (node : ℕ) (all : List Mtr) (items : List Record)
    → map (λ (k : KeptCommit). k.id) (map (λ (stamp : Stamp). record { id = stamp.id; cts = stamp.cts; puts = puts_by stamp.id node all }) (commit_records items)) ≡ trx_ids (commit_ids items)
ids_records node all [] = refl
ids_records node all (records.Page number prev change ∷ items) = ids_records node all items
ids_records node all (records.Commit id cts ∷ items) = ap (λ (ids : List TrxId). id ∷ ids) (ids_records node all items)

ids_from : (all mtrs : List Mtr) → ids_of (kept_from all mtrs) ≡ trx_ids (ids_in mtrs)
ids_from all [] = refl
ids_from all (mtr ∷ mtrs) =
    map-append (λ (k : KeptCommit). k.id) (map (λ (stamp : Stamp). record { id = stamp.id; cts = stamp.cts; puts = puts_by stamp.id mtr.node all }) (commit_records mtr.records)) (kept_from all mtrs)
    ∙ ap (λ (ids : List TrxId). ids ++ ids_of (kept_from all mtrs)) (ids_records mtr.node all mtr.records)
    ∙ ap (λ (ids : List TrxId). trx_ids (commit_ids mtr.records) ++ ids) (ids_from all mtrs)
    ∙ sym (map-append (λ (c : CommitId). c.id) (commit_ids mtr.records) (ids_in mtrs))

pub ids_kept : (mtrs : List Mtr) → trx_ids (ids_in mtrs) ≡ ids_of (kept_commits mtrs)
ids_kept mtrs = sym (ids_from mtrs mtrs)

-- ---- what is loaded of sound disks

low_pages : (image : Image) → SoundImage image → (n : ℕ) → (stored_pages image.store n).llsn ≤ base_llsn image
low_pages image sound n = elim (cases_lt n 4096) [
  | inl lt ↦ sound.store.clean.llsns n lt
  | inr ge ↦ subst (λ (p : PageView). p.llsn ≤ base_llsn image) (sym (ap (λ (b : Bool). cond b (page_in_force (header_in_force image.store).generation n image.store) (blank_page 0)) (le-ltb n 4096 ge))) (omega arith)
]

pub sound_redone : (image : Image) → SoundImage image → AllByRecursion IsMtr (logged_above image) → redone_by image ≡ (pages_redone (stored_pages image.store) (logged_above image), None)
sound_redone image sound are =
    in_order_redone (base_llsn image) (stored_pages image.store) (logged_above image) (low_pages image sound) (above_all (base_llsn image) (all_logged image)) are sound.recoverable.in_order

module _ (image : Image) (loaded : Loaded) (is : IsLoaded image loaded) where
  -- ---- whether the header is flipped

  pub found_llsn : loaded.found.llsn ≡ greatest_of (base_llsn image) (llsns_in (logged_above image))
  found_llsn = is.found.llsn_is

  pub not_flipped : logged_above image ≡ [] → loaded.found.llsn ≡ loaded.header.llsn
  not_flipped none = found_llsn ∙ ap (λ (ms : List Mtr). greatest_of (base_llsn image) (llsns_in ms)) none ∙ sym (ap (λ (h : Header). h.llsn) is.header_is)

  pub is_flipped : logged_above image ≢ [] → MustFlip loaded
  is_flipped some_ e =
      let above = greatest_above (base_llsn image) (logged_above image) (above_all (base_llsn image) (all_logged image)) some_ in
      let same : loaded.header.llsn ≡ base_llsn image = ap (λ (h : Header). h.llsn) is.header_is in
      omega (arith, above, e, same, found_llsn)

  pub base_le : base_llsn image ≤ loaded.found.llsn
  base_le = by_mtrs (logged_above image) refl
    where
      by_mtrs : (ms : List Mtr) → logged_above image ≡ ms → base_llsn image ≤ loaded.found.llsn
      by_mtrs [] e = (let same = not_flipped e in let h : loaded.header.llsn ≡ base_llsn image = ap (λ (x : Header). x.llsn) is.header_is in omega (arith, same, h))
      by_mtrs (m ∷ ms) e =
          (let above = greatest_above (base_llsn image) (logged_above image) (above_all (base_llsn image) (all_logged image)) (λ z. nothing (sym z ∙ e)) in omega (arith, above, found_llsn))
        where
          nothing : ◌≡◌ {A = List Mtr} [] (m ∷ ms) → ⊥
          nothing h = absurd cc

module _ (image : Image) (sound : SoundImage image) (loaded : Loaded) (is : IsLoaded image loaded) where
  -- the pages are those of the definitions
  loaded_pages : page_at loaded.pages.items ≡ pages_settled (ids_of (kept_commits (logged_above image))) (pages_redone (stored_pages image.store) (logged_above image))
  loaded_pages =
      is.pages ∙ ap (λ (ids : List TrxId). pages_settled ids (redone_by image).0) (ids_kept (logged_above image))
      ∙ ap (λ (x : PageMap × Option RecoverRefusal). pages_settled (ids_of (kept_commits (logged_above image))) x.0) (sound_redone image sound is.mtrs)

  loaded_tree : IsTree (page_at loaded.pages.items) (height_of (pages_redone (stored_pages image.store) (logged_above image)))
  loaded_tree = subst (λ (pages : PageMap). IsTree pages (height_of (pages_redone (stored_pages image.store) (logged_above image)))) (sym loaded_pages)
      (settled_tree (ids_of (kept_commits (logged_above image))) (pages_redone (stored_pages image.store) (logged_above image)) (height_of (pages_redone (stored_pages image.store) (logged_above image))) sound.recoverable.tree)

  -- and the rows are the stored ones with the kept commits folded in
  pub loaded_rows : loaded.rows.items ≡ rows_of_image image
  loaded_rows =
      is.rows (height_of (pages_redone (stored_pages image.store) (logged_above image))) loaded_tree
      ∙ ap (λ (pages : PageMap). present (tree_rows pages (height_of (pages_redone (stored_pages image.store) (logged_above image))))) loaded_pages
      ∙ rows_recovered (stored_pages image.store) (pages_redone (stored_pages image.store) (logged_above image)) (logged_above image) sound.store.clean.tree sound.recoverable.tree is.mtrs sound.recoverable.once sound.recoverable.chains

  no_undo : (n : ℕ) → n < 4096 → (page_at loaded.pages.items n).kind ≢ Undo
  no_undo n lt = subst (λ (pages : PageMap). (pages n).kind ≢ Undo) (sym loaded_pages)
      (kind_not (pages_settled (ids_of (kept_commits (logged_above image))) (pages_redone (stored_pages image.store) (logged_above image)) n)
      (new_no_undo (ids_of (kept_commits (logged_above image))) (pages_redone (stored_pages image.store) (logged_above image)) (height_of (pages_redone (stored_pages image.store) (logged_above image))) sound.recoverable.tree n lt))

  no_writers : (n : ℕ) → n < 4096 → (page_at loaded.pages.items n).kind ≡ Leaf → AllByRecursion IsUnwritten (page_at loaded.pages.items n).rows
  no_writers n lt = subst (λ (pages : PageMap). (pages n).kind ≡ Leaf → AllByRecursion IsUnwritten (pages n).rows) (sym loaded_pages)
      (settled_no_writers (ids_of (kept_commits (logged_above image))) (pages_redone (stored_pages image.store) (logged_above image)) (height_of (pages_redone (stored_pages image.store) (logged_above image))) sound.recoverable.tree n)

  may_save : MaySave (next_header loaded) (page_at loaded.pages.items) image.store
  may_save = record {
    sound = sound.store.sound;
    next = ap (λ (h : Header). h.generation + 1) is.header_is;
    roots = tree_roots (page_at loaded.pages.items) (height_of (pages_redone (stored_pages image.store) (logged_above image))) loaded_tree;
  }

  -- ---- what is saved

  module _ (fits : LoadedFits loaded) (after : Image) (empty : AreEmpty after) where
    pub flipped_recovered : logged_above image ≢ [] → ShowsNew (next_header loaded) (page_at loaded.pages.items) image.store after.store → IsRecovered image after
    flipped_recovered some_ shows = record {
      clean = record {
        store = saved_clean (next_header loaded) image.store after.store loaded.pages.items fits.count shows (base_llsn image) low (base_le image loaded is) fits.found.llsn
            (height_of (pages_redone (stored_pages image.store) (logged_above image))) loaded_tree no_undo no_writers;
        logs = empty_sound after empty;
        none = empty_none after empty;
      };
      base = ap (λ (h : Header). h.base) shows.header_is ∙ ap (λ (h : Header). newest_base h.base loaded.found.ids.items) is.header_is ∙ ap (newest_base (header_in_force image.store).base) is.ids;
      llsn = ap (λ (h : Header). h.llsn) shows.header_is ∙ found_llsn image loaded is;
      version = ap (λ (h : Header). h.version) shows.header_is ∙ is.found.version_is;
      same = λ none. absurd (some_ none);
      saved = λ some__ n lt.
          subst (λ (l : ℕ). IsSaved l (stored_pages image.store n) (pages_settled (trx_ids (ids_in (logged_above image))) (redone_by image).0 n) (stored_pages after.store n)) (sym (ap (λ (h : Header). h.llsn) shows.header_is))
          (subst (λ (p : PageView). IsSaved loaded.found.llsn p (pages_settled (trx_ids (ids_in (logged_above image))) (redone_by image).0 n) (stored_pages after.store n)) (sym (stored_at n lt))
          (subst (λ (pages : PageMap). IsSaved loaded.found.llsn (page_in_force (header_in_force image.store).generation n image.store) (pages n) (stored_pages after.store n)) is.pages
          (saved_at (next_header loaded) image.store after.store loaded.pages.items fits.count shows n lt)));
    }
      where
        stored_at : (n : ℕ) → n < 4096 → stored_pages image.store n ≡ page_in_force (header_in_force image.store).generation n image.store
        stored_at n lt = ap (λ (b : Bool). cond b (page_in_force (header_in_force image.store).generation n image.store) (blank_page 0)) (lt-ltb n 4096 lt)

        low : (n : ℕ) → n < 4096 → (page_in_force (header_in_force image.store).generation n image.store).llsn ≤ base_llsn image
        low n lt = subst (λ (p : PageView). p.llsn ≤ base_llsn image) (stored_at n lt) (sound.store.clean.llsns n lt)

    pub kept_recovered : logged_above image ≡ [] → after.store ≡ image.store → IsRecovered image after
    kept_recovered none same = record {
      clean = record { store = subst IsCleanStore (sym same) sound.store; logs = empty_sound after empty; none = empty_none after empty };
      base = ap (λ (file : List ℕ). (header_in_force file).base) same ∙ sym (ap (λ (ms : List Mtr). newest_base (header_in_force image.store).base (ids_in ms)) none);
      llsn = ap (λ (file : List ℕ). (header_in_force file).llsn) same ∙ sym (ap (λ (ms : List Mtr). greatest_of (header_in_force image.store).llsn (llsns_in ms)) none);
      version = ap (λ (file : List ℕ). (header_in_force file).version) same ∙ sym (ap (λ (ms : List Mtr). greatest_of (header_in_force image.store).version (versions_in ms)) none);
      same = λ e n lt. ap (λ (file : List ℕ). stored_pages file n) same;
      saved = λ some_. absurd (some_ none);
    }

    -- whatever a crash leaves after the logs were emptied
    pub saved_recovered : {D : Type 0} (g : Ghosts D) (mid : Disks D) → g.seen mid.store ≡ image.store → Only (g.seen mid.store) (g.image mid.store) → LoadedSaved g loaded mid after → IsRecovered image after
    saved_recovered g mid reads only saved = by_mtrs (logged_above image) refl
      where
        by_mtrs : (ms : List Mtr) → logged_above image ≡ ms → IsRecovered image after
        by_mtrs [] e = kept_recovered e (only after.store (saved.kept (not_flipped image loaded is e)) ∙ reads)
        by_mtrs (m ∷ ms) e =
            flipped_recovered (λ z. nothing (sym z ∙ e))
            (subst (λ (file : List ℕ). ShowsNew (next_header loaded) (page_at loaded.pages.items) file after.store) reads
            (saved.flipped (is_flipped image loaded is (λ z. nothing (sym z ∙ e))) (subst (λ (file : List ℕ). MaySave (next_header loaded) (page_at loaded.pages.items) file) (sym reads) may_save)))
          where
            nothing : ◌≡◌ {A = List Mtr} [] (m ∷ ms) → ⊥
            nothing h = absurd cc
