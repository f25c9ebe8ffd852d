-- Without mtrs clean pages stay as they are, and each key's chain is its row alone.
use Rattle.std.proofs.Common.{ℕ, List, [], None, refl, sym, subst, arith}
use Rattle.mp_cells.specs.declared.records.Mtr.{Mtr}
use Rattle.mp_cells.specs.Trees.{PageMap, IsClean}
use Rattle.mp_store.specs.CleanStores.{stored_pages}
use Rattle.mp_files.specs.Nine.{Image}
use Rattle.mp_histories.specs.Chains.{row_of_key}
use Rattle.mp_histories.proofs.CleanRows.{clean_plain}
use Rattle.mp_recover.specs.Standing.{ChainStands, IsRecoverable}
use Rattle.mp_recover.specs.Images.{base_llsn, CleanImage, SoundImage}

row_alone : (base : ℕ) (pages : PageMap) → IsClean base pages → (key : ℕ) → ChainStands [] pages key (row_of_key pages key)
row_alone base pages clean key = record {
  versions = [];
  head = refl;
  chain = (clean_plain base pages clean key).1;
  keys = tt;
  stands = record {
    unlisted = [];
    rest = [];
    split_is = refl;
    writer = None;
    of_one = tt;
    not_listed = λ cts h. h;
    each_listed = tt;
    together = tt;
    newest_wrote = λ id cts h. absurd h;
    falls = tt;
    ends = (clean_plain base pages clean key).0;
  };
}

pub nothing_to_redo : (base : ℕ) (pages : PageMap) → IsClean base pages → IsRecoverable base (row_of_key pages) pages []
nothing_to_redo base pages clean = record {
  in_order = λ n lt. record {
    linked = tt;
    first = λ e. tt;
    ahead = λ above. absurd (omega (arith, above, clean.llsns n lt));
    changes = tt;
  };
  once = tt;
  tree = clean.tree;
  chains = λ key lt. row_alone base pages clean key;
}

pub clean_is_sound : (image : Image) → CleanImage image → SoundImage image
clean_is_sound image clean = record {
  store = clean.store;
  logs = clean.logs;
  recoverable = subst (λ (mtrs : List Mtr). IsRecoverable (base_llsn image) (row_of_key (stored_pages image.store)) (stored_pages image.store) mtrs)
      (sym clean.none) (nothing_to_redo (base_llsn image) (stored_pages image.store) clean.store.clean);
}
