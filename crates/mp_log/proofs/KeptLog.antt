-- What is appended is a batch more of the log.
use Rattle.std.proofs.Common.{ℕ, List, [], ◌∷◌, length, sym, ap, subst, arith}
use Rattle.std.proofs.lemmas.List.{append-nil}
use Rattle.mp_cells.specs.declared.records.Mtr.{Mtr}
use Rattle.mp_cells.proofs.KeyEdits.{All-append}
use Rattle.mp_log.specs.Logs.{mtrs_of, with_batch, AreLogged, IsBatch, IsLog}
use Rattle.mp_log.specs.Tails.{TailView, IsTail, LogStands}
use Rattle.mp_log.proofs.Opened.{mtrs_more}

pub kept_log : (batches : List (List Mtr)) (pending : List Mtr) (tail : TailView) (seen : List ℕ) (image : List ℕ → Type 0)
    → LogStands batches pending tail seen image → IsTail tail → IsLog tail.node (with_batch batches pending)
kept_log batches [] tail seen image stands is_tail =
    record { mtrs = subst (AreLogged tail.node) (append-nil (mtrs_of batches)) stands.mtrs; sizes = stands.sizes }
kept_log batches (mtr ∷ mtrs) tail seen image stands is_tail = record {
  mtrs = subst (AreLogged tail.node) (sym (mtrs_more batches (mtr ∷ mtrs))) stands.mtrs;
  sizes = All-append IsBatch batches ((mtr ∷ mtrs) ∷ []) stands.sizes ((omega arith, omega (arith, is_tail.most, ap length stands.bytes)), tt);
}
