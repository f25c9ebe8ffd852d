-- A log after an mtr was appended.
use Rattle.std.proofs.Common.{◌≡◌, ℕ, ◌+◌, ◌^◌, ◌<◌, ◌&&◌, nat_le, nat_lt, true, List, [], ◌∷◌, ◌++◌, refl, sym, ap, subst, ◌∙◌, arith}
use Rattle.std.proofs.lemmas.Bool.{and_parts, and_from, le-leb, lt-ltb}
use Rattle.std.proofs.lemmas.List.{append_assoc, append-nil}
use Rattle.std.proofs.lemmas.List.Concat.{flat_map-append}
use Rattle.mp_cells.specs.declared.records.Mtr.{Mtr}
use Rattle.mp_cells.specs.Keys.{rises}
use Rattle.mp_cells.specs.Mtrs.{IsMtr}
use Rattle.mp_cells.proofs.KeyEdits.{All-append}
use Rattle.mp_redo.specs.Spelling.{mtr_bytes}
use Rattle.mp_log.specs.Logs.{batch_bytes, mtrs_of, last_after, IsOf, AreLogged}
use Rattle.mp_log.specs.Tails.{TailView, LogStands}

abbrev pub llsn_of : Mtr → ℕ
llsn_of mtr = mtr.llsn

pub rises_more : (low : ℕ) (mtrs : List Mtr) (mtr : Mtr) → rises llsn_of (low + 1) (2 ^ 62) mtrs ≡ true → last_after low mtrs < mtr.llsn → mtr.llsn < 2 ^ 62 → rises llsn_of (low + 1) (2 ^ 62) (mtrs ++ mtr ∷ []) ≡ true
rises_more low [] mtr h above fits = and_from _ _ (and_from _ _ (le-leb (low + 1) mtr.llsn (omega (arith, above))) (lt-ltb mtr.llsn (2 ^ 62) fits)) refl
rises_more low (m ∷ ms) mtr h above fits =
    let a = and_parts (nat_le (low + 1) m.llsn && nat_lt m.llsn (2 ^ 62)) (rises llsn_of (m.llsn + 1) (2 ^ 62) ms) h in
    and_from _ _ a.0 (rises_more m.llsn ms mtr a.1 above fits)

last_more : (low : ℕ) (mtrs : List Mtr) (mtr : Mtr) → last_after low (mtrs ++ mtr ∷ []) ≡ mtr.llsn
last_more low [] mtr = refl
last_more low (m ∷ ms) mtr = last_more m.llsn ms mtr

pub logged_more : (node : ℕ) (mtrs : List Mtr) (mtr : Mtr) → AreLogged node mtrs → IsMtr mtr → mtr.node ≡ node → last_after 0 mtrs < mtr.llsn → AreLogged node (mtrs ++ mtr ∷ [])
logged_more node mtrs mtr h sound is_node above = record {
  each = All-append (IsOf node) mtrs (mtr ∷ []) h.each ((sound, is_node), tt);
  rising = rises_more 0 mtrs mtr h.rising above sound.llsn;
}

pub appended : (batches : List (List Mtr)) (pending : List Mtr) (mtr : Mtr) (tail : TailView) (seen : List ℕ) (image : List ℕ → Type 0) → IsMtr mtr → mtr.node ≡ tail.node → tail.last < mtr.llsn
    → LogStands batches pending tail seen image → LogStands batches (pending ++ mtr ∷ []) (record tail { last = mtr.llsn; bytes = tail.bytes ++ mtr_bytes mtr }) seen image
appended batches pending mtr tail seen image sound node above stands =
    let all = mtrs_of batches ++ pending in
    let same : all ++ mtr ∷ [] ≡ mtrs_of batches ++ (pending ++ mtr ∷ []) = append_assoc (mtrs_of batches) pending (mtr ∷ []) in
    let bytes : batch_bytes (pending ++ mtr ∷ []) ≡ batch_bytes pending ++ mtr_bytes mtr = flat_map-append mtr_bytes pending (mtr ∷ []) ∙ ap (λ (x : List ℕ). batch_bytes pending ++ x) (append-nil (mtr_bytes mtr)) in
    record {
      reads = stands.reads;
      images = stands.images;
      mtrs = subst (AreLogged tail.node) same (logged_more tail.node all mtr stands.mtrs sound node (subst (λ (n : ℕ). n < mtr.llsn) stands.last above));
      sizes = stands.sizes;
      place = stands.place;
      last = sym (last_more 0 all mtr) ∙ ap (last_after 0) same;
      bytes = ap (λ (x : List ℕ). x ++ mtr_bytes mtr) stands.bytes ∙ sym bytes;
    }
