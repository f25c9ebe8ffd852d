-- A log after a force.
use Rattle.std.proofs.Common.{◌≡◌, ℕ, ◌+◌, ◌<◌, ◌≤◌, List, [], ◌∷◌, ◌++◌, length, refl, sym, ap, subst, ◌∙◌, arith}
use Rattle.std.proofs.lemmas.List.{append-nil, length-append}
use Rattle.std.proofs.lemmas.List.Concat.{flat_map-append}
use Rattle.byteorder.specs.Endian.{little_bytes}
use Rattle.mp_cells.specs.declared.records.Mtr.{Mtr}
use Rattle.mp_cells.proofs.KeyEdits.{All-append}
use Rattle.mp_redo.specs.Spelling.{mtr_bytes}
use Rattle.mp_redo.proofs.Puts.{mtr_length}
use Rattle.mp_outside.specs.Disks.{Follows, Only}
use Rattle.mp_gated.specs.Gates.{BodyTorn, gated, Gating}
use Rattle.mp_log.specs.Logs.{batch_bytes, batch_text, batches_text, mtrs_of, last_after, with_batch, IsText, AreLogged, IsBatch, HoldsOnly, HoldsEither}
use Rattle.mp_log.specs.Tails.{TailView, LogStands}
use Rattle.mp_log.proofs.Texts.{body_of, body_torn, gate_torn, gate_opened, gate_within, log_text_more}
use mathlib.Core.Logic.{◌⊎◌}
use Rattle.std.proofs.Common.{inl, inr}

-- the bytes behind a gate: a count of four bytes, and a closed gate
pub body_length : (bytes body : List ℕ) → body ≡ little_bytes 4 (length bytes) ++ (bytes ++ 0 ∷ []) → length body ≡ 5 + length bytes
body_length bytes body is =
    let head : length (little_bytes 4 (length bytes)) ≡ 4 = refl in
    omega (arith, ap length is, head, length-append (little_bytes 4 (length bytes)) (bytes ++ 0 ∷ []), length-append bytes (0 ∷ []))

-- nothing was appended
pub none_pending : (pending : List Mtr) → batch_bytes pending ≡ [] → pending ≡ []
none_pending [] h = refl
none_pending (mtr ∷ mtrs) h = absurd (omega (arith, ap length h, length-append (mtr_bytes mtr) (batch_bytes mtrs), mtr_length mtr))

pub some_pending : (pending : List Mtr) → 1 ≤ length (batch_bytes pending) → 1 ≤ length pending
some_pending [] h = absurd (omega arith)
some_pending (mtr ∷ mtrs) h = omega arith

pub with_some : (batches : List (List Mtr)) (pending : List Mtr) → 1 ≤ length pending → with_batch batches pending ≡ batches ++ pending ∷ []
with_some batches [] h = absurd (omega arith)
with_some batches (mtr ∷ mtrs) h = refl

-- the mtrs are the same
mtrs_same : (batches : List (List Mtr)) (pending : List Mtr) → mtrs_of (batches ++ pending ∷ []) ++ [] ≡ mtrs_of batches ++ pending
mtrs_same batches pending =
    append-nil (mtrs_of (batches ++ pending ∷ [])) ∙ flat_map-append (λ (batch : List Mtr). batch) batches (pending ∷ []) ∙ ap (λ (x : List Mtr). mtrs_of batches ++ x) (append-nil pending)

-- the tail after a force
abbrev pub moved : TailView → TailView
moved tail = record tail { place = tail.place + (5 + length tail.bytes); bytes = [] }

module _ (batches : List (List Mtr)) (pending : List Mtr) (tail : TailView) (seen : List ℕ) (image : List ℕ → Type 0) (stands : LogStands batches pending tail seen image) where
  -- the body of what is appended
  body_is : (body : List ℕ) → body ≡ little_bytes 4 (length tail.bytes) ++ (tail.bytes ++ 0 ∷ []) → body ≡ body_of pending
  body_is body h = h ∙ ap (λ (bytes : List ℕ). little_bytes 4 (length bytes) ++ (bytes ++ 0 ∷ [])) stands.bytes

  pub is_within : tail.place < length seen
  is_within = gate_within batches tail.place seen stands.place stands.reads

  some : 1 ≤ length tail.bytes → with_batch batches pending ≡ batches ++ pending ∷ []
  some h = with_some batches pending (some_pending pending (subst (λ (bytes : List ℕ). 1 ≤ length bytes) stands.bytes h))

  -- what a crash may leave, in each case
  pub either : (place : ℕ) (body : List ℕ) (after : List ℕ → Type 0) → place ≡ tail.place → body ≡ little_bytes 4 (length tail.bytes) ++ (tail.bytes ++ 0 ∷ []) → 1 ≤ length tail.bytes → Gating place body seen image after → HoldsEither batches (with_batch batches pending) after
  either place body after is_place is_body some_bytes gating c left =
      let at : place ≡ length (batches_text batches) = is_place ∙ stands.place in
      elim (gating c left) [
        | inl torn ↦ inl (body_torn batches place body torn.0 c at (stands.images torn.0 torn.1) torn.2)
        | inr torn ↦ opened c (gate_torn batches pending place seen c at stands.reads (subst (λ (b : List ℕ). Rattle.mp_gated.specs.Gates.GateTorn place b seen c) (body_is body is_body) torn))
      ]
    where
      opened : (c : List ℕ) → IsText batches c ⊎ IsText (batches ++ pending ∷ []) c → IsText batches c ⊎ IsText (with_batch batches pending) c
      opened c (inl text) = inl text
      opened c (inr text) = inr (subst (λ (bs : List (List Mtr)). IsText bs c) (sym (some some_bytes)) text)

  -- and where the gate wasn't written
  pub unreached : (place : ℕ) (body : List ℕ) (after : List ℕ → Type 0) → place ≡ tail.place → Follows (BodyTorn place body) image after → HoldsOnly batches after
  unreached place body after is_place follows c left =
      let torn = follows c left in
      body_torn batches place body torn.0 c (is_place ∙ stands.place) (stands.images torn.0 torn.1) torn.2

  -- a log after a good force
  pub forced : (place : ℕ) (body : List ℕ) (new : TailView) (now : List ℕ) (after : List ℕ → Type 0) → place ≡ tail.place → body ≡ little_bytes 4 (length tail.bytes) ++ (tail.bytes ++ 0 ∷ []) → 1 ≤ length tail.bytes → length tail.bytes ≤ 65536
      → new ≡ moved tail → now ≡ gated place body seen → Only (gated place body seen) after → LogStands (with_batch batches pending) [] new now after
  forced place body new now after is_place is_body some_bytes most is_new is_now only =
      let at : place ≡ length (batches_text batches) = is_place ∙ stands.place in
      let text : IsText (batches ++ pending ∷ []) (gated place body seen) = subst (λ (b : List ℕ). IsText (batches ++ pending ∷ []) (gated place b seen)) (sym (body_is body is_body)) (gate_opened batches pending place seen at stands.reads) in
      let count : length tail.bytes ≡ length (batch_bytes pending) = ap length stands.bytes in
      let head : length (little_bytes 4 (length (batch_bytes pending))) ≡ 4 = refl in
      let longer : tail.place + (5 + length tail.bytes) ≡ length (batches_text (batches ++ pending ∷ [])) =
      omega (arith, stands.place, count, head, ap length (log_text_more batches pending), length-append (batches_text batches) (batch_text pending), length-append (little_bytes 4 (length (batch_bytes pending))) (batch_bytes pending)) in
      let batch : IsBatch pending = (some_pending pending (omega (arith, count, some_bytes)), omega (arith, count, most)) in
      let same = mtrs_same batches pending in
      let here : LogStands (batches ++ pending ∷ []) [] (moved tail) (gated place body seen) after = record {
        reads = text;
        images = λ c left. subst (IsText (batches ++ pending ∷ [])) (sym (only c left)) text;
        mtrs = subst (AreLogged tail.node) (sym same) stands.mtrs;
        sizes = All-append IsBatch batches (pending ∷ []) stands.sizes (batch, tt);
        place = longer;
        last = stands.last ∙ ap (last_after 0) (sym same);
        bytes = refl;
      } in
      subst (λ (bs : List (List Mtr)). LogStands bs [] new now after) (sym (some some_bytes))
      (subst (λ (t : TailView). LogStands (batches ++ pending ∷ []) [] t now after) (sym is_new)
      (subst (λ (s : List ℕ). LogStands (batches ++ pending ∷ []) [] (moved tail) s after) (sym is_now) here))

  -- a force with nothing appended
  pub nothing : tail.bytes ≡ [] → LogStands (with_batch batches pending) [] tail seen image
  nothing none =
      let e : pending ≡ [] = none_pending pending (sym stands.bytes ∙ none) in
      subst (λ (p : List Mtr). LogStands (with_batch batches p) [] tail seen image) (sym e) (subst (λ (p : List Mtr). LogStands batches p tail seen image) e stands)
