-- A file is the text of at most one list of batches.
use Rattle.std.proofs.Common.{◌≡◌, ℕ, ◌≤◌, List, [], ◌∷◌, ◌++◌, length, drop, refl, sym, ap, ◌∙◌, arith}
use Rattle.std.specs.List.{AllByRecursion}
use Rattle.std.proofs.lemmas.List.{append_assoc, length-append, drop_at}
use Rattle.byteorder.specs.Endian.{little_bytes, little_number}
use Rattle.byteorder.specs.Numbers.{little_number-reads_back}
use Rattle.mp_cells.specs.declared.records.Mtr.{Mtr}
use Rattle.mp_cells.specs.Mtrs.{IsMtr}
use Rattle.mp_redo.specs.Spelling.{mtr_bytes}
use Rattle.mp_redo.specs.Reading.{mtr_at}
use Rattle.mp_redo.proofs.MtrSpelling.{mtr_again}
use Rattle.mp_redo.proofs.Puts.{mtr_length}
use Rattle.mp_log.specs.Logs.{open_gate, batch_bytes, batch_text, batches_text, mtrs_of, IsText, IsOf, IsBatch, IsLog}

-- two mtrs at the front of the same bytes
pub same_mtr : (a b : Mtr) (r s : List ℕ) → IsMtr a → IsMtr b → mtr_bytes a ++ r ≡ mtr_bytes b ++ s → (a ≡ b) × (r ≡ s)
same_mtr a b r s ha hb h =
    let both : (a, length (mtr_bytes a)) ≡ (b, length (mtr_bytes b)) = let e = sym (mtr_again a r ha) ∙ ap mtr_at h ∙ mtr_again b s hb in cc in
    let size : length (mtr_bytes a) ≡ length (mtr_bytes b) = ap (λ (p : Mtr × ℕ). p.1) both in (
      ap (λ (p : Mtr × ℕ). p.0) both,
      sym (drop_at (mtr_bytes a) r (length (mtr_bytes a)) refl) ∙ ap (drop (length (mtr_bytes a))) h ∙ drop_at (mtr_bytes b) s (length (mtr_bytes a)) (sym size),
    )

-- two batches with as many bytes at the front of the same bytes
same_batch : (node other : ℕ) (a b : List Mtr) (r s : List ℕ) → AllByRecursion (IsOf node) a → AllByRecursion (IsOf other) b → length (batch_bytes a) ≡ length (batch_bytes b) → batch_bytes a ++ r ≡ batch_bytes b ++ s → (a ≡ b) × (r ≡ s)
same_batch node other [] [] r s ha hb size h = (refl, h)
same_batch node other [] (b ∷ bs) r s ha hb size h = absurd (omega (arith, size, length-append (mtr_bytes b) (batch_bytes bs), mtr_length b))
same_batch node other (a ∷ as_) [] r s ha hb size h = absurd (omega (arith, size, length-append (mtr_bytes a) (batch_bytes as_), mtr_length a))
same_batch node other (a ∷ as_) (b ∷ bs) r s ha hb size h =
    let first = same_mtr a b (batch_bytes as_ ++ r) (batch_bytes bs ++ s) ha.0.0 hb.0.0 (sym (append_assoc (mtr_bytes a) (batch_bytes as_) r) ∙ h ∙ append_assoc (mtr_bytes b) (batch_bytes bs) s) in
    let one : length (mtr_bytes a) ≡ length (mtr_bytes b) = ap (λ (m : Mtr). length (mtr_bytes m)) first.0 in
    let rest = same_batch node other as_ bs r s ha.1 hb.1 (omega (arith, size, one, length-append (mtr_bytes a) (batch_bytes as_), length-append (mtr_bytes b) (batch_bytes bs))) first.1 in
    (cc_cons a b as_ bs first.0 rest.0, rest.1)
  where
    cc_cons : (x y : Mtr) (xs ys : List Mtr) → x ≡ y → xs ≡ ys → x ∷ xs ≡ y ∷ ys
    cc_cons x y xs ys e f = cc

-- the counts of bytes are the same
counts_same : (a b : List Mtr) (r s : List ℕ) → length (batch_bytes a) ≤ 65536 → length (batch_bytes b) ≤ 65536 → little_bytes 4 (length (batch_bytes a)) ++ r ≡ little_bytes 4 (length (batch_bytes b)) ++ s → length (batch_bytes a) ≡ length (batch_bytes b)
counts_same a b r s ma mb h =
    sym (little_number-reads_back 4 (length (batch_bytes a)) r (omega (arith, ma))) ∙ ap (little_number 4) h ∙ little_number-reads_back 4 (length (batch_bytes b)) s (omega (arith, mb))

tails_same : (x y : ℕ) (xs ys : List ℕ) → x ∷ xs ≡ y ∷ ys → xs ≡ ys
tails_same x y xs ys h = cc

heads_same : (x y : ℕ) (xs ys : List ℕ) → x ∷ xs ≡ y ∷ ys → x ≡ y
heads_same x y xs ys h = cc

-- the parts of a condition on all mtrs
all_left : (P : Mtr → Type 0) (xs ys : List Mtr) → AllByRecursion P (xs ++ ys) → AllByRecursion P xs
all_left P [] ys h = tt
all_left P (x ∷ xs) ys h = (h.0, all_left P xs ys h.1)

all_right : (P : Mtr → Type 0) (xs ys : List Mtr) → AllByRecursion P (xs ++ ys) → AllByRecursion P ys
all_right P [] ys h = h
all_right P (x ∷ xs) ys h = all_right P xs ys h.1

texts_same : (node other : ℕ) (a b : List (List Mtr)) (g k : ℕ) (r s : List ℕ) → AllByRecursion (IsOf node) (mtrs_of a) → AllByRecursion (IsOf other) (mtrs_of b) → AllByRecursion IsBatch a → AllByRecursion IsBatch b
    → (g ≡ open_gate → ⊥) → (k ≡ open_gate → ⊥) → batches_text a ++ g ∷ r ≡ batches_text b ++ k ∷ s → a ≡ b
texts_same node other [] [] g k r s ea eb sa sb cg ck h = refl
texts_same node other [] (b ∷ bs) g k r s ea eb sa sb cg ck h = absurd (cg (heads_same g open_gate _ _ h))
texts_same node other (a ∷ as_) [] g k r s ea eb sa sb cg ck h = absurd (ck (sym (heads_same open_gate k _ _ h)))
texts_same node other (a ∷ as_) (b ∷ bs) g k r s ea eb sa sb cg ck h =
    let inner : (little_bytes 4 (length (batch_bytes a)) ++ batch_bytes a) ++ (batches_text as_ ++ g ∷ r) ≡ (little_bytes 4 (length (batch_bytes b)) ++ batch_bytes b) ++ (batches_text bs ++ k ∷ s) =
    tails_same open_gate open_gate _ _ (sym (append_assoc (batch_text a) (batches_text as_) (g ∷ r)) ∙ h ∙ append_assoc (batch_text b) (batches_text bs) (k ∷ s)) in
    let flat : little_bytes 4 (length (batch_bytes a)) ++ (batch_bytes a ++ (batches_text as_ ++ g ∷ r)) ≡ little_bytes 4 (length (batch_bytes b)) ++ (batch_bytes b ++ (batches_text bs ++ k ∷ s)) =
    sym (append_assoc (little_bytes 4 (length (batch_bytes a))) (batch_bytes a) (batches_text as_ ++ g ∷ r)) ∙ inner ∙ append_assoc (little_bytes 4 (length (batch_bytes b))) (batch_bytes b) (batches_text bs ++ k ∷ s) in
    let size = counts_same a b (batch_bytes a ++ (batches_text as_ ++ g ∷ r)) (batch_bytes b ++ (batches_text bs ++ k ∷ s)) sa.0.1 sb.0.1 flat in
    let behind : batch_bytes a ++ (batches_text as_ ++ g ∷ r) ≡ batch_bytes b ++ (batches_text bs ++ k ∷ s) = ap (drop 4) flat in
    let first = same_batch node other a b (batches_text as_ ++ g ∷ r) (batches_text bs ++ k ∷ s) (all_left (IsOf node) a (mtrs_of as_) ea) (all_left (IsOf other) b (mtrs_of bs) eb) size behind in
    let rest = texts_same node other as_ bs g k r s (all_right (IsOf node) a (mtrs_of as_) ea) (all_right (IsOf other) b (mtrs_of bs) eb) sa.1 sb.1 cg ck first.1 in
    cons_same a b as_ bs first.0 rest
  where
    cons_same : (x y : List Mtr) (xs ys : List (List Mtr)) → x ≡ y → xs ≡ ys → x ∷ xs ≡ y ∷ ys
    cons_same x y xs ys e f = cc

pub one_text : (node other : ℕ) (a b : List (List Mtr)) (file : List ℕ) → IsLog node a → IsLog other b → IsText a file → IsText b file → a ≡ b
one_text node other a b file ha hb ta tb = texts_same node other a b ta.gate tb.gate ta.rest tb.rest ha.mtrs.each hb.mtrs.each ha.sizes hb.sizes ta.closed tb.closed (sym ta.whole ∙ tb.whole)
