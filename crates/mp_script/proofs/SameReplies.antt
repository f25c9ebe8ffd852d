-- Executions of the same lines that have the same replies before a statement have the same writes and refusals before it.
use Rattle.std.proofs.Common.{◌≡◌, ℕ, zero, suc, ◌+◌, ◌<◌, ◌||◌, if◌then◌else◌, Bool, List, Option, None, refl, ap, ◌∙◌, arith}
use Rattle.mp_model.specs.declared.replies.Reply.{Reply}
use Rattle.mp_script.specs.declared.statements.Line.{Line}
use Rattle.mp_script.specs.Execution.{Execution, stmt_in, stmt_at, reply_at}
use Rattle.mp_script.specs.Transactions.{begin_in, trx_in_lines, statements_before, is_wrote, is_refusal, is_number, target_key, wrote_at, wrote_among, wrote_before, refused_among, refused_before}

module _ (whole few : Execution) (lines : whole.lines ≡ few.lines) (session bound : ℕ) (same : (index : ℕ) → index < bound → reply_at whole session index ≡ reply_at few session index) where
  wrote_same : (index : ℕ) → index < bound → wrote_at whole session index ≡ wrote_at few session index
  wrote_same index lt =
      ap (λ (x : Option Reply). if is_wrote x then target_key (stmt_at whole session index) else None) (same index lt)
      ∙ ap (λ (ls : List Line). if is_wrote (reply_at few session index) then target_key (stmt_in ls session index) else None) lines

  among_wrote : (first count key : ℕ) → ((c : ℕ) → c < count → first + suc c < bound) → wrote_among whole (record { session = session; first = first }) count key ≡ wrote_among few (record { session = session; first = first }) count key
  among_wrote first zero key within = refl
  among_wrote first (suc count) key within =
      ap (λ (b : Bool). b || is_number key (wrote_at whole session (first + suc count))) (among_wrote first count key (λ c lt. within c (omega (arith, lt))))
      ∙ ap (λ (x : Option ℕ). wrote_among few (record { session = session; first = first }) count key || is_number key x) (wrote_same (first + suc count) (within count (omega arith)))

  among_refused : (first count : ℕ) → ((c : ℕ) → c < count → first + suc c < bound) → refused_among whole (record { session = session; first = first }) count ≡ refused_among few (record { session = session; first = first }) count
  among_refused first zero within = refl
  among_refused first (suc count) within =
      ap (λ (b : Bool). b || is_refusal (reply_at whole session (first + suc count))) (among_refused first count (λ c lt. within c (omega (arith, lt))))
      ∙ ap (λ (x : Option Reply). refused_among few (record { session = session; first = first }) count || is_refusal x) (same (first + suc count) (within count (omega arith)))

  pub before_wrote : (key : ℕ) → wrote_before whole session bound key ≡ wrote_before few session bound key
  before_wrote key =
      among_wrote (begin_in whole.lines session bound) (statements_before (trx_in_lines whole.lines session bound) bound) key (λ c lt. omega (arith, lt))
      ∙ ap (λ (ls : List Line). wrote_among few (trx_in_lines ls session bound) (statements_before (trx_in_lines ls session bound) bound) key) lines

  pub before_refused : refused_before whole session bound ≡ refused_before few session bound
  before_refused =
      among_refused (begin_in whole.lines session bound) (statements_before (trx_in_lines whole.lines session bound) bound) (λ c lt. omega (arith, lt))
      ∙ ap (λ (ls : List Line). refused_among few (trx_in_lines ls session bound) (statements_before (trx_in_lines ls session bound) bound)) lines
