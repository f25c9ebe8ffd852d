-- What a reply or a statement shows, by its form.
use Rattle.std.proofs.Common.{◌≡◌, ◌⊎◌, ℕ, true, false, List, Option, Some, None, refl, sym, ap, ◌∙◌, inl, inr, ◌≢◌, ◌==◌, []}
use Rattle.std.proofs.lemmas.Bool.{eqb-true, and_parts}
use mathlib.Core.Bool.{false≢true}
use Rattle.mp_model.specs.declared.ids.TrxName.{TrxName}
use Rattle.mp_model.specs.declared.replies.Reply.{Reply}
use Rattle.mp_model.specs.declared.replies.Reply.TheVariants.{Began, Got, Scanned, Wrote, Committed, CommittedNone, Unknown, RolledBack, Conflict, Held, Full, Skipped, Stopped}
use Rattle.mp_model.specs.declared.replies.WriteVerb.{WriteVerb}
use Rattle.mp_model.specs.declared.key_value.KeyValue.{KeyValue}
use Rattle.mp_script.specs.declared.statements.Stmt.{Stmt}
use Rattle.mp_script.specs.declared.statements.Stmt.TheVariants.{Begin, Get, Put, Del, Copy, Scan, Commit, Rollback}
use Rattle.mp_script.specs.Transactions.{target_key, cts_of, is_number, same_trx, acknowledged_cts, Target, target_of, begins, is_wrote}
use Rattle.mp_script.specs.Seen.{write_by}
use Rattle.mp_script.proofs.Options.{some_is, not_some}

-- which replies show a commit's number
pub shows_cts : (reply : Reply) (number : ℕ) → cts_of reply ≡ Some number → (reply ≡ Committed number) ⊎ (reply ≡ Unknown number)
shows_cts (Began view) number e = absurd (not_some number e)
shows_cts (Got value) number e = absurd (not_some number e)
shows_cts (Scanned rows) number e = absurd (not_some number e)
shows_cts (Wrote verb) number e = absurd (not_some number e)
shows_cts (Committed cts) number e = inl (ap (λ (c : ℕ). Committed c) (some_is cts number e))
shows_cts CommittedNone number e = absurd (not_some number e)
shows_cts (Unknown cts) number e = inr (ap (λ (c : ℕ). Unknown c) (some_is cts number e))
shows_cts RolledBack number e = absurd (not_some number e)
shows_cts (Conflict verb cts) number e = absurd (not_some number e)
shows_cts (Held verb name) number e = absurd (not_some number e)
shows_cts (Full verb) number e = absurd (not_some number e)
shows_cts Skipped number e = absurd (not_some number e)
shows_cts (Stopped by) number e = absurd (not_some number e)

-- a key that was written among the first statements was written by one of them
pub numbered_so : (key : ℕ) (x : Option ℕ) → is_number key x ≡ true → x ≡ Some key
numbered_so key None e = absurd (false≢true e)
numbered_so key (Some other) e = ap (λ (k : ℕ). Some k) (eqb-true other key e)

pub same_trx_is : (a b : TrxName) → same_trx a b ≡ true → a ≡ b
same_trx_is a b e =
    let both = and_parts (a.session == b.session) (a.first == b.first) e in
    ap (λ (s : ℕ). record { session = s; first = a.first }) (eqb-true a.session b.session both.0) ∙ ap (λ (n : ℕ). record { session = b.session; first = n }) (eqb-true a.first b.first both.1)

pub acknowledged_shows : (reply : Reply) (number : ℕ) → acknowledged_cts reply ≡ Some number → cts_of reply ≡ Some number
acknowledged_shows (Began view) number e = absurd (not_some number e)
acknowledged_shows (Got value) number e = absurd (not_some number e)
acknowledged_shows (Scanned rows) number e = absurd (not_some number e)
acknowledged_shows (Wrote verb) number e = absurd (not_some number e)
acknowledged_shows (Committed cts) number e = e
acknowledged_shows CommittedNone number e = absurd (not_some number e)
acknowledged_shows (Unknown cts) number e = absurd (not_some number e)
acknowledged_shows RolledBack number e = absurd (not_some number e)
acknowledged_shows (Conflict verb cts) number e = absurd (not_some number e)
acknowledged_shows (Held verb name) number e = absurd (not_some number e)
acknowledged_shows (Full verb) number e = absurd (not_some number e)
acknowledged_shows Skipped number e = absurd (not_some number e)
acknowledged_shows (Stopped by) number e = absurd (not_some number e)

-- which reply acknowledges a number
pub acknowledges : (reply : Reply) (number : ℕ) → is_number number (acknowledged_cts reply) ≡ true → reply ≡ Committed number
acknowledges (Began view) number e = absurd (false≢true e)
acknowledges (Got value) number e = absurd (false≢true e)
acknowledges (Scanned rows) number e = absurd (false≢true e)
acknowledges (Wrote verb) number e = absurd (false≢true e)
acknowledges (Committed cts) number e = ap (λ (c : ℕ). Committed c) (eqb-true cts number e)
acknowledges CommittedNone number e = absurd (false≢true e)
acknowledges (Unknown cts) number e = absurd (false≢true e)
acknowledges RolledBack number e = absurd (false≢true e)
acknowledges (Conflict verb cts) number e = absurd (false≢true e)
acknowledges (Held verb name) number e = absurd (false≢true e)
acknowledges (Full verb) number e = absurd (false≢true e)
acknowledges Skipped number e = absurd (false≢true e)
acknowledges (Stopped by) number e = absurd (false≢true e)

-- a write's target is the key that it writes
pub target_same : (stmt : Stmt) (verb : WriteVerb) (key : ℕ) → target_of stmt ≡ Some (record { verb = verb; key = key }) → target_key (Some stmt) ≡ Some key
target_same Begin verb key e = absurd (not_some (record { verb = verb; key = key }) e)
target_same (Get k) verb key e = absurd (not_some (record { verb = verb; key = key }) e)
target_same (Put k value) verb key e = ap (λ (t : Target). Some t.key) (some_is _ (record { verb = verb; key = key }) e)
target_same (Del k) verb key e = ap (λ (t : Target). Some t.key) (some_is _ (record { verb = verb; key = key }) e)
target_same (Copy source k) verb key e = ap (λ (t : Target). Some t.key) (some_is _ (record { verb = verb; key = key }) e)
target_same (Scan low most) verb key e = absurd (not_some (record { verb = verb; key = key }) e)
target_same Commit verb key e = absurd (not_some (record { verb = verb; key = key }) e)
target_same Rollback verb key e = absurd (not_some (record { verb = verb; key = key }) e)

pub wrote_verb : (reply : Reply) → is_wrote (Some reply) ≡ true → (verb : WriteVerb) × (reply ≡ Wrote verb)
wrote_verb (Began view) e = absurd (false≢true e)
wrote_verb (Got value) e = absurd (false≢true e)
wrote_verb (Scanned rows) e = absurd (false≢true e)
wrote_verb (Wrote verb) e = (verb, refl)
wrote_verb (Committed cts) e = absurd (false≢true e)
wrote_verb CommittedNone e = absurd (false≢true e)
wrote_verb (Unknown cts) e = absurd (false≢true e)
wrote_verb RolledBack e = absurd (false≢true e)
wrote_verb (Conflict verb cts) e = absurd (false≢true e)
wrote_verb (Held verb name) e = absurd (false≢true e)
wrote_verb (Full verb) e = absurd (false≢true e)
wrote_verb Skipped e = absurd (false≢true e)
wrote_verb (Stopped by) e = absurd (false≢true e)

-- what writes a key is no `begin`
pub no_begin_writes : (stmt : Stmt) (verb : WriteVerb) (key : ℕ) → target_of stmt ≡ Some (record { verb = verb; key = key }) → begins (Some stmt) ≡ true → ⊥
no_begin_writes Begin verb key e is = not_some (record { verb = verb; key = key }) e
no_begin_writes (Get k) verb key e is = false≢true is
no_begin_writes (Put k value) verb key e is = false≢true is
no_begin_writes (Del k) verb key e is = false≢true is
no_begin_writes (Copy source k) verb key e is = false≢true is
no_begin_writes (Scan low most) verb key e is = false≢true is
no_begin_writes Commit verb key e is = false≢true is
no_begin_writes Rollback verb key e is = false≢true is

pub not_begins : (stmt : Stmt) → stmt ≢ Begin → begins (Some stmt) ≡ false
not_begins Begin ne = absurd (ne refl)
not_begins (Get key) ne = refl
not_begins (Put key value) ne = refl
not_begins (Del key) ne = refl
not_begins (Copy source key) ne = refl
not_begins (Scan low most) ne = refl
not_begins Commit ne = refl
not_begins Rollback ne = refl

-- a statement that writes no key is no write
pub no_target : (rows : List KeyValue) (stmt : Option Stmt) → target_key stmt ≡ None → write_by rows stmt ≡ []
no_target rows None e = refl
no_target rows (Some Begin) e = refl
no_target rows (Some (Get key)) e = refl
no_target rows (Some (Put key value)) e = absurd (not_some key (sym e))
no_target rows (Some (Del key)) e = absurd (not_some key (sym e))
no_target rows (Some (Copy source key)) e = absurd (not_some key (sym e))
no_target rows (Some (Scan low most)) e = refl
no_target rows (Some Commit) e = refl
no_target rows (Some Rollback) e = refl

-- what has no target writes no key
pub target_none : (stmt : Stmt) → target_of stmt ≡ None → target_key (Some stmt) ≡ None
target_none Begin e = refl
target_none (Get key) e = refl
target_none (Put key value) e = absurd (not_some _ (sym e))
target_none (Del key) e = absurd (not_some _ (sym e))
target_none (Copy source key) e = absurd (not_some _ (sym e))
target_none (Scan low most) e = refl
target_none Commit e = refl
target_none Rollback e = refl
