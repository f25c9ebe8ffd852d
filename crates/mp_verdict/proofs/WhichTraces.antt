-- Which answers begin a transaction, and which make an mtr: by the support of each reply.
use Rattle.std.proofs.Common.{◌≡◌, ◌⊎◌, ℕ, ◌≤◌, Some, None, refl, sym, ap, subst, ◌∙◌, inl, inr}
use Rattle.mp_model.specs.declared.ids.TrxId.{TrxId}
use Rattle.mp_model.specs.declared.replies.Reply.{Reply}
use Rattle.mp_model.specs.declared.replies.Reply.TheVariants.{Began, Got, Scanned, Wrote, Committed, CommittedNone, Unknown, RolledBack, Conflict, Held, Full, Skipped, Stopped}
use Rattle.mp_model.specs.declared.replies.WriteVerb.{WriteVerb}
use Rattle.mp_script.specs.declared.statements.Line.{Line}
use Rattle.mp_script.specs.declared.statements.Stmt.TheVariants.{Begin, Commit}
use Rattle.mp_script.specs.Transactions.{trx_in_lines}
use Rattle.mp_script.specs.Right.{WritesKey}
use Rattle.mp_script.proofs.Options.{some_is, not_some}
use Rattle.mp_core_trx.specs.declared.part.Begun.{Begun}
use Rattle.mp_core_trx.specs.Parts.{draw_of}
use Rattle.mp_core.specs.declared.part.CorePart.{CorePart}
use Rattle.mp_core.specs.OwnMtrs.{TrxMtr}
use Rattle.mp_core.specs.CoreExtends.{durable_of}
use Rattle.mp_supports.specs.Work.{Work, name_of}
use Rattle.mp_supports.specs.Supports.{Trace, no_trace, looked_trace, began_trace, wrote_trace, commit_trace, IsTrxOf, Overwrites, RecordsCommit, SupportsReply}

-- a reply that began a transaction
pub record IsBeginOf (work : Work) (line : Line) (reply : Reply) (b : Begun) : Type 0 where
  pub is : reply ≡ Began b.view
  pub stmt : line.stmt ≡ Begin
  pub named : name_of work b.id ≡ Some (trx_in_lines work.lines line.session line.index)

-- a write whose mtr put a row
pub record IsPutBy (work : Work) (p : CorePart) (trace : Trace) (line : Line) (m : TrxMtr) : Type 0 where
  pub id : TrxId
  pub view : ℕ
  pub key : ℕ
  pub verb : WriteVerb
  pub trx : IsTrxOf work p line id view
  pub writes : WritesKey line verb key
  pub over : Overwrites p trace.pages id view key line.stmt m

-- a commit whose mtr recorded it
pub record IsCommitBy (work : Work) (p : CorePart) (line : Line) (cts : ℕ) (m : TrxMtr) : Type 0 where
  pub id : TrxId
  pub view : ℕ
  pub trx : IsTrxOf work p line id view
  pub stmt : line.stmt ≡ Commit
  pub records : RecordsCommit p id view cts m

-- an mtr in the trace of an answer is a write's that was answered ok or stopped, or a commit's, whose end may be unknown
abbrev pub MtrIsOf : Work → CorePart → Trace → Line → Reply → TrxMtr → Type 0
MtrIsOf work p trace line reply m =
    ((verb : WriteVerb) × (reply ≡ Wrote verb) × IsPutBy work p trace line m)
    ⊎ (((by : ℕ) × (reply ≡ Stopped by) × IsPutBy work p trace line m)
    ⊎ (((cts : ℕ) × (reply ≡ Committed cts) × IsCommitBy work p line cts m × (m.mtr.llsn ≤ durable_of p))
    ⊎ ((cts : ℕ) × (reply ≡ Unknown cts) × IsCommitBy work p line cts m)))

module _ (work : Work) (p : CorePart) (trace : Trace) (line : Line) where
  no_mtr : (other : Trace) (m : TrxMtr) → trace ≡ other → other.mtr ≡ None → trace.mtr ≡ Some m → ⊥
  no_mtr other m is none e = not_some m (sym none ∙ ap (λ (t : Trace). t.mtr) (sym is) ∙ e)

  no_begin : (other : Trace) (b : Begun) → trace ≡ other → other.began ≡ None → trace.began ≡ Some b → ⊥
  no_begin other b is none e = not_some b (sym none ∙ ap (λ (t : Trace). t.began) (sym is) ∙ e)

  mtr_is : (made m : TrxMtr) (other : Trace) → trace ≡ other → other.mtr ≡ Some made → trace.mtr ≡ Some m → made ≡ m
  mtr_is made m other is has e = some_is made m (sym has ∙ ap (λ (t : Trace). t.mtr) (sym is) ∙ e)

  pub which_mtr : (down : ℕ) (reply : Reply) (m : TrxMtr) → SupportsReply work p down trace line reply → trace.mtr ≡ Some m → MtrIsOf work p trace line reply m
  which_mtr down (Began view) m h e = absurd (no_mtr (began_trace h.0) m h.2 refl e)
  which_mtr down (Got value) m h e = absurd (no_mtr (looked_trace trace.pages) m h.3.5 refl e)
  which_mtr down (Scanned rows) m h e = absurd (no_mtr (looked_trace trace.pages) m h.3.8 refl e)
  which_mtr down (Wrote verb) m h e =
      let is : h.3.1 ≡ m = mtr_is h.3.1 m (wrote_trace trace.pages h.3.1) h.3.3 refl e in
      inl (verb, refl, record { id = h.0; view = h.1; key = h.3.0; verb = verb; trx = h.2; writes = h.3.2; over = subst (Overwrites p trace.pages h.0 h.1 h.3.0 line.stmt) is h.3.4 })
  which_mtr down (Committed cts) m h e =
      let is : h.3.0 ≡ m = mtr_is h.3.0 m (commit_trace (draw_of h.0 cts) h.3.0) h.3.2 refl e in
      inr (inr (inl (cts, refl, record { id = h.0; view = h.1; trx = h.2; stmt = h.3.1; records = subst (RecordsCommit p h.0 h.1 cts) is h.3.3 }, subst (λ (k : TrxMtr). k.mtr.llsn ≤ durable_of p) is h.3.4)))
  which_mtr down CommittedNone m h e = absurd (no_mtr no_trace m h.1 refl e)
  which_mtr down (Unknown cts) m h e =
      let is : h.3.0 ≡ m = mtr_is h.3.0 m (commit_trace (draw_of h.0 cts) h.3.0) h.3.2 refl e in
      inr (inr (inr (cts, refl, record { id = h.0; view = h.1; trx = h.2; stmt = h.3.1; records = subst (RecordsCommit p h.0 h.1 cts) is h.3.3 })))
  which_mtr down RolledBack m h e = absurd (no_mtr no_trace m h.1 refl e)
  which_mtr down (Conflict verb cts) m h e = absurd (no_mtr no_trace m h.3.5 refl e)
  which_mtr down (Held verb name) m h e = absurd (no_mtr no_trace m h.3.6 refl e)
  which_mtr down (Full verb) m h e = absurd (no_mtr no_trace m h.3.3 refl e)
  which_mtr down Skipped m h e = absurd (no_mtr no_trace m h.1 refl e)
  which_mtr down (Stopped by) m h e = elim h.2 [
    | inl none ↦ absurd (no_mtr no_trace m none refl e)
    | inr x ↦
        let is : x.4 ≡ m = mtr_is x.4 m (wrote_trace trace.pages x.4) x.7 refl e in
        inr (inl (by, refl, record { id = x.0; view = x.1; key = x.2; verb = x.3; trx = x.5; writes = x.6; over = subst (Overwrites p trace.pages x.0 x.1 x.2 line.stmt) is x.8 }))
  ]

  pub which_begin : (down : ℕ) (reply : Reply) (b : Begun) → SupportsReply work p down trace line reply → trace.began ≡ Some b → IsBeginOf work line reply b
  which_begin down (Began view) b h e =
      let is : h.0 ≡ b = some_is h.0 b (sym (ap (λ (t : Trace). t.began) h.2) ∙ e) in
      record { is = ap (λ (v : ℕ). Began v) (sym h.4 ∙ ap (λ (x : Begun). x.view) is); stmt = h.1; named = subst (λ (x : Begun). name_of work x.id ≡ Some (trx_in_lines work.lines line.session line.index)) is h.5 }
  which_begin down (Got value) b h e = absurd (no_begin (looked_trace trace.pages) b h.3.5 refl e)
  which_begin down (Scanned rows) b h e = absurd (no_begin (looked_trace trace.pages) b h.3.8 refl e)
  which_begin down (Wrote verb) b h e = absurd (no_begin (wrote_trace trace.pages h.3.1) b h.3.3 refl e)
  which_begin down (Committed cts) b h e = absurd (no_begin (commit_trace (draw_of h.0 cts) h.3.0) b h.3.2 refl e)
  which_begin down CommittedNone b h e = absurd (no_begin no_trace b h.1 refl e)
  which_begin down (Unknown cts) b h e = absurd (no_begin (commit_trace (draw_of h.0 cts) h.3.0) b h.3.2 refl e)
  which_begin down RolledBack b h e = absurd (no_begin no_trace b h.1 refl e)
  which_begin down (Conflict verb cts) b h e = absurd (no_begin no_trace b h.3.5 refl e)
  which_begin down (Held verb name) b h e = absurd (no_begin no_trace b h.3.6 refl e)
  which_begin down (Full verb) b h e = absurd (no_begin no_trace b h.3.3 refl e)
  which_begin down Skipped b h e = absurd (no_begin no_trace b h.1 refl e)
  which_begin down (Stopped by) b h e = elim h.2 [
    | inl none ↦ absurd (no_begin no_trace b none refl e)
    | inr x ↦ absurd (no_begin (wrote_trace trace.pages x.4) b x.7 refl e)
  ]
