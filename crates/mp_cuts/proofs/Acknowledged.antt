-- An acknowledged commit has its record durable, so every valid cut keeps it.
use Rattle.std.proofs.Common.{◌≡◌, ℕ, ◌≤◌, ◌==◌, ◌||◌, Bool, true, false, List, [], ◌∷◌, Option, Some, refl, sym, ap, subst, ◌∙◌, inl, inr, eq-eqb}
use Rattle.mp_machine.specs.Lists.{IsIn}
use Rattle.mp_model.specs.declared.ids.TrxId.{TrxId}
use Rattle.mp_model.specs.declared.replies.Reply.{Reply}
use Rattle.mp_model.specs.declared.replies.Reply.TheVariants.{Began, Got, Scanned, Wrote, Committed, CommittedNone, Unknown, RolledBack, Conflict, Held, Full, Skipped, Stopped}
use Rattle.mp_script.specs.declared.statements.Line.{Line}
use Rattle.mp_script.specs.Transactions.{acknowledged_cts}
use Rattle.mp_histories.specs.Commits.{HasStamp}
use Rattle.mp_histories.proofs.Lists.{some_same}
use Rattle.mp_core_trx.specs.declared.opening.TrxOpening.{TrxOpening}
use Rattle.mp_core_pages.specs.PageParts.{durable_llsn}
use Rattle.mp_core.specs.declared.opening.CoreOpening.{CoreOpening}
use Rattle.mp_core.specs.World.{CoreWorld, core_part}
use Rattle.mp_core.specs.CoreExtends.{durable_of}
use Rattle.mp_core.specs.OwnMtrs.{TrxMtr}
use Rattle.mp_facts.specs.Facts.{made_in, IsForced, Facts}
use Rattle.mp_supports.specs.Work.{Work}
use Rattle.mp_supports.specs.Supports.{Trace, RecordsCommit, SupportsReply}
use Rattle.mp_recover.specs.KeptCommits.{KeptCommit, stamps_of}
use Rattle.mp_recover.specs.Closed.{is_kept}

or_left : (a b : Bool) → a ≡ true → (a || b) ≡ true
or_left true b e = refl
or_left false b e = absurd cc

or_right : (a b : Bool) → b ≡ true → (a || b) ≡ true
or_right true b e = refl
or_right false b e = e

-- a commit that is kept is kept by its number
pub has_number : (commits : List KeptCommit) (writer : Option TrxId) (cts : ℕ) → HasStamp (stamps_of commits) writer cts → is_kept commits cts ≡ true
has_number [] writer cts has = absurd has
has_number (k ∷ commits) writer cts (inl is) = or_left (k.cts == cts) (is_kept commits cts) (eq-eqb k.cts cts is.1)
has_number (k ∷ commits) writer cts (inr has) = or_right (k.cts == cts) (is_kept commits cts) (has_number commits writer cts has)

module _ (o : CoreOpening) (w : CoreWorld) (f : Facts o w) (work : Work) (n down : ℕ) (trace : Trace) (line : Line) (number : ℕ) where
  -- the node's commit record is durable
  forced_by : (id : TrxId) (view cts : ℕ) (m : TrxMtr) → RecordsCommit (core_part w n) id view cts m → m.mtr.llsn ≤ durable_of (core_part w n) → IsForced o w id cts
  forced_by id view cts m r le =
      let its = f.of_history.placed n m r.was_made in
      let node : n ≡ id.node = sym its.3.2 ∙ ap (λ (x : TrxId). x.node) (some_same its.3.0 id (sym its.3.1 ∙ r.of)) in
      record {
        recorded = record { made = m; was_made = subst (λ (k : ℕ). IsIn m (made_in w k)) node r.was_made; commit = r.commit };
        durable = subst (λ (k : ℕ). m.mtr.llsn ≤ durable_llsn o.trx.base.llsn (w.pages.durables k)) node
            (subst (λ (t : TrxOpening). m.mtr.llsn ≤ durable_llsn t.base.llsn (w.pages.durables n)) (f.inv.trx.carried n) le);
      }

  pub acknowledged_forced : (reply : Reply) → SupportsReply work (core_part w n) down trace line reply → acknowledged_cts reply ≡ Some number → (id : TrxId) × IsForced o w id number
  acknowledged_forced (Committed cts) s e =
      (s.0, subst (λ (c : ℕ). IsForced o w s.0 c) (some_same cts number e) (forced_by s.0 s.1 cts s.3.0 s.3.3 s.3.4))
  acknowledged_forced (Began view) s e = absurd cc
  acknowledged_forced (Got value) s e = absurd cc
  acknowledged_forced (Scanned rows) s e = absurd cc
  acknowledged_forced (Wrote verb) s e = absurd cc
  acknowledged_forced CommittedNone s e = absurd cc
  acknowledged_forced (Unknown cts) s e = absurd cc
  acknowledged_forced RolledBack s e = absurd cc
  acknowledged_forced (Conflict verb cts) s e = absurd cc
  acknowledged_forced (Held verb name) s e = absurd cc
  acknowledged_forced (Full verb) s e = absurd cc
  acknowledged_forced Skipped s e = absurd cc
  acknowledged_forced (Stopped by) s e = absurd cc
