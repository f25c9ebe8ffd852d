-- A transaction that begins has an id that is new and in range.
use Rattle.std.proofs.Common.{◌≡◌, ℕ, ◌+◌, ◌<◌, ◌≤◌, ◌⊎◌, List, ap, inl, inr, ⊎_elim}
use Rattle.mp_model.specs.declared.ids.TrxId.{TrxId}
use Rattle.mp_core_trx.specs.declared.opening.TheConstants.{SLOTS}
use Rattle.mp_core_trx.specs.declared.opening.TrxOpening.{TrxOpening}
use Rattle.mp_core_trx.specs.declared.part.Begun.{Begun}
use Rattle.mp_machine.specs.Lists.{IsIn, pushed}
use Rattle.mp_core_trx.specs.Parts.{trx, begun_of, HasBegun}
use Rattle.mp_core_trx.specs.Events.{IsNode}
use Rattle.mp_core_trx.specs.Invariant.{Ids}
use Rattle.mp_machine.proofs.Lists.{in_pushed, in_more, in_new, each_pushed, differ_pushed, same_item}

-- who had begun, with one more that began
pub begun_more : (begun : ℕ → List Begun) (n : ℕ) (b : Begun) (k : ℕ) (id : TrxId) → HasBegun (begun k) id → HasBegun (pushed begun n b k) id
begun_more begun n b k id h = (h.0, in_more begun n b k (begun_of id h.0) h.1)

pub begun_new : (begun : ℕ → List Begun) (n : ℕ) (id : TrxId) (view : ℕ) → HasBegun (pushed begun n (begun_of id view) n) id
begun_new begun n id view = (view, in_new begun n (begun_of id view))

pub begun_cases : (begun : ℕ → List Begun) (n : ℕ) (b : Begun) (k : ℕ) (id : TrxId) → HasBegun (pushed begun n b k) id → ((k ≡ n) × (id ≡ b.id)) ⊎ HasBegun (begun k) id
begun_cases begun n b k id h =
    ⊎_elim
    (λ (new : (k ≡ n) × (begun_of id h.0 ≡ b)). inl (new.0, ap (λ (x : Begun). x.id) new.1))
    (λ (old : IsIn (begun_of id h.0) (begun k)). inr (h.0, old))
    (in_pushed begun n b k (begun_of id h.0) h.1)

module _ (o : TrxOpening) (begun : ℕ → List Begun) (i : Ids o begun) where
  -- a node's transactions are told apart by their versions
  pub same_id : (n : ℕ) (a b : TrxId) → HasBegun (begun n) a → HasBegun (begun n) b → a.version ≡ b.version → a ≡ b
  same_id n a b h k e = ap (λ (x : Begun). x.id) (same_item (λ (x : Begun). x.id.version) (begun n) (i.differ n) (begun_of a h.0) (begun_of b k.0) h.1 k.1 e)

  -- an id names the node that began it
  pub as_trx : (n : ℕ) (id : TrxId) → HasBegun (begun n) id → id ≡ trx n id.slot id.version
  as_trx n id h = ap (λ node. trx node id.slot id.version) (i.own n (begun_of id h.0) h.1)

  pub ids_begin : (n : ℕ) (id : TrxId) (view : ℕ) → IsNode o n → id.node ≡ n → o.base.version < id.version → id.version ≤ o.base.version + o.begins → id.slot < SLOTS
      → ((b : Begun) → IsIn b (begun n) → ¬ (b.id.version ≡ id.version)) → Ids o (pushed begun n (begun_of id view))
  ids_begin n id view node own above within in_range fresh =
      let b = begun_of id view in
      record {
        nodes = each_pushed (λ k _. IsNode o k) begun n b i.nodes node;
        own = each_pushed (λ k x. x.id.node ≡ k) begun n b i.own own;
        slots = each_pushed (λ _ x. x.id.slot < SLOTS) begun n b i.slots in_range;
        versions = each_pushed (λ _ x. (o.base.version < x.id.version) × (x.id.version ≤ o.base.version + o.begins)) begun n b i.versions (above, within);
        differ = differ_pushed (λ (x : Begun). x.id.version) begun n b i.differ fresh;
      }
