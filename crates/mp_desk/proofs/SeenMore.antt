-- How a reader sees versions, it sees them after any later step.
use Rattle.std.proofs.Common.{◌≡◌, ℕ, ◌++◌, List, [], ◌∷◌, refl, sym, ap, subst, ◌∙◌, append_assoc}
use Rattle.mp_model.specs.declared.ids.TrxId.{TrxId}
use Rattle.mp_model.specs.declared.key_value.KeyValue.{KeyValue}
use Rattle.mp_cells.specs.declared.rows.Row.{Row}
use Rattle.mp_core.specs.declared.part.CorePart.{CorePart}
use Rattle.mp_core.specs.CoreExtends.{CoreExtends}
use Rattle.mp_supports.specs.Seeing.{ShowsNext, IsHidden, IsSeenBy, LeadsToSeen, key_value_of, AreSeenAs}
use Rattle.mp_supports.proofs.SeesMore.{next_more, hidden_more}
use Rattle.mp_desk.specs.Statements.{LeadsPast}

module _ (p q : CorePart) (e : CoreExtends p q) where
  pub past_more : (reader : TrxId) (view : ℕ) (row : Row) (older : List Row) (last : Row) → LeadsPast p reader view row older last → LeadsPast q reader view row older last
  past_more reader view row [] last h = h
  past_more reader view row (next ∷ older) last h = (hidden_more p q e reader view row h.0, next_more p q e row next h.1, past_more reader view next older last h.2)

module _ (q : CorePart) (reader : TrxId) (view : ℕ) where
  -- one version further down
  pub past_one : (row : Row) (older : List Row) (last next : Row) → LeadsPast q reader view row older last → IsHidden q reader view last → ShowsNext q last next → LeadsPast q reader view row (older ++ next ∷ []) next
  past_one row [] last next h hidden shows = let is : last ≡ row = h in subst_pair is
    where
      subst_pair : last ≡ row → LeadsPast q reader view row (next ∷ []) next
      subst_pair is = (subst (IsHidden q reader view) is hidden, subst (λ (r : Row). ShowsNext q r next) is shows, refl)
  past_one row (first ∷ older) last next h hidden shows = (h.0, h.1, past_one first older last next h.2 hidden shows)

  -- the last of them is seen
  pub past_seen : (row : Row) (older : List Row) (last : Row) → LeadsPast q reader view row older last → IsSeenBy q reader view last → LeadsToSeen q reader view row older last
  past_seen row [] last h seen = (h, subst (IsSeenBy q reader view) h seen)
  past_seen row (next ∷ older) last h seen = (h.0, h.1, past_seen next older last h.2 seen)

  -- one row more of a leaf
  pub one_seen : (rows : List Row) (seen : List KeyValue) (row : Row) (older : List Row) (found : Row) → AreSeenAs q reader view rows seen → LeadsToSeen q reader view row older found
      → AreSeenAs q reader view (rows ++ row ∷ []) (seen ++ key_value_of row.key found.value)
  one_seen [] seen row older found h leads = (older, found, [], leads, ap (λ (l : List KeyValue). l ++ key_value_of row.key found.value) h ∙ sym (with_nothing (key_value_of row.key found.value)), refl)
    where
      with_nothing : (l : List KeyValue) → l ++ [] ≡ l
      with_nothing [] = refl
      with_nothing (x ∷ l) = ap (λ (m : List KeyValue). x ∷ m) (with_nothing l)
  one_seen (newest ∷ others) seen row older found h leads =
      let first = key_value_of newest.key (h.1).value in (
        h.0,
        h.1,
        h.2 ++ key_value_of row.key found.value,
        h.3,
        ap (λ (l : List KeyValue). l ++ key_value_of row.key found.value) h.4 ∙ append_assoc first h.2 (key_value_of row.key found.value),
        one_seen others h.2 row older found h.5 leads,
      )
