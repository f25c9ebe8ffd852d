-- What a part shows of the versions of keys, it shows after any later step.
use Rattle.std.proofs.Common.{ℕ, zero, suc, List, [], ◌∷◌, inl, inr, ⊎_elim}
use Rattle.mp_machine.specs.Lists.{IsIn}
use Rattle.mp_model.specs.declared.ids.TrxId.{TrxId}
use Rattle.mp_model.specs.declared.key_value.KeyValue.{KeyValue}
use Rattle.mp_cells.specs.declared.rows.Row.{Row}
use Rattle.mp_cells.specs.PageView.{PageView}
use Rattle.mp_core_trx.specs.declared.part.SlotLoad.{SlotLoad}
use Rattle.mp_core_pages.specs.declared.part.GivenPage.{GivenPage}
use Rattle.mp_core.specs.declared.part.CorePart.{CorePart}
use Rattle.mp_core.specs.CoreExtends.{CoreExtends}
use Rattle.mp_supports.specs.Seeing.{ShowsNewest, ShowsNext, IsLoadOf, IsHidden, IsCommittedBelow, IsSettledFor, IsSeenBy, LeadsToSeen, HasOnlyPut, Sees, AreSeenAs, IsStretch, ScansTo}
use Rattle.mp_supports.proofs.Extending.{given_in, loaded_in, made_below}

module _ (p q : CorePart) (e : CoreExtends p q) where
  pub newest_more : (leaf : GivenPage PageView) (key : ℕ) (newest : Row) → ShowsNewest p leaf key newest → ShowsNewest q leaf key newest
  newest_more leaf key newest h = record { given = given_in p q e leaf h.given; its_leaf = h.its_leaf; newest_is = h.newest_is }

  pub next_more : (row next : Row) → ShowsNext p row next → ShowsNext q row next
  next_more row next h = record { link = h.link; linked = h.linked; page = h.page; given = given_in p q e h.page h.given; number = h.number; next_is = h.next_is }

  pub load_more : (id : TrxId) (load : SlotLoad) → IsLoadOf p id load → IsLoadOf q id load
  load_more id load h = record { loaded = loaded_in p q e load h.loaded; of = h.of; slot = h.slot }

  pub hidden_more : (reader : TrxId) (view : ℕ) (row : Row) → IsHidden p reader view row → IsHidden q reader view row
  hidden_more reader view row h = record {
    writer = h.writer;
    its_writer = h.its_writer;
    other = h.other;
    load = h.load;
    is_load = load_more h.writer h.load h.is_load;
    hides = h.hides;
  }

  committed_more : (view : ℕ) (row : Row) → IsCommittedBelow p view row → IsCommittedBelow q view row
  committed_more view row h = record {
    writer = h.writer;
    its_writer = h.its_writer;
    load = h.load;
    is_load = load_more h.writer h.load h.is_load;
    cts = h.cts;
    committed = h.committed;
    within = h.within;
  }

  pub settled_more : (view : ℕ) (row : Row) → IsSettledFor p view row → IsSettledFor q view row
  settled_more view row h = ⊎_elim (λ none. inl none) (λ below. inr (committed_more view row below)) h

  seen_more : (reader : TrxId) (view : ℕ) (row : Row) → IsSeenBy p reader view row → IsSeenBy q reader view row
  seen_more reader view row h = ⊎_elim (λ own. inl own) (λ settled. inr (settled_more view row settled)) h

  pub leads_more : (reader : TrxId) (view : ℕ) (row : Row) (older : List Row) (found : Row) → LeadsToSeen p reader view row older found → LeadsToSeen q reader view row older found
  leads_more reader view row [] found h = (h.0, seen_more reader view row h.1)
  leads_more reader view row (next ∷ older) found h = (hidden_more reader view row h.0, next_more row next h.1, leads_more reader view next older found h.2)

  only_put_more : (reader : TrxId) (leaf : GivenPage PageView) → IsIn leaf p.pages.given → HasOnlyPut p reader leaf.height → HasOnlyPut q reader leaf.height
  only_put_more reader leaf given h = λ m there of below. h m (made_below p q e m leaf given below there) of below

  pub sees_more : (pages : List (GivenPage PageView)) (reader : TrxId) (view key : ℕ) (found : Row) → Sees p pages reader view key found → Sees q pages reader view key found
  sees_more pages reader view key found h = record {
    leaf = h.leaf;
    rests = h.rests;
    knew = h.knew;
    newest = h.newest;
    shows = newest_more h.leaf key h.newest h.shows;
    older = h.older;
    leads = leads_more reader view h.newest h.older found h.leads;
    only_put = only_put_more reader h.leaf h.shows.given h.only_put;
  }

  pub are_seen_more : (reader : TrxId) (view : ℕ) (rows : List Row) (seen : List KeyValue) → AreSeenAs p reader view rows seen → AreSeenAs q reader view rows seen
  are_seen_more reader view [] seen h = h
  are_seen_more reader view (newest ∷ others) seen h = (h.0, h.1, h.2, leads_more reader view newest h.0 h.1 h.3, h.4, are_seen_more reader view others h.2 h.5)

  stretch_more : (pages : List (GivenPage PageView)) (reader : TrxId) (view low next : ℕ) (rows : List KeyValue) → IsStretch p pages reader view low next rows → IsStretch q pages reader view low next rows
  stretch_more pages reader view low next rows h = record {
    leaf = h.leaf;
    rests = h.rests;
    given = given_in p q e h.leaf h.given;
    its_leaf = h.its_leaf;
    some_keys = h.some_keys;
    within = h.within;
    knew = h.knew;
    seen = are_seen_more reader view _ rows h.seen;
    only_put = only_put_more reader h.leaf h.given h.only_put;
  }

  pub scans_more : (pages : List (GivenPage PageView)) (reader : TrxId) (view count low high : ℕ) (rows : List KeyValue) → ScansTo p pages reader view count low high rows → ScansTo q pages reader view count low high rows
  scans_more pages reader view zero low high rows h = h
  scans_more pages reader view (suc count) low high rows h = (h.0, h.1, h.2, stretch_more pages reader view low h.0 h.1 h.3, scans_more pages reader view count h.0 high h.2 h.4, h.5)
