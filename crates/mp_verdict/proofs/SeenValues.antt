-- What a transaction sees at a key is the value that its part shows it: by the views of transactions, and then by their
-- statements.
use Rattle.std.proofs.Common.{◌≡◌, ◌⊎◌, ℕ, zero, suc, ◌+◌, ◌<◌, ◌≤◌, ◌==◌, Bool, true, false, cond, List, [], ◌∷◌, length, Option, Some, None, refl, sym, ap, subst, ◌∙◌, inl, inr, arith, eq-eqb}
use mathlib.Core.Bool.{false≢true}
use Rattle.std.proofs.lemmas.Bool.{cases_lt, eqb-true}
use Rattle.mp_model.specs.declared.ids.TrxId.{TrxId}
use Rattle.mp_model.specs.declared.ids.TrxName.{TrxName}
use Rattle.mp_model.specs.declared.key_value.KeyValue.{KeyValue}
use Rattle.mp_model.specs.declared.key_value.KeyWrite.{KeyWrite}
use Rattle.mp_model.specs.declared.replies.Answer.{Answer}
use Rattle.mp_model.specs.Folded.{over, value_at}
use Rattle.mp_script.specs.declared.statements.Stmt.{Stmt}
use Rattle.mp_script.specs.declared.statements.Stmt.TheVariants.{Begin, Get, Put, Del, Copy, Scan, Commit, Rollback}
use Rattle.mp_script.specs.Execution.{Execution, stmt_at, reply_at}
use Rattle.mp_script.specs.Transactions.{trx_of, view_of, statements_before, wrote_at, is_wrote, target_key}
use Rattle.mp_script.specs.Seen.{write_by, write_at, acknowledgement, rows_of_view}
use Rattle.mp_script.specs.LastValues.{or_else_value, last_value, value_over, first_writes, writes_acknowledged, writes_of_commit, IsValueInView}
use Rattle.mp_script.specs.Answers.{WroteKey}
use Rattle.mp_script.proofs.Options.{some_is, not_some}
use Rattle.mp_script.proofs.LastValues.{value_at-over, last_value-append}
use Rattle.mp_script.proofs.ViewValues.{value_in_view}
use Rattle.mp_script.proofs.ReplyForms.{no_target}
use Rattle.mp_cells.specs.declared.rows.Row.{Row}
use Rattle.mp_histories.proofs.Writers.{decided}
use Rattle.mp_core.specs.declared.opening.CoreOpening.{CoreOpening}
use Rattle.mp_core.specs.World.{CoreWorld}
use Rattle.mp_core.specs.OwnMtrs.{TrxMtr}
use Rattle.mp_facts.specs.Facts.{IsForced, Facts}
use Rattle.mp_verdict.specs.Reads.{PutBelow, LastPutBelow, PutsNothingBelow, PutOf, LastPutOf, CommitsShow, ShowsReader}
use Rattle.mp_verdict.specs.Writers.{LiesBetween, IsValueOf, IsWriter, IsAcknowledged, TellsOfWorld}

module _ (o : CoreOpening) (w : CoreWorld) (run : Execution) (trx : TrxName) (id : TrxId) (count limit : ℕ) (writer : IsWriter o w run trx id count limit) where
  -- the rows that the statement with this place sees, by its transaction's writes before
  abbrev seen_at : ℕ → List KeyValue
  seen_at place = over (rows_of_view run trx) (first_writes run trx place)

  abbrev writes_here : ℕ → List KeyWrite
  writes_here place = write_at run (seen_at place) trx.session (trx.first + suc place)

  -- an ok write writes its put's value
  abbrev pub WritesPut : ℕ → Type 0
  WritesPut place = (key : ℕ) → WroteKey run trx place key → writes_here place ≡ record { key = key; value = (writer.rows place).value } ∷ []

  -- no write of the key among the first statements
  abbrev NoneWrote : ℕ → ℕ → Type 0
  NoneWrote key place = (i : ℕ) → i < place → WroteKey run trx i key → ⊥

  -- the last of them wrote the key
  record LastWrote (key place : ℕ) : Type 0 where
    index : ℕ
    below : index < place
    wrote : WroteKey run trx index key
    sets : last_value key (first_writes run trx place) ≡ Some (writer.rows index).value
    later : (i : ℕ) → index < i → i < place → WroteKey run trx i key → ⊥

  abbrev OwnWrites : ℕ → ℕ → Type 0
  OwnWrites key place = LastWrote key place ⊎ (NoneWrote key place × (last_value key (first_writes run trx place) ≡ None))

  -- one statement more that didn't write the key
  own_same : (key place : ℕ) → (WroteKey run trx place key → ⊥) → last_value key (first_writes run trx (suc place)) ≡ last_value key (first_writes run trx place) → OwnWrites key place → OwnWrites key (suc place)
  own_same key place unwritten same (inl l) = let below = l.below in inl (record {
    index = l.index;
    below = omega (arith, below);
    wrote = l.wrote;
    sets = same ∙ l.sets;
    later = λ i lt upto wrote. elim (cases_lt i place) [
      | inl under ↦ l.later i lt under wrote
      | inr ge ↦ let is : i ≡ place = omega (arith, ge, upto) in unwritten (subst (λ (k : ℕ). WroteKey run trx k key) is wrote)
    ];
  })
  own_same key place unwritten same (inr n) = inr (
    λ i upto wrote. elim (cases_lt i place) [
      | inl under ↦ n.0 i under wrote
      | inr ge ↦ let is : i ≡ place = omega (arith, ge, upto) in unwritten (subst (λ (k : ℕ). WroteKey run trx k key) is wrote)
    ],
    same ∙ n.1,
  )

  -- a statement that wrote no key writes nothing
  no_write : (place : ℕ) → wrote_at run trx.session (trx.first + suc place) ≡ None → writes_here place ≡ []
  no_write place none = by_ok (is_wrote (reply_at run trx.session (trx.first + suc place))) refl
    where
      by_ok : (b : Bool) → is_wrote (reply_at run trx.session (trx.first + suc place)) ≡ b → writes_here place ≡ []
      by_ok true is =
          let target : target_key (stmt_at run trx.session (trx.first + suc place)) ≡ None = sym (ap (λ (b : Bool). cond b (target_key (stmt_at run trx.session (trx.first + suc place))) None) is) ∙ none in
          ap (λ (b : Bool). cond b (write_by (seen_at place) (stmt_at run trx.session (trx.first + suc place))) []) is ∙ no_target (seen_at place) (stmt_at run trx.session (trx.first + suc place)) target
      by_ok false is = ap (λ (b : Bool). cond b (write_by (seen_at place) (stmt_at run trx.session (trx.first + suc place))) []) is

  one_write : (key other : ℕ) (value : Option (List ℕ)) (b : Bool) → (other == key) ≡ b → last_value key (record { key = other; value = value } ∷ []) ≡ cond b (Some value) None
  one_write key other value b is = ap (λ (c : Bool). cond c (Some value) None) is

  own_next : (key place : ℕ) → WritesPut place → OwnWrites key place → OwnWrites key (suc place)
  own_next key place puts own = by_key (wrote_at run trx.session (trx.first + suc place)) refl
    where
      appended : last_value key (first_writes run trx (suc place)) ≡ or_else_value (last_value key (writes_here place)) (last_value key (first_writes run trx place))
      appended = last_value-append key (first_writes run trx place) (writes_here place)

      by_key : (x : Option ℕ) → wrote_at run trx.session (trx.first + suc place) ≡ x → OwnWrites key (suc place)
      by_key None is = own_same key place (λ wrote. not_some key (sym is ∙ wrote)) (appended ∙ ap (λ (ws : List KeyWrite). or_else_value (last_value key ws) (last_value key (first_writes run trx place))) (no_write place is)) own
      by_key (Some other) is =
          let here : writes_here place ≡ record { key = other; value = (writer.rows place).value } ∷ [] = puts other is in
          elim (decided (other == key)) [
            | inl same ↦
                let last : last_value key (first_writes run trx (suc place)) ≡ Some (writer.rows place).value =
                appended ∙ ap (λ (ws : List KeyWrite). or_else_value (last_value key ws) (last_value key (first_writes run trx place))) here
                ∙ ap (λ (x : Option (Option (List ℕ))). or_else_value x (last_value key (first_writes run trx place))) (one_write key other (writer.rows place).value true same) in
                let key_is : other ≡ key = eqb-true other key same in
                inl (record {
                  index = place;
                  below = omega arith;
                  wrote = is ∙ ap (λ (k : ℕ). Some k) key_is;
                  sets = last;
                  later = λ i lt upto wrote. absurd (omega (arith, lt, upto));
                })
            | inr apart ↦
                let last : last_value key (first_writes run trx (suc place)) ≡ last_value key (first_writes run trx place) =
                appended ∙ ap (λ (ws : List KeyWrite). or_else_value (last_value key ws) (last_value key (first_writes run trx place))) here
                ∙ ap (λ (x : Option (Option (List ℕ))). or_else_value x (last_value key (first_writes run trx place))) (one_write key other (writer.rows place).value false apart) in
                own_same key place (λ wrote. false≢true (sym apart ∙ eq-eqb other key (some_is other key (sym is ∙ wrote)))) last own
          ]

  own_writes_at : (key place : ℕ) → ((i : ℕ) → i < place → WritesPut i) → OwnWrites key place
  own_writes_at key zero puts = inr (λ i lt wrote. absurd (omega (arith, lt)), refl)
  own_writes_at key (suc place) puts = own_next key place (puts place (omega arith)) (own_writes_at key place (λ i lt. puts i (omega (arith, lt))))

  module _ (key place height : ℕ) (upto : place ≤ count) (within : height ≤ limit) (between : LiesBetween run trx writer.mtrs count place height) where
    put_here : (i : ℕ) → i < place → WroteKey run trx i key → PutBelow w id key height (writer.mtrs i) (writer.rows i)
    put_here i lt wrote =
        let p = writer.put i key (omega (arith, lt, upto)) wrote in
        record { was_made = p.was_made; of = p.of; put = p.put; its_key = p.its_key; below = (between i key (omega (arith, lt, upto)) wrote).0 lt }

    -- which of the statements made a put below the height
    index_of : (m : TrxMtr) (row : Row) → PutBelow w id key height m row → (i : ℕ) × (i < place) × WroteKey run trx i key × ((writer.mtrs i).at ≡ m.at) × (writer.rows i ≡ row)
    index_of m row p =
        let below = p.below in
        let x = writer.all key m row (record { was_made = p.was_made; of = p.of; put = p.put; its_key = p.its_key; below = omega (arith, below, within) }) in
        let at : (writer.mtrs x.0).at ≡ m.at = x.3 in
        elim (cases_lt x.0 place) [
          | inl lt ↦ (x.0, lt, x.2, x.3, x.4)
          | inr ge ↦ let above = (between x.0 key x.1 x.2).1 ge in absurd (omega (arith, above, at, below))
        ]

    last_is : (row : Row) → OwnWrites key place → LastPutBelow w id key height row → last_value key (first_writes run trx place) ≡ Some row.value
    last_is row (inr n) last = let x = index_of last.mtr row last.is_put in absurd (n.0 x.0 x.1 x.2)
    last_is row (inl l) last =
        let x = index_of last.mtr row last.is_put in
        let upper = last.last (writer.mtrs l.index) (writer.rows l.index) (put_here l.index l.below l.wrote) in
        let at : (writer.mtrs x.0).at ≡ (last.mtr).at = x.3 in
        elim (cases_lt l.index x.0) [
          | inl lt ↦ absurd (l.later x.0 lt x.1 x.2)
          | inr ge ↦ elim (cases_lt x.0 l.index) [
            | inl lt ↦ let falls = writer.rising x.0 l.index key key lt (let below = l.below in omega (arith, below, upto)) x.2 l.wrote in absurd (omega (arith, falls, upper, at))
            | inr le ↦
                let same : l.index ≡ x.0 = omega (arith, ge, le) in
                l.sets ∙ ap (λ (i : ℕ). Some (writer.rows i).value) same ∙ ap (λ (r : Row). Some r.value) x.4
          ]
        ]

    none_is : OwnWrites key place → PutsNothingBelow w id key height → last_value key (first_writes run trx place) ≡ None
    none_is (inr n) nothing = n.1
    none_is (inl l) nothing = absurd (nothing (writer.mtrs l.index) (writer.rows l.index) (put_here l.index l.below l.wrote))

    -- what is shown is what is seen, where the rows of the view have what the commits show
    pub shown_is_seen : ((i : ℕ) → i < place → WritesPut i) → ((found : Row) → CommitsShow o w (view_of run trx) key found → value_at key (rows_of_view run trx) ≡ found.value) → (found : Row) → ShowsReader o w id height (view_of run trx) key found → value_at key (seen_at place) ≡ found.value
    shown_is_seen puts view_shows found (inl own) =
        value_at-over key (rows_of_view run trx) (first_writes run trx place)
        ∙ ap (λ (x : Option (Option (List ℕ))). value_over x (value_at key (rows_of_view run trx))) (last_is found (own_writes_at key place puts) own)
    shown_is_seen puts view_shows found (inr s) =
        value_at-over key (rows_of_view run trx) (first_writes run trx place)
        ∙ ap (λ (x : Option (Option (List ℕ))). value_over x (value_at key (rows_of_view run trx))) (none_is (own_writes_at key place puts) s.0)
        ∙ view_shows found s.1

  -- what a write writes is its put's value, where the copies before it have theirs
  module _ (view_shows : (key : ℕ) (found : Row) → CommitsShow o w (view_of run trx) key found → value_at key (rows_of_view run trx) ≡ found.value) where
    by_stmt : (place key : ℕ) → place < count → ((i : ℕ) → i < place → WritesPut i) → (stmt : Option Stmt) → target_key stmt ≡ Some key → IsValueOf o w run trx id writer.mtrs count limit place stmt (writer.rows place).value
        → write_by (seen_at place) stmt ≡ record { key = key; value = (writer.rows place).value } ∷ []
    by_stmt place key lt puts None e value = absurd value
    by_stmt place key lt puts (Some Begin) e value = absurd value
    by_stmt place key lt puts (Some (Get k)) e value = absurd value
    by_stmt place key lt puts (Some (Put k set)) e value =
        ap (λ (x : ℕ). record { key = x; value = Some set } ∷ []) (some_is k key e) ∙ ap (λ (x : Option (List ℕ)). record { key = key; value = x } ∷ []) (sym value)
    by_stmt place key lt puts (Some (Del k)) e value =
        ap (λ (x : ℕ). record { key = x; value = None } ∷ []) (some_is k key e) ∙ ap (λ (x : Option (List ℕ)). record { key = key; value = x } ∷ []) (sym value)
    by_stmt place key lt puts (Some (Copy source k)) e value =
        let shown = shown_is_seen source place value.height (omega (arith, lt)) value.within value.between puts (view_shows source) value.found value.shows in
        ap (λ (x : ℕ). record { key = x; value = value_at source (seen_at place) } ∷ []) (some_is k key e) ∙ ap (λ (x : Option (List ℕ)). record { key = key; value = x } ∷ []) (shown ∙ sym value.value_is)
    by_stmt place key lt puts (Some (Scan low most)) e value = absurd value
    by_stmt place key lt puts (Some Commit) e value = absurd value
    by_stmt place key lt puts (Some Rollback) e value = absurd value

    write_is : (place : ℕ) → place < count → ((i : ℕ) → i < place → WritesPut i) → WritesPut place
    write_is place lt puts key wrote = by_ok (is_wrote (reply_at run trx.session (trx.first + suc place))) refl
      where
        by_ok : (b : Bool) → is_wrote (reply_at run trx.session (trx.first + suc place)) ≡ b → writes_here place ≡ record { key = key; value = (writer.rows place).value } ∷ []
        by_ok true is =
            let target : target_key (stmt_at run trx.session (trx.first + suc place)) ≡ Some key = sym (ap (λ (b : Bool). cond b (target_key (stmt_at run trx.session (trx.first + suc place))) None) is) ∙ wrote in
            ap (λ (b : Bool). cond b (write_by (seen_at place) (stmt_at run trx.session (trx.first + suc place))) []) is
            ∙ by_stmt place key lt puts (stmt_at run trx.session (trx.first + suc place)) target (writer.value place key lt wrote)
        by_ok false is = absurd (not_some key (sym (ap (λ (b : Bool). cond b (target_key (stmt_at run trx.session (trx.first + suc place))) None) is) ∙ wrote))

    pub all_writes : (place : ℕ) → place ≤ count → (i : ℕ) → i < place → WritesPut i
    all_writes zero le i lt = absurd (omega (arith, lt))
    all_writes (suc place) le i lt = elim (cases_lt i place) [
      | inl below ↦ all_writes place (omega (arith, le)) i below
      | inr ge ↦
          let is : place ≡ i = omega (arith, ge, lt) in
          subst WritesPut is (write_is place (omega (arith, le)) (all_writes place (omega (arith, le))))
    ]

module _ (o : CoreOpening) (w : CoreWorld) (facts : Facts o w) (run : Execution) (tells : TellsOfWorld o w run) where
  -- up to a bound the rows of each view have what the commits show
  abbrev ViewsShow : ℕ → Type 0
  ViewsShow bound = (trx : TrxName) (key : ℕ) (found : Row) → view_of run trx < bound → run.opening.base ≤ view_of run trx → view_of run trx ≤ run.opening.base + run.commits → CommitsShow o w (view_of run trx) key found → value_at key (rows_of_view run trx) ≡ found.value

  -- what the writes of a durable commit set last is what its puts left
  module _ (bound : ℕ) (earlier : ViewsShow bound) (id : TrxId) (cts : ℕ) (forced : IsForced o w id cts) (low : cts ≤ bound) (high : cts ≤ run.opening.base + run.commits) where
    of_forced : IsAcknowledged o w run id cts
    of_forced = tells.forced id cts forced

    abbrev commit_trx : TrxName
    commit_trx = trx_of run of_forced.answer

    abbrev commit_place : ℕ
    commit_place = statements_before commit_trx of_forced.answer.index

    writes_are : writes_of_commit run cts ≡ first_writes run commit_trx commit_place
    writes_are = ap (writes_acknowledged run) of_forced.found

    commit_puts : (i : ℕ) → i < commit_place → WritesPut o w run commit_trx id commit_place (length w.pages.history) of_forced.writer i
    commit_puts =
        let views = tells.views cts of_forced.answer of_forced.found in
        let from = views.0 in
        let below = views.1 in
        all_writes o w run commit_trx id commit_place (length w.pages.history) of_forced.writer
        (λ key found shows. earlier commit_trx key found (omega (arith, below, low)) from (omega (arith, below, high)) shows)
        commit_place (omega arith)

    all_before : LiesBetween run commit_trx of_forced.writer.mtrs commit_place commit_place (length w.pages.history)
    all_before = λ i key lt wrote. (λ before. (of_forced.writer.put i key lt wrote).below, λ le. absurd (omega (arith, lt, le)))

    pub last_set : (key : ℕ) (row : Row) → LastPutOf w id key row → last_value key (writes_of_commit run cts) ≡ Some row.value
    last_set key row last =
        ap (last_value key) writes_are
        ∙ last_is o w run commit_trx id commit_place (length w.pages.history) of_forced.writer key commit_place (length w.pages.history) (omega arith) (omega arith) all_before row
        (own_writes_at o w run commit_trx id commit_place (length w.pages.history) of_forced.writer key commit_place commit_puts) last

    -- and where they set something, it put the key
    pub set_put : (key : ℕ) (value : Option (List ℕ)) → last_value key (writes_of_commit run cts) ≡ Some value → (m : TrxMtr) × (row : Row) × PutOf w id key m row
    set_put key value sets = by_own (own_writes_at o w run commit_trx id commit_place (length w.pages.history) of_forced.writer key commit_place commit_puts)
      where
        by_own : OwnWrites o w run commit_trx id commit_place (length w.pages.history) of_forced.writer key commit_place → (m : TrxMtr) × (row : Row) × PutOf w id key m row
        by_own (inl l) = (of_forced.writer.mtrs l.index, of_forced.writer.rows l.index, of_forced.writer.put l.index key l.below l.wrote)
        by_own (inr n) = absurd (not_some value (sym n.1 ∙ ap (last_value key) (sym writes_are) ∙ sets))

  -- an acknowledged commit that wrote the key, where the history has none
  set_by : (bound key number : ℕ) (value : Option (List ℕ)) → ViewsShow bound → number ≤ bound → number ≤ run.opening.base + run.commits → last_value key (writes_of_commit run number) ≡ Some value → (id : TrxId) × IsForced o w id number × ((m : TrxMtr) × (row : Row) × PutOf w id key m row)
  set_by bound key number value earlier low high sets = by_answer (acknowledgement run.answers number) refl
    where
      by_answer : (x : Option Answer) → acknowledgement run.answers number ≡ x → (id : TrxId) × IsForced o w id number × ((m : TrxMtr) × (row : Row) × PutOf w id key m row)
      by_answer None is = absurd (not_some value (sym (ap (λ (x : Option Answer). last_value key (writes_acknowledged run x)) is) ∙ sets))
      by_answer (Some answer) is =
          let f = tells.acknowledged number answer is in
          (f.0, f.1, set_put bound earlier f.0 number f.1 low high key value sets)

  views_next : (bound : ℕ) → ViewsShow bound → (view key : ℕ) (found : Row) → view ≤ bound → run.opening.base ≤ view → view ≤ run.opening.base + run.commits → CommitsShow o w view key found → (value : Option (List ℕ)) → IsValueInView run view key value → value ≡ found.value
  views_next bound earlier view key found le low high (inl c) value (inl v) =
      let below = c.in_view in
      let sets = last_set bound earlier c.id c.cts c.forced (omega (arith, below, le)) (omega (arith, below, high)) key found c.its in
      let within = v.in_view in
      elim (cases_lt v.number c.cts) [
        | inl lt ↦ absurd (not_some found.value (sym (v.latest c.cts lt below) ∙ sets))
        | inr ge ↦
            let other = set_by bound key v.number value earlier (omega (arith, within, le)) (omega (arith, within, high)) v.sets in
            let upto = c.latest other.0 v.number other.2.0 other.2.1 other.1 within other.2.2 in
            let same : v.number ≡ c.cts = omega (arith, ge, upto) in
            some_is value found.value (sym v.sets ∙ ap (λ (n : ℕ). last_value key (writes_of_commit run n)) same ∙ sets)
      ]
  views_next bound earlier view key found le low high (inl c) value (inr v) =
      let below = c.in_view in
      let sets = last_set bound earlier c.id c.cts c.forced (omega (arith, below, le)) (omega (arith, below, high)) key found c.its in
      absurd (not_some found.value (sym (v.0 c.cts (tells.forced c.id c.cts c.forced).above_base below) ∙ sets))
  views_next bound earlier view key found le low high (inr c) value (inl v) =
      let within = v.in_view in
      let other = set_by bound key v.number value earlier (omega (arith, within, le)) (omega (arith, within, high)) v.sets in
      absurd (c.0 other.0 v.number other.2.0 other.2.1 other.1 within other.2.2)
  views_next bound earlier view key found le low high (inr c) value (inr v) = v.1 ∙ tells.rows key ∙ ap (λ (r : Row). r.value) (sym c.1)

  pub views_show : (bound : ℕ) → ViewsShow bound
  views_show zero = λ trx key found lt low high shows. absurd (omega (arith, lt))
  views_show (suc bound) = λ trx key found lt low high shows.
      views_next bound (views_show bound) (view_of run trx) key found (omega (arith, lt)) low high shows (value_at key (rows_of_view run trx)) (value_in_view run tells.views key (view_of run trx) low high)

  -- what a transaction is shown is what it sees
  pub seen_values : (trx : TrxName) (id : TrxId) (count limit : ℕ) (writer : IsWriter o w run trx id count limit) → run.opening.base ≤ view_of run trx → view_of run trx ≤ run.opening.base + run.commits → (place height key : ℕ) (found : Row) → place ≤ count → height ≤ limit → LiesBetween run trx writer.mtrs count place height → ShowsReader o w id height (view_of run trx) key found
      → value_at key (over (rows_of_view run trx) (first_writes run trx place)) ≡ found.value
  seen_values trx id count limit writer low high place height key found upto within between shows =
      let view_shows : (k : ℕ) (row : Row) → CommitsShow o w (view_of run trx) k row → value_at k (rows_of_view run trx) ≡ row.value = λ k row s. views_show (suc (view_of run trx)) trx k row (omega arith) low high s in
      shown_is_seen o w run trx id count limit writer key place height upto within between (all_writes o w run trx id count limit writer view_shows place upto) (view_shows key) found shows
