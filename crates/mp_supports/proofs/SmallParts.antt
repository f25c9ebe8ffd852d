-- What the small parts show, and what they don't.
use Rattle.std.proofs.Common.{◌≡◌, ◌≢◌, ℕ, ◌<◌, ◌≤◌, ◌⊎◌, List, [], ◌∷◌, Option, None, Some, refl, sym, ap, subst, ◌∙◌, inl, inr, ⊎_elim, arith, lit≤, lit<}
use Rattle.mp_machine.specs.Lists.{IsIn}
use Rattle.mp_model.specs.declared.ids.TrxId.{TrxId}
use Rattle.mp_model.specs.declared.replies.Reply.TheVariants.{Got}
use Rattle.mp_script.specs.declared.statements.Line.{Line}
use Rattle.mp_script.specs.declared.statements.Stmt.{Stmt}
use Rattle.mp_script.specs.declared.statements.Stmt.TheVariants.{Get, Del}
use Rattle.mp_script.specs.Transactions.{Target, target_of}
use Rattle.mp_script.specs.Right.{WritesKey}
use Rattle.mp_model.specs.declared.replies.WriteVerb.{WriteVerb}
use Rattle.mp_script.specs.Execution.{line_at}
use Rattle.mp_cells.specs.declared.rows.Row.{Row}
use Rattle.mp_cells.specs.declared.records.Mtr.{Mtr}
use Rattle.mp_cells.specs.PageView.{PageView}
use Rattle.mp_cells.specs.Trees.{row_at}
use Rattle.mp_cells.specs.Writes.{version_of}
use Rattle.mp_core_trx.specs.declared.part.Begun.{Begun}
use Rattle.mp_core_trx.specs.declared.part.SlotLoad.{SlotLoad}
use Rattle.mp_core_trx.specs.declared.slot.Shown.{Shown}
use Rattle.mp_core_trx.specs.declared.slot.SlotTag.{SlotTag}
use Rattle.mp_core_trx.specs.declared.slot.SlotTag.TheVariants.{Active, Committed}
use Rattle.mp_core_trx.specs.Words.{shows, shown_of, word_showing}
use Rattle.mp_core_trx.specs.Parts.{begun_of}
use Rattle.mp_core_pages.specs.declared.part.Placed.{Placed}
use Rattle.mp_core_pages.specs.declared.part.GivenPage.{GivenPage}
use Rattle.mp_core.specs.declared.part.CorePart.{CorePart}
use Rattle.mp_supports.specs.Seeing.{ShowsNewest, IsSettledFor, IsSeenBy, LeadsToSeen}
use Rattle.mp_supports.specs.Supports.{looked_trace, IsTrxOf, IsBlocked, IsHeldBy, Supports}
use Rattle.mp_supports.specs.SmallParts.{own_trx, younger_trx, older_trx, line_of, work_with, answered_with, small_part, version_by, only_leaf, load_showing}

pub no_none : {T : Type 0} (x : T) → None ≡ Some x → ⊥
no_none x e = cc

pub some_one : {T : Type 0} (x y : T) → Some x ≡ Some y → y ≡ x
some_one x y e = cc

-- what stands in a list of one
pub only_one : {T : Type 0} (x y : T) → IsIn x (y ∷ []) → x ≡ y
only_one x y (inl e) = e
only_one x y (inr h) = absurd h

pub the_line : (stmt : Stmt) (line : Line) → line_at (work_with stmt).lines 1 2 ≡ Some line → line ≡ line_of 1 2 stmt
the_line stmt line is = some_one (line_of 1 2 stmt) line is

module _ (stmt : Stmt) (loaded : List SlotLoad) (given : List (GivenPage PageView)) (made : List (Placed Mtr)) (line : Line) (id : TrxId) (view : ℕ) (h : IsTrxOf (work_with stmt) (small_part loaded given made) line id view) where
  begun_is : begun_of id view ≡ begun_of own_trx 3
  begun_is = only_one (begun_of id view) (begun_of own_trx 3) h.begun

  pub id_is : id ≡ own_trx
  id_is = ap (λ (b : Begun). b.id) begun_is

  pub view_is : view ≡ 3
  view_is = ap (λ (b : Begun). b.view) begun_is

-- the only leaf shows its row as the newest of key 5
pub newest_is : (loaded : List SlotLoad) (rest : List (GivenPage PageView)) (made : List (Placed Mtr)) (row newest : Row) (leaf : GivenPage PageView) (key : ℕ) → row.key ≡ 5 → key ≡ 5 → leaf ≡ only_leaf row → ShowsNewest (small_part loaded rest made) leaf key newest → newest ≡ version_of 5 (row_at 5 (row ∷ []))
newest_is loaded rest made row newest leaf key own five is h =
    h.newest_is ∙ ap (λ k. version_of k (row_at k leaf.page.rows)) five ∙ ap (λ (g : GivenPage PageView). version_of 5 (row_at 5 g.page.rows)) is

abbrev node_in : Option TrxId → ℕ
node_in None = 0
node_in (Some id) = id.node

-- a version of the younger transaction, whose slot shows no commit at or below the view 3
module _ (load : SlotLoad) (given : List (GivenPage PageView)) (made : List (Placed Mtr)) (never : (cts : ℕ) → shown_of load.word ≡ shows Committed 3 cts → 3 < cts) where
  pub not_settled : (row : Row) (view : ℕ) → row.writer ≡ Some younger_trx → view ≡ 3 → IsSettledFor (small_part (load ∷ []) given made) view row → ⊥
  not_settled row view its three (inl none) = no_none younger_trx (sym none ∙ its)
  not_settled row view its three (inr c) =
      let writer : c.writer ≡ younger_trx = some_one younger_trx c.writer (sym its ∙ c.its_writer) in
      let loaded : c.load ≡ load = only_one c.load load c.is_load.loaded in
      let shown : shown_of load.word ≡ shows Committed 3 c.cts = ap (λ (l : SlotLoad). shown_of l.word) (sym loaded) ∙ c.committed ∙ ap (λ (id : TrxId). shows Committed id.version c.cts) writer in
      let above = never c.cts shown in
      let within = c.within in
      omega (arith, above, within, three)

  pub not_seen : (id : TrxId) (row : Row) (view : ℕ) → id ≡ own_trx → row.writer ≡ Some younger_trx → view ≡ 3 → IsSeenBy (small_part (load ∷ []) given made) id view row → ⊥
  not_seen id row view own its three (inl mine) = let two : 2 ≡ 1 = ap node_in (sym its ∙ mine ∙ ap (λ (i : TrxId). Some i) own) in absurd (omega (arith, two))
  not_seen id row view own its three (inr settled) = not_settled row view its three settled

  pub not_led : (id : TrxId) (view : ℕ) (row : Row) (older : List Row) (found : Row) → id ≡ own_trx → row.writer ≡ Some younger_trx → row.link ≡ None → view ≡ 3 → LeadsToSeen (small_part (load ∷ []) given made) id view row older found → ⊥
  not_led id view row [] found own its none three h = not_seen id row view own its three h.1
  not_led id view row (next ∷ older) found own its none three h = no_none h.1.link (sym none ∙ h.1.linked)

abbrev key_got : Stmt → ℕ
key_got (Get key) = key
key_got stmt = 0

-- so a `get` isn't answered with it
pub not_got : (load : SlotLoad) → ((cts : ℕ) → shown_of load.word ≡ shows Committed 3 cts → 3 < cts) → Supports (work_with (Get 5)) (small_part (load ∷ []) (only_leaf (version_by (Some younger_trx) None 97) ∷ []) []) 0 (answered_with (Got (Some (97 ∷ [])))) (looked_trace (only_leaf (version_by (Some younger_trx) None 97) ∷ [])) → ⊥
not_got load never s =
    let reply = s.reply in
    let got = reply.3 in
    let sees = got.3 in
    let given = only_leaf (version_by (Some younger_trx) None 97) ∷ [] in
    let id = id_is (Get 5) (load ∷ []) given [] s.line reply.0 reply.1 reply.2 in
    let view = view_is (Get 5) (load ∷ []) given [] s.line reply.0 reply.1 reply.2 in
    let key : got.0 ≡ 5 = sym (ap (λ (stmt : Stmt). key_got stmt) got.2) ∙ ap (λ (l : Line). key_got l.stmt) (the_line (Get 5) s.line s.found) in
    let leaf : sees.leaf ≡ only_leaf (version_by (Some younger_trx) None 97) = only_one sees.leaf (only_leaf (version_by (Some younger_trx) None 97)) sees.rests in
    let newest : sees.newest ≡ version_by (Some younger_trx) None 97 = newest_is (load ∷ []) given [] (version_by (Some younger_trx) None 97) sees.newest sees.leaf got.0 refl key leaf sees.shows in
    not_led load given [] never reply.0 reply.1 sees.newest sees.older got.1 id (ap (λ (r : Row). r.writer) newest) (ap (λ (r : Row). r.link) newest) view sees.leads

-- a commit at 4, and an open transaction, are no commit at or below 3
pub at_four : (cts : ℕ) → shown_of (word_showing (shows Committed 3 4)) ≡ shows Committed 3 cts → 3 < cts
at_four cts is = let four : 4 ≡ cts = ap (λ (x : Shown). x.cts) is in omega (arith, four)

tags_differ : Active ≡ Committed → ⊥
tags_differ e = cc

pub while_open : (cts : ℕ) → shown_of (word_showing (shows Active 3 0)) ≡ shows Committed 3 cts → 3 < cts
while_open cts is = absurd (tags_differ (ap (λ (x : Shown). x.tag) is))

-- the transactions differ
pub others : younger_trx ≡ own_trx → ⊥
others is = let two : 2 ≡ 1 = ap (λ (id : TrxId). id.node) is in absurd (omega (arith, two))

pub others_older : older_trx ≡ own_trx → ⊥
others_older is = let two : 2 ≡ 1 = ap (λ (id : TrxId). id.node) is in absurd (omega (arith, two))

abbrev target_key_of : Option Target → ℕ
target_key_of None = 0
target_key_of (Some target) = target.key

-- the key of the small `del`
pub key_written : (verb : WriteVerb) (line : Line) → line_at (work_with (Del 5)).lines 1 2 ≡ Some line → (key : ℕ) → WritesKey line verb key → key ≡ 5
key_written verb line found key writes = sym (ap (λ o. target_key_of o) writes) ∙ ap (λ (l : Line). target_key_of (target_of l.stmt)) (the_line (Del 5) line found)

-- who holds it
blocker_is : (loaded : List SlotLoad) (writer : TrxId) (key : ℕ) → key ≡ 5 → (id holder : TrxId) (x : Shown) → IsBlocked (small_part loaded (only_leaf (version_by (Some writer) None 97) ∷ []) []) id key holder x → holder ≡ writer
blocker_is loaded writer key five id holder x h =
    let leaf : h.leaf ≡ only_leaf (version_by (Some writer) None 97) = only_one h.leaf (only_leaf (version_by (Some writer) None 97)) h.its_newest.given in
    let newest : h.newest ≡ version_by (Some writer) None 97 = newest_is loaded (only_leaf (version_by (Some writer) None 97) ∷ []) [] (version_by (Some writer) None 97) h.newest h.leaf key refl five leaf h.its_newest in
    some_one writer holder (sym (ap (λ (r : Row). r.writer) newest) ∙ h.writer)

pub holder_is : (loaded : List SlotLoad) (writer : TrxId) (key : ℕ) → key ≡ 5 → (id holder : TrxId) → IsHeldBy (small_part loaded (only_leaf (version_by (Some writer) None 97) ∷ []) []) id key holder → holder ≡ writer
holder_is loaded writer key five id holder (inl h) = blocker_is loaded writer key five id holder _ h
holder_is loaded writer key five id holder (inr h) = blocker_is loaded writer key five id holder _ h

-- it is another
pub is_another : (p : CorePart) (id : TrxId) (key : ℕ) (holder : TrxId) → IsHeldBy p id key holder → holder ≢ id
is_another p id key holder (inl h) = h.other
is_another p id key holder (inr h) = h.other
