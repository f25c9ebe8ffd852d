-- Putting rows back, as the function sees the primary inside: what it asks, and what each of its ends leaves.
use Rattle.std.proofs.Common.{◌≡◌, ◌≢◌, ℕ, ◌+◌, ◌≤◌, ◌⊎◌, false, List, [], length, drop, slice_get, get_or, Option, None, Some, Result, Ok, Err, IfErr, OnOk, refl, sym, ap, subst, ◌∙◌, inl, inr, ⊎_elim, arith}
use Rattle.std.proofs.lemmas.Option.{slice_get_within, slice_get-get_or}
use Rattle.mp_machine.specs.View.{part_in}
use Rattle.mp_model.specs.declared.ids.TrxId.{TrxId}
use Rattle.mp_model.specs.declared.waiting.NotYet.{NotYet}
use Rattle.mp_cells.specs.declared.rows.Row.{Row}
use Rattle.mp_cells.specs.Trees.{row_at}
use Rattle.mp_core_trx.specs.declared.part.Begun.{Begun}
use Rattle.mp_core_trx.specs.declared.part.TrxPart.{TrxPart}
use Rattle.mp_core_trx.specs.declared.slot.SlotTag.TheVariants.{Active}
use Rattle.mp_core_trx.specs.Parts.{HasBegun, Shows}
use Rattle.mp_core_pages.specs.declared.opening.TheConstants.{MOST_MTRS}
use Rattle.mp_core_pages.specs.declared.page_lock.Held.TheVariants.{No}
use Rattle.mp_core_pages.specs.PageParts.{held_at}
use Rattle.mp_core.specs.declared.part.CorePart.{CorePart}
use Rattle.mp_core.specs.CoreExtends.{CoreExtends}
use Rattle.mp_core.specs.OwnMtrs.{first_former}
use Rattle.mp_book.specs.declared.book.Book.{Book}
use Rattle.mp_book.specs.declared.session.Session.{Session}
use Rattle.mp_book.specs.Stages.{HaveOneRowEach}
use Rattle.mp_book.specs.Books.{SetsSession}
use Rattle.mp_outside.specs.declared.disks.Disk.{Ghosts}
use Rattle.mp_outside.specs.Faults.{Rose}
use Rattle.mp_shared.specs.Nodes.{Run, NodeView, HoldsPart}
use Rattle.mp_shared.proofs.Holding.{held_part}
use Rattle.mp_buffer_fusion.proofs.Kept.{set_here}
use Rattle.mp_buffer_fusion.proofs.Visiting.{one_part}
use Rattle.mp_desk.specs.declared.desk.Desk.{Desk}
use Rattle.mp_desk.specs.declared.halts.BackHalt.{BackHalt}
use Rattle.mp_desk.specs.declared.halts.BackHalt.TheVariants as backs
use Rattle.mp_desk.specs.declared.media.Media.{Media}
use Rattle.mp_desk.specs.Desks.{Moves, IsAtDesk, MetWait}
use Rattle.mp_desk.specs.LetGo.{HasLetGo}
use Rattle.mp_desk.specs.Making.{IsOpenLog, MediaAgree, MediaAgreeSomehow}
use Rattle.mp_desk.specs.Rolling.{HaltsBack}
use Rattle.mp_desk.specs.Statements.{StaysQuiet}
use Rattle.mp_desk.specs.Writes.{PutsBackRows}
use Rattle.mp_desk.proofs.BackSteps.{rose_later, rows_quiet}
use Rattle.mp_desk.proofs.Moving.{moves_as, goes_both}
use Rattle.mp_primary.specs.Primaries.{PrimaryView, StandsWith}
use Rattle.mp_primary.specs.Turns.{IsSessionOf}
use Rattle.mp_primary.specs.GoingOn.{GoesBackOf, CountsBack, IsAllBack, LeavesRows, GoesOnQuietly}
use Rattle.mp_primary.proofs.LetGoQuietly.{moves_quiet_let_go}
use Rattle.mp_primary.proofs.OpenSessions.{one_of}
use Rattle.mp_primary.proofs.RowsBack.{back_quietly}
use Rattle.mp_primary.proofs.BackAsks.{media_up, media_somehow, asks_open, asks_formers, asks_few, asks_within}

some_is : (x y : Session) → Some x ≡ Some y → x ≡ y
some_is x y e = cc

gone_extends : (q r : CorePart) → HasLetGo q r → CoreExtends q r
gone_extends q r h = h.extends

gone_quiet : (q r : CorePart) → HasLetGo q r → StaysQuiet q r
gone_quiet q r h = record {
  extends = h.extends;
  begun = ap (λ (t : TrxPart). t.begun) h.trx;
  rows = ap (λ (t : TrxPart). t.rows) h.trx;
  drew = ap (λ (t : TrxPart). t.drew) h.trx;
  made = h.made;
}

-- a wait that was met before other steps
wait_before : (p : ℕ) (a b c : NodeView) (wait : NotYet) → MetWait p a b wait → Moves CoreExtends p b c → MetWait p a c wait
wait_before p a b c wait met behind = record { from = met.from; to = met.to; came = met.came; met = met.met; went = goes_both p met.to b c met.went behind }

-- no primary has the number 0
some_number : (n : NodeView) (p : ℕ) → HoldsPart n p → p ≢ 0
some_number n p held zero = let node = (held_part n p held).2 in let some = node.0 in omega (arith, some, zero)

on_ok_map : {T E : Type 0} (r : Result T E) (P Q : Type 0) → (P → Q) → OnOk r P → OnOk r Q
on_ok_map (Ok t) P Q f h = f h
on_ok_map (Err e) P Q f h = tt

module _ {D : Type 0} (g : Ghosts D) (run : Run) (inside old : PrimaryView D) (view : inside ≡ old) (n : NodeView) (stands : StandsWith g run old n) (up : old.down ≡ 0) (number : ℕ) (id : TrxId)
    (asked : (s : Session) × (trx : Begun) × GoesBackOf old number s trx × (trx.id ≡ id)) where
  abbrev s : Session
  s = asked.0

  abbrev trx : Begun
  trx = asked.1

  stands_in : StandsWith g run inside n
  stands_in = subst (λ (v : PrimaryView D). StandsWith g run v n) (sym view) stands

  up_in : inside.down ≡ 0
  up_in = ap (λ (v : PrimaryView D). v.down) view ∙ up

  back_in : GoesBackOf inside number s trx
  back_in = subst (λ (v : PrimaryView D). GoesBackOf v number s trx) (sym view) asked.2

  -- ---- what it asks

  pub open_asked : (q : CorePart) → part_in n.parts inside.number ≡ Some q → HasBegun q.trx.begun id × Shows q.trx.rows id Active
  open_asked q has = subst (λ (i : TrxId). HasBegun q.trx.begun i × Shows q.trx.rows i Active) asked.3 (asks_open g run inside n stands_in up_in number s trx back_in q has)

  pub media_asked : MediaAgree g inside.work 0 inside.media inside.number n
  media_asked = media_up g run inside n stands_in up_in

  pub agrees_asked : MediaAgreeSomehow g inside.media inside.number n
  agrees_asked = media_somehow g run inside n stands_in up_in

  module _ (x y : Session) (formers : List Row) (is : x ≡ get_or inside.book.sessions.items number x) (also : y ≡ get_or inside.book.sessions.items number y) (rows : formers ≡ y.formers.items) where
    is_session : (z : Session) → z ≡ get_or inside.book.sessions.items number z → z ≡ s
    is_session z at = some_is z s (ap (λ (v : Session). Some v) at ∙ sym (slice_get-get_or inside.book.sessions.items number z (slice_get_within inside.book.sessions.items number s back_in.found)) ∙ back_in.found)

    formers_are : formers ≡ s.formers.items
    formers_are = rows ∙ ap (λ (v : Session). v.formers.items) (is_session y also)

    restored_is : x.restored ≡ s.restored
    restored_is = ap (λ (v : Session). v.restored) (is_session x is)

    dropped : drop x.restored formers ≡ drop s.restored s.formers.items
    dropped = ap (λ (k : ℕ). drop k formers) restored_is ∙ ap (λ (l : List Row). drop s.restored l) formers_are

    pub formers_asked : (q : CorePart) → part_in n.parts inside.number ≡ Some q → (key : ℕ) → first_former q.pages.made id key ≡ row_at key (drop x.restored formers)
    formers_asked q has key = subst (λ (i : TrxId). first_former q.pages.made i key ≡ row_at key (drop x.restored formers)) asked.3 (asks_formers g run inside n stands_in up_in number s trx back_in q has key ∙ ap (λ (l : List Row). row_at key l) (sym dropped))

    pub once_asked : HaveOneRowEach formers
    once_asked = subst HaveOneRowEach (sym formers_are) back_in.once

    pub within_asked : x.restored ≤ length formers
    within_asked =
        let le = asks_within g run inside n stands_in up_in number s trx back_in in
        let from = restored_is in
        let count : length formers ≡ length s.formers.items = ap (λ (l : List Row). length l) formers_are in
        omega (arith, le, from, count)

    pub few_asked : (q : CorePart) → part_in n.parts inside.number ≡ Some q → length q.pages.made + length (drop x.restored formers) ≤ MOST_MTRS
    few_asked q has =
        let le = asks_few g run inside n stands_in up_in number s trx back_in q has in
        let count : length (drop x.restored formers) ≡ length (drop s.restored s.formers.items) = ap (λ (l : List Row). length l) dropped in
        omega (arith, le, count)

    -- ---- what its ends leave

    module _ (desk : Desk) (media : Media D) (n1 : NodeView) (k : ℕ) (mid then_in : PrimaryView D) (counts : CountsBack (record inside { desk = desk; media = media }) mid number k) (rest : mid ≡ record inside { desk = desk; media = media; book = mid.book }) (view_then : then_in ≡ mid)
        (at : IsAtDesk run desk inside.number n1) (own : desk.mtr.node ≡ inside.number) (back : Moves (PutsBackRows id formers x.restored k) inside.number n n1) (counted : g.faults inside.media.log.disk ≤ g.faults media.log.disk) (told : g.tells media.log.disk ≡ g.tells inside.media.log.disk) where
      then_is : then_in ≡ record inside { desk = desk; media = media; book = then_in.book }
      then_is = view_then ∙ rest ∙ ap (λ (b : Book). record inside { desk = desk; media = media; book = b }) (sym (ap (λ (v : PrimaryView D). v.book) view_then))

      number_is : then_in.number ≡ inside.number
      number_is = ap (λ (v : PrimaryView D). v.number) then_is

      desk_is : then_in.desk ≡ desk
      desk_is = ap (λ (v : PrimaryView D). v.desk) then_is

      media_is : then_in.media ≡ media
      media_is = ap (λ (v : PrimaryView D). v.media) then_is

      sets_any : (z : Session) → slice_get inside.book.sessions.items number ≡ Some z → SetsSession inside.book then_in.book number (record z { restored = k })
      sets_any z found = subst (λ (b : Book). SetsSession inside.book b number (record z { restored = k })) (sym (ap (λ (v : PrimaryView D). v.book) view_then)) (counts z found)

      pub counts_out : (count : ℕ) × ((z : Session) → IsSessionOf old number z → SetsSession old.book then_in.book number (record z { restored = count }))
      counts_out = (k, λ z found. subst (λ (v : PrimaryView D). SetsSession v.book then_in.book number (record z { restored = k })) view (sets_any z (subst (λ (v : PrimaryView D). IsSessionOf v number z) (sym view) found)))

      rows_moved : Moves (PutsBackRows trx.id s.formers.items s.restored k) inside.number n n1
      rows_moved =
          subst (λ (i : TrxId). Moves (PutsBackRows i s.formers.items s.restored k) inside.number n n1) (sym asked.3)
          (subst (λ (l : List Row). Moves (PutsBackRows id l s.restored k) inside.number n n1) formers_are
          (subst (λ (j : ℕ). Moves (PutsBackRows id formers j k) inside.number n n1) restored_is back))

      exit : (d : Desk) (m : Media D) (down : ℕ) (n2 : NodeView) → IsAtDesk run d inside.number n2 → d.mtr.node ≡ inside.number → Moves (PutsBackRows trx.id s.formers.items s.restored k) inside.number n n2 → MediaAgree g inside.work down m inside.number n2
          → (down ≡ 0 → IsOpenLog inside.number d.llsn m.log × (d.pool ≡ []) × (m.unforced ≡ false) × ((r : CorePart) → part_in n2.parts inside.number ≡ Some r → (page : ℕ) → held_at r.pages.locks page ≡ No))
          → (down ≡ 0) ⊎ ((down ≡ inside.number) × (down ≢ 0) × Rose (g.faults inside.media.log.disk) (g.faults m.log.disk)) → g.faults inside.media.log.disk ≤ g.faults m.log.disk → g.tells m.log.disk ≡ g.tells inside.media.log.disk
          → GoesOnQuietly g run old (record then_in { desk = d; media = m; down = down }) n n2 number
      exit d m down n2 at2 own2 rows2 agree2 open2 fell2 faults2 told2 =
          subst (λ (v : PrimaryView D). GoesOnQuietly g run old v n n2 number) (sym (ap (λ (v : PrimaryView D). record v { desk = d; media = m; down = down }) then_is))
          (subst (λ (v : PrimaryView D). GoesOnQuietly g run v (record inside { book = then_in.book; desk = d; media = m; down = down }) n n2 number) view
          (back_quietly g run inside n n2 number s trx stands_in up_in back_in k then_in.book d m down (sets_any s back_in.found) at2 own2 rows2 agree2 open2 fell2 faults2 told2))

      number_some : inside.number ≢ 0
      number_some = some_number n1 inside.number at.part

      -- the disk failed as rows were put back
      pub failed_quietly : Rose (g.faults inside.media.log.disk) (g.faults media.log.disk) → MediaAgree g inside.work inside.number media inside.number n1 → GoesOnQuietly g run old (record then_in { down = then_in.number }) n n1 number
      failed_quietly rose agree =
          subst (λ (m : Media D). GoesOnQuietly g run old (record then_in { media = m; down = then_in.number }) n n1 number) (sym media_is)
          (subst (λ (d : Desk). GoesOnQuietly g run old (record then_in { desk = d; media = media; down = then_in.number }) n n1 number) (sym desk_is)
          (subst (λ (j : ℕ). GoesOnQuietly g run old (record then_in { desk = desk; media = media; down = j }) n n1 number) (sym number_is)
          (exit desk media inside.number n1 at own rows_moved agree (λ z. absurd (number_some z)) (inr (refl, number_some, rose)) counted told)))

      pub failed_leaves : Rose (g.faults inside.media.log.disk) (g.faults media.log.disk) → (then_in.number ≡ old.number) × (then_in.number ≢ 0) × Rose (g.faults old.media.log.disk) (g.faults then_in.media.log.disk)
      failed_leaves rose = (
        number_is ∙ ap (λ (v : PrimaryView D). v.number) view,
        λ z. number_some (sym number_is ∙ z),
        subst (λ (v : PrimaryView D). Rose (g.faults v.media.log.disk) (g.faults then_in.media.log.disk)) view (subst (λ (m : Media D). Rose (g.faults inside.media.log.disk) (g.faults m.log.disk)) (sym media_is) rose),
      )

      -- ---- then pages are let go

      pub media_still : (went : Result (Unit {0}) BackHalt) → went ≢ Err backs.Failed → MediaAgree g inside.work 0 media inside.number n1 ⊎ ((went ≡ Err backs.Failed) × MediaAgree g inside.work inside.number media inside.number n1) → MediaAgree g inside.work 0 media inside.number n1
      media_still went fine (inl agree) = agree
      media_still went fine (inr failed) = absurd (fine failed.0)

      module _ (agree : MediaAgree g inside.work 0 media inside.number n1) where
        pub agree_then : MediaAgree g inside.work 0 then_in.media then_in.number n1
        agree_then = subst (λ (j : ℕ). MediaAgree g inside.work 0 then_in.media j n1) (sym number_is) (subst (λ (m : Media D). MediaAgree g inside.work 0 m inside.number n1) (sym media_is) agree)

        pub agrees_then : MediaAgreeSomehow g then_in.media then_in.number n1
        agrees_then = (inside.work, agree_then)

        module _ (d : Desk) (m : Media D) (n2 : NodeView) (at2 : IsAtDesk run d then_in.number n2) (no_fall : g.faults then_in.media.log.disk ≤ g.faults m.log.disk) (told_then : g.tells m.log.disk ≡ g.tells then_in.media.log.disk) where
          at_in : IsAtDesk run d inside.number n2
          at_in = subst (λ (j : ℕ). IsAtDesk run d j n2) number_is at2

          faults_then : g.faults inside.media.log.disk ≤ g.faults then_in.media.log.disk
          faults_then = subst (λ (x : Media D). g.faults inside.media.log.disk ≤ g.faults x.log.disk) (sym media_is) counted

          faults_all : g.faults inside.media.log.disk ≤ g.faults m.log.disk
          faults_all = let one = faults_then in omega (arith, one, no_fall)

          told_all : g.tells m.log.disk ≡ g.tells inside.media.log.disk
          told_all = told_then ∙ ap (λ (x : Media D). g.tells x.log.disk) media_is ∙ told

          -- the disk failed then
          module _ (same : (d ≡ then_in.desk) × (n2 ≡ n1)) (rose : Rose (g.faults then_in.media.log.disk) (g.faults m.log.disk)) where
            rose_all : Rose (g.faults inside.media.log.disk) (g.faults m.log.disk)
            rose_all = rose_later (g.faults inside.media.log.disk) (g.faults then_in.media.log.disk) (g.faults m.log.disk) faults_then rose

            pub refused_quietly : MediaAgree g inside.work then_in.number m then_in.number n2 → GoesOnQuietly g run old (record then_in { desk = d; media = m; down = then_in.number }) n n2 number
            refused_quietly down =
                subst (λ (j : ℕ). GoesOnQuietly g run old (record then_in { desk = d; media = m; down = j }) n n2 number) (sym number_is)
                (exit d m inside.number n2 at_in (ap (λ (x : Desk). x.mtr.node) (same.0 ∙ desk_is) ∙ own) (subst (λ (x : NodeView). Moves (PutsBackRows trx.id s.formers.items s.restored k) inside.number n x) (sym same.1) rows_moved)
                (subst (λ (j : ℕ). MediaAgree g inside.work j m j n2) number_is down) (λ z. absurd (number_some z)) (inr (refl, number_some, rose_all)) faults_all told_all)

            pub refused_leaves : (then_in.number ≡ old.number) × (then_in.number ≢ 0) × Rose (g.faults old.media.log.disk) (g.faults m.log.disk)
            refused_leaves = (
              number_is ∙ ap (λ (v : PrimaryView D). v.number) view,
              λ z. number_some (sym number_is ∙ z),
              subst (λ (v : PrimaryView D). Rose (g.faults v.media.log.disk) (g.faults m.log.disk)) view rose_all,
            )

          -- or all pages are let go
          module _ (emptied : d ≡ record (then_in.desk) { pool = [] }) (gone : Moves HasLetGo then_in.number n1 n2) where
            gone_in : Moves HasLetGo inside.number n1 n2
            gone_in = subst (λ (j : ℕ). Moves HasLetGo j n1 n2) number_is gone

            rows_gone : Moves (PutsBackRows trx.id s.formers.items s.restored k) inside.number n n2
            rows_gone = rows_quiet inside.number trx.id s.formers.items s.restored k n n1 n2 rows_moved (moves_as inside.number HasLetGo StaysQuiet gone_quiet n1 n2 gone_in)

            down_is : then_in.down ≡ 0
            down_is = ap (λ (v : PrimaryView D). v.down) then_is ∙ up_in

            pub gone_quietly : MediaAgree g inside.work 0 m then_in.number n2 → IsOpenLog then_in.number d.llsn m.log → m.unforced ≡ false → GoesOnQuietly g run old (record then_in { desk = d; media = m }) n n2 number
            gone_quietly agree2 open2 forced2 =
                subst (λ (j : ℕ). GoesOnQuietly g run old (record then_in { desk = d; media = m; down = j }) n n2 number) (sym down_is)
                (exit d m 0 n2 at_in (ap (λ (x : Desk). x.mtr.node) emptied ∙ ap (λ (x : Desk). x.mtr.node) desk_is ∙ own) rows_gone
                (subst (λ (j : ℕ). MediaAgree g inside.work 0 m j n2) number_is agree2)
                (λ z. (subst (λ (j : ℕ). IsOpenLog j d.llsn m.log) number_is open2, ap (λ (x : Desk). x.pool) emptied, forced2, idle)) (inl refl) faults_all told_all)
              where
                idle : (r : CorePart) → part_in n2.parts inside.number ≡ Some r → (page : ℕ) → held_at r.pages.locks page ≡ No
                idle r there page =
                    let has = held_part n1 inside.number at.part in
                    let now = gone_in.mine has.0 has.1 in
                    subst (λ (x : CorePart). held_at x.pages.locks page ≡ No) (one_part (part_in n2.parts inside.number) now.0 r now.1 there) (now.2.idle page)

            pub up_then : then_in.down ≡ 0
            up_then = down_is

            pub all_back : (went : Result (Unit {0}) BackHalt) → OnOk went (k ≡ length formers) → OnOk went (IsAllBack (record then_in { desk = d; media = m }) number)
            all_back went all = on_ok_map went (k ≡ length formers) (IsAllBack (record then_in { desk = d; media = m }) number) each all
              where
                each : k ≡ length formers → (z : Session) → slice_get then_in.book.sessions.items number ≡ Some z → z.restored ≡ length z.formers.items
                each count z at_z =
                    let here : slice_get then_in.book.sessions.items number ≡ Some (record s { restored = k }) = ap (λ (l : List Session). slice_get l number) (sets_any s back_in.found).sessions ∙ set_here inside.book.sessions.items number (record s { restored = k }) (slice_get_within inside.book.sessions.items number s back_in.found) in
                    let is_z : z ≡ record s { restored = k } = one_of (slice_get then_in.book.sessions.items number) (record s { restored = k }) z here at_z in
                    ap (λ (v : Session). v.restored) is_z ∙ count ∙ ap (λ (l : List Row). length l) formers_are ∙ sym (ap (λ (v : Session). length v.formers.items) is_z)

            pub leaves : (went : Result (Unit {0}) BackHalt) → went ≢ Err backs.Failed → IfErr went (HaltsBack inside.number n n1) → IfErr went (LeavesRows g old (record then_in { desk = d; media = m }) n n2)
            leaves (Ok done) fine h = tt
            leaves (Err backs.Failed) fine h = absurd (fine refl)
            leaves (Err (backs.Word wait)) fine h = (
              down_is,
              subst (λ (j : ℕ). MetWait j n n2 wait) (ap (λ (v : PrimaryView D). v.number) view) (wait_before inside.number n n1 n2 wait h (moves_as inside.number HasLetGo CoreExtends gone_extends n1 n2 gone_in)),
            )
