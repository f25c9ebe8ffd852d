-- What a store shows while pages are written for its next generation.
use Rattle.std.proofs.Common.{◌≡◌, ◌⊎◌, ℕ, ◌+◌, ◌<◌, ◌≤◌, Bool, true, false, IsTrue, List, None, length, refl, sym, ap, subst, ◌∙◌, inl, inr, arith}
use Rattle.std.specs.Prelude.{◌||◌, ◌&&◌, ◌==◌, not, nat_lt, nat_le, slice_index_or}
use Rattle.std.proofs.lemmas.Bool.{cases_Bool, lt-ltb, or_left, or_right}
use Rattle.std.proofs.lemmas.List.{get_or_past}
use Rattle.mp_cells.specs.PageView.{PageView}
use Rattle.mp_cells.specs.Trees.{PageMap}
use Rattle.mp_store.specs.declared.headers.Header.{Header}
use Rattle.mp_store.specs.Layout.{is_open, page_side, other}
use Rattle.mp_store.specs.OpenStores.{NoLater, LaterLeft}
use Rattle.mp_store.specs.PageSides.{page_generation, page_llsn, idle}
use Rattle.mp_store.specs.SideWrites.{HeaderLeft, yields, kept_side}
use Rattle.mp_store.specs.Passes.{is_marked, WrittenBeside, AllWritten}
use Rattle.mp_store.specs.StoreFiles.{header_in_force, page_in_force, page_side_in_force, roots_fault, is_map, is_root, store_fault}
use Rattle.mp_store.proofs.LaterShown.{page_later, homes_later}
use Rattle.mp_store.proofs.ShownAfter.{file_home, page_of_home}
use Rattle.mp_store.proofs.SoundAfter.{sound_parts, parts_roots}
use Rattle.mp_checkpoint.specs.Saving.{IsSaved, stays, changes, ShowsSame, ShowsNew, HasRoots, MaySave, MarksChange, MarksBelow, SavedBelow, CanWrite}

-- ---- what a store shows that shows the same

pub same_self : (file : List ℕ) → store_fault file ≡ None → ShowsSame file file
same_self file sound = record { sound = sound; header = refl; pages = λ n. refl }

pub same_then : (a b c : List ℕ) → ShowsSame a b → ShowsSame b c → ShowsSame a c
same_then a b c first then_ = record {
  sound = then_.sound;
  header = then_.header ∙ first.header;
  pages = λ n. subst (λ (h : Header). page_in_force h.generation n c ≡ page_in_force h.generation n b) first.header (then_.pages n) ∙ first.pages n;
}

pub new_then : (header : Header) (pages : PageMap) (a b c : List ℕ) → ShowsSame a b → ShowsNew header pages b c → ShowsNew header pages a c
new_then header pages a b c first then_ = record {
  sound = then_.sound;
  header_is = then_.header_is;
  saved = λ n lt. subst (λ (p : PageView). IsSaved header.llsn p (pages n) (page_in_force header.generation n c)) (first.pages n)
      (subst (λ (h : Header). IsSaved header.llsn (page_in_force h.generation n b) (pages n) (page_in_force header.generation n c)) first.header (then_.saved n lt));
}

pub may_then : (header : Header) (pages : PageMap) (a b : List ℕ) → ShowsSame a b → MaySave header pages a → MaySave header pages b
may_then header pages a b same may = record {
  sound = same.sound;
  next = may.next ∙ sym (ap (λ (h : Header). h.generation + 1) same.header);
  roots = may.roots;
}

pub marks_then : (marks : List Bool) (pages : PageMap) (a b : List ℕ) → ShowsSame a b → MarksBelow 4096 marks pages (header_in_force a).generation a → MarksBelow 4096 marks pages (header_in_force b).generation b
marks_then marks pages a b same marked n lt =
    subst (λ (h : Header). MarksChange (slice_index_or marks n false) (pages n) (page_in_force h.generation n b)) (sym same.header)
    (subst (λ (p : PageView). MarksChange (slice_index_or marks n false) (pages n) p) (sym (same.pages n)) (marked n lt))

-- where later sides were closed
pub later_shows : (g : ℕ) (old new : List ℕ) → (header_in_force old).generation ≡ g → store_fault old ≡ None → LaterLeft g old new → ShowsSame old new
later_shows g old new is sound left = record {
  sound = left.sound (omega (arith, is)) sound;
  header = left.header;
  pages = λ n. left.pages (header_in_force old).generation n (omega (arith, is));
}

-- ---- pages were written

-- where pages were written for the next generation, the store shows the same
pub beside_shows : (store : Header) (file c : List ℕ) → store ≡ header_in_force file → store_fault file ≡ None → WrittenBeside store.generation file c → ShowsSame file c
beside_shows store file c is sound left = record {
  sound = left.sound (sym (ap (λ (h : Header). h.generation) is)) sound;
  header = left.header;
  pages = λ n. subst (λ (h : Header). page_in_force h.generation n c ≡ page_in_force h.generation n file) is (left.pages n);
}

-- a side of a generation that isn't later is smaller than one of the next
by_gate : (opened : Bool) (generation next llsn llsn' : ℕ) → (IsTrue opened → generation < next)
    → (not (opened && nat_le generation next) || (nat_lt generation next || (generation == next && nat_lt llsn' llsn))) ≡ true
by_gate false generation next llsn llsn' early = refl
by_gate true generation next llsn llsn' early = or_right (not (nat_le generation next)) _ (or_left (nat_lt generation next) _ (lt-ltb generation next (early refl)))

side_yields : (g next llsn : ℕ) (side : List ℕ) → g < next → (IsTrue (is_open side) → page_generation side ≤ g) → IsTrue (yields next next llsn side)
side_yields g next llsn side lt early = by_gate (is_open side) (page_generation side) next llsn (page_llsn side) (λ opened. (let small : page_generation side ≤ g = early opened in omega (arith, lt, small)))

-- a page whose sides are as they were is shown as it was
sides_show : (g n : ℕ) (old new : List ℕ) → ((side : _) → page_side n side new ≡ page_side n side old) → page_in_force g n new ≡ page_in_force g n old
sides_show g n old new same =
    file_home g n new ∙ ap (λ (x : List ℕ). page_of_home g x (page_side n (other (idle None)) new)) (same (idle None)) ∙ ap (λ (x : List ℕ). page_of_home g (page_side n (idle None) old) x) (same (other (idle None))) ∙ sym (file_home g n old)

-- the marked pages were written: the next generation shows them, and the stored ones of the others
pub all_saved : (header store : Header) (marks : List Bool) (pages : PageMap) (file new : List ℕ) → store ≡ header_in_force file → length marks ≡ 4096 → CanWrite header marks pages file
    → ShowsSame file new → AllWritten store.generation header.generation header.llsn marks pages file new → SavedBelow 4096 header pages file new
all_saved header store marks pages file new is long can same given = record {
  same = same;
  homes = done.homes (homes_later g header.generation file can.none_later (omega (arith, next)) (sound_parts file can.may.sound).homes);
  saved = λ n below all. elim (cases_Bool (is_marked marks n)) [
    | inl marked ↦ changes (subst (λ (b : Bool). MarksChange b (pages n) (page_in_force g n file)) marked (can.marked n all)) (done.shown n marked (smaller n all))
    | inr none ↦ stays (subst (λ (b : Bool). MarksChange b (pages n) (page_in_force g n file)) none (can.marked n all))
        (sides_show header.generation n file new (λ side. done.others n side none) ∙ page_later g header.generation n file can.none_later (omega (arith, next)) all)
  ];
  others = λ n side from. done.others n side (get_or_past marks n false (omega (arith, long, from)));
}
  where
    g : ℕ
    g = (header_in_force file).generation

    next : header.generation ≡ g + 1
    next = can.may.next

    done : AllWritten g header.generation header.llsn marks pages file new
    done = subst (λ (h : Header). AllWritten h.generation header.generation header.llsn marks pages file new) is given

    smaller : (n : ℕ) → n < 4096 → IsTrue (yields header.generation header.generation header.llsn (kept_side g n file))
    smaller n lt =
        let side = other (idle (page_side_in_force g n file)) in
        side_yields g header.generation header.llsn (page_side n side file) (omega (arith, next)) (can.none_later n side lt)

-- ---- the flip

-- what is stored for a page is such a page 0, or 1, as it is
still_is : (P : PageView → Bool) → ((page : PageView) (llsn : ℕ) → P (record page { llsn = llsn }) ≡ P page) → (llsn : ℕ) (stored page new : PageView) → IsSaved llsn stored page new → P page ≡ true → P new ≡ true
still_is P kept llsn stored page new (stays same is) holds = ap P is ∙ ap P (sym same) ∙ kept page stored.llsn ∙ holds
still_is P kept llsn stored page new (changes differs is) holds = ap P is ∙ kept page llsn ∙ holds

pub roots_saved : (header : Header) (pages : PageMap) (file seen : List ℕ) → HasRoots pages → SavedBelow 4096 header pages file seen → roots_fault header.generation seen ≡ None
roots_saved header pages file seen roots saved = parts_roots header.generation seen
    (still_is is_map (λ page llsn. refl) header.llsn _ _ _ (saved.saved 0 (omega arith) (omega arith)) roots.map)
    (still_is is_root (λ page llsn. refl) header.llsn _ _ _ (saved.saved 1 (omega arith) (omega arith)) roots.root)

pub flip_shows : (header : Header) (pages : PageMap) (file seen c : List ℕ) → SavedBelow 4096 header pages file seen → HeaderLeft header seen c → store_fault c ≡ None
    → ShowsSame file c ⊎ ShowsNew header pages file c
flip_shows header pages file seen c saved left sound = elim left.header_is [
  | inl old ↦ inl (record { sound = sound; header = old ∙ saved.same.header; pages = λ n. left.pages (header_in_force file).generation n ∙ saved.same.pages n })
  | inr new ↦ inr (flipped new)
]
  where
    flipped : header_in_force c ≡ header → ShowsNew header pages file c
    flipped is = record {
      sound = sound;
      header_is = is;
      saved = λ n lt. subst (λ (p : PageView). IsSaved header.llsn (page_in_force (header_in_force file).generation n file) (pages n) p) (sym (left.pages header.generation n)) (saved.saved n lt lt);
    }

pub flip_done : (header : Header) (pages : PageMap) (file c : List ℕ) → header.generation ≡ (header_in_force file).generation + 1 → header_in_force c ≡ header
    → ShowsSame file c ⊎ ShowsNew header pages file c → ShowsNew header pages file c
flip_done header pages file c next is (inr new) = new
flip_done header pages file c next is (inl same) =
    let e : header.generation ≡ (header_in_force file).generation = ap (λ (h : Header). h.generation) (sym is ∙ same.header) in absurd (omega (arith, next, e))

-- later sides were closed, so new pages can be written
pub can_write : (header store : Header) (marks : List Bool) (pages : PageMap) (file closed : List ℕ) → store ≡ header_in_force file → MaySave header pages file
    → MarksBelow 4096 marks pages store.generation file → LaterLeft store.generation file closed → NoLater store.generation closed → ShowsSame file closed × CanWrite header marks pages closed
can_write header store marks pages file closed is may marked left none =
    let same : ShowsSame file closed = later_shows store.generation file closed (sym (ap (λ (h : Header). h.generation) is)) may.sound left in
    let now : store ≡ header_in_force closed = is ∙ sym same.header in (
      same,
      record {
        may = may_then header pages file closed same may;
        none_later = subst (λ (h : Header). NoLater h.generation closed) now none;
        marked = marks_then marks pages file closed same (subst (λ (h : Header). MarksBelow 4096 marks pages h.generation file) is marked);
      },
    )

-- what is shown of the file with its later sides closed is shown of the file
pub shows_before : (header : Header) (pages : PageMap) (file closed c : List ℕ) → ShowsSame file closed → ShowsSame closed c ⊎ ShowsNew header pages closed c → ShowsSame file c ⊎ ShowsNew header pages file c
shows_before header pages file closed c same (inl kept) = inl (same_then file closed c same kept)
shows_before header pages file closed c same (inr new) = inr (new_then header pages file closed c same new)
