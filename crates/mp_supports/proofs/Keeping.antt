-- What is kept stays so by what a turn did for one statement, and the statement's entry may be added.
use Rattle.std.proofs.Common.{◌≡◌, ℕ, ◌<◌, ◌≤◌, ◌⊎◌, true, false, List, [], ◌∷◌, ◌++◌, reverse, Option, None, Some, refl, sym, ap, ◌∙◌, subst, inl, inr, ⊎_elim, arith, append_assoc, append-nil}
use Rattle.std.specs.Option.{IfSome}
use Rattle.std.specs.List.{filter_map, AllByRecursion}
use Rattle.std.proofs.lemmas.List.{reverse-append}
use Rattle.std.proofs.lemmas.List.Elements.{filter_map-append}
use mathlib.Core.Bool.{false≢true}
use Rattle.mp_machine.specs.Lists.{IsIn}
use Rattle.mp_script.specs.Below.{EachBelow}
use Rattle.mp_script.specs.WentDown.{shows_down}
use Rattle.mp_script.proofs.Lists.{all_append, all_map}
use Rattle.mp_cells.specs.declared.records.Mtr.{Mtr}
use Rattle.mp_cells.specs.PageView.{PageView}
use Rattle.mp_core_pages.specs.declared.part.Placed.{Placed}
use Rattle.mp_core_pages.specs.declared.part.GivenPage.{GivenPage}
use Rattle.mp_core.specs.declared.part.CorePart.{CorePart}
use Rattle.mp_core.specs.OwnMtrs.{TrxMtr, trx_mtrs}
use Rattle.mp_core.specs.CoreExtends.{durable_of, IsMadeLater, CoreExtends}
use Rattle.mp_supports.specs.Work.{Work}
use Rattle.mp_supports.specs.Supports.{Trace, no_trace, Supports}
use Rattle.mp_supports.specs.Kept.{Entry, one_or_none, lasting, IsTraced, Precedes, IsInDoubt, Kept, Did, GoesDownOnce, MayBeKept}
use Rattle.mp_supports.proofs.Extending.{placed_of, made_in, given_in, begun_in, drawn_in}
use Rattle.mp_supports.proofs.SupportsMore.{supports_more}

pub if_some_map : {T : Type 0} (P Q : T → Type 0) (o : Option T) → ((x : T) → P x → Q x) → IfSome o P → IfSome o Q
if_some_map P Q None f h = tt
if_some_map P Q (Some x) f h = f x h

-- one item more, with what holds of it below all others
each_below_one : {T : Type 0} (P : List T → T → Type 0) (above xs : List T) (x : T) → EachBelow P above xs → P (above ++ xs) x → EachBelow P above (xs ++ x ∷ [])
each_below_one P above [] x each last = (subst (λ l. P l x) (append-nil above) last, tt)
each_below_one P above (y ∷ ys) x each last =
    (each.0, each_below_one P (above ++ y ∷ []) ys x each.1 (subst (λ l. P l x) (sym (append_assoc above (y ∷ []) ys)) last))

-- what is found in one entry more, in the order of the entries, is what the part has more, in its order
filtered_one : {X Y : Type 0} (f : X → Option Y) (x : X) (o : Option Y) → f x ≡ o → filter_map f (x ∷ []) ≡ one_or_none o
filtered_one f x None is = rw is refl
filtered_one f x (Some y) is = rw is refl

reverse_one : {Y : Type 0} (o : Option Y) → reverse (one_or_none o) ≡ one_or_none o
reverse_one None = refl
reverse_one (Some y) = refl

one_more : {X Y : Type 0} (f : X → Option Y) (xs : List X) (x : X) (old new : List Y) → filter_map f xs ≡ reverse old → new ≡ one_or_none (f x) ++ old → filter_map f (xs ++ x ∷ []) ≡ reverse new
one_more f xs x old new before is =
    filter_map-append f xs (x ∷ [])
    ∙ ap (λ l. l ++ filter_map f (x ∷ [])) before
    ∙ ap (λ l. reverse old ++ l) (filtered_one f x (f x) refl ∙ sym (reverse_one (f x)))
    ∙ sym (reverse-append (one_or_none (f x)) old)
    ∙ sym (ap reverse is)

module _ (p q : CorePart) (e : CoreExtends p q) where
  pub traced_more : (t : Trace) → IsTraced p t → IsTraced q t
  traced_more t h = record {
    pages = all_map (λ g. IsIn g p.pages.given) (λ g. IsIn g q.pages.given) t.pages (given_in p q e) h.pages;
    began = if_some_map (λ b. IsIn b p.trx.begun) (λ b. IsIn b q.trx.begun) t.began (begun_in p q e) h.began;
    drew = if_some_map (λ d. IsIn d p.trx.drew) (λ d. IsIn d q.trx.drew) t.drew (drawn_in p q e) h.drew;
    mtr = if_some_map (λ m. IsIn m (trx_mtrs p.pages.made)) (λ m. IsIn m (trx_mtrs q.pages.made)) t.mtr (made_in p q e) h.mtr;
  }

  supported_more : (work : Work) (down after : ℕ) (x : Entry) → (down ≡ 0) ⊎ (down ≡ after) → IfSome x.answer (λ a. Supports work p down a x.trace) → IfSome x.answer (λ a. Supports work q after a x.trace)
  supported_more work down after x goes h =
      if_some_map (λ a. Supports work p down a x.trace) (λ a. Supports work q after a x.trace) x.answer (λ a s. supports_more p q e work down after a x.trace goes s) h

-- an mtr that was made lies below a page that was given after it; one that was made after a page was given, not below it
module _ (p : CorePart) where
  lower : (o : Option TrxMtr) (h : ℕ) → IfSome o (λ m. IsIn m (trx_mtrs p.pages.made)) → ((x : Placed Mtr) → IsIn x p.pages.made → x.at < h) → IfSome o (λ m. m.at < h)
  lower None h made below = tt
  lower (Some m) h made below =
      let x = placed_of p.pages.made m made in
      let under : (x.0).at < h = below x.0 x.1 in
      let at : (x.0).at ≡ m.at = x.2 in
      omega (arith, under, at)

  upper : (o : Option TrxMtr) (g : GivenPage PageView) → IfSome o (λ m. IsMadeLater p m.at) → IsIn g p.pages.given → IfSome o (λ m. g.height ≤ m.at)
  upper None g later given = tt
  upper (Some m) g later given = later.above_given g given

  follows : (q : CorePart) (earlier next : Entry) → IsTraced p earlier.trace → Did p q next.trace → Precedes earlier next
  follows q earlier next traced did = record {
    below = all_map (λ g. (x : Placed Mtr) → IsIn x p.pages.made → x.at < g.height) (λ g. IfSome earlier.trace.mtr (λ m. m.at < g.height)) next.trace.pages (λ g since. lower earlier.trace.mtr g.height traced.mtr since) did.since;
    above = all_map (λ g. IsIn g p.pages.given) (λ g. IfSome next.trace.mtr (λ m. g.height ≤ m.at)) earlier.trace.pages (λ g given. upper next.trace.mtr g did.later given) traced.pages;
  }

-- an answer that shows no primary down is in no doubt
calm : (p : CorePart) (x : Entry) → IfSome x.answer (λ a. shows_down a.reply ≡ false) → IsInDoubt p x
calm p x up = if_some_map (λ a. shows_down a.reply ≡ false) (λ a. shows_down a.reply ≡ true → IfSome x.trace.mtr (λ m. durable_of p < m.mtr.llsn)) x.answer (λ a is shows. absurd (false≢true (sym is ∙ shows))) up

same_doubt : (p q : CorePart) (x : Entry) → durable_of p ≡ durable_of q → IsInDoubt p x → IsInDoubt q x
same_doubt p q x same h =
    if_some_map (λ a. shows_down a.reply ≡ true → IfSome x.trace.mtr (λ m. durable_of p < m.mtr.llsn)) (λ a. shows_down a.reply ≡ true → IfSome x.trace.mtr (λ m. durable_of q < m.mtr.llsn)) x.answer
    (λ a doubt shows. subst (λ n. IfSome x.trace.mtr (λ m. n < m.mtr.llsn)) same (doubt shows)) h

goes_on : (p q : CorePart) (down after : ℕ) → GoesDownOnce p q down after → (down ≡ 0) ⊎ (down ≡ after)
goes_on p q down after goes = ⊎_elim (λ up. inl up) (λ stays. inr stays.0) goes

was_up : (p q : CorePart) (down after : ℕ) → GoesDownOnce p q down after → after ≡ 0 → down ≡ 0
was_up p q down after goes up = ⊎_elim (λ was. was) (λ stays. stays.0 ∙ up) goes

module _ (work : Work) (p q : CorePart) (down after : ℕ) (entries : List Entry) (goes : GoesDownOnce p q down after) (kept : Kept work p down entries) where
  doubts : AllByRecursion (IsInDoubt q) entries
  doubts = ⊎_elim
      (λ up. all_map (λ x. IfSome x.answer (λ a. shows_down a.reply ≡ false)) (IsInDoubt q) entries (calm q) (kept.up up))
      (λ stays. all_map (IsInDoubt p) (IsInDoubt q) entries (λ x. same_doubt p q x stays.1) kept.in_doubt) goes

  supports_all : CoreExtends p q → AllByRecursion (λ x. IfSome x.answer (λ a. Supports work q after a x.trace)) entries
  supports_all e = all_map (λ x. IfSome x.answer (λ a. Supports work p down a x.trace)) (λ x. IfSome x.answer (λ a. Supports work q after a x.trace)) entries (λ x. supported_more p q e work down after x (goes_on p q down after goes)) kept.supported

  traced_all : CoreExtends p q → AllByRecursion (λ x. IsTraced q x.trace) entries
  traced_all e = all_map (λ x. IsTraced p x.trace) (λ x. IsTraced q x.trace) entries (λ x. traced_more p q e x.trace) kept.traced

  pub kept_more : (next : Entry) → Did p q next.trace → MayBeKept work q after next → Kept work q after (entries ++ next ∷ [])
  kept_more next did may = record {
    supported = all_append (λ x. IfSome x.answer (λ a. Supports work q after a x.trace)) entries (next ∷ []) (supports_all did.extends) (may.supported, tt);
    traced = all_append (λ x. IsTraced q x.trace) entries (next ∷ []) (traced_all did.extends) (did.traced, tt);
    began = one_more (λ x. x.trace.began) entries next p.trx.begun q.trx.begun kept.began did.began;
    drew = one_more (λ x. x.trace.drew) entries next p.trx.drew q.trx.drew kept.drew did.drew;
    made = one_more (λ x. x.trace.mtr) entries next (lasting (trx_mtrs p.pages.made)) (lasting (trx_mtrs q.pages.made)) kept.made did.made;
    after = each_below_one (λ above x. AllByRecursion (λ earlier. Precedes earlier x) above) [] entries next kept.after (all_map (λ x. IsTraced p x.trace) (λ x. Precedes x next) entries (λ x traced. follows p q x next traced did) kept.traced);
    in_doubt = all_append (IsInDoubt q) entries (next ∷ []) doubts (may.in_doubt, tt);
    up = λ up. all_append (λ x. IfSome x.answer (λ a. shows_down a.reply ≡ false)) entries (next ∷ []) (kept.up (was_up p q down after goes up)) (may.up up, tt);
  }

  pub kept_quiet : Did p q no_trace → Kept work q after entries
  kept_quiet did = record {
    supported = supports_all did.extends;
    traced = traced_all did.extends;
    began = kept.began ∙ sym (ap reverse did.began);
    drew = kept.drew ∙ sym (ap reverse did.drew);
    made = kept.made ∙ sym (ap reverse did.made);
    after = kept.after;
    in_doubt = doubts;
    up = λ up. kept.up (was_up p q down after goes up);
  }
