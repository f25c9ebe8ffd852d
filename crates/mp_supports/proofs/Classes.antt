-- What each class of steps leaves as the trace of a statement, and how steps one after another leave one trace.
use Rattle.std.proofs.Common.{◌≡◌, ℕ, ◌<◌, ◌≤◌, Bool, true, false, is_none, List, [], ◌∷◌, ◌++◌, filter, if◌then◌else◌, Option, None, Some, refl, sym, ap, subst, ◌∙◌, inl, inr}
use Rattle.std.specs.Option.{IfSome}
use Rattle.std.specs.List.{AllByRecursion}
use Rattle.mp_machine.specs.Lists.{IsIn}
use Rattle.mp_script.proofs.Lists.{all_map}
use Rattle.mp_cells.specs.declared.records.Mtr.{Mtr}
use Rattle.mp_cells.specs.declared.rows.Row.{Row}
use Rattle.mp_cells.specs.PageView.{PageView}
use Rattle.mp_core_trx.specs.declared.part.Begun.{Begun}
use Rattle.mp_core_trx.specs.declared.part.Draw.{Draw}
use Rattle.mp_core_trx.specs.declared.part.TrxPart.{TrxPart}
use Rattle.mp_core_pages.specs.declared.part.Placed.{Placed}
use Rattle.mp_core_pages.specs.declared.part.GivenPage.{GivenPage}
use Rattle.mp_core_pages.specs.declared.part.PagesPart.{PagesPart}
use Rattle.mp_core.specs.declared.part.CorePart.{CorePart}
use Rattle.mp_core.specs.OwnMtrs.{row_restored_by, trx_of_mtr, TrxMtr, trx_mtrs}
use Rattle.mp_core.specs.CoreExtends.{IsMadeLater}
use Rattle.mp_supports.specs.Supports.{Trace, no_trace, began_trace, wrote_trace, commit_trace}
use Rattle.mp_supports.specs.Kept.{one_or_none, lasting, IsTraced, Did}
use Rattle.mp_supports.specs.Steps.{OnlyLooked, MadeOne, Forced, TrxStep, trx_mtr_of, drew_trace}
use Rattle.mp_supports.proofs.Extending.{core_extends_trans, placed_in, later_before}
use Rattle.mp_supports.proofs.Keeping.{if_some_map, traced_more}

module _ (p q : CorePart) where
  same_mtrs : q.pages.made ≡ p.pages.made → lasting (trx_mtrs q.pages.made) ≡ lasting (trx_mtrs p.pages.made)
  same_mtrs made = ap (λ (l : List (Placed Mtr)). lasting (trx_mtrs l)) made

  pub did_looked : OnlyLooked p q → Did p q no_trace
  did_looked h = record {
    extends = h.extends;
    traced = record { pages = tt; began = tt; drew = tt; mtr = tt };
    began = h.begun;
    drew = h.drew;
    made = same_mtrs h.made;
    since = tt;
    later = tt;
  }

  pub did_forced : (llsn : ℕ) → Forced llsn p q → Did p q no_trace
  did_forced llsn h = record {
    extends = h.extends;
    traced = record { pages = tt; began = tt; drew = tt; mtr = tt };
    began = ap (λ (t : TrxPart). t.begun) h.trx;
    drew = ap (λ (t : TrxPart). t.drew) h.trx;
    made = same_mtrs h.made;
    since = tt;
    later = tt;
  }

  -- a step of transactions that begins none and draws nothing
  pub did_trx : TrxStep p q → q.trx.begun ≡ p.trx.begun → q.trx.drew ≡ p.trx.drew → Did p q no_trace
  did_trx h begun drew = record {
    extends = h.extends;
    traced = record { pages = tt; began = tt; drew = tt; mtr = tt };
    began = begun;
    drew = drew;
    made = same_mtrs (ap (λ (l : PagesPart PageView Mtr). l.made) h.pages);
    since = tt;
    later = tt;
  }

  pub did_begin : (b : Begun) → TrxStep p q → q.trx.begun ≡ b ∷ p.trx.begun → q.trx.drew ≡ p.trx.drew → Did p q (began_trace b)
  did_begin b h begun drew = record {
    extends = h.extends;
    traced = record { pages = tt; began = subst (λ l. IsIn b l) (sym begun) (inl refl); drew = tt; mtr = tt };
    began = begun;
    drew = drew;
    made = same_mtrs (ap (λ (l : PagesPart PageView Mtr). l.made) h.pages);
    since = tt;
    later = tt;
  }

  pub did_draw : (d : Draw) → TrxStep p q → q.trx.begun ≡ p.trx.begun → q.trx.drew ≡ d ∷ p.trx.drew → Did p q (drew_trace d)
  did_draw d h begun drew = record {
    extends = h.extends;
    traced = record { pages = tt; began = tt; drew = subst (λ l. IsIn d l) (sym drew) (inl refl); mtr = tt };
    began = begun;
    drew = drew;
    made = same_mtrs (ap (λ (l : PagesPart PageView Mtr). l.made) h.pages);
    since = tt;
    later = tt;
  }

  module _ (x : Placed Mtr) (h : MadeOne x p q) where
    all_mtrs : trx_mtrs q.pages.made ≡ trx_mtr_of p x ∷ trx_mtrs p.pages.made
    all_mtrs = ap (λ (l : List (Placed Mtr)). trx_mtrs l) h.made

    lasts : (o : Option Row) → row_restored_by x.mtr ≡ o → lasting (trx_mtr_of p x ∷ trx_mtrs p.pages.made) ≡ one_or_none (if is_none o then Some (trx_mtr_of p x) else None) ++ lasting (trx_mtrs p.pages.made)
    lasts None is = rw is refl
    lasts (Some row) is = rw is refl

    -- a put, or a commit record
    pub did_make : row_restored_by x.mtr ≡ None → Did p q (wrote_trace [] (trx_mtr_of p x))
    did_make none = record {
      extends = h.extends;
      traced = record { pages = tt; began = tt; drew = tt; mtr = subst (λ l. IsIn (trx_mtr_of p x) l) (sym all_mtrs) (inl refl) };
      began = ap (λ (t : TrxPart). t.begun) h.trx;
      drew = ap (λ (t : TrxPart). t.drew) h.trx;
      made = ap (λ l. lasting l) all_mtrs ∙ lasts None none;
      since = tt;
      later = h.later;
    }

    -- a restore leaves no trace
    pub did_restore : (row : Row) → row_restored_by x.mtr ≡ Some row → Did p q no_trace
    did_restore row is = record {
      extends = h.extends;
      traced = record { pages = tt; began = tt; drew = tt; mtr = tt };
      began = ap (λ (t : TrxPart). t.begun) h.trx;
      drew = ap (λ (t : TrxPart). t.drew) h.trx;
      made = ap (λ l. lasting l) all_mtrs ∙ lasts (Some row) is;
      since = tt;
      later = tt;
    }

  -- with the pages on which the reply rests: they were given in the turn
  pub did_with_pages : (t : Trace) (pages : List (GivenPage PageView)) → Did p q t → AllByRecursion (λ g. IsIn g q.pages.given) pages → AllByRecursion (λ g. (x : Placed Mtr) → IsIn x p.pages.made → x.at < g.height) pages → Did p q (record t { pages = pages })
  did_with_pages t pages h given since = record {
    extends = h.extends;
    traced = record { pages = given; began = h.traced.began; drew = h.traced.drew; mtr = h.traced.mtr };
    began = h.began;
    drew = h.drew;
    made = h.made;
    since = since;
    later = h.later;
  }

module _ (p q r : CorePart) where
  -- what leaves nothing may come behind
  pub did_then : (t : Trace) → Did p q t → Did q r no_trace → Did p r t
  did_then t a b = record {
    extends = core_extends_trans p q r a.extends b.extends;
    traced = traced_more q r b.extends t a.traced;
    began = b.began ∙ a.began;
    drew = b.drew ∙ a.drew;
    made = b.made ∙ a.made;
    since = a.since;
    later = a.later;
  }

  -- and before
  pub did_after : (t : Trace) → Did p q no_trace → Did q r t → Did p r t
  did_after t a b = record {
    extends = core_extends_trans p q r a.extends b.extends;
    traced = b.traced;
    began = b.began ∙ ap (λ l. one_or_none t.began ++ l) a.began;
    drew = b.drew ∙ ap (λ l. one_or_none t.drew ++ l) a.drew;
    made = b.made ∙ ap (λ l. one_or_none t.mtr ++ l) a.made;
    since = all_map (λ g. (x : Placed Mtr) → IsIn x q.pages.made → x.at < g.height) (λ g. (x : Placed Mtr) → IsIn x p.pages.made → x.at < g.height) t.pages (λ g since x made. since x (placed_in p q a.extends x made)) b.since;
    later = if_some_map (λ m. IsMadeLater q m.at) (λ m. IsMadeLater p m.at) t.mtr (λ m later. later_before p q a.extends m.at later) b.later;
  }

  -- a commit draws, and then records
  pub did_commit : (d : Draw) (m : TrxMtr) → Did p q (drew_trace d) → Did q r (wrote_trace [] m) → Did p r (commit_trace d m)
  did_commit d m a b = record {
    extends = core_extends_trans p q r a.extends b.extends;
    traced = record { pages = tt; began = tt; drew = (traced_more q r b.extends (drew_trace d) a.traced).drew; mtr = b.traced.mtr };
    began = b.began ∙ a.began;
    drew = b.drew ∙ a.drew;
    made = b.made ∙ ap (λ l. m ∷ l) a.made;
    since = tt;
    later = later_before p q a.extends m.at b.later;
  }
