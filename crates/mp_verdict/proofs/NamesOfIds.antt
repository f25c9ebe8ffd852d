-- The names of ids: different transactions have different names, in the order of their versions.
use Rattle.std.proofs.Common.{◌≡◌, ◌-◌, ◌<◌, nat_lt, Bool, true, cond, slice_get, Some, None, sym, ap, ◌∙◌, inl, inr, arith}
use Rattle.std.proofs.lemmas.Bool.{ltb-true}
use Rattle.mp_model.specs.declared.ids.TrxId.{TrxId}
use Rattle.mp_model.specs.declared.ids.TrxName.{TrxName}
use Rattle.mp_script.specs.Execution.{stmt_in}
use Rattle.mp_script.specs.Transactions.{begins, line_place}
use Rattle.mp_script.specs.BeginNames.{begin_names}
use Rattle.mp_script.proofs.Options.{not_some}
use Rattle.mp_script.proofs.ScriptLines.{IndexesRise, names_apart, got_once}
use Rattle.mp_script.proofs.BeginPlaces.{places_rise, name_begins}
use Rattle.mp_histories.proofs.Writers.{decided}
use Rattle.mp_supports.specs.Work.{Work, name_of}

pub named_above : (work : Work) (id : TrxId) (name : TrxName) → name_of work id ≡ Some name → (work.base.version < id.version) × (slice_get (begin_names work.lines) (id.version - work.base.version - 1) ≡ Some name)
named_above work id name e = elim (decided (nat_lt work.base.version id.version)) [
  | inl t ↦ (ltb-true work.base.version id.version t, sym (ap (λ (b : Bool). cond b (slice_get (begin_names work.lines) (id.version - work.base.version - 1)) None) t) ∙ e)
  | inr t ↦ absurd (not_some name (sym (ap (λ (b : Bool). cond b (slice_get (begin_names work.lines) (id.version - work.base.version - 1)) None) t) ∙ e))
]

-- two transactions with one name have one version
pub one_version : (work : Work) → IndexesRise work.lines → (a b : TrxId) (name : TrxName) → name_of work a ≡ Some name → name_of work b ≡ Some name → a.version ≡ b.version
one_version work rise a b name e g =
    let x = named_above work a name e in
    let y = named_above work b name g in
    let above_a : work.base.version < a.version = x.0 in
    let above_b : work.base.version < b.version = y.0 in
    let same = got_once (begin_names work.lines) (names_apart work.lines rise) (a.version - work.base.version - 1) (b.version - work.base.version - 1) name x.1 y.1 in
    omega (arith, above_a, above_b, same)

-- the older transaction's `begin` line stands above
pub older_above : (work : Work) → IndexesRise work.lines → (a b : TrxId) (name other : TrxName) → name_of work a ≡ Some name → name_of work b ≡ Some other → a.version < b.version → line_place work.lines name.session name.first < line_place work.lines other.session other.first
older_above work rise a b name other e g lt =
    let x = named_above work a name e in
    let y = named_above work b other g in
    let above_a : work.base.version < a.version = x.0 in
    places_rise work.lines rise (a.version - work.base.version - 1) (b.version - work.base.version - 1) name other (omega (arith, above_a, lt)) x.1 y.1

pub named_begins : (work : Work) → IndexesRise work.lines → (a : TrxId) (name : TrxName) → name_of work a ≡ Some name → begins (stmt_in work.lines name.session name.first) ≡ true
named_begins work rise a name e = let x = named_above work a name e in name_begins work.lines rise (a.version - work.base.version - 1) name x.1
