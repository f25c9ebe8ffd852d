-- Each branch does the write, and a write keeps the keys ascending.
use Rattle.std.proofs.Common.{◌≡◌, ◌∙◌, Result, Ok, Err, OnOk, OnErr}
use Rattle.std.specs.List.{insert}
use Rattle.mp_model.specs.declared.errors.Memory.{Memory}
use Rattle.mp_model.specs.Folded.{KeysAscend}
use Rattle.mp_model.proofs.Edits.{inserted, replaced, removed, kept, ascends_after}
use Rattle.mp_model.proofs.key_value.put_write.Goals as goal

pub returns-then-not-found-clause-ok : goal.returns-then-not-found-clause-ok
returns-then-not-found-clause-ok c = rw (← inserted c.args.rows.now.items c.requires c.args.write c.place_of-i.result (rw (← c.as_slice.ensures) c.place_of-i.ensures.below) (rw (← c.as_slice.ensures) c.place_of-i.ensures.above) c.in-Some.value c.in-Some.is (rw (← c.as_slice-2.ensures, ← c.holds_at-found.ensures) c.if-not-found.true)) c.insert.ensures.ok

pub returns-then-not-found-clause-ascend : goal.returns-then-not-found-clause-ascend
returns-then-not-found-clause-ascend c = go c.insert.result c.insert.ensures.ok c.insert.ensures.err
  where
    go : (r : Result (Unit {0}) Memory) → OnOk r (c.insert.new.self.items ≡ insert c.args.rows.now.items c.place_of-i.result (record { key = c.args.write.key; value = c.in-Some.value })) → OnErr r (c.insert.new.self.items ≡ c.args.rows.now.items) → KeysAscend c.insert.new.self.items
    go (Ok u) ok err = ascends_after c.args.rows.now.items c.args.write c.requires _ (ok ∙ inserted c.args.rows.now.items c.requires c.args.write c.place_of-i.result (rw (← c.as_slice.ensures) c.place_of-i.ensures.below) (rw (← c.as_slice.ensures) c.place_of-i.ensures.above) c.in-Some.value c.in-Some.is (rw (← c.as_slice-2.ensures, ← c.holds_at-found.ensures) c.if-not-found.true))
    go (Err e) ok err = rw err c.requires

pub returns-else-not-found-clause-ok : goal.returns-else-not-found-clause-ok
returns-else-not-found-clause-ok c = rw c.replace.ensures.items (replaced c.args.rows.now.items c.requires c.args.write c.place_of-i.result (rw (← c.as_slice.ensures) c.place_of-i.ensures.below) (rw (← c.as_slice.ensures) c.place_of-i.ensures.above) c.in-Some.value c.in-Some.is (rw (← c.as_slice-2.ensures, ← c.holds_at-found.ensures) c.if-not-found.false))

pub returns-else-not-found-clause-ascend : goal.returns-else-not-found-clause-ascend
returns-else-not-found-clause-ascend c = ascends_after c.args.rows.now.items c.args.write c.requires _ (returns-else-not-found-clause-ok c)

pub returns-then-found-clause-ok : goal.returns-then-found-clause-ok
returns-then-found-clause-ok c = rw c.remove.ensures.items (removed c.args.rows.now.items c.requires c.args.write c.place_of-i.result (rw (← c.as_slice.ensures) c.place_of-i.ensures.below) (rw (← c.as_slice.ensures) c.place_of-i.ensures.above) c.in-None.is (rw (← c.as_slice-2.ensures, ← c.holds_at-found.ensures) c.if-found.true))

pub returns-then-found-clause-ascend : goal.returns-then-found-clause-ascend
returns-then-found-clause-ascend c = ascends_after c.args.rows.now.items c.args.write c.requires _ (returns-then-found-clause-ok c)

pub returns-else-found-clause-ok : goal.returns-else-found-clause-ok
returns-else-found-clause-ok c = kept c.args.rows.now.items c.requires c.args.write c.place_of-i.result (rw (← c.as_slice.ensures) c.place_of-i.ensures.below) (rw (← c.as_slice.ensures) c.place_of-i.ensures.above) c.in-None.is (rw (← c.as_slice-2.ensures, ← c.holds_at-found.ensures) c.if-found.false)
