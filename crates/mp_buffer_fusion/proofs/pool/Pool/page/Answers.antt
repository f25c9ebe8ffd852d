use Rattle.std.proofs.Common.{◌≡◌, Some, slice_get, refl, sym, ap, ◌∙◌, subst}
use Rattle.std.proofs.lemmas.Option.{get_or_from_slice_get}
use Rattle.mp_buffer_fusion.specs.declared.buffer.Buffer.{Buffer}
use Rattle.mp_buffer_fusion.specs.Buffers.{StandsAt}
use Rattle.mp_buffer_fusion.specs.Agreement.{AgreesIn}
use Rattle.mp_buffer_fusion.specs.Fetching.{Fetched, MissesPage}
use Rattle.mp_buffer_fusion.proofs.pool.Pool.page.Goals as goal

pub returns-in-Ok : goal.returns-in-Ok
returns-in-Ok g c =
    let p = c.args.p in
    let k = c.args.number in
    let i = c.in-Ok.i in
    let pool = c.args.self.now in
    let before = c.args.node.now in
    let after = c.fetch.new.node in
    let items = c.self.inside.buffers.items in
    let told : (b : Buffer) × StandsAt c.fetch.new.self k i b × Fetched p k pool c.fetch.new.self before after c.args.steps.now c.fetch.new.steps b = c.in-Ok.ensures.fetched in
    let at : slice_get items i ≡ Some told.0 = subst (λ l. slice_get l i ≡ Some told.0) (sym c.self.view_is) told.1.0 in
    let read = c.index.ensures ∙ get_or_from_slice_get items i told.0 c.index.result.now at in (
      (
        refl,
        (λ _. tt),
        (
          subst (λ l. (x : Buffer) × (c.index.result.now.page ≡ x.page) × Fetched p k pool l before after c.args.steps.now c.fetch.new.steps x) (sym c.self.view_is)
              (told.0, ap (λ (x : Buffer). x.page) read, told.2),
          subst (λ l. AgreesIn l after p) (sym c.self.view_is) c.fetch.ensures.agrees,
        ),
      ),
      record { hands = tt; node = c.fetch.ensures.node; reached = c.fetch.ensures.reached },
    )

pub returns-in-Err : goal.returns-in-Err
returns-in-Err g c =
    let p = c.args.p in
    let after = c.fetch.new.node in (
      (
        refl,
        (λ _. tt),
        (
          subst (λ l. MissesPage p c.args.number c.args.self.now l c.args.node.now after c.args.steps.now c.fetch.new.steps c.in-Err.wait) (sym c.self.view_is) c.in-Err.ensures.fetched,
          subst (λ l. AgreesIn l after p) (sym c.self.view_is) c.fetch.ensures.agrees,
        ),
      ),
      record { hands = tt; node = c.fetch.ensures.node; reached = c.fetch.ensures.reached },
    )
