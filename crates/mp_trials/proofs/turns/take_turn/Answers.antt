use Rattle.std.proofs.Common.{refl, sym, subst}
use Rattle.mp_buffer_fusion.specs.Agreement.{AgreesWith, AgreesIn}
use Rattle.mp_trials.proofs.Forced.{keeps_then}
use Rattle.mp_trials.proofs.Tries.{forced_kept, written_is_held}
use Rattle.mp_trials.proofs.turns.take_turn.Goals as goal

pub take_page-requires-clause-agrees : goal.take_page-requires-clause-agrees
take_page-requires-clause-agrees g c = subst (λ l. AgreesIn l c.args.node.now c.args.p) (sym c.requires.pool) c.requires.agrees

pub push_page-requires-clause-forced : goal.push_page-requires-clause-forced
push_page-requires-clause-forced g c = forced_kept c.args.p c.args.node.now _ c.in-Ok.ensures.keeps c.requires.forced

pub push_page-requires-clause-has : goal.push_page-requires-clause-has
push_page-requires-clause-has g c = c.in-Ok.ensures.taken

pub let_go-requires-clause-forced : goal.let_go-requires-clause-forced
let_go-requires-clause-forced g c =
    forced_kept c.args.p c.args.node.now _ (keeps_then c.args.p c.args.node.now _ _ c.in-Ok.ensures.keeps c.push_page.ensures.keeps) c.requires.forced

pub let_go-requires-clause-agrees : goal.let_go-requires-clause-agrees
let_go-requires-clause-agrees g c q has = subst (λ l. AgreesWith l q.pages) (c.if-drop_clean.ensures.empty refl) (c.if-drop_clean.ensures.agrees q.pages (c.push_page.ensures.agrees q has))

pub let_go-requires-clause-lock : goal.let_go-requires-clause-lock
let_go-requires-clause-lock g c = written_is_held c.push_page.new.node c.args.p 1 (c.push_page.ensures.pages 1 c.in-Ok.ensures.taken).1

pub returns-then-drop_clean-clause-keeps : goal.returns-then-drop_clean-clause-keeps
returns-then-drop_clean-clause-keeps g c =
    keeps_then c.args.p c.args.node.now _ _ c.in-Ok.ensures.keeps (keeps_then c.args.p _ _ _ c.push_page.ensures.keeps c.let_go.ensures.keeps)

pub returns-clause-keeps : goal.returns-clause-keeps
returns-clause-keeps g c = keeps_then c.args.p c.args.node.now _ _ c.in-Ok.ensures.keeps c.push_page.ensures.keeps
