-- The three numbers, each behind its words, are the line.
use Rattle.std.proofs.Common.{◌≡◌, ℕ, List, [], ◌∷◌, ◌++◌, codes, decimal, sym, ap, append_assoc, append-nil}
use Rattle.mp_commands.proofs.Pieces.{four_pieces}
use Rattle.mp_report.specs.Lines.{line}
use Rattle.mp_app.specs.Recoveries.{recovered_words}
use Rattle.mp_app.proofs.recoveries.push_counts.Goals as goal

-- what ends a line stands behind its last word
ended : (a b c p q end : List ℕ) → (a ++ (p ++ (b ++ (q ++ (c ++ []))))) ++ end ≡ a ++ (p ++ (b ++ (q ++ (c ++ end))))
ended a b c p q end = simp (append_assoc, append-nil)

joined : (base kept undone : ℕ) → (codes "recovered base " ++ decimal base) ++ ((codes " kept " ++ decimal kept) ++ ((codes " undone " ++ decimal undone) ++ 10 ∷ [])) ≡ line (recovered_words base kept undone)
joined base kept undone = ap (λ (t : List ℕ). codes "recovered base " ++ t) (sym (ended (decimal base) (decimal kept) (decimal undone) (codes " kept ") (codes " undone ") (10 ∷ [])))

pub returns : goal.returns
returns c =
    four_pieces c.push.result _ _ _ _ _ (codes "recovered base " ++ decimal c.args.base) (codes " kept " ++ decimal c.args.kept) (codes " undone " ++ decimal c.args.undone) (10 ∷ []) (line (recovered_words c.args.base c.args.kept c.args.undone))
    c.in_ok-push_numbered.ensures c.in_ok-push_numbered-2.ensures c.in_ok-push_numbered-3.ensures (joined c.args.base c.args.kept c.args.undone) c.push.ensures.ok
