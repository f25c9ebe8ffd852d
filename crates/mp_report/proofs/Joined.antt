-- A text of four pieces is that of their lines in a row.
use Rattle.std.proofs.Common.{◌≡◌, ℕ, List, [], ◌∷◌, ◌++◌, append_assoc, append-nil}
use Rattle.std.proofs.lemmas.List.Concat.{flat_map-append}
use Rattle.mp_report.specs.Lines.{line, text_of_lines}

pub joined : (head end : List (List ℕ)) (parts downs : List (List (List ℕ)))
    → ((line head ++ text_of_lines parts) ++ text_of_lines downs) ++ line end ≡ text_of_lines (head ∷ (parts ++ (downs ++ end ∷ [])))
joined head end parts downs =
    rw (flat_map-append line parts (downs ++ end ∷ []), flat_map-append line downs (end ∷ []), append-nil (line end)) (simp append_assoc)
