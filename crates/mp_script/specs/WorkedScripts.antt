-- The scripts of the worked transcripts.
use Rattle.std.specs.Prelude.{[], ◌∷◌}
use Rattle.mp_script.specs.declared.statements.Script.{Script}
use Rattle.mp_script.specs.declared.statements.Stmt.TheVariants.{Begin, Get, Put, Del, Copy, Scan, Commit, Rollback}
use Rattle.mp_script.specs.Worked.{script_on, on}

-- both begin and put key 5; the second commits before the first
abbrev pub same_key : Script
same_key = script_on 2 (on 1 1 ∷ on 2 2 ∷ []) ((1, Begin) ∷ (2, Begin) ∷ (2, Put 5 (97 ∷ [])) ∷ (1, Put 5 (98 ∷ [])) ∷ (2, Commit) ∷ (1, Commit) ∷ [])

-- as `same_key`, but the second rolls back
abbrev pub same_key_rolled : Script
same_key_rolled = script_on 2 (on 1 1 ∷ on 2 2 ∷ []) ((1, Begin) ∷ (2, Begin) ∷ (2, Put 5 (97 ∷ [])) ∷ (1, Put 5 (98 ∷ [])) ∷ (2, Rollback) ∷ (1, Commit) ∷ [])

-- each puts a key of its own, and then that of the other
abbrev pub crossed : Script
crossed = script_on 2 (on 1 1 ∷ on 2 2 ∷ []) ((1, Begin) ∷ (2, Begin) ∷ (1, Put 1 (97 ∷ [])) ∷ (2, Put 2 (98 ∷ [])) ∷ (1, Put 2 (99 ∷ [])) ∷ (2, Put 1 (100 ∷ [])) ∷ (1, Commit) ∷ (2, Commit) ∷ [])

-- three sessions, each of which puts a key of its own and then that of the next
abbrev pub in_a_circle : Script
in_a_circle = script_on 3 (on 1 1 ∷ on 2 2 ∷ on 3 3 ∷ []) ((1, Begin) ∷ (2, Begin) ∷ (3, Begin) ∷ (1, Put 1 (97 ∷ [])) ∷ (2, Put 2 (98 ∷ [])) ∷ (3, Put 3 (99 ∷ [])) ∷ (1, Put 2 (100 ∷ [])) ∷ (2, Put 3 (101 ∷ [])) ∷ (3, Put 1 (102 ∷ [])) ∷ (1, Commit) ∷ (2, Commit) ∷ (3, Commit) ∷ [])

-- one session puts key 5, commits, and puts it again
abbrev pub put_again : Script
put_again = script_on 1 (on 1 1 ∷ []) ((1, Begin) ∷ (1, Put 5 (97 ∷ [])) ∷ (1, Commit) ∷ (1, Begin) ∷ (1, Put 5 (98 ∷ [])) ∷ (1, Commit) ∷ [])

-- one session puts key 5 and commits
abbrev pub put_once : Script
put_once = script_on 1 (on 1 1 ∷ []) ((1, Begin) ∷ (1, Put 5 (97 ∷ [])) ∷ (1, Commit) ∷ [])

-- a copy of a key without a row
abbrev pub copied : Script
copied = script_on 1 (on 1 1 ∷ []) ((1, Begin) ∷ (1, Put 2 (98 ∷ [])) ∷ (1, Copy 1 2) ∷ (1, Get 2) ∷ (1, Commit) ∷ [])

-- three puts and a del, and three scans
abbrev pub scanned_rows : Script
scanned_rows = script_on 1 (on 1 1 ∷ []) ((1, Begin) ∷ (1, Put 3 (99 ∷ [])) ∷ (1, Put 1 (97 ∷ [])) ∷ (1, Put 2 (98 ∷ [])) ∷ (1, Del 2) ∷ (1, Scan 0 10) ∷ (1, Scan 2 1) ∷ (1, Scan 9 5) ∷ (1, Commit) ∷ [])

-- the first reads key 5 before and after the second puts it anew
abbrev pub read_twice : Script
read_twice = script_on 2 (on 1 1 ∷ on 2 2 ∷ []) ((2, Begin) ∷ (2, Put 5 (111 ∷ [])) ∷ (2, Commit) ∷ (1, Begin) ∷ (1, Get 5) ∷ (2, Begin) ∷ (2, Put 5 (110 ∷ [])) ∷ (2, Commit) ∷ (1, Get 5) ∷ (1, Commit) ∷ [])

-- the second reads what the first puts
abbrev pub read_behind : Script
read_behind = script_on 2 (on 1 1 ∷ on 2 2 ∷ []) ((1, Begin) ∷ (1, Put 5 (97 ∷ [])) ∷ (1, Commit) ∷ (2, Begin) ∷ (2, Get 5) ∷ (2, Commit) ∷ [])

-- each session commits a key of its own
abbrev pub two_keys : Script
two_keys = script_on 2 (on 1 1 ∷ on 2 2 ∷ []) ((1, Begin) ∷ (1, Put 1 (97 ∷ [])) ∷ (1, Commit) ∷ (2, Begin) ∷ (2, Put 2 (98 ∷ [])) ∷ (2, Commit) ∷ [])

-- one session commits and begins again
abbrev pub begin_again : Script
begin_again = script_on 2 (on 1 1 ∷ on 2 2 ∷ []) ((1, Begin) ∷ (1, Put 1 (97 ∷ [])) ∷ (1, Commit) ∷ (1, Begin) ∷ (1, Commit) ∷ [])

-- the second puts the key of the first and rolls back before the first commits
abbrev pub put_in_between : Script
put_in_between = script_on 1 (on 1 1 ∷ on 2 1 ∷ []) ((1, Begin) ∷ (1, Put 5 (97 ∷ [])) ∷ (2, Begin) ∷ (2, Put 5 (98 ∷ [])) ∷ (2, Rollback) ∷ (1, Commit) ∷ [])

-- both put the key and roll back
abbrev pub put_and_rolled : Script
put_and_rolled = script_on 1 (on 1 1 ∷ on 2 1 ∷ []) ((1, Begin) ∷ (1, Put 5 (97 ∷ [])) ∷ (2, Begin) ∷ (2, Put 5 (98 ∷ [])) ∷ (2, Rollback) ∷ (1, Rollback) ∷ [])

-- a session on the second primary commits and begins again
abbrev pub goes_down : Script
goes_down = script_on 2 (on 1 2 ∷ []) ((1, Begin) ∷ (1, Put 1 (97 ∷ [])) ∷ (1, Commit) ∷ (1, Begin) ∷ [])

-- a session on the second primary commits
abbrev pub ends_unknown : Script
ends_unknown = script_on 2 (on 1 2 ∷ []) ((1, Begin) ∷ (1, Put 1 (97 ∷ [])) ∷ (1, Commit) ∷ [])

-- no statement at all
abbrev pub no_statement : Script
no_statement = script_on 2 ([]) ([])
