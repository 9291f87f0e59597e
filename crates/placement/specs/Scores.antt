-- Which of two nodes comes first by what is known of the group there.
use Rattle.std.specs.Prelude.{ℕ, ◌-◌, nat_lt, ◌==◌, not, Bool, List, Option, None, slice_index_or, int_lt, if◌then◌else◌}
use Rattle.placement.specs.declared.score.Score.{Score}

-- fewest start failures, then fewest soft limits passed, then the greatest score
abbrev pub is_better : Score → Score → Bool
is_better a b =
    if not (a.failures == b.failures) then nat_lt a.failures b.failures
    else if not (a.soft == b.soft) then nat_lt a.soft b.soft
    else int_lt b.score a.score

-- a node's score, where scores are listed from node 1 on
abbrev pub score_at : List (Option Score) → ℕ → Option Score
score_at scores n = slice_index_or scores (n - 1) None
