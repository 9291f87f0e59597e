-- How far a generator has come.
use Rattle.std.specs.Prelude.{◌≡◌, ◌<◌, ◌≤◌, ℕ, ◌+◌, nat_lt, min, if◌then◌else◌, List, Option, Some, None}
use Rattle.schedule_gen.specs.Draws.{drawn}
use Rattle.schedule_gen.specs.Lines.{line_at}

-- its seed, how many lines follow the opening, and how many lines were given
pub record Progress : Type 0 where
  pub seed : ℕ
  pub count : ℕ
  pub given : ℕ

-- the line that comes next
abbrev pub next_of : Progress → Option (List ℕ)
next_of p = if nat_lt p.given (10 + p.count) then Some (line_at p.seed p.given) else None

-- one line further, or at the end
abbrev pub after : Progress → Progress
after p = record p { given = min (p.given + 1) (10 + p.count) }

-- first the opening lines are given, then one line for each draw
pub record IsGenerator (seed count opened draws state : ℕ) : Type 0 where
  pub opening : opened ≤ 10
  pub opening_first : opened < 10 → draws ≡ 0
  pub within : draws ≤ count
  pub state_drawn : state ≡ drawn seed draws
