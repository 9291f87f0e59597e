-- What the agents are seen as.
use Rattle.std.specs.Prelude.{ℕ, List}
use Rattle.cl_base.specs.declared.method.Outcome.{Outcome}

-- its name, and the START calls since the last that failed
pub record Counting : Type 0 where
  pub name : List ℕ
  pub starts : ℕ

-- its name, and the outcomes that it is still to give
pub record Scripted : Type 0 where
  pub name : List ℕ
  pub left : List Outcome
