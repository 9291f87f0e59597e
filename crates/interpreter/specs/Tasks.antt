-- What the words of the command line ask for.
use Rattle.std.specs.Prelude.{ℕ, if◌then◌else◌, List, [], ◌∷◌, Option, Some, None, codes}
use Rattle.std.specs.Str.{bytes_eq}
use Rattle.interpreter.specs.declared.task.Task.{Task}
use Rattle.interpreter.specs.declared.task.Task.TheVariants.{Run, Check}

-- the one word `run`, or the one word `check`
abbrev pub task_of : List (List ℕ) → Option Task
task_of [] = None
task_of (word ∷ []) = if bytes_eq word (codes "run") then Some Run else if bytes_eq word (codes "check") then Some Check else None
task_of (word ∷ other ∷ words) = None
