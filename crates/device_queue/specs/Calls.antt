-- What is left by the calls since the tasks were last cleared. Lists of calls are newest first.
use Rattle.std.specs.Prelude.{ℕ, ◌+◌, ◌==◌, ◌&&◌, ◌||◌, is_none, Bool, false, List, [], ◌∷◌, IsSome, if◌then◌else◌}
use Rattle.std.specs.List.{list_any}
use Rattle.seize.specs.Answers.{Answer}
use Rattle.seize.specs.Seizing as seizing
use Rattle.seize.specs.Joining as joining
use Rattle.device_queue.specs.declared.task.Task.{Task}
use Rattle.device_queue.specs.Queue.{after_answer, after_join, after_seize, join_of, seizure_of}

pub data Call : Type 0 where
  Seize : (device : ℕ) (s : seizing.SeizeState) → Call
  Join : (device : ℕ) (j : joining.JoinState) → Call
  Take : (a : Answer) → Call

abbrev pub after_call : List Task → Call → List Task
after_call tasks (Seize d s) = after_seize tasks d s
after_call tasks (Join d j) = after_join tasks d j
after_call tasks (Take a) = after_answer tasks a

abbrev pub left_by : List Call → List Task
left_by [] = []
left_by (c ∷ earlier) = after_call (left_by earlier) c

-- the call begins a seizing of device d, or a joining
abbrev pub begins_seizing : ℕ → List Task → Call → Bool
begins_seizing d tasks (Seize e s) = (e == d) && is_none (seizure_of tasks d)
begins_seizing d tasks (Join e j) = false
begins_seizing d tasks (Take a) = false

abbrev pub begins_joining : ℕ → List Task → Call → Bool
begins_joining d tasks (Seize e s) = false
begins_joining d tasks (Join e j) = (e == d) && is_none (join_of tasks d)
begins_joining d tasks (Take a) = false

-- so many were begun
abbrev pub seizings_begun : ℕ → List Call → ℕ
seizings_begun d [] = 0
seizings_begun d (c ∷ earlier) = seizings_begun d earlier + (if begins_seizing d (left_by earlier) c then 1 else 0)

abbrev pub joinings_begun : ℕ → List Call → ℕ
joinings_begun d [] = 0
joinings_begun d (c ∷ earlier) = joinings_begun d earlier + (if begins_joining d (left_by earlier) c then 1 else 0)

-- a seizing and a joining are handed in as they begin, with a command due
abbrev pub IsFresh : Call → Type 0
IsFresh (Seize d s) = IsSome (seizing.command_of s)
IsFresh (Join d j) = IsSome (joining.command_of j)
IsFresh (Take a) = Unit {0}

abbrev pub AreFresh : List Call → Type 0
AreFresh [] = Unit {0}
AreFresh (c ∷ earlier) = IsFresh c × AreFresh earlier

-- the call asks to join device d, or to seize it
abbrev pub asks_to_join : ℕ → Call → Bool
asks_to_join d (Seize e s) = false
asks_to_join d (Join e j) = e == d
asks_to_join d (Take a) = false

abbrev pub asks_to_seize : ℕ → Call → Bool
asks_to_seize d (Seize e s) = e == d
asks_to_seize d (Join e j) = false
asks_to_seize d (Take a) = false

-- d was asked to be seized after it was asked to be joined
abbrev pub seized_after_join : ℕ → List Call → Bool
seized_after_join d [] = false
seized_after_join d (c ∷ earlier) = (asks_to_seize d c && list_any (asks_to_join d) earlier) || seized_after_join d earlier
