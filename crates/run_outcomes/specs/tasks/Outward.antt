-- Requests to seize go to another than their sender.
use Rattle.std.specs.Prelude.{◌≡◌, ◌≢◌, Bool, true, false, List}
use Rattle.history.specs.Letters.{Letter}
use Rattle.history.specs.Names as name
use Rattle.history.specs.Names.{Name}
use Rattle.history.specs.Moment.{Moment}
use Rattle.run_commands.specs.acknowledged.Askings.{LettersAre}

-- a request to seize is called so
abbrev pub is_request : Name → Bool
is_request (name.SeizeQuorum d) = true
is_request (name.SeizeData d) = true
is_request _ = false

-- a letter that is one goes to another node
abbrev pub IsOutward : Letter → Type 0
IsOutward l = is_request l.name ≡ true → l.to ≢ l.from

abbrev pub RequestsGoOut : List Moment → Type 0
RequestsGoOut moments = LettersAre IsOutward moments
