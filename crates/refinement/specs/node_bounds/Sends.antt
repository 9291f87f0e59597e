-- How many messages a node sends in a step, if each save is done. A lost save only leaves out what comes behind it.
use Rattle.std.specs.Prelude.{ℕ, ◌+◌, List, [], ◌∷◌}
use Rattle.node_model.specs.declared.output.Output.{Output}
use Rattle.node_model.specs.declared.output.Output.TheVariants.{Tells, Sends}
use Rattle.node_model.specs.Plans.{Plan}
use Rattle.node_model.specs.Plans.Plan.{Stays, Falls, Says, Saves}

-- how many messages are among what a node gives
abbrev pub sends_of : List Output → ℕ
sends_of [] = 0
sends_of (Tells e ∷ os) = sends_of os
sends_of (Sends to b ∷ os) = sends_of os + 1

abbrev pub sends_in : Plan → ℕ
sends_in (Stays x) = 0
sends_in (Falls why) = 0
sends_in (Says os rest) = sends_of os + sends_in rest
sends_in (Saves r rest) = sends_in rest

-- so many messages a step sends at most
abbrev pub most_sends : ℕ
most_sends = 4096
