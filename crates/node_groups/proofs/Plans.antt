-- Plans that save nothing, one after another.
use Rattle.std.proofs.Common.{◌≡◌, List, ◌++◌, Result, Ok, Err, subst, sym}
use Rattle.node_model.specs.declared.node.UpNode.{UpNode}
use Rattle.node_model.specs.declared.output.Output.{Output}
use Rattle.node_model.specs.declared.stop.Stop.{Stop}
use Rattle.node_model.specs.declared.stop.Stop.TheVariants.{Down, NoMemory}
use Rattle.node_model.specs.Plans.{Plan, Gives, and_then}
use Rattle.node_model.specs.Plans.Plan.{Stays, Falls, Says, Saves}

-- where memory runs out, nothing is asked of the plan
pub none_given : (plan : Plan) (given after : List Output) → Gives plan given (Err NoMemory) after
none_given (Stays x) given after = tt
none_given (Falls why) given after = tt
none_given (Says os rest) given after = none_given rest (given ++ os) after
none_given (Saves r rest) given after = tt

pub gives_no_memory : (plan : Plan) (given after : List Output) (stop : Stop) → stop ≡ NoMemory → Gives plan given (Err stop) after
gives_no_memory plan given after stop is = subst (λ s. Gives plan given (Err s) after) (sym is) (none_given plan given after)

-- a plan that is done, and what follows it
pub gives_then : (p : Plan) (next : UpNode → Plan) (given mid after : List Output) (y : UpNode) (result : Result UpNode Stop)
    → Gives p given (Ok y) mid → Gives (next y) mid result after → Gives (and_then p next) given result after
gives_then (Stays x) next given mid after y result h f =
    subst (λ z. Gives (next z) given result after) h.0 (subst (λ g. Gives (next y) g result after) h.1 f)
gives_then (Falls why) next given mid after y result h f = absurd h
gives_then (Says os rest) next given mid after y result h f = gives_then rest next (given ++ os) mid after y result h f
gives_then (Saves r rest) next given mid after y result h f = absurd h

-- the node has stopped in the first plan
pub gives_stopped : (p : Plan) (next : UpNode → Plan) (given after : List Output) (stop : Stop) → Gives p given (Err stop) after → Gives (and_then p next) given (Err stop) after
gives_stopped (Stays x) next given after (Down why) h = absurd h
gives_stopped (Stays x) next given after NoMemory h = none_given (next x) given after
gives_stopped (Falls cause) next given after stop h = h
gives_stopped (Says os rest) next given after stop h = gives_stopped rest next (given ++ os) after stop h
gives_stopped (Saves r rest) next given after (Down why) h = absurd h
gives_stopped (Saves r rest) next given after NoMemory h = tt
