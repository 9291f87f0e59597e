-- Where memory runs out, nothing is asked of the plan. Where a save is lost, the node goes down in it.
use Rattle.std.proofs.Common.{◌≡◌, ◌++◌, inr, List, Result, Ok, Err, subst, sym, ◌∙◌, ap}
use Rattle.cmm_member.specs.Records.{NodeRecord}
use Rattle.record_disk.specs.Savings.{Saving}
use Rattle.node_model.specs.declared.node.UpNode.{UpNode}
use Rattle.node_model.specs.declared.output.Output.{Output}
use Rattle.node_model.specs.declared.stop.Stop.{Stop}
use Rattle.node_model.specs.declared.stop.Stop.TheVariants.{Down, NoMemory}
use Rattle.node_model.specs.Plans.{Plan, Follows, Gives, KeepFails}
use Rattle.node_model.specs.Plans.Plan.{Stays, Falls, Says, Saves}

pub out_of_memory : {K : Type 0} → (saving : K → NodeRecord → Saving K) (plan : Plan) (given after : List Output) (disk left : K) (result : Result UpNode Stop)
    → result ≡ Err NoMemory → Follows saving plan given disk result after left
out_of_memory saving plan given after disk left result is = subst (λ (r : Result UpNode Stop). Follows saving plan given disk r after left) (sym is) tt

none_given : (plan : Plan) (given after : List Output) → Gives plan given (Err NoMemory) after
none_given (Stays x) given after = tt
none_given (Falls why) given after = tt
none_given (Says os rest) given after = none_given rest (given ++ os) after
none_given (Saves r rest) given after = tt

-- .. of a plan that saves nothing
pub gives_stopped : (plan : Plan) (given after : List Output) (result : Result UpNode Stop) (stop : Stop) → stop ≡ NoMemory → result ≡ Err stop → Gives plan given result after
gives_stopped plan given after result stop none is = subst (λ (r : Result UpNode Stop). Gives plan given r after) (sym (is ∙ ap (λ (s : Stop). Err s) none)) (none_given plan given after)

lost_so : {K : Type 0} → (saving : K → NodeRecord → Saving K) (r : NodeRecord) (rest : Plan) (given after : List Output) (disk left : K) (stop : Stop)
    → KeepFails (saving disk r) given after left stop → Follows saving (Saves r rest) given disk (Err stop) after left
lost_so saving r rest given after disk left (Down why) fails = inr fails
lost_so saving r rest given after disk left NoMemory fails = tt

-- a save is not done
pub not_kept : {K : Type 0} → (saving : K → NodeRecord → Saving K) (r : NodeRecord) (rest : Plan) (given after : List Output) (disk left : K) (result : Result UpNode Stop) (stop : Stop)
    → KeepFails (saving disk r) given after left stop → result ≡ Err stop → Follows saving (Saves r rest) given disk result after left
not_kept saving r rest given after disk left result stop fails is =
    subst (λ (s : Result UpNode Stop). Follows saving (Saves r rest) given disk s after left) (sym is) (lost_so saving r rest given after disk left stop fails)
