-- Plans one after another, plans that save nothing, and plans as functions.
use Rattle.std.specs.Prelude.{ℕ, ◌≡◌, List, ◌++◌, Option, None, Some, Result, Ok, Err}
use Rattle.std.proofs.Common.{refl, inl, inr, subst, sym, ap, ◌∙◌}
use Rattle.cmm_member.specs.Records.{NodeRecord}
use Rattle.record_disk.specs.Savings.{Saving}
use Rattle.status_report.specs.declared.node_entry.DownCause.{DownCause}
use Rattle.node_model.specs.declared.node.UpNode.{UpNode}
use Rattle.node_model.specs.declared.output.Output.{Output}
use Rattle.node_model.specs.declared.stop.Stop.{Stop}
use Rattle.node_model.specs.declared.stop.Stop.TheVariants.{Down, NoMemory}
use Rattle.std.specs.Option.{option_map}
use Rattle.std.proofs.lemmas.Option.{none-some, same_Some}
use Rattle.record_disk.specs.declared.error.Loss.{Loss}
use Rattle.node_model.specs.declared.node.Node.TheVariants as node
use Rattle.node_model.specs.Plans.{Plan, Follows, Gives, HasFallen, IsDone, and_then, cause_of}
use Rattle.node_model.specs.Steps.{Outcome, carried, gone, unless_lost}
use Rattle.node_model.specs.Plans.Plan.{Stays, Falls, Says, Saves}

-- a plan that saves nothing leaves the disk
pub gives_follows : {K : Type 0} → (saving : K → NodeRecord → Saving K) (plan : Plan) (given after : List Output) (result : Result UpNode Stop) (disk : K) → Gives plan given result after → Follows saving plan given disk result after disk
gives_follows saving (Stays x) given after (Ok up) disk h = (h.0, h.1, refl)
gives_follows saving (Stays x) given after (Err (Down why)) disk h = h
gives_follows saving (Stays x) given after (Err NoMemory) disk h = tt
gives_follows saving (Falls cause) given after (Ok up) disk h = h
gives_follows saving (Falls cause) given after (Err (Down why)) disk h = (h.0, h.1, refl)
gives_follows saving (Falls cause) given after (Err NoMemory) disk h = tt
gives_follows saving (Says os rest) given after (Ok up) disk h = gives_follows saving rest (given ++ os) after (Ok up) disk h
gives_follows saving (Says os rest) given after (Err (Down why)) disk h = gives_follows saving rest (given ++ os) after (Err (Down why)) disk h
gives_follows saving (Says os rest) given after (Err NoMemory) disk h = tt
gives_follows saving (Saves r rest) given after (Ok up) disk h = absurd h
gives_follows saving (Saves r rest) given after (Err (Down why)) disk h = absurd h
gives_follows saving (Saves r rest) given after (Err NoMemory) disk h = tt

-- a plan that is done, and what follows it
pub done_then : {K : Type 0} → (saving : K → NodeRecord → Saving K) (p : Plan) (next : UpNode → Plan) (given given1 after : List Output) (disk disk1 left : K) (x : UpNode) (result : Result UpNode Stop)
    → IsDone saving p given disk x given1 disk1 → Follows saving (next x) given1 disk1 result after left → Follows saving (and_then p next) given disk result after left
done_then saving (Stays y) next given given1 after disk disk1 left x result h f =
    subst (λ z. Follows saving (next z) given disk result after left) h.0
    (subst (λ g. Follows saving (next x) g disk result after left) h.1
    (subst (λ d. Follows saving (next x) given1 d result after left) h.2 f))
done_then saving (Falls cause) next given given1 after disk disk1 left x result h f = absurd h
done_then saving (Says os rest) next given given1 after disk disk1 left x (Ok up) h f = done_then saving rest next (given ++ os) given1 after disk disk1 left x (Ok up) h f
done_then saving (Says os rest) next given given1 after disk disk1 left x (Err (Down why)) h f = done_then saving rest next (given ++ os) given1 after disk disk1 left x (Err (Down why)) h f
done_then saving (Says os rest) next given given1 after disk disk1 left x (Err NoMemory) h f = tt
done_then saving (Saves r rest) next given given1 after disk disk1 left x (Ok up) h f = (h.0, done_then saving rest next given given1 after (saving disk r).after disk1 left x (Ok up) h.1 f)
done_then saving (Saves r rest) next given given1 after disk disk1 left x (Err (Down why)) h f = inl (h.0, done_then saving rest next given given1 after (saving disk r).after disk1 left x (Err (Down why)) h.1 f)
done_then saving (Saves r rest) next given given1 after disk disk1 left x (Err NoMemory) h f = tt

-- a fall in a plan is one in whatever it begins
pub fallen_then : {K : Type 0} → (saving : K → NodeRecord → Saving K) (p : Plan) (next : UpNode → Plan) (given after : List Output) (disk left : K) (why : DownCause)
    → HasFallen saving p given disk why after left → HasFallen saving (and_then p next) given disk why after left
fallen_then saving (Stays y) next given after disk left why h = absurd h
fallen_then saving (Falls cause) next given after disk left why h = h
fallen_then saving (Says os rest) next given after disk left why h = fallen_then saving rest next (given ++ os) after disk left why h
fallen_then saving (Saves r rest) next given after disk left why (inl h) = inl (h.0, fallen_then saving rest next given after (saving disk r).after left why h.1)
fallen_then saving (Saves r rest) next given after disk left why (inr h) = inr h

-- what is left of a plan, once it has given something
pub follows_says : {K : Type 0} → (saving : K → NodeRecord → Saving K) (os : List Output) (rest : Plan) (given after : List Output) (disk left : K) (result : Result UpNode Stop)
    → Follows saving rest (given ++ os) disk result after left → Follows saving (Says os rest) given disk result after left
follows_says saving os rest given after disk left (Ok up) h = h
follows_says saving os rest given after disk left (Err (Down why)) h = h
follows_says saving os rest given after disk left (Err NoMemory) h = h

-- what is left of a plan, once it has saved a record
pub follows_saves : {K : Type 0} → (saving : K → NodeRecord → Saving K) (r : NodeRecord) (rest : Plan) (given after : List Output) (disk left : K) (result : Result UpNode Stop)
    → (saving disk r).lost ≡ None → Follows saving rest given (saving disk r).after result after left → Follows saving (Saves r rest) given disk result after left
follows_saves saving r rest given after disk left (Ok up) saved h = (saved, h)
follows_saves saving r rest given after disk left (Err (Down why)) saved h = inl (saved, h)
follows_saves saving r rest given after disk left (Err NoMemory) saved h = h

-- the node has stopped in the first plan
pub stopped_then : {K : Type 0} → (saving : K → NodeRecord → Saving K) (p : Plan) (next : UpNode → Plan) (given after : List Output) (disk left : K) (stop : Stop)
    → Follows saving p given disk (Err stop) after left → Follows saving (and_then p next) given disk (Err stop) after left
stopped_then saving p next given after disk left (Down why) h = fallen_then saving p next given after disk left why h
stopped_then saving p next given after disk left NoMemory h = tt

-- the first plan is done, and nothing follows it
pub done_and_stays : {K : Type 0} → (saving : K → NodeRecord → Saving K) (p : Plan) (next : UpNode → Plan) (given after : List Output) (disk left : K) (up : UpNode)
    → IsDone saving p given disk up after left → next up ≡ Stays up → IsDone saving (and_then p next) given disk up after left
done_and_stays saving p next given after disk left up done still =
    done_then saving p next given after after disk left left up (Ok up) done (subst (λ (rest : Plan). IsDone saving rest after left up after left) (sym still) (refl, refl, refl))

-- two plans that begin alike: where the one is done, the other is followed, if that is so of what comes after the same beginning
pub follows_as : {K : Type 0} → (saving : K → NodeRecord → Saving K) (p : Plan) (first second : UpNode → Plan) (given mid after : List Output) (disk between left : K) (up : UpNode) (result : Result UpNode Stop)
    → ((x : UpNode) (told : List Output) (now : K) → IsDone saving (first x) told now up mid between → Follows saving (second x) told now result after left)
    → IsDone saving (and_then p first) given disk up mid between → Follows saving (and_then p second) given disk result after left
follows_as saving (Stays x) first second given mid after disk between left up result same done = same x given disk done
follows_as saving (Falls why) first second given mid after disk between left up result same done = absurd done
follows_as saving (Says os rest) first second given mid after disk between left up result same done =
    follows_says saving os (and_then rest second) given after disk left result (follows_as saving rest first second (given ++ os) mid after disk between left up result same done)
follows_as saving (Saves r rest) first second given mid after disk between left up result same done =
    follows_saves saving r (and_then rest second) given after disk left result done.0 (follows_as saving rest first second given mid after (saving disk r).after between left up result same done.1)

-- What follows a plan comes to what the plan is carried out to.

pub done_is : {K : Type 0} → (saving : K → NodeRecord → Saving K) (me : ℕ) (plan : Plan) (given after : List Output) (disk left : K) (x : UpNode)
    → IsDone saving plan given disk x after left → carried saving me plan given disk ≡ record { after = node.Up x; given = after; disk = left }
done_is saving me (Stays y) given after disk left x h = ap (λ z. record { after = node.Up z; given = given; disk = disk }) (sym h.0) ∙ ap (λ g. record { after = node.Up x; given = g; disk = disk }) (sym h.1) ∙ ap (λ d. record { after = node.Up x; given = after; disk = d }) (sym h.2)
done_is saving me (Falls why) given after disk left x h = absurd h
done_is saving me (Says os rest) given after disk left x h = done_is saving me rest (given ++ os) after disk left x h
done_is saving me (Saves r rest) given after disk left x h =
    ap (λ l. unless_lost me given (saving disk r).after l (carried saving me rest given (saving disk r).after)) h.0 ∙ done_is saving me rest given after (saving disk r).after left x h.1

lost_is : {K : Type 0} → (me : ℕ) (given : List Output) (disk : K) (lost : Option Loss) (why : DownCause) (next : Outcome K)
    → option_map cause_of lost ≡ Some why → unless_lost me given disk lost next ≡ gone me why given disk
lost_is me given disk None why next h = absurd (none-some why h)
lost_is me given disk (Some l) why next h = ap (λ w. gone me w given disk) (same_Some (cause_of l) why h)

pub fallen_is : {K : Type 0} → (saving : K → NodeRecord → Saving K) (me : ℕ) (plan : Plan) (given after : List Output) (disk left : K) (why : DownCause)
    → HasFallen saving plan given disk why after left → carried saving me plan given disk ≡ gone me why after left
fallen_is saving me (Stays y) given after disk left why h = absurd h
fallen_is saving me (Falls cause) given after disk left why h = ap (λ w. gone me w given disk) (sym h.0) ∙ ap (λ g. gone me why g disk) (sym h.1) ∙ ap (λ d. gone me why after d) (sym h.2)
fallen_is saving me (Says os rest) given after disk left why h = fallen_is saving me rest (given ++ os) after disk left why h
fallen_is saving me (Saves r rest) given after disk left why (inl h) =
    ap (λ l. unless_lost me given (saving disk r).after l (carried saving me rest given (saving disk r).after)) h.0 ∙ fallen_is saving me rest given after (saving disk r).after left why h.1
fallen_is saving me (Saves r rest) given after disk left why (inr h) =
    lost_is me given (saving disk r).after (saving disk r).lost why (carried saving me rest given (saving disk r).after) h.cause
    ∙ ap (λ g. gone me why g (saving disk r).after) (sym h.given_so) ∙ ap (λ d. gone me why after d) (sym h.left_so)
