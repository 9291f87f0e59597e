-- The oldest request goes to the president, which may be the node itself.
use Rattle.std.proofs.Common.{◌≡◌, ◌++◌, ℕ, Bool, true, false, List, Option, None, Some, Result, Ok, refl, subst, sym, ◌∙◌}
use Rattle.std.specs.Option.{is_some, option_map}
use Rattle.std.proofs.lemmas.Bool.{false≢true}
use Rattle.std.proofs.lemmas.List.{append-nil}
use Rattle.std.proofs.lemmas.Option.{none-some, same_Some}
use Rattle.cmm_member.specs.Records.{NodeRecord}
use Rattle.proposals.specs.declared.arrived.Arrived.{Arrived}
use Rattle.record_disk.specs.Savings.{Saving}
use Rattle.request_queue.specs.Queue.{oldest}
use Rattle.request_queue.specs.declared.request.Request.{Request}
use Rattle.node_model.specs.declared.cluster.Cluster.{Cluster}
use Rattle.node_model.specs.declared.node.UpNode.{UpNode}
use Rattle.node_model.specs.declared.output.Output.{Output}
use Rattle.node_model.specs.declared.presidency.Presidency.{Presidency}
use Rattle.node_model.specs.declared.stop.Stop.{Stop}
use Rattle.node_model.specs.Plans.{Plan, Follows}
use Rattle.node_model.specs.Presidents.{own_arrival}
use Rattle.node_model.specs.Requests.{asking, asking_for, asking_of, request_to}
use Rattle.node_model.specs.Seats.{coordinator_of}
use Rattle.node_model.specs.Updates.{request_again_to}
use Rattle.node_presidents.specs.Presidents.{arriving_by}

own_so : (c : Cluster) (me : ℕ) (x : UpNode) (r : Request) (p : Option Presidency) → is_some p ≡ true → arriving_by c me x (own_arrival me r) p ≡ asking_of c me x r p
own_so c me x r None is = absurd (false≢true is)
own_so c me x r (Some p) is = refl

own_by : {K : Type 0} → (saving : K → NodeRecord → Saving K) (c : Cluster) (me : ℕ) (x : UpNode) (o : Option Request) (a : Arrived) (result : Result UpNode Stop) (given after : List Output) (disk left : K)
    → option_map (own_arrival me) o ≡ Some a → is_some x.presidency ≡ true
    → Follows saving (arriving_by c me x a x.presidency) given disk result after left → Follows saving (asking_for c me x o) given disk result after left
own_by saving c me x None a result given after disk left is some h = absurd (none-some a is)
own_by saving c me x (Some r) a result given after disk left is some h =
    subst (λ (plan : Plan). Follows saving plan given disk result after left) (own_so c me x r x.presidency some)
    (subst (λ (k : Arrived). Follows saving (arriving_by c me x k x.presidency) given disk result after left) (sym (same_Some (own_arrival me r) a is)) h)

-- to the node itself it comes as its own
pub asks_own : {K : Type 0} → (saving : K → NodeRecord → Saving K) (c : Cluster) (me : ℕ) (x : UpNode) (own : Option Arrived) (a : Arrived) (result : Result UpNode Stop) (given after : List Output) (disk left : K)
    → own ≡ option_map (own_arrival me) (oldest x.requests) → own ≡ Some a → is_some x.presidency ≡ true
    → Follows saving (arriving_by c me x a x.presidency) given disk result after left → Follows saving (asking c me x) given disk result after left
asks_own saving c me x own a result given after disk left is so some h = own_by saving c me x (oldest x.requests) a result given after disk left (sym is ∙ so) some h

nothing_by : {K : Type 0} → (saving : K → NodeRecord → Saving K) (c : Cluster) (me : ℕ) (x : UpNode) (o : Option Request) (given : List Output) (disk : K)
    → option_map (own_arrival me) o ≡ None → Follows saving (asking_for c me x o) given disk (Ok x) given disk
nothing_by saving c me x None given disk is = (refl, refl, refl)
nothing_by saving c me x (Some r) given disk is = absurd (none-some (own_arrival me r) (sym is))

-- it has none
pub asks_nothing : {K : Type 0} → (saving : K → NodeRecord → Saving K) (c : Cluster) (me : ℕ) (x : UpNode) (own : Option Arrived) (given : List Output) (disk : K)
    → own ≡ option_map (own_arrival me) (oldest x.requests) → own ≡ None → Follows saving (asking c me x) given disk (Ok x) given disk
asks_nothing saving c me x own given disk is so = nothing_by saving c me x (oldest x.requests) given disk (sym is ∙ so)

other_to : {K : Type 0} → (saving : K → NodeRecord → Saving K) (x : UpNode) (r : Request) (to : Option ℕ) (given after : List Output) (disk : K)
    → after ≡ given ++ request_again_to x (Some r) to → Follows saving (request_to x r to) given disk (Ok x) after disk
other_to saving x r None given after disk told = (refl, told ∙ append-nil given, refl)
other_to saving x r (Some president) given after disk told = (refl, told, refl)

other_of : {K : Type 0} → (saving : K → NodeRecord → Saving K) (c : Cluster) (me : ℕ) (x : UpNode) (r : Request) (p : Option Presidency) (given after : List Output) (disk : K)
    → is_some p ≡ false → after ≡ given ++ request_again_to x (Some r) (coordinator_of x) → Follows saving (asking_of c me x r p) given disk (Ok x) after disk
other_of saving c me x r None given after disk none told = other_to saving x r (coordinator_of x) given after disk told
other_of saving c me x r (Some p) given after disk none told = absurd (false≢true (sym none))

other_by : {K : Type 0} → (saving : K → NodeRecord → Saving K) (c : Cluster) (me : ℕ) (x : UpNode) (o : Option Request) (given after : List Output) (disk : K)
    → is_some x.presidency ≡ false → after ≡ given ++ request_again_to x o (coordinator_of x) → Follows saving (asking_for c me x o) given disk (Ok x) after disk
other_by saving c me x None given after disk none told = (refl, told ∙ append-nil given, refl)
other_by saving c me x (Some r) given after disk none told = other_of saving c me x r x.presidency given after disk none told

-- to another node it is sent
pub asks_other : {K : Type 0} → (saving : K → NodeRecord → Saving K) (c : Cluster) (me : ℕ) (x : UpNode) (some : Bool) (given after : List Output) (disk : K)
    → some ≡ is_some x.presidency → some ≡ false → after ≡ given ++ request_again_to x (oldest x.requests) (coordinator_of x) → Follows saving (asking c me x) given disk (Ok x) after disk
asks_other saving c me x some given after disk is none told = other_by saving c me x (oldest x.requests) given after disk (sym is ∙ none) told
