-- A request comes to the president.
use Rattle.std.proofs.Common.{◌≡◌, ℕ, ◌&&◌, Bool, true, false, if◌then◌else◌, List, Option, None, Some, Result, Ok, Err, refl, ap, subst, sym, ◌∙◌, true≢false}
use Rattle.std.specs.Prelude.{IsErrAnd}
use Rattle.cl_base.specs.Sets.{has}
use Rattle.cmm_member.specs.Records.{NodeRecord}
use Rattle.proposals.specs.Arrivals.{arrival_of, with_arrival}
use Rattle.proposals.specs.State.{kept_at}
use Rattle.proposals.specs.declared.arrived.Arrival.{Arrival}
use Rattle.proposals.specs.declared.arrived.Arrival.TheVariants.{New, Waits, Answered, Past}
use Rattle.proposals.specs.declared.arrived.Arrived.{Arrived}
use Rattle.record_disk.specs.Savings.{Saving}
use Rattle.node_model.specs.declared.cluster.Cluster.{Cluster}
use Rattle.node_model.specs.declared.node.UpNode.{UpNode}
use Rattle.node_model.specs.declared.output.Output.{Output}
use Rattle.node_model.specs.declared.presidency.Presidency.{Presidency}
use Rattle.node_model.specs.declared.stop.Stop.{Stop}
use Rattle.node_model.specs.declared.stop.Stop.TheVariants.{NoMemory}
use Rattle.node_model.specs.Plans.{Plan, Follows, Gives}
use Rattle.node_model.specs.Plans.Plan.{Stays}
use Rattle.node_model.specs.Presidents.{arrived_as, handling, kept_again, with_proposals}
use Rattle.node_model.specs.Seats.{is_in, is_member, record_of}
use Rattle.node_model.specs.Updates.{is_of_member, on_asked, requested}
use Rattle.node_presidents.specs.Presidents.{answer_again_by, arrival_by, arriving_by, come_to, is_new, receiving}
use Rattle.node_model.proofs.Plans.{gives_follows}

-- what follows on a request that is this
abbrev follows_on : Cluster → ℕ → UpNode → Arrived → UpNode → Arrival → Plan
follows_on c me x a y New = handling c me y
follows_on c me x a y Waits = Stays y
follows_on c me x a y Answered = answer_again_by y a.from y.presidency
follows_on c me x a y Past = Stays y

-- a president that has this in hand has it still where nothing comes
same_so : (x : UpNode) (p : Presidency) → x.presidency ≡ Some p → with_proposals x p p.proposals ≡ x
same_so x p is = ap (λ found. record x { presidency = found }) (sym is)

arrived_is : (c : Cluster) (me : ℕ) (x : UpNode) (p : Presidency) (a : Arrived) (arrival : Arrival) → x.presidency ≡ Some p
    → arrived_as c me x p a arrival ≡ follows_on c me x a (with_proposals x p (with_arrival p.proposals a arrival)) arrival
arrived_is c me x p a New is = refl
arrived_is c me x p a Waits is = ap (λ (z : UpNode). Stays z) (sym (same_so x p is))
arrived_is c me x p a Answered is = ap (λ (z : UpNode). kept_again z a.from (kept_at p.proposals.answers a.from)) (sym (same_so x p is))
arrived_is c me x p a Past is = ap (λ (z : UpNode). Stays z) (sym (same_so x p is))

arriving_is : (c : Cluster) (me : ℕ) (x : UpNode) (a : Arrived) (found : Option Presidency) → x.presidency ≡ found
    → arriving_by c me x a found ≡ follows_on c me x a (come_to x a found) (arrival_by a found)
arriving_is c me x a None is = refl
arriving_is c me x a (Some p) is = arrived_is c me x p a (arrival_of p.proposals a.from a.number) is

comes_so : {K : Type 0} → (saving : K → NodeRecord → Saving K) (c : Cluster) (me : ℕ) (x y : UpNode) (a : Arrived) (given after : List Output) (disk left : K) (result : Result UpNode Stop)
    → y ≡ come_to x a x.presidency → Follows saving (follows_on c me x a y (arrival_by a x.presidency)) given disk result after left
    → Follows saving (arriving_by c me x a x.presidency) given disk result after left
comes_so saving c me x y a given after disk left result now h =
    subst (λ (plan : Plan). Follows saving plan given disk result after left) (sym (arriving_is c me x a x.presidency refl))
    (subst (λ (z : UpNode). Follows saving (follows_on c me x a z (arrival_by a x.presidency)) given disk result after left) now h)

-- What it is to the president is this.

pub new_received : (x y : UpNode) (a : Arrived) (arrival : Arrival) (given : List Output)
    → arrival ≡ arrival_by a x.presidency → arrival ≡ New → Gives (receiving a y (arrival_by a x.presidency)) given (Ok y) given
new_received x y a arrival given at is = subst (λ (k : Arrival). Gives (receiving a y k) given (Ok y) given) (sym is ∙ at) (refl, refl)

pub waiting_received : (x y : UpNode) (a : Arrived) (arrival : Arrival) (given : List Output)
    → arrival ≡ arrival_by a x.presidency → arrival ≡ Waits → Gives (receiving a y (arrival_by a x.presidency)) given (Ok y) given
waiting_received x y a arrival given at is = subst (λ (k : Arrival). Gives (receiving a y k) given (Ok y) given) (sym is ∙ at) (refl, refl)

pub past_received : (x y : UpNode) (a : Arrived) (arrival : Arrival) (given : List Output)
    → arrival ≡ arrival_by a x.presidency → arrival ≡ Past → Gives (receiving a y (arrival_by a x.presidency)) given (Ok y) given
past_received x y a arrival given at is = subst (λ (k : Arrival). Gives (receiving a y k) given (Ok y) given) (sym is ∙ at) (refl, refl)

pub again_received : (x y : UpNode) (a : Arrived) (arrival : Arrival) (given after : List Output)
    → arrival ≡ arrival_by a x.presidency → arrival ≡ Answered → Gives (answer_again_by y a.from y.presidency) given (Ok y) after
    → Gives (receiving a y (arrival_by a x.presidency)) given (Ok y) after
again_received x y a arrival given after at is h = subst (λ (k : Arrival). Gives (receiving a y k) given (Ok y) after) (sym is ∙ at) h

-- What follows where it is new, and where it is not.

handled_so : {K : Type 0} → (saving : K → NodeRecord → Saving K) (c : Cluster) (me : ℕ) (x y : UpNode) (a : Arrived) (arrival : Arrival) (given mid after : List Output) (disk left : K) (result : Result UpNode Stop)
    → is_new arrival ≡ true → Gives (receiving a y arrival) given (Ok y) mid → Follows saving (handling c me y) mid disk result after left
    → Follows saving (follows_on c me x a y arrival) given disk result after left
handled_so saving c me x y a New given mid after disk left result new h handled = subst (λ (g : List Output). Follows saving (handling c me y) g disk result after left) h.1 handled
handled_so saving c me x y a Waits given mid after disk left result new h handled = absurd (true≢false (sym new))
handled_so saving c me x y a Answered given mid after disk left result new h handled = absurd (true≢false (sym new))
handled_so saving c me x y a Past given mid after disk left result new h handled = absurd (true≢false (sym new))

pub handled_then : {K : Type 0} → (saving : K → NodeRecord → Saving K) (c : Cluster) (me : ℕ) (x y : UpNode) (a : Arrived) (new : Bool) (given mid after : List Output) (disk left : K) (result : Result UpNode Stop)
    → new ≡ is_new (arrival_by a x.presidency) → new ≡ true → Gives (receiving a y (arrival_by a x.presidency)) given (Ok y) mid → y ≡ come_to x a x.presidency
    → Follows saving (handling c me y) mid disk result after left → Follows saving (arriving_by c me x a x.presidency) given disk result after left
handled_then saving c me x y a new given mid after disk left result is so h now handled =
    comes_so saving c me x y a given after disk left result now
    (handled_so saving c me x y a (arrival_by a x.presidency) given mid after disk left result (sym is ∙ so) h handled)

nothing_so : (c : Cluster) (me : ℕ) (x y : UpNode) (a : Arrived) (arrival : Arrival) (given after : List Output)
    → is_new arrival ≡ false → Gives (receiving a y arrival) given (Ok y) after → Gives (follows_on c me x a y arrival) given (Ok y) after
nothing_so c me x y a New given after old h = absurd (true≢false old)
nothing_so c me x y a Waits given after old h = h
nothing_so c me x y a Answered given after old h = h
nothing_so c me x y a Past given after old h = h

pub nothing_follows : {K : Type 0} → (saving : K → NodeRecord → Saving K) (c : Cluster) (me : ℕ) (x y : UpNode) (a : Arrived) (new : Bool) (given after : List Output) (disk : K)
    → new ≡ is_new (arrival_by a x.presidency) → new ≡ false → Gives (receiving a y (arrival_by a x.presidency)) given (Ok y) after → y ≡ come_to x a x.presidency
    → Follows saving (arriving_by c me x a x.presidency) given disk (Ok y) after disk
nothing_follows saving c me x y a new given after disk is so h now =
    comes_so saving c me x y a given after disk disk (Ok y) now
    (gives_follows saving (follows_on c me x a y (arrival_by a x.presidency)) given after (Ok y) disk (nothing_so c me x y a (arrival_by a x.presidency) given after (sym is ∙ so) h))

-- where memory runs out the plan asks nothing
pub no_memory : {K : Type 0} → (saving : K → NodeRecord → Saving K) (plan : Plan) (given after : List Output) (disk left : K) (result : Result UpNode Stop)
    → IsErrAnd result (λ stop. stop ≡ NoMemory) → Follows saving plan given disk result after left
no_memory saving plan given after disk left (Ok x) h = absurd h
no_memory saving plan given after disk left (Err stop) h = subst (λ (s : Stop). Follows saving plan given disk (Err s) after left) (sym h) tt

-- A member asks.

first_of_three : (a b c : Bool) → (a && b && c) ≡ true → a ≡ true
first_of_three true b c h = refl
first_of_three false b c h = h

pub member_asks : (x : UpNode) (from e : ℕ) (of : Bool) → of ≡ is_of_member x from e → of ≡ true → is_member x.seat ≡ true
member_asks x from e of is so = first_of_three (is_member x.seat) (is_in x e) (has (record_of x).members from) (sym is ∙ so)

requested_is : (c : Cluster) (me : ℕ) (x : UpNode) (from number : ℕ) (text : List ℕ) (found : Option Presidency)
    → arriving_by c me x (record { from = from; number = number; text = text }) found ≡ requested c me x from number text found
requested_is c me x from number text None = refl
requested_is c me x from number text (Some p) = refl

pub asked_then : {K : Type 0} → (saving : K → NodeRecord → Saving K) (c : Cluster) (me : ℕ) (x : UpNode) (from e number : ℕ) (text copy : List ℕ) (of : Bool) (given after : List Output) (disk left : K) (result : Result UpNode Stop)
    → of ≡ is_of_member x from e → of ≡ true → copy ≡ text
    → Follows saving (arriving_by c me x (record { from = from; number = number; text = copy }) x.presidency) given disk result after left
    → Follows saving (on_asked c me x from e number text) given disk result after left
asked_then saving c me x from e number text copy of given after disk left result is so same h =
    let here : Follows saving (requested c me x from number text x.presidency) given disk result after left
    = subst (λ (plan : Plan). Follows saving plan given disk result after left) (ap (λ (t : List ℕ). arriving_by c me x (record { from = from; number = number; text = t }) x.presidency) same ∙ requested_is c me x from number text x.presidency) h in
    subst (λ (b : Bool). Follows saving (if b then requested c me x from number text x.presidency else Stays x) given disk result after left) (sym (sym is ∙ so)) here

pub nobody_asks : {K : Type 0} → (saving : K → NodeRecord → Saving K) (c : Cluster) (me : ℕ) (x : UpNode) (from e number : ℕ) (text : List ℕ) (of : Bool) (given : List Output) (disk : K)
    → of ≡ is_of_member x from e → of ≡ false → Follows saving (on_asked c me x from e number text) given disk (Ok x) given disk
nobody_asks saving c me x from e number text of given disk is so =
    subst (λ (b : Bool). Follows saving (if b then requested c me x from number text x.presidency else Stays x) given disk (Ok x) given disk) (sym (sym is ∙ so)) (refl, refl, refl)
