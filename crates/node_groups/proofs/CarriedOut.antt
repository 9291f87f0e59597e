-- An order is carried out, and what follows that.
use Rattle.std.proofs.Common.{◌≡◌, ℕ, Bool, true, false, if◌then◌else◌, List, ◌++◌, Option, None, Some, Result, Ok, Err, refl, ap, subst, sym, ◌∙◌, true≢false}
use Rattle.std.specs.Prelude.{◌&&◌}
use Rattle.std.proofs.lemmas.List.{append-nil}
use Rattle.std.proofs.lemmas.Option.{none-some}
use Rattle.cl_base.specs.declared.method.Method.{Method}
use Rattle.cl_base.specs.declared.method.Outcome.{Outcome}
use Rattle.cl_base.specs.declared.panic.Panic.TheVariants as panic
use Rattle.cmm_member.specs.Records.{NodeRecord}
use Rattle.record_disk.specs.Savings.{Saving}
use Rattle.rgm_member.specs.Orders.{answer_to, outcome_in}
use Rattle.rgm_member.specs.declared.carried.Carried.{Carried}
use Rattle.rgm_member.specs.declared.carried.Carried.TheVariants.{Called, Cleared, Kept, Old}
use Rattle.status_report.specs.declared.node_entry.DownCause.{DownCause}
use Rattle.status_report.specs.declared.node_entry.DownCause.TheVariants as down
use Rattle.wire.specs.declared.message.Order.{Order}
use Rattle.node_model.specs.declared.cluster.Cluster.{Cluster}
use Rattle.node_model.specs.declared.node.UpNode.{UpNode}
use Rattle.node_model.specs.declared.output.Output.{Output}
use Rattle.node_model.specs.declared.stop.Stop.{Stop}
use Rattle.node_model.specs.declared.stop.Stop.TheVariants.{Down, NoMemory}
use Rattle.node_model.specs.Configurations.{own_config}
use Rattle.node_model.specs.Groups.{carrying, carrying_own, done_at, is_fatal_to, is_last, obeying, on_order, order_answered, order_told, own_done, own_order, own_order_of, own_turn, worked}
use Rattle.node_model.specs.Plans.{Follows, Gives}
use Rattle.node_model.specs.Plans.Plan.{Stays, Falls}
use Rattle.node_model.specs.Seats.{is_in, is_member}
use Rattle.node_model.proofs.Plans.{done_then, gives_follows, stopped_then}
use Rattle.node_groups.specs.Carrying.{Carries, carried_so, is_fatal_under, is_last_so, is_last_under, worked_so}
use Rattle.node_groups.specs.Ending.{ending}
use Rattle.node_groups.specs.Obeying.{carries_own, end_told, obeys}
use Rattle.node_groups.proofs.Plans.{gives_stopped, gives_then, none_given}

fatal_is : (c : Cluster) (x : UpNode) (o : Order) (outcome : Outcome) (method : Option Method) → is_fatal_under (own_config c x) o outcome method ≡ is_fatal_to c x o outcome method
fatal_is c x o outcome None = refl
fatal_is c x o outcome (Some m) = refl

last_is : (c : Cluster) (x : UpNode) (o : Order) (carried : Carried) → is_last_under (own_config c x) o carried ≡ is_last c x o carried
last_is c x o (Called outcome) = fatal_is c x o outcome o.method
last_is c x o Cleared = refl
last_is c x o (Kept outcome) = refl
last_is c x o Old = refl

same_last : (c : Cluster) (x : UpNode) (o : Order) (carried : Carried) (last : Bool) → last ≡ is_last_so c x o carried → is_last c x o carried ≡ last
unfolding is_last_so
same_last c x o carried last is = sym (is ∙ last_is c x o carried)

stays_if : (b : Bool) (why : DownCause) (y up : UpNode) (given mid : List Output) → b ≡ false → up ≡ y → mid ≡ given → Gives (if b then Falls why else Stays y) given (Ok up) mid
stays_if true why y up given mid fails same told = absurd (true≢false fails)
stays_if false why y up given mid fails same told = (same, told)

falls_if : (b : Bool) (why cause : DownCause) (y : UpNode) (given mid : List Output) → b ≡ true → why ≡ cause → mid ≡ given → Gives (if b then Falls cause else Stays y) given (Err (Down why)) mid
falls_if true why cause y given mid so same told = (same, told)
falls_if false why cause y given mid so same told = absurd (true≢false (sym so))

-- the node survives it
pub carries_on : (c : Cluster) (me : ℕ) (x up : UpNode) (o : Order) (outcome : Outcome) (carried : Carried) (last : Bool) (given mid : List Output)
    → carried ≡ carried_so x o outcome → last ≡ is_last_so c x o carried → last ≡ false → up ≡ worked_so c x o carried → mid ≡ given ++ order_told me o carried
    → Carries c me x o outcome (Ok carried) up given mid
unfolding Carries carried_so worked_so
carries_on c me x up o outcome carried last given mid is judged fails same told =
    (is, stays_if (is_last c x o carried) (down.Panic (panic.Stop o.resource)) (worked c x o carried) up (given ++ order_told me o carried) mid (same_last c x o carried last judged ∙ fails) same told)

-- or it does not
pub carries_last : (c : Cluster) (me : ℕ) (x up : UpNode) (o : Order) (outcome : Outcome) (carried : Carried) (last : Bool) (resource : List ℕ) (given mid : List Output)
    → carried ≡ carried_so x o outcome → last ≡ is_last_so c x o carried → last ≡ true → resource ≡ o.resource → mid ≡ given ++ order_told me o carried
    → Carries c me x o outcome (Err (Down (down.Panic (panic.Stop resource)))) up given mid
unfolding Carries carried_so
carries_last c me x up o outcome carried last resource given mid is judged holds same told =
    subst (λ k. Gives (carrying c me x o k) given (Err (Down (down.Panic (panic.Stop resource)))) mid) is
    (falls_if (is_last c x o carried) (down.Panic (panic.Stop resource)) (down.Panic (panic.Stop o.resource)) (worked c x o carried) (given ++ order_told me o carried) mid
    (same_last c x o carried last judged ∙ holds) (ap (λ r. down.Panic (panic.Stop r)) same) told)

-- memory runs out
pub carries_none : (c : Cluster) (me : ℕ) (x up : UpNode) (o : Order) (outcome : Outcome) (stop : Stop) (given mid : List Output) → stop ≡ NoMemory → Carries c me x o outcome (Err stop) up given mid
unfolding Carries
carries_none c me x up o outcome stop given mid none = subst (λ s. Carries c me x o outcome (Err s) up given mid) (sym none) tt

-- An order of the node's membership is carried out, and answered.

answered : (from : ℕ) (o : Order) (carried : Carried) (up : UpNode) (mid after : List Output) → after ≡ mid ++ end_told from o carried → Gives (order_answered from o carried up) mid (Ok up) after
answered from o (Called outcome) up mid after told = (refl, told)
answered from o Cleared up mid after told = (refl, told)
answered from o (Kept outcome) up mid after told = (refl, told)
answered from o Old up mid after told = (refl, told ∙ append-nil mid)

pub obeys_on : (c : Cluster) (me from : ℕ) (x up : UpNode) (o : Order) (outcome : Outcome) (carried : Carried) (given mid after : List Output)
    → Carries c me x o outcome (Ok carried) up given mid → after ≡ mid ++ end_told from o carried → Gives (obeys c me x from o outcome) given (Ok up) after
unfolding Carries obeys
obeys_on c me from x up o outcome carried given mid after h told =
    subst (λ k. Gives (obeying c me x from o k) given (Ok up) after) h.0
    (gives_then (carrying c me x o carried) (order_answered from o carried) given mid after up (Ok up) h.1 (answered from o carried up mid after told))

pub obeys_stopped : (c : Cluster) (me from : ℕ) (x up : UpNode) (o : Order) (outcome : Outcome) (stop : Stop) (given after : List Output)
    → Carries c me x o outcome (Err stop) up given after → Gives (obeys c me x from o outcome) given (Err stop) after
unfolding Carries obeys
obeys_stopped c me from x up o outcome (Down why) given after h =
    gives_stopped (carrying c me x o (answer_to x.worker o outcome)) (order_answered from o (answer_to x.worker o outcome)) given after (Down why) h
obeys_stopped c me from x up o outcome NoMemory given after h = none_given (obeying c me x from o (answer_to x.worker o outcome)) given after

pub obeys_none : (c : Cluster) (me from : ℕ) (x : UpNode) (o : Order) (outcome : Outcome) (given after : List Output) → Gives (obeys c me x from o outcome) given (Err NoMemory) after
obeys_none c me from x o outcome given after = none_given (obeys c me x from o outcome) given after

pub order_taken : (mine : Bool) (c : Cluster) (me from : ℕ) (x : UpNode) (o : Order) (outcome : Outcome) (left result : Result UpNode Stop) (given after : List Output)
    → mine ≡ (is_member x.seat && is_in x o.epoch) → mine ≡ true → result ≡ left → Gives (obeys c me x from o outcome) given left after
    → Gives (on_order c me outcome x from o) given result after
unfolding obeys
order_taken mine c me from x o outcome left result given after is holds same h =
    subst (λ b. Gives (if b then obeying c me x from o (answer_to x.worker o outcome) else Stays x) given result after) (sym holds ∙ is)
    (subst (λ r. Gives (obeying c me x from o (answer_to x.worker o outcome)) given r after) (sym same) h)

-- One of another is passed over.
pub order_passed : (mine : Bool) (c : Cluster) (me from : ℕ) (x : UpNode) (o : Order) (outcome : Outcome) (given : List Output)
    → mine ≡ (is_member x.seat && is_in x o.epoch) → mine ≡ false → Gives (on_order c me outcome x from o) given (Ok x) given
order_passed mine c me from x o outcome given is fails =
    subst (λ b. Gives (if b then obeying c me x from o (answer_to x.worker o outcome) else Stays x) given (Ok x) given) (sym fails ∙ is) (refl, refl)

-- The president carries out its own order.

-- it is a member then
pub own_of_member : (me : ℕ) (x : UpNode) (o : Order) (found : Option Order) → found ≡ own_order me x → found ≡ Some o → is_member x.seat ≡ true
own_of_member me x o found is some = by (is_member x.seat) (sym is ∙ some)
  where
    by : (b : Bool) → (if b then own_order_of me x.presidency else None) ≡ Some o → b ≡ true
    by true e = refl
    by false e = absurd (none-some o e)

pub own_carried : {K : Type 0} → (saving : K → NodeRecord → Saving K) (c : Cluster) (me : ℕ) (x up : UpNode) (o : Order) (outcome ended : Outcome) (carried : Carried) (result : Result UpNode Stop) (given mid after : List Output) (disk left : K)
    → Carries c me x o outcome (Ok carried) up given mid → ended ≡ outcome_in carried → Follows saving (ending c me up me o.number ended) mid disk result after left
    → Follows saving (carries_own c me x o outcome) given disk result after left
unfolding Carries carries_own ending
own_carried saving c me x up o outcome ended carried result given mid after disk left h same done =
    subst (λ k. Follows saving (carrying_own c me x o k) given disk result after left) h.0
    (done_then saving (carrying c me x o carried) (own_done c me o carried) given mid after disk disk left up result
    (gives_follows saving (carrying c me x o carried) given mid (Ok up) disk h.1)
    (subst (λ e. Follows saving (done_at c me up me o.number e up.presidency) mid disk result after left) same done))

pub own_stopped : {K : Type 0} → (saving : K → NodeRecord → Saving K) (c : Cluster) (me : ℕ) (x up : UpNode) (o : Order) (outcome : Outcome) (stop : Stop) (result : Result UpNode Stop) (given after : List Output) (disk : K)
    → Carries c me x o outcome (Err stop) up given after → result ≡ Err stop → Follows saving (carries_own c me x o outcome) given disk result after disk
unfolding Carries carries_own
own_stopped saving c me x up o outcome (Down why) result given after disk h same =
    let k : Carried = answer_to x.worker o outcome in
    subst (λ r. Follows saving (carrying_own c me x o k) given disk r after disk) (sym same)
    (stopped_then saving (carrying c me x o k) (own_done c me o k) given after disk disk (Down why) (gives_follows saving (carrying c me x o k) given after (Err (Down why)) disk h))
own_stopped saving c me x up o outcome NoMemory result given after disk h same =
    subst (λ r. Follows saving (carrying_own c me x o (answer_to x.worker o outcome)) given disk r after disk) (sym same) tt

pub own_taken : {K : Type 0} → (saving : K → NodeRecord → Saving K) (c : Cluster) (me : ℕ) (x : UpNode) (o : Order) (found : Option Order) (outcome : Outcome) (result : Result UpNode Stop) (given after : List Output) (disk left : K)
    → found ≡ own_order me x → found ≡ Some o → Follows saving (carries_own c me x o outcome) given disk result after left
    → Follows saving (own_turn c me outcome x (own_order me x)) given disk result after left
unfolding carries_own
own_taken saving c me x o found outcome result given after disk left is some h =
    subst (λ f. Follows saving (own_turn c me outcome x f) given disk result after left) (sym some ∙ is) h

-- it has none
pub own_lacking : {K : Type 0} → (saving : K → NodeRecord → Saving K) (c : Cluster) (me : ℕ) (x : UpNode) (found : Option Order) (outcome : Outcome) (given : List Output) (disk : K)
    → found ≡ own_order me x → found ≡ None → Follows saving (own_turn c me outcome x (own_order me x)) given disk (Ok x) given disk
own_lacking saving c me x found outcome given disk is none =
    subst (λ f. Follows saving (own_turn c me outcome x f) given disk (Ok x) given disk) (sym none ∙ is) (refl, refl, refl)
