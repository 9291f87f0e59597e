-- A monitor's report, and what follows it.
use Rattle.std.proofs.Common.{◌≡◌, ℕ, Bool, true, false, if◌then◌else◌, List, [], ◌∷◌, ◌++◌, Option, None, Some, Result, Ok, Err, refl, ap, subst, sym, ◌∙◌}
use Rattle.std.specs.Prelude.{IsErrAnd}
use Rattle.cl_base.specs.declared.command.Ask.{Ask}
use Rattle.cmm_member.specs.Records.{NodeRecord}
use Rattle.record_disk.specs.Savings.{Saving}
use Rattle.rgm_member.specs.declared.probed.Probed.{Probed}
use Rattle.rgm_member.specs.declared.probed.Probed.TheVariants as probe
use Rattle.node_model.specs.declared.cluster.Cluster.{Cluster}
use Rattle.node_model.specs.declared.node.UpNode.{UpNode}
use Rattle.node_model.specs.declared.output.Output.{Output}
use Rattle.node_model.specs.declared.stop.Stop.{Stop}
use Rattle.node_model.specs.declared.stop.Stop.TheVariants.{NoMemory}
use Rattle.node_model.specs.Groups.{monitor_asked, on_report, reported, reporting}
use Rattle.node_model.specs.Plans.{Plan, Follows}
use Rattle.node_model.specs.Plans.Plan.{Stays}
use Rattle.node_model.specs.Requests.{asking_if, is_idle}
use Rattle.node_model.proofs.Plans.{follows_says}
use Rattle.node_groups.specs.Reporting.{ask_after, asked_so, asks_for, asks_this, goes_on, may_ask, probed_so, reported_so, told_after}

-- Memory runs out.

pub ends_there : {K : Type 0} → (saving : K → NodeRecord → Saving K) (plan : Plan) (result : Result UpNode Stop) (given after : List Output) (disk left : K)
    → IsErrAnd result (λ stop. stop ≡ NoMemory) → Follows saving plan given disk result after left
ends_there saving plan (Ok x) given after disk left h = absurd h
ends_there saving plan (Err stop) given after disk left h = subst (λ s. Follows saving plan given disk (Err s) after left) (sym h) tt

-- Nobody is asked.

pub asks_nobody : {K : Type 0} → (saving : K → NodeRecord → Saving K) (c : Cluster) (me : ℕ) (x : UpNode) (ask : Option Ask) (given : List Output) (disk : K)
    → ask ≡ None → Follows saving (asks_for c me x ask) given disk (Ok x) given disk
unfolding asks_for
asks_nobody saving c me x ask given disk is = subst (λ a. Follows saving (asks_for c me x a) given disk (Ok x) given disk) (sym is) (refl, refl, refl)

stays_if : {K : Type 0} → (saving : K → NodeRecord → Saving K) (b : Bool) (p : Plan) (x : UpNode) (given : List Output) (disk : K)
    → b ≡ false → Follows saving (if b then p else Stays x) given disk (Ok x) given disk
stays_if saving b p x given disk cannot = subst (λ t. Follows saving (if t then p else Stays x) given disk (Ok x) given disk) (sym cannot) (refl, refl, refl)

pub may_not_ask : {K : Type 0} → (saving : K → NodeRecord → Saving K) (may : Bool) (c : Cluster) (me : ℕ) (x : UpNode) (found : Option Ask) (ask : Ask) (given : List Output) (disk : K)
    → found ≡ Some ask → may ≡ may_ask x → may ≡ false → Follows saving (asks_for c me x found) given disk (Ok x) given disk
unfolding asks_for
may_not_ask saving may c me x found ask given disk some is cannot =
    subst (λ a. Follows saving (asks_for c me x a) given disk (Ok x) given disk) (sym some)
    (stays_if saving (may_ask x) (asking_if (is_idle x.requests.waiting) c me (monitor_asked x ask)) x given disk (sym is ∙ cannot))

-- It is asked.

goes_if : {K : Type 0} → (saving : K → NodeRecord → Saving K) (b : Bool) (p : Plan) (x : UpNode) (result : Result UpNode Stop) (given after : List Output) (disk left : K)
    → b ≡ true → Follows saving p given disk result after left → Follows saving (if b then p else Stays x) given disk result after left
goes_if saving b p x result given after disk left can h = subst (λ t. Follows saving (if t then p else Stays x) given disk result after left) (sym can) h

pub asks_it : {K : Type 0} → (saving : K → NodeRecord → Saving K) (may : Bool) (c : Cluster) (me : ℕ) (x : UpNode) (found : Option Ask) (ask : Ask) (result : Result UpNode Stop) (given after : List Output) (disk left : K)
    → found ≡ Some ask → may ≡ may_ask x → may ≡ true → Follows saving (asks_this c me x ask) given disk result after left
    → Follows saving (asks_for c me x found) given disk result after left
unfolding asks_for asks_this
asks_it saving may c me x found ask result given after disk left some is can h =
    subst (λ a. Follows saving (asks_for c me x a) given disk result after left) (sym some)
    (goes_if saving (may_ask x) (asking_if (is_idle x.requests.waiting) c me (monitor_asked x ask)) x result given after disk left (sym is ∙ can) h)

pub asked_it : {K : Type 0} → (saving : K → NodeRecord → Saving K) (alone : Bool) (c : Cluster) (me : ℕ) (x y : UpNode) (ask : Ask) (result : Result UpNode Stop) (given after : List Output) (disk left : K)
    → alone ≡ is_idle x.requests.waiting → y ≡ asked_so x ask → Follows saving (goes_on alone c me y) given disk result after left
    → Follows saving (asks_this c me x ask) given disk result after left
unfolding asked_so goes_on asks_this
asked_it saving alone c me x y ask result given after disk left is same h =
    subst (λ a. Follows saving (goes_on a c me (monitor_asked x ask)) given disk result after left) is
    (subst (λ z. Follows saving (goes_on alone c me z) given disk result after left) same h)

-- The report is kept and told, and what it leads to is asked.

at_end : (os : List Output) → os ++ [] ≡ os
at_end [] = refl
at_end (o ∷ os) = ap (λ rest. o ∷ rest) (at_end os)

-- a resource without a monitor changes nothing
unchanged : (x : UpNode) (c : Cluster) (r : List ℕ) → reported_so x c r probe.NoMonitor ≡ x
unfolding reported_so
unchanged x c r = refl

taken_as : {K : Type 0} → (saving : K → NodeRecord → Saving K) (p : Probed) (c : Cluster) (me : ℕ) (x : UpNode) (r : List ℕ) (result : Result UpNode Stop) (given after : List Output) (disk left : K)
    → Follows saving (asks_for c me (reported_so x c r p) (ask_after p r)) (given ++ told_after me r p) disk result after left
    → Follows saving (reporting c me x r p) given disk result after left
unfolding asks_for reported_so
taken_as saving probe.NoMonitor c me x r result given after disk left h =
    subst (λ g. Follows saving (Stays x) g disk result after left) (at_end given) h
taken_as saving probe.Good c me x r result given after disk left h =
    follows_says saving (told_after me r probe.Good) (Stays (reported x c r probe.Good)) given after disk left result h
taken_as saving (probe.Failed a) c me x r result given after disk left h =
    follows_says saving (told_after me r (probe.Failed a)) (asks_for c me (reported x c r (probe.Failed a)) (ask_after (probe.Failed a) r)) given after disk left result h

pub taken : {K : Type 0} → (saving : K → NodeRecord → Saving K) (c : Cluster) (me : ℕ) (x y : UpNode) (r : List ℕ) (good : Bool) (p : Probed) (ask : Option Ask) (result : Result UpNode Stop) (given mid after : List Output) (disk left : K)
    → p ≡ probed_so c x r good → y ≡ reported_so x c r p → mid ≡ given ++ told_after me r p → ask ≡ ask_after p r
    → Follows saving (asks_for c me y ask) mid disk result after left → Follows saving (on_report c me x r good) given disk result after left
unfolding probed_so
taken saving c me x y r good p ask result given mid after disk left is same told asks h =
    subst (λ q. Follows saving (reporting c me x r q) given disk result after left) is
    (taken_as saving p c me x r result given after disk left
    (subst (λ a. Follows saving (asks_for c me (reported_so x c r p) a) (given ++ told_after me r p) disk result after left) asks
    (subst (λ g. Follows saving (asks_for c me (reported_so x c r p) ask) g disk result after left) told
    (subst (λ z. Follows saving (asks_for c me z ask) mid disk result after left) same h))))
