-- While an attempt installs, the machine counted it with the devices that it holds.
use Rattle.std.specs.Prelude.{ℕ, ◌≡◌, true, All, List, [], ◌∷◌, Option, None, Some, length}
use Rattle.std.proofs.Common.{sym, ap, subst, ◌∙◌}
use Rattle.std.specs.List.{AllByRecursion}
use Rattle.attempt_laws.specs.Laws.{is_held_in}
use Rattle.attempt_laws.specs.Machine.{MachineHas, is_member}
use Rattle.attempt_laws.proofs.MachineLemmas.{starts_follow}
use Rattle.attempt_laws.proofs.Numbered.{IsNumbered, numbered_reached}
use Rattle.attempt_laws.proofs.Stays.{plan_stays}
use Rattle.cl_base.specs.Sets.{has}
use Rattle.cmm_attempt.specs.declared.phase.Phase.TheVariants.{Installing}
use Rattle.cmm_attempt.specs.declared.plan.Plan.{Plan}
use Rattle.cmm_attempt.specs.Attempts.{AttemptState}
use Rattle.cmm_attempt.specs.Calls.{Call, IsReached, May, starts_in, turn}
use Rattle.cmm_attempt.specs.Seizings.{held_set}
use Rattle.cmm_attempt.proofs.Basics.{if_either, none_some}
use Rattle.cmm_member.specs.Records.{NodeRecord}
use Rattle.device_queue.specs.Queue.{after_seize}
use Rattle.history.specs.Deeds.{Acked, Deed, Proposed, Started}
use Rattle.history.specs.Starts.{Start}
use Rattle.machine_base.proofs.Puts.{put_here}
use Rattle.membership_machine.specs.Events as machine
use Rattle.membership_machine.specs.Events.{Event, Run, after}
use Rattle.membership_machine.specs.Growth.{EpochGrows, Grows}
use Rattle.membership_machine.specs.State.{Memberships}
use Rattle.membership_machine.specs.Steps.{counting, starting}
use Rattle.node_model.specs.Attempts.{own_promise}
use Rattle.node_model.specs.declared.cluster.Cluster.{Cluster}
use Rattle.node_model.specs.declared.node.Node.{Node}
use Rattle.node_model.specs.declared.node.Node.TheVariants.{Down, Up}
use Rattle.node_model.specs.declared.node.UpNode.{UpNode}
use Rattle.node_model.specs.declared.seat.Seat.{Seat}
use Rattle.node_model.specs.declared.seat.Seat.TheVariants.{Forming, Member}
use Rattle.node_model.specs.Members.{rested_by}
use Rattle.node_model.specs.Seats.{promising, record_of}
use Rattle.refinement.specs.Doings.{Act, Change, Doing, acted, changed, effect, site}
use Rattle.refinement.specs.Doings.Act.{Accepts, Dates, Ends, Gives, Goes_on, Hears, Makes, Minds, Notes, Queues, Spreads, Stores, Takes, Ticks, Waits, Works, Writes}
use Rattle.refinement.specs.Doings.Change.{Acks, Admits, Commits, Counts, Distrusts, Installs, Leads, Prepares, Promises, Proposes, Sits, Starts}
use Rattle.refinement.specs.Doings.Doing.{Comes_up, Does, Forgets, Goes_down, Loses, Saves}
use Rattle.refinement.specs.Events.{of_act, of_change, of_doing}
use Rattle.refinement.specs.Guards.{May as May_do, MayAct, MayChange}
use Rattle.refinement.specs.Ties.{Delivered, NodeTied, SeatTied, setting_of}
use Rattle.refinement.proofs.Attempts.{may_be_called}
use Rattle.refinement.proofs.Changes.{first_not_installing}
use Rattle.run_history.specs.Marks.{base_of, deed_in, deed_of, first_deed}
use Rattle.run_history.specs.Starts.{StartTold}
use Rattle.run_history.proofs.Held.{devices_stay, held_has, installing_before}
use Rattle.seize.specs.Seizing as seizing

-- the machine counted it with these devices
pub record Counted (M : Memberships) (a : AttemptState) : Type 0 where
  pub counted : (M.epoch a.plan.epoch).counted ≡ true
  pub holds : (d : ℕ) → (M.epoch a.plan.epoch).holds d ≡ is_held_in a.devices d

abbrev pub AttemptHolds : Memberships → Option AttemptState → Type 0
AttemptHolds M None = Unit {0}
AttemptHolds M (Some a) = a.phase ≡ Installing → Counted M a

abbrev pub NodeHolds : Memberships → Node → Type 0
NodeHolds M Down = Unit {0}
NodeHolds M (Up x) = AttemptHolds M x.attempt

counted_stays : (M N : Memberships) (a : AttemptState) → Grows M N → Counted M a → Counted N a
counted_stays M N a g h =
    let e : EpochGrows (M.epoch a.plan.epoch) (N.epoch a.plan.epoch) = g.epoch a.plan.epoch in
    record { counted = e.counted h.counted; holds = λ d. e.holds h.counted d ∙ h.holds d }

attempt_stays : (M N : Memberships) (o : Option AttemptState) → Grows M N → AttemptHolds M o → AttemptHolds N o
attempt_stays M N None g h = tt
attempt_stays M N (Some a) g h = λ is. counted_stays M N a g (h is)

pub node_holds_stay : (M N : Memberships) (node : Node) → Grows M N → NodeHolds M node → NodeHolds N node
node_holds_stay M N Down g h = tt
node_holds_stay M N (Up x) g h = attempt_stays M N x.attempt g h

-- What is told of starts stays.

pub told_stays : (M N : Memberships) (s : Start) → Grows M N → StartTold M s → StartTold N s
told_stays M N s g h =
    let e : EpochGrows (M.epoch s.epoch) (N.epoch s.epoch) = g.epoch s.epoch in
    record {
      tried = e.tried h.tried;
      counted = e.counted h.counted;
      started = e.started h.started;
      members = λ k. e.members h.tried k ∙ h.members k;
      held = λ d. e.holds h.counted d ∙ h.held d;
    }

abbrev pub DeedTold : Memberships → Deed → Type 0
DeedTold M (Started s updates) = StartTold M s
DeedTold M (Proposed u) = Unit {0}
DeedTold M (Acked u) = Unit {0}

deed_stays : (M N : Memberships) (d : Deed) → Grows M N → DeedTold M d → DeedTold N d
deed_stays M N (Started s updates) g h = told_stays M N s g h
deed_stays M N (Proposed u) g h = tt
deed_stays M N (Acked u) g h = tt

pub deeds_stay : (M N : Memberships) (ds : List Deed) → Grows M N → AllByRecursion (DeedTold M) ds → AllByRecursion (DeedTold N) ds
deeds_stay M N [] g h = tt
deeds_stay M N (d ∷ ds) g h = (deed_stays M N d g h.0, deeds_stay M N ds g h.1)

-- An attempt of a node, by the tie.

pub record Own (M : Memberships) (a : AttemptState) : Type 0 where
  pub has : MachineHas M a
  pub reached : IsReached a

own_by : (c : Cluster) (M : Memberships) (n : ℕ) (disk : NodeRecord) (a : AttemptState) (seat : Seat) → SeatTied c M n disk (Some a) seat → Own M a
own_by c M n disk a (Forming s) h = record { has = h.2.has; reached = h.2.reached }
own_by c M n disk a (Member s) h = absurd (none_some a (sym h.2))

own_of : (c : Cluster) (M : Memberships) (n : ℕ) (disk : NodeRecord) (x : UpNode) (a : AttemptState) → NodeTied c M n disk (Up x) → x.attempt ≡ Some a → Own M a
own_of c M n disk x a tied is = own_by c M n disk a x.seat (subst (λ o. SeatTied c M n disk o x.seat) is tied.0)

-- A call.

-- what was counted is so after it
turned_counted : (M : Memberships) (a : AttemptState) (k : Call) → May a k → a.phase ≡ Installing → Counted M a → Counted M (turn a k).after
turned_counted M a k may is h =
    let plan : (turn a k).after.plan ≡ a.plan = plan_stays a k may in
    record {
      counted = subst (λ (p : Plan). (M.epoch p.epoch).counted ≡ true) (sym plan) h.counted;
      holds = λ d. subst (λ (p : Plan). (M.epoch p.epoch).holds d ≡ is_held_in (turn a k).after.devices d) (sym plan)
          (h.holds d ∙ ap (λ ds. is_held_in ds d) (sym (devices_stay a k may is)));
    }

-- the machine counts it
count_here : (M : Memberships) (a : AttemptState) (newest : ℕ) → Counted (after M (machine.Count a.plan.epoch newest (is_held_in a.devices))) a
count_here M a newest =
    let q : ℕ = a.plan.epoch in
    let e : _ = put_here M.epoch q (counting (M.epoch q) newest (is_held_in a.devices) ((M.node newest).showed q)) in
    record { counted = ap (λ z. z.counted) e; holds = λ d. ap (λ z. z.holds d) e }

-- the machine starts it
start_here : (M : Memberships) (s : Start) → (M.epoch s.epoch).tried ≡ true → (M.epoch s.epoch).counted ≡ true → ((k : ℕ) → (M.epoch s.epoch).members k ≡ is_member s.members k)
    → ((d : ℕ) → (M.epoch s.epoch).holds d ≡ has s.held d) → StartTold (after M (machine.Start s.epoch)) s
start_here M s tried counted members held =
    let e : _ = put_here M.epoch s.epoch (starting (M.epoch s.epoch)) in
    record {
      tried = ap (λ z. z.tried) e ∙ tried;
      counted = ap (λ z. z.counted) e ∙ counted;
      started = ap (λ z. z.started) e;
      members = λ k. ap (λ z. z.members k) e ∙ members k;
      held = λ d. ap (λ z. z.holds d) e ∙ held d;
    }

starts_told : (M : Memberships) (a : AttemptState) (k : Call) (count : ℕ) → Own M a → May a k → starts_in (turn a k).steps ≡ true → AttemptHolds M (Some a)
    → (let t : AttemptState = (turn a k).after in
    let s : Start = record { epoch = t.plan.epoch; members = t.plan.members; held = held_set t.devices; count = count } in StartTold (after M (machine.Start t.plan.epoch)) s)
starts_told M a k count own may given holds =
    let t : AttemptState = (turn a k).after in
    let is : a.phase ≡ Installing = starts_follow a k own.reached may given in
    let h : Counted M t = turned_counted M a k may is (holds is) in
    let plan : t.plan ≡ a.plan = plan_stays a k may in
    let same : t.devices ≡ a.devices = devices_stay a k may is in
    let are : All IsNumbered t.devices = subst (λ ds. All IsNumbered ds) (sym same) (numbered_reached a own.reached).1 in
    start_here M (record { epoch = t.plan.epoch; members = t.plan.members; held = held_set t.devices; count = count })
    (subst (λ (p : Plan). (M.epoch p.epoch).tried ≡ true) (sym plan) own.has.tried) h.counted
    (subst (λ (p : Plan). (n : ℕ) → (M.epoch p.epoch).members n ≡ is_member p.members n) (sym plan) own.has.members)
    (λ d. h.holds d ∙ sym (held_has d t.devices are))

-- Small steps.

rested_holds : (M : Memberships) (x : UpNode) (p : ℕ) (o : Option AttemptState) → AttemptHolds M (rested_by (promising x p) o).attempt
rested_holds M x p None = tt
rested_holds M x p (Some a) = tt

change_holds : (c : Cluster) (M N : Memberships) (n : ℕ) (told : Delivered) (x : UpNode) (change : Change) → MayChange c n told x change → Run (setting_of c) M (of_change n change) N
    → Grows M N → AttemptHolds M x.attempt → AttemptHolds N (changed c n x change).attempt
change_holds c M N n told x (Promises p) may run g h = rested_holds N x p x.attempt
change_holds c M N n told x (Leads p members) may run g h =
    λ is. absurd (first_not_installing p members (own_promise n (record (promising x p) { greatest = p }) p) c.attached c.id is)
change_holds c M N n told x (Counts a k s i) may run g h =
    λ is. subst (λ Z. Counted Z (turn a k).after) (sym run.1) (count_here M (turn a k).after (turn a k).after.newest)
change_holds c M N n told x (Installs s i) may run g h = attempt_stays M N x.attempt g h
change_holds c M N n told x (Starts a k s) may run g h = tt
change_holds c M N n told x (Sits s e) may run g h = attempt_stays M N x.attempt g h
change_holds c M N n told x (Distrusts d) may run g h = attempt_stays M N x.attempt g h
change_holds c M N n told x (Admits at command a d) may run g h = attempt_stays M N x.attempt g h
change_holds c M N n told x (Proposes s p text) may run g h = attempt_stays M N x.attempt g h
change_holds c M N n told x (Acks s p q left text) may run g h = attempt_stays M N x.attempt g h
change_holds c M N n told x (Prepares s text) may run g h = attempt_stays M N x.attempt g h
change_holds c M N n told x (Commits s) may run g h = attempt_stays M N x.attempt g h

change_told : (c : Cluster) (M N : Memberships) (n : ℕ) (told : Delivered) (x : UpNode) (disk : NodeRecord) (change : Change) → NodeTied c M n disk (Up x) → MayChange c n told x change
    → Run (setting_of c) M (of_change n change) N → AttemptHolds M x.attempt → AllByRecursion (DeedTold N) (deed_in change)
change_told c M N n told x disk (Starts a k s) tied may run h =
    let t : AttemptState = (turn a k).after in
    let count : ℕ = length (base_of s) in
    let line : Start = record { epoch = t.plan.epoch; members = t.plan.members; held = held_set t.devices; count = count } in (
      subst (λ Z. StartTold Z line) (sym run.1)
          (starts_told M a k count (own_of c M n disk x a tied may.0) (may_be_called c told a k may.2) may.3 (subst (λ o. AttemptHolds M o) may.0 h)),
      tt,
    )
change_told c M N n told x disk (Proposes s p text) tied may run h = (tt, tt)
change_told c M N n told x disk (Acks s p q left text) tied may run h = (tt, tt)
change_told c M N n told x disk (Promises p) tied may run h = tt
change_told c M N n told x disk (Leads p members) tied may run h = tt
change_told c M N n told x disk (Counts a k s i) tied may run h = tt
change_told c M N n told x disk (Installs s i) tied may run h = tt
change_told c M N n told x disk (Sits s e) tied may run h = tt
change_told c M N n told x disk (Distrusts d) tied may run h = tt
change_told c M N n told x disk (Admits at command a d) tied may run h = tt
change_told c M N n told x disk (Prepares s text) tied may run h = tt
change_told c M N n told x disk (Commits s) tied may run h = tt

act_holds : (c : Cluster) (M N : Memberships) (n : ℕ) (told : Delivered) (x : UpNode) (disk : NodeRecord) (a : Act) → NodeTied c M n disk (Up x) → MayAct c n told x a
    → Run (setting_of c) M (of_act n a) N → Grows M N → AttemptHolds M x.attempt → AttemptHolds N (acted c n x a).attempt
act_holds c M N n told x disk (Goes_on a k) tied may run g h =
    λ is.
    let call : May a k = may_be_called c told a k may.1 in
    let before : a.phase ≡ Installing = installing_before a k (own_of c M n disk x a tied may.0).reached call may.2 is in
    counted_stays M N (turn a k).after g (turned_counted M a k call before (subst (λ o. AttemptHolds M o) may.0 h before))
act_holds c M N n told x disk (Ends a e) tied may run g h = tt
act_holds c M N n told x disk (Queues a d kind) tied may run g h =
    if_either (λ (z : UpNode). AttemptHolds N z.attempt) (has a.plan.members n)
    (record x { tasks = after_seize x.tasks d (seizing.begun kind a.plan.epoch a.plan.members n c.id (has (record_of x).valid d)) }) x
    (attempt_stays M N x.attempt g h) (attempt_stays M N x.attempt g h)
act_holds c M N n told x disk (Makes change) tied may run g h = change_holds c M N n told x change may.0 run g h
act_holds c M N n told x disk (Hears from b) tied may run g h = attempt_stays M N x.attempt g h
act_holds c M N n told x disk Ticks tied may run g h = attempt_stays M N x.attempt g h
act_holds c M N n told x disk Waits tied may run g h = attempt_stays M N x.attempt g h
act_holds c M N n told x disk (Accepts kind e members d) tied may run g h = attempt_stays M N x.attempt g h
act_holds c M N n told x disk (Takes at command a) tied may run g h = attempt_stays M N x.attempt g h
act_holds c M N n told x disk (Stores d value a) tied may run g h = attempt_stays M N x.attempt g h
act_holds c M N n told x disk (Writes to b) tied may run g h = attempt_stays M N x.attempt g h
act_holds c M N n told x disk (Gives os) tied may run g h = attempt_stays M N x.attempt g h
act_holds c M N n told x disk (Spreads receivers b) tied may run g h = attempt_stays M N x.attempt g h
act_holds c M N n told x disk (Minds q p) tied may run g h = attempt_stays M N x.attempt g h
act_holds c M N n told x disk (Notes from place p) tied may run g h = attempt_stays M N x.attempt g h
act_holds c M N n told x disk (Dates now) tied may run g h = attempt_stays M N x.attempt g h
act_holds c M N n told x disk (Works w) tied may run g h = attempt_stays M N x.attempt g h

act_told : (c : Cluster) (M N : Memberships) (n : ℕ) (told : Delivered) (x : UpNode) (disk : NodeRecord) (a : Act) → NodeTied c M n disk (Up x) → MayAct c n told x a
    → Run (setting_of c) M (of_act n a) N → AttemptHolds M x.attempt → AllByRecursion (DeedTold N) (deed_of (Does a))
act_told c M N n told x disk (Makes change) tied may run h = change_told c M N n told x disk change tied may.0 run h
act_told c M N n told x disk _ tied may run h = tt

pub doing_holds : (c : Cluster) (M N : Memberships) (n : ℕ) (told : Delivered) (node : Node) (disk : NodeRecord) (d : Doing) → NodeTied c M n disk node → May_do c n told (site node disk) d
    → Run (setting_of c) M (of_doing n d) N → Grows M N → NodeHolds M node → NodeHolds N (effect c n (site node disk) d).node
doing_holds c M N n told Down disk Comes_up tied may run g h = tt
doing_holds c M N n told (Up x) disk Comes_up tied may run g h = absurd may
doing_holds c M N n told node disk (Goes_down why) tied may run g h = tt
doing_holds c M N n told Down disk (Does a) tied may run g h = absurd may
doing_holds c M N n told (Up x) disk (Does a) tied may run g h = act_holds c M N n told x disk a tied may run g h
doing_holds c M N n told Down disk (Saves change) tied may run g h = absurd may
doing_holds c M N n told (Up x) disk (Saves change) tied may run g h = change_holds c M N n told x change may run g h
doing_holds c M N n told node disk (Loses change why) tied may run g h = tt
doing_holds c M N n told node disk (Forgets change why) tied may run g h = tt

first_told : (N : Memberships) (change : Change) → AllByRecursion (DeedTold N) (first_deed change)
first_told N (Proposes s p text) = (tt, tt)
first_told N _ = tt

pub doing_told : (c : Cluster) (M N : Memberships) (n : ℕ) (told : Delivered) (node : Node) (disk : NodeRecord) (d : Doing) → NodeTied c M n disk node → May_do c n told (site node disk) d
    → Run (setting_of c) M (of_doing n d) N → NodeHolds M node → AllByRecursion (DeedTold N) (deed_of d)
doing_told c M N n told node disk Comes_up tied may run h = tt
doing_told c M N n told node disk (Goes_down why) tied may run h = tt
doing_told c M N n told Down disk (Does a) tied may run h = absurd may
doing_told c M N n told (Up x) disk (Does a) tied may run h = act_told c M N n told x disk a tied may run h
doing_told c M N n told Down disk (Saves change) tied may run h = absurd may
doing_told c M N n told (Up x) disk (Saves change) tied may run h = change_told c M N n told x disk change tied may run h
doing_told c M N n told node disk (Loses change why) tied may run h = first_told N change
doing_told c M N n told node disk (Forgets change why) tied may run h = first_told N change
