-- Under its guards each small step is steps of the whole.
use Rattle.std.specs.Prelude.{ℕ, ◌≡◌, ◌<◌, ◌≤◌, ◌⊎◌, ◌++◌, true, All, List, [], ◌∷◌, None, Some, IsSome}
use Rattle.std.proofs.Common.{refl, sym, ap, subst, ◌∙◌, inl, inr, arith}
use Rattle.std.specs.List.{AllByRecursion}
use Rattle.std.proofs.lemmas.List.Elements.{All-head, All-tail}
use Rattle.attempt_laws.proofs.MachineLemmas.{installs_come_first}
use Rattle.attempt_laws.proofs.Stays.{granted_stays, plan_stays}
use Rattle.attempt_laws.specs.Asking.{AsksAt, CountsAt}
use Rattle.attempt_laws.specs.Machine.{MachineHas, is_member}
use Rattle.attempt_laws.specs.Staying.{IsBefore}
use Rattle.cl_base.specs.Sets.{has}
use Rattle.cluster_machine.specs.Cluster.{Cluster as Whole}
use Rattle.cluster_ties.proofs.Calls.{calls_go}
use Rattle.cluster_ties.proofs.First.{in_order}
use Rattle.cluster_ties.proofs.Frames.{up_stays}
use Rattle.cluster_ties.proofs.Moves.{and_on, nowhere}
use Rattle.cluster_ties.proofs.Others.{boots_go, reached_stays, rests_go}
use Rattle.cluster_ties.proofs.Seizes.{queues_go, seizes_go}
use Rattle.cluster_ties.proofs.Sessions.{crashes_go}
use Rattle.cluster_ties.proofs.Told.{grows_at, own_requests_are_told, requests_are_told, told_of_stays}
use Rattle.cluster_ties.proofs.Updates.{proposals_are_lost}
use Rattle.cluster_ties.specs.Laws.{IsAskedTo, IsKept}
use Rattle.cluster_ties.specs.Moves.{CallGoes, IsReached, MembershipGoes, Moves}
use Rattle.cluster_ties.specs.Ties.{AttemptAt, Devices, DevicesTied, NodeAt, UpAt}
use Rattle.cluster_ties.specs.Told.{ToldOf}
use Rattle.cmm_attempt.proofs.Basics.{false_true, if_either}
use Rattle.cmm_attempt.specs.Attempts.{AttemptState, install_in}
use Rattle.cmm_attempt.specs.Calls.{Call, IsReached as IsReachedAttempt, May as MayTake, installs_in, turn}
use Rattle.cmm_attempt.specs.declared.phase.Phase.TheVariants.{Installing}
use Rattle.cmm_attempt.specs.declared.step.Step.{Step}
use Rattle.cmm_attempt.specs.declared.step.Step.TheVariants as step
use Rattle.cmm_member.specs.Nodes.{NodeState}
use Rattle.cmm_member.specs.Records.{NodeRecord}
use Rattle.device_ties.specs.Devices.{DeviceTied}
use Rattle.machine_base.specs.Epochs.{coordinator}
use Rattle.membership_machine.specs.Events as membership
use Rattle.membership_machine.specs.Invariant.{Holds}
use Rattle.membership_machine.specs.State.{Memberships}
use Rattle.membership_machine.specs.Votes.{Setting}
use Rattle.node_model.specs.Attempts.{seizing_here}
use Rattle.node_model.specs.Clusters.{first_valid_of}
use Rattle.node_model.specs.Seats.{record_of, state_of, up_with}
use Rattle.node_model.specs.Ticks.{later}
use Rattle.node_model.specs.declared.cluster.Cluster.{Cluster}
use Rattle.node_model.specs.declared.node.Node.{Node}
use Rattle.node_model.specs.declared.node.Node.TheVariants.{Down, Up}
use Rattle.node_model.specs.declared.node.UpNode.{UpNode}
use Rattle.node_model.specs.declared.output.Output.{Output}
use Rattle.node_model.specs.declared.presidency.Presidency.{Presidency}
use Rattle.node_model.specs.declared.seat.Seat.TheVariants.{Member}
use Rattle.refinement.proofs.Acts.{does_one}
use Rattle.refinement.proofs.Attempts.{has_after, may_be_called}
use Rattle.refinement.proofs.Changes.{Sees}
use Rattle.refinement.proofs.Facts.{facts_of, joins_one}
use Rattle.refinement.proofs.Presidents.{MemberTied, member_tied, presides_of}
use Rattle.refinement.specs.Doings.{Act, Change, Doing, Site, accepting, acted, changed, effect, first_lines, gives, going, gone_line, last_lines, said, saved_lines, site}
use Rattle.refinement.specs.Doings.Act.{Accepts, Dates, Ends, Gives, Goes_on, Hears, Makes, Minds, Notes, Queues, Spreads, Stores, Takes, Ticks, Waits, Works, Writes}
use Rattle.refinement.specs.Doings.Change.{Acks, Admits, Commits, Counts, Distrusts, Installs, Leads, Prepares, Promises, Proposes, Sits, Starts}
use Rattle.refinement.specs.Doings.Doing.{Comes_up, Does, Forgets, Goes_down, Loses, Saves}
use Rattle.refinement.specs.Events.{of_act, of_change, of_doing, of_forgotten}
use Rattle.refinement.specs.Facts.{AttemptFacts, Facts, JoinsIn, OfSeat}
use Rattle.refinement.specs.Guards.{May, MayAct, MayChange, Says}
use Rattle.refinement.specs.Ties.{AllTold, Coordinates, Delivered, GoesOn, Known, NodeTied, SiteTied, setting_of}
use Rattle.seize.specs.declared.kind.SeizeKind.{SeizeKind}
use Rattle.seize.specs.declared.kind.SeizeKind.TheVariants.{Plain, Vote}
use Rattle.status_report.specs.declared.node_entry.DownCause.{DownCause}
use Rattle.wire.specs.Spelling.{IsDevices}
use Rattle.wire.specs.declared.message.Body.TheVariants as body
use Rattle.run_history.proofs.WholeChanges.{AttemptOf, ChangeAt, NodeGoes, attempt_of, by_device, by_membership, change_at, epoch_of, own_epoch}
use Rattle.run_history.proofs.WholeOutputs.{Mute, lost_mute, made_mute, mute_told, nothing_told, saved_mute, spread_told, tick_told, write_mute}
use Rattle.run_history.proofs.Stays.{hand_stays, installs_stay, run_same, whole_holds}
use Rattle.run_history.proofs.Writing.{all_at, call_told, sees_up, write_told}
use Rattle.run_history.specs.Guards.{AtAct, AtCall, AtChange, AtDoing, Hand, InHand, IsStep, MadeAt, hand_after, hand_by, request_as}
use Rattle.run_history.specs.Sites.{AllToldOf, DoingGoes, HandAt, InstallsAt, IsCluster, KnownOf, Own, OwnIn, SiteAt, StepSo}

-- What is known before a small step.
pub record Ready (c : Cluster) (W : Whole) (n : ℕ) (told : Delivered) (h : Hand) (devices : Devices) (x : Site) : Type 0 where
  pub fits : IsCluster c
  pub low : n ≤ 32
  pub reached : IsReached (setting_of c) W
  pub tied : DevicesTied c devices W
  pub site_so : SiteAt c W n x
  pub known : Known W.memberships told
  pub known_of : KnownOf W n told
  pub hand : HandAt W n h

-- The two machines go together.
pub finish : (c : Cluster) (W : Whole) (n : ℕ) (told : Delivered) (h h' : Hand) (before devices : Devices) (x y : Site) (os : List Output) (events : List membership.Event) → Ready c W n told h before x
    → (g : GoesOn c W.memberships n y os events) → (m : NodeGoes c W n devices y.disk y.node g.machine) → JoinsIn y.node → OwnIn m.machine n y.node → IsDevices y.disk.valid → AllToldOf m.machine n os
    → HandAt m.machine n h' → DoingGoes c W n devices y os events h'
finish c W n told h h' before devices x y os events r g m joins own valid told_so hand = record {
  machine = m.machine;
  moves = m.moves;
  run = subst (λ M. membership.Run (setting_of c) W.memberships events M) (sym m.memberships) g.run;
  devices_so = m.devices_so;
  site_so = record { tied = subst (λ M. SiteTied c M n y) (sym m.memberships) g.tied; joins = joins; at = m.at; own = own; valid = valid };
  said = subst (λ M. AllTold M n os) (sym m.memberships) g.said;
  told = told_so;
  hand = hand;
}

pub stays_goes : (c : Cluster) (W : Whole) (n : ℕ) (devices : Devices) (disk : NodeRecord) (node : Node) (M : Memberships) → M ≡ W.memberships → DevicesTied c devices W → NodeAt c W n disk node
    → NodeGoes c W n devices disk node M
stays_goes c W n devices disk node M is tied at = record { machine = W; moves = nowhere (setting_of c) W n; memberships = sym is; devices_so = tied; at = at }

pub one : (c : Cluster) (W : Whole) (n : ℕ) (told : Delivered) (h : Hand) (devices : Devices) (x : Site) (d : Doing) → Ready c W n told h devices x → May c n told x d
    → GoesOn c W.memberships n (effect c n x d) (gives c n x d) (of_doing n d)
one c W n told h devices x d r may = does_one c W.memberships n told x d r.fits.fits.devices.attached (whole_holds (setting_of c) W r.reached) r.known r.site_so.tied may

pub joins : (c : Cluster) (W : Whole) (n : ℕ) (told : Delivered) (h : Hand) (devices : Devices) (x : Site) (d : Doing) → Ready c W n told h devices x → May c n told x d → JoinsIn (effect c n x d).node
joins c W n told h devices x d r may =
    joins_one c W.memberships n told x.node x.disk d (whole_holds (setting_of c) W r.reached) r.site_so.tied r.site_so.joins may

-- what is done in memory alone, which changes nothing at devices
rest : (c : Cluster) (W : Whole) (n : ℕ) (told : Delivered) (h : Hand) (devices : Devices) (x y : UpNode) (disk : NodeRecord) (os : List Output) → Ready c W n told h devices (site (Up x) disk)
    → GoesOn c W.memberships n (site (Up y) disk) os [] → JoinsIn (Up y) → UpAt c W n y → Own W n y → AllToldOf W n os → DoingGoes c W n devices (site (Up y) disk) os [] h
unfolding stays_goes
rest c W n told h devices x y disk os r g j at own told_so =
    finish c W n told h h devices devices (site (Up x) disk) (site (Up y) disk) os [] r g (stays_goes c W n devices disk (Up y) g.machine g.run r.tied at) j own r.site_so.valid told_so r.hand

-- The attempt takes a call.

step_asked : (S : Setting) (V : Whole) (n : ℕ) (t : AttemptState) (s : Step) → IsReached S V → MachineHas V.memberships t → t.plan.coordinator ≡ n → ((d : ℕ) → AsksAt (V.device d) t.plan d s)
    → StepSo V n t s
step_asked S V n t (step.Send to m) reached has own asks = λ request. requests_are_told S V t n to m reached has asks request
step_asked S V n t (step.SeizeHere d kind) reached has own asks =
    subst (λ k. IsAskedTo (V.device d) t.plan.epoch t.plan.members k kind) own (own_requests_are_told S V t d kind reached has (asks d))
step_asked S V n t (step.NeedVotes m) reached has own asks = tt
step_asked S V n t (step.InstallHere i) reached has own asks = tt
step_asked S V n t step.StartHere reached has own asks = tt
step_asked S V n t (step.Ended e) reached has own asks = tt

steps_asked : (S : Setting) (V : Whole) (n : ℕ) (t : AttemptState) (steps : List Step) → IsReached S V → MachineHas V.memberships t → t.plan.coordinator ≡ n
    → ((d : ℕ) → All (AsksAt (V.device d) t.plan d) steps) → AllByRecursion (StepSo V n t) steps
steps_asked S V n t [] reached has own asks = tt
steps_asked S V n t (s ∷ steps) reached has own asks = (
  step_asked S V n t s reached has own (λ d. All-head (AsksAt (V.device d) t.plan d) s steps (asks d)),
  steps_asked S V n t steps reached has own (λ d. All-tail (AsksAt (V.device d) t.plan d) s steps (asks d)),
)

installs_after : (S : Setting) (W V : Whole) (n : ℕ) (a : AttemptState) (k : Call) → IsReached S W → Moves S W n V → IsReachedAttempt a → MayTake a k
    → installs_in (turn a k).steps ≡ None → InstallsAt W n (Some a) → InstallsAt V n (Some (turn a k).after)
installs_after S W V n a k reached m is_reached may none installs = λ is. by_before is (installs_come_first a k is_reached may is)
  where
    by_before : (turn a k).after.phase ≡ Installing → (a.phase ≡ Installing) ⊎ IsSome (installs_in (turn a k).steps) → ToldOf V n n (body.Install (install_in (turn a k).after))
    by_before is (inl before) =
        subst (λ i. ToldOf V n n (body.Install i)) (sym (granted_stays a k may before)) (told_of_stays S W V n n n (body.Install (install_in a)) reached m (installs before))
    by_before is (inr some) = absurd (false_true (subst (λ o. IsSome o) none some))

goes_on : (c : Cluster) (W : Whole) (n : ℕ) (told : Delivered) (h : Hand) (devices : Devices) (x : UpNode) (disk : NodeRecord) (a : AttemptState) (k : Call) → Ready c W n told h devices (site (Up x) disk)
    → MayAct c n told x (Goes_on a k) → AtCall x k → DoingGoes c W n devices (site (Up (going x a k)) disk) [] [] (Some (turn a k))
goes_on c W n told h devices x disk a k r may so =
    let S : Setting = setting_of c in
    let t : AttemptState = (turn a k).after in
    let of : AttemptOf c W.memberships n x a = attempt_of c W.memberships n x disk a r.site_so.tied.0 may.0 in
    let co : Coordinates c W.memberships n of.state a = of.coordinates in
    let take : MayTake a k = may_be_called c told a k may.1 in
    let has : MachineHas W.memberships t =
    has_after c W.memberships n of.state told a k (whole_holds S W r.reached) r.known (record { session = of.shows.session; installed = ap (λ z. z.installed) of.shows.saved }) co may.1 in
    let u : CallGoes S W n (turn a k) =
    calls_go S W n a k r.reached co.reached take (own_epoch c W.memberships n x a of) co.has has (subst (λ o. AttemptAt W o) may.0 r.site_so.at.attempt)
    (λ d. call_told c W n d told x disk a k r.reached r.site_so r.known_of may.1 so (epoch_of c W.memberships n x a of) co.coordinator) in
    let V : Whole = u.machine in
    let before : UpNode = record x { attempt = None } in
    let at : UpAt c W n x = r.site_so.at in
    let before_at : UpAt c W n before = record { marks = at.marks; tasks = at.tasks; once = at.once; idle = at.idle; attempt = tt } in
    let after_at : UpAt c V n before =
    up_stays c W V n before (λ d. ap (λ f. f n) (u.node d)) (λ d q. (grows_at S W V n d (in_order S W r.reached) u.moves).attempt q) (λ z. tt) before_at in
    let y_at : UpAt c V n (going x a k) = record {
      marks = after_at.marks;
      tasks = after_at.tasks;
      once = after_at.once;
      idle = after_at.idle;
      attempt = λ d. subst (λ o. CountsAt (V.device d) t d o) may.2 (u.counts d);
    } in
    let g : GoesOn c W.memberships n (site (Up (going x a k)) disk) [] [] = one c W n told h devices (site (Up x) disk) (Does (Goes_on a k)) r may in
    let m : NodeGoes c W n devices disk (Up (going x a k)) g.machine = record {
      machine = V;
      moves = u.moves;
      memberships = u.memberships ∙ sym g.run;
      devices_so = λ d. subst (λ y. DeviceTied c.id (devices d) y) (sym (u.device d)) (r.tied d);
      at = y_at;
    } in
    finish c W n told h (Some (turn a k)) devices devices (site (Up x) disk) (site (Up (going x a k)) disk) [] [] r g m (joins c W n told h devices (site (Up x) disk) (Does (Goes_on a k)) r may)
    (record {
      me = r.site_so.own.me;
      installs = installs_after S W V n a k r.reached u.moves co.reached take may.2 (subst (InstallsAt W n) may.0 r.site_so.own.installs);
    })
    r.site_so.valid tt
    (steps_asked S V n t (turn a k).steps (reached_stays S W V n r.reached u.moves) (subst (λ M. MachineHas M t) (sym u.memberships) has)
    (ap (λ p. p.coordinator) (plan_stays a k take) ∙ co.coordinator) u.asked)

-- It asks the node itself, or another node's does.

low_of : (a b q : ℕ) → a ≤ b → b ≡ q → (a ≡ q → ⊥) → a < q
low_of a b q h is ne = grind arith

asked_in_hand : (W : Whole) (n d : ℕ) (kind : SeizeKind) (a : AttemptState) (h : Hand) → HandAt W n h → InHand (λ u. (u.after ≡ a) × IsBefore a.phase × IsStep (step.SeizeHere d kind) u.steps) h
    → IsAskedTo (W.device d) a.plan.epoch a.plan.members n kind × IsBefore a.phase
asked_in_hand W n d kind a None hand so = absurd so
asked_in_hand W n d kind a (Some u) hand so =
    (subst (λ (t : AttemptState). IsAskedTo (W.device d) t.plan.epoch t.plan.members n kind) so.0 (all_at (StepSo W n u.after) (step.SeizeHere d kind) u.steps hand so.2), so.1)

member_asked : (c : Cluster) (W : Whole) (n e members d : ℕ) (kind : SeizeKind) → IsReached (setting_of c) W → IsAskedTo (W.device d) e members n kind → is_member members n ≡ true
member_asked c W n e members d kind reached asked =
    sym (asked.of_members n) ∙ (((in_order (setting_of c) W reached).device d).attempt e).asked_member n asked.asked

attempt_facts : (c : Cluster) (W : Whole) (n : ℕ) (x : UpNode) (disk : NodeRecord) (a : AttemptState) → IsReached (setting_of c) W → SiteAt c W n (site (Up x) disk)
    → (of : AttemptOf c W.memberships n x a) → x.attempt ≡ Some a → AttemptFacts of.state a
attempt_facts c W n x disk a reached at of is =
    let f : Facts x = facts_of c W.memberships n disk x (whole_holds (setting_of c) W reached) at.tied at.joins in
    subst (λ seat. OfSeat (Some a) seat) of.seat (subst (λ o. OfSeat o x.seat) is f.attempt)

seizing_own : (c : Cluster) (V : Whole) (n d : ℕ) (kind : SeizeKind) (x : UpNode) (a : AttemptState) → Own V n x → Own V n (seizing_here c n x d kind (Some a))
seizing_own c V n d kind x a own =
    if_either (Own V n) (has a.plan.members n) (accepting c n x kind a.plan.epoch a.plan.members d) x (record { me = own.me; installs = own.installs }) own

queues : (c : Cluster) (W : Whole) (n : ℕ) (told : Delivered) (h : Hand) (devices : Devices) (x : UpNode) (disk : NodeRecord) (a : AttemptState) (d : ℕ) (kind : SeizeKind)
    → Ready c W n told h devices (site (Up x) disk) → MayAct c n told x (Queues a d kind) → AtAct n told h x (Queues a d kind)
    → DoingGoes c W n devices (site (Up (seizing_here c n x d kind (Some a))) disk) [] [] h
queues c W n told h devices x disk a d kind r may so =
    let S : Setting = setting_of c in
    let asked : IsAskedTo (W.device d) a.plan.epoch a.plan.members n kind × IsBefore a.phase = asked_in_hand W n d kind a h r.hand so in
    let of : AttemptOf c W.memberships n x a = attempt_of c W.memberships n x disk a r.site_so.tied.0 may in
    let f : AttemptFacts of.state a = attempt_facts c W n x disk a r.reached r.site_so of may in
    let y : UpNode = seizing_here c n x d kind (Some a) in
    let g : GoesOn c W.memberships n (site (Up y) disk) [] [] = one c W n told h devices (site (Up x) disk) (Does (Queues a d kind)) r may in
    let m : NodeGoes c W n devices disk (Up y) g.machine =
    by_device c W n devices disk y g.machine g.run
    (queues_go S c W n x devices a kind d r.reached r.tied r.site_so.at asked.0 (member_asked c W n a.plan.epoch a.plan.members d kind r.reached asked.0) f.some
    (of.shows.session ∙ sym of.coordinates.epoch) (subst (λ z. z < a.plan.epoch) (sym (ap (λ z. z.installed) of.shows.saved)) (f.before asked.1))) in
    finish c W n told h h devices devices (site (Up x) disk) (site (Up y) disk) [] [] r g m (joins c W n told h devices (site (Up x) disk) (Does (Queues a d kind)) r may)
    (seizing_own c m.machine n d kind x a (record { me = r.site_so.own.me; installs = installs_stay S W m.machine n n x.attempt r.reached m.moves r.site_so.own.installs })) r.site_so.valid tt
    (hand_stays S W m.machine n n h r.reached m.moves r.hand)

asked_known : (W : Whole) (n e members d : ℕ) (kind : SeizeKind) (told : Delivered) → KnownOf W n told → Says (λ b. b ≡ request_as kind e members d) told → IsAskedTo (W.device d) e members n kind
asked_known W n e members d kind None known says = absurd says
asked_known W n e members d Vote (Some p) known says = subst (λ b. ToldOf W p.0 n b) says known
asked_known W n e members d Plain (Some p) known says = subst (λ b. ToldOf W p.0 n b) says known

accepts : (c : Cluster) (W : Whole) (n : ℕ) (told : Delivered) (h : Hand) (devices : Devices) (x : UpNode) (disk : NodeRecord) (kind : SeizeKind) (e members d : ℕ)
    → Ready c W n told h devices (site (Up x) disk) → MayAct c n told x (Accepts kind e members d) → AtAct n told h x (Accepts kind e members d)
    → DoingGoes c W n devices (site (Up (accepting c n x kind e members d)) disk) [] [] h
accepts c W n told h devices x disk kind e members d r may so =
    let S : Setting = setting_of c in
    let see : Sees W.memberships n disk (state_of x.seat) = sees_up c W n x disk r.site_so in
    let holds : Holds S W.memberships = whole_holds S W r.reached in
    let session : (W.memberships.node n).session ≡ e = see.session ∙ sym may in
    let promised : (W.memberships.node n).promised ≡ e = sym ((holds.node n).session (subst (λ z. 0 < z) (sym session) so.2)) ∙ session in
    let installed : (W.memberships.node n).saved.installed < e =
    low_of (W.memberships.node n).saved.installed (W.memberships.node n).promised e (holds.node n).installed promised (λ z. so.3 (sym (ap (λ z. z.installed) see.saved) ∙ z)) in
    let asked : IsAskedTo (W.device d) e members n kind = asked_known W n e members d kind told r.known_of so.0 in
    let y : UpNode = accepting c n x kind e members d in
    let g : GoesOn c W.memberships n (site (Up y) disk) [] [] = one c W n told h devices (site (Up x) disk) (Does (Accepts kind e members d)) r may in
    let m : NodeGoes c W n devices disk (Up y) g.machine =
    by_device c W n devices disk y g.machine g.run
    (seizes_go S c W n x devices kind e members d r.reached r.tied r.site_so.at asked (member_asked c W n e members d kind r.reached asked) so.2 session installed) in
    finish c W n told h h devices devices (site (Up x) disk) (site (Up y) disk) [] [] r g m (joins c W n told h devices (site (Up x) disk) (Does (Accepts kind e members d)) r may)
    (record { me = r.site_so.own.me; installs = installs_stay S W m.machine n n x.attempt r.reached m.moves r.site_so.own.installs }) r.site_so.valid tt
    (hand_stays S W m.machine n n h r.reached m.moves r.hand)

-- A change is made.

made_run : (c : Cluster) (W : Whole) (n : ℕ) (told : Delivered) (h : Hand) (devices : Devices) (x : UpNode) (disk : NodeRecord) (ch : Change) → Ready c W n told h devices (site (Up x) disk)
    → MayChange c n told x ch → AtChange x ch
    → (M : Memberships) → membership.Run (setting_of c) W.memberships (of_change n ch) M → ChangeAt c W n devices (changed c n x ch) M
made_run c W n told h devices x disk ch r may so M run =
    let g : GoesOn c W.memberships n (site (Up (changed c n x ch)) (record_of (changed c n x ch))) _ (of_change n ch) = one c W n told h devices (site (Up x) disk) (Saves ch) r may in
    let same : g.machine ≡ M = run_same (setting_of c) W.memberships g.machine M (of_change n ch) g.run run in
    change_at c W n told x disk ch devices M r.fits r.reached r.tied r.site_so r.known r.known_of may so run
    (subst (λ N. SiteTied c N n (site (Up (changed c n x ch)) (record_of (changed c n x ch)))) same g.tied)

made_at : (x : UpNode) (ch : Change) → MadeAt ch → AtChange x ch
made_at x (Starts a k s) h = tt
made_at x (Sits s e) h = tt
made_at x _ h = absurd h

makes : (c : Cluster) (W : Whole) (n : ℕ) (told : Delivered) (h : Hand) (devices : Devices) (x : UpNode) (disk : NodeRecord) (ch : Change) → Ready c W n told h devices (site (Up x) disk)
    → MayAct c n told x (Makes ch) → MadeAt ch → DoingGoes c W n devices (site (Up (changed c n x ch)) disk) (first_lines n ch ++ last_lines c n x ch) (of_change n ch) h
makes c W n told h devices x disk ch r may so =
    let S : Setting = setting_of c in
    let y : UpNode = changed c n x ch in
    let g : GoesOn c W.memberships n (site (Up y) disk) (first_lines n ch ++ last_lines c n x ch) (of_change n ch) = one c W n told h devices (site (Up x) disk) (Does (Makes ch)) r may in
    let k : ChangeAt c W n devices y g.machine = made_run c W n told h devices x disk ch r may.0 (made_at x ch so) g.machine g.run in
    let m : NodeGoes c W n devices disk (Up y) g.machine =
    record { machine = k.goes.machine; moves = k.goes.moves; memberships = k.goes.memberships; devices_so = k.goes.devices_so; at = k.goes.at } in
    finish c W n told h h devices devices (site (Up x) disk) (site (Up y) disk) (first_lines n ch ++ last_lines c n x ch) (of_change n ch) r g m (joins c W n told h devices (site (Up x) disk) (Does (Makes ch)) r may)
    k.own r.site_so.valid (mute_told m.machine n (first_lines n ch ++ last_lines c n x ch) (made_mute c n x ch)) (hand_stays S W m.machine n n h r.reached m.moves r.hand)

-- Each act.
act_goes : (c : Cluster) (W : Whole) (n : ℕ) (told : Delivered) (h : Hand) (devices : Devices) (x : UpNode) (disk : NodeRecord) (a : Act) → Ready c W n told h devices (site (Up x) disk)
    → MayAct c n told x a → AtAct n told h x a → DoingGoes c W n devices (site (Up (acted c n x a)) disk) (said c n x a) (of_act n a) (hand_by h a)
act_goes c W n told h devices x disk (Goes_on a k) r may so = goes_on c W n told h devices x disk a k r may so
act_goes c W n told h devices x disk (Queues a d kind) r may so = queues c W n told h devices x disk a d kind r may so
act_goes c W n told h devices x disk (Accepts kind e members d) r may so = accepts c W n told h devices x disk kind e members d r may so
act_goes c W n told h devices x disk (Takes at command a) r may so = absurd so
act_goes c W n told h devices x disk (Makes ch) r may so = makes c W n told h devices x disk ch r may so
act_goes c W n told h devices x disk (Hears from b) r may so =
    rest c W n told h devices x (acted c n x (Hears from b)) disk [] r (one c W n told h devices (site (Up x) disk) (Does (Hears from b)) r may)
    (joins c W n told h devices (site (Up x) disk) (Does (Hears from b)) r may) (rests_go c W n x (Hears from b) tt r.site_so.at) (record { me = r.site_so.own.me; installs = r.site_so.own.installs }) tt
act_goes c W n told h devices x disk Ticks r may so =
    rest c W n told h devices x (later c x) disk (said c n x Ticks) r (one c W n told h devices (site (Up x) disk) (Does Ticks) r may)
    (joins c W n told h devices (site (Up x) disk) (Does Ticks) r may) (rests_go c W n x Ticks tt r.site_so.at) (record { me = r.site_so.own.me; installs = r.site_so.own.installs })
    (tick_told c W n x)
act_goes c W n told h devices x disk Waits r may so =
    rest c W n told h devices x (acted c n x Waits) disk [] r (one c W n told h devices (site (Up x) disk) (Does Waits) r may)
    (joins c W n told h devices (site (Up x) disk) (Does Waits) r may) (rests_go c W n x Waits tt r.site_so.at) (record { me = r.site_so.own.me; installs = r.site_so.own.installs }) tt
act_goes c W n told h devices x disk (Ends a e) r may so =
    rest c W n told h devices x (acted c n x (Ends a e)) disk (said c n x (Ends a e)) r (one c W n told h devices (site (Up x) disk) (Does (Ends a e)) r may)
    (joins c W n told h devices (site (Up x) disk) (Does (Ends a e)) r may) (rests_go c W n x (Ends a e) tt r.site_so.at) (record { me = r.site_so.own.me; installs = tt }) tt
act_goes c W n told h devices x disk (Stores d value a) r may so =
    rest c W n told h devices x x disk (said c n x (Stores d value a)) r (one c W n told h devices (site (Up x) disk) (Does (Stores d value a)) r may)
    (joins c W n told h devices (site (Up x) disk) (Does (Stores d value a)) r may) r.site_so.at r.site_so.own (mute_told W n (said c n x (Stores d value a)) (write_mute n x d value a))
act_goes c W n told h devices x disk (Writes to b) r may so =
    rest c W n told h devices x x disk (said c n x (Writes to b)) r (one c W n told h devices (site (Up x) disk) (Does (Writes to b)) r may)
    (joins c W n told h devices (site (Up x) disk) (Does (Writes to b)) r may) r.site_so.at r.site_so.own
    (write_told c W n to told h x disk b r.reached r.site_so r.known_of r.hand may so, tt)
act_goes c W n told h devices x disk (Gives os) r may so =
    rest c W n told h devices x x disk os r (one c W n told h devices (site (Up x) disk) (Does (Gives os)) r may)
    (joins c W n told h devices (site (Up x) disk) (Does (Gives os)) r may) r.site_so.at r.site_so.own (nothing_told W n os may)
act_goes c W n told h devices x disk (Spreads receivers b) r may so =
    rest c W n told h devices x x disk (said c n x (Spreads receivers b)) r (one c W n told h devices (site (Up x) disk) (Does (Spreads receivers b)) r may)
    (joins c W n told h devices (site (Up x) disk) (Does (Spreads receivers b)) r may) r.site_so.at r.site_so.own (spread_told W n receivers b so)
act_goes c W n told h devices x disk (Minds q p) r may so =
    rest c W n told h devices x (acted c n x (Minds q p)) disk [] r (one c W n told h devices (site (Up x) disk) (Does (Minds q p)) r may)
    (joins c W n told h devices (site (Up x) disk) (Does (Minds q p)) r may) (rests_go c W n x (Minds q p) tt r.site_so.at) (record { me = r.site_so.own.me; installs = r.site_so.own.installs }) tt
act_goes c W n told h devices x disk (Notes from place p) r may so =
    rest c W n told h devices x (acted c n x (Notes from place p)) disk [] r (one c W n told h devices (site (Up x) disk) (Does (Notes from place p)) r may)
    (joins c W n told h devices (site (Up x) disk) (Does (Notes from place p)) r may) (rests_go c W n x (Notes from place p) tt r.site_so.at)
    (record { me = r.site_so.own.me; installs = r.site_so.own.installs }) tt
act_goes c W n told h devices x disk (Dates now) r may so =
    rest c W n told h devices x (acted c n x (Dates now)) disk [] r (one c W n told h devices (site (Up x) disk) (Does (Dates now)) r may)
    (joins c W n told h devices (site (Up x) disk) (Does (Dates now)) r may) (rests_go c W n x (Dates now) tt r.site_so.at) (record { me = r.site_so.own.me; installs = r.site_so.own.installs }) tt
act_goes c W n told h devices x disk (Works w) r may so =
    rest c W n told h devices x (acted c n x (Works w)) disk [] r (one c W n told h devices (site (Up x) disk) (Does (Works w)) r may)
    (joins c W n told h devices (site (Up x) disk) (Does (Works w)) r may) (rests_go c W n x (Works w) tt r.site_so.at) (record { me = r.site_so.own.me; installs = r.site_so.own.installs }) tt

-- The node goes down.

pub down : (c : Cluster) (W V : Whole) (n : ℕ) (told : Delivered) (h : Hand) (before devices : Devices) (x : Site) (disk : NodeRecord) (node : Node) (os : List Output) (events : List membership.Event)
    → Ready c W n told h before x → GoesOn c W.memberships n (site Down disk) os events → Moves (setting_of c) W n V → DevicesTied c devices V → NodeAt c V n disk node → IsKept disk node
    → (M : Memberships) → membership.Run (setting_of c) W.memberships events M → M ≡ membership.after V.memberships (membership.Crash n)
    → IsDevices disk.valid → Mute os → DoingGoes c W n devices (site Down disk) os events h
down c W V n told h before devices x disk node os events r g moves tied at kept M run is valid mute =
    let S : Setting = setting_of c in
    let same : g.machine ≡ M = run_same S W.memberships g.machine M events g.run run in
    let k : MembershipGoes S c V n (membership.Crash n) devices disk Down = crashes_go S c V n disk node devices (reached_stays S W V n r.reached moves) tied at kept in
    let all : Moves S W n k.machine = and_on S W V k.machine n moves k.moves in
    let m : NodeGoes c W n devices disk Down g.machine =
    record { machine = k.machine; moves = all; memberships = k.memberships ∙ (sym is ∙ sym same); devices_so = k.devices_so; at = k.at } in
    finish c W n told h h before devices x (site Down disk) os events r g m tt tt valid (mute_told m.machine n os mute) (hand_stays S W m.machine n n h r.reached all r.hand)

-- these events, and then more
pub record Halves (S : Setting) (M : Memberships) (events more : List membership.Event) (L : Memberships) : Type 0 where
  pub middle : Memberships
  pub first : membership.Run S M events middle
  pub second : membership.Run S middle more L

pub halves : (S : Setting) (M : Memberships) (events more : List membership.Event) (L : Memberships) → membership.Run S M (events ++ more) L → Halves S M events more L
halves S M [] more L h = record { middle = M; first = refl; second = h }
halves S M (e ∷ events) more L h =
    let k : Halves S (membership.after M e) events more L = halves S (membership.after M e) events more L h.1 in
    record { middle = k.middle; first = (h.0, k.first); second = k.second }

loses : (c : Cluster) (W : Whole) (n : ℕ) (told : Delivered) (h : Hand) (devices : Devices) (x : UpNode) (disk : NodeRecord) (ch : Change) (why : DownCause) → Ready c W n told h devices (site (Up x) disk)
    → MayChange c n told x ch → AtChange x ch
    → DoingGoes c W n devices (site Down (record_of (changed c n x ch))) (first_lines n ch ++ gone_line n why) (of_change n ch ++ membership.Crash n ∷ []) h
loses c W n told h devices x disk ch why r may so =
    let S : Setting = setting_of c in
    let y : UpNode = changed c n x ch in
    let g : GoesOn c W.memberships n (site Down (record_of y)) (first_lines n ch ++ gone_line n why) (of_change n ch ++ membership.Crash n ∷ []) =
    one c W n told h devices (site (Up x) disk) (Loses ch why) r may in
    let k : Halves S W.memberships (of_change n ch) (membership.Crash n ∷ []) g.machine = halves S W.memberships (of_change n ch) (membership.Crash n ∷ []) g.machine g.run in
    let made : ChangeAt c W n devices y k.middle = made_run c W n told h devices x disk ch r may so k.middle k.first in
    down c W made.goes.machine n told h devices devices (site (Up x) disk) (record_of y) (Up y) (first_lines n ch ++ gone_line n why) (of_change n ch ++ membership.Crash n ∷ []) r g made.goes.moves
    made.goes.devices_so made.goes.at refl g.machine g.run (k.second.1 ∙ ap (λ M. membership.after M (membership.Crash n)) (sym made.goes.memberships)) made.valid (lost_mute n ch why)

-- where nothing was saved
falls : (c : Cluster) (W : Whole) (n : ℕ) (told : Delivered) (h : Hand) (devices : Devices) (x : UpNode) (disk : NodeRecord) (os : List Output) → Ready c W n told h devices (site (Up x) disk)
    → GoesOn c W.memberships n (site Down disk) os (membership.Crash n ∷ []) → Mute os → DoingGoes c W n devices (site Down disk) os (membership.Crash n ∷ []) h
falls c W n told h devices x disk os r g mute =
    down c W W n told h devices devices (site (Up x) disk) disk (Up x) os (membership.Crash n ∷ []) r g (nowhere (setting_of c) W n) r.tied r.site_so.at (sees_up c W n x disk r.site_so).disk_so
    g.machine g.run g.run.1 r.site_so.valid mute

own_session : (c : Cluster) (M : Memberships) (n : ℕ) (x : UpNode) (disk : NodeRecord) (s : NodeState) (p : Presidency) → NodeTied c M n disk (Up x) → x.presidency ≡ Some p → x.seat ≡ Member s
    → coordinator s.session ≡ n
own_session c M n x disk s p tied is seat =
    let m : MemberTied c M n x s = member_tied c M n x disk s tied seat in
    (presides_of M n x.presidency s p is m.president).own

forgets_proposal : (c : Cluster) (W : Whole) (n : ℕ) (told : Delivered) (h : Hand) (devices : Devices) (x : UpNode) (disk : NodeRecord) (s : NodeState) (p : Presidency) (text : List ℕ) (why : DownCause)
    → Ready c W n told h devices (site (Up x) disk) → MayChange c n told x (Proposes s p text)
    → DoingGoes c W n devices (site Down disk) (first_lines n (Proposes s p text) ++ gone_line n why) (membership.Propose_lost s.session text ∷ []) h
forgets_proposal c W n told h devices x disk s p text why r may =
    let S : Setting = setting_of c in
    let os : List Output = first_lines n (Proposes s p text) ++ gone_line n why in
    let g : GoesOn c W.memberships n (site Down disk) os (membership.Propose_lost s.session text ∷ []) = one c W n told h devices (site (Up x) disk) (Forgets (Proposes s p text) why) r may in
    let m : NodeGoes c W n devices disk Down g.machine =
    by_membership c W n devices disk Down (membership.Propose_lost s.session text) g.machine g.run.1
    (proposals_are_lost S c W n s.session text disk (Up x) devices r.tied r.site_so.at (sees_up c W n x disk r.site_so).disk_so (own_session c W.memberships n x disk s p r.site_so.tied may.0 may.1) g.run.0) in
    finish c W n told h h devices devices (site (Up x) disk) (site Down disk) os _ r g m tt tt r.site_so.valid (mute_told m.machine n os (lost_mute n (Proposes s p text) why))
    (hand_stays S W m.machine n n h r.reached m.moves r.hand)

forgets : (c : Cluster) (W : Whole) (n : ℕ) (told : Delivered) (h : Hand) (devices : Devices) (x : UpNode) (disk : NodeRecord) (ch : Change) (why : DownCause) → Ready c W n told h devices (site (Up x) disk)
    → MayChange c n told x ch → DoingGoes c W n devices (site Down disk) (first_lines n ch ++ gone_line n why) (of_forgotten n ch) h
forgets c W n told h devices x disk (Proposes s p text) why r may = forgets_proposal c W n told h devices x disk s p text why r may
forgets c W n told h devices x disk (Promises p) why r may = falls c W n told h devices x disk (first_lines n (Promises p) ++ gone_line n why) r (one c W n told h devices (site (Up x) disk) (Forgets (Promises p) why) r may) (lost_mute n (Promises p) why)
forgets c W n told h devices x disk (Leads p members) why r may =
    falls c W n told h devices x disk (first_lines n (Leads p members) ++ gone_line n why) r (one c W n told h devices (site (Up x) disk) (Forgets (Leads p members) why) r may) (lost_mute n (Leads p members) why)
forgets c W n told h devices x disk (Counts a k s i) why r may =
    falls c W n told h devices x disk (first_lines n (Counts a k s i) ++ gone_line n why) r (one c W n told h devices (site (Up x) disk) (Forgets (Counts a k s i) why) r may) (lost_mute n (Counts a k s i) why)
forgets c W n told h devices x disk (Installs s i) why r may = falls c W n told h devices x disk (first_lines n (Installs s i) ++ gone_line n why) r (one c W n told h devices (site (Up x) disk) (Forgets (Installs s i) why) r may) (lost_mute n (Installs s i) why)
forgets c W n told h devices x disk (Starts a k s) why r may =
    falls c W n told h devices x disk (first_lines n (Starts a k s) ++ gone_line n why) r (one c W n told h devices (site (Up x) disk) (Forgets (Starts a k s) why) r may) (lost_mute n (Starts a k s) why)
forgets c W n told h devices x disk (Sits s e) why r may = falls c W n told h devices x disk (first_lines n (Sits s e) ++ gone_line n why) r (one c W n told h devices (site (Up x) disk) (Forgets (Sits s e) why) r may) (lost_mute n (Sits s e) why)
forgets c W n told h devices x disk (Distrusts d) why r may = falls c W n told h devices x disk (first_lines n (Distrusts d) ++ gone_line n why) r (one c W n told h devices (site (Up x) disk) (Forgets (Distrusts d) why) r may) (lost_mute n (Distrusts d) why)
forgets c W n told h devices x disk (Admits at command a d) why r may =
    falls c W n told h devices x disk (first_lines n (Admits at command a d) ++ gone_line n why) r (one c W n told h devices (site (Up x) disk) (Forgets (Admits at command a d) why) r may) (lost_mute n (Admits at command a d) why)
forgets c W n told h devices x disk (Acks s p q left text) why r may =
    falls c W n told h devices x disk (first_lines n (Acks s p q left text) ++ gone_line n why) r (one c W n told h devices (site (Up x) disk) (Forgets (Acks s p q left text) why) r may) (lost_mute n (Acks s p q left text) why)
forgets c W n told h devices x disk (Prepares s text) why r may =
    falls c W n told h devices x disk (first_lines n (Prepares s text) ++ gone_line n why) r (one c W n told h devices (site (Up x) disk) (Forgets (Prepares s text) why) r may) (lost_mute n (Prepares s text) why)
forgets c W n told h devices x disk (Commits s) why r may = falls c W n told h devices x disk (first_lines n (Commits s) ++ gone_line n why) r (one c W n told h devices (site (Up x) disk) (Forgets (Commits s) why) r may) (lost_mute n (Commits s) why)

saves : (c : Cluster) (W : Whole) (n : ℕ) (told : Delivered) (h : Hand) (devices : Devices) (x : UpNode) (disk : NodeRecord) (ch : Change) → Ready c W n told h devices (site (Up x) disk)
    → MayChange c n told x ch → AtChange x ch
    → DoingGoes c W n devices (site (Up (changed c n x ch)) (record_of (changed c n x ch))) (first_lines n ch ++ saved_lines c n x ch) (of_change n ch) h
saves c W n told h devices x disk ch r may so =
    let S : Setting = setting_of c in
    let y : UpNode = changed c n x ch in
    let os : List Output = first_lines n ch ++ saved_lines c n x ch in
    let g : GoesOn c W.memberships n (site (Up y) (record_of y)) os (of_change n ch) = one c W n told h devices (site (Up x) disk) (Saves ch) r may in
    let k : ChangeAt c W n devices y g.machine = made_run c W n told h devices x disk ch r may so g.machine g.run in
    finish c W n told h h devices devices (site (Up x) disk) (site (Up y) (record_of y)) os (of_change n ch) r g k.goes (joins c W n told h devices (site (Up x) disk) (Saves ch) r may) k.own k.valid
    (mute_told k.goes.machine n os (saved_mute c n x ch)) (hand_stays S W k.goes.machine n n h r.reached k.goes.moves r.hand)

does_up : (c : Cluster) (W : Whole) (n : ℕ) (told : Delivered) (h : Hand) (devices : Devices) (x : UpNode) (disk : NodeRecord) (d : Doing) → Ready c W n told h devices (site (Up x) disk)
    → May c n told (site (Up x) disk) d → AtDoing n told h (site (Up x) disk) d
    → DoingGoes c W n devices (effect c n (site (Up x) disk) d) (gives c n (site (Up x) disk) d) (of_doing n d) (hand_after h d)
does_up c W n told h devices x disk Comes_up r may so = absurd may
does_up c W n told h devices x disk (Goes_down why) r may so =
    falls c W n told h devices x disk (gone_line n why) r (one c W n told h devices (site (Up x) disk) (Goes_down why) r may) tt
does_up c W n told h devices x disk (Does a) r may so = act_goes c W n told h devices x disk a r may so
does_up c W n told h devices x disk (Saves ch) r may so = saves c W n told h devices x disk ch r may so
does_up c W n told h devices x disk (Loses ch why) r may so = loses c W n told h devices x disk ch why r may so
does_up c W n told h devices x disk (Forgets ch why) r may so = forgets c W n told h devices x disk ch why r may

does_down : (c : Cluster) (W : Whole) (n : ℕ) (told : Delivered) (h : Hand) (devices : Devices) (disk : NodeRecord) (d : Doing) → Ready c W n told h devices (site Down disk)
    → May c n told (site Down disk) d → DoingGoes c W n devices (effect c n (site Down disk) d) (gives c n (site Down disk) d) (of_doing n d) (hand_after h d)
unfolding stays_goes
does_down c W n told h devices disk Comes_up r may =
    let y : UpNode = up_with n (first_valid_of c n) disk in
    let g : GoesOn c W.memberships n (site (Up y) disk) _ [] = one c W n told h devices (site Down disk) Comes_up r may in
    let m : NodeGoes c W n devices disk (Up y) g.machine =
    stays_goes c W n devices disk (Up y) g.machine g.run r.tied (boots_go (setting_of c) c W n (first_valid_of c n) disk r.reached r.site_so.tied.0.session r.site_so.at) in
    finish c W n told h h devices devices (site Down disk) (site (Up y) disk) (gives c n (site Down disk) Comes_up) [] r g m (joins c W n told h devices (site Down disk) Comes_up r may)
    (record { me = refl; installs = tt }) r.site_so.valid tt r.hand
does_down c W n told h devices disk (Goes_down why) r may = absurd may
does_down c W n told h devices disk (Does a) r may = absurd may
does_down c W n told h devices disk (Saves ch) r may = absurd may
does_down c W n told h devices disk (Loses ch why) r may = absurd may
does_down c W n told h devices disk (Forgets ch why) r may = absurd may

pub doing_goes : (c : Cluster) (W : Whole) (n : ℕ) (told : Delivered) (h : Hand) (devices : Devices) (x : Site) (d : Doing) → Ready c W n told h devices x → May c n told x d → AtDoing n told h x d
    → DoingGoes c W n devices (effect c n x d) (gives c n x d) (of_doing n d) (hand_after h d)
doing_goes c W n told h devices x d r may so = by_node x.node r may so
  where
    by_node : (node : Node) → Ready c W n told h devices (site node x.disk) → May c n told (site node x.disk) d → AtDoing n told h (site node x.disk) d
        → DoingGoes c W n devices (effect c n (site node x.disk) d) (gives c n (site node x.disk) d) (of_doing n d) (hand_after h d)
    by_node Down r may so = does_down c W n told h devices x.disk d r may
    by_node (Up y) r may so = does_up c W n told h devices y x.disk d r may so
