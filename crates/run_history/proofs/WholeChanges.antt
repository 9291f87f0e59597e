-- Each change that is saved is steps of the whole.
use Rattle.std.specs.Prelude.{ℕ, ◌≡◌, All, List, [], ◌∷◌, Option, None, Some}
use Rattle.std.proofs.Common.{refl, sym, ap, subst, ◌∙◌}
use Rattle.attempt_laws.proofs.Goes.{ChosenIn, Goes, IsChosen, chosen_reached, goes_by_call}
use Rattle.attempt_laws.proofs.Stays.{plan_begins, plan_stays}
use Rattle.attempt_laws.specs.Machine.{MachineHas, is_member}
use Rattle.attempt_laws.specs.Staying.{IsOf}
use Rattle.ccr_commit.specs.Entries.{all_committed, with_next}
use Rattle.cl_base.specs.Sets.{set_with, set_without}
use Rattle.cluster_machine.specs.Cluster.{Cluster as Whole}
use Rattle.cluster_ties.proofs.Begins.{begins_go}
use Rattle.cluster_ties.proofs.Counts.{counts_go}
use Rattle.cluster_ties.proofs.Distrusts.{distrusts_go}
use Rattle.cluster_ties.proofs.Installs.{installs_go}
use Rattle.cluster_ties.proofs.Others.{sits_go, starts_go}
use Rattle.cluster_ties.proofs.Sessions.{promises_go}
use Rattle.cluster_ties.proofs.Updates.{acknowledges_go, commits_go, prepares_go, proposes_go}
use Rattle.cluster_ties.specs.Laws.{AreRead, CountGoes, count_of}
use Rattle.cluster_ties.specs.Moves.{DeviceGoes, IsReached, MembershipGoes, Moves}
use Rattle.cluster_ties.specs.Ties.{Devices, DevicesTied, NodeAt}
use Rattle.cluster_ties.specs.Told.{ToldOf}
use Rattle.cmm_attempt.proofs.Basics.{if_either, none_some}
use Rattle.cmm_attempt.specs.Attempts.{AttemptState, beginning, install_in}
use Rattle.cmm_attempt.specs.Calls as calls
use Rattle.cmm_attempt.specs.Calls.{Call, IsReached as IsReachedAttempt, May as MayTake, Run as Calls_run, installs_in, turn}
use Rattle.cmm_attempt.specs.declared.phase.Phase.TheVariants.{Installing}
use Rattle.cmm_member.specs.Nodes.{Devices as Joined_devices, NodeState, joining_all, joining_one, joins, with_entries, with_valid}
use Rattle.cmm_member.specs.Records.{NodeRecord}
use Rattle.machine_base.specs.Epochs.{coordinator}
use Rattle.membership_machine.specs.Events as membership
use Rattle.membership_machine.specs.State.{Memberships}
use Rattle.membership_machine.specs.Votes.{Setting}
use Rattle.node_model.specs.Attempts.{installing, own_promise, votes_in}
use Rattle.node_model.specs.Members.{rested_by}
use Rattle.node_model.specs.Seats.{promising, record_of, session_of, state_of}
use Rattle.node_model.specs.declared.cluster.Cluster.{Cluster}
use Rattle.node_model.specs.declared.node.Node.{Node}
use Rattle.node_model.specs.declared.node.Node.TheVariants.{Up}
use Rattle.node_model.specs.declared.node.UpNode.{UpNode}
use Rattle.node_model.specs.declared.presidency.Presidency.{Presidency}
use Rattle.node_model.specs.declared.seat.Seat.{Seat}
use Rattle.node_model.specs.declared.seat.Seat.TheVariants.{Forming, Member}
use Rattle.refinement.proofs.node_widths.Sets.{device_with, device_without}
use Rattle.refinement.proofs.Attempts.{has_after, may_be_called}
use Rattle.refinement.proofs.Changes.{first_not_installing}
use Rattle.refinement.proofs.Given.{Logged, logs_kept, votes_kept, votes_of_newest}
use Rattle.refinement.proofs.Presidents.{MemberTied, member_tied, presides_of}
use Rattle.refinement.proofs.Texts.{state_with}
use Rattle.refinement.specs.Doings.{Change, changed, going, site}
use Rattle.refinement.specs.Doings.Change.{Acks, Admits, Commits, Counts, Distrusts, Installs, Leads, Prepares, Promises, Proposes, Sits, Starts}
use Rattle.refinement.specs.Events.{of_change}
use Rattle.refinement.specs.Guards.{MayChange, Says}
use Rattle.refinement.specs.Ties.{Coordinates, Delivered, GivenIn, Known, NodeTied, SeatTied, SiteTied, setting_of}
use Rattle.cmm_member.specs.Machine.{ShowsForming}
use Rattle.wire.specs.Spelling.{IsDevices}
use Rattle.wire.specs.declared.lists.Reading.{Reading}
use Rattle.wire.specs.declared.message.Body.TheVariants as body
use Rattle.wire.specs.declared.message.Install.{Install}
use Rattle.run_history.proofs.Stays.{installs_stay, whole_holds}
use Rattle.run_history.proofs.Writing.{call_told, sees_up}
use Rattle.run_history.specs.Guards.{AtChange}
use Rattle.run_history.specs.Sites.{InstallsAt, IsCluster, KnownOf, Own, SiteAt}

-- what a step leaves: a state of the whole whose memberships are M, with the node in it
pub record NodeGoes (c : Cluster) (W : Whole) (n : ℕ) (devices : Devices) (disk : NodeRecord) (node : Node) (M : Memberships) : Type 0 where
  pub machine : Whole
  pub moves : Moves (setting_of c) W n machine
  pub memberships : machine.memberships ≡ M
  pub devices_so : DevicesTied c devices machine
  pub at : NodeAt c machine n disk node

pub by_membership : (c : Cluster) (W : Whole) (n : ℕ) (devices : Devices) (disk : NodeRecord) (node : Node) (e : membership.Event) (M : Memberships) → M ≡ membership.after W.memberships e
    → MembershipGoes (setting_of c) c W n e devices disk node → NodeGoes c W n devices disk node M
by_membership c W n devices disk node e M is m =
    record { machine = m.machine; moves = m.moves; memberships = m.memberships ∙ sym is; devices_so = m.devices_so; at = m.at }

pub by_device : (c : Cluster) (W : Whole) (n : ℕ) (devices : Devices) (disk : NodeRecord) (y : UpNode) (M : Memberships) → M ≡ W.memberships
    → DeviceGoes (setting_of c) c W n devices y → NodeGoes c W n devices disk (Up y) M
by_device c W n devices disk y M is m =
    record { machine = m.machine; moves = m.moves; memberships = m.memberships ∙ sym is; devices_so = m.devices_so; at = m.at }

-- with what the node has of its own
pub record ChangeAt (c : Cluster) (W : Whole) (n : ℕ) (devices : Devices) (y : UpNode) (M : Memberships) : Type 0 where
  pub goes : NodeGoes c W n devices (record_of y) (Up y) M
  pub own : Own goes.machine n y
  pub valid : IsDevices (record_of y).valid

-- The own attempt of a node.

pub record AttemptOf (c : Cluster) (M : Memberships) (n : ℕ) (x : UpNode) (a : AttemptState) : Type 0 where
  pub state : NodeState
  pub seat : x.seat ≡ Forming state
  pub shows : ShowsForming state (M.node n)
  pub coordinates : Coordinates c M n state a

pub attempt_of : (c : Cluster) (M : Memberships) (n : ℕ) (x : UpNode) (disk : NodeRecord) (a : AttemptState) → SeatTied c M n disk x.attempt x.seat → x.attempt ≡ Some a → AttemptOf c M n x a
attempt_of c M n x disk a tied is = by_seat x.seat refl (subst (λ o. SeatTied c M n disk o x.seat) is tied)
  where
    by_seat : (seat : Seat) → x.seat ≡ seat → SeatTied c M n disk (Some a) seat → AttemptOf c M n x a
    by_seat (Forming s) at h = record { state = s; seat = at; shows = h.0; coordinates = h.2 }
    by_seat (Member s) at h = absurd (none_some a (sym h.2))

pub epoch_of : (c : Cluster) (M : Memberships) (n : ℕ) (x : UpNode) (a : AttemptState) → AttemptOf c M n x a → a.plan.epoch ≡ session_of x
epoch_of c M n x a h = h.coordinates.epoch ∙ ap (λ z. (state_of z).session) (sym h.seat)

pub own_epoch : (c : Cluster) (M : Memberships) (n : ℕ) (x : UpNode) (a : AttemptState) → AttemptOf c M n x a → coordinator a.plan.epoch ≡ n
own_epoch c M n x a h = sym h.coordinates.has.coordinator ∙ h.coordinates.coordinator

-- its devices are those of the header
attached_run : (a : AttemptState) (ks : List Call) (t : AttemptState) → Calls_run a ks t → t.plan.attached ≡ a.plan.attached
attached_run a [] t run = ap (λ (z : AttemptState). z.plan.attached) run
attached_run a (k ∷ ks) t run = attached_run (turn a k).after ks t run.1 ∙ ap (λ p. p.attached) (plan_stays a k run.0)

pub attached_of : (a : AttemptState) → IsReachedAttempt a → All calls.IsDevice a.plan.attached
attached_of a r =
    let of : IsOf (beginning r.p r.members r.own r.attached r.cluster).after r.p r.members r.own r.attached r.cluster = plan_begins r.p r.members r.own r.attached r.cluster in
    subst (λ xs. All calls.IsDevice xs) (sym (attached_run (beginning r.p r.members r.own r.attached r.cluster).after r.calls a r.run ∙ of.of_attached)) r.devices

-- Valid devices.

joined_valid : (W : Whole) (q me : ℕ) (d : Joined_devices) (rs : List Reading) → AreRead W q rs → IsDevices d.valid → IsDevices (joining_all me d rs).valid
joined_valid W q me d [] read v = v
joined_valid W q me d (r ∷ rs) read v =
    joined_valid W q me (joining_one me d r) rs read.2
    (if_either (λ (z : Joined_devices). IsDevices z.valid) (joins me d.valid r) (record { valid = set_with d.valid r.device; joined = set_with d.joined r.device })
    (record { valid = set_without d.valid r.device; joined = set_without d.joined r.device })
    (device_with d.valid r.device v read.0.device) (device_without d.valid r.device v))

pub record_valid : (c : Cluster) (W : Whole) (n : ℕ) (x : UpNode) (disk : NodeRecord) → SiteAt c W n (site (Up x) disk) → IsDevices (record_of x).valid
record_valid c W n x disk at = subst (λ r. IsDevices r.valid) (sees_up c W n x disk at).disk_so at.valid

seat_valid : (c : Cluster) (W : Whole) (n : ℕ) (x : UpNode) (disk : NodeRecord) (s : NodeState) (seat : Seat) → SiteAt c W n (site (Up x) disk) → x.seat ≡ seat → state_of seat ≡ s → IsDevices s.saved.valid
seat_valid c W n x disk s seat at is same = subst (λ (z : NodeState). IsDevices z.saved.valid) (ap state_of is ∙ same) (record_valid c W n x disk at)

seat_me : (c : Cluster) (W : Whole) (n : ℕ) (x : UpNode) (disk : NodeRecord) (s : NodeState) (seat : Seat) → SiteAt c W n (site (Up x) disk) → x.seat ≡ seat → state_of seat ≡ s → s.me ≡ n
seat_me c W n x disk s seat at is same = subst (λ (z : NodeState). z.me ≡ n) (ap state_of is ∙ same) at.own.me

-- What an Install that came tells.

install_known : (W : Whole) (n : ℕ) (i : Install) (told : Delivered) → KnownOf W n told → Says (λ b. b ≡ body.Install i) told → ToldOf W n n (body.Install i)
install_known W n i None known says = absurd says
install_known W n i (Some d) known says = subst (λ b. ToldOf W d.0 n b) says known

-- A president.

own_session : (c : Cluster) (M : Memberships) (n : ℕ) (x : UpNode) (disk : NodeRecord) (s : NodeState) (p : Presidency) → NodeTied c M n disk (Up x) → x.presidency ≡ Some p → x.seat ≡ Member s
    → coordinator s.session ≡ n
own_session c M n x disk s p tied is seat =
    let m : MemberTied c M n x s = member_tied c M n x disk s tied seat in
    (presides_of M n x.presidency s p is m.president).own

-- The attempt counts.

counts_at : (c : Cluster) (W : Whole) (n : ℕ) (told : Delivered) (x : UpNode) (disk : NodeRecord) (a : AttemptState) (k : Call) (s : NodeState) (i : Install) (devices : Devices) (M : Memberships)
    → IsReached (setting_of c) W → DevicesTied c devices W → SiteAt c W n (site (Up x) disk) → Known W.memberships told → KnownOf W n told → MayChange c n told x (Counts a k s i)
    → AtChange x (Counts a k s i) → membership.Run (setting_of c) W.memberships (of_change n (Counts a k s i)) M → ChangeAt c W n devices (changed c n x (Counts a k s i)) M
unfolding by_membership
counts_at c W n told x disk a k s i devices M reached tied at known known_of may so run =
    let S : Setting = setting_of c in
    let t : AttemptState = (turn a k).after in
    let of : AttemptOf c W.memberships n x a = attempt_of c W.memberships n x disk a at.tied.0 may.0 in
    let co : Coordinates c W.memberships n of.state a = of.coordinates in
    let take : MayTake a k = may_be_called c told a k may.2 in
    let has : MachineHas W.memberships t =
    has_after c W.memberships n of.state told a k (whole_holds S W reached) known (record { session = of.shows.session; installed = ap (λ r. r.installed) of.shows.saved }) co may.2 in
    let goes : Goes a.phase (turn a k) = goes_by_call a k take (chosen_reached a co.reached) in
    let here : (t.phase ≡ Installing) × (i ≡ install_in t) = goes.install i may.3 in
    let chosen : IsChosen t.promises t.plan.nodes t.newest = subst (ChosenIn t) here.0 goes.chosen in
    let votes : GivenIn t.votes (votes_in c t) t.phase = votes_kept c told a k take may.2 co.votes in
    let given : t.votes ≡ Some (votes_in c t) = subst (GivenIn t.votes (votes_in c t)) here.0 votes in
    let logs : Logged c t = logs_kept c told a k take may.2 co.logs in
    let g : CountGoes S c W n (count_of t) devices (record_of (installing c n (going x a k) s [] i)) (Up (installing c n (going x a k) s [] i)) i =
    counts_go S c W n x s a k i (votes_in c t) devices reached tied at.at may.1 may.0 (seat_me c W n x disk s (Forming s) at may.1 refl) (seat_valid c W n x disk s (Forming s) at may.1 refl)
    co.reached take (own_epoch c W.memberships n x a of) co.has has
    (λ d. call_told c W n d told x disk a k reached at known_of may.2 so (epoch_of c W.memberships n x a of) co.coordinator)
    may.3 given (votes_of_newest c W.memberships t has logs chosen.1) (attached_of a co.reached) run.0 in
    record {
      goes = by_membership c W n devices _ _ (count_of t) M run.1 g.goes;
      own = record {
        me = seat_me c W n x disk s (Forming s) at may.1 refl;
        installs = λ is. subst (λ z. ToldOf g.goes.machine n n (body.Install z)) here.1 (g.counted, g.read);
      };
      valid = joined_valid g.goes.machine i.epoch s.me (record { valid = s.saved.valid; joined = 0 }) i.readings g.read (seat_valid c W n x disk s (Forming s) at may.1 refl);
    }

-- Each of the others.

rested_own : (V : Whole) (n p : ℕ) (x : UpNode) (o : Option AttemptState) → (state_of x.seat).me ≡ n → Own V n (rested_by (promising x p) o)
rested_own V n p x None me = record { me = me; installs = tt }
rested_own V n p x (Some a) me = record { me = me; installs = tt }

rested_valid : (p : ℕ) (x : UpNode) (o : Option AttemptState) → IsDevices (record_of x).valid → IsDevices (record_of (rested_by (promising x p) o)).valid
rested_valid p x None v = v
rested_valid p x (Some a) v = v

-- Its own attempt is the same, and its state that of a seat with other entries or other devices.
own_same : (c : Cluster) (W : Whole) (n : ℕ) (x : UpNode) (disk : NodeRecord) (devices : Devices) (y : UpNode) (M : Memberships) → IsReached (setting_of c) W → SiteAt c W n (site (Up x) disk)
    → (g : NodeGoes c W n devices (record_of y) (Up y) M) → (state_of y.seat).me ≡ n → y.attempt ≡ x.attempt → IsDevices (record_of y).valid → ChangeAt c W n devices y M
own_same c W n x disk devices y M reached at g me attempt valid = record {
  goes = g;
  own = record { me = me; installs = subst (InstallsAt g.machine n) (sym attempt) (installs_stay (setting_of c) W g.machine n n x.attempt reached g.moves at.own.installs) };
  valid = valid;
}

own_none : (c : Cluster) (W : Whole) (n : ℕ) (devices : Devices) (y : UpNode) (M : Memberships) → (g : NodeGoes c W n devices (record_of y) (Up y) M) → (state_of y.seat).me ≡ n → y.attempt ≡ None
    → IsDevices (record_of y).valid → ChangeAt c W n devices y M
own_none c W n devices y M g me attempt valid =
    record { goes = g; own = record { me = me; installs = subst (InstallsAt g.machine n) (sym attempt) tt }; valid = valid }

installs_at : (c : Cluster) (W : Whole) (n : ℕ) (told : Delivered) (x : UpNode) (disk : NodeRecord) (s : NodeState) (i : Install) (devices : Devices) (M : Memberships) → IsReached (setting_of c) W
    → DevicesTied c devices W → SiteAt c W n (site (Up x) disk) → KnownOf W n told → MayChange c n told x (Installs s i)
    → membership.Run (setting_of c) W.memberships (of_change n (Installs s i)) M → ChangeAt c W n devices (changed c n x (Installs s i)) M
installs_at c W n told x disk s i devices M reached tied at known may run =
    let known_i : ToldOf W n n (body.Install i) = install_known W n i told known may.1 in
    let me : s.me ≡ n = seat_me c W n x disk s (Forming s) at may.0 refl in
    let valid : IsDevices s.saved.valid = seat_valid c W n x disk s (Forming s) at may.0 refl in
    own_same c W n x disk devices (changed c n x (Installs s i)) M reached at
    (by_membership c W n devices _ _ (membership.Install n i.epoch) M run.1 (installs_go (setting_of c) c W n x s i devices reached tied at.at may.0 me valid run.0 known_i.1))
    me refl (joined_valid W i.epoch s.me (record { valid = s.saved.valid; joined = 0 }) i.readings known_i.1 valid)

leads_at : (c : Cluster) (W : Whole) (n p members : ℕ) (told : Delivered) (x : UpNode) (disk : NodeRecord) (devices : Devices) (M : Memberships) → IsCluster c → IsReached (setting_of c) W
    → DevicesTied c devices W → SiteAt c W n (site (Up x) disk) → MayChange c n told x (Leads p members)
    → membership.Run (setting_of c) W.memberships (of_change n (Leads p members)) M → SiteTied c M n (site (Up (changed c n x (Leads p members))) (record_of (changed c n x (Leads p members))))
    → ChangeAt c W n devices (changed c n x (Leads p members)) M
leads_at c W n p members told x disk devices M fits reached tied at may run after =
    let y : UpNode = record (promising x p) { greatest = p } in
    record {
      goes = by_membership c W n devices _ _ (membership.Begin p (is_member members)) M run.1
          (begins_go (setting_of c) c W n p members x devices reached tied at.at may.1 fits.fits.devices.attached fits.apart run.0
          (subst (λ N. MachineHas N (beginning p members (own_promise n y p) c.attached c.id).after) run.1 after.0.2.has));
      own = record { me = at.own.me; installs = λ is. absurd (first_not_installing p members (own_promise n y p) c.attached c.id is) };
      valid = record_valid c W n x disk at;
    }

pub change_at : (c : Cluster) (W : Whole) (n : ℕ) (told : Delivered) (x : UpNode) (disk : NodeRecord) (ch : Change) (devices : Devices) (M : Memberships) → IsCluster c → IsReached (setting_of c) W
    → DevicesTied c devices W → SiteAt c W n (site (Up x) disk) → Known W.memberships told → KnownOf W n told → MayChange c n told x ch → AtChange x ch
    → membership.Run (setting_of c) W.memberships (of_change n ch) M → SiteTied c M n (site (Up (changed c n x ch)) (record_of (changed c n x ch))) → ChangeAt c W n devices (changed c n x ch) M
change_at c W n told x disk (Promises p) devices M fits reached tied at known known_of may so run after = record {
  goes = by_membership c W n devices _ _ (membership.Promise n p) M run.1 (promises_go (setting_of c) c W n p x devices reached tied at.at run.0);
  own = rested_own _ n p x x.attempt at.own.me;
  valid = rested_valid p x x.attempt (record_valid c W n x disk at);
}
change_at c W n told x disk (Leads p members) devices M fits reached tied at known known_of may so run after = leads_at c W n p members told x disk devices M fits reached tied at may run after
change_at c W n told x disk (Counts a k s i) devices M fits reached tied at known known_of may so run after = counts_at c W n told x disk a k s i devices M reached tied at known known_of may so run
change_at c W n told x disk (Installs s i) devices M fits reached tied at known known_of may so run after = installs_at c W n told x disk s i devices M reached tied at known_of may run
change_at c W n told x disk (Starts a k s) devices M fits reached tied at known known_of may so run after =
    let t : AttemptState = (turn a k).after in
    let of : AttemptOf c W.memberships n x a = attempt_of c W.memberships n x disk a at.tied.0 may.0 in
    let own : coordinator t.plan.epoch ≡ n = ap (λ p. coordinator p.epoch) (plan_stays a k (may_be_called c told a k may.2)) ∙ own_epoch c W.memberships n x a of in
    own_none c W n devices (changed c n x (Starts a k s)) M
    (by_membership c W n devices _ _ (membership.Start t.plan.epoch) M run.1 (starts_go (setting_of c) c W n t.plan.epoch x t s devices tied at.at may.1 own run.0))
    (seat_me c W n x disk s (Forming s) at may.1 refl) refl (seat_valid c W n x disk s (Forming s) at may.1 refl)
change_at c W n told x disk (Sits s e) devices M fits reached tied at known known_of may so run after =
    own_same c W n x disk devices (changed c n x (Sits s e)) M reached at
    (by_membership c W n devices _ _ (membership.Join n e) M run.1 (sits_go (setting_of c) c W n e x s devices tied at.at may.0 run.0))
    (seat_me c W n x disk s (Forming s) at may.0 refl) refl (seat_valid c W n x disk s (Forming s) at may.0 refl)
change_at c W n told x disk (Distrusts d) devices M fits reached tied at known known_of may so run after =
    let s : NodeState = with_valid (state_of x.seat) (set_without (record_of x).valid d) in
    own_same c W n x disk devices (changed c n x (Distrusts d)) M reached at
    (by_device c W n devices _ _ M run (distrusts_go (setting_of c) c W n d x devices reached so.0 (record_valid c W n x disk at) tied at.at so.1 so.2))
    (ap (λ z. z.me) (state_with x.seat s) ∙ at.own.me) refl
    (subst (λ (z : NodeState). IsDevices z.saved.valid) (sym (state_with x.seat s)) (device_without (record_of x).valid d (record_valid c W n x disk at)))
change_at c W n told x disk (Admits command_at command a d) devices M fits reached tied at known known_of may so run after = absurd so
change_at c W n told x disk (Proposes s p text) devices M fits reached tied at known known_of may so run after =
    let s' : NodeState = with_entries (state_of x.seat) (with_next (record_of x).entries text) in
    own_same c W n x disk devices (changed c n x (Proposes s p text)) M reached at
    (by_membership c W n devices _ _ (membership.Propose s.session text) M run.1
    (proposes_go (setting_of c) c W n s.session x p text devices tied at.at (own_session c W.memberships n x disk s p at.tied may.0 may.1) run.0))
    (ap (λ z. z.me) (state_with x.seat s') ∙ at.own.me) refl
    (subst (λ (z : NodeState). IsDevices z.saved.valid) (sym (state_with x.seat s')) (record_valid c W n x disk at))
change_at c W n told x disk (Acks s p q left text) devices M fits reached tied at known known_of may so run after =
    let s' : NodeState = with_entries (state_of x.seat) (all_committed (record_of x).entries) in
    own_same c W n x disk devices (changed c n x (Acks s p q left text)) M reached at
    (by_membership c W n devices _ _ (membership.Acknowledge s.session) M run.1
    (acknowledges_go (setting_of c) c W n s.session x q (Some left) devices tied at.at (own_session c W.memberships n x disk s p at.tied may.0 may.1) run.0))
    (ap (λ z. z.me) (state_with x.seat s') ∙ at.own.me) refl
    (subst (λ (z : NodeState). IsDevices z.saved.valid) (sym (state_with x.seat s')) (record_valid c W n x disk at))
change_at c W n told x disk (Prepares s text) devices M fits reached tied at known known_of may so run after =
    own_same c W n x disk devices (changed c n x (Prepares s text)) M reached at
    (by_membership c W n devices _ _ (membership.Prepare n s.session text) M run.1 (prepares_go (setting_of c) c W n s.session x s text devices tied at.at may.0 run.0))
    (seat_me c W n x disk s (Member s) at may.0 refl) refl (seat_valid c W n x disk s (Member s) at may.0 refl)
change_at c W n told x disk (Commits s) devices M fits reached tied at known known_of may so run after =
    own_same c W n x disk devices (changed c n x (Commits s)) M reached at
    (by_membership c W n devices _ _ (membership.Commit n s.session) M run.1 (commits_go (setting_of c) c W n s.session x s devices tied at.at may.0 run.0))
    (seat_me c W n x disk s (Member s) at may.0 refl) refl (seat_valid c W n x disk s (Member s) at may.0 refl)
