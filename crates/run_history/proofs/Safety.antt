-- A write that a device takes by the lines is one that it takes, and so is safe by the lines.
use Rattle.std.specs.Prelude.{ℕ, ◌≡◌, ◌≤◌, ◌<◌, ◌==◌, ◌||◌, nat_le, Bool, true, false, List, [], ◌∷◌, Option, None, Some, MatchOption, find, is_ok, length, if◌then◌else◌}
use Rattle.std.proofs.Common.{refl, sym, subst, ◌∙◌, arith}
use Rattle.std.specs.List.{AllByRecursion, list_any}
use Rattle.cl_base.specs.Sets.{has}
use Rattle.cl_base.specs.declared.header.Header.{Header}
use Rattle.cl_base.specs.declared.method.Outcome as method
use Rattle.cluster_machine.specs.Parts.{WriteIsSafe}
use Rattle.cmm_attempt.proofs.Basics.{and_cases, false_true, same_number}
use Rattle.cmm_member.specs.Nodes.{NodeState}
use Rattle.cmm_member.specs.Records.{NodeRecord}
use Rattle.history.specs.DeviceRun.{armed_fault, state_of}
use Rattle.history.specs.DiskRule.{IsMembersOwn, IsMembersWrite, is_good, is_taken, takes}
use Rattle.history.specs.Member.{last_member}
use Rattle.history.specs.Moment.{Moment}
use Rattle.history.specs.Starts.{Start, is_started, start_of, starts}
use Rattle.membership_machine.specs.State.{Memberships}
use Rattle.node_model.specs.Devices.{may_write_as}
use Rattle.node_model.specs.declared.cluster.Cluster.{Cluster}
use Rattle.node_model.specs.declared.node.Node.{Node}
use Rattle.node_model.specs.declared.node.Node.TheVariants.{Down, Up}
use Rattle.node_model.specs.declared.node.UpNode.{UpNode}
use Rattle.node_model.specs.declared.seat.Seat.{Seat}
use Rattle.node_model.specs.declared.seat.Seat.TheVariants.{Forming, Member}
use Rattle.pgr_device.specs.Device.{Device}
use Rattle.pgr_device.specs.Spc.{step}
use Rattle.pgr_device.specs.declared.command.PrAnswer.{PrAnswer}
use Rattle.pgr_device.specs.declared.command.PrAnswer.TheVariants as given
use Rattle.pgr_device.specs.declared.command.PrCommand.TheVariants as command
use Rattle.refinement.specs.Doings.{site}
use Rattle.refinement.specs.Guards.{OfUp}
use Rattle.refinement.specs.Ties.{SeatTied}
use Rattle.run_history.proofs.Known.{first_listed, listed_is, write_named}
use Rattle.run_history.specs.WorldLines.{IsAtDevices, IsDevice}
use Rattle.run_history.specs.Members.{HasMemberLines, NodeLines, SeatLines}
use Rattle.run_history.specs.Starts.{StartTold}
use Rattle.world_model.specs.First.{first_cluster}
use Rattle.run_history.specs.Happenings as happening
use Rattle.run_history.specs.Happenings.{MayHappen}
use Rattle.run_history.specs.Scenes.{Scene, fault_in}
use Rattle.run_history.proofs.WholeEachRun.{runs_write_safely}
use Rattle.run_history.specs.Wholes.{IsWhole, TakesAt, TakesWrite}
use Rattle.run_history.specs.Sites.{SiteAt}

-- What is known of a scene that a run comes to.
pub record Known (h : Header) (s : Scene) : Type 0 where
  pub devices : IsAtDevices h s
  pub members : HasMemberLines s
  pub whole : IsWhole (first_cluster h) s
  pub started : AllByRecursion (StartTold whole.machine.memberships) (starts s.moments)

-- The device takes the write.

good_is : (a : PrAnswer) → is_good a ≡ true → a ≡ given.Good
good_is given.Good h = refl
good_is given.Conflict h = absurd (false_true h)
good_is given.InvalidRelease h = absurd (false_true h)
good_is given.NoPath h = absurd (false_true h)
good_is (given.Keys keys) h = absurd (false_true h)
good_is (given.Holder holder) h = absurd (false_true h)
good_is (given.Word w) h = absurd (false_true h)
good_is (given.Value v) h = absurd (false_true h)
good_is (given.Miscompare w) h = absurd (false_true h)

taken_at : (device : Device) (fault : Option Bool) (n value : ℕ) → is_taken fault (step device n (command.Write value)).answer ≡ true → TakesAt (Some device) fault n value
taken_at device None n value h = good_is (step device n (command.Write value)).answer h
taken_at device (Some true) n value h = good_is (step device n (command.Write value)).answer h
taken_at device (Some false) n value h = absurd (false_true h)

taken_there : (h : Header) (s : Scene) (n d value : ℕ) → IsAtDevices h s → 1 ≤ n → IsDevice h d → takes h s.moments n d value ≡ true → TakesWrite s n d value
taken_there h s n d value at low is taken =
    subst (λ o. TakesAt o (fault_in s n d) n value) (sym (at.states d is))
    (subst (λ f. TakesAt (Some (state_of h d s.moments)) f n value) (sym (at.armed n d low is)) (taken_at (state_of h d s.moments) (armed_fault n d s.moments) n value taken))

-- The start of its membership.

record Found (M : Memberships) (e : ℕ) (ss : List Start) : Type 0 where
  start : Start
  found : find (λ s. s.epoch == e) ss ≡ Some start
  epoch : start.epoch ≡ e
  told : StartTold M start

start_found : (M : Memberships) (e : ℕ) (ss : List Start) → list_any (λ s. s.epoch == e) ss ≡ true → AllByRecursion (StartTold M) ss → Found M e ss
start_found M e [] h all = absurd (false_true h)
start_found M e (s ∷ ss) h all = by_test (s.epoch == e) refl h (λ k. start_found M e ss k all.1)
  where
    more : Found M e ss → (s.epoch == e) ≡ false → Found M e (s ∷ ss)
    more f differs = record {
      start = f.start;
      found = subst (λ b. (if b then Some s else find (λ z. z.epoch == e) ss) ≡ Some f.start) (sym differs) f.found;
      epoch = f.epoch;
      told = f.told;
    }

    by_test : (b : Bool) → (s.epoch == e) ≡ b → (b || list_any (λ z. z.epoch == e) ss) ≡ true → (list_any (λ z. z.epoch == e) ss ≡ true → Found M e ss) → Found M e (s ∷ ss)
    by_test true is k f = record {
      start = s;
      found = subst (λ b. (if b then Some s else find (λ z. z.epoch == e) ss) ≡ Some s) (sym is) refl;
      epoch = same_number s.epoch e is;
      told = all.0;
    }
    by_test false is k f = more (f k) is

-- each greater one that holds the device is not greater
none_greater : (M : Memberships) (d q n : ℕ) (ss : List Start) → ((f : ℕ) → (M.epoch f).counted ≡ true → (M.epoch f).holds d ≡ true → f ≤ q) → AllByRecursion (StartTold M) ss
    → AllByRecursion (λ (other : Start). q < other.epoch → has other.held d ≡ true → has other.members n ≡ true) ss
none_greater M d q n [] none all = tt
none_greater M d q n (s ∷ ss) none all = (
  λ greater holds. absurd (not_both q s.epoch greater (none s.epoch all.0.counted (all.0.held d ∙ holds))),
  none_greater M d q n ss none all.1,
)
  where
    not_both : (a b : ℕ) → a < b → b ≤ a → ⊥
    not_both a b l m = omega (arith, l, m)

members_write : (M : Memberships) (ms : List Moment) (n d q : ℕ) (s : Start) → s.epoch ≡ q → StartTold M s → (M.epoch q).members n ≡ true → (M.epoch q).holds d ≡ true
    → ((f : ℕ) → (M.epoch f).counted ≡ true → (M.epoch f).holds d ≡ true → f ≤ q) → AllByRecursion (StartTold M) (starts ms) → IsMembersWrite ms n d s
members_write M ms n d q s is told member holds none all = record {
  member = (and_cases (nat_le n 32) (has s.members n) (sym (told.members n) ∙ subst (λ e. (M.epoch e).members n ≡ true) (sym is) member)).1;
  held = sym (told.held d) ∙ subst (λ e. (M.epoch e).holds d ≡ true) (sym is) holds;
  left_out_by_none = subst (λ e. AllByRecursion (λ (other : Start). e < other.epoch → has other.held d ≡ true → has other.members n ≡ true) (starts ms)) (sym is) (none_greater M d q n (starts ms) none all);
}

-- A node that may write is a member.

record Writer (seat : Seat) : Type 0 where
  state : NodeState
  member : seat ≡ Member state

writer : (c : Cluster) (n d : ℕ) (seat : Seat) → is_ok (may_write_as c n d seat) ≡ true → Writer seat
writer c n d (Forming s) h = absurd (false_true h)
writer c n d (Member s) h = record { state = s; member = refl }

own_by : (h : Header) (s : Scene) (k : Known h s) (n d : ℕ) (x : UpNode) (disk : NodeRecord) (q : ℕ) → WriteIsSafe k.whole.machine d n → (k.whole.machine.memberships.node n).session ≡ q
    → last_member n s.moments ≡ Some q → is_started q s.moments ≡ true → IsMembersOwn s.moments n d
own_by h s k n d x disk q safe session last started =
    let M : Memberships = k.whole.machine.memberships in
    let f : Found M q (starts s.moments) = start_found M q (starts s.moments) started k.started in
    subst (λ o. MatchOption o ⊥ (λ e. MatchOption (start_of e s.moments) ⊥ (IsMembersWrite s.moments n d))) (sym last)
    (subst (λ o. MatchOption o ⊥ (IsMembersWrite s.moments n d)) (sym f.found)
    (members_write M s.moments n d q f.start f.epoch f.told (subst (λ e. (M.epoch e).members n ≡ true) session safe.member) (subst (λ e. (M.epoch e).holds d ≡ true) session safe.holds)
    (λ e counted holds. subst (λ z. e ≤ z) session (safe.none_greater e counted holds)) k.started))

own_of : (h : Header) (s : Scene) (k : Known h s) (n d : ℕ) (node : Node) (disk : NodeRecord) → WriteIsSafe k.whole.machine d n → SiteAt (first_cluster h) k.whole.machine n (site node disk)
    → NodeLines n node s.moments → OfUp (λ x. is_ok (may_write_as (first_cluster h) n d x.seat) ≡ true) node → IsMembersOwn s.moments n d
own_of h s k n d Down disk safe at lines may = absurd may
own_of h s k n d (Up x) disk safe at lines may =
    let c : Cluster = first_cluster h in
    let M : Memberships = k.whole.machine.memberships in
    let w : Writer x.seat = writer c n d x.seat may in
    let tied : SeatTied c M n disk x.attempt (Member w.state) = subst (λ seat. SeatTied c M n disk x.attempt seat) w.member at.tied.0 in
    let said : (last_member n s.moments ≡ Some w.state.session) × (is_started w.state.session s.moments ≡ true) =
    subst (λ seat. SeatLines n seat s.moments) w.member lines.1 in
    own_by h s k n d x disk w.state.session safe tied.0.session said.0 said.1

write_at : (h : Header) (n d : ℕ) (node : Node) → length h.devices ≤ 16 → OfUp (λ x. is_ok (may_write_as (first_cluster h) n d x.seat) ≡ true) node → IsDevice h d
write_at h n d Down few may = absurd may
write_at h n d (Up x) few may = listed_is h d few (write_named (first_cluster h) n d x.seat (first_listed h few) may)

pub write_own : (h : Header) (s : Scene) (k : Known h s) (n d value now : ℕ) (ends : method.Outcome) → length h.devices ≤ 16 → MayHappen (first_cluster h) s (happening.Writes n d value now ends)
    → takes h s.moments n d value ≡ true → IsMembersOwn s.moments n d
write_own h s k n d value now ends few may taken =
    let is : IsDevice h d = write_at h n d (s.nodes.node n) few may.1 in
    own_of h s k n d (s.nodes.node n) (s.nodes.disk n).kept
    (runs_write_safely (first_cluster h) s k.whole n d value now ends may (taken_there h s n d value k.devices may.0.0 is taken)) (k.whole.sites n) (k.members.nodes n) may.1
