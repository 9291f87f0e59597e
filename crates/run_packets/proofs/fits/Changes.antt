-- Each change of a node, and what it does in memory, keeps its members to the cluster's nodes and its devices to the cluster's devices.
use Rattle.std.specs.Prelude.{ℕ, ◌≡◌, ◌<◌, true, Option, None, Some, IfSome}
use Rattle.std.specs.List.{AllByRecursion, list_all}
use Rattle.std.proofs.Common.{refl, sym, ap, subst, ◌∙◌}
use Rattle.attempt_laws.proofs.Goes.{chosen_reached, goes_by_call}
use Rattle.attempt_laws.proofs.Stays.{plan_begins, plan_stays}
use Rattle.ccr_commit.specs.Entries.{all_committed, with_next}
use Rattle.cl_base.specs.Sets.{has, set_without}
use Rattle.cmm_attempt.proofs.Basics.{if_either}
use Rattle.cmm_attempt.specs.Attempts.{AttemptState, install_in}
use Rattle.cmm_attempt.specs.Calls.{Call, May as MayTake, turn}
use Rattle.cmm_attempt.specs.declared.plan.Plan.{Plan}
use Rattle.cmm_member.specs.Nodes.{NodeState, with_entries, with_joined, with_valid}
use Rattle.cmm_member.specs.Records.{NodeRecord}
use Rattle.device_queue.specs.Queue.{after_seize}
use Rattle.membership_machine.specs.State.{Memberships}
use Rattle.node_model.specs.Attempts.{own_promise}
use Rattle.node_model.specs.Members.{is_known_reading, rested_by}
use Rattle.node_model.specs.Seats.{promising, record_of, state_of, with_state}
use Rattle.node_model.specs.declared.cluster.Cluster.{Cluster}
use Rattle.node_model.specs.declared.node.UpNode.{UpNode}
use Rattle.node_model.specs.declared.seat.Seat.{Seat}
use Rattle.node_model.specs.declared.seat.Seat.TheVariants.{Forming, Member}
use Rattle.refinement.proofs.Attempts.{may_be_called}
use Rattle.refinement.proofs.Texts.{member_has, state_with}
use Rattle.refinement.specs.Doings.{Act, Change, acted, changed}
use Rattle.refinement.specs.Doings.Act.{Accepts, Dates, Ends, Gives, Goes_on, Hears, Makes, Minds, Notes, Queues, Spreads, Stores, Takes, Ticks, Waits, Works, Writes}
use Rattle.refinement.specs.Doings.Change.{Acks, Admits, Commits, Counts, Distrusts, Installs, Leads, Prepares, Promises, Proposes, Sits, Starts}
use Rattle.refinement.specs.Guards.{MayAct, MayCall, MayChange, Says}
use Rattle.refinement.specs.Ties.{Delivered}
use Rattle.run_attempts.proofs.Views.{change_same}
use Rattle.run_history.proofs.Changes.{At, at_attempt}
use Rattle.run_history.proofs.LineAttempts.{turn_names}
use Rattle.run_history.specs.Names.{AttemptNames, IsListed}
use Rattle.run_packets.proofs.native.Writes.{install_members}
use Rattle.run_packets.specs.native.Named.{InNodes}
use Rattle.seize.specs.Seizing as seizing
use Rattle.wire.specs.declared.lists.Reading.{Reading}
use Rattle.wire.specs.declared.message.Body.TheVariants as body
use Rattle.wire.specs.declared.message.Install.{Install}
use Rattle.run_packets.proofs.fits.Sets.{AllListed, Numbered, install_listed, joined_listed, known_listed, own_listed, without_listed}
use Rattle.run_packets.specs.fits.Known.{BroughtIn, HandIn, KnownAct, KnownChange, RecordIn, UpIn}

-- ---- where members and devices stay

record Same (r s : NodeRecord) : Type 0 where
  installed : s.installed ≡ r.installed
  members : s.members ≡ r.members
  valid : s.valid ≡ r.valid

same_in : (c : Cluster) (n : ℕ) (r s : NodeRecord) → Same r s → RecordIn c n r → RecordIn c n s
same_in c n r s k h = record {
  members = subst (InNodes c) (sym k.members) h.members;
  valid = subst (AllListed c) (sym k.valid) h.valid;
  own = subst (λ m. 0 < s.installed → has m n ≡ true) (sym k.members) (subst (λ i. 0 < i → has r.members n ≡ true) (sym k.installed) h.own);
}

promise_same : (p : ℕ) (x : UpNode) (o : Option AttemptState) → Same (record_of x) (record_of (rested_by (promising x p) o))
promise_same p x None = record { installed = refl; members = refl; valid = refl }
promise_same p x (Some a) = record { installed = refl; members = refl; valid = refl }

seat_same : (x : UpNode) (s : NodeState) (seat : Seat) → x.seat ≡ seat → state_of seat ≡ s → Same (record_of x) s.saved
seat_same x s seat is same =
    let at : s ≡ state_of x.seat = sym same ∙ ap state_of (sym is) in
    record { installed = ap (λ (t : NodeState). t.saved.installed) at; members = ap (λ (t : NodeState). t.saved.members) at; valid = ap (λ (t : NodeState). t.saved.valid) at }

state_record : (x y : UpNode) (t : NodeState) → y.seat ≡ with_state x.seat t → record_of y ≡ t.saved
state_record x y t is = ap (λ (z : Seat). (state_of z).saved) is ∙ ap (λ (z : NodeState). z.saved) (state_with x.seat t)

-- ---- what is installed

seat_in : (c : Cluster) (n : ℕ) (x : UpNode) (s : NodeState) (seat : Seat) → x.seat ≡ seat → state_of seat ≡ s → RecordIn c n (record_of x) → RecordIn c n s.saved
seat_in c n x s seat is same h = same_in c n (record_of x) s.saved (seat_same x s seat is same) h

attempt_is : (c : Cluster) (o : Option AttemptState) (a : AttemptState) → o ≡ Some a → IfSome o (λ (b : AttemptState). InNodes c b.plan.members) → InNodes c a.plan.members
attempt_is c o a is h = subst (λ (z : Option AttemptState). IfSome z (λ (b : AttemptState). InNodes c b.plan.members)) is h

turned_in : (c : Cluster) (told : Delivered) (x : UpNode) (a : AttemptState) (k : Call) → x.attempt ≡ Some a → MayCall c told a k → UpIn c x → InNodes c (turn a k).after.plan.members
turned_in c told x a k is may h = subst (λ (p : Plan). InNodes c p.members) (sym (plan_stays a k (may_be_called c told a k may))) (attempt_is c x.attempt a is h.attempt)

counted_in : (c : Cluster) (M : Memberships) (n : ℕ) (told : Delivered) (disk : NodeRecord) (x : UpNode) (a : AttemptState) (k : Call) (s : NodeState) (i : Install) → Numbered c → At c M n told disk x → MayChange c n told x (Counts a k s i)
    → AttemptNames (IsListed c) a → UpIn c x → RecordIn c n (record_of x) → RecordIn c n (record_of (changed c n x (Counts a k s i)))
counted_in c M n told disk x a k s i num at may names h r =
    let t : AttemptState = (turn a k).after in
    let take : MayTake a k = may_be_called c told a k may.2 in
    let same : i ≡ install_in t = at_attempt c M n told disk x a (i ≡ install_in t) at may.0 (λ z shows co. ((goes_by_call a k take (chosen_reached a co.reached)).install i may.3).1) in
    let plan : t.plan ≡ a.plan = plan_stays a k take in
    let members : i.members ≡ a.plan.members = ap (λ (j : Install). j.members) same ∙ (install_members t ∙ ap (λ (p : Plan). p.members) plan) in
    record {
      members = subst (InNodes c) (sym members) (attempt_is c x.attempt a may.0 h.attempt);
      valid = install_listed c s.me s.saved.valid i.readings num (subst (λ (j : Install). AllByRecursion (λ (z : Reading). IsListed c z.device) j.readings) (sym same) (own_listed (IsListed c) t (turn_names (IsListed c) a k names).0))
          (seat_in c n x s (Forming s) may.1 refl r).valid;
      own = λ some. subst (λ m. has m n ≡ true) (sym members)
          (at_attempt c M n told disk x a (has a.plan.members n ≡ true) at may.0
          (λ z shows co. member_has a.plan.members n
          (sym (co.has.members n) ∙ subst (λ j. (M.epoch a.plan.epoch).members j ≡ true) (sym co.has.coordinator ∙ co.coordinator) ((at.holds.epoch a.plan.epoch).tried_member co.has.tried))));
    }

brought : (c : Cluster) (told : Delivered) (i : Install) → Says (λ b. b ≡ body.Install i) told → HandIn c told → InNodes c i.members × (list_all (is_known_reading c) i.readings ≡ true)
brought c None i says h = absurd says
brought c (Some d) i says h = subst (BroughtIn c) says h

installed_in : (c : Cluster) (n : ℕ) (told : Delivered) (x : UpNode) (s : NodeState) (i : Install) → Numbered c → MayChange c n told x (Installs s i) → HandIn c told → RecordIn c n (record_of x)
    → RecordIn c n (record_of (changed c n x (Installs s i)))
installed_in c n told x s i num may hand r =
    let b : InNodes c i.members × (list_all (is_known_reading c) i.readings ≡ true) = brought c told i may.1 hand in
    record {
      members = b.0;
      valid = install_listed c s.me s.saved.valid i.readings num (known_listed c i.readings b.1) (seat_in c n x s (Forming s) may.0 refl r).valid;
      own = λ some. member_has i.members n may.5;
    }

-- ---- the record that a change makes

pub change_record : (c : Cluster) (M : Memberships) (n : ℕ) (told : Delivered) (disk : NodeRecord) (x : UpNode) (ch : Change) → Numbered c → At c M n told disk x → MayChange c n told x ch → KnownChange c x ch → HandIn c told → UpIn c x
    → RecordIn c n (record_of x) → RecordIn c n (record_of (changed c n x ch))
change_record c M n told disk x (Promises p) num at may known hand up r = same_in c n (record_of x) _ (promise_same p x x.attempt) r
change_record c M n told disk x (Leads p members) num at may known hand up r = same_in c n (record_of x) _ (record { installed = refl; members = refl; valid = refl }) r
change_record c M n told disk x (Counts a k s i) num at may known hand up r = counted_in c M n told disk x a k s i num at may known up r
change_record c M n told disk x (Installs s i) num at may known hand up r = installed_in c n told x s i num may hand r
change_record c M n told disk x (Starts a k s) num at may known hand up r =
    same_in c n s.saved _ (record { installed = refl; members = refl; valid = refl }) (seat_in c n x s (Forming s) may.1 refl r)
change_record c M n told disk x (Sits s e) num at may known hand up r =
    same_in c n s.saved _ (record { installed = refl; members = refl; valid = refl }) (seat_in c n x s (Forming s) may.0 refl r)
change_record c M n told disk x (Distrusts d) num at may known hand up r =
    let t : NodeState = with_valid (state_of x.seat) (set_without (record_of x).valid d) in
    subst (RecordIn c n) (sym (state_record x (changed c n x (Distrusts d)) t refl)) (record { members = r.members; valid = without_listed c (record_of x).valid d r.valid; own = r.own })
change_record c M n told disk x (Admits on command a d) num at may known hand up r =
    let t : NodeState = with_joined (state_of x.seat) d in
    subst (RecordIn c n) (sym (state_record x (changed c n x (Admits on command a d)) t refl)) (record { members = r.members; valid = joined_listed c (record_of x).valid d num known r.valid; own = r.own })
change_record c M n told disk x (Proposes s p text) num at may known hand up r =
    let t : NodeState = with_entries (state_of x.seat) (with_next (record_of x).entries text) in
    subst (RecordIn c n) (sym (state_record x (changed c n x (Proposes s p text)) t refl)) (record { members = r.members; valid = r.valid; own = r.own })
change_record c M n told disk x (Acks s p q left text) num at may known hand up r =
    let t : NodeState = with_entries (state_of x.seat) (all_committed (record_of x).entries) in
    subst (RecordIn c n) (sym (state_record x (changed c n x (Acks s p q left text)) t refl)) (record { members = r.members; valid = r.valid; own = r.own })
change_record c M n told disk x (Prepares s text) num at may known hand up r =
    same_in c n s.saved _ (record { installed = refl; members = refl; valid = refl }) (seat_in c n x s (Member s) may.0 refl r)
change_record c M n told disk x (Commits s) num at may known hand up r =
    same_in c n s.saved _ (record { installed = refl; members = refl; valid = refl }) (seat_in c n x s (Member s) may.0 refl r)

-- ---- its attempt, and its view

seen_in : (c : Cluster) (x y : UpNode) → y.beats.view ≡ x.beats.view → IfSome x.beats.view (InNodes c) → IfSome y.beats.view (InNodes c)
seen_in c x y same h = subst (λ (o : Option ℕ). IfSome o (InNodes c)) (sym same) h

rested_none : (c : Cluster) (p : ℕ) (x : UpNode) (o : Option AttemptState) → IfSome (rested_by (promising x p) o).attempt (λ (a : AttemptState). InNodes c a.plan.members)
rested_none c p x None = tt
rested_none c p x (Some a) = tt

change_attempt : (c : Cluster) (n : ℕ) (told : Delivered) (x : UpNode) (ch : Change) → MayChange c n told x ch → KnownChange c x ch → UpIn c x
    → IfSome (changed c n x ch).attempt (λ (a : AttemptState). InNodes c a.plan.members)
change_attempt c n told x (Promises p) may known h = rested_none c p x x.attempt
change_attempt c n told x (Leads p members) may known h =
    let y : UpNode = record (promising x p) { greatest = p } in
    subst (InNodes c) (sym (plan_begins p members (own_promise n y p) c.attached c.id).of_members) (subst (λ (o : Option ℕ). IfSome o (InNodes c)) known.1 h.view)
change_attempt c n told x (Counts a k s i) may known h = turned_in c told x a k may.0 may.2 h
change_attempt c n told x (Installs s i) may known h = h.attempt
change_attempt c n told x (Starts a k s) may known h = tt
change_attempt c n told x (Sits s e) may known h = h.attempt
change_attempt c n told x (Distrusts d) may known h = h.attempt
change_attempt c n told x (Admits on command a d) may known h = h.attempt
change_attempt c n told x (Proposes s p text) may known h = h.attempt
change_attempt c n told x (Acks s p q left text) may known h = h.attempt
change_attempt c n told x (Prepares s text) may known h = h.attempt
change_attempt c n told x (Commits s) may known h = h.attempt

pub change_up : (c : Cluster) (n : ℕ) (told : Delivered) (x : UpNode) (ch : Change) → MayChange c n told x ch → KnownChange c x ch → UpIn c x → UpIn c (changed c n x ch)
change_up c n told x ch may known h = record { attempt = change_attempt c n told x ch may known h; view = seen_in c x (changed c n x ch) (change_same c n x ch).view h.view }

pub act_up : (c : Cluster) (n : ℕ) (told : Delivered) (x : UpNode) (a : Act) → MayAct c n told x a → KnownAct c x a → UpIn c x → UpIn c (acted c n x a)
act_up c n told x (Hears from b) may known h = record { attempt = h.attempt; view = h.view }
act_up c n told x Ticks may known h = record { attempt = h.attempt; view = known }
act_up c n told x Waits may known h = record { attempt = h.attempt; view = h.view }
act_up c n told x (Goes_on a k) may known h = record { attempt = turned_in c told x a k may.0 may.1 h; view = h.view }
act_up c n told x (Ends a e) may known h = record { attempt = tt; view = h.view }
act_up c n told x (Queues a d kind) may known h =
    if_either (UpIn c) (has a.plan.members n) (record x { tasks = after_seize x.tasks d (seizing.begun kind a.plan.epoch a.plan.members n c.id (has (record_of x).valid d)) }) x
    (record { attempt = h.attempt; view = h.view }) h
act_up c n told x (Accepts kind e members d) may known h = record { attempt = h.attempt; view = h.view }
act_up c n told x (Takes at command a) may known h = record { attempt = h.attempt; view = h.view }
act_up c n told x (Stores d value a) may known h = h
act_up c n told x (Writes to b) may known h = h
act_up c n told x (Makes ch) may known h = change_up c n told x ch may.0 known h
act_up c n told x (Gives os) may known h = h
act_up c n told x (Spreads receivers b) may known h = h
act_up c n told x (Minds q p) may known h = record { attempt = h.attempt; view = h.view }
act_up c n told x (Notes from place p) may known h = record { attempt = h.attempt; view = h.view }
act_up c n told x (Dates now) may known h = record { attempt = h.attempt; view = h.view }
act_up c n told x (Works w) may known h = record { attempt = h.attempt; view = h.view }
