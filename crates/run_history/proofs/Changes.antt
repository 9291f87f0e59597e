-- Each change of a node keeps what it has of messages, and its lines are behind those that they need.
use Rattle.std.specs.Prelude.{ℕ, ◌≡◌, ◌<◌, ◌≤◌, ◌==◌, ◌&&◌, ◌+◌, nat_le, Bool, true, false, List, length, Option, None, Some}
use Rattle.std.specs.List.{AllByRecursion, list_any}
use Rattle.std.proofs.Common.{refl, sym, ap, subst, ◌∙◌, arith}
use Rattle.attempt_laws.proofs.Goes.{chosen_reached, goes_by_call}
use Rattle.attempt_laws.proofs.Stays.{plan_stays}
use Rattle.attempt_laws.specs.Machine.{is_member}
use Rattle.attempt_laws.proofs.MachineLemmas.{starts_follow}
use Rattle.ccr_commit.specs.Entries.{texts_of}
use Rattle.cl_base.proofs.SetLemmas.{none_of_zero}
use Rattle.cl_base.specs.Limits.{most_nodes}
use Rattle.cl_base.specs.Sets.{has}
use Rattle.cmm_attempt.specs.Attempts.{AttemptState}
use Rattle.cmm_attempt.specs.Calls.{Call, May, installs_in, turn}
use Rattle.cmm_attempt.proofs.Basics.{none_some, same_number, same_some}
use Rattle.cmm_member.specs.Machine.{ShowsMember}
use Rattle.cmm_member.specs.Nodes.{NodeState}
use Rattle.cmm_member.specs.Records.{NodeRecord}
use Rattle.machine_base.specs.Epochs as machine
use Rattle.membership_machine.specs.Invariant.{Holds}
use Rattle.membership_machine.specs.State.{Memberships}
use Rattle.proposals.specs.Proposing.{is_prepared_in}
use Rattle.proposals.specs.declared.arrived.Proposed.{Proposed}
use Rattle.request_queue.specs.Queue.{Queue}
use Rattle.wire.specs.declared.message.Body.{Body}
use Rattle.wire.specs.declared.message.Body.TheVariants as body
use Rattle.wire.specs.declared.message.Install.{Install}
use Rattle.history.specs.Contact.{IsInstalled, IsPrepared, IsTold, came, has_answered, is_message_of, is_proposal, others}
use Rattle.history.specs.Letters.{Letter, is_letter, passes}
use Rattle.history.specs.Member.{number_of}
use Rattle.history.specs.Member as member
use Rattle.history.specs.Moment.{Moment}
use Rattle.history.specs.Names as name
use Rattle.history.specs.Seizing.{is_number}
use Rattle.history.specs.Setting.{coordinator}
use Rattle.history.specs.Starts.{is_started, members_in, start_of}
use Rattle.history.specs.Trace.{ack, installed, member as member_line}
use Rattle.node_model.specs.Members.{rested_by}
use Rattle.node_model.specs.Presidents.{next_place, others_of}
use Rattle.node_model.specs.Seats as seats
use Rattle.node_model.specs.Seats.{promised_of, promising, record_of, session_of, state_of, with_state}
use Rattle.node_model.specs.declared.cluster.Cluster.{Cluster}
use Rattle.node_model.specs.declared.node.Node.TheVariants.{Up}
use Rattle.node_model.specs.declared.node.UpNode.{UpNode}
use Rattle.node_model.specs.declared.presidency.Presidency.{Presidency}
use Rattle.node_model.specs.declared.seat.Seat.{Seat}
use Rattle.node_model.specs.declared.seat.Seat.TheVariants.{Forming, Member}
use Rattle.refinement.specs.Doings.{Change, changed}
use Rattle.refinement.specs.Doings.Change.{Acks, Admits, Commits, Counts, Distrusts, Installs, Leads, Prepares, Promises, Proposes, Sits, Starts}
use Rattle.refinement.specs.Guards.{Asks, MayCall, MayChange, Says}
use Rattle.refinement.specs.Ties.{Coordinates, CountedIn, Delivered, Known, MessageTold, NodeTied, PresidentTied, Presides, ProposedTied, SeatTied, setting_of}
use Rattle.refinement.proofs.Attempts.{install_epoch, may_be_called}
use Rattle.refinement.proofs.Changes.{sees}
use Rattle.refinement.proofs.Presidents.{MemberTied, member_tied, presides_of}
use Rattle.refinement.proofs.Ties.{sits_started}
use Rattle.run_history.specs.Causes.{Brought, Hand}
use Rattle.run_history.specs.Led.{ChangeLed, led_change}
use Rattle.run_history.specs.Noted.{AttemptIn, AttemptNoted, InstallNoted, PresidentNoted, ProposedNoted, SessionNoted, UpNoted}
use Rattle.run_history.proofs.Heard.{in_others, letter_so, low_number, own_number, own_of, same_install, same_start, turn_noted}
use Rattle.run_history.proofs.Ups.{Alike, alike_self, others_missing, same_seat, same_state, up_forming, up_same}
use Rattle.run_history.proofs.ContactStays.{or_right}

-- What is known of the node, which is tied.
pub record At (c : Cluster) (M : Memberships) (n : ℕ) (told : Delivered) (disk : NodeRecord) (x : UpNode) : Type 0 where
  pub holds : Holds (setting_of c) M
  pub known : Known M told
  pub tied : NodeTied c M n disk (Up x)

no_truth : false ≡ true → ⊥
no_truth e = cc

-- ---- its attempt

-- an attempt is of a node that is no member
of_seat : (c : Cluster) (M : Memberships) (n : ℕ) (disk : NodeRecord) (seat : Seat) (a : AttemptState) (Q : Type 0) → SeatTied c M n disk (Some a) seat
    → ((s : NodeState) → (M.node n).session ≡ s.session → Coordinates c M n s a → Q) → Q
of_seat c M n disk (Forming s) a Q tied f = f s tied.0.session tied.2
of_seat c M n disk (Member s) a Q tied f = absurd (none_some a (sym tied.2))

pub at_attempt : (c : Cluster) (M : Memberships) (n : ℕ) (told : Delivered) (disk : NodeRecord) (x : UpNode) (a : AttemptState) (Q : Type 0) → At c M n told disk x → x.attempt ≡ Some a
    → ((s : NodeState) → (M.node n).session ≡ s.session → Coordinates c M n s a → Q) → Q
at_attempt c M n told disk x a Q at is f = of_seat c M n disk x.seat a Q (subst (λ o. SeatTied c M n disk o x.seat) is at.tied.0) f

pub noted_of : (ms : List Moment) (n : ℕ) (o : Option AttemptState) (a : AttemptState) → o ≡ Some a → AttemptIn ms n o → AttemptNoted ms n a
noted_of ms n o a is h = subst (λ z. AttemptIn ms n z) is h

pub turned_in : (c : Cluster) (M : Memberships) (n : ℕ) (told : Delivered) (disk : NodeRecord) (x : UpNode) (a : AttemptState) (k : Call) (ms : List Moment) → At c M n told disk x → x.attempt ≡ Some a
    → MayCall c told a k → Hand ms n told → AttemptIn ms n x.attempt → AttemptNoted ms n (turn a k).after
turned_in c M n told disk x a k ms at is call hand h =
    at_attempt c M n told disk x a (AttemptNoted ms n (turn a k).after) at is
    (λ s shows co. turn_noted c ms n M s told a k at.holds shows at.known hand co call (noted_of ms n x.attempt a is h))

rested_in : (ms : List Moment) (n : ℕ) (x : UpNode) (p : ℕ) (o : Option AttemptState) → AttemptIn ms n (rested_by (promising x p) o).attempt
rested_in ms n x p None = tt
rested_in ms n x p (Some a) = tt

-- all but the beginning of an attempt
abbrev pub IsNoBeginning : Change → Type 0
IsNoBeginning (Leads p members) = ⊥
IsNoBeginning _ = Unit {0}

pub attempt_after : (c : Cluster) (M : Memberships) (n : ℕ) (told : Delivered) (disk : NodeRecord) (x : UpNode) (ch : Change) (ms : List Moment) → At c M n told disk x → IsNoBeginning ch
    → MayChange c n told x ch → Hand ms n told → AttemptIn ms n x.attempt → AttemptIn ms n (changed c n x ch).attempt
attempt_after c M n told disk x (Promises p) ms at is may hand h = rested_in ms n x p x.attempt
attempt_after c M n told disk x (Leads p members) ms at is may hand h = absurd is
attempt_after c M n told disk x (Counts a k s i) ms at is may hand h = turned_in c M n told disk x a k ms at may.0 may.2 hand h
attempt_after c M n told disk x (Installs s i) ms at is may hand h = h
attempt_after c M n told disk x (Starts a k s) ms at is may hand h = tt
attempt_after c M n told disk x (Sits s e) ms at is may hand h = h
attempt_after c M n told disk x (Distrusts d) ms at is may hand h = h
attempt_after c M n told disk x (Admits on command a d) ms at is may hand h = h
attempt_after c M n told disk x (Proposes s p text) ms at is may hand h = h
attempt_after c M n told disk x (Acks s p q left text) ms at is may hand h = h
attempt_after c M n told disk x (Prepares s text) ms at is may hand h = h
attempt_after c M n told disk x (Commits s) ms at is may hand h = h

-- ---- what it has installed

and_both : (a b : Bool) → a ≡ true → b ≡ true → (a && b) ≡ true
and_both true b h k = k
and_both false b h k = absurd (no_truth h)

is_same : (k : ℕ) → (k == k) ≡ true
is_same k = grind arith

-- the Install in hand is a message of its coordinator
message_so : (ms : List Moment) (n from : ℕ) (i : Install) (h : Brought ms n from (body.Install i)) → is_message_of i.epoch name.Install n h.letter ≡ true
message_so ms n from i h =
    and_both (is_letter name.Install (coordinator i.epoch) n h.letter) (is_number i.epoch (number_of h.letter))
    (letter_so name.Install (coordinator i.epoch) n h.letter same_install h.called (h.sender ∙ sym h.caused.0) h.receiver)
    (ap (λ (o : Option ℕ). is_number i.epoch o) (ap (λ k. member.attempt_of k h.letter.before) h.sender ∙ h.caused.1) ∙ is_same i.epoch)

install_brought : (ms : List Moment) (n : ℕ) (told : Delivered) (i : Install) (Q : Type 0) → Says (λ b. b ≡ body.Install i) told → Hand ms n told → ((from : ℕ) → Brought ms n from (body.Install i) → Q) → Q
install_brought ms n None i Q says hand f = absurd says
install_brought ms n (Some d) i Q says hand f = f d.0 (subst (λ b. Brought ms n d.0 b) says hand)

install_here : (ms : List Moment) (n : ℕ) (told : Delivered) (i : Install) → Says (λ b. b ≡ body.Install i) told → Hand ms n told → came i.epoch name.Install n ms ≡ true
install_here ms n told i says hand =
    install_brought ms n told i (came i.epoch name.Install n ms ≡ true) says hand (λ from h. h.reached_so (is_message_of i.epoch name.Install n) (message_so ms n from i h))

pub installed_line : (ms : List Moment) (n : ℕ) (told : Delivered) (i : Install) → Says (λ b. b ≡ body.Install i) told → Hand ms n told → IsInstalled ms (installed n i.epoch)
installed_line ms n told i says hand =
    install_brought ms n told i (IsInstalled ms (installed n i.epoch)) says hand
    (λ from h. or_right (n == coordinator i.epoch) _ (ap (λ (o : Option Letter). passes (is_message_of i.epoch name.Install n) o) h.here ∙ message_so ms n from i h))

-- what a count installs is of the attempt's own number
pub own_install : (c : Cluster) (M : Memberships) (n : ℕ) (told : Delivered) (disk : NodeRecord) (x : UpNode) (a : AttemptState) (k : Call) (i : Install) → At c M n told disk x → x.attempt ≡ Some a → MayCall c told a k
    → installs_in (turn a k).steps ≡ Some i → coordinator i.epoch ≡ n
own_install c M n told disk x a k i at is call gives =
    at_attempt c M n told disk x a (coordinator i.epoch ≡ n) at is
    (λ s shows co.
    ap coordinator (ap (λ (j : Install). j.epoch) ((goes_by_call a k (may_be_called c told a k call) (chosen_reached a co.reached)).install i gives).1 ∙ (install_epoch (turn a k).after ∙ ap (λ p. p.epoch) (plan_same a k call)))
    ∙ own_of c M n s a co)
  where
    plan_same : (b : AttemptState) (j : Call) → MayCall c told b j → (turn b j).after.plan ≡ b.plan
    plan_same b j may = plan_stays b j (may_be_called c told b j may)

at_state : (x : UpNode) (seat : Seat) (s : NodeState) → x.seat ≡ seat → state_of seat ≡ s → s.saved.installed ≡ (record_of x).installed
at_state x seat s is at = sym (ap (λ z. (state_of z).saved.installed) is ∙ ap (λ (z : NodeState). z.saved.installed) at)

rested_installed : (x : UpNode) (p : ℕ) (o : Option AttemptState) → (record_of (rested_by (promising x p) o)).installed ≡ (record_of x).installed
rested_installed x p None = refl
rested_installed x p (Some a) = refl

of_state : (seat : Seat) (s : NodeState) → (state_of (with_state seat s)).saved.installed ≡ s.saved.installed
of_state seat s = ap (λ (z : NodeState). z.saved.installed) (same_state seat s)

pub install_after : (c : Cluster) (M : Memberships) (n : ℕ) (told : Delivered) (disk : NodeRecord) (x : UpNode) (ch : Change) (ms : List Moment) → At c M n told disk x → MayChange c n told x ch → Hand ms n told
    → InstallNoted ms n disk.installed → InstallNoted ms n (record_of (changed c n x ch)).installed
install_after c M n told disk x ch ms at may hand h = by_change ch may
  where
    kept : (q : ℕ) → q ≡ (record_of x).installed → InstallNoted ms n q
    kept q is = subst (λ k. InstallNoted ms n k) (ap (λ (r : NodeRecord). r.installed) (sees c M n disk x.attempt x.seat at.tied.0).disk_so ∙ sym is) h

    by_change : (change : Change) → MayChange c n told x change → InstallNoted ms n (record_of (changed c n x change)).installed
    by_change (Promises p) may = kept _ (rested_installed x p x.attempt)
    by_change (Leads p members) may = kept _ refl
    by_change (Counts a k s i) may = λ some other. absurd (other (sym (own_install c M n told disk x a k i at may.0 may.2 may.3)))
    by_change (Installs s i) may = λ some other. install_here ms n told i may.1 hand
    by_change (Starts a k s) may = kept _ (at_state x (Forming s) s may.1 refl)
    by_change (Sits s e) may = kept _ (at_state x (Forming s) s may.0 refl)
    by_change (Distrusts d) may = kept _ (of_state x.seat _)
    by_change (Admits on command a d) may = kept _ (of_state x.seat _)
    by_change (Proposes s p text) may = kept _ (of_state x.seat _)
    by_change (Acks s p q left text) may = kept _ (of_state x.seat _)
    by_change (Prepares s text) may = kept _ (at_state x (Member s) s may.0 refl)
    by_change (Commits s) may = kept _ (at_state x (Member s) s may.0 refl)

-- ---- what a node that is up has then

-- no number that is promised now was tried by the node itself
pub untried : (c : Cluster) (M : Memberships) (n : ℕ) (told : Delivered) (disk : NodeRecord) (x : UpNode) (p : ℕ) → At c M n told disk x → machine.coordinator p ≡ n → promised_of x < p → (M.epoch p).tried ≡ true → ⊥
untried c M n told disk x p at own above tried =
    apart p (M.node n).promised (promised_of x) (subst (λ k. p ≤ (M.node k).promised) own ((at.holds.epoch p).tried_promised tried)) (sees c M n disk x.attempt x.seat at.tied.0).promised above
  where
    apart : (a b d : ℕ) → a ≤ b → b ≡ d → d < a → ⊥
    apart a b d l e m = grind arith

-- what is delivered asks so, and so it is so
asked_tried : (M : Memberships) (from p : ℕ) (b : Body) → Asks p b → MessageTold M from b → (M.epoch p).tried ≡ true
asked_tried M from p (body.Collect e members) asks told = subst (λ q. (M.epoch q).tried ≡ true) asks told.0
asked_tried M from p (body.Heartbeat promised session is_one) asks told = absurd asks
asked_tried M from p (body.Promise e newest members valid flagged committed pending) asks told = absurd asks
asked_tried M from p (body.Nack e promised) asks told = absurd asks
asked_tried M from p (body.SeizeQuorum e members d) asks told = absurd asks
asked_tried M from p (body.SeizeData e members d) asks told = absurd asks
asked_tried M from p (body.Seized e d outcome) asks told = absurd asks
asked_tried M from p (body.Install i) asks told = absurd asks
asked_tried M from p (body.Ready e joined report) asks told = absurd asks
asked_tried M from p (body.Start e) asks told = absurd asks
asked_tried M from p (body.Prepare e place text) asks told = absurd asks
asked_tried M from p (body.Prepared e place) asks told = absurd asks
asked_tried M from p (body.Commit e place) asks told = absurd asks
asked_tried M from p (body.Order o) asks told = absurd asks
asked_tried M from p (body.Done e number outcome) asks told = absurd asks
asked_tried M from p (body.Request e number text) asks told = absurd asks
asked_tried M from p (body.Answer e number text) asks told = absurd asks
asked_tried M from p (body.Excluded e newest) asks told = absurd asks

asked_known : (M : Memberships) (told : Delivered) (p : ℕ) → Says (Asks p) told → Known M told → (M.epoch p).tried ≡ true
asked_known M None p asks known = absurd asks
asked_known M (Some d) p asks known = asked_tried M d.0 p d.1.body asks known

machine_own : (p n : ℕ) → coordinator p ≡ n → machine.coordinator p ≡ n
unfolding machine.coordinator
machine_own p n h = h

-- the lines of a start and of a proposal, where the change has one
abbrev pub LineTold : List Moment → Change → Type 0
LineTold ms (Starts a k s) = (is_started (turn a k).after.plan.epoch ms ≡ true) × (members_in (start_of (turn a k).after.plan.epoch ms) ≡ (turn a k).after.plan.members)
LineTold ms (Proposes s p text) = list_any (is_proposal s.session (length (texts_of s.saved.entries) + 1)) ms ≡ true
LineTold ms _ = Unit {0}

rested_up : (ms : List Moment) (n : ℕ) (x : UpNode) (p : ℕ) (o : Option AttemptState) → SessionNoted ms n p → UpNoted ms n (rested_by (promising x p) o)
rested_up ms n x p None h = up_forming ms n (promising x p) tt h refl
rested_up ms n x p (Some a) h = up_forming ms n (rested_by (promising x p) (Some a)) tt h refl

-- in this seat
pub session_at : (x : UpNode) (seat : Seat) → x.seat ≡ seat → session_of x ≡ (state_of seat).session
session_at x seat is = ap (λ z. (state_of z).session) is

members_at : (x : UpNode) (seat : Seat) → x.seat ≡ seat → (record_of x).members ≡ (state_of seat).saved.members
members_at x seat is = ap (λ z. (state_of z).saved.members) is

is_member_at : (x : UpNode) (seat : Seat) → x.seat ≡ seat → seats.is_member x.seat ≡ seats.is_member seat
is_member_at x seat is = ap seats.is_member is

-- an attempt of a node that is forming
pub forming_attempt : (c : Cluster) (M : Memberships) (n : ℕ) (told : Delivered) (disk : NodeRecord) (x : UpNode) (a : AttemptState) (s : NodeState) → At c M n told disk x → x.attempt ≡ Some a → x.seat ≡ Forming s
    → SeatTied c M n disk (Some a) (Forming s)
forming_attempt c M n told disk x a s at is seat = subst (λ z. SeatTied c M n disk (Some a) z) seat (subst (λ o. SeatTied c M n disk o x.seat) is at.tied.0)

-- a president that has just started has nothing proposed
fresh_president : (ms : List Moment) (n q members : ℕ) (made p : Presidency) → made.proposals.proposed ≡ None → Some made ≡ Some p → members_in (start_of q ms) ≡ members
    → PresidentNoted ms n q members p.proposals.proposed
fresh_president ms n q members made p none is same =
    subst (λ (r : Presidency). PresidentNoted ms n q members r.proposals.proposed) (same_some made p is)
    (record { start = same; proposed = subst (λ o. ProposedNoted ms n q members o) (sym none) tt })

own_member : (c : Cluster) (M : Memberships) (n : ℕ) (s : NodeState) (p : Presidency) → Holds (setting_of c) M → ShowsMember s (M.node n) → Presides M n s p → is_member s.saved.members n ≡ true
own_member c M n s p i shows presides =
    let tried : (M.epoch s.session).tried ≡ true = (i.epoch s.session).counted_tried ((i.epoch s.session).started_counted (sits_started c M n s i shows)) in
    sym (presides.members n) ∙ subst (λ k. (M.epoch s.session).members k ≡ true) presides.own ((i.epoch s.session).tried_member tried)

starts_up : (c : Cluster) (M : Memberships) (n : ℕ) (told : Delivered) (disk : NodeRecord) (x : UpNode) (a : AttemptState) (k : Call) (s : NodeState) (ms : List Moment) → At c M n told disk x
    → MayChange c n told x (Starts a k s) → LineTold ms (Starts a k s) → UpNoted ms n x → UpNoted ms n (changed c n x (Starts a k s))
starts_up c M n told disk x a k s ms at may line h =
    let t : AttemptState = (turn a k).after in
    let co : Coordinates c M n s a = (forming_attempt c M n told disk x a s at may.0 may.1).2 in
    let call : May a k = may_be_called c told a k may.2 in
    let plan : t.plan ≡ a.plan = plan_stays a k call in
    let q : t.plan.epoch ≡ s.session = ap (λ p. p.epoch) plan ∙ co.epoch in
    let saved : s.saved.members ≡ a.plan.members = (subst (CountedIn M s a) (starts_follow a k co.reached call may.3) co.counted).2 in
    let members : t.plan.members ≡ s.saved.members = ap (λ p. p.members) plan ∙ sym saved in
    record {
      attempt = tt;
      session = subst (λ z. SessionNoted ms n z) (session_at x (Forming s) may.1) h.session;
      member = λ is. subst (λ z. is_started z ms ≡ true) q line.0;
      president = λ p has is. fresh_president ms n s.session s.saved.members _ p refl has (ap (λ z. members_in (start_of z ms)) (sym q) ∙ (line.1 ∙ members));
    }

sits_up : (c : Cluster) (M : Memberships) (n : ℕ) (told : Delivered) (disk : NodeRecord) (x : UpNode) (s : NodeState) (e : ℕ) (ms : List Moment) → At c M n told disk x
    → MayChange c n told x (Sits s e) → Hand ms n told → UpNoted ms n x → UpNoted ms n (changed c n x (Sits s e))
sits_up c M n told disk x s e ms at may hand h = record {
  attempt = h.attempt;
  session = subst (λ z. SessionNoted ms n z) (session_at x (Forming s) may.0) h.session;
  member = λ is. subst (λ z. is_started z ms ≡ true) (sym may.2) (started_brought told may.1 hand);
  president = λ p has is. absurd (no_president x.presidency p has (subst (λ z. PresidentTied M n x.presidency z) may.0 at.tied.1));
}
  where
    started_brought : (d : Delivered) → Says (λ b. b ≡ body.Start e) d → Hand ms n d → is_started e ms ≡ true
    started_brought None says k = absurd says
    started_brought (Some d) says k = (subst (λ b. Brought ms n d.0 b) says k).lasting

    no_president : (o : Option Presidency) (p : Presidency) → o ≡ Some p → PresidentTied M n o (Forming s) → ⊥
    no_president o p is k = subst (λ z. PresidentTied M n z (Forming s)) is k

proposes_up : (c : Cluster) (M : Memberships) (n : ℕ) (told : Delivered) (disk : NodeRecord) (x : UpNode) (s : NodeState) (p : Presidency) (text : List ℕ) (ms : List Moment) → At c M n told disk x
    → MayChange c n told x (Proposes s p text) → LineTold ms (Proposes s p text) → UpNoted ms n x → UpNoted ms n (changed c n x (Proposes s p text))
proposes_up c M n told disk x s p text ms at may line h =
    let y : UpNode = changed c n x (Proposes s p text) in
    let m : MemberTied c M n x s = member_tied c M n x disk s at.tied may.1 in
    let presides : Presides M n s p = presides_of M n x.presidency s p may.0 m.president in
    let members : (record_of x).members ≡ s.saved.members = members_at x (Member s) may.1 in
    let session : session_of y ≡ session_of x = ap (λ (z : NodeState). z.session) (same_state x.seat _) in
    let kept : (record_of y).members ≡ (record_of x).members = ap (λ (z : NodeState). z.saved.members) (same_state x.seat _) in
    let own : is_member (record_of x).members n ≡ true = ap (λ z. is_member z n) members ∙ own_member c M n s p at.holds m.shows presides in
    let place : list_any (is_proposal (session_of x) (next_place x)) ms ≡ true =
    subst (λ z. list_any (is_proposal (state_of z).session (length (texts_of (state_of z).saved.entries) + 1)) ms ≡ true) (sym may.1) line in
    let seat : seats.is_member x.seat ≡ true = is_member_at x (Member s) may.1 in
    record {
      attempt = h.attempt;
      session = subst (λ q. SessionNoted ms n q) (sym session) h.session;
      member = λ is. subst (λ q. is_started q ms ≡ true) (sym session) (h.member seat);
      president = λ r has is.
          subst (λ (z : Presidency). PresidentNoted ms n (session_of y) (record_of y).members z.proposals.proposed) (same_some _ r has)
          (subst (λ q. PresidentNoted ms n q (record_of y).members (Some (record { place = next_place x; missing = others_of n x }))) (sym session)
          (subst (λ z. PresidentNoted ms n (session_of x) z (Some (record { place = next_place x; missing = others_of n x }))) (sym kept)
          (record {
            start = (h.president p may.0 seat).start;
            proposed = (place, λ k member other missing. absurd (others_missing n (record_of x).members k own member other missing));
          })));
    }

acks_up : (c : Cluster) (n : ℕ) (told : Delivered) (x : UpNode) (s : NodeState) (p left : Presidency) (q : Queue) (text : List ℕ) (ms : List Moment)
    → MayChange c n told x (Acks s p q left text) → UpNoted ms n x → UpNoted ms n (changed c n x (Acks s p q left text))
acks_up c n told x s p left q text ms may h =
    let y : UpNode = changed c n x (Acks s p q left text) in
    let session : session_of y ≡ session_of x = ap (λ (z : NodeState). z.session) (same_state x.seat _) in
    let kept : (record_of y).members ≡ (record_of x).members = ap (λ (z : NodeState). z.saved.members) (same_state x.seat _) in
    let seat : seats.is_member x.seat ≡ true = is_member_at x (Member s) may.1 in
    record {
      attempt = h.attempt;
      session = subst (λ z. SessionNoted ms n z) (sym session) h.session;
      member = λ is. subst (λ z. is_started z ms ≡ true) (sym session) (h.member seat);
      president = λ r has is.
          fresh_president ms n (session_of y) (record_of y).members left r may.3 has
          (ap (λ z. members_in (start_of z ms)) session ∙ ((h.president p may.0 seat).start ∙ sym kept));
    }

-- another state in the same kind of seat
kept_up : (ms : List Moment) (n : ℕ) (x y : UpNode) (s : NodeState) → y.seat ≡ with_state x.seat s → y.attempt ≡ x.attempt → y.presidency ≡ x.presidency → s.session ≡ session_of x → s.saved.members ≡ (record_of x).members
    → UpNoted ms n x → UpNoted ms n y
kept_up ms n x y s seat tries presidency session members h =
    let state : state_of y.seat ≡ s = ap state_of seat ∙ same_state x.seat s in
    up_same ms n x y (subst (λ o. AttemptIn ms n o) (sym tries) h.attempt) (ap (λ (z : NodeState). z.session) state ∙ session) (ap (λ (z : NodeState). z.saved.members) state ∙ members)
    (ap seats.is_member seat ∙ same_seat x.seat s) (subst (λ o. Alike x.presidency o) (sym presidency) (alike_self x.presidency)) h

pub up_after : (c : Cluster) (M : Memberships) (n : ℕ) (told : Delivered) (disk : NodeRecord) (x : UpNode) (ch : Change) (ms : List Moment) → At c M n told disk x → IsNoBeginning ch
    → MayChange c n told x ch → LineTold ms ch → Hand ms n told → UpNoted ms n x → UpNoted ms n (changed c n x ch)
up_after c M n told disk x (Promises p) ms at is may line hand h =
    rested_up ms n x p x.attempt (λ some own. absurd (untried c M n told disk x p at (machine_own p n own) may.1 (asked_known M told p may.0 at.known)))
up_after c M n told disk x (Leads p members) ms at is may line hand h = absurd is
up_after c M n told disk x (Counts a k s i) ms at is may line hand h =
    up_forming ms n (changed c n x (Counts a k s i)) (turned_in c M n told disk x a k ms at may.0 may.2 hand h.attempt)
    (subst (λ z. SessionNoted ms n z) (session_at x (Forming s) may.1) h.session) refl
up_after c M n told disk x (Installs s i) ms at is may line hand h =
    up_forming ms n (changed c n x (Installs s i)) h.attempt (subst (λ z. SessionNoted ms n z) (session_at x (Forming s) may.0) h.session) refl
up_after c M n told disk x (Starts a k s) ms at is may line hand h = starts_up c M n told disk x a k s ms at may line h
up_after c M n told disk x (Sits s e) ms at is may line hand h = sits_up c M n told disk x s e ms at may hand h
up_after c M n told disk x (Distrusts d) ms at is may line hand h = kept_up ms n x (changed c n x (Distrusts d)) _ refl refl refl refl refl h
up_after c M n told disk x (Admits on command a d) ms at is may line hand h = kept_up ms n x (changed c n x (Admits on command a d)) _ refl refl refl refl refl h
up_after c M n told disk x (Proposes s p text) ms at is may line hand h = proposes_up c M n told disk x s p text ms at may line h
up_after c M n told disk x (Acks s p q left text) ms at is may line hand h = acks_up c n told x s p left q text ms may h
up_after c M n told disk x (Prepares s text) ms at is may line hand h =
    up_same ms n x (changed c n x (Prepares s text)) h.attempt (sym (session_at x (Member s) may.0)) (sym (members_at x (Member s) may.0)) (sym (is_member_at x (Member s) may.0)) (alike_self x.presidency) h
up_after c M n told disk x (Commits s) ms at is may line hand h =
    up_same ms n x (changed c n x (Commits s)) h.attempt (sym (session_at x (Member s) may.0)) (sym (members_at x (Member s) may.0)) (sym (is_member_at x (Member s) may.0)) (alike_self x.presidency) h

-- ---- lines of members and of acknowledgements

-- the Start in hand is a message of its coordinator
start_message : (ms : List Moment) (n from e : ℕ) (h : Brought ms n from (body.Start e)) → is_message_of e name.Start n h.letter ≡ true
start_message ms n from e h =
    and_both (is_letter name.Start (coordinator e) n h.letter) (is_number e (number_of h.letter))
    (letter_so name.Start (coordinator e) n h.letter same_start h.called (h.sender ∙ sym h.caused.0) h.receiver)
    (ap (λ (o : Option ℕ). is_number e o) (ap (λ k. member.attempt_of k h.letter.before) h.sender ∙ h.caused.1) ∙ is_same e)

pub sits_line : (ms : List Moment) (n e : ℕ) (told : Delivered) → Says (λ b. b ≡ body.Start e) told → Hand ms n told → IsTold ms (member_line n e)
sits_line ms n e None says hand = absurd says
sits_line ms n e (Some d) says hand =
    let h : Brought ms n d.0 (body.Start e) = subst (λ b. Brought ms n d.0 b) says hand in
    (h.lasting, or_right (n == coordinator e) (came e name.Start n ms) (h.reached_so (is_message_of e name.Start n) (start_message ms n d.0 e h)))

no_missing : (o : Option Proposed) → is_prepared_in o ≡ true → (R : Type 0) → ((p : Proposed) → o ≡ Some p → p.missing ≡ 0 → R) → R
no_missing None h R f = absurd (no_truth h)
no_missing (Some p) h R f = f p refl (same_number p.missing 0 h)

pub acks_line : (c : Cluster) (M : Memberships) (n : ℕ) (told : Delivered) (disk : NodeRecord) (x : UpNode) (s : NodeState) (p left : Presidency) (q : Queue) (text : List ℕ) (ms : List Moment) → At c M n told disk x
    → MayChange c n told x (Acks s p q left text) → UpNoted ms n x → IsPrepared ms (ack s.session (length (texts_of s.saved.entries)) text)
acks_line c M n told disk x s p left q text ms at may h =
    no_missing p.proposals.proposed may.2 (IsPrepared ms (ack s.session (length (texts_of s.saved.entries)) text)) (λ r is none.
    let tied : ProposedTied M n s (Some r) = subst (λ o. ProposedTied M n s o) is presides.proposed in
    let so : ProposedNoted ms n s.session s.saved.members (Some r) = subst (λ o. ProposedNoted ms n s.session s.saved.members o) is noted.proposed in
    subst (λ v. IsPrepared ms (ack s.session v text)) tied.0 (
      so.0,
      subst (λ z. AllByRecursion (λ k. has_answered s.session (name.Prepare r.place) (name.Prepared r.place) k ms ≡ true) (others s.session z)) (sym noted.start)
          (in_others (λ k. has_answered s.session (name.Prepare r.place) (name.Prepared r.place) k ms ≡ true) s.session s.saved.members most_nodes
          (λ k low member other. so.1 k (and_both (nat_le k 32) _ (low_number k low) member) (λ e. other (e ∙ sym own)) (subst (λ z. has z k ≡ false) (sym none) (none_of_zero k)))),
    ))
  where
    m : MemberTied c M n x s
    m = member_tied c M n x disk s at.tied may.1

    presides : Presides M n s p
    presides = presides_of M n x.presidency s p may.0 m.president

    own : coordinator s.session ≡ n
    own = own_number s.session n presides.own

    noted : PresidentNoted ms n s.session s.saved.members p.proposals.proposed
    noted =
        subst (λ z. PresidentNoted ms n z s.saved.members p.proposals.proposed) (session_at x (Member s) may.1)
        (subst (λ z. PresidentNoted ms n (session_of x) z p.proposals.proposed) (members_at x (Member s) may.1) (h.president p may.0 (is_member_at x (Member s) may.1)))

-- ---- whether the node leads its session

-- of a node that leads, and of one that goes on leading
pub session_after : (c : Cluster) (n : ℕ) (told : Delivered) (x : UpNode) (ch : Change) → MayChange c n told x ch → IsNoBeginning ch → ((p : ℕ) → ch ≡ Promises p → ⊥) → session_of (changed c n x ch) ≡ session_of x
session_after c n told x (Promises p) may is other = absurd (other p refl)
session_after c n told x (Leads p members) may is other = absurd is
session_after c n told x (Counts a k s i) may is other = sym (session_at x (Forming s) may.1)
session_after c n told x (Installs s i) may is other = sym (session_at x (Forming s) may.0)
session_after c n told x (Starts a k s) may is other = sym (session_at x (Forming s) may.1)
session_after c n told x (Sits s e) may is other = sym (session_at x (Forming s) may.0)
session_after c n told x (Distrusts d) may is other = ap (λ (z : NodeState). z.session) (same_state x.seat _)
session_after c n told x (Admits on command a d) may is other = ap (λ (z : NodeState). z.session) (same_state x.seat _)
session_after c n told x (Proposes s p text) may is other = ap (λ (z : NodeState). z.session) (same_state x.seat _)
session_after c n told x (Acks s p q left text) may is other = ap (λ (z : NodeState). z.session) (same_state x.seat _)
session_after c n told x (Prepares s text) may is other = sym (session_at x (Member s) may.0)
session_after c n told x (Commits s) may is other = sym (session_at x (Member s) may.0)

-- the node's own attempt is of its session
own_seat : (c : Cluster) (M : Memberships) (n : ℕ) (disk : NodeRecord) (seat : Seat) (a : AttemptState) → SeatTied c M n disk (Some a) seat → coordinator (state_of seat).session ≡ n
own_seat c M n disk (Forming s) a tied = ap coordinator (sym tied.2.epoch) ∙ own_of c M n s a tied.2
own_seat c M n disk (Member s) a tied = absurd (none_some a (sym tied.2))

pub own_session : (c : Cluster) (M : Memberships) (n : ℕ) (told : Delivered) (disk : NodeRecord) (x : UpNode) (a : AttemptState) → At c M n told disk x → x.attempt ≡ Some a → coordinator (session_of x) ≡ n
own_session c M n told disk x a at is = own_seat c M n disk x.seat a (subst (λ o. SeatTied c M n disk o x.seat) is at.tied.0)

true_false : true ≡ false → ⊥
true_false h = cc

pub change_led : (c : Cluster) (M : Memberships) (n : ℕ) (told : Delivered) (disk : NodeRecord) (x : UpNode) (ch : Change) (led : Bool) → At c M n told disk x → MayChange c n told x ch → ChangeLed led ch
    → (led ≡ true → coordinator (session_of x) ≡ n) → led_change led ch ≡ true → coordinator (session_of (changed c n x ch)) ≡ n
change_led c M n told disk x ch led at may so h is = by_change ch may so is
  where
    kept : (change : Change) → MayChange c n told x change → IsNoBeginning change → ((p : ℕ) → change ≡ Promises p → ⊥) → coordinator (session_of x) ≡ n → coordinator (session_of (changed c n x change)) ≡ n
    kept change may none other own = ap coordinator (session_after c n told x change may none other) ∙ own

    by_change : (change : Change) → MayChange c n told x change → ChangeLed led change → led_change led change ≡ true → coordinator (session_of (changed c n x change)) ≡ n
    by_change (Promises p) m o now = absurd (true_false (sym now ∙ o))
    by_change (Leads p members) m o now = m.1
    by_change (Counts a k s i) m o now = kept (Counts a k s i) m tt (λ p e. cc) (own_session c M n told disk x a at m.0)
    by_change (Installs s i) m o now = kept (Installs s i) m tt (λ p e. cc) (h now)
    by_change (Starts a k s) m o now = kept (Starts a k s) m tt (λ p e. cc) (own_session c M n told disk x a at m.0)
    by_change (Sits s e) m o now = kept (Sits s e) m tt (λ p e'. cc) (h now)
    by_change (Distrusts d) m o now = kept (Distrusts d) m tt (λ p e. cc) (h now)
    by_change (Admits on command a d) m o now = kept (Admits on command a d) m tt (λ p e. cc) (h now)
    by_change (Proposes s p text) m o now = kept (Proposes s p text) m tt (λ r e. cc) (h now)
    by_change (Acks s p q left text) m o now = kept (Acks s p q left text) m tt (λ r e. cc) (h now)
    by_change (Prepares s text) m o now = kept (Prepares s text) m tt (λ p e. cc) (h now)
    by_change (Commits s) m o now = kept (Commits s) m tt (λ p e. cc) (h now)
