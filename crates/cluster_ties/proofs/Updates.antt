-- Updates are no device's.
use Rattle.std.specs.Prelude.{ℕ, ◌≡◌, List, [], ◌∷◌, Option, None, Some}
use Rattle.std.proofs.Common.{refl, ap, subst, ◌∙◌}
use Rattle.attempt_laws.proofs.Left.{others_leave}
use Rattle.ccr_commit.specs.Entries.{EntryList}
use Rattle.cl_base.specs.Sets.{has}
use Rattle.cluster_machine.specs.Cluster as whole
use Rattle.cluster_machine.specs.Cluster.{Cluster as Whole, Membership}
use Rattle.cmm_attempt.specs.Attempts.{AttemptState}
use Rattle.cmm_member.specs.Nodes.{NodeState, with_entries}
use Rattle.cmm_member.specs.Records.{NodeRecord}
use Rattle.device_machine.specs.Initiator as initiator
use Rattle.device_machine.specs.Sharing as sharing
use Rattle.device_machine.specs.Sharing.{Sharing}
use Rattle.machine_base.specs.Epochs.{coordinator}
use Rattle.machine_base.specs.Put.{put}
use Rattle.machine_base.proofs.Puts.{put_here, put_there}
use Rattle.membership_machine.specs.Events as membership
use Rattle.membership_machine.specs.State.{Memberships}
use Rattle.membership_machine.specs.Votes.{Setting}
use Rattle.node_model.specs.declared.cluster.Cluster.{Cluster}
use Rattle.node_model.specs.declared.node.Node.{Node}
use Rattle.node_model.specs.declared.node.Node.TheVariants.{Down}
use Rattle.node_model.specs.declared.node.UpNode.{UpNode}
use Rattle.node_model.specs.declared.seat.Seat.{Seat}
use Rattle.node_model.specs.declared.seat.Seat.TheVariants.{Forming, Member}
use Rattle.node_model.specs.Seats.{state_of, with_state}
use Rattle.cluster_ties.specs.Ties.{AttemptAt, Devices, DevicesTied, MarksTied, NodeAt, UpAt}
use Rattle.cluster_ties.specs.Laws.{AcknowledgesGo, CommitsGo, IsKept, PreparesGo, ProposalsAreLost, ProposesGo}
use Rattle.cluster_ties.specs.Moves.{MembershipGoes}
use Rattle.cluster_ties.proofs.Sessions.{nowhere_joined, valid_of}

-- What a node keeps of devices is the same with other updates.

entries_marks : (s : Sharing) (n d : ℕ) (seat : Seat) (entries : EntryList) → MarksTied s n (has (state_of seat).saved.valid d) (has (state_of seat).joined d)
    → MarksTied s n (has (state_of (with_state seat (with_entries (state_of seat) entries))).saved.valid d) (has (state_of (with_state seat (with_entries (state_of seat) entries))).joined d)
entries_marks s n d (Forming t) entries h = h
entries_marks s n d (Member t) entries h = h

seat_marks : (c : Cluster) (W : Whole) (n : ℕ) (x : UpNode) (s : NodeState) → UpAt c W n x → x.seat ≡ Member s → (d : ℕ) → MarksTied (W.device d) n (has s.saved.valid d) (has s.joined d)
seat_marks c W n x s at seat d = subst (λ z. MarksTied (W.device d) n (has (state_of z).saved.valid d) (has (state_of z).joined d)) seat (at.marks d)

attempt_stays : (W : Whole) (M : Memberships) (o : Option AttemptState) → AttemptAt W o → AttemptAt (record W { memberships = M }) o
attempt_stays W M None h = tt
attempt_stays W M (Some a) h = λ d. h d

-- The president.

pub proposes_go : ProposesGo
proposes_go S c W n q x p text devices tied at own may = record {
  machine = whole.after W (Membership (membership.Propose q text) nowhere_joined);
  moves = record {
    events = Membership (membership.Propose q text) nowhere_joined ∷ [];
    run = ((may, (λ d. tt), tt), refl);
    others = λ k ne. put_there W.memberships.node (coordinator q) _ k (λ is. ne (is ∙ own));
    others_at = λ d k ne. refl;
    attempts = λ a ne h d. h d;
  };
  memberships = refl;
  devices_so = tied;
  at = record {
    marks = λ d. entries_marks (W.device d) n d x.seat _ (at.marks d);
    tasks = at.tasks;
    once = at.once;
    idle = at.idle;
    attempt = attempt_stays W (membership.after W.memberships (membership.Propose q text)) x.attempt at.attempt;
  };
}

pub acknowledges_go : AcknowledgesGo
acknowledges_go S c W n q x requests office devices tied at own may = record {
  machine = whole.after W (Membership (membership.Acknowledge q) nowhere_joined);
  moves = record {
    events = Membership (membership.Acknowledge q) nowhere_joined ∷ [];
    run = ((may, (λ d. tt), tt), refl);
    others = λ k ne. put_there W.memberships.node (coordinator q) _ k (λ is. ne (is ∙ own));
    others_at = λ d k ne. refl;
    attempts = λ a ne h d. h d;
  };
  memberships = refl;
  devices_so = tied;
  at = record {
    marks = λ d. entries_marks (W.device d) n d x.seat _ (at.marks d);
    tasks = at.tasks;
    once = at.once;
    idle = at.idle;
    attempt = attempt_stays W (membership.after W.memberships (membership.Acknowledge q)) x.attempt at.attempt;
  };
}

-- It goes down in the save of a proposal: a crash at each device.
lost_at : (S : Setting) (c : Cluster) (W : Whole) (q : ℕ) (text : List ℕ) (disk : NodeRecord) (node : Node) (devices : Devices) → DevicesTied c devices W → NodeAt c W (coordinator q) disk node
    → IsKept disk node → membership.Allowed S W.memberships (membership.Propose_lost q text) → MembershipGoes S c W (coordinator q) (membership.Propose_lost q text) devices disk Down
lost_at S c W q text disk node devices tied at kept may = record {
  machine = whole.after W (Membership (membership.Propose_lost q text) nowhere_joined);
  moves = record {
    events = Membership (membership.Propose_lost q text) nowhere_joined ∷ [];
    run = ((may, (λ d. (tt, tt)), tt), refl);
    others = λ k ne. put_there W.memberships.node (coordinator q) _ k ne;
    others_at = λ d k ne. put_there (W.device d).node (coordinator q) _ k ne;
    attempts = λ a ne h d. others_leave (W.device d) (sharing.Crash (coordinator q)) a d (h d) tt tt;
  };
  memberships = refl;
  devices_so = tied;
  at = λ d.
      let n : ℕ = coordinator q in
      let here : put (W.device d).node n (initiator.crashing ((W.device d).node n)) n ≡ initiator.crashing ((W.device d).node n) = put_here (W.device d).node n (initiator.crashing ((W.device d).node n)) in
      record { valid = ap (λ (v : initiator.Initiator). v.valid) here ∙ valid_of c W n disk node at kept d; joined = ap (λ (v : initiator.Initiator). v.joined) here };
}

pub proposals_are_lost : ProposalsAreLost
proposals_are_lost S c W n q text disk node devices tied at kept own may =
    subst (λ k. NodeAt c W k disk node → MembershipGoes S c W k (membership.Propose_lost q text) devices disk Down) own (λ h. lost_at S c W q text disk node devices tied h kept may) at

-- A member.

pub prepares_go : PreparesGo
prepares_go S c W n q x s text devices tied at seat may = record {
  machine = whole.after W (Membership (membership.Prepare n q text) nowhere_joined);
  moves = record {
    events = Membership (membership.Prepare n q text) nowhere_joined ∷ [];
    run = ((may, (λ d. tt), tt), refl);
    others = λ k ne. put_there W.memberships.node n _ k ne;
    others_at = λ d k ne. refl;
    attempts = λ a ne h d. h d;
  };
  memberships = refl;
  devices_so = tied;
  at = record {
    marks = seat_marks c W n x s at seat;
    tasks = at.tasks;
    once = at.once;
    idle = at.idle;
    attempt = attempt_stays W (membership.after W.memberships (membership.Prepare n q text)) x.attempt at.attempt;
  };
}

pub commits_go : CommitsGo
commits_go S c W n q x s devices tied at seat may = record {
  machine = whole.after W (Membership (membership.Commit n q) nowhere_joined);
  moves = record {
    events = Membership (membership.Commit n q) nowhere_joined ∷ [];
    run = ((may, (λ d. tt), tt), refl);
    others = λ k ne. put_there W.memberships.node n _ k ne;
    others_at = λ d k ne. refl;
    attempts = λ a ne h d. h d;
  };
  memberships = refl;
  devices_so = tied;
  at = record {
    marks = seat_marks c W n x s at seat;
    tasks = at.tasks;
    once = at.once;
    idle = at.idle;
    attempt = attempt_stays W (membership.after W.memberships (membership.Commit n q)) x.attempt at.attempt;
  };
}
