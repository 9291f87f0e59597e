-- A node promises, or goes down: what it had joined is past, and so are its tasks.
use Rattle.std.specs.Prelude.{ℕ, ◌≡◌, ◌<◌, Bool, [], ◌∷◌, Option, None, Some}
use Rattle.std.proofs.Common.{refl, sym, ap, subst, ◌∙◌}
use Rattle.attempt_laws.proofs.Left.{others_leave}
use Rattle.cl_base.specs.Sets.{has}
use Rattle.cl_base.proofs.SetLemmas.{none_of_zero}
use Rattle.cluster_machine.specs.Cluster as whole
use Rattle.cluster_machine.specs.Cluster.{Apart, Cluster as Whole, Joining, Membership}
use Rattle.cluster_machine.proofs.Whole.{InOrder}
use Rattle.cmm_attempt.specs.Attempts.{AttemptState}
use Rattle.cmm_member.specs.Records.{NodeRecord}
use Rattle.device_machine.specs.Initiator as initiator
use Rattle.device_machine.specs.Sharing as sharing
use Rattle.machine_base.proofs.Puts.{put_here, put_there}
use Rattle.membership_machine.specs.Events as membership
use Rattle.membership_machine.specs.Votes.{Setting}
use Rattle.node_model.specs.declared.cluster.Cluster.{Cluster}
use Rattle.node_model.specs.declared.node.Node.{Node}
use Rattle.node_model.specs.declared.node.Node.TheVariants.{Down, Up}
use Rattle.node_model.specs.declared.node.UpNode.{UpNode}
use Rattle.node_model.specs.Members.{rested_by}
use Rattle.node_model.specs.Seats as seats
use Rattle.node_model.specs.Seats.{record_of}
use Rattle.cluster_ties.specs.Ties.{MarksTied, NodeAt, UpAt}
use Rattle.cluster_ties.specs.Laws.{CrashesGo, IsKept, PromisesGo}
use Rattle.cluster_ties.specs.Moves.{Moves}
use Rattle.cluster_ties.proofs.First.{in_order}
use Rattle.machine_base.specs.Put.{put}

abbrev pub nowhere_joined : ℕ → Joining
nowhere_joined d = Apart

-- The machine of one device, after the promise, and after the crash.

promise_goes : (S : Setting) (W : Whole) (n q : ℕ) → InOrder S W → membership.Allowed S W.memberships (membership.Promise n q) → Moves S W n (whole.after W (Membership (membership.Promise n q) nowhere_joined))
promise_goes S W n q i may = record {
  events = Membership (membership.Promise n q) nowhere_joined ∷ [];
  run = ((may, (λ d. (allowed d, tt)), tt), refl);
  others = λ k ne. put_there W.memberships.node n _ k ne;
  others_at = λ d k ne. put_there (W.device d).node n _ k ne;
  attempts = λ a ne h d. others_leave (W.device d) (sharing.Promise n q) a d (h d) (allowed d) tt;
}
  where
    allowed : (d : ℕ) → sharing.Allowed (W.device d) (sharing.Promise n q)
    allowed d = subst (λ p. p < q) (sym ((i.agrees d).node n).promised) may.1

crash_goes : (S : Setting) (W : Whole) (n : ℕ) → Moves S W n (whole.after W (Membership (membership.Crash n) nowhere_joined))
crash_goes S W n = record {
  events = Membership (membership.Crash n) nowhere_joined ∷ [];
  run = ((tt, (λ d. (tt, tt)), tt), refl);
  others = λ k ne. put_there W.memberships.node n _ k ne;
  others_at = λ d k ne. put_there (W.device d).node n _ k ne;
  attempts = λ a ne h d. others_leave (W.device d) (sharing.Crash n) a d (h d) tt tt;
}

-- The node after them.

promised_mark : (W : Whole) (n q d : ℕ) (validated : Bool) → ((W.device d).node n).valid ≡ validated
    → MarksTied ((whole.after W (Membership (membership.Promise n q) nowhere_joined)).device d) n validated (has 0 d)
promised_mark W n q d validated h =
    let here : put (W.device d).node n (initiator.promising ((W.device d).node n) q) n ≡ initiator.promising ((W.device d).node n) q = put_here (W.device d).node n (initiator.promising ((W.device d).node n) q) in
    record { valid = ap (λ (v : initiator.Initiator). v.valid) here ∙ h; joined = ap (λ (v : initiator.Initiator). v.joined) here ∙ sym (none_of_zero d) }

promised_marks : (c : Cluster) (W : Whole) (n q : ℕ) (x : UpNode) (o : Option AttemptState) → UpAt c W n x
    → UpAt c (whole.after W (Membership (membership.Promise n q) nowhere_joined)) n (rested_by (seats.promising x q) o)
promised_marks c W n q x None at = record {
  marks = λ d. promised_mark W n q d (has (record_of x).valid d) (at.marks d).valid;
  tasks = tt;
  once = tt;
  idle = λ d none low. ap (λ (v : initiator.Initiator). v.phase) (put_here (W.device d).node n (initiator.promising ((W.device d).node n) q));
  attempt = tt;
}
promised_marks c W n q x (Some a) at = record {
  marks = λ d. promised_mark W n q d (has (record_of x).valid d) (at.marks d).valid;
  tasks = tt;
  once = tt;
  idle = λ d none low. ap (λ (v : initiator.Initiator). v.phase) (put_here (W.device d).node n (initiator.promising ((W.device d).node n) q));
  attempt = tt;
}

pub promises_go : PromisesGo
promises_go S c W n q x devices reached tied at may = record {
  machine = whole.after W (Membership (membership.Promise n q) nowhere_joined);
  moves = promise_goes S W n q (in_order S W reached) may;
  memberships = refl;
  devices_so = tied;
  at = promised_marks c W n q x x.attempt at;
}

pub valid_of : (c : Cluster) (W : Whole) (n : ℕ) (disk : NodeRecord) (node : Node) → NodeAt c W n disk node → IsKept disk node → (d : ℕ) → ((W.device d).node n).valid ≡ has disk.valid d
valid_of c W n disk Down at kept d = (at d).valid
valid_of c W n disk (Up x) at kept d = (at.marks d).valid ∙ ap (λ (r : NodeRecord). has r.valid d) (sym kept)

pub crashes_go : CrashesGo
crashes_go S c W n disk node devices reached tied at kept = record {
  machine = whole.after W (Membership (membership.Crash n) nowhere_joined);
  moves = crash_goes S W n;
  memberships = refl;
  devices_so = tied;
  at = λ d.
      let here : put (W.device d).node n (initiator.crashing ((W.device d).node n)) n ≡ initiator.crashing ((W.device d).node n) = put_here (W.device d).node n (initiator.crashing ((W.device d).node n)) in
      record { valid = ap (λ (v : initiator.Initiator). v.valid) here ∙ valid_of c W n disk node at kept d; joined = ap (λ (v : initiator.Initiator). v.joined) here };
}
