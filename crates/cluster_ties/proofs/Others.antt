-- What a node does apart from devices, and what others do.
use Rattle.std.specs.Prelude.{ℕ, ◌≡◌, ◌<◌, [], ◌∷◌, ◌++◌, Option, None, Some}
use Rattle.std.proofs.Common.{refl, sym, ap, ◌∙◌, arith}
use Rattle.cl_base.specs.Sets.{has}
use Rattle.cl_base.proofs.SetLemmas.{none_of_zero}
use Rattle.cluster_machine.specs.Cluster as whole
use Rattle.cluster_machine.specs.Cluster.{Cluster as Whole, Membership}
use Rattle.cluster_machine.specs.Machines.{run_at}
use Rattle.cluster_machine.proofs.Machines.{device_runs}
use Rattle.cluster_machine.proofs.SampleRun.{run_on}
use Rattle.cluster_machine.proofs.Whole.{InOrder}
use Rattle.cmm_attempt.specs.Attempts.{AttemptState}
use Rattle.cmm_member.specs.Nodes.{NodeState}
use Rattle.device_machine.specs.Initiator as initiator
use Rattle.device_machine.proofs.Grown.{run_grows}
use Rattle.machine_base.specs.Epochs.{coordinator}
use Rattle.machine_base.proofs.Puts.{put_there}
use Rattle.membership_machine.specs.Events as membership
use Rattle.node_model.specs.declared.cluster.Cluster.{Cluster}
use Rattle.node_model.specs.declared.node.Node.TheVariants.{Down, Up}
use Rattle.node_model.specs.declared.node.UpNode.{UpNode}
use Rattle.node_model.specs.declared.seat.Seat.TheVariants.{Forming}
use Rattle.node_model.specs.Seats.{state_of}
use Rattle.refinement.specs.Doings.Act.{Accepts, Dates, Ends, Gives, Goes_on, Hears, Makes, Minds, Notes, Queues, Spreads, Stores, Takes, Ticks, Waits, Works, Writes}
use Rattle.cluster_ties.specs.Ties.{AttemptAt, MarksTied, UpAt}
use Rattle.cluster_ties.specs.Moves.{first_whole}
use Rattle.cluster_ties.specs.Laws.{BootsGo, IsOf, OthersStay, ReachedStays, RestsGo, SitsGo, StartsGo}
use Rattle.cluster_ties.proofs.First.{in_order}
use Rattle.cluster_ties.proofs.Frames.{up_stays}
use Rattle.cluster_ties.proofs.Sessions.{nowhere_joined}

none_below : (a b : ℕ) → b ≡ 0 → a < b → ⊥
none_below a b is h = omega (arith, is, h)

pub boots_go : BootsGo
boots_go S c W n first_valid disk reached zero at = record {
  marks = λ d. record { valid = (at d).valid; joined = (at d).joined ∙ sym (none_of_zero d) };
  tasks = tt;
  once = tt;
  idle = λ d none low. absurd (none_below ((W.device d).node n).installed ((W.device d).node n).session ((((in_order S W reached).agrees d).node n).session ∙ zero) low);
  attempt = tt;
}

pub rests_go : RestsGo
rests_go c W n x (Hears from b) apart at = record { marks = at.marks; tasks = at.tasks; once = at.once; idle = at.idle; attempt = at.attempt }
rests_go c W n x Ticks apart at = record { marks = at.marks; tasks = at.tasks; once = at.once; idle = at.idle; attempt = at.attempt }
rests_go c W n x Waits apart at = record { marks = at.marks; tasks = at.tasks; once = at.once; idle = at.idle; attempt = at.attempt }
rests_go c W n x (Ends a e) apart at = record { marks = at.marks; tasks = at.tasks; once = at.once; idle = at.idle; attempt = tt }
rests_go c W n x (Writes to b) apart at = at
rests_go c W n x (Gives os) apart at = at
rests_go c W n x (Spreads receivers b) apart at = at
rests_go c W n x (Minds requests office) apart at = record { marks = at.marks; tasks = at.tasks; once = at.once; idle = at.idle; attempt = at.attempt }
rests_go c W n x (Notes from place office) apart at = record { marks = at.marks; tasks = at.tasks; once = at.once; idle = at.idle; attempt = at.attempt }
rests_go c W n x (Dates now) apart at = record { marks = at.marks; tasks = at.tasks; once = at.once; idle = at.idle; attempt = at.attempt }
rests_go c W n x (Works worker) apart at = record { marks = at.marks; tasks = at.tasks; once = at.once; idle = at.idle; attempt = at.attempt }
rests_go c W n x (Goes_on a k) apart at = absurd apart
rests_go c W n x (Queues a d kind) apart at = absurd apart
rests_go c W n x (Accepts kind e members d) apart at = absurd apart
rests_go c W n x (Takes device command a) apart at = absurd apart
rests_go c W n x (Stores d value a) apart at = absurd apart
rests_go c W n x (Makes change) apart at = absurd apart

-- Starts.

seated : (c : Cluster) (W : Whole) (n : ℕ) (x : UpNode) (s : NodeState) → UpAt c W n x → x.seat ≡ Forming s → (d : ℕ) → MarksTied (W.device d) n (has s.saved.valid d) (has s.joined d)
seated c W n x s at seat d =
    record { valid = (at.marks d).valid ∙ ap (λ z. has (state_of z).saved.valid d) seat; joined = (at.marks d).joined ∙ ap (λ z. has (state_of z).joined d) seat }

pub starts_go : StartsGo
starts_go S c W n q x a s devices tied at seat own may = record {
  machine = whole.after W (Membership (membership.Start q) nowhere_joined);
  moves = record {
    events = Membership (membership.Start q) nowhere_joined ∷ [];
    run = ((may, (λ d. tt), tt), refl);
    others = λ k ne. put_there W.memberships.node (coordinator q) _ k (λ is. ne (is ∙ own));
    others_at = λ d k ne. refl;
    attempts = λ b ne h d. h d;
  };
  memberships = refl;
  devices_so = tied;
  at = record { marks = seated c W n x s at seat; tasks = at.tasks; once = at.once; idle = at.idle; attempt = tt };
}

pub sits_go : SitsGo
sits_go S c W n q x s devices tied at seat may = record {
  machine = whole.after W (Membership (membership.Join n q) nowhere_joined);
  moves = record {
    events = Membership (membership.Join n q) nowhere_joined ∷ [];
    run = ((may, (λ d. tt), tt), refl);
    others = λ k ne. put_there W.memberships.node n _ k ne;
    others_at = λ d k ne. refl;
    attempts = λ a ne h d. h d;
  };
  memberships = refl;
  devices_so = tied;
  at = record { marks = seated c W n x s at seat; tasks = at.tasks; once = at.once; idle = at.idle; attempt = attempt_same x.attempt at.attempt };
}
  where
    attempt_same : (o : Option AttemptState) → AttemptAt W o → AttemptAt (whole.after W (Membership (membership.Join n q) nowhere_joined)) o
    attempt_same None h = tt
    attempt_same (Some a) h = λ d. h d

-- The others.

pub others_stay : OthersStay
others_stay S c W V n k disk Down reached m ne own at = λ d.
    let same : (V.device d).node k ≡ (W.device d).node k = m.others_at d k ne in
    record { valid = ap (λ (v : initiator.Initiator). v.valid) same ∙ (at d).valid; joined = ap (λ (v : initiator.Initiator). v.joined) same ∙ (at d).joined }
others_stay S c W V n k disk (Up x) reached m ne own at =
    up_stays c W V k x (λ d. m.others_at d k ne) (λ d q. (run_grows (W.device d) (V.device d) (run_at W m.events d) (i.device d) (device_runs S W m.events V d m.run)).attempt q)
    (attempts x.attempt own) at
  where
    i : InOrder S W
    i = in_order S W reached

    attempts : (o : Option AttemptState) → IsOf k o → AttemptAt W o → AttemptAt V o
    attempts None is h = tt
    attempts (Some a) is h = m.attempts a (λ e. ne (sym is ∙ e)) h

pub reached_stays : ReachedStays
reached_stays S W V n reached m = record {
  registered = reached.registered;
  valid = reached.valid;
  events = reached.events ++ m.events;
  run = run_on S (first_whole reached.registered reached.valid) W V reached.events m.events reached.run m.run;
}
