-- What is known of a node with an attempt at a point of a run.
use Rattle.std.specs.Prelude.{ℕ, zero, suc, ◌%◌, ◌≡◌, ◌≤◌, ◌&&◌, nat_le, true, Option, None, Some, slice_get, if◌then◌else◌}
use Rattle.std.specs.List.{list_any}
use Rattle.std.proofs.Common.{arith, refl, sym, ap, subst, ◌∙◌}
use Rattle.attempt_laws.specs.Asking.{DeviceHas}
use Rattle.cl_base.proofs.SetLemmas.{has_not_zero}
use Rattle.cl_base.specs.Limits.{most_nodes}
use Rattle.cl_base.specs.Numbers.{numbers_to}
use Rattle.cl_base.specs.Sets.{has}
use Rattle.cl_base.specs.declared.header.Header.{Header}
use Rattle.cluster_machine.proofs.Whole.{InOrder}
use Rattle.cluster_ties.proofs.First.{in_order}
use Rattle.cluster_ties.specs.Ties.{AttemptAt, UpAt}
use Rattle.cmm_attempt.proofs.Basics.{false_true}
use Rattle.cmm_attempt.specs.Attempts.{AttemptState}
use Rattle.history.specs.Member.{members_of}
use Rattle.history.specs.Seizing.{is_attempt}
use Rattle.history.specs.Setting.{coordinator, nodes_of}
use Rattle.node_model.specs.Seats.{coordinator_of, node_numbered, session_of}
use Rattle.node_model.specs.declared.cluster.Cluster.{Cluster}
use Rattle.node_model.specs.declared.node.Node.{Node}
use Rattle.node_model.specs.declared.node.Node.TheVariants.{Down, Up}
use Rattle.node_model.specs.declared.node.UpNode.{UpNode}
use Rattle.refinement.proofs.Changes.{sees}
use Rattle.refinement.specs.Doings.{site}
use Rattle.refinement.specs.Ties.{setting_of}
use Rattle.run_history.specs.Scenes.{Scene}
use Rattle.run_history.specs.Sites.{SiteAt}
use Rattle.run_history.specs.Wholes.{IsWhole}
use Rattle.run_messages.proofs.Reaching.{IsReached, IsSmall}
use Rattle.run_packets.proofs.native.Runs.{whole_at}
use Rattle.run_seizings.proofs.Runs.{run_seizes}
use Rattle.run_seizings.specs.Seized.{AttemptIn, AttemptSo}
use Rattle.run_seizings.specs.Sites.{IsSeizing, UpIn, UpSo}
use Rattle.world_model.specs.First.{first_cluster}
use Rattle.run_outcomes.proofs.results.Pathed.{paths_of_each_run}
use Rattle.run_outcomes.specs.phases.Kept.{In}
use Rattle.run_outcomes.specs.results.Paths.{AttemptPath, NodePath, UpPath}
use Rattle.run_outcomes.specs.results.Paths as path
use Rattle.run_outcomes.specs.saves.Kept.{IsAt}
use Rattle.run_outcomes.specs.tasks.Own.{IsOrdered, Leads}
use Rattle.run_outcomes.proofs.own_tasks.Least.{first_in_run, first_member}

pub record Ground (h : Header) (s : Scene) (n : ℕ) (x : UpNode) (a : AttemptState) : Type 0 where
  pub whole : IsWhole (first_cluster h) s
  pub at : UpAt (first_cluster h) whole.machine n x
  pub attempt : (d : ℕ) → DeviceHas (whole.machine.device d) a d
  pub so : AttemptSo h s.moments n (session_of x) a
  pub ordered : IsOrdered n a
  pub coordinator : a.plan.coordinator ≡ n
  pub leads : coordinator_of x ≡ Some n
  -- the machine of each device has the node in its session
  pub order : InOrder (setting_of (first_cluster h)) whole.machine
  pub session : (d : ℕ) → ((whole.machine.device d).node n).session ≡ session_of x

numbered : (m n : ℕ) → m ≡ n → 1 ≤ n → n ≤ 32 → node_numbered m ≡ Some n
numbered m n same low high = ap node_numbered same ∙ ap (λ b. if b then Some n else None) (within n low high)
  where
    within : (k : ℕ) → 1 ≤ k → k ≤ 32 → (nat_le 1 k && nat_le k most_nodes) ≡ true
    within k low high = grind arith

in_set : (set n : ℕ) → (nat_le n 32 && has set n) ≡ true → (n ≤ 32) × (has set n ≡ true)
in_set set n is = parts n (has set n) is
  where
    parts : (k : ℕ) (b : _) → (nat_le k 32 && b) ≡ true → (k ≤ 32) × (b ≡ true)
    parts k b is = grind arith

not_zero : (set n : ℕ) → has set n ≡ true → 1 ≤ n
not_zero set zero is = absurd (false_true (sym (has_not_zero set) ∙ is))
not_zero set (suc n) is = omega arith

pub seizing_at : (h : Header) (cells : ℕ) (s : Scene) → IsSmall h → IsReached h cells s → IsSeizing h s
seizing_at h cells s size r = subst (IsSeizing h) r.is (run_seizes h cells r.happenings size.few size.small r.may).seizing

first_at : (h : Header) (cells : ℕ) (s : Scene) (e : ℕ) → IsSmall h → IsReached h cells s → list_any (is_attempt e) s.moments ≡ true → slice_get (nodes_of (members_of e s.moments)) 0 ≡ Some (coordinator e)
first_at h cells s e size r =
    subst (λ (z : Scene). list_any (is_attempt e) z.moments ≡ true → slice_get (nodes_of (members_of e z.moments)) 0 ≡ Some (coordinator e)) r.is (λ is. first_in_run h cells r.happenings e size.few size.small r.may is)

path_at : (h : Header) (cells : ℕ) (s : Scene) (n : ℕ) → IsSmall h → IsReached h cells s → NodePath (first_cluster h) n (s.nodes.node n)
path_at h cells s n size r = subst (λ (z : Scene). NodePath (first_cluster h) n (z.nodes.node n)) r.is (paths_of_each_run h cells r.happenings size.few size.small r.may n)

pub ground_at : (h : Header) (cells : ℕ) (s : Scene) (n : ℕ) (x : UpNode) (a : AttemptState) → IsSmall h → IsReached h cells s → s.nodes.node n ≡ Up x → x.attempt ≡ Some a → Ground h s n x a
ground_at h cells s n x a size r up has_it = record {
  whole = w;
  at = at;
  attempt = attempt;
  so = so;
  ordered = record { plan = record { nodes = (attempt 0).nodes; first = first }; member = member.1; apart = (attempt 0).apart };
  coordinator = own;
  leads = numbered (session_of x % 64) n (ap (λ q. q % 64) (sym so.epoch) ∙ so.own) (not_zero a.plan.members n member.1) member.0;
  order = order;
  session = λ d. ((order.agrees d).node n).session ∙ (sees c w.machine.memberships n (s.nodes.disk n).kept x.attempt x.seat sited.tied.0).session;
}
  where
    c : Cluster
    c = first_cluster h

    w : IsWhole c s
    w = whole_at h cells s size r

    sited : SiteAt c w.machine n (site (Up x) (s.nodes.disk n).kept)
    sited = subst (λ (z : Node). SiteAt c w.machine n (site z (s.nodes.disk n).kept)) up (w.sites n)

    order : InOrder (setting_of c) w.machine
    order = in_order (setting_of c) w.machine w.reached

    at : UpAt c w.machine n x
    at = sited.at

    attempt : (d : ℕ) → DeviceHas (w.machine.device d) a d
    attempt = subst (AttemptAt w.machine) has_it at.attempt

    seizes : UpSo h s.moments n x
    seizes = subst (UpIn h s.moments n) up ((seizing_at h cells s size r).sites n).up

    so : AttemptSo h s.moments n (session_of x) a
    so = subst (AttemptIn h s.moments n (session_of x)) has_it seizes.attempt

    pathed : UpPath c n x
    pathed = subst (NodePath c n) up (path_at h cells s n size r)

    own : a.plan.coordinator ≡ n
    own = (subst (path.AttemptIn c n) has_it pathed.attempt).coordinator

    first : slice_get a.plan.nodes 0 ≡ Some a.plan.coordinator
    first =
        ap (λ ns. slice_get ns 0) ((attempt 0).nodes ∙ ap (λ set. numbers_to set 32) (sym so.of.1)) ∙ (first_at h cells s a.plan.epoch size r so.of.0 ∙ ap Some (so.own ∙ sym own))

    member : (n ≤ 32) × (has a.plan.members n ≡ true)
    member = in_set a.plan.members n (first_member a.plan.members 32 n (ap (λ ns. slice_get ns 0) (sym (attempt 0).nodes) ∙ (first ∙ ap Some own)))

-- of each node
pub leads_at : (h : Header) (cells : ℕ) (s : Scene) (n : ℕ) → IsSmall h → IsReached h cells s → IsAt (Leads n) (s.nodes.node n)
leads_at h cells s n size r = by_node (s.nodes.node n) refl
  where
    by_attempt : (x : UpNode) → s.nodes.node n ≡ Up x → (o : Option AttemptState) → x.attempt ≡ o → In (λ a. IsOrdered n a × (coordinator_of x ≡ Some n)) o
    by_attempt x up None is = tt
    by_attempt x up (Some a) is = let g : Ground h s n x a = ground_at h cells s n x a size r up is in (g.ordered, g.leads)

    by_node : (node : Node) → s.nodes.node n ≡ node → IsAt (Leads n) node
    by_node Down is = tt
    by_node (Up x) is = by_attempt x is x.attempt refl
