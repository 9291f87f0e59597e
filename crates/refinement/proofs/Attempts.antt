-- What an attempt's calls keep of what ties it to the machine.
use Rattle.std.specs.Prelude.{ℕ, ◌≡◌, ◌<◌, ◌≤◌, ◌⊎◌, ◌++◌, Bool, true, false, List, [], ◌∷◌, Option, None, Some, IsSome}
use Rattle.std.proofs.Common.{refl, sym, ap, subst, ◌∙◌, inl, inr, arith}
use Rattle.std.specs.List.{find, filter_map}
use Rattle.machine_base.specs.Epochs.{coordinator}
use Rattle.wire.specs.declared.lists.Reading.{Reading}
use Rattle.cmm_attempt.specs.declared.phase.Phase.{Phase}
use Rattle.cmm_attempt.specs.declared.phase.Phase.TheVariants.{Collecting, Choosing, SeizingVotes, SeizingOthers, Installing, Over}
use Rattle.cmm_attempt.specs.declared.plan.Plan.{Plan}
use Rattle.cmm_attempt.specs.declared.promised.Promised.{Promised}
use Rattle.cmm_attempt.specs.Attempts.{AttemptState, Turn, install_in, own_readying, own_readying_in, waits}
use Rattle.cmm_attempt.specs.Calls.{Call, IsReached, May, Own_ready, Own_seized, Run as CallRun, Take, Tick, With_votes, installs_in, turn}
use Rattle.cmm_attempt.specs.Installs.{install_by}
use Rattle.cmm_attempt.specs.Promises.{is_from}
use Rattle.cmm_attempt.specs.Seizings.{reading_of}
use Rattle.cmm_attempt.proofs.Basics.{false_true}
use Rattle.cmm_member.specs.Nodes.{NodeState}
use Rattle.membership_machine.specs.Invariant.{Holds}
use Rattle.membership_machine.specs.State.{Memberships}
use Rattle.attempt_laws.specs.Machine.{IsUncounted, MachineHas}
use Rattle.attempt_laws.proofs.MachineLemmas.{installs_come_first}
use Rattle.attempt_laws.proofs.Starts.{ends_once}
use Rattle.attempt_laws.proofs.Stays.{final_stays, granted_stays, plan_stays}
use Rattle.attempt_laws.proofs.Told.{calls_are_told}
use Rattle.node_model.specs.declared.cluster.Cluster.{Cluster}
use Rattle.refinement.specs.Guards.{MayCall}
use Rattle.refinement.specs.Ties.{Coordinates, CountedIn, Delivered, InstallTold, Known, Seeks, setting_of}
use Rattle.refinement.proofs.Given.{logs_kept, votes_kept}
use Rattle.refinement.proofs.Ties.{tells_of}

-- a call that may be made is one that the attempt's rules allow
pub may_be_called : (c : Cluster) (told : Delivered) (a : AttemptState) (k : Call) → MayCall c told a k → May a k
may_be_called c told a (Take from m) h = tt
may_be_called c told a (With_votes both) h = h.1
may_be_called c told a (Own_seized d r) h = tt
may_be_called c told a Own_ready h = tt
may_be_called c told a Tick h = tt

run_more : (s : AttemptState) (calls : List Call) (t : AttemptState) (k : Call) → CallRun s calls t → May t k → CallRun s (calls ++ k ∷ []) (turn t k).after
run_more s [] t k run may = (subst (λ x. May x k) run may, ap (λ x. (turn x k).after) run)
run_more s (first ∷ calls) t k run may = (run.0, run_more (turn s first).after calls t k run.1 may)

pub reached_more : (a : AttemptState) (k : Call) → May a k → IsReached a → IsReached (turn a k).after
reached_more a k may r = record {
  p = r.p;
  members = r.members;
  own = r.own;
  attached = r.attached;
  cluster = r.cluster;
  devices = r.devices;
  calls = r.calls ++ k ∷ [];
  run = run_more _ r.calls a k r.run may;
}

-- the epoch of an attempt's install is its own
by_promise : (plan : Plan) (readings : List Reading) (o : Option Promised) → (install_by plan readings o).epoch ≡ plan.epoch
by_promise plan readings None = refl
by_promise plan readings (Some p) = refl

pub install_epoch : (a : AttemptState) → (install_in a).epoch ≡ a.plan.epoch
install_epoch a = by_promise a.plan (filter_map (reading_of a.devices) a.plan.attached) (find (is_from a.newest) a.promises)

-- the machine has not counted an attempt that its node still seeks a majority for
pub seeking_not_counted : (c : Cluster) (M : Memberships) (n : ℕ) (s : NodeState) (a : AttemptState) → Holds (setting_of c) M → (M.node n).session ≡ s.session → Coordinates c M n s a
    → (M.node n).seeking ≡ true → (M.epoch a.plan.epoch).counted ≡ true → ⊥
seeking_not_counted c M n s a i shows h seeks counted =
    let q : ℕ = a.plan.epoch in
    let at : coordinator q ≡ n = sym h.has.coordinator ∙ h.coordinator in
    let below : (M.node n).saved.installed < (M.node n).promised = (i.node n).seeking_installs seeks in
    let session : (M.node n).session ≡ (M.node n).promised = (i.node n).seeking_session seeks in
    let installed : q ≤ (M.node n).saved.installed = subst (λ k. q ≤ (M.node k).saved.installed) at ((i.epoch q).counted_installed counted) in
    apart q (M.node n).saved.installed (M.node n).promised (h.epoch ∙ (sym shows ∙ session)) installed below
  where
    apart : (p x y : ℕ) → p ≡ y → p ≤ x → x < y → ⊥
    apart p x y e l m = grind arith

seeks_collecting : (b : Bool) (phase : Phase) → phase ≡ Collecting → Seeks b phase → b ≡ true
seeks_collecting b phase is h = subst (Seeks b) is h

not_true : (b : Bool) → (b ≡ true → ⊥) → b ≡ false
not_true true h = absurd (h refl)
not_true false h = refl

uncounted : (c : Cluster) (M : Memberships) (n : ℕ) (s : NodeState) (a : AttemptState) → Holds (setting_of c) M → (M.node n).session ≡ s.session → Coordinates c M n s a → IsUncounted M a
uncounted c M n s a i shows h is =
    not_true (M.epoch a.plan.epoch).counted (seeking_not_counted c M n s a i shows h (seeks_collecting (M.node n).seeking a.phase is h.seeks))

-- What a call tells is so: its own part is done where the attempt installs, and else it is not taken.

own_in : (M : Memberships) (n : ℕ) (s : NodeState) (a : AttemptState) (phase : Phase) → a.phase ≡ phase → CountedIn M s a phase
    → ((s.saved.installed ≡ a.plan.epoch) × (a.phase ≡ Installing)) ⊎ (turn a Own_ready ≡ waits a)
unfolding own_readying
own_in M n s a Installing is h = inl (h.0, is)
own_in M n s a Collecting is h = inr (ap (λ p. own_readying_in a p) is)
own_in M n s a Choosing is h = inr (ap (λ p. own_readying_in a p) is)
own_in M n s a SeizingVotes is h = inr (ap (λ p. own_readying_in a p) is)
own_in M n s a SeizingOthers is h = inr (ap (λ p. own_readying_in a p) is)
own_in M n s a Over is h = inr (ap (λ p. own_readying_in a p) is)

-- what the machine's node n has for the state s
pub record Shown (M : Memberships) (n : ℕ) (s : NodeState) : Type 0 where
  pub session : (M.node n).session ≡ s.session
  pub installed : (M.node n).saved.installed ≡ s.saved.installed

pub has_after : (c : Cluster) (M : Memberships) (n : ℕ) (s : NodeState) (told : Delivered) (a : AttemptState) (k : Call) → Holds (setting_of c) M → Known M told → Shown M n s
    → Coordinates c M n s a → MayCall c told a k → MachineHas M (turn a k).after
has_after c M n s told a (Take from m) i known shows h may =
    calls_are_told M a (Take from m) tt h.has (uncounted c M n s a i shows.session h) (tells_of M from m.body (subst (λ t. Known M t) may.0 known))
has_after c M n s told a (With_votes both) i known shows h may = calls_are_told M a (With_votes both) may.1 h.has (uncounted c M n s a i shows.session h) tt
has_after c M n s told a (Own_seized d r) i known shows h may = calls_are_told M a (Own_seized d r) tt h.has (uncounted c M n s a i shows.session h) tt
has_after c M n s told a Tick i known shows h may = calls_are_told M a Tick tt h.has (uncounted c M n s a i shows.session h) tt
has_after c M n s told a Own_ready i known shows h may = by_cases (own_in M n s a a.phase refl h.counted)
  where
    q : ℕ
    q = a.plan.epoch

    positive : 0 < q
    positive = (i.epoch q).tried_positive h.has.tried

    ready : (M.node n).saved.installed ≡ q → (M.node n).ready q ≡ true
    ready e = subst (λ z. (M.node n).ready z ≡ true) e ((i.node n).ready_last (subst (λ z. 0 < z) (sym e) positive))

    by_cases : ((s.saved.installed ≡ q) × (a.phase ≡ Installing)) ⊎ (turn a Own_ready ≡ waits a) → MachineHas M (turn a Own_ready).after
    by_cases (inl e) =
        calls_are_told M a Own_ready tt h.has (uncounted c M n s a i shows.session h)
        (subst (λ m. (M.node m).ready q ≡ true) (sym h.coordinator) (ready (shows.installed ∙ e.0)))
    by_cases (inr e) = subst (λ (t : Turn). MachineHas M t.after) (sym e) h.has

-- What the tie says of the attempt after a call that gives no install.

pub seeks_or_final : (b : Bool) (phase : Phase) → Seeks b phase → (b ≡ true) ⊎ ((phase ≡ Installing) ⊎ (phase ≡ Over))
seeks_or_final b Collecting h = inl h
seeks_or_final b Choosing h = inl h
seeks_or_final b SeizingVotes h = inl h
seeks_or_final b SeizingOthers h = inl h
seeks_or_final b Installing h = inr (inl refl)
seeks_or_final b Over h = inr (inr refl)

pub seeks_any : (b : Bool) (phase : Phase) → b ≡ true → Seeks b phase
seeks_any b Collecting h = h
seeks_any b Choosing h = h
seeks_any b SeizingVotes h = h
seeks_any b SeizingOthers h = h
seeks_any b Installing h = tt
seeks_any b Over h = tt

pub seeks_final : (b : Bool) (phase : Phase) → (phase ≡ Installing) ⊎ (phase ≡ Over) → Seeks b phase
seeks_final b phase (inl e) = subst (Seeks b) (sym e) tt
seeks_final b phase (inr e) = subst (Seeks b) (sym e) tt

over_stays : (a : AttemptState) (k : Call) → May a k → a.phase ≡ Over → (turn a k).after.phase ≡ Over
over_stays a k may is = ap (λ (t : Turn). t.after.phase) (ends_once a k is may) ∙ is

pub seeks_after : (b : Bool) (a : AttemptState) (k : Call) → May a k → Seeks b a.phase → Seeks b (turn a k).after.phase
seeks_after b a k may h = by_cases (seeks_or_final b a.phase h)
  where
    by_cases : (b ≡ true) ⊎ ((a.phase ≡ Installing) ⊎ (a.phase ≡ Over)) → Seeks b (turn a k).after.phase
    by_cases (inl e) = seeks_any b (turn a k).after.phase e
    by_cases (inr (inl e)) = seeks_final b (turn a k).after.phase (final_stays a k may e)
    by_cases (inr (inr e)) = seeks_final b (turn a k).after.phase (inr (over_stays a k may e))

-- it installs after the call only where it did before
installing_before : (a : AttemptState) (k : Call) → IsReached a → May a k → installs_in (turn a k).steps ≡ None → (turn a k).after.phase ≡ Installing → a.phase ≡ Installing
installing_before a k reached may none is = by_cases (installs_come_first a k reached may is)
  where
    by_cases : (a.phase ≡ Installing) ⊎ IsSome (installs_in (turn a k).steps) → a.phase ≡ Installing
    by_cases (inl e) = e
    by_cases (inr some) = absurd (false_true (subst (λ o. IsSome o) none some))

counted_by : (M : Memberships) (s : NodeState) (a : AttemptState) (k : Call) → May a k → a.phase ≡ Installing → CountedIn M s a a.phase → CountedIn M s (turn a k).after Installing
counted_by M s a k may is h =
    let before : (s.saved.installed ≡ a.plan.epoch) × InstallTold M (install_in a) × (s.saved.members ≡ a.plan.members) = subst (CountedIn M s a) is h in
    (before.0 ∙ ap (λ p. p.epoch) (sym (plan_stays a k may)), subst (λ x. InstallTold M x) (sym (granted_stays a k may is)) before.1, before.2 ∙ ap (λ p. p.members) (sym (plan_stays a k may)))

pub counted_phase : (M : Memberships) (s : NodeState) (a : AttemptState) (phase : Phase) → (phase ≡ Installing → CountedIn M s a Installing) → CountedIn M s a phase
counted_phase M s a Installing h = h refl
counted_phase M s a Collecting h = tt
counted_phase M s a Choosing h = tt
counted_phase M s a SeizingVotes h = tt
counted_phase M s a SeizingOthers h = tt
counted_phase M s a Over h = tt

pub counted_after : (M : Memberships) (s : NodeState) (a : AttemptState) (k : Call) → IsReached a → May a k → installs_in (turn a k).steps ≡ None → CountedIn M s a a.phase
    → CountedIn M s (turn a k).after (turn a k).after.phase
counted_after M s a k reached may none h =
    counted_phase M s (turn a k).after (turn a k).after.phase (λ is. counted_by M s a k may (installing_before a k reached may none is) h)

-- the call is taken, and gives no install
pub goes_on_so : (c : Cluster) (M : Memberships) (n : ℕ) (s : NodeState) (told : Delivered) (a : AttemptState) (k : Call) → Holds (setting_of c) M → Known M told → Shown M n s
    → Coordinates c M n s a → MayCall c told a k → installs_in (turn a k).steps ≡ None → Coordinates c M n s (turn a k).after
goes_on_so c M n s told a k i known shows h call none =
    let may : May a k = may_be_called c told a k call in
    let plan : (turn a k).after.plan ≡ a.plan = plan_stays a k may in
    record {
      has = has_after c M n s told a k i known shows h call;
      epoch = ap (λ p. p.epoch) plan ∙ h.epoch;
      coordinator = ap (λ p. p.coordinator) plan ∙ h.coordinator;
      reached = reached_more a k may h.reached;
      seeks = seeks_after (M.node n).seeking a k may h.seeks;
      counted = counted_after M s a k h.reached may none h.counted;
      votes = votes_kept c told a k may call h.votes;
      logs = logs_kept c told a k may call h.logs;
    }
