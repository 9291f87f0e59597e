-- What is known of a run beside its steps: where a node readies itself for its command, and of the devices of the header.
use Rattle.run_history.specs.WorldLines.{IsDevice}
use Rattle.run_outcomes.proofs.results.Apart.{header_apart}
use Rattle.cl_base.specs.declared.header.HeaderDevice.{HeaderDevice}
use Rattle.cmm_attempt.specs.declared.attached.AttachedDevice.{AttachedDevice}
use Rattle.history_setting.proofs.Votes.{setting_counts_votes}
use Rattle.history.specs.Setting.{paths_of}
use Rattle.world_model.specs.First.{attached_from, first_cluster}
use Rattle.run_outcomes.proofs.counts.Named.{at_paths}
use Rattle.run_outcomes.proofs.counts.Places.{IsAt, at_device, at_low, device_of}
use Rattle.std.specs.Prelude.{List, [], length, suc, ℕ, ◌+◌, ◌≡◌, ◌≤◌, ◌∷◌, ◌⊎◌}
use Rattle.std.specs.List.{AllByRecursion}
use Rattle.std.proofs.Common.{ap, inl, inr, refl, subst, sym, arith, ◌∙◌}
use Rattle.cl_base.specs.declared.header.Header.{Header}
use Rattle.node_model.specs.declared.input.Input.{Input}
use Rattle.node_model.specs.declared.input.Input.TheVariants as input
use Rattle.node_model.specs.declared.node.Node.{Node}
use Rattle.node_model.specs.declared.node.Node.TheVariants.{Down, Up}
use Rattle.run_history.specs.Scenes.{Scene}
use Rattle.run_history.specs.Wholes.{IsWhole}
use Rattle.run_outcomes.proofs.results.Fresh.{AllGone, readies_gone, trust_gone}
use Rattle.run_outcomes.proofs.results.Plainly.{plainly_collected}
use Rattle.run_devices.proofs.validity.Courses.{IsTrusting, doings_trust}
use Rattle.refinement.specs.Courses.{Reply}
use Rattle.refinement.specs.Cuts.{doings}
use Rattle.refinement.specs.Doings.{site}
use Rattle.node_model.specs.Steps.{at_second}
use Rattle.cl_base.specs.declared.method.Outcome as method
use Rattle.run_history.specs.Stages.{site_of}
use Rattle.device_queue.specs.Queue.{begins_plainly}
use Rattle.run_outcomes.specs.results.Shown.{IsPlaced, IsShown, OfHeader, NodeShown, collected_in}
use Rattle.run_outcomes.proofs.unregistered.Runs.{StartsAt}

-- ---- a node readies itself for its command

ready_gone : (h : Header) (s : Scene) (n now : ℕ) (ends : method.Outcome) → IsWhole (first_cluster h) s → IsShown h s → (replies : List Reply)
    → AllGone (collected_in s) (first_cluster h) n (site_of s.nodes n) (doings (first_cluster h) n now ends replies input.CommandDue (s.nodes.node n))
ready_gone h s n now ends z k replies = by_node (s.nodes.node n) refl (k.nodes n)
  where
    by_node : (node : Node) → s.nodes.node n ≡ node → NodeShown h (collected_in s) s.moments n node
        → AllGone (collected_in s) (first_cluster h) n (site node (s.nodes.disk n).kept) (doings (first_cluster h) n now ends replies input.CommandDue node)
    by_node Down at shown = tt
    by_node (Up x) at shown = (
      tt,
      readies_gone (collected_in s) (first_cluster h) n (at_second now x) (s.nodes.disk n).kept replies (begins_plainly x.tasks)
          (λ d begins some ahead. plainly_collected h s n d x z at begins shown),
    )

pub takes_gone : (h : Header) (s : Scene) (n now : ℕ) (ends : method.Outcome) (i : Input) → IsWhole (first_cluster h) s → IsShown h s → (i ≡ input.CommandDue) ⊎ IsTrusting i → StartsAt (first_cluster h) n now ends i s.nodes → (replies : List Reply)
    → AllGone (collected_in s) (first_cluster h) n (site_of s.nodes n) (doings (first_cluster h) n now ends replies i (s.nodes.node n))
takes_gone h s n now ends i z k (inl due) starts replies =
    subst (λ j. AllGone (collected_in s) (first_cluster h) n (site_of s.nodes n) (doings (first_cluster h) n now ends replies j (s.nodes.node n))) (sym due) (ready_gone h s n now ends z k replies)
takes_gone h s n now ends i z k (inr trusts) starts replies =
    trust_gone (collected_in s) (first_cluster h) n (site_of s.nodes n) _ (doings_trust (first_cluster h) n now ends replies i (s.nodes.node n) trusts) (starts replies)

-- ---- the devices of the header

at_high : (k : ℕ) (hs : List HeaderDevice) (d : ℕ) (a : AttachedDevice) → IsAt k hs d a → d + 1 ≤ k + length hs
at_high k [] d a at = absurd at
at_high k (x ∷ hs) d a (inl here) = first k d (length hs) here.0
  where
    first : (k d n : ℕ) → d ≡ k → d + 1 ≤ k + suc n
    first k d n e = omega (arith, e)
at_high k (x ∷ hs) d a (inr there) = next k d (length hs) (at_high (k + 1) hs d a there)
  where
    next : (k d n : ℕ) → d + 1 ≤ (k + 1) + n → d + 1 ≤ k + suc n
    next k d n i = omega (arith, i)

placed_at : (h : Header) (k : ℕ) (hs : List HeaderDevice) → ((d : ℕ) (a : AttachedDevice) → IsAt k hs d a → IsPlaced h a) → AllByRecursion (IsPlaced h) (attached_from k hs)
placed_at h k [] f = tt
placed_at h k (x ∷ hs) f = (f k (device_of k x) (inl (refl, refl)), placed_at h (k + 1) hs (λ d a at. f d a (inr at)))

pub of_header : (h : Header) → length h.devices ≤ 16 → OfHeader h (first_cluster h)
of_header h few = record {
  id = refl;
  places = placed_at h 1 h.devices (λ d a at.
      let same : a.device ≡ d = at_device 1 h.devices d a at in
      record {
        nodes = at_paths 1 h.devices d a at ∙ ap (λ j. paths_of h j) (sym same);
        device = subst (IsDevice h) (sym same) (at_low 1 h.devices d a at, less d (length h.devices) (at_high 1 h.devices d a at));
      });
  apart = header_apart 1 h.devices;
  few = wide (length h.devices) few;
  all = refl;
  votes = setting_counts_votes h;
}
  where
    less : (d n : ℕ) → d + 1 ≤ 1 + n → d ≤ n
    less d n i = omega (arith, i)

    wide : (n : ℕ) → n ≤ 16 → n ≤ 32
    wide n i = omega (arith, i)
