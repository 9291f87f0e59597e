-- Each run.
use Rattle.std.specs.Prelude.{ℕ, ◌^◌, ◌≤◌, ◌<◌, List, [], ◌∷◌, length}
use Rattle.std.proofs.Common.{refl, sym, subst, inl}
use Rattle.cl_base.specs.Limits.{most_devices}
use Rattle.cl_base.specs.Sets.{has}
use Rattle.cl_base.specs.declared.header.Header.{Header}
use Rattle.cmm_member.specs.Records.{NodeRecord}
use Rattle.membership_machine.specs.State.{Memberships}
use Rattle.history.specs.Validated.{Validity, validity}
use Rattle.node_model.specs.declared.cluster.Cluster.{Cluster}
use Rattle.node_model.specs.declared.node.Node.{Node}
use Rattle.node_model.specs.declared.node.Node.TheVariants.{Down, Up}
use Rattle.refinement.proofs.Changes.{sees}
use Rattle.refinement.specs.Ties.{NodeTied}
use Rattle.world_model.specs.First.{first_cluster}
use Rattle.run_history.proofs.DeedRuns.{runs_are_cut}
use Rattle.run_history.proofs.Reached.{Reached, reached_more}
use Rattle.run_history.proofs.Runs.{run_stage}
use Rattle.run_history.proofs.WholeEachRun.{runs_are_whole}
use Rattle.run_history.specs.Happenings.{Happening, MayAllHappen, all_happened, happened}
use Rattle.run_history.specs.Runs.{CutsOf}
use Rattle.run_history.specs.Scenes.{Scene, first_scene}
use Rattle.run_history.specs.Shapes.{Due, ShapedFrom, Want, due_after, nothing}
use Rattle.run_history.specs.Shapes as want
use Rattle.run_history.specs.Stages.{Stage, site_of}
use Rattle.run_history.specs.Wholes.{IsWhole}
use Rattle.run_history.specs.WorldLines.{AreDisks}
use Rattle.run_seizings.specs.Sites.{IsSeizing}
use Rattle.run_seizings.proofs.Runs.{run_seizes}
use Rattle.run_devices.proofs.installs.Stepping.{standing_at}
use Rattle.run_devices.specs.validity.Kept.{NoExcuse, SiteSo}
use Rattle.run_devices.specs.validity.Laws.{Agrees, InMemory, IsReadied, PromisesShowValidity, ValidityOfEachRun}
use Rattle.run_devices.proofs.validity.Acts.{strict}
use Rattle.run_devices.proofs.validity.First.{first_told}
use Rattle.run_devices.proofs.validity.Moments.{Known}
use Rattle.run_devices.proofs.validity.Steps.{Strict}
use Rattle.run_devices.proofs.validity.Wants.{Kept, KeptBy, step_so}

-- ---- runs

stage_at : (h : Header) (cells : ℕ) (s : Scene) → length h.devices ≤ most_devices → h.cluster < 2 ^ 32 → Reached (first_cluster h) (first_scene h cells) s → Stage (first_cluster h) s
stage_at h cells s few small r = subst (Stage (first_cluster h)) r.is (run_stage h cells r.happenings few small r.may)

pub known_at : (h : Header) (cells : ℕ) (s : Scene) → length h.devices ≤ most_devices → h.cluster < 2 ^ 32 → Reached (first_cluster h) (first_scene h cells) s → Known h s
known_at h cells s few small r =
    let cuts : CutsOf h cells r.happenings = runs_are_cut h cells r.happenings in
    record {
      stage = stage_at h cells s few small r;
      whole = subst (IsWhole (first_cluster h)) r.is (runs_are_whole h cells r.happenings cuts few small r.may).scene;
      seizing = subst (IsSeizing h) r.is (run_seizes h cells r.happenings few small r.may).seizing;
      many = few;
      standing = standing_at h cells s few small r;
    }

-- what is reached, with what is due
record Comes_to (h : Header) (cells : ℕ) (s : Scene) (wants : List Want) : Type 0 where
  reached : Reached (first_cluster h) (first_scene h cells) s
  kept : Kept h s wants

run_so : (h : Header) (cells : ℕ) → length h.devices ≤ most_devices → h.cluster < 2 ^ 32 → (xs : List Happening) (s : Scene) (d last : Due) → MayAllHappen (first_cluster h) s xs
    → ShapedFrom (first_cluster h) s d xs last → Comes_to h cells s d.wants → Comes_to h cells (all_happened (first_cluster h) s xs) last.wants
run_so h cells few small [] s d last may shaped k = subst (λ (z : Due). Comes_to h cells s z.wants) shaped k
run_so h cells few small (x ∷ xs) s d last may shaped k =
    let c : Cluster = first_cluster h in
    let next : Reached c (first_scene h cells) (happened c s x) = reached_more c (first_scene h cells) s x k.reached may.0 in
    run_so h cells few small xs (happened c s x) (due_after c (happened c s x) d x) last may.1 shaped.1 (record {
      reached = next;
      kept = step_so h s d x shaped.0 may.0 (known_at h cells s few small k.reached) (stage_at h cells (happened c s x) few small next).laws.once k.kept;
    })

pub first_strict : (h : Header) (cells : ℕ) → length h.devices ≤ most_devices → AreDisks h → Strict h (first_scene h cells)
unfolding first_scene
first_strict h cells few disks = record { sites = λ n. record { valid = λ d is. inl (first_told h n d few disks is); up = tt }; shown = tt }

comes_to : (h : Header) (cells : ℕ) (xs : List Happening) (last : Due) → length h.devices ≤ most_devices → h.cluster < 2 ^ 32 → AreDisks h
    → MayAllHappen (first_cluster h) (first_scene h cells) xs → ShapedFrom (first_cluster h) (first_scene h cells) nothing xs last
    → Comes_to h cells (all_happened (first_cluster h) (first_scene h cells) xs) last.wants
comes_to h cells xs last few small disks may shaped =
    run_so h cells few small xs (first_scene h cells) nothing last may shaped
    (record { reached = record { happenings = []; may = tt; is = refl }; kept = record { wants_so = tt; so = first_strict h cells few disks } })

-- ---- the laws

strict_site : (h : Header) (s : Scene) (n : ℕ) (wants : List Want) → (IsReadied n wants → ⊥) → KeptBy h s wants → SiteSo h s.moments n NoExcuse (site_of s.nodes n)
strict_site h s n (want.Command m ∷ wants) ban k = k.there n (λ is. ban (sym is))
strict_site h s n [] ban k = k.sites n
strict_site h s n (want.Note e ∷ wants) ban k = k.sites n
strict_site h s n (want.Take m i ∷ wants) ban k = k.sites n
strict_site h s n (want.Deliver number x ∷ wants) ban k = k.sites n
strict_site h s n (want.Miss number x ∷ wants) ban k = k.sites n
strict_site h s n (want.Lose number x ∷ wants) ban k = k.sites n
strict_site h s n (want.Repeat number x ∷ wants) ban k = k.sites n
strict_site h s n (want.Write m d value ∷ wants) ban k = k.sites n
strict_site h s n (want.Refuse m d value why ∷ wants) ban k = k.sites n

in_memory : (c : Cluster) (M : Memberships) (n d : ℕ) (disk : NodeRecord) (told : Validity) (node : Node) → NodeTied c M n disk node → Agrees told (has disk.valid d) → InMemory told d node
in_memory c M n d disk told Down tied k = tt
in_memory c M n d disk told (Up x) tied k = subst (λ (r : NodeRecord). Agrees told (has r.valid d)) (sees c M n disk x.attempt x.seat tied.0).disk_so k

pub validity_of_each_run : ValidityOfEachRun
validity_of_each_run h cells xs last few small disks may shaped n d is ban =
    let s : Scene = all_happened (first_cluster h) (first_scene h cells) xs in
    let z : Comes_to h cells s last.wants = comes_to h cells xs last few small disks may shaped in
    let b : Stage (first_cluster h) s = stage_at h cells s few small z.reached in
    let told : Agrees (validity h n d s.moments) (has (s.nodes.disk n).kept.valid d) =
    strict (Agrees (validity h n d s.moments) (has (s.nodes.disk n).kept.valid d)) ((strict_site h s n last.wants ban z.kept.so).valid d is) in
    record {
      disk = told;
      memory = in_memory (first_cluster h) b.machine n d (s.nodes.disk n).kept (validity h n d s.moments) (s.nodes.node n) (b.stands n).tied told;
    }

pub promises_show_validity_in_each_run : PromisesShowValidity
promises_show_validity_in_each_run h cells xs few small disks may shaped = (comes_to h cells xs nothing few small disks may shaped).kept.so.shown
