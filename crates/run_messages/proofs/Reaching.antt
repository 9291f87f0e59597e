-- What is known of each scene that a run comes to.
use Rattle.std.specs.Prelude.{ℕ, ◌<◌, ◌≤◌, ◌^◌, List, [], length}
use Rattle.std.proofs.Common.{refl, subst}
use Rattle.std.specs.List.{AllByRecursion}
use Rattle.cl_base.specs.Limits.{most_devices}
use Rattle.cl_base.specs.declared.header.Header.{Header}
use Rattle.cl_base.specs.declared.method.Outcome as method
use Rattle.node_model.specs.declared.cluster.Cluster.{Cluster}
use Rattle.node_model.specs.declared.input.Input.{Input}
use Rattle.refinement.specs.Widths.{LetterFits}
use Rattle.world_model.specs.First.{first_cluster}
use Rattle.run_history.specs.Happenings.{Happening, MayAllHappen, MayHappen, all_happened, given_by, happened, taking}
use Rattle.run_history.specs.Scenes.{Scene, first_scene}
use Rattle.run_history.specs.Stages.{Stage}
use Rattle.run_history.proofs.Idle.{passing_nodes}
use Rattle.run_history.proofs.Reached.{Reached, kept_holds, reached_more}
use Rattle.run_history.proofs.Runs.{run_stage}
use Rattle.run_messages.proofs.Given.{given_good}
use Rattle.run_messages.specs.Outputs.{AreGood}

-- the scene is one that a run of the header comes to
abbrev pub IsReached : Header → ℕ → Scene → Type 0
IsReached h cells s = Reached (first_cluster h) (first_scene h cells) s

-- the header is one that is read
pub record IsSmall (h : Header) : Type 0 where
  pub few : length h.devices ≤ most_devices
  pub small : h.cluster < 2 ^ 32

pub stage_of : (h : Header) (cells : ℕ) (s : Scene) → IsSmall h → IsReached h cells s → Stage (first_cluster h) s
stage_of h cells s size r = subst (Stage (first_cluster h)) r.is (run_stage h cells r.happenings size.few size.small r.may)

-- What holds at first and is kept between scenes that runs come to.
abbrev pub IsKeptBetween : Header → ℕ → (Scene → Type 0) → Type 0
IsKeptBetween h cells P = (s : Scene) (x : Happening) → MayHappen (first_cluster h) s x → IsReached h cells s → IsReached h cells (happened (first_cluster h) s x) → P s
    → P (happened (first_cluster h) s x)

pub holds_of_each : (h : Header) (cells : ℕ) (P : Scene → Type 0) → IsKeptBetween h cells P → P (first_scene h cells) → (hs : List Happening) → MayAllHappen (first_cluster h) (first_scene h cells) hs
    → P (all_happened (first_cluster h) (first_scene h cells) hs)
holds_of_each h cells P kept first hs may =
    (kept_holds (first_cluster h) (λ s. IsReached h cells s × P s)
    (λ s x now b. let more : IsReached h cells (happened (first_cluster h) s x) = reached_more (first_cluster h) (first_scene h cells) s x b.0 now in (more, kept s x now b.0 more b.1))
    (first_scene h cells) hs may (record { happenings = []; may = tt; is = refl }, first)).1

-- what a node gives where a run goes on
pub taking_good : (c : Cluster) (s : Scene) (n now : ℕ) (ends : method.Outcome) (i : Input) → Stage c (taking c n now ends i s) → AreGood n (given_by c n now ends i s.nodes)
taking_good c s n now ends i b =
    given_good c n now ends i s.nodes (subst (λ v. AllByRecursion LetterFits v.sent) (passing_nodes n (given_by c n now ends i s.nodes) _) b.fits.sent)
