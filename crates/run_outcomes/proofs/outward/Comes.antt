-- At each point of a run the lines tell of a node what is valid to it, what it has installed, and that it has moved on since.
use Rattle.std.specs.Prelude.{ℕ, ◌≡◌, ◌≢◌, ◌⊎◌, ◌≤◌, ◌<◌, ◌^◌, List, [], ◌∷◌, length}
use Rattle.std.proofs.Common.{refl, sym, subst, inl, inr}
use Rattle.cl_base.specs.Limits.{most_devices}
use Rattle.cl_base.specs.declared.header.Header.{Header}
use Rattle.history.specs.Setting.{Setting}
use Rattle.machine_base.proofs.Puts.{same_or_not}
use Rattle.run_devices.proofs.queues.Alone.{lines_of}
use Rattle.run_devices.proofs.queues.Runs.{Comes_to, comes_more, first_comes}
use Rattle.run_devices.proofs.validity.Steps.{excused}
use Rattle.run_devices.proofs.validity.Wants.{KeptBy}
use Rattle.run_devices.specs.validity.Kept.{SiteSo, UpIn, readying}
use Rattle.run_history.specs.Happenings.{Happening, MayAllHappen, all_happened, happened}
use Rattle.run_history.specs.Scenes.{Scene, first_scene}
use Rattle.run_history.specs.Shapes.{Due, ShapedFrom, Want, due_after, nothing}
use Rattle.run_history.specs.Shapes as want
use Rattle.run_history.specs.Stages.{site_of}
use Rattle.run_history.specs.WorldLines.{AreDisks}
use Rattle.world_model.specs.First.{first_cluster}

along : (S : Setting) (cells : ℕ) → length S.header.devices ≤ most_devices → S.header.cluster < 2 ^ 32 → (xs : List Happening) (s : Scene) (d last : Due)
    → MayAllHappen (first_cluster S.header) s xs → ShapedFrom (first_cluster S.header) s d xs last → Comes_to (lines_of S) cells s d.wants
    → Comes_to (lines_of S) cells (all_happened (first_cluster S.header) s xs) last.wants
along S cells few small [] s d last may shaped k = subst (λ (z : Due). Comes_to (lines_of S) cells s z.wants) shaped k
along S cells few small (x ∷ xs) s d last may shaped k =
    along S cells few small xs (happened (first_cluster S.header) s x) (due_after (first_cluster S.header) (happened (first_cluster S.header) s x) d x) last may.1 shaped.1
    (comes_more (lines_of S) cells refl few small s d x may.0 shaped.0 k)

pub comes_to : (S : Setting) (cells : ℕ) (xs : List Happening) (last : Due) → length S.header.devices ≤ most_devices → S.header.cluster < 2 ^ 32 → AreDisks S.header
    → MayAllHappen (first_cluster S.header) (first_scene S.header cells) xs → ShapedFrom (first_cluster S.header) (first_scene S.header cells) nothing xs last
    → Comes_to (lines_of S) cells (all_happened (first_cluster S.header) (first_scene S.header cells) xs) last.wants
comes_to S cells xs last few small disks may shaped = along S cells few small xs (first_scene S.header cells) nothing last may shaped (first_comes (lines_of S) cells few disks)

-- a site is as the lines tell, but for a device where the node has just readied itself to register
pub readied_site : (h : Header) (s : Scene) (n : ℕ) (wants : List Want) → KeptBy h s wants → SiteSo h s.moments n (readying (site_of s.nodes n)) (site_of s.nodes n)
readied_site h s n (want.Command m ∷ wants) k = by_same (same_or_not n m)
  where
    by_same : (n ≡ m) ⊎ (n ≢ m) → SiteSo h s.moments n (readying (site_of s.nodes n)) (site_of s.nodes n)
    by_same (inl is) = subst (λ j. SiteSo h s.moments j (readying (site_of s.nodes j)) (site_of s.nodes j)) (sym is) k.here
    by_same (inr ne) = excused h s.moments n (readying (site_of s.nodes n)) (site_of s.nodes n) (k.there n ne)
readied_site h s n wants k = excused h s.moments n (readying (site_of s.nodes n)) (site_of s.nodes n) (k.sites n)

pub up_kept : (h : Header) (s : Scene) (n : ℕ) (wants : List Want) → KeptBy h s wants → UpIn s.moments n (s.nodes.node n)
up_kept h s n wants k = (readied_site h s n wants k).up
