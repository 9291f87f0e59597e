-- Installs that went out, by the lines.
use Rattle.std.specs.Prelude.{ℕ, ◌≡◌, true, List}
use Rattle.history.specs.Moment.{Moment}
use Rattle.history.specs.Setting.{coordinator}
use Rattle.history.specs.UnderWay.{is_under_way}
use Rattle.node_model.specs.declared.cluster.Cluster.{Cluster}
use Rattle.run_history.specs.Scenes.{Scene}
use Rattle.run_packets.proofs.installs.Taking.{NodeFine}
use Rattle.run_packets.specs.installs.Passing.{IsMember}
use Rattle.run_seizings.specs.Seized.{has_installed}
use Rattle.run_outcomes.specs.silence.Asked.{asked_in}
use Rattle.run_outcomes.specs.silence.AskedCourses.{to_install}
use Rattle.run_outcomes.specs.tasks.AsksGiven.{IsLeft}

-- An attempt that is under way and that its coordinator has installed has sent an Install to each other member.
abbrev pub Gone : List Moment → Type 0
Gone ms = (e m : ℕ) → is_under_way e ms ≡ true → has_installed (coordinator e) e ms ≡ true → IsMember ms e m → asked_in e (to_install m) ms ≡ true

-- .. while a packet number is left; nobody is ready before an attempt installs, and devices were read with few keys
pub record Outward (c : Cluster) (s : Scene) : Type 0 where
  pub fine : (k : ℕ) → NodeFine c (s.nodes.node k)
  pub gone : IsLeft s.links.next → Gone s.moments
