-- A node that is engaged in the seizing of a device for a membership: no other is asked to seize it any more.
use Rattle.std.specs.Prelude.{ℕ, ◌≡◌, ◌<◌, ◌≤◌, true, false, List, Some}
use Rattle.cl_base.specs.declared.header.Header.{Header}
use Rattle.cluster_machine.specs.Cluster.{Cluster as Whole}
use Rattle.device_machine.specs.Initiator.{Initiator}
use Rattle.device_machine.specs.Phase.{rank}
use Rattle.device_machine.specs.Sharing.{Sharing}
use Rattle.history.specs.Moment.{Moment}
use Rattle.history.specs.Seizing.{keys_seized}

-- it has promised e, it did not answer that it is not registered, and in the session of e it is past the commands by which it might
pub record EngagedIn (e : ℕ) (v : Initiator) : Type 0 where
  pub low : e ≤ v.promised
  pub registered : v.past.unregistered e ≡ false
  pub begun : v.session ≡ e → 2 ≤ rank v.phase

-- it was asked, and is so
pub record Engaged (s : Sharing) (n e : ℕ) : Type 0 where
  pub some : 0 < e
  pub asked : (s.attempt e).asked n ≡ true
  pub node : EngagedIn e (s.node n)

-- whoever seized a device by the lines is engaged there
abbrev pub SeizersEngaged : Header → Whole → List Moment → Type 0
SeizersEngaged h W moments = (n e d : ℕ) (keys : List ℕ) → keys_seized h n e d moments ≡ Some keys → Engaged (W.device d) n e
