-- An attempt on a membership, as far as it concerns the device. Its coordinator made all of it.
use Rattle.std.specs.Prelude.{ℕ, Bool, true, false}
use Rattle.machine_base.specs.Put.{put}

pub record Attempt : Type 0 where
  -- all of its members promised
  pub collected : Bool
  pub members : ℕ → Bool
  -- someone was asked to seize the device ..
  pub asking : Bool
  -- .. as a quorum device or as one without votes
  pub quorum : Bool
  -- .. these nodes so far
  pub asked : ℕ → Bool
  -- .. this one last
  pub seizer : ℕ
  -- a seizing for it ended held
  pub held : Bool
  -- its votes were counted and are a majority; the Install is known from then on
  pub counted : Bool
  -- .. and says that the device is held
  pub holds : Bool

abbrev pub no_attempt : Attempt
no_attempt =
    record { collected = false; members = λ _. false; asking = false; quorum = false; asked = λ _. false; seizer = 0; held = false; counted = false; holds = false }

abbrev pub collecting : Attempt → (ℕ → Bool) → Attempt
collecting e members = record e { collected = true; members = members }

-- Node n is asked.
abbrev pub asking_node : Attempt → ℕ → Bool → Attempt
asking_node e n quorum = record e { asking = true; quorum = quorum; asked = put e.asked n true; seizer = n }

abbrev pub holding_for : Attempt → Attempt
holding_for e = record e { held = true }

abbrev pub counting : Attempt → Bool → Attempt
counting e holds = record e { counted = true; holds = holds }
