-- Words of the laws.
use Rattle.std.specs.Prelude.{ℕ, true, ◌≡◌, ◌<◌, ◌≤◌, ◌⊎◌}
use Rattle.device_machine.specs.Sharing.{Sharing}

-- attempt q counted a majority, and holds the device
abbrev pub Holds : Sharing → ℕ → Type 0
Holds s q = ((s.attempt q).counted ≡ true) × ((s.attempt q).holds ≡ true)

-- n is a member of attempt e, or has installed a greater one
abbrev pub MemberOrAbove : Sharing → ℕ → ℕ → ℕ → Type 0
MemberOrAbove s n e installed = ((s.attempt e).members n ≡ true) ⊎ (e < installed)

-- What a node is that joined the device: it installed the attempt of its session, which is its promise, is a member of it, that attempt holds
-- the device, and the node's record says that its key is validated.
pub record HasJoined (s : Sharing) (n : ℕ) : Type 0 where
  pub in_session : 0 < (s.node n).session
  pub promised : (s.node n).session ≡ (s.node n).promised
  pub installed : (s.node n).installed ≡ (s.node n).session
  pub member : (s.attempt (s.node n).session).members n ≡ true
  pub holds : Holds s (s.node n).session
  pub valid : (s.node n).valid ≡ true

-- What no later state takes back.
pub record Later (s t : Sharing) : Type 0 where
  pub word : s.device.word ≤ t.device.word
  -- the device is never held for an attempt after it was held for a greater one
  pub top : s.top ≤ t.top
  pub reserved : s.device.reserved ≡ true → t.device.reserved ≡ true
  pub promised : (n : ℕ) → (s.node n).promised ≤ (t.node n).promised
  pub collected : (q : ℕ) → (s.attempt q).collected ≡ true → (t.attempt q).collected ≡ true
  pub members : (q m : ℕ) → (s.attempt q).collected ≡ true → (t.attempt q).members m ≡ (s.attempt q).members m
  pub holds : (q : ℕ) → Holds s q → Holds t q
