-- What an attempt has of the answers of other members, against what these told.
use Rattle.std.specs.Prelude.{ℕ, ◌≡◌, ◌≢◌, ◌⊎◌, false, Option, None, Some}
use Rattle.attempt_laws.specs.Asking.{AreApart, entry_numbers, entry_of, numbers_of}
use Rattle.attempt_laws.specs.Staying.{IsBefore}
use Rattle.cl_base.specs.Numbers.{numbers_to}
use Rattle.cl_base.specs.Seizings.{SeizeResult}
use Rattle.cl_base.specs.Sets.{has}
use Rattle.cmm_attempt.specs.Attempts.{AttemptState, Turn}
use Rattle.cmm_attempt.specs.declared.phase.Phase.{Phase}
use Rattle.cmm_attempt.specs.declared.phase.Phase.TheVariants.{Choosing, Collecting}
use Rattle.cmm_attempt.specs.declared.seizing.Seizing.{Seizing}

-- of a device and a member, what its last Seized told
abbrev pub Heard : Type 0
Heard = ℕ → ℕ → Option SeizeResult

-- nobody told anything
abbrev pub IsFree : Heard → Type 0
IsFree T = (d m : ℕ) → T d m ≡ None

-- nothing is to be seized yet
abbrev pub IsEarly : Phase → Type 0
IsEarly Collecting = Unit {0}
IsEarly Choosing = Unit {0}
IsEarly _ = ⊥

-- The entry of device d has what the member told that was asked last, and only those told anything that were asked.
abbrev pub EntryHas : Heard → ℕ → ℕ → Option Seizing → Type 0
EntryHas T c d None = (m : ℕ) → T d m ≡ None
EntryHas T c d (Some e) = (m : ℕ) → (e.seizer ≡ Some m → m ≢ c → T d m ≡ e.result) × (has e.asked m ≡ false → T d m ≡ None)

-- .. but that the answer of this member may be missing
abbrev pub EntryBut : Heard → ℕ → ℕ → ℕ → Option Seizing → Type 0
EntryBut T c d from None = (m : ℕ) → T d m ≡ None
EntryBut T c d from (Some e) =
    (m : ℕ) → (e.seizer ≡ Some m → m ≢ c → (T d m ≡ e.result) ⊎ ((m ≡ from) × (e.result ≡ None))) × (has e.asked m ≡ false → T d m ≡ None)

pub record Has (T : Heard) (s : AttemptState) : Type 0 where
  pub entries : (d : ℕ) → EntryHas T s.plan.coordinator d (entry_of s.devices d)
  pub apart : AreApart (entry_numbers s.devices)
  pub early : IsEarly s.phase → IsFree T

-- the answer of this member on device d may be missing
pub record HasBut (T : Heard) (d from : ℕ) (s : AttemptState) : Type 0 where
  pub others : (x : ℕ) → x ≢ d → EntryHas T s.plan.coordinator x (entry_of s.devices x)
  pub there : EntryBut T s.plan.coordinator d from (entry_of s.devices d)
  pub apart : AreApart (entry_numbers s.devices)
  pub early : IsEarly s.phase → IsFree T

-- after a call, unless the attempt installs or is over
abbrev pub After : Heard → Turn → Type 0
After T u = IsBefore u.after.phase → Has T u.after

-- of an attempt of this number
pub record Answered (T : Heard) (e : ℕ) (s : AttemptState) : Type 0 where
  pub epoch : s.plan.epoch ≡ e
  pub nodes : s.plan.nodes ≡ numbers_to s.plan.members 32
  pub attached : AreApart (numbers_of s.plan.attached)
  pub has : IsBefore s.phase → Has T s
