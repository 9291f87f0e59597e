-- What an Install reads: each device that its attempt holds.
use Rattle.std.specs.Prelude.{ℕ, ◌≡◌, ◌==◌, Bool, true, List, Option, None, Some}
use Rattle.std.specs.List.{list_any}
use Rattle.attempt_laws.specs.Asking.{AreApart, numbers_of}
use Rattle.cmm_attempt.specs.Attempts.{AttemptState}
use Rattle.membership_machine.specs.State.{Memberships}
use Rattle.node_model.specs.declared.node.Node.{Node}
use Rattle.node_model.specs.declared.node.Node.TheVariants.{Down, Up}
use Rattle.node_model.specs.declared.output.Output.{Output}
use Rattle.node_model.specs.declared.output.Output.TheVariants.{Sends, Tells}
use Rattle.refinement.specs.Runs.{Letter}
use Rattle.refinement.specs.Ties.{Delivered}
use Rattle.wire.specs.declared.lists.Reading.{Reading}
use Rattle.wire.specs.declared.message.Body.{Body}
use Rattle.wire.specs.declared.message.Body.TheVariants as body
use Rattle.wire.specs.declared.message.Install.{Install}

-- a reading of the device is among these
abbrev pub has_reading : ℕ → List Reading → Bool
has_reading d readings = list_any (λ r. r.device == d) readings

-- the attempt was counted, and each device that it holds was read
pub record InstallCovers (M : Memberships) (i : Install) : Type 0 where
  pub counted : (M.epoch i.epoch).counted ≡ true
  pub read : (d : ℕ) → (M.epoch i.epoch).holds d ≡ true → has_reading d i.readings ≡ true

abbrev pub Covers : Memberships → Body → Type 0
Covers M (body.Install i) = InstallCovers M i
Covers M b = Unit {0}

-- .. of a letter, of what is given, and of what was delivered
abbrev pub LetterCovers : Memberships → Letter → Type 0
LetterCovers M l = Covers M l.body

abbrev pub OutputCovers : Memberships → Output → Type 0
OutputCovers M (Tells e) = Unit {0}
OutputCovers M (Sends to b) = Covers M b

abbrev pub HandCovers : Memberships → Delivered → Type 0
HandCovers M None = Unit {0}
HandCovers M (Some d) = Covers M d.1.body

-- an attempt is of devices that are apart
abbrev pub AttemptApart : Option AttemptState → Type 0
AttemptApart None = Unit {0}
AttemptApart (Some a) = AreApart (numbers_of a.plan.attached)

abbrev pub NodeApart : Node → Type 0
NodeApart Down = Unit {0}
NodeApart (Up x) = AttemptApart x.attempt
