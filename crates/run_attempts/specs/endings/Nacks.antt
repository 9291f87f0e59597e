-- What each promise rests on, and each Nack: an attempt that has its line, a stop of its coordinator in a save, or a boot since the attempt.
use Rattle.std.specs.Prelude.{ℕ, ◌<◌, ◌≡◌, ◌≤◌, ◌⊎◌, true, List, Some}
use Rattle.std.specs.List.{list_any}
use Rattle.history.specs.Attempts.{stops_of}
use Rattle.history.specs.Moment.{Moment}
use Rattle.history.specs.Order.{since}
use Rattle.history.specs.Seizing.{is_attempt, is_boot}
use Rattle.history.specs.Setting.{coordinator}
use Rattle.history.specs.Trace.{sent}
use Rattle.wire.specs.Reads.{whole_of}
use Rattle.wire.specs.declared.message.Body.{Body}
use Rattle.wire.specs.declared.message.Body.TheVariants as body
use Rattle.wire.specs.declared.message.Message.{Message}

abbrev pub IsTried : List Moment → ℕ → Type 0
IsTried moments e = list_any (is_attempt e) moments ≡ true

abbrev pub HasStopped : List Moment → ℕ → Type 0
HasStopped moments n = list_any (stops_of n) moments ≡ true

-- n went up since the attempt e, or e has no line
abbrev pub HasBooted : List Moment → ℕ → ℕ → Type 0
HasBooted moments n e = list_any (is_boot n) (since (is_attempt e) moments) ≡ true

-- q, which n promised, has its line; or it is the node's own, and its save ended in a stop
abbrev pub IsMadeBy : List Moment → ℕ → ℕ → Type 0
IsMadeBy moments n q = 0 < q → IsTried moments q ⊎ ((coordinator q ≡ n) × HasStopped moments n)

-- it has a line or was saved, whoever promised it
abbrev pub IsMade : List Moment → ℕ → Type 0
IsMade moments q = IsTried moments q ⊎ HasStopped moments (coordinator q)

-- n refuses e, as it promised q
pub record NackSo (moments : List Moment) (n e q : ℕ) : Type 0 where
  pub tried : IsTried moments e
  pub most : e ≤ q
  pub made : 0 < q → IsMade moments q
  pub booted : e ≡ q → HasBooted moments n e

abbrev pub IsBegun : List Moment → ℕ → Type 0
IsBegun moments e = (0 < e) × IsTried moments e

-- what a message of n tells of attempts
abbrev pub BodySo : List Moment → ℕ → Body → Type 0
BodySo moments n (body.Nack e q) = NackSo moments n e q
BodySo moments n (body.Collect e members) = IsBegun moments e
BodySo moments n (body.Install i) = IsBegun moments i.epoch
BodySo moments n _ = Unit {0}

abbrev pub SaysSo : List Moment → Moment → Type 0
SaysSo before (sent p n to called bytes) = (m : Message) → whole_of bytes ≡ Some m → BodySo before n m.body
SaysSo before _ = Unit {0}
