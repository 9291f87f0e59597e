-- What the guards of `refinement` do not say of messages: a Start is of a membership that the node coordinates, and a Prepared answers the Prepare
-- that is delivered, but for what an attempt of the node's own sends.
use Rattle.std.specs.Prelude.{ℕ, ◌≡◌, ◌%◌, ◌⊎◌, Bool, true, false, List, [], ◌∷◌}
use Rattle.wire.specs.declared.message.Body.{Body}
use Rattle.wire.specs.declared.message.Body.TheVariants as body
use Rattle.refinement.specs.Courses.{Course}
use Rattle.refinement.specs.Courses.Course.{Acts, Falls as Course_falls, Keeps, Stops}
use Rattle.refinement.specs.Doings.{Act, Change, Doing}
use Rattle.refinement.specs.Doings.Act.{Goes_on, Makes, Spreads, Writes}
use Rattle.refinement.specs.Doings.Change.{Counts, Leads, Promises, Starts}
use Rattle.refinement.specs.Doings.Doing.{Comes_up, Does, Saves}
use Rattle.refinement.specs.Guards.{Says}
use Rattle.refinement.specs.Ties.{Delivered}

-- a Prepare of this place in this membership
abbrev pub IsPrepareOf : ℕ → ℕ → Body → Type 0
IsPrepareOf e v (body.Prepare f place text) = (f ≡ e) × (place ≡ v)
IsPrepareOf e v _ = ⊥

-- It is led: in this step an attempt of the node's own was under way.
abbrev pub BodyLed : ℕ → Delivered → Bool → Body → Type 0
BodyLed me told led (body.Start p) = (led ≡ true) ⊎ (p % 64 ≡ me)
BodyLed me told led (body.Prepared e v) = (led ≡ true) ⊎ Says (IsPrepareOf e v) told
BodyLed me told led _ = Unit {0}

-- what is led promises no other number
abbrev pub ChangeLed : Bool → Change → Type 0
ChangeLed led (Promises p) = led ≡ false
ChangeLed led _ = Unit {0}

abbrev pub ActLed : ℕ → Delivered → Bool → Act → Type 0
ActLed me told led (Writes to b) = BodyLed me told led b
ActLed me told led (Spreads receivers b) = BodyLed me told led b
ActLed me told led (Makes change) = ChangeLed led change
ActLed me told led _ = Unit {0}

-- whether it is led from there on
abbrev pub led_change : Bool → Change → Bool
led_change led (Leads p members) = true
led_change led (Counts a k s i) = true
led_change led (Starts a k s) = true
led_change led _ = led

abbrev pub led_act : Bool → Act → Bool
led_act led (Goes_on a k) = true
led_act led (Makes change) = led_change led change
led_act led _ = led

abbrev pub GoesLed : ℕ → Delivered → Bool → Course → Type 0
GoesLed me told led Stops = Unit {0}
GoesLed me told led (Acts a rest) = ActLed me told led a × GoesLed me told (led_act led a) rest
GoesLed me told led (Keeps change rest) = ChangeLed led change × GoesLed me told (led_change led change) rest
GoesLed me told led (Course_falls why) = Unit {0}

abbrev pub DoingLed : ℕ → Delivered → Bool → Doing → Type 0
DoingLed me told led (Does a) = ActLed me told led a
DoingLed me told led (Saves change) = ChangeLed led change
DoingLed me told led _ = Unit {0}

abbrev pub led_doing : Bool → Doing → Bool
led_doing led Comes_up = false
led_doing led (Does a) = led_act led a
led_doing led (Saves change) = led_change led change
led_doing led _ = led

abbrev pub AllLed : ℕ → Delivered → Bool → List Doing → Type 0
AllLed me told led [] = Unit {0}
AllLed me told led (d ∷ ds) = DoingLed me told led d × AllLed me told (led_doing led d) ds
