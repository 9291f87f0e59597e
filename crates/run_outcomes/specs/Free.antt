-- Courses in which no attempt ends, nobody is told of an exclusion, and no node panics for one: most of what a node does is such.
use Rattle.refinement.specs.Courses.{Course}
use Rattle.refinement.specs.Courses.Course.{Acts, Falls, Keeps, Stops}
use Rattle.refinement.specs.Doings.{Act}
use Rattle.refinement.specs.Doings.Act.{Ends, Spreads, Writes}
use Rattle.run_outcomes.specs.panics.Notices.{FreeFall, NoNotice}

abbrev pub PlainAct : Act → Type 0
PlainAct (Ends a why) = ⊥
PlainAct (Writes to b) = NoNotice b
PlainAct (Spreads receivers b) = NoNotice b
PlainAct _ = Unit {0}

abbrev pub IsFree : Course → Type 0
IsFree Stops = Unit {0}
IsFree (Acts a rest) = PlainAct a × IsFree rest
IsFree (Keeps change rest) = Unit {0} × IsFree rest
IsFree (Falls why) = FreeFall why
