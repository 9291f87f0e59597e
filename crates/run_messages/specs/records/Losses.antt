-- What else the guards of `refinement` do not say: an update is prepared or committed alone in its event, and a save that is
-- lost ends in a stop or a fault.
use Rattle.std.specs.Prelude.{List, [], ◌∷◌, None, Some}
use Rattle.cl_base.specs.declared.panic.Panic.TheVariants as panic
use Rattle.status_report.specs.declared.node_entry.DownCause.{DownCause}
use Rattle.status_report.specs.declared.node_entry.DownCause.TheVariants as cause
use Rattle.wire.specs.declared.message.Body.{Body}
use Rattle.wire.specs.declared.message.Body.TheVariants as body
use Rattle.refinement.specs.Courses.{Course, Reply}
use Rattle.refinement.specs.Courses.Course.{Acts, Falls as Course_falls, Keeps, Stops}
use Rattle.refinement.specs.Courses.Reply.{Done, Lost_new, Lost_old}
use Rattle.refinement.specs.Doings.{Act, Change, Doing}
use Rattle.refinement.specs.Doings.Act.{Makes}
use Rattle.refinement.specs.Doings.Change.{Commits, Prepares}
use Rattle.refinement.specs.Doings.Doing.{Does, Forgets, Loses, Saves}
use Rattle.refinement.specs.Ties.{Delivered}

-- ---- updates

abbrev pub IsNoUpdate : Body → Type 0
IsNoUpdate (body.Prepare e place text) = ⊥
IsNoUpdate (body.Commit e place) = ⊥
IsNoUpdate b = Unit {0}

-- no Prepare and no Commit is delivered
abbrev pub NoUpdate : Delivered → Type 0
NoUpdate None = Unit {0}
NoUpdate (Some d) = IsNoUpdate d.1.body

abbrev pub ChangeApart : Delivered → Change → Type 0
ChangeApart told (Prepares s text) = Unit {0}
ChangeApart told (Commits s) = Unit {0}
ChangeApart told change = NoUpdate told

abbrev pub ActApart : Delivered → Act → Type 0
ActApart told (Makes change) = ChangeApart told change
ActApart told a = Unit {0}

abbrev pub GoesApart : Delivered → Course → Type 0
GoesApart told Stops = Unit {0}
GoesApart told (Acts a rest) = ActApart told a × GoesApart told rest
GoesApart told (Keeps change rest) = ChangeApart told change × GoesApart told rest
GoesApart told (Course_falls why) = Unit {0}

-- ---- losses

abbrev pub IsLoss : DownCause → Type 0
IsLoss cause.Crash = ⊥
IsLoss cause.Stopped = Unit {0}
IsLoss (cause.Panic panic.Disk) = Unit {0}
IsLoss (cause.Panic p) = ⊥

abbrev pub AreLosses : List Reply → Type 0
AreLosses [] = Unit {0}
AreLosses (Done ∷ replies) = AreLosses replies
AreLosses (Lost_new why ∷ replies) = IsLoss why × AreLosses replies
AreLosses (Lost_old why ∷ replies) = IsLoss why × AreLosses replies

-- ---- small steps

abbrev pub DoingApart : Delivered → Doing → Type 0
DoingApart told (Does a) = ActApart told a
DoingApart told (Saves change) = ChangeApart told change
DoingApart told (Loses change why) = IsLoss why
DoingApart told (Forgets change why) = IsLoss why
DoingApart told d = Unit {0}

abbrev pub AllApart : Delivered → List Doing → Type 0
AllApart told [] = Unit {0}
AllApart told (d ∷ ds) = DoingApart told d × AllApart told ds
