-- What the guards of `refinement` do not say of notices: an Excluded is sent, and a node panics for an exclusion, where an attempt of its own has just ended
-- so; and a node panics at an Excluded of its session that is delivered to it.
use Rattle.std.specs.Prelude.{ℕ, ◌≡◌, ◌⊎◌, true, List, [], ◌∷◌, Option, None, Some}
use Rattle.std.specs.Option.{unwrap_or}
use Rattle.cl_base.specs.declared.panic.Panic.TheVariants as panic
use Rattle.cmm_attempt.specs.Attempts.{AttemptState, newest_installed}
use Rattle.cmm_attempt.specs.declared.step.AttemptEnd.{AttemptEnd}
use Rattle.cmm_attempt.specs.declared.step.AttemptEnd.TheVariants as end
use Rattle.node_model.specs.Seats.{is_in}
use Rattle.node_model.specs.declared.cluster.Cluster.{Cluster}
use Rattle.node_model.specs.declared.node.UpNode.{UpNode}
use Rattle.refinement.specs.Courses.{Course}
use Rattle.refinement.specs.Courses.Course.{Acts, Falls, Keeps, Stops}
use Rattle.refinement.specs.Doings.{Act, Doing, Site, acted, changed, effect}
use Rattle.refinement.specs.Doings.Act.{Ends, Spreads, Writes}
use Rattle.refinement.specs.Doings.Doing.{Does, Goes_down}
use Rattle.refinement.specs.Guards.{OfUp, Says}
use Rattle.refinement.specs.Ties.{Delivered}
use Rattle.status_report.specs.declared.node_entry.DownCause.{DownCause}
use Rattle.status_report.specs.declared.node_entry.DownCause.TheVariants as cause
use Rattle.wire.specs.declared.message.Body.{Body}
use Rattle.wire.specs.declared.message.Body.TheVariants as body

-- ---- the exclusion that the node has said last, where nothing came after it

-- attempt `epoch` has excluded `member`; `newest` is the epoch of the newest record that it has in hand
pub record Notice : Type 0 where
  pub epoch : ℕ
  pub newest : ℕ
  pub member : ℕ

abbrev pub notice_of : AttemptState → AttemptEnd → Option Notice
notice_of a (end.Excluded m) = Some (record { epoch = a.plan.epoch; newest = unwrap_or (newest_installed a) 0; member = m })
notice_of a _ = None

abbrev pub notice_by : Act → Option Notice
notice_by (Ends a why) = notice_of a why
notice_by _ = None

abbrev pub notice_after : Doing → Option Notice
notice_after (Does a) = notice_by a
notice_after _ = None

-- ---- what is sent

abbrev pub BodySaid : Option Notice → ℕ → Body → Type 0
BodySaid said to (body.Excluded e newest) = said ≡ Some (record { epoch = e; newest = newest; member = to })
BodySaid said to _ = Unit {0}

abbrev pub NoNotice : Body → Type 0
NoNotice (body.Excluded e newest) = ⊥
NoNotice _ = Unit {0}

abbrev pub ActSaid : Option Notice → Act → Type 0
ActSaid said (Writes to b) = BodySaid said to b
ActSaid said (Spreads receivers b) = NoNotice b
ActSaid said _ = Unit {0}

-- ---- why a node panics for an exclusion, by epoch f

-- an attempt of its own has just excluded it
abbrev pub IsOwn : ℕ → ℕ → Option Notice → Type 0
IsOwn me f None = ⊥
IsOwn me f (Some x) = (x.member ≡ me) × (x.newest ≡ f)

-- an Excluded of its session says so
abbrev pub IsNoticeIn : UpNode → ℕ → Body → Type 0
IsNoticeIn x f (body.Excluded e newest) = (is_in x e ≡ true) × (newest ≡ f)
IsNoticeIn x f _ = ⊥

abbrev pub FallSaid : ℕ → Delivered → Option Notice → UpNode → DownCause → Type 0
FallSaid me told said x (cause.Panic (panic.Excluded f)) = IsOwn me f said ⊎ Says (IsNoticeIn x f) told
FallSaid me told said x _ = Unit {0}

-- ---- courses

abbrev pub GoesSaid : Cluster → ℕ → Delivered → Option Notice → UpNode → Course → Type 0
GoesSaid c me told said x Stops = Unit {0}
GoesSaid c me told said x (Acts a rest) = ActSaid said a × GoesSaid c me told (notice_by a) (acted c me x a) rest
GoesSaid c me told said x (Keeps change rest) = Unit {0} × GoesSaid c me told None (changed c me x change) rest
GoesSaid c me told said x (Falls why) = FallSaid me told said x why

-- nobody is told of an exclusion by it
abbrev pub FreeAct : Act → Type 0
FreeAct (Writes to b) = NoNotice b
FreeAct (Spreads receivers b) = NoNotice b
FreeAct _ = Unit {0}

-- it is no panic for one
abbrev pub FreeFall : DownCause → Type 0
FreeFall (cause.Panic (panic.Excluded f)) = ⊥
FreeFall _ = Unit {0}

-- ---- small steps

abbrev pub DoingSaid : ℕ → Delivered → Option Notice → Site → Doing → Type 0
DoingSaid me told said x (Does a) = ActSaid said a
DoingSaid me told said x (Goes_down why) = OfUp (λ y. FallSaid me told said y why) x.node
DoingSaid me told said x _ = Unit {0}

abbrev pub AllSaid : Cluster → ℕ → Delivered → Option Notice → Site → List Doing → Type 0
AllSaid c me told said x [] = Unit {0}
AllSaid c me told said x (d ∷ ds) = DoingSaid me told said x d × AllSaid c me told (notice_after d) (effect c me x d) ds
