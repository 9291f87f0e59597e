-- When a node may answer a command in a step: one that waits, once.
use Rattle.std.specs.Prelude.{ℕ, ◌≡◌, ◌⊎◌, ◌++◌, true, false, List, [], ◌∷◌, Some, is_some}
use Rattle.std.specs.List.{AllByRecursion}
use Rattle.request_queue.specs.Queue.{Queue, oldest_in}
use Rattle.request_queue.specs.declared.request.Request.{Request}
use Rattle.status_report.specs.declared.command_entry.Answer.{Answer}
use Rattle.status_report.specs.declared.command_entry.CommandEntry.TheVariants as command
use Rattle.status_report.specs.declared.entry.Entry.{Entry}
use Rattle.status_report.specs.declared.entry.Entry.TheVariants as entry
use Rattle.status_report.specs.declared.node_entry.NodeEntry.TheVariants as note
use Rattle.node_model.specs.Seats.{coordinator_of, is_member}
use Rattle.node_model.specs.declared.cluster.Cluster.{Cluster}
use Rattle.node_model.specs.declared.node.UpNode.{UpNode}
use Rattle.node_model.specs.declared.output.Output.{Output}
use Rattle.node_model.specs.declared.output.Output.TheVariants.{Tells, Sends}
use Rattle.refinement.specs.Courses.{Course}
use Rattle.refinement.specs.Courses.Course.{Acts, Falls as Course_falls, Keeps, Stops}
use Rattle.refinement.specs.Doings.{Act, Change, acted, changed}
use Rattle.refinement.specs.Doings.Act.{Gives, Makes, Minds}
use Rattle.refinement.specs.Doings.Change.{Acks}

-- which commands wait in a step, beside those whose requests are in the queue
pub data Hand : Type 0 where
  Free : Hand  -- none
  Held : (number : ℕ) → Hand  -- this one too
  Spent : (number : ℕ) → Hand  -- none, and that of the first request is answered

abbrev pub IsFree : Hand → Type 0
IsFree Free = Unit {0}
IsFree (Held k) = ⊥
IsFree (Spent k) = ⊥

abbrev pub IsSpent : Hand → Type 0
IsSpent Free = ⊥
IsSpent (Held k) = ⊥
IsSpent (Spent k) = Unit {0}

abbrev pub IsUnspent : Hand → Type 0
IsUnspent Free = Unit {0}
IsUnspent (Held k) = Unit {0}
IsUnspent (Spent k) = ⊥

-- ---- what is told

-- the first request is of the command of this number
pub record FirstTold (waiting : List Request) (q : ℕ) : Type 0 where
  pub request : Request
  pub is : oldest_in waiting ≡ Some request
  pub told : request.told ≡ true
  pub number : request.number ≡ q

-- this command may be answered, and then ..
abbrev pub MayAnswer : Hand → List Request → ℕ → Hand → Type 0
MayAnswer Free waiting q after = FirstTold waiting q × (after ≡ Spent q)
MayAnswer (Held k) waiting q after = (q ≡ k) × (after ≡ Free)
MayAnswer (Spent k) waiting q after = ⊥

-- a line of no boot, no command and no packet
abbrev pub IsQuiet : Entry → Type 0
IsQuiet (entry.Node m note.Up) = ⊥
IsQuiet (entry.Command e) = ⊥
IsQuiet (entry.Packet e) = ⊥
IsQuiet _ = Unit {0}

abbrev pub IsQuietOutput : Output → Type 0
IsQuietOutput (Tells e) = IsQuiet e
IsQuietOutput (Sends to b) = Unit {0}

abbrev pub AreQuiet : List Output → Type 0
AreQuiet os = AllByRecursion IsQuietOutput os

-- one line, by which a command is answered
pub record AnswersOne (own : ℕ) (h : Hand) (waiting : List Request) (os : List Output) (after : Hand) : Type 0 where
  pub number : ℕ
  pub reply : Answer
  pub is : os ≡ Tells (entry.Command (command.Answered own number reply)) ∷ []
  pub may : MayAnswer h waiting number after

abbrev pub GivesSo : ℕ → Hand → List Request → List Output → Hand → Type 0
GivesSo own h waiting os after = (AreQuiet os × (after ≡ h)) ⊎ AnswersOne own h waiting os after

-- ---- how the queue changes

pub data Move : Type 0 where
  Stays : Move
  Pops : Move  -- the first is answered, and leaves
  Drops : Move  -- the first leaves
  Takes : (r : Request) → Move  -- the first leaves, and its command waits on
  Joins : (r : Request) → Move  -- a command gets its request

abbrev pub rest_of : List Request → List Request
rest_of [] = []
rest_of (r ∷ rs) = rs

abbrev pub waiting_by : Move → List Request → List Request
waiting_by Stays waiting = waiting
waiting_by Pops waiting = rest_of waiting
waiting_by Drops waiting = rest_of waiting
waiting_by (Takes r) waiting = rest_of waiting
waiting_by (Joins r) waiting = waiting ++ r ∷ []

-- the first request is a monitor's
abbrev pub FirstUntold : List Request → Type 0
FirstUntold [] = Unit {0}
FirstUntold (r ∷ rs) = r.told ≡ false

abbrev pub MayMove : Move → Hand → List Request → Hand → Type 0
MayMove Stays h waiting after = IsUnspent h × (after ≡ h)
MayMove Pops h waiting after = IsSpent h × (after ≡ Free)
MayMove Drops h waiting after = (h ≡ Free) × FirstUntold waiting × (after ≡ Free)
MayMove (Takes r) h waiting after = (h ≡ Free) × (oldest_in waiting ≡ Some r) × (r.told ≡ true) × (after ≡ Held r.number)
MayMove (Joins r) h waiting after = (h ≡ Held r.number) × (r.told ≡ true) × (after ≡ Free)

pub record QueueGoes (h : Hand) (before after : Queue) (g : Hand) : Type 0 where
  pub move : Move
  pub waiting : after.waiting ≡ waiting_by move before.waiting
  pub asked : after.asked ≡ before.asked
  pub may : MayMove move h before.waiting g

-- the coordinator of a member's session is a node
abbrev pub IsLed : UpNode → Type 0
IsLed x = is_member x.seat ≡ true → is_some (coordinator_of x) ≡ true

-- ---- how a course goes

abbrev pub ChangeSo : Hand → UpNode → Change → Hand → Type 0
ChangeSo h x (Acks s p q left text) g = QueueGoes h x.requests q g
ChangeSo h x _ g = (h ≡ Free) × (g ≡ Free)

abbrev pub ActSo : ℕ → Hand → UpNode → Act → Hand → Type 0
ActSo own h x (Gives os) g = GivesSo own h x.requests.waiting os g
ActSo own h x (Minds q p) g = QueueGoes h x.requests q g
ActSo own h x (Makes change) g = ChangeSo h x change g
ActSo own h x _ g = g ≡ h

-- at its end each command that waits has its request in the queue
abbrev pub GoesSo : Cluster → ℕ → Hand → UpNode → Course → Type 0
GoesSo c own h x Stops = IsFree h
GoesSo c own h x (Acts a rest) = (g : Hand) × ActSo own h x a g × GoesSo c own g (acted c own x a) rest
GoesSo c own h x (Keeps change rest) = (g : Hand) × ChangeSo h x change g × GoesSo c own g (changed c own x change) rest
GoesSo c own h x (Course_falls why) = Unit {0}
