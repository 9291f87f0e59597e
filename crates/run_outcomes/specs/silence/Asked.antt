-- Which messages the lines tell that an attempt has sent to its other members: Collects, and requests to seize the devices that are no quorum devices. Of
-- quorum devices `tasks` has it.
use Rattle.std.specs.Prelude.{ℕ, ◌==◌, ◌&&◌, ◌||◌, ◌≡◌, ◌⊎◌, not, Bool, true, false, List, [], ◌∷◌, Option, None, Some, is_none, if◌then◌else◌}
use Rattle.std.specs.List.{list_any}
use Rattle.attempt_laws.specs.Asking.{AreApart, entry_numbers, entry_of, numbers_of}
use Rattle.cl_base.specs.Numbers.{numbers_to}
use Rattle.cl_base.specs.Sets.{has}
use Rattle.cmm_attempt.specs.Attempts.{AttemptState, Turn, has_readied}
use Rattle.cmm_attempt.specs.declared.phase.Phase.{Phase}
use Rattle.cmm_attempt.specs.Calls.{Call, Take}
use Rattle.cmm_attempt.specs.Seizings.{is_asked}
use Rattle.cmm_attempt.specs.declared.phase.Phase.TheVariants.{Installing, SeizingVotes}
use Rattle.cmm_attempt.specs.declared.plan.Plan.{Plan}
use Rattle.cmm_attempt.specs.declared.seizing.Seizing.{Seizing}
use Rattle.cmm_attempt.specs.declared.step.Step.{Step}
use Rattle.cmm_attempt.specs.declared.step.Step.TheVariants as step
use Rattle.history.specs.Letters.{Letter, is_letter, letter_of, name_of, says}
use Rattle.history.specs.Moment.{Moment}
use Rattle.history.specs.Names as name
use Rattle.history.specs.Names.{Name, named, same_name}
use Rattle.history.specs.Setting.{coordinator}
use Rattle.history.specs.Trace.{attempt, delivered, sent}
use Rattle.node_model.specs.declared.input.Input.{Input}
use Rattle.node_model.specs.declared.input.Input.TheVariants.{Packet}
use Rattle.node_model.specs.declared.output.Output.{Output}
use Rattle.node_model.specs.declared.output.Output.TheVariants.{Sends, Tells}
use Rattle.status_report.specs.declared.attempt_entry.AttemptEntry.TheVariants as attempt_entry
use Rattle.status_report.specs.declared.entry.Entry.TheVariants as entry
use Rattle.wire.specs.declared.message.Body.{Body}
use Rattle.wire.specs.declared.message.Body.TheVariants as body
use Rattle.run_outcomes.specs.phases.Kept.{In}
use Rattle.run_outcomes.specs.tasks.Asks.{IsEarly}
use Rattle.run_outcomes.specs.tasks.Laws.{is_vote}

-- ---- messages of one name to one member

pub record Query : Type 0 where
  pub to : ℕ
  pub called : Name

-- these are counted as they come, not as they are sent
abbrev pub is_sent : Name → Bool
is_sent (name.Seized d) = false
is_sent name.Ready = false
is_sent _ = true

abbrev pub asks : Query → ℕ → Name → Bool
asks q to called = is_sent q.called && (to == q.to) && same_name called q.called

-- whether one was sent, with this message
abbrev pub asked_by_body : Query → ℕ → Body → Bool → Bool
asked_by_body q to b asked = asks q to (name_of b) || asked

-- with the messages among these steps
abbrev pub asked_by_steps : Query → List Step → Bool → Bool
asked_by_steps q [] asked = asked
asked_by_steps q (step.Send to m ∷ steps) asked = asked_by_steps q steps (asked_by_body q to m.body asked)
asked_by_steps q (_ ∷ steps) asked = asked_by_steps q steps asked

-- with what a node gives; where attempt e begins, none was sent
abbrev pub asked_by_output : ℕ → Query → Output → Bool → Bool
asked_by_output e q (Sends to b) asked = asked_by_body q to b asked
asked_by_output e q (Tells (entry.Attempt (attempt_entry.Begun f members))) asked = if f == e then false else asked
asked_by_output e q (Tells told) asked = asked

abbrev pub asked_by_outputs : ℕ → Query → List Output → Bool → Bool
asked_by_outputs e q [] asked = asked
asked_by_outputs e q (o ∷ os) asked = asked_by_outputs e q os (asked_by_output e q o asked)

-- an answer for this attempt
abbrev pub answers : Name → ℕ → Option Body → Bool
answers (name.Seized k) e (Some (body.Seized epoch d result)) = epoch == e
answers name.Ready e (Some (body.Ready epoch joined report)) = epoch == e
answers _ e _ = false

abbrev pub comes : ℕ → Query → Option Letter → Bool
comes e q None = false
comes e q (Some l) = not (is_sent q.called) && is_letter q.called q.to (coordinator e) l && answers q.called e (says l.bytes)

-- by the lines, for attempt e: what was sent, and of Seizeds and Readies what has come
abbrev pub asked_in : ℕ → Query → List Moment → Bool
asked_in e q [] = false
asked_in e q (attempt f members ∷ before) = if f == e then false else asked_in e q before
asked_in e q (sent p c m called bytes ∷ before) = ((c == coordinator e) && asks q m (named called)) || asked_in e q before
asked_in e q (delivered p a b ∷ before) = comes e q (letter_of p before) || asked_in e q before
asked_in e q (_ ∷ before) = asked_in e q before

-- ---- as the attempt has them

abbrev pub is_other_node : Plan → ℕ → Bool
is_other_node plan m = list_any (λ k. k == m) plan.nodes && not (m == plan.coordinator)

-- another member was asked to seize this device, which is no quorum device
abbrev pub has_plain : ℕ → ℕ → Option Seizing → Bool
has_plain c m None = false
has_plain c m (Some e) = not (is_vote e.kind) && not (m == c) && has e.asked m

-- its devices are apart, and it has none before the votes were given
pub record IsSound (plan : Plan) (devices : List Seizing) (phase : Phase) : Type 0 where
  pub nodes : plan.nodes ≡ numbers_to plan.members 32
  pub attached : AreApart (numbers_of plan.attached)
  pub apart : AreApart (entry_numbers devices)
  pub early : IsEarly phase → devices ≡ []

-- ---- a device that is no quorum device

-- this other member is asked to seize it, and its answer is awaited
abbrev pub wants_plain : ℕ → ℕ → Option Seizing → Bool
wants_plain c m None = false
wants_plain c m (Some e) = is_none e.result && not (is_vote e.kind) && is_asked e.seizer m && not (m == c)

abbrev pub IsVoteAt : Option Seizing → Type 0
IsVoteAt None = Unit {0}
IsVoteAt (Some e) = is_vote e.kind ≡ true

-- m was asked to seize device d, as its entry has it
pub record DataIn (m d : ℕ) (asked : Bool) (plan : Plan) (devices : List Seizing) (phase : Phase) : Type 0 where
  pub sound : IsSound plan devices phase
  pub told : asked ≡ has_plain plan.coordinator m (entry_of devices d)
  pub awaited : wants_plain plan.coordinator m (entry_of devices d) ≡ true → has_plain plan.coordinator m (entry_of devices d) ≡ true
  pub votes : phase ≡ SeizingVotes → IsVoteAt (entry_of devices d)

abbrev pub Data : ℕ → ℕ → Bool → AttemptState → Type 0
Data m d asked s = DataIn m d asked s.plan s.devices s.phase

-- ---- answers

-- who was asked to seize the device has answered, or is the one whose answer is awaited
abbrev pub HasAnswered : ℕ → ℕ → Bool → Option Seizing → Type 0
HasAnswered c m came None = Unit {0}
HasAnswered c m came (Some e) = has e.asked m ≡ true → (m == c) ≡ false → (came ≡ true) ⊎ ((is_asked e.seizer m ≡ true) × (is_none e.result ≡ true))

-- its seizing is over
abbrev pub IsSettledAt : Option Seizing → Type 0
IsSettledAt None = Unit {0}
IsSettledAt (Some e) = is_none e.result ≡ false

pub record AnswersIn (m d : ℕ) (came : Bool) (plan : Plan) (devices : List Seizing) (phase : Phase) : Type 0 where
  pub sound : IsSound plan devices phase
  pub told : HasAnswered plan.coordinator m came (entry_of devices d)
  pub settled : phase ≡ Installing → IsSettledAt (entry_of devices d)

abbrev pub Answers : ℕ → ℕ → Bool → AttemptState → Type 0
Answers m d came s = AnswersIn m d came s.plan s.devices s.phase

-- An attempt has sent a Collect to each other member, and has asked those to seize a device that is no quorum device which its entry has.
abbrev pub IsTold : AttemptState → ℕ → Name → Bool → Type 0
IsTold a m name.Collect was = is_other_node a.plan m ≡ true → was ≡ true
IsTold a m (name.SeizeData d) asked = Data m d asked a
IsTold a m (name.Seized d) came = Answers m d came a
IsTold a m name.Ready came = has_readied a.readies m ≡ true → came ≡ true
IsTold a m _ asked = Unit {0}

-- after more was sent that asks nobody to seize
abbrev pub Alike : Name → Bool → Bool → Type 0
Alike name.Collect before after = before ≡ true → after ≡ true
Alike (name.SeizeData d) before after = after ≡ before
Alike (name.Seized d) before after = before ≡ true → after ≡ true
Alike name.Ready before after = before ≡ true → after ≡ true
Alike _ before after = Unit {0}

abbrev pub Told : Query → Bool → AttemptState → Type 0
Told q asked a = IsTold a q.to q.called asked

-- and after a turn, with the messages that it sends
abbrev pub DataTurn : ℕ → ℕ → Bool → Turn → Type 0
DataTurn m d asked u = Data m d (asked_by_steps (record { to = m; called = name.SeizeData d }) u.steps asked) u.after

-- ---- what is brought by a call

abbrev pub HandTold : (ℕ → Query → Bool) → ℕ → ℕ → Body → Type 0
HandTold g e from (body.Seized p d r) = p ≡ e → g p (record { to = from; called = name.Seized d }) ≡ true
HandTold g e from (body.Ready p joined report) = p ≡ e → g p (record { to = from; called = name.Ready }) ≡ true
HandTold g e from _ = Unit {0}

abbrev pub CallTold : (ℕ → Query → Bool) → AttemptState → Call → Type 0
CallTold g a (Take from m) = HandTold g a.plan.epoch from m.body
CallTold g a _ = Unit {0}

-- what comes to the node
abbrev pub InputTold : (ℕ → Query → Bool) → Option AttemptState → Input → Type 0
InputTold g o (Packet from m) = In (λ a. HandTold g a.plan.epoch from m.body) o
InputTold g o _ = Unit {0}
