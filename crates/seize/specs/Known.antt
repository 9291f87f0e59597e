-- What a command of a task and its answer tell: what the node knows at the step that they lead to.
use Rattle.std.specs.Prelude.{◌≡◌, ◌≢◌, ◌<◌, ℕ, ◌⊎◌, ◌||◌, true, false, Some, None, Ok}
use Rattle.pgr_device.specs.declared.command.PrCommand.{PrCommand}
use Rattle.pgr_device.specs.declared.command.PrCommand.TheVariants as command
use Rattle.pgr_device.specs.declared.command.PrAnswer.TheVariants as answer
use Rattle.cl_base.specs.Keys.{key_of}
use Rattle.cl_base.specs.Seizings.{SeizeResult}
use Rattle.cl_base.specs.declared.seizing.SeizeEnd.TheVariants as seized
use Rattle.seize.specs.declared.step.SeizeStep.{SeizeStep}
use Rattle.seize.specs.declared.step.SeizeStep.TheVariants as step
use Rattle.seize.specs.declared.step.JoinStep.{JoinStep}
use Rattle.seize.specs.declared.step.JoinStep.TheVariants as join
use Rattle.seize.specs.declared.kind.JoinResult.{JoinResult}
use Rattle.seize.specs.declared.kind.JoinResult.TheVariants as joined
use Rattle.seize.specs.Answers.{Answer, IsFailure, is_good, is_conflict}
use Rattle.seize.specs.Exchanges.{shown_word}
use Rattle.seize.specs.Joining.{JoinState}
use Rattle.seize.specs.Keys.{has_key, first_stranger}
use Rattle.seize.specs.Seizing.{SeizeState, own_key}

-- the own key is registered: it was read, and the record calls it validated, or it was registered by this command
abbrev pub HasOwnKey : SeizeState → PrCommand → Answer → Type 0
HasOwnKey s command.Keys (Ok (answer.Keys keys)) = (has_key (own_key s) keys ≡ true) × (s.valid ≡ true)
HasOwnKey s (command.Ignore new) (Ok answer.Good) = new ≡ own_key s
HasOwnKey s _ _ = ⊥

-- the word is the epoch: the own swap set it, or it was read or found so
abbrev pub WordIsEpoch : SeizeState → PrCommand → Answer → Type 0
WordIsEpoch s (command.Swap expected new) (Ok answer.Good) = new ≡ s.epoch
WordIsEpoch s sent a = shown_word a ≡ Some s.epoch

-- a reservation or a preemption was done, or refused with a conflict
abbrev pub WasTried : PrCommand → Answer → Type 0
WasTried (command.Reserve kind key) a = (is_good a || is_conflict a) ≡ true
WasTried (command.Preempt kind key victim) a = (is_good a || is_conflict a) ≡ true
WasTried _ a = ⊥

-- the keys were read: the own one is there, and this is the first of no member
abbrev pub ShowsStranger : SeizeState → ℕ → PrCommand → Answer → Type 0
ShowsStranger s key command.Keys (Ok (answer.Keys keys)) =
    (has_key (own_key s) keys ≡ true) × (first_stranger s.cluster s.members keys ≡ Some key)
ShowsStranger s key _ _ = ⊥

-- the own key is gone: a swap met a conflict, or the keys were read without it
abbrev pub LacksOwnKey : SeizeState → PrCommand → Answer → Type 0
LacksOwnKey s (command.Swap expected new) (Ok answer.Conflict) = Unit {0}
LacksOwnKey s command.Keys (Ok (answer.Keys keys)) = has_key (own_key s) keys ≡ false
LacksOwnKey s _ _ = ⊥

abbrev pub KnowsEnd : SeizeState → SeizeResult → PrCommand → Answer → Type 0
KnowsEnd s (seized.Held keys) sent a = (sent ≡ command.Word) × (a ≡ Ok (answer.Word s.epoch))
KnowsEnd s (seized.NotRegistered keys) sent a =
    (sent ≡ command.Keys) × (a ≡ Ok (answer.Keys keys)) × ((has_key (own_key s) keys ≡ false) ⊎ (s.valid ≡ false))
KnowsEnd s (seized.Greater word) sent a = (shown_word a ≡ Some word) × (word ≢ s.epoch)
KnowsEnd s seized.Expelled sent a = LacksOwnKey s sent a
KnowsEnd s (seized.Contended key) sent a = ShowsStranger s key sent a
KnowsEnd s seized.Fault sent a = IsFailure sent a

-- No answer leads to the first steps. A word that is to be swapped is below the epoch.
abbrev pub Knows : SeizeState → SeizeStep → PrCommand → Answer → Type 0
Knows s step.Check sent a = ⊥
Knows s step.Register sent a = ⊥
Knows s step.ReadWord sent a = HasOwnKey s sent a
Knows s (step.Swap expected) sent a = (shown_word a ≡ Some expected) × (expected < s.epoch)
Knows s step.Reserve sent a = WordIsEpoch s sent a
Knows s (step.ReadKeys reading) sent a = WasTried sent a
Knows s (step.Preempt victim reading) sent a = ShowsStranger s victim sent a
Knows s (step.Confirm keys) sent a =
    (sent ≡ command.Keys) × (a ≡ Ok (answer.Keys keys)) × (has_key (own_key s) keys ≡ true) × (first_stranger s.cluster s.members keys ≡ None)
Knows s (step.Ended result) sent a = KnowsEnd s result sent a

abbrev pub KnowsJoinEnd : JoinState → JoinResult → PrCommand → Answer → Type 0
KnowsJoinEnd s joined.Joined sent a = (sent ≡ command.Word) × (a ≡ Ok (answer.Word s.epoch))
KnowsJoinEnd s (joined.Late word) sent a = (sent ≡ command.Word) × (a ≡ Ok (answer.Word word)) × (word ≢ s.epoch)
KnowsJoinEnd s joined.Fault sent a = IsFailure sent a

abbrev pub KnowsJoin : JoinState → JoinStep → PrCommand → Answer → Type 0
KnowsJoin s join.Register sent a = ⊥
KnowsJoin s join.ReadWord sent a = (sent ≡ command.Ignore (key_of s.cluster s.me)) × (a ≡ Ok answer.Good)
KnowsJoin s (join.Ended result) sent a = KnowsJoinEnd s result sent a
