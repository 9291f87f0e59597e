-- What the walk over runs is to show of each node, apart from what its attempt shows while it seizes devices.
use Rattle.std.specs.Prelude.{ℕ, ◌≡◌, false, true, [], filter, None, Some}
use Rattle.cl_base.specs.declared.header.Header.{Header}
use Rattle.cmm_attempt.specs.Attempts.{AttemptState}
use Rattle.cmm_attempt.specs.declared.phase.Phase.TheVariants.{Collecting}
use Rattle.device_queue.specs.Tasks.{is_queued}
use Rattle.history.specs.Queue as told
use Rattle.history_setting.specs.Settings.{setting_of}
use Rattle.node_model.specs.declared.node.Node.TheVariants.{Up}
use Rattle.node_model.specs.declared.node.UpNode.{UpNode}
use Rattle.run_devices.specs.queues.Laws.{Same}
use Rattle.run_devices.specs.queues.Told.{leads}
use Rattle.run_history.specs.Scenes.{Scene}
use Rattle.run_outcomes.specs.tasks.Laws.{NodeQueue, OfEachLeft, OfEachPoint}
use Rattle.run_outcomes.specs.tasks.Lasting.{lasts_open}

-- the tasks that the node has queued are those of `history` that are not over
abbrev pub HasQueue : Header → Scene → ℕ → UpNode → Type 0
HasQueue h s n x = Same (filter is_queued x.tasks) (told.unfinished (told.tasks_of (setting_of h) n s.moments))

abbrev pub IsClosed : Header → Scene → ℕ → Type 0
IsClosed h s n = lasts_open (setting_of h) n s.moments ≡ false

-- By the lines a coordinator has no task while its attempt collects.
abbrev pub CollectorsHaveNone : Type 0
CollectorsHaveNone = OfEachPoint (λ h s. (n : ℕ) (x : UpNode) (a : AttemptState) → s.nodes.node n ≡ Up x → x.attempt ≡ Some a → a.phase ≡ Collecting
    → told.tasks_of (setting_of h) n s.moments ≡ [])

-- A node whose own attempt is over, in its session, has the queue that is told: what the attempt left is queued, or nothing is.
abbrev pub RestedHave : Type 0
RestedHave = OfEachLeft (λ h s. (n : ℕ) (x : UpNode) → s.nodes.node n ≡ Up x → x.attempt ≡ None → leads n s.moments ≡ true → IsClosed h s n → HasQueue h s n x)

-- While a packet number is left, each node has the tasks of `history` that are not over, but where what is untold lasts.
abbrev pub LastingQueuesAreTold : Type 0
LastingQueuesAreTold = OfEachLeft (λ h s. (n : ℕ) → IsClosed h s n → NodeQueue (s.nodes.node n) (told.unfinished (told.tasks_of (setting_of h) n s.moments)))
