-- Nodes that lead, and have the tasks of `history`.
use Rattle.std.specs.Prelude.{ℕ, ◌≡◌, ◌⊎◌, true, List, [], filter}
use Rattle.cl_base.specs.declared.header.Header.{Header}
use Rattle.device_queue.specs.Tasks.{is_queued}
use Rattle.history.specs.Queue as told
use Rattle.history_setting.specs.Settings.{setting_of}
use Rattle.node_model.specs.declared.node.Node.TheVariants.{Up}
use Rattle.node_model.specs.declared.node.UpNode.{UpNode}
use Rattle.run_devices.specs.queues.Laws.{Same}
use Rattle.run_devices.specs.queues.Told.{leads}
use Rattle.run_history.specs.Scenes.{Scene}
use Rattle.run_outcomes.specs.tasks.Left.{IsClosed}

-- the node has the tasks of `history`, or it has none queued, and `history` has none
abbrev pub IsRested : UpNode → List told.Task → Type 0
IsRested x tasks = Same x.tasks tasks ⊎ ((filter is_queued x.tasks ≡ []) × (tasks ≡ []))

-- so has each node that leads, be its attempt over or not
abbrev pub LeadersHave : Header → Scene → Type 0
LeadersHave h s = (n : ℕ) (x : UpNode) → s.nodes.node n ≡ Up x → leads n s.moments ≡ true → IsClosed h s n → IsRested x (told.tasks_of (setting_of h) n s.moments)
