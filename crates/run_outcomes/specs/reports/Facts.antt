-- What is known of each scene of a run.
use Rattle.std.specs.Prelude.{ℕ, ◌%◌, ◌<◌, ◌^◌, ◌≡◌, ◌≢◌, nat_lt, false, true, filter}
use Rattle.std.specs.List.{AllByRecursion}
use Rattle.cl_base.specs.declared.header.Header.{Header}
use Rattle.device_queue.specs.Tasks.{is_queued}
use Rattle.device_queue.specs.declared.task.Task.{Task}
use Rattle.history.specs.Letters.{reached_since}
use Rattle.history.specs.Messages.{is_install_of}
use Rattle.history.specs.Order.{Always}
use Rattle.history.specs.Queue as told
use Rattle.history.specs.Seizing.{is_boot}
use Rattle.history_setting.specs.Settings.{setting_of}
use Rattle.node_model.specs.Members.{ready_of}
use Rattle.node_model.specs.Seats.{installed_of, is_member, session_of}
use Rattle.node_model.specs.declared.node.Node.TheVariants.{Up}
use Rattle.node_model.specs.declared.node.UpNode.{UpNode}
use Rattle.run_devices.specs.queues.Kept.{NoJoins, joins_in}
use Rattle.run_devices.specs.readings.Sites.{IsReading}
use Rattle.run_history.specs.Scenes.{Scene}
use Rattle.run_outcomes.specs.tasks.Laws.{NodeQueue}
use Rattle.run_packets.proofs.prepares.Steps.{IsLinkedTo}
use Rattle.run_packets.proofs.replies.Delivered.{Known}
use Rattle.run_packets.specs.prepares.Proposals.{IsShort}
use Rattle.run_packets.specs.admitted.Known.{WorkFew}
use Rattle.world_model.specs.First.{first_cluster}
use Rattle.run_outcomes.specs.reports.Laws.{AsksSo}

-- at a point of a run
pub record AtPoint (h : Header) (s : Scene) : Type 0 where
  pub queues : nat_lt s.links.next (2 ^ 63) ≡ true → (n : ℕ) → told.queue_is_open (setting_of h) n s.moments ≡ false → NodeQueue (s.nodes.node n) (told.queued_of (setting_of h) n s.moments)
  pub asks : Always AsksSo s.moments
  pub few : (n : ℕ) (x : UpNode) → s.nodes.node n ≡ Up x → AllByRecursion (λ (t : Task). WorkFew t.work) x.tasks
  pub ready : (n : ℕ) (x : UpNode) → s.nodes.node n ≡ Up x → IsShort n (ready_of (first_cluster h) x)
  pub reading : IsReading h s
  pub plain : (n : ℕ) (x : UpNode) → s.nodes.node n ≡ Up x → installed_of x ≢ session_of x → NoJoins x.tasks
  pub joins : (n : ℕ) (x : UpNode) → s.nodes.node n ≡ Up x → installed_of x ≡ session_of x → filter is_queued x.tasks ≡ filter is_queued (joins_in x.tasks)

pub record Facts (h : Header) (cells : ℕ) (s : Scene) : Type 0 where
  pub known : Known (first_cluster h) s
  pub linked : IsLinkedTo cells s
  pub at : AtPoint h s

-- .. and of what has come of Installs
abbrev pub InstallsAt : Header → Scene → Type 0
InstallsAt h s = (n : ℕ) (x : UpNode) → s.nodes.node n ≡ Up x → is_member x.seat ≡ false → 0 < session_of x → session_of x % 64 ≢ n
    → (reached_since (is_boot n) (is_install_of n s.moments) s.moments ≡ true → installed_of x ≡ session_of x)
    × (installed_of x ≡ session_of x → reached_since (is_boot n) (is_install_of n s.moments) s.moments ≡ true)

abbrev pub InstallFacts : Header → ℕ → Scene → Type 0
InstallFacts h cells s = Facts h cells s × InstallsAt h s
