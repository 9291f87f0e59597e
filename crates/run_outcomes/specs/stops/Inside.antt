-- What carries the proofs, of a command at a device: where an attempt installs or starts in it, the lines tell of no more work.
use Rattle.std.specs.Prelude.{ℕ, ◌≡◌, List, Some}
use Rattle.cl_base.specs.Seizings.{SeizeResult}
use Rattle.cl_base.specs.declared.header.Header.{Header}
use Rattle.cl_base.specs.declared.method.Outcome as method
use Rattle.cmm_attempt.specs.Attempts.{AttemptState}
use Rattle.device_queue.specs.Queue.{progress_after}
use Rattle.device_queue.specs.declared.progress.Progress.TheVariants.{Seized}
use Rattle.history_setting.specs.Settings.{setting_of}
use Rattle.node_model.specs.declared.input.Input.TheVariants as input
use Rattle.node_model.specs.declared.node.Node.TheVariants.{Up}
use Rattle.node_model.specs.declared.node.UpNode.{UpNode}
use Rattle.pgr_device.specs.declared.command.PrCommand.{PrCommand}
use Rattle.refinement.specs.Courses.{Reply}
use Rattle.refinement.specs.Cuts.{doings}
use Rattle.refinement.specs.Doings.{site}
use Rattle.refinement.specs.Runs.{Nodes}
use Rattle.run_history.specs.Happenings.{Commands, MayHappen, commanded}
use Rattle.run_history.specs.Scenes.{Scene}
use Rattle.run_outcomes.specs.stops.Idle.{AllIdle}
use Rattle.run_outcomes.specs.tasks.Laws.{OfEachLeft}
use Rattle.world_model.specs.First.{first_cluster}

-- of a command of a coordinator that is due in this scene, and that ends a seizing of its own
abbrev pub IdleAsItSaves : Header → Scene → Type 0
IdleAsItSaves h s = (n d now : ℕ) (q : PrCommand) (ends : method.Outcome) (x : UpNode) (a : AttemptState) → MayHappen (first_cluster h) s (Commands n d q now ends) → s.nodes.node n ≡ Up x → x.attempt ≡ Some a
    → (e : ℕ) (r : SeizeResult) → progress_after x.tasks (commanded s n d q).answer ≡ Seized e r → (replies : List Reply) (v : Nodes)
    → AllIdle (setting_of h) (first_cluster h) n (site (Up x) (s.nodes.disk n).kept) (doings (first_cluster h) n now ends replies (input.Answered (commanded s n d q).answer) (Up x)) (record (commanded s n d q).scene { nodes = v })

abbrev pub CommandsAreIdle : Type 0
CommandsAreIdle = OfEachLeft IdleAsItSaves
