-- A due command is answered: that is told, and then comes what the progress of the tasks asks for.
use Rattle.std.proofs.Common.{◌≡◌, ℕ, List, [], ◌∷◌, ◌++◌, Option, Some, Result, max, subst, sym}
use Rattle.cmm_member.specs.Records.{NodeRecord}
use Rattle.device_queue.specs.declared.progress.Progress.{Progress}
use Rattle.device_queue.specs.declared.task.Task.{Task}
use Rattle.device_queue.specs.Queue.{after_answer, due_device, next_of, progress_after}
use Rattle.pgr_device.specs.declared.command.PrCommand.{PrCommand}
use Rattle.record_disk.specs.Savings.{Saving}
use Rattle.seize.specs.Answers.{Answer}
use Rattle.status_report.specs.declared.device_entry.DeviceEntry.TheVariants as device
use Rattle.status_report.specs.declared.entry.Entry.TheVariants as entry
use Rattle.node_model.specs.declared.cluster.Cluster.{Cluster}
use Rattle.node_model.specs.declared.node.UpNode.{UpNode}
use Rattle.node_model.specs.declared.output.Output.{Output}
use Rattle.node_model.specs.declared.output.Output.TheVariants.{Tells}
use Rattle.node_model.specs.declared.stop.Stop.{Stop}
use Rattle.node_model.specs.Devices.{answer_told, answered_with, on_answer_of_device, on_progress, word_in}
use Rattle.node_model.specs.Plans.{Follows}
use Rattle.node_model.specs.Seats.{seen}
use Rattle.node_model.proofs.Plans.{follows_says}

abbrev next : UpNode → Answer → UpNode
next x a = seen (record x { tasks = after_answer x.tasks a }) (word_in a)

pub answered_so : {K : Type 0} → (saving : K → NodeRecord → Saving K) (c : Cluster) (me : ℕ) (x : UpNode) (a : Answer) (tasks : List Task) (greatest : ℕ) (d : ℕ) (k : PrCommand) (progress : Progress) (given told after : List Output) (disk left : K) (result : Result UpNode Stop)
    → due_device x.tasks ≡ Some d → next_of x.tasks ≡ Some k → told ≡ given ++ Tells (entry.Device (device.Command me d k (answer_told a))) ∷ []
    → tasks ≡ after_answer x.tasks a → greatest ≡ max x.greatest (word_in a) → progress ≡ progress_after x.tasks a
    → Follows saving (on_progress c me (record x { tasks = tasks; greatest = greatest }) progress) told disk result after left
    → Follows saving (on_answer_of_device c me x a) given disk result after left
answered_so saving c me x a tasks greatest d k progress given told after disk left result due command says done seen_so goes h =
    let here = subst (λ (p : Progress). Follows saving (on_progress c me (next x a) p) told disk result after left) goes
    (subst (λ (g : ℕ). Follows saving (on_progress c me (record x { tasks = after_answer x.tasks a; greatest = g }) progress) told disk result after left) seen_so
    (subst (λ (ts : List Task). Follows saving (on_progress c me (record x { tasks = ts; greatest = greatest }) progress) told disk result after left) done h)) in
    let rest = subst (λ (os : List Output). Follows saving (on_progress c me (next x a) (progress_after x.tasks a)) os disk result after left) says here in
    let whole = follows_says saving (Tells (entry.Device (device.Command me d k (answer_told a))) ∷ []) (on_progress c me (next x a) (progress_after x.tasks a)) given after disk left result rest in
    subst (λ (o : Option ℕ). Follows saving (answered_with c me x a o (next_of x.tasks)) given disk result after left) (sym due)
    (subst (λ (o : Option PrCommand). Follows saving (answered_with c me x a (Some d) o) given disk result after left) (sym command) whole)
