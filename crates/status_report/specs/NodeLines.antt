-- What a node tells of itself.
use Rattle.std.specs.Prelude.{ℕ, List, codes, [], ◌∷◌}
use Rattle.std.specs.Fmt.{decimal}
use Rattle.cl_base.specs.declared.panic.Panic.{Panic}
use Rattle.cl_base.specs.declared.panic.Panic.TheVariants as panic
use Rattle.status_report.specs.declared.node_entry.DownCause.{DownCause}
use Rattle.status_report.specs.declared.node_entry.DownCause.TheVariants.{Crash, Stopped, Panic as Panicked}
use Rattle.status_report.specs.declared.node_entry.NodeEntry.{NodeEntry}
use Rattle.status_report.specs.declared.node_entry.NodeEntry.TheVariants.{Up, Down, Ticked, Saved, Installed, Member}
use Rattle.status_report.specs.Words.{spaced}

abbrev pub panic_text : Panic → List ℕ
panic_text (panic.Fenced device) = spaced (codes "panic" ∷ codes "fenced" ∷ decimal device ∷ [])
panic_text (panic.Excluded epoch) = spaced (codes "panic" ∷ codes "excluded" ∷ decimal epoch ∷ [])
panic_text panic.Disk = codes "panic disk"
panic_text (panic.Stop resource) = spaced (codes "panic" ∷ codes "stop" ∷ resource ∷ [])

abbrev pub down_text : DownCause → List ℕ
down_text Crash = codes "crash"
down_text Stopped = codes "stopped"
down_text (Panicked cause) = panic_text cause

abbrev pub node_text : ℕ → NodeEntry → List ℕ
node_text node Up = spaced (codes "up" ∷ decimal node ∷ [])
node_text node (Down cause) = spaced (codes "down" ∷ decimal node ∷ down_text cause ∷ [])
node_text node Ticked = spaced (codes "ticked" ∷ decimal node ∷ [])
node_text node Saved = spaced (codes "saved" ∷ decimal node ∷ [])
node_text node (Installed epoch) = spaced (codes "installed" ∷ decimal node ∷ decimal epoch ∷ [])
node_text node (Member epoch) = spaced (codes "member" ∷ decimal node ∷ decimal epoch ∷ [])
