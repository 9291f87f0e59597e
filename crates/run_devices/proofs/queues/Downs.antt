-- A node goes down, or comes up.
use Rattle.std.specs.Prelude.{ℕ, ◌≡◌, ◌<◌, ◌+◌, ◌==◌, ◌++◌, [], ◌∷◌, length, None, Some}
use Rattle.std.proofs.Common.{refl, sym, subst, arith}
use Rattle.ccr_commit.specs.Entries.{texts_of}
use Rattle.cmm_member.specs.Records.{NodeRecord}
use Rattle.status_report.specs.declared.device_entry.DeviceEntry.TheVariants as device_entry
use Rattle.status_report.specs.declared.entry.Entry.{Entry}
use Rattle.status_report.specs.declared.entry.Entry.TheVariants as entry
use Rattle.status_report.specs.declared.node_entry.DownCause.{DownCause}
use Rattle.status_report.specs.declared.node_entry.NodeEntry.TheVariants as note
use Rattle.status_report.specs.declared.update_entry.UpdateEntry.TheVariants as update_entry
use Rattle.history.specs.Member as member
use Rattle.run_devices.specs.queues.Views.{View}
use Rattle.history.specs.Trace.{up}
use Rattle.node_model.specs.Devices.{answer_told}
use Rattle.node_model.specs.declared.cluster.Cluster.{Cluster}
use Rattle.node_model.specs.declared.node.Node.{Node}
use Rattle.node_model.specs.declared.node.Node.TheVariants.{Down}
use Rattle.refinement.specs.Doings.{Change, effect, first_lines, gone_line, of_node, site}
use Rattle.refinement.specs.Doings.Change.{Acks, Admits, Commits, Counts, Distrusts, Installs, Leads, Prepares, Promises, Proposes, Sits, Starts}
use Rattle.refinement.specs.Doings.Doing.{Comes_up}
use Rattle.refinement.specs.Runs.{Nodes}
use Rattle.refinement.specs.Ties.{Delivered}
use Rattle.run_history.specs.Scenes.{Scene, passing, telling}
use Rattle.run_seizings.proofs.Progress.{if_so, same_is}
use Rattle.run_devices.specs.queues.Kept.{Pending}
use Rattle.run_devices.specs.queues.Laws.{Same}
use Rattle.run_devices.specs.queues.Views.{told_after, told_tasks}
use Rattle.run_devices.proofs.queues.Acts.{own_command}
use Rattle.run_devices.proofs.queues.Changes.{tells_by, told_dropped}
use Rattle.run_devices.proofs.queues.Goes.{Goes, line_goes}

pub gone_goes : (S : View) (n : ℕ) (told : Delivered) (v w : Nodes) (p : Pending) (x : Node) (why : DownCause) (s : Scene) → Goes S n told v w p x s
    → Goes S n told v w None Down (passing n (gone_line n why) s)
gone_goes S n told v w p x why s k = line_goes S n told v w p None x Down s (entry.Node n (note.Down why)) refl (λ j ne is. ne (sym is)) tt k

pub lost_goes : (S : View) (n : ℕ) (told : Delivered) (v w : Nodes) (p : Pending) (x : Node) (ch : Change) (why : DownCause) (s : Scene) → Goes S n told v w p x s
    → Goes S n told v w None Down (passing n (first_lines n ch ++ gone_line n why) s)
lost_goes S n told v w p x ch why s k = by_change ch
  where
    none : Goes S n told v w None Down (passing n (gone_line n why) s)
    none = gone_goes S n told v w p x why s k

    by_change : (ch : Change) → Goes S n told v w None Down (passing n (first_lines n ch ++ gone_line n why) s)
    by_change (Admits at q a d) =
        let z : Entry = entry.Device (device_entry.Command n at q (answer_told a)) in
        gone_goes S n told v w None Down why (telling z s) (line_goes S n told v w p None x Down s z refl (λ j ne. own_command j n q ne) tt k)
    by_change (Proposes y office text) =
        let z : Entry = entry.Update (update_entry.Proposed y.session (length (texts_of y.saved.entries) + 1) text) in
        gone_goes S n told v w None Down why (telling z s) (line_goes S n told v w p None x Down s z refl (λ j ne. tt) tt k)
    by_change (Promises q) = none
    by_change (Leads q members) = none
    by_change (Counts a q y i) = none
    by_change (Installs y i) = none
    by_change (Starts a q y) = none
    by_change (Sits y q) = none
    by_change (Distrusts d) = none
    by_change (Acks y q r left text) = none
    by_change (Prepares y text) = none
    by_change (Commits y) = none

none_below : 0 < 0 → ⊥
none_below e = omega (arith, e)

pub up_goes : (S : View) (c : Cluster) (n : ℕ) (told : Delivered) (v w : Nodes) (disk : NodeRecord) (s : Scene) → Goes S n told v w None Down s
    → Goes S n told v w None (effect c n (site Down disk) Comes_up).node (passing n (of_node n note.Up ∷ []) s)
up_goes S c n told v w disk s k =
    let drops : told_after S n (up n) s.moments (told_tasks S n s.moments) ≡ Some [] = if_so (n == n) (Some []) (told_tasks S n s.moments) (same_is n) in
    let y : Node = (effect c n (site Down disk) Comes_up).node in
    line_goes S n told v w None None Down y s (entry.Node n note.Up) refl (λ j ne is. ne (sym is)) (record {
      none = λ is. if_so (n == n) None (member.session_of n s.moments) (same_is n);
      fresh = λ some ne. absurd (none_below some);
      done = λ some is. absurd (none_below some);
      plain = λ ne. tt;
      tells = tells_by (told_tasks S n (up n ∷ s.moments)) None _
          (λ ts is.
          let none : ts ≡ [] = told_dropped S n (up n) s.moments ts drops is in
          ((λ at. subst (λ us. Same [] us) (sym none) tt), (λ ne. subst (λ us. Same [] us) (sym none) tt)));
    }) k
