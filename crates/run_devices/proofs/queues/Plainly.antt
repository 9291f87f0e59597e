-- What a node saves of its updates, its seat and its devices.
use Rattle.std.specs.Prelude.{ℕ, ◌≡◌, ◌++◌, Bool, true, List, [], ◌∷◌, None, Some}
use Rattle.std.proofs.Common.{refl, sym, ap, subst, ◌∙◌}
use Rattle.ccr_commit.specs.Entries.{all_committed, with_next}
use Rattle.cl_base.specs.Sets.{set_without}
use Rattle.cmm_attempt.specs.Attempts.{AttemptState}
use Rattle.cmm_attempt.specs.Calls.{turn}
use Rattle.cmm_member.specs.Nodes.{NodeState, with_entries, with_joined, with_valid}
use Rattle.pgr_device.specs.declared.command.PrCommand.{PrCommand}
use Rattle.device_queue.specs.Queue.{next_of}
use Rattle.seize.specs.Answers.{Answer}
use Rattle.status_report.specs.declared.device_entry.DeviceEntry.TheVariants as device_entry
use Rattle.status_report.specs.declared.entry.Entry.{Entry}
use Rattle.status_report.specs.declared.entry.Entry.TheVariants as entry
use Rattle.status_report.specs.declared.node_entry.NodeEntry.TheVariants as note
use Rattle.run_devices.specs.queues.Views.{View}
use Rattle.node_model.specs.Attempts.{base_lines, starting_as}
use Rattle.node_model.specs.Devices.{answer_told}
use Rattle.node_model.specs.Seats.{installed_of, record_of, session_of, state_of, with_state}
use Rattle.node_model.specs.declared.cluster.Cluster.{Cluster}
use Rattle.node_model.specs.declared.node.Node.TheVariants.{Up}
use Rattle.node_model.specs.declared.node.UpNode.{UpNode}
use Rattle.node_model.specs.declared.output.Output.{Output}
use Rattle.refinement.specs.Doings.{Change, adopted_by, answered_so, changed, first_lines, last_lines, of_node}
use Rattle.refinement.specs.Doings.Change.{Acks, Admits, Commits, Counts, Distrusts, Installs, Leads, Prepares, Promises, Proposes, Sits, Starts}
use Rattle.refinement.specs.Guards.{MayChange}
use Rattle.refinement.specs.Runs.{Nodes}
use Rattle.refinement.specs.Ties.{Delivered}
use Rattle.run_history.proofs.Ups.{same_state}
use Rattle.run_history.proofs.Walk.{passing_append}
use Rattle.run_history.specs.Scenes.{Scene, passing, telling}
use Rattle.run_seizings.proofs.Changes.{NoCollect, mid}
use Rattle.run_devices.proofs.queues.Acts.{own_command, taken_up}
use Rattle.run_devices.proofs.queues.Changes.{mid_goes}
use Rattle.run_devices.proofs.queues.Goes.{AreMild, Goes, goes_at, line_goes, mild_append, outputs_go}
use Rattle.run_devices.proofs.queues.Mild.{adopted_mild, bases_mild}
use Rattle.run_devices.proofs.queues.Ups.{up_same}
use Rattle.run_devices.specs.validity.Kept.{JoinsFirst}

-- all but these: a promise, an install, and the answer to a command
abbrev pub IsPlain : Change → Type 0
IsPlain (Promises p) = ⊥
IsPlain (Leads p members) = ⊥
IsPlain (Counts a k s i) = ⊥
IsPlain (Installs s i) = ⊥
IsPlain (Admits at command a d) = ⊥
IsPlain _ = Unit {0}

record SameState (s t : NodeState) : Type 0 where
  session : t.session ≡ s.session
  installed : t.saved.installed ≡ s.saved.installed

with_seat : (x : UpNode) (s : NodeState) (es : _) → s ≡ state_of x.seat → SameState (state_of x.seat) (with_entries s es)
with_seat x s es is = subst (λ z. SameState z (with_entries s es)) is (record { session = refl; installed = refl })

with_same : (x : UpNode) (t : NodeState) → t.session ≡ session_of x → t.saved.installed ≡ installed_of x → SameState (state_of x.seat) (state_of (with_state x.seat t))
with_same x t session installed = subst (λ z. SameState (state_of x.seat) z) (sym (same_state x.seat t)) (record { session = session; installed = installed })

plain_state : (c : Cluster) (n : ℕ) (told : Delivered) (x : UpNode) (ch : Change) → MayChange c n told x ch → IsPlain ch
    → SameState (state_of x.seat) (state_of (changed c n x ch).seat)
plain_state c n told x (Starts a k s) may is = with_seat x s (all_committed s.saved.entries) (sym (ap state_of may.1))
plain_state c n told x (Sits s e) may is = with_seat x s (all_committed s.saved.entries) (sym (ap state_of may.0))
plain_state c n told x (Proposes s p text) may is = with_same x (with_entries (state_of x.seat) (with_next (record_of x).entries text)) refl refl
plain_state c n told x (Acks s p q left text) may is = with_same x (with_entries (state_of x.seat) (all_committed (record_of x).entries)) refl refl
plain_state c n told x (Prepares s text) may is = with_seat x s (with_next s.saved.entries text) (sym (ap state_of may.0))
plain_state c n told x (Commits s) may is = with_seat x s (all_committed s.saved.entries) (sym (ap state_of may.0))
plain_state c n told x (Distrusts d) may is = with_same x (with_valid (state_of x.seat) (set_without (record_of x).valid d)) refl refl
plain_state c n told x (Promises p) may is = absurd is
plain_state c n told x (Leads p members) may is = absurd is
plain_state c n told x (Counts a k s i) may is = absurd is
plain_state c n told x (Installs s i) may is = absurd is
plain_state c n told x (Admits on command a d) may is = absurd is

plain_tasks : (c : Cluster) (n : ℕ) (x : UpNode) (ch : Change) → IsPlain ch → (changed c n x ch).tasks ≡ x.tasks
plain_tasks c n x (Starts a k s) is = refl
plain_tasks c n x (Sits s e) is = refl
plain_tasks c n x (Proposes s p text) is = refl
plain_tasks c n x (Acks s p q left text) is = refl
plain_tasks c n x (Prepares s text) is = refl
plain_tasks c n x (Commits s) is = refl
plain_tasks c n x (Distrusts d) is = refl
plain_tasks c n x (Promises p) is = absurd is
plain_tasks c n x (Leads p members) is = absurd is
plain_tasks c n x (Counts a k s i) is = absurd is
plain_tasks c n x (Installs s i) is = absurd is
plain_tasks c n x (Admits on command a d) is = absurd is

plain_lines : (c : Cluster) (n : ℕ) (x : UpNode) (ch : Change) → IsPlain ch → AreMild (first_lines n ch) × AreMild (last_lines c n x ch)
plain_lines c n x (Starts a k s) is =
    let y : AttemptState = (turn a k).after in
    let bases : List Output = base_lines y.plan.epoch 0 (all_committed s.saved.entries).committed in
    let rest : List Output = adopted_by c y (starting_as c n x y s) in (
      tt,
      (
        tt,
        mild_append bases (rest ++ of_node n (note.Member y.plan.epoch) ∷ []) (bases_mild y.plan.epoch 0 (all_committed s.saved.entries).committed)
            (mild_append rest (of_node n (note.Member y.plan.epoch) ∷ []) (adopted_mild c y (starting_as c n x y s)) (tt, tt)),
      ),
    )
plain_lines c n x (Sits s e) is = (tt, (tt, tt))
plain_lines c n x (Proposes s p text) is = ((tt, tt), tt)
plain_lines c n x (Acks s p q left text) is = (tt, (tt, tt))
plain_lines c n x (Prepares s text) is = (tt, tt)
plain_lines c n x (Commits s) is = (tt, tt)
plain_lines c n x (Distrusts d) is = (tt, tt)
plain_lines c n x (Promises p) is = absurd is
plain_lines c n x (Leads p members) is = absurd is
plain_lines c n x (Counts a k s i) is = absurd is
plain_lines c n x (Installs s i) is = absurd is
plain_lines c n x (Admits on command a d) is = absurd is

pub plain_goes : (S : View) (c : Cluster) (n : ℕ) (told : Delivered) (v w : Nodes) (x : UpNode) (ch : Change) (b : Bool) (s : Scene) → MayChange c n told x ch → IsPlain ch
    → (b ≡ true → NoCollect told) → Goes S n told v w None (Up x) s
    → Goes S n told v w None (Up (changed c n x ch)) (passing n (first_lines n ch ++ (mid b n ++ last_lines c n x ch)) s)
plain_goes S c n told v w x ch b s may is calm k =
    let y : UpNode = changed c n x ch in
    let state : SameState (state_of x.seat) (state_of y.seat) = plain_state c n told x ch may is in
    let mildly : AreMild (first_lines n ch) × AreMild (last_lines c n x ch) = plain_lines c n x ch is in
    let t : Scene = passing n (first_lines n ch) s in
    let first : Goes S n told v w None (Up x) t = outputs_go S n told v w None (Up x) (first_lines n ch) s mildly.0 k in
    let u : Scene = passing n (mid b n) t in
    let z : Scene = passing n (last_lines c n x ch) u in
    let all : Goes S n told v w None (Up x) z = outputs_go S n told v w None (Up x) (last_lines c n x ch) u mildly.1 (mid_goes S n told v w x t b calm first) in
    subst (λ m. Goes S n told v w None (Up y) m)
    (sym (passing_append n (first_lines n ch) (mid b n ++ last_lines c n x ch) s ∙ passing_append n (mid b n) (last_lines c n x ch) t))
    (goes_at S n told v w None None (Up x) (Up y) z (up_same S z.moments n None x y state.session state.installed (plain_tasks c n x ch is) all.here) all)

-- the answer by which it has joined a device
pub admits_goes : (S : View) (c : Cluster) (n : ℕ) (told : Delivered) (v w : Nodes) (x : UpNode) (at : ℕ) (k : PrCommand) (a : Answer) (d : ℕ) (b : Bool) (s : Scene)
    → (b ≡ true → NoCollect told) → next_of x.tasks ≡ Some k → JoinsFirst x → Goes S n told v w None (Up x) s
    → Goes S n told v w None (Up (changed c n x (Admits at k a d))) (passing n (first_lines n (Admits at k a d) ++ (mid b n ++ last_lines c n x (Admits at k a d))) s)
admits_goes S c n told v w x at k a d b s calm due first l =
    let z : Entry = entry.Device (device_entry.Command n at k (answer_told a)) in
    let y : UpNode = changed c n x (Admits at k a d) in
    let t : NodeState = with_joined (state_of (answered_so x a).seat) d in
    let state : state_of y.seat ≡ t = same_state (answered_so x a).seat t in
    let one : Goes S n told v w None (Up y) (telling z s) =
    line_goes S n told v w None None (Up x) (Up y) s z refl (λ j ne. own_command j n k ne)
    (taken_up S s.moments n at x y k a due first (ap (λ (u : NodeState). u.session) state) (ap (λ (u : NodeState). u.saved.installed) state) refl l.here) l in
    subst (λ m. Goes S n told v w None (Up y) m) (sym (passing_append n (mid b n) [] (telling z s))) (mid_goes S n told v w y (telling z s) b calm one)
