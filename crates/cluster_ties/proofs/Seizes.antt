-- A node begins to seize a device.
use Rattle.std.specs.Prelude.{ℕ, ◌≡◌, ◌≢◌, ◌<◌, ◌⊎◌, ◌++◌, ◌==◌, ◌&&◌, ◌||◌, nat_le, not, Bool, true, false, List, [], ◌∷◌, Option, None, Some, is_some, if◌then◌else◌}
use Rattle.std.proofs.Common.{refl, sym, subst, ◌∙◌, inl, inr, arith}
use Rattle.std.specs.List.{AllByRecursion}
use Rattle.cl_base.specs.Sets.{has}
use Rattle.cluster_machine.specs.Cluster.{Cluster as Whole}
use Rattle.cluster_machine.proofs.Whole.{InOrder}
use Rattle.cmm_attempt.proofs.Basics.{and_cases, false_true, none_some, same_number}
use Rattle.device_machine.proofs.Invariant.{Inv}
use Rattle.device_machine.specs.Sharing.{Sharing}
use Rattle.device_queue.specs.declared.task.Task.{Task}
use Rattle.device_queue.specs.declared.task.Work.{Work}
use Rattle.device_queue.specs.declared.task.Work.TheVariants as work
use Rattle.device_queue.specs.Laws.{has_task}
use Rattle.device_queue.specs.Queue.{put_unless, seizure_of}
use Rattle.device_queue.specs.Tasks.{is_over_in, is_queued, is_seizing, is_seizure_of}
use Rattle.device_ties.specs.Devices.{DeviceTied}
use Rattle.device_ties.specs.Moves.{Moved}
use Rattle.device_ties.specs.Tasks as ties
use Rattle.device_ties.specs.Tasks.{AtDevice, SeizingTied}
use Rattle.device_ties.proofs.Others.{seizings_begin}
use Rattle.machine_base.specs.Put.{put}
use Rattle.machine_base.proofs.Puts.{put_here, put_there, same_or_not}
use Rattle.membership_machine.specs.Votes.{Setting}
use Rattle.node_model.specs.declared.cluster.Cluster.{Cluster}
use Rattle.node_model.specs.declared.node.UpNode.{UpNode}
use Rattle.node_model.specs.Seats.{record_of, state_of}
use Rattle.pgr_device.specs.Device as pgr
use Rattle.refinement.specs.Doings.{accepting}
use Rattle.refinement.proofs.Worlds.{all_append}
use Rattle.cl_base.specs.Keys.{key_of}
use Rattle.pgr_device.specs.declared.command.PrCommand.TheVariants as command
use Rattle.seize.specs.Joining as joining
use Rattle.seize.specs.Joining.{JoinState}
use Rattle.seize.specs.Seizing as seizing
use Rattle.seize.specs.Seizing.{SeizeState}
use Rattle.seize.specs.declared.kind.SeizeKind.{SeizeKind}
use Rattle.seize.specs.declared.kind.SeizeKind.TheVariants.{Vote, Plain}
use Rattle.seize.specs.declared.step.JoinStep.{JoinStep}
use Rattle.seize.specs.declared.step.JoinStep.TheVariants as join
use Rattle.cluster_ties.specs.Ties.{DevicesTied, Devices, JoiningAt, QueuedOnce, TaskAt, UpAt, WorkAt}
use Rattle.cluster_ties.specs.Moves.{DeviceGoes}
use Rattle.cluster_ties.specs.Laws.{QueuesGo, SeizesGo}
use Rattle.cluster_ties.proofs.Commands.{join_installed, not_below, one_goes, same_below}
use Rattle.cluster_ties.proofs.First.{in_order}
use Rattle.cluster_ties.proofs.Moves.{nowhere}
use Rattle.cluster_ties.proofs.Tasks.{rest_stays}

-- Where no seizing is there, and the attempt is not installed, no task is queued.

seizure_or : (d : ℕ) (t : Task) (tasks : List Task) → seizure_of (t ∷ tasks) d ≡ None → (is_seizure_of d t ≡ false) × (seizure_of tasks d ≡ None)
seizure_or d t tasks h = go (is_seizure_of d t) refl h
  where
    go : (b : Bool) → is_seizure_of d t ≡ b → (if b then Some t else seizure_of tasks d) ≡ None → (is_seizure_of d t ≡ false) × (seizure_of tasks d ≡ None)
    go true is k = absurd (none_some t (sym k))
    go false is k = (is, k)

-- a joining that is queued is one that is under way, and so the attempt is installed
pub joining_queued : (W : Whole) (n d cluster : ℕ) (j : JoinState) (step : JoinStep) → Inv (W.device d) → j.step ≡ step → JoiningAt cluster n (W.device d) j step → is_some (joining.result_at step) ≡ false
    → ((W.device d).node n).installed ≡ ((W.device d).node n).session
joining_queued W n d cluster j (join.Ended r) i is h queued = absurd (false_true (sym queued))
joining_queued W n d cluster j join.Register i is h queued = join_installed W n d cluster j join.Register (command.Ignore (key_of j.cluster j.me)) i refl is h
joining_queued W n d cluster j join.ReadWord i is h queued = join_installed W n d cluster j join.ReadWord command.Word i refl is h

pub not_true : (b : Bool) → not b ≡ true → b ≡ false
not_true true h = absurd (false_true h)
not_true false h = refl

low_work : (c : Cluster) (W : Whole) (n d : ℕ) (w : Work) → Inv (W.device d) → is_seizing w ≡ false → WorkAt c.id n (W.device d) w → ((W.device d).node n).installed < ((W.device d).node n).session
    → not (is_over_in w) ≡ true → ⊥
low_work c W n d (work.Seizing t) i lacking h low queued = false_true (sym lacking)
low_work c W n d (work.Joining j) i lacking h low queued = not_below _ _ (joining_queued W n d c.id j j.step i refl h (not_true _ queued)) low

pub or_none : (a b : Bool) → a ≡ false → b ≡ false → (a || b) ≡ false
or_none true b h k = absurd (false_true (sym h))
or_none false b h k = k

none_queued : (c : Cluster) (W : Whole) (n d : ℕ) (tasks : List Task) → Inv (W.device d) → ((W.device d).node n).installed < ((W.device d).node n).session → seizure_of tasks d ≡ None
    → AllByRecursion (TaskAt c W n) tasks → has_task d tasks ≡ false
none_queued c W n d [] i low none h = refl
none_queued c W n d (t ∷ tasks) i low none h =
    let two : (is_seizure_of d t ≡ false) × (seizure_of tasks d ≡ None) = seizure_or d t tasks none in
    or_none ((t.device == d) && is_queued t) (has_task d tasks) (here (t.device == d) (is_queued t) refl refl two.0) (none_queued c W n d tasks i low two.1 h.1)
  where
    here : (b e : Bool) → (t.device == d) ≡ b → is_queued t ≡ e → (b && is_seizing t.work) ≡ false → (b && e) ≡ false
    here false e is queued lacking = refl
    here true false is queued lacking = refl
    here true true is queued lacking =
        absurd (low_work c W n d t.work i lacking (subst (λ k. WorkAt c.id n (W.device k) t.work) (same_number t.device d is) h.0) low queued)

-- The list with one more.

pub has_more_task : (e : ℕ) (tasks : List Task) (t : Task) → has_task e tasks ≡ false → ((t.device == e) && is_queued t) ≡ false → has_task e (tasks ++ t ∷ []) ≡ false
has_more_task e [] t none new = or_none _ _ new refl
has_more_task e (first ∷ tasks) t none new = go ((first.device == e) && is_queued first) none (has_more_task e tasks t)
  where
    go : (b : Bool) → (b || has_task e tasks) ≡ false → (has_task e tasks ≡ false → ((t.device == e) && is_queued t) ≡ false → has_task e (tasks ++ t ∷ []) ≡ false) → (b || has_task e (tasks ++ t ∷ [])) ≡ false
    go true h f = absurd (false_true (sym h))
    go false h f = f h new

pub once_more : (tasks : List Task) (t : Task) → has_task t.device tasks ≡ false → QueuedOnce tasks → QueuedOnce (tasks ++ t ∷ [])
once_more [] t none h = ((λ e. refl), tt)
once_more (first ∷ tasks) t none h =
    ((λ queued. has_more_task first.device tasks t (h.0 queued) (apart (t.device == first.device) refl (is_queued first) refl queued)), once_more tasks t rest h.1)
  where
    both : (a b : Bool) → (a || b) ≡ false → (a ≡ false) × (b ≡ false)
    both true b k = absurd (false_true (sym k))
    both false b k = (refl, k)

    two : (((first.device == t.device) && is_queued first) ≡ false) × (has_task t.device tasks ≡ false)
    two = both ((first.device == t.device) && is_queued first) (has_task t.device tasks) none

    rest : has_task t.device tasks ≡ false
    rest = two.1

    turned : (a b : ℕ) → (a == b) ≡ true → (b == a) ≡ true
    turned a b e = grind arith

    and_true : (a b : Bool) → a ≡ true → b ≡ true → (a && b) ≡ false → ⊥
    and_true true b e k lacking = false_true (sym lacking ∙ k)
    and_true false b e k lacking = false_true e

    apart : (b : Bool) → (t.device == first.device) ≡ b → (q : Bool) → is_queued first ≡ q → is_queued first ≡ true → (b && is_queued t) ≡ false
    apart false is q k queued = refl
    apart true is q k queued = absurd (and_true (first.device == t.device) (is_queued first) (turned t.device first.device is) queued two.0)

seizure_before : (d : ℕ) (tasks : List Task) (t : Task) → seizure_of (tasks ++ t ∷ []) d ≡ None → seizure_of tasks d ≡ None
seizure_before d [] t h = refl
seizure_before d (first ∷ tasks) t h = go (is_seizure_of d first) h (seizure_before d tasks t)
  where
    go : (b : Bool) → (if b then Some first else seizure_of (tasks ++ t ∷ []) d) ≡ None → (seizure_of (tasks ++ t ∷ []) d ≡ None → seizure_of tasks d ≡ None) → (if b then Some first else seizure_of tasks d) ≡ None
    go true k f = absurd (none_some first (sym k))
    go false k f = f k

seizure_there : (tasks : List Task) (t : Task) → is_seizing t.work ≡ true → seizure_of (tasks ++ t ∷ []) t.device ≡ None → ⊥
seizure_there [] t is h = go (is_seizure_of t.device t) (both (t.device == t.device) (is_seizing t.work) (itself t.device) is) h
  where
    itself : (k : ℕ) → (k == k) ≡ true
    itself k = grind arith

    both : (a b : Bool) → a ≡ true → b ≡ true → (a && b) ≡ true
    both true b e k = k
    both false b e k = absurd (false_true e)

    go : (b : Bool) → b ≡ true → (if b then Some t else None) ≡ None → ⊥
    go true e k = none_some t (sym k)
    go false e k = false_true e
seizure_there (first ∷ tasks) t is h = seizure_there tasks t is (seizure_or t.device first (tasks ++ t ∷ []) h).1

-- A seizing begins.

begun_at : (cluster n : ℕ) (s : Sharing) (kind : SeizeKind) (epoch members : ℕ) (valid : Bool) → SeizingTied cluster n s (seizing.begun kind epoch members n cluster valid)
    → (s.node n).installed < (s.node n).session → WorkAt cluster n s (work.Seizing (seizing.begun kind epoch members n cluster valid))
begun_at cluster n s Vote epoch members valid h low = (h, low)
begun_at cluster n s Plain epoch members valid h low = (h, low)

put_same : (devices : Devices) (d k : ℕ) → put devices d (devices d) k ≡ devices k
put_same devices d k = go (same_or_not k d)
  where
    go : (k ≡ d) ⊎ (k ≢ d) → put devices d (devices d) k ≡ devices k
    go (inl is) = subst (λ j. put devices d (devices d) j ≡ devices j) (sym is) (put_here devices d (devices d))
    go (inr ne) = put_there devices d (devices d) k ne

-- what leaves the device as it is
pub unput : (S : Setting) (c : Cluster) (W : Whole) (n d : ℕ) (devices : Devices) (y : UpNode) → DeviceGoes S c W n (put devices d (devices d)) y → DeviceGoes S c W n devices y
unput S c W n d devices y h = record {
  machine = h.machine;
  moves = h.moves;
  memberships = h.memberships;
  devices_so = λ k. subst (λ (p : pgr.Device). DeviceTied c.id p (h.machine.device k).device) (put_same devices d k) (h.devices_so k);
  at = h.at;
}

stays_so : (S : Setting) (c : Cluster) (W : Whole) (n : ℕ) (devices : Devices) (x : UpNode) → DevicesTied c devices W → UpAt c W n x → DeviceGoes S c W n devices x
stays_so S c W n devices x tied at = record { machine = W; moves = nowhere S W n; memberships = refl; devices_so = tied; at = at }

pub seizes_go : SeizesGo
seizes_go S c W n x devices kind epoch members d reached tied at asked member some session installed = by_option (seizure_of x.tasks d) refl
  where
    i : InOrder S W
    i = in_order S W reached

    v : Bool
    v = has (record_of x).valid d

    j : Bool
    j = has (state_of x.seat).joined d

    begun : SeizeState
    begun = seizing.begun kind epoch members n c.id v

    in_session : ((W.device d).node n).session ≡ epoch
    in_session = ((i.agrees d).node n).session ∙ session

    low : ((W.device d).node n).installed < epoch
    low = subst (λ z. z < epoch) (sym ((i.agrees d).node n).installed) installed

    below : ((W.device d).node n).installed < ((W.device d).node n).session
    below = subst (λ z. ((W.device d).node n).installed < z) (sym in_session) low

    by_option : (o : Option Task) → seizure_of x.tasks d ≡ o → DeviceGoes S c W n devices (accepting c n x kind epoch members d)
    by_option (Some earlier) is =
        subst (λ o. DeviceGoes S c W n devices (record x { tasks = put_unless o (record { device = d; work = work.Seizing begun }) x.tasks })) (sym is) (stays_so S c W n devices x tied at)
    by_option None is =
        let t : Task = record { device = d; work = work.Seizing begun } in
        let y : UpNode = record x { tasks = x.tasks ++ t ∷ [] } in
        let m : Moved c.id n (W.device d) (devices d) (λ u. AtDevice c.id n u v j (ties.Seizes begun)) =
        seizings_begin c.id n (W.device d) v j (devices d) kind epoch members (tied d) (record { valid = (at.marks d).valid; joined = (at.marks d).joined; task = at.idle d is }) some in_session low
        asked.collected asked.asked asked.as_kind asked.of_members member in
        let none : has_task d x.tasks ≡ false = none_queued c W n d x.tasks (i.device d) below is at.tasks in
        subst (λ o. DeviceGoes S c W n devices (record x { tasks = put_unless o t x.tasks })) (sym is)
        (unput S c W n d devices y
        (one_goes S c W n d x devices i at tied (devices d) v j (λ u. AtDevice c.id n u v j (ties.Seizes begun)) m y
        (λ u r g. (
          record {
            all = λ V here changed. all_append (TaskAt c V n) x.tasks t (rest_stays c W V n d x.tasks changed none at.tasks)
                (begun_at c.id n (V.device d) kind epoch members v (subst (λ s. SeizingTied c.id n s begun) (sym here) r.task)
                (same_below ((V.device d).node n).installed ((V.device d).node n).session _ _ changed.here.installed changed.here.session below));
            once = once_more x.tasks t none at.once;
            none = λ e h. seizure_before e x.tasks t h;
            busy = inl (seizure_there x.tasks t refl);
          },
          record { valid = r.valid; joined = r.joined },
        ))
        refl (record { here_valid = refl; here_joined = refl; valid = λ e ne. refl; joined = λ e ne. refl })))

pub queues_go : QueuesGo
queues_go S c W n x devices a kind d reached tied at asked member positive session low =
    subst (λ b. DeviceGoes S c W n devices (if b then accepting c n x kind a.plan.epoch a.plan.members d else x)) (sym (and_cases (nat_le n 32) (has a.plan.members n) member).1)
    (seizes_go S c W n x devices kind a.plan.epoch a.plan.members d reached tied at asked member positive session low)
