-- A member has no task queued, so the queue of each node is told where it is told while it lasts open.
use Rattle.std.specs.Prelude.{ℕ, ◌≡◌, ◌⊎◌, Bool, true, false, List, [], filter, if◌then◌else◌, is_some}
use Rattle.std.proofs.Common.{refl, sym, ap, subst, ◌∙◌, inl, inr}
use Rattle.cmm_attempt.proofs.Basics.{false_true}
use Rattle.device_queue.specs.Tasks.{is_queued}
use Rattle.device_queue.specs.declared.task.Task.{Task}
use Rattle.history.specs.Member.{member_of}
use Rattle.history.specs.Moment.{Moment}
use Rattle.history.specs.Queue as told
use Rattle.history.specs.Setting.{Setting}
use Rattle.history_setting.specs.Settings.{setting_of}
use Rattle.node_model.specs.declared.node.Node.{Node}
use Rattle.node_model.specs.declared.node.Node.TheVariants.{Down, Up}
use Rattle.node_model.specs.declared.node.UpNode.{UpNode}
use Rattle.node_model.specs.declared.seat.Seat.{Seat}
use Rattle.node_model.specs.declared.seat.Seat.TheVariants.{Forming, Member}
use Rattle.run_devices.specs.queues.Laws.{Same}
use Rattle.run_history.specs.Happenings.{all_happened}
use Rattle.run_history.specs.Scenes.{Scene, first_scene}
use Rattle.run_lines.proofs.writes.Held.{MemberDone, SeatDone, members_are_done}
use Rattle.run_messages.proofs.Reaching.{IsSmall}
use Rattle.run_messages.proofs.Runs.{memberships_of_each_run}
use Rattle.run_messages.specs.Laws.{IsSeated, membership_at, membership_in}
use Rattle.world_model.specs.First.{first_cluster}
use Rattle.run_outcomes.specs.tasks.Laws.{NodeQueue, QueuesAreTold}
use Rattle.run_outcomes.specs.tasks.Lasting.{lasts_open}
use Rattle.run_outcomes.specs.tasks.Left.{LastingQueuesAreTold}
use Rattle.run_outcomes.proofs.members.Lasting.{lasting_or_member}
use Rattle.run_outcomes.proofs.reports.Points.{only_so}
use Rattle.run_outcomes.proofs.stops.Emptied.{AllJoin, joins_queued, none_left}

-- it has none, neither by the node nor by its lines
has_none : (S : Setting) (n : ℕ) (x : UpNode) (ms : List Moment) → filter is_queued x.tasks ≡ [] → is_some (member_of n ms) ≡ true → NodeQueue (Up x) (told.queued_of S n ms)
has_none S n x ms none is =
    subst (λ ts. told_same ts) (sym none) (by_test (is_some (member_of n ms)) is)
  where
    told_same : List Task → Type 0
    told_same ts = Same ts (told.queued_of S n ms)

    by_test : (b : Bool) → b ≡ true → Same [] (if b then [] else told.unfinished (told.tasks_of S n ms))
    by_test true k = tt
    by_test false k = absurd (false_true k)

-- else it has those that are told while they last
has_told : (S : Setting) (n : ℕ) (x : UpNode) (ms : List Moment) → is_some (member_of n ms) ≡ false → NodeQueue (Up x) (told.unfinished (told.tasks_of S n ms)) → NodeQueue (Up x) (told.queued_of S n ms)
has_told S n x ms none k = subst (λ b. Same (filter is_queued x.tasks) (if b then [] else told.unfinished (told.tasks_of S n ms))) (sym none) k

pub closed_so : (S : Setting) (n : ℕ) (ms : List Moment) → is_some (member_of n ms) ≡ false → told.queue_is_open S n ms ≡ false → lasts_open S n ms ≡ false
closed_so S n ms none shut = by_test (lasts_open S n ms) refl
  where
    by_one : (told.queue_is_open S n ms ≡ true) ⊎ (is_some (member_of n ms) ≡ true) → lasts_open S n ms ≡ false
    by_one (inl is) = absurd (false_true (sym shut ∙ is))
    by_one (inr is) = absurd (false_true (sym none ∙ is))

    by_test : (b : Bool) → lasts_open S n ms ≡ b → lasts_open S n ms ≡ false
    by_test true is = by_one (lasting_or_member S n ms is)
    by_test false is = is

pub queues_are_told_from : LastingQueuesAreTold → QueuesAreTold
queues_are_told_from lasting h cells hs last nodes few small disks may shaped native boots left n shut = by_node (s.nodes.node n) refl
  where
    S : Setting
    S = setting_of h

    s : Scene
    s = all_happened (first_cluster h) (first_scene h cells) hs

    size : IsSmall h
    size = record { few = few; small = small }

    seated : IsSeated s.moments n (s.nodes.node n)
    seated = memberships_of_each_run h cells hs few small may n

    done : MemberDone (s.nodes.node n)
    done = members_are_done h cells hs few small disks may n

    up_so : (x : UpNode) → s.nodes.node n ≡ Up x → (z : Seat) → x.seat ≡ z → SeatDone x z → NodeQueue (Up x) (told.queued_of S n s.moments)
    up_so x up (Forming k) is seat =
        let none : is_some (member_of n s.moments) ≡ false = ap is_some (seated ∙ ap membership_at up ∙ ap membership_in is) in
        has_told S n x s.moments none
        (subst (λ z. NodeQueue z (told.unfinished (told.tasks_of S n s.moments))) up
        (lasting h cells hs last nodes few small disks may shaped native boots left n (closed_so S n s.moments none shut)))
    up_so x up (Member k) is seat =
        has_none S n x s.moments
        (none_left x.tasks seat.1 (subst AllJoin (sym (only_so h cells s n x size (record { happenings = hs; may = may; is = refl }) up seat.0)) (joins_queued x.tasks)))
        (ap is_some (seated ∙ ap membership_at up ∙ ap membership_in is))

    by_node : (node : Node) → s.nodes.node n ≡ node → NodeQueue (s.nodes.node n) (told.queued_of S n s.moments)
    by_node Down is = subst (λ z. NodeQueue z (told.queued_of S n s.moments)) (sym is) tt
    by_node (Up x) is = subst (λ z. NodeQueue z (told.queued_of S n s.moments)) (sym is) (up_so x is x.seat refl (subst MemberDone is done))
