-- What is known of a coordinator that its attempt newly asks for a device: it is no member by the lines, and had no task for it before.
use Rattle.std.specs.Prelude.{ℕ, ◌<◌, ◌≡◌, ◌≢◌, ◌⊎◌, true, false, List, [], ◌∷◌, None, Some, is_some}
use Rattle.std.proofs.Common.{refl, sym, ap, subst, ◌∙◌, inl, inr}
use Rattle.cl_base.specs.declared.header.Header.{Header}
use Rattle.cmm_attempt.proofs.Basics.{false_true}
use Rattle.cmm_attempt.specs.Attempts.{AttemptState, is_over}
use Rattle.cmm_attempt.specs.declared.phase.Phase.{Phase}
use Rattle.cmm_attempt.specs.declared.phase.Phase.TheVariants.{Choosing, Collecting, Installing, Over, SeizingOthers, SeizingVotes}
use Rattle.attempt_laws.specs.Staying.{IsBefore}
use Rattle.history.specs.Member.{member_of}
use Rattle.history.specs.Queue as told
use Rattle.history.specs.Seizing.{is_install}
use Rattle.history.specs.Trace.{ticked}
use Rattle.history_setting.specs.Settings.{setting_of}
use Rattle.node_model.specs.Attempts.{is_choosing}
use Rattle.node_model.specs.Seats.{installed_of, session_of}
use Rattle.node_model.specs.declared.node.Node.TheVariants.{Up}
use Rattle.node_model.specs.declared.node.UpNode.{UpNode}
use Rattle.node_model.specs.declared.seat.Seat.{Seat}
use Rattle.node_model.specs.declared.seat.Seat.TheVariants.{Forming, Member}
use Rattle.run_devices.proofs.queues.Alone.{lines_of}
use Rattle.run_devices.proofs.queues.Runs.{Comes_to}
use Rattle.run_devices.specs.queues.Kept as queues
use Rattle.run_devices.specs.queues.Kept.{NodeSo}
use Rattle.run_history.specs.Happenings.{Happening, all_happened}
use Rattle.run_history.specs.Scenes.{Scene, first_scene}
use Rattle.run_lines.proofs.writes.Held.{MemberDone, SeatDone, members_are_done}
use Rattle.run_messages.proofs.Runs.{memberships_of_each_run}
use Rattle.run_messages.specs.Laws.{IsSeated, membership_at, membership_in}
use Rattle.run_seizings.specs.Seized.{has_installed}
use Rattle.world_model.specs.First.{first_cluster}
use Rattle.run_outcomes.specs.phases.Laws.{is_seizing}
use Rattle.run_outcomes.specs.silence.Anew.{ticks_at}
use Rattle.run_outcomes.proofs.others.Runs.{Point}
use Rattle.run_outcomes.proofs.outward.Collectors.{collectors_have_none}
use Rattle.run_outcomes.proofs.outward.Comes.{comes_to}
use Rattle.run_outcomes.proofs.silence.ends.Grown.{Grown}
use Rattle.run_outcomes.proofs.silence.ends.OwnTicks.{any_on}
use Rattle.run_outcomes.proofs.silence.tasks.Own.{Facts}
use Rattle.run_outcomes.proofs.told_tasks.Points.{seizing_before}

-- before its attempt installs, the node is no member
pub no_member : (h : Header) (cells : ℕ) (hs : List Happening) → Point h cells hs → (n : ℕ) (x : UpNode) (a : AttemptState) → (all_happened (first_cluster h) (first_scene h cells) hs).nodes.node n ≡ Up x
    → Facts h (all_happened (first_cluster h) (first_scene h cells) hs) n x a → IsBefore a.phase → is_some (member_of n (all_happened (first_cluster h) (first_scene h cells) hs).moments) ≡ false
no_member h cells hs z n x a up f early = by_seat x.seat refl (subst MemberDone up (members_are_done h cells hs z.few z.small z.disks z.may n))
  where
    s : Scene
    s = all_happened (first_cluster h) (first_scene h cells) hs

    seated : IsSeated s.moments n (s.nodes.node n)
    seated = memberships_of_each_run h cells hs z.few z.small z.may n

    k : Comes_to (lines_of (setting_of h)) cells s z.last.wants
    k = comes_to (setting_of h) cells hs z.last z.few z.small z.disks z.may z.shaped

    queue : queues.UpSo (lines_of (setting_of h)) s.moments n None x
    queue = subst (NodeSo (lines_of (setting_of h)) s.moments n None) up (k.so n)

    fresh : installed_of x ≢ session_of x
    fresh same = false_true (sym (f.so.before early) ∙ (ap (λ q. has_installed n q s.moments) f.so.epoch ∙ queue.done (subst (λ q. 0 < q) f.so.epoch f.so.some) same))

    by_seat : (seat : Seat) → x.seat ≡ seat → SeatDone x x.seat → is_some (member_of n s.moments) ≡ false
    by_seat (Forming m) is done = ap is_some (seated ∙ ap membership_at up ∙ ap membership_in is)
    by_seat (Member m) is done = absurd (fresh (subst (SeatDone x) is done).0)

-- it seized devices already, or had no task
pub early_or : (h : Header) (cells : ℕ) (hs : List Happening) (e : Happening) → Point h cells hs → (t : Scene) (n : ℕ) (x y : UpNode) (a b : AttemptState)
    → (all_happened (first_cluster h) (first_scene h cells) hs).nodes.node n ≡ Up x → x.attempt ≡ Some a → Facts h (all_happened (first_cluster h) (first_scene h cells) hs) n x a → Facts h t n y b → b.plan.epoch ≡ a.plan.epoch
    → is_seizing b.phase ≡ true → Grown e (all_happened (first_cluster h) (first_scene h cells) hs).moments t.moments
    → IsBefore a.phase × ((is_seizing a.phase ≡ true) ⊎ (told.tasks_of (setting_of h) n (all_happened (first_cluster h) (first_scene h cells) hs).moments ≡ []))
early_or h cells hs e z t n x y a b up had f g number seizing grown = by_phase a.phase refl
  where
    s : Scene
    s = all_happened (first_cluster h) (first_scene h cells) hs

    installed_then : has_installed n a.plan.epoch s.moments ≡ true → has_installed n a.plan.epoch t.moments ≡ true
    installed_then is = subst (λ ms. has_installed n a.plan.epoch ms ≡ true) grown.calm.is (any_on (is_install n a.plan.epoch) grown.calm.newer grown.base (by_base grown.from))
      where
        by_base : (grown.base ≡ s.moments) ⊎ ((m : ℕ) × (grown.base ≡ ticked m ∷ s.moments) × ((j : ℕ) → m ≡ j → ticks_at j e ≡ 1)) → has_installed n a.plan.epoch grown.base ≡ true
        by_base (inl same) = ap (has_installed n a.plan.epoch) same ∙ is
        by_base (inr (m, same, own)) = ap (has_installed n a.plan.epoch) same ∙ is

    never : a.phase ≡ Installing → ⊥
    never is = false_true (sym (g.so.before (seizing_before b.phase seizing)) ∙ (ap (λ q. has_installed n q t.moments) number ∙ installed_then (f.so.installs is)))

    by_phase : (p : Phase) → a.phase ≡ p → IsBefore a.phase × ((is_seizing a.phase ≡ true) ⊎ (told.tasks_of (setting_of h) n s.moments ≡ []))
    by_phase Collecting is = (subst IsBefore (sym is) tt, inr (collectors_have_none h cells hs z.last z.few z.small z.disks z.may z.shaped z.native n x a up had is))
    by_phase Choosing is = absurd (false_true (sym f.rests ∙ ap is_choosing is))
    by_phase SeizingVotes is = (subst IsBefore (sym is) tt, inl (ap is_seizing is))
    by_phase SeizingOthers is = (subst IsBefore (sym is) tt, inl (ap is_seizing is))
    by_phase Installing is = absurd (never is)
    by_phase Over is = absurd (false_true (sym f.live ∙ ap is_over is))
