-- A node that has installed its session leads no more.
use Rattle.std.specs.Prelude.{ℕ, zero, suc, ◌≡◌, ◌<◌, ◌≤◌, ◌^◌, not, Bool, true, false, List, length, Option, None, Some}
use Rattle.std.specs.List.{list_any}
use Rattle.std.proofs.Common.{arith, refl, sym, ap, subst, ◌∙◌}
use Rattle.cl_base.specs.Limits.{most_devices}
use Rattle.cl_base.specs.declared.header.Header.{Header}
use Rattle.cmm_attempt.proofs.Basics.{and_cases, false_true, same_number}
use Rattle.history.specs.Member.{attempt_of, session_of as session_told}
use Rattle.history.specs.Moment.{Moment}
use Rattle.history.specs.Seizing.{is_install, is_number}
use Rattle.history.specs.Setting.{Setting, coordinator}
use Rattle.history_setting.specs.Settings.{setting_of}
use Rattle.node_model.specs.Seats.{session_of}
use Rattle.node_model.specs.declared.node.Node.TheVariants.{Up}
use Rattle.node_model.specs.declared.node.UpNode.{UpNode}
use Rattle.run_devices.proofs.queues.Alone.{lines_of}
use Rattle.run_devices.proofs.queues.Runs.{Comes_to}
use Rattle.run_devices.specs.queues.Kept as queues
use Rattle.run_devices.specs.queues.Kept.{NodeSo}
use Rattle.run_devices.specs.queues.Told.{leads, leads_for}
use Rattle.run_history.specs.Happenings.{Happening, MayAllHappen, all_happened}
use Rattle.run_history.specs.Scenes.{Scene, first_scene}
use Rattle.run_history.specs.Shapes.{Due, ShapedFrom, nothing}
use Rattle.run_history.specs.WorldLines.{AreDisks}
use Rattle.run_seizings.proofs.Runs.{run_seizes}
use Rattle.run_seizings.specs.Seized.{has_installed}
use Rattle.run_seizings.specs.Sites.{UpIn, UpSo}
use Rattle.world_model.specs.First.{first_cluster}
use Rattle.run_outcomes.proofs.outward.Collects.{own_attempt}
use Rattle.run_outcomes.proofs.outward.Comes.{comes_to}
use Rattle.run_outcomes.proofs.rests.Left.{IsInstalled}

-- ---- a node that leads

-- the number of its last attempt is that of its session
pub record Led (n : ℕ) (ms : List Moment) : Type 0 where
  pub epoch : ℕ
  pub last : attempt_of n ms ≡ Some epoch
  pub own : coordinator epoch ≡ n
  pub session : session_told n ms ≡ Some epoch
  pub fresh : has_installed n epoch ms ≡ false

number_so : (e : ℕ) (o : Option ℕ) → is_number e o ≡ true → o ≡ Some e
number_so e None k = absurd (false_true k)
number_so e (Some f) k = ap Some (same_number f e k)

not_true : (b : Bool) → not b ≡ true → b ≡ false
not_true true h = absurd (false_true h)
not_true false h = refl

pub led_so : (n : ℕ) (ms : List Moment) → leads n ms ≡ true → Led n ms
led_so n ms first = by_number (attempt_of n ms) refl first
  where
    by_number : (o : Option ℕ) → attempt_of n ms ≡ o → leads_for n o ms ≡ true → Led n ms
    by_number None is k = absurd (false_true k)
    by_number (Some e) is k =
        let two : (is_number e (session_told n ms) ≡ true) × (not (list_any (is_install n e) ms) ≡ true) = and_cases (is_number e (session_told n ms)) (not (list_any (is_install n e) ms)) k in
        record { epoch = e; last = is; own = own_attempt n e ms is; session = number_so e (session_told n ms) two.0; fresh = not_true (list_any (is_install n e) ms) two.1 }

none_some_so : (e : ℕ) (o : Option ℕ) → o ≡ None → o ≡ Some e → ⊥
none_some_so e o none some = never (sym none ∙ some)
  where
    never : None ≡ Some e → ⊥
    never k = cc

some_so : (e f : ℕ) (o : Option ℕ) → o ≡ Some e → o ≡ Some f → e ≡ f
some_so e f o h k = same (sym h ∙ k)
  where
    same : Some e ≡ Some f → e ≡ f
    same q = cc

-- its session at a point of a run
pub record SessionSo (n : ℕ) (ms : List Moment) (y : UpNode) : Type 0 where
  pub led : Led n ms
  pub same : session_of y ≡ led.epoch
  pub some : 0 < session_of y
  pub not_installed : IsInstalled y → ⊥

positive : (k : ℕ) → 0 < suc k
positive k = omega arith

pub session_so : (h : Header) (cells : ℕ) (hs : List Happening) (last : Due) → length h.devices ≤ most_devices → h.cluster < 2 ^ 32 → AreDisks h
    → MayAllHappen (first_cluster h) (first_scene h cells) hs → ShapedFrom (first_cluster h) (first_scene h cells) nothing hs last → (n : ℕ) (y : UpNode)
    → (all_happened (first_cluster h) (first_scene h cells) hs).nodes.node n ≡ Up y → leads n (all_happened (first_cluster h) (first_scene h cells) hs).moments ≡ true
    → SessionSo n (all_happened (first_cluster h) (first_scene h cells) hs).moments y
session_so h cells hs last few small disks may shaped n y up first = by_session (session_of y) refl
  where
    S : Setting
    S = setting_of h

    s : Scene
    s = all_happened (first_cluster h) (first_scene h cells) hs

    led : Led n s.moments
    led = led_so n s.moments first

    seized : UpSo h s.moments n y
    seized = subst (UpIn h s.moments n) up ((run_seizes h cells hs few small may).seizing.sites n).up

    k : Comes_to (lines_of S) cells s last.wants
    k = comes_to S cells hs last few small disks may shaped

    queue : queues.UpSo (lines_of S) s.moments n None y
    queue = subst (NodeSo (lines_of S) s.moments n None) up (k.so n)

    by_session : (q : ℕ) → session_of y ≡ q → SessionSo n s.moments y
    by_session zero is = absurd (none_some_so led.epoch (session_told n s.moments) (queue.none is) led.session)
    by_session (suc q) is =
        let some : 0 < session_of y = subst (λ z. 0 < z) (sym is) (positive q) in
        let same : session_of y ≡ led.epoch = some_so (session_of y) led.epoch (session_told n s.moments) (seized.session some) led.session in
        record {
          led = led;
          same = same;
          some = some;
          not_installed = λ installed. false_true (sym led.fresh ∙ (ap (λ e. has_installed n e s.moments) (sym same) ∙ queue.done some installed));
        }
