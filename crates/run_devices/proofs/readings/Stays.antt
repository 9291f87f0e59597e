-- A moment that leaves a node as it is leaves what it has of its seizings.
use Rattle.std.specs.Prelude.{List, None, Option, Some, [], ℕ, ◌∷◌, ◌≡◌}
use Rattle.std.specs.List.{AllByRecursion}
use Rattle.std.proofs.Common.{inl, inr, subst, sym, ◌∙◌}
use Rattle.cl_base.specs.Seizings.{SeizeResult}
use Rattle.cl_base.specs.declared.header.Header.{Header}
use Rattle.cl_base.specs.declared.seizing.SeizeEnd.TheVariants as end
use Rattle.cmm_attempt.specs.Attempts.{AttemptState}
use Rattle.cmm_attempt.specs.declared.seizing.Seizing.{Seizing}
use Rattle.device_queue.specs.Queue.{seizure_of}
use Rattle.device_queue.specs.Tasks.{is_queued}
use Rattle.device_queue.specs.declared.task.Task.{Task}
use Rattle.device_queue.specs.declared.task.Work.{Work}
use Rattle.device_queue.specs.declared.task.Work.TheVariants.{Joining as Joins, Seizing as Seizes}
use Rattle.history.specs.Contact.{IsNew}
use Rattle.history.specs.Letters.{arrived}
use Rattle.history.specs.Moment.{Moment}
use Rattle.history.specs.Setting.{coordinator}
use Rattle.node_model.specs.Seats.{session_of}
use Rattle.node_model.specs.declared.node.Node.{Node}
use Rattle.node_model.specs.declared.node.Node.TheVariants.{Down, Up}
use Rattle.node_model.specs.declared.node.UpNode.{UpNode}
use Rattle.refinement.specs.Doings.{Site}
use Rattle.refinement.specs.Ties.{Delivered}
use Rattle.wire.specs.declared.lists.Reading.{Reading}
use Rattle.wire.specs.declared.message.Body.{Body}
use Rattle.wire.specs.declared.message.Body.TheVariants as body
use Rattle.run_seizings.proofs.Progress.{installed_stays, of_stays}
use Rattle.run_seizings.proofs.Stays.{all_fresh_stay, base_stays, either_maps, is_installed_stays}
use Rattle.run_seizings.proofs.Stills.{Still}
use Rattle.run_seizings.specs.Seized.{Fresh, StepSo, TasksSo, WorkSo}
use Rattle.run_devices.proofs.readings.Keys.{keys_stay}
use Rattle.run_devices.specs.readings.Laws.{HeldAsRead, WasRead}
use Rattle.run_devices.specs.readings.Readings.{AttemptIn, AttemptSo, ReadOr, SentSo, StandsSo, TaskRead, TasksRead}
use Rattle.run_devices.specs.readings.Sites.{InHand, SiteSo, UpIn, UpSo}

-- what was read stays so
pub all_read_stay : (h : Header) (ms : List Moment) (x : Moment) (e : ℕ) (es : List Seizing) → AllByRecursion (HeldAsRead h ms e) es → AllByRecursion (HeldAsRead h (x ∷ ms) e) es
all_read_stay h ms x e [] k = tt
all_read_stay h ms x e (s ∷ es) k = ((λ m keys seizer result. keys_stay keys h m e s.attached.device x ms (k.0 m keys seizer result)), all_read_stay h ms x e es k.1)

tasks_read_stay : (h : Header) (ms : List Moment) (x : Moment) (n q : ℕ) (ts : List Task) → Still h ms n x → TasksRead h ms n q ts → TasksRead h (x ∷ ms) n q ts
tasks_read_stay h ms x n q ts still k = (k.0, (λ d. subst (λ p. TaskRead p (seizure_of ts d)) (sym (still.progress q d)) (k.1 d)))

work_stays : (h : Header) (ms : List Moment) (x : Moment) (n q d : ℕ) (w : Work) → IsNew ms x → Still h ms n x → WorkSo h ms n q d w → WorkSo h (x ∷ ms) n q d w
work_stays h ms x n q d (Seizes s) new still k = (base_stays h ms x n q s new k.0, subst (λ p. StepSo h s.members n p s.step) (sym (still.progress q d)) k.1)
work_stays h ms x n q d (Joins j) new still k = tt

tasks_stay : (h : Header) (ms : List Moment) (x : Moment) (n q : ℕ) (ts : List Task) → IsNew ms x → Still h ms n x → TasksSo h ms n q ts → TasksSo h (x ∷ ms) n q ts
tasks_stay h ms x n q [] new still k = tt
tasks_stay h ms x n q (t ∷ ts) new still k = (
  work_stays h ms x n q t.device t.work new still k.0,
  either_maps (is_queued t) (AllByRecursion (Fresh h ms n q) ts) (TasksSo h ms n q ts) (AllByRecursion (Fresh h (x ∷ ms) n q) ts) (TasksSo h (x ∷ ms) n q ts)
      (all_fresh_stay h ms x n q ts new)
      (tasks_stay h ms x n q ts new still) k.1,
)

pub attempt_stays : (h : Header) (ms : List Moment) (x : Moment) (n q : ℕ) (a : AttemptState) → IsNew ms x → Still h ms n x → AttemptSo h ms n q a
    → AttemptSo h (x ∷ ms) n q a
attempt_stays h ms x n q a new still k = record {
  of = of_stays ms x a.plan.epoch a.plan.members new k.of;
  some = k.some;
  last = still.last ∙ k.last;
  own = k.own;
  epoch = k.epoch;
  before = λ is. still.installs a.plan.epoch ∙ k.before is;
  installs = λ is. still.installs a.plan.epoch ∙ k.installs is;
  read = all_read_stay h ms x a.plan.epoch a.devices k.read;
  apart = k.apart;
  attached = k.attached;
}

attempt_in_stays : (h : Header) (ms : List Moment) (x : Moment) (n q : ℕ) (o : Option AttemptState) → IsNew ms x → Still h ms n x → AttemptIn h ms n q o
    → AttemptIn h (x ∷ ms) n q o
attempt_in_stays h ms x n q None new still k = tt
attempt_in_stays h ms x n q (Some a) new still k = attempt_stays h ms x n q a new still k

pub up_stays : (h : Header) (ms : List Moment) (x : Moment) (n : ℕ) (y : UpNode) → IsNew ms x → Still h ms n x → UpSo h ms n y → UpSo h (x ∷ ms) n y
up_stays h ms x n y new still k = record {
  session = λ some. still.session ∙ k.session some;
  outside = λ is. still.session ∙ k.outside is;
  tasks = λ none. tasks_stay h ms x n (session_of y) y.tasks new still (k.tasks (sym (still.installs (session_of y)) ∙ none));
  read = λ some none. tasks_read_stay h ms x n (session_of y) y.tasks still (k.read some (sym (still.installs (session_of y)) ∙ none));
  attempt = attempt_in_stays h ms x n (session_of y) y.attempt new still k.attempt;
}

up_in_stays : (h : Header) (ms : List Moment) (x : Moment) (n : ℕ) (node : Node) → IsNew ms x → Still h ms n x → UpIn h ms n node → UpIn h (x ∷ ms) n node
up_in_stays h ms x n Down new still k = tt
up_in_stays h ms x n (Up y) new still k = up_stays h ms x n y new still k

pub site_stays : (h : Header) (ms : List Moment) (x : Moment) (n : ℕ) (y : Site) → IsNew ms x → Still h ms n x → SiteSo h ms n y → SiteSo h (x ∷ ms) n y
site_stays h ms x n y new still k = record {
  low = λ e is. k.low e (sym (still.installs e) ∙ is);
  first = λ e is. is_installed_stays ms x e (k.first e (sym (still.installs e) ∙ is));
  unseen = λ e d low. still.progress e d ∙ k.unseen e d low;
  up = up_in_stays h ms x n y.node new still k.up;
}

-- ---- messages

read_or_stays : (h : Header) (n e d : ℕ) (keys : List ℕ) (x : Moment) (ms : List Moment) → ReadOr h ms n e d keys → ReadOr h (x ∷ ms) n e d keys
read_or_stays h n e d keys x ms (inl done) = inl (installed_stays ms x (coordinator e) e done)
read_or_stays h n e d keys x ms (inr read) = inr (keys_stay keys h n e d x ms read)

seized_stands : (h : Header) (ms : List Moment) (x : Moment) (from e d : ℕ) (r : SeizeResult) → IsNew ms x → StandsSo h ms from (body.Seized e d r)
    → StandsSo h (x ∷ ms) from (body.Seized e d r)
seized_stands h ms x from e d (end.Held keys) new k = read_or_stays h from e d keys x ms k
seized_stands h ms x from e d (end.NotRegistered keys) new k = tt
seized_stands h ms x from e d (end.Greater w) new k = tt
seized_stands h ms x from e d end.Expelled new k = tt
seized_stands h ms x from e d (end.Contended key) new k = tt
seized_stands h ms x from e d end.Fault new k = tt

pub reads_stay : (h : Header) (ms : List Moment) (x : Moment) (e : ℕ) (rs : List Reading) → AllByRecursion (WasRead h ms e) rs → AllByRecursion (WasRead h (x ∷ ms) e) rs
reads_stay h ms x e [] k = tt
reads_stay h ms x e (r ∷ rs) k = (keys_stay r.keys h r.seizer e r.device x ms k.0, reads_stay h ms x e rs k.1)

pub stands_stay : (h : Header) (ms : List Moment) (x : Moment) (from : ℕ) (b : Body) → IsNew ms x → StandsSo h ms from b → StandsSo h (x ∷ ms) from b
stands_stay h ms x from (body.SeizeQuorum e members d) new k = of_stays ms x e members new k
stands_stay h ms x from (body.SeizeData e members d) new k = of_stays ms x e members new k
stands_stay h ms x from (body.Seized e d r) new k = seized_stands h ms x from e d r new k
stands_stay h ms x from (body.Install i) new k = (is_installed_stays ms x i.epoch k.0, reads_stay h ms x i.epoch i.readings k.1)
stands_stay h ms x from (body.Heartbeat promised session is_one) new k = tt
stands_stay h ms x from (body.Collect p members) new k = tt
stands_stay h ms x from (body.Promise p newest members valid flagged committed pending) new k = tt
stands_stay h ms x from (body.Nack p promised) new k = tt
stands_stay h ms x from (body.Ready p joined report) new k = tt
stands_stay h ms x from (body.Start p) new k = tt
stands_stay h ms x from (body.Prepare p place text) new k = tt
stands_stay h ms x from (body.Prepared p place) new k = tt
stands_stay h ms x from (body.Commit p place) new k = tt
stands_stay h ms x from (body.Order o) new k = tt
stands_stay h ms x from (body.Done p number outcome) new k = tt
stands_stay h ms x from (body.Request p number text) new k = tt
stands_stay h ms x from (body.Answer p number text) new k = tt
stands_stay h ms x from (body.Excluded p newest) new k = tt

pub sent_stays : (h : Header) (ms : List Moment) (x : Moment) (n : ℕ) (b : Body) → Still h ms n x → SentSo ms n b → SentSo (x ∷ ms) n b
sent_stays h ms x n (body.Collect p members) still k = still.last ∙ k
sent_stays h ms x n (body.SeizeQuorum e members d) still k = tt
sent_stays h ms x n (body.SeizeData e members d) still k = tt
sent_stays h ms x n (body.Seized e d r) still k = tt
sent_stays h ms x n (body.Install i) still k = tt
sent_stays h ms x n (body.Heartbeat promised session is_one) still k = tt
sent_stays h ms x n (body.Promise p newest members valid flagged committed pending) still k = tt
sent_stays h ms x n (body.Nack p promised) still k = tt
sent_stays h ms x n (body.Ready p joined report) still k = tt
sent_stays h ms x n (body.Start p) still k = tt
sent_stays h ms x n (body.Prepare p place text) still k = tt
sent_stays h ms x n (body.Prepared p place) still k = tt
sent_stays h ms x n (body.Commit p place) still k = tt
sent_stays h ms x n (body.Order o) still k = tt
sent_stays h ms x n (body.Done p number outcome) still k = tt
sent_stays h ms x n (body.Request p number text) still k = tt
sent_stays h ms x n (body.Answer p number text) still k = tt
sent_stays h ms x n (body.Excluded p newest) still k = tt

pub hand_stays : (h : Header) (ms : List Moment) (x : Moment) (n : ℕ) (told : Delivered) → IsNew ms x → arrived (x ∷ ms) ≡ arrived ms → InHand h ms n told
    → InHand h (x ∷ ms) n told
hand_stays h ms x n None new same k = same ∙ k
hand_stays h ms x n (Some d) new same k = record {
  letter = k.letter;
  here = same ∙ k.here;
  sender = k.sender;
  receiver = k.receiver;
  called = k.called;
  sent_so = k.sent_so;
  stands = stands_stay h ms x d.0 d.1.body new k.stands;
}
