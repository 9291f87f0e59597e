-- A moment that leaves a node as it is leaves what it has of its seizings.
use Rattle.std.specs.Prelude.{ℕ, ◌≡◌, Bool, true, false, List, [], ◌∷◌, Option, None, Some}
use Rattle.std.specs.List.{AllByRecursion, list_any}
use Rattle.std.proofs.Common.{sym, subst, ◌∙◌}
use Rattle.cl_base.specs.declared.header.Header.{Header}
use Rattle.cl_base.specs.Seizings.{SeizeResult}
use Rattle.cl_base.specs.declared.seizing.SeizeEnd.TheVariants as end
use Rattle.cmm_attempt.specs.Attempts.{AttemptState}
use Rattle.cmm_attempt.specs.declared.seizing.Seizing.{Seizing}
use Rattle.device_queue.specs.Tasks.{is_queued}
use Rattle.device_queue.specs.declared.task.Task.{Task}
use Rattle.device_queue.specs.declared.task.Work.{Work}
use Rattle.device_queue.specs.declared.task.Work.TheVariants.{Seizing as Seizes, Joining as Joins}
use Rattle.seize.specs.Seizing.{SeizeState}
use Rattle.wire.specs.declared.message.Body.{Body}
use Rattle.wire.specs.declared.message.Body.TheVariants as body
use Rattle.history.specs.Contact.{IsNew}
use Rattle.history.specs.Letters.{arrived}
use Rattle.wire.specs.declared.lists.Reading.{Reading}
use Rattle.history.specs.Moment.{Moment}
use Rattle.history.specs.Seizing.{is_attempt}
use Rattle.history.specs.Setting.{coordinator}
use Rattle.history.specs.Contents.{tells_held}
use Rattle.node_model.specs.Seats.{session_of}
use Rattle.node_model.specs.declared.node.Node.{Node}
use Rattle.node_model.specs.declared.node.Node.TheVariants.{Down, Up}
use Rattle.node_model.specs.declared.node.UpNode.{UpNode}
use Rattle.refinement.specs.Doings.{Site}
use Rattle.refinement.specs.Ties.{Delivered}
use Rattle.run_seizings.specs.Seized.{AttemptIn, AttemptSo, Base, Either, Fresh, HeldSo, IsInstalled, IsKnown, ReadSo, SentSo, StandsSo, StepSo, TasksSo, WorkSo}
use Rattle.run_seizings.specs.Sites.{HeardSo, InHand, SiteSo, UpIn, UpSo}
use Rattle.run_seizings.proofs.Progress.{begun_stays, installed_stays, known_stays, of_stays, seized_or_stays, seizing_stays, since_stays}
use Rattle.run_seizings.proofs.Stills.{Still}

pub base_stays : (h : Header) (ms : List Moment) (x : Moment) (n q : ℕ) (s : SeizeState) → IsNew ms x → Base h ms n q s → Base h (x ∷ ms) n q s
base_stays h ms x n q s new b = record { me = b.me; cluster = b.cluster; epoch = b.epoch; some = b.some; of = of_stays ms x q s.members new b.of; member = b.member }

work_stays : (h : Header) (ms : List Moment) (x : Moment) (n q d : ℕ) (w : Work) → IsNew ms x → Still h ms n x → WorkSo h ms n q d w → WorkSo h (x ∷ ms) n q d w
work_stays h ms x n q d (Seizes s) new still k = (base_stays h ms x n q s new k.0, subst (λ p. StepSo h s.members n p s.step) (sym (still.progress q d)) k.1)
work_stays h ms x n q d (Joins j) new still k = tt

pub fresh_stays : (h : Header) (ms : List Moment) (x : Moment) (n q : ℕ) (t : Task) → IsNew ms x → Fresh h ms n q t → Fresh h (x ∷ ms) n q t
fresh_stays h ms x n q t new k = by_work t.work k
  where
    by_work : (w : Work) → Fresh h ms n q (record { device = t.device; work = w }) → Fresh h (x ∷ ms) n q (record { device = t.device; work = w })
    by_work (Seizes s) k = (base_stays h ms x n q s new k.0, k.1)
    by_work (Joins j) k = tt

pub all_fresh_stay : (h : Header) (ms : List Moment) (x : Moment) (n q : ℕ) (ts : List Task) → IsNew ms x → AllByRecursion (Fresh h ms n q) ts
    → AllByRecursion (Fresh h (x ∷ ms) n q) ts
all_fresh_stay h ms x n q [] new k = tt
all_fresh_stay h ms x n q (t ∷ ts) new k = (fresh_stays h ms x n q t new k.0, all_fresh_stay h ms x n q ts new k.1)

pub either_maps : (b : Bool) (P Q R S : Type 0) → (P → R) → (Q → S) → Either b P Q → Either b R S
either_maps true P Q R S f g k = f k
either_maps false P Q R S f g k = g k

tasks_stay : (h : Header) (ms : List Moment) (x : Moment) (n q : ℕ) (ts : List Task) → IsNew ms x → Still h ms n x → TasksSo h ms n q ts → TasksSo h (x ∷ ms) n q ts
tasks_stay h ms x n q [] new still k = tt
tasks_stay h ms x n q (t ∷ ts) new still k = (
  work_stays h ms x n q t.device t.work new still k.0,
  either_maps (is_queued t) (AllByRecursion (Fresh h ms n q) ts) (TasksSo h ms n q ts) (AllByRecursion (Fresh h (x ∷ ms) n q) ts) (TasksSo h (x ∷ ms) n q ts)
      (all_fresh_stay h ms x n q ts new)
      (tasks_stay h ms x n q ts new still) k.1,
)

pub held_stay : (h : Header) (ms : List Moment) (x : Moment) (e : ℕ) (es : List Seizing) → IsNew ms x → list_any (is_attempt e) ms ≡ true
    → AllByRecursion (HeldSo (IsKnown h ms e)) es
    → AllByRecursion (HeldSo (IsKnown h (x ∷ ms) e)) es
held_stay h ms x e [] new old k = tt
held_stay h ms x e (s ∷ es) new old k = ((λ is. known_stays h e s.attached.device x ms new old (k.0 is)), held_stay h ms x e es new old k.1)

pub attempt_stays : (h : Header) (ms : List Moment) (x : Moment) (n q : ℕ) (a : AttemptState) → IsNew ms x → Still h ms n x → AttemptSo h ms n q a
    → AttemptSo h (x ∷ ms) n q a
attempt_stays h ms x n q a new still k = record {
  of = of_stays ms x a.plan.epoch a.plan.members new k.of;
  some = k.some;
  last = still.last ∙ k.last;
  own = k.own;
  epoch = k.epoch;
  before = λ is. still.installs a.plan.epoch ∙ k.before is;
  installs = λ is. still.installs a.plan.epoch ∙ k.installs is;
  held = held_stay h ms x a.plan.epoch a.devices new k.of.0 k.held;
}

attempt_in_stays : (h : Header) (ms : List Moment) (x : Moment) (n q : ℕ) (o : Option AttemptState) → IsNew ms x → Still h ms n x → AttemptIn h ms n q o
    → AttemptIn h (x ∷ ms) n q o
attempt_in_stays h ms x n q None new still k = tt
attempt_in_stays h ms x n q (Some a) new still k = attempt_stays h ms x n q a new still k

pub up_stays : (h : Header) (ms : List Moment) (x : Moment) (n : ℕ) (y : UpNode) → IsNew ms x → Still h ms n x → UpSo h ms n y → UpSo h (x ∷ ms) n y
up_stays h ms x n y new still k = record {
  session = λ some. still.session ∙ k.session some;
  tasks = λ none. tasks_stay h ms x n (session_of y) y.tasks new still (k.tasks (sym (still.installs (session_of y)) ∙ none));
  attempt = attempt_in_stays h ms x n (session_of y) y.attempt new still k.attempt;
}

up_in_stays : (h : Header) (ms : List Moment) (x : Moment) (n : ℕ) (node : Node) → IsNew ms x → Still h ms n x → UpIn h ms n node → UpIn h (x ∷ ms) n node
up_in_stays h ms x n Down new still k = tt
up_in_stays h ms x n (Up y) new still k = up_stays h ms x n y new still k

pub is_installed_stays : (ms : List Moment) (x : Moment) (e : ℕ) → IsInstalled ms e → IsInstalled (x ∷ ms) e
is_installed_stays ms x e k = (k.0, begun_stays ms x e k.1, installed_stays ms x (coordinator e) e k.2)

pub site_stays : (h : Header) (ms : List Moment) (x : Moment) (n : ℕ) (y : Site) → IsNew ms x → Still h ms n x → SiteSo h ms n y → SiteSo h (x ∷ ms) n y
site_stays h ms x n y new still k = record {
  low = λ e is. k.low e (sym (still.installs e) ∙ is);
  first = λ e is. is_installed_stays ms x e (k.first e (sym (still.installs e) ∙ is));
  up = up_in_stays h ms x n y.node new still k.up;
}

-- ---- messages

seized_stands : (h : Header) (ms : List Moment) (x : Moment) (from e d : ℕ) (r : SeizeResult) → IsNew ms x → StandsSo h ms from (body.Seized e d r)
    → StandsSo h (x ∷ ms) from (body.Seized e d r)
seized_stands h ms x from e d (end.Held keys) new k = (begun_stays ms x e k.0, seized_or_stays h from e d x ms new k.0 k.1)
seized_stands h ms x from e d (end.NotRegistered keys) new k = tt
seized_stands h ms x from e d (end.Greater w) new k = tt
seized_stands h ms x from e d end.Expelled new k = tt
seized_stands h ms x from e d (end.Contended key) new k = tt
seized_stands h ms x from e d end.Fault new k = tt

pub reads_stay : (h : Header) (ms : List Moment) (x : Moment) (e : ℕ) (rs : List Reading) → IsNew ms x → list_any (is_attempt e) ms ≡ true → ReadSo h ms e rs → ReadSo h (x ∷ ms) e rs
reads_stay h ms x e [] new old k = tt
reads_stay h ms x e (r ∷ rs) new old k = ((k.0.0, seizing_stays h e r.device x ms new old k.0.1), reads_stay h ms x e rs new old k.1)

pub stands_stay : (h : Header) (ms : List Moment) (x : Moment) (from : ℕ) (b : Body) → IsNew ms x → StandsSo h ms from b → StandsSo h (x ∷ ms) from b
stands_stay h ms x from (body.SeizeQuorum e members d) new k = of_stays ms x e members new k
stands_stay h ms x from (body.SeizeData e members d) new k = of_stays ms x e members new k
stands_stay h ms x from (body.Seized e d r) new k = seized_stands h ms x from e d r new k
stands_stay h ms x from (body.Install i) new k = (is_installed_stays ms x i.epoch k.0, reads_stay h ms x i.epoch i.readings new k.0.1 k.1)
stands_stay h ms x from (body.Heartbeat promised session is_one) new k = tt
stands_stay h ms x from (body.Collect p members) new k = tt
stands_stay h ms x from (body.Promise p newest members valid flagged committed pending) new k = tt
stands_stay h ms x from (body.Nack p promised) new k = tt
stands_stay h ms x from (body.Ready p joined report) new k = tt
stands_stay h ms x from (body.Start p) new k = tt
stands_stay h ms x from (body.Prepare p place text) new k = tt
stands_stay h ms x from (body.Prepared p place) new k = tt
stands_stay h ms x from (body.Commit p place) new k = tt
stands_stay h ms x from (body.Order o) new k = tt
stands_stay h ms x from (body.Done p number outcome) new k = tt
stands_stay h ms x from (body.Request p number text) new k = tt
stands_stay h ms x from (body.Answer p number text) new k = tt
stands_stay h ms x from (body.Excluded p newest) new k = tt

seized_sent : (h : Header) (ms : List Moment) (x : Moment) (n e d : ℕ) (r : SeizeResult) → Still h ms n x → SentSo ms n (body.Seized e d r)
    → SentSo (x ∷ ms) n (body.Seized e d r)
seized_sent h ms x n e d (end.Held keys) still k = still.session ∙ k
seized_sent h ms x n e d (end.NotRegistered keys) still k = tt
seized_sent h ms x n e d (end.Greater w) still k = tt
seized_sent h ms x n e d end.Expelled still k = tt
seized_sent h ms x n e d (end.Contended key) still k = tt
seized_sent h ms x n e d end.Fault still k = tt

pub sent_stays : (h : Header) (ms : List Moment) (x : Moment) (n : ℕ) (b : Body) → Still h ms n x → SentSo ms n b → SentSo (x ∷ ms) n b
sent_stays h ms x n (body.Collect p members) still k = still.last ∙ k
sent_stays h ms x n (body.Seized e d r) still k = seized_sent h ms x n e d r still k
sent_stays h ms x n (body.SeizeQuorum e members d) still k = tt
sent_stays h ms x n (body.SeizeData e members d) still k = tt
sent_stays h ms x n (body.Install i) still k = tt
sent_stays h ms x n (body.Heartbeat promised session is_one) still k = tt
sent_stays h ms x n (body.Promise p newest members valid flagged committed pending) still k = tt
sent_stays h ms x n (body.Nack p promised) still k = tt
sent_stays h ms x n (body.Ready p joined report) still k = tt
sent_stays h ms x n (body.Start p) still k = tt
sent_stays h ms x n (body.Prepare p place text) still k = tt
sent_stays h ms x n (body.Prepared p place) still k = tt
sent_stays h ms x n (body.Commit p place) still k = tt
sent_stays h ms x n (body.Order o) still k = tt
sent_stays h ms x n (body.Done p number outcome) still k = tt
sent_stays h ms x n (body.Request p number text) still k = tt
sent_stays h ms x n (body.Answer p number text) still k = tt
sent_stays h ms x n (body.Excluded p newest) still k = tt

seized_heard : (h : Header) (ms : List Moment) (x : Moment) (from n e d : ℕ) (r : SeizeResult) → IsNew ms x → StandsSo h ms from (body.Seized e d r)
    → HeardSo ms n (body.Seized e d r)
    → HeardSo (x ∷ ms) n (body.Seized e d r)
seized_heard h ms x from n e d (end.Held keys) new stands k = since_stays e (tells_held e n d) x ms new stands.0 k
seized_heard h ms x from n e d (end.NotRegistered keys) new stands k = tt
seized_heard h ms x from n e d (end.Greater w) new stands k = tt
seized_heard h ms x from n e d end.Expelled new stands k = tt
seized_heard h ms x from n e d (end.Contended key) new stands k = tt
seized_heard h ms x from n e d end.Fault new stands k = tt

heard_stays : (h : Header) (ms : List Moment) (x : Moment) (from n : ℕ) (b : Body) → IsNew ms x → StandsSo h ms from b → HeardSo ms n b → HeardSo (x ∷ ms) n b
heard_stays h ms x from n (body.Seized e d r) new stands k = seized_heard h ms x from n e d r new stands k
heard_stays h ms x from n (body.Collect p members) new stands k = tt
heard_stays h ms x from n (body.SeizeQuorum e members d) new stands k = tt
heard_stays h ms x from n (body.SeizeData e members d) new stands k = tt
heard_stays h ms x from n (body.Install i) new stands k = tt
heard_stays h ms x from n (body.Heartbeat promised session is_one) new stands k = tt
heard_stays h ms x from n (body.Promise p newest members valid flagged committed pending) new stands k = tt
heard_stays h ms x from n (body.Nack p promised) new stands k = tt
heard_stays h ms x from n (body.Ready p joined report) new stands k = tt
heard_stays h ms x from n (body.Start p) new stands k = tt
heard_stays h ms x from n (body.Prepare p place text) new stands k = tt
heard_stays h ms x from n (body.Prepared p place) new stands k = tt
heard_stays h ms x from n (body.Commit p place) new stands k = tt
heard_stays h ms x from n (body.Order o) new stands k = tt
heard_stays h ms x from n (body.Done p number outcome) new stands k = tt
heard_stays h ms x from n (body.Request p number text) new stands k = tt
heard_stays h ms x from n (body.Answer p number text) new stands k = tt
heard_stays h ms x from n (body.Excluded p newest) new stands k = tt

pub hand_stays : (h : Header) (ms : List Moment) (x : Moment) (n : ℕ) (told : Delivered) → IsNew ms x → arrived (x ∷ ms) ≡ arrived ms → InHand h ms n told
    → InHand h (x ∷ ms) n told
hand_stays h ms x n None new same k = same ∙ k
hand_stays h ms x n (Some d) new same k = record {
  letter = k.letter;
  here = same ∙ k.here;
  sender = k.sender;
  receiver = k.receiver;
  called = k.called;
  sent_so = k.sent_so;
  stands = stands_stay h ms x d.0 d.1.body new k.stands;
  heard = heard_stays h ms x d.0 n d.1.body new k.stands k.heard;
}
