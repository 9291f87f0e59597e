-- What a node does in memory, or sends.
use Rattle.std.specs.Prelude.{ℕ, ◌≡◌, ◌<◌, ◌⊎◌, List, [], ◌∷◌, Option, None, Some}
use Rattle.std.specs.List.{AllByRecursion}
use Rattle.std.proofs.Common.{refl, sym, ap, subst, ◌∙◌, inl, inr}
use Rattle.cl_base.specs.Sets.{has}
use Rattle.cl_base.specs.declared.header.Header.{Header}
use Rattle.cmm_attempt.proofs.Basics.{if_either}
use Rattle.cmm_member.specs.Records.{NodeRecord}
use Rattle.device_queue.specs.Queue.{after_seize, put_unless, seizure_of}
use Rattle.device_queue.specs.declared.task.Task.{Task}
use Rattle.device_queue.specs.declared.task.Work.TheVariants.{Seizing as Seizes}
use Rattle.seize.specs.Seizing as seizing
use Rattle.seize.specs.Seizing.{SeizeState}
use Rattle.wire.specs.declared.message.Body.{Body}
use Rattle.wire.specs.declared.message.Body.TheVariants as body
use Rattle.history.specs.Moment.{Moment}
use Rattle.node_model.specs.Seats.{installed_of, record_of, session_of}
use Rattle.node_model.specs.declared.cluster.Cluster.{Cluster}
use Rattle.node_model.specs.declared.node.Node.TheVariants.{Up}
use Rattle.node_model.specs.declared.node.UpNode.{UpNode}
use Rattle.node_model.specs.declared.output.Output.{Output}
use Rattle.refinement.specs.Doings.{Act, acted, said, site}
use Rattle.refinement.specs.Doings.Act.{Accepts, Dates, Ends, Gives, Goes_on, Hears, Makes, Minds, Notes, Queues, Spreads, Stores, Takes, Ticks, Waits, Works, Writes}
use Rattle.refinement.specs.Guards.{MayAct, MayWrite}
use Rattle.refinement.specs.Runs.{Nodes}
use Rattle.refinement.specs.Ties.{Delivered}
use Rattle.refinement.specs.Worlds.{AllFit}
use Rattle.run_history.proofs.Lists.{both}
use Rattle.run_history.specs.Guards.{Hand}
use Rattle.run_history.specs.Marks.{ActSo}
use Rattle.run_history.specs.Scenes.{Scene, passing}
use Rattle.run_seizings.proofs.Acts.{ActMay}
use Rattle.history.specs.Validated.{validity}
use Rattle.run_devices.specs.validity.Kept.{Excuse, MovedSo, NoExcuse, SiteSo, TaskSo, UpSo}
use Rattle.run_devices.specs.validity.Laws.{Agrees, ShowsIn}
use Rattle.run_devices.proofs.validity.Goes.{AreMild, Goes, goes_at, outputs_go, posting_goes}
use Rattle.run_devices.proofs.validity.Mild.{ended_mild, minors_mild, spread_mild, tick_mild, write_mild}

-- ---- a node that goes on in memory

-- with the same session, installed epoch and tasks
pub up_same : (ms : List Moment) (n : ℕ) (x y : UpNode) → session_of y ≡ session_of x → installed_of y ≡ installed_of x → y.tasks ≡ x.tasks → UpSo ms n x → UpSo ms n y
up_same ms n x y session installed tasks k = record {
  moved = λ some.
      subst (λ e. MovedSo ms n (session_of y) e) (sym installed)
      (subst (λ q. MovedSo ms n q (installed_of x)) (sym session) (k.moved (subst (λ q. 0 < q) session some)));
  tasks = subst (λ ts. AllByRecursion (TaskSo ms n (session_of y) (installed_of y)) ts) (sym tasks)
      (subst (λ e. AllByRecursion (TaskSo ms n (session_of y) e) x.tasks) (sym installed)
      (subst (λ q. AllByRecursion (TaskSo ms n q (installed_of x)) x.tasks) (sym session) k.tasks));
}

-- one seizing more
seize_tasks : (ms : List Moment) (n q e d : ℕ) (ts : List Task) (s : SeizeState) → AllByRecursion (TaskSo ms n q e) ts → AllByRecursion (TaskSo ms n q e) (after_seize ts d s)
seize_tasks ms n q e d ts s k = by_old (seizure_of ts d)
  where
    by_old : (o : Option Task) → AllByRecursion (TaskSo ms n q e) (put_unless o (record { device = d; work = Seizes s }) ts)
    by_old None = both (TaskSo ms n q e) ts (record { device = d; work = Seizes s } ∷ []) k (tt, tt)
    by_old (Some t) = k

queued_up : (ms : List Moment) (n d : ℕ) (x : UpNode) (s : SeizeState) → UpSo ms n x → UpSo ms n (record x { tasks = after_seize x.tasks d s })
queued_up ms n d x s k = record { moved = k.moved; tasks = seize_tasks ms n (session_of x) (installed_of x) d x.tasks s k.tasks }

-- ---- a Promise

pub strict : (P : Type 0) → P ⊎ ⊥ → P
strict P (inl p) = p
strict P (inr ban) = absurd ban

abbrev valid_in : Body → ℕ
valid_in (body.Promise p newest members valid flagged committed pending) = valid
valid_in _ = 0

write_shows : (h : Header) (ms : List Moment) (n : ℕ) (x : UpNode) (disk : NodeRecord) (b : Body) → disk ≡ record_of x → MayWrite x b → SiteSo h ms n NoExcuse (site (Up x) disk)
    → ShowsIn h ms n (Some b)
write_shows h ms n x disk (body.Promise p newest members valid flagged committed pending) same may k = λ d is.
    subst (λ s. Agrees (validity h n d ms) (has s d)) (sym (ap valid_in may.2 ∙ sym (ap (λ (r : NodeRecord). r.valid) same)))
    (strict (Agrees (validity h n d ms) (has disk.valid d)) (k.valid d is))
write_shows h ms n x disk _ same may k = tt

-- ---- each act

-- all but a change, and the answer to a command
abbrev pub IsSimple : Act → Type 0
IsSimple (Makes change) = ⊥
IsSimple (Takes at command a) = ⊥
IsSimple _ = Unit {0}

-- it goes on with the same session, installed epoch and tasks
pub mild_at : (h : Header) (n : ℕ) (told : Delivered) (v w : Nodes) (e : Excuse) (disk : NodeRecord) (x y : UpNode) (os : List Output) (s : Scene) → AllFit n os → AreMild os
    → session_of y ≡ session_of x → installed_of y ≡ installed_of x → y.tasks ≡ x.tasks → Goes h n told v w e (site (Up x) disk) s → Goes h n told v w e (site (Up y) disk) (passing n os s)
mild_at h n told v w e disk x y os s fits are session installed tasks k =
    let t : Goes h n told v w e (site (Up x) disk) (passing n os s) = outputs_go h n told v w e (site (Up x) disk) os s fits are k in
    goes_at h n told v w e e (site (Up x) disk) (site (Up y) disk) (passing n os s)
    (record { valid = t.here.valid; up = up_same (passing n os s).moments n x y session installed tasks t.here.up }) t

pub act_goes : (h : Header) (c : Cluster) (n : ℕ) (told : Delivered) (v w : Nodes) (disk : NodeRecord) (x : UpNode) (g : Hand) (a : Act) (s : Scene) → disk ≡ record_of x
    → MayAct c n told x a → ActSo a → ActMay h n told g x a → IsSimple a → AllFit n (said c n x a) → Goes h n told v w NoExcuse (site (Up x) disk) s
    → Goes h n told v w NoExcuse (site (Up (acted c n x a)) disk) (passing n (said c n x a) s)
act_goes h c n told v w disk x g a s same may so guard simple fits k = by_act a may so guard simple fits
  where
    mild_to : (y : UpNode) (os : List Output) → AllFit n os → AreMild os → session_of y ≡ session_of x → installed_of y ≡ installed_of x → y.tasks ≡ x.tasks
        → Goes h n told v w NoExcuse (site (Up y) disk) (passing n os s)
    mild_to y os f are session installed tasks = mild_at h n told v w NoExcuse disk x y os s f are session installed tasks k

    queued : (y : UpNode) → ((ms : List Moment) → UpSo ms n x → UpSo ms n y) → Goes h n told v w NoExcuse (site (Up y) disk) s
    queued y up = goes_at h n told v w NoExcuse NoExcuse (site (Up x) disk) (site (Up y) disk) s (record { valid = k.here.valid; up = up s.moments k.here.up }) k

    by_act : (b : Act) → MayAct c n told x b → ActSo b → ActMay h n told g x b → IsSimple b → AllFit n (said c n x b)
        → Goes h n told v w NoExcuse (site (Up (acted c n x b)) disk) (passing n (said c n x b) s)
    by_act (Hears from b) m o l e f = mild_to (acted c n x (Hears from b)) [] f tt refl refl refl
    by_act Ticks m o l e f = mild_to (acted c n x Ticks) (said c n x Ticks) f (tt, tick_mild c x) refl refl refl
    by_act Waits m o l e f = mild_to (acted c n x Waits) [] f tt refl refl refl
    by_act (Goes_on b q) m o l e f = mild_to (acted c n x (Goes_on b q)) [] f tt refl refl refl
    by_act (Ends b end) m o l e f = mild_to (acted c n x (Ends b end)) (said c n x (Ends b end)) f (ended_mild b.plan.epoch end, tt) refl refl refl
    by_act (Queues b d kind) m o l e f =
        queued (acted c n x (Queues b d kind))
        (λ ms up. if_either (λ (y : UpNode). UpSo ms n y) (has b.plan.members n)
        (record x { tasks = after_seize x.tasks d (seizing.begun kind b.plan.epoch b.plan.members n c.id (has (record_of x).valid d)) }) x
        (queued_up ms n d x (seizing.begun kind b.plan.epoch b.plan.members n c.id (has (record_of x).valid d)) up) up)
    by_act (Accepts kind p members d) m o l e f =
        queued (acted c n x (Accepts kind p members d)) (λ ms up. queued_up ms n d x (seizing.begun kind p members n c.id (has (record_of x).valid d)) up)
    by_act (Stores d value b) m o l e f = mild_to x (said c n x (Stores d value b)) f (tt, write_mild n x d value b) refl refl refl
    by_act (Writes to b) m o l e f = posting_goes h n told v w NoExcuse (site (Up x) disk) s to b f.1 (write_shows h s.moments n x disk b same m k.here) k
    by_act (Gives os) m o l e f = mild_to x os f (minors_mild os o m) refl refl refl
    by_act (Spreads receivers b) m o l e f = mild_to x (said c n x (Spreads receivers b)) f (spread_mild receivers b l) refl refl refl
    by_act (Minds q p) m o l e f = mild_to (acted c n x (Minds q p)) [] f tt refl refl refl
    by_act (Notes from place p) m o l e f = mild_to (acted c n x (Notes from place p)) [] f tt refl refl refl
    by_act (Dates second) m o l e f = mild_to (acted c n x (Dates second)) [] f tt refl refl refl
    by_act (Works worker) m o l e f = mild_to (acted c n x (Works worker)) [] f tt refl refl refl
    by_act (Makes change) m o l e f = absurd e
    by_act (Takes at command b) m o l e f = absurd e
