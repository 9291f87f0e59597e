-- Each act of a node keeps what its attempt has of its seizings; what it sends is so.
use Rattle.std.specs.Prelude.{All, ℕ, ◌≡◌, ◌<◌, ◌⊎◌, Bool, true, false, List, [], ◌∷◌, Option, None, Some}
use Rattle.std.specs.List.{AllByRecursion}
use Rattle.std.proofs.Common.{refl, sym, ap, subst, ◌∙◌, inl, inr}
use Rattle.cl_base.specs.Seizings.{SeizeResult}
use Rattle.cl_base.specs.Sets.{has}
use Rattle.cl_base.specs.declared.header.Header.{Header}
use Rattle.cmm_attempt.proofs.Basics.{if_either, none_some}
use Rattle.cmm_attempt.specs.Attempts.{AttemptState, install_in}
use Rattle.cmm_attempt.specs.declared.phase.Phase.TheVariants.{Installing}
use Rattle.cmm_attempt.specs.Calls.{IsDevice}
use Rattle.cmm_member.specs.Nodes.{AreOfDevices}
use Rattle.cmm_member.specs.Records.{NodeRecord}
use Rattle.device_queue.specs.Tasks.{is_queued, result_in}
use Rattle.device_queue.specs.declared.task.Task.{Task}
use Rattle.device_queue.specs.declared.task.Work.{Work}
use Rattle.device_queue.specs.declared.task.Work.TheVariants.{Joining as Joins, Seizing as Seizes}
use Rattle.history.specs.Moment.{Moment}
use Rattle.history.specs.Seizing.{keys_seized}
use Rattle.membership_machine.specs.Records.{Saved}
use Rattle.membership_machine.specs.State.{Memberships}
use Rattle.node_model.specs.Seats.{installed_of, session_of, state_of}
use Rattle.node_model.specs.declared.cluster.Cluster.{Cluster}
use Rattle.node_model.specs.declared.node.Node.{Node}
use Rattle.node_model.specs.declared.node.Node.TheVariants.{Down, Up}
use Rattle.node_model.specs.declared.node.UpNode.{UpNode}
use Rattle.refinement.proofs.Attempts.{install_epoch}
use Rattle.refinement.proofs.Changes.{Sees, sees}
use Rattle.refinement.specs.Doings.{Act, acted, said}
use Rattle.refinement.specs.Doings.Act.{Accepts, Dates, Ends, Gives as Gives_act, Goes_on, Hears, Makes, Minds, Notes, Queues, Spreads, Stores, Takes, Ticks, Waits, Works, Writes}
use Rattle.refinement.specs.Guards.{MayAct, MayWrite, OfAttempt}
use Rattle.refinement.specs.Ties.{Delivered}
use Rattle.run_history.proofs.Changes.{at_attempt}
use Rattle.run_history.proofs.WholeChanges.{attached_of}
use Rattle.run_history.specs.Guards.{AtWrite, Hand, HasEnded, TellsEnd}
use Rattle.wire.specs.declared.message.Body.{Body}
use Rattle.wire.specs.declared.message.Body.TheVariants as body
use Rattle.wire.specs.declared.message.Install.{Install}
use Rattle.run_seizings.proofs.Acts.{ActMay}
use Rattle.run_seizings.specs.Seized.{Either, Fresh, IsInstalled, TasksSo, WorkSo, has_installed}
use Rattle.run_devices.proofs.readings.Acts.{NoChange}
use Rattle.run_devices.proofs.readings.Calls.{attempt_of}
use Rattle.run_devices.specs.installs.Shown.{AllAreTold, BodyShown, EndedAs, IsCounted, ReadInOrder, Shown}
use Rattle.run_devices.proofs.installs.Calls.{Known, Mine, ShownNow, called, ended_reads}
use Rattle.run_devices.proofs.installs.Fulls.{installs_apart, installs_order}
use Rattle.run_devices.proofs.installs.Links.{Gives}
use Rattle.run_devices.proofs.installs.Silent.{Silent, minor_gives, plain_spread, tick_gives, write_gives}
use Rattle.run_devices.proofs.readings.Order.{apart_of}
use Rattle.attempt_laws.specs.Asking.{numbers_of}

abbrev pub OptMine : Shown → ℕ → Option AttemptState → Type 0
OptMine K high None = Unit {0}
OptMine K high (Some a) = Mine K high a

abbrev pub MineIn : Shown → ℕ → Node → Type 0
MineIn K high Down = Unit {0}
MineIn K high (Up x) = OptMine K high x.attempt

pub mine_of : (K : Shown) (high : ℕ) (o : Option AttemptState) (a : AttemptState) → o ≡ Some a → OptMine K high o → Mine K high a
mine_of K high o a is k = subst (λ z. OptMine K high z) is k

pub silent_so : (K : Shown) (M : Memberships) (ms : List Moment) → Silent (BodyShown K M ms)
silent_so K M ms n (body.Seized e d r) k = absurd k
silent_so K M ms n (body.Install i) k = absurd k
silent_so K M ms n _ k = tt

-- ---- what is sent

-- a seizing that has ended is of a session
work_some : (h : Header) (ms : List Moment) (n q d : ℕ) (r : SeizeResult) (w : Work) → result_in w ≡ Some r → WorkSo h ms n q d w → 0 < q
work_some h ms n q d r (Seizes s) is so = so.0.some
work_some h ms n q d r (Joins j) is so = absurd (none_some r is)

fresh_some : (h : Header) (ms : List Moment) (n q d : ℕ) (r : SeizeResult) (ts : List Task) → HasEnded ts d r → AllByRecursion (Fresh h ms n q) ts → 0 < q
fresh_some h ms n q d r [] ended k = absurd ended
fresh_some h ms n q d r (t ∷ ts) (inl here) k = by_work t.work here.1 k.0
  where
    by_work : (w : Work) → result_in w ≡ Some r → Fresh h ms n q (record { device = t.device; work = w }) → 0 < q
    by_work (Seizes s) is so = so.0.some
    by_work (Joins j) is so = absurd (none_some r is)
fresh_some h ms n q d r (t ∷ ts) (inr there) k = fresh_some h ms n q d r ts there k.1

ended_some : (h : Header) (ms : List Moment) (n q d : ℕ) (r : SeizeResult) (ts : List Task) → HasEnded ts d r → TasksSo h ms n q ts → 0 < q
ended_some h ms n q d r [] ended k = absurd ended
ended_some h ms n q d r (t ∷ ts) (inl here) k = work_some h ms n q t.device r t.work here.1 k.0
ended_some h ms n q d r (t ∷ ts) (inr there) k = by_either (is_queued t) k.1 (λ so. ended_some h ms n q d r ts there so)
  where
    by_either : (b : Bool) → Either b (AllByRecursion (Fresh h ms n q) ts) (TasksSo h ms n q ts) → (TasksSo h ms n q ts → 0 < q) → 0 < q
    by_either true fresh f = fresh_some h ms n q d r ts there fresh
    by_either false so f = f so

-- what it has installed was counted
counted_so : (h : Header) (c : Cluster) (M : Memberships) (n : ℕ) (told : Delivered) (high : ℕ) (K : Shown) (disk : NodeRecord) (x : UpNode) (ms : List Moment) (e : ℕ)
    → Known h c M n told high K disk x ms → 0 < e → e ≡ installed_of x → (M.epoch e).counted ≡ true
counted_so h c M n told high K disk x ms e k some is =
    let sight : Sees M n disk (state_of x.seat) = sees c M n disk x.attempt x.seat k.at.tied.0 in
    let same : (M.node n).saved.installed ≡ e = ap (λ (r : Saved). r.installed) sight.saved ∙ sym is in
    subst (λ q. (M.epoch q).counted ≡ true) same ((k.at.holds.node n).fits.counted (subst (λ q. 0 < q) (sym same) some))

-- the lines have that it installed e
abbrev pub FirstSo : ℕ → List Moment → Type 0
FirstSo n ms = (e : ℕ) → has_installed n e ms ≡ true → IsInstalled ms e

seized_shown : (h : Header) (c : Cluster) (M : Memberships) (n : ℕ) (told : Delivered) (high : ℕ) (K : Shown) (disk : NodeRecord) (x : UpNode) (ms : List Moment) (e d : ℕ) (r : SeizeResult)
    → Known h c M n told high K disk x ms → FirstSo n ms → ShownNow h K ms → TellsEnd told x e d r → BodyShown K M ms n (body.Seized e d r)
seized_shown h c M n told high K disk x ms e d r k first now (inl tells) = by_installed (has_installed n (session_of x) ms) refl
  where
    by_installed : (b : Bool) → has_installed n (session_of x) ms ≡ b → IsCounted M ms e ⊎ EndedAs K e d n r
    by_installed true is = inl (inl (subst (λ z. IsInstalled ms z) (sym tells.0) (first (session_of x) is)).2)
    by_installed false is =
        inr (now n e d ∙ (ap (λ q. keys_seized h n q d ms) tells.0
        ∙ ended_reads h ms n d x r (ended_some h ms n (session_of x) d r x.tasks tells.1 (k.up.tasks is)) is tells.1 k.up))
seized_shown h c M n told high K disk x ms e d r k first now (inr fault) = inl (inr (counted_so h c M n told high K disk x ms e k fault.1 fault.2))

install_shown : (h : Header) (c : Cluster) (M : Memberships) (n : ℕ) (told : Delivered) (high : ℕ) (K : Shown) (disk : NodeRecord) (x : UpNode) (ms : List Moment) (i : Install)
    → Known h c M n told high K disk x ms → OptMine K high x.attempt → OfAttempt (λ a. (a.phase ≡ Installing) × (i ≡ install_in a)) x.attempt
    → AllAreTold K i.epoch i.readings × AreOfDevices i.readings × ReadInOrder i.readings
install_shown h c M n told high K disk x ms i k mine may = by_attempt x.attempt refl mine may
  where
    by_attempt : (o : Option AttemptState) → x.attempt ≡ o → OptMine K high o → OfAttempt (λ a. (a.phase ≡ Installing) × (i ≡ install_in a)) o
        → AllAreTold K i.epoch i.readings × AreOfDevices i.readings × ReadInOrder i.readings
    by_attempt None is m z = absurd z
    by_attempt (Some a) is m z = (
      subst (λ (j : Install). AllAreTold K j.epoch j.readings) (sym z.1)
          (subst (λ e. AllAreTold K e (install_in a).readings) (sym (install_epoch a)) (m.shown.installing z.0)),
      subst (λ (j : Install). AreOfDevices j.readings) (sym z.1)
          (installs_apart a (at_attempt c M n told disk x a (All IsDevice a.plan.attached) k.at is (λ y shows co. attached_of a co.reached))
          (apart_of (numbers_of a.plan.attached) (attempt_of h ms n (session_of x) x.attempt a is k.up.attempt).attached)),
      subst (λ (j : Install). ReadInOrder j.readings) (sym z.1) (installs_order a (attempt_of h ms n (session_of x) x.attempt a is k.up.attempt).attached),
    )

write_shown : (h : Header) (c : Cluster) (M : Memberships) (n : ℕ) (told : Delivered) (high : ℕ) (K : Shown) (disk : NodeRecord) (x : UpNode) (ms : List Moment) (g : Hand) (to : ℕ) (b : Body)
    → Known h c M n told high K disk x ms → FirstSo n ms → ShownNow h K ms → OptMine K high x.attempt → MayWrite x b → AtWrite told g x to b → BodyShown K M ms n b
write_shown h c M n told high K disk x ms g to (body.Seized e d r) k first now mine may at = seized_shown h c M n told high K disk x ms e d r k first now at
write_shown h c M n told high K disk x ms g to (body.Install i) k first now mine may at = install_shown h c M n told high K disk x ms i k mine may
write_shown h c M n told high K disk x ms g to _ k first now mine may at = tt

-- ---- each act

-- those that rest on what the lines show by now
abbrev pub StirsAct : Act → Type 0
StirsAct (Goes_on a q) = Unit {0}
StirsAct (Writes to b) = Unit {0}
StirsAct _ = ⊥

abbrev pub Acted : Header → Cluster → Memberships → ℕ → ℕ → Shown → UpNode → List Moment → Act → Type 0
Acted h c M n high K x ms a = OptMine K high (acted c n x a).attempt × Gives (BodyShown K M ms) n (said c n x a)

pub act_mine : (h : Header) (c : Cluster) (M : Memberships) (n : ℕ) (told : Delivered) (high : ℕ) (K : Shown) (disk : NodeRecord) (x : UpNode) (ms : List Moment) (g : Hand) (a : Act)
    → NoChange a → MayAct c n told x a → ActMay h n told g x a → Known h c M n told high K disk x ms → FirstSo n ms → (StirsAct a → ShownNow h K ms) → OptMine K high x.attempt
    → Acted h c M n high K x ms a
act_mine h c M n told high K disk x ms g (Hears from b) none may guard k first now mine = (mine, tt)
act_mine h c M n told high K disk x ms g Ticks none may guard k first now mine = (mine, tick_gives (BodyShown K M ms) c n x (silent_so K M ms))
act_mine h c M n told high K disk x ms g Waits none may guard k first now mine = (mine, tt)
act_mine h c M n told high K disk x ms g (Goes_on a q) none may guard k first now mine =
    (called h c M n told high K disk x ms a q k (now tt) may.0 may.1 guard may.2 (mine_of K high x.attempt a may.0 mine), tt)
act_mine h c M n told high K disk x ms g (Ends a e) none may guard k first now mine = (tt, tt)
act_mine h c M n told high K disk x ms g (Queues a d kind) none may guard k first now mine =
    (if_either (λ (y : UpNode). OptMine K high y.attempt) (has a.plan.members n) _ x mine mine, tt)
act_mine h c M n told high K disk x ms g (Accepts kind e members d) none may guard k first now mine = (mine, tt)
act_mine h c M n told high K disk x ms g (Takes on command a) none may guard k first now mine = (mine, tt)
act_mine h c M n told high K disk x ms g (Stores d value a) none may guard k first now mine = (mine, write_gives (BodyShown K M ms) n x d value a)
act_mine h c M n told high K disk x ms g (Writes to b) none may guard k first now mine =
    (mine, (write_shown h c M n told high K disk x ms g to b k first (now tt) mine may guard, tt))
act_mine h c M n told high K disk x ms g (Gives_act os) none may guard k first now mine = (mine, minor_gives (BodyShown K M ms) n os (silent_so K M ms) may)
act_mine h c M n told high K disk x ms g (Spreads receivers b) none may guard k first now mine =
    (mine, plain_spread (BodyShown K M ms) n receivers b (silent_so K M ms) guard)
act_mine h c M n told high K disk x ms g (Minds q p) none may guard k first now mine = (mine, tt)
act_mine h c M n told high K disk x ms g (Notes from place p) none may guard k first now mine = (mine, tt)
act_mine h c M n told high K disk x ms g (Dates second) none may guard k first now mine = (mine, tt)
act_mine h c M n told high K disk x ms g (Works worker) none may guard k first now mine = (mine, tt)
act_mine h c M n told high K disk x ms g (Makes change) none may guard k first now mine = absurd none
