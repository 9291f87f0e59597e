-- Where no Seized is in hand, each small step of a node leaves the answers that its attempt has; and an attempt that it begins has none.
use Rattle.std.specs.Prelude.{ℕ, ◌≡◌, ◌<◌, ◌≤◌, ◌⊎◌, List, [], ◌∷◌, Option, None, Some}
use Rattle.std.proofs.Common.{arith, refl, sym, ap, subst, ◌∙◌, inl, inr}
use Rattle.attempt_laws.proofs.Stays.{plan_begins, plan_stays}
use Rattle.attempt_laws.specs.Asking.{AreApart, numbers_of}
use Rattle.attempt_laws.specs.Staying.{IsOf as IsOfPlan}
use Rattle.cl_base.specs.Numbers.{numbers_to}
use Rattle.cl_base.specs.Sets.{has}
use Rattle.cmm_attempt.proofs.Basics.{if_either}
use Rattle.cmm_attempt.specs.Attempts.{AttemptState, all_promised, beginning, choosing, chosen_by, collects, first_state, promises_of, with_steps}
use Rattle.cmm_attempt.specs.Calls.{Call, Own_ready, Own_seized, Take, Tick, With_votes, turn}
use Rattle.cmm_attempt.specs.Promises.{newest_shown, promised_by, shown_by}
use Rattle.cmm_attempt.specs.declared.attached.AttachedDevice.{AttachedDevice}
use Rattle.cmm_attempt.specs.declared.plan.Plan.{Plan}
use Rattle.cmm_attempt.specs.declared.promised.Shown.{Shown}
use Rattle.cmm_member.specs.Nodes.{NodeState}
use Rattle.cmm_member.specs.Records.{NodeRecord}
use Rattle.device_queue.specs.Queue.{after_seize}
use Rattle.node_model.specs.Attempts.{own_promise}
use Rattle.node_model.specs.Members.{rested_by}
use Rattle.node_model.specs.Seats.{promised_of, promising, record_of, state_of, with_state}
use Rattle.node_model.specs.declared.cluster.Cluster.{Cluster}
use Rattle.node_model.specs.declared.node.Node.{Node}
use Rattle.node_model.specs.declared.node.Node.TheVariants.{Down, Up}
use Rattle.node_model.specs.declared.node.UpNode.{UpNode}
use Rattle.node_model.specs.declared.seat.Seat.{Seat}
use Rattle.node_model.specs.declared.seat.Seat.TheVariants.{Forming, Member}
use Rattle.refinement.proofs.Attempts.{may_be_called}
use Rattle.refinement.specs.Doings.{Act, Change, Doing, Site, acted, after_all, changed, effect, site}
use Rattle.refinement.specs.Doings.Act.{Ends, Goes_on, Makes, Queues}
use Rattle.refinement.specs.Doings.Change.{Acks, Admits, Commits, Counts, Distrusts, Installs, Leads, Prepares, Promises, Proposes, Sits, Starts}
use Rattle.refinement.specs.Doings.Doing.{Comes_up, Does, Forgets, Goes_down, Loses, Saves}
use Rattle.refinement.specs.Guards.{May, MayAct, MayAll, MayCall, MayChange}
use Rattle.refinement.specs.Ties.{Delivered}
use Rattle.run_history.proofs.Ups.{same_state}
use Rattle.seize.specs.Seizing as seizing
use Rattle.wire.specs.declared.message.Body.{Body}
use Rattle.wire.specs.declared.message.Body.TheVariants as body
use Rattle.wire.specs.declared.message.Message.{Message}
use Rattle.run_outcomes.specs.phases.Kept.{In}
use Rattle.run_outcomes.specs.saves.Kept.{IsAt}
use Rattle.run_outcomes.specs.tasks.Answers.{After, Answered, Has, Heard}
use Rattle.run_outcomes.proofs.said.Silent.{IsSeized}
use Rattle.run_outcomes.proofs.seized.Calls.{IsAside, aside_answered, own_answered}

-- ---- an attempt begins

-- nobody told anything
abbrev pub nothing : Heard
nothing d m = None

first_has : (p members : ℕ) (own : Message) (attached : List AttachedDevice) (cluster : ℕ) → Has nothing (first_state p members own attached cluster (promises_of (promised_by own (shown_by own.sender own.body))))
first_has p members own attached cluster = record { entries = λ d m. refl; apart = tt; early = λ e d m. refl }

chosen_has : (s : AttemptState) (o : Option Shown) → Has nothing s → After nothing (chosen_by s o)
chosen_has s None k = λ b. k
chosen_has s (Some newest) k = λ b. record { entries = k.entries; apart = k.apart; early = λ e d m. refl }

choosing_has : (s : AttemptState) → Has nothing s → After nothing (choosing s)
unfolding choosing
choosing_has s k = chosen_has s (newest_shown s.promises) k

begun_has : (p members : ℕ) (own : Message) (attached : List AttachedDevice) (cluster : ℕ) → After nothing (beginning p members own attached cluster)
unfolding beginning
begun_has p members own attached cluster =
    let s : AttemptState = first_state p members own attached cluster (promises_of (promised_by own (shown_by own.sender own.body))) in
    let k : Has nothing s = first_has p members own attached cluster in
    if_either (After nothing) (all_promised s) (choosing s) (with_steps s (collects s)) (choosing_has s k) (λ b. k)

begun_answered : (p members : ℕ) (own : Message) (attached : List AttachedDevice) (cluster : ℕ) → AreApart (numbers_of attached) → Answered nothing p (beginning p members own attached cluster).after
begun_answered p members own attached cluster apart =
    let b : IsOfPlan (beginning p members own attached cluster).after p members own attached cluster = plan_begins p members own attached cluster in
    record {
      epoch = b.of_epoch;
      nodes = b.of_nodes ∙ ap (λ s. numbers_to s 32) (sym b.of_members);
      attached = subst (λ z. AreApart (numbers_of z)) (sym b.of_attached) apart;
      has = begun_has p members own attached cluster;
    }

-- ---- in the step of a node

-- of the attempt that the node had before the step, if it had one
abbrev pub IsOld : Option AttemptState → ℕ → Type 0
IsOld None e = ⊥
IsOld (Some a) e = a.plan.epoch ≡ e

abbrev pub StaysOf : Option AttemptState → (ℕ → Heard) → ℕ → AttemptState → ℕ → Type 0
StaysOf old T low b e = (IsOld old e × Answered (T e) e b) ⊎ ((low < e) × Answered nothing e b)

-- It is the attempt that the node had before, with the same answers; or one with a number above what was promised before, with none.
abbrev pub Stays : Option AttemptState → (ℕ → Heard) → ℕ → AttemptState → Type 0
Stays old T low b = StaysOf old T low b b.plan.epoch

pub record UpStays (old : Option AttemptState) (T : ℕ → Heard) (low : ℕ) (x : UpNode) : Type 0 where
  pub promised : low ≤ promised_of x
  pub attempt : In (Stays old T low) x.attempt

-- no Seized is in hand
abbrev pub IsQuiet : Delivered → Type 0
IsQuiet None = Unit {0}
IsQuiet (Some d) = IsSeized d.1.body → ⊥

quiet_aside : (e : ℕ) (b : Body) → (IsSeized b → ⊥) → IsAside e b
quiet_aside e (body.Seized epoch d r) quiet = absurd (quiet tt)
quiet_aside e _ quiet = tt

call_answered : (c : Cluster) (told : Delivered) (T : Heard) (e : ℕ) (a : AttemptState) (k : Call) → IsQuiet told → MayCall c told a k → Answered T e a → Answered T e (turn a k).after
call_answered c told T e a (Take from m) quiet may h = aside_answered T e from m a (quiet_aside a.plan.epoch m.body (subst IsQuiet may.0 quiet)) h
call_answered c told T e a (With_votes votes) quiet may h = own_answered T e a (With_votes votes) (may_be_called c told a (With_votes votes) may) tt h
call_answered c told T e a (Own_seized d r) quiet may h = own_answered T e a (Own_seized d r) tt tt h
call_answered c told T e a Own_ready quiet may h = own_answered T e a Own_ready tt tt h
call_answered c told T e a Tick quiet may h = own_answered T e a Tick tt tt h

call_stays : (c : Cluster) (told : Delivered) (old : Option AttemptState) (T : ℕ → Heard) (low : ℕ) (a : AttemptState) (k : Call) → IsQuiet told → MayCall c told a k → Stays old T low a
    → Stays old T low (turn a k).after
call_stays c told old T low a k quiet may h = subst (λ e. StaysOf old T low (turn a k).after e) (sym same) (by_side h)
  where
    same : (turn a k).after.plan.epoch ≡ a.plan.epoch
    same = ap (λ (p : Plan). p.epoch) (plan_stays a k (may_be_called c told a k may))

    by_side : Stays old T low a → StaysOf old T low (turn a k).after a.plan.epoch
    by_side (inl kept) = inl (kept.0, call_answered c told (T a.plan.epoch) a.plan.epoch a k quiet may kept.1)
    by_side (inr new) = inr (new.0, call_answered c told nothing a.plan.epoch a k quiet may new.1)

-- ---- changes

at_most : (a b : ℕ) → a ≡ b → a ≤ b
at_most a b is = omega (arith, is)

then_most : (a b d : ℕ) → a ≤ b → b ≤ d → a ≤ d
then_most a b d i j = omega (arith, i, j)

below : (a b d : ℕ) → a ≤ b → b < d → a ≤ d
below a b d i j = omega (arith, i, j)

above : (a b d : ℕ) → a ≤ b → b < d → a < d
above a b d i j = omega (arith, i, j)

rested_promised : (x : UpNode) (p : ℕ) (o : Option AttemptState) → promised_of (rested_by (promising x p) o) ≡ p
rested_promised x p None = refl
rested_promised x p (Some a) = refl

rested_none : (x : UpNode) (p : ℕ) (o : Option AttemptState) → (rested_by (promising x p) o).attempt ≡ None
rested_none x p None = refl
rested_none x p (Some a) = refl

at_state : (x : UpNode) (seat : Seat) (s : NodeState) → x.seat ≡ seat → state_of seat ≡ s → s.saved.promised ≡ promised_of x
at_state x seat s is at = sym (ap (λ z. (state_of z).saved.promised) is ∙ ap (λ (z : NodeState). z.saved.promised) at)

of_state : (seat : Seat) (s : NodeState) → (state_of (with_state seat s)).saved.promised ≡ s.saved.promised
of_state seat s = ap (λ (z : NodeState). z.saved.promised) (same_state seat s)

-- what is promised does not fall
change_rises : (c : Cluster) (n : ℕ) (told : Delivered) (x : UpNode) (ch : Change) → MayChange c n told x ch → promised_of x ≤ promised_of (changed c n x ch)
change_rises c n told x (Promises p) may = below (promised_of x) (promised_of x) (promised_of (changed c n x (Promises p))) (at_most _ _ refl) (subst (λ z. promised_of x < z) (sym (rested_promised x p x.attempt)) may.1)
change_rises c n told x (Leads p members) may = below (promised_of x) (promised_of x) p (at_most _ _ refl) may.0
change_rises c n told x (Counts a k s i) may = at_most _ _ (sym (at_state x (Forming s) s may.1 refl))
change_rises c n told x (Installs s i) may = at_most _ _ (sym (at_state x (Forming s) s may.0 refl))
change_rises c n told x (Starts a k s) may = at_most _ _ (sym (at_state x (Forming s) s may.1 refl))
change_rises c n told x (Sits s e) may = at_most _ _ (sym (at_state x (Forming s) s may.0 refl))
change_rises c n told x (Distrusts d) may = at_most _ _ (sym (of_state x.seat _))
change_rises c n told x (Admits on command a d) may = at_most _ _ (sym (of_state x.seat _))
change_rises c n told x (Proposes s p text) may = at_most _ _ (sym (of_state x.seat _))
change_rises c n told x (Acks s p q left text) may = at_most _ _ (sym (of_state x.seat _))
change_rises c n told x (Prepares s text) may = at_most _ _ (sym (at_state x (Member s) s may.0 refl))
change_rises c n told x (Commits s) may = at_most _ _ (sym (at_state x (Member s) s may.0 refl))

attempt_in : (P : AttemptState → Type 0) (x : UpNode) (a : AttemptState) → x.attempt ≡ Some a → In P x.attempt → P a
attempt_in P x a is h = subst (In P) is h

change_attempt : (c : Cluster) (n : ℕ) (told : Delivered) (old : Option AttemptState) (T : ℕ → Heard) (low : ℕ) (x : UpNode) (ch : Change) → AreApart (numbers_of c.attached) → IsQuiet told
    → MayChange c n told x ch → UpStays old T low x → In (Stays old T low) (changed c n x ch).attempt
change_attempt c n told old T low x (Promises p) apart quiet may h = subst (In (Stays old T low)) (sym (rested_none x p x.attempt)) tt
change_attempt c n told old T low x (Leads p members) apart quiet may h =
    let y : UpNode = record (promising x p) { greatest = p } in
    let b : AttemptState = (beginning p members (own_promise n y p) c.attached c.id).after in
    let k : Answered nothing p b = begun_answered p members (own_promise n y p) c.attached c.id apart in
    inr (subst (λ e. low < e) (sym k.epoch) (above low (promised_of x) p h.promised may.0), subst (λ e. Answered nothing e b) (sym k.epoch) k)
change_attempt c n told old T low x (Counts a k s i) apart quiet may h = call_stays c told old T low a k quiet may.2 (attempt_in (Stays old T low) x a may.0 h.attempt)
change_attempt c n told old T low x (Starts a k s) apart quiet may h = tt
change_attempt c n told old T low x _ apart quiet may h = h.attempt

change_stays : (c : Cluster) (n : ℕ) (told : Delivered) (old : Option AttemptState) (T : ℕ → Heard) (low : ℕ) (x : UpNode) (ch : Change) → AreApart (numbers_of c.attached) → IsQuiet told
    → MayChange c n told x ch → UpStays old T low x → UpStays old T low (changed c n x ch)
change_stays c n told old T low x ch apart quiet may h = record {
  promised = then_most low (promised_of x) (promised_of (changed c n x ch)) h.promised (change_rises c n told x ch may);
  attempt = change_attempt c n told old T low x ch apart quiet may h;
}

-- ---- acts

act_stays : (c : Cluster) (n : ℕ) (told : Delivered) (old : Option AttemptState) (T : ℕ → Heard) (low : ℕ) (x : UpNode) (a : Act) → AreApart (numbers_of c.attached) → IsQuiet told
    → MayAct c n told x a → UpStays old T low x → UpStays old T low (acted c n x a)
act_stays c n told old T low x (Goes_on a k) apart quiet may h =
    record { promised = h.promised; attempt = call_stays c told old T low a k quiet may.1 (attempt_in (Stays old T low) x a may.0 h.attempt) }
act_stays c n told old T low x (Ends a e) apart quiet may h = record { promised = h.promised; attempt = tt }
act_stays c n told old T low x (Makes ch) apart quiet may h = change_stays c n told old T low x ch apart quiet may.0 h
act_stays c n told old T low x (Queues a d kind) apart quiet may h =
    if_either (UpStays old T low) (has a.plan.members n)
    (record x { tasks = after_seize x.tasks d (seizing.begun kind a.plan.epoch a.plan.members n c.id (has (record_of x).valid d)) }) x (record { promised = h.promised; attempt = h.attempt }) h
act_stays c n told old T low x a apart quiet may h = record { promised = h.promised; attempt = h.attempt }

-- ---- small steps

fresh_stays : (old : Option AttemptState) (T : ℕ → Heard) (low : ℕ) (c : Cluster) (n : ℕ) (disk : NodeRecord) → low ≤ disk.promised → IsAt (UpStays old T low) (effect c n (site Down disk) Comes_up).node
fresh_stays old T low c n disk most = record { promised = most; attempt = tt }

-- and while it is down its disk keeps what it has promised
abbrev pub NodeStays : Option AttemptState → (ℕ → Heard) → ℕ → Site → Type 0
NodeStays old T low x = (low ≤ x.disk.promised) × IsAt (UpStays old T low) x.node

doing_stays : (c : Cluster) (n : ℕ) (told : Delivered) (old : Option AttemptState) (T : ℕ → Heard) (low : ℕ) (node : Node) (disk : NodeRecord) (d : Doing) → AreApart (numbers_of c.attached) → IsQuiet told
    → May c n told (site node disk) d → NodeStays old T low (site node disk) → NodeStays old T low (effect c n (site node disk) d)
doing_stays c n told old T low Down disk Comes_up apart quiet may h = (h.0, fresh_stays old T low c n disk h.0)
doing_stays c n told old T low Down disk (Goes_down why) apart quiet may h = (h.0, tt)
doing_stays c n told old T low Down disk (Does a) apart quiet may h = (h.0, tt)
doing_stays c n told old T low Down disk (Saves ch) apart quiet may h = (h.0, tt)
doing_stays c n told old T low Down disk (Loses ch why) apart quiet may h = (h.0, tt)
doing_stays c n told old T low Down disk (Forgets ch why) apart quiet may h = (h.0, tt)
doing_stays c n told old T low (Up x) disk Comes_up apart quiet may h = h
doing_stays c n told old T low (Up x) disk (Goes_down why) apart quiet may h = (h.0, tt)
doing_stays c n told old T low (Up x) disk (Does a) apart quiet may h = (h.0, act_stays c n told old T low x a apart quiet may h.1)
doing_stays c n told old T low (Up x) disk (Saves ch) apart quiet may h =
    let k : UpStays old T low (changed c n x ch) = change_stays c n told old T low x ch apart quiet may h.1 in
    (k.promised, k)
doing_stays c n told old T low (Up x) disk (Loses ch why) apart quiet may h = ((change_stays c n told old T low x ch apart quiet may h.1).promised, tt)
doing_stays c n told old T low (Up x) disk (Forgets ch why) apart quiet may h = (h.0, tt)

pub all_stay : (c : Cluster) (n : ℕ) (told : Delivered) (old : Option AttemptState) (T : ℕ → Heard) (low : ℕ) (x : Site) (ds : List Doing) → AreApart (numbers_of c.attached) → IsQuiet told
    → MayAll c n told x ds → NodeStays old T low x → NodeStays old T low (after_all c n x ds)
all_stay c n told old T low x [] apart quiet may h = h
all_stay c n told old T low x (d ∷ ds) apart quiet may h =
    all_stay c n told old T low (effect c n x d) ds apart quiet may.1 (doing_stays c n told old T low x.node x.disk d apart quiet may.0 h)
