-- An attempt has the Readies of nodes that are ready, and starts with all of them.
use Rattle.std.specs.Prelude.{ℕ, ◌≡◌, ◌≢◌, ◌==◌, ◌||◌, Bool, true, false, List, None, Some}
use Rattle.std.specs.List.{AllByRecursion, list_any}
use Rattle.std.proofs.Common.{refl, sym, ap, subst, ◌∙◌}
use Rattle.std.proofs.lemmas.List.Elements.{All-from_recursion}
use Rattle.attempt_laws.proofs.MachineLemmas.{of_all, of_any, starts_follow}
use Rattle.attempt_laws.proofs.Goes.{chosen_reached, goes_by_call}
use Rattle.attempt_laws.proofs.Stays.{installs_come_before, plan_stays}
use Rattle.attempt_laws.proofs.Steady.{Steady, begun_keeps, call_keeps}
use Rattle.attempt_laws.proofs.Told.{is_among}
use Rattle.attempt_laws.specs.Machine.{is_member}
use Rattle.attempt_laws.specs.Staying.{IsBefore}
use Rattle.cl_base.specs.Numbers.{numbers_to}
use Rattle.cmm_attempt.proofs.Basics.{false_true, none_some, same_number}
use Rattle.cmm_attempt.specs.Attempts.{AttemptState, all_ready, beginning, begun, first_state, has_readied, is_of, own_readying, own_readying_in, promises_of}
use Rattle.cmm_attempt.specs.Calls.{Call, IsReached, May as MayTake, Own_ready, Own_seized, Take, Tick, With_votes, installs_in, starts_in, turn}
use Rattle.cmm_attempt.specs.Promises.{promised_by, shown_by}
use Rattle.cmm_attempt.specs.declared.attached.AttachedDevice.{AttachedDevice}
use Rattle.cmm_attempt.specs.declared.phase.Phase.{Phase}
use Rattle.cmm_attempt.specs.declared.phase.Phase.TheVariants.{Choosing, Collecting, Installing, Over, SeizingOthers, SeizingVotes}
use Rattle.cmm_attempt.specs.declared.phase.Readied.{Readied}
use Rattle.cmm_attempt.specs.declared.plan.Plan.{Plan}
use Rattle.device_queue.specs.Queue.{joins}
use Rattle.device_queue.specs.declared.task.Task.{Task}
use Rattle.node_model.specs.declared.cluster.Cluster.{Cluster}
use Rattle.refinement.specs.Guards.{MayCall}
use Rattle.refinement.specs.Ties.{Delivered}
use Rattle.refinement.proofs.Attempts.{may_be_called}
use Rattle.run_history.proofs.Lists.{all_and}
use Rattle.wire.specs.Kinds.{is_ready}
use Rattle.wire.specs.declared.message.Body.{Body}
use Rattle.wire.specs.declared.message.Body.TheVariants as body
use Rattle.wire.specs.declared.message.Install.{Install}
use Rattle.wire.specs.declared.message.Message.{Message}
use Rattle.run_lines.specs.writes.Sites.{AttemptSo, HandReady, Ready, TellsReady}

-- ---- a call

-- T: what is so where its own part is done
pub record Has (K : Ready) (e : ℕ) (T : Type 0) (s : AttemptState) : Type 0 where
  pub epoch : s.plan.epoch ≡ e
  pub readies : AllByRecursion (λ (r : Readied). K r.node e) s.readies
  pub before : IsBefore s.phase → s.own_ready ≡ false
  pub own : s.own_ready ≡ true → T

-- in another phase that comes before
phase_before : (a b : Phase) → b ≡ a → IsBefore a → IsBefore b
phase_before a b is h = subst IsBefore (sym is) h

has_steady : (K : Ready) (e : ℕ) (T : Type 0) (c : Call) → ((from : ℕ) (m : Message) → c ≡ Take from m → is_of e m.body ≡ true → is_ready m.body ≡ true → K from e) → (c ≡ Own_ready → T)
    → Steady c (Has K e T) (Has K e T)
has_steady K e T c source own = record {
  within = λ s i. i;
  ticked = λ s i. record { epoch = i.epoch; readies = i.readies; before = i.before; own = i.own };
  over = λ s k. record { epoch = k.epoch; readies = k.readies; before = λ b. absurd b; own = k.own };
  promise = λ s from m p is awaited of promised i. record { epoch = i.epoch; readies = i.readies; before = i.before; own = i.own };
  collecting = λ s is f k. k;
  no_newest = λ s is all none k. k;
  chosen = λ s newest is all some k. record { epoch = k.epoch; readies = k.readies; before = λ b. k.before (phase_before Collecting s.phase is tt); own = k.own };
  votes = λ s votes is i. record { epoch = i.epoch; readies = i.readies; before = λ b. i.before (phase_before Choosing s.phase is tt); own = i.own };
  entries = λ s is k. record { epoch = k.epoch; readies = k.readies; before = k.before; own = k.own };
  result = λ s d from r is tells i. record { epoch = i.epoch; readies = i.readies; before = i.before; own = i.own };
  next = λ s d n f kind r is found i. record { epoch = i.epoch; readies = i.readies; before = i.before; own = i.own };
  seizing = λ s is f k. k;
  counted = λ s is h k. record { epoch = k.epoch; readies = k.readies; before = k.before; own = k.own };
  others = λ s is ne k. record { epoch = k.epoch; readies = k.readies; before = λ b. k.before (phase_before SeizingVotes s.phase is tt); own = k.own };
  installs = λ s is k. record { epoch = k.epoch; readies = k.readies; before = λ b. absurd b; own = k.own };
  ready = λ s from m is at of ready_body i. record {
    epoch = i.epoch;
    readies = all_and (λ (r : Readied). K r.node e) s.readies (record { node = from; message = m }) i.readies (source from m is (subst (λ z. is_of z m.body ≡ true) i.epoch of) ready_body);
    before = i.before;
    own = i.own;
  };
  own = λ s is at i. record { epoch = i.epoch; readies = i.readies; before = λ b. absurd (subst IsBefore at b); own = λ now. own is };
  installing = λ s at f k. k;
}

ready_told : (K : Ready) (from e : ℕ) (b : Body) → is_of e b ≡ true → is_ready b ≡ true → TellsReady K from b → K from e
ready_told K from e (body.Ready p devices report) of ready h = subst (λ z. K from z) (same_number p e of) h
ready_told K from e (body.Heartbeat promised session is_one) of ready h = absurd (false_true ready)
ready_told K from e (body.Collect p members) of ready h = absurd (false_true ready)
ready_told K from e (body.Promise p newest members valid flagged committed pending) of ready h = absurd (false_true ready)
ready_told K from e (body.Nack p promised) of ready h = absurd (false_true ready)
ready_told K from e (body.SeizeQuorum p members d) of ready h = absurd (false_true ready)
ready_told K from e (body.SeizeData p members d) of ready h = absurd (false_true ready)
ready_told K from e (body.Seized p d outcome) of ready h = absurd (false_true ready)
ready_told K from e (body.Install i) of ready h = absurd (false_true ready)
ready_told K from e (body.Start p) of ready h = absurd (false_true ready)
ready_told K from e (body.Prepare p place text) of ready h = absurd (false_true ready)
ready_told K from e (body.Prepared p place) of ready h = absurd (false_true ready)
ready_told K from e (body.Commit p place) of ready h = absurd (false_true ready)
ready_told K from e (body.Order o) of ready h = absurd (false_true ready)
ready_told K from e (body.Done p number outcome) of ready h = absurd (false_true ready)
ready_told K from e (body.Request p number text) of ready h = absurd (false_true ready)
ready_told K from e (body.Answer p number text) of ready h = absurd (false_true ready)
ready_told K from e (body.Excluded p newest) of ready h = absurd (false_true ready)

-- what it takes is what was delivered
abbrev TakesSo : Delivered → Call → Type 0
TakesSo told (Take from m) = told ≡ Some (from, m)
TakesSo told k = Unit {0}

call_takes : (c : Cluster) (told : Delivered) (a : AttemptState) (k : Call) → MayCall c told a k → TakesSo told k
call_takes c told a (Take from m) may = may.0
call_takes c told a (With_votes votes) may = tt
call_takes c told a (Own_seized d r) may = tt
call_takes c told a Own_ready may = tt
call_takes c told a Tick may = tt

taken_from : (K : Ready) (told : Delivered) (from : ℕ) (m : Message) → HandReady K told → told ≡ Some (from, m) → TellsReady K from m.body
taken_from K told from m hand is = subst (HandReady K) is hand

-- what is so where its own part is done: T
has_after : (K : Ready) (T : Type 0) (c : Cluster) (told : Delivered) (a : AttemptState) (k : Call) → MayCall c told a k → HandReady K told → (k ≡ Own_ready → T) → (a.own_ready ≡ true → T)
    → AllByRecursion (λ (r : Readied). K r.node a.plan.epoch) a.readies → (IsBefore a.phase → a.own_ready ≡ false) → Has K a.plan.epoch T (turn a k).after
has_after K T c told a k may hand own before readies none =
    let e : ℕ = a.plan.epoch in
    let takes : TakesSo told k = call_takes c told a k may in
    call_keeps (Has K e T) (Has K e T) a k
    (has_steady K e T k (λ from m is of ready. ready_told K from e m.body of ready (taken_from K told from m hand (subst (TakesSo told) is takes))) own) (may_be_called c told a k may)
    (record { epoch = refl; readies = readies; before = none; own = before })

pub turned : (K : Ready) (c : Cluster) (told : Delivered) (tasks : List Task) (a : AttemptState) (k : Call) → IsReached a → MayCall c told a k → HandReady K told
    → (k ≡ Own_ready → joins tasks ≡ false) → AttemptSo K tasks a → ((turn a k).after.phase ≡ Installing → a.phase ≡ Installing) → AttemptSo K tasks (turn a k).after
turned K c told tasks a k r may hand own h back =
    let t : AttemptState = (turn a k).after in
    let base : Has K a.plan.epoch (Unit {0}) t = has_after K (Unit {0}) c told a k may hand (λ is. tt) (λ is. tt) h.readies h.before in
    record {
      readies = subst (λ z. AllByRecursion (λ (x : Readied). K x.node z) t.readies) (sym base.epoch) base.readies;
      before = base.before;
      own = λ is now. (has_after K (joins tasks ≡ false) c told a k may hand own (h.own (back is)) h.readies h.before).own now;
    }

-- its part is not done where it installs by the call
own_none : (a : AttemptState) (phase : Phase) → IsBefore phase → installs_in (own_readying_in a phase).steps ≡ None
own_none a Collecting b = refl
own_none a Choosing b = refl
own_none a SeizingVotes b = refl
own_none a SeizingOthers b = refl
own_none a Installing b = absurd b
own_none a Over b = absurd b

not_own : (a : AttemptState) (k : Call) (i : Install) → IsBefore a.phase → installs_in (turn a k).steps ≡ Some i → k ≡ Own_ready → ⊥
unfolding own_readying
not_own a k i b installs is = none_some i (sym (own_none a a.phase b) ∙ subst (λ z. installs_in (turn a z).steps ≡ Some i) is installs)

pub counted : (K : Ready) (c : Cluster) (told : Delivered) (old new : List Task) (a : AttemptState) (k : Call) (i : Install) → IsReached a → MayCall c told a k → HandReady K told
    → installs_in (turn a k).steps ≡ Some i → AttemptSo K old a → AttemptSo K new (turn a k).after
counted K c told old new a k i r may hand installs h =
    let t : AttemptState = (turn a k).after in
    let b : IsBefore a.phase = installs_come_before a k i r (may_be_called c told a k may) installs in
    let base : Has K a.plan.epoch ⊥ t = has_after K ⊥ c told a k may hand (λ is. not_own a k i b installs is) (λ is. false_true (sym (h.before b) ∙ is)) h.readies h.before in
    record {
      readies = subst (λ z. AllByRecursion (λ (x : Readied). K x.node z) t.readies) (sym base.epoch) base.readies;
      before = base.before;
      own = λ is now. absurd (base.own now);
    }

-- an attempt that begins has none
pub begun_so : (K : Ready) (tasks : List Task) (p members : ℕ) (own : Message) (attached : List AttachedDevice) (cluster : ℕ) → AttemptSo K tasks (beginning p members own attached cluster).after
unfolding beginning
begun_so K tasks p members own attached cluster =
    let s : AttemptState = first_state p members own attached cluster (promises_of (promised_by own (shown_by own.sender own.body))) in
    let T : Type 0 = joins tasks ≡ false in
    let after : Has K p T (begun s).after =
    begun_keeps Tick (Has K p T) (Has K p T) (has_steady K p T Tick (λ from m is of ready. absurd (not_take from m is)) (λ is. absurd (not_own is))) s refl
    (record { epoch = refl; readies = tt; before = λ b. refl; own = λ now. absurd (false_true now) }) in
    record { readies = subst (λ z. AllByRecursion (λ (r : Readied). K r.node z) (begun s).after.readies) (sym after.epoch) after.readies; before = after.before; own = λ is. after.own }
  where
    not_take : (from : ℕ) (m : Message) → Tick ≡ Take from m → ⊥
    not_take from m e = cc

    not_own : Tick ≡ Own_ready → ⊥
    not_own e = cc

-- ---- it starts

readied_one : (K : Ready) (e m : ℕ) (rs : List Readied) → AllByRecursion (λ (r : Readied). K r.node e) rs → has_readied rs m ≡ true → K m e
readied_one K e m rs all is =
    of_any (λ (r : Readied). r.node == m) (λ (r : Readied). K r.node e) (K m e) rs is (All-from_recursion (λ (r : Readied). K r.node e) rs all)
    (λ r at k. subst (λ z. K z e) (same_number r.node m at) k)

by_either : (P : Type 0) (a b : Bool) → (a || b) ≡ true → (a ≡ true → ⊥) → (b ≡ true → P) → P
by_either P true b is never f = absurd (never refl)
by_either P false b is never f = f is

pub record Started (K : Ready) (tasks : List Task) (n : ℕ) (t : AttemptState) : Type 0 where
  pub own : joins tasks ≡ false
  pub others : (m : ℕ) → is_member t.plan.members m ≡ true → m ≢ n → K m t.plan.epoch

pub starts_so : (K : Ready) (c : Cluster) (told : Delivered) (tasks : List Task) (n : ℕ) (a : AttemptState) (k : Call) → IsReached a → MayCall c told a k → HandReady K told → (k ≡ Own_ready → joins tasks ≡ false)
    → AttemptSo K tasks a → starts_in (turn a k).steps ≡ true → a.plan.coordinator ≡ n → a.plan.nodes ≡ numbers_to a.plan.members 32 → Started K tasks n (turn a k).after
starts_so K c told tasks n a k r may hand own h starts coordinator nodes =
    let t : AttemptState = (turn a k).after in
    let take : MayTake a k = may_be_called c told a k may in
    let at : a.phase ≡ Installing = starts_follow a k r take starts in
    let so : AttemptSo K tasks t = turned K c told tasks a k r may hand own h (λ is. at) in
    let by : (a.phase ≡ Installing) × (t.own_ready ≡ true) × (all_ready t ≡ true) = (goes_by_call a k take (chosen_reached a r)).start starts in
    let plan : t.plan ≡ a.plan = plan_stays a k take in
    record {
      own = (has_after K (joins tasks ≡ false) c told a k may hand own (h.own at) h.readies h.before).own by.1;
      others = λ m member ne.
          let among : list_any (λ z. z == m) t.plan.nodes ≡ true =
          subst (λ (q : Plan). list_any (λ z. z == m) q.nodes ≡ is_member q.members m) (sym plan) (ap (λ ns. list_any (λ z. z == m) ns) nodes ∙ is_among a.plan.members 32 m) ∙ member in
          by_either (K m t.plan.epoch) (m == t.plan.coordinator) (has_readied t.readies m)
          (of_all (λ z. (z == t.plan.coordinator) || has_readied t.readies z) m t.plan.nodes by.2 among)
          (λ is. ne (same_number m t.plan.coordinator is ∙ (ap (λ (q : Plan). q.coordinator) plan ∙ coordinator)))
          (λ is. readied_one K t.plan.epoch m t.readies so.readies is);
    }
