-- Of an attempt that seizes: whoever seized a device for it, as the lines show it, is the one that it asked last there. This stays so in each call, by the
-- machine of the device with nodes that have ended as the lines show it.
use Rattle.std.specs.Prelude.{ℕ, ◌≡◌, ◌≢◌, ◌≤◌, ◌==◌, ◌||◌, ◌⊎◌, not, All, Bool, true, false, List, [], ◌∷◌, Option, None, Some, find, if◌then◌else◌, is_some}
use Rattle.std.specs.List.{AllByRecursion}
use Rattle.std.proofs.Common.{refl, sym, ap, subst, ◌∙◌, inl, inr}
use Rattle.std.proofs.lemmas.List.Elements.{All-head, All-tail}
use Rattle.attempt_laws.proofs.Asks.{calls_move}
use Rattle.attempt_laws.proofs.Walk.{IsSeizing, TellsResult}
use Rattle.attempt_laws.specs.Asking as asking
use Rattle.attempt_laws.specs.Asking.{AskedBy, CountsAt, DeviceHas, EndedSo, HasEntry, HasIn, IsAsking, IsToldAt, Moves, TellsAt, entry_of}
use Rattle.attempt_laws.specs.Machine.{is_member}
use Rattle.cl_base.specs.Seizings.{SeizeResult}
use Rattle.cl_base.specs.declared.seizing.SeizeEnd.TheVariants as end
use Rattle.cluster_machine.specs.Cluster.{MayCome, all_after}
use Rattle.cmm_attempt.proofs.Basics.{none_some, same_number, same_some}
use Rattle.cmm_attempt.specs.Attempts.{AttemptState}
use Rattle.cmm_attempt.specs.Calls.{Call, May, Own_ready, Own_seized, Take, Tick, With_votes, installs_in, turn}
use Rattle.cmm_attempt.specs.declared.phase.Phase.{Phase}
use Rattle.cmm_attempt.specs.declared.phase.Phase.TheVariants.{Choosing, Collecting, Installing, Over, SeizingOthers, SeizingVotes}
use Rattle.cmm_attempt.specs.declared.plan.Plan.{Plan}
use Rattle.cmm_attempt.specs.declared.promised.Promised.{Promised}
use Rattle.cmm_attempt.specs.declared.seizing.Seizing.{Seizing}
use Rattle.device_machine.proofs.Invariant.{Inv}
use Rattle.device_machine.specs.Attempt.{Attempt, collecting}
use Rattle.device_machine.specs.Initiator.{Initiator, first_initiator, no_past}
use Rattle.device_machine.specs.Sharing as event
use Rattle.device_machine.specs.Sharing.{Allowed, Event, Sharing, after, at_attempt}
use Rattle.machine_base.proofs.Puts.{put_here, same_or_not}
use Rattle.refinement.proofs.Worlds.{all_found}
use Rattle.wire.specs.declared.message.Body.{Body}
use Rattle.wire.specs.declared.message.Body.TheVariants as body
use Rattle.wire.specs.declared.message.Install.{Install}
use Rattle.run_seizings.proofs.Progress.{not_same, same_is}
use Rattle.run_devices.specs.valid.Engaged.{Engaged}
use Rattle.run_devices.proofs.valid.Machine.{last}
use Rattle.run_devices.specs.installs.Shown.{EndedAs, EntryShown, Shown}
use Rattle.run_devices.proofs.installs.Turns.{before_seizing, none_choosing, none_collecting}

-- ---- nodes that have ended as the lines show it

-- one that has ended all its seizings: that for e held, or not registered
abbrev pub ended_node : ℕ → ℕ → Bool → Initiator
ended_node high e held =
    record (first_initiator false) {
      promised = high;
      past = record no_past { ended = λ q. true; seized = λ q. held || not (q == e); unregistered = λ q. not held || not (q == e) };
    }

abbrev pub ended_nodes : Shown → ℕ → ℕ → ℕ → ℕ → Initiator
ended_nodes K high e d m = ended_node high e (is_some (K m e d))

-- the machine of the device, with these nodes
abbrev pub with_ended : Shown → ℕ → ℕ → ℕ → Sharing → Sharing
with_ended K high e d s = record s { node = ended_nodes K high e d }

or_true : (b : Bool) → (b || true) ≡ true
or_true true = refl
or_true false = refl

-- a node ended so, where the lines show it
ended_so : (K : Shown) (high e d m : ℕ) (s : Sharing) (r : SeizeResult) → s.node ≡ ended_nodes K high e d → EndedAs K e d m r → EndedSo s e m r
ended_so K high e d m s (end.Held keys) nodes is = (
  ap (λ (f : ℕ → Initiator). (f m).past.ended e) nodes,
  ap (λ (f : ℕ → Initiator). (f m).past.seized e) nodes ∙ ap (λ o. is_some o || not (e == e)) is,
)
ended_so K high e d m s (end.NotRegistered keys) nodes is = (
  ap (λ (f : ℕ → Initiator). (f m).past.ended e) nodes,
  ap (λ (f : ℕ → Initiator). (f m).past.unregistered e) nodes ∙ ap (λ o. not (is_some o) || not (e == e)) is,
)
ended_so K high e d m s (end.Greater w) nodes is = (ap (λ (f : ℕ → Initiator). (f m).past.ended e) nodes, tt)
ended_so K high e d m s end.Expelled nodes is = (ap (λ (f : ℕ → Initiator). (f m).past.ended e) nodes, tt)
ended_so K high e d m s (end.Contended key) nodes is = (ap (λ (f : ℕ → Initiator). (f m).past.ended e) nodes, tt)
ended_so K high e d m s end.Fault nodes is = (ap (λ (f : ℕ → Initiator). (f m).past.ended e) nodes, tt)

-- .. and for each other attempt in each way
ended_other : (K : Shown) (high e d m q : ℕ) (s : Sharing) (r : SeizeResult) → s.node ≡ ended_nodes K high e d → q ≢ e → EndedSo s q m r
ended_other K high e d m q s r nodes ne = by_result r
  where
    other : (b : Bool) → (b || not (q == e)) ≡ true
    other b = ap (λ t. b || not t) (not_same q e ne) ∙ or_true b

    ended : (s.node m).past.ended q ≡ true
    ended = ap (λ (f : ℕ → Initiator). (f m).past.ended q) nodes

    by_result : (r : SeizeResult) → EndedSo s q m r
    by_result (end.Held keys) = (ended, ap (λ (f : ℕ → Initiator). (f m).past.seized q) nodes ∙ other (is_some (K m e d)))
    by_result (end.NotRegistered keys) = (ended, ap (λ (f : ℕ → Initiator). (f m).past.unregistered q) nodes ∙ other (not (is_some (K m e d))))
    by_result (end.Greater w) = (ended, tt)
    by_result end.Expelled = (ended, tt)
    by_result (end.Contended key) = (ended, tt)
    by_result end.Fault = (ended, tt)

-- ---- what a call tells

-- the number of a Promise
abbrev pub promise_in : Body → ℕ
promise_in (body.Promise epoch installed members valid flagged committed pending) = epoch
promise_in _ = 0

abbrev pub IsLow : ℕ → Call → Type 0
IsLow high (Take from m) = promise_in m.body ≤ high
IsLow high _ = Unit {0}

told_body : (K : Shown) (high e d from : ℕ) (s : Sharing) (b : Body) → s.node ≡ ended_nodes K high e d → promise_in b ≤ high
    → ((j : ℕ) (r : SeizeResult) → b ≡ body.Seized e j r → EndedAs K e j from r) → TellsAt s d from b
told_body K high e d from s (body.Promise epoch installed members valid flagged committed pending) nodes low tells =
    subst (λ (f : ℕ → Initiator). epoch ≤ (f from).promised) (sym nodes) low
told_body K high e d from s (body.Seized q j r) nodes low tells = λ at. by_epoch at (same_or_not q e)
  where
    by_epoch : j ≡ d → (q ≡ e) ⊎ (q ≢ e) → EndedSo s q from r
    by_epoch at (inl same) =
        subst (λ z. EndedSo s z from r) (sym same)
        (ended_so K high e d from s r nodes (subst (λ z. EndedAs K e z from r) at (tells j r (ap (λ z. body.Seized z j r) same))))
    by_epoch at (inr ne) = ended_other K high e d from q s r nodes ne
told_body K high e d from s (body.Heartbeat promised session is_one) nodes low tells = tt
told_body K high e d from s (body.Collect p members) nodes low tells = tt
told_body K high e d from s (body.Nack p promised) nodes low tells = tt
told_body K high e d from s (body.SeizeQuorum p members j) nodes low tells = tt
told_body K high e d from s (body.SeizeData p members j) nodes low tells = tt
told_body K high e d from s (body.Install i) nodes low tells = tt
told_body K high e d from s (body.Ready p joined report) nodes low tells = tt
told_body K high e d from s (body.Start p) nodes low tells = tt
told_body K high e d from s (body.Prepare p place text) nodes low tells = tt
told_body K high e d from s (body.Prepared p place) nodes low tells = tt
told_body K high e d from s (body.Commit p place) nodes low tells = tt
told_body K high e d from s (body.Order o) nodes low tells = tt
told_body K high e d from s (body.Done p number outcome) nodes low tells = tt
told_body K high e d from s (body.Request p number text) nodes low tells = tt
told_body K high e d from s (body.Answer p number text) nodes low tells = tt
told_body K high e d from s (body.Excluded p newest) nodes low tells = tt

-- what a call tells of a seizing is so
abbrev pub TellsSo : Shown → AttemptState → Call → Type 0
TellsSo K a c = (d from : ℕ) (r : SeizeResult) → TellsResult c a d from r → EndedAs K a.plan.epoch d from r

told_at : (K : Shown) (high d : ℕ) (s : Sharing) (a : AttemptState) (c : Call) → s.node ≡ ended_nodes K high a.plan.epoch d → IsLow high c → TellsSo K a c → IsToldAt s a d c
told_at K high d s a (Take from m) nodes low tells = told_body K high a.plan.epoch d from s m.body nodes low (λ j r is. tells j from r (refl, is))
told_at K high d s a (Own_seized j r) nodes low tells = λ at.
    ended_so K high a.plan.epoch d a.plan.coordinator s r nodes
    (subst (λ z. EndedAs K a.plan.epoch z a.plan.coordinator r) at (tells j a.plan.coordinator r (refl, refl, refl)))
told_at K high d s a (With_votes votes) nodes low tells = tt
told_at K high d s a Own_ready nodes low tells = tt
told_at K high d s a Tick nodes low tells = tt

-- ---- whoever seized the device was asked, and last

abbrev pub AskedSo : Shown → ℕ → ℕ → Sharing → Type 0
AskedSo K e d t = (k : ℕ) (keys : List ℕ) → K k e d ≡ Some keys → ((t.attempt e).asking ≡ true) × ((t.attempt e).asked k ≡ true) × ((t.attempt e).seizer ≡ k)

-- the machine of the device has the attempt, with such nodes
pub record Sought (K : Shown) (high e d : ℕ) (a : AttemptState) : Type 0 where
  pub state : Sharing
  pub nodes : state.node ≡ ended_nodes K high e d
  pub has : DeviceHas state a d
  pub asked : AskedSo K e d state

no_truth : false ≡ true → ⊥
no_truth is = cc

abbrev Kept : Shown → ℕ → ℕ → ℕ → Sharing → Type 0
Kept K high e d t = (t.node ≡ ended_nodes K high e d) × AskedSo K e d t

one_keeps : (K : Shown) (high e d : ℕ) (all : ℕ → Bool) (x : Event) (t : Sharing) → IsAsking e all x → Allowed t x → Kept K high e d t → Kept K high e d (after t x)
one_keeps K high e d all (event.Collected p members) t is may k = (
  k.0,
  subst (λ z. AskedSo K e d (at_attempt t z (collecting (t.attempt z) members))) (sym is.0)
      (λ j keys seized.
      subst (λ (b : Attempt). (b.asking ≡ true) × (b.asked j ≡ true) × (b.seizer ≡ j)) (sym (put_here t.attempt e (collecting (t.attempt e) members))) (k.1 j keys seized)),
)
one_keeps K high e d all (event.Ask p n quorum) t is may k = (k.0, λ j keys seized. absurd (none j keys seized may.4))
  where
    none : (j : ℕ) (keys : List ℕ) → K j e d ≡ Some keys
        → ((t.attempt p).asking ≡ false) ⊎ (((t.node (t.attempt p).seizer).past.unregistered p ≡ true) × ((t.attempt p).quorum ≡ quorum)) → ⊥
    none j keys seized (inl unasked) = no_truth (sym unasked ∙ (ap (λ z. (t.attempt z).asking) is ∙ (k.1 j keys seized).0))
    none j keys seized (inr un) =
        no_truth (sym (ap (λ o. not (is_some o) || not (e == e)) seized ∙ ap not (same_is e))
        ∙ (sym (ap (λ (f : ℕ → Initiator). (f j).past.unregistered e) k.0)
        ∙ subst (λ z. (t.node z).past.unregistered e ≡ true) (k.1 j keys seized).2 (subst (λ z. (t.node (t.attempt z).seizer).past.unregistered z ≡ true) is un.0)))
one_keeps K high e d all _ t is may k = absurd is

asks_keep : (K : Shown) (high e d : ℕ) (all : ℕ → Bool) (xs : List Event) (t : Sharing) → All (IsAsking e all) xs → MayCome t xs → Kept K high e d t → Kept K high e d (all_after t xs)
asks_keep K high e d all [] t is may k = k
asks_keep K high e d all (x ∷ xs) t is may k =
    asks_keep K high e d all xs (after t x) (All-tail (IsAsking e all) x xs is) may.1
    (one_keeps K high e d all x t (All-head (IsAsking e all) x xs is) may.0 k)

-- ---- a call

turned : (K : Shown) (high d : ℕ) (a : AttemptState) (c : Call) → May a c → IsLow high c → TellsSo K a c → (s : Sought K high a.plan.epoch d a)
    → Moves s.state a.plan.epoch (is_member a.plan.members) d (turn a c)
turned K high d a c may low tells s =
    calls_move s.state (is_member a.plan.members) a c d s.has may (told_at K high d s.state a c s.nodes low tells) (λ n. refl)

pub goes_on : (K : Shown) (high d : ℕ) (a : AttemptState) (c : Call) → May a c → IsLow high c → TellsSo K a c → installs_in (turn a c).steps ≡ None
    → Sought K high a.plan.epoch d a → Sought K high a.plan.epoch d (turn a c).after
goes_on K high d a c may low tells none s =
    let m : Moves s.state a.plan.epoch (is_member a.plan.members) d (turn a c) = turned K high d a c may low tells s in
    let k : Kept K high a.plan.epoch d (all_after s.state m.events) = asks_keep K high a.plan.epoch d (is_member a.plan.members) m.events s.state m.asking m.allowed (s.nodes, s.asked) in
    record {
      state = all_after s.state m.events;
      nodes = k.0;
      has = subst (λ o. CountsAt (all_after s.state m.events) (turn a c).after d o) none m.counts;
      asked = k.1;
    }

-- the one that is asked last to seize device d
pub record SeizedBy (a : AttemptState) (d k : ℕ) : Type 0 where
  pub entry : Seizing
  pub there : entry_of a.devices d ≡ Some entry
  pub seizer : entry.seizer ≡ Some k

entry_seized : (K : Shown) (e d k : ℕ) (keys : List ℕ) (t : Sharing) (a : AttemptState) (o : Option Seizing) → AskedSo K e d t → K k e d ≡ Some keys → entry_of a.devices d ≡ o
    → HasEntry t e o → SeizedBy a d k
entry_seized K e d k keys t a None asked seized there has = absurd (no_truth (sym (has.asked k) ∙ (asked k keys seized).1))
entry_seized K e d k keys t a (Some x) asked seized there has = by_seizer x.seizer refl has
  where
    by_seizer : (o : Option ℕ) → x.seizer ≡ o → AskedBy t e x o → SeizedBy a d k
    by_seizer None is h = absurd (no_truth (sym (h.0.asked k) ∙ (asked k keys seized).1))
    by_seizer (Some m) is h = record { entry = x; there = there; seizer = is ∙ ap Some (sym h.seizer ∙ (asked k keys seized).2) }

pub installs_seized : (K : Shown) (high d k : ℕ) (keys : List ℕ) (a : AttemptState) (c : Call) (i : Install) → a.plan.epoch ≡ (turn a c).after.plan.epoch → May a c → IsLow high c → TellsSo K a c
    → installs_in (turn a c).steps ≡ Some i → Sought K high a.plan.epoch d a → K k a.plan.epoch d ≡ Some keys → SeizedBy (turn a c).after d k
installs_seized K high d k keys a c i plan may low tells some s seized =
    let m : Moves s.state a.plan.epoch (is_member a.plan.members) d (turn a c) = turned K high d a c may low tells s in
    let j : Kept K high a.plan.epoch d (all_after s.state m.events) = asks_keep K high a.plan.epoch d (is_member a.plan.members) m.events s.state m.asking m.allowed (s.nodes, s.asked) in
    let counts : CountsAt (all_after s.state m.events) (turn a c).after d (Some i) = subst (λ o. CountsAt (all_after s.state m.events) (turn a c).after d o) some m.counts in
    entry_seized K a.plan.epoch d k keys (all_after s.state m.events) (turn a c).after (entry_of (turn a c).after.devices d) j.1 seized refl
    (subst (λ e. HasEntry (all_after s.state m.events) e (entry_of (turn a c).after.devices d)) (sym plan) counts.2)

-- ---- where the whole machine has it

pub found_is : {X : Type 0} (f : X → Bool) (xs : List X) (x : X) → find f xs ≡ Some x → f x ≡ true
found_is f [] x is = absurd (none_some x is)
found_is f (y ∷ ys) x is = by_test (f y) refl is (λ rest. found_is f ys x rest)
  where
    by_test : (b : Bool) → f y ≡ b → (if b then Some y else find f ys) ≡ Some x → (find f ys ≡ Some x → f x ≡ true) → f x ≡ true
    by_test true at here rest = subst (λ z. f z ≡ true) (same_some y x here) at
    by_test false at there rest = rest there

entry_has : (K : Shown) (high e d : ℕ) (s : Sharing) (o : Option Seizing) → ((x : Seizing) → o ≡ Some x → (x.attached.device ≡ d) × EntryShown K e x) → HasEntry s e o
    → HasEntry (with_ended K high e d s) e o
entry_has K high e d s None shown h = record { asking = h.asking; asked = h.asked }
entry_has K high e d s (Some x) shown h = by_seizer x.seizer refl h
  where
    t : Sharing
    t = with_ended K high e d s

    ended : (m : ℕ) (r : Option SeizeResult) → x.seizer ≡ Some m → x.result ≡ r → asking.EndedAs t e m r
    ended m None seizer is = tt
    ended m (Some r) seizer is =
        ended_so K high e d m t r refl (subst (λ z. EndedAs K e z m r) (shown x refl).0 ((shown x refl).1 m r seizer is))

    by_seizer : (o : Option ℕ) → x.seizer ≡ o → AskedBy s e x o → AskedBy t e x o
    by_seizer None is k = (record { asking = k.0.asking; asked = k.0.asked }, k.1)
    by_seizer (Some m) is k = record { asking = k.asking; seizer = k.seizer; kind = k.kind; asked = k.asked; before = k.before; ended = ended m x.result is refl }

in_phase : (K : Shown) (high e d : ℕ) (s : Sharing) (plan : Plan) (promises : List Promised) (devices : List Seizing) (phase : Phase) → plan.epoch ≡ e → IsSeizing phase
    → ((x : Seizing) → entry_of devices d ≡ Some x → (x.attached.device ≡ d) × EntryShown K e x) → HasIn s plan promises devices d phase
    → HasIn (with_ended K high e d s) plan promises devices d phase
in_phase K high e d s plan promises devices SeizingVotes at is shown h = (h.0, at_epoch h.1)
  where
    at_epoch : HasEntry s plan.epoch (entry_of devices d) → HasEntry (with_ended K high e d s) plan.epoch (entry_of devices d)
    at_epoch = subst (λ q. HasEntry s q (entry_of devices d) → HasEntry (with_ended K high e d s) q (entry_of devices d)) (sym at) (entry_has K high e d s (entry_of devices d) shown)
in_phase K high e d s plan promises devices SeizingOthers at is shown h = (h.0, at_epoch h.1)
  where
    at_epoch : HasEntry s plan.epoch (entry_of devices d) → HasEntry (with_ended K high e d s) plan.epoch (entry_of devices d)
    at_epoch = subst (λ q. HasEntry s q (entry_of devices d) → HasEntry (with_ended K high e d s) q (entry_of devices d)) (sym at) (entry_has K high e d s (entry_of devices d) shown)
in_phase K high e d s plan promises devices Installing at is shown h = absurd (before_seizing Installing is)
in_phase K high e d s plan promises devices Over at is shown h = absurd (before_seizing Over is)
in_phase K high e d s plan promises devices Collecting at is shown h = absurd (none_collecting is)
in_phase K high e d s plan promises devices Choosing at is shown h = absurd (none_choosing is)

pub begins : (K : Shown) (high d : ℕ) (s : Sharing) (a : AttemptState) → Inv s → IsSeizing a.phase → AllByRecursion (EntryShown K a.plan.epoch) a.devices
    → ((k : ℕ) (keys : List ℕ) → K k a.plan.epoch d ≡ Some keys → Engaged s k a.plan.epoch) → DeviceHas s a d → Sought K high a.plan.epoch d a
begins K high d s a i is shown engaged has = record {
  state = with_ended K high a.plan.epoch d s;
  nodes = refl;
  has = record {
    nodes = has.nodes;
    attached = has.attached;
    apart = has.apart;
    has = in_phase K high a.plan.epoch d s a.plan a.promises a.devices a.phase refl is
        (λ x there. (
          same_number x.attached.device d (found_is (λ (e : Seizing). e.attached.device == d) a.devices x there),
          all_found (EntryShown K a.plan.epoch) (λ (e : Seizing). e.attached.device == d) a.devices x shown there,
        )) has.has;
  };
  asked = λ k keys seized.
      let g : Engaged s k a.plan.epoch = engaged k keys seized in
      ((i.attempt a.plan.epoch).asking k g.asked, g.asked, sym (last s k a.plan.epoch i g));
}
