-- What an attempt has stays with each call: its Promises came, and once it was given votes all have promised.
use Rattle.std.specs.Prelude.{ℕ, ◌≡◌, ◌⊎◌, ◌==◌, ◌++◌, ◌&&◌, ◌||◌, not, filter, All, Bool, true, false, List, [], ◌∷◌, Option, None, Some, is_some, if◌then◌else◌}
use Rattle.std.specs.List.{AllByRecursion, list_all, list_any}
use Rattle.std.proofs.Common.{refl, sym, ap, subst, ◌∙◌, inl, inr}
use Rattle.attempt_laws.proofs.Stays.{plan_begins, plan_stays}
use Rattle.attempt_laws.proofs.Steady.{Steady, begun_keeps, call_keeps, reached_keeps}
use Rattle.cl_base.specs.Limits.{most_nodes}
use Rattle.cl_base.specs.Numbers.{numbers_to}
use Rattle.cmm_attempt.proofs.Basics.{and_cases, false_true, none_some, or_cases, same_number, same_some}
use Rattle.cmm_attempt.specs.Attempts.{AttemptState, all_promised, beginning, first_state, is_of, promises_of}
use Rattle.cmm_attempt.specs.Calls.{Call, IsDevice, IsReached, Take, Tick, turn}
use Rattle.cmm_attempt.specs.Promises.{has_promised, promised_by, shown_by}
use Rattle.cmm_attempt.specs.declared.attached.AttachedDevice.{AttachedDevice}
use Rattle.cmm_attempt.specs.declared.phase.Phase.{Phase}
use Rattle.cmm_attempt.specs.declared.phase.Phase.TheVariants.{Collecting, Choosing, SeizingVotes, SeizingOthers, Installing, Over}
use Rattle.cmm_attempt.specs.declared.plan.Plan.{Plan}
use Rattle.cmm_attempt.specs.declared.promised.Promised.{Promised}
use Rattle.cmm_attempt.specs.declared.promised.Shown.{Shown}
use Rattle.history.specs.Letters.{Letter}
use Rattle.history.specs.Member.{members_of}
use Rattle.history.specs.Moment.{Moment}
use Rattle.history.specs.Queue as told
use Rattle.history.specs.Records.{promises}
use Rattle.history.specs.Setting.{coordinator, nodes_of}
use Rattle.node_model.specs.declared.cluster.Cluster.{Cluster}
use Rattle.refinement.proofs.Attempts.{may_be_called, reached_more}
use Rattle.refinement.specs.Guards.{MayCall}
use Rattle.refinement.specs.Ties.{Delivered}
use Rattle.run_history.proofs.Lists.{all_and}
use Rattle.run_messages.specs.records.Kept.{HeardFrom, IsHad, has_told, shows_from}
use Rattle.wire.specs.declared.message.Body.{Body}
use Rattle.wire.specs.declared.message.Body.TheVariants as body
use Rattle.wire.specs.declared.message.Message.{Message}
use Rattle.run_attempts.specs.endings.Laws.{IsMemberOf}
use Rattle.run_attempts.specs.endings.Steps.{HasMember}
use Rattle.run_attempts.specs.endings.Sites.{AttemptHas, HandSo}
use Rattle.run_attempts.proofs.endings.Ways.{itself, or_first, or_second}

-- ---- the Promises that it has taken came

abbrev Heard : List Moment → ℕ → ℕ → AttemptState → Type 0
Heard ms n e s = (s.plan.epoch ≡ e) × AllByRecursion (λ p. HeardFrom ms n e p.shown.summary.node) s.promises

-- each that this call brings
abbrev Brings : List Moment → ℕ → ℕ → Call → Type 0
Brings ms n e c = (from : ℕ) (m : Message) (p : Promised) → c ≡ Take from m → is_of e m.body ≡ true → promised_by m (shown_by from m.body) ≡ Some p → HeardFrom ms n e p.shown.summary.node

heard_steady : (ms : List Moment) (n e : ℕ) (c : Call) → Brings ms n e c → Steady c (Heard ms n e) (Heard ms n e)
heard_steady ms n e c brings = record {
  within = λ s i. i;
  ticked = λ s i. i;
  over = λ s k. k;
  promise = λ s from m p is awaited of promised i.
      (i.0, all_and (λ q. HeardFrom ms n e q.shown.summary.node) s.promises p i.1 (brings from m p is (subst (λ k. is_of k m.body ≡ true) i.0 of) promised));
  collecting = λ s is all k. k;
  no_newest = λ s is all none k. k;
  chosen = λ s newest is all some k. k;
  votes = λ s both is i. i;
  entries = λ s is k. k;
  result = λ s d from r is tells i. i;
  next = λ s d m x kind r is found i. i;
  seizing = λ s is all k. k;
  counted = λ s is h k. k;
  others = λ s is ne k. k;
  installs = λ s is k. k;
  ready = λ s from m is at of ready_body i. i;
  own = λ s is at i. i;
  installing = λ s at h k. k;
}

shown_node : (from : ℕ) (m : Message) (p : Promised) (b : Body) → promised_by m (shown_by from b) ≡ Some p → p.shown.summary.node ≡ from
shown_node from m p (body.Promise e installed members valid flagged committed pending) is = ap (λ (q : Promised). q.shown.summary.node) (sym (same_some _ p is))
shown_node from m p _ is = absurd (none_some p is)

-- the Promise that is delivered is among those that came
brought : (ms : List Moment) (n from e : ℕ) (m : Message) (p : Promised) (b : Body) → coordinator e ≡ n → IsHad ms n from b → is_of e b ≡ true → promised_by m (shown_by from b) ≡ Some p → has_told e from ms ≡ true
brought ms n from e m p (body.Promise f installed members valid flagged committed pending) own had of is =
    let same : f ≡ e = same_number f e of in
    subst (λ k. has_told k from ms ≡ true) same (had (ap coordinator same ∙ own))
brought ms n from e m p _ own had of is = absurd (none_some p is)

hand_had : (ms : List Moment) (n from : ℕ) (m : Message) (told : Delivered) → told ≡ Some (from, m) → HandSo ms n told → IsHad ms n from m.body
hand_had ms n from m told is hand = (subst (HandSo ms n) is hand).had

call_brings : (c : Cluster) (ms : List Moment) (n : ℕ) (told : Delivered) (a : AttemptState) (k : Call) → coordinator a.plan.epoch ≡ n → MayCall c told a k → HandSo ms n told → Brings ms n a.plan.epoch k
call_brings c ms n told a k own may hand from m p is of promised =
    let call : MayCall c told a (Take from m) = subst (MayCall c told a) is may in
    inr (subst (λ j. has_told a.plan.epoch j ms ≡ true) (sym (shown_node from m p m.body promised)) (brought ms n from a.plan.epoch m p m.body own (hand_had ms n from m told call.0 hand) of promised))

pub call_has : (c : Cluster) (ms : List Moment) (n : ℕ) (told : Delivered) (a : AttemptState) (k : Call) → coordinator a.plan.epoch ≡ n → MayCall c told a k → HandSo ms n told → AttemptHas ms n a → AttemptHas ms n (turn a k).after
call_has c ms n told a k own may hand h =
    let t : AttemptState = (turn a k).after in
    let plan : t.plan ≡ a.plan = plan_stays a k (may_be_called c told a k may) in
    let epoch : t.plan.epoch ≡ a.plan.epoch = ap (λ (p : Plan). p.epoch) plan in
    let heard : Heard ms n a.plan.epoch t =
    call_keeps (Heard ms n a.plan.epoch) (Heard ms n a.plan.epoch) a k (heard_steady ms n a.plan.epoch k (call_brings c ms n told a k own may hand)) (may_be_called c told a k may) (refl, h.heard) in
    record {
      reached = reached_more a k (may_be_called c told a k may) h.reached;
      members = ap (λ e. members_of e ms) epoch ∙ (h.members ∙ sym (ap (λ (p : Plan). p.members) plan));
      heard = subst (λ e. AllByRecursion (λ p. HeardFrom ms n e p.shown.summary.node) t.promises) (sym epoch) heard.1;
    }

-- ---- at its beginning

first_heard : (ms : List Moment) (n e : ℕ) (own : Message) (o : Option Shown) → ((p : Promised) → promised_by own o ≡ Some p → p.shown.summary.node ≡ n) → AllByRecursion (λ p. HeardFrom ms n e p.shown.summary.node) (promises_of (promised_by own o))
first_heard ms n e own None f = tt
first_heard ms n e own (Some shown) f = (inl (f (record { shown = shown; message = own }) refl), tt)

no_call : (ms : List Moment) (n e : ℕ) → Brings ms n e Tick
no_call ms n e from m p is of promised = absurd (no_take from m is)
  where
    no_take : (from : ℕ) (m : Message) → Tick ≡ Take from m → ⊥
    no_take from m e = cc

pub first_has : (ms : List Moment) (n p members : ℕ) (own : Message) (attached : List AttachedDevice) (cluster : ℕ) → All IsDevice attached → own.sender ≡ n → members_of p ms ≡ members → AttemptHas ms n (beginning p members own attached cluster).after
unfolding beginning
first_has ms n p members own attached cluster fits sender same =
    let first : AttemptState = first_state p members own attached cluster (promises_of (promised_by own (shown_by own.sender own.body))) in
    let t : AttemptState = (beginning p members own attached cluster).after in
    let heard : Heard ms n p t =
    begun_keeps Tick (Heard ms n p) (Heard ms n p) (heard_steady ms n p Tick (no_call ms n p)) first refl
    (refl, first_heard ms n p own (shown_by own.sender own.body) (λ q is. shown_node own.sender own q own.body is ∙ sender)) in
    record {
      reached = record { p = p; members = members; own = own; attached = attached; cluster = cluster; devices = fits; calls = []; run = refl };
      members = ap (λ e. members_of e ms) (plan_begins p members own attached cluster).of_epoch ∙ (same ∙ sym (plan_begins p members own attached cluster).of_members);
      heard = subst (λ e. AllByRecursion (λ q. HeardFrom ms n e q.shown.summary.node) t.promises) (sym heard.0) heard.1;
    }

-- ---- once it was given votes all have promised

abbrev IsChoosing : Phase → Type 0
IsChoosing Choosing = Unit {0}
IsChoosing Collecting = ⊥
IsChoosing SeizingVotes = ⊥
IsChoosing SeizingOthers = ⊥
IsChoosing Installing = ⊥
IsChoosing Over = ⊥

not_choosing : (s phase : Phase) → (IsChoosing phase → ⊥) → s ≡ phase → s ≡ Choosing → ⊥
not_choosing s phase other is choosing = other (subst IsChoosing (sym choosing ∙ is) tt)

any_first : {X : Type 0} (test : X → Bool) (xs ys : List X) → list_any test xs ≡ true → list_any test (xs ++ ys) ≡ true
any_first test [] ys h = absurd (false_true h)
any_first test (x ∷ xs) ys h = by_cases (λ there. any_first test xs ys there) (or_cases (test x) (list_any test xs) h)
  where
    by_cases : (list_any test xs ≡ true → list_any test (xs ++ ys) ≡ true) → (test x ≡ true) ⊎ (list_any test xs ≡ true) → (test x || list_any test (xs ++ ys)) ≡ true
    by_cases rest (inl here) = or_first (test x) (list_any test (xs ++ ys)) here
    by_cases rest (inr there) = or_second (test x) (list_any test (xs ++ ys)) (rest there)

and_both : (a b : Bool) → a ≡ true → b ≡ true → (a && b) ≡ true
and_both true b h k = k
and_both false b h k = absurd (false_true h)

all_more : (ps : List Promised) (p : Promised) (nodes : List ℕ) → list_all (has_promised ps) nodes ≡ true → list_all (has_promised (ps ++ p ∷ [])) nodes ≡ true
all_more ps p [] h = refl
all_more ps p (n ∷ nodes) h =
    let parts : (has_promised ps n ≡ true) × (list_all (has_promised ps) nodes ≡ true) = and_cases (has_promised ps n) (list_all (has_promised ps) nodes) h in
    and_both (has_promised (ps ++ p ∷ []) n) (list_all (has_promised (ps ++ p ∷ [])) nodes) (any_first (λ q. q.shown.summary.node == n) ps (p ∷ []) parts.0) (all_more ps p nodes parts.1)

abbrev Voted : AttemptState → Type 0
Voted s = (is_some s.votes ≡ true → all_promised s ≡ true) × (s.plan.nodes ≡ numbers_to s.plan.members most_nodes)

abbrev AtRest : AttemptState → Type 0
AtRest s = (s.phase ≡ Choosing → all_promised s ≡ true) × Voted s

voted_steady : (c : Call) → Steady c AtRest Voted
voted_steady c = record {
  within = λ s i. i.1;
  ticked = λ s i. i;
  over = λ s k. (λ at. absurd (not_choosing Over Over (λ x. x) refl at), k);
  promise = λ s from m p is awaited of promised i. (λ some. all_more s.promises p s.plan.nodes (i.1.0 some), i.1.1);
  collecting = λ s is all k. (λ at. absurd (not_choosing s.phase Collecting (λ x. x) is at), k);
  no_newest = λ s is all none k. (λ at. absurd (not_choosing s.phase Collecting (λ x. x) is at), k);
  chosen = λ s newest is all some k. (λ at. all, k);
  votes = λ s both is i. (λ some. i.0 is, i.1.1);
  entries = λ s is k. k;
  result = λ s d from r is tells i. i.1;
  next = λ s d m x kind r is found i. i;
  seizing = λ s is all k. (λ at. absurd (seizing_choosing s.phase is at), k);
  counted = λ s is h k. k;
  others = λ s is ne k. (λ at. absurd (not_choosing SeizingOthers SeizingOthers (λ x. x) refl at), k);
  installs = λ s is k. (λ at. absurd (not_choosing Installing Installing (λ x. x) refl at), k);
  ready = λ s from m is at of ready_body i. i.1;
  own = λ s is at i. i.1;
  installing = λ s is h k. (λ at. absurd (not_choosing s.phase Installing (λ x. x) is at), k);
}
  where
    seizing_choosing : (phase : Phase) → (phase ≡ SeizingVotes) ⊎ (phase ≡ SeizingOthers) → phase ≡ Choosing → ⊥
    seizing_choosing phase (inl is) at = not_choosing phase SeizingVotes (λ x. x) is at
    seizing_choosing phase (inr is) at = not_choosing phase SeizingOthers (λ x. x) is at

voted_reached : (a : AttemptState) → IsReached a → Voted a
voted_reached a r = (reached_keeps AtRest Voted voted_steady a r (λ some. absurd (false_true some), refl)).1

-- ---- and so the lines tell it

-- a member that has promised was heard
member_heard : (ms : List Moment) (n e k : ℕ) (ps : List Promised) → AllByRecursion (λ p. HeardFrom ms n e p.shown.summary.node) ps → has_promised ps k ≡ true → HeardFrom ms n e k
member_heard ms n e k [] h is = absurd (false_true is)
member_heard ms n e k (p ∷ ps) h is = by_cases (λ there. member_heard ms n e k ps h.1 there) (or_cases (p.shown.summary.node == k) (has_promised ps k) is)
  where
    by_cases : (has_promised ps k ≡ true → HeardFrom ms n e k) → ((p.shown.summary.node == k) ≡ true) ⊎ (has_promised ps k ≡ true) → HeardFrom ms n e k
    by_cases rest (inl here) = subst (HeardFrom ms n e) (same_number p.shown.summary.node k here) h.0
    by_cases rest (inr there) = rest there

from_shown : (k : ℕ) (ls : List Letter) → list_any (shows_from k) ls ≡ true → list_any (λ (l : Letter). l.from == k) ls ≡ true
from_shown k [] h = absurd (false_true h)
from_shown k (l ∷ ls) h = by_cases (λ there. from_shown k ls there) (or_cases (shows_from k l) (list_any (shows_from k) ls) h)
  where
    by_cases : (list_any (shows_from k) ls ≡ true → list_any (λ (z : Letter). z.from == k) ls ≡ true) → (shows_from k l ≡ true) ⊎ (list_any (shows_from k) ls ≡ true) → ((l.from == k) || list_any (λ (z : Letter). z.from == k) ls) ≡ true
    by_cases rest (inl here) = or_first (l.from == k) _ (and_cases (l.from == k) _ here).0
    by_cases rest (inr there) = or_second (l.from == k) _ (rest there)

heard_promised : (ms : List Moment) (n e k : ℕ) → coordinator e ≡ n → not (k == coordinator e) ≡ true → HeardFrom ms n e k → told.has_promised e ms k ≡ true
heard_promised ms n e k own other (inl same) = absurd (by_test (k == coordinator e) (itself k (coordinator e) (same ∙ sym own)) other)
  where
    by_test : (b : Bool) → b ≡ true → not b ≡ true → ⊥
    by_test true h is = false_true is
    by_test false h is = false_true h
heard_promised ms n e k own other (inr come) = from_shown k (promises e ms) come

all_filter : (f g test : ℕ → Bool) (ns : List ℕ) → ((m : ℕ) → test m ≡ true → g m ≡ true → f m ≡ true) → list_all g ns ≡ true → list_all f (filter test ns) ≡ true
all_filter f g test [] h all = refl
all_filter f g test (m ∷ ns) h all =
    let parts : (g m ≡ true) × (list_all g ns ≡ true) = and_cases (g m) (list_all g ns) all in
    by_test (h m) parts.0 (all_filter f g test ns h parts.1) (test m) refl
  where
    by_test : (test m ≡ true → g m ≡ true → f m ≡ true) → g m ≡ true → list_all f (filter test ns) ≡ true → (b : Bool) → test m ≡ b → list_all f (if b then m ∷ filter test ns else filter test ns) ≡ true
    by_test here so rest true is = and_both (f m) (list_all f (filter test ns)) (here is so) rest
    by_test here so rest false is = rest

pub member_told : (ms : List Moment) (n : ℕ) (a : AttemptState) (m : ℕ) → AttemptHas ms n a → HasMember a m → IsMemberOf a.plan.epoch m ms
member_told ms n a m h is = subst (λ ns. list_any (λ k. k == m) ns ≡ true) (sym (ap nodes_of h.members ∙ sym (voted_reached a h.reached).1)) is

pub promised_told : (ms : List Moment) (n : ℕ) (a : AttemptState) → coordinator a.plan.epoch ≡ n → AttemptHas ms n a → is_some a.votes ≡ true → told.all_promised a.plan.epoch ms ≡ true
promised_told ms n a own h some =
    let e : ℕ = a.plan.epoch in
    let voted : Voted a = voted_reached a h.reached in
    let nodes : nodes_of (members_of e ms) ≡ a.plan.nodes = ap nodes_of h.members ∙ sym voted.1 in
    subst (λ ns. list_all (told.has_promised e ms) (filter (λ m. not (m == coordinator e)) ns) ≡ true) (sym nodes)
    (all_filter (told.has_promised e ms) (has_promised a.promises) (λ m. not (m == coordinator e)) a.plan.nodes (λ m other is. heard_promised ms n e m own other (member_heard ms n e m a.promises h.heard is)) (voted.0 some))
