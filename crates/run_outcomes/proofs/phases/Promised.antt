-- In each run the lines tell which Promises an attempt has taken, and whether it still collects.
use Rattle.std.specs.Prelude.{All, ℕ, ◌==◌, ◌&&◌, ◌||◌, ◌≡◌, ◌⊎◌, not, Bool, true, false, List, [], ◌∷◌, Option, Some, filter, if◌then◌else◌}
use Rattle.std.specs.List.{list_all, list_any}
use Rattle.std.proofs.Common.{arith, refl, sym, ap, subst, ◌∙◌, inl, inr}
use Rattle.std.proofs.lemmas.List.Elements.{All-head, All-tail}
use Rattle.attempt_laws.proofs.MachineLemmas.{of_all}
use Rattle.attempt_laws.proofs.Told.{is_among}
use Rattle.attempt_laws.specs.Machine.{MachineHas}
use Rattle.attempt_laws.specs.Waiting.{HasCoordinator}
use Rattle.cl_base.specs.declared.header.Header.{Header}
use Rattle.cmm_attempt.proofs.Basics.{and_cases, false_true, none_some, or_cases, same_number}
use Rattle.cmm_attempt.specs.Attempts.{AttemptState, is_over}
use Rattle.cmm_attempt.specs.Calls.{IsReached as Calls_reached}
use Rattle.cmm_attempt.specs.Promises.{has_promised}
use Rattle.cmm_attempt.specs.declared.phase.Phase.{Phase}
use Rattle.cmm_attempt.specs.declared.phase.Phase.TheVariants.{Choosing, Collecting, Installing, Over, SeizingOthers, SeizingVotes}
use Rattle.cmm_attempt.specs.declared.promised.Promised.{Promised}
use Rattle.cmm_member.specs.Nodes.{NodeState}
use Rattle.cmm_member.specs.Records.{NodeRecord}
use Rattle.history.specs.Contact.{others}
use Rattle.history.specs.Letters.{Letter}
use Rattle.history.specs.Member.{members_of}
use Rattle.history.specs.Moment.{Moment}
use Rattle.history.specs.Queue as told
use Rattle.history.specs.Records.{promises}
use Rattle.history.specs.Setting.{coordinator, nodes_of}
use Rattle.membership_machine.specs.State.{Memberships}
use Rattle.node_model.specs.Seats.{record_of}
use Rattle.node_model.specs.declared.cluster.Cluster.{Cluster}
use Rattle.node_model.specs.declared.node.Node.{Node}
use Rattle.node_model.specs.declared.node.Node.TheVariants.{Down, Up}
use Rattle.node_model.specs.declared.node.UpNode.{UpNode}
use Rattle.node_model.specs.declared.seat.Seat.{Seat}
use Rattle.node_model.specs.declared.seat.Seat.TheVariants.{Forming, Member}
use Rattle.refinement.specs.Guards.{OfUp}
use Rattle.refinement.specs.Ties.{AttemptTied, Coordinates, NodeTied, SeatTied}
use Rattle.run_history.specs.Happenings.{all_happened}
use Rattle.run_history.specs.Noted as noted
use Rattle.run_history.specs.Scenes.{Scene, first_scene}
use Rattle.run_messages.proofs.Reaching.{IsReached, IsSmall}
use Rattle.run_messages.specs.records.Kept.{AttemptIn, AttemptKept, HeardFrom, KnownScene, NodeKept, shows_from}
use Rattle.run_outcomes.specs.saves.Kept.{IsAt}
use Rattle.world_model.specs.First.{first_cluster}
use Rattle.run_outcomes.specs.phases.Kept.{OfEachLive, In, IsMember, Takes}
use Rattle.run_outcomes.specs.phases.Laws.{HasAttempt, PromisesTold, has_gathered, is_other}
use Rattle.run_outcomes.proofs.phases.Gathering.{collecting_lacks, past_all}
use Rattle.run_outcomes.proofs.phases.Leading.{Has}
use Rattle.run_outcomes.proofs.phases.Own.{HasOwn, run_own}
use Rattle.run_outcomes.proofs.phases.Runs.{knows_at, run_takes}

-- ---- lists

or_first : (a b : Bool) → a ≡ true → (a || b) ≡ true
or_first true b h = refl
or_first false b h = absurd (false_true h)

or_second : (a b : Bool) → b ≡ true → (a || b) ≡ true
or_second true b h = refl
or_second false b h = h

both : (a b : Bool) → a ≡ true → b ≡ true → (a && b) ≡ true
both true b h k = k
both false b h k = absurd (false_true h)

from_shown : (k : ℕ) (ls : List Letter) → list_any (shows_from k) ls ≡ true → list_any (λ (l : Letter). l.from == k) ls ≡ true
from_shown k [] h = absurd (false_true h)
from_shown k (l ∷ ls) h = by_cases (λ there. from_shown k ls there) (or_cases (shows_from k l) (list_any (shows_from k) ls) h)
  where
    by_cases : (list_any (shows_from k) ls ≡ true → list_any (λ (z : Letter). z.from == k) ls ≡ true) → (shows_from k l ≡ true) ⊎ (list_any (shows_from k) ls ≡ true) → ((l.from == k) || list_any (λ (z : Letter). z.from == k) ls) ≡ true
    by_cases rest (inl here) = or_first (l.from == k) _ (and_cases (l.from == k) _ here).0
    by_cases rest (inr there) = or_second (l.from == k) _ (rest there)

member_heard : (ms : List Moment) (n e k : ℕ) (ps : List Promised) → All (λ p. HeardFrom ms n e p.shown.summary.node) ps → has_promised ps k ≡ true → HeardFrom ms n e k
member_heard ms n e k [] h is = absurd (false_true is)
member_heard ms n e k (p ∷ ps) h is = by_cases (λ there. member_heard ms n e k ps (All-tail (λ q. HeardFrom ms n e q.shown.summary.node) p ps h) there) (or_cases (p.shown.summary.node == k) (has_promised ps k) is)
  where
    by_cases : (has_promised ps k ≡ true → HeardFrom ms n e k) → ((p.shown.summary.node == k) ≡ true) ⊎ (has_promised ps k ≡ true) → HeardFrom ms n e k
    by_cases rest (inl here) = subst (HeardFrom ms n e) (same_number p.shown.summary.node k here) (All-head (λ q. HeardFrom ms n e q.shown.summary.node) p ps h)
    by_cases rest (inr there) = rest there

is_not : (a b : ℕ) → not (a == b) ≡ true → a ≡ b → ⊥
is_not a b h e = grind arith

pub in_filter : (c m : ℕ) (ns : List ℕ) → list_any (λ k. k == m) (filter (λ j. not (j == c)) ns) ≡ true → (list_any (λ k. k == m) ns ≡ true) × (not (m == c) ≡ true)
in_filter c m [] h = absurd (false_true h)
in_filter c m (n ∷ ns) h = by_test (not (n == c)) refl (λ there. in_filter c m ns there) h
  where
    here_so : (n == m) ≡ true → not (n == c) ≡ true → not (m == c) ≡ true
    here_so is other = subst (λ k. not (k == c) ≡ true) (same_number n m is) other

    later : ((list_any (λ k. k == m) ns ≡ true) × (not (m == c) ≡ true)) → (list_any (λ k. k == m) (n ∷ ns) ≡ true) × (not (m == c) ≡ true)
    later p = (or_second (n == m) (list_any (λ k. k == m) ns) p.0, p.1)

    by_cases : not (n == c) ≡ true → (list_any (λ k. k == m) (filter (λ j. not (j == c)) ns) ≡ true → (list_any (λ k. k == m) ns ≡ true) × (not (m == c) ≡ true))
        → ((n == m) ≡ true) ⊎ (list_any (λ k. k == m) (filter (λ j. not (j == c)) ns) ≡ true) → (list_any (λ k. k == m) (n ∷ ns) ≡ true) × (not (m == c) ≡ true)
    by_cases other rest (inl here) = (or_first (n == m) (list_any (λ k. k == m) ns) here, here_so here other)
    by_cases other rest (inr there) = later (rest there)

    by_test : (b : Bool) → not (n == c) ≡ b → (list_any (λ k. k == m) (filter (λ j. not (j == c)) ns) ≡ true → (list_any (λ k. k == m) ns ≡ true) × (not (m == c) ≡ true))
        → list_any (λ k. k == m) (if b then n ∷ filter (λ j. not (j == c)) ns else filter (λ j. not (j == c)) ns) ≡ true → (list_any (λ k. k == m) (n ∷ ns) ≡ true) × (not (m == c) ≡ true)
    by_test true other rest is = by_cases other rest (or_cases (n == m) _ is)
    by_test false own rest is = later (rest is)

-- the test holds of all but c, where it holds of each of them
all_but : (test : ℕ → Bool) (c : ℕ) (ns : List ℕ) → ((m : ℕ) → not (m == c) ≡ true → list_any (λ k. k == m) ns ≡ true → test m ≡ true) → list_all test (filter (λ j. not (j == c)) ns) ≡ true
all_but test c [] f = refl
all_but test c (n ∷ ns) f = by_test (not (n == c)) refl (all_but test c ns (λ m other is. f m other (or_second (n == m) (list_any (λ k. k == m) ns) is)))
  where
    itself : ((n == n) || list_any (λ k. k == n) ns) ≡ true
    itself = grind arith

    by_test : (b : Bool) → not (n == c) ≡ b → list_all test (filter (λ j. not (j == c)) ns) ≡ true → list_all test (if b then n ∷ filter (λ j. not (j == c)) ns else filter (λ j. not (j == c)) ns) ≡ true
    by_test true other rest = both (test n) _ (f n other itself) rest
    by_test false own rest = rest

-- two tests that agree on each of them
same_but : (P Q : ℕ → Bool) (c : ℕ) (ns : List ℕ) → ((m : ℕ) → not (m == c) ≡ true → list_any (λ k. k == m) ns ≡ true → P m ≡ Q m) → list_all P (filter (λ j. not (j == c)) ns) ≡ list_all Q (filter (λ j. not (j == c)) ns)
same_but P Q c [] f = refl
same_but P Q c (n ∷ ns) f = by_test (not (n == c)) refl (same_but P Q c ns (λ m other is. f m other (or_second (n == m) (list_any (λ k. k == m) ns) is)))
  where
    itself : ((n == n) || list_any (λ k. k == n) ns) ≡ true
    itself = grind arith

    by_test : (b : Bool) → not (n == c) ≡ b → list_all P (filter (λ j. not (j == c)) ns) ≡ list_all Q (filter (λ j. not (j == c)) ns)
        → list_all P (if b then n ∷ filter (λ j. not (j == c)) ns else filter (λ j. not (j == c)) ns) ≡ list_all Q (if b then n ∷ filter (λ j. not (j == c)) ns else filter (λ j. not (j == c)) ns)
    by_test true other rest = ap (λ t. t && list_all P (filter (λ j. not (j == c)) ns)) (f n other itself) ∙ ap (λ t. Q n && t) rest
    by_test false own rest = rest

-- .. of all, where it holds of c too
all_with : (test : ℕ → Bool) (c : ℕ) (ns : List ℕ) → test c ≡ true → list_all test (filter (λ j. not (j == c)) ns) ≡ true → list_all test ns ≡ true
all_with test c [] own h = refl
all_with test c (n ∷ ns) own h = by_test (not (n == c)) refl (λ rest. all_with test c ns own rest) h
  where
    same : not (n == c) ≡ false → n ≡ c
    same h = grind arith

    by_test : (b : Bool) → not (n == c) ≡ b → (list_all test (filter (λ j. not (j == c)) ns) ≡ true → list_all test ns ≡ true) → list_all test (if b then n ∷ filter (λ j. not (j == c)) ns else filter (λ j. not (j == c)) ns) ≡ true → (test n && list_all test ns) ≡ true
    by_test true other rest is = both (test n) (list_all test ns) (and_cases (test n) _ is).0 (rest (and_cases (test n) _ is).1)
    by_test false at rest is = both (test n) (list_all test ns) (subst (λ k. test k ≡ true) (sym (same at)) own) (rest is)

-- ---- what is known of an attempt

pub record Facts (ms : List Moment) (n : ℕ) (a : AttemptState) : Type 0 where
  pub own : coordinator a.plan.epoch ≡ n
  pub coordinates : a.plan.coordinator ≡ n
  pub reached : Calls_reached a
  pub has : HasCoordinator a
  pub members : members_of a.plan.epoch ms ≡ a.plan.members
  pub nodes : nodes_of (members_of a.plan.epoch ms) ≡ a.plan.nodes
  pub heard : All (λ p. HeardFrom ms n a.plan.epoch p.shown.summary.node) a.promises
  pub takes : Takes ms a
  pub own_promise : HasOwn a

heard_promised : (ms : List Moment) (n e k c : ℕ) → coordinator e ≡ n → c ≡ n → not (k == c) ≡ true → HeardFrom ms n e k → told.has_promised e ms k ≡ true
heard_promised ms n e k c own same other (inl here) = absurd (is_not k c other (here ∙ sym same))
heard_promised ms n e k c own same other (inr come) = from_shown k (promises e ms) come

by_phase : (P : Type 0) (p : Phase) → is_over p ≡ false → (p ≡ Collecting → P) → (has_gathered p ≡ true → P) → P
by_phase P Collecting live f g = f refl
by_phase P Choosing live f g = g refl
by_phase P SeizingVotes live f g = g refl
by_phase P SeizingOthers live f g = g refl
by_phase P Installing live f g = g refl
by_phase P Over live f g = absurd (false_true (sym live))

same_truth : (a b : Bool) → (a ≡ true → b ≡ true) → (b ≡ true → a ≡ true) → a ≡ b
same_truth true b f g = sym (f refl)
same_truth false true f g = g refl
same_truth false false f g = refl

told_so : (ms : List Moment) (n : ℕ) (a : AttemptState) → Facts ms n a → is_over a.phase ≡ false → (m : ℕ) → not (m == a.plan.coordinator) ≡ true → IsMember a m → told.has_promised a.plan.epoch ms m ≡ has_promised a.promises m
told_so ms n a f live m other member =
    same_truth (told.has_promised a.plan.epoch ms m) (has_promised a.promises m)
    (λ due. by_phase (has_promised a.promises m ≡ true) a.phase live (λ at. f.takes at m member due) (λ left. of_all (has_promised a.promises) m a.plan.nodes (past_all a f.reached left live) member))
    (λ is. heard_promised ms n a.plan.epoch m a.plan.coordinator f.own f.coordinates other (member_heard ms n a.plan.epoch m a.promises f.heard is))

pub others_so : (ms : List Moment) (n : ℕ) (a : AttemptState) → Facts ms n a → others a.plan.epoch (members_of a.plan.epoch ms) ≡ filter (λ j. not (j == a.plan.coordinator)) a.plan.nodes
others_so ms n a f = ap (λ ns. filter (λ j. not (j == coordinator a.plan.epoch)) ns) f.nodes ∙ ap (λ k. filter (λ j. not (j == k)) a.plan.nodes) (f.own ∙ sym f.coordinates)

taken_so : (ms : List Moment) (n : ℕ) (a : AttemptState) → Facts ms n a → is_over a.phase ≡ false → (m : ℕ) → is_other a ms m ≡ true → told.has_promised a.plan.epoch ms m ≡ has_promised a.promises m
taken_so ms n a f live m is =
    let both_so : (list_any (λ k. k == m) a.plan.nodes ≡ true) × (not (m == a.plan.coordinator) ≡ true) =
    in_filter a.plan.coordinator m a.plan.nodes (subst (λ ns. list_any (λ k. k == m) ns ≡ true) (others_so ms n a f) is) in
    told_so ms n a f live m both_so.1 both_so.0

phase_so : (ms : List Moment) (n : ℕ) (a : AttemptState) → Facts ms n a → is_over a.phase ≡ false → told.all_promised a.plan.epoch ms ≡ has_gathered a.phase
phase_so ms n a f live = ap (list_all (told.has_promised a.plan.epoch ms)) (others_so ms n a f) ∙ by_phase (list_all P (filter but a.plan.nodes) ≡ has_gathered a.phase) a.phase live collecting gathered
  where
    P : ℕ → Bool
    P m = told.has_promised a.plan.epoch ms m

    but : ℕ → Bool
    but j = not (j == a.plan.coordinator)

    collecting : a.phase ≡ Collecting → list_all P (filter but a.plan.nodes) ≡ has_gathered a.phase
    collecting at = by_value (list_all P (filter but a.plan.nodes)) refl ∙ sym (ap has_gathered at)
      where
        Q : ℕ → Bool
        Q = has_promised a.promises

        same : list_all P (filter but a.plan.nodes) ≡ list_all Q (filter but a.plan.nodes)
        same = same_but P Q a.plan.coordinator a.plan.nodes (λ m other member. told_so ms n a f live m other member)

        by_value : (b : Bool) → list_all P (filter but a.plan.nodes) ≡ b → b ≡ false
        by_value true is = absurd (false_true (sym (collecting_lacks a f.reached f.has at) ∙ all_with Q a.plan.coordinator a.plan.nodes f.own_promise (sym same ∙ is)))
        by_value false is = refl

    gathered : has_gathered a.phase ≡ true → list_all P (filter but a.plan.nodes) ≡ has_gathered a.phase
    gathered left = all_but P a.plan.coordinator a.plan.nodes (λ m other member. told_so ms n a f live m other member ∙ of_all (has_promised a.promises) m a.plan.nodes (past_all a f.reached left live) member) ∙ sym left

-- ---- at each point of a run

pub record HasIt (node : Node) (a : AttemptState) : Type 0 where
  pub x : UpNode
  pub up : node ≡ Up x
  pub has : x.attempt ≡ Some a

pub has_it : (node : Node) (a : AttemptState) → OfUp (λ x. x.attempt ≡ Some a) node → HasIt node a
has_it Down a h = absurd h
has_it (Up x) a h = record { x = x; up = refl; has = h }

-- the machine has it
record Tied (c : Cluster) (M : Memberships) (n : ℕ) (a : AttemptState) : Type 0 where
  state : NodeState
  coordinates : Coordinates c M n state a

tied_by : (c : Cluster) (M : Memberships) (n : ℕ) (disk : NodeRecord) (a : AttemptState) (o : Option AttemptState) (seat : Seat) → SeatTied c M n disk o seat → o ≡ Some a → Tied c M n a
tied_by c M n disk a o (Forming s) tied has = record { state = s; coordinates = subst (AttemptTied c M n s) has tied.2 }
tied_by c M n disk a o (Member s) tied has = absurd (none_some a (sym tied.2 ∙ has))

-- what is known of the attempt that a node has at a point of a run
pub facts : (h : Header) (cells : ℕ) (s : Scene) → IsSmall h → IsReached h cells s → (n : ℕ) (a : AttemptState) → HasAttempt s n a → (Takes s.moments a) → HasOwn a → Facts s.moments n a
facts h cells s size r n a at takes own_promise =
    record {
      own = here.own;
      coordinates = tied.coordinates.coordinator;
      reached = tied.coordinates.reached;
      has = subst (λ ns. list_any (λ k. k == a.plan.coordinator) ns ≡ true) (sym machine.nodes) (is_among a.plan.members 32 a.plan.coordinator ∙ (sym (machine.members a.plan.coordinator) ∙ (ap (M.epoch a.plan.epoch).members machine.coordinator ∙ (k.stage.holds.epoch a.plan.epoch).tried_member machine.tried)));
      members = note.members;
      nodes = ap nodes_of note.members ∙ sym tied.coordinates.has.nodes;
      heard = here.heard;
      takes = takes;
      own_promise = own_promise;
    }
  where
    c : Cluster
    c = first_cluster h

    k : KnownScene c s
    k = (knows_at h cells s size r).known

    M : Memberships
    M = k.stage.machine

    it : HasIt (s.nodes.node n) a
    it = has_it (s.nodes.node n) a at

    here : AttemptKept M s.moments n (record_of it.x) a
    here = subst (AttemptIn M s.moments n (record_of it.x)) it.has (subst (NodeKept M s.moments n) it.up (k.at n).up).attempt

    note : noted.AttemptNoted s.moments n a
    note = subst (noted.AttemptIn s.moments n) it.has (subst (noted.NodeIn s.moments n) it.up (k.stage.notes n).up).attempt

    tied : Tied c M n a
    tied = tied_by c M n (s.nodes.disk n).kept a it.x.attempt it.x.seat (subst (NodeTied c M n (s.nodes.disk n).kept) it.up (k.stage.stands n).tied).0 it.has

    machine : MachineHas M a
    machine = tied.coordinates.has

pub live_are_told : OfEachLive PromisesTold
live_are_told h cells hs few small may native n a at live =
    let size : IsSmall h = record { few = few; small = small } in
    let s : Scene = all_happened (first_cluster h) (first_scene h cells) hs in
    let it : HasIt (s.nodes.node n) a = has_it (s.nodes.node n) a at in
    let own : HasOwn a = subst (In HasOwn) it.has (subst (IsAt (Has HasOwn)) it.up (run_own h cells hs few small may n)) in
    let f : Facts s.moments n a = facts h cells s size (record { happenings = hs; may = may; is = refl }) n a at (run_takes h cells hs size may native n it.x a it.up it.has) own in
    record { taken = λ m other. taken_so s.moments n a f live m other; phase = phase_so s.moments n a f live }
