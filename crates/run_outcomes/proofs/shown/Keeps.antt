-- What is kept of a node as letters are sent that are not its own.
use Rattle.std.specs.Prelude.{ℕ, ◌%◌, ◌≡◌, ◌≢◌, ◌⊎◌, true, List, [], ◌∷◌, None, Option, Some}
use Rattle.std.specs.List.{AllByRecursion}
use Rattle.std.proofs.Common.{inl, inr}
use Rattle.attempt_laws.specs.Staying.{IsBefore}
use Rattle.cl_base.specs.Sets.{has}
use Rattle.cmm_attempt.specs.Attempts.{AttemptState, Turn}
use Rattle.cmm_attempt.specs.declared.promised.Promised.{Promised}
use Rattle.cmm_member.specs.Records.{NodeRecord}
use Rattle.machine_base.proofs.Puts.{same_or_not}
use Rattle.node_model.specs.Seats.{promised_of, session_of}
use Rattle.node_model.specs.declared.node.Node.{Node}
use Rattle.node_model.specs.declared.node.Node.TheVariants.{Down, Up}
use Rattle.node_model.specs.declared.node.UpNode.{UpNode}
use Rattle.refinement.specs.Doings.{Site}
use Rattle.refinement.specs.Runs.{Letter}
use Rattle.run_history.specs.Guards.{Hand}
use Rattle.run_outcomes.specs.tasks.Shown.{AsksData, AsksQuorum, AttemptIn, AttemptSo, FollowsSo, GivenSo, HandIn, HasShown, InRange, Installs, IsPlainTo, IsVoteTo, SiteSo, TakenSo, TurnSo, UpIn, UpSo}
use Rattle.run_outcomes.proofs.shown.Letters.{IsLess, IsMore, data_less, data_more, installs_less, installs_more, quorum_less, shown_less, shown_more}

-- There may be more Promises of others for the attempts of node k, which show no device as valid that earlier ones do not.
pub record KeepsTaken (k : ℕ) (L M : List Letter) : Type 0 where
  pub more : IsMore L M
  pub taken : (j e v : ℕ) → e % 64 ≡ k → j ≢ k → HasShown M j e v
      → HasShown L j e v ⊎ ((w d : ℕ) → InRange d → HasShown L j e w → has v d ≡ true → (has w d ≡ true) ⊎ Installs M e)

-- to node k all but these is as it was
pub record KeepsFor (k : ℕ) (L M : List Letter) : Type 0 where
  pub base : KeepsTaken k L M
  pub shown : (e v : ℕ) → HasShown M k e v → HasShown L k e v
  pub asked_data : (e d : ℕ) → e % 64 ≡ k → AsksData M e d → AsksData L e d
  pub quorum : (e d : ℕ) → e % 64 ≡ k → AsksQuorum M e d → AsksQuorum L e d
  pub installs : (e : ℕ) → e % 64 ≡ k → Installs M e → Installs L e

pub keeps_self : (k : ℕ) (L : List Letter) → KeepsFor k L L
keeps_self k L = record {
  base = record { more = λ from b h. h; taken = λ j e v own ne h. inl h };
  shown = λ e v h. h;
  asked_data = λ e d own h. h;
  quorum = λ e d own h. h;
  installs = λ e own h. h;
}

taken_then : (k : ℕ) (L M N : List Letter) → KeepsTaken k L M → KeepsTaken k M N → KeepsTaken k L N
taken_then k L M N f g = record { more = λ from b h. g.more from b (f.more from b h); taken = λ j e v own ne h. by_last j e v own ne (g.taken j e v own ne h) }
  where
    or_more : (e w d : ℕ) → (has w d ≡ true) ⊎ Installs M e → (has w d ≡ true) ⊎ Installs N e
    or_more e w d (inl h) = inl h
    or_more e w d (inr h) = inr (installs_more M N e g.more h)

    by_first : (j e v : ℕ) → HasShown L j e v ⊎ ((w d : ℕ) → InRange d → HasShown L j e w → has v d ≡ true → (has w d ≡ true) ⊎ Installs M e)
        → HasShown L j e v ⊎ ((w d : ℕ) → InRange d → HasShown L j e w → has v d ≡ true → (has w d ≡ true) ⊎ Installs N e)
    by_first j e v (inl h) = inl h
    by_first j e v (inr h) = inr (λ w d range was shows. or_more e w d (h w d range was shows))

    by_last : (j e v : ℕ) → e % 64 ≡ k → j ≢ k → HasShown M j e v ⊎ ((w d : ℕ) → InRange d → HasShown M j e w → has v d ≡ true → (has w d ≡ true) ⊎ Installs N e)
        → HasShown L j e v ⊎ ((w d : ℕ) → InRange d → HasShown L j e w → has v d ≡ true → (has w d ≡ true) ⊎ Installs N e)
    by_last j e v own ne (inl h) = by_first j e v (f.taken j e v own ne h)
    by_last j e v own ne (inr h) = inr (λ w d range was shows. h w d range (shown_more L M j e w f.more was) shows)

pub keeps_then : (k : ℕ) (L M N : List Letter) → KeepsFor k L M → KeepsFor k M N → KeepsFor k L N
keeps_then k L M N f g = record {
  base = taken_then k L M N f.base g.base;
  shown = λ e v h. f.shown e v (g.shown e v h);
  asked_data = λ e d own h. f.asked_data e d own (g.asked_data e d own h);
  quorum = λ e d own h. f.quorum e d own (g.quorum e d own h);
  installs = λ e own h. f.installs e own (g.installs e own h);
}

-- letters that tell nothing of these
pub keeps_aside : (k : ℕ) (L M : List Letter) → IsMore L M → IsLess M L → KeepsFor k L M
keeps_aside k L M f g = record {
  base = record { more = f; taken = λ j e v own ne h. inl (shown_less M L j e v g h) };
  shown = λ e v h. shown_less M L k e v g h;
  asked_data = λ e d own h. data_less M L e d g h;
  quorum = λ e d own h. quorum_less M L e d g h;
  installs = λ e own h. installs_less M L e g h;
}

-- ---- its attempt

taken_keeps : (k e : ℕ) (L M : List Letter) (p : Promised) → KeepsTaken k L M → e % 64 ≡ k → TakenSo L k e p → TakenSo M k e p
taken_keeps k e L M p f own (inl h) = inl h
taken_keeps k e L M p f own (inr h) = by_node (same_or_not p.shown.summary.node k)
  where
    or_more : (d : ℕ) → (has p.shown.valid d ≡ true) ⊎ Installs L e → (has p.shown.valid d ≡ true) ⊎ Installs M e
    or_more d (inl z) = inl z
    or_more d (inr z) = inr (installs_more L M e f.more z)

    by_new : (v d : ℕ) → InRange d → HasShown L p.shown.summary.node e v ⊎ ((w q : ℕ) → InRange q → HasShown L p.shown.summary.node e w → has v q ≡ true → (has w q ≡ true) ⊎ Installs M e) → has v d ≡ true
        → (has p.shown.valid d ≡ true) ⊎ Installs M e
    by_new v d range (inl z) shows = or_more d (h.1 v d range z shows)
    by_new v d range (inr z) shows = z p.shown.valid d range h.0 shows

    by_node : (p.shown.summary.node ≡ k) ⊎ (p.shown.summary.node ≢ k) → TakenSo M k e p
    by_node (inl is) = inl is
    by_node (inr ne) = inr (shown_more L M p.shown.summary.node e p.shown.valid f.more h.0, (λ v d range new shows. by_new v d range (f.taken p.shown.summary.node e v own ne new) shows))

pub takens_keep : (k e : ℕ) (L M : List Letter) (ps : List Promised) → KeepsTaken k L M → e % 64 ≡ k → AllByRecursion (TakenSo L k e) ps → AllByRecursion (TakenSo M k e) ps
takens_keep k e L M [] f own h = tt
takens_keep k e L M (p ∷ ps) f own h = (taken_keeps k e L M p f own h.0, takens_keep k e L M ps f own h.1)

pub attempt_with : (k q : ℕ) (L M : List Letter) (a : AttemptState) → KeepsTaken k L M → ((d : ℕ) → AsksData M a.plan.epoch d → IsPlainTo a d) → ((d : ℕ) → AsksQuorum M a.plan.epoch d → IsVoteTo a d)
    → (Installs M a.plan.epoch → IsBefore a.phase → ⊥) → AttemptSo L k q a → AttemptSo M k q a
attempt_with k q L M a f asked_data quorum before h = record {
  reached = h.reached;
  epoch = h.epoch;
  some = h.some;
  own = h.own;
  coordinator = h.coordinator;
  promises = takens_keep k a.plan.epoch L M a.promises f h.own h.promises;
  asked_data = asked_data;
  quorum = quorum;
  before = before;
}

attempt_keeps : (k q : ℕ) (L M : List Letter) (a : AttemptState) → KeepsFor k L M → AttemptSo L k q a → AttemptSo M k q a
attempt_keeps k q L M a f h =
    attempt_with k q L M a f.base (λ d z. h.asked_data d (f.asked_data a.plan.epoch d h.own z)) (λ d z. h.quorum d (f.quorum a.plan.epoch d h.own z)) (λ z b. h.before (f.installs a.plan.epoch h.own z) b) h

in_keeps : (k q : ℕ) (L M : List Letter) (o : Option AttemptState) → KeepsFor k L M → AttemptIn L k q o → AttemptIn M k q o
in_keeps k q L M None f h = tt
in_keeps k q L M (Some a) f h = attempt_keeps k q L M a f h

-- ---- the node

follows_keep : (k : ℕ) (L M : List Letter) (x : UpNode) → KeepsFor k L M → FollowsSo L k x → FollowsSo M k x
follows_keep k L M x f h = record {
  shown = λ v d range z. h.shown v d range (f.shown (session_of x) v z);
  held = λ v d range z. h.held v d range (f.shown (session_of x) v z);
  plain = λ d z. data_more L M (session_of x) d f.base.more (h.plain d z);
  fit = h.fit;
}

pub up_keeps : (k : ℕ) (L M : List Letter) (x : UpNode) → KeepsFor k L M → UpSo L k x → UpSo M k x
up_keeps k L M x f h = record {
  session = h.session;
  follows = λ g. follows_keep k L M x f (h.follows g);
  installed = λ some other is. installs_more L M (session_of x) f.base.more (h.installed some other is);
  attempt = in_keeps k (session_of x) L M x.attempt f h.attempt;
}

node_keeps : (k : ℕ) (L M : List Letter) (disk : NodeRecord) (node : Node) → KeepsFor k L M → UpIn L k disk node → UpIn M k disk node
node_keeps k L M disk Down f h = tt
node_keeps k L M disk (Up x) f h = (h.0, up_keeps k L M x f h.1)

pub site_keeps : (k : ℕ) (L M : List Letter) (x : Site) → KeepsFor k L M → SiteSo L k x → SiteSo M k x
site_keeps k L M x f h = record {
  order = h.order;
  shown = λ e v z. h.shown e v (f.shown e v z);
  asked_data = λ e d own z. h.asked_data e d own (f.asked_data e d own z);
  quorum = λ e d own z. h.quorum e d own (f.quorum e d own z);
  installs = λ e own z. h.installs e own (f.installs e own z);
  up = node_keeps k L M x.disk x.node f h.up;
}

-- ---- the steps in hand

given_more : (L M : List Letter) (n e : ℕ) (p : Promised) → IsMore L M → GivenSo L n e p → GivenSo M n e p
given_more L M n e p f (inl h) = inl h
given_more L M n e p f (inr h) = inr (shown_more L M p.shown.summary.node e p.shown.valid f h)

pub givens_more : (L M : List Letter) (n e : ℕ) (ps : List Promised) → IsMore L M → AllByRecursion (GivenSo L n e) ps → AllByRecursion (GivenSo M n e) ps
givens_more L M n e [] f h = tt
givens_more L M n e (p ∷ ps) f h = (given_more L M n e p f h.0, givens_more L M n e ps f h.1)

pub turn_with : (k promised : ℕ) (L M : List Letter) (o : Option AttemptState) (u : Turn) → IsMore L M → ((d : ℕ) → AsksData M u.after.plan.epoch d → IsPlainTo u.after d)
    → ((d : ℕ) → AsksQuorum M u.after.plan.epoch d → IsVoteTo u.after d) → TurnSo L k promised o u → TurnSo M k promised o u
turn_with k promised L M o u f asked_data quorum h = record {
  low = h.low;
  some = h.some;
  own = h.own;
  coordinator = h.coordinator;
  promises = givens_more L M k u.after.plan.epoch u.after.promises f h.promises;
  asked_data = asked_data;
  quorum = quorum;
  steps = h.steps;
  agrees = h.agrees;
}

turn_keeps : (k promised : ℕ) (L M : List Letter) (o : Option AttemptState) (u : Turn) → KeepsFor k L M → TurnSo L k promised o u → TurnSo M k promised o u
turn_keeps k promised L M o u f h =
    turn_with k promised L M o u f.base.more (λ d z. h.asked_data d (f.asked_data u.after.plan.epoch d h.own z)) (λ d z. h.quorum d (f.quorum u.after.plan.epoch d h.own z)) h

pub hand_keeps : (k : ℕ) (L M : List Letter) (disk : NodeRecord) (node : Node) (g : Hand) → KeepsFor k L M → HandIn L k disk node g → HandIn M k disk node g
hand_keeps k L M disk node None f h = tt
hand_keeps k L M disk Down (Some u) f h = turn_keeps k disk.promised L M None u f h
hand_keeps k L M disk (Up x) (Some u) f h = turn_keeps k (promised_of x) L M x.attempt u f h

-- a Promise that was taken was given
pub given_of : (L : List Letter) (n e : ℕ) (ps : List Promised) → AllByRecursion (TakenSo L n e) ps → AllByRecursion (GivenSo L n e) ps
given_of L n e [] h = tt
given_of L n e (p ∷ ps) h = (one h.0, given_of L n e ps h.1)
  where
    one : TakenSo L n e p → GivenSo L n e p
    one (inl z) = inl z
    one (inr z) = inr z.0
