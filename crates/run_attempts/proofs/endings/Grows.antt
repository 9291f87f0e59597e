-- What is told of attempts, stops and boots stays as more is told.
use Rattle.std.specs.Prelude.{ℕ, ◌<◌, ◌≡◌, ◌≢◌, ◌≤◌, ◌⊎◌, ◌||◌, Bool, true, false, List, [], ◌∷◌, if◌then◌else◌, ◌==◌, ◌++◌, nat_lt}
use Rattle.std.specs.List.{AllByRecursion, list_any}
use Rattle.std.proofs.Common.{refl, sym, ap, subst, ◌∙◌, arith, inl, inr}
use Rattle.cmm_attempt.proofs.Basics.{false_true, less, same_number}
use Rattle.cmm_attempt.specs.Attempts.{AttemptState}
use Rattle.cmm_attempt.specs.declared.promised.Promised.{Promised}
use Rattle.history.specs.Attempts.{stops_of}
use Rattle.history.specs.Contact.{IsNew}
use Rattle.history.specs.Letters.{Letter, arriving, passes, reached_since}
use Rattle.history.specs.Member.{members_of}
use Rattle.history.specs.Moment.{Moment, Told}
use Rattle.history.specs.Records.{promise_among, promises}
use Rattle.history.specs.Trace.{attempt}
use Rattle.history.specs.Order.{since}
use Rattle.history.specs.Seizing.{is_attempt, is_boot}
use Rattle.history.specs.Setting.{coordinator}
use Rattle.node_model.specs.Seats.{promised_of}
use Rattle.node_model.specs.declared.node.Node.{Node}
use Rattle.node_model.specs.declared.node.Node.TheVariants.{Down, Up}
use Rattle.node_model.specs.declared.node.UpNode.{UpNode}
use Rattle.refinement.specs.Doings.{Site}
use Rattle.refinement.specs.Ties.{Delivered}
use Rattle.status_report.specs.declared.attempt_entry.AttemptEntry.TheVariants as attempt_entry
use Rattle.status_report.specs.declared.entry.Entry.TheVariants as entry
use Rattle.std.specs.Prelude.{Option, None, Some}
use Rattle.wire.specs.declared.message.Body.{Body}
use Rattle.wire.specs.declared.message.Body.TheVariants as body
use Rattle.run_history.proofs.Idle.{if_false}
use Rattle.run_messages.specs.records.Kept.{HeardFrom, IsHad, has_told, shows_from}
use Rattle.run_attempts.specs.endings.Laws.{epoch_at, epoch_of}
use Rattle.run_attempts.specs.endings.Nacks.{BodySo, HasBooted, HasStopped, IsMade, IsMadeBy, IsTried}
use Rattle.run_attempts.specs.endings.Sites.{AttemptIn, AttemptSo, HandSo, SiteSo, UpIn, UpSo}
use Rattle.run_attempts.specs.endings.Ways.{IsOwn, way_of}
use Rattle.run_attempts.proofs.endings.Ways.{or_second}

-- ---- where no attempt begins

pub record Stays (before after : List Moment) : Type 0 where
  pub tried : (e : ℕ) → IsTried before e → IsTried after e
  pub stopped : (k : ℕ) → HasStopped before k → HasStopped after k
  pub booted : (k e : ℕ) → HasBooted before k e → HasBooted after k e
  pub near : (e : ℕ) (test : Letter → Bool) → reached_since (is_attempt e) test before ≡ true → reached_since (is_attempt e) test after ≡ true
  pub members : (e : ℕ) → members_of e after ≡ members_of e before
  pub told : (e k : ℕ) → has_told e k before ≡ true → has_told e k after ≡ true

pub stays_self : (ms : List Moment) → Stays ms ms
stays_self ms = record { tried = λ e h. h; stopped = λ k h. h; booted = λ k e h. h; near = λ e test h. h; members = λ e. refl; told = λ e k h. h }

pub stays_then : (first second third : List Moment) → Stays first second → Stays second third → Stays first third
stays_then first second third h i = record {
  tried = λ e k. i.tried e (h.tried e k);
  stopped = λ j k. i.stopped j (h.stopped j k);
  booted = λ j e k. i.booted j e (h.booted j e k);
  near = λ e test k. i.near e test (h.near e test k);
  members = λ e. i.members e ∙ h.members e;
  told = λ e j k. i.told e j (h.told e j k);
}

pub booted_more : (k e : ℕ) (x : Moment) (ms : List Moment) → is_attempt e x ≡ false → HasBooted ms k e → HasBooted (x ∷ ms) k e
booted_more k e x ms none h =
    subst (λ t. list_any (is_boot k) (if t then [] else x ∷ since (is_attempt e) ms) ≡ true) (sym none) (or_second (is_boot k x) (list_any (is_boot k) (since (is_attempt e) ms)) h)

near_more : (e : ℕ) (test : Letter → Bool) (x : Moment) (ms : List Moment) → is_attempt e x ≡ false → reached_since (is_attempt e) test ms ≡ true → reached_since (is_attempt e) test (x ∷ ms) ≡ true
near_more e test x ms none h =
    subst (λ t. (if t then false else (passes test (arriving ms x) || reached_since (is_attempt e) test ms)) ≡ true) (sym none)
    (or_second (passes test (arriving ms x)) (reached_since (is_attempt e) test ms) h)

members_more : (e : ℕ) (x : Moment) (ms : List Moment) → is_attempt e x ≡ false → members_of e (x ∷ ms) ≡ members_of e ms
members_more e (attempt f members) ms none = if_false (f == e) members (members_of e ms) none
members_more e _ ms none = refl

any_later : {X : Type 0} (test : X → Bool) (xs ys : List X) → list_any test ys ≡ true → list_any test (xs ++ ys) ≡ true
any_later test [] ys h = h
any_later test (x ∷ xs) ys h = or_second (test x) (list_any test (xs ++ ys)) (any_later test xs ys h)

told_more : (e k : ℕ) (x : Moment) (ms : List Moment) → is_attempt e x ≡ false → has_told e k ms ≡ true → has_told e k (x ∷ ms) ≡ true
told_more e k x ms none h =
    subst (λ t. list_any (shows_from k) (if t then [] else promise_among e (arriving ms x) ++ promises e ms) ≡ true) (sym none) (any_later (shows_from k) (promise_among e (arriving ms x)) (promises e ms) h)

pub stays_one : (x : Moment) (ms : List Moment) → ((e : ℕ) → is_attempt e x ≡ false) → Stays ms (x ∷ ms)
stays_one x ms none = record {
  tried = λ e h. or_second (is_attempt e x) (list_any (is_attempt e) ms) h;
  stopped = λ k h. or_second (stops_of k x) (list_any (stops_of k) ms) h;
  booted = λ k e h. booted_more k e x ms (none e) h;
  near = λ e test h. near_more e test x ms (none e) h;
  members = λ e. members_more e x ms (none e);
  told = λ e k h. told_more e k x ms (none e) h;
}

-- ---- where one of node n may begin

pub record Grows (n : ℕ) (before after : List Moment) : Type 0 where
  pub tried : (e : ℕ) → IsTried before e → IsTried after e
  pub stopped : (k : ℕ) → HasStopped before k → HasStopped after k
  pub booted : (k e : ℕ) → IsTried before e ⊎ (coordinator e ≢ n) → HasBooted before k e → HasBooted after k e
  pub members : (e : ℕ) → IsTried before e ⊎ (coordinator e ≢ n) → members_of e after ≡ members_of e before
  pub told : (e k : ℕ) → IsTried before e ⊎ (coordinator e ≢ n) → has_told e k before ≡ true → has_told e k after ≡ true

pub grows_then : (n : ℕ) (first second third : List Moment) → Grows n first second → Grows n second third → Grows n first third
grows_then n first second third h i = record {
  tried = λ e k. i.tried e (h.tried e k);
  stopped = λ j k. i.stopped j (h.stopped j k);
  booted = λ j e side k. i.booted j e (still e side) (h.booted j e side k);
  members = λ e side. i.members e (still e side) ∙ h.members e side;
  told = λ e j side k. i.told e j (still e side) (h.told e j side k);
}
  where
    still : (e : ℕ) → IsTried first e ⊎ (coordinator e ≢ n) → IsTried second e ⊎ (coordinator e ≢ n)
    still e (inl t) = inl (h.tried e t)
    still e (inr ne) = inr ne

pub stays_grow : (n : ℕ) (before after : List Moment) → Stays before after → Grows n before after
stays_grow n before after h = record { tried = h.tried; stopped = h.stopped; booted = λ k e side b. h.booted k e b; members = λ e side. h.members e; told = λ e k side t. h.told e k t }

pub grows_self : (n : ℕ) (ms : List Moment) → Grows n ms ms
grows_self n ms = stays_grow n ms ms (stays_self ms)

new_number : (n e f : ℕ) (ms : List Moment) → list_any (is_attempt f) ms ≡ false → coordinator f ≡ n → IsTried ms e ⊎ (coordinator e ≢ n) → (f == e) ≡ false
new_number n e f ms new own side = by_test (f == e) refl
  where
    by_side : f ≡ e → IsTried ms e ⊎ (coordinator e ≢ n) → ⊥
    by_side same (inl tried) = false_true (sym new ∙ subst (λ k. list_any (is_attempt k) ms ≡ true) (sym same) tried)
    by_side same (inr ne) = ne (ap coordinator (sym same) ∙ own)

    by_test : (t : Bool) → (f == e) ≡ t → t ≡ false
    by_test true is = absurd (by_side (same_number f e is) side)
    by_test false is = refl

pub grows_begun : (n f members : ℕ) (ms : List Moment) → IsNew ms (Told (entry.Attempt (attempt_entry.Begun f members))) → coordinator f ≡ n
    → Grows n ms (Told (entry.Attempt (attempt_entry.Begun f members)) ∷ ms)
grows_begun n f members ms new own =
    let x : Moment = Told (entry.Attempt (attempt_entry.Begun f members)) in
    record {
      tried = λ e h. or_second (is_attempt e x) (list_any (is_attempt e) ms) h;
      stopped = λ k h. h;
      booted = λ k e side h. booted_more k e x ms (new_number n e f ms new own side) h;
      members = λ e side. members_more e x ms (new_number n e f ms new own side);
      told = λ e k side h. told_more e k x ms (new_number n e f ms new own side) h;
    }

-- ---- what rests on it

pub made_by : (before after : List Moment) (n q : ℕ) → (IsTried before q → IsTried after q) → (HasStopped before n → HasStopped after n) → IsMadeBy before n q → IsMadeBy after n q
made_by before after n q tried stopped h some = by_side (h some)
  where
    by_side : IsTried before q ⊎ ((coordinator q ≡ n) × HasStopped before n) → IsTried after q ⊎ ((coordinator q ≡ n) × HasStopped after n)
    by_side (inl t) = inl (tried t)
    by_side (inr s) = inr (s.0, stopped s.1)

pub made_grows : (n k q : ℕ) (before after : List Moment) → Grows n before after → IsMadeBy before k q → IsMadeBy after k q
made_grows n k q before after g h = made_by before after k q (g.tried q) (g.stopped k) h

pub is_made : (before after : List Moment) (q : ℕ) → (IsTried before q → IsTried after q) → (HasStopped before (coordinator q) → HasStopped after (coordinator q)) → IsMade before q → IsMade after q
is_made before after q tried halted (inl t) = inl (tried t)
is_made before after q tried halted (inr s) = inr (halted s)

pub body_grows : (n k : ℕ) (before after : List Moment) (b : Body) → Grows n before after → BodySo before k b → BodySo after k b
body_grows n k before after (body.Nack e q) g h = record {
  tried = g.tried e h.tried;
  most = h.most;
  made = λ some. is_made before after q (g.tried q) (g.stopped (coordinator q)) (h.made some);
  booted = λ same. g.booted k e (inl h.tried) (h.booted same);
}
body_grows n k before after (body.Collect e members) g h = (h.0, g.tried e h.1)
body_grows n k before after (body.Install i) g h = (h.0, g.tried i.epoch h.1)
body_grows n k before after _ g h = tt

had_stays : (before after : List Moment) (n from : ℕ) (b : Body) → Stays before after → IsHad before n from b → IsHad after n from b
had_stays before after n from (body.Promise e newest members valid flagged committed pending) s h = λ own. s.told e from (h own)
had_stays before after n from _ s h = tt

pub hand_stays : (before after : List Moment) (n : ℕ) (told : Delivered) → Stays before after → HandSo before n told → HandSo after n told
hand_stays before after n None s h = tt
hand_stays before after n (Some d) s h = record {
  letter = h.letter;
  read = h.read;
  called = h.called;
  sender = h.sender;
  receiver = h.receiver;
  numbered = h.numbered;
  near = λ e test is. s.near e test (h.near e test is);
  had = had_stays before after n d.0 d.1.body s h.had;
  stands = body_grows 0 d.0 before after d.1.body (stays_grow 0 before after s) h.stands;
}

heard_by : (before after : List Moment) (n e k : ℕ) → (has_told e k before ≡ true → has_told e k after ≡ true) → HeardFrom before n e k → HeardFrom after n e k
heard_by before after n e k told (inl own) = inl own
heard_by before after n e k told (inr h) = inr (told h)

all_heard : (before after : List Moment) (n e : ℕ) (ps : List Promised) → ((k : ℕ) → has_told e k before ≡ true → has_told e k after ≡ true) → AllByRecursion (λ p. HeardFrom before n e p.shown.summary.node) ps
    → AllByRecursion (λ p. HeardFrom after n e p.shown.summary.node) ps
all_heard before after n e [] told h = tt
all_heard before after n e (p ∷ ps) told h = (heard_by before after n e p.shown.summary.node (told p.shown.summary.node) h.0, all_heard before after n e ps told h.1)

has_by : (before after : List Moment) (n : ℕ) (o : Option AttemptState)
    → ((a : AttemptState) → o ≡ Some a → (members_of a.plan.epoch after ≡ members_of a.plan.epoch before) × ((k : ℕ) → has_told a.plan.epoch k before ≡ true → has_told a.plan.epoch k after ≡ true)) → AttemptIn before n o → AttemptIn after n o
has_by before after n None f h = tt
has_by before after n (Some a) f h =
    let same : (members_of a.plan.epoch after ≡ members_of a.plan.epoch before) × ((k : ℕ) → has_told a.plan.epoch k before ≡ true → has_told a.plan.epoch k after ≡ true) = f a refl in
    record { reached = h.reached; members = same.0 ∙ h.members; heard = all_heard before after n a.plan.epoch a.promises same.1 h.heard }

none_or_some : (q : ℕ) → (q ≡ 0) ⊎ (0 < q)
none_or_some q = by_test (nat_lt 0 q) refl
  where
    none : (k : ℕ) → nat_lt 0 k ≡ false → k ≡ 0
    none k h = grind arith

    by_test : (t : Bool) → nat_lt 0 q ≡ t → (q ≡ 0) ⊎ (0 < q)
    by_test true is = inr (less 0 q is)
    by_test false is = inl (none q is)

no_node : (q n : ℕ) → 1 ≤ n → q ≡ 0 → coordinator q ≡ n → ⊥
no_node q n low none is = grind arith

-- another node's
up_grows : (n k : ℕ) (before after : List Moment) (x : UpNode) → 1 ≤ n → k ≢ n → Grows n before after → UpSo before k x → UpSo after k x
up_grows n k before after x low ne g h = record {
  made = made_grows n k (promised_of x) before after g h.made;
  life = λ other. g.booted k (promised_of x) (by_number (none_or_some (promised_of x))) (h.life other);
  attempt = h.attempt;
  has_so = has_by before after k x.attempt (λ a is. (g.members a.plan.epoch (inr (foreign a is)), λ j told. g.told a.plan.epoch j (inr (foreign a is)) told)) h.has_so;
}
  where
    foreign : (a : AttemptState) → x.attempt ≡ Some a → coordinator a.plan.epoch ≢ n
    foreign a is own = ne (sym (subst (AttemptSo k (promised_of x)) (ap epoch_of is) h.attempt).0 ∙ own)

    by_made : IsTried before (promised_of x) ⊎ ((coordinator (promised_of x) ≡ k) × HasStopped before k) → IsTried before (promised_of x) ⊎ (coordinator (promised_of x) ≢ n)
    by_made (inl t) = inl t
    by_made (inr s) = inr (λ own. ne (sym s.0 ∙ own))

    by_number : (promised_of x ≡ 0) ⊎ (0 < promised_of x) → IsTried before (promised_of x) ⊎ (coordinator (promised_of x) ≢ n)
    by_number (inl none) = inr (λ own. no_node (promised_of x) n low none own)
    by_number (inr some) = by_made (h.made some)

node_grows : (n k : ℕ) (before after : List Moment) (node : Node) → 1 ≤ n → k ≢ n → Grows n before after → UpIn before k node → UpIn after k node
node_grows n k before after Down low ne g h = tt
node_grows n k before after (Up x) low ne g h = up_grows n k before after x low ne g h

own_by : (k : ℕ) (promised : ℕ) (o : Option ℕ) → AttemptSo k promised o → IsOwn k o
own_by k promised None h = tt
own_by k promised (Some e) h = h.0

own_at : (k : ℕ) (ms : List Moment) (node : Node) → UpIn ms k node → IsOwn k (epoch_at node)
own_at k ms Down h = tt
own_at k ms (Up x) h = own_by k (promised_of x) (epoch_of x.attempt) h.attempt

pub site_own : (k : ℕ) (ms : List Moment) (x : Site) → SiteSo ms k x → IsOwn k (way_of k ms)
site_own k ms x h = subst (IsOwn k) (sym h.way) (own_at k ms x.node h.up)

pub site_grows : (n k : ℕ) (before after : List Moment) (x : Site) → 1 ≤ n → k ≢ n → Grows n before after → (IsOwn k (way_of k before) → way_of k after ≡ way_of k before) → SiteSo before k x → SiteSo after k x
site_grows n k before after x low ne g ways h = record {
  way = ways (site_own k before x h) ∙ h.way;
  disk = made_grows n k x.disk.promised before after g h.disk;
  up = node_grows n k before after x.node low ne g h.up;
}

-- a node's own, while no attempt begins
pub up_stays : (n : ℕ) (before after : List Moment) (x : UpNode) → Stays before after → UpSo before n x → UpSo after n x
up_stays n before after x s h = record {
  made = made_by before after n (promised_of x) (s.tried (promised_of x)) (s.stopped n) h.made;
  life = λ other. s.booted n (promised_of x) (h.life other);
  attempt = h.attempt;
  has_so = has_by before after n x.attempt (λ a is. (s.members a.plan.epoch, λ j told. s.told a.plan.epoch j told)) h.has_so;
}

pub node_stays : (n : ℕ) (before after : List Moment) (node : Node) → Stays before after → UpIn before n node → UpIn after n node
node_stays n before after Down s h = tt
node_stays n before after (Up x) s h = up_stays n before after x s h

pub sends_stay : (n : ℕ) (before after : List Moment) → Stays before after → (b : Body) → BodySo before n b → BodySo after n b
sends_stay n before after s b h = body_grows 0 n before after b (stays_grow 0 before after s) h
