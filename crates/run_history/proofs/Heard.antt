-- What an attempt has of Readies came: the laws of attempts hold of a machine in which a node is ready where its Ready has come.
use Rattle.std.specs.Prelude.{ℕ, ◌≡◌, ◌≢◌, ◌<◌, ◌≤◌, ◌==◌, ◌&&◌, ◌||◌, ◌⊎◌, nat_le, not, Bool, true, false, All, List, [], ◌∷◌, ◌++◌, zero, suc, Option, None, Some, filter, if◌then◌else◌}
use Rattle.std.specs.List.{AllByRecursion, list_any}
use Rattle.std.proofs.Common.{refl, sym, ap, subst, ◌∙◌, arith, inl, inr}
use Rattle.attempt_laws.specs.Machine.{IsAnswer, IsTold, IsUncounted, MachineHas, Tells as TellsOf}
use Rattle.attempt_laws.proofs.MachineLemmas.{starts_are_ready}
use Rattle.attempt_laws.proofs.Stays.{plan_begins, plan_stays}
use Rattle.attempt_laws.proofs.Told.{calls_are_told}
use Rattle.cl_base.specs.Kinds.{kind_byte}
use Rattle.cl_base.specs.Limits.{most_nodes}
use Rattle.cl_base.specs.Numbers.{numbers_to}
use Rattle.cl_base.specs.Sets.{has}
use Rattle.cmm_attempt.specs.Attempts.{AttemptState, Turn, all_promised, beginning, begun, choosing, chosen_by, collects, first_state, promises_of, with_steps}
use Rattle.cmm_attempt.specs.Calls.{Call, May, Own_ready, Own_seized, Take, Tick, With_votes, starts_in, turn}
use Rattle.cmm_attempt.specs.Promises.{newest_shown, promised_by, shown_by}
use Rattle.cmm_attempt.specs.declared.attached.AttachedDevice.{AttachedDevice}
use Rattle.cmm_attempt.specs.declared.phase.Readied.{Readied}
use Rattle.cmm_attempt.specs.declared.promised.Shown.{Shown as ShownRecord}
use Rattle.cmm_attempt.proofs.Basics.{if_either, or_cases}
use Rattle.cmm_member.specs.Nodes.{NodeState}
use Rattle.machine_base.specs.Epochs as machine
use Rattle.membership_machine.specs.Events.{AllReady}
use Rattle.membership_machine.specs.Invariant.{Holds}
use Rattle.membership_machine.specs.State.{Memberships}
use Rattle.wire.specs.declared.message.Body.{Body}
use Rattle.wire.specs.declared.message.Body.TheVariants as body
use Rattle.wire.specs.declared.message.Message.{Message}
use Rattle.wire.specs.declared.report.Report.{Report}
use Rattle.history.specs.Contact.{IsReady, came, has_answered}
use Rattle.history.specs.Letters.{Letter, is_letter}
use Rattle.history.specs.Member.{attempt_of, members_of}
use Rattle.history.specs.Moment.{Moment}
use Rattle.history.specs.Names as name
use Rattle.history.specs.Names.{Name, kind_of, same_name}
use Rattle.history.specs.Seizing.{is_attempt}
use Rattle.history.specs.Setting.{coordinator}
use Rattle.history.specs.Trace.{attempt, start}
use Rattle.node_model.specs.declared.cluster.Cluster.{Cluster}
use Rattle.refinement.specs.Guards.{MayCall}
use Rattle.refinement.specs.Ties.{Coordinates, Delivered, Known, Seeks, setting_of}
use Rattle.refinement.proofs.Attempts.{may_be_called, seeking_not_counted}
use Rattle.refinement.proofs.Ties.{tells_of}
use Rattle.run_history.specs.Causes.{Brought, Hand}
use Rattle.run_history.specs.Noted.{AttemptNoted, is_ready_in}
use Rattle.run_history.proofs.ContactStays.{or_left, or_right}

-- under other numbers every node is ready there
abbrev pub heard : ℕ → List Moment → ℕ → Memberships → Memberships
heard n ms q M = record M { node = λ k. record (M.node k) { ready = λ p. not (p == q) || is_ready_in ms n p k } }

-- ---- tests

no_truth : false ≡ true → ⊥
no_truth e = cc

pub and_both : (a b : Bool) → a ≡ true → b ≡ true → (a && b) ≡ true
and_both true b h k = k
and_both false b h k = absurd (no_truth h)

pub is_same : (k : ℕ) → (k == k) ≡ true
is_same k = grind arith

not_same : (a b : ℕ) → (a == b) ≡ false → a ≢ b
not_same a b h = grind arith

is_number : (a b : ℕ) → (a == b) ≡ true → a ≡ b
is_number a b h = grind arith

same_so : (a b : ℕ) → a ≡ b → (a == b) ≡ true
same_so a b h = grind arith

pub same_ready : same_name name.Ready name.Ready ≡ true
same_ready = and_both (kind_byte (kind_of name.Ready) == kind_byte (kind_of name.Ready)) true (is_same (kind_byte (kind_of name.Ready))) refl

pub same_prepare : (v : ℕ) → same_name (name.Prepare v) (name.Prepare v) ≡ true
same_prepare v = and_both (kind_byte (kind_of (name.Prepare v)) == kind_byte (kind_of (name.Prepare v))) (v == v) (is_same (kind_byte (kind_of (name.Prepare v)))) (is_same v)

pub same_prepared : (v : ℕ) → same_name (name.Prepared v) (name.Prepared v) ≡ true
same_prepared v = and_both (kind_byte (kind_of (name.Prepared v)) == kind_byte (kind_of (name.Prepared v))) (v == v) (is_same (kind_byte (kind_of (name.Prepared v)))) (is_same v)

pub same_start : same_name name.Start name.Start ≡ true
same_start = and_both (kind_byte (kind_of name.Start) == kind_byte (kind_of name.Start)) true (is_same (kind_byte (kind_of name.Start))) refl

pub same_install : same_name name.Install name.Install ≡ true
same_install = and_both (kind_byte (kind_of name.Install) == kind_byte (kind_of name.Install)) true (is_same (kind_byte (kind_of name.Install))) refl

-- a letter of this name, from and to these
pub letter_so : (called : Name) (a b : ℕ) (l : Letter) → same_name called called ≡ true → l.name ≡ called → l.from ≡ a → l.to ≡ b → is_letter called a b l ≡ true
letter_so called a b l same at from to =
    and_both (same_name l.name called && (l.from == a)) (l.to == b)
    (and_both (same_name l.name called) (l.from == a) (ap (λ k. same_name k called) at ∙ same) (same_so l.from a from)) (same_so l.to b to)

-- ---- the attempt's coordinator

pub own_number : (p n : ℕ) → machine.coordinator p ≡ n → coordinator p ≡ n
unfolding machine.coordinator
own_number p n h = h

pub own_of : (c : Cluster) (M : Memberships) (n : ℕ) (s : NodeState) (a : AttemptState) → Coordinates c M n s a → coordinator a.plan.epoch ≡ n
own_of c M n s a co = own_number a.plan.epoch n (sym co.has.coordinator ∙ co.coordinator)

-- ---- a Ready has come

ready_came : (ms : List Moment) (n q from e joined : ℕ) (report : Report) → coordinator q ≡ n → Brought ms n from (body.Ready e joined report) → (not (e == q) || is_ready_in ms n e from) ≡ true
ready_came ms n q from e joined report own h = by_number (e == q) refl
  where
    by_sender : (b : Bool) → (from == n) ≡ b → e ≡ q → is_ready_in ms n e from ≡ true
    by_sender true is at = or_left (from == n) _ is
    by_sender false is at =
        let here : coordinator e ≡ n = ap coordinator at ∙ own in
        or_right (from == n) (has_answered e name.Install name.Ready from ms)
        (h.reached_so (λ l. is_letter name.Ready from (coordinator e) l && came e name.Install from l.before)
        (and_both (is_letter name.Ready from (coordinator e) h.letter) (came e name.Install from h.letter.before)
        (letter_so name.Ready from (coordinator e) h.letter same_ready h.called h.sender (h.receiver ∙ sym here))
        (h.caused (λ at_own. not_same from n is (at_own ∙ here)))))

    by_number : (b : Bool) → (e == q) ≡ b → (not b || is_ready_in ms n e from) ≡ true
    by_number false is = refl
    by_number true is = by_sender (from == n) refl (is_number e q is)

tells_heard : (ms : List Moment) (n q : ℕ) (M : Memberships) (from : ℕ) (b : Body) → coordinator q ≡ n → TellsOf M from b → Brought ms n from b → TellsOf (heard n ms q M) from b
tells_heard ms n q M from (body.Ready e joined report) own told h = ready_came ms n q from e joined report own h
tells_heard ms n q M from (body.Promise p newest members valid flagged committed pending) own told h = told
tells_heard ms n q M from (body.Heartbeat promised session is_one) own told h = tt
tells_heard ms n q M from (body.Collect p members) own told h = tt
tells_heard ms n q M from (body.Nack p promised) own told h = tt
tells_heard ms n q M from (body.SeizeQuorum p members d) own told h = tt
tells_heard ms n q M from (body.SeizeData p members d) own told h = tt
tells_heard ms n q M from (body.Seized p d outcome) own told h = tt
tells_heard ms n q M from (body.Install i) own told h = tt
tells_heard ms n q M from (body.Start p) own told h = tt
tells_heard ms n q M from (body.Prepare p place text) own told h = tt
tells_heard ms n q M from (body.Prepared p place) own told h = tt
tells_heard ms n q M from (body.Commit p place) own told h = tt
tells_heard ms n q M from (body.Order o) own told h = tt
tells_heard ms n q M from (body.Done p number outcome) own told h = tt
tells_heard ms n q M from (body.Request p number text) own told h = tt
tells_heard ms n q M from (body.Answer p number text) own told h = tt
tells_heard ms n q M from (body.Excluded p newest) own told h = tt

told_heard : (c : Cluster) (ms : List Moment) (n : ℕ) (M : Memberships) (s : NodeState) (told : Delivered) (a : AttemptState) (k : Call) → Coordinates c M n s a → Known M told → Hand ms n told → MayCall c told a k
    → IsTold (heard n ms a.plan.epoch M) a k
told_heard c ms n M s told a (Take from m) co known hand may =
    tells_heard ms n a.plan.epoch M from m.body (own_of c M n s a co) (tells_of M from m.body (subst (λ t. Known M t) may.0 known)) (subst (λ t. Hand ms n t) may.0 hand)
told_heard c ms n M s told a Own_ready co known hand may =
    or_right (not (a.plan.epoch == a.plan.epoch)) (is_ready_in ms n a.plan.epoch a.plan.coordinator) (or_left (a.plan.coordinator == n) _ (same_so a.plan.coordinator n co.coordinator))
told_heard c ms n M s told a (With_votes both) co known hand may = tt
told_heard c ms n M s told a (Own_seized d r) co known hand may = tt
told_heard c ms n M s told a Tick co known hand may = tt

-- ---- the attempt in that machine

has_heard : (c : Cluster) (ms : List Moment) (n : ℕ) (M : Memberships) (s : NodeState) (a : AttemptState) → Coordinates c M n s a → AttemptNoted ms n a → MachineHas (heard n ms a.plan.epoch M) a
has_heard c ms n M s a co h = record {
  tried = co.has.tried;
  members = co.has.members;
  nodes = co.has.nodes;
  coordinator = co.has.coordinator;
  answers = λ i d lt. one i d lt;
  ready = λ i d lt. or_right (not (a.plan.epoch == a.plan.epoch)) _ (h.readies i d lt);
  own_ready = λ own. or_right (not (a.plan.epoch == a.plan.epoch)) (is_ready_in ms n a.plan.epoch a.plan.coordinator) (or_left (a.plan.coordinator == n) _ (same_so a.plan.coordinator n co.coordinator));
}
  where
    one : All (IsAnswer (heard n ms a.plan.epoch M) a.plan.epoch a.plan.members) a.promises
    one i d lt =
        let so : IsAnswer M a.plan.epoch a.plan.members _ = co.has.answers i d lt in
        record { member = so.member; answered = so.answered; showed = so.showed; shown = so.shown }

not_true : (b : Bool) → (b ≡ true → ⊥) → b ≡ false
not_true true h = absurd (h refl)
not_true false h = refl

uncounted : (c : Cluster) (ms : List Moment) (M : Memberships) (n : ℕ) (s : NodeState) (a : AttemptState) → Holds (setting_of c) M → (M.node n).session ≡ s.session → Coordinates c M n s a
    → IsUncounted (heard n ms a.plan.epoch M) a
uncounted c ms M n s a i shows co is =
    not_true (M.epoch a.plan.epoch).counted (seeking_not_counted c M n s a i shows co (subst (Seeks (M.node n).seeking) is co.seeks))

has_turned : (c : Cluster) (ms : List Moment) (n : ℕ) (M : Memberships) (s : NodeState) (told : Delivered) (a : AttemptState) (k : Call) → Holds (setting_of c) M → (M.node n).session ≡ s.session
    → Known M told → Hand ms n told → Coordinates c M n s a → MayCall c told a k → AttemptNoted ms n a → MachineHas (heard n ms a.plan.epoch M) (turn a k).after
has_turned c ms n M s told a k i shows known hand co may h =
    calls_are_told (heard n ms a.plan.epoch M) a k (may_be_called c told a k may) (has_heard c ms n M s a co h) (uncounted c ms M n s a i shows co) (told_heard c ms n M s told a k co known hand may)

unless_other : (e q : ℕ) (b : Bool) → e ≡ q → (not (e == q) || b) ≡ true → b ≡ true
unless_other e q b at h = subst (λ t. (not t || b) ≡ true) (same_so e q at) h

-- the attempt takes a call
pub turn_noted : (c : Cluster) (ms : List Moment) (n : ℕ) (M : Memberships) (s : NodeState) (told : Delivered) (a : AttemptState) (k : Call) → Holds (setting_of c) M → (M.node n).session ≡ s.session
    → Known M told → Hand ms n told → Coordinates c M n s a → MayCall c told a k → AttemptNoted ms n a → AttemptNoted ms n (turn a k).after
turn_noted c ms n M s told a k i shows known hand co may h =
    let t : AttemptState = (turn a k).after in
    let plan : t.plan ≡ a.plan = plan_stays a k (may_be_called c told a k may) in
    let epoch : t.plan.epoch ≡ a.plan.epoch = ap (λ p. p.epoch) plan in
    let has : MachineHas (heard n ms a.plan.epoch M) t = has_turned c ms n M s told a k i shows known hand co may h in
    record {
      begun = ap (λ e. list_any (is_attempt e) ms) epoch ∙ h.begun;
      members = ap (λ e. members_of e ms) epoch ∙ (h.members ∙ ap (λ p. p.members) (sym plan));
      last = h.last ∙ ap Some (sym epoch);
      readies = λ j d lt. unless_other t.plan.epoch a.plan.epoch _ epoch (has.ready j d lt);
    }

-- ---- an attempt begins: no Ready has come

begun_readies : (s : AttemptState) → s.readies ≡ [] → (begun s).after.readies ≡ []
unfolding choosing
begun_readies s h =
    if_either (λ (t : Turn). t.after.readies ≡ []) (all_promised s) (choosing s) (with_steps s (collects s)) (by_newest (newest_shown s.promises)) h
  where
    by_newest : (o : Option ShownRecord) → (chosen_by s o).after.readies ≡ []
    by_newest None = h
    by_newest (Some newest) = h

first_readies : (p members : ℕ) (own : Message) (attached : List AttachedDevice) (cluster : ℕ) → (beginning p members own attached cluster).after.readies ≡ []
unfolding beginning
first_readies p members own attached cluster = begun_readies (first_state p members own attached cluster (promises_of (promised_by own (shown_by own.sender own.body)))) refl

none_ready : (ms : List Moment) (n q : ℕ) → All (λ (r : Readied). is_ready_in ms n q r.node ≡ true) []
none_ready ms n q i d lt = absurd (none_below i lt)
  where
    none_below : (k : ℕ) → k < 0 → ⊥
    none_below k l = omega (arith, l)

pub begun_noted : (ms : List Moment) (n p members : ℕ) (own : Message) (attached : List AttachedDevice) (cluster : ℕ) → coordinator p ≡ n
    → AttemptNoted (attempt p members ∷ ms) n (beginning p members own attached cluster).after
begun_noted ms n p members own attached cluster at =
    let t : AttemptState = (beginning p members own attached cluster).after in
    let epoch : p ≡ t.plan.epoch = sym (plan_begins p members own attached cluster).of_epoch in
    let same : (p == t.plan.epoch) ≡ true = same_so p t.plan.epoch epoch in
    record {
      begun = or_left (p == t.plan.epoch) _ same;
      members = ap (λ b. if b then members else members_of t.plan.epoch ms) same ∙ sym (plan_begins p members own attached cluster).of_members;
      last = ap (λ b. if b then Some p else attempt_of n ms) (same_so (coordinator p) n at) ∙ ap Some epoch;
      readies = subst (λ rs. All (λ (r : Readied). is_ready_in (attempt p members ∷ ms) n t.plan.epoch r.node ≡ true) rs) (sym (first_readies p members own attached cluster)) (none_ready (attempt p members ∷ ms) n t.plan.epoch);
    }

-- ---- a start: each other member is ready

abbrev Others : (ℕ → Type 0) → ℕ → List ℕ → Type 0
Others P e xs = AllByRecursion P (filter (λ m. not (m == coordinator e)) xs)

others_append : (P : ℕ → Type 0) (e : ℕ) (xs ys : List ℕ) → Others P e xs → Others P e ys → Others P e (xs ++ ys)
others_append P e [] ys f g = g
others_append P e (x ∷ xs) ys f g = kept (not (x == coordinator e)) f (λ h. others_append P e xs ys h g)
  where
    kept : (b : Bool) → AllByRecursion P (if b then x ∷ filter (λ m. not (m == coordinator e)) xs else filter (λ m. not (m == coordinator e)) xs) → (Others P e xs → Others P e (xs ++ ys))
        → AllByRecursion P (if b then x ∷ filter (λ m. not (m == coordinator e)) (xs ++ ys) else filter (λ m. not (m == coordinator e)) (xs ++ ys))
    kept true r next = (r.0, next r.1)
    kept false r next = next r

-- of each other member
pub in_others : (P : ℕ → Type 0) (e set k : ℕ) → ((m : ℕ) → m ≤ k → has set m ≡ true → m ≢ coordinator e → P m) → Others P e (numbers_to set k)
in_others P e set zero h = tt
in_others P e set (suc k) h = by_member (has set (suc k)) refl (in_others P e set k (λ m low member other. h m (less m k low) member other))
  where
    less : (a b : ℕ) → a ≤ b → a ≤ suc b
    less a b l = omega (arith, l)

    last_one : (a : ℕ) → suc a ≤ suc a
    last_one a = omega arith

    one : (b : Bool) → (suc k == coordinator e) ≡ b → has set (suc k) ≡ true → AllByRecursion P (if not b then suc k ∷ [] else [])
    one true is member = tt
    one false is member = (h (suc k) (last_one k) member (not_same (suc k) (coordinator e) is), tt)

    by_member : (b : Bool) → has set (suc k) ≡ b → Others P e (numbers_to set k) → Others P e (if b then numbers_to set k ++ suc k ∷ [] else numbers_to set k)
    by_member true is before = others_append P e (numbers_to set k) (suc k ∷ []) before (one (suc k == coordinator e) refl is)
    by_member false is before = before

pub low_number : (k : ℕ) → k ≤ 32 → nat_le k 32 ≡ true
low_number k h = grind arith

-- the line of a start, as its attempt stands
pub start_ready : (c : Cluster) (ms : List Moment) (n : ℕ) (M : Memberships) (s : NodeState) (told : Delivered) (a : AttemptState) (k : Call) (held count : ℕ) → Holds (setting_of c) M → (M.node n).session ≡ s.session
    → Known M told → Hand ms n told → Coordinates c M n s a → MayCall c told a k → starts_in (turn a k).steps ≡ true → AttemptNoted ms n a
    → IsReady ms (start (turn a k).after.plan.epoch (turn a k).after.plan.members held count)
start_ready c ms n M s told a k held count i shows known hand co call starts h =
    let t : AttemptState = (turn a k).after in
    let may : May a k = may_be_called c told a k call in
    let now : AttemptNoted ms n t = turn_noted c ms n M s told a k i shows known hand co call h in
    let H : Memberships = heard n ms a.plan.epoch M in
    let has : MachineHas H t = has_turned c ms n M s told a k i shows known hand co call h in
    let epoch : t.plan.epoch ≡ a.plan.epoch = ap (λ p. p.epoch) (plan_stays a k may) in
    let own : coordinator t.plan.epoch ≡ n = ap coordinator epoch ∙ own_of c M n s a co in
    let ready : AllReady H t.plan.epoch = starts_are_ready H a k co.reached may starts has in (
      now.begun,
      now.members,
      in_others (λ m. has_answered t.plan.epoch name.Install name.Ready m ms ≡ true) t.plan.epoch t.plan.members most_nodes
          (λ m low member other. not_own m n t.plan.epoch (has_answered t.plan.epoch name.Install name.Ready m ms) (λ at. other (at ∙ sym own))
          (unless_other t.plan.epoch a.plan.epoch _ epoch (ready m (has.members m ∙ and_both (nat_le m 32) _ (low_number m low) member)))),
    )
  where
    not_own : (m k q : ℕ) (b : Bool) → m ≢ k → ((m == k) || b) ≡ true → b ≡ true
    not_own m k q b other is = by_cases (or_cases (m == k) b is)
      where
        by_cases : ((m == k) ≡ true) ⊎ (b ≡ true) → b ≡ true
        by_cases (inl at) = absurd (other (is_number m k at))
        by_cases (inr so) = so
