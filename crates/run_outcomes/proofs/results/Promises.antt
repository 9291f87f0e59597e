-- The Promises that an attempt has are its coordinator's own and those that it took.
use Rattle.std.specs.Prelude.{ℕ, ◌≡◌, ◌==◌, ◌&&◌, ◌||◌, not, Bool, true, false, List, [], ◌∷◌, Option, None, Some, IfSome, find, if◌then◌else◌}
use Rattle.std.specs.List.{AllByRecursion, list_any}
use Rattle.std.proofs.Common.{refl, subst, sym}
use Rattle.attempt_laws.proofs.Walk.{Walk, awaits_collecting, walks, walks_begun}
use Rattle.cmm_attempt.specs.declared.phase.Phase.TheVariants.{Choosing, Collecting, Installing, Over, SeizingOthers, SeizingVotes}
use Rattle.cl_base.specs.Sets.{has}
use Rattle.cmm_attempt.proofs.Basics.{false_true, none_some, same_number}
use Rattle.cmm_attempt.specs.Attempts.{AttemptState, Turn, asked_next, beginning, first_state, installing, is_of, promises_of}
use Rattle.cmm_attempt.specs.Calls.{Call, Take, Tick, turn}
use Rattle.cmm_attempt.specs.Promises.{has_promised, holds_valid, is_from, promised_by, shown_by}
use Rattle.cmm_attempt.specs.declared.attached.AttachedDevice.{AttachedDevice}
use Rattle.cmm_attempt.specs.declared.plan.Plan.{Plan}
use Rattle.cmm_attempt.specs.declared.promised.Promised.{Promised}
use Rattle.run_history.proofs.Lists.{both}
use Rattle.wire.specs.declared.message.Message.{Message}

-- while it collects, it collected before
abbrev Back : AttemptState → AttemptState → Type 0
Back a s = s.phase ≡ Collecting → a.phase ≡ Collecting

abbrev Keeps : (Promised → Type 0) → AttemptState → AttemptState → Type 0
Keeps Q a s = (s.plan ≡ a.plan) × AllByRecursion Q s.promises × Back a s

abbrev Leaves : (Promised → Type 0) → AttemptState → Turn → Type 0
Leaves Q a t = AllByRecursion Q t.after.promises × Back a t.after

-- what is taken is so
abbrev pub Taken : (Promised → Type 0) → AttemptState → Call → Type 0
Taken Q a c = (from : ℕ) (m : Message) (p : Promised) → c ≡ Take from m → a.phase ≡ Collecting → is_of a.plan.epoch m.body ≡ true → promised_by m (shown_by from m.body) ≡ Some p → Q p

no_over : Over ≡ Collecting → ⊥
no_over e = cc

no_choosing : Choosing ≡ Collecting → ⊥
no_choosing e = cc

no_votes : SeizingVotes ≡ Collecting → ⊥
no_votes e = cc

no_others : SeizingOthers ≡ Collecting → ⊥
no_others e = cc

no_installing : Installing ≡ Collecting → ⊥
no_installing e = cc

promises_walk : (Q : Promised → Type 0) (a : AttemptState) (c : Call) → Taken Q a c → Walk c (Keeps Q a) (Keeps Q a) (Leaves Q a)
unfolding asked_next installing
promises_walk Q a c takes = record {
  within = λ s i. i;
  rests = λ s i. (i.1, i.2);
  passes = λ s is e i. (i.1, i.2);
  again = λ s is e i. (i.1, i.2);
  silent = λ s n is late least i. (i.1, λ e. absurd (no_over e));
  superseded = λ s from m q is body i. (i.1, λ e. absurd (no_over e));
  promise = λ s from m p is awaited of promised i. (
    i.0,
    both Q s.promises (p ∷ []) i.1 (takes from m p is (i.2 (awaits_collecting s from s.phase awaited)) (subst (λ (z : Plan). is_of z.epoch m.body ≡ true) i.0 of) promised, tt),
    i.2,
  );
  collects = λ s is e k. (k.1, k.2);
  collecting = λ s is e k. (k.1, k.2);
  no_newest = λ s is all none k. (k.1, k.2);
  chosen = λ s newest is all some k. (k.1, λ e. absurd (no_choosing e));
  votes = λ s both_votes is i. (i.0, i.1, λ e. absurd (no_votes e));
  foreign = λ s both_votes n is votes least k. (k.1, λ e. absurd (no_over e));
  excluded = λ s n is least k. (k.1, λ e. absurd (no_over e));
  impossible = λ s e is short k. (k.1, λ at. absurd (no_over at));
  entries = λ s is enough k. k;
  requests = λ s is e k. (k.1, k.2);
  result = λ s d from r e is says found none i. i;
  next = λ s d from n r e is says found next i. (i.1, i.2);
  seizing = λ s is e k. (k.1, k.2);
  short = λ s e is all few k. (k.1, λ at. absurd (no_over at));
  others = λ s is all enough some k. (k.1, λ e. absurd (no_others e));
  installs_at_once = λ s is all enough none k. (k.1, λ e. absurd (no_installing e));
  installs = λ s is all k. (k.1, λ e. absurd (no_installing e));
  ready = λ s from m is at of body i. i;
  own = λ s is at i. i;
  installing = λ s at e k. (k.1, k.2);
  starts = λ s at e k. (k.1, λ z. absurd (no_over z));
}

pub promises_taken : (Q : Promised → Type 0) (a : AttemptState) (c : Call) → Taken Q a c → AllByRecursion Q a.promises → AllByRecursion Q (turn a c).after.promises
promises_taken Q a c takes k = (walks (Keeps Q a) (Keeps Q a) (Leaves Q a) a c (promises_walk Q a c takes) (refl, k, λ e. e)).0

-- an attempt that collects after a call collected before it
pub collects_before : (a : AttemptState) (c : Call) → (turn a c).after.phase ≡ Collecting → a.phase ≡ Collecting
collects_before a c = (walks (Keeps Any a) (Keeps Any a) (Leaves Any a) a c (promises_walk Any a c (λ from m p is at of promised. tt)) (refl, all_any a.promises, λ e. e)).1
  where
    Any : Promised → Type 0
    Any p = Unit {0}

    all_any : (ps : List Promised) → AllByRecursion Any ps
    all_any [] = tt
    all_any (p ∷ ps) = (tt, all_any ps)

first_promises : (Q : Promised → Type 0) (o : Option Promised) → IfSome o Q → AllByRecursion Q (promises_of o)
first_promises Q None k = tt
first_promises Q (Some p) k = (k, tt)

no_take : (from : ℕ) (m : Message) → Tick ≡ Take from m → ⊥
no_take from m e = cc

pub promises_first : (Q : Promised → Type 0) (p members : ℕ) (own : Message) (attached : List AttachedDevice) (cluster : ℕ) → IfSome (promised_by own (shown_by own.sender own.body)) Q
    → AllByRecursion Q (beginning p members own attached cluster).after.promises
unfolding beginning
promises_first Q p members own attached cluster k =
    let s : AttemptState = first_state p members own attached cluster (promises_of (promised_by own (shown_by own.sender own.body))) in
    (walks_begun Tick (Keeps Q s) (Keeps Q s) (Leaves Q s) (promises_walk Q s Tick (λ from m z is at of promised. absurd (no_take from m is))) s refl
    (refl, first_promises Q (promised_by own (shown_by own.sender own.body)) k, λ e. e)).0

-- ---- a node that does not show a device as valid

pub none_found : (test : ℕ → Bool) (ns : List ℕ) (n : ℕ) → find test ns ≡ None → list_any (λ m. m == n) ns ≡ true → test n ≡ false
none_found test [] n none is = absurd (false_true is)
none_found test (m ∷ ns) n none is = by_test (test m) refl none (m == n) refl is (none_found test ns n)
  where
    by_test : (b : Bool) → test m ≡ b → (if b then Some m else find test ns) ≡ None → (e : Bool) → (m == n) ≡ e → (e || list_any (λ j. j == n) ns) ≡ true
        → (find test ns ≡ None → list_any (λ j. j == n) ns ≡ true → test n ≡ false) → test n ≡ false
    by_test true at none e same is next = absurd (none_some m (sym none))
    by_test false at none true same is next = subst (λ j. test j ≡ false) (same_number m n same) at
    by_test false at none false same is next = next none is

pub shows_not : (promises : List Promised) (d n : ℕ) → holds_valid promises d n ≡ false → has_promised promises n ≡ true
    → list_any (λ p. is_from n p && not (has p.shown.valid d)) promises ≡ true
shows_not [] d n none is = absurd (false_true is)
shows_not (p ∷ promises) d n none is = by_test (is_from n p) (has p.shown.valid d) none is (shows_not promises d n)
  where
    by_test : (b v : Bool) → ((b && v) || holds_valid promises d n) ≡ false → (b || has_promised promises n) ≡ true
        → (holds_valid promises d n ≡ false → has_promised promises n ≡ true → list_any (λ q. is_from n q && not (has q.shown.valid d)) promises ≡ true)
        → ((b && not v) || list_any (λ q. is_from n q && not (has q.shown.valid d)) promises) ≡ true
    by_test true true none is next = absurd (false_true (sym none))
    by_test true false none is next = refl
    by_test false v none is next = next none is
