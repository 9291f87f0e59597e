-- What is seized as plain data has no votes, by the walk.
use Rattle.std.proofs.Common.{◌≡◌, ℕ, List, [], ◌∷◌, ◌++◌, map, refl, sym, ap, subst, ◌∙◌, arith}
use Rattle.std.specs.Prelude.{All, ◌==◌, ◌&&◌, ◌||◌, Bool, true, false, Option, Some, None, is_none, if◌then◌else◌}
use Rattle.std.specs.List.{find, filter_map, cons_option, list_any}
use Rattle.std.proofs.lemmas.List.Elements.{All-nil, All-cons, All-head, All-tail, All-append, All-contains}
use Rattle.cl_base.specs.Sets.{has, set_with}
use Rattle.seize.specs.declared.kind.SeizeKind.TheVariants.{Plain}
use Rattle.cmm_attempt.specs.declared.attached.AttachedDevice.{AttachedDevice}
use Rattle.cmm_attempt.specs.declared.counting.BothVotes.{BothVotes}
use Rattle.cmm_attempt.specs.declared.phase.Phase.{Phase}
use Rattle.cmm_attempt.specs.declared.phase.Phase.TheVariants.{Collecting, Choosing, SeizingVotes, SeizingOthers, Installing, Over}
use Rattle.cmm_attempt.specs.declared.plan.Plan.{Plan}
use Rattle.cmm_attempt.specs.declared.promised.Promised.{Promised}
use Rattle.cmm_attempt.specs.declared.seizing.Seizing.{Seizing}
use Rattle.cmm_attempt.specs.declared.step.AttemptEnd.{AttemptEnd}
use Rattle.cmm_attempt.specs.Plans.{is_reachable}
use Rattle.cmm_attempt.specs.Promises.{promised_by, shown_by, newest_shown, first_left_out}
use Rattle.cmm_attempt.specs.Seizings.{is_seized, first_seizer, vote_entry, plain_entry, plain_new, with_next, with_result}
use Rattle.cmm_attempt.specs.Counts.{first_foreign, is_quorum, reached_set, vote_new}
use Rattle.cmm_attempt.specs.Calls.{Call, Take, With_votes, Own_seized, Own_ready, Tick, turn, Run, IsReached}
use Rattle.cmm_attempt.specs.Attempts.{AttemptState, in_phase, installing, plain_devices, shortage, asked_next, vote_entries_under, vote_entries, seizing_votes, possible, known, knowing, admitted, voting, first_state, promises_of, beginning}
use Rattle.cmm_attempt.proofs.Basics.{none_some, false_true, if_either}
use Rattle.attempt_laws.specs.Asking.{is_vote}
use Rattle.attempt_laws.specs.Sending.{PlainHasNoVotes}
use Rattle.attempt_laws.proofs.Sends.{all_of}
use Rattle.attempt_laws.proofs.StillHeld.{same_attached}
use Rattle.attempt_laws.proofs.Steady.{After}
use Rattle.attempt_laws.proofs.Walk.{Walk, walks, walks_asked_votes, walks_begun, if_with}

abbrev IsClear : BothVotes → Seizing → Type 0
IsClear both e = e.kind ≡ Plain → is_quorum both e.attached.device ≡ false

-- where it is a quorum device and a member reaches it, it is seized
abbrev IsTaken : Plan → BothVotes → List Seizing → AttachedDevice → Type 0
IsTaken plan both devices a = (is_quorum both a.device && is_reachable plan a) ≡ true → is_seized devices a.device ≡ true

-- so it is with each device of the plan before the others are seized
abbrev AreTaken : Plan → BothVotes → List Seizing → Phase → Type 0
AreTaken plan both devices SeizingVotes = All (IsTaken plan both devices) plan.attached
AreTaken plan both devices Collecting = Unit {0}
AreTaken plan both devices Choosing = Unit {0}
AreTaken plan both devices SeizingOthers = Unit {0}
AreTaken plan both devices Installing = Unit {0}
AreTaken plan both devices Over = Unit {0}

abbrev Fits : AttemptState → Type 0
Fits s = (both : BothVotes) → s.votes ≡ Some both → All (IsClear both) s.devices × AreTaken s.plan both s.devices s.phase

or_second : (a b : Bool) → b ≡ true → (a || b) ≡ true
or_second true b h = refl
or_second false b h = h

itself : (n : ℕ) (b : Bool) → ((n == n) || b) ≡ true
itself n b = grind arith

-- Entries that are changed keep their device and their kind.

record Keeps (f : Seizing → Seizing) : Type 0 where
  attached : (e : Seizing) → (f e).attached ≡ e.attached
  kind : (e : Seizing) → (f e).kind ≡ e.kind

same_kind : (e changed : Seizing) (b : Bool) → changed.kind ≡ e.kind → (if b then changed else e).kind ≡ e.kind
same_kind e changed true h = h
same_kind e changed false h = refl

clear_mapped : (both : BothVotes) (f : Seizing → Seizing) → Keeps f → (es : List Seizing) → All (IsClear both) es → All (IsClear both) (map f es)
clear_mapped both f keeps [] h = All-nil (IsClear both)
clear_mapped both f keeps (e ∷ es) h =
    All-cons (IsClear both) (f e) (map f es)
    (λ plain. ap (λ a. is_quorum both a.device) (keeps.attached e) ∙ All-head (IsClear both) e es h (sym (keeps.kind e) ∙ plain))
    (clear_mapped both f keeps es (All-tail (IsClear both) e es h))

seized_mapped : (f : Seizing → Seizing) → Keeps f → (es : List Seizing) (d : ℕ) → is_seized (map f es) d ≡ is_seized es d
seized_mapped f keeps [] d = refl
seized_mapped f keeps (e ∷ es) d = rw (keeps.attached e, seized_mapped f keeps es d) refl

taken_mapped : (plan : Plan) (both : BothVotes) (f : Seizing → Seizing) → Keeps f → (es : List Seizing) (phase : Phase) → AreTaken plan both es phase
    → AreTaken plan both (map f es) phase
taken_mapped plan both f keeps es SeizingVotes h =
    all_of (IsTaken plan both es) (IsTaken plan both (map f es)) plan.attached (λ a taken quorum. seized_mapped f keeps es a.device ∙ taken quorum) h
taken_mapped plan both f keeps es Collecting h = tt
taken_mapped plan both f keeps es Choosing h = tt
taken_mapped plan both f keeps es SeizingOthers h = tt
taken_mapped plan both f keeps es Installing h = tt
taken_mapped plan both f keeps es Over h = tt

mapped : (s : AttemptState) (f : Seizing → Seizing) → Keeps f → Fits s → Fits (record s { devices = map f s.devices })
mapped s f keeps fits both given =
    (clear_mapped both f keeps s.devices (fits both given).0, taken_mapped s.plan both f keeps s.devices s.phase (fits both given).1)

-- New entries.

abbrev IsClearMaybe : BothVotes → Option Seizing → Type 0
IsClearMaybe both None = Unit {0}
IsClearMaybe both (Some e) = IsClear both e

with_option : (both : BothVotes) (o : Option Seizing) (es : List Seizing) → IsClearMaybe both o → All (IsClear both) es → All (IsClear both) (cons_option o es)
with_option both None es clear h = h
with_option both (Some e) es clear h = All-cons (IsClear both) e es clear h

vote_clear : (both : BothVotes) (a : AttachedDevice) (o : Option ℕ) → IsClear both (vote_entry a o)
vote_clear both a None plain = absurd (false_true (sym (ap is_vote plain)))
vote_clear both a (Some n) plain = absurd (false_true (sym (ap is_vote plain)))

votes_clear : (plan : Plan) (promises : List Promised) (both : BothVotes) (attached : List AttachedDevice) → All (IsClear both) (filter_map (vote_new plan promises both) attached)
votes_clear plan promises both [] = All-nil (IsClear both)
votes_clear plan promises both (a ∷ attached) =
    with_option both (vote_new plan promises both a) (filter_map (vote_new plan promises both) attached)
    (if_either (IsClearMaybe both) (is_quorum both a.device && is_reachable plan a) (Some (vote_entry a (first_seizer plan promises a))) None
    (vote_clear both a (first_seizer plan promises a)) tt)
    (votes_clear plan promises both attached)

seized_entry : (a : AttachedDevice) (o : Option ℕ) (es : List Seizing) → is_seized (vote_entry a o ∷ es) a.device ≡ true
seized_entry a None es = itself a.device (is_seized es a.device)
seized_entry a (Some n) es = itself a.device (is_seized es a.device)

seized_first : (a : AttachedDevice) (b : Bool) (o : Option ℕ) (es : List Seizing) → b ≡ true → is_seized (cons_option (if b then Some (vote_entry a o) else None) es) a.device ≡ true
seized_first a true o es h = seized_entry a o es
seized_first a false o es h = absurd (false_true h)

seized_more : (o : Option Seizing) (es : List Seizing) (d : ℕ) → is_seized es d ≡ true → is_seized (cons_option o es) d ≡ true
seized_more None es d h = h
seized_more (Some e) es d h = or_second (e.attached.device == d) (is_seized es d) h

votes_taken : (plan : Plan) (promises : List Promised) (both : BothVotes) (attached : List AttachedDevice)
    → All (IsTaken plan both (filter_map (vote_new plan promises both) attached)) attached
votes_taken plan promises both [] = All-nil (IsTaken plan both [])
votes_taken plan promises both (a ∷ attached) =
    let more : List Seizing = filter_map (vote_new plan promises both) attached in
    All-cons (IsTaken plan both (filter_map (vote_new plan promises both) (a ∷ attached))) a attached
    (seized_first a (is_quorum both a.device && is_reachable plan a) (first_seizer plan promises a) more)
    (all_of (IsTaken plan both more) (IsTaken plan both (filter_map (vote_new plan promises both) (a ∷ attached))) attached
    (λ x taken quorum. seized_more (vote_new plan promises both a) more x.device (taken quorum)) (votes_taken plan promises both attached))

found_any : (p : ℕ → Bool) (ns : List ℕ) (n : ℕ) → find p ns ≡ Some n → list_any p ns ≡ true
found_any p [] n h = absurd (none_some n h)
found_any p (m ∷ ns) n h = by_test (found_any p ns n) (p m) h
  where
    by_test : (find p ns ≡ Some n → list_any p ns ≡ true) → (b : Bool) → (if b then Some m else find p ns) ≡ Some n → (b || list_any p ns) ≡ true
    by_test rest true k = refl
    by_test rest false k = rest k

no_quorum : (quorum reached seized : Bool) → ((quorum && reached) ≡ true → seized ≡ true) → seized ≡ false → reached ≡ true → quorum ≡ false
no_quorum false reached seized taken no_entry is = refl
no_quorum true true seized taken no_entry is = absurd (false_true (sym no_entry ∙ taken refl))
no_quorum true false seized taken no_entry is = absurd (false_true is)

plain_entry_clear : (both : BothVotes) (a : AttachedDevice) (nodes : List ℕ) (o : Option ℕ) → find (λ n. has a.nodes n) nodes ≡ o
    → (list_any (λ n. has a.nodes n) nodes ≡ true → is_quorum both a.device ≡ false) → IsClearMaybe both (plain_entry a o)
plain_entry_clear both a nodes None found clear = tt
plain_entry_clear both a nodes (Some n) found clear = λ _. clear (found_any (λ m. has a.nodes m) nodes n found)

plain_clear : (plan : Plan) (both : BothVotes) (devices : List Seizing) (attached : List AttachedDevice) → All (IsTaken plan both devices) attached
    → All (IsClear both) (filter_map (plain_new plan devices) attached)
plain_clear plan both devices [] h = All-nil (IsClear both)
plain_clear plan both devices (a ∷ attached) h =
    let seized : Bool = is_seized devices a.device in
    let first : Option ℕ = find (λ n. has a.nodes n) plan.nodes in
    with_option both (plain_new plan devices a) (filter_map (plain_new plan devices) attached)
    (if_with (IsClearMaybe both) seized seized None (plain_entry a first) refl (λ e. tt)
    (λ e. plain_entry_clear both a plan.nodes first refl
    (no_quorum (is_quorum both a.device) (is_reachable plan a) seized (All-head (IsTaken plan both devices) a attached h) e)))
    (plain_clear plan both devices attached (All-tail (IsTaken plan both devices) a attached h))

-- The small steps, but for the giving of votes.

abbrev GivesNoVotes : Call → Type 0
GivesNoVotes (With_votes both) = ⊥
GivesNoVotes (Take from m) = Unit {0}
GivesNoVotes (Own_seized d r) = Unit {0}
GivesNoVotes Own_ready = Unit {0}
GivesNoVotes Tick = Unit {0}

over_fits : (s : AttemptState) → Fits s → Fits (record s { phase = Over })
over_fits s fits both given = ((fits both given).0, tt)

with_entries : (s : AttemptState) → s.phase ≡ SeizingVotes → Fits (record s { devices = vote_entries s })
with_entries s is both given = (
  subst (λ o. All (IsClear both) (vote_entries_under s o)) (sym given) (votes_clear s.plan s.promises both s.plan.attached),
  subst (λ o. AreTaken s.plan both (vote_entries_under s o) s.phase) (sym given)
      (subst (AreTaken s.plan both (vote_entries_under s (Some both))) (sym is) (votes_taken s.plan s.promises both s.plan.attached)),
)

with_others : (s : AttemptState) → s.phase ≡ SeizingVotes → Fits s → (both : BothVotes) → s.votes ≡ Some both → All (IsClear both) (s.devices ++ plain_devices s)
with_others s is fits both given =
    All-append (IsClear both) s.devices (plain_devices s) (fits both given).0
    (plain_clear s.plan both s.devices s.plan.attached (subst (AreTaken s.plan both s.devices) is (fits both given).1))

plain_walk : (c : Call) → GivesNoVotes c → Walk c Fits Fits (After Fits)
unfolding asked_next installing
plain_walk c gives_none = record {
  within = λ s i. i;
  rests = λ s i. i;
  passes = λ s is e i. i;
  again = λ s is e i. i;
  silent = λ s n is late least i. over_fits s i;
  superseded = λ s from m q is body i. over_fits s i;
  promise = λ s from m p is awaited of promised i. i;
  collects = λ s is e k. k;
  collecting = λ s is e k. k;
  no_newest = λ s is all none k. k;
  chosen = λ s newest is all some k both given. ((k both given).0, tt);
  votes = λ s both is i. absurd (subst GivesNoVotes is gives_none);
  foreign = λ s both n is votes least k. over_fits s k;
  excluded = λ s n is least k. over_fits s k;
  impossible = λ s e is short k. over_fits s k;
  entries = λ s is enough k. with_entries s is;
  requests = λ s is e k. k;
  result = λ s d from r e is tells found none i.
      mapped s (with_result d r)
      (record {
        attached = λ x. same_attached x (record x { result = Some r }) ((x.attached.device == d) && is_none x.result) refl;
        kind = λ x. same_kind x (record x { result = Some r }) ((x.attached.device == d) && is_none x.result) refl;
      })
      i;
  next = λ s d from n r e is tells found next i.
      mapped s (with_next d n)
      (record {
        attached = λ x. same_attached x (record x { seizer = Some n; asked = set_with x.asked n }) ((x.attached.device == d) && is_none x.result) refl;
        kind = λ x. same_kind x (record x { seizer = Some n; asked = set_with x.asked n }) ((x.attached.device == d) && is_none x.result) refl;
      })
      i;
  seizing = λ s is e k. k;
  short = λ s e is all few k. over_fits s k;
  others = λ s is all enough some k both given. (with_others s is k both given, tt);
  installs_at_once = λ s is all enough none k both given. ((k both given).0, tt);
  installs = λ s is all k both given. ((k both given).0, tt);
  ready = λ s from m is at of body i. i;
  own = λ s is at i. i;
  installing = λ s at e k. k;
  starts = λ s at e k. over_fits s k;
}

-- The votes are given: until the quorum devices are listed, none is.

seizing_fits : (s : AttemptState) → s.phase ≡ SeizingVotes → After Fits (seizing_votes s)
unfolding seizing_votes
seizing_fits s is = walks_asked_votes Tick Fits Fits (After Fits) (plain_walk Tick tt) (record s { devices = vote_entries s }) is (with_entries s is)

abbrev ListsNone : AttemptState → Type 0
ListsNone s = (both : BothVotes) → All (IsClear both) s.devices

possible_fits : (s : AttemptState) (o : Option AttemptEnd) → s.phase ≡ SeizingVotes → ListsNone s → After Fits (possible s o)
possible_fits s (Some e) is none = λ both given. (none both, tt)
possible_fits s None is none = seizing_fits s is

known_fits : (s : AttemptState) (o : Option ℕ) → s.phase ≡ SeizingVotes → ListsNone s → After Fits (known s o)
known_fits s (Some n) is none = λ both given. (none both, tt)
known_fits s None is none = possible_fits s (shortage s (reached_set s.plan)) is none

admitted_fits : (s : AttemptState) (o : Option ℕ) → s.phase ≡ SeizingVotes → ListsNone s → After Fits (admitted s o)
unfolding knowing
admitted_fits s (Some n) is none = λ both given. (none both, tt)
admitted_fits s None is none = known_fits s (first_left_out s.promises s.plan.nodes (newest_shown s.promises)) is none

voting_fits : (s : AttemptState) (both : BothVotes) → After Fits (voting s both)
unfolding voting
voting_fits s both =
    admitted_fits (record (in_phase s SeizingVotes) { votes = Some both; devices = [] }) (first_foreign both s.plan.nodes) refl (λ any. All-nil (IsClear any))

-- The calls.

call_fits : (s : AttemptState) (c : Call) → Fits s → Fits (turn s c).after
call_fits s (With_votes both) i = voting_fits s both
call_fits s (Take from m) i = walks Fits Fits (After Fits) s (Take from m) (plain_walk (Take from m) tt) i
call_fits s (Own_seized d r) i = walks Fits Fits (After Fits) s (Own_seized d r) (plain_walk (Own_seized d r) tt) i
call_fits s Own_ready i = walks Fits Fits (After Fits) s Own_ready (plain_walk Own_ready tt) i
call_fits s Tick i = walks Fits Fits (After Fits) s Tick (plain_walk Tick tt) i

run_fits : (s : AttemptState) (calls : List Call) (t : AttemptState) → Run s calls t → Fits s → Fits t
run_fits s [] t run i = subst Fits (sym run) i
run_fits s (c ∷ calls) t run i = run_fits (turn s c).after calls t run.1 (call_fits s c i)

reached_fits : (s : AttemptState) → IsReached s → Fits s
unfolding beginning
reached_fits s r =
    let first : AttemptState = first_state r.p r.members r.own r.attached r.cluster (promises_of (promised_by r.own (shown_by r.own.sender r.own.body))) in
    run_fits (beginning r.p r.members r.own r.attached r.cluster).after r.calls s r.run
    (walks_begun Tick Fits Fits (After Fits) (plain_walk Tick tt) first refl (λ both given. absurd (none_some both given)))

pub plain_has_no_votes : PlainHasNoVotes
plain_has_no_votes s both e reached given listed plain = All-contains (IsClear both) s.devices e (reached_fits s reached both given).0 listed plain
