-- An attempt is told that a node is not registered of devices with votes alone: so an entry of another device never ends so.
use Rattle.std.specs.Prelude.{Contains, ℕ, ◌≡◌, ◌==◌, ◌&&◌, Bool, true, List, [], ◌∷◌, Option, None, Some, IfSome, find, is_none, map}
use Rattle.std.specs.List.{AllByRecursion, filter_map}
use Rattle.std.proofs.Common.{refl, sym, ap, subst, ◌∙◌}
use Rattle.std.proofs.lemmas.List.Elements.{All-contains}
use Rattle.attempt_laws.proofs.Plain.{plain_has_no_votes}
use Rattle.attempt_laws.proofs.Sends.{Contains-here, Contains-later, asks_are_entries}
use Rattle.attempt_laws.proofs.Walk.{TellsResult, Walk, if_with, walks, walks_begun}
use Rattle.attempt_laws.specs.Sending.{AsksEntry}
use Rattle.cl_base.specs.Seizings.{SeizeResult}
use Rattle.cl_base.specs.Sets.{has, set_with}
use Rattle.cl_base.specs.declared.seizing.SeizeEnd.TheVariants as end
use Rattle.cmm_attempt.proofs.Basics.{and_cases, false_true, if_either, same_number}
use Rattle.cmm_attempt.specs.Attempts.{AttemptState, asked_next, beginning, first_state, installing, plain_devices, promises_of, vote_entries_under}
use Rattle.cmm_attempt.specs.Calls.{Call, IsReached, May, Tick, turn}
use Rattle.cmm_attempt.specs.Counts.{is_quorum, vote_new}
use Rattle.cmm_attempt.specs.Plans.{is_reachable}
use Rattle.cmm_attempt.specs.Promises.{promised_by, shown_by}
use Rattle.cmm_attempt.specs.Seizings.{first_seizer, is_seized, plain_entry, plain_new, vote_entry, with_next, with_result}
use Rattle.cmm_attempt.specs.declared.attached.AttachedDevice.{AttachedDevice}
use Rattle.cmm_attempt.specs.declared.counting.BothVotes.{BothVotes}
use Rattle.cmm_attempt.specs.declared.plan.Plan.{Plan}
use Rattle.cmm_attempt.specs.declared.promised.Promised.{Promised}
use Rattle.cmm_attempt.specs.declared.seizing.Seizing.{Seizing}
use Rattle.cmm_attempt.specs.declared.step.Step.{Step}
use Rattle.cmm_attempt.specs.declared.step.Step.TheVariants as steps
use Rattle.run_history.proofs.Lists.{both, more}
use Rattle.seize.specs.declared.kind.SeizeKind.TheVariants.{Plain, Vote}
use Rattle.wire.specs.declared.message.Message.{Message}
use Rattle.run_outcomes.proofs.shown.Asks.{among, past_of}
use Rattle.run_outcomes.proofs.shown.Entries.{EntryOk, entries_reached}
use Rattle.run_outcomes.proofs.shown.Given.{Given, votes_given}
use Rattle.run_outcomes.specs.accounts.Unregistered.{AreKept, EntryKept, HandKept}
use Rattle.run_outcomes.specs.tasks.Laws.{IsUnregistered, is_plain}
use Rattle.run_outcomes.specs.tasks.Shown.{IsVoteTo}

-- ---- new entries

not_plain : Vote ≡ Plain → ⊥
not_plain is = false_true (ap is_plain is)

vote_kept : (a : AttachedDevice) (o : Option ℕ) → EntryKept (vote_entry a o)
vote_kept a None = λ is. absurd (not_plain is)
vote_kept a (Some n) = λ is. absurd (not_plain is)

votes_kept : (plan : Plan) (ps : List Promised) (b : BothVotes) (attached : List AttachedDevice) → AllByRecursion EntryKept (filter_map (vote_new plan ps b) attached)
votes_kept plan ps b [] = tt
votes_kept plan ps b (a ∷ attached) =
    more EntryKept (vote_new plan ps b a) (filter_map (vote_new plan ps b) attached)
    (if_either (λ o. IfSome o EntryKept) (is_quorum b a.device && is_reachable plan a) (Some (vote_entry a (first_seizer plan ps a))) None (vote_kept a (first_seizer plan ps a)) tt)
    (votes_kept plan ps b attached)

entries_kept : (s : AttemptState) (o : Option BothVotes) → AllByRecursion EntryKept (vote_entries_under s o)
entries_kept s None = tt
entries_kept s (Some b) = votes_kept s.plan s.promises b s.plan.attached

plain_kept : (a : AttachedDevice) (o : Option ℕ) → IfSome (plain_entry a o) EntryKept
plain_kept a None = tt
plain_kept a (Some n) = λ is so. so

plains_kept : (plan : Plan) (devices : List Seizing) (attached : List AttachedDevice) → AllByRecursion EntryKept (filter_map (plain_new plan devices) attached)
plains_kept plan devices [] = tt
plains_kept plan devices (a ∷ attached) =
    more EntryKept (plain_new plan devices a) (filter_map (plain_new plan devices) attached)
    (if_either (λ o. IfSome o EntryKept) (is_seized devices a.device) None (plain_entry a (find (λ n. has a.nodes n) plan.nodes)) tt (plain_kept a (find (λ n. has a.nodes n) plan.nodes)))
    (plains_kept plan devices attached)

-- ---- answers

-- the answer r on device d ends no entry of a device without votes as not registered
abbrev EndsNot : List Seizing → ℕ → SeizeResult → Type 0
EndsNot es d r = (z : Seizing) → Contains es z → z.kind ≡ Plain → z.attached.device ≡ d → IsUnregistered (Some r) → ⊥

results_kept : (d : ℕ) (r : SeizeResult) (es : List Seizing) → EndsNot es d r → AllByRecursion EntryKept es → AllByRecursion EntryKept (map (with_result d r) es)
results_kept d r [] f k = tt
results_kept d r (e ∷ es) f k =
    let test : Bool = (e.attached.device == d) && is_none e.result in (
      if_with EntryKept test test (record e { result = Some r }) e refl
          (λ is plain. f e (Contains-here e es) plain (same_number e.attached.device d (and_cases (e.attached.device == d) (is_none e.result) is).0)) (λ is. k.0),
      results_kept d r es (λ z later. f z (Contains-later e es z later)) k.1,
    )

nexts_kept : (d n : ℕ) (es : List Seizing) → AllByRecursion EntryKept es → AllByRecursion EntryKept (map (with_next d n) es)
nexts_kept d n [] k = tt
nexts_kept d n (e ∷ es) k = (
  if_either EntryKept ((e.attached.device == d) && is_none e.result) (record e { seizer = Some n; asked = set_with e.asked n }) e k.0 k.0,
  nexts_kept d n es k.1,
)

-- ---- each call

kept_walk : (c : Call) (I : AttemptState → Type 0) → ((s : AttemptState) → I s → AreKept s) → ((s : AttemptState) (d from : ℕ) (r : SeizeResult) → TellsResult c s d from r → I s → EndsNot s.devices d r)
    → Walk c I AreKept (λ t. AreKept t.after)
unfolding asked_next installing
kept_walk c I kept ends = record {
  within = λ s i. kept s i;
  rests = λ s i. kept s i;
  passes = λ s is e i. kept s i;
  again = λ s is e i. kept s i;
  silent = λ s n is late least i. kept s i;
  superseded = λ s from m q is body i. kept s i;
  promise = λ s from m p is awaited of promised i. kept s i;
  collects = λ s is e k. k;
  collecting = λ s is e k. k;
  no_newest = λ s is all none k. k;
  chosen = λ s newest is all some k. k;
  votes = λ s b is i. tt;
  foreign = λ s b n is votes least k. k;
  excluded = λ s n is least k. k;
  impossible = λ s e is short k. k;
  entries = λ s is enough k. entries_kept s s.votes;
  requests = λ s is e k. k;
  result = λ s d from r e is tells found none i. results_kept d r s.devices (ends s d from r tells i) (kept s i);
  next = λ s d from n r e is tells found next i. nexts_kept d n s.devices (kept s i);
  seizing = λ s is e k. k;
  short = λ s e is all few k. k;
  others = λ s is all enough some k. both EntryKept s.devices (plain_devices s) k (plains_kept s.plan s.devices s.plan.attached);
  installs_at_once = λ s is all enough none k. k;
  installs = λ s is all k. k;
  ready = λ s from m is at of body i. kept s i;
  own = λ s is at i. kept s i;
  installing = λ s at e k. k;
  starts = λ s at e k. k;
}

unregistered_keys : (r : SeizeResult) → IsUnregistered (Some r) → (keys : List ℕ) × (r ≡ end.NotRegistered keys)
unregistered_keys (end.NotRegistered keys) is = (keys, refl)
unregistered_keys (end.Held keys) is = absurd is
unregistered_keys (end.Greater w) is = absurd is
unregistered_keys end.Expelled is = absurd is
unregistered_keys (end.Contended key) is = absurd is
unregistered_keys end.Fault is = absurd is

-- an answer that a node is not registered is of a device with votes
abbrev pub TellsVotes : AttemptState → Call → Type 0
TellsVotes a k = (d from : ℕ) (keys : List ℕ) → TellsResult k a d from (end.NotRegistered keys) → IsVoteTo a d

vote_ends : (a : AttemptState) (d : ℕ) (z : Seizing) → IsReached a → Contains a.devices z → z.kind ≡ Plain → z.attached.device ≡ d → IsVoteTo a d → ⊥
vote_ends a d z reached listed plain here vote =
    false_true (sym (plain_has_no_votes a vote.both z reached vote.votes listed plain) ∙ subst (λ j. is_quorum vote.both j ≡ true) (sym here) vote.some)

pub turn_kept : (a : AttemptState) (k : Call) → IsReached a → TellsVotes a k → AreKept a → AreKept (turn a k).after
turn_kept a k reached tells kept =
    walks (λ s. s ≡ a) AreKept (λ t. AreKept t.after) a k
    (kept_walk k (λ s. s ≡ a) (λ s is. subst AreKept (sym is) kept) (λ s d from r told is z listed plain here so.
    let keys : (ks : List ℕ) × (r ≡ end.NotRegistered ks) = unregistered_keys r so in
    vote_ends a d z reached (subst (λ (y : AttemptState). Contains y.devices z) is listed) plain here
    (tells d from keys.0 (subst (λ y. TellsResult k y d from (end.NotRegistered keys.0)) is (subst (λ q. TellsResult k s d from q) keys.1 told))))) refl

pub begun_kept : (p members : ℕ) (own : Message) (attached : List AttachedDevice) (cluster : ℕ) → AreKept (beginning p members own attached cluster).after
unfolding beginning
begun_kept p members own attached cluster =
    walks_begun Tick (λ s. ⊥) AreKept (λ t. AreKept t.after) (kept_walk Tick (λ s. ⊥) (λ s i. absurd i) (λ s d from r told i. absurd i))
    (first_state p members own attached cluster (promises_of (promised_by own (shown_by own.sender own.body)))) refl tt

-- ---- the coordinator's own tasks

abbrev OwnVote : AttemptState → Step → Type 0
OwnVote t (steps.SeizeHere d Vote) = IsVoteTo t d
OwnVote t _ = Unit {0}

own_vote : (t : AttemptState) (s : Step) → IsReached t → AsksEntry t s → OwnVote t s
own_vote t (steps.SeizeHere d Vote) reached k =
    let g : Given t.votes = votes_given t reached k.seizing in
    let ok : EntryOk t.promises t.votes k.entry = All-contains (EntryOk t.promises t.votes) t.devices k.entry (entries_reached t reached) k.listed in
    record { past = past_of t.phase k.seizing; both = g.both; votes = g.is; some = subst (λ z. is_quorum g.both z ≡ true) k.device (ok.quorum k.as_kind g.both g.is) }
own_vote t (steps.SeizeHere d Plain) reached k = tt
own_vote t (steps.Send n m) reached k = tt
own_vote t (steps.InstallHere i) reached k = tt
own_vote t (steps.NeedVotes n) reached k = tt
own_vote t steps.StartHere reached k = tt
own_vote t (steps.Ended e) reached k = tt

pub hand_kept : (a : AttemptState) (k : Call) → IsReached a → May a k → IsReached (turn a k).after → HandKept (Some (turn a k))
hand_kept a k reached may after d is =
    own_vote (turn a k).after (steps.SeizeHere d Vote) after (among (AsksEntry (turn a k).after) (steps.SeizeHere d Vote) (turn a k).steps is (asks_are_entries a k reached may))
