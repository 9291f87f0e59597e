-- The devices that an attempt seizes are among those of the header.
use Rattle.std.proofs.Common.{◌≡◌, ℕ, ◌≤◌, List, [], ◌∷◌, map, refl, sym, subst}
use Rattle.std.specs.Prelude.{All, ◌==◌, ◌&&◌, Option, Some, None, is_none}
use Rattle.std.specs.List.{find, filter_map, cons_option}
use Rattle.std.proofs.lemmas.List.Elements.{All-nil, All-cons, All-head, All-tail, All-append}
use Rattle.cl_base.specs.Sets.{has, set_with}
use Rattle.cmm_attempt.specs.declared.attached.AttachedDevice.{AttachedDevice}
use Rattle.cmm_attempt.specs.declared.counting.BothVotes.{BothVotes}
use Rattle.cmm_attempt.specs.declared.plan.Plan.{Plan}
use Rattle.cmm_attempt.specs.declared.promised.Promised.{Promised}
use Rattle.cmm_attempt.specs.declared.seizing.Seizing.{Seizing}
use Rattle.cmm_attempt.specs.Plans.{is_reachable}
use Rattle.cmm_attempt.specs.Seizings.{is_seized, first_seizer, vote_entry, plain_entry, plain_new, with_next, with_result}
use Rattle.cmm_attempt.specs.Calls.{Call, turn, May, IsDevice, IsReached}
use Rattle.cmm_attempt.proofs.Basics.{if_either}
use Rattle.attempt_laws.proofs.StillHeld.{same_attached}
use Rattle.attempt_laws.proofs.Steady.{Steady, call_keeps, reached_keeps}
use Rattle.cmm_attempt.specs.Counts.{is_quorum, vote_new}
use Rattle.cmm_attempt.specs.Attempts.{AttemptState, plain_devices, vote_entries_under}

abbrev pub IsNumbered : Seizing → Type 0
IsNumbered e = (1 ≤ e.attached.device) × (e.attached.device ≤ 16)

abbrev pub Numbered : AttemptState → Type 0
Numbered s = All IsDevice s.plan.attached × All IsNumbered s.devices

mapped : (f : Seizing → Seizing) → ((e : Seizing) → (f e).attached ≡ e.attached) → (es : List Seizing) → All IsNumbered es → All IsNumbered (map f es)
mapped f same [] h = All-nil IsNumbered
mapped f same (e ∷ es) h =
    All-cons IsNumbered (f e) (map f es) (subst (λ a. (1 ≤ a.device) × (a.device ≤ 16)) (sym (same e)) (All-head IsNumbered e es h))
    (mapped f same es (All-tail IsNumbered e es h))

abbrev IsNumberedMaybe : Option Seizing → Type 0
IsNumberedMaybe None = Unit {0}
IsNumberedMaybe (Some e) = IsNumbered e

with_option : (o : Option Seizing) (es : List Seizing) → IsNumberedMaybe o → All IsNumbered es → All IsNumbered (cons_option o es)
with_option None es q h = h
with_option (Some e) es q h = All-cons IsNumbered e es q h

plain_entry_numbered : (a : AttachedDevice) (o : Option ℕ) → IsDevice a → IsNumberedMaybe (plain_entry a o)
plain_entry_numbered a None h = tt
plain_entry_numbered a (Some n) h = h

plain_numbered : (plan : Plan) (devices : List Seizing) (attached : List AttachedDevice) → All IsDevice attached → All IsNumbered (filter_map (plain_new plan devices) attached)
plain_numbered plan devices [] h = All-nil IsNumbered
plain_numbered plan devices (a ∷ attached) h =
    with_option (plain_new plan devices a) (filter_map (plain_new plan devices) attached)
    (if_either IsNumberedMaybe (is_seized devices a.device) None (plain_entry a (find (λ n. has a.nodes n) plan.nodes)) tt
    (plain_entry_numbered a (find (λ n. has a.nodes n) plan.nodes) (All-head IsDevice a attached h)))
    (plain_numbered plan devices attached (All-tail IsDevice a attached h))

vote_entry_numbered : (a : AttachedDevice) (o : Option ℕ) → IsDevice a → IsNumbered (vote_entry a o)
vote_entry_numbered a None h = h
vote_entry_numbered a (Some n) h = h

vote_new_numbered : (plan : Plan) (promises : List Promised) (both : BothVotes) (attached : List AttachedDevice) → All IsDevice attached
    → All IsNumbered (filter_map (vote_new plan promises both) attached)
vote_new_numbered plan promises both [] h = All-nil IsNumbered
vote_new_numbered plan promises both (a ∷ attached) h =
    with_option (vote_new plan promises both a) (filter_map (vote_new plan promises both) attached)
    (if_either IsNumberedMaybe (is_quorum both a.device && is_reachable plan a) (Some (vote_entry a (first_seizer plan promises a))) None
    (vote_entry_numbered a (first_seizer plan promises a) (All-head IsDevice a attached h)) tt)
    (vote_new_numbered plan promises both attached (All-tail IsDevice a attached h))

votes_numbered : (s : AttemptState) (o : Option BothVotes) → All IsDevice s.plan.attached → All IsNumbered (vote_entries_under s o)
votes_numbered s None h = All-nil IsNumbered
votes_numbered s (Some both) h = vote_new_numbered s.plan s.promises both s.plan.attached h

pub numbered_steady : (c : Call) → Steady c Numbered Numbered
numbered_steady c = record {
  within = λ s i. i;
  ticked = λ s i. i;
  over = λ s k. k;
  promise = λ s from message p is awaited of promised i. i;
  collecting = λ s is e k. k;
  no_newest = λ s is all none k. k;
  chosen = λ s newest is all some k. k;
  votes = λ s both is i. (i.0, All-nil IsNumbered);
  entries = λ s is k. (k.0, votes_numbered s s.votes k.0);
  result = λ s d from r is tells i.
      (i.0, mapped (with_result d r) (λ e. same_attached e (record e { result = Some r }) ((e.attached.device == d) && is_none e.result) refl) s.devices i.1);
  next = λ s d n e kind r is found i.
      (i.0, mapped (with_next d n) (λ x. same_attached x (record x { seizer = Some n; asked = set_with x.asked n }) ((x.attached.device == d) && is_none x.result) refl) s.devices i.1);
  seizing = λ s is e k. k;
  counted = λ s is h k. k;
  others = λ s is ne k. (k.0, All-append IsNumbered s.devices (plain_devices s) k.1 (plain_numbered s.plan s.devices s.plan.attached k.0));
  installs = λ s is k. k;
  ready = λ s from message is at of ready_body i. i;
  own = λ s is at i. i;
  installing = λ s at e k. k;
}

pub numbered_reached : (s : AttemptState) → IsReached s → Numbered s
numbered_reached s r = reached_keeps Numbered Numbered numbered_steady s r (r.devices, All-nil IsNumbered)

-- the devices of the attempt after a call
pub numbered_by_call : (s : AttemptState) (c : Call) → IsReached s → May s c → All IsNumbered (turn s c).after.devices
numbered_by_call s c r may = (call_keeps Numbered Numbered s c (numbered_steady c) may (numbered_reached s r)).1
