-- An attempt excludes a node once each other member has promised, and it has named the newest of the records then.
use Rattle.std.specs.Prelude.{ℕ, ◌≡◌, ◌++◌, List, [], ◌∷◌, Some}
use Rattle.std.specs.List.{filter_map}
use Rattle.std.proofs.Common.{sym, subst, ◌∙◌}
use Rattle.attempt_laws.proofs.Goes.{ChosenIn, IsChosen, IsChosenIn, chosen_reached}
use Rattle.attempt_laws.proofs.QuietLemmas.{IsQuiet, quiet_again_in, quiet_asked, quiet_collects, quiet_installed, quiet_none, quiet_requests, quiet_starts}
use Rattle.attempt_laws.proofs.Walk.{Walk, awaits_collecting, walks}
use Rattle.cmm_attempt.proofs.Basics.{false_true, none_some, same_some}
use Rattle.cmm_attempt.specs.Attempts.{AttemptState, Turn, again_in, asked_next, collects, in_phase, installing, later, plain_devices, with_steps}
use Rattle.cmm_attempt.specs.Calls.{Call, May, end_in, turn}
use Rattle.cmm_attempt.specs.Seizings.{held_set, request_for}
use Rattle.cmm_attempt.specs.declared.phase.Phase.TheVariants.{Installing, Over, SeizingOthers, SeizingVotes}
use Rattle.cmm_attempt.specs.declared.step.AttemptEnd.{AttemptEnd}
use Rattle.cmm_attempt.specs.declared.step.AttemptEnd.TheVariants as end
use Rattle.cmm_attempt.specs.declared.step.Step.{Step}
use Rattle.cmm_attempt.specs.declared.step.Step.TheVariants as step
use Rattle.cmm_member.specs.Records.{NodeRecord}
use Rattle.membership_machine.specs.State.{Memberships}
use Rattle.node_model.specs.declared.cluster.Cluster.{Cluster}
use Rattle.node_model.specs.declared.node.Node.{Node}
use Rattle.node_model.specs.declared.node.Node.TheVariants.{Down, Up}
use Rattle.node_model.specs.declared.node.UpNode.{UpNode}
use Rattle.refinement.proofs.Attempts.{may_be_called}
use Rattle.refinement.specs.Doings.{Act, Change, Doing, site}
use Rattle.refinement.specs.Doings.Act.{Goes_on, Makes, Queues, Writes}
use Rattle.refinement.specs.Doings.Change.{Counts, Starts}
use Rattle.refinement.specs.Doings.Doing.{Comes_up, Does, Forgets, Goes_down, Loses, Saves}
use Rattle.refinement.specs.Guards.{May as MayDo, MayAct, MayChange}
use Rattle.refinement.specs.Ties.{Delivered, NodeTied}
use Rattle.run_outcomes.specs.counts.Ends.{Last, last_after, last_by, last_by_change}
use Rattle.run_outcomes.proofs.counts.Ended.{Tied, tied_of}
use Rattle.run_outcomes.proofs.counts.Given.{call_ends_so}
use Rattle.run_outcomes.specs.panics.Sites.{LastNamed}

abbrev Named : AttemptState → Type 0
Named s = IsChosen s.promises s.plan.nodes s.newest

abbrev EndsNamed : Turn → Type 0
EndsNamed t = (m : ℕ) → end_in t.steps ≡ Some (end.Excluded m) → Named t.after

quiet_so : (t : AttemptState) (steps : List Step) → IsQuiet steps → EndsNamed (with_steps t steps)
quiet_so t steps q m is = absurd (none_some (end.Excluded m) (sym q.end ∙ is))

quiet_turn : (t : Turn) → IsQuiet t.steps → EndsNamed t
quiet_turn t q m is = absurd (none_some (end.Excluded m) (sym q.end ∙ is))

abbrev IsOther : AttemptEnd → Type 0
IsOther (end.Excluded m) = ⊥
IsOther _ = Unit {0}

other_so : (t : AttemptState) (e : AttemptEnd) → IsOther e → EndsNamed (with_steps t (step.Ended e ∷ []))
other_so t e other m is = absurd (subst IsOther (same_some e (end.Excluded m) is) other)

abbrev Between : AttemptState → Type 0
Between s = ChosenIn s s.phase

seeking : (s : AttemptState) → s.phase ≡ SeizingVotes → Between s → Named s
seeking s is k = subst (ChosenIn s) is k

walk : (c : Call) → Walk c (λ s. Between s × May s c) Between EndsNamed
unfolding asked_next installing
walk c = record {
  within = λ s i. i.0;
  rests = λ s i. quiet_so s [] quiet_none;
  passes = λ s is e i. quiet_so (record s { ticks = later s.ticks }) [] quiet_none;
  again = λ s is e i. quiet_so (record s { ticks = later s.ticks }) (again_in (record s { ticks = later s.ticks }) s.phase) (quiet_again_in (record s { ticks = later s.ticks }) s.phase);
  silent = λ s n is late least i. other_so (record s { ticks = later s.ticks; phase = Over }) (end.Silent n) tt;
  superseded = λ s from m q is nack i. other_so (record s { phase = Over }) (end.Superseded q) tt;
  promise = λ s from m p is awaited of promised i. subst (IsChosenIn (s.promises ++ p ∷ []) s.plan.nodes s.newest) (sym (awaits_collecting s from s.phase awaited)) tt;
  collects = λ s is e k. quiet_so s (collects s) (quiet_collects s);
  collecting = λ s is e k. quiet_so s [] quiet_none;
  no_newest = λ s is all none k. quiet_so s [] quiet_none;
  chosen = λ s newest is all some k m ends. absurd (none_some (end.Excluded m) ends);
  votes = λ s both is i. subst (ChosenIn s) (subst (May s) is i.1) i.0;
  foreign = λ s both n is given least k m ends. seeking s is k;
  excluded = λ s n is least k m ends. seeking s is k;
  impossible = λ s e is short k m ends. seeking s is k;
  entries = λ s is enough k. k;
  requests = λ s is e k. quiet_so s (filter_map (request_for s.plan) s.devices) (quiet_requests s.plan s.devices);
  result = λ s d from r e is tells found none i. i.0;
  next = λ s d from n r e is tells found next i. quiet_turn (asked_next s d e.kind n) (quiet_asked s.plan e.kind d n);
  seizing = λ s is e k. quiet_so s [] quiet_none;
  short = λ s e is all few k m ends. seeking s is k;
  others = λ s is all enough some k. quiet_so (record (in_phase s SeizingOthers) { counted = held_set s.devices; devices = s.devices ++ plain_devices s }) (filter_map (request_for s.plan) (plain_devices s)) (quiet_requests s.plan (plain_devices s));
  installs_at_once = λ s is all enough none k. quiet_turn (installing (record s { counted = held_set s.devices })) (quiet_installed (in_phase (record s { counted = held_set s.devices }) Installing));
  installs = λ s is all k. quiet_turn (installing s) (quiet_installed (in_phase s Installing));
  ready = λ s from m is at of ready_body i. i.0;
  own = λ s is at i. i.0;
  installing = λ s at e k. quiet_so s [] quiet_none;
  starts = λ s at e k m ends. absurd (none_some (end.Excluded m) (sym (quiet_starts s).end ∙ ends));
}

call_named : (a : AttemptState) (k : Call) → May a k → ChosenIn a a.phase → EndsNamed (turn a k)
call_named a k may chosen = walks (λ s. Between s × May s k) Between EndsNamed a k (walk k) (chosen, may)

-- ---- the last call

change_named : (c : Cluster) (n : ℕ) (told : Delivered) (x : UpNode) (change : Change) (last : Last) → MayChange c n told x change → LastNamed (last_by_change last change)
change_named c n told x (Counts a k s i) last may = λ m is. absurd (none_some i (sym (call_ends_so a k (end.Excluded m) is).installs ∙ may.3))
change_named c n told x (Starts a k s) last may = λ m is. absurd (false_true (sym (call_ends_so a k (end.Excluded m) is).starts ∙ may.3))
change_named c n told x _ last may = tt

act_named : (c : Cluster) (M : Memberships) (n : ℕ) (told : Delivered) (x : UpNode) (disk : NodeRecord) (a : Act) (last : Last) → NodeTied c M n disk (Up x) → MayAct c n told x a → LastNamed last → LastNamed (last_by last a)
act_named c M n told x disk (Goes_on a k) last tied may h =
    let t : Tied c M n a = tied_of c M n disk x a tied may.0 in
    call_named a k (may_be_called c told a k may.1) (chosen_reached a t.co.reached)
act_named c M n told x disk (Queues a d kind) last tied may h = h
act_named c M n told x disk (Writes to b) last tied may h = h
act_named c M n told x disk (Makes change) last tied may h = change_named c n told x change last may.0
act_named c M n told x disk _ last tied may h = tt

pub doing_named : (c : Cluster) (M : Memberships) (n : ℕ) (told : Delivered) (node : Node) (disk : NodeRecord) (d : Doing) (last : Last) → NodeTied c M n disk node → MayDo c n told (site node disk) d → LastNamed last → LastNamed (last_after last d)
doing_named c M n told (Up x) disk (Does a) last tied may h = act_named c M n told x disk a last tied may h
doing_named c M n told (Up x) disk (Saves change) last tied may h = change_named c n told x change last may
doing_named c M n told Down disk (Does a) last tied may h = absurd may
doing_named c M n told Down disk (Saves change) last tied may h = absurd may
doing_named c M n told node disk Comes_up last tied may h = tt
doing_named c M n told node disk (Goes_down why) last tied may h = tt
doing_named c M n told node disk (Loses change why) last tied may h = tt
doing_named c M n told node disk (Forgets change why) last tied may h = tt
