-- An attempt excludes a node while it seeks a majority: the machine has not counted it then.
use Rattle.std.specs.Prelude.{ℕ, ◌≡◌, ◌⊎◌, Bool, true, false, List, [], ◌∷◌, Some}
use Rattle.std.specs.List.{filter_map}
use Rattle.std.proofs.Common.{refl, sym, ap, subst, ◌∙◌, inl, inr}
use Rattle.attempt_laws.proofs.QuietLemmas.{IsQuiet, quiet_again_in, quiet_asked, quiet_collects, quiet_installed, quiet_none, quiet_requests, quiet_starts}
use Rattle.attempt_laws.proofs.Stays.{plan_stays}
use Rattle.attempt_laws.proofs.Walk.{Walk, walks}
use Rattle.cmm_attempt.proofs.Basics.{false_true, none_some, same_some}
use Rattle.cmm_attempt.specs.Attempts.{AttemptState, Turn, again_in, asked_next, collects, in_phase, installing, later, plain_devices}
use Rattle.cmm_attempt.specs.Calls.{Call, With_votes, end_in, turn}
use Rattle.cmm_attempt.specs.Seizings.{held_set, request_for}
use Rattle.cmm_attempt.specs.declared.counting.BothVotes.{BothVotes}
use Rattle.cmm_attempt.specs.declared.phase.Phase.TheVariants.{SeizingVotes, Installing}
use Rattle.cmm_attempt.specs.declared.plan.Plan.{Plan}
use Rattle.cmm_attempt.specs.declared.step.AttemptEnd.{AttemptEnd}
use Rattle.cmm_attempt.specs.declared.step.AttemptEnd.TheVariants as end
use Rattle.cmm_attempt.specs.declared.step.Step.{Step}
use Rattle.cmm_attempt.specs.declared.step.Step.TheVariants as step
use Rattle.cmm_member.specs.Nodes.{NodeState}
use Rattle.cmm_member.specs.Records.{NodeRecord}
use Rattle.membership_machine.specs.Events.{Run}
use Rattle.membership_machine.specs.Invariant.{Holds}
use Rattle.membership_machine.specs.State.{Memberships}
use Rattle.node_model.specs.declared.cluster.Cluster.{Cluster}
use Rattle.node_model.specs.declared.node.Node.{Node}
use Rattle.node_model.specs.declared.node.Node.TheVariants.{Down, Up}
use Rattle.node_model.specs.declared.node.UpNode.{UpNode}
use Rattle.refinement.proofs.Attempts.{may_be_called, seeking_not_counted}
use Rattle.refinement.specs.Doings.{Act, Change, Doing, site}
use Rattle.refinement.specs.Doings.Act.{Goes_on, Makes, Queues, Writes}
use Rattle.refinement.specs.Doings.Change.{Counts, Starts}
use Rattle.refinement.specs.Doings.Doing.{Comes_up, Does, Forgets, Goes_down, Loses, Saves}
use Rattle.refinement.specs.Events.{of_act, of_doing}
use Rattle.refinement.specs.Guards.{May, MayAct, MayCall, MayChange}
use Rattle.refinement.specs.Ties.{Coordinates, Delivered, NodeTied, Seeks, setting_of}
use Rattle.run_outcomes.specs.counts.Ends.{Last, last_after, last_by, last_by_change}
use Rattle.run_outcomes.proofs.counts.Ended.{Tied, tied_of}
use Rattle.run_outcomes.proofs.counts.Given.{call_ends_so}
use Rattle.run_outcomes.specs.exclusions.Sites.{LastTied}

-- the call gives the votes, or the attempt seizes devices for them
abbrev pub IsSought : AttemptState → Call → Type 0
IsSought a c = ((both : BothVotes) × (c ≡ With_votes both)) ⊎ (a.phase ≡ SeizingVotes)

abbrev IsExcluding : AttemptEnd → Type 0
IsExcluding (end.Excluded m) = Unit {0}
IsExcluding _ = ⊥

abbrev Gives : AttemptState → Call → List Step → Type 0
Gives a c steps = (why : AttemptEnd) → end_in steps ≡ Some why → IsExcluding why → IsSought a c

abbrev EndsSo : AttemptState → Call → Turn → Type 0
EndsSo a c t = Gives a c t.steps

quiet_so : (a : AttemptState) (c : Call) (steps : List Step) → IsQuiet steps → Gives a c steps
quiet_so a c steps q why is excluding = absurd (none_some why (sym q.end ∙ is))

abbrev Between : AttemptState → Call → AttemptState → Type 0
Between a c s = s.phase ≡ SeizingVotes → IsSought a c

at_first : (a : AttemptState) (c : Call) (s : AttemptState) → s ≡ a → Between a c s
at_first a c s same is = inr (ap (λ (z : AttemptState). z.phase) (sym same) ∙ is)

other_so : (a : AttemptState) (c : Call) (e : AttemptEnd) → (IsExcluding e → ⊥) → Gives a c (step.Ended e ∷ [])
other_so a c e other why is excluding = absurd (other (subst IsExcluding (sym (same_some e why is)) excluding))

walk : (a : AttemptState) (c : Call) → Walk c (λ s. s ≡ a) (Between a c) (EndsSo a c)
unfolding asked_next installing
walk a c = record {
  within = λ s i. at_first a c s i;
  rests = λ s i. quiet_so a c [] quiet_none;
  passes = λ s is e i. quiet_so a c [] quiet_none;
  again = λ s is e i. quiet_so a c (again_in (record s { ticks = later s.ticks }) s.phase) (quiet_again_in (record s { ticks = later s.ticks }) s.phase);
  silent = λ s n is late least i. other_so a c (end.Silent n) (λ h. h);
  superseded = λ s from m q is nack i. other_so a c (end.Superseded q) (λ h. h);
  promise = λ s from m p is awaited of promised i. at_first a c s i;
  collects = λ s is e k. quiet_so a c (collects s) (quiet_collects s);
  collecting = λ s is e k. quiet_so a c [] quiet_none;
  no_newest = λ s is all none k. quiet_so a c [] quiet_none;
  chosen = λ s newest is all some k why ends. absurd (none_some why ends);
  votes = λ s both is i phase. inl (both, is);
  foreign = λ s both n is given least k why ends excluding. k is;
  excluded = λ s n is least k why ends excluding. k is;
  impossible = λ s e is short k why ends excluding. k is;
  entries = λ s is enough k. k;
  requests = λ s is e k. quiet_so a c (filter_map (request_for s.plan) s.devices) (quiet_requests s.plan s.devices);
  result = λ s d from r e is tells found none i. at_first a c s i;
  next = λ s d from n r e is tells found next i. quiet_so a c _ (quiet_asked s.plan e.kind d n);
  seizing = λ s is e k. quiet_so a c [] quiet_none;
  short = λ s e is all few k why ends excluding. k is;
  others = λ s is all enough some k. quiet_so a c _ (quiet_requests s.plan (plain_devices s));
  installs_at_once = λ s is all enough none k. quiet_so a c _ (quiet_installed (in_phase (record s { counted = held_set s.devices }) Installing));
  installs = λ s is all k. quiet_so a c _ (quiet_installed (in_phase s Installing));
  ready = λ s from m is at of ready_body i. at_first a c s i;
  own = λ s is at i. at_first a c s i;
  installing = λ s at e k. quiet_so a c [] quiet_none;
  starts = λ s at e k why ends. absurd (none_some why (sym (quiet_starts s).end ∙ ends));
}

pub is_sought : (a : AttemptState) (c : Call) (m : ℕ) → end_in (turn a c).steps ≡ Some (end.Excluded m) → IsSought a c
is_sought a c m is = walks (λ s. s ≡ a) (Between a c) (EndsSo a c) a c (walk a c) refl (end.Excluded m) is tt

-- ---- so it is not counted

not_true : (b : Bool) → (b ≡ true → ⊥) → b ≡ false
not_true true h = absurd (h refl)
not_true false h = refl

uncounted : (c : Cluster) (M : Memberships) (n : ℕ) (told : Delivered) (s : NodeState) (a : AttemptState) (k : Call) (m : ℕ) → Holds (setting_of c) M → (M.node n).session ≡ s.session → Coordinates c M n s a → MayCall c told a k
    → end_in (turn a k).steps ≡ Some (end.Excluded m) → (M.epoch (turn a k).after.plan.epoch).counted ≡ false
uncounted c M n told s a k m holds session co may is =
    subst (λ (p : Plan). (M.epoch p.epoch).counted ≡ false) (sym (plan_stays a k (may_be_called c told a k may)))
    (not_true (M.epoch a.plan.epoch).counted (seeking_not_counted c M n s a holds session co (by_source (is_sought a k m is))))
  where
    by_source : IsSought a k → (M.node n).seeking ≡ true
    by_source (inl (both, at)) =
        let call : MayCall c told a (With_votes both) = subst (MayCall c told a) at may in
        subst (Seeks (M.node n).seeking) call.1 co.seeks
    by_source (inr at) = subst (Seeks (M.node n).seeking) at co.seeks

-- ---- the last call

change_tied : (c : Cluster) (N : Memberships) (n : ℕ) (told : Delivered) (x : UpNode) (change : Change) (last : Last) → MayChange c n told x change → LastTied N (last_by_change last change)
change_tied c N n told x (Counts a k s i) last may = λ m is. absurd (none_some i (sym (call_ends_so a k (end.Excluded m) is).installs ∙ may.3))
change_tied c N n told x (Starts a k s) last may = λ m is. absurd (false_true (sym (call_ends_so a k (end.Excluded m) is).starts ∙ may.3))
change_tied c N n told x _ last may = tt

same_tied : (M N : Memberships) (last : Last) → N ≡ M → LastTied M last → LastTied N last
same_tied M N last same h = subst (λ Z. LastTied Z last) (sym same) h

call_tied : (c : Cluster) (M N : Memberships) (n : ℕ) (told : Delivered) (x : UpNode) (disk : NodeRecord) (a : AttemptState) (k : Call) → Holds (setting_of c) M → NodeTied c M n disk (Up x) → MayAct c n told x (Goes_on a k) → N ≡ M → LastTied N (Some (a, k))
call_tied c M N n told x disk a k holds tied may same = λ m is.
    let t : Tied c M n a = tied_of c M n disk x a tied may.0 in
    subst (λ Z. (Z.epoch (turn a k).after.plan.epoch).counted ≡ false) (sym same) (uncounted c M n told t.state a k m holds t.session t.co may.1 is)

act_tied : (c : Cluster) (M N : Memberships) (n : ℕ) (told : Delivered) (x : UpNode) (disk : NodeRecord) (a : Act) (last : Last) → Holds (setting_of c) M → NodeTied c M n disk (Up x) → MayAct c n told x a → Run (setting_of c) M (of_act n a) N
    → LastTied M last → LastTied N (last_by last a)
act_tied c M N n told x disk (Goes_on a k) last holds tied may run h = call_tied c M N n told x disk a k holds tied may run
act_tied c M N n told x disk (Queues a d kind) last holds tied may run h = same_tied M N last run h
act_tied c M N n told x disk (Writes to b) last holds tied may run h = same_tied M N last run h
act_tied c M N n told x disk (Makes change) last holds tied may run h = change_tied c N n told x change last may.0
act_tied c M N n told x disk _ last holds tied may run h = tt

pub doing_tied : (c : Cluster) (M N : Memberships) (n : ℕ) (told : Delivered) (node : Node) (disk : NodeRecord) (d : Doing) (last : Last) → Holds (setting_of c) M → NodeTied c M n disk node → May c n told (site node disk) d
    → Run (setting_of c) M (of_doing n d) N → LastTied M last → LastTied N (last_after last d)
doing_tied c M N n told (Up x) disk (Does a) last holds tied may run h = act_tied c M N n told x disk a last holds tied may run h
doing_tied c M N n told (Up x) disk (Saves change) last holds tied may run h = change_tied c N n told x change last may
doing_tied c M N n told Down disk (Does a) last holds tied may run h = absurd may
doing_tied c M N n told Down disk (Saves change) last holds tied may run h = absurd may
doing_tied c M N n told node disk Comes_up last holds tied may run h = tt
doing_tied c M N n told node disk (Goes_down why) last holds tied may run h = tt
doing_tied c M N n told node disk (Loses change why) last holds tied may run h = tt
doing_tied c M N n told node disk (Forgets change why) last holds tied may run h = tt
