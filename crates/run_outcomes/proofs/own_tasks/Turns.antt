-- Each call of an attempt, with the tasks that its steps begin: they match the entries that it leaves.
use Rattle.std.specs.Prelude.{ℕ, ◌≡◌, ◌==◌, ◌++◌, ◌≤◌, Bool, true, false, List, [], ◌∷◌, length, map, Option, None, Some, if◌then◌else◌}
use Rattle.std.specs.List.{AllByRecursion, cons_option, filter_map, find}
use Rattle.std.proofs.Common.{refl, sym, ap, subst, inl, inr}
use Rattle.attempt_laws.specs.Asking.{AreApart, entry_numbers}
use Rattle.attempt_laws.specs.Staying.{IsFinal}
use Rattle.cl_base.specs.Seizings.{SeizeResult}
use Rattle.cl_base.specs.Sets.{has}
use Rattle.cmm_attempt.proofs.Basics.{false_true, if_either}
use Rattle.cmm_attempt.specs.Attempts.{AttemptState, admitted, answered_on, answering, answering_in, asked_next, asked_votes, counted_by, counting, ends, in_phase, installing, known, knowing, next_asked, own_answering, plain_devices, possible, proceeding, seizing_others, seizing_votes, settled, settled_in, shortage, vote_entries, voting, waits, with_steps}
use Rattle.cmm_attempt.specs.Counts.{first_foreign, reached_set}
use Rattle.cmm_attempt.specs.Promises.{first_left_out, newest_shown}
use Rattle.cmm_attempt.specs.Seizings.{all_settled, awaits, held_set, next_by, request_body, request_by, request_for, with_next, with_result}
use Rattle.cmm_attempt.specs.declared.counting.BothVotes.{BothVotes}
use Rattle.cmm_attempt.specs.declared.phase.Phase.{Phase}
use Rattle.cmm_attempt.specs.declared.phase.Phase.TheVariants.{Choosing, Collecting, Installing, Over, SeizingOthers, SeizingVotes}
use Rattle.cmm_attempt.specs.declared.plan.Plan.{Plan}
use Rattle.cmm_attempt.specs.declared.promised.Promised.{Promised}
use Rattle.cmm_attempt.specs.declared.seizing.Seizing.{Seizing}
use Rattle.cmm_attempt.specs.declared.step.AttemptEnd.{AttemptEnd}
use Rattle.cmm_attempt.specs.declared.step.Step.{Step}
use Rattle.cmm_attempt.specs.declared.step.Step.TheVariants.{Send, SeizeHere}
use Rattle.device_queue.specs.declared.task.Task.{Task}
use Rattle.seize.specs.Seizing as seizing
use Rattle.seize.specs.Seizing.{SeizeState}
use Rattle.seize.specs.declared.kind.SeizeKind.{SeizeKind}
use Rattle.run_outcomes.specs.phases.Laws.{is_seizing}
use Rattle.run_outcomes.specs.tasks.Laws.{IsUnregistered}
use Rattle.run_outcomes.specs.tasks.Own.{IsEarly, IsEnded, IsFinalWhere, IsFirstOf, IsOrdered, IsOwn, IsOwnBut, Match, Owns, OwnsAfter, with_own}
use Rattle.run_outcomes.proofs.own_tasks.Matching.{of_test}
use Rattle.run_outcomes.proofs.own_tasks.Requests.{IsFresh, requests_match, settled_match}
use Rattle.run_outcomes.proofs.own_tasks.Entries.{found_node, plains_fresh, votes_fresh}
use Rattle.run_outcomes.proofs.own_tasks.Answered.{IsNext, IsNotOwn, next_other, next_so, not_own, others_asked, others_settled, own_asked, own_settled}

-- ---- phases

final_early : (p : Phase) → IsFinal p → IsEarly p → ⊥
final_early Installing f e = e
final_early Over f e = e
final_early Collecting f e = f
final_early Choosing f e = f
final_early SeizingVotes f e = f
final_early SeizingOthers f e = f

final_seizing : (p : Phase) → IsFinal p → is_seizing p ≡ true → ⊥
final_seizing Installing f e = false_true e
final_seizing Over f e = false_true e
final_seizing Collecting f e = f
final_seizing Choosing f e = f
final_seizing SeizingVotes f e = f
final_seizing SeizingOthers f e = f

early_seizing : (p : Phase) → IsEarly p → is_seizing p ≡ true → ⊥
early_seizing Collecting f e = false_true e
early_seizing Choosing f e = false_true e
early_seizing Installing f e = f
early_seizing Over f e = f
early_seizing SeizingVotes f e = f
early_seizing SeizingOthers f e = f

pub final_owns : (n : ℕ) (ts : List Task) (a : AttemptState) → IsFinal a.phase → Owns n ts a
final_owns n ts a final = record { idle = λ early. absurd (final_early a.phase final early); seizes = λ is ok. absurd (final_seizing a.phase final is) }

pub early_owns : (n : ℕ) (ts : List Task) (a : AttemptState) → IsEarly a.phase → ts ≡ [] → Owns n ts a
early_owns n ts a early none = record { idle = λ e. none; seizes = λ is ok. absurd (early_seizing a.phase early is) }

seizing_owns : (n : ℕ) (ts : List Task) (a : AttemptState) → is_seizing a.phase ≡ true → (IsOrdered n a → Match (IsOwn a.plan.coordinator) a.plan.coordinator a.promises a.devices ts) → Owns n ts a
seizing_owns n ts a is h = record { idle = λ early. absurd (early_seizing a.phase early is); seizes = λ k ok. h ok }

-- ---- turns

module _ (n : ℕ) (begun : ℕ → SeizeKind → SeizeState) (none : (d : ℕ) (kind : SeizeKind) → seizing.result_of (begun d kind) ≡ None) where
  pub waits_owns : (ts : List Task) (s : AttemptState) → Owns n ts s → OwnsAfter n begun ts (waits s)
  waits_owns ts s h = record { owns = h; final = tt }

  pub ends_owns : (ts : List Task) (s : AttemptState) (e : AttemptEnd) → OwnsAfter n begun ts (ends s e)
  ends_owns ts s e = record { owns = final_owns n ts (record s { phase = Over }) tt; final = tt }

  installing_owns : (ts : List Task) (s : AttemptState) → OwnsAfter n begun ts (installing s)
  unfolding installing
  installing_owns ts s = record { owns = final_owns n _ (in_phase s Installing) tt; final = tt }

  requests_final : (plan : Plan) (phase : Phase) (es : List Seizing) → IsFinalWhere (filter_map (request_for plan) es) phase
  requests_final plan phase [] = tt
  requests_final plan phase (e ∷ es) = by_entry e.result e.seizer (requests_final plan phase es)
    where
      by_entry : (r : Option SeizeResult) (o : Option ℕ) → IsFinalWhere (filter_map (request_for plan) es) phase → IsFinalWhere (cons_option (request_by plan e r o) (filter_map (request_for plan) es)) phase
      by_entry (Some r) o rest = rest
      by_entry None None rest = rest
      by_entry None (Some m) rest =
          if_either (λ (x : Step). IsFinalWhere (x ∷ filter_map (request_for plan) es) phase) (m == plan.coordinator) (SeizeHere e.attached.device e.kind)
          (Send m (record { sender = plan.coordinator; body = request_body plan e.kind e.attached.device })) tt tt

  -- requests to seize these devices, behind those that are there
  requests_own : (plan : Plan) (promises : List Promised) (es more : List Seizing) (ts : List Task) → has plan.members n ≡ true → IsFirstOf plan
      → Match (IsOwn plan.coordinator) plan.coordinator promises es ts → AllByRecursion (IsFresh plan.coordinator promises) more → AreApart (entry_numbers (es ++ more))
      → Match (IsOwn plan.coordinator) plan.coordinator promises (es ++ more) (with_own (has plan.members n) begun (filter_map (request_for plan) more) ts)
  requests_own plan promises es more ts member ok h fresh apart =
      subst (λ b. Match (IsOwn plan.coordinator) plan.coordinator promises (es ++ more) (with_own b begun (filter_map (request_for plan) more) ts)) (sym member) (requests_match plan promises begun none more es ts h fresh apart)

  -- ---- the votes are counted, and the other devices are to be seized

  others_owns : (ts : List Task) (s : AttemptState) → (IsFirstOf s.plan → Match (IsOwn s.plan.coordinator) s.plan.coordinator s.promises s.devices ts) → OwnsAfter n begun ts (seizing_others s)
  unfolding seizing_others
  others_owns ts s h =
      let more : List Seizing = plain_devices s in
      let t : AttemptState = record (in_phase s SeizingOthers) { devices = s.devices ++ more } in
      if_either (OwnsAfter n begun ts) (length more == 0) (installing s) (with_steps t (filter_map (request_for s.plan) more)) (installing_owns ts s)
      (record {
        owns = seizing_owns n _ t refl (λ ok. requests_own s.plan s.promises s.devices more ts ok.member ok.plan (h ok.plan) (plains_fresh s ok.plan) ok.apart);
        final = requests_final s.plan SeizingOthers more;
      })

  counted_owns : (ts : List Task) (s : AttemptState) (o : Option AttemptEnd) → (IsFirstOf s.plan → Match (IsOwn s.plan.coordinator) s.plan.coordinator s.promises s.devices ts) → OwnsAfter n begun ts (counted_by s o)
  counted_owns ts s (Some e) h = ends_owns ts s e
  counted_owns ts s None h = others_owns ts (record s { counted = held_set s.devices }) h

  counting_owns : (ts : List Task) (s : AttemptState) → (IsFirstOf s.plan → Match (IsOwn s.plan.coordinator) s.plan.coordinator s.promises s.devices ts) → OwnsAfter n begun ts (counting s)
  unfolding counting
  counting_owns ts s h = counted_owns ts s (shortage s (held_set s.devices)) h

  -- ---- the votes are given

  asked_owns : (s : AttemptState) → s.phase ≡ SeizingVotes → (IsFirstOf s.plan → AllByRecursion (IsFresh s.plan.coordinator s.promises) s.devices) → OwnsAfter n begun [] (asked_votes s)
  unfolding asked_votes
  asked_owns s at fresh =
      of_test (OwnsAfter n begun []) (all_settled s.devices) (counting s) (with_steps s (filter_map (request_for s.plan) s.devices))
      (λ all. counting_owns [] s (λ ok. settled_match s.plan.coordinator s.promises s.devices (fresh ok) all))
      (λ some. record {
        owns = seizing_owns n _ s (ap is_seizing at) (λ ok. requests_own s.plan s.promises [] s.devices [] ok.member ok.plan refl (fresh ok.plan) ok.apart);
        final = requests_final s.plan s.phase s.devices;
      })

  entries_owns : (s : AttemptState) → s.phase ≡ SeizingVotes → OwnsAfter n begun [] (seizing_votes s)
  unfolding seizing_votes
  entries_owns s at = asked_owns (record s { devices = vote_entries s }) at (λ ok. votes_fresh s s.votes ok)

  possible_owns : (s : AttemptState) (o : Option AttemptEnd) → s.phase ≡ SeizingVotes → OwnsAfter n begun [] (possible s o)
  possible_owns s (Some e) at = ends_owns [] s e
  possible_owns s None at = entries_owns s at

  known_owns : (s : AttemptState) (o : Option ℕ) → s.phase ≡ SeizingVotes → OwnsAfter n begun [] (known s o)
  known_owns s (Some m) at = ends_owns [] s _
  known_owns s None at = possible_owns s (shortage s (reached_set s.plan)) at

  admitted_owns : (s : AttemptState) (o : Option ℕ) → s.phase ≡ SeizingVotes → OwnsAfter n begun [] (admitted s o)
  unfolding knowing
  admitted_owns s (Some m) at = ends_owns [] s _
  admitted_owns s None at = known_owns s (first_left_out s.promises s.plan.nodes (newest_shown s.promises)) at

  pub voting_owns : (ts : List Task) (s : AttemptState) (both : BothVotes) → ts ≡ [] → OwnsAfter n begun ts (voting s both)
  unfolding voting
  voting_owns ts s both is =
      let t : AttemptState = record (in_phase s SeizingVotes) { votes = Some both; devices = [] } in
      subst (λ us. OwnsAfter n begun us (admitted t (first_foreign both s.plan.nodes))) (sym is) (admitted_owns t (first_foreign both s.plan.nodes) refl)

  -- ---- a seizing ends, or the next node is asked

  settled_in_owns : (ts : List Task) (s : AttemptState) (p : Phase) → is_seizing p ≡ true → Match (IsOwn s.plan.coordinator) s.plan.coordinator s.promises s.devices ts → OwnsAfter n begun ts (settled_in s p)
  settled_in_owns ts s SeizingVotes is h = counting_owns ts s (λ ok. h)
  settled_in_owns ts s SeizingOthers is h = installing_owns ts s
  settled_in_owns ts s _ is h = absurd (false_true is)

  proceeding_owns : (ts : List Task) (s : AttemptState) → is_seizing s.phase ≡ true → Match (IsOwn s.plan.coordinator) s.plan.coordinator s.promises s.devices ts → OwnsAfter n begun ts (proceeding s)
  unfolding proceeding
  proceeding_owns ts s is h =
      if_either (OwnsAfter n begun ts) (all_settled s.devices) (settled_in s s.phase) (waits s) (settled_in_owns ts s s.phase is h) (waits_owns ts s (seizing_owns n ts s is (λ ok. h)))

  settled_owns : (ts : List Task) (s : AttemptState) (d : ℕ) (r : SeizeResult) → is_seizing s.phase ≡ true
      → Match (IsOwn s.plan.coordinator) s.plan.coordinator s.promises (map (with_result d r) s.devices) ts → OwnsAfter n begun ts (settled s d r)
  unfolding settled
  settled_owns ts s d r is h = proceeding_owns ts (record s { devices = map (with_result d r) s.devices }) is h

  next_owns : (ts : List Task) (s : AttemptState) (d m : ℕ) (kind : SeizeKind) → is_seizing s.phase ≡ true → (m == s.plan.coordinator) ≡ false
      → Match (IsOwn s.plan.coordinator) s.plan.coordinator s.promises (map (with_next d m) s.devices) ts → OwnsAfter n begun ts (asked_next s d kind m)
  unfolding asked_next
  next_owns ts s d m kind is other h =
      let t : AttemptState = record s { devices = map (with_next d m) s.devices; ticks = 0 } in
      subst (λ b. OwnsAfter n begun ts (with_steps t ((if b then SeizeHere d kind else Send m (record { sender = s.plan.coordinator; body = request_body s.plan kind d })) ∷ []))) (sym other)
      (record { owns = seizing_owns n ts t is (λ ok. h); final = tt })

  -- what an answer makes of the entries, where it ends the seizing, and where another is asked next
  next_asked_owns : (A : Seizing → Task → Type 0) (ts : List Task) (s : AttemptState) (d from : ℕ) (r : SeizeResult) (e : Seizing) (o : Option ℕ) → is_seizing s.phase ≡ true → IsOrdered n s
      → ((x : Seizing) (t : Task) → A x t → has x.asked s.plan.coordinator ≡ true) → Match A s.plan.coordinator s.promises s.devices ts → find (awaits d from) s.devices ≡ Some e
      → Match (IsOwn s.plan.coordinator) s.plan.coordinator s.promises (map (with_result d r) s.devices) ts
      → ((m : ℕ) → 1 ≤ m → m ≤ 32 → (m == s.plan.coordinator) ≡ false → IsUnregistered (Some r) → Match (IsOwn s.plan.coordinator) s.plan.coordinator s.promises (map (with_next d m) s.devices) ts)
      → next_by s.plan.cluster s.promises s.plan.nodes e e.kind r ≡ o → OwnsAfter n begun ts (next_asked s d r e o)
  next_asked_owns A ts s d from r e None is ok asked h found ends next by = settled_owns ts s d r is ends
  next_asked_owns A ts s d from r e (Some m) is ok asked h found ends next by =
      let so : IsNext s.promises s.plan.nodes e e.kind r m = next_so s.plan.cluster s.promises s.plan.nodes e e.kind r m by in
      let other : (m == s.plan.coordinator) ≡ false = next_other A s.plan.coordinator d from m s.promises s.plan.nodes r s.devices ts e asked h found so in
      let range : (1 ≤ m) × (m ≤ 32) = found_node s.plan so.test m ok.plan.nodes so.found in
      next_owns ts s d m e.kind is other (next m range.0 range.1 other so.unregistered)

  -- another node's answer
  answered_owns : (ts : List Task) (s : AttemptState) (d from : ℕ) (r : SeizeResult) (o : Option Seizing) → is_seizing s.phase ≡ true → IsOrdered n s
      → Match (IsOwn s.plan.coordinator) s.plan.coordinator s.promises s.devices ts → (from == s.plan.coordinator) ≡ false → find (awaits d from) s.devices ≡ o → OwnsAfter n begun ts (answered_on s d r o)
  answered_owns ts s d from r None is ok h other found = waits_owns ts s (seizing_owns n ts s is (λ k. h))
  answered_owns ts s d from r (Some e) is ok h other found =
      let c : ℕ = s.plan.coordinator in
      let not : AllByRecursion (IsNotOwn c d) s.devices = not_own c d from s.devices e ok.apart found other in
      next_asked_owns (IsOwn c) ts s d from r e (next_by s.plan.cluster s.promises s.plan.nodes e e.kind r) is ok (λ x t k. k.asked) h found (others_settled c d s.promises r s.devices ts not h)
      (λ m low high differs unregistered. others_asked c d m s.promises s.devices ts low high differs not h) refl

  answering_owns : (ts : List Task) (s : AttemptState) (d from : ℕ) (r : SeizeResult) → is_seizing s.phase ≡ true → IsOrdered n s → Owns n ts s
      → ((from == s.plan.coordinator) ≡ true → find (awaits d from) s.devices ≡ None) → OwnsAfter n begun ts (answering s d from r)
  unfolding answering
  answering_owns ts s d from r is ok h self = by_test (from == s.plan.coordinator) refl
    where
      by_test : (b : Bool) → (from == s.plan.coordinator) ≡ b → OwnsAfter n begun ts (answered_on s d r (find (awaits d from) s.devices))
      by_test true own = subst (λ o. OwnsAfter n begun ts (answered_on s d r o)) (sym (self own)) (waits_owns ts s h)
      by_test false other = answered_owns ts s d from r (find (awaits d from) s.devices) is ok (h.seizes is ok) other refl

  pub answering_in_owns : (ts : List Task) (s : AttemptState) (d from : ℕ) (r : SeizeResult) (p : Phase) → s.phase ≡ p → IsOrdered n s → Owns n ts s
      → (is_seizing s.phase ≡ true → (from == s.plan.coordinator) ≡ true → find (awaits d from) s.devices ≡ None) → OwnsAfter n begun ts (answering_in s d from r p)
  answering_in_owns ts s d from r SeizingVotes at ok h self = answering_owns ts s d from r (ap is_seizing at) ok h (self (ap is_seizing at))
  answering_in_owns ts s d from r SeizingOthers at ok h self = answering_owns ts s d from r (ap is_seizing at) ok h (self (ap is_seizing at))
  answering_in_owns ts s d from r Collecting at ok h self = waits_owns ts s h
  answering_in_owns ts s d from r Choosing at ok h self = waits_owns ts s h
  answering_in_owns ts s d from r Installing at ok h self = waits_owns ts s h
  answering_in_owns ts s d from r Over at ok h self = waits_owns ts s h

  -- the own task of a device has ended
  own_on_owns : (ts : List Task) (s : AttemptState) (d : ℕ) (r : SeizeResult) (o : Option Seizing) → is_seizing s.phase ≡ true → IsOrdered n s
      → Match (IsOwnBut s.plan.coordinator d r) s.plan.coordinator s.promises s.devices ts → (o ≡ None → ⊥) → find (awaits d s.plan.coordinator) s.devices ≡ o → OwnsAfter n begun ts (answered_on s d r o)
  own_on_owns ts s d r None is ok h some found = absurd (some refl)
  own_on_owns ts s d r (Some e) is ok h some found =
      let c : ℕ = s.plan.coordinator in
      next_asked_owns (IsOwnBut c d r) ts s d c r e (next_by s.plan.cluster s.promises s.plan.nodes e e.kind r) is ok (λ x t k. but_asked c x t k) h found (own_settled c d s.promises r s.devices ts h)
      (λ m low high differs unregistered. own_asked c d m s.promises r s.devices ts low high differs unregistered h) refl
    where
      but_asked : (c : ℕ) (x : Seizing) (t : Task) → IsOwnBut c d r x t → has x.asked c ≡ true
      but_asked c x t (inl k) = k.asked
      but_asked c x t (inr k) = k.0.asked

  own_answering_owns : (ts : List Task) (s : AttemptState) (d : ℕ) (r : SeizeResult) → is_seizing s.phase ≡ true → IsOrdered n s
      → Match (IsOwnBut s.plan.coordinator d r) s.plan.coordinator s.promises s.devices ts → (find (awaits d s.plan.coordinator) s.devices ≡ None → ⊥) → OwnsAfter n begun ts (answering s d s.plan.coordinator r)
  unfolding answering
  own_answering_owns ts s d r is ok h some = own_on_owns ts s d r (find (awaits d s.plan.coordinator) s.devices) is ok h some refl

  -- .. and outside of the seizing of devices it is nothing to the attempt
  own_in_owns : (ts : List Task) (s : AttemptState) (d : ℕ) (r : SeizeResult) (p : Phase) → s.phase ≡ p
      → (is_seizing s.phase ≡ true → OwnsAfter n begun ts (answering s d s.plan.coordinator r)) → (is_seizing s.phase ≡ false → Owns n ts s) → OwnsAfter n begun ts (answering_in s d s.plan.coordinator r p)
  own_in_owns ts s d r SeizingVotes at seizes rests = seizes (ap is_seizing at)
  own_in_owns ts s d r SeizingOthers at seizes rests = seizes (ap is_seizing at)
  own_in_owns ts s d r Collecting at seizes rests = waits_owns ts s (rests (ap is_seizing at))
  own_in_owns ts s d r Choosing at seizes rests = waits_owns ts s (rests (ap is_seizing at))
  own_in_owns ts s d r Installing at seizes rests = waits_owns ts s (rests (ap is_seizing at))
  own_in_owns ts s d r Over at seizes rests = waits_owns ts s (rests (ap is_seizing at))

  pub own_seized_owns : (ts : List Task) (s : AttemptState) (d : ℕ) (r : SeizeResult) → (is_seizing s.phase ≡ true → IsEnded n ts s d r) → (is_seizing s.phase ≡ false → Owns n ts s)
      → OwnsAfter n begun ts (own_answering s d r)
  unfolding own_answering
  own_seized_owns ts s d r seizes rests =
      own_in_owns ts s d r s.phase refl (λ is. let k : IsEnded n ts s d r = seizes is in own_answering_owns ts s d r is k.ordered k.match k.awaited) rests
