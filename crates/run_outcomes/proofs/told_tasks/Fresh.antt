-- Where the votes are given, whoever seizes a quorum device is asked first then.
use Rattle.std.specs.Prelude.{ℕ, ◌≡◌, ◌≢◌, ◌≤◌, ◌==◌, ◌&&◌, Bool, true, false, if◌then◌else◌, List, [], ◌∷◌, ◌++◌, length, Option, None, Some}
use Rattle.std.specs.List.{AllByRecursion, cons_option, filter_map}
use Rattle.std.proofs.Common.{refl, sym, subst, ◌∙◌, append-nil, inl, inr}
use Rattle.cl_base.proofs.SetLemmas.{none_of_zero}
use Rattle.cl_base.specs.Sets.{has}
use Rattle.cmm_attempt.proofs.Basics.{false_true, none_some, same_some}
use Rattle.cmm_attempt.specs.Attempts.{AttemptState, Turn, admitted, asked_votes, counted_by, counting, in_phase, installed, installing, known, knowing, plain_devices, possible, seizing_others, seizing_votes, shortage, vote_entries, vote_entries_under, voting, with_steps}
use Rattle.cmm_attempt.specs.Calls.{With_votes, turn}
use Rattle.cmm_attempt.specs.Counts.{first_foreign, is_quorum, reached_set, vote_new}
use Rattle.cmm_attempt.specs.Plans.{is_reachable}
use Rattle.cmm_attempt.specs.Promises.{first_left_out, newest_shown}
use Rattle.cmm_attempt.specs.Seizings.{all_settled, first_seizer, held_set, may_seize, request_for, vote_entry}
use Rattle.cmm_attempt.specs.declared.attached.AttachedDevice.{AttachedDevice}
use Rattle.cmm_attempt.specs.declared.counting.BothVotes.{BothVotes}
use Rattle.cmm_attempt.specs.declared.phase.Phase.TheVariants.{Installing, SeizingOthers, SeizingVotes}
use Rattle.cmm_attempt.specs.declared.plan.Plan.{Plan}
use Rattle.cmm_attempt.specs.declared.promised.Promised.{Promised}
use Rattle.cmm_attempt.specs.declared.seizing.Seizing.{Seizing}
use Rattle.cmm_attempt.specs.declared.step.AttemptEnd.{AttemptEnd}
use Rattle.device_queue.specs.declared.task.Task.{Task}
use Rattle.history.specs.Moment.{Moment}
use Rattle.history.specs.Queue as told
use Rattle.run_outcomes.specs.phases.Laws.{is_seizing}
use Rattle.run_outcomes.specs.tasks.Entries.{LedBy}
use Rattle.run_outcomes.specs.tasks.Laws.{own_result}
use Rattle.run_outcomes.proofs.told_tasks.Entries.{entries_first, in_range}
use Rattle.run_outcomes.proofs.told_tasks.Heard.{Quorum, prefix_same}
use Rattle.run_outcomes.proofs.told_tasks.Lists.{found_in, has_other}
use Rattle.run_outcomes.proofs.told_tasks.Turned.{IsTurned}

-- the one who is asked has not answered, and was asked alone
pub record FreshSo (plan : Plan) (e : Seizing) : Type 0 where
  pub waits : (m : ℕ) → e.seizer ≡ Some m → e.result ≡ None
  pub only : (m : ℕ) → e.seizer ≡ Some m → m ≢ plan.coordinator → has e.asked plan.coordinator ≡ false

entry_fresh : (plan : Plan) (promises : List Promised) (a : AttachedDevice) (o : Option ℕ) → LedBy plan → first_seizer plan promises a ≡ o → FreshSo plan (vote_entry a o)
entry_fresh plan promises a None l is = record { waits = λ m at. absurd (none_some m at); only = λ m at ne. absurd (none_some m at) }
entry_fresh plan promises a (Some n) l is = record {
  waits = λ m at. refl;
  only = λ m at ne.
      let z : (1 ≤ n) × (n ≤ 32) = in_range n plan.nodes l.range (found_in (may_seize promises a) plan.nodes n is).1 in
      has_other 0 n plan.coordinator z.0 z.1 (λ own. ne (sym (own ∙ same_some n m at))) ∙ none_of_zero plan.coordinator;
}

votes_fresh : (plan : Plan) (promises : List Promised) (both : BothVotes) → LedBy plan → (xs : List AttachedDevice) → AllByRecursion (FreshSo plan) (filter_map (vote_new plan promises both) xs)
votes_fresh plan promises both l [] = tt
votes_fresh plan promises both l (a ∷ xs) = by_test (is_quorum both a.device && is_reachable plan a) (votes_fresh plan promises both l xs)
  where
    by_test : (b : Bool) → AllByRecursion (FreshSo plan) (filter_map (vote_new plan promises both) xs)
        → AllByRecursion (FreshSo plan) (cons_option (if b then Some (vote_entry a (first_seizer plan promises a)) else None) (filter_map (vote_new plan promises both) xs))
    by_test true rest = (entry_fresh plan promises a (first_seizer plan promises a) l refl, rest)
    by_test false rest = rest

entries_fresh : (s : AttemptState) (o : Option BothVotes) → LedBy s.plan → AllByRecursion (FreshSo s.plan) (vote_entries_under s o)
entries_fresh s None l = tt
entries_fresh s (Some both) l = votes_fresh s.plan s.promises both l s.plan.attached

-- ---- the votes are given

-- these come first then
pub record Begun (first es : List Seizing) : Type 0 where
  pub more : List Seizing
  pub parts : es ≡ first ++ more

abbrev Begins_with : List Seizing → Turn → Type 0
Begins_with first t = is_seizing t.after.phase ≡ true → Begun first t.after.devices

alone : (first : List Seizing) → Begun first first
alone first = record { more = []; parts = sym (append-nil first) }

others_begin : (t : AttemptState) (counted : ℕ) → Begins_with t.devices (seizing_others (record t { counted = counted }))
unfolding seizing_others installing
others_begin t counted = by_none (length (plain_devices u) == 0)
  where
    u : AttemptState
    u = record t { counted = counted }

    by_none : (b : Bool)
        → Begins_with t.devices (if b then installed (in_phase u Installing) else with_steps (record (in_phase u SeizingOthers) { devices = u.devices ++ plain_devices u }) (filter_map (request_for u.plan) (plain_devices u)))
    by_none true = λ is. absurd (false_true is)
    by_none false = λ is. record { more = plain_devices u; parts = refl }

counting_begins : (t : AttemptState) → Begins_with t.devices (counting t)
unfolding counting
counting_begins t = by_short (shortage t (held_set t.devices))
  where
    by_short : (o : Option AttemptEnd) → Begins_with t.devices (counted_by t o)
    by_short (Some e) = λ is. absurd (false_true is)
    by_short None = others_begin t (held_set t.devices)

asked_begins : (t : AttemptState) → Begins_with t.devices (asked_votes t)
unfolding asked_votes
asked_begins t = by_settled (all_settled t.devices)
  where
    by_settled : (b : Bool) → Begins_with t.devices (if b then counting t else with_steps t (filter_map (request_for t.plan) t.devices))
    by_settled true = counting_begins t
    by_settled false = λ is. alone t.devices

pub voting_begins : (s : AttemptState) (both : BothVotes) → is_seizing (turn s (With_votes both)).after.phase ≡ true
    → Begun (vote_entries (record (in_phase s SeizingVotes) { votes = Some both; devices = [] })) (turn s (With_votes both)).after.devices
unfolding voting knowing seizing_votes
voting_begins s both = by_foreign (first_foreign both s.plan.nodes)
  where
    t : AttemptState
    t = record (in_phase s SeizingVotes) { votes = Some both; devices = [] }

    by_short : (o : Option AttemptEnd) → Begins_with (vote_entries t) (possible t o)
    by_short (Some e) = λ is. absurd (false_true is)
    by_short None = asked_begins (record t { devices = vote_entries t })

    by_left : (o : Option ℕ) → Begins_with (vote_entries t) (known t o)
    by_left (Some m) = λ is. absurd (false_true is)
    by_left None = by_short (shortage t (reached_set t.plan))

    by_foreign : (o : Option ℕ) → Begins_with (vote_entries t) (admitted t o)
    by_foreign (Some m) = λ is. absurd (false_true is)
    by_foreign None = by_left (first_left_out t.promises t.plan.nodes (newest_shown t.promises))

-- ---- each entry is as far as the lines show it, where nobody was asked before

pub begins_all : (s : AttemptState) (both : BothVotes) (tasks : List Task) (ms : List Moment) (l : LedBy s.plan) → is_seizing (turn s (With_votes both)).after.phase ≡ true
    → (p : Quorum s.plan s.promises (Some both) (turn s (With_votes both)).after.devices) → ((d : ℕ) → told.asked_last s.plan.epoch d ms ≡ None)
    → AllByRecursion (λ (e : Seizing). e.seizer ≡ Some s.plan.coordinator → own_result e.attached.device tasks ≡ e.result) p.votes
    → AllByRecursion (IsTurned s.plan s.promises l tasks ms) p.votes
begins_all s both tasks ms l seizing p none own = each p.votes (subst (AllByRecursion (FreshSo s.plan)) (sym same) (entries_fresh t (Some both) l)) own
  where
    t : AttemptState
    t = record (in_phase s SeizingVotes) { votes = Some both; devices = [] }

    b : Begun (vote_entries t) (turn s (With_votes both)).after.devices
    b = voting_begins s both seizing

    same : p.votes ≡ vote_entries t
    same = prefix_same p.votes (vote_entries t) p.behind b.more (sym p.parts ∙ b.parts) (p.first.devices ∙ sym (entries_first t l).devices)

    each : (es : List Seizing) → AllByRecursion (FreshSo s.plan) es → AllByRecursion (λ (e : Seizing). e.seizer ≡ Some s.plan.coordinator → own_result e.attached.device tasks ≡ e.result) es
        → AllByRecursion (IsTurned s.plan s.promises l tasks ms) es
    each [] f k = tt
    each (e ∷ es) f k = (inr (inl (record { last = none e.attached.device; waits = f.0.waits; own = k.0; only = f.0.only })), each es f.1 k.1)
