-- Each call of an attempt leaves what it has sent as its state has it.
use Rattle.std.specs.Prelude.{ℕ, ◌==◌, ◌&&◌, ◌||◌, ◌≡◌, not, Bool, true, false, List, [], ◌∷◌, Option, None, Some, filter, map, if◌then◌else◌}
use Rattle.std.specs.List.{list_any}
use Rattle.std.proofs.Common.{arith, refl, sym, ap, subst, ◌∙◌}
use Rattle.attempt_laws.proofs.MachineLemmas.{of_all}
use Rattle.attempt_laws.proofs.Stays.{plan_stays}
use Rattle.attempt_laws.proofs.Walk.{TellsResult, if_with}
use Rattle.attempt_laws.specs.Asking.{AreApart, numbers_of}
use Rattle.cl_base.specs.Seizings.{SeizeResult}
use Rattle.wire.specs.Kinds.{is_ready}
use Rattle.cmm_attempt.proofs.Basics.{and_cases, false_true, if_either, same_number}
use Rattle.cmm_attempt.specs.Attempts.{AttemptState, Turn, all_promised, beginning, begun, choosing, chosen_by, collects, first_state, is_missing, is_missing_in, is_of, promises_of, silent_others, with_steps}
use Rattle.cmm_attempt.specs.Calls.{Call, May, Own_ready, Own_seized, Take, Tick, With_votes, turn}
use Rattle.cmm_attempt.specs.Installs.{send_collect}
use Rattle.cmm_attempt.specs.Promises.{has_promised, newest_shown, promised_by, shown_by}
use Rattle.cmm_attempt.specs.declared.attached.AttachedDevice.{AttachedDevice}
use Rattle.cmm_attempt.specs.declared.phase.Phase.TheVariants.{Collecting}
use Rattle.cmm_attempt.specs.declared.plan.Plan.{Plan}
use Rattle.cmm_attempt.specs.declared.promised.Shown.{Shown}
use Rattle.cmm_attempt.specs.declared.step.Step.{Step}
use Rattle.cmm_attempt.specs.declared.step.Step.TheVariants as step
use Rattle.history.specs.Letters.{name_of}
use Rattle.history.specs.Names as name
use Rattle.history.specs.Names.{Name}
use Rattle.wire.specs.declared.message.Body.{Body}
use Rattle.wire.specs.declared.message.Body.TheVariants as body
use Rattle.wire.specs.declared.message.Message.{Message}
use Rattle.run_outcomes.specs.silence.Asked.{CallTold, HandTold, IsTold, Query, Told, asked_by_body, asked_by_steps, asks, is_other_node}
use Rattle.run_outcomes.proofs.silence.Answers.{begun_answers, call_answers}
use Rattle.run_outcomes.proofs.silence.Data.{begun_data, call_data}
use Rattle.run_outcomes.proofs.silence.Quiet.{alike_told}
use Rattle.run_outcomes.proofs.silence.Readies.{begun_readied, call_readied}

-- ---- Collects

or_second : (a b : Bool) → b ≡ true → (a || b) ≡ true
or_second true b h = refl
or_second false b h = h

or_first : (a b : Bool) → a ≡ true → (a || b) ≡ true
or_first true b h = refl
or_first false b h = absurd (false_true h)

-- what was sent stays so
still_asked : (q : Query) (steps : List Step) (asked : Bool) → asked ≡ true → asked_by_steps q steps asked ≡ true
still_asked q [] asked h = h
still_asked q (step.Send to m ∷ steps) asked h = still_asked q steps (asked_by_body q to m.body asked) (or_second (asks q to (name_of m.body)) asked h)
still_asked q (step.SeizeHere d kind ∷ steps) asked h = still_asked q steps asked h
still_asked q (step.NeedVotes n ∷ steps) asked h = still_asked q steps asked h
still_asked q (step.InstallHere i ∷ steps) asked h = still_asked q steps asked h
still_asked q (step.StartHere ∷ steps) asked h = still_asked q steps asked h
still_asked q (step.Ended e ∷ steps) asked h = still_asked q steps asked h

abbrev to_collect : ℕ → Query
to_collect m = record { to = m; called = name.Collect }

-- each of these is sent one
collects_ask : (plan : Plan) (m : ℕ) (ns : List ℕ) (asked : Bool) → list_any (λ k. k == m) ns ≡ true → asked_by_steps (record { to = m; called = name.Collect }) (map (send_collect plan) ns) asked ≡ true
collects_ask plan m [] asked h = absurd (false_true h)
collects_ask plan m (n ∷ ns) asked h = by_test (λ a k. collects_ask plan m ns a k) (n == m) refl h
  where
    q : Query
    q = record { to = m; called = name.Collect }

    both : (a b : Bool) → a ≡ true → ((a && true) || b) ≡ true
    both true b is = refl
    both false b is = absurd (false_true is)

    by_test : ((a : Bool) → list_any (λ k. k == m) ns ≡ true → asked_by_steps q (map (send_collect plan) ns) a ≡ true) → (b : Bool) → (n == m) ≡ b → (b || list_any (λ k. k == m) ns) ≡ true
        → asked_by_steps q (map (send_collect plan) ns) (((n == m) && true) || asked) ≡ true
    by_test rest true is k = still_asked q (map (send_collect plan) ns) (((n == m) && true) || asked) (both (n == m) asked is)
    by_test rest false is k = rest (((n == m) && true) || asked) k

pub in_filter : (p : ℕ → Bool) (m : ℕ) (ns : List ℕ) → p m ≡ true → list_any (λ k. k == m) ns ≡ true → list_any (λ k. k == m) (filter p ns) ≡ true
in_filter p m [] is h = absurd (false_true h)
in_filter p m (n ∷ ns) is h = by_tests (λ k. in_filter p m ns is k) (n == m) refl (p n) refl h
  where
    here : (n == m) ≡ true → p n ≡ true
    here same = subst (λ k. p k ≡ true) (sym (same_number n m same)) is

    by_tests : (list_any (λ k. k == m) ns ≡ true → list_any (λ k. k == m) (filter p ns) ≡ true) → (a : Bool) → (n == m) ≡ a → (b : Bool) → p n ≡ b → (a || list_any (λ k. k == m) ns) ≡ true → list_any (λ k. k == m) (if b then n ∷ filter p ns else filter p ns) ≡ true
    by_tests rest true same true holds k = or_first (n == m) (list_any (λ j. j == m) (filter p ns)) same
    by_tests rest true same false holds k = absurd (false_true (sym holds ∙ here same))
    by_tests rest false same true holds k = or_second (n == m) (list_any (λ j. j == m) (filter p ns)) (rest k)
    by_tests rest false same false holds k = rest k

-- its own Promise is that of its coordinator
own_only : (own : Message) (m : ℕ) (b : Body) → has_promised (promises_of (promised_by own (shown_by own.sender b))) m ≡ true → (own.sender == m) ≡ true
own_only own m (body.Promise e installed members valid flagged committed pending) h = alone (own.sender == m) h
  where
    alone : (b : Bool) → (b || false) ≡ true → b ≡ true
    alone true k = refl
    alone false k = k
own_only own m _ h = absurd (false_true h)

differ : (a b : ℕ) → not (b == a) ≡ true → (a == b) ≡ true → ⊥
differ a b h k = grind arith

begun_collects : (m : ℕ) (s : AttemptState) → s.phase ≡ Collecting → (has_promised s.promises m ≡ true → (s.plan.coordinator == m) ≡ true) → is_other_node s.plan m ≡ true → asked_by_steps (to_collect m) (begun s).steps false ≡ true
begun_collects m s is own other =
    if_with (λ (u : Turn). asked_by_steps (to_collect m) u.steps false ≡ true) (all_promised s) (all_promised s) (choosing s) (with_steps s (collects s)) refl
    (λ all. absurd (differ s.plan.coordinator m two.1 (own (of_all (has_promised s.promises) m s.plan.nodes all two.0))))
    (λ _. collects_ask s.plan m (silent_others s) false (in_filter (λ n. not (n == s.plan.coordinator) && is_missing s n) m s.plan.nodes (both (not (m == s.plan.coordinator)) (is_missing s m) two.1 missing) two.0))
  where
    two : (list_any (λ k. k == m) s.plan.nodes ≡ true) × (not (m == s.plan.coordinator) ≡ true)
    two = and_cases (list_any (λ k. k == m) s.plan.nodes) (not (m == s.plan.coordinator)) other

    both : (a b : Bool) → a ≡ true → b ≡ true → (a && b) ≡ true
    both true b h k = k
    both false b h k = absurd (false_true h)

    lacks : (b : Bool) → has_promised s.promises m ≡ b → not b ≡ true
    lacks true h = absurd (differ s.plan.coordinator m two.1 (own h))
    lacks false h = refl

    missing : is_missing s m ≡ true
    missing = ap (is_missing_in s m) is ∙ lacks (has_promised s.promises m) refl

-- ---- what a call brings

not_own : (c m : ℕ) → m ≡ c → (m == c) ≡ false → ⊥
not_own c m is other = false_true (sym other ∙ itself m c is)
  where
    itself : (a b : ℕ) → a ≡ b → (a == b) ≡ true
    itself a b h = grind arith

hand_seized : (g : ℕ → Query → Bool) (e from d : ℕ) (r : SeizeResult) (b : Body) → b ≡ body.Seized e d r → HandTold g e from b → g e (record { to = from; called = name.Seized d }) ≡ true
hand_seized g e from d r b is h = (subst (HandTold g e from) is h) refl

brings : (g : ℕ → Query → Bool) (m d : ℕ) (s : AttemptState) (c : Call) → CallTold g s c → (r : SeizeResult) → TellsResult c s d m r → (m == s.plan.coordinator) ≡ false → g s.plan.epoch (record { to = m; called = name.Seized d }) ≡ true
brings g m d s (Take from x) hand r tells other = subst (λ k. g s.plan.epoch (record { to = k; called = name.Seized d }) ≡ true) tells.0 (hand_seized g s.plan.epoch from d r x.body tells.1 hand)
brings g m d s (Own_seized device r0) hand r tells other = absurd (not_own s.plan.coordinator m tells.2 other)
brings g m d s (With_votes both) hand r tells other = absurd tells
brings g m d s Own_ready hand r tells other = absurd tells
brings g m d s Tick hand r tells other = absurd tells

hand_ready : (g : ℕ → Query → Bool) (e from : ℕ) (b : Body) → is_of e b ≡ true → is_ready b ≡ true → HandTold g e from b → g e (record { to = from; called = name.Ready }) ≡ true
hand_ready g e from (body.Ready p joined report) of ready h =
    let same : p ≡ e = same_number p e of in
    subst (λ k. g k (record { to = from; called = name.Ready }) ≡ true) same (h same)
hand_ready g e from _ of ready h = absurd (false_true ready)

brings_ready : (g : ℕ → Query → Bool) (m : ℕ) (s : AttemptState) (c : Call) → CallTold g s c → (x : Message) → c ≡ Take m x → is_of s.plan.epoch x.body ≡ true → is_ready x.body ≡ true → g s.plan.epoch (record { to = m; called = name.Ready }) ≡ true
brings_ready g m s c hand x is of ready = hand_ready g s.plan.epoch m x.body of ready (subst (CallTold g s) is hand)

-- ---- the calls

call_by : (g : ℕ → Query → Bool) (m : ℕ) (called : Name) (s : AttemptState) (c : Call) → May s c → CallTold g s c → IsTold s m called (g s.plan.epoch (record { to = m; called = called }))
    → IsTold (turn s c).after m called (asked_by_steps (record { to = m; called = called }) (turn s c).steps (g s.plan.epoch (record { to = m; called = called })))
call_by g m name.Collect s c may hand h =
    λ other. still_asked (to_collect m) (turn s c).steps (g s.plan.epoch (to_collect m)) (h (subst (λ (p : Plan). is_other_node p m ≡ true) (plan_stays s c may) other))
call_by g m (name.SeizeData d) s c may hand h = call_data m d (g s.plan.epoch (record { to = m; called = name.SeizeData d })) s c may h
call_by g m (name.Seized d) s c may hand h =
    let q : Query = record { to = m; called = name.Seized d } in
    alike_told (turn s c).after m (name.Seized d) (g s.plan.epoch q) (asked_by_steps q (turn s c).steps (g s.plan.epoch q)) (still_asked q (turn s c).steps (g s.plan.epoch q))
    (call_answers m d (g s.plan.epoch q) s c may (brings g m d s c hand) h)
call_by g m name.Ready s c may hand h =
    let q : Query = record { to = m; called = name.Ready } in
    λ ready. still_asked q (turn s c).steps (g s.plan.epoch q) ((call_readied s.plan.epoch m (g s.plan.epoch q) s c may (brings_ready g m s c hand) (refl, h)).1 ready)
call_by g m _ s c may hand h = tt

pub call_told : (g : ℕ → Query → Bool) (q : Query) (s : AttemptState) (c : Call) → May s c → CallTold g s c → Told q (g s.plan.epoch q) s → Told q (asked_by_steps q (turn s c).steps (g s.plan.epoch q)) (turn s c).after
call_told g q s c may hand h = call_by g q.to q.called s c may hand h

choosing_plan : (s : AttemptState) → (choosing s).after.plan ≡ s.plan
unfolding choosing
choosing_plan s = by_newest (newest_shown s.promises)
  where
    by_newest : (o : Option Shown) → (chosen_by s o).after.plan ≡ s.plan
    by_newest None = refl
    by_newest (Some newest) = refl

first_by : (m : ℕ) (called : Name) (p members : ℕ) (own : Message) (attached : List AttachedDevice) (cluster : ℕ) → AreApart (numbers_of attached)
    → IsTold (beginning p members own attached cluster).after m called (asked_by_steps (record { to = m; called = called }) (beginning p members own attached cluster).steps false)
unfolding beginning
first_by m name.Collect p members own attached cluster apart =
    let s : AttemptState = first_state p members own attached cluster (promises_of (promised_by own (shown_by own.sender own.body))) in
    λ other. begun_collects m s refl (own_only own m own.body) (subst (λ (k : Plan). is_other_node k m ≡ true) (same_plan s) other)
  where
    same_plan : (s : AttemptState) → (begun s).after.plan ≡ s.plan
    same_plan s = if_either (λ (u : Turn). u.after.plan ≡ s.plan) (all_promised s) (choosing s) (with_steps s (collects s)) (choosing_plan s) refl
first_by m (name.SeizeData d) p members own attached cluster apart =
    let s : AttemptState = first_state p members own attached cluster (promises_of (promised_by own (shown_by own.sender own.body))) in
    begun_data m d false s refl (record { sound = record { nodes = refl; attached = apart; apart = tt; early = λ early. refl }; told = refl; awaited = λ wants. absurd (false_true wants); votes = λ _. tt })
first_by m (name.Seized d) p members own attached cluster apart =
    let s : AttemptState = first_state p members own attached cluster (promises_of (promised_by own (shown_by own.sender own.body))) in
    let q : Query = record { to = m; called = name.Seized d } in
    alike_told (begun s).after m (name.Seized d) false (asked_by_steps q (begun s).steps false) (still_asked q (begun s).steps false)
    (begun_answers m d false s refl (record { sound = record { nodes = refl; attached = apart; apart = tt; early = λ early. refl }; told = tt; settled = λ at. tt }))
first_by m name.Ready p members own attached cluster apart =
    let s : AttemptState = first_state p members own attached cluster (promises_of (promised_by own (shown_by own.sender own.body))) in
    let q : Query = record { to = m; called = name.Ready } in
    λ ready. still_asked q (begun s).steps false ((begun_readied s.plan.epoch m false s refl (refl, λ k. k)).1 ready)
first_by m _ p members own attached cluster apart = tt

pub first_told : (q : Query) (p members : ℕ) (own : Message) (attached : List AttachedDevice) (cluster : ℕ) → AreApart (numbers_of attached)
    → Told q (asked_by_steps q (beginning p members own attached cluster).steps false) (beginning p members own attached cluster).after
first_told q p members own attached cluster apart = first_by q.to q.called p members own attached cluster apart
