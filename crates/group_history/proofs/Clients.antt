-- What is due to clients is what the laws of the balancer say.
use Rattle.std.proofs.Common.{◌≡◌, ◌≢◌, ℕ, ◌+◌, ◌-◌, ◌<◌, ◌≤◌, nat_lt, Bool, true, false, if◌then◌else◌, eqb, cond, count_by, All, find, List, [], ◌∷◌, ◌++◌, length, map, replicate, slice_index, Option, Some, None, refl, sym, ap, subst, ◌∙◌, arith}
use Rattle.std.specs.Cmp.Lexicographic.{pointwise}
use Rattle.std.specs.List.{AllByRecursion}
use Rattle.std.specs.Option.{option_map_or}
use Rattle.std.specs.List.Sorted.{IsStrictlyIncreasing}
use Rattle.std.proofs.lemmas.Bool.{or_right, or_left}
use Rattle.std.proofs.lemmas.Bool.Decides.{nat_tests}
use Rattle.std.proofs.lemmas.List.{length-replicate, map-append, nil_from_length, get_or-replicate, get_or_append_left, get_or-append_right}
use Rattle.std.proofs.lemmas.List.Elements.{All-cons, All-nil, All-head, All-tail}
use Rattle.std.proofs.lemmas.List.Sums.{sum_by-cons}
use Rattle.address_targets.proofs.Ascending.{HasWeight}
use Rattle.cl_base.specs.declared.command.Policy.TheVariants.{StickyPort, Sticky}
use Rattle.shared_address.specs.declared.choice.Client.{Client}
use Rattle.shared_address.specs.declared.choice.Target.{Target}
use Rattle.shared_address.specs.Choosing.{Outcome, Request, if_target, is_target, kept_client, next_node, round_of, same_target, seen, total_weight, weight_of}
use Rattle.shared_address.specs.History.{outcome_after, outcomes, state_after}
use Rattle.shared_address.specs.Laws as laws
use Rattle.shared_address.specs.Laws.{is_turn_of}
use Rattle.shared_address.specs.States.{AddressState, TurnState}
use Rattle.shared_address.proofs.Cases.{served_cases}
use Rattle.shared_address.proofs.Exact.{IsInRound, state_in_round, weights_exact}
use Rattle.shared_address.proofs.Sticks.{clients_stick, ports_stick}
use Rattle.shared_address.proofs.TurnLemmas.{same_targets}
use Rattle.group_history.specs.Addresses.{Answered, requests_of}
use Rattle.group_history.specs.Served.{IsByTarget, IsChoice, StaysTold, outcomes_told, told}
use Rattle.group_history.proofs.Due.{AreDue, IsDue}

-- ---- served by targets

-- a turn is a target's
turn_is_target : (ts : List Target) (i : ℕ) → i < total_weight ts → is_target ts (slice_index (round_of ts) i) ≡ true
turn_is_target [] i lt = absurd (omega arith)
turn_is_target (t ∷ ts) i lt = by (nat_lt i t.weight) refl (turn_is_target ts (i - t.weight))
  where
    by : (b : Bool) → nat_lt i t.weight ≡ b → (i - t.weight < total_weight ts → is_target ts (slice_index (round_of ts) (i - t.weight)) ≡ true) → is_target (t ∷ ts) (slice_index (round_of (t ∷ ts)) i) ≡ true
    by true h _ =
        let low : i < t.weight = grind (arith, nat_tests) in
        let size = length-replicate t.weight t.node in
        let here : slice_index (round_of (t ∷ ts)) i ≡ t.node = get_or_append_left (replicate t.weight t.node) (round_of ts) 0 i (omega arith) ∙ get_or-replicate t.weight i t.node 0 low in
        ap (is_target (t ∷ ts)) here ∙ or_left (eqb t.node t.node) (is_target ts t.node) (grind (arith, nat_tests))
    by false h rest =
        let high : t.weight ≤ i = grind (arith, nat_tests) in
        let size = length-replicate t.weight t.node in
        let count = sum_by-cons (λ (x : Target). x.weight) t ts in
        let later : slice_index (round_of (t ∷ ts)) i ≡ slice_index (round_of ts) (i - t.weight) = get_or-append_right (replicate t.weight t.node) (round_of ts) t.weight i 0 size high in
        ap (is_target (t ∷ ts)) later ∙ or_right (eqb t.node (slice_index (round_of ts) (i - t.weight))) (is_target ts (slice_index (round_of ts) (i - t.weight))) (rest (omega arith))

some_weight : (ts : List Target) → AllByRecursion HasWeight ts → 0 < length ts → 0 < total_weight ts
some_weight [] all some = absurd (omega arith)
some_weight (t ∷ ts) all some = let first = all.0.0 in let count = sum_by-cons (λ (x : Target). x.weight) t ts in omega arith

seen_turn : (turns : TurnState) (ts : List Target) → IsInRound turns → 0 < total_weight ts → is_target ts (next_node (seen turns ts)) ≡ true
seen_turn turns ts within some = by (pointwise same_target turns.targets ts) refl
  where
    by : (b : Bool) → pointwise same_target turns.targets ts ≡ b → is_target ts (next_node (cond b turns (record { targets = ts; taken = 0 }))) ≡ true
    by true h =
        let same : turns.targets ≡ ts = same_targets turns.targets ts h in
        let taken : turns.taken < total_weight turns.targets = within (subst (λ (xs : List Target). 0 < total_weight xs) (sym same) some) in
        subst (λ (xs : List Target). is_target xs (slice_index (round_of turns.targets) turns.taken) ≡ true) same (turn_is_target turns.targets turns.taken taken)
    by false h = turn_is_target ts 0 some

kept_is_target : (ts : List Target) (o : Option ℕ) (n : ℕ) → if_target ts o ≡ Some n → is_target ts n ≡ true
kept_is_target ts None n h = cc h
kept_is_target ts (Some m) n h = by (is_target ts m) refl h
  where
    by : (b : Bool) → is_target ts m ≡ b → (if b then Some m else None) ≡ Some n → is_target ts n ≡ true
    by true is same = let m_is_n : m ≡ n = cc same in subst (λ (k : ℕ). is_target ts k ≡ true) m_is_n is
    by false is same = cc same

choice : (before : List Request) (r : Request) → AllByRecursion HasWeight r.targets → IsChoice r.targets (outcome_after before r).node
choice before r weights = served_cases (λ o. IsChoice r.targets o.node) s (kept_client r.policy r.address r.port) r.targets
    (λ none. nil_from_length r.targets none)
    (λ some _. seen_turn s.turns r.targets (state_in_round before) (some_weight r.targets weights some))
    (λ c some _ _. seen_turn s.turns r.targets (state_in_round before) (some_weight r.targets weights some))
    (λ c n _ _ hit. kept_is_target r.targets _ n hit)
  where
    s : AddressState
    s = state_after before

pub by_targets : (answers : List Answered) → AreDue answers → AllByRecursion IsByTarget answers
by_targets [] due = tt
by_targets (a ∷ before) due =
    (subst (IsChoice a.request.targets) (sym due.0.node) (choice (requests_of before) a.request due.0.weights), by_targets before due.1)

-- ---- the lines tell the outcomes

due_before : (later before : List Answered) → AreDue (later ++ before) → AreDue before
due_before [] before due = due
due_before (a ∷ later) before due = due_before later before due.1

requests_join : (later before : List Answered) → requests_of (later ++ before) ≡ requests_of later ++ requests_of before
requests_join later before = map-append (λ (a : Answered). a.request) later before

told_so : (a : Answered) (before : List Request) → IsDue before a → told a (outcome_after before a.request) ≡ outcome_after before a.request
told_so a before due = λ i. record (outcome_after before a.request) { node = due.node i; forgot = due.gone i }

are_told : (later before : List Answered) → AreDue (later ++ before) → outcomes_told later before ≡ outcomes (requests_of later) (requests_of before)
are_told [] before due = refl
are_told (a ∷ later) before due =
    let due_here : IsDue (requests_of later ++ requests_of before) a = subst (λ (rs : List Request). IsDue rs a) (requests_join later before) due.0 in
    let here : told a (outcome_after (requests_of later ++ requests_of before) a.request) ≡ outcome_after (requests_of later ++ requests_of before) a.request = told_so a (requests_of later ++ requests_of before) due_here in
    let rest : outcomes_told later before ≡ outcomes (requests_of later) (requests_of before) = are_told later before due.1 in
    λ i. here i ∷ rest i

-- ---- weights exact

all_requests : (P : Request → Type 0) (later : List Answered) → All (λ (a : Answered). P a.request) later → All P (requests_of later)
all_requests P [] all = All-nil P
all_requests P (a ∷ later) all = All-cons P a.request (requests_of later) (All-head (λ (x : Answered). P x.request) a later all) (all_requests P later (All-tail (λ (x : Answered). P x.request) a later all))

weight_within : (ts : List Target) (n : ℕ) → weight_of ts n ≤ total_weight ts
weight_within [] n = omega arith
weight_within (t ∷ ts) n = let count = sum_by-cons (λ (x : Target). x.weight) t ts in by (eqb t.node n) count (weight_within ts n)
  where
    by : (b : Bool) → total_weight (t ∷ ts) ≡ t.weight + total_weight ts → weight_of ts n ≤ total_weight ts
        → option_map_or (λ (x : Target). x.weight) (cond b (Some t) (find (λ (x : Target). eqb x.node n) ts)) 0 ≤ total_weight (t ∷ ts)
    by true count _ = omega arith
    by false count rest = omega arith

pub exact : (answers later before : List Answered) (targets : List Target) → AreDue answers → answers ≡ later ++ before
    → All (λ a. a.request.targets ≡ targets) later → count_by (λ o. o.turn) (outcomes_told later before) ≡ total_weight targets
    → (n : ℕ) → count_by (is_turn_of n) (outcomes_told later before) ≡ weight_of targets n
exact answers [] before targets due is same count n = let within = weight_within targets n in omega arith
exact answers (a ∷ later) before targets due is same count n =
    let due_all : AreDue ((a ∷ later) ++ before) = subst AreDue is due in
    let told_is : outcomes_told (a ∷ later) before ≡ outcomes (requests_of (a ∷ later)) (requests_of before) = are_told (a ∷ later) before due_all in
    let up : IsStrictlyIncreasing (map (λ (t : Target). t.node) targets) =
    subst (λ (ts : List Target). IsStrictlyIncreasing (map (λ (t : Target). t.node) ts)) (All-head (λ (x : Answered). x.request.targets ≡ targets) a later same) due_all.0.ascending in
    ap (λ (os : List Outcome). count_by (is_turn_of n) os) told_is
    ∙ weights_exact (requests_of before) (requests_of (a ∷ later)) targets up (all_requests (λ (r : Request). r.targets ≡ targets) (a ∷ later) same)
    (sym (ap (λ (os : List Outcome). count_by (λ o. o.turn) os) told_is) ∙ count) n

-- ---- sticky

all_targets : (n : ℕ) (answers : List Answered) → AllByRecursion (λ a. is_target a.request.targets n ≡ true) answers → All (λ (r : Request). is_target r.targets n ≡ true) (requests_of answers)
all_targets n [] all = All-nil (λ (r : Request). is_target r.targets n ≡ true)
all_targets n (a ∷ answers) all = All-cons (λ (r : Request). is_target r.targets n ≡ true) a.request (requests_of answers) all.0 (all_targets n answers all.1)

none_forgotten : (c : Client) (between before : List Answered) → AreDue (between ++ before) → AllByRecursion (λ a. a.forgot ≢ Some c) between
    → All (λ (o : Outcome). o.forgot ≢ Some c) (outcomes (requests_of between) (requests_of before))
none_forgotten c [] before due kept = All-nil (λ (o : Outcome). o.forgot ≢ Some c)
none_forgotten c (a ∷ between) before due kept =
    let due_here : IsDue (requests_of between ++ requests_of before) a = subst (λ (rs : List Request). IsDue rs a) (requests_join between before) due.0 in
    let here : (outcome_after (requests_of between ++ requests_of before) a.request).forgot ≢ Some c = subst (λ (o : Option Client). o ≢ Some c) due_here.gone kept.0 in
    All-cons (λ (o : Outcome). o.forgot ≢ Some c) (outcome_after (requests_of between ++ requests_of before) a.request) (outcomes (requests_of between) (requests_of before)) here
    (none_forgotten c between before due.1 kept.1)

module _ (before between : List Answered) (first last : Answered) (n : ℕ) (c : Client) (due : AreDue (last ∷ (between ++ first ∷ before))) (stays : StaysTold first between last c n) where
  stays_so : laws.StaysBetween (requests_of before) first.request (requests_of between) last.request c n
  stays_so = record {
    answered = sym (due_before between (first ∷ before) due.1).0.node ∙ stays.answered;
    target = all_targets n (last ∷ between) stays.target;
    kept = none_forgotten c between (first ∷ before) due.1 stays.kept;
  }

  last_gets : (outcome_after (requests_of between ++ first.request ∷ requests_of before) last.request).node ≡ Some n → last.node ≡ Some n
  last_gets got = due.0.node ∙ ap (λ (rs : List Request). (outcome_after rs last.request).node) (requests_join between (first ∷ before)) ∙ got

pub ports : (answers : List Answered) → AreDue answers → (later between before : List Answered) (first last : Answered) (n : ℕ) → answers ≡ later ++ last ∷ (between ++ first ∷ before)
    → first.request.policy ≡ StickyPort → last.request.policy ≡ StickyPort → last.request.address ≡ first.request.address → last.request.port ≡ first.request.port
    → StaysTold first between last (record { address = first.request.address; port = first.request.port }) n → last.node ≡ Some n
ports answers due later between before first last n is policy last_policy address port stays =
    let due_last : AreDue (last ∷ (between ++ first ∷ before)) = due_before later (last ∷ (between ++ first ∷ before)) (subst AreDue is due) in
    let c : Client = record { address = first.request.address; port = first.request.port } in
    last_gets before between first last n c due_last stays
    (ports_stick (requests_of before) first.request (requests_of between) last.request n policy last_policy address port (stays_so before between first last n c due_last stays))

pub clients : (answers : List Answered) → AreDue answers → (later between before : List Answered) (first last : Answered) (n : ℕ) → answers ≡ later ++ last ∷ (between ++ first ∷ before)
    → first.request.policy ≡ Sticky → last.request.policy ≡ Sticky → last.request.address ≡ first.request.address
    → StaysTold first between last (record { address = first.request.address; port = 0 }) n → last.node ≡ Some n
clients answers due later between before first last n is policy last_policy address stays =
    let due_last : AreDue (last ∷ (between ++ first ∷ before)) = due_before later (last ∷ (between ++ first ∷ before)) (subst AreDue is due) in
    let c : Client = record { address = first.request.address; port = 0 } in
    last_gets before between first last n c due_last stays
    (clients_stick (requests_of before) first.request (requests_of between) last.request n policy last_policy address (stays_so before between first last n c due_last stays))
