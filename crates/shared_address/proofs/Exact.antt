-- A round's worth of turns gives each node its weight.
use Rattle.std.proofs.Common.{◌≡◌, ℕ, ◌+◌, ◌-◌, ◌*◌, ◌<◌, ◌≤◌, suc, Bool, true, false, ◌&&◌, cond, List, [], ◌∷◌, ◌++◌, length, map, take, drop, replicate, nat_lt, Option, Some, get_or, slice_index, count_by, find, All, eqb, refl, sym, ap, subst, ◌∙◌, arith}
use Rattle.std.specs.List.Sorted.{IsStrictlyIncreasing}
use Rattle.std.specs.Option.{option_map_or}
use Rattle.std.specs.Cmp.Lexicographic.{pointwise}
use Rattle.std.proofs.lemmas.Bool.{eqb-true}
use Rattle.std.proofs.lemmas.Bool.Decides.{nat_tests}
use Rattle.std.proofs.lemmas.List.{length-append, length-drop, length-take, length-replicate, take_all, get_or-drop, get_or-take, get_or_append_left, get_or-append_right}
use Rattle.std.proofs.lemmas.List.Folds.{sum_by-replicate}
use Rattle.std.proofs.lemmas.List.Elements.{All-head, All-tail}
use Rattle.std.proofs.lemmas.List.Sums.{sum_by-append, sum_by-cons, sum_by_more, sum_by-take-drop}
use Rattle.shared_address.specs.declared.choice.Client.{Client}
use Rattle.shared_address.specs.declared.choice.Target.{Target}
use Rattle.shared_address.specs.States.{AddressState, TurnState}
use Rattle.shared_address.specs.Choosing.{after_turn, chosen, kept_client, next_node, round_of, same_target, seen, served, total_weight, weight_of, Outcome, Request}
use Rattle.shared_address.specs.History.{outcome_after, outcomes, state_after}
use Rattle.shared_address.specs.Laws.{is_turn_of, WeightsAreExact}
use Rattle.shared_address.proofs.Cases.{served_cases}
use Rattle.shared_address.proofs.TurnLemmas.{same_targets}

-- A round.

pub round_length : (ts : List Target) → length (round_of ts) ≡ total_weight ts
round_length [] = refl
round_length (t ∷ ts) =
    length-append (replicate t.weight t.node) (round_of ts) ∙ (λ i. length-replicate t.weight t.node i + round_length ts i) ∙ sym (sum_by-cons (λ (x : Target). x.weight) t ts)

count_of : ℕ → List ℕ → ℕ
count_of n xs = count_by (λ m. eqb m n) xs

abbrev IsAbove : ℕ → List Target → Type 0
IsAbove n [] = Unit {0}
IsAbove n (t ∷ ts) = (n < t.node) × IsAbove n ts

absent_weight : (n : ℕ) (ts : List Target) → IsAbove n ts → weight_of ts n ≡ 0
absent_weight n [] h = refl
absent_weight n (t ∷ ts) h = by (eqb t.node n) refl (absent_weight n ts h.1)
  where
    by : (b : Bool) → eqb t.node n ≡ b → weight_of ts n ≡ 0 → option_map_or (λ (x : Target). x.weight) (cond b (Some t) (find (λ (x : Target). eqb x.node n) ts)) 0 ≡ 0
    by true e _ = let same = eqb-true t.node n e in let above = h.0 in absurd (omega arith)
    by false e rest = rest

above_weaker : (m n : ℕ) (ts : List Target) → m < n → IsAbove n ts → IsAbove m ts
above_weaker m n [] lt h = tt
above_weaker m n (t ∷ ts) lt h = let above = h.0 in (omega arith, above_weaker m n ts lt h.1)

increasing_rest : (x : ℕ) (xs : List ℕ) → IsStrictlyIncreasing (x ∷ xs) → IsStrictlyIncreasing xs
increasing_rest x xs up k lt =
    let next : suc k + 1 ≡ suc (k + 1) = omega arith in
    subst (λ (j : ℕ). slice_index xs k < slice_index (x ∷ xs) j) next (up (suc k) (omega arith))

first_below : (t : Target) (ts : List Target) → IsStrictlyIncreasing (map (λ (x : Target). x.node) (t ∷ ts)) → IsAbove t.node ts
first_below t [] up = tt
first_below t (u ∷ ts) up =
    let below : t.node < u.node = up 0 (omega arith) in
    (below, above_weaker t.node u.node ts below (first_below u ts (increasing_rest t.node (map (λ (x : Target). x.node) (u ∷ ts)) up)))

pub round_count : (ts : List Target) → IsStrictlyIncreasing (map (λ (x : Target). x.node) ts) → (n : ℕ) → count_by (λ m. eqb m n) (round_of ts) ≡ weight_of ts n
round_count [] up n = refl
round_count (t ∷ ts) up n =
    let rest = round_count ts (increasing_rest t.node (map (λ (x : Target). x.node) ts) up) n in
    let both = sum_by-append (λ (m : ℕ). cond (eqb m n) 1 0) (replicate t.weight t.node) (round_of ts) in
    let first = sum_by-replicate (λ (m : ℕ). cond (eqb m n) 1 0) t.weight t.node in
    both ∙ (λ i. first i + rest i) ∙ by (eqb t.node n) refl
  where
    by : (b : Bool) → eqb t.node n ≡ b → t.weight * cond b 1 0 + weight_of ts n ≡ option_map_or (λ (x : Target). x.weight) (cond b (Some t) (find (λ (x : Target). eqb x.node n) ts)) 0
    by true e = let none = absent_weight n ts (subst (λ (m : ℕ). IsAbove m ts) (eqb-true t.node n e) (first_below t ts up)) in omega arith
    by false e = omega arith

-- What a request does to the turns.

self_target : (t : Target) → same_target t t ≡ true
self_target t = grind (arith, nat_tests)

self_targets : (ts : List Target) → pointwise same_target ts ts ≡ true
self_targets [] = refl
self_targets (t ∷ ts) = λ i. self_target t i && self_targets ts i

pub seen_same : (t : TurnState) (ts : List Target) → t.targets ≡ ts → seen t ts ≡ t
seen_same t ts same =
    let test : pointwise same_target t.targets ts ≡ true = ap (λ (xs : List Target). pointwise same_target xs ts) same ∙ self_targets ts in
    ap (λ (b : Bool). cond b t (record { targets = ts; taken = 0 })) test

seen_targets : (t : TurnState) (ts : List Target) → (seen t ts).targets ≡ ts
seen_targets t ts = by (pointwise same_target t.targets ts) refl
  where
    by : (b : Bool) → pointwise same_target t.targets ts ≡ b → (cond b t (record { targets = ts; taken = 0 })).targets ≡ ts
    by true h = same_targets t.targets ts h
    by false h = refl

abbrev pub IsInRound : TurnState → Type 0
IsInRound t = 0 < total_weight t.targets → t.taken < total_weight t.targets

seen_in_round : (t : TurnState) (ts : List Target) → IsInRound t → IsInRound (seen t ts)
seen_in_round t ts h = by (pointwise same_target t.targets ts)
  where
    by : (b : Bool) → IsInRound (cond b t (record { targets = ts; taken = 0 }))
    by true = h
    by false = λ some. some

turn_in_round : (t : TurnState) → IsInRound t → IsInRound (after_turn t)
turn_in_round t h some = let within = h some in by (eqb (t.taken + 1) (total_weight t.targets)) refl within
  where
    by : (b : Bool) → eqb (t.taken + 1) (total_weight t.targets) ≡ b → t.taken < total_weight t.targets → cond b 0 (t.taken + 1) < total_weight t.targets
    by true _ _ = some
    by false e within = grind (arith, nat_tests)

record Step (t : TurnState) (o : Outcome) : Type 0 where
  turns : o.after.turns ≡ cond o.turn (after_turn t) t
  node : (n : ℕ) → is_turn_of n o ≡ (o.turn && eqb (next_node t) n)

step : (s : AddressState) (k : Option Client) (ts : List Target) → Step (seen s.turns ts) (served s k ts)
step s k ts = served_cases (λ o. Step (seen s.turns ts) o) s k ts
    (λ _. record { turns = refl; node = λ n. refl })
    (λ _ _. record { turns = refl; node = λ n. refl })
    (λ d _ _ _. record { turns = refl; node = λ n. refl })
    (λ d m _ _ _. record { turns = refl; node = λ n. refl })

pub state_in_round : (before : List Request) → IsInRound (state_after before).turns
state_in_round [] = λ some. some
state_in_round (r ∷ before) =
    let s = state_after before in
    let o = chosen s r in
    let t = seen s.turns r.targets in
    let within = seen_in_round s.turns r.targets (state_in_round before) in
    subst IsInRound (sym (step s (kept_client r.policy r.address r.port) r.targets).turns) (by t within o.turn)
  where
    by : (t : TurnState) → IsInRound t → (b : Bool) → IsInRound (cond b (after_turn t) t)
    by t h true = turn_in_round t h
    by t h false = h

-- So many turns on, in a round of w turns.

abbrev pub wrapped : ℕ → ℕ → ℕ
wrapped w x = cond (nat_lt x w) x (x - w)

abbrev pub turned : ℕ → List ℕ → List ℕ
turned first nodes = drop first nodes ++ take first nodes

pub wrapped_next : (w first k : ℕ) → first < w → k + 1 ≤ w → cond (eqb (wrapped w (first + k) + 1) w) 0 (wrapped w (first + k) + 1) ≡ wrapped w (first + (k + 1))
wrapped_next w first k lt le = grind (arith, nat_tests)

pub length_turned : (first : ℕ) (nodes : List ℕ) → length (turned first nodes) ≡ length nodes
length_turned first nodes = let a = length-append (drop first nodes) (take first nodes) in let d = length-drop first nodes in let t = length-take first nodes in omega arith

pub turned_at : (first k : ℕ) (nodes : List ℕ) (d : ℕ) → first < length nodes → k < length nodes → get_or (turned first nodes) k d ≡ get_or nodes (wrapped (length nodes) (first + k)) d
turned_at first k nodes d lt lk = by (nat_lt (first + k) (length nodes)) refl
  where
    by : (b : Bool) → nat_lt (first + k) (length nodes) ≡ b → get_or (turned first nodes) k d ≡ get_or nodes (cond b (first + k) (first + k - length nodes)) d
    by true h =
        let l = length-drop first nodes in
        let within : k < length (drop first nodes) = grind (arith, nat_tests) in
        get_or_append_left (drop first nodes) (take first nodes) d k within ∙ get_or-drop first nodes k d
    by false h =
        let l = length-drop first nodes in
        let past : length nodes - first ≤ k = grind (arith, nat_tests) in
        let same : k - (length nodes - first) ≡ first + k - length nodes = omega arith in
        get_or-append_right (drop first nodes) (take first nodes) (length nodes - first) k d l past
        ∙ get_or-take first nodes (k - (length nodes - first)) d (omega arith) ∙ ap (λ (i : ℕ). get_or nodes i d) same

-- The requests.

module _ (ts : List Target) (first : ℕ) (within : 0 < total_weight ts → first < total_weight ts) where
  abbrev nodes : List ℕ
  nodes = turned first (round_of ts)

  abbrev at_turn : ℕ → TurnState
  at_turn k = record { targets = ts; taken = wrapped (total_weight ts) (first + k) }

  -- so many turns were taken from the first on: whose turn it is, and how many turns each node had
  record SoFar (s : AddressState) (counts : ℕ → ℕ) (k : ℕ) : Type 0 where
    state : seen s.turns ts ≡ at_turn k
    each : (n : ℕ) → counts n ≡ count_by (λ m. eqb m n) (take k nodes)

  without_turn : (s : AddressState) (counts new : ℕ → ℕ) (k : ℕ) (o : Outcome) → SoFar s counts k → Step (seen s.turns ts) o → o.turn ≡ false
      → ((n : ℕ) → new n ≡ counts n) → SoFar o.after new k
  without_turn s counts new k o sofar how idle same =
      let stays : o.after.turns ≡ seen s.turns ts = how.turns ∙ ap (λ (b : Bool). cond b (after_turn (seen s.turns ts)) (seen s.turns ts)) idle in
      record {
        state = seen_same o.after.turns ts (ap (λ (t : TurnState). t.targets) stays ∙ seen_targets s.turns ts) ∙ stays ∙ sofar.state;
        each = λ n. same n ∙ sofar.each n;
      }

  with_turn : (s : AddressState) (counts new : ℕ → ℕ) (k : ℕ) (o : Outcome) → SoFar s counts k → Step (seen s.turns ts) o → o.turn ≡ true → k + 1 ≤ total_weight ts
      → ((n : ℕ) → new n ≡ cond (eqb (next_node (seen s.turns ts)) n) 1 0 + counts n) → SoFar o.after new (k + 1)
  with_turn s counts new k o sofar how took le more =
      let goes : o.after.turns ≡ after_turn (seen s.turns ts) = how.turns ∙ ap (λ (b : Bool). cond b (after_turn (seen s.turns ts)) (seen s.turns ts)) took in
      let lt : first < total_weight ts = within (omega arith) in
      let next : after_turn (at_turn k) ≡ at_turn (k + 1) = (λ i. record { targets = ts; taken = wrapped_next (total_weight ts) first k lt le i }) in
      let size = round_length ts in
      let node : next_node (seen s.turns ts) ≡ get_or nodes k 0 =
      ap next_node sofar.state ∙ ap (λ (w : ℕ). get_or (round_of ts) (wrapped w (first + k)) 0) (sym size) ∙ sym (turned_at first k (round_of ts) 0 (omega arith) (omega arith)) in
      let long = length_turned first (round_of ts) in
      record {
        state = seen_same o.after.turns ts (ap (λ (t : TurnState). t.targets) goes ∙ seen_targets s.turns ts) ∙ goes ∙ ap after_turn sofar.state ∙ next;
        each = λ n.
            let one : cond {A = ℕ} (eqb (next_node (seen s.turns ts)) n) 1 0 ≡ cond {A = ℕ} (eqb (get_or nodes k 0) n) 1 0 = ap {B = ℕ} (λ (m : ℕ). cond {A = ℕ} (eqb m n) 1 0) node in
            let last = sum_by_more (λ (m : ℕ). cond (eqb m n) 1 0) nodes k 0 (omega arith) in
            let here = more n in
            let sofar_here = sofar.each n in
            omega arith;
      }

  more : (s : AddressState) (o : Outcome) (counts new : ℕ → ℕ) (k m : ℕ) → Step (seen s.turns ts) o → m ≡ cond o.turn 1 0 + k
      → ((n : ℕ) → new n ≡ cond (is_turn_of n o) 1 0 + counts n) → m ≤ total_weight ts → (k ≤ total_weight ts → SoFar s counts k) → SoFar o.after new m
  more s o counts new k m how count each le rest = by o.turn refl
    where
      by : (b : Bool) → o.turn ≡ b → SoFar o.after new m
      by true took =
          let one : cond {A = ℕ} o.turn 1 0 ≡ 1 = ap {B = ℕ} (λ (b : Bool). cond {A = ℕ} b 1 0) took in
          let next : k + 1 ≡ m = omega arith in
          subst (λ (j : ℕ). SoFar o.after new j) next (with_turn s counts new k o (rest (omega arith)) how took (omega arith)
          (λ n. each n ∙ ap (λ (b : Bool). cond b 1 0 + counts n) (how.node n ∙ ap (λ (b : Bool). b && eqb (next_node (seen s.turns ts)) n) took)))
      by false idle =
          let none : cond {A = ℕ} o.turn 1 0 ≡ 0 = ap {B = ℕ} (λ (b : Bool). cond {A = ℕ} b 1 0) idle in
          let same : k ≡ m = omega arith in
          subst (λ (j : ℕ). SoFar o.after new j) same (without_turn s counts new k o (rest (omega arith)) how idle
          (λ n. each n ∙ ap (λ (b : Bool). cond b 1 0 + counts n) (how.node n ∙ ap (λ (b : Bool). b && eqb (next_node (seen s.turns ts)) n) idle) ∙ nothing (counts n)))
        where
          nothing : (x : ℕ) → 0 + x ≡ x
          nothing x = omega arith

  whole_round : (s : AddressState) (counts : ℕ → ℕ) → IsStrictlyIncreasing (map (λ t. t.node) ts) → SoFar s counts (total_weight ts) → (n : ℕ) → counts n ≡ weight_of ts n
  whole_round s counts up sofar n =
      let size = round_length ts in
      let long = length_turned first (round_of ts) in
      let all : take (total_weight ts) nodes ≡ nodes = take_all (total_weight ts) nodes (omega arith) in
      let parts = sum_by-append (λ (m : ℕ). cond (eqb m n) 1 0) (drop first (round_of ts)) (take first (round_of ts)) in
      let round = sum_by-take-drop (λ (m : ℕ). cond (eqb m n) 1 0) (round_of ts) first in
      let turned_count : count_by (λ m. eqb m n) nodes ≡ count_by (λ m. eqb m n) (round_of ts) = omega arith in
      sofar.each n ∙ ap (λ (xs : List ℕ). count_by (λ m. eqb m n) xs) all ∙ turned_count ∙ round_count ts up n

module _ (before : List Request) (ts : List Target) where
  abbrev first_turns : TurnState
  first_turns = seen (state_after before).turns ts

  first_within : 0 < total_weight ts → first_turns.taken < total_weight ts
  first_within = subst (λ (xs : List Target). 0 < total_weight xs → first_turns.taken < total_weight xs) (seen_targets (state_after before).turns ts)
      (seen_in_round (state_after before).turns ts (state_in_round before))

  abbrev turns_in : List Request → ℕ
  turns_in later = count_by (λ o. o.turn) (outcomes later before)

  abbrev turns_of : List Request → ℕ → ℕ
  turns_of later n = count_by (is_turn_of n) (outcomes later before)

  so_far : (later : List Request) → All (λ r. r.targets ≡ ts) later → turns_in later ≤ total_weight ts
      → SoFar ts first_turns.taken first_within (state_after (later ++ before)) (turns_of later) (turns_in later)
  so_far [] same le = record {
    state = λ i. record { targets = seen_targets (state_after before).turns ts i; taken = first_is i };
    each = λ n. refl;
  }
    where
      first_is : first_turns.taken ≡ wrapped (total_weight ts) (first_turns.taken + 0)
      first_is = by first_turns.taken (total_weight ts) first_within
        where
          by : (i w : ℕ) → (0 < w → i < w) → i ≡ wrapped w (i + 0)
          by i w h = grind (arith, nat_tests)
  so_far (r ∷ later) same le =
      let s = state_after (later ++ before) in
      let o = outcome_after (later ++ before) r in
      let how : Step (seen s.turns ts) o = subst (λ (xs : List Target). Step (seen s.turns xs) o) (All-head (λ (q : Request). q.targets ≡ ts) r later same)
      (step s (kept_client r.policy r.address r.port) r.targets) in
      let count : turns_in (r ∷ later) ≡ cond o.turn 1 0 + turns_in later = sum_by-cons (λ (x : Outcome). cond x.turn 1 0) o (outcomes later before) in
      let each : (n : ℕ) → turns_of (r ∷ later) n ≡ cond (is_turn_of n o) 1 0 + turns_of later n = (λ n. sum_by-cons (λ (x : Outcome). cond (is_turn_of n x) 1 0) o (outcomes later before)) in
      more ts first_turns.taken first_within s o (turns_of later) (turns_of (r ∷ later)) (turns_in later) (turns_in (r ∷ later)) how count each le (so_far later (All-tail (λ (q : Request). q.targets ≡ ts) r later same))

  pub exact : IsStrictlyIncreasing (map (λ t. t.node) ts) → (later : List Request) → All (λ r. r.targets ≡ ts) later → turns_in later ≡ total_weight ts
      → (n : ℕ) → turns_of later n ≡ weight_of ts n
  exact up later same count =
      whole_round ts first_turns.taken first_within (state_after (later ++ before)) (turns_of later) up
      (subst (λ (k : ℕ). SoFar ts first_turns.taken first_within (state_after (later ++ before)) (turns_of later) k) count (so_far later same (omega arith)))

pub weights_exact : WeightsAreExact
weights_exact before later targets up same count = exact before targets up later same count
