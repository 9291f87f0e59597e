-- A client that is kept with a node stays so.
use Rattle.std.proofs.Common.{◌≡◌, ◌≢◌, ℕ, ◌<◌, ◌≤◌, Bool, true, false, not, cond, ◌&&◌, List, [], ◌∷◌, ◌++◌, length, drop, nat_lt, Option, None, Some, All, refl, sym, ap, ◌∙◌, arith, if◌then◌else◌}
use Rattle.std.specs.Map.{lookup}
use Rattle.std.proofs.lemmas.Bool.{eqb-true}
use Rattle.std.proofs.lemmas.Bool.Decides.{nat_tests}
use Rattle.std.proofs.lemmas.List.{length-append, length-drop, nil_from_length}
use Rattle.std.proofs.lemmas.List.Elements.{All-head, All-tail}
use Rattle.std.proofs.lemmas.Map.Entries.{lookup-filter-keys}
use Rattle.shared_address.specs.declared.choice.Client.{Client}
use Rattle.shared_address.specs.declared.choice.Target.{Target}
use Rattle.shared_address.specs.States.{AddressState}
use Rattle.shared_address.specs.Choosing.{chosen, forgotten_of, if_target, is_target, kept_client, kept_target, keeping, most_kept, next_node, others, same_client, seen, served, staying, Outcome, Request}
use Rattle.std.proofs.lemmas.List.Sums.{count_by-le-length, length-filter}
use Rattle.cl_base.specs.declared.command.Policy.{Policy}
use Rattle.shared_address.specs.Laws.{ClientsStick, FewAreKept, PortsStick, StaysBetween}
use Rattle.shared_address.specs.History.{outcome_after, outcomes, state_after}
use Rattle.shared_address.proofs.Cases.{served_cases}
use Rattle.shared_address.proofs.ClientLemmas.{none_staying}

first_of : (p q : Bool) → (p && q) ≡ true → p ≡ true
first_of true q h = refl
first_of false q h = h

second_of : (p q : Bool) → (p && q) ≡ true → q ≡ true
second_of true q h = h
second_of false q h = cc h

one_client : (c d : Client) → same_client c d ≡ true → c ≡ d
one_client c d h =
    let a : c.address ≡ d.address = eqb-true c.address d.address (first_of _ _ h) in
    let p : c.port ≡ d.port = eqb-true c.port d.port (second_of _ _ h) in
    λ i. record { address = a i; port = p i }

self_client : (c : Client) → same_client c c ≡ true
self_client c = grind (arith, nat_tests)

-- looking up

lookup_front : {K X : Type 0} (test : K → Bool) (xs ys : List (K × X)) (n : X) → lookup test xs ≡ Some n → lookup test (xs ++ ys) ≡ Some n
lookup_front test [] ys n h = cc h
lookup_front {K} {X} test (e ∷ xs) ys n h = by (test e.0) h (lookup_front test xs ys n)
  where
    by : (b : Bool) → cond b (Some e.1) (lookup test xs) ≡ Some n → (lookup test xs ≡ Some n → lookup test (xs ++ ys) ≡ Some n) → cond b (Some e.1) (lookup test (xs ++ ys)) ≡ Some n
    by true h _ = h
    by false h rest = rest h

lookup_back : {K X : Type 0} (test : K → Bool) (xs : List (K × X)) (k : K) (n : X) → lookup test xs ≡ None → test k ≡ true → lookup test (xs ++ (k, n) ∷ []) ≡ Some n
lookup_back test [] k n h at = ap (λ (b : Bool). cond b (Some n) None) at
lookup_back {K} {X} test (e ∷ xs) k n h at = by (test e.0) h (λ none. lookup_back test xs k n none at)
  where
    by : (b : Bool) → cond b (Some e.1) (lookup test xs) ≡ None → (lookup test xs ≡ None → lookup test (xs ++ (k, n) ∷ []) ≡ Some n) → cond b (Some e.1) (lookup test (xs ++ (k, n) ∷ [])) ≡ Some n
    by true h _ = cc h
    by false h rest = rest h

if_target_known : (ts : List Target) (o : Option ℕ) (n : ℕ) → if_target ts o ≡ Some n → o ≡ Some n
if_target_known ts None n h = cc h
if_target_known ts (Some m) n h = by (is_target ts m) h
  where
    by : (b : Bool) → cond b (Some m) None ≡ Some n → Some m ≡ Some n
    by true h = h
    by false h = cc h

if_target_is : (ts : List Target) (o : Option ℕ) (n : ℕ) → o ≡ Some n → is_target ts n ≡ true → if_target ts o ≡ Some n
if_target_is ts o n is target = ap (λ (x : Option ℕ). if_target ts x) is ∙ ap (λ (b : Bool). cond b (Some n) None) target

-- an entry of the client
module _ (c : Client) (n : ℕ) where
  abbrev pub Holds : List (Client × ℕ) → Type 0
  Holds kept = lookup (same_client c) kept ≡ Some n

  pub others_hold : (kept : List (Client × ℕ)) (d : Client) → same_client d c ≡ false → Holds kept → Holds (others kept d)
  others_hold kept d apart h =
      lookup-filter-keys (same_client c) (λ k. not (same_client d k)) true
      (λ k at. ap not (ap (λ (x : Client). same_client d x) (sym (one_client c k at)) ∙ apart)) kept ∙ h

  pub staying_holds : (es : List (Client × ℕ)) → forgotten_of es ≢ Some c → Holds es → Holds (staying es)
  staying_holds [] kept h = cc h
  staying_holds (e ∷ es) kept h = by (nat_lt (length (e ∷ es)) most_kept) kept
    where
      past : (b : Bool) → same_client c e.0 ≡ b → Some e.0 ≢ Some c → cond b (Some e.1) (lookup (same_client c) es) ≡ Some n → lookup (same_client c) es ≡ Some n
      past true at other h = absurd (other (ap Some (sym (one_client c e.0 at))))
      past false at other h = h

      by : (b : Bool) → (if b then None else Some e.0) ≢ Some c → Holds (if b then e ∷ es else es)
      by true _ = h
      by false other = past (same_client c e.0) refl other h

none_among_others : (c : Client) (es : List (Client × ℕ)) → lookup (same_client c) (others es c) ≡ None
none_among_others c es = lookup-filter-keys (same_client c) (λ k. not (same_client c k)) false (λ k at. ap not at) es ∙ no (lookup (same_client c) es)
  where
    no : (o : Option ℕ) → cond false o None ≡ None
    no o = refl

-- the request that keeps it
keeps : (c : Client) (n : ℕ) (s : AddressState) (ts : List Target) → (served s (Some c) ts).node ≡ Some n → Holds c n (served s (Some c) ts).after.kept
keeps c n s ts = served_cases (λ o. o.node ≡ Some n → Holds c n o.after.kept) s (Some c) ts
    (λ none is. cc is)
    (λ some no is. cc no)
    (λ d some is miss node.
    let same : c ≡ d = cc is in
    let got : next_node (seen s.turns ts) ≡ n = cc node in
    let none = none_staying (same_client d) (others s.kept d) (none_among_others d s.kept) in
    ap (λ (x : Client). lookup (same_client x) (keeping s.kept d (next_node (seen s.turns ts)))) same
    ∙ lookup_back (same_client d) (staying (others s.kept d)) d (next_node (seen s.turns ts)) none (self_client d) ∙ ap Some got)
    (λ d m some is found node.
    let same : c ≡ d = cc is in
    let got : m ≡ n = cc node in
    ap (λ (x : Client). lookup (same_client x) s.kept) same ∙ if_target_known ts (lookup (same_client d) s.kept) m found ∙ ap Some got)

-- a request that does not make it forgotten
module _ (c : Client) (n : ℕ) (s : AddressState) (k : Option Client) (ts : List Target) (holds : Holds c n s.kept) (target : is_target ts n ≡ true) where
  hits : (d : Client) → same_client d c ≡ true → kept_target s.kept d ts ≡ Some n
  hits d at = if_target_is ts (lookup (same_client d) s.kept) n (ap (λ (x : Client). lookup (same_client x) s.kept) (one_client d c at) ∙ holds) target

  stays : (served s k ts).forgot ≢ Some c → Holds c n (served s k ts).after.kept
  stays = served_cases (λ o. o.forgot ≢ Some c → Holds c n o.after.kept) s k ts (λ _ _. holds) (λ _ _ _. holds) of_turn (λ _ _ _ _ _ _. holds)
    where
      of_turn : (d : Client) → 0 < length ts → k ≡ Some d → kept_target s.kept d ts ≡ None → forgotten_of (others s.kept d) ≢ Some c → Holds c n (keeping s.kept d (next_node (seen s.turns ts)))
      of_turn d _ _ miss other = by (same_client d c) refl
        where
          by : (b : Bool) → same_client d c ≡ b → Holds c n (keeping s.kept d (next_node (seen s.turns ts)))
          by true at = let hit = hits d at in cc (miss, hit)
          by false apart = lookup_front (same_client c) (staying (others s.kept d)) ((d, next_node (seen s.turns ts)) ∷ []) n
              (staying_holds c n (others s.kept d) other (others_hold c n s.kept d apart holds))

-- the client's own request
again : (c : Client) (n : ℕ) (s : AddressState) (ts : List Target) → Holds c n s.kept → is_target ts n ≡ true → (served s (Some c) ts).node ≡ Some n
again c n s ts holds target = served_cases (λ o. o.node ≡ Some n) s (Some c) ts
    (λ none. let no = ap (λ (xs : List Target). is_target xs n) (nil_from_length ts none) in cc (no, target))
    (λ _ no. cc no)
    (λ d _ is miss. let hit = hits c n s (Some c) ts holds target d (at d is) in cc (miss, hit))
    (λ d m _ is found. let hit = hits c n s (Some c) ts holds target d (at d is) in sym found ∙ hit)
  where
    at : (d : Client) → Some c ≡ Some d → same_client d c ≡ true
    at d is = let same : d ≡ c = cc is in ap (λ (x : Client). same_client x c) same ∙ self_client c

stays_all : (c : Client) (n : ℕ) (before between : List Request) → Holds c n (state_after before).kept → All (λ r. is_target r.targets n ≡ true) between
    → All (λ o. o.forgot ≢ Some c) (outcomes between before) → Holds c n (state_after (between ++ before)).kept
stays_all c n before [] holds _ _ = holds
stays_all c n before (r ∷ between) holds targets kept =
    stays c n (state_after (between ++ before)) (kept_client r.policy r.address r.port) r.targets
    (stays_all c n before between holds (All-tail (λ (q : Request). is_target q.targets n ≡ true) r between targets)
    (All-tail (λ (o : Outcome). o.forgot ≢ Some c) (outcome_after (between ++ before) r) (outcomes between before) kept))
    (All-head (λ (q : Request). is_target q.targets n ≡ true) r between targets)
    (All-head (λ (o : Outcome). o.forgot ≢ Some c) (outcome_after (between ++ before) r) (outcomes between before) kept)

sticks : (before : List Request) (first : Request) (between : List Request) (last : Request) (c : Client) (n : ℕ)
    → kept_client first.policy first.address first.port ≡ Some c → kept_client last.policy last.address last.port ≡ Some c
    → StaysBetween before first between last c n → (outcome_after (between ++ first ∷ before) last).node ≡ Some n
sticks before first between last c n key last_key h =
    let s = state_after before in
    let got : (served s (Some c) first.targets).node ≡ Some n = ap (λ (k : Option Client). (served s k first.targets).node) (sym key) ∙ h.answered in
    let kept : Holds c n (state_after (first ∷ before)).kept = ap (λ (k : Option Client). lookup (same_client c) (served s k first.targets).after.kept) key ∙ keeps c n s first.targets got in
    let all = stays_all c n (first ∷ before) between kept (All-tail (λ (q : Request). is_target q.targets n ≡ true) last between h.target) h.kept in
    let t = state_after (between ++ first ∷ before) in
    ap (λ (k : Option Client). (served t k last.targets).node) last_key ∙ again c n t last.targets all (All-head (λ (q : Request). is_target q.targets n ≡ true) last between h.target)

pub ports_stick : PortsStick
ports_stick before first between last n policy last_policy address port h =
    sticks before first between last (record { address = first.address; port = first.port }) n
    (ap (λ (p : Policy). kept_client p first.address first.port) policy)
    (ap (λ (p : Policy). kept_client p last.address last.port) last_policy ∙ (λ i. Some (record { address = address i; port = port i }))) h

pub clients_stick : ClientsStick
clients_stick before first between last n policy last_policy address h =
    sticks before first between last (record { address = first.address; port = 0 }) n
    (ap (λ (p : Policy). kept_client p first.address first.port) policy)
    (ap (λ (p : Policy). kept_client p last.address last.port) last_policy ∙ (λ i. Some (record { address = address i; port = 0 }))) h

-- few are kept
length_others : (es : List (Client × ℕ)) (c : Client) → length (others es c) ≤ length es
length_others es c = rw (length-filter (λ (e : Client × ℕ). not (same_client c e.0)) es) (count_by-le-length (λ (e : Client × ℕ). not (same_client c e.0)) es)

length_kept : (es : List (Client × ℕ)) (e : Client × ℕ) → length es ≤ most_kept → length (staying es ++ e ∷ []) ≤ most_kept
length_kept es e most = by (nat_lt (length es) most_kept) refl
  where
    by : (b : Bool) → nat_lt (length es) most_kept ≡ b → length ((if b then es else drop 1 es) ++ e ∷ []) ≤ most_kept
    by true h = let l = length-append es (e ∷ []) in grind (arith, nat_tests)
    by false h = let l = length-append (drop 1 es) (e ∷ []) in let d = length-drop 1 es in omega arith

pub few_kept : FewAreKept
few_kept [] = omega arith
few_kept (r ∷ before) = of (state_after before) (few_kept before)
  where
    of : (s : AddressState) → length s.kept ≤ most_kept → length (chosen s r).after.kept ≤ most_kept
    of s most = served_cases (λ o. length o.after.kept ≤ most_kept) s (kept_client r.policy r.address r.port) r.targets (λ _. most) (λ _ _. most)
        (λ d _ _ _. length_kept (others s.kept d) (d, next_node (seen s.turns r.targets)) (le_of (length (others s.kept d)) (length s.kept) (length_others s.kept d) most)) (λ _ _ _ _ _. most)
      where
        le_of : (a b : ℕ) → a ≤ b → b ≤ most_kept → a ≤ most_kept
        le_of a b h k = omega arith
