-- What an answer, and what the asking of the next member, make of the entries of an attempt.
use Rattle.std.specs.Prelude.{ℕ, ◌≡◌, ◌≢◌, ◌≤◌, ◌==◌, ◌&&◌, ◌||◌, not, Bool, true, false, if◌then◌else◌, List, [], ◌∷◌, ◌++◌, map, Option, None, Some, is_none, is_some}
use Rattle.std.specs.List.{AllByRecursion, find, list_any}
use Rattle.std.proofs.Common.{refl, sym, ap, subst, ◌∙◌}
use Rattle.cl_base.specs.Seizings.{SeizeResult}
use Rattle.cl_base.specs.Sets.{has, set_with}
use Rattle.cl_base.specs.declared.seizing.SeizeEnd.TheVariants.{Contended, Expelled, Fault, Greater, Held, NotRegistered}
use Rattle.seize.specs.declared.kind.SeizeKind.{SeizeKind}
use Rattle.seize.specs.declared.kind.SeizeKind.TheVariants.{Plain, Vote}
use Rattle.cmm_attempt.proofs.Basics.{and_cases, false_true, none_some, same_number, same_some}
use Rattle.cmm_attempt.specs.Attempts.{AttemptState}
use Rattle.cmm_attempt.specs.Promises.{holds_valid}
use Rattle.cmm_attempt.specs.Seizings.{all_settled, awaits, is_asked, may_follow, may_seize, next_by, with_next, with_result}
use Rattle.cmm_attempt.specs.declared.plan.Plan.{Plan}
use Rattle.cmm_attempt.specs.declared.promised.Promised.{Promised}
use Rattle.cmm_attempt.specs.declared.seizing.Seizing.{Seizing}
use Rattle.attempt_laws.specs.Asking.{AreApart, numbers_of}
use Rattle.run_outcomes.specs.tasks.Entries.{AreBoth, AreVotes, LedBy, PlainSo, VoteSo, devices_in, has_votes}
use Rattle.run_outcomes.proofs.told_tasks.Entries.{in_range}
use Rattle.run_outcomes.proofs.told_tasks.Lists.{apart_filter, found_in, has_more, has_other}

-- ---- the entry whose answer is awaited

-- it is the only one of its device
pub only_one : (d : ℕ) (p : Seizing → Bool) → ((e : Seizing) → p e ≡ true → (e.attached.device == d) ≡ true) → (es : List Seizing) (e : Seizing) → AreApart (numbers_of (devices_in es))
    → find p es ≡ Some e → AllByRecursion (λ x. (x.attached.device == d) ≡ true → x ≡ e) es
only_one d p is [] e apart h = tt
only_one d p is (x ∷ es) e apart h = by_test (p x) refl (λ k. only_one d p is es e apart.1 k) h
  where
    neither : (a b : Bool) → (a || b) ≡ false → (a ≡ false) × (b ≡ false)
    neither true b k = absurd (false_true (sym k))
    neither false b k = (refl, k)

    absent : (ys : List Seizing) → list_any (λ n. n == d) (numbers_of (devices_in ys)) ≡ false → AllByRecursion (λ y. (y.attached.device == d) ≡ true → y ≡ e) ys
    absent [] none = tt
    absent (y ∷ ys) none =
        let two : ((y.attached.device == d) ≡ false) × (list_any (λ n. n == d) (numbers_of (devices_in ys)) ≡ false) =
        neither (y.attached.device == d) (list_any (λ n. n == d) (numbers_of (devices_in ys))) none in
        ((λ at. absurd (false_true (sym two.0 ∙ at))), absent ys two.1)

    present : (ys : List Seizing) → find p ys ≡ Some e → list_any (λ n. n == d) (numbers_of (devices_in ys)) ≡ true
    present [] k = absurd (none_some e k)
    present (y ∷ ys) k = by_one (p y) refl (λ z. present ys z) k
      where
        or_second : (a b : Bool) → b ≡ true → (a || b) ≡ true
        or_second true b z = refl
        or_second false b z = z

        or_first : (a b : Bool) → a ≡ true → (a || b) ≡ true
        or_first true b z = refl
        or_first false b z = absurd (false_true z)

        by_one : (b : Bool) → p y ≡ b → (find p ys ≡ Some e → list_any (λ n. n == d) (numbers_of (devices_in ys)) ≡ true) → (if b then Some y else find p ys) ≡ Some e
            → ((y.attached.device == d) || list_any (λ n. n == d) (numbers_of (devices_in ys))) ≡ true
        by_one true at rest z = or_first (y.attached.device == d) _ (is y at)
        by_one false at rest z = or_second (y.attached.device == d) _ (rest z)

    by_test : (b : Bool) → p x ≡ b → (find p es ≡ Some e → AllByRecursion (λ y. (y.attached.device == d) ≡ true → y ≡ e) es) → (if b then Some x else find p es) ≡ Some e
        → AllByRecursion (λ y. (y.attached.device == d) ≡ true → y ≡ e) (x ∷ es)
    by_test true at rest k =
        let same : x ≡ e = same_some x e k in
        ((λ _. same), absent es (subst (λ n. list_any (λ m. m == n) (numbers_of (devices_in es)) ≡ false) (same_number x.attached.device d (is x at)) apart.0))
    by_test false at rest k = (
      (λ here.
          absurd (false_true (sym (subst (λ n. list_any (λ m. m == n) (numbers_of (devices_in es)) ≡ false) (same_number x.attached.device d here) apart.0) ∙ present es k))),
      rest k,
    )

pub awaited_device : (d from : ℕ) (e : Seizing) → awaits d from e ≡ true → (e.attached.device == d) ≡ true
awaited_device d from e h =
    (and_cases (e.attached.device == d) (is_none e.result) (and_cases ((e.attached.device == d) && is_none e.result) (is_asked e.seizer from) h).0).0

pub is_nothing : {X : Type 0} (o : Option X) → is_none o ≡ true → o ≡ None
is_nothing None h = refl
is_nothing (Some x) h = absurd (false_true h)

-- ---- an answer ends it, or the next is asked

vote_ended : (plan : Plan) (promises : List Promised) (e : Seizing) (r : SeizeResult) → e.result ≡ None → next_by plan.cluster promises plan.nodes e e.kind r ≡ None → VoteSo plan promises e
    → VoteSo plan promises (record e { result = Some r })
vote_ended plan promises e r none next h = record {
  kind = h.kind;
  own = h.own;
  asks = h.asks;
  nobody = λ at. absurd (none_some (NotRegistered []) (sym none ∙ (h.nobody at).1));
  last = λ keys at.
      subst (λ z. next_by plan.cluster promises plan.nodes e Vote z ≡ None) (same_some r (NotRegistered keys) at)
      (subst (λ k. next_by plan.cluster promises plan.nodes e k r ≡ None) h.kind next);
}

pub record Follows (cluster : ℕ) (promises : List Promised) (nodes : List ℕ) (e : Seizing) (r : SeizeResult) (n : ℕ) : Type 0 where
  pub keys : List ℕ
  pub told : r ≡ NotRegistered keys
  pub follows : may_follow cluster promises e keys n ≡ true
  pub among : list_any (λ m. m == n) nodes ≡ true

pub next_follows : (cluster : ℕ) (promises : List Promised) (nodes : List ℕ) (e : Seizing) (kind : SeizeKind) (r : SeizeResult) (n : ℕ) → next_by cluster promises nodes e kind r ≡ Some n
    → Follows cluster promises nodes e r n
next_follows cluster promises nodes e Vote (NotRegistered keys) n h =
    let f : (may_follow cluster promises e keys n ≡ true) × (list_any (λ m. m == n) nodes ≡ true) = found_in (may_follow cluster promises e keys) nodes n h in
    record { keys = keys; told = refl; follows = f.0; among = f.1 }
next_follows cluster promises nodes e Vote (Held keys) n h = absurd (none_some n h)
next_follows cluster promises nodes e Vote (Greater word) n h = absurd (none_some n h)
next_follows cluster promises nodes e Vote Expelled n h = absurd (none_some n h)
next_follows cluster promises nodes e Vote (Contended key) n h = absurd (none_some n h)
next_follows cluster promises nodes e Vote Fault n h = absurd (none_some n h)
next_follows cluster promises nodes e Plain r n h = absurd (none_some n h)

pub record Fit (promises : List Promised) (e : Seizing) (n : ℕ) : Type 0 where
  pub may : may_seize promises e.attached n ≡ true
  pub unasked : has e.asked n ≡ false

pub fits : (cluster : ℕ) (promises : List Promised) (e : Seizing) (keys : List ℕ) (n : ℕ) → may_follow cluster promises e keys n ≡ true → Fit promises e n
fits cluster promises e keys n h = record { may = first (has e.attached.nodes n) (holds_valid promises e.attached.device n) (has e.asked n) _ h; unasked = second (has e.attached.nodes n) (holds_valid promises e.attached.device n) (has e.asked n) _ h }
  where
    first : (a b c k : Bool) → (a && b && not c && k) ≡ true → (a && b) ≡ true
    first true true c k z = refl
    first true false c k z = absurd (false_true z)
    first false b c k z = absurd (false_true z)

    second : (a b c k : Bool) → (a && b && not c && k) ≡ true → c ≡ false
    second true true false k z = refl
    second true true true k z = absurd (false_true z)
    second true false c k z = absurd (false_true z)
    second false b c k z = absurd (false_true z)

-- it is another than the coordinator, who is asked first where it may
pub next_other : (plan : Plan) (promises : List Promised) (e : Seizing) (n : ℕ) → VoteSo plan promises e → Fit promises e n → plan.coordinator ≢ n
next_other plan promises e n h fit is =
    false_true (sym fit.unasked ∙ (subst (λ k. has e.asked k ≡ may_seize promises e.attached k) is h.own ∙ fit.may))

vote_next : (plan : Plan) (promises : List Promised) (e : Seizing) (r : SeizeResult) (n : ℕ) → LedBy plan → e.result ≡ None → next_by plan.cluster promises plan.nodes e e.kind r ≡ Some n
    → VoteSo plan promises e → VoteSo plan promises (record e { seizer = Some n; asked = set_with e.asked n })
vote_next plan promises e r n l none next h =
    let f : Follows plan.cluster promises plan.nodes e r n = next_follows plan.cluster promises plan.nodes e e.kind r n next in
    let fit : Fit promises e n = fits plan.cluster promises e f.keys n f.follows in
    let z : (1 ≤ n) × (n ≤ 32) = in_range n plan.nodes l.range f.among in
    record {
      kind = h.kind;
      own = has_other e.asked n plan.coordinator z.0 z.1 (next_other plan promises e n h fit) ∙ h.own;
      asks = λ m at.
          subst (λ k. (list_any (λ j. j == k) plan.nodes ≡ true) × (may_seize promises e.attached k ≡ true) × (has (set_with e.asked n) k ≡ true)) (same_some n m at)
          (f.among, fit.may, has_more e.asked n z.0 z.1);
      nobody = λ at. absurd (none_some n (sym at));
      last = λ keys at. absurd (none_some (NotRegistered keys) (sym none ∙ at));
    }

-- ---- entries of quorum devices

pub devices_kept : (f : Seizing → Seizing) → ((e : Seizing) → (f e).attached ≡ e.attached) → (es : List Seizing) → devices_in (map f es) ≡ devices_in es
devices_kept f same [] = refl
devices_kept f same (e ∷ es) = rw (same e) (ap (λ ys. e.attached ∷ ys) (devices_kept f same es))

pub result_attached : (d : ℕ) (r : SeizeResult) (e : Seizing) → (with_result d r e).attached ≡ e.attached
result_attached d r e = by_test ((e.attached.device == d) && is_none e.result)
  where
    by_test : (b : Bool) → (if b then record e { result = Some r } else e).attached ≡ e.attached
    by_test true = refl
    by_test false = refl

pub next_attached : (d n : ℕ) (e : Seizing) → (with_next d n e).attached ≡ e.attached
next_attached d n e = by_test ((e.attached.device == d) && is_none e.result)
  where
    by_test : (b : Bool) → (if b then record e { seizer = Some n; asked = set_with e.asked n } else e).attached ≡ e.attached
    by_test true = refl
    by_test false = refl

each_changed : (P : Seizing → Type 0) (d : ℕ) (f : Seizing → Seizing) (e : Seizing) (es : List Seizing) → (P e → e.result ≡ None → P (f e)) → AllByRecursion (λ x. (x.attached.device == d) ≡ true → x ≡ e) es
    → AllByRecursion P es → AllByRecursion P (map (λ x. if (x.attached.device == d) && is_none x.result then f x else x) es)
each_changed P d f e [] g only all = tt
each_changed P d f e (x ∷ es) g only all = (by_test ((x.attached.device == d) && is_none x.result) refl, each_changed P d f e es g only.1 all.1)
  where
    by_test : (b : Bool) → ((x.attached.device == d) && is_none x.result) ≡ b → P (if b then f x else x)
    by_test true is =
        let two : ((x.attached.device == d) ≡ true) × (is_none x.result ≡ true) = and_cases (x.attached.device == d) (is_none x.result) is in
        subst (λ y. P y → y.result ≡ None → P (f y)) (sym (only.0 two.0)) g all.0 (is_nothing x.result two.1)
    by_test false is = all.0

pub votes_apart : (s : AttemptState) (es : List Seizing) → LedBy s.plan → AreVotes s.plan s.promises s.votes es → AreApart (numbers_of (devices_in es))
votes_apart s es l h = subst (λ xs. AreApart (numbers_of xs)) (sym h.devices) (apart_filter (has_votes s.plan s.votes) s.plan.attached l.apart)

pub votes_ended : (s : AttemptState) (es : List Seizing) (d from : ℕ) (r : SeizeResult) (e : Seizing) → LedBy s.plan → find (awaits d from) es ≡ Some e
    → next_by s.plan.cluster s.promises s.plan.nodes e e.kind r ≡ None → AreVotes s.plan s.promises s.votes es → AreVotes s.plan s.promises s.votes (map (with_result d r) es)
votes_ended s es d from r e l found next h = record {
  devices = devices_kept (with_result d r) (result_attached d r) es ∙ h.devices;
  each = each_changed (VoteSo s.plan s.promises) d (λ x. record x { result = Some r }) e es (λ so none. vote_ended s.plan s.promises e r none next so)
      (only_one d (awaits d from) (awaited_device d from) es e (votes_apart s es l h) found) h.each;
}

pub votes_next : (s : AttemptState) (es : List Seizing) (d from n : ℕ) (r : SeizeResult) (e : Seizing) → LedBy s.plan → find (awaits d from) es ≡ Some e
    → next_by s.plan.cluster s.promises s.plan.nodes e e.kind r ≡ Some n → AreVotes s.plan s.promises s.votes es → AreVotes s.plan s.promises s.votes (map (with_next d n) es)
votes_next s es d from n r e l found next h = record {
  devices = devices_kept (with_next d n) (next_attached d n) es ∙ h.devices;
  each = each_changed (VoteSo s.plan s.promises) d (λ x. record x { seizer = Some n; asked = set_with x.asked n }) e es (λ so none. vote_next s.plan s.promises e r n l none next so)
      (only_one d (awaits d from) (awaited_device d from) es e (votes_apart s es l h) found) h.each;
}

-- ---- with the others behind them

settled_stay : (d : ℕ) (r : SeizeResult) (es : List Seizing) → all_settled es ≡ true → map (with_result d r) es ≡ es
settled_stay d r [] all = refl
settled_stay d r (e ∷ es) all =
    let two : (is_some e.result ≡ true) × (all_settled es ≡ true) = and_cases (is_some e.result) (all_settled es) all in
    ap (λ b. (if b then record e { result = Some r } else e) ∷ map (with_result d r) es) (over (e.attached.device == d) e.result two.0) ∙ ap (λ ys. e ∷ ys) (settled_stay d r es two.1)
  where
    over : (b : Bool) (o : Option SeizeResult) → is_some o ≡ true → (b && is_none o) ≡ false
    over true None k = absurd (false_true k)
    over true (Some x) k = refl
    over false o k = refl

plains_ended : (plan : Plan) (d : ℕ) (r : SeizeResult) (es : List Seizing) → AllByRecursion (PlainSo plan) es → AllByRecursion (PlainSo plan) (map (with_result d r) es)
plains_ended plan d r [] all = tt
plains_ended plan d r (e ∷ es) all = (by_test ((e.attached.device == d) && is_none e.result), plains_ended plan d r es all.1)
  where
    by_test : (b : Bool) → PlainSo plan (if b then record e { result = Some r } else e)
    by_test true = record { kind = all.0.kind; own = all.0.own }
    by_test false = all.0

pub map_both : (f : Seizing → Seizing) (xs ys : List Seizing) → map f (xs ++ ys) ≡ map f xs ++ map f ys
map_both f [] ys = refl
map_both f (x ∷ xs) ys = ap (λ zs. f x ∷ zs) (map_both f xs ys)

pub both_ended : (s : AttemptState) (es : List Seizing) (d : ℕ) (r : SeizeResult) → AreBoth s.plan s.promises s.votes es → AreBoth s.plan s.promises s.votes (map (with_result d r) es)
both_ended s es d r h = record {
  votes = h.votes;
  others = map (with_result d r) h.others;
  parts = ap (map (with_result d r)) h.parts ∙ (map_both (with_result d r) h.votes h.others ∙ ap (λ ys. ys ++ map (with_result d r) h.others) (settled_stay d r h.votes h.settled));
  first = h.first;
  settled = h.settled;
  devices = devices_kept (with_result d r) (result_attached d r) h.others ∙ h.devices;
  each = plains_ended s.plan d r h.others h.each;
}

-- an entry that is not settled is of another device
pub others_plain : (s : AttemptState) (es : List Seizing) (d from : ℕ) (e : Seizing) → AreBoth s.plan s.promises s.votes es → find (awaits d from) es ≡ Some e → e.kind ≡ Plain
others_plain s es d from e h found = in_parts h.votes h.settled (subst (λ ys. find (awaits d from) ys ≡ Some e) h.parts found)
  where
    in_others : (ys : List Seizing) → AllByRecursion (PlainSo s.plan) ys → find (awaits d from) ys ≡ Some e → e.kind ≡ Plain
    in_others [] all k = absurd (none_some e k)
    in_others (y ∷ ys) all k = by_test (awaits d from y) (λ z. in_others ys all.1 z) k
      where
        by_test : (b : Bool) → (find (awaits d from) ys ≡ Some e → e.kind ≡ Plain) → (if b then Some y else find (awaits d from) ys) ≡ Some e → e.kind ≡ Plain
        by_test true rest z = subst (λ x. x.kind ≡ Plain) (same_some y e z) all.0.kind
        by_test false rest z = rest z

    in_parts : (vs : List Seizing) → all_settled vs ≡ true → find (awaits d from) (vs ++ h.others) ≡ Some e → e.kind ≡ Plain
    in_parts [] all k = in_others h.others h.each k
    in_parts (v ∷ vs) all k =
        let two : (is_some v.result ≡ true) × (all_settled vs ≡ true) = and_cases (is_some v.result) (all_settled vs) all in
        in_parts vs two.1 (subst (λ b. (if b then Some v else find (awaits d from) (vs ++ h.others)) ≡ Some e) (over (v.attached.device == d) v.result (is_asked v.seizer from) two.0) k)
      where
        over : (b : Bool) (o : Option SeizeResult) (c : Bool) → is_some o ≡ true → (b && is_none o && c) ≡ false
        over true None c z = absurd (false_true z)
        over true (Some x) c z = refl
        over false o c z = refl

pub plain_last : (cluster : ℕ) (promises : List Promised) (nodes : List ℕ) (e : Seizing) (r : SeizeResult) (n : ℕ) → e.kind ≡ Plain → next_by cluster promises nodes e e.kind r ≡ Some n → ⊥
plain_last cluster promises nodes e r n is h = none_some n (subst (λ k. next_by cluster promises nodes e k r ≡ Some n) is h)

pub next_settled : (d n : ℕ) (es : List Seizing) → all_settled (map (with_next d n) es) ≡ all_settled es
next_settled d n [] = refl
next_settled d n (e ∷ es) = rw (same ((e.attached.device == d) && is_none e.result), next_settled d n es) refl
  where
    same : (b : Bool) → (if b then record e { seizer = Some n; asked = set_with e.asked n } else e).result ≡ e.result
    same true = refl
    same false = refl
