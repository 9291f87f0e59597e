-- An entry of a quorum device is of one that has votes, and whoever is asked there has shown it as valid.
use Rattle.std.specs.Prelude.{All, ℕ, ◌≡◌, ◌++◌, ◌==◌, ◌&&◌, ◌||◌, Bool, true, false, List, [], ◌∷◌, Option, None, Some, IfSome, find, is_none, map, if◌then◌else◌}
use Rattle.std.specs.List.{AllByRecursion, filter_map, list_any}
use Rattle.std.proofs.Common.{refl, sym, ap, subst}
use Rattle.std.proofs.lemmas.List.Elements.{All-from_recursion}
use Rattle.attempt_laws.proofs.Walk.{Walk, if_with, walks, walks_begun}
use Rattle.cl_base.specs.Seizings.{SeizeResult}
use Rattle.cl_base.specs.Sets.{has, set_with}
use Rattle.cl_base.specs.declared.seizing.SeizeEnd.TheVariants as end
use Rattle.cmm_attempt.proofs.Basics.{and_cases, false_true, if_either, none_some, same_number, same_some}
use Rattle.cmm_attempt.specs.Attempts.{AttemptState, asked_next, beginning, first_state, installing, plain_devices, promises_of, vote_entries_under}
use Rattle.cmm_attempt.specs.Calls.{Call, IsReached, Run, Tick, turn}
use Rattle.cmm_attempt.specs.Counts.{is_quorum, vote_new}
use Rattle.cmm_attempt.specs.Plans.{is_reachable}
use Rattle.cmm_attempt.specs.Promises.{holds_valid, promised_by, shown_by}
use Rattle.cmm_attempt.specs.Seizings.{awaits, first_seizer, is_asked, is_seized, may_follow, may_seize, next_by, plain_entry, plain_new, vote_entry, with_next, with_result}
use Rattle.cmm_attempt.specs.declared.attached.AttachedDevice.{AttachedDevice}
use Rattle.cmm_attempt.specs.declared.counting.BothVotes.{BothVotes}
use Rattle.cmm_attempt.specs.declared.plan.Plan.{Plan}
use Rattle.cmm_attempt.specs.declared.promised.Promised.{Promised}
use Rattle.cmm_attempt.specs.declared.seizing.Seizing.{Seizing}
use Rattle.run_history.proofs.Lists.{both, more}
use Rattle.seize.specs.declared.kind.SeizeKind.{SeizeKind}
use Rattle.seize.specs.declared.kind.SeizeKind.TheVariants.{Plain, Vote}
use Rattle.run_outcomes.specs.tasks.Laws.{is_plain}

pub record EntryOk (promises : List Promised) (votes : Option BothVotes) (e : Seizing) : Type 0 where
  pub quorum : e.kind ≡ Vote → (b : BothVotes) → votes ≡ Some b → is_quorum b e.attached.device ≡ true
  pub holds : e.kind ≡ Vote → (n : ℕ) → e.seizer ≡ Some n → holds_valid promises e.attached.device n ≡ true

abbrev AreOk : AttemptState → Type 0
AreOk s = AllByRecursion (EntryOk s.promises s.votes) s.devices

-- what is found passes the test
pub found_passes : (f : ℕ → Bool) (ns : List ℕ) (n : ℕ) → find f ns ≡ Some n → f n ≡ true
found_passes f [] n is = absurd (none_some n is)
found_passes f (m ∷ ns) n is = by_test (f m) refl is (λ rest. found_passes f ns n rest)
  where
    by_test : (b : Bool) → f m ≡ b → (if b then Some m else find f ns) ≡ Some n → (find f ns ≡ Some n → f n ≡ true) → f n ≡ true
    by_test true passes here rest = subst (λ z. f z ≡ true) (same_some m n here) passes
    by_test false misses there rest = rest there

not_plain : Plain ≡ Vote → ⊥
not_plain is = false_true (sym (ap is_plain is))

-- ---- Promises

or_first : (a b : Bool) → a ≡ true → (a || b) ≡ true
or_first true b h = refl
or_first false b h = absurd (false_true h)

pub any_first : {X : Type 0} (f : X → Bool) (xs ys : List X) → list_any f xs ≡ true → list_any f (xs ++ ys) ≡ true
any_first f [] ys h = absurd (false_true h)
any_first f (x ∷ xs) ys h = by_test (f x) h (any_first f xs ys)
  where
    by_test : (b : Bool) → (b || list_any f xs) ≡ true → (list_any f xs ≡ true → list_any f (xs ++ ys) ≡ true) → (b || list_any f (xs ++ ys)) ≡ true
    by_test true k rest = refl
    by_test false k rest = rest k

promised_ok : (ps qs : List Promised) (votes : Option BothVotes) (es : List Seizing) → AllByRecursion (EntryOk ps votes) es → AllByRecursion (EntryOk (ps ++ qs) votes) es
promised_ok ps qs votes [] k = tt
promised_ok ps qs votes (e ∷ es) k = (
  record { quorum = k.0.quorum; holds = λ is n asked. any_first (λ (p : Promised). (p.shown.summary.node == n) && has p.shown.valid e.attached.device) ps qs (k.0.holds is n asked) },
  promised_ok ps qs votes es k.1,
)

-- ---- new entries

vote_ok : (ps : List Promised) (b : BothVotes) (a : AttachedDevice) (o : Option ℕ) → is_quorum b a.device ≡ true → ((n : ℕ) → o ≡ Some n → holds_valid ps a.device n ≡ true)
    → EntryOk ps (Some b) (vote_entry a o)
vote_ok ps b a None q f = record { quorum = λ is v same. subst (λ z. is_quorum z a.device ≡ true) (same_some b v same) q; holds = λ is n asked. absurd (none_some n asked) }
vote_ok ps b a (Some m) q f = record {
  quorum = λ is v same. subst (λ z. is_quorum z a.device ≡ true) (same_some b v same) q;
  holds = λ is n asked. subst (λ z. holds_valid ps a.device z ≡ true) (same_some m n asked) (f m refl);
}

votes_ok : (plan : Plan) (ps : List Promised) (b : BothVotes) (attached : List AttachedDevice) → AllByRecursion (EntryOk ps (Some b)) (filter_map (vote_new plan ps b) attached)
votes_ok plan ps b [] = tt
votes_ok plan ps b (a ∷ attached) =
    let test : Bool = is_quorum b a.device && is_reachable plan a in
    more (EntryOk ps (Some b)) (vote_new plan ps b a) (filter_map (vote_new plan ps b) attached)
    (if_with (λ o. IfSome o (EntryOk ps (Some b))) test test (Some (vote_entry a (first_seizer plan ps a))) None refl
    (λ is. vote_ok ps b a (first_seizer plan ps a) (and_cases (is_quorum b a.device) (is_reachable plan a) is).0
    (λ n found. (and_cases (has a.nodes n) (holds_valid ps a.device n) (found_passes (may_seize ps a) plan.nodes n found)).1)) (λ is. tt))
    (votes_ok plan ps b attached)

entries_ok : (s : AttemptState) (o : Option BothVotes) → AllByRecursion (EntryOk s.promises o) (vote_entries_under s o)
entries_ok s None = tt
entries_ok s (Some b) = votes_ok s.plan s.promises b s.plan.attached

plain_ok : (ps : List Promised) (votes : Option BothVotes) (a : AttachedDevice) (o : Option ℕ) → IfSome (plain_entry a o) (EntryOk ps votes)
plain_ok ps votes a None = tt
plain_ok ps votes a (Some m) = record { quorum = λ is b same. absurd (not_plain is); holds = λ is n asked. absurd (not_plain is) }

plains_ok : (ps : List Promised) (votes : Option BothVotes) (plan : Plan) (devices : List Seizing) (attached : List AttachedDevice)
    → AllByRecursion (EntryOk ps votes) (filter_map (plain_new plan devices) attached)
plains_ok ps votes plan devices [] = tt
plains_ok ps votes plan devices (a ∷ attached) =
    more (EntryOk ps votes) (plain_new plan devices a) (filter_map (plain_new plan devices) attached)
    (if_either (λ o. IfSome o (EntryOk ps votes)) (is_seized devices a.device) None (plain_entry a (find (λ n. has a.nodes n) plan.nodes)) tt
    (plain_ok ps votes a (find (λ n. has a.nodes n) plan.nodes)))
    (plains_ok ps votes plan devices attached)

-- ---- answers

results_ok : (ps : List Promised) (votes : Option BothVotes) (d : ℕ) (r : SeizeResult) (es : List Seizing) → AllByRecursion (EntryOk ps votes) es
    → AllByRecursion (EntryOk ps votes) (map (with_result d r) es)
results_ok ps votes d r [] k = tt
results_ok ps votes d r (e ∷ es) k = (
  if_either (EntryOk ps votes) ((e.attached.device == d) && is_none e.result) (record e { result = Some r }) e (record { quorum = k.0.quorum; holds = k.0.holds }) k.0,
  results_ok ps votes d r es k.1,
)

nexts_ok : (ps : List Promised) (votes : Option BothVotes) (d n : ℕ) (es : List Seizing) → holds_valid ps d n ≡ true → AllByRecursion (EntryOk ps votes) es
    → AllByRecursion (EntryOk ps votes) (map (with_next d n) es)
nexts_ok ps votes d n [] h k = tt
nexts_ok ps votes d n (e ∷ es) h k =
    let test : Bool = (e.attached.device == d) && is_none e.result in (
      if_with (EntryOk ps votes) test test (record e { seizer = Some n; asked = set_with e.asked n }) e refl
          (λ is. record {
            quorum = k.0.quorum;
            holds = λ kind m same. subst (λ z. holds_valid ps e.attached.device z ≡ true) (same_some n m same)
                (subst (λ z. holds_valid ps z n ≡ true) (sym (same_number e.attached.device d (and_cases (e.attached.device == d) (is_none e.result) is).0)) h);
          }) (λ is. k.0),
      nexts_ok ps votes d n es h k.1,
    )

found_device : (d from : ℕ) (e : Seizing) (es : List Seizing) → find (awaits d from) es ≡ Some e → e.attached.device ≡ d
found_device d from e [] is = absurd (none_some e is)
found_device d from e (x ∷ xs) is = by_test (awaits d from x) refl is (λ rest. found_device d from e xs rest)
  where
    by_test : (b : Bool) → awaits d from x ≡ b → (if b then Some x else find (awaits d from) xs) ≡ Some e → (find (awaits d from) xs ≡ Some e → e.attached.device ≡ d) → e.attached.device ≡ d
    by_test true passes here rest =
        subst (λ z. z.attached.device ≡ d) (same_some x e here)
        (same_number x.attached.device d
        (and_cases (x.attached.device == d) (is_none x.result) (and_cases ((x.attached.device == d) && is_none x.result) (is_asked x.seizer from) passes).0).0)
    by_test false misses there rest = rest there

-- who is asked next has shown it as valid
next_holds : (cluster : ℕ) (ps : List Promised) (nodes : List ℕ) (e : Seizing) (kind : SeizeKind) (r : SeizeResult) (n : ℕ) → next_by cluster ps nodes e kind r ≡ Some n
    → holds_valid ps e.attached.device n ≡ true
next_holds cluster ps nodes e Vote (end.NotRegistered keys) n is = second_of (has e.attached.nodes n) _ _ _ (found_passes (may_follow cluster ps e keys) nodes n is)
  where
    second_of : (a b c d : Bool) → (a && b && c && d) ≡ true → b ≡ true
    second_of a b c d k = (and_cases a b (and_cases (a && b) c (and_cases (a && b && c) d k).0).0).1
next_holds cluster ps nodes e Plain r n is = absurd (none_some n is)
next_holds cluster ps nodes e Vote (end.Held keys) n is = absurd (none_some n is)
next_holds cluster ps nodes e Vote (end.Greater w) n is = absurd (none_some n is)
next_holds cluster ps nodes e Vote end.Expelled n is = absurd (none_some n is)
next_holds cluster ps nodes e Vote (end.Contended key) n is = absurd (none_some n is)
next_holds cluster ps nodes e Vote end.Fault n is = absurd (none_some n is)

-- ---- each call

ok_walk : (k : Call) → Walk k AreOk AreOk (λ t. AreOk t.after)
unfolding asked_next installing
ok_walk k = record {
  within = λ s i. i;
  rests = λ s i. i;
  passes = λ s is e i. i;
  again = λ s is e i. i;
  silent = λ s n is late least i. i;
  superseded = λ s from m q is body i. i;
  promise = λ s from m p is awaited of promised i. promised_ok s.promises (p ∷ []) s.votes s.devices i;
  collects = λ s is e i. i;
  collecting = λ s is e i. i;
  no_newest = λ s is all none i. i;
  chosen = λ s newest is all some i. i;
  votes = λ s b is i. tt;
  foreign = λ s b n is votes least i. i;
  excluded = λ s n is least i. i;
  impossible = λ s e is short i. i;
  entries = λ s is enough i. entries_ok s s.votes;
  requests = λ s is e i. i;
  result = λ s d from r e is says found none i. results_ok s.promises s.votes d r s.devices i;
  next = λ s d from n r e is says found next i.
      nexts_ok s.promises s.votes d n s.devices
      (subst (λ z. holds_valid s.promises z n ≡ true) (found_device d from e s.devices found) (next_holds s.plan.cluster s.promises s.plan.nodes e e.kind r n next)) i;
  seizing = λ s is e i. i;
  short = λ s e is all few i. i;
  others = λ s is all enough some i. both (EntryOk s.promises s.votes) s.devices (plain_devices s) i (plains_ok s.promises s.votes s.plan s.devices s.plan.attached);
  installs_at_once = λ s is all enough none i. i;
  installs = λ s is all i. i;
  ready = λ s from m is at of body i. i;
  own = λ s is at i. i;
  installing = λ s at e i. i;
  starts = λ s at e i. i;
}

run_ok : (s : AttemptState) (calls : List Call) (t : AttemptState) → Run s calls t → AreOk s → AreOk t
run_ok s [] t run i = subst AreOk (sym run) i
run_ok s (c ∷ calls) t run i = run_ok (turn s c).after calls t run.1 (walks AreOk AreOk (λ u. AreOk u.after) s c (ok_walk c) i)

pub entries_reached : (s : AttemptState) → IsReached s → All (EntryOk s.promises s.votes) s.devices
unfolding beginning
entries_reached s r =
    let first : AttemptState = first_state r.p r.members r.own r.attached r.cluster (promises_of (promised_by r.own (shown_by r.own.sender r.own.body))) in
    All-from_recursion (EntryOk s.promises s.votes) s.devices
    (run_ok (beginning r.p r.members r.own r.attached r.cluster).after r.calls s r.run (walks_begun Tick AreOk AreOk (λ u. AreOk u.after) (ok_walk Tick) first refl tt))
