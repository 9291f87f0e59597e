-- Somebody's answer is missing while an attempt waits.
use Rattle.std.proofs.Common.{◌≡◌, ℕ, ◌+◌, ◌≤◌, inl, inr, List, [], ◌∷◌, ◌++◌, length, map, refl, sym, ap, subst, ◌∙◌, arith}
use Rattle.std.specs.Prelude.{All, ◌==◌, ◌&&◌, ◌||◌, nat_le, Bool, true, false, not, Option, Some, None, IsSome, is_none, is_some, if◌then◌else◌}
use Rattle.std.specs.List.{find, filter_map, cons_option, list_any, list_all}
use Rattle.std.proofs.lemmas.List.Elements.{All-nil, All-cons, All-head, All-tail, All-append}
use Rattle.std.proofs.lemmas.List.Folds.{list_all-append}
use Rattle.cl_base.specs.Sets.{has, set_with}
use Rattle.seize.specs.declared.kind.SeizeKind.{SeizeKind}
use Rattle.seize.specs.declared.kind.SeizeKind.TheVariants.{Vote, Plain}
use Rattle.cl_base.specs.Seizings.{SeizeResult}
use Rattle.cl_base.specs.declared.seizing.SeizeEnd.TheVariants.{Held, NotRegistered, Greater, Expelled, Contended, Fault}
use Rattle.cmm_attempt.specs.declared.attached.AttachedDevice.{AttachedDevice}
use Rattle.cmm_attempt.specs.declared.counting.BothVotes.{BothVotes}
use Rattle.cmm_attempt.specs.declared.phase.Phase.{Phase}
use Rattle.cmm_attempt.specs.declared.phase.Phase.TheVariants.{Collecting, Choosing, SeizingVotes, SeizingOthers, Installing, Over}
use Rattle.cmm_attempt.specs.declared.plan.Plan.{Plan}
use Rattle.cmm_attempt.specs.declared.promised.Promised.{Promised}
use Rattle.cmm_attempt.specs.declared.seizing.Seizing.{Seizing}
use Rattle.cmm_attempt.specs.Plans.{is_reachable}
use Rattle.cmm_attempt.specs.Seizings.{may_follow, may_seize, awaits_from, all_settled, is_asked, is_seized, first_seizer, vote_entry, plain_entry, plain_new, next_by, with_next, with_result}
use Rattle.cmm_attempt.specs.Calls.{Call, IsReached}
use Rattle.attempt_laws.specs.Waiting.{IsWaiting, HasCoordinator, SomeoneIsMissing, EighthTickEnds}
use Rattle.cmm_attempt.proofs.Basics.{none_some, false_true, if_either}
use Rattle.attempt_laws.proofs.MachineLemmas.{of_all}
use Rattle.attempt_laws.proofs.Asks.{found_among}
use Rattle.attempt_laws.proofs.Steady.{Steady, reached_keeps}
use Rattle.attempt_laws.proofs.Walk.{IsSeizing}
use Rattle.cmm_attempt.specs.Promises.{has_promised, newest_shown}
use Rattle.cmm_attempt.specs.Counts.{is_quorum, vote_new}
use Rattle.cmm_attempt.specs.Attempts.{AttemptState, is_over, is_missing, is_missing_in, is_unready, has_readied, all_ready, all_promised, plain_devices, vote_entries_under, vote_entries, silenced, ticking, later}

-- who is asked and has not answered is a member
abbrev AwaitsMember : List ℕ → Seizing → Type 0
AwaitsMember nodes e = e.result ≡ None → (n : ℕ) × (e.seizer ≡ Some n) × (list_any (λ m. m == n) nodes ≡ true)

abbrev KeptIn : List ℕ → List Seizing → Bool → Phase → Type 0
KeptIn nodes devices own Collecting = own ≡ false
KeptIn nodes devices own Choosing = own ≡ false
KeptIn nodes devices own SeizingVotes = (own ≡ false) × All (AwaitsMember nodes) devices
KeptIn nodes devices own SeizingOthers = (own ≡ false) × All (AwaitsMember nodes) devices
KeptIn nodes devices own Installing = Unit {0}
KeptIn nodes devices own Over = Unit {0}

abbrev Kept : AttemptState → Type 0
Kept s = HasCoordinator s → KeptIn s.plan.nodes s.devices s.own_ready s.phase

abbrev RestsIn : AttemptState → Phase → Type 0
RestsIn s Collecting = all_promised s ≡ false
RestsIn s Choosing = Unit {0}
RestsIn s SeizingVotes = all_settled s.devices ≡ false
RestsIn s SeizingOthers = all_settled s.devices ≡ false
RestsIn s Installing = (s.own_ready && all_ready s) ≡ false
RestsIn s Over = Unit {0}

abbrev Rests : AttemptState → Type 0
Rests s = HasCoordinator s → KeptIn s.plan.nodes s.devices s.own_ready s.phase × RestsIn s s.phase

-- Entries.

answered : (nodes : List ℕ) (e : Seizing) (r : SeizeResult) → AwaitsMember nodes (record e { result = Some r })
answered nodes e r h = absurd (none_some r (sym h))

with_result_awaits : (nodes : List ℕ) (d : ℕ) (r : SeizeResult) (e : Seizing) (b : Bool) → AwaitsMember nodes e → AwaitsMember nodes (if b then record e { result = Some r } else e)
with_result_awaits nodes d r e true h = answered nodes e r
with_result_awaits nodes d r e false h = h

results_await : (nodes : List ℕ) (d : ℕ) (r : SeizeResult) (es : List Seizing) → All (AwaitsMember nodes) es → All (AwaitsMember nodes) (map (with_result d r) es)
results_await nodes d r [] h = All-nil (AwaitsMember nodes)
results_await nodes d r (e ∷ es) h =
    All-cons (AwaitsMember nodes) (with_result d r e) (map (with_result d r) es)
    (with_result_awaits nodes d r e ((e.attached.device == d) && is_none e.result) (All-head (AwaitsMember nodes) e es h))
    (results_await nodes d r es (All-tail (AwaitsMember nodes) e es h))

with_next_awaits : (nodes : List ℕ) (n : ℕ) (e : Seizing) (b : Bool) → list_any (λ m. m == n) nodes ≡ true → AwaitsMember nodes e
    → AwaitsMember nodes (if b then record e { seizer = Some n; asked = set_with e.asked n } else e)
with_next_awaits nodes n e true member h = λ _. (n, refl, member)
with_next_awaits nodes n e false member h = h

next_await : (nodes : List ℕ) (d n : ℕ) (es : List Seizing) → list_any (λ m. m == n) nodes ≡ true → All (AwaitsMember nodes) es → All (AwaitsMember nodes) (map (with_next d n) es)
next_await nodes d n [] member h = All-nil (AwaitsMember nodes)
next_await nodes d n (e ∷ es) member h =
    All-cons (AwaitsMember nodes) (with_next d n e) (map (with_next d n) es)
    (with_next_awaits nodes n e ((e.attached.device == d) && is_none e.result) member (All-head (AwaitsMember nodes) e es h))
    (next_await nodes d n es member (All-tail (AwaitsMember nodes) e es h))

same_result : (n : ℕ) (e : Seizing) (b : Bool) → (if b then record e { seizer = Some n; asked = set_with e.asked n } else e).result ≡ e.result
same_result n e true = refl
same_result n e false = refl

next_settled : (d n : ℕ) (es : List Seizing) → all_settled (map (with_next d n) es) ≡ all_settled es
next_settled d n [] = refl
next_settled d n (e ∷ es) = rw (same_result n e ((e.attached.device == d) && is_none e.result), next_settled d n es) refl

next_member : (cluster : ℕ) (promises : List Promised) (nodes : List ℕ) (e : Seizing) (kind : SeizeKind) (r : SeizeResult) (n : ℕ) → next_by cluster promises nodes e kind r ≡ Some n
    → list_any (λ m. m == n) nodes ≡ true
next_member cluster promises nodes e Vote (NotRegistered keys) n h = (found_among (may_follow cluster promises e keys) nodes n h).1
next_member cluster promises nodes e Vote (Held keys) n h = absurd (none_some n h)
next_member cluster promises nodes e Vote (Greater word) n h = absurd (none_some n h)
next_member cluster promises nodes e Vote Expelled n h = absurd (none_some n h)
next_member cluster promises nodes e Vote (Contended key) n h = absurd (none_some n h)
next_member cluster promises nodes e Vote Fault n h = absurd (none_some n h)
next_member cluster promises nodes e Plain r n h = absurd (none_some n h)

abbrev AwaitsMaybe : List ℕ → Option Seizing → Type 0
AwaitsMaybe nodes None = Unit {0}
AwaitsMaybe nodes (Some e) = AwaitsMember nodes e

with_option : (nodes : List ℕ) (o : Option Seizing) (es : List Seizing) → AwaitsMaybe nodes o → All (AwaitsMember nodes) es → All (AwaitsMember nodes) (cons_option o es)
with_option nodes None es q h = h
with_option nodes (Some e) es q h = All-cons (AwaitsMember nodes) e es q h

vote_awaits : (plan : Plan) (promises : List Promised) (a : AttachedDevice) (o : Option ℕ) → first_seizer plan promises a ≡ o → AwaitsMember plan.nodes (vote_entry a o)
vote_awaits plan promises a None is = λ h. absurd (none_some (NotRegistered []) (sym h))
vote_awaits plan promises a (Some n) is = λ h. (n, refl, (found_among (may_seize promises a) plan.nodes n is).1)

votes_await : (plan : Plan) (promises : List Promised) (both : BothVotes) (attached : List AttachedDevice) → All (AwaitsMember plan.nodes) (filter_map (vote_new plan promises both) attached)
votes_await plan promises both [] = All-nil (AwaitsMember plan.nodes)
votes_await plan promises both (a ∷ attached) =
    with_option plan.nodes (vote_new plan promises both a) (filter_map (vote_new plan promises both) attached)
    (if_either (AwaitsMaybe plan.nodes) (is_quorum both a.device && is_reachable plan a) (Some (vote_entry a (first_seizer plan promises a))) None
    (vote_awaits plan promises a (first_seizer plan promises a) refl) tt)
    (votes_await plan promises both attached)

entries_await : (s : AttemptState) (o : Option BothVotes) → All (AwaitsMember s.plan.nodes) (vote_entries_under s o)
entries_await s None = All-nil (AwaitsMember s.plan.nodes)
entries_await s (Some both) = votes_await s.plan s.promises both s.plan.attached

plain_awaits : (plan : Plan) (a : AttachedDevice) (o : Option ℕ) → find (λ n. has a.nodes n) plan.nodes ≡ o → AwaitsMaybe plan.nodes (plain_entry a o)
plain_awaits plan a None is = tt
plain_awaits plan a (Some n) is = λ h. (n, refl, (found_among (λ m. has a.nodes m) plan.nodes n is).1)

plain_await : (plan : Plan) (devices : List Seizing) (attached : List AttachedDevice) → All (AwaitsMember plan.nodes) (filter_map (plain_new plan devices) attached)
plain_await plan devices [] = All-nil (AwaitsMember plan.nodes)
plain_await plan devices (a ∷ attached) =
    with_option plan.nodes (plain_new plan devices a) (filter_map (plain_new plan devices) attached)
    (if_either (AwaitsMaybe plan.nodes) (is_seized devices a.device) None (plain_entry a (find (λ n. has a.nodes n) plan.nodes)) tt
    (plain_awaits plan a (find (λ n. has a.nodes n) plan.nodes) refl))
    (plain_await plan devices attached)

-- new entries are not settled
abbrev UnendedMaybe : Option Seizing → Type 0
UnendedMaybe None = Unit {0}
UnendedMaybe (Some e) = e.result ≡ None

with_unended : (o : Option Seizing) (es : List Seizing) → UnendedMaybe o → All (λ e. e.result ≡ None) es → All (λ e. e.result ≡ None) (cons_option o es)
with_unended None es q h = h
with_unended (Some e) es q h = All-cons (λ x. x.result ≡ None) e es q h

plain_unended_by : (a : AttachedDevice) (o : Option ℕ) → UnendedMaybe (plain_entry a o)
plain_unended_by a None = tt
plain_unended_by a (Some n) = refl

plain_unended : (plan : Plan) (devices : List Seizing) (attached : List AttachedDevice) → All (λ e. e.result ≡ None) (filter_map (plain_new plan devices) attached)
plain_unended plan devices [] = All-nil (λ e. e.result ≡ None)
plain_unended plan devices (a ∷ attached) =
    with_unended (plain_new plan devices a) (filter_map (plain_new plan devices) attached)
    (if_either UnendedMaybe (is_seized devices a.device) None (plain_entry a (find (λ n. has a.nodes n) plan.nodes)) tt (plain_unended_by a (find (λ n. has a.nodes n) plan.nodes)))
    (plain_unended plan devices attached)

and_false : (b : Bool) → (b && false) ≡ false
and_false true = refl
and_false false = refl

unsettled : (more : List Seizing) → All (λ e. e.result ≡ None) more → (length more == 0) ≡ false → all_settled more ≡ false
unsettled [] h ne = absurd (false_true (sym ne))
unsettled (e ∷ more) h ne = rw (All-head (λ x. x.result ≡ None) e more h) refl

appended_unsettled : (es more : List Seizing) → all_settled more ≡ false → all_settled (es ++ more) ≡ false
appended_unsettled es more h = list_all-append (λ e. is_some e.result) es more ∙ (rw h (and_false (all_settled es)))

-- The invariant.

own_seizing : (nodes : List ℕ) (devices : List Seizing) (own : Bool) (phase : Phase) → IsSeizing phase → KeptIn nodes devices own phase → (own ≡ false) × All (AwaitsMember nodes) devices
own_seizing nodes devices own phase (inl is) h = subst (KeptIn nodes devices own) is h
own_seizing nodes devices own phase (inr is) h = subst (KeptIn nodes devices own) is h

seizing_kept : (nodes : List ℕ) (devices : List Seizing) (own : Bool) (phase : Phase) → IsSeizing phase → (own ≡ false) × All (AwaitsMember nodes) devices → KeptIn nodes devices own phase
seizing_kept nodes devices own phase (inl is) h = subst (KeptIn nodes devices own) (sym is) h
seizing_kept nodes devices own phase (inr is) h = subst (KeptIn nodes devices own) (sym is) h

seizing_rests : (s : AttemptState) (phase : Phase) → IsSeizing phase → all_settled s.devices ≡ false → RestsIn s phase
seizing_rests s phase (inl is) h = subst (RestsIn s) (sym is) h
seizing_rests s phase (inr is) h = subst (RestsIn s) (sym is) h

rests_seizing : (s : AttemptState) (phase : Phase) → IsSeizing phase → RestsIn s phase → all_settled s.devices ≡ false
rests_seizing s phase (inl is) h = subst (RestsIn s) is h
rests_seizing s phase (inr is) h = subst (RestsIn s) is h

no_promises : (ps : List Promised) → newest_shown ps ≡ None → (n : ℕ) → has_promised ps n ≡ true → ⊥
no_promises [] e n h = false_true h
no_promises (p ∷ ps) e n h = none_some _ (sym e)

and_of_false : (a b : Bool) → a ≡ false → (a && b) ≡ false
and_of_false a b h = rw h refl

steady : (c : Call) → Steady c Rests Kept
steady c = record {
  within = λ s i m. (i m).0;
  ticked = λ s i. i;
  over = λ s k m. (tt, tt);
  promise = λ s from message p is awaited of promised i m. (i m).0;
  collecting = λ s is e k m. (k m, subst (RestsIn s) (sym is) e);
  no_newest = λ s is all none k m. absurd (no_promises s.promises none s.plan.coordinator (of_all (has_promised s.promises) s.plan.coordinator s.plan.nodes all m));
  chosen = λ s newest is all some k m. (subst (KeptIn s.plan.nodes s.devices s.own_ready) is (k m), tt);
  votes = λ s both is i m. (subst (KeptIn s.plan.nodes s.devices s.own_ready) is (i m).0, All-nil (AwaitsMember s.plan.nodes));
  entries = λ s is k m.
      seizing_kept s.plan.nodes (vote_entries s) s.own_ready s.phase (inl is) ((own_seizing s.plan.nodes s.devices s.own_ready s.phase (inl is) (k m)).0, entries_await s s.votes);
  result = λ s d from r is tells i m.
      let two : (s.own_ready ≡ false) × All (AwaitsMember s.plan.nodes) s.devices = own_seizing s.plan.nodes s.devices s.own_ready s.phase is (i m).0 in
      seizing_kept s.plan.nodes (map (with_result d r) s.devices) s.own_ready s.phase is (two.0, results_await s.plan.nodes d r s.devices two.1);
  next = λ s d n e kind r is found i m.
      let two : (s.own_ready ≡ false) × All (AwaitsMember s.plan.nodes) s.devices = own_seizing s.plan.nodes s.devices s.own_ready s.phase is (i m).0 in (
        seizing_kept s.plan.nodes (map (with_next d n) s.devices) s.own_ready s.phase is
            (two.0, next_await s.plan.nodes d n s.devices (next_member s.plan.cluster s.promises s.plan.nodes e kind r n found) two.1),
        seizing_rests (record s { devices = map (with_next d n) s.devices; ticks = 0 }) s.phase is (next_settled d n s.devices ∙ rests_seizing s s.phase is (i m).1),
      );
  seizing = λ s is e k m. (k m, seizing_rests s s.phase is e);
  counted = λ s is h k m. k m;
  others = λ s is ne k m.
      let two : (s.own_ready ≡ false) × All (AwaitsMember s.plan.nodes) s.devices = own_seizing s.plan.nodes s.devices s.own_ready s.phase (inl is) (k m) in (
        (two.0, All-append (AwaitsMember s.plan.nodes) s.devices (plain_devices s) two.1 (plain_await s.plan s.devices s.plan.attached)),
        appended_unsettled s.devices (plain_devices s) (unsettled (plain_devices s) (plain_unended s.plan s.devices s.plan.attached) ne),
      );
  installs = λ s is k m. (tt, and_of_false s.own_ready (all_ready s) (own_seizing s.plan.nodes s.devices s.own_ready s.phase is (k m)).0);
  ready = λ s from message is at of ready_body i m. subst (KeptIn s.plan.nodes s.devices s.own_ready) (sym at) tt;
  own = λ s is at i m. subst (KeptIn s.plan.nodes s.devices true) (sym at) tt;
  installing = λ s at e k m. (k m, subst (RestsIn s) (sym at) e);
}

reached_rests : (s : AttemptState) → IsReached s → Rests s
reached_rests s r = reached_keeps Rests Kept steady s r (λ m. refl)

-- Who is missing.

missing_one : (p : ℕ → Bool) (ns : List ℕ) → list_all p ns ≡ false → IsSome (find (λ n. not (p n)) ns)
missing_one p [] h = absurd (false_true (sym h))
missing_one p (n ∷ ns) h = by_test (missing_one p ns) (p n) refl h
  where
    by_test : (list_all p ns ≡ false → IsSome (find (λ m. not (p m)) ns)) → (b : Bool) → p n ≡ b → (b && list_all p ns) ≡ false
        → IsSome (if not b then Some n else find (λ m. not (p m)) ns)
    by_test rest true e k = rest k
    by_test rest false e k = refl

found_if_any : (p : ℕ → Bool) (n : ℕ) (ns : List ℕ) → list_any (λ m. m == n) ns ≡ true → p n ≡ true → IsSome (find p ns)
found_if_any p n [] h is = absurd (false_true h)
found_if_any p n (m ∷ ns) h is = by_test (λ k. found_if_any p n ns k is) (p m) refl
  where
    here : (a b : Bool) → (a || b) ≡ true → a ≡ false → b ≡ true
    here true b k e = absurd (false_true (sym e))
    here false b k e = k

    differs : (m n : ℕ) (b c : Bool) → b ≡ true → c ≡ false → (m ≡ n → c ≡ b) → (m == n) ≡ false
    differs m n b c is no_such same = grind arith

    by_test : (list_any (λ k. k == n) ns ≡ true → IsSome (find p ns)) → (b : Bool) → p m ≡ b → IsSome (if b then Some m else find p ns)
    by_test rest true e = refl
    by_test rest false e = rest (here (m == n) (list_any (λ k. k == n) ns) h (differs m n (p n) (p m) is e (λ k. ap p k)))

-- a weaker test finds one, too
found_too : (p q : ℕ → Bool) → ((n : ℕ) → p n ≡ true → q n ≡ true) → (ns : List ℕ) → IsSome (find p ns) → IsSome (find q ns)
found_too p q weaker [] h = absurd (false_true h)
found_too p q weaker (n ∷ ns) h = by_tests (found_too p q weaker ns) (p n) (q n) refl refl h
  where
    by_tests : (IsSome (find p ns) → IsSome (find q ns)) → (a b : Bool) → p n ≡ a → q n ≡ b → IsSome (if a then Some n else find p ns) → IsSome (if b then Some n else find q ns)
    by_tests rest true true e k i = refl
    by_tests rest true false e k i = absurd (false_true (sym k ∙ weaker n e))
    by_tests rest false true e k i = refl
    by_tests rest false false e k i = rest i

awaited_one : (nodes : List ℕ) (es : List Seizing) → All (AwaitsMember nodes) es → all_settled es ≡ false
    → (n : ℕ) × (list_any (λ m. m == n) nodes ≡ true) × (list_any (awaits_from n) es ≡ true)
awaited_one nodes [] h k = absurd (false_true (sym k))
awaited_one nodes (e ∷ es) h k = by_result (awaited_one nodes es (All-tail (AwaitsMember nodes) e es h)) e.result refl k
  where
    first_or : (a b : Bool) → a ≡ true → (a || b) ≡ true
    first_or a b q = rw q refl

    second_or : (a b : Bool) → b ≡ true → (a || b) ≡ true
    second_or true b q = refl
    second_or false b q = q

    asked : (o : Option ℕ) (r : Option SeizeResult) (n : ℕ) → o ≡ Some n → r ≡ None → (is_none r && is_asked o n) ≡ true
    asked o r n is none = rw (is, none) (grind arith)

    by_result : (all_settled es ≡ false → (n : ℕ) × (list_any (λ m. m == n) nodes ≡ true) × (list_any (awaits_from n) es ≡ true)) → (r : Option SeizeResult) → e.result ≡ r
        → (is_some r && all_settled es) ≡ false → (n : ℕ) × (list_any (λ m. m == n) nodes ≡ true) × (list_any (awaits_from n) (e ∷ es) ≡ true)
    by_result rest (Some r) is q =
        let f : (n : ℕ) × (list_any (λ m. m == n) nodes ≡ true) × (list_any (awaits_from n) es ≡ true) = rest q in
        (f.0, f.1, second_or (awaits_from f.0 e) (list_any (awaits_from f.0) es) f.2)
    by_result rest None is q =
        let f : (n : ℕ) × (e.seizer ≡ Some n) × (list_any (λ m. m == n) nodes ≡ true) = All-head (AwaitsMember nodes) e es h is in
        (f.0, f.2, first_or (awaits_from f.0 e) (list_any (awaits_from f.0) es) (asked e.seizer e.result f.0 f.1 is))

unready_one : (s : AttemptState) → HasCoordinator s → (s.own_ready && all_ready s) ≡ false → IsSome (find (is_unready s) s.plan.nodes)
unready_one s m h = by_own s.own_ready refl h
  where
    own_missing : (a b c : Bool) → a ≡ true → c ≡ false → (if a then not c else b) ≡ true
    own_missing a b c e k = rw (e, k) refl

    itself : (n : ℕ) → (n == n) ≡ true
    itself n = grind arith

    other_missing : (n c : ℕ) (own r : Bool) → not ((n == c) || r) ≡ true → (if n == c then not own else not r) ≡ true
    other_missing n c own r e = by_test (n == c) e
      where
        by_test : (b : Bool) → not (b || r) ≡ true → (if b then not own else not r) ≡ true
        by_test true k = absurd (false_true k)
        by_test false k = k

    by_own : (b : Bool) → s.own_ready ≡ b → (b && all_ready s) ≡ false → IsSome (find (is_unready s) s.plan.nodes)
    by_own false e k =
        found_if_any (is_unready s) s.plan.coordinator s.plan.nodes m
        (own_missing (s.plan.coordinator == s.plan.coordinator) (not (has_readied s.readies s.plan.coordinator)) s.own_ready (itself s.plan.coordinator) e)
    by_own true e k =
        found_too (λ n. not ((n == s.plan.coordinator) || has_readied s.readies n)) (is_unready s)
        (λ n q. other_missing n s.plan.coordinator s.own_ready (has_readied s.readies n) q) s.plan.nodes
        (missing_one (λ n. (n == s.plan.coordinator) || has_readied s.readies n) s.plan.nodes k)

missing_in : (s : AttemptState) (phase : Phase) → HasCoordinator s → IsWaiting phase → KeptIn s.plan.nodes s.devices s.own_ready phase → RestsIn s phase
    → IsSome (find (λ n. is_missing_in s n phase) s.plan.nodes)
missing_in s Collecting m waiting k rests = missing_one (has_promised s.promises) s.plan.nodes rests
missing_in s SeizingVotes m waiting k rests =
    let f : (n : ℕ) × (list_any (λ x. x == n) s.plan.nodes ≡ true) × (list_any (awaits_from n) s.devices ≡ true) = awaited_one s.plan.nodes s.devices k.1 rests in
    found_if_any (λ n. list_any (awaits_from n) s.devices) f.0 s.plan.nodes f.1 f.2
missing_in s SeizingOthers m waiting k rests =
    let f : (n : ℕ) × (list_any (λ x. x == n) s.plan.nodes ≡ true) × (list_any (awaits_from n) s.devices ≡ true) = awaited_one s.plan.nodes s.devices k.1 rests in
    found_if_any (λ n. list_any (awaits_from n) s.devices) f.0 s.plan.nodes f.1 f.2
missing_in s Installing m waiting k rests = unready_one s m rests
missing_in s Choosing m waiting k rests = absurd waiting
missing_in s Over m waiting k rests = absurd waiting

pub someone_is_missing : SomeoneIsMissing
someone_is_missing s r m waiting =
    let i : KeptIn s.plan.nodes s.devices s.own_ready s.phase × RestsIn s s.phase = reached_rests s r m in missing_in s s.phase m waiting i.0 i.1

not_over : (phase : Phase) → IsWaiting phase → is_over phase ≡ false
not_over Collecting w = refl
not_over SeizingVotes w = refl
not_over SeizingOthers w = refl
not_over Installing w = refl
not_over Choosing w = absurd w
not_over Over w = absurd w

is_late_by : (t : ℕ) (b : Bool) → nat_le 8 t ≡ b → 7 ≤ t → nat_le 8 (if b then 8 else t + 1) ≡ true
is_late_by t true e h = grind arith
is_late_by t false e h = grind arith

ends_by : (s : AttemptState) (o : Option ℕ) → IsSome o → (silenced s o).after.phase ≡ Over
ends_by s None h = absurd (false_true h)
ends_by s (Some m) h = refl

pub eighth_tick_ends : EighthTickEnds
unfolding ticking
eighth_tick_ends s r m waiting late =
    rw (not_over s.phase waiting, is_late_by s.ticks (nat_le 8 s.ticks) refl late)
    (ends_by (record s { ticks = later s.ticks }) (find (is_missing s) s.plan.nodes) (someone_is_missing s r m waiting))
