-- What an attempt asks its coordinator to seize when it begins to seize devices: the tasks are those of the new entries.
use Rattle.std.specs.Prelude.{ℕ, ◌≡◌, ◌⊎◌, ◌==◌, ◌&&◌, ◌||◌, ◌++◌, Bool, true, false, List, [], ◌∷◌, Option, None, Some, is_some, if◌then◌else◌}
use Rattle.std.specs.List.{AllByRecursion, cons_option, filter_map, list_any}
use Rattle.std.proofs.Common.{refl, sym, ap, subst, ◌∙◌, inl, inr}
use Rattle.attempt_laws.specs.Asking.{AreApart, entry_numbers}
use Rattle.cl_base.specs.Seizings.{SeizeResult}
use Rattle.cl_base.specs.Sets.{has}
use Rattle.cmm_attempt.proofs.Basics.{and_cases, false_true, same_number}
use Rattle.cmm_attempt.specs.Seizings.{all_settled, is_asked, request, request_body, request_by, request_for}
use Rattle.cmm_attempt.specs.declared.plan.Plan.{Plan}
use Rattle.cmm_attempt.specs.declared.promised.Promised.{Promised}
use Rattle.cmm_attempt.specs.declared.seizing.Seizing.{Seizing}
use Rattle.cmm_attempt.specs.declared.step.Step.{Step}
use Rattle.cmm_attempt.specs.declared.step.Step.TheVariants.{Send, SeizeHere}
use Rattle.device_queue.specs.Queue.{put_unless, seizure_of}
use Rattle.device_queue.specs.Tasks.{is_seizing as is_seizure}
use Rattle.device_queue.specs.declared.task.Task.{Task}
use Rattle.device_queue.specs.declared.task.Work.TheVariants.{Seizing as Seizes}
use Rattle.seize.specs.Seizing as seizing
use Rattle.seize.specs.Seizing.{SeizeState}
use Rattle.seize.specs.declared.kind.SeizeKind.{SeizeKind}
use Rattle.run_outcomes.specs.tasks.Own.{IsOthers, IsOwn, Match, begun_here, with_own}
use Rattle.run_outcomes.proofs.own_tasks.Matching.{itself, match_append, not_both, so_then}

-- a new entry: the coordinator is asked, or it is not to be
pub record IsAskedFirst (c : ℕ) (e : Seizing) : Type 0 where
  pub asked : has e.asked c ≡ true
  pub seizer : e.seizer ≡ Some c
  pub awaited : e.result ≡ None

abbrev pub IsFresh : ℕ → List Promised → Seizing → Type 0
IsFresh c promises e = IsAskedFirst c e ⊎ IsOthers c promises e

-- ---- where each is settled, no task is needed

pub settled_match : (c : ℕ) (promises : List Promised) (es : List Seizing) → AllByRecursion (IsFresh c promises) es → all_settled es ≡ true → Match (IsOwn c) c promises es []
settled_match c promises [] fresh all = refl
settled_match c promises (e ∷ es) fresh all = by_fresh fresh.0 (settled_match c promises es fresh.1 two.1)
  where
    two : (is_some e.result ≡ true) × (all_settled es ≡ true)
    two = and_cases (is_some e.result) (all_settled es) all

    by_fresh : IsFresh c promises e → Match (IsOwn c) c promises es [] → Match (IsOwn c) c promises (e ∷ es) []
    by_fresh (inl k) rest = absurd (not_both (is_some e.result) two.0 (ap (λ (o : Option SeizeResult). is_some o) k.awaited))
    by_fresh (inr k) rest = inl (k, rest)

-- ---- a request

-- it goes to another node, or to none
Skips : Option Step → Type 0
Skips None = Unit {0}
Skips (Some (Send to m)) = Unit {0}
Skips (Some _) = ⊥

skips_own : (member : Bool) (begun : ℕ → SeizeKind → SeizeState) (o : Option Step) (steps : List Step) (ts : List Task) → Skips o → with_own member begun (cons_option o steps) ts ≡ with_own member begun steps ts
unfolding Skips
skips_own member begun None steps ts h = refl
skips_own member begun (Some (Send to m)) steps ts h = refl
skips_own member begun (Some _) steps ts h = absurd h

request_skips : (plan : Plan) (e : Seizing) (r : Option SeizeResult) (o : Option ℕ) → is_asked o plan.coordinator ≡ false → Skips (request_by plan e r o)
unfolding Skips
request_skips plan e None (Some n) other = by_test (n == plan.coordinator) other
  where
    by_test : (b : Bool) → b ≡ false → Skips (Some (if b then SeizeHere e.attached.device e.kind else Send n (record { sender = plan.coordinator; body = request_body plan e.kind e.attached.device })))
    by_test true is = absurd (false_true (sym is))
    by_test false is = tt
request_skips plan e None None other = tt
request_skips plan e (Some r) o other = tt

-- the coordinator seizes the device itself
request_here : (plan : Plan) (e : Seizing) → IsAskedFirst plan.coordinator e → request_for plan e ≡ Some (SeizeHere e.attached.device e.kind)
request_here plan e first =
    ap (λ r. request_by plan e r e.seizer) first.awaited ∙ (ap (λ o. request_by plan e None o) first.seizer ∙ own (itself plan.coordinator))
  where
    own : (plan.coordinator == plan.coordinator) ≡ true → Some (request plan e.kind e.attached.device plan.coordinator) ≡ Some (SeizeHere e.attached.device e.kind)
    own is = ap (λ b. Some (if b then SeizeHere e.attached.device e.kind else Send plan.coordinator (record { sender = plan.coordinator; body = request_body plan e.kind e.attached.device }))) is

-- ---- no task seizes the device of a new entry

or_false : (a b : Bool) → (a || b) ≡ false → (a ≡ false) × (b ≡ false)
or_false true b k = absurd (false_true (sym k))
or_false false b k = (refl, k)

not_seized : (c : ℕ) (promises : List Promised) (es : List Seizing) (ts : List Task) (d : ℕ) → Match (IsOwn c) c promises es ts → list_any (λ x. x == d) (entry_numbers es) ≡ false → seizure_of ts d ≡ None
not_seized c promises [] ts d h lacks = ap (λ us. seizure_of us d) h
not_seized c promises (e ∷ es) ts d (inl h) lacks = not_seized c promises es ts d h.1 (or_false (e.attached.device == d) _ lacks).1
not_seized c promises (e ∷ es) (t ∷ us) d (inr h) lacks =
    let two : ((e.attached.device == d) ≡ false) × (list_any (λ x. x == d) (entry_numbers es) ≡ false) = or_false (e.attached.device == d) _ lacks in
    ap (λ k. if (k == d) && is_seizure t.work then Some t else seizure_of us d) h.0.device ∙ (ap (λ b. if b && is_seizure t.work then Some t else seizure_of us d) two.0 ∙ not_seized c promises es us d h.1 two.1)
not_seized c promises (e ∷ es) [] d (inr h) lacks = absurd h

-- the devices are apart: it is none of those before
turned_test : (a b : ℕ) → (a == b) ≡ false → (b == a) ≡ false
turned_test a b h = by_test (b == a) refl
  where
    by_test : (z : Bool) → (b == a) ≡ z → z ≡ false
    by_test true is = absurd (not_both (a == b) (subst (λ k. (a == k) ≡ true) (sym (same_number b a is)) (itself a)) h)
    by_test false is = refl

listed_later : (es more : List Seizing) (e : Seizing) (d : ℕ) → list_any (λ x. x == d) (entry_numbers (es ++ e ∷ more)) ≡ false → (e.attached.device == d) ≡ false
listed_later [] more e d h = (or_false (e.attached.device == d) _ h).0
listed_later (x ∷ es) more e d h = listed_later es more e d (or_false (x.attached.device == d) _ h).1

both_false : (a b : Bool) → a ≡ false → b ≡ false → (a || b) ≡ false
both_false true b h k = absurd (false_true (sym h))
both_false false b h k = k

lacks_before : (es more : List Seizing) (e : Seizing) → AreApart (entry_numbers (es ++ e ∷ more)) → list_any (λ x. x == e.attached.device) (entry_numbers es) ≡ false
lacks_before [] more e apart = refl
lacks_before (x ∷ es) more e apart =
    both_false (x.attached.device == e.attached.device) _ (turned_test e.attached.device x.attached.device (listed_later es more e x.attached.device apart.0)) (lacks_before es more e apart.1)

-- ---- all requests

new_own : (c : ℕ) (begun : ℕ → SeizeKind → SeizeState) (e : Seizing) → ((d : ℕ) (kind : SeizeKind) → seizing.result_of (begun d kind) ≡ None) → IsAskedFirst c e
    → IsOwn c e (record { device = e.attached.device; work = Seizes (begun e.attached.device e.kind) })
new_own c begun e none first = record {
  device = refl;
  asked = first.asked;
  work = refl;
  result = so_then _ _ (is_asked e.seizer c) (ap (λ o. is_asked o c) first.seizer ∙ itself c) (none e.attached.device e.kind ∙ sym first.awaited);
}

right_end : (us : List Task) → us ++ [] ≡ us
right_end [] = refl
right_end (u ∷ us) = ap (λ zs. u ∷ zs) (right_end us)

appended : (es more : List Seizing) (e : Seizing) → es ++ e ∷ more ≡ (es ++ e ∷ []) ++ more
appended [] more e = refl
appended (x ∷ es) more e = ap (λ zs. x ∷ zs) (appended es more e)

begun_task : (begun : ℕ → SeizeKind → SeizeState) (e : Seizing) (ts : List Task) → seizure_of ts e.attached.device ≡ None
    → begun_here true begun e.attached.device e.kind ts ≡ ts ++ record { device = e.attached.device; work = Seizes (begun e.attached.device e.kind) } ∷ []
begun_task begun e ts none = ap (λ o. put_unless o (record { device = e.attached.device; work = Seizes (begun e.attached.device e.kind) }) ts) none

pub requests_match : (plan : Plan) (promises : List Promised) (begun : ℕ → SeizeKind → SeizeState) → ((d : ℕ) (kind : SeizeKind) → seizing.result_of (begun d kind) ≡ None)
    → (more es : List Seizing) (ts : List Task) → Match (IsOwn plan.coordinator) plan.coordinator promises es ts → AllByRecursion (IsFresh plan.coordinator promises) more → AreApart (entry_numbers (es ++ more))
    → Match (IsOwn plan.coordinator) plan.coordinator promises (es ++ more) (with_own true begun (filter_map (request_for plan) more) ts)
requests_match plan promises begun none [] es ts h fresh apart = subst (λ us. Match (IsOwn plan.coordinator) plan.coordinator promises (es ++ []) us) (right_end ts) (match_append (IsOwn plan.coordinator) plan.coordinator promises es [] ts [] h refl)
requests_match plan promises begun none (e ∷ more) es ts h fresh apart = by_fresh fresh.0
    (λ us k. requests_match plan promises begun none more (es ++ e ∷ []) us k fresh.1 (subst (λ (zs : List Seizing). AreApart (entry_numbers zs)) (appended es more e) apart))
  where
    C : ℕ
    C = plan.coordinator

    steps : List Step
    steps = filter_map (request_for plan) more

    to_goal : (us vs : List Task) → us ≡ vs → Match (IsOwn C) C promises ((es ++ e ∷ []) ++ more) us → Match (IsOwn C) C promises (es ++ e ∷ more) vs
    to_goal us vs same k = subst (λ (zs : List Seizing). Match (IsOwn C) C promises zs vs) (sym (appended es more e)) (subst (λ zs. Match (IsOwn C) C promises ((es ++ e ∷ []) ++ more) zs) same k)

    by_fresh : IsFresh C promises e
        → ((us : List Task) → Match (IsOwn C) C promises (es ++ e ∷ []) us → Match (IsOwn C) C promises ((es ++ e ∷ []) ++ more) (with_own true begun steps us))
        → Match (IsOwn C) C promises (es ++ e ∷ more) (with_own true begun (cons_option (request_for plan e) steps) ts)
    by_fresh (inl first) rest =
        let t : Task = record { device = e.attached.device; work = Seizes (begun e.attached.device e.kind) } in
        to_goal (with_own true begun steps (ts ++ t ∷ [])) _
        (ap (with_own true begun steps) (sym (begun_task begun e ts (not_seized C promises es ts e.attached.device h (lacks_before es more e apart))))
        ∙ sym (ap (λ (o : Option Step). with_own true begun (cons_option o steps) ts) (request_here plan e first)))
        (rest (ts ++ t ∷ []) (match_append (IsOwn C) C promises es (e ∷ []) ts (t ∷ []) h (inr (new_own C begun e none first, refl))))
    by_fresh (inr others) rest =
        to_goal (with_own true begun steps ts) _ (sym (skips_own true begun (request_for plan e) steps ts (request_skips plan e e.result e.seizer others.seizer)))
        (rest ts (subst (λ us. Match (IsOwn C) C promises (es ++ e ∷ []) us) (right_end ts) (match_append (IsOwn C) C promises es (e ∷ []) ts [] h (inl (others, refl)))))
