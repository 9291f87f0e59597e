-- An attempt that installs has seized each device to which a member has a path, and each seizing has ended.
use Rattle.std.specs.Prelude.{ℕ, ◌≡◌, ◌==◌, ◌&&◌, ◌||◌, ◌++◌, ◌⊎◌, Bool, true, false, List, [], ◌∷◌, Option, None, Some, find, is_none, length, map, suc, if◌then◌else◌}
use Rattle.std.specs.List.{AllByRecursion, cons_option, filter_map, list_any}
use Rattle.std.proofs.Common.{refl, sym, ap, subst, ◌∙◌, inl, inr, arith}
use Rattle.attempt_laws.proofs.Walk.{IsSeizing, Walk, walks, walks_begun}
use Rattle.cl_base.specs.Seizings.{SeizeResult}
use Rattle.cl_base.specs.Sets.{has, set_with}
use Rattle.cmm_attempt.proofs.Basics.{false_true, if_either, none_some, same_some}
use Rattle.cmm_attempt.specs.Attempts.{AttemptState, Turn, asked_next, beginning, first_state, installing, later, promises_of}
use Rattle.cmm_attempt.specs.Calls.{Call, IsReached, May, Run, Tick, With_votes, turn}
use Rattle.cmm_attempt.specs.Plans.{is_reachable}
use Rattle.cmm_attempt.specs.Promises.{promised_by, shown_by}
use Rattle.cmm_attempt.specs.Seizings.{all_settled, is_seized, plain_entry, plain_new, with_next, with_result}
use Rattle.cmm_attempt.specs.declared.attached.AttachedDevice.{AttachedDevice}
use Rattle.cmm_attempt.specs.declared.counting.BothVotes.{BothVotes}
use Rattle.cmm_attempt.specs.declared.phase.Phase.TheVariants.{Choosing, Collecting, Installing, Over, SeizingOthers, SeizingVotes}
use Rattle.cmm_attempt.specs.declared.plan.Plan.{Plan}
use Rattle.cmm_attempt.specs.declared.seizing.Seizing.{Seizing}
use Rattle.run_seizings.proofs.Progress.{or_left, or_right, same_is}

-- each of these devices that a member reaches is seized
abbrev pub Complete : Plan → List Seizing → List AttachedDevice → Type 0
Complete plan devices attached = AllByRecursion (λ (a : AttachedDevice). is_reachable plan a ≡ true → is_seized devices a.device ≡ true) attached

pub record Completes (s : AttemptState) : Type 0 where
  pub others : s.phase ≡ SeizingOthers → Complete s.plan s.devices s.plan.attached
  pub installs : s.phase ≡ Installing → (all_settled s.devices ≡ true) × Complete s.plan s.devices s.plan.attached

abbrev After : Turn → Type 0
After t = Completes t.after

-- ---- what is seized

seized_more : (es more : List Seizing) (d : ℕ) → (is_seized es d ≡ true) ⊎ (is_seized more d ≡ true) → is_seized (es ++ more) d ≡ true
seized_more [] more d (inl k) = absurd (false_true k)
seized_more [] more d (inr k) = k
seized_more (e ∷ es) more d k = by_test (e.attached.device == d) k (seized_more es more d)
  where
    by_test : (b : Bool) → ((b || is_seized es d) ≡ true) ⊎ (is_seized more d ≡ true) → ((is_seized es d ≡ true) ⊎ (is_seized more d ≡ true) → is_seized (es ++ more) d ≡ true)
        → (b || is_seized (es ++ more) d) ≡ true
    by_test true k next = refl
    by_test false k next = next k

seized_mapped : (f : Seizing → Seizing) → ((e : Seizing) → (f e).attached ≡ e.attached) → (es : List Seizing) (d : ℕ) → is_seized (map f es) d ≡ is_seized es d
seized_mapped f same [] d = refl
seized_mapped f same (e ∷ es) d = ap (λ (z : AttachedDevice). (z.device == d) || is_seized (map f es) d) (same e) ∙ ap (λ b. (e.attached.device == d) || b) (seized_mapped f same es d)

mapped_complete : (plan : Plan) (f : Seizing → Seizing) → ((e : Seizing) → (f e).attached ≡ e.attached) → (es : List Seizing) (xs : List AttachedDevice) → Complete plan es xs → Complete plan (map f es) xs
mapped_complete plan f same es [] k = tt
mapped_complete plan f same es (a ∷ xs) k = ((λ reached. seized_mapped f same es a.device ∙ k.0 reached), mapped_complete plan f same es xs k.1)

-- whoever reaches it is found
reached_found : (a : AttachedDevice) (ns : List ℕ) → list_any (λ n. has a.nodes n) ns ≡ true → find (λ n. has a.nodes n) ns ≡ None → ⊥
reached_found a [] is none = false_true is
reached_found a (n ∷ ns) is none = by_test (has a.nodes n) is none (reached_found a ns)
  where
    by_test : (b : Bool) → (b || list_any (λ j. has a.nodes j) ns) ≡ true → (if b then Some n else find (λ j. has a.nodes j) ns) ≡ None
        → (list_any (λ j. has a.nodes j) ns ≡ true → find (λ j. has a.nodes j) ns ≡ None → ⊥) → ⊥
    by_test true is none next = none_some n (sym none)
    by_test false is none next = next is none

-- a device that is new is seized then
new_seized : (plan : Plan) (devices : List Seizing) (a : AttachedDevice) (o : Option Seizing) → plain_new plan devices a ≡ o → is_reachable plan a ≡ true
    → (is_seized devices a.device ≡ true) ⊎ ((e : Seizing) × ((o ≡ Some e) × (e.attached.device ≡ a.device)))
new_seized plan devices a o is reached = by_seized (is_seized devices a.device) refl is
  where
    by_found : (f : Option ℕ) → find (λ n. has a.nodes n) plan.nodes ≡ f → plain_entry a f ≡ o → (is_seized devices a.device ≡ true) ⊎ ((e : Seizing) × ((o ≡ Some e) × (e.attached.device ≡ a.device)))
    by_found None none made = absurd (reached_found a plan.nodes reached none)
    by_found (Some n) found made = inr (_, (sym made, refl))

    by_seized : (b : Bool) → is_seized devices a.device ≡ b → (if b then None else plain_entry a (find (λ n. has a.nodes n) plan.nodes)) ≡ o
        → (is_seized devices a.device ≡ true) ⊎ ((e : Seizing) × ((o ≡ Some e) × (e.attached.device ≡ a.device)))
    by_seized true at made = inl at
    by_seized false at made = by_found (find (λ n. has a.nodes n) plan.nodes) refl made

abbrev New : Plan → List Seizing → List AttachedDevice → List Seizing
New plan devices xs = filter_map (plain_new plan devices) xs

option_seized : (o : Option Seizing) (es : List Seizing) (d : ℕ) → ((e : Seizing) × ((o ≡ Some e) × (e.attached.device ≡ d))) ⊎ (is_seized es d ≡ true) → is_seized (cons_option o es) d ≡ true
option_seized None es d (inl k) = absurd (none_some k.0 k.1.0)
option_seized None es d (inr k) = k
option_seized (Some z) es d (inl k) =
    or_left (z.attached.device == d) (is_seized es d) (subst (λ (y : Seizing). (y.attached.device == d) ≡ true) (sym (same_some z k.0 k.1.0)) (subst (λ j. (k.0.attached.device == j) ≡ true) k.1.1 (same_is k.0.attached.device)))
option_seized (Some z) es d (inr k) = or_right (z.attached.device == d) (is_seized es d) k

-- with those that are new each is seized
all_new : (plan : Plan) (devices : List Seizing) (xs : List AttachedDevice) → Complete plan (devices ++ New plan devices xs) xs
all_new plan devices [] = tt
all_new plan devices (a ∷ xs) = ((λ reached. first (new_seized plan devices a (plain_new plan devices a) refl reached)), grown xs (all_new plan devices xs))
  where
    first : (is_seized devices a.device ≡ true) ⊎ ((e : Seizing) × ((plain_new plan devices a ≡ Some e) × (e.attached.device ≡ a.device)))
        → is_seized (devices ++ New plan devices (a ∷ xs)) a.device ≡ true
    first (inl old) = seized_more devices (New plan devices (a ∷ xs)) a.device (inl old)
    first (inr new) = seized_more devices (New plan devices (a ∷ xs)) a.device (inr (option_seized (plain_new plan devices a) (New plan devices xs) a.device (inl new)))

    one_more : (d : ℕ) → is_seized (devices ++ New plan devices xs) d ≡ true → is_seized (devices ++ New plan devices (a ∷ xs)) d ≡ true
    one_more d k = seized_more devices (New plan devices (a ∷ xs)) d (either (seized_either devices (New plan devices xs) d k))
      where
        seized_either : (es more : List Seizing) (d : ℕ) → is_seized (es ++ more) d ≡ true → (is_seized es d ≡ true) ⊎ (is_seized more d ≡ true)
        seized_either [] more d k = inr k
        seized_either (e ∷ es) more d k = by_test (e.attached.device == d) k (seized_either es more d)
          where
            by_test : (b : Bool) → (b || is_seized (es ++ more) d) ≡ true → (is_seized (es ++ more) d ≡ true → (is_seized es d ≡ true) ⊎ (is_seized more d ≡ true))
                → ((b || is_seized es d) ≡ true) ⊎ (is_seized more d ≡ true)
            by_test true k next = inl refl
            by_test false k next = next k

        either : (is_seized devices d ≡ true) ⊎ (is_seized (New plan devices xs) d ≡ true) → (is_seized devices d ≡ true) ⊎ (is_seized (New plan devices (a ∷ xs)) d ≡ true)
        either (inl old) = inl old
        either (inr new) = inr (option_seized (plain_new plan devices a) (New plan devices xs) d (inr new))

    grown : (ys : List AttachedDevice) → Complete plan (devices ++ New plan devices xs) ys → Complete plan (devices ++ New plan devices (a ∷ xs)) ys
    grown [] k = tt
    grown (y ∷ ys) k = ((λ reached. one_more y.device (k.0 reached)), grown ys k.1)

-- where none is new each is seized
none_new : (plan : Plan) (devices : List Seizing) (xs : List AttachedDevice) → Complete plan (devices ++ New plan devices xs) xs → (length (New plan devices xs) == 0) ≡ true → Complete plan devices xs
none_new plan devices xs k none = subst (λ es. Complete plan es xs) (empty (New plan devices xs) none) k
  where
    nothing : (es : List Seizing) → es ++ [] ≡ es
    nothing [] = refl
    nothing (e ∷ es) = ap (λ zs. e ∷ zs) (nothing es)

    no_length : (n : ℕ) → (suc n == 0) ≡ false
    no_length n = grind arith

    empty : (more : List Seizing) → (length more == 0) ≡ true → devices ++ more ≡ devices
    empty [] is = nothing devices
    empty (e ∷ more) is = absurd (false_true (sym (no_length (length more)) ∙ is))

-- ---- phases

no_over : Over ≡ SeizingOthers → ⊥
no_over e = cc

over_no : Over ≡ Installing → ⊥
over_no e = cc

no_choosing : Choosing ≡ SeizingOthers → ⊥
no_choosing e = cc

choosing_no : Choosing ≡ Installing → ⊥
choosing_no e = cc

no_votes : SeizingVotes ≡ SeizingOthers → ⊥
no_votes e = cc

votes_no : SeizingVotes ≡ Installing → ⊥
votes_no e = cc

no_others : SeizingOthers ≡ Installing → ⊥
no_others e = cc

no_installing : Installing ≡ SeizingOthers → ⊥
no_installing e = cc

collecting_no : Collecting ≡ SeizingOthers → ⊥
collecting_no e = cc

no_collecting : Collecting ≡ Installing → ⊥
no_collecting e = cc

over_so : (s : AttemptState) → Completes (record s { phase = Over })
over_so s = record { others = λ e. absurd (no_over e); installs = λ e. absurd (over_no e) }

same_so : (s t : AttemptState) → t.phase ≡ s.phase → t.plan ≡ s.plan → t.devices ≡ s.devices → Completes s → Completes t
same_so s t phase plan devices k = record {
  others = λ e. subst (λ (p : Plan). Complete p t.devices p.attached) (sym plan) (subst (λ ds. Complete s.plan ds s.plan.attached) (sym devices) (k.others (sym phase ∙ e)));
  installs = λ e.
      let two : (all_settled s.devices ≡ true) × Complete s.plan s.devices s.plan.attached = k.installs (sym phase ∙ e) in
      (subst (λ ds. all_settled ds ≡ true) (sym devices) two.0, subst (λ (p : Plan). Complete p t.devices p.attached) (sym plan) (subst (λ ds. Complete s.plan ds s.plan.attached) (sym devices) two.1));
}

-- while it seizes, what an answer leaves is of the same devices
mapped_so : (s t : AttemptState) (f : Seizing → Seizing) → ((e : Seizing) → (f e).attached ≡ e.attached) → IsSeizing s.phase → t.phase ≡ s.phase → t.plan ≡ s.plan → t.devices ≡ map f s.devices → Completes s
    → Completes t
mapped_so s t f same is phase plan devices k = record {
  others = λ e.
      subst (λ (p : Plan). Complete p t.devices p.attached) (sym plan)
      (subst (λ ds. Complete s.plan ds s.plan.attached) (sym devices) (mapped_complete s.plan f same s.devices s.plan.attached (k.others (sym phase ∙ e))));
  installs = λ e. absurd (by_phase is (sym phase ∙ e));
}
  where
    by_phase : IsSeizing s.phase → s.phase ≡ Installing → ⊥
    by_phase (inl votes) at = votes_no (sym votes ∙ at)
    by_phase (inr others) at = no_others (sym others ∙ at)

result_same : (d : ℕ) (r : SeizeResult) (e : Seizing) → (with_result d r e).attached ≡ e.attached
result_same d r e = if_either (λ (z : Seizing). z.attached ≡ e.attached) ((e.attached.device == d) && is_none e.result) (record e { result = Some r }) e refl refl

next_same : (d m : ℕ) (e : Seizing) → (with_next d m e).attached ≡ e.attached
next_same d m e = if_either (λ (z : Seizing). z.attached ≡ e.attached) ((e.attached.device == d) && is_none e.result) (record e { seizer = Some m; asked = set_with e.asked m }) e refl refl

at_votes : (s : AttemptState) → s.phase ≡ SeizingVotes → (t : AttemptState) → t.phase ≡ s.phase → Completes t
at_votes s is t same = record { others = λ e. absurd (no_votes (sym is ∙ (sym same ∙ e))); installs = λ e. absurd (votes_no (sym is ∙ (sym same ∙ e))) }

walk : (c : Call) → Walk c Completes Completes After
unfolding asked_next installing
walk c = record {
  within = λ s i. i;
  rests = λ s i. i;
  passes = λ s is e i. same_so s _ refl refl refl i;
  again = λ s is e i. same_so s _ refl refl refl i;
  silent = λ s n is late least i. over_so (record s { ticks = later s.ticks });
  superseded = λ s from m q is body i. over_so s;
  promise = λ s from m p is awaited of promised i. same_so s _ refl refl refl i;
  collects = λ s is e k. k;
  collecting = λ s is e k. k;
  no_newest = λ s is all none k. k;
  chosen = λ s newest is all some k. record { others = λ e. absurd (no_choosing e); installs = λ e. absurd (choosing_no e) };
  votes = λ s both_votes is i. record { others = λ e. absurd (no_votes e); installs = λ e. absurd (votes_no e) };
  foreign = λ s both_votes n is votes least k. over_so s;
  excluded = λ s n is least k. over_so s;
  impossible = λ s e is short k. over_so s;
  entries = λ s is enough k. at_votes s is _ refl;
  requests = λ s is e k. k;
  result = λ s d from r e is says found none i. mapped_so s _ (with_result d r) (result_same d r) is refl refl refl i;
  next = λ s d from n r e is says found next i. mapped_so s _ (with_next d n) (next_same d n) is refl refl refl i;
  seizing = λ s is e k. k;
  short = λ s e is all few k. over_so s;
  others = λ s is all enough some k. record { others = λ e. all_new s.plan s.devices s.plan.attached; installs = λ e. absurd (no_others e) };
  installs_at_once = λ s is all enough none k. record {
    others = λ e. absurd (no_installing e);
    installs = λ e. (all, none_new s.plan s.devices s.plan.attached (all_new s.plan s.devices s.plan.attached) none);
  };
  installs = λ s is all k. record { others = λ e. absurd (no_installing e); installs = λ e. (all, k.others is) };
  ready = λ s from m is at of body i. same_so s _ refl refl refl i;
  own = λ s is at i. same_so s _ refl refl refl i;
  installing = λ s at e k. k;
  starts = λ s at e k. over_so s;
}

run_completes : (s : AttemptState) (calls : List Call) (t : AttemptState) → Run s calls t → Completes s → Completes t
run_completes s [] t run i = subst Completes (sym run) i
run_completes s (c ∷ calls) t run i = run_completes (turn s c).after calls t run.1 (walks Completes Completes After s c (walk c) i)

pub reached_completes : (s : AttemptState) → IsReached s → Completes s
unfolding beginning
reached_completes s r =
    let first : AttemptState = first_state r.p r.members r.own r.attached r.cluster (promises_of (promised_by r.own (shown_by r.own.sender r.own.body))) in
    run_completes (beginning r.p r.members r.own r.attached r.cluster).after r.calls s r.run
    (walks_begun Tick Completes Completes After (walk Tick) first refl (record { others = λ e. absurd (collecting_no e); installs = λ e. absurd (no_collecting e) }))

-- ---- while it installs its devices stay

not_seizing : (s : AttemptState) → s.phase ≡ Installing → IsSeizing s.phase → ⊥
not_seizing s at (inl votes) = votes_no (sym votes ∙ at)
not_seizing s at (inr others) = no_others (sym others ∙ at)

abbrev Stands : AttemptState → AttemptState → Type 0
Stands a s = (s.phase ≡ Installing) × (s.devices ≡ a.devices)

abbrev Same : AttemptState → Turn → Type 0
Same a t = t.after.devices ≡ a.devices

not_collecting : (s : AttemptState) → s.phase ≡ Installing → s.phase ≡ Collecting → ⊥
not_collecting s at is = no_collecting (sym is ∙ at)

steady : (a : AttemptState) (c : Call) → ((both : BothVotes) → c ≡ With_votes both → ⊥) → Walk c (Stands a) (Stands a) (Same a)
unfolding asked_next installing
steady a c given = record {
  within = λ s i. i;
  rests = λ s i. i.1;
  passes = λ s is e i. i.1;
  again = λ s is e i. i.1;
  silent = λ s n is late least i. i.1;
  superseded = λ s from m q is body i. i.1;
  promise = λ s from m p is awaited of promised i. i;
  collects = λ s is e k. k.1;
  collecting = λ s is e k. k.1;
  no_newest = λ s is all none k. k.1;
  chosen = λ s newest is all some k. k.1;
  votes = λ s both_votes is i. absurd (given both_votes is);
  foreign = λ s both_votes n is votes least k. k.1;
  excluded = λ s n is least k. k.1;
  impossible = λ s e is short k. k.1;
  entries = λ s is enough k. absurd (votes_no (sym is ∙ k.0));
  requests = λ s is e k. k.1;
  result = λ s d from r e is says found none i. absurd (not_seizing s i.0 is);
  next = λ s d from n r e is says found next i. absurd (not_seizing s i.0 is);
  seizing = λ s is e k. k.1;
  short = λ s e is all few k. k.1;
  others = λ s is all enough some k. absurd (votes_no (sym is ∙ k.0));
  installs_at_once = λ s is all enough none k. k.1;
  installs = λ s is all k. k.1;
  ready = λ s from m is at of body i. i;
  own = λ s is at i. i;
  installing = λ s at e k. k.1;
  starts = λ s at e k. k.1;
}

no_votes_given : (a : AttemptState) (c : Call) → May a c → a.phase ≡ Installing → (both : BothVotes) → c ≡ With_votes both → ⊥
no_votes_given a c may at both is = choosing_no (sym (subst (λ k. May a k) is may) ∙ at)

pub devices_stand : (a : AttemptState) (c : Call) → May a c → a.phase ≡ Installing → (turn a c).after.devices ≡ a.devices
devices_stand a c may at = walks (Stands a) (Stands a) (Same a) a c (steady a c (no_votes_given a c may at)) (at, refl)
