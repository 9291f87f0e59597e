-- What an attempt has of its entries is what it was told: of those that are new, and of those that take an answer.
use Rattle.std.specs.Prelude.{ℕ, ◌≡◌, ◌≤◌, ◌==◌, ◌&&◌, ◌||◌, ◌⊎◌, Bool, true, false, List, [], ◌∷◌, Option, None, Some, IfSome, find, is_none, map, not, if◌then◌else◌}
use Rattle.std.specs.List.{AllByRecursion, filter_map, list_all, list_any}
use Rattle.std.proofs.Common.{refl, sym, ap, subst, ◌∙◌, inl, inr}
use Rattle.attempt_laws.proofs.MachineLemmas.{of_all}
use Rattle.attempt_laws.proofs.Walk.{if_with}
use Rattle.cl_base.proofs.SetLemmas.{has_with, none_of_zero, or_bit_value}
use Rattle.cl_base.specs.Keys.{key_of}
use Rattle.cl_base.specs.Sets.{has, set_with}
use Rattle.cl_base.specs.Seizings.{SeizeResult}
use Rattle.cl_base.specs.declared.seizing.SeizeEnd.TheVariants as end
use Rattle.cmm_attempt.proofs.Basics.{and_cases, false_true, if_either, none_some, or_cases, same_number, same_some}
use Rattle.cmm_attempt.specs.Attempts.{AttemptState, all_promised, vote_entries_under}
use Rattle.cmm_attempt.specs.Counts.{is_quorum, vote_new}
use Rattle.cmm_attempt.specs.Plans.{is_reachable}
use Rattle.cmm_attempt.specs.Promises.{has_promised, holds_valid}
use Rattle.cmm_attempt.specs.Seizings.{awaits, first_seizer, is_seized, may_follow, may_seize, next_by, plain_entry, plain_new, vote_entry, with_next, with_result}
use Rattle.cmm_attempt.specs.declared.attached.AttachedDevice.{AttachedDevice}
use Rattle.cmm_attempt.specs.declared.counting.BothVotes.{BothVotes}
use Rattle.cmm_attempt.specs.declared.plan.Plan.{Plan}
use Rattle.cmm_attempt.specs.declared.promised.Promised.{Promised}
use Rattle.cmm_attempt.specs.declared.seizing.Seizing.{Seizing}
use Rattle.run_history.proofs.Lists.{more}
use Rattle.run_seizings.proofs.Progress.{or_left, or_right, same_is}
use Rattle.seize.specs.declared.kind.SeizeKind.{SeizeKind}
use Rattle.seize.specs.declared.kind.SeizeKind.TheVariants.{Plain, Vote}
use Rattle.run_outcomes.proofs.results.Promises.{none_found, shows_not}
use Rattle.run_outcomes.proofs.results.Apart.{IsTheOne, awaited_device, awaited_none, awaited_seizer}
use Rattle.run_outcomes.specs.results.Shown.{EntryTold, Fact, IsAmong, WasTried}

abbrev pub AllTold : Fact → Plan → List Promised → List Seizing → Type 0
AllTold P plan promises es = AllByRecursion (EntryTold P plan promises) es

-- ---- new entries

-- nodes have numbers from 1 to 32
abbrev pub AreLow : List ℕ → Type 0
AreLow nodes = (n : ℕ) → IsAmong n nodes → (1 ≤ n) × (n ≤ 32)

pub set_more : (s k n : ℕ) → (1 ≤ k) × (k ≤ 32) → has (set_with s k) n ≡ ((n == k) || has s n)
set_more s k n low = ap (λ z. has z n) (sym (or_bit_value s k low.1)) ∙ has_with s k low.0 low.1 n

found_among : (f : ℕ → Bool) (ns : List ℕ) (n : ℕ) → find f ns ≡ Some n → IsAmong n ns
found_among f [] n is = absurd (none_some n is)
found_among f (m ∷ ns) n is = by_test (f m) is (found_among f ns n)
  where
    by_test : (b : Bool) → (if b then Some m else find f ns) ≡ Some n → (find f ns ≡ Some n → IsAmong n ns) → IsAmong n (m ∷ ns)
    by_test true here next = or_left (m == n) (list_any (λ j. j == n) ns) (subst (λ z. (z == n) ≡ true) (sym (same_some m n here)) (same_is n))
    by_test false there next = or_right (m == n) (list_any (λ j. j == n) ns) (next there)

pub found_passes : (f : ℕ → Bool) (ns : List ℕ) (n : ℕ) → find f ns ≡ Some n → f n ≡ true
found_passes f [] n is = absurd (none_some n is)
found_passes f (m ∷ ns) n is = by_test (f m) refl is (found_passes f ns n)
  where
    by_test : (b : Bool) → f m ≡ b → (if b then Some m else find f ns) ≡ Some n → (find f ns ≡ Some n → f n ≡ true) → f n ≡ true
    by_test true passes here next = subst (λ j. f j ≡ true) (same_some m n here) passes
    by_test false fails there next = next there

-- the one that is asked first
first_asked : (P : Fact) (d m n : ℕ) → (1 ≤ m) × (m ≤ 32) → has (set_with 0 m) n ≡ true → (Some m ≡ Some n) ⊎ WasTried P d n
first_asked P d m n low is = by_case (or_cases (n == m) (has 0 n) (sym (set_more 0 m n low) ∙ is))
  where
    by_case : ((n == m) ≡ true) ⊎ (has 0 n ≡ true) → (Some m ≡ Some n) ⊎ WasTried P d n
    by_case (inl here) = inl (ap Some (sym (same_number n m here)))
    by_case (inr old) = absurd (false_true (sym (none_of_zero n) ∙ old))

no_one : (n : ℕ) → has 0 n ≡ true → ⊥
no_one n is = false_true (sym (none_of_zero n) ∙ is)

second_false : (a b : Bool) → a ≡ true → (a && b) ≡ false → b ≡ false
second_false true b i k = k
second_false false b i k = absurd (false_true i)

vote_told : (P : Fact) (plan : Plan) (promises : List Promised) (a : AttachedDevice) (o : Option ℕ) → first_seizer plan promises a ≡ o
    → list_all (has_promised promises) plan.nodes ≡ true → AreLow plan.nodes → P.place a → EntryTold P plan promises (vote_entry a o)
vote_told P plan promises a None is all low place = record {
  place = place;
  among = λ n seizer. absurd (none_some n seizer);
  told = λ n r seizer result. absurd (none_some n seizer);
  asked = λ n asked. absurd (no_one n asked);
  shows = λ n among not_valid. shows_not promises a.device n not_valid (of_all (has_promised promises) n plan.nodes all among);
  left = λ keys some result. absurd (false_true some);
  nobody = λ none. (refl, λ n among path. second_false (has a.nodes n) (holds_valid promises a.device n) path (none_found (may_seize promises a) plan.nodes n is among));
}
vote_told P plan promises a (Some m) is all low place = record {
  place = place;
  among = λ n seizer.
      let at : m ≡ n = same_some m n seizer in
      subst (λ j. IsAmong j plan.nodes × (has a.nodes j ≡ true)) at
      (found_among (may_seize promises a) plan.nodes m is, (and_cases (has a.nodes m) (holds_valid promises a.device m) (found_passes (may_seize promises a) plan.nodes m is)).0);
  told = λ n r seizer result. absurd (none_some r result);
  asked = λ n asked. first_asked P a.device m n (low m (found_among (may_seize promises a) plan.nodes m is)) asked;
  shows = λ n among not_valid. shows_not promises a.device n not_valid (of_all (has_promised promises) n plan.nodes all among);
  left = λ keys some result. absurd (none_some (end.NotRegistered keys) result);
  nobody = λ none. absurd (none_some m (sym none));
}

votes_told : (P : Fact) (plan : Plan) (promises : List Promised) (votes : BothVotes) (attached : List AttachedDevice) → list_all (has_promised promises) plan.nodes ≡ true
    → AreLow plan.nodes → AllByRecursion P.place attached → AllTold P plan promises (filter_map (vote_new plan promises votes) attached)
votes_told P plan promises votes [] all low places = tt
votes_told P plan promises votes (a ∷ attached) all low places =
    more (EntryTold P plan promises) (vote_new plan promises votes a) (filter_map (vote_new plan promises votes) attached)
    (if_either (λ o. IfSome o (EntryTold P plan promises)) (is_quorum votes a.device && is_reachable plan a) (Some (vote_entry a (first_seizer plan promises a))) None
    (vote_told P plan promises a (first_seizer plan promises a) refl all low places.0) tt)
    (votes_told P plan promises votes attached all low places.1)

pub entries_told : (P : Fact) (s : AttemptState) (o : Option BothVotes) → all_promised s ≡ true → AreLow s.plan.nodes → AllByRecursion P.place s.plan.attached
    → AllTold P s.plan s.promises (vote_entries_under s o)
entries_told P s None all low places = tt
entries_told P s (Some votes) all low places = votes_told P s.plan s.promises votes s.plan.attached all low places

plain_told : (P : Fact) (plan : Plan) (promises : List Promised) (a : AttachedDevice) (o : Option ℕ) → find (λ n. has a.nodes n) plan.nodes ≡ o
    → list_all (has_promised promises) plan.nodes ≡ true → AreLow plan.nodes → P.place a → IfSome (plain_entry a o) (EntryTold P plan promises)
plain_told P plan promises a None is all low place = tt
plain_told P plan promises a (Some m) is all low place = record {
  place = place;
  among = λ n seizer.
      let at : m ≡ n = same_some m n seizer in
      subst (λ j. IsAmong j plan.nodes × (has a.nodes j ≡ true)) at
      (found_among (λ j. has a.nodes j) plan.nodes m is, found_passes (λ j. has a.nodes j) plan.nodes m is);
  told = λ n r seizer result. absurd (none_some r result);
  asked = λ n asked. first_asked P a.device m n (low m (found_among (λ j. has a.nodes j) plan.nodes m is)) asked;
  shows = λ n among not_valid. shows_not promises a.device n not_valid (of_all (has_promised promises) n plan.nodes all among);
  left = λ keys some result. absurd (none_some (end.NotRegistered keys) result);
  nobody = λ none. absurd (none_some m (sym none));
}

pub plains_told : (P : Fact) (plan : Plan) (promises : List Promised) (devices : List Seizing) (attached : List AttachedDevice) → list_all (has_promised promises) plan.nodes ≡ true
    → AreLow plan.nodes → AllByRecursion P.place attached → AllTold P plan promises (filter_map (plain_new plan devices) attached)
plains_told P plan promises devices [] all low places = tt
plains_told P plan promises devices (a ∷ attached) all low places =
    more (EntryTold P plan promises) (plain_new plan devices a) (filter_map (plain_new plan devices) attached)
    (if_either (λ o. IfSome o (EntryTold P plan promises)) (is_seized devices a.device) None (plain_entry a (find (λ n. has a.nodes n) plan.nodes)) tt
    (plain_told P plan promises a (find (λ n. has a.nodes n) plan.nodes) refl all low places.0))
    (plains_told P plan promises devices attached all low places.1)

-- ---- answers

-- the answer of `from` on device d, which the entry e awaits
pub record Answer (P : Fact) (d from : ℕ) (r : SeizeResult) (e : Seizing) : Type 0 where
  pub awaited : awaits d from e ≡ true
  pub told : P.told d from r

ended_told : (P : Fact) (plan : Plan) (promises : List Promised) (d from : ℕ) (r : SeizeResult) (e : Seizing) → Answer P d from r e
    → next_by plan.cluster promises plan.nodes e e.kind r ≡ None → EntryTold P plan promises e → EntryTold P plan promises (record e { result = Some r })
ended_told P plan promises d from r e f none k = record {
  place = k.place;
  among = k.among;
  told = λ n z seizer same.
      subst (λ y. P.told e.attached.device n y) (same_some r z same)
      (subst (λ y. P.told e.attached.device y r) (same_some from n (sym (awaited_seizer d from e f.awaited) ∙ seizer))
      (subst (λ y. P.told y from r) (sym (same_number e.attached.device d (awaited_device d from e f.awaited))) f.told));
  asked = k.asked;
  shows = k.shows;
  left = λ keys some same. subst (λ y. next_by plan.cluster promises plan.nodes e e.kind y ≡ None) (same_some r (end.NotRegistered keys) same) none;
  nobody = λ nobody. absurd (none_some from (sym nobody ∙ awaited_seizer d from e f.awaited));
}

pub results_told : (P : Fact) (plan : Plan) (promises : List Promised) (d from : ℕ) (r : SeizeResult) (e : Seizing) (es : List Seizing) → Answer P d from r e
    → next_by plan.cluster promises plan.nodes e e.kind r ≡ None → AllByRecursion (IsTheOne d e) es → AllTold P plan promises es → AllTold P plan promises (map (with_result d r) es)
results_told P plan promises d from r e [] f none one k = tt
results_told P plan promises d from r e (y ∷ es) f none one k = (
  if_with (EntryTold P plan promises) ((y.attached.device == d) && is_none y.result) ((y.attached.device == d) && is_none y.result) (record y { result = Some r }) y refl
      (λ is.
      let same : y ≡ e = one.0 (and_cases (y.attached.device == d) (is_none y.result) is).0 in
      subst (λ (z : Seizing). EntryTold P plan promises z → EntryTold P plan promises (record z { result = Some r })) (sym same) (ended_told P plan promises d from r e f none) k.0) (λ is. k.0),
  results_told P plan promises d from r e es f none one.1 k.1,
)

-- another is asked only where the answer was that it is not registered
pub next_keys : (cluster : ℕ) (promises : List Promised) (nodes : List ℕ) (e : Seizing) (kind : SeizeKind) (r : SeizeResult) (m : ℕ) → next_by cluster promises nodes e kind r ≡ Some m
    → (keys : List ℕ) × (r ≡ end.NotRegistered keys)
next_keys cluster promises nodes e Vote (end.NotRegistered keys) m is = (keys, refl)
next_keys cluster promises nodes e Vote (end.Held keys) m is = absurd (none_some m is)
next_keys cluster promises nodes e Vote (end.Greater w) m is = absurd (none_some m is)
next_keys cluster promises nodes e Vote end.Expelled m is = absurd (none_some m is)
next_keys cluster promises nodes e Vote (end.Contended key) m is = absurd (none_some m is)
next_keys cluster promises nodes e Vote end.Fault m is = absurd (none_some m is)
next_keys cluster promises nodes e Plain r m is = absurd (none_some m is)

-- .. and who has a path there
pub next_path : (cluster : ℕ) (promises : List Promised) (nodes : List ℕ) (e : Seizing) (kind : SeizeKind) (r : SeizeResult) (m : ℕ) → next_by cluster promises nodes e kind r ≡ Some m → has e.attached.nodes m ≡ true
next_path cluster promises nodes e Vote (end.NotRegistered keys) m is =
    first_true (has e.attached.nodes m) (holds_valid promises e.attached.device m) (not (has e.asked m)) (list_any (λ key. key == key_of cluster m) keys) (found_passes (may_follow cluster promises e keys) nodes m is)
  where
    first_true : (a b c d : Bool) → (a && b && c && d) ≡ true → a ≡ true
    first_true true b c d i = refl
    first_true false b c d i = absurd (false_true i)
next_path cluster promises nodes e Vote (end.Held keys) m is = absurd (none_some m is)
next_path cluster promises nodes e Vote (end.Greater w) m is = absurd (none_some m is)
next_path cluster promises nodes e Vote end.Expelled m is = absurd (none_some m is)
next_path cluster promises nodes e Vote (end.Contended key) m is = absurd (none_some m is)
next_path cluster promises nodes e Vote end.Fault m is = absurd (none_some m is)
next_path cluster promises nodes e Plain r m is = absurd (none_some m is)

pub next_among : (cluster : ℕ) (promises : List Promised) (nodes : List ℕ) (e : Seizing) (kind : SeizeKind) (r : SeizeResult) (m : ℕ) → next_by cluster promises nodes e kind r ≡ Some m → IsAmong m nodes
next_among cluster promises nodes e Vote (end.NotRegistered keys) m is = found_among (may_follow cluster promises e keys) nodes m is
next_among cluster promises nodes e Vote (end.Held keys) m is = absurd (none_some m is)
next_among cluster promises nodes e Vote (end.Greater w) m is = absurd (none_some m is)
next_among cluster promises nodes e Vote end.Expelled m is = absurd (none_some m is)
next_among cluster promises nodes e Vote (end.Contended key) m is = absurd (none_some m is)
next_among cluster promises nodes e Vote end.Fault m is = absurd (none_some m is)
next_among cluster promises nodes e Plain r m is = absurd (none_some m is)

no_result : {X : Type 0} (o : Option X) (x : X) → is_none o ≡ true → o ≡ Some x → ⊥
no_result None x is some = none_some x some
no_result (Some y) x is some = false_true is

asked_told : (P : Fact) (plan : Plan) (promises : List Promised) (d from m : ℕ) (keys : List ℕ) (e : Seizing) → Answer P d from (end.NotRegistered keys) e → (1 ≤ m) × (m ≤ 32)
    → IsAmong m plan.nodes × (has e.attached.nodes m ≡ true) → EntryTold P plan promises e → EntryTold P plan promises (record e { seizer = Some m; asked = set_with e.asked m })
asked_told P plan promises d from m keys e f low among k = record {
  place = k.place;
  among = λ n seizer. subst (λ j. IsAmong j plan.nodes × (has e.attached.nodes j ≡ true)) (same_some m n seizer) among;
  told = λ n z seizer same. absurd (no_result e.result z (awaited_none d from e f.awaited) same);
  asked = λ n is. by_case n (or_cases (n == m) (has e.asked n) (sym (set_more e.asked m n low) ∙ is));
  shows = k.shows;
  left = λ keys some same. absurd (no_result e.result (end.NotRegistered keys) (awaited_none d from e f.awaited) same);
  nobody = λ none. absurd (none_some m (sym none));
}
  where
    was : (n : ℕ) → (e.seizer ≡ Some n) ⊎ WasTried P e.attached.device n → (Some m ≡ Some n) ⊎ WasTried P e.attached.device n
    was n (inl last) =
        inr (
          keys,
          subst (λ y. P.told e.attached.device y (end.NotRegistered keys)) (same_some from n (sym (awaited_seizer d from e f.awaited) ∙ last))
              (subst (λ y. P.told y from (end.NotRegistered keys)) (sym (same_number e.attached.device d (awaited_device d from e f.awaited))) f.told),
        )
    was n (inr tried) = inr tried

    by_case : (n : ℕ) → ((n == m) ≡ true) ⊎ (has e.asked n ≡ true) → (Some m ≡ Some n) ⊎ WasTried P e.attached.device n
    by_case n (inl here) = inl (ap Some (sym (same_number n m here)))
    by_case n (inr old) = was n (k.asked n old)

pub nexts_told : (P : Fact) (plan : Plan) (promises : List Promised) (d from m : ℕ) (keys : List ℕ) (e : Seizing) (es : List Seizing) → Answer P d from (end.NotRegistered keys) e → (1 ≤ m) × (m ≤ 32)
    → IsAmong m plan.nodes × (has e.attached.nodes m ≡ true) → AllByRecursion (IsTheOne d e) es → AllTold P plan promises es → AllTold P plan promises (map (with_next d m) es)
nexts_told P plan promises d from m keys e [] f low among one k = tt
nexts_told P plan promises d from m keys e (y ∷ es) f low among one k = (
  if_with (EntryTold P plan promises) ((y.attached.device == d) && is_none y.result) ((y.attached.device == d) && is_none y.result)
      (record y { seizer = Some m; asked = set_with y.asked m }) y refl
      (λ is.
      let same : y ≡ e = one.0 (and_cases (y.attached.device == d) (is_none y.result) is).0 in
      subst (λ (z : Seizing). EntryTold P plan promises z → EntryTold P plan promises (record z { seizer = Some m; asked = set_with z.asked m })) (sym same)
      (asked_told P plan promises d from m keys e f low among) k.0) (λ is. k.0),
  nexts_told P plan promises d from m keys e es f low among one.1 k.1,
)

-- what an answer leaves is of the same devices
pub result_same : (d : ℕ) (r : SeizeResult) (e : Seizing) → (with_result d r e).attached ≡ e.attached
result_same d r e = if_either (λ (z : Seizing). z.attached ≡ e.attached) ((e.attached.device == d) && is_none e.result) (record e { result = Some r }) e refl refl

pub next_same : (d m : ℕ) (e : Seizing) → (with_next d m e).attached ≡ e.attached
next_same d m e = if_either (λ (z : Seizing). z.attached ≡ e.attached) ((e.attached.device == d) && is_none e.result) (record e { seizer = Some m; asked = set_with e.asked m }) e refl refl
