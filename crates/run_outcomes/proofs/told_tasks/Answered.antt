-- After a call each entry of a quorum device is as far as the lines show it.
use Rattle.std.specs.Prelude.{ℕ, ◌≡◌, ◌≢◌, ◌⊎◌, ◌<◌, ◌==◌, ◌&&◌, ◌||◌, not, Bool, true, false, if◌then◌else◌, List, [], ◌∷◌, ◌++◌, map, Option, None, Some, is_none, is_some}
use Rattle.std.specs.List.{AllByRecursion, find, list_any}
use Rattle.std.specs.Option.{option_and_then}
use Rattle.std.proofs.Common.{refl, sym, ap, subst, ◌∙◌, arith, append-nil, inl, inr}
use Rattle.cl_base.specs.Keys.{key_of}
use Rattle.cl_base.specs.Seizings.{SeizeResult}
use Rattle.cl_base.specs.Sets.{has, set_with}
use Rattle.cmm_attempt.proofs.Basics.{and_cases, false_true, none_some, same_number, same_some}
use Rattle.cmm_attempt.specs.Attempts.{AttemptState}
use Rattle.cmm_attempt.specs.Calls.{Call}
use Rattle.cmm_attempt.specs.Promises.{holds_valid}
use Rattle.cmm_attempt.specs.Seizings.{all_settled, awaits, is_asked, with_result}
use Rattle.cmm_attempt.specs.declared.attached.AttachedDevice.{AttachedDevice}
use Rattle.cmm_attempt.specs.declared.plan.Plan.{Plan}
use Rattle.cmm_attempt.specs.declared.seizing.Seizing.{Seizing}
use Rattle.device_queue.specs.declared.task.Task.{Task}
use Rattle.attempt_laws.specs.Asking.{AreApart, entry_of, numbers_of}
use Rattle.history.specs.Moment.{Moment}
use Rattle.history.specs.Queue as told
use Rattle.run_outcomes.specs.tasks.Entries.{LedBy, VoteSo, devices_in, has_votes}
use Rattle.run_outcomes.specs.tasks.Laws.{but, has_asked, is_vote, other_seizer, own_result}
use Rattle.run_outcomes.specs.tasks.OwnTasks.{was_asked}
use Rattle.run_outcomes.proofs.told_tasks.Calls.{Fit, Follows, awaited_device, fits, is_nothing, next_follows, next_other, only_one, result_attached}
use Rattle.run_outcomes.proofs.told_tasks.Lists.{apart_filter}
use Rattle.run_outcomes.proofs.told_tasks.Moves.{Answer, Asks, Moved}
use Rattle.run_outcomes.proofs.told_tasks.Turned.{IsTurned, other_so}
use Rattle.run_outcomes.proofs.told_tasks.Heard.{Hears, Quorum, entries_found, quorum_moved}

-- ---- one entry

asked_from : (o : Option ℕ) (n : ℕ) → is_asked o n ≡ true → o ≡ Some n
asked_from None n h = absurd (false_true h)
asked_from (Some m) n h = ap Some (same_number m n h)

found_passes : (p : Seizing → Bool) (es : List Seizing) (e : Seizing) → find p es ≡ Some e → p e ≡ true
found_passes p [] e h = absurd (none_some e h)
found_passes p (x ∷ es) e h = by_test (p x) refl (λ k. found_passes p es e k) h
  where
    by_test : (b : Bool) → p x ≡ b → (find p es ≡ Some e → p e ≡ true) → (if b then Some x else find p es) ≡ Some e → p e ≡ true
    by_test true is rest k = subst (λ z. p z ≡ true) (same_some x e k) is
    by_test false is rest k = rest k

-- the seizer and the asked are as they were
stands_same : (a : AttemptState) (c : Call) (votes : List Seizing) (tasks : List Task) (ms : List Moment) (l : LedBy a.plan) (e x : Seizing) → Hears a c votes tasks ms → entry_of a.devices e.attached.device ≡ Some e
    → VoteSo a.plan a.promises e → x.attached ≡ e.attached → x.seizer ≡ e.seizer → x.asked ≡ e.asked
    → ((m : ℕ) → x.seizer ≡ Some m → m ≢ a.plan.coordinator → told.seized_by a.plan.epoch x.attached.device m ms ≡ x.result)
    → (x.seizer ≡ Some a.plan.coordinator → own_result x.attached.device tasks ≡ x.result) → IsTurned a.plan a.promises l tasks ms x
stands_same a c votes tasks ms l e x h entry so at seizer asked now own =
    inl (record {
      last = ap (λ z. told.asked_last a.plan.epoch z ms) (ap (λ (z : AttachedDevice). z.device) at)
          ∙ (h.last e.attached.device ∙ (ap (option_and_then (other_seizer a)) entry
          ∙ (ap (λ k. if is_vote k then but a.plan.coordinator e.seizer else None) so.kind ∙ ap (but a.plan.coordinator) (sym seizer))));
      other = now;
      own = own;
      asked = λ keys ended m other.
          ap (λ z. was_asked a.plan.epoch z m ms) (ap (λ (z : AttachedDevice). z.device) at)
          ∙ (h.asked e.attached.device m ∙ (ap (has_asked a m) entry
          ∙ (ap (λ k. is_vote k && not (m == a.plan.coordinator) && has e.asked m) so.kind
          ∙ (ap (λ b. not b && has e.asked m) (other_than m other) ∙ ap (λ set. has set m) (sym asked)))));
    })
  where
    above_not : (ns : List ℕ) (m : ℕ) → AllByRecursion (λ k. a.plan.coordinator < k) ns → list_any (λ k. k == m) ns ≡ true → (m == a.plan.coordinator) ≡ false
    above_not [] m above other = absurd (false_true other)
    above_not (n ∷ ns) m above other = by_test (n == m) refl other (λ k. above_not ns m above.1 k)
      where
        unlike : (p q : ℕ) → p < q → (q == p) ≡ false
        unlike p q low = grind arith

        by_test : (b : Bool) → (n == m) ≡ b → (b || list_any (λ k. k == m) ns) ≡ true → (list_any (λ k. k == m) ns ≡ true → (m == a.plan.coordinator) ≡ false) → (m == a.plan.coordinator) ≡ false
        by_test true is k rest = subst (λ z. (z == a.plan.coordinator) ≡ false) (same_number n m is) (unlike a.plan.coordinator n above.0)
        by_test false is k rest = rest k

    other_than : (m : ℕ) → list_any (λ k. k == m) l.others ≡ true → (m == a.plan.coordinator) ≡ false
    other_than m other = above_not l.others m l.above other

result_seizer : (d : ℕ) (r : SeizeResult) (e : Seizing) → (with_result d r e).seizer ≡ e.seizer
result_seizer d r e = by_test ((e.attached.device == d) && is_none e.result)
  where
    by_test : (b : Bool) → (if b then record e { result = Some r } else e).seizer ≡ e.seizer
    by_test true = refl
    by_test false = refl

result_asked : (d : ℕ) (r : SeizeResult) (e : Seizing) → (with_result d r e).asked ≡ e.asked
result_asked d r e = by_test ((e.attached.device == d) && is_none e.result)
  where
    by_test : (b : Bool) → (if b then record e { result = Some r } else e).asked ≡ e.asked
    by_test true = refl
    by_test false = refl

-- the next is asked
goes_on : (a : AttemptState) (c : Call) (votes : List Seizing) (tasks : List Task) (ms : List Moment) (l : LedBy a.plan) (change : Seizing → Seizing) (k : Asks a c change) (x : Seizing)
    → Hears a c votes tasks ms → entry_of a.devices k.entry.attached.device ≡ Some k.entry → VoteSo a.plan a.promises k.entry → VoteSo a.plan a.promises x
    → x ≡ record k.entry { seizer = Some k.next; asked = set_with k.entry.asked k.next } → IsTurned a.plan a.promises l tasks ms x
goes_on a c votes tasks ms l change k x h entry so after is =
    let e : Seizing = k.entry in
    let n : ℕ = k.next in
    let plan : Plan = a.plan in
    let passes : awaits k.device k.from e ≡ true = found_passes (awaits k.device k.from) a.devices e k.found in
    let two : (((e.attached.device == k.device) && is_none e.result) ≡ true) × (is_asked e.seizer k.from ≡ true) = and_cases ((e.attached.device == k.device) && is_none e.result) (is_asked e.seizer k.from) passes in
    let one : ((e.attached.device == k.device) ≡ true) × (is_none e.result ≡ true) = and_cases (e.attached.device == k.device) (is_none e.result) two.0 in
    let device : e.attached.device ≡ k.device = same_number e.attached.device k.device one.0 in
    let seizer : e.seizer ≡ Some k.from = asked_from e.seizer k.from two.1 in
    let f : Follows plan.cluster a.promises plan.nodes e k.result n = next_follows plan.cluster a.promises plan.nodes e e.kind k.result n k.follows in
    let fit : Fit a.promises e n = fits plan.cluster a.promises e f.keys n f.follows in
    let other : list_any (λ j. j == n) l.others ≡ true = other_so plan l n f.among (λ own. next_other plan a.promises e n so fit (sym own)) in
    let z : Seizing = record e { seizer = Some n; asked = set_with e.asked n } in
    subst (IsTurned plan a.promises l tasks ms) (sym is) (inr (inr (record {
      before = k.from;
      next = n;
      keys = f.keys;
      among_others = other;
      may = fit.may;
      shown = (and_cases (has e.attached.nodes n && holds_valid a.promises e.attached.device n && not (has e.asked n)) (list_any (λ key. key == key_of plan.cluster n) f.keys) f.follows).1;
      unasked = h.asked e.attached.device n ∙ (ap (has_asked a n) entry ∙ never (is_vote e.kind && not (n == plan.coordinator)) (has e.asked n) fit.unasked);
      waits = is_nothing e.result one.1;
      last = h.last e.attached.device ∙ (ap (option_and_then (other_seizer a)) entry
          ∙ (ap (λ w. if is_vote w then but plan.coordinator e.seizer else None) so.kind ∙ ap (but plan.coordinator) seizer));
      other = λ ne. ap (λ d. told.seized_by plan.epoch d k.from ms) device ∙ (h.told_other k.device k.from k.result k.tells ne ∙ ap Some f.told);
      own = λ own. (
        ap (λ d. own_result d tasks) device ∙ (h.told_own k.device k.from k.result k.tells own ∙ ap Some f.told),
        (subst (VoteSo plan a.promises) is after).own ∙ (so.asks plan.coordinator (seizer ∙ ap Some own)).1,
      );
    })))
  where
    never : (p q : Bool) → q ≡ false → (p && q) ≡ false
    never true q off = off
    never false q off = refl

-- ---- all of them

abbrev Now : AttemptState → List Moment → Seizing → Type 0
Now a ms e = (m : ℕ) → e.seizer ≡ Some m → m ≢ a.plan.coordinator → told.seized_by a.plan.epoch e.attached.device m ms ≡ e.result

abbrev Own : AttemptState → List Task → Seizing → Type 0
Own a tasks e = e.seizer ≡ Some a.plan.coordinator → own_result e.attached.device tasks ≡ e.result

-- by what was done
turned_by : (a : AttemptState) (c : Call) (es votes : List Seizing) (tasks : List Task) (ms : List Moment) (l : LedBy a.plan) (m : Moved a c es) (q : Quorum a.plan a.promises a.votes a.devices)
    → Hears a c votes tasks ms → (e : Seizing) → entry_of a.devices e.attached.device ≡ Some e → VoteSo a.plan a.promises e → VoteSo a.plan a.promises (m.change e) → Now a ms (m.change e)
    → Own a tasks (m.change e) → (is_some e.result ≡ true) ⊎ ((k : Asks a c m.change) → (e.attached.device == k.device) ≡ true → e ≡ k.entry) → IsTurned a.plan a.promises l tasks ms (m.change e)
turned_by a c es votes tasks ms l m q h e entry so after now own only = by_how m.how
  where
    x : Seizing
    x = m.change e

    as_was : x ≡ e → IsTurned a.plan a.promises l tasks ms x
    as_was is = stands_same a c votes tasks ms l e x h entry so (ap (λ (z : Seizing). z.attached) is) (ap (λ (z : Seizing). z.seizer) is) (ap (λ (z : Seizing). z.asked) is) now own

    by_how : ((z : Seizing) → m.change z ≡ z) ⊎ (Answer a c m.change ⊎ Asks a c m.change) → IsTurned a.plan a.promises l tasks ms x
    by_how (inl same) = as_was (same e)
    by_how (inr (inl k)) =
        stands_same a c votes tasks ms l e x h entry so (ap (λ (z : Seizing). z.attached) (k.is e) ∙ result_attached k.device k.result e)
        (ap (λ (z : Seizing). z.seizer) (k.is e) ∙ result_seizer k.device k.result e) (ap (λ (z : Seizing). z.asked) (k.is e) ∙ result_asked k.device k.result e) now own
    by_how (inr (inr k)) = by_test ((e.attached.device == k.device) && is_none e.result) refl
      where
        of_some : {X : Type 0} (o : Option X) → is_some o ≡ true → is_none o ≡ true → ⊥
        of_some None some none = false_true some
        of_some (Some y) some none = false_true none

        by_only : (is_none e.result ≡ true) → (e.attached.device == k.device) ≡ true
            → (is_some e.result ≡ true) ⊎ ((j : Asks a c m.change) → (e.attached.device == j.device) ≡ true → e ≡ j.entry) → e ≡ k.entry
        by_only none at (inl some) = absurd (of_some e.result some none)
        by_only none at (inr f) = f k at

        by_test : (b : Bool) → ((e.attached.device == k.device) && is_none e.result) ≡ b → IsTurned a.plan a.promises l tasks ms x
        by_test false off = as_was (k.is e ∙ ap (λ b. if b then record e { seizer = Some k.next; asked = set_with e.asked k.next } else e) off)
        by_test true on =
            let two : ((e.attached.device == k.device) ≡ true) × (is_none e.result ≡ true) = and_cases (e.attached.device == k.device) (is_none e.result) on in
            let same : e ≡ k.entry = by_only two.1 two.0 only in
            goes_on a c votes tasks ms l m.change k x h (subst (λ (z : Seizing). entry_of a.devices z.attached.device ≡ Some z) same entry) (subst (VoteSo a.plan a.promises) same so) after
            (k.is e ∙ (ap (λ b. if b then record e { seizer = Some k.next; asked = set_with e.asked k.next } else e) on
            ∙ ap (λ (z : Seizing). record z { seizer = Some k.next; asked = set_with z.asked k.next }) same))

each_turned : (a : AttemptState) (c : Call) (es votes : List Seizing) (tasks : List Task) (ms : List Moment) (l : LedBy a.plan) (m : Moved a c es) (q : Quorum a.plan a.promises a.votes a.devices)
    → Hears a c votes tasks ms → (vs : List Seizing) → AllByRecursion (λ (e : Seizing). entry_of a.devices e.attached.device ≡ Some e) vs → AllByRecursion (VoteSo a.plan a.promises) vs
    → AllByRecursion (VoteSo a.plan a.promises) (map m.change vs) → AllByRecursion (Now a ms) (map m.change vs) → AllByRecursion (Own a tasks) (map m.change vs)
    → AllByRecursion (λ (e : Seizing). (is_some e.result ≡ true) ⊎ ((k : Asks a c m.change) → (e.attached.device == k.device) ≡ true → e ≡ k.entry)) vs
    → AllByRecursion (IsTurned a.plan a.promises l tasks ms) (map m.change vs)
each_turned a c es votes tasks ms l m q h [] entry so after now own only = tt
each_turned a c es votes tasks ms l m q h (e ∷ vs) entry so after now own only =
    (turned_by a c es votes tasks ms l m q h e entry.0 so.0 after.0 now.0 own.0 only.0, each_turned a c es votes tasks ms l m q h vs entry.1 so.1 after.1 now.1 own.1 only.1)

settled_each : (a : AttemptState) (c : Call) (change : Seizing → Seizing) (vs : List Seizing) → all_settled vs ≡ true
    → AllByRecursion (λ (e : Seizing). (is_some e.result ≡ true) ⊎ ((k : Asks a c change) → (e.attached.device == k.device) ≡ true → e ≡ k.entry)) vs
settled_each a c change [] all = tt
settled_each a c change (e ∷ vs) all = let two : (is_some e.result ≡ true) × (all_settled vs ≡ true) = and_cases (is_some e.result) (all_settled vs) all in (inl two.0, settled_each a c change vs two.1)

-- .. and where there are no others, the entry that is found is the one of its device
alone_each : (a : AttemptState) (c : Call) (change : Seizing → Seizing) (vs : List Seizing) → AreApart (numbers_of (devices_in a.devices)) → a.devices ≡ vs
    → AllByRecursion (λ (e : Seizing). (is_some e.result ≡ true) ⊎ ((k : Asks a c change) → (e.attached.device == k.device) ≡ true → e ≡ k.entry)) vs
alone_each a c change vs apart is =
    subst (AllByRecursion (λ (e : Seizing). (is_some e.result ≡ true) ⊎ ((k : Asks a c change) → (e.attached.device == k.device) ≡ true → e ≡ k.entry))) is
    (each a.devices (λ k. only_one k.device (awaits k.device k.from) (awaited_device k.device k.from) a.devices k.entry apart k.found))
  where
    each : (es : List Seizing) → ((k : Asks a c change) → AllByRecursion (λ x. (x.attached.device == k.device) ≡ true → x ≡ k.entry) es)
        → AllByRecursion (λ (e : Seizing). (is_some e.result ≡ true) ⊎ ((k : Asks a c change) → (e.attached.device == k.device) ≡ true → e ≡ k.entry)) es
    each [] f = tt
    each (e ∷ es) f = (inr (λ k. (f k).0), each es (λ k. (f k).1))

pub turned_all : (a : AttemptState) (c : Call) (es : List Seizing) (tasks : List Task) (ms : List Moment) (l : LedBy a.plan) → Moved a c es → Quorum a.plan a.promises a.votes a.devices
    → (p : Quorum a.plan a.promises a.votes es) → Hears a c p.votes tasks ms → AllByRecursion (IsTurned a.plan a.promises l tasks ms) p.votes
turned_all a c es tasks ms l m q p h =
    subst (AllByRecursion (IsTurned a.plan a.promises l tasks ms)) (sym same)
    (each_turned a c es p.votes tasks ms l m q h q.votes
    (subst (λ ds. AllByRecursion (λ (e : Seizing). entry_of ds e.attached.device ≡ Some e) q.votes) (sym q.parts) (entries_found q.votes q.behind apart))
    q.first.each (subst (AllByRecursion (VoteSo a.plan a.promises)) same p.first.each) (subst (AllByRecursion (Now a ms)) same h.now) (subst (AllByRecursion (Own a tasks)) same h.own)
    (by_alone q.alone))
  where
    same : p.votes ≡ map m.change q.votes
    same = quorum_moved a c es m q p

    apart : AreApart (numbers_of (devices_in q.votes))
    apart = subst (λ xs. AreApart (numbers_of xs)) (sym q.first.devices) (apart_filter (has_votes a.plan a.votes) a.plan.attached l.apart)

    by_alone : (q.behind ≡ []) ⊎ (all_settled q.votes ≡ true)
        → AllByRecursion (λ (e : Seizing). (is_some e.result ≡ true) ⊎ ((k : Asks a c m.change) → (e.attached.device == k.device) ≡ true → e ≡ k.entry)) q.votes
    by_alone (inr settled) = settled_each a c m.change q.votes settled
    by_alone (inl none) =
        let whole : a.devices ≡ q.votes = q.parts ∙ (ap (λ ys. q.votes ++ ys) none ∙ append-nil q.votes) in
        alone_each a c m.change q.votes (subst (λ ds. AreApart (numbers_of (devices_in ds))) (sym whole) apart) whole
