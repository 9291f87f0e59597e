-- The commands of a node that wait: those whose requests are in its queue, each once, and the one that it deals with.
use Rattle.std.specs.Prelude.{ℕ, ◌≡◌, ◌≢◌, ◌≤◌, ◌<◌, ◌+◌, ◌++◌, not, Bool, true, false, List, [], ◌∷◌, Some, if◌then◌else◌}
use Rattle.std.specs.List.{AllByRecursion, list_any}
use Rattle.std.proofs.Common.{refl, sym, ap, subst, ◌∙◌, arith}
use Rattle.cmm_attempt.proofs.Basics.{and_cases, none_some, same_some}
use Rattle.request_queue.specs.Queue.{Queue, oldest_in}
use Rattle.request_queue.specs.declared.request.Request.{Request}
use Rattle.status_report.specs.declared.command_entry.Answer.{Answer}
use Rattle.history.specs.Commands.{is_answered_to, waits}
use Rattle.history.specs.Moment.{Moment}
use Rattle.history.specs.Order.{since}
use Rattle.history.specs.Requests.{is_asking}
use Rattle.history.specs.Seizing.{is_boot}
use Rattle.history.specs.Trace.{answered}
use Rattle.run_history.proofs.Lists.{all_and}
use Rattle.run_commands.specs.Guards.{FirstTold, FirstUntold, Hand, IsFree, MayAnswer, MayMove, Move, QueueGoes, rest_of, waiting_by}
use Rattle.run_commands.specs.Guards.Hand.{Free, Held, Spent}
use Rattle.run_commands.specs.Guards.Move.{Drops, Joins, Pops, Stays, Takes}
use Rattle.run_commands.proofs.Tallies.{answered_less, le_then, tally, tally_more, waiting_of}
use Rattle.run_commands.proofs.Waiting.{Open, WaitOn, answered_monitors, answered_since, monitors_of, other_unanswered, other_waits}

-- the command of a request waits; a monitor's has none
abbrev pub IsDue : ℕ → List Moment → Request → Type 0
IsDue n ms r = r.told ≡ true → Open n r.number ms

abbrev pub AreDue : ℕ → List Moment → List Request → Type 0
AreDue n ms rs = AllByRecursion (IsDue n ms) rs

-- the requests whose commands wait
abbrev pub due_in : Hand → List Request → List Request
due_in Free waiting = waiting
due_in (Held k) waiting = waiting
due_in (Spent k) waiting = rest_of waiting

abbrev pub Others : ℕ → List Request → Type 0
Others k rs = AllByRecursion (λ (r : Request). r.number ≢ k) rs

-- each number once
abbrev pub AreOnce : List Request → Type 0
AreOnce [] = Unit {0}
AreOnce (r ∷ rs) = Others r.number rs × AreOnce rs

abbrev pub AreLow : ℕ → List Request → Type 0
AreLow top rs = AllByRecursion (λ (r : Request). r.number ≤ top) rs

-- of a monitor
abbrev pub is_untold : Request → Bool
is_untold r = not r.told

abbrev pub HandDue : ℕ → List Moment → Hand → ℕ → List Request → Type 0
HandDue n ms Free top waiting = Unit {0}
HandDue n ms (Held k) top waiting = Open n k ms × (k ≤ top) × Others k waiting
HandDue n ms (Spent k) top waiting = Unit {0}

abbrev pub is_told : Request → Bool
is_told r = r.told

-- how many commands may wait
abbrev pub room : Hand → List Request → ℕ
room Free waiting = tally is_told waiting
room (Held k) waiting = 1 + tally is_told waiting
room (Spent k) waiting = tally is_told (rest_of waiting)

pub record Owed (n : ℕ) (ms : List Moment) (h : Hand) (top : ℕ) (waiting : List Request) : Type 0 where
  pub due : AreDue n ms (due_in h waiting)
  pub once : AreOnce waiting
  pub low : AreLow top waiting
  pub fresh : (k : ℕ) → top < k → answered_since n k ms ≡ false
  pub monitors : tally is_untold waiting ≤ monitors_of n ms
  pub most : waiting_of n ms ≤ room h waiting
  pub hand : HandDue n ms h top waiting

-- ---- it stays so

pub due_by : (n : ℕ) (before after : List Moment) (rs : List Request) → ((q : ℕ) → Open n q before → Open n q after) → AreDue n before rs → AreDue n after rs
due_by n before after [] f h = tt
due_by n before after (r ∷ rs) f h = (λ told. f r.number (h.0 told), due_by n before after rs f h.1)

pub due_stays : (n : ℕ) (before after : List Moment) (rs : List Request) → WaitOn n before after → AreDue n before rs → AreDue n after rs
due_stays n before after rs f h = due_by n before after rs f.open_still h

hand_stays : (n : ℕ) (before after : List Moment) (h : Hand) (top : ℕ) (waiting : List Request) → WaitOn n before after → HandDue n before h top waiting → HandDue n after h top waiting
hand_stays n before after Free top waiting f d = tt
hand_stays n before after (Held k) top waiting f d = (f.open_still k d.0, d.1, d.2)
hand_stays n before after (Spent k) top waiting f d = tt

pub owed_stays : (n : ℕ) (before after : List Moment) (h : Hand) (top : ℕ) (waiting : List Request) → WaitOn n before after → Owed n before h top waiting → Owed n after h top waiting
owed_stays n before after h top waiting f d = record {
  due = due_stays n before after (due_in h waiting) f d.due;
  once = d.once;
  low = d.low;
  fresh = λ k above. f.unanswered k (d.fresh k above);
  monitors = le_then (tally is_untold waiting) (monitors_of n before) (monitors_of n after) d.monitors f.monitors;
  most = le_then (waiting_of n after) (waiting_of n before) (room h waiting) f.fewer d.most;
  hand = hand_stays n before after h top waiting f d.hand;
}

none_least : (k : ℕ) → 0 ≤ k
none_least k = omega arith

-- at the end of a step
pub owed_free : (n : ℕ) (ms : List Moment) (h : Hand) (top : ℕ) (waiting : List Request) → IsFree h → Owed n ms h top waiting → Owed n ms Free top waiting
owed_free n ms Free top waiting is d = d
owed_free n ms (Held k) top waiting is d = absurd is
owed_free n ms (Spent k) top waiting is d = absurd is

-- nothing waits
pub owed_none : (n : ℕ) (ms : List Moment) (top : ℕ) (waiting : List Request) → waiting ≡ [] → ((k : ℕ) → top < k → answered_since n k ms ≡ false) → waiting_of n ms ≤ 0
    → Owed n ms Free top waiting
owed_none n ms top waiting is fresh none =
    subst (λ rs. Owed n ms Free top rs) (sym is) (record { due = tt; once = tt; low = tt; fresh = fresh; monitors = none_least (monitors_of n ms); most = none; hand = tt })

-- ---- a command is answered

pub due_others : (n q : ℕ) (reply : Answer) (ms : List Moment) (rs : List Request) → Others q rs → AreDue n ms rs → AreDue n (answered n q reply ∷ ms) rs
due_others n q reply ms [] apart h = tt
due_others n q reply ms (r ∷ rs) apart h = (λ told. other_waits n q r.number reply ms apart.0 (h.0 told), due_others n q reply ms rs apart.1 h.1)

-- it waits, and what waits beside it waits on
pub record Answered (n : ℕ) (ms : List Moment) (q : ℕ) (reply : Answer) (g : Hand) (top : ℕ) (waiting : List Request) : Type 0 where
  pub waits_so : waits n q ms ≡ true
  pub owed : Owed n (answered n q reply ∷ ms) g top waiting

above_low : (q top k : ℕ) → q ≤ top → top < k → k ≢ q
above_low q top k low above = grind arith

pub fresh_still : (n q : ℕ) (reply : Answer) (ms : List Moment) (top : ℕ) → q ≤ top → ((k : ℕ) → top < k → answered_since n k ms ≡ false) → (k : ℕ) → top < k
    → answered_since n k (answered n q reply ∷ ms) ≡ false
fresh_still n q reply ms top low fresh k above = other_unanswered n q k reply ms (above_low q top k low above) (fresh k above)

monitors_still : (n q : ℕ) (reply : Answer) (ms : List Moment) (waiting : List Request) → tally is_untold waiting ≤ monitors_of n ms → tally is_untold waiting ≤ monitors_of n (answered n q reply ∷ ms)
monitors_still n q reply ms waiting h = le_then (tally is_untold waiting) (monitors_of n ms) (monitors_of n (answered n q reply ∷ ms)) h (answered_monitors n q reply ms)

-- one that waited waits no more
pub one_less : (n q : ℕ) (reply : Answer) (ms : List Moment) (k : ℕ) → Open n q ms → waiting_of n ms ≤ 1 + k → waiting_of n (answered n q reply ∷ ms) ≤ k
one_less n q reply ms k stands most =
    less (waiting_of n (answered n q reply ∷ ms)) (waiting_of n ms) k
    (answered_less n q reply ms (and_cases (list_any (is_asking n q) (since (is_boot n) ms)) (not (list_any (is_answered_to n q) (since (is_asking n q) ms))) stands.0).0 stands.1) most
  where
    less : (a b c : ℕ) → 1 + a ≤ b → b ≤ 1 + c → a ≤ c
    less a b c h l = omega (arith, h, l)

pub told_first : (r : Request) (rs : List Request) (k : ℕ) → r.told ≡ true → k ≤ tally is_told (r ∷ rs) → k ≤ 1 + tally is_told rs
told_first r rs k is h = subst (λ b. k ≤ (if b then 1 + tally is_told rs else tally is_told rs)) is h

first_answered : (n : ℕ) (ms : List Moment) (q : ℕ) (reply : Answer) (top : ℕ) (waiting : List Request) → FirstTold waiting q → Owed n ms Free top waiting
    → Answered n ms q reply (Spent q) top waiting
first_answered n ms q reply top [] f d = absurd (none_some f.request f.is)
first_answered n ms q reply top (r ∷ rs) f d =
    let same : r ≡ f.request = same_some r f.request f.is in
    let number : r.number ≡ q = ap (λ (z : Request). z.number) same ∙ f.number in
    let told : r.told ≡ true = ap (λ (z : Request). z.told) same ∙ f.told in
    record {
      waits_so = subst (λ k. waits n k ms ≡ true) number (d.due.0 told).0;
      owed = record {
        due = due_others n q reply ms rs (subst (λ k. Others k rs) number d.once.0) d.due.1;
        once = d.once;
        low = d.low;
        fresh = fresh_still n q reply ms top (subst (λ k. k ≤ top) number d.low.0) d.fresh;
        monitors = monitors_still n q reply ms (r ∷ rs) d.monitors;
        most = one_less n q reply ms (tally is_told rs) (subst (λ k. Open n k ms) number (d.due.0 told)) (told_first r rs (waiting_of n ms) told d.most);
        hand = tt;
      };
    }

pub owed_answered : (n : ℕ) (ms : List Moment) (h : Hand) (q : ℕ) (reply : Answer) (g : Hand) (top : ℕ) (waiting : List Request) → MayAnswer h waiting q g → Owed n ms h top waiting
    → Answered n ms q reply g top waiting
owed_answered n ms Free q reply g top waiting may d = subst (λ z. Answered n ms q reply z top waiting) (sym may.1) (first_answered n ms q reply top waiting may.0 d)
owed_answered n ms (Held k) q reply g top waiting may d =
    subst (λ z. Answered n ms q reply z top waiting) (sym may.1) (record {
      waits_so = subst (λ j. waits n j ms ≡ true) (sym may.0) d.hand.0.0;
      owed = record {
        due = due_others n q reply ms waiting (subst (λ j. Others j waiting) (sym may.0) d.hand.2) d.due;
        once = d.once;
        low = d.low;
        fresh = fresh_still n q reply ms top (subst (λ j. j ≤ top) (sym may.0) d.hand.1) d.fresh;
        monitors = monitors_still n q reply ms waiting d.monitors;
        most = one_less n q reply ms (tally is_told waiting) (subst (λ j. Open n j ms) (sym may.0) d.hand.0) d.most;
        hand = tt;
      };
    })
owed_answered n ms (Spent k) q reply g top waiting may d = absurd may

-- ---- the queue moves

all_rest : (P : Request → Type 0) (rs : List Request) → AllByRecursion P rs → AllByRecursion P (rest_of rs)
all_rest P [] h = tt
all_rest P (r ∷ rs) h = h.1

once_rest : (rs : List Request) → AreOnce rs → AreOnce (rest_of rs)
once_rest [] h = tt
once_rest (r ∷ rs) h = h.1

pub once_and : (rs : List Request) (r : Request) → AreOnce rs → Others r.number rs → AreOnce (rs ++ r ∷ [])
once_and [] r h apart = (tt, tt)
once_and (x ∷ rs) r h apart = (all_and (λ (y : Request). y.number ≢ x.number) rs r h.0 (λ same. apart.0 (sym same)), once_and rs r h.1 apart.1)

fewer : (rs : List Request) (k : ℕ) → tally is_untold rs ≤ k → tally is_untold (rest_of rs) ≤ k
fewer [] k h = h
fewer (r ∷ rs) k h = le_then (tally is_untold rs) (tally is_untold (r ∷ rs)) k (tally_more is_untold r rs) h

-- one more behind the others
pub tally_and : (p : Request → Bool) (rs : List Request) (r : Request) (b : Bool) → p r ≡ b → tally p (rs ++ r ∷ []) ≡ (if b then 1 + tally p rs else tally p rs)
tally_and p [] r b is = ap (λ t. if t then 1 + 0 else 0) is
tally_and p (x ∷ rs) r b is = by_test (p x) b (tally_and p rs r b is)
  where
    by_test : (t b : Bool) → tally p (rs ++ r ∷ []) ≡ (if b then 1 + tally p rs else tally p rs)
        → (if t then 1 + tally p (rs ++ r ∷ []) else tally p (rs ++ r ∷ [])) ≡ (if b then 1 + (if t then 1 + tally p rs else tally p rs) else (if t then 1 + tally p rs else tally p rs))
    by_test true true h = ap (λ k. 1 + k) h
    by_test true false h = ap (λ k. 1 + k) h
    by_test false true h = h
    by_test false false h = h

pub not_told : (r : Request) (b : Bool) → r.told ≡ b → is_untold r ≡ not b
not_told r b is = ap not is

taken_owed : (n : ℕ) (ms : List Moment) (top : ℕ) (waiting : List Request) (r : Request) → oldest_in waiting ≡ Some r → r.told ≡ true → Owed n ms Free top waiting
    → Owed n ms (Held r.number) top (rest_of waiting)
taken_owed n ms top [] r is told d = absurd (none_some r is)
taken_owed n ms top (x ∷ rs) r is told d =
    let same : x ≡ r = same_some x r is in
    subst (λ (z : Request). Owed n ms (Held z.number) top rs) same
    (record {
      due = d.due.1;
      once = d.once.1;
      low = d.low.1;
      fresh = d.fresh;
      monitors = fewer (x ∷ rs) (monitors_of n ms) d.monitors;
      most = told_first x rs (waiting_of n ms) (ap (λ (z : Request). z.told) same ∙ told) d.most;
      hand = (d.due.0 (ap (λ (z : Request). z.told) same ∙ told), d.low.0, d.once.0);
    })

joined_owed : (n : ℕ) (ms : List Moment) (top : ℕ) (waiting : List Request) (r : Request) → r.told ≡ true → Owed n ms (Held r.number) top waiting → Owed n ms Free top (waiting ++ r ∷ [])
joined_owed n ms top waiting r told d = record {
  due = all_and (IsDue n ms) waiting r d.due (λ is. d.hand.0);
  once = once_and waiting r d.once d.hand.2;
  low = all_and (λ (y : Request). y.number ≤ top) waiting r d.low d.hand.1;
  fresh = d.fresh;
  monitors = subst (λ k. k ≤ monitors_of n ms) (sym (tally_and is_untold waiting r false (not_told r true told))) d.monitors;
  most = subst (λ k. waiting_of n ms ≤ k) (sym (tally_and is_told waiting r true told)) d.most;
  hand = tt;
}

pub rest_told : (rs : List Request) (k : ℕ) → FirstUntold rs → k ≤ tally is_told rs → k ≤ tally is_told (rest_of rs)
rest_told [] k is h = h
rest_told (r ∷ rs) k is h = subst (λ b. k ≤ (if b then 1 + tally is_told rs else tally is_told rs)) is h

dropped_owed : (n : ℕ) (ms : List Moment) (top : ℕ) (waiting : List Request) → FirstUntold waiting → Owed n ms Free top waiting → Owed n ms Free top (rest_of waiting)
dropped_owed n ms top waiting untold d = record {
  due = all_rest (IsDue n ms) waiting d.due;
  once = once_rest waiting d.once;
  low = all_rest (λ (y : Request). y.number ≤ top) waiting d.low;
  fresh = d.fresh;
  monitors = fewer waiting (monitors_of n ms) d.monitors;
  most = rest_told waiting (waiting_of n ms) untold d.most;
  hand = tt;
}

popped_owed : (n : ℕ) (ms : List Moment) (h : Hand) (top : ℕ) (waiting : List Request) → MayMove Pops h waiting Free → Owed n ms h top waiting → Owed n ms Free top (rest_of waiting)
popped_owed n ms Free top waiting may d = absurd may.0
popped_owed n ms (Held k) top waiting may d = absurd may.0
popped_owed n ms (Spent k) top waiting may d =
    record {
      due = d.due;
      once = once_rest waiting d.once;
      low = all_rest (λ (y : Request). y.number ≤ top) waiting d.low;
      fresh = d.fresh;
      monitors = fewer waiting (monitors_of n ms) d.monitors;
      most = d.most;
      hand = tt;
    }

moved_owed : (n : ℕ) (ms : List Moment) (h g : Hand) (top : ℕ) (waiting : List Request) (m : Move) → MayMove m h waiting g → Owed n ms h top waiting → Owed n ms g top (waiting_by m waiting)
moved_owed n ms h g top waiting Stays may d = subst (λ z. Owed n ms z top waiting) (sym may.1) d
moved_owed n ms h g top waiting Pops may d = subst (λ z. Owed n ms z top (rest_of waiting)) (sym may.1) (popped_owed n ms h top waiting (may.0, refl) d)
moved_owed n ms h g top waiting Drops may d =
    subst (λ z. Owed n ms z top (rest_of waiting)) (sym may.2) (dropped_owed n ms top waiting may.1 (subst (λ z. Owed n ms z top waiting) may.0 d))
moved_owed n ms h g top waiting (Takes r) may d =
    subst (λ z. Owed n ms z top (rest_of waiting)) (sym may.3) (taken_owed n ms top waiting r may.1 may.2 (subst (λ z. Owed n ms z top waiting) may.0 d))
moved_owed n ms h g top waiting (Joins r) may d =
    subst (λ z. Owed n ms z top (waiting ++ r ∷ [])) (sym may.2) (joined_owed n ms top waiting r may.1 (subst (λ z. Owed n ms z top waiting) may.0 d))

pub owed_moved : (n : ℕ) (ms : List Moment) (h g : Hand) (before after : Queue) → QueueGoes h before after g → Owed n ms h before.asked before.waiting → Owed n ms g after.asked after.waiting
owed_moved n ms h g before after goes d =
    subst (λ k. Owed n ms g k after.waiting) (sym goes.asked)
    (subst (λ rs. Owed n ms g before.asked rs) (sym goes.waiting) (moved_owed n ms h g before.asked before.waiting goes.move goes.may d))
