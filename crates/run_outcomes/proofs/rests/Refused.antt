-- A refusal that comes to a coordinator whose attempt seizes devices adds none of its own tasks to those of `history`.
use Rattle.std.specs.Prelude.{ℕ, ◌≡◌, ◌==◌, ◌&&◌, ◌++◌, Bool, true, false, if◌then◌else◌, List, [], ◌∷◌, filter, find, map, Some, option_map}
use Rattle.std.specs.List.{AllByRecursion, list_all, list_any}
use Rattle.std.specs.Option.{option_and_then}
use Rattle.std.proofs.Common.{refl, sym, ap, subst, ◌∙◌, append-nil}
use Rattle.attempt_laws.specs.Asking.{AreApart, entry_of, numbers_of}
use Rattle.attempt_laws.specs.Staying.{IsBefore}
use Rattle.cl_base.specs.Sets.{has}
use Rattle.cmm_attempt.proofs.Basics.{false_true}
use Rattle.cmm_attempt.specs.Attempts.{AttemptState}
use Rattle.cmm_attempt.specs.Calls.{Own_ready, With_votes}
use Rattle.cmm_attempt.specs.declared.counting.BothVotes.{BothVotes}
use Rattle.cmm_attempt.specs.declared.phase.Phase.{Phase}
use Rattle.cmm_attempt.specs.declared.phase.Phase.TheVariants.{Choosing, Collecting, Installing, Over, SeizingOthers, SeizingVotes}
use Rattle.cmm_attempt.specs.declared.seizing.Seizing.{Seizing}
use Rattle.device_queue.specs.declared.task.Task.{Task}
use Rattle.history.specs.Contact.{others}
use Rattle.history.specs.Letters.{Letter, letter_of, says}
use Rattle.history.specs.Member.{attempt_of, members_of}
use Rattle.history.specs.Moment.{Moment}
use Rattle.history.specs.Names as name
use Rattle.history.specs.Names.{Name, same_name}
use Rattle.history.specs.Queue as told
use Rattle.history.specs.Records.{NodeRecord, is_newest, is_promise_of, own_record, promise_among, promises, records_told}
use Rattle.history.specs.Seizing.{acts_for, is_number, or_else}
use Rattle.history.specs.Setting.{Setting, coordinator}
use Rattle.history.specs.Trace.{delivered}
use Rattle.history.specs.UnderWay.{is_under_way}
use Rattle.history.specs.Member as member
use Rattle.run_devices.specs.queues.Laws.{Same}
use Rattle.run_outcomes.specs.phases.Laws.{is_seizing}
use Rattle.run_outcomes.specs.tasks.Entries.{AreVotes, EntriesIn, EntriesSo, LacksOne, has_votes}
use Rattle.run_outcomes.specs.tasks.Laws.{AsksTold, OwnSo, SeizedsTold}
use Rattle.run_outcomes.proofs.onward.Befores.{own_ready_same}
use Rattle.run_outcomes.proofs.onward.Marks.{delivered_asks}
use Rattle.run_outcomes.proofs.rests.Marks.{refused_own}
use Rattle.run_outcomes.proofs.told_tasks.Begun.{both_same, devices, votes_same}
use Rattle.run_outcomes.proofs.told_tasks.Heard.{Quorum, entries_found, of_both, of_votes}
use Rattle.run_outcomes.proofs.told_tasks.Led.{ByCall}
use Rattle.run_outcomes.proofs.told_tasks.Lists.{apart_filter}
use Rattle.run_outcomes.proofs.told_tasks.Points.{Shown_at}
use Rattle.run_outcomes.proofs.told_tasks.Seizers.{Now, Own, turned_by_call}
use Rattle.run_outcomes.proofs.told_tasks.Turned.{IsTurned}
use Rattle.run_outcomes.proofs.told_tasks.Walked.{reached_entries}
use Rattle.node_model.specs.declared.node.UpNode.{UpNode}

-- ---- what the line of a refusal leaves

-- who has promised
pub same_promised : (e p from n : ℕ) (ms : List Moment) (l : Letter) → letter_of p ms ≡ Some l → l.name ≡ name.Nack → promises e (delivered p from n ∷ ms) ≡ promises e ms
same_promised e p from n ms l here called = ap (λ o. promise_among e o ++ promises e ms) here ∙ ap (λ b. (if b then l ∷ [] else []) ++ promises e ms) none
  where
    none : is_promise_of e l ≡ false
    none = ap (λ (c : Name). same_name c name.Promise && (l.from == l.from) && (l.to == coordinator e) && is_number e (member.promised_to l.before)) called

-- who has answered
same_answers : (e d m p from n : ℕ) (ms : List Moment) (l : Letter) → letter_of p ms ≡ Some l → l.name ≡ name.Nack → told.seized_by e d m (delivered p from n ∷ ms) ≡ told.seized_by e d m ms
same_answers e d m p from n ms l here called =
    ap (λ o. told.told_by e d m o (told.seized_by e d m ms)) here
    ∙ ap (λ (c : Name). if same_name c (name.Seized d) && (l.from == m) && (l.to == coordinator e) then or_else (told.seized_in e (says l.bytes)) (told.seized_by e d m ms) else told.seized_by e d m ms) called

-- what is shown of the attempt
shown_refused : (S : Setting) (n p from : ℕ) (ms : List Moment) (a : AttemptState) (l : Letter) → letter_of p ms ≡ Some l → l.name ≡ name.Nack → Shown_at S n a ms → Shown_at S n a (delivered p from n ∷ ms)
shown_refused S n p from ms a l at called z = record {
  newest = z.newest;
  both = z.both;
  found = ap (λ ls. option_and_then (λ (records : List NodeRecord). find (is_newest records) records) (option_map (λ own. own ∷ records_told ls) (own_record e ms))) same ∙ z.found;
  given = z.given;
  shows = record {
    led = z.shows.led;
    devices = z.shows.devices;
    paths = z.shows.paths;
    own = z.shows.own;
    members = z.shows.members;
    cluster = z.shows.cluster;
    voting = z.shows.voting;
    shown = λ d m low high other. ap (λ ls. list_any (λ (k : Letter). (k.from == m) && has (told.valid_in (says k.bytes)) d) ls) same ∙ z.shows.shown d m low high other;
    valid = z.shows.valid;
  };
  coordinates = z.coordinates;
  own = z.own;
  reached = z.reached;
  members = z.members;
  goes = ap (λ ls. acts_for n e ms && is_under_way e ms && list_all (λ k. list_any (λ (x : Letter). x.from == k) ls) (others e (members_of e ms))) same ∙ z.goes;
}
  where
    e : ℕ
    e = a.plan.epoch

    same : promises e (delivered p from n ∷ ms) ≡ promises e ms
    same = same_promised e p from n ms l at called

-- ---- the tasks

no_votes : (v : BothVotes) → Own_ready ≡ With_votes v → ⊥
no_votes v e = cc

if_on : {X : Type 0} (t : Bool) (x y : X) → t ≡ true → (if t then x else y) ≡ x
if_on t x y is = ap (λ z. if z then x else y) is

seizes_before : (p : Phase) → is_seizing p ≡ true → IsBefore p
seizes_before SeizingVotes is = tt
seizes_before SeizingOthers is = tt
seizes_before Collecting is = absurd (false_true is)
seizes_before Choosing is = absurd (false_true is)
seizes_before Installing is = absurd (false_true is)
seizes_before Over is = absurd (false_true is)

-- what is known of the coordinator before it comes
pub record RefusedSo (S : Setting) (n : ℕ) (w : UpNode) (a : AttemptState) (ms : List Moment) : Type 0 where
  pub seizing : is_seizing a.phase ≡ true
  pub last : attempt_of n ms ≡ Some a.plan.epoch
  pub shown : Shown_at S n a ms
  pub own : OwnSo w a
  pub asks : AsksTold a ms
  pub answers : SeizedsTold a ms
  pub same : Same w.tasks (told.tasks_of S n ms)

pub refused_same : (S : Setting) (n p from : ℕ) (w : UpNode) (a : AttemptState) (ms : List Moment) (l : Letter) → letter_of p ms ≡ Some l → l.name ≡ name.Nack → RefusedSo S n w a ms
    → Same w.tasks (told.tasks_of S n (delivered p from n ∷ ms))
refused_same S n p from w a ms l at called k =
    subst (Same w.tasks) (sym (refused_own S n p from e ms l at called k.last ∙ with_so)) (subst (λ (ts : List Task). Same ts (told.own_tasks S c e (Some r) here had)) (append-nil w.tasks) all)
  where
    e : ℕ
    e = a.plan.epoch

    c : ℕ
    c = a.plan.coordinator

    here : List Moment
    here = delivered p from n ∷ ms

    had : List told.Task
    had = told.tasks_of S n ms

    z : Shown_at S n a here
    z = shown_refused S n p from ms a l at called k.shown

    r : NodeRecord
    r = z.newest

    with_so : told.with_own S n (Some e) here had ≡ told.own_tasks S c e (Some r) here had
    with_so =
        if_on (acts_for n e here && is_under_way e here && told.all_promised e here) (told.own_tasks S n e (told.newest_in_hand e here) here had) had z.goes
        ∙ (ap (λ o. told.own_tasks S n e o here had) z.found ∙ ap (λ j. told.own_tasks S j e (Some r) here had) (sym z.coordinates))

    entries : EntriesSo a
    entries = reached_entries a z.reached

    own_now : devices (w.tasks ++ []) ≡ map (λ (x : Seizing). x.attached.device) (filter (λ (x : Seizing). has x.asked c) a.devices)
    own_now = ap devices (append-nil w.tasks) ∙ k.own.devices k.seizing

    same_call : ByCall a w.tasks here
    same_call = record {
      before = a;
      call = Own_ready;
      none_given = no_votes;
      seized = k.seizing;
      entries = entries;
      is = sym (own_ready_same a k.seizing);
      plan = refl;
      promises = refl;
      votes = refl;
      asks = delivered_asks a p from n ms k.asks;
      told_other = λ d m q tells other. absurd tells;
      told_own = λ d m q tells own. absurd tells;
    }

    turned : (q : Quorum a.plan a.promises a.votes a.devices) → AllByRecursion (IsTurned a.plan a.promises z.shows.led (w.tasks ++ []) here) q.votes
    turned q = subst (λ (ts : List Task). AllByRecursion (IsTurned a.plan a.promises z.shows.led ts here) q.votes) (sym (append-nil w.tasks)) (turned_by_call a w.tasks here z.shows.led z.shows.own same_call q k.seizing (now q.votes found) (mine_now q.votes found))
      where
        found : AllByRecursion (λ (x : Seizing). entry_of a.devices x.attached.device ≡ Some x) q.votes
        found =
            subst (λ es. AllByRecursion (λ (x : Seizing). entry_of es x.attached.device ≡ Some x) q.votes) (sym q.parts)
            (entries_found q.votes q.behind (subst (λ xs. AreApart (numbers_of xs)) (sym q.first.devices) (apart_filter (has_votes a.plan a.votes) a.plan.attached z.shows.led.apart)))

        now : (vs : List Seizing) → AllByRecursion (λ (x : Seizing). entry_of a.devices x.attached.device ≡ Some x) vs → AllByRecursion (Now a.plan here) vs
        now [] f = tt
        now (x ∷ vs) f = (
          (λ m asked other. same_answers e x.attached.device m p from n ms l at called ∙ k.answers (seizes_before a.phase k.seizing) x.attached.device m x f.0 asked other),
          now vs f.1,
        )

        mine_now : (vs : List Seizing) → AllByRecursion (λ (x : Seizing). entry_of a.devices x.attached.device ≡ Some x) vs → AllByRecursion (Own a.plan w.tasks) vs
        mine_now [] f = tt
        mine_now (x ∷ vs) f = ((λ asked. k.own.last k.seizing x.attached.device x f.0 asked), mine_now vs f.1)

    by_phase : (q : Phase) → is_seizing q ≡ true → EntriesIn a.plan a.promises a.votes a.devices q → LacksOne a.devices q → Same (w.tasks ++ []) (told.own_tasks S c e (Some r) here had)
    by_phase SeizingVotes is h1 lacks_it =
        votes_same S a.plan a.promises z.both r here z.shows a.devices w.tasks [] had (subst (λ g. AreVotes a.plan a.promises g a.devices) z.given h1) lacks_it k.same tt own_now (turned (of_votes a.plan a.promises a.votes a.devices h1))
    by_phase SeizingOthers is h1 lacks_it =
        both_same S a.plan a.promises z.both r here z.shows a.devices w.tasks [] had
        (record {
          votes = h1.votes;
          others = h1.others;
          parts = h1.parts;
          first = subst (λ g. AreVotes a.plan a.promises g h1.votes) z.given h1.first;
          settled = h1.settled;
          devices = h1.devices;
          each = h1.each;
        }) k.same tt own_now (turned (of_both a.plan a.promises a.votes a.devices h1))
    by_phase Collecting is h1 lacks_it = absurd (false_true is)
    by_phase Choosing is h1 lacks_it = absurd (false_true is)
    by_phase Installing is h1 lacks_it = absurd (false_true is)
    by_phase Over is h1 lacks_it = absurd (false_true is)

    all : Same (w.tasks ++ []) (told.own_tasks S c e (Some r) here had)
    all = by_phase a.phase k.seizing (entries z.shows.led).0 (entries z.shows.led).1
