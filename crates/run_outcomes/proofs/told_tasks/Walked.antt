-- Every call keeps the entries of an attempt so.
use Rattle.std.specs.Prelude.{ℕ, ◌≡◌, false, List, [], ◌∷◌, ◌++◌, map, Option, None, Some}
use Rattle.std.specs.List.{find}
use Rattle.std.proofs.Common.{refl, sym, subst, ◌∙◌, inl, inr}
use Rattle.cl_base.specs.Seizings.{SeizeResult}
use Rattle.cmm_attempt.specs.Attempts.{AttemptState, Turn, admitted, asked_next, asked_votes, beginning, first_state, in_phase, installing, known, knowing, possible, promises_of, seizing_votes, shortage, vote_entries, voting}
use Rattle.cmm_attempt.specs.Calls.{Call, IsReached, Own_ready, Own_seized, Run, Take, Tick, With_votes, turn}
use Rattle.cmm_attempt.specs.Counts.{first_foreign, reached_set}
use Rattle.cmm_attempt.specs.Promises.{first_left_out, newest_shown, promised_by, shown_by}
use Rattle.cmm_attempt.specs.Seizings.{all_settled, awaits, next_by, with_next, with_result}
use Rattle.cmm_attempt.specs.declared.counting.BothVotes.{BothVotes}
use Rattle.cmm_attempt.specs.declared.phase.Phase.{Phase}
use Rattle.cmm_attempt.specs.declared.phase.Phase.TheVariants.{Collecting, Installing, SeizingOthers, SeizingVotes}
use Rattle.cmm_attempt.specs.declared.seizing.Seizing.{Seizing}
use Rattle.cmm_attempt.specs.declared.step.AttemptEnd.{AttemptEnd}
use Rattle.attempt_laws.proofs.Walk.{IsSeizing, Walk, awaits_collecting, walks, walks_asked_votes, walks_begun}
use Rattle.run_outcomes.specs.tasks.Entries.{AreBoth, AreVotes, EntriesIn, EntriesSo, LacksOne, LedBy}
use Rattle.run_outcomes.proofs.told_tasks.Entries.{both_first, entries_first}
use Rattle.run_outcomes.proofs.told_tasks.Calls.{both_ended, next_settled, others_plain, plain_last, votes_ended, votes_next}

-- ---- the walk

abbrev Within : AttemptState → Type 0
Within s = LedBy s.plan → EntriesIn s.plan s.promises s.votes s.devices s.phase

abbrev After : Turn → Type 0
After t = EntriesSo t.after

at_phase : (s : AttemptState) (es : List Seizing) (p : Phase) → s.phase ≡ p → EntriesIn s.plan s.promises s.votes es p → EntriesIn s.plan s.promises s.votes es s.phase
at_phase s es p is h = subst (EntriesIn s.plan s.promises s.votes es) (sym is) h

in_votes : (s : AttemptState) → s.phase ≡ SeizingVotes → LedBy s.plan → Within s → AreVotes s.plan s.promises s.votes s.devices
in_votes s is l h = subst (EntriesIn s.plan s.promises s.votes s.devices) is (h l)

in_both : (s : AttemptState) → s.phase ≡ SeizingOthers → LedBy s.plan → Within s → AreBoth s.plan s.promises s.votes s.devices
in_both s is l h = subst (EntriesIn s.plan s.promises s.votes s.devices) is (h l)

rests_by : (s : AttemptState) (p : Phase) → IsSeizing p → all_settled s.devices ≡ false → LacksOne s.devices p
rests_by s p (inl is) h = subst (LacksOne s.devices) (sym is) h
rests_by s p (inr is) h = subst (LacksOne s.devices) (sym is) tt

lacks_by : (es : List Seizing) (p : Phase) → p ≡ SeizingVotes → LacksOne es p → all_settled es ≡ false
lacks_by es p is h = subst (LacksOne es) is h

ended_by : (s : AttemptState) (d from : ℕ) (r : SeizeResult) (e : Seizing) → IsSeizing s.phase → find (awaits d from) s.devices ≡ Some e
    → next_by s.plan.cluster s.promises s.plan.nodes e e.kind r ≡ None → EntriesSo s → Within (record s { devices = map (with_result d r) s.devices })
ended_by s d from r e (inl is) found none i = λ l.
    subst (EntriesIn s.plan s.promises s.votes (map (with_result d r) s.devices)) (sym is) (votes_ended s s.devices d from r e l found none (in_votes s is l (λ k. (i k).0)))
ended_by s d from r e (inr is) found none i = λ l.
    subst (EntriesIn s.plan s.promises s.votes (map (with_result d r) s.devices)) (sym is) (both_ended s s.devices d r (in_both s is l (λ k. (i k).0)))

next_by_phase : (s : AttemptState) (d from n : ℕ) (r : SeizeResult) (e : Seizing) → IsSeizing s.phase → find (awaits d from) s.devices ≡ Some e
    → next_by s.plan.cluster s.promises s.plan.nodes e e.kind r ≡ Some n → EntriesSo s → EntriesSo (record s { devices = map (with_next d n) s.devices; ticks = 0 })
next_by_phase s d from n r e (inl is) found next i = λ l. (
  subst (EntriesIn s.plan s.promises s.votes (map (with_next d n) s.devices)) (sym is) (votes_next s s.devices d from n r e l found next (in_votes s is l (λ k. (i k).0))),
  subst (LacksOne (map (with_next d n) s.devices)) (sym is) (next_settled d n s.devices ∙ lacks_by s.devices s.phase is (i l).1),
)
next_by_phase s d from n r e (inr is) found next i = λ l.
    absurd (plain_last s.plan.cluster s.promises s.plan.nodes e r n (others_plain s s.devices d from e (in_both s is l (λ k. (i k).0)) found) next)

walk : (c : Call) → ((both : BothVotes) → c ≡ With_votes both → ⊥) → Walk c EntriesSo Within After
unfolding asked_next installing
walk c none_given = record {
  within = λ s i l. (i l).0;
  rests = λ s i. i;
  passes = λ s is e i. i;
  again = λ s is e i. i;
  silent = λ s n is late least i l. (tt, tt);
  superseded = λ s from m q is body i l. (tt, tt);
  promise = λ s from m p is awaited of promised i l.
      let t : AttemptState = record s { promises = s.promises ++ p ∷ [] } in at_phase t s.devices Collecting (awaits_collecting s from s.phase awaited) tt;
  collects = λ s is e k l. (k l, subst (LacksOne s.devices) (sym is) tt);
  collecting = λ s is e k l. (k l, subst (LacksOne s.devices) (sym is) tt);
  no_newest = λ s is all none k l. (k l, subst (LacksOne s.devices) (sym is) tt);
  chosen = λ s newest is all some k l. (tt, tt);
  votes = λ s both is i. absurd (none_given both is);
  foreign = λ s both n is votes least k l. (tt, tt);
  excluded = λ s n is least k l. (tt, tt);
  impossible = λ s e is short k l. (tt, tt);
  entries = λ s is enough k l. at_phase s (vote_entries s) SeizingVotes is (entries_first s l);
  requests = λ s is e k l. (k l, subst (LacksOne s.devices) (sym is) e);
  result = λ s d from r e is tells found none i. ended_by s d from r e is found none i;
  next = λ s d from n r e is tells found next i. next_by_phase s d from n r e is found next i;
  seizing = λ s is e k l. (k l, rests_by s s.phase is e);
  short = λ s e is all few k l. (tt, tt);
  others = λ s is all enough some k l. (both_first s l (in_votes s is l k) all, tt);
  installs_at_once = λ s is all enough none k l. (tt, tt);
  installs = λ s is all k l. (tt, tt);
  ready = λ s from m is at of body i l. at_phase s s.devices Installing at tt;
  own = λ s is at i l. at_phase s s.devices Installing at tt;
  installing = λ s at e k l. (k l, subst (LacksOne s.devices) (sym at) tt);
  starts = λ s at e k l. (tt, tt);
}

no_tick : (both : BothVotes) → Tick ≡ With_votes both → ⊥
no_tick both e = cc

-- where the votes are given
votes_so : (s : AttemptState) (both : BothVotes) → EntriesSo (voting s both).after
unfolding voting knowing seizing_votes
votes_so s both = by_foreign (first_foreign both s.plan.nodes)
  where
    t : AttemptState
    t = record (in_phase s SeizingVotes) { votes = Some both; devices = [] }

    asks : EntriesSo (asked_votes (record t { devices = vote_entries t })).after
    asks = walks_asked_votes Tick EntriesSo Within After (walk Tick no_tick) (record t { devices = vote_entries t }) refl (λ l. record { devices = (entries_first t l).devices; each = (entries_first t l).each })

    by_short : (o : Option AttemptEnd) → EntriesSo (possible t o).after
    by_short (Some e) = λ l. (tt, tt)
    by_short None = asks

    by_left : (o : Option ℕ) → EntriesSo (known t o).after
    by_left (Some m) = λ l. (tt, tt)
    by_left None = by_short (shortage t (reached_set t.plan))

    by_foreign : (o : Option ℕ) → EntriesSo (admitted t o).after
    by_foreign (Some m) = λ l. (tt, tt)
    by_foreign None = by_left (first_left_out t.promises t.plan.nodes (newest_shown t.promises))

pub call_entries : (s : AttemptState) (c : Call) → EntriesSo s → EntriesSo (turn s c).after
call_entries s (With_votes both) i = votes_so s both
call_entries s (Take from m) i = walks EntriesSo Within After s (Take from m) (walk (Take from m) (λ both e. cc)) i
call_entries s (Own_seized d r) i = walks EntriesSo Within After s (Own_seized d r) (walk (Own_seized d r) (λ both e. cc)) i
call_entries s Own_ready i = walks EntriesSo Within After s Own_ready (walk Own_ready (λ both e. cc)) i
call_entries s Tick i = walks EntriesSo Within After s Tick (walk Tick no_tick) i

calls_entries : (s : AttemptState) (calls : List Call) (t : AttemptState) → Run s calls t → EntriesSo s → EntriesSo t
calls_entries s [] t run i = subst EntriesSo (sym run) i
calls_entries s (c ∷ calls) t run i = calls_entries (turn s c).after calls t run.1 (call_entries s c i)

-- so they are of each attempt that calls lead to
pub reached_entries : (s : AttemptState) → IsReached s → EntriesSo s
unfolding beginning
reached_entries s r =
    let first : AttemptState = first_state r.p r.members r.own r.attached r.cluster (promises_of (promised_by r.own (shown_by r.own.sender r.own.body))) in
    calls_entries (beginning r.p r.members r.own r.attached r.cluster).after r.calls s r.run
    (walks_begun Tick EntriesSo Within After (walk Tick no_tick) first refl (λ l. tt))
