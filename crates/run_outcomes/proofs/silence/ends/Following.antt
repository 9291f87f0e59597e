-- Call after call: an attempt goes on in its phase with no tick fewer, or it chooses, ends, installs, or has asked a member anew.
use Rattle.std.specs.Prelude.{ℕ, ◌==◌, ◌≡◌, ◌≤◌, ◌⊎◌, ◌&&◌, ◌||◌, Bool, true, false, List, [], ◌∷◌, Option, None, Some, find, is_some, if◌then◌else◌}
use Rattle.std.specs.List.{AllByRecursion, cons_option, filter_map, list_any}
use Rattle.std.proofs.Common.{arith, refl, sym, ap, subst, ◌∙◌, inl, inr}
use Rattle.attempt_laws.specs.Asking.{AreApart, entry_numbers, entry_of}
use Rattle.attempt_laws.specs.Staying.{IsBefore}
use Rattle.cl_base.specs.Seizings.{SeizeResult}
use Rattle.cl_base.specs.Sets.{has}
use Rattle.cmm_attempt.proofs.Basics.{false_true, none_some, same_number, same_some}
use Rattle.cmm_attempt.specs.Attempts.{AttemptState, Turn, admitted, asked_votes, counting, in_phase, known, knowing, possible, seizing_votes, shortage, vote_entries, vote_entries_under, voting, with_steps}
use Rattle.cmm_attempt.specs.Counts.{first_foreign, reached_set, vote_new}
use Rattle.cmm_attempt.specs.Promises.{first_left_out, newest_shown}
use Rattle.cmm_attempt.specs.Seizings.{all_settled, first_seizer, may_seize, request_for, vote_entry}
use Rattle.cmm_attempt.specs.declared.attached.AttachedDevice.{AttachedDevice}
use Rattle.cmm_attempt.specs.declared.counting.BothVotes.{BothVotes}
use Rattle.cmm_attempt.specs.declared.phase.Phase.TheVariants.{Installing, SeizingVotes}
use Rattle.cmm_attempt.specs.declared.plan.Plan.{Plan}
use Rattle.cmm_attempt.specs.declared.promised.Promised.{Promised}
use Rattle.cmm_attempt.specs.declared.seizing.Seizing.{Seizing}
use Rattle.cmm_attempt.specs.declared.step.AttemptEnd.{AttemptEnd}
use Rattle.run_downs.proofs.Courses.{by_test}
use Rattle.run_outcomes.specs.phases.Laws.{is_seizing}
use Rattle.run_outcomes.specs.silence.Anew.{NewAsk, has_asked_at}
use Rattle.run_outcomes.proofs.asks.Entries.{found_node, with_one}
use Rattle.run_outcomes.proofs.results.Apart.{votes_apart}
use Rattle.run_outcomes.proofs.silence.ends.Moves.{IsPlan, Leaves, counting_l}

-- ---- entries of quorum devices

itself : (a b : ℕ) → a ≡ b → (a == b) ≡ true
itself a b h = grind arith

or_first : (a b : Bool) → a ≡ true → (a || b) ≡ true
or_first true b h = refl
or_first false b h = absurd (false_true h)

-- one that has not ended asks someone
abbrev Asks : Seizing → Type 0
Asks e = e.result ≡ None → (n : ℕ) × (has e.asked n ≡ true)

vote_asks : (plan : Plan) (promises : List Promised) (a : AttachedDevice) (o : Option ℕ) → (let p : ℕ → Bool = may_seize promises a in find p plan.nodes ≡ o → IsPlan plan → Asks (vote_entry a o))
vote_asks plan promises a None found k = λ waiting. absurd (ended _ waiting)
  where
    ended : (r : SeizeResult) → Some r ≡ None → ⊥
    ended r e = cc
vote_asks plan promises a (Some n) found k = λ waiting.
    let range : (1 ≤ n) × (n ≤ 32) = found_node plan (may_seize promises a) n k.nodes found in
    (n, with_one 0 n n range.0 range.1 ∙ or_first (n == n) (has 0 n) (itself n n refl))

all_ask : (plan : Plan) (promises : List Promised) (both : BothVotes) (ds : List AttachedDevice) → IsPlan plan → AllByRecursion Asks (filter_map (vote_new plan promises both) ds)
all_ask plan promises both [] k = tt
all_ask plan promises both (a ∷ ds) k = by_new (vote_new plan promises both a) refl (all_ask plan promises both ds k)
  where
    one : (e : Seizing) → vote_new plan promises both a ≡ Some e → Asks e
    one e is = by_reach _ is
      where
        by_reach : (b : Bool) → (if b then Some (vote_entry a (first_seizer plan promises a)) else None) ≡ Some e → Asks e
        by_reach true h = subst Asks (same_some (vote_entry a (first_seizer plan promises a)) e h) (vote_asks plan promises a (first_seizer plan promises a) refl k)
        by_reach false h = absurd (none_some e h)

    by_new : (o : Option Seizing) → vote_new plan promises both a ≡ o → AllByRecursion Asks (filter_map (vote_new plan promises both) ds) → AllByRecursion Asks (cons_option o (filter_map (vote_new plan promises both) ds))
    by_new None at rest = rest
    by_new (Some e) at rest = (one e at, rest)

-- a device of which one was asked
record Some_asked (es : List Seizing) : Type 0 where
  device : ℕ
  member : ℕ
  asked : has_asked_at member (entry_of es device) ≡ true

unsettled : (es : List Seizing) → AreApart (entry_numbers es) → AllByRecursion Asks es → all_settled es ≡ false → Some_asked es
unsettled [] apart all waiting = absurd (false_true (sym waiting))
unsettled (e ∷ es) apart all waiting = by_result e.result refl (λ k. unsettled es apart.1 all.1 k) waiting
  where
    by_result : (r : Option SeizeResult) → e.result ≡ r → (all_settled es ≡ false → Some_asked es) → (is_some r && all_settled es) ≡ false → Some_asked (e ∷ es)
    by_result None at rest k =
        let n : (n : ℕ) × (has e.asked n ≡ true) = all.0 at in
        record { device = e.attached.device; member = n.0; asked = ap (λ b. has_asked_at n.0 (if b then Some e else entry_of es e.attached.device)) (itself e.attached.device e.attached.device refl) ∙ n.1 }
    by_result (Some r) at rest k =
        let later : Some_asked es = rest k in
        record { device = later.device; member = later.member; asked = behind later (e.attached.device == later.device) refl }
      where
        none_there : (xs : List Seizing) (d m : ℕ) → list_any (λ x. x == d) (entry_numbers xs) ≡ false → has_asked_at m (entry_of xs d) ≡ true → ⊥
        none_there [] d m none h = false_true h
        none_there (x ∷ xs) d m none h = by_value (x.attached.device == d) (λ i j. none_there xs d m i j) none h
          where
            by_value : (b : Bool) → (list_any (λ y. y == d) (entry_numbers xs) ≡ false → has_asked_at m (entry_of xs d) ≡ true → ⊥) → (b || list_any (λ y. y == d) (entry_numbers xs)) ≡ false → has_asked_at m (if b then Some x else entry_of xs d) ≡ true → ⊥
            by_value true rest i j = false_true (sym i)
            by_value false rest i j = rest i j

        behind : (l : Some_asked es) (b : Bool) → (e.attached.device == l.device) ≡ b → has_asked_at l.member (if e.attached.device == l.device then Some e else entry_of es l.device) ≡ true
        behind l true is =
            absurd (none_there es e.attached.device l.member apart.0 (subst (λ d. has_asked_at l.member (entry_of es d) ≡ true) (sym (same_number e.attached.device l.device is)) l.asked))
        behind l false is = ap (λ t. has_asked_at l.member (if t then Some e else entry_of es l.device)) is ∙ l.asked

-- ---- votes are given

-- it has asked none
abbrev pub AskedNone : AttemptState → Type 0
AskedNone a = (d m : ℕ) → has_asked_at m (entry_of a.devices d) ≡ false

module _ (a : AttemptState) (early : IsBefore a.phase) (none : AskedNone a) where
  from_votes : (z t : AttemptState) → Leaves z t → Leaves a t
  from_votes z t (inl over) = inl over
  from_votes z t (inr k) = inr (record { early = early; way = by_way k.way; more = λ d m was. absurd (false_true (sym (none d m) ∙ was)); apart = k.apart })
    where
      by_way : (t.phase ≡ Installing) ⊎ ((is_seizing t.phase ≡ true) × NewAsk z t) → (t.phase ≡ Installing) ⊎ ((is_seizing t.phase ≡ true) × NewAsk a t)
      by_way (inl is) = inl is
      by_way (inr (seizes, w)) = inr (seizes, record { device = w.device; member = w.member; now = w.now; before = none w.device w.member })

  asked_l : (z : AttemptState) → z.phase ≡ SeizingVotes → IsPlan z.plan → AreApart (entry_numbers z.devices) → AllByRecursion Asks z.devices → z.ticks ≤ z.ticks → Leaves a (asked_votes z).after
  unfolding asked_votes
  asked_l z at plan apart all zero =
      by_test (λ (u : Turn). Leaves a u.after) (all_settled z.devices) (counting z) (with_steps z (filter_map (request_for z.plan) z.devices))
      (λ settled. from_votes z (counting z).after (counting_l z.ticks z z plan (subst IsBefore (sym at) tt) (record { ticks = zero; phase = refl; asked = λ d m. refl; apart = apart })))
      (λ waiting. inr (record { early = early; way = inr (ap is_seizing at, ask (unsettled z.devices apart all waiting)); more = λ d m was. absurd (false_true (sym (none d m) ∙ was)); apart = apart }))
    where
      ask : Some_asked z.devices → NewAsk a z
      ask k = record { device = k.device; member = k.member; now = k.asked; before = none k.device k.member }

  same_le : (k : ℕ) → k ≤ k
  same_le k = omega arith

  seizing_l : (s : AttemptState) (both : BothVotes) → s.phase ≡ SeizingVotes → s.votes ≡ Some both → IsPlan s.plan → Leaves a (seizing_votes s).after
  unfolding seizing_votes
  seizing_l s both at given plan =
      asked_l (record s { devices = vote_entries s }) at plan (votes_apart s s.votes plan.attached) (by_votes s.votes given) (same_le s.ticks)
    where
      by_votes : (o : Option BothVotes) → o ≡ Some both → AllByRecursion Asks (vote_entries_under s o)
      by_votes None is = tt
      by_votes (Some v) is = all_ask s.plan s.promises v s.plan.attached plan

  possible_l : (s : AttemptState) (both : BothVotes) (e : Option AttemptEnd) → s.phase ≡ SeizingVotes → s.votes ≡ Some both → IsPlan s.plan → Leaves a (possible s e).after
  possible_l s both (Some e) at given plan = inl refl
  possible_l s both None at given plan = seizing_l s both at given plan

  known_l : (s : AttemptState) (both : BothVotes) (m : Option ℕ) → s.phase ≡ SeizingVotes → s.votes ≡ Some both → IsPlan s.plan → Leaves a (known s m).after
  known_l s both (Some m) at given plan = inl refl
  known_l s both None at given plan = possible_l s both (shortage s (reached_set s.plan)) at given plan

  admitted_l : (s : AttemptState) (both : BothVotes) (m : Option ℕ) → s.phase ≡ SeizingVotes → s.votes ≡ Some both → IsPlan s.plan → Leaves a (admitted s m).after
  unfolding knowing
  admitted_l s both (Some m) at given plan = inl refl
  admitted_l s both None at given plan = known_l s both (first_left_out s.promises s.plan.nodes (newest_shown s.promises)) at given plan

  pub voting_l : (s : AttemptState) (both : BothVotes) → IsPlan s.plan → Leaves a (voting s both).after
  unfolding voting
  voting_l s both plan = admitted_l (record (in_phase s SeizingVotes) { votes = Some both; devices = [] }) both (first_foreign both s.plan.nodes) refl refl plan
