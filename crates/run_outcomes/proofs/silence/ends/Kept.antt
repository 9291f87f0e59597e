-- What calls make of an attempt, one after another: it goes on in its phase with no tick fewer, or it chooses, ends, installs, or has asked a member anew.
use Rattle.std.specs.Prelude.{ℕ, ◌≡◌, ◌≤◌, ◌⊎◌, true}
use Rattle.std.proofs.Common.{arith, refl, sym, ap, subst, ◌∙◌, inl, inr}
use Rattle.attempt_laws.proofs.Stays.{plan_stays}
use Rattle.attempt_laws.specs.Staying.{IsBefore}
use Rattle.cmm_attempt.proofs.Basics.{false_true}
use Rattle.cmm_attempt.specs.Attempts.{AttemptState}
use Rattle.cmm_attempt.specs.Calls.{Call, May, Own_ready, Own_seized, Take, Tick, With_votes, turn}
use Rattle.cmm_attempt.specs.declared.counting.BothVotes.{BothVotes}
use Rattle.cmm_attempt.specs.declared.phase.Phase.{Phase}
use Rattle.cmm_attempt.specs.declared.phase.Phase.TheVariants.{Choosing, Collecting, Installing, Over}
use Rattle.run_outcomes.specs.phases.Laws.{is_seizing}
use Rattle.run_outcomes.specs.silence.Anew.{NewAsk}
use Rattle.run_outcomes.proofs.phases.Leading.{IsKept}
use Rattle.run_outcomes.proofs.silence.ends.Calls.{IsStill, one_call, still_call}
use Rattle.run_outcomes.proofs.silence.ends.Following.{AskedNone, voting_l}
use Rattle.run_outcomes.proofs.silence.ends.Moves.{Anew, IsPlan, Lasts, Moves, leaves_moves}

-- with its plan
pub record Led (f : ℕ) (a s : AttemptState) : Type 0 where
  pub plan : s.plan ≡ a.plan
  pub moves : Moves f a s

is_seizing_or : (p : Phase) → (p ≡ Installing) ⊎ (is_seizing p ≡ true) → (p ≡ Collecting → ⊥) × (p ≡ Choosing → ⊥)
is_seizing_or p (inl is) = (λ k. apart (sym is ∙ k), λ k. other (sym is ∙ k))
  where
    apart : Installing ≡ Collecting → ⊥
    apart e = cc

    other : Installing ≡ Choosing → ⊥
    other e = cc
is_seizing_or p (inr is) = (λ k. false_true (sym (ap is_seizing k) ∙ is), λ k. false_true (sym (ap is_seizing k) ∙ is))

same_le : (k : ℕ) → k ≤ k
same_le k = omega arith

module _ (f : ℕ) (a : AttemptState) (most : f ≤ 8) (plan : IsPlan a.plan) (rests : a.phase ≡ Choosing → ⊥) (none : a.phase ≡ Collecting → AskedNone a) where
  -- it was chosen
  from_choosing : (s : AttemptState) (k : Call) → s.plan ≡ a.plan → s.phase ≡ Choosing → a.phase ≡ Collecting → Moves f a (turn s k).after
  from_choosing s (With_votes both) same at was = leaves_moves f a _ (voting_l a (subst IsBefore (sym was) tt) (none was) s both (subst IsPlan (sym same) plan))
  from_choosing s (Take from m) same at was = by_rest (still_call s (Take from m) (λ both e. cc) (subst IsStill (sym at) tt))
    where
      by_rest : ((turn s (Take from m)).after.phase ≡ s.phase) ⊎ ((turn s (Take from m)).after.phase ≡ Over) → Moves f a (turn s (Take from m)).after
      by_rest (inl is) = inl (is ∙ at, was)
      by_rest (inr over) = inr (inr (inl over))
  from_choosing s (Own_seized d r) same at was = by_rest (still_call s (Own_seized d r) (λ both e. cc) (subst IsStill (sym at) tt))
    where
      by_rest : ((turn s (Own_seized d r)).after.phase ≡ s.phase) ⊎ ((turn s (Own_seized d r)).after.phase ≡ Over) → Moves f a (turn s (Own_seized d r)).after
      by_rest (inl is) = inl (is ∙ at, was)
      by_rest (inr over) = inr (inr (inl over))
  from_choosing s Own_ready same at was = by_rest (still_call s Own_ready (λ both e. cc) (subst IsStill (sym at) tt))
    where
      by_rest : ((turn s Own_ready).after.phase ≡ s.phase) ⊎ ((turn s Own_ready).after.phase ≡ Over) → Moves f a (turn s Own_ready).after
      by_rest (inl is) = inl (is ∙ at, was)
      by_rest (inr over) = inr (inr (inl over))
  from_choosing s Tick same at was = by_rest (still_call s Tick (λ both e. cc) (subst IsStill (sym at) tt))
    where
      by_rest : ((turn s Tick).after.phase ≡ s.phase) ⊎ ((turn s Tick).after.phase ≡ Over) → Moves f a (turn s Tick).after
      by_rest (inl is) = inl (is ∙ at, was)
      by_rest (inr over) = inr (inr (inl over))

  -- it is over
  from_over : (s : AttemptState) (k : Call) → May s k → s.phase ≡ Over → Moves f a (turn s k).after
  from_over s k may at = by_rest (still_call s k no_votes (subst IsStill (sym at) tt))
    where
      apart : Over ≡ Choosing → ⊥
      apart e = cc

      no_votes : (both : BothVotes) → k ≡ With_votes both → ⊥
      no_votes both is = apart (sym at ∙ subst (May s) is may)

      by_rest : ((turn s k).after.phase ≡ s.phase) ⊎ ((turn s k).after.phase ≡ Over) → Moves f a (turn s k).after
      by_rest (inl is) = inr (inr (inl (is ∙ at)))
      by_rest (inr over) = inr (inr (inl over))

  -- it has asked anew, or installs
  from_anew : (s : AttemptState) (k : Call) → May s k → s.plan ≡ a.plan → Anew a s → Moves f a (turn s k).after
  from_anew s k may same w = by_move (one_call 0 s s k (is_seizing_or s.phase side).1 may (low 8) (subst IsPlan (sym same) plan) (record { ticks = low s.ticks; phase = refl; asked = λ d m. refl; apart = w.apart }))
    where
      low : (n : ℕ) → 0 ≤ n
      low n = omega arith

      side : (s.phase ≡ Installing) ⊎ (is_seizing s.phase ≡ true)
      side = by_way w.way
        where
          by_way : (s.phase ≡ Installing) ⊎ ((is_seizing s.phase ≡ true) × NewAsk a s) → (s.phase ≡ Installing) ⊎ (is_seizing s.phase ≡ true)
          by_way (inl is) = inl is
          by_way (inr two) = inr two.0

      t : AttemptState
      t = (turn s k).after

      lasting : Lasts 0 s t → Anew a t
      lasting l = record { early = w.early; way = by_way w.way; more = λ d m was. l.asked d m ∙ w.more d m was; apart = l.apart }
        where
          by_way : (s.phase ≡ Installing) ⊎ ((is_seizing s.phase ≡ true) × NewAsk a s) → (t.phase ≡ Installing) ⊎ ((is_seizing t.phase ≡ true) × NewAsk a t)
          by_way (inl is) = inl (l.phase ∙ is)
          by_way (inr (seizes, n)) = inr (ap is_seizing l.phase ∙ seizes, record { device = n.device; member = n.member; now = l.asked n.device n.member ∙ n.now; before = n.before })

      further : Anew s t → Anew a t
      further g = record { early = w.early; way = by_both w.way g.way; more = λ d m was. g.more d m (w.more d m was); apart = g.apart }
        where
          by_both : (s.phase ≡ Installing) ⊎ ((is_seizing s.phase ≡ true) × NewAsk a s) → (t.phase ≡ Installing) ⊎ ((is_seizing t.phase ≡ true) × NewAsk s t) → (t.phase ≡ Installing) ⊎ ((is_seizing t.phase ≡ true) × NewAsk a t)
          by_both (inl is) way = absurd (subst IsBefore is g.early)
          by_both (inr (seizes, n)) (inl is) = inl is
          by_both (inr (seizes, n)) (inr (still, other)) = inr (still, record { device = n.device; member = n.member; now = g.more n.device n.member n.now; before = n.before })

      by_move : Moves 0 s t → Moves f a t
      by_move (inl (chooses, collects)) = absurd ((is_seizing_or s.phase side).0 collects)
      by_move (inr (inl l)) = inr (inr (inr (lasting l)))
      by_move (inr (inr (inl over))) = inr (inr (inl over))
      by_move (inr (inr (inr g))) = inr (inr (inr (further g)))

  pub led_kept : IsKept (Led f a)
  led_kept s k may h = record { plan = plan_stays s k may ∙ h.plan; moves = by_move h.moves }
    where
      by_move : Moves f a s → Moves f a (turn s k).after
      by_move (inl (chooses, collects)) = from_choosing s k h.plan chooses collects
      by_move (inr (inl l)) = one_call f a s k (λ at. rests (sym l.phase ∙ at)) may most (subst IsPlan (sym h.plan) plan) l
      by_move (inr (inr (inl over))) = from_over s k may over
      by_move (inr (inr (inr w))) = from_anew s k may h.plan w
