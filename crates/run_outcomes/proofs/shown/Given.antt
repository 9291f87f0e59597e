-- The votes are given before devices are seized.
use Rattle.std.specs.Prelude.{◌≡◌, Option, None, Some}
use Rattle.std.proofs.Common.{refl, subst, inl, inr}
use Rattle.attempt_laws.proofs.Steady.{Steady, reached_keeps}
use Rattle.attempt_laws.proofs.Walk.{IsSeizing}
use Rattle.cmm_attempt.specs.Attempts.{AttemptState}
use Rattle.cmm_attempt.specs.Calls.{Call, IsReached}
use Rattle.cmm_attempt.specs.declared.counting.BothVotes.{BothVotes}
use Rattle.cmm_attempt.specs.declared.phase.Phase.{Phase}
use Rattle.cmm_attempt.specs.declared.phase.Phase.TheVariants.{Choosing, Installing, Over, SeizingOthers, SeizingVotes}

-- ---- the votes are given before devices are seized

abbrev pub VotesIn : Option BothVotes → Phase → Type 0
VotesIn None SeizingVotes = ⊥
VotesIn None SeizingOthers = ⊥
VotesIn None _ = Unit {0}
VotesIn (Some b) _ = Unit {0}

abbrev HasVotes : AttemptState → Type 0
HasVotes s = VotesIn s.votes s.phase

no_claim : (o : Option BothVotes) → VotesIn o Over × VotesIn o Choosing × VotesIn o Installing
no_claim None = (tt, tt, tt)
no_claim (Some b) = (tt, tt, tt)

of_others : (o : Option BothVotes) (p : Phase) → p ≡ SeizingVotes → VotesIn o p → VotesIn o SeizingOthers
of_others None p is k = absurd (subst (VotesIn None) is k)
of_others (Some b) p is k = tt

votes_steady : (c : Call) → Steady c HasVotes HasVotes
votes_steady c = record {
  within = λ s i. i;
  ticked = λ s i. i;
  over = λ s k. (no_claim s.votes).0;
  promise = λ s from m p is awaited of promised i. i;
  collecting = λ s is e k. k;
  no_newest = λ s is all none k. k;
  chosen = λ s newest is all some k. (no_claim s.votes).1;
  votes = λ s b is i. tt;
  entries = λ s is k. k;
  result = λ s d from r is tells i. i;
  next = λ s d n e kind r is found i. i;
  seizing = λ s is e k. k;
  counted = λ s is h k. k;
  others = λ s is ne k. of_others s.votes s.phase is k;
  installs = λ s is k. (no_claim s.votes).2;
  ready = λ s from m is at of ready_body i. i;
  own = λ s is at i. i;
  installing = λ s at e k. k;
}

pub record Given (o : Option BothVotes) : Type 0 where
  pub both : BothVotes
  pub is : o ≡ Some both

given_in : (o : Option BothVotes) (p : Phase) → IsSeizing p → VotesIn o p → Given o
given_in (Some b) p is k = record { both = b; is = refl }
given_in None p (inl is) k = absurd (subst (VotesIn None) is k)
given_in None p (inr is) k = absurd (subst (VotesIn None) is k)

pub votes_given : (s : AttemptState) → IsReached s → IsSeizing s.phase → Given s.votes
votes_given s r is = given_in s.votes s.phase is (reached_keeps HasVotes HasVotes votes_steady s r tt)
