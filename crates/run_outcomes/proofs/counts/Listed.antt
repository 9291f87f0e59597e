-- While an attempt seizes quorum devices, its seizings are those of the devices that have votes and that a member reaches, in order.
use Rattle.std.specs.Prelude.{ℕ, ◌≡◌, ◌⊎◌, Bool, true, false, if◌then◌else◌, List, [], ◌∷◌, filter, map, Option, None, Some}
use Rattle.std.specs.List.{cons_option, filter_map}
use Rattle.std.proofs.Common.{refl, sym, ap, subst, ◌∙◌, inl, inr}
use Rattle.attempt_laws.proofs.Steady.{Steady, reached_keeps}
use Rattle.cl_base.specs.Seizings.{SeizeResult}
use Rattle.cmm_attempt.proofs.Basics.{false_true, if_either}
use Rattle.cmm_attempt.specs.Attempts.{AttemptState, vote_entries, vote_entries_under}
use Rattle.cmm_attempt.specs.Calls.{Call, IsReached}
use Rattle.cmm_attempt.specs.Counts.{vote_new}
use Rattle.cmm_attempt.specs.Seizings.{all_settled, first_seizer, vote_entry, with_next, with_result}
use Rattle.cmm_attempt.specs.declared.attached.AttachedDevice.{AttachedDevice}
use Rattle.cmm_attempt.specs.declared.counting.BothVotes.{BothVotes}
use Rattle.cmm_attempt.specs.declared.phase.Phase.{Phase}
use Rattle.cmm_attempt.specs.declared.phase.Phase.TheVariants.{Collecting, Choosing, SeizingVotes, SeizingOthers, Installing, Over}
use Rattle.cmm_attempt.specs.declared.plan.Plan.{Plan}
use Rattle.cmm_attempt.specs.declared.promised.Promised.{Promised}
use Rattle.cmm_attempt.specs.declared.seizing.Seizing.{Seizing}
use Rattle.cmm_attempt.specs.declared.step.AttemptEnd.{AttemptEnd}
use Rattle.cmm_attempt.specs.declared.step.AttemptEnd.TheVariants as end
use Rattle.run_outcomes.specs.counts.Shorts.{attached_of, is_sought}

abbrev pub AreListed : AttemptState → Type 0
AreListed s = (both : BothVotes) → s.votes ≡ Some both → attached_of s.devices ≡ filter (is_sought s.plan both) s.plan.attached

-- ---- an end for want of votes

abbrev pub IsVotes : AttemptEnd → Type 0
IsVotes (end.Votes have need lacking) = Unit {0}
IsVotes _ = ⊥

-- ---- an answer leaves whose seizings they are

one_result : (d : ℕ) (r : SeizeResult) (e : Seizing) → (with_result d r e).attached ≡ e.attached
one_result d r e = if_either (λ (z : Seizing). z.attached ≡ e.attached) _ _ e refl refl

pub same_result : (d : ℕ) (r : SeizeResult) (ds : List Seizing) → attached_of (map (with_result d r) ds) ≡ attached_of ds
same_result d r [] = refl
same_result d r (e ∷ ds) = ap (λ a. a ∷ attached_of (map (with_result d r) ds)) (one_result d r e) ∙ ap (λ as_is. e.attached ∷ as_is) (same_result d r ds)

one_next : (d n : ℕ) (e : Seizing) → (with_next d n e).attached ≡ e.attached
one_next d n e = if_either (λ (z : Seizing). z.attached ≡ e.attached) _ _ e refl refl

same_next : (d n : ℕ) (ds : List Seizing) → attached_of (map (with_next d n) ds) ≡ attached_of ds
same_next d n [] = refl
same_next d n (e ∷ ds) = ap (λ a. a ∷ attached_of (map (with_next d n) ds)) (one_next d n e) ∙ ap (λ as_is. e.attached ∷ as_is) (same_next d n ds)

-- ---- those with which it begins

vote_attached : (a : AttachedDevice) (o : Option ℕ) → (vote_entry a o).attached ≡ a
vote_attached a None = refl
vote_attached a (Some n) = refl

new_listed : (plan : Plan) (promises : List Promised) (both : BothVotes) (all : List AttachedDevice) → attached_of (filter_map (vote_new plan promises both) all) ≡ filter (is_sought plan both) all
new_listed plan promises both [] = refl
new_listed plan promises both (a ∷ all) = by_test (is_sought plan both a) (new_listed plan promises both all)
  where
    by_test : (t : Bool) → attached_of (filter_map (vote_new plan promises both) all) ≡ filter (is_sought plan both) all
        → attached_of (cons_option (if t then Some (vote_entry a (first_seizer plan promises a)) else None) (filter_map (vote_new plan promises both) all)) ≡ (if t then a ∷ filter (is_sought plan both) all else filter (is_sought plan both) all)
    by_test true h = ap (λ z. z ∷ attached_of (filter_map (vote_new plan promises both) all)) (vote_attached a (first_seizer plan promises a)) ∙ ap (λ as_is. a ∷ as_is) h
    by_test false h = h

pub entries_listed : (s : AttemptState) (both : BothVotes) → s.votes ≡ Some both → attached_of (vote_entries s) ≡ filter (is_sought s.plan both) s.plan.attached
entries_listed s both given = ap (λ o. attached_of (vote_entries_under s o)) given ∙ new_listed s.plan s.promises both s.plan.attached

-- ---- so it stays

abbrev AtRest : AttemptState → Type 0
AtRest s = s.phase ≡ SeizingVotes → AreListed s

abbrev Between : AttemptState → Type 0
Between s = s.phase ≡ SeizingVotes → (s.devices ≡ []) ⊎ AreListed s

IsElse : Phase → Type 0
IsElse SeizingVotes = ⊥
IsElse _ = Unit {0}

never : {X : Type 0} (s phase : Phase) → IsElse phase → s ≡ phase → s ≡ SeizingVotes → X
unfolding IsElse
never s phase other is at = absurd (subst IsElse (sym is ∙ at) other)

settled_none : (ds : List Seizing) → ds ≡ [] → all_settled ds ≡ false → ⊥
settled_none ds is none = false_true (sym (subst (λ zs. all_settled zs ≡ false) is none))

listed_steady : (c : Call) → Steady c AtRest Between
unfolding IsElse
listed_steady c = record {
  within = λ s i is. inr (i is);
  ticked = λ s i. i;
  over = λ s k is. never Over Over tt refl is;
  promise = λ s from m p call awaited of promised i is. inr (i is);
  collecting = λ s is all k at. never s.phase Collecting tt is at;
  no_newest = λ s is all none k at. never s.phase Collecting tt is at;
  chosen = λ s newest is all some k at. never Choosing Choosing tt refl at;
  votes = λ s both is i at. inl refl;
  entries = λ s is k at. inr (λ both given. entries_listed s both given);
  result = λ s d from r seizing tells i is. inr (λ both given. same_result d r s.devices ∙ i is both given);
  next = λ s d n e kind r seizing found i is both given. same_next d n s.devices ∙ i is both given;
  seizing = λ s seizing none k is. some s none (k is);
  counted = λ s is h k. k;
  others = λ s is ne k at. never SeizingOthers SeizingOthers tt refl at;
  installs = λ s seizing k at. never Installing Installing tt refl at;
  ready = λ s from m call is of ready_body i at. never s.phase Installing tt is at;
  own = λ s call is i at. never s.phase Installing tt is at;
  installing = λ s is h k at. never s.phase Installing tt is at;
}
  where
    some : (s : AttemptState) → all_settled s.devices ≡ false → (s.devices ≡ []) ⊎ AreListed s → AreListed s
    some s none (inl empty) = absurd (settled_none s.devices empty none)
    some s none (inr h) = h

pub listed_reached : (a : AttemptState) → IsReached a → a.phase ≡ SeizingVotes → AreListed a
unfolding IsElse
listed_reached a r = reached_keeps AtRest Between listed_steady a r (λ is. never Collecting Collecting tt refl is)
