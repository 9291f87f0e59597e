-- An attempt that ends for its votes, or for a member, has not been installed; and by its lines its coordinator leads.
use Rattle.std.specs.Prelude.{ℕ, ◌≡◌, ◌<◌, ◌&&◌, not, true, false, List, Option, None, Some}
use Rattle.std.proofs.Common.{refl, sym, ap, subst, ◌∙◌, inl, inr}
use Rattle.attempt_laws.proofs.Stays.{plan_stays}
use Rattle.attempt_laws.specs.Staying.{IsBefore}
use Rattle.cl_base.specs.declared.header.Header.{Header}
use Rattle.cmm_attempt.specs.Attempts.{AttemptState}
use Rattle.cmm_attempt.specs.Calls.{Call, With_votes, end_in, turn}
use Rattle.cmm_attempt.specs.declared.counting.BothVotes.{BothVotes}
use Rattle.cmm_attempt.specs.declared.phase.Phase.TheVariants.{Choosing, SeizingVotes}
use Rattle.cmm_attempt.specs.declared.plan.Plan.{Plan}
use Rattle.cmm_attempt.specs.declared.step.AttemptEnd.{AttemptEnd}
use Rattle.cmm_attempt.specs.declared.step.AttemptEnd.TheVariants as end
use Rattle.history.specs.Member as member
use Rattle.history.specs.Member.{attempt_of}
use Rattle.history.specs.Moment.{Moment, Told}
use Rattle.history.specs.Seizing.{is_number}
use Rattle.history.specs.Setting.{coordinator}
use Rattle.node_model.specs.Attempts.{ended_entry}
use Rattle.node_model.specs.Seats.{session_of}
use Rattle.node_model.specs.declared.cluster.Cluster.{Cluster}
use Rattle.node_model.specs.declared.node.UpNode.{UpNode}
use Rattle.node_model.specs.declared.output.Output.{Output}
use Rattle.refinement.proofs.Attempts.{may_be_called}
use Rattle.refinement.specs.Guards.{MayCall}
use Rattle.refinement.specs.Ties.{Delivered}
use Rattle.run_devices.specs.queues.Told.{leads, leads_for}
use Rattle.run_history.specs.Scenes.{Scene, passing}
use Rattle.run_seizings.specs.Seized.{AttemptSo, has_installed}
use Rattle.run_seizings.specs.Sites.{UpSo}
use Rattle.run_seizings.proofs.Calls.{attempt_of as attempt_so}
use Rattle.run_seizings.proofs.Promising.{same_so}
use Rattle.status_report.specs.declared.entry.Entry.TheVariants as entry
use Rattle.run_outcomes.specs.counts.Ends.{IsGivenBy, Last}
use Rattle.run_outcomes.proofs.counts.Given.{AreFrom, call_ends_so}
use Rattle.run_outcomes.proofs.exclusions.Ends.{IsSought, is_sought}
use Rattle.run_outcomes.proofs.led.Lines.{AllStill, LedHere, passing_same}

-- for its votes, or for a member
abbrev pub IsOwnEnd : AttemptEnd → Type 0
IsOwnEnd (end.Votes have need lacking) = Unit {0}
IsOwnEnd (end.Foreign m) = Unit {0}
IsOwnEnd (end.Excluded m) = Unit {0}
IsOwnEnd _ = ⊥

-- ---- it comes while devices are seized for votes, or as these are given

at_votes : (c : Cluster) (told : Delivered) (a : AttemptState) (k : Call) (both : BothVotes) → MayCall c told a k → k ≡ With_votes both → IsBefore a.phase
at_votes c told a k both may is = by_phase (subst (MayCall c told a) is may).1
  where
    by_phase : a.phase ≡ Choosing → IsBefore a.phase
    by_phase at = subst IsBefore (sym at) tt

at_seizing : (a : AttemptState) → a.phase ≡ SeizingVotes → IsBefore a.phase
at_seizing a at = subst IsBefore (sym at) tt

by_counts : (c : Cluster) (told : Delivered) (a : AttemptState) (k : Call) (votes : Option BothVotes) → MayCall c told a k → AreFrom a k votes → IsBefore a.phase
by_counts c told a k votes may (inl (both, is, given)) = at_votes c told a k both may is
by_counts c told a k votes may (inr at) = at_seizing a at.0

by_records : (c : Cluster) (told : Delivered) (a : AttemptState) (k : Call) → MayCall c told a k → IsSought a k → IsBefore a.phase
by_records c told a k may (inl (both, is)) = at_votes c told a k both may is
by_records c told a k may (inr at) = at_seizing a at

before_end : (c : Cluster) (told : Delivered) (a : AttemptState) (k : Call) (why : AttemptEnd) → MayCall c told a k → end_in (turn a k).steps ≡ Some why → IsOwnEnd why → IsBefore a.phase
before_end c told a k (end.Votes have need lacking) may is own = by_counts c told a k (turn a k).after.votes may ((call_ends_so a k (end.Votes have need lacking) is).votes tt)
before_end c told a k (end.Foreign m) may is own = by_counts c told a k (turn a k).after.votes may ((call_ends_so a k (end.Foreign m) is).votes tt)
before_end c told a k (end.Excluded m) may is own = by_records c told a k may (is_sought a k m is)
before_end c told a k (end.Superseded q) may is own = absurd own
before_end c told a k (end.Silent m) may is own = absurd own

-- ---- what is known of the last call: where it ends the attempt so, that is not installed

abbrev pub LastFresh : ℕ → List Moment → Last → Type 0
LastFresh n ms None = Unit {0}
LastFresh n ms (Some l) = (why : AttemptEnd) → end_in (turn l.0 l.1).steps ≡ Some why → IsOwnEnd why → has_installed n (turn l.0 l.1).after.plan.epoch ms ≡ false

pub call_fresh : (h : Header) (c : Cluster) (ms : List Moment) (n q : ℕ) (told : Delivered) (a : AttemptState) (k : Call) → AttemptSo h ms n q a → MayCall c told a k → LastFresh n ms (Some (a, k))
call_fresh h c ms n q told a k so may why is own =
    ap (λ (p : Plan). has_installed n p.epoch ms) (plan_stays a k (may_be_called c told a k may)) ∙ so.before (before_end c told a k why may is own)

pub fresh_stays : (n : ℕ) (os : List Output) (s : Scene) (last : Last) → AllStill os → LastFresh n s.moments last → LastFresh n (passing n os s).moments last
fresh_stays n os s None still k = tt
fresh_stays n os s (Some l) still k = λ why is own. passing_same n (turn l.0 l.1).after.plan.epoch n os s still ∙ k why is own

-- ---- its coordinator leads

leads_by : (n e : ℕ) (ms : List Moment) → attempt_of n ms ≡ Some e → member.session_of n ms ≡ Some e → has_installed n e ms ≡ false → leads n ms ≡ true
leads_by n e ms last session fresh =
    ap (λ o. leads_for n o ms) last
    ∙ (ap (λ o. is_number e o && not (has_installed n e ms)) session ∙ (ap (λ t. t && not (has_installed n e ms)) (same_so e e refl) ∙ ap not fresh))

-- in its session
pub own_session : (h : Header) (ms : List Moment) (n : ℕ) (x : UpNode) (a : AttemptState) → UpSo h ms n x → AttemptSo h ms n (session_of x) a → member.session_of n ms ≡ Some a.plan.epoch
own_session h ms n x a up so = up.session (subst (λ q. 0 < q) so.epoch so.some) ∙ ap Some (sym so.epoch)

fresh_by : (n : ℕ) (ms : List Moment) (a : AttemptState) (why : AttemptEnd) (last : Last) → IsGivenBy last a why → LastFresh n ms last → IsOwnEnd why → has_installed n a.plan.epoch ms ≡ false
fresh_by n ms a why None given k own = absurd given
fresh_by n ms a why (Some l) given k own = ap (λ (z : AttemptState). has_installed n z.plan.epoch ms) given.0 ∙ k why given.1 own

end_led : (ms : List Moment) (e : ℕ) (why : AttemptEnd) → (IsOwnEnd why → leads (coordinator e) ms ≡ true) → LedHere ms (Told (entry.Attempt (ended_entry e why)))
end_led ms e (end.Votes have need lacking) f = (f tt, tt)
end_led ms e (end.Foreign m) f = (f tt, tt)
end_led ms e (end.Excluded m) f = (f tt, tt)
end_led ms e (end.Superseded q) f = (tt, tt)
end_led ms e (end.Silent m) f = (tt, tt)

-- the line of an end
pub ends_led : (h : Header) (ms : List Moment) (n : ℕ) (x : UpNode) (a : AttemptState) (why : AttemptEnd) (last : Last) → x.attempt ≡ Some a → IsGivenBy last a why → UpSo h ms n x → LastFresh n ms last
    → LedHere ms (Told (entry.Attempt (ended_entry a.plan.epoch why)))
ends_led h ms n x a why last is given up k =
    let so : AttemptSo h ms n (session_of x) a = attempt_so h ms n (session_of x) x.attempt a is up.attempt in
    end_led ms a.plan.epoch why
    (λ own. subst (λ j. leads j ms ≡ true) (sym so.own)
    (leads_by n a.plan.epoch ms so.last (own_session h ms n x a up so) (fresh_by n ms a why last given k own)))
