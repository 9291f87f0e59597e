-- In each run the lines tell until when a coordinator acts for its attempt, and whether it seizes devices.
use Rattle.std.specs.Prelude.{ℕ, ◌==◌, ◌&&◌, ◌≡◌, ◌<◌, not, Bool, true, false, List, Some}
use Rattle.std.proofs.Common.{arith, refl, sym, ap, subst, ◌∙◌}
use Rattle.attempt_laws.specs.Staying.{IsBefore}
use Rattle.cmm_attempt.proofs.Basics.{false_true}
use Rattle.cmm_attempt.specs.Attempts.{is_over}
use Rattle.cmm_attempt.specs.declared.phase.Phase.{Phase}
use Rattle.cmm_attempt.specs.declared.phase.Phase.TheVariants.{Choosing, Collecting, Installing, Over, SeizingOthers, SeizingVotes}
use Rattle.history.specs.Member as member
use Rattle.history.specs.Moment.{Moment}
use Rattle.history.specs.Queue as told
use Rattle.history.specs.Seizing.{acts_for, is_number}
use Rattle.history.specs.Setting.{coordinator}
use Rattle.history.specs.UnderWay.{is_under_way}
use Rattle.node_model.specs.Attempts.{is_choosing}
use Rattle.node_model.specs.Seats.{session_of}
use Rattle.run_history.specs.Happenings.{all_happened}
use Rattle.run_history.specs.Scenes.{Scene, first_scene}
use Rattle.run_outcomes.specs.saves.Kept.{IsAt, Rests, RestsIn}
use Rattle.run_outcomes.proofs.saves.Kept.{run_kept}
use Rattle.run_seizings.specs.Seized.{AttemptIn, AttemptSo, has_installed}
use Rattle.run_seizings.specs.Sites.{UpIn, UpSo}
use Rattle.run_seizings.proofs.Runs.{run_seizes}
use Rattle.world_model.specs.First.{first_cluster}
use Rattle.run_outcomes.proofs.phases.LiveRuns.{none_is_over}
use Rattle.run_outcomes.specs.phases.Laws.{PromisesAreTold, PromisesTold, SeizingsAreTold, has_gathered, is_installing, is_seizing}
use Rattle.run_outcomes.proofs.phases.Promised.{HasIt, has_it, live_are_told}
use Rattle.run_outcomes.proofs.phases.Runs.{knows_at, ways_at}
use Rattle.run_outcomes.proofs.phases.Taken.{way_of}

itself : (k : ℕ) → (k == k) ≡ true
itself k = grind arith

acts_by : (n e : ℕ) (ms : List Moment) (b : Bool) → member.session_of n ms ≡ Some e → has_installed n e ms ≡ b → acts_for n e ms ≡ not b
acts_by n e ms b session is = ap (λ o. is_number e o && not (has_installed n e ms)) session ∙ (ap (λ t. t && not (has_installed n e ms)) (itself e) ∙ ap not is)

-- by its phase, where it neither waits for votes nor is over
installed_by : (n : ℕ) (e : ℕ) (ms : List Moment) (p : Phase) → is_over p ≡ false → (IsBefore p → has_installed n e ms ≡ false) → (p ≡ Installing → has_installed n e ms ≡ true) → has_installed n e ms ≡ is_installing p
installed_by n e ms Collecting live f g = f tt
installed_by n e ms Choosing live f g = f tt
installed_by n e ms SeizingVotes live f g = f tt
installed_by n e ms SeizingOthers live f g = f tt
installed_by n e ms Installing live f g = g refl
installed_by n e ms Over live f g = absurd (false_true (sym live))

seizes_by : (p : Phase) → is_over p ≡ false → is_choosing p ≡ false → (not (is_installing p) && true && has_gathered p) ≡ is_seizing p
seizes_by Collecting live rests = refl
seizes_by Choosing live rests = absurd (false_true (sym rests))
seizes_by SeizingVotes live rests = refl
seizes_by SeizingOthers live rests = refl
seizes_by Installing live rests = refl
seizes_by Over live rests = absurd (false_true (sym live))

pub seizings_are_told : SeizingsAreTold
seizings_are_told h cells hs few small may native n a at =
    record {
      acts = acts;
      seizes = ap (λ t. t && is_under_way e s.moments && told.all_promised e s.moments) acts
          ∙ (ap (λ t. not (is_installing a.phase) && t && told.all_promised e s.moments) way ∙ (ap (λ t. not (is_installing a.phase) && true && t) promised.phase ∙ seizes_by a.phase live rests));
    }
  where
    live : is_over a.phase ≡ false
    live = none_is_over h cells hs few small may n a at

    s : Scene
    s = all_happened (first_cluster h) (first_scene h cells) hs

    e : ℕ
    e = a.plan.epoch

    it : HasIt (s.nodes.node n) a
    it = has_it (s.nodes.node n) a at

    up : UpSo h s.moments n it.x
    up = subst (UpIn h s.moments n) it.up ((run_seizes h cells hs few small may).seizing.sites n).up

    so : AttemptSo h s.moments n (session_of it.x) a
    so = subst (AttemptIn h s.moments n (session_of it.x)) it.has up.attempt

    session : member.session_of n s.moments ≡ Some e
    session = up.session (subst (λ q. 0 < q) so.epoch so.some) ∙ ap Some (sym so.epoch)

    acts : acts_for (coordinator e) e s.moments ≡ not (is_installing a.phase)
    acts = ap (λ k. acts_for k e s.moments) so.own ∙ acts_by n e s.moments (is_installing a.phase) session (installed_by n e s.moments a.phase live so.before so.installs)

    way : is_under_way e s.moments ≡ true
    way = way_of s.nodes s.moments n it.x a (ways_at (first_cluster h) s (knows_at h cells s (record { few = few; small = small }) (record { happenings = hs; may = may; is = refl }))) it.up it.has

    promised : PromisesTold a s.moments
    promised = live_are_told h cells hs few small may native n a at live

    rests : is_choosing a.phase ≡ false
    rests = subst RestsIn it.has (subst (IsAt Rests) it.up ((run_kept h cells hs few small may).rests n))

pub promises_are_told : PromisesAreTold
promises_are_told h cells hs few small may native n a at = live_are_told h cells hs few small may native n a at (none_is_over h cells hs few small may n a at)
