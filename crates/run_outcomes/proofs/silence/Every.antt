-- In each phase an attempt waits exactly for those other members of which an answer is missing by the lines.
use Rattle.std.specs.Prelude.{ℕ, ◌==◌, ◌&&◌, ◌||◌, ◌≡◌, ◌≢◌, ◌≤◌, nat_le, not, if◌then◌else◌, Bool, true, false, List, length}
use Rattle.std.specs.List.{list_any}
use Rattle.std.proofs.Common.{arith, refl, sym, ap, subst, ◌∙◌}
use Rattle.attempt_laws.proofs.Told.{is_among}
use Rattle.attempt_laws.specs.Staying.{IsBefore}
use Rattle.cl_base.specs.Sets.{has}
use Rattle.cl_base.specs.declared.header.Header.{Header}
use Rattle.cmm_attempt.proofs.Basics.{and_cases, false_true}
use Rattle.cmm_attempt.specs.Attempts as attempts
use Rattle.cmm_attempt.specs.Attempts.{AttemptState, is_missing, is_missing_in, is_over}
use Rattle.cmm_attempt.specs.declared.phase.Phase.{Phase}
use Rattle.cmm_attempt.specs.declared.phase.Phase.TheVariants.{Choosing, Collecting, Installing, Over, SeizingOthers, SeizingVotes}
use Rattle.history.specs.Attempts.{has_readied, is_unanswered, seize_questions}
use Rattle.history.specs.Letters.{sends}
use Rattle.history.specs.Moment.{Moment}
use Rattle.history.specs.Names as name
use Rattle.history.specs.Order.{since}
use Rattle.history.specs.Seizing.{is_attempt}
use Rattle.history.specs.Setting.{all_to, coordinator}
use Rattle.node_model.specs.declared.node.UpNode.{UpNode}
use Rattle.run_history.specs.Happenings.{all_happened}
use Rattle.run_history.specs.Scenes.{Scene, first_scene}
use Rattle.run_messages.proofs.Reaching.{IsSmall}
use Rattle.run_packets.specs.installs.Passing.{IsMember}
use Rattle.run_seizings.specs.Seized.{has_installed}
use Rattle.world_model.specs.First.{first_cluster}
use Rattle.run_outcomes.proofs.phases.LiveRuns.{none_is_over}
use Rattle.run_outcomes.proofs.phases.Promised.{HasIt, has_it}
use Rattle.run_outcomes.proofs.phases.Taken.{way_of}
use Rattle.run_outcomes.proofs.silence.Lacks.{lacks_so}
use Rattle.run_outcomes.proofs.silence.Lines.{any_asked}
use Rattle.run_outcomes.proofs.silence.Outgone.{Of, Seen}
use Rattle.run_outcomes.proofs.silence.OutgoneRuns.{installs_went_out, seen_at}
use Rattle.run_outcomes.proofs.silence.ReadyRuns.{run_readied}
use Rattle.run_outcomes.proofs.silence.Told.{Here, here, missing_are_told}
use Rattle.run_outcomes.specs.silence.Asked.{is_other_node}
use Rattle.run_outcomes.specs.silence.AskedCourses.{to_install}
use Rattle.run_outcomes.specs.silence.Laws.{AwaitedAreTold, lacks_answer}
use Rattle.run_outcomes.specs.tasks.Laws.{SeizedsAreTold}

by_phase : (P : Type 0) (p : Phase) → is_over p ≡ false → (IsBefore p → P) → (p ≡ Installing → P) → P
by_phase P Collecting live f g = f tt
by_phase P Choosing live f g = f tt
by_phase P SeizingVotes live f g = f tt
by_phase P SeizingOthers live f g = f tt
by_phase P Installing live f g = g refl
by_phase P Over live f g = absurd (false_true (sym live))

unless : (b : Bool) → not b ≡ true → b ≡ false
unless true h = absurd (false_true h)
unless false h = refl

both : (a b : Bool) → a ≡ true → b ≡ true → (a && b) ≡ true
both true b h k = k
both false b h k = absurd (false_true h)

or_first : (a b : Bool) → a ≡ true → (a || b) ≡ true
or_first true b h = refl
or_first false b h = absurd (false_true h)

or_second : (a b : Bool) → b ≡ true → (a || b) ≡ true
or_second true b h = refl
or_second false b h = h

low : (m : ℕ) → nat_le m 32 ≡ true → m ≤ 32
low m h = grind arith

apart_from : (m c : ℕ) → (m == c) ≡ false → m ≢ c
apart_from m c h is = grind arith

-- another node of its plan is another member of it by the lines
pub member_of_lines : (h : Header) (ms : List Moment) (n : ℕ) (x : UpNode) (a : AttemptState) (m : ℕ) → Of h ms n x a → is_other_node a.plan m ≡ true → IsMember ms a.plan.epoch m
member_of_lines h ms n x a m of is =
    (low m range.0, subst (λ v. has v m ≡ true) (sym of.so.of.1) range.1, apart_from m (coordinator a.plan.epoch) (ap (λ c. m == c) (sym of.coordinates) ∙ unless (m == a.plan.coordinator) two.1))
  where
    two : (list_any (λ k. k == m) a.plan.nodes ≡ true) × (not (m == a.plan.coordinator) ≡ true)
    two = and_cases (list_any (λ k. k == m) a.plan.nodes) (not (m == a.plan.coordinator)) is

    range : (nat_le m 32 ≡ true) × (has a.plan.members m ≡ true)
    range = and_cases (nat_le m 32) (has a.plan.members m) (sym (is_among a.plan.members 32 m) ∙ (ap (list_any (λ k. k == m)) (sym of.nodes) ∙ two.0))

pub awaited_are_told : SeizedsAreTold → AwaitedAreTold
awaited_are_told seizeds h cells hs last nodes few small disks may shaped native boots left n a at m is =
    by_phase (lacks_answer h e s.moments m ≡ is_missing a m) a.phase (none_is_over h cells hs few small may n a at)
    (λ before. missing_are_told seizeds h cells hs last few small disks may shaped native left n a at before m is)
    (λ installs. by_values installs (lacks_answer h e s.moments m) (is_missing a m) refl refl)
  where
    s : Scene
    s = all_happened (first_cluster h) (first_scene h cells) hs

    e : ℕ
    e = a.plan.epoch

    size : IsSmall h
    size = record { few = few; small = small }

    at_m : Here h s a m
    at_m = here h cells hs last few small disks may shaped native left n a at m is

    it : HasIt (s.nodes.node n) a
    it = has_it (s.nodes.node n) a at

    seen : Seen h s
    seen = seen_at h cells s size (record { happenings = hs; may = may; is = refl })

    of : Of h s.moments n it.x a
    of = seen.attempts left n it.x a it.up it.has

    member : IsMember s.moments e m
    member = member_of_lines h s.moments n it.x a m of at_m.member

    sent : a.phase ≡ Installing → list_any (sends (coordinator e) m name.Install) (since (is_attempt e) s.moments) ≡ true
    sent installs =
        any_asked e (to_install m) s.moments refl
        ∙ (installs_went_out h cells hs nodes size may boots).gone left e m (way_of s.nodes s.moments n it.x a seen.ways it.up it.has) (subst (λ k. has_installed k e s.moments ≡ true) (sym of.so.own) (of.so.installs installs)) member

    unready : a.phase ≡ Installing → is_missing a m ≡ true → has_readied e s.moments m ≡ false
    unready installs missing = by_value (has_readied e s.moments m) refl
      where
        lacks : attempts.has_readied a.readies m ≡ false
        lacks = unless (attempts.has_readied a.readies m) (sym (ap (is_missing_in a m) installs ∙ ap (λ b. if b then not a.own_ready else not (attempts.has_readied a.readies m)) at_m.other) ∙ missing)

        by_value : (b : Bool) → has_readied e s.moments m ≡ b → b ≡ false
        by_value true came = absurd (false_true (sym lacks ∙ (run_readied h cells hs size may native n it.x a it.up it.has).1 m at_m.member came))
        by_value false came = refl

    lacking : a.phase ≡ Installing → is_missing a m ≡ true → lacks_answer h e s.moments m ≡ true
    lacking installs missing =
        or_second (is_unanswered e s.moments m name.Collect) (is_unanswered e s.moments m name.Install || list_any (is_unanswered e s.moments m) (seize_questions (all_to (length h.devices))))
        (or_first (is_unanswered e s.moments m name.Install) (list_any (is_unanswered e s.moments m) (seize_questions (all_to (length h.devices))))
        (both (list_any (sends (coordinator e) m name.Install) (since (is_attempt e) s.moments)) (not (has_readied e s.moments m)) (sent installs) (ap not (unready installs missing))))

    by_values : a.phase ≡ Installing → (b c : Bool) → lacks_answer h e s.moments m ≡ b → is_missing a m ≡ c → lacks_answer h e s.moments m ≡ is_missing a m
    by_values installs true c told missing = told ∙ sym (lacks_so s.moments a m (length h.devices) at_m.known is at_m.other told)
    by_values installs false true told missing = absurd (false_true (sym told ∙ lacking installs missing))
    by_values installs false false told missing = told ∙ sym missing
