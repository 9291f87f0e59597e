-- Each command of a joining, in each way that it can go, is a step of the machine.
use Rattle.std.proofs.Common.{◌≡◌, ℕ, ◌≤◌, ◌==◌, Bool, true, Some, IfSome, Ok, Err, refl, sym, ap, subst, ◌∙◌, arith}
use Rattle.std.proofs.lemmas.Bool.{cond_both, cond-true, eqb-true}
use Rattle.machine_base.proofs.Puts.{put_here}
use Rattle.cl_base.specs.Sets.{has}
use Rattle.pgr_device.specs.declared.command.PrCommand.{PrCommand}
use Rattle.pgr_device.specs.declared.command.PrCommand.TheVariants as command
use Rattle.pgr_device.specs.declared.command.PrAnswer.TheVariants as answer
use Rattle.pgr_device.specs.Device as pgr
use Rattle.pgr_device.specs.Spc as spc
use Rattle.pgr_device.specs.Spc.{answers, conflict, may_read, carried_out}
use Rattle.seize.specs.declared.kind.JoinResult.TheVariants.{Joined, Late, Fault}
use Rattle.seize.specs.declared.step.JoinStep.{JoinStep}
use Rattle.seize.specs.declared.step.JoinStep.TheVariants.{Register, ReadWord, Ended}
use Rattle.cl_base.specs.Keys.{key_of}
use Rattle.seize.specs.Joining.{JoinState, command_at, command_of, next_step, taken}
use Rattle.device_machine.specs.Phase.{Phase, IsJoining}
use Rattle.device_machine.specs.Device.{Device, registering}
use Rattle.device_machine.specs.Initiator.{Initiator, to_phase, admitted}
use Rattle.device_machine.specs.Sharing as sharing
use Rattle.device_machine.specs.Sharing.{Sharing, Event, Allowed, after, at_device}
use Rattle.device_ties.specs.Devices.{DeviceTied}
use Rattle.device_ties.specs.Commands.{Completion, Answered, Undone, Done, executed, learned}
use Rattle.device_ties.specs.Tasks.{JoinStepTied, JoiningTied, Joins, AtDevice, mark_after}
use Rattle.device_ties.specs.Moves.{IsBy, Moved}
use Rattle.device_ties.proofs.Readings.{reads}
use Rattle.device_ties.proofs.Changes
use Rattle.device_ties.proofs.Ties.{Keeps, joining_after, one_event}

module _ (cluster n : ℕ) (low : 1 ≤ n) (high : n ≤ 32) (s : Sharing) (validated has_joined : Bool) (j : JoinState) (p : pgr.Device)
    (tied : DeviceTied cluster p s.device) (at : AtDevice cluster n s validated has_joined (Joins j)) where
  i : JoiningTied cluster n s j
  i = at.task

  abbrev Goal : pgr.Device → JoinStep → Type 0
  Goal p' next = Moved cluster n s p' (λ u. AtDevice cluster n u (mark_after next validated) (mark_after next has_joined) (Joins (record j { step = next })))

  moves : (e : Event) (v' : Initiator) (d' : Device) (p' : pgr.Device) (next : JoinStep) → IsBy n e → Allowed s e → after s e ≡ at_device s n v' d' → DeviceTied cluster p' d'
      → Keeps (s.node n) v' → v'.valid ≡ mark_after next (s.node n).valid → v'.joined ≡ mark_after next (s.node n).joined → JoinStepTied next v' → Goal p' next
  moves e v' d' p' next own a is dev k valid joined st =
      one_event cluster n s p' (λ u. AtDevice cluster n u (mark_after next validated) (mark_after next has_joined) (Joins (record j { step = next }))) e v' d' own a is dev (record {
        valid = ap (λ (v : Initiator). v.valid) (put_here s.node n v') ∙ valid ∙ ap (mark_after next) at.valid;
        joined = ap (λ (v : Initiator). v.joined) (put_here s.node n v') ∙ joined ∙ ap (mark_after next) at.joined;
        task = joining_after cluster n s (at_device s n v' d') j next v' at.task (put_here s.node n v') k st;
      })

  -- the joining ends, and the device is as it was
  late : (word : ℕ) → IsJoining (s.node n).phase → Goal p (Ended (Late word))
  late word b = moves (sharing.Late n) (to_phase (s.node n) Phase.Over) s.device p (Ended (Late word)) refl b refl tied (record { session = refl; quorum = refl }) refl refl refl

  faults : IsJoining (s.node n).phase → Goal p (Ended Fault)
  faults b = moves (sharing.Late n) (to_phase (s.node n) Phase.Over) s.device p (Ended Fault) refl b refl tied (record { session = refl; quorum = refl }) refl refl refl

  ways : (step : JoinStep) (c : PrCommand) → next_step j step (Err (record {})) ≡ Ended Fault → next_step j step (Ok answer.NoPath) ≡ Ended Fault → IsJoining (s.node n).phase
      → Goal (carried_out p n c).after (Ended Fault) → Goal (carried_out p n c).after (next_step j step (Ok (carried_out p n c).answer)) → (f : Completion) → Goal (executed f p n c) (next_step j step (learned f p n c))
  ways step c err none b lost told Answered =
      cond_both (has p.paths n) (carried_out p n c) (answers p answer.NoPath) (λ o. Goal o.after (next_step j step (Ok o.answer))) (λ _. told) (λ _. subst (λ x. Goal p x) (sym none) (faults b))
  ways step c err none b lost told Undone = subst (λ x. Goal p x) (sym err) (faults b)
  ways step c err none b lost told Done =
      subst (λ x. Goal (spc.step p n c).after x) (sym err) (cond_both (has p.paths n) (carried_out p n c) (answers p answer.NoPath) (λ o. Goal o.after (Ended Fault)) (λ _. lost) (λ _. faults b))

  own_is : key_of j.cluster j.me ≡ key_of cluster n
  own_is = rw (i.of_cluster, i.me) refl

  -- Register
  register : (s.node n).phase ≡ Phase.Joining → (f : Completion) → Goal (executed f p n (command.Ignore (key_of j.cluster j.me))) (next_step j Register (learned f p n (command.Ignore (key_of j.cluster j.me))))
  register ph = ways Register (command.Ignore (key_of j.cluster j.me)) refl refl (subst IsJoining (sym ph) (omega arith))
      (moves (sharing.Enter_lost n) (to_phase (s.node n) Phase.Over) (registering s.device n) _ (Ended Fault) refl ph refl dev (record { session = refl; quorum = refl }) refl refl refl)
      (moves (sharing.Enter n) (to_phase (s.node n) Phase.Entered) (registering s.device n) _ ReadWord refl ph refl dev (record { session = refl; quorum = refl }) refl refl refl)
    where
      dev : DeviceTied cluster (carried_out p n (command.Ignore (key_of j.cluster j.me))).after (registering s.device n)
      dev = subst (λ k. DeviceTied cluster (carried_out p n (command.Ignore k)).after (registering s.device n)) (sym own_is) (Changes.registered cluster n low high p s.device tied)

  -- ReadWord
  word_is : carried_out p n command.Word ≡ answers p (answer.Word p.word)
  word_is = cond-true (may_read p.registrations n p.reservation) (answers p (answer.Word p.word)) (conflict p) (reads p.registrations n p.reservation s.device.reserved s.device.holder tied.held)

  read_word : (s.node n).phase ≡ Phase.Entered → (f : Completion) → Goal (executed f p n command.Word) (next_step j ReadWord (learned f p n command.Word))
  read_word ph = ways ReadWord command.Word refl refl b (subst (λ o. Goal o.after (Ended Fault)) (sym word_is) (faults b))
      (subst (λ o. Goal o.after (next_step j ReadWord (Ok o.answer))) (sym word_is)
      (cond_both (p.word == j.epoch) Joined (Late p.word) (λ r. Goal p (Ended r)) admits (λ _. late p.word b)))
    where
      b : IsJoining (s.node n).phase
      b = subst IsJoining (sym ph) (omega arith)

      admits : (p.word == j.epoch) ≡ true → Goal p (Ended Joined)
      admits h = moves (sharing.Admit n) (admitted (s.node n)) s.device p (Ended Joined) refl (ph, sym tied.word ∙ eqb-true p.word j.epoch h ∙ sym i.session) refl tied
          (record { session = refl; quorum = refl }) refl refl refl

  at_step : (step : JoinStep) → JoinStepTied step (s.node n) → IfSome (command_at j step) (λ c. (f : Completion) → Goal (executed f p n c) (next_step j step (learned f p n c)))
  at_step Register st = register st
  at_step ReadWord st = read_word st
  at_step (Ended result) st = tt

  pub carried : (f : Completion) (c : PrCommand) → command_of j ≡ Some c
      → Moved cluster n s (executed f p n c)
      (λ u. AtDevice cluster n u (mark_after (taken j (learned f p n c)).step validated) (mark_after (taken j (learned f p n c)).step has_joined) (Joins (taken j (learned f p n c))))
  carried f c e = of_command (at_step j.step i.step)
    where
      of_command : IfSome (command_at j j.step) (λ x. (g : Completion) → Goal (executed g p n x) (next_step j j.step (learned g p n x))) → Goal (executed f p n c) (next_step j j.step (learned f p n c))
      of_command h = (subst (λ o. IfSome o (λ x. (g : Completion) → Goal (executed g p n x) (next_step j j.step (learned g p n x)))) e h) f
