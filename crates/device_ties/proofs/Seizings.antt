-- Each command of a seizing, in each way that it can go, is a step of the machine.
use Rattle.std.proofs.Common.{◌≡◌, ℕ, ◌+◌, ◌<◌, ◌≤◌, ◌==◌, nat_lt, ◌⊎◌, inl, inr, Bool, true, false, ◌&&◌, ◌||◌, List, [], ◌∷◌, Option, Some, None, IfSome, Ok, Err, refl, sym, ap, subst, ◌∙◌, arith}
use Rattle.std.specs.Prelude.{if◌then◌else◌}
use Rattle.std.proofs.lemmas.Bool.{cond_both, cond-true, cond-false, and_parts, and_cases, ltb-true, eqb-true}
use Rattle.machine_base.proofs.Puts.{put_cases, put_here, put_there}
use Rattle.cl_base.specs.Sets.{has}
use Rattle.cl_base.specs.Seizings.{SeizeResult}
use Rattle.cl_base.specs.declared.seizing.SeizeEnd.TheVariants.{Held, NotRegistered, Greater, Expelled, Contended, Fault}
use Rattle.pgr_device.specs.declared.kind.PrKind.TheVariants.{WriteExclusiveRegistrantsOnly}
use Rattle.pgr_device.specs.declared.registration.Reservation.{Reservation}
use Rattle.pgr_device.specs.declared.command.PrCommand.{PrCommand}
use Rattle.pgr_device.specs.declared.command.PrCommand.TheVariants as command
use Rattle.pgr_device.specs.declared.command.PrAnswer.TheVariants as answer
use Rattle.pgr_device.specs.Device as pgr
use Rattle.pgr_device.specs.Registered.{registered_key, has_key, keys_of}
use Rattle.pgr_device.specs.Spc as spc
use Rattle.pgr_device.specs.Spc.{Outcome, answers, good, conflict, shows_key, may_read, may_write, carried_out}
use Rattle.seize.specs.declared.kind.SeizeKind.TheVariants.{Vote}
use Rattle.seize.specs.declared.step.SeizeStep.{SeizeStep}
use Rattle.seize.specs.declared.step.SeizeStep.TheVariants.{Check, Register, ReadWord, Swap, Reserve, ReadKeys, Preempt, Confirm, Ended}
use Rattle.seize.specs.Answers.{is_good, is_conflict}
use Rattle.cl_base.specs.Keys.{key_of}
use Rattle.seize.specs.Keys as seize
use Rattle.seize.specs.Seizing.{SeizeState, own_key, command_at, command_of, compared, swapped, cleared, next_step, taken}
use Rattle.seize.specs.Shows.{is_vote}
use Rattle.device_machine.specs.Phase.{Phase, IsSeizing, AsksWord}
use Rattle.device_machine.specs.Device.{Device, LetsWrite, registering, wording, reserving, preempting}
use Rattle.device_machine.specs.Initiator.{Initiator, to_phase, expecting, marking, marking_lost, aiming, holding, rejecting, ending}
use Rattle.device_machine.specs.Attempt.{holding_for}
use Rattle.device_machine.specs.Sharing as sharing
use Rattle.device_machine.specs.Sharing.{Sharing, Event, Allowed, after, at_device, at_held}
use Rattle.device_machine.specs.Growth.{AttemptGrows}
use Rattle.device_machine.proofs.Growth.{attempt_same}
use Rattle.device_ties.specs.Devices.{OwnKeys, DeviceTied}
use Rattle.device_ties.specs.Commands.{Completion, Answered, Undone, Done, executed, learned}
use Rattle.device_ties.specs.Tasks.{is_member, EndedTied, StepTied, SeizingTied, Seizes, AtDevice}
use Rattle.device_ties.specs.Moves.{IsBy, Moved}
use Rattle.device_ties.proofs.Registrations.{reads_own}
use Rattle.device_ties.proofs.Readings.{IsStranger, all_members, stranger, reads, lets}
use Rattle.device_ties.proofs.Changes
use Rattle.device_ties.proofs.Ties.{Keeps, seizing_after, one_event}

-- the machine has it too that the record calls the key not validated, where the next command registers it
abbrev pub IsDistrusted : SeizeStep → Initiator → Type 0
IsDistrusted Register v = v.phase ≡ Phase.Untrusted
IsDistrusted step v = Unit {0}

module _ (cluster n : ℕ) (low : 1 ≤ n) (high : n ≤ 32) (s : Sharing) (validated has_joined : Bool) (t : SeizeState) (p : pgr.Device)
    (tied : DeviceTied cluster p s.device) (at : AtDevice cluster n s validated has_joined (Seizes t)) where
  i : SeizingTied cluster n s t
  i = at.task

  abbrev Goal : pgr.Device → SeizeStep → Type 0
  Goal p' next = Moved cluster n s p' (λ u. AtDevice cluster n u validated has_joined (Seizes (record t { step = next })))

  -- node n becomes v'
  at_after : (u : Sharing) (v' : Initiator) (next : SeizeStep) → u.node n ≡ v' → ((q : ℕ) → AttemptGrows (s.attempt q) (u.attempt q)) → Keeps (s.node n) v'
      → v'.valid ≡ (s.node n).valid → v'.joined ≡ (s.node n).joined → StepTied t.kind t.cluster next v' → AtDevice cluster n u validated has_joined (Seizes (record t { step = next }))
  at_after u v' next e g k valid joined st = record {
    valid = ap (λ (v : Initiator). v.valid) e ∙ valid ∙ at.valid;
    joined = ap (λ (v : Initiator). v.joined) e ∙ joined ∙ at.joined;
    task = seizing_after cluster n s u t next v' at.task e g k (λ _. valid) st;
  }

  moves : (e : Event) (v' : Initiator) (d' : Device) (p' : pgr.Device) (next : SeizeStep) → IsBy n e → Allowed s e → after s e ≡ at_device s n v' d' → DeviceTied cluster p' d'
      → Keeps (s.node n) v' → v'.valid ≡ (s.node n).valid → v'.joined ≡ (s.node n).joined → StepTied t.kind t.cluster next v' → Goal p' next
  moves e v' d' p' next own a is dev k valid joined st = one_event cluster n s p' (λ u. AtDevice cluster n u validated has_joined (Seizes (record t { step = next }))) e v' d' own a is dev
      (at_after (at_device s n v' d') v' next (put_here s.node n v') (λ q. attempt_same (s.attempt q)) k valid joined st)

  -- the seizing ends, and the device is as it was
  over : (ending (s.node n)).past.ended (s.node n).session ≡ true
  over = put_here (s.node n).past.ended (s.node n).session true

  ends : (r : SeizeResult) → IsSeizing (s.node n).phase → EndedTied r (ending (s.node n)) → Goal p (Ended r)
  ends r b e = moves (sharing.Fail n) (ending (s.node n)) s.device p (Ended r) refl b refl tied (record { session = refl; quorum = refl }) refl refl e

  faults : IsSeizing (s.node n).phase → Goal p (Ended Fault)
  faults b = ends Fault b (refl, over, tt)

  -- the ways that a command can go: what is to be shown where it is carried out, its answer being lost or told
  ways : (step : SeizeStep) (c : PrCommand) → next_step t step (Err (record {})) ≡ Ended Fault → next_step t step (Ok answer.NoPath) ≡ Ended Fault → IsSeizing (s.node n).phase
      → Goal (carried_out p n c).after (Ended Fault) → Goal (carried_out p n c).after (next_step t step (Ok (carried_out p n c).answer)) → (f : Completion) → Goal (executed f p n c) (next_step t step (learned f p n c))
  ways step c err none b lost told Answered =
      cond_both (has p.paths n) (carried_out p n c) (answers p answer.NoPath) (λ o. Goal o.after (next_step t step (Ok o.answer))) (λ _. told) (λ _. subst (λ x. Goal p x) (sym none) (faults b))
  ways step c err none b lost told Undone = subst (λ x. Goal p x) (sym err) (faults b)
  ways step c err none b lost told Done =
      subst (λ x. Goal (spc.step p n c).after x) (sym err) (cond_both (has p.paths n) (carried_out p n c) (answers p answer.NoPath) (λ o. Goal o.after (Ended Fault)) (λ _. lost) (λ _. faults b))

  at_phase : (k : Phase) → (s.node n).phase ≡ k → IsSeizing k → IsSeizing (s.node n).phase
  at_phase k e b = subst IsSeizing (sym e) b

  own_is : own_key t ≡ key_of cluster n
  own_is = rw (i.of_cluster, i.me) refl

  own_there : seize.has_key (own_key t) (keys_of p.registrations) ≡ s.device.keys n
  own_there = ap (λ k. seize.has_key k (keys_of p.registrations)) own_is ∙ reads_own cluster p.registrations n tied.own ∙ tied.keys n

  -- Check
  check : (s.node n).phase ≡ Phase.Asked → t.kind ≡ Vote → (f : Completion) → Goal (executed f p n command.Keys) (next_step t Check (learned f p n command.Keys))
  check ph vote = ways Check command.Keys refl refl b (faults b)
      (cond_both (seize.has_key (own_key t) (keys_of p.registrations) && t.valid) ReadWord (Ended (NotRegistered (keys_of p.registrations))) (Goal p) registered rejected)
    where
      b : IsSeizing (s.node n).phase
      b = at_phase Phase.Asked ph (omega arith, omega arith)

      quorum : (s.node n).quorum ≡ true
      quorum = i.kind ∙ ap is_vote vote

      registered : (seize.has_key (own_key t) (keys_of p.registrations) && t.valid) ≡ true → Goal p ReadWord
      registered h = let parts = and_parts (seize.has_key (own_key t) (keys_of p.registrations)) t.valid h in
          moves (sharing.Check n) (to_phase (s.node n) Phase.Keyed) s.device p ReadWord refl (ph, quorum, sym own_there ∙ parts.0, i.valid vote ∙ parts.1) refl tied
          (record { session = refl; quorum = refl }) refl refl refl

      absent : (seize.has_key (own_key t) (keys_of p.registrations) ≡ false) ⊎ (t.valid ≡ false) → (s.device.keys n ≡ false) ⊎ ((s.node n).valid ≡ false)
      absent (inl h) = inl (sym own_there ∙ h)
      absent (inr h) = inr (i.valid vote ∙ h)

      rejected : (seize.has_key (own_key t) (keys_of p.registrations) && t.valid) ≡ false → Goal p (Ended (NotRegistered (keys_of p.registrations)))
      rejected h = moves (sharing.Reject n) (rejecting (s.node n)) s.device p (Ended (NotRegistered (keys_of p.registrations))) refl
          (ph, quorum, absent (and_cases (seize.has_key (own_key t) (keys_of p.registrations)) t.valid h)) refl tied
          (record { session = refl; quorum = refl }) refl refl
          (refl, put_here (s.node n).past.ended (s.node n).session true, put_here (s.node n).past.unregistered (s.node n).session true)

  -- Register
  register : (s.node n).phase ≡ Phase.Untrusted → (f : Completion) → Goal (executed f p n (command.Ignore (own_key t))) (next_step t Register (learned f p n (command.Ignore (own_key t))))
  register ph = ways Register (command.Ignore (own_key t)) refl refl (at_phase Phase.Untrusted ph (omega arith, omega arith))
      (moves (sharing.Register_lost n) (ending (s.node n)) (registering s.device n) _ (Ended Fault) refl ph refl dev (record { session = refl; quorum = refl }) refl refl (refl, over, tt))
      (moves (sharing.Register n) (to_phase (s.node n) Phase.Keyed) (registering s.device n) _ ReadWord refl ph refl dev (record { session = refl; quorum = refl }) refl refl refl)
    where
      dev : DeviceTied cluster (carried_out p n (command.Ignore (own_key t))).after (registering s.device n)
      dev = subst (λ k. DeviceTied cluster (carried_out p n (command.Ignore k)).after (registering s.device n)) (sym own_is) (Changes.registered cluster n low high p s.device tied)

  -- the word that was told, by a reading or by a swap that found another one
  compare : AsksWord (s.node n).phase → Goal p (compared t (Some p.word))
  compare asks = cond_both (nat_lt p.word t.epoch) (Swap p.word) (if p.word == t.epoch then Reserve else Ended (Greater p.word)) (Goal p) less (λ _. cond_both (p.word == t.epoch) Reserve (Ended (Greater p.word)) (Goal p) equal greater)
    where
      less : nat_lt p.word t.epoch ≡ true → Goal p (Swap p.word)
      less h = moves (sharing.Word_less n) (expecting (s.node n) s.device.word) s.device p (Swap p.word) refl
          (asks, let l : p.word < t.epoch = ltb-true p.word t.epoch h in let w : p.word ≡ s.device.word = tied.word in let e : (s.node n).session ≡ t.epoch = i.session in omega arith) refl tied
          (record { session = refl; quorum = refl }) refl refl (refl, sym tied.word)

      equal : (p.word == t.epoch) ≡ true → Goal p Reserve
      equal h = moves (sharing.Word_same n) (to_phase (s.node n) Phase.Marked) s.device p Reserve refl (asks, sym tied.word ∙ eqb-true p.word t.epoch h ∙ sym i.session) refl tied
          (record { session = refl; quorum = refl }) refl refl refl

      greater : (p.word == t.epoch) ≡ false → Goal p (Ended (Greater p.word))
      greater h = ends (Greater p.word) (omega (arith, asks.0), omega (arith, asks.1)) (refl, over, tt)

  -- everyone reads the word
  word_is : carried_out p n command.Word ≡ answers p (answer.Word p.word)
  word_is = cond-true (may_read p.registrations n p.reservation) (answers p (answer.Word p.word)) (conflict p) (reads p.registrations n p.reservation s.device.reserved s.device.holder tied.held)

  told_word : (step : SeizeStep) → Goal p (next_step t step (Ok (answer.Word p.word))) → Goal (carried_out p n command.Word).after (next_step t step (Ok (carried_out p n command.Word).answer))
  told_word step g = subst (λ o. Goal o.after (next_step t step (Ok o.answer))) (sym word_is) g

  lost_word : Goal p (Ended Fault) → Goal (carried_out p n command.Word).after (Ended Fault)
  lost_word g = subst (λ o. Goal o.after (Ended Fault)) (sym word_is) g

  -- ReadWord
  read_word : (s.node n).phase ≡ Phase.Keyed → (f : Completion) → Goal (executed f p n command.Word) (next_step t ReadWord (learned f p n command.Word))
  read_word ph = ways ReadWord command.Word refl refl b (lost_word (faults b)) (told_word ReadWord (compare (subst AsksWord (sym ph) (omega arith, omega arith))))
    where
      b : IsSeizing (s.node n).phase
      b = at_phase Phase.Keyed ph (omega arith, omega arith)

  -- Swap
  swap : (expected : ℕ) → (s.node n).phase ≡ Phase.Swapping → (s.node n).expected ≡ expected → (f : Completion)
      → Goal (executed f p n (command.Swap expected t.epoch)) (next_step t (Swap expected) (learned f p n (command.Swap expected t.epoch)))
  swap expected ph expects = ways (Swap expected) (command.Swap expected t.epoch) refl refl b
      (cond_both (may_write p.registrations n p.reservation) (spc.swapping p expected t.epoch) (conflict p) (λ o. Goal o.after (Ended Fault))
      (λ w. cond_both (p.word == expected) (good (record p { word = t.epoch })) (answers p (answer.Miscompare p.word)) (λ o. Goal o.after (Ended Fault))
      (λ h. moves (sharing.Swap_lost n) (marking_lost (s.node n)) (wording s.device (s.node n).session) _ (Ended Fault) refl (ph, found h, lets_it w) refl dev
      (record { session = refl; quorum = refl }) refl refl (refl, over, tt))
      (λ h. faults b))
      (λ w. faults b))
      (cond_both (may_write p.registrations n p.reservation) (spc.swapping p expected t.epoch) (conflict p) (λ o. Goal o.after (swapped t expected (Ok o.answer)))
      (λ w. cond_both (p.word == expected) (good (record p { word = t.epoch })) (answers p (answer.Miscompare p.word)) (λ o. Goal o.after (swapped t expected (Ok o.answer)))
      (λ h. moves (sharing.Swap n) (marking (s.node n)) (wording s.device (s.node n).session) _ Reserve refl (ph, found h, lets_it w) refl dev
      (record { session = refl; quorum = refl }) refl refl refl)
      (λ h. subst (λ (x : Option ℕ). Goal p (compared t x)) (sym (cond-false (p.word == expected) None (Some p.word) h)) (compare (subst AsksWord (sym ph) (omega arith, omega arith)))))
      (λ w. ends Expelled b (refl, over, tt)))
    where
      b : IsSeizing (s.node n).phase
      b = at_phase Phase.Swapping ph (omega arith, omega arith)

      found : (p.word == expected) ≡ true → s.device.word ≡ (s.node n).expected
      found h = sym tied.word ∙ eqb-true p.word expected h ∙ sym expects

      lets_it : may_write p.registrations n p.reservation ≡ true → LetsWrite s.device n
      lets_it w = lets p.registrations n p.reservation s.device tied.held (tied.keys n) w

      dev : DeviceTied cluster (record p { word = t.epoch }) (wording s.device (s.node n).session)
      dev = subst (λ w. DeviceTied cluster (record p { word = w }) (wording s.device (s.node n).session)) i.session (Changes.swapped cluster n low high p s.device tied (s.node n).session)

  -- Reserve and Preempt are tried where the answer is good or conflict, which is all that the device answers to them
  abbrev IsTried : Outcome → Type 0
  IsTried o = (is_good (Ok o.answer) || is_conflict (Ok o.answer)) ≡ true

  reserve_tried : (r : Option Reservation) → IsTried (spc.reserving p n WriteExclusiveRegistrantsOnly r)
  reserve_tried None = refl
  reserve_tried (Some held) = cond_both _ (good p) (conflict p) IsTried (λ _. refl) (λ _. refl)

  tried : (next : SeizeStep) (o : Outcome) → IsTried o → Goal o.after next → Goal o.after (if is_good (Ok o.answer) || is_conflict (Ok o.answer) then next else Ended Fault)
  tried next o h g = subst (λ x. Goal o.after x) (sym (cond-true (is_good (Ok o.answer) || is_conflict (Ok o.answer)) next (Ended Fault) h)) g

  -- Reserve
  reserve : (s.node n).phase ≡ Phase.Marked → (f : Completion)
      → Goal (executed f p n (command.Reserve WriteExclusiveRegistrantsOnly (own_key t))) (next_step t Reserve (learned f p n (command.Reserve WriteExclusiveRegistrantsOnly (own_key t))))
  reserve ph = ways Reserve (command.Reserve WriteExclusiveRegistrantsOnly (own_key t)) refl refl (at_phase Phase.Marked ph (omega arith, omega arith))
      (moves (sharing.Reserve_lost n) (ending (s.node n)) (reserving s.device n) _ (Ended Fault) refl ph refl dev (record { session = refl; quorum = refl }) refl refl (refl, over, tt))
      (tried (ReadKeys 1) (carried_out p n (command.Reserve WriteExclusiveRegistrantsOnly (own_key t)))
      (cond_both (shows_key (registered_key p.registrations n) (own_key t)) (spc.reserving p n WriteExclusiveRegistrantsOnly p.reservation) (conflict p) IsTried (λ _. reserve_tried p.reservation) (λ _. refl))
      (moves (sharing.Reserve n) (to_phase (s.node n) Phase.Reserved) (reserving s.device n) _ (ReadKeys 1) refl ph refl dev (record { session = refl; quorum = refl }) refl refl refl))
    where
      dev : DeviceTied cluster (carried_out p n (command.Reserve WriteExclusiveRegistrantsOnly (own_key t))).after (reserving s.device n)
      dev = subst (λ k. DeviceTied cluster (carried_out p n (command.Reserve WriteExclusiveRegistrantsOnly k)).after (reserving s.device n)) (sym own_is) (Changes.reserved cluster n low high p s.device tied)

  -- ReadKeys
  own_of : OwnKeys t.cluster p.registrations
  own_of = subst (λ c. OwnKeys c p.registrations) (sym i.of_cluster) tied.own

  member_is : (k : ℕ) (b : Bool) → is_member t.members k ≡ b → (s.attempt (s.node n).session).members k ≡ b
  member_is k b h = ap (λ q. (s.attempt q).members k) i.session ∙ i.members k ∙ h

  read_keys : (reading : ℕ) → (s.node n).phase ≡ Phase.Reserved → (f : Completion) → Goal (executed f p n command.Keys) (next_step t (ReadKeys reading) (learned f p n command.Keys))
  read_keys reading ph = ways (ReadKeys reading) command.Keys refl refl b (faults b)
      (cond_both (seize.has_key (own_key t) (keys_of p.registrations)) (cleared (keys_of p.registrations) reading (seize.first_stranger t.cluster t.members (keys_of p.registrations))) (Ended Expelled) (Goal p)
      (λ own. look (sym own_there ∙ own) (seize.first_stranger t.cluster t.members (keys_of p.registrations)) refl) (λ gone. ends Expelled b (refl, over, tt)))
    where
      b : IsSeizing (s.node n).phase
      b = at_phase Phase.Reserved ph (omega arith, omega arith)

      look : s.device.keys n ≡ true → (found : Option ℕ) → seize.first_stranger t.cluster t.members (keys_of p.registrations) ≡ found → Goal p (cleared (keys_of p.registrations) reading found)
      look own None e = moves (sharing.Clear n) (to_phase (s.node n) Phase.Cleared) s.device p (Confirm (keys_of p.registrations)) refl
          (ph, own, λ k key. member_is k true (all_members t.cluster t.members p.registrations own_of e k (tied.keys k ∙ key))) refl tied (record { session = refl; quorum = refl }) refl refl refl
      look own (Some key) e = cond_both (nat_lt reading 64) (Preempt key reading) (Ended (Contended key)) (Goal p)
          (λ _. aim (stranger t.cluster t.members p.registrations key own_of e)) (λ _. ends (Contended key) b (refl, over, tt))
        where
          aim : IsStranger t.cluster t.members p.registrations key → Goal p (Preempt key reading)
          aim x = moves (sharing.Look n x.node) (aiming (s.node n) x.node) s.device p (Preempt key reading) refl
              (ph, own, sym (tied.keys x.node) ∙ x.registered, member_is x.node false x.outside) refl tied (record { session = refl; quorum = refl }) refl refl (refl, x.key_is)

  -- Preempt
  preempt : (victim reading : ℕ) → (s.node n).phase ≡ Phase.Preempting → victim ≡ key_of t.cluster (s.node n).target → (f : Completion)
      → Goal (executed f p n (command.Preempt WriteExclusiveRegistrantsOnly (own_key t) victim)) (next_step t (Preempt victim reading) (learned f p n (command.Preempt WriteExclusiveRegistrantsOnly (own_key t) victim)))
  preempt victim reading ph is = ways (Preempt victim reading) (command.Preempt WriteExclusiveRegistrantsOnly (own_key t) victim) refl refl (at_phase Phase.Preempting ph (omega arith, omega arith))
      (moves (sharing.Preempt_lost n) (ending (s.node n)) (preempting s.device n (s.node n).target) _ (Ended Fault) refl ph refl dev (record { session = refl; quorum = refl }) refl refl (refl, over, tt))
      (tried (ReadKeys (reading + 1)) (carried_out p n (command.Preempt WriteExclusiveRegistrantsOnly (own_key t) victim))
      (cond_both (shows_key (registered_key p.registrations n) (own_key t)) (spc.preempting p n WriteExclusiveRegistrantsOnly victim) (conflict p) IsTried
      (λ _. cond_both (has_key p.registrations victim) (good (spc.preempted p n WriteExclusiveRegistrantsOnly victim)) (conflict p) IsTried (λ _. refl) (λ _. refl)) (λ _. refl))
      (moves (sharing.Preempt n) (to_phase (s.node n) Phase.Reserved) (preempting s.device n (s.node n).target) _ (ReadKeys (reading + 1)) refl ph refl dev (record { session = refl; quorum = refl }) refl refl refl))
    where
      dev : DeviceTied cluster (carried_out p n (command.Preempt WriteExclusiveRegistrantsOnly (own_key t) victim)).after (preempting s.device n (s.node n).target)
      dev = subst (λ k. DeviceTied cluster (carried_out p n (command.Preempt WriteExclusiveRegistrantsOnly k victim)).after (preempting s.device n (s.node n).target)) (sym own_is)
          (subst (λ k. DeviceTied cluster (carried_out p n (command.Preempt WriteExclusiveRegistrantsOnly (key_of cluster n) k)).after (preempting s.device n (s.node n).target))
          (sym (is ∙ ap (λ c. key_of c (s.node n).target) i.of_cluster)) (Changes.preempted cluster n low high p s.device tied (s.node n).target))

  -- Confirm
  hold : (keys : List ℕ) → (s.node n).phase ≡ Phase.Cleared → s.device.word ≡ (s.node n).session → Goal p (Ended (Held keys))
  hold keys ph w = record {
    events = sharing.Confirm n ∷ [];
    own = (refl, tt);
    allowed = ((ph, w), tt);
    device = tied;
    reached = at_after (at_held s n) (holding (s.node n)) (Ended (Held keys)) (put_here s.node n (holding (s.node n))) grown (record { session = refl; quorum = refl }) refl refl
        (refl, put_here (s.node n).past.ended (s.node n).session true, put_here (s.node n).past.seized (s.node n).session true);
    others = λ k ne. put_there s.node n (holding (s.node n)) k ne;
    attempts = grown;
  }
    where
      grown : (q : ℕ) → AttemptGrows (s.attempt q) ((at_held s n).attempt q)
      grown = put_cases (λ k x. AttemptGrows (s.attempt k) x) s.attempt (s.node n).session (holding_for (s.attempt (s.node n).session))
          (record { collected = λ h. h; members = λ m h. refl; asked = λ m h. h; quorum = λ m h. refl; held = λ h. refl; counted = λ h. h; holds = λ h. refl; seizer = λ h. refl }) (λ k ne. attempt_same (s.attempt k))

  confirm : (keys : List ℕ) → (s.node n).phase ≡ Phase.Cleared → (f : Completion) → Goal (executed f p n command.Word) (next_step t (Confirm keys) (learned f p n command.Word))
  confirm keys ph = ways (Confirm keys) command.Word refl refl b (lost_word (faults b))
      (told_word (Confirm keys) (cond_both (p.word == t.epoch) (Ended (Held keys)) (Ended (Greater p.word)) (Goal p)
      (λ h. hold keys ph (sym tied.word ∙ eqb-true p.word t.epoch h ∙ sym i.session)) (λ h. ends (Greater p.word) b (refl, over, tt))))
    where
      b : IsSeizing (s.node n).phase
      b = at_phase Phase.Cleared ph (omega arith, omega arith)

  at_step : (step : SeizeStep) → StepTied t.kind t.cluster step (s.node n) → IsDistrusted step (s.node n) → IfSome (command_at t step) (λ c. (f : Completion) → Goal (executed f p n c) (next_step t step (learned f p n c)))
  at_step Check st saved = check st.0 st.1
  at_step Register st saved = register saved
  at_step ReadWord st saved = read_word st
  at_step (Swap expected) st saved = swap expected st.0 st.1
  at_step Reserve st saved = reserve st
  at_step (ReadKeys reading) st saved = read_keys reading st
  at_step (Preempt victim reading) st saved = preempt victim reading st.0 st.1
  at_step (Confirm keys) st saved = confirm keys st
  at_step (Ended result) st saved = tt

  pub carried : (f : Completion) (c : PrCommand) → IsDistrusted t.step (s.node n) → command_of t ≡ Some c
      → Moved cluster n s (executed f p n c) (λ u. AtDevice cluster n u validated has_joined (Seizes (taken t (learned f p n c))))
  carried f c saved e = of_command (at_step t.step i.step saved)
    where
      of_command : IfSome (command_at t t.step) (λ x. (g : Completion) → Goal (executed g p n x) (next_step t t.step (learned g p n x))) → Goal (executed f p n c) (next_step t t.step (learned f p n c))
      of_command h = (subst (λ o. IfSome o (λ x. (g : Completion) → Goal (executed g p n x) (next_step t t.step (learned g p n x)))) e h) f
