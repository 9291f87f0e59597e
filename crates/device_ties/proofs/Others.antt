-- The other laws: how tasks begin and go, what is saved before registering, and writes.
use Rattle.std.proofs.Common.{◌≡◌, ℕ, ◌<◌, ◌==◌, ◌⊎◌, inl, inr, Bool, true, false, Option, Some, None, refl, sym, ap, subst, ◌∙◌, arith}
use Rattle.std.proofs.lemmas.Bool.{cond_both, cond-true, cond-false, cases_Bool, ne_eqb}
use Rattle.machine_base.proofs.Puts.{put_here}
use Rattle.cl_base.specs.Sets.{has}
use Rattle.pgr_device.specs.declared.command.PrCommand.{PrCommand}
use Rattle.pgr_device.specs.declared.command.PrCommand.TheVariants as command
use Rattle.pgr_device.specs.declared.command.PrAnswer.TheVariants as answer
use Rattle.pgr_device.specs.Device as pgr
use Rattle.pgr_device.specs.Registered.{registered_key, is_registered}
use Rattle.pgr_device.specs.Spc.{Outcome, answers, good, conflict, with_key, may_write, carried_out, step}
use Rattle.seize.specs.declared.kind.SeizeKind.{SeizeKind}
use Rattle.seize.specs.declared.kind.SeizeKind.TheVariants.{Vote, Plain}
use Rattle.seize.specs.declared.step.SeizeStep.{SeizeStep}
use Rattle.seize.specs.declared.step.SeizeStep.TheVariants.{Register}
use Rattle.cl_base.specs.Keys.{key_of}
use Rattle.seize.specs.Seizing as seizing
use Rattle.seize.specs.Seizing.{SeizeState}
use Rattle.seize.specs.Shows.{is_vote}
use Rattle.device_machine.specs.Phase.{Phase}
use Rattle.device_machine.specs.Device.{LetsWrite}
use Rattle.device_machine.specs.Initiator as initiator
use Rattle.device_machine.specs.Initiator.{Initiator}
use Rattle.device_machine.specs.Sharing as sharing
use Rattle.device_machine.specs.Sharing.{Sharing, after, at_node, at_device}
use Rattle.device_machine.proofs.Growth.{attempt_same}
use Rattle.device_ties.specs.Devices.{HeldTied, DeviceTied}
use Rattle.device_ties.specs.Commands.{Answered, Undone, Done, executed, learned}
use Rattle.device_ties.specs.Tasks.{StepTied, IsSaved, SeizingTied, Idle, Seizes, AtDevice}
use Rattle.device_ties.specs.Moves.{Moved}
use Rattle.device_ties.specs.Laws.{FirstIsTied, NodesAreTied, SeizeCommands, DistrustIsSaved, WriteCommands, GoodWriteIsTaken, SeizingsBegin, SessionSteps, RegisteredAgain}
use Rattle.device_ties.proofs.Registrations.{registered_again, key_absent}
use Rattle.device_ties.proofs.Readings.{lets}
use Rattle.device_ties.proofs.Ties.{seizing_after, one_event, no_event, and_then}
use Rattle.device_ties.proofs.Seizings.{IsDistrusted, carried}

pub first_tied : FirstIsTied
first_tied cluster p attached own keys none word value = record { own = own; keys = keys; held = subst (λ r. HeldTied r false 0) (sym none) refl; word = word; content = value }

pub first_nodes : NodesAreTied
first_nodes cluster n attached = record { valid = refl; joined = refl; task = λ l. refl }

-- Before it registers: the record says that the key is not validated, and the machine has it so.
module _ (cluster n : ℕ) (s : Sharing) (validated has_joined : Bool) (t : SeizeState) (p : pgr.Device) (tied : DeviceTied cluster p s.device) (at : AtDevice cluster n s validated has_joined (Seizes t)) where
  abbrev Distrusted : Sharing → Type 0
  Distrusted u = AtDevice cluster n u false has_joined (Seizes t) × ((u.node n).phase ≡ Phase.Untrusted)

  distrusts_at : (step : SeizeStep) → t.step ≡ step → StepTied t.kind t.cluster step (s.node n) → step ≡ Register → Moved cluster n s p Distrusted
  distrusts_at step is st e = by (subst (λ x. StepTied t.kind t.cluster x (s.node n)) e st) (is ∙ e)
    where
      by : StepTied t.kind t.cluster Register (s.node n) → t.step ≡ Register → Moved cluster n s p Distrusted
      by st here = either st.0
        where
          v' : Initiator
          v' = initiator.unvalidated (s.node n)

          plain : t.kind ≡ Vote → v'.valid ≡ (s.node n).valid
          plain vote = let k : t.kind ≡ Plain = st.1 in absurd (cc)

          at_register : SeizingTied cluster n (at_device s n v' s.device) (record t { step = Register })
          at_register = seizing_after cluster n s (at_device s n v' s.device) t Register v' at.task (put_here s.node n v') (λ q. attempt_same (s.attempt q))
              (record { session = refl; quorum = refl }) plain (inr (refl, refl), st.1)

          same : record t { step = Register } ≡ t
          same = ap (λ x. record t { step = x }) (sym here)

          either : ((s.node n).phase ≡ Phase.Asked) ⊎ (((s.node n).phase ≡ Phase.Untrusted) × ((s.node n).valid ≡ false)) → Moved cluster n s p Distrusted
          either (inl ph) = one_event cluster n s p Distrusted (sharing.Distrust n) v' s.device refl (ph, at.task.kind ∙ ap is_vote st.1) refl tied (
            record {
              valid = ap (λ (v : Initiator). v.valid) (put_here s.node n v');
              joined = ap (λ (v : Initiator). v.joined) (put_here s.node n v') ∙ at.joined;
              task = subst (λ x. SeizingTied cluster n (at_device s n v' s.device) x) same at_register;
            },
            ap (λ (v : Initiator). v.phase) (put_here s.node n v'),
          )
          either (inr h) = no_event cluster n s p Distrusted tied (record { valid = h.1; joined = at.joined; task = at.task }, h.0)

  distrusts : t.step ≡ Register → Moved cluster n s p Distrusted
  distrusts e = distrusts_at t.step refl at.task.step e

pub distrust_saved : DistrustIsSaved
distrust_saved cluster n s validated has_joined t p tied at e = and_then cluster n s p p (λ u. AtDevice cluster n u false has_joined (Seizes t) × ((u.node n).phase ≡ Phase.Untrusted)) (λ u. AtDevice cluster n u false has_joined (Seizes t))
    (distrusts cluster n s validated has_joined t p tied at e) (λ u d h. no_event cluster n u p (λ x. AtDevice cluster n x false has_joined (Seizes t)) d h.0)

-- each command of a seizing, by the record alone
pub seize_commands : SeizeCommands
seize_commands cluster n s validated has_joined t p f c low high tied at saved due = on t.step refl saved
  where
    Then : Sharing → Type 0
    Then u = AtDevice cluster n u validated has_joined (Seizes (seizing.taken t (learned f p n c)))

    plain : IsDistrusted t.step (s.node n) → Moved cluster n s (executed f p n c) (λ u. AtDevice cluster n u validated has_joined (Seizes (seizing.taken t (learned f p n c))))
    plain h = carried cluster n low high s validated has_joined t p tied at f c h due

    registers : t.step ≡ Register → validated ≡ false → Moved cluster n s (executed f p n c) (λ u. AtDevice cluster n u validated has_joined (Seizes (seizing.taken t (learned f p n c))))
    registers e untrusted = subst (λ b. Moved cluster n s (executed f p n c) (λ u. AtDevice cluster n u b has_joined (Seizes (seizing.taken t (learned f p n c))))) (sym untrusted)
        (and_then cluster n s p (executed f p n c) (λ u. AtDevice cluster n u false has_joined (Seizes t) × ((u.node n).phase ≡ Phase.Untrusted))
        (λ u. AtDevice cluster n u false has_joined (Seizes (seizing.taken t (learned f p n c)))) (distrusts cluster n s validated has_joined t p tied at e)
        (λ u d h. carried cluster n low high u false has_joined t p d h.0 f c (subst (λ x. IsDistrusted x (u.node n)) (sym e) h.1) due))

    on : (step : SeizeStep) → t.step ≡ step → IsSaved step validated → Moved cluster n s (executed f p n c) (λ u. AtDevice cluster n u validated has_joined (Seizes (seizing.taken t (learned f p n c))))
    on Register e untrusted = registers e untrusted
    on step e h = plain (subst (λ x. IsDistrusted x (s.node n)) (sym e) tt)

-- a write of a node that joined the device
abbrev Wrote : (cluster n : ℕ) (s : Sharing) (p' : pgr.Device) (x : ℕ) → Type 0
Wrote cluster n s p' x = (sharing.Allowed s (sharing.Write n x) × DeviceTied cluster p' (after s (sharing.Write n x)).device) ⊎ DeviceTied cluster p' s.device

write_by : (cluster n : ℕ) (s : Sharing) (p : pgr.Device) (x : ℕ) → DeviceTied cluster p s.device → (s.node n).joined ≡ true → (o : Outcome) → (o ≡ carried_out p n (command.Write x)) ⊎ (o ≡ answers p answer.NoPath)
    → Wrote cluster n s o.after x
write_by cluster n s p x tied joined o (inr e) = inr (subst (λ (y : Outcome). DeviceTied cluster y.after s.device) (sym e) tied)
write_by cluster n s p x tied joined o (inl e) = subst (λ (y : Outcome). Wrote cluster n s y.after x) (sym e)
    (cond_both (may_write p.registrations n p.reservation) (good (record p { value = x })) (conflict p) (λ y. Wrote cluster n s y.after x)
    (λ w. inl ((joined, lets p.registrations n p.reservation s.device tied.held (tied.keys n) w), record { own = tied.own; keys = tied.keys; held = tied.held; word = tied.word; content = refl }))
    (λ w. inr tied))

step_is : (p : pgr.Device) (n : ℕ) (c : PrCommand) → (step p n c ≡ carried_out p n c) ⊎ (step p n c ≡ answers p answer.NoPath)
step_is p n c = go (cases_Bool (has p.paths n))
  where
    go : (has p.paths n ≡ true) ⊎ (has p.paths n ≡ false) → (step p n c ≡ carried_out p n c) ⊎ (step p n c ≡ answers p answer.NoPath)
    go (inl h) = inl (cond-true (has p.paths n) (carried_out p n c) (answers p answer.NoPath) h)
    go (inr h) = inr (cond-false (has p.paths n) (carried_out p n c) (answers p answer.NoPath) h)

pub write_commands : WriteCommands
write_commands cluster n s p Answered x tied joined = write_by cluster n s p x tied joined (step p n (command.Write x)) (step_is p n (command.Write x))
write_commands cluster n s p Undone x tied joined = inr tied
write_commands cluster n s p Done x tied joined = write_by cluster n s p x tied joined (step p n (command.Write x)) (step_is p n (command.Write x))

pub good_write_taken : GoodWriteIsTaken
good_write_taken cluster n p d x tied is = by (step_is p n (command.Write x))
  where
    by : (step p n (command.Write x) ≡ carried_out p n (command.Write x)) ⊎ (step p n (command.Write x) ≡ answers p answer.NoPath) → LetsWrite d n
    by (inr e) = let a : (step p n (command.Write x)).answer ≡ answer.NoPath = ap (λ (o : Outcome). o.answer) e in absurd (cc)
    by (inl e) = carried_by (cases_Bool (may_write p.registrations n p.reservation)) (ap (λ (o : Outcome). o.answer) (sym e) ∙ is)
      where
        carried_by : (may_write p.registrations n p.reservation ≡ true) ⊎ (may_write p.registrations n p.reservation ≡ false) → (carried_out p n (command.Write x)).answer ≡ answer.Good → LetsWrite d n
        carried_by (inl w) a = lets p.registrations n p.reservation d tied.held (tied.keys n) w
        carried_by (inr w) a = let c : (carried_out p n (command.Write x)).answer ≡ answer.Conflict = ap (λ (o : Outcome). o.answer) (cond-false (may_write p.registrations n p.reservation) (good (record p { value = x })) (conflict p) w) in absurd (cc)

-- a seizing begins
first_tie : (kind : SeizeKind) (cluster : ℕ) (v : Initiator) → v.phase ≡ Phase.Asked → StepTied kind cluster (seizing.first_step kind) v
first_tie Vote cluster v ph = (ph, refl)
first_tie Plain cluster v ph = (inl ph, refl)

pub seizings_begin : SeizingsBegin
seizings_begin cluster n s validated has_joined p kind epoch members tied at positive session low collected asked quorum set member =
    one_event cluster n s p (λ u. AtDevice cluster n u validated has_joined (Seizes (seizing.begun kind epoch members n cluster validated))) (sharing.Seize n) v' s.device refl (
      (omega (arith, positive, session), at_session (λ q. (s.attempt q).collected ≡ true) collected, at_session (λ q. (s.attempt q).members n ≡ true) (set n ∙ member)),
      at_session (λ q. (s.attempt q).asked n ≡ true) asked,
      below,
      at.task below,
    ) refl tied (record {
      valid = ap (λ (v : Initiator). v.valid) here ∙ at.valid;
      joined = ap (λ (v : Initiator). v.joined) here ∙ at.joined;
      task = record {
        me = refl;
        of_cluster = refl;
        session = ap (λ (v : Initiator). v.session) here ∙ session;
        kind = ap (λ (v : Initiator). v.quorum) here ∙ ap (λ q. (s.attempt q).quorum) session ∙ quorum;
        valid = λ vote. ap (λ (v : Initiator). v.valid) here ∙ at.valid;
        collected = collected;
        members = set;
        step = first_tie kind cluster (put_at n) (ap (λ (v : Initiator). v.phase) here);
      };
    })
  where
    v' : Initiator
    v' = initiator.seizing (s.node n) (s.attempt (s.node n).session).quorum

    put_at : ℕ → Initiator
    put_at k = (at_device s n v' s.device).node k

    here : (at_device s n v' s.device).node n ≡ v'
    here = put_here s.node n v'

    below : (s.node n).installed < (s.node n).session
    below = omega (arith, low, session)

    at_session : (P : ℕ → Type 0) → P epoch → P (s.node n).session
    at_session P h = subst P (sym session) h

-- tasks go with the session, and by an install
goes_by : (cluster n : ℕ) (s : Sharing) (v' : Initiator) (validated has_joined : Bool) → v'.valid ≡ validated → v'.joined ≡ has_joined → (v'.installed < v'.session → v'.phase ≡ Phase.Idle)
    → AtDevice cluster n (at_node s n v') validated has_joined Idle
goes_by cluster n s v' validated has_joined valid joined idle = record {
  valid = ap (λ (v : Initiator). v.valid) (put_here s.node n v') ∙ valid;
  joined = ap (λ (v : Initiator). v.joined) (put_here s.node n v') ∙ joined;
  task = subst (λ v. v.installed < v.session → v.phase ≡ Phase.Idle) (sym (put_here s.node n v')) idle;
}

pub session_steps : SessionSteps
session_steps = record {
  promise = λ cluster n s validated has_joined task q at. goes_by cluster n s (initiator.promising (s.node n) q) validated false at.valid refl (λ l. refl);
  crash = λ cluster n s validated has_joined task at. goes_by cluster n s (initiator.crashing (s.node n)) validated false at.valid refl (λ l. refl);
  apart = λ cluster n s validated has_joined task at. goes_by cluster n s (initiator.installing (s.node n)) validated has_joined at.valid at.joined (λ l. absurd (omega (arith, l)));
  seizer = λ cluster n s. goes_by cluster n s (initiator.admitted (initiator.installing (s.node n))) true true refl refl (λ l. absurd (omega (arith, l)));
  known = λ cluster n s. goes_by cluster n s (initiator.admitted (initiator.installing (s.node n))) true true refl refl (λ l. absurd (omega (arith, l)));
  new = λ cluster n s validated has_joined task at. record {
    valid = ap (λ (v : Initiator). v.valid) (put_here s.node n (initiator.joining (s.node n)));
    joined = ap (λ (v : Initiator). v.joined) (put_here s.node n (initiator.joining (s.node n))) ∙ at.joined;
    task = record {
      me = refl;
      of_cluster = refl;
      session = ap (λ (v : Initiator). v.session) (put_here s.node n (initiator.joining (s.node n)));
      step = ap (λ (v : Initiator). v.phase) (put_here s.node n (initiator.joining (s.node n)));
    };
  };
}

-- an own key that is registered again changes nothing
pub again : RegisteredAgain
again cluster n p own there low = by (step_is p n (command.Ignore (key_of cluster n)))
  where
    with_held : (held : Option ℕ) → registered_key p.registrations n ≡ held → with_key p n (key_of cluster n) held ≡ p
    with_held None e = let none : is_registered p.registrations n ≡ false = key_absent p.registrations n e in absurd (cc)
    with_held (Some key) e = cond-false (key_of cluster n == 0) _ _ (ne_eqb (key_of cluster n) 0 (λ z. omega arith)) ∙ ap (λ rs. record p { registrations = rs }) (registered_again cluster n p.registrations own)

    by : (step p n (command.Ignore (key_of cluster n)) ≡ carried_out p n (command.Ignore (key_of cluster n))) ⊎ (step p n (command.Ignore (key_of cluster n)) ≡ answers p answer.NoPath)
        → (step p n (command.Ignore (key_of cluster n))).after ≡ p
    by (inl e) = ap (λ (o : Outcome). o.after) e ∙ with_held (registered_key p.registrations n) refl
    by (inr e) = ap (λ (o : Outcome). o.after) e
