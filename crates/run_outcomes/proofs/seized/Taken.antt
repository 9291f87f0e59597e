-- A Seized that comes to the coordinator of an attempt that awaits it: it was asked, and told the same before, if anything.
use Rattle.std.specs.Prelude.{ℕ, ◌==◌, ◌≡◌, ◌≢◌, ◌⊎◌, Bool, true, false, Option, None, Some}
use Rattle.std.proofs.Common.{arith, refl, sym, ap, subst, ◌∙◌, inl, inr}
use Rattle.attempt_laws.specs.Asking.{AskedBy as AskedIs, DeviceHas, EndedSo, HasEntry, HasIn, IsUnasked, entry_of}
use Rattle.attempt_laws.specs.Staying.{IsBefore}
use Rattle.cl_base.specs.Seizings.{SeizeResult}
use Rattle.cl_base.specs.Sets.{has}
use Rattle.cl_base.specs.declared.seizing.SeizeEnd.TheVariants.{Contended, Expelled, Fault, Greater, Held, NotRegistered}
use Rattle.cmm_attempt.proofs.Basics.{false_true, same_number}
use Rattle.cmm_attempt.specs.Attempts.{AttemptState}
use Rattle.cmm_attempt.specs.Calls.{Take, turn}
use Rattle.cmm_attempt.specs.declared.phase.Phase.{Phase}
use Rattle.cmm_attempt.specs.declared.phase.Phase.TheVariants.{Choosing, Collecting, Installing, Over, SeizingOthers, SeizingVotes}
use Rattle.cmm_attempt.specs.declared.seizing.Seizing.{Seizing}
use Rattle.device_machine.specs.Sharing.{Sharing}
use Rattle.wire.specs.declared.message.Body.TheVariants as body
use Rattle.wire.specs.declared.message.Message.{Message}
use Rattle.run_outcomes.specs.tasks.Answers.{Answered, EntryBut, EntryHas, Has, HasBut, Heard, IsEarly}
use Rattle.run_outcomes.proofs.seized.Calls.{seized_answered}

-- ---- the same answers

entry_same : (T U : Heard) (c d : ℕ) (o : Option Seizing) → ((m : ℕ) → U d m ≡ T d m) → EntryHas T c d o → EntryHas U c d o
entry_same T U c d None same k = λ m. same m ∙ k m
entry_same T U c d (Some e) same k = λ m. ((λ seizer ne. same m ∙ (k m).0 seizer ne), (λ none. same m ∙ (k m).1 none))

pub has_same : (T U : Heard) (s : AttemptState) → ((d m : ℕ) → U d m ≡ T d m) → Has T s → Has U s
has_same T U s same k = record {
  entries = λ d. entry_same T U s.plan.coordinator d (entry_of s.devices d) (same d) (k.entries d);
  apart = k.apart;
  early = λ e d m. same d m ∙ k.early e d m;
}

pub answered_same : (T U : Heard) (e : ℕ) (s : AttemptState) → ((d m : ℕ) → U d m ≡ T d m) → Answered T e s → Answered U e s
answered_same T U e s same k = record { epoch = k.epoch; nodes = k.nodes; attached = k.attached; has = λ b. has_same T U s same (k.has b) }

-- ---- who was asked

-- the entry of device d has asked this member
pub record WasAsked (d from : ℕ) (a : AttemptState) : Type 0 where
  pub entry : Seizing
  pub there : entry_of a.devices d ≡ Some entry
  pub asked : has entry.asked from ≡ true
  pub late : IsEarly a.phase → ⊥

clash : {X : Type 0} → true ≡ false → X
clash h = absurd (false_true (sym h))

unasked : {X : Type 0} (t : Sharing) (q from : ℕ) → (t.attempt q).asked from ≡ true → IsUnasked (t.attempt q) → X
unasked t q from asked none = clash (sym asked ∙ none.asked from)

entry_asked : (t : Sharing) (a : AttemptState) (d from : ℕ) (o : Option Seizing) → (t.attempt a.plan.epoch).asked from ≡ true → (IsEarly a.phase → ⊥) → entry_of a.devices d ≡ o → HasEntry t a.plan.epoch o → WasAsked d from a
entry_asked t a d from None asked late there has = unasked t a.plan.epoch from asked has
entry_asked t a d from (Some e) asked late there has = by_seizer e.seizer has
  where
    by_seizer : (o : Option ℕ) → AskedIs t a.plan.epoch e o → WasAsked d from a
    by_seizer None is = unasked t a.plan.epoch from asked is.0
    by_seizer (Some m) is = record { entry = e; there = there; asked = is.before from asked; late = late }

pub was_asked : (t : Sharing) (a : AttemptState) (d from : ℕ) → (t.attempt a.plan.epoch).asked from ≡ true → IsBefore a.phase → DeviceHas t a d → WasAsked d from a
was_asked t a d from asked before k = by_phase a.phase refl before k.has
  where
    by_phase : (p : Phase) → a.phase ≡ p → IsBefore p → HasIn t a.plan a.promises a.devices d p → WasAsked d from a
    by_phase Collecting at before has = unasked t a.plan.epoch from asked has.0.unasked
    by_phase Choosing at before has = unasked t a.plan.epoch from asked has.1
    by_phase SeizingVotes at before has = entry_asked t a d from (entry_of a.devices d) asked (λ early. subst IsEarly at early) refl has.1
    by_phase SeizingOthers at before has = entry_asked t a d from (entry_of a.devices d) asked (λ early. subst IsEarly at early) refl has.1
    by_phase Installing at before has = absurd before
    by_phase Over at before has = absurd before

-- whose seizing ended, as it tells
pub ended_so : (t : Sharing) (q from : ℕ) (r : SeizeResult) → EndedSo t q from r → (t.node from).past.ended q ≡ true
ended_so t q from (Held keys) k = k.0
ended_so t q from (NotRegistered keys) k = k.0
ended_so t q from (Greater word) k = k.0
ended_so t q from Expelled k = k.0
ended_so t q from (Contended key) k = k.0
ended_so t q from Fault k = k.0

-- ---- it is taken

-- what came of this member for d is this now, and of all others what came before
pub record IsNow (T U : Heard) (d from : ℕ) (r : SeizeResult) : Type 0 where
  pub now : U d from ≡ Some r
  pub others : (x m : ℕ) → (x ≢ d) ⊎ (m ≢ from) → U x m ≡ T x m
  pub agrees : (q : SeizeResult) → T d from ≡ Some q → q ≡ r

but_has : (T U : Heard) (c d from : ℕ) (r : SeizeResult) (e : Seizing) → IsNow T U d from r → has e.asked from ≡ true → EntryHas T c d (Some e) → EntryBut U c d from (Some e)
but_has T U c d from r e z asked k = λ m. by_member m (m == from) refl
  where
    is_other : (a b : ℕ) → (a == b) ≡ false → a ≢ b
    is_other a b off is = grind arith

    by_result : e.seizer ≡ Some from → from ≢ c → (o : Option SeizeResult) → e.result ≡ o → (U d from ≡ e.result) ⊎ ((from ≡ from) × (e.result ≡ None))
    by_result seizer ne None at = inr (refl, at)
    by_result seizer ne (Some q) at = inl (z.now ∙ (ap Some (sym (z.agrees q ((k from).0 seizer ne ∙ at))) ∙ sym at))

    here : (e.seizer ≡ Some from → from ≢ c → (U d from ≡ e.result) ⊎ ((from ≡ from) × (e.result ≡ None))) × (has e.asked from ≡ false → U d from ≡ None)
    here = ((λ seizer ne. by_result seizer ne e.result refl), (λ none. clash (sym asked ∙ none)))

    by_member : (m : ℕ) (b : Bool) → (m == from) ≡ b → (e.seizer ≡ Some m → m ≢ c → (U d m ≡ e.result) ⊎ ((m ≡ from) × (e.result ≡ None))) × (has e.asked m ≡ false → U d m ≡ None)
    by_member m true is =
        subst (λ n. (e.seizer ≡ Some n → n ≢ c → (U d n ≡ e.result) ⊎ ((n ≡ from) × (e.result ≡ None))) × (has e.asked n ≡ false → U d n ≡ None)) (sym (same_number m from is)) here
    by_member m false other =
        let same : U d m ≡ T d m = z.others d m (inr (is_other m from other)) in
        ((λ seizer ne. inl (same ∙ (k m).0 seizer ne)), (λ none. same ∙ (k m).1 none))

has_but : (T U : Heard) (d from : ℕ) (r : SeizeResult) (a : AttemptState) → IsNow T U d from r → WasAsked d from a → Has T a → HasBut U d from a
has_but T U d from r a z was k = record {
  others = λ x ne. entry_same T U a.plan.coordinator x (entry_of a.devices x) (λ m. z.others x m (inl ne)) (k.entries x);
  there = subst (EntryBut U a.plan.coordinator d from) (sym was.there)
      (but_has T U a.plan.coordinator d from r was.entry z was.asked (subst (EntryHas T a.plan.coordinator d) was.there (k.entries d)));
  apart = k.apart;
  early = λ e. absurd (was.late e);
}

pub taken_answered : (T U : Heard) (e d from : ℕ) (r : SeizeResult) (m : Message) (a : AttemptState) → m.body ≡ body.Seized a.plan.epoch d r → U d from ≡ Some r
    → (IsBefore a.phase → IsNow T U d from r × WasAsked d from a) → Answered T e a → Answered U e (turn a (Take from m)).after
taken_answered T U e d from r m a told now so h =
    seized_answered U e d from r m a told now h.epoch h.nodes h.attached (λ b. let z : IsNow T U d from r × WasAsked d from a = so b in has_but T U d from r a z.0 z.1 (h.has b))
