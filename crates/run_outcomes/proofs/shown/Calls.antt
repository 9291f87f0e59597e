-- What an attempt has of Promises, and of what was asked for it, through its calls.
use Rattle.std.specs.Prelude.{ℕ, ◌≡◌, true, List, [], ◌∷◌, None, Option, Some, IfSome}
use Rattle.std.specs.List.{AllByRecursion}
use Rattle.std.proofs.Common.{refl, sym, subst, ◌∙◌}
use Rattle.attempt_laws.proofs.Stays.{past_stays, votes_stay}
use Rattle.attempt_laws.proofs.Steady.{Steady, begun_keeps, call_keeps}
use Rattle.attempt_laws.proofs.Walk.{awaits_collecting}
use Rattle.attempt_laws.specs.Staying.{IsBefore, IsPast}
use Rattle.cmm_attempt.specs.Attempts.{AttemptState, beginning, first_state, is_of, promises_of}
use Rattle.cmm_attempt.specs.Calls.{Call, May, Take, Tick, turn}
use Rattle.cmm_attempt.specs.Promises.{promised_by, shown_by}
use Rattle.cmm_attempt.specs.declared.attached.AttachedDevice.{AttachedDevice}
use Rattle.cmm_attempt.specs.declared.phase.Phase.{Phase}
use Rattle.cmm_attempt.specs.declared.phase.Phase.TheVariants.{Collecting}
use Rattle.cmm_attempt.specs.declared.plan.Plan.{Plan}
use Rattle.cmm_attempt.specs.declared.promised.Promised.{Promised}
use Rattle.run_history.proofs.Lists.{both}
use Rattle.wire.specs.declared.message.Message.{Message}
use Rattle.run_outcomes.specs.tasks.Shown.{IsPlainTo, IsVoteTo}

-- ---- the votes that were given stay

pub plain_stays : (a : AttemptState) (k : Call) (d : ℕ) → May a k → IsPlainTo a d → IsPlainTo (turn a k).after d
plain_stays a k d may h = record { past = past_stays a k may h.past; both = h.both; votes = votes_stay a k may h.past ∙ h.votes; none = h.none }

pub vote_stays : (a : AttemptState) (k : Call) (d : ℕ) → May a k → IsVoteTo a d → IsVoteTo (turn a k).after d
vote_stays a k d may h = record { past = past_stays a k may h.past; both = h.both; votes = votes_stay a k may h.past ∙ h.votes; some = h.some }

-- ---- Promises are taken while nothing was asked, and nothing installed

-- D: something was asked for it; I: it was installed
record Holds (Q : Promised → Type 0) (D I : Type 0) (plan : Plan) (s : AttemptState) : Type 0 where
  same : s.plan ≡ plan
  promises : AllByRecursion Q s.promises
  past : D → IsPast s.phase
  before : I → IsBefore s.phase → ⊥

-- what is taken is so
abbrev pub Takes : (Promised → Type 0) → Type 0 → Type 0 → ℕ → Call → Type 0
Takes Q D I e c = (from : ℕ) (m : Message) (p : Promised) → c ≡ Take from m → is_of e m.body ≡ true → promised_by m (shown_by from m.body) ≡ Some p → (D → ⊥) → (I → ⊥) → Q p

to_before : (p q : Phase) → p ≡ q → (IsBefore p → ⊥) → IsBefore q → ⊥
to_before p q is f = subst (λ z. IsBefore z → ⊥) is f

holds_steady : (Q : Promised → Type 0) (D I : Type 0) (plan : Plan) (c : Call) → Takes Q D I plan.epoch c → Steady c (Holds Q D I plan) (Holds Q D I plan)
holds_steady Q D I plan c takes = record {
  within = λ s i. i;
  ticked = λ s i. record { same = i.same; promises = i.promises; past = i.past; before = i.before };
  over = λ s k. record { same = k.same; promises = k.promises; past = λ d. tt; before = λ i b. b };
  promise = λ s from m p is awaited of promised i.
      let at : s.phase ≡ Collecting = awaits_collecting s from s.phase awaited in
      record {
        same = i.same;
        promises = both Q s.promises (p ∷ []) i.promises
            (takes from m p is (subst (λ (z : Plan). is_of z.epoch m.body ≡ true) i.same of) promised (λ d. subst IsPast at (i.past d)) (λ z. i.before z (subst IsBefore (sym at) tt)), tt);
        past = i.past;
        before = i.before;
      };
  collecting = λ s is e k. k;
  no_newest = λ s is all none k. k;
  chosen = λ s newest is all some k.
      record { same = k.same; promises = k.promises; past = λ d. absurd (subst IsPast is (k.past d)); before = λ i b. k.before i (subst IsBefore (sym is) tt) };
  votes = λ s b is i. record { same = i.same; promises = i.promises; past = λ d. tt; before = λ z b. i.before z (subst IsBefore (sym is) tt) };
  entries = λ s is k. record { same = k.same; promises = k.promises; past = k.past; before = k.before };
  result = λ s d from r is tells i. record { same = i.same; promises = i.promises; past = i.past; before = i.before };
  next = λ s d n e kind r is found i. record { same = i.same; promises = i.promises; past = i.past; before = i.before };
  seizing = λ s is e k. k;
  counted = λ s is h k. record { same = k.same; promises = k.promises; past = k.past; before = k.before };
  others = λ s is ne k. record { same = k.same; promises = k.promises; past = λ d. tt; before = λ i b. k.before i (subst IsBefore (sym is) tt) };
  installs = λ s is k. record { same = k.same; promises = k.promises; past = λ d. tt; before = λ i b. b };
  ready = λ s from m is at of ready_body i. record { same = i.same; promises = i.promises; past = i.past; before = i.before };
  own = λ s is at i. record { same = i.same; promises = i.promises; past = i.past; before = i.before };
  installing = λ s at e k. k;
}

pub record Held (Q : Promised → Type 0) (I : Type 0) (s : AttemptState) : Type 0 where
  pub promises : AllByRecursion Q s.promises
  pub before : I → IsBefore s.phase → ⊥

pub call_holds : (Q : Promised → Type 0) (D I : Type 0) (a : AttemptState) (k : Call) → May a k → Takes Q D I a.plan.epoch k → AllByRecursion Q a.promises → (D → IsPast a.phase) → (I → IsBefore a.phase → ⊥)
    → Held Q I (turn a k).after
call_holds Q D I a k may takes ps past before =
    let t : Holds Q D I a.plan (turn a k).after =
    call_keeps (Holds Q D I a.plan) (Holds Q D I a.plan) a k (holds_steady Q D I a.plan k takes) may (record { same = refl; promises = ps; past = past; before = before }) in
    record { promises = t.promises; before = t.before }

no_take : (from : ℕ) (m : Message) → Tick ≡ Take from m → ⊥
no_take from m e = cc

first_promises : (Q : Promised → Type 0) (o : Option Promised) → IfSome o Q → AllByRecursion Q (promises_of o)
first_promises Q None k = tt
first_promises Q (Some p) k = (k, tt)

-- an attempt begins of which nothing was asked, and nothing installed
pub begun_holds : (Q : Promised → Type 0) (D I : Type 0) (p members : ℕ) (own : Message) (attached : List AttachedDevice) (cluster : ℕ) → IfSome (promised_by own (shown_by own.sender own.body)) Q → (D → ⊥) → (I → ⊥)
    → Held Q I (beginning p members own attached cluster).after
unfolding beginning
begun_holds Q D I p members own attached cluster q none fresh =
    let s : AttemptState = first_state p members own attached cluster (promises_of (promised_by own (shown_by own.sender own.body))) in
    let t : Holds Q D I s.plan _ =
    begun_keeps Tick (Holds Q D I s.plan) (Holds Q D I s.plan) (holds_steady Q D I s.plan Tick (λ from m z is of promised d i. absurd (no_take from m is))) s refl
    (record { same = refl; promises = first_promises Q (promised_by own (shown_by own.sender own.body)) q; past = λ d. absurd (none d); before = λ i b. fresh i }) in
    record { promises = t.promises; before = t.before }
