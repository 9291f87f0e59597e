-- A device becomes held only by the word of the node that was asked to seize it.
use Rattle.std.proofs.Common.{◌≡◌, ℕ, ◌⊎◌, inl, inr, List, [], ◌∷◌, ◌++◌, map, refl, sym, ap, subst, ◌∙◌}
use Rattle.std.specs.Prelude.{◌==◌, ◌&&◌, ◌||◌, Bool, true, false, Option, Some, None, IsSome, is_none, if◌then◌else◌}
use Rattle.std.specs.List.{find, filter_map, cons_option}
use Rattle.std.proofs.lemmas.List.Folds.{list_any-append}
use Rattle.cl_base.specs.Seizings.{SeizeResult}
use Rattle.wire.specs.declared.message.Body.TheVariants as body
use Rattle.cmm_attempt.specs.declared.attached.AttachedDevice.{AttachedDevice}
use Rattle.cmm_attempt.specs.declared.promised.Promised.{Promised}
use Rattle.cmm_attempt.specs.declared.seizing.Seizing.{Seizing}
use Rattle.cmm_attempt.specs.declared.counting.BothVotes.{BothVotes}
use Rattle.cl_base.specs.Sets.{has, set_with}
use Rattle.cmm_attempt.specs.Plans.{is_reachable}
use Rattle.cmm_attempt.specs.Seizings.{awaits, is_held_by, is_seized, first_seizer, vote_entry, plain_entry, plain_new, with_next, with_result}
use Rattle.attempt_laws.specs.Laws.{TellsHeld, is_held_in, WasAsked, SaysHeld, HeldIsTold}
use Rattle.cmm_attempt.specs.Calls.{Call, Take, With_votes, Own_seized, Own_ready, Tick}
use Rattle.cmm_attempt.proofs.Basics.{false_true, or_cases, and_cases, either_of, same_number, if_either}
use Rattle.attempt_laws.proofs.Walk.{TellsResult, Walk, walks}
use Rattle.cmm_attempt.specs.Counts.{is_quorum, vote_new}
use Rattle.cmm_attempt.specs.Attempts.{AttemptState, installing, plain_devices, asked_next, vote_entries_under}
use Rattle.cl_base.specs.declared.seizing.SeizeEnd.TheVariants as told
use Rattle.cmm_attempt.specs.declared.plan.Plan.{Plan}

and_false : (b : Bool) → (b && false) ≡ false
and_false true = refl
and_false false = refl

-- the entry is of device d and held
abbrev holds : ℕ → Seizing → Bool
holds d e = (e.attached.device == d) && is_held_by e.result

abbrev HoldsNot : ℕ → Option Seizing → Type 0
HoldsNot d None = Unit {0}
HoldsNot d (Some e) = holds d e ≡ false

or_false : (a b : Bool) → a ≡ false → b ≡ false → (a || b) ≡ false
or_false true b h k = h
or_false false b h k = k

none_held : (d : ℕ) (o : Option Seizing) (es : List Seizing) → HoldsNot d o → is_held_in es d ≡ false → is_held_in (cons_option o es) d ≡ false
none_held d None es h k = k
none_held d (Some e) es h k = or_false (holds d e) (is_held_in es d) h k

plain_entry_not : (d : ℕ) (a : AttachedDevice) (o : Option ℕ) → HoldsNot d (plain_entry a o)
plain_entry_not d a None = tt
plain_entry_not d a (Some n) = and_false (a.device == d)

plain_not : (plan : Plan) (devices : List Seizing) (attached : List AttachedDevice) (d : ℕ) → is_held_in (filter_map (plain_new plan devices) attached) d ≡ false
plain_not plan devices [] d = refl
plain_not plan devices (a ∷ attached) d =
    none_held d (plain_new plan devices a) (filter_map (plain_new plan devices) attached)
    (if_either (HoldsNot d) (is_seized devices a.device) None (plain_entry a (find (λ n. has a.nodes n) plan.nodes)) tt (plain_entry_not d a (find (λ n. has a.nodes n) plan.nodes)))
    (plain_not plan devices attached d)

vote_entry_not : (d : ℕ) (a : AttachedDevice) (o : Option ℕ) → holds d (vote_entry a o) ≡ false
vote_entry_not d a None = and_false (a.device == d)
vote_entry_not d a (Some n) = and_false (a.device == d)

votes_not : (plan : Plan) (promises : List Promised) (both : BothVotes) (attached : List AttachedDevice) (d : ℕ)
    → is_held_in (filter_map (vote_new plan promises both) attached) d ≡ false
votes_not plan promises both [] d = refl
votes_not plan promises both (a ∷ attached) d =
    none_held d (vote_new plan promises both a) (filter_map (vote_new plan promises both) attached)
    (if_either (HoldsNot d) (is_quorum both a.device && is_reachable plan a) (Some (vote_entry a (first_seizer plan promises a))) None
    (vote_entry_not d a (first_seizer plan promises a)) tt)
    (votes_not plan promises both attached d)

next_holds : (d0 n d : ℕ) (e : Seizing) (b : Bool) → holds d (if b then record e { seizer = Some n; asked = set_with e.asked n } else e) ≡ holds d e
next_holds d0 n d e true = refl
next_holds d0 n d e false = refl

next_held : (d0 n d : ℕ) (es : List Seizing) → is_held_in (map (with_next d0 n) es) d ≡ is_held_in es d
next_held d0 n d [] = refl
next_held d0 n d (e ∷ es) = rw (next_holds d0 n d e ((e.attached.device == d0) && is_none e.result), next_held d0 n d es) refl

-- this seizing's own device, held
abbrev IsThis : ℕ → SeizeResult → ℕ → Type 0
IsThis d0 r d = (d0 ≡ d) × (is_held_by (Some r) ≡ true)

result_holds : (d0 d : ℕ) (r : SeizeResult) (e : Seizing) (b : Bool) → (b ≡ true → e.attached.device ≡ d0)
    → holds d (if b then record e { result = Some r } else e) ≡ true → (holds d e ≡ true) ⊎ IsThis d0 r d
result_holds d0 d r e true same h =
    let two : ((e.attached.device == d) ≡ true) × (is_held_by (Some r) ≡ true) = and_cases (e.attached.device == d) (is_held_by (Some r)) h in
    inr (sym (same refl) ∙ same_number e.attached.device d two.0, two.1)
result_holds d0 d r e false same h = inl h

or_left : (a b : Bool) → a ≡ true → (a || b) ≡ true
or_left true b h = refl
or_left false b h = absurd (false_true h)

or_right : (a b : Bool) → b ≡ true → (a || b) ≡ true
or_right true b h = refl
or_right false b h = h

head_or : (a b : Bool) (P : Type 0) → (a ≡ true) ⊎ P → ((a || b) ≡ true) ⊎ P
head_or a b P (inl h) = inl (or_left a b h)
head_or a b P (inr p) = inr p

tail_or : (a b : Bool) (P : Type 0) → (b ≡ true) ⊎ P → ((a || b) ≡ true) ⊎ P
tail_or a b P (inl h) = inl (or_right a b h)
tail_or a b P (inr p) = inr p

result_held : (d0 d : ℕ) (r : SeizeResult) (es : List Seizing) → is_held_in (map (with_result d0 r) es) d ≡ true → (is_held_in es d ≡ true) ⊎ IsThis d0 r d
result_held d0 d r [] h = absurd (false_true h)
result_held d0 d r (e ∷ es) h =
    let test : Bool = (e.attached.device == d0) && is_none e.result in
    let own : test ≡ true → e.attached.device ≡ d0 = λ t. same_number e.attached.device d0 (and_cases (e.attached.device == d0) (is_none e.result) t).0 in
    either_of (or_cases (holds d (with_result d0 r e)) (is_held_in (map (with_result d0 r) es) d) h)
    (λ k. head_or (holds d e) (is_held_in es d) (IsThis d0 r d) (result_holds d0 d r e test own k))
    (λ k. tail_or (holds d e) (is_held_in es d) (IsThis d0 r d) (result_held d0 d r es k))

no_new_append : (xs ys : List Seizing) (d : ℕ) → is_held_in ys d ≡ false → is_held_in (xs ++ ys) d ≡ true → is_held_in xs d ≡ true
no_new_append xs ys d none h =
    either_of (or_cases (is_held_in xs d) (is_held_in ys d) (sym (list_any-append (holds d) xs ys) ∙ h)) (λ k. k) (λ k. absurd (false_true (sym none ∙ k)))

entries_not : (s : AttemptState) (o : Option BothVotes) (d : ℕ) → is_held_in (vote_entries_under s o) d ≡ false
entries_not s None d = refl
entries_not s (Some both) d = votes_not s.plan s.promises both s.plan.attached d

says_held : (p d : ℕ) (r : SeizeResult) → is_held_by (Some r) ≡ true → SaysHeld p d (body.Seized p d r)
says_held p d (told.Held keys) h = (refl, refl)
says_held p d (told.NotRegistered keys) h = absurd (false_true h)
says_held p d (told.Greater word) h = absurd (false_true h)
says_held p d told.Expelled h = absurd (false_true h)
says_held p d (told.Contended key) h = absurd (false_true h)
says_held p d told.Fault h = absurd (false_true h)

was_asked : (s : AttemptState) (d n : ℕ) (e : Seizing) → find (awaits d n) s.devices ≡ Some e → WasAsked s d n
was_asked s d n e is = subst IsSome (sym is) refl

-- the call that tells that the device is held
tells_held : (c : Call) (s : AttemptState) (d from : ℕ) (r : SeizeResult) (e : Seizing) → TellsResult c s d from r → find (awaits d from) s.devices ≡ Some e → is_held_by (Some r) ≡ true
    → TellsHeld s c d
tells_held (Take n m) s d from r e tells found held =
    (subst (SaysHeld s.plan.epoch d) (sym tells.1) (says_held s.plan.epoch d r held), subst (WasAsked s d) (sym tells.0) (was_asked s d from e found))
tells_held (Own_seized device result) s d from r e tells found held =
    (tells.0, ap (λ x. is_held_by (Some x)) tells.1 ∙ held, subst (WasAsked s d) tells.2 (was_asked s d from e found))
tells_held (With_votes both) s d from r e tells found held = absurd tells
tells_held Own_ready s d from r e tells found held = absurd tells
tells_held Tick s d from r e tells found held = absurd tells

-- each device that is held now was held before, or the call tells of it
abbrev IsToldBy : AttemptState → Call → List Seizing → Type 0
IsToldBy s c devices = (d : ℕ) → is_held_in devices d ≡ true → (is_held_in s.devices d ≡ true) ⊎ TellsHeld s c d

at_rest : (s s0 : AttemptState) (c : Call) → s ≡ s0 → IsToldBy s0 c s.devices
at_rest s s0 c is d h = inl (sym (ap (λ x. is_held_in x.devices d) is) ∙ h)

this_one : (s s0 : AttemptState) (c : Call) (x from d : ℕ) (r : SeizeResult) (e : Seizing) → s ≡ s0 → TellsResult c s x from r → find (awaits x from) s.devices ≡ Some e → IsThis x r d
    → TellsHeld s0 c d
this_one s s0 c x from d r e is tells found this =
    subst (λ a. TellsHeld a c d) is (subst (TellsHeld s c) this.0 (tells_held c s x from r e tells found this.1))

walk : (s0 : AttemptState) (c : Call) → Walk c (λ s. s ≡ s0) (λ s. IsToldBy s0 c s.devices) (λ t. IsToldBy s0 c t.after.devices)
unfolding asked_next installing
walk s0 c = record {
  within = λ s i. at_rest s s0 c i;
  rests = λ s i. at_rest s s0 c i;
  passes = λ s is e i. at_rest s s0 c i;
  again = λ s is e i. at_rest s s0 c i;
  silent = λ s n is late least i. at_rest s s0 c i;
  superseded = λ s from m q is nack i. at_rest s s0 c i;
  promise = λ s from m p is awaited of promised i. at_rest s s0 c i;
  collects = λ s is e k. k;
  collecting = λ s is e k. k;
  no_newest = λ s is all none k. k;
  chosen = λ s newest is all some k. k;
  votes = λ s both is i d h. absurd (false_true h);
  foreign = λ s both n is given least k. k;
  excluded = λ s n is least k. k;
  impossible = λ s e is short k. k;
  entries = λ s is enough k d h. absurd (false_true (sym (entries_not s s.votes d) ∙ h));
  requests = λ s is e k. k;
  result = λ s x from r e is tells found none i d h.
      either_of (result_held x d r s.devices h) (λ was. at_rest s s0 c i d was) (λ this. inr (this_one s s0 c x from d r e i tells found this));
  next = λ s x from n r e is tells found next i d h. at_rest s s0 c i d (sym (next_held x n d s.devices) ∙ h);
  seizing = λ s is e k. k;
  short = λ s e is all few k. k;
  others = λ s is all enough some k d h. k d (no_new_append s.devices (plain_devices s) d (plain_not s.plan s.devices s.plan.attached d) h);
  installs_at_once = λ s is all enough none k. k;
  installs = λ s is all k. k;
  ready = λ s from m is at of ready_body i. at_rest s s0 c i;
  own = λ s is at i. at_rest s s0 c i;
  installing = λ s at e k. k;
  starts = λ s at e k. k;
}

pub held_is_told : HeldIsTold
held_is_told s c d h = walks (λ x. x ≡ s) (λ x. IsToldBy s c x.devices) (λ t. IsToldBy s c t.after.devices) s c (walk s c) refl d h
