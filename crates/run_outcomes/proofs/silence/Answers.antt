-- Each call of an attempt leaves those answered that were asked to seize a device, but for the one whose answer is awaited.
use Rattle.std.specs.Prelude.{ℕ, ◌==◌, ◌&&◌, ◌||◌, ◌≡◌, ◌⊎◌, ◌≤◌, ◌++◌, not, Bool, true, false, List, Option, None, Some, is_none, is_some, map, option_map, if◌then◌else◌}
use Rattle.std.specs.List.{find}
use Rattle.std.proofs.Common.{arith, refl, sym, ap, subst, ◌∙◌, inl, inr}
use Rattle.attempt_laws.proofs.StillHeld.{same_attached}
use Rattle.attempt_laws.proofs.Walk.{IsSeizing, TellsResult, Walk, walks, walks_begun}
use Rattle.attempt_laws.specs.Asking.{AreApart, entry_numbers, entry_of}
use Rattle.cl_base.proofs.SetLemmas.{none_of_zero}
use Rattle.cl_base.specs.Numbers.{numbers_to}
use Rattle.cl_base.specs.Seizings.{SeizeResult}
use Rattle.cl_base.specs.Sets.{has, set_with}
use Rattle.cmm_attempt.proofs.Basics.{false_true, none_some, or_cases, same_number, same_some}
use Rattle.cmm_attempt.specs.Attempts.{AttemptState, Turn, asked_next, begun, installing, plain_devices, vote_entries_under}
use Rattle.cmm_attempt.specs.Calls.{Call, May, Tick, turn}
use Rattle.cmm_attempt.specs.Counts.{is_quorum, vote_new}
use Rattle.cmm_attempt.specs.Plans.{is_reachable}
use Rattle.cmm_attempt.specs.Seizings.{all_settled, awaits, first_seizer, is_asked, is_seized, may_seize, next_by, plain_entry, plain_new, vote_entry, with_next, with_result}
use Rattle.cmm_attempt.specs.declared.attached.AttachedDevice.{AttachedDevice}
use Rattle.cmm_attempt.specs.declared.counting.BothVotes.{BothVotes}
use Rattle.cmm_attempt.specs.declared.phase.Phase.{Phase}
use Rattle.cmm_attempt.specs.declared.phase.Phase.TheVariants.{Choosing, Collecting, Installing, Over, SeizingOthers, SeizingVotes}
use Rattle.cmm_attempt.specs.declared.plan.Plan.{Plan}
use Rattle.cmm_attempt.specs.declared.seizing.Seizing.{Seizing}
use Rattle.seize.specs.declared.kind.SeizeKind.TheVariants.{Plain}
use Rattle.run_outcomes.specs.tasks.Asks.{IsEarly}
use Rattle.run_outcomes.specs.silence.Asked.{Answers, AnswersIn, HasAnswered, IsSettledAt, IsSound}
use Rattle.run_outcomes.proofs.asks.Apart.{appended_by, apart_append, apart_new, entry_found, entry_mapped, entry_new, found_device, lacks_seized, numbers_mapped, plain_keeps, settled_one}
use Rattle.run_outcomes.proofs.asks.Entries.{IsNext, found_node, next_of, with_one}
use Rattle.run_outcomes.proofs.silence.Data.{votes_apart}

-- ---- phases

late : (plan : Plan) (devices : List Seizing) (was phase : Phase) → (IsEarly phase → ⊥) → IsSound plan devices was → IsSound plan devices phase
late plan devices was phase past h = record { nodes = h.nodes; attached = h.attached; apart = h.apart; early = λ early. absurd (past early) }

in_phase_so : (m d : ℕ) (came : Bool) (plan : Plan) (devices : List Seizing) (was phase : Phase) → (IsEarly phase → ⊥) → (phase ≡ Installing → IsSettledAt (entry_of devices d)) → AnswersIn m d came plan devices was → AnswersIn m d came plan devices phase
in_phase_so m d came plan devices was phase past settled h = record { sound = late plan devices was phase past h.sound; told = h.told; settled = settled }

IsInstalling : Phase → Type 0
IsInstalling Installing = Unit {0}
IsInstalling _ = ⊥

other : (p : Phase) → p ≡ Installing → (IsInstalling p → ⊥) → ⊥
unfolding IsInstalling
other p at not = not (subst IsInstalling (sym at) tt)

seizing_other : (p : Phase) → IsSeizing p → p ≡ Installing → ⊥
unfolding IsInstalling
seizing_other p (inl is) at = other SeizingVotes (sym is ∙ at) (λ x. x)
seizing_other p (inr is) at = other SeizingOthers (sym is ∙ at) (λ x. x)

-- once each seizing is over
all_settled_at : (es : List Seizing) (d : ℕ) → all_settled es ≡ true → IsSettledAt (entry_of es d)
all_settled_at es d all = by_entry (entry_of es d) refl
  where
    ended : (o : Option SeizeResult) → is_some o ≡ true → is_none o ≡ false
    ended None h = absurd (false_true h)
    ended (Some r) h = refl

    by_entry : (o : Option Seizing) → entry_of es d ≡ o → IsSettledAt o
    by_entry None is = tt
    by_entry (Some e) is = ended e.result (settled_one es d e all is)

over : (m d : ℕ) (came : Bool) (s : AttemptState) → Answers m d came s → Answers m d came (record s { phase = Over })
unfolding IsInstalling
over m d came s h = in_phase_so m d came s.plan s.devices s.phase Over (λ x. x) (λ at. absurd (other Over at (λ x. x))) h

-- ---- new entries

-- a new entry awaits the one that it asks
fresh : (plan : Plan) (c m : ℕ) (came : Bool) (p : ℕ → Bool) (n : ℕ) (e : Seizing) → plan.nodes ≡ numbers_to plan.members 32 → find p plan.nodes ≡ Some n → e.asked ≡ set_with 0 n → e.seizer ≡ Some n → e.result ≡ None → HasAnswered c m came (Some e)
fresh plan c m came p n e nodes found asked seizer result is other =
    let range : (1 ≤ n) × (n ≤ 32) = found_node plan p n nodes found in
    inr (
      ap (λ o. is_asked o m) seizer ∙ same n m (sym (with_one 0 n m range.0 range.1 ∙ ap (λ b. (m == n) || b) (none_of_zero m)) ∙ (ap (λ k. has k m) (sym asked) ∙ is)),
      ap is_none result,
    )
  where
    same : (n m : ℕ) → ((m == n) || false) ≡ true → (n == m) ≡ true
    same n m h = grind arith

none_asked : (c m : ℕ) (came : Bool) (e : Seizing) → e.asked ≡ 0 → HasAnswered c m came (Some e)
none_asked c m came e none is other = absurd (false_true (sym (none_of_zero m) ∙ (ap (λ k. has k m) (sym none) ∙ is)))

vote_fresh : (plan : Plan) (c m : ℕ) (came : Bool) (p : ℕ → Bool) (a : AttachedDevice) (o : Option ℕ) → plan.nodes ≡ numbers_to plan.members 32 → find p plan.nodes ≡ o → HasAnswered c m came (Some (vote_entry a o))
vote_fresh plan c m came p a None nodes found = none_asked c m came (vote_entry a None) refl
vote_fresh plan c m came p a (Some n) nodes found = fresh plan c m came p n (vote_entry a (Some n)) nodes found refl refl refl

vote_new_fresh : (s : AttemptState) (m : ℕ) (came : Bool) (both : BothVotes) → s.plan.nodes ≡ numbers_to s.plan.members 32 → (a : AttachedDevice) (e : Seizing) → vote_new s.plan s.promises both a ≡ Some e → HasAnswered s.plan.coordinator m came (Some e)
vote_new_fresh s m came both nodes a e is = by_test (is_quorum both a.device && is_reachable s.plan a) is
  where
    by_test : (b : Bool) → (if b then Some (vote_entry a (first_seizer s.plan s.promises a)) else None) ≡ Some e → HasAnswered s.plan.coordinator m came (Some e)
    by_test true k =
        subst (λ x. HasAnswered s.plan.coordinator m came (Some x)) (same_some _ e k) (vote_fresh s.plan s.plan.coordinator m came (may_seize s.promises a) a (first_seizer s.plan s.promises a) nodes refl)
    by_test false k = absurd (none_some e k)

vote_at : (s : AttemptState) (m d : ℕ) (came : Bool) (v : Option BothVotes) → s.plan.nodes ≡ numbers_to s.plan.members 32 → HasAnswered s.plan.coordinator m came (entry_of (vote_entries_under s v) d)
vote_at s m d came None nodes = tt
vote_at s m d came (Some both) nodes = by_entry (entry_of (vote_entries_under s (Some both)) d) refl
  where
    by_entry : (o : Option Seizing) → entry_of (vote_entries_under s (Some both)) d ≡ o → HasAnswered s.plan.coordinator m came o
    by_entry None is = tt
    by_entry (Some e) is = entry_new (vote_new s.plan s.promises both) (λ x. HasAnswered s.plan.coordinator m came (Some x)) (vote_new_fresh s m came both nodes) s.plan.attached d e is

plain_fresh : (plan : Plan) (c m : ℕ) (came : Bool) (a : AttachedDevice) (o : Option ℕ) (e : Seizing) → plan.nodes ≡ numbers_to plan.members 32 → find (λ n. has a.nodes n) plan.nodes ≡ o → plain_entry a o ≡ Some e → HasAnswered c m came (Some e)
plain_fresh plan c m came a None e nodes found is = absurd (none_some e is)
plain_fresh plan c m came a (Some n) e nodes found is = subst (λ x. HasAnswered c m came (Some x)) (same_some _ e is) (fresh plan c m came (λ k. has a.nodes k) n (record { attached = a; kind = Plain; seizer = Some n; asked = set_with 0 n; result = None }) nodes found refl refl refl)

plain_new_fresh : (s : AttemptState) (m : ℕ) (came : Bool) → s.plan.nodes ≡ numbers_to s.plan.members 32 → (a : AttachedDevice) (e : Seizing) → plain_new s.plan s.devices a ≡ Some e → HasAnswered s.plan.coordinator m came (Some e)
plain_new_fresh s m came nodes a e is = by_test (is_seized s.devices a.device) is
  where
    by_test : (b : Bool) → (if b then None else plain_entry a (find (λ n. has a.nodes n) s.plan.nodes)) ≡ Some e → HasAnswered s.plan.coordinator m came (Some e)
    by_test true k = absurd (none_some e k)
    by_test false k = plain_fresh s.plan s.plan.coordinator m came a (find (λ n. has a.nodes n) s.plan.nodes) e nodes refl k

others_at : (s : AttemptState) (m d : ℕ) (came : Bool) → Answers m d came s → HasAnswered s.plan.coordinator m came (entry_of (s.devices ++ plain_devices s) d)
others_at s m d came h = by_entry (entry_of s.devices d) refl h.told
  where
    by_new : (o : Option Seizing) → entry_of (plain_devices s) d ≡ o → HasAnswered s.plan.coordinator m came o
    by_new None is = tt
    by_new (Some e) is = entry_new (plain_new s.plan s.devices) (λ x. HasAnswered s.plan.coordinator m came (Some x)) (plain_new_fresh s m came h.sound.nodes) s.plan.attached d e is

    by_entry : (o : Option Seizing) → entry_of s.devices d ≡ o → HasAnswered s.plan.coordinator m came o → HasAnswered s.plan.coordinator m came (entry_of (s.devices ++ plain_devices s) d)
    by_entry (Some e) is k = subst (HasAnswered s.plan.coordinator m came) (sym (appended_by d s.devices (plain_devices s) (Some e) is)) k
    by_entry None is k = subst (HasAnswered s.plan.coordinator m came) (sym (appended_by d s.devices (plain_devices s) None is)) (by_new (entry_of (plain_devices s) d) refl)

-- ---- an answer is taken

-- what the call brings has come
abbrev Brings : ℕ → ℕ → Bool → Call → AttemptState → Type 0
Brings m d came c s = (r : SeizeResult) → TellsResult c s d m r → (m == s.plan.coordinator) ≡ false → came ≡ true

parts : (x from : ℕ) (e : Seizing) → awaits x from e ≡ true → ((e.attached.device == x) ≡ true) × (is_none e.result ≡ true) × (is_asked e.seizer from ≡ true)
parts x from e h = three (e.attached.device == x) (is_none e.result) (is_asked e.seizer from) h
  where
    three : (a b c : Bool) → (a && b && c) ≡ true → (a ≡ true) × (b ≡ true) × (c ≡ true)
    three true true true k = (refl, refl, refl)
    three true true false k = absurd (false_true k)
    three true false c k = absurd (false_true k)
    three false b c k = absurd (false_true k)

same_asked : (o : Option ℕ) (m n : ℕ) → is_asked o m ≡ true → is_asked o n ≡ true → n ≡ m
same_asked None m n h k = absurd (false_true h)
same_asked (Some j) m n h k = sym (same_number j n k) ∙ same_number j m h

-- each that was asked has answered, once the awaited answer is there
all_answered : (m d x from : ℕ) (came : Bool) (c : Call) (s : AttemptState) (r : SeizeResult) (e y : Seizing) → Brings m d came c s → TellsResult c s x from r → IsSound s.plan s.devices s.phase → find (awaits x from) s.devices ≡ Some e
    → entry_of s.devices d ≡ Some y → (y.attached.device == x) ≡ true → HasAnswered s.plan.coordinator m came (Some y) → has y.asked m ≡ true → (m == s.plan.coordinator) ≡ false → came ≡ true
all_answered m d x from came c s r e y brings tells sound found at here h asked other = by_side (h asked other)
  where
    two : (entry_of s.devices x ≡ Some e) × (awaits x from e ≡ true)
    two = entry_found x (awaits x from) (λ z k. (parts x from z k).0) s.devices sound.apart e found

    device : d ≡ x
    device = sym (found_device s.devices d y at) ∙ same_number y.attached.device x here

    same : y ≡ e
    same = same_some y e (sym at ∙ (ap (entry_of s.devices) device ∙ two.0))

    by_side : (came ≡ true) ⊎ ((is_asked y.seizer m ≡ true) × (is_none y.result ≡ true)) → came ≡ true
    by_side (inl k) = k
    by_side (inr k) =
        let who : from ≡ m = same_asked e.seizer m from (subst (λ (z : Seizing). is_asked z.seizer m ≡ true) same k.0) (parts x from e two.1).2 in
        brings r (subst (λ j. TellsResult c s j m r) (sym device) (subst (λ j. TellsResult c s x j r) who tells)) other

result_answers : (m d x from : ℕ) (came : Bool) (c : Call) (s : AttemptState) (r : SeizeResult) (e : Seizing) → IsSeizing s.phase → Brings m d came c s → TellsResult c s x from r → find (awaits x from) s.devices ≡ Some e → Answers m d came s
    → Answers m d came (record s { devices = map (with_result x r) s.devices })
result_answers m d x from came c s r e is brings tells found h = record {
  settled = λ at. absurd (seizing_other s.phase is at);
  sound = record {
    nodes = h.sound.nodes;
    attached = h.sound.attached;
    apart = subst AreApart (sym (numbers_mapped (with_result x r) same s.devices)) h.sound.apart;
    early = λ early. ap (map (with_result x r)) (h.sound.early early);
  };
  told = subst (HasAnswered s.plan.coordinator m came) (sym (entry_mapped (with_result x r) same s.devices d)) (by_entry (entry_of s.devices d) refl h.told);
}
  where
    same : (y : Seizing) → (with_result x r y).attached ≡ y.attached
    same y = same_attached y (record y { result = Some r }) ((y.attached.device == x) && is_none y.result) refl

    by_entry : (o : Option Seizing) → entry_of s.devices d ≡ o → HasAnswered s.plan.coordinator m came o → HasAnswered s.plan.coordinator m came (option_map (with_result x r) o)
    by_entry None at k = tt
    by_entry (Some y) at k = by_tests (y.attached.device == x) refl (is_none y.result)
      where
        by_tests : (a : Bool) → (y.attached.device == x) ≡ a → (b : Bool) → HasAnswered s.plan.coordinator m came (Some (if a && b then record y { result = Some r } else y))
        by_tests true here true = λ asked other. inl (all_answered m d x from came c s r e y brings tells h.sound found at here k asked other)
        by_tests true here false = k
        by_tests false here b = k

next_answers : (m d x from n : ℕ) (came : Bool) (c : Call) (s : AttemptState) (r : SeizeResult) (e : Seizing) → IsSeizing s.phase → Brings m d came c s → TellsResult c s x from r → find (awaits x from) s.devices ≡ Some e
    → next_by s.plan.cluster s.promises s.plan.nodes e e.kind r ≡ Some n → Answers m d came s → Answers m d came (asked_next s x e.kind n).after
unfolding asked_next
next_answers m d x from n came c s r e is brings tells found next h = record {
  settled = λ at. absurd (seizing_other s.phase is at);
  sound = record {
    nodes = h.sound.nodes;
    attached = h.sound.attached;
    apart = subst AreApart (sym (numbers_mapped (with_next x n) same s.devices)) h.sound.apart;
    early = λ early. ap (map (with_next x n)) (h.sound.early early);
  };
  told = subst (HasAnswered s.plan.coordinator m came) (sym (entry_mapped (with_next x n) same s.devices d)) (by_entry (entry_of s.devices d) refl h.told);
}
  where
    range : IsNext s.promises e e.kind n
    range = next_of s.plan.cluster s.promises s.plan e e.kind r n h.sound.nodes next

    same : (y : Seizing) → (with_next x n y).attached ≡ y.attached
    same y = same_attached y (record y { seizer = Some n; asked = set_with y.asked n }) ((y.attached.device == x) && is_none y.result) refl

    flip : (a b : ℕ) → (a == b) ≡ true → (b == a) ≡ true
    flip a b k = grind arith

    by_entry : (o : Option Seizing) → entry_of s.devices d ≡ o → HasAnswered s.plan.coordinator m came o → HasAnswered s.plan.coordinator m came (option_map (with_next x n) o)
    by_entry None at k = tt
    by_entry (Some y) at k = by_tests (y.attached.device == x) refl (is_none y.result) refl
      where
        t : Seizing
        t = record y { seizer = Some n; asked = set_with y.asked n }

        by_asked : (y.attached.device == x) ≡ true → is_none y.result ≡ true → (m == s.plan.coordinator) ≡ false → ((m == n) ≡ true) ⊎ (has y.asked m ≡ true) → (came ≡ true) ⊎ ((is_asked t.seizer m ≡ true) × (is_none t.result ≡ true))
        by_asked here none other (inl it) = inr (flip m n it, none)
        by_asked here none other (inr was) = inl (all_answered m d x from came c s r e y brings tells h.sound found at here k was other)

        by_tests : (a : Bool) → (y.attached.device == x) ≡ a → (b : Bool) → is_none y.result ≡ b → HasAnswered s.plan.coordinator m came (Some (if a && b then t else y))
        by_tests true here true none = λ asked other. by_asked here none other (or_cases (m == n) (has y.asked m) (sym (with_one y.asked n m range.low range.high) ∙ asked))
        by_tests true here false none = k
        by_tests false here b none = k

-- ---- the calls

abbrev At : ℕ → ℕ → Bool → Call → AttemptState → Type 0
At m d came c s = Answers m d came s × May s c × Brings m d came c s

abbrev After : ℕ → ℕ → Bool → Turn → Type 0
After m d came u = Answers m d came u.after

walk : (m d : ℕ) (came : Bool) (c : Call) → Walk c (At m d came c) (Answers m d came) (After m d came)
unfolding installing IsInstalling
walk m d came c = record {
  within = λ s i. i.0;
  rests = λ s i. i.0;
  passes = λ s is e i. i.0;
  again = λ s is e i. i.0;
  silent = λ s n is late least i. over m d came s i.0;
  superseded = λ s from x q is nack i. over m d came s i.0;
  promise = λ s from x p is awaited of promised i. i.0;
  collects = λ s is e k. k;
  collecting = λ s is e k. k;
  no_newest = λ s is all none k. k;
  chosen = λ s newest is all some k. record {
    sound = record { nodes = k.sound.nodes; attached = k.sound.attached; apart = k.sound.apart; early = λ early. k.sound.early (subst IsEarly (sym is) tt) };
    told = k.told;
    settled = λ at. absurd (other Choosing at (λ x. x));
  };
  votes = λ s both is i. record { sound = record { nodes = i.0.sound.nodes; attached = i.0.sound.attached; apart = tt; early = λ early. absurd early }; told = tt; settled = λ at. tt };
  foreign = λ s both n is given least k. over m d came s k;
  excluded = λ s n is least k. over m d came s k;
  impossible = λ s e is short k. over m d came s k;
  entries = λ s is enough k. record {
    sound = record { nodes = k.sound.nodes; attached = k.sound.attached; apart = votes_apart s s.votes k.sound.attached; early = λ early. absurd (subst IsEarly is early) };
    told = vote_at s m d came s.votes k.sound.nodes;
    settled = λ at. absurd (seizing_other s.phase (inl is) at);
  };
  requests = λ s is e k. k;
  result = λ s x from r e is tells found none i. result_answers m d x from came c s r e is i.2 tells found i.0;
  next = λ s x from n r e is tells found next i. next_answers m d x from n came c s r e is i.2 tells found next i.0;
  seizing = λ s is e k. k;
  short = λ s e is all few k. over m d came s k;
  others = λ s is all enough some k.
      let apart : AreApart (entry_numbers (plain_devices s)) = apart_new (plain_new s.plan s.devices) (plain_keeps s.plan s.devices) s.plan.attached k.sound.attached in
      record {
        sound = record {
          nodes = k.sound.nodes;
          attached = k.sound.attached;
          apart = apart_append s.devices (plain_devices s) k.sound.apart apart (lacks_seized s.plan s.devices s.plan.attached);
          early = λ early. absurd early;
        };
        told = others_at s m d came k;
        settled = λ at. absurd (other SeizingOthers at (λ x. x));
      };
  installs_at_once = λ s is all enough none k. in_phase_so m d came s.plan s.devices s.phase Installing (λ x. x) (λ _. all_settled_at s.devices d all) k;
  installs = λ s is all k. in_phase_so m d came s.plan s.devices s.phase Installing (λ x. x) (λ _. all_settled_at s.devices d all) k;
  ready = λ s from x is at of ready_body i. i.0;
  own = λ s is at i. i.0;
  installing = λ s at e k. k;
  starts = λ s at e k. over m d came s k;
}

pub call_answers : (m d : ℕ) (came : Bool) (s : AttemptState) (c : Call) → May s c → Brings m d came c s → Answers m d came s → Answers m d came (turn s c).after
call_answers m d came s c may brings h = walks (At m d came c) (Answers m d came) (After m d came) s c (walk m d came c) (h, may, brings)

pub begun_answers : (m d : ℕ) (came : Bool) (s : AttemptState) → s.phase ≡ Collecting → Answers m d came s → Answers m d came (begun s).after
begun_answers m d came s is h = walks_begun Tick (At m d came Tick) (Answers m d came) (After m d came) (walk m d came Tick) s is h
