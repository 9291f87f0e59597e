-- A call leaves an attempt in its phase, with no tick fewer, or it chooses, ends, installs, or asks a member anew.
use Rattle.std.specs.Prelude.{ℕ, ◌==◌, ◌≡◌, ◌≤◌, ◌⊎◌, ◌&&◌, ◌||◌, ◌++◌, Bool, true, false, List, [], ◌∷◌, Option, None, Some, find, length, map, option_map, is_none, if◌then◌else◌}
use Rattle.std.specs.List.{cons_option, filter_map}
use Rattle.std.proofs.Common.{arith, refl, sym, ap, subst, ◌∙◌, inl, inr}
use Rattle.attempt_laws.specs.Asking.{AreApart, entry_numbers, entry_of, numbers_of}
use Rattle.attempt_laws.specs.Staying.{IsBefore}
use Rattle.cl_base.specs.Numbers.{numbers_to}
use Rattle.cl_base.specs.Seizings.{SeizeResult}
use Rattle.cl_base.specs.Sets.{has, set_with}
use Rattle.cmm_attempt.proofs.Basics.{false_true, if_either, none_some, same_number, same_some}
use Rattle.cmm_attempt.specs.Attempts.{AttemptState, Turn, answered_on, answering, answering_in, asked_next, asked_plain, counted_by, counting, in_phase, installing, next_asked, plain_devices, proceeding, seizing_others, settled, settled_in, shortage, waits, with_steps}
use Rattle.cmm_attempt.specs.Seizings.{all_settled, awaits, held_set, is_seized, next_by, plain_entry, plain_new, request_for, with_next, with_result}
use Rattle.cmm_attempt.specs.declared.attached.AttachedDevice.{AttachedDevice}
use Rattle.cmm_attempt.specs.declared.phase.Phase.{Phase}
use Rattle.cmm_attempt.specs.declared.phase.Phase.TheVariants.{Choosing, Collecting, Installing, Over, SeizingOthers, SeizingVotes}
use Rattle.cmm_attempt.specs.declared.plan.Plan.{Plan}
use Rattle.cmm_attempt.specs.declared.seizing.Seizing.{Seizing}
use Rattle.cmm_attempt.specs.declared.step.AttemptEnd.{AttemptEnd}
use Rattle.run_downs.proofs.Courses.{by_test}
use Rattle.run_outcomes.specs.phases.Laws.{is_seizing}
use Rattle.run_outcomes.specs.silence.Anew.{NewAsk, has_asked_at}
use Rattle.run_outcomes.proofs.asks.Entries.{IsNext, found_node, next_of, with_one}
use Rattle.run_outcomes.proofs.results.Apart.{mapped_apart, others_apart}
use Rattle.run_outcomes.proofs.seized.Finding.{Awaited, awaited, entry_first, entry_mapped, entry_second}

-- ---- what becomes of an attempt

abbrev pub IsApart : AttemptState → Type 0
IsApart s = AreApart (entry_numbers s.devices)

-- it goes on as it was
pub record Lasts (f : ℕ) (o s : AttemptState) : Type 0 where
  pub ticks : f ≤ s.ticks
  pub phase : s.phase ≡ o.phase
  pub asked : (d m : ℕ) → has_asked_at m (entry_of s.devices d) ≡ has_asked_at m (entry_of o.devices d)
  pub apart : IsApart s

-- it installs, or asks anew
pub record Anew (o s : AttemptState) : Type 0 where
  pub early : IsBefore o.phase
  pub way : (s.phase ≡ Installing) ⊎ ((is_seizing s.phase ≡ true) × NewAsk o s)
  pub more : (d m : ℕ) → has_asked_at m (entry_of o.devices d) ≡ true → has_asked_at m (entry_of s.devices d) ≡ true
  pub apart : IsApart s

abbrev pub Leaves : AttemptState → AttemptState → Type 0
Leaves o s = (s.phase ≡ Over) ⊎ Anew o s

abbrev pub Moves : ℕ → AttemptState → AttemptState → Type 0
Moves f o s = ((s.phase ≡ Choosing) × (o.phase ≡ Collecting)) ⊎ (Lasts f o s ⊎ Leaves o s)

pub leaves_moves : (f : ℕ) (o s : AttemptState) → Leaves o s → Moves f o s
leaves_moves f o s h = inr (inr h)

pub lasts_moves : (f : ℕ) (o s : AttemptState) → Lasts f o s → Moves f o s
lasts_moves f o s h = inr (inl h)

-- its plan
pub record IsPlan (plan : Plan) : Type 0 where
  pub nodes : plan.nodes ≡ numbers_to plan.members 32
  pub attached : AreApart (numbers_of plan.attached)

-- ---- it installs, or seizes the other devices

installing_l : (f : ℕ) (o s : AttemptState) → IsBefore o.phase → Lasts f o s → Leaves o (installing s).after
unfolding installing
installing_l f o s early h = inr (record { early = early; way = inl refl; more = λ d m is. h.asked d m ∙ is; apart = h.apart })

none_seized : (es : List Seizing) (d : ℕ) → is_seized es d ≡ false → entry_of es d ≡ None
none_seized [] d h = refl
none_seized (x ∷ es) d h = by_value (x.attached.device == d) (λ k. none_seized es d k) h
  where
    by_value : (b : Bool) → (is_seized es d ≡ false → entry_of es d ≡ None) → (b || is_seized es d) ≡ false → (if b then Some x else entry_of es d) ≡ None
    by_value true rest k = absurd (false_true (sym k))
    by_value false rest k = rest k

itself : (a b : ℕ) → a ≡ b → (a == b) ≡ true
itself a b h = grind arith

or_first : (a b : Bool) → a ≡ true → (a || b) ≡ true
or_first true b h = refl
or_first false b h = absurd (false_true h)

or_second : (a b : Bool) → b ≡ true → (a || b) ≡ true
or_second true b h = refl
or_second false b h = h

-- a new entry is of a device that was not seized, and asks someone
pub record IsNew (devices : List Seizing) (e : Seizing) : Type 0 where
  pub unseized : is_seized devices e.attached.device ≡ false
  pub member : ℕ
  pub asked : has e.asked member ≡ true

one_new : (plan : Plan) (devices : List Seizing) (a : AttachedDevice) (e : Seizing) → plan.nodes ≡ numbers_to plan.members 32 → plain_new plan devices a ≡ Some e → IsNew devices e
one_new plan devices a e nodes is = by_seized (is_seized devices a.device) refl is
  where
    by_found : (o : Option ℕ) → find (λ n. has a.nodes n) plan.nodes ≡ o → is_seized devices a.device ≡ false → plain_entry a o ≡ Some e → IsNew devices e
    by_found None found free k = absurd (none_some e k)
    by_found (Some n) found free k =
        let range : (1 ≤ n) × (n ≤ 32) = found_node plan (λ j. has a.nodes j) n nodes found in
        subst (IsNew devices) (same_some _ e k) (record { unseized = free; member = n; asked = with_one 0 n n range.0 range.1 ∙ or_first (n == n) (has 0 n) (itself n n refl) })

    by_seized : (b : Bool) → is_seized devices a.device ≡ b → (if b then None else plain_entry a (find (λ n. has a.nodes n) plan.nodes)) ≡ Some e → IsNew devices e
    by_seized true seized k = absurd (none_some e k)
    by_seized false free k = by_found (find (λ n. has a.nodes n) plan.nodes) refl free k

head_same : (x z : Seizing) (xs zs : List Seizing) → x ∷ xs ≡ z ∷ zs → x ≡ z
head_same x z xs zs e = cc

first_new : (plan : Plan) (devices : List Seizing) (ds : List AttachedDevice) (z : Seizing) (zs : List Seizing) → plan.nodes ≡ numbers_to plan.members 32 → filter_map (plain_new plan devices) ds ≡ z ∷ zs → IsNew devices z
first_new plan devices [] z zs nodes is = absurd (nothing is)
  where
    nothing : [] ≡ z ∷ zs → ⊥
    nothing e = cc
first_new plan devices (a ∷ ds) z zs nodes is = by_one (plain_new plan devices a) refl (λ k. first_new plan devices ds z zs nodes k) is
  where
    by_one : (o : Option Seizing) → plain_new plan devices a ≡ o → (filter_map (plain_new plan devices) ds ≡ z ∷ zs → IsNew devices z) → cons_option o (filter_map (plain_new plan devices) ds) ≡ z ∷ zs → IsNew devices z
    by_one None at rest k = rest k
    by_one (Some x) at rest k = one_new plan devices a z nodes (at ∙ ap Some (head_same x z (filter_map (plain_new plan devices) ds) zs k))

asked_more_l : (f : ℕ) (o s : AttemptState) (more : List Seizing) → plain_devices s ≡ more → IsPlan s.plan → IsBefore o.phase → Lasts f o s → Leaves o (asked_plain s more).after
asked_more_l f o s [] is plan early h = installing_l f o s early h
asked_more_l f o s (z ∷ zs) is plan early h =
    by_test (λ (u : Turn). Leaves o u.after) (length (z ∷ zs) == 0) (installing s) (with_steps (record (in_phase s SeizingOthers) { devices = s.devices ++ (z ∷ zs) }) (filter_map (request_for s.plan) (z ∷ zs))) (λ zero. absurd (some_length (same_number (length (z ∷ zs)) 0 zero)))
    (λ some. inr (record { early = early; way = inr (refl, ask); more = more; apart = subst (λ es. AreApart (entry_numbers (s.devices ++ es))) is (others_apart s plan.attached h.apart) }))
  where
    some_length : length (z ∷ zs) ≡ 0 → ⊥
    some_length e = cc

    new : IsNew s.devices z
    new = first_new s.plan s.devices s.plan.attached z zs plan.nodes is

    d : ℕ
    d = z.attached.device

    none : entry_of s.devices d ≡ None
    none = none_seized s.devices d new.unseized

    head : entry_of (z ∷ zs) d ≡ Some z
    head = ap (λ b. if b then Some z else entry_of zs d) (itself d d refl)

    ask : NewAsk o (record (in_phase s SeizingOthers) { devices = s.devices ++ (z ∷ zs) })
    ask = record {
      device = d;
      member = new.member;
      now = ap (has_asked_at new.member) (entry_second d s.devices (z ∷ zs) none ∙ head) ∙ new.asked;
      before = sym (h.asked d new.member) ∙ ap (has_asked_at new.member) none;
    }

    more : (j m : ℕ) → has_asked_at m (entry_of o.devices j) ≡ true → has_asked_at m (entry_of (s.devices ++ (z ∷ zs)) j) ≡ true
    more j m was = by_entry (entry_of s.devices j) refl (h.asked j m ∙ was)
      where
        by_entry : (e : Option Seizing) → entry_of s.devices j ≡ e → has_asked_at m e ≡ true → has_asked_at m (entry_of (s.devices ++ (z ∷ zs)) j) ≡ true
        by_entry None at k = absurd (false_true k)
        by_entry (Some e) at k = ap (has_asked_at m) (entry_first j s.devices (z ∷ zs) e at) ∙ k

others_l : (f : ℕ) (o s : AttemptState) → IsPlan s.plan → IsBefore o.phase → Lasts f o s → Leaves o (seizing_others s).after
unfolding seizing_others
others_l f o s plan early h = asked_more_l f o s (plain_devices s) refl plan early h

counted_l : (f : ℕ) (o s : AttemptState) (e : Option AttemptEnd) → IsPlan s.plan → IsBefore o.phase → Lasts f o s → Leaves o (counted_by s e).after
counted_l f o s (Some e) plan early h = inl refl
counted_l f o s None plan early h = others_l f o (record s { counted = held_set s.devices }) plan early (record { ticks = h.ticks; phase = h.phase; asked = h.asked; apart = h.apart })

pub counting_l : (f : ℕ) (o s : AttemptState) → IsPlan s.plan → IsBefore o.phase → Lasts f o s → Leaves o (counting s).after
unfolding counting
counting_l f o s plan early h = counted_l f o s (shortage s (held_set s.devices)) plan early h

settled_m : (f : ℕ) (o s : AttemptState) (p : Phase) → s.phase ≡ p → IsPlan s.plan → Lasts f o s → Moves f o (settled_in s p).after
settled_m f o s SeizingVotes at plan h = leaves_moves f o _ (counting_l f o s plan (subst IsBefore (sym at ∙ h.phase) tt) h)
settled_m f o s SeizingOthers at plan h = leaves_moves f o _ (installing_l f o s (subst IsBefore (sym at ∙ h.phase) tt) h)
settled_m f o s Collecting at plan h = lasts_moves f o s h
settled_m f o s Choosing at plan h = lasts_moves f o s h
settled_m f o s Installing at plan h = lasts_moves f o s h
settled_m f o s Over at plan h = lasts_moves f o s h

proceeding_m : (f : ℕ) (o s : AttemptState) → IsPlan s.plan → Lasts f o s → Moves f o (proceeding s).after
unfolding proceeding
proceeding_m f o s plan h = if_either (λ (u : Turn). Moves f o u.after) (all_settled s.devices) (settled_in s s.phase) (waits s) (settled_m f o s s.phase refl plan h) (lasts_moves f o s h)

-- ---- an answer

result_asked : (m d : ℕ) (r : SeizeResult) (e : Option Seizing) → has_asked_at m (option_map (with_result d r) e) ≡ has_asked_at m e
result_asked m d r None = refl
result_asked m d r (Some e) = if_either (λ (z : Seizing). has_asked_at m (Some z) ≡ has_asked_at m (Some e)) ((e.attached.device == d) && is_none e.result) (record e { result = Some r }) e refl refl

result_attached : (d : ℕ) (r : SeizeResult) (e : Seizing) → (with_result d r e).attached ≡ e.attached
result_attached d r e = if_either (λ (z : Seizing). z.attached ≡ e.attached) ((e.attached.device == d) && is_none e.result) (record e { result = Some r }) e refl refl

next_attached : (d n : ℕ) (e : Seizing) → (with_next d n e).attached ≡ e.attached
next_attached d n e = if_either (λ (z : Seizing). z.attached ≡ e.attached) ((e.attached.device == d) && is_none e.result) (record e { seizer = Some n; asked = set_with e.asked n }) e refl refl

result_l : (f : ℕ) (o s : AttemptState) (d : ℕ) (r : SeizeResult) → Lasts f o s → Lasts f o (record s { devices = map (with_result d r) s.devices })
result_l f o s d r h = record {
  ticks = h.ticks;
  phase = h.phase;
  asked = λ j m. ap (has_asked_at m) (entry_mapped (with_result d r) (result_attached d r) s.devices j) ∙ (result_asked m d r (entry_of s.devices j) ∙ h.asked j m);
  apart = mapped_apart (with_result d r) (result_attached d r) s.devices h.apart;
}

next_more : (d n m : ℕ) (e : Option Seizing) → (1 ≤ n) × (n ≤ 32) → has_asked_at m e ≡ true → has_asked_at m (option_map (with_next d n) e) ≡ true
next_more d n m None range h = h
next_more d n m (Some e) range h =
    if_either (λ (z : Seizing). has_asked_at m (Some z) ≡ true) ((e.attached.device == d) && is_none e.result) (record e { seizer = Some n; asked = set_with e.asked n }) e (with_one e.asked n m range.0 range.1 ∙ or_second (m == n) (has e.asked m) h) h

next_l : (f : ℕ) (o s : AttemptState) (d from n : ℕ) (e : Seizing) → is_seizing s.phase ≡ true → IsBefore o.phase → Awaited d from s.devices e → IsNext s.promises e e.kind n → Lasts f o s
    → Anew o (record s { devices = map (with_next d n) s.devices; ticks = 0 })
next_l f o s d from n e seizes early w next h = record { early = early; way = inr (seizes, ask); more = more; apart = mapped_apart (with_next d n) (next_attached d n) s.devices h.apart }
  where
    test : ((e.attached.device == d) && is_none e.result) ≡ true
    test = both (e.attached.device == d) (is_none e.result) (itself e.attached.device d w.device) (ap is_none w.result)
      where
        both : (a b : Bool) → a ≡ true → b ≡ true → (a && b) ≡ true
        both true b i k = k
        both false b i k = absurd (false_true i)

    ask : NewAsk o (record s { devices = map (with_next d n) s.devices; ticks = 0 })
    ask = record {
      device = d;
      member = n;
      now = ap (has_asked_at n) (entry_mapped (with_next d n) (next_attached d n) s.devices d ∙ ap (option_map (with_next d n)) w.there)
          ∙ (ap (λ b. has_asked_at n (Some (if b then record e { seizer = Some n; asked = set_with e.asked n } else e))) test ∙ (with_one e.asked n n next.low next.high ∙ or_first (n == n) (has e.asked n) (itself n n refl)));
      before = sym (h.asked d n) ∙ (ap (has_asked_at n) w.there ∙ next.unasked);
    }

    more : (j m : ℕ) → has_asked_at m (entry_of o.devices j) ≡ true → has_asked_at m (entry_of (map (with_next d n) s.devices) j) ≡ true
    more j m was = ap (has_asked_at m) (entry_mapped (with_next d n) (next_attached d n) s.devices j) ∙ next_more d n m (entry_of s.devices j) (next.low, next.high) (h.asked j m ∙ was)

answered_m : (f : ℕ) (o s : AttemptState) (d from : ℕ) (r : SeizeResult) (e : Option Seizing) → find (awaits d from) s.devices ≡ e → is_seizing s.phase ≡ true → IsBefore o.phase → IsPlan s.plan → Lasts f o s → Moves f o (answered_on s d r e).after
unfolding settled asked_next
answered_m f o s d from r None found seizes early plan h = lasts_moves f o s h
answered_m f o s d from r (Some e) found seizes early plan h = by_next (next_by s.plan.cluster s.promises s.plan.nodes e e.kind r) refl
  where
    by_next : (n : Option ℕ) → next_by s.plan.cluster s.promises s.plan.nodes e e.kind r ≡ n → Moves f o (next_asked s d r e n).after
    by_next None is = proceeding_m f o (record s { devices = map (with_result d r) s.devices }) plan (result_l f o s d r h)
    by_next (Some n) is = leaves_moves f o _ (inr (next_l f o s d from n e seizes early (awaited d from s.devices e h.apart found) (next_of s.plan.cluster s.promises s.plan e e.kind r n plan.nodes is) h))

pub answer_m : (f : ℕ) (o s : AttemptState) (d from : ℕ) (r : SeizeResult) (p : Phase) → s.phase ≡ p → IsPlan s.plan → Lasts f o s → Moves f o (answering_in s d from r p).after
unfolding answering
answer_m f o s d from r SeizingVotes at plan h = answered_m f o s d from r (find (awaits d from) s.devices) refl (ap is_seizing at) (subst IsBefore (sym at ∙ h.phase) tt) plan h
answer_m f o s d from r SeizingOthers at plan h = answered_m f o s d from r (find (awaits d from) s.devices) refl (ap is_seizing at) (subst IsBefore (sym at ∙ h.phase) tt) plan h
answer_m f o s d from r Collecting at plan h = lasts_moves f o s h
answer_m f o s d from r Choosing at plan h = lasts_moves f o s h
answer_m f o s d from r Installing at plan h = lasts_moves f o s h
answer_m f o s d from r Over at plan h = lasts_moves f o s h
