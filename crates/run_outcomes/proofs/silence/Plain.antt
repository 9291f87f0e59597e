-- Which members the steps of an attempt ask to seize a device that is no quorum device.
use Rattle.std.specs.Prelude.{ℕ, ◌==◌, ◌&&◌, ◌||◌, ◌≡◌, not, Bool, true, false, List, [], ◌∷◌, Option, None, Some, is_none, map, if◌then◌else◌}
use Rattle.std.specs.List.{cons_option, filter_map, list_any}
use Rattle.std.proofs.Common.{arith, refl, sym, ap, subst, ◌∙◌}
use Rattle.attempt_laws.specs.Asking.{AreApart, entry_numbers, entry_of}
use Rattle.cl_base.specs.Seizings.{SeizeResult}
use Rattle.cmm_attempt.proofs.Basics.{false_true, same_number}
use Rattle.cmm_attempt.specs.Installs.{send_to}
use Rattle.cmm_attempt.specs.Seizings.{again_by, again_for, is_asked, request, request_body, request_by, request_for}
use Rattle.cmm_attempt.specs.declared.plan.Plan.{Plan}
use Rattle.cmm_attempt.specs.declared.seizing.Seizing.{Seizing}
use Rattle.cmm_attempt.specs.declared.step.Step.{Step}
use Rattle.cmm_attempt.specs.declared.step.Step.TheVariants as step
use Rattle.history.specs.Letters.{name_of}
use Rattle.history.specs.Names as name
use Rattle.history.specs.Names.{same_name}
use Rattle.seize.specs.declared.kind.SeizeKind.{SeizeKind}
use Rattle.seize.specs.declared.kind.SeizeKind.TheVariants.{Plain, Vote}
use Rattle.wire.specs.declared.message.Body.{Body}
use Rattle.run_outcomes.specs.silence.Asked.{Query, asked_by_steps, wants_plain}
use Rattle.run_outcomes.specs.tasks.Laws.{is_vote}

abbrev pub to_seize : ℕ → ℕ → Query
to_seize m d = record { to = m; called = name.SeizeData d }

no_one : (a b : Bool) → ((a && false) || b) ≡ b
no_one true b = refl
no_one false b = refl

-- ---- messages that ask nobody to seize a device so

pub sent_none : (plan : Plan) (b : Body) (m d : ℕ) → same_name (name_of b) (name.SeizeData d) ≡ false → (ns : List ℕ) (asked : Bool) → asked_by_steps (to_seize m d) (map (send_to plan b) ns) asked ≡ asked
sent_none plan b m d other [] asked = refl
sent_none plan b m d other (n ∷ ns) asked =
    ap (asked_by_steps (to_seize m d) (map (send_to plan b) ns)) (ap (λ t. ((n == m) && t) || asked) other ∙ no_one (n == m) asked) ∙ sent_none plan b m d other ns asked

-- ---- one request

same_if : (b asked : Bool) → asked ≡ (if b then false || asked else asked)
same_if true asked = refl
same_if false asked = refl

both_tests : (n m c x d : ℕ) (asked : Bool) → (n == c) ≡ false → (((n == m) && (x == d)) || asked) ≡ (if x == d then ((n == m) && not (m == c)) || asked else asked)
both_tests n m c x d asked other = by_tests (n == m) (x == d) refl
  where
    differ : (n m c : ℕ) → (n == m) ≡ true → (n == c) ≡ false → not (m == c) ≡ true
    differ n m c h k = grind arith

    by_tests : (a b : Bool) → (n == m) ≡ a → ((a && b) || asked) ≡ (if b then (a && not (m == c)) || asked else asked)
    by_tests true true is = ap (λ t. t || asked) (sym (differ n m c is other))
    by_tests true false is = refl
    by_tests false true is = refl
    by_tests false false is = refl

own_if : (n m c : ℕ) (b asked : Bool) → (n == c) ≡ true → asked ≡ (if b then ((n == m) && not (m == c)) || asked else asked)
own_if n m c true asked own = ap (λ t. t || asked) (sym (none n m c own))
  where
    none : (n m c : ℕ) → (n == c) ≡ true → ((n == m) && not (m == c)) ≡ false
    none n m c h = grind arith
own_if n m c false asked own = refl

pub one_asked : (plan : Plan) (m d x n : ℕ) (kind : SeizeKind) (rest : List Step) (asked : Bool)
    → asked_by_steps (to_seize m d) (request plan kind x n ∷ rest) asked
    ≡ asked_by_steps (to_seize m d) rest (if x == d then (not (is_vote kind) && (n == m) && not (m == plan.coordinator)) || asked else asked)
one_asked plan m d x n Vote rest asked = by_test (n == plan.coordinator)
  where
    by_test : (b : Bool) → asked_by_steps (to_seize m d) ((if b then step.SeizeHere x Vote else step.Send n (record { sender = plan.coordinator; body = request_body plan Vote x })) ∷ rest) asked
        ≡ asked_by_steps (to_seize m d) rest (if x == d then false || asked else asked)
    by_test true = ap (asked_by_steps (to_seize m d) rest) (same_if (x == d) asked)
    by_test false = ap (asked_by_steps (to_seize m d) rest) (no_one (n == m) asked ∙ same_if (x == d) asked)
one_asked plan m d x n Plain rest asked = by_test (n == plan.coordinator) refl
  where
    by_test : (b : Bool) → (n == plan.coordinator) ≡ b
        → asked_by_steps (to_seize m d) ((if b then step.SeizeHere x Plain else step.Send n (record { sender = plan.coordinator; body = request_body plan Plain x })) ∷ rest) asked
        ≡ asked_by_steps (to_seize m d) rest (if x == d then ((n == m) && not (m == plan.coordinator)) || asked else asked)
    by_test true is = ap (asked_by_steps (to_seize m d) rest) (own_if n m plan.coordinator (x == d) asked is)
    by_test false is = ap (asked_by_steps (to_seize m d) rest) (both_tests n m plan.coordinator x d asked is)

-- ---- of each entry

abbrev Head : Plan → (Seizing → Option Step) → Type 0
Head plan f = (m d : ℕ) (e : Seizing) (rest : List Step) (asked : Bool)
    → asked_by_steps (to_seize m d) (cons_option (f e) rest) asked ≡ asked_by_steps (to_seize m d) rest (if e.attached.device == d then wants_plain plan.coordinator m (Some e) || asked else asked)

abbrev wants_by : ℕ → ℕ → SeizeKind → Option SeizeResult → Option ℕ → Bool
wants_by c m kind r o = is_none r && not (is_vote kind) && is_asked o m && not (m == c)

settled_by : (c m x d : ℕ) (kind : SeizeKind) (r : SeizeResult) (o : Option ℕ) (asked : Bool) → asked ≡ (if x == d then wants_by c m kind (Some r) o || asked else asked)
settled_by c m x d Vote r o asked = same_if (x == d) asked
settled_by c m x d Plain r o asked = same_if (x == d) asked

unasked_by : (c m x d : ℕ) (kind : SeizeKind) (asked : Bool) → asked ≡ (if x == d then wants_by c m kind None None || asked else asked)
unasked_by c m x d Vote asked = same_if (x == d) asked
unasked_by c m x d Plain asked = same_if (x == d) asked

request_head : (plan : Plan) → Head plan (request_for plan)
request_head plan m d e rest asked = by_both e.result e.seizer
  where
    by_both : (r : Option SeizeResult) (o : Option ℕ)
        → asked_by_steps (to_seize m d) (cons_option (request_by plan e r o) rest) asked ≡ asked_by_steps (to_seize m d) rest (if e.attached.device == d then wants_by plan.coordinator m e.kind r o || asked else asked)
    by_both None (Some n) = one_asked plan m d e.attached.device n e.kind rest asked
    by_both None None = ap (asked_by_steps (to_seize m d) rest) (unasked_by plan.coordinator m e.attached.device d e.kind asked)
    by_both (Some r) o = ap (asked_by_steps (to_seize m d) rest) (settled_by plan.coordinator m e.attached.device d e.kind r o asked)

own_by : (c n m x d : ℕ) (kind : SeizeKind) (asked : Bool) → (n == c) ≡ true → asked ≡ (if x == d then wants_by c m kind None (Some n) || asked else asked)
own_by c n m x d Vote asked is = same_if (x == d) asked
own_by c n m x d Plain asked is = own_if n m c (x == d) asked is

again_head : (plan : Plan) → Head plan (again_for plan)
again_head plan m d e rest asked = by_both e.result e.seizer
  where
    by_test : (n : ℕ) (b : Bool) → (n == plan.coordinator) ≡ b
        → asked_by_steps (to_seize m d) (cons_option (if b then None else Some (request plan e.kind e.attached.device n)) rest) asked
        ≡ asked_by_steps (to_seize m d) rest (if e.attached.device == d then wants_by plan.coordinator m e.kind None (Some n) || asked else asked)
    by_test n true is = ap (asked_by_steps (to_seize m d) rest) (own_by plan.coordinator n m e.attached.device d e.kind asked is)
    by_test n false is = one_asked plan m d e.attached.device n e.kind rest asked

    by_both : (r : Option SeizeResult) (o : Option ℕ)
        → asked_by_steps (to_seize m d) (cons_option (again_by plan e r o) rest) asked ≡ asked_by_steps (to_seize m d) rest (if e.attached.device == d then wants_by plan.coordinator m e.kind r o || asked else asked)
    by_both None (Some n) = by_test n (n == plan.coordinator) refl
    by_both None None = ap (asked_by_steps (to_seize m d) rest) (unasked_by plan.coordinator m e.attached.device d e.kind asked)
    by_both (Some r) o = ap (asked_by_steps (to_seize m d) rest) (settled_by plan.coordinator m e.attached.device d e.kind r o asked)

-- ---- a list of them

or_false : (a b : Bool) → (a || b) ≡ false → (a ≡ false) × (b ≡ false)
or_false true b k = absurd (false_true (sym k))
or_false false b k = (refl, k)

lacking : (plan : Plan) (f : Seizing → Option Step) → Head plan f → (es : List Seizing) (m d : ℕ) (asked : Bool) → list_any (λ x. x == d) (entry_numbers es) ≡ false → asked_by_steps (to_seize m d) (filter_map f es) asked ≡ asked
lacking plan f head [] m d asked none = refl
lacking plan f head (e ∷ es) m d asked none =
    let two : ((e.attached.device == d) ≡ false) × (list_any (λ x. x == d) (entry_numbers es) ≡ false) = or_false (e.attached.device == d) (list_any (λ x. x == d) (entry_numbers es)) none in
    head m d e (filter_map f es) asked
    ∙ (ap (λ b. asked_by_steps (to_seize m d) (filter_map f es) (if b then wants_plain plan.coordinator m (Some e) || asked else asked)) two.0 ∙ lacking plan f head es m d asked two.1)

all_asked : (plan : Plan) (f : Seizing → Option Step) → Head plan f → (es : List Seizing) (m d : ℕ) (asked : Bool) → AreApart (entry_numbers es)
    → asked_by_steps (to_seize m d) (filter_map f es) asked ≡ (wants_plain plan.coordinator m (entry_of es d) || asked)
all_asked plan f head [] m d asked apart = refl
all_asked plan f head (e ∷ es) m d asked apart = head m d e (filter_map f es) asked ∙ by_test (e.attached.device == d) refl (all_asked plan f head es m d asked apart.1)
  where
    by_test : (b : Bool) → (e.attached.device == d) ≡ b → asked_by_steps (to_seize m d) (filter_map f es) asked ≡ (wants_plain plan.coordinator m (entry_of es d) || asked)
        → asked_by_steps (to_seize m d) (filter_map f es) (if b then wants_plain plan.coordinator m (Some e) || asked else asked) ≡ (wants_plain plan.coordinator m (if b then Some e else entry_of es d) || asked)
    by_test true here rest =
        lacking plan f head es m d (wants_plain plan.coordinator m (Some e) || asked) (subst (λ n. list_any (λ x. x == n) (entry_numbers es) ≡ false) (same_number e.attached.device d here) apart.0)
    by_test false here rest = rest

pub requests_ask : (plan : Plan) (es : List Seizing) (m d : ℕ) (asked : Bool) → AreApart (entry_numbers es)
    → asked_by_steps (to_seize m d) (filter_map (request_for plan) es) asked ≡ (wants_plain plan.coordinator m (entry_of es d) || asked)
requests_ask plan es m d asked apart = all_asked plan (request_for plan) (request_head plan) es m d asked apart

pub again_asks : (plan : Plan) (es : List Seizing) (m d : ℕ) (asked : Bool) → AreApart (entry_numbers es)
    → asked_by_steps (to_seize m d) (filter_map (again_for plan) es) asked ≡ (wants_plain plan.coordinator m (entry_of es d) || asked)
again_asks plan es m d asked apart = all_asked plan (again_for plan) (again_head plan) es m d asked apart
