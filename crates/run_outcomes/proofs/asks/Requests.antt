-- The requests of an attempt ask as its entries want it.
use Rattle.std.specs.Prelude.{ℕ, ◌==◌, ◌||◌, ◌≡◌, Bool, true, false, List, [], ◌∷◌, Option, None, Some, map, if◌then◌else◌}
use Rattle.std.specs.List.{cons_option, filter_map, list_any}
use Rattle.std.proofs.Common.{refl, sym, ap, subst, ◌∙◌}
use Rattle.attempt_laws.specs.Asking.{AreApart, entry_numbers, entry_of}
use Rattle.cl_base.specs.Seizings.{SeizeResult}
use Rattle.cmm_attempt.proofs.Basics.{false_true, same_number}
use Rattle.cmm_attempt.specs.Installs.{send_to}
use Rattle.cmm_attempt.specs.Seizings.{again_by, again_for, request, request_body, request_by, request_for}
use Rattle.cmm_attempt.specs.declared.plan.Plan.{Plan}
use Rattle.cmm_attempt.specs.declared.seizing.Seizing.{Seizing}
use Rattle.cmm_attempt.specs.declared.step.Step.{Step}
use Rattle.cmm_attempt.specs.declared.step.Step.TheVariants as step
use Rattle.seize.specs.declared.kind.SeizeKind.{SeizeKind}
use Rattle.seize.specs.declared.kind.SeizeKind.TheVariants.{Plain, Vote}
use Rattle.wire.specs.declared.message.Body.{Body}
use Rattle.run_outcomes.specs.tasks.Asks.{asked_by_body, asked_by_steps, one_more, wants_by, wants_in}

-- ---- one request

if_same : {X : Type 0} (b : Bool) (x : X) → (if b then x else x) ≡ x
if_same true x = refl
if_same false x = refl

none_more : (b : Bool) (asked : List ℕ) → asked ≡ (if b then one_more None asked else asked)
none_more true asked = refl
none_more false asked = refl

pub one_asked : (plan : Plan) (d x n : ℕ) (kind : SeizeKind) (rest : List Step) (asked : List ℕ)
    → asked_by_steps d (request plan kind x n ∷ rest) asked ≡ asked_by_steps d rest (if x == d then one_more (wants_by plan.coordinator kind None (Some n)) asked else asked)
one_asked plan d x n Vote rest asked = by_test (n == plan.coordinator)
  where
    by_test : (b : Bool) → asked_by_steps d ((if b then step.SeizeHere x Vote else step.Send n (record { sender = plan.coordinator; body = request_body plan Vote x })) ∷ rest) asked
        ≡ asked_by_steps d rest (if x == d then one_more (if b then None else Some n) asked else asked)
    by_test true = ap (asked_by_steps d rest) (none_more (x == d) asked)
    by_test false = refl
one_asked plan d x n Plain rest asked = by_test (n == plan.coordinator)
  where
    by_test : (b : Bool) → asked_by_steps d ((if b then step.SeizeHere x Plain else step.Send n (record { sender = plan.coordinator; body = request_body plan Plain x })) ∷ rest) asked
        ≡ asked_by_steps d rest (if x == d then one_more None asked else asked)
    by_test true = ap (asked_by_steps d rest) (none_more (x == d) asked)
    by_test false = ap (asked_by_steps d rest) (none_more (x == d) asked)

-- what a list of entries comes to, where each comes to this
abbrev Head : Plan → (Seizing → Option Step) → Type 0
Head plan f = (d : ℕ) (e : Seizing) (rest : List Step) (asked : List ℕ)
    → asked_by_steps d (cons_option (f e) rest) asked ≡ asked_by_steps d rest (if e.attached.device == d then one_more (wants_in plan.coordinator (Some e)) asked else asked)

settled_by : (c d x : ℕ) (kind : SeizeKind) (r : SeizeResult) (o : Option ℕ) (asked : List ℕ) → asked ≡ (if x == d then one_more (wants_by c kind (Some r) o) asked else asked)
settled_by c d x Vote r o asked = none_more (x == d) asked
settled_by c d x Plain r o asked = none_more (x == d) asked

unasked_by : (c d x : ℕ) (kind : SeizeKind) (asked : List ℕ) → asked ≡ (if x == d then one_more (wants_by c kind None None) asked else asked)
unasked_by c d x Vote asked = none_more (x == d) asked
unasked_by c d x Plain asked = none_more (x == d) asked

request_head : (plan : Plan) → Head plan (request_for plan)
request_head plan d e rest asked = by_both e.result e.seizer
  where
    by_both : (r : Option SeizeResult) (o : Option ℕ)
        → asked_by_steps d (cons_option (request_by plan e r o) rest) asked ≡ asked_by_steps d rest (if e.attached.device == d then one_more (wants_by plan.coordinator e.kind r o) asked else asked)
    by_both None (Some n) = one_asked plan d e.attached.device n e.kind rest asked
    by_both None None = ap (asked_by_steps d rest) (unasked_by plan.coordinator d e.attached.device e.kind asked)
    by_both (Some r) o = ap (asked_by_steps d rest) (settled_by plan.coordinator d e.attached.device e.kind r o asked)

-- the coordinator itself is not asked again
own_by : (c n d x : ℕ) (kind : SeizeKind) (asked : List ℕ) → (n == c) ≡ true → asked ≡ (if x == d then one_more (wants_by c kind None (Some n)) asked else asked)
own_by c n d x Vote asked is = none_more (x == d) asked ∙ ap (λ b. if x == d then one_more (if b then None else Some n) asked else asked) (sym is)
own_by c n d x Plain asked is = none_more (x == d) asked

again_head : (plan : Plan) → Head plan (again_for plan)
again_head plan d e rest asked = by_both e.result e.seizer
  where
    by_test : (n : ℕ) (b : Bool) → (n == plan.coordinator) ≡ b
        → asked_by_steps d (cons_option (if b then None else Some (request plan e.kind e.attached.device n)) rest) asked
        ≡ asked_by_steps d rest (if e.attached.device == d then one_more (wants_by plan.coordinator e.kind None (Some n)) asked else asked)
    by_test n true is = ap (asked_by_steps d rest) (own_by plan.coordinator n d e.attached.device e.kind asked is)
    by_test n false is = one_asked plan d e.attached.device n e.kind rest asked

    by_both : (r : Option SeizeResult) (o : Option ℕ)
        → asked_by_steps d (cons_option (again_by plan e r o) rest) asked ≡ asked_by_steps d rest (if e.attached.device == d then one_more (wants_by plan.coordinator e.kind r o) asked else asked)
    by_both None (Some n) = by_test n (n == plan.coordinator) refl
    by_both None None = ap (asked_by_steps d rest) (unasked_by plan.coordinator d e.attached.device e.kind asked)
    by_both (Some r) o = ap (asked_by_steps d rest) (settled_by plan.coordinator d e.attached.device e.kind r o asked)

-- ---- a list of them

or_false : (a b : Bool) → (a || b) ≡ false → (a ≡ false) × (b ≡ false)
or_false true b k = absurd (false_true (sym k))
or_false false b k = (refl, k)

lacking : (plan : Plan) (f : Seizing → Option Step) → Head plan f → (es : List Seizing) (d : ℕ) (asked : List ℕ) → list_any (λ x. x == d) (entry_numbers es) ≡ false → asked_by_steps d (filter_map f es) asked ≡ asked
lacking plan f head [] d asked none = refl
lacking plan f head (e ∷ es) d asked none =
    let two : ((e.attached.device == d) ≡ false) × (list_any (λ x. x == d) (entry_numbers es) ≡ false) = or_false (e.attached.device == d) (list_any (λ x. x == d) (entry_numbers es)) none in
    head d e (filter_map f es) asked
    ∙ (ap (λ b. asked_by_steps d (filter_map f es) (if b then one_more (wants_in plan.coordinator (Some e)) asked else asked)) two.0 ∙ lacking plan f head es d asked two.1)

all_asked : (plan : Plan) (f : Seizing → Option Step) → Head plan f → (es : List Seizing) (d : ℕ) (asked : List ℕ) → AreApart (entry_numbers es)
    → asked_by_steps d (filter_map f es) asked ≡ one_more (wants_in plan.coordinator (entry_of es d)) asked
all_asked plan f head [] d asked apart = refl
all_asked plan f head (e ∷ es) d asked apart = head d e (filter_map f es) asked ∙ by_test (e.attached.device == d) refl (all_asked plan f head es d asked apart.1)
  where
    by_test : (b : Bool) → (e.attached.device == d) ≡ b → asked_by_steps d (filter_map f es) asked ≡ one_more (wants_in plan.coordinator (entry_of es d)) asked
        → asked_by_steps d (filter_map f es) (if b then one_more (wants_in plan.coordinator (Some e)) asked else asked) ≡ one_more (wants_in plan.coordinator (if b then Some e else entry_of es d)) asked
    by_test true here rest =
        lacking plan f head es d (one_more (wants_in plan.coordinator (Some e)) asked) (subst (λ n. list_any (λ x. x == n) (entry_numbers es) ≡ false) (same_number e.attached.device d here) apart.0)
    by_test false here rest = rest

pub requests_ask : (plan : Plan) (es : List Seizing) (d : ℕ) (asked : List ℕ) → AreApart (entry_numbers es) → asked_by_steps d (filter_map (request_for plan) es) asked ≡ one_more (wants_in plan.coordinator (entry_of es d)) asked
requests_ask plan es d asked apart = all_asked plan (request_for plan) (request_head plan) es d asked apart

pub again_asks : (plan : Plan) (es : List Seizing) (d : ℕ) (asked : List ℕ) → AreApart (entry_numbers es) → asked_by_steps d (filter_map (again_for plan) es) asked ≡ one_more (wants_in plan.coordinator (entry_of es d)) asked
again_asks plan es d asked apart = all_asked plan (again_for plan) (again_head plan) es d asked apart

-- a message that is no request, to each of these
pub sent_asks : (plan : Plan) (b : Body) (d : ℕ) → ((to : ℕ) (asked : List ℕ) → asked_by_body d to b asked ≡ asked) → (ns : List ℕ) (asked : List ℕ) → asked_by_steps d (map (send_to plan b) ns) asked ≡ asked
sent_asks plan b d mute [] asked = refl
sent_asks plan b d mute (n ∷ ns) asked = ap (asked_by_steps d (map (send_to plan b) ns)) (mute n asked) ∙ sent_asks plan b d mute ns asked
