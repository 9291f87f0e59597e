-- A coordinator without other members joins no device as it installs.
use Rattle.std.specs.Prelude.{ℕ, ◌≡◌, ◌==◌, ◌&&◌, not, Bool, true, false, List, [], ◌∷◌, filter, length, map, Option, None, Some, if◌then◌else◌}
use Rattle.std.specs.List.{AllByRecursion, list_any}
use Rattle.std.proofs.Common.{refl, ap, ◌∙◌, arith}
use Rattle.cl_base.specs.Sets.{has}
use Rattle.history.specs.Member.{members_of}
use Rattle.history.specs.Moment.{Moment}
use Rattle.history.specs.Queue as told
use Rattle.history.specs.Seizing.{keys_seized, or_else, seizing_among, seizing_by, seizing_of}
use Rattle.history.specs.Setting.{Setting, all_to, key_of, nodes_of, paths_of}
use Rattle.history.specs.Trace.{installed}
use Rattle.history.specs.Validated.{validity}
use Rattle.run_devices.specs.queues.Laws.{queued}
use Rattle.seize.specs.Joining as joining
use Rattle.run_outcomes.proofs.stops.Starting.{idle_of}

itself : (n : ℕ) → (n == n) ≡ true
itself n = grind arith

-- whoever seized the device is the node itself
own_joins : (S : Setting) (n e d : ℕ) (ms : List Moment) (ns : List ℕ) → AllByRecursion (λ m. (m == n) ≡ true) ns → told.must_join S n d (seizing_among S.header e d ms ns) ms ≡ false
own_joins S n e d ms [] alone = refl
own_joins S n e d ms (m ∷ ns) alone = by_keys (own_joins S n e d ms ns alone.1) (keys_seized S.header m e d ms)
  where
    by_keys : told.must_join S n d (seizing_among S.header e d ms ns) ms ≡ false → (o : Option (List ℕ)) → told.must_join S n d (or_else (seizing_by m o) (seizing_among S.header e d ms ns)) ms ≡ false
    by_keys rest None = rest
    by_keys rest (Some keys) = ap (λ b. not b && not (list_any (λ key. key == key_of S.header n) keys && told.holds_valid n d (validity S.header n d ms) ms)) alone.0

none_picked : (P : ℕ → Bool) (ds : List ℕ) → ((d : ℕ) → P d ≡ false) → filter P ds ≡ []
none_picked P [] f = refl
none_picked P (d ∷ ds) f = ap (λ b. if b then d ∷ filter P ds else filter P ds) (f d) ∙ none_picked P ds f

none_joined : (S : Setting) (n e : ℕ) (ms : List Moment) → AllByRecursion (λ m. (m == n) ≡ true) (nodes_of (members_of e ms)) → told.joinings S n e ms ≡ []
none_joined S n e ms alone =
    ap (λ ds. map (λ d. record { device = d; work = told.Joins (joining.begun e n S.header.cluster) }) ds)
    (none_picked (λ d. has (paths_of S.header d) n && told.must_join S n d (seizing_of S.header e d ms) ms) (all_to (length S.header.devices))
    (λ d. off (has (paths_of S.header d) n) (told.must_join S n d (seizing_of S.header e d ms) ms) (own_joins S n e d ms (nodes_of (members_of e ms)) alone)))
  where
    off : (a b : Bool) → b ≡ false → (a && b) ≡ false
    off true b h = h
    off false b h = refl

pub alone_idle : (S : Setting) (n e : ℕ) (ms : List Moment) → AllByRecursion (λ m. (m == n) ≡ true) (nodes_of (members_of e ms)) → told.has_work S n (installed n e ∷ ms) ≡ false
alone_idle S n e ms alone =
    idle_of S n (installed n e ∷ ms) (ap queued (ap (λ b. if b then told.joinings S n e ms else told.tasks_of S n ms) (itself n) ∙ none_joined S n e ms alone))
