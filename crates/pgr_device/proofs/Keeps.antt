-- What holds of a device is kept by each command.
use Rattle.std.proofs.Common.{◌≡◌, ◌≢◌, ℕ, ◌≤◌, ◌==◌, Bool, true, false, not, cond, ◌||◌, List, [], ◌∷◌, ◌++◌, map, filter, find, Option, Some, None, option_map, refl, sym, ◌∙◌, ap, subst}
use Rattle.std.proofs.lemmas.Bool.{eqb-true, eqb-false, ne_eqb, cond_both, cond-true, or_left, or_right, or_from, or_parts, not_from_false}
use Rattle.std.proofs.lemmas.List.Folds.{list_any-append}
use Rattle.cl_base.specs.Sets.{has}
use Rattle.pgr_device.specs.declared.kind.PrKind.{PrKind}
use Rattle.pgr_device.specs.declared.registration.Registration.{Registration}
use Rattle.pgr_device.specs.declared.registration.Reservation.{Reservation}
use Rattle.pgr_device.specs.declared.command.PrCommand.{PrCommand}
use Rattle.pgr_device.specs.declared.command.PrCommand.TheVariants as command
use Rattle.pgr_device.specs.declared.command.PrAnswer.TheVariants as answer
use Rattle.pgr_device.specs.Allowed.{IsAllowed}
use Rattle.pgr_device.specs.Device.{Device}
use Rattle.pgr_device.specs.Kept.{IsApart, IsHeld, IsDevice}
use Rattle.pgr_device.specs.Registered.{registered_key, is_registered, has_key, rekeyed, without_node, without_key}
use Rattle.pgr_device.specs.Access.{same_kind}
use Rattle.pgr_device.specs.Spc.{Outcome, answers, good, conflict, with_key, released_by, shows_key, reserving, releasing, cleared, is_holders, preempted, swapping, carried_out, step}

-- a registration more
registered_push : (rs : List Registration) (r : Registration) (n : ℕ) → is_registered rs n ≡ true → is_registered (rs ++ r ∷ []) n ≡ true
registered_push rs r n h = list_any-append (λ q. q.node == n) rs (r ∷ []) ∙ or_left _ _ h

pub unregistered_push : (rs : List Registration) (r : Registration) (n : ℕ) → is_registered rs n ≡ false → (r.node == n) ≡ false → is_registered (rs ++ r ∷ []) n ≡ false
unregistered_push rs r n h e = list_any-append (λ q. q.node == n) rs (r ∷ []) ∙ or_from _ _ h (or_from _ _ e refl)

other_way : (a b : ℕ) → (a == b) ≡ false → (b == a) ≡ false
other_way a b h = ne_eqb b a (λ e. eqb-false a b h (sym e))

pub apart_push : (paths : ℕ) (rs : List Registration) (r : Registration) → 1 ≤ r.node → r.node ≤ 32 → has paths r.node ≡ true → r.key ≢ 0 → is_registered rs r.node ≡ false
    → IsApart paths rs → IsApart paths (rs ++ r ∷ [])
apart_push paths [] r low high path key new h = (low, high, path, key, refl, tt)
apart_push paths (q ∷ rs) r low high path key new h =
    let apart = or_parts (q.node == r.node) (is_registered rs r.node) new in
    (h.0, h.1, h.2, h.3, unregistered_push rs r q.node h.4 (other_way q.node r.node apart.0), apart_push paths rs r low high path key apart.1 h.5)

held_push : (rs : List Registration) (r : Registration) (held : Option Reservation) → IsHeld rs held → IsHeld (rs ++ r ∷ []) held
held_push rs r None h = tt
held_push rs r (Some held) h = registered_push rs r held.holder h

-- another key of a node
node_rekeyed : (node key : ℕ) (r : Registration) → (rekeyed node key r).node ≡ r.node
node_rekeyed node key r =
    let taken : Registration = record { node = node; key = key } in
    cond_both (r.node == node) taken r (λ (q : Registration). q.node ≡ r.node) (λ e. sym (eqb-true r.node node e)) (λ _. refl)

key_rekeyed : (node key : ℕ) (r : Registration) → key ≢ 0 → r.key ≢ 0 → (rekeyed node key r).key ≢ 0
key_rekeyed node key r new old =
    let taken : Registration = record { node = node; key = key } in
    cond_both (r.node == node) taken r (λ (q : Registration). q.key ≢ 0) (λ _. new) (λ _. old)

registered_rekey : (node key : ℕ) (rs : List Registration) (n : ℕ) → is_registered (map (rekeyed node key) rs) n ≡ is_registered rs n
registered_rekey node key [] n = refl
registered_rekey node key (r ∷ rs) n =
    ap (λ m. (m == n) || is_registered (map (rekeyed node key) rs) n) (node_rekeyed node key r) ∙ ap (λ b. (r.node == n) || b) (registered_rekey node key rs n)

apart_rekey : (paths node key : ℕ) (rs : List Registration) → key ≢ 0 → IsApart paths rs → IsApart paths (map (rekeyed node key) rs)
apart_rekey paths node key [] new h = tt
apart_rekey paths node key (r ∷ rs) new h =
    let same : r.node ≡ (rekeyed node key r).node = sym (node_rekeyed node key r) in
    let low : 1 ≤ (rekeyed node key r).node = subst (λ (m : ℕ). 1 ≤ m) same h.0 in
    let high : (rekeyed node key r).node ≤ 32 = subst (λ (m : ℕ). m ≤ 32) same h.1 in
    let path : has paths (rekeyed node key r).node ≡ true = subst (λ (m : ℕ). has paths m ≡ true) same h.2 in
    let alone : is_registered rs (rekeyed node key r).node ≡ false = subst (λ (m : ℕ). is_registered rs m ≡ false) same h.4 in
    (low, high, path, key_rekeyed node key r new h.3, registered_rekey node key rs (rekeyed node key r).node ∙ alone, apart_rekey paths node key rs new h.5)

held_rekey : (node key : ℕ) (rs : List Registration) (held : Option Reservation) → IsHeld rs held → IsHeld (map (rekeyed node key) rs) held
held_rekey node key rs None h = tt
held_rekey node key rs (Some held) h = registered_rekey node key rs held.holder ∙ h

-- fewer registrations
unregistered_filter : (p : Registration → Bool) (rs : List Registration) (n : ℕ) → is_registered rs n ≡ false → is_registered (filter p rs) n ≡ false
unregistered_filter p [] n h = refl
unregistered_filter p (r ∷ rs) n h =
    let apart = or_parts (r.node == n) (is_registered rs n) h in
    let later : is_registered (filter p rs) n ≡ false = unregistered_filter p rs n apart.1 in
    cond_both (p r) (r ∷ filter p rs) (filter p rs) (λ (qs : List Registration). is_registered qs n ≡ false) (λ _. or_from _ _ apart.0 later) (λ _. later)

apart_filter : (paths : ℕ) (p : Registration → Bool) (rs : List Registration) → IsApart paths rs → IsApart paths (filter p rs)
apart_filter paths p [] h = tt
apart_filter paths p (r ∷ rs) h =
    let later : IsApart paths (filter p rs) = apart_filter paths p rs h.5 in
    cond_both (p r) (r ∷ filter p rs) (filter p rs) (λ (qs : List Registration). IsApart paths qs)
    (λ _. (h.0, h.1, h.2, h.3, unregistered_filter p rs r.node h.4, later)) (λ _. later)

kept_filter : (p : Registration → Bool) (r : Registration) (rs : List Registration) (n : ℕ) (b : Bool) → (r.node == n) ≡ b → (b ≡ true → p r ≡ true)
    → (b || is_registered rs n) ≡ true → (is_registered rs n ≡ true → is_registered (filter p rs) n ≡ true) → is_registered (filter p (r ∷ rs)) n ≡ true
kept_filter p r rs n true e passes h later =
    subst (λ (qs : List Registration). is_registered qs n ≡ true) (sym (cond-true (p r) (r ∷ filter p rs) (filter p rs) (passes refl))) (or_left _ _ e)
kept_filter p r rs n false e passes h later =
    cond_both (p r) (r ∷ filter p rs) (filter p rs) (λ (qs : List Registration). is_registered qs n ≡ true) (λ _. or_right _ _ (later h)) (λ _. later h)

registered_without_node : (rs : List Registration) (node n : ℕ) → (n == node) ≡ false → is_registered rs n ≡ true → is_registered (without_node node rs) n ≡ true
registered_without_node [] node n ne h = h
registered_without_node (r ∷ rs) node n ne h =
    kept_filter (λ q. not (q.node == node)) r rs n (r.node == n) refl
    (λ e. not_from_false _ (subst (λ (m : ℕ). (m == node) ≡ false) (sym (eqb-true r.node n e)) ne)) h (registered_without_node rs node n ne)

held_without_node : (rs : List Registration) (node : ℕ) (held : Option Reservation) → IsHeld rs held → IsHeld (without_node node rs) (released_by node held)
held_without_node rs node None h = tt
held_without_node rs node (Some held) h =
    cond_both (held.holder == node) None (Some held) (λ (o : Option Reservation). IsHeld (without_node node rs) o) (λ _. tt) (λ ne. registered_without_node rs node held.holder ne h)

-- the key that a node shows
at_key : (r : Registration) (rs : List Registration) (n key : ℕ) (b : Bool) → (r.node == n) ≡ b
    → shows_key (option_map (λ q. q.key) (cond b (Some r) (find (λ q. q.node == n) rs))) key ≡ false → (b || is_registered rs n) ≡ true
    → (shows_key (registered_key rs n) key ≡ false → is_registered rs n ≡ true → is_registered (without_key key rs) n ≡ true) → is_registered (without_key key (r ∷ rs)) n ≡ true
at_key r rs n key true e shows h later =
    subst (λ (qs : List Registration). is_registered qs n ≡ true) (sym (cond-true (not (r.key == key)) (r ∷ without_key key rs) (without_key key rs) (not_from_false _ shows))) (or_left _ _ e)
at_key r rs n key false e shows h later =
    cond_both (not (r.key == key)) (r ∷ without_key key rs) (without_key key rs) (λ (qs : List Registration). is_registered qs n ≡ true)
    (λ _. or_right _ _ (later shows h)) (λ _. later shows h)

registered_without_key : (rs : List Registration) (n key : ℕ) → shows_key (registered_key rs n) key ≡ false → is_registered rs n ≡ true → is_registered (without_key key rs) n ≡ true
registered_without_key [] n key shows h = h
registered_without_key (r ∷ rs) n key shows h = at_key r rs n key (r.node == n) refl shows h (registered_without_key rs n key)

held_without_key : (rs : List Registration) (key : ℕ) (held : Option Reservation) → is_holders rs key held ≡ false → IsHeld rs held → IsHeld (without_key key rs) held
held_without_key rs key None other h = tt
held_without_key rs key (Some held) other h = registered_without_key rs held.holder key other h

shown_at : (r : Registration) (rs : List Registration) (n key : ℕ) (b : Bool) → shows_key (option_map (λ q. q.key) (cond b (Some r) (find (λ q. q.node == n) rs))) key ≡ true
    → (shows_key (registered_key rs n) key ≡ true → is_registered rs n ≡ true) → (b || is_registered rs n) ≡ true
shown_at r rs n key true shows later = refl
shown_at r rs n key false shows later = later shows

registered_by_key : (rs : List Registration) (n key : ℕ) → shows_key (registered_key rs n) key ≡ true → is_registered rs n ≡ true
registered_by_key [] n key shows = shows
registered_by_key (r ∷ rs) n key shows = shown_at r rs n key (r.node == n) shows (registered_by_key rs n key)

none_at : (r : Registration) (rs : List Registration) (n : ℕ) (b : Bool) → option_map (λ q. q.key) (cond b (Some r) (find (λ q. q.node == n) rs)) ≡ None
    → (registered_key rs n ≡ None → is_registered rs n ≡ false) → (b || is_registered rs n) ≡ false
none_at r rs n true none later = absurd (cc)
none_at r rs n false none later = later none

pub unregistered_by_key : (rs : List Registration) (n : ℕ) → registered_key rs n ≡ None → is_registered rs n ≡ false
unregistered_by_key [] n none = refl
unregistered_by_key (r ∷ rs) n none = none_at r rs n (r.node == n) none (unregistered_by_key rs n)

shows_one : (o : Option ℕ) (key other : ℕ) → shows_key o key ≡ true → other ≢ key → shows_key o other ≡ false
shows_one None key other shows ne = refl
shows_one (Some k) key other shows ne = ne_eqb k other (λ e. ne (sym e ∙ eqb-true k key shows))

-- command by command
with_key_keeps : (d : Device) (node new : ℕ) (held : Option ℕ) → registered_key d.registrations node ≡ held → 1 ≤ node → node ≤ 32 → has d.paths node ≡ true → IsDevice d → IsDevice (with_key d node new held)
with_key_keeps d node new None none low high path h =
    let taken : Registration = record { node = node; key = new } in
    let more : Device = record d { registrations = d.registrations ++ taken ∷ [] } in
    cond_both (new == 0) d more IsDevice (λ _. h) (λ nz. record {
      apart = apart_push d.paths d.registrations taken low high path (eqb-false new 0 nz) (unregistered_by_key d.registrations node none) h.apart;
      held = held_push d.registrations taken d.reservation h.held;
    })
with_key_keeps d node new (Some key) some low high path h =
    let fewer : Device = record d { registrations = without_node node d.registrations; reservation = released_by node d.reservation } in
    let other : Device = record d { registrations = map (rekeyed node new) d.registrations } in
    cond_both (new == 0) fewer other IsDevice
    (λ _. record { apart = apart_filter d.paths (λ r. not (r.node == node)) d.registrations h.apart; held = held_without_node d.registrations node d.reservation h.held })
    (λ nz. record { apart = apart_rekey d.paths node new d.registrations (eqb-false new 0 nz) h.apart; held = held_rekey node new d.registrations d.reservation h.held })

keeps_if : (b : Bool) (x y : Outcome) → (b ≡ true → IsDevice x.after) → (b ≡ false → IsDevice y.after) → IsDevice (cond b x y).after
keeps_if b x y first second = cond_both b x y (λ (o : Outcome). IsDevice o.after) first second

reserving_keeps : (d : Device) (node : ℕ) (kind : PrKind) (held : Option Reservation) → is_registered d.registrations node ≡ true → IsDevice d → IsDevice (reserving d node kind held).after
reserving_keeps d node kind None reg h = record { apart = h.apart; held = reg }
reserving_keeps d node kind (Some held) reg h = keeps_if _ (good d) (conflict d) (λ _. h) (λ _. h)

releasing_keeps : (d : Device) (node : ℕ) (kind : PrKind) (held : Option Reservation) → IsDevice d → IsDevice (releasing d node kind held).after
releasing_keeps d node kind None h = h
releasing_keeps d node kind (Some held) h =
    keeps_if (held.holder == node) _ (good d)
    (λ _. keeps_if (same_kind held.kind kind) (good (record d { reservation = None })) (answers d answer.InvalidRelease) (λ _. record { apart = h.apart; held = tt }) (λ _. h))
    (λ _. h)

preempted_keeps : (d : Device) (node : ℕ) (kind : PrKind) (key victim : ℕ) → shows_key (registered_key d.registrations node) key ≡ true → victim ≢ key → IsDevice d → IsDevice (preempted d node kind victim)
preempted_keeps d node kind key victim shows ne h =
    let taken : Reservation = record { holder = node; kind = kind } in
    let all : Device = record d { registrations = without_key victim d.registrations; reservation = Some taken } in
    let some : Device = record d { registrations = without_key victim d.registrations } in
    let apart : IsApart d.paths (without_key victim d.registrations) = apart_filter d.paths (λ r. not (r.key == victim)) d.registrations h.apart in
    cond_both (is_holders d.registrations victim d.reservation) all some IsDevice
    (λ _. record {
      apart = apart;
      held = registered_without_key d.registrations node victim (shows_one (registered_key d.registrations node) key victim shows ne) (registered_by_key d.registrations node key shows);
    })
    (λ other. record { apart = apart; held = held_without_key d.registrations victim d.reservation other h.held })

swapping_keeps : (d : Device) (expect new : ℕ) → IsDevice d → IsDevice (swapping d expect new).after
swapping_keeps d expect new h =
    keeps_if (d.word == expect) (good (record d { word = new })) (answers d (answer.Miscompare d.word)) (λ _. record { apart = h.apart; held = h.held }) (λ _. h)

pub carried_out_keeps : (d : Device) (node : ℕ) (c : PrCommand) → 1 ≤ node → node ≤ 32 → has d.paths node ≡ true → IsAllowed c → IsDevice d → IsDevice (carried_out d node c).after
carried_out_keeps d node (command.Register key new) low high path allowed h =
    keeps_if _ _ (conflict d) (λ _. with_key_keeps d node new (registered_key d.registrations node) refl low high path h) (λ _. h)
carried_out_keeps d node (command.Ignore new) low high path allowed h = with_key_keeps d node new (registered_key d.registrations node) refl low high path h
carried_out_keeps d node (command.Reserve kind key) low high path allowed h =
    keeps_if (shows_key (registered_key d.registrations node) key) _ (conflict d) (λ shows. reserving_keeps d node kind d.reservation (registered_by_key d.registrations node key shows) h) (λ _. h)
carried_out_keeps d node (command.Release kind key) low high path allowed h = keeps_if _ _ (conflict d) (λ _. releasing_keeps d node kind d.reservation h) (λ _. h)
carried_out_keeps d node (command.Clear key) low high path allowed h =
    keeps_if (shows_key (registered_key d.registrations node) key) (good (cleared d)) (conflict d) (λ _. record { apart = tt; held = tt }) (λ _. h)
carried_out_keeps d node (command.Preempt kind key victim) low high path allowed h =
    keeps_if (shows_key (registered_key d.registrations node) key) _ (conflict d)
    (λ shows. keeps_if (has_key d.registrations victim) _ (conflict d) (λ _. preempted_keeps d node kind key victim shows allowed.1 h) (λ _. h))
    (λ _. h)
carried_out_keeps d node command.Keys low high path allowed h = h
carried_out_keeps d node command.Holder low high path allowed h = h
carried_out_keeps d node command.Read low high path allowed h = keeps_if _ _ (conflict d) (λ _. h) (λ _. h)
carried_out_keeps d node (command.Write value) low high path allowed h =
    keeps_if _ _ (conflict d) (λ _. record { apart = h.apart; held = h.held }) (λ _. h)
carried_out_keeps d node command.Word low high path allowed h = keeps_if _ _ (conflict d) (λ _. h) (λ _. h)
carried_out_keeps d node (command.Swap expect new) low high path allowed h = keeps_if _ _ (conflict d) (λ _. swapping_keeps d expect new h) (λ _. h)

pub step_keeps : (d : Device) (node : ℕ) (c : PrCommand) → 1 ≤ node → node ≤ 32 → IsAllowed c → IsDevice d → IsDevice (step d node c).after
step_keeps d node c low high allowed h =
    keeps_if (has d.paths node) (carried_out d node c) (answers d answer.NoPath) (λ path. carried_out_keeps d node c low high path allowed h) (λ _. h)
