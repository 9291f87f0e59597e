-- Each command that changes the device leaves it tied to what the machine's step makes of its own.
use Rattle.std.proofs.Common.{◌≡◌, ◌≢◌, ℕ, ◌≤◌, ◌==◌, ◌⊎◌, inl, inr, Bool, true, false, not, ◌&&◌, ◌||◌, Option, Some, None, refl, sym, subst, ◌∙◌, arith}
use Rattle.std.specs.Prelude.{nat_eq, if◌then◌else◌}
use Rattle.std.proofs.lemmas.Bool.{cond_both, cond-false, eq-eqb, ne_eqb, and_from, and_left, and_right, not_from_true}
use Rattle.std.proofs.lemmas.Bool.Decides.{nat_tests}
use Rattle.machine_base.specs.Put.{put}
use Rattle.machine_base.proofs.Puts.{put_cases, same_or_not}
use Rattle.pgr_device.specs.declared.kind.PrKind.TheVariants.{WriteExclusiveRegistrantsOnly}
use Rattle.pgr_device.specs.declared.registration.Reservation.{Reservation}
use Rattle.pgr_device.specs.declared.command.PrCommand.TheVariants as command
use Rattle.pgr_device.specs.Device as pgr
use Rattle.pgr_device.specs.Registered.{registered_key, is_registered, has_key}
use Rattle.pgr_device.specs.Spc as spc
use Rattle.pgr_device.specs.Spc.{Outcome, good, conflict, shows_key, is_holders, with_key, carried_out}
use Rattle.cl_base.specs.Keys.{key_of}
use Rattle.device_machine.specs.Device.{Device, registering, wording, reserving, preempting, storing}
use Rattle.device_ties.specs.Devices.{HeldTied, DeviceTied}
use Rattle.device_ties.proofs.Registrations.{has_own, shows_own, key_absent, key_there, registered_again, added, added_has, added_own, less, less_has, less_own}

module _ (cluster n : ℕ) (low : 1 ≤ n) (high : n ≤ 32) (p : pgr.Device) (d : Device) (tied : DeviceTied cluster p d) where
  own : ℕ
  own = key_of cluster n

  -- Register, whatever key the node has
  not_zero : (key_of cluster n == 0) ≡ false
  not_zero = ne_eqb (key_of cluster n) 0 (λ e. omega arith)

  new_keys : is_registered p.registrations n ≡ false → (k : ℕ) → is_registered (added cluster n p.registrations) k ≡ put d.keys n true k
  new_keys none k = added_has cluster n p.registrations k ∙ both (tied.keys k)
    where
      both : is_registered p.registrations k ≡ d.keys k → (is_registered p.registrations k || (n == k)) ≡ put d.keys n true k
      both e = grind (arith, nat_tests)

  same_keys : is_registered p.registrations n ≡ true → (k : ℕ) → is_registered p.registrations k ≡ put d.keys n true k
  same_keys there k = put_cases (λ j x. is_registered p.registrations j ≡ x) d.keys n true there (λ j ne. tied.keys j) k

  register_by : (held : Option ℕ) → registered_key p.registrations n ≡ held → DeviceTied cluster (with_key p n (key_of cluster n) held) (registering d n)
  register_by None e = let none = key_absent p.registrations n e in rw not_zero (record {
    own = added_own cluster n p.registrations low high none tied.own;
    keys = new_keys none;
    held = tied.held;
    word = tied.word;
    content = tied.content;
  })
  register_by (Some key) e = rw (not_zero, registered_again cluster n p.registrations tied.own) (record {
    own = tied.own;
    keys = same_keys (key_there p.registrations n key e);
    held = tied.held;
    word = tied.word;
    content = tied.content;
  })

  pub registered : DeviceTied cluster (carried_out p n (command.Ignore (key_of cluster n))).after (registering d n)
  registered = register_by (registered_key p.registrations n) refl

  -- Swap and Write, which the device takes
  pub swapped : (w : ℕ) → DeviceTied cluster (record p { word = w }) (wording d w)
  swapped w = record { own = tied.own; keys = tied.keys; held = tied.held; word = refl; content = tied.content }

  pub written : (x : ℕ) → DeviceTied cluster (record p { value = x }) (storing d x)
  written x = record { own = tied.own; keys = tied.keys; held = tied.held; word = tied.word; content = refl }

  -- the node shows its key where it is registered
  shows_is : shows_key (registered_key p.registrations n) (key_of cluster n) ≡ d.keys n
  shows_is = shows_own cluster p.registrations n n tied.own ∙ both (tied.keys n)
    where
      both : is_registered p.registrations n ≡ d.keys n → (is_registered p.registrations n && (n == n)) ≡ d.keys n
      both e = grind (arith, nat_tests)

  -- Reserve
  idle_reserve : (d.keys n ≡ false) ⊎ (d.reserved ≡ true) → reserving d n ≡ d
  idle_reserve (inl none) = cond-false (d.keys n && not d.reserved) _ d (and_left (d.keys n) (not d.reserved) none)
  idle_reserve (inr stands) = cond-false (d.keys n && not d.reserved) _ d (and_right (d.keys n) (not d.reserved) (not_from_true d.reserved stands))

  first_reserve : d.keys n ≡ true → d.reserved ≡ false → reserving d n ≡ record d { reserved = true; holder = n }
  first_reserve k r = rw (k, r) refl

  reserve_by : (r : Option Reservation) → p.reservation ≡ r → d.keys n ≡ true → HeldTied r d.reserved d.holder → DeviceTied cluster (spc.reserving p n WriteExclusiveRegistrantsOnly r).after (reserving d n)
  reserve_by None e k h = subst (λ x. DeviceTied cluster (spc.reserving p n WriteExclusiveRegistrantsOnly None).after x) (sym (first_reserve k h))
      (record { own = tied.own; keys = tied.keys; held = (refl, refl, refl); word = tied.word; content = tied.content })
  reserve_by (Some held) e k h = cond_both _ (good p) (conflict p) (λ o. DeviceTied cluster o.after (reserving d n)) (λ y. still) (λ y. still)
    where
      still : DeviceTied cluster p (reserving d n)
      still = subst (λ x. DeviceTied cluster p x) (sym (idle_reserve (inr h.0))) tied

  pub reserved : DeviceTied cluster (carried_out p n (command.Reserve WriteExclusiveRegistrantsOnly (key_of cluster n))).after (reserving d n)
  reserved = cond_both (shows_key (registered_key p.registrations n) (key_of cluster n)) (spc.reserving p n WriteExclusiveRegistrantsOnly p.reservation) (conflict p)
      (λ o. DeviceTied cluster o.after (reserving d n))
      (λ yes. reserve_by p.reservation refl (sym shows_is ∙ yes) tied.held)
      (λ no. subst (λ x. DeviceTied cluster p x) (sym (idle_reserve (inl (sym shows_is ∙ no)))) tied)

  -- Preempt of node t's key
  module _ (t : ℕ) where
    idle_preempt : (d.keys n ≡ false) ⊎ (d.keys t ≡ false) → preempting d n t ≡ d
    idle_preempt (inl none) = cond-false (d.keys n && d.keys t) _ d (and_left (d.keys n) (d.keys t) none)
    idle_preempt (inr none) = cond-false (d.keys n && d.keys t) _ d (and_right (d.keys n) (d.keys t) none)

    victim_is : has_key p.registrations (key_of cluster t) ≡ d.keys t
    victim_is = has_own cluster p.registrations t tied.own ∙ tied.keys t

    done_preempt : d.keys n ≡ true → d.keys t ≡ true → preempting d n t ≡ record d { keys = put d.keys t false; holder = if nat_eq t d.holder then n else d.holder }
    done_preempt k h = rw (k, h) refl

    less_keys : (k : ℕ) → is_registered (less cluster t p.registrations) k ≡ put d.keys t false k
    less_keys k = less_has cluster t p.registrations k tied.own ∙ both (tied.keys k)
      where
        both : is_registered p.registrations k ≡ d.keys k → (is_registered p.registrations k && not (k == t)) ≡ put d.keys t false k
        both e = grind (arith, nat_tests)

    -- the reservation goes over to the node where its holder's key goes
    holders_goes : (held : Reservation) → HeldTied (Some held) d.reserved d.holder → held.holder ≡ t → d.keys t ≡ true
        → (is_holders p.registrations (key_of cluster t) (Some held) ≡ true) × (nat_eq t d.holder ≡ true)
    holders_goes held h same k = (
      shows_own cluster p.registrations held.holder t tied.own
          ∙ and_from (is_registered p.registrations held.holder) (held.holder == t) (tied.keys held.holder ∙ subst (λ m. d.keys m ≡ true) (sym same) k) (eq-eqb held.holder t same),
      eq-eqb t d.holder (sym (h.1 ∙ same)),
    )

    holders_stays : (held : Reservation) → HeldTied (Some held) d.reserved d.holder → held.holder ≢ t
        → (is_holders p.registrations (key_of cluster t) (Some held) ≡ false) × (nat_eq t d.holder ≡ false)
    holders_stays held h other = (
      shows_own cluster p.registrations held.holder t tied.own ∙ and_right (is_registered p.registrations held.holder) (held.holder == t) (ne_eqb held.holder t other),
      ne_eqb t d.holder (λ e. other (sym (e ∙ h.1))),
    )

    -- the device with node t's registration gone, and the reservation standing or taken over
    abbrev Gone : Option Reservation → Bool → Type 0
    Gone r over = DeviceTied cluster (record p { registrations = less cluster t p.registrations; reservation = r }) (record d { keys = put d.keys t false; holder = if over then n else d.holder })

    gone : (r : Option Reservation) (over : Bool) → HeldTied r d.reserved (if over then n else d.holder) → Gone r over
    gone r over h = record { own = less_own cluster t p.registrations tied.own; keys = less_keys; held = h; word = tied.word; content = tied.content }

    preempted_by : (r : Option Reservation) → p.reservation ≡ r → HeldTied r d.reserved d.holder → d.keys t ≡ true
        → DeviceTied cluster
        (if is_holders p.registrations (key_of cluster t) r
        then record p { registrations = less cluster t p.registrations; reservation = Some (record { holder = n; kind = WriteExclusiveRegistrantsOnly }) }
        else record p { registrations = less cluster t p.registrations })
        (record d { keys = put d.keys t false; holder = if nat_eq t d.holder then n else d.holder })
    preempted_by None e h k = gone p.reservation (nat_eq t d.holder) (subst (λ r. HeldTied r d.reserved (if nat_eq t d.holder then n else d.holder)) (sym e) h)
    preempted_by (Some held) e h k = go (same_or_not held.holder t)
      where
        go : (held.holder ≡ t) ⊎ (held.holder ≢ t)
            → DeviceTied cluster
            (if is_holders p.registrations (key_of cluster t) (Some held)
            then record p { registrations = less cluster t p.registrations; reservation = Some (record { holder = n; kind = WriteExclusiveRegistrantsOnly }) }
            else record p { registrations = less cluster t p.registrations })
            (record d { keys = put d.keys t false; holder = if nat_eq t d.holder then n else d.holder })
        go (inl same) = let both = holders_goes held h same k in
            rw (both.0, both.1) (gone (Some (record { holder = n; kind = WriteExclusiveRegistrantsOnly })) true (h.0, refl, refl))
        go (inr other) = let both = holders_stays held h other in
            rw (both.0, both.1) (gone p.reservation false (subst (λ r. HeldTied r d.reserved d.holder) (sym e) h))

    preempt_by : d.keys n ≡ true → (b : Bool) → has_key p.registrations (key_of cluster t) ≡ b
        → DeviceTied cluster (if b then good (spc.preempted p n WriteExclusiveRegistrantsOnly (key_of cluster t)) else conflict p).after (preempting d n t)
    preempt_by key true e = let there : d.keys t ≡ true = sym victim_is ∙ e in
        subst (λ x. DeviceTied cluster (spc.preempted p n WriteExclusiveRegistrantsOnly (key_of cluster t)) x) (sym (done_preempt key there)) (preempted_by p.reservation refl tied.held there)
    preempt_by key false e = subst (λ x. DeviceTied cluster p x) (sym (idle_preempt (inr (sym victim_is ∙ e)))) tied

    pub preempted : DeviceTied cluster (carried_out p n (command.Preempt WriteExclusiveRegistrantsOnly (key_of cluster n) (key_of cluster t))).after (preempting d n t)
    preempted = cond_both (shows_key (registered_key p.registrations n) (key_of cluster n)) (spc.preempting p n WriteExclusiveRegistrantsOnly (key_of cluster t)) (conflict p)
        (λ o. DeviceTied cluster o.after (preempting d n t))
        (λ yes. preempt_by (sym shows_is ∙ yes) (has_key p.registrations (key_of cluster t)) refl)
        (λ no. subst (λ x. DeviceTied cluster p x) (sym (idle_preempt (inl (sym shows_is ∙ no)))) tied)
