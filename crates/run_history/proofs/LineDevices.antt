-- What device lines leave of the devices, and of the faults that are armed.
use Rattle.std.specs.Prelude.{ℕ, ◌+◌, ◌-◌, ◌*◌, ◌==◌, ◌&&◌, ◌≡◌, ◌≢◌, ◌≤◌, ◌<◌, ◌⊎◌, Bool, true, false, List, ◌∷◌, Option, None, Some, length, slice_get, slice_index_or, slice_set}
use Rattle.std.proofs.Common.{refl, sym, ap, subst, ◌∙◌, inl, inr, arith}
use Rattle.std.proofs.lemmas.List.{get_or-set_other, get_or-set_same, length-set}
use Rattle.cl_base.specs.declared.header.Header.{Header}
use Rattle.cmm_attempt.proofs.Basics.{same_some}
use Rattle.machine_base.proofs.Puts.{same_or_not}
use Rattle.pgr_device.specs.Device.{Device}
use Rattle.pgr_device.specs.declared.command.PrCommand.{PrCommand}
use Rattle.schedule_text.specs.declared.event.Event.{Event}
use Rattle.schedule_text.specs.declared.event.Event.TheVariants as event
use Rattle.schedule_text.specs.declared.line.Line.TheVariants as line
use Rattle.status_report.specs.declared.device_entry.DeviceAnswer.{DeviceAnswer}
use Rattle.status_report.specs.declared.device_entry.DeviceEntry.TheVariants as device
use Rattle.status_report.specs.declared.entry.Entry.{Entry}
use Rattle.status_report.specs.declared.entry.Entry.TheVariants as entry
use Rattle.history.specs.DeviceRun as lines
use Rattle.history.specs.DeviceRun.{DeviceRun, IsDeviceLine, answer_of, armed_fault, state_of}
use Rattle.history.specs.Moment.{Moment, Part, Said, Told}
use Rattle.node_model.specs.Devices.{answer_told}
use Rattle.world_model.specs.Devices.{executed}
use Rattle.run_history.specs.Scenes.{Scene, telling}
use Rattle.run_history.specs.WorldLines.{IsDevice}
use Rattle.run_history.proofs.Places.{Agree, Differ, cleared, if_false, if_true, is_other, is_same, one_or_other, place_within, places_differ, set_here, set_there}

-- These lines leave these devices, and these faults.
pub record Keeps (h : Header) (devices : List Device) (faults : List (Option Bool)) (moments : List Moment) : Type 0 where
  pub count : length devices ≡ length h.devices
  pub room : length faults ≡ h.nodes * length h.devices
  pub states : (d : ℕ) → IsDevice h d → slice_get devices (d - 1) ≡ Some (state_of h d moments)
  pub armed : (n d : ℕ) → 1 ≤ n → IsDevice h d → slice_index_or faults ((n - 1) * length devices + (d - 1)) None ≡ armed_fault n d moments
  pub run : DeviceRun h moments

abbrev pub AtDevices : Header → Scene → Type 0
AtDevices h s = Keeps h s.devices s.faults s.moments

-- a moment that says nothing of devices
still : (h : Header) (devices : List Device) (faults : List (Option Bool)) (ms : List Moment) (x : Moment) → ((d : ℕ) → state_of h d (x ∷ ms) ≡ state_of h d ms)
    → ((n d : ℕ) → armed_fault n d (x ∷ ms) ≡ armed_fault n d ms) → IsDeviceLine h ms x → Keeps h devices faults ms → Keeps h devices faults (x ∷ ms)
still h devices faults ms x same_state same_fault follows k = record {
  count = k.count;
  room = k.room;
  states = λ d is. k.states d is ∙ ap (λ z. Some z) (sym (same_state d));
  armed = λ n d low is. k.armed n d low is ∙ sym (same_fault n d);
  run = (follows, k.run);
}

abbrev pub NoFault : Event → Type 0
NoFault (event.Fault n d done) = ⊥
NoFault _ = Unit {0}

abbrev pub NoCommand : Entry → Type 0
NoCommand (entry.Device (device.Command n d command answer)) = ⊥
NoCommand _ = Unit {0}

pub told_still : (h : Header) (s : Scene) (e : Entry) → NoCommand e → AtDevices h s → AtDevices h (telling e s)
told_still h s (entry.Device (device.Command n d command answer)) q k = absurd q
told_still h s (entry.Device (device.Accepted e n d value)) q k = still h s.devices s.faults s.moments (Told (entry.Device (device.Accepted e n d value))) (λ d2. refl) (λ n2 d2. refl) tt k
told_still h s (entry.Device (device.Refused n d value why)) q k = still h s.devices s.faults s.moments (Told (entry.Device (device.Refused n d value why))) (λ d2. refl) (λ n2 d2. refl) tt k
told_still h s (entry.Answered a) q k = still h s.devices s.faults s.moments (Told (entry.Answered a)) (λ d. refl) (λ n d. refl) tt k
told_still h s entry.Powered q k = still h s.devices s.faults s.moments (Told entry.Powered) (λ d. refl) (λ n d. refl) tt k
told_still h s (entry.Node m e) q k = still h s.devices s.faults s.moments (Told (entry.Node m e)) (λ d. refl) (λ n d. refl) tt k
told_still h s (entry.Packet e) q k = still h s.devices s.faults s.moments (Told (entry.Packet e)) (λ d. refl) (λ n d. refl) tt k
told_still h s (entry.Attempt e) q k = still h s.devices s.faults s.moments (Told (entry.Attempt e)) (λ d. refl) (λ n d. refl) tt k
told_still h s (entry.Start e) q k = still h s.devices s.faults s.moments (Told (entry.Start e)) (λ d. refl) (λ n d. refl) tt k
told_still h s (entry.Update e) q k = still h s.devices s.faults s.moments (Told (entry.Update e)) (λ d. refl) (λ n d. refl) tt k
told_still h s (entry.Call e) q k = still h s.devices s.faults s.moments (Told (entry.Call e)) (λ d. refl) (λ n d. refl) tt k
told_still h s (entry.Command e) q k = still h s.devices s.faults s.moments (Told (entry.Command e)) (λ d. refl) (λ n d. refl) tt k
told_still h s (entry.Status e) q k = still h s.devices s.faults s.moments (Told (entry.Status e)) (λ d. refl) (λ n d. refl) tt k
told_still h s (entry.Address e) q k = still h s.devices s.faults s.moments (Told (entry.Address e)) (λ d. refl) (λ n d. refl) tt k
told_still h s (entry.Schedule e) q k = still h s.devices s.faults s.moments (Told (entry.Schedule e)) (λ d. refl) (λ n d. refl) tt k

pub begun_still : (h : Header) (s : Scene) (e : Event) → AtDevices h s → Keeps h s.devices s.faults (Part e ∷ s.moments)
begun_still h s e k = still h s.devices s.faults s.moments (Part e) (λ d. refl) (λ n d. refl) tt k

-- A command.

same_answer : (x : Device) (n : ℕ) (k : PrCommand) (f : Option Bool) → answer_told (executed x n k f).answer ≡ answer_of f x n k
same_answer x n k None = refl
same_answer x n k (Some true) = refl
same_answer x n k (Some false) = refl

same_device : (x : Device) (n : ℕ) (k : PrCommand) (f : Option Bool) → (executed x n k f).device ≡ lines.commanded f x n k
same_device x n k None = refl
same_device x n k (Some true) = refl
same_device x n k (Some false) = refl

up_one : (m n : ℕ) → 1 ≤ m → 1 ≤ n → m - 1 ≡ n - 1 → m ≡ n
up_one m n h k e = omega (arith, h, k, e)

-- the states of devices after a command at device d
state_after : (h : Header) (devices : List Device) (ms : List Moment) (n d e : ℕ) (k : PrCommand) (a : DeviceAnswer) (old new : Device) → 1 ≤ d → 1 ≤ e
    → slice_get devices (d - 1) ≡ Some old → new ≡ lines.commanded (armed_fault n d ms) (state_of h d ms) n k → slice_get devices (e - 1) ≡ Some (state_of h e ms)
    → slice_get (slice_set devices (d - 1) new) (e - 1) ≡ Some (state_of h e (Told (entry.Device (device.Command n d k a)) ∷ ms))
state_after h devices ms n d e k a old new d1 e1 at is before = go (same_or_not e d)
  where
    go : (e ≡ d) ⊎ (e ≢ d) → slice_get (slice_set devices (d - 1) new) (e - 1) ≡ Some (state_of h e (Told (entry.Device (device.Command n d k a)) ∷ ms))
    go (inl same) =
        subst (λ j. slice_get (slice_set devices (d - 1) new) (j - 1) ≡ Some (state_of h j (Told (entry.Device (device.Command n d k a)) ∷ ms))) (sym same)
        (set_here devices (d - 1) old new at
        ∙ ap (λ z. Some z) (is ∙ sym (if_true (d == d) (lines.commanded (armed_fault n d ms) (state_of h d ms) n k) (state_of h d ms) (is_same d d refl))))
    go (inr ne) =
        set_there devices (d - 1) (e - 1) new (λ p. ne (up_one e d e1 d1 p)) ∙ before
        ∙ ap (λ z. Some z) (sym (if_false (d == e) (lines.commanded (armed_fault n e ms) (state_of h e ms) n k) (state_of h e ms) (is_other d e (λ p. ne (sym p)))))

-- .. and the faults that are armed
armed_after : (h : Header) (faults : List (Option Bool)) (ms : List Moment) (l n d m e : ℕ) (k : PrCommand) (a : DeviceAnswer) → 1 ≤ n → 1 ≤ m → 1 ≤ d → d ≤ l → 1 ≤ e → e ≤ l
    → slice_index_or faults ((m - 1) * l + (e - 1)) None ≡ armed_fault m e ms
    → slice_index_or (slice_set faults ((n - 1) * l + (d - 1)) None) ((m - 1) * l + (e - 1)) None ≡ armed_fault m e (Told (entry.Device (device.Command n d k a)) ∷ ms)
armed_after h faults ms l n d m e k a n1 m1 d1 dl e1 el before = go (one_or_other n m d e)
  where
    go : Agree n m d e ⊎ Differ n m d e
        → slice_index_or (slice_set faults ((n - 1) * l + (d - 1)) None) ((m - 1) * l + (e - 1)) None ≡ armed_fault m e (Told (entry.Device (device.Command n d k a)) ∷ ms)
    go (inl both) =
        ap (λ i. slice_index_or (slice_set faults ((n - 1) * l + (d - 1)) None) i None)
        (ap (λ z. (z - 1) * l + (e - 1)) (sym both.node) ∙ ap (λ z. (n - 1) * l + (z - 1)) (sym both.device))
        ∙ cleared faults ((n - 1) * l + (d - 1)) ∙ sym (if_true ((n == m) && (d == e)) None (armed_fault m e ms) both.test)
    go (inr others) =
        get_or-set_other faults ((n - 1) * l + (d - 1)) ((m - 1) * l + (e - 1)) None None
        (λ p. places_differ n m d e l n1 m1 d1 dl e1 el others.apart (sym p))
        ∙ before ∙ sym (if_false ((n == m) && (d == e)) None (armed_fault m e ms) others.test)

pub command_keeps : (h : Header) (devices : List Device) (faults : List (Option Bool)) (ms : List Moment) (n d : ℕ) (k : PrCommand) (x : Device) (f : Option Bool) → 1 ≤ n → IsDevice h d
    → slice_get devices (d - 1) ≡ Some x → f ≡ slice_index_or faults ((n - 1) * length devices + (d - 1)) None → Keeps h devices faults ms
    → Keeps h (slice_set devices (d - 1) (executed x n k f).device) (slice_set faults ((n - 1) * length devices + (d - 1)) None)
    (Told (entry.Device (device.Command n d k (answer_told (executed x n k f).answer))) ∷ ms)
command_keeps h devices faults ms n d k x f low is at armed keeps =
    let a : DeviceAnswer = answer_told (executed x n k f).answer in
    let l : ℕ = length devices in
    let within : d ≤ l = subst (λ z. d ≤ z) (sym keeps.count) is.1 in
    let fault : f ≡ armed_fault n d ms = armed ∙ keeps.armed n d low is in
    let state : x ≡ state_of h d ms = same_some x (state_of h d ms) (sym at ∙ keeps.states d is) in
    let after : (executed x n k f).device ≡ lines.commanded (armed_fault n d ms) (state_of h d ms) n k =
    same_device x n k f ∙ ap (λ z. lines.commanded z x n k) fault ∙ ap (λ z. lines.commanded (armed_fault n d ms) z n k) state in
    record {
      count = length-set devices (d - 1) (executed x n k f).device ∙ keeps.count;
      room = length-set faults ((n - 1) * l + (d - 1)) None ∙ keeps.room;
      states = λ e of. state_after h devices ms n d e k a x (executed x n k f).device is.0 of.0 at after (keeps.states e of);
      armed = λ m e first of.
          ap (λ z. slice_index_or (slice_set faults ((n - 1) * l + (d - 1)) None) ((m - 1) * z + (e - 1)) None) (length-set devices (d - 1) (executed x n k f).device)
          ∙ armed_after h faults ms l n d m e k a low first is.0 within of.0 (subst (λ z. e ≤ z) (sym keeps.count) of.1) (keeps.armed m e first of);
      run = (same_answer x n k f ∙ ap (λ z. answer_of z x n k) fault ∙ ap (λ z. answer_of (armed_fault n d ms) z n k) state, keeps.run);
    }

-- A line that arms a fault.

arms_fault : (faults : List (Option Bool)) (ms : List Moment) (done : Bool) (l n d m e : ℕ) → 1 ≤ n → 1 ≤ m → 1 ≤ d → d ≤ l → 1 ≤ e → e ≤ l
    → (n - 1) * l + (d - 1) < length faults → slice_index_or faults ((m - 1) * l + (e - 1)) None ≡ armed_fault m e ms
    → slice_index_or (slice_set faults ((n - 1) * l + (d - 1)) (Some done)) ((m - 1) * l + (e - 1)) None ≡ armed_fault m e (Said (line.Event (event.Fault n d done)) ∷ ms)
arms_fault faults ms done l n d m e n1 m1 d1 dl e1 el within before = go (one_or_other n m d e)
  where
    go : Agree n m d e ⊎ Differ n m d e
        → slice_index_or (slice_set faults ((n - 1) * l + (d - 1)) (Some done)) ((m - 1) * l + (e - 1)) None ≡ armed_fault m e (Said (line.Event (event.Fault n d done)) ∷ ms)
    go (inl both) =
        ap (λ i. slice_index_or (slice_set faults ((n - 1) * l + (d - 1)) (Some done)) i None)
        (ap (λ z. (z - 1) * l + (e - 1)) (sym both.node) ∙ ap (λ z. (n - 1) * l + (z - 1)) (sym both.device))
        ∙ get_or-set_same faults ((n - 1) * l + (d - 1)) (Some done) None within ∙ sym (if_true ((n == m) && (d == e)) (Some done) (armed_fault m e ms) both.test)
    go (inr others) =
        get_or-set_other faults ((n - 1) * l + (d - 1)) ((m - 1) * l + (e - 1)) (Some done) None
        (λ p. places_differ n m d e l n1 m1 d1 dl e1 el others.apart (sym p))
        ∙ before ∙ sym (if_false ((n == m) && (d == e)) (Some done) (armed_fault m e ms) others.test)

pub fault_keeps : (h : Header) (devices : List Device) (faults : List (Option Bool)) (ms : List Moment) (n d : ℕ) (done : Bool) → 1 ≤ n → n ≤ h.nodes → 1 ≤ d → d ≤ length devices
    → Keeps h devices faults ms
    → Keeps h devices (slice_set faults ((n - 1) * length devices + (d - 1)) (Some done)) (Said (line.Event (event.Fault n d done)) ∷ ms)
fault_keeps h devices faults ms n d done n1 most d1 dl keeps =
    let l : ℕ = length devices in
    let within : (n - 1) * l + (d - 1) < length faults =
    subst (λ z. (n - 1) * l + (d - 1) < z) (ap (λ z. h.nodes * z) keeps.count ∙ sym keeps.room) (place_within n d h.nodes l n1 most d1 dl) in
    record {
      count = keeps.count;
      room = length-set faults ((n - 1) * l + (d - 1)) (Some done) ∙ keeps.room;
      states = keeps.states;
      armed = λ m e first of. arms_fault faults ms done l n d m e n1 first d1 dl of.0 (subst (λ z. e ≤ z) (sym keeps.count) of.1) within (keeps.armed m e first of);
      run = (tt, keeps.run);
    }

-- any other line
pub said_still : (h : Header) (s : Scene) (e : Event) → NoFault e → AtDevices h s → Keeps h s.devices s.faults (Said (line.Event e) ∷ s.moments)
said_still h s (event.Fault n d done) q k = absurd q
said_still h s e q k = still h s.devices s.faults s.moments (Said (line.Event e)) (λ d. refl) (λ n d. refl) tt k
