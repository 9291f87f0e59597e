-- The image that a crash leaves after a save that stops.
use Rattle.std.proofs.Common.{◌≡◌, ℕ, ◌+◌, ◌-◌, ◌<◌, ◌≤◌, List, [], ◌∷◌, length, replicate, Bool, true, false, if◌then◌else◌, refl, sym, ◌∙◌, ap, subst, arith}
use Rattle.std.specs.Prelude.{Option, Some, None, ◌==◌, ◌&&◌, Result, Ok, Err, OnErr}
use Rattle.std.proofs.lemmas.Bool.{eqb-true, lt-ltb, le-ltb}
use Rattle.std.proofs.lemmas.List.{length-replicate}
use Rattle.local_disk.specs.declared.memory.Choice.{Choice}
use Rattle.local_disk.specs.declared.memory.Choice.TheVariants.{Old, New, Zero}
use Rattle.local_disk.specs.LocalDisk.{overwritten, SameOutside, TakesCalls, disk_bytes_is}
use Rattle.local_disk.specs.Memory.{spoiled, Spoils}
use Rattle.local_disk.proofs.Places.{outside_overwritten}
use Rattle.record_store.specs.declared.slot.Slot.{Slot}
use Rattle.record_store.specs.declared.slot.Slot.TheVariants.{First, Second}
use Rattle.record_store.specs.Images.{place_of, other_slot, selector_of, selected, slot_bytes, text_of, MountsTo}
use Rattle.record_store.specs.Store.{Held, Gives, names, reaches, LeavesBy}
use Rattle.record_store.proofs.Slots.{IsStaged, same_selected, same_slots, names_itself, mounts_by, still_old_by}

spoiled_outside : (choice : Choice) (p : ℕ) (bytes image : List ℕ) → p + length bytes ≤ length image → SameOutside p (length bytes) image (spoiled choice p bytes image)
spoiled_outside Old p bytes image fits = record { size = refl; before = refl; after = refl }
spoiled_outside New p bytes image fits = outside_overwritten image p bytes fits
spoiled_outside Zero p bytes image fits =
    let zeros : List ℕ = replicate (length bytes) 0 in
    let long : length zeros ≡ length bytes = length-replicate (length bytes) 0 in
    subst (λ (n : ℕ). SameOutside p n image (overwritten image p zeros)) long (outside_overwritten image p zeros (omega (arith, long)))

-- ---- while the slot is written, and until it is synced

-- the stop was one of these two calls
early : (calls : ℕ) (choice : Choice) (old new : Held) (image : List ℕ) → calls ≤ 2 → Gives old image → LeavesBy (Some calls) choice old new image
early calls choice old new image soon gives =
    let is : reaches calls choice new.slot ≡ false = ap (λ (b : Bool). b && names choice new.slot) (le-ltb 2 calls soon) in
    subst (λ (b : Bool). Gives (if b then new else old) image) (sym is) gives

abbrev pub with_text : Slot → List ℕ → Held
with_text slot text = record { slot = slot; text = text }

still : (b : Bool) (choice : Choice) (slot : Slot) (p : ℕ) (bytes old was image : List ℕ) → p ≡ place_of slot → p ≤ 65556 → length bytes ≤ 65540 → selected old ≡ other_slot slot → MountsTo (text_of old) old
    → was ≡ old → image ≡ (if b then was else spoiled choice p bytes was) → Gives (with_text (other_slot slot) (text_of old)) image
still b choice slot p bytes old was image at within most picks mounts same left =
    let now : (c : Bool) → SameOutside p (length bytes) old (if c then old else spoiled choice p bytes old) =
    elim [
      | true ↦ record { size = refl; before = refl; after = refl }
      | false ↦ spoiled_outside choice p bytes old (omega (arith, within, most, mounts.mountable.size, disk_bytes_is))
    ] in
    let outside : SameOutside p (length bytes) old image =
    subst (SameOutside p (length bytes) old) (sym (left ∙ ap (λ (l : List ℕ). if b then l else spoiled choice p bytes l) same)) (now b) in
    record {
      slot = same_selected slot (length bytes) old image (subst (λ (q : ℕ). SameOutside q (length bytes) old image) at outside) ∙ picks;
      mounts = still_old_by slot p (length bytes) old image at most picks mounts outside;
    }

pub stopped_first : (b : Bool) (calls after : Option ℕ) (choice : Choice) (slot : Slot) (p : ℕ) (bytes text old was image : List ℕ) → p ≡ place_of slot → p ≤ 65556 → length bytes ≤ 65540
    → selected old ≡ other_slot slot → MountsTo (text_of old) old → was ≡ old → TakesCalls b 1 calls after false → Spoils calls choice p bytes was image
    → LeavesBy calls choice (with_text (other_slot slot) (text_of old)) (with_text slot text) image
stopped_first b None after choice slot p bytes text old was image at within most picks mounts same fails left = tt
stopped_first b (Some calls) after choice slot p bytes text old was image at within most picks mounts same fails left =
    early calls choice (with_text (other_slot slot) (text_of old)) (with_text slot text) image (omega (arith, fails.0))
    (still (calls == 0) choice slot p bytes old was image at within most picks mounts same left)

pub stopped_second : (b : Bool) (calls mid after : Option ℕ) (choice : Choice) (slot : Slot) (p : ℕ) (bytes text old was written image : List ℕ) → p ≡ place_of slot → p ≤ 65556 → length bytes ≤ 65540
    → selected old ≡ other_slot slot → MountsTo (text_of old) old → was ≡ old → TakesCalls b 1 calls mid true → TakesCalls b 1 mid after false → Spoils calls choice p bytes was written → image ≡ written
    → LeavesBy calls choice (with_text (other_slot slot) (text_of old)) (with_text slot text) image
stopped_second b None mid after choice slot p bytes text old was written image at within most picks mounts same takes fails left kept = tt
stopped_second b (Some calls) mid after choice slot p bytes text old was written image at within most picks mounts same takes fails left kept =
    let last = subst (λ (m : Option ℕ). TakesCalls b 1 m after false) takes.1 fails in
    early calls choice (with_text (other_slot slot) (text_of old)) (with_text slot text) image (omega (arith, takes.0, last.0))
    (still (calls == 0) choice slot p bytes old was image at within most picks mounts same (kept ∙ left))

-- ---- while the selector is written, and until it is synced

late : (calls : ℕ) (choice : Choice) (old new : Held) (image : List ℕ) → 2 < calls → Gives (if names choice new.slot then new else old) image → LeavesBy (Some calls) choice old new image
late calls choice old new image later gives =
    let is : reaches calls choice new.slot ≡ names choice new.slot = ap (λ (b : Bool). b && names choice new.slot) (lt-ltb 2 calls later) in
    subst (λ (b : Bool). Gives (if b then new else old) image) (sym is) gives

picks_by : (slot : Slot) (choice : Choice) (mid image : List ℕ) → selected mid ≡ other_slot slot → image ≡ spoiled choice 0 (selector_of slot ∷ []) mid → selected image ≡ (if names choice slot then slot else other_slot slot)
picks_by slot Old mid image old is = ap selected is ∙ old
picks_by slot New mid image old is = ap selected is ∙ names_itself slot
picks_by First Zero mid image old is = ap selected is
picks_by Second Zero mid image old is = ap selected is

gives_as : (slot : Slot) (text old mid image : List ℕ) (b : Bool) → selected old ≡ other_slot slot → MountsTo (text_of old) old → IsStaged slot text old mid → SameOutside 0 1 mid image
    → selected image ≡ (if b then slot else other_slot slot) → Gives (if b then with_text slot text else with_text (other_slot slot) (text_of old)) image
gives_as slot text old mid image true picks mounts is same now = record {
  slot = now;
  mounts = mounts_by image slot text (slot_bytes mid slot) (same.size ∙ is.size) now (same_slots slot mid image same) is.length_told is.gives;
}
gives_as slot text old mid image false picks mounts is same now = record {
  slot = now;
  mounts =
      mounts_by image (other_slot slot) (text_of old) (slot_bytes old (selected old)) (same.size ∙ is.size) now
      (same_slots (other_slot slot) mid image same ∙ is.other ∙ ap (slot_bytes old) (sym picks)) mounts.mountable.fits refl;
}

not_zero : (n : ℕ) (b : Bool) → (n == 0) ≡ b → 1 ≤ n → b ≡ false
not_zero n true e some = absurd (omega (arith, eqb-true n 0 e))
not_zero n false e some = refl

-- what the write of the selector leaves, where two calls have gone before it
pub stopped_late : (b : Bool) (calls first second : Option ℕ) (choice : Choice) (slot : Slot) (selector : ℕ) (text old mid was image : List ℕ) → selected old ≡ other_slot slot → MountsTo (text_of old) old
    → selector ≡ selector_of slot → IsStaged slot text old mid → was ≡ mid → TakesCalls b 1 calls first true → TakesCalls b 1 first second true → Spoils second choice 0 (selector ∷ []) was image
    → LeavesBy calls choice (with_text (other_slot slot) (text_of old)) (with_text slot text) image
stopped_late b None first second choice slot selector text old mid was image picks mounts spelled is same takes goes left = tt
stopped_late b (Some calls) first second choice slot selector text old mid was image picks mounts spelled is same takes goes left =
    let going = subst (λ (m : Option ℕ). TakesCalls b 1 m second true) takes.1 goes in
    let n : ℕ = calls - 1 - 1 in
    let written = subst (λ (m : Option ℕ). Spoils m choice 0 (selector ∷ []) was image) going.1 left in
    let some : (n == 0) ≡ false = not_zero n (n == 0) refl (omega (arith, takes.0, going.0)) in
    let left_is : image ≡ spoiled choice 0 (selector_of slot ∷ []) mid =
    written
    ∙ ap (λ (b : Bool). if b then was else spoiled choice 0 (selector ∷ []) was) some
    ∙ ap (λ (s : ℕ). spoiled choice 0 (s ∷ []) was) spelled
    ∙ ap (spoiled choice 0 (selector_of slot ∷ [])) same in
    let outside : SameOutside 0 1 mid image =
    subst (SameOutside 0 1 mid) (sym left_is) (spoiled_outside choice 0 (selector_of slot ∷ []) mid (omega (arith, is.size, disk_bytes_is))) in
    late calls choice (with_text (other_slot slot) (text_of old)) (with_text slot text) image (omega (arith, takes.0, going.0))
    (gives_as slot text old mid image (names choice slot) picks mounts is outside (picks_by slot choice mid image (is.selector ∙ picks) left_is))

-- ---- the answer

pub on_err : {T E P : Type 0} (result : Result T E) → P → OnErr result P
on_err (Ok value) p = tt
on_err (Err e) p = p
