-- What the parts of an image are after a write to one of them.
use Rattle.std.proofs.Common.{◌≡◌, ◌⊎◌, inl, inr, ℕ, ◌+◌, ◌-◌, ◌<◌, ◌≤◌, List, [], ◌∷◌, ◌++◌, length, get_or, take, drop, replicate, refl, sym, ◌∙◌, ap, subst, arith, lit≤, length-append, append_assoc}
use Rattle.std.proofs.lemmas.List.{length-replicate, get_or-replicate, take-replicate, drop-replicate, length-take-le, length-drop, take_at, drop_at, take-take, drop-drop, drop-take, get_or-take}
use Rattle.std.proofs.Math.Seq.{take-append-add}
use Rattle.std.proofs.lemmas.Nat.{from_be_bytes-to_be_bytes_4}
use Rattle.std.specs.Int.{from_be_bytes, to_be_bytes, w32}
use Rattle.local_disk.specs.LocalDisk.{bytes_at, overwritten, SameOutside, disk_bytes, disk_bytes_is}
use Rattle.record_store.specs.declared.slot.Slot.{Slot}
use Rattle.record_store.specs.declared.slot.Slot.TheVariants.{First, Second}
use Rattle.record_store.specs.Images.{place_of, other_slot, selector_of, slot_named, selected, slot_bytes, length_in, text_in, text_of, spelling, IsMountable, MountsTo}

-- a part of what lies before the range of a write
pub part_before : (p n q m : ℕ) (old new : List ℕ) → SameOutside p n old new → q + m ≤ p → bytes_at q m new ≡ bytes_at q m old
part_before p n q m old new same le =
    let cut : (l : List ℕ) → take m (drop q l) ≡ drop q (take (q + m) l) = λ l. sym (drop-take q m l) in
    let front : take (q + m) new ≡ take (q + m) old =
    sym (take-take (q + m) p new le) ∙ ap (λ (l : List ℕ). take (q + m) l) same.before ∙ take-take (q + m) p old le in
    cut new ∙ ap (λ (l : List ℕ). drop q l) front ∙ sym (cut old)

-- a part of what lies behind it
pub part_behind : (p n q m : ℕ) (old new : List ℕ) → SameOutside p n old new → p + n ≤ q → bytes_at q m new ≡ bytes_at q m old
part_behind p n q m old new same le =
    let e : (p + n) + (q - (p + n)) ≡ q = omega arith in
    let at : (l : List ℕ) → drop q l ≡ drop (q - (p + n)) (drop (p + n) l) =
    λ l. ap (λ (k : ℕ). drop k l) (sym e) ∙ sym (drop-drop (q - (p + n)) (p + n) l) in
    ap (λ (l : List ℕ). take m l) (at new ∙ ap (λ (l : List ℕ). drop (q - (p + n)) l) same.after ∙ sym (at old))

-- the first byte, where a write lies behind it
pub same_first : (p n : ℕ) (old new : List ℕ) → SameOutside p n old new → 1 ≤ p → get_or new 0 0 ≡ get_or old 0 0
same_first p n old new same le =
    sym (get_or-take p new 0 0 (omega arith)) ∙ ap (λ (l : List ℕ). get_or l 0 0) same.before ∙ get_or-take p old 0 0 (omega arith)

-- a write within a slot leaves the selector and the other slot
pub same_selected : (slot : Slot) (n : ℕ) (old new : List ℕ) → SameOutside (place_of slot) n old new → selected new ≡ selected old
same_selected First n old new same = ap slot_named (same_first 16 n old new same (omega arith))
same_selected Second n old new same = ap slot_named (same_first 65556 n old new same (omega arith))

pub same_other : (slot : Slot) (n : ℕ) (old new : List ℕ) → n ≤ 65540 → SameOutside (place_of slot) n old new → slot_bytes new (other_slot slot) ≡ slot_bytes old (other_slot slot)
same_other First n old new fits same = part_behind 16 n 65556 65540 old new same (omega arith)
same_other Second n old new fits same = part_before 65556 n 16 65540 old new same (omega arith)

-- a write of the selector leaves both slots
pub same_slots : (slot : Slot) (old new : List ℕ) → SameOutside 0 1 old new → slot_bytes new slot ≡ slot_bytes old slot
same_slots First old new same = part_behind 0 1 16 65540 old new same (omega arith)
same_slots Second old new same = part_behind 0 1 65556 65540 old new same (omega arith)

-- a selector names one slot or the other
pub one_of_two : (a b : Slot) → (a ≡ b) ⊎ (a ≡ other_slot b)
one_of_two First First = inl refl
one_of_two First Second = inr refl
one_of_two Second First = inr refl
one_of_two Second Second = inl refl

pub names_itself : (slot : Slot) → slot_named (selector_of slot) ≡ slot
names_itself First = refl
names_itself Second = refl

four : (n : ℕ) → length (to_be_bytes w32 n) ≡ 4
four n = refl

-- a slot's bytes spell a text, whatever stands behind it
pub length_spelled : (text rest : List ℕ) → length text ≤ 65536 → length_in (spelling text ++ rest) ≡ length text
length_spelled text rest fits =
    ap (λ (l : List ℕ). from_be_bytes w32 (take 4 l)) (append_assoc (to_be_bytes w32 (length text)) text rest)
    ∙ ap (from_be_bytes w32) (take_at (to_be_bytes w32 (length text)) (text ++ rest) 4 (four (length text)))
    ∙ from_be_bytes-to_be_bytes_4 (length text) (omega arith)

pub text_spelled : (text rest : List ℕ) → length text ≤ 65536 → text_in (spelling text ++ rest) ≡ text
text_spelled text rest fits =
    ap (λ (n : ℕ). take n (drop 4 (spelling text ++ rest))) (length_spelled text rest fits)
    ∙ ap (λ (l : List ℕ). take (length text) (drop 4 l)) (append_assoc (to_be_bytes w32 (length text)) text rest)
    ∙ ap (take (length text)) (drop_at (to_be_bytes w32 (length text)) (text ++ rest) 4 (four (length text)))
    ∙ take_at text rest (length text) refl

-- a part of the bytes that were written, and what stands behind them
pub part_written : (p m : ℕ) (disk bytes : List ℕ) → p + length bytes ≤ length disk → length bytes ≤ m
    → bytes_at p m (overwritten disk p bytes) ≡ bytes ++ take (m - length bytes) (drop (p + length bytes) disk)
part_written p m disk bytes fits le =
    let tail = drop (p + length bytes) disk in
    let e : m ≡ length bytes + (m - length bytes) = omega arith in
    ap (take m) (drop_at (take p disk) (bytes ++ tail) p (length-take-le p disk (omega arith)))
    ∙ ap (λ (n : ℕ). take n (bytes ++ tail)) e
    ∙ take-append-add bytes tail (m - length bytes)

-- how a disk with a new text in one slot stands to the one before
pub record IsStaged (slot : Slot) (text old new : List ℕ) : Type 0 where
  pub size : length new ≡ disk_bytes
  pub selector : selected new ≡ selected old
  pub other : slot_bytes new (other_slot slot) ≡ slot_bytes old (other_slot slot)
  pub length_told : length_in (slot_bytes new slot) ≤ 65536
  pub gives : text_in (slot_bytes new slot) ≡ text

pub written_slot : (slot : Slot) (disk : List ℕ) (bytes : List ℕ) → length disk ≡ disk_bytes → length bytes ≤ 65540
    → slot_bytes (overwritten disk (place_of slot) bytes) slot ≡ bytes ++ take (65540 - length bytes) (drop (place_of slot + length bytes) disk)
written_slot First disk bytes size le = part_written 16 65540 disk bytes (omega (arith, disk_bytes_is)) le
written_slot Second disk bytes size le = part_written 65556 65540 disk bytes (omega (arith, disk_bytes_is)) le

pub staged : (slot : Slot) (text old new : List ℕ) → length old ≡ disk_bytes → length text ≤ 65536
    → new ≡ overwritten old (place_of slot) (spelling text) → SameOutside (place_of slot) (length (spelling text)) old new → IsStaged slot text old new
staged slot text old new size fits is same =
    let long : length (spelling text) ≡ 4 + length text = length-append (to_be_bytes w32 (length text)) text ∙ ap (λ (n : ℕ). n + length text) (four (length text)) in
    let rest = take (65540 - length (spelling text)) (drop (place_of slot + length (spelling text)) old) in
    let there : slot_bytes new slot ≡ spelling text ++ rest =
    ap (λ (l : List ℕ). slot_bytes l slot) is ∙ written_slot slot old (spelling text) size (omega (arith, long, fits)) in
    record {
      size = same.size ∙ size;
      selector = same_selected slot (length (spelling text)) old new same;
      other = same_other slot (length (spelling text)) old new (omega (arith, long, fits)) same;
      length_told = subst (λ (l : List ℕ). length_in l ≤ 65536) (sym there) (subst (λ (n : ℕ). n ≤ 65536) (sym (length_spelled text rest fits)) fits);
      gives = ap text_in there ∙ text_spelled text rest fits;
    }

-- an image that selects a slot mounts to its text
pub mounts_by : (image : List ℕ) (slot : Slot) (text slot_is : List ℕ) → length image ≡ disk_bytes → selected image ≡ slot → slot_bytes image slot ≡ slot_is → length_in slot_is ≤ 65536 → text_in slot_is ≡ text → MountsTo text image
mounts_by image slot text slot_is size names is fits gives =
    let there : slot_bytes image (selected image) ≡ slot_is = ap (slot_bytes image) names ∙ is in
    record {
      mountable = record { size = size; fits = subst (λ (l : List ℕ). length_in l ≤ 65536) (sym there) fits };
      gives = ap text_in there ∙ gives;
    }

-- while the slot that is not selected is written, an image mounts to the old text
pub still_old : (slot : Slot) (n : ℕ) (old image : List ℕ) → n ≤ 65540 → selected old ≡ other_slot slot → MountsTo (text_of old) old → SameOutside (place_of slot) n old image → MountsTo (text_of old) image
still_old slot n old image fits names mounts same =
    mounts_by image (other_slot slot) (text_of old) (slot_bytes old (selected old)) (same.size ∙ mounts.mountable.size) (same_selected slot n old image same ∙ names)
    (same_other slot n old image fits same ∙ ap (slot_bytes old) (sym names)) mounts.mountable.fits refl

-- while the selector is written, it mounts to the old text or to the new one
pub old_or_new : (slot : Slot) (text old mid image : List ℕ) → selected old ≡ other_slot slot → MountsTo (text_of old) old → IsStaged slot text old mid → SameOutside 0 1 mid image → MountsTo (text_of old) image ⊎ MountsTo text image
old_or_new slot text old mid image names mounts is same =
    elim (one_of_two (selected image) slot) [
      | inl new_one ↦ inr (mounts_by image slot text (slot_bytes mid slot) (same.size ∙ is.size) new_one (same_slots slot mid image same) is.length_told is.gives)
      | inr old_one ↦
          inl (mounts_by image (other_slot slot) (text_of old) (slot_bytes old (selected old)) (same.size ∙ is.size) old_one
          (same_slots (other_slot slot) mid image same ∙ is.other ∙ ap (slot_bytes old) (sym names)) mounts.mountable.fits refl)
    ]

-- once it is written, the new one
pub now_new : (slot : Slot) (text old mid image : List ℕ) → IsStaged slot text old mid → SameOutside 0 1 mid image → image ≡ overwritten mid 0 (selector_of slot ∷ []) → (selected image ≡ slot) × MountsTo text image
now_new slot text old mid image is same written =
    let names : selected image ≡ slot = ap selected written ∙ names_itself slot in (
      names,
      mounts_by image slot text (slot_bytes mid slot) (same.size ∙ is.size) names (same_slots slot mid image same) is.length_told is.gives,
    )

-- what a mounting reads
pub length_read : (slot : Slot) (disk : List ℕ) → bytes_at (place_of slot) 4 disk ≡ take 4 (slot_bytes disk slot)
length_read slot disk = sym (take-take 4 65540 (drop (place_of slot) disk) (omega arith))

pub text_read : (slot : Slot) (n : ℕ) (disk : List ℕ) → n ≤ 65536 → bytes_at (place_of slot + 4) n disk ≡ take n (drop 4 (slot_bytes disk slot))
text_read slot n disk le =
    sym (
    ap (take n) (drop-take 4 65536 (drop (place_of slot) disk) ∙ ap (take 65536) (drop-drop 4 (place_of slot) disk))
    ∙ take-take n 65536 (drop (place_of slot + 4) disk) le
    )

-- the same, as the calls of a save and a mounting tell it
pub staged_by : (slot : Slot) (p : ℕ) (bytes old new : List ℕ) → p ≡ place_of slot → bytes ≡ spelling (drop 4 bytes) → length bytes ≤ 65540 → length old ≡ disk_bytes
    → new ≡ overwritten old p bytes → SameOutside p (length bytes) old new → IsStaged slot (drop 4 bytes) old new
staged_by slot p bytes old new at spelled most size is same =
    staged slot (drop 4 bytes) old new size (omega (arith, length-drop 4 bytes, most))
    (is ∙ ap (λ (q : ℕ). overwritten old q bytes) at ∙ ap (λ (b : List ℕ). overwritten old (place_of slot) b) spelled)
    (subst (λ (b : List ℕ). SameOutside (place_of slot) (length b) old new) spelled (subst (λ (q : ℕ). SameOutside q (length bytes) old new) at same))

pub still_old_by : (slot : Slot) (p n : ℕ) (old image : List ℕ) → p ≡ place_of slot → n ≤ 65540 → selected old ≡ other_slot slot → MountsTo (text_of old) old → SameOutside p n old image → MountsTo (text_of old) image
still_old_by slot p n old image at fits names mounts same = still_old slot n old image fits names mounts (subst (λ (q : ℕ). SameOutside q n old image) at same)

pub length_found : (slot : Slot) (p n : ℕ) (disk : List ℕ) → p ≡ place_of slot → slot ≡ selected disk → n ≡ from_be_bytes w32 (bytes_at p 4 disk) → n ≡ length_in (slot_bytes disk (selected disk))
length_found slot p n disk at names is =
    is ∙ ap (λ (q : ℕ). from_be_bytes w32 (bytes_at q 4 disk)) at ∙ ap (from_be_bytes w32) (length_read slot disk) ∙ ap (λ (s : Slot). length_in (slot_bytes disk s)) names

pub text_found : (slot : Slot) (p n : ℕ) (disk : List ℕ) → p ≡ place_of slot → slot ≡ selected disk → n ≡ length_in (slot_bytes disk (selected disk)) → n ≤ 65536 → bytes_at (p + 4) n disk ≡ text_of disk
text_found slot p n disk at names is le =
    ap (λ (q : ℕ). bytes_at (q + 4) n disk) at
    ∙ text_read slot n disk le
    ∙ ap (λ (s : Slot). take n (drop 4 (slot_bytes disk s))) names
    ∙ ap (λ (m : ℕ). take m (drop 4 (slot_bytes disk (selected disk)))) is

-- the slot and the length that a mounting finds
pub record Found (slot : Slot) (n : ℕ) (disk : List ℕ) : Type 0 where
  pub names : slot ≡ selected disk
  pub told : n ≡ length_in (slot_bytes disk (selected disk))
  pub most : n ≤ 65536

pub found : (slot : Slot) (p n : ℕ) (disk second third byte four_bytes : List ℕ) → slot ≡ slot_named (get_or byte 0 0) → byte ≡ bytes_at 0 1 second → second ≡ disk
    → p ≡ place_of slot → n ≡ from_be_bytes w32 four_bytes → four_bytes ≡ bytes_at p 4 third → third ≡ disk → IsMountable disk → Found slot n disk
found slot p n disk second third byte four_bytes named first_read same at is second_read same_still mountable =
    let names : slot ≡ selected disk =
    named ∙ ap (λ (l : List ℕ). slot_named (get_or l 0 0)) first_read ∙ ap slot_named (get_or-take 1 second 0 0 (omega arith)) ∙ ap selected same in
    let told = length_found slot p n disk at names (is ∙ ap (from_be_bytes w32) (second_read ∙ ap (bytes_at p 4) same_still)) in
    record { names = names; told = told; most = subst (λ (m : ℕ). m ≤ 65536) (sym told) mountable.fits }

-- what a store keeps of a slot's bytes is their text
pub text_kept : (text : List ℕ) → drop 4 (spelling text) ≡ text
text_kept text = drop_at (to_be_bytes w32 (length text)) text 4 (four (length text))

some_places : 0 < disk_bytes
some_places = omega (arith, disk_bytes_is)

more_places : 4 ≤ disk_bytes - 16
more_places = omega (arith, disk_bytes_is)

zeros_first : take 4 (slot_bytes (replicate disk_bytes 0) First) ≡ replicate 4 0
zeros_first =
    take-take 4 65540 (drop 16 (replicate disk_bytes 0)) (lit≤ tt)
    ∙ ap (take 4) (drop-replicate 16 disk_bytes 0)
    ∙ take-replicate 4 (disk_bytes - 16) 0 more_places

none_first : length_in (slot_bytes (replicate disk_bytes 0) First) ≡ 0
none_first = ap (from_be_bytes w32) zeros_first

pub zero_selects : selected (replicate disk_bytes 0) ≡ First
zero_selects = ap slot_named (get_or-replicate disk_bytes 0 0 0 some_places)

-- all zero
pub zero_mounts : MountsTo [] (replicate disk_bytes 0)
zero_mounts =
    mounts_by (replicate disk_bytes 0) First [] (slot_bytes (replicate disk_bytes 0) First) (length-replicate disk_bytes 0)
    zero_selects refl (subst (λ (n : ℕ). n ≤ 65536) (sym none_first) (lit≤ tt))
    (ap (λ (n : ℕ). take n (drop 4 (slot_bytes (replicate disk_bytes 0) First))) none_first)

-- an image of either text can be mounted
pub either_mountable : (old new image : List ℕ) → MountsTo old image ⊎ MountsTo new image → IsMountable image
either_mountable old new image (inl is) = is.mountable
either_mountable old new image (inr is) = is.mountable
