-- What the calls of a local disk do to it, and what a crash may do between two syncs.
use Rattle.std.specs.Prelude.{◌≡◌, ℕ, ◌+◌, ◌-◌, ◌^◌, ◌≤◌, ◌<◌, min, List, ◌++◌, length, take, drop, Bool, true, false, Option, Some, None, Result, OnErr, refl}

-- How many bytes a local disk has. It does not unfold, so that a list of so many bytes is not written out.
unfoldable pub disk_bytes : ℕ
disk_bytes = 131096

pub disk_bytes_is : disk_bytes ≡ 131096
unfolding disk_bytes
disk_bytes_is = refl

-- the n bytes from a place on
abbrev pub bytes_at : {A : Type 0} → ℕ → ℕ → List A → List A
bytes_at place n disk = take n (drop place disk)

-- the disk with these bytes from a place on
abbrev pub overwritten : {A : Type 0} → List A → ℕ → List A → List A
overwritten disk place bytes = take place disk ++ (bytes ++ drop (place + length bytes) disk)

-- as many bytes, the same before the n bytes from a place on and after them; any bytes there
pub record SameOutside {A : Type 0} (place n : ℕ) (old new : List A) : Type 0 where
  pub size : length new ≡ length old
  pub before : take place new ≡ take place old
  pub after : drop (place + n) new ≡ drop (place + n) old

-- each image of now is an image of before, changed so
abbrev pub FollowsBy : (List ℕ → List ℕ → Type 0) → (List ℕ → Type 0) → (List ℕ → Type 0) → Type 0
FollowsBy change old new = (image : List ℕ) → new image → (was : List ℕ) × old was × change was image

-- there is no image that there was not before
abbrev pub Keeps : (List ℕ → Type 0) → (List ℕ → Type 0) → Type 0
Keeps old new = (image : List ℕ) → new image → old image

-- this is the only image
abbrev pub Only : List ℕ → (List ℕ → Type 0) → Type 0
Only disk images = (image : List ℕ) → images image → image ≡ disk

-- the count has risen, or stands at the end of its 64 bits
abbrev pub Rose : ℕ → ℕ → Type 0
Rose before now = min (before + 1) (2 ^ 64 - 1) ≤ now

-- the count of faults does not fall, and it rises where a call fails
pub record HasCause {T E : Type 0} (before now : ℕ) (result : Result T E) : Type 0 where
  pub later : before ≤ now
  pub failed : OnErr result (Rose before now)

-- What up to n calls do to the calls left before an armed stop, of a disk that tells them: where none failed, all n
-- were taken from them and some are left; where one failed, it was the one that took the last, among these n. Where no
-- stop is armed, a call fails only of a disk that may fail of itself.
abbrev pub TakesCalls : Bool → ℕ → Option ℕ → Option ℕ → Bool → Type 0
TakesCalls of_itself n None after true = after ≡ None
TakesCalls of_itself n None after false = (of_itself ≡ true) × (after ≡ None)
TakesCalls of_itself n (Some left) after true = (n < left) × (after ≡ Some (left - n))
TakesCalls of_itself n (Some left) after false = (left ≤ n) × (after ≡ Some 0)
