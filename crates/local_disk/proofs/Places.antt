-- What stands where after a write to a range.
use Rattle.std.proofs.Common.{◌≡◌, ℕ, ◌+◌, ◌-◌, ◌<◌, ◌≤◌, List, ◌++◌, length, get_or, take, drop, sym, ◌∙◌, ap, arith, length-append}
use Rattle.std.proofs.lemmas.List.{length-take-le, length-drop, get_or-take, get_or-drop, get_or_append_left, get_or-append_right, take_at, drop_at, drop-drop}
use Rattle.local_disk.specs.LocalDisk.{overwritten, SameOutside}

module _ {A : Type 0} (xs : List A) (p : ℕ) (ys : List A) (fits : p + length ys ≤ length xs) where
  front : length (take p xs) ≡ p
  front = length-take-le p xs (omega arith)

  pub length_overwritten : length (overwritten xs p ys) ≡ length xs
  length_overwritten =
      omega (arith, front, length-append (take p xs) (ys ++ drop (p + length ys) xs), length-append ys (drop (p + length ys) xs), length-drop (p + length ys) xs)

  pub get_below : (k : ℕ) (d : A) → k < p → get_or (overwritten xs p ys) k d ≡ get_or xs k d
  get_below k d below =
      get_or_append_left (take p xs) (ys ++ drop (p + length ys) xs) d k (omega (arith, front)) ∙ get_or-take p xs k d below

  pub get_inside : (k : ℕ) (d : A) → p ≤ k → k < p + length ys → get_or (overwritten xs p ys) k d ≡ get_or ys (k - p) d
  get_inside k d from to =
      get_or-append_right (take p xs) (ys ++ drop (p + length ys) xs) p k d front from
      ∙ get_or_append_left ys (drop (p + length ys) xs) d (k - p) (omega arith)

  pub get_above : (k : ℕ) (d : A) → p + length ys ≤ k → get_or (overwritten xs p ys) k d ≡ get_or xs k d
  get_above k d above =
      let e : (p + length ys) + ((k - p) - length ys) ≡ k = omega arith in
      get_or-append_right (take p xs) (ys ++ drop (p + length ys) xs) p k d front (omega arith)
      ∙ get_or-append_right ys (drop (p + length ys) xs) (length ys) (k - p) d (λ i. length ys) (omega arith)
      ∙ get_or-drop (p + length ys) xs ((k - p) - length ys) d
      ∙ ap (λ (n : ℕ). get_or xs n d) e

  pub take_overwritten : take p (overwritten xs p ys) ≡ take p xs
  take_overwritten = take_at (take p xs) (ys ++ drop (p + length ys) xs) p front

  pub drop_overwritten : drop (p + length ys) (overwritten xs p ys) ≡ drop (p + length ys) xs
  drop_overwritten =
      sym (drop-drop (length ys) p (overwritten xs p ys))
      ∙ ap (λ (l : List A). drop (length ys) l) (drop_at (take p xs) (ys ++ drop (p + length ys) xs) p front)
      ∙ drop_at ys (drop (p + length ys) xs) (length ys) (λ i. length ys)

  pub outside_overwritten : SameOutside p (length ys) xs (overwritten xs p ys)
  outside_overwritten = record { size = length_overwritten; before = take_overwritten; after = drop_overwritten }
