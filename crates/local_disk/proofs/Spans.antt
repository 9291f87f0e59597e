-- Marks that lie within a span, and images that differ at marked places alone.
use Rattle.std.proofs.Common.{◌≡◌, ◌⊎◌, inl, inr, ℕ, ◌+◌, ◌-◌, ◌<◌, ◌≤◌, List, ◌++◌, length, get_or, take, drop, replicate, Bool, true, false, sym, ◌∙◌, ap, subst, arith}
use Rattle.std.proofs.lemmas.List.{length-replicate, get_or-replicate, ext_get_or, drop-drop, length-take, length-drop, get_or-take, get_or-drop}
use borrow.Rule.Slice.PartMut.{put_mid}
use Rattle.local_disk.specs.LocalDisk.{overwritten, SameOutside, FollowsBy, Only}
use Rattle.local_disk.specs.Memory.{IsImage, IsWithin}
use Rattle.local_disk.proofs.Places.{length_overwritten, get_below, get_inside, get_above, outside_overwritten}

-- with no mark the only image is what a read gives
pub only_unmarked : (n : ℕ) (reads : List ℕ) → length reads ≡ n → Only reads (IsImage (replicate n false) reads)
only_unmarked n reads size image is =
    ext_get_or 0 image reads is.size (λ k lt. is.kept k (get_or-replicate n k false true (omega (arith, is.size))))

pub put_mid_is : {A : Type 0} (a k : ℕ) (xs ys : List A) → length ys ≡ k → put_mid a k xs ys ≡ overwritten xs a ys
put_mid_is {A} a k xs ys size =
    ap (λ (l : List A). take a xs ++ (ys ++ l)) (drop-drop k a xs ∙ ap (λ (n : ℕ). drop (a + n) xs) (sym size))

-- below a number, from it up to another, or from that on
pub three : (k low high : ℕ) → (k < low) ⊎ (((low ≤ k) × (k < high)) ⊎ (high ≤ k))
three k low high = grind arith

module _ (marks : List Bool) (low high : ℕ) (span : IsWithin marks low high) where
  -- an image becomes another where it differs from it within the span alone
  pub settled_to : (from to ys : List ℕ) → IsImage marks from to → length marks ≡ length from → ys ≡ take (high - low) (drop low from) → overwritten to low ys ≡ from
  settled_to from to ys same size is =
      let long : length ys ≡ high - low = ap length is ∙ omega (arith, span.fits, span.ordered, length-take (high - low) (drop low from), length-drop low from) in
      let fits : low + length ys ≤ length to = omega (arith, span.fits, span.ordered, same.size) in
      ext_get_or 0 (overwritten to low ys) from (length_overwritten to low ys fits ∙ same.size) (λ k lt.
      elim (three k low high) [
        | inl below ↦ get_below to low ys fits k 0 below ∙ same.kept k (span.below k below)
        | inr (inl inside) ↦
            get_inside to low ys fits k 0 inside.0 (omega (arith, long, inside.1, span.ordered))
            ∙ ap (λ (l : List ℕ). get_or l (k - low) 0) is
            ∙ get_or-take (high - low) (drop low from) (k - low) 0 (omega (arith, inside.0, inside.1))
            ∙ get_or-drop low from (k - low) 0
            ∙ ap (λ (n : ℕ). get_or from n 0) (omega (arith, inside.0))
        | inr (inr above) ↦
            get_above to low ys fits k 0 (omega (arith, long, span.ordered))
            ∙ same.kept k (span.above k above (omega (arith, lt, length_overwritten to low ys fits, same.size)))
      ])

  pub unmarked : (ys : List Bool) → ys ≡ replicate (high - low) false → overwritten marks low ys ≡ replicate (length marks) false
  unmarked ys is =
      let long : length ys ≡ high - low = ap length is ∙ length-replicate (high - low) false in
      let fits : low + length ys ≤ length marks = omega (arith, span.fits, span.ordered) in
      let size = length_overwritten marks low ys fits in
      ext_get_or true (overwritten marks low ys) (replicate (length marks) false) (size ∙ sym (length-replicate (length marks) false)) (λ k lt.
      let right : get_or (replicate (length marks) false) k true ≡ false = get_or-replicate (length marks) k false true (omega arith) in
      elim (three k low high) [
        | inl below ↦ get_below marks low ys fits k true below ∙ span.below k below ∙ sym right
        | inr (inl inside) ↦
            get_inside marks low ys fits k true inside.0 (omega (arith, long, inside.1, span.ordered))
            ∙ ap (λ (l : List Bool). get_or l (k - low) true) is
            ∙ get_or-replicate (high - low) (k - low) false true (omega (arith, inside.0, inside.1))
            ∙ sym right
        | inr (inr above) ↦ get_above marks low ys fits k true (omega (arith, long, span.ordered)) ∙ span.above k above (omega arith) ∙ sym right
      ])

module _ (marks : List Bool) (p n : ℕ) (fits : p + n ≤ length marks) where
  trues_fit : p + length (replicate n true) ≤ length marks
  trues_fit = omega (arith, length-replicate n true)

  -- a place with no mark after the range is marked had none before, and lies outside
  pub unmarked_before : (k : ℕ) → get_or (overwritten marks p (replicate n true)) k true ≡ false → (get_or marks k true ≡ false) × ((k < p) ⊎ (p + n ≤ k))
  unmarked_before k none =
      elim (three k p (p + n)) [
        | inl below ↦ (sym (get_below marks p (replicate n true) trues_fit k true below) ∙ none, inl below)
        | inr (inl inside) ↦
            let here : get_or (overwritten marks p (replicate n true)) k true ≡ true =
            get_inside marks p (replicate n true) trues_fit k true inside.0 (omega (arith, length-replicate n true, inside.1))
            ∙ get_or-replicate n (k - p) true true (omega (arith, inside.0, inside.1)) in
            absurd (cc (here, none))
        | inr (inr above) ↦
            (sym (get_above marks p (replicate n true) trues_fit k true (omega (arith, length-replicate n true, above))) ∙ none, inr above)
      ]

  -- a place outside the range keeps what it had
  pub mark_below : (k : ℕ) → k < p → get_or (overwritten marks p (replicate n true)) k true ≡ get_or marks k true
  mark_below k below = get_below marks p (replicate n true) trues_fit k true below

  pub mark_above : (k : ℕ) → p + n ≤ k → get_or (overwritten marks p (replicate n true)) k true ≡ get_or marks k true
  mark_above k above = get_above marks p (replicate n true) trues_fit k true (omega (arith, length-replicate n true, above))

  pub length_marked : length (overwritten marks p (replicate n true)) ≡ length marks
  length_marked = length_overwritten marks p (replicate n true) trues_fit

-- What a write may leave: a new image is one from before, with any bytes in the range.
module _ (marks : List Bool) (reads : List ℕ) (p : ℕ) (bytes : List ℕ) (size : length marks ≡ length reads) (fits : p + length bytes ≤ length reads) where
  marks_fit : p + length bytes ≤ length marks
  marks_fit = omega arith

  long_back : length (take (length bytes) (drop p reads)) ≡ length bytes
  long_back = omega (arith, length-take (length bytes) (drop p reads), length-drop p reads)

  pub write_images : FollowsBy (SameOutside p (length bytes)) (IsImage marks reads) (IsImage (overwritten marks p (replicate (length bytes) true)) (overwritten reads p bytes))
  write_images image is =
      let old = take (length bytes) (drop p reads) in
      let was = overwritten image p old in
      let image_size : length image ≡ length reads = is.size ∙ length_overwritten reads p bytes fits in
      let old_fits : p + length old ≤ length image = omega (arith, long_back) in
      let was_size : length was ≡ length image = length_overwritten image p old old_fits in
      let n_is : length old ≡ length bytes = long_back in
      let back : SameOutside p (length bytes) was image =
      record {
        size = sym was_size;
        before = sym (outside_overwritten image p old old_fits).before;
        after = subst (λ (n : ℕ). drop (p + n) image ≡ drop (p + n) was) n_is (sym (outside_overwritten image p old old_fits).after);
      } in (
        was,
        record {
          size = was_size ∙ image_size;
          kept = λ k none.
              elim (three k p (p + length bytes)) [
                | inl below ↦
                    get_below image p old old_fits k 0 below
                    ∙ is.kept k (mark_below marks p (length bytes) marks_fit k below ∙ none)
                    ∙ get_below reads p bytes fits k 0 below
                | inr (inl inside) ↦
                    get_inside image p old old_fits k 0 inside.0 (omega (arith, n_is, inside.1))
                    ∙ get_or-take (length bytes) (drop p reads) (k - p) 0 (omega (arith, inside.0, inside.1))
                    ∙ get_or-drop p reads (k - p) 0
                    ∙ ap (λ (n : ℕ). get_or reads n 0) (omega (arith, inside.0))
                | inr (inr above) ↦
                    get_above image p old old_fits k 0 (omega (arith, n_is, above))
                    ∙ is.kept k (mark_above marks p (length bytes) marks_fit k above ∙ none)
                    ∙ get_above reads p bytes fits k 0 above
              ];
        },
        back,
      )

  -- what was synced stays an image
  pub written_image : (synced : List ℕ) → IsImage marks reads synced → IsImage (overwritten marks p (replicate (length bytes) true)) (overwritten reads p bytes) synced
  written_image synced is = record {
    size = is.size ∙ sym (length_overwritten reads p bytes fits);
    kept = λ k none.
        let before = unmarked_before marks p (length bytes) marks_fit k none in
        is.kept k before.0
        ∙ elim before.1 [
          | inl below ↦ sym (get_below reads p bytes fits k 0 below)
          | inr above ↦ sym (get_above reads p bytes fits k 0 above)
        ];
  }

-- a wider span has the old marks and the new ones
pub wider : (marks : List Bool) (p n low high low' high' : ℕ) → IsWithin marks low high → p + n ≤ length marks
    → low' ≤ high' → high' ≤ length marks
    → ((k : ℕ) → low ≤ k → k < high → (low' ≤ k) × (k < high')) → ((k : ℕ) → p ≤ k → k < p + n → (low' ≤ k) × (k < high'))
    → IsWithin (overwritten marks p (replicate n true)) low' high'
wider marks p n low high low' high' span fits ordered end first second =
    let outside : (k : ℕ) → ((k < low') ⊎ (high' ≤ k)) → k < length marks → get_or (overwritten marks p (replicate n true)) k true ≡ false =
    λ k out lt. elim (three k p (p + n)) [
      | inl below ↦ mark_below marks p n fits k below ∙ was k out lt
      | inr (inl inside) ↦ absurd (apart k out (second k inside.0 inside.1))
      | inr (inr above) ↦ mark_above marks p n fits k above ∙ was k out lt
    ] in
    record {
      ordered = ordered;
      fits = omega (arith, end, length_marked marks p n fits);
      below = λ k below. outside k (inl below) (omega arith);
      above = λ k above lt. outside k (inr above) (omega (arith, lt, length_marked marks p n fits));
    }
  where
    apart : (k : ℕ) → ((k < low') ⊎ (high' ≤ k)) → (low' ≤ k) × (k < high') → ⊥
    apart k (inl below) both = omega (arith, both.0)
    apart k (inr above) both = omega (arith, both.1)

    was : (k : ℕ) → ((k < low') ⊎ (high' ≤ k)) → k < length marks → get_or marks k true ≡ false
    was k out lt = elim (three k low high) [
      | inl below ↦ span.below k below
      | inr (inl inside) ↦ absurd (apart k out (first k inside.0 inside.1))
      | inr (inr above) ↦ span.above k above lt
    ]

-- where one image is an image beside another, that one is one beside it
pub image_sym : (marks : List Bool) (reads image : List ℕ) → IsImage marks reads image → IsImage marks image reads
image_sym marks reads image is = record { size = sym is.size; kept = λ k none. sym (is.kept k none) }
