-- Zeros at the marked places, one place after another.
use Rattle.std.proofs.Common.{◌≡◌, inl, inr, ℕ, ◌+◌, ◌<◌, ◌≤◌, List, length, get_or, set, Bool, true, false, if◌then◌else◌, refl, sym, ◌∙◌, ap, arith}
use Rattle.std.specs.List.{zip}
use Rattle.std.proofs.lemmas.List.{ext_get_or, get_or-map, length-map, length-set, get_or-set_same, get_or-set_other, get_or_past}
use Rattle.std.proofs.lemmas.Slice.Zip.{length-zip, get_or-zip}
use Rattle.std.proofs.lemmas.Bool.{cases_eq}
use Rattle.local_disk.specs.declared.memory.Choice.{Choice}
use Rattle.local_disk.specs.declared.memory.Choice.TheVariants.{Old, New, Zero}
use Rattle.local_disk.specs.Memory.{IsImage, IsWithin, zeroed, left_by}
use Rattle.local_disk.proofs.Spans.{three, image_sym}

-- what stands at a place
abbrev pub zero_or : Bool → ℕ → ℕ
zero_or mark byte = if mark then 0 else byte

module _ (marks : List Bool) (bytes : List ℕ) (size : length marks ≡ length bytes) where
  pub length_zeroed : length (zeroed marks bytes) ≡ length bytes
  length_zeroed = length-map (zip marks bytes) (λ (p : Bool × ℕ). if p.0 then 0 else p.1) ∙ omega (arith, length-zip marks bytes)

  pub zeroed_at : (k : ℕ) → k < length bytes → get_or (zeroed marks bytes) k 0 ≡ zero_or (get_or marks k true) (get_or bytes k 0)
  zeroed_at k lt =
      get_or-map (λ (p : Bool × ℕ). if p.0 then 0 else p.1) (zip marks bytes) k (true, 0) 0 (omega (arith, length-zip marks bytes))
      ∙ ap (λ (p : Bool × ℕ). if p.0 then 0 else p.1) (get_or-zip marks bytes k (true, 0) (omega arith) lt)

  pub zeroed_unmarked : (k : ℕ) → k < length bytes → get_or marks k true ≡ false → get_or (zeroed marks bytes) k 0 ≡ get_or bytes k 0
  zeroed_unmarked k lt none = zeroed_at k lt ∙ ap (λ (b : Bool). zero_or b (get_or bytes k 0)) none

-- the places below i are done, the others are as they were
pub record ZeroedTo (marks : List Bool) (old : List ℕ) (i : ℕ) (now : List ℕ) : Type 0 where
  pub size : length now ≡ length old
  pub done : (k : ℕ) → k < i → k < length old → get_or now k 0 ≡ get_or (zeroed marks old) k 0
  pub rest : (k : ℕ) → i ≤ k → get_or now k 0 ≡ get_or old k 0

module _ (marks : List Bool) (old : List ℕ) (size : length marks ≡ length old) where
  pub zeroed_none : (low high : ℕ) → IsWithin marks low high → ZeroedTo marks old low old
  zeroed_none low high span = record {
    size = refl;
    done = λ k below lt. sym (zeroed_unmarked marks old size k lt (span.below k below));
    rest = λ k le. refl;
  }

  pub zeroed_marked : (i : ℕ) (now : List ℕ) → i < length old → get_or marks i true ≡ true → ZeroedTo marks old i now → ZeroedTo marks old (i + 1) (set now i 0)
  zeroed_marked i now within mark so_far = record {
    size = length-set now i 0 ∙ so_far.size;
    done = λ k below lt. elim (cases_eq k i) [
      | inl here ↦
          ap (λ (j : ℕ). get_or (set now i 0) j 0) here
          ∙ get_or-set_same now i 0 0 (omega (arith, so_far.size))
          ∙ sym (ap (λ (j : ℕ). get_or (zeroed marks old) j 0) here ∙ zeroed_at marks old size i within ∙ ap (λ (b : Bool). zero_or b (get_or old i 0)) mark)
      | inr other ↦ get_or-set_other now i k 0 0 other ∙ so_far.done k (omega arith) lt
    ];
    rest = λ k le. let other : k ≡ i → ⊥ = λ e. omega arith in get_or-set_other now i k 0 0 other ∙ so_far.rest k (omega arith);
  }

  pub zeroed_passed : (i : ℕ) (now : List ℕ) → i < length old → get_or marks i true ≡ false → ZeroedTo marks old i now → ZeroedTo marks old (i + 1) now
  zeroed_passed i now within none so_far = record {
    size = so_far.size;
    done = λ k below lt. elim (cases_eq k i) [
      | inl here ↦
          ap (λ (j : ℕ). get_or now j 0) here
          ∙ so_far.rest i (omega arith)
          ∙ sym (ap (λ (j : ℕ). get_or (zeroed marks old) j 0) here ∙ zeroed_unmarked marks old size i within none)
      | inr other ↦ so_far.done k (omega arith) lt
    ];
    rest = λ k le. so_far.rest k (omega arith);
  }

  pub zeroed_all : (low high : ℕ) (now : List ℕ) → IsWithin marks low high → ZeroedTo marks old high now → now ≡ zeroed marks old
  zeroed_all low high now span so_far =
      ext_get_or 0 now (zeroed marks old) (so_far.size ∙ sym (length_zeroed marks old size)) (λ k lt.
      elim (three k high high) [
        | inl below ↦ so_far.done k below (omega (arith, so_far.size))
        | inr (inl none) ↦ absurd (omega (arith, none.0, none.1))
        | inr (inr above) ↦
            so_far.rest k above
            ∙ sym (zeroed_unmarked marks old size k (omega (arith, so_far.size)) (span.above k above (omega (arith, so_far.size))))
      ])

  -- the zeroed bytes are an image as the others are
  pub zeroed_image : (synced : List ℕ) → IsImage marks old synced → IsImage marks (zeroed marks old) synced
  zeroed_image synced is = record {
    size = is.size ∙ sym (length_zeroed marks old size);
    kept = λ k none. elim (three k (length old) (length old)) [
      | inl lt ↦ is.kept k none ∙ sym (zeroed_unmarked marks old size k lt none)
      | inr (inl none_here) ↦ absurd (omega (arith, none_here.0, none_here.1))
      | inr (inr past) ↦ is.kept k none ∙ past_both k past
    ];
  }
    where
      past_both : (k : ℕ) → length old ≤ k → get_or old k 0 ≡ get_or (zeroed marks old) k 0
      past_both k past = get_or_past old k 0 past ∙ sym (get_or_past (zeroed marks old) k 0 (omega (arith, length_zeroed marks old size)))

-- what a crash leaves by a choice is an image
pub left_image : (choice : Choice) (marks : List Bool) (synced reads : List ℕ) → length marks ≡ length reads → IsImage marks reads synced → IsImage marks reads (left_by choice marks synced reads)
left_image Old marks synced reads size is = is
left_image New marks synced reads size is = record { size = refl; kept = λ k none. refl }
left_image Zero marks synced reads size is = image_sym marks (zeroed marks reads) reads (zeroed_image marks reads size reads (record { size = refl; kept = λ k none. refl }))
