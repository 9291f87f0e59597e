-- What a write makes of the image that a crash would leave.
use Rattle.std.proofs.Common.{◌≡◌, inl, inr, ℕ, ◌+◌, ◌-◌, ◌<◌, ◌≤◌, List, length, get_or, replicate, Bool, true, false, if◌then◌else◌, refl, sym, ◌∙◌, ap, arith}
use Rattle.std.specs.Prelude.{Option, Some, None}
use Rattle.std.proofs.lemmas.List.{ext_get_or, length-replicate, get_or-replicate}
use Rattle.local_disk.specs.declared.memory.Choice.{Choice}
use Rattle.local_disk.specs.declared.memory.Choice.TheVariants.{Old, New, Zero}
use Rattle.local_disk.specs.declared.memory.Stop.{Stop}
use Rattle.local_disk.specs.LocalDisk.{overwritten}
use Rattle.local_disk.specs.Memory.{State, zeroed, left_by, left_now, spoiled, Spoils, calls_of, choice_of, next_stop, has_stopped, counted, with_range}
use Rattle.local_disk.proofs.Places.{length_overwritten, get_below, get_inside, get_above}
use Rattle.local_disk.proofs.Spans.{three, mark_below, mark_above, length_marked}
use Rattle.local_disk.proofs.Zeros.{zero_or, length_zeroed, zeroed_at}

module _ (marks : List Bool) (reads : List ℕ) (p : ℕ) (bytes : List ℕ) (size : length marks ≡ length reads) (fits : p + length bytes ≤ length reads) where
  abbrev pub n : ℕ
  n = length bytes

  marks_fit : p + n ≤ length marks
  marks_fit = omega arith

  trues_fit : p + length (replicate n true) ≤ length marks
  trues_fit = omega (arith, length-replicate n true)

  zeros_fit : p + length {A = ℕ} (replicate n 0) ≤ length (zeroed marks reads)
  zeros_fit = omega (arith, length-replicate {A = ℕ} n 0, length_zeroed marks reads size)

  abbrev pub new_marks : List Bool
  new_marks = overwritten marks p (replicate n true)

  abbrev pub new_reads : List ℕ
  new_reads = overwritten reads p bytes

  new_size : length new_marks ≡ length new_reads
  new_size = length_marked marks p n marks_fit ∙ size ∙ sym (length_overwritten reads p bytes fits)

  at : (k : ℕ) → k < length reads → get_or (zeroed new_marks new_reads) k 0 ≡ zero_or (get_or new_marks k true) (get_or new_reads k 0)
  at k lt = zeroed_at new_marks new_reads new_size k (omega (arith, length_overwritten reads p bytes fits))

  -- the bytes that are written are zeros, the others as before
  pub zeroed_overwritten : zeroed new_marks new_reads ≡ overwritten (zeroed marks reads) p (replicate n 0)
  zeroed_overwritten =
      let left_size = length_zeroed new_marks new_reads new_size ∙ length_overwritten reads p bytes fits in
      ext_get_or 0 (zeroed new_marks new_reads) (overwritten (zeroed marks reads) p (replicate n 0))
      (left_size ∙ sym (length_overwritten (zeroed marks reads) p (replicate n 0) zeros_fit ∙ length_zeroed marks reads size)) (λ k lt.
      let within : k < length reads = omega (arith, left_size) in
      elim (three k p (p + n)) [
        | inl below ↦
            at k within
            ∙ ap (λ (b : Bool). zero_or b (get_or new_reads k 0)) (mark_below marks p n marks_fit k below)
            ∙ ap (zero_or (get_or marks k true)) (get_below reads p bytes fits k 0 below)
            ∙ sym (get_below (zeroed marks reads) p (replicate n 0) zeros_fit k 0 below ∙ zeroed_at marks reads size k within)
        | inr (inl inside) ↦
            at k within
            ∙ ap (λ (b : Bool). zero_or b (get_or new_reads k 0))
            (get_inside marks p (replicate n true) trues_fit k true inside.0 (omega (arith, length-replicate n true, inside.1))
            ∙ get_or-replicate n (k - p) true true (omega (arith, inside.0, inside.1)))
            ∙ sym
            (get_inside (zeroed marks reads) p (replicate n 0) zeros_fit k 0 inside.0 (omega (arith, length-replicate {A = ℕ} n 0, inside.1))
            ∙ get_or-replicate n (k - p) 0 0 (omega (arith, inside.0, inside.1)))
        | inr (inr above) ↦
            at k within
            ∙ ap (λ (b : Bool). zero_or b (get_or new_reads k 0)) (mark_above marks p n marks_fit k above)
            ∙ ap (zero_or (get_or marks k true)) (get_above reads p bytes fits k 0 above)
            ∙ sym (get_above (zeroed marks reads) p (replicate n 0) zeros_fit k 0 (omega (arith, length-replicate {A = ℕ} n 0, above)) ∙ zeroed_at marks reads size k within)
      ])

pub left_after : (d : State) (p : ℕ) (bytes : List ℕ) → length d.unsynced ≡ length d.reads → p + length bytes ≤ length d.reads
    → left_now (with_range d p bytes) ≡ spoiled (choice_of d.stop) p bytes (left_now d)
left_after d p bytes size fits = by_choice (choice_of d.stop)
  where
    by_choice : (choice : Choice) → left_by choice (overwritten d.unsynced p (replicate (length bytes) true)) d.synced (overwritten d.reads p bytes) ≡ spoiled choice p bytes (left_by choice d.unsynced d.synced d.reads)
    by_choice Old = refl
    by_choice New = refl
    by_choice Zero = zeroed_overwritten d.unsynced d.reads p bytes size fits

spoils_by : (stop : Option Stop) (p : ℕ) (bytes old new : List ℕ) → has_stopped stop ≡ false → new ≡ spoiled (choice_of stop) p bytes old → Spoils (calls_of stop) (choice_of stop) p bytes old new
spoils_by None p bytes old new going is = tt
spoils_by (Some stop) p bytes old new going is = is ∙ sym (ap (λ (b : Bool). if b then old else spoiled stop.choice p bytes old) going)

choice_next : (stop : Option Stop) → choice_of (next_stop stop) ≡ choice_of stop
choice_next None = refl
choice_next (Some stop) = refl

-- a call that is counted changes nothing of it
pub spoils : (d mid new : State) (p : ℕ) (bytes : List ℕ) → has_stopped d.stop ≡ false → mid.stop ≡ d.stop → left_now mid ≡ spoiled (choice_of d.stop) p bytes (left_now d) → new ≡ counted mid
    → Spoils (calls_of d.stop) (choice_of d.stop) p bytes (left_now d) (left_now new)
spoils d mid new p bytes going same is counts =
    spoils_by d.stop p bytes (left_now d) (left_now new) going
    (ap left_now counts ∙ ap (λ (choice : Choice). left_by choice mid.unsynced mid.synced mid.reads) (choice_next mid.stop) ∙ is)
