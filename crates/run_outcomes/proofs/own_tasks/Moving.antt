-- A command of the node at a device: its first own task that is queued goes on, or ends.
use Rattle.std.specs.Prelude.{ℕ, ◌≡◌, ◌==◌, ◌&&◌, ◌||◌, not, Bool, true, false, List, [], ◌∷◌, Option, None, Some, find, is_none, is_some, if◌then◌else◌}
use Rattle.std.specs.List.{AllByRecursion, list_any}
use Rattle.std.proofs.Common.{refl, sym, ap, subst, ◌∙◌, inl, inr}
use Rattle.attempt_laws.specs.Asking.{AreApart, entry_numbers}
use Rattle.cl_base.specs.Seizings.{SeizeResult}
use Rattle.cmm_attempt.proofs.Basics.{false_true, none_some, same_number}
use Rattle.cmm_attempt.specs.Seizings.{awaits, is_asked}
use Rattle.cmm_attempt.specs.declared.promised.Promised.{Promised}
use Rattle.cmm_attempt.specs.declared.seizing.Seizing.{Seizing}
use Rattle.device_queue.specs.Queue.{after_answer, first_of, progress_after, progress_by}
use Rattle.device_queue.specs.Tasks.{answered, is_over_in, is_queued, is_seizing as is_seizure, progress_in, result_in, seizing_progress, work_answered}
use Rattle.device_queue.specs.declared.progress.Progress.TheVariants.{GoesOn, Joined, Seized}
use Rattle.device_queue.specs.declared.task.Task.{Task}
use Rattle.device_queue.specs.declared.task.Work.{Work}
use Rattle.device_queue.specs.declared.task.Work.TheVariants.{Joining, Seizing as Seizes}
use Rattle.seize.specs.Answers.{Answer}
use Rattle.seize.specs.Seizing as seizing
use Rattle.seize.specs.declared.kind.JoinResult.{JoinResult}
use Rattle.run_outcomes.specs.tasks.Own.{IsEnding, IsOwn, IsOwnBut, Match}
use Rattle.run_outcomes.proofs.own_tasks.Matching.{else_so, itself, match_weaker, not_both, so_then, then_so, unasked_result}

-- ---- one task

none_if : (o : Option SeizeResult) → not (is_some o) ≡ true → o ≡ None
none_if None h = refl
none_if (Some r) h = absurd (false_true h)

pub queued_none : (w : Work) → is_seizure w ≡ true → not (is_over_in w) ≡ true → result_in w ≡ None
queued_none (Seizes s) is h = none_if (seizing.result_of s) h
queued_none (Joining j) is h = absurd (false_true is)

goes_result : (d : ℕ) (o : Option SeizeResult) → seizing_progress d o ≡ GoesOn → o ≡ None
goes_result d None h = refl
goes_result d (Some r) h = absurd (never d r h)
  where
    never : (d : ℕ) (r : SeizeResult) → Seized d r ≡ GoesOn → ⊥
    never d r h = cc

goes_none : (d : ℕ) (w : Work) → is_seizure w ≡ true → progress_in d w ≡ GoesOn → result_in w ≡ None
goes_none d (Seizes s) is h = goes_result d (seizing.result_of s) h
goes_none d (Joining j) is h = absurd (false_true is)

ends_result : (k d : ℕ) (o : Option SeizeResult) (r : SeizeResult) → seizing_progress k o ≡ Seized d r → (k ≡ d) × (o ≡ Some r)
ends_result k d None r h = absurd (never d r h)
  where
    never : (d : ℕ) (r : SeizeResult) → GoesOn ≡ Seized d r → ⊥
    never d r h = cc
ends_result k d (Some q) r h = (same_device k d q r h, ap Some (same_result k d q r h))
  where
    same_device : (k d : ℕ) (q r : SeizeResult) → Seized k q ≡ Seized d r → k ≡ d
    same_device k d q r h = cc

    same_result : (k d : ℕ) (q r : SeizeResult) → Seized k q ≡ Seized d r → q ≡ r
    same_result k d q r h = cc

ends_so : (k d : ℕ) (w : Work) (r : SeizeResult) → is_seizure w ≡ true → progress_in k w ≡ Seized d r → (k ≡ d) × (result_in w ≡ Some r)
ends_so k d (Seizes s) r is h = ends_result k d (seizing.result_of s) r h
ends_so k d (Joining j) r is h = absurd (false_true is)

joins_result : (k d : ℕ) (o : Option SeizeResult) (r : JoinResult) → seizing_progress k o ≡ Joined d r → ⊥
joins_result k d None r h = cc
joins_result k d (Some q) r h = cc

joins_never : (k d : ℕ) (w : Work) (r : JoinResult) → is_seizure w ≡ true → progress_in k w ≡ Joined d r → ⊥
joins_never k d (Seizes s) r is h = joins_result k d (seizing.result_of s) r h
joins_never k d (Joining j) r is h = false_true is

still_seizure : (a : Answer) (w : Work) → is_seizure w ≡ true → is_seizure (work_answered a w) ≡ true
still_seizure a (Seizes s) is = refl
still_seizure a (Joining j) is = absurd (false_true is)

-- it is asked last, and its result is awaited, where its task is not over
awaited_so : (c : ℕ) (e : Seizing) (t : Task) → IsOwn c e t → result_in t.work ≡ None → (is_asked e.seizer c ≡ true) × (e.result ≡ None)
awaited_so c e t own none = by_test (is_asked e.seizer c) refl
  where
    by_test : (b : Bool) → is_asked e.seizer c ≡ b → (is_asked e.seizer c ≡ true) × (e.result ≡ None)
    by_test true is = (is, sym (then_so _ _ (is_asked e.seizer c) is own.result) ∙ none)
    by_test false is = absurd (unasked_result (result_in t.work) none (else_so _ _ (is_asked e.seizer c) is own.result))

goes_own : (c : ℕ) (e : Seizing) (t : Task) (a : Answer) → IsOwn c e t → is_queued t ≡ true → progress_in t.device (work_answered a t.work) ≡ GoesOn → IsOwn c e (answered a t)
goes_own c e t a own queued goes =
    let at : (is_asked e.seizer c ≡ true) × (e.result ≡ None) = awaited_so c e t own (queued_none t.work own.work queued) in
    record {
      device = own.device;
      asked = own.asked;
      work = still_seizure a t.work own.work;
      result = so_then _ _ (is_asked e.seizer c) at.0 (goes_none t.device (work_answered a t.work) (still_seizure a t.work own.work) goes ∙ sym at.1);
    }

-- ---- all tasks

-- it goes on
pub moved_goes : (c : ℕ) (promises : List Promised) (es : List Seizing) (ts : List Task) (a : Answer) → Match (IsOwn c) c promises es ts → progress_after ts a ≡ GoesOn
    → Match (IsOwn c) c promises es (after_answer ts a)
moved_goes c promises [] ts a h goes = ap (λ us. after_answer us a) h
moved_goes c promises (e ∷ es) ts a (inl h) goes = inl (h.0, moved_goes c promises es ts a h.1 goes)
moved_goes c promises (e ∷ es) (t ∷ us) a (inr h) goes = by_test (λ k. moved_goes c promises es us a h.1 k) (is_queued t) refl goes
  where
    by_test : (progress_after us a ≡ GoesOn → Match (IsOwn c) c promises es (after_answer us a)) → (b : Bool) → is_queued t ≡ b → progress_by (if b then Some t else first_of us) a ≡ GoesOn
        → Match (IsOwn c) c promises (e ∷ es) (if b then answered a t ∷ us else t ∷ after_answer us a)
    by_test rest true queued k = inr (goes_own c e t a h.0 queued k, h.1)
    by_test rest false over k = inr (h.0, rest k)
moved_goes c promises (e ∷ es) [] a (inr h) goes = absurd h

-- none of them joins a device
pub moved_never : (c : ℕ) (promises : List Promised) (es : List Seizing) (ts : List Task) (a : Answer) (d : ℕ) (r : JoinResult) → Match (IsOwn c) c promises es ts → progress_after ts a ≡ Joined d r → ⊥
moved_never c promises [] ts a d r h is = nothing (subst (λ us. progress_after us a ≡ Joined d r) h is)
  where
    nothing : GoesOn ≡ Joined d r → ⊥
    nothing k = cc
moved_never c promises (e ∷ es) ts a d r (inl h) is = moved_never c promises es ts a d r h.1 is
moved_never c promises (e ∷ es) (t ∷ us) a d r (inr h) is = by_test (λ k. moved_never c promises es us a d r h.1 k) (is_queued t) is
  where
    by_test : (progress_after us a ≡ Joined d r → ⊥) → (b : Bool) → progress_by (if b then Some t else first_of us) a ≡ Joined d r → ⊥
    by_test rest true k = joins_never t.device d (work_answered a t.work) r (still_seizure a t.work h.0.work) k
    by_test rest false k = rest k
moved_never c promises (e ∷ es) [] a d r (inr h) is = absurd h

or_more : (a b : Bool) → b ≡ true → (a || b) ≡ true
or_more true b h = refl
or_more false b h = h

or_here : (a b : Bool) → a ≡ true → (a || b) ≡ true
or_here true b h = refl
or_here false b h = absurd (false_true h)

at_device : (e : Seizing) (t : Task) (d : ℕ) → t.device ≡ e.attached.device → t.device ≡ d → (e.attached.device == d) ≡ true
at_device e t d same is = ap (λ k. k == d) (sym same ∙ is) ∙ itself d

-- one that ends is of an entry
listed_ends : (c : ℕ) (promises : List Promised) (es : List Seizing) (ts : List Task) (a : Answer) (d : ℕ) (r : SeizeResult) → Match (IsOwn c) c promises es ts → progress_after ts a ≡ Seized d r
    → list_any (λ k. k == d) (entry_numbers es) ≡ true
listed_ends c promises [] ts a d r h is = absurd (nothing (subst (λ us. progress_after us a ≡ Seized d r) h is))
  where
    nothing : GoesOn ≡ Seized d r → ⊥
    nothing k = cc
listed_ends c promises (e ∷ es) ts a d r (inl h) is = or_more (e.attached.device == d) _ (listed_ends c promises es ts a d r h.1 is)
listed_ends c promises (e ∷ es) (t ∷ us) a d r (inr h) is = by_test (λ k. listed_ends c promises es us a d r h.1 k) (is_queued t) is
  where
    by_test : (progress_after us a ≡ Seized d r → list_any (λ k. k == d) (entry_numbers es) ≡ true) → (b : Bool) → progress_by (if b then Some t else first_of us) a ≡ Seized d r
        → list_any (λ k. k == d) (entry_numbers (e ∷ es)) ≡ true
    by_test rest true k =
        or_here (e.attached.device == d) _ (at_device e t d h.0.device (ends_so t.device d (work_answered a t.work) r (still_seizure a t.work h.0.work) k).0)
    by_test rest false k = or_more (e.attached.device == d) _ (rest k)
listed_ends c promises (e ∷ es) [] a d r (inr h) is = absurd h

or_false : (a b : Bool) → (a || b) ≡ false → (a ≡ false) × (b ≡ false)
or_false true b k = absurd (false_true (sym k))
or_false false b k = (refl, k)

-- the others are of other devices
pub each_lacks : (es : List Seizing) (d : ℕ) → list_any (λ x. x == d) (entry_numbers es) ≡ false → AllByRecursion (λ (e : Seizing). (e.attached.device == d) ≡ false) es
each_lacks [] d h = tt
each_lacks (e ∷ es) d h = let two : ((e.attached.device == d) ≡ false) × (list_any (λ x. x == d) (entry_numbers es) ≡ false) = or_false (e.attached.device == d) _ h in (two.0, each_lacks es d two.1)

-- it ends: its entry's answer is awaited, and all others are as before
pub moved_ends : (c : ℕ) (promises : List Promised) (es : List Seizing) (ts : List Task) (a : Answer) (d : ℕ) (r : SeizeResult) → AreApart (entry_numbers es) → Match (IsOwn c) c promises es ts
    → progress_after ts a ≡ Seized d r → Match (IsOwnBut c d r) c promises es (after_answer ts a)
moved_ends c promises [] ts a d r apart h is = ap (λ us. after_answer us a) h
moved_ends c promises (e ∷ es) ts a d r apart (inl h) is = inl (h.0, moved_ends c promises es ts a d r apart.1 h.1 is)
moved_ends c promises (e ∷ es) (t ∷ us) a d r apart (inr h) is = by_test (λ k. moved_ends c promises es us a d r apart.1 h.1 k) (λ k. listed_ends c promises es us a d r h.1 k) (is_queued t) refl is
  where
    other : list_any (λ k. k == d) (entry_numbers es) ≡ true → (b : Bool) → (e.attached.device == d) ≡ b → b ≡ false
    other listed true same =
        absurd (not_both (list_any (λ k. k == d) (entry_numbers es)) listed (subst (λ j. list_any (λ k. k == j) (entry_numbers es) ≡ false) (same_number e.attached.device d same) apart.0))
    other listed false same = refl

    here : is_queued t ≡ true → progress_in t.device (work_answered a t.work) ≡ Seized d r → IsEnding c d r e (answered a t)
    here queued k =
        let at : (is_asked e.seizer c ≡ true) × (e.result ≡ None) = awaited_so c e t h.0 (queued_none t.work h.0.work queued) in
        let so : (t.device ≡ d) × (result_in (work_answered a t.work) ≡ Some r) = ends_so t.device d (work_answered a t.work) r (still_seizure a t.work h.0.work) k in
        record {
          device = h.0.device;
          of = at_device e t d h.0.device so.0;
          asked = h.0.asked;
          work = still_seizure a t.work h.0.work;
          seizer = at.0;
          awaited = at.1;
          result = so.1;
        }

    lacks : is_queued t ≡ true → progress_in t.device (work_answered a t.work) ≡ Seized d r → list_any (λ k. k == d) (entry_numbers es) ≡ false
    lacks queued k = subst (λ j. list_any (λ z. z == j) (entry_numbers es) ≡ false) (same_number e.attached.device d (here queued k).of) apart.0

    by_test : (progress_after us a ≡ Seized d r → Match (IsOwnBut c d r) c promises es (after_answer us a))
        → (progress_after us a ≡ Seized d r → list_any (λ k. k == d) (entry_numbers es) ≡ true) → (b : Bool) → is_queued t ≡ b → progress_by (if b then Some t else first_of us) a ≡ Seized d r
        → Match (IsOwnBut c d r) c promises (e ∷ es) (if b then answered a t ∷ us else t ∷ after_answer us a)
    by_test rest listed true queued k =
        inr (inl (here queued k), match_weaker (IsOwn c) (IsOwnBut c d r) (λ (x : Seizing). (x.attached.device == d) ≡ false) c promises (λ x u lacks own. inr (own, lacks)) es us (each_lacks es d (lacks queued k)) h.1)
    by_test rest listed false over k = inr (inr (h.0, other (listed k) (e.attached.device == d) refl), rest k)
moved_ends c promises (e ∷ es) [] a d r apart (inr h) is = absurd h

-- .. and so it is found
pub ends_awaited : (c : ℕ) (promises : List Promised) (es : List Seizing) (ts : List Task) (a : Answer) (d : ℕ) (r : SeizeResult) → Match (IsOwn c) c promises es ts → progress_after ts a ≡ Seized d r
    → find (awaits d c) es ≡ None → ⊥
ends_awaited c promises [] ts a d r h is none = nothing (subst (λ us. progress_after us a ≡ Seized d r) h is)
  where
    nothing : GoesOn ≡ Seized d r → ⊥
    nothing k = cc
ends_awaited c promises (e ∷ es) ts a d r (inl h) is none = by_test (λ k. ends_awaited c promises es ts a d r h.1 is k) (awaits d c e) none
  where
    by_test : (find (awaits d c) es ≡ None → ⊥) → (b : Bool) → (if b then Some e else find (awaits d c) es) ≡ None → ⊥
    by_test rest true k = none_some e (sym k)
    by_test rest false k = rest k
ends_awaited c promises (e ∷ es) (t ∷ us) a d r (inr h) is none = by_queued (λ k l. ends_awaited c promises es us a d r h.1 k l) (is_queued t) refl is (awaits d c e) refl none
  where
    awaited : is_queued t ≡ true → progress_in t.device (work_answered a t.work) ≡ Seized d r → awaits d c e ≡ true
    awaited queued k =
        let at : (is_asked e.seizer c ≡ true) × (e.result ≡ None) = awaited_so c e t h.0 (queued_none t.work h.0.work queued) in
        let so : (t.device ≡ d) × (result_in (work_answered a t.work) ≡ Some r) = ends_so t.device d (work_answered a t.work) r (still_seizure a t.work h.0.work) k in
        ap (λ b. b && is_none e.result && is_asked e.seizer c) (at_device e t d h.0.device so.0) ∙ (ap (λ (o : Option SeizeResult). is_none o && is_asked e.seizer c) at.1 ∙ at.0)

    by_queued : (progress_after us a ≡ Seized d r → find (awaits d c) es ≡ None → ⊥) → (q : Bool) → is_queued t ≡ q → progress_by (if q then Some t else first_of us) a ≡ Seized d r
        → (b : Bool) → awaits d c e ≡ b → (if b then Some e else find (awaits d c) es) ≡ None → ⊥
    by_queued rest q queued k true at l = none_some e (sym l)
    by_queued rest true queued k false at l = not_both (awaits d c e) (awaited queued k) at
    by_queued rest false over k false at l = rest k l
ends_awaited c promises (e ∷ es) [] a d r (inr h) is none = absurd h
