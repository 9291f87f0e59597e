-- What is left of all tasks: less with each answer, and no more by what an attempt asks.
use Rattle.std.specs.Prelude.{ℕ, ◌+◌, ◌≡◌, ◌≢◌, ◌≤◌, ◌==◌, ◌&&◌, ◌++◌, Bool, true, false, List, [], ◌∷◌, Option, None, Some, find, if◌then◌else◌}
use Rattle.std.specs.List.{AllByRecursion}
use Rattle.std.specs.Option.{option_or}
use Rattle.std.proofs.Common.{refl, sym, ap, subst, ◌∙◌, arith}
use Rattle.std.proofs.lemmas.Bool.{cond_both}
use Rattle.std.proofs.lemmas.List.Folds.{find-append}
use Rattle.cl_base.specs.Limits.{most_devices}
use Rattle.cmm_attempt.proofs.Basics.{false_true}
use Rattle.device_queue.proofs.Kept.{same_join, same_seizure}
use Rattle.device_queue.proofs.Steps.{put_other}
use Rattle.device_queue.specs.Queue.{after_answer, after_seize, first_of, join_of, put_unless, seizure_of}
use Rattle.device_queue.specs.Tasks.{answered, is_join_of, is_joining, is_over, is_queued, is_seizing, is_seizure_of, work_answered}
use Rattle.device_queue.specs.declared.task.Task.{Task}
use Rattle.device_queue.specs.declared.task.Work.{Work}
use Rattle.device_queue.specs.declared.task.Work.TheVariants.{Joining, Seizing}
use Rattle.seize.specs.Answers.{Answer}
use Rattle.seize.specs.Seizing as seizing
use Rattle.seize.specs.declared.kind.SeizeKind.{SeizeKind}
use Rattle.seize.specs.declared.kind.SeizeKind.TheVariants.{Plain, Vote}
use Rattle.run_lines.specs.writes.Joins.{Lone}
use Rattle.run_lines.specs.few.Counts.{TellsWord, cost, cost_or, left_at, left_in, spare, total, work_spare}
use Rattle.run_lines.proofs.few.Costs.{over_cost, queued_cost, work_below}
use Rattle.run_lines.proofs.few.Tasks.{first_again, first_found, first_queued, first_taken, others_stay}
use Rattle.run_lines.proofs.few.Totals.{total_less, total_moves}
use Rattle.run_lines.proofs.few.Most.{and_false, is_over_so, is_same, join_most, not_queued, not_same, spare_any, work_most}

-- ---- an answer

-- at another device nothing moves
other_device : (more : Bool) (ts : List Task) (a : Answer) (t : Task) (e : ℕ) → find is_queued ts ≡ Some t → e ≢ t.device → left_at more (after_answer ts a) e ≡ left_at more ts e
other_device more ts a t e first other =
    let no_seizure : is_seizure_of e t ≡ false = ap (λ b. b && is_seizing t.work) (not_same t.device e other) in
    let no_join : is_join_of e t ≡ false = ap (λ b. b && is_joining t.work) (not_same t.device e other) in
    ap (λ o. cost_or (if more then 133 else 0) o + cost_or 0 (join_of (after_answer ts a) e) + (if more then 3 else 0)) (others_stay (is_seizure_of e) a (same_seizure e a) ts t first no_seizure)
    ∙ ap (λ o. cost_or (if more then 133 else 0) (seizure_of ts e) + cost_or 0 o + (if more then 3 else 0)) (others_stay (is_join_of e) a (same_join e a) ts t first no_join)

-- at its own the first task moves
own_device : (more : Bool) (ts : List Task) (a : Answer) (t : Task) → find is_queued ts ≡ Some t → Lone (is_seizure_of t.device) ts → Lone (is_join_of t.device) ts
    → left_at more (after_answer ts a) t.device + cost t.work ≡ left_at more ts t.device + cost (work_answered a t.work)
own_device more ts a t first lone alone = by_work t.work refl
  where
    d : ℕ
    d = t.device

    none : ℕ
    none = if more then 133 else 0

    begins : ℕ
    begins = if more then 3 else 0

    moved : (x y j b : ℕ) → (y + j + b) + x ≡ (x + j + b) + y
    moved x y j b = omega arith

    joined : (x y k b : ℕ) → (k + y + b) + x ≡ (k + x + b) + y
    joined x y k b = omega arith

    by_work : (w : Work) → t.work ≡ w → left_at more (after_answer ts a) d + cost t.work ≡ left_at more ts d + cost (work_answered a t.work)
    by_work (Seizing s) is =
        let own : is_seizure_of d t ≡ true = ap (λ b. b && is_seizing t.work) (is_same d) ∙ ap is_seizing is in
        let other : is_join_of d t ≡ false = ap (λ w. (d == d) && is_joining w) is ∙ and_false (d == d) in
        ap (λ o. (cost_or none o + cost_or 0 (join_of (after_answer ts a) d) + begins) + cost t.work) (first_taken (is_seizure_of d) a (same_seizure d a) ts t first own lone)
        ∙ (ap (λ o. (cost (work_answered a t.work) + cost_or 0 o + begins) + cost t.work) (others_stay (is_join_of d) a (same_join d a) ts t first other)
        ∙ (moved (cost t.work) (cost (work_answered a t.work)) (cost_or 0 (join_of ts d)) begins
        ∙ ap (λ o. (cost_or none o + cost_or 0 (join_of ts d) + begins) + cost (work_answered a t.work)) (sym (first_found (is_seizure_of d) ts t first own lone))))
    by_work (Joining j) is =
        let own : is_join_of d t ≡ true = ap (λ b. b && is_joining t.work) (is_same d) ∙ ap is_joining is in
        let other : is_seizure_of d t ≡ false = ap (λ w. (d == d) && is_seizing w) is ∙ and_false (d == d) in
        ap (λ o. (cost_or none o + cost_or 0 (join_of (after_answer ts a) d) + begins) + cost t.work) (others_stay (is_seizure_of d) a (same_seizure d a) ts t first other)
        ∙ (ap (λ o. (cost_or none (seizure_of ts d) + cost_or 0 o + begins) + cost t.work) (first_taken (is_join_of d) a (same_join d a) ts t first own alone)
        ∙ (joined (cost t.work) (cost (work_answered a t.work)) (cost_or none (seizure_of ts d)) begins
        ∙ ap (λ o. (cost_or none (seizure_of ts d) + cost_or 0 o + begins) + cost (work_answered a t.work)) (sym (first_found (is_join_of d) ts t first own alone))))

-- the first task with what is spared of the queue, before and after
first_less : (before after : ℕ → ℕ) (ts : List Task) (a : Answer) (t : Task) → find is_queued ts ≡ Some t → TellsWord (before t.device) (after t.device) a
    → cost (work_answered a t.work) + spare after (first_of (after_answer ts a)) + 1 ≤ cost t.work + spare before (Some t)
first_less before after ts a t first tells = by_test (is_queued (answered a t)) refl
  where
    goes : 2 ≤ cost t.work
    goes = queued_cost t.work (not_queued (is_over t) (first_queued ts t first))

    some : 1 ≤ cost t.work
    some = fewer goes
      where
        fewer : {n : ℕ} → 2 ≤ n → 1 ≤ n
        fewer h = omega (arith, h)

    ended : (x y c b : ℕ) → x ≡ 0 → y ≤ 1 → 2 ≤ c → x + y + 1 ≤ c + b
    ended x y c b h k l = omega (arith, h, k, l)

    by_test : (b : Bool) → is_queued (answered a t) ≡ b → cost (work_answered a t.work) + spare after (first_of (after_answer ts a)) + 1 ≤ cost t.work + spare before (Some t)
    by_test true is =
        subst (λ o. cost (work_answered a t.work) + spare after o + 1 ≤ cost t.work + spare before (Some t)) (sym (first_again a ts t first is))
        (work_below t.work (before t.device) (after t.device) a tells some)
    by_test false is =
        ended (cost (work_answered a t.work)) (spare after (first_of (after_answer ts a))) (cost t.work) (spare before (Some t))
        (over_cost (work_answered a t.work) (is_over_so (is_over (answered a t)) is)) (spare_any after (first_of (after_answer ts a))) goes

-- one command less is left
pub taken_less : (before after : ℕ → ℕ) (more : Bool) (ts : List Task) (a : Answer) (t : Task) → find is_queued ts ≡ Some t → Lone (is_seizure_of t.device) ts → Lone (is_join_of t.device) ts
    → 1 ≤ t.device → t.device ≤ most_devices → TellsWord (before t.device) (after t.device) a → left_in after more (after_answer ts a) + 1 ≤ left_in before more ts
taken_less before after more ts a t first lone alone low high tells =
    subst (λ o. left_in after more (after_answer ts a) + 1 ≤ total most_devices (left_at more ts) + spare before o) (sym first)
    (add (total most_devices (left_at more (after_answer ts a))) (total most_devices (left_at more ts)) (cost t.work) (cost (work_answered a t.work)) (spare after (first_of (after_answer ts a))) (spare before (Some t))
    (total_moves most_devices t.device (cost t.work) (cost (work_answered a t.work)) (left_at more ts) (left_at more (after_answer ts a)) low high
    (λ e other. other_device more ts a t e first other) (own_device more ts a t first lone alone))
    (first_less before after ts a t first tells))
  where
    add : (new old x y p q : ℕ) → new + x ≡ old + y → y + p + 1 ≤ x + q → new + p + 1 ≤ old + q
    add new old x y p q h k = omega (arith, h, k)

-- ---- a seizing begins

put_cost : (p : Task → Bool) (k : ℕ) (ts : List Task) (x : Task) → cost x.work ≤ k → cost_or k (find p (ts ++ x ∷ [])) ≤ cost_or k (find p ts)
put_cost p k ts x fits = subst (λ o. cost_or k o ≤ cost_or k (find p ts)) (sym (find-append p ts (x ∷ []))) (by_found (find p ts))
  where
    by_found : (o : Option Task) → cost_or k (option_or o (find p (x ∷ []))) ≤ cost_or k o
    by_found (Some t) = omega arith
    by_found None = cond_both (p x) (Some x) None (λ o. cost_or k o ≤ k) (λ e. fits) (λ e. omega arith)

put_spare : (word : ℕ → ℕ) (ts : List Task) (x : Task) → spare word (Some x) ≡ 0 → spare word (first_of (ts ++ x ∷ [])) ≤ spare word (first_of ts)
put_spare word ts x none = subst (λ o. spare word o ≤ spare word (first_of ts)) (sym (find-append is_queued ts (x ∷ []))) (by_found (first_of ts))
  where
    no_more : (k : ℕ) → k ≡ 0 → k ≤ 0
    no_more k e = omega (arith, e)

    by_found : (o : Option Task) → spare word (option_or o (find is_queued (x ∷ []))) ≤ spare word o
    by_found (Some t) = omega arith
    by_found None = cond_both (is_queued x) (Some x) None (λ o. spare word o ≤ 0) (λ e. no_more (spare word (Some x)) none) (λ e. omega arith)

both_less : (a b x y : ℕ) → a ≤ x → b ≤ y → a + b ≤ x + y
both_less a b x y h k = omega (arith, h, k)

put_left : (word : ℕ → ℕ) (ts : List Task) (o : Option Task) (x : Task) → is_joining x.work ≡ false → cost x.work ≤ 133 → spare word (Some x) ≡ 0
    → left_in word true (put_unless o x ts) ≤ left_in word true ts
put_left word ts (Some u) x kind fits none = omega arith
put_left word ts None x kind fits none =
    both_less (total most_devices (left_at true (ts ++ x ∷ []))) (spare word (first_of (ts ++ x ∷ []))) (total most_devices (left_at true ts)) (spare word (first_of ts))
    (total_less most_devices (left_at true ts) (left_at true (ts ++ x ∷ [])) (λ d. here d)) (put_spare word ts x none)
  where
    add : (a b x y : ℕ) → a ≤ x → b ≡ y → a + b + 3 ≤ x + y + 3
    add a b x y h k = omega (arith, h, k)

    no_join : (d : ℕ) → is_join_of d x ≡ false
    no_join d = ap (λ b. (x.device == d) && b) kind ∙ and_false (x.device == d)

    here : (d : ℕ) → left_at true (ts ++ x ∷ []) d ≤ left_at true ts d
    here d =
        add (cost_or 133 (seizure_of (ts ++ x ∷ []) d)) (cost_or 0 (join_of (ts ++ x ∷ []) d)) (cost_or 133 (seizure_of ts d)) (cost_or 0 (join_of ts d))
        (put_cost (is_seizure_of d) 133 ts x fits) (ap (cost_or 0) (put_other (is_join_of d) None x ts (no_join d)))

fresh_spare : (kind : SeizeKind) (word epoch members me cluster : ℕ) (valid : Bool) → work_spare word (Seizing (seizing.begun kind epoch members me cluster valid)) ≡ 0
fresh_spare Vote word epoch members me cluster valid = refl
fresh_spare Plain word epoch members me cluster valid = refl

pub seize_left : (word : ℕ → ℕ) (ts : List Task) (d : ℕ) (kind : SeizeKind) (epoch members me cluster : ℕ) (valid : Bool)
    → left_in word true (after_seize ts d (seizing.begun kind epoch members me cluster valid)) ≤ left_in word true ts
seize_left word ts d kind epoch members me cluster valid =
    let w : Work = Seizing (seizing.begun kind epoch members me cluster valid) in
    put_left word ts (seizure_of ts d) (record { device = d; work = w }) refl (work_most w) (fresh_spare kind (word d) epoch members me cluster valid)

-- ---- nothing more begins

pub closed_left : (word : ℕ → ℕ) (ts : List Task) (more : Bool) → left_in word false ts ≤ left_in word more ts
closed_left word ts false = omega arith
closed_left word ts true =
    both_less (total most_devices (left_at false ts)) (spare word (first_of ts)) (total most_devices (left_at true ts)) (spare word (first_of ts))
    (total_less most_devices (left_at true ts) (left_at false ts) (λ d. here (seizure_of ts d) (join_of ts d))) (omega arith)
  where
    here : (o q : Option Task) → cost_or 0 o + cost_or 0 q + 0 ≤ cost_or 133 o + cost_or 0 q + 3
    here None q = omega arith
    here (Some t) q = omega arith

-- ---- an install leaves joinings alone

-- none of the tasks is a seizing
abbrev pub NoSeizing : List Task → Type 0
NoSeizing ts = AllByRecursion (λ (t : Task). is_seizing t.work ≡ false) ts

none_found : (p : Task → Bool) (ts : List Task) → ((t : Task) → is_seizing t.work ≡ false → p t ≡ false) → NoSeizing ts → find p ts ≡ None
none_found p [] never only = refl
none_found p (t ∷ ts) never only = ap (λ b. if b then Some t else find p ts) (never t only.0) ∙ none_found p ts never only.1

joining_spare : (word : ℕ → ℕ) (ts : List Task) → NoSeizing ts → spare word (first_of ts) ≡ 0
joining_spare word [] only = refl
joining_spare word (t ∷ ts) only = cond_both (is_queued t) (Some t) (first_of ts) (λ o. spare word o ≡ 0) (λ e. by_work t.work only.0) (λ e. joining_spare word ts only.1)
  where
    by_work : (w : Work) → is_seizing w ≡ false → work_spare (word t.device) w ≡ 0
    by_work (Joining j) is = refl
    by_work (Seizing s) is = absurd (false_true (sym is))

pub joins_left : (word : ℕ → ℕ) (old new : List Task) → NoSeizing new → left_in word false new ≤ left_in word true old
joins_left word old new only =
    add (total most_devices (left_at false new)) (spare word (first_of new)) (total most_devices (left_at true old)) (spare word (first_of old))
    (total_less most_devices (left_at true old) (left_at false new) (λ d. here d)) (joining_spare word new only)
  where
    add : (a b x y : ℕ) → a ≤ x → b ≡ 0 → a + b ≤ x + y
    add a b x y h k = omega (arith, h, k)

    least : (a j x y : ℕ) → a ≡ 0 → j ≤ 3 → a + j + 0 ≤ x + y + 3
    least a j x y h k = omega (arith, h, k)

    here : (d : ℕ) → left_at false new d ≤ left_at true old d
    here d =
        least (cost_or 0 (seizure_of new d)) (cost_or 0 (join_of new d)) (cost_or 133 (seizure_of old d)) (cost_or 0 (join_of old d))
        (ap (cost_or 0) (none_found (is_seizure_of d) new (λ t is. ap (λ b. (t.device == d) && b) is ∙ and_false (t.device == d)) only)) (join_most new d (join_of new d) refl)
