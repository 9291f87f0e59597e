-- Tasks of a kind of which there is one at most, and the first task of the queue.
use Rattle.std.specs.Prelude.{◌≡◌, Bool, true, false, List, [], ◌∷◌, Some, find, if◌then◌else◌}
use Rattle.std.proofs.Common.{refl, sym, ap, subst, ◌∙◌}
use Rattle.cmm_attempt.proofs.Basics.{none_some, same_some}
use Rattle.device_queue.specs.Queue.{after_answer}
use Rattle.device_queue.specs.Tasks.{answered, is_queued}
use Rattle.device_queue.specs.declared.task.Task.{Task}
use Rattle.seize.specs.Answers.{Answer}
use Rattle.run_lines.specs.writes.Joins.{Lone}
use Rattle.run_lines.proofs.writes.Tasks.{found_here, found_later}

-- ---- the first that is queued

-- it is the one of its kind
pub first_found : (p : Task → Bool) (ts : List Task) (t : Task) → find is_queued ts ≡ Some t → p t ≡ true → Lone p ts → find p ts ≡ Some t
first_found p [] t first own lone = absurd (none_some t first)
first_found p (u ∷ us) t first own lone = by_test (is_queued u) refl (λ f. first_found p us t f own lone.1)
  where
    by_kind : (b : Bool) → p u ≡ b → find p us ≡ Some t → find p (u ∷ us) ≡ Some t
    by_kind true is rest = absurd (none_some t (sym (lone.0 is) ∙ rest))
    by_kind false is rest = found_later p u us is ∙ rest

    by_test : (b : Bool) → is_queued u ≡ b → (find is_queued us ≡ Some t → find p us ≡ Some t) → find p (u ∷ us) ≡ Some t
    by_test true is rest =
        let same : u ≡ t = same_some u t (sym (found_here is_queued u us is) ∙ first) in
        found_here p u us (subst (λ z. p z ≡ true) (sym same) own) ∙ ap Some same
    by_test false is rest = by_kind (p u) refl (rest (sym (found_later is_queued u us is) ∙ first))

pub first_taken : (p : Task → Bool) (a : Answer) → ((t : Task) → p (answered a t) ≡ p t) → (ts : List Task) (t : Task) → find is_queued ts ≡ Some t → p t ≡ true → Lone p ts
    → find p (after_answer ts a) ≡ Some (answered a t)
first_taken p a keeps [] t first own lone = absurd (none_some t first)
first_taken p a keeps (u ∷ us) t first own lone = by_test (is_queued u) refl (λ f. first_taken p a keeps us t f own lone.1) (λ f. first_found p us t f own lone.1)
  where
    after : Bool → List Task
    after b = if b then answered a u ∷ us else u ∷ after_answer us a

    by_kind : (b : Bool) → p u ≡ b → find p us ≡ Some t → find p (after_answer us a) ≡ Some (answered a t) → find p (u ∷ after_answer us a) ≡ Some (answered a t)
    by_kind true is here rest = absurd (none_some t (sym (lone.0 is) ∙ here))
    by_kind false is here rest = found_later p u (after_answer us a) is ∙ rest

    by_test : (b : Bool) → is_queued u ≡ b → (find is_queued us ≡ Some t → find p (after_answer us a) ≡ Some (answered a t)) → (find is_queued us ≡ Some t → find p us ≡ Some t)
        → find p (after_answer (u ∷ us) a) ≡ Some (answered a t)
    by_test true is rest here =
        let same : u ≡ t = same_some u t (sym (found_here is_queued u us is) ∙ first) in
        ap (λ ts. find p ts) (ap after is)
        ∙ (found_here p (answered a u) us (keeps u ∙ subst (λ z. p z ≡ true) (sym same) own) ∙ ap (λ z. Some (answered a z)) same)
    by_test false is rest here =
        let f : find is_queued us ≡ Some t = sym (found_later is_queued u us is) ∙ first in
        ap (λ ts. find p ts) (ap after is) ∙ by_kind (p u) refl (here f) (rest f)

-- the others stay
pub others_stay : (p : Task → Bool) (a : Answer) → ((t : Task) → p (answered a t) ≡ p t) → (ts : List Task) (t : Task) → find is_queued ts ≡ Some t → p t ≡ false
    → find p (after_answer ts a) ≡ find p ts
others_stay p a keeps [] t first other = refl
others_stay p a keeps (u ∷ us) t first other = by_test (is_queued u) refl (λ f. others_stay p a keeps us t f other)
  where
    after : Bool → List Task
    after b = if b then answered a u ∷ us else u ∷ after_answer us a

    by_test : (b : Bool) → is_queued u ≡ b → (find is_queued us ≡ Some t → find p (after_answer us a) ≡ find p us) → find p (after_answer (u ∷ us) a) ≡ find p (u ∷ us)
    by_test true is rest =
        let same : u ≡ t = same_some u t (sym (found_here is_queued u us is) ∙ first) in
        let never : p u ≡ false = subst (λ z. p z ≡ false) (sym same) other in
        ap (λ ts. find p ts) (ap after is) ∙ (found_later p (answered a u) us (keeps u ∙ never) ∙ sym (found_later p u us never))
    by_test false is rest =
        ap (λ ts. find p ts) (ap after is) ∙ ap (λ o. if p u then Some u else o) (rest (sym (found_later is_queued u us is) ∙ first))

-- where it is not over by the answer it is the first again
pub first_again : (a : Answer) (ts : List Task) (t : Task) → find is_queued ts ≡ Some t → is_queued (answered a t) ≡ true → find is_queued (after_answer ts a) ≡ Some (answered a t)
first_again a [] t first goes = absurd (none_some t first)
first_again a (u ∷ us) t first goes = by_test (is_queued u) refl (λ f. first_again a us t f goes)
  where
    after : Bool → List Task
    after b = if b then answered a u ∷ us else u ∷ after_answer us a

    by_test : (b : Bool) → is_queued u ≡ b → (find is_queued us ≡ Some t → find is_queued (after_answer us a) ≡ Some (answered a t)) → find is_queued (after_answer (u ∷ us) a) ≡ Some (answered a t)
    by_test true is rest =
        let same : u ≡ t = same_some u t (sym (found_here is_queued u us is) ∙ first) in
        ap (λ ts. find is_queued ts) (ap after is)
        ∙ (found_here is_queued (answered a u) us (subst (λ z. is_queued (answered a z) ≡ true) (sym same) goes) ∙ ap (λ z. Some (answered a z)) same)
    by_test false is rest =
        ap (λ ts. find is_queued ts) (ap after is) ∙ (found_later is_queued u (after_answer us a) is ∙ rest (sym (found_later is_queued u us is) ∙ first))

pub first_queued : (ts : List Task) (t : Task) → find is_queued ts ≡ Some t → is_queued t ≡ true
first_queued [] t first = absurd (none_some t first)
first_queued (u ∷ us) t first = by_test (is_queued u) refl (λ f. first_queued us t f)
  where
    by_test : (b : Bool) → is_queued u ≡ b → (find is_queued us ≡ Some t → is_queued t ≡ true) → is_queued t ≡ true
    by_test true is rest = subst (λ z. is_queued z ≡ true) (same_some u t (sym (found_here is_queued u us is) ∙ first)) is
    by_test false is rest = rest (sym (found_later is_queued u us is) ∙ first)
