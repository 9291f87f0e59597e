-- Tasks that match the entries of an attempt: what stays so, and the task of a device.
use Rattle.std.specs.Prelude.{ℕ, ◌≡◌, ◌≢◌, ◌⊎◌, ◌==◌, ◌++◌, Bool, true, false, List, [], ◌∷◌, filter, map, Option, None, Some, if◌then◌else◌}
use Rattle.std.specs.List.{AllByRecursion, find}
use Rattle.std.specs.Option.{option_and_then}
use Rattle.std.proofs.Common.{arith, refl, sym, ap, subst, ◌∙◌, inl, inr}
use Rattle.attempt_laws.specs.Asking.{entry_of}
use Rattle.cl_base.specs.Seizings.{SeizeResult}
use Rattle.cl_base.specs.Sets.{has}
use Rattle.cmm_attempt.proofs.Basics.{false_true, none_some, same_number, same_some}
use Rattle.cmm_attempt.specs.Seizings.{is_asked}
use Rattle.cmm_attempt.specs.declared.promised.Promised.{Promised}
use Rattle.cmm_attempt.specs.declared.seizing.Seizing.{Seizing}
use Rattle.device_queue.specs.Tasks.{result_in}
use Rattle.device_queue.specs.declared.task.Task.{Task}
use Rattle.run_seizings.specs.Seized.{Either}
use Rattle.run_outcomes.specs.tasks.Laws.{IsUnregistered, own_result}
use Rattle.run_outcomes.specs.tasks.Own.{Begins, IsOthers, IsOwn, Match}

-- by a test
pub of_test : {X : Type 0} (P : X → Type 0) (b : Bool) (x y : X) → (b ≡ true → P x) → (b ≡ false → P y) → P (if b then x else y)
of_test P true x y f g = f refl
of_test P false x y f g = g refl

pub itself : (n : ℕ) → (n == n) ≡ true
itself n = grind arith

pub not_both : (b : Bool) → b ≡ true → b ≡ false → ⊥
not_both true h k = false_true (sym k)
not_both false h k = false_true h

pub then_so : (P Q : Type 0) (b : Bool) → b ≡ true → Either b P Q → P
then_so P Q true is h = h
then_so P Q false is h = absurd (false_true is)

pub else_so : (P Q : Type 0) (b : Bool) → b ≡ false → Either b P Q → Q
else_so P Q true is h = absurd (false_true (sym is))
else_so P Q false is h = h

pub so_then : (P Q : Type 0) (b : Bool) → b ≡ true → P → Either b P Q
so_then P Q true is h = h
so_then P Q false is h = absurd (false_true is)

pub so_else : (P Q : Type 0) (b : Bool) → b ≡ false → Q → Either b P Q
so_else P Q true is h = absurd (false_true (sym is))
so_else P Q false is h = h

pub unasked_result : (o : Option SeizeResult) → o ≡ None → IsUnregistered o → ⊥
unasked_result o is h = subst IsUnregistered is h

-- ---- what is kept

-- each entry is changed so, and each match of one with its task
pub match_map : (A B : Seizing → Task → Type 0) (Q : Seizing → Type 0) (c : ℕ) (promises : List Promised) (f : Seizing → Seizing) → ((e : Seizing) → IsOthers c promises e → IsOthers c promises (f e))
    → ((e : Seizing) (t : Task) → Q e → A e t → B (f e) t) → (es : List Seizing) (ts : List Task) → AllByRecursion Q es → Match A c promises es ts → Match B c promises (map f es) ts
match_map A B Q c promises f others own [] ts all h = h
match_map A B Q c promises f others own (e ∷ es) ts all (inl h) = inl (others e h.0, match_map A B Q c promises f others own es ts all.1 h.1)
match_map A B Q c promises f others own (e ∷ es) (t ∷ ts) all (inr h) = inr (own e t all.0 h.0, match_map A B Q c promises f others own es ts all.1 h.1)
match_map A B Q c promises f others own (e ∷ es) [] all (inr h) = absurd h

pub match_weaker : (A B : Seizing → Task → Type 0) (Q : Seizing → Type 0) (c : ℕ) (promises : List Promised) → ((e : Seizing) (t : Task) → Q e → A e t → B e t)
    → (es : List Seizing) (ts : List Task) → AllByRecursion Q es → Match A c promises es ts → Match B c promises es ts
match_weaker A B Q c promises own [] ts all h = h
match_weaker A B Q c promises own (e ∷ es) ts all (inl h) = inl (h.0, match_weaker A B Q c promises own es ts all.1 h.1)
match_weaker A B Q c promises own (e ∷ es) (t ∷ ts) all (inr h) = inr (own e t all.0 h.0, match_weaker A B Q c promises own es ts all.1 h.1)
match_weaker A B Q c promises own (e ∷ es) [] all (inr h) = absurd h

pub match_append : (A : Seizing → Task → Type 0) (c : ℕ) (promises : List Promised) (es more : List Seizing) (ts us : List Task) → Match A c promises es ts → Match A c promises more us
    → Match A c promises (es ++ more) (ts ++ us)
match_append A c promises [] more ts us h k = subst (λ (z : List Task). Match A c promises more (z ++ us)) (sym h) k
match_append A c promises (e ∷ es) more ts us (inl h) k = inl (h.0, match_append A c promises es more ts us h.1 k)
match_append A c promises (e ∷ es) more (t ∷ ts) us (inr h) k = inr (h.0, match_append A c promises es more ts us h.1 k)
match_append A c promises (e ∷ es) more [] us (inr h) k = absurd h

-- ---- an entry, and its task

-- the first task of a device is that of its entry
pub record HasTask (A : Seizing → Task → Type 0) (d : ℕ) (e : Seizing) (ts : List Task) : Type 0 where
  pub task : Task
  pub found : find (λ (t : Task). t.device == d) ts ≡ Some task
  pub so : A e task

pub task_of : (A : Seizing → Task → Type 0) (c d : ℕ) (promises : List Promised) → ((e : Seizing) (t : Task) → A e t → t.device ≡ e.attached.device)
    → (es : List Seizing) (ts : List Task) (e : Seizing) → Match A c promises es ts → entry_of es d ≡ Some e → IsOthers c promises e ⊎ HasTask A d e ts
task_of A c d promises device [] ts e h is = absurd (none_some e is)
task_of A c d promises device (x ∷ es) ts e h is = by_test (λ us k. task_of A c d promises device es us e k) (x.attached.device == d) refl h is
  where
    here : (us : List Task) → (x.attached.device == d) ≡ true → x ≡ e → (IsOthers c promises x × Match A c promises es us) ⊎ Begins us (λ t vs. A x t × Match A c promises es vs)
        → IsOthers c promises e ⊎ HasTask A d e us
    here us at same (inl k) = inl (subst (IsOthers c promises) same k.0)
    here (t ∷ us) at same (inr k) = inr (record {
      task = t;
      found = of_test (λ (z : Option Task). z ≡ Some t) (t.device == d) (Some t) (find (λ (u : Task). u.device == d) us) (λ so. refl)
          (λ other. absurd (not_both (x.attached.device == d) at (ap (λ j. j == d) (sym (device x t k.0)) ∙ other)));
      so = subst (λ z. A z t) same k.0;
    })
    here [] at same (inr k) = absurd k

    after_one : (t : Task) (us : List Task) → (t.device == d) ≡ false → IsOthers c promises e ⊎ HasTask A d e us → IsOthers c promises e ⊎ HasTask A d e (t ∷ us)
    after_one t us other (inl k) = inl k
    after_one t us other (inr k) = inr (record {
      task = k.task;
      found = of_test (λ (z : Option Task). z ≡ Some k.task) (t.device == d) (Some t) (find (λ (u : Task). u.device == d) us) (λ so. absurd (not_both (t.device == d) so other)) (λ none. k.found);
      so = k.so;
    })

    later : ((us : List Task) → Match A c promises es us → entry_of es d ≡ Some e → IsOthers c promises e ⊎ HasTask A d e us) → (us : List Task) → (x.attached.device == d) ≡ false → entry_of es d ≡ Some e
        → (IsOthers c promises x × Match A c promises es us) ⊎ Begins us (λ t vs. A x t × Match A c promises es vs) → IsOthers c promises e ⊎ HasTask A d e us
    later rest us other there (inl k) = rest us k.1 there
    later rest (t ∷ us) other there (inr k) = after_one t us (ap (λ j. j == d) (device x t k.0) ∙ other) (rest us k.1 there)
    later rest [] other there (inr k) = absurd k

    by_test : ((us : List Task) → Match A c promises es us → entry_of es d ≡ Some e → IsOthers c promises e ⊎ HasTask A d e us) → (b : Bool) → (x.attached.device == d) ≡ b
        → (IsOthers c promises x × Match A c promises es ts) ⊎ Begins ts (λ t us. A x t × Match A c promises es us)
        → (if b then Some x else entry_of es d) ≡ Some e → IsOthers c promises e ⊎ HasTask A d e ts
    by_test rest true at k there = here ts at (same_some x e there) k
    by_test rest false other k there = later rest ts other there k

-- an entry that is found was asked of the coordinator, or is not to be
pub entry_so : (A : Seizing → Task → Type 0) (c : ℕ) (promises : List Promised) (p : Seizing → Bool) → ((e : Seizing) (t : Task) → A e t → has e.asked c ≡ true)
    → (es : List Seizing) (ts : List Task) (e : Seizing) → Match A c promises es ts → find p es ≡ Some e → (has e.asked c ≡ true) ⊎ IsOthers c promises e
entry_so A c promises p asked [] ts e h is = absurd (none_some e is)
entry_so A c promises p asked (x ∷ es) ts e h is = by_test (λ us k. entry_so A c promises p asked es us e k) (p x) is h
  where
    here : (us : List Task) → (IsOthers c promises x × Match A c promises es us) ⊎ Begins us (λ t vs. A x t × Match A c promises es vs) → (has x.asked c ≡ true) ⊎ IsOthers c promises x
    here us (inl k) = inr k.0
    here (t ∷ us) (inr k) = inl (asked x t k.0)
    here [] (inr k) = absurd k

    later : ((us : List Task) → Match A c promises es us → find p es ≡ Some e → (has e.asked c ≡ true) ⊎ IsOthers c promises e) → (us : List Task) → find p es ≡ Some e
        → (IsOthers c promises x × Match A c promises es us) ⊎ Begins us (λ t vs. A x t × Match A c promises es vs) → (has e.asked c ≡ true) ⊎ IsOthers c promises e
    later rest us there (inl k) = rest us k.1 there
    later rest (t ∷ us) there (inr k) = rest us k.1 there
    later rest [] there (inr k) = absurd k

    by_test : ((us : List Task) → Match A c promises es us → find p es ≡ Some e → (has e.asked c ≡ true) ⊎ IsOthers c promises e) → (b : Bool) → (if b then Some x else find p es) ≡ Some e
        → (IsOthers c promises x × Match A c promises es ts) ⊎ Begins ts (λ t us. A x t × Match A c promises es us) → (has e.asked c ≡ true) ⊎ IsOthers c promises e
    by_test rest true there k = subst (λ z. (has z.asked c ≡ true) ⊎ IsOthers c promises z) (same_some x e there) (here ts k)
    by_test rest false there k = later rest ts there k

-- ---- what is claimed of them

-- the devices of the tasks are those of the entries that the coordinator was asked for
pub devices_of : (c : ℕ) (promises : List Promised) (es : List Seizing) (ts : List Task) → Match (IsOwn c) c promises es ts
    → map (λ (t : Task). t.device) ts ≡ map (λ (e : Seizing). e.attached.device) (filter (λ (e : Seizing). has e.asked c) es)
devices_of c promises [] ts h = ap (λ (us : List Task). map (λ (t : Task). t.device) us) h
devices_of c promises (e ∷ es) ts (inl h) =
    devices_of c promises es ts h.1 ∙ ap (λ b. map (λ (x : Seizing). x.attached.device) (if b then e ∷ filter (λ (x : Seizing). has x.asked c) es else filter (λ (x : Seizing). has x.asked c) es)) (sym h.0.unasked)
devices_of c promises (e ∷ es) (t ∷ ts) (inr h) =
    ap (λ d. d ∷ map (λ (u : Task). u.device) ts) h.0.device ∙ (ap (λ ds. e.attached.device ∷ ds) (devices_of c promises es ts h.1)
    ∙ ap (λ b. map (λ (x : Seizing). x.attached.device) (if b then e ∷ filter (λ (x : Seizing). has x.asked c) es else filter (λ (x : Seizing). has x.asked c) es)) (sym h.0.asked))
devices_of c promises (e ∷ es) [] (inr h) = absurd h

found_result : (c d : ℕ) (e : Seizing) (ts : List Task) (k : HasTask (IsOwn c) d e ts) → own_result d ts ≡ result_in k.task.work
found_result c d e ts k = ap (λ (o : Option Task). option_and_then (λ (t : Task). result_in t.work) o) k.found

asked_itself : (c : ℕ) (o : Option ℕ) → o ≡ Some c → is_asked o c ≡ true
asked_itself c o is = ap (λ z. is_asked z c) is ∙ itself c

asked_is : (c : ℕ) (o : Option ℕ) → is_asked o c ≡ true → o ≡ Some c
asked_is c None h = absurd (false_true h)
asked_is c (Some n) h = ap Some (same_number n c h)

pub last_of : (c : ℕ) (promises : List Promised) (es : List Seizing) (ts : List Task) (d : ℕ) (e : Seizing) → Match (IsOwn c) c promises es ts → entry_of es d ≡ Some e → e.seizer ≡ Some c
    → own_result d ts ≡ e.result
last_of c promises es ts d e h is seizer = by_task (task_of (IsOwn c) c d promises (λ x t k. k.device) es ts e h is)
  where
    by_task : IsOthers c promises e ⊎ HasTask (IsOwn c) d e ts → own_result d ts ≡ e.result
    by_task (inl k) = absurd (not_both (is_asked e.seizer c) (asked_itself c e.seizer seizer) k.seizer)
    by_task (inr k) = found_result c d e ts k ∙ then_so _ _ (is_asked e.seizer c) (asked_itself c e.seizer seizer) k.so.result

pub earlier_of : (c : ℕ) (promises : List Promised) (es : List Seizing) (ts : List Task) (d : ℕ) (e : Seizing) → Match (IsOwn c) c promises es ts → entry_of es d ≡ Some e → has e.asked c ≡ true
    → e.seizer ≢ Some c → IsUnregistered (own_result d ts)
earlier_of c promises es ts d e h is asked other = by_task (task_of (IsOwn c) c d promises (λ x t k. k.device) es ts e h is)
  where
    not_asked : (b : Bool) → is_asked e.seizer c ≡ b → b ≡ false
    not_asked true at = absurd (other (asked_is c e.seizer at))
    not_asked false at = refl

    by_task : IsOthers c promises e ⊎ HasTask (IsOwn c) d e ts → IsUnregistered (own_result d ts)
    by_task (inl k) = absurd (not_both (has e.asked c) asked k.unasked)
    by_task (inr k) = subst IsUnregistered (sym (found_result c d e ts k)) (else_so _ _ (is_asked e.seizer c) (not_asked (is_asked e.seizer c) refl) k.so.result)
