-- The laws of orders and outcomes.
use Rattle.std.proofs.Common.{◌≡◌, ℕ, ◌-◌, ◌==◌, Bool, true, false, cond, List, [], ◌∷◌, Option, None, Some, length, drop, nat_eq, arith, refl, sym, ap, subst, ◌∙◌, eq-eqb}
use Rattle.std.specs.Map.{lookup}
use Rattle.std.specs.Option.{unwrap_or}
use Rattle.std.specs.Str.{bytes_eq}
use Rattle.std.specs.Cmp.Lexicographic.{same_text}
use Rattle.std.proofs.lemmas.Bool.{eqb-true}
use Rattle.std.proofs.lemmas.List.{length-append, length-drop}
use Rattle.indexmap.specs.IndexMap.{insert_entry}
use Rattle.cl_base.proofs.NameLemmas.{texts_pass}
use Rattle.cl_base.specs.declared.method.Method.{Method}
use Rattle.cl_base.specs.declared.method.Method.TheVariants as methods
use Rattle.cl_base.specs.declared.method.Outcome.{Outcome}
use Rattle.cl_base.specs.declared.method.Outcome.TheVariants.{Success}
use Rattle.wire.specs.declared.message.Order.{Order}
use Rattle.wire.specs.declared.report.Marks.{Marks}
use Rattle.ccr_tables.specs.State.{ConfigState}
use Rattle.rg_props.specs.Words.{name_in}
use Rattle.rgm_member.specs.declared.carried.Carried.TheVariants.{Called, Kept, Old}
use Rattle.rgm_member.specs.declared.due.Due.{Due}
use Rattle.rgm_member.specs.Dues.{due_by_kept, due_call, due_of}
use Rattle.rgm_member.specs.Laws.{CallOnce, DueIsCalled, DueOnce, OthersStay, OutcomesStay, RestartsAreFew, SuccessAlone}
use Rattle.rgm_member.specs.Orders.{after_order, answer_by_kept, answer_to, done, kept_outcome, outcome_in, with_outcome}
use Rattle.rgm_member.specs.Outcomes.{after_failure, is_start_failure, is_success, marks_after}
use Rattle.rgm_member.specs.State.{WorkerState, marks_of, no_marks}

-- what is found where something was put
module _ {K V : Type 0} (eq : K → K → Bool) (same : (a b : K) → eq a b ≡ true → a ≡ b) (passes : (a b : K) → a ≡ b → eq a b ≡ true) where
  pub found : (es : List (K × V)) (k q : K) (v : V) → lookup (eq q) (insert_entry eq es k v) ≡ cond (eq k q) (Some v) (lookup (eq q) es)
  found [] k q v = by (eq q k) refl (eq k q) refl
    where
      by : (s : Bool) → eq q k ≡ s → (t : Bool) → eq k q ≡ t → lookup (eq q) ((k, v) ∷ []) ≡ cond (eq k q) (Some v) None
      by true p true r = rw (p, r) refl
      by true p false r = let no = passes k q (sym (same q k p)) in cc (no, r)
      by false p true r = let no = passes q k (sym (same k q r)) in cc (no, p)
      by false p false r = rw (p, r) refl
  found (e ∷ es) k q v = by (eq k e.0) refl (eq q e.0) refl (eq k q) refl (found es k q v)
    where
      by : (s : Bool) → eq k e.0 ≡ s → (t : Bool) → eq q e.0 ≡ t → (u : Bool) → eq k q ≡ u
          → lookup (eq q) (insert_entry eq es k v) ≡ cond (eq k q) (Some v) (lookup (eq q) es)
          → lookup (eq q) (insert_entry eq (e ∷ es) k v) ≡ cond (eq k q) (Some v) (lookup (eq q) (e ∷ es))
      by true p true r true u ih = rw (p, r, u) refl
      by true p true r false u ih = let no = passes k q (same k e.0 p ∙ sym (same q e.0 r)) in cc (no, u)
      by true p false r true u ih = let no = passes q e.0 (sym (same k q u) ∙ same k e.0 p) in cc (no, r)
      by true p false r false u ih = rw (p, r, u) refl
      by false p true r true u ih = let no = passes k e.0 (same k q u ∙ same q e.0 r) in cc (no, p)
      by false p true r false u ih = rw (p, r, u) refl
      by false p false r u is ih = rw (p, r) ih

put_found : {V : Type 0} (es : List (List ℕ × V)) (r other : List ℕ) (v : V) → lookup (bytes_eq other) (insert_entry bytes_eq es r v) ≡ cond (bytes_eq r other) (Some v) (lookup (bytes_eq other) es)
put_found es r other v = found bytes_eq (λ a b h. same_text a b (sym h)) texts_pass es r other v

numbered : (es : List (ℕ × Outcome)) (n m : ℕ) (x : Outcome) → lookup (nat_eq m) (insert_entry nat_eq es n x) ≡ cond (nat_eq n m) (Some x) (lookup (nat_eq m) es)
numbered es n m x = found nat_eq eqb-true eq-eqb es n m x

chosen : (b : Bool) (m : Marks) (o : Option Marks) → unwrap_or (cond b (Some m) o) no_marks ≡ cond b m (unwrap_or o no_marks)
chosen true m o = refl
chosen false m o = refl

pub others_stay : OthersStay
others_stay c r other method outcome resources =
    let m = marks_after c r method outcome (marks_of resources r) in
    ap (λ (o : Option Marks). unwrap_or o no_marks) (put_found resources r other m) ∙ chosen (bytes_eq r other) m (lookup (bytes_eq other) resources)

-- flags
abbrev HaveFlags : Marks → Marks → Type 0
HaveFlags n m = (n.pre ≡ m.pre) × (n.run ≡ m.run) × (n.mon ≡ m.mon)

failed : (charged : Bool) (m : Marks) → let n : Marks = record m { faulted = true } in HaveFlags (cond charged m n) m
failed true m = (refl, refl, refl)
failed false m = (refl, refl, refl)

flags_stay : (charged : Bool) (method : Method) (m : Marks) → HaveFlags (after_failure charged method m) m
flags_stay charged methods.PrenetStart m = failed charged m
flags_stay charged methods.Start m = failed charged m
flags_stay charged methods.MonitorStart m = (refl, refl, refl)
flags_stay charged methods.MonitorCheck m = (refl, refl, refl)
flags_stay charged methods.MonitorStop m = (refl, refl, refl)
flags_stay charged methods.Stop m = (refl, refl, refl)
flags_stay charged methods.PostnetStop m = (refl, refl, refl)
flags_stay charged methods.Validate m = (refl, refl, refl)
flags_stay charged methods.Init m = (refl, refl, refl)
flags_stay charged methods.Fini m = (refl, refl, refl)
flags_stay charged methods.Boot m = (refl, refl, refl)
flags_stay charged methods.Update m = (refl, refl, refl)

other_one : (s : Bool) (a b : Marks) → s ≡ false → b ≡ cond s a b
other_one s a b h = rw h refl

pub success_alone : SuccessAlone
success_alone c r method outcome m h =
    subst (λ n. HaveFlags n m) (other_one (is_success outcome) _ _ h) (flags_stay (is_start_failure c r method outcome) method m)

-- orders
module _ (w : WorkerState) (c : ConfigState) (name : Option (List ℕ)) (outcome : Outcome) (now : ℕ) where
  epoch_stays : (method : Option Method) → (done w c name method outcome now).epoch ≡ w.epoch
  epoch_stays None = refl
  epoch_stays (Some method) = refl

  outcomes_done : (method : Option Method) → (done w c name method outcome now).outcomes ≡ w.outcomes
  outcomes_done None = refl
  outcomes_done (Some method) = refl

-- in the membership
answered : (w : WorkerState) (o : Order) (x : Outcome) → o.epoch ≡ w.epoch → answer_to w o x ≡ answer_by_kept (kept_outcome w o.number) o.method x
answered w o x e = rw (eq-eqb o.epoch w.epoch e) refl

again_kept : (w : WorkerState) (again : Order) (y k : Outcome) → again.epoch ≡ w.epoch → kept_outcome w again.number ≡ Some k → answer_to w again y ≡ Kept k
again_kept w again y k e h = answered w again y e ∙ ap (λ (o : Option Outcome). answer_by_kept o again.method y) h

pub call_once : CallOnce
call_once w c o again now x y member same_epoch same_number =
    subst (λ a. answer_to (after_order w c o now a) again y ≡ Kept (outcome_in a)) (sym (answered w o x member)) (by (kept_outcome w o.number) refl o.method)
  where
    ended : (z : Outcome) → kept_outcome (with_outcome (done w c (name_in o.resource) o.method z now) o.number z) again.number ≡ Some z
    ended z = numbered (done w c (name_in o.resource) o.method z now).outcomes o.number again.number z
        ∙ ap (λ b. cond b (Some z) (lookup (nat_eq again.number) (done w c (name_in o.resource) o.method z now).outcomes)) (eq-eqb o.number again.number (sym same_number))

    at : (z : Outcome) → again.epoch ≡ (done w c (name_in o.resource) o.method z now).epoch
    at z = same_epoch ∙ member ∙ sym (epoch_stays w c (name_in o.resource) z now o.method)

    by : (kept : Option Outcome) → kept_outcome w o.number ≡ kept → (method : Option Method)
        → answer_to (after_order w c o now (answer_by_kept kept method x)) again y ≡ Kept (outcome_in (answer_by_kept kept method x))
    by (Some k) h method = again_kept w again y k (same_epoch ∙ member) (ap (λ (n : ℕ). kept_outcome w n) same_number ∙ h)
    by None h None = again_kept (with_outcome (done w c (name_in o.resource) o.method Success now) o.number Success) again y Success (at Success) (ended Success)
    by None h (Some method) = again_kept (with_outcome (done w c (name_in o.resource) o.method x now) o.number x) again y x (at x) (ended x)

pub due_is_called : DueIsCalled
due_is_called w c o now outcome due is = by (o.epoch == w.epoch) (kept_outcome w o.number) o.method (name_in o.resource) is
  where
    by : (b : Bool) (kept : Option Outcome) (method : Option Method) (name : Option (List ℕ))
        → cond b (due_by_kept kept (due_call w.me c method name now)) None ≡ Some due → cond b (answer_by_kept kept method outcome) Old ≡ Called outcome
    by false kept method name h = cc h
    by true (Some k) method name h = cc h
    by true None None name h = cc h
    by true None (Some method) None h = cc h
    by true None (Some method) (Some r) h = refl

pub due_once : DueOnce
due_once w c later o again now second x member same_epoch same_number = by (due_of after later again second) refl
  where
    after : WorkerState
    after = after_order w c o now (answer_to w o x)

    by : (due : Option Due) → due_of after later again second ≡ due → due ≡ None
    by None is = refl
    by (Some due) is =
        let called = due_is_called after later again second x due is in
        let kept = call_once w c o again now x x member same_epoch same_number in
        cc (called, kept)

pub outcomes_stay : OutcomesStay
outcomes_stay w c o now number x kept is = of (o.epoch == w.epoch) (kept_outcome w o.number) refl o.method
  where
    put_in : (z : Outcome) → kept_outcome w o.number ≡ None → (b : Bool) → nat_eq o.number number ≡ b
        → cond b (Some z) (lookup (nat_eq number) (done w c (name_in o.resource) o.method z now).outcomes) ≡ Some kept
    put_in z none true same = let e = ap (λ (n : ℕ). kept_outcome w n) (eqb-true o.number number same) in cc (none, e, is)
    put_in z none false other = ap (λ (es : List (ℕ × Outcome)). lookup (nat_eq number) es) (outcomes_done w c (name_in o.resource) z now o.method) ∙ is

    ended : (z : Outcome) → kept_outcome w o.number ≡ None
        → kept_outcome (with_outcome (done w c (name_in o.resource) o.method z now) o.number z) number ≡ Some kept
    ended z none = numbered (done w c (name_in o.resource) o.method z now).outcomes o.number number z ∙ put_in z none (nat_eq o.number number) refl

    of : (b : Bool) (found : Option Outcome) → kept_outcome w o.number ≡ found → (method : Option Method)
        → kept_outcome (after_order w c o now (cond b (answer_by_kept found method x) Old)) number ≡ Some kept
    of false found h method = is
    of true (Some k) h method = is
    of true None h None = ended Success h
    of true None h (Some method) = ended x h

pub restarts_are_few : RestartsAreFew
restarts_are_few restarts now =
    let a = length-append (drop (length restarts - 999) restarts) (now ∷ []) in
    let d = length-drop (length restarts - 999) restarts in
    omega arith
