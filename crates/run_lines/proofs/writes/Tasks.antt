-- The joinings among the tasks of a node: one is put at the end, and the first task that is queued takes an answer.
use Rattle.std.specs.Prelude.{ℕ, ◌≡◌, ◌==◌, ◌&&◌, ◌||◌, ◌++◌, not, Bool, true, false, List, [], ◌∷◌, Option, None, Some, find, if◌then◌else◌}
use Rattle.std.specs.Option.{option_or}
use Rattle.std.proofs.Common.{refl, sym, ap, subst, ◌∙◌, arith}
use Rattle.std.proofs.lemmas.List.Folds.{find-append}
use Rattle.attempt_laws.proofs.Walk.{if_with}
use Rattle.cl_base.specs.Sets.{has}
use Rattle.cmm_attempt.proofs.Basics.{and_cases, false_true, if_either, none_some, same_number, same_some}
use Rattle.device_queue.proofs.Kept.{same_join}
use Rattle.device_queue.proofs.Steps.{none_stays, put_other, put_stays}
use Rattle.device_queue.specs.Queue.{after_answer, after_join, after_seize, join_of, joins, put_unless, seizure_of}
use Rattle.device_queue.specs.Tasks.{answered, is_join_of, is_joining, is_queued, work_answered}
use Rattle.device_queue.specs.declared.task.Task.{Task}
use Rattle.device_queue.specs.declared.task.Work.{Work}
use Rattle.device_queue.specs.declared.task.Work.TheVariants.{Joining, Seizing}
use Rattle.node_model.specs.Attempts.{is_to_join, joining_from, joining_with}
use Rattle.node_model.specs.Clusters.{has_path}
use Rattle.node_model.specs.declared.cluster.Cluster.{Cluster}
use Rattle.refinement.specs.Facts.{has_join}
use Rattle.seize.specs.Answers.{Answer}
use Rattle.seize.specs.Joining as joining
use Rattle.seize.specs.Seizing.{SeizeState}
use Rattle.wire.specs.declared.lists.Reading.{Reading}
use Rattle.run_lines.specs.writes.Covers.{has_reading}
use Rattle.run_lines.specs.writes.Joins.{AllLone, Lone}

-- ---- at most one of a kind

pub found_here : (p : Task → Bool) (t : Task) (ts : List Task) → p t ≡ true → find p (t ∷ ts) ≡ Some t
found_here p t ts is = ap (λ b. if b then Some t else find p ts) is

pub found_later : (p : Task → Bool) (t : Task) (ts : List Task) → p t ≡ false → find p (t ∷ ts) ≡ find p ts
found_later p t ts is = ap (λ b. if b then Some t else find p ts) is

none_put : (p : Task → Bool) (x : Task) (ts : List Task) → find p ts ≡ None → p x ≡ false → find p (ts ++ x ∷ []) ≡ None
none_put p x ts none other = put_other p None x ts other ∙ none

pub lone_put : (p : Task → Bool) (o : Option Task) (x : Task) (ts : List Task) → Lone p ts → (p x ≡ true → find p ts ≡ o) → Lone p (put_unless o x ts)
lone_put p (Some u) x ts lone first = lone
lone_put p None x [] lone first = ((λ own. refl), tt)
lone_put p None x (t ∷ ts) lone first =
    ((λ own. by_new (p x) refl own), lone_put p None x ts lone.1 (λ own. later (p t) refl (first own)))
  where
    later : (b : Bool) → p t ≡ b → find p (t ∷ ts) ≡ None → find p ts ≡ None
    later true is none = absurd (none_some t (sym none ∙ found_here p t ts is))
    later false is none = sym (found_later p t ts is) ∙ none

    by_new : (b : Bool) → p x ≡ b → p t ≡ true → find p (ts ++ x ∷ []) ≡ None
    by_new true is own = absurd (none_some t (sym (first is) ∙ found_here p t ts own))
    by_new false is own = none_put p x ts (lone.0 own) is

pub lone_answered : (p : Task → Bool) (a : Answer) → ((t : Task) → p (answered a t) ≡ p t) → (ts : List Task) → Lone p ts → Lone p (after_answer ts a)
lone_answered p a same [] lone = tt
lone_answered p a same (t ∷ ts) lone =
    if_either (Lone p) (is_queued t) (answered a t ∷ ts) (t ∷ after_answer ts a) ((λ own. lone.0 (sym (same t) ∙ own)), lone.1)
    ((λ own. none_stays p a same ts (lone.0 own)), lone_answered p a same ts lone.1)

pub lone_none : AllLone []
lone_none d = tt

pub lone_taken : (a : Answer) (ts : List Task) → AllLone ts → AllLone (after_answer ts a)
lone_taken a ts lone d = lone_answered (is_join_of d) a (same_join d a) ts (lone d)

and_false : (b : Bool) → (b && false) ≡ false
and_false true = refl
and_false false = refl

pub lone_seize : (ts : List Task) (e : ℕ) (s : SeizeState) → AllLone ts → AllLone (after_seize ts e s)
lone_seize ts e s lone d =
    lone_put (is_join_of d) (seizure_of ts e) (record { device = e; work = Seizing s }) ts (lone d) (λ own. absurd (false_true (sym (and_false (e == d)) ∙ own)))

lone_join : (ts : List Task) (e : ℕ) (j : joining.JoinState) → AllLone ts → AllLone (after_join ts e j)
lone_join ts e j lone d =
    lone_put (is_join_of d) (join_of ts e) (record { device = e; work = Joining j }) ts (lone d) (λ own. ap (join_of ts) (sym (same_number e d (and_cases (e == d) true own).0)))

-- a seizing is no joining
pub join_seize : (ts : List Task) (e : ℕ) (s : SeizeState) (d : ℕ) → join_of (after_seize ts e s) d ≡ join_of ts d
join_seize ts e s d = put_other (is_join_of d) (seizure_of ts e) (record { device = e; work = Seizing s }) ts (and_false (e == d))

-- ---- the first that is queued

-- it is the joining of its device
pub first_join : (d : ℕ) (ts : List Task) (t : Task) → find is_queued ts ≡ Some t → is_join_of d t ≡ true → Lone (is_join_of d) ts → join_of ts d ≡ Some t
first_join d [] t first own lone = absurd (none_some t first)
first_join d (u ∷ us) t first own lone = by_test (is_queued u) refl (λ f. first_join d us t f own lone.1)
  where
    by_kind : (b : Bool) → is_join_of d u ≡ b → join_of us d ≡ Some t → join_of (u ∷ us) d ≡ Some t
    by_kind true is rest = absurd (none_some t (sym (lone.0 is) ∙ rest))
    by_kind false is rest = found_later (is_join_of d) u us is ∙ rest

    by_test : (b : Bool) → is_queued u ≡ b → (find is_queued us ≡ Some t → join_of us d ≡ Some t) → join_of (u ∷ us) d ≡ Some t
    by_test true is rest =
        let same : u ≡ t = same_some u t (sym (found_here is_queued u us is) ∙ first) in
        found_here (is_join_of d) u us (subst (λ z. is_join_of d z ≡ true) (sym same) own) ∙ ap Some same
    by_test false is rest = by_kind (is_join_of d u) refl (rest (sym (found_later is_queued u us is) ∙ first))

pub first_taken : (d : ℕ) (a : Answer) (ts : List Task) (t : Task) → find is_queued ts ≡ Some t → is_join_of d t ≡ true → Lone (is_join_of d) ts → join_of (after_answer ts a) d ≡ Some (answered a t)
first_taken d a [] t first own lone = absurd (none_some t first)
first_taken d a (u ∷ us) t first own lone = by_test (is_queued u) refl (λ f. first_taken d a us t f own lone.1) (λ f. first_join d us t f own lone.1)
  where
    after : Bool → List Task
    after b = if b then answered a u ∷ us else u ∷ after_answer us a

    by_kind : (b : Bool) → is_join_of d u ≡ b → join_of us d ≡ Some t → join_of (after_answer us a) d ≡ Some (answered a t) → join_of (u ∷ after_answer us a) d ≡ Some (answered a t)
    by_kind true is here rest = absurd (none_some t (sym (lone.0 is) ∙ here))
    by_kind false is here rest = found_later (is_join_of d) u (after_answer us a) is ∙ rest

    by_test : (b : Bool) → is_queued u ≡ b → (find is_queued us ≡ Some t → join_of (after_answer us a) d ≡ Some (answered a t)) → (find is_queued us ≡ Some t → join_of us d ≡ Some t)
        → join_of (after_answer (u ∷ us) a) d ≡ Some (answered a t)
    by_test true is rest here =
        let same : u ≡ t = same_some u t (sym (found_here is_queued u us is) ∙ first) in
        ap (λ ts. join_of ts d) (ap after is)
        ∙ (found_here (is_join_of d) (answered a u) us (same_join d a u ∙ subst (λ z. is_join_of d z ≡ true) (sym same) own) ∙ ap (λ z. Some (answered a z)) same)
    by_test false is rest here =
        let f : find is_queued us ≡ Some t = sym (found_later is_queued u us is) ∙ first in
        ap (λ ts. join_of ts d) (ap after is) ∙ by_kind (is_join_of d u) refl (here f) (rest f)

-- the others stay
pub others_stay : (d : ℕ) (a : Answer) (ts : List Task) (t : Task) → find is_queued ts ≡ Some t → is_join_of d t ≡ false → join_of (after_answer ts a) d ≡ join_of ts d
others_stay d a [] t first other = refl
others_stay d a (u ∷ us) t first other = by_test (is_queued u) refl (λ f. others_stay d a us t f other)
  where
    after : Bool → List Task
    after b = if b then answered a u ∷ us else u ∷ after_answer us a

    by_test : (b : Bool) → is_queued u ≡ b → (find is_queued us ≡ Some t → join_of (after_answer us a) d ≡ join_of us d) → join_of (after_answer (u ∷ us) a) d ≡ join_of (u ∷ us) d
    by_test true is rest =
        let same : u ≡ t = same_some u t (sym (found_here is_queued u us is) ∙ first) in
        let never : is_join_of d u ≡ false = subst (λ z. is_join_of d z ≡ false) (sym same) other in
        ap (λ ts. join_of ts d) (ap after is) ∙ (found_later (is_join_of d) (answered a u) us (same_join d a u ∙ never) ∙ sym (found_later (is_join_of d) u us never))
    by_test false is rest =
        ap (λ ts. join_of ts d) (ap after is) ∙ ap (λ o. if is_join_of d u then Some u else o) (rest (sym (found_later is_queued u us is) ∙ first))

-- ---- joinings that are queued

joins_put : (o : Option Task) (x : Task) (ts : List Task) → is_joining x.work ≡ false → joins (put_unless o x ts) ≡ joins ts
joins_put (Some u) x ts other = refl
joins_put None x [] other = ap (λ b. (b && is_queued x) || false) other
joins_put None x (t ∷ ts) other = ap (λ b. (is_joining t.work && is_queued t) || b) (joins_put None x ts other)

pub joins_seize : (ts : List Task) (e : ℕ) (s : SeizeState) → joins (after_seize ts e s) ≡ joins ts
joins_seize ts e s = joins_put (seizure_of ts e) (record { device = e; work = Seizing s }) ts refl

or_parts : (a b : Bool) → (a || b) ≡ false → (a ≡ false) × (b ≡ false)
or_parts true b h = absurd (false_true (sym h))
or_parts false b h = (refl, h)

both_false : (a b : Bool) → a ≡ false → b ≡ false → (a || b) ≡ false
both_false false b h k = k
both_false true b h k = absurd (false_true (sym h))

no_joining : (a : Answer) (w : Work) → is_joining w ≡ false → is_joining (work_answered a w) ≡ false
no_joining a (Seizing s) h = refl
no_joining a (Joining j) h = absurd (false_true (sym h))

queued_none : (a b : Bool) → (a && b) ≡ false → b ≡ true → a ≡ false
queued_none true true h q = absurd (false_true (sym h))
queued_none false b h q = refl
queued_none true false h q = absurd (false_true q)

pub joins_taken : (a : Answer) (ts : List Task) → joins ts ≡ false → joins (after_answer ts a) ≡ false
joins_taken a [] none = refl
joins_taken a (t ∷ ts) none =
    let two : ((is_joining t.work && is_queued t) ≡ false) × (joins ts ≡ false) = or_parts (is_joining t.work && is_queued t) (joins ts) none in
    if_with (λ zs. joins zs ≡ false) (is_queued t) (is_queued t) (answered a t ∷ ts) (t ∷ after_answer ts a) refl
    (λ is. both_false (is_joining (work_answered a t.work) && is_queued (answered a t)) (joins ts)
    (ap (λ b. b && is_queued (answered a t)) (no_joining a t.work (queued_none (is_joining t.work) (is_queued t) two.0 is))) two.1)
    (λ is. both_false (is_joining t.work && is_queued t) (joins (after_answer ts a)) two.0 (joins_taken a ts two.1))

-- where none is queued, that of a device is over
pub join_over : (d : ℕ) (ts : List Task) (t : Task) → joins ts ≡ false → join_of ts d ≡ Some t → (is_queued t ≡ false) × (is_joining t.work ≡ true)
join_over d [] t none found = absurd (none_some t found)
join_over d (u ∷ us) t none found = by_test (is_join_of d u) refl (λ n f. join_over d us t n f)
  where
    two : ((is_joining u.work && is_queued u) ≡ false) × (joins us ≡ false)
    two = or_parts (is_joining u.work && is_queued u) (joins us) none

    over : (a b : Bool) → (a && b) ≡ false → a ≡ true → b ≡ false
    over true b h q = h
    over false b h q = absurd (false_true q)

    by_test : (b : Bool) → is_join_of d u ≡ b → (joins us ≡ false → join_of us d ≡ Some t → (is_queued t ≡ false) × (is_joining t.work ≡ true)) → (is_queued t ≡ false) × (is_joining t.work ≡ true)
    by_test true is more =
        let same : u ≡ t = same_some u t (sym (found_here (is_join_of d) u us is) ∙ found) in
        let own : is_joining u.work ≡ true = (and_cases (u.device == d) (is_joining u.work) is).1 in
        subst (λ z. (is_queued z ≡ false) × (is_joining z.work ≡ true)) same (over (is_joining u.work) (is_queued u) two.0 own, own)
    by_test false is more = more two.1 (sym (found_later (is_join_of d) u us is) ∙ found)

-- ---- joinings that begin

-- without a joining at all there is none of a device
pub none_of : (d : ℕ) (ts : List Task) → has_join ts ≡ false → join_of ts d ≡ None
none_of d [] none = refl
none_of d (t ∷ ts) none =
    let two : (is_joining t.work ≡ false) × (has_join ts ≡ false) = or_parts (is_joining t.work) (has_join ts) none in
    found_later (is_join_of d) t ts (ap (λ b. (t.device == d) && b) two.0 ∙ and_false (t.device == d)) ∙ none_of d ts two.1

pub lone_from : (c : Cluster) (me e had : ℕ) (ts : List Task) (rs : List Reading) → AllLone ts → AllLone (joining_from c me e had ts rs)
lone_from c me e had ts [] lone = lone
lone_from c me e had ts (r ∷ rs) lone =
    lone_from c me e had (joining_with c me e had ts r) rs
    (if_either AllLone (is_to_join c me had r) (after_join ts r.device (joining.begun e me c.id)) ts (lone_join ts r.device (joining.begun e me c.id) lone) lone)

-- the joining of a device that is to be joined
abbrev pub new_join : Cluster → ℕ → ℕ → ℕ → Task
new_join c me e d = record { device = d; work = Joining (joining.begun e me c.id) }

-- what is there stays
stays_from : (c : Cluster) (me e had d : ℕ) (t : Task) (ts : List Task) (rs : List Reading) → join_of ts d ≡ Some t → join_of (joining_from c me e had ts rs) d ≡ Some t
stays_from c me e had d t ts [] is = is
stays_from c me e had d t ts (r ∷ rs) is =
    stays_from c me e had d t (joining_with c me e had ts r) rs
    (if_either (λ zs. join_of zs d ≡ Some t) (is_to_join c me had r) (after_join ts r.device (joining.begun e me c.id)) ts
    (put_stays (is_join_of d) (join_of ts r.device) (new_join c me e r.device) t ts is) is)

is_same : (a : ℕ) → (a == a) ≡ true
is_same a = grind arith

-- put where there was none
put_here : (c : Cluster) (me e d : ℕ) (ts : List Task) → join_of ts d ≡ None → join_of (after_join ts d (joining.begun e me c.id)) d ≡ Some (new_join c me e d)
put_here c me e d ts none =
    ap (λ o. join_of (put_unless o (new_join c me e d) ts) d) none
    ∙ (find-append (is_join_of d) ts (new_join c me e d ∷ []) ∙ (ap (λ o. option_or o (join_of (new_join c me e d ∷ []) d)) none ∙ found_here (is_join_of d) (new_join c me e d) [] (ap (λ b. b && true) (is_same d))))

-- of a device to which the node has a path, that is not joined, and that is read
pub begins_from : (c : Cluster) (me e had d : ℕ) (ts : List Task) (rs : List Reading) → has_path c.attached me d ≡ true → has had d ≡ false → has_reading d rs ≡ true → join_of ts d ≡ None
    → join_of (joining_from c me e had ts rs) d ≡ Some (new_join c me e d)
begins_from c me e had d ts [] path out read none = absurd (false_true read)
begins_from c me e had d ts (r ∷ rs) path out read none = by_test (r.device == d) refl (λ zs now empty. begins_from c me e had d zs rs path out now empty)
  where
    with_this : Bool → List Task
    with_this b = if b then after_join ts r.device (joining.begun e me c.id) else ts

    to_join : r.device ≡ d → is_to_join c me had r ≡ true
    to_join is =
        ap (λ z. has_path c.attached me z && not (has had z)) is ∙ (ap (λ b. b && not (has had d)) path ∙ ap not out)

    by_kind : (b : Bool) → is_to_join c me had r ≡ b → (r.device == d) ≡ false → join_of (with_this b) d ≡ None
    by_kind true is other = put_other (is_join_of d) (join_of ts r.device) (new_join c me e r.device) ts (ap (λ b. b && true) other) ∙ none
    by_kind false is other = none

    by_test : (b : Bool) → (r.device == d) ≡ b → ((zs : List Task) → has_reading d rs ≡ true → join_of zs d ≡ None → join_of (joining_from c me e had zs rs) d ≡ Some (new_join c me e d))
        → join_of (joining_from c me e had (with_this (is_to_join c me had r)) rs) d ≡ Some (new_join c me e d)
    by_test true at more =
        let is : r.device ≡ d = same_number r.device d at in
        ap (λ b. join_of (joining_from c me e had (with_this b) rs) d) (to_join is)
        ∙ stays_from c me e had d (new_join c me e d) (after_join ts r.device (joining.begun e me c.id)) rs
        (ap (λ z. join_of (after_join ts z (joining.begun e me c.id)) d) is ∙ put_here c me e d ts none)
    by_test false at more =
        more (with_this (is_to_join c me had r)) (sym (ap (λ b. b || has_reading d rs) at) ∙ read)
        (by_kind (is_to_join c me had r) refl at)

-- none begins at a device that is joined, or is not read
pub none_from : (c : Cluster) (me e had d : ℕ) (ts : List Task) (rs : List Reading) → (has had d ≡ false → has_reading d rs ≡ false) → join_of ts d ≡ None → join_of (joining_from c me e had ts rs) d ≡ None
none_from c me e had d ts [] out none = none
none_from c me e had d ts (r ∷ rs) out none =
    none_from c me e had d (joining_with c me e had ts r) rs (λ is. (or_parts (r.device == d) (has_reading d rs) (out is)).1)
    (if_with (λ zs. join_of zs d ≡ None) (is_to_join c me had r) (is_to_join c me had r) (after_join ts r.device (joining.begun e me c.id)) ts refl
    (λ is. put_other (is_join_of d) (join_of ts r.device) (new_join c me e r.device) ts (ap (λ b. b && true) (other (r.device == d) refl is)) ∙ none)
    (λ is. none))
  where
    not_had : (a b : Bool) → (a && not b) ≡ true → b ≡ false
    not_had true true h = absurd (false_true h)
    not_had true false h = refl
    not_had false b h = absurd (false_true h)

    other : (b : Bool) → (r.device == d) ≡ b → is_to_join c me had r ≡ true → (r.device == d) ≡ false
    other true at is =
        let not_in : has had d ≡ false = subst (λ z. has had z ≡ false) (same_number r.device d at) (not_had (has_path c.attached me r.device) (has had r.device) is) in
        absurd (false_true (sym (or_parts (r.device == d) (has_reading d rs) (out not_in)).0 ∙ at))
    other false at is = at
