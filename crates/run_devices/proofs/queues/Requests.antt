-- A request to seize comes: what is told of it, and what the node does.
use Rattle.std.specs.Prelude.{ℕ, ◌≡◌, ◌≢◌, ◌<◌, ◌==◌, ◌&&◌, ◌||◌, ◌⊎◌, nat_le, not, Bool, true, false, List, ◌∷◌, Option, None, Some, option_map}
use Rattle.std.proofs.Common.{refl, sym, ap, subst, ◌∙◌, inl, inr, arith}
use Rattle.cl_base.specs.Sets.{has}
use Rattle.cmm_attempt.proofs.Basics.{and_cases, same_number}
use Rattle.device_queue.specs.Queue.{after_seize}
use Rattle.device_queue.specs.declared.task.Work.TheVariants.{Seizing}
use Rattle.machine_base.proofs.Puts.{same_or_not}
use Rattle.seize.specs.Seizing as seizing
use Rattle.seize.specs.Seizing.{SeizeState}
use Rattle.seize.specs.declared.kind.SeizeKind.{SeizeKind}
use Rattle.seize.specs.declared.kind.SeizeKind.TheVariants.{Plain, Vote}
use Rattle.seize.specs.declared.step.SeizeStep.TheVariants as step
use Rattle.history.specs.Letters.{Letter, letter_of, says}
use Rattle.history.specs.Member as member
use Rattle.history.specs.Member.{members_of, number_of}
use Rattle.history.specs.Moment.{Moment}
use Rattle.history.specs.Names as name
use Rattle.history.specs.Names.{Name}
use Rattle.history.specs.Queue as told
use Rattle.history.specs.Queue.{requested, requested_in, seizing_for, with_task}
use Rattle.history.specs.Seizing.{acts_for, is_number}
use Rattle.run_devices.specs.queues.Views.{View}
use Rattle.history.specs.Trace.{delivered}
use Rattle.node_model.specs.Members.{is_foreign_seizing}
use Rattle.node_model.specs.Seats.{installed_of, is_in, record_of, session_of}
use Rattle.node_model.specs.declared.cluster.Cluster.{Cluster}
use Rattle.node_model.specs.declared.node.UpNode.{UpNode}
use Rattle.run_history.specs.Guards.{request_as}
use Rattle.run_seizings.proofs.Progress.{if_not, if_so, no_truth, same_is}
use Rattle.run_seizings.proofs.Promising.{and_both, same_so}
use Rattle.run_seizings.specs.Seized.{has_installed}
use Rattle.run_seizings.specs.Sites as seizings
use Rattle.world_model.specs.First.{first_cluster}
use Rattle.run_devices.specs.queues.Kept.{Pending, Tells, UpSo}
use Rattle.run_devices.specs.queues.Laws.{Same, SameWork}
use Rattle.run_devices.specs.queues.Told.{acts_in, is_plain, is_spelled, leads}
use Rattle.run_devices.specs.queues.Views.{brought, sought, told_after, told_tasks, trusts}
use Rattle.run_devices.proofs.queues.Changes.{tells_by}
use Rattle.run_devices.proofs.queues.Options.{Kept, Mapped, Passed, kept, mapped, passed}
use Rattle.run_devices.proofs.queues.Tasks.{same_begun}

-- ---- what the node is to begin by it

-- it does, where the request is not foreign, of its session, and that is not installed
abbrev pub pending_by : Bool → Bool → Bool → ℕ → SeizeState → Pending
pending_by false true false d s = Some (d, s)
pending_by foreign inside over d s = None

abbrev pub state_for : Cluster → ℕ → UpNode → SeizeKind → ℕ → ℕ → ℕ → SeizeState
state_for c n x kind e members d = seizing.begun kind e members n c.id (has (record_of x).valid d)

abbrev pub pending_of : Cluster → ℕ → UpNode → SeizeKind → ℕ → ℕ → ℕ → Pending
pending_of c n x kind e members d = pending_by (is_foreign_seizing c n members d) (is_in x e) (installed_of x == e) d (state_for c n x kind e members d)

-- ---- what its letter says

abbrev pub name_for : SeizeKind → ℕ → Name
name_for Vote d = name.SeizeQuorum d
name_for Plain d = name.SeizeData d

-- it is this request, in the letter of its packet
pub record Comes (S : View) (ms : List Moment) (n p : ℕ) (kind : SeizeKind) (e members d : ℕ) : Type 0 where
  pub letter : Letter
  pub here : letter_of p ms ≡ Some letter
  pub called : letter.name ≡ name_for kind d
  pub reads : says letter.bytes ≡ Some (request_as kind e members d)
  pub of : members_of e ms ≡ members

-- what follows where it is told
record Asked (S : View) (ms : List Moment) (n e members d : ℕ) (kind : SeizeKind) (l : Letter) (o : Option (List told.Task)) (us : List told.Task) : Type 0 where
  old : List told.Task
  found : o ≡ Some old
  gives : requested S.setting n (Some l) ms old ≡ us
  number : number_of l ≡ Some e
  native : is_foreign_seizing (first_cluster S.setting.header) n members d ≡ false
  trusted : kind ≡ Vote → acts_for n e ms ≡ true → trusts S n d ms ≡ true

not_true : (b : Bool) → not b ≡ true → b ≡ false
not_true true is = absurd (no_truth is)
not_true false is = refl

number_so : (e : ℕ) (o : Option ℕ) → is_number e o ≡ true → o ≡ Some e
number_so e None is = absurd (no_truth is)
number_so e (Some f) is = ap Some (same_number f e is)

spelled_as : (S : View) (n : ℕ) (o : Option ℕ) (kind : SeizeKind) (e members d : ℕ) → is_spelled S.setting n o (Some (request_as kind e members d))
    ≡ (is_number e o && not (is_foreign_seizing (first_cluster S.setting.header) n members d))
spelled_as S n o Vote e members d = refl
spelled_as S n o Plain e members d = refl

or_else : (a b c : Bool) → (a || not b) ≡ true → b ≡ true → a ≡ true
or_else true b c is acts = refl
or_else false true c is acts = absurd (no_truth is)
or_else false false c is acts = absurd (no_truth acts)

asked_of : (S : View) (ms : List Moment) (n e members d : ℕ) (kind : SeizeKind) (l : Letter) (o : Option (List told.Task)) (us : List told.Task)
    → says l.bytes ≡ Some (request_as kind e members d) → sought S n l ms (name_for kind d) o ≡ Some us → Asked S ms n e members d kind l o us
asked_of S ms n e members d kind l o us reads is = by_kind kind reads is
  where
    spelled : (k : SeizeKind) → says l.bytes ≡ Some (request_as k e members d) → is_plain S.setting n l ms ≡ true
        → (number_of l ≡ Some e) × (is_foreign_seizing (first_cluster S.setting.header) n members d ≡ false)
    spelled k at plain =
        let two : (is_number e (number_of l) ≡ true) × (not (is_foreign_seizing (first_cluster S.setting.header) n members d) ≡ true) =
        and_cases (is_number e (number_of l)) (not (is_foreign_seizing (first_cluster S.setting.header) n members d))
        (sym (spelled_as S n (number_of l) k e members d) ∙ (ap (is_spelled S.setting n (number_of l)) (sym at) ∙ plain)) in
        (number_so e (number_of l) two.0, not_true (is_foreign_seizing (first_cluster S.setting.header) n members d) two.1)

    by_kind : (k : SeizeKind) → says l.bytes ≡ Some (request_as k e members d) → sought S n l ms (name_for k d) o ≡ Some us → Asked S ms n e members d k l o us
    by_kind Vote at found =
        let p : Passed (is_plain S.setting n l ms && (trusts S n d ms || not (acts_in n (number_of l) ms))) (option_map (requested S.setting n (Some l) ms) o) us = passed _ _ us found in
        let m : Mapped (requested S.setting n (Some l) ms) o us = mapped (requested S.setting n (Some l) ms) o us p.told in
        let two : (is_plain S.setting n l ms ≡ true) × ((trusts S n d ms || not (acts_in n (number_of l) ms)) ≡ true) =
        and_cases (is_plain S.setting n l ms) (trusts S n d ms || not (acts_in n (number_of l) ms)) p.so in
        let so : (number_of l ≡ Some e) × (is_foreign_seizing (first_cluster S.setting.header) n members d ≡ false) = spelled Vote at two.0 in
        record {
          old = m.inside;
          found = m.found;
          gives = m.gives;
          number = so.0;
          native = so.1;
          trusted = λ is acts. or_else (trusts S n d ms) (acts_in n (number_of l) ms) true two.1 (ap (λ z. acts_in n z ms) so.0 ∙ acts);
        }
    by_kind Plain at found =
        let p : Passed (is_plain S.setting n l ms) (option_map (requested S.setting n (Some l) ms) o) us = passed _ _ us found in
        let m : Mapped (requested S.setting n (Some l) ms) o us = mapped (requested S.setting n (Some l) ms) o us p.told in
        let so : (number_of l ≡ Some e) × (is_foreign_seizing (first_cluster S.setting.header) n members d ≡ false) = spelled Plain at p.so in
        record { old = m.inside; found = m.found; gives = m.gives; number = so.0; native = so.1; trusted = λ is acts. absurd (no_vote is) }
      where
        no_vote : Plain ≡ Vote → ⊥
        no_vote e = cc

-- ---- what it makes of the tasks that are told

sought_as : (S : View) (n e : ℕ) (kind : SeizeKind) (d : ℕ) (ms : List Moment) (ts : List told.Task)
    → told.sought S.setting n e (name_for kind d) ms ts ≡ with_task d (seizing_for S.setting n e kind ms) ts
sought_as S n e Vote d ms ts = refl
sought_as S n e Plain d ms ts = refl

requested_so : (S : View) (n e : ℕ) (kind : SeizeKind) (d : ℕ) (ms : List Moment) (l : Letter) (ts : List told.Task) → l.name ≡ name_for kind d → number_of l ≡ Some e
    → acts_for n e ms ≡ true → requested S.setting n (Some l) ms ts ≡ with_task d (seizing_for S.setting n e kind ms) ts
requested_so S n e kind d ms l ts called number acts =
    ap (λ o. requested_in S.setting n o l ms ts) number
    ∙ (if_so (acts_for n e ms) (told.sought S.setting n e l.name ms ts) ts acts ∙ (ap (λ z. told.sought S.setting n e z ms ts) called ∙ sought_as S n e kind d ms ts))

none_requested : (S : View) (n e : ℕ) (ms : List Moment) (l : Letter) (ts : List told.Task) → number_of l ≡ Some e → acts_for n e ms ≡ false → requested S.setting n (Some l) ms ts ≡ ts
none_requested S n e ms l ts number off = ap (λ o. requested_in S.setting n o l ms ts) number ∙ if_not (acts_for n e ms) (told.sought S.setting n e l.name ms ts) ts off

no_check : (v : Bool) → step.Register ≡ step.Check → v ≡ true
no_check v e = cc

-- what is begun is what is told
begun_same : (S : View) (c : Cluster) (n e members d : ℕ) (kind : SeizeKind) (ms : List Moment) (v : Bool) → c.id ≡ S.setting.header.cluster → members_of e ms ≡ members
    → (kind ≡ Vote → v ≡ true) → SameWork (Seizing (seizing.begun kind e members n c.id v)) (seizing_for S.setting n e kind ms)
begun_same S c n e members d kind ms v id of valid = (
  ap (λ m. seizing.begun kind e m n c.id true) (sym of) ∙ ap (λ k. seizing.begun kind e (members_of e ms) n k true) id,
  by_kind kind valid,
)
  where
    by_kind : (k : SeizeKind) → (k ≡ Vote → v ≡ true) → seizing.first_step k ≡ step.Check → v ≡ true
    by_kind Vote f is = f refl
    by_kind Plain f is = no_check v is

-- ---- at a node that is up

and_first : (a b : Bool) → a ≡ false → (a && b) ≡ false
and_first true b off = absurd (no_truth (sym off))
and_first false b off = refl

and_last : (a b : Bool) → b ≡ false → (a && b) ≡ false
and_last true b off = off
and_last false b off = refl

session_acts : (h : _) (ms : List Moment) (n e : ℕ) (x : UpNode) → is_in x e ≡ true → seizings.UpSo h ms n x → (0 < session_of x) × (is_number e (member.session_of n ms) ≡ true)
session_acts h ms n e x inside up =
    let two : (nat_le 1 e ≡ true) × ((session_of x == e) ≡ true) = and_cases (nat_le 1 e) (session_of x == e) inside in
    let same : session_of x ≡ e = same_number (session_of x) e two.1 in
    let some : 0 < session_of x = subst (λ q. 0 < q) (sym same) (above e two.0) in
    (some, ap (is_number e) (up.session some) ∙ two.1)
  where
    above : (k : ℕ) → nat_le 1 k ≡ true → 0 < k
    above k is = grind arith

zero_or : (k : ℕ) → (k ≡ 0) ⊎ (0 < k)
zero_or k = by_same (same_or_not k 0)
  where
    more : (a : ℕ) → a ≢ 0 → 0 < a
    more a ne = omega (arith, ne)

    by_same : (k ≡ 0) ⊎ (k ≢ 0) → (k ≡ 0) ⊎ (0 < k)
    by_same (inl is) = inl is
    by_same (inr ne) = inr (more k ne)

-- outside of its session it acts for nothing
outside_acts : (S : View) (ms : List Moment) (n e : ℕ) (x : UpNode) → is_in x e ≡ false → seizings.UpSo S.setting.header ms n x → UpSo S ms n None x → acts_for n e ms ≡ false
outside_acts S ms n e x outside beside up = and_first (is_number e (member.session_of n ms)) (not (has_installed n e ms)) (by_session (zero_or (session_of x)))
  where
    above : (k e : ℕ) → 0 < k → k ≡ e → nat_le 1 e ≡ true
    above k e l same = grind arith

    by_test : (b : Bool) → (session_of x == e) ≡ b → 0 < session_of x → b ≡ false
    by_test true same some =
        absurd (no_truth (sym outside ∙ and_both (nat_le 1 e) (session_of x == e) (above (session_of x) e some (same_number (session_of x) e same)) same))
    by_test false same some = refl

    by_session : (session_of x ≡ 0) ⊎ (0 < session_of x) → is_number e (member.session_of n ms) ≡ false
    by_session (inl none) = ap (is_number e) (up.none none)
    by_session (inr some) = ap (is_number e) (beside.session some) ∙ by_test (session_of x == e) refl some

-- where it is told, the node has these, with the one that it is to begin
pub asked_tells : (S : View) (c : Cluster) (ms : List Moment) (n p a e members d : ℕ) (kind : SeizeKind) (x : UpNode) → c ≡ first_cluster S.setting.header
    → Comes S ms n p kind e members d → (kind ≡ Vote → is_foreign_seizing (first_cluster S.setting.header) n members d ≡ false → trusts S n d ms ≡ true → session_of x ≡ e → installed_of x ≢ session_of x → has (record_of x).valid d ≡ true) → seizings.UpSo S.setting.header ms n x → UpSo S ms n None x
    → Tells (told_tasks S n (delivered p a n ∷ ms)) (pending_of c n x kind e members d) x
asked_tells S c ms n p a e members d kind x is comes valid beside up =
    tells_by (told_tasks S n (delivered p a n ∷ ms)) (pending_of c n x kind e members d) x (λ us found.
    let k : Kept (leads n (delivered p a n ∷ ms)) (told_after S n (delivered p a n) ms (told_tasks S n ms)) us =
    kept (leads n (delivered p a n ∷ ms)) (told_after S n (delivered p a n) ms (told_tasks S n ms)) us found in
    let at : brought S n (letter_of p ms) ms (told_tasks S n ms) ≡ Some us =
    sym (if_so (n == n) (brought S n (letter_of p ms) ms (told_tasks S n ms)) (told_tasks S n ms) (same_is n)) ∙ k.told in
    let seek : sought S n comes.letter ms comes.letter.name (told_tasks S n ms) ≡ Some us = sym (ap (λ o. brought S n o ms (told_tasks S n ms)) comes.here) ∙ at in
    let asked : Asked S ms n e members d kind comes.letter (told_tasks S n ms) us =
    asked_of S ms n e members d kind comes.letter (told_tasks S n ms) us comes.reads
    (ap (λ z. sought S n comes.letter ms z (told_tasks S n ms)) (sym comes.called) ∙ seek) in
    let old : Tells (Some asked.old) None x = subst (λ o. Tells o None x) asked.found up.tells in
    subst (λ b. Tells (Some us) (pending_by b (is_in x e) (installed_of x == e) d (state_for c n x kind e members d)) x)
    (sym (ap (λ z. is_foreign_seizing z n members d) is ∙ asked.native)) (by_inside us asked old (is_in x e) (installed_of x == e) refl refl))
  where
    s : SeizeState
    s = state_for c n x kind e members d

    unmoved : (us : List told.Task) (asked : Asked S ms n e members d kind comes.letter (told_tasks S n ms) us) → Tells (Some asked.old) None x → acts_for n e ms ≡ false
        → Tells (Some us) None x
    unmoved us asked old off = subst (λ z. Tells (Some z) None x) (sym (none_requested S n e ms comes.letter asked.old asked.number off) ∙ asked.gives) old

    begun : (us : List told.Task) (asked : Asked S ms n e members d kind comes.letter (told_tasks S n ms) us) → Tells (Some asked.old) None x → is_in x e ≡ true
        → (installed_of x == e) ≡ false → Tells (Some us) (Some (d, s)) x
    begun us asked old inside over =
        let two : (0 < session_of x) × (is_number e (member.session_of n ms) ≡ true) = session_acts S.setting.header ms n e x inside beside in
        let same : session_of x ≡ e = same_number (session_of x) e (and_cases (nat_le 1 e) (session_of x == e) inside).1 in
        let other : installed_of x ≢ session_of x = λ z. no_truth (sym over ∙ same_so (installed_of x) e (z ∙ same)) in
        let acts : acts_for n e ms ≡ true =
        and_both (is_number e (member.session_of n ms)) (not (has_installed n e ms)) two.1 (ap not (ap (λ q. has_installed n q ms) (sym same) ∙ up.fresh two.0 other)) in (
          (λ z. absurd (other z)),
          (λ z.
              subst (λ ts. Same (after_seize x.tasks d s) ts) (sym (requested_so S n e kind d ms comes.letter asked.old comes.called asked.number acts) ∙ asked.gives)
              (same_begun d x.tasks asked.old s (seizing.begun kind e (members_of e ms) n S.setting.header.cluster true) (up.plain other) (old.1 other)
              (begun_same S c n e members d kind ms (has (record_of x).valid d) (ap (λ (k : Cluster). k.id) is) comes.of (λ vote. valid vote asked.native (asked.trusted vote acts) same other)))),
        )

    by_inside : (us : List told.Task) (asked : Asked S ms n e members d kind comes.letter (told_tasks S n ms) us) → Tells (Some asked.old) None x → (b o : Bool) → is_in x e ≡ b
        → (installed_of x == e) ≡ o → Tells (Some us) (pending_by false b o d s) x
    by_inside us asked old true false inside over = begun us asked old inside over
    by_inside us asked old true true inside over =
        let two : (0 < session_of x) × (is_number e (member.session_of n ms) ≡ true) = session_acts S.setting.header ms n e x inside beside in
        let same : session_of x ≡ e = same_number (session_of x) e (and_cases (nat_le 1 e) (session_of x == e) inside).1 in
        let at : installed_of x ≡ session_of x = same_number (installed_of x) e over ∙ sym same in
        unmoved us asked old (and_last (is_number e (member.session_of n ms)) (not (has_installed n e ms)) (ap not (ap (λ q. has_installed n q ms) (sym same) ∙ up.done two.0 at)))
    by_inside us asked old false true inside over = unmoved us asked old (outside_acts S ms n e x inside beside up)
    by_inside us asked old false false inside over = unmoved us asked old (outside_acts S ms n e x inside beside up)

-- so it is of all that is known of the node
pub asked_up : (S : View) (c : Cluster) (ms : List Moment) (n p a e members d : ℕ) (kind : SeizeKind) (x : UpNode) → c ≡ first_cluster S.setting.header
    → Comes S ms n p kind e members d → (kind ≡ Vote → is_foreign_seizing (first_cluster S.setting.header) n members d ≡ false → trusts S n d ms ≡ true → session_of x ≡ e → installed_of x ≢ session_of x → has (record_of x).valid d ≡ true) → seizings.UpSo S.setting.header ms n x → UpSo S ms n None x
    → UpSo S (delivered p a n ∷ ms) n (pending_of c n x kind e members d) x
asked_up S c ms n p a e members d kind x is comes valid beside up = record {
  none = up.none;
  fresh = up.fresh;
  done = up.done;
  plain = up.plain;
  tells = asked_tells S c ms n p a e members d kind x is comes valid beside up;
}
