-- The laws of the parts of messages.
use Rattle.std.proofs.Common.{◌≡◌, ℕ, ◌<◌, ◌≤◌, Bool, true, false, not, cond, eqb, ltb, leb, ◌&&◌, List, [], ◌∷◌, ◌++◌, length, Option, Some, None, refl, sym, ap, subst, ◌∙◌, append_assoc, arith, inl, inr, lit<}
use Rattle.std.specs.Prelude.{IfSome, bit_and}
use Rattle.std.specs.List.{find, AllByRecursion}
use Rattle.std.proofs.lemmas.Bool.{eqb-true, ltb-true, lt-ltb, leb-true, le-leb, and_parts, and_from, agree_below, agree_below_at}
use Rattle.std.proofs.lemmas.List.{append-nil, nil_from_length}
use Rattle.cl_base.specs.declared.method.Method.{Method}
use Rattle.cl_base.specs.declared.method.Method.TheVariants as method
use Rattle.cl_base.specs.declared.method.Outcome.{Outcome}
use Rattle.cl_base.specs.declared.method.Outcome.TheVariants.{Success, Failure, Timeout}
use Rattle.wire.specs.declared.report.Marks.{Marks}
use Rattle.wire.specs.declared.report.LastFailures.{LastFailures}
use Rattle.wire.specs.declared.report.LastFailures.TheVariants.{Never, Once, Twice}
use Rattle.wire.specs.declared.report.ResourceReport.{ResourceReport}
use Rattle.wire.specs.declared.report.GroupReport.{GroupReport}
use Rattle.cl_base.specs.Seizings.{SeizeResult}
use Rattle.cl_base.specs.declared.seizing.SeizeEnd.TheVariants as seized
use Rattle.cl_base.specs.declared.packet.MessageKind.{MessageKind}
use Rattle.cl_base.specs.declared.packet.MessageKind.TheVariants as kind
use Rattle.cl_base.specs.Kinds.{kind_byte}
use Rattle.wire.specs.Spelling.{number, word, one, set, truth_byte, truth, text, list, at_most_one, method_byte, outcome_byte, worth, marks_byte, seconds_of, reading, resource_report, group_report, report, seized_result, IsWord, IsDevices, IsNode, IsDevice, IsShortText, IsShortList, IsShortResource, FitsReading, FitsGroup, FitsReport, FitsResult}
use Rattle.wire.specs.Reads.{◌>>=◌, number_at, byte_at, truth_at, node_at, device_at, devices_at, at_most_one_at, methods, method_at, outcome_at, kinds, kind_at, marks_of, marks_at, failures_at, reading_at, resource_at, group_at, report_at, seized_of, seized_result_at}
use Rattle.wire.proofs.Fields.{IsBytes, bind_some, some_is, guard_some, chosen, Taken, Law, FieldLaw, finish, pick, then, Back, recast, tested, refit, number2, number4, number8, byte_law, code_law, text_law, list_law}

-- ---- bytes

between : (hi n : ℕ) → (leb 1 n && leb n hi) ≡ true → (1 ≤ n) × (n ≤ hi)
between hi n e = let p = and_parts (leb 1 n) (leb n hi) e in (leb-true 1 n p.0, leb-true n hi p.1)

passes : (hi n : ℕ) → 1 ≤ n → n ≤ hi → (leb 1 n && leb n hi) ≡ true
passes hi n low high = and_from (leb 1 n) (leb n hi) (le-leb 1 n low) (le-leb n hi high)

pub node_law : FieldLaw one IsNode node_at
unfolding node_at
node_law = refit IsNode (λ n f. between 32 n f.1) (λ n f. (omega (arith, f.1), passes 32 n f.0 f.1)) (tested (λ b. leb 1 b && leb b 32) byte_law)

pub device_law : FieldLaw one IsDevice device_at
unfolding device_at
device_law = refit IsDevice (λ n f. between 16 n f.1) (λ n f. (omega (arith, f.1), passes 16 n f.0 f.1)) (tested (λ b. leb 1 b && leb b 16) byte_law)

pub devices_law : FieldLaw set IsDevices devices_at
unfolding devices_at
devices_law = refit IsDevices (λ n f. ltb-true n 65536 f.1) (λ n f. (omega (arith, f), lt-ltb n 65536 f)) (tested (λ n. ltb n 65536) number4)

truth_own : (t : Bool) → find (λ x. eqb (truth_byte x) (truth_byte t)) (false ∷ true ∷ []) ≡ Some t
truth_own false = refl
truth_own true = refl

pub truth_law : FieldLaw truth (λ _. Unit {0}) truth_at
unfolding truth_at
truth_law = code_law truth_byte (false ∷ true ∷ []) truth_own

method_own : (m : Option Method) → find (λ x. eqb (method_byte x) (method_byte m)) methods ≡ Some m
method_own None = refl
method_own (Some method.PrenetStart) = refl
method_own (Some method.Start) = refl
method_own (Some method.MonitorStart) = refl
method_own (Some method.MonitorCheck) = refl
method_own (Some method.MonitorStop) = refl
method_own (Some method.Stop) = refl
method_own (Some method.PostnetStop) = refl
method_own (Some method.Validate) = refl
method_own (Some method.Init) = refl
method_own (Some method.Fini) = refl
method_own (Some method.Boot) = refl
method_own (Some method.Update) = refl

pub method_law : FieldLaw (λ m. one (method_byte m)) (λ _. Unit {0}) method_at
unfolding method_at
method_law = code_law method_byte methods method_own

outcome_own : (o : Outcome) → find (λ x. eqb (outcome_byte x) (outcome_byte o)) (Success ∷ Failure ∷ Timeout ∷ []) ≡ Some o
outcome_own Success = refl
outcome_own Failure = refl
outcome_own Timeout = refl

pub outcome_law : FieldLaw (λ o. one (outcome_byte o)) (λ _. Unit {0}) outcome_at
unfolding outcome_at
outcome_law = code_law outcome_byte (Success ∷ Failure ∷ Timeout ∷ []) outcome_own

kind_own : (k : MessageKind) → find (λ x. eqb (kind_byte x) (kind_byte k)) kinds ≡ Some k
kind_own kind.Heartbeat = refl
kind_own kind.Collect = refl
kind_own kind.Promise = refl
kind_own kind.Nack = refl
kind_own kind.SeizeQuorum = refl
kind_own kind.SeizeData = refl
kind_own kind.Seized = refl
kind_own kind.Install = refl
kind_own kind.Ready = refl
kind_own kind.Start = refl
kind_own kind.Prepare = refl
kind_own kind.Prepared = refl
kind_own kind.Commit = refl
kind_own kind.Order = refl
kind_own kind.Done = refl
kind_own kind.Request = refl
kind_own kind.Answer = refl
kind_own kind.Excluded = refl

pub kind_law : FieldLaw (λ k. one (kind_byte k)) (λ _. Unit {0}) kind_at
unfolding kind_at
kind_law = code_law kind_byte kinds kind_own

-- ---- flags and marks

abbrev gives_back : ℕ → Bool
gives_back b = eqb (marks_byte (marks_of b)) b

each_gives_back : agree_below gives_back (λ _. true) 64 ≡ true
each_gives_back = refl

marks_back : (b : ℕ) → b < 64 → marks_byte (marks_of b) ≡ b
marks_back b h = eqb-true _ _ (agree_below_at gives_back (λ _. true) 64 b each_gives_back h)

abbrev every : (Bool → Bool) → Bool
every p = p false && p true

every_at : (p : Bool → Bool) → every p ≡ true → (b : Bool) → p b ≡ true
every_at p h false = (and_parts (p false) (p true) h).0
every_at p h true = (and_parts (p false) (p true) h).1

abbrev marks_with : Bool → Bool → Bool → Bool → Bool → Bool → Marks
marks_with a b c d e f = record { pre = a; run = b; mon = c; faulted = d; stop_failed = e; monitor_failed = f }

-- the bits of the byte are the worths of what is set, and the byte is below 64
abbrev is_kept : Bool → Bool → Bool → Bool → Bool → Bool → Bool
is_kept a b c d e f =
    let n = marks_byte (marks_with a b c d e f) in
    ltb n 64 && (eqb (bit_and n 1) (worth a 1) && (eqb (bit_and n 2) (worth b 2) && (eqb (bit_and n 4) (worth c 4)
    && (eqb (bit_and n 8) (worth d 8) && (eqb (bit_and n 16) (worth e 16) && eqb (bit_and n 32) (worth f 32))))))

all_kept : every (λ a. every (λ b. every (λ c. every (λ d. every (λ e. every (λ f. is_kept a b c d e f)))))) ≡ true
all_kept = refl

kept : (a b c d e f : Bool) → is_kept a b c d e f ≡ true
kept a b c d e f =
    every_at (λ f. is_kept a b c d e f) (every_at (λ e. every (λ f. is_kept a b c d e f)) (every_at (λ d. every (λ e. every (λ f. is_kept a b c d e f)))
    (every_at (λ c. every (λ d. every (λ e. every (λ f. is_kept a b c d e f)))) (every_at (λ b. every (λ c. every (λ d. every (λ e. every (λ f. is_kept a b c d e f)))))
    (every_at (λ a. every (λ b. every (λ c. every (λ d. every (λ e. every (λ f. is_kept a b c d e f)))))) all_kept a) b) c) d) e) f

is_set : (set : Bool) (k x : ℕ) → 0 < k → eqb x (worth set k) ≡ true → not (eqb x 0) ≡ set
is_set false k x h e = rw (eqb-true _ _ e) refl
is_set true k x h e = grind (arith, eqb-true x k e)

same_marks : (x y : Marks) → x.pre ≡ y.pre → x.run ≡ y.run → x.mon ≡ y.mon → x.faulted ≡ y.faulted → x.stop_failed ≡ y.stop_failed → x.monitor_failed ≡ y.monitor_failed → x ≡ y
same_marks x y e1 e2 e3 e4 e5 e6 =
    ap (λ (v : Bool). marks_with v x.run x.mon x.faulted x.stop_failed x.monitor_failed) e1
    ∙ ap (λ (v : Bool). marks_with y.pre v x.mon x.faulted x.stop_failed x.monitor_failed) e2
    ∙ ap (λ (v : Bool). marks_with y.pre y.run v x.faulted x.stop_failed x.monitor_failed) e3
    ∙ ap (λ (v : Bool). marks_with y.pre y.run y.mon v x.stop_failed x.monitor_failed) e4
    ∙ ap (λ (v : Bool). marks_with y.pre y.run y.mon y.faulted v x.monitor_failed) e5
    ∙ ap (λ (v : Bool). marks_with y.pre y.run y.mon y.faulted y.stop_failed v) e6

marks_again : (m : Marks) → (marks_of (marks_byte m) ≡ m) × (marks_byte m < 64)
marks_again m =
    let n = marks_byte m in
    let p0 = and_parts _ _ (kept m.pre m.run m.mon m.faulted m.stop_failed m.monitor_failed) in
    let p1 = and_parts _ _ p0.1 in
    let p2 = and_parts _ _ p1.1 in
    let p3 = and_parts _ _ p2.1 in
    let p4 = and_parts _ _ p3.1 in
    let p5 = and_parts _ _ p4.1 in
    let e1 : not (eqb (bit_and n 1) 0) ≡ m.pre = is_set m.pre 1 _ (lit< tt) p1.0 in
    let e2 : not (eqb (bit_and n 2) 0) ≡ m.run = is_set m.run 2 _ (lit< tt) p2.0 in
    let e3 : not (eqb (bit_and n 4) 0) ≡ m.mon = is_set m.mon 4 _ (lit< tt) p3.0 in
    let e4 : not (eqb (bit_and n 8) 0) ≡ m.faulted = is_set m.faulted 8 _ (lit< tt) p4.0 in
    let e5 : not (eqb (bit_and n 16) 0) ≡ m.stop_failed = is_set m.stop_failed 16 _ (lit< tt) p5.0 in
    let e6 : not (eqb (bit_and n 32) 0) ≡ m.monitor_failed = is_set m.monitor_failed 32 _ (lit< tt) p5.1 in
    (same_marks (marks_of n) m e1 e2 e3 e4 e5 e6, ltb-true n 64 p0.0)

pub marks_law : FieldLaw (λ m. one (marks_byte m)) (λ _. Unit {0}) marks_at
unfolding marks_at
marks_law = record {
  takes = λ bytes m rest h e.
      let b = bind_some (byte_at bytes) (λ b. cond (ltb b.0 64) (Some (marks_of b.0, b.1)) None) (m, rest) e in
      let g = guard_some (ltb b.value.0 64) (marks_of b.value.0, b.value.1) (m, rest) b.next in
      let t = byte_law.takes bytes b.value.0 b.value.1 h b.was in
      let m-is : marks_of b.value.0 ≡ m = ap (λ (p : Marks × List ℕ). p.0) g.1 in
      let rest-is : b.value.1 ≡ rest = ap (λ (p : Marks × List ℕ). p.1) g.1 in
      let byte : t.value ≡ marks_byte m = t.made ∙ sym (marks_back b.value.0 (ltb-true _ _ g.0)) ∙ ap marks_byte m-is in
      record { value = m; made = refl; fitting = tt; parts = t.parts ∙ ap (λ (l : List ℕ). one t.value ++ l) rest-is ∙ ap (λ (k : ℕ). one k ++ rest) byte; left = subst IsBytes rest-is t.left };
  again = λ m rest f.
      let k = marks_again m in
      ap (λ (o : Option (ℕ × List ℕ)). o >>= λ b. cond (ltb b.0 64) (Some (marks_of b.0, b.1)) None) (byte_law.again (marks_byte m) rest (omega (arith, k.1)))
      ∙ ap (λ (t : Bool). cond t (Some (marks_of (marks_byte m), rest)) None) (lt-ltb _ _ k.1)
      ∙ ap (λ (x : Marks). Some (x, rest)) k.0;
}

-- ---- short lists

list_none : {A : Type 0} (spell : A → List ℕ) (rest : List ℕ) → list spell [] ++ rest ≡ number 2 0 ++ rest
unfolding list
list_none spell rest = append_assoc (number 2 0) [] rest

list_one : {A : Type 0} (spell : A → List ℕ) (a : A) (rest : List ℕ) → list spell (a ∷ []) ++ rest ≡ number 2 1 ++ (spell a ++ rest)
unfolding list
list_one spell a rest = append_assoc (number 2 1) (spell a ++ []) rest ∙ ap (λ (l : List ℕ). number 2 1 ++ (l ++ rest)) (append-nil (spell a))

list_two : {A : Type 0} (spell : A → List ℕ) (a b : A) (rest : List ℕ) → list spell (a ∷ b ∷ []) ++ rest ≡ number 2 2 ++ (spell a ++ (spell b ++ rest))
unfolding list
list_two spell a b rest =
    append_assoc (number 2 2) (spell a ++ (spell b ++ [])) rest
    ∙ ap (λ (l : List ℕ). number 2 2 ++ ((spell a ++ l) ++ rest)) (append-nil (spell b))
    ∙ ap (λ (l : List ℕ). number 2 2 ++ l) (append_assoc (spell a) (spell b) rest)

-- a test that was passed before more was read
guard_read : {A : Type 0} (b : Bool) (r : Option A) (y : A) → cond b r None ≡ Some y → (b ≡ true) × (r ≡ Some y)
guard_read true r y e = (refl, e)
guard_read false r y e = absurd cc

one_again : {A : Type 0} {spell : A → List ℕ} {fits : A → Type 0} {read : List ℕ → Option (A × List ℕ)} → FieldLaw spell fits read
    → (o : Option A) (rest : List ℕ) → IfSome o fits → at_most_one_at read (at_most_one spell o ++ rest) ≡ Some (o, rest)
unfolding at_most_one_at
one_again {A} {spell} {fits} {read} law None rest f =
    ap (at_most_one_at read) (list_none spell rest)
    ∙ ap (λ (o : Option (ℕ × List ℕ)). o >>= λ n. cond (eqb n.0 0) (Some (None, n.1)) (cond (eqb n.0 1) (read n.1 >>= λ x. Some (Some x.0, x.1)) None)) (number2.again 0 rest (omega arith))
one_again {A} {spell} {fits} {read} law (Some a) rest f =
    ap (at_most_one_at read) (list_one spell a rest)
    ∙ ap (λ (o : Option (ℕ × List ℕ)). o >>= λ n. cond (eqb n.0 0) (Some (None, n.1)) (cond (eqb n.0 1) (read n.1 >>= λ x. Some (Some x.0, x.1)) None)) (number2.again 1 (spell a ++ rest) (omega arith))
    ∙ ap (λ (o : Option (A × List ℕ)). o >>= λ x. Some (Some x.0, x.1)) (law.again a rest f)

pub at_most_one_law : {A : Type 0} {spell : A → List ℕ} {fits : A → Type 0} {read : List ℕ → Option (A × List ℕ)} → FieldLaw spell fits read
    → FieldLaw (at_most_one spell) (λ o. IfSome o fits) (at_most_one_at read)
unfolding at_most_one_at
at_most_one_law {A} {spell} {fits} {read} law =
    let step : ℕ × List ℕ → Option (Option A × List ℕ) = λ n. cond (eqb n.0 0) (Some (None, n.1)) (cond (eqb n.0 1) (read n.1 >>= λ x. Some (Some x.0, x.1)) None) in
    record {
      takes = λ bytes m rest h e.
          let b = bind_some (number_at 2 bytes) step (m, rest) e in
          let n = b.value in
          let t = number2.takes bytes n.0 n.1 h b.was in
          elim (chosen (eqb n.0 0) (Some (None, n.1)) (cond (eqb n.0 1) (read n.1 >>= λ x. Some (Some x.0, x.1)) None) (Some (m, rest)) b.next) [
            | inl p ↦
                let k : t.value ≡ 0 = t.made ∙ eqb-true n.0 0 p.0 in
                subst (λ (y : Option A × List ℕ). Taken (at_most_one spell) (λ o. IfSome o fits) (λ o. o) bytes y.0 y.1) (some_is (None, n.1) (m, rest) p.1)
                (record { value = None; made = refl; fitting = tt; parts = t.parts ∙ ap (λ (k : ℕ). number 2 k ++ n.1) k ∙ sym (list_none spell n.1); left = t.left })
            | inr p ↦
                let q = guard_read (eqb n.0 1) (read n.1 >>= λ x. Some (Some x.0, x.1)) (m, rest) p.1 in
                let k : t.value ≡ 1 = t.made ∙ eqb-true n.0 1 q.0 in
                let x = bind_some (read n.1) (λ x. Some (Some x.0, x.1)) (m, rest) q.1 in
                let u = law.takes n.1 x.value.0 x.value.1 t.left x.was in
                subst (λ (y : Option A × List ℕ). Taken (at_most_one spell) (λ o. IfSome o fits) (λ o. o) bytes y.0 y.1) (some_is (Some x.value.0, x.value.1) (m, rest) x.next)
                (record {
                  value = Some u.value;
                  made = ap (λ (a : A). Some a) u.made;
                  fitting = u.fitting;
                  parts = t.parts ∙ ap (λ (k : ℕ). number 2 k ++ n.1) k ∙ ap (λ (l : List ℕ). number 2 1 ++ l) u.parts ∙ sym (list_one spell u.value x.value.1);
                  left = u.left;
                })
          ];
      again = λ o rest f. one_again law o rest f;
    }

-- the seconds of start failures, by how many there are
abbrev failures_step : ℕ × List ℕ → Option (LastFailures × List ℕ)
failures_step n =
    cond (eqb n.0 0) (Some (Never, n.1))
    (cond (eqb n.0 1) (number_at 8 n.1 >>= λ a. Some (Once a.0, a.1))
    (cond (eqb n.0 2) (number_at 8 n.1 >>= λ a. number_at 8 a.1 >>= λ b. Some (Twice a.0 b.0, b.1)) None))

failures_take : (bytes : List ℕ) (n : ℕ) (after : List ℕ) (m : LastFailures) (rest : List ℕ) → bytes ≡ number 2 n ++ after → IsBytes after → failures_step (n, after) ≡ Some (m, rest)
    → Taken (λ x. list word (seconds_of x)) (λ x. AllByRecursion IsWord (seconds_of x)) (λ x. x) bytes m rest
failures_take bytes n after m rest parts left e =
    let Goal : LastFailures × List ℕ → Type 0 = λ y. Taken (λ x. list word (seconds_of x)) (λ x. AllByRecursion IsWord (seconds_of x)) (λ x. x) bytes y.0 y.1 in
    elim (chosen (eqb n 0) (Some (Never, after)) _ (Some (m, rest)) e) [
      | inl p ↦
          subst Goal (some_is (Never, after) (m, rest) p.1)
          (record { value = Never; made = refl; fitting = tt; parts = parts ∙ ap (λ (k : ℕ). number 2 k ++ after) (eqb-true n 0 p.0) ∙ sym (list_none word after); left = left })
      | inr p ↦ elim (chosen (eqb n 1) (number_at 8 after >>= λ a. Some (Once a.0, a.1)) _ (Some (m, rest)) p.1) [
        | inl q ↦
            let x = bind_some (number_at 8 after) (λ a. Some (Once a.0, a.1)) (m, rest) q.1 in
            let u = number8.takes after x.value.0 x.value.1 left x.was in
            subst Goal (some_is (Once x.value.0, x.value.1) (m, rest) x.next)
            (record {
              value = Once u.value;
              made = ap (λ (a : ℕ). Once a) u.made;
              fitting = (u.fitting, tt);
              parts = parts ∙ ap (λ (k : ℕ). number 2 k ++ after) (eqb-true n 1 q.0) ∙ ap (λ (l : List ℕ). number 2 1 ++ l) u.parts ∙ sym (list_one word u.value x.value.1);
              left = u.left;
            })
        | inr q ↦
            let g = guard_read (eqb n 2) (number_at 8 after >>= λ a. number_at 8 a.1 >>= λ b. Some (Twice a.0 b.0, b.1)) (m, rest) q.1 in
            let x = bind_some (number_at 8 after) (λ a. number_at 8 a.1 >>= λ b. Some (Twice a.0 b.0, b.1)) (m, rest) g.1 in
            let u = number8.takes after x.value.0 x.value.1 left x.was in
            let y = bind_some (number_at 8 x.value.1) (λ b. Some (Twice x.value.0 b.0, b.1)) (m, rest) x.next in
            let v = number8.takes x.value.1 y.value.0 y.value.1 u.left y.was in
            subst Goal (some_is (Twice x.value.0 y.value.0, y.value.1) (m, rest) y.next)
            (record {
              value = Twice u.value v.value;
              made = ap (λ (a : ℕ). Twice a v.value) u.made ∙ ap (λ (b : ℕ). Twice x.value.0 b) v.made;
              fitting = (u.fitting, (v.fitting, tt));
              parts = parts ∙ ap (λ (k : ℕ). number 2 k ++ after) (eqb-true n 2 g.0) ∙ ap (λ (l : List ℕ). number 2 2 ++ l) (u.parts ∙ ap (λ (l : List ℕ). word u.value ++ l) v.parts) ∙ sym (list_two word u.value v.value y.value.1);
              left = v.left;
            })
      ]
    ]

failures_again : (m : LastFailures) (rest : List ℕ) → AllByRecursion IsWord (seconds_of m) → failures_at (list word (seconds_of m) ++ rest) ≡ Some (m, rest)
unfolding failures_at
failures_again Never rest f =
    ap failures_at (list_none word rest) ∙ ap (λ (o : Option (ℕ × List ℕ)). o >>= failures_step) (number2.again 0 rest (omega arith))
failures_again (Once a) rest f =
    ap failures_at (list_one word a rest) ∙ ap (λ (o : Option (ℕ × List ℕ)). o >>= failures_step) (number2.again 1 (word a ++ rest) (omega arith))
    ∙ ap (λ (o : Option (ℕ × List ℕ)). o >>= λ a. Some (Once a.0, a.1)) (number8.again a rest f.0)
failures_again (Twice a b) rest f =
    ap failures_at (list_two word a b rest) ∙ ap (λ (o : Option (ℕ × List ℕ)). o >>= failures_step) (number2.again 2 (word a ++ (word b ++ rest)) (omega arith))
    ∙ ap (λ (o : Option (ℕ × List ℕ)). o >>= λ a. number_at 8 a.1 >>= λ b. Some (Twice a.0 b.0, b.1)) (number8.again a (word b ++ rest) f.0)
    ∙ ap (λ (o : Option (ℕ × List ℕ)). o >>= λ b. Some (Twice a b.0, b.1)) (number8.again b rest f.1.0)

failures_law : FieldLaw (λ x. list word (seconds_of x)) (λ x. AllByRecursion IsWord (seconds_of x)) failures_at
unfolding failures_at
failures_law = record {
  takes = λ bytes m rest h e.
      let b = bind_some (number_at 2 bytes) failures_step (m, rest) e in
      let t = number2.takes bytes b.value.0 b.value.1 h b.was in
      failures_take bytes b.value.0 b.value.1 m rest (t.parts ∙ ap (λ (k : ℕ). number 2 k ++ b.value.1) t.made) t.left b.next;
  again = failures_again;
}

-- ---- what a list holds

reading_parts : Law (λ (q : ℕ × (ℕ × (List ℕ × Unit {0}))). one q.0 ++ (one q.1.0 ++ (list word q.1.1.0 ++ []))) (λ q. IsDevice q.0 × (IsNode q.1.0 × (IsShortList IsWord q.1.1.0 × Unit {0})))
    (λ q. record { device = q.0; seizer = q.1.0; keys = q.1.1.0 }) reading_at
unfolding reading_at
reading_parts = then device_law (λ d. then node_law (λ s. then (list_law number8) (λ k. finish (record { device = d; seizer = s; keys = k }))))

pub reading_law : FieldLaw reading FitsReading reading_at
reading_law = recast reading FitsReading reading_parts (λ q f. (refl, (f.0, f.1.0, f.1.1.0)))
    (λ m f. record { value = (m.device, (m.seizer, (m.keys, tt))); made = refl; fitting = (f.0, (f.1, (f.2, tt))); same = refl })

resource_parts : Law (λ (q : List ℕ × (Marks × Unit {0})). text q.0 ++ (one (marks_byte q.1.0) ++ [])) (λ q. IsShortText q.0 × (Unit {0} × Unit {0}))
    (λ q. record { resource = q.0; marks = q.1.0 }) resource_at
unfolding resource_at
resource_parts = then text_law (λ r. then marks_law (λ m. finish (record { resource = r; marks = m })))

pub resource_law : FieldLaw resource_report IsShortResource resource_at
resource_law = recast resource_report IsShortResource resource_parts (λ q f. (refl, f.0))
    (λ m f. record { value = (m.resource, (m.marks, tt)); made = refl; fitting = (f, (tt, tt)); same = refl })

group_parts : Law (λ (q : List ℕ × (LastFailures × (Option ℕ × Unit {0}))). text q.0 ++ (list word (seconds_of q.1.0) ++ (at_most_one word q.1.1.0 ++ [])))
    (λ q. IsShortText q.0 × (AllByRecursion IsWord (seconds_of q.1.0) × (IfSome q.1.1.0 IsWord × Unit {0})))
    (λ q. record { group = q.0; failures = q.1.0; moved = q.1.1.0 }) group_at
unfolding group_at
group_parts = then text_law (λ g. then failures_law (λ f. then (at_most_one_law number8) (λ m. finish (record { group = g; failures = f; moved = m }))))

pub group_law : FieldLaw group_report FitsGroup group_at
group_law = recast group_report FitsGroup group_parts (λ q f. (refl, (f.0, f.1.0, f.1.1.0)))
    (λ m f. record { value = (m.group, (m.failures, (m.moved, tt))); made = refl; fitting = (f.0, (f.1, (f.2, tt))); same = refl })

report_parts : Law (λ (q : List ResourceReport × (List GroupReport × Unit {0})). list resource_report q.0 ++ (list group_report q.1.0 ++ []))
    (λ q. IsShortList IsShortResource q.0 × (IsShortList FitsGroup q.1.0 × Unit {0})) (λ q. record { resources = q.0; groups = q.1.0 }) report_at
unfolding report_at
report_parts = then (list_law resource_law) (λ r. then (list_law group_law) (λ g. finish (record { resources = r; groups = g })))

pub report_law : FieldLaw report FitsReport report_at
report_law = recast report FitsReport report_parts (λ q f. (refl, (f.0, f.1.0)))
    (λ m f. record { value = (m.resources, (m.groups, tt)); made = refl; fitting = (f.0, (f.1, tt)); same = refl })

-- ---- how a seizing ended

seized_parts : Law (λ (q : ℕ × (ℕ × (List ℕ × SeizeResult))). one q.0 ++ (word q.1.0 ++ (list word q.1.1.0 ++ [])))
    (λ q. (q.0 < 256) × (IsWord q.1.0 × (IsShortList IsWord q.1.1.0 × (seized_of q.0 q.1.0 q.1.1.0 ≡ Some q.1.1.1)))) (λ q. q.1.1.1) seized_result_at
unfolding seized_result_at
seized_parts = then byte_law (λ c. then number8 (λ n. then (list_law number8) (λ k. pick (seized_of c n k))))

record Ended (c n : ℕ) (keys : List ℕ) (r : SeizeResult) : Type 0 where
  same : one c ++ (word n ++ (list word keys ++ [])) ≡ seized_result r
  fitting : FitsResult r

zero_number : (n : ℕ) → eqb n 0 ≡ true → n ≡ 0
zero_number n e = eqb-true n 0 e

no_keys : (keys : List ℕ) → eqb (length keys) 0 ≡ true → keys ≡ []
no_keys keys e = nil_from_length keys (eqb-true (length keys) 0 e)

ended : (c n c' n' : ℕ) (keys keys' : List ℕ) (r r' : SeizeResult) → c ≡ c' → n ≡ n' → keys ≡ keys' → r' ≡ r → one c' ++ (word n' ++ (list word keys' ++ [])) ≡ seized_result r' → FitsResult r' → Ended c n keys r
ended c n c' n' keys keys' r r' ec en ek er same fits =
    subst (λ (x : SeizeResult). Ended c n keys x) er (record {
      same = ap (λ (x : ℕ). one x ++ (word n ++ (list word keys ++ []))) ec ∙ ap (λ (x : ℕ). one c' ++ (word x ++ (list word keys ++ []))) en ∙ ap (λ (x : List ℕ). one c' ++ (word n' ++ (list word x ++ []))) ek ∙ same;
      fitting = fits;
    })

seized_ended : (c n : ℕ) (keys : List ℕ) (r : SeizeResult) → IsWord n → IsShortList IsWord keys → seized_of c n keys ≡ Some r → Ended c n keys r
seized_ended c n keys r fn fk e =
    elim (chosen ((eqb c 0) && (eqb n 0)) (Some (seized.Held keys)) _ (Some r) e) [
      | inl p ↦ let t = and_parts _ _ p.0 in ended c n 0 0 keys keys r (seized.Held keys) (eqb-true c 0 t.0) (zero_number n t.1) refl (some_is _ _ p.1) refl fk
      | inr p ↦ elim (chosen ((eqb c 1) && (eqb n 0)) (Some (seized.NotRegistered keys)) _ (Some r) p.1) [
        | inl p ↦ let t = and_parts _ _ p.0 in ended c n 1 0 keys keys r (seized.NotRegistered keys) (eqb-true c 1 t.0) (zero_number n t.1) refl (some_is _ _ p.1) refl fk
        | inr p ↦ elim (chosen ((eqb c 2) && (eqb (length keys) 0)) (Some (seized.Greater n)) _ (Some r) p.1) [
          | inl p ↦ let t = and_parts _ _ p.0 in ended c n 2 n keys [] r (seized.Greater n) (eqb-true c 2 t.0) refl (no_keys keys t.1) (some_is _ _ p.1) refl fn
          | inr p ↦ elim (chosen (((eqb c 3) && (eqb n 0)) && (eqb (length keys) 0)) (Some seized.Expelled) _ (Some r) p.1) [
            | inl p ↦ let t = and_parts _ _ p.0 in let u = and_parts _ _ t.0 in ended c n 3 0 keys [] r seized.Expelled (eqb-true c 3 u.0) (zero_number n u.1) (no_keys keys t.1) (some_is _ _ p.1) refl tt
            | inr p ↦ elim (chosen ((eqb c 4) && (eqb (length keys) 0)) (Some (seized.Contended n)) _ (Some r) p.1) [
              | inl p ↦ let t = and_parts _ _ p.0 in ended c n 4 n keys [] r (seized.Contended n) (eqb-true c 4 t.0) refl (no_keys keys t.1) (some_is _ _ p.1) refl fn
              | inr p ↦
                  let g = guard_some (((eqb c 5) && (eqb n 0)) && (eqb (length keys) 0)) seized.Fault r p.1 in
                  let t = and_parts _ _ g.0 in let u = and_parts _ _ t.0 in
                  ended c n 5 0 keys [] r seized.Fault (eqb-true c 5 u.0) (zero_number n u.1) (no_keys keys t.1) g.1 refl tt
            ]
          ]
        ]
      ]
    ]

abbrev SeizedBack : SeizeResult → Type 0
SeizedBack m = Back (λ (q : ℕ × (ℕ × (List ℕ × SeizeResult))). one q.0 ++ (word q.1.0 ++ (list word q.1.1.0 ++ [])))
    (λ q. (q.0 < 256) × (IsWord q.1.0 × (IsShortList IsWord q.1.1.0 × (seized_of q.0 q.1.0 q.1.1.0 ≡ Some q.1.1.1)))) (λ q. q.1.1.1) (seized_result m) m

none_short : IsShortList IsWord []
none_short = (omega arith, tt)

seized_back : (m : SeizeResult) → FitsResult m → SeizedBack m
seized_back (seized.Held keys) f = record { value = (0, (0, (keys, seized.Held keys))); made = refl; fitting = (omega arith, (omega arith, (f, refl))); same = refl }
seized_back (seized.NotRegistered keys) f = record { value = (1, (0, (keys, seized.NotRegistered keys))); made = refl; fitting = (omega arith, (omega arith, (f, refl))); same = refl }
seized_back (seized.Greater w) f = record { value = (2, (w, ([], seized.Greater w))); made = refl; fitting = (omega arith, (f, (none_short, refl))); same = refl }
seized_back seized.Expelled f = record { value = (3, (0, ([], seized.Expelled))); made = refl; fitting = (omega arith, (omega arith, (none_short, refl))); same = refl }
seized_back (seized.Contended k) f = record { value = (4, (k, ([], seized.Contended k))); made = refl; fitting = (omega arith, (f, (none_short, refl))); same = refl }
seized_back seized.Fault f = record { value = (5, (0, ([], seized.Fault))); made = refl; fitting = (omega arith, (omega arith, (none_short, refl))); same = refl }

pub seized_result_law : FieldLaw seized_result FitsResult seized_result_at
seized_result_law = recast seized_result FitsResult seized_parts
    (λ q f. let e = seized_ended q.0 q.1.0 q.1.1.0 q.1.1.1 f.1.0 f.1.1.0 f.1.1.1 in (e.same, e.fitting))
    seized_back
