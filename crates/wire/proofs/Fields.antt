-- Laws of fields: what is read is spelled so, and what is spelled so is read, whatever follows it.
use Rattle.std.proofs.Common.{◌≡◌, ℕ, zero, suc, ◌+◌, ◌^◌, ◌<◌, ◌≤◌, Bool, true, false, cond, eqb, ltb, ◌⊎◌, List, [], ◌∷◌, ◌++◌, length, get_or, take, drop, Option, Some, None, refl, sym, ap, subst, ◌∙◌, append_assoc, arith, inl, inr}
use Rattle.std.specs.List.{find, flat_map, AllByRecursion}
use Rattle.std.proofs.lemmas.Bool.{cases_lt, ltb-false, le-ltb, eqb-true}
use Rattle.std.proofs.lemmas.List.{take_at, drop_at, take-append-drop, length-append, length-take, get_or-drop, get_or-take, get_or_past}
use Rattle.std.proofs.lemmas.Nat.{be_bytes_2, be_bytes_4, be_bytes_8}
use Rattle.byteorder.specs.Endian.{big_bytes, big_number}
use Rattle.byteorder.specs.Numbers.{big_from-take, big_from-lt, big_number-reads_back, length-bytes_high_first}
use Rattle.wire.specs.Spelling.{number, one, text, list, IsShortText, IsShortList}
use Rattle.wire.specs.Reads.{◌>>=◌, number_at, byte_at, text_at, items_at, list_at}

abbrev pub IsBytes : List ℕ → Type 0
IsBytes bytes = (i : ℕ) → get_or bytes i 0 < 256

pub IsBytes-drop : (n : ℕ) (bytes : List ℕ) → IsBytes bytes → IsBytes (drop n bytes)
IsBytes-drop n bytes h i = rw get_or-drop (h (n + i))

IsBytes-take : (n : ℕ) (bytes : List ℕ) → IsBytes bytes → IsBytes (take n bytes)
IsBytes-take n bytes h i =
    elim (cases_lt i n) [
      | inl lt ↦ rw (get_or-take n bytes i 0 lt) (h i)
      | inr le ↦ rw (get_or_past (take n bytes) i 0 (omega (arith, length-take n bytes))) (omega arith)
    ]

pub IsBytes-rest : (b : ℕ) (bytes : List ℕ) → IsBytes (b ∷ bytes) → IsBytes bytes
IsBytes-rest b bytes h i = h (suc i)

-- ---- steps of reading

-- a step that gave something, and what the next made of it
pub record Bound {A B : Type 0} (r : Option A) (f : A → Option B) (y : B) : Type 0 where
  pub value : A
  pub was : r ≡ Some value
  pub next : f value ≡ Some y

pub bind_some : {A B : Type 0} (r : Option A) (f : A → Option B) (y : B) → (r >>= f) ≡ Some y → Bound r f y
bind_some (Some x) f y e = record { value = x; was = refl; next = e }
bind_some None f y e = absurd cc

abbrev found : {A : Type 0} → A → Option A
found x = Some x

pub some_is : {A : Type 0} (x y : A) → found x ≡ found y → x ≡ y
some_is x y e = cc

-- a test that was passed
pub guard_some : {A : Type 0} (b : Bool) (x y : A) → cond b (Some x) None ≡ Some y → (b ≡ true) × (x ≡ y)
guard_some true x y e = (refl, cc)
guard_some false x y e = absurd cc

-- a test that was not failed
pub guard_not : {A : Type 0} (b : Bool) (x y : A) → cond b None (Some x) ≡ Some y → (b ≡ false) × (x ≡ y)
guard_not true x y e = absurd cc
guard_not false x y e = (refl, cc)

-- which way a test went
pub chosen : {X : Type 0} (b : Bool) (x y z : X) → cond b x y ≡ z → ((b ≡ true) × (x ≡ z)) ⊎ ((b ≡ false) × (y ≡ z))
chosen true x y z e = inl (refl, e)
chosen false x y z e = inr (refl, e)

-- ---- the laws, and how they are put together

-- what was read from the front of bytes: a value that fits, made into m, and its spelling before the rest
pub record Taken {A M : Type 0} (spell : A → List ℕ) (fits : A → Type 0) (make : A → M) (bytes : List ℕ) (m : M) (rest : List ℕ) : Type 0 where
  pub value : A
  pub made : make value ≡ m
  pub fitting : fits value
  pub parts : bytes ≡ spell value ++ rest
  pub left : IsBytes rest

pub record Law {A M : Type 0} (spell : A → List ℕ) (fits : A → Type 0) (make : A → M) (read : List ℕ → Option (M × List ℕ)) : Type 0 where
  pub takes : (bytes : List ℕ) (m : M) (rest : List ℕ) → IsBytes bytes → read bytes ≡ Some (m, rest) → Taken spell fits make bytes m rest
  pub again : (a : A) (rest : List ℕ) → fits a → read (spell a ++ rest) ≡ Some (make a, rest)

-- the field itself is what is made
abbrev pub FieldLaw : {A : Type 0} → (A → List ℕ) → (A → Type 0) → (List ℕ → Option (A × List ℕ)) → Type 0
FieldLaw spell fits read = Law spell fits (λ a. a) read

-- nothing is left to be read
pub finish : {M : Type 0} (m : M) → Law (λ (_ : Unit {0}). []) (λ _. Unit {0}) (λ _. m) (λ bytes. Some (m, bytes))
finish {M} m = record {
  takes = λ bytes n rest h e.
      let p = some_is (m, bytes) (n, rest) e in
      record { value = tt; made = ap (λ (x : M × List ℕ). x.0) p; fitting = tt; parts = ap (λ (x : M × List ℕ). x.1) p; left = subst IsBytes (ap (λ (x : M × List ℕ). x.1) p) h };
  again = λ a rest f. refl;
}

-- what is made of what was read, if anything
pub pick : {M : Type 0} (o : Option M) → Law (λ (_ : M). []) (λ m. o ≡ Some m) (λ m. m) (λ bytes. o >>= λ m. Some (m, bytes))
pick {M} o = record {
  takes = λ bytes n rest h e.
      let b = bind_some o (λ m. Some (m, bytes)) (n, rest) e in
      let p = some_is (b.value, bytes) (n, rest) b.next in
      record { value = b.value; made = ap (λ (x : M × List ℕ). x.0) p; fitting = b.was; parts = ap (λ (x : M × List ℕ). x.1) p; left = subst IsBytes (ap (λ (x : M × List ℕ). x.1) p) h };
  again = λ a rest f. ap (λ (x : Option M). x >>= λ m. Some (m, rest)) f;
}

-- a field, and then the others
pub then : {A B M : Type 0} {sA : A → List ℕ} {fA : A → Type 0} {rA : List ℕ → Option (A × List ℕ)} {sB : B → List ℕ} {fB : A → B → Type 0} {make : A → B → M} {k : A → List ℕ → Option (M × List ℕ)}
    → FieldLaw sA fA rA → ((a : A) → Law sB (fB a) (make a) (k a))
    → Law (λ (p : A × B). sA p.0 ++ sB p.1) (λ p. fA p.0 × fB p.0 p.1) (λ p. make p.0 p.1) (λ bytes. rA bytes >>= λ x. k x.0 x.1)
then {A} {B} {M} {sA} {fA} {rA} {sB} {fB} {make} {k} first next = record {
  takes = λ bytes m rest h e.
      let b = bind_some (rA bytes) (λ x. k x.0 x.1) (m, rest) e in
      let t = first.takes bytes b.value.0 b.value.1 h b.was in
      let u = (next b.value.0).takes b.value.1 m rest t.left b.next in
      record {
        value = (t.value, u.value);
        made = ap (λ (a : A). make a u.value) t.made ∙ u.made;
        fitting = (t.fitting, subst (λ (a : A). fB a u.value) (sym t.made) u.fitting);
        parts = t.parts ∙ ap (λ (l : List ℕ). sA t.value ++ l) u.parts ∙ sym (append_assoc (sA t.value) (sB u.value) rest);
        left = u.left;
      };
  again = λ p rest f.
      ap (λ (l : List ℕ). rA l >>= λ x. k x.0 x.1) (append_assoc (sA p.0) (sB p.1) rest)
      ∙ ap (λ (o : Option (A × List ℕ)). o >>= λ x. k x.0 x.1) (first.again p.0 (sB p.1 ++ rest) f.0)
      ∙ (next p.0).again p.1 rest f.1;
}

-- a value as it stands in its type, before the parts that it is made of
pub record Back {A M : Type 0} (spell : A → List ℕ) (fits : A → Type 0) (make : A → M) (spelled : List ℕ) (m : M) : Type 0 where
  pub value : A
  pub made : make value ≡ m
  pub fitting : fits value
  pub same : spell value ≡ spelled

-- a law of parts is a law of what is made of them
pub recast : {A M : Type 0} {spell : A → List ℕ} {fits : A → Type 0} {make : A → M} {read : List ℕ → Option (M × List ℕ)} (spell' : M → List ℕ) (fits' : M → Type 0)
    → Law spell fits make read → ((a : A) → fits a → (spell a ≡ spell' (make a)) × fits' (make a)) → ((m : M) → fits' m → Back spell fits make (spell' m) m) → FieldLaw spell' fits' read
recast {A} {M} {spell} {fits} {make} {read} spell' fits' law to from = record {
  takes = λ bytes m rest h e.
      let t = law.takes bytes m rest h e in
      let there = to t.value t.fitting in
      record {
        value = m;
        made = refl;
        fitting = subst fits' t.made there.1;
        parts = t.parts ∙ ap (λ (l : List ℕ). l ++ rest) (there.0 ∙ ap spell' t.made);
        left = t.left;
      };
  again = λ m rest f.
      let b = from m f in
      ap (λ (l : List ℕ). read (l ++ rest)) (sym b.same) ∙ law.again b.value rest b.fitting ∙ ap (λ (x : M). Some (x, rest)) b.made;
}

-- a field that is refused unless it passes a test
pub tested : {A : Type 0} {spell : A → List ℕ} {fits : A → Type 0} {read : List ℕ → Option (A × List ℕ)} (test : A → Bool) → FieldLaw spell fits read
    → FieldLaw spell (λ a. fits a × (test a ≡ true)) (λ bytes. read bytes >>= λ x. cond (test x.0) (Some x) None)
tested {A} {spell} {fits} {read} test law = record {
  takes = λ bytes m rest h e.
      let b = bind_some (read bytes) (λ x. cond (test x.0) (Some x) None) (m, rest) e in
      let g = guard_some (test b.value.0) b.value (m, rest) b.next in
      let t = law.takes bytes m rest h (b.was ∙ ap (λ (x : A × List ℕ). Some x) g.1) in
      let m-is : t.value ≡ m = t.made in
      record {
        value = t.value;
        made = t.made;
        fitting = (t.fitting, subst (λ (a : A). test a ≡ true) (ap (λ (x : A × List ℕ). x.0) g.1 ∙ sym m-is) g.0);
        parts = t.parts;
        left = t.left;
      };
  again = λ a rest f.
      ap (λ (o : Option (A × List ℕ)). o >>= λ x. cond (test x.0) (Some x) None) (law.again a rest f.0)
      ∙ ap (λ (t : Bool). cond t (Some (a, rest)) None) f.1;
}

-- the same law, for values of which something equivalent is known
pub refit : {A : Type 0} {spell : A → List ℕ} {fits : A → Type 0} {read : List ℕ → Option (A × List ℕ)} (fits' : A → Type 0)
    → ((a : A) → fits a → fits' a) → ((a : A) → fits' a → fits a) → FieldLaw spell fits read → FieldLaw spell fits' read
refit {A} {spell} fits' to from law = recast spell fits' law (λ a f. (refl, to a f)) (λ a f. record { value = a; made = refl; fitting = from a f; same = refl })

-- ---- numbers

-- the bytes of the number in k bytes are these bytes
abbrev IsWide : ℕ → Type 0
IsWide k = (bytes : List ℕ) → length bytes ≡ k → IsBytes bytes → big_bytes k (big_number k bytes) ≡ bytes

wide2 : IsWide 2
wide2 bytes len fits = be_bytes_2 bytes _ len fits (omega arith)

wide4 : IsWide 4
wide4 bytes len fits = be_bytes_4 bytes _ len fits (omega arith)

wide8 : IsWide 8
wide8 bytes len fits = be_bytes_8 bytes _ len fits (omega arith)

number_law : (k : ℕ) → IsWide k → FieldLaw (number k) (λ n. n < 256 ^ k) (number_at k)
unfolding number number_at
number_law k wide = record {
  takes = λ bytes m rest h e.
      let g = guard_not (ltb (length bytes) k) (big_number k bytes, drop k bytes) (m, rest) e in
      let long : k ≤ length bytes = ltb-false _ _ g.0 in
      let m-is : big_number k bytes ≡ m = ap (λ (p : ℕ × List ℕ). p.0) g.1 in
      let rest-is : drop k bytes ≡ rest = ap (λ (p : ℕ × List ℕ). p.1) g.1 in
      let front : big_bytes k (big_number k (take k bytes)) ≡ take k bytes = wide (take k bytes) (omega (arith, length-take k bytes)) (IsBytes-take k bytes h) in
      let whole : big_bytes k (big_number k bytes) ≡ take k bytes = ap (big_bytes k) (sym (big_from-take 0 k k bytes (omega arith))) ∙ front in
      record {
        value = big_number k bytes;
        made = m-is;
        fitting = big_from-lt 0 k bytes h;
        parts = sym (take-append-drop k bytes) ∙ ap (λ (l : List ℕ). l ++ drop k bytes) (sym whole) ∙ ap (λ (l : List ℕ). big_bytes k (big_number k bytes) ++ l) rest-is;
        left = subst IsBytes rest-is (IsBytes-drop k bytes h);
      };
  again = λ n rest f.
      let len : length (big_bytes k n) ≡ k = length-bytes_high_first k n in
      let long : ltb (length (big_bytes k n ++ rest)) k ≡ false = le-ltb _ _ (omega (arith, length-append (big_bytes k n) rest)) in
      rw (long, big_number-reads_back k n rest f, drop_at (big_bytes k n) rest k len) refl;
}

pub number2 : FieldLaw (number 2) (λ n. n < 2 ^ 16) (number_at 2)
number2 = number_law 2 wide2

pub number4 : FieldLaw (number 4) (λ n. n < 2 ^ 32) (number_at 4)
number4 = number_law 4 wide4

pub number8 : FieldLaw (number 8) (λ n. n < 2 ^ 64) (number_at 8)
number8 = number_law 8 wide8

-- ---- bytes

byte_takes : (bytes : List ℕ) (m : ℕ) (rest : List ℕ) → IsBytes bytes → byte_at bytes ≡ Some (m, rest) → Taken one (λ b. b < 256) (λ b. b) bytes m rest
unfolding byte_at
byte_takes [] m rest h e = absurd cc
byte_takes (b ∷ bytes) m rest h e =
    let p = some_is (b, bytes) (m, rest) e in
    let rest-is : bytes ≡ rest = ap (λ (x : ℕ × List ℕ). x.1) p in
    record { value = b; made = ap (λ (x : ℕ × List ℕ). x.0) p; fitting = h 0; parts = ap (λ (l : List ℕ). b ∷ l) rest-is; left = subst IsBytes rest-is (IsBytes-rest b bytes h) }

pub byte_law : FieldLaw one (λ b. b < 256) byte_at
unfolding byte_at
byte_law = record { takes = byte_takes; again = λ b rest f. refl }

byte_again : (b : ℕ) (rest : List ℕ) → byte_at (b ∷ rest) ≡ Some (b, rest)
unfolding byte_at
byte_again b rest = refl

find_passes : {A : Type 0} (test : A → Bool) (xs : List A) (x : A) → find test xs ≡ Some x → test x ≡ true
find_passes test [] x e = absurd cc
find_passes {A} test (y ∷ ys) x e =
    let Goal : Bool → Type 0 = λ b. cond b (Some y) (find test ys) ≡ Some x → test y ≡ b → test x ≡ true in
    let both : (b : Bool) → Goal b = λ b. elim b as Goal [
      | true ↦ λ h is. subst (λ (z : A). test z ≡ true) (some_is y x h) is
      | false ↦ λ h is. find_passes test ys x h
    ] in
    both (test y) e refl

-- a byte that stands for a value of a list of values, each with a byte of its own
pub code_law : {A : Type 0} (code : A → ℕ) (all : List A) → ((a : A) → find (λ x. eqb (code x) (code a)) all ≡ Some a)
    → FieldLaw (λ a. one (code a)) (λ _. Unit {0}) (λ bytes. byte_at bytes >>= λ b. find (λ x. eqb (code x) b.0) all >>= λ a. Some (a, b.1))
code_law {A} code all own = record {
  takes = λ bytes m rest h e.
      let b = bind_some (byte_at bytes) (λ b. find (λ x. eqb (code x) b.0) all >>= λ a. Some (a, b.1)) (m, rest) e in
      let t = byte_law.takes bytes b.value.0 b.value.1 h b.was in
      let u = (pick (find (λ x. eqb (code x) b.value.0) all)).takes b.value.1 m rest t.left b.next in
      let is : code u.value ≡ b.value.0 = eqb-true _ _ (find_passes (λ x. eqb (code x) b.value.0) all u.value u.fitting) in
      record {
        value = u.value;
        made = u.made;
        fitting = tt;
        parts = t.parts ∙ ap (λ (l : List ℕ). one t.value ++ l) u.parts ∙ ap (λ (c : ℕ). one c ++ rest) (t.made ∙ sym is);
        left = u.left;
      };
  again = λ a rest f.
      ap (λ (o : Option (ℕ × List ℕ)). o >>= λ b. find (λ x. eqb (code x) b.0) all >>= λ a. Some (a, b.1)) (byte_again (code a) rest)
      ∙ ap (λ (o : Option A). o >>= λ x. Some (x, rest)) (own a);
}

-- ---- texts and lists

pub text_law : FieldLaw text IsShortText text_at
unfolding text text_at
text_law = record {
  takes = λ bytes m rest h e.
      let b = bind_some (number_at 4 bytes) (λ n. cond (ltb (length n.1) n.0) None (Some (take n.0 n.1, drop n.0 n.1))) (m, rest) e in
      let n = b.value.0 in
      let after = b.value.1 in
      let t = number4.takes bytes n after h b.was in
      let g = guard_not (ltb (length after) n) (take n after, drop n after) (m, rest) b.next in
      let long : n ≤ length after = ltb-false _ _ g.0 in
      let m-is : take n after ≡ m = ap (λ (p : List ℕ × List ℕ). p.0) g.1 in
      let rest-is : drop n after ≡ rest = ap (λ (p : List ℕ × List ℕ). p.1) g.1 in
      let len : length (take n after) ≡ n = omega (arith, length-take n after) in
      let n-is : t.value ≡ n = t.made in
      let split : after ≡ take n after ++ rest = sym (take-append-drop n after) ∙ ap (λ (l : List ℕ). take n after ++ l) rest-is in
      record {
        value = take n after;
        made = m-is;
        fitting = omega (arith, len, n-is, t.fitting);
        parts = t.parts ∙ ap (λ (l : List ℕ). number 4 t.value ++ l) split ∙ ap (λ (k : ℕ). number 4 k ++ (take n after ++ rest)) (n-is ∙ sym len) ∙ sym (append_assoc (number 4 (length (take n after))) (take n after) rest);
        left = subst IsBytes rest-is (IsBytes-drop n after t.left);
      };
  again = λ m rest f.
      let long : ltb (length (m ++ rest)) (length m) ≡ false = le-ltb _ _ (omega (arith, length-append m rest)) in
      ap text_at (append_assoc (number 4 (length m)) m rest)
      ∙ ap (λ (o : Option (ℕ × List ℕ)). o >>= λ n. cond (ltb (length n.1) n.0) None (Some (take n.0 n.1, drop n.0 n.1))) (number4.again (length m) (m ++ rest) f)
      ∙ rw (long, take_at m rest (length m) refl, drop_at m rest (length m) refl) refl;
}

record ItemsTaken {A : Type 0} (spell : A → List ℕ) (fits : A → Type 0) (n : ℕ) (bytes : List ℕ) (xs : List A) (rest : List ℕ) : Type 0 where
  len : length xs ≡ n
  fitting : AllByRecursion fits xs
  parts : bytes ≡ flat_map spell xs ++ rest
  left : IsBytes rest

items_take : {A : Type 0} {spell : A → List ℕ} {fits : A → Type 0} {read : List ℕ → Option (A × List ℕ)} → FieldLaw spell fits read
    → (n : ℕ) (bytes : List ℕ) (xs : List A) (rest : List ℕ) → IsBytes bytes → items_at read n bytes ≡ Some (xs, rest) → ItemsTaken spell fits n bytes xs rest
unfolding items_at
items_take {A} {spell} {fits} {read} law zero bytes xs rest h e =
    let p = some_is ([], bytes) (xs, rest) e in
    subst (λ (y : List A × List ℕ). ItemsTaken spell fits 0 bytes y.0 y.1) p (record { len = refl; fitting = tt; parts = refl; left = h })
items_take {A} {spell} {fits} {read} law (suc n) bytes xs rest h e =
    let a = bind_some (read bytes) (λ first. items_at read n first.1 >>= λ others. Some (first.0 ∷ others.0, others.1)) (xs, rest) e in
    let b = bind_some (items_at read n a.value.1) (λ others. Some (a.value.0 ∷ others.0, others.1)) (xs, rest) a.next in
    let t = law.takes bytes a.value.0 a.value.1 h a.was in
    let u = items_take law n a.value.1 b.value.0 b.value.1 t.left b.was in
    let p = some_is (a.value.0 ∷ b.value.0, b.value.1) (xs, rest) b.next in
    let fit : fits a.value.0 = subst fits t.made t.fitting in
    let parts : bytes ≡ (spell a.value.0 ++ flat_map spell b.value.0) ++ b.value.1 =
    t.parts ∙ ap (λ (l : List ℕ). spell t.value ++ l) u.parts ∙ sym (append_assoc (spell t.value) (flat_map spell b.value.0) b.value.1)
    ∙ ap (λ (x : A). (spell x ++ flat_map spell b.value.0) ++ b.value.1) t.made in
    subst (λ (y : List A × List ℕ). ItemsTaken spell fits (suc n) bytes y.0 y.1) p (record { len = ap suc u.len; fitting = (fit, u.fitting); parts = parts; left = u.left })

items_again : {A : Type 0} {spell : A → List ℕ} {fits : A → Type 0} {read : List ℕ → Option (A × List ℕ)} → FieldLaw spell fits read
    → (xs : List A) (rest : List ℕ) → AllByRecursion fits xs → items_at read (length xs) (flat_map spell xs ++ rest) ≡ Some (xs, rest)
unfolding items_at
items_again law [] rest f = refl
items_again {A} {spell} {fits} {read} law (x ∷ xs) rest f =
    ap (items_at read (suc (length xs))) (append_assoc (spell x) (flat_map spell xs) rest)
    ∙ ap (λ (o : Option (A × List ℕ)). o >>= λ first. items_at read (length xs) first.1 >>= λ others. Some (first.0 ∷ others.0, others.1)) (law.again x (flat_map spell xs ++ rest) f.0)
    ∙ ap (λ (o : Option (List A × List ℕ)). o >>= λ others. Some (x ∷ others.0, others.1)) (items_again law xs rest f.1)

pub list_law : {A : Type 0} {spell : A → List ℕ} {fits : A → Type 0} {read : List ℕ → Option (A × List ℕ)} → FieldLaw spell fits read
    → FieldLaw (list spell) (IsShortList fits) (list_at read)
unfolding list list_at
list_law {A} {spell} {fits} {read} law = record {
  takes = λ bytes m rest h e.
      let b = bind_some (number_at 2 bytes) (λ n. items_at read n.0 n.1) (m, rest) e in
      let t = number2.takes bytes b.value.0 b.value.1 h b.was in
      let u = items_take law b.value.0 b.value.1 m rest t.left b.next in
      record {
        value = m;
        made = refl;
        fitting = (omega (arith, u.len, t.made, t.fitting), u.fitting);
        parts = t.parts ∙ ap (λ (l : List ℕ). number 2 t.value ++ l) u.parts ∙ ap (λ (k : ℕ). number 2 k ++ (flat_map spell m ++ rest)) (t.made ∙ sym u.len) ∙ sym (append_assoc (number 2 (length m)) (flat_map spell m) rest);
        left = u.left;
      };
  again = λ m rest f.
      ap (list_at read) (append_assoc (number 2 (length m)) (flat_map spell m) rest)
      ∙ ap (λ (o : Option (ℕ × List ℕ)). o >>= λ n. items_at read n.0 n.1) (number2.again (length m) (flat_map spell m ++ rest) f.0)
      ∙ items_again law m rest f.1;
}
