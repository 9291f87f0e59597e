-- The laws of messages: what is decoded is spelled so, what is spelled so is decoded, and no spelling begins another.
use Rattle.std.proofs.Common.{◌≡◌, ◌≢◌, ℕ, cond, eqb, List, [], ◌++◌, length, Option, Some, None, Result, Ok, Err, refl, sym, ap, subst, ◌∙◌}
use Rattle.std.specs.Prelude.{IfOk, MatchOption}
use Rattle.std.specs.declared.alloc.AllocError.{AllocError}
use Rattle.std.proofs.lemmas.Bool.{eqb-true}
use Rattle.std.proofs.lemmas.List.{append-nil, nil_from_length}
use Rattle.cl_base.specs.declared.packet.MessageKind.{MessageKind}
use Rattle.wire.specs.declared.message.Body.{Body}
use Rattle.wire.specs.declared.message.Message.{Message}
use Rattle.cl_base.specs.Kinds.{kind_byte}
use Rattle.wire.specs.Kinds.{kind_of}
use Rattle.wire.specs.Spelling.{one, fields, spelling, Fits, IsNode}
use Rattle.wire.specs.Reads.{◌>>=◌, kind_at, node_at, body_at, message_at, whole_of}
use Rattle.wire.proofs.Fields.{IsBytes, bind_some, some_is, guard_some, Taken, FieldLaw}
use Rattle.wire.proofs.Parts.{kind_law, node_law}
use Rattle.wire.proofs.Bodies.{body_takes, body_again}

pub message_law : FieldLaw spelling Fits message_at
unfolding message_at
message_law = record {
  takes = λ bytes m rest h e.
      let a = bind_some (kind_at bytes) (λ k. node_at k.1 >>= λ s. body_at k.0 s.1 >>= λ b. Some (record { sender = s.0; body = b.0 }, b.1)) (m, rest) e in
      let k = a.value.0 in
      let b = bind_some (node_at a.value.1) (λ s. body_at k s.1 >>= λ b. Some (record { sender = s.0; body = b.0 }, b.1)) (m, rest) a.next in
      let n = b.value.0 in
      let c = bind_some (body_at k b.value.1) (λ b. Some (record { sender = n; body = b.0 }, b.1)) (m, rest) b.next in
      let made : Message = record { sender = n; body = c.value.0 } in
      let t = kind_law.takes bytes k a.value.1 h a.was in
      let u = node_law.takes a.value.1 n b.value.1 t.left b.was in
      let v = body_takes k b.value.1 c.value.0 c.value.1 u.left c.was in
      let kind-is : kind_byte t.value ≡ kind_byte (kind_of c.value.0) = ap kind_byte (t.made ∙ sym v.kind) in
      let inner : bytes ≡ one (kind_byte t.value) ++ (one u.value ++ (fields c.value.0 ++ c.value.1)) = t.parts ∙ ap (λ (l : List ℕ). one (kind_byte t.value) ++ l) (u.parts ∙ ap (λ (l : List ℕ). one u.value ++ l) v.parts) in
      let named : bytes ≡ one (kind_byte (kind_of c.value.0)) ++ (one n ++ (fields c.value.0 ++ c.value.1)) =
      inner ∙ ap (λ (x : ℕ). one x ++ (one u.value ++ (fields c.value.0 ++ c.value.1))) kind-is ∙ ap (λ (x : ℕ). one (kind_byte (kind_of c.value.0)) ++ (one x ++ (fields c.value.0 ++ c.value.1))) u.made in
      let whole : bytes ≡ spelling made ++ c.value.1 =
      named ∙ ap (λ (l : List ℕ). one (kind_byte (kind_of c.value.0)) ++ (one n ++ (l ++ c.value.1))) (sym (append-nil (fields c.value.0))) in
      subst (λ (y : Message × List ℕ). Taken spelling Fits (λ x. x) bytes y.0 y.1) (some_is (made, c.value.1) (m, rest) c.next)
      (record { value = made; made = refl; fitting = (subst IsNode u.made u.fitting, v.fitting); parts = whole; left = v.left });
  again = λ m rest f.
      ap (λ (l : List ℕ). message_at (one (kind_byte (kind_of m.body)) ++ (one m.sender ++ (l ++ rest)))) (append-nil (fields m.body))
      ∙ ap (λ (o : Option (MessageKind × List ℕ)). o >>= λ k. node_at k.1 >>= λ s. body_at k.0 s.1 >>= λ b. Some (record { sender = s.0; body = b.0 }, b.1)) (kind_law.again (kind_of m.body) (one m.sender ++ (fields m.body ++ rest)) tt)
      ∙ ap (λ (o : Option (ℕ × List ℕ)). o >>= λ s. body_at (kind_of m.body) s.1 >>= λ b. Some (record { sender = s.0; body = b.0 }, b.1)) (node_law.again m.sender (fields m.body ++ rest) f.0)
      ∙ ap (λ (o : Option (Body × List ℕ)). o >>= λ b. Some (record { sender = m.sender; body = b.0 }, b.1)) (body_again m.body rest f.1);
}

-- no spelling begins another, and a spelling is of one message
pub apart : (a b : Message) (x y : List ℕ) → Fits a → Fits b → spelling a ++ x ≡ spelling b ++ y → (a ≡ b) × (x ≡ y)
apart a b x y fa fb e =
    let same : (a, x) ≡ (b, y) = some_is (a, x) (b, y) (sym (message_law.again a x fa) ∙ ap message_at e ∙ message_law.again b y fb) in
    (ap (λ (p : Message × List ℕ). p.0) same, ap (λ (p : Message × List ℕ). p.1) same)

-- what is spelled so is read
pub whole_again : (m : Message) → Fits m → whole_of (spelling m) ≡ Some m
unfolding whole_of
whole_again m f =
    ap whole_of (sym (append-nil (spelling m)))
    ∙ ap (λ (o : Option (Message × List ℕ)). o >>= λ m. cond (eqb (length m.1) 0) (Some m.0) None) (message_law.again m [] f)

-- what is read is spelled so
pub whole_takes : (bytes : List ℕ) (m : Message) → IsBytes bytes → whole_of bytes ≡ Some m → Fits m × (bytes ≡ spelling m)
unfolding whole_of
whole_takes bytes m h e =
    let a = bind_some (message_at bytes) (λ m. cond (eqb (length m.1) 0) (Some m.0) None) m e in
    let g = guard_some (eqb (length a.value.1) 0) a.value.0 m a.next in
    let t = message_law.takes bytes a.value.0 a.value.1 h a.was in
    let nothing : a.value.1 ≡ [] = nil_from_length a.value.1 (eqb-true _ _ g.0) in
    let m-is : t.value ≡ m = t.made ∙ g.1 in
    (subst Fits m-is t.fitting, t.parts ∙ ap (λ (l : List ℕ). spelling t.value ++ l) nothing ∙ append-nil (spelling t.value) ∙ ap spelling m-is)

abbrev pub IsFound : List ℕ → Option Message → Type 0
IsFound bytes found = MatchOption found ((m : Message) → Fits m → bytes ≢ spelling m) (λ m. Fits m × (bytes ≡ spelling m))

nothing_else : {A : Type 0} (o : Option A) (x : A) → o ≡ None → o ≡ Some x → ⊥
nothing_else o x n s = cc

found_is : (bytes : List ℕ) (found : Option Message) → IsBytes bytes → found ≡ whole_of bytes → IsFound bytes found
found_is bytes (Some m) h e = whole_takes bytes m h (sym e)
found_is bytes None h e = λ m f spelled. nothing_else (whole_of bytes) m (sym e) (ap whole_of spelled ∙ whole_again m f)

pub decoded : (bytes : List ℕ) (r : Result (Option Message) AllocError) → IsBytes bytes → IfOk r (λ found. found ≡ whole_of bytes) → IfOk r (λ found. IsFound bytes found)
decoded bytes (Ok found) h e = found_is bytes found h e
decoded bytes (Err e) h is = tt
