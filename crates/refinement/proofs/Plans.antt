-- Plans that come to the same.
use Rattle.std.specs.Prelude.{ℕ, ◌≡◌, ◌++◌, List, [], ◌∷◌, Bool, true, false, Option, None, Some, if◌then◌else◌}
use Rattle.std.proofs.Common.{refl, sym, ap, ◌∙◌}
use Rattle.std.proofs.lemmas.List.{append_assoc, append-nil}
use Rattle.cmm_member.specs.Records.{NodeRecord}
use Rattle.record_disk.specs.Savings.{Saving}
use Rattle.record_disk.specs.declared.error.Loss.{Loss}
use Rattle.node_model.specs.declared.node.Node.{Node}
use Rattle.node_model.specs.declared.node.Node.TheVariants.{Down, Up}
use Rattle.node_model.specs.declared.node.UpNode.{UpNode}
use Rattle.node_model.specs.declared.output.Output.{Output}
use Rattle.node_model.specs.Plans.{Plan, and_then}
use Rattle.node_model.specs.Plans.Plan.{Stays, Falls, Says, Saves}
use Rattle.node_model.specs.Steps.{Outcome, carried, unless_lost}
use Rattle.refinement.specs.Courses.{saying}

-- on each disk, whatever was given before
pub record Same {K : Type 0} (saving : K → NodeRecord → Saving K) (me : ℕ) (p q : Plan) : Type 0 where
  pub is : (given : List Output) (disk : K) → carried saving me p given disk ≡ carried saving me q given disk

pub same : {K : Type 0} → (saving : K → NodeRecord → Saving K) (me : ℕ) (p : Plan) → Same saving me p p
same saving me p = record { is = λ given disk. refl }

pub same_is : {K : Type 0} → (saving : K → NodeRecord → Saving K) (me : ℕ) (p q : Plan) → p ≡ q → Same saving me p q
same_is saving me p q h = record { is = λ given disk. ap (λ r. carried saving me r given disk) h }

pub same_trans : {K : Type 0} → (saving : K → NodeRecord → Saving K) (me : ℕ) (p q r : Plan) → Same saving me p q → Same saving me q r → Same saving me p r
same_trans saving me p q r h k = record { is = λ given disk. h.is given disk ∙ k.is given disk }

pub same_says : {K : Type 0} → (saving : K → NodeRecord → Saving K) (me : ℕ) (os : List Output) (p q : Plan) → Same saving me p q → Same saving me (Says os p) (Says os q)
same_says saving me os p q h = record { is = λ given disk. h.is (given ++ os) disk }

pub same_saves : {K : Type 0} → (saving : K → NodeRecord → Saving K) (me : ℕ) (r : NodeRecord) (p q : Plan) → Same saving me p q → Same saving me (Saves r p) (Saves r q)
same_saves saving me r p q h = record {
  is = λ given disk. ap (λ o. unless_lost me given (saving disk r).after (saving disk r).lost o) (h.is given (saving disk r).after);
}

pub same_saying : {K : Type 0} → (saving : K → NodeRecord → Saving K) (me : ℕ) (os : List Output) (p q : Plan) → Same saving me p q → Same saving me (saying os p) (saying os q)
same_saying saving me [] p q h = h
same_saying saving me (o ∷ os) p q h = same_says saving me (o ∷ []) (saying os p) (saying os q) (same_saying saving me os p q h)

-- outputs one by one, or all at once
pub said_singly : {K : Type 0} → (saving : K → NodeRecord → Saving K) (me : ℕ) (os : List Output) (p : Plan) → Same saving me (Says os p) (saying os p)
said_singly saving me [] p = record { is = λ given disk. ap (λ g. carried saving me p g disk) (append-nil given) }
said_singly saving me (o ∷ os) p = record {
  is = λ given disk.
      ap (λ g. carried saving me p g disk) (sym (append_assoc given (o ∷ []) os)) ∙ (said_singly saving me os p).is (given ++ o ∷ []) disk;
}

-- outputs all at once, and one by one what follows
pub same_gives : {K : Type 0} → (saving : K → NodeRecord → Saving K) (me : ℕ) (os : List Output) (p q : Plan) → Same saving me p q → Same saving me (Says os p) (saying os q)
same_gives saving me os p q h = same_trans saving me (Says os p) (saying os p) (saying os q) (said_singly saving me os p) (same_saying saving me os p q h)

pub saying_append : (os more : List Output) (p : Plan) → saying (os ++ more) p ≡ saying os (saying more p)
saying_append [] more p = refl
saying_append (o ∷ os) more p = ap (λ q. Says (o ∷ []) q) (saying_append os more p)

pub saying_then : (os : List Output) (p : Plan) (f : UpNode → Plan) → and_then (saying os p) f ≡ saying os (and_then p f)
saying_then [] p f = refl
saying_then (o ∷ os) p f = ap (λ q. Says (o ∷ []) q) (saying_then os p f)

pub same_if : {K : Type 0} → (saving : K → NodeRecord → Saving K) (me : ℕ) (b : Bool) (p q x y : Plan) → Same saving me p x → Same saving me q y
    → Same saving me (if b then p else q) (if b then x else y)
same_if saving me true p q x y h k = h
same_if saving me false p q x y h k = k

-- One plan after another.

abbrev bound : {K : Type 0} → (K → NodeRecord → Saving K) → ℕ → Node → Outcome K → (UpNode → Plan) → Outcome K
bound saving me Down o f = o
bound saving me (Up x) o f = carried saving me (f x) o.given o.disk

abbrev bind : {K : Type 0} → (K → NodeRecord → Saving K) → ℕ → Outcome K → (UpNode → Plan) → Outcome K
bind saving me o f = bound saving me o.after o f

unless_bound : {K : Type 0} → (saving : K → NodeRecord → Saving K) (me : ℕ) (given : List Output) (disk : K) (lost : Option Loss) (o : Outcome K) (f : UpNode → Plan)
    → unless_lost me given disk lost (bind saving me o f) ≡ bind saving me (unless_lost me given disk lost o) f
unless_bound saving me given disk None o f = refl
unless_bound saving me given disk (Some loss) o f = refl

then_is : {K : Type 0} → (saving : K → NodeRecord → Saving K) (me : ℕ) (p : Plan) (f : UpNode → Plan) (given : List Output) (disk : K)
    → carried saving me (and_then p f) given disk ≡ bind saving me (carried saving me p given disk) f
then_is saving me (Stays x) f given disk = refl
then_is saving me (Falls why) f given disk = refl
then_is saving me (Says os rest) f given disk = then_is saving me rest f (given ++ os) disk
then_is saving me (Saves r rest) f given disk =
    ap (λ o. unless_lost me given (saving disk r).after (saving disk r).lost o) (then_is saving me rest f given (saving disk r).after)
    ∙ unless_bound saving me given (saving disk r).after (saving disk r).lost (carried saving me rest given (saving disk r).after) f

bound_same : {K : Type 0} → (saving : K → NodeRecord → Saving K) (me : ℕ) (n : Node) (o : Outcome K) (f g : UpNode → Plan) → ((x : UpNode) → Same saving me (f x) (g x))
    → bound saving me n o f ≡ bound saving me n o g
bound_same saving me Down o f g h = refl
bound_same saving me (Up x) o f g h = (h x).is o.given o.disk

pub same_then : {K : Type 0} → (saving : K → NodeRecord → Saving K) (me : ℕ) (p q : Plan) (f g : UpNode → Plan) → Same saving me p q → ((x : UpNode) → Same saving me (f x) (g x))
    → Same saving me (and_then p f) (and_then q g)
same_then saving me p q f g h k = record {
  is = λ given disk.
      then_is saving me p f given disk
      ∙ (ap (λ o. bind saving me o f) (h.is given disk) ∙ (bound_same saving me (carried saving me q given disk).after (carried saving me q given disk) f g k ∙ sym (then_is saving me q g given disk)));
}
