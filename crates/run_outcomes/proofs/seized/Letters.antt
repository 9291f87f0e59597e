-- A packet that is delivered is a Seized for an attempt, or leaves what came for it.
use Rattle.std.specs.Prelude.{ℕ, ◌≡◌, ◌==◌, ◌&&◌, ◌⊎◌, Bool, true, false, List, ◌∷◌, Option, None, Some, if◌then◌else◌}
use Rattle.std.proofs.Common.{arith, refl, sym, ap, ◌∙◌, inl, inr}
use Rattle.cl_base.specs.Seizings.{SeizeResult}
use Rattle.cmm_attempt.proofs.Basics.{and_cases, false_true, same_number}
use Rattle.history.specs.Letters.{Letter, is_letter, says}
use Rattle.history.specs.Moment.{Moment}
use Rattle.history.specs.Names as name
use Rattle.history.specs.Names.{Name, named, same_name}
use Rattle.history.specs.Queue as told
use Rattle.history.specs.Seizing.{or_else}
use Rattle.history.specs.Setting.{coordinator}
use Rattle.history.specs.Trace.{delivered}
use Rattle.wire.specs.declared.message.Body.{Body}
use Rattle.wire.specs.declared.message.Body.TheVariants as body
use Rattle.world_model.specs.Sends.{name_of}
use Rattle.run_messages.specs.records.Kept.{Came}
use Rattle.run_outcomes.proofs.said.Silent.{IsSeized}

if_one : {X : Type 0} (b : Bool) (x y : X) → b ≡ true → (if b then x else y) ≡ x
if_one true x y is = refl
if_one false x y is = absurd (false_true is)

if_two : {X : Type 0} (b : Bool) (x y : X) → b ≡ false → (if b then x else y) ≡ y
if_two true x y is = absurd (false_true (sym is))
if_two false x y is = refl

both : (a b : Bool) → a ≡ true → b ≡ true → (a && b) ≡ true
both true b h k = k
both false b h k = absurd (false_true h)

itself : (a b : ℕ) → a ≡ b → (a == b) ≡ true
itself a b e = grind arith

-- how a Seized is called
seized_name : (e d x : ℕ) (r : SeizeResult) → same_name (named (name_of (body.Seized e d r))) (name.Seized x) ≡ (d == x)
seized_name e d x r = refl

other_name : (b : Body) (d : ℕ) → (IsSeized b → ⊥) → same_name (named (name_of b)) (name.Seized d) ≡ false
other_name (body.Seized e x r) d silent = absurd (silent tt)
other_name _ d silent = refl

-- the letter tells it how the seizing of d for e ended, from k to the coordinator
pub record Hits (e d k : ℕ) (l : Letter) (b : Body) : Type 0 where
  pub result : SeizeResult
  pub body_so : b ≡ body.Seized e d result
  pub from : l.from ≡ k
  pub to : l.to ≡ coordinator e

-- .. or nothing of it
letter_tells : (e d k : ℕ) (l : Letter) (b : Body) (earlier : Option SeizeResult) → says l.bytes ≡ Some b → l.name ≡ named (name_of b)
    → (told.told_by e d k (Some l) earlier ≡ earlier) ⊎ Hits e d k l b
letter_tells e d k l b earlier read called = by_test (is_letter (name.Seized d) k (coordinator e) l) refl
  where
    other : (c : Body) → b ≡ c → same_name l.name (name.Seized d) ≡ true → (IsSeized c → ⊥) → (told.told_by e d k (Some l) earlier ≡ earlier) ⊎ Hits e d k l b
    other c is same silent = absurd (false_true (sym (other_name c d silent) ∙ (sym (ap (λ z. same_name z (name.Seized d)) (called ∙ ap (λ z. named (name_of z)) is)) ∙ same)))

    by_epoch : (f x : ℕ) (r : SeizeResult) → b ≡ body.Seized f x r → x ≡ d → l.from ≡ k → l.to ≡ coordinator e → is_letter (name.Seized d) k (coordinator e) l ≡ true → (t : Bool) → (f == e) ≡ t
        → (told.told_by e d k (Some l) earlier ≡ earlier) ⊎ Hits e d k l b
    by_epoch f x r is at from to hits true same =
        inr (record { result = r; body_so = is ∙ (ap (λ z. body.Seized z x r) (same_number f e same) ∙ ap (λ z. body.Seized e z r) at); from = from; to = to })
    by_epoch f x r is at from to hits false other =
        inl (if_one (is_letter (name.Seized d) k (coordinator e) l) (or_else (told.seized_in e (says l.bytes)) earlier) earlier hits
        ∙ (ap (λ o. or_else (told.seized_in e o) earlier) (read ∙ ap Some is) ∙ ap (λ o. or_else o earlier) (if_two (f == e) (Some r) None other)))

    by_body : (c : Body) → b ≡ c → l.from ≡ k → l.to ≡ coordinator e → same_name l.name (name.Seized d) ≡ true → is_letter (name.Seized d) k (coordinator e) l ≡ true
        → (told.told_by e d k (Some l) earlier ≡ earlier) ⊎ Hits e d k l b
    by_body (body.Seized f x r) is from to same hits =
        by_epoch f x r is (same_number x d (sym (ap (λ z. same_name z (name.Seized d)) (called ∙ ap (λ z. named (name_of z)) is)) ∙ same)) from to hits (f == e) refl
    by_body (body.Heartbeat promised session member) is from to same hits = other (body.Heartbeat promised session member) is same (λ z. z)
    by_body (body.Collect p members) is from to same hits = other (body.Collect p members) is same (λ z. z)
    by_body (body.Promise p newest members valid flagged committed pending) is from to same hits = other (body.Promise p newest members valid flagged committed pending) is same (λ z. z)
    by_body (body.Nack p promised) is from to same hits = other (body.Nack p promised) is same (λ z. z)
    by_body (body.SeizeQuorum p members x) is from to same hits = other (body.SeizeQuorum p members x) is same (λ z. z)
    by_body (body.SeizeData p members x) is from to same hits = other (body.SeizeData p members x) is same (λ z. z)
    by_body (body.Install i) is from to same hits = other (body.Install i) is same (λ z. z)
    by_body (body.Ready p devices report) is from to same hits = other (body.Ready p devices report) is same (λ z. z)
    by_body (body.Start p) is from to same hits = other (body.Start p) is same (λ z. z)
    by_body (body.Prepare p place text) is from to same hits = other (body.Prepare p place text) is same (λ z. z)
    by_body (body.Prepared p place) is from to same hits = other (body.Prepared p place) is same (λ z. z)
    by_body (body.Commit p place) is from to same hits = other (body.Commit p place) is same (λ z. z)
    by_body (body.Order o) is from to same hits = other (body.Order o) is same (λ z. z)
    by_body (body.Done p number ended) is from to same hits = other (body.Done p number ended) is same (λ z. z)
    by_body (body.Request p number text) is from to same hits = other (body.Request p number text) is same (λ z. z)
    by_body (body.Answer p number text) is from to same hits = other (body.Answer p number text) is same (λ z. z)
    by_body (body.Excluded p newest) is from to same hits = other (body.Excluded p newest) is same (λ z. z)

    by_test : (t : Bool) → is_letter (name.Seized d) k (coordinator e) l ≡ t → (told.told_by e d k (Some l) earlier ≡ earlier) ⊎ Hits e d k l b
    by_test true hits =
        let two : ((same_name l.name (name.Seized d) && (l.from == k)) ≡ true) × ((l.to == coordinator e) ≡ true) = and_cases (same_name l.name (name.Seized d) && (l.from == k)) (l.to == coordinator e) hits in
        let one : (same_name l.name (name.Seized d) ≡ true) × ((l.from == k) ≡ true) = and_cases (same_name l.name (name.Seized d)) (l.from == k) two.0 in
        by_body b refl (same_number l.from k one.1) (same_number l.to (coordinator e) two.1) one.0 hits
    by_test false misses = inl (if_two (is_letter (name.Seized d) k (coordinator e) l) (or_else (told.seized_in e (says l.bytes)) earlier) earlier misses)

hit_tells : (e d k : ℕ) (l : Letter) (r : SeizeResult) (earlier : Option SeizeResult) → says l.bytes ≡ Some (body.Seized e d r) → l.name ≡ named (name_of (body.Seized e d r)) → l.from ≡ k → l.to ≡ coordinator e
    → told.told_by e d k (Some l) earlier ≡ Some r
hit_tells e d k l r earlier read called from to =
    if_one (is_letter (name.Seized d) k (coordinator e) l) (or_else (told.seized_in e (says l.bytes)) earlier) earlier
    (both (same_name l.name (name.Seized d) && (l.from == k)) (l.to == coordinator e)
    (both (same_name l.name (name.Seized d)) (l.from == k) (ap (λ z. same_name z (name.Seized d)) called ∙ (seized_name e d d r ∙ itself d d refl)) (itself l.from k from)) (itself l.to (coordinator e) to))
    ∙ (ap (λ o. or_else (told.seized_in e o) earlier) read ∙ ap (λ o. or_else o earlier) (if_one (e == e) (Some r) None (itself e e refl)))

-- ---- the moment

-- what came, after it
pub delivered_tells : (e d k number from n : ℕ) (ms : List Moment) (b : Body) (came : Came (delivered number from n ∷ ms) n from b)
    → (told.seized_by e d k (delivered number from n ∷ ms) ≡ told.seized_by e d k ms) ⊎ Hits e d k came.letter b
delivered_tells e d k number from n ms b came = by_case (letter_tells e d k came.letter b (told.seized_by e d k ms) came.read came.called)
  where
    found : told.seized_by e d k (delivered number from n ∷ ms) ≡ told.told_by e d k (Some came.letter) (told.seized_by e d k ms)
    found = ap (λ o. told.told_by e d k o (told.seized_by e d k ms)) came.here

    by_case : (told.told_by e d k (Some came.letter) (told.seized_by e d k ms) ≡ told.seized_by e d k ms) ⊎ Hits e d k came.letter b
        → (told.seized_by e d k (delivered number from n ∷ ms) ≡ told.seized_by e d k ms) ⊎ Hits e d k came.letter b
    by_case (inl same) = inl (found ∙ same)
    by_case (inr hits) = inr hits

pub delivered_hits : (e d number from n : ℕ) (r : SeizeResult) (ms : List Moment) (b : Body) (came : Came (delivered number from n ∷ ms) n from b) → b ≡ body.Seized e d r → coordinator e ≡ n
    → told.seized_by e d from (delivered number from n ∷ ms) ≡ Some r
delivered_hits e d number from n r ms b came is own =
    ap (λ o. told.told_by e d from o (told.seized_by e d from ms)) came.here
    ∙ hit_tells e d from came.letter r (told.seized_by e d from ms) (came.read ∙ ap Some is) (came.called ∙ ap (λ z. named (name_of z)) is) came.sender (came.receiver ∙ sym own)
