-- Rows that may stand in one table: each has its form, and the keys differ.
use Rattle.std.proofs.Common.{◌≡◌, ◌≢◌, ℕ, ◌+◌, ◌≤◌, ◌&&◌, List, [], ◌∷◌, ◌++◌, length, map, get_or, Bool, true, false, not, refl, ap, sym, ◌∙◌, length-append, arith}
use Rattle.std.specs.Prelude.{All, flat_map, nat_eq}
use Rattle.std.specs.List.{AllByRecursion}
use Rattle.std.specs.Cmp.Lexicographic.{pointwise, bytes_decides}
use Rattle.std.proofs.lemmas.List.{append_cancel_left}
use Rattle.std.proofs.lemmas.List.Elements.{All-cons, All-nil}
use Rattle.cl_base.specs.Names.{IsName}
use Rattle.ccr_text.specs.declared.rows.Row.{Row}
use Rattle.ccr_text.specs.TableText.{AreRows, IsRow, MayAllFollow}
use Rattle.ccr_text.proofs.CutLemmas.{cut_same}
use Rattle.ccr_rows.specs.Rows.{row, row_of}
use Rattle.row_laws.proofs.Values.{IsText, text_append, text_cons, text_name, name_lacks_dot}

pub each_append : {X : Type 0} (P : X → Type 0) (xs ys : List X) → AllByRecursion P xs → AllByRecursion P ys → AllByRecursion P (xs ++ ys)
each_append P [] ys a b = b
each_append P (x ∷ xs) ys a b = (a.0, each_append P xs ys a.1 b)

pub each_map : {X Y : Type 0} (P : Y → Type 0) (f : X → Y) (Q : X → Type 0) (step : (x : X) → Q x → P (f x)) (xs : List X) → AllByRecursion Q xs → AllByRecursion P (map f xs)
each_map P f Q step [] all = tt
each_map P f Q step (x ∷ xs) all = (step x all.0, each_map P f Q step xs all.1)

pub each_weaker : {X : Type 0} (Q P : X → Type 0) (step : (x : X) → Q x → P x) (xs : List X) → AllByRecursion Q xs → AllByRecursion P xs
each_weaker Q P step [] all = tt
each_weaker Q P step (x ∷ xs) all = (step x all.0, each_weaker Q P step xs all.1)

-- no row of the one list has the key of one of the other
abbrev pub Cross : List Row → List Row → Type 0
Cross xs ys = AllByRecursion (λ (x : Row). AllByRecursion (λ (y : Row). x.key ≢ y.key) ys) xs

abbrev pub Apart : List Row → Type 0
Apart [] = Unit {0}
Apart (x ∷ xs) = AllByRecursion (λ (y : Row). x.key ≢ y.key) xs × Apart xs

abbrev pub AreGood : List Row → Type 0
AreGood rows = AllByRecursion IsRow rows × Apart rows

-- ---- from there to a table

fresh : (before : List Row) (r : Row) (rows : List Row) → Cross before (r ∷ rows) → All (λ other. other.key ≢ r.key) before
fresh [] r rows cross = All-nil (λ (other : Row). other.key ≢ r.key)
fresh (b ∷ before) r rows cross = All-cons (λ (other : Row). other.key ≢ r.key) b before cross.0.0 (fresh before r rows cross.1)

cross_more : (before : List Row) (r : Row) (rows : List Row) → Cross before (r ∷ rows) → AllByRecursion (λ (y : Row). r.key ≢ y.key) rows → Cross (before ++ r ∷ []) rows
cross_more [] r rows cross next = (next, tt)
cross_more (b ∷ before) r rows cross next = (cross.0.1, cross_more before r rows cross.1 next)

follow : (before rows : List Row) → AllByRecursion IsRow rows → Apart rows → Cross before rows → MayAllFollow before rows
follow before [] good apart cross = tt
follow before (r ∷ rows) good apart cross =
    (record { form = good.0; fresh = fresh before r rows cross }, follow (before ++ r ∷ []) rows good.1 apart.1 (cross_more before r rows cross apart.0))

pub are_rows : (rows : List Row) → AreGood rows → AreRows rows
are_rows rows good = follow [] rows good.0 good.1 tt

-- ---- lists of rows put together

cross_tail : (xs ys zs : List Row) → Cross xs ys → Cross xs zs → Cross xs (ys ++ zs)
cross_tail [] ys zs a b = tt
cross_tail (x ∷ xs) ys zs a b = (each_append (λ (y : Row). x.key ≢ y.key) ys zs a.0 b.0, cross_tail xs ys zs a.1 b.1)

apart_append : (xs ys : List Row) → Apart xs → Apart ys → Cross xs ys → Apart (xs ++ ys)
apart_append [] ys a b cross = b
apart_append (x ∷ xs) ys a b cross = (each_append (λ (y : Row). x.key ≢ y.key) xs ys a.0 cross.0, apart_append xs ys a.1 b cross.1)

pub good_append : (xs ys : List Row) → AreGood xs → AreGood ys → Cross xs ys → AreGood (xs ++ ys)
good_append xs ys a b cross = (each_append IsRow xs ys a.0 b.0, apart_append xs ys a.1 b.1 cross)

cross_one : (P Q : List ℕ → Type 0) (differ : (a b : List ℕ) → P a → Q b → a ≢ b) (x : Row) (ys : List Row) → P x.key → AllByRecursion (λ (y : Row). Q y.key) ys → AllByRecursion (λ (y : Row). x.key ≢ y.key) ys
cross_one P Q differ x ys p all = each_weaker (λ (y : Row). Q y.key) (λ (y : Row). x.key ≢ y.key) (λ y q. differ x.key y.key p q) ys all

pub cross_by : (P Q : List ℕ → Type 0) (differ : (a b : List ℕ) → P a → Q b → a ≢ b) (xs ys : List Row) → AllByRecursion (λ (x : Row). P x.key) xs → AllByRecursion (λ (y : Row). Q y.key) ys → Cross xs ys
cross_by P Q differ [] ys a b = tt
cross_by P Q differ (x ∷ xs) ys a b = (cross_one P Q differ x ys a.0 b, cross_by P Q differ xs ys a.1 b)

pub differ : (a b : List ℕ) → pointwise nat_eq a b ≡ false → a ≢ b
differ a b off e = let on : pointwise nat_eq a b ≡ true = (bytes_decides a b).1 e in absurd (cc)

-- ---- rows of one thing, of which each has a word

both : (a b : Bool) → (a && b) ≡ true → (a ≡ true) × (b ≡ true)
both true b e = (refl, e)
both false b e = absurd (cc)

off : (a : Bool) → not a ≡ true → a ≡ false
off true e = absurd (cc)
off false e = refl

abbrev pub Field : Type 0
Field = List ℕ × List ℕ

abbrev pub own_rows : List ℕ → List Field → List Row
own_rows name fields = map (λ w. row_of name w.0 w.1) fields

abbrev pub is_no_word_of : List ℕ → List Field → Bool
is_no_word_of word [] = true
is_no_word_of word (f ∷ fs) = not (pointwise nat_eq word f.0) && is_no_word_of word fs

abbrev pub have_words : List Field → Bool
have_words [] = true
have_words (f ∷ fs) = is_no_word_of f.0 fs && have_words fs

abbrev pub IsField : Field → Type 0
IsField f = IsText 47 f.0 × IsText 65535 f.1

own_differ : (name v w : List ℕ) → v ≢ w → name ++ 46 ∷ v ≢ name ++ 46 ∷ w
own_differ name v w other e = let same : 46 ∷ v ≡ 46 ∷ w = append_cancel_left name (46 ∷ v) (46 ∷ w) e in other (cc)

others : (name : List ℕ) (f : Field) (fs : List Field) → is_no_word_of f.0 fs ≡ true → AllByRecursion (λ (y : Row). (row_of name f.0 f.1).key ≢ y.key) (own_rows name fs)
others name f [] e = tt
others name f (g ∷ fs) e =
    let parts = both (not (pointwise nat_eq f.0 g.0)) (is_no_word_of f.0 fs) e in
    (own_differ name f.0 g.0 (differ f.0 g.0 (off (pointwise nat_eq f.0 g.0) parts.0)), others name f fs parts.1)

own_apart : (name : List ℕ) (fs : List Field) → have_words fs ≡ true → Apart (own_rows name fs)
own_apart name [] e = tt
own_apart name (f ∷ fs) e =
    let parts = both (is_no_word_of f.0 fs) (have_words fs) e in
    (others name f fs parts.0, own_apart name fs parts.1)

own_row : (name : List ℕ) (f : Field) → IsName name → IsField f → IsRow (row_of name f.0 f.1)
own_row name f h fits =
    let key : IsText 80 (name ++ 46 ∷ f.0) = text_append 32 48 name (46 ∷ f.0) (text_name name h) (text_cons 47 46 f.0 (omega arith) fits.0) in
    record { some = omega (arith, length-append name (46 ∷ f.0)); short = key.0; most = fits.1.0; key = key.1; value = fits.1.1 }

pub own_good : (name : List ℕ) (fs : List Field) → IsName name → AllByRecursion IsField fs → have_words fs ≡ true → AreGood (own_rows name fs)
own_good name fs h fits words = (each_map IsRow (λ w. row_of name w.0 w.1) IsField (λ f ok. own_row name f h ok) fs fits, own_apart name fs words)

-- the key of a row of the thing
pub record OwnedBy (name key : List ℕ) : Type 0 where
  pub word : List ℕ
  pub is : key ≡ name ++ 46 ∷ word

pub owned : (name : List ℕ) (fs : List Field) → AllByRecursion (λ (r : Row). OwnedBy name r.key) (own_rows name fs)
owned name [] = tt
owned name (f ∷ fs) = (record { word = f.0; is = refl }, owned name fs)

owners_differ : (a b : List ℕ) → IsName a → IsName b → a ≢ b → (k l : List ℕ) → OwnedBy a k → OwnedBy b l → k ≢ l
owners_differ a b ha hb other k l ka lb e =
    other (cut_same 46 a b ka.word lb.word (name_lacks_dot a ha) (name_lacks_dot b hb) (sym ka.is ∙ e ∙ lb.is)).0

-- ---- rows of named things

-- names are names, and differ; and what they name is fit
abbrev pub AreThings : {X : Type 0} → (X → Type 0) → List (List ℕ × X) → Type 0
AreThings Fit [] = Unit {0}
AreThings Fit (p ∷ ps) = IsName p.0 × Fit p.1 × AllByRecursion (λ q. p.0 ≢ q.0) ps × AreThings Fit ps

module _ {X : Type 0} (Fit : X → Type 0) (fields : X → List Field) (fits : (x : X) → Fit x → AllByRecursion IsField (fields x)) (words : (x : X) → have_words (fields x) ≡ true) where
  others_cross : (name : List ℕ) (rows : List Row) → IsName name → AllByRecursion (λ (r : Row). OwnedBy name r.key) rows → (ps : List (List ℕ × X)) → AreThings Fit ps → AllByRecursion (λ q. name ≢ q.0) ps
      → Cross rows (flat_map (λ p. own_rows p.0 (fields p.1)) ps)
  others_cross name [] h mine ps good other = tt
  others_cross name (r ∷ rows) h mine ps good other = (one ps good other, others_cross name rows h mine.1 ps good other)
    where
      one : (qs : List (List ℕ × X)) → AreThings Fit qs → AllByRecursion (λ q. name ≢ q.0) qs → AllByRecursion (λ (y : Row). r.key ≢ y.key) (flat_map (λ p. own_rows p.0 (fields p.1)) qs)
      one [] good other = tt
      one (q ∷ qs) good other =
          each_append (λ (y : Row). r.key ≢ y.key) (own_rows q.0 (fields q.1)) (flat_map (λ p. own_rows p.0 (fields p.1)) qs)
          (cross_one (OwnedBy name) (OwnedBy q.0) (owners_differ name q.0 h good.0 other.0) r (own_rows q.0 (fields q.1)) mine.0 (owned q.0 (fields q.1)))
          (one qs good.3 other.1)

  pub things_good : (ps : List (List ℕ × X)) → AreThings Fit ps → AreGood (flat_map (λ p. own_rows p.0 (fields p.1)) ps)
  things_good [] good = (tt, tt)
  things_good (p ∷ ps) good =
      good_append (own_rows p.0 (fields p.1)) (flat_map (λ p. own_rows p.0 (fields p.1)) ps)
      (own_good p.0 (fields p.1) good.0 (fits p.1 good.1) (words p.1)) (things_good ps good.3)
      (others_cross p.0 (own_rows p.0 (fields p.1)) good.0 (owned p.0 (fields p.1)) ps good.3 good.2)
