-- The lines of rows, one after another.
use Rattle.std.proofs.Common.{◌≡◌, ◌≢◌, ◌⊎◌, inl, inr, Bool, true, false, not, ◌||◌, ℕ, ◌+◌, ◌<◌, List, [], ◌∷◌, ◌++◌, length, take, get_or, refl, ap, subst, sym, ◌∙◌, append_assoc, append-nil, arith}
use Rattle.std.proofs.lemmas.List.{take_more}
use Rattle.ccr_text.specs.declared.rows.Row.{Row}
use Rattle.std.specs.Prelude.{All, nat_eq}
use Rattle.std.specs.List.{list_any}
use Rattle.std.specs.List.Sorted.{IsPermutation}
use Rattle.std.specs.Cmp.Lexicographic.{pointwise, bytes_decides}
use Rattle.std.proofs.lemmas.List.Sorted.{list_any-IsPermutation}
use Rattle.std.proofs.lemmas.List.Folds.{list_any-append}
use Rattle.std.proofs.lemmas.List.Elements.{All-append, All-cons, All-head, All-nil, All-tail, All-weaker}
use Rattle.std.specs.Bool.{MatchBool}
use Rattle.ccr_text.specs.Reading.{StopsAt}
use Rattle.ccr_text.specs.TableText.{AreRows, IsPlain, IsRow, MayFollow, MayAllFollow, row_line, row_lines}
use Rattle.ccr_text.proofs.CutLemmas.{Lacks, lacks_none, cut_same}

pub row_lines-more : (rows : List Row) (row : Row) → row_lines (rows ++ row ∷ []) ≡ row_lines rows ++ row_line row
row_lines-more [] row = append-nil (row_line row)
row_lines-more (first ∷ rows) row = ap (λ lines. row_line first ++ lines) (row_lines-more rows row) ∙ sym (append_assoc (row_line first) (row_lines rows) (row_line row))

pub row_lines-next : (rows : List Row) (i : ℕ) (row : Row) → i < length rows → row ≡ get_or rows i row → row_lines (take (i + 1) rows) ≡ row_lines (take i rows) ++ row_line row
row_lines-next rows i row low here =
    rw (take_more rows i row low) (row_lines-more (take i rows) (get_or rows i row) ∙ ap (λ r. row_lines (take i rows) ++ row_line r) (sym here))

-- the rows and one that may follow them
pub rows_more : (before rows : List Row) (row : Row) → MayAllFollow before rows → MayFollow (before ++ rows) row → MayAllFollow before (rows ++ row ∷ [])
rows_more before [] row h last = (subst (λ bs. MayFollow bs row) (append-nil before) last, tt)
rows_more before (first ∷ rows) row h last = (h.0, rows_more (before ++ first ∷ []) rows row h.1 (subst (λ bs. MayFollow bs row) (sym (append_assoc before (first ∷ []) rows)) last))

pub row_regroup : (row : Row) (rest : List ℕ) → row_line row ++ rest ≡ (row.key ++ 9 ∷ row.value) ++ 10 ∷ rest
row_regroup row rest =
    append_assoc row.key (9 ∷ (row.value ++ 10 ∷ [])) rest
    ∙ ap (λ t. row.key ++ 9 ∷ t) (append_assoc row.value (10 ∷ []) rest)
    ∙ sym (append_assoc row.key (9 ∷ row.value) (10 ∷ rest))

pub plain_lacks_tab : (xs : List ℕ) → IsPlain xs → Lacks 9 xs
plain_lacks_tab xs h = All-weaker (λ b. (b ≢ 9) × (b ≢ 10)) (λ b. b ≢ 9) (λ b k. k.0) xs h

pub plain_lacks_newline : (xs : List ℕ) → IsPlain xs → Lacks 10 xs
plain_lacks_newline xs h = All-weaker (λ b. (b ≢ 9) × (b ≢ 10)) (λ b. b ≢ 10) (λ b k. k.1) xs h

pub row_lacks_newline : (row : Row) → IsRow row → Lacks 10 (row.key ++ 9 ∷ row.value)
row_lacks_newline row h =
    All-append (λ b. b ≢ 10) row.key (9 ∷ row.value) (plain_lacks_newline row.key h.key)
    (All-cons (λ b. b ≢ 10) 9 row.value (λ e. omega arith) (plain_lacks_newline row.value h.value))

abbrev pub row_of : List ℕ → List ℕ → Row
row_of key value = record { key = key; value = value }

pub row_same : (a b : Row) (x y : List ℕ) → IsRow a → IsRow b → row_line a ++ x ≡ row_line b ++ y → (a ≡ b) × (x ≡ y)
row_same a b x y ha hb e =
    let lines = cut_same 10 (a.key ++ 9 ∷ a.value) (b.key ++ 9 ∷ b.value) x y (row_lacks_newline a ha) (row_lacks_newline b hb) (sym (row_regroup a x) ∙ e ∙ row_regroup b y) in
    let parts = cut_same 9 a.key b.key a.value b.value (plain_lacks_tab a.key ha.key) (plain_lacks_tab b.key hb.key) lines.0 in
    (ap (λ k. row_of k a.value) parts.0 ∙ ap (λ v. row_of b.key v) parts.1, lines.1)

abbrev pub NoNext : List Row → List ℕ → Type 0
NoNext before rest = (row : Row) (more : List ℕ) → MayFollow before row → rest ≢ row_line row ++ more

not_empty : (key tail more : List ℕ) → [] ≡ (key ++ 9 ∷ tail) ++ more → ⊥
not_empty [] tail more e = cc e
not_empty (k ∷ key) tail more e = cc e

pub nothing_next : (before : List Row) → NoNext before []
nothing_next before row more h e = not_empty row.key (row.value ++ 10 ∷ []) more e

-- what begins with rows begins with no others
pub rows_same : (before rows others : List Row) (x y : List ℕ) → MayAllFollow before rows → MayAllFollow before others → NoNext (before ++ rows) x → NoNext (before ++ others) y → row_lines rows ++ x ≡ row_lines others ++ y → (rows ≡ others) × (x ≡ y)
rows_same before [] [] x y a b nx ny e = (refl, e)
rows_same before [] (o ∷ others) x y a b nx ny e =
    absurd (nx o (row_lines others ++ y) (subst (λ bs. MayFollow bs o) (sym (append-nil before)) b.0) (e ∙ append_assoc (row_line o) (row_lines others) y))
rows_same before (r ∷ rows) [] x y a b nx ny e =
    absurd (ny r (row_lines rows ++ x) (subst (λ bs. MayFollow bs r) (sym (append-nil before)) a.0) (sym e ∙ append_assoc (row_line r) (row_lines rows) x))
rows_same before (r ∷ rows) (o ∷ others) x y a b nx ny e =
    let same = row_same r o (row_lines rows ++ x) (row_lines others ++ y) a.0.form b.0.form (sym (append_assoc (row_line r) (row_lines rows) x) ∙ e ∙ append_assoc (row_line o) (row_lines others) y) in
    let heads : r ≡ o = same.0 in
    let follow : MayAllFollow (before ++ r ∷ []) others = subst (λ q. MayAllFollow (before ++ q ∷ []) others) (sym heads) b.1 in
    let stop : NoNext ((before ++ r ∷ []) ++ others) y = subst (λ q. NoNext ((before ++ q ∷ []) ++ others) y) (sym heads) (subst (λ bs. NoNext bs y) (sym (append_assoc before (o ∷ []) others)) ny) in
    let rest = rows_same (before ++ r ∷ []) rows others x y a.1 follow (subst (λ bs. NoNext bs x) (sym (append_assoc before (r ∷ []) rows)) nx) stop same.1 in
    let tails : rows ≡ others = rest.0 in
    ((cc), rest.1)

-- ---- tests

neither : (a b : Bool) → (a || b) ≡ false → (a ≡ false) × (b ≡ false)
neither false b e = (refl, e)
neither true b e = absurd (cc)

one_of : (a b : Bool) → (a || b) ≡ true → (a ≡ true) ⊎ (b ≡ true)
one_of true b e = inl refl
one_of false b e = inr e

swapped : (a b : Bool) → (a || b) ≡ (b || (a || false))
swapped true true = refl
swapped true false = refl
swapped false true = refl
swapped false false = refl

-- ---- texts that no row begins

abbrev pub NoRow : List ℕ → Type 0
NoRow text = (row : Row) (more : List ℕ) → IsRow row → text ≢ row_line row ++ more

pub no_row_line : (text : List ℕ) → Lacks 10 text → NoRow text
no_row_line text lacks row more h e =
    lacks_none 10 (row.key ++ 9 ∷ row.value) more (subst (Lacks 10) (e ∙ row_regroup row more) lacks)

row_cut : (text line rest : List ℕ) (row : Row) (more : List ℕ) → text ≡ line ++ 10 ∷ rest → Lacks 10 line → IsRow row → text ≡ row_line row ++ more → line ≡ row.key ++ 9 ∷ row.value
row_cut text line rest row more is lacks h e =
    (cut_same 10 line (row.key ++ 9 ∷ row.value) rest more lacks (row_lacks_newline row h) (sym is ∙ e ∙ row_regroup row more)).0

pub no_row_tab : (text line rest : List ℕ) → text ≡ line ++ 10 ∷ rest → Lacks 10 line → Lacks 9 line → NoRow text
no_row_tab text line rest is lacks none row more h e =
    lacks_none 9 row.key row.value (subst (Lacks 9) (row_cut text line rest row more is lacks h e) none)

pub other_row : (text line rest key value : List ℕ) → text ≡ line ++ 10 ∷ rest → Lacks 10 line → line ≡ key ++ 9 ∷ value → Lacks 9 key → (IsRow (row_of key value) → ⊥) → NoRow text
other_row text line rest key value is lacks cut tab none row more h e =
    let parts = cut_same 9 key row.key value row.value tab (plain_lacks_tab row.key h.key) (sym cut ∙ row_cut text line rest row more is lacks h e) in
    let same : row_of key value ≡ row = ap (λ k. row_of k value) parts.0 ∙ ap (λ v. row_of row.key v) parts.1 in
    none (subst IsRow (sym same) h)

-- ---- keys that were read

-- whether one of the rows has the key
abbrev pub has_key : List ℕ → List Row → Bool
has_key key rows = list_any (λ r. pointwise nat_eq key r.key) rows

differs : (key other : List ℕ) → pointwise nat_eq key other ≡ false → other ≢ key
differs key other off e = let on : pointwise nat_eq key other ≡ true = (bytes_decides key other).1 (sym e) in absurd (cc)

pub no_key : (key : List ℕ) (rows : List Row) → has_key key rows ≡ false → All (λ other. other.key ≢ key) rows
no_key key [] none = All-nil (λ other. other.key ≢ key)
no_key key (r ∷ rows) none =
    let parts = neither (pointwise nat_eq key r.key) (has_key key rows) none in
    All-cons (λ other. other.key ≢ key) r rows (differs key r.key parts.0) (no_key key rows parts.1)

a_key : (key : List ℕ) (rows : List Row) → has_key key rows ≡ true → All (λ other. other.key ≢ key) rows → ⊥
a_key key [] some all = absurd (cc)
a_key key (r ∷ rows) some all =
    elim (one_of (pointwise nat_eq key r.key) (has_key key rows) some) [
      | inl here ↦ All-head (λ other. other.key ≢ key) r rows all (sym ((bytes_decides key r.key).0 here))
      | inr there ↦ a_key key rows there (All-tail (λ other. other.key ≢ key) r rows all)
    ]

-- a row whose key is there already begins no other row that may follow
pub repeated : (rows : List Row) (rest more : List ℕ) (row : Row) → IsRow row → rest ≡ row_line row ++ more → has_key row.key rows ≡ true → (next : Row) (tail : List ℕ) → MayFollow rows next → rest ≢ row_line next ++ tail
repeated rows rest more row form is there next tail may e =
    let same : row ≡ next = (row_same row next more tail form may.form (sym is ∙ e)).0 in
    a_key row.key rows there (subst (λ (r : Row). All (λ other. other.key ≢ r.key) rows) (sym same) may.fresh)

-- one key more
pub keys_more : {K : Type 0} (q key : List ℕ) (test : K → Bool) (x : K) (keys new : List K) (rows : List Row) (value : List ℕ) → test x ≡ pointwise nat_eq q key → IsPermutation (x ∷ keys) new
    → list_any test keys ≡ has_key q rows → list_any test new ≡ has_key q (rows ++ row_of key value ∷ [])
keys_more q key test x keys new rows value at moved old =
    sym (list_any-IsPermutation test (x ∷ keys) new moved)
    ∙ ap (λ b. b || list_any test keys) at
    ∙ ap (λ b. pointwise nat_eq q key || b) old
    ∙ swapped (pointwise nat_eq q key) (has_key q rows)
    ∙ sym (list_any-append (λ r. pointwise nat_eq q r.key) rows (row_of key value ∷ []))

-- a key that was added was not there before, and one that was not added was
pub fresh_row : (rows : List Row) (row : Row) (added there : Bool) → IsRow row → added ≡ not there → added ≡ true → there ≡ has_key row.key rows → MayFollow rows row
fresh_row rows row added true form is new at = absurd (cc)
fresh_row rows row added false form is new at = record { form = form; fresh = no_key row.key rows (sym at) }

pub was_added : (P Q : Type 0) (added : Bool) → added ≡ true → MatchBool added P Q → P
was_added P Q true e h = h
was_added P Q false e h = absurd (cc)

pub stops_at_repeat : (body rest more : List ℕ) (rows : List Row) (row : Row) (n : ℕ) (added there : Bool) → n ≡ length rows → AreRows rows → body ≡ row_lines rows ++ rest → IsRow row → rest ≡ row_line row ++ more
    → added ≡ not there → added ≡ false → there ≡ has_key row.key rows → StopsAt body (n + 3)
stops_at_repeat body rest more rows row n added false place form begun is_row is told repeats at = absurd (cc)
stops_at_repeat body rest more rows row n added true place form begun is_row is told repeats at = record {
  rows = rows;
  rest = rest;
  place = ap (λ k. k + 3) place;
  form = form;
  begun = begun;
  bad = record {
    left = λ e. not_empty row.key (row.value ++ 10 ∷ []) more (sym e ∙ is);
    none = repeated rows rest more row is_row is (sym at);
  };
}

-- ---- a loop over rows

pub rows_go_on : (body : List ℕ) (rows more before : List Row) (row : Row) (rest next : List ℕ) → before ≡ rows → AreRows rows → body ≡ row_lines rows ++ rest → MayFollow before row → rest ≡ row_line row ++ next → more ≡ rows ++ row ∷ [] → AreRows more × (body ≡ row_lines more ++ next)
rows_go_on body rows more before row rest next same form begun may is pushed =
    let follow : MayFollow rows row = subst (λ bs. MayFollow bs row) same may in
    let longer : AreRows more = subst AreRows (sym pushed) (rows_more [] rows row form follow) in
    let goes : body ≡ row_lines more ++ next =
    begun ∙ ap (λ r. row_lines rows ++ r) is ∙ sym (append_assoc (row_lines rows) (row_line row) next) ∙ ap (λ l. l ++ next) (sym (row_lines-more rows row)) ∙ ap (λ m. row_lines m ++ next) (sym pushed) in
    (longer, goes)
