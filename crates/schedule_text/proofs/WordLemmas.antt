-- Words that are read one by one, and names.
use Rattle.std.proofs.Common.{◌≡◌, ◌≢◌, nat_le, ℕ, ◌≤◌, ◌<◌, ◌+◌, ◌==◌, ◌&&◌, not, Bool, true, false, List, [], ◌∷◌, ◌++◌, length, map, take, get_or, slice_index, All, Ok, Err, refl, sym, ap, ◌∙◌, Bor, append_assoc, arith, length-append}
use Rattle.std.specs.List.{list_all, list_any, join_with_byte}
use Rattle.std.proofs.lemmas.List.{take_more}
use Rattle.std.proofs.lemmas.List.Elements.{All-append, All-cons}
use Rattle.std.proofs.lemmas.List.Folds.{list_any_at}
use Rattle.schedule_text.specs.Allowed.{AreWords}
use Rattle.schedule_text.specs.Words.{is_word}
use Rattle.std.proofs.lemmas.List.Sums.{AllPass-from_list_all, list_all-from_AllPass}
use Rattle.std.proofs.lemmas.Bool.{le-leb, leb-true}
use Rattle.cl_base.specs.Names.{IsName, is_letter, is_name_byte}
use Rattle.schedule_text.specs.declared.kind.Kind.TheVariants as kind
use Rattle.schedule_text.specs.Fields.{is_name, named_in}

-- a test of each word, whether of the words or of what lends them
pub all_map : (test : List ℕ → Bool) (ws : List (Bor (List ℕ))) → list_all test (map (λ w. w.now) ws) ≡ list_all (λ w. test w.now) ws
all_map test [] = refl
all_map test (w ∷ ws) = ap (λ b. test w.now && b) (all_map test ws)

left : (a b : Bool) → (a && b) ≡ true → a ≡ true
left true b h = refl
left false b h = h

right : (a b : Bool) → (a && b) ≡ true → b ≡ true
right true b h = h
right false b h = absurd (cc)

differ : false ≡ true → ⊥
differ h = absurd (cc)

false_if : (a : Bool) → not a ≡ true → a ≡ false
false_if true h = absurd (cc)
false_if false h = refl

some_byte : (w : List ℕ) → not (length w == 0) ≡ true → 1 ≤ length w
some_byte [] h = absurd (cc)
some_byte (b ∷ w) h = omega arith

name_holds : (w : List ℕ) → IsName w → is_name w ≡ true
name_holds w h = rw (le-leb 1 (length w) h.0, le-leb (length w) 32 h.1, h.2, list_all-from_AllPass is_name_byte w h.3) refl

holds_name : (w : List ℕ) → is_name w ≡ true → IsName w
holds_name w h =
    let three = left (nat_le 1 (length w) && nat_le (length w) 32 && is_letter (slice_index w 0)) (list_all is_name_byte w) h in
    let two = left (nat_le 1 (length w) && nat_le (length w) 32) (is_letter (slice_index w 0)) three in (
      leb-true 1 (length w) (left (nat_le 1 (length w)) (nat_le (length w) 32) two),
      leb-true (length w) 32 (right (nat_le 1 (length w)) (nat_le (length w) 32) two),
      right (nat_le 1 (length w) && nat_le (length w) 32) (is_letter (slice_index w 0)) three,
      AllPass-from_list_all is_name_byte w (right (nat_le 1 (length w) && nat_le (length w) 32 && is_letter (slice_index w 0)) (list_all is_name_byte w) h),
    )

no_name : (w : List ℕ) (t : Bool) → is_name w ≡ t → (IsName w → ⊥) → t ≡ false
no_name w true is never = absurd (never (holds_name w is))
no_name w false is never = refl

pub named_is : (w name : List ℕ) → name ≡ w → IsName w → named_in w ≡ Ok name
unfolding named_in
named_is w name same h = rw (name_holds w h) (ap Ok (sym same))

pub named_is_none : (w : List ℕ) → (IsName w → ⊥) → named_in w ≡ Err kind.Line
unfolding named_in
named_is_none w never = rw (no_name w (is_name w) refl never) refl

-- one more word
pub join_more : (x : List ℕ) (xs : List (List ℕ)) (w : List ℕ) → join_with_byte 32 (x ∷ (xs ++ (w ∷ []))) ≡ join_with_byte 32 (x ∷ xs) ++ (32 ∷ w)
join_more x [] w = refl
join_more x (y ∷ ys) w = rw (join_more y ys w) (sym (append_assoc x (32 ∷ join_with_byte 32 (y ∷ ys)) (32 ∷ w)))

map_end : (ws : List (Bor (List ℕ))) (w : Bor (List ℕ)) → map (λ w. w.now) (ws ++ (w ∷ [])) ≡ map (λ w. w.now) ws ++ (w.now ∷ [])
map_end [] w = refl
map_end (v ∷ ws) w = ap (λ (vs : List (List ℕ)). v.now ∷ vs) (map_end ws w)

pub joined_more : (x : List ℕ) (ws : List (Bor (List ℕ))) (i : ℕ) (d : Bor (List ℕ)) → i < length ws → (text pushed new : List ℕ)
    → text ≡ join_with_byte 32 (x ∷ map (λ w. w.now) (take i ws)) → pushed ≡ text ++ (32 ∷ []) → new ≡ pushed ++ (get_or ws i d).now
    → new ≡ join_with_byte 32 (x ∷ map (λ w. w.now) (take (i + 1) ws))
joined_more x ws i d lt text pushed new before space word =
    word ∙ rw (space, before, take_more ws i d lt, map_end (take i ws) (get_or ws i d), join_more x (map (λ w. w.now) (take i ws)) (get_or ws i d).now)
    (append_assoc (join_with_byte 32 (x ∷ map (λ w. w.now) (take i ws))) (32 ∷ []) (get_or ws i d).now)

-- what the words of a command make

no_newline : (w : List ℕ) → list_any (λ b. b == 10) w ≡ false → All (λ b. b ≢ 10) w
no_newline w h = λ k d lt is. differ (sym h ∙ list_any_at (λ b. b == 10) w k d lt (ap (λ (b : ℕ). b == 10) is))

clean_word : (w : List ℕ) → is_word w ≡ true → AreWords w
clean_word w h = (
  some_byte w (left (not (length w == 0)) (not (list_any (λ b. b == 10) w)) h),
  no_newline w (false_if (list_any (λ b. b == 10) w) (right (not (length w == 0)) (not (list_any (λ b. b == 10) w)) h)),
)

clean_both : (a b : List ℕ) → AreWords a → AreWords b → AreWords (a ++ (32 ∷ b))
clean_both a b ca cb = (omega (arith, length-append a (32 ∷ b), ca.0), All-append (λ b. b ≢ 10) a (32 ∷ b) ca.1 (All-cons (λ b. b ≢ 10) 32 b (omega arith) cb.1))

pub clean_join : (first : List ℕ) (ws : List (List ℕ)) → is_word first ≡ true → list_all is_word ws ≡ true → AreWords (join_with_byte 32 (first ∷ ws))
clean_join first [] h hs = clean_word first h
clean_join first (w ∷ ws) h hs =
    clean_both first (join_with_byte 32 (w ∷ ws)) (clean_word first h) (clean_join w ws (left (is_word w) (list_all is_word ws) hs) (right (is_word w) (list_all is_word ws) hs))
