-- Entries are read off bytes, line by line.
use Rattle.std.proofs.Common.{◌≡◌, ℕ, List, [], ◌∷◌, ◌++◌, refl, sym, ap, ◌∙◌, append_assoc}
use Rattle.std.specs.List.{AllByRecursion, flat_map}
use Rattle.status_report.specs.declared.entry.Entry.{Entry}
use Rattle.status_report.specs.Lines.{entry_text, printed}
use Rattle.status_report.specs.Entries.{IsLine, IsEntry, IsOneLine}
use Rattle.status_report.proofs.Plain.{line_from, entry_line}
use Rattle.status_report.proofs.ReadBack.{entry_of, entry_again}

pub one_line : (e : Entry) → IsEntry e → IsOneLine (printed e)
one_line e h = record { text = entry_text e; ended = refl; plain = line_from (entry_text e) (entry_line e h) }

-- bytes are cut at their first newline in one way
cut_same : (a b x y : List ℕ) → IsLine a → IsLine b → a ++ 10 ∷ x ≡ b ++ 10 ∷ y → (a ≡ b) × (x ≡ y)
cut_same [] [] x y ha hb e = (refl, cc)
cut_same [] (b ∷ bs) x y ha hb e = let same : b ≡ 10 = cc in absurd (hb.0 same)
cut_same (a ∷ front) [] x y ha hb e = let same : a ≡ 10 = cc in absurd (ha.0 same)
cut_same (a ∷ front) (b ∷ bs) x y ha hb e =
    let heads : a ≡ b = cc in
    let tails : front ++ 10 ∷ x ≡ bs ++ 10 ∷ y = cc in
    let both = cut_same front bs x y ha.1 hb.1 tails in
    let fronts : front ≡ bs = both.0 in
    ((cc), both.1)

pub apart : (a b : Entry) (x y : List ℕ) → IsEntry a → IsEntry b → printed a ++ x ≡ printed b ++ y → (a ≡ b) × (x ≡ y)
apart a b x y ha hb e =
    let cut = cut_same (entry_text a) (entry_text b) x y (line_from (entry_text a) (entry_line a ha)) (line_from (entry_text b) (entry_line b hb))
    (sym (append_assoc (entry_text a) (10 ∷ []) x) ∙ e ∙ append_assoc (entry_text b) (10 ∷ []) y) in
    (sym (entry_again a ha) ∙ ap entry_of cut.0 ∙ entry_again b hb, cut.1)

pub alike : (a b : Entry) → IsEntry a → IsEntry b → printed a ≡ printed b → a ≡ b
alike a b ha hb e = (apart a b [] [] ha hb (ap (λ (t : List ℕ). t ++ []) e)).0

no_bytes : (text rest : List ℕ) → [] ≡ (text ++ 10 ∷ []) ++ rest → ⊥
no_bytes [] rest e = cc e
no_bytes (b ∷ text) rest e = cc e

pub trace : (es fs : List Entry) → AllByRecursion IsEntry es → AllByRecursion IsEntry fs → flat_map printed es ≡ flat_map printed fs → es ≡ fs
trace [] [] he hf e = refl
trace [] (f ∷ fs) he hf e = absurd (no_bytes (entry_text f) (flat_map printed fs) e)
trace (a ∷ es) [] he hf e = absurd (no_bytes (entry_text a) (flat_map printed es) (sym e))
trace (a ∷ es) (f ∷ fs) he hf e =
    let first = apart a f (flat_map printed es) (flat_map printed fs) he.0 hf.0 e in
    let heads : a ≡ f = first.0 in
    let tails : es ≡ fs = trace es fs he.1 hf.1 first.1 in
    cc
