-- The words of a spaced line.
use Rattle.std.proofs.Common.{◌≡◌, ℕ, true, List, [], ◌∷◌, ap, ◌∙◌}
use Rattle.schedule_text.proofs.PrintedLemmas.{has_no_space, words_of_one, words_of_more}
use Rattle.schedule_text.specs.Words.{words_of}
use Rattle.schedule_gen.specs.Lines.{spaced}

abbrev pub AreWords : List (List ℕ) → Type 0
AreWords [] = Unit {0}
AreWords (word ∷ words) = (has_no_space word ≡ true) × AreWords words

pub words_of_spaced : (word : List ℕ) (words : List (List ℕ)) → AreWords (word ∷ words) → words_of (spaced (word ∷ words)) ≡ word ∷ words
words_of_spaced word [] are = words_of_one word are.0
words_of_spaced word (next ∷ words) are =
    words_of_more word (spaced (next ∷ words)) are.0
    ∙ ap (λ (rest : List (List ℕ)). word ∷ rest) (words_of_spaced next words are.1)
