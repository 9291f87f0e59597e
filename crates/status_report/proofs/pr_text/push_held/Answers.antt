use Rattle.std.proofs.Common.{◌≡◌, ℕ, List, ◌∷◌, ◌++◌, codes, ap, ◌∙◌, append_assoc}
use Rattle.std.specs.String.{string_bytes}
use Rattle.status_report.specs.PrAnswers.{kind_text}
use Rattle.status_report.specs.Words.{hex}
use Rattle.status_report.proofs.pr_text.push_held.Goals as goal

-- a key, and the number of a type behind it
held : (old key kind shown mid new : List ℕ) → mid ≡ old ++ (codes "reservation " ++ (key ++ codes " ")) → new ≡ mid ++ shown → shown ≡ kind
    → new ≡ old ++ (codes "reservation " ++ (key ++ (32 ∷ kind)))
held old key kind shown mid new first more same =
    more ∙ ap (λ (t : List ℕ). mid ++ t) same ∙ ap (λ (t : List ℕ). t ++ kind) first
    ∙ append_assoc old (codes "reservation " ++ (key ++ codes " ")) kind
    ∙ ap (λ (t : List ℕ). old ++ (codes "reservation " ++ t)) (append_assoc key (codes " ") kind)

pub returns : goal.returns
returns c = held (string_bytes c.args.text.now) (hex c.args.key) (kind_text c.args.kind) c.kind_number.result.now (string_bytes c.push_holder_key.new.text) (string_bytes c.push_str.new.self)
    c.in_ok-push_holder_key.ensures c.in_ok-push_str.ensures.bytes c.kind_number.ensures
