-- Texts joined to texts, and lines that are appended word by word, each word with a byte after it.
use Rattle.std.specs.Prelude.{codes, Some}
use Rattle.std.specs.Fmt.{decimal}
use Rattle.std.proofs.Common.{◌≡◌, ℕ, ◌+◌, ◌<◌, List, [], ◌∷◌, ◌++◌, append_assoc, refl, sym, ap, ◌∙◌}
use Rattle.std.proofs.lemmas.Fmt.{decimal_digit}
use Rattle.hex.specs.Hex.{encode_lower}
use Rattle.cl_base.specs.declared.packet.MessageKind.{MessageKind}
use Rattle.cl_base.specs.declared.packet.MessageName.{MessageName}
use Rattle.status_report.specs.Lines.{printed}
use Rattle.status_report.specs.PacketLines.{kind_text, message_text}
use Rattle.status_report.specs.declared.entry.Entry.TheVariants as trace
use Rattle.status_report.specs.declared.node_entry.NodeEntry.TheVariants.{Ticked}
use Rattle.status_report.specs.declared.packet_entry.PacketEntry.TheVariants.{Sent, Delivered}

pub joined_once : (a b c : List ℕ) → (a ++ b) ++ c ≡ a ++ (b ++ c)
joined_once a b c = append_assoc a b c

-- a word, a byte, and what follows
word_after : (t w : List ℕ) (b : ℕ) (rest : List ℕ) → ((t ++ w) ++ b ∷ []) ++ rest ≡ t ++ (w ++ b ∷ rest)
word_after t w b rest = append_assoc (t ++ w) (b ∷ []) rest ∙ append_assoc t w (b ∷ rest)

-- the same within a line that ends
word_within : (w : List ℕ) (b : ℕ) (z rest end : List ℕ) → z ++ end ≡ rest → (w ++ b ∷ z) ++ end ≡ w ++ b ∷ rest
word_within w b z rest end h = append_assoc w (b ∷ z) end ∙ ap (λ (xs : List ℕ). w ++ b ∷ xs) h

pub ticked : (t : List ℕ) (n : ℕ) → ((t ++ codes "ticked ") ++ decimal n) ++ 10 ∷ [] ≡ t ++ printed (trace.Node n Ticked)
ticked t n = append_assoc (t ++ codes "ticked ") (decimal n) (10 ∷ []) ∙ append_assoc t (codes "ticked ") (decimal n ++ 10 ∷ [])

module _ (t : List ℕ) (number from to : ℕ) where
  pub delivered : ((((((t ++ codes "delivered ") ++ decimal number) ++ 32 ∷ []) ++ decimal from) ++ 32 ∷ []) ++ decimal to) ++ 10 ∷ [] ≡ t ++ printed (trace.Packet (Delivered number from to))
  delivered =
      let first : List ℕ = t ++ codes "delivered " in
      let second : List ℕ = (first ++ decimal number) ++ 32 ∷ [] in
      let third : List ℕ = (second ++ decimal from) ++ 32 ∷ [] in
      let end : List ℕ = 10 ∷ [] in
      let last : List ℕ = decimal to ++ end in
      let line : List ℕ = decimal number ++ 32 ∷ (decimal from ++ 32 ∷ last) in
      append_assoc third (decimal to) end
      ∙ word_after second (decimal from) 32 last
      ∙ word_after first (decimal number) 32 (decimal from ++ 32 ∷ last)
      ∙ append_assoc t (codes "delivered ") line
      ∙ ap (λ (xs : List ℕ). t ++ (codes "delivered " ++ xs))
      (sym (word_within (decimal number) 32 (decimal from ++ 32 ∷ decimal to) (decimal from ++ 32 ∷ last) end (word_within (decimal from) 32 (decimal to) last end refl)))

module _ (t : List ℕ) (number from to : ℕ) (name : MessageName) (bytes : List ℕ) where
  pub sent : ((((((((((t ++ codes "sent ") ++ decimal number) ++ 32 ∷ []) ++ decimal from) ++ 32 ∷ []) ++ decimal to) ++ 32 ∷ []) ++ message_text name) ++ 32 ∷ []) ++ encode_lower bytes) ++ 10 ∷ []
      ≡ t ++ printed (trace.Packet (Sent number from to name bytes))
  sent =
      let first : List ℕ = t ++ codes "sent " in
      let second : List ℕ = (first ++ decimal number) ++ 32 ∷ [] in
      let third : List ℕ = (second ++ decimal from) ++ 32 ∷ [] in
      let fourth : List ℕ = (third ++ decimal to) ++ 32 ∷ [] in
      let fifth : List ℕ = (fourth ++ message_text name) ++ 32 ∷ [] in
      let end : List ℕ = 10 ∷ [] in
      let last : List ℕ = encode_lower bytes ++ end in
      let named_last : List ℕ = message_text name ++ 32 ∷ last in
      let to_last : List ℕ = decimal to ++ 32 ∷ named_last in
      let from_last : List ℕ = decimal from ++ 32 ∷ to_last in
      append_assoc fifth (encode_lower bytes) end
      ∙ word_after fourth (message_text name) 32 last
      ∙ word_after third (decimal to) 32 named_last
      ∙ word_after second (decimal from) 32 to_last
      ∙ word_after first (decimal number) 32 from_last
      ∙ append_assoc t (codes "sent ") (decimal number ++ 32 ∷ from_last)
      ∙ ap (λ (xs : List ℕ). t ++ (codes "sent " ++ xs))
      (sym (word_within (decimal number) 32 (decimal from ++ 32 ∷ (decimal to ++ 32 ∷ (message_text name ++ 32 ∷ encode_lower bytes))) from_last end
      (word_within (decimal from) 32 (decimal to ++ 32 ∷ (message_text name ++ 32 ∷ encode_lower bytes)) to_last end
      (word_within (decimal to) 32 (message_text name ++ 32 ∷ encode_lower bytes) named_last end
      (word_within (message_text name) 32 (encode_lower bytes) last end refl)))))

-- a number of one digit
pub one_digit : (n : ℕ) → n < 10 → decimal n ≡ (48 + n) ∷ []
one_digit = decimal_digit

-- the words of a message with a number
pub numbered : (t : List ℕ) (kind : MessageKind) (n : ℕ) → ((((t ++ kind_text kind) ++ 32 ∷ []) ++ decimal n) ++ 32 ∷ []) ≡ (t ++ message_text (record { kind = kind; number = Some n })) ++ 32 ∷ []
numbered t kind n = ap (λ (xs : List ℕ). xs ++ 32 ∷ []) (word_after t (kind_text kind) 32 (decimal n))
