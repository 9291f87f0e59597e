-- A header and a list of updates are the same where both parts are.
use Rattle.std.proofs.Common.{◌≡◌, ℕ, List, ap, ap₂}
use Rattle.cl_base.specs.declared.header.Header.{Header}
use Rattle.config_cache.specs.Lists.{UpdateList, these}

pub same_basis : (b : UpdateList) (h : Header) (texts : List (List ℕ)) → b.header ≡ h → b.texts ≡ texts → b ≡ these h texts
same_basis b h texts header list = ap₂ these header list

pub same_parts : (b : UpdateList) (h : Header) (texts : List (List ℕ)) → b ≡ these h texts → (b.header ≡ h) × (b.texts ≡ texts)
same_parts b h texts same = (ap (λ (l : UpdateList). l.header) same, ap (λ (l : UpdateList). l.texts) same)
