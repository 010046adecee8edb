-- Lines about words, put together from their parts.
use Rattle.std.proofs.Common.{◌≡◌, ◌++◌, ℕ, List, append_assoc}

pub five_texts : (a b c d e : List ℕ) → a ++ b ++ c ++ (d ++ e) ≡ a ++ (b ++ c ++ d ++ e)
five_texts a b c d e = simp append_assoc
