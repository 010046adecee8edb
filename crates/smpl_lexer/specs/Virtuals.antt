-- The grammar of the lines before the first rule, and where a line can't continue.
use Rattle.std.specs.Prelude.{ℕ, ◌≡◌, true, List, [], ◌∷◌, ◌++◌, codes}
use Rattle.smpl_lexer.specs.declared.token.PatchToken.{PatchToken}
use Rattle.smpl_lexer.specs.Tokens.{is_name, is_word, is_sign}

-- names separated by commas, with or without `;` at the end
pub data Names : List PatchToken → Type 0 where
  last : (n : PatchToken) → is_name n ≡ true → Names (n ∷ [])
  closed : (n s : PatchToken) → is_name n ≡ true → is_sign (codes ";") s ≡ true → Names (n ∷ s ∷ [])
  more : {ts : List PatchToken} (n c : PatchToken) → is_name n ≡ true → is_sign (codes ",") c ≡ true → Names ts
      → Names (n ∷ c ∷ ts)

-- no tokens, or `virtual` and names
pub data IsVirtual : List PatchToken → Type 0 where
  blank : IsVirtual []
  names : {ts : List PatchToken} (v : PatchToken) → is_word (codes "virtual") v ≡ true → Names ts → IsVirtual (v ∷ ts)

-- these tokens and some more make such a line
abbrev pub CanStand : (List PatchToken → Type 0) → List PatchToken → Type 0
CanStand Whole ts = (more : List PatchToken) × Whole (ts ++ more)

-- A line can't continue at the first token with which no such line begins, or at its end if that is too early.
pub data StopsAt (Whole : List PatchToken → Type 0) (ts : List PatchToken) (end : ℕ) : ℕ → Type 0 where
  token : (front rest : List PatchToken) (t : PatchToken) → ts ≡ front ++ t ∷ rest → CanStand Whole front
      → (CanStand Whole (front ++ t ∷ []) → ⊥) → StopsAt Whole ts end t.at
  early : CanStand Whole ts → (Whole ts → ⊥) → StopsAt Whole ts end end
