-- The headers that the grammar spells: `@`, a name or none, `depends on` and a condition or nothing, `exists`, `forall` or
-- nothing, `@`.
use Rattle.std.specs.Prelude.{ℕ, ◌≡◌, ◌≤◌, ◌+◌, Bool, true, false, if◌then◌else◌, List, [], ◌∷◌, ◌++◌, codes}
use Rattle.smpl_patch.specs.declared.rule.Dep.{Dep}
use Rattle.smpl_lexer.specs.declared.token.PatchToken.{PatchToken}
use Rattle.smpl_lexer.specs.Tokens.{is_word, is_at}
use Rattle.smpl_lexer.specs.Headers.{is_rule_name, is_mode, most_counted}
use Rattle.smpl_meta.specs.declared.head.RuleHead.{RuleHead}
use Rattle.smpl_meta.specs.declared.depends.Mark.{Mark}
use Rattle.smpl_meta.specs.declared.depends.Mark.TheVariants as mark
use Rattle.smpl_meta.specs.Heads.{mark_of, Spells, depends_tokens}
use Rattle.smpl_meta.specs.Heads.Level.{Either}

-- names, `!` and `(` are counted
abbrev pub is_counted : Mark → Bool
is_counted mark.Not = true
is_counted mark.Open = true
is_counted mark.Name = true
is_counted _ = false

abbrev pub counted_in : List PatchToken → ℕ
counted_in [] = 0
counted_in (t ∷ ts) = (if is_counted (mark_of t) then 1 else 0) + counted_in ts

-- how a header ends
pub data Closes : List PatchToken → Type 0 where
  bare : (a : PatchToken) → is_at a ≡ true → Closes (a ∷ [])
  moded : (m a : PatchToken) → is_mode m ≡ true → is_at a ≡ true → Closes (m ∷ a ∷ [])

-- headers whose conditions have at most this many counted tokens
module _ (earlier : List RuleHead) (most : ℕ) where
  -- what follows the name
  pub data Goes : List PatchToken → Type 0 where
    free : {ts : List PatchToken} → Closes ts → Goes ts
    depends : {cs ts : List PatchToken} {d : Dep} (w o : PatchToken) → is_word (codes "depends") w ≡ true
        → is_word (codes "on") o ≡ true → Spells earlier Either cs d [] → counted_in cs ≤ most → Closes ts
        → Goes (w ∷ o ∷ (cs ++ ts))

  -- the tokens are a header
  pub data IsHeader : List PatchToken → Type 0 where
    unnamed : {ts : List PatchToken} (a : PatchToken) → is_at a ≡ true → Goes ts → IsHeader (a ∷ ts)
    named : {ts : List PatchToken} (a n : PatchToken) → is_at a ≡ true → is_rule_name n ≡ true → Goes ts
        → IsHeader (a ∷ n ∷ ts)

-- ---- where a header stops

module _ (earlier : List RuleHead) where
  -- The tokens can begin a header: some more tokens complete them to one, with any count, and the tokens up to here
  -- count at most 200.
  pub record CanStand (ts : List PatchToken) : Type 0 where
    pub most : ℕ
    pub more : List PatchToken
    pub header : IsHeader earlier most (ts ++ more)
    pub few : counted_in (depends_tokens ts) ≤ most_counted

  -- A header stops at the first token with which its tokens no longer begin a header, or at its end if it ends too early.
  pub data StopsAt (ts : List PatchToken) (end : ℕ) : ℕ → Type 0 where
    token : (front rest : List PatchToken) (t : PatchToken) → ts ≡ front ++ t ∷ rest → CanStand front
        → (CanStand (front ++ t ∷ []) → ⊥) → StopsAt ts end t.at
    early : CanStand ts → (IsHeader earlier most_counted ts → ⊥) → StopsAt ts end end
