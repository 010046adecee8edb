-- Tokens that are placed one by one.
use Rattle.std.proofs.Common.{◌≡◌, ℕ, suc, ◌+◌, ◌<◌, List, [], ◌∷◌, ◌++◌, length, drop, Option, Some, None, refl, sym, ap, ◌∙◌, get_or, arith}
use Rattle.std.proofs.lemmas.List.{drop-drop}
use Rattle.smpl_terms.specs.declared.var.Var.{Var as Variable}
use Rattle.smpl_patch.specs.declared.pattern.VarDecl.{VarDecl}
use Rattle.smpl_lexer.specs.declared.token.PatchToken.{PatchToken}
use Rattle.smpl_lexer.specs.declared.text.BodyLine.{BodyLine}
use Rattle.smpl_meta.specs.declared.patterns.Placed.{Placed}
use Rattle.smpl_meta.specs.Patterns.{with_position, at_position, put, put_two, width_of, put_tokens, put_line, put_lines}
use Rattle.smpl_meta.proofs.Walks.{at_item}

abbrev pub positioned : Variable → Placed → Placed
positioned v p = record { token = p.token; at = p.at; sign = p.sign; line = p.line; positions = p.positions ++ v ∷ [] }

pub with_last : (v : Variable) (ps : List Placed) (p : Placed)
    → with_position v (ps ++ p ∷ []) ≡ ps ++ positioned v p ∷ []
with_last v [] p = refl
with_last v (q ∷ []) p = refl
with_last v (q ∷ r ∷ ps) p = ap (λ (l : List Placed). q ∷ l) (with_last v (r ∷ ps) p)

module _ (vars : List VarDecl) (sign line : ℕ) where
  two_by : (out : List Placed) (t n : PatchToken) (ts : List PatchToken) (o : Option Variable)
      → elim o as (λ (x : Option Variable). List Placed) [
        | Some v ↦ put_tokens vars sign line (with_position v out) ts
        | None ↦
            put_tokens vars sign line (put vars sign line out t) (n ∷ ts)
      ]
      ≡ put_tokens vars sign line (put_two vars sign line out t o) (drop (width_of o) (t ∷ n ∷ ts))
  two_by out t n ts None = refl
  two_by out t n ts (Some v) = refl

  pub two_more : (out : List Placed) (ts : List PatchToken) (i : ℕ) (t n : PatchToken) (found : Option Variable)
      → i < length ts → i + 1 < length ts → t ≡ get_or ts i t → n ≡ get_or ts (i + 1) n
      → found ≡ at_position vars out t n → put_tokens vars sign line out (drop i ts)
      ≡ put_tokens vars sign line (put_two vars sign line out t found) (drop (i + width_of found) ts)
  two_more out ts i t n found within more is also found_is =
      let rest : drop i ts ≡ t ∷ n ∷ drop (i + 1 + 1) ts = at_item ts i t within is
      ∙ ap (λ (l : List PatchToken). t ∷ l) (at_item ts (i + 1) n more also) in
      ap (put_tokens vars sign line out) rest
      ∙ (two_by out t n (drop (i + 1 + 1) ts) (at_position vars out t n)
      ∙ (ap (λ (o : Option Variable). put_tokens vars sign line (put_two vars sign line out t o)
      (drop (width_of o) (t ∷ n ∷ drop (i + 1 + 1) ts))) (sym found_is)
      ∙ ap (put_tokens vars sign line (put_two vars sign line out t found)) (ap (drop (width_of found)) (sym rest) ∙ drop-drop (width_of found) i ts)))

pub lines_more : (vars : List VarDecl) (ls : List BodyLine) (i line : ℕ) (l : BodyLine) (out : List Placed)
    → i < length ls → l ≡ get_or ls i l
    → put_lines vars line out (drop i ls) ≡ put_lines vars (line + 1) (put_line vars line out l) (drop (i + 1) ls)
lines_more vars ls i line l out within is = ap (put_lines vars line out) (at_item ls i l within is)
    ∙ ap (λ (n : ℕ). put_lines vars n (put_line vars line out l) (drop (i + 1) ls)) (let e : suc line ≡ line + 1 = omega arith in e)
