-- Tokens through which a header goes, and how it can be completed after them.
use Rattle.std.proofs.Common.{◌≡◌, ℕ, zero, suc, ◌+◌, List, [], ◌∷◌, ◌++◌, Option, Some, None, refl, sym, ap, ◌∙◌, subst, codes, arith}
use Rattle.c_terms.specs.declared.token.TokenKind.TheVariants as token
use Rattle.smpl_lexer.specs.declared.token.PatchToken.{PatchToken}
use Rattle.smpl_lexer.specs.declared.places.HeaderPlace.{HeaderPlace}
use Rattle.smpl_lexer.specs.declared.places.HeaderPlace.TheVariants as h
use Rattle.smpl_lexer.specs.Tokens.{made}
use Rattle.smpl_lexer.specs.Headers.{header_step, header_ends, stop}
use Rattle.smpl_meta.proofs.Conditions.{Ends, stepped}
use Rattle.smpl_meta.proofs.GoesOn.{goes, taken, name_leads, word_leads, close_leads}

-- a header goes through the tokens from one place to another
pub data Passes : HeaderPlace → List PatchToken → HeaderPlace → Type 0 where
  here : {p : HeaderPlace} → Passes p [] p
  on : {p q r : HeaderPlace} {t : PatchToken} {ts : List PatchToken} → header_step p t ≡ Some q → Passes q ts r
      → Passes p (t ∷ ts) r

pub record Passed (end : ℕ) (p : HeaderPlace) (xs more : List PatchToken) : Type 0 where
  pub at : HeaderPlace
  pub passes : Passes p xs at
  pub ends : Ends at more end

pub passed : (end : ℕ) (xs more : List PatchToken) (p : HeaderPlace) → Ends p (xs ++ more) end → Passed end p xs more
passed end [] more p e = record { at = p; passes = here; ends = e }
passed end (t ∷ xs) more p e =
    let s = stepped p t (xs ++ more) end e in
    let r = passed end xs more s.next s.ends in
    record { at = r.at; passes = on s.is r.passes; ends = r.ends }

pub ended : (end : ℕ) (more : List PatchToken) {xs : List PatchToken} {p q : HeaderPlace} → Passes p xs q → Ends q more end
    → Ends p (xs ++ more) end
ended end more here e = e
ended end more (on {p = p} {q = q} {t = t} {ts = ts} is rest) e = goes end p q t (ts ++ more) is (ended end more rest e)

-- where a header stops after tokens through which it goes
pub stops_behind : (end : ℕ) (more : List PatchToken) {xs : List PatchToken} {p q : HeaderPlace} → Passes p xs q
    → stop header_step header_ends p (xs ++ more) end ≡ stop header_step header_ends q more end
stops_behind end more here = refl
stops_behind end more (on {t = t} {ts = ts} is rest) =
    ap (λ (o : Option HeaderPlace). elim o as (λ (x : Option HeaderPlace). Option ℕ) [
      | None ↦ Some t.at
      | Some r ↦
          stop header_step header_ends r (ts ++ more) end
    ]) is
    ∙ stops_behind end more rest

-- one more token
pub passes_more : {xs : List PatchToken} {p q r : HeaderPlace} (t : PatchToken) → Passes p xs q → header_step q t ≡ Some r
    → Passes p (xs ++ t ∷ []) r
passes_more t here is = on is here
passes_more t (on first rest) is = on first (passes_more t rest is)

pub record Next (q : HeaderPlace) (t : PatchToken) : Type 0 where
  pub place : HeaderPlace
  pub is : header_step q t ≡ Some place

-- the token after others
pub next_step : {xs : List PatchToken} {p q r : HeaderPlace} (t : PatchToken) → Passes p xs q → Passes p (xs ++ t ∷ []) r
    → Next q t
next_step t here (on {q = q} is rest) = record { place = q; is = is }
next_step t (on {q = a} {ts = ts} first rest) (on {q = b} {r = r} other more) =
    let same : b ≡ a = let both : Some b ≡ Some a = sym other ∙ first in cc in
    next_step t rest (subst (λ (x : HeaderPlace). Passes x (ts ++ t ∷ []) r) same more)

-- ---- a header that can be completed

-- places from which it can: before an operand, one more counted token may come
pub data Live : HeaderPlace → Type 0 where
  starts : Live h.Start
  opened : Live h.Opened
  named : Live h.Named
  depends : Live h.Depends
  moded : Live h.Moded
  closed : Live h.Closed
  hole : (level left rest : ℕ) → left ≡ rest + 1 → Live (h.Operand level left)
  worded : (level left rest : ℕ) → left ≡ rest + 1 → Live (h.Word level left)
  full : (level left : ℕ) → Live (h.Operated level left)

abbrev at_token : PatchToken
at_token = made token.Stray (codes "@") 0

abbrev close_token : PatchToken
close_token = made token.Punct (codes ")") 0

abbrev name_token : PatchToken
name_token = made token.Name (codes "r") 0

abbrev on_token : PatchToken
on_token = made token.Name (codes "on") 0

pub record Completion (end : ℕ) (p : HeaderPlace) : Type 0 where
  pub tokens : List PatchToken
  pub ends : Ends p tokens end

-- brackets that close what is open, and `@`
closing : (end level left : ℕ) → Completion end (h.Operated level left)
closing end zero left = record { tokens = at_token ∷ []; ends = refl }
closing end (suc level) left =
    let c = closing end level left in
    let e : suc level ≡ level + 1 = omega arith in
    record {
      tokens = close_token ∷ c.tokens;
      ends = subst (λ (n : ℕ). Ends (h.Operated n left) (close_token ∷ c.tokens) end) (sym e)
          (goes end (h.Operated (level + 1) left) (h.Operated level left) close_token c.tokens (close_leads level close_token left refl) c.ends);
    }

pub completion : (end : ℕ) (p : HeaderPlace) → Live p → Completion end p
completion end _ starts = record { tokens = at_token ∷ at_token ∷ []; ends = refl }
completion end _ opened = record { tokens = at_token ∷ []; ends = refl }
completion end _ named = record { tokens = at_token ∷ []; ends = refl }
completion end _ depends = record { tokens = on_token ∷ name_token ∷ at_token ∷ []; ends = refl }
completion end _ moded = record { tokens = at_token ∷ []; ends = refl }
completion end _ closed = record { tokens = []; ends = refl }
completion end _ (hole level left rest e) =
    let c = closing end level rest in
    record {
      tokens = name_token ∷ c.tokens;
      ends = goes end (h.Operand level left) (h.Operated level rest) name_token c.tokens
          (name_leads level name_token left refl ∙ taken left rest (λ (n : ℕ). h.Operated level n) e) c.ends;
    }
completion end _ (worded level left rest e) =
    let c = closing end level rest in
    record {
      tokens = name_token ∷ c.tokens;
      ends = goes end (h.Word level left) (h.Operated level rest) name_token c.tokens
          (word_leads level name_token left refl ∙ taken left rest (λ (n : ℕ). h.Operated level n) e) c.ends;
    }
completion end _ (full level left) = closing end level left
