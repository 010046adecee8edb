-- Rows that grow.
use Rattle.std.proofs.Common.{◌≡◌, ◌<◌, ◌≤◌, ◌+◌, ℕ, zero, suc, Bool, true, false, refl, sym, ap, subst, ◌∙◌, arith, List}
use Rattle.std.proofs.Common.{[], ◌∷◌, ◌++◌, append_assoc, map, take, length, get_or}
use Rattle.std.specs.Prelude.{Option, None, Some}
use Rattle.std.proofs.lemmas.List.{append-nil, length-take-le, take_more, take_all}
use Rattle.c_terms.specs.declared.token.Token.{Token}
use Rattle.edit_bodies.specs.declared.braces.Spot.{Spot}
use Rattle.edit_bodies.specs.declared.rows.Row.{Row}
use Rattle.edit_unparse.specs.declared.tidy.plan.Placed.{Placed}
use Rattle.edit_bodies.specs.declared.braces.Coming.{Coming}
use Rattle.edit_bodies.specs.Rows.{NewText, RowToken, brace, braces_at, ending_at, row_front, row_inserts, row_side, row_token, row_tokens, spot, tokens_in}
use Rattle.edit_bodies.specs.Scenes.{AddsRow, IsRow, end_after}

both_tokens : (xs ys : List RowToken) → tokens_in (xs ++ ys) ≡ tokens_in xs ++ tokens_in ys
both_tokens [] ys = refl
both_tokens (x ∷ xs) ys = ap (λ (l : List Token). x.token ∷ l) (both_tokens xs ys)

both_ends : (end : Option Spot) (xs ys : List RowToken) → end_after end (xs ++ ys) ≡ end_after (end_after end xs) ys
both_ends end [] ys = refl
both_ends end (x ∷ xs) ys = both_ends (Some x.end) xs ys

pub adds_none : (row : Row) → AddsRow [] row row
adds_none row = record { tokens = sym (append-nil row.tokens.items); end = refl }

pub adds_both : (xs ys : List RowToken) (a b c : Row) → AddsRow xs a b → AddsRow ys b c → AddsRow (xs ++ ys) a c
adds_both xs ys a b c h k = record {
  tokens = k.tokens ∙ ap (λ (l : List Token). l ++ tokens_in ys) h.tokens ∙ append_assoc a.tokens.items (tokens_in xs) (tokens_in ys)
      ∙ ap (λ (l : List Token). a.tokens.items ++ l) (sym (both_tokens xs ys));
  end = k.end ∙ ap (λ (e : Option Spot). end_after e ys) h.end ∙ sym (both_ends a.end xs ys);
}

ending_both : (s : Spot) (ts us : List Token) → ending_at s (ts ++ us) ≡ ending_at s ts ++ ending_at s us
ending_both s [] us = refl
ending_both s (t ∷ ts) us = ap (λ (l : List RowToken). record { token = t; end = s } ∷ l) (ending_both s ts us)

-- a loop over the tokens of an insert
pub words_more : (s : Spot) (ws : List Token) (i : ℕ) (w own : Token) (a b c : Row) → i < length ws → w ≡ get_or ws i w → own ≡ w
    → AddsRow (ending_at s (take i ws)) a b → AddsRow (ending_at s (own ∷ [])) b c → AddsRow (ending_at s (take (i + 1) ws)) a c
words_more s ws i w own a b c less is same h k =
    let here : get_or ws i w ≡ own = sym (same ∙ is) in
    let more : ending_at s (take (i + 1) ws) ≡ ending_at s (take i ws) ++ ending_at s (own ∷ []) =
    ap (ending_at s) (take_more ws i w less ∙ ap (λ (t : Token). take i ws ++ t ∷ []) here) ∙ ending_both s (take i ws) (own ∷ []) in
    subst (λ (l : List RowToken). AddsRow l a c) (sym more) (adds_both (ending_at s (take i ws)) (ending_at s (own ∷ [])) a b c h k)

pub words_end : (s : Spot) (ws : List Token) (i : ℕ) (a b : Row) → length ws ≤ i → AddsRow (ending_at s (take i ws)) a b → AddsRow (ending_at s ws) a b
words_end s ws i a b le h = subst (λ (l : List Token). AddsRow (ending_at s l) a b) (take_all i ws le) h

-- a loop over braces
braces_both : (bs : List Bool) (b : Bool) → map brace (bs ++ b ∷ []) ≡ map brace bs ++ brace b ∷ []
braces_both [] b = refl
braces_both (c ∷ bs) b = ap (λ (l : List Token). brace c ∷ l) (braces_both bs b)

pub braces_more : (s : Spot) (bs : List Bool) (i : ℕ) (own : Token) (a b c : Row) → i < length bs → own ≡ brace (get_or bs i false)
    → AddsRow (ending_at s (map brace (take i bs))) a b → AddsRow (ending_at s (own ∷ [])) b c → AddsRow (ending_at s (map brace (take (i + 1) bs))) a c
braces_more s bs i own a b c less is h k =
    let front = map brace (take i bs) in
    let more : ending_at s (map brace (take (i + 1) bs)) ≡ ending_at s front ++ ending_at s (own ∷ []) =
    ap (λ (l : List Bool). ending_at s (map brace l)) (take_more bs i false less) ∙ ap (ending_at s) (braces_both (take i bs) (get_or bs i false))
    ∙ ap (λ (t : Token). ending_at s (front ++ t ∷ [])) (sym is) ∙ ending_both s front (own ∷ []) in
    subst (λ (l : List RowToken). AddsRow l a c) (sym more) (adds_both (ending_at s front) (ending_at s (own ∷ [])) a b c h k)

pub map_both : {X : Type 0} (f : X → Bool) (xs : List X) → map brace (map f xs) ≡ map (λ x. brace (f x)) xs
map_both f [] = refl
map_both f (x ∷ xs) = ap (λ (l : List Token). brace (f x) ∷ l) (map_both f xs)

pub braces_end : (s : Spot) (bs : List Bool) (i : ℕ) (a b : Row) → length bs ≤ i → AddsRow (ending_at s (map brace (take i bs))) a b
    → AddsRow (ending_at s (map brace bs)) a b
braces_end s bs i a b le h = subst (λ (l : List Bool). AddsRow (ending_at s (map brace l)) a b) (take_all i bs le) h

-- ---- the inserts on a side of a token

module _ (text : NewText) (braces : List Coming) (token : ℕ) (after : Bool) where
  -- an insert with the braces behind it, where so many stand before it
  abbrev one_insert : ℕ → Placed → List RowToken
  one_insert count p = ending_at (spot token after (count + 1)) (text.words p) ++ braces_at braces (spot token after (count + 1))

  inserts_push : (count : ℕ) (ps : List Placed) (p : Placed)
      → row_inserts text braces token after count (ps ++ p ∷ []) ≡ row_inserts text braces token after count ps ++ one_insert (count + length ps) p
  inserts_push count [] p =
      let same : count ≡ count + 0 = omega arith in
      ap (λ (l : List RowToken). ending_at (spot token after (count + 1)) (text.words p) ++ l) (append-nil (braces_at braces (spot token after (count + 1))))
      ∙ ap (λ (n : ℕ). one_insert n p) same
  inserts_push count (q ∷ ps) p =
      let words = ending_at (spot token after (count + 1)) (text.words q) in
      let signs = braces_at braces (spot token after (count + 1)) in
      let rest = row_inserts text braces token after (count + 1) ps in
      let own = one_insert (count + 1 + length ps) p in
      let same : count + 1 + length ps ≡ count + length (q ∷ ps) = omega arith in
      ap (λ (l : List RowToken). words ++ (signs ++ l)) (inserts_push (count + 1) ps p)
      ∙ sym (append_assoc words (signs ++ rest) own ∙ ap (λ (l : List RowToken). words ++ l) (append_assoc signs rest own))
      ∙ ap (λ (n : ℕ). (words ++ (signs ++ rest)) ++ one_insert n p) same

  pub side_start : (a b : Row) → AddsRow (braces_at braces (spot token after 0)) a b → AddsRow (row_side text braces token after []) a b
  side_start a b h = subst (λ (l : List RowToken). AddsRow l a b) (sym (append-nil (braces_at braces (spot token after 0)))) h

  pub side_more : (ps : List Placed) (i : ℕ) (e : Placed) (a b c d : Row) → i < length ps
      → AddsRow (row_side text braces token after (take i ps)) a b → AddsRow (ending_at (spot token after (i + 1)) (text.words (get_or ps i e))) b c
      → AddsRow (braces_at braces (spot token after (i + 1))) c d → AddsRow (row_side text braces token after (take (i + 1) ps)) a d
  side_more ps i e a b c d less h words signs =
      let p = get_or ps i e in
      let start = braces_at braces (spot token after 0) in
      let front = row_inserts text braces token after 0 (take i ps) in
      let long : length (take i ps) ≡ i = length-take-le i ps (omega (arith, less)) in
      let count : 0 + length (take i ps) ≡ i = omega (arith, long) in
      let more : row_side text braces token after (take (i + 1) ps) ≡ row_side text braces token after (take i ps) ++ one_insert i p =
      ap (λ (l : List Placed). start ++ row_inserts text braces token after 0 l) (take_more ps i e less)
      ∙ ap (λ (l : List RowToken). start ++ l) (inserts_push 0 (take i ps) p)
      ∙ ap (λ (n : ℕ). start ++ (front ++ one_insert n p)) count
      ∙ sym (append_assoc start front (one_insert i p)) in
      subst (λ (l : List RowToken). AddsRow l a d) (sym more)
      (adds_both (row_side text braces token after (take i ps)) (one_insert i p) a b d h
      (adds_both (ending_at (spot token after (i + 1)) (text.words p)) (braces_at braces (spot token after (i + 1))) b c d words signs))

  pub side_end : (ps : List Placed) (i : ℕ) (a b : Row) → length ps ≤ i → AddsRow (row_side text braces token after (take i ps)) a b
      → AddsRow (row_side text braces token after ps) a b
  side_end ps i a b le h = subst (λ (l : List Placed). AddsRow (row_side text braces token after l) a b) (take_all i ps le) h

-- ---- tokens

module _ (text : NewText) (braces : List Coming) where
  front_push : (ns : List ℕ) (n : ℕ) → row_front text braces (ns ++ n ∷ []) ≡ row_front text braces ns ++ row_token text braces n (text.inserts n true)
  front_push [] n = append-nil (row_token text braces n (text.inserts n true))
  front_push (m ∷ ns) n =
      let own = row_token text braces m (text.inserts m true) in
      ap (λ (l : List RowToken). own ++ l) (front_push ns n)
      ∙ sym (append_assoc own (row_front text braces ns) (row_token text braces n (text.inserts n true)))

  pub front_more : (ns : List ℕ) (i : ℕ) (a b c : Row) → i < length ns → AddsRow (row_front text braces (take i ns)) a b
      → AddsRow (row_token text braces (get_or ns i 0) (text.inserts (get_or ns i 0) true)) b c → AddsRow (row_front text braces (take (i + 1) ns)) a c
  front_more ns i a b c less h k =
      let n = get_or ns i 0 in
      let own = row_token text braces n (text.inserts n true) in
      subst (λ (l : List RowToken). AddsRow l a c) (sym (ap (row_front text braces) (take_more ns i 0 less) ∙ front_push (take i ns) n))
      (adds_both (row_front text braces (take i ns)) own a b c h k)

  pub front_end : (ns : List ℕ) (i : ℕ) (a b : Row) → length ns ≤ i → AddsRow (row_front text braces (take i ns)) a b → AddsRow (row_front text braces ns) a b
  front_end ns i a b le h = subst (λ (l : List ℕ). AddsRow (row_front text braces l) a b) (take_all i ns le) h

module _ (text : NewText) (braces : List Coming) (behind : List Placed) where
  last_first : (ns : List ℕ) (n : ℕ) → row_tokens text braces behind (ns ++ n ∷ []) ≡ row_front text braces ns ++ row_token text braces n behind
  last_first [] n = refl
  last_first (m ∷ []) n = ap (λ (l : List RowToken). l ++ row_token text braces n behind) (sym (append-nil (row_token text braces m (text.inserts m true))))
  last_first (m ∷ k ∷ ns) n =
      let own = row_token text braces m (text.inserts m true) in
      ap (λ (l : List RowToken). own ++ l) (last_first (k ∷ ns) n)
      ∙ sym (append_assoc own (row_front text braces (k ∷ ns)) (row_token text braces n behind))

  pub tokens_none : (ns : List ℕ) (row : Row) → length ns ≡ 0 → AddsRow (row_tokens text braces behind ns) row row
  tokens_none [] row e = adds_none row
  tokens_none (n ∷ ns) row e = absurd (omega (arith, e))

  pub tokens_both : (ns : List ℕ) (i : ℕ) (a b c : Row) → i + 1 ≡ length ns → AddsRow (row_front text braces (take i ns)) a b
      → AddsRow (row_token text braces (get_or ns i 0) behind) b c → AddsRow (row_tokens text braces behind ns) a c
  tokens_both ns i a b c e h k =
      let whole : take (i + 1) ns ≡ ns = take_all (i + 1) ns (omega (arith, e)) in
      let parts : row_tokens text braces behind ns ≡ row_front text braces (take i ns) ++ row_token text braces (get_or ns i 0) behind =
      ap (row_tokens text braces behind) (sym whole ∙ take_more ns i 0 (omega (arith, e))) ∙ last_first (take i ns) (get_or ns i 0) in
      subst (λ (l : List RowToken). AddsRow l a c) (sym parts)
      (adds_both (row_front text braces (take i ns)) (row_token text braces (get_or ns i 0) behind) a b c h k)

-- ---- whole rows

pub none_left : (o : Option ℕ) → ((n : ℕ) → o ≡ Some n → ⊥) → None ≡ o
none_left None h = refl
none_left (Some n) h = absurd (h n refl)

pub row_from : (xs ys : List RowToken) (a b c : Row) → a.tokens.items ≡ [] → a.end ≡ None → AddsRow xs a b → AddsRow ys b c → IsRow (xs ++ ys) c
row_from xs ys a b c empty none h k =
    let both = adds_both xs ys a b c h k in
    record {
      tokens = both.tokens ∙ ap (λ (l : List Token). l ++ tokens_in (xs ++ ys)) empty;
      end = both.end ∙ ap (λ (e : Option Spot). end_after e (xs ++ ys)) none;
    }
