-- A line that is read up to some token.
use Rattle.std.proofs.Common.{◌≡◌, ℕ, ◌+◌, ◌<◌, ◌≤◌, Bool, List, ◌∷◌, length, drop, Option, Some, None, sym, ap, ◌∙◌, get_or}
use Rattle.std.proofs.lemmas.List.{drop_more, at_drop_all}
use Rattle.smpl_lexer.specs.declared.token.PatchToken.{PatchToken}
use Rattle.smpl_lexer.specs.Headers.{stop, stop_at}

stop_first : {P : Type 0} (step : P → PatchToken → Option P) (ends : P → Bool) (p : P) (t : PatchToken) (ts : List PatchToken) (end : ℕ)
    → step p t ≡ None → stop step ends p (t ∷ ts) end ≡ Some t.at
stop_first {P} step ends p t ts end none = ap (λ (o : Option P). elim o as (λ o. Option ℕ) [ None ↦ Some t.at | Some q ↦ stop step ends q ts end ]) none

go_first : {P : Type 0} (step : P → PatchToken → Option P) (ends : P → Bool) (p q : P) (t : PatchToken) (ts : List PatchToken) (end : ℕ)
    → step p t ≡ Some q → stop step ends p (t ∷ ts) end ≡ stop step ends q ts end
go_first {P} step ends p q t ts end some = ap (λ (o : Option P). elim o as (λ o. Option ℕ) [ None ↦ Some t.at | Some q ↦ stop step ends q ts end ]) some

pub at_token : (ts : List PatchToken) (i : ℕ) (t : PatchToken) → i < length ts → t ≡ get_or ts i t
    → drop i ts ≡ t ∷ drop (i + 1) ts
at_token ts i t within is = drop_more ts i t within ∙ ap (λ (x : PatchToken). x ∷ drop (i + 1) ts) (sym is)

pub stops_here : {P : Type 0} (step : P → PatchToken → Option P) (ends : P → Bool) (p : P) (ts : List PatchToken) (i : ℕ) (t : PatchToken) (end : ℕ)
    → i < length ts → t ≡ get_or ts i t → step p t ≡ None → stop step ends p (drop i ts) end ≡ Some t.at
stops_here step ends p ts i t end within is none = ap (λ (l : List PatchToken). stop step ends p l end) (at_token ts i t within is)
    ∙ stop_first step ends p t (drop (i + 1) ts) end none

pub goes_here : {P : Type 0} (step : P → PatchToken → Option P) (ends : P → Bool) (p q : P) (ts : List PatchToken) (i : ℕ) (t : PatchToken) (end : ℕ)
    → i < length ts → t ≡ get_or ts i t → step p t ≡ Some q → stop step ends p (drop i ts) end ≡ stop step ends q (drop (i + 1) ts) end
goes_here step ends p q ts i t end within is some = ap (λ (l : List PatchToken). stop step ends p l end) (at_token ts i t within is)
    ∙ go_first step ends p q t (drop (i + 1) ts) end some

pub ends_here : {P : Type 0} (step : P → PatchToken → Option P) (ends : P → Bool) (p : P) (ts : List PatchToken) (i : ℕ) (end : ℕ)
    → length ts ≤ i → stop step ends p (drop i ts) end ≡ stop_at (ends p) end
ends_here step ends p ts i end past = at_drop_all (λ (l : List PatchToken). stop step ends p l end) ts i past
