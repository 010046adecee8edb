-- Tokens that are processed up to some token.
use Rattle.std.proofs.Common.{◌≡◌, ℕ, ◌+◌, ◌<◌, ◌≤◌, Bool, true, false, List, [], ◌∷◌, ◌++◌, length, drop, sym, ap, ◌∙◌, get_or, append_assoc, if◌then◌else◌}
use Rattle.std.proofs.lemmas.List.{append-nil}
use Rattle.std.proofs.Math.ListN.{drop_of_length-le}
use Rattle.c_terms.specs.declared.token.TokenKind.TheVariants as token
use Rattle.smpl_lexer.specs.declared.token.PatchToken.{PatchToken}
use Rattle.smpl_lexer.specs.Tokens.{is_name, branch_tokens, made}
use Rattle.smpl_lexer.specs.Headers.{texts_of_names}
use Rattle.smpl_lexer.proofs.Stops.{at_token}

pub branch_more : (ts : List PatchToken) (i : ℕ) (t : PatchToken) (out : List PatchToken) → i < length ts
    → t ≡ get_or ts i t
    → out ++ branch_tokens (drop i ts) ≡ (out ++ made token.Pat (92 ∷ t.token.text) t.at ∷ []) ++ branch_tokens (drop (i + 1) ts)
branch_more ts i t out within is = ap (λ (l : List PatchToken). out ++ branch_tokens l) (at_token ts i t within is)
    ∙ sym (append_assoc out (made token.Pat (92 ∷ t.token.text) t.at ∷ []) (branch_tokens (drop (i + 1) ts)))

pub branch_all : (ts : List PatchToken) (i : ℕ) (out : List PatchToken) → length ts ≤ i
    → out ++ branch_tokens (drop i ts) ≡ out
branch_all ts i out past = ap (λ (l : List PatchToken). out ++ branch_tokens l) (drop_of_length-le ts past)
    ∙ append-nil out

pub names_more : (ts : List PatchToken) (i : ℕ) (t : PatchToken) (out : List (List ℕ)) → i < length ts
    → t ≡ get_or ts i t → is_name t ≡ true
    → out ++ texts_of_names (drop i ts) ≡ (out ++ t.token.text ∷ []) ++ texts_of_names (drop (i + 1) ts)
names_more ts i t out within is name = ap (λ (l : List PatchToken). out ++ texts_of_names l) (at_token ts i t within is)
    ∙ (ap (λ (b : Bool). out ++ (if b then t.token.text ∷ texts_of_names (drop (i + 1) ts) else texts_of_names (drop (i + 1) ts))) name
    ∙ sym (append_assoc out (t.token.text ∷ []) (texts_of_names (drop (i + 1) ts))))

pub names_same : (ts : List PatchToken) (i : ℕ) (t : PatchToken) (out : List (List ℕ)) → i < length ts
    → t ≡ get_or ts i t → is_name t ≡ false
    → out ++ texts_of_names (drop i ts) ≡ out ++ texts_of_names (drop (i + 1) ts)
names_same ts i t out within is name = ap (λ (l : List PatchToken). out ++ texts_of_names l) (at_token ts i t within is)
    ∙ ap (λ (b : Bool). out ++ (if b then t.token.text ∷ texts_of_names (drop (i + 1) ts) else texts_of_names (drop (i + 1) ts))) name

pub names_all : (ts : List PatchToken) (i : ℕ) (out : List (List ℕ)) → length ts ≤ i
    → out ++ texts_of_names (drop i ts) ≡ out
names_all ts i out past = ap (λ (l : List PatchToken). out ++ texts_of_names l) (drop_of_length-le ts past)
    ∙ append-nil out
