-- The first form has its own sure variables.
use Rattle.std.proofs.Common.{◌≡◌, ℕ, ◌<◌, zero, suc, Bool, true, false, ◌&&◌, ◌||◌, not, refl, ap₂, arith, List, [], ◌∷◌}
use Rattle.std.proofs.Common.{length, get_or, slice_get, Option, Some, None}
use Rattle.std.specs.List.{list_all}
use Rattle.c_terms.specs.declared.token.Token.{Token}
use Rattle.c_terms.specs.declared.token.TokenKind.{TokenKind}
use Rattle.c_terms.specs.declared.token.TokenKind.TheVariants as kind
use Rattle.c_terms.specs.declared.tree.Tree.{Tree}
use Rattle.c_terms.specs.Trees.{leaves}
use Rattle.smpl_terms.specs.declared.var.Var.{Var}
use Rattle.smpl_patch.specs.declared.pattern.VarDecl.{VarDecl}
use Rattle.smpl_patch.specs.declared.pattern.PatToken.{PatToken}
use Rattle.smpl_patch.specs.declared.pattern.Spot.{Spot}
use Rattle.smpl_patch.specs.declared.pattern.Pattern.{Pattern}
use Rattle.smpl_patch.specs.Patterns.{declared_as, held_sure, in_first}
use Rattle.pat_match.specs.Matching.{var_passes, positions_pass, meta_passes, token_passes, keeps, is_live, is_live_in}

self_or : (b : Bool) → (not b || b) ≡ true
self_or true = refl
self_or false = refl

all_true : {X : Type 0} (test : X → Bool) (xs : List X) → ((x : X) → test x ≡ true) → list_all test xs ≡ true
all_true test [] h = refl
all_true test (x ∷ xs) h = ap₂ (λ a b. a && b) (h x) (all_true test xs h)

var_true : (test : Var → Bool) (d : Option VarDecl) → ((x : Var) → test x ≡ true) → var_passes test d ≡ true
var_true test None h = refl
var_true test (Some d) h = h d.var

places_true : (test : Var → Bool) (p : Option PatToken) → ((x : Var) → test x ≡ true) → positions_pass test p ≡ true
places_true test None h = refl
places_true test (Some p) h = all_true test p.positions h

meta_true : (decls : List VarDecl) (test : Var → Bool) (k : TokenKind) (a : Token) → ((x : Var) → test x ≡ true) → meta_passes decls test k a ≡ true
meta_true decls test (kind.Meta k) a h = var_true test (declared_as decls a.text) h
meta_true decls test _ a h = refl

module _ (decls : List VarDecl) (tokens : List PatToken) where
  live_itself : (s : Spot) (f : Tree) → is_live decls tokens s f f ≡ true
  live_itself s f =
      let h : (x : Var) → keeps decls tokens s f f x ≡ true = λ x. self_or (held_sure decls tokens s x f) in
      all_true (token_passes decls tokens (keeps decls tokens s f f)) (leaves f)
      (λ a. ap₂ (λ x y. x && y) (meta_true decls (keeps decls tokens s f f) a.kind a h) (places_true (keeps decls tokens s f f) (slice_get tokens a.id) h))

  first_itself : (s : Spot) (fs : List Tree) (i : ℕ) (f : Tree) → i ≡ 0 → i < length fs → f ≡ get_or fs i f
      → in_first (λ first. is_live decls tokens s first f) fs ≡ true
  first_itself s [] i f e lt g = absurd (omega arith)
  first_itself s (a ∷ fs) zero f e lt g = rw g (live_itself s a)
  first_itself s (a ∷ fs) (suc i) f e lt g = absurd (omega arith)

  pub first_is_live : (p : Pattern) (i : ℕ) (f : Tree) → i ≡ 0 → i < length p.forms → f ≡ get_or p.forms i f → is_live_in decls tokens p f ≡ true
  first_is_live p i f e lt g = first_itself p.spot p.forms i f e lt g
