-- The equations of `piece`.
use Rattle.std.proofs.Common.{◌≡◌, ℕ, suc, zero, ◌<◌, Bool, false, ◌&&◌, ◌||◌, refl, sym, ap, ◌∙◌, arith, List, [], ◌∷◌, map, length, drop, get_or, Some, None}
use Rattle.std.proofs.lemmas.Grind.{common_steps}
use Rattle.std.proofs.lemmas.List.{length-map}
use Rattle.std.specs.List.{list_any, list_all}
use Rattle.c_terms.specs.declared.token.Token.{Token}
use Rattle.c_terms.specs.declared.label.Label.{Label}
use Rattle.c_terms.specs.declared.tree.Tree.{Tree, out-Tree}
use Rattle.c_terms.specs.declared.tree.Tree.TheVariants.{Leaf, Branch, rolls-Leaf, rolls-Branch}
use Rattle.c_terms.specs.declared.tree.Tree.TheFolds.{fold-roll-Tree}
use Rattle.c_terms.proofs.SameLemmas.{out-Leaf, out-Branch}
use Rattle.c_terms.proofs.Induct.{tree_cases}
use Rattle.c_terms.specs.Trees.{leaves}
use Rattle.c_types.specs.Tables.{ItemTypes}
use Rattle.smpl_terms.specs.Environments.{Environment}
use Rattle.smpl_patch.specs.declared.pattern.VarDecl.{VarDecl}
use Rattle.smpl_patch.specs.declared.pattern.PatToken.{PatToken}
use Rattle.pat_match.specs.Tokens.{leaf_fits}
use Rattle.pat_match.specs.Runs.{Piece}
use Rattle.pat_match.specs.Fitting.{piece, pairs_by, piece_step, fits_by, fits_tree, leaf_of, all_fit, is_bare_sign, is_sign_token}
use Rattle.c_terms.specs.declared.shape.Shape.{Shape}
use Rattle.c_terms.specs.declared.shape.Shape.TheVariants as shape
use Rattle.c_terms.specs.Shapes.{shape_of}

module _ (decls : List VarDecl) (tokens : List PatToken) (types : ItemTypes) (env : Environment) where
  pub piece-Leaf : (a : Token) → piece decls tokens types env (Leaf a)
      ≡ record { token = Some a; fits = leaf_fits decls tokens env types a; pairs = λ t. (a, leaves t) ∷ [] }
  piece-Leaf a = ap (piece decls tokens types env) (sym (rolls-Leaf a)) ∙ fold-roll-Tree Piece (piece_step decls tokens types env) _

  pub piece-Branch : (l : Label) (cs : List Tree) → piece decls tokens types env (Branch l cs)
      ≡ record {
        token = None;
        fits = fits_by decls tokens types env (shape_of l) l (map (piece decls tokens types env) cs);
        pairs =
            pairs_by decls tokens types env (shape_of l) l (map (piece decls tokens types env) cs);
      }
  piece-Branch l cs = ap (piece decls tokens types env) (sym (rolls-Branch l cs)) ∙ fold-roll-Tree Piece (piece_step decls tokens types env) _

  pub fits-Leaf : (a : Token) (t : Tree) → fits_tree decls tokens types env (Leaf a) t ≡ leaf_fits decls tokens env types a t
  fits-Leaf a t = ap (λ (p : Piece). p.fits t) (piece-Leaf a)

  pub fits-Branch : (l : Label) (cs : List Tree) (t : Tree)
      → fits_tree decls tokens types env (Branch l cs) t ≡ fits_by decls tokens types env (shape_of l) l (map (piece decls tokens types env) cs) t
  fits-Branch l cs t = ap (λ (p : Piece). p.fits t) (piece-Branch l cs)

  pub piece-token : (f : Tree) → (piece decls tokens types env f).token ≡ leaf_of (out-Tree f)
  piece-token = tree_cases (λ f. (piece decls tokens types env f).token ≡ leaf_of (out-Tree f))
      (λ a. ap (λ (p : Piece). p.token) (piece-Leaf a) ∙ ap leaf_of (sym (out-Leaf a)))
      (λ l cs. ap (λ (p : Piece). p.token) (piece-Branch l cs) ∙ ap leaf_of (sym (out-Branch l cs)))

  pub bare-pieces : (fs : List Tree) → list_all (λ p. is_bare_sign tokens p.token) (map (piece decls tokens types env) fs)
      ≡ list_all (λ f. is_bare_sign tokens (leaf_of (out-Tree f))) fs
  bare-pieces [] = refl
  bare-pieces (f ∷ fs) = let h = piece-token f in let r = bare-pieces fs in cc

  pub some-pieces : (fs : List Tree) (t : Tree) → list_any (λ p. p.fits t) (map (piece decls tokens types env) fs)
      ≡ list_any (λ f. fits_tree decls tokens types env f t) fs
  some-pieces [] t = refl
  some-pieces (f ∷ fs) t = let r = some-pieces fs t in cc

  pub every-pieces : (fs : List Tree) (t : Tree) → list_all (λ p. is_sign_token p.token || p.fits t) (map (piece decls tokens types env) fs)
      ≡ list_all (λ f. is_sign_token (leaf_of (out-Tree f)) || fits_tree decls tokens types env f t) fs
  every-pieces [] t = refl
  every-pieces (f ∷ fs) t = let h = piece-token f in let r = every-pieces fs t in cc

  pub branch-Or : (s r : Shape) (l : Label) (fs : List Tree) (t : Tree) → r ≡ s → s ≡ shape.Or
      → fits_by decls tokens types env r l (map (piece decls tokens types env) fs) t
      ≡ (list_all (λ f. is_bare_sign tokens (leaf_of (out-Tree f))) fs && list_any (λ f. fits_tree decls tokens types env f t) fs)
  branch-Or s r l fs t g e = let a = bare-pieces fs in let b = some-pieces fs t in rw (g, e) (cc)

  pub branch-And : (s r : Shape) (l : Label) (fs : List Tree) (t : Tree) → r ≡ s → s ≡ shape.And
      → fits_by decls tokens types env r l (map (piece decls tokens types env) fs) t
      ≡ (list_all (λ f. is_bare_sign tokens (leaf_of (out-Tree f))) fs
      && list_all (λ f. is_sign_token (leaf_of (out-Tree f)) || fits_tree decls tokens types env f t) fs)
  branch-And s r l fs t g e = let a = bare-pieces fs in let b = every-pieces fs t in rw (g, e) (cc)

  pub all_fit_at : (xs us : List Tree) (i j : ℕ) (x u : Tree) → j ≡ suc i → i < length xs → length xs ≡ length us → x ≡ get_or xs i x → u ≡ get_or us i u
      → all_fit (map (piece decls tokens types env) (drop i xs)) (drop i us)
      ≡ (fits_tree decls tokens types env x u && all_fit (map (piece decls tokens types env) (drop j xs)) (drop j us))
  all_fit_at xs us i zero x u n lt len e g = absurd (omega arith)
  all_fit_at [] us i (suc j) x u n lt len e g = absurd (omega arith)
  all_fit_at (a ∷ xs) [] i (suc j) x u n lt len e g = absurd (omega arith)
  all_fit_at (a ∷ xs) (b ∷ us) zero (suc j) x u n lt len e g = let k : j ≡ 0 = omega arith in rw (e, g, k) refl
  all_fit_at (a ∷ xs) (b ∷ us) (suc i) (suc j) x u n lt len e g = all_fit_at xs us i j x u (omega arith) (omega arith) (omega arith) e g

pub kids_met : (o b h f r w s : Bool) → o ≡ (b && h) → h ≡ f → r ≡ (f && s) → (b && r) ≡ w → (o && s) ≡ w
kids_met o b h f r w s e g k m = grind (arith, common_steps)

module _ (decls : List VarDecl) (tokens : List PatToken) (types : ItemTypes) (env : Environment) where
  pub all_fit_step : (xs us : List Tree) (i j : ℕ) (x u : Tree) (o b h w : Bool) → j ≡ suc i → i < length xs
      → length xs ≡ length us → x ≡ get_or xs i x → u ≡ get_or us i u
      → o ≡ (b && h) → h ≡ fits_tree decls tokens types env x u → (b && all_fit (map (piece decls tokens types env) (drop i xs)) (drop i us)) ≡ w
      → (o && all_fit (map (piece decls tokens types env) (drop j xs)) (drop j us)) ≡ w
  all_fit_step xs us i j x u o b h w n lt len e g p q r = kids_met o b h _ _ w _ p q (all_fit_at decls tokens types env xs us i j x u n lt len e g) r

pub all_fit-uneven : (ps : List Piece) (ts : List Tree) → (length ps ≡ length ts → ⊥) → all_fit ps ts ≡ false
all_fit-uneven [] [] h = absurd (h refl)
all_fit-uneven [] (t ∷ ts) h = refl
all_fit-uneven (f ∷ fs) [] h = refl
all_fit-uneven (f ∷ fs) (t ∷ ts) h =
    let r = all_fit-uneven fs ts (λ e. h (omega (arith, e))) in grind (arith, common_steps)

pub all_fit-uneven_map : (f : Tree → Piece) (xs us : List Tree) → (length xs ≡ length us → ⊥) → all_fit (map f xs) us ≡ false
all_fit-uneven_map f xs us h = all_fit-uneven (map f xs) us (λ e. h (omega (arith, e, length-map xs f)))

-- one piece that fits nothing
pub all_fit-other : (decls : List VarDecl) (tokens : List PatToken) (types : ItemTypes) (env : Environment) (xs us : List Tree) (i : ℕ) (x u : Tree)
    → i < length xs → length xs ≡ length us
    → x ≡ get_or xs i x → u ≡ get_or us i u → fits_tree decls tokens types env x u ≡ false → all_fit (map (piece decls tokens types env) xs) us ≡ false
all_fit-other decls tokens types env [] us i x u lt len e g off = absurd (omega arith)
all_fit-other decls tokens types env (a ∷ xs) [] i x u lt len e g off = absurd (omega arith)
all_fit-other decls tokens types env (a ∷ xs) (b ∷ us) zero x u lt len e g off =
    let h : fits_tree decls tokens types env a b ≡ false = rw (sym e, sym g) off in grind (arith, common_steps)
all_fit-other decls tokens types env (a ∷ xs) (b ∷ us) (suc i) x u lt len e g off =
    let h = all_fit-other decls tokens types env xs us i x u (omega arith) (omega arith) e g off in grind (arith, common_steps)
