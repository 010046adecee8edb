-- Steps over the own children of heads and tails.
use Rattle.std.proofs.Common.{◌≡◌, ℕ, suc, zero, ◌<◌, Bool, false, ◌&&◌, ◌||◌, not, refl, arith, List, [], ◌∷◌, map, length, drop, get_or}
use Rattle.std.proofs.lemmas.Grind.{common_steps}
use Rattle.std.proofs.lemmas.List.{length-map}
use Rattle.c_terms.specs.declared.tree.Tree.{Tree}
use Rattle.c_types.specs.Tables.{ItemTypes}
use Rattle.smpl_patch.specs.declared.pattern.VarDecl.{VarDecl}
use Rattle.smpl_patch.specs.declared.pattern.PatToken.{PatToken}
use Rattle.smpl_terms.specs.Environments.{Environment}
use Rattle.pat_match.specs.Runs.{Piece}
use Rattle.pat_match.specs.Fitting.{piece, fits_tree}
use Rattle.pat_match.specs.Spots.{own_fit}
use Rattle.pat_match.proofs.Pieces.{kids_met}

pub own_fit-uneven : (q : ℕ → Bool) (i : ℕ) (ps : List Piece) (ts : List Tree) → (length ps ≡ length ts → ⊥) → own_fit q i ps ts ≡ false
own_fit-uneven q i [] [] h = absurd (h refl)
own_fit-uneven q i [] (t ∷ ts) h = refl
own_fit-uneven q i (f ∷ fs) [] h = refl
own_fit-uneven q i (f ∷ fs) (t ∷ ts) h =
    let r = own_fit-uneven q (suc i) fs ts (λ e. h (omega (arith, e))) in grind (arith, common_steps)

pub own_fit-uneven_map : (q : ℕ → Bool) (f : Tree → Piece) (xs us : List Tree) → (length xs ≡ length us → ⊥) → own_fit q 0 (map f xs) us ≡ false
own_fit-uneven_map q f xs us h = own_fit-uneven q 0 (map f xs) us (λ e. h (omega (arith, e, length-map xs f)))

module _ (decls : List VarDecl) (tokens : List PatToken) (types : ItemTypes) (env : Environment) where
  pub own_fit_at : (q : ℕ → Bool) (xs us : List Tree) (n i : ℕ) (x u : Tree) → i < length xs → length xs ≡ length us → x ≡ get_or xs i x → u ≡ get_or us i u
      → own_fit q n (map (piece decls tokens types env) (drop i xs)) (drop i us)
      ≡ ((not (q n) || fits_tree decls tokens types env x u) && own_fit q (suc n) (map (piece decls tokens types env) (drop (suc i) xs)) (drop (suc i) us))
  own_fit_at q [] us n i x u lt len e g = absurd (omega arith)
  own_fit_at q (a ∷ xs) [] n i x u lt len e g = absurd (omega arith)
  own_fit_at q (a ∷ xs) (b ∷ us) n zero x u lt len e g = rw (e, g) refl
  own_fit_at q (a ∷ xs) (b ∷ us) n (suc i) x u lt len e g = own_fit_at q xs us n i x u (omega arith) (omega arith) e g

  pub own_fit_step : (q : ℕ → Bool) (xs us : List Tree) (i j : ℕ) (x u : Tree) (o b h w : Bool) → j ≡ suc i → i < length xs
      → length xs ≡ length us → x ≡ get_or xs i x → u ≡ get_or us i u
      → o ≡ (b && h) → h ≡ (not (q i) || fits_tree decls tokens types env x u)
      → (b && own_fit q i (map (piece decls tokens types env) (drop i xs)) (drop i us)) ≡ w
      → (o && own_fit q j (map (piece decls tokens types env) (drop j xs)) (drop j us)) ≡ w
  own_fit_step q xs us i zero x u o b h w n lt len e g k m r = absurd (omega arith)
  own_fit_step q xs us i (suc j) x u o b h w n lt len e g k m r =
      let same : j ≡ i = omega (arith, n) in
      rw same (kids_met o b h _ _ w _ k m (own_fit_at q xs us i i x u lt len e g) r)
