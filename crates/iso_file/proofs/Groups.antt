-- Groups that continue what is before them.
use Rattle.std.proofs.Common.{◌≡◌, List, [], ◌∷◌, ◌++◌, refl, ap, append_assoc}
use Rattle.iso_file.specs.Lines.{put, filled}
use Rattle.iso_file.specs.Stepped.{join}

module _ {A : Type 0} where
  pub join_put : (ts : List A) (t : A) (gs : List (List A)) → join (ts ++ t ∷ []) gs ≡ join ts (put t gs)
  join_put ts t [] = refl
  join_put ts t (g ∷ gs) = ap (λ (l : List A). l ∷ gs) (append_assoc ts (t ∷ []) g)

  pub filled_join : (gs : List (List A)) → filled (join [] gs) ≡ filled gs
  filled_join [] = refl
  filled_join (g ∷ gs) = refl

  pub filled_more : (ts : List A) (gs : List (List A)) → filled (ts ∷ gs) ≡ filled (ts ∷ []) ++ filled gs
  filled_more [] gs = refl
  filled_more (t ∷ ts) gs = refl
