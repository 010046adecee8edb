-- What is at the front of a list of cells.
use Rattle.std.proofs.Common.{◌≡◌, List, ◌++◌, Option, None, Some, All, IfSome, subst}
use Rattle.std.specs.Option.{option_to_list, option_flatten}
use Rattle.std.proofs.lemmas.List.Elements.{All-head, All-tail}

module _ {X : Type 0} (P : X → Type 0) where
  all-front : (r : Option X) (ys : List X) → All P (option_to_list r ++ ys) → IfSome r P × All P ys
  all-front None ys h = (tt, h)
  all-front (Some x) ys h = (All-head P x ys h, All-tail P x ys h)

  pub all-next : (xs ys : List X) (r : Option X) → xs ≡ option_to_list r ++ ys → All P xs → IfSome r P × All P ys
  all-next xs ys r e h = all-front r ys (subst (All P) e h)

  pub flat : (r : Option (Option X)) → IfSome r (λ c. IfSome c P) → IfSome (option_flatten r) P
  flat None h = tt
  flat (Some c) h = h
