-- The name at the core of a declarator, one level at a time.
use Rattle.std.proofs.Common.{◌≡◌, ℕ, zero, suc, refl, sym, ap, ◌∙◌, List, [], ◌∷◌, map, length, Option, None, Some, slice_get, option_and_then}
use Rattle.std.specs.Option.{option_flatten}
use Rattle.c_terms.specs.declared.label.Label.{Label}
use Rattle.c_terms.specs.declared.token.Token.{Token}
use Rattle.c_terms.specs.declared.tree.Tree.{Tree}
use Rattle.c_terms.specs.declared.tree.Tree.TheVariants.{Leaf, Branch, rolls-Leaf, rolls-Branch}
use Rattle.c_terms.specs.declared.tree.Tree.TheFolds.{fold-roll-Tree}
use Rattle.c_file.specs.Typedefs.{name_of, core_place, core_step, core}

pub core-Leaf : (a : Token) → core (Leaf a) ≡ name_of a
core-Leaf a = ap core (sym (rolls-Leaf a)) ∙ fold-roll-Tree (Option (List ℕ)) core_step _

length-cores : (cs : List Tree) → length (map core cs) ≡ length cs
length-cores [] = refl
length-cores (c ∷ cs) = ap suc (length-cores cs)

core-at : (cs : List Tree) (i : ℕ) → option_flatten (slice_get (map core cs) i) ≡ option_and_then core (slice_get cs i)
core-at [] i = refl
core-at (c ∷ cs) zero = refl
core-at (c ∷ cs) (suc i) = core-at cs i

step-at : (cs : List Tree) (place : Option ℕ)
    → option_and_then (λ i. option_flatten (slice_get (map core cs) i)) place ≡ option_and_then (λ i. option_and_then core (slice_get cs i)) place
step-at cs None = refl
step-at cs (Some i) = core-at cs i

pub core-Branch : (l : Label) (cs : List Tree) → core (Branch l cs) ≡ option_and_then (λ i. option_and_then core (slice_get cs i)) (core_place l (length cs))
core-Branch l cs = ap core (sym (rolls-Branch l cs)) ∙ fold-roll-Tree (Option (List ℕ)) core_step _
    ∙ ap (λ n. option_and_then (λ i. option_flatten (slice_get (map core cs) i)) (core_place l n)) (length-cores cs) ∙ step-at cs (core_place l (length cs))

-- the name in the child that has it is the name of the whole
pub core-found : (l : Label) (cs : List Tree) (n place : ℕ) (o : Option Tree) → n ≡ length cs → Some place ≡ core_place l n
    → slice_get cs place ≡ o → core (Branch l cs) ≡ option_and_then core o
core-found l cs n place o e p g =
    core-Branch l cs ∙ ap (λ k. option_and_then (λ i. option_and_then core (slice_get cs i)) (core_place l k)) (sym e)
    ∙ ap (λ q. option_and_then (λ i. option_and_then core (slice_get cs i)) q) (sym p) ∙ ap (λ q. option_and_then core q) g
