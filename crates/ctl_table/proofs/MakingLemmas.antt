-- One part is made after another.
use Rattle.std.proofs.Common.{◌≡◌, ℕ, ◌<◌, Bool, true, ◌&&◌, nat_lt, arith, refl, ap, ◌∙◌, List, [], ◌∷◌, map, length}
use Rattle.std.specs.List.{list_all}
use Rattle.std.proofs.lemmas.Bool.Decides.{nat_tests}
use Rattle.std.proofs.Common.{Result}
use Rattle.std.specs.Result.{IfOk}
use Rattle.std.proofs.lemmas.Result.{IfOk-weaker}
use Rattle.ctl_formula.specs.Plain.{Plain, And, Or, AU, EU}
use Rattle.ctl_formula.specs.declared.node.Node.{Node}
use Rattle.ctl_formula.specs.Tables.{at, plains, Grows, Makes}
use Rattle.ctl_formula.proofs.TableLemmas.{at-grows, grows-refl, grows-trans, grows-length, and-left, and-right, lt-true}

-- a part that exists
pub made-there : (ns : List Node) (i : ℕ) → i < length ns → Makes ns ns i (at (plains ns) i)
made-there ns i h = record { within = h; is = refl; grows = grows-refl ns }

-- the formula may be written in another way
pub made-as : (a b : List Node) (i : ℕ) (f g : Plain) → f ≡ g → Makes a b i f → Makes a b i g
made-as a b i f g e m = record { within = m.within; is = m.is ∙ e; grows = m.grows }

-- a part made in the grown table is made in the first one
pub made-then : (a b c : List Node) (j : ℕ) (f g : Plain) → Grows a b → Makes b c j f → f ≡ g → Makes a c j g
made-then a b c j f g s m e = record { within = m.within; is = m.is ∙ e; grows = grows-trans a b c s m.grows }

-- a part of the first table is in the grown one, unchanged
pub stands-still : (a b : List Node) (i : ℕ) → Grows a b → i < length a → i < length b
stands-still a b i g h = omega (arith, h, grows-length a b g)

pub stays : (a b : List Node) (i : ℕ) → Grows a b → i < length a → at (plains b) i ≡ at (plains a) i
stays = at-grows

pub lt-test : (i n : ℕ) → i < n → nat_lt i n ≡ true
lt-test i n h = grind (arith, nat_tests)

pub both-true : (a b : Bool) → a ≡ true → b ≡ true → (a && b) ≡ true
both-true a b h k = ap (λ z. z && b) h ∙ k

-- all parts of a list are in the grown table, unchanged
pub all-stand : (a b : List Node) (is : List ℕ) → Grows a b → list_all (λ i. nat_lt i (length a)) is ≡ true → list_all (λ i. nat_lt i (length b)) is ≡ true
all-stand a b [] g h = refl
all-stand a b (i ∷ is) g h =
    both-true _ _ (lt-test i (length b) (stands-still a b i g (lt-true i (length a) (and-left _ _ h)))) (all-stand a b is g (and-right _ _ h))

pub all-stay : (a b : List Node) (is : List ℕ) → Grows a b → list_all (λ i. nat_lt i (length a)) is ≡ true → map (at (plains b)) is ≡ map (at (plains a)) is
all-stay a b [] g h = refl
all-stay a b (i ∷ is) g h =
    let e = stays a b i g (lt-true i (length a) (and-left _ _ h)) in let r = all-stay a b is g (and-right _ _ h) in cc

-- what a call made in the grown table, as seen from the first one
pub made-up : {E : Type 0} (a b c : List Node) (r : Result ℕ E) (f g : Plain) → Grows a b → f ≡ g → IfOk r (λ i. Makes b c i f) → IfOk r (λ i. Makes a c i g)
made-up a b c r f g s e h = IfOk-weaker r (λ i. Makes b c i f) (λ i. Makes a c i g) (λ i m. made-then a b c i f g s m e) h

pub and-of : (f g h k : Plain) → f ≡ h → g ≡ k → And f g ≡ And h k
and-of f g h k p q = cc

pub or-of : (f g h k : Plain) → f ≡ h → g ≡ k → Or f g ≡ Or h k
or-of f g h k p q = cc

pub au-of : (f g h k : Plain) → f ≡ h → g ≡ k → AU f g ≡ AU h k
au-of f g h k p q = cc

pub eu-of : (f g h k : Plain) → f ≡ h → g ≡ k → EU f g ≡ EU h k
eu-of f g h k p q = cc
