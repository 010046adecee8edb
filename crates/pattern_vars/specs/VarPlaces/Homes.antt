-- Where the variables of a sequence are quantified: the element or the suffix for each variable, and not the variables
-- element by element.
use Rattle.std.specs.Prelude.{◌≡◌, ℕ, zero, suc, Bool, true, false, not, ◌&&◌, ◌||◌, cond, nat_eq, nat_lt, Option, None, Some, List, [], ◌∷◌, ◌++◌}
use Rattle.std.specs.List.{filter}
use Rattle.smpl_terms.specs.declared.var.Var.{Var}
use Rattle.smpl_patch.specs.Bodies.{Body, End, Then}
use Rattle.pattern_vars.specs.Reads.{has}
use Rattle.pattern_vars.specs.declared.set.Key.{Key}
use Rattle.pattern_vars.specs.Keys.{value_of}
use Rattle.pattern_vars.specs.VarPlaces.Placing.{Reading, occurs_element, occurs_body, is_inside, after_dots}
use Rattle.pattern_vars.specs.declared.var_places.homes.Home.{Home}
use Rattle.pattern_vars.specs.declared.var_places.counted.Counted.{Counted}
use Rattle.pattern_vars.specs.declared.var_places.place.Place.{Place}
use Rattle.pattern_vars.specs.declared.var_places.place.Shares.{Shares}

-- where a variable of a sequence is quantified, if it occurs there; the first element has the number n
abbrev pub home_in : Reading → ℕ → Body → Var → Option Home
home_in r n End x = None
home_in r n (Then e rest) x =
    cond (occurs_element r e x)
    (Some (record { place = n; here = not (is_inside r e x) || occurs_body r rest x; again = occurs_body r rest x }))
    (cond (after_dots r e rest x) (Some (record { place = n; here = true; again = true })) (home_in r (suc n) rest x))

-- the map says where each variable is quantified
abbrev pub AreHomes : List (Key × Home) → Reading → ℕ → Body → Type 0
AreHomes entries r n b = (x : Var) → value_of entries x ≡ home_in r n b x

-- it is quantified somewhere and, if the flag says so, is known to occur again after the element that holds it
abbrev pub passes : Bool → Option Home → Bool
passes again None = false
passes again (Some h) = not again || h.again

abbrev pub is_here : Option Home → ℕ → Bool
is_here None n = false
is_here (Some h) n = h.here && nat_eq h.place n

abbrev pub is_within : Option Home → ℕ → Bool
is_within None n = false
is_within (Some h) n = not h.here && nat_eq h.place n

-- one more variable, if the flags say so
abbrev pub shared_by : Bool → Bool → Var → Shares → Shares
shared_by a b x s = record { here = s.here ++ cond a (x ∷ []) []; inside = s.inside ++ cond b (x ∷ []) [] }

-- variables by where they are quantified, for each element from number n on
abbrev pub shares_from : (Var → Option Home) → ℕ → Body → List Var → List Shares
shares_from home n End w = []
shares_from home n (Then e rest) w =
    record { here = filter (λ x. is_here (home x) n) w; inside = filter (λ x. is_within (home x) n) w } ∷ shares_from home (suc n) rest w

-- this many empty shares
abbrev pub empty_shares : ℕ → List Shares
empty_shares zero = []
empty_shares (suc n) = record { here = []; inside = [] } ∷ empty_shares n

-- one more variable
abbrev pub put_in : ℕ → Option Home → Var → List Shares → List Shares
put_in n h x [] = []
put_in n h x (s ∷ ss) = shared_by (is_here h n) (is_within h n) x s ∷ put_in (suc n) h x ss

-- what is quantified at the suffixes
abbrev pub all_here : List Shares → List Var
all_here [] = []
all_here (h ∷ hs) = h.here ++ all_here hs

-- the places with these shares, if this list is quantified around the first element
abbrev pub scoped : List Shares → List Var → List Place
scoped [] s = []
scoped (h ∷ hs) s = record { here = h.here; inside = h.inside; scope = s ++ h.here } ∷ scoped hs (s ++ h.here)

-- n of the parts that were counted have the variable
pub record IsCount (c : Counted) (x : Var) (n : ℕ) : Type 0 where
  pub some : has c.some x ≡ nat_lt 0 n
  pub several : has c.several x ≡ nat_lt 1 n
