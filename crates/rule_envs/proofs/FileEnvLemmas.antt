-- The environments after a rule, with and without the ids of tokens.
use Rattle.std.proofs.Common.{◌≡◌, ◌<◌, ◌≤◌, ◌+◌, ℕ, Some, None, Option, refl, sym, ap, ◌∙◌, arith, List, [], ◌∷◌, ◌++◌, length, get_or, drop, map}
use Rattle.std.specs.Prelude.{option_map, slice_get}
use Rattle.std.specs.List.{AllZip}
use Rattle.std.proofs.lemmas.List.{map-append, append-nil, append_assoc, drop_all, drop_more, length-append, length-map}
use Rattle.std.proofs.lemmas.Option.{slice_get-map, get_or_from_slice_get}
use Rattle.env_parts.specs.Parts.{Pairs, bare_env, joined}
use Rattle.env_parts.proofs.PartLemmas.{joined-bare}
use Rattle.rule_envs.specs.declared.file_env.FileEnv.{FileEnv}
use Rattle.rule_envs.specs.Shares.{bare_file_env, StandsAt}
use Rattle.rule_envs.specs.FileEnvs.{extended, replaced, becomes_by, next_file_envs}
use Rattle.rule_envs.specs.Places.{parts_at}

-- each environment replaced by its extensions with the parts at its place
abbrev pub all_replaced : ℕ → List (List Pairs) → List FileEnv → List (Option ℕ) → List FileEnv
all_replaced number parts [] places = []
all_replaced number parts (c ∷ cs) [] = []
all_replaced number parts (c ∷ cs) (place ∷ places) = replaced number c (parts_at parts place) ++ all_replaced number parts cs places

-- extensions don't depend on ids
extended-bare : (number : ℕ) (c : FileEnv) (parts : List Pairs)
    → map bare_file_env (map (extended number c) parts) ≡ map (extended number (bare_file_env c)) (map bare_env parts)
extended-bare number c [] = refl
extended-bare number c (part ∷ parts) =
    let e : bare_env (joined c.env part) ≡ joined (bare_env c.env) (bare_env part) = sym (joined-bare c.env part) in
    let r = extended-bare number c parts in
    λ i. record { env = e i; rules = c.rules ++ number ∷ [] } ∷ r i

pub replaced-bare : (number : ℕ) (c : FileEnv) (parts : List Pairs)
    → map bare_file_env (replaced number c parts) ≡ replaced number (bare_file_env c) (map bare_env parts)
replaced-bare number c [] = refl
replaced-bare number c (part ∷ parts) = extended-bare number c (part ∷ parts)

at_some : (o : Option (List Pairs)) (part bare : List Pairs) → ((x : List Pairs) → o ≡ Some x → part ≡ x)
    → option_map (map bare_env) o ≡ Some bare → map bare_env part ≡ bare
at_some None part bare is e = absurd cc
at_some (Some x) part bare is e = let f : map bare_env x ≡ bare = cc in ap (map bare_env) (is x refl) ∙ f

parts_at-some : (parts : List (List Pairs)) (brings : Pairs → List Pairs) (projections : List Pairs) (k : ℕ) (env : Pairs)
    → map (map bare_env) parts ≡ map brings projections → slice_get projections k ≡ Some env
    → map bare_env (get_or parts k []) ≡ brings env
parts_at-some parts brings projections k env brought there =
    let whole : slice_get (map (map bare_env) parts) k ≡ Some (brings env) =
    ap (λ ps. slice_get ps k) brought ∙ slice_get-map brings projections k ∙ ap (option_map brings) there in
    at_some (slice_get parts k) (get_or parts k []) (brings env) (λ x h. get_or_from_slice_get parts k x [] h)
    (sym (slice_get-map (map bare_env) parts k) ∙ whole)

module _ (number : ℕ) (share : FileEnv → Option Pairs) (brings : Pairs → List Pairs) (projections : List Pairs)
    (parts : List (List Pairs)) (brought : map (map bare_env) parts ≡ map brings projections) where
  becomes_one : (c : FileEnv) (o : Option Pairs) (place : Option ℕ) → StandsAt projections o place
      → map bare_file_env (replaced number c (parts_at parts place)) ≡ becomes_by number share brings (bare_file_env c) o
  becomes_one c None place stands =
      replaced-bare number c (parts_at parts place)
      ∙ ap (λ p. replaced number (bare_file_env c) (map bare_env (parts_at parts p))) stands
  becomes_one c (Some env) place stands =
      let k = stands.0 in
      replaced-bare number c (parts_at parts place)
      ∙ ap (λ p. replaced number (bare_file_env c) (map bare_env (parts_at parts p))) stands.1.0
      ∙ ap (replaced number (bare_file_env c)) (parts_at-some parts brings projections k env brought stands.1.1)

  pub all_becomes : (cs : List FileEnv) (places : List (Option ℕ)) → AllZip (StandsAt projections) (map share (map bare_file_env cs)) places
      → map bare_file_env (all_replaced number parts cs places) ≡ next_file_envs number share brings (map bare_file_env cs)
  all_becomes [] places stand = refl
  all_becomes (c ∷ cs) [] stand = absurd stand
  all_becomes (c ∷ cs) (place ∷ places) stand =
      map-append bare_file_env (replaced number c (parts_at parts place)) (all_replaced number parts cs places)
      ∙ (λ i. becomes_one c (share (bare_file_env c)) place stand.0 i ++ all_becomes cs places stand.1 i)

-- ---- the loop over the environments

pub all_done : (number : ℕ) (parts : List (List Pairs)) (cs : List FileEnv) (places : List (Option ℕ)) (i : ℕ) (next : List FileEnv)
    → length cs ≤ i → next ++ all_replaced number parts (drop i cs) (drop i places) ≡ all_replaced number parts cs places
    → next ≡ all_replaced number parts cs places
all_done number parts cs places i next past h =
    sym (append-nil next)
    ∙ ap (λ (xs : List FileEnv). next ++ all_replaced number parts xs (drop i places)) (sym (drop_all i cs past)) ∙ h

-- the environments so far, those that replace this one, and those that replace the later ones
pub one_replaced : (number : ℕ) (parts : List (List Pairs)) (cs : List FileEnv) (places : List (Option ℕ)) (i : ℕ) (next now : List FileEnv)
    (c : FileEnv) (d : Option ℕ) → i < length cs → length places ≡ length cs → c ≡ get_or cs i c
    → next ++ all_replaced number parts (drop i cs) (drop i places) ≡ all_replaced number parts cs places
    → now ≡ next ++ replaced number c (parts_at parts (get_or places i d))
    → now ++ all_replaced number parts (drop (i + 1) cs) (drop (i + 1) places) ≡ all_replaced number parts cs places
one_replaced number parts cs places i next now c d within even at h is =
    let place = get_or places i d in
    let left : drop i cs ≡ c ∷ drop (i + 1) cs = drop_more cs i c within ∙ ap (λ (x : FileEnv). x ∷ drop (i + 1) cs) (sym at) in
    let right : drop i places ≡ place ∷ drop (i + 1) places =
    drop_more places i d (omega arith) in
    let more = all_replaced number parts (drop (i + 1) cs) (drop (i + 1) places) in
    ap (λ (xs : List FileEnv). xs ++ more) is ∙ append_assoc next (replaced number c (parts_at parts place)) more
    ∙ (λ j. next ++ all_replaced number parts (sym left j) (sym right j)) ∙ h

pub front_is_less : (all now more : List FileEnv) (f : FileEnv → FileEnv) (most : ℕ) → now ++ more ≡ all → most < length now → most < length (map f all)
front_is_less all now more f most h lt =
    let e : length now + length more ≡ length all = sym (length-append now more) ∙ ap length h in
    let m : length (map f all) ≡ length all = length-map all f in omega arith
