-- The 201st bracket that is open at once among a rule's pattern tokens, including those of `when` code.
use Rattle.std.specs.Prelude.{ℕ, ◌≡◌, ◌≤◌, ◌<◌, ◌==◌, if◌then◌else◌, List, [], ◌∷◌, ◌++◌, map, Option, None, Some}
use Rattle.c_terms.specs.declared.token.Token.{Token}
use Rattle.c_rows.specs.Depth.{step, opens_of}
use Rattle.c_rows.specs.Limits.{most_open}
use Rattle.smpl_patch.specs.declared.fault.PatchFault.{PatchFault}
use Rattle.smpl_patch.specs.declared.fault.PatchFault.TheVariants.{TooDeep}
use Rattle.smpl_meta.specs.declared.patterns.Placed.{Placed}

abbrev pub deep_from : ℕ → List Placed → Option PatchFault
deep_from depth [] = None
deep_from depth (p ∷ ps) = if step p.token depth == 201 then Some (TooDeep p.at) else deep_from (step p.token depth) ps

abbrev pub deep_fault : List Placed → Option PatchFault
deep_fault ps = deep_from 0 ps

-- ---- the same, by the parser's count: for the law on brackets

abbrev pub tokens : List Placed → List Token
tokens ps = map (λ (p : Placed). p.token) ps

-- The fault is at the first token with which more than 200 brackets are open at once.
pub record IsFirstTooMany (ps : List Placed) (f : PatchFault) : Type 0 where
  pub before : List Placed
  pub here : Placed
  pub behind : List Placed
  pub are : ps ≡ before ++ here ∷ behind
  pub is : f ≡ TooDeep here.at
  pub few : opens_of (tokens before) ≤ most_open
  pub many : most_open < opens_of (tokens (before ++ here ∷ []))
