-- The parts of soundness, rule by rule.
use Rattle.std.specs.Prelude.{◌≡◌, ◌&&◌, true, Bool, Option, None, Some, List, [], ◌∷◌, ◌++◌}
use Rattle.std.specs.List.{list_all}
use Rattle.c_terms.specs.declared.token.Token.{Token}
use Rattle.smpl_patch.specs.declared.pattern.VarDecl.{VarDecl}
use Rattle.smpl_patch.specs.declared.pattern.PlusLine.{PlusLine}
use Rattle.smpl_patch.specs.declared.pattern.PlusBlock.{PlusBlock}
use Rattle.smpl_patch.specs.declared.pattern.PatToken.{PatToken}
use Rattle.smpl_patch.specs.Sound.{leads, is_plus_token, is_gap}
use Rattle.smpl_patch.specs.declared.rule.Rule.{Rule}

-- each of the rules passes the test, given those before it
abbrev pub EachPasses : (List Rule → Rule → Bool) → (earlier rules : List Rule) → Type 0
EachPasses test earlier [] = Unit {0}
EachPasses test earlier (r ∷ rs) = (test earlier r ≡ true) × EachPasses test (earlier ++ r ∷ []) rs

-- the property holds of each of the rules
abbrev pub EachHas : (Rule → Type 0) → List Rule → Type 0
EachHas P [] = Unit {0}
EachHas P (r ∷ rs) = P r × EachHas P rs

-- the first gap of each line, if it has one, is as long as the line's lead
abbrev pub leads_block : Option PlusBlock → Bool
leads_block None = true
leads_block (Some b) = list_all (λ (l : PlusLine). leads l.lead l.gaps) b.lines

abbrev pub leads_token : PatToken → Bool
leads_token t = leads_block t.before && leads_block t.after

-- each token of plus code is a token of C or a declared metavariable
abbrev pub whole_block : List VarDecl → Option PlusBlock → Bool
whole_block vars None = true
whole_block vars (Some b) = list_all (λ (l : PlusLine). list_all (λ (t : Token). is_plus_token vars t.kind t.text) l.tokens) b.lines

abbrev pub whole_token : List VarDecl → PatToken → Bool
whole_token vars t = whole_block vars t.before && whole_block vars t.after

-- each gap of plus code is empty or consists of blanks
abbrev pub gaps_block : Option PlusBlock → Bool
gaps_block None = true
gaps_block (Some b) = list_all (λ (l : PlusLine). list_all is_gap l.gaps) b.lines

abbrev pub gaps_token : PatToken → Bool
gaps_token t = gaps_block t.before && gaps_block t.after
