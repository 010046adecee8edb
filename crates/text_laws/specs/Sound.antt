-- Plus code that consists of tokens of C and metavariables, and witnesses whose values are terms of tokens of C.
use Rattle.std.specs.Prelude.{Bool, true, false, List, [], ◌∷◌, Option, None, Some, All}
use Rattle.c_terms.specs.declared.token.Token.{Token}
use Rattle.std.specs.List.{flat_map}
use Rattle.c_terms.specs.Trees.{join}
use Rattle.smpl_terms.specs.declared.var.Var.{Var}
use Rattle.smpl_terms.specs.declared.value.Value.{Value}
use Rattle.smpl_patch.specs.declared.pattern.PatToken.{PatToken}
use Rattle.smpl_patch.specs.declared.pattern.PlusLine.{PlusLine}
use Rattle.smpl_patch.specs.declared.pattern.PlusBlock.{PlusBlock}
use Rattle.smpl_patch.specs.declared.witness.Witness.{Witness}
use Rattle.smpl_patch.specs.declared.witness.Witness.TheOpen.{Witness-F}
use Rattle.smpl_patch.specs.declared.witness.Witness.TheFolds.{fold-Witness}
use Rattle.smpl_patch.specs.declared.witness.RuleWitness.{RuleWitness}
use Rattle.edit_marks.specs.Blocks.{is_meta}
use Rattle.edit_marks.specs.Plain.{IsCToken, AreSoundGaps}
use Rattle.text_laws.specs.OutputLaws.Values.{IsCValue, AreCValues}

-- a metavariable, or a token of C that is no Stray with a text of its kind
abbrev pub IsPlusToken : Bool → Token → Type 0
IsPlusToken true t = Unit {0}
IsPlusToken false t = IsCToken t.kind t.text

abbrev pub ArePlusTokens : List Token → Type 0
ArePlusTokens [] = Unit {0}
ArePlusTokens (t ∷ tokens) = IsPlusToken (is_meta t.kind) t × ArePlusTokens tokens

abbrev pub ArePlusLines : List PlusLine → Type 0
ArePlusLines [] = Unit {0}
ArePlusLines (line ∷ lines) = (AreSoundGaps line.gaps × ArePlusTokens line.tokens) × ArePlusLines lines

abbrev pub IsPlusBlock : Option PlusBlock → Type 0
IsPlusBlock None = Unit {0}
IsPlusBlock (Some block) = ArePlusLines block.lines

abbrev pub HasPlusCode : PatToken → Type 0
HasPlusCode t = IsPlusBlock t.before × IsPlusBlock t.after

-- the rule's plus code consists of such tokens, with only spaces between them
abbrev pub HavePlusCode : List PatToken → Type 0
HavePlusCode = All HasPlusCode

-- each value is a place, or a term of tokens of C that are no Strays
abbrev pub HasCValue : Var × Value → Type 0
HasCValue p = IsCValue p.1

abbrev pub HaveCValues : List (Var × Value) → Type 0
HaveCValues [] = Unit {0}
HaveCValues (p ∷ env) = HasCValue p × HaveCValues env

abbrev pub bind_step : Witness-F (List Value) → List Value
bind_step (Witness-F.Touch node atom path) = []
bind_step (Witness-F.Bind node x v under) = v ∷ join under

-- the values of the binds of a tree
abbrev pub bind_values : Witness → List Value
bind_values = fold-Witness (List Value) bind_step

-- each value of the witness's environment and of its binds is a place, or a term of tokens of C
abbrev pub HasCTerms : RuleWitness → Type 0
HasCTerms w = HaveCValues w.env × AreCValues (flat_map bind_values w.forest)
