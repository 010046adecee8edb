-- The notes on a patch, and where they are.
use Rattle.std.specs.Prelude.{ℕ, suc, ◌≡◌, ◌==◌, Bool, if◌then◌else◌, List, [], ◌∷◌, ◌++◌, map, slice_get}
use Rattle.std.specs.List.{list_all}
use Rattle.text_places.specs.declared.place.Place.{Place}
use Rattle.text_places.specs.Places.{place_of}
use Rattle.smpl_patch.specs.declared.rule.Rule.{Rule}
use Rattle.smpl_patch.specs.declared.rule.Patch.{Patch}
use Rattle.smpl_patch.specs.Bodies.{body}
use Rattle.smpl_patch.specs.Shapes.{patterns_body}
use Rattle.smpl_lexer.specs.declared.text.BodyLine.{BodyLine}
use Rattle.smpl_lexer.specs.declared.text.RuleText.{RuleText}
use Rattle.smpl_lexer.specs.declared.text.PatchText.{PatchText}
use Rattle.smpl_lexer.specs.Texts.{IsTextOf}
use Rattle.smpl_meta.specs.declared.patterns.Placed.{Placed}
use Rattle.smpl_meta.specs.Patterns.{pattern_tokens}
use Rattle.smpl_notes.specs.declared.note.Note.{Note}
use Rattle.smpl_notes.specs.declared.note.Note.TheVariants.{NoSign, InRule}
use Rattle.smpl_notes.specs.declared.note.Found.{Found}
use Rattle.smpl_notes.specs.Minus.{minus_slips}
use Rattle.smpl_notes.specs.Functions.{function_slips}
use Rattle.smpl_notes.specs.Names.{declared_words, name_slips}
use Rattle.smpl_notes.specs.NullTests.{test_slips}
use Rattle.smpl_notes.specs.Types.{type_notes}

-- ---- signs

abbrev pub is_unsigned_line : BodyLine → Bool
is_unsigned_line l = l.sign == 32

abbrev pub is_unsigned : RuleText → Bool
is_unsigned r = list_all is_unsigned_line r.body

-- no line of a body has a sign
abbrev pub are_unsigned : List RuleText → Bool
are_unsigned rules = list_all is_unsigned rules

abbrev pub sign_notes : List RuleText → List Note
sign_notes rules = if are_unsigned rules then NoSign ∷ [] else []

-- ---- rules

-- what is probably a mistake in a rule whose pattern tokens are these: kind by kind, and each kind in the order of the patch
abbrev pub slips : List Placed → List (List ℕ) → Rule → List Found
slips placed declared r =
    minus_slips placed (patterns_body (body r.body)) ++ function_slips r.mode (body r.body)
    ++ name_slips declared (patterns_body (body r.body)) ++ test_slips (patterns_body (body r.body))

abbrev pub places : List ℕ → List Placed → List Place
places bytes placed = map (λ p. place_of bytes p.at) placed

abbrev pub note : ℕ → List Place → Found → Note
note rule table f = InRule rule (slice_get table f.token) f.slip

-- the notes on a rule, given its number, its text, and the words of all declarations: those on its body, then those on its declarations
abbrev pub rule_notes : List ℕ → List (List ℕ) → ℕ → RuleText → Rule → List Note
rule_notes bytes declared number x r =
    let placed = pattern_tokens r.vars x.body in
    map (note number (places bytes placed)) (slips placed declared r) ++ type_notes bytes number x.decls

-- the notes on rules from a number on
abbrev pub notes_from : List ℕ → List (List ℕ) → ℕ → List RuleText → List Rule → List Note
notes_from bytes declared n (x ∷ xs) (r ∷ rs) = rule_notes bytes declared n x r ++ notes_from bytes declared (suc n) xs rs
notes_from bytes declared n [] rs = []
notes_from bytes declared n (x ∷ xs) [] = []

-- ---- patches

-- the notes on the rules of a text
abbrev pub notes : List ℕ → PatchText → List Rule → List Note
notes bytes text rules = sign_notes text.rules ++ notes_from bytes (declared_words text.rules) 0 text.rules rules

-- These are the notes on a patch that the bytes spell.
pub record AreNotes (bytes : List ℕ) (patch : Patch) (found : List Note) : Type 0 where
  pub text : PatchText
  pub is_text : IsTextOf bytes text
  pub are : found ≡ notes bytes text patch.rules
