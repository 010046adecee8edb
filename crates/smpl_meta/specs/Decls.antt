-- The variables of declarations, and what is wrong with them.
use Rattle.std.specs.Prelude.{ℕ, ◌≡◌, ◌&&◌, not, eqb, Bool, true, false, if◌then◌else◌, List, [], ◌∷◌, ◌++◌, Option, Some, None}
use Rattle.std.specs.Str.{bytes_eq}
use Rattle.smpl_terms.specs.declared.var.Var.{Var as Variable}
use Rattle.smpl_patch.specs.declared.pattern.VarDecl.{VarDecl}
use Rattle.smpl_patch.specs.declared.pattern.VarKind.{VarKind}
use Rattle.smpl_patch.specs.declared.pattern.VarKind.TheVariants.{Meta, Position}
use Rattle.smpl_patch.specs.declared.fault.PatchFault.{PatchFault}
use Rattle.smpl_patch.specs.declared.fault.PatchFault.TheVariants.{BadMetavariable, TwiceNamed, UnknownRule, KindDiffers}
use Rattle.smpl_lexer.specs.declared.token.PatchToken.{PatchToken}
use Rattle.smpl_meta.specs.declared.head.RuleHead.{RuleHead}
use Rattle.smpl_meta.specs.declared.item.DeclKind.{DeclKind}
use Rattle.smpl_meta.specs.declared.item.DeclKind.TheVariants.{Var, Symbol}
use Rattle.smpl_meta.specs.declared.item.Named.{Named}
use Rattle.smpl_meta.specs.declared.item.Item.{Item}
use Rattle.smpl_patch.specs.Faults.{first_of, first_from}
use Rattle.smpl_meta.specs.declared.decls.Parsed.{Parsed}
use Rattle.smpl_meta.specs.declared.decls.Declared.{Declared}
use Rattle.smpl_meta.specs.Forms.{is_keyword, parts}
use Rattle.smpl_meta.specs.Declarations.{AreDeclared, items_or_none}
use Rattle.smpl_meta.specs.Known.{var_of, kind_number}

-- ---- the items of all declarations

-- `answers` has for each declaration what it declares, or none for a malformed one

abbrev pub items_of : List (Option (List Item)) → List Item
items_of [] = []
items_of (answer ∷ more) = items_or_none answer ++ items_of more

-- a malformed declaration is a fault at its first token
abbrev pub not_of_form : List PatchToken → List PatchFault
not_of_form [] = []
not_of_form (t ∷ ts) = BadMetavariable t.at ∷ []

abbrev pub form_fault : List PatchToken → Option (List Item) → List PatchFault
form_fault part (Some items) = []
form_fault part None = not_of_form part

abbrev pub form_faults : List (List PatchToken) → List (Option (List Item)) → List PatchFault
form_faults [] answers = []
form_faults (part ∷ parts) [] = []
form_faults (part ∷ parts) (answer ∷ more) = form_fault part answer ++ form_faults parts more

-- ---- what is wrong with an item

abbrev pub word_fault : PatchToken → List PatchFault
word_fault t = if is_keyword t then BadMetavariable t.at ∷ [] else []

abbrev pub from_word : Option PatchToken → List PatchFault
from_word None = []
from_word (Some r) = word_fault r

abbrev pub is_symbol : DeclKind → Bool
is_symbol Symbol = true
is_symbol (Var k) = false

-- both have the same name, unless both are symbols
abbrev pub is_again : Item → Item → Bool
is_again i j = bytes_eq j.named.name.token.text i.named.name.token.text && not (is_symbol i.kind && is_symbol j.kind)

abbrev pub is_known : List Item → Item → Bool
is_known [] i = false
is_known (j ∷ js) i = if is_again i j then true else is_known js i

abbrev pub twice_by : Bool → Item → List PatchFault
twice_by again i = if again then TwiceNamed i.named.name.at ∷ [] else []

abbrev pub is_kind : DeclKind → VarKind → Bool
is_kind Symbol k = false
is_kind (Var j) k = eqb (kind_number j) (kind_number k)

-- the fault of `r.x`, by what is found for x
abbrev pub found_fault : DeclKind → PatchToken → Option VarDecl → List PatchFault
found_fault kind r None = UnknownRule r.at ∷ []
found_fault kind r (Some d) = if is_kind kind d.kind then [] else KindDiffers r.at ∷ []

abbrev pub from_fault : List RuleHead → DeclKind → Option PatchToken → PatchToken → List PatchFault
from_fault earlier kind None x = []
from_fault earlier kind (Some r) x = found_fault kind r (var_of earlier r.token.text x.token.text)

-- the faults of a name and of the rule that it comes from
abbrev pub named_faults : List RuleHead → DeclKind → Named → List PatchFault
named_faults earlier kind n = from_word n.from ++ (word_fault n.name ++ from_fault earlier kind n.from n.name)

abbrev pub nots_faults : List RuleHead → DeclKind → List Named → List PatchFault
nots_faults earlier kind [] = []
nots_faults earlier kind (n ∷ ns) = named_faults earlier kind n ++ nots_faults earlier kind ns

-- the faults of an item, by whether its name is used again
abbrev pub item_faults_by : Bool → List RuleHead → Item → List PatchFault
item_faults_by again earlier i =
    twice_by again i ++ (named_faults earlier i.kind i.named ++ nots_faults earlier i.kind i.nots)

abbrev pub item_faults : List RuleHead → List Item → Item → List PatchFault
item_faults earlier before i = item_faults_by (is_known before i) earlier i

-- the faults of items that follow others
abbrev pub items_faults : List RuleHead → List Item → List Item → List PatchFault
items_faults earlier before [] = []
items_faults earlier before (i ∷ is) = item_faults earlier before i ++ items_faults earlier (before ++ i ∷ []) is

-- all faults of declarations
abbrev pub decl_faults : List RuleHead → List (Option (List Item)) → List PatchToken → List PatchFault
decl_faults earlier answers tokens = form_faults (parts tokens) answers ++ items_faults earlier [] (items_of answers)

-- what the declarations declare
abbrev pub AreAnswers : List PatchToken → List (Option (List Item)) → Type 0
AreAnswers tokens answers = AreDeclared [] (parts tokens) answers

-- ---- variables

abbrev pub texts_of : List Named → List (List ℕ)
texts_of [] = []
texts_of (n ∷ ns) = n.name.token.text ∷ texts_of ns

abbrev pub names_not : VarKind → List Named → List (List ℕ)
names_not (Meta k) ns = texts_of ns
names_not Position ns = []

abbrev pub var_in : Option VarDecl → List Variable
var_in None = []
var_in (Some d) = d.var ∷ []

abbrev pub place_not : List RuleHead → Option PatchToken → PatchToken → List Variable
place_not earlier None x = []
place_not earlier (Some r) x = var_in (var_of earlier r.token.text x.token.text)

abbrev pub places_not : List RuleHead → List Named → List Variable
places_not earlier [] = []
places_not earlier (n ∷ ns) = place_not earlier n.from n.name ++ places_not earlier ns

-- a variable of the rule itself
abbrev pub own : List RuleHead → ℕ → VarKind → Item → VarDecl
own earlier rule kind i = record {
  var = record { rule = rule; name = i.named.name.token.text };
  kind = kind;
  inherited = false;
  not_names = names_not kind i.nots;
  not_places = places_not earlier i.nots;
  wanted = i.wanted;
}

-- a variable of an earlier rule, which wants there what it wants here
abbrev pub inherited_from : VarKind → Option VarDecl → List VarDecl
inherited_from kind None = []
inherited_from kind (Some d) =
    record { var = d.var; kind = kind; inherited = true; not_names = []; not_places = []; wanted = d.wanted } ∷ []

abbrev pub var_by : List RuleHead → ℕ → VarKind → Option PatchToken → Item → List VarDecl
var_by earlier rule kind None i = own earlier rule kind i ∷ []
var_by earlier rule kind (Some r) i = inherited_from kind (var_of earlier r.token.text i.named.name.token.text)

abbrev pub vars_in : List RuleHead → ℕ → DeclKind → Item → List VarDecl
vars_in earlier rule Symbol i = []
vars_in earlier rule (Var kind) i = var_by earlier rule kind i.named.from i

abbrev pub vars_of_items : List RuleHead → ℕ → List Item → List VarDecl
vars_of_items earlier rule [] = []
vars_of_items earlier rule (i ∷ is) = vars_in earlier rule i.kind i ++ vars_of_items earlier rule is

-- the variables that declarations declare
abbrev pub vars_of : List RuleHead → ℕ → List (Option (List Item)) → List VarDecl
vars_of earlier rule answers = vars_of_items earlier rule (items_of answers)

-- The declarations have no fault, and these are their variables.
pub record IsDecls (earlier : List RuleHead) (rule : ℕ) (tokens : List PatchToken) (vars : List VarDecl)
    : Type 0 where
  pub answers : List (Option (List Item))
  pub read : AreAnswers tokens answers
  pub faultless : decl_faults earlier answers tokens ≡ []
  pub vars_are : vars ≡ vars_of earlier rule answers

-- This is the first fault of the declarations.
pub record IsDeclFault (earlier : List RuleHead) (tokens : List PatchToken) (fault : PatchFault) : Type 0 where
  pub answers : List (Option (List Item))
  pub read : AreAnswers tokens answers
  pub first : first_of (decl_faults earlier answers tokens) ≡ Some fault

-- These are the items of declarations, and their first fault of form after others.
pub record AreParsed (first : Option PatchFault) (tokens : List PatchToken) (p : Parsed) : Type 0 where
  pub answers : List (Option (List Item))
  pub read : AreAnswers tokens answers
  pub items_are : p.items ≡ items_of answers
  pub first_is : p.first ≡ first_from first (form_faults (parts tokens) answers)

-- These are the variables of declarations, and their first fault after others.
pub record IsDeclaredBy (earlier : List RuleHead) (rule : ℕ) (first : Option PatchFault) (tokens : List PatchToken) (d : Declared)
    : Type 0 where
  pub answers : List (Option (List Item))
  pub read : AreAnswers tokens answers
  pub vars_are : d.vars ≡ vars_of earlier rule answers
  pub first_is : d.first ≡ first_from first (decl_faults earlier answers tokens)
