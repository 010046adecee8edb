-- The definitions at small values, above all where two readings differ.
use Rattle.std.proofs.Common.{◌≡◌, ℕ, Bool, true, false, Some, [], ◌∷◌, refl, codes}
use Rattle.c_terms.specs.declared.label.Label.TheVariants as label
use Rattle.c_terms.specs.declared.token.TokenKind.TheVariants as token
use Rattle.c_terms.specs.declared.token.MetaKind.TheVariants as meta
use Rattle.c_terms.specs.declared.tree.Tree.{Tree}
use Rattle.c_terms.specs.declared.tree.Tree.TheOpen.{Tree-F}
use Rattle.smpl_terms.specs.declared.var.Var.{Var}
use Rattle.smpl_patch.specs.declared.pattern.Spot.TheVariants as spot
use Rattle.smpl_patch.specs.declared.pattern.Pattern.{Pattern}
use Rattle.smpl_patch.specs.declared.pattern.VarKind.{VarKind}
use Rattle.smpl_patch.specs.declared.pattern.VarKind.TheVariants as var_kind
use Rattle.smpl_patch.specs.declared.pattern.VarDecl.{VarDecl}
use Rattle.smpl_patch.specs.declared.rule.Rule.{Rule}
use Rattle.smpl_patch.specs.declared.rule.Dep.TheVariants as depends
use Rattle.smpl_patch.specs.declared.rule.Mode.TheVariants as mode
use Rattle.smpl_patch.specs.declared.wanted.Wanted.{Wanted}
use Rattle.smpl_patch.specs.declared.wanted.NameWanted.TheVariants as name
use Rattle.smpl_patch.specs.declared.wanted.TypeWanted.TheVariants as type
use Rattle.smpl_patch.specs.declared.fault.PatchFault.TheVariants as fault
use Rattle.smpl_patch.specs.Held.{held_at}
use Rattle.smpl_patch.specs.Patterns.{declared_as}
use Rattle.smpl_patch.specs.Faults.{first_of}
use Rattle.smpl_patch.specs.Bodies.{Element, Atom, Block, Gap, AnyOf, End, Then, NoMore, More}
use Rattle.smpl_patch.specs.Shapes.{is_formed_body, lengths_body, patterns_body}
use Rattle.smpl_patch.specs.Sound.{is_plus_token, is_gap, is_sound_decl, is_sound_wanted}
use Rattle.smpl_patch.specs.Wants.{anything}

-- ---- what is compared

-- all of `if (c) s` but s
if_without_its_body : (form a b c d s : Tree) → held_at spot.Whole (Tree-F.Branch label.If (a ∷ b ∷ c ∷ d ∷ s ∷ [])) form ≡ a ∷ b ∷ c ∷ d ∷ []
if_without_its_body form a b c d s = refl

-- of `if (c) s else t`, also the `else`
else_is_own : (form a b c d s e t : Tree)
    → held_at spot.Whole (Tree-F.Branch label.IfElse (a ∷ b ∷ c ∷ d ∷ s ∷ e ∷ t ∷ [])) form ≡ a ∷ b ∷ c ∷ d ∷ e ∷ []
else_is_own form a b c d s e t = refl

-- of `do s while (c);`, the `do` at its head, and everything from `while` on at its tail
do_is_its_head : (form d s w a c b e : Tree) → held_at spot.Whole (Tree-F.Branch label.Do (d ∷ s ∷ w ∷ a ∷ c ∷ b ∷ e ∷ [])) form ≡ d ∷ []
do_is_its_head form d s w a c b e = refl

tail_of_do : (form d s w a c b e : Tree) → held_at spot.Tail (Tree-F.Branch label.Do (d ∷ s ∷ w ∷ a ∷ c ∷ b ∷ e ∷ [])) form ≡ w ∷ a ∷ c ∷ b ∷ e ∷ []
tail_of_do form d s w a c b e = refl

-- what is not a head, and an expression, are compared whole
call_is_whole : (form f a : Tree) → held_at spot.Whole (Tree-F.Branch label.Call (f ∷ a ∷ [])) form ≡ form ∷ []
call_is_whole form f a = refl

inside_is_whole : (form a s : Tree) → held_at spot.Inside (Tree-F.Branch label.If (a ∷ s ∷ [])) form ≡ form ∷ []
inside_is_whole form a s = refl

-- ---- declarations

abbrev x : ℕ → Var
x rule = record { rule = rule; name = codes "x" }

abbrev as_expression : VarDecl
as_expression = record { var = x 1; kind = var_kind.Meta meta.Expr; inherited = false; not_names = []; not_places = []; wanted = anything }

abbrev as_position : VarDecl
as_position = record { var = x 1; kind = var_kind.Position; inherited = false; not_names = []; not_places = []; wanted = anything }

-- a position is not a metavariable
no_position : declared_as (as_position ∷ as_expression ∷ []) (codes "x") ≡ Some as_expression
no_position = refl

-- a variable of the second rule has that rule's number
own_number : is_sound_decl [] as_expression ≡ false
own_number = refl

-- ---- what variables take

abbrev pointer : Wanted
pointer = record { name = name.Any; ty = type.Pointer 1 }

abbrev decl : VarKind → Bool → Wanted → VarDecl
decl kind inherited w = record { var = x 0; kind = kind; inherited = inherited; not_names = []; not_places = []; wanted = w }

-- a rule of `expression *x;`
abbrev first : Rule
first = record {
  name = codes "r";
  depends = depends.Always;
  mode = mode.Forall;
  vars = decl (var_kind.Meta meta.Expr) false pointer ∷ [];
  exports = x 0 ∷ [];
  body = [];
  tokens = [];
}

-- `expression *x;` takes pointers, and no identifier does
pointers_are_expressions : is_sound_wanted [] (decl (var_kind.Meta meta.Expr) false pointer) ≡ true
pointers_are_expressions = refl

no_pointer_is_an_identifier : is_sound_wanted [] (decl (var_kind.Meta meta.Ident) false pointer) ≡ false
no_pointer_is_an_identifier = refl

-- `expression r.x;` takes what x takes in r, which is not every expression
inherited_as_declared : is_sound_wanted (first ∷ []) (decl (var_kind.Meta meta.Expr) true pointer) ≡ true
inherited_as_declared = refl

inherited_without_its_type : is_sound_wanted (first ∷ []) (decl (var_kind.Meta meta.Expr) true anything) ≡ false
inherited_without_its_type = refl

-- ---- faults

-- the place counts before the number
least_place : first_of (fault.BadToken 9 ∷ fault.UnknownRule 4 ∷ fault.TwiceNamed 9 ∷ []) ≡ Some (fault.UnknownRule 4)
least_place = refl

-- at one place, the lesser number counts
least_number : first_of (fault.UnknownRule 4 ∷ fault.TwiceNamed 4 ∷ fault.KindDiffers 4 ∷ []) ≡ Some (fault.TwiceNamed 4)
least_number = refl

-- ---- bodies

abbrev dots : Element
dots = Gap NoMore false false

-- dots may be first in a block, but neither first in a body nor next to other dots
first_in_block : (p : Pattern) → is_formed_body (Then (Block p (Then dots (Then (Atom p) End)) p) End) ≡ true
first_in_block p = refl

first_in_body : (p : Pattern) → is_formed_body (Then dots (Then (Atom p) End)) ≡ false
first_in_body p = refl

side_by_side : (p : Pattern) → is_formed_body (Then (Atom p) (Then dots (Then dots (Then (Atom p) End)))) ≡ false
side_by_side p = refl

one_branch : (p : Pattern) → is_formed_body (Then (AnyOf (More (Then (Atom p) End) NoMore)) End) ≡ false
one_branch p = refl

empty_branch : (p : Pattern) → is_formed_body (Then (AnyOf (More (Then (Atom p) End) (More End NoMore))) End) ≡ true
empty_branch p = refl

-- the patterns of `when` code are patterns of the rule
when_code : (p q : Pattern) → patterns_body (Then (Atom p) (Then (Gap (More (Then (Atom q) End) NoMore) false false) (Then (Atom p) End))) ≡ p ∷ q ∷ p ∷ []
when_code p q = refl

-- for a block, the sequence inside it, which has three members
lengths_of_block : (p : Pattern) → lengths_body (Then (Block p (Then dots (Then (Atom p) (Then dots End))) p) End) ≡ 3 ∷ 0 ∷ 0 ∷ []
lengths_of_block p = refl

-- ---- plus code

-- `if` is a keyword, and two tokens are not a token
keyword : is_plus_token [] token.Keyword (codes "if") ≡ true
keyword = refl

no_name : is_plus_token [] token.Name (codes "if") ≡ false
no_name = refl

two_tokens : is_plus_token [] token.Punct (codes ")(") ≡ false
two_tokens = refl

-- a comment is not a gap
blanks : is_gap (codes "  ") ≡ true
blanks = refl

comment : is_gap (codes " /**/") ≡ false
comment = refl
