-- The shapes of children by the labels that rules give them.
use Rattle.std.proofs.Common.{◌≡◌, arith, refl, ap, sym, ◌∙◌, List, [], ◌∷◌, length, slice_get}
use Rattle.std.proofs.lemmas.Bool.{false≢true}
use Rattle.std.proofs.lemmas.Bool.Decides.{nat_tests}
use Rattle.std.specs.Prelude.{Bool, true, false, ◌&&◌, ◌||◌, nat_lt, if◌then◌else◌}
use Rattle.c_terms.specs.declared.label.Label.TheVariants as label
use Rattle.c_terms.specs.declared.tree.Tree.{Tree, out-Tree}
use Rattle.c_terms.proofs.SameLemmas.{out-Branch}
use Rattle.c_rows.specs.Branches.{branches_label, at_label, if_label, case_label, for_label, external_label, macro_label}
use Rattle.c_rows.specs.Branches.{text_is, labelled, is_decl_label, is_block_label, is_blockless}
use Rattle.smpl_body.specs.SmplElem.Forms.{is_list, is_list_at, nothing, last_kid}
use Rattle.sound_laws.specs.SmplLeaves.Shapes.{is_sign_in, is_sign, lists_and_signs, has_shape}

-- ---- shapes by labels

pub two_shape : (a : Tree) (cs : List Tree) → (cs ≡ [] → ⊥) → nat_lt 1 (length (a ∷ cs)) ≡ true
two_shape a [] h = absurd (h refl)
two_shape a (b ∷ cs) h = grind (arith, nat_tests)

pub at_shape : (cs : List Tree) → has_shape (at_label cs) cs ≡ true
at_shape [] = refl
at_shape (a ∷ []) = refl
at_shape (a ∷ b ∷ []) = refl
at_shape (a ∷ b ∷ c ∷ []) = refl
at_shape (a ∷ b ∷ c ∷ d ∷ cs) = refl

pub if_shape : (cs : List Tree) → has_shape (if_label cs) cs ≡ true
if_shape [] = refl
if_shape (a ∷ []) = refl
if_shape (a ∷ b ∷ []) = refl
if_shape (a ∷ b ∷ c ∷ []) = refl
if_shape (a ∷ b ∷ c ∷ d ∷ []) = refl
if_shape (a ∷ b ∷ c ∷ d ∷ e ∷ []) = refl
if_shape (a ∷ b ∷ c ∷ d ∷ e ∷ f ∷ cs) = refl

pub case_shape : (cs : List Tree) → has_shape (case_label cs) cs ≡ true
case_shape [] = refl
case_shape (a ∷ []) = refl
case_shape (a ∷ b ∷ []) = refl
case_shape (a ∷ b ∷ c ∷ []) = refl
case_shape (a ∷ b ∷ c ∷ d ∷ cs) = refl

pub for_shape : (cs : List Tree) → has_shape (for_label cs) cs ≡ true
for_shape [] = refl
for_shape (a ∷ []) = refl
for_shape (a ∷ b ∷ []) = refl
for_shape (a ∷ b ∷ c ∷ cs) = either (labelled is_decl_label (out-Tree c))
  where
    either : (e : Bool) → has_shape (if e then label.ForDecl else label.For) (a ∷ b ∷ c ∷ cs) ≡ true
    either true = refl
    either false = refl

pub external_shape : (cs : List Tree) → has_shape (external_label cs) cs ≡ true
external_shape [] = refl
external_shape (a ∷ []) = refl
external_shape (a ∷ b ∷ []) = refl
external_shape (a ∷ b ∷ c ∷ []) = either (labelled is_block_label (out-Tree c))
  where
    either : (e : Bool) → has_shape (if e then label.FunDef else label.Decl) (a ∷ b ∷ c ∷ []) ≡ true
    either true = refl
    either false = refl
external_shape (a ∷ b ∷ c ∷ d ∷ cs) = refl

pub macro_shape : (cs : List Tree) → has_shape (macro_label cs) cs ≡ true
macro_shape cs = either (is_blockless cs)
  where
    either : (e : Bool) → has_shape (if e then label.MacroItem else label.MacroFun) cs ≡ true
    either true = refl
    either false = refl

-- what a choice among patterns needs
abbrev pub choice : List Tree → Bool
choice cs = if is_list_at (slice_get cs 1) then lists_and_signs cs else true

pub choice_shape : (cs : List Tree) → choice cs ≡ true → has_shape (branches_label cs) cs ≡ true
choice_shape [] h = h
choice_shape (a ∷ []) h = h
choice_shape (a ∷ b ∷ []) h = h
choice_shape (a ∷ b ∷ c ∷ cs) h = either (text_is _ (out-Tree c))
  where
    either : (e : Bool) → has_shape (if e then label.PatOr else label.PatAnd) (a ∷ b ∷ c ∷ cs) ≡ true
    either true = h
    either false = h

pub choice_listed : (cs : List Tree) → lists_and_signs cs ≡ true → choice cs ≡ true
choice_listed cs h = either (is_list_at (slice_get cs 1))
  where
    either : (e : Bool) → (if e then lists_and_signs cs else true) ≡ true
    either true = h
    either false = refl

pub choice_listless : (a b : Tree) (cs : List Tree) → is_list b ≡ false → choice (a ∷ b ∷ cs) ≡ true
choice_listless a b cs h = ap (λ e. if e then lists_and_signs (a ∷ b ∷ cs) else true) h

pub or_left : (a b : Bool) → a ≡ true → (a || b) ≡ true
or_left true b h = refl
or_left false b h = absurd (false≢true h)

pub or_right : (a b : Bool) → b ≡ true → (a || b) ≡ true
or_right true b h = refl
or_right false b h = h

pub and_both : (a b : Bool) → a ≡ true → b ≡ true → (a && b) ≡ true
and_both true b h g = g
and_both false b h g = absurd (false≢true h)

pub unsigned : is_sign nothing ≡ false
unsigned = ap is_sign_in (out-Branch label.StmtList [])

pub later : (t : Tree) (cs : List Tree) → is_sign (last_kid cs) ≡ true → is_sign (last_kid (t ∷ cs)) ≡ true
later t [] h = absurd (false≢true (sym unsigned ∙ h))
later t (c ∷ cs) h = h

pub signed_some : (cs : List Tree) → is_sign (last_kid cs) ≡ true → cs ≡ [] → ⊥
signed_some cs h e = false≢true (sym unsigned ∙ (ap (λ ds. is_sign (last_kid ds)) (sym e) ∙ h))
