-- The equations of the folds over trees.
use Rattle.std.proofs.Common.{◌≡◌, false, sym, ap, ◌∙◌, List, [], ◌∷◌, map, Some, None, if◌then◌else◌}
use Rattle.c_terms.specs.declared.token.Token.{Token}
use Rattle.c_terms.specs.declared.label.Label.{Label}
use Rattle.c_terms.specs.declared.tree.Tree.{Tree}
use Rattle.c_terms.specs.declared.tree.Tree.TheVariants.{Leaf, Branch, rolls-Leaf, rolls-Branch}
use Rattle.c_terms.specs.declared.tree.Tree.TheFolds.{fold-roll-Tree}
use Rattle.smpl_notes.specs.Tokens.{is_short_name, is_zero, is_equality}
use Rattle.smpl_notes.specs.Names.{ShortNames, inside_from, short_names_step, short_names}
use Rattle.smpl_notes.specs.NullTests.{Tested, or_else, own_test, first_test, tested_step, tested}

pub short_names-Leaf : (t : Token) → short_names (Leaf t) ≡ record { own = (if is_short_name t then t ∷ [] else []); inside = [] }
short_names-Leaf t = ap short_names (sym (rolls-Leaf t)) ∙ fold-roll-Tree ShortNames short_names_step _

pub short_names-Branch : (l : Label) (cs : List Tree) → short_names (Branch l cs) ≡ record { own = []; inside = inside_from l 0 (map short_names cs) }
short_names-Branch l cs = ap short_names (sym (rolls-Branch l cs)) ∙ fold-roll-Tree ShortNames short_names_step _

pub tested-Leaf : (t : Token) → tested (Leaf t) ≡ record { zero = is_zero t; sign = (if is_equality t then Some t else None); test = None }
tested-Leaf t = ap tested (sym (rolls-Leaf t)) ∙ fold-roll-Tree Tested tested_step _

pub tested-Branch : (l : Label) (cs : List Tree)
    → tested (Branch l cs) ≡ record { zero = false; sign = None; test = or_else (own_test l (map tested cs)) (first_test (map tested cs)) }
tested-Branch l cs = ap tested (sym (rolls-Branch l cs)) ∙ fold-roll-Tree Tested tested_step _
