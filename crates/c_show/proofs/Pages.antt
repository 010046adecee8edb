-- A page on which some tokens have been written, and the rest have not.
use Rattle.std.proofs.Common.{◌≡◌, refl, sym, ap, ◌∙◌, List, [], ◌∷◌, ◌++◌, append_assoc, map}
use Rattle.c_terms.specs.declared.label.Label.{Label}
use Rattle.c_terms.specs.declared.token.Token.{Token}
use Rattle.c_terms.specs.declared.tree.Tree.{Tree}
use Rattle.c_terms.specs.declared.tree.Tree.TheVariants.{Leaf, Branch, rolls-Leaf, rolls-Branch}
use Rattle.c_terms.specs.declared.tree.Tree.TheFolds.{fold-roll-Tree}
use Rattle.c_show.specs.declared.page.Role.{Role}
use Rattle.c_show.specs.declared.page.Page.{Page}
use Rattle.c_show.specs.Show.{Shown, shown, shown_step, shown_kids, shown_token}
use Rattle.c_show.specs.Showing.{Writes, text_with}

pub shown-Leaf : (t : Token) (role : Role) → shown (Leaf t) role ≡ shown_token t role ∷ []
shown-Leaf t role = ap (λ x. shown x role) (sym (rolls-Leaf t)) ∙ ap (λ f. f role) (fold-roll-Tree (Role → List Shown) shown_step _)

pub shown-Branch : (l : Label) (cs : List Tree) (role : Role) → shown (Branch l cs) role ≡ shown_kids l 0 (map shown cs)
shown-Branch l cs role = ap (λ x. shown x role) (sym (rolls-Branch l cs)) ∙ ap (λ f. f role) (fold-roll-Tree (Role → List Shown) shown_step _)

-- the text of the new page, joined with the rest, is that of the old page joined with all the tokens
pub record Reaches (old : Page) (all : List Shown) (new : Page) (rest : List Shown) : Type 0 where
  pub text : (more : List Shown) → text_with new (rest ++ more) ≡ text_with old (all ++ more)

pub reaches_start : (d : Page) (all : List Shown) → Reaches d all d all
reaches_start d all = record { text = λ more. refl }

pub reaches_more : (o d e : Page) (all now rest : List Shown) → Reaches o all d (now ++ rest) → Writes d e now → Reaches o all e rest
reaches_more o d e all now rest r w = record { text = λ more. w.text (rest ++ more) ∙ ap (text_with d) (sym (append_assoc now rest more)) ∙ r.text more }

pub reaches_end : (o d : Page) (all : List Shown) → Reaches o all d [] → Writes o d all
reaches_end o d all r = record { text = r.text }
