-- Terms and witnesses without the ids of tokens consist of tokens of C if they do with them.
use Rattle.std.proofs.Common.{◌≡◌, ℕ, sym, ap, ◌∙◌, subst, List, [], ◌∷◌, ◌++◌, map}
use Rattle.c_terms.specs.declared.token.Token.{Token}
use Rattle.c_terms.specs.declared.label.Label.{Label}
use Rattle.c_terms.specs.declared.tree.Tree.{Tree}
use Rattle.c_terms.specs.declared.tree.Tree.TheVariants.{Leaf, Branch}
use Rattle.c_terms.specs.Trees.{leaves, join}
use Rattle.c_terms.specs.Bare.{bare}
use Rattle.c_terms.proofs.TreeLemmas.{leaves-Leaf, leaves-Branch}
use Rattle.c_terms.proofs.BareLaws.{bare-Leaf, bare-Branch}
use Rattle.c_terms.proofs.Induct as terms
use Rattle.smpl_terms.specs.declared.var.Var.{Var}
use Rattle.smpl_terms.specs.declared.value.Value.{Value}
use Rattle.smpl_terms.specs.declared.value.Value.TheVariants.{Term, Place}
use Rattle.smpl_patch.specs.declared.witness.Witness.{Witness}
use Rattle.smpl_patch.specs.declared.witness.Witness.TheVariants.{Touch, Bind, rolls-Touch, rolls-Bind}
use Rattle.smpl_patch.specs.declared.witness.Witness.TheFolds.{fold-roll-Witness}
use Rattle.wit_forest.proofs.WitOrder.Induct.{Each, witness_induction}
use Rattle.edit_marks.specs.Plain.{AreCTokens}
use Rattle.env_parts.specs.Parts.{Pairs, bare_value, bare_env}
use Rattle.rule_chain.specs.RuleWitnesses.Bare.{bare_tree, bare_step}
use Rattle.text_laws.specs.OutputLaws.Values.{IsCValue, AreCValues}
use Rattle.text_laws.specs.Sound.{bind_values, HaveCValues}
use Rattle.text_laws.proofs.ValueLaws.ForestLemmas.{values-Bind, HasBinds, HaveBinds, touch_binds, bind_binds}

-- ---- terms

tokens_left : (xs ys : List Token) → AreCTokens (xs ++ ys) → AreCTokens xs
tokens_left [] ys h = tt
tokens_left (x ∷ xs) ys h = (h.0, tokens_left xs ys h.1)

tokens_right : (xs ys : List Token) → AreCTokens (xs ++ ys) → AreCTokens ys
tokens_right [] ys h = h
tokens_right (x ∷ xs) ys h = tokens_right xs ys h.1

tokens_both : (xs ys : List Token) → AreCTokens xs → AreCTokens ys → AreCTokens (xs ++ ys)
tokens_both [] ys h k = k
tokens_both (x ∷ xs) ys h k = (h.0, tokens_both xs ys h.1 k)

abbrev Stays : Tree → Type 0
Stays t = AreCTokens (leaves t) → AreCTokens (leaves (bare t))

kids_stay : (cs : List Tree) → terms.Each Stays cs → AreCTokens (join (map leaves cs)) → AreCTokens (join (map leaves (map bare cs)))
kids_stay [] e h = tt
kids_stay (c ∷ cs) e h =
    tokens_both (leaves (bare c)) (join (map leaves (map bare cs))) (e.0 (tokens_left (leaves c) (join (map leaves cs)) h))
    (kids_stay cs e.1 (tokens_right (leaves c) (join (map leaves cs)) h))

leaf_stays : (a : Token) → Stays (Leaf a)
leaf_stays a h =
    let own : AreCTokens (a ∷ []) = subst AreCTokens (leaves-Leaf a) h in
    subst (λ (t : Tree). AreCTokens (leaves t)) (sym (bare-Leaf a)) (subst AreCTokens (sym (leaves-Leaf (record a { id = 0 }))) (own.0, tt))

branch_stays : (l : Label) (cs : List Tree) → terms.Each Stays cs → Stays (Branch l cs)
branch_stays l cs e h =
    let own : AreCTokens (join (map leaves cs)) = subst AreCTokens (leaves-Branch l cs) h in
    subst (λ (t : Tree). AreCTokens (leaves t)) (sym (bare-Branch l cs))
    (subst AreCTokens (sym (leaves-Branch l (map bare cs))) (kids_stay cs e own))

tree_stays : (t : Tree) → Stays t
tree_stays = terms.tree_induction Stays leaf_stays branch_stays

value_stays : (v : Value) → IsCValue v → IsCValue (bare_value v)
value_stays (Term t) h = tree_stays t h
value_stays (Place id) h = tt

pub env_stays : (env : Pairs) → HaveCValues env → HaveCValues (bare_env env)
env_stays [] h = tt
env_stays (p ∷ env) h = (value_stays p.1 h.0, env_stays env h.1)

-- ---- trees of witnesses

bare-Touch : (n a : ℕ) (p : List ℕ) → bare_tree (Touch n a p) ≡ Touch n a p
bare-Touch n a p = ap bare_tree (sym (rolls-Touch n a p)) ∙ fold-roll-Witness Witness bare_step _

bare-Bind : (n : ℕ) (x : Var) (v : Value) (ws : List Witness) → bare_tree (Bind n x v ws) ≡ Bind n x (bare_value v) (map bare_tree ws)
bare-Bind n x v ws = ap bare_tree (sym (rolls-Bind n x v ws)) ∙ fold-roll-Witness Witness bare_step _

abbrev BindsStay : Witness → Type 0
BindsStay w = HasBinds w → HasBinds (bare_tree w)

under_stay : (ws : List Witness) → Each BindsStay ws → AreCValues (join (map bind_values ws)) → HaveBinds (map bare_tree ws)
under_stay [] e h = tt
under_stay (w ∷ ws) e h =
    (e.0 (values_left (bind_values w) (join (map bind_values ws)) h), under_stay ws e.1 (values_right (bind_values w) (join (map bind_values ws)) h))
  where
    values_left : (xs ys : List Value) → AreCValues (xs ++ ys) → AreCValues xs
    values_left [] ys h = tt
    values_left (x ∷ xs) ys h = (h.0, values_left xs ys h.1)

    values_right : (xs ys : List Value) → AreCValues (xs ++ ys) → AreCValues ys
    values_right [] ys h = h
    values_right (x ∷ xs) ys h = values_right xs ys h.1

touch_stays : (n a : ℕ) (p : List ℕ) → BindsStay (Touch n a p)
touch_stays n a p h = subst HasBinds (sym (bare-Touch n a p)) (touch_binds n a p)

bind_stays : (n : ℕ) (x : Var) (v : Value) (ws : List Witness) → Each BindsStay ws → BindsStay (Bind n x v ws)
bind_stays n x v ws e h =
    let own : AreCValues (v ∷ join (map bind_values ws)) = subst AreCValues (values-Bind n x v ws) h in
    subst HasBinds (sym (bare-Bind n x v ws)) (bind_binds n x (bare_value v) (map bare_tree ws) (value_stays v own.0) (under_stay ws e own.1))

binds_stay : (w : Witness) → BindsStay w
binds_stay = witness_induction BindsStay touch_stays bind_stays

pub forest_stays : (ws : List Witness) → HaveBinds ws → HaveBinds (map bare_tree ws)
forest_stays [] h = tt
forest_stays (w ∷ ws) h = (binds_stay w h.0, forest_stays ws h.1)
