-- Lists that are traversed up to some place.
use Rattle.std.proofs.Common.{◌≡◌, ℕ, ◌+◌, ◌<◌, Bool, List, [], ◌∷◌, ◌++◌, length, take, drop, Option, sym, ap, ◌∙◌, get_or, append_assoc}
use Rattle.std.proofs.lemmas.List.{drop_more, take_more}
use Rattle.smpl_terms.specs.declared.var.Var.{Var as Variable}
use Rattle.smpl_patch.specs.declared.pattern.VarDecl.{VarDecl}
use Rattle.smpl_patch.specs.declared.fault.PatchFault.{PatchFault}
use Rattle.smpl_patch.specs.Faults.{first_from}
use Rattle.smpl_meta.specs.declared.head.RuleHead.{RuleHead}
use Rattle.smpl_meta.specs.declared.item.DeclKind.{DeclKind}
use Rattle.smpl_meta.specs.declared.item.Named.{Named}
use Rattle.smpl_meta.specs.declared.item.Item.{Item}
use Rattle.smpl_meta.specs.Decls.{is_known, named_faults, nots_faults, item_faults, item_faults_by, items_faults, texts_of}
use Rattle.smpl_meta.specs.Decls.{place_not, places_not, vars_in, vars_of_items}
use Rattle.smpl_meta.proofs.FirstLemmas.{first_append}

pub at_item : {X : Type 0} (xs : List X) (i : ℕ) (x : X) → i < length xs → x ≡ get_or xs i x
    → drop i xs ≡ x ∷ drop (i + 1) xs
at_item {X} xs i x within is = drop_more xs i x within ∙ ap (λ (y : X). y ∷ drop (i + 1) xs) (sym is)

pub texts_more : (ns : List Named) (i : ℕ) (n : Named) (out : List (List ℕ)) → i < length ns → n ≡ get_or ns i n
    → out ++ texts_of (drop i ns) ≡ (out ++ n.name.token.text ∷ []) ++ texts_of (drop (i + 1) ns)
texts_more ns i n out within is = ap (λ (l : List Named). out ++ texts_of l) (at_item ns i n within is)
    ∙ sym (append_assoc out (n.name.token.text ∷ []) (texts_of (drop (i + 1) ns)))

pub places_more : (earlier : List RuleHead) (ns : List Named) (i : ℕ) (n : Named) (out : List Variable)
    → i < length ns → n ≡ get_or ns i n
    → out ++ places_not earlier (drop i ns) ≡ (out ++ place_not earlier n.from n.name) ++ places_not earlier (drop (i + 1) ns)
places_more earlier ns i n out within is = ap (λ (l : List Named). out ++ places_not earlier l) (at_item ns i n within is)
    ∙ sym (append_assoc out (place_not earlier n.from n.name) (places_not earlier (drop (i + 1) ns)))

pub vars_more : (earlier : List RuleHead) (rule : ℕ) (is : List Item) (i : ℕ) (x : Item) (out : List VarDecl)
    → i < length is → x ≡ get_or is i x
    → out ++ vars_of_items earlier rule (drop i is) ≡ (out ++ vars_in earlier rule x.kind x) ++ vars_of_items earlier rule (drop (i + 1) is)
vars_more earlier rule is i x out within e = ap (λ (l : List Item). out ++ vars_of_items earlier rule l) (at_item is i x within e)
    ∙ sym (append_assoc out (vars_in earlier rule x.kind x) (vars_of_items earlier rule (drop (i + 1) is)))

pub nots_more : (earlier : List RuleHead) (kind : DeclKind) (ns : List Named) (i : ℕ) (n : Named) (o : Option PatchFault)
    → i < length ns → n ≡ get_or ns i n
    → first_from o (nots_faults earlier kind (drop i ns)) ≡ first_from (first_from o (named_faults earlier kind n)) (nots_faults earlier kind (drop (i + 1) ns))
nots_more earlier kind ns i n o within is = ap (λ (l : List Named). first_from o (nots_faults earlier kind l)) (at_item ns i n within is)
    ∙ first_append o (named_faults earlier kind n) (nots_faults earlier kind (drop (i + 1) ns))

pub one_longer : (is : List Item) (i : ℕ) (x : Item) → i < length is → x ≡ get_or is i x
    → take (i + 1) is ≡ take i is ++ x ∷ []
one_longer is i x within e = take_more is i x within ∙ ap (λ (y : Item). take i is ++ y ∷ []) (sym e)

pub items_more : (earlier : List RuleHead) (is : List Item) (i : ℕ) (x : Item) (o : Option PatchFault) → i < length is
    → x ≡ get_or is i x
    → first_from o (items_faults earlier (take i is) (drop i is))
    ≡ first_from (first_from o (item_faults earlier (take i is) x)) (items_faults earlier (take (i + 1) is) (drop (i + 1) is))
items_more earlier is i x o within e = ap (λ (l : List Item). first_from o (items_faults earlier (take i is) l)) (at_item is i x within e)
    ∙ (first_append o (item_faults earlier (take i is) x) (items_faults earlier (take i is ++ x ∷ []) (drop (i + 1) is))
    ∙ ap (λ (l : List Item). first_from (first_from o (item_faults earlier (take i is) x))
    (items_faults earlier l (drop (i + 1) is))) (sym (one_longer is i x within e)))

-- an item of which it is known whether its name is used again, before the others
pub items-step : (earlier : List RuleHead) (is : List Item) (i : ℕ) (x : Item) (o new start : Option PatchFault) (again : Bool)
    → i < length is → x ≡ get_or is i x → again ≡ is_known (take i is) x → new ≡ first_from o (item_faults_by again earlier x)
    → first_from o (items_faults earlier (take i is) (drop i is)) ≡ start
    → first_from new (items_faults earlier (take (i + 1) is) (drop (i + 1) is)) ≡ start
items-step earlier is i x o new start again within e known step so-far =
    ap (λ (f : Option PatchFault). first_from f (items_faults earlier (take (i + 1) is) (drop (i + 1) is)))
    (step ∙ ap (λ (b : Bool). first_from o (item_faults_by b earlier x)) known)
    ∙ sym (items_more earlier is i x o within e) ∙ so-far
