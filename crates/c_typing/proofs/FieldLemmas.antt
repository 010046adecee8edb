-- Fields in a map, and lists of fields that grow.
use Rattle.std.proofs.Common.{◌≡◌, ℕ, suc, ◌+◌, ◌<◌, Bool, true, false, ◌&&◌, ◌||◌, cond, refl, sym, ap, subst, ◌∙◌, arith}
use Rattle.std.proofs.Common.{List, [], ◌∷◌, ◌++◌, map, length, take, drop, get_or, append_assoc, drop-cons, Option, Some, is_some}
use Rattle.std.specs.Prelude.{codes}
use Rattle.std.specs.Bool.{beq}
use Rattle.std.specs.List.{list_any}
use Rattle.std.specs.Map.{lookup}
use Rattle.std.proofs.lemmas.List.{take-append-drop, map-append}
use Rattle.std.proofs.Math.Seq.{take-append_seam, take-length}
use Rattle.indexmap.specs.IndexMap.{insert_entry}
use Rattle.c_terms.specs.declared.token.Token.{Token}
use Rattle.c_terms.specs.declared.label.Label.{Label}
use Rattle.c_terms.specs.declared.label.Label.TheVariants as label
use Rattle.c_terms.specs.declared.tree.Tree.{Tree}
use Rattle.c_terms.specs.declared.tree.Tree.TheVariants.{Leaf}
use Rattle.c_terms.proofs.NamesLemmas.{pointwise-same}
use Rattle.c_terms.specs.Trees.{join}
use Rattle.c_types.specs.declared.ty.Ty.{Ty}
use Rattle.c_typing.specs.declared.binding.Binding.{Binding}
use Rattle.c_typing.specs.declared.key.FieldKey.{FieldKey}
use Rattle.c_types.specs.Types.{same_flag}
use Rattle.c_typing.specs.Fields.{Field, is_field, field_type, with_field, with_fields, declared_fields, fields_in}
use Rattle.c_typing.specs.Fields.{may_define, inner_fields, same_key, field_at, fields_of_entries, field_of, own_fields, tagged_fields, declared_by_row}
use Rattle.c_typing.specs.Base.{name_at, is_word_at}
use Rattle.c_typing.proofs.FoldLemmas.{child_declared, fields_leaf}

flags : (a b : Bool) → beq a b ≡ same_flag a b
flags true true = refl
flags true false = refl
flags false true = refl
flags false false = refl

-- keys are the same if they are of one field
key-field : (k : FieldKey) (e : FieldKey × Option Ty) → same_key k e.0 ≡ is_field k.is_union k.tag k.name (field_at e)
key-field k e =
    let f = flags k.is_union e.0.is_union in let t = pointwise-same k.tag e.0.tag in let n = pointwise-same k.name e.0.name in
    λ i. f i && (t i && n i)

-- what a look-up finds
pub looked : (k : FieldKey) (es : List (FieldKey × Option Ty))
    → lookup (same_key k) es ≡ field_type (fields_of_entries es) k.is_union k.tag k.name
looked k [] = refl
looked k (e ∷ es) = let q = key-field k e in let r = looked k es in λ i. cond (q i) (Some e.1) (r i)

-- whether a field is there
pub there : (k : FieldKey) (es : List (FieldKey × Option Ty))
    → is_some (lookup (same_key k) es) ≡ list_any (is_field k.is_union k.tag k.name) (fields_of_entries es)
there k [] = refl
there k (e ∷ es) = by (same_key k e.0) (is_field k.is_union k.tag k.name (field_at e)) (key-field k e) (there k es)
  where
    by : (a b : Bool) → a ≡ b → is_some (lookup (same_key k) es) ≡ list_any (is_field k.is_union k.tag k.name) (fields_of_entries es)
        → is_some (cond a (Some e.1) (lookup (same_key k) es)) ≡ (b || list_any (is_field k.is_union k.tag k.name) (fields_of_entries es))
    by true true q h = refl
    by true false q h = absurd (cc)
    by false true q h = absurd (cc)
    by false false q h = h

-- a new field is put last
pub put-last : (k : FieldKey) (ty : Option Ty) (es : List (FieldKey × Option Ty)) → is_some (lookup (same_key k) es) ≡ false
    → fields_of_entries (insert_entry same_key es k ty) ≡ fields_of_entries es ++ field_at (k, ty) ∷ []
put-last k ty [] h = refl
put-last k ty (e ∷ es) h = by (same_key k e.0) h (put-last k ty es)
  where
    by : (a : Bool) → is_some (cond a (Some e.1) (lookup (same_key k) es)) ≡ false
        → (is_some (lookup (same_key k) es) ≡ false → fields_of_entries (insert_entry same_key es k ty) ≡ fields_of_entries es ++ field_at (k, ty) ∷ [])
        → fields_of_entries (cond a ((e.0, ty) ∷ es) (e ∷ insert_entry same_key es k ty)) ≡ field_at e ∷ (fields_of_entries es ++ field_at (k, ty) ∷ [])
    by true q r = absurd (cc)
    by false q r = ap (λ fs. field_at e ∷ fs) (r q)

-- a field that may be there already
pub with-known : (fs : List Field) (f : Field) → list_any (is_field f.is_union f.tag f.name) fs ≡ true → fs ≡ with_field fs f
with-known fs f h = sym (ap (λ b. cond b fs (fs ++ f ∷ [])) h)

pub with-new : (fs : List Field) (f : Field) → list_any (is_field f.is_union f.tag f.name) fs ≡ false → fs ++ f ∷ [] ≡ with_field fs f
with-new fs f h = sym (ap (λ b. cond b fs (fs ++ f ∷ [])) h)

-- lists that begin with another
abbrev pub Keeps : List Field → List Field → Type 0
Keeps fs gs = take (length fs) gs ≡ fs

pub keeps-same : (fs : List Field) → Keeps fs fs
keeps-same fs = take-length fs

pub keeps-more : (fs gs hs : List Field) → Keeps fs gs → Keeps gs hs → Keeps fs hs
keeps-more fs gs hs p q =
    let a : gs ≡ fs ++ drop (length fs) gs = sym (take-append-drop (length fs) gs) ∙ ap (λ l. l ++ drop (length fs) gs) p in
    let b : hs ≡ gs ++ drop (length gs) hs = sym (take-append-drop (length gs) hs) ∙ ap (λ l. l ++ drop (length gs) hs) q in
    let c : hs ≡ fs ++ (drop (length fs) gs ++ drop (length gs) hs) =
    b ∙ ap (λ l. l ++ drop (length gs) hs) a ∙ append_assoc fs (drop (length fs) gs) (drop (length gs) hs) in
    ap (take (length fs)) c ∙ take-append_seam fs (drop (length fs) gs ++ drop (length gs) hs)

pub keeps-field : (fs : List Field) (f : Field) → Keeps fs (with_field fs f)
keeps-field fs f = by (list_any (is_field f.is_union f.tag f.name) fs)
  where
    by : (b : Bool) → Keeps fs (cond b fs (fs ++ f ∷ []))
    by true = take-length fs
    by false = take-append_seam fs (f ∷ [])

-- fields after others
pub with-append : (fs xs ys : List Field) → with_fields (with_fields fs xs) ys ≡ with_fields fs (xs ++ ys)
with-append fs [] ys = refl
with-append fs (x ∷ xs) ys = with-append (with_field fs x) xs ys

-- what the rows of a structure declare, with one row more
pub rows-more : (is_union : Bool) (tag : List ℕ) (cs : List Tree) (i : ℕ) (c : Tree) (whole now next : List Field) → i < length cs → c ≡ get_or cs i c
    → next ≡ with_fields now (declared_fields is_union tag c) → with_fields now (join (map (declared_fields is_union tag) (drop i cs))) ≡ whole
    → with_fields next (join (map (declared_fields is_union tag) (drop (i + 1) cs))) ≡ whole
rows-more is_union tag cs i c whole now next lt e n h =
    let one : i + 1 ≡ suc i = omega arith in
    let d : drop i cs ≡ c ∷ drop (suc i) cs = drop-cons cs i c lt ∙ ap (λ x. x ∷ drop (suc i) cs) (sym e) in
    let rest = join (map (declared_fields is_union tag) (drop (suc i) cs)) in
    ap (λ k. with_fields next (join (map (declared_fields is_union tag) (drop k cs)))) one
    ∙ ap (λ fs. with_fields fs rest) n ∙ with-append now (declared_fields is_union tag c) rest
    ∙ ap (λ ts. with_fields now (join (map (declared_fields is_union tag) ts))) (sym d) ∙ h

-- the fields in the children of a branch, from child i on
abbrev pub inner_from : Label → List Tree → ℕ → List Field
inner_from l cs i = inner_fields l i (map child_declared (drop i cs))

inner-step : (l : Label) (cs : List Tree) (i : ℕ) (c : Tree) → i < length cs → c ≡ get_or cs i c
    → inner_from l cs i ≡ cond (may_define l i) (fields_in c) [] ++ inner_from l cs (suc i)
inner-step l cs i c lt e =
    let d : drop i cs ≡ c ∷ drop (suc i) cs = drop-cons cs i c lt ∙ ap (λ x. x ∷ drop (suc i) cs) (sym e) in
    ap (λ ts. inner_fields l i (map child_declared ts)) d

-- with one child more that may define structures
pub inner-more : (l : Label) (cs : List Tree) (i : ℕ) (c : Tree) (whole now next : List Field) (b : Bool) → i < length cs → c ≡ get_or cs i c
    → b ≡ may_define l i → next ≡ with_fields now (cond b (fields_in c) []) → with_fields now (inner_from l cs i) ≡ whole
    → with_fields next (inner_from l cs (i + 1)) ≡ whole
inner-more l cs i c whole now next b lt e m n h =
    let one : i + 1 ≡ suc i = omega arith in
    let own = cond (may_define l i) (fields_in c) [] in
    let n' : next ≡ with_fields now own = n ∙ ap (λ t. with_fields now (cond t (fields_in c) [])) m in
    ap (λ k. with_fields next (inner_from l cs k)) one
    ∙ ap (λ fs. with_fields fs (inner_from l cs (suc i))) n' ∙ with-append now own (inner_from l cs (suc i))
    ∙ ap (with_fields now) (sym (inner-step l cs i c lt e)) ∙ h

-- at the end nothing is left
pub inner-end : (l : Label) (cs : List Tree) (i : ℕ) (whole now : List Field) → length cs ≡ i → with_fields now (inner_from l cs i) ≡ whole → now ≡ whole
inner-end l cs i whole now e h = by cs i e h
  where
    none : (ts : List Tree) → drop (length ts) ts ≡ []
    none [] = refl
    none (t ∷ ts) = none ts

    by : (ts : List Tree) (k : ℕ) → length ts ≡ k → with_fields now (inner_from l ts k) ≡ whole → now ≡ whole
    by ts k q r =
        let n : drop k ts ≡ [] = ap (λ j. drop j ts) (sym q) ∙ none ts in
        ap (λ us. with_fields now (inner_fields l k (map child_declared us))) (sym n) ∙ r

pub rows-end : (is_union : Bool) (tag : List ℕ) (cs : List Tree) (i : ℕ) (whole now : List Field) → length cs ≡ i
    → with_fields now (join (map (declared_fields is_union tag) (drop i cs))) ≡ whole → now ≡ whole
rows-end is_union tag cs i whole now e h =
    let n : drop i cs ≡ [] = ap (λ j. drop j cs) (sym e) ∙ none cs in
    ap (λ us. with_fields now (join (map (declared_fields is_union tag) us))) (sym n) ∙ h
  where
    none : (ts : List Tree) → drop (length ts) ts ≡ []
    none [] = refl
    none (t ∷ ts) = none ts

module _ (es : List (FieldKey × Option Ty)) (k : FieldKey) (u : Bool) (t n : List ℕ) (ty : Option Ty) (b : Bool)
    (q : k ≡ record { is_union = u; tag = t; name = n }) (h : b ≡ is_some (lookup (same_key k) es)) where
  found : list_any (is_field u t n) (fields_of_entries es) ≡ b
  found = ap (λ (x : FieldKey). list_any (is_field x.is_union x.tag x.name) (fields_of_entries es)) (sym q) ∙ sym (there k es) ∙ sym h

  -- a field that is there changes nothing
  pub put-known : b ≡ true → fields_of_entries es ≡ with_field (fields_of_entries es) (record { is_union = u; tag = t; name = n; ty = ty })
  put-known e = with-known (fields_of_entries es) (record { is_union = u; tag = t; name = n; ty = ty }) (found ∙ e)

  -- and a new one is added
  pub put-new : b ≡ false → (after : List (FieldKey × Option Ty)) → after ≡ insert_entry same_key es k ty
      → fields_of_entries after ≡ with_field (fields_of_entries es) (record { is_union = u; tag = t; name = n; ty = ty })
  put-new e after g =
      ap fields_of_entries g ∙ put-last k ty es (sym h ∙ e)
      ∙ ap (λ (x : FieldKey). fields_of_entries es ++ record { is_union = x.is_union; tag = x.tag; name = x.name; ty = ty } ∷ []) q
      ∙ with-new (fields_of_entries es) (record { is_union = u; tag = t; name = n; ty = ty }) (found ∙ e)

-- what a look-up finds for a field
pub found-field : (es : List (FieldKey × Option Ty)) (k : FieldKey) (u : Bool) (t n : List ℕ) → k ≡ record { is_union = u; tag = t; name = n }
    → lookup (same_key k) es ≡ field_type (fields_of_entries es) u t n
found-field es k u t n q = looked k es ∙ ap (λ (x : FieldKey). field_type (fields_of_entries es) x.is_union x.tag x.name) q

-- the key of a field whose name is given as another list
pub key-named : (k : FieldKey) (u : Bool) (t n m : List ℕ) → k ≡ record { is_union = u; tag = t; name = n } → n ≡ m
    → k ≡ record { is_union = u; tag = t; name = m }
key-named k u t n m h e = subst (λ (x : List ℕ). k ≡ record { is_union = u; tag = t; name = x }) e h

-- the fields of bindings, with one binding more
pub binding-more : (old now next : List Field) (u : Bool) (t : List ℕ) (done : List Binding) (b : Binding)
    → now ≡ with_fields old (map (field_of u t) done) → next ≡ with_field now (field_of u t b)
    → next ≡ with_fields old (map (field_of u t) (done ++ b ∷ []))
binding-more old now next u t done b h g =
    g ∙ ap (λ fs. with_field fs (field_of u t b)) h ∙ with-append old (map (field_of u t) done) (field_of u t b ∷ [])
    ∙ ap (with_fields old) (sym (map-append (field_of u t) done (b ∷ [])))

-- nothing but structures declares fields of its own
pub own-none : (l : Label) (cs : List Tree) → (l ≡ label.StructDef → ⊥) → own_fields l cs ≡ []
own-none label.StructDef cs h = absurd (h refl)
own-none _ cs h = refl

pub tagged-own : (cs : List Tree) (tag : Option (List ℕ)) (u : Bool) → tag ≡ name_at cs 1 → u ≡ is_word_at (codes "union") cs 0
    → tagged_fields tag u cs ≡ own_fields label.StructDef cs
tagged-own cs tag u h g = λ i. tagged_fields (h i) (g i) cs

-- nor does a token
pub leaf-none : (t : Tree) (a : Token) (fs : List Field) → t ≡ Leaf a → fs ≡ with_fields fs (fields_in t)
leaf-none t a fs e = sym (ap (λ s. with_fields fs (fields_in s)) e ∙ ap (with_fields fs) (fields_leaf a))

-- nor do rows but those of fields
pub row-none : (u : Bool) (t : List ℕ) (l : Label) (cs : List Tree) → (l ≡ label.Field → ⊥) → declared_by_row u t l cs ≡ []
row-none u t label.Field cs h = absurd (h refl)
row-none u t _ cs h = refl
