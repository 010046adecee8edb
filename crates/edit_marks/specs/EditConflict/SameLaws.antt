-- Edits that are the same are equal.
use Rattle.std.specs.Prelude.{◌≡◌, ℕ, Bool, true, false, nat_eq, List}
use Rattle.std.specs.Bool.{beq, Decides}
use Rattle.std.specs.Cmp.{IsEquivalence, first_so, second_so, and_equiv, on_equiv, nat_eq_equiv, bool_eq_equiv}
use Rattle.std.specs.Cmp.Lexicographic.{pointwise, pointwise_decides, lists_equiv}
use Rattle.std.specs.Hash as fed
use Rattle.std.proofs.Common.{refl, ap, subst, ◌∙◌, ◌&&◌}
use Rattle.std.proofs.lemmas.Bool.Decides.{Decides-eqb}
use Rattle.edit_marks.specs.declared.edit_conflict.edit.Side.{Side}
use Rattle.edit_marks.specs.declared.edit_conflict.edit.Side.TheVariants.{Before, After}
use Rattle.edit_marks.specs.declared.edit_conflict.edit.Insert.{Insert}
use Rattle.edit_marks.specs.declared.edit_conflict.edit.Edit.{Edit}
use Rattle.edit_marks.specs.EditConflict.Same.{side_number, same_insert, same_edit, edit_input}

same_side : (a b : Side) → side_number a ≡ side_number b → a ≡ b
same_side Before Before e = refl
same_side Before After e = absurd cc
same_side After Before e = absurd cc
same_side After After e = refl

same_bool : (a b : Bool) → beq a b ≡ true → a ≡ b
same_bool true true e = refl
same_bool true false e = absurd cc
same_bool false true e = absurd cc
same_bool false false e = refl

own_bool : (a : Bool) → beq a a ≡ true
own_bool true = refl
own_bool false = refl

both : (s t : Bool) → s ≡ true → t ≡ true → (s && t) ≡ true
both s t h k = ap (λ b. b && t) h ∙ k

texts_decide : (xs ys : List ℕ) → Decides (pointwise nat_eq xs ys) (xs ≡ ys)
texts_decide = pointwise_decides Decides-eqb

insert_is : (a b : Insert) → same_insert a b ≡ true → a ≡ b
insert_is a b h =
    let token = (Decides-eqb a.token b.token).0 (first_so _ _ h) in
    let more = second_so _ _ h in
    let side = same_side a.side b.side ((Decides-eqb (side_number a.side) (side_number b.side)).0 (first_so _ _ more)) in
    let last = second_so _ _ more in
    let many = same_bool a.many b.many (first_so _ _ last) in
    let text = (texts_decide a.text b.text).0 (second_so _ _ last) in
    λ i. record { token = token i; side = side i; many = many i; text = text i }

insert_self : (a : Insert) → same_insert a a ≡ true
insert_self a = both _ _ ((Decides-eqb a.token a.token).1 refl)
    (both _ _ ((Decides-eqb (side_number a.side) (side_number a.side)).1 refl)
    (both _ _ (own_bool a.many) ((texts_decide a.text a.text).1 refl)))

pub insert_decides : (a b : Insert) → Decides (same_insert a b) (a ≡ b)
insert_decides a b = (insert_is a b, λ e. subst (λ c. same_insert a c ≡ true) e (insert_self a))

inserts_decide : (xs ys : List Insert) → Decides (pointwise same_insert xs ys) (xs ≡ ys)
inserts_decide = pointwise_decides insert_decides

edit_is : (a b : Edit) → same_edit a b ≡ true → a ≡ b
edit_is a b h =
    let removed = (texts_decide a.removed b.removed).0 (first_so _ _ h) in
    let inserts = (inserts_decide a.inserts b.inserts).0 (second_so _ _ h) in
    λ i. record { removed = removed i; inserts = inserts i }

edit_self : (a : Edit) → same_edit a a ≡ true
edit_self a = both _ _ ((texts_decide a.removed a.removed).1 refl) ((inserts_decide a.inserts a.inserts).1 refl)

-- the test holds exactly for equal edits
pub edit_decides : (a b : Edit) → Decides (same_edit a b) (a ≡ b)
edit_decides a b = (edit_is a b, λ e. subst (λ c. same_edit a c ≡ true) e (edit_self a))

pub insert_equiv : IsEquivalence same_insert
insert_equiv = and_equiv (on_equiv (λ i. i.token) nat_eq_equiv) (and_equiv (on_equiv (λ i. side_number i.side) nat_eq_equiv)
    (and_equiv (on_equiv (λ i. i.many) bool_eq_equiv) (on_equiv (λ i. i.text) (lists_equiv nat_eq_equiv))))

pub edit_equiv : IsEquivalence same_edit
edit_equiv = and_equiv (on_equiv (λ e. e.removed) (lists_equiv nat_eq_equiv)) (on_equiv (λ e. e.inserts) (lists_equiv insert_equiv))

pub edits_feed_alike : fed.Alike same_edit edit_input
edits_feed_alike = fed.same_Alike edit_input edit_decides
