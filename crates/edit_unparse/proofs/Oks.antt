-- What holds of an Ok, along an equation.
use Rattle.std.proofs.Common.{◌≡◌, ap, ◌∙◌, List, ◌++◌, append_assoc}
use Rattle.std.specs.Prelude.{Result, Ok, Err, OnOk}
use Rattle.c_terms.specs.declared.text.NoMemory.{NoMemory}

pub ok_along : {A : Type 0} (r : Result (Unit {0}) NoMemory) (a x y : A) → OnOk r (a ≡ x) → x ≡ y → OnOk r (a ≡ y)
ok_along (Ok u) a x y h e = h ∙ e
ok_along (Err f) a x y h e = tt

-- other parts that are equal
pub ok_more : {A : Type 0} (r : Result (Unit {0}) NoMemory) (new old own other : List A) → OnOk r (new ≡ old ++ own) → own ≡ other → OnOk r (new ≡ old ++ other)
ok_more {A} r new old own other h e = ok_along r new (old ++ own) (old ++ other) h (ap (λ (l : List A). old ++ l) e)

-- three after one another
pub ok_three : {A : Type 0} (r : Result (Unit {0}) NoMemory) (new two one old xs ys zs : List A) → OnOk r (new ≡ two ++ zs) → two ≡ one ++ ys → one ≡ old ++ xs
    → OnOk r (new ≡ old ++ (xs ++ (ys ++ zs)))
ok_three {A} r new two one old xs ys zs h second first =
    ok_along r new (two ++ zs) (old ++ (xs ++ (ys ++ zs))) h
    (ap (λ (l : List A). l ++ zs) (second ∙ ap (λ (l : List A). l ++ ys) first)
    ∙ append_assoc (old ++ xs) ys zs
    ∙ append_assoc old xs (ys ++ zs))
