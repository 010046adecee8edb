-- Tokens of one id that are the same are equal.
use Rattle.std.proofs.Common.{◌≡◌, true, subst, arith}
use Rattle.std.proofs.lemmas.Bool.Decides.{nat_tests}
use Rattle.std.proofs.lemmas.Grind.{common_steps}
use Rattle.c_terms.specs.declared.token.Token.{Token}
use Rattle.c_terms.specs.Numbers.{kind_number}
use Rattle.c_terms.specs.Same.{same_token, same_bytes}
use Rattle.c_terms.proofs.NumberLaws.{kind_number-injective}
use Rattle.c_terms.proofs.BareLaws.{same_bytes-equal}
use Rattle.c_terms.proofs.SameLaws.{bytes-refl}

pub token-equal : (a b : Token) → a.id ≡ b.id → same_token a b ≡ true → a ≡ b
token-equal a b i h =
    let n : kind_number a.kind ≡ kind_number b.kind = grind (arith, nat_tests, common_steps) in
    let t : same_bytes a.text b.text ≡ true = grind (arith, common_steps) in
    let k = kind_number-injective a.kind b.kind n in
    let e = same_bytes-equal a.text b.text t in
    λ j. record { kind = k j; text = e j; id = i j }

pub token-found : (a b : Token) → a ≡ b → same_token a b ≡ true
token-found a b e =
    let s : same_token a a ≡ true = let h = bytes-refl a.text in grind (arith, nat_tests) in
    subst (λ (t : Token). same_token a t ≡ true) e s
