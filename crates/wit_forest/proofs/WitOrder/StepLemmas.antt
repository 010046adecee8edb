-- Lexicographic orders: how three answers of a total order relate to one another, and that they still do when the answers of
-- a second part are appended.
use Rattle.std.proofs.Common.{◌≡◌, refl, sym, ap, ◌∙◌, ◌&&◌}
use Rattle.std.specs.Cmp.{IsTotalOrder}
use Rattle.std.specs.declared.cmp.Ordering.{Ordering}
use Rattle.std.specs.declared.cmp.Ordering.TheVariants.{Less, Equal, Greater}
use Rattle.std.specs.Ordering.{ordering_then, ordering_reverse, is_eq}

-- a is the answer at x and y, b at y and z, c at x and z
pub record Follow (a b c : Ordering) : Type 0 where
  pub rise : a ≡ Less → b ≡ Less → c ≡ Less
  pub end : a ≡ Less → b ≡ Equal → c ≡ Less
  pub same : a ≡ Equal → c ≡ b

pub follow_of : {K : Type 0} (R : K → K → Ordering) → IsTotalOrder R → (x y z : K) → Follow (R x y) (R y z) (R x z)
follow_of R o x y z = record {
  rise = o.trans x y z;
  end = λ h k.
      let turned : R y x ≡ Greater = o.antisymm y x ∙ ap ordering_reverse h in
      let back : R z x ≡ Greater = sym (o.congr y z x k) ∙ turned in
      o.antisymm x z ∙ ap ordering_reverse back;
  same = λ h. o.congr x y z h;
}

-- by the first part if it decides, else by the second
pub follow_then : (a b c d e f : Ordering) → Follow a b c → Follow d e f → Follow (ordering_then a d) (ordering_then b e) (ordering_then c f)
follow_then Less Less c d e f h k = let l = h.rise refl refl in record {
  rise = λ p q. ap (λ o. ordering_then o f) l;
  end = λ p q. ap (λ o. ordering_then o f) l;
  same = λ p. absurd cc;
}
follow_then Less Equal c d e f h k = let l = h.end refl refl in record {
  rise = λ p q. ap (λ o. ordering_then o f) l;
  end = λ p q. ap (λ o. ordering_then o f) l;
  same = λ p. absurd cc;
}
follow_then Less Greater c d e f h k = record { rise = λ p q. absurd cc; end = λ p q. absurd cc; same = λ p. absurd cc }
follow_then Equal b c d e f h k = let l = h.same refl in equal_case b c d e f l k
  where
    equal_case : (b c d e f : Ordering) → c ≡ b → Follow d e f → Follow d (ordering_then b e) (ordering_then c f)
    equal_case Less c d e f l k = record {
      rise = λ p q. ap (λ o. ordering_then o f) l;
      end = λ p q. absurd cc;
      same = λ p. ap (λ o. ordering_then o f) l;
    }
    equal_case Equal c d e f l k = record {
      rise = λ p q. ap (λ o. ordering_then o f) l ∙ k.rise p q;
      end = λ p q. ap (λ o. ordering_then o f) l ∙ k.end p q;
      same = λ p. ap (λ o. ordering_then o f) l ∙ k.same p;
    }
    equal_case Greater c d e f l k = record {
      rise = λ p q. absurd cc;
      end = λ p q. absurd cc;
      same = λ p. ap (λ o. ordering_then o f) l;
    }
follow_then Greater b c d e f h k = record { rise = λ p q. absurd cc; end = λ p q. absurd cc; same = λ p. absurd cc }

-- reversed arguments
pub reverse_then : (a b d e : Ordering) → a ≡ ordering_reverse b → d ≡ ordering_reverse e → ordering_then a d ≡ ordering_reverse (ordering_then b e)
reverse_then a Less d e h k = ap (λ o. ordering_then o d) h
reverse_then a Equal d e h k = ap (λ o. ordering_then o d) h ∙ k
reverse_then a Greater d e h k = ap (λ o. ordering_then o d) h

pub is_eq-then : (a b : Ordering) → is_eq (ordering_then a b) ≡ (is_eq a && is_eq b)
is_eq-then Less b = refl
is_eq-then Equal b = refl
is_eq-then Greater b = refl
