-- What was read, joined with what is left, is all that the reader had.
use Rattle.std.proofs.Common.{◌≡◌, ◌<◌, ◌++◌, ℕ, List, [], Option, None, Some, length, take, refl, sym, ap, subst, arith, ◌∙◌, length-append, append-nil}
use Rattle.std.proofs.lemmas.Grind.{common_steps}
use Rattle.std.specs.Option.{IfSome}
use Rattle.std.specs.Io.KnownBytes.{Consumes, IsAtEnd}
use Rattle.std.proofs.KnownBytes.{Consumes-nil, Consumes-trans, Consumes-whole}
use Rattle.outer_io.proofs.files.read_blocks.Goals as goal

-- a reader that gave more than the limit had more than the limit
longer : (before after : Option (List ℕ)) (read : List ℕ) (limit : ℕ) → Consumes before after read → limit < length read
    → IfSome before (λ left. limit < length left)
longer None after read limit consumed over = tt
longer (Some left) None read limit consumed over = absurd consumed
longer (Some left) (Some rest) read limit consumed over = omega (arith, ap length consumed, length-append read rest)

-- a reader at its end gave all that it had
at_end : (a b c : Option (List ℕ)) (read block : List ℕ) (n : ℕ) → Consumes a b read → Consumes b c (take n block) → n ≡ 0
    → IsAtEnd c → IfSome a (λ left. read ≡ left)
at_end a b c read block n consumed more none end =
    Consumes-whole a c read (λ left. read ≡ left)
    (subst (Consumes a c) (ap (λ m. read ++ take m block) none ∙ append-nil read) (Consumes-trans a b c read (take n block) consumed more)) end refl

pub loop-init : goal.loop-init
loop-init g c =
    let none : c.args.bytes.items ≡ [] = c.requires.none in
    (omega (arith, ap length none), subst (Consumes _ _) (sym none) (Consumes-nil _))

pub returns-then-count-eq0-clause-bytes : goal.returns-then-count-eq0-clause-bytes
returns-then-count-eq0-clause-bytes g c =
    at_end _ _ _ _ _ _ c.loop.invariant.1 c.in-Ok.ensures.ok c.if-count-eq0.true (c.in-Ok.ensures.end c.if-count-eq0.true (omega arith))

pub returns-then-len-count-clause-too_long : goal.returns-then-len-count-clause-too_long
returns-then-len-count-clause-too_long g c _ =
    longer _ _ _ _ (Consumes-trans _ _ _ _ _ c.loop.invariant.1 c.in-Ok.ensures.ok)
    (omega (arith, length-append c.loop.bytes.items (take c.in-Ok.count c.read_some.new.block), c.in-Ok.ensures.bound.1))

pub loop-preserved : goal.loop-preserved
loop-preserved g c =
    let grown : c.extend_from_slice.new.self.items ≡ c.loop.bytes.items ++ take c.in-Ok.count c.read_some.new.block = grind (arith, common_steps) in (
      omega (arith, ap length grown, length-append c.loop.bytes.items (take c.in-Ok.count c.read_some.new.block), c.in-Ok.ensures.bound.1),
      subst (Consumes _ _) (sym grown) (Consumes-trans _ _ _ _ _ c.loop.invariant.1 c.in-Ok.ensures.ok),
    )
