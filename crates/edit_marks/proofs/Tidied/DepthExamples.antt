-- How deep atoms are in small rules, with the values worked out by hand.
use Rattle.std.proofs.Common.{◌≡◌, ◌&&◌, ℕ, Bool, true, false, refl, ap, List, [], ◌∷◌, codes}
use Rattle.std.specs.Prelude.{Option, None, Some}
use Rattle.std.specs.List.{list_all}
use Rattle.c_terms.specs.declared.token.Token.{Token}
use Rattle.c_terms.specs.declared.token.TokenKind.TheVariants.{Name}
use Rattle.c_terms.specs.declared.tree.Tree.TheVariants.{Leaf}
use Rattle.c_terms.proofs.TreeLemmas.{leaves-Leaf}
use Rattle.smpl_patch.specs.declared.pattern.Mark.TheVariants.{Context, Minus}
use Rattle.smpl_patch.specs.declared.pattern.PatToken.{PatToken}
use Rattle.smpl_patch.specs.declared.pattern.Pattern.{Pattern}
use Rattle.smpl_patch.specs.declared.pattern.Spot.TheVariants.{Whole}
use Rattle.smpl_patch.specs.Bodies.{Element, Atom, Compound, Block, Nest, AnyOf, Body, End, Then, Bodies, NoMore, More}
use Rattle.edit_marks.specs.declared.tidy.depth.AtomDepth.{AtomDepth}
use Rattle.edit_marks.specs.Removals.{is_minus_at}
use Rattle.edit_marks.specs.Tidy.Depths.{is_minus_pattern, outermost, deeper, depths_body}

-- token 0 stays, and token 1 is removed
abbrev tokens : List PatToken
tokens =
    record { mark = Context; positions = []; before = None; after = None }
    ∷ record { mark = Minus; positions = []; before = None; after = None } ∷ []

abbrev token : ℕ → Token
token n = record { kind = Name; text = codes "x"; id = n }

abbrev of_token : ℕ → Pattern
of_token n = record { atom = 0; spot = Whole; forms = Leaf (token n) ∷ [] }

stays : is_minus_pattern tokens (of_token 0) ≡ false
stays = ap (list_all (λ l. is_minus_at tokens l.id)) (leaves-Leaf (token 0))

goes : is_minus_pattern tokens (of_token 1) ≡ true
goes = ap (list_all (λ l. is_minus_at tokens l.id)) (leaves-Leaf (token 1))

abbrev depth : ℕ → ℕ → AtomDepth
depth around removed = record { around = around; removed = removed }

-- a statement of one atom, which stays
abbrev statement : Element
statement = Atom (of_token 0)

abbrev one : Element → Body
one e = Then e End

-- a compound with one body
abbrev compound : ℕ → Body → Element
compound head b = Compound (of_token head) (More b NoMore) None

-- ` if (!x) return;`: the body is one deeper than the statement
body_is_deeper : depths_body tokens outermost (one (compound 0 (one statement))) ≡ depth 0 0 ∷ depth 1 0 ∷ []
body_is_deeper = ap (λ (b : Bool). depth 0 0 ∷ deeper b (depth 0 0) ∷ []) stays

-- `- if (E) kfree(E);`: the statement around it goes
body_of_removed : depths_body tokens outermost (one (compound 1 (one statement))) ≡ depth 0 0 ∷ depth 1 1 ∷ []
body_of_removed = ap (λ (b : Bool). depth 0 0 ∷ deeper b (depth 0 0) ∷ []) goes

-- ` if (x)` and `- while (y) d(x);`: only the inner one goes
inner_goes : depths_body tokens outermost (one (compound 0 (one (compound 1 (one statement))))) ≡ depth 0 0 ∷ depth 1 0 ∷ depth 2 1 ∷ []
inner_goes =
    (λ i. depth 0 0 ∷ deeper (stays i) (depth 0 0) ∷ deeper (goes i) (deeper (stays i) (depth 0 0)) ∷ [])

-- `- if (x)` and ` while (y) d(x);`: those that go are counted from the inside
outer_goes : depths_body tokens outermost (one (compound 1 (one (compound 0 (one statement))))) ≡ depth 0 0 ∷ depth 1 1 ∷ depth 2 0 ∷ []
outer_goes =
    (λ i. depth 0 0 ∷ deeper (goes i) (depth 0 0) ∷ deeper (stays i) (deeper (goes i) (depth 0 0)) ∷ [])

-- ` while (c) { a(); b(); }`: the braces are the body, and what is between them is in no statement of the pattern
in_braces : depths_body tokens outermost (one (compound 0 (one (Block (of_token 0) (Then statement (one statement)) (of_token 0)))))
    ≡ depth 0 0 ∷ depth 1 0 ∷ depth 0 0 ∷ depth 0 0 ∷ depth 1 0 ∷ []
in_braces = ap (λ (b : Bool). depth 0 0 ∷ deeper b (depth 0 0) ∷ depth 0 0 ∷ depth 0 0 ∷ deeper b (depth 0 0) ∷ []) stays

-- both bodies of `if` with `else`
two_bodies : depths_body tokens outermost (one (Compound (of_token 0) (More (one statement) (More (one statement) NoMore)) None))
    ≡ depth 0 0 ∷ depth 1 0 ∷ depth 1 0 ∷ []
two_bodies = ap (λ (b : Bool). depth 0 0 ∷ deeper b (depth 0 0) ∷ deeper b (depth 0 0) ∷ []) stays

-- ` do d(x); while (x);`, of which only the tail stays, so it doesn't go
tail_of_loop : depths_body tokens outermost (one (Compound (of_token 1) (More (one statement) NoMore) (Some (of_token 0)))) ≡ depth 0 0 ∷ depth 1 0 ∷ depth 0 0 ∷ []
tail_of_loop = (λ i. depth 0 0 ∷ deeper (both i) (depth 0 0) ∷ depth 0 0 ∷ [])
  where
    both : (is_minus_pattern tokens (of_token 0) && is_minus_pattern tokens (of_token 1)) ≡ false
    both = ap (λ (b : Bool). b && is_minus_pattern tokens (of_token 1)) stays

-- only the first element of a body is its statement
second_of_branch : depths_body tokens outermost (one (compound 0 (one (AnyOf (More (Then statement (one statement)) (More (one statement) NoMore))))))
    ≡ depth 0 0 ∷ depth 1 0 ∷ depth 0 0 ∷ depth 1 0 ∷ []
second_of_branch = ap (λ (b : Bool). depth 0 0 ∷ deeper b (depth 0 0) ∷ depth 0 0 ∷ deeper b (depth 0 0) ∷ []) stays

-- a nest begins anew
in_nest : depths_body tokens outermost (Then (Nest false (one statement) NoMore false false) (one statement)) ≡ depth 0 0 ∷ depth 0 0 ∷ []
in_nest = refl
