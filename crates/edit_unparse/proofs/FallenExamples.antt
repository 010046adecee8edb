-- Small lists, and what goes with their commas.
use Rattle.std.specs.Prelude.{◌≡◌, ℕ, true, false, List, [], ◌∷◌, None, Option, Some, refl, codes}
use Rattle.c_terms.specs.declared.token.TokenKind.TheVariants.{Name, Number, Punct}
use Rattle.c_lexer.specs.declared.piece.PieceKind.{PieceKind}
use Rattle.c_lexer.specs.declared.piece.PieceKind.TheVariants.{Word, Blank}
use Rattle.edit_unparse.specs.declared.tidy.parts.Origin.{Origin}
use Rattle.edit_unparse.specs.Output.{Part}
use Rattle.edit_unparse.specs.Tidy.Commas.{with_list}
use Rattle.edit_unparse.specs.Tidy.Fallen.{falls_from, has_part, numbered, origins_from}

abbrev old : ℕ → PieceKind → List ℕ → Part
old number kind text = record { from = Some number; piece = record { kind = kind; text = text } }

abbrev new : PieceKind → List ℕ → Part
new kind text = record { from = None; piece = record { kind = kind; text = text } }

-- `f(, b)`, of `f(a, b)`: the comma goes, and the blank behind it
abbrev first_left : List Part
first_left = with_list false 1 6 (numbered 8
    (old 0 (Word Name 0) (codes "f") ∷ old 1 (Word Punct 1) (codes "(") ∷ old 3 (Word Punct 3) (codes ",") ∷ old 4 Blank (codes " ")
    ∷ old 5 (Word Name 4) (codes "b") ∷ old 6 (Word Punct 5) (codes ")") ∷ []))

pub the_comma_goes : has_part 3 first_left ≡ false
the_comma_goes = refl

its_blank_goes : has_part 4 first_left ≡ false
its_blank_goes = refl

the_argument_stays : has_part 5 first_left ≡ true
the_argument_stays = refl

-- `f(, 1)`, of which `, 1` is the insert 2 of the edit 7: the comma goes, and the blank behind it
abbrev added_parts : List Part
added_parts = new (Word Punct 0) (codes ",") ∷ new Blank (codes " ") ∷ new (Word Number 0) (codes "1") ∷ []

abbrev added_left : List Part
added_left = with_list false 1 2 (numbered 5 (old 0 (Word Name 0) (codes "f") ∷ old 1 (Word Punct 1) (codes "(")
    ∷ new (Word Punct 0) (codes ",") ∷ new Blank (codes " ") ∷ new (Word Number 0) (codes "1") ∷ old 2 (Word Punct 2) (codes ")") ∷ []))

abbrev added_from : List (Option Origin)
added_from = None ∷ None ∷ Some (record { edit = 7; insert = 2; offset = 0 }) ∷ Some (record { edit = 7; insert = 2; offset = 1 })
    ∷ Some (record { edit = 7; insert = 2; offset = 2 }) ∷ None ∷ []

its_places : origins_from 7 2 0 added_parts ≡ Some (record { edit = 7; insert = 2; offset = 0 }) ∷ Some (record { edit = 7; insert = 2; offset = 1 })
    ∷ Some (record { edit = 7; insert = 2; offset = 2 }) ∷ []
its_places = refl

an_added_comma_goes : falls_from 7 2 0 5 added_from added_left ≡ true
an_added_comma_goes = refl

an_added_blank_goes : falls_from 7 2 1 5 added_from added_left ≡ true
an_added_blank_goes = refl

an_added_argument_stays : falls_from 7 2 2 5 added_from added_left ≡ false
an_added_argument_stays = refl

another_insert_stays : falls_from 7 1 0 5 added_from added_left ≡ false
another_insert_stays = refl
