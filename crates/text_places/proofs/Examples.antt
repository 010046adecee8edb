-- Examples of the definitions, computed.
use Rattle.std.proofs.Common.{◌≡◌, ℕ, [], refl, codes}
use Rattle.text_places.specs.declared.place.Place.{Place}
use Rattle.text_places.specs.Places.{place_of}

abbrev at_place : ℕ → ℕ → Place
at_place line column = record { line = line; column = column }

first_byte : place_of (codes "@@\n") 0 ≡ at_place 1 1
first_byte = refl

-- a newline is the last byte of its line
newline_itself : place_of (codes "@@\n@@\n") 2 ≡ at_place 1 3
newline_itself = refl

after_newline : place_of (codes "@@\n@@\n") 3 ≡ at_place 2 1
after_newline = refl

-- the second line of code of a patch
code_line : place_of (codes "@@\nexpression e;\n@@\n- a(e)\n- b(e);\n") 22 ≡ at_place 4 3
code_line = refl

-- a tab is one byte
tab : place_of (codes "x\n\t\tasm") 4 ≡ at_place 2 3
tab = refl

-- the end of a text with a newline at its end is in a line of its own
end_of_text : place_of (codes "@r@\n") 4 ≡ at_place 2 1
end_of_text = refl

-- after the end
past_end : place_of (codes "@r@\n") 9 ≡ at_place 2 1
past_end = refl

empty : place_of [] 0 ≡ at_place 1 1
empty = refl
