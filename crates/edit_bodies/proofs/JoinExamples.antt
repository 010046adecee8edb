-- An `if` whose `else` goes: where its two bodies are one, and where the first one stays alone.
use Rattle.std.proofs.Common.{◌≡◌, ◌&&◌, ℕ, true, false, refl, List, [], ◌∷◌, codes, get_or, map}
use Rattle.std.specs.Prelude.{Option, None, Some, filter, nat_eq}
use Rattle.std.specs.List.{list_any}
use Rattle.c_terms.specs.declared.token.Token.{Token}
use Rattle.c_terms.specs.declared.token.TokenKind.TheVariants.{Punct}
use Rattle.edit_marks.specs.declared.tidy.shape.Body.{Body}
use Rattle.edit_bodies.specs.Needs.{RowForm}
use Rattle.edit_bodies.specs.Rows.{NewText, same_flag, spot, tokens_in}
use Rattle.edit_bodies.specs.Looks.{Seen, row_of, see_all}

-- `void f(void) { if (a) d; else b; c; }`
abbrev tokens : List (List ℕ)
tokens = codes "void" ∷ codes "f" ∷ codes "(" ∷ codes "void" ∷ codes ")" ∷ codes "{" ∷ codes "if" ∷ codes "(" ∷ codes "a" ∷ codes ")" ∷ codes "d" ∷ codes ";"
    ∷ codes "else" ∷ codes "b" ∷ codes ";" ∷ codes "c" ∷ codes ";" ∷ codes "}" ∷ []

abbrev leaves : List ℕ
leaves = 0 ∷ 1 ∷ 2 ∷ 3 ∷ 4 ∷ 5 ∷ 6 ∷ 7 ∷ 8 ∷ 9 ∷ 10 ∷ 11 ∷ 12 ∷ 13 ∷ 14 ∷ 15 ∷ 16 ∷ 17 ∷ []

abbrev first : Body
first = record {
  item = 0;
  path = 3 ∷ 1 ∷ 4 ∷ [];
  leaves = record { from = 10; to = 12 };
  is_block = false;
  has_semicolon = true;
  second_end = Some 15;
  owner = 6;
  is_function = false;
}

abbrev second : Body
second = record {
  item = 0;
  path = 3 ∷ 1 ∷ 6 ∷ [];
  leaves = record { from = 13; to = 15 };
  is_block = false;
  has_semicolon = true;
  second_end = None;
  owner = 6;
  is_function = false;
}

abbrev word : List ℕ → Token
word text = record { kind = Punct; text = text; id = 0 }

-- The text where these tokens go. An insert `e;`, if any, is at the first of these tokens, and stands before the second.
abbrev text_of : List ℕ → List (ℕ × ℕ) → NewText
text_of gone inserts = record {
  token = λ n. word (get_or tokens n []);
  goes = λ n. list_any (nat_eq n) gone;
  falls = λ n. false;
  comes = λ n. list_any (λ p. nat_eq p.0 n) inserts;
  inserts = λ n after. map (λ p. record { spot = record { token = p.1; after = false }; edit = 0; insert = 0; depth = 0 })
      (filter (λ p. nat_eq p.1 n && same_flag false after) inserts);
  words = λ p. word (codes "e") ∷ word (codes ";") ∷ [];
}

-- the texts of the row of the first body
abbrev row_in : NewText → List (List ℕ)
row_in text = map (λ t. t.text) (tokens_in (row_of text leaves [] first []))

abbrev seen_in : NewText → List (Option RowForm) → Seen
seen_in text forms = see_all text leaves [] (first ∷ second ∷ []) forms (record { braces = []; broken = [] })

abbrev one_statement : Option RowForm
one_statement = Some (record { one = true; open_ended = false })

abbrev two_statements : Option RowForm
two_statements = Some (record { one = false; open_ended = false })

abbrev nothing : Seen
nothing = record { braces = []; broken = [] }

-- `d; else` goes: the row is `b;`
without_first : row_in (text_of (10 ∷ 11 ∷ 12 ∷ []) []) ≡ codes "b" ∷ codes ";" ∷ []
without_first = refl

first_braces : seen_in (text_of (10 ∷ 11 ∷ 12 ∷ []) []) (one_statement ∷ None ∷ []) ≡ nothing
first_braces = refl

-- `else b;` goes, and something comes behind it: that stands in the body
without_second : row_in (text_of (12 ∷ 13 ∷ 14 ∷ []) ((14, 12) ∷ [])) ≡ codes "d" ∷ codes ";" ∷ codes "e" ∷ codes ";" ∷ []
without_second = refl

second_braces : seen_in (text_of (12 ∷ 13 ∷ 14 ∷ []) ((14, 12) ∷ [])) (two_statements ∷ None ∷ [])
    ≡ record {
      braces = record { spot = spot 9 true 0; opens = true; owner = 6 } ∷ record { spot = spot 12 false 1; opens = false; owner = 6 } ∷ [];
      broken = [];
    }
second_braces = refl

-- `else b; c;` goes, and something comes behind it: that stands behind the `if`, at the place where the `else` was
with_next : row_in (text_of (12 ∷ 13 ∷ 14 ∷ 15 ∷ 16 ∷ []) ((16, 12) ∷ [])) ≡ codes "d" ∷ codes ";" ∷ []
with_next = refl

with_next_braces : seen_in (text_of (12 ∷ 13 ∷ 14 ∷ 15 ∷ 16 ∷ []) ((16, 12) ∷ [])) (None ∷ None ∷ []) ≡ nothing
with_next_braces = refl
