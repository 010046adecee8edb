-- The layout of a tidied text: the statements of which nothing stays, the lists whose commas may go, and the braces that come.
use Rattle.std.specs.Prelude.{ℕ, ◌≡◌, ◌<◌, ◌≤◌, ◌&&◌, ◌⊎◌, Bool, true, false, not, List, [], ◌∷◌, ◌++◌, All, Contains, codes, filter, fold, get_or}
use Rattle.std.specs.Prelude.{length, map, max, nat_eq, slice_get, take, if◌then◌else◌, Option, None, Some}
use Rattle.std.specs.Option.{option_map}
use Rattle.std.specs.List.Sorted.{IsNonDecreasingBy}
use Rattle.c_terms.specs.declared.token.Token.{Token}
use Rattle.c_terms.specs.declared.tree.Tree.{Tree}
use Rattle.c_terms.specs.Names.{listed_names}
use Rattle.c_rows.specs.declared.kind.Kind.TheVariants as kind
use Rattle.c_rows.specs.Depth.{opens_of}
use Rattle.c_rows.specs.Limits.{most_open}
use Rattle.c_rows.specs.Look.{Names}
use Rattle.c_rows.specs.Trees.{IsTreeOf}
use Rattle.c_lexer.specs.Pieces.{TextPiece, text_of}
use Rattle.c_lexer.specs.Lexes.{Lexes}
use Rattle.cpp_lines.specs.declared.reading.Item.{Item}
use Rattle.cpp_lines.specs.Shown.{AreShown}
use Rattle.c_file.specs.Reads.{names_after}
use Rattle.c_file.specs.Tokens.{token_at}
use Rattle.edit_marks.specs.declared.edit_conflict.edit.Edit.{Edit}
use Rattle.edit_marks.specs.declared.file_tokens.FileToken.{FileToken}
use Rattle.edit_marks.specs.declared.tidy.shape.Body.{Body}
use Rattle.edit_marks.specs.declared.tidy.shape.BracketList.{BracketList}
use Rattle.edit_marks.specs.declared.tidy.shape.Outline.{Outline}
use Rattle.edit_marks.specs.declared.tidy.touch.PatternStatement.{PatternStatement}
use Rattle.edit_marks.specs.declared.tidy.walk.TidiedEdits.{TidiedEdits}
use Rattle.edit_marks.specs.Inserts.{line_end}
use Rattle.edit_marks.specs.Tidy.Bodies.{acts_of}
use Rattle.edit_marks.specs.Tokens.{file_tokens}
use Rattle.edit_unparse.specs.declared.tidy.commas.CommaList.{CommaList}
use Rattle.edit_unparse.specs.declared.tidy.flags.Extent.{Extent}
use Rattle.edit_unparse.specs.declared.tidy.parts.Brace.{Brace}
use Rattle.edit_unparse.specs.declared.tidy.plan.Placed.{Placed}
use Rattle.edit_unparse.specs.declared.tidy.plan.Plan.{Plan}
use Rattle.edit_unparse.specs.Tidy.Fallen.{insert_falls, piece_falls}
use Rattle.edit_unparse.specs.Tidy.Plans.{IsPlan, inserts_there}
use Rattle.edit_unparse.specs.Tidy.Spots.{brace_number}
use Rattle.edit_unparse.specs.Written.{edit_text}
use Rattle.edit_bodies.specs.declared.braces.Coming.{Coming}
use Rattle.edit_bodies.specs.declared.fault.BodyFault.{BodyFault}
use Rattle.edit_bodies.specs.declared.fault.BodyFault.TheVariants as fault
use Rattle.edit_bodies.specs.declared.lay.TidyLayout.{TidyLayout}
use Rattle.edit_bodies.specs.Calm.{is_calm}
use Rattle.edit_bodies.specs.Gone.{gone_of}
use Rattle.edit_bodies.specs.Needs.{form_of}
use Rattle.edit_bodies.specs.Rows.{NewText, tokens_in}
use Rattle.edit_bodies.specs.Looks.{Seen, is_looked_at, row_of, see, see_all}

-- ---- how deep edits are

-- how deep the deepest statement of the patterns of an edit is
abbrev pub depth_of : List (ℕ × PatternStatement) → ℕ → ℕ
depth_of statements edit = fold max 0 (map (λ s. length s.1.path) (filter (λ s. nat_eq s.0 edit) statements))

pub record AreDepths (count : ℕ) (statements : List (ℕ × PatternStatement)) (depths : List ℕ) : Type 0 where
  pub long : length depths ≡ count
  pub each : (n : ℕ) → n < count → get_or depths n 0 ≡ depth_of statements n

-- ---- lists

abbrev pub comma_list : List ℕ → BracketList → CommaList
comma_list leaves l = record { opening = get_or leaves l.opening 0; closing = get_or leaves l.closing 0; may_end = l.is_init }

-- the calm lists by their tokens, sorted by their opening brackets, those with one bracket in the order of the outline
pub record AreLists (pieces : List TextPiece) (o : Outline) (lists : List CommaList) : Type 0 where
  pub rise : IsNonDecreasingBy (λ l. l.opening) lists
  pub same : (n : ℕ) → filter (λ l. nat_eq l.opening n) lists
      ≡ filter (λ l. nat_eq l.opening n) (filter (is_calm pieces) (map (comma_list o.leaves.items) o.lists.items))

-- ---- the new text

-- the offset of a piece in its text
abbrev pub offset_of : List TextPiece → ℕ → ℕ
offset_of pieces n = length (text_of (take n pieces))

module _ (pieces : List TextPiece) (edits : List Edit) (plan : Plan) (lists : List CommaList) where
  -- the visible tokens of the text of an insert, as those of a file would be, without those that go with the commas of lists
  pub record AreWordsOf (p : Placed) (text : List ℕ) (words : List Token) : Type 0 where
    pub own : List TextPiece
    pub cut : Lexes text own
    pub shown : List ℕ
    pub visible : AreShown own shown
    pub are : words ≡ map (token_at own) (filter (λ n. not (insert_falls edits plan pieces lists p.edit p.insert (offset_of own n))) shown)

  abbrev pub AreWordsIn : Placed → Option (List ℕ) → List Token → Type 0
  AreWordsIn p None words = words ≡ []
  AreWordsIn p (Some text) words = AreWordsOf p text words

  -- these are the words of each insert
  abbrev pub AreWords : (Placed → List Token) → Type 0
  AreWords words = (p : Placed) → AreWordsIn p (edit_text (slice_get edits p.edit) p.insert) (words p)

  -- what the text consists of after the edits, given the words of inserts
  abbrev pub new_text : (Placed → List Token) → NewText
  new_text words = record {
    token = λ n. token_at pieces (get_or plan.pieces.items n 0);
    goes = λ n. get_or plan.removed.items n false;
    falls = λ n. piece_falls edits plan pieces lists (get_or plan.pieces.items n 0);
    comes = (acts_of edits).comes;
    inserts = inserts_there plan;
    words = words;
  }

-- ---- readings

-- the names that are known at an item
abbrev pub names_at : List Item → ℕ → Names
names_at items n = fold names_after listed_names (take n items)

-- the tokens are read as this list of statements, or as none
abbrev pub IsReading : Names → List Token → Option Tree → Type 0
IsReading names tokens None = (most_open < opens_of tokens) ⊎ ((t : Tree) → IsTreeOf kind.StmtList names tokens t → ⊥)
IsReading names tokens (Some t) = (opens_of tokens ≤ most_open) × IsTreeOf kind.StmtList names tokens t

abbrev pub IsReadingIf : Bool → Names → List Token → Option Tree → Type 0
IsReadingIf false names tokens reading = Unit {0}
IsReadingIf true names tokens reading = IsReading names tokens reading

module _ (text : NewText) (leaves : List ℕ) (statements : List (ℕ × PatternStatement)) where
  abbrev pub is_read : Body → Bool
  is_read b = not b.is_function && is_looked_at text leaves statements b

  -- the row of a body, if it is looked at, is read so, with these names and with these braces
  abbrev pub IsBodyReading : Names → Body → List Coming → Option Tree → Type 0
  IsBodyReading names b braces reading = IsReadingIf (is_read b) names (tokens_in (row_of text leaves statements b braces)) reading

  -- the rows of bodies are read so, with the names that are known at their items, and with the braces of the bodies before them
  abbrev pub AreReadings : List Item → List Body → List (Option Tree) → Seen → Type 0
  AreReadings items [] [] s = Unit {0}
  AreReadings items (b ∷ bodies) (reading ∷ readings) s = IsBodyReading (names_at items b.item) b s.braces reading
      × AreReadings items bodies readings (see text leaves statements b (option_map form_of reading) s)
  AreReadings items bodies readings s = ⊥

abbrev pub nothing_seen : Seen
nothing_seen = record { braces = []; broken = [] }

-- What becomes of the bodies of an outline, under edits that stand where the plan says.
pub record AreSeen (pieces : List TextPiece) (items : List Item) (edits : TidiedEdits) (plan : Plan) (lists : List CommaList) (seen : Seen) : Type 0 where
  pub words : Placed → List Token
  pub are_words : AreWords pieces edits.list plan lists words
  pub readings : List (Option Tree)
  pub read : AreReadings (new_text pieces edits.list plan lists words) edits.outline.leaves.items edits.statements.items items
      edits.outline.bodies.items readings nothing_seen
  pub seen_so : seen ≡ see_all (new_text pieces edits.list plan lists words) edits.outline.leaves.items edits.statements.items
      edits.outline.bodies.items (map (option_map form_of) readings) nothing_seen

-- ---- the braces with their texts

abbrev pub closing_text : Option FileToken → List ℕ
closing_text None = codes "}"
closing_text (Some f) = line_end f.returns ++ f.indent ++ codes "}"

-- ` {`, or a `}` on a line of its own, which ends and is indented as the line on which the statement begins
abbrev pub brace_text : List FileToken → Coming → List ℕ
brace_text files b = if b.opens then codes " {" else closing_text (slice_get files b.owner)

abbrev pub brace_of : List FileToken → Coming → Brace
brace_of files b = record { token = b.spot.token; after = b.spot.after; inserts = b.spot.inserts; text = brace_text files b }

-- the braces sorted by place, those at one place in the order in which they came
pub record AreBraces (files : List FileToken) (coming : List Coming) (braces : List Brace) : Type 0 where
  pub rise : IsNonDecreasingBy brace_number braces
  pub same : (n : ℕ) → filter (λ b. nat_eq (brace_number b) n) braces ≡ filter (λ b. nat_eq (brace_number b) n) (map (brace_of files) coming)

-- ---- the layout

-- what a layout says but for the braces
pub record IsFrame (pieces : List TextPiece) (edits : TidiedEdits) (plan : Plan) (gone : List Extent) (depths : List ℕ) (lists : List CommaList) : Type 0 where
  pub all_gone : gone ≡ gone_of edits.list edits.outline
  pub are_depths : AreDepths (length edits.list) edits.statements.items depths
  pub are_lists : AreLists pieces edits.outline lists
  pub planned : IsPlan pieces edits.list gone depths plan

pub record IsLaidOut (pieces : List TextPiece) (items : List Item) (edits : TidiedEdits) (laid : TidyLayout) : Type 0 where
  pub frame : IsFrame pieces edits laid.plan laid.layout.gone.items laid.layout.depths.items laid.layout.lists.items
  pub seen : Seen
  pub are_seen : AreSeen pieces items edits laid.plan laid.layout.lists.items seen
  pub whole : seen.broken ≡ []
  pub braced : AreBraces (file_tokens pieces) seen.braces laid.layout.braces.items

-- some body is broken, and the token is the least of the last tokens of such bodies
pub record IsBroken (pieces : List TextPiece) (items : List Item) (edits : TidiedEdits) (token : ℕ) : Type 0 where
  pub plan : Plan
  pub gone : List Extent
  pub depths : List ℕ
  pub lists : List CommaList
  pub frame : IsFrame pieces edits plan gone depths lists
  pub seen : Seen
  pub are_seen : AreSeen pieces items edits plan lists seen
  pub among : Contains seen.broken token
  pub least : All (λ n. token ≤ n) seen.broken

abbrev pub IsFault : List TextPiece → List Item → TidiedEdits → BodyFault → Type 0
IsFault pieces items edits (fault.Body token) = IsBroken pieces items edits token
IsFault pieces items edits fault.NoMemory = Unit {0}
