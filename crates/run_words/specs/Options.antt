-- The options of a command line, by name, and its files.
use Rattle.std.specs.Prelude.{ℕ, ◌&&◌, ◌||◌, Bool, true, false, not, cond, List, [], ◌∷◌, Option, None, Some, option_and_then, codes}
use Rattle.std.specs.Str.{bytes_eq}
use Rattle.c_lexer.specs.Words.{is_in}
use Rattle.run_words.specs.Parts.{Part, Valued, Flag, File, parts_of}

pub record Options : Type 0 where
  pub sp_file : Option (List ℕ)
  pub iso_file : Option (List ℕ)
  pub define : Option (List ℕ)
  pub jobs : Option (List ℕ)
  pub generate : Option (List ℕ)
  pub functions : Option (List ℕ)
  pub unread : Option (List ℕ)
  pub witnesses : Bool
  pub in_place : Bool
  pub check : Bool
  pub quiet : Bool
  pub tidy : Bool
  pub help : Bool
  pub version : Bool
  -- in this order
  pub files : List (List ℕ)

-- no option occurs twice, and none has one of these names
abbrev pub are_new : List (List ℕ) → List Part → Bool
are_new names [] = true
are_new names (Valued name value ∷ parts) = not (is_in names name) && are_new (name ∷ names) parts
are_new names (Flag name ∷ parts) = not (is_in names name) && are_new (name ∷ names) parts
are_new names (File word ∷ parts) = are_new names parts

-- the value of an option
abbrev pub value_of : List ℕ → List Part → Option (List ℕ)
value_of name [] = None
value_of name (Valued other value ∷ parts) = cond (bytes_eq other name) (Some value) (value_of name parts)
value_of name (Flag other ∷ parts) = value_of name parts
value_of name (File word ∷ parts) = value_of name parts

abbrev pub has_flag : List ℕ → List Part → Bool
has_flag name [] = false
has_flag name (Valued other value ∷ parts) = has_flag name parts
has_flag name (Flag other ∷ parts) = bytes_eq other name || has_flag name parts
has_flag name (File word ∷ parts) = has_flag name parts

-- the words that name files
abbrev pub files_in : List Part → List (List ℕ)
files_in [] = []
files_in (Valued name value ∷ parts) = files_in parts
files_in (Flag name ∷ parts) = files_in parts
files_in (File word ∷ parts) = word ∷ files_in parts

abbrev pub collected : List Part → Options
collected parts = record {
  sp_file = value_of (codes "sp-file") parts;
  iso_file = value_of (codes "iso-file") parts;
  define = value_of (codes "define") parts;
  jobs = value_of (codes "jobs") parts;
  generate = value_of (codes "generate") parts;
  functions = value_of (codes "functions") parts;
  unread = value_of (codes "unread") parts;
  witnesses = has_flag (codes "witnesses") parts;
  in_place = has_flag (codes "in-place") parts;
  check = has_flag (codes "check") parts;
  quiet = has_flag (codes "quiet") parts;
  tidy = has_flag (codes "tidy") parts;
  help = has_flag (codes "help") parts;
  version = has_flag (codes "version") parts;
  files = files_in parts;
}

abbrev pub options_in : List Part → Option Options
options_in parts = cond (are_new [] parts) (Some (collected parts)) None

-- the options that the words give; nothing if an option doesn't exist, lacks its value, has one that it doesn't take, or occurs
-- twice
unfoldable pub options_of : List (List ℕ) → Option Options
options_of words = option_and_then options_in (parts_of words)
