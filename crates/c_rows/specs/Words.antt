-- The words of rows: the classes that each consists of.
use Rattle.std.specs.Prelude.{ℕ, ◌==◌, Bool, true, false, ◌||◌}
use denote.Enum.Declared.{tag_of}
use Rattle.c_rows.specs.contracts.class.Class as contracts
use Rattle.c_rows.specs.declared.class.Class.{Class}
use Rattle.c_rows.specs.declared.class.Class.TheVariants as class
use Rattle.c_rows.specs.declared.word.Word.{Word}
use Rattle.c_rows.specs.declared.word.Word.TheVariants as word

-- the position of the class among all classes
abbrev pub number : Class → ℕ
number c = tag_of contracts.the_type c

abbrev pub same_class : Class → Class → Bool
same_class c d = number c == number d

-- whether a token of this class is a token of the word
abbrev pub fits : Word → Class → Bool
fits (word.One c) d = same_class c d
fits word.Name class.Name = true
fits word.Name class.NameOfString = true
fits word.Name class.NameOfCall = true
fits word.Name class.NameOfLabel = true
fits word.Name class.NameOfDecl = true
fits word.Name class.NameOfIterator = true
fits word.Name class.NameOfStarIterator = true
fits word.IteratorName class.NameOfIterator = true
fits word.IteratorName class.NameOfStarIterator = true
fits word.Str class.Str = true
fits word.Str class.StrOfString = true
fits word.ParenOpen class.ParenNest = true
fits word.ParenOpen class.ParenList = true
fits word.CastOpen class.CastNest = true
fits word.CastOpen class.CastList = true
fits word.LiteralOpen class.LiteralNest = true
fits word.LiteralOpen class.LiteralList = true
fits word.NestOpen class.ParenNest = true
fits word.NestOpen class.CastNest = true
fits word.NestOpen class.LiteralNest = true
fits word.ListOpen class.ParenList = true
fits word.ListOpen class.CastList = true
fits word.ListOpen class.LiteralList = true
fits word.AnyOpen class.ParenNest = true
fits word.AnyOpen class.ParenList = true
fits word.AnyOpen class.CastNest = true
fits word.AnyOpen class.CastList = true
fits word.AnyOpen class.LiteralNest = true
fits word.AnyOpen class.LiteralList = true
fits word.Prefix class.And = true
fits word.Prefix class.Star = true
fits word.Prefix class.Plus = true
fits word.Prefix class.Not = true
fits word.Times class.Star = true
fits word.Times class.Slash = true
fits word.Assign class.Equal = true
fits word.Assign class.Assign = true
fits word.Modifier class.Storage = true
fits word.Modifier class.StorageOfMacro = true
fits word.Modifier class.Qualifier = true
fits word.Modifier class.Function = true
fits word.BasicOrModifier class.Basic = true
fits word.BasicOrModifier class.Storage = true
fits word.BasicOrModifier class.StorageOfMacro = true
fits word.BasicOrModifier class.Qualifier = true
fits word.BasicOrModifier class.Function = true
fits word.Storage class.Storage = true
fits word.Storage class.StorageOfMacro = true
fits word.ArgRun class.Dots = true
fits word.ArgRun class.ExprList = true
fits word.ParamRun class.Dots = true
fits word.ParamRun class.ParamList = true
fits _ _ = false

-- the classes with which a type begins

abbrev pub begins_tag : Class → Bool
begins_tag class.Struct = true
begins_tag class.StructBody = true
begins_tag class.Enum = true
begins_tag class.EnumBody = true
begins_tag _ = false

abbrev pub begins_specs : Class → Bool
begins_specs class.Typ = true
begins_specs class.TypOfDeclarator = true
begins_specs c = fits word.BasicOrModifier c || fits word.Name c || begins_tag c

-- a keyword with which a statement begins
abbrev pub begins_by_keyword : Class → Bool
begins_by_keyword class.If = true
begins_by_keyword class.While = true
begins_by_keyword class.Do = true
begins_by_keyword class.For = true
begins_by_keyword class.Switch = true
begins_by_keyword class.Case = true
begins_by_keyword class.Default = true
begins_by_keyword class.Return = true
begins_by_keyword class.Goto = true
begins_by_keyword class.Break = true
begins_by_keyword class.Continue = true
begins_by_keyword _ = false

-- whether a member of an argument list ends before this class
abbrev pub ends_member : Class → Bool
ends_member class.Comma = true
ends_member class.Close = true
ends_member _ = false
