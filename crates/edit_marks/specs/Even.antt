-- For internal use: the test whether lines of plus code have as many gaps as tokens.
use Rattle.std.specs.Prelude.{◌==◌, ◌&&◌, Bool, true, List, length, Option, None, Some}
use Rattle.std.specs.List.{list_all}
use Rattle.smpl_patch.specs.declared.pattern.PatToken.{PatToken}
use Rattle.smpl_patch.specs.declared.pattern.PlusLine.{PlusLine}
use Rattle.smpl_patch.specs.declared.pattern.PlusBlock.{PlusBlock}

abbrev pub is_even_line : PlusLine → Bool
is_even_line line = length line.gaps == length line.tokens

abbrev pub is_even_block : PlusBlock → Bool
is_even_block block = list_all is_even_line block.lines

abbrev pub is_even_side : Option PlusBlock → Bool
is_even_side None = true
is_even_side (Some block) = is_even_block block

abbrev pub is_even_token : PatToken → Bool
is_even_token t = is_even_side t.before && is_even_side t.after
