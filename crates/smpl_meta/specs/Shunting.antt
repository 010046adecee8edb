-- How a condition is read from left to right, without recursion.
use Rattle.std.specs.Prelude.{ℕ, List, [], ◌∷◌, reverse, Option, Some, None}
use Rattle.smpl_patch.specs.declared.rule.Dep.{Dep}
use Rattle.smpl_patch.specs.declared.rule.Dep.TheVariants as dep
use Rattle.smpl_patch.specs.declared.pattern.VarDecl.{VarDecl}
use Rattle.smpl_lexer.specs.declared.text.RuleText.{RuleText}
use Rattle.smpl_lexer.specs.declared.token.PatchToken.{PatchToken}
use Rattle.smpl_meta.specs.declared.head.RuleHead.{RuleHead}
use Rattle.smpl_meta.specs.declared.depends.Mark.{Mark}
use Rattle.smpl_meta.specs.declared.depends.Mark.TheVariants as mark
use Rattle.smpl_meta.specs.declared.depends.Pending.{Pending}
use Rattle.smpl_meta.specs.declared.depends.Pending.TheVariants as pending
use Rattle.smpl_meta.specs.declared.depends.ConditionStack.{ConditionStack}
use Rattle.smpl_meta.specs.Heads.{mark_of, named_dep, name_text, name_token, depends_tokens, mode_of}

-- the state of the reader, with the innermost pending one first
pub record Shunt : Type 0 where
  pub either : Option Dep
  pub both : Option Dep
  pub word : Mark
  pub waiting : List Pending

abbrev pub kept : ConditionStack → Shunt
kept s = record { either = s.either; both = s.both; word = s.word; waiting = reverse s.pending }

abbrev pub both_of : Option Dep → Dep → Dep
both_of None d = d
both_of (Some a) d = dep.Both a d

abbrev pub closed : Option Dep → Option Dep → Option Dep
closed None b = b
closed (Some a) None = Some a
closed (Some a) (Some b) = Some (dep.Either a b)

-- an operand follows what is waiting
abbrev pub settled : Option Dep → Option Dep → List Pending → Dep → Shunt
settled either both ps d = record { either = either; both = Some (both_of both d); word = mark.Name; waiting = ps }

-- an operand and each `!` before it
abbrev pub take_on : Option Dep → Option Dep → List Pending → Dep → Shunt
take_on either both [] d = settled either both [] d
take_on either both (pending.Not ∷ ps) d = take_on either both ps (dep.Not d)
take_on either both (pending.Open a b ∷ ps) d = settled either both (pending.Open a b ∷ ps) d

abbrev pub take : Shunt → Dep → Shunt
take s d = take_on s.either s.both s.waiting d

-- a `)` after the condition that a group closes to; no header continues like this if there is no group or it is empty
abbrev pub close_on : List Pending → Option Dep → Shunt
close_on [] d = record { either = None; both = d; word = mark.Name; waiting = [] }
close_on (pending.Not ∷ ps) d = record { either = None; both = d; word = mark.Name; waiting = ps }
close_on (pending.Open a b ∷ ps) None = record { either = a; both = b; word = mark.Name; waiting = ps }
close_on (pending.Open a b ∷ ps) (Some d) = take_on a b ps d

abbrev pub pushed : Shunt → Pending → Shunt
pushed s p = record { either = s.either; both = s.both; word = s.word; waiting = p ∷ s.waiting }

abbrev pub grouped : Shunt → Shunt
grouped s =
    record { either = None; both = None; word = mark.Name; waiting = pending.Open s.either s.both ∷ s.waiting }

abbrev pub worded : Shunt → Mark → Shunt
worded s word = record { either = s.either; both = s.both; word = word; waiting = s.waiting }

abbrev pub sided : Shunt → Shunt
sided s = record { either = closed s.either s.both; both = None; word = s.word; waiting = s.waiting }

abbrev pub step_by : List RuleHead → Mark → Shunt → List ℕ → Shunt
step_by earlier mark.Not s text = pushed s pending.Not
step_by earlier mark.Open s text = grouped s
step_by earlier mark.Close s text = close_on s.waiting (closed s.either s.both)
step_by earlier mark.Or s text = sided s
step_by earlier mark.And s text = s
step_by earlier mark.Ever s text = worded s mark.Ever
step_by earlier mark.Never s text = worded s mark.Never
step_by earlier mark.Name s text = take s (named_dep earlier s.word text)
step_by earlier mark.Other s text = s

abbrev pub step : List RuleHead → Shunt → PatchToken → Shunt
step earlier s t = step_by earlier (mark_of t) s t.token.text

abbrev pub run : List RuleHead → Shunt → List PatchToken → Shunt
run earlier s [] = s
run earlier s (t ∷ ts) = run earlier (step earlier s t) ts

abbrev pub or_always : Option Dep → Dep
or_always None = dep.Always
or_always (Some d) = d

abbrev pub unread : Shunt
unread = record { either = None; both = None; word = mark.Name; waiting = [] }

-- what has been read after all tokens
abbrev pub dep_of : List RuleHead → List PatchToken → Dep
dep_of earlier ts = let s = run earlier unread ts in or_always (closed s.either s.both)

-- the head that is made if there is no fault
abbrev pub head_of : List RuleHead → RuleText → List VarDecl → RuleHead
head_of earlier r vars = record {
  name = name_text (name_token r.header);
  depends = dep_of earlier (depends_tokens r.header);
  mode = mode_of r;
  vars = vars;
}
