-- Which variables a node names: those that its pattern surely has, the place of its brace, that of the block in which
-- it is, and the one that it quantifies.
use Rattle.std.specs.Prelude.{◌≡◌, ℕ, ◌+◌, ◌*◌, ◌/◌, ◌<◌, Bool, false, ◌&&◌, ◌||◌, nat_eq, List, [], map, get_or, Vec, Some, slice_get, slice_index}
use Rattle.std.specs.List.{list_any}
use Rattle.smpl_terms.specs.declared.var.Var.{Var}
use Rattle.smpl_terms.specs.Vars.{same_var}
use Rattle.ctl_formula.specs.Bounds.{Surely}
use Rattle.ctl_formula.specs.Tables.{at, plains}
use Rattle.ctl_formula.specs.declared.node.Node.{Node}
use Rattle.ctl_formula.specs.declared.node.Node.TheVariants as node
use Rattle.ctl_translate.specs.declared.ctl_bound.masks.Masks.{Masks}
use Rattle.ctl_translate.specs.declared.ctl_bound.naming.Mark.{Mark}
use Rattle.ctl_translate.specs.CtlBound.Binding.{binds_at}
use Rattle.ctl_translate.specs.CtlBound.Bits.{is_bit, bit_binds}

abbrev pub names : Surely → Node → Var → Bool
names sure (node.Atom p) x = sure p x
names sure (node.BraceOpen p b) x = sure p x || same_var b x
names sure (node.BraceClose p b) x = sure p x || same_var b x
names sure (node.Inside b) x = same_var b x
names sure (node.Exists y f) x = same_var y x
names sure _ x = false

-- in the mask of each node, bit k says whether the node names the variable
abbrev pub AreNamed : Surely → Var → ℕ → List Node → List ℕ → Type 0
AreNamed sure x k ns named =
    (i : ℕ) (n : Node) → slice_get ns i ≡ Some n → is_bit (slice_index named i) k ≡ names sure n x

-- part i is marked with variable k
abbrev pub is_marked : List Mark → ℕ → ℕ → Bool
is_marked marks i k = list_any (λ m. nat_eq m.part i && nat_eq m.variable k) marks

-- the parts that are marked with variable k are those that name the variable x
abbrev pub AreMarked : Surely → Var → ℕ → List Node → List Mark → Type 0
AreMarked sure x k ns marks = (i : ℕ) (n : Node) → slice_get ns i ≡ Some n → is_marked marks i k ≡ names sure n x

-- marks by the groups of their variables: a list for each 64 variables
abbrev pub lists_of : {Z : Type 0} → List (Vec Mark Z) → List (List Mark)
lists_of groups = map (λ group. group.items) groups

-- the marks of the group of variable k
abbrev pub group_of : List (List Mark) → ℕ → List Mark
group_of lists k = get_or lists (k / 64) []

-- about each variable of a group, the masks say what part i of the table says
abbrev pub SaysOf : List Node → List Mark → ℕ → ℕ → Masks → Type 0
SaysOf ns marks i group masks =
    (sure : Surely) (x : Var) (k : ℕ) → k < 64 → AreMarked sure x (64 * group + k) ns marks
    → bit_binds masks k ≡ binds_at sure x (at (plains ns) i)
