-- The command step on words (serves RULES 4.10 and 4.11), one kind at a time: where the kind fits, the words after its effect; else the words stay.
use Rattle.std.specs.Prelude.{ℕ, pred, Bool, true, false, not, ◌&&◌, ◌||◌, List, ◌==◌}
use Rattle.tree.specs.declared.Kind.{Kind}
use Rattle.tree.specs.declared.Kind.TheVariants.{Blacken, SingleLeft, SingleRight, DoubleLeft, DoubleRight, Lighten, LightenLeft, LightenRight}
use Rattle.tree.specs.Codes.{most_level, kind_number}
use Rattle.tree.specs.Tree.{red, overweighted}
use Rattle.format.specs.declared.Slot.{Slot}
use Rattle.format.specs.declared.Part.{Part}
use Rattle.format.specs.declared.Part.TheVariants.{Left, Right, Weight}
use Rattle.kinds.specs.declared.Change.{Change}
use Rattle.format.specs.Words.{slot, weighing, put_slot, put_part}
use Rattle.kinds.specs.declared.Around.{Around}
use Rattle.kinds.specs.Around.{no_words, around_of, swapped, mirrored}
use Rattle.kinds.specs.Conditions.{blacken_fits, single_left_fits, double_left_fits, lighten_fits, lighten_left_fits}
use Rattle.kinds.specs.Effects.{to, lighter, fallen, risen, mirrored_change, single_left, double_left, lighten_left, put_write, put_change, put_double}

-- The conditions of kinds 1, 6 and 7 by weights alone: of v's children l and r, whether a grandchild is red, and of v; of the children l and r;
-- of t, u and u's child below.
abbrev pub blackens : (l r : ℕ) → (grandchild : Bool) → (v : ℕ) → Bool
blackens l r grandchild v = red l && red r && grandchild && not (red v)

abbrev pub lightens : (l r : ℕ) → Bool
lightens l r = overweighted l && not (red r) || overweighted r && not (red l)

abbrev pub lightens_left : (t u below : ℕ) → Bool
lightens_left t u below = overweighted t && red u && not (red below)

-- A left form sees words and what stands around a node as they are, a right form mirrored.
unfoldable pub faced : (left : Bool) → Slot → Slot
faced true c = c
faced false c = swapped c

unfoldable pub faced_around : (left : Bool) → Around → Around
faced_around true a = a
faced_around false a = mirrored a

-- q where a condition holds, else p
abbrev pub where_holds : Bool → List ℕ → List ℕ → List ℕ
where_holds b q p = elim b [ true ↦ q | false ↦ p ]

-- A right form's change is the left form's, mirrored.
unfoldable pub faced_change : (left : Bool) → Change → Change
faced_change true c = c
faced_change false c = mirrored_change c

-- the side away from u, which a left form has on the left
unfoldable pub away_from : (left : Bool) → Part
away_from true = Right
away_from false = Left

-- Kinds 7 and 8 in the order of their writes: v, u, t, and u's child below; t and below as they stand, v and u as the form sees them.
unfoldable pub put_lightened : List ℕ → ℕ → (v t u below : Slot) → (left : Bool) → List ℕ
put_lightened p s v t u below left =
    put_write
    (put_write
    (put_write (put_slot p s (faced left (slot u.key v.right u.right v.weight))) (to v.right (faced left (slot v.key v.left u.left 1))))
    (lighter v.left t))
    (lighter u.left below)

-- Kinds 1 and 6 change weights alone: of slot s, whose words are c, and of its children, where they are slots.
unfoldable pub put_weight : List ℕ → ℕ → ℕ → List ℕ
put_weight p s w = elim (s == 0) [ true ↦ p | false ↦ put_part p s Weight (weighing no_words w) ]

unfoldable pub put_weights : List ℕ → ℕ → Slot → (here left right : ℕ) → List ℕ
put_weights p s c here left right = put_weight (put_weight (put_part p s Weight (weighing no_words here)) c.left left) c.right right

-- Kind 1; kinds 2 and 3; 4 and 5; 6; 7 and 8: at slot s, whose words are c.
unfoldable pub tried_blacken : List ℕ → ℕ → Slot → (root held : Bool) → List ℕ
tried_blacken p s c root held = where_holds (not held && blacken_fits (around_of p c)) (put_weights p s c (fallen root c.weight) 1 1) p

unfoldable pub tried_single : List ℕ → ℕ → Slot → (left : Bool) → List ℕ
tried_single p s c left = let a = faced_around left (around_of p c) in where_holds (single_left_fits a) (put_change p s (faced_change left (single_left a))) p

unfoldable pub tried_double : List ℕ → ℕ → Slot → (left : Bool) → List ℕ
tried_double p s c left =
    let a = faced_around left (around_of p c) in
    where_holds (double_left_fits a) (put_double p s (faced_change left (double_left a)) (away_from left)) p

unfoldable pub tried_lighten : List ℕ → ℕ → Slot → (root : Bool) → List ℕ
tried_lighten p s c root =
    let a = around_of p c in
    where_holds (lighten_fits a) (put_weights p s c (risen root c.weight) (pred a.l.weight) (pred a.r.weight)) p

unfoldable pub tried_lighten_left : List ℕ → ℕ → Slot → (left : Bool) → List ℕ
tried_lighten_left p s c left =
    let a = faced_around left (around_of p c) in
    where_holds (lighten_left_fits a) (put_change p s (faced_change left (lighten_left a))) p

-- Kind k, tried at slot s, whose words are c. RULES 4.11: "Kind 1 at the root raises L. At L = 255 it is refused with 11."
unfoldable pub tried : List ℕ → ℕ → Slot → Kind → (root : Bool) → (level : ℕ) → List ℕ
tried p s c Blacken root level = tried_blacken p s c root (root && level == most_level)
tried p s c SingleLeft root level = tried_single p s c true
tried p s c SingleRight root level = tried_single p s c false
tried p s c DoubleLeft root level = tried_double p s c true
tried p s c DoubleRight root level = tried_double p s c false
tried p s c Lighten root level = tried_lighten p s c root
tried p s c LightenLeft root level = tried_lighten_left p s c true
tried p s c LightenRight root level = tried_lighten_left p s c false

-- whether kind k is held back: then it is not written, though it fits
unfoldable pub held_back : Kind → (root : Bool) → (level : ℕ) → Bool
held_back k root level = kind_number k == kind_number Blacken && root && level == most_level
