-- Document 01, The pool (RULES 1): where header and slots stand in the words, and the words that a State shows.
use Rattle.std.specs.Prelude.{Bool, true, false, ◌&&◌, List, [], ◌∷◌, ◌++◌, eqb, leb, length, get_or, set, ℕ, zero, suc, ◌+◌, ◌*◌, ◌-◌, ◌/◌, min}
use Rattle.std.proofs.Math.Option.{Option, none, some}
use Rattle.format.specs.declared.Header.{Header}
use Rattle.format.specs.declared.Slot.{Slot}
use Rattle.format.specs.declared.Part.{Part}
use Rattle.format.specs.declared.Part.TheVariants.{Key, Left, Right, Weight}
use Rattle.tree.specs.Codes.{most_slots}
use Rattle.tree.specs.Tree.{Tree, leaf, node, slot_of}
use Rattle.tree.specs.State.{State, Top, empty, full, nodes, level_top}

-- RULES 1.2: "4 header words, then 4 words for each of C slots [..] Slots are numbered from 1": the words of slot s begin here.
abbrev pub word_of : ℕ → ℕ
word_of s = 4 * s

abbrev pub header : ℕ → ℕ → ℕ → ℕ → Header
header root free n level = record { root = root; free = free; nodes = n; level = level }

-- the header with another L
abbrev pub at_level : Header → ℕ → Header
at_level h l = header h.root h.free h.nodes l

abbrev pub slot : ℕ → ℕ → ℕ → ℕ → Slot
slot key left right weight = record { key = key; left = left; right = right; weight = weight }

-- a slot's words with another weight
abbrev pub weighing : Slot → ℕ → Slot
weighing c w = slot c.key c.left c.right w

-- RULES 1.3 and 1.4: the words of the header and of a slot. Reading past the end gives 0, writing there does nothing.
unfoldable pub header_of : List ℕ → Header
header_of p = header (get_or p 0 0) (get_or p 1 0) (get_or p 2 0) (get_or p 3 0)

unfoldable pub put_header : List ℕ → Header → List ℕ
put_header p h = set (set (set (set p 0 h.root) 1 h.free) 2 h.nodes) 3 h.level

-- L alone
unfoldable pub put_level : List ℕ → ℕ → List ℕ
put_level p l = set p 3 l

unfoldable pub slot_at : List ℕ → ℕ → Slot
slot_at p s = slot (get_or p (word_of s) 0) (get_or p (word_of s + 1) 0) (get_or p (word_of s + 2) 0) (get_or p (word_of s + 3) 0)

unfoldable pub put_slot : List ℕ → ℕ → Slot → List ℕ
put_slot p s c = set (set (set (set p (word_of s) c.key) (word_of s + 1) c.left) (word_of s + 2) c.right) (word_of s + 3) c.weight

-- RULES 1.4: one of a slot's words: where it stands among the four, what it is in the words c, the place of slot s's in the pool, and that
-- one alone written.
abbrev pub place_of : Part → ℕ
place_of Key = 0
place_of Left = 1
place_of Right = 2
place_of Weight = 3

abbrev pub part_of : Part → Slot → ℕ
part_of Key c = c.key
part_of Left c = c.left
part_of Right c = c.right
part_of Weight c = c.weight

abbrev pub part_word : ℕ → Part → ℕ
part_word s x = word_of s + place_of x

unfoldable pub put_part : List ℕ → ℕ → Part → Slot → List ℕ
put_part p s x c = set p (part_word s x) (part_of x c)

-- C; the last slot, which is C in a pool of a good length and the last that a pool may have in a longer one
unfoldable pub slots_in : List ℕ → ℕ
slots_in p = length p / 4 - 1

abbrev pub last_slot : List ℕ → ℕ
last_slot p = min (slots_in p) most_slots

-- code 1 (RULES 1.1): "pool length is not 4 + 4C"; 02 (viii): "Code 1 follows the new limit."
unfoldable pub length_good : List ℕ → Bool
length_good p = eqb (length p) (4 + 4 * slots_in p) && leb 1 (slots_in p) && leb (slots_in p) most_slots

-- RULES 1.6: "A free slot is 0, next free slot (0 at the end), 0, 4,294,967,295."
abbrev pub free_weight : ℕ
free_weight = 4294967295

abbrev pub free_slot : ℕ → Slot
free_slot next = slot 0 next 0 free_weight

abbrev pub head_of : List ℕ → ℕ
head_of [] = 0
head_of (s ∷ ss) = s

-- RULES 1.4: what slot s holds in a tree that hangs from an edge of weight w, if it is there
unfoldable pub in_tree : ℕ → ℕ → Tree → Option Slot
in_tree s w (leaf v k) = elim (eqb s v) [ true ↦ some (slot k 0 0 w) | false ↦ none ]
in_tree s w (node v k wl l wr r) = elim (eqb s v) [
  | true ↦ some (slot k (slot_of l) (slot_of r) w)
  | false ↦ elim (in_tree s wl l) [ some c ↦ some c | none ↦ in_tree s wr r ]
]

unfoldable pub in_chain : ℕ → List ℕ → Option Slot
in_chain s [] = none
in_chain s (v ∷ vs) = elim (eqb s v) [ true ↦ some (free_slot (head_of vs)) | false ↦ in_chain s vs ]

-- "The root's [weight] is 1."
unfoldable pub in_top : ℕ → Top → Option Slot
in_top s empty = none
in_top s (full t) = in_tree s 1 t

unfoldable pub root_of : Top → ℕ
root_of empty = 0
root_of (full t) = slot_of t

-- What the State says of slot s. (In a sound State every slot is in the tree or free.)
unfoldable pub shown_slot : State → ℕ → Slot
shown_slot S s = elim (in_top s S.top) [
  | some c ↦ c
  | none ↦ elim (in_chain s S.free) [ some c ↦ c | none ↦ slot 0 0 0 0 ]
]

-- RULES 1.3: root, first free slot, N; and 02 (v): "Keep L in the fourth header word".
unfoldable pub shown_header : State → Header
shown_header S = header (root_of S.top) (head_of S.free) (nodes S.top) (level_top S.top)

abbrev pub header_words : Header → List ℕ
header_words h = h.root ∷ h.free ∷ h.nodes ∷ h.level ∷ []

abbrev pub slot_words : Slot → List ℕ
slot_words c = c.key ∷ c.left ∷ c.right ∷ c.weight ∷ []

-- the words of n slots from s on
unfoldable pub slots_from : (ℕ → Slot) → ℕ → ℕ → List ℕ
slots_from f s zero = []
slots_from f s (suc n) = slot_words (f s) ++ slots_from f (suc s) n

-- RULES 1.8: all the words that a State shows.
unfoldable pub words_of : State → List ℕ
words_of S = header_words (shown_header S) ++ slots_from (shown_slot S) 1 S.slots
