-- Left and right once. 01: "Left forms are given; right forms are mirrored." A node, its words, how often a slot stands in it and how it
-- is held, seen from a side: what is proved of a side holds of both. Assumes nothing.
use Rattle.std.proofs.Common.{◌≡◌, ℕ, ◌+◌, eqb, List, refl, arith}
use Rattle.tree.specs.declared.Kind.{Kind}
use Rattle.tree.specs.declared.Kind.TheVariants.{SingleLeft, SingleRight, DoubleLeft, DoubleRight, LightenLeft, LightenRight}
use Rattle.tree.specs.Tree.{Tree, node, slot_of, one, count}
use Rattle.format.specs.declared.Slot.{Slot}
use Rattle.format.specs.declared.Part.{Part}
use Rattle.format.specs.declared.Part.TheVariants.{Left, Right}
use Rattle.format.specs.Words.{slot}
use Rattle.format.specs.Shows.{At, Holds, holds_node}

pub data Side : Type 0 where
  left : Side
  right : Side

-- `On d v i wn n wf f t`: t is node v with router i; near, on side d, n hangs from it by an edge of weight wn, and far f by one of wf.
pub data On : Side → (v i wn : ℕ) → Tree → ℕ → Tree → Tree → Type 0 where
  on_left : {v i wn wf : ℕ} {n f : Tree} → On left v i wn n wf f (node v i wn n wf f)
  on_right : {v i wn wf : ℕ} {n f : Tree} → On right v i wn n wf f (node v i wf f wn n)

-- a slot's words with a child near and one far, and the form of a kind for a side
abbrev pub words : Side → (key near far weight : ℕ) → Slot
words left k n f w = slot k n f w
words right k n f w = slot k f n w

abbrev pub single : Side → Kind
single left = SingleLeft
single right = SingleRight

abbrev pub double : Side → Kind
double left = DoubleLeft
double right = DoubleRight

abbrev pub lighten : Side → Kind
lighten left = LightenLeft
lighten right = LightenRight

-- the child word on the side, and on the other
abbrev pub near : Side → Part
near left = Left
near right = Right

abbrev pub away : Side → Part
away left = Right
away right = Left

pub on_slot : {d : Side} {v i wn wf : ℕ} {n f t : Tree} → On d v i wn n wf f t → slot_of t ≡ v
unfolding slot_of
on_slot on_left = refl
on_slot on_right = refl

pub on_count : {d : Side} {v i wn wf : ℕ} {n f t : Tree} → On d v i wn n wf f t → (s : ℕ) → count s t ≡ one (eqb s v) + count s n + count s f
unfolding count
on_count on_left s = refl
on_count on_right s = omega arith

-- what the words hold of a node that they hold, and what makes them hold it
pub record HeldOn (d : Side) (p : List ℕ) (w v i wn : ℕ) (n : Tree) (wf : ℕ) (f : Tree) : Type 0 where
  pub own : At p v (words d i (slot_of n) (slot_of f) w)
  pub near : Holds p wn n
  pub far : Holds p wf f

pub held : {d : Side} {p : List ℕ} {w v i wn wf : ℕ} {n f t : Tree} → On d v i wn n wf f t → Holds p w t → HeldOn d p w v i wn n wf f
held on_left (holds_node h n f) = record { own = h; near = n; far = f }
held on_right (holds_node h f n) = record { own = h; near = n; far = f }

pub hold : {d : Side} {p : List ℕ} {w v i wn wf : ℕ} {n f t : Tree} → On d v i wn n wf f t
    → At p v (words d i (slot_of n) (slot_of f) w) → Holds p wn n → Holds p wf f → Holds p w t
hold on_left h n f = holds_node h n f
hold on_right h n f = holds_node h f n
