-- What the functions that try a kind read and write is what its condition and its effect name: a left form's as it stands, a right form's
-- mirrored. Each is by computing, for the left form and for the right one. Assumes nothing.
use Rattle.std.proofs.Common.{◌≡◌, ℕ, Bool, true, false, not, ◌&&◌, List, refl}
use Rattle.tree.specs.Tree.{red, overweighted}
use Rattle.format.specs.declared.Slot.{Slot}
use Rattle.format.specs.declared.Part.TheVariants.{Weight}
use Rattle.format.specs.Words.{slot, slot_at, part_of, put_slot}
use Rattle.kinds.specs.Around.{slot_below, around_of, mirrored}
use Rattle.kinds.specs.Conditions.{turns, blacken_fits, single_left_fits, double_left_fits, lighten_left_fits}
use Rattle.kinds.specs.Effects.{to, nowhere, change, single_left, double_left, lighten_left, mirrored_change, put_write, put_change}
use Rattle.kinds.specs.Tried.{faced, faced_around, faced_change, put_lightened, tried_blacken}

-- v and u as a form sees them: u is v's left child
abbrev seen_below : Bool → List ℕ → Slot → Slot
seen_below left p v = faced left (slot_at p v.left)

pub single_seen :
    (left : Bool) (p : List ℕ) (c : Slot) →
    let v = faced left c in
    let u = seen_below left p v in
    single_left_fits (faced_around left (around_of p c)) ≡ turns u.weight (part_of Weight (slot_at p v.right)) (slot_below p u u.left).weight v.weight
unfolding faced faced_around mirrored around_of slot_below
single_seen true p c = refl
single_seen false p c = refl

pub single_written :
    (left : Bool) (p : List ℕ) (s : ℕ) (c : Slot) →
    let v = faced left c in
    let u = seen_below left p v in
    put_change p s (faced_change left (single_left (faced_around left (around_of p c)))) ≡
    put_write (put_slot p s (faced left (slot u.key u.left v.left v.weight))) (to v.left (faced left (slot v.key u.right v.right 0)))
unfolding faced faced_around mirrored around_of faced_change mirrored_change single_left put_change put_write
single_written true p s c = refl
single_written false p s c = refl

pub double_seen :
    (left : Bool) (p : List ℕ) (c : Slot) →
    let v = faced left c in
    let u = seen_below left p v in
    let t = faced left (slot_below p u u.right) in
    double_left_fits (faced_around left (around_of p c)) ≡ turns u.weight (part_of Weight (slot_at p v.right)) t.weight v.weight
unfolding faced faced_around mirrored around_of slot_below
double_seen true p c = refl
double_seen false p c = refl

pub double_written :
    (left : Bool) (p : List ℕ) (c : Slot) →
    let v = faced left c in
    let u = seen_below left p v in
    let t = faced left (slot_below p u u.right) in
    faced_change left (double_left (faced_around left (around_of p c))) ≡
    change (faced left (slot t.key v.left u.right v.weight)) (to v.left (faced left (slot u.key u.left t.left 0))) nowhere
    (to u.right (faced left (slot v.key t.right v.right 0)))
unfolding faced faced_around mirrored around_of faced_change mirrored_change double_left slot_below
double_written true p c = refl
double_written false p c = refl

-- Kind 7: t is v's left child, u its right one, m u's left one.
pub lighten_left_seen :
    (left : Bool) (p : List ℕ) (c : Slot) →
    let v = faced left c in
    let u = faced left (slot_at p v.right) in
    lighten_left_fits (faced_around left (around_of p c)) ≡
    (overweighted (slot_at p v.left).weight && red u.weight && not (red (slot_below p u u.left).weight))
unfolding faced faced_around mirrored around_of lighten_left_fits slot_below
lighten_left_seen true p c = refl
lighten_left_seen false p c = refl

pub lighten_left_written :
    (left : Bool) (p : List ℕ) (s : ℕ) (c : Slot) →
    let v = faced left c in
    let u = faced left (slot_at p v.right) in
    put_change p s (faced_change left (lighten_left (faced_around left (around_of p c)))) ≡
    put_lightened p s v (slot_at p v.left) u (slot_below p u u.left) left
unfolding faced faced_around mirrored around_of faced_change mirrored_change lighten_left put_change put_lightened slot_below
lighten_left_written true p s c = refl
lighten_left_written false p s c = refl

-- where kind 1 does not fit nothing is written, held back or not
pub blacken_unfit :
    (held : Bool) (p : List ℕ) (s : ℕ) (v : Slot) (root : Bool) →
    blacken_fits (around_of p v) ≡ false →
    tried_blacken p s v root held ≡ p
unfolding tried_blacken
blacken_unfit true p s v root h = refl
blacken_unfit false p s v root h = rw (h, tried_blacken)
