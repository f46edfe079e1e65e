-- RULES 4.13. In words that show a sound State a double rotation changes six words and no other (`double_changes`), and leaves what the whole
-- slots of its effect would leave (`double_as_before`). On any words, whatever stands there, it changes no word but those six
-- (`double_others_stay`).
-- Why: t stands between u and v and has keys on either side, so its router is not v's; no slot stands in a tree twice, so no child word is
-- written as it was, and the six places are different. Left and right are one law over a side (Sides.antt). Assumes nothing.
use Rattle.std.proofs.Common.{◌≡◌, ℕ, suc, ◌+◌, ◌<◌, ◌≤◌, Bool, true, eqb, ◌≢◌, List, [], ◌∷◌, length, get_or, set, sym, refl, ap, ◌∙◌, arith, length-set, get_or-set_other, get_or-set_same, eq-eqb, ne_eqb}
use Rattle.tree.specs.Tree.{Tree, node, slot_of, one, count, count_in, Ordered}
use Rattle.tree.specs.declared.Kind.{Kind}
use Rattle.tree.specs.Kinds.{condition_at}
use Rattle.tree.specs.State.{State, full, key_end, Sound}
use Rattle.tree.proofs.Counts.{same_or_not, one_same, one_other, not_same, root_count, count_root}
use Rattle.tree.proofs.Order.{ordered_bounds}
use Rattle.tree.proofs.Relation.{Local, double_left_case, double_right_case, Step, here, in_left, in_right}
use Rattle.tree.proofs.Steps.{made}
use Rattle.tree.proofs.StepState.{tree_good, tree_once}
use Rattle.format.specs.declared.Header.{Header}
use Rattle.format.specs.declared.Slot.{Slot}
use Rattle.format.specs.declared.Part.{Part}
use Rattle.format.specs.declared.Part.TheVariants.{Key, Left, Right}
use Rattle.format.specs.Words.{place_of, part_of, part_word, put_part}
use Rattle.format.specs.Shows.{At, Holds, holds_node, Shows}
use Rattle.format.proofs.Parts.{place_small, part_read}
use Rattle.format.proofs.Shown.{shows_tree}
use Rattle.kinds.specs.declared.Write.{Write}
use Rattle.kinds.specs.declared.Change.{Change}
use Rattle.kinds.specs.Around.{around_of, around_at, mirrored}
use Rattle.kinds.specs.Effects.{to, nowhere, change, double_left, mirrored_change, effect, put_change, put_only, put_double, put_effect, applied}
use Rattle.kinds.specs.Doubles.{six_words, changed, ChangedAt}
use Rattle.kinds.proofs.Sides.{Side, left, right, On, on_left, on_right, double, near, away, on_count}
use Rattle.kinds.proofs.Written.{only_to, Three, three, double_change, double_on, double_whole}

-- the places that `put_double` writes
abbrev places_written : ℕ → Change → Part → List ℕ
places_written v c away =
    part_word v Key ∷ part_word v away ∷ part_word c.near.slot away ∷ part_word c.middle.slot Key ∷ part_word c.middle.slot Left ∷ part_word c.middle.slot Right ∷ []

double_places : (d : Side) (p : List ℕ) (v : ℕ) (root : Bool) → places_written v (effect (double d) root (around_at p v)) (away d) ≡ six_words (near d) (away d) p v
unfolding effect double_left mirrored_change mirrored around_of six_words
double_places left p v root = refl
double_places right p v root = refl

-- place i is none of these
unfoldable Apart : ℕ → List ℕ → Type 0
Apart i [] = Unit {0}
Apart i (j ∷ is) = (i ≢ j) × Apart i is

apart_count : (i : ℕ) (is : List ℕ) → Apart i is → count_in i is ≡ 0
unfolding Apart count_in
apart_count i [] a = refl
apart_count i (j ∷ is) a = omega (arith, one_other i j a.0, apart_count i is a.1)

-- Nothing changed yet; and one word more, at a place that is none of those before.
changed_none : (p : List ℕ) → ChangedAt p p []
unfolding count_in changed one
changed_none p = record { same_length = refl; exactly = λ i. rw (eq-eqb (get_or p i 0) (get_or p i 0) refl) }

changed_more : {p q is : List ℕ} → ChangedAt p q is → (i x : ℕ) → Apart i is → i < length p → x ≢ get_or p i 0 → ChangedAt p (set q i x) (i ∷ is)
unfolding count_in changed one
changed_more {p} {q} {is} c i x new inside other = record {
  same_length = length-set q i x ∙ c.same_length;
  exactly = λ j. same_or_not j i
      (λ e. let none : count_in j is ≡ 0 = ap (λ (k : ℕ). count_in k is) e ∙ apart_count i is new in
      rw (none, e, one_same i i refl, get_or-set_same q i x 0 (omega (arith, c.same_length)), ne_eqb x (get_or p i 0) other))
      (λ n. rw (one_other j i n, get_or-set_other q i j x 0 n) (omega (arith, c.exactly j)));
}

part_changed : {p q is : List ℕ} {s : ℕ} {d : Slot} → At p s d → ChangedAt p q is → (x : Part) (c : Slot) → Apart (part_word s x) is
    → part_of x c ≢ part_of x d → ChangedAt p (put_part q s x c) (part_word s x ∷ is)
unfolding put_part
part_changed {p} {s = s} h e x c new other =
    changed_more e (part_word s x) (part_of x c) new (omega (arith, place_small x, h.inside)) (rw (part_read p s x, h.content) other)

-- On any words, whatever is to be written: a word that stands at none of the six places stays.
part_other : (p : List ℕ) (s : ℕ) (x : Part) (c : Slot) (i : ℕ) → i ≢ part_word s x → get_or (put_part p s x c) i 0 ≡ get_or p i 0
unfolding put_part
part_other p s x c i n = get_or-set_other p (part_word s x) i (part_of x c) 0 n

only_other : (p : List ℕ) (w : Write) (x : Part) (i : ℕ) → i ≢ part_word w.slot x → get_or (put_only p w x) i 0 ≡ get_or p i 0
unfolding put_only
only_other p w x i n = same_or_not w.slot 0
    (λ e. rw (eq-eqb w.slot 0 e, put_only))
    (λ k. rw (ne_eqb w.slot 0 k, put_only) (part_other p w.slot x w.words i n))

others_stay : (p : List ℕ) (v : ℕ) (c : Change) (x : Part) (i : ℕ) → count_in i (places_written v c x) ≡ 0 → get_or (put_double p v c x) i 0 ≡ get_or p i 0
unfolding put_double count_in
others_stay p v c x i n =
    let apart : (j : ℕ) → one (eqb i j) ≡ 0 → i ≢ j = not_same i in
    only_other _ c.middle Right i (apart _ (omega arith))
    ∙ (only_other _ c.middle Left i (apart _ (omega arith))
    ∙ (only_other _ c.middle Key i (apart _ (omega arith))
    ∙ (only_other _ c.near x i (apart _ (omega arith))
    ∙ (part_other _ v x c.v i (apart _ (omega arith))
    ∙ part_other p v Key c.v i (apart _ (omega arith))))))

pub double_others_stay : (d : Side) (p : List ℕ) (v : ℕ) (root : Bool) (i : ℕ) → count_in i (six_words (near d) (away d) p v) ≡ 0
    → get_or (applied p v (double d) root (around_at p v)) i 0 ≡ get_or p i 0
unfolding applied put_effect
double_others_stay left p v root i n = others_stay p v (effect (double left) root (around_at p v)) Right i (rw (double_places left p v root) n)
double_others_stay right p v root i n = others_stay p v (effect (double right) root (around_at p v)) Left i (rw (double_places right p v root) n)

-- Six words of three slots, which held dv, du and ds and get those words of cv, cu and cs.
module _ {p : List ℕ} {v u s : ℕ} {dv du ds : Slot} (hv : At p v dv) (hu : At p u du) (hs : At p s ds) (vu : v ≢ u) (vs : v ≢ s) (us : u ≢ s) where
  six_changed : (x : Part) → 1 ≤ place_of x → (cv cu cs : Slot) → cv.key ≢ dv.key → part_of x cv ≢ part_of x dv → part_of x cu ≢ part_of x du
      → cs.key ≢ ds.key → cs.left ≢ ds.left → cs.right ≢ ds.right
      → let c = change cv (to u cu) nowhere (to s cs) in
      ChangedAt p (put_double p v c x) (places_written v c x)
  unfolding put_double count_in Apart
  six_changed x above cv cu cs v₀ v₁ u₁ s₀ s₁ s₂ =
      let small = place_small x in
      let n = hu.from_one in
      let k = hs.from_one in
      let a = part_changed hv (changed_none p) Key cv tt v₀ in
      let b = part_changed hv a x cv (omega arith) v₁ in
      let c = part_changed hu b x cu (omega arith) u₁ in
      let d = part_changed hs c Key cs (omega arith) s₀ in
      let e = part_changed hs d Left cs (omega arith) s₁ in
      let f = part_changed hs e Right cs (omega arith) s₂ in
      rw (only_to _ u x cu n, only_to _ s Key cs k, only_to _ s Left cs k, only_to _ s Right cs k)
      (record { same_length = f.same_length; exactly = λ i. omega (arith, f.exactly i) })

-- What a double rotation writes, seen from a side: s, which is 01's t, has the router m; below the three hang a, b, c and r.
six_differ : {d : Side} {p : List ℕ} {w v i u j s m a b c r : ℕ} → Three d p w v i u j s m a b c r → m ≢ i → s ≢ r → b ≢ s → c ≢ b → r ≢ c
    → let c' = double_change d w i u j s m a b c r in
    ChangedAt p (put_double p v c' (away d)) (places_written v c' (away d))
six_differ {d = left} T mi sr bs cb rc = six_changed T.at_v T.at_u T.at_s T.vu T.vs T.us Right (omega arith) _ _ _ mi sr bs (λ e. mi (sym e)) cb rc
six_differ {d = right} T mi sr bs cb rc = six_changed T.at_v T.at_u T.at_s T.vu T.vs T.us Left (omega arith) _ _ _ mi sr bs (λ e. mi (sym e)) rc cb

doubles_change : {d : Side} {p : List ℕ} {w v i u j wa s m wb wc wr : ℕ} {a b c r x z t : Tree}
    → On d v i 0 x wr r t → On d u j wa a 0 z x → On d s m wb b wc c z → Holds p w t → ((s : ℕ) → count s t ≤ 1) → m ≢ i → (root : Bool)
    → ChangedAt p (put_double p v (effect (double d) root (around_at p v)) (away d)) (six_words (near d) (away d) p v)
doubles_change {d = d} {p = p} {v = v} {u = u} {s = s} {a = a} {b = b} {c = c} {r = r} ot ox oz h n mi root =
    let T = three ot ox oz h n in
    let once : (x : ℕ) → one (eqb x s) + count x a + count x b + count x c + count x r ≤ 1 = λ x. omega (arith, n x, on_count ot x, on_count ox x, on_count oz x) in
    let s-once = one_same s s refl in
    rw (sym (double_places d p v root), double_on T root)
    (six_differ T mi
    (λ e. omega (arith, once s, root_count s r, one_same s (slot_of r) e))
    (λ e. omega (arith, once s, root_count s b, one_same s (slot_of b) (sym e)))
    (λ e. omega (arith, once (slot_of b), count_root b, root_count (slot_of b) c, one_same (slot_of b) (slot_of c) (sym e)))
    (λ e. omega (arith, once (slot_of c), count_root c, root_count (slot_of c) r, one_same (slot_of c) (slot_of r) (sym e))))

-- Where the condition holds, the routers of s and v differ: a leaf stands between the two.
local_changes : (d : Side) (lo hi : ℕ) {w v i wl wr x : ℕ} {l r b : Tree} → Local (double d) w (node v i wl l wr r) x b → {p : List ℕ} → Holds p w (node v i wl l wr r)
    → Ordered lo hi (node v i wl l wr r) → ((s : ℕ) → count s (node v i wl l wr r) ≤ 1) → (root : Bool)
    → ChangedAt p (applied p v (double d) root (around_at p v)) (six_words (near d) (away d) p v)
unfolding applied put_effect Ordered
local_changes left lo hi (double_left_case {i = i} {m = m} {c = c}) h o n root =
    doubles_change on_left on_left on_left h n (λ e. omega (arith, ordered_bounds (suc m) (suc i) c o.0.1.1)) root
local_changes right lo hi (double_right_case {i = i} {m = m} {b = b}) h o n root =
    doubles_change on_right on_right on_right h n (λ e. omega (arith, ordered_bounds (suc i) (suc m) b o.1.0.0)) root

step_changes : (d : Side) (lo hi : ℕ) {k : Kind} {s w x : ℕ} {t b : Tree} → Step k s w t x b → k ≡ double d → {p : List ℕ} → Holds p w t → Ordered lo hi t → ((x : ℕ) → count x t ≤ 1) → (root : Bool)
    → ChangedAt p (applied p s (double d) root (around_at p s)) (six_words (near d) (away d) p s)
unfolding Ordered count
step_changes d lo hi (here l) e h o n root = local_changes d lo hi (rw e at l) h o n root
step_changes d lo hi (in_left {i = k} i) e (holds_node h hl hr) o n root = step_changes d lo (suc k) i e hl o.0 (λ x. omega (arith, n x)) root
step_changes d lo hi (in_right {i = k} i) e (holds_node h hl hr) o n root = step_changes d (suc k) hi i e hr o.1 (λ x. omega (arith, n x)) root

-- The six words leave what the whole slots leave.
local_whole : (d : Side) {s w i wl wr x : ℕ} {l r b : Tree} → Local (double d) w (node s i wl l wr r) x b → {p : List ℕ} → Holds p w (node s i wl l wr r)
    → ((x : ℕ) → count x (node s i wl l wr r) ≤ 1) → (root : Bool)
    → applied p s (double d) root (around_at p s) ≡ put_change p s (effect (double d) root (around_at p s))
unfolding applied put_effect
local_whole left double_left_case h n root = double_whole (three on_left on_left on_left h n) root
local_whole right double_right_case h n root = double_whole (three on_right on_right on_right h n) root

step_whole : (d : Side) {k : Kind} {s w x : ℕ} {t b : Tree} → Step k s w t x b → k ≡ double d → {p : List ℕ} → Holds p w t → ((x : ℕ) → count x t ≤ 1) → (root : Bool)
    → applied p s (double d) root (around_at p s) ≡ put_change p s (effect (double d) root (around_at p s))
unfolding count
step_whole d (here l) e h n root = local_whole d (rw e at l) h n root
step_whole d (in_left i) e (holds_node h hl hr) n root = step_whole d i e hl (λ x. omega (arith, n x)) root
step_whole d (in_right i) e (holds_node h hl hr) n root = step_whole d i e hr (λ x. omega (arith, n x)) root

module _ (S : State) (t : Tree) (sound : Sound S) (e : S.top ≡ full t) {h : Header} (p : List ℕ) (shows : Shows h p S) where
  pub double_changes : (d : Side) (s : ℕ) → condition_at (double d) s t ≡ true
      → ChangedAt p (applied p s (double d) (eqb s h.root) (around_at p s)) (six_words (near d) (away d) p s)
  double_changes d s c =
      let good = tree_good S t sound e in
      let once = tree_once S t sound e in
      step_changes d 0 key_end (made (double d) s t good.chromatic (once s) c).step refl (shows_tree shows e) good.ordered once _

  pub double_as_before : (d : Side) (s : ℕ) → condition_at (double d) s t ≡ true → (root : Bool)
      → applied p s (double d) root (around_at p s) ≡ put_change p s (effect (double d) root (around_at p s))
  double_as_before d s c root =
      let once = tree_once S t sound e in
      step_whole d (made (double d) s t (tree_good S t sound e).chromatic (once s) c).step refl (shows_tree shows e) once root
