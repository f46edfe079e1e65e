-- The commands search, insert and delete on a State, and prepare. For each: it keeps the State sound (`…-sound`); it answers by
-- the cases of document 01's table, with what then holds of the keys (`…-says`), each code exactly when its cause holds
-- (`…-codes`); refused, it changes nothing (`…-kept`). What an insert and a delete do is said case by case, with the slots that they
-- take and free at the head of the free chain (`inserting`, `deleting`).
-- Why: a search finds a key exactly when it occurs (Search.antt), so each command branches on whether the key is in the set.
-- What an insert takes from the chain the tree gains, and what a delete frees it loses: over both together no slot's count
-- changes (`sound_moved`). Assumes nothing.
use mathlib.Core.Path.{◌≡◌, refl, sym}
use mathlib.Core.Logic.{◌↔◌, ◌≢◌}
use mathlib.Core.List.{List, [], ◌∷◌}
use lib.ListN.{length}
use lib.Dec.{eqb}
use borrow.Author.Tests.{eq-eqb, ne_eqb}
use Prim.Native.Nat.{ℕ, zero, suc, ◌+◌, ◌≤◌, ◌<◌}
use native.Mathlib.Omega.{arith}
use Rattle.tree.specs.declared.Refusal.TheVariants.{KeyPresent, KeyAbsent, NoRoom}
use Rattle.tree.specs.declared.Answer.TheVariants.{Done}
use Rattle.tree.specs.Codes.{most_slots, code, code_of}
use Rattle.tree.specs.Tree.{Tree, leaf, node, is_leaf, leaves, one, count, count_in, keys, Ordered, level, Chromatic}
use Rattle.tree.specs.Updates.{reach, reached_slot, reached_key, insert_at, new_slot, Cut, delete_at}
use Rattle.tree.specs.State.{Top, empty, full, State, state, keys_of, is_in, count_top, key_end, Good, GoodTop, Sound, upwards, prepared, Outcome, gives, refuses, search, slots_needed, insert_first, insert_more, insert, deleted, delete}
use Rattle.tree.proofs.Tests.{same_or_not, one_same, one_other}
use Rattle.tree.proofs.Order.{occurs, occurs_keys, leaves_keys}
use Rattle.tree.proofs.Levels.{chromatic_root}
use Rattle.tree.proofs.SoundStates.{sound_moved, tree_good}
use Rattle.tree.proofs.Search.{LeafIn, this, found_or_not, search_leaf, search_misses}
use Rattle.tree.proofs.Insert.{Ins, insert_at_is, insert_keys, insert_slots, insert_ordered, insert_levels, insert_low, insert_leaf}
use Rattle.tree.proofs.Delete.{Del, delete_at_is, delete_keys, delete_slots, delete_ordered, delete_levels, delete_low}

-- The key x in a sound State: there is no tree, or the search for x ends at x, or at another key.
pub is_in_tree : (x : ℕ) (S : State) (t : Tree) → S.top ≡ full t → is_in x S ≡ occurs x t
unfolding keys_of
is_in_tree x S t e = rw e (sym (occurs_keys x t))

is_in_empty : (x : ℕ) (S : State) → S.top ≡ empty → is_in x S ≡ 0
unfolding keys_of count_in
is_in_empty x S e = rw e

pub sought : {A : Type 0} (x : ℕ) (S : State) → Sound S → (S.top ≡ empty → is_in x S ≡ 0 → A)
    → ((t : Tree) → S.top ≡ full t → reached_key x t ≡ x → is_in x S ≡ 1 → A)
    → ((t : Tree) → S.top ≡ full t → reached_key x t ≢ x → is_in x S ≡ 0 → A) → A
sought {A} x S g none found other = go S.top refl
  where
    go : (T : Top) → S.top ≡ T → A
    go empty e = none e (is_in_empty x S e)
    go (full t) e = found_or_not x 0 key_end t (tree_good S t g e).ordered
        (λ f i. found t e f (omega (arith, is_in_tree x S t e)))
        (λ n i. other t e n (omega (arith, is_in_tree x S t e)))

pub is_in_once : (x : ℕ) (S : State) → Sound S → is_in x S ≤ 1
is_in_once x S g = sought x S g (λ e i. omega arith) (λ t e f i. omega arith) (λ t e n i. omega arith)

-- Prepare

pub upwards_none : (s a n : ℕ) → ((i : ℕ) → i < n → s ≢ a + i) → count_in s (upwards a n) ≡ 0
unfolding upwards count_in
upwards_none s a zero h = refl
upwards_none s a (suc n) h =
    let d = h 0 (omega arith) in omega (arith, one_other s a (omega arith), upwards_none s (suc a) n (λ i l. omega (arith, h (suc i) (omega arith))))

pub upwards_once : (s a n : ℕ) → a ≤ s → s < a + n → count_in s (upwards a n) ≡ 1
unfolding upwards count_in
upwards_once s a zero h i = absurd (omega arith)
upwards_once s a (suc n) h i = same_or_not s a
    (λ e. omega (arith, one_same s a e, upwards_none s (suc a) n (λ i l. omega arith)))
    (λ d. omega (arith, one_other s a d, upwards_once s (suc a) n (omega arith) (omega arith)))

pub prepared_sound : (c : ℕ) → 1 ≤ c → c ≤ most_slots → Sound (prepared c)
unfolding prepared count_top GoodTop
prepared_sound c h i = record {
  some = h;
  few = i;
  once = λ s f g. omega (arith, upwards_once s 1 c f (omega arith));
  none_zero = omega (arith, upwards_none 0 1 c (λ i l. omega arith));
  none_above = λ s f. omega (arith, upwards_none s 1 c (λ i l. omega arith));
  good = tt;
}

-- Search

-- What a search answers, and when. Either way it leaves the State as it was.
pub data SearchSays (x : ℕ) (S : State) : Outcome → Type 0 where
  found : {s : ℕ} {t : Tree} → is_in x S ≡ 1 → S.top ≡ full t → LeafIn s x t → SearchSays x S (gives (Done s) S)
  missing : is_in x S ≡ 0 → SearchSays x S (refuses KeyAbsent S)

pub search_says : (x : ℕ) (S : State) → Sound S → SearchSays x S (search x S)
unfolding search
search_says x S g = sought x S g
    (λ e i. let d : search x S ≡ refuses KeyAbsent S = cc e in rw d (missing i))
    (λ t e f i. let d : search x S ≡ gives (Done (reached_slot x t)) S = cc (e, eq-eqb _ _ f) in rw d (found i e (rw f at (search_leaf x t))))
    (λ t e n i. let d : search x S ≡ refuses KeyAbsent S = cc (e, ne_eqb _ _ n) in rw d (missing i))

-- The same as codes: document 01's column "Given exactly when", for search and delete.
pub record KeyCodes (x : ℕ) (S : State) (given : ℕ) : Type 0 where
  pub done : (given ≡ 0) ↔ (is_in x S ≡ 1)
  pub key_absent : (given ≡ code KeyAbsent) ↔ (is_in x S ≡ 0)

pub search_codes : (x : ℕ) (S : State) → Sound S → KeyCodes x S (code_of (search x S).answer)
search_codes x S g = go (search_says x S g)
  where
    go : {o : Outcome} → SearchSays x S o → KeyCodes x S (code_of o.answer)
    go (found i e f) = omega arith
    go (missing i) = omega arith

pub search_kept : (x : ℕ) (S : State) → Sound S → (search x S).after ≡ S
search_kept x S g = go (search_says x S g)
  where
    go : {o : Outcome} → SearchSays x S o → o.after ≡ S
    go (found i e f) = refl
    go (missing i) = refl

pub search_sound : (x : ℕ) (S : State) → Sound S → Sound (search x S).after
search_sound x S g = rw (search_kept x S g) g

-- Insert

-- Case by case. "Taking a slot takes the chain's head."
pub data Inserting (x : ℕ) (S : State) : Outcome → Type 0 where
  is_there : {t : Tree} → S.top ≡ full t → reached_key x t ≡ x → is_in x S ≡ 1 → Inserting x S (refuses KeyPresent S)
  no_first : S.top ≡ empty → S.free ≡ [] → is_in x S ≡ 0 → Inserting x S (refuses NoRoom S)
  no_two : {t : Tree} → S.top ≡ full t → length S.free < 2 → reached_key x t ≢ x → is_in x S ≡ 0 → Inserting x S (refuses NoRoom S)
  as_first : {a : ℕ} {fs : List ℕ} → S.top ≡ empty → S.free ≡ a ∷ fs → is_in x S ≡ 0
      → Inserting x S (gives (Done a) (state S.slots (full (leaf a x)) fs))
  beside : {t : Tree} {a b : ℕ} {fs : List ℕ} → S.top ≡ full t → S.free ≡ a ∷ (b ∷ fs) → reached_key x t ≢ x → is_in x S ≡ 0
      → Inserting x S (gives (Done (new_slot x (reached_key x t) a b)) (state S.slots (full (insert_at x a b 1 t).1) fs))

pub inserting : (x : ℕ) (S : State) → Sound S → Inserting x S (insert x S)
unfolding insert insert_first insert_more
inserting x S g = sought x S g
    (λ e i. first S.free refl e i)
    (λ t e f i. let d : insert x S ≡ refuses KeyPresent S = cc (e, eq-eqb _ _ f) in rw d (is_there e f i))
    (λ t e n i. more t S.free refl e n i)
  where
    first : (fs : List ℕ) → S.free ≡ fs → S.top ≡ empty → is_in x S ≡ 0 → Inserting x S (insert x S)
    first [] f e i = let d : insert x S ≡ refuses NoRoom S = cc (e, f) in rw d (no_first e f i)
    first (a ∷ fs) f e i = let d : insert x S ≡ gives (Done a) (state S.slots (full (leaf a x)) fs) = cc (e, f) in rw d (as_first e f i)

    more : (t : Tree) (fs : List ℕ) → S.free ≡ fs → S.top ≡ full t → reached_key x t ≢ x → is_in x S ≡ 0 → Inserting x S (insert x S)
    more t [] f e n i = let d : insert x S ≡ refuses NoRoom S = cc (e, f, ne_eqb _ _ n) in rw d (no_two e (rw f (omega arith)) n i)
    more t (a ∷ []) f e n i = let d : insert x S ≡ refuses NoRoom S = cc (e, f, ne_eqb _ _ n) in rw d (no_two e (rw f (omega arith)) n i)
    more t (a ∷ (b ∷ fs)) f e n i =
        let d : insert x S ≡ gives (Done (new_slot x (reached_key x t) a b)) (state S.slots (full (insert_at x a b 1 t).1) fs) = cc (e, f, ne_eqb _ _ n) in
        rw d (beside e f n i)

-- What an insert answers, and when. Refused, it leaves the State as it was; else the key x is in the set, once more than
-- before, and no other key is moved in or out; the answer is the slot of x.
pub data InsertSays (x : ℕ) (S : State) : Outcome → Type 0 where
  present : is_in x S ≡ 1 → InsertSays x S (refuses KeyPresent S)
  no_room : is_in x S ≡ 0 → length S.free < slots_needed S.top → InsertSays x S (refuses NoRoom S)
  added : {s : ℕ} {t : Tree} {fs : List ℕ} → is_in x S ≡ 0 → slots_needed S.top ≤ length S.free
      → ((y : ℕ) → is_in y (state S.slots (full t) fs) ≡ is_in y S + one (eqb y x)) → LeafIn s x t
      → InsertSays x S (gives (Done s) (state S.slots (full t) fs))

pub insert_says : (x : ℕ) (S : State) → Sound S → InsertSays x S (insert x S)
unfolding slots_needed keys_of keys count_in
insert_says x S g = go (inserting x S g)
  where
    go : {o : Outcome} → Inserting x S o → InsertSays x S o
    go (is_there e f i) = present i
    go (no_first e f i) = no_room i (rw (e, f) (omega arith))
    go (no_two e f n i) = no_room i (rw e f)
    go (as_first {a} {fs} e f i) = added {t = leaf a x} {fs = fs} i (rw (e, f) (omega arith)) (λ y. omega (arith, is_in_empty y S e)) this
    go (beside {t} {a} {b} {fs} e f n i) =
        let d = insert_at_is x a b 1 t in
        added {t = (insert_at x a b 1 t).1} {fs = fs} i (rw (e, f) (omega arith)) (λ y. omega (arith, insert_keys y d, is_in_tree y S t e, occurs_keys y (insert_at x a b 1 t).1)) (insert_leaf d)

pub record InsertCodes (x : ℕ) (S : State) (given : ℕ) : Type 0 where
  pub done : (given ≡ 0) ↔ ((is_in x S ≡ 0) × (slots_needed S.top ≤ length S.free))
  pub key_present : (given ≡ code KeyPresent) ↔ (is_in x S ≡ 1)
  pub room_lacking : (given ≡ code NoRoom) ↔ ((is_in x S ≡ 0) × (length S.free < slots_needed S.top))

pub insert_codes : (x : ℕ) (S : State) → Sound S → InsertCodes x S (code_of (insert x S).answer)
insert_codes x S g = go (insert_says x S g)
  where
    go : {o : Outcome} → InsertSays x S o → InsertCodes x S (code_of o.answer)
    go (present i) = omega arith
    go (no_room i h) = omega arith
    go (added i h k f) = omega arith

pub insert_kept : (x : ℕ) (S : State) → Sound S → code_of (insert x S).answer ≢ 0 → (insert x S).after ≡ S
insert_kept x S g = go (insert_says x S g)
  where
    go : {o : Outcome} → InsertSays x S o → code_of o.answer ≢ 0 → o.after ≡ S
    go (present i) n = refl
    go (no_room i h) n = refl
    go (added i h k f) n = absurd (n refl)

insert_good : {x a b q : ℕ} {t u : Tree} → Ins x a b 1 t q u → x < key_end → occurs x t ≡ 0 → Good t → Good u
insert_good {q} {u} i h e g = record {
  ordered = insert_ordered 0 key_end i e (omega arith) h g.ordered;
  chromatic = chromatic_root q u (insert_levels i g.chromatic).chromatic;
  low = omega (arith, insert_low i g.chromatic, g.low);
}

first_good : (a x : ℕ) → x < key_end → Good (leaf a x)
unfolding Ordered Chromatic level
first_good a x h = record { ordered = omega arith; chromatic = omega arith; low = omega arith }

pub insert_sound : (x : ℕ) (S : State) → Sound S → x < key_end → Sound (insert x S).after
unfolding count_top count count_in GoodTop
insert_sound x S g h = go (inserting x S g)
  where
    go : {o : Outcome} → Inserting x S o → Sound o.after
    go (is_there e f i) = g
    go (no_first e f i) = g
    go (no_two e f n i) = g
    go (as_first {a} e f i) = sound_moved g (λ s. rw (e, f) (omega arith)) (first_good a x h)
    go (beside {t} {a} {b} e f n i) =
        let d = insert_at_is x a b 1 t in
        sound_moved g (λ s. rw (e, f) (omega (arith, insert_slots s d))) (insert_good d h (omega (arith, is_in_tree x S t e)) (tree_good S t g e))

-- Delete

-- Case by case. "A root leaf is freed." Else "the leaf's slot is freed first, then the sibling's", and "freeing puts a slot at the head".
pub data Deleting (x : ℕ) (S : State) : Outcome → Type 0 where
  from_none : S.top ≡ empty → is_in x S ≡ 0 → Deleting x S (refuses KeyAbsent S)
  not_there : {t : Tree} → S.top ≡ full t → reached_key x t ≢ x → is_in x S ≡ 0 → Deleting x S (refuses KeyAbsent S)
  the_last : {s : ℕ} → S.top ≡ full (leaf s x) → is_in x S ≡ 1 → Deleting x S (gives (Done 0) (state S.slots empty (s ∷ S.free)))
  one_of : {t : Tree} {c : Cut} → S.top ≡ full t → is_in x S ≡ 1 → Del x 1 t c
      → Deleting x S (gives (Done (leaves c.tree)) (state S.slots (full c.tree) (c.sibling_slot ∷ (c.leaf_slot ∷ S.free))))

pub deleting : (x : ℕ) (S : State) → Sound S → Deleting x S (delete x S)
unfolding delete deleted reached_key reach is_leaf
deleting x S g = sought x S g
    (λ e i. let d : delete x S ≡ refuses KeyAbsent S = cc e in rw d (from_none e i))
    found
    (λ t e n i. let d : delete x S ≡ refuses KeyAbsent S = cc (e, ne_eqb _ _ n) in rw d (not_there e n i))
  where
    found : (t : Tree) → S.top ≡ full t → reached_key x t ≡ x → is_in x S ≡ 1 → Deleting x S (delete x S)
    found (leaf s k) e f i =
        let d : delete x S ≡ gives (Done 0) (state S.slots empty (s ∷ S.free)) = cc (e, eq-eqb _ _ f) in rw d (the_last (rw f at e) i)
    found (node v k wl l wr r) e f i =
        let t = node v k wl l wr r in
        let c = delete_at x 1 t in
        let d : delete x S ≡ gives (Done (leaves c.tree)) (state S.slots (full c.tree) (c.sibling_slot ∷ (c.leaf_slot ∷ S.free))) = cc (e, eq-eqb _ _ f) in
        rw d (one_of e i (delete_at_is x 1 t refl f))

-- What a delete answers, and when. Refused, it leaves the State as it was; else the key x is in the set no more, and no other
-- key is moved in or out; the answer is the number of keys left.
pub data DeleteSays (x : ℕ) (S : State) : Outcome → Type 0 where
  absent : is_in x S ≡ 0 → DeleteSays x S (refuses KeyAbsent S)
  removed : {n : ℕ} {t : Top} {fs : List ℕ} → is_in x S ≡ 1 → n ≡ length (keys_of t)
      → ((y : ℕ) → is_in y S ≡ is_in y (state S.slots t fs) + one (eqb y x)) → DeleteSays x S (gives (Done n) (state S.slots t fs))

pub delete_says : (x : ℕ) (S : State) → Sound S → DeleteSays x S (delete x S)
unfolding keys_of count_in occurs
delete_says x S g = go (deleting x S g)
  where
    go : {o : Outcome} → Deleting x S o → DeleteSays x S o
    go (from_none e i) = absent i
    go (not_there e n i) = absent i
    go (the_last {s} e i) = removed {t = empty} {fs = s ∷ S.free} i refl (λ y. omega (arith, is_in_tree y S (leaf s x) e))
    go (one_of {t} {c} e i d) =
        removed {t = full c.tree} {fs = c.sibling_slot ∷ (c.leaf_slot ∷ S.free)} i (leaves_keys _)
        (λ y. omega (arith, delete_keys y d, is_in_tree y S t e, occurs_keys y c.tree))

pub delete_codes : (x : ℕ) (S : State) → Sound S → KeyCodes x S (code_of (delete x S).answer)
delete_codes x S g = go (delete_says x S g)
  where
    go : {o : Outcome} → DeleteSays x S o → KeyCodes x S (code_of o.answer)
    go (absent i) = omega arith
    go (removed i n k) = omega arith

pub delete_kept : (x : ℕ) (S : State) → Sound S → code_of (delete x S).answer ≢ 0 → (delete x S).after ≡ S
delete_kept x S g = go (delete_says x S g)
  where
    go : {o : Outcome} → DeleteSays x S o → code_of o.answer ≢ 0 → o.after ≡ S
    go (absent i) n = refl
    go (removed i l k) n = absurd (n refl)

delete_good : {x : ℕ} {t : Tree} {c : Cut} → Del x 1 t c → Good t → Good c.tree
delete_good {c} d g = record {
  ordered = delete_ordered 0 key_end d g.ordered;
  chromatic = chromatic_root c.weight c.tree (delete_levels d g.chromatic).chromatic;
  low = omega (arith, delete_low d g.chromatic, g.low);
}

pub delete_sound : (x : ℕ) (S : State) → Sound S → Sound (delete x S).after
unfolding count_top count count_in GoodTop
delete_sound x S g = go (deleting x S g)
  where
    go : {o : Outcome} → Deleting x S o → Sound o.after
    go (from_none e i) = g
    go (not_there e n i) = g
    go (the_last e i) = sound_moved g (λ s. rw e (omega arith)) tt
    go (one_of {t} e i d) = sound_moved g (λ s. rw e (omega (arith, delete_slots s d))) (delete_good d (tree_good S t g e))

-- "Freed slots are used again": an insert after a delete takes the slots that the delete freed, and leaves the chain as it was
-- before both.
pub freed_used_again : (x y : ℕ) (S : State) → Sound S → is_in x S ≡ 1 → is_in y (delete x S).after ≡ 0
    → (insert y (delete x S).after).after.free ≡ S.free
unfolding insert insert_first insert_more keys_of
freed_used_again x y S g i = go (deleting x S g)
  where
    go : {o : Outcome} → Deleting x S o → is_in y o.after ≡ 0 → (insert y o.after).after.free ≡ S.free
    go (from_none e n) j = absurd (omega arith)
    go (not_there e f n) j = absurd (omega arith)
    go (the_last e n) j = refl
    go (one_of {c} e n d) j = rw (ne_eqb _ _ (search_misses y c.tree (omega (arith, occurs_keys y c.tree))), insert)
