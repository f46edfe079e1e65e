-- The keys of a span, and deleting them, on a State. The span of a list that rises: from its first key at or above x on (`span_first`), and empty
-- where there is none, where that one is past the end, or where the ends are crossed (`span_none_from`, `span_past`, `span_crossed`). Deleting a
-- span keeps a sound State sound and C as it was, takes exactly its keys, as many as it says, and nothing where there is none (`span_sound`,
-- `span_slots`, `span_members`, `span_held`, `span_none`).
-- Why: the keys rise, so those that come after the first of the span are above it; and a delete takes its key and moves no other. Two lists that rise
-- and have the same numbers are the same (`rising_same`). Assumes nothing.
use mathlib.Core.Path.{◌≡◌, refl, ap, sym, ◌∙◌}
use mathlib.Core.Logic.{◌≢◌}
use mathlib.Core.Bool.{Bool, true, false, false≢true}
use mathlib.Core.List.{List, [], ◌∷◌}
use mathlib.Core.Option.{Option, none, some, some-ne-none}
use lib.Dec.{leb}
use lib.ListN.{length}
use borrow.Author.Tests.{le-leb, lt-leb}
use native.Mathlib.Omega.{arith}
use Prim.Native.Nat.{ℕ, zero, suc, ◌+◌, ◌-◌, ◌≤◌, ◌<◌}
use Rattle.tree.specs.Codes.{code_of}
use Rattle.tree.specs.Tree.{count_in}
use Rattle.tree.specs.State.{State, keys_of, is_in, key_end, Sound, Outcome, delete}
use Rattle.tree.specs.Spans.{first_from, within, span_of, keys_from, delete_each, delete_span}
use Rattle.tree.proofs.Tests.{either_way, same_or_not, one_same, one_other}
use Rattle.tree.proofs.Order.{All, Rising}
use Rattle.tree.proofs.SoundStates.{sound_total}
use Rattle.tree.proofs.Updated.{DeleteSays, absent, removed, delete_says, delete_codes, delete_sound, is_in_once}
use Rattle.tree.proofs.Moves.{held_in, nodes_held, delete_moves}
use Rattle.tree.proofs.Spans.{keys_rise, key_small}

-- What is within a span

pub inside : (a b k : ℕ) → a ≤ k → k ≤ b → within a b k ≡ true
inside a b k h i = cc (le-leb a k h, le-leb k b i)

pub below_it : (a b k : ℕ) → k < a → within a b k ≡ false
below_it a b k h = cc (lt-leb a k h)

pub above_it : (a b k : ℕ) → b < k → within a b k ≡ false
above_it a b k h = go (leb a k) refl
  where
    go : (t : Bool) → leb a k ≡ t → within a b k ≡ false
    go true e = cc (e, lt-leb k b h)
    go false e = cc e

pub within_or_not : {A : Type 0} (a b k : ℕ) → (a ≤ k → k ≤ b → A) → (within a b k ≡ false → A) → A
within_or_not a b k f g = either_way a k (λ h. either_way k b (λ i. f h i) (λ i. g (above_it a b k i))) (λ h. g (below_it a b k h))

span_in : (a b k : ℕ) (ks : List ℕ) → a ≤ k → k ≤ b → span_of a b (k ∷ ks) ≡ k ∷ span_of a b ks
unfolding span_of
span_in a b k ks h i = rw (inside a b k h i, span_of)

span_out : (a b k : ℕ) (ks : List ℕ) → within a b k ≡ false → span_of a b (k ∷ ks) ≡ span_of a b ks
unfolding span_of
span_out a b k ks e = rw (e, span_of)

-- The span of a list

pub span_crossed : (a b : ℕ) (ks : List ℕ) → b < a → span_of a b ks ≡ []
unfolding span_of
span_crossed a b [] h = refl
span_crossed a b (k ∷ ks) h = span_out a b k ks (either_way a k (λ i. above_it a b k (omega arith)) (λ i. below_it a b k i)) ∙ span_crossed a b ks h

span_past_all : (x b c : ℕ) (ks : List ℕ) → All (λ z. c < z) ks → b ≤ c → span_of x b ks ≡ []
unfolding span_of All
span_past_all x b c [] a h = refl
span_past_all x b c (k ∷ ks) a h = let i : c < k = a.0 in span_out x b k ks (above_it x b k (omega arith)) ∙ span_past_all x b c ks a.1 h

first_from_lem : (x k j : ℕ) (ks : List ℕ) → first_from x (j ∷ ks) ≡ some k → x ≤ j → j ≡ k
unfolding first_from
first_from_lem x k j ks e h = let d : some j ≡ some k = rw (le-leb x j h, first_from) at e in cc

first_after : {o : Option ℕ} (x j : ℕ) (ks : List ℕ) → first_from x (j ∷ ks) ≡ o → j < x → first_from x ks ≡ o
unfolding first_from
first_after x j ks e h = rw (lt-leb x j h, first_from) at e

first_at : (x k : ℕ) (ks : List ℕ) → first_from x ks ≡ some k → x ≤ k
unfolding first_from
first_at x k [] e = absurd (some-ne-none k (sym e))
first_at x k (j ∷ ks) e = either_way x j
    (λ h. let d = first_from_lem x k j ks e h in omega arith)
    (λ h. first_at x k ks (first_after x j ks e h))

pub span_none_from : (x b : ℕ) (ks : List ℕ) → first_from x ks ≡ none → span_of x b ks ≡ []
unfolding span_of first_from
span_none_from x b [] e = refl
span_none_from x b (k ∷ ks) e = either_way x k
    (λ h. absurd (some-ne-none k (rw (le-leb x k h, first_from) at e)))
    (λ h. span_out x b k ks (below_it x b k h) ∙ span_none_from x b ks (first_after x k ks e h))

pub span_past : (x b k : ℕ) (ks : List ℕ) → Rising ks → first_from x ks ≡ some k → b < k → span_of x b ks ≡ []
unfolding span_of Rising
span_past x b k [] r e h = refl
span_past x b k (j ∷ ks) r e h = either_way x j
    (λ i. let d = first_from_lem x k j ks e i in span_out x b j ks (above_it x b j (omega arith)) ∙ span_past_all x b j ks r.0 (omega arith))
    (λ i. span_out x b j ks (below_it x b j i) ∙ span_past x b k ks r.1 (first_after x j ks e i) h)

-- above k the span may as well begin after it
span_raised : (x k b : ℕ) (ks : List ℕ) → All (λ z. k < z) ks → x ≤ suc k → span_of x b ks ≡ span_of (suc k) b ks
unfolding span_of All
span_raised x k b [] a h = refl
span_raised x k b (j ∷ ks) a h =
    let i : k < j = a.0 in
    either_way j b
    (λ l. span_in x b j ks (omega arith) l ∙ (ap (λ (ms : List ℕ). j ∷ ms) (span_raised x k b ks a.1 h) ∙ sym (span_in (suc k) b j ks (omega arith) l)))
    (λ l. span_out x b j ks (above_it x b j l) ∙ (span_raised x k b ks a.1 h ∙ sym (span_out (suc k) b j ks (above_it (suc k) b j l))))

pub span_first : (x b k : ℕ) (ks : List ℕ) → Rising ks → first_from x ks ≡ some k → k ≤ b → span_of x b ks ≡ k ∷ span_of (suc k) b ks
unfolding Rising first_from
span_first x b k [] r e h = absurd (some-ne-none k (sym e))
span_first x b k (j ∷ ks) r e h = either_way x j
    (λ i. here i ∙ ap (λ (m : ℕ). m ∷ span_of (suc m) b (j ∷ ks)) (first_from_lem x k j ks e i))
    (λ i.
    span_out x b j ks (below_it x b j i)
    ∙ (span_first x b k ks r.1 (first_after x j ks e i) h
    ∙ ap (λ (ms : List ℕ). k ∷ ms) (sym (span_out (suc k) b j ks (below_it (suc k) b j (omega (arith, first_at x k ks (first_after x j ks e i))))))))
  where
    here : x ≤ j → span_of x b (j ∷ ks) ≡ j ∷ span_of (suc j) b (j ∷ ks)
    here i =
        let d = first_from_lem x k j ks e i in
        span_in x b j ks i (omega arith)
        ∙ ap (λ (ms : List ℕ). j ∷ ms) (span_raised x j b ks r.0 (omega arith) ∙ sym (span_out (suc j) b j ks (below_it (suc j) b j (omega arith))))

-- Lists that rise and have the same numbers

none_here : (y : ℕ) (ks : List ℕ) → All (λ z. y < z) ks → count_in y ks ≡ 0
unfolding All count_in
none_here y [] a = refl
none_here y (z ∷ ks) a = let i : y < z = a.0 in omega (arith, one_other y z (omega arith), none_here y ks a.1)

all_from : (y z : ℕ) (ks : List ℕ) → y < z → All (λ u. z < u) ks → All (λ u. y < u) ks
unfolding All
all_from y z [] h a = tt
all_from y z (u ∷ ks) h a = let i : z < u = a.0 in (omega arith, all_from y z ks h a.1)

pub rising_same : (ks ms : List ℕ) → Rising ks → Rising ms → ((y : ℕ) → count_in y ks ≡ count_in y ms) → ks ≡ ms
unfolding Rising count_in
rising_same [] [] r s f = refl
rising_same [] (m ∷ ms) r s f = absurd (omega (arith, f m, one_same m m refl))
rising_same (k ∷ ks) [] r s f = absurd (omega (arith, f k, one_same k k refl))
rising_same (k ∷ ks) (m ∷ ms) r s f = same_or_not k m
    (λ e. let rest = rising_same ks ms r.1 s.1 (λ y. omega (arith, f y, ap (λ (z : ℕ). count_in y (z ∷ [])) e)) in cc)
    (λ n. either_way k m
    (λ h. absurd (omega (arith, f k, one_same k k refl, one_other k m n, none_here k ms (all_from k m ms (omega arith) s.0))))
    (λ h. absurd (omega (arith, f m, one_same m m refl, one_other m k (λ e. n (sym e)), none_here m ks (all_from m k ks h r.0)))))

-- A span has the numbers of its list that are within it, and rises as the list does.

pub span_inside : (y a b : ℕ) (ks : List ℕ) → a ≤ y → y ≤ b → count_in y (span_of a b ks) ≡ count_in y ks
unfolding span_of count_in
span_inside y a b [] h i = refl
span_inside y a b (k ∷ ks) h i = within_or_not a b k
    (λ l u. rw (span_in a b k ks l u) (omega (arith, span_inside y a b ks h i)))
    (λ e. rw (span_out a b k ks e) (omega (arith, span_inside y a b ks h i, one_other y k (λ z. false≢true (sym e ∙ (ap (within a b) (sym z) ∙ inside a b y h i))))))

pub span_outside : (y a b : ℕ) (ks : List ℕ) → within a b y ≡ false → count_in y (span_of a b ks) ≡ 0
unfolding span_of count_in
span_outside y a b [] e = refl
span_outside y a b (k ∷ ks) e = within_or_not a b k
    (λ l u. rw (span_in a b k ks l u) (omega (arith, span_outside y a b ks e, one_other y k (λ z. false≢true (sym e ∙ (ap (within a b) z ∙ inside a b k l u))))))
    (λ f. rw (span_out a b k ks f) (span_outside y a b ks e))

span_all : (a b c : ℕ) (ks : List ℕ) → All (λ z. c < z) ks → All (λ z. c < z) (span_of a b ks)
unfolding span_of All
span_all a b c [] h = tt
span_all a b c (k ∷ ks) h = within_or_not a b k
    (λ l u. rw (span_in a b k ks l u) (h.0, span_all a b c ks h.1))
    (λ e. rw (span_out a b k ks e) (span_all a b c ks h.1))

pub span_rises : (a b : ℕ) (ks : List ℕ) → Rising ks → Rising (span_of a b ks)
unfolding span_of Rising
span_rises a b [] r = tt
span_rises a b (k ∷ ks) r = within_or_not a b k
    (λ l u. rw (span_in a b k ks l u) (span_all a b k ks r.0, span_rises a b ks r.1))
    (λ e. rw (span_out a b k ks e) (span_rises a b ks r.1))

span_few : (a b : ℕ) (ks : List ℕ) → length (span_of a b ks) ≤ length ks
unfolding span_of
span_few a b [] = omega arith
span_few a b (k ∷ ks) = within_or_not a b k
    (λ l u. rw (span_in a b k ks l u) (omega (arith, span_few a b ks)))
    (λ e. rw (span_out a b k ks e) (omega (arith, span_few a b ks)))

-- no more than the pool has slots
pub span_fits : (a b : ℕ) (S : State) → Sound S → length (keys_from a b S) ≤ S.slots
span_fits a b S g = omega (arith, span_few a b (keys_of S.top), nodes_held S.top, sound_total g)

-- One delete

delete_self : (k : ℕ) (S : State) → Sound S → is_in k (delete k S).after ≡ 0
delete_self k S g = go (delete_says k S g)
  where
    go : {o : Outcome} → DeleteSays k S o → is_in k o.after ≡ 0
    go (absent i) = i
    go (removed i n f) = omega (arith, f k, one_same k k refl)

delete_other : (y k : ℕ) (S : State) → Sound S → y ≢ k → is_in y (delete k S).after ≡ is_in y S
delete_other y k S g d = go (delete_says k S g)
  where
    go : {o : Outcome} → DeleteSays k S o → is_in y o.after ≡ is_in y S
    go (absent i) = refl
    go (removed i n f) = omega (arith, f y, one_other y k d)

delete_done : (k : ℕ) (S : State) → Sound S → is_in k S ≡ 1 → code_of (delete k S).answer ≡ 0
delete_done k S g h = (delete_codes k S g).done.1 h

-- After the first key of a span went, the rest of it is what it was.
pub span_after : (x k b : ℕ) (S : State) → Sound S → first_from x (keys_of S.top) ≡ some k → keys_from (suc k) b (delete k S).after ≡ keys_from (suc k) b S
span_after x k b S g e = rising_same
    (keys_from (suc k) b T)
    (keys_from (suc k) b S)
    (span_rises (suc k) b (keys_of T.top) (keys_rise T (delete_sound k S g)))
    (span_rises (suc k) b (keys_of S.top) (keys_rise S g))
    same
  where
    T : State
    T = (delete k S).after

    same : (y : ℕ) → count_in y (keys_from (suc k) b T) ≡ count_in y (keys_from (suc k) b S)
    same y = within_or_not (suc k) b y
        (λ h i. span_inside y (suc k) b (keys_of T.top) h i ∙ (delete_other y k S g (omega arith) ∙ sym (span_inside y (suc k) b (keys_of S.top) h i)))
        (λ f. span_outside y (suc k) b (keys_of T.top) f ∙ sym (span_outside y (suc k) b (keys_of S.top) f))

-- Several, one after the other

pub each_sound : (ks : List ℕ) (S : State) → Sound S → Sound (delete_each ks S)
unfolding delete_each
each_sound [] S g = g
each_sound (k ∷ ks) S g = each_sound ks (delete k S).after (delete_sound k S g)

each_slots : (ks : List ℕ) (S : State) → Sound S → (delete_each ks S).slots ≡ S.slots
unfolding delete_each
each_slots [] S g = refl
each_slots (k ∷ ks) S g = each_slots ks (delete k S).after (delete_sound k S g) ∙ (delete_moves k S g).slots_stay

-- no other key moves
each_other : (y : ℕ) (ks : List ℕ) (S : State) → Sound S → count_in y ks ≡ 0 → is_in y (delete_each ks S) ≡ is_in y S
unfolding delete_each count_in
each_other y [] S g z = refl
each_other y (k ∷ ks) S g z =
    each_other y ks (delete k S).after (delete_sound k S g) (omega arith)
    ∙ delete_other y k S g (λ e. absurd (omega (arith, one_same y k e)))

-- what is not there stays away
each_away : (y : ℕ) (ks : List ℕ) (S : State) → Sound S → is_in y S ≡ 0 → is_in y (delete_each ks S) ≡ 0
unfolding delete_each
each_away y [] S g z = z
each_away y (k ∷ ks) S g z = each_away y ks (delete k S).after (delete_sound k S g) (same_or_not y k
    (λ e. rw e (delete_self k S g))
    (λ d. delete_other y k S g d ∙ z))

each_gone : (y : ℕ) (ks : List ℕ) (S : State) → Sound S → 1 ≤ count_in y ks → is_in y (delete_each ks S) ≡ 0
unfolding delete_each count_in
each_gone y [] S g h = absurd (omega arith)
each_gone y (k ∷ ks) S g h = same_or_not y k
    (λ e. each_away y ks (delete k S).after (delete_sound k S g) (rw e (delete_self k S g)))
    (λ d. each_gone y ks (delete k S).after (delete_sound k S g) (omega (arith, one_other y k d)))

-- Of keys that are there and rise, each goes.
Present : State → List ℕ → Type 0
Present S = All (λ k. is_in k S ≡ 1)

present_after : (k : ℕ) (ks : List ℕ) (S : State) → Sound S → All (λ z. k < z) ks → Present S ks → Present (delete k S).after ks
unfolding All Present
present_after k [] S g a h = tt
present_after k (j ∷ ks) S g a h =
    let i : k < j = a.0 in
    (delete_other j k S g (λ e. absurd (omega arith)) ∙ h.0, present_after k ks S g a.1 h.1)

each_held : (ks : List ℕ) (S : State) → Sound S → Rising ks → Present S ks → held_in S ≡ length ks + held_in (delete_each ks S)
unfolding delete_each Rising All Present
each_held [] S g r h = omega arith
each_held (k ∷ ks) S g r h =
    omega (
      arith,
      (delete_moves k S g).by_one (delete_done k S g h.0),
      each_held ks (delete k S).after (delete_sound k S g) r.1 (present_after k ks S g r.0 h.1),
    )

all_of : (P : ℕ → Type 0) (ks : List ℕ) → ((y : ℕ) → 1 ≤ count_in y ks → P y) → All P ks
unfolding All count_in
all_of P [] f = tt
all_of P (k ∷ ks) f = (f k (omega (arith, one_same k k refl)), all_of P ks (λ y h. f y (omega arith)))

span_present : (a b : ℕ) (S : State) → Sound S → Present S (keys_from a b S)
unfolding Present
span_present a b S g = all_of (λ k. is_in k S ≡ 1) (keys_from a b S) there
  where
    there : (y : ℕ) → 1 ≤ count_in y (keys_from a b S) → is_in y S ≡ 1
    there y h = within_or_not a b y
        (λ l u. omega (arith, span_inside y a b (keys_of S.top) l u, is_in_once y S g))
        (λ e. absurd (omega (arith, span_outside y a b (keys_of S.top) e)))

-- each is a 32-bit number
pub span_small : (a b : ℕ) (S : State) → Sound S → All (λ k. k < key_end) (keys_from a b S)
span_small a b S g = all_of (λ k. k < key_end) (keys_from a b S) small
  where
    small : (y : ℕ) → 1 ≤ count_in y (keys_from a b S) → y < key_end
    small y h = within_or_not a b y
        (λ l u. key_small y S g (omega (arith, span_inside y a b (keys_of S.top) l u)))
        (λ e. absurd (omega (arith, span_outside y a b (keys_of S.top) e)))

-- A span

pub span_sound : (a b : ℕ) (S : State) → Sound S → Sound (delete_span a b S).after
unfolding delete_span
span_sound a b S g = each_sound (keys_from a b S) S g

pub span_slots : (a b : ℕ) (S : State) → Sound S → (delete_span a b S).after.slots ≡ S.slots
unfolding delete_span
span_slots a b S g = each_slots (keys_from a b S) S g

pub span_members : (y a b : ℕ) (S : State) → Sound S → is_in y (delete_span a b S).after ≡ elim (within a b y) [ true ↦ 0 | false ↦ is_in y S ]
unfolding delete_span
span_members y a b S g = within_or_not a b y
    (λ h i. rw (inside a b y h i) (gone h i))
    (λ e. rw e (each_other y (keys_from a b S) S g (span_outside y a b (keys_of S.top) e)))
  where
    gone : a ≤ y → y ≤ b → is_in y (delete_each (keys_from a b S) S) ≡ 0
    gone h i = same_or_not (is_in y S) 0
        (λ z. each_away y (keys_from a b S) S g z)
        (λ d. each_gone y (keys_from a b S) S g (omega (arith, span_inside y a b (keys_of S.top) h i)))

pub span_held : (a b : ℕ) (S : State) → Sound S → length (keys_of S.top) ≡ length (keys_from a b S) + length (keys_of (delete_span a b S).after.top)
unfolding delete_span
span_held a b S g = each_held (keys_from a b S) S g (span_rises a b (keys_of S.top) (keys_rise S g)) (span_present a b S g)

pub span_none : (a b : ℕ) (S : State) → length (keys_from a b S) ≡ 0 → (delete_span a b S).after ≡ S
unfolding delete_span delete_each
span_none a b S = go (keys_from a b S)
  where
    go : (ks : List ℕ) → length ks ≡ 0 → delete_each ks S ≡ S
    go [] e = refl
    go (k ∷ ks) e = absurd (omega arith)

-- A span has as many keys as there are numbers from a to b in the list, each as often as it stands there.

-- how often the n numbers from x on stand in a list
unfoldable pub times_from : (n x : ℕ) → List ℕ → ℕ
times_from zero x ks = 0
times_from (suc n) x ks = count_in x ks + times_from n (suc x) ks

times_none : (n x : ℕ) → times_from n x [] ≡ 0
unfolding times_from count_in
times_none zero x = refl
times_none (suc n) x = omega (arith, times_none n (suc x))

times_other : (n x k : ℕ) (ks : List ℕ) → ((y : ℕ) → x ≤ y → y < x + n → y ≢ k) → times_from n x (k ∷ ks) ≡ times_from n x ks
unfolding times_from count_in
times_other zero x k ks f = refl
times_other (suc n) x k ks f =
    omega (arith, one_other x k (f x (omega arith) (omega arith)), times_other n (suc x) k ks (λ y h i. f y (omega arith) (omega arith)))

times_one : (n x k : ℕ) (ks : List ℕ) → x ≤ k → k < x + n → times_from n x (k ∷ ks) ≡ times_from n x ks + 1
unfolding times_from count_in
times_one zero x k ks h i = absurd (omega arith)
times_one (suc n) x k ks h i = same_or_not x k
    (λ e. omega (arith, one_same x k e, times_other n (suc x) k ks (λ y l u d. absurd (omega arith))))
    (λ d. omega (arith, one_other x k d, times_one n (suc x) k ks (omega arith) (omega arith)))

pub span_times : (a b : ℕ) (ks : List ℕ) → length (span_of a b ks) ≡ times_from (suc b - a) a ks
unfolding span_of
span_times a b [] = sym (times_none (suc b - a) a)
span_times a b (k ∷ ks) = within_or_not a b k
    (λ l u. rw (span_in a b k ks l u) (omega (arith, span_times a b ks, times_one (suc b - a) a k ks l (omega arith))))
    (λ e.
    rw (span_out a b k ks e)
    (span_times a b ks ∙ sym (times_other (suc b - a) a k ks (λ y l u d. false≢true (sym e ∙ (ap (within a b) (sym d) ∙ inside a b y l (omega arith)))))))
