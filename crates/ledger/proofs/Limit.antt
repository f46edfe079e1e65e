-- **No more than the allowed number of texts.** Over any sequence of the send limit's calls, from any pool that passes the audit, with whatever else
-- between them that takes no mark of theirs away, notice n and resident r get at most m yes answers since the notice was last cleared, if each of
-- those was given under a limit of at most m (`texts_at_most`).
-- Why: a yes under a limit of at most m adds a mark among attempts 1 to m, nothing takes one away but a clearing, after which there is none and
-- the count begins afresh; so the answers are never more than the marks among attempts 1 to m, of which there are at most m. Assumes nothing.
use mathlib.Core.Path.{◌≡◌, refl, sym, ◌∙◌}
use mathlib.Core.Bool.{Bool, true, false, false≢true, ◌||◌}
use mathlib.Core.List.{List, [], ◌∷◌, ◌++◌}
use borrow.Author.Tests.{eqb-true, eq-eqb}
use native.Mathlib.Omega.{arith}
use native.Mathlib.Decide.{dec_le, ℕ_discrete}
use Prim.Native.Nat.{ℕ, zero, suc, ◌+◌, ◌≤◌, ◌<◌}
use Rattle.set.specs.Operations.{code_of, number_of}
use Rattle.set.specs.Set.{Passing, member, OneMore}
use Rattle.set.proofs.Promises.{passing_words, member_once, more_here, more_elsewhere}
use Rattle.ledger.specs.Ledger.{most_resident, most_attempts, mark_key, may_send, clear_notice}
use Rattle.ledger.specs.Sends.{ArgumentsIn, IsMark, marks_to}
use Rattle.ledger.specs.Sequences.{LedgerCall, send_call_case, clear_call_case, send_call, clear_call, clears, is_yes, texts_after, texts_from, texts, Within, cleared_in, AllWithin, KeepsMarks, Sending, no_send, then_send, then_clear, then_other}
use Rattle.ledger.proofs.Arguments.{both, key_once}
use Rattle.ledger.proofs.Sending.{send_passing, send_says, send_refused}
use Rattle.ledger.proofs.Clearing.{clear_passing, clear_says, clear_refused}

-- The marks among attempts 1 to m.
module _ (n r : ℕ) where
  marks_few : {p : List ℕ} → Passing p → (m : ℕ) → marks_to m n r p ≤ m
  unfolding marks_to
  marks_few g zero = omega arith
  marks_few g (suc m) = omega (arith, marks_few g m, member_once g (mark_key n r (suc m)))

  -- after a clearing there is none
  marks_none : (p : List ℕ) (m : ℕ) → ((a : ℕ) → 1 ≤ a → a ≤ m → member (mark_key n r a) p ≡ 0) → marks_to m n r p ≡ 0
  unfolding marks_to
  marks_none p zero h = refl
  marks_none p (suc m) h = omega (arith, marks_none p m (λ a i j. h a i (omega arith)), h (suc m) (omega arith) (omega arith))

  module _ (p q : List ℕ) (keeps : KeepsMarks n r p q) where
    -- marks that are kept stay as many
    marks_kept : (m : ℕ) → m ≤ most_attempts → marks_to m n r p ≤ marks_to m n r q
    unfolding marks_to
    marks_kept zero h = omega arith
    marks_kept (suc m) h = omega (arith, marks_kept m (omega arith), keeps (suc m) (omega arith) h)

    -- and one more among them is one more
    marks_more : (a m : ℕ) → 1 ≤ a → a ≤ m → m ≤ most_attempts → member (mark_key n r a) q ≡ member (mark_key n r a) p + 1
        → marks_to m n r p + 1 ≤ marks_to m n r q
    unfolding marks_to
    marks_more a zero i j h e = absurd (omega arith)
    marks_more a (suc m) i j h e = go (ℕ_discrete a (suc m)) (λ b. marks_more a m i b (omega arith) e)
      where
        go : Dec (a ≡ suc m) → (a ≤ m → marks_to m n r p + 1 ≤ marks_to m n r q) → marks_to (suc m) n r p + 1 ≤ marks_to (suc m) n r q
        go (yes same) later = omega (arith, rw same at e, marks_kept m (omega arith))
        go (no other) later = omega (arith, later (omega arith), keeps (suc m) (omega arith) h)

-- One key more takes none away.
more_keeps : {x : ℕ} {p q : List ℕ} → OneMore x p q → (y : ℕ) → member y p ≤ member y q
more_keeps {x} {p} {q} m y = go (ℕ_discrete y x)
  where
    go : Dec (y ≡ x) → member y p ≤ member y q
    go (yes e) = rw e (omega (arith, more_here m))
    go (no d) = omega (arith, more_elsewhere m y d)

-- May send takes no mark away.
send_keeps : {q : List ℕ} → Passing q → (o s l n r : ℕ) → KeepsMarks n r q (may_send q o s l).left
send_keeps {q} g o s l n r a i j = go (ℕ_discrete (code_of (may_send q o s l).answer) 0)
  where
    go : Dec (code_of (may_send q o s l).answer ≡ 0) → member (mark_key n r a) q ≤ member (mark_key n r a) (may_send q o s l).left
    go (yes e) = more_keeps (send_says q o s l (passing_words g) e).one_more (mark_key n r a)
    go (no d) = rw (send_refused q o s l (passing_words g) d).1 (omega arith)

-- Clearing takes none of another notice's marks away, and a refused one none at all.
clear_keeps : {q : List ℕ} → Passing q → (o n r : ℕ) → r ≤ most_resident → ((o ≡ n) → code_of (clear_notice q o).answer ≡ 0 → ⊥) → KeepsMarks n r q (clear_notice q o).left
clear_keeps {q} g o n r h apart a i j = go (ℕ_discrete (code_of (clear_notice q o).answer) 0)
  where
    go : Dec (code_of (clear_notice q o).answer ≡ 0) → member (mark_key n r a) q ≤ member (mark_key n r a) (clear_notice q o).left
    go (yes e) =
        let other : IsMark o (mark_key n r a) → ⊥ = λ m. apart (sym (key_once n r a o m.resident m.attempt h j m.resident_in m.to_last m.key_is).0) e in
        omega (arith, (clear_says q o (passing_words g) e).others_stay (mark_key n r a) other)
    go (no d) = rw (clear_refused q o (passing_words g) d).1 (omega arith)

-- The calls one after the other.
texts_append : (n r k : ℕ) (cs ds : List LedgerCall) → texts_from n r k (cs ++ ds) ≡ texts_from n r (texts_from n r k cs) ds
unfolding texts_from
texts_append n r k [] ds = refl
texts_append n r k (c ∷ cs) ds = texts_append n r (texts_after n r k c) cs ds

-- of an `or` that is false
neither : (a b : Bool) → (a || b) ≡ false → (a ≡ false) × (b ≡ false)
neither false b h = (refl, h)
neither true b h = absurd (false≢true (sym h))

-- one call more, which does not clear the notice
cleared_not : (n : ℕ) (cs : List LedgerCall) (c : LedgerCall) → cleared_in n cs ≡ false → clears n c ≡ false → cleared_in n (cs ++ (c ∷ [])) ≡ false
unfolding cleared_in
cleared_not n [] c h e = rw e
cleared_not n (d ∷ cs) c h e = let f = neither (clears n d) (cleared_in n cs) h in rw f.0 (cleared_not n cs c f.1 e)

within_more : (n r m : ℕ) (cs : List LedgerCall) (c : LedgerCall) → clears n c ≡ false → AllWithin n r m (cs ++ (c ∷ [])) → AllWithin n r m cs × Within n r m c
unfolding AllWithin cleared_in
within_more n r m [] c e h = (tt, h.0 refl)
within_more n r m (d ∷ cs) c e h = let t = within_more n r m cs c e h.1 in ((λ z. h.0 (cleared_not n cs c z e), t.0), t.1)

cleared_before : (n : ℕ) (cs : List LedgerCall) (c : LedgerCall) → cleared_in n (cs ++ (c ∷ [])) ≡ false → cleared_in n cs ≡ false
unfolding cleared_in
cleared_before n [] c h = refl
cleared_before n (d ∷ cs) c h = let f = neither (clears n d) (cleared_in n (cs ++ (c ∷ []))) h in rw f.0 (cleared_before n cs c f.1)

all_within_lem : (n r m : ℕ) (cs : List LedgerCall) (c : LedgerCall) → AllWithin n r m cs → Within n r m c → AllWithin n r m (cs ++ (c ∷ []))
unfolding AllWithin
all_within_lem n r m [] c v w = (λ z. w, tt)
all_within_lem n r m (d ∷ cs) c v w = (λ z. v.0 (cleared_before n cs c z), all_within_lem n r m cs c v.1 w)

pub sending_passing : {n r : ℕ} {p q : List ℕ} {calls : List LedgerCall} → Passing p → Sending n r p calls q → Passing q
sending_passing g no_send = g
sending_passing g (then_send {q = q} before o s l) = let h = sending_passing g before in send_passing q o s l (passing_words h) h
sending_passing g (then_clear {q = q} before o) = let h = sending_passing g before in clear_passing q o (passing_words h) h
sending_passing g (then_other before h k) = h

-- What a call does to the count.
module _ (n r k : ℕ) where
  texts_afresh : (c : LedgerCall) → clears n c ≡ true → texts_after n r k c ≡ 0
  unfolding texts_after
  texts_afresh c e = rw (e, texts_after)

  texts_more : (c : LedgerCall) → clears n c ≡ false → is_yes n r c ≡ true → texts_after n r k c ≡ suc k
  unfolding texts_after
  texts_more c e f = rw (e, texts_after, f)

  texts_same : (c : LedgerCall) → clears n c ≡ false → is_yes n r c ≡ false → texts_after n r k c ≡ k
  unfolding texts_after
  texts_same c e f = rw (e, texts_after, f)

-- a yes of theirs, by its arguments and its code
yes_is : (n r o s l code a : ℕ) → is_yes n r (send_call_case o s l code a) ≡ true → (o ≡ n) × (s ≡ r) × (code ≡ 0)
unfolding is_yes
yes_is n r o s l code a h =
    let x = both _ _ h in
    let y = both _ _ x.0 in
    (eqb-true o n y.0, eqb-true s r y.1, eqb-true code 0 x.1)

clearing_is : (n o code a : ℕ) → clears n (clear_call_case o code a) ≡ false → o ≡ n → code ≡ 0 → ⊥
unfolding clears
clearing_is n o code a h e z = false≢true (sym h ∙ rw (eq-eqb _ _ e, eq-eqb _ _ z))

-- One call: the answers are still no more than the marks.
module _ (n r m : ℕ) (resident : r ≤ most_resident) (few : m ≤ most_attempts) {q : List ℕ} (g : Passing q) (k : ℕ) where
  send_within : k ≤ marks_to m n r q → (o s l : ℕ) → Within n r m (send_call q o s l) → texts_after n r k (send_call q o s l) ≤ marks_to m n r (may_send q o s l).left
  unfolding clears Within
  send_within held o s l w = go (is_yes n r (send_call q o s l)) refl
    where
      go : (b : Bool) → is_yes n r (send_call q o s l) ≡ b → texts_after n r k (send_call q o s l) ≤ marks_to m n r (may_send q o s l).left
      go true e =
          let (f, h, z) = yes_is n r o s l _ _ e in
          let t = send_says q o s l (passing_words g) z in
          let a = number_of (may_send q o s l).answer in
          let here : member (mark_key n r a) (may_send q o s l).left ≡ member (mark_key n r a) q + 1 = rw (← f, ← h) (more_here t.one_more) in
          let more = marks_more n r q _ (send_keeps g o s l n r) a m t.attempt_is.from_one (omega (arith, t.attempt_is.to_limit, w f h z)) few here in
          omega (arith, texts_more n r k (send_call q o s l) refl e, more)
      go false e = omega (arith, texts_same n r k (send_call q o s l) refl e, marks_kept n r q _ (send_keeps g o s l n r) m few)

  -- cleared, there is none; else the marks are as many as before
  clear_within : (o : ℕ) → (clears n (clear_call q o) ≡ false → k ≤ marks_to m n r q) → texts_after n r k (clear_call q o) ≤ marks_to m n r (clear_notice q o).left
  unfolding is_yes
  clear_within o held = go (clears n (clear_call q o)) refl
    where
      go : (b : Bool) → clears n (clear_call q o) ≡ b → texts_after n r k (clear_call q o) ≤ marks_to m n r (clear_notice q o).left
      go true e = omega (arith, texts_afresh n r k (clear_call q o) e)
      go false e =
          let kept = marks_kept n r q _ (clear_keeps g o n r resident (clearing_is n o _ _ e)) m few in
          omega (arith, texts_same n r k (clear_call q o) e refl, held e, kept)

-- with a resident and a limit in their ranges
module _ {n r m : ℕ} (resident : r ≤ most_resident) (few : m ≤ most_attempts) {p : List ℕ} (g : Passing p) where
  texts_marked : {q : List ℕ} {calls : List LedgerCall} → Sending n r p calls q → AllWithin n r m calls → texts n r calls ≤ marks_to m n r q
  unfolding texts_from clears
  texts_marked no_send w = omega arith
  texts_marked (then_send {calls} {q} before o s l) w =
      let t = within_more n r m calls (send_call q o s l) refl w in
      rw (texts_append n r 0 calls (send_call q o s l ∷ []))
      (send_within n r m resident few (sending_passing g before) (texts n r calls) (texts_marked before t.0) o s l t.1)
  texts_marked (then_clear {calls} {q} before o) w =
      rw (texts_append n r 0 calls (clear_call q o ∷ []))
      (clear_within n r m resident few (sending_passing g before) (texts n r calls) o (λ e. texts_marked before (within_more n r m calls (clear_call q o) e w).0))
  texts_marked (then_other {q = q} {s = s} before h keeps) w = omega (arith, marks_kept n r q s keeps m few, texts_marked before w)

-- A yes has its arguments in their ranges: so every limit is at most 7, and a resident outside his range gets none.
module _ {n r : ℕ} {p : List ℕ} (g : Passing p) where
  ranges : {q : List ℕ} {calls : List LedgerCall} → Sending n r p calls q → (o s l : ℕ) → code_of (may_send q o s l).answer ≡ 0 → ArgumentsIn o s l
  ranges {q} before o s l z = (send_says q o s l (passing_words (sending_passing g before)) z).arguments_in

  within_most : {q : List ℕ} {calls : List LedgerCall} → Sending n r p calls q → AllWithin n r most_attempts calls
  unfolding AllWithin Within
  within_most no_send = tt
  within_most (then_send {calls} {q} before o s l) = all_within_lem n r most_attempts calls (send_call q o s l) (within_most before) (λ e f z. (ranges before o s l z).few)
  within_most (then_clear {calls} {q} before o) = all_within_lem n r most_attempts calls (clear_call q o) (within_most before) tt
  within_most (then_other before h keeps) = within_most before

  none_outside : {q : List ℕ} {calls : List LedgerCall} → most_resident < r → Sending n r p calls q → texts n r calls ≡ 0
  unfolding texts_from clears is_yes
  none_outside far no_send = refl
  none_outside far (then_send {calls} {q} before o s l) =
      rw (texts_append n r 0 calls (send_call q o s l ∷ []), none_outside far before) (go (is_yes n r (send_call q o s l)) refl)
    where
      go : (b : Bool) → is_yes n r (send_call q o s l) ≡ b → texts_after n r 0 (send_call q o s l) ≡ 0
      go true e = let (f, h, z) = yes_is n r o s l (code_of (may_send q o s l).answer) (number_of (may_send q o s l).answer) e in absurd (omega (arith, h, (ranges before o s l z).resident_in))
      go false e = texts_same n r 0 (send_call q o s l) refl e
  none_outside far (then_clear {calls} {q} before o) = rw (texts_append n r 0 calls (clear_call q o ∷ []), none_outside far before) (go (clears n (clear_call q o)) refl)
    where
      go : (b : Bool) → clears n (clear_call q o) ≡ b → texts_after n r 0 (clear_call q o) ≡ 0
      go true e = texts_afresh n r 0 (clear_call q o) e
      go false e = texts_same n r 0 (clear_call q o) e refl
  none_outside far (then_other before h keeps) = none_outside far before

-- any resident, any limit
pub texts_at_most : {n r m : ℕ} {p q : List ℕ} {calls : List LedgerCall} → Passing p → Sending n r p calls q → AllWithin n r m calls → texts n r calls ≤ m
texts_at_most {n} {r} {m} {calls = calls} g sends w = go (dec_le r most_resident) (dec_le m most_attempts)
  where
    few : (k : ℕ) → r ≤ most_resident → k ≤ most_attempts → AllWithin n r k calls → texts n r calls ≤ k
    few k i j v = omega (arith, texts_marked i j g sends v, marks_few n r (sending_passing g sends) k)

    go : Dec (r ≤ most_resident) → Dec (m ≤ most_attempts) → texts n r calls ≤ m
    go (yes i) (yes j) = few m i j w
    go (yes i) (no d) = omega (arith, few most_attempts i (omega arith) (within_most g sends))
    go (no d) j = omega (arith, none_outside g (omega arith) sends)
