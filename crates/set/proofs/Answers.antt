-- Search, the next key, insert, delete, prepare, step and settle on words that pass the audit: what they answer and what set the words then show.
-- Behind the page Promises.antt; not for crates above.
-- Why: on words that show a sound State each operation is the State's (the crates' `…-shows`), of which crate tree says what it answers
-- and which keys it moves, and Members.antt what the words then show. Assumes nothing.
use mathlib.Core.Path.{◌≡◌, refl, ap, sym, ◌∙◌}
use mathlib.Core.Logic.{◌↔◌, ◌≢◌}
use mathlib.Core.Bool.{true}
use mathlib.Core.List.{List}
use lib.ListN.{length}
use native.Mathlib.Omega.{arith}
use Prim.Native.Nat.{ℕ, pred, ◌+◌, ◌*◌, ◌≤◌, ◌<◌}
use Rattle.tree.specs.declared.Answer.{Answer}
use Rattle.tree.specs.declared.Answer.TheVariants.{Done, Refused}
use Rattle.tree.specs.declared.Refusal.{Refusal}
use Rattle.tree.specs.declared.Refusal.TheVariants.{KeyPresent, KeyAbsent, NoRoom}
use Rattle.tree.specs.Codes.{code_of}
use Rattle.tree.specs.Tree.{count_in}
use Rattle.tree.specs.State.{Top, empty, full, nodes, key_end, Sound, Outcome, prepared, keys_of, is_in, slots_needed, report}
use Rattle.tree.proofs.Order.{leaves_keys, nodes_of}
use Rattle.tree.proofs.Updated.{is_in_once, SearchSays, found, missing, InsertSays, present, no_room, added, DeleteSays, absent, removed}
use Rattle.tree.proofs.Updated.{search_says as search-says-state, insert_says as insert-says-state, delete_says as delete-says-state, insert_sound, delete_sound}
use Rattle.tree.proofs.Spans.{NextSays as NextSaysState, next, none_above, next_says as next-says-state}
use Rattle.tree.proofs.StepState.{step_keeps_keys, step_sound_state}
use Rattle.tree.proofs.Settling.{settle_sound_state}
use Rattle.format.specs.Words.{header_of, slots_in, length_good, root_of}
use Rattle.format.specs.Shows.{HoldsTop, PoolShows}
use Rattle.format.proofs.Frame.{holds_root}
use Rattle.format.proofs.Shown.{shows_root, shows_nodes, shows_length_good}
use Rattle.report.specs.Report.{Reported}
use Rattle.report.specs.Report.{report_of}
use Rattle.report.proofs.Exact.{report_exact}
use Rattle.pool.specs.Results.{prepared_words}
use Rattle.pool.proofs.Prepares.{prepared_shows}
use Rattle.updates.specs.Updating.{search_answer, insert_answer, insert_words, delete_answer, delete_words}
use Rattle.updates.proofs.SearchShows.{search_entry}
use Rattle.updates.proofs.InsertShows.{insert_entry}
use Rattle.updates.proofs.DeleteShows.{delete_entry}
use Rattle.spans.specs.Spanning.{next_answer}
use Rattle.spans.proofs.NextShows.{next_entry}
use Rattle.steps.specs.Steps.{step_words, settle_words}
use Rattle.steps.proofs.StepShows.{step_entry}
use Rattle.steps.proofs.SettleShows.{settle_entry}
use Rattle.set.specs.Set.{Passing, member, held, room, needed, OneMore, SameSet, Prepared, Searched, here, nowhere, NextSays, next_is, none_left, Inserted, key_present, room_lacking, inserted, Deleted, key_absent, gone, KeyCodes, InsertCodes}
use Rattle.tree.proofs.Moves.{upwards_length, nodes_held, Moves, insert_moves, delete_moves, step_free, settle_keeps_keys, settle_free}
use Rattle.set.proofs.Members.{member_shown, held_shown, room_shown, needed_shown, room_held, one_more, same_set}
use Rattle.updates.proofs.Kept.{insert_kept, delete_kept}
use Rattle.set.proofs.Passing.{shown}

-- A set: no key is in it twice; and k keys take 2k - 1 slots.
pub member_once : {p : List ℕ} → Passing p → (x : ℕ) → member x p ≤ 1
member_once g x = omega (arith, member_shown (shown g).sound (shown g).shows x, is_in_once x (shown g).state (shown g).sound)

pub room_exact : {p : List ℕ} → Passing p → pred (2 * held p) + room p ≡ slots_in p
room_exact g = room_held (shown g).sound (shown g).shows ∙ sym (shows_length_good (shown g).sound (shown g).shows).1

-- "1 if empty, else 2"
pub needed_exact : {p : List ℕ} → Passing p → (held p ≡ 0 → needed p ≡ 1) × (held p ≢ 0 → needed p ≡ 2)
unfolding keys_of slots_needed
needed_exact {p} g = rw (held_shown (shown g).sound (shown g).shows, needed_shown (shown g).sound (shown g).shows) (go (shown g).state.top)
  where
    go : (t : Top) → (length (keys_of t) ≡ 0 → slots_needed t ≡ 1) × (length (keys_of t) ≢ 0 → slots_needed t ≡ 2)
    go empty = (λ z. refl, λ n. absurd (n refl))
    go (full t) = (λ z. absurd (omega (arith, nodes_of t, leaves_keys t)), λ n. refl)

-- The header's N is the slots that the keys take, and so is the report's first number. "Root is 0 exactly when N is 0", and then there is
-- no key and every slot is free.
module _ {p : List ℕ} (g : Passing p) where
  pub nodes_exact : (header_of p).nodes ≡ pred (2 * held p)
  nodes_exact = omega (arith, shows_nodes (shown g).shows, nodes_held (shown g).state.top, held_shown (shown g).sound (shown g).shows)

  pub report_nodes : (report_of p).figures.nodes ≡ (header_of p).nodes
  unfolding report nodes
  report_nodes = ap (λ (r : Reported). r.figures.nodes) (report_exact (shown g).sound (shown g).shows) ∙ (go (shown g).state.top ∙ sym (shows_nodes (shown g).shows))
    where
      go : (t : Top) → (report t).nodes ≡ nodes t
      go empty = refl
      go (full t) = refl

  pub root_none : ((header_of p).root ≡ 0) ↔ ((header_of p).nodes ≡ 0)
  unfolding root_of nodes HoldsTop
  root_none = rw (shows_root (shown g).shows, shows_nodes (shown g).shows) (go (shown g).state.top (shown g).shows.tree_held)
    where
      go : (t : Top) → HoldsTop p t → (root_of t ≡ 0) ↔ (nodes t ≡ 0)
      go empty h = (λ z. refl, λ z. refl)
      go (full t) h = (λ z. absurd (omega (arith, (holds_root h).from_one)), λ z. absurd (omega (arith, nodes_of t)))

  pub empty_says : (header_of p).nodes ≡ 0 → Prepared p (slots_in p)
  unfolding keys_of count_in
  empty_says z =
      let none : held p ≡ 0 = omega (arith, nodes_exact) in
      record { no_member = λ x. member_shown (shown g).sound (shown g).shows x ∙ go x (shown g).state.top (sym (held_shown (shown g).sound (shown g).shows) ∙ none); none_held = none; all_free = omega (arith, room_exact g) }
    where
      go : (x : ℕ) (t : Top) → length (keys_of t) ≡ 0 → count_in x (keys_of t) ≡ 0
      go x empty h = refl
      go x (full t) h = absurd (omega (arith, nodes_of t, leaves_keys t))

pub prepare_says : (p : List ℕ) → length_good p ≡ true → Prepared (prepared_words p) (slots_in p)
unfolding prepared keys_of count_in
prepare_says p h =
    let s = prepared_shows p h in
    record { no_member = λ x. member_shown s.0 s.1 x; none_held = held_shown s.0 s.1; all_free = room_shown s.0 s.1 ∙ upwards_length 1 (slots_in p) }

pub search_says : {p : List ℕ} → Passing p → (x : ℕ) → Searched x p (search_answer p x)
search_says {p} g x = rw (search_entry x (shown g).sound (shown g).shows) (go (search-says-state x (shown g).state (shown g).sound))
  where
    is : member x p ≡ is_in x (shown g).state
    is = member_shown (shown g).sound (shown g).shows x

    go : {o : Outcome} → SearchSays x (shown g).state o → Searched x p o.answer
    go (found i e f) = here (is ∙ i)
    go (missing i) = nowhere (is ∙ i)

pub search_codes : {p : List ℕ} → Passing p → (x : ℕ) → KeyCodes x p (code_of (search_answer p x))
search_codes {p} g x = go (search_says g x)
  where
    go : {a : Answer} → Searched x p a → KeyCodes x p (code_of a)
    go (here i) = omega arith
    go (nowhere i) = omega arith

pub next_says : {p : List ℕ} → Passing p → (x : ℕ) → NextSays x p (next_answer p x)
next_says {p} g x = rw (next_entry x (shown g).sound (shown g).shows) (go (next-says-state x (shown g).state (shown g).sound))
  where
    is : (y : ℕ) → member y p ≡ is_in y (shown g).state
    is y = member_shown (shown g).sound (shown g).shows y

    go : {a : Answer} → NextSaysState x (shown g).state a → NextSays x p a
    go (next {k} h s i f) = next_is h s (is k ∙ i) (λ y l u. is y ∙ f y l u)
    go (none_above f) = none_left (λ y l. is y ∙ f y l)

pub insert_says : {p : List ℕ} → Passing p → (x : ℕ) → x < key_end → Inserted x p (insert_answer p x) (insert_words p x)
insert_says {p} g x h =
    let s = insert_entry x (shown g).sound (shown g).shows in
    go (insert-says-state x (shown g).state (shown g).sound) (insert_moves x (shown g).state (shown g).sound) (insert_sound x (shown g).state (shown g).sound h) s.0 s.1
  where
    is : member x p ≡ is_in x (shown g).state
    is = member_shown (shown g).sound (shown g).shows x

    go : {o : Outcome} → InsertSays x (shown g).state o → Moves (shown g).state o 0 1 → Sound o.after → insert_answer p x ≡ o.answer
        → PoolShows (insert_words p x) o.after → Inserted x p (insert_answer p x) (insert_words p x)
    go (present i) m t e f = rw (insert_kept p x KeyPresent e, e) (key_present (is ∙ i))
    go (no_room i r) m t e f = rw (insert_kept p x NoRoom e, e) (room_lacking (is ∙ i) (omega (arith, room_shown (shown g).sound (shown g).shows, needed_shown (shown g).sound (shown g).shows)))
    go (added i r k l) m t e f =
        let enough : needed p ≤ room p = omega (arith, room_shown (shown g).sound (shown g).shows, needed_shown (shown g).sound (shown g).shows) in
        rw e (inserted (is ∙ i) enough (one_more (shown g).sound (shown g).shows t f m.slots_stay (omega (arith, m.by_one refl)) x k))

pub insert_codes : {p : List ℕ} → Passing p → (x : ℕ) → x < key_end → InsertCodes x p (code_of (insert_answer p x))
insert_codes {p} g x h = go (insert_says g x h)
  where
    go : {a : Answer} {q : List ℕ} → Inserted x p a q → InsertCodes x p (code_of a)
    go (key_present i) = omega arith
    go (room_lacking i r) = omega arith
    go (inserted i r m) = omega arith

pub delete_says : {p : List ℕ} → Passing p → (x : ℕ) → Deleted x p (delete_answer p x) (delete_words p x)
delete_says {p} g x =
    let s = delete_entry x (shown g).sound (shown g).shows in
    go (delete-says-state x (shown g).state (shown g).sound) (delete_moves x (shown g).state (shown g).sound) (delete_sound x (shown g).state (shown g).sound) s.0 s.1
  where
    is : member x p ≡ is_in x (shown g).state
    is = member_shown (shown g).sound (shown g).shows x

    go : {o : Outcome} → DeleteSays x (shown g).state o → Moves (shown g).state o 1 0 → Sound o.after → delete_answer p x ≡ o.answer
        → PoolShows (delete_words p x) o.after → Deleted x p (delete_answer p x) (delete_words p x)
    go (absent i) m t e f = rw (delete_kept p x KeyAbsent e, e) (key_absent (is ∙ i))
    go (removed i n k) m t e f =
        rw (e ∙ ap Done (n ∙ sym (held_shown t f)))
        (gone (is ∙ i) (one_more t f (shown g).sound (shown g).shows (sym m.slots_stay) (omega (arith, m.by_one refl)) x k))

pub delete_codes : {p : List ℕ} → Passing p → (x : ℕ) → KeyCodes x p (code_of (delete_answer p x))
delete_codes {p} g x = go (delete_says g x)
  where
    go : {a : Answer} {q : List ℕ} → Deleted x p a q → KeyCodes x p (code_of a)
    go (key_absent i) = omega arith
    go (gone i m) = omega arith

-- Settle and step: the set and its room are as before.
pub settle_same : {p : List ℕ} → Passing p → (budget : ℕ) → SameSet p (settle_words p budget)
settle_same g b =
    same_set (shown g).sound (shown g).shows (settle_sound_state (shown g).state b (shown g).sound) (settle_entry (shown g).sound (shown g).shows b).1 (settle_keeps_keys (shown g).state b (shown g).sound) (settle_free (shown g).state b)

pub step_same : {p : List ℕ} → Passing p → (s n : ℕ) → SameSet p (step_words p s n)
step_same g s n =
    same_set (shown g).sound (shown g).shows (step_sound_state s n (shown g).state (shown g).sound) (step_entry (shown g).sound (shown g).shows s n).1 (step_keeps_keys s n (shown g).state (shown g).sound) (step_free s n (shown g).state)

-- The same by the answer, for code that matches on it.
module _ {p : List ℕ} (g : Passing p) (x : ℕ) where
  pub search_done : {s : ℕ} → search_answer p x ≡ Done s → member x p ≡ 1
  search_done e = (search_codes g x).done_when.0 (ap code_of e)

  pub search_refused : {f : Refusal} → search_answer p x ≡ Refused f → member x p ≡ 0
  search_refused {f} = go (search_says g x)
    where
      go : {a : Answer} → Searched x p a → a ≡ Refused f → member x p ≡ 0
      go (here i) e = let z : ◌≡◌ {A = ℕ} 0 1 = cc in absurd (omega arith)
      go (nowhere i) e = i

  pub insert_done : {s : ℕ} → x < key_end → insert_answer p x ≡ Done s → (member x p ≡ 0) × OneMore x p (insert_words p x)
  insert_done {s} h = go (insert_says g x h)
    where
      go : {a : Answer} {q : List ℕ} → Inserted x p a q → a ≡ Done s → (member x p ≡ 0) × OneMore x p q
      go (key_present i) e = let z : ◌≡◌ {A = ℕ} 0 1 = cc in absurd (omega arith)
      go (room_lacking i r) e = let z : ◌≡◌ {A = ℕ} 0 1 = cc in absurd (omega arith)
      go (inserted i r m) e = (i, m)

  -- refused, a key that is not there had no room
  pub insert_refused : {f : Refusal} → x < key_end → member x p ≡ 0 → insert_answer p x ≡ Refused f → (f ≡ NoRoom) × (room p < needed p)
  insert_refused {f} h i = go (insert_says g x h)
    where
      go : {a : Answer} {q : List ℕ} → Inserted x p a q → a ≡ Refused f → (f ≡ NoRoom) × (room p < needed p)
      go (key_present j) e = absurd (omega arith)
      go (room_lacking j r) e = (cc, r)
      go (inserted j r m) e = let z : ◌≡◌ {A = ℕ} 0 1 = cc in absurd (omega arith)

  pub delete_done : {n : ℕ} → delete_answer p x ≡ Done n → (n ≡ held (delete_words p x)) × (member x p ≡ 1) × OneMore x (delete_words p x) p
  delete_done {n} = go (delete_says g x)
    where
      go : {a : Answer} {q : List ℕ} → Deleted x p a q → a ≡ Done n → (n ≡ held q) × (member x p ≡ 1) × OneMore x q p
      go (key_absent i) e = let z : ◌≡◌ {A = ℕ} 0 1 = cc in absurd (omega arith)
      go (gone i m) e = (cc, i, m)

  pub delete_refused : {f : Refusal} → delete_answer p x ≡ Refused f → member x p ≡ 0
  delete_refused {f} = go (delete_says g x)
    where
      go : {a : Answer} {q : List ℕ} → Deleted x p a q → a ≡ Refused f → member x p ≡ 0
      go (key_absent i) e = i
      go (gone i m) e = let z : ◌≡◌ {A = ℕ} 0 1 = cc in absurd (omega arith)
