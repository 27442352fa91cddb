-- Shared heads as marked rows: a head of the rows of before that is a head now was one then, so those that are new are the ones whose rows are. Assumes
-- nothing.
use Prim.Native.Nat.{ℕ, ◌+◌, ◌≤◌, ◌<◌}
use mathlib.Core.Bool.{Bool, true, false, not, ◌||◌, ◌&&◌}
use mathlib.Core.List.{List, ◌++◌}
use mathlib.Core.Path.{◌≡◌, refl, sym, ap, ◌∙◌}
use native.Mathlib.Omega.{arith}
use borrow.Author.Tests.{leb-true, leb-false}
use lib.Dec.{leb}
use lib.ListN.{length, get_or, set, take}
use lib.Seq.{sets}
use Rattle.hash_order.proofs.KeepLaws.{keep_member, once_inside}
use Rattle.hash_order.proofs.OrderLaws.{member_append, ascend_ascends, ascend_members, ascend_most, ascending_unique}
use Rattle.hash_order.proofs.ReachLaws.{some_below_lem, some_witness}
use Rattle.hash_order.specs.Order.{member, keep, ascend}
use Rattle.rules.proofs.Cases.{split, and_false, true_false}
use Rattle.rules.specs.Hash.{hashes_bytes}
use Rattle.session.specs.Receive.{advance, join}
use Rattle.table.proofs.GoodLaws.{good_part}
use Rattle.table.proofs.TableLaws.{number_of_row, held_row, row_of_held, hash_of_held, length_rows_at, take_rows_at, deps_of_row, hash_of_row}
use Rattle.table.specs.Table.{Row, rows, hash_of, deps_of, row_number, held, rows_where}
use Rattle.table.specs.TableBytes.{rows_at, GoodRows}
use Rattle.table_graph.proofs.GraphMarks.{marked_rows, many_rows}
use Rattle.table_graph.proofs.HeadLaws.{head_is}
use Rattle.table_graph.proofs.PickLaws.{rows_where_lem, rows_once, picked_count}
use Rattle.table_graph.proofs.TurnLaws.{Turned, turn_set, turn_same}
use Rattle.table_graph.specs.Graph.{needed, heads}
use Rattle.table_graph.specs.Internal.Marks.{Marks, Blank, marked, picked, Collected}
use Rattle.receive_shared.specs.Internal.Shared.{shared_row}

-- ---- marks that stay where others are

pub on : List Bool → ℕ → Bool → Bool
on others k b = b && get_or others k false

and_with : (x : Bool) → (x && true) ≡ x
and_with true = refl
and_with false = refl

or_with : (x : Bool) → (x || true) ≡ true
or_with true = refl
or_with false = refl

or_without : (x : Bool) → (x || false) ≡ x
or_without true = refl
or_without false = refl

module _ (others : List Bool) (i : ℕ) (old new : List Bool) (w : Turned (on others) i old new) where
  pub kept_stays : get_or others i false ≡ true → Turned (on others) (i + 1) old new
  unfolding on
  kept_stays e = turn_same (on others) i old new w (rw e (sym (and_with (get_or new i false))))

  pub kept_goes : i < length new → get_or others i false ≡ false → Turned (on others) (i + 1) old (set new i false)
  unfolding on
  kept_goes h e = turn_set (on others) i old new w false h (rw e (sym (and_false (get_or new i false))))

  pub kept_done : (n before : ℕ) → before ≤ i → i ≤ before → Marks n new (λ k. get_or old k false && (leb before k || get_or others k false))
  unfolding on
  kept_done n before h f =
      record {
        each =
            λ k l.
            split (leb before k)
            (λ e. rw (e, w.rest k (omega (arith, leb-true before k e))) (sym (and_with (get_or old k false))))
            (λ e. rw e (w.done k (omega (arith, leb-false before k e))));
      }

-- ---- the rows that are shared

-- marks one after the other
module _ (s : List ℕ) (n before : ℕ) (shared theirs : List ℕ) (was blank tops kept all : List Bool) where
  abbrev t : List Row
  t = rows_at s 0 n

  pub advanced_marks : Blank n blank → Marks n was (λ i. get_or blank i false || member (hash_of t i) shared)
      → Marks n tops (λ i. not (needed t i))
      → Marks n kept (λ i. get_or tops i false && (leb before i || get_or was i false))
      → Marks n all (λ i. get_or kept i false || member (hash_of t i) theirs)
      → Marks n all (shared_row before t shared theirs)
  unfolding shared_row
  advanced_marks none a b c d =
      record { each = λ i h. d.each i h ∙ rw (c.each i h, b.each i h, a.each i h, none.each i h) }

module _ (s : List ℕ) (n before : ℕ) (good : GoodRows s n) (part : before ≤ n) where
  abbrev now : List Row
  now = rows_at s 0 n

  abbrev old : List Row
  old = rows_at s 0 before

  was_good : GoodRows s before
  was_good = good_part s n before good part

  many : length now ≡ n
  many = length_rows_at s 0 n

  few : length old ≡ before
  few = length_rows_at s 0 before

  needed_still : (i : ℕ) → needed old i ≡ true → needed now i ≡ true
  unfolding needed
  needed_still i e =
      let w = some_witness (length old) (λ k. member i (deps_of old k)) e in
      let low : w.k < before = omega (arith, w.less, few) in
      let same : deps_of old w.k ≡ deps_of now w.k = deps_of_row s before w.k low ∙ sym (deps_of_row s n w.k (omega arith)) in
      some_below_lem (length now) (λ k. member i (deps_of now k)) w.k (omega (arith, many)) (rw same at w.is)

  row_same : (i : ℕ) → i < before → hash_of old i ≡ hash_of now i
  row_same i h = hash_of_row s before i h ∙ sym (hash_of_row s n i (omega arith))

  old_held : (i : ℕ) → i < before → held old (hash_of now i) ≡ true
  old_held i h = rw (row_same i h) at (held_row old i (omega (arith, few)))

  old_number : (i : ℕ) → i < before → row_number old (hash_of now i) ≡ i
  old_number i h = rw (row_same i h) at (number_of_row old was_good.good i (omega (arith, few)))

  new_unknown : (i : ℕ) → before ≤ i → i < n → held old (hash_of now i) ≡ false
  new_unknown i h f =
      split (held old (hash_of now i))
      (λ e.
      let r : ℕ = row_number old (hash_of now i) in
      let less : r < before = omega (arith, row_of_held old (hash_of now i) e, few) in
      let is : hash_of now r ≡ hash_of now i = sym (row_same r less) ∙ hash_of_held old (hash_of now i) e in
      let one : r ≡ i =
      sym (number_of_row now good.good r (omega (arith, many))) ∙ ap (row_number now) is ∙ number_of_row now good.good i (omega (arith, many)) in
      absurd (omega arith))
      (λ e. e)

  -- a head now was none before just where its row is new
  head_new : (i : ℕ) → i < n → needed now i ≡ false → not (member (hash_of now i) (heads old)) ≡ leb before i
  head_new i h none =
      split (leb before i)
      (λ e. rw (e, head_is old was_good.good (hash_of now i), new_unknown i (leb-true before i e) h))
      (λ e.
      let low : i < before = leb-false before i e in
      let free : needed old i ≡ false = split (needed old i) (λ q. absurd (true_false (needed now i) (needed_still i q) none)) (λ q. q) in
      rw (e, head_is old was_good.good (hash_of now i), old_held i low, old_number i low, free))

  bools : (top was late still theirs : Bool) → (top ≡ false → not was ≡ late)
      → ((not top && (late || still)) || theirs) ≡ (theirs || ((not was && not top) || (not top && still)))
  bools true was late still true f = refl
  bools true true late still false f = refl
  bools true false late still false f = refl
  bools false was late still true f = or_with (late || still)
  bools false was late still false f = rw (← f refl) (or_without (not was || still) ∙ rw (and_with (not was)))

  module _ (shared theirs : List ℕ) where
    abbrev row : ℕ → Bool
    row = shared_row before now shared theirs

    members : (h : ℕ) → (held now h && row (row_number now h))
        ≡ ((held now h && member h theirs) || ((not (member h (heads old)) && member h (heads now)) || (member h (heads now) && member h shared)))
    unfolding shared_row
    members h =
        split (held now h)
        (λ e.
        let i : ℕ = row_number now h in
        let less : i < n = omega (arith, row_of_held now h e, many) in
        let is : hash_of now i ≡ h = hash_of_held now h e in
        let new : needed now i ≡ false → not (member h (heads old)) ≡ leb before i = λ q. rw is at (head_new i less q) in
        rw (head_is now good.good h, e, is) (bools (needed now i) (member h (heads old)) (leb before i) (member h shared) (member h theirs) new))
        (λ e. rw (head_is now good.good h, e, and_false (not (member h (heads old)))))

    pub rows_shared : ascend (rows_where now row) ≡ join now theirs (advance (heads (take before now)) (heads now) shared)
    unfolding join advance
    rows_shared =
        rw (take_rows_at s 0 before n part)
        (ascending_unique (ascend (rows_where now row))
        (ascend (keep (held now) theirs ++ ascend (keep (λ h. not (member h (heads old))) (heads now) ++ keep (λ h. member h (heads now)) shared)))
        (ascend_ascends _) (ascend_ascends _)
        (λ h.
        ascend_members h (rows_where now row)
        ∙ rows_where_lem now good.good row h
        ∙ members h
        ∙ sym (right h)))
      where
        right : (h : ℕ) → member h (ascend (keep (held now) theirs ++ ascend (keep (λ h. not (member h (heads old))) (heads now) ++ keep (λ h. member h (heads now)) shared)))
            ≡ ((held now h && member h theirs) || ((not (member h (heads old)) && member h (heads now)) || (member h (heads now) && member h shared)))
        right h =
            let new : List ℕ = keep (λ x. not (member x (heads old))) (heads now) in
            let still : List ℕ = keep (λ x. member x (heads now)) shared in
            ascend_members h (keep (held now) theirs ++ ascend (new ++ still))
            ∙ member_append h (keep (held now) theirs) (ascend (new ++ still))
            ∙ rw (keep_member (held now) theirs h, ascend_members h (new ++ still), member_append h new still, keep_member (λ x. not (member x (heads old))) (heads now) h, keep_member (λ x. member x (heads now)) shared h)

    module _ (m : List Bool) (those : Marks n m row) where
      picked_shared : ascend (picked (rows now) m) ≡ join now theirs (advance (heads (take before now)) (heads now) shared)
      picked_shared = ap ascend (marked_rows s n m row those) ∙ rows_shared

      -- no two rows have one hash, so as many are marked
      pub shared_marked : marked n m ≡ length (join now theirs (advance (heads (take before now)) (heads now) shared))
      shared_marked =
          let some : List ℕ = rows_where now row in
          let same : picked (rows now) m ≡ some = marked_rows s n m row those in
          let count : length (picked (rows now) m) ≡ marked n m = picked_count (rows now) m n (many_rows s n) in
          let all : length some ≤ length (ascend some) =
          once_inside some (ascend some) (rows_once now good.good row) (λ h e. ascend_members h some ∙ e) in
          let long : marked n m ≡ length (ascend some) = omega (arith, all, ascend_most some, ap length same, count) in
          long ∙ ap length rows_shared

      pub shared_put : (out next : List ℕ) (count : ℕ) → Collected (ascend (picked (rows now) m)) out next count
          → next ≡ sets out 0 (hashes_bytes (join now theirs (advance (heads (take before now)) (heads now) shared)))
      shared_put out next count so = rw picked_shared at so.content
