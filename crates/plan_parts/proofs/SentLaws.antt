-- The rows of a body that weren't sent, as marks: each of them adds one to the hashes sent, and no other hash of the body does.
use Prim.Native.Nat.{ℕ, ◌+◌, ◌≤◌, ◌<◌}
use mathlib.Core.Bool.{Bool, true, false, not, ◌&&◌, ◌||◌}
use mathlib.Core.List.{List}
use mathlib.Core.Path.{◌≡◌, refl, sym, ap, ◌∙◌}
use native.Mathlib.Omega.{arith}
use lib.ListN.{length, get_or}
use Rattle.table_graph.proofs.PickLaws.{rows_marked, rows_where_lem}
use Rattle.table_graph.specs.Internal.Marks.{Marks, marked, picked}
use Rattle.table_index.specs.Index.{Indexed}
use Rattle.hash_once.proofs.ApartLaws.{beside_are, beside_many}
use Rattle.hash_order.proofs.KeepLaws.{keep_all}
use Rattle.hash_order.proofs.OrderLaws.{member_append}
use Rattle.hash_order.specs.Order.{member, keep, every, ascends}
use Rattle.rules.proofs.Cases.{split}
use Rattle.send.specs.Internal.Chosen.{chosen_by}
use Rattle.table.proofs.TableLaws.{length_rows_at, held_row, number_of_row}
use Rattle.table.specs.TableBytes.{rows_at}
use Rattle.table.specs.Table.{Row, rows, hash_of, held}
use Rattle.plan_parts.specs.Internal.PlanParts.{SentBeside, FreshMarked}

or_other : (x y : Bool) → (x || y) ≡ (y || x)
or_other true true = refl
or_other true false = refl
or_other false true = refl
or_other false false = refl

module _ (table x : List ℕ) (n : ℕ) (good : Indexed table x n) (marks : List Bool) (need : List ℕ) (needs : List Bool) (sent : List ℕ) where
  abbrev t : List Row
  t = rows_at table 0 n

  abbrev body : List ℕ
  body = chosen_by (rows_at table 0 n) marks need needs

  row_picked : (m : List Bool) (i : ℕ) → i < n → member (hash_of t i) (picked (rows t) m) ≡ get_or m i false
  row_picked m i l =
      let inside : i < length t = omega (arith, length_rows_at table 0 n) in
      rw (rows_marked t m (λ k. get_or m k false) (record { each = λ k q. refl }))
      (rows_where_lem t good.rows.good (λ k. get_or m k false) (hash_of t i) ∙ rw (held_row t i inside, number_of_row t good.rows.good i inside))

  row_of_body : (i : ℕ) → i < n → (get_or marks i false || member (hash_of t i) (picked need needs)) ≡ member (hash_of t i) body
  unfolding chosen_by
  row_of_body i l =
      or_other (get_or marks i false) (member (hash_of t i) (picked need needs))
      ∙ sym (member_append (hash_of t i) (picked need needs) (picked (rows t) marks) ∙ rw (row_picked marks i l))

  -- what is left of the marks of what was sent, for the document and for a list
  module _ (document : Bool) (past : List Bool) (s : SentBeside (rows_at table 0 n) n document (chosen_by (rows_at table 0 n) marks need needs) sent past) where
    pub whole_new : document ≡ true → (fresh : List Bool) → Marks n fresh (λ i. not (get_or past i false))
        → Marks n fresh (λ i. member (hash_of (rows_at table 0 n) i) (chosen_by (rows_at table 0 n) marks need needs) && not (member (hash_of (rows_at table 0 n) i) sent))
    unfolding held
    whole_new e fresh m =
        record {
          each =
              λ i l.
              let inside : i < length t = omega (arith, length_rows_at table 0 n) in
              m.each i l ∙ rw (s.those.each i l, s.whole e, held_row t i inside);
        }

    pub list_new : document ≡ false → (copy fresh : List Bool) → Marks n copy (λ i. get_or marks i false)
        → Marks n fresh (λ i. get_or copy i false || member (hash_of (rows_at table 0 n) i) (picked need needs))
        → Marks n fresh (λ i. member (hash_of (rows_at table 0 n) i) (chosen_by (rows_at table 0 n) marks need needs) && not (member (hash_of (rows_at table 0 n) i) sent))
    list_new e copy fresh a b =
        record {
          each =
              λ i l.
              b.each i l ∙ ap (λ (z : Bool). z || member (hash_of t i) (picked need needs)) (a.each i l) ∙ row_of_body i l
              ∙ split (member (hash_of t i) body) (λ h. rw (h, s.list e (hash_of t i) h)) (λ h. rw h);
        }

  pub fresh_marked : (fresh : List Bool)
      → Marks n fresh (λ i. member (hash_of (rows_at table 0 n) i) (chosen_by (rows_at table 0 n) marks need needs) && not (member (hash_of (rows_at table 0 n) i) sent))
      → ascends sent ≡ true → every (held (rows_at table 0 n)) (chosen_by (rows_at table 0 n) marks need needs) ≡ true → n ≤ length fresh
      → (before count : ℕ) → length sent ≡ before → count ≡ marked n fresh
      → FreshMarked (rows_at table 0 n) n (chosen_by (rows_at table 0 n) marks need needs) sent fresh (before + count)
  fresh_marked fresh fresh-rows up rows-alone room before count long many =
      let rows_are : keep (held t) body ≡ body = keep_all (held t) body rows-alone in
      record {
        long = room;
        those = fresh-rows;
        all = omega arith;
        many = omega (arith, rw rows_are at (beside_many table x n good body sent fresh fresh-rows up));
        are = rw rows_are at (beside_are table x n good body sent fresh fresh-rows);
      }
