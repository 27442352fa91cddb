-- The joined heads: as many as those of before, each once, and the rows of the held ones that aren't among them; and those of before put in order where
-- they stand, then merged with these rows, are the joined ones. Assumes nothing.
use Prim.Native.Nat.{ℕ, ◌+◌, ◌*◌, ◌≤◌}
use mathlib.Core.Bool.{Bool, true, false, not, ◌&&◌, ◌||◌}
use mathlib.Core.List.{List, ◌++◌}
use mathlib.Core.Path.{◌≡◌, sym, ap, ◌∙◌}
use native.Mathlib.Omega.{arith}
use lib.ListN.{length, get_or}
use lib.Seq.{sets}
use Rattle.hash_once.proofs.ApartLaws.{ascend_alike, row_beside, beside_are, beside_many}
use Rattle.hash_once.proofs.PutLaws.{sets_over}
use Rattle.hash_once.specs.Internal.Merge.{MergeReady}
use Rattle.hash_order.proofs.KeepLaws.{hashes_inside}
use Rattle.hash_order.proofs.OrderLaws.{member_append, ascend_ascends, ascend_members, ascend_most, ascending_shorter}
use Rattle.hash_order.specs.Order.{member, keep, ascends, ascend}
use Rattle.rules.proofs.Cases.{or_right}
use Rattle.rules.proofs.Hash.{length_hashes_at, length_hashes_bytes, hashes_are_hashes}
use Rattle.rules.proofs.Outputs.{written_gathered}
use Rattle.rules.specs.Hash.{Bytes, AreHashes, hashes_at, hashes_bytes}
use Rattle.rules.specs.Sizes.{sizes}
use Rattle.session.specs.Receive.{join}
use Rattle.table.specs.Table.{Row, rows, hash_of, held}
use Rattle.table.specs.TableBytes.{rows_at}
use Rattle.table_graph.specs.Internal.Marks.{Marks, Blank, marked, picked, Collected}
use Rattle.table_index.specs.Index.{Indexed}

-- ---- counted

-- the rows of the message's heads, less those of hashes that are there
pub joined_marks : (t : List Row) (n : ℕ) (theirs list : List ℕ) (none blank there heads marks : List Bool) → Blank n none → Blank n blank
    → Marks n there (λ i. get_or none i false || member (hash_of t i) list)
    → Marks n heads (λ i. get_or blank i false || member (hash_of t i) theirs)
    → Marks n marks (λ i. get_or heads i false && not (get_or there i false))
    → Marks n marks (λ i. member (hash_of t i) theirs && not (member (hash_of t i) list))
joined_marks t n theirs list none blank there heads marks a b c d e =
    record { each = λ i h. e.each i h ∙ rw (d.each i h, c.each i h, a.each i h, b.each i h) }

-- held ones joined with a list, ascending or not
joined_alike : (t : List Row) (theirs list : List ℕ) → ascend (keep (held t) theirs ++ ascend list) ≡ join t theirs list
unfolding join
joined_alike t theirs list =
    ascend_alike (keep (held t) theirs ++ ascend list) (keep (held t) theirs ++ list)
    (λ x. member_append x (keep (held t) theirs) (ascend list) ∙ rw (ascend_members x list) (sym (member_append x (keep (held t) theirs) list)))

-- each of the rows adds one
pub joined_counted : (table x : List ℕ) (n : ℕ) → Indexed table x n → (theirs list : List ℕ) (marks : List Bool)
    → Marks n marks (λ i. member (hash_of (rows_at table 0 n) i) theirs && not (member (hash_of (rows_at table 0 n) i) list))
    → (once rest : ℕ) → once ≡ length (ascend list) → rest ≡ marked n marks → once + rest ≡ length (join (rows_at table 0 n) theirs list)
joined_counted table x n good theirs list marks those once rest e f =
    let t : List Row = rows_at table 0 n in
    let same : Marks n marks (λ i. member (hash_of t i) theirs && not (member (hash_of t i) (ascend list))) =
    record { each = λ i h. those.each i h ∙ rw (ascend_members (hash_of t i) list) }
    in
    omega (arith, beside_many table x n good theirs (ascend list) marks same (ascend_ascends list), ap length (joined_alike t theirs list))

pub once_few : (s : List ℕ) (place count once : ℕ) → once ≡ length (ascend (hashes_at s place count)) → once ≤ count
once_few s place count once e = omega (arith, ascend_most (hashes_at s place count), length_hashes_at s place count)

-- ---- put in place

module _ (table x : List ℕ) (n : ℕ) (good : Indexed table x n) (theirs shared : List ℕ) (count : ℕ) (bytes : Bytes shared) {list : List ℕ} {ordered : ℕ}
    (a : Collected (ascend (hashes_at shared 0 count)) shared list ordered)
    (room : sizes.hash * length (join (rows_at table 0 n) theirs (hashes_at shared 0 count)) ≤ length shared) where
  abbrev t : List Row
  t = rows_at table 0 n

  abbrev was : List ℕ
  was = hashes_at shared 0 count

  -- no more than are joined
  fewer : length (ascend was) ≤ length (join t theirs was)
  unfolding join
  fewer =
      ascending_shorter (ascend was) (ascend (keep (held t) theirs ++ was)) (ascend_ascends was) (ascend_ascends (keep (held t) theirs ++ was))
      (λ x m.
      ascend_members x (keep (held t) theirs ++ was)
      ∙ member_append x (keep (held t) theirs) was
      ∙ or_right (member x (keep (held t) theirs)) (member x was) (sym (ascend_members x was) ∙ m))

  ordered_there : hashes_at list 0 ordered ≡ ascend (hashes_at shared 0 count)
  ordered_there =
      let all : AreHashes (ascend was) = hashes_inside (ascend was) was (hashes_are_hashes shared 0 count bytes) (λ h m. sym (ascend_members h was) ∙ m) in
      ap (λ (z : List ℕ). hashes_at z 0 ordered) a.content
      ∙ ap (hashes_at (sets shared 0 (hashes_bytes (ascend was))) 0) a.many
      ∙ (written_gathered (ascend was) shared all (omega (arith, fewer))).list

  ordered_long : length list ≡ length shared
  ordered_long = ap length a.content ∙ lib.Seq.length-sets shared 0 (hashes_bytes (ascend was))

  pub ordered_fits : sizes.hash * ordered ≤ length list
  ordered_fits = omega (arith, a.many, fewer, ordered_long)

  ordered_up : ascends (hashes_at list 0 ordered) ≡ true
  ordered_up = rw ordered_there (ascend_ascends was)

  module _ (marks : List Bool)
      (those : Marks n marks (λ i. member (hash_of (rows_at table 0 n) i) theirs && not (member (hash_of (rows_at table 0 n) i) (hashes_at list 0 ordered)))) where
    joined_is : ascend (keep (held t) theirs ++ hashes_at list 0 ordered) ≡ join t theirs (hashes_at shared 0 count)
    joined_is = rw ordered_there (joined_alike t theirs was)

    joined_many : length (join t theirs was) ≡ ordered + marked n marks
    joined_many =
        omega (arith, ap length joined_is, beside_many table x n good theirs (hashes_at list 0 ordered) marks those ordered_up, length_hashes_at list 0 ordered)

    pub joined_ready : (total : ℕ) → total ≡ ordered + marked n marks → MergeReady (rows_at table 0 n) n marks list ordered total
    joined_ready total e =
        record {
          ascending = ordered_up;
          apart = row_beside table x n good theirs (hashes_at list 0 ordered) marks those;
          many = e;
          room = omega (arith, joined_many, room, ordered_long);
        }

    pub joined_put : (next : List ℕ) → next ≡ sets list 0 (hashes_bytes (ascend (picked (rows (rows_at table 0 n)) marks ++ hashes_at list 0 ordered)))
        → next ≡ sets shared 0 (hashes_bytes (join (rows_at table 0 n) theirs (hashes_at shared 0 count)))
    joined_put next put =
        put
        ∙ ap (λ (z : List ℕ). sets list 0 (hashes_bytes z)) (beside_are table x n good theirs (hashes_at list 0 ordered) marks those ∙ joined_is)
        ∙ ap (λ (z : List ℕ). sets z 0 (hashes_bytes (join t theirs was))) a.content
        ∙ sets_over (hashes_bytes (ascend was)) (hashes_bytes (join t theirs was)) shared
        (rw (length_hashes_bytes (ascend was), length_hashes_bytes (join t theirs was)) (omega (arith, fewer)))
        (rw (length_hashes_bytes (join t theirs was)) room)
