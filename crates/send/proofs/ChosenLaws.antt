-- The marks name the definition's list. A need is kept if its row is marked neither as answered nor as one that was sent before; an answered
-- row stays marked unless it was. With no have no row is answered, so every held need is kept and no row follows; otherwise the answered rows
-- are S.
use Prim.Native.Nat.{ℕ, zero, suc, ◌+◌, ◌*◌, ◌/◌, ◌≤◌, ◌<◌}
use mathlib.Core.Bool.{Bool, true, false, not, ◌&&◌}
use mathlib.Core.List.{List, [], ◌∷◌, ◌++◌, append-nil, append_assoc}
use mathlib.Core.Path.{◌≡◌, refl, sym, ap, ◌∙◌}
use native.Mathlib.Nat.{zero-add, not-suc-le-zero}
use native.Mathlib.Omega.{arith}
use lib.ListN.{length, get_or, set, length-append}
use lib.Seq.{sets}
use Rattle.bloom.specs.Have.{Have, have_words, haves_from, haves_of}
use Rattle.table_graph.proofs.GraphMarks.{many_rows, marked_rows}
use Rattle.table_graph.proofs.PickLaws.{marks_picked, pick_keep, pick_none, keep_pick, rows_picked, rows_where_lem, picked_count, pick_left, left_all, left_taken, left_passed, left_none}
use Rattle.table_graph.proofs.TurnLaws.{Turned, turn_set, turn_done}
use Rattle.table_graph.specs.Internal.Marks.{Marks, Blank, marked, picked}
use Rattle.send_members.specs.Internal.Members.{in_the_s, the_s}
use Rattle.hash_order.proofs.KeepLaws.{keep_append, keep_keep, keep_same}
use Rattle.hash_order.specs.Order.{member, keep}
use Rattle.rules.proofs.Cases.{split}
use Rattle.rules.proofs.Hash.{length_hashes_at, length_hashes_bytes, hashes_index}
use Rattle.rules.proofs.Outputs.{sets_append}
use Rattle.rules.specs.Hash.{hash_at, hashes_at, hash_bytes, hashes_bytes}
use Rattle.rules.specs.Sizes.{sizes}
use Rattle.table.proofs.TableLaws.{length_rows_at, row_of_held, hash_of_held, member_of_index, unknown_of_index, index_at_most}
use Rattle.table.specs.TableBytes.{rows_at}
use Rattle.table.specs.Table.{Row, GoodTable, rows, hash_of, row_number, index_in, held, rows_where}
use Rattle.send.specs.Internal.Chosen.{answered_row, held_unmarked, chosen_by, SentRows, Chosen, Choosable}
use Rattle.send.specs.ToSend.{to_send, to_send_less}
use Rattle.send.proofs.SelectLaws.{less_none, sent_most}

-- ---- the rows that are answered

-- a list shorter than one record has no have
pub none_answered : (t : List Row) (s haves : List ℕ) (n : ℕ) (m : List Bool) → length haves < have_words → Blank n m
    → Marks n m (answered_row t (haves_of s haves))
unfolding answered_row haves_of haves_from
none_answered t s haves n m h b =
    let none : length haves / have_words ≡ 0 = omega arith in
    record { each = λ i l. rw none (b.each i l) }

some_row : (t : List Row) (s haves : List ℕ) (i k : ℕ) → 0 < k → answered_row t (haves_from s haves 0 k) i ≡ in_the_s t (haves_from s haves 0 k) i
unfolding answered_row haves_from
some_row t s haves i zero l = absurd (not-suc-le-zero l)
some_row t s haves i (suc k) l = refl

pub some_answered : (t : List Row) (s haves : List ℕ) (n : ℕ) (r : List Bool) → have_words ≤ length haves → Marks n r (in_the_s t (haves_of s haves))
    → Marks n r (answered_row t (haves_of s haves))
unfolding haves_of
some_answered t s haves n r h m = record { each = λ i l. m.each i l ∙ sym (some_row t s haves i (length haves / have_words) (omega arith)) }

-- the answer by them: held needs that aren't answered, then the answered rows
unanswered : List Row → List Have → ℕ → Bool
unanswered t haves h = held t h && not (answered_row t haves (row_number t h))

module _ (t : List Row) (good : GoodTable t) where
  send_rows : (haves : List Have) (need : List ℕ) → to_send t haves need ≡ keep (unanswered t haves) need ++ rows_where t (answered_row t haves)
  unfolding to_send unanswered answered_row the_s
  send_rows [] need =
      let none : rows_where t (λ i. false) ≡ [] = rows_picked t (λ i. false) ∙ pick_none (rows t) 0 in
      rw (none, append-nil) (keep_same (held t) (λ h. held t h && true) need (λ h m. split (held t h) (λ e. rw e) (λ e. rw e)))
  send_rows (x ∷ xs) need =
      let s : ℕ → Bool = in_the_s t (x ∷ xs) in
      ap (λ (l : List ℕ). l ++ rows_where t s)
      (keep_same (λ h. held t h && not (member h (rows_where t s))) (λ h. held t h && not (s (row_number t h))) need
      (λ h m. split (held t h) (λ e. rw (e, rows_where_lem t good s h, e)) (λ e. rw e)))

  -- less those that were sent before
  module _ (haves : List Have) (need sent : List ℕ) where
    less_rows :
        to_send_less t haves need sent
        ≡ keep (λ h. unanswered t haves h && not (member h sent)) need ++ rows_where t (λ i. answered_row t haves i && not (member (hash_of t i) sent))
    unfolding to_send_less hash_of
    less_rows =
        let q : ℕ → Bool = λ h. not (member h sent) in
        let both : ℕ → Bool = λ i. answered_row t haves i && q (get_or (rows t) i 0) in
        let first : keep q (keep (unanswered t haves) need) ≡ keep (λ h. unanswered t haves h && q h) need = keep_keep q (unanswered t haves) need in
        let second : keep q (rows_where t (answered_row t haves)) ≡ rows_where t both =
        ap (keep q) (rows_picked t (answered_row t haves))
        ∙ keep_pick (rows t) (answered_row t haves) q both 0 (λ k h. rw zero-add)
        ∙ sym (rows_picked t both) in
        ap (keep q) (send_rows haves need) ∙ keep_append q (keep (unanswered t haves) need) (rows_where t (answered_row t haves)) ∙ rw (first, second)

-- ---- whether a hash has a row that neither marks name

module _ (s : List ℕ) (n : ℕ) (members past : List Bool) (h row : ℕ) (found : row ≡ index_in (rows (rows_at s 0 n)) h) where
  pub held_none : n ≤ row → false ≡ held_unmarked (rows_at s 0 n) members past h
  unfolding held_unmarked held
  held_none l =
      let behind : index_in (rows (rows_at s 0 n)) h ≡ length (rows (rows_at s 0 n)) = omega (arith, many_rows s n, index_at_most (rows (rows_at s 0 n)) h) in
      rw (unknown_of_index (rows (rows_at s 0 n)) h behind)

  module _ (l : row < n) where
    inside : index_in (rows (rows_at s 0 n)) h < length (rows (rows_at s 0 n))
    inside = omega (arith, many_rows s n)

    pub held_member : get_or members row false ≡ true → false ≡ held_unmarked (rows_at s 0 n) members past h
    unfolding held_unmarked held row_number
    held_member e = rw (member_of_index (rows (rows_at s 0 n)) h inside, ← found, e)

    pub held_past : get_or members row false ≡ false → not (get_or past row false) ≡ held_unmarked (rows_at s 0 n) members past h
    unfolding held_unmarked held row_number
    held_past e = rw (member_of_index (rows (rows_at s 0 n)) h inside, ← found, e)

-- the needs, marked one after the other
pub asking : List ℕ → ℕ → List ℕ → ℕ → List Bool → List Bool → ℕ → Bool → Bool
asking table n need place' members past k b = held_unmarked (rows_at table 0 n) members past (hash_at need (place' + sizes.hash * k))

module _ (table : List ℕ) (n : ℕ) (need : List ℕ) (place' : ℕ) (members past : List Bool) (k : ℕ) (old new : List Bool)
    (w : Turned (asking table n need place' members past) k old new) where
  pub asked_on : (here : Bool) → k < length new → here ≡ held_unmarked (rows_at table 0 n) members past (hash_at need (place' + sizes.hash * k))
      → Turned (asking table n need place' members past) (k + 1) old (set new k here)
  unfolding asking
  asked_on here h e = turn_set (asking table n need place' members past) k old new w here h e

  pub asked_done : (count : ℕ) → count ≤ k
      → Marks count new (λ i. held_unmarked (rows_at table 0 n) members past (hash_at need (place' + sizes.hash * i)))
  unfolding asking
  asked_done count h = turn_done (asking table n need place' members past) k old new w count h

-- ---- all of them

module _ (table : List ℕ) (n : ℕ) (good : GoodTable (rows_at table 0 n)) (haves : List Have) (need : List ℕ) (place' count : ℕ) (sent : List ℕ) where
  abbrev t : List Row
  t = rows_at table 0 n

  abbrev needed : List ℕ
  needed = hashes_at need place' count

  module _ (past members marks needs : List Bool) (sent-rows : SentRows t n sent past)
      (answer : Marks n members (answered_row t haves))
      (asked : Marks count needs (λ k. held_unmarked t members past (hash_at need (place' + sizes.hash * k))))
      (left : Marks n marks (λ i. get_or members i false && not (get_or past i false))) where
    row_less : (h : ℕ) → held t h ≡ true → Rattle.table.specs.Table.row_number t h < n
    row_less h e = omega (arith, row_of_held t h e, length_rows_at table 0 n)

    kept : picked needed needs ≡ keep (λ h. unanswered t haves h && not (member h sent)) needed
    unfolding held_unmarked unanswered
    kept =
        let many : length needed ≡ count = length_hashes_at need place' count in
        marks_picked needed needs (λ k. held_unmarked t members past (get_or needed k 0))
        (record { each = λ k h. let l : k < count = omega arith in asked.each k l ∙ rw (hashes_index need place' count k l) })
        ∙ pick_keep needed (λ k. held_unmarked t members past (get_or needed k 0)) (held_unmarked t members past) 0 (λ k h. rw zero-add)
        ∙ keep_same (held_unmarked t members past) (λ h. (held t h && not (answered_row t haves (Rattle.table.specs.Table.row_number t h))) && not (member h sent)) needed
        (λ h m.
        split (held t h)
        (λ e. rw (e, answer.each _ (row_less h e), sent-rows.each _ (row_less h e), hash_of_held t h e))
        (λ e. rw e))

    follow : picked (rows t) marks ≡ rows_where t (λ i. answered_row t haves i && not (member (hash_of t i) sent))
    follow =
        marked_rows table n marks (λ i. answered_row t haves i && not (member (hash_of t i) sent))
        (record { each = λ i h. left.each i h ∙ rw (answer.each i h, sent-rows.each i h) })

    pub chosen_is : (a b : ℕ) → a ≡ marked count needs → b ≡ marked n marks → Chosen (to_send_less t haves needed sent) t marks needed needs (a + b)
    unfolding chosen_by
    chosen_is a b e f =
        let same : picked needed needs ++ picked (rows t) marks ≡ to_send_less t haves needed sent =
        rw (kept, follow) (sym (less_rows t good haves needed sent)) in
        let first : length (picked needed needs) ≡ a = picked_count needed needs count (length_hashes_at need place' count) ∙ sym e in
        let second : length (picked (rows t) marks) ≡ b = picked_count (rows t) marks n (many_rows table n) ∙ sym f in
        let many : length (to_send_less t haves needed sent) ≡ length (picked needed needs) + length (picked (rows t) marks) =
        ap length (sym same) ∙ length-append (picked needed needs) (picked (rows t) marks) in
        record { list = same; many = omega arith }

-- ---- what was chosen, put

module _ {l : List ℕ} {t : List Row} {marks : List Bool} {need : List ℕ} {needs : List Bool} {count : ℕ} (so : Chosen l t marks need needs count) where
  pub chosen_size : sizes.hash * count ≡ length (hashes_bytes l)
  chosen_size = rw length_hashes_bytes (omega (arith, so.many))

  pub chosen_room : (room : ℕ) → sizes.hash * count ≤ room → sizes.hash * length (chosen_by t marks need needs) ≤ room
  chosen_room room h = rw so.list (omega (arith, so.many))

  pub chosen_put : (out after : List ℕ) → after ≡ sets out 0 (hashes_bytes (chosen_by t marks need needs)) → after ≡ sets out 0 (hashes_bytes l)
  chosen_put out after e = rw so.list at e

-- where none was sent before
pub chosen_all : {t : List Row} {marks : List Bool} {need : List ℕ} {needs : List Bool} {count : ℕ} (haves : List Have) (n : ℕ) (past : List Bool)
    → Blank n past
    → ((sent : List ℕ) → SentRows t n sent past → Chosen (to_send_less t haves need sent) t marks need needs count)
    → Chosen (to_send t haves need) t marks need needs count
unfolding member
chosen_all {t} {need = need} haves n past none so = rw (less_none t haves need) at (so [] none)

-- no more than may be sent at once
pub chosen_most : (table index : List ℕ) (n : ℕ) (s haves need : List ℕ) (place' count : ℕ) (marks needs : List Bool) (total : ℕ)
    → Choosable table index n s haves need place' count
    → Chosen (to_send (rows_at table 0 n) (haves_of s haves) (hashes_at need place' count)) (rows_at table 0 n) marks (hashes_at need place' count) needs total
    → total ≤ sizes.hashes_to_send
chosen_most table index n s haves need place' count marks needs total c so =
    let t : List Row = rows_at table 0 n in
    let hs : List ℕ = hashes_at need place' count in
    let rows' : length t ≤ sizes.rows = rw (length_rows_at table 0 n) c.rows.rows.few in
    let needs' : length hs ≤ sizes.hashes = rw (length_hashes_at need place' count) c.few in
    omega (arith, so.many, sent_most t (haves_of s haves) hs rows' needs')

append_bytes : (a b : List ℕ) → hashes_bytes (a ++ b) ≡ hashes_bytes a ++ hashes_bytes b
unfolding hashes_bytes
append_bytes [] b = refl
append_bytes (x ∷ a) b = ap (λ (l : List ℕ). hash_bytes x ++ l) (append_bytes a b) ∙ sym (append_assoc (hash_bytes x) (hashes_bytes a) (hashes_bytes b))

-- both parts, one behind the other
module _ (table : List ℕ) (n : ℕ) (marks : List Bool) (need : List ℕ) (place' count : ℕ) (needs : List Bool) where
  abbrev first : List ℕ
  first = picked (hashes_at need place' count) needs

  abbrev second : List ℕ
  second = picked (rows (rows_at table 0 n)) marks

  first_many : length first ≡ marked count needs
  first_many = picked_count (hashes_at need place' count) needs count (length_hashes_at need place' count)

  second_many : length second ≡ marked n marks
  second_many = picked_count (rows (rows_at table 0 n)) marks n (many_rows table n)

  both_many : length (chosen_by (rows_at table 0 n) marks (hashes_at need place' count) needs) ≡ marked count needs + marked n marks
  unfolding chosen_by
  both_many = length-append first second ∙ rw (first_many, second_many)

  pub room_first : (room : ℕ) → sizes.hash * length (chosen_by (rows_at table 0 n) marks (hashes_at need place' count) needs) ≤ room
      → sizes.hash * marked count needs ≤ room
  room_first room h = omega (arith, both_many)

  pub room_second : (end room same : ℕ) → end ≡ sizes.hash * marked count needs → same ≡ room
      → sizes.hash * length (chosen_by (rows_at table 0 n) marks (hashes_at need place' count) needs) ≤ room
      → end + sizes.hash * marked n marks ≤ same
  room_second end room same e f h = omega (arith, both_many)

  pub both_put : (end : ℕ) (out mid after : List ℕ) → end ≡ sizes.hash * marked count needs
      → mid ≡ sets out 0 (hashes_bytes first)
      → after ≡ sets mid end (hashes_bytes second)
      → after ≡ sets out 0 (hashes_bytes (chosen_by (rows_at table 0 n) marks (hashes_at need place' count) needs))
  unfolding chosen_by
  both_put end out mid after e f g =
      let size : end ≡ 0 + length (hashes_bytes first) = rw length_hashes_bytes (omega (arith, first_many)) in
      g ∙ rw (f, size) (sets_append (hashes_bytes first) (hashes_bytes second) out 0 ∙ ap (sets out 0) (sym (append_bytes first second)))

-- ---- the needs, put one behind the other

module _ (need : List ℕ) (place' count : ℕ) (needs : List Bool) where
  abbrev hs : List ℕ
  hs = hashes_at need place' count

  many_needs : length hs ≡ count
  many_needs = length_hashes_at need place' count

  pub need_taken : (k : ℕ) → k < count → get_or needs k false ≡ true → pick_left hs needs k ≡ hash_at need (place' + sizes.hash * k) ∷ pick_left hs needs (k + 1)
  need_taken k h e = left_taken hs needs k (omega (arith, many_needs)) e ∙ rw (hashes_index need place' count k h)

  pub need_passed : (k : ℕ) → k < count → get_or needs k false ≡ false → pick_left hs needs k ≡ pick_left hs needs (k + 1)
  need_passed k h e = left_passed hs needs k (omega (arith, many_needs)) e

  pub needs_none : (k : ℕ) → count ≤ k → pick_left hs needs k ≡ []
  needs_none k h = left_none hs needs k (omega (arith, many_needs))

  pub needs_room : (room : ℕ) → sizes.hash * marked count needs ≤ room → 0 + sizes.hash * length (pick_left hs needs 0) ≤ room
  needs_room room h = rw left_all (omega (arith, picked_count hs needs count many_needs))
