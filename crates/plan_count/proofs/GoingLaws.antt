-- What goes of a body as marks and numbers: all of it, or a pick that is accepted, whose rows were not sent. Assumes nothing.
use Prim.Native.Nat.{ℕ, ◌+◌, ◌*◌, ◌/◌, ◌≤◌}
use mathlib.Core.Bool.{Bool, true, false, cond, not, ◌&&◌}
use mathlib.Core.List.{List, [], ◌++◌}
use mathlib.Core.Path.{◌≡◌, refl, ◌∙◌}
use native.Mathlib.Omega.{arith}
use lib.ListN.{length, get_or, length-append}
use Rattle.hash_once.proofs.ApartLaws.{beside_are, beside_many}
use Rattle.hash_order.proofs.KeepLaws.{every_one, keep_all}
use Rattle.hash_order.proofs.OrderLaws.{ascend_most}
use Rattle.hash_order.specs.Order.{member, keep, ascend, ascends}
use Rattle.pick.proofs.ClimbLaws.{accepted_held, accepted_listed, accepted_rows}
use Rattle.pick.specs.Picking.{pick_checked}
use Rattle.pick.specs.declared.radio.Radio.{Radio}
use Rattle.rules.proofs.Cases.{split}
use Rattle.rules.proofs.Hash.{length_hashes_at}
use Rattle.rules.specs.Hash.{hashes_at}
use Rattle.rules.specs.Sizes.{sizes}
use Rattle.send.specs.Internal.Chosen.{chosen_by}
use Rattle.session.specs.Plan.{Body, list_of}
use Rattle.table.proofs.TableLaws.{length_rows_at}
use Rattle.table.specs.TableBytes.{rows_at}
use Rattle.table.specs.Table.{Row, rows, hash_of, held}
use Rattle.table_graph.proofs.PickLaws.{pick_none, marks_picked, marked_most}
use Rattle.table_graph.specs.Internal.Marks.{Marks, Blank, picked}
use Rattle.table_index.specs.Index.{Indexed}
use Rattle.plan_count.specs.Internal.PlanCount.{BodyCounted, BodyGoes, Unsent, going_of, found_of}
use Rattle.plan_count.specs.declared.carried.Carried.{Carried}
use Rattle.std.specs.Prelude.{Result, Ok}

-- all of a body goes
pub all_goes : {t : List Row} {n : ℕ} {b : Body} {need sent : List ℕ} {marks needs fresh : List Bool} {k : Carried}
    → BodyCounted t n b need sent marks needs fresh k
    → BodyGoes t n b (Ok tt) need sent marks needs fresh k
all_goes c =
    record {
      row_long = c.row_long;
      need_long = c.need_long;
      fresh_long = c.new.long;
      document = c.body.document;
      hashes = c.body.hashes.many;
      picked = c.unpicked;
      many = c.new.many;
      list = λ e. c.body.hashes.list;
      new = λ e. c.new;
    }

none_picked : (need : List ℕ) (needs : List Bool) → Blank (length need) needs → picked need needs ≡ []
none_picked need needs b = marks_picked need needs (λ i. false) b ∙ pick_none need 0

-- a pick that is accepted goes, and any pick is counted
module _ {table index : List ℕ} {n : ℕ} (good : Indexed table index n) (list need sent pick rowSizes : List ℕ) (budget : ℕ) (unsent : Unsent (list_of list) sent)
    (up : ascends sent ≡ true) where
  abbrev t : List Row
  t = rows_at table 0 n

  abbrev found : Result Unit ℕ
  found = pick_checked t list rowSizes budget pick

  module _ (marks needs fresh : List Bool) (row_long : n ≤ length marks) (need_long : length need ≤ length needs) (fresh_long : n ≤ length fresh)
      (those : Marks n marks (λ i. member (hash_of (rows_at table 0 n) i) pick)) (none : Blank (length need) needs)
      (copied : Marks n fresh (λ i. get_or marks i false)) where
    new_rows : found ≡ Ok tt → Marks n fresh (λ i. member (hash_of t i) pick && not (member (hash_of t i) sent))
    new_rows e =
        record {
          each =
              λ i l.
              copied.each i l ∙ those.each i l
              ∙ split (member (hash_of t i) pick)
              (λ m. rw (m, unsent refl (hash_of t i) (accepted_listed t list rowSizes budget pick e (hash_of t i) m)))
              (λ m. rw m);
        }

    are_rows : found ≡ Ok tt → picked (rows t) marks ≡ pick
    are_rows e = accepted_rows t list rowSizes budget pick good.rows.good e marks (rw (length_rows_at table 0 n) those)

    pub pick_goes : {total count : ℕ} {r : Result Unit ℕ} → r ≡ pick_checked (rows_at table 0 n) list rowSizes budget pick → count ≡ length pick
        → total ≡ length (ascend (pick ++ sent))
        → BodyGoes (rows_at table 0 n) n (list_of pick) (pick_checked (rows_at table 0 n) list rowSizes budget pick) need sent marks needs fresh
        (record { body = record { document = false; hashes = count }; picked = r; sent = total })
    unfolding chosen_by
    pick_goes {total = total} e many all =
        record {
          row_long = row_long;
          need_long = need_long;
          fresh_long = fresh_long;
          document = refl;
          hashes = many;
          picked = e;
          many = all;
          list = λ f. rw (none_picked need needs none) (are_rows f);
          new =
              λ f.
              let marks-new = new_rows f in
              let alone : keep (held t) pick ≡ pick = keep_all (held t) pick (every_one (held t) pick (accepted_held t list rowSizes budget pick f)) in
              record {
                long = fresh_long;
                those = marks-new;
                all = all ∙ rw alone at (beside_many table index n good pick sent fresh marks-new up);
                many = all;
                are = rw alone at (beside_are table index n good pick sent fresh marks-new);
              };
        }

-- a pick that is passed has no more hashes than a list may have
pub passed_few_lem : (pick : List ℕ) → length pick ≤ sizes.hashes * sizes.hash → length (hashes_at pick 0 (length pick / sizes.hash)) ≤ sizes.hashes
passed_few_lem pick h = rw (length_hashes_at pick 0 (length pick / sizes.hash)) (omega arith)

-- ---- with a radio or without one

first_of : {A : Type 0} (d : Bool) (x y : A) → d ≡ true → cond d x y ≡ x
first_of d x y e = rw e

module _ (r : Radio) (t : List Row) (n : ℕ) (b : Body) (rowSizes pick need sent : List ℕ) (marks needs fresh : List Bool) (k : Carried) where
  pub goes_unlimited : r.limited ≡ false → BodyGoes t n b (Ok tt) need sent marks needs fresh k
      → BodyGoes t n (going_of r b pick) (found_of r t b rowSizes pick) need sent marks needs fresh k
  unfolding going_of found_of
  goes_unlimited e g = rw e g

  pub goes_whole : r.limited ≡ true → b.document ≡ true → BodyGoes t n b (Ok tt) need sent marks needs fresh k
      → BodyGoes t n (going_of r b pick) (found_of r t b rowSizes pick) need sent marks needs fresh k
  unfolding going_of found_of
  goes_whole e f g = rw (e, first_of b.document b (list_of pick) f, first_of b.document (Ok tt) (pick_checked t b.hashes rowSizes r.budget pick) f) g

  pub goes_picked : r.limited ≡ true → b.document ≡ false
      → BodyGoes t n (list_of pick) (pick_checked t b.hashes rowSizes r.budget pick) need sent marks needs fresh k
      → BodyGoes t n (going_of r b pick) (found_of r t b rowSizes pick) need sent marks needs fresh k
  unfolding going_of found_of
  goes_picked e f g = rw (e, f) g

-- no more goes than may be sent at once
pub going_few : (r : Radio) (b : Body) (pick : List ℕ) → length pick ≤ sizes.hashes → length b.hashes ≤ sizes.hashes_to_send
    → length (going_of r b pick).hashes ≤ sizes.hashes_to_send
unfolding going_of
going_few r b pick short few =
    split r.limited
    (λ e. split b.document (λ d. rw (e, first_of b.document b (list_of pick) d) few) (λ d. rw (e, d) (omega arith)))
    (λ e. rw e few)

module _ (r : Radio) (t : List Row) (b : Body) (rowSizes pick : List ℕ) (short : length pick ≤ sizes.hashes) where
  -- and the hashes sent with it are small enough to be counted
  pub going_small : {n : ℕ} {need sent : List ℕ} {marks needs fresh : List Bool} {k : Carried}
      → BodyGoes t n (going_of r b pick) (found_of r t b rowSizes pick) need sent marks needs fresh k → n ≤ sizes.rows → length sent ≤ sizes.sent_hashes
      → k.sent ≤ sizes.sent_hashes + sizes.rows
  unfolding going_of found_of
  going_small {n = n} {sent = sent} {fresh = fresh} g rows_few sent_few_lem =
      split r.limited
      (λ e.
      split b.document
      (λ d.
      let whole = rw (e, first_of b.document b (list_of pick) d, first_of b.document (Ok tt) (pick_checked t b.hashes rowSizes r.budget pick) d) at g in
      omega (arith, (whole.new refl).all, marked_most n fresh))
      (λ d. let picks = rw (e, d) at g in omega (arith, picks.many, ascend_most (pick ++ sent), length-append pick sent)))
      (λ e. let all = rw e at g in omega (arith, (all.new refl).all, marked_most n fresh))

-- the rows of a list that wasn't sent are marked where those are that weren't sent before
pub list_marked : (t : List Row) (n : ℕ) (list sent : List ℕ) (fresh : List Bool)
    → Marks n fresh (λ i. member (hash_of t i) list && not (member (hash_of t i) sent))
    → ((h : ℕ) → member h list ≡ true → member h sent ≡ false)
    → Marks n fresh (λ i. member (hash_of t i) list)
list_marked t n list sent fresh m new =
    record {
      each = λ i l. m.each i l ∙ split (member (hash_of t i) list) (λ e. rw (e, new (hash_of t i) e)) (λ e. rw e);
    }
