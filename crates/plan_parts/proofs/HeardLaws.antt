-- What was heard, as a count and a buffer: its hashes stand inside what is lent and are the list that was heard. What is missing from those of them
-- that are asked for is the need, and comparing takes the list as it stands.
use Prim.Native.Nat.{ℕ, zero, suc, ◌+◌, ◌*◌, ◌≤◌}
use mathlib.Core.Bool.{Bool, true, false, cond}
use mathlib.Core.List.{List, []}
use mathlib.Core.Path.{◌≡◌, refl, sym, ap, ◌∙◌}
use native.Mathlib.Omega.{arith}
use borrow.Author.Tests.{ne_eqb}
use lib.Dec.{eqb}
use lib.ListN.{length}
use Rattle.session_check.proofs.GoodSessions.{list_parts}
use Rattle.session_check.specs.SessionGood.{heard_good}
use Rattle.hash_lists.specs.Lists.{same}
use Rattle.waiting_missing.proofs.FoundLaws.{found_many, refs_many, refs_all}
use Rattle.waiting_missing.proofs.MissingLaws.{missing_held, missing_of_nothing}
use Rattle.waiting_missing.specs.Internal.Take.{RefsFound}
use Rattle.waiting_missing.specs.Missing.{missing}
use Rattle.waiting_missing.specs.declared.missing.FoundCount.{FoundCount}
use Rattle.hash_order.proofs.KeepLaws.{every_member}
use Rattle.hash_order.specs.Order.{member, every}
use Rattle.rules.proofs.Cases.{split}
use Rattle.rules.specs.Hash.{hashes_at}
use Rattle.rules.specs.Sizes.{sizes}
use Rattle.session.specs.Plan.{heard, heard_as, need_of}
use Rattle.session_state.specs.Value.{heard_count, heard_hashes}
use Rattle.table.specs.Table.{Row, held}
use Rattle.waiting.specs.Waiting.{Waiting}
use Rattle.plan_parts.specs.Internal.PlanParts.{NeedFound}
use Rattle.std.specs.Prelude.{Option, Some, None}

-- ---- all of them

pub heard_there : (s : List ℕ) (h : Option ℕ) (k : ℕ) → k ≡ heard_count h → heard_good s h ≡ true → 0 + sizes.hash * k ≤ length s
unfolding heard_good
heard_there s None k e g = omega arith
heard_there s (Some n) k e g = omega (arith, (list_parts s n g).there)

heard_few : (s : List ℕ) (h : Option ℕ) (k : ℕ) → k ≡ heard_count h → heard_good s h ≡ true → k ≤ sizes.hashes
unfolding heard_good
heard_few s None k e g = omega arith
heard_few s (Some n) k e g = omega (arith, (list_parts s n g).few)

pub heard_list : (s : List ℕ) (h : Option ℕ) (k : ℕ) → k ≡ heard_count h → hashes_at s 0 k ≡ heard (heard_hashes s h)
unfolding heard_hashes hashes_at
heard_list s None k e = rw e
heard_list s (Some n) k e = rw e

-- ---- those that are asked for

module _ (s : List ℕ) (readOnlyUnit : Bool) (h : Option ℕ) (k : ℕ) (e : k ≡ cond readOnlyUnit 0 (heard_count h)) where
  none_asked : readOnlyUnit ≡ true → k ≡ 0
  none_asked r = e ∙ rw r

  all_asked : readOnlyUnit ≡ false → k ≡ heard_count h
  all_asked r = e ∙ rw r

  pub asked_there : heard_good s h ≡ true → 0 + sizes.hash * k ≤ length s
  asked_there g = split readOnlyUnit (λ r. omega (arith, none_asked r)) (λ r. heard_there s h k (all_asked r) g)

  pub asked_few : heard_good s h ≡ true → k ≤ sizes.hashes
  asked_few g = split readOnlyUnit (λ r. omega (arith, none_asked r)) (λ r. heard_few s h k (all_asked r) g)

  need_asked : (t : List Row) (w : List Waiting) → missing t w (hashes_at s 0 k) ≡ need_of t w readOnlyUnit (heard (heard_hashes s h))
  unfolding need_of hashes_at
  need_asked t w =
      split readOnlyUnit (λ r. rw (none_asked r, r) (missing_of_nothing t w)) (λ r. rw (r, heard_list s h k (all_asked r)))

  -- nothing is missing from held heads
  pub nothing_asked : (t : List Row) → every (held t) (hashes_at s 0 k) ≡ true → (w : List Waiting) → need_of t w readOnlyUnit (heard (heard_hashes s h)) ≡ []
  nothing_asked t all w = sym (need_asked t w) ∙ missing_held t w (hashes_at s 0 k) (every_member (held t) (hashes_at s 0 k) all)

  -- heads that aren't asked for don't count: then nothing is
  heard_asked : (t : List Row) (w : List Waiting)
      → every (λ x. member x (hashes_at s 0 k)) (missing t w (hashes_at s 0 k))
      ≡ every (λ x. member x (heard (heard_hashes s h))) (need_of t w readOnlyUnit (heard (heard_hashes s h)))
  unfolding need_of hashes_at every
  heard_asked t w =
      split readOnlyUnit
      (λ r. rw (none_asked r, r, missing_of_nothing t w))
      (λ r. rw (r, heard_list s h k (all_asked r)))

  -- So what is found from them is the need.
  pub need_found : (t : List Row) (w : List Waiting) (waiting refs : List ℕ) (f : FoundCount) (b : Bool) → length refs ≡ sizes.hashes + 1
      → RefsFound s 0 k waiting (missing t w (hashes_at s 0 k)) refs f
      → b ≡ eqb f.listed f.all
      → NeedFound s waiting refs (need_of t w readOnlyUnit (heard (heard_hashes s h))) (heard_hashes s h) (record { heads = k; count = f.all; heard = b })
  need_found t w waiting refs f b room so is =
      record {
        counted =
            record {
              within = omega (arith, room, so.found.room);
              all = λ few. omega (arith, found_many so, ap length (refs_all so (omega (arith, room))), ap length (need_asked t w));
              many = λ more. omega (arith, room, refs_many so (omega (arith, room, so.found.room)), ap length (need_asked t w));
              each = λ few. is ∙ so.own (omega (arith, room)) ∙ heard_asked t w;
            };
        found = so.found;
        are = λ few. refs_all so (omega (arith, room)) ∙ need_asked t w;
      }

-- ---- compared

module _ (s : List ℕ) (h : Option ℕ) (l : List ℕ) where
  pub as_nothing : h ≡ None → false ≡ heard_as l (heard_hashes s h)
  unfolding heard_hashes
  as_nothing e = rw e

  pub none_nothing : h ≡ None → false ≡ heard_as [] (heard_hashes s h)
  unfolding heard_hashes
  none_nothing e = rw e

  pub none_count : (n : ℕ) → h ≡ Some n → (b : Bool) → b ≡ eqb n 0 → b ≡ heard_as [] (heard_hashes s h)
  unfolding heard_hashes hashes_at same
  none_count n e b f = rw (e, f) (none_of n)
    where
      none_of : (n : ℕ) → eqb n 0 ≡ same (hashes_at s 0 n) []
      none_of zero = refl
      none_of (suc n) = ne_eqb (suc n) 0 (λ z. omega arith)

  pub as_count : (n : ℕ) → h ≡ Some n → same (hashes_at s 0 n) l ≡ heard_as l (heard_hashes s h)
  unfolding heard_hashes
  as_count n e = rw e

pub count_there : (s : List ℕ) (h : Option ℕ) (n : ℕ) → h ≡ Some n → heard_good s h ≡ true → 0 + sizes.hash * n ≤ length s
count_there s h n e g = heard_there s h n (rw e) g
