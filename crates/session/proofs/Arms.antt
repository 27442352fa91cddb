-- M-105's two theorems. A filter with entries that is accepted has a field that isn't empty, and a probe is a remainder by the field's bits; a plan's body
-- is nothing, the rows of the table, or hashes to send, which are rows. Assumes nothing.
use Prim.Native.Nat.{ℕ}
use mathlib.Core.Bool.{true, ◌&&◌}
use mathlib.Core.List.{List}
use mathlib.Core.Path.{◌≡◌, refl, subst}
use lib.Dec.{ltb}
use lib.ListN.{length}
use Rattle.bloom.proofs.HaveLaws.{passed_haves, good_filters}
use Rattle.session_check.proofs.GoodSessions.{haves_parts, session_tests}
use Rattle.session_check.specs.SessionGood.{haves_good}
use Rattle.hash_order.specs.Order.{every}
use Rattle.bloom_probe.proofs.InsideLaws.{probes_inside as rules-inside, built_inside, passed_inside, read_inside}
use Rattle.rules.proofs.Cases.{split}
use Rattle.rules.specs.Sizes.{sizes}
use Rattle.session.proofs.PlanLaws.{planned_held}
use Rattle.session.specs.Plan.{Body, Planned, heard, need_of, unknown_sync, body_of, empty, silence, sent_after, plan_of, planned, reset_of, is_fine, unless_broken, plan_body}
use Rattle.session_state.specs.Session.{State}
use Rattle.table.specs.Table.{Row, held}
use Rattle.waiting.specs.Waiting.{Waiting}
use Rattle.session.specs.Arms.{ProbesInside, asked_of, PlannedRows}
use Rattle.std.specs.Prelude.{Result, Ok, Err}

pub probes_inside : ProbesInside
probes_inside =
    record {
      ruled = rules-inside;
      built = built_inside;
      read = read_inside;
      passed = λ s haves good few. passed_inside s haves (good_filters s haves (passed_haves s haves good few));
      kept =
          λ s l count good said i h.
          let haves = subst (λ n. haves_good l.bytes l.haves n ≡ true) said (session_tests s l good).their_have in
          let parts = haves_parts l.bytes l.haves count haves in
          passed_inside l.bytes _ parts.filters i (rw parts.records h);
    }

-- with a body of rows, or a pick that isn't accepted, a plan asks for rows
module _ (bits probes : ℕ) (t : List Row) (w : List Waiting) (s : State) (b : Body) (c : Result Unit ℕ)
    (are : c ≡ Ok tt → every (held t) b.hashes ≡ true) where
  said_rows : (k : Result Unit ℕ) → (k ≡ Ok tt → every (held t) b.hashes ≡ true)
      → every (held t) (asked_of (unless_broken k (Planned.says (plan_of bits probes t w s b) (planned t s b)))) ≡ true
  unfolding plan_of every
  said_rows (Ok tt) f = f refl
  said_rows (Err place) f = refl

  pub body_rows : every (held t) (asked_of (plan_body bits probes t w s b c)) ≡ true
  unfolding plan_body reset_of every
  body_rows =
      split (ltb sizes.hashes (length (need_of t w s.read_only (heard s.their_heads))))
      (λ x. rw x refl)
      (λ x.
      split (unknown_sync t s.their_have)
      (λ y. rw (x, y) refl)
      (λ y.
      split (silence t s (is_fine c && empty b.hashes))
      (λ z. rw (x, y, z) refl)
      (λ z.
      split (ltb sizes.sent_hashes (length (sent_after s b))) (λ v. rw (x, y, z, v) refl) (λ v. rw (x, y, z, v) (said_rows c are)))))

pub planned_rows : PlannedRows
planned_rows bits probes t w s good = body_rows bits probes t w s (body_of t s) (Ok tt) (λ e. planned_held t good s)
