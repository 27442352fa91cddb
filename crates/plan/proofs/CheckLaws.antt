-- The tests before planning: what the code finds is what they say, and what they say is what is planned. Assumes nothing.
use Prim.Native.Nat.{ℕ, ◌*◌, ◌/◌, ◌≤◌}
use mathlib.Core.Bool.{Bool, true, false, cond, not}
use mathlib.Core.List.{List}
use mathlib.Core.Path.{◌≡◌, refl, sym, ◌∙◌}
use native.Mathlib.Omega.{arith}
use lib.ListN.{length}
use Rattle.plan_make.specs.Internal.PlanMake.{PlanChecked}
use Rattle.table_index.specs.Index.{Indexed, index_checked}
use Rattle.table_index.proofs.CheckLaws.{checked_table, checked_indexed}
use Rattle.session_check.specs.SessionGood.{session_good}
use Rattle.session.specs.PlanCall.{Buffers, after_tables, plan_after, planned_answer, planned_roomed, put_into, planned_lists, PlanCalled}
use Rattle.rules.specs.declared.refusal.Refusal.{Refusal}
use Rattle.rules.specs.declared.refusal.Refusal.TheVariants.{BadNumbers}
use Rattle.rules.proofs.Cases.{read_same}
use Rattle.pick.specs.declared.radio.Radio.{Radio}
use Rattle.plan_count.specs.Internal.PlanCount.{going_of, found_of}
use Rattle.rules.proofs.PassedLaws.{passed_is, after_refused as passed-refused, after_hashes as passed_hashes_lem}
use Rattle.rules.specs.Hash.{hashes_at}
use Rattle.rules.specs.Passed.{passed_hashes}
use Rattle.rules.specs.Sizes.{sizes}
use Rattle.session.specs.Plan.{Planned, body_of, plan_body}
use Rattle.session_state.specs.Session.{State}
use Rattle.session_state.specs.Value.{Lent}
use Rattle.session_state.specs.declared.session.Session.{Session}
use Rattle.settings.specs.declared.choice.Choice.{Choice}
use Rattle.table.specs.TableBytes.{rows_at, table_of}
use Rattle.table.specs.TableCalls.{passed_on}
use Rattle.table.specs.Table.{Row}
use Rattle.table.proofs.TableLaws.{table_good}
use Rattle.waiting.specs.Waiting.{Waiting}
use Rattle.waiting.specs.WaitingBytes.{waiting_checked, InOrder}
use Rattle.waiting.specs.WaitingCalls.{tables_checked}
use Rattle.plan.specs.Internal.PlanChecks.{beside_checked, beside_table, checked_plan, ChecksMade, plan_over}
use Rattle.std.specs.Prelude.{Result, Ok, Err}

-- ---- what the code finds

no_good : (r : Refusal) (n m : ℕ) → ◌≡◌ {A = Result (ℕ × ℕ) Refusal} (Err r) (Ok (n, m)) → ⊥
no_good r n m e = let z : ◌≡◌ {A = ℕ} 0 1 = cc in omega arith

module _ (s : Session) (l : Lent) (table index waiting order : List ℕ) {found : Bool} (is : found ≡ session_good s l) where
  -- a refusal leaves no order
  refused_made : (r : Refusal) → Err r ≡ checked_plan s l table index waiting → ChecksMade s l table index waiting order (Err r)
  refused_made r e = record { answer = e; sorted = λ n m q. absurd (no_good r n m q) }

  pub bad_session : found ≡ false → ChecksMade s l table index waiting order (Err BadNumbers)
  unfolding checked_plan
  bad_session e = refused_made _ (rw (sym is ∙ e))

  module _ (good : found ≡ true) {rows : Result ℕ Refusal} (those : rows ≡ index_checked table index) where
    pub bad_table : (r : Refusal) → rows ≡ Err r → ChecksMade s l table index waiting order (Err r)
    unfolding checked_plan beside_table
    bad_table r e = refused_made r (rw (sym is ∙ good, sym those ∙ e))

    module _ (n : ℕ) (there : rows ≡ Ok n) {beside : Result ℕ Refusal} (others : InOrder (rows_at table 0 n) waiting order beside) where
      same : table_of table ≡ rows_at table 0 n
      same = (table_good table n (checked_table table index n (sym those ∙ there))).is

      pub bad_waiting : (r : Refusal) → beside ≡ Err r → ChecksMade s l table index waiting order (Err r)
      unfolding checked_plan beside_table beside_checked
      bad_waiting r e = refused_made r (rw (sym is ∙ good, sym those ∙ there, same, sym others.answer ∙ e))

      pub both_good : (m : ℕ) → beside ≡ Ok m → ChecksMade s l table index waiting order (Ok (n, m))
      unfolding checked_plan beside_table beside_checked
      both_good m e =
          record {
            answer = rw (sym is ∙ good, sym those ∙ there, same, sym others.answer ∙ e);
            sorted = λ k j q. rw (read_same q).1 at (others.sorted m e);
          }

-- the rows are good and the index fits them
pub rows_indexed : (table index : List ℕ) (n : ℕ) {rows : Result ℕ Refusal} → rows ≡ index_checked table index → rows ≡ Ok n → Indexed table index n
rows_indexed table index n those there = checked_indexed table index n (sym those ∙ there)

-- ---- what is planned then

-- a refusal is answered, and nothing is left in what is lent
left : (l : Lent) (b : Buffers) (r : Refusal) → PlanCalled (Planned.refused r) l l b b (Err r)
unfolding planned_answer planned_roomed put_into planned_lists
left l b r = record { answer = refl; buffers = refl; lists = refl }

no_refusal : (r : Refusal) (n m : ℕ) → ◌≡◌ {A = Result (ℕ × ℕ) Refusal} (Ok (n, m)) (Err r) → ⊥
no_refusal r n m e = let z : ◌≡◌ {A = ℕ} 0 1 = cc in omega arith

beside_refused : (n : ℕ) (y : Result ℕ Refusal) (r : Refusal) (p : Planned) → beside_checked n y ≡ Err r → after_tables y p ≡ Planned.refused r
unfolding beside_checked after_tables
beside_refused n (Ok m) r p e = absurd (no_refusal r n m e)
beside_refused n (Err q) r p e = let same : q ≡ r = cc in rw same

after_refused : (x : Result ℕ Refusal) (t : List Row) (w : List ℕ) (r : Refusal) (p : Planned) → beside_table x t w ≡ Err r
    → after_tables (passed_on x (waiting_checked t w)) p ≡ Planned.refused r
unfolding beside_table after_tables passed_on
after_refused (Ok n) t w r p e = beside_refused n (waiting_checked t w) r p e
after_refused (Err q) t w r p e = let same : q ≡ r = cc in rw same

beside_good : (k n m : ℕ) (y : Result ℕ Refusal) → beside_checked k y ≡ Ok (n, m) → (k ≡ n) × (y ≡ Ok m)
unfolding beside_checked
beside_good k n m (Ok j) e =
    let same : (k ≡ n) × (j ≡ m) = read_same e in
    (same.0, rw same.1)
beside_good k n m (Err r) e = absurd (no_good r n m e)

after_good : (x : Result ℕ Refusal) (t : List Row) (w : List ℕ) (n m : ℕ) → beside_table x t w ≡ Ok (n, m)
    → (x ≡ Ok n) × (waiting_checked t w ≡ Ok m)
unfolding beside_table
after_good (Ok k) t w n m e =
    let b = beside_good k n m (waiting_checked t w) e in
    let same : k ≡ n = b.0 in
    (rw same, b.1)
after_good (Err r) t w n m e = absurd (no_good r n m e)

abbrev checks : Bool → List ℕ → List ℕ → List ℕ → Result (ℕ × ℕ) Refusal
checks good table index waiting =
    cond (not good) (Err BadNumbers) (beside_table (index_checked table index) (table_of table) waiting)

good_checks : (good : Bool) (table index waiting : List ℕ) (n m : ℕ) → checks good table index waiting ≡ Ok (n, m)
    → (good ≡ true) × ((index_checked table index ≡ Ok n) × (waiting_checked (table_of table) waiting ≡ Ok m))
good_checks true table index waiting n m e = (refl, after_good (index_checked table index) (table_of table) waiting n m e)
good_checks false table index waiting n m e = absurd (no_good BadNumbers n m e)

module _ (s : Session) (l : Lent) (table index waiting order : List ℕ) (n m : ℕ) {found : Result (ℕ × ℕ) Refusal} (made : ChecksMade s l table index waiting order found)
    (good : found ≡ Ok (n, m)) where
  parts : (session_good s l ≡ true) × ((index_checked table index ≡ Ok n) × (waiting_checked (table_of table) waiting ≡ Ok m))
  unfolding checked_plan
  parts = good_checks (session_good s l) table index waiting n m (sym made.answer ∙ good)

  pub same_rows : table_of table ≡ rows_at table 0 n
  same_rows = (table_good table n (checked_table table index n parts.1.0)).is

  pub checked : PlanChecked table index n waiting order m s l
  checked =
      record {
        rows = checked_indexed table index n parts.1.0;
        waiting_rows = rw same_rows at parts.1.1;
        sorted = made.sorted n m good;
        session = parts.0;
      }

  -- Tables and a session that are good are planned with.
  pub good_plans : (p : Planned) → plan_after s l table index waiting p ≡ p
  unfolding tables_checked passed_on after_tables
  good_plans p = rw (parts.0, parts.1.0, parts.1.1)

  -- A refusal of the setting or of the pick comes behind theirs, and leaves the buffers.
  pub later_refused : (p : Planned) (r : Refusal) → p ≡ Planned.refused r → (b : Buffers)
      → PlanCalled (plan_after s l table index waiting p) l l b b (Err r)
  later_refused p r e b = rw (good_plans p, e) (left l b r)

module _ (s : Session) (l : Lent) (table index waiting : List ℕ) where
  abbrev plans : Planned → Bool → Planned
  plans p good = cond (not good) (Planned.refused BadNumbers) (after_tables (tables_checked table index waiting) p)

  refused_plans : (p : Planned) (good : Bool) (r : Refusal) → checks good table index waiting ≡ Err r → plans p good ≡ Planned.refused r
  unfolding tables_checked
  refused_plans p true r e = after_refused (index_checked table index) (table_of table) waiting r p e
  refused_plans p false r e = let same : BadNumbers ≡ r = cc in rw same

  -- A refusal passes on, and leaves the buffers.
  pub refused_called : (p : Planned) (b : Buffers) (r : Refusal) {found : Result (ℕ × ℕ) Refusal} → found ≡ checked_plan s l table index waiting → found ≡ Err r
      → PlanCalled (plan_after s l table index waiting p) l l b b (Err r)
  unfolding checked_plan
  refused_called p b r is e = rw (refused_plans p (session_good s l) r (sym is ∙ e)) (left l b r)

-- ---- what is planned by the setting and the pick

module _ (r : Radio) (rowSizes pick : List ℕ) (t : List Row) (w : List Waiting) (s : State) where
  abbrev said : Choice → ℕ → Planned
  said c k = plan_body c.bits c.probes t w s (going_of r (body_of t s) (hashes_at pick 0 k)) (found_of r t (body_of t s) rowSizes (hashes_at pick 0 k))

  pub list_refused : {a : Result Choice Refusal} (x : Refusal) → a ≡ Err x → plan_over a r rowSizes pick t w s ≡ Planned.refused x
  unfolding plan_over
  list_refused x e = rw e

  pub pick_refused : {a : Result Choice Refusal} (c : Choice) → a ≡ Ok c → (x : Refusal) → passed_hashes pick ≡ Err x
      → plan_over a r rowSizes pick t w s ≡ Planned.refused x
  unfolding plan_over
  pick_refused c e x f = rw e (passed-refused Planned.refused _ (passed_hashes pick) x f)

  pub pick_passed : {a : Result Choice Refusal} (c : Choice) → a ≡ Ok c → (k : ℕ) → passed_hashes pick ≡ Ok k
      → plan_over a r rowSizes pick t w s
      ≡ plan_body c.bits c.probes t w s (going_of r (body_of t s) (hashes_at pick 0 (length pick / sizes.hash)))
      (found_of r t (body_of t s) rowSizes (hashes_at pick 0 (length pick / sizes.hash)))
  unfolding plan_over
  pick_passed c e k f =
      let many : k ≡ length pick / sizes.hash = omega (arith, (passed_is pick k f).whole) in
      rw (e, passed_hashes_lem Planned.refused (said c) (passed_hashes pick) k f, many)

pub pick_short : (pick : List ℕ) (k : ℕ) → passed_hashes pick ≡ Ok k → length pick ≤ sizes.hashes * sizes.hash
pick_short pick k f = let p = passed_is pick k f in omega (arith, p.whole, p.few)
