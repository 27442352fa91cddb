-- A body's hashes as marks: all rows, none, or what was chosen; and which of these goes, a law for each way through the tests.
use Prim.Native.Nat.{ℕ, suc, ◌*◌, ◌/◌, ◌≤◌}
use mathlib.Core.Bool.{Bool, true, false, cond, ◌&&◌, ◌||◌}
use mathlib.Core.List.{List, [], ◌∷◌}
use mathlib.Core.Path.{◌≡◌, refl, sym, ◌∙◌}
use native.Mathlib.Omega.{arith}
use lib.Dec.{ltb}
use lib.ListN.{length}
use Rattle.bloom.specs.Have.{Have, have_words, haves_of}
use Rattle.table_graph.specs.Internal.Marks.{Marks, Blank, pick_from, picked}
use Rattle.table_graph.proofs.GraphMarks.{many_rows, marked_rows}
use Rattle.table_graph.proofs.PickLaws.{pick_none, marks_picked, rows_picked}
use Rattle.table_index.specs.Index.{Indexed}
use Rattle.session_check.specs.SessionGood.{heard_good, haves_good}
use Rattle.session_check.proofs.GoodLaws.{heard_count_lem}
use Rattle.session_check.proofs.GoodSessions.{HavesParts, list_parts, haves_parts}
use Rattle.rules.proofs.Cases.{true_false}
use Rattle.rules.specs.Hash.{hashes_at}
use Rattle.rules.specs.Sizes.{sizes}
use Rattle.rules.proofs.Hash.{length_hashes_at}
use Rattle.send.specs.Internal.Chosen.{Chosen, Choosable, chosen_by}
use Rattle.send.specs.ToSend.{to_send_less}
use Rattle.send.proofs.SendCalls.{syncs_inside}
use Rattle.session.specs.Plan.{Body, list_of, document_of, document_part, body_for, body_heard}
use Rattle.session_state.specs.Value.{kept_haves, heard_count, heard_hashes, heard_haves}
use Rattle.table.specs.TableBytes.{rows_at}
use Rattle.table.specs.Table.{Row, rows}
use Rattle.plan_parts.specs.Internal.PlanParts.{BlankBody, DocumentMarked, BodyChosen}
use Rattle.plan_parts.specs.declared.body.BodyCount.{BodyCount}
use Rattle.std.specs.Prelude.{Option, Some, None}

-- ---- nothing and everything

pick_all : (l : List ℕ) (i : ℕ) → pick_from i l (λ k. true) ≡ l
unfolding pick_from
pick_all [] i = refl
pick_all (x ∷ xs) i = rw (pick_all xs (suc i))

none_picked : (l : List ℕ) (n : ℕ) (m : List Bool) → length l ≡ n → Blank n m → picked l m ≡ []
none_picked l n m e b = marks_picked l m (λ i. false) (rw e b) ∙ pick_none l 0

all_picked : (table : List ℕ) (n : ℕ) (m : List Bool) → Marks n m (λ i. true) → picked (rows (rows_at table 0 n)) m ≡ rows (rows_at table 0 n)
all_picked table n m all =
    marked_rows table n m (λ i. true) all ∙ rows_picked (rows_at table 0 n) (λ i. true) ∙ pick_all (rows (rows_at table 0 n)) 0

module _ (table : List ℕ) (n : ℕ) (need : List ℕ) (count : ℕ) (marks needs : List Bool) where
  abbrev t : List Row
  t = rows_at table 0 n

  abbrev asked : List ℕ
  asked = hashes_at need 0 count

  -- the document
  pub document_chosen : (r : BodyCount) → DocumentMarked n count marks needs r → BodyChosen (document_of t) t marks asked needs r
  unfolding chosen_by
  document_chosen r d =
      let no-needs : picked asked needs ≡ [] = none_picked asked count needs (length_hashes_at need 0 count) d.none in
      let every-row : picked (rows t) marks ≡ rows t = all_picked table n marks d.all in
      rw d.is (record { document = refl; hashes = record { list = rw (no-needs, every-row); many = sym (many_rows table n) } })

  -- nothing
  pub none_chosen : BlankBody n count marks needs → BodyChosen (list_of []) t marks asked needs (record { document = false; hashes = 0 })
  unfolding chosen_by
  none_chosen b =
      let no-needs : picked asked needs ≡ [] = none_picked asked count needs (length_hashes_at need 0 count) b.no_need in
      let no_rows : picked (rows t) marks ≡ [] = none_picked (rows t) n marks (many_rows table n) b.no_row in
      record { document = refl; hashes = record { list = rw (no-needs, no_rows); many = refl } }

-- ---- which of the two

goes_whole : (v2 headless long : Bool) → (v2 && headless) ≡ true → (v2 && (headless || long)) ≡ true
goes_whole true true long e = refl
goes_whole true false long e = absurd (true_false false e refl)
goes_whole false headless long e = absurd (true_false false e refl)

goes_long : (v2 headless long : Bool) → (v2 && headless) ≡ false → (v2 && (headless || long)) ≡ (v2 && long)
goes_long true true long e = absurd (true_false true refl e)
goes_long true false long e = refl
goes_long false headless long e = refl

module _ (t : List Row) (v2 headless : Bool) (haves : List Have) (need sent : List ℕ) (marks needs : List Bool) (r : BodyCount) where
  pub body_headless : (v2 && headless) ≡ true → BodyChosen (document_of t) t marks need needs r
      → BodyChosen (body_for t v2 headless haves need sent) t marks need needs r
  unfolding body_for
  body_headless e m = rw (goes_whole v2 headless (ltb (length t / document_part) (length (to_send_less t haves need sent))) e) m

module _ (t : List Row) (v2 headless : Bool) (haves : List Have) (need sent : List ℕ) (marks needs : List Bool) (count n : ℕ) (e : (v2 && headless) ≡ false)
    (long : length t ≡ n)
    (so : Chosen (to_send_less t haves need sent) t marks need needs count) where
  pub body_long : (v2 && ltb (n / document_part) count) ≡ true → (marks' needs' : List Bool) (r : BodyCount)
      → BodyChosen (document_of t) t marks' need needs' r
      → BodyChosen (body_for t v2 headless haves need sent) t marks' need needs' r
  unfolding body_for
  body_long f marks' needs' r m = rw (goes_long v2 headless (ltb (length t / document_part) (length (to_send_less t haves need sent))) e, long, ← so.many, f) m

  pub body_list : (v2 && ltb (n / document_part) count) ≡ false
      → BodyChosen (body_for t v2 headless haves need sent) t marks need needs (record { document = false; hashes = count })
  unfolding body_for
  body_list f = rw (goes_long v2 headless (ltb (length t / document_part) (length (to_send_less t haves need sent))) e, long, ← so.many, f) (record { document = refl; hashes = so })

-- ---- what was heard

module _ (peer_read_only : Bool) (b : Body) (t : List Row) (marks : List Bool) (need : List ℕ) (needs : List Bool) (r : BodyCount) where
  pub peer_closed : peer_read_only ≡ true → BodyChosen (list_of []) t marks need needs r → BodyChosen (cond peer_read_only (list_of []) b) t marks need needs r
  peer_closed e m = rw e m

  pub peer_open : peer_read_only ≡ false → BodyChosen b t marks need needs r → BodyChosen (cond peer_read_only (list_of []) b) t marks need needs r
  peer_open e m = rw e m

module _ (t : List Row) (v2 headless : Bool) (s haves : List ℕ) (have : Option ℕ) (theirs : List ℕ) (need : Option ℕ) (sent : List ℕ) (marks needs : List Bool)
    (r : BodyCount) where
  abbrev Made : Type 0
  Made =
      BodyChosen (body_heard t v2 headless (heard_haves s haves have) (heard_hashes theirs need) sent) t marks (hashes_at theirs 0 (heard_count need)) needs r

  abbrev Nothing : Type 0
  Nothing = BodyChosen (list_of []) t marks (hashes_at theirs 0 (heard_count need)) needs r

  pub no_have_lem : have ≡ None → Nothing → Made
  unfolding body_heard heard_haves
  no_have_lem e m = rw e m

  pub no_need_lem : (n : ℕ) → have ≡ Some n → need ≡ None → Nothing → Made
  unfolding body_heard heard_haves heard_hashes
  no_need_lem n e f m = rw (e, f) (rw f at m)

  pub both_heard : (n k : ℕ) → have ≡ Some n → need ≡ Some k
      → BodyChosen (body_for t v2 headless (haves_of s (kept_haves haves n)) (hashes_at theirs 0 k) sent) t marks (hashes_at theirs 0 k) needs r
      → Made
  unfolding body_heard heard_haves heard_hashes
  both_heard n k e f m = rw (e, f) m

-- what is chosen from is as long as what was heard
pub blank_heard : (n k : ℕ) (need : Option ℕ) (marks needs : List Bool) → need ≡ Some k → BlankBody n (heard_count need) marks needs
    → BlankBody n k marks needs
blank_heard n k need marks needs e b = rw e at b

-- what was heard is what can be chosen from
module _ (s haves : List ℕ) (have : Option ℕ) (count : ℕ) (h : have ≡ Some count) (kept : haves_good s haves have ≡ true) where
  heard_haves_lem : HavesParts s haves count
  heard_haves_lem = haves_parts s haves count (rw h at kept)

  pub heard_few : count ≤ sizes.haves
  heard_few = heard_haves_lem.few

  pub heard_records : have_words * count ≤ length haves
  heard_records = heard_haves_lem.there

  module _ (table index : List ℕ) (n : ℕ) (good : Indexed table index n) (theirs : List ℕ) (need : Option ℕ) (k : ℕ) (l : need ≡ Some k)
      (asked : heard_good theirs need ≡ true) where
    pub heard_choosable : Choosable table index n s (kept_haves haves count) theirs 0 k
    heard_choosable =
        let q = list_parts theirs k (sym (heard_count_lem theirs need k l) ∙ asked) in
        record {
          rows = good;
          filters = heard_haves_lem.filters;
          syncs = syncs_inside s (kept_haves haves count) heard_haves_lem.passed;
          needs = omega (arith, q.there);
          few = q.few;
        }
