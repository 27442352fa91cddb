-- Both units of a talk with news at both ends, between two messages: what their sessions hold beside the ends of walk_ends. Heads differ as long as not both hold
-- the joint set, since two dependency-closed parts with the same heads are the same rows; and a head that is new to a table came with what was loaded, so that the
-- other unit holds it. Assumes nothing.
use Prim.Native.Nat.{ℕ, ◌≤◌}
use mathlib.Core.Bool.{true, false, ◌&&◌, ◌||◌}
use mathlib.Core.List.{List, [], ◌∷◌, ◌++◌, append-nil, append_assoc}
use mathlib.Core.Option.{Option, none, some}
use mathlib.Core.Path.{◌≡◌, refl, sym, ap, subst, ◌∙◌}
use lib.ListN.{length, take}
use Rattle.hash_order.proofs.OrderLaws.{member_here, member_none}
use Rattle.hash_order.specs.Order.{member}
use Rattle.rules.proofs.Cases.{split, either, true_false, and_true}
use Rattle.session.proofs.GoodLaws.{fresh_good}
use Rattle.session.specs.GoodState.{GoodState}
use Rattle.session.specs.Plan.{unknown_sync, empty}
use Rattle.session.specs.Written.{haves_heard}
use Rattle.session_state.specs.Session.{State, fresh}
use Rattle.table.specs.Table.{Row, GoodTable, held, deps}
use Rattle.table_graph.proofs.HeadLaws.{head_held, head_last, heads_cover}
use Rattle.table_graph.specs.Graph.{heads}
use Rattle.waiting.specs.Waiting.{Waiting, waiting}
use Rattle.walk.proofs.Parts.{heads_all}
use Rattle.walk.proofs.Theorem1.{each_holds}
use Rattle.walk.specs.Round.{Part, Settles, done, step}
use Rattle.walk.specs.Walk.{holds_all}
use Rattle.walk_ends.specs.Ends.{StatedWords}
use Rattle.walk_sessions.proofs.Waits.{Waits, waits_none}

-- What a unit with table t has heard of the other one, whose table is u, beside what its end has heard: nothing, or the words of a message, in which no
-- last-sync hash is unknown to it.
pub data HeardSo (t u : List Row) (s : State) : Option StatedWords → Type 0 where
  nothing : s.their_heads ≡ none → s.their_have ≡ none → HeardSo t u s none
  words : (m : StatedWords) → m.heads ≡ heads u → s.their_heads ≡ some m.heads → s.their_need ≡ some m.need
      → s.their_have ≡ some (haves_heard m.haves)
      → s.supports_v2 ≡ true
      → unknown_sync t (some (haves_heard m.haves)) ≡ false
      → HeardSo t u s (some m)

-- A unit whose table is t, beside which w waits; the other one's is u, and `sent` is what its end has sent.
pub record Side (J t u : List Row) (w : List Waiting) (sent : List ℕ) (s : State) : Type 0 where
  -- t is a part of the joint set, and what waits asks for its dependencies
  pub part : Part J t
  pub waits : Waits J w
  -- and came from the other unit
  pub came : (h : ℕ) → member h (waiting w) ≡ true → held u h ≡ true
  -- the session's lists keep their sizes
  pub good : GoodState s
  -- it takes changes, and asks nobody to forget
  pub writes : s.read_only ≡ false
  pub keeps : s.needs_reset ≡ false
  -- its shared heads, which are its last-sync hashes, are held by both
  pub ours : (h : ℕ) → member h s.shared_heads ≡ true → held t h ≡ true
  pub theirs : (h : ℕ) → member h s.shared_heads ≡ true → held u h ≡ true
  -- the hashes that it sent are the end's, and its own rows
  pub sent_so : (h : ℕ) → member h s.sent_hashes ≡ member h sent
  pub own : (h : ℕ) → member h s.sent_hashes ≡ true → held t h ≡ true
  -- it sent something only to a unit with heads
  pub found : (h : ℕ) → member h sent ≡ true → empty (heads u) ≡ false

-- The unit that speaks message i.
pub record Speaker (J t u : List Row) (w : List Waiting) (sent : List ℕ) (heard : Option StatedWords) (i : ℕ) (s : State) : Type 0 where
  pub side : Side J t u w sent s
  -- the other one takes changes, and nothing that this one said is on its way
  pub peer : s.peer_read_only ≡ false
  pub lands : s.in_flight ≡ false
  -- in the first exchange it has said nothing yet
  pub first : i ≤ 1 → s.have_responded ≡ false
  pub heard_so : HeardSo t u s heard

-- The unit that hears message i.
pub record Hearer (J t u : List Row) (w : List Waiting) (sent : List ℕ) (i : ℕ) (s : State) : Type 0 where
  pub side : Side J t u w sent s
  pub first : i ≡ 0 → s.have_responded ≡ false

-- a fresh session beside which nothing waits
pub side_fresh : (J t u : List Row) → Part J t → Side J t u [] [] fresh
unfolding waiting
side_fresh J t u part =
    record {
      part = part;
      waits = waits_none J;
      came = λ h m. absurd (member_none h m);
      good = fresh_good;
      writes = refl;
      keeps = refl;
      ours = λ h m. absurd (member_none h m);
      theirs = λ h m. absurd (member_none h m);
      sent_so = λ h. refl;
      own = λ h m. absurd (member_none h m);
      found = λ h m. absurd (member_none h m);
    }

-- ---- heads

-- a list that isn't empty has a member
pub some_member : (l : List ℕ) → empty l ≡ false → (h : ℕ) × (member h l ≡ true)
some_member [] e = absurd (true_false true refl e)
some_member (h ∷ l) e = (h, member_here h l)

-- a table with a row has a head
pub row_heads : (t : List Row) → GoodTable t → (h : ℕ) → held t h ≡ true → empty (heads t) ≡ false
row_heads t good h e =
    split (empty (heads t))
    (λ n. absurd (heads_cover t good (λ x. ⊥) (λ x m. member_none x (subst (λ l. member x l ≡ true) (none_in (heads t) n) m)) (λ x g k p d. p) h e))
    (λ n. n)
  where
    none_in : (l : List ℕ) → empty l ≡ true → l ≡ []
    none_in [] n = refl
    none_in (x ∷ l) n = absurd (true_false true refl (sym n))

-- heads stay where a table grows
pub heads_stay : (t t' : List Row) → GoodTable t → GoodTable t' → ((h : ℕ) → held t h ≡ true → held t' h ≡ true) → empty (heads t) ≡ false
    → empty (heads t') ≡ false
heads_stay t t' good good' more e =
    let x = some_member (heads t) e in row_heads t' good' x.0 (more x.0 (head_held t good x.0 x.1))

module _ (J t u : List Row) (partT : Part J t) (partU : Part J u) where
  -- two parts of the joint set that have all of it between them and the same heads both hold it
  pub heads_apart : ((h : ℕ) → held J h ≡ true → (held t h || held u h) ≡ true) → (holds_all J u && holds_all J t) ≡ false → heads u ≡ heads t → ⊥
  heads_apart cover lacks e =
      let inT : (h : ℕ) → held u h ≡ true → held t h ≡ true =
      heads_all J u t partU partT (λ h m. head_held t partT.good h (subst (λ l. member h l ≡ true) e m))
      in
      let inU : (h : ℕ) → held t h ≡ true → held u h ≡ true =
      heads_all J t u partT partU (λ h m. head_held u partU.good h (subst (λ l. member h l ≡ true) (sym e) m))
      in
      true_false (holds_all J u && holds_all J t)
      (and_true (holds_all J u) (holds_all J t)
      (each_holds J u (λ h k. either (held t h) (held u h) (cover h k) (inU h) (λ x. x)))
      (each_holds J t (λ h k. either (held t h) (held u h) (cover h k) (λ x. x) (inT h))))
      lacks

  -- a head of a grown table that was held before was a head before
  pub old_head : ((h : ℕ) → held t h ≡ true → held u h ≡ true) → (h : ℕ) → member h (heads u) ≡ true → held t h ≡ true → member h (heads t) ≡ true
  old_head more h m k =
      heads_cover t partT.good (λ x. x ≡ h → member h (heads t) ≡ true)
      (λ x n e. subst (λ y. member y (heads t) ≡ true) e n)
      (λ x g n p d e.
      absurd (true_false (member h (deps u x))
      (partU.same x h (more x n) ∙ sym (partT.same x h n) ∙ subst (λ y. member y (deps t x) ≡ true) e d)
      (head_last u partU.good h x m)))
      h k refl

-- ---- loading puts rows at a table's end

take_append : (b x : List Row) → take (length b) (b ++ x) ≡ b
take_append [] x = refl
take_append (r ∷ b) x = ap (λ (l : List Row). r ∷ l) (take_append b x)

pub settles_grown : {b b' : List Row} {w w' : List Waiting} → Settles b w b' w' → (x : List Row) × (b' ≡ b ++ x)
settles_grown (done {b} f) = ([], sym (append-nil b))
settles_grown (step {b} m s) =
    let x = settles_grown s in
    let r : List Row = record { hash = m.hash; deps = m.numbers } ∷ [] in
    (r ++ x.0, x.1 ∙ ap (λ (l : List Row). l ++ x.0) m.grown ∙ append_assoc b r x.0)

pub take_before : {b b' : List Row} {w w' : List Waiting} → Settles b w b' w' → take (length b) b' ≡ b
take_before {b} s = let x = settles_grown s in ap (take (length b)) x.1 ∙ take_append b x.0
