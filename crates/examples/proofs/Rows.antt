-- P11 and P12: what is beyond b by computation, once the four hashes are known to be apart; S row by row, by its equation. Assumes nothing.
use Prim.Native.Nat.{ℕ, zero, suc, ◌<◌}
use mathlib.Core.Bool.{Bool, true, false, not, ◌&&◌, ◌||◌}
use mathlib.Core.List.{List, [], ◌∷◌}
use mathlib.Core.Path.{◌≡◌, refl, ap, ◌∙◌}
use native.Mathlib.Omega.{arith}
use borrow.Author.Tests.{eqb-true, eq-eqb}
use lib.Dec.{eqb}
use Rattle.bloom.specs.Have.{Have}
use Rattle.table_graph.specs.Graph.{needed, heads, below_row, beyond}
use Rattle.send_members.proofs.MemberLaws.{s_equation}
use Rattle.send_members.specs.Internal.Members.{filters, candidate, in_the_s, the_s, some_of}
use Rattle.hash_order.proofs.KeepLaws.{once_first, once_tail}
use Rattle.hash_order.proofs.OrderLaws.{member_here, member_there, member_none}
use Rattle.hash_order.specs.Order.{member, keep, insert_once, ascend, Once}
use Rattle.hash_order.specs.Reach.{some_below, reach_in, reach}
use Rattle.bloom_probe.specs.Contains.{any_contains}
use Rattle.rules.proofs.Cases.{split, either, true_false}
use Rattle.send.specs.ToSend.{to_send}
use Rattle.table.specs.Table.{rows, hash_of, deps_of, held, rows_from, rows_where}
use Rattle.walk.proofs.Example.{only}
use Rattle.examples.specs.Examples.{four, OnlyMissed}

-- a number that stands behind one that is there once isn't that one
behind : (x y : ℕ) (l : List ℕ) → Once (x ∷ l) → member y l ≡ true → (eqb x y ≡ false) × (eqb y x ≡ false)
behind x y l o m =
    let out = once_first x l o in (
      split (eqb x y) (λ e. absurd (true_false (member x l) (rw (eqb-true x y e) m) out)) (λ e. e),
      split (eqb y x) (λ e. absurd (true_false (member x l) (rw (eqb-true y x e) at m) out)) (λ e. e),
    )

-- dependencies stand before their row
four_down : (a b c d i k : ℕ) → i < 4 → member k (deps_of (four a b c d) i) ≡ true → k < i
unfolding deps_of member
four_down a b c d zero k h m = absurd (member_none k m)
four_down a b c d (suc zero) k h m = omega (arith, only 0 k m)
four_down a b c d (suc (suc zero)) k h m = omega (arith, only 0 k m)
four_down a b c d (suc (suc (suc zero))) k h m =
    either (eqb k 1) (member k (2 ∷ [])) m (λ e. omega (arith, eqb-true k 1 e)) (λ n. omega (arith, only 2 k n))
four_down a b c d (suc (suc (suc (suc i)))) k h m = absurd (omega arith)

-- nothing is below no hashes
none_below : (a b c d i : ℕ) → below_row (four a b c d) [] i ≡ false
unfolding below_row reach reach_in some_below member
none_below a b c d i = refl

module _ (a b c d : ℕ) (o : Once (a ∷ b ∷ c ∷ d ∷ [])) where
  pub beyond_b : beyond (four a b c d) (b ∷ []) ≡ c ∷ d ∷ []
  unfolding beyond rows_where rows_from below_row reach reach_in some_below member hash_of rows deps_of
  beyond_b =
      let p = once_tail a (b ∷ c ∷ d ∷ []) o in
      let ab = (behind a b (b ∷ c ∷ d ∷ []) o (member_here b (c ∷ d ∷ []))).0 in
      let cb = (behind b c (c ∷ d ∷ []) p (member_here c (d ∷ []))).1 in
      let db = (behind b d (c ∷ d ∷ []) p (member_there d c (d ∷ []) (member_here d []))).1 in
      rw (ab, eq-eqb b b refl, cb, db)

  pub head_d : heads (four a b c d) ≡ d ∷ []
  unfolding heads needed rows_where rows_from some_below member deps_of ascend insert_once
  head_d = refl

  held_c : held (four a b c d) c ≡ true
  unfolding held rows
  held_c = member_there c a (b ∷ c ∷ d ∷ []) (member_there c b (c ∷ d ∷ []) (member_here c (d ∷ [])))

  held_d : held (four a b c d) d ≡ true
  unfolding held rows
  held_d = member_there d a (b ∷ c ∷ d ∷ []) (member_there d b (c ∷ d ∷ []) (member_there d c (d ∷ []) (member_here d [])))

  pub needs_alone : to_send (four a b c d) [] (c ∷ c ∷ []) ≡ c ∷ c ∷ []
  unfolding to_send keep
  needs_alone = rw held_c

  c_outside : member c (b ∷ d ∷ []) ≡ false
  unfolding member
  c_outside =
      let p = once_tail a (b ∷ c ∷ d ∷ []) o in
      let cb = (behind b c (c ∷ d ∷ []) p (member_here c (d ∷ []))).1 in
      let cd = (behind c d (d ∷ []) (once_tail b (c ∷ d ∷ []) p) (member_here d [])).0 in
      rw (cb, cd)

  d_inside : member d (b ∷ d ∷ []) ≡ true
  d_inside = member_there d b (d ∷ []) (member_here d [])

  module _ (v : Have) (vs : List Have) (missed : OnlyMissed (v ∷ vs) a b c d) where
    all_candidates : (i : ℕ) → candidate (four a b c d) (v ∷ vs) i ≡ true
    unfolding candidate
    all_candidates i = rw (missed.no_sync, none_below a b c d i)

    equation : (i : ℕ) → i < 4
        → in_the_s (four a b c d) (v ∷ vs) i
        ≡ (some_of (in_the_s (four a b c d) (v ∷ vs)) (deps_of (four a b c d) i) || not (any_contains (filters (v ∷ vs)) (hash_of (four a b c d) i)))
    equation i h =
        s_equation (four a b c d) (v ∷ vs) (four_down a b c d) i h
        ∙ ap
        (λ (x : Bool). x && (some_of (in_the_s (four a b c d) (v ∷ vs)) (deps_of (four a b c d) i) || not (any_contains (filters (v ∷ vs)) (hash_of (four a b c d) i))))
        (all_candidates i)

    not_a : in_the_s (four a b c d) (v ∷ vs) 0 ≡ false
    unfolding deps_of hash_of rows some_of
    not_a = equation 0 (omega arith) ∙ rw missed.a_there

    is_b : in_the_s (four a b c d) (v ∷ vs) 1 ≡ true
    unfolding deps_of hash_of rows some_of
    is_b = equation 1 (omega arith) ∙ rw (not_a, missed.b_missed)

    not_c : in_the_s (four a b c d) (v ∷ vs) 2 ≡ false
    unfolding deps_of hash_of rows some_of
    not_c = equation 2 (omega arith) ∙ rw (not_a, missed.c_there)

    is_d : in_the_s (four a b c d) (v ∷ vs) 3 ≡ true
    unfolding deps_of hash_of rows some_of
    is_d = equation 3 (omega arith) ∙ rw is_b

    b_and_d : the_s (four a b c d) (v ∷ vs) ≡ b ∷ d ∷ []
    unfolding the_s rows_where rows_from
    b_and_d = rw (not_a, is_b, not_c, is_d)

    pub need_c : to_send (four a b c d) (v ∷ vs) (c ∷ []) ≡ c ∷ b ∷ d ∷ []
    unfolding to_send keep
    need_c = rw (b_and_d, held_c, c_outside)

    pub need_d : to_send (four a b c d) (v ∷ vs) (d ∷ []) ≡ b ∷ d ∷ []
    unfolding to_send keep
    need_d = rw (b_and_d, held_d, d_inside)

    pub need_c_twice : to_send (four a b c d) (v ∷ vs) (c ∷ c ∷ []) ≡ c ∷ c ∷ b ∷ d ∷ []
    unfolding to_send keep
    need_c_twice = rw (b_and_d, held_c, c_outside)
