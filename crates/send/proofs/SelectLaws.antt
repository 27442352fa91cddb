-- What the hashes to send are, and what is left of them when those that were sent before are taken off: by hash and for any good table, so that
-- callers open neither to_send nor to_send_less.
use Prim.Native.Nat.{ℕ, ◌+◌, ◌≤◌}
use mathlib.Core.Bool.{Bool, true, false, not, ◌||◌, ◌&&◌}
use mathlib.Core.List.{List, [], ◌∷◌, ◌++◌}
use mathlib.Core.Path.{◌≡◌, refl, sym, ◌∙◌}
use native.Mathlib.Omega.{arith}
use borrow.Author.Tests.{not-true}
use lib.ListN.{length, length-append}
use Rattle.bloom.specs.Have.{Have}
use Rattle.table_graph.specs.Graph.{below}
use Rattle.send_members.proofs.SLaws.{s_held, s_once, s_empty, s_few}
use Rattle.send_members.specs.Internal.Members.{last_syncs, filters, the_s}
use Rattle.hash_order.proofs.KeepLaws.{keep_all, keep_member, keep_most, every_one, once_keep, once_append, hashes_inside}
use Rattle.hash_order.proofs.OrderLaws.{member_append}
use Rattle.hash_order.specs.Order.{member, keep, Once}
use Rattle.bloom_probe.specs.Contains.{any_contains}
use Rattle.rules.proofs.Cases.{both, either, or_left, or_right, and_true}
use Rattle.rules.specs.Hash.{AreHashes}
use Rattle.rules.specs.Sizes.{sizes}
use Rattle.table.specs.Table.{Row, GoodTable, rows, held}
use Rattle.send.specs.ToSend.{to_send, to_send_less}

-- ---- the order

-- with no have: the held needs; otherwise the held needs outside S, then S
pub send_none : (t : List Row) (need : List ℕ) → to_send t [] need ≡ keep (held t) need
unfolding to_send
send_none t need = refl

pub send_order : (t : List Row) (h : Have) (hs : List Have) (need : List ℕ)
    → to_send t (h ∷ hs) need ≡ keep (λ x. held t x && not (member x (the_s t (h ∷ hs)))) need ++ the_s t (h ∷ hs)
unfolding to_send
send_order t h hs need = refl

-- ---- what is sent

module _ (t : List Row) (good : GoodTable t) where
  or_held : (a b c : Bool) → ((a && not c) && b || c) ≡ ((a && b) || c)
  or_held true b true = sym (or_right b true refl)
  or_held true b false = refl
  or_held false b c = refl

  -- what is named is a held need or in S, and back
  pub named_none : (need : List ℕ) (h : ℕ) → member h (to_send t [] need) ≡ (held t h && member h need)
  named_none need h = rw send_none (keep_member (held t) need h)

  module _ (x : Have) (xs : List Have) (need : List ℕ) where
    abbrev s : List ℕ
    s = the_s t (x ∷ xs)

    pub named : (h : ℕ) → member h (to_send t (x ∷ xs) need) ≡ ((held t h && member h need) || member h s)
    named h =
        rw (send_order t x xs need, member_append h (keep (λ y. held t y && not (member y s)) need) s, keep_member (λ y. held t y && not (member y s)) need h)
        (or_held (held t h) (member h need) (member h s))

    pub s_named : (h : ℕ) → member h s ≡ true → member h (to_send t (x ∷ xs) need) ≡ true
    s_named h m = named h ∙ or_right (held t h && member h need) (member h s) m

  -- held needs are named
  pub need_named : (haves : List Have) (need : List ℕ) (h : ℕ) → held t h ≡ true → member h need ≡ true → member h (to_send t haves need) ≡ true
  need_named [] need h e m = named_none need h ∙ and_true _ _ e m
  need_named (x ∷ xs) need h e m = named x xs need h ∙ or_left (held t h && member h need) (member h (the_s t (x ∷ xs))) (and_true _ _ e m)

  -- each hash that is sent is a row
  pub sent_held : (haves : List Have) (need : List ℕ) (h : ℕ) → member h (to_send t haves need) ≡ true → held t h ≡ true
  sent_held [] need h m = (both (held t h) (member h need) (sym (named_none need h) ∙ m)).0
  sent_held (x ∷ xs) need h m =
      either (held t h && member h need) (member h (the_s t (x ∷ xs))) (sym (named x xs need h) ∙ m)
      (λ e. (both (held t h) (member h need) e).0)
      (λ e. s_held t good (x ∷ xs) h e)

  -- each once where needs are
  pub sent_once : (haves : List Have) (need : List ℕ) → Once need → Once (to_send t haves need)
  sent_once [] need e = rw send_none (once_keep (held t) need e)
  sent_once (x ∷ xs) need e =
      let s : List ℕ = the_s t (x ∷ xs) in
      let p : ℕ → Bool = λ y. held t y && not (member y s) in
      rw send_order
      (once_append (keep p need) s (once_keep p need e) (s_once t good (x ∷ xs))
      (λ h m. not-true (member h s) (both (held t h) (not (member h s)) (both (p h) (member h need) (sym (keep_member p need h) ∙ m)).0).1))

  -- empty where nothing is needed and every candidate is in some filter
  pub sent_empty : (haves : List Have)
      → ((h : ℕ) → held t h ≡ true → below t (last_syncs haves) h ≡ false → any_contains (filters haves) h ≡ true)
      → to_send t haves [] ≡ []
  unfolding to_send keep
  sent_empty [] f = refl
  sent_empty (x ∷ xs) f = s_empty t good (x ∷ xs) f

-- ---- how many they are, and that they are hashes

-- no more than the needs and the rows together
pub send_few_lem : (t : List Row) (haves : List Have) (need : List ℕ) → length (to_send t haves need) ≤ length need + length t
send_few_lem t [] need = rw send_none (omega (arith, keep_most (held t) need))
send_few_lem t (x ∷ xs) need =
    rw (send_order, length-append) (omega (arith, keep_most (λ y. held t y && not (member y (the_s t (x ∷ xs)))) need, s_few t (x ∷ xs)))

-- needs and rows within their limits are no more hashes than may be sent at once
fit : (a b c most : ℕ) → a ≤ b + c → b ≤ sizes.hashes → c ≤ sizes.rows → sizes.hashes + sizes.rows ≤ most → a ≤ most
fit a b c most h k l m = omega arith

pub sent_most : (t : List Row) (haves : List Have) (need : List ℕ) → length t ≤ sizes.rows → length need ≤ sizes.hashes
    → length (to_send t haves need) ≤ sizes.hashes_to_send
sent_most t haves need h k = fit _ _ _ _ (send_few_lem t haves need) k h (omega arith)

pub send_hashes : (t : List Row) → GoodTable t → (haves : List Have) (need : List ℕ) → AreHashes (rows t) → AreHashes (to_send t haves need)
unfolding held
send_hashes t good haves need a = hashes_inside (to_send t haves need) (rows t) a (λ h m. sent_held t good haves need h m)

-- ---- less those that were sent before

-- nothing is taken off where none was
pub less_none : (t : List Row) (haves : List Have) (need : List ℕ) → to_send_less t haves need [] ≡ to_send t haves need
unfolding to_send_less member
less_none t haves need = keep_all (λ h. not (member h [])) (to_send t haves need) (every_one (λ h. not (member h [])) (to_send t haves need) (λ h m. refl))

module _ (t : List Row) (haves : List Have) (need sent : List ℕ) where
  pub less_named : (h : ℕ) → member h (to_send_less t haves need sent) ≡ (not (member h sent) && member h (to_send t haves need))
  unfolding to_send_less
  less_named h = keep_member (λ x. not (member x sent)) (to_send t haves need) h

  pub less_new : (h : ℕ) → member h (to_send_less t haves need sent) ≡ true → member h sent ≡ false
  less_new h m = not-true (member h sent) (both (not (member h sent)) (member h (to_send t haves need)) (sym (less_named h) ∙ m)).0

  pub less_sent : (h : ℕ) → member h (to_send_less t haves need sent) ≡ true → member h (to_send t haves need) ≡ true
  less_sent h m = (both (not (member h sent)) (member h (to_send t haves need)) (sym (less_named h) ∙ m)).1

  pub less_most : length (to_send_less t haves need sent) ≤ length (to_send t haves need)
  unfolding to_send_less
  less_most = keep_most (λ x. not (member x sent)) (to_send t haves need)

  pub less_few : length (to_send_less t haves need sent) ≤ length need + length t
  less_few = omega (arith, less_most, send_few_lem t haves need)

  module _ (good : GoodTable t) where
    pub less_held : (h : ℕ) → member h (to_send_less t haves need sent) ≡ true → held t h ≡ true
    less_held h m = sent_held t good haves need h (less_sent h m)

    -- each once where needs are
    pub less_once : Once need → Once (to_send_less t haves need sent)
    unfolding to_send_less
    less_once e = once_keep (λ x. not (member x sent)) (to_send t haves need) (sent_once t good haves need e)

    pub less_hashes : AreHashes (rows t) → AreHashes (to_send_less t haves need sent)
    unfolding held
    less_hashes a = hashes_inside (to_send_less t haves need sent) (rows t) a (λ h m. less_held h m)
